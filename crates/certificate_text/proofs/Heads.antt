-- The first line and the second, part by part.
use Rattle.std.proofs.Common.{◌≡◌, ◌≢◌, ℕ, List, [], ◌∷◌, ◌++◌, codes, decimal, refl, sym, ap}
use Rattle.std.proofs.Common.{subst, ◌∙◌, arith, append_assoc}
use Rattle.std.proofs.lemmas.List.{append_cancel_left}
use Rattle.certificate_text.specs.declared.certificate.Shape.{Shape}
use Rattle.certificate_text.specs.declared.version.Version.{Version}
use Rattle.certificate_text.specs.declared.version.Version.TheVariants.{One, Two}
use Rattle.certificate_text.specs.Parts.{AreLast, IsNumbered, IsShapeAt, IsVersionAt}
use Rattle.certificate_text.specs.Text.{reference_words, shape_line, version_line}
use Rattle.certificate_text.proofs.Numbers.{NoNumber, none_here, numbered_once, numbered_same}
use Rattle.text_lines.specs.Lines.{ended}
use Rattle.text_lines.specs.Parts.{HasNo}

-- versions

pub no_version : (text : List ℕ) → ((rest : List ℕ) → text ≢ codes "PLEX CERTIFICATE 2\n" ++ rest)
    → ((rest : List ℕ) → text ≢ codes "PLEX CERTIFICATE 1\n" ++ rest) → (v : Version) (rest : List ℕ)
    → IsVersionAt text v rest → ⊥
no_version text second first One rest is = first rest is.so
no_version text second first Two rest is = second rest is.so

digits_apart : (a b : ℕ) → (a ≡ b → ⊥) → codes "PLEX CERTIFICATE " ++ a ∷ [] ≡ codes "PLEX CERTIFICATE " ++ b ∷ [] → ⊥
digits_apart a b other e =
    let last : a ∷ [] ≡ b ∷ [] = append_cancel_left (codes "PLEX CERTIFICATE ") (a ∷ []) (b ∷ []) e in
    let same : a ≡ b = cc in
    other same

pub version_line_once : (v w : Version) → version_line v ≡ version_line w → v ≡ w
version_line_once One One e = refl
version_line_once One Two e = absurd (digits_apart 49 50 (λ e. omega (arith, e)) e)
version_line_once Two One e = absurd (digits_apart 50 49 (λ e. omega (arith, e)) e)
version_line_once Two Two e = refl

pub HasNo-version : (v : Version) → HasNo 10 (version_line v)
unfolding HasNo
HasNo-version One = refl
HasNo-version Two = refl

-- the end of the line of a shape

pub no_references : (v : Version) (text rest : List ℕ) (e : ℕ) → v ≡ Two → IsNumbered (codes "entries ") e 32 text rest
    → NoNumber (codes "references ") 10 rest → (entries references : ℕ) (after : List ℕ)
    → AreLast v text entries references after → ⊥
no_references One text rest e two first none entries references after is = cc
no_references Two text rest e two first none entries references after is =
    let on = codes "references " ++ (decimal references ++ 10 ∷ after) in
    let same = numbered_once (codes "entries ") text rest on e entries 32 (omega arith) first (record { number = is.entries_number; so = is.so }) in
    none references after (record { number = is.references_number; so = same.1 })

last_once : (v : Version) (text : List ℕ) (e r f q : ℕ) (rest other : List ℕ) → AreLast v text e r rest
    → AreLast v text f q other → (e ≡ f) × (r ≡ q) × (rest ≡ other)
last_once One text e r f q rest other a b =
    let none : r ≡ 0 = a.tells in
    let too : q ≡ 0 = b.tells in
    let same = numbered_once (codes "entries ") text rest other e f 10 (omega arith)
    (record { number = a.entries_number; so = a.so }) (record { number = b.entries_number; so = b.so }) in
    (same.0, none ∙ sym too, same.1)
last_once Two text e r f q rest other a b =
    let on = codes "references " ++ (decimal r ++ 10 ∷ rest) in
    let there = codes "references " ++ (decimal q ++ 10 ∷ other) in
    let same = numbered_once (codes "entries ") text on there e f 32 (omega arith)
    (record { number = a.entries_number; so = a.so }) (record { number = b.entries_number; so = b.so }) in
    let last = numbered_same (codes "references ") on there rest other r q 10 (omega arith) same.1
    (record { number = a.references_number; so = refl }) (record { number = b.references_number; so = refl }) in
    (same.0, last.0, last.1)

-- what stands at each part of the line of a shape

entries_on : Version → Shape → List ℕ → List ℕ
entries_on v s rest = codes "entries " ++ (decimal s.entries ++ (reference_words v s.references ++ 10 ∷ rest))

cells_on : Version → Shape → List ℕ → List ℕ
cells_on v s rest = codes "cells " ++ (decimal s.cells ++ 32 ∷ entries_on v s rest)

points_on : Version → Shape → List ℕ → List ℕ
points_on v s rest = codes "points " ++ (decimal s.points ++ 32 ∷ cells_on v s rest)

blocks_on : Version → Shape → List ℕ → List ℕ
blocks_on v s rest = codes "blocks " ++ (decimal s.blocks ++ 32 ∷ points_on v s rest)

signals_on : Version → Shape → List ℕ → List ℕ
signals_on v s rest = codes "EXCHANGE signals " ++ (decimal s.signals ++ 32 ∷ blocks_on v s rest)

regroup : (l1 a l2 b l3 c l4 d l5 e r rest : List ℕ)
    → (l1 ++ a ++ l2 ++ b ++ l3 ++ c ++ l4 ++ d ++ l5 ++ e ++ r) ++ rest ≡ l1
    ++ (a ++ (l2 ++ (b ++ (l3 ++ (c ++ (l4 ++ (d ++ (l5 ++ (e ++ (r ++ rest))))))))))
regroup l1 a l2 b l3 c l4 d l5 e r rest = simp append_assoc

shape_parts : (v : Version) (s : Shape) (rest : List ℕ) → ended (shape_line v s) ++ rest ≡ signals_on v s rest
unfolding shape_line signals_on blocks_on points_on cells_on entries_on
shape_parts v s rest =
    append_assoc (shape_line v s) (10 ∷ []) rest
    ∙ regroup (codes "EXCHANGE signals ") (decimal s.signals) (codes " blocks ") (decimal s.blocks) (codes " points ")
    (decimal s.points) (codes " cells ") (decimal s.cells) (codes " entries ") (decimal s.entries)
    (reference_words v s.references) (10 ∷ rest)

signals_there : (v : Version) (text rest : List ℕ) (s : Shape) → IsShapeAt v text s rest
    → IsNumbered (codes "EXCHANGE signals ") s.signals 32 text (blocks_on v s rest)
unfolding signals_on
signals_there v text rest s is = record { number = is.numbers.signals; so = is.so ∙ shape_parts v s rest }

blocks_there : (v : Version) (text rest : List ℕ) (s : Shape) → IsShapeAt v text s rest
    → IsNumbered (codes "blocks ") s.blocks 32 (blocks_on v s rest) (points_on v s rest)
unfolding blocks_on
blocks_there v text rest s is = record { number = is.numbers.blocks; so = refl }

points_there : (v : Version) (text rest : List ℕ) (s : Shape) → IsShapeAt v text s rest
    → IsNumbered (codes "points ") s.points 32 (points_on v s rest) (cells_on v s rest)
unfolding points_on
points_there v text rest s is = record { number = is.numbers.points; so = refl }

cells_there : (v : Version) (text rest : List ℕ) (s : Shape) → IsShapeAt v text s rest
    → IsNumbered (codes "cells ") s.cells 32 (cells_on v s rest) (entries_on v s rest)
unfolding cells_on
cells_there v text rest s is = record { number = is.numbers.cells; so = refl }

last_there : (v : Version) (text rest : List ℕ) (s : Shape) → IsShapeAt v text s rest → AreLast v (entries_on v s rest) s.entries s.references rest
unfolding entries_on
last_there v text rest s is = record { entries_number = is.numbers.entries; references_number = is.numbers.references; tells = is.tells; so = refl }

-- the first parts of a line as they are read: signals, blocks, points and cells, and what follows
-- each
pub record Reads1 (text r1 : List ℕ) (n1 : ℕ) : Type 0 where
  pub signals : IsNumbered (codes "EXCHANGE signals ") n1 32 text r1

pub record Reads2 (text r1 r2 : List ℕ) (n1 n2 : ℕ) : Type 0 where
  pub before : Reads1 text r1 n1
  pub blocks : IsNumbered (codes "blocks ") n2 32 r1 r2

pub record Reads3 (text r1 r2 r3 : List ℕ) (n1 n2 n3 : ℕ) : Type 0 where
  pub before : Reads2 text r1 r2 n1 n2
  pub points : IsNumbered (codes "points ") n3 32 r2 r3

pub record Reads4 (text r1 r2 r3 r4 : List ℕ) (n1 n2 n3 n4 : ℕ) : Type 0 where
  pub before : Reads3 text r1 r2 r3 n1 n2 n3
  pub cells : IsNumbered (codes "cells ") n4 32 r3 r4

-- they are those of the shape that stands there
same1 : (v : Version) (text r1 : List ℕ) (n1 : ℕ) → Reads1 text r1 n1 → (s : Shape) (rest : List ℕ)
    → IsShapeAt v text s rest → (n1 ≡ s.signals) × (r1 ≡ blocks_on v s rest)
same1 v text r1 n1 reads s rest is = numbered_once (codes "EXCHANGE signals ") text r1 (blocks_on v s rest) n1 s.signals
    32 (omega arith) reads.signals (signals_there v text rest s is)

same2 : (v : Version) (text r1 r2 : List ℕ) (n1 n2 : ℕ) → Reads2 text r1 r2 n1 n2 → (s : Shape) (rest : List ℕ)
    → IsShapeAt v text s rest → (n2 ≡ s.blocks) × (r2 ≡ points_on v s rest)
same2 v text r1 r2 n1 n2 reads s rest is = numbered_same (codes "blocks ") r1 (blocks_on v s rest) r2
    (points_on v s rest) n2 s.blocks 32 (omega arith) (same1 v text r1 n1 reads.before s rest is).1 reads.blocks
    (blocks_there v text rest s is)

same3 : (v : Version) (text r1 r2 r3 : List ℕ) (n1 n2 n3 : ℕ) → Reads3 text r1 r2 r3 n1 n2 n3
    → (s : Shape) (rest : List ℕ) → IsShapeAt v text s rest → (n3 ≡ s.points) × (r3 ≡ cells_on v s rest)
same3 v text r1 r2 r3 n1 n2 n3 reads s rest is = numbered_same (codes "points ") r2 (points_on v s rest) r3
    (cells_on v s rest) n3 s.points 32 (omega arith) (same2 v text r1 r2 n1 n2 reads.before s rest is).1 reads.points
    (points_there v text rest s is)

same4 : (v : Version) (text r1 r2 r3 r4 : List ℕ) (n1 n2 n3 n4 : ℕ) → Reads4 text r1 r2 r3 r4 n1 n2 n3 n4
    → (s : Shape) (rest : List ℕ) → IsShapeAt v text s rest → (n4 ≡ s.cells) × (r4 ≡ entries_on v s rest)
same4 v text r1 r2 r3 r4 n1 n2 n3 n4 reads s rest is = numbered_same (codes "cells ") r3 (cells_on v s rest) r4
    (entries_on v s rest) n4 s.cells 32 (omega arith) (same3 v text r1 r2 r3 n1 n2 n3 reads.before s rest is).1
    reads.cells (cells_there v text rest s is)

abbrev pub NoShape : Version → List ℕ → Type 0
NoShape v text = (s : Shape) (rest : List ℕ) → IsShapeAt v text s rest → ⊥

pub no_signals : (v : Version) (text : List ℕ) → NoNumber (codes "EXCHANGE signals ") 32 text → NoShape v text
no_signals v text none s rest is = none s.signals (blocks_on v s rest) (signals_there v text rest s is)

pub no_blocks : (v : Version) (text r1 : List ℕ) (n1 : ℕ) → Reads1 text r1 n1 → NoNumber (codes "blocks ") 32 r1 → NoShape v text
no_blocks v text r1 n1 reads none s rest is = none_here (codes "blocks ") r1 (blocks_on v s rest) (points_on v s rest)
    s.blocks 32 (same1 v text r1 n1 reads s rest is).1 none (blocks_there v text rest s is)

pub no_points : (v : Version) (text r1 r2 : List ℕ) (n1 n2 : ℕ) → Reads2 text r1 r2 n1 n2 → NoNumber (codes "points ") 32 r2 → NoShape v text
no_points v text r1 r2 n1 n2 reads none s rest is = none_here (codes "points ") r2 (points_on v s rest)
    (cells_on v s rest) s.points 32 (same2 v text r1 r2 n1 n2 reads s rest is).1 none (points_there v text rest s is)

pub no_cells : (v : Version) (text r1 r2 r3 : List ℕ) (n1 n2 n3 : ℕ) → Reads3 text r1 r2 r3 n1 n2 n3 → NoNumber (codes "cells ") 32 r3 → NoShape v text
no_cells v text r1 r2 r3 n1 n2 n3 reads none s rest is = none_here (codes "cells ") r3 (cells_on v s rest)
    (entries_on v s rest) s.cells 32 (same3 v text r1 r2 r3 n1 n2 n3 reads s rest is).1 none
    (cells_there v text rest s is)

pub no_last : (v : Version) (text r1 r2 r3 r4 : List ℕ) (n1 n2 n3 n4 : ℕ) → Reads4 text r1 r2 r3 r4 n1 n2 n3 n4
    → ((e r : ℕ) (rest : List ℕ) → AreLast v r4 e r rest → ⊥) → NoShape v text
no_last v text r1 r2 r3 r4 n1 n2 n3 n4 reads none s rest is =
    none s.entries s.references rest (subst (λ t. AreLast v t s.entries s.references rest)
    (sym (same4 v text r1 r2 r3 r4 n1 n2 n3 n4 reads s rest is).1) (last_there v text rest s is))

pub shape_read : (v : Version) (text r1 r2 r3 r4 rest : List ℕ) (s : Shape)
    → Reads4 text r1 r2 r3 r4 s.signals s.blocks s.points s.cells → AreLast v r4 s.entries s.references rest
    → IsShapeAt v text s rest
unfolding signals_on blocks_on points_on cells_on entries_on
shape_read v text r1 r2 r3 r4 rest s reads last =
    let third = reads.before in
    let second = third.before in
    let first = second.before in
    record {
      numbers = record {
        signals = first.signals.number;
        blocks = second.blocks.number;
        points = third.points.number;
        cells = reads.cells.number;
        entries = last.entries_number;
        references = last.references_number;
      };
      tells = last.tells;
      so = first.signals.so
          ∙ ap (λ (t : List ℕ). codes "EXCHANGE signals " ++ (decimal s.signals ++ 32 ∷ t)) (second.blocks.so
          ∙ ap (λ (t : List ℕ). codes "blocks " ++ (decimal s.blocks ++ 32 ∷ t)) (third.points.so
          ∙ ap (λ (t : List ℕ). codes "points " ++ (decimal s.points ++ 32 ∷ t)) (reads.cells.so
          ∙ ap (λ (t : List ℕ). codes "cells " ++ (decimal s.cells ++ 32 ∷ t)) last.so)))
          ∙ sym (shape_parts v s rest);
    }

-- one shape stands there
pub shape_once : (v : Version) (text : List ℕ) (s u : Shape) (rest other : List ℕ) → IsShapeAt v text s rest → IsShapeAt v text u other → s ≡ u
shape_once v text s u rest other a b =
    let first : Reads1 text (blocks_on v s rest) s.signals = record { signals = signals_there v text rest s a } in
    let second : Reads2 text (blocks_on v s rest) (points_on v s rest) s.signals s.blocks = record { before = first; blocks = blocks_there v text rest s a } in
    let third : Reads3 text (blocks_on v s rest) (points_on v s rest) (cells_on v s rest) s.signals s.blocks s.points =
    record { before = second; points = points_there v text rest s a } in
    let fourth : Reads4 text (blocks_on v s rest) (points_on v s rest) (cells_on v s rest) (entries_on v s rest)
    s.signals s.blocks s.points s.cells = record { before = third; cells = cells_there v text rest s a } in
    let e1 : s.signals ≡ u.signals = (same1 v text (blocks_on v s rest) s.signals first u other b).0 in
    let e2 : s.blocks ≡ u.blocks = (same2 v text (blocks_on v s rest) (points_on v s rest) s.signals s.blocks second u other b).0 in
    let e3 : s.points ≡ u.points = (same3 v text (blocks_on v s rest) (points_on v s rest) (cells_on v s rest) s.signals s.blocks s.points third u other b).0 in
    let there = same4 v text (blocks_on v s rest) (points_on v s rest) (cells_on v s rest) (entries_on v s rest)
    s.signals s.blocks s.points s.cells fourth u other b in
    let e4 : s.cells ≡ u.cells = there.0 in
    let last = last_once v (entries_on v s rest) s.entries s.references u.entries u.references rest other
    (last_there v text rest s a) (subst (λ t. AreLast v t u.entries u.references other) (sym there.1)
    (last_there v text other u b)) in
    let e5 : s.entries ≡ u.entries = last.0 in
    let e6 : s.references ≡ u.references = last.1 in
    (λ i. record { signals = e1 i; blocks = e2 i; points = e3 i; cells = e4 i; entries = e5 i; references = e6 i })
