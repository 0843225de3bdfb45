-- What is printed part by part.
use Rattle.std.proofs.Common.{◌≡◌, ℕ, List, [], ◌∷◌, ◌++◌, map, codes, decimal, sym, ap, ◌∙◌}
use Rattle.std.proofs.Common.{append_assoc}
use Rattle.std.specs.List.{flat_map}
use Rattle.std.proofs.lemmas.List.{map-append}
use Rattle.std.proofs.lemmas.List.Concat.{flat_map-append}
use Rattle.flow_points.specs.declared.fact.Fact.{Fact}
use Rattle.certificate_text.specs.declared.certificate.Certificate.{Certificate}
use Rattle.certificate_text.specs.declared.certificate.Shape.{Shape}
use Rattle.certificate_text.specs.declared.version.Version.TheVariants.{Two}
use Rattle.certificate_text.specs.Text.{certificate_text, fact_line, facts_text, head_text}
use Rattle.certificate_text.specs.Text.{last_line, last_text, shape_line, text_in, version_line}
use Rattle.text_lines.specs.Lines.{ended}

regroup : (t l1 a l2 b l3 c l4 d l5 e l6 r end : List ℕ)
    → ((((((t ++ (l1 ++ a)) ++ (l2 ++ b)) ++ (l3 ++ c)) ++ (l4 ++ d)) ++ (l5 ++ e)) ++ (l6 ++ r)) ++ end ≡ t
    ++ ((l1 ++ a ++ l2 ++ b ++ l3 ++ c ++ l4 ++ d ++ l5 ++ e ++ (l6 ++ r)) ++ end)
regroup t l1 a l2 b l3 c l4 d l5 e l6 r end = simp append_assoc

pub shape_written : (s : Shape) (t t1 t2 t3 t4 t5 t6 t7 : List ℕ)
    → t1 ≡ t ++ (codes "EXCHANGE signals " ++ decimal s.signals) → t2 ≡ t1 ++ (codes " blocks " ++ decimal s.blocks)
    → t3 ≡ t2 ++ (codes " points " ++ decimal s.points) → t4 ≡ t3 ++ (codes " cells " ++ decimal s.cells)
    → t5 ≡ t4 ++ (codes " entries " ++ decimal s.entries) → t6 ≡ t5 ++ (codes " references " ++ decimal s.references)
    → t7 ≡ t6 ++ codes "\n" → t7 ≡ t ++ ended (shape_line Two s)
unfolding shape_line
shape_written s t t1 t2 t3 t4 t5 t6 t7 e1 e2 e3 e4 e5 e6 e7 =
    e7 ∙ ap (λ (u : List ℕ). u ++ codes "\n") (e6
    ∙ ap (λ (u : List ℕ). u ++ (codes " references " ++ decimal s.references)) (e5
    ∙ ap (λ (u : List ℕ). u ++ (codes " entries " ++ decimal s.entries)) (e4
    ∙ ap (λ (u : List ℕ). u ++ (codes " cells " ++ decimal s.cells)) (e3
    ∙ ap (λ (u : List ℕ). u ++ (codes " points " ++ decimal s.points)) (e2
    ∙ ap (λ (u : List ℕ). u ++ (codes " blocks " ++ decimal s.blocks)) e1)))))
    ∙ regroup t (codes "EXCHANGE signals ") (decimal s.signals) (codes " blocks ") (decimal s.blocks) (codes " points ")
    (decimal s.points) (codes " cells ") (decimal s.cells) (codes " entries ") (decimal s.entries)
    (codes " references ") (decimal s.references) (codes "\n")

-- the text of a certificate is its head, the lines of its facts and its end
pub certificate_in_parts : (c : Certificate) → certificate_text c ≡ (head_text c.shape ++ facts_text c.facts) ++ last_text
unfolding text_in
certificate_in_parts c =
    let head = ended (version_line Two) in
    let shape = ended (shape_line Two c.shape) in
    let lines = facts_text c.facts in
    ap (λ (t : List ℕ). head ++ (shape ++ t)) (flat_map-append ended (map fact_line c.facts) (last_line ∷ []))
    ∙ sym (append_assoc head shape (lines ++ last_text)) ∙ sym (append_assoc (head ++ shape) lines last_text)

pub head_written : (s : Shape) (t t1 t2 : List ℕ) → t1 ≡ t ++ codes "PLEX CERTIFICATE 2\n" → t2 ≡ t1 ++ ended (shape_line Two s) → t2 ≡ t ++ head_text s
head_written s t t1 t2 first second =
    let shape = ended (shape_line Two s) in
    second ∙ ap (λ (u : List ℕ). u ++ shape) first ∙ append_assoc t (ended (version_line Two)) shape

pub certificate_written : (c : Certificate) (facts : List Fact) (t t1 t2 t3 : List ℕ) → facts ≡ c.facts → t ≡ []
    → t1 ≡ t ++ head_text c.shape → t2 ≡ t1 ++ facts_text facts → t3 ≡ t2 ++ last_text → t3 ≡ certificate_text c
certificate_written c facts t t1 t2 t3 same none first second third =
    let head = head_text c.shape in
    let begun : t1 ≡ head = first ∙ ap (λ (u : List ℕ). u ++ head) none in
    let behind : t2 ≡ head ++ facts_text c.facts = second ∙ ap (λ (fs : List Fact). t1 ++ facts_text fs) same
    ∙ ap (λ (u : List ℕ). u ++ facts_text c.facts) begun in
    third ∙ ap (λ (u : List ℕ). u ++ last_text) behind ∙ sym (certificate_in_parts c)

-- the lines of facts, and of more behind them
pub facts_append : (facts more : List Fact) → facts_text (facts ++ more) ≡ facts_text facts ++ facts_text more
facts_append facts more = ap (flat_map ended) (map-append fact_line facts more) ∙ flat_map-append ended (map fact_line facts) (map fact_line more)
