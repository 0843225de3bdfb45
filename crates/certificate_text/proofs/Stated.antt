-- A text read from its front, line by line.
use Rattle.std.proofs.Common.{◌≡◌, ◌≢◌, ℕ, ◌+◌, ◌-◌, ◌<◌, ◌≤◌, ◌↔◌, Bool, true, false, IsTrue, List}
use Rattle.std.proofs.Common.{[], ◌∷◌, ◌++◌, length, map, take, refl, sym, ap, subst, ◌∙◌, arith}
use Rattle.std.proofs.Common.{append_assoc, length-append, ◌⊎◌, inl, inr}
use Rattle.std.specs.List.{AllByRecursion, flat_map}
use Rattle.std.proofs.lemmas.Bool.{true≢false}
use Rattle.std.proofs.lemmas.List.{map-append}
use Rattle.std.proofs.lemmas.List.Elements.{All-nil, All-push, recursion_from_All}
use Rattle.flow_points.specs.declared.fact.Fact.{Fact}
use Rattle.certificate_text.specs.declared.certificate.Certificate.{Certificate}
use Rattle.certificate_text.specs.declared.certificate.Shape.{Shape}
use Rattle.certificate_text.specs.declared.version.Version.{Version}
use Rattle.certificate_text.specs.declared.version.Version.TheVariants.{One, Two}
use Rattle.certificate_text.specs.Lines.{BeginText, HasBadLine, IsTextOf, whole}
use Rattle.certificate_text.specs.Parts.{Begun, IsFactAt, IsShapeAt, IsVersionAt}
use Rattle.certificate_text.specs.Text.{CanTell, CertificateFits, FactFits, FactNumbers}
use Rattle.certificate_text.specs.Text.{certificate_lines, fact_line, last_line, shape_line}
use Rattle.certificate_text.specs.Text.{text_in, version_line}
use Rattle.certificate_text.proofs.Facts.{Good, NoFact, all_good, fact_line_once, fact_no_last}
use Rattle.certificate_text.proofs.Heads.{HasNo-version, NoShape, version_line_once}
use Rattle.certificate_text.proofs.LineEnds.{HasNo-fact, HasNo-last, HasNo-shape}
use Rattle.certificate_text.proofs.Orders.{Rise, rise_nil, rise_up_to}
use Rattle.certificate_text.proofs.Texts.{first_in_front, no_line, some_line}
use Rattle.text_lines.proofs.Texts.{ended_once, lines_in-ended, text-lines}
use Rattle.text_lines.specs.Lines.{lines_in, ended}
use Rattle.text_lines.proofs.Taken.{before_here, up_to_here}

abbrev pub certificate : Shape → List Fact → Certificate
certificate s facts = record { shape = s; facts = facts }

-- the lines of a certificate up to the last
abbrev pub front : Version → Shape → List Fact → List (List ℕ)
front v s facts = map ended (version_line v ∷ shape_line v s ∷ map fact_line facts)

-- what stands behind them
abbrev pub closing : List (List ℕ)
closing = ended last_line ∷ [] ∷ []

pub whole-front : (v : Version) (s : Shape) (facts : List Fact) → whole (certificate_lines v (certificate s facts)) ≡ front v s facts ++ closing
whole-front v s facts =
    ap (λ (ls : List (List ℕ)). ended (version_line v) ∷ ended (shape_line v s) ∷ ls)
    (ap (λ (ls : List (List ℕ)). ls ++ [] ∷ []) (map-append ended (map fact_line facts) (last_line ∷ []))
    ∙ append_assoc (map ended (map fact_line facts)) (ended last_line ∷ []) ([] ∷ []))

pub tails : {a b : List ℕ} {xs ys : List (List ℕ)} → a ∷ xs ≡ b ∷ ys → (a ≡ b) × (xs ≡ ys)
tails {a} {b} {xs} {ys} e =
    let first : a ≡ b = cc in
    let rest : xs ≡ ys = cc in
    (first, rest)

pub good_facts : (c : Certificate) → CertificateFits c → AllByRecursion Good c.facts
good_facts c fits = all_good c.facts (recursion_from_All FactFits c.facts fits.facts) (recursion_from_All FactNumbers c.facts fits.numbers)

-- what may follow the lines of facts: the line of one fact more, or the last line with nothing
-- behind it

Next : List Fact → List Fact → List ℕ → List (List ℕ) → Type 0
Next facts others piece more =
    ((f : Fact) × (rest : List Fact) × (others ≡ facts ++ f ∷ rest) × Good f × (piece ≡ ended (fact_line f))) ⊎ ((piece ≡ ended last_line) × (more ≡ [] ∷ []))

shifted : (f g : Fact) (facts others : List Fact) (piece : List ℕ) (more : List (List ℕ)) → f ≡ g
    → Next facts others piece more → Next (f ∷ facts) (g ∷ others) piece more
unfolding Next
shifted f g facts others piece more same (inl (a, rest, so, good, is)) = inl
    (a, rest, ap (λ (h : Fact). h ∷ others) (sym same) ∙ ap (λ (l : List Fact). f ∷ l) so, good, is)
shifted f g facts others piece more same (inr last) = inr last

next : (facts others : List Fact) (piece : List ℕ) (more : List (List ℕ)) → AllByRecursion Good facts
    → AllByRecursion Good others → map ended (map fact_line facts) ++ piece ∷ more ≡ map ended (map fact_line others)
    ++ closing → Next facts others piece more
unfolding Next
next [] [] piece more h k e = inr (tails e)
next [] (g ∷ others) piece more h k e = inl (g, others, refl, k.0, (tails e).0)
next (f ∷ facts) [] piece more h k e = absurd (fact_no_last f (tails e).0)
next (f ∷ facts) (g ∷ others) piece more h k e =
    shifted f g facts others piece more (fact_line_once f g h.0 k.0 (tails e).0) (next facts others piece more h.1 k.1 (tails e).1)

next_line : (v : Version) (s : Shape) (facts : List Fact) (piece : List ℕ) (more : List (List ℕ))
    → AllByRecursion Good facts → (b : BeginText (front v s facts ++ piece ∷ more))
    → Next facts b.certificate.facts piece (more ++ b.rest)
next_line v s facts piece more good b =
    let so : front v s facts ++ (piece ∷ more ++ b.rest) ≡ front b.version b.certificate.shape b.certificate.facts ++ closing =
    sym (append_assoc (front v s facts) (piece ∷ more) b.rest) ∙ b.so ∙ whole-front b.version b.certificate.shape b.certificate.facts in
    next facts b.certificate.facts piece (more ++ b.rest) good (good_facts b.certificate b.fits) (tails (tails so).1).1

-- the first line at fault

-- a line with which the lines before it begin no certificate
bad_at : (text : List ℕ) (lines : List (List ℕ)) (piece : List ℕ) (pieces : List (List ℕ)) (number : ℕ)
    → lines_in text ≡ lines ++ piece ∷ pieces → number ≡ length lines → BeginText lines
    → (BeginText (lines ++ piece ∷ []) → ⊥) → HasBadLine text (number + 1)
bad_at text lines piece pieces number so counted begins none =
    let less : number + 1 - 1 ≡ number = omega arith in
    record {
      before = subst BeginText (sym (ap (λ (k : ℕ). take k (lines_in text)) less ∙ before_here text lines (piece ∷ pieces) number so counted)) begins;
      here = λ b. none (subst BeginText (up_to_here text lines piece pieces number so counted) b);
    }

-- a certificate of nothing
nothing : Certificate
nothing = certificate (record { signals = 0; blocks = 0; points = 0; cells = 0; entries = 0; references = 0 }) []

nothing_fits : CertificateFits nothing
unfolding nothing
nothing_fits = record {
  shape = record { signals = omega arith; blocks = omega arith; points = omega arith; cells = omega arith; entries = omega arith; references = omega arith };
  numbers = All-nil FactNumbers;
  facts = All-nil FactFits;
  rises = rise_nil;
}

tells_nothing : (v : Version) → CanTell v nothing.shape.references
unfolding nothing
tells_nothing One = refl
tells_nothing Two = tt

pub no_first_line : (text : List ℕ) → ((v : Version) (rest : List ℕ) → IsVersionAt text v rest → ⊥) → HasBadLine text 1
no_first_line text none =
    let first = some_line text in
    bad_at text [] first.0 first.1 0 first.2 refl
    (record {
      version = Two;
      certificate = nothing;
      tells = tells_nothing Two;
      fits = nothing_fits;
      rest = whole (certificate_lines Two nothing);
      so = refl;
    })
    (λ b. none b.version (flat_map (λ part. part) first.1)
    (record {
      so = first_in_front text first.0 first.1 first.2
          ∙ ap (λ (l : List ℕ). l ++ flat_map (λ part. part) first.1) (tails b.so).0;
    }))

pub no_second_line : (text rest : List ℕ) (v : Version) → IsVersionAt text v rest → NoShape v rest → HasBadLine text 2
unfolding nothing
no_second_line text rest v is none =
    let first = some_line rest in
    let so : lines_in text ≡ ended (version_line v) ∷ first.0 ∷ first.1 = ap lines_in is.so
    ∙ lines_in-ended (version_line v) rest (HasNo-version v)
    ∙ ap (λ (ls : List (List ℕ)). ended (version_line v) ∷ ls) first.2 in
    bad_at text (ended (version_line v) ∷ []) first.0 first.1 1 so refl
    (record {
      version = v;
      certificate = nothing;
      tells = tells_nothing v;
      fits = nothing_fits;
      rest = ended (shape_line v nothing.shape) ∷ closing;
      so = refl;
    })
    (λ b. told first.0 first.1 (first_in_front rest first.0 first.1 first.2) b)
  where
    told : (piece : List ℕ) (pieces : List (List ℕ)) → rest ≡ piece ++ flat_map (λ part. part) pieces → BeginText (ended (version_line v) ∷ piece ∷ []) → ⊥
    told piece pieces stands b =
        let cut = tails b.so in
        let same : v ≡ b.version = version_line_once v b.version (ended_once (version_line v) (version_line b.version) cut.0) in
        let line : piece ≡ ended (shape_line b.version b.certificate.shape) = (tails cut.1).0 in
        none b.certificate.shape (flat_map (λ part. part) pieces) (record {
          numbers = b.fits.shape;
          tells = subst (λ w. CanTell w b.certificate.shape.references) (sym same) b.tells;
          so = stands ∙ ap (λ (l : List ℕ). l ++ flat_map (λ part. part) pieces) (line ∙ ap (λ w. ended (shape_line w b.certificate.shape)) (sym same));
        })

pub two_lines : (text r1 rest : List ℕ) (v : Version) (s : Shape) → IsVersionAt text v r1 → IsShapeAt v r1 s rest → Begun v s text rest
two_lines text r1 rest v s first second = record {
  numbers = second.numbers;
  tells = second.tells;
  so = first.so ∙ ap (λ (r : List ℕ). ended (version_line v) ++ r) second.so;
}

-- so far the text is the front of that of a certificate, of so many lines
pub record Read (v : Version) (s : Shape) (text rest : List ℕ) (facts : List Fact) (number : ℕ) : Type 0 where
  pub tells : CanTell v s.references
  pub fits : CertificateFits (certificate s facts)
  pub so : lines_in text ≡ front v s facts ++ lines_in rest
  pub counted : number ≡ length (front v s facts)
  pub room : number + length rest ≤ length text

pub read_begin : (v : Version) (s : Shape) (text rest : List ℕ) (facts : List Fact) → Begun v s text rest → facts ≡ [] → Read v s text rest facts 2
read_begin v s text rest facts begun none = subst (λ fs. Read v s text rest fs 2) (sym none) (record {
  tells = begun.tells;
  fits = record { shape = begun.numbers; numbers = All-nil FactNumbers; facts = All-nil FactFits; rises = rise_nil };
  so = ap lines_in begun.so ∙ lines_in-ended (version_line v) (ended (shape_line v s) ++ rest) (HasNo-version v)
      ∙ ap (λ (ls : List (List ℕ)). ended (version_line v) ∷ ls)
      (lines_in-ended (shape_line v s) rest (HasNo-shape v s begun.numbers));
  counted = refl;
  room = omega (
    arith,
    ap length begun.so,
    length-append (ended (version_line v)) (ended (shape_line v s) ++ rest),
    length-append (ended (shape_line v s)) rest,
    length-append (version_line v) (10 ∷ []),
    length-append
        (shape_line v s) (10 ∷ []),
  );
})

-- the line of a fact leaves less
pub line_shorter : (rest after : List ℕ) (f : Fact) → IsFactAt rest f after → length after < length rest
line_shorter rest after f is = omega (arith, ap length is.so, length-append (ended (fact_line f)) after, length-append (fact_line f) (10 ∷ []))

lines_after : (rest after : List ℕ) (f : Fact) → IsFactAt rest f after → lines_in rest ≡ ended (fact_line f) ∷ lines_in after
lines_after rest after f is = ap lines_in is.so ∙ lines_in-ended (fact_line f) after (HasNo-fact f (record { fits = is.fits; numbers = is.numbers }))

front_more : (v : Version) (s : Shape) (facts : List Fact) (f : Fact) → front v s (facts ++ f ∷ []) ≡ front v s facts ++ ended (fact_line f) ∷ []
front_more v s facts f =
    ap (λ (ls : List (List ℕ)). ended (version_line v) ∷ ended (shape_line v s) ∷ ls)
    (ap (map ended) (map-append fact_line facts (f ∷ []))
    ∙ map-append ended (map fact_line facts) (fact_line f ∷ []))

more_read : (v : Version) (s : Shape) (text rest after : List ℕ) (facts : List Fact) (f : Fact) (number : ℕ)
    → Read v s text rest facts number → IsFactAt rest f after → Rise (facts ++ f ∷ [])
    → Read v s text after (facts ++ f ∷ []) (number + 1)
more_read v s text rest after facts f number r is rise =
    let line = ended (fact_line f) in
    let longer = front_more v s facts f in
    record {
      tells = r.tells;
      fits = record {
        shape = r.fits.shape;
        numbers = All-push FactNumbers facts f r.fits.numbers is.numbers;
        facts = All-push FactFits facts f r.fits.facts is.fits;
        rises = rise;
      };
      so = r.so ∙ ap (λ (ls : List (List ℕ)). front v s facts ++ ls) (lines_after rest after f is)
          ∙ sym (append_assoc (front v s facts) (line ∷ []) (lines_in after))
          ∙ ap (λ (ls : List (List ℕ)). ls ++ lines_in after) (sym longer);
      counted = omega (arith, r.counted, ap length longer, length-append (front v s facts) (line ∷ []));
      room = omega (arith, r.room, line_shorter rest after f is);
    }

pub read_more : (v : Version) (s : Shape) (text rest after : List ℕ) (facts seen new : List Fact) (f : Fact)
    (number : ℕ) (rises : Bool) → Read v s text rest facts number → IsFactAt rest f after → seen ≡ facts
    → (IsTrue rises ↔ Rise (seen ++ f ∷ [])) → rises ≡ true → new ≡ facts ++ f ∷ []
    → Read v s text after new (number + 1)
read_more v s text rest after facts seen new f number rises r is same tells up pushed =
    subst (λ fs. Read v s text after fs (number + 1)) (sym pushed)
    (more_read v s text rest after facts f number r is (subst (λ fs. Rise (fs ++ f ∷ [])) same (tells.0 up)))

front_begins : (v : Version) (s : Shape) (facts : List Fact) → CanTell v s.references → CertificateFits (certificate s facts) → BeginText (front v s facts)
front_begins v s facts tells fits = record {
  version = v;
  certificate = certificate s facts;
  tells = tells;
  fits = fits;
  rest = closing;
  so = sym (whole-front v s facts);
}

fall_told : (facts others : List Fact) (f : Fact) (more : List (List ℕ)) → Good f → Rise others
    → (Rise (facts ++ f ∷ []) → ⊥) → Next facts others (ended (fact_line f)) more → ⊥
unfolding Next
fall_told facts others f more good rise falls (inl (g, rest, so, fine, is)) =
    let same : g ≡ f = sym (fact_line_once f g good fine is) in
    falls (subst (λ h. Rise (facts ++ h ∷ [])) same (rise_up_to facts others rest g so rise))
fall_told facts others f more good rise falls (inr (is, none)) = fact_no_last f is

-- the line of a fact that is not above the facts before it
pub read_fall : (v : Version) (s : Shape) (text rest after : List ℕ) (facts seen : List Fact) (f : Fact) (number : ℕ)
    (rises : Bool) → Read v s text rest facts number → IsFactAt rest f after → seen ≡ facts
    → (IsTrue rises ↔ Rise (seen ++ f ∷ [])) → rises ≡ false → HasBadLine text (number + 1)
read_fall v s text rest after facts seen f number rises r is same tells no_more =
    let falls : Rise (facts ++ f ∷ []) → ⊥ = λ up. true≢false (sym (tells.1 (subst (λ fs. Rise (fs ++ f ∷ [])) (sym same) up)) ∙ no_more) in
    let good : Good f = record { fits = is.fits; numbers = is.numbers } in
    bad_at text (front v s facts) (ended (fact_line f)) (lines_in after) number
    (r.so ∙ ap (λ (ls : List (List ℕ)). front v s facts ++ ls) (lines_after rest after f is)) r.counted
    (front_begins v s facts r.tells r.fits)
    (λ b. fall_told facts b.certificate.facts f ([] ++ b.rest) good b.fits.rises falls
    (next_line v s facts (ended (fact_line f)) [] (good_facts (certificate s facts) r.fits) b))

strange_told : (rest : List ℕ) (facts others : List Fact) (piece : List ℕ) (pieces more : List (List ℕ))
    → rest ≡ piece ++ flat_map (λ part. part) pieces → NoFact rest
    → ((after : List ℕ) → rest ≢ ended last_line ++ after) → Next facts others piece more → ⊥
unfolding Next
strange_told rest facts others piece pieces more stands none other (inl (g, behind, so, good, is)) =
    none g (flat_map (λ part. part) pieces) (record {
      fits = good.fits;
      numbers = good.numbers;
      so = stands ∙ ap (λ (l : List ℕ). l ++ flat_map (λ part. part) pieces) is;
    })
strange_told rest facts others piece pieces more stands none other (inr (is, end)) =
    other (flat_map (λ part. part) pieces) (stands ∙ ap (λ (l : List ℕ). l ++ flat_map (λ part. part) pieces) is)

-- a line that is no fact's and not the last
pub read_strange : (v : Version) (s : Shape) (text rest : List ℕ) (facts : List Fact) (number : ℕ)
    → Read v s text rest facts number → NoFact rest → ((after : List ℕ) → rest ≢ ended last_line ++ after)
    → HasBadLine text (number + 1)
read_strange v s text rest facts number r none other =
    let first = some_line rest in
    bad_at text (front v s facts) first.0 first.1 number
    (r.so ∙ ap (λ (ls : List (List ℕ)). front v s facts ++ ls) first.2) r.counted
    (front_begins v s facts r.tells r.fits)
    (λ b. strange_told rest facts b.certificate.facts first.0 first.1 ([] ++ b.rest)
    (first_in_front rest first.0 first.1 first.2) none other
    (next_line v s facts first.0 [] (good_facts (certificate s facts) r.fits) b))

last_lines : (rest after : List ℕ) → rest ≡ ended last_line ++ after → lines_in rest ≡ ended last_line ∷ lines_in after
last_lines rest after is = ap lines_in is ∙ lines_in-ended last_line after HasNo-last

-- the last line, with nothing behind it
pub read_last : (v : Version) (s : Shape) (text rest after : List ℕ) (facts : List Fact) (number : ℕ)
    → Read v s text rest facts number → rest ≡ ended last_line ++ after → after ≡ []
    → IsTextOf text (certificate s facts)
unfolding lines_in text_in
read_last v s text rest after facts number r is none =
    let end : lines_in rest ≡ closing = last_lines rest after is ∙ ap (λ (t : List ℕ). ended last_line ∷ lines_in t) none in
    record {
      version = v;
      tells = r.tells;
      fits = r.fits;
      so = text-lines text (certificate_lines v (certificate s facts))
          (r.so ∙ ap (λ (ls : List (List ℕ)). front v s facts ++ ls) end ∙ sym (whole-front v s facts));
    }

past_told : (facts others : List Fact) (piece : List ℕ) (rest : List (List ℕ)) → Next facts others (ended last_line) (piece ∷ rest) → piece ≡ []
unfolding Next
past_told facts others piece rest (inl (g, behind, so, good, is)) = absurd (fact_no_last g (sym is))
past_told facts others piece rest (inr (is, end)) = (tails end).0

-- bytes behind the last line
pub read_past : (v : Version) (s : Shape) (text rest after : List ℕ) (facts : List Fact) (number : ℕ)
    → Read v s text rest facts number → rest ≡ ended last_line ++ after → after ≢ [] → HasBadLine text (number + 2)
read_past v s text rest after facts number r is some =
    let behind = some_line after in
    let lines = front v s facts ++ ended last_line ∷ [] in
    let so : lines_in text ≡ lines ++ behind.0 ∷ behind.1 =
    r.so ∙ ap (λ (ls : List (List ℕ)). front v s facts ++ ls)
    (last_lines rest after is ∙ ap (λ (ls : List (List ℕ)). ended last_line ∷ ls) behind.2)
    ∙ sym (append_assoc (front v s facts) (ended last_line ∷ []) (behind.0 ∷ behind.1)) in
    let counted : number + 1 ≡ length lines = omega (arith, length-append (front v s facts) (ended last_line ∷ []), r.counted) in
    let sum : number + 1 + 1 ≡ number + 2 = omega arith in
    subst (HasBadLine text) sum (bad_at text lines behind.0 behind.1 (number + 1) so counted (record {
      version = v;
      certificate = certificate s facts;
      tells = r.tells;
      fits = r.fits;
      rest = [] ∷ [];
      so = append_assoc (front v s facts) (ended last_line ∷ []) ([] ∷ []) ∙ sym (whole-front v s facts);
    }) (λ b. some (told behind.0 behind.1 behind.2 b)))
  where
    told : (piece : List ℕ) (pieces : List (List ℕ)) → lines_in after ≡ piece ∷ pieces
        → BeginText ((front v s facts ++ ended last_line ∷ []) ++ piece ∷ []) → after ≡ []
    told piece pieces lines b =
        let longer : BeginText (front v s facts ++ ended last_line ∷ piece ∷ []) = subst BeginText
        (append_assoc (front v s facts) (ended last_line ∷ []) (piece ∷ [])) b in
        let empty : piece ≡ [] = past_told facts longer.certificate.facts piece longer.rest
        (next_line v s facts (ended last_line) (piece ∷ []) (good_facts (certificate s facts) r.fits) longer) in
        no_line after pieces (lines ∙ ap (λ (l : List ℕ). l ∷ pieces) empty)
