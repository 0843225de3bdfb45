-- Fronts of a text of events: where the whole text breaks no rule, no front of it does.
use Rattle.std.proofs.Common.{◌≡◌, ℕ, ◌+◌, ◌≤◌, Bool, true, false, List, [], ◌∷◌, ◌++◌, length}
use Rattle.std.proofs.Common.{take, Option, Some, None, refl, sym, ◌∙◌, ap, arith, append_assoc}
use Rattle.std.proofs.Common.{append-nil, slice_get, nat_eq, length-append, ⊎_elim}
use Rattle.std.proofs.Math.Nat.{eq-or-lt_of_le}
use Rattle.std.proofs.lemmas.Bool.{eqb-true, eqb-false}
use Rattle.std.specs.Prelude.{if◌then◌else◌}
use Rattle.std.proofs.lemmas.Option.{slice_get_read}
use Rattle.std.proofs.Math.Seq.{get_or-append_seam, take-append_seam}
use Rattle.first_fault.specs.First.{count, total}
use Rattle.text_events.specs.Note.{Event}
use Rattle.text_events.specs.Note.{Note}
use Rattle.text_events.specs.Walk.{add}
use Rattle.text_rules.specs.declared.rule.BlockRule.{BlockRule as Rule}
use Rattle.text_rules.specs.declared.rule.BlockRule.TheVariants as rule
use Rattle.text_rules.specs.Blocks.{counts_for, operand_of, is_owner, too_many_operands}
use Rattle.text_rules.specs.Links.{statements_note}
use Rattle.text_soundness.specs.Fine.{Text, known_of, broken_at, IsFineText}

-- these events begin those
pub record Begin (front whole : List Event) : Type 0 where
  pub more : List Event
  pub same : whole ≡ front ++ more

pub begin_all : (es : List Event) → Begin es es
begin_all es = record { more = []; same = sym (append-nil es) }

pub begin_then : (a b c : List Event) → Begin a b → Begin b c → Begin a c
begin_then a b c x y = record { more = x.more ++ y.more; same = y.same ∙ ap (λ es. es ++ y.more) x.same ∙ append_assoc a x.more y.more }

pub begin_add : (a b : List Event) (line : ℕ) (note : Note) → Begin a b → Begin a (add line note b)
begin_add a b line note x = begin_then a b (add line note b) x (record { more = record { line = line; note = note } ∷ []; same = refl })

-- amounts of a front

pub total_append : {A : Type 0} (amount : A → ℕ) (xs ys : List A) → total amount (xs ++ ys) ≡ total amount xs + total amount ys
total_append amount [] ys = omega arith
total_append amount (x ∷ xs) ys = rw (total_append amount xs ys) (omega arith)

pub begin_total : (amount : Event → ℕ) (a b : List Event) → Begin a b → total amount a ≤ total amount b
begin_total amount a b x = omega (arith, ap (total amount) x.same, total_append amount a x.more)

abbrev pub statement_in : Event → ℕ
statement_in e = statements_note e.note

-- how many statements begin or end
abbrev pub statements_in : List Event → ℕ
statements_in es = total statement_in es

-- no event of a front breaks a rule
pub record Sound (text : Text) (es : List Event) : Type 0 where
  pub each : (before after : List Event) (e : Event) (r : Rule) → es ≡ before ++ e ∷ after → broken_at r (known_of text before) e ≡ false

pub sound_front : (text : Text) (a b : List Event) → Begin a b → Sound text b → Sound text a
sound_front text a b x s = record {
  each = λ before after e r is. s.each before (after ++ x.more) e r
      (x.same ∙ ap (λ es. es ++ x.more) is ∙ append_assoc before (e ∷ after) x.more);
}

-- the event that was put last
pub sound_last : (text : Text) (out : List Event) (line : ℕ) (note : Note) (r : Rule) → Sound text (add line note out)
    → broken_at r (known_of text out) (record { line = line; note = note }) ≡ false
sound_last text out line note r s = s.each out [] (record { line = line; note = note }) r refl

pub sound_whole : (text : Text) → IsFineText text → Sound text text.whole
sound_whole text f = record {
  each = λ before after e r is.
      let at : slice_get (before ++ e ∷ after) (length before)
      ≡ Some e = slice_get_read (before ++ e ∷ after) (length (before ++ e ∷ after)) (length before) e refl
      (omega (arith, length-append before (e ∷ after))) (sym (get_or-append_seam before e after e)) in
      let front : take (length before) text.whole ≡ before = ap (take (length before)) is ∙ take-append_seam before (e ∷ after) in
      ap (λ es. broken_at r (known_of text es) e) (sym front) ∙ f.each (length before) e r (ap (λ es. slice_get es (length before)) is ∙ at);
}

-- numbers, names and fields

pub count_append : {A : Type 0} (test : A → Bool) (xs ys : List A) → count test (xs ++ ys) ≡ count test xs + count test ys
count_append test [] ys = omega arith
count_append test (x ∷ xs) ys = rw (count_append test xs ys) (omega arith)

below_limit : (n : ℕ) → n ≤ 64 → nat_eq n 64 ≡ false → n + 1 ≤ 64
below_limit n few other = ⊎_elim (λ same. absurd (eqb-false n 64 other same)) (λ less. omega (arith, less)) (eq-or-lt_of_le few)

-- at most 64 are of one statement
few_more : (text : Text) (o : ℕ) (before after : List Event) → Sound text (before ++ after)
    → count (counts_for o) before ≤ 64 → count (counts_for o) (before ++ after) ≤ 64
few_more text o before [] s few = rw (append-nil before) few
few_more text o before (e ∷ after) s few =
    let regroup : before ++ e ∷ after ≡ (before ++ e ∷ []) ++ after = sym (append_assoc before (e ∷ []) after) in
    let one : count (counts_for o) (before ++ e ∷ [])
    ≤ 64 = rw (count_append (counts_for o) before (e ∷ []))
    (step (operand_of e.note) (s.each before after e rule.Operands refl)) in
    rw regroup (few_more text o (before ++ e ∷ []) after (rw (← regroup) s) one)
  where
    counted : (p : ℕ) (b : Bool) → nat_eq o p ≡ b → nat_eq (count (counts_for p) before) 64 ≡ false
        → count (counts_for o) before + ((if b then 1 else 0) + 0) ≤ 64
    counted p true is h = omega (arith, below_limit (count (counts_for o) before) few (ap (λ q. nat_eq (count (counts_for q) before) 64) (eqb-true o p is) ∙ h))
    counted p false is h = omega (arith, few)

    step : (w : Option ℕ) → too_many_operands (known_of text before) w ≡ false → count (counts_for o) before + ((if is_owner o w then 1 else 0) + 0) ≤ 64
    step (Some p) h = counted p (nat_eq o p) refl h
    step None h = omega (arith, few)

pub few_operands : (text : Text) (o : ℕ) (es : List Event) → Sound text es → count (counts_for o) es ≤ 64
few_operands text o es s = few_more text o [] es s (omega arith)
