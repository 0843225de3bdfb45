-- The values at the end of a line, one after the other.
use Rattle.std.proofs.Common.{◌≡◌, ℕ, ◌+◌, ◌<◌, ◌≤◌, List, [], ◌∷◌, ◌++◌, length, Option, Some}
use Rattle.std.proofs.Common.{None, refl, sym, ap, subst, ◌∙◌, append_assoc, append-nil}
use Rattle.std.proofs.Common.{length-append, arith}
use Rattle.std.proofs.lemmas.List.{take-append-le, take_all}
use Rattle.plex_limits.specs.declared.limits.TheConstants.{MOST_VALUES}
use Rattle.plex_num.specs.Number.{number_of}
use Rattle.signal_file.specs.declared.line.LineKind.{LineKind}
use Rattle.signal_file.specs.Form.{Closing, IsTail, KeepsFirst, closing, end_or_value, ending}
use Rattle.signal_file.specs.Form.{one_more, with}

-- these values stand before the others
abbrev behind : List ℕ → Option Closing → Option Closing
behind done None = None
behind done (Some c) = Some (record { values = done ++ c.values; kind = c.kind })

-- some values have been read, and the rest is left
pub record Goes (ws rest : List (List ℕ)) (kept : List ℕ) (count : ℕ) : Type 0 where
  pub done : List ℕ
  pub keeps : KeepsFirst done kept count
  pub so : closing ws ≡ behind done (closing rest)

behind_none : (o : Option Closing) → o ≡ behind [] o
behind_none None = refl
behind_none (Some c) = refl

pub tail_begin : (ws : List (List ℕ)) → Goes ws ws [] 0
tail_begin ws = record { done = []; keeps = record { first = refl; counted = refl }; so = behind_none (closing ws) }

-- what is left, from its first word
opened : (ws rest after : List (List ℕ)) (w : List ℕ) (done : List ℕ) → closing ws ≡ behind done (closing rest)
    → rest ≡ w ∷ after → closing ws ≡ behind done (end_or_value (ending (w ∷ after)) (number_of w) (closing after))
unfolding closing
opened ws rest after w done so is = so ∙ ap (λ r. behind done (closing r)) is

more_behind : (done : List ℕ) (v : ℕ) (o : Option Closing) → behind done (with o (λ t. Some (one_more v t))) ≡ behind (done ++ v ∷ []) o
more_behind done v None = refl
more_behind done v (Some c) = ap (λ vs. Some (record { values = vs; kind = c.kind })) (sym (append_assoc done (v ∷ []) c.values))

pub tail_more : (ws rest after : List (List ℕ)) (w : List ℕ) (v count : ℕ) (kept new : List ℕ) → Goes ws rest kept count
    → rest ≡ w ∷ after → None ≡ ending (w ∷ after) → Some v ≡ number_of w
    → ((all : List ℕ) → KeepsFirst all kept count → KeepsFirst (all ++ v ∷ []) new (count + 1))
    → Goes ws after new (count + 1)
tail_more ws rest after w v count kept new g is no_end number keep = record {
  done = g.done ++ v ∷ [];
  keeps = keep g.done g.keeps;
  so =
      opened ws rest after w g.done g.so is
      ∙ ap (λ e. behind g.done (end_or_value e (number_of w) (closing after))) (sym no_end)
      ∙ ap (λ n. behind g.done (end_or_value None n (closing after))) (sym number)
      ∙ more_behind g.done v (closing after);
}

pub tail_ended : (ws rest after : List (List ℕ)) (w : List ℕ) (kind : LineKind) (count : ℕ) (kept : List ℕ)
    → Goes ws rest kept count → rest ≡ w ∷ after → Some kind ≡ ending (w ∷ after)
    → IsTail (closing ws) (record { values = kept; count = count; kind = kind })
tail_ended ws rest after w kind count kept g is end =
    let all : closing ws ≡ Some (record { values = g.done; kind = kind }) =
    opened ws rest after w g.done g.so is
    ∙ ap (λ e. behind g.done (end_or_value e (number_of w) (closing after))) (sym end)
    ∙ ap (λ vs. Some (record { values = vs; kind = kind })) (append-nil g.done) in
    subst (λ o. IsTail o (record { values = kept; count = count; kind = kind })) (sym all) (g.keeps, refl)

pub tail_strange : (ws rest after : List (List ℕ)) (w : List ℕ) (count : ℕ) (kept : List ℕ) → Goes ws rest kept count
    → rest ≡ w ∷ after → None ≡ ending (w ∷ after) → None ≡ number_of w → closing ws ≡ None
tail_strange ws rest after w count kept g is no_end no_number =
    opened ws rest after w g.done g.so is
    ∙ ap (λ e. behind g.done (end_or_value e (number_of w) (closing after))) (sym no_end)
    ∙ ap (λ n. behind g.done (end_or_value None n (closing after))) (sym no_number)

pub tail_none : (ws rest : List (List ℕ)) (count : ℕ) (kept : List ℕ) → Goes ws rest kept count → rest ≡ [] → closing ws ≡ None
unfolding closing
tail_none ws rest count kept g none = g.so ∙ ap (λ r. behind g.done (closing r)) none

-- one more value is kept where there is room
pub keep_room : (all kept : List ℕ) (count : ℕ) → KeepsFirst all kept count → count < MOST_VALUES → kept ≡ all
keep_room all kept count k room = let n = k.counted in k.first ∙ take_all MOST_VALUES all (omega (arith, n))

pub tail_room : (ws rest : List (List ℕ)) (kept : List ℕ) (count : ℕ) → Goes ws rest kept count → count < MOST_VALUES → length kept < MOST_VALUES
tail_room ws rest kept count g room = let n = g.keeps.counted in let e : length kept
    ≡ length g.done = ap length (keep_room g.done kept count g.keeps room) in omega (arith, n, e)

one_longer : (all : List ℕ) (v : ℕ) → length (all ++ v ∷ []) ≡ length all + 1
one_longer all v = length-append all (v ∷ [])

pub keep_pushed : (all kept new : List ℕ) (count v : ℕ) → count < MOST_VALUES → KeepsFirst all kept count
    → new ≡ kept ++ v ∷ [] → KeepsFirst (all ++ v ∷ []) new (count + 1)
keep_pushed all kept new count v room k pushed =
    let n = k.counted in
    let longer = one_longer all v in
    record {
      first = pushed ∙ ap (λ (l : List ℕ). l ++ v ∷ []) (keep_room all kept count k room)
          ∙ sym (take_all MOST_VALUES (all ++ v ∷ []) (omega (arith, n, longer)));
      counted = omega (arith, n, longer);
    }

pub keep_full : (all kept new : List ℕ) (count v : ℕ) → MOST_VALUES ≤ count → KeepsFirst all kept count → new ≡ kept
    → KeepsFirst (all ++ v ∷ []) new (count + 1)
keep_full all kept new count v full k same =
    let n = k.counted in
    let longer = one_longer all v in
    record { first = same ∙ k.first ∙ sym (take-append-le MOST_VALUES all (v ∷ []) (omega (arith, n))); counted = omega (arith, n, longer) }

-- for `search`
pub ruleset tail_read = (tail_begin, tail_more, tail_ended, tail_strange, tail_none, tail_room)
