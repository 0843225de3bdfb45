-- The function that the parser computes answers a tree exactly where the tokens spell it, and else
-- their one fault.
use Rattle.std.proofs.Common.{◌≡◌, ◌↔◌, ℕ, zero, suc, Bool, true, false, List, length, Ok, Err}
use Rattle.std.proofs.Common.{Result, refl, ap, subst}
use Rattle.plex_limits.specs.declared.limits.TheConstants.{MOST_BRACKETS, MOST_NESTED}
use Rattle.plex_lexer.specs.declared.token.Token.{Token}
use Rattle.token_grammar.specs.Reading.{Stuck}
use Rattle.token_grammar.specs.Faults.{IsUnexpected, IsTooDeep, IsEnded}
use Rattle.token_grammar.proofs.Whole.{ok_same, ok_err}
use Rattle.token_grammar.proofs.OneFault.{no_first, sentence_begun, one_first, not_both}
use Rattle.plex_ast.specs.declared.tree.Tree.{Tree}
use Rattle.plex_ast.specs.Grammar.{tree}
use Rattle.plex_parser.specs.declared.parser.ParseFault.{ParseFault}
use Rattle.plex_parser.specs.declared.parser.ParseFault.TheVariants.{Unexpected, Ended, TooDeep}
use Rattle.plex_parser.specs.declared.parser.ParseFault.TheVariants.{Memory}
use Rattle.plex_parser.specs.Parses.{tree_of, fault_of, told, parsed, Parses, Yields, Answers}
use Rattle.plex_parser.proofs.Exchange.{tree_again, tree_sound, tree_told}

pub tree_spelled : (w : List Token) (t : Tree) → tree_of w ≡ Ok t → tree true MOST_BRACKETS MOST_NESTED t w
unfolding tree_of
tree_spelled w t h = tree_sound MOST_BRACKETS MOST_NESTED t w h

pub spelled_tree : (w : List Token) (t : Tree) → tree true MOST_BRACKETS MOST_NESTED t w → tree_of w ≡ Ok t
unfolding tree_of
spelled_tree w t h = tree_again MOST_BRACKETS MOST_NESTED t w h

pub tree_one : (w : List Token) (t s : Tree) → tree_of w ≡ Ok t → tree true MOST_BRACKETS MOST_NESTED s w → t ≡ s
tree_one w t s h k = ok_same t s (tree_of w) h (spelled_tree w s k)

tree_none : (w : List Token) (e : Stuck) (s : Tree) → tree_of w ≡ Err e → tree true MOST_BRACKETS MOST_NESTED s w → ⊥
tree_none w e s h k = ok_err s e (tree_of w) (spelled_tree w s k) h

pub fault_told : (w : List Token) (left : ℕ) (deep : Bool) → tree_of w ≡ Err (record { left = left; deep = deep })
    → Parses (Err (fault_of (length w) left deep)) w
unfolding tree_of
fault_told w zero deep h = tree_told MOST_BRACKETS MOST_NESTED w _ h
fault_told w (suc n) true h = tree_told MOST_BRACKETS MOST_NESTED w _ h
fault_told w (suc n) false h = tree_told MOST_BRACKETS MOST_NESTED w _ h

pub yields_none : (w : List Token) (f : ParseFault) (e : Stuck) (s : Tree) → tree_of w ≡ Err e → tree true MOST_BRACKETS MOST_NESTED s w → Yields (Err f) s
yields_none w f e s h k = absurd (tree_none w e s h k)

pub parsed_tree : (w : List Token) (t : Tree) → tree_of w ≡ Ok t → parsed w ≡ Ok t
unfolding parsed
parsed_tree w t h = ap (told (length w)) h

pub parsed_fault : (w : List Token) (left : ℕ) (deep : Bool) → tree_of w ≡ Err (record { left = left; deep = deep })
    → parsed w ≡ Err (fault_of (length w) left deep)
unfolding parsed
parsed_fault w left deep h = ap (told (length w)) h

-- an answer that is this, for a fault of the tokens
pub answers_fault : (f : ParseFault) (answer : Result Tree ParseFault) → answer ≡ Err f → Answers (Err f) answer
answers_fault (Unexpected i) answer h = h
answers_fault Ended answer h = h
answers_fault (TooDeep i) answer h = h
answers_fault Memory answer h = tt

-- what is answered holds
holds : (w : List Token) (z : Result Tree Stuck) → tree_of w ≡ z → Parses (told (length w) z) w
holds w (Ok t) h = tree_spelled w t h
holds w (Err e) h = fault_told w e.left e.deep h

pub parsed_holds : (w : List Token) (r : Result Tree ParseFault) → parsed w ≡ r → Parses r w
unfolding parsed
parsed_holds w r h = subst (λ z. Parses z w) h (holds w (tree_of w) refl)

no_memory : (n left : ℕ) (deep : Bool) → ◌≡◌ {A = Result Tree ParseFault} (Err (fault_of n left deep)) (Err Memory) → ⊥
no_memory n zero deep h = cc
no_memory n (suc k) true h = cc
no_memory n (suc k) false h = cc

never_memory : (n : ℕ) (z : Result Tree Stuck) → told n z ≡ Err Memory → ⊥
never_memory n (Ok t) h = let k : ◌≡◌ {A = Result Tree ParseFault} (Ok t) (Err Memory) = h in cc
never_memory n (Err e) h = no_memory n e.left e.deep h

-- .. and nothing else does

pub parsed_spelled : (w : List Token) (t : Tree) → tree true MOST_BRACKETS MOST_NESTED t w → parsed w ≡ Ok t
parsed_spelled w t h = parsed_tree w t (spelled_tree w t h)

pub one_tree_of : (w : List Token) (t s : Tree) → tree true MOST_BRACKETS MOST_NESTED t w → tree true MOST_BRACKETS MOST_NESTED s w → t ≡ s
one_tree_of w t s h k = tree_one w t s (spelled_tree w t h) k

module _ (w : List Token) where
  ended : (r : Result Tree ParseFault) → parsed w ≡ r → IsEnded (tree true) MOST_BRACKETS MOST_NESTED w → r ≡ Err Ended
  unfolding parsed
  ended (Ok t) h e = absurd (e.none t (parsed_holds w (Ok t) h))
  ended (Err (Unexpected i)) h e = absurd (no_first (tree true MOST_BRACKETS MOST_NESTED) w i e.front (parsed_holds w (Err (Unexpected i)) h).first)
  ended (Err Ended) h e = refl
  ended (Err (TooDeep i)) h e = absurd (no_first (tree true MOST_BRACKETS MOST_NESTED) w i e.front (parsed_holds w (Err (TooDeep i)) h).first)
  ended (Err Memory) h e = absurd (never_memory (length w) (tree_of w) h)

  too_deep : (i : ℕ) (r : Result Tree ParseFault) → parsed w ≡ r → IsTooDeep (tree true) MOST_BRACKETS MOST_NESTED w i → r ≡ Err (TooDeep i)
  unfolding parsed
  too_deep i (Ok t) h e = absurd (no_first (tree true MOST_BRACKETS MOST_NESTED) w i
      (sentence_begun (tree true MOST_BRACKETS MOST_NESTED) w t (parsed_holds w (Ok t) h)) e.first)
  too_deep i (Err (Unexpected j)) h e = absurd (not_both (tree true) MOST_BRACKETS MOST_NESTED w j i (parsed_holds w (Err (Unexpected j)) h) e)
  too_deep i (Err Ended) h e = absurd (no_first (tree true MOST_BRACKETS MOST_NESTED) w i (parsed_holds w (Err Ended) h).front e.first)
  too_deep i (Err (TooDeep j)) h e = ap (λ k. Err (TooDeep k))
      (one_first (tree true MOST_BRACKETS MOST_NESTED) w j i (parsed_holds w (Err (TooDeep j)) h).first e.first)
  too_deep i (Err Memory) h e = absurd (never_memory (length w) (tree_of w) h)

  unexpected : (i : ℕ) (r : Result Tree ParseFault) → parsed w ≡ r → IsUnexpected (tree true) MOST_BRACKETS MOST_NESTED w i → r ≡ Err (Unexpected i)
  unfolding parsed
  unexpected i (Ok t) h e = absurd (no_first (tree true MOST_BRACKETS MOST_NESTED) w i
      (sentence_begun (tree true MOST_BRACKETS MOST_NESTED) w t (parsed_holds w (Ok t) h)) e.first)
  unexpected i (Err (Unexpected j)) h e = ap (λ k. Err (Unexpected k))
      (one_first (tree true MOST_BRACKETS MOST_NESTED) w j i (parsed_holds w (Err (Unexpected j)) h).first e.first)
  unexpected i (Err Ended) h e = absurd (no_first (tree true MOST_BRACKETS MOST_NESTED) w i (parsed_holds w (Err Ended) h).front e.first)
  unexpected i (Err (TooDeep j)) h e = absurd (not_both (tree true) MOST_BRACKETS MOST_NESTED w i j e (parsed_holds w (Err (TooDeep j)) h))
  unexpected i (Err Memory) h e = absurd (never_memory (length w) (tree_of w) h)

  pub ok_exactly : (t : Tree) → (parsed w ≡ Ok t ↔ tree true MOST_BRACKETS MOST_NESTED t w)
  ok_exactly t = (parsed_holds w (Ok t), parsed_spelled w t)

  pub ended_exactly : parsed w ≡ Err Ended ↔ IsEnded (tree true) MOST_BRACKETS MOST_NESTED w
  ended_exactly = (parsed_holds w (Err Ended), ended (parsed w) refl)

  pub too_deep_exactly : (i : ℕ) → (parsed w ≡ Err (TooDeep i) ↔ IsTooDeep (tree true) MOST_BRACKETS MOST_NESTED w i)
  too_deep_exactly i = (parsed_holds w (Err (TooDeep i)), too_deep i (parsed w) refl)

  pub unexpected_exactly : (i : ℕ) → (parsed w ≡ Err (Unexpected i) ↔ IsUnexpected (tree true) MOST_BRACKETS MOST_NESTED w i)
  unexpected_exactly i = (parsed_holds w (Err (Unexpected i)), unexpected i (parsed w) refl)
