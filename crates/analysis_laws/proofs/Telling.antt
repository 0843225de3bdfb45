-- One text of an analysis.
use Rattle.std.proofs.Common.{◌≡◌, ℕ, ◌<◌, List, [], ◌++◌, length, map, sym, ap, ◌∙◌, subst, codes}
use Rattle.std.specs.Prelude.{slice_index_or}
use Rattle.std.specs.List.{concat}
use Rattle.std.proofs.lemmas.List.{ext_get_or}
use Rattle.std.proofs.lemmas.Option.{same_Some}
use Rattle.exchange_model.specs.declared.exchange.Exchange.{Exchange}
use Rattle.entry_summary.specs.declared.summary.Summary.{Summary}
use Rattle.pair_tests.specs.declared.pair.Test.{Test}
use Rattle.pair_tests.specs.contracts.pair.TestOrd.TheImpl.Laws as test_laws
use Rattle.pair_tests.specs.Orders.{test_order}
use Rattle.pair_tests.proofs.Conflicting.{first_is_one}
use Rattle.analysis_text.specs.declared.names.Names.{Names}
use Rattle.analysis_text.specs.Analysis.{IsAnalysis}
use Rattle.analysis_text.specs.Lines.{entries_text, if_line, never_line, text_of, written}
use Rattle.analysis_text.specs.Names.{names_of}
use Rattle.analysis_text.specs.Pairs.{AreTests, InTurn, IsPairText, IsTextOfFirst, IsTextWith}
use Rattle.analysis_text.specs.Pairs.{never, tested}
use Rattle.analysis_laws.proofs.Rising.{rising_once, same_sides}

-- texts of which each is told in one way stand in turn in one way
turn_once : (P : ℕ → List ℕ → Type 0) (n : ℕ) (t u : List ℕ) → ((k : ℕ) (a b : List ℕ) → P k a → P k b → a ≡ b) → InTurn P n t → InTurn P n u → t ≡ u
turn_once P n t u once one other =
    let parts : one.parts ≡ other.parts = ext_get_or [] one.parts other.parts (one.count ∙ sym other.count) (λ k lt.
    once k (slice_index_or one.parts k []) (slice_index_or other.parts k [])
    (one.each k (subst (λ m. k < m) one.count lt))
    (other.each k (subst (λ m. k < m) one.count lt))) in
    one.is ∙ ap concat parts ∙ sym other.is

pub tests_once : (first later : Summary) (a b : List Test) → AreTests first later a → AreTests first later b → a ≡ b
tests_once first later a b one other = rising_once test_order test_laws.total-law a b one.rising other.rising (λ t. same_sides (one.exact t) (other.exact t))

pair_once : (names : Names) (i j : ℕ) (first later : Summary) (t u : List ℕ) → IsPairText names i j first later t → IsPairText names i j first later u → t ≡ u
pair_once names i j first later _ _ (never c p) (never d q) = ap (λ k. written (never_line names i j k)) (first_is_one first later c d p q)
pair_once names i j first later _ _ (never c p) (tested tests none are) = absurd (none c p.conflict)
pair_once names i j first later _ _ (tested tests none are) (never c p) = absurd (none c p.conflict)
pair_once names i j first later _ _ (tested a none are) (tested b also those) =
    ap (λ tests. text_of (map (if_line names i j) tests)) (tests_once first later a b are those)

with_once : (names : Names) (summaries : List Summary) (i : ℕ) (first : Summary) (j : ℕ) (t u : List ℕ)
    → IsTextWith names summaries i first j t → IsTextWith names summaries i first j u → t ≡ u
with_once names summaries i first j t u one other =
    let later : one.later ≡ other.later = same_Some one.later other.later (sym one.there ∙ other.there) in
    pair_once names i j first other.later t u (subst (λ l. IsPairText names i j first l t) later one.tells) other.tells

of_once : (names : Names) (summaries : List Summary) (i : ℕ) (t u : List ℕ) → IsTextOfFirst names summaries i t → IsTextOfFirst names summaries i u → t ≡ u
of_once names summaries i t u one other =
    let first : one.first ≡ other.first = same_Some one.first other.first (sym one.there ∙ other.there) in
    turn_once (IsTextWith names summaries i other.first) (length summaries) t u (with_once names summaries i other.first)
    (subst (λ f. InTurn (IsTextWith names summaries i f) (length summaries) t) first one.tells) other.tells

pub analysis_once : (x : Exchange) (summaries : List Summary) (t u : List ℕ) → IsAnalysis x summaries t → IsAnalysis x summaries u → t ≡ u
analysis_once x summaries t u one other =
    let names : Names = names_of x.blocks in
    let pairs : one.pairs ≡ other.pairs = turn_once (IsTextOfFirst names summaries) (length summaries) one.pairs
    other.pairs (of_once names summaries) one.tells other.tells in
    one.is ∙ ap (λ p. entries_text x names summaries ++ p ++ written (codes "END PAIRS")) pairs ∙ sym other.is
