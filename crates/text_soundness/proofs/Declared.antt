-- What a block that breaks no rule declares and may send is that of a block of an exchange.
use Rattle.std.proofs.Common.{◌≡◌, ℕ, Bool, true, false, List, [], ◌∷◌, ◌++◌, refl, arith}
use Rattle.std.proofs.Common.{slice_get}
use Rattle.std.specs.Prelude.{nat_eq, fold, if◌then◌else◌}
use Rattle.std.specs.List.{AllByRecursion, IsDistinct, list_any, filter_map}
use Rattle.std.proofs.lemmas.Cmp.{nat_eq_equiv}
use Rattle.std.proofs.lemmas.Map.Keys.{IsDistinct-push}
use Rattle.plex_ast.specs.declared.block.Block.{Block as TreeBlock}
use Rattle.exchange_model.specs.declared.signal.SignalKind.{SignalKind}
use Rattle.exchange_model.specs.Kept.{CanBeSent}
use Rattle.text_events.specs.Blocks.{decls_walk, block_head}
use Rattle.text_soundness.specs.Fine.{IsFineBlock}
use Rattle.resolved_block.specs.declared.parts.First.{First}
use Rattle.resolved_block.specs.Blocks.{sent_in, joined_once, env_of, typed_of}
use Rattle.text_soundness.specs.Blocks.{IsDeclared}
use Rattle.text_soundness.proofs.DeclaredNames.{names_are_distinct}
use Rattle.text_soundness.proofs.DeclaredBlocks.{decls_fit, surveys_sent, block_right}

-- first mentions

all_push : (P : ℕ → Type 0) (xs : List ℕ) (y : ℕ) → AllByRecursion P xs → P y → AllByRecursion P (xs ++ y ∷ [])
all_push P [] y all here = (here, tt)
all_push P (x ∷ rest) y all here = (all.0, all_push P rest y all.1 here)

joins_all : (P : ℕ → Type 0) (numbers : List ℕ) (n : ℕ) (b : Bool) → AllByRecursion P numbers → P n
    → AllByRecursion P (if b then numbers else numbers ++ n ∷ [])
joins_all P numbers n true all here = all
joins_all P numbers n false all here = all_push P numbers n all here

mentions_all : (P : ℕ → Type 0) (named numbers : List ℕ) → AllByRecursion P numbers → AllByRecursion P named → AllByRecursion P (fold joined_once numbers named)
mentions_all P [] numbers all more = all
mentions_all P (n ∷ rest) numbers all more = mentions_all P rest (joined_once numbers n) (joins_all P numbers n (list_any (nat_eq n) numbers) all more.0) more.1

joins_once : (numbers : List ℕ) (n : ℕ) (b : Bool) → list_any (nat_eq n) numbers ≡ b → IsDistinct nat_eq numbers
    → IsDistinct nat_eq (if b then numbers else numbers ++ n ∷ [])
joins_once numbers n true is once = once
joins_once numbers n false is once = IsDistinct-push nat_eq_equiv numbers n once is

mentions_once : (named numbers : List ℕ) → IsDistinct nat_eq numbers → IsDistinct nat_eq (fold joined_once numbers named)
mentions_once [] numbers once = once
mentions_once (n ∷ rest) numbers once = mentions_once rest (joined_once numbers n) (joins_once numbers n (list_any (nat_eq n) numbers) refl once)

none_once : IsDistinct nat_eq []
unfolding IsDistinct
none_once = tt

pub blocks_are_declared : (signals : List SignalKind) (blocks : List TreeBlock) (first : First) (b : TreeBlock)
    → IsFineBlock signals blocks b → IsDeclared signals (typed_of signals blocks first b).block
unfolding typed_of
blocks_are_declared signals blocks first b fine =
    let right = block_right signals blocks b fine in
    let fit = decls_fit b.decls 0 0 0 first.file signals (block_head b) (omega arith) right.decls in
    let env = env_of signals blocks first b in
    let named = filter_map (sent_in env) b.surveys in
    let sent = surveys_sent env b.surveys (decls_walk b.decls 0 0 0 (block_head b)) right.surveys in
    record {
      names = names_are_distinct signals blocks first b fine;
      variables = fit.variables;
      temporaries = omega (arith, fit.temporaries);
      files = fit.files;
      sends = mentions_all (λ n. CanBeSent (slice_get signals n)) named [] tt sent;
      sends_once = mentions_once named [] none_once;
    }
