-- Steps of the loop over the signals that a survey names.
use Rattle.std.proofs.Common.{◌≡◌, ℕ, ◌+◌, ◌<◌, ◌≤◌, List, [], length, drop, get_or, refl, sym, ◌∙◌}
use Rattle.std.proofs.Common.{ap}
use Rattle.std.specs.Prelude.{fold}
use Rattle.std.proofs.lemmas.List.{drop_all}
use Rattle.plex_num.proofs.Lists.{opens}
use Rattle.resolved_block.specs.Blocks.{first_mentions, joined_once}

-- the numbers so far, joined by those that are left
abbrev pub joined_by : List ℕ → List ℕ → List ℕ
joined_by numbers more = fold joined_once numbers more

pub record Mentioned (xs : List ℕ) (i : ℕ) (keys list : List ℕ) : Type 0 where
  pub keys_same : keys ≡ list
  pub same : joined_by list (drop i xs) ≡ first_mentions xs

pub mentioned_begin : (xs : List ℕ) → Mentioned xs 0 [] []
mentioned_begin xs = record { keys_same = refl; same = refl }

pub mentioned_step : (xs : List ℕ) (i : ℕ) (x : ℕ) (keys list keys_new new : List ℕ) → i < length xs → x ≡ get_or xs i x
    → keys_new ≡ new → new ≡ joined_once list x → Mentioned xs i keys list → Mentioned xs (i + 1) keys_new new
mentioned_step xs i x keys list keys_new new inside is alike more w =
    record { keys_same = alike; same = ap (λ l. joined_by l (drop (i + 1) xs)) more ∙ sym (ap (joined_by list) (opens xs i x inside is)) ∙ w.same }

pub mentioned_end : (xs : List ℕ) (i : ℕ) (keys list : List ℕ) → length xs ≤ i → Mentioned xs i keys list → list ≡ first_mentions xs
mentioned_end xs i keys list past w = sym (ap (joined_by list) (drop_all i xs past)) ∙ w.same

pub ruleset numbers_mentioned = (mentioned_begin, mentioned_step, mentioned_end)
