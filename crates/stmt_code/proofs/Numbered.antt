-- Where the numbers of files are below a number, there are no more files than that. And what a loop
-- has shown of each item.
use Rattle.std.proofs.Common.{◌≡◌, ℕ, ◌<◌, ◌≤◌, List, length, Some, take, subst, ◌∙◌, arith, ⊎_elim}
use Rattle.std.specs.Prelude.{slice_get, All}
use Rattle.std.proofs.lemmas.Bool.{cases_lt}
use Rattle.std.proofs.lemmas.List.{take_all}
use Rattle.std.proofs.lemmas.List.Elements.{recursion_from_All}
use Rattle.exchange_model.specs.declared.exchange.Exchange.{Exchange}
use Rattle.exchange_model.specs.Cells.{Placed}
use Rattle.exchange_model.specs.Kept.{IsExchange}
use Rattle.exchange_model.proofs.Places.{stands}
use Rattle.exchange_model.proofs.Facts.{file_number}
use Rattle.source_meaning.specs.Config.{files_of}
use Rattle.stmt_code.specs.Numbers.{AreBelow, IsBelow}
use Rattle.plex_num.proofs.Lists.{all_at, some_at}

number_below : (x : Exchange) (n i : ℕ) (p : Placed) → All (AreBelow n) x.blocks → slice_get (files_of x) i ≡ Some p → p.file.number < n
unfolding files_of
number_below x n i p below there =
    let s = stands x.blocks i p there in
    let own = all_at (AreBelow n) x.blocks p.block s.owner (recursion_from_All (AreBelow n) x.blocks below) s.there in
    all_at (IsBelow n) s.owner.files s.place p.file (recursion_from_All (IsBelow n) s.owner.files own) s.own

number_is : (x : Exchange) (i : ℕ) (p : Placed) → IsExchange x → slice_get (files_of x) i ≡ Some p → p.file.number ≡ i
unfolding files_of
number_is x i p kept there = file_number x kept i p there

pub few_files : (x : Exchange) (n : ℕ) → IsExchange x → All (AreBelow n) x.blocks → length (files_of x) ≤ n
few_files x n kept below =
    ⊎_elim
    (λ (lt : n < length (files_of x)).
    let p = some_at (files_of x) n lt in
    absurd (omega (arith, number_is x n p.0 kept p.1, number_below x n n p.0 below p.1)))
    (λ (le : length (files_of x) ≤ n). le)
    (cases_lt n (length (files_of x)))

-- a loop at its end has shown it of all
pub all_shown : {X : Type 0} (P : X → Type 0) (items xs : List X) (i : ℕ) → items ≡ xs → length items ≤ i → All P (take i items) → All P xs
all_shown P items xs i is le all = subst (All P) (take_all i items le ∙ is) all
