-- Steps of the loop over the files that a block declares.
use Rattle.std.proofs.Common.{◌≡◌, ℕ, ◌+◌, ◌<◌, ◌≤◌, List, [], ◌++◌, length, drop, get_or, refl}
use Rattle.std.proofs.Common.{sym, ◌∙◌, ap}
use Rattle.std.proofs.lemmas.List.{drop_all, append-nil}
use Rattle.plex_num.proofs.Lists.{opens}
use Rattle.exchange_model.specs.declared.block.File.{File}
use Rattle.plex_ast.specs.declared.block.Decl.{Decl}
use Rattle.resolved_block.specs.Blocks.{files_from, kind_files}

-- the files so far, and those that are left, are all from the first number on
pub record Filed (xs : List Decl) (first i number : ℕ) (list : List File) : Type 0 where
  pub same : list ++ files_from (drop i xs) number ≡ files_from xs first

pub files_begin : (xs : List Decl) (first : ℕ) → Filed xs first 0 first []
files_begin xs first = record { same = refl }

pub files_cut : (xs : List Decl) (first i number : ℕ) (x : Decl) (list : List File) → i < length xs → x ≡ get_or xs i x
    → Filed xs first i number list → list ++ kind_files x.kind number (files_from (drop (i + 1) xs))
    ≡ files_from xs first
unfolding files_from
files_cut xs first i number x list inside is w = sym (ap (λ l. list ++ files_from l number) (opens xs i x inside is)) ∙ w.same

pub files_end : (xs : List Decl) (first i number : ℕ) (list : List File) → length xs ≤ i → Filed xs first i number list → list ≡ files_from xs first
unfolding files_from
files_end xs first i number list past w = sym (append-nil list) ∙ sym (ap (λ l. list ++ files_from l number) (drop_all i xs past)) ∙ w.same

pub ruleset files_numbered = (files_begin, files_end)
