-- The names of an exchange, put together.
use Rattle.std.proofs.Common.{◌≡◌, ℕ, List, ◌++◌, Result, Ok, Err, MatchResult, OnOk, codes, sym}
use Rattle.std.proofs.Common.{ap, ◌∙◌, subst, append_assoc}
use Rattle.std.specs.List.{flat_map}
use Rattle.exchange_model.specs.declared.block.Block.{Block}
use Rattle.pair_tests.specs.declared.pair.Test.{Test}
use Rattle.pair_tests.specs.declared.pair.Test.TheVariants as test
use Rattle.analysis_text.specs.declared.names.Names.{Names}
use Rattle.analysis_text.specs.Lines.{test_words}
use Rattle.analysis_text.specs.Names.{fields_of, files_of, name_at, names_of, variables_of}

names_same : (blocks : List Block) (v f g : List (List ℕ)) → v ≡ flat_map variables_of blocks → f ≡ flat_map fields_of blocks → g ≡ flat_map files_of blocks
    → record { variables = v; fields = f; files = g } ≡ names_of blocks
names_same blocks v f g a b c = λ i. record { variables = a i; fields = b i; files = c i }

pub names_are : (blocks items : List Block) (v f g : List (List ℕ)) → items ≡ blocks → v ≡ flat_map variables_of items
    → f ≡ flat_map fields_of items → g ≡ flat_map files_of items
    → record { variables = v; fields = f; files = g } ≡ names_of blocks
names_are blocks items v f g same a b c = names_same blocks v f g (a ∙ ap (flat_map variables_of) same)
    (b ∙ ap (flat_map fields_of) same) (c ∙ ap (flat_map files_of) same)

-- a test that names a file

pub on_ok : {X E : Type 0} (r : Result X E) (P Q R : Type 0) → (P → R) → MatchResult r (λ x. P) (λ e. Q) → OnOk r R
on_ok (Ok x) P Q R f m = f m
on_ok (Err e) P Q R f m = tt

pub holds_no_told : (names : Names) (t : Test) (file : ℕ) (text head name new : List ℕ) → t ≡ test.HoldsNo file
    → head ≡ text ++ codes "FIRST HOLDS NO " → name ≡ name_at names.files file → new ≡ head ++ name
    → new ≡ text ++ test_words names t
holds_no_told names t file text head name new is first named wrote =
    subst (λ u. new ≡ text ++ test_words names u) (sym is)
    (wrote ∙ ap (λ h. h ++ name) first ∙ ap (λ n. text ++ codes "FIRST HOLDS NO " ++ n) named
    ∙ append_assoc text (codes "FIRST HOLDS NO ") (name_at names.files file))
