-- A run that is longer than each keyword is none.
use Rattle.std.proofs.Common.{◌≡◌, ℕ, ◌<◌, Bool, true, false, not, max, List, [], ◌∷◌, length, None}
use Rattle.std.proofs.Common.{refl, sym, ap, arith}
use Rattle.std.proofs.lemmas.Bool.{le-ltb}
use Rattle.std.specs.List.{prefix_len}
use Rattle.std.specs.Cmp.Lexicographic.{same_text}
use Rattle.name_tables.specs.Names.{keyword_names}
use Rattle.name_tables.specs.Rows.{same_bytes, place_of}
use Rattle.plex_lexer.specs.Words.{keyword_of}

-- the length of the longest of these names
longest : List (List ℕ) → ℕ
longest [] = 0
longest (name ∷ names) = max (length name) (longest names)

differs : (name run : List ℕ) (b : Bool) → length name < length run → same_bytes name run ≡ b → b ≡ false
differs name run true short e = let same : name ≡ run = same_text name run (sym e) in absurd (omega (arith, ap length same))
differs name run false short e = refl

prefix_len-longer : (names : List (List ℕ)) (run : List ℕ) → longest names < length run → prefix_len (λ x. not (same_bytes x run)) names ≡ length names
unfolding longest
prefix_len-longer [] run long = refl
prefix_len-longer (name ∷ names) run long =
    let no : same_bytes name run ≡ false = differs name run (same_bytes name run) (omega arith) refl in
    rw (no, prefix_len-longer names run (omega arith)) (omega arith)

place_of-longer : (names : List (List ℕ)) (run : List ℕ) → longest names < length run → place_of names run ≡ None
place_of-longer names run long =
    let e : prefix_len (λ x. not (same_bytes x run)) names ≡ length names = prefix_len-longer names run long in
    rw (e, le-ltb (length names) (length names) (omega arith)) refl

pub keyword_of_longer : (run : List ℕ) → 9 < length run → keyword_of run ≡ None
unfolding keyword_of longest
keyword_of_longer run long = place_of-longer keyword_names run long
