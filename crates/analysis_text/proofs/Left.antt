-- What is written one after the other.
use Rattle.std.proofs.Common.{◌≡◌, ℕ, List, ◌++◌}
use Rattle.analysis_text.specs.Lines.{text_of}

-- the text so far and what is left are the text before and all
pub record LeftText (before text rest all : List ℕ) : Type 0 where
  pub same : text ++ rest ≡ before ++ all

-- the same of lines
pub record Left (before text : List ℕ) (rest all : List (List ℕ)) : Type 0 where
  pub same : text ++ text_of rest ≡ before ++ text_of all
