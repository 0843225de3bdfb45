-- Where what is told of entries stands among the parts of a text, so that it can stand there once
-- more.
use Rattle.std.specs.Prelude.{◌≡◌, ℕ, List, [], ◌∷◌, ◌++◌, length, map, Some, slice_get}
use Rattle.entry_summary.specs.declared.summary.Summary.{Summary}
use Rattle.analysis_text.specs.declared.names.Names.{Names}
use Rattle.analysis_text.specs.Lines.{access_line, fault_text, send_line, text_of}

-- what the jobs of an entry may do, behind the line that names it
abbrev pub body_text : Names → Summary → List ℕ
body_text names s = text_of (map (access_line names) s.accesses) ++ text_of (map send_line s.levels)
    ++ fault_text s.fault

-- what is told of the entries so far stands at these places
pub record AreBodies (names : Names) (summaries : List Summary) (n : ℕ) (parts : List (List ℕ))
    (places : List ℕ) : Type 0 where
  pub count : length places ≡ n
  pub stand : (i place : ℕ) (s : Summary) → slice_get places i ≡ Some place
      → slice_get summaries i ≡ Some s → slice_get parts place ≡ Some (body_text names s)

-- the text has one part more, which tells this, and stands at this place
pub record HasBody (names : Names) (s : Summary) (old new : List (List ℕ)) (place : ℕ) : Type
    0 where
  pub is : new ≡ old ++ body_text names s ∷ []
  pub there : slice_get new place ≡ Some (body_text names s)
