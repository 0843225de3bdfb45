-- Words, numbers and lines as they are read from the front of a text.
use Rattle.std.specs.Prelude.{◌≡◌, ℕ, List, ◌∷◌, ◌++◌, codes}
use Rattle.std.specs.Fmt.{decimal}
use Rattle.flow_points.specs.declared.fact.Fact.{Fact}
use Rattle.flow_points.specs.declared.fact.Slot.{Slot}
use Rattle.flow_points.specs.declared.fact.Value.{Value}
use Rattle.certificate_text.specs.declared.certificate.Shape.{Shape}
use Rattle.certificate_text.specs.declared.version.Version.{Version}
use Rattle.certificate_text.specs.Text.{CanTell, FactFits, FactNumbers, HasTextNumber, IsNumber}
use Rattle.certificate_text.specs.Text.{ShapeNumbers, SlotFits, ValueFits, fact_line}
use Rattle.certificate_text.specs.Text.{reference_words, shape_line, slot_word, value_word}
use Rattle.certificate_text.specs.Text.{version_line}
use Rattle.text_lines.specs.Lines.{ended}

-- the text begins with a label, a number and a byte
pub record IsNumbered (label : List ℕ) (n end : ℕ) (text rest : List ℕ) : Type 0 where
  pub number : IsNumber n
  pub so : text ≡ label ++ (decimal n ++ end ∷ rest)

-- it begins with the line of a version
pub record IsVersionAt (text : List ℕ) (v : Version) (rest : List ℕ) : Type 0 where
  pub so : text ≡ ended (version_line v) ++ rest

-- it begins with the end of the line of a shape
pub record AreLast (v : Version) (text : List ℕ) (entries references : ℕ) (rest : List ℕ) : Type
    0 where
  pub entries_number : IsNumber entries
  pub references_number : IsNumber references
  pub tells : CanTell v references
  pub so : text ≡ codes "entries " ++ (decimal entries
      ++ (reference_words v references ++ 10 ∷ rest))

-- it begins with the line of a shape
pub record IsShapeAt (v : Version) (text : List ℕ) (s : Shape) (rest : List ℕ) : Type 0 where
  pub numbers : ShapeNumbers s
  pub tells : CanTell v s.references
  pub so : text ≡ ended (shape_line v s) ++ rest

-- it begins with a slot and a space
pub record IsSlotAt (text : List ℕ) (s : Slot) (rest : List ℕ) : Type 0 where
  pub fits : SlotFits s
  pub so : text ≡ slot_word s ++ 32 ∷ rest

-- it begins with a value and the end of its line
pub record IsValueAt (text : List ℕ) (v : Value) (rest : List ℕ) : Type 0 where
  pub fits : ValueFits v
  pub number : HasTextNumber v
  pub so : text ≡ value_word v ++ 10 ∷ rest

-- it begins with the line of a fact
pub record IsFactAt (text : List ℕ) (f : Fact) (rest : List ℕ) : Type 0 where
  pub fits : FactFits f
  pub numbers : FactNumbers f
  pub so : text ≡ ended (fact_line f) ++ rest

-- it begins with the first two lines of a certificate
pub record Begun (v : Version) (s : Shape) (text rest : List ℕ) : Type 0 where
  pub numbers : ShapeNumbers s
  pub tells : CanTell v s.references
  pub so : text ≡ ended (version_line v) ++ (ended (shape_line v s) ++ rest)
