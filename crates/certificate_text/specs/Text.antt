-- The text of a certificate, as a function of its value.
--
-- A text is a list of lines, each ended by LF: one tells the version, one the shape, one each fact,
-- and the last says that the text ends. Words stand one space apart, and numbers are written in
-- decimal, which has no leading zero: so nothing is left to choose but the version, and the first
-- of the two tells only certificates without references.
use Rattle.std.specs.Prelude.{◌≡◌, ℕ, ◌<◌, ◌^◌, List, [], ◌∷◌, ◌++◌, map, All, codes}
use Rattle.std.specs.Fmt.{decimal}
use Rattle.std.specs.List.{flat_map}
use Rattle.std.specs.List.Sorted.{IsStrictlySortedBy}
use Rattle.plex_limits.specs.declared.limits.TheConstants.{MOST_TEMPORARIES, MOST_VALUES}
use Rattle.flow_points.specs.declared.fact.Fact.{Fact}
use Rattle.flow_points.specs.declared.fact.Slot.{Slot}
use Rattle.flow_points.specs.declared.fact.Slot.TheVariants.{Temp, Given, Answered, Depth, Awaits}
use Rattle.flow_points.specs.declared.fact.Value.{Value}
use Rattle.flow_points.specs.declared.fact.Value.TheVariants.{Arg, Const, Any}
use Rattle.flow_points.specs.Orders.{fact_order}
use Rattle.text_lines.specs.Lines.{ended}
use Rattle.certificate_text.specs.declared.certificate.Certificate.{Certificate}
use Rattle.certificate_text.specs.declared.certificate.Shape.{Shape}
use Rattle.certificate_text.specs.declared.version.Version.{Version}
use Rattle.certificate_text.specs.declared.version.Version.TheVariants.{One, Two}

abbrev pub slot_word : Slot → List ℕ
slot_word (Temp t) = codes "T" ++ decimal t
slot_word (Given k) = codes "E" ++ decimal k
slot_word (Answered k) = codes "A" ++ decimal k
slot_word Depth = codes "DEPTH"
slot_word Awaits = codes "AWAITS"

abbrev pub value_word : Value → List ℕ
value_word (Arg k) = codes "ARG " ++ decimal k
value_word (Const c) = codes "CONST " ++ decimal c
value_word Any = codes "ANY"

-- the line of a fact
unfoldable pub fact_line : Fact → List ℕ
fact_line f =
    codes "FACT " ++ decimal f.entry ++ codes " " ++ decimal f.point ++ codes " "
    ++ slot_word f.slot ++ codes " " ++ value_word f.value

-- the number of references, which the first version leaves out
abbrev pub reference_words : Version → ℕ → List ℕ
reference_words One n = []
reference_words Two n = codes " references " ++ decimal n

-- the line of a shape
unfoldable pub shape_line : Version → Shape → List ℕ
shape_line v s =
    codes "EXCHANGE signals " ++ decimal s.signals ++ codes " blocks " ++ decimal s.blocks
    ++ codes " points " ++ decimal s.points
    ++ codes " cells " ++ decimal s.cells ++ codes " entries " ++ decimal s.entries
    ++ reference_words v s.references

-- the line of a version
abbrev pub version_line : Version → List ℕ
version_line One = codes "PLEX CERTIFICATE 1"
version_line Two = codes "PLEX CERTIFICATE 2"

abbrev pub last_line : List ℕ
last_line = codes "END CERTIFICATE"

-- the lines of a certificate in a version
abbrev pub certificate_lines : Version → Certificate → List (List ℕ)
certificate_lines v c =
    version_line v ∷ shape_line v c.shape ∷ map fact_line c.facts ++ last_line ∷ []

-- its text, in a version and as it is printed
unfoldable pub text_in : Version → Certificate → List ℕ
text_in v c = flat_map ended (certificate_lines v c)

abbrev pub certificate_text : Certificate → List ℕ
certificate_text c = text_in Two c

-- what is printed: the lines before the facts, those of facts, and the last one
abbrev pub head_text : Shape → List ℕ
head_text s = ended (version_line Two) ++ ended (shape_line Two s)

abbrev pub facts_text : List Fact → List ℕ
facts_text facts = flat_map ended (map fact_line facts)

abbrev pub last_text : List ℕ
last_text = ended last_line

-- what a text can tell

abbrev pub SlotFits : Slot → Type 0
SlotFits (Temp t) = t < MOST_TEMPORARIES
SlotFits (Given k) = k < MOST_VALUES
SlotFits (Answered k) = k < MOST_VALUES
SlotFits Depth = Unit {0}
SlotFits Awaits = Unit {0}

abbrev pub ValueFits : Value → Type 0
ValueFits (Arg k) = k < MOST_VALUES
ValueFits (Const c) = Unit {0}
ValueFits Any = Unit {0}

-- temporaries and places of values are in their ranges
pub record FactFits (f : Fact) : Type 0 where
  pub slot : SlotFits f.slot
  pub value : ValueFits f.value

abbrev pub IsNumber : ℕ → Type 0
IsNumber n = n < 2 ^ 32

abbrev pub HasTextNumber : Value → Type 0
HasTextNumber (Const c) = IsNumber c
HasTextNumber (Arg k) = Unit {0}
HasTextNumber Any = Unit {0}

-- its numbers are those of 32 bits
pub record FactNumbers (f : Fact) : Type 0 where
  pub entry : IsNumber f.entry
  pub point : IsNumber f.point
  pub value : HasTextNumber f.value

pub record ShapeNumbers (s : Shape) : Type 0 where
  pub signals : IsNumber s.signals
  pub blocks : IsNumber s.blocks
  pub points : IsNumber s.points
  pub cells : IsNumber s.cells
  pub entries : IsNumber s.entries
  pub references : IsNumber s.references

-- a certificate that a text can tell: its numbers are in their ranges, and its facts rise strictly
pub record CertificateFits (c : Certificate) : Type 0 where
  pub shape : ShapeNumbers c.shape
  pub numbers : All FactNumbers c.facts
  pub facts : All FactFits c.facts
  pub rises : IsStrictlySortedBy fact_order c.facts

-- a version can tell so many references: the first tells of none
abbrev pub CanTell : Version → ℕ → Type 0
CanTell One references = references ≡ 0
CanTell Two references = Unit {0}
