-- No LF stands in a line of a certificate.
use Rattle.std.proofs.Common.{ℕ, List, [], ◌∷◌, ◌++◌, map, codes, decimal, refl, arith}
use Rattle.std.specs.List.{AllByRecursion}
use Rattle.std.proofs.lemmas.List.Elements.{recursion_from_All}
use Rattle.flow_points.specs.declared.fact.Fact.{Fact}
use Rattle.certificate_text.specs.declared.certificate.Certificate.{Certificate}
use Rattle.certificate_text.specs.declared.certificate.Shape.{Shape}
use Rattle.certificate_text.specs.declared.version.Version.{Version}
use Rattle.certificate_text.specs.declared.version.Version.TheVariants.{One, Two}
use Rattle.certificate_text.specs.Text.{CertificateFits, FactFits, FactNumbers, IsNumber}
use Rattle.certificate_text.specs.Text.{ShapeNumbers, certificate_lines, fact_line, last_line}
use Rattle.certificate_text.specs.Text.{reference_words, shape_line, slot_word, value_word}
use Rattle.certificate_text.proofs.Facts.{Good, HasNo-slot, HasNo-value, all_good}
use Rattle.certificate_text.proofs.Heads.{HasNo-version}
use Rattle.text_lines.proofs.Cuts.{HasNo-append}
use Rattle.text_lines.proofs.Numerals.{HasNo-decimal}
use Rattle.text_lines.proofs.Texts.{HaveNoEnd}
use Rattle.text_lines.specs.Parts.{HasNo}

both : (xs ys : List ℕ) → HasNo 10 xs → HasNo 10 ys → HasNo 10 (xs ++ ys)
both xs ys = HasNo-append 10 xs ys

number : (xs : List ℕ) (n : ℕ) → HasNo 10 xs → IsNumber n → HasNo 10 (xs ++ decimal n)
number xs n before small = HasNo-append 10 xs (decimal n) before (HasNo-decimal 10 n (omega arith) small)

-- the words between the numbers
pub record WordsHaveNone : Type 0 where
  pub fact : HasNo 10 (codes "FACT ")
  pub space : HasNo 10 (codes " ")
  pub signals : HasNo 10 (codes "EXCHANGE signals ")
  pub blocks : HasNo 10 (codes " blocks ")
  pub points : HasNo 10 (codes " points ")
  pub cells : HasNo 10 (codes " cells ")
  pub entries : HasNo 10 (codes " entries ")
  pub references : HasNo 10 (codes " references ")
  pub last : HasNo 10 last_line
  pub nothing : HasNo 10 []

words : WordsHaveNone
unfolding HasNo
words = record {
  fact = refl;
  space = refl;
  signals = refl;
  blocks = refl;
  points = refl;
  cells = refl;
  entries = refl;
  references = refl;
  last = refl;
  nothing = refl;
}

pub HasNo-fact : (f : Fact) → Good f → HasNo 10 (fact_line f)
unfolding fact_line
HasNo-fact f good =
    let a = codes "FACT " ++ decimal f.entry in
    let b = a ++ codes " " in
    let c = b ++ decimal f.point in
    let d = c ++ codes " " in
    let e = d ++ slot_word f.slot in
    let g = e ++ codes " " in
    both g (value_word f.value) (both e (codes " ")
    (both d (slot_word f.slot) (both c (codes " ")
    (number b f.point (both a (codes " ") (number (codes "FACT ") f.entry words.fact good.numbers.entry)
    words.space) good.numbers.point) words.space)
    (HasNo-slot f.slot good.fits.slot 10 (omega arith))) words.space) (HasNo-value f.value good.fits.value good.numbers.value)

HasNo-references : (v : Version) (n : ℕ) → IsNumber n → HasNo 10 (reference_words v n)
HasNo-references One n small = words.nothing
HasNo-references Two n small = number (codes " references ") n words.references small

pub HasNo-shape : (v : Version) (s : Shape) → ShapeNumbers s → HasNo 10 (shape_line v s)
unfolding shape_line
HasNo-shape v s numbers =
    let a = codes "EXCHANGE signals " ++ decimal s.signals in
    let b = a ++ codes " blocks " in
    let c = b ++ decimal s.blocks in
    let d = c ++ codes " points " in
    let e = d ++ decimal s.points in
    let f = e ++ codes " cells " in
    let g = f ++ decimal s.cells in
    let h = g ++ codes " entries " in
    let i = h ++ decimal s.entries in
    both i (reference_words v s.references) (number h s.entries
    (both g (codes " entries ") (number f s.cells
    (both e (codes " cells ") (number d s.points
    (both c (codes " points ") (number b s.blocks (both a (codes " blocks ")
    (number (codes "EXCHANGE signals ") s.signals words.signals numbers.signals) words.blocks) numbers.blocks)
    words.points) numbers.points) words.cells) numbers.cells) words.entries) numbers.entries)
    (HasNo-references v s.references numbers.references)

pub HasNo-last : HasNo 10 last_line
HasNo-last = words.last

facts_no_end : (facts : List Fact) → AllByRecursion Good facts → HaveNoEnd (map fact_line facts ++ last_line ∷ [])
facts_no_end [] good = (words.last, tt)
facts_no_end (f ∷ facts) good = (HasNo-fact f good.0, facts_no_end facts good.1)

pub lines_no_end : (v : Version) (c : Certificate) → CertificateFits c → HaveNoEnd (certificate_lines v c)
lines_no_end v c fits = (
  HasNo-version v,
  (
    HasNo-shape v c.shape fits.shape,
    facts_no_end c.facts
        (all_good c.facts (recursion_from_All FactFits c.facts fits.facts)
        (recursion_from_All FactNumbers c.facts fits.numbers)),
  ),
)
