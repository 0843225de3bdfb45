-- The three kinds of line between the first and the last: entries, instructions, and the last line
-- itself.
use Rattle.std.proofs.Common.{◌≡◌, ℕ, ◌+◌, ◌<◌, true, false, List, [], ◌∷◌, ◌++◌, map, codes}
use Rattle.std.proofs.Common.{decimal, refl, sym, ap, ◌∙◌, arith, append-nil}
use Rattle.std.specs.List.{AllByRecursion, flat_map, list_all}
use Rattle.std.proofs.lemmas.Bool.{and_parts, true≢false}
use Rattle.std.proofs.lemmas.Fmt.{decimal_injective}
use Rattle.std.proofs.lemmas.List.{append_cancel_left, append-nil}
use Rattle.machine_code.specs.declared.op.Op.{Op}
use Rattle.machine_code.specs.Operands.{OpFits, IsNumber}
use Rattle.listing.specs.Forms.{EachFrom, HasEntryForm, HasOpForm, IsEntryLine, IsOpLine}
use Rattle.listing.specs.Instructions.{written}
use Rattle.listing.specs.Listing.{entry_line, entry_lines, last_line, op_line, spaced}
use Rattle.listing.proofs.Forms.{AreNumbers, HasEntryForm-line, HasOpForm-line, entry_apart}
use Rattle.listing.proofs.Forms.{name_apart, numerals-decimal, operands_fit, parts_once}
use Rattle.listing.proofs.Fronts.{ToldApart}
use Rattle.listing.proofs.Table.{no_such_name, told_apart}
use Rattle.listing.proofs.Words.{HasNo-numeral, first_word, spaced_starts}
use Rattle.text_lines.proofs.Cuts.{cut_once}
use Rattle.text_lines.specs.Numerals.{is_numeral}
use Rattle.text_lines.specs.Parts.{HasNo}

entry_op : (i : ℕ) (line : List ℕ) → HasEntryForm i line → HasOpForm line → ⊥
entry_op i line entry form =
    let cut = cut_once 32 (codes "ENTRY") (written form.op).name (flat_map spaced (decimal i ∷ entry.word ∷ []))
    (flat_map spaced form.words) entry_apart (name_apart form.op) (spaced_starts (decimal i ∷ entry.word ∷ []))
    (spaced_starts form.words) (sym entry.so ∙ form.so) in
    no_such_name (codes "ENTRY") form.op refl (sym cut.0)

end_apart : HasNo 32 (codes "END")
unfolding HasNo
end_apart = refl

code_apart : HasNo 32 (codes "CODE")
unfolding HasNo
code_apart = refl

entry_last : (i : ℕ) (line : List ℕ) → HasEntryForm i line → line ≡ last_line → ⊥
entry_last i line entry last =
    let cut = cut_once 32 (codes "ENTRY") (codes "END") (flat_map spaced (decimal i ∷ entry.word ∷ []))
    (spaced (codes "CODE")) entry_apart end_apart (spaced_starts (decimal i ∷ entry.word ∷ [])) refl
    (sym entry.so ∙ last) in
    let no : codes "ENTRY" ≡ codes "END" = cut.0 in
    cc

no_numeral : is_numeral (codes "CODE") ≡ false
unfolding is_numeral
no_numeral = refl

last_word : (words : List (List ℕ)) → list_all is_numeral words ≡ true → flat_map spaced words ≡ spaced (codes "CODE") → ⊥
last_word [] numerals e = let no : ◌≡◌ {A = List ℕ} [] (spaced (codes "CODE")) = e in cc
last_word (w ∷ words) numerals e =
    let numeral = (and_parts (is_numeral w) (list_all is_numeral words) numerals).0 in
    let low : 32 < 48 = omega arith in
    let first = first_word (codes "CODE") [] w words code_apart tt (HasNo-numeral 32 w low numeral) (append-nil (spaced (codes "CODE")) ∙ sym e) in
    true≢false (sym numeral ∙ ap is_numeral (sym first.0) ∙ no_numeral)

op_last : (line : List ℕ) → HasOpForm line → line ≡ last_line → ⊥
op_last line form last =
    let cut = cut_once 32 (written form.op).name (codes "END") (flat_map spaced form.words) (spaced (codes "CODE"))
    (name_apart form.op) end_apart (spaced_starts form.words) refl (sym form.so ∙ last) in
    last_word form.words form.numerals cut.1

pub forms_apart : ToldApart HasEntryForm HasOpForm
forms_apart = record { entry_op = entry_op; entry_last = entry_last; op_last = op_last }

pub lines_apart : ToldApart IsEntryLine IsOpLine
lines_apart = record {
  entry_op = λ i line entry op. entry_op i line (HasEntryForm-line i line entry) (HasOpForm-line line op);
  entry_last = λ i line entry. entry_last i line (HasEntryForm-line i line entry);
  op_last = λ line op. op_last line (HasOpForm-line line op);
}

-- the lines of code

pub entries_are_lines : (i : ℕ) (entries : List ℕ) → AllByRecursion IsNumber entries → EachFrom IsEntryLine i (entry_lines i entries)
unfolding entry_lines
entries_are_lines i [] fit = tt
entries_are_lines i (address ∷ entries) fit = (record { address = address; fits = fit.0; so = refl }, entries_are_lines (i + 1) entries fit.1)

pub ops_are_lines : (ops : List Op) → AllByRecursion OpFits ops → AllByRecursion IsOpLine (map op_line ops)
ops_are_lines [] fit = tt
ops_are_lines (op ∷ ops) fit = (record { op = op; fits = fit.0; so = refl }, ops_are_lines ops fit.1)

pub entries_have_form : (i : ℕ) (lines : List (List ℕ)) → EachFrom IsEntryLine i lines → EachFrom HasEntryForm i lines
entries_have_form i [] are = tt
entries_have_form i (line ∷ lines) are = (HasEntryForm-line i line are.0, entries_have_form (i + 1) lines are.1)

pub ops_have_form : (lines : List (List ℕ)) → AllByRecursion IsOpLine lines → AllByRecursion HasOpForm lines
ops_have_form [] are = tt
ops_have_form (line ∷ lines) are = (HasOpForm-line line are.0, ops_have_form lines are.1)

-- a line tells what it is the line of

pub entry_once : (i a b : ℕ) → IsNumber a → IsNumber b → entry_line i a ≡ entry_line i b → a ≡ b
unfolding entry_line
entry_once i a b low too e =
    let words : flat_map spaced (decimal i ∷ decimal a ∷ [])
    ≡ flat_map spaced (decimal i ∷ decimal b ∷ []) = append_cancel_left (codes "ENTRY")
    (flat_map spaced (decimal i ∷ decimal a ∷ [])) (flat_map spaced (decimal i ∷ decimal b ∷ [])) e in
    let last : flat_map spaced (decimal a ∷ [])
    ≡ flat_map spaced (decimal b ∷ []) = append_cancel_left (spaced (decimal i)) (flat_map spaced (decimal a ∷ []))
    (flat_map spaced (decimal b ∷ [])) words in
    let same : decimal a ++ [] ≡ decimal b ++ [] = cc in
    decimal_injective a b (omega arith) (omega arith) (sym (append-nil (decimal a)) ∙ same ∙ append-nil (decimal b))

numbers_once : (ns ms : List ℕ) → AreNumbers ns → AreNumbers ms → map decimal ns ≡ map decimal ms → ns ≡ ms
numbers_once [] [] low too e = refl
numbers_once [] (m ∷ ms) low too e = cc
numbers_once (n ∷ ns) [] low too e = cc
numbers_once (n ∷ ns) (m ∷ ms) low too e =
    let first : decimal n ≡ decimal m = cc in
    let rest : map decimal ns ≡ map decimal ms = cc in
    ap (λ (k : ℕ). k ∷ ns) (decimal_injective n m (omega (arith, low.0)) (omega (arith, too.0)) first)
    ∙ ap (λ (ks : List ℕ). m ∷ ks) (numbers_once ns ms low.1 too.1 rest)

pub op_once : (p q : Op) → OpFits p → OpFits q → op_line p ≡ op_line q → p ≡ q
unfolding op_line
op_once p q fit too e =
    let ps = operands_fit p fit in
    let qs = operands_fit q too in
    let once = parts_once (written p).name (written q).name (map decimal (written p).operands)
    (map decimal (written q).operands) (name_apart p) (name_apart q) (numerals-decimal (written p).operands ps)
    (numerals-decimal (written q).operands qs) e in
    told_apart p q once.0 (numbers_once (written p).operands (written q).operands ps qs once.1)
