-- What the parts of a line say of its form.
use Rattle.std.proofs.Common.{◌≡◌, ◌≢◌, ℕ, ◌<◌, ◌≤◌, ◌^◌, Bool, true, List, [], ◌∷◌, ◌++◌, length}
use Rattle.std.proofs.Common.{map, Option, Some, None, Result, Ok, Err, codes, decimal, refl, sym}
use Rattle.std.proofs.Common.{ap, ◌∙◌, arith, ◌⊎◌, inl, inr}
use Rattle.std.specs.Char.{is_ascii_uppercase}
use Rattle.std.specs.List.{AllByRecursion, flat_map, list_all}
use Rattle.std.proofs.lemmas.Bool.{and_from, and_parts}
use Rattle.std.proofs.lemmas.List.{length-map}
use Rattle.machine_code.specs.declared.op.Op.{Op}
use Rattle.machine_code.specs.declared.op.Op.TheVariants.{Stmt, Ldi, Ldt, Stt, Lde, Lda, Add, Sub}
use Rattle.machine_code.specs.declared.op.Op.TheVariants.{Mul, Div, Rem, Eq, Ne, Lt, Le, Gt, Ge}
use Rattle.machine_code.specs.declared.op.Op.TheVariants.{And, Or, Jmp, Jz, Ldw, Stw, Ckw, Ckp, Own}
use Rattle.machine_code.specs.declared.op.Op.TheVariants.{Ldx, Stx, Ckf, Chn, Unc, Arg, Snd, Dir}
use Rattle.machine_code.specs.declared.op.Op.TheVariants.{Call, Ret, Trf, End}
use Rattle.machine_code.specs.Operands.{OpFits, IsNumber}
use Rattle.plex_num.specs.Number.{number_of}
use Rattle.listing.specs.declared.fault.LineFault.{LineFault}
use Rattle.listing.specs.declared.fault.LineFault.TheVariants.{Form, Operand}
use Rattle.listing.specs.declared.statement.Statement.{Statement}
use Rattle.listing.specs.declared.statement.Statement.TheVariants.{Entry, Instruction}
use Rattle.listing.specs.Forms.{HasEntryForm, HasOpForm, IsEntryLine, IsOpLine}
use Rattle.listing.specs.Instructions.{written}
use Rattle.listing.specs.Listing.{entry_line, last_line, op_line, spaced, spoken}
use Rattle.listing.specs.Parts.{AreNoOperands, AreOperands, AreParts}
use Rattle.listing.specs.Statements.{HasNoForm, IsAlike, IsNamed, ReadsParts, ReadsStatement}
use Rattle.listing.proofs.Words.{HasNo-letters, spaced_starts, words_once}
use Rattle.text_lines.proofs.Cuts.{cut_once}
use Rattle.text_lines.proofs.Numerals.{decimal-number_of, decimals, is_numeral-decimal}
use Rattle.text_lines.proofs.Numerals.{number_of-decimal}
use Rattle.text_lines.specs.Numerals.{is_numeral}
use Rattle.text_lines.specs.Parts.{HasNo, StartsWith}

-- numbers below 2^32
abbrev pub AreNumbers : List ℕ → Type 0
AreNumbers ns = AllByRecursion IsNumber ns

small : (n k : ℕ) → k ≤ 2 ^ 32 → n < k → IsNumber n
small n k le lt = omega arith

-- operands in their ranges are below 2^32
pub operands_fit : (op : Op) → OpFits op → AreNumbers (written op).operands
unfolding written
operands_fit (Stmt p) fit = (fit, tt)
operands_fit (Ldi r n) fit = (small r 16 (omega arith) (omega (arith, fit.0)), (fit.1, tt))
operands_fit (Ldt r i) fit = (small r 16 (omega arith) (omega (arith, fit.0)), (small i 50 (omega arith) (omega (arith, fit.1)), tt))
operands_fit (Stt i r) fit = (small i 50 (omega arith) (omega (arith, fit.0)), (small r 16 (omega arith) (omega (arith, fit.1)), tt))
operands_fit (Lde r k) fit = (small r 16 (omega arith) (omega (arith, fit.0)), (small k 8 (omega arith) (omega (arith, fit.1)), tt))
operands_fit (Lda r k) fit = (small r 16 (omega arith) (omega (arith, fit.0)), (small k 8 (omega arith) (omega (arith, fit.1)), tt))
operands_fit (Add r s) fit = (small r 16 (omega arith) (omega (arith, fit.0)), (small s 16 (omega arith) (omega (arith, fit.1)), tt))
operands_fit (Sub r s) fit = (small r 16 (omega arith) (omega (arith, fit.0)), (small s 16 (omega arith) (omega (arith, fit.1)), tt))
operands_fit (Mul r s) fit = (small r 16 (omega arith) (omega (arith, fit.0)), (small s 16 (omega arith) (omega (arith, fit.1)), tt))
operands_fit (Div r s) fit = (small r 16 (omega arith) (omega (arith, fit.0)), (small s 16 (omega arith) (omega (arith, fit.1)), tt))
operands_fit (Rem r s) fit = (small r 16 (omega arith) (omega (arith, fit.0)), (small s 16 (omega arith) (omega (arith, fit.1)), tt))
operands_fit (Eq r s) fit = (small r 16 (omega arith) (omega (arith, fit.0)), (small s 16 (omega arith) (omega (arith, fit.1)), tt))
operands_fit (Ne r s) fit = (small r 16 (omega arith) (omega (arith, fit.0)), (small s 16 (omega arith) (omega (arith, fit.1)), tt))
operands_fit (Lt r s) fit = (small r 16 (omega arith) (omega (arith, fit.0)), (small s 16 (omega arith) (omega (arith, fit.1)), tt))
operands_fit (Le r s) fit = (small r 16 (omega arith) (omega (arith, fit.0)), (small s 16 (omega arith) (omega (arith, fit.1)), tt))
operands_fit (Gt r s) fit = (small r 16 (omega arith) (omega (arith, fit.0)), (small s 16 (omega arith) (omega (arith, fit.1)), tt))
operands_fit (Ge r s) fit = (small r 16 (omega arith) (omega (arith, fit.0)), (small s 16 (omega arith) (omega (arith, fit.1)), tt))
operands_fit (And r s) fit = (small r 16 (omega arith) (omega (arith, fit.0)), (small s 16 (omega arith) (omega (arith, fit.1)), tt))
operands_fit (Or r s) fit = (small r 16 (omega arith) (omega (arith, fit.0)), (small s 16 (omega arith) (omega (arith, fit.1)), tt))
operands_fit (Jmp a) fit = (fit, tt)
operands_fit (Jz r a) fit = (small r 16 (omega arith) (omega (arith, fit.0)), (fit.1, tt))
operands_fit (Ldw r w) fit = (small r 16 (omega arith) (omega (arith, fit.0)), (fit.1, tt))
operands_fit (Stw w r) fit = (fit.0, (small r 16 (omega arith) (omega (arith, fit.1)), tt))
operands_fit (Ckw r d) fit = (small r 16 (omega arith) (omega (arith, fit.0)), (small d 33 (omega arith) (omega (arith, fit.1)), tt))
operands_fit (Ckp r n) fit = (small r 16 (omega arith) (omega (arith, fit.0)), (fit.1, tt))
operands_fit (Own r f) fit = (small r 16 (omega arith) (omega (arith, fit.0)), (fit.1, tt))
operands_fit (Ldx r w n s) fit = (small r 16 (omega arith) (omega (arith, fit.0)), (fit.1, (fit.2, (small s 16 (omega arith) (omega (arith, fit.3)), tt))))
operands_fit (Stx w n s r) fit = (fit.0, (fit.1, (small s 16 (omega arith) (omega (arith, fit.2)), (small r 16 (omega arith) (omega (arith, fit.3)), tt))))
operands_fit Ckf fit = tt
operands_fit (Chn r f) fit = (small r 16 (omega arith) (omega (arith, fit.0)), (fit.1, tt))
operands_fit (Unc r f) fit = (small r 16 (omega arith) (omega (arith, fit.0)), (fit.1, tt))
operands_fit (Arg r) fit = (small r 16 (omega arith) (omega (arith, fit)), tt)
operands_fit (Snd q x l) fit = (small q 3 (omega arith) (omega (arith, fit.0)), (fit.1, (small l 4 (omega arith) (omega (arith, fit.2)), tt)))
operands_fit (Dir a) fit = (fit, tt)
operands_fit (Call a m) fit = (fit.0, (fit.1, tt))
operands_fit (Ret m) fit = (fit, tt)
operands_fit (Trf a n) fit = (fit.0, (fit.1, tt))
operands_fit End fit = tt

pub numerals-decimal : (ns : List ℕ) → AreNumbers ns → list_all is_numeral (map decimal ns) ≡ true
numerals-decimal [] small = refl
numerals-decimal (n ∷ ns) small = and_from (is_numeral (decimal n)) (list_all is_numeral (map decimal ns))
    (is_numeral-decimal n (omega (arith, small.0))) (numerals-decimal ns small.1)

numbers-decimal : (ns : List ℕ) → AreNumbers ns → map number_of (map decimal ns) ≡ map (λ n. Some n) ns
numbers-decimal [] small = refl
numbers-decimal (n ∷ ns) small = ap (λ (o : Option ℕ). o ∷ map number_of (map decimal ns)) (number_of-decimal n small.0)
    ∙ ap (λ (os : List (Option ℕ)). Some n ∷ os) (numbers-decimal ns small.1)

-- an instruction's line has the form of one
pub HasOpForm-line : (line : List ℕ) → IsOpLine line → HasOpForm line
unfolding op_line
HasOpForm-line line is = record {
  op = is.op;
  words = map decimal (written is.op).operands;
  numerals = numerals-decimal (written is.op).operands (operands_fit is.op is.fits);
  as_many = length-map (written is.op).operands decimal;
  so = is.so;
}

pub HasEntryForm-line : (i : ℕ) (line : List ℕ) → IsEntryLine i line → HasEntryForm i line
unfolding entry_line
HasEntryForm-line i line is = record { word = decimal is.address; numeral = is_numeral-decimal is.address (omega (arith, is.fits)); so = is.so }

-- a line has one name and one list of words
pub parts_once : (name other : List ℕ) (words more : List (List ℕ)) → HasNo 32 name → HasNo 32 other
    → list_all is_numeral words ≡ true → list_all is_numeral more ≡ true → spoken name words ≡ spoken other more
    → (name ≡ other) × (words ≡ more)
parts_once name other words more apart too numerals those e =
    let cut = cut_once 32 name other (flat_map spaced words) (flat_map spaced more) apart too (spaced_starts words) (spaced_starts more) e in
    (cut.0, words_once words more numerals those cut.1)

-- the name of an instruction is capital letters
name_letters : (op : Op) → list_all is_ascii_uppercase (written op).name ≡ true
unfolding written
name_letters (Stmt p) = refl
name_letters (Ldi r n) = refl
name_letters (Ldt r i) = refl
name_letters (Stt i r) = refl
name_letters (Lde r k) = refl
name_letters (Lda r k) = refl
name_letters (Add r s) = refl
name_letters (Sub r s) = refl
name_letters (Mul r s) = refl
name_letters (Div r s) = refl
name_letters (Rem r s) = refl
name_letters (Eq r s) = refl
name_letters (Ne r s) = refl
name_letters (Lt r s) = refl
name_letters (Le r s) = refl
name_letters (Gt r s) = refl
name_letters (Ge r s) = refl
name_letters (And r s) = refl
name_letters (Or r s) = refl
name_letters (Jmp a) = refl
name_letters (Jz r a) = refl
name_letters (Ldw r w) = refl
name_letters (Stw w r) = refl
name_letters (Ckw r d) = refl
name_letters (Ckp r n) = refl
name_letters (Own r f) = refl
name_letters (Ldx r w n s) = refl
name_letters (Stx w n s r) = refl
name_letters Ckf = refl
name_letters (Chn r f) = refl
name_letters (Unc r f) = refl
name_letters (Arg r) = refl
name_letters (Snd q x l) = refl
name_letters (Dir a) = refl
name_letters (Call a m) = refl
name_letters (Ret m) = refl
name_letters (Trf a n) = refl
name_letters End = refl

pub HasNo-name : (end : ℕ) (op : Op) → end < 65 → HasNo end (written op).name
HasNo-name end op low = HasNo-letters end (written op).name low (name_letters op)

pub name_apart : (op : Op) → HasNo 32 (written op).name
name_apart op = HasNo-name 32 op (omega arith)

pub entry_apart : HasNo 32 (codes "ENTRY")
unfolding HasNo
entry_apart = refl

-- the form of an instruction, from its parts
op_of_parts : (line name : List ℕ) (os : List (Option ℕ)) → AreParts line name os → (form : HasOpForm line) → IsAlike name os form.op
op_of_parts line name os p form =
    let once = parts_once name (written form.op).name p.words form.words p.apart (name_apart form.op) p.numerals form.numerals (sym p.so ∙ form.so) in
    record { named = sym once.0; as_many = ap length p.values ∙ length-map p.words number_of ∙ ap length once.1 ∙ form.as_many }

named_of_parts : (line name : List ℕ) (os : List (Option ℕ)) → AreParts line name os → (is : IsOpLine line) → IsNamed name os is.op
unfolding op_line
named_of_parts line name os p is =
    let ns = (written is.op).operands in
    let small = operands_fit is.op is.fits in
    let once = parts_once name (written is.op).name p.words (map decimal ns) p.apart (name_apart is.op) p.numerals
    (numerals-decimal ns small) (sym p.so ∙ is.so) in
    record { named = sym once.0; operands = p.values ∙ ap (map number_of) once.1 ∙ numbers-decimal ns small; fits = is.fits }

line_of_named : (line name : List ℕ) (os : List (Option ℕ)) (op : Op) → AreParts line name os → IsNamed name os op → line ≡ op_line op
unfolding op_line
line_of_named line name os op p is =
    let words : p.words ≡ map decimal (written op).operands = decimals p.words (written op).operands p.numerals (sym p.values ∙ is.operands) in
    p.so ∙ ap (λ (n : List ℕ). spoken n p.words) (sym is.named) ∙ ap (spoken (written op).name) words

form_of_alike : (line name : List ℕ) (os : List (Option ℕ)) (op : Op) → AreParts line name os → IsAlike name os op → HasOpForm line
form_of_alike line name os op p alike = record {
  op = op;
  words = p.words;
  numerals = p.numerals;
  as_many = sym (length-map p.words number_of) ∙ sym (ap length p.values) ∙ alike.as_many;
  so = p.so ∙ ap (λ (n : List ℕ). spoken n p.words) (sym alike.named);
}

-- the form of an entry, from its parts
entry_numerals : (i : ℕ) (word : List ℕ) → i < 2 ^ 32 → is_numeral word ≡ true → list_all is_numeral (decimal i ∷ word ∷ []) ≡ true
entry_numerals i word low numeral = and_from (is_numeral (decimal i)) (list_all is_numeral (word ∷ []))
    (is_numeral-decimal i (omega arith)) (and_from (is_numeral word) true numeral refl)

entry_of_parts : (i : ℕ) (line name : List ℕ) (os : List (Option ℕ)) → i < 2 ^ 32 → AreParts line name os
    → (form : HasEntryForm i line) → (name ≡ codes "ENTRY") × (os ≡ Some i ∷ number_of form.word ∷ [])
entry_of_parts i line name os low p form =
    let once = parts_once name (codes "ENTRY") p.words (decimal i ∷ form.word ∷ []) p.apart entry_apart p.numerals
    (entry_numerals i form.word low form.numeral) (sym p.so ∙ form.so) in
    (once.0, p.values ∙ ap (map number_of) once.1 ∙ ap (λ (o : Option ℕ). o ∷ number_of form.word ∷ []) (number_of-decimal i low))

-- two words that say these numbers
two_words : (words : List (List ℕ)) (i : ℕ) (o : Option ℕ) → list_all is_numeral words ≡ true
    → map number_of words ≡ Some i ∷ o ∷ [] → (word : List ℕ) × (words ≡ decimal i ∷ word ∷ [])
    × (is_numeral word ≡ true) × (number_of word ≡ o)
two_words [] i o numerals e = cc
two_words (w ∷ []) i o numerals e = cc
two_words (w ∷ v ∷ []) i o numerals e =
    let parts = and_parts (is_numeral w) (list_all is_numeral (v ∷ [])) numerals in
    let first : number_of w ≡ Some i = cc in
    let second : number_of v ≡ o = cc in
    (v, ap (λ (u : List ℕ). u ∷ v ∷ []) (decimal-number_of w i parts.0 first), (and_parts (is_numeral v) true parts.1).0, second)
two_words (w ∷ v ∷ u ∷ more) i o numerals e = cc

form_of_entry : (i : ℕ) (line name : List ℕ) (os : List (Option ℕ)) (o : Option ℕ) → AreParts line name os
    → name ≡ codes "ENTRY" → os ≡ Some i ∷ o ∷ [] → HasEntryForm i line
form_of_entry i line name os o p named so =
    let two = two_words p.words i o p.numerals (sym p.values ∙ so) in
    record { word = two.0; numeral = two.2; so = p.so ∙ ap (λ (n : List ℕ). spoken n p.words) named ∙ ap (spoken (codes "ENTRY")) two.1 }

line_of_entry : (i : ℕ) (line name : List ℕ) (os : List (Option ℕ)) (address : ℕ) → AreParts line name os
    → name ≡ codes "ENTRY" → os ≡ Some i ∷ Some address ∷ [] → line ≡ entry_line i address
unfolding entry_line
line_of_entry i line name os address p named so =
    let words : p.words ≡ map decimal (i ∷ address ∷ []) = decimals p.words (i ∷ address ∷ []) p.numerals (sym p.values ∙ so) in
    p.so ∙ ap (λ (n : List ℕ). spoken n p.words) named ∙ ap (spoken (codes "ENTRY")) words

address_of_entry : (i : ℕ) (line name : List ℕ) (os : List (Option ℕ)) → i < 2 ^ 32 → AreParts line name os
    → (is : IsEntryLine i line) → (name ≡ codes "ENTRY") × (os ≡ Some i ∷ Some is.address ∷ [])
unfolding entry_line HasEntryForm-line
address_of_entry i line name os low p is =
    let e = entry_of_parts i line name os low p (HasEntryForm-line i line is) in
    (e.0, e.1 ∙ ap (λ (o : Option ℕ). Some i ∷ o ∷ []) (number_of-decimal is.address is.fits))

-- a line with parts is read by them
pub line_read : (i : ℕ) (at_entries : Bool) (line name : List ℕ) (os : List (Option ℕ)) (r : Result Statement LineFault)
    → i < 2 ^ 32 → line ≢ last_line → AreParts line name os → ReadsParts i at_entries name os r
    → ReadsStatement i at_entries line r
line_read i at_entries line name os (Ok (Entry address)) low other p reads =
    (reads.here, reads.fits, line_of_entry i line name os address p reads.named reads.operands)
line_read i at_entries line name os (Ok (Instruction op)) low other p reads = (reads.fits, line_of_named line name os op p reads)
line_read i at_entries line name os (Err Form) low other p reads = record {
  entry = λ here form. (let e = entry_of_parts i line name os low p form in reads.entry (number_of form.word) here e.0 e.1);
  op = λ form. reads.op form.op (op_of_parts line name os p form);
  last = other;
}
line_read i at_entries line name os (Err Operand) low other p reads = record {
  form = formed reads.form;
  entry = λ is. (let e = address_of_entry i line name os low p is in reads.entry is.address e.0 e.1);
  op = λ is. reads.op is.op (named_of_parts line name os p is);
  last = other;
}
  where
    formed : ((at_entries ≡ true) × (name ≡ codes "ENTRY") × (os ≡ Some i ∷ None ∷ []))
        ⊎ ((op : Op) × IsAlike name os op) → ((at_entries ≡ true) × HasEntryForm i line) ⊎ HasOpForm line
    formed (inl e) = inl (e.0, form_of_entry i line name os None p e.1 e.2)
    formed (inr alike) = inr (form_of_alike line name os alike.0 p alike.1)

-- a line has parts where it is a name and operands
pub parts_of : (line name tail : List ℕ) (os : List (Option ℕ)) → HasNo 32 name → line ≡ name ++ tail → AreOperands tail os → AreParts line name os
parts_of line name tail os apart joined operands = record {
  apart = apart;
  words = operands.words;
  numerals = operands.numerals;
  so = joined ∙ ap (λ (t : List ℕ). name ++ t) operands.so;
  values = operands.values;
}

-- where the words are no operands, the line has no form
few_operands : (op : Op) → length (written op).operands ≤ 4
unfolding written
few_operands (Stmt p) = omega arith
few_operands (Ldi r n) = omega arith
few_operands (Ldt r i) = omega arith
few_operands (Stt i r) = omega arith
few_operands (Lde r k) = omega arith
few_operands (Lda r k) = omega arith
few_operands (Add r s) = omega arith
few_operands (Sub r s) = omega arith
few_operands (Mul r s) = omega arith
few_operands (Div r s) = omega arith
few_operands (Rem r s) = omega arith
few_operands (Eq r s) = omega arith
few_operands (Ne r s) = omega arith
few_operands (Lt r s) = omega arith
few_operands (Le r s) = omega arith
few_operands (Gt r s) = omega arith
few_operands (Ge r s) = omega arith
few_operands (And r s) = omega arith
few_operands (Or r s) = omega arith
few_operands (Jmp a) = omega arith
few_operands (Jz r a) = omega arith
few_operands (Ldw r w) = omega arith
few_operands (Stw w r) = omega arith
few_operands (Ckw r d) = omega arith
few_operands (Ckp r n) = omega arith
few_operands (Own r f) = omega arith
few_operands (Ldx r w n s) = omega arith
few_operands (Stx w n s r) = omega arith
few_operands Ckf = omega arith
few_operands (Chn r f) = omega arith
few_operands (Unc r f) = omega arith
few_operands (Arg r) = omega arith
few_operands (Snd q x l) = omega arith
few_operands (Dir a) = omega arith
few_operands (Call a m) = omega arith
few_operands (Ret m) = omega arith
few_operands (Trf a n) = omega arith
few_operands End = omega arith

no_words : (line name other tail : List ℕ) (words : List (List ℕ)) → HasNo 32 name → HasNo 32 other → StartsWith 32 tail
    → line ≡ name ++ tail → line ≡ spoken other words → tail ≡ flat_map spaced words
no_words line name other tail words apart too starts joined
    so = (cut_once 32 name other tail (flat_map spaced words) apart too starts (spaced_starts words)
    (sym joined ∙ so)).1

pub line_strange : (i : ℕ) (at_entries : Bool) (line name tail : List ℕ) → i < 2 ^ 32 → line ≢ last_line → HasNo 32 name
    → StartsWith 32 tail → line ≡ name ++ tail → AreNoOperands tail → HasNoForm i at_entries line
line_strange i at_entries line name tail low other apart starts joined none = record {
  entry = λ here form. none (decimal i ∷ form.word ∷ []) (entry_numerals i form.word low form.numeral) (omega arith)
      (no_words line name (codes "ENTRY") tail (decimal i ∷ form.word ∷ []) apart entry_apart starts joined form.so);
  op = λ form. none form.words form.numerals (omega (arith, form.as_many, few_operands form.op))
      (no_words line name (written form.op).name tail form.words apart (name_apart form.op) starts joined form.so);
  last = other;
}
