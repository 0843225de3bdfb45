-- A text is told one answer.
use Rattle.std.proofs.Common.{◌≡◌, ◌≢◌, ℕ, zero, suc, ◌+◌, ◌-◌, ◌<◌, ◌≤◌, ◌^◌, List, [], ◌∷◌, ◌++◌}
use Rattle.std.proofs.Common.{length, map, take, drop, true, codes, decimal, Result, Ok, Err, refl}
use Rattle.std.proofs.Common.{sym, ap, subst, ◌∙◌, arith, append_assoc, append-nil, ◌⊎◌, inl, inr}
use Rattle.std.specs.List.{AllByRecursion, flat_map, list_all}
use Rattle.std.proofs.lemmas.Bool.{and_from, and_parts, cases_lt, cases_order}
use Rattle.std.proofs.lemmas.List.{take-append-drop, take-take, take_all}
use Rattle.std.proofs.lemmas.List.Elements.{recursion_from_All}
use Rattle.machine_code.specs.Coded.{Code}
use Rattle.machine_code.specs.declared.op.Op.{Op}
use Rattle.machine_code.specs.Operands.{OpFits, IsNumber}
use Rattle.listing.specs.declared.fault.ListFault.{ListFault}
use Rattle.listing.specs.declared.fault.ListFault.TheVariants.{BadLine, BadOperand, Memory}
use Rattle.listing.specs.Faults.{BeginForm, BeginListing, HasBadLine, HasBadOperand, IsUnlessMemory}
use Rattle.listing.specs.Faults.{TellsListing, whole}
use Rattle.listing.specs.Forms.{IsEntryLine, IsOpLine}
use Rattle.listing.specs.Instructions.{written}
use Rattle.listing.specs.Listing.{CodeFits, IsListing, code_text, entry_line, entry_lines}
use Rattle.listing.specs.Listing.{first_line, inner_lines, last_line, op_line, spaced}
use Rattle.listing.proofs.Apart.{entries_are_lines, entries_have_form, entry_once, lines_apart}
use Rattle.listing.proofs.Apart.{op_once, ops_are_lines, ops_have_form}
use Rattle.listing.proofs.FirstLines.{code_of, inner_shape, whole-front}
use Rattle.listing.proofs.Forms.{HasNo-name, numerals-decimal, operands_fit}
use Rattle.listing.proofs.Fronts.{closing}
use Rattle.listing.proofs.Words.{HasNo-numeral}
use Rattle.text_lines.proofs.Cuts.{HasNo-append, HasNo-cons}
use Rattle.text_lines.proofs.Numerals.{is_numeral-decimal}
use Rattle.text_lines.proofs.Texts.{HaveNoEnd, ended_once, lines_in-all}
use Rattle.text_lines.specs.Lines.{lines_in, ended}
use Rattle.text_lines.specs.Numerals.{is_numeral}
use Rattle.text_lines.specs.Parts.{HasNo}

-- no LF stands in a line of a listing

words_no_end : (words : List (List ℕ)) → list_all is_numeral words ≡ true → HasNo 10 (flat_map spaced words)
unfolding HasNo
words_no_end [] numerals = refl
words_no_end (w ∷ words) numerals =
    let parts = and_parts (is_numeral w) (list_all is_numeral words) numerals in
    HasNo-append 10 (spaced w) (flat_map spaced words)
    (HasNo-cons 10 32 w (λ e. omega (arith, e)) (HasNo-numeral 10 w (omega arith) parts.0))
    (words_no_end words parts.1)

op_no_end : (op : Op) → OpFits op → HasNo 10 (op_line op)
unfolding op_line
op_no_end op fit =
    HasNo-append 10 (written op).name (flat_map spaced (map decimal (written op).operands))
    (HasNo-name 10 op (omega arith)) (words_no_end (map decimal (written op).operands)
    (numerals-decimal (written op).operands (operands_fit op fit)))

entry_word : HasNo 10 (codes "ENTRY")
unfolding HasNo
entry_word = refl

entry_no_end : (i address : ℕ) → i < 2 ^ 64 → IsNumber address → HasNo 10 (entry_line i address)
unfolding entry_line
entry_no_end i address few fit =
    let words = decimal i ∷ decimal address ∷ [] in
    let numerals : list_all is_numeral words ≡ true = and_from (is_numeral (decimal i))
    (list_all is_numeral (decimal address ∷ [])) (is_numeral-decimal i few)
    (and_from (is_numeral (decimal address)) (list_all is_numeral [])
    (is_numeral-decimal address (omega (arith, fit))) refl) in
    HasNo-append 10 (codes "ENTRY") (flat_map spaced words) entry_word (words_no_end words numerals)

entries_no_end : (i : ℕ) (entries : List ℕ) → i + length entries < 2 ^ 64 → AllByRecursion IsNumber entries → HaveNoEnd (entry_lines i entries)
unfolding entry_lines
entries_no_end i [] few fit = tt
entries_no_end i (a ∷ entries) few fit = (entry_no_end i a (omega arith) fit.0, entries_no_end (i + 1) entries (omega arith) fit.1)

ops_no_end : (ops : List Op) → AllByRecursion OpFits ops → HaveNoEnd (map op_line ops)
ops_no_end [] fit = tt
ops_no_end (op ∷ ops) fit = (op_no_end op fit.0, ops_no_end ops fit.1)

append_no_end : (xs ys : List (List ℕ)) → HaveNoEnd xs → HaveNoEnd ys → HaveNoEnd (xs ++ ys)
append_no_end [] ys h k = k
append_no_end (x ∷ xs) ys h k = (h.0, append_no_end xs ys h.1 k)

first_no_end : HasNo 10 first_line
unfolding HasNo
first_no_end = refl

last_no_end : HasNo 10 last_line
unfolding HasNo
last_no_end = refl

-- the lines of a listing
lines_of_listing : (text : List ℕ) (code : Code) → IsListing text code → lines_in text ≡ whole (inner_lines code)
unfolding code_text inner_lines lines_in
lines_of_listing text code is =
    let entries = entries_no_end 0 code.entries (omega (arith, is.fits.few)) (recursion_from_All IsNumber code.entries is.fits.entries) in
    let ops = ops_no_end code.ops (recursion_from_All OpFits code.ops is.fits.ops) in
    let inner = entry_lines 0 code.entries ++ map op_line code.ops in
    let lines = first_line ∷ inner ++ last_line ∷ [] in
    let none : HaveNoEnd lines = (
      first_no_end,
      append_no_end inner (last_line ∷ [])
          (append_no_end (entry_lines 0 code.entries) (map op_line code.ops) entries ops) (last_no_end, tt),
    ) in
    ap lines_in (is.so ∙ sym (append-nil (flat_map ended lines))) ∙ lines_in-all lines [] none

-- a text is the listing of one code

heads : {a b : List ℕ} {xs ys : List (List ℕ)} → ended a ∷ xs ≡ ended b ∷ ys → (a ≡ b) × (xs ≡ ys)
heads {a} {b} {xs} {ys} e =
    let first : ended a ≡ ended b = cc in
    let rest : xs ≡ ys = cc in
    (ended_once a b first, rest)

is_op : (op : Op) → OpFits op → IsOpLine (op_line op)
is_op op fit = record { op = op; fits = fit; so = refl }

is_entry : (i address : ℕ) → IsNumber address → IsEntryLine i (entry_line i address)
is_entry i address fit = record { address = address; fits = fit; so = refl }

same_ops : (os ps : List Op) → AllByRecursion OpFits os → AllByRecursion OpFits ps
    → map ended (map op_line os) ++ closing ≡ map ended (map op_line ps) ++ closing → os ≡ ps
same_ops [] [] fit too e = refl
same_ops [] (p ∷ ps) fit too e = absurd (lines_apart.op_last (op_line p) (is_op p too.0) (sym (heads e).0))
same_ops (o ∷ os) [] fit too e = absurd (lines_apart.op_last (op_line o) (is_op o fit.0) (heads e).0)
same_ops (o ∷ os) (p ∷ ps) fit too e =
    let cut = heads e in
    ap (λ (q : Op). q ∷ os) (op_once o p fit.0 too.0 cut.0) ∙ ap (λ (qs : List Op). p ∷ qs) (same_ops os ps fit.1 too.1 cut.1)

-- an entry is neither an instruction nor the last line
no_entry_here : (i address : ℕ) (os : List Op) (rest : List (List ℕ)) → IsNumber address → AllByRecursion OpFits os
    → map ended (map op_line os) ++ closing ≡ ended (entry_line i address) ∷ rest → ⊥
no_entry_here i address [] rest fit fits e = lines_apart.entry_last i (entry_line i address) (is_entry i address fit) (sym (heads e).0)
no_entry_here i address (o ∷ os) rest fit fits e =
    lines_apart.entry_op i (entry_line i address) (is_entry i address fit) (subst IsOpLine (heads e).0 (is_op o fits.0))

same_inner : (i : ℕ) (es fs : List ℕ) (os ps : List Op) → AllByRecursion IsNumber es → AllByRecursion IsNumber fs
    → AllByRecursion OpFits os → AllByRecursion OpFits ps
    → map ended (entry_lines i es) ++ (map ended (map op_line os) ++ closing) ≡ map ended (entry_lines i fs)
    ++ (map ended (map op_line ps) ++ closing) → (es ≡ fs) × (os ≡ ps)
unfolding entry_lines
same_inner i [] [] os ps he hf ho hp e = (refl, same_ops os ps ho hp e)
same_inner i [] (f ∷ fs) os ps he hf ho hp e = absurd
    (no_entry_here i f os (map ended (entry_lines (i + 1) fs) ++ (map ended (map op_line ps) ++ closing)) hf.0 ho e)
same_inner i (a ∷ es) [] os ps he hf ho hp e = absurd
    (no_entry_here i a ps (map ended (entry_lines (i + 1) es) ++ (map ended (map op_line os) ++ closing)) he.0 hp
    (sym e))
same_inner i (a ∷ es) (f ∷ fs) os ps he hf ho hp e =
    let cut = heads e in
    let more = same_inner (i + 1) es fs os ps he.1 hf.1 ho hp cut.1 in
    (ap (λ (k : ℕ). k ∷ es) (entry_once i a f he.0 hf.0 cut.0) ∙ ap (λ (ks : List ℕ). f ∷ ks) more.0, more.1)

pub one_code : (text : List ℕ) (c d : Code) → IsListing text c → IsListing text d → c ≡ d
unfolding inner_lines
one_code text c d is too =
    let e : whole (inner_lines c) ≡ whole (inner_lines d) = sym (lines_of_listing text c is) ∙ lines_of_listing text d too in
    let split : (map ended (first_line ∷ inner_lines c) ++ closing)
    ++ [] ≡ whole (inner_lines d) = append-nil (map ended (first_line ∷ inner_lines c) ++ closing)
    ∙ sym (whole-front (inner_lines c)) ∙ e in
    let inner = inner_shape (entry_lines 0 c.entries) (map op_line c.ops) (entry_lines 0 d.entries) (map op_line d.ops) closing [] split in
    let same = same_inner 0 c.entries d.entries c.ops d.ops (recursion_from_All IsNumber c.entries is.fits.entries)
    (recursion_from_All IsNumber d.entries too.fits.entries) (recursion_from_All OpFits c.ops is.fits.ops)
    (recursion_from_All OpFits d.ops too.fits.ops)
    (ap (λ (ls : List (List ℕ)). map ended (entry_lines 0 c.entries) ++ (map ended (map op_line c.ops) ++ ls))
    (sym (append-nil closing)) ∙ inner) in
    ap (λ (ops : List Op). code_of ops c.entries) same.1 ∙ ap (code_of d.ops) same.0

-- lines that begin a listing have its form
form_of_listing : (lines : List (List ℕ)) → BeginListing lines → BeginForm lines
unfolding inner_lines
form_of_listing lines b =
    let es = entry_lines 0 b.code.entries in
    let os = map op_line b.code.ops in
    record {
      entries = es;
      ops = os;
      rest = b.rest;
      numbered = entries_have_form 0 es (entries_are_lines 0 b.code.entries (recursion_from_All IsNumber b.code.entries b.fits.entries));
      named = ops_have_form os (ops_are_lines b.code.ops (recursion_from_All OpFits b.code.ops b.fits.ops));
      so = b.so;
    }

-- the front of what begins a listing begins it
fewer_begin : (lines : List (List ℕ)) (l m : ℕ) → l ≤ m → BeginListing (take m lines) → BeginListing (take l lines)
fewer_begin lines l m few b =
    let front : take l (take m lines) ≡ take l lines = take-take l m lines few in
    let back = drop l (take m lines) in
    record {
      code = b.code;
      fits = b.fits;
      rest = back ++ b.rest;
      so = sym (append_assoc (take l lines) back b.rest)
          ∙ ap (λ (ls : List (List ℕ)). ls ++ b.rest)
          (ap (λ (ls : List (List ℕ)). ls ++ back) (sym front) ∙ take-append-drop l (take m lines)) ∙ b.so;
    }

-- all first lines of a listing begin one
listing_begins : (text : List ℕ) (code : Code) (l : ℕ) → IsListing text code → BeginListing (take l (lines_in text))
listing_begins text code l is = record {
  code = code;
  fits = is.fits;
  rest = drop l (lines_in text);
  so = take-append-drop l (lines_in text) ∙ lines_of_listing text code is;
}

-- the first fault of a text
record HasFault (text : List ℕ) (l : ℕ) : Type 0 where
  before : BeginListing (take (l - 1) (lines_in text))
  here : BeginListing (take l (lines_in text)) → ⊥

fault_of_line : (text : List ℕ) (l : ℕ) → HasBadLine text l → HasFault text l
fault_of_line text l bad = record { before = bad.before; here = λ b. bad.here (form_of_listing (take l (lines_in text)) b) }

fault_of_operand : (text : List ℕ) (l : ℕ) → HasBadOperand text l → HasFault text l
fault_of_operand text l bad = record { before = bad.before; here = bad.here }

not_before : (text : List ℕ) (l m : ℕ) → HasFault text l → HasFault text m → l < m → ⊥
not_before text l m fault other less = fault.here (fewer_begin (lines_in text) l (m - 1) (omega arith) other.before)

one_fault : (text : List ℕ) (l m : ℕ) → HasFault text l → HasFault text m → l ≡ m
one_fault text l m fault other = elim (cases_order l m) as (λ _. l ≡ m) [
  | inl same ↦ same
  | inr (inl less) ↦ absurd (not_before text l m fault other less)
  | inr (inr more) ↦ absurd (not_before text m l other fault more)
]

no_fault : (text : List ℕ) (code : Code) (l : ℕ) → IsListing text code → HasFault text l → ⊥
no_fault text code l is fault = fault.here (listing_begins text code l is)

one_kind : (text : List ℕ) (l m : ℕ) → HasBadLine text l → HasBadOperand text m → ⊥
one_kind text l m bad other =
    let same = one_fault text l m (fault_of_line text l bad) (fault_of_operand text m other) in
    bad.here (subst (λ (k : ℕ). BeginForm (take k (lines_in text))) (sym same) other.form)

one_answer : (text : List ℕ) (told wanted : Result Code ListFault) → TellsListing text told → TellsListing text wanted
    → wanted ≢ Err Memory → IsUnlessMemory told wanted
one_answer text (Err Memory) wanted a b some = tt
one_answer text (Ok c) (Ok d) a b some = ap (λ (k : Code). Ok k) (one_code text c d a b)
one_answer text (Ok c) (Err (BadLine m)) a b some = absurd (no_fault text c m a (fault_of_line text m b))
one_answer text (Ok c) (Err (BadOperand m)) a b some = absurd (no_fault text c m a (fault_of_operand text m b))
one_answer text (Ok c) (Err Memory) a b some = absurd (some refl)
one_answer text (Err (BadLine l)) (Ok d) a b some = absurd (no_fault text d l b (fault_of_line text l a))
one_answer text (Err (BadLine l)) (Err (BadLine m)) a b some = ap (λ (k : ℕ). Err (BadLine k))
    (one_fault text l m (fault_of_line text l a) (fault_of_line text m b))
one_answer text (Err (BadLine l)) (Err (BadOperand m)) a b some = absurd (one_kind text l m a b)
one_answer text (Err (BadLine l)) (Err Memory) a b some = absurd (some refl)
one_answer text (Err (BadOperand l)) (Ok d) a b some = absurd (no_fault text d l b (fault_of_operand text l a))
one_answer text (Err (BadOperand l)) (Err (BadLine m)) a b some = absurd (one_kind text m l b a)
one_answer text (Err (BadOperand l)) (Err (BadOperand m)) a b some = ap (λ (k : ℕ). Err (BadOperand k))
    (one_fault text l m (fault_of_operand text l a) (fault_of_operand text m b))
one_answer text (Err (BadOperand l)) (Err Memory) a b some = absurd (some refl)

-- a fault is at one of the lines
fault_within : (text : List ℕ) (l : ℕ) → HasFault text l → (1 ≤ l) × (l ≤ length (lines_in text))
fault_within text l fault = (at_least l fault, at_most (cases_le l (length (lines_in text))))
  where
    at_least : (l : ℕ) → HasFault text l → 1 ≤ l
    at_least zero fault = absurd (fault.here fault.before)
    at_least (suc l) fault = omega arith

    cases_le : (m n : ℕ) → (n < m) ⊎ (m ≤ n)
    cases_le m n = cases_lt n m

    at_most : (length (lines_in text) < l) ⊎ (l ≤ length (lines_in text)) → l ≤ length (lines_in text)
    at_most (inr within) = within
    at_most (inl past) =
        let all : take l (lines_in text) ≡ lines_in text = take_all l (lines_in text) (omega arith) in
        let too : take (l - 1) (lines_in text) ≡ lines_in text = take_all (l - 1) (lines_in text) (omega arith) in
        absurd (fault.here (subst BeginListing (too ∙ sym all) fault.before))

pub bad_line_within : (text : List ℕ) (l : ℕ) → HasBadLine text l → (1 ≤ l) × (l ≤ length (lines_in text))
bad_line_within text l bad = fault_within text l (fault_of_line text l bad)

pub bad_operand_within : (text : List ℕ) (l : ℕ) → HasBadOperand text l → (1 ≤ l) × (l ≤ length (lines_in text))
bad_operand_within text l bad = fault_within text l (fault_of_operand text l bad)

pub listing_told : (text : List ℕ) (told : Result Code ListFault) (code : Code) → TellsListing text told → IsListing text code → IsUnlessMemory told (Ok code)
listing_told text told code tells is = one_answer text told (Ok code) tells is (λ e. differ e)
  where
    differ : ◌≡◌ {A = Result Code ListFault} (Ok code) (Err Memory) → ⊥
    differ e = cc

pub bad_line_told : (text : List ℕ) (told : Result Code ListFault) (l : ℕ) → TellsListing text told → HasBadLine text l → IsUnlessMemory told (Err (BadLine l))
bad_line_told text told l tells bad = one_answer text told (Err (BadLine l)) tells bad (λ e. differ e)
  where
    differ : ◌≡◌ {A = Result Code ListFault} (Err (BadLine l)) (Err Memory) → ⊥
    differ e = cc

pub bad_operand_told : (text : List ℕ) (told : Result Code ListFault) (l : ℕ) → TellsListing text told
    → HasBadOperand text l → IsUnlessMemory told (Err (BadOperand l))
bad_operand_told text told l tells bad = one_answer text told (Err (BadOperand l)) tells bad (λ e. differ e)
  where
    differ : ◌≡◌ {A = Result Code ListFault} (Err (BadOperand l)) (Err Memory) → ⊥
    differ e = cc

-- a text is what its lines are
pub one_spelling : (t u : List ℕ) (code : Code) → IsListing t code → IsListing u code → t ≡ u
one_spelling t u code is too = is.so ∙ sym too.so

pub own_listing : (code : Code) → CodeFits code → IsListing (code_text code) code
own_listing code fits = record { fits = fits; so = refl }

-- the code that was read, unless memory was refused
pub code_told : (text : List ℕ) (told : Result Code ListFault) (code : Code) → IsListing text code → IsUnlessMemory told (Ok code) → TellsListing text told
code_told text (Ok c) code listing is =
    let e : ◌≡◌ {A = Result Code ListFault} (Ok c) (Ok code) = is in
    let same : c ≡ code = cc in
    subst (λ (d : Code). IsListing text d) (sym same) listing
code_told text (Err (BadLine l)) code listing is = absurd (differ is)
  where
    differ : ◌≡◌ {A = Result Code ListFault} (Err (BadLine l)) (Ok code) → ⊥
    differ e = cc
code_told text (Err (BadOperand l)) code listing is = absurd (differ is)
  where
    differ : ◌≡◌ {A = Result Code ListFault} (Err (BadOperand l)) (Ok code) → ⊥
    differ e = cc
code_told text (Err Memory) code listing is = tt
