-- A text read from its front, line by line.
use Rattle.std.proofs.Common.{◌≡◌, ◌≢◌, ℕ, suc, ◌+◌, ◌-◌, ◌<◌, ◌≤◌, ◌^◌, Bool, true, nat_eq, List}
use Rattle.std.proofs.Common.{[], ◌∷◌, ◌++◌, length, map, take, All, Ok, Err, refl, sym, ap, subst}
use Rattle.std.proofs.Common.{◌∙◌, arith, append_assoc, append-nil, length-append, ◌⊎◌, inl, inr}
use Rattle.std.specs.List.{AllByRecursion}
use Rattle.std.proofs.lemmas.Bool.{eqb-true}
use Rattle.std.proofs.lemmas.List.{length-map, map-append, nil_from_length}
use Rattle.std.proofs.lemmas.List.Elements.{All-nil, All-push, recursion_from_All}
use Rattle.machine_code.specs.Coded.{Code}
use Rattle.machine_code.specs.declared.op.Op.{Op}
use Rattle.machine_code.specs.Operands.{OpFits, IsNumber}
use Rattle.listing.specs.declared.fault.LineFault.{LineFault}
use Rattle.listing.specs.declared.fault.LineFault.TheVariants.{Form, Operand}
use Rattle.listing.specs.declared.fault.ListFault.{ListFault}
use Rattle.listing.specs.declared.statement.Statement.{Statement}
use Rattle.listing.specs.declared.statement.Statement.TheVariants.{Entry, Instruction}
use Rattle.listing.specs.Faults.{BeginForm, BeginListing, HasBadLine, HasBadOperand, TellsListing}
use Rattle.listing.specs.Faults.{whole}
use Rattle.listing.specs.Forms.{EachFrom, HasEntryForm, HasOpForm, IsEntryLine, IsOpLine}
use Rattle.listing.specs.Listing.{CodeFits, IsListing, entry_line, entry_lines, first_line}
use Rattle.listing.specs.Listing.{inner_lines, last_line, op_line}
use Rattle.listing.specs.Statements.{AddsStatement, HasBadNumber, HasNoForm, ReadsStatement}
use Rattle.listing.specs.Statements.{fault_at}
use Rattle.listing.proofs.Apart.{entries_are_lines, entries_have_form, forms_apart, lines_apart}
use Rattle.listing.proofs.Apart.{ops_are_lines, ops_have_form}
use Rattle.listing.proofs.Fronts.{closing, line_last, line_next}
use Rattle.listing.proofs.Texts.{code_text-lines, ended_has, lines_in-open, some_line}
use Rattle.text_lines.proofs.Texts.{ended_once, lines_in-cut}
use Rattle.text_lines.specs.Lines.{lines_in, ended}
use Rattle.text_lines.specs.Parts.{HasNo, IsCut}
use Rattle.text_lines.proofs.Taken.{before_here, up_to_here}

-- code of these instructions and entries
abbrev pub code_of : List Op → List ℕ → Code
code_of ops entries = record { ops = ops; entries = entries }

-- the first lines of its listing, up to the last
abbrev pub front : Code → List (List ℕ)
front code = map ended (first_line ∷ inner_lines code)

pub whole-front : (inner : List (List ℕ)) → whole inner ≡ map ended (first_line ∷ inner) ++ closing
whole-front inner =
    ap (λ (ls : List (List ℕ)). ls ++ [] ∷ []) (map-append ended (first_line ∷ inner) (last_line ∷ []))
    ∙ append_assoc (map ended (first_line ∷ inner)) (ended last_line ∷ []) ([] ∷ [])

-- lines that begin a whole, without the first
pub inner_shape : (es os fs all pieces more : List (List ℕ))
    → (map ended (first_line ∷ es ++ os) ++ pieces) ++ more ≡ whole (fs ++ all)
    → map ended es ++ (map ended os ++ (pieces ++ more)) ≡ map ended fs ++ (map ended all ++ closing)
inner_shape es os fs all pieces more e =
    let split : ended first_line ∷ (map ended (es ++ os) ++ pieces) ++ more ≡ ended first_line ∷ map ended (fs ++ all)
    ++ closing = e ∙ whole-front (fs ++ all) in
    let rest : (map ended (es ++ os) ++ pieces) ++ more ≡ map ended (fs ++ all) ++ closing = cc in
    let left : (map ended (es ++ os) ++ pieces) ++ more ≡ map ended es ++ (map ended os ++ (pieces ++ more)) =
    append_assoc (map ended (es ++ os)) pieces more
    ∙ ap (λ (ls : List (List ℕ)). ls ++ (pieces ++ more)) (map-append ended es os)
    ∙ append_assoc (map ended es) (map ended os) (pieces ++ more) in
    let right : map ended (fs ++ all) ++ closing ≡ map ended fs ++ (map ended all ++ closing) =
    ap (λ (ls : List (List ℕ)). ls ++ closing) (map-append ended fs all) ∙ append_assoc (map ended fs) (map ended all) closing in
    sym left ∙ rest ∙ right

length-entry_lines : (i : ℕ) (entries : List ℕ) → length (entry_lines i entries) ≡ length entries
unfolding entry_lines
length-entry_lines i [] = refl
length-entry_lines i (a ∷ entries) = ap (λ (n : ℕ). suc n) (length-entry_lines (i + 1) entries)

entry_lines-push : (i a : ℕ) (entries : List ℕ) → entry_lines i (entries ++ a ∷ []) ≡ entry_lines i entries ++ entry_line (i + length entries) a ∷ []
unfolding entry_lines
entry_lines-push i a [] = let here : i ≡ i + 0 = omega arith in ap (λ (k : ℕ). entry_line k a ∷ []) here
entry_lines-push i a (b ∷ entries) =
    let there : i + 1 + length entries ≡ i + suc (length entries) = omega arith in
    ap (λ (ls : List (List ℕ)). entry_line i b ∷ ls)
    (entry_lines-push (i + 1) a entries ∙ ap (λ (k : ℕ). entry_lines (i + 1) entries ++ entry_line k a ∷ []) there)

-- the first lines of a listing begin it
front_begins : (code : Code) → CodeFits code → BeginListing (front code)
front_begins code fits = record { code = code; fits = fits; rest = closing; so = sym (whole-front (inner_lines code)) }

-- what stands behind them in a listing, or in a text of its form

map_nil : (ops : List Op) → map op_line ops ≡ [] → ops ≡ []
map_nil [] e = refl
map_nil (op ∷ ops) e = let no : ◌≡◌ {A = List (List ℕ)} (op_line op ∷ map op_line ops) [] = e in cc

Next : (ℕ → List ℕ → Type 0) → (List ℕ → Type 0) → Code → List ℕ → Type 0
Next E O code piece = (line : List ℕ) × (piece ≡ ended line) × (((code.ops ≡ []) × E (length code.entries) line) ⊎ (O line ⊎ (line ≡ last_line)))

next_named : (E : ℕ → List ℕ → Type 0) (O : List ℕ → Type 0) (code : Code) (piece : List ℕ)
    → (line : List ℕ) × (piece ≡ ended line) × (((map op_line code.ops ≡ [])
    × E (0 + length (entry_lines 0 code.entries)) line) ⊎ (O line ⊎ (line ≡ last_line))) → Next E O code piece
unfolding Next
next_named E O code piece (line, is, inl here) =
    let count : 0 + length (entry_lines 0 code.entries) ≡ length code.entries = omega (arith, length-entry_lines 0 code.entries) in
    (line, is, inl (map_nil code.ops here.0, subst (λ (k : ℕ). E k line) count here.1))
next_named E O code piece (line, is, inr here) = (line, is, inr here)

form_next : (code : Code) (piece : List ℕ) → CodeFits code → BeginForm (front code ++ piece ∷ []) → Next HasEntryForm HasOpForm code piece
unfolding inner_lines
form_next code piece fits b =
    let es = entry_lines 0 code.entries in
    let os = map op_line code.ops in
    let entries = entries_are_lines 0 code.entries (recursion_from_All IsNumber code.entries fits.entries) in
    let ops = ops_are_lines code.ops (recursion_from_All OpFits code.ops fits.ops) in
    next_named HasEntryForm HasOpForm code piece
    (line_next HasEntryForm HasOpForm forms_apart 0 es os b.entries b.ops piece b.rest
    (entries_have_form 0 es entries) (ops_have_form os ops) b.numbered b.named
    (inner_shape es os b.entries b.ops (piece ∷ []) b.rest b.so))

listing_next : (code : Code) (piece : List ℕ) → CodeFits code → BeginListing (front code ++ piece ∷ []) → Next IsEntryLine IsOpLine code piece
unfolding inner_lines
listing_next code piece fits b =
    let es = entry_lines 0 code.entries in
    let os = map op_line code.ops in
    let fs = entry_lines 0 b.code.entries in
    let all = map op_line b.code.ops in
    next_named IsEntryLine IsOpLine code piece
    (line_next IsEntryLine IsOpLine lines_apart 0 es os fs all piece b.rest
    (entries_are_lines 0 code.entries (recursion_from_All IsNumber code.entries fits.entries))
    (ops_are_lines code.ops (recursion_from_All OpFits code.ops fits.ops))
    (entries_are_lines 0 b.code.entries (recursion_from_All IsNumber b.code.entries b.fits.entries))
    (ops_are_lines b.code.ops (recursion_from_All OpFits b.code.ops b.fits.ops))
    (inner_shape es os fs all (piece ∷ []) b.rest b.so))

-- nothing stands behind the last line
form_past : (code : Code) (piece : List ℕ) → CodeFits code → BeginForm (front code ++ ended last_line ∷ piece ∷ []) → piece ≡ []
unfolding inner_lines
form_past code piece fits b =
    let es = entry_lines 0 code.entries in
    let os = map op_line code.ops in
    let entries = entries_are_lines 0 code.entries (recursion_from_All IsNumber code.entries fits.entries) in
    let ops = ops_are_lines code.ops (recursion_from_All OpFits code.ops fits.ops) in
    line_last HasEntryForm HasOpForm forms_apart 0 es os b.entries b.ops piece b.rest (entries_have_form 0 es entries)
    (ops_have_form os ops) b.numbered b.named
    (inner_shape es os b.entries b.ops (ended last_line ∷ piece ∷ []) b.rest b.so)

-- a line of the form goes on with the form

each_push : (P : ℕ → List ℕ → Type 0) (i : ℕ) (lines : List (List ℕ)) (line : List ℕ) → EachFrom P i lines
    → P (i + length lines) line → EachFrom P i (lines ++ line ∷ [])
each_push P i [] line each here = let at : i + 0 ≡ i = omega arith in (subst (λ (k : ℕ). P k line) at here, tt)
each_push P i (l ∷ lines) line each here =
    let at : i + suc (length lines) ≡ i + 1 + length lines = omega arith in
    (each.0, each_push P (i + 1) lines line each.1 (subst (λ (k : ℕ). P k line) at here))

all_push : (P : List ℕ → Type 0) (lines : List (List ℕ)) (line : List ℕ) → AllByRecursion P lines → P line → AllByRecursion P (lines ++ line ∷ [])
all_push P [] line all here = (here, tt)
all_push P (l ∷ lines) line all here = (all.0, all_push P lines line all.1 here)

pushed_shape : (inner : List (List ℕ)) (line : List ℕ) → (map ended (first_line ∷ inner) ++ ended line ∷ []) ++ closing ≡ whole (inner ++ line ∷ [])
pushed_shape inner line = ap (λ (ls : List (List ℕ)). ls ++ closing)
    (sym (map-append ended (first_line ∷ inner) (line ∷ []))) ∙ sym (whole-front (inner ++ line ∷ []))

op_goes_on : (code : Code) (line : List ℕ) → CodeFits code → HasOpForm line → BeginForm (front code ++ ended line ∷ [])
unfolding inner_lines
op_goes_on code line fits form =
    let es = entry_lines 0 code.entries in
    let os = map op_line code.ops in
    record {
      entries = es;
      ops = os ++ line ∷ [];
      rest = closing;
      numbered = entries_have_form 0 es (entries_are_lines 0 code.entries (recursion_from_All IsNumber code.entries fits.entries));
      named = all_push HasOpForm os line (ops_have_form os (ops_are_lines code.ops (recursion_from_All OpFits code.ops fits.ops))) form;
      so = pushed_shape (es ++ os) line ∙ ap whole (append_assoc es os (line ∷ []));
    }

entry_goes_on : (code : Code) (line : List ℕ) → CodeFits code → code.ops ≡ [] → HasEntryForm (length code.entries) line
    → BeginForm (front code ++ ended line ∷ [])
unfolding inner_lines
entry_goes_on code line fits none form =
    let es = entry_lines 0 code.entries in
    let count : length code.entries ≡ 0 + length es = omega (arith, length-entry_lines 0 code.entries) in
    let alone : es ++ map op_line code.ops ≡ es = ap (λ (ops : List Op). es ++ map op_line ops) none ∙ append-nil es in
    record {
      entries = es ++ line ∷ [];
      ops = [];
      rest = closing;
      numbered = each_push HasEntryForm 0 es line
          (entries_have_form 0 es (entries_are_lines 0 code.entries
          (recursion_from_All IsNumber code.entries fits.entries))) (subst (λ (k : ℕ). HasEntryForm k line) count form);
      named = tt;
      so = pushed_shape (es ++ map op_line code.ops) line ∙ ap (λ (ls : List (List ℕ)). whole (ls ++ line ∷ [])) alone
          ∙ ap whole (sym (append-nil (es ++ line ∷ [])));
    }

-- so far the text is the front of a listing, of so many lines
pub record Read (text rest : List ℕ) (ops : List Op) (entries : List ℕ) (number : ℕ) : Type 0 where
  pub fits : CodeFits (code_of ops entries)
  pub so : lines_in text ≡ front (code_of ops entries) ++ lines_in rest
  pub counted : number ≡ length (front (code_of ops entries))
  pub room : number + length rest ≤ length text

-- a piece that no listing's form has here is a bad line
bad_line : (text rest : List ℕ) (ops : List Op) (entries : List ℕ) (number : ℕ) (piece : List ℕ)
    (pieces : List (List ℕ)) → Read text rest ops entries number → lines_in rest ≡ piece ∷ pieces
    → (BeginForm (front (code_of ops entries) ++ piece ∷ []) → ⊥) → HasBadLine text (number + 1)
bad_line text rest ops entries number piece pieces r first none =
    let code = code_of ops entries in
    let less : number + 1 - 1 ≡ number = omega arith in
    let so = r.so ∙ ap (λ (ls : List (List ℕ)). front code ++ ls) first in
    record {
      before = subst BeginListing (sym (ap (λ (k : ℕ). take k (lines_in text)) less
          ∙ before_here text (front code) (lines_in rest) number r.so r.counted)) (front_begins code r.fits);
      here = λ b. none (subst BeginForm (up_to_here text (front code) piece pieces number so r.counted) b);
    }

pub read_begin : (text rest : List ℕ) → IsCut 10 text first_line rest → Read text rest [] [] 1
unfolding inner_lines entry_lines
read_begin text rest next = record {
  fits = record { ops = All-nil OpFits; entries = All-nil IsNumber; few = omega arith };
  so = ap lines_in next.so ∙ lines_in-cut first_line rest next.apart;
  counted = refl;
  room = omega (arith, ap length next.so, length-append first_line (10 ∷ rest));
}

-- what a line leaves
line_room : (rest line after : List ℕ) → IsCut 10 rest line after → length after < length rest
line_room rest line after next = omega (arith, ap length next.so, length-append line (10 ∷ after))

lines_after : (rest line after : List ℕ) → IsCut 10 rest line after → lines_in rest ≡ ended line ∷ lines_in after
lines_after rest line after next = ap lines_in next.so ∙ lines_in-cut line after next.apart

-- one more line at the end of the first ones
front_push : (inner more : List (List ℕ)) (line : List ℕ) (pieces : List (List ℕ)) → more ≡ inner ++ line ∷ []
    → map ended (first_line ∷ inner) ++ ended line ∷ pieces ≡ map ended (first_line ∷ more) ++ pieces
front_push inner more line pieces e =
    sym (append_assoc (map ended (first_line ∷ inner)) (ended line ∷ []) pieces)
    ∙ ap (λ (ls : List (List ℕ)). ls ++ pieces)
    (sym (map-append ended (first_line ∷ inner) (line ∷ []))
    ∙ ap (λ (ls : List (List ℕ)). map ended (first_line ∷ ls)) (sym e))

front_count : (inner more : List (List ℕ)) (line : List ℕ) (number : ℕ) → more ≡ inner ++ line ∷ []
    → number ≡ length (map ended (first_line ∷ inner)) → number + 1 ≡ length (map ended (first_line ∷ more))
front_count inner more line number e counted =
    omega (arith, length-map (first_line ∷ inner) ended, length-map (first_line ∷ more) ended, ap length e, length-append inner (line ∷ []), counted)

goes_on : (text rest line after : List ℕ) (ops more_ops : List Op) (entries more : List ℕ) (number : ℕ)
    → Read text rest ops entries number → IsCut 10 rest line after → CodeFits (code_of more_ops more)
    → inner_lines (code_of more_ops more) ≡ inner_lines (code_of ops entries) ++ line ∷ []
    → Read text after more_ops more (number + 1)
goes_on text rest line after ops more_ops entries more number r next fits pushed =
    let inner = inner_lines (code_of ops entries) in
    let longer = inner_lines (code_of more_ops more) in
    record {
      fits = fits;
      so = r.so ∙ ap (λ (ls : List (List ℕ)). front (code_of ops entries) ++ ls) (lines_after rest line after next)
          ∙ front_push inner longer line (lines_in after) pushed;
      counted = front_count inner longer line number pushed r.counted;
      room = omega (arith, r.room, line_room rest line after next);
    }

none_yet : (ops : List Op) (at_entries : Bool) → at_entries ≡ nat_eq (length ops) 0 → at_entries ≡ true → ops ≡ []
none_yet ops at_entries is here = nil_from_length ops (eqb-true (length ops) 0 (sym is ∙ here))

read_entry : (text rest line after : List ℕ) (ops : List Op) (entries more : List ℕ) (number address : ℕ)
    (at_entries : Bool) → Read text rest ops entries number → IsCut 10 rest line after
    → at_entries ≡ nat_eq (length ops) 0 → (at_entries ≡ true) × IsNumber address
    × (line ≡ entry_line (length entries) address) → length text ≤ 2 ^ 24 → more ≡ entries ++ address ∷ []
    → Read text after ops more (number + 1)
unfolding inner_lines
read_entry text rest line after ops entries more number address at_entries r next at (here, fit, is) small pushed =
    let none = none_yet ops at_entries at here in
    let es = entry_lines 0 entries in
    let counted : length entries ≤ length (front (code_of ops entries)) =
    omega (arith, length-map (first_line ∷ es ++ map op_line ops) ended, length-append es (map op_line ops), length-entry_lines 0 entries) in
    let fits : CodeFits (code_of ops more) = record {
      ops = r.fits.ops;
      entries = subst (All IsNumber) (sym pushed) (All-push IsNumber entries address r.fits.entries fit);
      few = omega (arith, ap length pushed, length-append entries (address ∷ []), counted, r.counted, r.room);
    } in
    let zero_more : 0 + length entries ≡ length entries = omega arith in
    let last : entry_lines 0 more ≡ es ++ line ∷ [] = ap (entry_lines 0) pushed ∙ entry_lines-push 0 address entries
    ∙ ap (λ (k : ℕ). es ++ entry_line k address ∷ []) zero_more ∙ ap (λ (l : List ℕ). es ++ l ∷ []) (sym is) in
    let alone : es ++ map op_line ops ≡ es = ap (λ (os : List Op). es ++ map op_line os) none ∙ append-nil es in
    let alone_more : entry_lines 0 more ++ map op_line ops
    ≡ entry_lines 0 more = ap (λ (os : List Op). entry_lines 0 more ++ map op_line os) none
    ∙ append-nil (entry_lines 0 more) in
    goes_on text rest line after ops ops entries more number r next fits (alone_more ∙ last ∙ ap (λ (ls : List (List ℕ)). ls ++ line ∷ []) (sym alone))

read_op : (text rest line after : List ℕ) (ops more : List Op) (entries : List ℕ) (number : ℕ) (op : Op)
    → Read text rest ops entries number → IsCut 10 rest line after → OpFits op × (line ≡ op_line op)
    → more ≡ ops ++ op ∷ [] → Read text after more entries (number + 1)
unfolding inner_lines
read_op text rest line after ops more entries number op r next (fit, is) pushed =
    let es = entry_lines 0 entries in
    let fits : CodeFits (code_of more entries) = record {
      ops = subst (All OpFits) (sym pushed) (All-push OpFits ops op r.fits.ops fit);
      entries = r.fits.entries;
      few = r.fits.few;
    } in
    let last : map op_line more ≡ map op_line ops ++ line ∷ [] = ap (map op_line) pushed
    ∙ map-append op_line ops (op ∷ []) ∙ ap (λ (l : List ℕ). map op_line ops ++ l ∷ []) (sym is) in
    goes_on text rest line after ops more entries entries number r next fits
    (ap (λ (ls : List (List ℕ)). es ++ ls) last ∙ sym (append_assoc es (map op_line ops) (line ∷ [])))

pub read_more : (text rest line after : List ℕ) (ops new_ops : List Op) (entries new_entries : List ℕ) (number : ℕ)
    (at_entries : Bool) (said : Statement) → Read text rest ops entries number → IsCut 10 rest line after
    → at_entries ≡ nat_eq (length ops) 0 → ReadsStatement (length entries) at_entries line (Ok said)
    → length text ≤ 2 ^ 24 → AddsStatement said ops entries new_ops new_entries
    → Read text after new_ops new_entries (number + 1)
read_more text rest line after ops new_ops entries new_entries number at_entries (Entry address) r next at reads small adds =
    subst (λ (os : List Op). Read text after os new_entries (number + 1)) (sym adds.0)
    (read_entry text rest line after ops entries new_entries number address at_entries r next at reads small adds.1)
read_more text rest line after ops new_ops entries new_entries number at_entries (Instruction op) r next at reads small adds =
    subst (λ (es : List ℕ). Read text after new_ops es (number + 1)) (sym adds.1)
    (read_op text rest line after ops new_ops entries number op r next reads adds.0)

-- there are few entries
pub read_few : (text rest : List ℕ) (ops : List Op) (entries : List ℕ) (number : ℕ) → Read text rest ops entries number
    → length text ≤ 2 ^ 24 → length entries < 2 ^ 32
unfolding inner_lines
read_few text rest ops entries number r small =
    omega (
      arith,
      length-map (first_line ∷ entry_lines 0 entries ++ map op_line ops) ended,
      length-append
          (entry_lines 0 entries) (map op_line ops),
      length-entry_lines 0 entries,
      r.counted,
      r.room,
    )

-- the last line, with nothing behind it
pub read_last : (text rest line after : List ℕ) (ops : List Op) (entries : List ℕ) (number : ℕ)
    → Read text rest ops entries number → IsCut 10 rest line after → line ≡ last_line → after ≡ []
    → IsListing text (code_of ops entries)
unfolding lines_in
read_last text rest line after ops entries number r next is none =
    let code = code_of ops entries in
    let end : lines_in rest ≡ closing = lines_after rest line after next
    ∙ ap (λ (l : List ℕ). ended l ∷ lines_in after) is ∙ ap (λ (t : List ℕ). ended last_line ∷ lines_in t) none in
    record { fits = r.fits; so = code_text-lines text code (r.so ∙ ap (λ (ls : List (List ℕ)). front code ++ ls) end ∙ sym (whole-front (inner_lines code))) }

-- bytes behind the last line
pub read_past : (text rest line after : List ℕ) (ops : List Op) (entries : List ℕ) (number : ℕ)
    → Read text rest ops entries number → IsCut 10 rest line after → line ≡ last_line → after ≢ []
    → HasBadLine text (number + 2)
read_past text rest line [] ops entries number r next is some = absurd (some refl)
read_past text rest line (b ∷ after) ops entries number r next is some =
    let code = code_of ops entries in
    let behind = some_line b after in
    let piece = b ∷ behind.0 in
    let lines : lines_in rest ≡ ended last_line ∷ piece ∷ behind.1 = lines_after rest line (b ∷ after) next
    ∙ ap (λ (l : List ℕ). ended l ∷ lines_in (b ∷ after)) is
    ∙ ap (λ (ls : List (List ℕ)). ended last_line ∷ ls) behind.2 in
    let so : lines_in text ≡ front code ++ ended last_line ∷ piece ∷ behind.1 = r.so ∙ ap (λ (ls : List (List ℕ)). front code ++ ls) lines in
    let so_last : lines_in text ≡ (front code ++ ended last_line ∷ []) ++ piece ∷ behind.1 =
    so ∙ sym (append_assoc (front code) (ended last_line ∷ []) (piece ∷ behind.1)) in
    let counted : number + 1 ≡ length (front code ++ ended last_line ∷ []) = omega (arith, length-append (front code) (ended last_line ∷ []), r.counted) in
    let less : number + 2 - 1 ≡ number + 1 = omega arith in
    let sum : number + 2 ≡ number + 1 + 1 = omega arith in
    let upto : take (number + 2) (lines_in text) ≡ front code ++ ended last_line ∷ piece ∷ [] =
    ap (λ (k : ℕ). take k (lines_in text)) sum
    ∙ up_to_here text (front code ++ ended last_line ∷ []) piece behind.1 (number + 1) so_last counted
    ∙ append_assoc (front code) (ended last_line ∷ []) (piece ∷ []) in
    let before : take (number + 2 - 1) (lines_in text) ≡ front code ++ ended last_line ∷ [] =
    ap (λ (k : ℕ). take k (lines_in text)) less ∙ before_here text (front code ++ ended last_line ∷ []) (piece ∷ behind.1) (number + 1) so_last counted in
    record {
      before = subst BeginListing (sym before)
          (record {
            code = code;
            fits = r.fits;
            rest = [] ∷ [];
            so = append_assoc (front code) (ended last_line ∷ []) ([] ∷ []) ∙ sym (whole-front (inner_lines code));
          });
      here = λ b. not_empty (form_past code piece r.fits (subst BeginForm upto b));
    }
  where
    not_empty : {xs : List ℕ} → b ∷ xs ≡ [] → ⊥
    not_empty e = cc

-- a line that has not the form
read_strange : (text rest line after : List ℕ) (ops : List Op) (entries : List ℕ) (number : ℕ) (at_entries : Bool)
    → Read text rest ops entries number → IsCut 10 rest line after → at_entries ≡ nat_eq (length ops) 0
    → HasNoForm (length entries) at_entries line → HasBadLine text (number + 1)
unfolding Next
read_strange text rest line after ops entries number at_entries r next at strange =
    bad_line text rest ops entries number (ended line) (lines_in after) r (lines_after rest line after next)
    (λ b. told (form_next (code_of ops entries) (ended line) r.fits b))
  where
    told : Next HasEntryForm HasOpForm (code_of ops entries) (ended line) → ⊥
    told (l, is, inl here) =
        let same : l ≡ line = sym (ended_once line l is) in
        let stands : at_entries ≡ true = at ∙ ap (λ (os : List Op). nat_eq (length os) 0) here.0 in
        strange.entry stands (subst (HasEntryForm (length entries)) same here.1)
    told (l, is, inr (inl here)) = strange.op (subst HasOpForm (sym (ended_once line l is)) here)
    told (l, is, inr (inr here)) = strange.last (ended_once line l is ∙ here)

-- a line of the form with an operand out of its range
read_outside : (text rest line after : List ℕ) (ops : List Op) (entries : List ℕ) (number : ℕ) (at_entries : Bool)
    → Read text rest ops entries number → IsCut 10 rest line after → at_entries ≡ nat_eq (length ops) 0
    → HasBadNumber (length entries) at_entries line → HasBadOperand text (number + 1)
unfolding Next
read_outside text rest line after ops entries number at_entries r next at outside =
    let code = code_of ops entries in
    let less : number + 1 - 1 ≡ number = omega arith in
    let so = r.so ∙ ap (λ (ls : List (List ℕ)). front code ++ ls) (lines_after rest line after next) in
    let upto = up_to_here text (front code) (ended line) (lines_in after) number so r.counted in
    record {
      before = subst BeginListing (sym (ap (λ (k : ℕ). take k (lines_in text)) less
          ∙ before_here text (front code) (lines_in rest) number r.so r.counted)) (front_begins code r.fits);
      form = subst BeginForm (sym upto) (formed outside.form);
      here = λ b. told (listing_next code (ended line) r.fits (subst BeginListing upto b));
    }
  where
    formed : ((at_entries ≡ true) × HasEntryForm (length entries) line) ⊎ HasOpForm line → BeginForm (front (code_of ops entries) ++ ended line ∷ [])
    formed (inl here) = entry_goes_on (code_of ops entries) line r.fits (none_yet ops at_entries at here.0) here.1
    formed (inr here) = op_goes_on (code_of ops entries) line r.fits here

    told : Next IsEntryLine IsOpLine (code_of ops entries) (ended line) → ⊥
    told (l, is, inl here) = outside.entry (subst (IsEntryLine (length entries)) (sym (ended_once line l is)) here.1)
    told (l, is, inr (inl here)) = outside.op (subst IsOpLine (sym (ended_once line l is)) here)
    told (l, is, inr (inr here)) = outside.last (ended_once line l is ∙ here)

-- a line with a fault
pub read_fault : (text rest line after : List ℕ) (ops : List Op) (entries : List ℕ) (number : ℕ) (at_entries : Bool)
    (fault : LineFault) (told : ListFault) → Read text rest ops entries number → IsCut 10 rest line after
    → at_entries ≡ nat_eq (length ops) 0 → ReadsStatement (length entries) at_entries line (Err fault)
    → told ≡ fault_at fault (number + 1) → TellsListing text (Err told)
read_fault text rest line after ops entries number at_entries Form told r next at reads is =
    subst (λ (f : ListFault). TellsListing text (Err f)) (sym is) (read_strange text rest line after ops entries number at_entries r next at reads)
read_fault text rest line after ops entries number at_entries Operand told r next at reads is =
    subst (λ (f : ListFault). TellsListing text (Err f)) (sym is) (read_outside text rest line after ops entries number at_entries r next at reads)

-- the text breaks off
pub read_open : (text rest : List ℕ) (ops : List Op) (entries : List ℕ) (number : ℕ) → Read text rest ops entries number
    → HasNo 10 rest → HasBadLine text (number + 1)
unfolding Next
read_open text rest ops entries number r apart =
    bad_line text rest ops entries number rest [] r (lines_in-open rest apart) (λ b. told (form_next (code_of ops entries) rest r.fits b))
  where
    told : Next HasEntryForm HasOpForm (code_of ops entries) rest → ⊥
    told (l, is, here) = ended_has l (subst (HasNo 10) is apart)

-- a text that does not begin with the first line

not_begun : (text piece : List ℕ) (pieces : List (List ℕ)) → lines_in text ≡ piece ∷ pieces → (piece ≡ ended first_line → ⊥) → HasBadLine text 1
unfolding inner_lines entry_lines
not_begun text piece pieces so other = record {
  before = record { code = code_of [] []; fits = record { ops = All-nil OpFits; entries = All-nil IsNumber; few = omega arith }; rest = whole []; so = refl };
  here = λ b. told (subst BeginForm (ap (take 1) so) b);
}
  where
    told : BeginForm (piece ∷ []) → ⊥
    told b = (let e = b.so in other cc)

pub read_headless : (text : List ℕ) → HasNo 10 text → HasBadLine text 1
read_headless text apart = not_begun text text [] (lines_in-open text apart) (λ is. ended_has first_line (subst (HasNo 10) is apart))

pub read_other : (text line rest : List ℕ) → IsCut 10 text line rest → line ≢ first_line → HasBadLine text 1
read_other text line rest next other = not_begun text (ended line) (lines_in rest) (lines_after text line rest next)
    (λ is. other (ended_once line first_line is))
