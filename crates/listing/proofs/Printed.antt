-- What is printed line by line.
use Rattle.std.proofs.Common.{◌≡◌, ℕ, ◌+◌, ◌<◌, ◌≤◌, List, [], ◌∷◌, ◌++◌, length, map, drop, get_or}
use Rattle.std.proofs.Common.{refl, sym, ap, ◌∙◌, append_assoc, append-nil, codes, Result, Ok, Err}
use Rattle.std.proofs.Common.{IfOk, OnOk, All, ◌^◌, subst}
use Rattle.std.specs.List.{flat_map}
use Rattle.std.proofs.lemmas.List.{drop_more, drop_all}
use Rattle.std.proofs.lemmas.List.Concat.{flat_map-append}
use Rattle.machine_code.specs.Coded.{Code}
use Rattle.machine_code.specs.declared.op.Op.{Op}
use Rattle.machine_code.specs.Operands.{IsNumber, OpFits}
use Rattle.plex_num.specs.declared.seq.Memory.{Memory}
use Rattle.listing.specs.Listing.{IsListing, code_text, entry_line, entry_lines, first_line}
use Rattle.listing.specs.Listing.{inner_lines, last_line, op_line}
use Rattle.text_lines.specs.Lines.{ended}

-- the text so far, and the entries that are left
pub record Told (entries before : List ℕ) (i : ℕ) (text : List ℕ) : Type 0 where
  pub so : text ++ flat_map ended (entry_lines i (drop i entries)) ≡ before ++ flat_map ended (entry_lines 0 entries)

pub told_begin : (entries before : List ℕ) → Told entries before 0 before
told_begin entries before = record { so = refl }

pub told_more : (entries before : List ℕ) (i address : ℕ) (text new : List ℕ) → Told entries before i text
    → i < length entries → address ≡ get_or entries i 0 → new ≡ text ++ ended (entry_line i address)
    → Told entries before (i + 1) new
unfolding entry_lines
told_more entries before i address text new t inside is wrote =
    let line = ended (entry_line i (get_or entries i 0)) in
    let rest = flat_map ended (entry_lines (i + 1) (drop (i + 1) entries)) in
    let cons : flat_map ended (entry_lines i (drop i entries)) ≡ line ++ rest =
    ap (λ (es : List ℕ). flat_map ended (entry_lines i es)) (drop_more entries i 0 inside) in
    let same : new ≡ text ++ line = wrote ∙ ap (λ (a : ℕ). text ++ ended (entry_line i a)) is in
    record { so = ap (λ (l : List ℕ). l ++ rest) same ∙ append_assoc text line rest ∙ ap (λ (r : List ℕ). text ++ r) (sym cons) ∙ t.so }

pub told_end : (entries before : List ℕ) (i : ℕ) (text : List ℕ) → Told entries before i text → length entries ≤ i
    → text ≡ before ++ flat_map ended (entry_lines 0 entries)
unfolding entry_lines
told_end entries before i text t past =
    let none : flat_map ended (entry_lines i (drop i entries)) ≡ [] = ap (λ (es : List ℕ). flat_map ended (entry_lines i es)) (drop_all i entries past) in
    sym (append-nil text) ∙ ap (λ (r : List ℕ). text ++ r) (sym none) ∙ t.so

-- the parts of a listing
pub code_text-parts : (code : Code) (a b c d : List ℕ) → a ≡ codes "PLEX CODE 1\n"
    → b ≡ a ++ flat_map ended (entry_lines 0 code.entries) → c ≡ b ++ flat_map ended (map op_line code.ops)
    → d ≡ c ++ codes "END CODE\n" → d ≡ code_text code
unfolding code_text inner_lines
code_text-parts code a b c d first second third last =
    let entries = entry_lines 0 code.entries in
    let ops = map op_line code.ops in
    let inner : flat_map ended (entries ++ ops ++ last_line ∷ []) ≡ (flat_map ended entries ++ flat_map ended ops) ++ ended last_line =
    flat_map-append ended (entries ++ ops) (last_line ∷ []) ∙ ap (λ (t : List ℕ). t ++ ended last_line) (flat_map-append ended entries ops) in
    last ∙ ap (λ (t : List ℕ). t ++ ended last_line)
    (third ∙ ap (λ (t : List ℕ). t ++ flat_map ended ops)
    (second ∙ ap (λ (t : List ℕ). t ++ flat_map ended entries) first)
    ∙ append_assoc (ended first_line) (flat_map ended entries) (flat_map ended ops))
    ∙ append_assoc (ended first_line) (flat_map ended entries ++ flat_map ended ops) (ended last_line) ∙ ap (λ (t : List ℕ). ended first_line ++ t) (sym inner)

-- what is printed of the parts of code that fits is its listing
pub listing_told : (code : Code) (entries : List ℕ) (ops : List Op) (r : Result (List ℕ) Memory)
    → entries ≡ code.entries → ops ≡ code.ops → All OpFits code.ops
    → IfOk r (λ text. text ≡ code_text (record { ops = ops; entries = entries })) → OnOk r (All IsNumber entries)
    → OnOk r (length entries < 2 ^ 64) → IfOk r (λ text. IsListing text code)
listing_told code entries ops (Ok text) same_entries same_ops fit so numbers few = record {
  fits = record { ops = fit; entries = subst (All IsNumber) same_entries numbers; few = subst (λ (es : List ℕ). length es < 2 ^ 64) same_entries few };
  so = so ∙ (λ i. code_text (record { ops = same_ops i; entries = same_entries i }));
}
listing_told code entries ops (Err e) same_entries same_ops fit so numbers few = tt
