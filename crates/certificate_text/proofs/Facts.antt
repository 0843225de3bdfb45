-- The line of a fact, part by part.
use Rattle.std.proofs.Common.{◌≡◌, ℕ, ◌^◌, ◌<◌, List, [], ◌∷◌, ◌++◌, get_or, codes, decimal, refl}
use Rattle.std.proofs.Common.{sym, ap, subst, ◌∙◌, arith, append_assoc}
use Rattle.std.specs.List.{AllByRecursion}
use Rattle.std.proofs.lemmas.Fmt.{decimal_injective}
use Rattle.std.proofs.lemmas.List.{append_cancel_left}
use Rattle.flow_points.specs.declared.fact.Fact.{Fact}
use Rattle.flow_points.specs.declared.fact.Slot.{Slot}
use Rattle.flow_points.specs.declared.fact.Slot.TheVariants.{Temp, Given, Answered, Depth, Awaits}
use Rattle.flow_points.specs.declared.fact.Value.{Value}
use Rattle.flow_points.specs.declared.fact.Value.TheVariants.{Arg, Const, Any}
use Rattle.certificate_text.specs.Parts.{IsFactAt, IsNumbered, IsSlotAt, IsValueAt}
use Rattle.certificate_text.specs.Text.{FactFits, FactNumbers, HasTextNumber, SlotFits, ValueFits}
use Rattle.certificate_text.specs.Text.{fact_line, last_line, slot_word, value_word}
use Rattle.certificate_text.proofs.Numbers.{NoNumber, none_here, numbered_once, numbered_same}
use Rattle.text_lines.proofs.Cuts.{HasNo-append, HasNo-cons, cut_once}
use Rattle.text_lines.proofs.Numerals.{HasNo-decimal, decimal_no_letter}
use Rattle.text_lines.specs.Lines.{ended}
use Rattle.text_lines.specs.Parts.{HasNo}

-- a slot and a value have one word each, and the word tells them

letter : (n : ℕ) → n < 2 ^ 32 → decimal n ≡ 87 ∷ codes "AITS" → ⊥
letter n small e = absurd (omega (arith, decimal_no_letter n 87 (codes "AITS") small e))

rest_same : (a : ℕ) (x y : List ℕ) → a ∷ x ≡ a ∷ y → x ≡ y
rest_same a x y e = cc

apart : (a b : ℕ) (x y : List ℕ) → (a ≡ b → ⊥) → a ∷ x ≡ b ∷ y → ⊥
apart a b x y other e = let first : a ≡ b = cc in other first

slot_word_once : (s u : Slot) → SlotFits s → SlotFits u → slot_word s ≡ slot_word u → s ≡ u
slot_word_once (Temp t) (Temp u) fits too e =
    let tail = rest_same 84 (decimal t) (decimal u) e in
    ap (λ (n : ℕ). Temp n) (decimal_injective t u (omega (arith, fits)) (omega (arith, too)) tail)
slot_word_once (Temp t) (Given u) fits too e = absurd (apart 84 69 (decimal t) (decimal u) (λ e. omega (arith, e)) e)
slot_word_once (Temp t) (Answered u) fits too e = absurd (apart 84 65 (decimal t) (decimal u) (λ e. omega (arith, e)) e)
slot_word_once (Temp t) Depth fits too e = absurd (apart 84 68 (decimal t) (codes "EPTH") (λ e. omega (arith, e)) e)
slot_word_once (Temp t) Awaits fits too e = absurd (apart 84 65 (decimal t) (87 ∷ codes "AITS") (λ e. omega (arith, e)) e)
slot_word_once (Given k) (Temp u) fits too e = absurd (apart 69 84 (decimal k) (decimal u) (λ e. omega (arith, e)) e)
slot_word_once (Given k) (Given u) fits too e =
    let tail = rest_same 69 (decimal k) (decimal u) e in
    ap (λ (n : ℕ). Given n) (decimal_injective k u (omega (arith, fits)) (omega (arith, too)) tail)
slot_word_once (Given k) (Answered u) fits too e = absurd (apart 69 65 (decimal k) (decimal u) (λ e. omega (arith, e)) e)
slot_word_once (Given k) Depth fits too e = absurd (apart 69 68 (decimal k) (codes "EPTH") (λ e. omega (arith, e)) e)
slot_word_once (Given k) Awaits fits too e = absurd (apart 69 65 (decimal k) (87 ∷ codes "AITS") (λ e. omega (arith, e)) e)
slot_word_once (Answered a) (Temp u) fits too e = absurd (apart 65 84 (decimal a) (decimal u) (λ e. omega (arith, e)) e)
slot_word_once (Answered a) (Given u) fits too e = absurd (apart 65 69 (decimal a) (decimal u) (λ e. omega (arith, e)) e)
slot_word_once (Answered a) (Answered u) fits too e =
    let tail = rest_same 65 (decimal a) (decimal u) e in
    ap (λ (n : ℕ). Answered n) (decimal_injective a u (omega (arith, fits)) (omega (arith, too)) tail)
slot_word_once (Answered a) Depth fits too e = absurd (apart 65 68 (decimal a) (codes "EPTH") (λ e. omega (arith, e)) e)
slot_word_once (Answered a) Awaits fits too e =
    let tail = rest_same 65 (decimal a) (87 ∷ codes "AITS") e in
    absurd (letter a (omega (arith, fits)) tail)
slot_word_once Depth (Temp u) fits too e = absurd (apart 68 84 (codes "EPTH") (decimal u) (λ e. omega (arith, e)) e)
slot_word_once Depth (Given u) fits too e = absurd (apart 68 69 (codes "EPTH") (decimal u) (λ e. omega (arith, e)) e)
slot_word_once Depth (Answered u) fits too e = absurd (apart 68 65 (codes "EPTH") (decimal u) (λ e. omega (arith, e)) e)
slot_word_once Depth Depth fits too e = refl
slot_word_once Depth Awaits fits too e = absurd (apart 68 65 (codes "EPTH") (87 ∷ codes "AITS") (λ e. omega (arith, e)) e)
slot_word_once Awaits (Temp u) fits too e = absurd (apart 65 84 (87 ∷ codes "AITS") (decimal u) (λ e. omega (arith, e)) e)
slot_word_once Awaits (Given u) fits too e = absurd (apart 65 69 (87 ∷ codes "AITS") (decimal u) (λ e. omega (arith, e)) e)
slot_word_once Awaits (Answered u) fits too e =
    let tail = rest_same 65 (87 ∷ codes "AITS") (decimal u) e in
    absurd (letter u (omega (arith, too)) (sym tail))
slot_word_once Awaits Depth fits too e = absurd (apart 65 68 (87 ∷ codes "AITS") (codes "EPTH") (λ e. omega (arith, e)) e)
slot_word_once Awaits Awaits fits too e = refl

value_word_once : (v w : Value) → ValueFits v → ValueFits w → HasTextNumber v → HasTextNumber w → value_word v ≡ value_word w → v ≡ w
value_word_once (Arg k) (Arg m) fits too small low e =
    let tail : decimal k ≡ decimal m = append_cancel_left (codes "ARG ") (decimal k) (decimal m) e in
    ap (λ (n : ℕ). Arg n) (decimal_injective k m (omega (arith, fits)) (omega (arith, too)) tail)
value_word_once (Arg k) (Const d) fits too small low e = absurd (apart 65 67 (82 ∷ 71 ∷ 32 ∷ decimal k) (codes "ONST " ++ decimal d) (λ e. omega (arith, e)) e)
value_word_once (Arg k) Any fits too small low e = absurd
    (apart 82 78 (71 ∷ 32 ∷ decimal k) (codes "Y") (λ e. omega (arith, e))
    (rest_same 65 (82 ∷ 71 ∷ 32 ∷ decimal k) (78 ∷ codes "Y") e))
value_word_once (Const c) (Arg m) fits too small low e = absurd (apart 67 65 (codes "ONST " ++ decimal c) (82 ∷ 71 ∷ 32 ∷ decimal m) (λ e. omega (arith, e)) e)
value_word_once (Const c) (Const d) fits too small low e =
    let tail : decimal c ≡ decimal d = append_cancel_left (codes "CONST ") (decimal c) (decimal d) e in
    ap (λ (n : ℕ). Const n) (decimal_injective c d (omega (arith, small)) (omega (arith, low)) tail)
value_word_once (Const c) Any fits too small low e = absurd (apart 67 65 (codes "ONST " ++ decimal c) (78 ∷ codes "Y") (λ e. omega (arith, e)) e)
value_word_once Any (Arg m) fits too small low e = absurd
    (apart 78 82 (codes "Y") (71 ∷ 32 ∷ decimal m) (λ e. omega (arith, e))
    (rest_same 65 (78 ∷ codes "Y") (82 ∷ 71 ∷ 32 ∷ decimal m) e))
value_word_once Any (Const d) fits too small low e = absurd (apart 65 67 (78 ∷ codes "Y") (codes "ONST " ++ decimal d) (λ e. omega (arith, e)) e)
value_word_once Any Any fits too small low e = refl

no_bytes : (end : ℕ) → HasNo end []
unfolding HasNo
no_bytes end = refl

pub HasNo-slot : (s : Slot) → SlotFits s → (end : ℕ) → end < 48 → HasNo end (slot_word s)
HasNo-slot (Temp t) fits end low = HasNo-cons end 84 (decimal t) (λ e. omega (arith, e)) (HasNo-decimal end t low (omega (arith, fits)))
HasNo-slot (Given k) fits end low = HasNo-cons end 69 (decimal k) (λ e. omega (arith, e)) (HasNo-decimal end k low (omega (arith, fits)))
HasNo-slot (Answered k) fits end low = HasNo-cons end 65 (decimal k) (λ e. omega (arith, e)) (HasNo-decimal end k low (omega (arith, fits)))
HasNo-slot Depth fits end low = HasNo-cons end 68 (codes "EPTH") (λ e. omega (arith, e))
    (HasNo-cons end 69 (codes "PTH") (λ e. omega (arith, e))
    (HasNo-cons end 80 (codes "TH") (λ e. omega (arith, e))
    (HasNo-cons end 84 (codes "H") (λ e. omega (arith, e))
    (HasNo-cons end 72 [] (λ e. omega (arith, e)) (no_bytes end)))))
HasNo-slot Awaits fits end low = HasNo-cons end 65 (codes "WAITS") (λ e. omega (arith, e))
    (HasNo-cons end 87 (codes "AITS") (λ e. omega (arith, e))
    (HasNo-cons end 65 (codes "ITS") (λ e. omega (arith, e))
    (HasNo-cons end 73 (codes "TS") (λ e. omega (arith, e))
    (HasNo-cons end 84 (codes "S") (λ e. omega (arith, e))
    (HasNo-cons end 83 [] (λ e. omega (arith, e)) (no_bytes end))))))

arg_word : HasNo 10 (codes "ARG ")
unfolding HasNo
arg_word = refl

const_word : HasNo 10 (codes "CONST ")
unfolding HasNo
const_word = refl

any_word : HasNo 10 (codes "ANY")
unfolding HasNo
any_word = refl

pub HasNo-value : (v : Value) → ValueFits v → HasTextNumber v → HasNo 10 (value_word v)
HasNo-value (Arg k) fits small = HasNo-append 10 (codes "ARG ") (decimal k) arg_word (HasNo-decimal 10 k (omega arith) (omega (arith, fits)))
HasNo-value (Const c) fits small = HasNo-append 10 (codes "CONST ") (decimal c) const_word (HasNo-decimal 10 c (omega arith) small)
HasNo-value Any fits small = any_word

slot_once : (text : List ℕ) (s u : Slot) (rest other : List ℕ) → IsSlotAt text s rest → IsSlotAt text u other → (s ≡ u) × (rest ≡ other)
slot_once text s u rest other a b =
    let cut = cut_once 32 (slot_word s) (slot_word u) (32 ∷ rest) (32 ∷ other) (HasNo-slot s a.fits 32 (omega arith))
    (HasNo-slot u b.fits 32 (omega arith)) refl refl (sym a.so ∙ b.so) in
    let behind : 32 ∷ rest ≡ 32 ∷ other = cut.1 in
    let same : rest ≡ other = cc in
    (slot_word_once s u a.fits b.fits cut.0, same)

value_once : (text : List ℕ) (v w : Value) (rest other : List ℕ) → IsValueAt text v rest → IsValueAt text w other → (v ≡ w) × (rest ≡ other)
value_once text v w rest other a b =
    let cut = cut_once 10 (value_word v) (value_word w) (10 ∷ rest) (10 ∷ other) (HasNo-value v a.fits a.number)
    (HasNo-value w b.fits b.number) refl refl (sym a.so ∙ b.so) in
    let behind : 10 ∷ rest ≡ 10 ∷ other = cut.1 in
    let same : rest ≡ other = cc in
    (value_word_once v w a.fits b.fits a.number b.number cut.0, same)

-- what stands at each part of the line

value_on : Fact → List ℕ → List ℕ
value_on f rest = value_word f.value ++ 10 ∷ rest

slot_on : Fact → List ℕ → List ℕ
slot_on f rest = slot_word f.slot ++ 32 ∷ value_on f rest

point_on : Fact → List ℕ → List ℕ
point_on f rest = decimal f.point ++ 32 ∷ slot_on f rest

entry_on : Fact → List ℕ → List ℕ
entry_on f rest = codes "FACT " ++ (decimal f.entry ++ 32 ∷ point_on f rest)

regroup : (l1 e l2 p l3 s l4 v rest : List ℕ) → (l1 ++ e ++ l2 ++ p ++ l3 ++ s ++ l4 ++ v) ++ rest ≡ l1
    ++ (e ++ (l2 ++ (p ++ (l3 ++ (s ++ (l4 ++ (v ++ rest)))))))
regroup l1 e l2 p l3 s l4 v rest = simp append_assoc

fact_parts : (f : Fact) (rest : List ℕ) → ended (fact_line f) ++ rest ≡ entry_on f rest
unfolding fact_line entry_on point_on slot_on value_on
fact_parts f rest =
    append_assoc (fact_line f) (10 ∷ []) rest ∙ regroup (codes "FACT ") (decimal f.entry) (codes " ") (decimal f.point)
    (codes " ") (slot_word f.slot) (codes " ") (value_word f.value) (10 ∷ rest)

entry_there : (text rest : List ℕ) (f : Fact) → IsFactAt text f rest → IsNumbered (codes "FACT ") f.entry 32 text (point_on f rest)
unfolding entry_on
entry_there text rest f is = record { number = is.numbers.entry; so = is.so ∙ fact_parts f rest }

point_there : (text rest : List ℕ) (f : Fact) → IsFactAt text f rest → IsNumbered [] f.point 32 (point_on f rest) (slot_on f rest)
unfolding point_on
point_there text rest f is = record { number = is.numbers.point; so = refl }

slot_there : (text rest : List ℕ) (f : Fact) → IsFactAt text f rest → IsSlotAt (slot_on f rest) f.slot (value_on f rest)
unfolding slot_on
slot_there text rest f is = record { fits = is.fits.slot; so = refl }

value_there : (text rest : List ℕ) (f : Fact) → IsFactAt text f rest → IsValueAt (value_on f rest) f.value rest
unfolding value_on
value_there text rest f is = record { fits = is.fits.value; number = is.numbers.value; so = refl }

-- parts that were read are those of the fact that stands there

point_same : (text r1 : List ℕ) (e : ℕ) → IsNumbered (codes "FACT ") e 32 text r1 → (f : Fact) (rest : List ℕ)
    → IsFactAt text f rest → (e ≡ f.entry) × (r1 ≡ point_on f rest)
point_same text r1 e first f rest is = numbered_once (codes "FACT ") text r1 (point_on f rest) e f.entry 32 (omega arith) first (entry_there text rest f is)

slot_same : (text r1 r2 : List ℕ) (e p : ℕ) → IsNumbered (codes "FACT ") e 32 text r1 → IsNumbered [] p 32 r1 r2
    → (f : Fact) (rest : List ℕ) → IsFactAt text f rest → (p ≡ f.point) × (r2 ≡ slot_on f rest)
slot_same text r1 r2 e p first second f rest is =
    numbered_same [] r1 (point_on f rest) r2 (slot_on f rest) p f.point 32 (omega arith)
    (point_same text r1 e first f rest is).1 second (point_there text rest f is)

value_same : (text r1 r2 r3 : List ℕ) (e p : ℕ) (s : Slot) → IsNumbered (codes "FACT ") e 32 text r1
    → IsNumbered [] p 32 r1 r2 → IsSlotAt r2 s r3 → (f : Fact) (rest : List ℕ) → IsFactAt text f rest
    → (s ≡ f.slot) × (r3 ≡ value_on f rest)
value_same text r1 r2 r3 e p s first second third f rest is =
    slot_once r2 s f.slot r3 (value_on f rest) third
    (subst (λ t. IsSlotAt t f.slot (value_on f rest)) (sym (slot_same text r1 r2 e p first second f rest is).1)
    (slot_there text rest f is))

end_same : (text r1 r2 r3 r4 : List ℕ) (e p : ℕ) (s : Slot) (v : Value) → IsNumbered (codes "FACT ") e 32 text r1
    → IsNumbered [] p 32 r1 r2 → IsSlotAt r2 s r3 → IsValueAt r3 v r4 → (f : Fact) (rest : List ℕ)
    → IsFactAt text f rest → (v ≡ f.value) × (r4 ≡ rest)
end_same text r1 r2 r3 r4 e p s v first second third fourth f rest is =
    value_once r3 v f.value r4 rest fourth (subst (λ t. IsValueAt t f.value rest)
    (sym (value_same text r1 r2 r3 e p s first second third f rest is).1) (value_there text rest f is))

-- a fact as it is read

abbrev pub NoFact : List ℕ → Type 0
NoFact text = (f : Fact) (rest : List ℕ) → IsFactAt text f rest → ⊥

pub no_entry : (text : List ℕ) → NoNumber (codes "FACT ") 32 text → (f : Fact) (rest : List ℕ) → IsFactAt text f rest → ⊥
no_entry text none f rest is = none f.entry (point_on f rest) (entry_there text rest f is)

pub no_point : (text r1 : List ℕ) (e : ℕ) → IsNumbered (codes "FACT ") e 32 text r1 → NoNumber [] 32 r1 → (f : Fact) (rest : List ℕ) → IsFactAt text f rest → ⊥
no_point text r1 e first none f rest is =
    none_here [] r1 (point_on f rest) (slot_on f rest) f.point 32 (point_same text r1 e first f rest is).1 none (point_there text rest f is)

pub no_slot : (text r1 r2 : List ℕ) (e p : ℕ) → IsNumbered (codes "FACT ") e 32 text r1 → IsNumbered [] p 32 r1 r2
    → ((s : Slot) (rest : List ℕ) → IsSlotAt r2 s rest → ⊥) → (f : Fact) (rest : List ℕ) → IsFactAt text f rest → ⊥
no_slot text r1 r2 e p first second none f rest is =
    none f.slot (value_on f rest) (subst (λ t. IsSlotAt t f.slot (value_on f rest))
    (sym (slot_same text r1 r2 e p first second f rest is).1) (slot_there text rest f is))

pub no_value : (text r1 r2 r3 : List ℕ) (e p : ℕ) (s : Slot) → IsNumbered (codes "FACT ") e 32 text r1
    → IsNumbered [] p 32 r1 r2 → IsSlotAt r2 s r3 → ((v : Value) (rest : List ℕ) → IsValueAt r3 v rest → ⊥)
    → (f : Fact) (rest : List ℕ) → IsFactAt text f rest → ⊥
no_value text r1 r2 r3 e p s first second third none f rest is =
    none f.value rest (subst (λ t. IsValueAt t f.value rest) (sym (value_same text r1 r2 r3 e p s first second third f rest is).1) (value_there text rest f is))

pub fact_read : (text r1 r2 r3 rest : List ℕ) (f : Fact) → IsNumbered (codes "FACT ") f.entry 32 text r1
    → IsNumbered [] f.point 32 r1 r2 → IsSlotAt r2 f.slot r3 → IsValueAt r3 f.value rest → IsFactAt text f rest
unfolding entry_on point_on slot_on value_on
fact_read text r1 r2 r3 rest f first second third fourth = record {
  fits = record { slot = third.fits; value = fourth.fits };
  numbers = record { entry = first.number; point = second.number; value = fourth.number };
  so = first.so ∙ ap (λ (r : List ℕ). codes "FACT " ++ (decimal f.entry ++ 32 ∷ r))
      (second.so ∙ ap (λ (r : List ℕ). decimal f.point ++ 32 ∷ r)
      (third.so ∙ ap (λ (r : List ℕ). slot_word f.slot ++ 32 ∷ r) fourth.so)) ∙ sym (fact_parts f rest);
}

-- one fact stands there
pub fact_once : (text : List ℕ) (f g : Fact) (rest other : List ℕ) → IsFactAt text f rest → IsFactAt text g other → f ≡ g
fact_once text f g rest other a b =
    let first = entry_there text rest f a in
    let second = point_there text rest f a in
    let third = slot_there text rest f a in
    let fourth = value_there text rest f a in
    let same_entry : f.entry ≡ g.entry = (point_same text (point_on f rest) f.entry first g other b).0 in
    let same_point : f.point ≡ g.point = (slot_same text (point_on f rest) (slot_on f rest) f.entry f.point first second g other b).0 in
    let same_slot : f.slot ≡ g.slot = (value_same text (point_on f rest) (slot_on f rest) (value_on f rest) f.entry
    f.point f.slot first second third g other b).0 in
    let same_value : f.value ≡ g.value = (end_same text (point_on f rest) (slot_on f rest) (value_on f rest) rest
    f.entry f.point f.slot f.value first second third fourth g other b).0 in
    (λ i. record { entry = same_entry i; point = same_point i; slot = same_slot i; value = same_value i })

-- a fact with all its numbers in their ranges
pub record Good (f : Fact) : Type 0 where
  pub fits : FactFits f
  pub numbers : FactNumbers f

pub all_good : (facts : List Fact) → AllByRecursion FactFits facts → AllByRecursion FactNumbers facts → AllByRecursion Good facts
all_good [] fits numbers = tt
all_good (f ∷ facts) fits numbers = (record { fits = fits.0; numbers = numbers.0 }, all_good facts fits.1 numbers.1)

-- a line is that of one fact
pub fact_line_once : (f g : Fact) → Good f → Good g → ended (fact_line f) ≡ ended (fact_line g) → f ≡ g
fact_line_once f g a b e =
    fact_once (ended (fact_line f) ++ []) f g [] [] (record { fits = a.fits; numbers = a.numbers; so = refl })
    (record { fits = b.fits; numbers = b.numbers; so = ap (λ (l : List ℕ). l ++ []) e })

-- the last line is no fact's
pub fact_no_last : (f : Fact) → ended (fact_line f) ≡ ended last_line → ⊥
unfolding fact_line
fact_no_last f e =
    let first : ◌≡◌ {A = ℕ} 70 69 = ap (λ (l : List ℕ). get_or l 0 0) e in
    absurd (omega (arith, first))
