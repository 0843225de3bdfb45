-- What depends on the words that it loads, and on no others.
use Rattle.std.proofs.Common.{◌≡◌, ℕ, zero, suc, ◌+◌, ◌<◌, ◌≤◌, ◌^◌, Bool, true, false, List, []}
use Rattle.std.proofs.Common.{◌∷◌, ◌++◌, map, length, get_or, Option, Some, None, refl, sym, ap}
use Rattle.std.proofs.Common.{◌∙◌, subst, append_assoc, arith}
use Rattle.std.proofs.lemmas.List.{append-nil}
use Rattle.std.proofs.lemmas.List.FromFn.{length-range_with_len, get_or-range_with_len}
use Rattle.std.specs.Prelude.{nat_lt, slice_index, slice_set, if◌then◌else◌, not}
use Rattle.std.specs.List.{AllByRecursion, range_with_len, position_or_len}
use Rattle.job_types.specs.declared.fault.Fault.{Fault}
use Rattle.job_types.specs.declared.touch.Touch.{Touch}
use Rattle.job_types.specs.declared.touch.Touch.TheVariants.{Load, Store}
use Rattle.job_types.specs.Own.{World, seen, writes}
use Rattle.job_types.specs.Touches.{stored}
use Rattle.job_types.specs.Truth.{at_zero}
use Rattle.job_types.proofs.Touched.{stored-append}
use Rattle.exchange_model.specs.declared.block.Variable.{Variable}
use Rattle.exchange_model.specs.Cells.{Placed, field_cell, mark_cell}
use Rattle.source_meaning.specs.Value.{Got, Gives, Fails, load_of}
use Rattle.source_meaning.specs.Config.{Config}
use Rattle.source_meaning.specs.Changes.{fails, on_value, unless_fault, where_fits, least_record}
use Rattle.source_meaning.specs.Changes.{looked_at, record_loads, on_record, opens_fields}
use Rattle.source_meaning.specs.Changes.{opens_record}
use Rattle.source_meaning.specs.Traces.{Answers, Grows, with_store}
use Rattle.source_meaning.proofs.Growing.{answers_append, IsLoad}
use Rattle.source_meaning.proofs.Loads.{LoadsAre}
use Rattle.source_meaning.proofs.Reading.{FoundIn, Finds}

-- what is made of the words: it grows from this world, and other words that answer its touches give
-- the same
pub record Framed (w : World) (f : List ℕ → Config) : Type 0 where
  pub grows : Grows w (f w.store).world
  pub same : (t : List ℕ) → Answers t grows.touches → f t ≡ with_store (stored t grows.touches) (f w.store)

pub answers_split : (a b : List Touch) (vs : List ℕ) → Answers vs (a ++ b) → Answers vs a × Answers (stored vs a) b
answers_split [] b vs h = (tt, h)
answers_split (Load w v ∷ a) b vs h = let r = answers_split a b vs h.1 in ((h.0, r.0), r.1)
answers_split (Store w v ∷ a) b vs h = answers_split a b (slice_set vs w v) h

-- stores alone

abbrev pub IsStore : Touch → Type 0
IsStore (Load w v) = ⊥
IsStore (Store w v) = Unit {0}

stores_answered : (ws : List Touch) (vs : List ℕ) → AllByRecursion IsStore ws → Answers vs ws
stores_answered [] vs each = tt
stores_answered (Load w v ∷ ws) vs each = absurd each.0
stores_answered (Store w v ∷ ws) vs each = stores_answered ws (slice_set vs w v) each.1

pub framed_stores : (w : World) (d : Config) (ws : List Touch) → d.world.trace ≡ w.trace ++ ws
    → AllByRecursion IsStore ws → Framed w (λ t. with_store (stored t ws) d)
framed_stores w d ws trace each = record {
  grows = record { touches = ws; trace = trace; store = refl; told = stores_answered ws w.store each };
  same = λ t h. refl;
}

pub framed_pure : (w : World) (d : Config) → d.world.trace ≡ w.trace → Framed w (λ t. with_store t d)
framed_pure w d same = framed_stores w d [] (same ∙ sym (append-nil w.trace)) tt

-- one after the other
pub framed_then : (w : World) (f : List ℕ → Config) (g : Config → Config) → Framed w f
    → Framed (f w.store).world (λ t. g (with_store t (f w.store))) → Framed w (λ t. g (f t))
framed_then w f g first more =
    let d = f w.store in
    let a = first.grows.touches in
    let b = more.grows.touches in
    record {
      grows = record {
        touches = a ++ b;
        trace = more.grows.trace ∙ ap (λ u. u ++ b) first.grows.trace ∙ append_assoc w.trace a b;
        store = more.grows.store ∙ ap (λ s. stored s b) first.grows.store ∙ sym (stored-append a b w.store);
        told = answers_append a b w.store first.grows.told (subst (λ s. Answers s b) first.grows.store more.grows.told);
      };
      same = λ t h.
          let parts = answers_split a b t h in
          ap g (first.same t parts.0) ∙ more.same (stored t a) parts.1 ∙ ap (λ s. with_store s (g d)) (sym (stored-append a b t));
    }

-- loads

-- loads are answered first, and leave the words
pub loads_split : (store : List ℕ) (loads more : List Touch) (t : List ℕ) → AllByRecursion (IsLoad store) loads
    → Answers t (loads ++ more) → AllByRecursion (FoundIn t) loads × Answers t more
loads_split store [] more t each h = (tt, h)
loads_split store (u ∷ loads) more t each h =
    let k : Answers t (load_of store each.0.cell ∷ (loads ++ more)) = subst (λ l. Answers t (l ∷ (loads ++ more))) each.0.is h in
    let rest = loads_split store loads more t each.1 k.1 in
    ((subst (FoundIn t) (sym each.0.is) k.0, rest.0), rest.1)

loads_past : (store : List ℕ) (loads more : List Touch) (t : List ℕ) → AllByRecursion (IsLoad store) loads → stored t (loads ++ more) ≡ stored t more
loads_past store [] more t each = refl
loads_past store (u ∷ loads) more t each = ap (λ l. stored t (l ∷ (loads ++ more))) each.0.is ∙ loads_past store loads more t each.1

loads_join : (store : List ℕ) (loads more : List Touch) → AllByRecursion (IsLoad store) loads → Answers store more → Answers store (loads ++ more)
loads_join store [] more each h = h
loads_join store (u ∷ loads) more each h = subst (λ l. Answers store (l ∷ (loads ++ more))) (sym each.0.is) (refl, loads_join store loads more each.1 h)

own_found : (store : List ℕ) (loads : List Touch) → AllByRecursion (IsLoad store) loads → AllByRecursion (FoundIn store) loads
own_found store [] each = tt
own_found store (u ∷ loads) each = (subst (FoundIn store) (sym each.0.is) refl, own_found store loads each.1)

-- what is the same as something after loads, wherever these are found
pub framed_looks : (w : World) (loads : List Touch) (f g : List ℕ → Config) → AllByRecursion (IsLoad w.store) loads
    → ((t : List ℕ) → AllByRecursion (FoundIn t) loads → f t ≡ g t) → Framed (seen loads w) g → Framed w f
framed_looks w loads f g each gives inner =
    let b = inner.grows.touches in
    let own : f w.store ≡ g w.store = gives w.store (own_found w.store loads each) in
    record {
      grows = record {
        touches = loads ++ b;
        trace = ap (λ (d : Config). d.world.trace) own ∙ inner.grows.trace ∙ append_assoc w.trace loads b;
        store = ap (λ (d : Config). d.world.store) own ∙ inner.grows.store ∙ sym (loads_past w.store loads b w.store each);
        told = loads_join w.store loads b each inner.grows.told;
      };
      same = λ t h.
          let parts = loads_split w.store loads b t each h in
          gives t parts.0 ∙ inner.same t parts.1
          ∙ ap (λ s. with_store s (g w.store)) (sym (loads_past w.store loads b t each))
          ∙ ap (with_store (stored t (loads ++ b))) (sym own);
    }

-- the same job after these loads
abbrev pub looked : List Touch → Config → Config
looked loads c = record c { world = seen loads c.world }

pub framed_value : (c : Config) (eval : List ℕ → Got) (go : ℕ → Config → Config)
    → LoadsAre (IsLoad c.world.store) (eval c.world.store)
    → ((t : List ℕ) → Finds t (eval c.world.store) → eval t ≡ eval c.world.store)
    → ((loads : List Touch) (v : ℕ) → Framed (looked loads c).world (λ t. go v (with_store t (looked loads c))))
    → Framed c.world (λ t. on_value (eval t) (with_store t c) go)
framed_value c eval go loads reads more = by (eval c.world.store) refl
  where
    by : (got : Got) → eval c.world.store ≡ got → Framed c.world (λ t. on_value (eval t) (with_store t c) go)
    by (Gives ls v) is =
        framed_looks c.world ls (λ t. on_value (eval t) (with_store t c) go) (λ t. go v (with_store t (looked ls c)))
        (subst (LoadsAre (IsLoad c.world.store)) is loads)
        (λ t found. ap (λ got. on_value got (with_store t c) go) (reads t (subst (Finds t) (sym is) found) ∙ is)) (more ls v)
    by (Fails ls f) is =
        framed_looks c.world ls (λ t. on_value (eval t) (with_store t c) go) (λ t. fails f (with_store t (looked ls c)))
        (subst (LoadsAre (IsLoad c.world.store)) is loads)
        (λ t found. ap (λ got. on_value got (with_store t c) go) (reads t (subst (Finds t) (sym is) found) ∙ is))
        (framed_pure (looked ls c).world (fails f (looked ls c)) refl)

-- tests that look at no word

pub framed_if : (w : World) (b : Bool) (f g : List ℕ → Config) → Framed w f → Framed w g → Framed w (λ t. if b then f t else g t)
framed_if w true f g first other = first
framed_if w false f g first other = other

pub framed_zero : (w : World) (v : ℕ) (f g : List ℕ → Config) → Framed w f → Framed w g → Framed w (λ t. at_zero v (f t) (g t))
framed_zero w zero f g first other = first
framed_zero w (suc v) f g first other = other

pub framed_unless : (found : Option Fault) (c : Config) (go : Config → Config)
    → Framed c.world (λ t. go (with_store t c)) → Framed c.world (λ t. unless_fault found (with_store t c) go)
framed_unless None c go h = h
framed_unless (Some f) c go h = framed_pure c.world (fails f c) refl

pub framed_fits : (v width : ℕ) (c : Config) (go : Config → Config) → Framed c.world (λ t. go (with_store t c))
    → Framed c.world (λ t. where_fits v width (with_store t c) go)
framed_fits v width c go h = framed_if c.world (nat_lt v (2 ^ width)) (λ t. go (with_store t c))
    (λ t. fails _ (with_store t c)) h (framed_pure c.world (fails _ c) refl)

-- searches

-- two tests that agree up to the first that passes have the same first
first_same : (p q : ℕ → Bool) (xs : List ℕ) → ((k : ℕ) → k ≤ position_or_len p xs → k < length xs
    → q (get_or xs k 0) ≡ p (get_or xs k 0)) → position_or_len q xs ≡ position_or_len p xs
first_same p q [] h = refl
first_same p q (x ∷ xs) h = by (p x) refl (h 0 (omega arith) (omega arith)) (first_same p q xs)
  where
    by : (a : Bool) → p x ≡ a → q x ≡ p x → (((k : ℕ) → k ≤ position_or_len p xs → k < length xs
        → q (get_or xs k 0) ≡ p (get_or xs k 0)) → position_or_len q xs ≡ position_or_len p xs)
        → position_or_len q (x ∷ xs) ≡ position_or_len p (x ∷ xs)
    by true pa same more =
        let qa : q x ≡ true = same ∙ pa in
        ap (λ b. if not b then 1 + position_or_len q xs else 0) qa ∙ sym (ap (λ b. if not b then 1 + position_or_len p xs else 0) pa)
    by false pa same more =
        let qa : q x ≡ false = same ∙ pa in
        let longer : position_or_len p (x ∷ xs) ≡ 1 + position_or_len p xs = ap (λ b. if not b then 1 + position_or_len p xs else 0) pa in
        ap (λ b. if not b then 1 + position_or_len q xs else 0) qa
        ∙ ap (λ n. 1 + n) (more (λ k le lt. h (suc k) (omega (arith, longer)) (omega arith))) ∙ sym longer

-- how many records are looked at, and up to which
looked_upto : (test : ℕ → Bool) (size k : ℕ) → k ≤ position_or_len test (range_with_len 0 size) → k < size → k < looked_at (least_record test size) size
looked_upto test size k le lt = by (nat_lt (position_or_len test (range_with_len 0 size)) (length (range_with_len 0 size)))
  where
    by : (b : Bool) → k < looked_at (if b then Some (position_or_len test (range_with_len 0 size)) else None) size
    by true = omega arith
    by false = lt

loads_found : (s t : List ℕ) (cell_of : ℕ → ℕ) (from n k : ℕ)
    → AllByRecursion (FoundIn t) (map (λ i. load_of s (cell_of i)) (range_with_len from n)) → k < n
    → slice_index t (cell_of (from + k)) ≡ slice_index s (cell_of (from + k))
loads_found s t cell_of from zero k each lt = absurd (omega arith)
loads_found s t cell_of from (suc n) zero each lt =
    let at : from ≡ from + 0 = omega arith in
    subst (λ i. slice_index t (cell_of i) ≡ slice_index s (cell_of i)) at each.0
loads_found s t cell_of from (suc n) (suc k) each lt =
    let r = loads_found s t cell_of (from + 1) n k each.1 (omega arith) in
    let at : from + 1 + k ≡ from + suc k = omega arith in
    subst (λ i. slice_index t (cell_of i) ≡ slice_index s (cell_of i)) at r

-- a search over words that answer its loads finds the same record
least_same : (s t : List ℕ) (cell_of : ℕ → ℕ) (test : ℕ → Bool) (size : ℕ)
    → AllByRecursion (FoundIn t) (record_loads cell_of
    (looked_at (least_record (λ n. test (slice_index s (cell_of n))) size) size) s)
    → least_record (λ n. test (slice_index t (cell_of n))) size ≡ least_record (λ n. test (slice_index s (cell_of n))) size
least_same s t cell_of test size found =
    let p = λ (n : ℕ). test (slice_index s (cell_of n)) in
    let q = λ (n : ℕ). test (slice_index t (cell_of n)) in
    let xs = range_with_len 0 size in
    let long = length-range_with_len 0 size in
    let is : position_or_len q xs ≡ position_or_len p xs = first_same p q xs (λ k le lt.
    let within : k < size = omega arith in
    let at : get_or xs k 0 ≡ k = omega (arith, get_or-range_with_len 0 size k 0 within) in
    let same = loads_found s t cell_of 0 (looked_at (least_record p size) size) k found (looked_upto p size k le within) in
    let none : 0 + k ≡ k = omega arith in
    ap q at ∙ ap test (subst (λ i. slice_index t (cell_of i) ≡ slice_index s (cell_of i)) none same) ∙ sym (ap p at)) in
    ap (λ n. if nat_lt n (length xs) then Some n else None) is

loads_same : (s t : List ℕ) (cell_of : ℕ → ℕ) (from n : ℕ)
    → AllByRecursion (FoundIn t) (map (λ i. load_of s (cell_of i)) (range_with_len from n))
    → map (λ i. load_of t (cell_of i)) (range_with_len from n)
    ≡ map (λ i. load_of s (cell_of i)) (range_with_len from n)
loads_same s t cell_of from zero each = refl
loads_same s t cell_of from (suc n) each =
    ap (λ v. Load (cell_of from) v ∷ map (λ i. load_of t (cell_of i)) (range_with_len (from + 1) n)) each.0
    ∙ ap (λ l. load_of s (cell_of from) ∷ l) (loads_same s t cell_of (from + 1) n each.1)

loads_load : (s : List ℕ) (cell_of : ℕ → ℕ) (from n : ℕ) → AllByRecursion (IsLoad s) (map (λ i. load_of s (cell_of i)) (range_with_len from n))
loads_load s cell_of from zero = tt
loads_load s cell_of from (suc n) = (record { cell = cell_of from; is = refl }, loads_load s cell_of (from + 1) n)

pub framed_search : (c : Config) (cell_of : ℕ → ℕ) (test : ℕ → Bool) (size : ℕ) (go : Option ℕ → Config → Config)
    → ((number : Option ℕ) (loads : List Touch)
    → Framed (looked loads c).world (λ t. go number (with_store t (looked loads c))))
    → Framed c.world (λ t. on_record cell_of test size (with_store t c) go)
framed_search c cell_of test size go more =
    let s = c.world.store in
    let least = λ (t : List ℕ). least_record (λ n. test (slice_index t (cell_of n))) size in
    let loads = λ (number : Option ℕ) (t : List ℕ). record_loads cell_of (looked_at number size) t in
    let ls = loads (least s) s in
    framed_looks c.world ls (λ t. on_record cell_of test size (with_store t c) go)
    (λ t. go (least s) (with_store t (looked ls c))) (loads_load s cell_of 0 (looked_at (least s) size))
    (λ t found.
    ap (λ number. go number (with_store t (looked (loads number t) c))) (least_same s t cell_of test size found)
    ∙ ap (λ l. go (least s) (with_store t (looked l c))) (loads_same s t cell_of 0 (looked_at (least s) size) found))
    (more (least s) ls)

-- a record that is opened

opening_stores : Placed → ℕ → ℕ → List Variable → List Touch
opening_stores p number field [] = []
opening_stores p number field (v ∷ rest) = Store (field_cell p number field) v.init ∷ opening_stores p number (field + 1) rest

stores_alone : (p : Placed) (number field : ℕ) (fields : List Variable) → AllByRecursion IsStore (opening_stores p number field fields)
unfolding opening_stores
stores_alone p number field [] = tt
stores_alone p number field (v ∷ rest) = (tt, stores_alone p number (field + 1) rest)

abbrev stores_made : List Touch → World → World
stores_made ws w = record { store = stored w.store ws; trace = w.trace ++ ws }

fields_opened : (p : Placed) (number field : ℕ) (fields : List Variable) (w : World)
    → opens_fields p number field fields w ≡ stores_made (opening_stores p number field fields) w
unfolding opening_stores
fields_opened p number field [] w = ap (λ l. record { store = w.store; trace = l }) (sym (append-nil w.trace))
fields_opened p number field (v ∷ rest) w =
    fields_opened p number (field + 1) rest (writes (field_cell p number field) v.init w)
    ∙ ap (λ l. record { store = stored w.store (opening_stores p number field (v ∷ rest)); trace = l })
    (append_assoc w.trace (Store (field_cell p number field) v.init ∷ [])
    (opening_stores p number (field + 1) rest))

-- the stores of a record that is opened
abbrev record_stores : Placed → ℕ → List Touch
record_stores p number = opening_stores p number 0 p.file.fields ++ Store (mark_cell p number) 0 ∷ []

all_end : (a : List Touch) (u : Touch) → AllByRecursion IsStore a → IsStore u → AllByRecursion IsStore (a ++ u ∷ [])
all_end [] u each h = (h, tt)
all_end (v ∷ a) u each h = (each.0, all_end a u each.1 h)

record_opened : (p : Placed) (number : ℕ) (w : World) → opens_record p number w ≡ stores_made (record_stores p number) w
record_opened p number w =
    let ws = opening_stores p number 0 p.file.fields in
    let last = Store (mark_cell p number) 0 in
    ap (writes (mark_cell p number) 0) (fields_opened p number 0 p.file.fields w)
    ∙ ap (λ s. record { store = s; trace = w.trace ++ ws ++ last ∷ [] }) (sym (stored-append ws (last ∷ []) w.store))
    ∙ ap (λ l. record { store = stored w.store (ws ++ last ∷ []); trace = l }) (append_assoc w.trace ws (last ∷ []))

pub framed_opens : (p : Placed) (number : ℕ) (w : World) (d : Config) → Framed w (λ t. record d { world = opens_record p number (record w { store = t }) })
framed_opens p number w d = record {
  grows = record {
    touches = record_stores p number;
    trace = ap (λ (v : World). v.trace) (record_opened p number w);
    store = ap (λ (v : World). v.store) (record_opened p number w);
    told = stores_answered (record_stores p number) w.store
        (all_end (opening_stores p number 0 p.file.fields) (Store (mark_cell p number) 0)
        (stores_alone p number 0 p.file.fields) tt);
  };
  same = λ t h. ap (λ v. record d { world = v }) (record_opened p number (record w { store = t }))
      ∙ ap (λ l. record d { world = record { store = stored t (record_stores p number); trace = l } })
      (sym (ap (λ (v : World). v.trace) (record_opened p number w)));
}
