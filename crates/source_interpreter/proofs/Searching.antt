-- What a statement on the records of a file does.
use Rattle.std.proofs.Common.{◌≡◌, ℕ, zero, suc, ◌+◌, ◌-◌, ◌<◌, ◌≤◌, Bool, true, false, List, []}
use Rattle.std.proofs.Common.{◌∷◌, ◌++◌, length, drop, get_or, Option, Some, None, Ok, Err, refl}
use Rattle.std.proofs.Common.{ap, sym, ◌∙◌, subst, slice_get, arith}
use Rattle.std.specs.Prelude.{nat_lt, nat_eq, not, slice_set, slice_index, if◌then◌else◌}
use Rattle.std.specs.List.{find, range_with_len, position_or_len}
use Rattle.std.proofs.lemmas.Bool.{ltb-true, ltb-false}
use Rattle.std.proofs.lemmas.List.Folds.{find_at}
use Rattle.std.proofs.lemmas.List.FromFn.{length-range_with_len}
use Rattle.std.proofs.lemmas.Option.{slice_get_past}
use Rattle.plex_limits.specs.declared.limits.TheConstants.{MOST_HELD}
use Rattle.job_types.specs.declared.fault.Fault.{Fault}
use Rattle.job_types.specs.declared.fault.Fault.TheVariants as fault
use Rattle.job_types.specs.declared.touch.Touch.{Touch}
use Rattle.exchange_model.specs.declared.block.Variable.{Variable}
use Rattle.exchange_model.specs.declared.expr.Expr.{Expr}
use Rattle.exchange_model.specs.declared.expr.Rel.{Rel}
use Rattle.exchange_model.specs.declared.stmt.StmtKind.TheOpen as stmt
use Rattle.exchange_model.specs.Cells.{Placed, field_cell, mark_cell}
use Rattle.job_types.specs.Own.{World}
use Rattle.source_meaning.specs.Value.{answer_of, expr_value, stands as stand, pointer_fault}
use Rattle.source_interpreter.specs.Checks.{unless}
use Rattle.source_meaning.specs.Config.{Config, Item, files_of}
use Rattle.source_meaning.specs.Step.{does}
use Rattle.source_meaning.specs.Changes.{goes, fails, least_record, looked_at, record_loads}
use Rattle.source_meaning.specs.Changes.{on_record, at_found, for_first, at_free, joins_chain}
use Rattle.source_meaning.specs.Changes.{seizes, at_record, frees, opens_fields, opens_record}
use Rattle.source_meaning.specs.Changes.{sets_temp, sets_cell}
use Rattle.source_interpreter.specs.Opened.{fields_opened, opened}
use Rattle.source_interpreter.specs.Running.{Running, sight_of, with_temp, at_label, holding, left}
use Rattle.source_interpreter.specs.Leaves.{Leaves, Does}
use Rattle.source_interpreter.specs.declared.stop.Stop.{Stop}
use Rattle.source_interpreter.specs.declared.stop.Stop.TheVariants as stop
use Rattle.source_interpreter.proofs.Follow.{Answer, start_of, value_goes, value_stops, unless_goes}
use Rattle.source_interpreter.proofs.Follow.{unless_stops, checked, test_goes, test_stops}
use Rattle.source_interpreter.proofs.Follow.{fails_is_over, stands, stands_with, as_fault}
use Rattle.source_interpreter.proofs.Follow.{as_memory}
use Rattle.plex_num.proofs.Lists.{opens}

-- the least number at which a test holds, looked for from 0 on

range_at : (a n i : ℕ) → i < n → slice_get (range_with_len a n) i ≡ Some (a + i)
range_at a zero i lt = absurd (omega arith)
range_at a (suc n) zero lt = ap Some (omega arith)
range_at a (suc n) (suc i) lt = range_at (a + 1) n i (omega arith) ∙ ap Some (omega arith)

at_place : (size k : ℕ) (b : Bool) → nat_lt k (length (range_with_len 0 size)) ≡ b → (if b then Some k else None) ≡ slice_get (range_with_len 0 size) k
at_place size k true e =
    let within : k < size = omega (arith, ltb-true k (length (range_with_len 0 size)) e, length-range_with_len 0 size) in
    ap Some (omega arith) ∙ sym (range_at 0 size k within)
at_place size k false e = sym (slice_get_past (range_with_len 0 size) k (ltb-false k (length (range_with_len 0 size)) e))

least_is : (test : ℕ → Bool) (size : ℕ) → find test (range_with_len 0 size) ≡ least_record test size
least_is test size =
    let all : List ℕ = range_with_len 0 size in
    find_at test all ∙ sym (at_place size (position_or_len test all) (nat_lt (position_or_len test all) (length all)) refl)

pub find_begin : (test : ℕ → Bool) (size : ℕ) → find test (range_with_len 0 (size - 0)) ≡ least_record test size
find_begin test size = let none : size - 0 ≡ size = omega arith in ap (λ n. find test (range_with_len 0 n)) none ∙ least_is test size

one_more : (test : ℕ → Bool) (n size : ℕ) (b : Bool) → n < size → test n ≡ b
    → find test (range_with_len n (size - n)) ≡ (if b then Some n
    else find test (range_with_len (n + 1) (size - (n + 1))))
one_more test n size b lt e =
    let left : size - n ≡ suc (size - (n + 1)) = omega arith in
    ap (λ k. find test (range_with_len n k)) left ∙ ap (λ q. if q then Some n else find test (range_with_len (n + 1) (size - (n + 1)))) e

pub find_more : (test : ℕ → Bool) (n size : ℕ) (o : Option ℕ) → n < size → test n ≡ false
    → find test (range_with_len n (size - n)) ≡ o → find test (range_with_len (n + 1) (size - (n + 1))) ≡ o
find_more test n size o lt e inv = sym (one_more test n size false lt e) ∙ inv

pub find_here : (test : ℕ → Bool) (n size : ℕ) (o : Option ℕ) → n < size → test n ≡ true → find test (range_with_len n (size - n)) ≡ o → Some n ≡ o
find_here test n size o lt e inv = sym (one_more test n size true lt e) ∙ inv

pub find_none : (test : ℕ → Bool) (n size : ℕ) (o : Option ℕ) → size ≤ n → find test (range_with_len n (size - n)) ≡ o → None ≡ o
find_none test n size o past inv = let none : size - n ≡ 0 = omega arith in sym (ap (λ k. find test (range_with_len n k)) none) ∙ inv

-- the fields of a record, one after the other

pub opened_more : (p : Placed) (number i : ℕ) (fs : List Variable) (v : Variable) (store store' o : List ℕ)
    → i < length fs → v ≡ get_or fs i v → store' ≡ slice_set store (field_cell p number i) v.init
    → fields_opened p number i (drop i fs) store ≡ o → fields_opened p number (i + 1) (drop (i + 1) fs) store' ≡ o
opened_more p number i fs v store store' o lt is wrote inv =
    ap (fields_opened p number (i + 1) (drop (i + 1) fs)) wrote ∙ ap (λ l. fields_opened p number i l store) (sym (opens fs i v lt is)) ∙ inv

-- the words of a record with its INIT values are those of the definition, whatever was touched
fields_are : (p : Placed) (number field : ℕ) (fs : List Variable) (store : List ℕ) (trace : List Touch)
    → (opens_fields p number field fs (record { store = store; trace = trace })).store
    ≡ fields_opened p number field fs store
fields_are p number field [] store trace = refl
fields_are p number field (v ∷ fs) store trace = fields_are p number (field + 1) fs (slice_set store (field_cell p number field) v.init) _

record_is : (p : Placed) (number : ℕ) (store : List ℕ) (trace : List Touch)
    → (opens_record p number (record { store = store; trace = trace })).store ≡ opened p number store
record_is p number store trace = ap (λ l. slice_set l (mark_cell p number) 0) (fields_are p number 0 p.file.fields store trace)

-- FOR FIRST

abbrev after_first : Running → ℕ → ℕ → ℕ → Rel → ℕ → ℕ → Config → Config
after_first r temp file field rel label v d = for_first r.exchange (slice_get (files_of r.exchange) file) temp field rel v label r.todo d

abbrev first_of : List ℕ → Placed → ℕ → Rel → ℕ → Option ℕ
first_of s p field rel v = least_record (λ n. stand rel (slice_index s (field_cell p n field)) v) p.file.size

-- the value and the file are there
in_file : (r : Running) (s : List ℕ) (temp file field label v : ℕ) (rel : Rel) (e : Expr) (p : Placed)
    (found : Option ℕ) (o : Answer) (r' : Running) (trace : List Touch) (todo : List Item)
    → Ok v ≡ answer_of (expr_value e (sight_of r s)) → Some p ≡ slice_get (files_of r.exchange) file
    → found ≡ first_of s p field rel v → ((t : List Touch)
    → Leaves r.exchange s (at_found r.exchange temp label r.todo found (start_of r s t todo)) o r' s)
    → Leaves r.exchange s (does r.exchange r.own.point (stmt.ForFirst temp file field rel e label) r.todo
    (start_of r s trace todo)) o r' s
in_file r s temp file field label v rel e p found o r' trace todo value there is more =
    value_goes (expr_value e (sight_of r s)) v (after_first r temp file field rel label) r.exchange r s trace todo o r' s value (λ t.
    let P : Option Placed → Type 0 = λ q. Leaves r.exchange s (for_first r.exchange q temp field rel v label r.todo (start_of r s t todo)) o r' s in
    let loads : List Touch = record_loads (λ n. field_cell p n field) (looked_at (first_of s p field rel v) p.file.size) s in
    let Q : Option ℕ → Type 0 = λ q. Leaves r.exchange s (at_found r.exchange temp label r.todo q (start_of r s (t ++ loads) todo)) o r' s in
    subst P there (subst Q is (more (t ++ loads))))

pub first_found : (r r1 r' : Running) (s : List ℕ) (temp file field label v n : ℕ) (rel : Rel) (e : Expr) (p : Placed)
    → Ok v ≡ answer_of (expr_value e (sight_of r s)) → Some p ≡ slice_get (files_of r.exchange) file
    → Some n ≡ least_record (λ k. stand rel (slice_index s (field_cell p k field)) v) p.file.size
    → r1 ≡ with_temp temp n r → r' ≡ at_label label r1
    → Does (stmt.ForFirst temp file field rel e label) r s (Ok tt) r' s
first_found r r1 r' s temp file field label v n rel e p value there found set is = record {
  leaves = λ trace todo. in_file r s temp file field label v rel e p (Some n) (Ok tt) r' trace todo value there found
      (λ t. stands r.exchange (at_label label (with_temp temp n r)) r' s t refl (is ∙ ap (at_label label) set));
}

pub first_none : (r : Running) (s : List ℕ) (temp file field label v : ℕ) (rel : Rel) (e : Expr) (p : Placed)
    → Ok v ≡ answer_of (expr_value e (sight_of r s)) → Some p ≡ slice_get (files_of r.exchange) file
    → None ≡ least_record (λ k. stand rel (slice_index s (field_cell p k field)) v) p.file.size
    → Does (stmt.ForFirst temp file field rel e label) r s (Ok tt) r s
first_none r s temp file field label v rel e p value there found = record {
  leaves = λ trace todo. in_file r s temp file field label v rel e p None (Ok tt) r trace todo value there found (λ t. stands r.exchange r r s t refl refl);
}

pub first_nowhere : (r : Running) (s : List ℕ) (temp file field label v : ℕ) (rel : Rel) (e : Expr)
    → Ok v ≡ answer_of (expr_value e (sight_of r s)) → None ≡ slice_get (files_of r.exchange) file
    → Does (stmt.ForFirst temp file field rel e label) r s (Ok tt) r s
first_nowhere r s temp file field label v rel e value none = record {
  leaves = λ trace todo. value_goes (expr_value e (sight_of r s)) v (after_first r temp file field rel label) r.exchange r s trace todo (Ok tt) r s value (λ t.
      let P : Option Placed → Type 0 = λ q. Leaves r.exchange s (for_first r.exchange q temp field rel v label r.todo (start_of r s t todo)) (Ok tt) r s in
      subst P none (stands r.exchange r r s t refl refl));
}

pub first_stops : (r : Running) (s : List ℕ) (temp file field label : ℕ) (rel : Rel) (e : Expr) (f : Fault) (o : Stop)
    → Err f ≡ answer_of (expr_value e (sight_of r s)) → o ≡ stop.Fault f
    → Does (stmt.ForFirst temp file field rel e label) r s (Err o) r s
first_stops r s temp file field label rel e f o value is =
    as_fault (does r.exchange r.own.point (stmt.ForFirst temp file field rel e label) r.todo) r s f o r s is
    (λ trace todo. value_stops (expr_value e (sight_of r s)) f (after_first r temp file field rel label) r.exchange
    r s trace todo value)

-- SEIZE

abbrev free_of : List ℕ → Placed → Option ℕ
free_of s p = least_record (λ n. nat_eq (slice_index s (mark_cell p n)) 0) p.file.size

is_zero : (b : Bool) → true ≡ not b → b ≡ false
is_zero true e = cc
is_zero false e = refl

is_none : (b : Bool) → false ≡ not b → b ≡ true
is_none true e = refl
is_none false e = cc

abbrev in_forlopp : Bool → Running → Placed → ℕ → ℕ → ℕ → Config → Config
in_forlopp none r p file temp label c =
    if none then fails fault.NoForlopp c else on_record (mark_cell p) (λ mark. nat_eq mark 0) p.file.size c (at_free r.exchange p file temp label r.todo)

-- the file is there, and the job stands in a forlopp
in_marks : (r : Running) (s s' : List ℕ) (temp file label : ℕ) (p : Placed) (h : Bool) (found : Option ℕ) (o : Answer)
    (r' : Running) (trace : List Touch) (todo : List Item) → Some p ≡ slice_get (files_of r.exchange) file
    → h ≡ not (nat_eq r.own.forlopp 0) → h ≡ true → found ≡ free_of s p
    → ((t : List Touch) → Leaves r.exchange s (at_free r.exchange p file temp label r.todo found (start_of r s t todo))
    o r' s') → Leaves r.exchange s (does r.exchange r.own.point (stmt.Seize temp file label) r.todo
    (start_of r s trace todo)) o r' s'
in_marks r s s' temp file label p h found o r' trace todo there some yes_is is more =
    let P : Option Placed → Type 0 = λ q. Leaves r.exchange s (seizes r.exchange q file temp label r.todo (start_of r s trace todo)) o r' s' in
    let R : Bool → Type 0 = λ q. Leaves r.exchange s (in_forlopp q r p file temp label (start_of r s trace todo)) o r' s' in
    let loads : List Touch = record_loads (mark_cell p) (looked_at (free_of s p) p.file.size) s in
    let Q : Option ℕ → Type 0 = λ q. Leaves r.exchange s (at_free r.exchange p file temp label r.todo q (start_of r s (trace ++ loads) todo)) o r' s' in
    subst P there (subst R (sym (is_zero (nat_eq r.own.forlopp 0) (sym yes_is ∙ some))) (subst Q is (more (trace ++ loads))))

pub seize_goes : (r r1 r' : Running) (s s' : List ℕ) (temp file label n : ℕ) (p : Placed) (h : Bool)
    → Some p ≡ slice_get (files_of r.exchange) file → h ≡ not (nat_eq r.own.forlopp 0) → h ≡ true
    → Some n ≡ least_record (λ k. nat_eq (slice_index s (mark_cell p k)) 0) p.file.size
    → Ok tt ≡ checked (nat_lt (length r.own.chain) MOST_HELD) fault.Chain → r1 ≡ holding file n r
    → s' ≡ slice_set s (mark_cell p n) 1 → r' ≡ with_temp temp n r1
    → Does (stmt.Seize temp file label) r s (Ok tt) r' s'
seize_goes r r1 r' s s' temp file label n p h there some yes_is found room held wrote set = record {
  leaves = λ trace todo. in_marks r s s' temp file label p h (Some n) (Ok tt) r' trace todo there some yes_is found (λ t.
      test_goes (nat_lt (length r.own.chain) MOST_HELD) fault.Chain
      (goes r.todo (sets_temp temp n (sets_cell (mark_cell p n) 1 (start_of (holding file n r) s t todo))))
      (fails fault.Chain (start_of r s t todo)) r.exchange s (Ok tt) r' s' room
      (stands_with r.exchange (with_temp temp n (holding file n r)) r' (slice_set s (mark_cell p n) 1) s' _ refl (set ∙ ap (with_temp temp n) held) wrote));
}

pub seize_full : (r r1 : Running) (s : List ℕ) (temp file label n : ℕ) (p : Placed) (h : Bool) (f : Fault) (o : Stop)
    → Some p ≡ slice_get (files_of r.exchange) file → h ≡ not (nat_eq r.own.forlopp 0) → h ≡ true
    → Some n ≡ least_record (λ k. nat_eq (slice_index s (mark_cell p k)) 0) p.file.size
    → Err f ≡ checked (nat_lt (length r.own.chain) MOST_HELD) fault.Chain → r1 ≡ r → o ≡ stop.Fault f
    → Does (stmt.Seize temp file label) r s (Err o) r1 s
seize_full r r1 s temp file label n p h f o there some yes_is found full same is =
    as_fault (does r.exchange r.own.point (stmt.Seize temp file label) r.todo) r s f o r1 s is (λ trace todo.
    in_marks r s s temp file label p h (Some n) (Err (stop.Fault f)) r1 trace todo there some yes_is found (λ t.
    let P : Running → Type 0 = λ q. Leaves r.exchange s (joins_chain p file temp n r.todo (start_of r s t todo)) (Err (stop.Fault f)) q s in
    subst P (sym same) (test_stops (nat_lt (length r.own.chain) MOST_HELD) fault.Chain f
    (goes r.todo (sets_temp temp n (sets_cell (mark_cell p n) 1 (start_of (holding file n r) s t todo)))) r.exchange
    r s t todo full)))

pub seize_none : (r r' : Running) (s : List ℕ) (temp file label : ℕ) (p : Placed) (h : Bool)
    → Some p ≡ slice_get (files_of r.exchange) file → h ≡ not (nat_eq r.own.forlopp 0) → h ≡ true
    → None ≡ least_record (λ k. nat_eq (slice_index s (mark_cell p k)) 0) p.file.size → r' ≡ at_label label r
    → Does (stmt.Seize temp file label) r s (Ok tt) r' s
seize_none r r' s temp file label p h there some yes_is found is = record {
  leaves = λ trace todo. in_marks r s s temp file label p h None (Ok tt) r' trace todo there some yes_is found
      (λ t. stands r.exchange (at_label label r) r' s t refl is);
}

pub seize_outside : (r : Running) (s : List ℕ) (temp file label : ℕ) (p : Placed) (h : Bool)
    → Some p ≡ slice_get (files_of r.exchange) file → h ≡ not (nat_eq r.own.forlopp 0) → h ≡ false
    → Does (stmt.Seize temp file label) r s (Err (stop.Fault fault.NoForlopp)) r s
seize_outside r s temp file label p h there none no_is = record {
  leaves = λ trace todo.
      let P : Option Placed → Type 0 = λ q. Leaves r.exchange s
      (seizes r.exchange q file temp label r.todo (start_of r s trace todo)) (Err (stop.Fault fault.NoForlopp)) r s
      in
      let R : Bool → Type 0 = λ q. Leaves r.exchange s (in_forlopp q r p file temp label (start_of r s trace todo)) (Err (stop.Fault fault.NoForlopp)) r s in
      subst P there (subst R (sym (is_none (nat_eq r.own.forlopp 0) (sym no_is ∙ none))) (fails_is_over fault.NoForlopp r s trace todo));
}

pub seize_nowhere : (r : Running) (s : List ℕ) (temp file label : ℕ) → None ≡ slice_get (files_of r.exchange) file
    → Does (stmt.Seize temp file label) r s (Ok tt) r s
seize_nowhere r s temp file label none = record {
  leaves = λ trace todo.
      let P : Option Placed → Type 0 = λ q. Leaves r.exchange s (seizes r.exchange q file temp label r.todo (start_of r s trace todo)) (Ok tt) r s in
      subst P none (stands r.exchange r r s trace refl refl);
}

-- FREE

at_file : (r : Running) (s s' : List ℕ) (temp file : ℕ) (found : Option Placed) (o : Answer) (r' : Running)
    (trace : List Touch) (todo : List Item) → found ≡ slice_get (files_of r.exchange) file
    → Leaves r.exchange s (at_record found file (slice_index r.temps temp) (start_of r s trace r.todo)
    (frees file (slice_index r.temps temp))) o r' s'
    → Leaves r.exchange s (does r.exchange r.own.point (stmt.Free temp file) r.todo (start_of r s trace todo)) o r' s'
at_file r s s' temp file found o r' trace todo is more =
    let P : Option Placed → Type 0 = λ q. Leaves r.exchange s
    (at_record q file (slice_index r.temps temp) (start_of r s trace r.todo)
    (frees file (slice_index r.temps temp))) o r' s' in
    subst P is more

pub free_goes : (r r' : Running) (s s' : List ℕ) (temp file number : ℕ) (p : Placed)
    → Some p ≡ slice_get (files_of r.exchange) file → number ≡ slice_index r.temps temp
    → Ok tt ≡ unless (pointer_fault r.own.chain file p number) → s' ≡ opened p number s → r' ≡ left file number r
    → Does (stmt.Free temp file) r s (Ok tt) r' s'
free_goes r r' s s' temp file number p there at right wrote is = record {
  leaves = λ trace todo.
      let w : World = opens_record p number (record { store = s; trace = trace }) in
      let P : ℕ → Type 0 = λ n. Leaves r.exchange s (at_record (Some p) file n (start_of r s trace r.todo) (frees file n)) (Ok tt) r' s' in
      at_file r s s' temp file (Some p) (Ok tt) r' trace todo there (
      subst P at (
      unless_goes (pointer_fault r.own.chain file p number) (frees file number p) r.exchange s (start_of r s trace r.todo) (Ok tt) r' s' right
      (stands_with r.exchange (left file number r) r' w.store s' w.trace refl is (wrote ∙ sym (record_is p number s trace)))));
}

pub free_wrong : (r : Running) (s : List ℕ) (temp file : ℕ) (p : Placed) (f : Fault) (o : Stop)
    → Some p ≡ slice_get (files_of r.exchange) file
    → Err f ≡ unless (pointer_fault r.own.chain file p (slice_index r.temps temp)) → o ≡ stop.Fault f
    → Does (stmt.Free temp file) r s (Err o) r s
free_wrong r s temp file p f o there wrong is =
    let number : ℕ = slice_index r.temps temp in
    as_fault (does r.exchange r.own.point (stmt.Free temp file) r.todo) r s f o r s is (λ trace todo.
    at_file r s s temp file (Some p) (Err (stop.Fault f)) r trace todo there
    (unless_stops (pointer_fault r.own.chain file p number) f (frees file number p) r.exchange r s trace r.todo
    wrong))

pub free_nowhere : (r : Running) (s : List ℕ) (temp file : ℕ) → None ≡ slice_get (files_of r.exchange) file → Does (stmt.Free temp file) r s (Ok tt) r s
free_nowhere r s temp file none = record {
  leaves = λ trace todo. at_file r s s temp file None (Ok tt) r trace todo none (stands r.exchange r r s trace refl refl);
}

-- a search, from record to record
pub ruleset finds = (find_begin, find_more, find_here, find_none)

-- how a FOR FIRST may leave the job
pub ruleset firsts = (first_found, first_none, first_nowhere, first_stops, as_memory)

-- how a SEIZE may
pub ruleset seizures = (seize_goes, seize_none, seize_full, seize_outside, seize_nowhere, as_memory)
