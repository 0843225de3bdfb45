-- The faults of a statement, one by one.
use Rattle.std.proofs.Common.{◌≡◌, ◌⊎◌, inl, inr, ⊎_elim, ℕ, ◌+◌, ◌^◌, ◌<◌, ◌≤◌, Bool, true, false}
use Rattle.std.proofs.Common.{◌||◌, List, [], ◌∷◌, ◌++◌, length, map, drop, get_or, Option, Some}
use Rattle.std.proofs.Common.{None, slice_get, refl, sym, ap, ◌∙◌, subst, arith, append-nil}
use Rattle.std.proofs.Common.{append_assoc, rules, IsPermutation}
use Rattle.std.specs.Prelude.{◌↔◌}
use Rattle.std.specs.List.{Contains, dedup, list_any}
use Rattle.std.specs.Option.{option_to_list}
use Rattle.std.proofs.Math.ListN.{drop_of_length-le}
use Rattle.std.proofs.lemmas.List.Elements.{Contains-append_left, Contains-append_right}
use Rattle.std.proofs.lemmas.List.Elements.{Contains-append_cases}
use Rattle.std.proofs.lemmas.Bool.{or_right}
use Rattle.plex_limits.specs.declared.limits.TheConstants.{MOST_CALLERS}
use Rattle.plex_num.proofs.Members.{first_or_later, none_in, first_is, later_is}
use Rattle.plex_num.proofs.Lists.{opens}
use Rattle.exchange_model.specs.declared.block.FilePlace.{FilePlace}
use Rattle.exchange_model.specs.declared.exchange.Exchange.{Exchange}
use Rattle.exchange_model.specs.declared.expr.Expr.{Expr}
use Rattle.exchange_model.specs.declared.signal.SignalKind.{SignalKind}
use Rattle.exchange_model.specs.declared.signal.SignalKind.TheVariants.{Buffered, Direct, Combined}
use Rattle.exchange_model.specs.declared.signal.SignalKind.TheVariants.{Answer, Outside}
use Rattle.exchange_model.specs.declared.stmt.Receiver.{Receiver}
use Rattle.exchange_model.specs.declared.stmt.Receiver.TheVariants as receiver
use Rattle.exchange_model.specs.declared.stmt.StmtKind.{out-StmtKind}
use Rattle.exchange_model.specs.declared.stmt.StmtKind.TheOpen as stmt
use Rattle.exchange_model.specs.Cells.{Placed}
use Rattle.exchange_model.specs.Index.{FindsFile as IsFoundAt}
use Rattle.exchange_model.specs.Inside.{own_exprs}
use Rattle.source_meaning.specs.Changes.{variable_width, field_width}
use Rattle.source_meaning.specs.Config.{files_of}
use Rattle.source_meaning.specs.Deeds.{IsEnd, receiver_in, signal_in}
use Rattle.source_meaning.specs.Named.{Layer, Named, NamedVariable, NamedField, named_in}
use Rattle.flow_points.specs.declared.fact.Slot.TheVariants.{Temp, Depth}
use Rattle.flow_points.specs.declared.flow.Source.TheVariants.{Of}
use Rattle.flow_points.specs.Facts.{Facts, Reached}
use Rattle.flow_points.specs.Places.{Place}
use Rattle.flow_points.specs.Sources.{expr_source}
use Rattle.flow_table.specs.declared.place.PlaceAt.{PlaceAt}
use Rattle.flow_table.specs.Texts.{AreReachedAmong, seen}
use Rattle.flow_table.proofs.Reaching.{of_map}
use Rattle.flow_table.proofs.Rowing.{seen_at}
use Rattle.entry_summary.specs.Faults.{SourceMayBe, may_divide_by_zero, PointsAt, reads, writes}
use Rattle.entry_summary.specs.Faults.{frees, PutsIn, in_variable, in_field, FaultsAt, no_record}
use Rattle.entry_summary.specs.Faults.{no_receiver, too_wide, divides_by_zero, not_own, seizes}
use Rattle.entry_summary.specs.Faults.{has_caller, no_caller, other_caller, too_deep, SomeFaults}
use Rattle.entry_summary.specs.Faults.{TooManySends, GoesRound, MayFault}
use Rattle.entry_summary.proofs.Sorting.{same_items}
use Rattle.entry_faults.specs.declared.exprs.ExprAt.{ExprAt}
use Rattle.entry_faults.specs.declared.fields.Pointer.{Pointer}
use Rattle.entry_faults.specs.contracts.fields.PointerPartialEq.TheImpl as equal
use Rattle.entry_faults.specs.contracts.fields.PointerEq.TheImpl.Laws as equal_laws
use Rattle.entry_faults.specs.declared.question.Asked.TheVariants.{AtLeast}
use Rattle.entry_faults.specs.declared.question.Question.{Question}
use Rattle.entry_faults.specs.Asking.{MayAnswer}
use Rattle.entry_faults.specs.Exprs.{expr_seen}
use Rattle.entry_faults.specs.Fields.{pointer_to, pointers_named, pointers_in}
use Rattle.entry_faults.specs.Statements.{placed_as, file_at, own_pointer, pointers_at, is_forlopp}
use Rattle.entry_faults.specs.Statements.{points_at_forlopp, size_question, pointer_question}
use Rattle.entry_faults.specs.Statements.{AnyMisses, wide_question, field_question, width_question}
use Rattle.entry_faults.specs.Statements.{held_question, receiver_question, call_question}
use Rattle.entry_faults.specs.Statements.{depth_question, end_question, awaits_question, is_seize}
use Rattle.entry_faults.specs.Statements.{FaultsHere}
use Rattle.entry_faults.proofs.Asking.{any_there, there_any}

-- files

pub file_found : (x : Exchange) (n : ℕ) (o : Option FilePlace) → IsFoundAt x.blocks n o → placed_as o ≡ file_at x n
unfolding files_of
file_found x n None h = sym h
file_found x n (Some p) h = sym h

pub forlopp_none : (r : Option FilePlace) (o : Option Placed) → placed_as r ≡ o → r ≡ None → false ≡ is_forlopp o
forlopp_none r o is none = ap (λ (s : Option FilePlace). is_forlopp (placed_as s)) (sym none) ∙ ap is_forlopp is

pub forlopp_some : (r : Option FilePlace) (o : Option Placed) (p : FilePlace) → placed_as r ≡ o → r ≡ Some p → p.file.now.forlopp ≡ is_forlopp o
forlopp_some r o p is some = ap (λ (s : Option FilePlace). is_forlopp (placed_as s)) (sym some) ∙ ap is_forlopp is

pub size_none : (r : Option FilePlace) (o : Option Placed) (temp : ℕ) → placed_as r ≡ o → r ≡ None → None ≡ size_question temp o
size_none r o temp is none = ap (λ (s : Option FilePlace). size_question temp (placed_as s)) (sym none) ∙ ap (size_question temp) is

pub size_some : (r : Option FilePlace) (o : Option Placed) (temp : ℕ) (p : FilePlace) → placed_as r ≡ o → r ≡ Some p
    → Some (record { source = Of (Temp temp); asked = AtLeast p.file.now.size }) ≡ size_question temp o
size_some r o temp p is some = ap (λ (s : Option FilePlace). size_question temp (placed_as s)) (sym some) ∙ ap (size_question temp) is

pub field_none : (r : Option FilePlace) (o : Option Placed) (field : ℕ) (value : Expr) → placed_as r ≡ o → r ≡ None → None ≡ field_question o field value
field_none r o field value is none = ap (λ (s : Option FilePlace). field_question (placed_as s) field value) (sym none)
    ∙ ap (λ (s : Option Placed). field_question s field value) is

pub field_some : (r : Option FilePlace) (o : Option Placed) (field : ℕ) (value : Expr) (p : FilePlace) (w : ℕ)
    (q : Question) → placed_as r ≡ o → r ≡ Some p
    → w ≡ field_width (record { block = p.block; file = p.file.now; first = p.first }) field → q ≡ wide_question value w
    → Some q ≡ field_question o field value
field_some r o field value p w q is some width made =
    ap Some (made ∙ ap (wide_question value) width)
    ∙ ap (λ (s : Option FilePlace). field_question (placed_as s) field value) (sym some)
    ∙ ap (λ (s : Option Placed). field_question s field value) is

-- pointers

as_pointer : Named → Pointer
as_pointer (NamedVariable v) = pointer_to 0 0
as_pointer (NamedField file field temp) = pointer_to file temp

is_field : Named → Bool
is_field (NamedVariable v) = false
is_field (NamedField file field temp) = true

named_pointer : (ns : List Named) (file field temp : ℕ) → Contains ns (NamedField file field temp) → Contains (pointers_named ns) (pointer_to file temp)
unfolding as_pointer is_field
named_pointer [] file field temp c = absurd (none_in (NamedField file field temp) c)
named_pointer (NamedVariable v ∷ ns) file field temp c =
    ⊎_elim
    (λ e. absurd (let clash : false ≡ true = ap is_field e in cc))
    (λ later. named_pointer ns file field temp later)
    (first_or_later (NamedVariable v) (NamedField file field temp) ns c)
named_pointer (NamedField f g t ∷ ns) file field temp c =
    ⊎_elim
    (λ e. let same : pointer_to f t ≡ pointer_to file temp = ap as_pointer e in subst
    (Contains (pointer_to f t ∷ pointers_named ns)) same (first_is (pointer_to f t) (pointers_named ns)))
    (λ later. later_is (pointer_to f t) (pointer_to file temp) (pointers_named ns) (named_pointer ns file field temp later))
    (first_or_later (NamedField f g t) (NamedField file field temp) ns c)

pointer_named : (ns : List Named) (q : Pointer) → Contains (pointers_named ns) q → (field : ℕ) × Contains ns (NamedField q.file field q.temp)
pointer_named [] q c = absurd (none_in q c)
pointer_named (NamedVariable v ∷ ns) q c = (let h = pointer_named ns q c in (h.0, later_is (NamedVariable v) (NamedField q.file h.0 q.temp) ns h.1))
pointer_named (NamedField f g t ∷ ns) q c =
    ⊎_elim
    (λ e. (g, subst (λ (r : Pointer). Contains (NamedField f g t ∷ ns) (NamedField r.file g r.temp)) e (first_is (NamedField f g t) ns)))
    (λ later. let h = pointer_named ns q later in (h.0, later_is (NamedField f g t) (NamedField q.file h.0 q.temp) ns h.1))
    (first_or_later (pointer_to f t) q (pointers_named ns) c)

in_all : (es : List Expr) (e : Expr) (q : Pointer) → Contains es e → Contains (pointers_named (named_in e)) q → Contains (pointers_in es) q
in_all [] e q c h = absurd (none_in e c)
in_all (d ∷ es) e q c h =
    ⊎_elim
    (λ same. Contains-append_left (pointers_named (named_in d)) (pointers_in es) q (subst (λ f. Contains (pointers_named (named_in f)) q) (sym same) h))
    (λ later. Contains-append_right (pointers_named (named_in d)) (pointers_in es) q (in_all es e q later h))
    (first_or_later d e es c)

record FoundIn (es : List Expr) (q : Pointer) : Type 0 where
  expr : Expr
  one : Contains es expr
  named : Contains (pointers_named (named_in expr)) q

all_in : (es : List Expr) (q : Pointer) → Contains (pointers_in es) q → FoundIn es q
all_in [] q c = absurd (none_in q c)
all_in (d ∷ es) q c =
    ⊎_elim
    (λ here. record { expr = d; one = first_is d es; named = here })
    (λ later. let h = all_in es q later in record { expr = h.expr; one = later_is d h.expr es h.one; named = h.named })
    (Contains-append_cases (pointers_named (named_in d)) (pointers_in es) q c)

points_listed : (l : Layer) (file temp : ℕ) → PointsAt l file temp → Contains (pointers_at l) (pointer_to file temp)
points_listed l file temp (reads m f field t h) = Contains-append_left (pointers_in (own_exprs l))
    (option_to_list (own_pointer l)) (pointer_to file temp)
    (in_all (own_exprs l) h.expr (pointer_to file temp) h.own (named_pointer (named_in h.expr) file field temp h.named))
points_listed l file temp (writes f field t value) = Contains-append_right (pointers_in (own_exprs l))
    (option_to_list (own_pointer l)) (pointer_to file temp) (first_is (pointer_to file temp) [])
points_listed l file temp (frees t f) = Contains-append_right (pointers_in (own_exprs l))
    (option_to_list (own_pointer l)) (pointer_to file temp) (first_is (pointer_to file temp) [])

own_points : (l : Layer) (q : Pointer) → Contains (option_to_list (own_pointer l)) q → PointsAt l q.file q.temp
own_points (stmt.SetField file field temp value) q c =
    ⊎_elim
    (λ e. subst (λ (r : Pointer). PointsAt (stmt.SetField file field temp value) r.file r.temp) e (writes file field temp value))
    (λ none. absurd (none_in q none))
    (first_or_later (pointer_to file temp) q [] c)
own_points (stmt.Free temp file) q c =
    ⊎_elim
    (λ e. subst (λ (r : Pointer). PointsAt (stmt.Free temp file) r.file r.temp) e (frees temp file))
    (λ none. absurd (none_in q none))
    (first_or_later (pointer_to file temp) q [] c)
own_points _ q c = absurd (none_in q c)

listed_points : (l : Layer) (q : Pointer) → Contains (pointers_at l) q → PointsAt l q.file q.temp
listed_points l q c =
    ⊎_elim
    (λ read.
    let h = all_in (own_exprs l) q read in
    let n = pointer_named (named_in h.expr) q h.named in
    reads l q.file n.0 q.temp (record { expr = h.expr; own = h.one; named = n.1 }))
    (λ own. own_points l q own)
    (Contains-append_cases (pointers_in (own_exprs l)) (option_to_list (own_pointer l)) q c)

-- the faults of a statement

pub record Divides (l : Layer) : Type 0 where
  pub value : Expr
  pub one : Contains (own_exprs l) value
  pub divides : may_divide_by_zero value ≡ true

pub record AtForlopp (x : Exchange) (l : Layer) : Type 0 where
  pub pointer : Pointer
  pub one : Contains (pointers_at l) pointer
  pub so : points_at_forlopp x pointer ≡ true

module _ (x : Exchange) (P : Facts) (e b p : ℕ) where
  wide_to : (l : Layer) (value : Expr) (width n : ℕ) → PutsIn x b l value width
      → SourceMayBe P e p (expr_source value) n → 2 ^ width ≤ n → MayAnswer x P e p (width_question x b l)
  wide_to l value width n (in_variable variable v) may le = record { number = n; may = may; meets = le }
  wide_to l value width n (in_field file field temp v placed there) may le = subst
      (λ (o : Option Placed). MayAnswer x P e p (field_question o field v)) (sym there)
      (record { number = n; may = may; meets = le })

  end_to : (l : Layer) (n : ℕ) → IsEnd l → SourceMayBe P e p (Of Depth) n → 0 < n → MayAnswer x P e p (end_question l)
  end_to stmt.Exit n is may pos = record { number = n; may = may; meets = omega (arith, pos) }
  end_to stmt.Finish n is may pos = record { number = n; may = may; meets = omega (arith, pos) }
  end_to _ n is may pos = absurd is

  abbrev Tree : Layer → Type 0
  Tree l =
      ((((((((is_seize l ≡ true) ⊎ Divides l) ⊎ AtForlopp x l) ⊎ AnyMisses x P e p (pointers_at l))
      ⊎ MayAnswer x P e p (receiver_question l)) ⊎ MayAnswer x P e p (width_question x b l))
      ⊎ MayAnswer x P e p (end_question l)) ⊎ MayAnswer x P e p (awaits_question l)) ⊎ MayAnswer x P e p (depth_question x l)

  misses_to : (l : Layer) → AnyMisses x P e p (pointers_at l) → Tree l
  misses_to l m = inl (inl (inl (inl (inl (inr m)))))

  to : (l : Layer) → FaultsAt x P e b p l → Tree l
  to l (no_record m file temp n placed points there may le) =
      misses_to l (record {
        pointer = pointer_to file temp;
        one = points_listed l file temp points;
        misses = subst (λ (o : Option Placed). MayAnswer x P e p (size_question temp o)) (sym there) (record { number = n; may = may; meets = le });
      })
  to l (no_receiver m h n is may none) = inl (inl
      (inl (inl (inr (subst (λ o. MayAnswer x P e p (held_question o (signal_in l))) (sym is)
      (record { number = n; may = may; meets = none }))))))
  to l (too_wide m value width n puts may le) = inl (inl (inl (inr (wide_to l value width n puts may le))))
  to l (divides_by_zero m value c is) = inl (inl (inl (inl (inl (inl (inl (inr (record { value = value; one = c; divides = is }))))))))
  to l (not_own m file temp points h) = inl (inl
      (inl (inl (inl (inl (inr (record {
        pointer = pointer_to file temp;
        one = points_listed l file temp points;
        so = ap is_forlopp h.there ∙ h.forlopp;
      })))))))
  to l (seizes temp file label) = inl (inl (inl (inl (inl (inl (inl (inl refl)))))))
  to l (has_caller m n is may pos) = inl (inl (inr (end_to l n is may pos)))
  to l (no_caller answer values may) = inl (inl (inr (record { number = 0; may = may; meets = refl })))
  to l (other_caller answer values n may differ) = inl (inr (record { number = n; may = may; meets = differ }))
  to l (too_deep signal receiver values fresh name count answer there may) = inr
      (subst (λ o. MayAnswer x P e p (call_question o)) (sym there)
      (record { number = MOST_CALLERS; may = may; meets = refl }))

  seize_from : (l : Layer) → is_seize l ≡ true → FaultsAt x P e b p l
  seize_from (stmt.Seize temp file label) is = seizes temp file label
  seize_from _ is = absurd (let clash : false ≡ true = is in cc)

  forlopp_from : (l : Layer) (q : Pointer) → PointsAt l q.file q.temp → (o : Option Placed) → file_at x q.file ≡ o → is_forlopp o ≡ true → FaultsAt x P e b p l
  forlopp_from l q points None none is = absurd (let clash : false ≡ true = is in cc)
  forlopp_from l q points (Some placed) some is = not_own l q.file q.temp points (record { placed = placed; there = some; forlopp = is })

  misses_from : (l : Layer) (q : Pointer) → PointsAt l q.file q.temp → (o : Option Placed) → file_at x q.file ≡ o
      → MayAnswer x P e p (size_question q.temp o) → FaultsAt x P e b p l
  misses_from l q points None none m = absurd m
  misses_from l q points (Some placed) some m = no_record l q.file q.temp m.number placed points some m.may m.meets

  receiver_from : (l : Layer) (o : Option Receiver) → receiver_in l ≡ o → MayAnswer x P e p (held_question o (signal_in l)) → FaultsAt x P e b p l
  receiver_from l None is m = absurd m
  receiver_from l (Some (receiver.Block k)) is m = absurd m
  receiver_from l (Some (receiver.Held h)) is m = no_receiver l h m.number is m.may m.meets

  field_from : (file field temp : ℕ) (value : Expr) (o : Option Placed) → file_at x file ≡ o
      → MayAnswer x P e p (field_question o field value) → FaultsAt x P e b p (stmt.SetField file field temp value)
  field_from file field temp value None none m = absurd m
  field_from file field temp value (Some placed) some m = too_wide (stmt.SetField file field temp value) value
      (field_width placed field) m.number (in_field file field temp value placed some) m.may m.meets

  wide_from : (l : Layer) → MayAnswer x P e p (width_question x b l) → FaultsAt x P e b p l
  wide_from (stmt.SetVariable variable value) m = too_wide (stmt.SetVariable variable value) value
      (variable_width x b variable) m.number (in_variable variable value) m.may m.meets
  wide_from (stmt.SetField file field temp value) m = field_from file field temp value (file_at x file) refl m
  wide_from _ m = absurd m

  end_from : (l : Layer) → MayAnswer x P e p (end_question l) → FaultsAt x P e b p l
  end_from stmt.Exit m = has_caller stmt.Exit m.number tt m.may (let le = m.meets in omega (arith, le))
  end_from stmt.Finish m = has_caller stmt.Finish m.number tt m.may (let le = m.meets in omega (arith, le))
  end_from (stmt.Return answer values) m = no_caller answer values (subst (SourceMayBe P e p (Of Depth)) m.meets m.may)
  end_from _ m = absurd m

  awaits_from : (l : Layer) → MayAnswer x P e p (awaits_question l) → FaultsAt x P e b p l
  awaits_from (stmt.Return answer values) m = other_caller answer values m.number m.may m.meets
  awaits_from _ m = absurd m

  call_from : (signal : ℕ) (to : Option Receiver) (values : List Expr) (fresh : Bool) (o : Option SignalKind)
      → slice_get x.signals signal ≡ o → MayAnswer x P e p (call_question o)
      → FaultsAt x P e b p (stmt.Send signal to values fresh)
  call_from signal to values fresh None is m = absurd m
  call_from signal to values fresh (Some (Combined name count answer)) is m = too_deep signal to values fresh name count
      answer is (subst (SourceMayBe P e p (Of Depth)) m.meets m.may)
  call_from signal to values fresh (Some (Buffered name level count)) is m = absurd m
  call_from signal to values fresh (Some (Direct name count)) is m = absurd m
  call_from signal to values fresh (Some (Answer name count of)) is m = absurd m
  call_from signal to values fresh (Some (Outside name count)) is m = absurd m

  depth_from : (l : Layer) → MayAnswer x P e p (depth_question x l) → FaultsAt x P e b p l
  depth_from (stmt.Send signal to values fresh) m = call_from signal to values fresh (slice_get x.signals signal) refl m
  depth_from _ m = absurd m

  from_pointers : (l : Layer) → AnyMisses x P e p (pointers_at l) → FaultsAt x P e b p l
  from_pointers l m = misses_from l m.pointer (listed_points l m.pointer m.one) (file_at x m.pointer.file) refl m.misses

  from : (l : Layer) → Tree l → FaultsAt x P e b p l
  from l (inr m) = depth_from l m
  from l (inl (inr m)) = awaits_from l m
  from l (inl (inl (inr m))) = end_from l m
  from l (inl (inl (inl (inr m)))) = wide_from l m
  from l (inl (inl (inl (inl (inr m))))) = receiver_from l (receiver_in l) refl m
  from l (inl (inl (inl (inl (inl (inr m)))))) = from_pointers l m
  from l (inl (inl (inl (inl (inl (inl (inr h))))))) = forlopp_from l h.pointer (listed_points l h.pointer h.one) (file_at x h.pointer.file) refl h.so
  from l (inl (inl (inl (inl (inl (inl (inl (inr d)))))))) = divides_by_zero l d.value d.one d.divides
  from l (inl (inl (inl (inl (inl (inl (inl (inl s)))))))) = seize_from l s

  or_is : (c d : Bool) (A B : Type 0) → ((c ≡ true) ↔ A) → ((d ≡ true) ↔ B) → ((c || d) ≡ true) ↔ (A ⊎ B)
  or_is true d A B h k = (λ _. inl (h.0 refl), λ _. refl)
  or_is false d A B h k = (λ is. inr (k.0 is), λ s. ⊎_elim (λ a. absurd (let clash : false ≡ true = h.1 a in cc)) (λ t. k.1 t) s)

  divides_is : (l : Layer) (exprs : List ExprAt) (c : Bool) → map expr_seen exprs ≡ own_exprs l
      → c ≡ list_any (λ a. may_divide_by_zero (expr_seen a)) exprs → (c ≡ true) ↔ Divides l
  divides_is l exprs c are is = (λ so. there (any_there (λ a. may_divide_by_zero (expr_seen a)) exprs (sym is ∙ so)), λ d. is ∙ back d)
    where
      mapped : (xs : List ExprAt) (a : ExprAt) → Contains xs a → Contains (map expr_seen xs) (expr_seen a)
      mapped [] a c = absurd (none_in a c)
      mapped (y ∷ xs) a c = ⊎_elim (λ f. subst (λ (z : ExprAt). Contains (map expr_seen (y ∷ xs)) (expr_seen z)) f
          (first_is (expr_seen y) (map expr_seen xs)))
          (λ later. later_is (expr_seen y) (expr_seen a) (map expr_seen xs) (mapped xs a later))
          (first_or_later y a xs c)

      there : ((a : ExprAt) × Contains exprs a × (may_divide_by_zero (expr_seen a) ≡ true)) → Divides l
      there h = record { value = expr_seen h.0; one = subst (λ es. Contains es (expr_seen h.0)) are (mapped exprs h.0 h.1); divides = h.2 }

      unmapped : (xs : List ExprAt) (v : Expr) → Contains (map expr_seen xs) v → may_divide_by_zero v ≡ true
          → list_any (λ a. may_divide_by_zero (expr_seen a)) xs ≡ true
      unmapped [] v c so = absurd (none_in v c)
      unmapped (y ∷ xs) v c so = ⊎_elim (λ f. ap (λ t. t || list_any (λ a. may_divide_by_zero (expr_seen a)) xs)
          (ap may_divide_by_zero f ∙ so)) (λ later. or_right (may_divide_by_zero (expr_seen y))
          (list_any (λ a. may_divide_by_zero (expr_seen a)) xs) (unmapped xs v later so))
          (first_or_later (expr_seen y) v (map expr_seen xs) c)

      back : Divides l → list_any (λ a. may_divide_by_zero (expr_seen a)) exprs ≡ true
      back d = unmapped exprs d.value (subst (λ es. Contains es d.value) (sym are) d.one) d.divides

  forlopp_is : (l : Layer) (pointers : List Pointer) (c : Bool) → pointers ≡ pointers_at l
      → c ≡ list_any (points_at_forlopp x) pointers → (c ≡ true) ↔ AtForlopp x l
  forlopp_is l pointers c are is = (
    λ so. let h = any_there (points_at_forlopp x) pointers (sym is ∙ so) in record { pointer = h.0; one = subst (λ ps. Contains ps h.0) are h.1; so = h.2 },
    λ h. is ∙ there_any (points_at_forlopp x) pointers h.pointer (subst (λ ps. Contains ps h.pointer) (sym are) h.one) h.so,
  )

  -- what is found of a statement
  pub record Found (l : Layer) (pointers : List Pointer) (exprs : List ExprAt) (s d f m r w n a t : Bool) : Type 0 where
    pub exprs_are : map expr_seen exprs ≡ own_exprs l
    pub pointers_are : pointers ≡ pointers_in (map expr_seen exprs) ++ option_to_list (own_pointer l)
    pub seizing : s ≡ is_seize l
    pub dividing : d ≡ list_any (λ a. may_divide_by_zero (expr_seen a)) exprs
    pub forlopp : f ≡ list_any (points_at_forlopp x) pointers
    pub missing : (m ≡ true) ↔ AnyMisses x P e p pointers
    pub lost : (r ≡ true) ↔ MayAnswer x P e p (receiver_question l)
    pub wide : (w ≡ true) ↔ MayAnswer x P e p (width_question x b l)
    pub ending : (n ≡ true) ↔ MayAnswer x P e p (end_question l)
    pub awaiting : (a ≡ true) ↔ MayAnswer x P e p (awaits_question l)
    pub deep : (t ≡ true) ↔ MayAnswer x P e p (depth_question x l)

  pub faults_is : (l : Layer) (pointers : List Pointer) (exprs : List ExprAt) (s d f m r w n a t : Bool)
      → Found l pointers exprs s d f m r w n a t
      → ((((((((((s || d) || f) || m) || r) || w) || n) || a) || t) ≡ true) ↔ FaultsAt x P e b p l)
  faults_is l pointers exprs s d f m r w n a t h =
      let are : pointers ≡ pointers_at l = h.pointers_are ∙ ap (λ es. pointers_in es ++ option_to_list (own_pointer l)) h.exprs_are in
      let all =
      or_is _ t _ _ (or_is _ a _ _ (or_is _ n _ _
      (or_is _ w _ _ (or_is _ r _ _ (or_is _ m _ _
      (or_is _ f _ _ (or_is s d (is_seize l ≡ true) (Divides l) (λ so. sym h.seizing ∙ so, λ is. h.seizing ∙ is)
      (divides_is l exprs d h.exprs_are h.dividing)) (forlopp_is l pointers f are h.forlopp))
      (subst (λ ps. (m ≡ true) ↔ AnyMisses x P e p ps) are h.missing)) h.lost) h.wide) h.ending) h.awaiting) h.deep
      in
      (λ so. from l (all.0 so), λ faults. all.1 (to l faults))

-- pointers, one after the other

pub none_added : (old : List Pointer) (o : Option Pointer) → o ≡ None → old ≡ old ++ option_to_list o
none_added old o none = sym (append-nil old) ∙ ap (λ p. old ++ option_to_list p) (sym none)

pub all_fields_more : (exprs : List ExprAt) (i : ℕ) (one : ExprAt) (now new all : List Pointer) → i < length exprs
    → one ≡ get_or exprs i one → new ≡ now ++ pointers_named (named_in (expr_seen one))
    → now ++ pointers_in (map expr_seen (drop i exprs)) ≡ all
    → new ++ pointers_in (map expr_seen (drop (i + 1) exprs)) ≡ all
all_fields_more exprs i one now new all lt is made h =
    let rest = pointers_in (map expr_seen (drop (i + 1) exprs)) in
    ap (λ l. l ++ rest) made ∙ append_assoc now (pointers_named (named_in (expr_seen one))) rest
    ∙ ap (λ l. now ++ pointers_in (map expr_seen l)) (sym (opens exprs i one lt is)) ∙ h

pub all_fields_end : (exprs : List ExprAt) (i : ℕ) (now all : List Pointer) → length exprs ≤ i
    → now ++ pointers_in (map expr_seen (drop i exprs)) ≡ all → now ≡ all
all_fields_end exprs i now all past h = sym (append-nil now) ∙ ap (λ l. now ++ pointers_in (map expr_seen l)) (sym (drop_of_length-le exprs past)) ∙ h

pub record MissesGo (x : Exchange) (P : Facts) (e p : ℕ) (pointers : List Pointer) (i : ℕ) : Type 0 where
  pub left : (q : Pointer) → Contains pointers q → MayAnswer x P e p (pointer_question x q) → Contains (drop i pointers) q

pub misses_begin : (x : Exchange) (P : Facts) (e p : ℕ) (pointers : List Pointer) → MissesGo x P e p pointers 0
misses_begin x P e p pointers = record { left = λ q c m. c }

pub misses_more : (x : Exchange) (P : Facts) (e p : ℕ) (pointers : List Pointer) (i : ℕ) (q : Pointer)
    (o : Option Question) (b : Bool) → i < length pointers → q ≡ get_or pointers i q → o ≡ pointer_question x q
    → ((b ≡ true) ↔ MayAnswer x P e p o) → b ≡ false → MissesGo x P e p pointers i → MissesGo x P e p pointers (i + 1)
misses_more x P e p pointers i q o b lt at is said none g = record {
  left = λ r c m.
      ⊎_elim
      (λ same. absurd (let clash : false ≡ true = sym none
      ∙ said.1 (subst (MayAnswer x P e p) (sym is)
      (subst (λ (s : Pointer). MayAnswer x P e p (pointer_question x s)) (sym same) m)) in cc))
      (λ later. later)
      (first_or_later q r (drop (i + 1) pointers) (subst (λ l. Contains l r) (opens pointers i q lt at) (g.left r c m)));
}

pub misses_found : (x : Exchange) (P : Facts) (e p : ℕ) (pointers : List Pointer) (q : Pointer) (o : Option Question)
    (b : Bool) (i : ℕ) → i < length pointers → q ≡ get_or pointers i q → o ≡ pointer_question x q
    → ((b ≡ true) ↔ MayAnswer x P e p o) → b ≡ true → (true ≡ true) ↔ AnyMisses x P e p pointers
misses_found x P e p pointers q o b i lt at is said
    so = (
      λ _. record { pointer = q; one = (i, lt, sym at); misses = subst (MayAnswer x P e p) is (said.0 so) },
      λ _.
          refl,
    )

pub misses_end : (x : Exchange) (P : Facts) (e p : ℕ) (pointers : List Pointer) (i : ℕ) → length pointers ≤ i
    → MissesGo x P e p pointers i → (false ≡ true) ↔ AnyMisses x P e p pointers
misses_end x P e p pointers i past g = (
  λ clash. absurd (let k : false ≡ true = clash in cc),
  λ m. absurd (none_in m.pointer (subst (λ l. Contains l m.pointer) (drop_of_length-le pointers past) (g.left m.pointer m.one m.misses))),
)

-- pointers, each once

abbrev pub alike : Pointer → Pointer → Bool
alike = equal.ghosts.eq

same_pointer : (q r : Pointer) → alike q r ≡ true → q ≡ r
same_pointer q r is = search (rules, is)

pub same_pointers : (found items sorted new result : List Pointer) → items ≡ found → IsPermutation items sorted
    → new ≡ dedup alike sorted → result ≡ new → (q : Pointer) → Contains result q ↔ Contains found q
same_pointers = same_items alike equal_laws.laws-law same_pointer

misses_there : (x : Exchange) (P : Facts) (e p : ℕ) (pointers others : List Pointer)
    → ((q : Pointer) → Contains pointers q → Contains others q) → AnyMisses x P e p pointers → AnyMisses x P e p others
misses_there x P e p pointers others there m = record { pointer = m.pointer; one = there m.pointer m.one; misses = m.misses }

pub misses_alike : (x : Exchange) (P : Facts) (e p : ℕ) (pointers each given : List Pointer) (b : Bool)
    → ((q : Pointer) → Contains each q ↔ Contains pointers q) → given ≡ each → ((b ≡ true) ↔ AnyMisses x P e p given)
    → (b ≡ true) ↔ AnyMisses x P e p pointers
misses_alike x P e p pointers each given b same is said =
    let h = subst (λ l. (b ≡ true) ↔ AnyMisses x P e p l) is said in
    (λ so. misses_there x P e p each pointers (λ q. (same q).0) (h.0 so), λ m. h.1 (misses_there x P e p pointers each (λ q. (same q).1) m))

-- statements, one after the other

pub reached_faults : (x : Exchange) (P : Facts) (e : ℕ) (at : PlaceAt) (b r : Bool)
    → ((r ≡ true) ↔ Reached P e at.point) → r ≡ true
    → ((b ≡ true) ↔ FaultsAt x P e at.block at.point (out-StmtKind at.kind.now)) → (b ≡ true) ↔ FaultsHere x P e at
reached_faults x P e at b r reach is said = (λ so. record { reached = reach.0 is; faults = said.0 so }, λ h. said.1 h.faults)

pub not_reached : (x : Exchange) (P : Facts) (e : ℕ) (at : PlaceAt) (r : Bool) → ((r ≡ true) ↔ Reached P e at.point)
    → r ≡ false → (false ≡ true) ↔ FaultsHere x P e at
not_reached x P e at r reach not_so = (
  λ clash. absurd (let k : false ≡ true = clash in cc),
  λ h. absurd
      (let k : false ≡ true = sym not_so ∙ reach.1 h.reached in cc),
)

-- a statement that faults is none of the first so many of these
pub record FaultsGo (x : Exchange) (P : Facts) (e : ℕ) (places : List PlaceAt) (i : ℕ) : Type 0 where
  pub later : (at : PlaceAt) → Contains places at → FaultsHere x P e at → Contains (drop i places) at

pub faults_begin : (x : Exchange) (P : Facts) (e : ℕ) (places : List PlaceAt) → FaultsGo x P e places 0
faults_begin x P e places = record { later = λ at c h. c }

pub faults_more : (x : Exchange) (P : Facts) (e : ℕ) (places : List PlaceAt) (i : ℕ) (at : PlaceAt) (b : Bool)
    → i < length places → at ≡ get_or places i at → ((b ≡ true) ↔ FaultsHere x P e at) → b ≡ false
    → FaultsGo x P e places i → FaultsGo x P e places (i + 1)
faults_more x P e places i at b lt is said none g = record {
  later = λ q c h.
      ⊎_elim
      (λ (same : at ≡ q). absurd (let k : false ≡ true = sym none ∙ said.1 (subst (FaultsHere x P e) (sym same) h) in cc))
      (λ rest. rest)
      (first_or_later at q (drop (i + 1) places) (subst (λ l. Contains l q) (opens places i at lt is) (g.later q c h)));
}

pub faults_found : (x : Exchange) (P : Facts) (e : ℕ) (places : List PlaceAt) (i : ℕ) (at : PlaceAt) (b : Bool)
    → AreReachedAmong x P e (map seen places) → i < length places → at ≡ get_or places i at
    → ((b ≡ true) ↔ FaultsHere x P e at) → b ≡ true → (true ≡ true) ↔ SomeFaults x P e
faults_found x P e places i at b are lt is said so =
    let h = said.0 so in
    let place = are.each i (seen at) (seen_at places i at lt is) in
    (λ _. record { at = seen at; point = at.point; stands = record { place = place; here = refl }; reached = h.reached; faults = h.faults }, λ _. refl)

pub faults_end : (x : Exchange) (P : Facts) (e : ℕ) (places : List PlaceAt) (i : ℕ)
    → AreReachedAmong x P e (map seen places) → length places ≤ i → FaultsGo x P e places i
    → (false ≡ true) ↔ SomeFaults x P e
faults_end x P e places i are past g = (
  λ clash. absurd (let k : false ≡ true = clash in cc),
  λ h.
      let r = of_map seen places h.at (are.all h.point h.at h.stands h.reached) in
      let point : h.point ≡ r.0.point = sym h.stands.here ∙ ap (λ (q : Place). q.point) (sym r.2) in
      let here : FaultsHere x P e r.0 = record {
        reached = subst (Reached P e) point h.reached;
        faults = subst (λ n. FaultsAt x P e r.0.block n (out-StmtKind r.0.kind.now)) point
            (subst (λ (q : Place). FaultsAt x P e q.block h.point q.layer) (sym r.2) h.faults);
      } in
      absurd (none_in r.0 (subst (λ l. Contains l r.0) (drop_of_length-le places past) (g.later r.0 r.1 here))),
)

-- all together

pub sends_fault : (x : Exchange) (P : Facts) (e : ℕ) (b : Bool) → ((b ≡ true) ↔ TooManySends x P e) → b ≡ true → (true ≡ true) ↔ MayFault x P e
sends_fault x P e b said so = (λ _. inr (inl (said.0 so)), λ _. refl)

pub one_faults : (x : Exchange) (P : Facts) (e : ℕ) (b : Bool) → ((b ≡ true) ↔ SomeFaults x P e) → b ≡ true → (true ≡ true) ↔ MayFault x P e
one_faults x P e b said so = (λ _. inl (said.0 so), λ _. refl)

pub last_faults : (x : Exchange) (P : Facts) (e : ℕ) (a b c : Bool) → ((a ≡ true) ↔ TooManySends x P e) → a ≡ false
    → ((b ≡ true) ↔ SomeFaults x P e) → b ≡ false → ((c ≡ true) ↔ GoesRound x P e) → (c ≡ true) ↔ MayFault x P e
last_faults x P e a b c sends few one none round = (λ so. inr (inr (round.0 so)), back)
  where
    back : MayFault x P e → c ≡ true
    back (inl h) = absurd (let k : false ≡ true = sym none ∙ one.1 h in cc)
    back (inr (inl h)) = absurd (let k : false ≡ true = sym few ∙ sends.1 h in cc)
    back (inr (inr h)) = round.1 h
