-- What a statement names, as lists.
use Rattle.std.proofs.Common.{◌≡◌, ◌⊎◌, inl, inr, ℕ, true, false, Option, None, Some, Contains}
use Rattle.std.proofs.Common.{slice_get, refl, sym, ap, subst}
use Rattle.exchange_model.specs.declared.exchange.Exchange.{Exchange}
use Rattle.exchange_model.specs.declared.expr.Expr.{Expr}
use Rattle.exchange_model.specs.declared.stmt.Holder.{Holder}
use Rattle.exchange_model.specs.declared.stmt.Receiver.{Receiver}
use Rattle.exchange_model.specs.declared.stmt.Receiver.TheVariants as receiver
use Rattle.exchange_model.specs.declared.stmt.StmtKind.TheOpen as stmt
use Rattle.exchange_model.specs.Cells.{Placed}
use Rattle.exchange_model.specs.Inside.{own_exprs}
use Rattle.source_meaning.specs.Config.{files_of}
use Rattle.source_meaning.specs.Deeds.{IsFileAt, receiver_in}
use Rattle.source_meaning.specs.Named.{Layer, Named, NamedField, NamedVariable, named_in}
use Rattle.entry_summary.specs.Accesses.{IsForlopp, IsPlain, NamesField, NamesVariable}
use Rattle.entry_summary.specs.Faults.{PointsAt, frees, reads, writes}
use Rattle.finite_facts.proofs.Finite.{Decided, Listed, decided_as, falsehood, listed_as, listed_in}
use Rattle.finite_facts.proofs.Finite.{listed_none, listed_one, listed_or, listed_some, listed_then}
use Rattle.finite_facts.proofs.Finite.{some_case, truth}

-- what the expressions of a statement name

abbrev pub Names : Layer → Named → Type 0
Names l n = (e : Expr) × Contains (own_exprs l) e × Contains (named_in e) n

pub names : (l : Layer) → Listed (Names l)
names l = listed_then (λ e. Contains (own_exprs l) e) (λ e n. Contains (named_in e) n) (listed_in (own_exprs l)) (λ e own. listed_in (named_in e))

pub names_variable : (l : Layer) (v : ℕ) → Names l (NamedVariable v) → NamesVariable l v
names_variable l v h = record { expr = h.0; own = h.1; named = h.2 }

pub names_field : (l : Layer) (file field pointer : ℕ) → Names l (NamedField file field pointer) → NamesField l file field pointer
names_field l file field pointer h = record { expr = h.0; own = h.1; named = h.2 }

-- files

module _ (x : Exchange) where
  pub file_at : (file : ℕ) → Listed (λ (p : Placed). IsFileAt x file p)
  file_at file = listed_some (slice_get (files_of x) file)

  pub is_plain : (file : ℕ) → Decided (IsPlain x file)
  is_plain file =
      decided_as (λ h. record { placed = h.0; there = h.1; plain = h.2 }) (λ p. (p.placed, p.there, p.plain))
      (some_case (λ (p : Placed). IsFileAt x file p) (λ p. p.file.forlopp ≡ false) (file_at file) (λ p there. falsehood p.file.forlopp))

  pub is_forlopp : (file : ℕ) → Decided (IsForlopp x file)
  is_forlopp file =
      decided_as (λ h. record { placed = h.0; there = h.1; forlopp = h.2 }) (λ p. (p.placed, p.there, p.forlopp))
      (some_case (λ (p : Placed). IsFileAt x file p) (λ p. p.file.forlopp ≡ true) (file_at file) (λ p there. truth p.file.forlopp))

-- the holder of the receiver

held_is : (h k : Holder) → Some (receiver.Held h) ≡ Some (receiver.Held k) → k ≡ h
held_is h k e = cc

held_in : (o : Option Receiver) → Listed (λ (h : Holder). o ≡ Some (receiver.Held h))
held_in None = listed_none _ (λ h e. cc)
held_in (Some (receiver.Block b)) = listed_none _ (λ h e. cc)
held_in (Some (receiver.Held k)) = listed_as (λ h. h ≡ k) (λ h. Some (receiver.Held k) ≡ Some (receiver.Held h))
    (λ h e. ap (λ j. Some (receiver.Held j)) (sym e)) (λ h e. held_is k h e) (listed_one k)

pub holder_in : (l : Layer) → Listed (λ (h : Holder). receiver_in l ≡ Some (receiver.Held h))
holder_in l = held_in (receiver_in l)

-- pointers: the file and the temporary

abbrev pub Pointer : Type 0
Pointer = ℕ × ℕ

abbrev NamedPointer : Named → Pointer → Type 0
NamedPointer (NamedVariable v) q = ⊥
NamedPointer (NamedField file field pointer) q = q ≡ (file, pointer)

named_pointer : (n : Named) → Listed (NamedPointer n)
named_pointer (NamedVariable v) = listed_none (NamedPointer (NamedVariable v)) (λ q h. h)
named_pointer (NamedField file field pointer) = listed_one (file, pointer)

abbrev OwnPointer : Layer → Pointer → Type 0
OwnPointer (stmt.SetField file field pointer value) q = q ≡ (file, pointer)
OwnPointer (stmt.Free temp file) q = q ≡ (file, temp)
OwnPointer _ q = ⊥

own_pointer : (l : Layer) → Listed (OwnPointer l)
own_pointer (stmt.SetField file field pointer value) = listed_one (file, pointer)
own_pointer (stmt.Free temp file) = listed_one (file, temp)
own_pointer l = listed_none (OwnPointer l) (λ q h. h)

abbrev APointer : Layer → Pointer → Type 0
APointer l q = ((n : Named) × Names l n × NamedPointer n q) ⊎ OwnPointer l q

points_from : (l : Layer) (q : Pointer) → APointer l q → PointsAt l q.0 q.1
points_from l q (inl (NamedVariable v, h, is)) = absurd is
points_from l q (inl (NamedField file field pointer, h, is)) = subst (λ (r : Pointer). PointsAt l r.0 r.1) (sym is)
    (reads l file field pointer (names_field l file field pointer h))
points_from (stmt.SetField file field pointer value) q (inr is) = subst
    (λ (r : Pointer). PointsAt (stmt.SetField file field pointer value) r.0 r.1) (sym is)
    (writes file field pointer value)
points_from (stmt.Free temp file) q (inr is) = subst (λ (r : Pointer). PointsAt (stmt.Free temp file) r.0 r.1) (sym is) (frees temp file)
points_from _ q (inr is) = absurd is

points_to : (l : Layer) (file pointer : ℕ) → PointsAt l file pointer → APointer l (file, pointer)
points_to _ _ _ (reads l file field pointer named) = inl (NamedField file field pointer, (named.expr, named.own, named.named), refl)
points_to _ _ _ (writes file field pointer value) = inr refl
points_to _ _ _ (frees temp file) = inr refl

pub pointers : (l : Layer) → Listed (λ (q : Pointer). PointsAt l q.0 q.1)
pointers l =
    listed_as (APointer l) (λ q. PointsAt l q.0 q.1) (points_from l) (λ q h. points_to l q.0 q.1 h)
    (listed_or (λ q. (n : Named) × Names l n × NamedPointer n q) (OwnPointer l)
    (listed_then (Names l) NamedPointer (names l) (λ n h. named_pointer n)) (own_pointer l))
