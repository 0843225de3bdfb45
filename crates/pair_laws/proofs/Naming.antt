-- The accesses of a summary are of the exchange: a field that is selected is of a plain file, and
-- one of a record that is held is of a forlopp file, as is a record that is seized or freed.
use Rattle.std.proofs.Common.{◌≡◌, inl, inr, ℕ, ◌+◌, ◌<◌, Bool, true, false, List, ◌∷◌, take}
use Rattle.std.proofs.Common.{length, sum_by, Some, slice_get, refl, sym, ap, ◌∙◌, subst, arith}
use Rattle.std.proofs.lemmas.Bool.{cases_order, both_ways}
use Rattle.std.proofs.lemmas.Option.{same_Some}
use Rattle.exchange_model.specs.declared.exchange.Exchange.{Exchange}
use Rattle.exchange_model.specs.declared.block.Block.{Block}
use Rattle.exchange_model.specs.Cells.{Placed}
use Rattle.exchange_model.specs.Fits.{ExprFits, IsField as FieldFits, IsFile as FileIs}
use Rattle.exchange_model.specs.Inside.{own_exprs}
use Rattle.exchange_model.specs.Kept.{IsExchange, scope_of}
use Rattle.exchange_model.proofs.Layers.{stmt_fits-out}
use Rattle.exchange_model.proofs.Places.{sum_by_rises}
use Rattle.source_meaning.specs.Config.{files_of}
use Rattle.source_meaning.specs.Deeds.{IsFileAt}
use Rattle.source_meaning.specs.Named.{Layer, NamedField, named_in}
use Rattle.source_meaning.specs.Rests.{IsOfBlock}
use Rattle.source_meaning.proofs.Fitting.{NamedFits, names_fit, row_fits}
use Rattle.source_meaning.proofs.Lists.{all_contained}
use Rattle.source_meaning.proofs.Touching.{field_of}
use Rattle.flow_points.specs.Facts.{Facts}
use Rattle.flow_points.specs.Places.{Place, IsPlace}
use Rattle.entry_summary.specs.declared.summary.Access.{Access}
use Rattle.entry_summary.specs.declared.summary.Access.TheVariants.{Variable, Field, Own, Seizes}
use Rattle.entry_summary.specs.declared.summary.Access.TheVariants.{Frees}
use Rattle.entry_summary.specs.Accesses.{Accesses, IsAccess, IsForlopp, IsPlain, NamesField, reads}
use Rattle.entry_summary.specs.Accesses.{reads_holder, writes, reads_field, writes_field, searches}
use Rattle.entry_summary.specs.Accesses.{reads_own, writes_own, opens_own, seizes, frees}
use Rattle.entry_summary.specs.Numbers.{field_number}
use Rattle.start_permit.specs.Granted.{IsFieldNumber}

-- the number is that of a field of a forlopp file, or of a plain one
pub record IsFieldOf (x : Exchange) (number : ℕ) (forlopp : Bool) : Type 0 where
  pub file : ℕ
  pub field : ℕ
  pub at : IsFieldNumber x number file field
  pub is : at.placed.file.forlopp ≡ forlopp

-- an access is of fields and files of its kind
abbrev pub AccessFits : Exchange → Access → Type 0
AccessFits x (Variable write number) = Unit {0}
AccessFits x (Field write number selector) = IsFieldOf x number false
AccessFits x (Own write number) = IsFieldOf x number true
AccessFits x (Seizes file) = IsForlopp x file
AccessFits x (Frees file) = IsForlopp x file

module _ (x : Exchange) (kept : IsExchange x) where
  place_fits : (p : Place) → IsPlace x p → IsOfBlock x p.block p.layer
  place_fits p h =
      let r = row_fits x kept p.block (h.stmt ∷ h.list) h.end h.row in
      subst (IsOfBlock x p.block) (sym (ap (λ (q : Place). q.layer) h.is))
      (record {
        block = r.block;
        there = r.there;
        fits = stmt_fits-out (scope_of x p.block r.block) h.stmt.kind r.fits.0;
      })

  -- a field that an expression names is of the block
  field_named : (b : ℕ) (l : Layer) (file field pointer : ℕ) (h : IsOfBlock x b l) → NamesField l file field pointer
      → FieldFits (scope_of x b h.block) file field
  field_named b l file field pointer h n =
      let scope = scope_of x b h.block in
      let fits = all_contained (ExprFits scope) (own_exprs l) n.expr h.fits.exprs.each n.own in
      (all_contained (NamedFits scope) (named_in n.expr) (NamedField file field pointer) (names_fit scope n.expr fits) n.named).0

  numbered : (b : ℕ) (k : Block) (file field : ℕ) (forlopp : Bool) (p : Placed) → FieldFits (scope_of x b k) file field
      → IsFileAt x file p → p.file.forlopp ≡ forlopp → IsFieldOf x (field_number x file field) forlopp
  numbered b k file field forlopp p f there kind = record {
    file = file;
    field = field;
    at = record
        { placed = p; there = there; within = field_of x kept b k file field p f there; numbered = refl };
    is = kind;
  }

  plain_field : (b : ℕ) (k : Block) (file field : ℕ) → FieldFits (scope_of x b k) file field → IsPlain x file → IsFieldOf x (field_number x file field) false
  plain_field b k file field f plain = numbered b k file field false plain.placed f plain.there plain.plain

  own_field : (b : ℕ) (k : Block) (file field : ℕ) → FieldFits (scope_of x b k) file field → IsForlopp x file → IsFieldOf x (field_number x file field) true
  own_field b k file field f own = numbered b k file field true own.placed f own.there own.forlopp

  -- a file of the block is of its kind
  file_plain : (b : ℕ) (k : Block) (file : ℕ) → FileIs (scope_of x b k) file false → IsPlain x file
  unfolding files_of
  file_plain b k file f = record { placed = f.placed; there = f.there; plain = f.kind }

  file_forlopp : (b : ℕ) (k : Block) (file : ℕ) → FileIs (scope_of x b k) file true → IsForlopp x file
  unfolding files_of
  file_forlopp b k file f = record { placed = f.placed; there = f.there; forlopp = f.kind }

  opened_field : (file field : ℕ) (p : Placed) → IsFileAt x file p → field < length p.file.fields → IsForlopp x file
      → IsFieldOf x (field_number x file field) true
  unfolding files_of
  opened_field file field p there within f = record {
    file = file;
    field = field;
    at = record { placed = p; there = there; within = within; numbered = refl };
    is = subst (λ (q : Placed). q.file.forlopp ≡ true) (same_Some f.placed p (sym f.there ∙ there)) f.forlopp;
  }

  access_fits_in : (P : Facts) (e b p : ℕ) (l : Layer) (a : Access) → IsOfBlock x b l → Accesses x P e b p l a → AccessFits x a
  access_fits_in P e b p l a h (reads m variable n) = tt
  access_fits_in P e b p l a h (reads_holder m variable is) = tt
  access_fits_in P e b p l a h (writes variable value) = tt
  access_fits_in P e b p l a h (reads_field m file field pointer v n plain known) =
      plain_field b h.block file field (field_named b m file field pointer h n) plain
  access_fits_in P e b p l a h (writes_field file field pointer value v plain known) = plain_field b h.block file field h.fits.names.0 plain
  access_fits_in P e b p l a h (searches temp file field rel value label) =
      plain_field b h.block file field h.fits.names.2 (file_plain b h.block file h.fits.names.1)
  access_fits_in P e b p l a h (reads_own m file field pointer n own) = own_field b h.block file field (field_named b m file field pointer h n) own
  access_fits_in P e b p l a h (writes_own file field pointer value own) = own_field b h.block file field h.fits.names.0 own
  access_fits_in P e b p l a h (opens_own temp file field placed there within) =
      opened_field file field placed there within (file_forlopp b h.block file h.fits.names.1)
  access_fits_in P e b p l a h (seizes temp file label) = file_forlopp b h.block file h.fits.names.1
  access_fits_in P e b p l a h (frees temp file) = file_forlopp b h.block file h.fits.names.1

  pub access_fits : (P : Facts) (e : ℕ) (a : Access) → IsAccess x P e a → AccessFits x a
  access_fits P e a h = access_fits_in P e h.at.block h.point h.at.layer a (place_fits h.at h.stands.place) h.access

-- a number is that of one field

prefix_once : {X : Type 0} (f : X → ℕ) (xs : List X) (i j u v : ℕ) (p q : X) → slice_get xs i ≡ Some p
    → slice_get xs j ≡ Some q → u < f p → v < f q → sum_by f (take i xs) + u ≡ sum_by f (take j xs) + v → i ≡ j
prefix_once f xs i j u v p q at there lt gt e =
    elim (cases_order i j) [
      | inl same ↦ same
      | inr (inl before) ↦ absurd (omega (arith, sum_by_rises f xs i j p at before, lt, e))
      | inr (inr after) ↦ absurd (omega (arith, sum_by_rises f xs j i q there after, gt, e))
    ]

pub field_once : (x : Exchange) (number file field other place : ℕ) → IsFieldNumber x number file field → IsFieldNumber x number other place → file ≡ other
field_once x number file field other place f g =
    prefix_once (λ (p : Placed). length p.file.fields) (files_of x) file other field place f.placed g.placed f.there
    g.there f.within g.within (sym f.numbered ∙ g.numbered)

-- so it is of a file of one kind

pub plain_at : (x : Exchange) (number file field : ℕ) → IsFieldOf x number false → IsFieldNumber x number file field → IsPlain x file
plain_at x number file field f at =
    let same = field_once x number f.file f.field file field f.at at in
    record { placed = f.at.placed; there = subst (λ n. IsFileAt x n f.at.placed) same f.at.there; plain = f.is }

pub forlopp_at : (x : Exchange) (number file field : ℕ) → IsFieldOf x number true → IsFieldNumber x number file field → IsForlopp x file
forlopp_at x number file field f at =
    let same = field_once x number f.file f.field file field f.at at in
    record { placed = f.at.placed; there = subst (λ n. IsFileAt x n f.at.placed) same f.at.there; forlopp = f.is }

pub forlopp_placed : (x : Exchange) (file : ℕ) (p : Placed) → IsForlopp x file → IsFileAt x file p → p.file.forlopp ≡ true
forlopp_placed x file p f there = subst (λ (q : Placed). q.file.forlopp ≡ true) (same_Some f.placed p (sym f.there ∙ there)) f.forlopp

-- and of no other kind
pub kinds_apart : (x : Exchange) (file : ℕ) → IsPlain x file → IsForlopp x file → ⊥
kinds_apart x file p f = both_ways p.placed.file.forlopp p.plain (forlopp_placed x file p.placed f p.there)
