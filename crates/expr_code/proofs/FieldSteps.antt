-- The code of a field is appended.
use Rattle.std.proofs.Common.{◌≡◌, ℕ, ◌+◌, ◌<◌, ◌≤◌, Bool, true, false, List, [], ◌∷◌, ◌++◌, length}
use Rattle.std.proofs.Common.{Some, None, slice_get, refl, sym, ap, ◌∙◌, subst, arith, append_assoc}
use Rattle.machine_code.specs.declared.op.Op.{Op}
use Rattle.machine_code.specs.declared.op.Op.TheVariants.{Ldi, Ldt, Ldw, Ldx, Ckp, Own}
use Rattle.exchange_model.specs.declared.block.Block.{Block}
use Rattle.exchange_model.specs.declared.entry.Cell.TheVariants as cell
use Rattle.exchange_model.specs.declared.expr.Factor.{Factor}
use Rattle.exchange_model.specs.declared.expr.Factor.TheVariants.{Variable}
use Rattle.exchange_model.specs.Cells.{Placed, marks, record_cells, IsCell, cell_number}
use Rattle.store_layout.specs.declared.row.FileRow.{FileRow}
use Rattle.store_layout.specs.Laid.{IsLayout}
use Rattle.store_layout.specs.Rows.{Rows}
use Rattle.expr_code.specs.Code.{factor_code, own_code, pointer_code, field_code}
use Rattle.expr_code.specs.Sites.{Begins, IsFactorOf, GrowsByCode, GrowsByRow}
use Rattle.expr_code.proofs.At.{variable_word}
use Rattle.expr_code.proofs.Emits.{begins_is, begins_on}
use Rattle.expr_code.proofs.Opened.{factor_code-Variable}
use Rattle.expr_code.proofs.Rows.{site_file, site_no_file}

pub row_begins : (row : FileRow) (old new : List Op) (code : Placed → List Op) → GrowsByRow row old new code → Begins old new
row_begins row old new code h = h.begins

-- a pointer: the file's row tells whether it is a forlopp file

owned : (forlopp : Bool) (n file r : ℕ) → n < n + marks forlopp → own_code forlopp file r ≡ Own r file ∷ []
owned true n file r lt = refl
owned false n file r lt = absurd (omega (arith, lt))

plain : (forlopp : Bool) (n file r : ℕ) → n + marks forlopp ≤ n → own_code forlopp file r ≡ []
plain false n file r le = refl
plain true n file r le = absurd (omega (arith, le))

pub pointer_own : (row : FileRow) (file r : ℕ) (old new : List Op) → row.fields < row.stride
    → new ≡ old ++ (Ckp r row.size ∷ Own r file ∷ []) → GrowsByRow row old new (λ p. pointer_code p file r)
pointer_own row file r old new lt e = record {
  begins = begins_is old new (Ckp r row.size ∷ Own r file ∷ []) e;
  is = λ p is.
      let inside : length p.file.fields < record_cells p.file = subst (λ (w : FileRow). w.fields < w.stride) (sym is) lt in
      let size : row.size ≡ p.file.size = ap (λ (w : FileRow). w.size) (sym is) in
      e ∙ ap (λ n. old ++ (Ckp r n ∷ Own r file ∷ [])) size
      ∙ ap (λ l. old ++ Ckp r p.file.size ∷ l) (sym (owned p.file.forlopp (length p.file.fields) file r inside));
}

pub pointer_plain : (row : FileRow) (file r : ℕ) (old new : List Op) → row.stride ≤ row.fields
    → new ≡ old ++ Ckp r row.size ∷ [] → GrowsByRow row old new (λ p. pointer_code p file r)
pointer_plain row file r old new le e = record {
  begins = begins_is old new (Ckp r row.size ∷ []) e;
  is = λ p is.
      let outside : record_cells p.file ≤ length p.file.fields = subst (λ (w : FileRow). w.stride ≤ w.fields) (sym is) le in
      let size : row.size ≡ p.file.size = ap (λ (w : FileRow). w.size) (sym is) in
      e ∙ ap (λ n. old ++ Ckp r n ∷ []) size ∙ ap (λ l. old ++ Ckp r p.file.size ∷ l) (sym (plain p.file.forlopp (length p.file.fields) file r outside));
}

-- a field

pub field_grows : (l : Rows) (b file field pointer r : ℕ) (row : FileRow) (old n1 n2 new : List Op)
    → slice_get l.files file ≡ Some row → n1 ≡ old ++ Ldt r pointer ∷ []
    → GrowsByRow row n1 n2 (λ p. pointer_code p file r) → new ≡ n2 ++ Ldx r (row.first + field) row.stride r ∷ []
    → GrowsByCode l b old new (λ site. field_code (slice_get site.files file) file field pointer r)
field_grows l b file field pointer r row old n1 n2 new there e1 g e3 =
    let load : List Op = Ldx r (row.first + field) row.stride r ∷ [] in
    record {
      begins = begins_on old n2 new (begins_on old n1 n2 (begins_is old n1 (Ldt r pointer ∷ []) e1) g.begins) (begins_is n2 new load e3);
      is = λ site is_site.
          let f = site_file l b site file row is_site there in
          let p = f.placed in
          let loads : load ≡ Ldx r (p.first + field) (record_cells p.file) r ∷ [] = ap (λ (w : FileRow). Ldx r (w.first + field) w.stride r ∷ []) (sym f.is) in
          e3 ∙ ap (λ l. l ++ load) (g.is p f.is ∙ ap (λ l. l ++ pointer_code p file r) e1)
          ∙ append_assoc (old ++ Ldt r pointer ∷ []) (pointer_code p file r) load
          ∙ append_assoc old (Ldt r pointer ∷ []) (pointer_code p file r ++ load)
          ∙ ap (λ l. old ++ Ldt r pointer ∷ (pointer_code p file r ++ l)) loads
          ∙ ap (λ o. old ++ field_code o file field pointer r) (sym f.there);
    }

pub no_field_grows : (l : Rows) (b file field pointer r : ℕ) (old new : List Op) → slice_get l.files file ≡ None
    → new ≡ old ++ Ldi r 0 ∷ [] → GrowsByCode l b old new
    (λ site. field_code (slice_get site.files file) file field pointer r)
no_field_grows l b file field pointer r old new there e = record {
  begins = begins_is old new (Ldi r 0 ∷ []) e;
  is = λ site is_site. e ∙ ap (λ o. old ++ field_code o file field pointer r) (sym (site_no_file l b site file is_site there));
}

-- a variable

pub variable_grows : (f : Factor) (v r : ℕ) (l : Rows) (b word : ℕ) (old new : List Op) → IsFactorOf l b f
    → f ≡ Variable v → ((bs : List Block) → IsLayout bs l → IsCell bs (cell.Variable b v)
    → word ≡ cell_number bs (cell.Variable b v)) → new ≡ old ++ Ldw r word ∷ []
    → GrowsByCode l b old new (λ site. factor_code f site r)
variable_grows f v r l b word old new h is tells e = record {
  begins = begins_is old new (Ldw r word ∷ []) e;
  is = λ site is_site. e ∙ ap (λ n. old ++ Ldw r n ∷ []) (variable_word f v l b word h is tells site is_site)
      ∙ ap (λ c. old ++ c site r) (sym (ap factor_code is ∙ factor_code-Variable v));
}

-- a field is appended
pub ruleset fields = (field_grows, no_field_grows, row_begins)
