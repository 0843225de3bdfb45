-- Names and operands, and the instruction that is written with them.
use Rattle.std.proofs.Common.{◌≡◌, ◌≢◌, ℕ, ◌<◌, List, [], ◌∷◌, Option, Some, None, Result, Ok, Err}
use Rattle.std.proofs.Common.{Bool, true, false, codes, refl, sym, ◌∙◌, inl, inr}
use Rattle.std.proofs.lemmas.Bool.{true≢false}
use Rattle.name_tables.specs.Names.{operation_names}
use Rattle.name_tables.specs.Rows.{place_of}
use Rattle.machine_code.specs.declared.op.Op.{Op}
use Rattle.listing.specs.declared.fault.LineFault.{LineFault}
use Rattle.listing.specs.declared.fault.LineFault.TheVariants.{Form, Operand}
use Rattle.listing.specs.Instructions.{written}
use Rattle.listing.specs.Rows.{ReadsRow}
use Rattle.listing.specs.Statements.{AreStrange, ReadsAddress, ReadsNamed, ReadsParts}
use Rattle.listing.proofs.Table.{kinds_counted, kinds_fit, name_at_place, no_such_name}
use Rattle.listing.proofs.Table.{place_of_name, some_op}

pub named_none : (name : List ℕ) (os : List (Option ℕ)) → place_of operation_names name ≡ None → ReadsNamed name os (Err Form)
named_none name os none = λ op alike. no_such_name name op none alike.named

pub named_some : (name : List ℕ) (os : List (Option ℕ)) (place : ℕ) (r : Result Op LineFault)
    → place_of operation_names name ≡ Some place → place < 38 → ReadsRow place os r → ReadsNamed name os r
named_some name os place (Ok op) found within reads = record { named = name_at_place name place op found reads.0; operands = reads.1; fits = reads.2 }
named_some name os place (Err Form) found within reads = λ op alike.
    reads (alike.as_many ∙ sym (kinds_counted op place (place_of_name name place op found alike.named)))
named_some name os place (Err Operand) found within reads =
    let some = some_op place within in (
      (
        some.0,
        record {
          named = name_at_place name place some.0 found some.1;
          as_many = reads.0 ∙ kinds_counted some.0 place some.1;
        },
      ),
      (λ op named. reads.1 (kinds_fit op place os (place_of_name name place op found named.named) named.fits
          named.operands)),
    )

-- the name of an entry is that of no instruction
entry_is_no_op : (name : List ℕ) (op : Op) → name ≡ codes "ENTRY" → (written op).name ≡ name → ⊥
entry_is_no_op name op entry same = no_such_name (codes "ENTRY") op refl (same ∙ entry)

pub parts_closed : (i : ℕ) (at_entries : Bool) (name : List ℕ) (os : List (Option ℕ)) → at_entries ≡ false
    → name ≡ codes "ENTRY" → AreStrange i at_entries name os
parts_closed i at_entries name os closed entry = record {
  entry = λ address here named so. true≢false (sym here ∙ closed);
  op = λ op alike. entry_is_no_op name op entry alike.named;
}

pub entry_strange : (i : ℕ) (at_entries : Bool) (name : List ℕ) (os : List (Option ℕ)) (r : LineFault)
    → at_entries ≡ true → name ≡ codes "ENTRY" → ReadsAddress i os (Err r) → ReadsParts i at_entries name os (Err r)
entry_strange i at_entries name os Form here entry reads = record
    { entry = λ address there named so. reads address so; op = λ op alike. entry_is_no_op name op entry alike.named }
entry_strange i at_entries name os Operand here entry reads = record {
  form = inl (here, entry, reads);
  entry = λ address named so. (let no : Some i ∷ None ∷ [] ≡ Some i ∷ Some address ∷ [] = sym reads ∙ so in cc);
  op = λ op named. entry_is_no_op name op entry named.named;
}

pub op_strange : (i : ℕ) (at_entries : Bool) (name : List ℕ) (os : List (Option ℕ)) (r : LineFault)
    → name ≢ codes "ENTRY" → ReadsNamed name os (Err r) → ReadsParts i at_entries name os (Err r)
op_strange i at_entries name os Form other reads = record { entry = λ address there named so. other named; op = reads }
op_strange i at_entries name os Operand other reads = record { form = inr reads.0; entry = λ address named so. other named; op = reads.1 }
