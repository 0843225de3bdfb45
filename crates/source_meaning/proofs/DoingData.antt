-- What statements over stored data do is a list of effects.
use Rattle.std.proofs.Common.{◌≡◌, ℕ, ◌+◌, ◌<◌, false, List, [], length, Option, Some, None, refl}
use Rattle.std.proofs.Common.{slice_get}
use Rattle.std.proofs.lemmas.Bool.{ltb-true, eqb-true}
use Rattle.std.specs.Prelude.{nat_lt, nat_eq, slice_index, slice_set}
use Rattle.plex_limits.specs.declared.limits.TheConstants.{MOST_HELD}
use Rattle.job_types.specs.declared.fault.Fault.TheVariants as fault
use Rattle.job_types.specs.Own.{seen}
use Rattle.exchange_model.specs.declared.exchange.Exchange.{Exchange}
use Rattle.exchange_model.specs.declared.expr.Expr.{Expr}
use Rattle.exchange_model.specs.declared.expr.Rel.{Rel}
use Rattle.exchange_model.specs.declared.stmt.StmtKind.TheOpen as stmt
use Rattle.exchange_model.specs.Cells.{Placed, field_cell, mark_cell}
use Rattle.source_meaning.specs.Named.{Layer}
use Rattle.source_meaning.specs.Value.{expr_value, stands}
use Rattle.source_meaning.specs.Config.{Item, Config, base_of, files_of, sight}
use Rattle.source_meaning.specs.Changes.{fails, where_fits, goes, to_label, sets_temp, sets_cell}
use Rattle.source_meaning.specs.Changes.{variable_width, field_width, at_record, sets_field}
use Rattle.source_meaning.specs.Changes.{least_record, looked_at, record_loads, at_found, for_first}
use Rattle.source_meaning.specs.Changes.{joins_chain, at_free, seizes, frees}
use Rattle.source_meaning.specs.Step.{does}
use Rattle.source_meaning.specs.Effects
use Rattle.source_meaning.specs.Deeds.{Doing, IsValueOf, IsFileAt, IsRecordOf, at_searched, at_mark}
use Rattle.source_meaning.specs.Deeds.{IsLook, to_label as at_label, to_next, with_value}
use Rattle.source_meaning.specs.Deeds.{with_found, with_seized, wide_value, wide_field, bad_field}
use Rattle.source_meaning.specs.Deeds.{bad_free, no_forlopp, full_chain}
use Rattle.source_meaning.specs.Effects.{Effect, Leave, Looks, PutsVariable, PutsField, Seizes}
use Rattle.source_meaning.specs.Effects.{Frees, Goes, Posts, Begins, Asks, Returns, Ends, Faults}
use Rattle.source_meaning.specs.Effects.{Done, Then}
use Rattle.source_meaning.proofs.Doing.{traced, Makes, one, last, value_effects, expr_reads, branch}
use Rattle.source_meaning.proofs.Doing.{fits_effects, record_effects, next, jump}
use Rattle.source_meaning.proofs.Searched.{found_within, search_loads}
use Rattle.plex_num.proofs.Members.{first_is}

module _ (x : Exchange) (rest : List Item) (p : ℕ) where
  pub set_temp : (temp : ℕ) (e : Expr) (c : Config) → Makes x (Doing p (stmt.SetTemp temp e)) rest c (does x p (stmt.SetTemp temp e) rest c)
  set_temp temp e c =
      let l : Layer = stmt.SetTemp temp e in
      value_effects x (Doing p l) rest (expr_value e (sight x c)) c (λ v d. goes rest (sets_temp temp v d)) (expr_reads x (Doing p l) rest c e (first_is e []))
      (λ t loads v is. one x (Doing p l) rest (traced t c) (goes rest (sets_temp temp v (traced t c)))
      (Goes (traced t c) rest (slice_set c.temps temp v) (with_value p temp e v (record { loads = loads; is = is }))))

  pub set_variable : (variable : ℕ) (e : Expr) (c : Config)
      → Makes x (Doing p (stmt.SetVariable variable e)) rest c (does x p (stmt.SetVariable variable e) rest c)
  set_variable variable e c =
      let l : Layer = stmt.SetVariable variable e in
      let width = variable_width x c.block variable in
      let cell = base_of x c.block + variable in
      value_effects x (Doing p l) rest (expr_value e (sight x c)) c
      (λ v d. where_fits v width d (λ d. goes rest (sets_cell cell v d)))
      (expr_reads x (Doing p l) rest c e (first_is e []))
      (λ t loads v is.
      let d = traced t c in
      let at : IsValueOf x d e v = record { loads = loads; is = is } in
      fits_effects x (Doing p l) rest v width d (λ d. goes rest (sets_cell cell v d))
      (λ fits. Then d (sets_cell cell v d) (goes rest (sets_cell cell v d)) refl
      (PutsVariable d p variable e v refl at fits) (next x p l rest (sets_cell cell v d) (to_next p tt)))
      (λ wide. wide_value p variable e v at wide))

  pub set_field : (file field pointer : ℕ) (e : Expr) (c : Config)
      → Makes x (Doing p (stmt.SetField file field pointer e)) rest c
      (does x p (stmt.SetField file field pointer e) rest c)
  set_field file field pointer e c =
      let l : Layer = stmt.SetField file field pointer e in
      let number = slice_index c.temps pointer in
      value_effects x (Doing p l) rest (expr_value e (sight x c)) c
      (λ v d. at_record (slice_get (files_of x) file) file (slice_index d.temps pointer) (goes rest d)
      (sets_field (slice_index d.temps pointer) field v))
      (expr_reads x (Doing p l) rest c e (first_is e []))
      (λ t loads v is.
      let d = goes rest (traced t c) in
      let at : IsValueOf x d e v = record { loads = loads; is = is } in
      Then (traced t c) d (at_record (slice_get (files_of x) file) file number d (sets_field number field v)) refl
      (Goes (traced t c) rest c.temps (to_next p tt))
      (record_effects x (Doing p l) rest (slice_get (files_of x) file) file number d (sets_field number field v) refl (Done d)
      (λ placed may. fits_effects x (Doing p l) rest v (field_width placed field) d (sets_cell (field_cell placed number field) v)
      (λ fits. one x (Doing p l) rest d (sets_cell (field_cell placed number field) v d) (PutsField d p file field pointer e v placed refl may at fits))
      (λ wide. wide_field p file field pointer e v placed may.there at wide))
      (λ placed f there bad. bad_field p file field pointer e placed f there bad)))

  pub free : (temp file : ℕ) (c : Config) → Makes x (Doing p (stmt.Free temp file)) rest c (does x p (stmt.Free temp file) rest c)
  free temp file c =
      let l : Layer = stmt.Free temp file in
      let number = slice_index c.temps temp in
      let d = goes rest c in
      Then c d (does x p l rest c) refl (Goes c rest c.temps (to_next p tt))
      (record_effects x (Doing p l) rest (slice_get (files_of x) file) file number d (frees file number) refl (Done d)
      (λ placed may. one x (Doing p l) rest d (frees file number placed d) (Frees d p temp file placed refl may))
      (λ placed f there bad. bad_free p temp file placed f there bad))

  -- searches

  found : (temp file field : ℕ) (rel : Rel) (e : Expr) (label : ℕ) (placed : Placed) (number : Option ℕ) (c : Config)
      → IsFileAt x file placed → ((n : ℕ) → number ≡ Some n → n < placed.file.size)
      → Makes x (Doing p (stmt.ForFirst temp file field rel e label)) rest c (at_found x temp label rest number c)
  found temp file field rel e label placed None c there within = next x p (stmt.ForFirst temp file field rel e label) rest c (to_next p tt)
  found temp file field rel e label placed (Some n) c there within =
      let d = to_label x label (sets_temp temp n c) in
      one x (Doing p (stmt.ForFirst temp file field rel e label)) rest c d
      (Goes c d.todo d.temps (with_found p temp file field rel e label n placed
      (record { there = there; within = within n refl })))

  for_first_found : (temp file field : ℕ) (rel : Rel) (e : Expr) (label v : ℕ) (found_file : Option Placed) (c : Config)
      → slice_get (files_of x) file ≡ found_file
      → Makes x (Doing p (stmt.ForFirst temp file field rel e label)) rest c (for_first x found_file temp field rel v label rest c)
  for_first_found temp file field rel e label v None c there = next x p (stmt.ForFirst temp file field rel e label) rest c (to_next p tt)
  for_first_found temp file field rel e label v (Some placed) c there =
      let l : Layer = stmt.ForFirst temp file field rel e label in
      let size = placed.file.size in
      let test = λ (n : ℕ). stands rel (slice_index c.world.store (field_cell placed n field)) v in
      let number = least_record test size in
      let loads = record_loads (λ n. field_cell placed n field) (looked_at number size) c.world.store in
      let d : Config = record c { world = seen loads c.world } in
      Then c d (at_found x temp label rest number d) refl
      (Looks c loads (search_loads (IsLook x c (Doing p l)) (λ n. field_cell placed n field) test c.world.store size
      (λ k lt. record {
        cell = field_cell placed k field;
        at = at_searched p temp file field rel e label k placed (record { there = there; within = lt });
        is = refl;
      })))
      (found temp file field rel e label placed number d there (λ n is. (found_within test size n is).within))

  pub for_first_effects : (temp file field : ℕ) (rel : Rel) (e : Expr) (label : ℕ) (c : Config)
      → Makes x (Doing p (stmt.ForFirst temp file field rel e label)) rest c
      (does x p (stmt.ForFirst temp file field rel e label) rest c)
  for_first_effects temp file field rel e label c =
      let l : Layer = stmt.ForFirst temp file field rel e label in
      value_effects x (Doing p l) rest (expr_value e (sight x c)) c
      (λ v d. for_first x (slice_get (files_of x) file) temp field rel v label rest d)
      (expr_reads x (Doing p l) rest c e (first_is e []))
      (λ t loads v is. for_first_found temp file field rel e label v (slice_get (files_of x) file) (traced t c) refl)

  joined : (temp file label : ℕ) (placed : Placed) (n : ℕ) (c : Config) → IsFileAt x file placed → n < placed.file.size
      → slice_index c.world.store (mark_cell placed n) ≡ 0 → nat_eq c.own.forlopp 0 ≡ false
      → Makes x (Doing p (stmt.Seize temp file label)) rest c (joins_chain placed file temp n rest c)
  joined temp file label placed n c there within free some =
      let l : Layer = stmt.Seize temp file label in
      let d = Effects.seized placed file n c in
      let at : IsRecordOf x file n placed = record { there = there; within = within } in
      branch x (Doing p l) rest (nat_lt (length c.own.chain) MOST_HELD)
      (λ room. Then c d (goes rest (sets_temp temp n d)) refl
      (Seizes c p temp file label n placed refl at some (ltb-true (length c.own.chain) MOST_HELD room) free)
      (one x (Doing p l) rest d (goes rest (sets_temp temp n d)) (Goes d rest (slice_set c.temps temp n) (with_seized p temp file label n placed at))))
      (λ full. last x (Doing p l) rest c (fails fault.Chain c) (Faults c fault.Chain (full_chain p temp file label full)))

  free_found : (temp file label : ℕ) (placed : Placed) (number : Option ℕ) (c : Config) → IsFileAt x file placed
      → ((n : ℕ) → number ≡ Some n → (n < placed.file.size) × (slice_index c.world.store (mark_cell placed n) ≡ 0))
      → nat_eq c.own.forlopp 0 ≡ false → Makes x (Doing p (stmt.Seize temp file label)) rest c (at_free x placed file temp label rest number c)
  free_found temp file label placed None c there within some = jump x p (stmt.Seize temp file label) rest c label (at_label p label refl)
  free_found temp file label placed (Some n) c there within some = joined temp file label placed n c there (within n refl).0 (within n refl).1 some

  pub seize_found : (temp file label : ℕ) (found_file : Option Placed) (c : Config) → slice_get (files_of x) file ≡ found_file
      → Makes x (Doing p (stmt.Seize temp file label)) rest c (seizes x found_file file temp label rest c)
  seize_found temp file label None c there = next x p (stmt.Seize temp file label) rest c (to_next p tt)
  seize_found temp file label (Some placed) c there =
      let l : Layer = stmt.Seize temp file label in
      let size = placed.file.size in
      let test = λ (n : ℕ). nat_eq (slice_index c.world.store (mark_cell placed n)) 0 in
      let number = least_record test size in
      let loads = record_loads (mark_cell placed) (looked_at number size) c.world.store in
      let d : Config = record c { world = seen loads c.world } in
      branch x (Doing p l) rest (nat_eq c.own.forlopp 0)
      (λ none. last x (Doing p l) rest c (fails fault.NoForlopp c) (Faults c fault.NoForlopp (no_forlopp p temp file label none)))
      (λ some. Then c d (at_free x placed file temp label rest number d) refl
      (Looks c loads (search_loads (IsLook x c (Doing p l)) (mark_cell placed) test c.world.store size
      (λ k lt. record { cell = mark_cell placed k; at = at_mark p temp file label k placed (record { there = there; within = lt }); is = refl })))
      (free_found temp file label placed number d there
      (λ n is. let f = found_within test size n is in (f.within, eqb-true (slice_index c.world.store (mark_cell placed n)) 0 f.passes)) some))
