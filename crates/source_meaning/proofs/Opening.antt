-- The opening is valid, where its lines fit.
use Rattle.std.proofs.Common.{◌≡◌, ℕ, ◌<◌, ◌^◌, Bool, true, false, List, [], refl, sym, ap, ◌∙◌}
use Rattle.std.proofs.Common.{subst, arith}
use Rattle.std.proofs.lemmas.Bool.{ltb-true, both_ways}
use Rattle.std.proofs.lemmas.Option.{get_or_from_slice_get}
use Rattle.std.specs.Prelude.{unwrap_or, nat_lt, ◌||◌, ◌&&◌}
use Rattle.std.specs.Ordering.{nat_cmp}
use Rattle.std.specs.FinMap as fin
use Rattle.std.specs.FinSet as set
use Rattle.job_types.specs.Forlopps.{chain_at, is_dead, none_dead}
use Rattle.exchange_model.specs.declared.exchange.Exchange.{Exchange}
use Rattle.exchange_model.specs.Cells.{field_cell, mark_cell, variable_cell}
use Rattle.exchange_model.specs.Kept.{IsExchange}
use Rattle.exchange_model.specs.Opening.{opening_store}
use Rattle.exchange_model.proofs.Facts.{variable_kept, field_kept}
use Rattle.exchange_model.proofs.Openings.{length-opening_store, opening_store-variable}
use Rattle.exchange_model.proofs.Openings.{opening_store-field, opening_store-mark}
use Rattle.source_meaning.specs.Config.{files_of}
use Rattle.source_meaning.specs.SingleRun.{opening}
use Rattle.source_meaning.specs.State.{Coming}
use Rattle.source_meaning.specs.Valid.{IsLive, StoreFits, LinesFit, IsValid}
use Rattle.source_meaning.proofs.Books.{Books}
use Rattle.source_meaning.proofs.States.{books_as, valid_of}

pub opening_fits : (x : Exchange) → IsExchange x → StoreFits x (opening_store x.blocks)
unfolding files_of
opening_fits x kept = record {
  whole = length-opening_store x.blocks ∙ sym kept.numbered.cells;
  variables = λ b v k e there own.
      subst (λ n. n < 2 ^ e.width) (sym (get_or_from_slice_get (opening_store x.blocks) (variable_cell x.blocks b v)
      e.init 0 (opening_store-variable x.blocks b v k e there own))) (variable_kept x kept b v k e there own).init;
  fields = λ file number field p e rec own.
      subst (λ n. n < 2 ^ e.width) (sym (get_or_from_slice_get (opening_store x.blocks) (field_cell p number field)
      e.init 0 (opening_store-field x.blocks file number field p e rec.there rec.within own)))
      (field_kept x kept file field p e rec.there own).init;
}

no_chain : (n : ℕ) → chain_at fin.empty n ≡ []
no_chain n = ap (λ m. unwrap_or m []) (fin.get-empty nat_cmp n)

none_is_dead : (n : ℕ) → is_dead none_dead n ≡ false
none_is_dead n = ap (λ b. (nat_lt 0 n && nat_lt n 1) || b) (set.contains-empty nat_cmp n) ∙ none_between n
  where
    none_between : (n : ℕ) → ((nat_lt 0 n && nat_lt n 1) || false) ≡ false
    none_between n = by (nat_lt 0 n) (nat_lt n 1) (ltb-true 0 n) (ltb-true n 1)
      where
        by : (a b : Bool) → (a ≡ true → 0 < n) → (b ≡ true → n < 1) → ((a && b) || false) ≡ false
        by false b above below = refl
        by true false above below = refl
        by true true above below = let a = above refl in let b = below refl in absurd (omega arith)

opening_books : (x : Exchange) (lines : List Coming) → Books x (IsLive (opening x lines)) (λ n. []) (opening_store x.blocks)
unfolding files_of
opening_books x lines = record {
  few = λ n. omega arith;
  records = λ n. tt;
  once = λ n. tt;
  apart = λ n m file number h k. cc;
  living = λ n some. absurd some;
  held = λ n file number p there h. cc;
  free = λ file number p rec kind none. get_or_from_slice_get (opening_store x.blocks) (mark_cell p number) 0 0
      (opening_store-mark x.blocks file number p rec.there rec.within kind);
}

pub opening_valid : (x : Exchange) → IsExchange x → (lines : List Coming) → LinesFit x [] lines → IsValid x (opening x lines)
opening_valid x kept lines fits = valid_of x (opening x lines) 0 (opening_fits x kept)
    (books_as {Still = IsLive (opening x lines)} no_chain (λ n h. h) (opening_books x lines)) (record {
      waiting = record { a = tt; b = tt; c = tt; d = tt };
      some = omega arith;
      dead = λ n dead. absurd (both_ways (is_dead none_dead n) (none_is_dead n) dead);
      few = omega arith;
      arrived = tt;
      lines = fits;
      events = tt;
    })
