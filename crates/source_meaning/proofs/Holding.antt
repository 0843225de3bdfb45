-- Chains and marks that fit when a job begins fit while it runs, its own chain in the place of its
-- forlopp's.
use Rattle.std.proofs.Common.{◌≡◌, ℕ, ◌+◌, ◌<◌, true, List, [], ◌∷◌, ◌++◌, length, sym, ap, ◌∙◌}
use Rattle.std.proofs.Common.{subst}
use Rattle.std.proofs.lemmas.Bool.{eq-eqb, both_ways, false≢true}
use Rattle.std.specs.Prelude.{slice_index, slice_set, nat_eq, not, ◌||◌, ◌≢◌}
use Rattle.plex_limits.specs.declared.limits.TheConstants.{MOST_HELD}
use Rattle.job_types.specs.declared.chain.Held.{Held}
use Rattle.job_types.specs.Chain.{holds, without}
use Rattle.exchange_model.specs.declared.exchange.Exchange.{Exchange}
use Rattle.exchange_model.specs.declared.stmt.StmtKind.TheOpen as stmt
use Rattle.exchange_model.specs.Cells.{Placed}
use Rattle.exchange_model.specs.Kept.{IsExchange}
use Rattle.source_meaning.specs.Config.{Item, Caller, Config, base_of}
use Rattle.source_meaning.specs.Changes.{ends}
use Rattle.source_meaning.specs.Deeds.{Deed}
use Rattle.source_meaning.specs.Effects.{Effect, Looks, PutsVariable, PutsField, Seizes, Frees}
use Rattle.source_meaning.specs.Effects.{Goes, Posts, Leave, Faults}
use Rattle.source_meaning.specs.Ranges.{IsInRange}
use Rattle.source_meaning.specs.Rests.{AreRests, DeedStands}
use Rattle.source_meaning.specs.Value.{may_use}
use Rattle.source_meaning.proofs.Books.{Books, IsChanged, books_on, books_seize}
use Rattle.source_meaning.proofs.Fitting.{deed_fits_in}
use Rattle.source_meaning.proofs.Freeing.{put_chain, put_same, put_other, books_free}
use Rattle.source_meaning.proofs.Keeping.{Kept, KeptWith, kept_both}
use Rattle.source_meaning.proofs.Marks.{HasMark, variable_put, field_put}
use Rattle.source_meaning.proofs.Ranged.{in_range_kept}
use Rattle.source_meaning.proofs.Ranging.{TurnsAfter}
use Rattle.source_meaning.proofs.Rests.{DeedRest}
use Rattle.source_meaning.proofs.Touching.{pointer_within, pointer_own, field_of, forlopp_of}

-- a job of this forlopp, over these chains
pub record HoldsOn (x : Exchange) (Live : ℕ → Type 0) (ch : ℕ → List Held) (f : ℕ) (c : Config) : Type 0 where
  pub forlopp : c.own.forlopp ≡ f
  pub bare : f ≡ 0 → c.own.chain ≡ []
  pub books : Books x Live (put_chain ch f c.own.chain) c.world.store

-- one chain in the place of another
swapped : (ch : ℕ → List Held) (f : ℕ) (old new : List Held) → IsChanged (put_chain ch f old) (put_chain ch f new) f new
swapped ch f old new = record { same = put_same ch f new; other = λ n apart. put_other ch f new n apart ∙ sym (put_other ch f old n apart) }

-- a record of a forlopp file that a job may use is in its chain
pub uses_own : (chain : List Held) (file : ℕ) (p : Placed) (number : ℕ) → p.file.forlopp ≡ true
    → may_use chain file p number ≡ true → holds chain file number ≡ true
uses_own chain file p number kind may = sym (ap (λ b. not b || holds chain file number) kind) ∙ may

module _ (x : Exchange) (kept : IsExchange x) (Live : ℕ → Type 0) (ch : ℕ → List Held) (f : ℕ) (alive : f ≢ 0 → Live f) where
  effect_holds : (deed : Deed) (rest : List Item) (c d : Config) → DeedStands x c.block deed rest → IsInRange x c
      → HoldsOn x Live ch f c → Effect x deed rest c d → HoldsOn x Live ch f d
  unfolding base_of
  effect_holds deed rest c d at r h (Looks e loads each) = record { forlopp = h.forlopp; bare = h.bare; books = h.books }
  effect_holds deed rest c d at r h (PutsVariable e p variable expr v is value fits) =
      let g = deed_fits_in x kept c.block p (stmt.SetVariable variable expr) rest (subst (λ (a : Deed). DeedStands x c.block a rest) is at) in
      record {
        forlopp = h.forlopp;
        bare = h.bare;
        books = books_on x kept Live (put_chain ch f c.own.chain) c.world.store (slice_set c.world.store (base_of x c.block + variable) v)
            (λ file number q m. variable_put x kept c.world.store c.block variable v g.block g.there g.fits.names r.store.whole file number q m) h.books;
      }
  effect_holds deed rest c d at r h (PutsField e p file field pointer expr v placed is may value fits) =
      let g = deed_fits_in x kept c.block p (stmt.SetField file field pointer expr) rest (subst (λ (a : Deed). DeedStands x c.block a rest) is at) in
      let number = slice_index c.temps pointer in
      record {
        forlopp = h.forlopp;
        bare = h.bare;
        books = books_on x kept Live (put_chain ch f c.own.chain) c.world.store _
            (λ other n q m. field_put x kept c.world.store file number field v placed
            (record { there = may.there; within = pointer_within c.own.chain file placed number may.sound })
            (field_of x kept c.block g.block file field placed g.fits.names.0 may.there) r.store.whole other n q m) h.books;
      }
  effect_holds deed rest c d at r h (Seizes e p temp file label number placed is record_of some room free) =
      let g = deed_fits_in x kept c.block p (stmt.Seize temp file label) rest (subst (λ (a : Deed). DeedStands x c.block a rest) is at) in
      let m : HasMark x file number placed = record {
        at = record { there = record_of.there; within = record_of.within };
        kind = forlopp_of x kept c.block g.block file true placed g.fits.names.1 record_of.there;
      } in
      let was = put_chain ch f c.own.chain in
      let more : List Held = c.own.chain ++ record { file = file; number = number } ∷ [] in
      let now = put_chain ch f more in
      let own : was f ≡ c.own.chain = put_same ch f c.own.chain in
      let changed : IsChanged was now f (was f ++ record { file = file; number = number } ∷ []) =
      subst (λ chain. IsChanged was now f (chain ++ record { file = file; number = number } ∷ [])) (sym own) (swapped ch f c.own.chain more) in
      let few : length (was f) < MOST_HELD = subst (λ chain. length chain < MOST_HELD) (sym own) room in
      record {
        forlopp = h.forlopp;
        bare = λ none. absurd (some_forlopp none);
        books = books_seize x kept Live was c.world.store h.books r.store.whole now f file number placed changed (alive some_forlopp) m few free;
      }
    where
      some_forlopp : f ≢ 0
      some_forlopp none = both_ways (nat_eq c.own.forlopp 0) some (eq-eqb c.own.forlopp 0 (h.forlopp ∙ none))
  effect_holds deed rest c d at r h (Frees e p temp file placed is may) =
      let g = deed_fits_in x kept c.block p (stmt.Free temp file) rest (subst (λ (a : Deed). DeedStands x c.block a rest) is at) in
      let number = slice_index c.temps temp in
      let kind = forlopp_of x kept c.block g.block file true placed g.fits.names.1 may.there in
      let m : HasMark x file number placed = record {
        at = record { there = may.there; within = pointer_within c.own.chain file placed number may.sound };
        kind = kind;
      } in
      let mine : holds c.own.chain file number ≡ true = uses_own c.own.chain file placed number kind (pointer_own c.own.chain file placed number may.sound) in
      let was = put_chain ch f c.own.chain in
      let less = without c.own.chain file number in
      let now = put_chain ch f less in
      let own : was f ≡ c.own.chain = put_same ch f c.own.chain in
      let changed : IsChanged was now f (without (was f) file number) = subst
      (λ chain. IsChanged was now f (without chain file number)) (sym own) (swapped ch f c.own.chain less) in
      let bare_not : f ≢ 0 = λ none. false≢true (subst (λ chain. holds chain file number ≡ true) (h.bare none) mine) in
      record {
        forlopp = h.forlopp;
        bare = λ none. absurd (bare_not none);
        books = books_free x kept Live was c.world h.books r.store.whole now f file number placed changed
            (alive bare_not) m (subst (λ chain. holds chain file number ≡ true) (sym own) mine);
      }
  effect_holds deed rest c d at r h (Goes e todo temps on) = record { forlopp = h.forlopp; bare = h.bare; books = h.books }
  effect_holds deed rest c d at r h (Posts e to vs is room) = record { forlopp = h.forlopp; bare = h.bare; books = h.books }

  leave_holds : (deed : Deed) (rest : List Item) (c d : Config) → HoldsOn x Live ch f c → Leave x deed rest c d → HoldsOn x Live ch f d
  leave_holds deed rest c d h (Faults e g why) = record { forlopp = h.forlopp; bare = h.bare; books = h.books }
  leave_holds deed rest c d h _ = record { forlopp = h.forlopp; bare = h.bare; books = h.books }

  ends_holds : (ks : List Caller) (c : Config) → HoldsOn x Live ch f c → HoldsOn x Live ch f (ends ks c)
  ends_holds [] c h = record { forlopp = h.forlopp; bare = h.bare; books = h.books }
  ends_holds (k ∷ ks) c h = record { forlopp = h.forlopp; bare = h.bare; books = h.books }

  holds_kept : KeptWith x (λ c. AreRests x c × IsInRange x c)
      (λ b deed rest. DeedRest x b deed rest × TurnsAfter deed rest) (HoldsOn x Live ch f) (λ deed rest. Unit {0})
  holds_kept = record {
    context = λ c i rest p q is. tt;
    counting = λ deed rest c at p q. record { forlopp = q.forlopp; bare = q.bare; books = q.books };
    effect = λ deed rest c d at more p q e. effect_holds deed rest c d at.0.0 p.1 q e;
    leave = λ deed rest c d at more p q e. leave_holds deed rest c d q e;
    ending = λ c q. ends_holds c.callers c q;
    full = λ c q. record { forlopp = q.forlopp; bare = q.bare; books = q.books };
  }

  -- what stands in the text, what is in range, and what is held
  pub all_kept : Kept x (λ c. (AreRests x c × IsInRange x c) × HoldsOn x Live ch f c)
      (λ b deed rest. (DeedRest x b deed rest × TurnsAfter deed rest) × Unit {0})
  all_kept = kept_both (in_range_kept x kept) holds_kept
