-- What the summary of an entry tells of a statement that is reached.
use Rattle.std.proofs.Common.{◌≡◌, ℕ, ◌<◌, List, length, Some, ap, sym, subst, slice_get, refl}
use Rattle.std.specs.List.{Contains}
use Rattle.std.specs.Option.{option_map_or}
use Rattle.plex_num.specs.declared.level.Level.{Level}
use Rattle.exchange_model.specs.declared.exchange.Exchange.{Exchange}
use Rattle.exchange_model.specs.declared.block.Block.{Block}
use Rattle.source_meaning.specs.Named.{Layer}
use Rattle.source_meaning.specs.Config.{Item}
use Rattle.source_meaning.specs.Rests.{StandsAs}
use Rattle.flow_points.specs.Facts.{Facts, Reached}
use Rattle.flow_points.specs.Slots.{temp_count}
use Rattle.entry_summary.specs.declared.summary.Access.{Access}
use Rattle.entry_summary.specs.declared.summary.Summary.{Summary}
use Rattle.entry_summary.specs.Accesses.{Accesses}
use Rattle.entry_summary.specs.Summaries.{SendsTo, IsSummary}
use Rattle.fact_laws.proofs.Standing.{at_place, deed_place}

-- a temporary of the block
pub temp_within : (x : Exchange) (b t : ℕ) (k : Block) → slice_get x.blocks b ≡ Some k → t < length k.temporaries → t < temp_count x b
temp_within x b t k there lt = subst (λ n. t < n) (sym (ap (λ o. option_map_or (λ (k : Block). length k.temporaries) o 0) there)) lt

module _ (x : Exchange) (P : Facts) (e : ℕ) (m : Summary) (summary : IsSummary x P e m) (b p : ℕ) (l : Layer)
    (rest : List Item) (at : StandsAs x b p l rest) (reached : Reached P e p) where
  pub told_access : (a : Access) → Accesses x P e b p l a → Contains m.accesses a
  told_access a is = (summary.accesses a).1 (record {
    at = at_place b p l rest;
    point = p;
    stands = record { place = deed_place at; here = refl };
    reached = reached;
    access = is;
  })

  pub told_level : (level : Level) → SendsTo x l level → Contains m.levels level
  told_level level is = (summary.levels level).1
      (record {
        at = at_place b p l rest;
        point = p;
        stands = record { place = deed_place at; here = refl };
        reached = reached;
        sends = is;
      })
