-- `Seq` as a list through which a type may hold itself: how a list splits into its items, and where
-- they stand.
use mathlib.Core.Path.{◌≡◌, refl, sym}
use mathlib.Core.List.{List, []}
use mathlib.Core.Former.{Former, this, list, via, children}
use base.Stored.{code_map}
use denote.RattleType.{RattleType}
use denote.HoleLaws.{Alike}
use denote.HolePlaces.{Recodes, struct_places, laid}
use denote.Hole.Carrier.{listed, list-listed}
use denote.Hole.Fix.{over}
use denote.Param.Weighed.{Weighed, w_list}
use denote.Model.Placed.{view_places}
use Rattle.std.specs.formers.vec.Vec as vec
use Rattle.std.specs.declared.alloc.Global.{Global}
use Rattle.std.specs.contracts.alloc.Global as global
use Rattle.std.specs.contracts.impls.GlobalAllocator.TheImpl.{ghosts}
use Rattle.plex_num.specs.declared.seq.Seq.TheInside.{Inside}
use Rattle.plex_num.specs.declared.seq.Seq.TheView.{view, invariant}
use Rattle.plex_num.specs.contracts.seq.Seq as seq
use Rattle.plex_num.specs.contracts.seq.Seq.TheInside as inside

-- a list of items, and nothing else
abbrev pub the_former : Former {0} → Former {0}
the_former items = list items

abbrev pub the_weighed : {items : Former {0}} → Weighed items → Weighed (the_former items)
the_weighed weighed = w_list weighed

pub the_empty : List ⊥
the_empty = []

abbrev pub the_items : (X : Type 0) → List X → List X
the_items X xs = xs

pub the_items_listed : (X : Type 0) (xs : List X)
    → listed _ (children (the_former this) X xs) ≡ the_items X xs
the_items_listed X xs = list-listed X xs

-- the one field, a `Vec`
abbrev field : Former {0}
field = via (vec.the_former this Global) Inside (λ X s. s.items) (λ X v. record { items = v })
    (λ X s. refl) (λ X v. refl)

module _ (R S : RattleType) (h : R.Denot → S.Denot) where
  pub the_places : Alike R S h → Alike (seq.the_row R) (seq.the_row S)
      ((the_former this).map R.Denot S.Denot h)
  the_places alike = view_places field (list this) view (λ X Y k u. refl) (λ X u. refl) R.Denot
      S.Denot h (seq.the_row R).coded (seq.the_row S).coded
      (invariant R.Denot) (invariant S.Denot) (λ u p q. refl) (λ u p q. refl) (λ u e. tt)
      (λ u e. tt)
      (over (inside.the_row R)) (over (inside.the_row S))
      (struct_places (inside.the_type R) (inside.the_type S) (vec.mapped h, tt) _ (λ d. refl) refl
      (laid _ _ _ (vec.the_places global.the_row ghosts R S h alike), tt))

  pub the_codes_placed : Recodes R S h → Recodes (seq.the_row R) (seq.the_row S)
      ((the_former this).map R.Denot S.Denot h)
  the_codes_placed recodes d = sym (code_map R.coded.code S.coded.code h (λ x. sym (recodes x)) d)
