-- `Boxed` as a place through which a type may hold itself: it is its value, and where the value
-- stands.
use mathlib.Core.Path.{refl}
use mathlib.Core.Former.{Former, this, const, pair, via}
use base.Stored.{gnil}
use base.Fml.{ftrue}
use denote.RattleType.{RattleType}
use denote.Memory.{part_of}
use denote.RawPtr.{Ptr}
use denote.Sharing.{nothing}
use denote.HoleLaws.{Alike}
use denote.HolePlaces.{Recodes, struct_places, laid, one_value}
use denote.Hole.Fix.{over}
use denote.Param.Weighed.{Weighed}
use denote.Model.Placed.{view_places}
use Rattle.std.specs.declared.boxed.Box.{Box}
use Rattle.std.specs.contracts.boxed.Box as memory
use Rattle.std.specs.declared.alloc.Global.{Global}
use Rattle.std.specs.contracts.alloc.Global as global
use Rattle.std.specs.contracts.impls.GlobalAllocator.TheImpl.{ghosts}
use Rattle.plex_ast.specs.declared.boxed.Boxed.TheInside.{Inside}
use Rattle.plex_ast.specs.declared.boxed.Boxed.TheView.{view, invariant}
use Rattle.plex_ast.specs.contracts.boxed.Boxed as boxed
use Rattle.plex_ast.specs.contracts.boxed.Boxed.TheInside as inside

-- one value, and nothing else
abbrev pub the_former : Former {0} → Former {0}
the_former value = value

abbrev pub the_weighed : {value : Former {0}} → Weighed value → Weighed (the_former value)
the_weighed weighed = weighed

-- the one field, a `Box`: its pointer and allocator, and then the value
abbrev field : Former {0}
field = via (pair (const (Ptr × Global)) this) Inside
    (λ X b. ((b.place.ptr, b.place.alloc), b.place.value))
    (λ X v. record { place = record { ptr = v.0.0; alloc = v.0.1; value = v.1 } }) (λ X b. refl)
    (λ X v. refl)

-- the box with another value in it
abbrev holding : {X Y : Type 0} → Box X Global → Y → Box Y Global
holding box value = record { ptr = box.ptr; alloc = box.alloc; value = value }

abbrev boxes_of : RattleType → RattleType
boxes_of R = memory.the_row R global.the_row ghosts

module _ (R S : RattleType) (h : R.Denot → S.Denot) where
  places_of_box : Alike R S h → Alike (boxes_of R) (boxes_of S) (λ box. holding box (h box.value))
  unfolding part_of
  places_of_box alike = record {
    mir_same = λ i. (boxes_of (one_value R (alike.mir_same i) (λ _. ftrue) (λ _ _. nothing)
        gnil)).mir;
    own_same = λ box i. (boxes_of (one_value R (alike.mir_same i) (alike.own_same box.value i)
        (alike.shr_same box.value i) gnil)).own_val (holding box tt);
    shr_same = λ box i. (boxes_of (one_value R (alike.mir_same i) (alike.own_same box.value i)
        (alike.shr_same box.value i) gnil)).shr_at (holding box tt);
  }

  pub the_places : Alike R S h → Alike (boxed.the_row R) (boxed.the_row S)
      ((the_former this).map R.Denot S.Denot h)
  the_places alike = view_places field this view (λ X Y k u. refl) (λ X u. refl) R.Denot S.Denot h
      (boxed.the_row R).coded (boxed.the_row S).coded
      (invariant R.Denot) (invariant S.Denot) (λ u p q. refl) (λ u p q. refl) (λ u e. tt)
      (λ u e. tt)
      (over (inside.the_row R)) (over (inside.the_row S))
      (struct_places (inside.the_type R) (inside.the_type S)
      ((λ box. holding box (h box.value)), tt) _ (λ d. refl) refl
      (laid _ _ _ (places_of_box alike), tt))

  pub the_codes_placed : Recodes R S h → Recodes (boxed.the_row R) (boxed.the_row S)
      ((the_former this).map R.Denot S.Denot h)
  the_codes_placed recodes d = recodes d
