-- `Few` as a list through which a type may hold itself: how it splits into its items, and where
-- they stand.
use mathlib.Core.Path.{◌≡◌, refl, sym}
use mathlib.Core.List.{List, []}
use mathlib.Core.Logic.{◌⊎◌, inl, inr}
use mathlib.Core.Former.{Former, this, const, or, list, via, children}
use base.Stored.{code_map}
use denote.RattleType.{RattleType}
use denote.HoleLaws.{Alike}
use denote.HolePlaces.{Recodes, struct_places, enum_places, eachs, laid}
use denote.Hole.Carrier.{listed, list-listed}
use denote.Hole.Fix.{over}
use denote.Param.Weighed.{Weighed, w_list}
use denote.Model.Placed.{held, view_places}
use Rattle.std.specs.declared.option.Option.{Option}
use Rattle.std.specs.declared.option.Option.TheVariants.{None, Some}
use Rattle.std.specs.contracts.option.Option as option
use Rattle.plex_num.specs.formers.seq.Seq as sequence
use Rattle.plex_num.specs.contracts.seq.Seq as seq
use Rattle.plex_ast.specs.formers.boxed.Boxed as place
use Rattle.plex_ast.specs.contracts.boxed.Boxed as boxed
use Rattle.plex_ast.specs.declared.few.Few.TheInside.{Inside}
use Rattle.plex_ast.specs.declared.few.Few.TheView.{view, invariant}
use Rattle.plex_ast.specs.contracts.few.Few as few
use Rattle.plex_ast.specs.contracts.few.Few.TheInside as inside

-- a list of items, and nothing else
abbrev pub the_former : Former {0} → Former {0}
the_former items = list items

abbrev pub the_weighed : {items : Former {0}} → Weighed items → Weighed (the_former items)
the_weighed weighed = w_list weighed

pub the_empty : List ⊥
the_empty = []

abbrev pub the_items : (X : Type 0) → List X → List X
the_items X xs = xs

pub the_items_listed : (X : Type 0) (xs : List X)
    → listed _ (children (the_former this) X xs) ≡ the_items X xs
the_items_listed X xs = list-listed X xs

-- nothing, or a list
module _ {X : Type 0} where
  abbrev split : Option (List X) → Unit {0} ⊎ List X
  split None = inl tt
  split (Some xs) = inr xs

  abbrev join : Unit {0} ⊎ List X → Option (List X)
  join (inl u) = None
  join (inr xs) = Some xs

  join-split : (o : Option (List X)) → join (split o) ≡ o
  join-split None = refl
  join-split (Some xs) = refl

  split-join : (o : Unit {0} ⊎ List X) → split (join o) ≡ o
  split-join (inl u) = refl
  split-join (inr xs) = refl

abbrev lists : Former {0}
lists = via (or (const (Unit {0})) (list this)) (λ X. Option (List X)) (λ X. split) (λ X. join)
    (λ X. join-split) (λ X. split-join)

-- the one field
abbrev field : Former {0}
field = via lists Inside (λ X f. f.items) (λ X v. record { items = v }) (λ X f. refl) (λ X v. refl)

abbrev mapped : {X Y : Type 0} → (X → Y) → List X → List Y
mapped {X} {Y} h = (list this).map X Y h

abbrev option_mapped : {X Y : Type 0} → (X → Y) → Option (List X) → Option (List Y)
option_mapped h None = None
option_mapped h (Some xs) = Some (mapped h xs)

module _ (X : Type 0) where
  abbrev holding : Option (List X) → Inside X
  holding o = record { items = o }

  keeps : (o : Option (List X)) → held (the_former this) X (view X (holding o))
      ≡ held field X (holding o)
  keeps None = refl
  keeps (Some xs) = refl

  module _ (Y : Type 0) (h : X → Y) where
    over_option : (o : Option (List X)) → lists.map X Y h o ≡ option_mapped h o
    over_option None = refl
    over_option (Some xs) = refl

    inside_mapped : (u : Inside X) → (field.map X Y h u).items ≡ option_mapped h u.items
    inside_mapped u = over_option u.items

    natural : (o : Option (List X)) → view Y (field.map X Y h (holding o))
        ≡ (the_former this).map X Y h (view X (holding o))
    natural None = refl
    natural (Some xs) = refl

module _ (R S : RattleType) (h : R.Denot → S.Denot) where
  variant : (o : Option (List R.Denot))
      → (option.enum (boxed.the_row (seq.the_row S))).as_values (option_mapped h o)
      ≡ eachs (option.enum (boxed.the_row (seq.the_row R))).parts
      (option.enum (boxed.the_row (seq.the_row S))).parts (tt, ((mapped h, tt), tt))
      ((option.enum (boxed.the_row (seq.the_row R))).as_values o)
  variant None = refl
  variant (Some xs) = refl

  option_places : Alike R S h → Alike (option.the_row (boxed.the_row (seq.the_row R)))
      (option.the_row (boxed.the_row (seq.the_row S))) (option_mapped h)
  option_places alike = enum_places (option.enum (boxed.the_row (seq.the_row R)))
      (option.enum (boxed.the_row (seq.the_row S)))
      (tt, ((mapped h, tt), tt)) (option_mapped h) variant refl (
        tt,
        (
          (
            laid _ _ _ (place.the_places (seq.the_row R) (seq.the_row S) (mapped h)
                (sequence.the_places R S h alike)),
            tt,
          ),
          tt,
        ),
      )

  pub the_places : Alike R S h → Alike (few.the_row R) (few.the_row S)
      ((the_former this).map R.Denot S.Denot h)
  the_places alike = view_places field (list this) view (λ X Y k u. natural X Y k u.items)
      (λ X u. keeps X u.items) R.Denot S.Denot h (few.the_row R).coded (few.the_row S).coded
      (invariant R.Denot) (invariant S.Denot) (λ u p q. refl) (λ u p q. refl) (λ u e. tt)
      (λ u e. tt)
      (over (inside.the_row R)) (over (inside.the_row S))
      (struct_places (inside.the_type R) (inside.the_type S) (option_mapped h, tt) _
      (λ d i. (inside_mapped R.Denot S.Denot h d i, tt)) refl
      (laid _ _ _ (option_places alike), tt))

  pub the_codes_placed : Recodes R S h → Recodes (few.the_row R) (few.the_row S)
      ((the_former this).map R.Denot S.Denot h)
  the_codes_placed recodes d = sym (code_map R.coded.code S.coded.code h (λ x. sym (recodes x)) d)
