-- The accesses that one use gives.
use Rattle.std.proofs.Common.{◌≡◌, ⊎_elim, ℕ, ◌+◌, ◌<◌, ◌≤◌, Bool, List, [], ◌∷◌, ◌++◌, inl, inr}
use Rattle.std.proofs.Common.{length, map, drop, get_or, refl, sym, ap, ◌∙◌, subst, append_assoc}
use Rattle.std.proofs.Common.{append-nil}
use Rattle.std.specs.List.{Contains}
use Rattle.std.proofs.Math.ListN.{drop_of_length-le}
use Rattle.std.proofs.lemmas.List.Elements.{Contains-append_left, Contains-append_right}
use Rattle.std.proofs.lemmas.List.Elements.{Contains-append_cases}
use Rattle.std.proofs.lemmas.List.{get_or_default}
use Rattle.plex_num.proofs.Members.{in_map}
use Rattle.plex_num.proofs.Lists.{opens}
use Rattle.flow_points.specs.declared.fact.Value.{Value}
use Rattle.flow_points.specs.declared.flow.Source.{Source}
use Rattle.flow_points.specs.Facts.{Facts, SourceGives}
use Rattle.flow_table.specs.Giving.{AreValues}
use Rattle.flow_table.proofs.Reaching.{of_map}
use Rattle.entry_summary.specs.declared.summary.Access.{Access}
use Rattle.entry_summary.specs.declared.summary.Access.TheVariants as access
use Rattle.entry_accesses.specs.declared.uses.Use.{Use}
use Rattle.entry_accesses.specs.declared.uses.Use.TheVariants as use_of
use Rattle.entry_accesses.specs.Adding.{Adds}
use Rattle.entry_accesses.specs.Uses.{UseGives}
use Rattle.entry_accesses.proofs.Adding.{push_adds}

-- one for each selector

pub record SelectedGo (write : Bool) (number : ℕ) (values : List Value) (i : ℕ) (old now : List Access) : Type 0 where
  pub same : now ++ map (access.Field write number) (drop i values) ≡ old ++ map (access.Field write number) values

pub selected_begin : (write : Bool) (number : ℕ) (values : List Value) (old : List Access) → SelectedGo write number values 0 old old
selected_begin write number values old = record { same = refl }

pub selected_more : (write : Bool) (number : ℕ) (values : List Value) (i : ℕ) (v : Value) (old now new : List Access)
    → i < length values → v ≡ get_or values i v → new ≡ now ++ access.Field write number v ∷ []
    → SelectedGo write number values i old now → SelectedGo write number values (i + 1) old new
selected_more write number values i v old now new lt is made g = record {
  same =
      ap (λ l. l ++ map (access.Field write number) (drop (i + 1) values)) made
      ∙ append_assoc now (access.Field write number v ∷ []) (map (access.Field write number) (drop (i + 1) values))
      ∙ ap (λ l. now ++ map (access.Field write number) l) (sym (opens values i v lt is))
      ∙ g.same;
}

pub selected_item : (write : Bool) (number : ℕ) (values : List Value) (i : ℕ) (d : Value) (old now new : List Access)
    → i < length values → new ≡ now ++ access.Field write number (get_or values i d) ∷ []
    → SelectedGo write number values i old now → SelectedGo write number values (i + 1) old new
selected_item write number values i d old now new lt made g = selected_more write number values i (get_or values i d)
    old now new lt (get_or_default values i d (get_or values i d) lt) made g

pub selected_end : (write : Bool) (number : ℕ) (values : List Value) (i : ℕ) (old now : List Access) → length values ≤ i
    → SelectedGo write number values i old now → now ≡ old ++ map (access.Field write number) values
selected_end write number values i old now past g = sym (append-nil now)
    ∙ sym (ap (λ l. now ++ map (access.Field write number) l) (drop_of_length-le values past)) ∙ g.same

pub field_selected : (P : Facts) (e p : ℕ) (write : Bool) (number : ℕ) (source : Source) (u : Use)
    (values given : List Value) (old new : List Access) → u ≡ use_of.Field write number source
    → AreValues (SourceGives P e p source) values → given ≡ values → new ≡ old ++ map (access.Field write number) given
    → Adds old new (UseGives P e p u)
field_selected P e p write number source u values given old new used are same made = subst (λ w. Adds old new (UseGives P e p w)) (sym used) adds
  where
    is : new ≡ old ++ map (access.Field write number) values
    is = made ∙ ap (λ l. old ++ map (access.Field write number) l) same

    given_is : (a : Access) → Contains (map (access.Field write number) values) a → UseGives P e p (use_of.Field write number source) a
    given_is a c = (let r = of_map (access.Field write number) values a c in (r.0, are.each r.0 r.1, sym r.2))

    is_given : (a : Access) → UseGives P e p (use_of.Field write number source) a → Contains (map (access.Field write number) values) a
    is_given a g = subst (Contains (map (access.Field write number) values)) (sym g.2) (in_map (access.Field write number) values g.0 (are.listed g.0 g.1))

    adds : Adds old new (UseGives P e p (use_of.Field write number source))
    adds = record {
      each = λ a c. ⊎_elim (λ was. inl was) (λ one. inr (given_is a one))
          (Contains-append_cases old (map (access.Field write number) values) a (subst (λ l. Contains l a) is c));
      kept = λ a c. subst (λ l. Contains l a) (sym is) (Contains-append_left old (map (access.Field write number) values) a c);
      added = λ a g. subst (λ l. Contains l a) (sym is) (Contains-append_right old (map (access.Field write number) values) a (is_given a g));
    }

-- one alone
one_given : (P : Facts) (e p : ℕ) (u : Use) (one : Access) (old new : List Access) → new ≡ old ++ one ∷ []
    → ((a : Access) → one ≡ a → UseGives P e p u a) → ((a : Access) → UseGives P e p u a → one ≡ a)
    → Adds old new (UseGives P e p u)
one_given P e p u one old new made there back = push_adds old new one (UseGives P e p u) made there back

pub variable_given : (P : Facts) (e p : ℕ) (write : Bool) (number : ℕ) (u : Use) (old new : List Access)
    → u ≡ use_of.Variable write number → new ≡ old ++ access.Variable write number ∷ []
    → Adds old new (UseGives P e p u)
variable_given P e p write number u old new used made = subst (λ w. Adds old new (UseGives P e p w)) (sym used)
    (one_given P e p (use_of.Variable write number) (access.Variable write number) old new made (λ a is. sym is)
    (λ a is. sym is))

pub own_given : (P : Facts) (e p : ℕ) (write : Bool) (number : ℕ) (u : Use) (old new : List Access)
    → u ≡ use_of.Own write number → new ≡ old ++ access.Own write number ∷ [] → Adds old new (UseGives P e p u)
own_given P e p write number u old new used made = subst (λ w. Adds old new (UseGives P e p w)) (sym used)
    (one_given P e p (use_of.Own write number) (access.Own write number) old new made (λ a is. sym is) (λ a is. sym is))

pub seizes_given : (P : Facts) (e p file : ℕ) (u : Use) (old new : List Access) → u ≡ use_of.Seizes file
    → new ≡ old ++ access.Seizes file ∷ [] → Adds old new (UseGives P e p u)
seizes_given P e p file u old new used made = subst (λ w. Adds old new (UseGives P e p w)) (sym used)
    (one_given P e p (use_of.Seizes file) (access.Seizes file) old new made (λ a is. sym is) (λ a is. sym is))

pub frees_given : (P : Facts) (e p file : ℕ) (u : Use) (old new : List Access) → u ≡ use_of.Frees file
    → new ≡ old ++ access.Frees file ∷ [] → Adds old new (UseGives P e p u)
frees_given P e p file u old new used made = subst (λ w. Adds old new (UseGives P e p w)) (sym used)
    (one_given P e p (use_of.Frees file) (access.Frees file) old new made (λ a is. sym is) (λ a is. sym is))
