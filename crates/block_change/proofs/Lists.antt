-- Lists: what holds of all items, and what is made of each; options that follow one another.
use Rattle.std.proofs.Common.{◌≡◌, ℕ, zero, suc, ◌<◌, List, [], ◌∷◌, length, map, get_or, Option}
use Rattle.std.proofs.Common.{Some, None, slice_get, true, refl, sym, ap, ◌∙◌, arith}
use Rattle.std.proofs.lemmas.List.{length-map}
use Rattle.std.proofs.lemmas.List.Quantifiers.{position-Some}
use Rattle.std.proofs.lemmas.Option.{none-some, same_Some, slice_get-map}
use Rattle.std.proofs.lemmas.Slice.Eq.{bytes_eq-Decides}
use Rattle.std.specs.Option.{option_and_then, option_map}
use Rattle.std.specs.Prelude.{slice_index}
use Rattle.std.specs.Str.{bytes_eq}
use Rattle.plex_num.proofs.Lists.{got_map}
use Rattle.exchange_model.specs.declared.block.Block.{Block}
use Rattle.exchange_model.specs.declared.block.File.{File}
use Rattle.exchange_model.specs.Kept.{variable_names}
use Rattle.block_change.specs.declared.directory.BlockNames.{BlockNames}
use Rattle.block_change.specs.Names.{field_names, names_of, place_of}

pub names_there : (blocks : List Block) (names : List BlockNames) (b : ℕ) (k : Block) → names ≡ map names_of blocks
    → slice_get blocks b ≡ Some k → slice_get names b ≡ Some (names_of k)
names_there blocks names b k is there = ap (λ ns. slice_get ns b) is ∙ got_map names_of blocks b k there

pub fields_there : (files : List File) (names : List (List (List ℕ))) (i : ℕ) (f : File) → names ≡ field_names files
    → slice_get files i ≡ Some f → slice_get names i ≡ Some (variable_names f.fields)
fields_there files names i f is there = ap (λ ns. slice_get ns i) is ∙ got_map (λ (g : File). variable_names g.fields) files i f there

-- lists that have the same at each place are one
pub list_same : (xs ys : List ℕ) → length xs ≡ length ys → ((i : ℕ) → i < length xs → slice_index xs i ≡ slice_index ys i) → xs ≡ ys
list_same [] [] long each = refl
list_same [] (y ∷ ys) long each = absurd (omega (arith, long))
list_same (x ∷ xs) [] long each = absurd (omega (arith, long))
list_same (x ∷ xs) (y ∷ ys) long each = λ i. each 0 (omega arith) i ∷ list_same xs ys (omega (arith, long)) (λ j inside. each (suc j) (omega (arith, inside))) i

-- what comes after an option that is there

pub and_then : {X Y : Type 0} (f : X → Option Y) (o : Option X) (y : Y) → option_and_then f o ≡ Some y → (x : X) × (o ≡ Some x) × (f x ≡ Some y)
and_then f None y is = absurd (cc)
and_then f (Some x) y is = (x, refl, is)

pub then_is : {X Y : Type 0} (f : X → Option Y) (o : Option X) (x : X) (p : Option Y) → o ≡ Some x → f x ≡ p → option_and_then f o ≡ p
then_is f o x p there is = ap (option_and_then f) there ∙ is

pub mapped_of : {X Y : Type 0} (f : X → Y) (o : Option X) (y : Y) → option_map f o ≡ Some y → (x : X) × (o ≡ Some x) × (f x ≡ y)
mapped_of f None y is = absurd (cc)
mapped_of f (Some x) y is = (x, refl, cc)

-- a name that has a place stands there
pub record StandsAt (name : List ℕ) (names : List (List ℕ)) (i : ℕ) : Type 0 where
  pub within : i < length names
  pub there : slice_get names i ≡ Some name

stands : (names : List (List ℕ)) (i : ℕ) (name : List ℕ) → i < length names → bytes_eq name (get_or names i []) ≡ true → slice_get names i ≡ Some name
stands [] i name within is = absurd (omega arith)
stands (n ∷ ns) zero name within is = ap Some (sym ((bytes_eq-Decides name n).0 is))
stands (n ∷ ns) (suc i) name within is = stands ns i name (omega (arith, within)) is

pub stands_at : (name : List ℕ) (names : List (List ℕ)) (i : ℕ) → place_of name names ≡ Some i → StandsAt name names i
stands_at name names i is =
    let p = position-Some (bytes_eq name) names i [] is in
    record { within = p.0; there = stands names i name p.0 p.1 }

-- the item of the list whose names these are
pub named_item : {X : Type 0} (name_of : X → List ℕ) (xs : List X) (name : List ℕ) (i : ℕ)
    → place_of name (map name_of xs) ≡ Some i → (x : X) × (slice_get xs i ≡ Some x) × (name_of x ≡ name)
named_item {X} name_of xs name i is = by (slice_get xs i) refl
  where
    there : slice_get (map name_of xs) i ≡ Some name
    there = (stands_at name (map name_of xs) i is).there

    by : (o : Option X) → slice_get xs i ≡ o → (x : X) × (slice_get xs i ≡ Some x) × (name_of x ≡ name)
    by None at = absurd (none-some name (sym (slice_get-map name_of xs i ∙ ap (option_map name_of) at) ∙ there))
    by (Some x) at = (x, at, same_Some (name_of x) name (sym (got_map name_of xs i x at) ∙ there))

pub place_within : {X : Type 0} (name_of : X → List ℕ) (xs : List X) (name : List ℕ) (i : ℕ) → place_of name (map name_of xs) ≡ Some i → i < length xs
place_within name_of xs name i is = let within = (stands_at name (map name_of xs) i is).within in omega (arith, within, length-map xs name_of)
