-- A statement that adds to a listed variable or field, over words that have more there.
use Rattle.std.proofs.Common.{◌≡◌, ℕ, ◌+◌, ◌%◌, ◌^◌, ◌<◌, Bool, true, false, List, [], ◌∷◌, ◌++◌}
use Rattle.std.proofs.Common.{map, length, Option, Some, None, refl, sym, ap, ◌∙◌, subst, slice_get}
use Rattle.std.proofs.Common.{arith}
use Rattle.std.proofs.lemmas.Bool.{lt-ltb}
use Rattle.std.proofs.lemmas.List.{append-nil}
use Rattle.std.proofs.lemmas.Option.{same_Some}
use Rattle.std.specs.Prelude.{nat_lt, slice_index, if◌then◌else◌}
use Rattle.std.specs.List.{AllByRecursion, Contains}
use Rattle.job_types.specs.declared.fault.Fault.{Fault}
use Rattle.job_types.specs.declared.fault.Fault.TheVariants as fault
use Rattle.job_types.specs.declared.touch.Touch.{Touch}
use Rattle.job_types.specs.Own.{World, counted, budget, seen}
use Rattle.exchange_model.specs.declared.exchange.Exchange.{Exchange}
use Rattle.exchange_model.specs.declared.expr.Expr.{Expr}
use Rattle.exchange_model.specs.declared.expr.Term.{Term}
use Rattle.exchange_model.specs.declared.stmt.Stmt.{Stmt}
use Rattle.exchange_model.specs.declared.stmt.StmtKind.{out-StmtKind}
use Rattle.exchange_model.specs.declared.stmt.StmtKind.TheOpen as stmt
use Rattle.exchange_model.specs.Cells.{Placed, field_cell}
use Rattle.exchange_model.specs.Inside.{joined as all_of, own_exprs}
use Rattle.exchange_model.specs.Kept.{IsExchange, scope_of}
use Rattle.source_meaning.specs.Named.{Layer, Named, NamedVariable, NamedField, named_in}
use Rattle.source_meaning.specs.Named.{named_in_term}
use Rattle.source_meaning.specs.Value.{Got, Gives, Fails, expr_value, factor_value, pointer_fault}
use Rattle.source_meaning.specs.Config.{Item, Do, Config, base_of, files_of, sight, next_counted}
use Rattle.source_meaning.specs.Changes.{fails, on_value, unless_fault, where_fits, goes, sets_cell}
use Rattle.source_meaning.specs.Changes.{sets_field, at_record, field_width, variable_width}
use Rattle.source_meaning.specs.Rests.{StandsAs}
use Rattle.source_meaning.specs.Step.{does, count, does_first, step}
use Rattle.source_meaning.proofs.Fitting.{deed_fits_in, NamedFits, names_fit}
use Rattle.source_meaning.proofs.Lists.{Within, within_left, within_right, all_contained}
use Rattle.source_meaning.proofs.Lists.{all_members}
use Rattle.source_meaning.proofs.Naming.{named_in-out}
use Rattle.source_meaning.proofs.Touching.{pointer_within, field_of, deed_expr}
use Rattle.source_meaning.specs.Deeds.{Doing, IsFileAt}
use Rattle.plex_num.proofs.Members.{first_is}
use Rattle.flow_points.specs.declared.fact.Value.{Value}
use Rattle.flow_points.specs.Facts.{Facts}
use Rattle.entry_summary.specs.Accesses as access
use Rattle.entry_summary.specs.Accesses.{Accesses}
use Rattle.entry_summary.specs.declared.summary.Access.TheVariants.{Field, Variable}
use Rattle.entry_summary.specs.Numbers.{field_number, variable_number}
use Rattle.permit_laws.proofs.Telling.{temp_within}
use Rattle.pair_laws.proofs.Naming.{field_once}
use Rattle.additions_meaning.specs.Additions.{IsAdditionTo, AddsTo, adds, AddsToField, adds_field}
use Rattle.additions_meaning.specs.Additions.{NamesNone, IsAddedWord, Targets, factor_of}
use Rattle.additions_meaning.specs.Amounts.{DiffersBy, RunsAlike, with_world}
use Rattle.addition_laws.proofs.Amounting.{differ_set}
use Rattle.addition_laws.proofs.Cells.{field_added, field_is_added, variable_added}
use Rattle.addition_laws.proofs.Cells.{variable_is_added}
use Rattle.addition_laws.proofs.Naming.{SameAt, SameOf}
use Rattle.addition_laws.proofs.Outside.{AllPlain, KnowsSome, added_plain}
use Rattle.addition_laws.proofs.Summing.{GivesWord, GivesMore, addition_more, expr_word, field_more}
use Rattle.addition_laws.proofs.Summing.{variable_more}

module _ (D : ℕ → Type 0) (more : ℕ → ℕ) where
  abbrev Alike : Config → Config → Type 0
  Alike c d = RunsAlike D more c d

  abbrev after : List Touch → Config → Config
  after loads c = record c { world = seen loads c.world }

  -- both values fit all 32 bits
  fits_alike : (u v width : ℕ) (c d : Config) (f g : Config → Config) → width ≡ 32 → u < 2 ^ 32 → v < 2 ^ 32
      → Alike (f c) (g d) → Alike (where_fits u width c f) (where_fits v width d g)
  fits_alike u v width c d f g all low below h =
      subst (λ n. Alike (where_fits u n c f) (where_fits v n d g)) (sym all)
      (subst (λ b. Alike (if b then f c else fails fault.Range c) (where_fits v 32 d g)) (sym (lt-ltb u (2 ^ 32) low))
      (subst (λ b. Alike (f c) (if b then g d else fails fault.Range d)) (sym (lt-ltb v (2 ^ 32) below)) h))

  -- goes on with a value, and in the other run with so much more, or both fail
  value_alike : (k : ℕ) (got next : Got) (c : Config) (w : World) (go : ℕ → Config → Config) → GivesWord got
      → GivesMore k got next → DiffersBy D more c.world.store w.store
      → ((u v : ℕ) (loads others : List Touch) → u < 2 ^ 32 → v ≡ (u + k) % 2 ^ 32 → Alike (go u (after loads c)) (go v (after others (with_world w c))))
      → Alike (on_value got c go) (on_value next (with_world w c) go)
  value_alike k (Gives loads u) (Gives others v) c w go low is words both = both u v loads others low is
  value_alike k (Fails loads f) (Fails others g) c w go low is words both =
      subst (λ h. Alike (fails f (after loads c)) (fails h (after others (with_world w c)))) (sym is) (record { same = refl; words = words })
  value_alike k (Gives loads u) (Fails others g) c w go low is words both = absurd is
  value_alike k (Fails loads f) (Gives others v) c w go low is words both = absurd is

  -- a cell of D gets the value
  cell_alike : (cell u v width : ℕ) (loads others : List Touch) (c : Config) (w : World) (f : Config → Config)
      → width ≡ 32 → u < 2 ^ 32 → v ≡ (u + more cell) % 2 ^ 32 → D cell → DiffersBy D more c.world.store w.store
      → ((d : Config) (z : World) → DiffersBy D more d.world.store z.store → Alike (f d) (f (with_world z d)))
      → Alike (where_fits u width (after loads c) (λ d. f (sets_cell cell u d)))
      (where_fits v width (after others (with_world w c)) (λ d. f (sets_cell cell v d)))
  cell_alike cell u v width loads others c w f all low is here words last =
      let below : v < 2 ^ 32 = omega (arith, is) in
      fits_alike u v width (after loads c) (after others (with_world w c)) (λ d. f (sets_cell cell u d)) (λ d. f (sets_cell cell v d)) all low below
      (last (sets_cell cell u (after loads c)) (sets_cell cell v (after others (with_world w c))).world
      (differ_set D more c.world.store w.store cell u v words here is))

  pub count_alike : (p : ℕ) (go : Config → Config) (c : Config) (w : World) → DiffersBy D more c.world.store w.store
      → (let e : Config = record c { own = counted p c.own } in Alike (go e) (go (with_world w e))) → Alike (count p c go) (count p (with_world w c) go)
  count_alike p go c w words h = by (nat_lt c.own.count budget)
    where
      e : Config
      e = record c { own = counted p c.own }

      by : (b : Bool) → Alike (if b then go e else fails fault.Budget e) (if b then go (with_world w e) else fails fault.Budget (with_world w e))
      by true = h
      by false = record { same = refl; words = words }

-- names of one variable, or of one field, of whatever record
abbrev pub IsSameName : Named → Named → Type 0
IsSameName (NamedVariable v) (NamedVariable w) = v ≡ w
IsSameName (NamedField file field pointer) (NamedField other place at) = (file ≡ other) × (field ≡ place)
IsSameName _ _ = ⊥

named_none : (n m : Named) (t : Term) → NamesNone n t → Contains (named_in_term t) m → IsSameName n m → ⊥
named_none (NamedVariable v) (NamedVariable w) t none named same = none (subst (λ u. Contains (named_in_term t) (NamedVariable u)) (sym same) named)
named_none (NamedField file field pointer) (NamedField other place at) t none named same =
    none at (subst (λ g. Contains (named_in_term t) (NamedField file g at)) (sym same.1)
    (subst (λ f. Contains (named_in_term t) (NamedField f place at)) (sym same.0) named))
named_none (NamedVariable v) (NamedField other place at) t none named same = absurd same
named_none (NamedField file field pointer) (NamedVariable w) t none named same = absurd same

module _ (x : Exchange) (kept : IsExchange x) (P : Facts) (entry : ℕ) (d : Targets) (plain : AllPlain x d.fields) (more : ℕ → ℕ) where
  abbrev Added : ℕ → Type 0
  Added w = IsAddedWord x d w

  -- at the statement each access to a listed variable or field is one of an addition to it
  pub record OnlyAdds (b p : ℕ) (l : Layer) : Type 0 where
    pub knows : KnowsSome x kept P entry d plain b p
    pub variables : (n : ℕ) → Contains d.variables n → (write : Bool) → Accesses x P entry b p l (Variable write n) → AddsTo x b n l
    pub fields : (n : ℕ) → Contains d.fields n → (write : Bool) (v : Value) → Accesses x P entry b p l (Field write n v) → AddsToField x n l

  -- a statement that adds to no variable and no field but this name
  record IsOwn (b : ℕ) (l : Layer) (own : Named) : Type 0 where
    variable : (w : ℕ) → AddsTo x b (variable_number x b w) l → IsSameName own (NamedVariable w)
    field : (file field pointer : ℕ) (p : Placed) → IsFileAt x file p → field < length p.file.fields
        → AddsToField x (field_number x file field) l → IsSameName own (NamedField file field pointer)

  own_variable : (b v : ℕ) (e : Expr) → IsOwn b (stmt.SetVariable v e) (NamedVariable v)
  own_variable b v e = record {
    variable = λ w h. by w (stmt.SetVariable v e) refl h;
    field = λ file field pointer p there lt h. none file field (stmt.SetVariable v e) refl h;
  }
    where
      by : (w : ℕ) (l : Layer) → l ≡ stmt.SetVariable v e → AddsTo x b (variable_number x b w) l → v ≡ w
      by w l is (adds u f numbered addition width) = (let same : u ≡ v = cc in omega (arith, same, numbered))

      none : {C : Type 0} (file field : ℕ) (l : Layer) → l ≡ stmt.SetVariable v e → AddsToField x (field_number x file field) l → C
      none file field l is (adds_field f g q u placed numbered there addition width) = absurd cc

  own_field : (b file field pointer : ℕ) (e : Expr) (p : Placed) → IsFileAt x file p → field < length p.file.fields
      → IsOwn b (stmt.SetField file field pointer e) (NamedField file field pointer)
  own_field b file field pointer e p there lt = record {
    variable = λ w h. none w (stmt.SetField file field pointer e) refl h;
    field = λ other place at q here within h. by other place q here within (stmt.SetField file field pointer e) refl h;
  }
    where
      none : {C : Type 0} (w : ℕ) (l : Layer) → l ≡ stmt.SetField file field pointer e → AddsTo x b (variable_number x b w) l → C
      none w l is (adds u f numbered addition width) = absurd cc

      by : (other place : ℕ) (q : Placed) → IsFileAt x other q → place < length q.file.fields → (l : Layer)
          → l ≡ stmt.SetField file field pointer e → AddsToField x (field_number x other place) l
          → (file ≡ other) × (field ≡ place)
      by other place q here within l is (adds_field f g at u placed numbered found addition width) =
          let first : f ≡ file = cc in
          let second : g ≡ field = cc in
          let number : field_number x other place ≡ field_number x file field =
          numbered ∙ ap (λ n. field_number x n g) first ∙ ap (field_number x file) second in
          let one : file ≡ other = field_once x (field_number x file field) file field other place
          (record { placed = p; there = there; within = lt; numbered = refl })
          (record { placed = q; there = here; within = within; numbered = sym number }) in
          let same : field_number x file place ≡ field_number x file field = ap (λ n. field_number x n place) one ∙ number in
          (one, omega (arith, same))

  module _ (c : Config) (p : ℕ) (l : Layer) (own : Named) (e : Expr) (rest : List Item) (t : List ℕ)
      (at : StandsAs x c.block p l rest) (of : Contains (own_exprs l) e) (is_own : IsOwn c.block l own)
      (only : OnlyAdds c.block p l)
      (words : DiffersBy Added more c.world.store t) where
    -- each name in it but its own is of words that are the same
    name_same : (n : Named) → Contains (named_in e) n → (IsSameName own n → ⊥) → SameAt t (sight x c) n
    name_same (NamedVariable w) named other =
        let f = deed_expr x kept c.block (Doing p l) rest e at of in
        let lt = all_contained (NamedFits (scope_of x c.block f.block)) (named_in e) (NamedVariable w)
        (names_fit (scope_of x c.block f.block) e f.fits) named in
        sym (words.same (base_of x c.block + w) (λ added.
        other (is_own.variable w (only.variables (variable_number x c.block w) (variable_added x d c.block w f.block f.there lt added) false
        (access.reads l w (record { expr = e; own = of; named = named }))))))
    name_same (NamedField file field pointer) named other = λ placed there sound.
        let f = deed_expr x kept c.block (Doing p l) rest e at of in
        let is = all_contained (NamedFits (scope_of x c.block f.block)) (named_in e) (NamedField file field pointer)
        (names_fit (scope_of x c.block f.block) e f.fits) named in
        let number = slice_index c.temps pointer in
        let below = pointer_within c.own.chain file placed number sound in
        let lt = field_of x kept c.block f.block file field placed is.0 there in
        let k = only.knows pointer (temp_within x c.block pointer f.block f.there is.1) in
        sym (words.same (field_cell placed number field) (λ added.
        other (is_own.field file field pointer placed there lt
        (only.fields (field_number x file field) (field_added x d file number field placed there below lt added)
        false k.0
        (access.reads_field l file field pointer k.0 (record { expr = e; own = of; named = named })
        (added_plain x d plain file number field placed there below lt added) k.1)))))

    term_names : (u : Term) → Within (named_in_term u) (named_in e) → NamesNone own u → SameOf t (sight x c) (named_in_term u)
    term_names u within none = all_members (SameAt t (sight x c)) (named_in_term u) (λ n named. name_same n (within n named) (named_none own n u none named))

    abbrev Sames : List Term → Type 0
    Sames ts = AllByRecursion (λ (u : Term). SameOf t (sight x c) (named_in_term u)) ts

    terms_names : (ts past : List Term) → Within (all_of (map named_in_term (ts ++ past))) (named_in e)
        → AllByRecursion (NamesNone own) ts → Sames ts × Within (all_of (map named_in_term past)) (named_in e)
    terms_names [] past within each = (tt, within)
    terms_names (u ∷ ts) past within each =
        let names = all_of (map named_in_term (ts ++ past)) in
        let later = terms_names ts past (within_right (named_in_term u) names (named_in e) within) each.1 in
        ((term_names u (within_left (named_in_term u) names (named_in e) within) each.0, later.0), later.1)

    sum_more : (k : ℕ) → IsAdditionTo own e → GivesMore k (factor_value (factor_of own) (sight x c))
        (factor_value (factor_of own) (sight x (with_world (record { store = t; trace = [] }) c)))
        → GivesMore k (expr_value e (sight x c)) (expr_value e (sight x (with_world (record { store = t; trace = [] }) c)))
    sum_more k a itself =
        let whole : Within (all_of (map named_in_term (a.before ++ a.own ∷ a.after))) (named_in e) =
        subst (λ ts. Within (all_of (map named_in_term ts)) (named_in e)) a.terms (subst (λ ns. Within ns (named_in e)) (named_in-out e) (λ n at. at)) in
        let front = terms_names a.before (a.own ∷ a.after) whole a.front in
        let past = within_right (named_in_term a.own) (all_of (map named_in_term a.after)) (named_in e) front.1 in
        let back = terms_names a.after [] (subst (λ ts. Within (all_of (map named_in_term ts)) (named_in e)) (sym (append-nil a.after)) past) a.back in
        addition_more t (sight x c) k own e a front.0 back.0 itself

  -- one step, where the statement that is counted next does so in both runs
  counted_alike : (c : Config) (w : World) (s : Stmt) (rest : List Item) (l : Layer) → next_counted c.todo ≡ Do s ∷ rest
      → out-StmtKind s.kind ≡ l → DiffersBy Added more c.world.store w.store
      → (let e : Config = record c { own = counted s.point c.own } in RunsAlike Added more (does x s.point l rest e)
      (does x s.point l rest (with_world w e))) → RunsAlike Added more (step x c) (step x (with_world w c))
  unfolding step
  counted_alike c w s rest l is layer words done =
      subst (λ items. RunsAlike Added more (does_first x items c) (does_first x items (with_world w c))) (sym is)
      (subst (λ l. RunsAlike Added more (count s.point c (does x s.point l rest))
      (count s.point (with_world w c) (does x s.point l rest))) (sym layer)
      (count_alike Added more s.point (does x s.point l rest) c w words done))

  -- where it sets a listed variable
  pub variable_alike : (c : Config) (w : World) (s : Stmt) (rest : List Item) (v : ℕ) (e : Expr)
      → next_counted c.todo ≡ Do s ∷ rest → out-StmtKind s.kind ≡ stmt.SetVariable v e
      → StandsAs x c.block s.point (stmt.SetVariable v e) rest → OnlyAdds c.block s.point (stmt.SetVariable v e)
      → Contains d.variables (variable_number x c.block v)
      → DiffersBy Added more c.world.store w.store → RunsAlike Added more (step x c) (step x (with_world w c))
  variable_alike c w s rest v e is layer at only there words =
      let l = stmt.SetVariable v e in
      let f = deed_fits_in x kept c.block s.point l rest at in
      let cell = base_of x c.block + v in
      let added : Added cell = variable_is_added x d c.block v f.block f.there f.fits.names there in
      let own = adds_so c.block v e (only.variables (variable_number x c.block v) there true (access.writes v e)) in
      let d : Config = record c { own = counted s.point c.own } in
      let itself = variable_more w.store (sight x d) (more cell) v (words.added cell added) in
      let sum = sum_more c s.point l (NamedVariable v) e rest w.store at (first_is e []) (own_variable c.block v e) only words (more cell) own.0 itself in
      counted_alike c w s rest l is layer words
      (value_alike Added more (more cell) (expr_value e (sight x d)) (expr_value e (sight x (with_world w d))) d w
      (λ u g. where_fits u (variable_width x c.block v) g (λ g. goes rest (sets_cell cell u g))) (expr_word e (sight x d)) sum words
      (λ u z loads others low is. cell_alike Added more cell u z (variable_width x c.block v) loads others d w
      (goes rest) own.1 low is added words (λ g z words. record { same = refl; words = words })))
    where
      adds_so : (b v : ℕ) (e : Expr) → AddsTo x b (variable_number x b v) (stmt.SetVariable v e)
          → IsAdditionTo (NamedVariable v) e × (variable_width x b v ≡ 32)
      adds_so b v e (adds w f numbered addition width) = (addition, width)

  -- where it sets a listed field
  pub field_alike : (c : Config) (w : World) (s : Stmt) (rest : List Item) (file field pointer : ℕ) (e : Expr)
      → next_counted c.todo ≡ Do s ∷ rest → out-StmtKind s.kind ≡ stmt.SetField file field pointer e
      → StandsAs x c.block s.point (stmt.SetField file field pointer e) rest
      → OnlyAdds c.block s.point (stmt.SetField file field pointer e)
      → Contains d.fields (field_number x file field)
      → DiffersBy Added more c.world.store w.store → RunsAlike Added more (step x c) (step x (with_world w c))
  unfolding files_of
  field_alike c w s rest file field pointer e is layer at only there words =
      let l = stmt.SetField file field pointer e in
      let f = deed_fits_in x kept c.block s.point l rest at in
      let q = f.fits.names.0.placed in
      let found : IsFileAt x file q = f.fits.names.0.there in
      let lt = f.fits.names.0.within in
      let k = only.knows pointer (temp_within x c.block pointer f.block f.there f.fits.names.1) in
      let own = adds_so file field pointer e q found
      (only.fields (field_number x file field) there true k.0
      (access.writes_field file field pointer e k.0
      (plain (field_number x file field) there file field
      (record { placed = q; there = found; within = lt; numbered = refl })) k.1)) in
      let e_own : Config = record c { own = counted s.point c.own } in
      let number = slice_index c.temps pointer in
      let cell = field_cell q number field in
      let added = λ (sound : pointer_fault c.own.chain file q number ≡ None). field_is_added x d file number field q
      found (pointer_within c.own.chain file q number sound) lt there in
      let itself = field_more w.store (sight x e_own) (more cell) file field pointer q found (λ sound. words.added cell (added sound)) in
      let sum = sum_more c s.point l (NamedField file field pointer) e rest w.store at (first_is e [])
      (own_field c.block file field pointer e q found lt) only words (more cell) own.0 itself in
      counted_alike c w s rest l is layer words
      (value_alike Added more (more cell) (expr_value e (sight x e_own)) (expr_value e (sight x (with_world w e_own))) e_own w
      (λ u g. at_record (slice_get (files_of x) file) file (slice_index g.temps pointer) (goes rest g)
      (sets_field (slice_index g.temps pointer) field u)) (expr_word e (sight x e_own)) sum words
      (λ u z loads others low more_by.
      subst (λ o. RunsAlike Added more (at_record o file number
      (goes rest (record e_own { world = seen loads e_own.world })) (sets_field number field u))
      (at_record o file number (goes rest (record e_own { world = seen others w })) (sets_field number field z)))
      (sym found)
      (sets_alike q file number field e_own w rest u z loads others own.1 low more_by added words (pointer_fault c.own.chain file q number) refl)))
    where
      adds_so : (file field pointer : ℕ) (e : Expr) (q : Placed) → IsFileAt x file q
          → AddsToField x (field_number x file field) (stmt.SetField file field pointer e)
          → IsAdditionTo (NamedField file field pointer) e × (field_width q field ≡ 32)
      adds_so file field pointer e q found (adds_field f g at u placed numbered there addition width) = (
        addition,
        ap
            (λ (r : Placed). field_width r field) (same_Some q placed (sym found ∙ there)) ∙ width,
      )

      sets_alike : (q : Placed) (file number field : ℕ) (c : Config) (w : World) (rest : List Item) (u v : ℕ)
          (loads others : List Touch) → field_width q field ≡ 32 → u < 2 ^ 32
          → v ≡ (u + more (field_cell q number field)) % 2 ^ 32
          → (pointer_fault c.own.chain file q number ≡ None → Added (field_cell q number field))
          → DiffersBy Added more c.world.store w.store → (o : Option Fault)
          → pointer_fault c.own.chain file q number ≡ o
          → RunsAlike Added more (unless_fault o (goes rest (record c { world = seen loads c.world }))
          (sets_field number field u q)) (unless_fault o (goes rest (record c { world = seen others w }))
          (sets_field number field v q))
      sets_alike q file number field c w rest u v loads others all low is added words None sound =
          cell_alike Added more (field_cell q number field) u v (field_width q field) loads others (goes rest c) w
          (λ d. d) all low is (added sound) words (λ g z words. record { same = refl; words = words })
      sets_alike q file number field c w rest u v loads others all low is added words (Some f) sound = record { same = refl; words = words }
