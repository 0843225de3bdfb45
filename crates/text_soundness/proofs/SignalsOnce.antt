-- Where a text says no name of signals and no name of blocks twice, these names are distinct.
use Rattle.std.proofs.Common.{◌≡◌, ℕ, suc, ◌+◌, ◌≤◌, Bool, false, ◌||◌, List, [], ◌∷◌, ◌++◌, length}
use Rattle.std.proofs.Common.{map, take, Option, Some, None, slice_get, nat_lt, refl, sym, ◌∙◌, ap}
use Rattle.std.proofs.Common.{subst, arith, filter_map, flat_map, append-nil, append_assoc}
use Rattle.std.proofs.Common.{length-append}
use Rattle.std.specs.Str.{bytes_eq}
use Rattle.std.specs.List.{AllByRecursion, IsDistinct, cons_option}
use Rattle.std.proofs.lemmas.List.{map-append}
use Rattle.std.proofs.lemmas.List.Elements.{filter_map-append}
use Rattle.std.proofs.lemmas.Option.{same_Some}
use Rattle.first_fault.specs.First.{any, total, IsFine, breaks_at}
use Rattle.text_rules.specs.Links.{signals_note}
use Rattle.exchange_model.specs.Inside.{joined}
use Rattle.exchange_model.specs.Kept.{signal_name, signal_count}
use Rattle.plex_ast.specs.declared.block.Block.{Block}
use Rattle.plex_ast.specs.declared.tree.ShapeKind.{ShapeKind}
use Rattle.plex_ast.specs.declared.tree.ShapeKind.TheVariants as shape
use Rattle.plex_ast.specs.declared.tree.Signal.{Signal}
use Rattle.plex_ast.specs.declared.tree.Tree.{Tree}
use Rattle.text_events.specs.Note.{Event, Note}
use Rattle.text_events.specs.Note as note
use Rattle.text_events.specs.Walk.{in_turn}
use Rattle.text_events.specs.Blocks.{block_events, block_head}
use Rattle.text_events.specs.Texts.{shape_walk, signal_walk, signals_made, signal_events}
use Rattle.text_events.specs.Texts.{text_events}
use Rattle.text_rules.specs.declared.rule.SignalRule.TheVariants.{Once, FewValues}
use Rattle.text_rules.specs.Signals.{KnownNames, known_of, known_in_part, twice, many_values}
use Rattle.text_rules.specs.Signals.{signal_note, names_signal, names_block, number_of}
use Rattle.text_rules.specs.Texts.{line_of}
use Rattle.signal_types.specs.Signals.{kinds_of, shape_kinds, signals_from, signals_of}
use Rattle.text_soundness.proofs.BuiltText.{total_append}
use Rattle.text_soundness.proofs.Choices.{any_append, any_front}
use Rattle.text_soundness.proofs.MeaningsBlocks.{block_begins}
use Rattle.text_soundness.proofs.FineParts.{FineParts, signal_broken, fine_event}

-- what each event gives, where it gives something

all_picked : {E X : Type 0} (P : X → Type 0) (picks : E → Option X) (list : List E)
    → ((place : ℕ) (e : E) (x : X) → slice_get list place ≡ Some e → picks e ≡ Some x → P x)
    → AllByRecursion P (filter_map picks list)
all_picked P picks [] h = tt
all_picked P picks (e ∷ rest) h = here (picks e) refl (all_picked P picks rest (λ place d x at is. h (suc place) d x at is))
  where
    here : (o : Option _) → picks e ≡ o → AllByRecursion P (filter_map picks rest) → AllByRecursion P (cons_option o (filter_map picks rest))
    here None is more = more
    here (Some x) is more = (h 0 e x refl is, more)

-- an event gives this name
abbrev gives : Option (List ℕ) → List ℕ → Bool
gives None n = false
gives (Some m) n = bytes_eq m n

neither : (a b : Bool) → (a || b) ≡ false → b ≡ false
neither a b h = grind arith

neither_first : (a b : Bool) → (a || b) ≡ false → a ≡ false
neither_first a b h = grind arith

all_distinct : {E : Type 0} (picks : E → Option (List ℕ)) (list : List E)
    → ((place : ℕ) (e : E) (n : List ℕ) → slice_get list place ≡ Some e → picks e ≡ Some n
    → any (λ d. gives (picks d) n) (take place list) ≡ false) → IsDistinct bytes_eq (filter_map picks list)
unfolding IsDistinct
all_distinct picks [] h = tt
all_distinct picks (e ∷ rest) h =
    here (picks e) refl (all_distinct picks rest
    (λ place d n at is. neither (gives (picks e) n) (any (λ d. gives (picks d) n) (take place rest))
    (h (suc place) d n at is)))
  where
    here : (o : Option (List ℕ)) → picks e ≡ o → IsDistinct bytes_eq (filter_map picks rest) → IsDistinct bytes_eq (cons_option o (filter_map picks rest))
    here None is more = more
    here (Some m) is more = (
      all_picked (λ n. bytes_eq m n ≡ false) picks rest (λ place d n at given.
          let none : gives (picks e) n ≡ false = neither_first (gives (picks e) n)
          (any (λ d. gives (picks d) n) (take place rest)) (h (suc place) d n at given) in
          ap (λ o. gives o n) (sym is) ∙ none),
      more,
    )

pub none_of : (test : Event → Bool) (xs ys : List Event) → any test (xs ++ ys) ≡ false → (any test xs ≡ false) × (any test ys ≡ false)
none_of test xs ys h = let is : (any test xs || any test ys) ≡ false = sym (any_append test xs ys)
    ∙ h in (neither_first (any test xs) (any test ys) is, neither (any test xs) (any test ys) is)

-- the events of a signal after others

abbrev own_shape : ShapeKind → List Event
own_shape (shape.Buffered level values) = record { line = values.line; note = note.Carries values.value } ∷ []
own_shape (shape.Direct values) = record { line = values.line; note = note.Carries values.value } ∷ []
own_shape (shape.Combined values answer answer_values) =
    record { line = values.line; note = note.Carries values.value }
    ∷ record { line = answer.line; note = note.Signal answer.name }
    ∷ record { line = answer_values.line; note = note.Carries answer_values.value } ∷ []
own_shape (shape.Outside values) = record { line = values.line; note = note.Carries values.value } ∷ []

abbrev own_events : Signal → List Event
own_events s = record { line = s.line; note = note.Signals (signals_made s.shape.kind) }
    ∷ record { line = s.name.line; note = note.Signal s.name.name } ∷ own_shape s.shape.kind

shape_is : (k : ShapeKind) (out : List Event) → shape_walk k out ≡ out ++ own_shape k
shape_is (shape.Buffered level values) out = refl
shape_is (shape.Direct values) out = refl
shape_is (shape.Combined values answer answer_values) out = append_assoc (out ++ _ ∷ []) (_ ∷ []) (_ ∷ []) ∙ append_assoc out (_ ∷ []) (_ ∷ _ ∷ [])
shape_is (shape.Outside values) out = refl

signal_is : (s : Signal) (out : List Event) → signal_walk s out ≡ out ++ own_events s
signal_is s out =
    let first : Event = record { line = s.line; note = note.Signals (signals_made s.shape.kind) } in
    let named : Event = record { line = s.name.line; note = note.Signal s.name.name } in
    shape_is s.shape.kind ((out ++ first ∷ []) ++ named ∷ [])
    ∙ append_assoc (out ++ first ∷ []) (named ∷ []) (own_shape s.shape.kind)
    ∙ append_assoc out (first ∷ []) (named ∷ own_shape s.shape.kind)

signals_are : (list : List Signal) (out : List Event) → in_turn (map signal_walk list) out ≡ out ++ flat_map own_events list
signals_are [] out = sym (append-nil out)
signals_are (s ∷ rest) out =
    signals_are rest (signal_walk s out) ∙ ap (λ o. o ++ flat_map own_events rest) (signal_is s out)
    ∙ append_assoc out (own_events s) (flat_map own_events rest)

-- the names of signals, and the numbers of values

abbrev signal_in : Note → Option (List ℕ)
signal_in (note.Signal n) = Some n
signal_in _ = None

abbrev count_in : Note → Option ℕ
count_in (note.Carries count) = Some count
count_in _ = None

abbrev pick : {X : Type 0} → (Note → Option X) → Event → Option X
pick f e = f e.note

signal_given : (n : List ℕ) (e : Note) → gives (signal_in e) n ≡ signal_note n e
signal_given n (note.Signal m) = refl
signal_given n _ = refl

any_same : {E : Type 0} (f g : E → Bool) → ((e : E) → f e ≡ g e) → (list : List E) → any f list ≡ any g list
any_same f g h [] = refl
any_same f g h (e ∷ rest) = rw (h e, any_same f g h rest) refl

signal_twice : (k : KnownNames) (e : Note) (n : List ℕ) → signal_in e ≡ Some n → twice k e ≡ k.signal n
signal_twice k (note.Signal m) n is = ap k.signal (same_Some m n is)
signal_twice k _ n is = cc

count_many : (e : Note) (n : ℕ) → count_in e ≡ Some n → many_values e ≡ nat_lt 8 n
count_many (note.Carries count) n is = ap (nat_lt 8) (same_Some count n is)
count_many _ n is = cc

signals_fine : (t : Tree) → FineParts t → IsFine (breaks_at signal_broken known_of (signal_events t)) (signal_events t)
unfolding text_events
signals_fine t f = f.signals.each 0 (signal_events t) refl

few_values : (n : ℕ) → nat_lt 8 n ≡ false → n ≤ 8
few_values n h = grind arith

signals_once : (t : Tree) → FineParts t → IsDistinct bytes_eq (filter_map (pick signal_in) (signal_events t))
signals_once t f = all_distinct (pick signal_in) (signal_events t) (λ place e n at is.
    any_same (λ d. gives (signal_in d.note) n) (names_signal n) (λ d. signal_given n d.note) (take place (signal_events t))
    ∙ sym (signal_twice (known_of (take place (signal_events t))) e.note n is) ∙ (signals_fine t f).each place e Once at)

counts_few : (t : Tree) → FineParts t → AllByRecursion (λ n. n ≤ 8) (filter_map (pick count_in) (signal_events t))
counts_few t f = all_picked (λ n. n ≤ 8) (pick count_in) (signal_events t)
    (λ place e n at is. few_values n (sym (count_many e.note n is) ∙ (signals_fine t f).each place e FewValues at))

-- these are the names and the numbers of the signals

shape_names : (n : ℕ) (name : List ℕ) (s : ShapeKind) → name ∷ filter_map (pick signal_in) (own_shape s) ≡ map signal_name (shape_kinds n name s)
shape_names n name (shape.Buffered level values) = refl
shape_names n name (shape.Direct values) = refl
shape_names n name (shape.Combined values answer answer_values) = refl
shape_names n name (shape.Outside values) = refl

shape_counts : (n : ℕ) (name : List ℕ) (s : ShapeKind) → filter_map (pick count_in) (own_shape s) ≡ map signal_count (shape_kinds n name s)
shape_counts n name (shape.Buffered level values) = refl
shape_counts n name (shape.Direct values) = refl
shape_counts n name (shape.Combined values answer answer_values) = refl
shape_counts n name (shape.Outside values) = refl

all_names : (n : ℕ) (list : List Signal) → filter_map (pick signal_in) (flat_map own_events list) ≡ map signal_name (signals_from n list)
unfolding signals_from
all_names n [] = refl
all_names n (s ∷ rest) =
    let m = n + length (kinds_of n s) in
    filter_map-append (pick signal_in) (own_events s) (flat_map own_events rest)
    ∙ ap (λ r. r ++ filter_map (pick signal_in) (flat_map own_events rest)) (shape_names n s.name.name s.shape.kind)
    ∙ ap (λ r. map signal_name (kinds_of n s) ++ r) (all_names m rest) ∙ sym (map-append signal_name (kinds_of n s) (signals_from m rest))

all_counts : (n : ℕ) (list : List Signal) → filter_map (pick count_in) (flat_map own_events list) ≡ map signal_count (signals_from n list)
unfolding signals_from
all_counts n [] = refl
all_counts n (s ∷ rest) =
    let m = n + length (kinds_of n s) in
    filter_map-append (pick count_in) (own_events s) (flat_map own_events rest)
    ∙ ap (λ r. r ++ filter_map (pick count_in) (flat_map own_events rest)) (shape_counts n s.name.name s.shape.kind)
    ∙ ap (λ r. map signal_count (kinds_of n s) ++ r) (all_counts m rest) ∙ sym (map-append signal_count (kinds_of n s) (signals_from m rest))

pub names_distinct : (t : Tree) → FineParts t → IsDistinct bytes_eq (map signal_name (signals_of t))
names_distinct t f = subst (IsDistinct bytes_eq) (ap (filter_map (pick signal_in)) (signals_are t.signals []) ∙ all_names 0 t.signals) (signals_once t f)

pub counts_within : (t : Tree) → FineParts t → AllByRecursion (λ n. n ≤ 8) (map signal_count (signals_of t))
counts_within t f = subst (AllByRecursion (λ n. n ≤ 8)) (ap (filter_map (pick count_in)) (signals_are t.signals []) ∙ all_counts 0 t.signals) (counts_few t f)

-- how many signals there are

shape_total : (n : ℕ) (name : List ℕ) (s : ShapeKind) → total (λ (e : Event). signals_note e.note) (own_shape s) ≡ 0
shape_total n name (shape.Buffered level values) = refl
shape_total n name (shape.Direct values) = refl
shape_total n name (shape.Combined values answer answer_values) = refl
shape_total n name (shape.Outside values) = refl

shape_length : (n : ℕ) (name : List ℕ) (s : ShapeKind) → length (shape_kinds n name s) ≡ signals_made s
shape_length n name (shape.Buffered level values) = refl
shape_length n name (shape.Direct values) = refl
shape_length n name (shape.Combined values answer answer_values) = refl
shape_length n name (shape.Outside values) = refl

all_total : (n : ℕ) (list : List Signal) → total (λ (e : Event). signals_note e.note) (flat_map own_events list) ≡ length (signals_from n list)
unfolding signals_from
all_total n [] = refl
all_total n (s ∷ rest) =
    let m = n + length (kinds_of n s) in
    omega (
      arith,
      total_append (λ (e : Event). signals_note e.note) (own_events s) (flat_map own_events rest),
      shape_total n s.name.name s.shape.kind,
      shape_length n s.name.name s.shape.kind,
      all_total m rest,
      length-append
          (kinds_of n s) (signals_from m rest),
    )

pub signals_total : (t : Tree) → total (λ (e : Event). signals_note e.note) (signal_events t) ≡ length (signals_of t)
signals_total t = ap (total (λ (e : Event). signals_note e.note)) (signals_are t.signals []) ∙ all_total 0 t.signals

-- the names of blocks

-- a block that stands after these ones
abbrev IsAfter : List Block → List Block → Block → List Block → Type 0
IsAfter list pre b post = list ≡ pre ++ b ∷ post

each_apart : (m : List ℕ) (list : List Block) → ((pre post : List Block) (b : Block) → IsAfter list pre b post
    → bytes_eq m b.name.name ≡ false) → AllByRecursion (λ n. bytes_eq m n ≡ false)
    (map (λ (b : Block). b.name.name) list)
each_apart m [] h = tt
each_apart m (b ∷ rest) h = (h [] rest b refl, each_apart m rest (λ pre post c is. h (b ∷ pre) post c (ap (λ r. b ∷ r) is)))

named_in : (n : List ℕ) (b : Block) → any (names_block n) (block_events b) ≡ false → bytes_eq b.name.name n ≡ false
named_in n b h = neither_first (bytes_eq b.name.name n) false (any_front (names_block n) (block_head b) (block_events b) (block_begins b) h)

blocks_apart : (list : List Block) → ((pre post : List Block) (b : Block) → IsAfter list pre b post
    → any (names_block b.name.name) (joined (map block_events pre)) ≡ false)
    → IsDistinct bytes_eq (map (λ (b : Block). b.name.name) list)
unfolding IsDistinct
blocks_apart [] h = tt
blocks_apart (b ∷ rest) h = (
  each_apart b.name.name rest
      (λ pre post c is. named_in c.name.name b (both pre post c is).0),
  blocks_apart rest
      (λ pre post c is. (both pre post c is).1),
)
  where
    both : (pre post : List Block) (c : Block) → IsAfter rest pre c post
        → (any (names_block c.name.name) (block_events b) ≡ false)
        × (any (names_block c.name.name) (joined (map block_events pre)) ≡ false)
    both pre post c is = none_of (names_block c.name.name) (block_events b) (joined (map block_events pre)) (h (b ∷ pre) post c (ap (λ r. b ∷ r) is))

block_twice : (t : Tree) → FineParts t → (pre post : List Block) (b : Block) → IsAfter t.blocks pre b post
    → any (names_block b.name.name) (joined (map block_events pre)) ≡ false
unfolding text_events
block_twice t f pre post b is =
    let begun = block_begins b in
    let first : Event = record { line = b.line; note = note.Block } in
    let named : Event = record { line = b.name.line; note = note.BlockName b.name.name } in
    let before = map block_events pre in
    let parts : text_events t ≡ (signal_events t ∷ before)
    ++ block_events b ∷ map block_events post = ap (λ r. signal_events t ∷ r)
    (ap (map block_events) is ∙ map-append block_events pre (b ∷ post)) in
    let whole = fine_event signal_broken number_of line_of known_in_part (text_events t) f.signals
    (signal_events t ∷ before) (map block_events post) (block_events b) (first ∷ []) begun.more named Once parts
    begun.same in
    (none_of (names_block b.name.name) (signal_events t) (joined before)
    (none_of (names_block b.name.name) (joined (signal_events t ∷ before)) (first ∷ []) whole).0).1

pub blocks_distinct : (t : Tree) → FineParts t → IsDistinct bytes_eq (map (λ (b : Block). b.name.name) t.blocks)
blocks_distinct t f = blocks_apart t.blocks (block_twice t f)
