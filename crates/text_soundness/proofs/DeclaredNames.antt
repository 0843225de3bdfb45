-- Where no name is declared twice, the names of a block are distinct.
use Rattle.std.proofs.Common.{◌≡◌, ℕ, ◌+◌, ◌<◌, ◌≤◌, zero, suc, Bool, true, false, List, [], ◌∷◌}
use Rattle.std.proofs.Common.{◌++◌, length, map, take, get_or, Option, Some, None, refl, sym, ◌∙◌}
use Rattle.std.proofs.Common.{ap, subst, arith}
use Rattle.std.specs.Prelude.{if◌then◌else◌, is_some}
use Rattle.std.specs.List.{AllByRecursion, IsDistinct, cons_option, filter_map}
use Rattle.std.specs.Str.{bytes_eq}
use Rattle.std.proofs.lemmas.List.{take_more, take_all, append-nil}
use Rattle.std.proofs.lemmas.Option.{slice_get-get_or}
use Rattle.std.proofs.lemmas.Bool.{false_from_ne_true}
use Rattle.std.proofs.lemmas.Slice.Eq.{bytes_eq-Decides}
use Rattle.first_fault.specs.First.{count, last_of, or_else}
use Rattle.plex_ast.specs.declared.block.Block.{Block as TreeBlock}
use Rattle.plex_ast.specs.declared.block.Decl.{Decl}
use Rattle.plex_ast.specs.declared.block.DeclKind.{DeclKind}
use Rattle.plex_ast.specs.declared.block.DeclKind.TheVariants as decls
use Rattle.plex_ast.specs.declared.block.Field.{Field}
use Rattle.plex_ast.specs.declared.block.Item.{Item}
use Rattle.plex_ast.specs.declared.block.ItemKind.{ItemKind}
use Rattle.plex_ast.specs.declared.block.ItemKind.TheVariants as items
use Rattle.exchange_model.specs.declared.signal.SignalKind.{SignalKind}
use Rattle.exchange_model.specs.declared.block.File.{File as AFile}
use Rattle.exchange_model.specs.declared.block.Label.{Label as ALabel}
use Rattle.exchange_model.specs.Inside.{joined}
use Rattle.exchange_model.specs.Kept.{variable_names, block_names}
use Rattle.text_events.specs.Note.{Event}
use Rattle.text_events.specs.declared.role.Meaning.{Meaning}
use Rattle.text_events.specs.Note.{Note}
use Rattle.text_events.specs.Note as note
use Rattle.text_events.specs.Blocks.{variables_of, temporaries_of, files_of, labels_of}
use Rattle.text_events.specs.Blocks.{block_events}
use Rattle.text_events.specs.Named.{naming_of}
use Rattle.text_rules.specs.declared.rule.BlockRule.TheVariants as rule
use Rattle.text_rules.specs.Blocks.{declared_twice}
use Rattle.text_soundness.specs.Fine.{Text, known_of, IsFineText}
use Rattle.text_soundness.specs.Fine.{IsFineBlock, text_of}
use Rattle.resolved_block.specs.declared.parts.First.{First}
use Rattle.resolved_block.specs.Blocks.{field_of, kind_variable, variable_in, kind_temporary}
use Rattle.resolved_block.specs.Blocks.{temporary_in, kind_files, files_from, kind_labels}
use Rattle.resolved_block.specs.Blocks.{labels_from, typed_of}
use Rattle.text_soundness.proofs.MeaningsSaid.{Said, said_note, said_of, said_append, meant_by}
use Rattle.text_soundness.proofs.MeaningsSaid.{naming_said}
use Rattle.text_soundness.proofs.MeaningsBlocks.{fields_said, kind_said, decls_said, item_said}
use Rattle.text_soundness.proofs.MeaningsBlocks.{labels_said, block_said, block_adds}

-- how often a name stands in a list
abbrev pub times : List ℕ → List (List ℕ) → ℕ
times n xs = count (λ x. bytes_eq x n) xs

pub times_append : (n : List ℕ) (xs ys : List (List ℕ)) → times n (xs ++ ys) ≡ times n xs + times n ys
times_append n [] ys = omega arith
times_append n (x ∷ rest) ys = let h = times_append n rest ys in omega (arith, h)

abbrev pub names_said : List Said → List (List ℕ)
names_said saids = map (λ (s : Said). s.name) saids

pub names_append : (n : List ℕ) (xs ys : List Said) → times n (names_said (xs ++ ys)) ≡ times n (names_said xs) + times n (names_said ys)
names_append n [] ys = omega arith
names_append n (x ∷ rest) ys = let h = names_append n rest ys in omega (arith, h)

-- names that stand no more than once are distinct

never : (x : List ℕ) (ys : List (List ℕ)) → times x ys ≡ 0 → AllByRecursion (λ y. bytes_eq x y ≡ false) ys
never x [] h = tt
never x (y ∷ rest) h = (false_from_ne_true (bytes_eq x y) (other (bytes_eq y x) refl h), never x rest (rest_none (bytes_eq y x) h))
  where
    other : (b : Bool) → bytes_eq y x ≡ b → (if b then 1 else 0) + times x rest ≡ 0 → bytes_eq x y ≡ true → ⊥
    other true is e same = omega (arith, e)
    other false is e same =
        let back : bytes_eq y x ≡ true = (bytes_eq-Decides y x).1 (sym ((bytes_eq-Decides x y).0 same)) in
        cc

    rest_none : (b : Bool) → (if b then 1 else 0) + times x rest ≡ 0 → times x rest ≡ 0
    rest_none b e = omega (arith, e)

pub distinct_names : (xs : List (List ℕ)) → ((n : List ℕ) → times n xs ≤ 1) → IsDistinct bytes_eq xs
unfolding IsDistinct
distinct_names [] once = tt
distinct_names (x ∷ rest) once =
    let here : (if bytes_eq x x then 1 else 0) + times x rest ≤ 1 = once x in
    let own : bytes_eq x x ≡ true = (bytes_eq-Decides x x).1 refl in
    let none : times x rest ≡ 0 = alone (bytes_eq x x) (times x rest) own here in
    (never x rest none, distinct_names rest (λ n. let h : (if bytes_eq x n then 1 else 0) + times n rest ≤ 1 = once n in omega (arith, h)))
  where
    alone : (b : Bool) (t : ℕ) → b ≡ true → (if b then 1 else 0) + t ≤ 1 → t ≡ 0
    alone true t e h = omega (arith, h)
    alone false t e h = cc

-- each name is declared once

-- a name that stands for nothing is not declared
pub undeclared : (n : List ℕ) (saids : List Said) → last_of (meant_by n) saids ≡ None → times n (names_said saids) ≡ 0
undeclared n [] h = refl
undeclared n (s ∷ rest) h = later (last_of (meant_by n) rest) refl h (undeclared n rest)
  where
    here : (b : Bool) → times n (names_said rest) ≡ 0 → (if b then Some s.meaning else None) ≡ None → (if b then 1 else 0) + times n (names_said rest) ≡ 0
    here true none e = cc
    here false none e = omega (arith, none)

    later : (o : Option Meaning) → last_of (meant_by n) rest ≡ o → or_else o (meant_by n s) ≡ None
        → (last_of (meant_by n) rest ≡ None → times n (names_said rest) ≡ 0) → times n (names_said (s ∷ rest)) ≡ 0
    later (Some m) is e more = cc
    later None is e more = here (bytes_eq s.name n) (more is) e

one_more : (text : Text) (before : List Event) (n : List ℕ) (note : Note)
    → declared_twice (known_of text before) note ≡ false → times n (names_said (said_of before)) ≤ 1
    → times n (names_said (said_of before ++ cons_option (said_note note) [])) ≤ 1
one_more text before n (note.Declares m meaning) fine once =
    let more = names_append n (said_of before) (record { name = m; meaning = meaning } ∷ []) in
    let new : (if bytes_eq m n then 1 else 0) + times n (names_said (said_of before)) ≤ 1 = here (bytes_eq m n) refl once in
    omega (arith, more, new)
  where
    empty : (o : Option Meaning) → is_some o ≡ false → o ≡ None
    empty (Some x) e = cc
    empty None e = refl

    here : (b : Bool) → bytes_eq m n ≡ b → times n (names_said (said_of before)) ≤ 1 → (if b then 1 else 0) + times n (names_said (said_of before)) ≤ 1
    here true is h =
        let none : naming_of before m ≡ None = empty (naming_of before m) fine in
        let none_n : naming_of before n ≡ None = ap (naming_of before) (sym ((bytes_eq-Decides m n).0 is)) ∙ none in
        let zero_n = undeclared n (said_of before) (sym (naming_said before n) ∙ none_n) in
        omega (arith, zero_n)
    here false is h = omega (arith, h)
one_more text before n _ fine once = let same = append-nil (said_of before) in omega (arith, once, ap (λ s. times n (names_said s)) same)

pub once_below : (text : Text) → IsFineText text → (n : List ℕ) (i : ℕ) → i ≤ length text.whole → times n (names_said (said_of (take i text.whole))) ≤ 1
unfolding said_of
once_below text fine n zero low = omega arith
once_below text fine n (suc i) low =
    let none : Event = record { line = 0; note = note.Counts 0 } in
    let e : Event = get_or text.whole i none in
    let inside : i < length text.whole = omega arith in
    let before : times n (names_said (said_of (take i text.whole))) ≤ 1 = once_below text fine n i (omega arith) in
    let next : suc i ≡ i + 1 = omega arith in
    let taken : take (suc i) text.whole ≡ take i text.whole ++ e ∷ [] = ap (λ j. take j text.whole) next ∙ take_more text.whole i none inside in
    let said : said_of (take (suc i) text.whole) ≡ said_of (take i text.whole) ++ cons_option (said_note e.note) [] =
    ap said_of taken ∙ said_append (take i text.whole) (e ∷ []) in
    let not_twice : declared_twice (known_of text (take i text.whole)) e.note ≡ false =
    fine.each i e rule.DeclaredTwice (slice_get-get_or text.whole i none inside) in
    subst (λ s. times n (names_said s) ≤ 1) (sym said) (one_more text (take i text.whole) n e.note not_twice before)

-- the names of a block are those that its text declares

fields_times : (n : List ℕ) (fields : List Field) (file place : ℕ)
    → times n (names_said (fields_said fields file place)) ≡ times n (variable_names (map field_of fields))
unfolding fields_said
fields_times n [] file place = refl
fields_times n (d ∷ rest) file place = let h = fields_times n rest file (place + 1) in omega (arith, h)

abbrev file_names : List AFile → List (List ℕ)
file_names files = joined (map (λ (f : AFile). f.name ∷ variable_names f.fields) files)

kind_times : (n : List ℕ) (kind : DeclKind) (rest : List Decl) (v t f g : ℕ)
    → ((w u e h : ℕ) → times n (names_said (decls_said rest w u e))
    ≡ times n (variable_names (filter_map variable_in rest)) + times n (filter_map temporary_in rest)
    + times n (file_names (files_from rest h)))
    → times n (names_said (kind_said kind v t f
    ++ decls_said rest (v + variables_of kind) (t + temporaries_of kind) (f + files_of kind)))
    ≡ times n (variable_names (cons_option (kind_variable kind) (filter_map variable_in rest)))
    + times n (cons_option (kind_temporary kind) (filter_map temporary_in rest))
    + times n (file_names (kind_files kind g (files_from rest)))
kind_times n (decls.Variable m w i clear) rest v t f g more = let h = more (v + 1) (t + 0) (f + 0) g in omega (arith, h)
kind_times n (decls.Temporary m) rest v t f g more = let h = more (v + 0) (t + 1) (f + 0) g in omega (arith, h)
kind_times n (decls.File forlopp m size fields) rest v t f g more =
    let h = more (v + 0) (t + 0) (f + 1) (g + 1) in
    let said = names_append n (fields_said fields f 0) (decls_said rest (v + 0) (t + 0) (f + 1)) in
    let made = times_append n (variable_names (map field_of fields)) (file_names (files_from rest (g + 1))) in
    omega (arith, h, said, made, fields_times n fields f 0)

pub decls_times : (n : List ℕ) (ds : List Decl) (v t f g : ℕ)
    → times n (names_said (decls_said ds v t f)) ≡ times n (variable_names (filter_map variable_in ds))
    + times n (filter_map temporary_in ds) + times n (file_names (files_from ds g))
unfolding decls_said files_from
decls_times n [] v t f g = refl
decls_times n (d ∷ rest) v t f g = kind_times n d.kind rest v t f g (λ w u e h. decls_times n rest w u e h)

abbrev label_names : List ALabel → List (List ℕ)
label_names labels = map (λ (l : ALabel). l.name) labels

item_times : (n : List ℕ) (kind : ItemKind) (rest : List Item) (l place : ℕ)
    → ((m at : ℕ) → times n (names_said (labels_said rest m)) ≡ times n (label_names (labels_from rest at)))
    → times n (names_said (item_said kind l ++ labels_said rest (l + labels_of kind))) ≡ times n (label_names (kind_labels kind place (labels_from rest)))
item_times n (items.Label m) rest l place more = let h = more (l + 1) place in omega (arith, h)
item_times n (items.Enter s ns) rest l place more = more (l + 0) (place + 1)
item_times n (items.Stmt s) rest l place more = more (l + 0) (place + 1)

pub labels_times : (n : List ℕ) (xs : List Item) (l place : ℕ) → times n (names_said (labels_said xs l)) ≡ times n (label_names (labels_from xs place))
unfolding labels_said labels_from
labels_times n [] l place = refl
labels_times n (x ∷ rest) l place = item_times n x.kind rest l place (λ m at. labels_times n rest m at)

pub block_times : (signals : List SignalKind) (blocks : List TreeBlock) (first : First) (b : TreeBlock) (n : List ℕ)
    → times n (block_names (typed_of signals blocks first b).block) ≡ times n (names_said (block_said b))
unfolding typed_of
block_times signals blocks first b n =
    let vs = variable_names (filter_map variable_in b.decls) in
    let ts = filter_map temporary_in b.decls in
    let fs = file_names (files_from b.decls first.file) in
    let ls = label_names (labels_from b.items 0) in
    let said = names_append n (decls_said b.decls 0 0 0) (labels_said b.items 0) in
    omega (
      arith,
      times_append n vs (ts ++ (fs ++ ls)),
      times_append n ts (fs ++ ls),
      times_append n fs ls,
      said,
      decls_times n b.decls 0 0 0 first.file,
      labels_times n b.items 0 0,
    )

pub names_are_distinct : (signals : List SignalKind) (blocks : List TreeBlock) (first : First) (b : TreeBlock)
    → IsFineBlock signals blocks b → IsDistinct bytes_eq (block_names (typed_of signals blocks first b).block)
names_are_distinct signals blocks first b fine = distinct_names (block_names (typed_of signals blocks first b).block) (λ n.
    let whole = block_events b in
    let adds = block_adds b in
    let said : said_of whole ≡ block_said b = ap said_of adds.same ∙ adds.says in
    let all : take (length whole) whole ≡ whole = take_all (length whole) whole (omega arith) in
    let once = once_below (text_of signals blocks b) fine.fine n (length whole) (omega arith) in
    let once_said : times n (names_said (block_said b)) ≤ 1 = subst (λ s. times n (names_said s) ≤ 1) (ap said_of all ∙ said) once in
    let same = block_times signals blocks first b n in
    omega (arith, once_said, same))
