-- Each meaning that a name has in a block is a place in one of the block's lists.
use Rattle.std.proofs.Common.{◌≡◌, ℕ, ◌+◌, ◌≤◌, suc, Bool, true, false, List, [], ◌∷◌, ◌++◌, length}
use Rattle.std.proofs.Common.{map, Option, Some, None, refl, sym, ◌∙◌, ap, subst, arith, slice_get}
use Rattle.std.specs.Prelude.{if◌then◌else◌}
use Rattle.std.specs.List.{AllByRecursion, cons_option, filter_map}
use Rattle.std.specs.Str.{bytes_eq}
use Rattle.std.proofs.lemmas.List.{length-map}
use Rattle.std.proofs.lemmas.Option.{same_Some}
use Rattle.first_fault.specs.First.{or_else, last_of}
use Rattle.plex_ast.specs.declared.block.Block.{Block as TreeBlock}
use Rattle.plex_ast.specs.declared.block.Decl.{Decl}
use Rattle.plex_ast.specs.declared.block.DeclKind.{DeclKind}
use Rattle.plex_ast.specs.declared.block.DeclKind.TheVariants as decls
use Rattle.plex_ast.specs.declared.block.Field.{Field as TreeField}
use Rattle.plex_ast.specs.declared.block.Item.{Item}
use Rattle.plex_ast.specs.declared.block.ItemKind.{ItemKind}
use Rattle.plex_ast.specs.declared.block.ItemKind.TheVariants as items
use Rattle.exchange_model.specs.declared.signal.SignalKind.{SignalKind}
use Rattle.exchange_model.specs.declared.block.Block.{Block}
use Rattle.exchange_model.specs.declared.block.Variable.{Variable as AVariable}
use Rattle.exchange_model.specs.declared.block.File.{File as AFile}
use Rattle.text_events.specs.declared.role.Meaning.{Meaning}
use Rattle.text_events.specs.Blocks.{variables_of, temporaries_of, files_of, labels_of}
use Rattle.text_events.specs.Blocks.{block_events}
use Rattle.text_events.specs.Named.{naming_of}
use Rattle.resolved_block.specs.declared.parts.First.{First}
use Rattle.resolved_block.specs.Blocks.{field_of, kind_variable, variable_in, kind_temporary}
use Rattle.resolved_block.specs.Blocks.{temporary_in, kind_files, files_from, kind_labels}
use Rattle.resolved_block.specs.Blocks.{labels_from, typed_of}
use Rattle.text_soundness.specs.Meanings.{Suits}
use Rattle.text_soundness.proofs.MeaningsSaid.{Said, meant_by, said_of, naming_said}
use Rattle.text_soundness.proofs.MeaningsBlocks.{fields_said, kind_said, decls_said, item_said}
use Rattle.text_soundness.proofs.MeaningsBlocks.{labels_said, block_said, block_adds}
use Rattle.plex_num.proofs.Lists.{all_append}

abbrev pub SaidSuits : Block → Said → Type 0
SaidSuits k s = Suits k s.meaning

-- where all that is said suits a block, the last that is said does
last_suits : (k : Block) (n : List ℕ) (saids : List Said) (m : Meaning) → AllByRecursion (SaidSuits k) saids → last_of (meant_by n) saids ≡ Some m → Suits k m
last_suits k n [] m all h = cc
last_suits k n (s ∷ rest) m all h = later (last_of (meant_by n) rest) refl h (λ e. last_suits k n rest m all.1 e)
  where
    here : (b : Bool) → Suits k s.meaning → (if b then Some s.meaning else None) ≡ Some m → Suits k m
    here true suits e = subst (Suits k) (same_Some s.meaning m e) suits
    here false suits e = cc

    later : (o : Option Meaning) → last_of (meant_by n) rest ≡ o → or_else o (meant_by n s) ≡ Some m
        → (last_of (meant_by n) rest ≡ Some m → Suits k m) → Suits k m
    later (Some x) is e more = more (is ∙ e)
    later None is e more = here (bytes_eq s.name n) all.0 e

-- fields

fields_suit : (k : Block) (f : ℕ) (file : AFile) (fields : List TreeField) (place : ℕ) → slice_get k.files f ≡ Some file
    → place + length fields ≤ length file.fields → AllByRecursion (SaidSuits k) (fields_said fields f place)
unfolding fields_said
fields_suit k f file [] place there within = tt
fields_suit k f file (d ∷ rest) place there within = ((file, there, omega arith), fields_suit k f file rest (place + 1) there (omega arith))

-- declarations: these variables, temporaries and files are the last of the block

pub record Ends (k : Block) (vs : List AVariable) (ts : List (List ℕ)) (fs : List AFile) (v t f : ℕ) : Type 0 where
  pub variables : v + length vs ≤ length k.variables
  pub temporaries : t + length ts ≤ length k.temporaries
  pub files : (i : ℕ) (file : AFile) → slice_get fs i ≡ Some file → slice_get k.files (f + i) ≡ Some file

kind_suits : (k : Block) (kind : DeclKind) (rest : List Decl) (v t f g : ℕ)
    → Ends k (cons_option (kind_variable kind) (filter_map variable_in rest))
    (cons_option (kind_temporary kind) (filter_map temporary_in rest)) (kind_files kind g (files_from rest)) v t f
    → ((w u e h : ℕ) → Ends k (filter_map variable_in rest) (filter_map temporary_in rest) (files_from rest h) w u e
    → AllByRecursion (SaidSuits k) (decls_said rest w u e))
    → AllByRecursion (SaidSuits k) (kind_said kind v t f ++ decls_said rest (v + variables_of kind) (t + temporaries_of kind) (f + files_of kind))
kind_suits k (decls.Variable n w i clear) rest v t f g ends more = (
  omega (arith, ends.variables),
  more (v + 1) (t + 0) (f + 0) g (record {
    variables = omega (arith, ends.variables);
    temporaries = omega (arith, ends.temporaries);
    files = λ j file there. let same : f + 0 + j ≡ f + j = omega arith in ap (slice_get k.files) same ∙ ends.files j file there;
  }),
)
kind_suits k (decls.Temporary n) rest v t f g ends more = (
  omega (arith, ends.temporaries),
  more (v + 0) (t + 1) (f + 0) g (record {
    variables = omega (arith, ends.variables);
    temporaries = omega (arith, ends.temporaries);
    files = λ j file there. let same : f + 0 + j ≡ f + j = omega arith in ap (slice_get k.files) same ∙ ends.files j file there;
  }),
)
kind_suits k (decls.File forlopp n size fields) rest v t f g ends more =
    let file : AFile = record { name = n.name; number = g; forlopp = forlopp; size = size.value; fields = map field_of fields } in
    let here : f + 0 ≡ f = omega arith in
    let there : slice_get k.files f ≡ Some file = ap (slice_get k.files) (sym here) ∙ ends.files 0 file refl in (
      (file, there, refl),
      all_append (SaidSuits k) (fields_said fields f 0) (decls_said rest (v + 0) (t + 0) (f + 1))
          (fields_suit k f file fields 0 there (omega (arith, length-map fields field_of)))
          (more (v + 0) (t + 0) (f + 1) (g + 1) (record {
            variables = omega (arith, ends.variables);
            temporaries = omega (arith, ends.temporaries);
            files = λ j other at. let same : f + 1 + j ≡ f + suc j = omega arith in ap (slice_get k.files) same ∙ ends.files (suc j) other at;
          })),
    )

pub decls_suit : (k : Block) (ds : List Decl) (v t f g : ℕ)
    → Ends k (filter_map variable_in ds) (filter_map temporary_in ds) (files_from ds g) v t f
    → AllByRecursion (SaidSuits k) (decls_said ds v t f)
unfolding decls_said files_from
decls_suit k [] v t f g ends = tt
decls_suit k (d ∷ rest) v t f g ends = kind_suits k d.kind rest v t f g ends (λ w u e h. decls_suit k rest w u e h)

-- labels

item_suits : (k : Block) (kind : ItemKind) (rest : List Item) (l place : ℕ)
    → l + length (kind_labels kind place (labels_from rest)) ≤ length k.labels
    → ((m at : ℕ) → m + length (labels_from rest at) ≤ length k.labels → AllByRecursion (SaidSuits k) (labels_said rest m))
    → AllByRecursion (SaidSuits k) (item_said kind l ++ labels_said rest (l + labels_of kind))
item_suits k (items.Label n) rest l place within more = (omega (arith, within), more (l + 1) place (omega (arith, within)))
item_suits k (items.Enter s ns) rest l place within more = more (l + 0) (place + 1) (omega (arith, within))
item_suits k (items.Stmt s) rest l place within more = more (l + 0) (place + 1) (omega (arith, within))

pub labels_suit : (k : Block) (xs : List Item) (l place : ℕ) → l + length (labels_from xs place) ≤ length k.labels
    → AllByRecursion (SaidSuits k) (labels_said xs l)
unfolding labels_said labels_from
labels_suit k [] l place within = tt
labels_suit k (x ∷ rest) l place within = item_suits k x.kind rest l place within (λ m at. labels_suit k rest m at)

-- the block

pub block_suits : (signals : List SignalKind) (blocks : List TreeBlock) (first : First) (b : TreeBlock)
    → AllByRecursion (SaidSuits (typed_of signals blocks first b).block) (block_said b)
unfolding typed_of
block_suits signals blocks first b =
    let k = (typed_of signals blocks first b).block in
    all_append (SaidSuits k) (decls_said b.decls 0 0 0) (labels_said b.items 0)
    (decls_suit k b.decls 0 0 0 first.file (record {
      variables = omega arith;
      temporaries = omega arith;
      files = λ i file there. let same : 0 + i ≡ i = omega arith in ap (slice_get k.files) same ∙ there;
    }))
    (labels_suit k b.items 0 0 (omega arith))

pub meanings_are_suited : (signals : List SignalKind) (blocks : List TreeBlock) (first : First) (b : TreeBlock)
    (n : List ℕ) (m : Meaning) → naming_of (block_events b) n ≡ Some m → Suits (typed_of signals blocks first b).block m
meanings_are_suited signals blocks first b n m h =
    let adds = block_adds b in
    let said : said_of (block_events b) ≡ block_said b = ap said_of adds.same ∙ adds.says in
    last_suits (typed_of signals blocks first b).block n (block_said b) m (block_suits signals blocks first b)
    (ap (last_of (meant_by n)) (sym said) ∙ sym (naming_said (block_events b) n) ∙ h)
