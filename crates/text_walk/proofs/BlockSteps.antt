-- Steps of the loops over declarations and items.
use Rattle.std.proofs.Common.{◌≡◌, ℕ, ◌+◌, ◌<◌, ◌≤◌, List, length, drop, get_or, refl, sym, ◌∙◌, ap}
use Rattle.std.proofs.Common.{add-one, suc, zero, Option, [], ◌∷◌, ◌++◌, map, take, append_assoc}
use Rattle.std.proofs.Math.ListN.{drop_of_length-le}
use Rattle.std.proofs.lemmas.List.{get_or-map, map_more, take_all, append-nil}
use Rattle.plex_num.proofs.Lists.{opens}
use Rattle.token_grammar.specs.declared.named.Named.{Named}
use Rattle.plex_ast.specs.declared.stmt.Names.{Names}
use Rattle.plex_ast.specs.declared.stmt.Stmt.{Stmt}
use Rattle.plex_ast.specs.declared.block.Block.{Block}
use Rattle.plex_ast.specs.declared.block.ItemKind.TheVariants as items
use Rattle.plex_ast.specs.declared.tree.Tree.{Tree}
use Rattle.text_events.specs.declared.role.Meaning.TheVariants as meaning
use Rattle.plex_ast.specs.declared.block.Decl.{Decl}
use Rattle.plex_ast.specs.declared.block.Field.{Field}
use Rattle.plex_ast.specs.declared.block.Item.{Item}
use Rattle.text_events.specs.Note.{Event, Nothing}
use Rattle.text_events.specs.Note as note
use Rattle.text_events.specs.declared.role.Role.TheVariants as role
use Rattle.text_events.specs.Walk.{add, names_walk, kind_walk}
use Rattle.text_events.specs.Kept.{own_line, item_line_at}
use Rattle.text_events.specs.Seen.{head_at, head_before, begins_at, item_heads, item_walk_in}
use Rattle.text_events.specs.Texts.{text_events, signal_events}
use Rattle.text_events.specs.Blocks.{field_walk, fields_walk, variables_of, temporaries_of}
use Rattle.text_events.specs.Blocks.{files_of, cells_of, decl_walk, decls_walk, item_head_at}
use Rattle.text_events.specs.Blocks.{labels_of, item_walk_at, first_item, items_walk, block_events}
use Rattle.text_events.proofs.Layers.{stmt_walk-out}
use Rattle.text_events.proofs.There.{line_there}
use Rattle.text_events.proofs.Steps.{stmt_head}

pub record FieldsLeft (ds : List Field) (i file k : ℕ) (out old : List Event) : Type 0 where
  pub same : fields_walk (drop i ds) file k out ≡ fields_walk ds file 0 old

pub fields_begin : (ds : List Field) (file : ℕ) (out : List Event) → FieldsLeft ds 0 file 0 out out
fields_begin ds file out = record { same = refl }

pub fields_step : (ds : List Field) (i file k next : ℕ) (d : Field) (out new old : List Event) → i < length ds
    → d ≡ get_or ds i d → new ≡ field_walk d file k out → next ≡ k + 1 → FieldsLeft ds i file k out old
    → FieldsLeft ds (i + 1) file next new old
fields_step ds i file k next d out new old inside is more one w = record
    { same = rw (more, one) (ap (λ l. fields_walk l file k out) (sym (opens ds i d inside is)) ∙ w.same) }

pub fields_end : (ds : List Field) (i file k : ℕ) (out old : List Event) → length ds ≤ i → FieldsLeft ds i file k out old → out ≡ fields_walk ds file 0 old
fields_end ds i file k out old past w = ap (λ l. fields_walk l file k out) (sym (drop_of_length-le ds past)) ∙ w.same

pub record DeclsLeft (ds : List Decl) (i v t f : ℕ) (out old : List Event) : Type 0 where
  pub same : decls_walk (drop i ds) v t f out ≡ decls_walk ds 0 0 0 old

pub decls_begin : (ds : List Decl) (out : List Event) → DeclsLeft ds 0 0 0 0 out out
decls_begin ds out = record { same = refl }

pub decls_step : (ds : List Decl) (i v t f a b c va tb fc : ℕ) (d : Decl) (out mid new old : List Event) → i < length ds
    → d ≡ get_or ds i d → mid ≡ add d.line (note.Cells (cells_of d.kind)) out → new ≡ decl_walk d.kind v t f mid
    → a ≡ variables_of d.kind → va ≡ v + a → b ≡ temporaries_of d.kind → tb ≡ t + b → c ≡ files_of d.kind → fc ≡ f + c
    → DeclsLeft ds i v t f out old → DeclsLeft ds (i + 1) va tb fc new old
decls_step ds i v t f a b c va tb fc d out mid new old inside is m more ea eva eb etb ec efc w =
    record { same = rw (more, m, eva, etb, efc, ea, eb, ec) (ap (λ l. decls_walk l v t f out) (sym (opens ds i d inside is)) ∙ w.same) }

pub decls_end : (ds : List Decl) (i v t f : ℕ) (out old : List Event) → length ds ≤ i → DeclsLeft ds i v t f out old → out ≡ decls_walk ds 0 0 0 old
decls_end ds i v t f out old past w = ap (λ l. decls_walk l v t f out) (sym (drop_of_length-le ds past)) ∙ w.same

-- items

first_item_is : (xs : List Item) (j : ℕ) → first_item (drop j xs) ≡ get_or (item_heads xs) j Nothing
first_item_is [] zero = refl
first_item_is [] (suc j) = refl
first_item_is (x ∷ xs) zero = refl
first_item_is (x ∷ xs) (suc j) = first_item_is xs j

own_item : (xs : List Item) (i : ℕ) (x : Item) → i < length xs → x ≡ get_or xs i x → head_at (item_heads xs) i ≡ item_head_at x.kind
own_item xs i x inside is = get_or-map (λ (y : Item). item_head_at y.kind) xs i x Nothing inside ∙ ap (λ (y : Item). item_head_at y.kind) (sym is)

line_of_item : (xs : List Item) (i : ℕ) (x : Item) → i < length xs → x ≡ get_or xs i x → item_line_at xs i ≡ own_line x.kind x.line
line_of_item xs i x inside is = sym (line_there (λ (y : Item). own_line y.kind y.line) xs i x (own_line x.kind x.line) inside is refl)

pub label_in : (xs : List Item) (i label : ℕ) (x : Item) (n : Named) (out new : List Event) → x.kind ≡ items.Label n
    → new ≡ add n.line (note.Declares n.name (meaning.Label label)) out → new ≡ item_walk_in x xs i label out
label_in xs i label x n out new kind e = rw kind e

pub enter_in : (xs : List Item) (i label : ℕ) (x : Item) (s : Named) (ns : Option Names) (out one two new : List Event)
    → i < length xs → x ≡ get_or xs i x → x.kind ≡ items.Enter s ns
    → one ≡ add (item_line_at xs i) (begins_at (item_heads xs) i) out
    → two ≡ add s.line (note.Names s.name role.Received) one → new ≡ names_walk ns two
    → new ≡ item_walk_in x xs i label out
enter_in xs i label x s ns out one two new inside is kind a b c =
    let near : head_at (item_heads xs) i ≡ item_head_at (items.Enter s ns) = own_item xs i x inside is ∙ ap item_head_at kind in
    let on : item_line_at xs i ≡ x.line = line_of_item xs i x inside is ∙ ap (λ k. own_line k x.line) kind in
    rw kind (c ∙ ap (names_walk ns) (b ∙ ap (add s.line (note.Names s.name role.Received))
    (a ∙ ap (λ n. add n (begins_at (item_heads xs) i) out) on
    ∙ ap (λ h. add x.line (note.Begins h (head_before (item_heads xs) i) (head_at (item_heads xs) (suc i))) out)
    near)))

pub stmt_item_in : (xs : List Item) (i label : ℕ) (x : Item) (s : Stmt) (out mid new : List Event) → i < length xs
    → x ≡ get_or xs i x → x.kind ≡ items.Stmt s → mid ≡ add (item_line_at xs i) (begins_at (item_heads xs) i) out
    → new ≡ (kind_walk s.kind).walk (length out) mid → new ≡ item_walk_in x xs i label out
stmt_item_in xs i label x s out mid new inside is kind a b =
    let near : head_at (item_heads xs) i ≡ (kind_walk s.kind).head = own_item xs i x inside is ∙ ap item_head_at kind
    ∙ sym (stmt_head s) ∙ ap (λ w. w.head) (stmt_walk-out s) in
    let on : item_line_at xs i ≡ s.line = line_of_item xs i x inside is ∙ ap (λ k. own_line k x.line) kind in
    rw kind (b ∙ ap (λ l. (kind_walk s.kind).walk (length out) l)
    (a ∙ ap (λ n. add n (begins_at (item_heads xs) i) out) on
    ∙ ap (λ n. add s.line (note.Begins n (head_before (item_heads xs) i) (head_at (item_heads xs) (suc i))) out)
    near) ∙ sym (ap (λ w. w.walk (head_before (item_heads xs) i) (head_at (item_heads xs) (suc i)) out)
    (stmt_walk-out s)))

pub record ItemsLeft (xs : List Item) (i k : ℕ) (out old : List Event) : Type 0 where
  pub same : items_walk (drop i xs) k (head_before (item_heads xs) i) out ≡ items_walk xs 0 Nothing old

pub items_begin : (xs : List Item) (out : List Event) → ItemsLeft xs 0 0 out out
items_begin xs out = record { same = refl }

pub items_step : (xs : List Item) (i k l kl : ℕ) (x : Item) (out new old : List Event) → i < length xs
    → x ≡ get_or xs i x → new ≡ item_walk_in x xs i k out → l ≡ labels_of x.kind → kl ≡ k + l → ItemsLeft xs i k out old
    → ItemsLeft xs (i + 1) kl new old
items_step xs i k l kl x out new old inside is more labels sum w =
    let near : head_before (item_heads xs) (i + 1) ≡ item_head_at x.kind = ap (head_before (item_heads xs)) (add-one i) ∙ own_item xs i x inside is in
    let walked : new ≡ item_walk_at x.kind x.line k (head_before (item_heads xs) i) (first_item (drop (i + 1) xs)) out =
    more ∙ ap (λ h. item_walk_at x.kind x.line k (head_before (item_heads xs) i) h out)
    (sym (ap (λ j. first_item (drop j xs)) (add-one i) ∙ first_item_is xs (suc i))) in
    record { same = rw (near, walked, sum, labels) (ap (λ y. items_walk y k (head_before (item_heads xs) i) out) (sym (opens xs i x inside is)) ∙ w.same) }

pub items_end : (xs : List Item) (i k : ℕ) (out old : List Event) → length xs ≤ i → ItemsLeft xs i k out old → out ≡ items_walk xs 0 Nothing old
items_end xs i k out old past w = ap (λ l. items_walk l k (head_before (item_heads xs) i) out) (sym (drop_of_length-le xs past)) ∙ w.same

-- the parts of a text

pub record PartsMade (bs : List Block) (i : ℕ) (parts old : List (List Event)) : Type 0 where
  pub same : parts ≡ old ++ map block_events (take i bs)

pub parts_begin : (bs : List Block) (old : List (List Event)) → PartsMade bs 0 old old
parts_begin bs old = record { same = sym (append-nil old) }

pub parts_step : (bs : List Block) (i : ℕ) (b : Block) (own : List Event) (parts new old : List (List Event))
    → i < length bs → b ≡ get_or bs i b → own ≡ block_events b → new ≡ parts ++ own ∷ [] → PartsMade bs i parts old
    → PartsMade bs (i + 1) new old
parts_step bs i b own parts new old inside is made push p = record {
  same = push ∙ ap (λ l. parts ++ l ∷ []) (made ∙ ap block_events is)
      ∙ ap (λ l. l ++ block_events (get_or bs i b) ∷ []) p.same
      ∙ append_assoc old (map block_events (take i bs)) (block_events (get_or bs i b) ∷ [])
      ∙ ap (λ l. old ++ l) (sym (map_more block_events bs i b inside));
}

pub parts_end : (bs : List Block) (i : ℕ) (parts old : List (List Event)) → length bs ≤ i → PartsMade bs i parts old → parts ≡ old ++ map block_events bs
parts_end bs i parts old past p = p.same ∙ ap (λ l. old ++ map block_events l) (take_all i bs past)

pub text_is : (t : Tree) (own : List Event) (first parts : List (List Event)) → own ≡ signal_events t → first ≡ own ∷ []
    → parts ≡ first ++ map block_events t.blocks → parts ≡ text_events t
unfolding text_events
text_is t own first parts s f p = rw (p, f, s) refl
