-- The choices in the items of a block, in its body, and in all blocks of a text.
use Rattle.std.proofs.Common.{◌≡◌, ℕ, ◌+◌, true, List, [], ◌∷◌, ◌++◌, map, arith}
use Rattle.token_grammar.specs.Language.{◌·◌, on, each}
use Rattle.plex_ast.specs.declared.block.Block.{Block}
use Rattle.plex_ast.specs.declared.block.Item.{Item}
use Rattle.plex_ast.specs.declared.block.ItemKind.{ItemKind}
use Rattle.plex_ast.specs.declared.block.ItemKind.TheVariants as items
use Rattle.plex_ast.specs.declared.tree.Tree.{Tree}
use Rattle.plex_ast.specs.Grammar.{body, item_at, item, block, tree}
use Rattle.exchange_model.specs.declared.block.Block.{Block as MBlock}
use Rattle.exchange_model.specs.declared.signal.SignalKind.{SignalKind}
use Rattle.exchange_model.specs.declared.stmt.Stmt.{Stmt as MStmt}
use Rattle.exchange_model.specs.declared.stmt.StmtKind.TheVariants as stmt
use Rattle.exchange_model.specs.Inside.{total, inner_whens, when_count}
use Rattle.signal_types.specs.Signals.{signals_of}
use Rattle.resolved_block.specs.declared.parts.First.{First}
use Rattle.resolved_block.specs.Names.{Env}
use Rattle.resolved_block.specs.Statements.{typed_stmt}
use Rattle.resolved_block.specs.Blocks.{kind_made, items_made, ended, env_of, typed_of}
use Rattle.resolved_block.specs.Texts.{none_before, typed_from, exchange_of, exchange_of_tree}
use Rattle.resolved_block.specs.Texts.{choices_in}
use Rattle.text_soundness.proofs.SpelledChoices.{AtLeast, least_none, least_then, least_after}
use Rattle.text_soundness.proofs.SpelledChoices.{least_before, least_on, least_same, layer_whens}
use Rattle.text_soundness.proofs.SpelledChoices.{stmt_least, body_least}

module _ (env : Env) (b n : ℕ) where
  pub items_least : (xs : List Item) (p : ℕ) → AtLeast (when_count (items_made env xs p).0) (each (item true b n) xs)
  unfolding items_made
  items_least [] p = least_none
  items_least (x ∷ xs) p = here x.kind (items_least xs)
    where
      here : (kind : ItemKind) → ((q : ℕ) → AtLeast (when_count (items_made env xs q).0) (each (item true b n) xs))
          → AtLeast (when_count (kind_made env x.line kind (items_made env xs) p).0)
          (on true x.line (item_at true b n kind) · each (item true b n) xs)
      here (items.Label l) rest = least_after (rest p)
      here (items.Enter s ns) rest = least_same (none_more _ _ (layer_whens _ _ (stmt.outs-Enter _ _))) (least_after (rest ((p + 1))))
        where
          none_more : (m k : ℕ) → m ≡ 0 → m + k ≡ k
          none_more m k h = omega arith
      here (items.Stmt s) rest = least_then (least_on (stmt_least env b (body true b n) (body_least env b n) s p)) (rest (typed_stmt env s p).1)

count_append : (xs ys : List MStmt) → when_count (xs ++ ys) ≡ when_count xs + when_count ys
count_append [] ys = omega arith
count_append (x ∷ xs) ys = let more = count_append xs ys in omega arith

ended_count : (line : ℕ) (made : List MStmt × ℕ) → when_count (ended line made) ≡ when_count made.0
ended_count line made =
    let finish : MStmt = record { point = made.1; line = line; kind = stmt.Finish } in
    let both = count_append made.0 (finish ∷ []) in
    let none : inner_whens stmt.Finish ≡ 0 = layer_whens _ _ stmt.outs-Finish in
    omega arith

module _ (signals : List SignalKind) (among : List Block) where
  block_least : (first : First) (k : Block) → AtLeast (when_count (typed_of signals among first k).block.body) (block true 6 12 k)
  unfolding typed_of
  block_least first k =
      let env = env_of signals among first k in
      least_same (ended_count k.end_line (items_made env k.items (first.point)))
      (least_on (least_after (least_after (least_after
      (least_after (least_after (least_after
      (least_after (least_after (least_after
      (least_after (least_after (least_before (items_least env 6 12 k.items (first.point)))))))))))))))

  blocks_least : (ks : List Block) (first : First)
      → AtLeast (total (map (λ (k : MBlock). when_count k.body) (typed_from signals among first ks)))
      (each (block true 6 12) ks)
  unfolding typed_from
  blocks_least [] first = least_none
  blocks_least (k ∷ ks) first = least_then (block_least first k) (blocks_least ks (typed_of signals among first k).next)

pub tree_least : (t : Tree) → AtLeast (choices_in (exchange_of_tree t)) (tree true 6 12 t)
unfolding exchange_of
tree_least t = least_on (least_after (blocks_least (signals_of t) t.blocks t.blocks none_before))
