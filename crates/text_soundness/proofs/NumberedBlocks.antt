-- The statements of a block are numbered from the block's first point on, and those of all blocks
-- from 0 on.
use Rattle.std.proofs.Common.{◌≡◌, ℕ, ◌+◌, List, [], ◌∷◌, ◌++◌, refl, sym, ◌∙◌, ap, append_assoc}
use Rattle.plex_ast.specs.declared.block.Block.{Block as TreeBlock}
use Rattle.plex_ast.specs.declared.block.Item.{Item}
use Rattle.plex_ast.specs.declared.block.ItemKind.{ItemKind}
use Rattle.plex_ast.specs.declared.block.ItemKind.TheVariants as item
use Rattle.exchange_model.specs.declared.signal.SignalKind.{SignalKind}
use Rattle.exchange_model.specs.declared.stmt.Stmt.{Stmt as MStmt}
use Rattle.exchange_model.specs.declared.stmt.StmtKind.TheVariants as stmt
use Rattle.exchange_model.specs.Inside.{spots, inner_spots}
use Rattle.exchange_model.specs.PartCounts.{stmt_spots}
use Rattle.exchange_model.specs.Kept.{all_spots}
use Rattle.resolved_block.specs.Texts.{typed_from}
use Rattle.resolved_block.specs.declared.parts.First.{First}
use Rattle.resolved_block.specs.Expressions.{typed_temps}
use Rattle.resolved_block.specs.Names.{Env}
use Rattle.resolved_block.specs.Meant.{signal_of}
use Rattle.resolved_block.specs.Statements.{Made, typed_stmt}
use Rattle.resolved_block.specs.Blocks.{kind_made, items_made, body_of, env_of, typed_of}
use Rattle.text_soundness.proofs.Ranges.{Follows, follows_none, follows_first, follows_join}
use Rattle.text_soundness.proofs.NumberedStatements.{alone, stmt_follows}

pub spots_join : (xs ys : List MStmt) → spots (xs ++ ys) ≡ spots xs ++ spots ys
spots_join [] ys = refl
spots_join (x ∷ xs) ys = ap (λ r. stmt_spots x ++ r) (spots_join xs ys) ∙ sym (append_assoc (stmt_spots x) (spots xs) (spots ys))

-- what is made next is numbered
abbrev Goes : Made (List MStmt) → Type 0
Goes rest = (p : ℕ) → Follows (spots (rest p).0) p (rest p).1

kind_follows : (env : Env) (line : ℕ) (k : ItemKind) (rest : Made (List MStmt)) → Goes rest → Goes (kind_made env line k rest)
kind_follows env line (item.Label n) rest h p = h p
kind_follows env line (item.Enter s ns) rest h p =
    let made = stmt.Enter (signal_of env s) (typed_temps env ns) in
    let r = rest ((p + 1)) in
    follows_first (record { point = p; line = line }) (inner_spots made ++ spots r.0) r.1
    (follows_join (inner_spots made) (spots r.0) (p + 1) (p + 1) r.1 (alone made _ (p + 1) (p + 1) (stmt.outs-Enter _ _) refl refl) (h ((p + 1))))
kind_follows env line (item.Stmt s) rest h p =
    let m = typed_stmt env s p in
    let r = rest m.1 in
    follows_join (stmt_spots m.0) (spots r.0) p m.1 r.1 (stmt_follows env s p) (h m.1)

items_follow : (env : Env) (items : List Item) → Goes (items_made env items)
unfolding items_made
items_follow env [] p = follows_none p
items_follow env (i ∷ rest) p = kind_follows env i.line i.kind (items_made env rest) (items_follow env rest) p

-- the statements of a block, with the end of its text
pub body_follows : (env : Env) (first : First) (b : TreeBlock)
    → Follows (spots (body_of env first b)) first.point ((items_made env b.items (first.point)).1 + 1)
body_follows env first b =
    let made = items_made env b.items (first.point) in
    let last : MStmt = record { point = made.1; line = b.end_line; kind = stmt.Finish } in
    let one : Follows (inner_spots stmt.Finish) (made.1 + 1) (made.1 + 1) = alone stmt.Finish _ (made.1 + 1) (made.1 + 1) stmt.outs-Finish refl refl in
    rw (spots_join made.0 (last ∷ [])) (follows_join (spots made.0) (spots (last ∷ [])) first.point made.1 (made.1 + 1) (items_follow env b.items (first.point))
    (follows_join (stmt_spots last) [] made.1 (made.1 + 1) (made.1 + 1)
    (follows_first (record { point = made.1; line = b.end_line }) (inner_spots stmt.Finish) (made.1 + 1) one)
    (follows_none (made.1 + 1))))

pub block_follows : (signals : List SignalKind) (blocks : List TreeBlock) (first : First) (b : TreeBlock)
    → Follows (spots (typed_of signals blocks first b).block.body) first.point
    (typed_of signals blocks first b).next.point
unfolding typed_of
block_follows signals blocks first b = body_follows (env_of signals blocks first b) first b

-- all blocks, the first of which begins with these numbers
pub blocks_follow : (signals : List SignalKind) (blocks : List TreeBlock) (first : First) (list : List TreeBlock)
    → (q : ℕ) × Follows (all_spots (typed_from signals blocks first list)) first.point q
unfolding typed_from
blocks_follow signals blocks first [] = (first.point, follows_none first.point)
blocks_follow signals blocks first (b ∷ rest) =
    let t = typed_of signals blocks first b in
    let more = blocks_follow signals blocks t.next rest in (
      more.0,
      follows_join (spots t.block.body) (all_spots (typed_from signals blocks t.next rest)) first.point
          t.next.point more.0 (block_follows signals blocks first b) more.1,
    )
