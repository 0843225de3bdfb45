-- The body of a block that breaks no rule names what is there.
use Rattle.std.proofs.Common.{◌≡◌, List, map, sym, ◌∙◌, ap, subst}
use Rattle.exchange_model.specs.declared.signal.SignalKind.{SignalKind}
use Rattle.exchange_model.specs.declared.stmt.Stmt.{Stmt}
use Rattle.exchange_model.specs.declared.stmt.StmtKind.TheVariants as stmt
use Rattle.exchange_model.specs.Fits.{Scope}
use Rattle.plex_ast.specs.declared.block.Block.{Block}
use Rattle.kept_trees.specs.Keeps.{KeepsBlock}
use Rattle.text_events.specs.Walk.{in_turn}
use Rattle.text_events.specs.Blocks.{block_events, block_head, decls_walk, survey_walk}
use Rattle.text_soundness.proofs.ServedWalks.{AllSo, tells_then, tells_add}
use Rattle.text_events.specs.Note as note
use Rattle.text_soundness.specs.Fine.{IsFineBlock, text_of}
use Rattle.resolved_block.specs.declared.parts.First.{First}
use Rattle.resolved_block.specs.Blocks.{items_made, typed_of}
use Rattle.text_soundness.specs.Blocks.{IsNamed}
use Rattle.exchange_model.specs.Everywhere.{Everywhere, AllIn}
use Rattle.text_soundness.specs.Shares.{NamesStand}
use Rattle.text_soundness.proofs.ServedSaid.{said_whole}
use Rattle.text_soundness.proofs.NamedKinds.{Standing, made_fine, env, So}
use Rattle.text_soundness.proofs.NamedBodies.{items_tell}
use Rattle.plex_num.proofs.Lists.{all_append}

-- among the signals of the exchange and the blocks of the text
module _ (s : Scope) (blocks : List Block) (first : First) (b : Block) (fine : IsFineBlock s.signals blocks b)
    (kept : KeepsBlock 6 12 b) (st : Standing s first.file (block_events b) blocks b) where
  all_said : AllSo (So s first.file (block_events b) blocks b st) (block_events b)
  all_said = said_whole (text_of s.signals blocks b) b fine.before fine.fine fine.linked

  items_named : AllIn (NamesStand s) (items_made (env s first.file (block_events b) blocks b st) b.items first.point).0
  items_named = ((tells_then (So s first.file (block_events b) blocks b st) _ _ _ _
      (items_tell s first.file (block_events b) blocks b st 6 12 b.items kept.1.1.1 0 note.Nothing first.point)
      (tells_add (So s first.file (block_events b) blocks b st) b.end_line note.Ends)).sound
      (in_turn (map survey_walk b.surveys) (decls_walk b.decls 0 0 0 (block_head b))) all_said).1.0

  body_named : AllIn (NamesStand s) (typed_of s.signals blocks first b).block.body
  unfolding typed_of
  body_named = all_append (λ (one : Stmt). Everywhere (NamesStand s) one.kind)
      (items_made (env s first.file (block_events b) blocks b st) b.items first.point).0 _ items_named
      (made_fine s _ _ stmt.outs-Finish (record { names = tt; exprs = tt }) tt, tt)

pub block_is_named : (signals : List SignalKind) (blocks : List Block) (first : First) (b : Block) (s : Scope)
    → IsFineBlock signals blocks b → KeepsBlock 6 12 b → s.signals ≡ signals
    → s.block ≡ (typed_of signals blocks first b).block → Standing s first.file (block_events b) blocks b → IsNamed s
block_is_named signals blocks first b s fine kept same is st =
    let fine_here : IsFineBlock s.signals blocks b = subst (λ g. IsFineBlock g blocks b) (sym same) fine in
    let block_here : s.block ≡ (typed_of s.signals blocks first b).block = is ∙ ap (λ g. (typed_of g blocks first b).block) (sym same) in
    let named = body_named s blocks first b fine_here kept st in
    subst (AllIn (NamesStand s)) (sym (ap (λ k. k.body) block_here)) named
