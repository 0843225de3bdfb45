use Rattle.std.proofs.Common.{◌∙◌, Err, sym, ap, subst}
use Rattle.plex_parser.specs.declared.parser.ParseFault.{ParseFault}
use Rattle.plex_parser.specs.Parses.{Parses, parsed, fault_of}
use Rattle.plex_parser.proofs.Parsed.{tree_spelled, tree_one, parsed_tree, fault_told, yields_none}
use Rattle.plex_parser.proofs.Parsed.{parsed_fault, answers_fault}
use Rattle.plex_parser.proofs.parser.parse.Goals as goal

pub returns-in-Ok-clause-told : goal.returns-in-Ok-clause-told
returns-in-Ok-clause-told c = tree_spelled c.args.tokens.now c.in-Ok.tree c.in-Ok.ensures

pub returns-in-Ok-clause-all : goal.returns-in-Ok-clause-all
returns-in-Ok-clause-all c = λ t h. tree_one c.args.tokens.now c.in-Ok.tree t c.in-Ok.ensures h

pub returns-in-Ok-clause-same : goal.returns-in-Ok-clause-same
returns-in-Ok-clause-same c = parsed_tree c.args.tokens.now c.in-Ok.tree c.in-Ok.ensures

pub returns-in-Err-Stuck-clause-told : goal.returns-in-Err-Stuck-clause-told
returns-in-Err-Stuck-clause-told c =
    subst (λ (f : ParseFault). Parses (Err f) c.args.tokens.now)
    (ap (λ n. fault_of n c.in-Err-Stuck.left c.in-Err-Stuck.deep) (sym c.len.ensures) ∙ sym c.fault_at.ensures)
    (fault_told c.args.tokens.now c.in-Err-Stuck.left c.in-Err-Stuck.deep
    (rw c.in-Err-Stuck.field-0-is at c.in-Err-Stuck.ensures))

pub returns-in-Err-Stuck-clause-all : goal.returns-in-Err-Stuck-clause-all
returns-in-Err-Stuck-clause-all c = λ t h. yields_none c.args.tokens.now c.fault_at.result
    (record { left = c.in-Err-Stuck.left; deep = c.in-Err-Stuck.deep }) t
    (rw c.in-Err-Stuck.field-0-is at c.in-Err-Stuck.ensures) h

pub returns-in-Err-Stuck-clause-same : goal.returns-in-Err-Stuck-clause-same
returns-in-Err-Stuck-clause-same c =
    answers_fault c.fault_at.result (parsed c.args.tokens.now)
    (parsed_fault c.args.tokens.now c.in-Err-Stuck.left c.in-Err-Stuck.deep
    (rw c.in-Err-Stuck.field-0-is at c.in-Err-Stuck.ensures)
    ∙ ap (λ (f : ParseFault). Err f) (ap (λ n. fault_of n c.in-Err-Stuck.left c.in-Err-Stuck.deep)
    (sym c.len.ensures) ∙ sym c.fault_at.ensures))
