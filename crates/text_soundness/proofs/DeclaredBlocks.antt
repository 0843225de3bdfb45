-- The declarations and the survey of a block that breaks no rule.
use Rattle.std.proofs.Common.{◌≡◌, ℕ, ◌+◌, ◌≤◌, false, not, List, [], ◌∷◌, length, map, Option}
use Rattle.std.proofs.Common.{Some, None, arith, slice_get}
use Rattle.std.specs.List.{AllByRecursion, cons_option, filter_map}
use Rattle.std.specs.Option.{unwrap_or}
use Rattle.std.proofs.lemmas.Bool.{eqb-false}
use Rattle.plex_ast.specs.declared.block.Block.{Block as TreeBlock}
use Rattle.plex_ast.specs.declared.block.Decl.{Decl}
use Rattle.plex_ast.specs.declared.block.DeclKind.{DeclKind}
use Rattle.plex_ast.specs.declared.block.DeclKind.TheVariants as decls
use Rattle.plex_ast.specs.declared.block.Survey.{Survey}
use Rattle.plex_ast.specs.declared.block.SurveyKind.{SurveyKind}
use Rattle.plex_ast.specs.declared.block.SurveyKind.TheVariants as surveys
use Rattle.exchange_model.specs.declared.signal.SignalKind.{SignalKind}
use Rattle.exchange_model.specs.declared.signal.SignalKind.TheVariants.{Buffered, Direct, Combined}
use Rattle.exchange_model.specs.declared.signal.SignalKind.TheVariants.{Answer, Outside}
use Rattle.exchange_model.specs.declared.block.Variable.{Variable as AVariable}
use Rattle.exchange_model.specs.declared.block.File.{File as AFile}
use Rattle.exchange_model.specs.Kept.{VariableFits, FileFits, CanBeSent}
use Rattle.signal_types.specs.Found.{number_in, kind_at}
use Rattle.text_events.specs.Note.{Event}
use Rattle.text_events.specs.declared.role.Meaning.TheVariants as meaning
use Rattle.text_events.specs.Note as note
use Rattle.text_events.specs.declared.role.Role.TheVariants as role
use Rattle.text_events.specs.Walk.{add, in_turn}
use Rattle.text_events.specs.Blocks.{variables_of, temporaries_of, files_of, cells_of, decl_walk}
use Rattle.text_events.specs.Blocks.{decls_walk, survey_walk, survey_walk_at, block_head}
use Rattle.text_events.specs.Blocks.{block_body}
use Rattle.text_rules.specs.Blocks.{stands}
use Rattle.text_soundness.specs.Fine.{IsFineBlock}
use Rattle.resolved_block.specs.Names.{Env}
use Rattle.resolved_block.specs.Blocks.{kind_variable, variable_in, kind_temporary, temporary_in}
use Rattle.resolved_block.specs.Blocks.{kind_files, files_from, kind_sent, sent_in}
use Rattle.text_soundness.proofs.MeaningsBlocks.{decls_said, decls_add, surveys_quiet, labels_said}
use Rattle.text_soundness.proofs.MeaningsBlocks.{items_add}
use Rattle.text_soundness.proofs.DeclaredRights.{AllRight, all_right, at_add, before_add}
use Rattle.text_soundness.proofs.DeclaredRights.{before_adds, variable_fits, fields_fit, size_kept}

-- declarations, after so many temporaries
pub record DeclsFit (vs : List AVariable) (ts : List (List ℕ)) (fs : List AFile) (t : ℕ) : Type 0 where
  pub variables : AllByRecursion VariableFits vs
  pub temporaries : t + length ts ≤ 24
  pub files : AllByRecursion FileFits fs

kind_fits : (kind : DeclKind) (rest : List Decl) (v t f g : ℕ) (signals : List SignalKind) (out : List Event) → t ≤ 24
    → AllRight signals (decl_walk kind v t f out)
    → ((h : ℕ) → t + temporaries_of kind ≤ 24 → DeclsFit (filter_map variable_in rest) (filter_map temporary_in rest)
    (files_from rest h) (t + temporaries_of kind))
    → DeclsFit (cons_option (kind_variable kind) (filter_map variable_in rest))
    (cons_option (kind_temporary kind) (filter_map temporary_in rest)) (kind_files kind g (files_from rest)) t
kind_fits (decls.Variable n w i clear) rest v t f g signals out few right more =
    let r = more g (omega (arith, few)) in
    record {
      variables = (variable_fits n i w clear signals (add n.line (note.Declares n.name (meaning.Variable v)) out) right, r.variables);
      temporaries = omega (arith, r.temporaries);
      files = r.files;
    }
kind_fits (decls.Temporary n) rest v t f g signals out few right more =
    let here = at_add signals n.line (note.Declares n.name (meaning.Temporary t)) out right in
    let r = more g (another t few (eqb-false t 24 here.temporaries)) in
    record { variables = r.variables; temporaries = omega (arith, r.temporaries); files = r.files }
  where
    another : (t : ℕ) → t ≤ 24 → (t ≡ 24 → ⊥) → t + 1 ≤ 24
    another t few other = omega (arith, few, other)
kind_fits (decls.File forlopp n size fields) rest v t f g signals out few right more =
    let r = more (g + 1) (omega (arith, few)) in
    let named = add n.line (note.Declares n.name (meaning.File f forlopp)) out in
    let walked = fields_fit fields f 0 signals (add size.line (note.Size size.value) named) right in
    let sized = size_kept size.value (at_add signals size.line (note.Size size.value) named walked.before).size in
    record {
      variables = r.variables;
      temporaries = omega (arith, r.temporaries);
      files = (record { some = sized.0; few = sized.1; fields = walked.fits }, r.files);
    }

pub decls_fit : (ds : List Decl) (v t f g : ℕ) (signals : List SignalKind) (out : List Event) → t ≤ 24
    → AllRight signals (decls_walk ds v t f out)
    → DeclsFit (filter_map variable_in ds) (filter_map temporary_in ds) (files_from ds g) t
unfolding files_from
decls_fit [] v t f g signals out few right = record { variables = tt; temporaries = omega (arith, few); files = tt }
decls_fit (d ∷ rest) v t f g signals out few right =
    let counted = add d.line (note.Cells (cells_of d.kind)) out in
    let after = decl_walk d.kind v t f counted in
    let w = v + variables_of d.kind in
    let u = t + temporaries_of d.kind in
    let e = f + files_of d.kind in
    let before : AllRight signals after = before_adds signals after (decls_walk rest w u e after) (decls_said rest w u e) (decls_add rest w u e after) right in
    kind_fits d.kind rest v t f g signals counted few before (λ h more_few. decls_fit rest w u e h signals after more_few right)

-- the survey

can_be_sent : (o : Option SignalKind) → not (stands (role.Sent false) o) ≡ false → CanBeSent o
can_be_sent None h = cc
can_be_sent (Some (Buffered name level count)) h = tt
can_be_sent (Some (Direct name count)) h = tt
can_be_sent (Some (Combined name count answer)) h = tt
can_be_sent (Some (Answer name count combined)) h = cc
can_be_sent (Some (Outside name count)) h = tt

number_sent : (signals : List SignalKind) (o : Option ℕ) → not (stands (role.Sent false) (kind_at signals o)) ≡ false
    → CanBeSent (slice_get signals (unwrap_or o 0))
number_sent signals None h = cc
number_sent signals (Some i) h = can_be_sent (slice_get signals i) h

abbrev pub IsSent : List SignalKind → ℕ → Type 0
IsSent signals n = CanBeSent (slice_get signals n)

survey_sent : (env : Env) (line : ℕ) (kind : SurveyKind) (out : List Event) (rest : List ℕ)
    → AllRight env.signals (survey_walk_at kind line out) → AllByRecursion (IsSent env.signals) rest
    → AllByRecursion (IsSent env.signals) (cons_option (kind_sent env kind) rest)
survey_sent env line (surveys.Receive s) out rest right more = more
survey_sent env line (surveys.Send s) out rest right more =
    (number_sent env.signals (number_in env.signals s.name) (at_add env.signals s.line (note.Names s.name (role.Sent false)) out right).kind, more)

pub surveys_sent : (env : Env) (ss : List Survey) (out : List Event)
    → AllRight env.signals (in_turn (map survey_walk ss) out)
    → AllByRecursion (IsSent env.signals) (filter_map (sent_in env) ss)
surveys_sent env [] out right = tt
surveys_sent env (s ∷ rest) out right =
    let after = survey_walk s out in
    let before : AllRight env.signals after = before_adds env.signals after (in_turn (map survey_walk rest) after) [] (surveys_quiet rest after) right in
    survey_sent env s.line s.kind out (filter_map (sent_in env) rest) before (surveys_sent env rest after right)

-- the block

pub record BlockRight (signals : List SignalKind) (b : TreeBlock) : Type 0 where
  pub decls : AllRight signals (decls_walk b.decls 0 0 0 (block_head b))
  pub surveys : AllRight signals (in_turn (map survey_walk b.surveys) (decls_walk b.decls 0 0 0 (block_head b)))

pub block_right : (signals : List SignalKind) (blocks : List TreeBlock) (b : TreeBlock) → IsFineBlock signals blocks b → BlockRight signals b
block_right signals blocks b fine =
    let declared = decls_walk b.decls 0 0 0 (block_head b) in
    let surveyed = in_turn (map survey_walk b.surveys) declared in
    let right_surveyed : AllRight signals surveyed = before_adds signals surveyed (block_body b) (labels_said b.items 0)
    (items_add b.items 0 note.Nothing surveyed)
    (before_add signals b.end_line note.Ends (block_body b) (all_right signals blocks b fine)) in
    record {
      decls = before_adds signals declared surveyed [] (surveys_quiet b.surveys declared) right_surveyed;
      surveys = right_surveyed;
    }
