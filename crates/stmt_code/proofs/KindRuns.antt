-- The code of each kind of statement does what the statement does.
use Rattle.std.proofs.Common.{◌≡◌, false}
use Rattle.exchange_model.specs.declared.stmt.Stmt.{Stmt}
use Rattle.exchange_model.specs.declared.stmt.When.{When}
use Rattle.exchange_model.specs.declared.stmt.StmtKind.{StmtKind, StmtKind-F}
use Rattle.exchange_model.specs.declared.stmt.StmtKind.TheOpen as stmt
use Rattle.exchange_model.specs.Kept.{is_enter}
use Rattle.stmt_code.proofs.Setting.{Setting}
use Rattle.stmt_code.proofs.Values.{Laid}
use Rattle.stmt_code.proofs.Kind.{Case, exit}
use Rattle.stmt_code.proofs.Plain.{set_temp, set_variable, goto, if_goto, choice}
use Rattle.stmt_code.proofs.Pointers.{set_field}
use Rattle.stmt_code.proofs.Choices.{case_of}
use Rattle.stmt_code.proofs.Loops.{loop}
use Rattle.stmt_code.proofs.Takes.{retrieve}
use Rattle.stmt_code.proofs.Signals.{send, answer_back, transfer}
use Rattle.stmt_code.proofs.Searches.{for_first_of}
use Rattle.stmt_code.proofs.Seizes.{seize}
use Rattle.stmt_code.proofs.Frees.{free}

module _ {g : Setting} (laid : Laid g) where
  pub kind_runs : (l : StmtKind-F StmtKind Stmt When) → is_enter l ≡ false → Case g l
  kind_runs (stmt.Enter signal temps) no_enter = cc
  kind_runs (stmt.SetTemp t e) _ = set_temp t e
  kind_runs (stmt.SetVariable v e) _ = set_variable v e
  kind_runs (stmt.SetField file field pointer e) _ = set_field file field pointer e
  kind_runs (stmt.Goto l) _ = goto laid l
  kind_runs (stmt.IfGoto cond l) _ = if_goto laid cond l
  kind_runs (stmt.If cond ss rs) _ = choice cond ss rs
  kind_runs (stmt.Case e whens ss) _ = case_of e whens ss
  kind_runs (stmt.On t from upto body) _ = loop t from upto body
  kind_runs (stmt.ForFirst t file field rel e l) _ = for_first_of laid t file field rel e l
  kind_runs (stmt.Send signal block values fresh) _ = send laid signal block values fresh
  kind_runs (stmt.Retrieve answer temps) _ = retrieve answer temps
  kind_runs (stmt.Return answer values) _ = answer_back laid answer values
  kind_runs (stmt.Transfer signal block) _ = transfer laid signal block
  kind_runs (stmt.Seize t file l) _ = seize laid t file l
  kind_runs (stmt.Free t file) _ = free laid t file
  kind_runs stmt.Exit _ = λ c m p d a rest s at has fits r. exit c m p a s at has
  kind_runs stmt.Finish _ = λ c m p d a rest s at has fits r. exit c m p a s at has
