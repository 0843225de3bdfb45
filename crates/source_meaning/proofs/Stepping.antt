-- What every statement does is a list of effects, and a step is one step of those.
use Rattle.std.proofs.Common.{◌≡◌, ℕ, ◌+◌, Bool, true, false, List, [], ◌∷◌, ◌++◌, map, refl}
use Rattle.std.proofs.Common.{slice_get}
use Rattle.std.specs.Prelude.{nat_lt, if◌then◌else◌}
use Rattle.job_types.specs.declared.fault.Fault.TheVariants as fault
use Rattle.job_types.specs.Own.{counted, budget}
use Rattle.exchange_model.specs.declared.exchange.Exchange.{Exchange}
use Rattle.exchange_model.specs.declared.stmt.StmtKind.{out-StmtKind}
use Rattle.exchange_model.specs.declared.stmt.StmtKind.TheOpen as stmt
use Rattle.source_meaning.specs.Named.{Layer}
use Rattle.source_meaning.specs.Config.{Item, Do, Start, Turns, next_counted, Config, files_of}
use Rattle.source_meaning.specs.Changes.{fails, goes, sets_temp, takes}
use Rattle.source_meaning.specs.Step.{does, starts, count, does_first, step}
use Rattle.source_meaning.specs.Deeds.{Doing, Starting, Turning, deed_of, deed_point, IsNoEnter}
use Rattle.source_meaning.specs.Deeds.{to_turn, to_label as at_label, to_next, with_answers}
use Rattle.source_meaning.specs.Deeds.{with_given, from_no_enter}
use Rattle.source_meaning.specs.Effects.{Step, NothingLeft, CountFull, Counts, Goes}
use Rattle.source_meaning.proofs.Doing.{Makes, one, next, jump}
use Rattle.source_meaning.proofs.DoingData.{set_temp, set_variable, set_field, free}
use Rattle.source_meaning.proofs.DoingData.{for_first_effects, seize_found}
use Rattle.source_meaning.proofs.DoingText.{if_goto, if_effects, case_effects, on_effects}
use Rattle.source_meaning.proofs.DoingText.{end_effects, send_effects, transfer_effects}
use Rattle.source_meaning.proofs.DoingText.{return_effects}

pub does_effects : (x : Exchange) (rest : List Item) (p : ℕ) (l : Layer) (c : Config) → Makes x (Doing p l) rest c (does x p l rest c)
does_effects x rest p (stmt.Enter signal temps) c = next x p (stmt.Enter signal temps) rest c (to_next p tt)
does_effects x rest p (stmt.SetTemp temp e) c = set_temp x rest p temp e c
does_effects x rest p (stmt.SetVariable variable e) c = set_variable x rest p variable e c
does_effects x rest p (stmt.SetField file field pointer e) c = set_field x rest p file field pointer e c
does_effects x rest p (stmt.Goto label) c = jump x p (stmt.Goto label) rest c label (at_label p label refl)
does_effects x rest p (stmt.IfGoto cond label) c = if_goto x rest p cond label c
does_effects x rest p (stmt.If cond yes_part no_part) c = if_effects x rest p cond yes_part no_part c
does_effects x rest p (stmt.Case e whens otherwise) c = case_effects x rest p e whens otherwise c
does_effects x rest p (stmt.On temp from upto body) c = on_effects x rest p temp from upto body c
does_effects x rest p (stmt.ForFirst temp file field rel e label) c = for_first_effects x rest p temp file field rel e label c
does_effects x rest p (stmt.Send signal to values fresh) c = send_effects x rest p signal to values fresh c
does_effects x rest p (stmt.Retrieve answer temps) c =
    let d : Config = record c { todo = rest; temps = takes 0 temps c.own.answers c.temps } in
    one x (Doing p (stmt.Retrieve answer temps)) rest c d (Goes c rest d.temps (with_answers p answer temps))
does_effects x rest p (stmt.Return answer values) c = return_effects x rest p answer values c
does_effects x rest p (stmt.Transfer signal to) c = transfer_effects x rest p signal to c
does_effects x rest p (stmt.Seize temp file label) c = seize_found x rest p temp file label (slice_get (files_of x) file) c refl
does_effects x rest p (stmt.Free temp file) c = free x rest p temp file c
does_effects x rest p stmt.Exit c = end_effects x rest p stmt.Exit c.callers c tt refl
does_effects x rest p stmt.Finish c = end_effects x rest p stmt.Finish c.callers c tt refl

from_other : (x : Exchange) (rest : List Item) (p : ℕ) (l : Layer) (c : Config) → IsNoEnter l → Makes x (Starting p l) rest c (goes rest c)
from_other x rest p l c other = one x (Starting p l) rest c (goes rest c) (Goes c rest c.temps (from_no_enter p other))

starts_effects : (x : Exchange) (rest : List Item) (p : ℕ) (l : Layer) (c : Config) → Makes x (Starting p l) rest c (starts l rest c)
starts_effects x rest p (stmt.Enter signal temps) c =
    let d : Config = record c { todo = rest; temps = takes 0 temps c.own.given c.temps } in
    one x (Starting p (stmt.Enter signal temps)) rest c d (Goes c rest d.temps (with_given p signal temps))
starts_effects x rest p (stmt.SetTemp temp e) c = from_other x rest p (stmt.SetTemp temp e) c tt
starts_effects x rest p l c = from_other x rest p l c tt

-- a step

count_step : (x : Exchange) (c : Config) (i : Item) (rest : List Item) (go : Config → Config) → next_counted c.todo ≡ i ∷ rest
    → ((d : Config) → Makes x (deed_of i) rest d (go d)) → Step x c (count (deed_point (deed_of i)) c go)
count_step x c i rest go is makes = by (nat_lt c.own.count budget) refl
  where
    d : Config
    d = record c { own = counted (deed_point (deed_of i)) c.own }

    by : (b : Bool) → nat_lt c.own.count budget ≡ b → Step x c (if b then go d else fails fault.Budget d)
    by true room = Counts i rest (go d) is room (makes d)
    by false full = CountFull i rest is full

step_from : (x : Exchange) (c : Config) (items : List Item) → next_counted c.todo ≡ items → Step x c (does_first x items c)
step_from x c [] is = NothingLeft is
step_from x c (Do s ∷ rest) is = count_step x c (Do s) rest (does x s.point (out-StmtKind s.kind) rest) is (does_effects x rest s.point (out-StmtKind s.kind))
step_from x c (Start s ∷ rest) is = count_step x c (Start s) rest (starts (out-StmtKind s.kind) rest) is (starts_effects x rest s.point (out-StmtKind s.kind))
step_from x c (Turns p temp this end body ∷ rest) is =
    count_step x c (Turns p temp this end body) rest (λ d. goes (map Do body ++ (Turns p temp (this + 1) end body ∷ rest)) (sets_temp temp this d)) is
    (λ d. let e = goes (map Do body ++ (Turns p temp (this + 1) end body ∷ rest)) (sets_temp temp this d) in
    one x (Turning p temp this end body) rest d e (Goes d e.todo e.temps (to_turn p temp this end body)))

-- each step is one
pub every_step : (x : Exchange) (c : Config) → Step x c (step x c)
unfolding step
every_step x c = step_from x c (next_counted c.todo) refl
