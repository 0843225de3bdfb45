-- The statement step: one statement, or one turn of a loop, is counted and done.
--
-- Every step counts exactly one, since what is not counted is passed over first. A statement is
-- counted before it has any effect, so that a fault of the budget leaves none.
use Rattle.std.specs.Prelude.{ℕ, ◌+◌, nat_lt, List, [], ◌∷◌, ◌++◌, map, take, slice_get}
use Rattle.std.specs.Prelude.{slice_index, if◌then◌else◌}
use Rattle.job_types.specs.declared.fault.Fault.TheVariants as fault
use Rattle.exchange_model.specs.declared.exchange.Exchange.{Exchange}
use Rattle.exchange_model.specs.declared.stmt.Stmt.{Stmt}
use Rattle.exchange_model.specs.declared.stmt.When.{When}
use Rattle.exchange_model.specs.declared.stmt.StmtKind.{StmtKind, StmtKind-F, out-StmtKind}
use Rattle.exchange_model.specs.declared.stmt.StmtKind.TheOpen as stmt
use Rattle.job_types.specs.Own.{counted, budget}
use Rattle.job_types.specs.Truth.{at_zero}
use Rattle.source_meaning.specs.Value.{expr_value, cond_value}
use Rattle.source_meaning.specs.Config.{Item, Do, Start, Turns, Config, base_of, files_of, sight}
use Rattle.source_meaning.specs.Config.{next_counted}
use Rattle.source_meaning.specs.Changes.{fails, ends, on_value, on_values, where_fits, goes}
use Rattle.source_meaning.specs.Changes.{to_label, sets_temp, sets_cell, takes, variable_width}
use Rattle.source_meaning.specs.Changes.{at_record, sets_field, for_first, seizes, frees, activates}
use Rattle.source_meaning.specs.Changes.{sends, returns, value_count, to_receiver, chosen}

-- statements

-- what a statement does, where this remains after it: one line a kind
abbrev pub does : Exchange → ℕ → StmtKind-F StmtKind Stmt When → List Item → Config → Config
does x p (stmt.Enter signal temps) rest c = goes rest c
does x p (stmt.SetTemp temp e) rest c =
    on_value (expr_value e (sight x c)) c (λ v d. goes rest (sets_temp temp v d))
does x p (stmt.SetVariable variable e) rest c =
    on_value (expr_value e (sight x c)) c (λ v d. where_fits v (variable_width x c.block variable) d
    (λ d. goes rest (sets_cell (base_of x c.block + variable) v d)))
does x p (stmt.SetField file field pointer e) rest c =
    on_value (expr_value e (sight x c)) c (λ v d.
    at_record (slice_get (files_of x) file) file (slice_index d.temps pointer) (goes rest d)
    (sets_field (slice_index d.temps pointer) field v))
does x p (stmt.Goto label) rest c = to_label x label c
does x p (stmt.IfGoto cond label) rest c =
    on_value (cond_value cond (sight x c)) c (λ v d. at_zero v (goes rest d) (to_label x label d))
does x p (stmt.If cond yes_part no_part) rest c =
    on_value (cond_value cond (sight x c)) c (λ v d. at_zero v (goes (map Do no_part ++ rest) d)
    (goes (map Do yes_part ++ rest) d))
does x p (stmt.Case e whens otherwise) rest c = on_value (expr_value e (sight x c)) c
    (λ v d. goes (map Do (chosen whens v otherwise) ++ rest) d)
does x p (stmt.On temp from upto body) rest c =
    on_value (expr_value from (sight x c)) c (λ a d. on_value (expr_value upto (sight x d)) d
    (λ b e. goes (Turns p temp a b body ∷ rest) e))
does x p (stmt.ForFirst temp file field rel e label) rest c =
    on_value (expr_value e (sight x c)) c (λ v d. for_first x (slice_get (files_of x) file) temp
    field rel v label rest d)
does x p (stmt.Send signal to values fresh) rest c =
    to_receiver x signal to c (λ b d. on_values x values [] d
    (sends x (slice_get x.signals signal) signal b fresh rest))
does x p (stmt.Retrieve answer temps) rest c =
    record c { todo = rest; temps = takes 0 temps c.own.answers c.temps }
does x p (stmt.Return answer values) rest c =
    on_values x values [] c (λ vs d. returns d.callers answer vs d)
does x p (stmt.Transfer signal to) rest c = to_receiver x signal to c
    (λ b d. activates x b signal (take (value_count x signal) d.own.given) d)
does x p (stmt.Seize temp file label) rest c =
    seizes x (slice_get (files_of x) file) file temp label rest c
does x p (stmt.Free temp file) rest c =
    at_record (slice_get (files_of x) file) file (slice_index c.temps temp) (goes rest c)
    (frees file (slice_index c.temps temp))
does x p stmt.Exit rest c = ends c.callers c
does x p stmt.Finish rest c = ends c.callers c

-- the ENTER of the signal that began the activation takes the entry values
abbrev pub starts : StmtKind-F StmtKind Stmt When → List Item → Config → Config
starts (stmt.Enter signal temps) rest c =
    record c { todo = rest; temps = takes 0 temps c.own.given c.temps }
starts _ rest c = goes rest c

-- the statement is counted first
abbrev pub count : ℕ → Config → (Config → Config) → Config
count p c go =
    let d : Config = record c { own = counted p c.own } in
    (if nat_lt c.own.count budget then go d else fails fault.Budget d)

abbrev pub does_first : Exchange → List Item → Config → Config
does_first x [] c = ends c.callers c
does_first x (Do s ∷ rest) c = count s.point c (does x s.point (out-StmtKind s.kind) rest)
does_first x (Start s ∷ rest) c = count s.point c (starts (out-StmtKind s.kind) rest)
does_first x (Turns p temp this end body ∷ rest) c =
    count p c (λ d. goes (map Do body ++ (Turns p temp (this + 1) end body ∷ rest))
    (sets_temp temp this d))

-- one step
unfoldable pub step : Exchange → Config → Config
step x c = does_first x (next_counted c.todo) c
