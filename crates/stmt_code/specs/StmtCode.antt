-- The code of statements.
--
-- A statement's code is a function of where it stands: the places of its block, its point, the
-- number of loops around it, and its address. A layer is said from the code of the lists in it. A
-- loop keeps its number and its last number in two locals of its own, so that a jump out of it has
-- nothing to put right; it compares before it adds, so that the number never passes 2^32. Its head
-- is reached before the first turn and from the end of a turn, and from nowhere else, since labels
-- stand outside of all loops: so register 0 has its number there.
use Rattle.std.specs.Prelude.{◌≡◌, ℕ, suc, ◌+◌, ◌*◌, nat_lt, Bool, true, false, List, [], ◌∷◌, ◌++◌}
use Rattle.std.specs.Prelude.{length, map, slice_get, Option, Some, None, if◌then◌else◌}
use Rattle.std.specs.Option.{option_map_or}
use Rattle.plex_num.specs.declared.level.Level.{Level}
use Rattle.plex_num.specs.declared.level.Level.TheVariants.{A, B, C, D}
use Rattle.machine_code.specs.declared.op.Op.{Op}
use Rattle.machine_code.specs.declared.op.Op.TheVariants as op
use Rattle.exchange_model.specs.declared.signal.SignalKind.{SignalKind}
use Rattle.exchange_model.specs.declared.signal.SignalKind.TheVariants.{Buffered, Direct, Combined}
use Rattle.exchange_model.specs.declared.signal.SignalKind.TheVariants.{Outside}
use Rattle.exchange_model.specs.declared.block.Variable.{Variable}
use Rattle.exchange_model.specs.declared.expr.Expr.{Expr}
use Rattle.exchange_model.specs.declared.stmt.Holder.{Holder}
use Rattle.exchange_model.specs.declared.stmt.Holder.TheVariants as holder
use Rattle.exchange_model.specs.declared.stmt.Receiver.{Receiver}
use Rattle.exchange_model.specs.declared.stmt.Receiver.TheVariants as receiver
use Rattle.exchange_model.specs.declared.stmt.Stmt.{Stmt, fold-Stmt, fold_out-Stmt}
use Rattle.exchange_model.specs.declared.stmt.When.{When, fold-When, fold_out-When, out-When}
use Rattle.exchange_model.specs.declared.stmt.StmtKind.{StmtKind, StmtKind-F, out-StmtKind}
use Rattle.exchange_model.specs.declared.stmt.StmtKind.{map-StmtKind, fold-StmtKind}
use Rattle.exchange_model.specs.declared.stmt.StmtKind.{fold_out-StmtKind}
use Rattle.exchange_model.specs.declared.stmt.StmtKind.TheOpen as stmt
use Rattle.exchange_model.specs.declared.stmt.StmtKind.TheOpen.{Stmt-F, When-F}
use Rattle.exchange_model.specs.Cells.{Placed, record_cells}
use Rattle.exchange_model.specs.Kept.{signal_count}
use Rattle.source_meaning.specs.Changes.{field_width}
use Rattle.expr_code.specs.Code.{Site, expr_code, cond_code, pointer_code}
use Rattle.stmt_code.specs.declared.lengths.TheConstants.{FIRST_LOOP_LOCAL, COMPARE_LENGTH}
use Rattle.stmt_code.specs.declared.lengths.TheConstants.{TURN_LENGTH, NEXT_LENGTH, BOUNDS_LENGTH}
use Rattle.stmt_code.specs.RecordCode.{for_first_code, seize_code, free_code}

-- what the code of a block's statements needs to know: where stored words are, the widths of its
-- variables, the addresses of its labels, those at which a block's signals enter, the numbers of
-- entries, the blocks that receive a signal, in their order, and the signals
pub record Places : Type 0 where
  pub site : Site
  pub width : ℕ → ℕ
  pub label : ℕ → ℕ
  pub enter : ℕ → ℕ → ℕ
  pub entry : ℕ → ℕ → ℕ
  pub receivers : ℕ → List ℕ
  pub signals : List SignalKind

-- from the places, the point, the number of loops around it, and the address
abbrev pub KindCode : Type 0
KindCode = Places → ℕ → ℕ → ℕ → List Op

abbrev pub StmtCode : Type 0
StmtCode = Places → ℕ → ℕ → List Op

-- a list of statements
abbrev pub codes : List StmtCode → StmtCode
codes [] pl d a = []
codes (c ∷ cs) pl d a = c pl d a ++ codes cs pl d (a + length (c pl d a))

-- a choice of a CASE
pub record Choice : Type 0 where
  pub number : ℕ
  pub body : List StmtCode

-- the temporaries get the entry values from the k-th on
abbrev pub takes_code : ℕ → List ℕ → List Op
takes_code k [] = []
takes_code k (t ∷ ts) = op.Lde 0 k ∷ op.Stt t 0 ∷ takes_code (k + 1) ts

-- the temporaries get the answer values from the k-th on
abbrev pub retrieve_code : ℕ → List ℕ → List Op
retrieve_code k [] = []
retrieve_code k (t ∷ ts) = op.Lda 0 k ∷ op.Stt t 0 ∷ retrieve_code (k + 1) ts

-- values join the outgoing ones, by way of the register
abbrev pub values_code : List Expr → Site → ℕ → List Op
values_code [] site r = []
values_code (e ∷ es) site r = expr_code e site r ++ (op.Arg r ∷ values_code es site r)

-- the locals of a loop's number and of its last number
abbrev pub turn : ℕ → ℕ
turn d = FIRST_LOOP_LOCAL + 2 * d

abbrev pub last : ℕ → ℕ
last d = FIRST_LOOP_LOCAL + 1 + 2 * d

-- what looks whether the value in a register fits a width. Each value is of 32 bits, so that it
-- fits a width of 32, and nothing looks
abbrev pub range_code : ℕ → ℕ → List Op
range_code r width = (if nat_lt width 32 then op.Ckw r width ∷ [] else [])

-- the value in register 0 goes into a field
abbrev pub field_store : Option Placed → ℕ → ℕ → ℕ → List Op
field_store None file field pointer = []
field_store (Some p) file field pointer =
    op.Ldt 1 pointer ∷ (pointer_code p file 1 ++ (range_code 0 (field_width p field)
    ++ op.Stx (p.first + field) (record_cells p.file) 1 0 ∷ []))

-- whether a list has a statement
abbrev pub has_any : List StmtCode → Bool
has_any [] = false
has_any (c ∷ cs) = true

-- from the end of the first list of an IF past the other one, where that has a statement
abbrev pub past_code : Bool → ℕ → List Op
past_code false end = []
past_code true end = op.Jmp end ∷ []

-- one of two lists, of which the other one may be empty, by whether register 0 is 0 after the test
abbrev pub if_code : ℕ → ℕ → List Op → List Op → Bool → (ℕ → List Op) → List Op
if_code p a test yes_part both no_at =
    let other = a + 1 + length test + 1 + length yes_part + length (past_code both 0) in
    op.Stmt p ∷ (test ++ (op.Jz 0 other ∷ (yes_part
    ++ (past_code both (other + length (no_at other)) ++ no_at other))))

-- on at an address, unless register 0 has the number
abbrev pub compare_code : ℕ → ℕ → List Op
compare_code number other = op.Ldi 1 number ∷ op.Eq 1 0 ∷ op.Jz 1 other ∷ []

-- the choices, where register 0 has the value, and at last the other list
abbrev pub choices_code : List Choice → List StmtCode → StmtCode
choices_code [] otherwise pl d a = codes otherwise pl d a
choices_code (w ∷ ws) otherwise pl d a =
    let body = codes w.body pl d (a + COMPARE_LENGTH) in
    let next = a + COMPARE_LENGTH + length body + 1 in
    let rest = choices_code ws otherwise pl d next in
    compare_code w.number next ++ (body ++ (op.Jmp (next + length rest) ∷ rest))

-- a turn begins: it is counted, and the temporary gets the loop's number, which register 0 has
abbrev pub turn_code : ℕ → ℕ → List Op
turn_code p t = op.Stmt p ∷ op.Stt t 0 ∷ []

-- after a turn: out of the loop where it was the last one, and else one is added, and it goes on at
-- the head. The test leaves the 1 that is added
abbrev pub next_code : ℕ → ℕ → ℕ → List Op
next_code d head exit =
    op.Ldt 0 (turn d) ∷ op.Ldt 1 (last d) ∷ op.Gt 1 0 ∷ op.Jz 1 exit ∷ op.Add 0 1
    ∷ op.Stt (turn d) 0 ∷ op.Jmp head ∷ []

-- the turns of a loop, from its head on
abbrev pub turns_code : ℕ → ℕ → ℕ → ℕ → List Op → List Op
turns_code p t d head body =
    turn_code p t ++ (body ++ next_code d head (head + TURN_LENGTH + length body + NEXT_LENGTH))

-- before the first turn: the bounds are kept, and the loop is left unless the second one reaches
-- the first, which stays in register 0
abbrev pub bounds_code : ℕ → ℕ → List Op
bounds_code d exit = op.Stt (turn d) 0 ∷ op.Stt (last d) 1 ∷ op.Ge 1 0 ∷ op.Jz 1 exit ∷ []

abbrev pub on_code : ℕ → ℕ → ℕ → ℕ → List Op → List Op → (ℕ → List Op) → List Op
on_code p t d a from upto body_at =
    let head = a + 1 + length from + length upto + BOUNDS_LENGTH in
    let turns = turns_code p t d head (body_at (head + TURN_LENGTH)) in
    op.Stmt p ∷ (from ++ (upto ++ (bounds_code d (head + length turns) ++ turns)))

abbrev pub level_number : Level → ℕ
level_number A = 0
level_number B = 1
level_number C = 2
level_number D = 3

-- to an entry, in the job's forlopp or a new one
abbrev pub queue_number : Bool → ℕ
queue_number false = 0
queue_number true = 1

-- the outgoing values go to a block, or out of the exchange
abbrev pub send_code : Option SignalKind → ℕ → ℕ → Bool → Places → List Op
send_code (Some (Buffered name level count)) signal b fresh pl =
    op.Snd (queue_number fresh) (pl.entry b signal) (level_number level) ∷ []
send_code (Some (Direct name count)) signal b fresh pl = op.Dir (pl.enter b signal) ∷ []
send_code (Some (Combined name count answer)) signal b fresh pl =
    op.Call (pl.enter b signal) answer ∷ []
send_code (Some (Outside name count)) signal b fresh pl = op.Snd 2 signal 0 ∷ []
send_code _ signal b fresh pl = []

-- how many values a signal has
abbrev pub count_in : Places → ℕ → ℕ
count_in pl signal = option_map_or signal_count (slice_get pl.signals signal) 0

-- the reference that is held goes into register 0
abbrev pub holder_code : Holder → Site → List Op
holder_code (holder.Temporary t) site = op.Ldt 0 t ∷ []
holder_code (holder.Variable v) site = op.Ldw 0 (site.first + v) ∷ []

-- the code of that one of these blocks whose reference register 0 has, and then on past all of
-- them; what checks the reference at last always faults, since it is of none of them
abbrev pub each_receiver : List ℕ → (ℕ → List Op) → ℕ → List Op
each_receiver [] arm a = op.Ckp 0 0 ∷ []
each_receiver (b ∷ bs) arm a =
    let next = a + COMPARE_LENGTH + length (arm b) + 1 in
    let rest = each_receiver bs arm next in
    compare_code (b + 1) next ++ (arm b ++ (op.Jmp (next + length rest) ∷ rest))

-- the reference in register 0 is looked at before the first of these values. Where there are none,
-- choosing the receiver looks at it
abbrev pub look_first : List ℕ → List Expr → ℕ → List Op
look_first bs [] a = []
look_first bs (e ∷ es) a = each_receiver bs (λ b. []) a

-- the values join the outgoing ones, and the receiver gets them by its code. A reference that is
-- held is looked at before any value is computed; it stays in register 0, which the values leave
-- alone
abbrev pub receiver_code : Option Receiver → List ℕ → Site → List Expr → (ℕ → List Op) → ℕ → List Op
receiver_code None bs site values arm a = values_code values site 0 ++ arm 0
receiver_code (Some (receiver.Block b)) bs site values arm a = values_code values site 0 ++ arm b
receiver_code (Some (receiver.Held h)) bs site values arm a =
    let look = look_first bs values (a + 1) in
    let joins = values_code values site 1 in
    holder_code h site ++ (look ++ (joins ++ each_receiver bs arm
    (a + 1 + length look + length joins)))

-- one statement, from the code of those in it: one line a kind
abbrev pub layer_code : StmtKind-F KindCode StmtCode Choice → KindCode
layer_code (stmt.Enter signal temps) pl p d a =
    op.Jmp (a + 2 + length (takes_code 0 temps)) ∷ op.Stmt p ∷ takes_code 0 temps
layer_code (stmt.SetTemp t e) pl p d a = op.Stmt p ∷ (expr_code e pl.site 0 ++ op.Stt t 0 ∷ [])
layer_code (stmt.SetVariable v e) pl p d a = op.Stmt p
    ∷ (expr_code e pl.site 0 ++ (range_code 0 (pl.width v) ++ op.Stw (pl.site.first + v) 0 ∷ []))
layer_code (stmt.SetField file field pointer e) pl p d a = op.Stmt p
    ∷ (expr_code e pl.site 0 ++ field_store (slice_get pl.site.files file) file field pointer)
layer_code (stmt.Goto l) pl p d a = op.Stmt p ∷ op.Jmp (pl.label l) ∷ []
layer_code (stmt.IfGoto c l) pl p d a =
    let test = cond_code c pl.site in
    op.Stmt p ∷ (test ++ op.Jz 0 (a + 1 + length test + 2) ∷ op.Jmp (pl.label l) ∷ [])
layer_code (stmt.If c yes_part no_part) pl p d a =
    let test = cond_code c pl.site in
    if_code p a test (codes yes_part pl d (a + 1 + length test + 1)) (has_any no_part)
    (codes no_part pl d)
layer_code (stmt.Case e whens otherwise) pl p d a =
    let value = expr_code e pl.site 0 in
    op.Stmt p ∷ (value ++ choices_code whens otherwise pl d (a + 1 + length value))
layer_code (stmt.On t from upto body) pl p d a =
    on_code p t d a (expr_code from pl.site 0) (expr_code upto pl.site 1) (codes body pl (suc d))
layer_code (stmt.ForFirst t file field rel e l) pl p d a =
    let value = expr_code e pl.site 0 in
    op.Stmt p ∷ (value ++ for_first_code (slice_get pl.site.files file) t field rel (pl.label l)
    (a + 1 + length value))
layer_code (stmt.Send signal to values fresh) pl p d a =
    op.Stmt p ∷ receiver_code to (pl.receivers signal) pl.site values
    (λ b. send_code (slice_get pl.signals signal) signal b fresh pl) (a + 1)
layer_code (stmt.Retrieve answer temps) pl p d a = op.Stmt p ∷ retrieve_code 0 temps
layer_code (stmt.Return answer values) pl p d a =
    op.Stmt p ∷ (values_code values pl.site 0 ++ op.Ret answer ∷ [])
layer_code (stmt.Transfer signal to) pl p d a =
    op.Stmt p ∷ receiver_code to (pl.receivers signal) pl.site []
    (λ b. op.Trf (pl.enter b signal) (count_in pl signal) ∷ []) (a + 1)
layer_code (stmt.Seize t file l) pl p d a =
    op.Stmt p ∷ seize_code (slice_get pl.site.files file) file t (pl.label l) (a + 1)
layer_code (stmt.Free t file) pl p d a = op.Stmt p ∷ free_code (slice_get pl.site.files file) file t
layer_code stmt.Exit pl p d a = op.Stmt p ∷ op.End ∷ []
layer_code stmt.Finish pl p d a = op.Stmt p ∷ op.End ∷ []

abbrev pub of_stmt : Stmt-F KindCode StmtCode Choice → StmtCode
of_stmt s pl d a = s.kind pl s.point d a

abbrev pub of_when : When-F KindCode StmtCode Choice → Choice
of_when w = record { number = w.number; body = w.body }

unfoldable pub kind_code : StmtKind → KindCode
kind_code = fold-StmtKind KindCode StmtCode Choice layer_code of_stmt of_when

unfoldable pub stmt_code : Stmt → StmtCode
stmt_code = fold-Stmt KindCode StmtCode Choice layer_code of_stmt of_when

unfoldable pub when_code : When → Choice
when_code = fold-When KindCode StmtCode Choice layer_code of_stmt of_when

abbrev pub opened : StmtKind-F StmtKind Stmt When → KindCode
opened l = layer_code (map-StmtKind StmtKind Stmt When KindCode StmtCode Choice kind_code stmt_code
    when_code l)

pub kind_code-out : (k : StmtKind) → kind_code k ≡ opened (out-StmtKind k)
unfolding kind_code stmt_code when_code
kind_code-out k = fold_out-StmtKind KindCode StmtCode Choice layer_code of_stmt of_when k

pub stmt_code-kind : (s : Stmt) → stmt_code s ≡ (λ pl d a. kind_code s.kind pl s.point d a)
unfolding kind_code stmt_code when_code
stmt_code-kind s = fold_out-Stmt KindCode StmtCode Choice layer_code of_stmt of_when s

pub when_code-out : (w : When) → when_code w ≡ record
    { number = (out-When w).number; body = map stmt_code (out-When w).body }
unfolding kind_code stmt_code when_code
when_code-out w = fold_out-When KindCode StmtCode Choice layer_code of_stmt of_when w
