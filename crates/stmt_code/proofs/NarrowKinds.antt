-- The code of each kind of statement has its operands in their ranges, where the numbers are of 32
-- bits: one lemma a kind.
use Rattle.std.proofs.Common.{◌≡◌, ℕ, suc, ◌+◌, ◌<◌, ◌≤◌, ◌^◌, Bool, true, false, List, [], ◌∷◌}
use Rattle.std.proofs.Common.{length, map, Option, Some, None, refl, sym, ◌∙◌, subst, arith}
use Rattle.std.specs.Prelude.{slice_get}
use Rattle.std.proofs.lemmas.Option.{same_Some}
use Rattle.plex_num.specs.declared.level.Level.{Level}
use Rattle.plex_num.specs.declared.level.Level.TheVariants.{A, B, C, D}
use Rattle.machine_code.specs.declared.op.Op.{Op}
use Rattle.exchange_model.specs.declared.exchange.Exchange.{Exchange}
use Rattle.exchange_model.specs.declared.signal.SignalKind.{SignalKind}
use Rattle.exchange_model.specs.declared.signal.SignalKind.TheVariants.{Buffered, Direct, Combined}
use Rattle.exchange_model.specs.declared.signal.SignalKind.TheVariants.{Answer, Outside}
use Rattle.exchange_model.specs.declared.block.Block.{Block}
use Rattle.exchange_model.specs.declared.block.Variable.{Variable}
use Rattle.exchange_model.specs.declared.expr.Expr.{Expr}
use Rattle.exchange_model.specs.declared.expr.Cond.{Cond}
use Rattle.exchange_model.specs.declared.expr.Rel.{Rel}
use Rattle.exchange_model.specs.declared.stmt.Holder.{Holder}
use Rattle.exchange_model.specs.declared.stmt.Holder.TheVariants as holder
use Rattle.exchange_model.specs.declared.stmt.Receiver.{Receiver}
use Rattle.exchange_model.specs.declared.stmt.Receiver.TheVariants as receiver
use Rattle.exchange_model.specs.declared.stmt.Stmt.{Stmt}
use Rattle.exchange_model.specs.declared.stmt.When.{When, out-When}
use Rattle.exchange_model.specs.declared.stmt.StmtKind.{StmtKind, StmtKind-F, out-StmtKind}
use Rattle.exchange_model.specs.declared.stmt.StmtKind.{map-StmtKind}
use Rattle.exchange_model.specs.declared.stmt.StmtKind.TheOpen as stmt
use Rattle.exchange_model.specs.Cells.{Placed}
use Rattle.exchange_model.specs.Inside.{bracket_depth}
use Rattle.exchange_model.specs.Fits.{EnterFits, IsField, ExprFits, ExprsFit}
use Rattle.exchange_model.specs.Kept.{IsExchange, signal_count, scope_of}
use Rattle.source_meaning.specs.Config.{files_of}
use Rattle.source_meaning.specs.Changes.{variable_width, field_width}
use Rattle.expr_code.specs.Code.{Site, expr_code, cond_code, pointer_code}
use Rattle.expr_code.specs.Sites.{IsLimited}
use Rattle.stmt_code.specs.declared.lengths.TheConstants.{COMPARE_LENGTH, TURN_LENGTH}
use Rattle.stmt_code.specs.declared.lengths.TheConstants.{BOUNDS_LENGTH}
use Rattle.stmt_code.specs.StmtCode.{Places, codes, takes_code, retrieve_code, values_code}
use Rattle.stmt_code.specs.StmtCode.{range_code, field_store, has_any, past_code, choices_code}
use Rattle.stmt_code.specs.StmtCode.{turns_code, level_number, queue_number, send_code, holder_code}
use Rattle.stmt_code.specs.StmtCode.{each_receiver, look_first, receiver_code, opened, stmt_code}
use Rattle.stmt_code.specs.StmtCode.{kind_code, when_code}
use Rattle.stmt_code.specs.RecordCode.{for_first_code, seize_code, inits_code, free_code}
use Rattle.stmt_code.specs.Whole.{Table, places_of}
use Rattle.stmt_code.specs.Within.{ListIn, LayerIn, ChoicesIn}
use Rattle.stmt_code.proofs.Setting.{first_in, others_in, yes_in, no_in, body_in, otherwise_in}
use Rattle.stmt_code.proofs.Setting.{choices_in}
use Rattle.stmt_code.proofs.Takes.{AreTemps, are_temps}
use Rattle.stmt_code.proofs.Receivers.{IsHeld}
use Rattle.stmt_code.proofs.Signals.{answer_few, send_held, transfer_held}
use Rattle.stmt_code.proofs.Narrow.{AllNarrow, narrow_on, pointer_narrow, range_narrow, rel_narrow}
use Rattle.stmt_code.proofs.Narrow.{expr_narrow, cond_narrow, values_narrow, variable_width_fits}
use Rattle.stmt_code.proofs.Narrow.{field_width_fits, signal_few}

-- past the other list of an IF

past_narrow : (both : Bool) (end : ℕ) → AllNarrow (past_code both end)
past_narrow false end = tt
past_narrow true end = (λ n. n, tt)

-- temporaries take values

takes_narrow : (k : ℕ) (ts : List ℕ) → AreTemps ts → k + length ts ≤ 8 → AllNarrow (takes_code k ts)
takes_narrow k [] temps le = tt
takes_narrow k (t ∷ ts) temps le = (
  λ n. (omega arith, omega arith),
  (λ n. (omega (arith, temps.0), omega arith), takes_narrow (k + 1) ts temps.1 (omega arith)),
)

retrieve_narrow : (k : ℕ) (ts : List ℕ) → AreTemps ts → k + length ts ≤ 8 → AllNarrow (retrieve_code k ts)
retrieve_narrow k [] temps le = tt
retrieve_narrow k (t ∷ ts) temps le = (
  λ n. (omega arith, omega arith),
  (λ n. (omega (arith, temps.0), omega arith), retrieve_narrow (k + 1) ts temps.1 (omega arith)),
)

pub enter_few : (o : Option SignalKind) (n : ℕ) → EnterFits o n → ((k : SignalKind) → o ≡ Some k → signal_count k ≤ 8) → n ≤ 8
enter_few None n fits few = absurd fits
enter_few (Some (Buffered name level count)) n fits few = omega (arith, fits, few (Buffered name level count) refl)
enter_few (Some (Direct name count)) n fits few = omega (arith, fits, few (Direct name count) refl)
enter_few (Some (Combined name count answer)) n fits few = omega (arith, fits, few (Combined name count answer) refl)
enter_few (Some (Answer name count combined)) n fits few = absurd fits
enter_few (Some (Outside name count)) n fits few = absurd fits

-- sends

level_narrow : (l : Level) → level_number l ≤ 3
level_narrow A = omega arith
level_narrow B = omega arith
level_narrow C = omega arith
level_narrow D = omega arith

queue_narrow : (fresh : Bool) → queue_number fresh ≤ 2
queue_narrow false = omega arith
queue_narrow true = omega arith

send_narrow : (o : Option SignalKind) (signal b : ℕ) (fresh : Bool) (pl : Places) → AllNarrow (send_code o signal b fresh pl)
send_narrow None signal b fresh pl = tt
send_narrow (Some (Buffered name level count)) signal b fresh pl = (λ n. (queue_narrow fresh, n, level_narrow level), tt)
send_narrow (Some (Direct name count)) signal b fresh pl = (λ n. n, tt)
send_narrow (Some (Combined name count answer)) signal b fresh pl = (λ n. n, tt)
send_narrow (Some (Answer name count combined)) signal b fresh pl = tt
send_narrow (Some (Outside name count)) signal b fresh pl = (λ n. (omega arith, n, omega arith), tt)

-- receivers

holder_narrow : (h : Holder) (site : Site) → IsHeld (Some (receiver.Held h)) → AllNarrow (holder_code h site)
holder_narrow (holder.Temporary t) site lt = (λ n. (omega arith, omega (arith, lt)), tt)
holder_narrow (holder.Variable v) site lt = (λ n. (omega arith, n), tt)

each_narrow : (bs : List ℕ) (arm : ℕ → List Op) (a : ℕ) → ((b : ℕ) → AllNarrow (arm b)) → AllNarrow (each_receiver bs arm a)
each_narrow [] arm a each = (λ n. (omega arith, n), tt)
each_narrow (b ∷ bs) arm a each = (
  λ n. (omega arith, n),
  (
    λ n. (omega arith, omega arith),
    (
      λ n. (omega arith, n),
      narrow_on (arm b) _ (each b)
          (λ n. n, each_narrow bs arm _ each),
    ),
  ),
)

first_narrow : (bs : List ℕ) (values : List Expr) (a : ℕ) → AllNarrow (look_first bs values a)
first_narrow bs [] a = tt
first_narrow bs (e ∷ es) a = each_narrow bs (λ b. []) a (λ b. tt)

-- records

search_narrow : (o : Option Placed) (t field : ℕ) (rel : Rel) (label a : ℕ) → t < 24 → AllNarrow (for_first_code o t field rel label a)
search_narrow None t field rel label a lt = tt
search_narrow (Some p) t field rel label a lt = (
  λ n. (omega arith, n),
  (
    λ n. (omega arith, n),
    (
      λ n. (omega arith, omega arith),
      (
        λ n. (omega arith, n),
        (
          λ n. (omega arith, n.0, n.1, omega arith),
          (
            rel_narrow rel 2 0 (omega arith) (omega arith),
            (
              λ n. (omega arith, n),
              (
                λ n. (omega arith, omega arith),
                (λ n. n, (λ n. (omega arith, n), (λ n. (omega arith, omega arith), (λ n. n, tt)))),
              ),
            ),
          ),
        ),
      ),
    ),
  ),
)

seize_narrow : (o : Option Placed) (file t label a : ℕ) → t < 24 → AllNarrow (seize_code o file t label a)
seize_narrow None file t label a lt = tt
seize_narrow (Some p) file t label a lt = (
  λ n. tt,
  (
    λ n. (omega arith, n),
    (
      λ n. (omega arith, n),
      (
        λ n. (omega arith, omega arith),
        (
          λ n. (omega arith, n),
          (
            λ n. (omega arith, n.0, n.1, omega arith),
            (
              λ n. (omega arith, n),
              (
                λ n. (omega arith, n),
                (
                  λ n. (omega arith, omega arith),
                  (
                    λ n. n,
                    (
                      λ n. (omega arith, n),
                      (
                        λ n. (omega arith, n),
                        (λ n. (n.0, n.1, omega arith, omega arith), (λ n. (omega arith, omega arith), tt)),
                      ),
                    ),
                  ),
                ),
              ),
            ),
          ),
        ),
      ),
    ),
  ),
)

inits_narrow : (p : Placed) (field : ℕ) (vs : List Variable) → AllNarrow (inits_code p field vs)
inits_narrow p field [] = tt
inits_narrow p field (v ∷ vs) = (λ n. (omega arith, n), (λ n. (n.0, n.1, omega arith, omega arith), inits_narrow p (field + 1) vs))

free_narrow : (o : Option Placed) (file t : ℕ) → t < 24 → AllNarrow (free_code o file t)
free_narrow None file t lt = tt
free_narrow (Some p) file t lt = (
  λ n. (omega arith, omega arith),
  narrow_on (pointer_code p file 0) _ (pointer_narrow p file 0 (omega arith))
      (narrow_on (inits_code p 0 p.file.fields) _ (inits_narrow p 0 p.file.fields)
      (λ n. (omega arith, n), (λ n. (n.0, n.1, omega arith, omega arith), (λ n. (omega arith, n), tt)))),
)

module _ (x : Exchange) (kept : IsExchange x) (few_files : length (files_of x) ≤ 2 ^ 32) where
  -- what is to be shown of a layer, a kind, a statement and a choice
  abbrev pub LayerNarrow : StmtKind-F StmtKind Stmt When → Type 0
  LayerNarrow l = (t : Table) (b p d a : ℕ) → LayerIn x b d l → AllNarrow (opened l (places_of x t b) p d a)

  abbrev pub KindNarrow : StmtKind → Type 0
  KindNarrow k = (t : Table) (b p d a : ℕ) → LayerIn x b d (out-StmtKind k) → AllNarrow (kind_code k (places_of x t b) p d a)

  abbrev pub StmtNarrow : Stmt → Type 0
  StmtNarrow s = (t : Table) (b d a : ℕ) → LayerIn x b d (out-StmtKind s.kind) → AllNarrow (stmt_code s (places_of x t b) d a)

  abbrev pub WhenNarrow : When → Type 0
  WhenNarrow w = (t : Table) (b d a : ℕ) → ListIn x b d (out-When w).body → AllNarrow (codes (when_code w).body (places_of x t b) d a)

  -- an expression of a statement that has it first
  value_narrow : (t : Table) (b d r : ℕ) {l : StmtKind-F StmtKind Stmt When} (h : LayerIn x b d l) (e : Expr) → r ≤ 1
      → ExprFits (scope_of x b h.block) e → bracket_depth e ≤ 6 → AllNarrow (expr_code e (places_of x t b).site r)
  value_narrow t b d r h e le fits shallow = expr_narrow x kept few_files t b r h.block e h.there h.limited le fits shallow

  field_narrow : (o : Option Placed) (file field pointer : ℕ) → slice_get (files_of x) file ≡ o
      → ((p : Placed) → o ≡ Some p → field < length p.file.fields) → pointer < 24
      → AllNarrow (field_store o file field pointer)
  field_narrow None file field pointer there within lt = tt
  field_narrow (Some p) file field pointer there within lt =
      let width = field_width_fits x kept few_files file field p there (within p refl) in (
        λ n. (omega arith, omega arith),
        narrow_on (pointer_code p file 1) _ (pointer_narrow p file 1 (omega arith))
            (narrow_on (range_code 0 (field_width p field)) _ (range_narrow 0 (field_width p field) (omega arith) width)
            (λ n. (n.0, n.1, omega arith, omega arith), tt)),
      )

  field_within : (b file field : ℕ) (k : Block) → IsField (scope_of x b k) file field → (p : Placed)
      → slice_get (files_of x) file ≡ Some p → field < length p.file.fields
  unfolding files_of
  field_within b file field k is p there =
      let same : is.placed ≡ p = same_Some is.placed p (sym is.there ∙ there) in
      subst (λ (q : Placed). field < length q.file.fields) same is.within

  pub list_narrow : (ss : List ((s : Stmt) × StmtNarrow s)) (t : Table) (b d a : ℕ) → ListIn x b d (map (λ e. e.0) ss)
      → AllNarrow (codes (map stmt_code (map (λ e. e.0) ss)) (places_of x t b) d a)
  list_narrow [] t b d a h = tt
  list_narrow (s ∷ ss) t b d a h =
      let c = stmt_code s.0 (places_of x t b) d a in
      narrow_on c _ (s.1 t b d a (first_in s.0 (map (λ e. e.0) ss) h)) (list_narrow ss t b d (a + length c) (others_in s.0 (map (λ e. e.0) ss) h))

  choices_narrow : (ws : List ((w : When) × WhenNarrow w)) (ss : List ((s : Stmt) × StmtNarrow s)) (t : Table)
      (b d a : ℕ) → ChoicesIn x b d (map (λ e. e.0) ws) → ListIn x b d (map (λ e. e.0) ss)
      → AllNarrow (choices_code (map when_code (map (λ e. e.0) ws)) (map stmt_code (map (λ e. e.0) ss)) (places_of x t b) d a)
  choices_narrow [] ss t b d a hw hs = list_narrow ss t b d a hs
  choices_narrow (w ∷ ws) ss t b d a hw hs =
      let body = codes (when_code w.0).body (places_of x t b) d (a + COMPARE_LENGTH) in (
        λ n. (omega arith, n),
        (
          λ n. (omega arith, omega arith),
          (
            λ n. (omega arith, n),
            narrow_on body _ (w.1 t b d (a + COMPARE_LENGTH) hw.0)
                (λ n. n, choices_narrow ws ss t b d (a + COMPARE_LENGTH + length body + 1) hw.1 hs),
          ),
        ),
      )

  turns_narrow : (p t d head : ℕ) (body : List Op) → t < 24 → d ≤ 12 → AllNarrow body → AllNarrow (turns_code p t d head body)
  turns_narrow p t d head body lt le narrow = (
    λ n. n,
    (
      λ n. (omega arith, omega arith),
      narrow_on body _ narrow (
        λ n. (omega arith, omega arith),
        (
          λ n. (omega arith, omega arith),
          (
            λ n. (omega arith, omega arith),
            (
              λ n. (omega arith, n),
              (λ n. (omega arith, omega arith), (λ n. (omega arith, omega arith), (λ n. n, tt))),
            ),
          ),
        ),
      ),
    ),
  )

  enter_narrow : (signal : ℕ) (temps : List ℕ) → LayerNarrow (stmt.Enter signal temps)
  enter_narrow signal temps t b p d a h =
      let few = enter_few (slice_get x.signals signal) (length temps) h.fits.names.0 (signal_few x kept few_files signal) in
      (λ n. n, (λ n. n, takes_narrow 0 temps (are_temps (scope_of x b h.block) temps h.limited.temporaries h.fits.names.1) (omega (arith, few))))

  set_temp_narrow : (temp : ℕ) (e : Expr) → LayerNarrow (stmt.SetTemp temp e)
  set_temp_narrow temp e t b p d a h =
      let value = value_narrow t b d 0 h e (omega arith) h.fits.exprs.each.0 h.fits.exprs.shallow.0 in
      (λ n. n, narrow_on (expr_code e (places_of x t b).site 0) _ value (λ n. (omega (arith, h.fits.names, h.limited.temporaries), omega arith), tt))

  set_variable_narrow : (v : ℕ) (e : Expr) → LayerNarrow (stmt.SetVariable v e)
  set_variable_narrow v e t b p d a h =
      let value = value_narrow t b d 0 h e (omega arith) h.fits.exprs.each.0 h.fits.exprs.shallow.0 in
      let width = variable_width_fits x kept few_files b v h.block h.there h.fits.names in
      let look = range_narrow 0 (variable_width x b v) (omega arith) width in
      (λ n. n, narrow_on (expr_code e (places_of x t b).site 0) _ value (narrow_on (range_code 0 (variable_width x b v)) _ look (λ n. (n, omega arith), tt)))

  set_field_narrow : (file field pointer : ℕ) (e : Expr) → LayerNarrow (stmt.SetField file field pointer e)
  set_field_narrow file field pointer e t b p d a h =
      let value = value_narrow t b d 0 h e (omega arith) h.fits.exprs.each.0 h.fits.exprs.shallow.0 in
      let store = field_narrow (slice_get (files_of x) file) file field pointer refl
      (field_within b file field h.block h.fits.names.0) (omega (arith, h.fits.names.1, h.limited.temporaries)) in
      (λ n. n, narrow_on (expr_code e (places_of x t b).site 0) _ value store)

  if_goto_narrow : (c : Cond) (label : ℕ) → LayerNarrow (stmt.IfGoto c label)
  if_goto_narrow c label t b p d a h =
      let test = cond_narrow x kept few_files t b h.block c h.there h.limited h.fits.exprs in
      (λ n. n, narrow_on (cond_code c (places_of x t b).site) _ test (λ n. (omega arith, n), (λ n. n, tt)))

  for_first_narrow : (temp file field : ℕ) (rel : Rel) (e : Expr) (label : ℕ) → LayerNarrow (stmt.ForFirst temp file field rel e label)
  for_first_narrow temp file field rel e label t b p d a h =
      let code = expr_code e (places_of x t b).site 0 in
      let value = value_narrow t b d 0 h e (omega arith) h.fits.exprs.each.0 h.fits.exprs.shallow.0 in
      let found = search_narrow (slice_get (files_of x) file) temp field rel (t.label b label) (a + 1 + length code)
      (omega (arith, h.fits.names.0, h.limited.temporaries)) in
      (λ n. n, narrow_on code _ value found)

  -- values that go to a receiver
  receiver_narrow : (t : Table) (b : ℕ) (k : Block) (to : Option Receiver) (bs : List ℕ) (values : List Expr)
      (arm : ℕ → List Op) (a : ℕ) → slice_get x.blocks b ≡ Some k → IsLimited (scope_of x b k)
      → ExprsFit (scope_of x b k) values → IsHeld to → ((b : ℕ) → AllNarrow (arm b))
      → AllNarrow (receiver_code to bs (places_of x t b).site values arm a)
  receiver_narrow t b k None bs values arm a there few fits held each =
      narrow_on (values_code values (places_of x t b).site 0) _
      (values_narrow x kept few_files t b 0 k values there few (omega arith) fits.each fits.shallow) (each 0)
  receiver_narrow t b k (Some (receiver.Block to)) bs values arm a there few fits held each =
      narrow_on (values_code values (places_of x t b).site 0) _
      (values_narrow x kept few_files t b 0 k values there few (omega arith) fits.each fits.shallow) (each to)
  receiver_narrow t b k (Some (receiver.Held h)) bs values arm a there few fits held each =
      let site = (places_of x t b).site in
      narrow_on (holder_code h site) _ (holder_narrow h site held)
      (narrow_on (look_first bs values (a + 1)) _ (first_narrow bs values (a + 1))
      (narrow_on (values_code values site 1) _
      (values_narrow x kept few_files t b 1 k values there few (omega arith) fits.each fits.shallow)
      (each_narrow bs arm _ each)))

  send_narrow_of : (signal : ℕ) (to : Option Receiver) (values : List Expr) (fresh : Bool) → LayerNarrow (stmt.Send signal to values fresh)
  send_narrow_of signal to values fresh t b p d a h =
      let pl = places_of x t b in
      let held = send_held (slice_get x.signals signal) (scope_of x b h.block) to (length values) signal fresh h.fits.names h.limited.temporaries in (
        λ n. n,
        receiver_narrow t b h.block to (pl.receivers signal) values _ (a + 1) h.there h.limited h.fits.exprs held
            (λ b. send_narrow (slice_get x.signals signal) signal b fresh pl),
      )

  transfer_narrow_of : (signal : ℕ) (to : Option Receiver) → LayerNarrow (stmt.Transfer signal to)
  transfer_narrow_of signal to t b p d a h =
      let held = transfer_held (slice_get x.signals signal) (scope_of x b h.block) to signal h.fits.names h.limited.temporaries in
      (λ n. n, receiver_narrow t b h.block to ((places_of x t b).receivers signal) [] _ (a + 1) h.there h.limited h.fits.exprs held (λ b. (λ n. n, tt)))

  retrieve_narrow_of : (answer : ℕ) (temps : List ℕ) → LayerNarrow (stmt.Retrieve answer temps)
  retrieve_narrow_of answer temps t b p d a h =
      let few = answer_few (slice_get x.signals answer) (length temps) h.fits.names.0 (signal_few x kept few_files answer) in
      (λ n. n, retrieve_narrow 0 temps (are_temps (scope_of x b h.block) temps h.limited.temporaries h.fits.names.1) (omega (arith, few)))

  return_narrow : (answer : ℕ) (values : List Expr) → LayerNarrow (stmt.Return answer values)
  return_narrow answer values t b p d a h =
      let them = values_narrow x kept few_files t b 0 h.block values h.there h.limited (omega arith) h.fits.exprs.each h.fits.exprs.shallow in
      (λ n. n, narrow_on (values_code values (places_of x t b).site 0) _ them (λ n. n, tt))

  seize_narrow_of : (temp file label : ℕ) → LayerNarrow (stmt.Seize temp file label)
  seize_narrow_of temp file label t b p d a h = (
    λ n. n,
    seize_narrow (slice_get (files_of x) file) file temp
        (t.label b label) (a + 1) (omega (arith, h.fits.names.0, h.limited.temporaries)),
  )

  free_narrow_of : (temp file : ℕ) → LayerNarrow (stmt.Free temp file)
  free_narrow_of temp file t b p d a h = (λ n. n, free_narrow (slice_get (files_of x) file) file temp (omega (arith, h.fits.names.0, h.limited.temporaries)))

  -- the kinds that hold statements, from what is shown of these

  if_narrow : (c : Cond) (yes_part no_part : List ((s : Stmt) × StmtNarrow s)) → LayerNarrow (stmt.If c (map (λ e. e.0) yes_part) (map (λ e. e.0) no_part))
  if_narrow c yes_part no_part t b p d a h =
      let pl = places_of x t b in
      let test = cond_code c pl.site in
      let yes_at = a + 1 + length test + 1 in
      let first_part = codes (map stmt_code (map (λ e. e.0) yes_part)) pl d yes_at in
      let narrow = cond_narrow x kept few_files t b h.block c h.there h.limited h.fits.exprs in
      let both = has_any (map stmt_code (map (λ e. e.0) no_part)) in
      let other = yes_at + length first_part + length (past_code both 0) in
      let second_part = codes (map stmt_code (map (λ e. e.0) no_part)) pl d other in
      let past = past_code both (other + length second_part) in (
        λ n. n,
        narrow_on test _ narrow (
          λ n. (omega arith, n),
          narrow_on first_part _
              (list_narrow yes_part t b d yes_at (yes_in h))
              (narrow_on past _ (past_narrow both (other + length second_part))
              (list_narrow no_part t b d other (no_in h))),
        ),
      )

  case_narrow : (e : Expr) (whens : List ((w : When) × WhenNarrow w)) (otherwise : List ((s : Stmt) × StmtNarrow s))
      → LayerNarrow (stmt.Case e (map (λ e. e.0) whens) (map (λ e. e.0) otherwise))
  case_narrow e whens otherwise t b p d a h =
      let code = expr_code e (places_of x t b).site 0 in
      let value = value_narrow t b d 0 h e (omega arith) h.fits.exprs.each.0 h.fits.exprs.shallow.0 in
      (λ n. n, narrow_on code _ value (choices_narrow whens otherwise t b d (a + 1 + length code) (choices_in h) (otherwise_in h)))

  on_narrow : (temp : ℕ) (from upto : Expr) (body : List ((s : Stmt) × StmtNarrow s)) → LayerNarrow (stmt.On temp from upto (map (λ e. e.0) body))
  on_narrow temp from upto body t b p d a h =
      let site = (places_of x t b).site in
      let cf = expr_code from site 0 in
      let cu = expr_code upto site 1 in
      let head = a + 1 + length cf + length cu + BOUNDS_LENGTH in
      let inner = codes (map stmt_code (map (λ e. e.0) body)) (places_of x t b) (suc d) (head + TURN_LENGTH) in
      let le : d ≤ 11 = omega (arith, h.shallow) in
      let first_value = value_narrow t b d 0 h from (omega arith) h.fits.exprs.each.0 h.fits.exprs.shallow.0 in
      let last_value = value_narrow t b d 1 h upto (omega arith) h.fits.exprs.each.1.0 h.fits.exprs.shallow.1.0 in
      let turns = turns_narrow p temp d head inner (omega (arith, h.fits.names, h.limited.temporaries)) (omega arith)
      (list_narrow body t b (suc d) (head + TURN_LENGTH) (body_in h)) in (
        λ n. n,
        narrow_on cf _ first_value (narrow_on cu _ last_value (
          λ n. (omega arith, omega arith),
          (
            λ n. (omega arith, omega arith),
            (λ n. (omega arith, omega arith), (λ n. (omega arith, n), turns)),
          ),
        )),
      )

  -- one line a kind
  pub layer_narrow : (y : StmtKind-F ((k : StmtKind) × KindNarrow k) ((s : Stmt) × StmtNarrow s)
      ((w : When) × WhenNarrow w)) → LayerNarrow (map-StmtKind _ _ _ _ _ _ (λ e. e.0) (λ e. e.0) (λ e. e.0) y)
  layer_narrow (stmt.Enter signal temps) = enter_narrow signal temps
  layer_narrow (stmt.SetTemp temp e) = set_temp_narrow temp e
  layer_narrow (stmt.SetVariable v e) = set_variable_narrow v e
  layer_narrow (stmt.SetField file field pointer e) = set_field_narrow file field pointer e
  layer_narrow (stmt.Goto label) = λ t b p d a h. (λ n. n, (λ n. n, tt))
  layer_narrow (stmt.IfGoto c label) = if_goto_narrow c label
  layer_narrow (stmt.If c yes_part no_part) = if_narrow c yes_part no_part
  layer_narrow (stmt.Case e whens otherwise) = case_narrow e whens otherwise
  layer_narrow (stmt.On temp from upto body) = on_narrow temp from upto body
  layer_narrow (stmt.ForFirst temp file field rel e label) = for_first_narrow temp file field rel e label
  layer_narrow (stmt.Send signal to values fresh) = send_narrow_of signal to values fresh
  layer_narrow (stmt.Retrieve answer temps) = retrieve_narrow_of answer temps
  layer_narrow (stmt.Return answer values) = return_narrow answer values
  layer_narrow (stmt.Transfer signal to) = transfer_narrow_of signal to
  layer_narrow (stmt.Seize temp file label) = seize_narrow_of temp file label
  layer_narrow (stmt.Free temp file) = free_narrow_of temp file
  layer_narrow stmt.Exit = λ t b p d a h. (λ n. n, (λ n. tt, tt))
  layer_narrow stmt.Finish = λ t b p d a h. (λ n. n, (λ n. tt, tt))
