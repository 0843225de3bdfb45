-- What a statement has inside it, and how it is done by its kind.
use Rattle.std.proofs.Common.{◌≡◌, ℕ, ◌≤◌, Bool, ◌⊎◌, inl, inr, refl, List, [], ◌∷◌, length, Option}
use Rattle.std.proofs.Common.{Some, None, slice_get, ap, sym, ◌∙◌, subst, arith}
use Rattle.std.specs.List.{AllByRecursion}
use Rattle.plex_limits.specs.declared.limits.TheConstants.{MOST_BLOCKS, MOST_VALUES}
use Rattle.plex_num.proofs.Lists.{all_at}
use Rattle.exchange_model.specs.declared.expr.Cond.{Cond}
use Rattle.exchange_model.specs.declared.expr.Expr.{Expr}
use Rattle.exchange_model.specs.declared.expr.Rel.{Rel}
use Rattle.exchange_model.specs.declared.signal.SignalKind.{SignalKind}
use Rattle.exchange_model.specs.declared.signal.SignalKind.TheVariants.{Buffered, Direct, Combined}
use Rattle.exchange_model.specs.declared.signal.SignalKind.TheVariants.{Answer as Answers, Outside}
use Rattle.exchange_model.specs.declared.stmt.Receiver.{Receiver}
use Rattle.exchange_model.specs.declared.stmt.Stmt.{Stmt}
use Rattle.exchange_model.specs.declared.stmt.When.{When, out-When}
use Rattle.exchange_model.specs.declared.stmt.StmtKind.{StmtKind, StmtKind-F, out-StmtKind}
use Rattle.exchange_model.specs.declared.stmt.StmtKind.TheOpen as stmt
use Rattle.exchange_model.specs.declared.stmt.StmtKind.TheVariants as kind
use Rattle.exchange_model.specs.Fits.{Scope, ExprFits, SendFits, AnswerFits, LayerFits}
use Rattle.exchange_model.specs.Inside.{own_exprs}
use Rattle.exchange_model.specs.Kept.{SignalsKept, signal_count}
use Rattle.exchange_model.specs.PartFits.{StmtsFit, PartsFit}
use Rattle.exchange_model.proofs.Layers.{stmt_fits-out, stmt_fits-parts}
use Rattle.source_meaning.specs.Config.{Config}
use Rattle.source_meaning.specs.Step.{does}
use Rattle.source_meaning.specs.Changes.{ends}
use Rattle.source_interpreter.specs.Running.{Running}
use Rattle.source_interpreter.specs.Leaves.{Leaves, Follows, Does}
use Rattle.source_interpreter.specs.declared.cases.Cases.{Cases}
use Rattle.source_interpreter.specs.Cases.{FindsOwn, LayerKnown, WhenKnown}
use Rattle.source_interpreter.specs.Kept.{IsExprOfText, AreExprsOfText, IsCondOfText, IsOfText}
use Rattle.source_interpreter.specs.Kept.{AreOfText, AreWhensOfText}
use Rattle.source_interpreter.proofs.Follow.{Answer, start_of}
use Rattle.source_interpreter.proofs.Known.{known_opened}
use Rattle.source_interpreter.proofs.Texts.{all_of, of_scope, cond_of}

-- the lists in a statement

module _ (cases : Cases) (s : Stmt) (k : StmtKind) (l : StmtKind-F StmtKind Stmt When) (h : IsOfText cases s)
    (is : s.kind ≡ k) (outs : out-StmtKind k ≡ l) where
  parts : PartsFit h.scope l
  parts = subst (λ m. PartsFit h.scope m) (ap out-StmtKind is ∙ outs) (stmt_fits-parts h.scope s.kind h.fits)

  known : LayerKnown cases s.point l
  known = subst (LayerKnown cases s.point) (ap out-StmtKind is ∙ outs) (known_opened cases s h.known)

of_whens : (cases : Cases) (s : Scope) → SignalsKept s.signals → length s.blocks ≤ MOST_BLOCKS → (ws : List When)
    → AllByRecursion (λ w. StmtsFit s (out-When w).body) ws → AllByRecursion (WhenKnown cases) ws
    → AreWhensOfText cases ws
of_whens cases s kept few [] h all = tt
of_whens cases s kept few (w ∷ ws) h all = (of_scope cases s kept few (out-When w).body h.0 all.0, of_whens cases s kept few ws h.1 all.1)

module _ (cases : Cases) (s : Stmt) (cond : Cond) (first other : List Stmt) (h : IsOfText cases s) (is : s.kind ≡ kind.If cond first other) where
  if_fits : PartsFit {K = StmtKind} h.scope (stmt.If cond first other)
  if_fits = parts cases s (kind.If cond first other) (stmt.If cond first other) h is (kind.outs-If cond first other)

  if_known : LayerKnown cases s.point (stmt.If cond first other)
  if_known = known cases s (kind.If cond first other) (stmt.If cond first other) h is (kind.outs-If cond first other)

  pub if_first_kept : AreOfText cases first
  if_first_kept = of_scope cases h.scope h.signals h.few first if_fits.0 if_known.0

  pub if_other_kept : AreOfText cases other
  if_other_kept = of_scope cases h.scope h.signals h.few other if_fits.1 if_known.1

module _ (cases : Cases) (s : Stmt) (e : Expr) (whens : List When) (otherwise : List Stmt) (h : IsOfText cases s)
    (is : s.kind ≡ kind.Case e whens otherwise) where
  case_fits : PartsFit {K = StmtKind} h.scope (stmt.Case e whens otherwise)
  case_fits = parts cases s (kind.Case e whens otherwise) (stmt.Case e whens otherwise) h is (kind.outs-Case e whens otherwise)

  case_known : LayerKnown cases s.point (stmt.Case e whens otherwise)
  case_known = known cases s (kind.Case e whens otherwise) (stmt.Case e whens otherwise) h is (kind.outs-Case e whens otherwise)

  pub whens_kept : AreWhensOfText cases whens
  whens_kept = of_whens cases h.scope h.signals h.few whens case_fits.0 case_known.choices

  pub otherwise_kept : AreOfText cases otherwise
  otherwise_kept = of_scope cases h.scope h.signals h.few otherwise case_fits.1 case_known.other

  pub table_kept : FindsOwn cases s.point whens
  table_kept = case_known.own

pub body_kept : (cases : Cases) (s : Stmt) (temp : ℕ) (from upto : Expr) (body : List Stmt) → IsOfText cases s
    → s.kind ≡ kind.On temp from upto body → AreOfText cases body
body_kept cases s temp from upto body h is =
    let fits = parts cases s (kind.On temp from upto body) (stmt.On temp from upto body) h is (kind.outs-On temp from upto body) in
    of_scope cases h.scope h.signals h.few body fits
    (known cases s (kind.On temp from upto body) (stmt.On temp from upto body) h is
    (kind.outs-On temp from upto body))

-- at most as many values as a signal may have

own : (cases : Cases) (s : Stmt) (k : StmtKind) (l : StmtKind-F StmtKind Stmt When) (h : IsOfText cases s) → s.kind ≡ k
    → out-StmtKind k ≡ l → LayerFits h.scope l
own cases s k l h is outs = subst (λ m. LayerFits h.scope m) (ap out-StmtKind is ∙ outs) (stmt_fits-out h.scope s.kind h.fits)

few_sent_by : (s : Scope) (found : Option SignalKind) (signal : ℕ) (to : Option Receiver) (n : ℕ) (fresh : Bool)
    → ((k : SignalKind) → found ≡ Some k → signal_count k ≤ MOST_VALUES) → SendFits s found signal to n fresh
    → n ≤ MOST_VALUES
few_sent_by s None signal to n fresh few fits = absurd fits
few_sent_by s (Some (Buffered name level count)) signal to n fresh few fits = let k = few (Buffered name level count) refl in omega (arith, k, fits.0)
few_sent_by s (Some (Direct name count)) signal to n fresh few fits = let k = few (Direct name count) refl in omega (arith, k, fits.0)
few_sent_by s (Some (Combined name count answer)) signal to n fresh few fits = let k = few (Combined name count answer) refl in omega (arith, k, fits.0)
few_sent_by s (Some (Answers name count combined)) signal to n fresh few fits = absurd fits
few_sent_by s (Some (Outside name count)) signal to n fresh few fits = let k = few (Outside name count) refl in omega (arith, k, fits.0)

pub few_sent : (cases : Cases) (s : Stmt) (signal : ℕ) (to : Option Receiver) (es : List Expr) (fresh : Bool)
    → IsOfText cases s → s.kind ≡ kind.Send signal to es fresh → length es ≤ MOST_VALUES
few_sent cases s signal to es fresh h is =
    few_sent_by h.scope (slice_get h.scope.signals signal) signal to (length es) fresh
    (λ k there. all_at (λ s. signal_count s ≤ MOST_VALUES) h.scope.signals signal k h.signals.values there)
    (own cases s (kind.Send signal to es fresh) (stmt.Send signal to es fresh) h is (kind.outs-Send signal to es fresh)).names

few_answered : (found : Option SignalKind) (n : ℕ) → ((k : SignalKind) → found ≡ Some k → signal_count k ≤ MOST_VALUES) → AnswerFits found n → n ≤ MOST_VALUES
few_answered (Some (Answers name count combined)) n few fits = let k = few (Answers name count combined) refl in omega (arith, k, fits)
few_answered _ n few fits = absurd fits

pub few_returned : (cases : Cases) (s : Stmt) (answer : ℕ) (es : List Expr) → IsOfText cases s → s.kind ≡ kind.Return answer es → length es ≤ MOST_VALUES
few_returned cases s answer es h is =
    few_answered (slice_get h.scope.signals answer) (length es)
    (λ k there. all_at (λ s. signal_count s ≤ MOST_VALUES) h.scope.signals answer k h.signals.values there)
    (own cases s (kind.Return answer es) (stmt.Return answer es) h is (kind.outs-Return answer es)).names

-- its expressions

exprs : (cases : Cases) (s : Stmt) (k : StmtKind) (l : StmtKind-F StmtKind Stmt When) (h : IsOfText cases s)
    → s.kind ≡ k → out-StmtKind k ≡ l → AreExprsOfText (own_exprs l)
exprs cases s k l h is outs = all_of ExprFits h.scope h.signals h.few (own_exprs l) (own cases s k l h is outs).exprs.each

pub of_temp : (cases : Cases) (s : Stmt) (temp : ℕ) (e : Expr) → IsOfText cases s → s.kind ≡ kind.SetTemp temp e → IsExprOfText e
of_temp cases s temp e h is = (exprs cases s (kind.SetTemp temp e) (stmt.SetTemp temp e) h is (kind.outs-SetTemp temp e)).0

pub of_variable : (cases : Cases) (s : Stmt) (variable : ℕ) (e : Expr) → IsOfText cases s → s.kind ≡ kind.SetVariable variable e → IsExprOfText e
of_variable cases s variable e h is = (exprs cases s (kind.SetVariable variable e) (stmt.SetVariable variable e) h is (kind.outs-SetVariable variable e)).0

pub of_field : (cases : Cases) (s : Stmt) (file field pointer : ℕ) (e : Expr) → IsOfText cases s → s.kind ≡ kind.SetField file field pointer e → IsExprOfText e
of_field cases s file field pointer e h is = (exprs cases s (kind.SetField file field pointer e)
    (stmt.SetField file field pointer e) h is (kind.outs-SetField file field pointer e)).0

pub of_if_goto : (cases : Cases) (s : Stmt) (cond : Cond) (label : ℕ) → IsOfText cases s → s.kind ≡ kind.IfGoto cond label → IsCondOfText cond
of_if_goto cases s cond label h is = cond_of cond (exprs cases s (kind.IfGoto cond label) (stmt.IfGoto cond label) h is (kind.outs-IfGoto cond label))

pub of_if : (cases : Cases) (s : Stmt) (cond : Cond) (first other : List Stmt) → IsOfText cases s → s.kind ≡ kind.If cond first other → IsCondOfText cond
of_if cases s cond first other h is = cond_of cond (exprs cases s (kind.If cond first other) (stmt.If cond first other) h is (kind.outs-If cond first other))

pub of_case : (cases : Cases) (s : Stmt) (e : Expr) (whens : List When) (otherwise : List Stmt) → IsOfText cases s
    → s.kind ≡ kind.Case e whens otherwise → IsExprOfText e
of_case cases s e whens otherwise h is = (exprs cases s (kind.Case e whens otherwise) (stmt.Case e whens otherwise) h is (kind.outs-Case e whens otherwise)).0

pub of_from : (cases : Cases) (s : Stmt) (temp : ℕ) (from upto : Expr) (body : List Stmt) → IsOfText cases s
    → s.kind ≡ kind.On temp from upto body → IsExprOfText from
of_from cases s temp from upto body h is = (exprs cases s (kind.On temp from upto body) (stmt.On temp from upto body) h is (kind.outs-On temp from upto body)).0

pub of_upto : (cases : Cases) (s : Stmt) (temp : ℕ) (from upto : Expr) (body : List Stmt) → IsOfText cases s
    → s.kind ≡ kind.On temp from upto body → IsExprOfText upto
of_upto cases s temp from upto body h is = (exprs cases s (kind.On temp from upto body) (stmt.On temp from upto body) h
    is (kind.outs-On temp from upto body)).1.0

pub of_first : (cases : Cases) (s : Stmt) (temp file field : ℕ) (rel : Rel) (e : Expr) (label : ℕ) → IsOfText cases s
    → s.kind ≡ kind.ForFirst temp file field rel e label → IsExprOfText e
of_first cases s temp file field rel e label h
    is = (exprs cases s (kind.ForFirst temp file field rel e label) (stmt.ForFirst temp file field rel e label) h is
    (kind.outs-ForFirst temp file field rel e label)).0

pub of_send : (cases : Cases) (s : Stmt) (signal : ℕ) (to : Option Receiver) (es : List Expr) (fresh : Bool)
    → IsOfText cases s → s.kind ≡ kind.Send signal to es fresh → AreExprsOfText es
of_send cases s signal to es fresh h is = exprs cases s (kind.Send signal to es fresh) (stmt.Send signal to es fresh) h is (kind.outs-Send signal to es fresh)

pub of_return : (cases : Cases) (s : Stmt) (answer : ℕ) (es : List Expr) → IsOfText cases s → s.kind ≡ kind.Return answer es → AreExprsOfText es
of_return cases s answer es h is = exprs cases s (kind.Return answer es) (stmt.Return answer es) h is (kind.outs-Return answer es)

-- a statement is done by its kind

pub by_kind : (s : Stmt) (k : StmtKind) (l : StmtKind-F StmtKind Stmt When) (r r' : Running) (w w' : List ℕ)
    (o : Answer) → s.kind ≡ k → out-StmtKind k ≡ l → Does l r w o r' w' → Does (out-StmtKind s.kind) r w o r' w'
by_kind s k l r r' w w' o is outs done =
    let P : StmtKind-F StmtKind Stmt When → Type 0 = λ m. Does m r w o r' w' in
    subst P (sym (ap out-StmtKind is ∙ outs)) done

-- both ends of a text are ends of the activation
ended : (s : Stmt) (k : StmtKind) (l : StmtKind-F StmtKind Stmt When) (r : Running) (w : List ℕ) (o : Answer)
    → s.kind ≡ k → out-StmtKind k ≡ l → ((c : Config) → does r.exchange r.own.point l r.todo c ≡ ends c.callers c)
    → ((v : List ℕ) → Follows (ends r.callers) r v o r v) → Does (out-StmtKind s.kind) r w o r w
ended s k l r w o is outs same follows =
    by_kind s k l r r w w o is outs (record {
      leaves = λ trace todo.
          let c : Config = start_of r w trace todo in
          let P : Config → Type 0 = λ d. Leaves r.exchange w d o r w in
          subst P (sym (same c)) ((follows w).leaves trace todo);
    })

pub exits : (s : Stmt) (r : Running) (w : List ℕ) (o : Answer) → (s.kind ≡ kind.Exit) ⊎ (s.kind ≡ kind.Finish)
    → ((v : List ℕ) → Follows (ends r.callers) r v o r v) → Does (out-StmtKind s.kind) r w o r w
exits s r w o (inl is) follows = ended s kind.Exit stmt.Exit r w o is kind.outs-Exit (λ c. refl) follows
exits s r w o (inr is) follows = ended s kind.Finish stmt.Finish r w o is kind.outs-Finish (λ c. refl) follows

-- what a statement has inside it
pub ruleset inside = (
  if_first_kept,
  if_other_kept,
  whens_kept,
  otherwise_kept,
  table_kept,
  body_kept,
  few_sent,
  few_returned,
  of_temp,
  of_variable,
  of_field,
  of_if_goto,
  of_if,
  of_case,
  of_from,
  of_upto,
  of_first,
  of_send,
  of_return,
)
