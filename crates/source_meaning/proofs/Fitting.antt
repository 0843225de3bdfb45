-- What stands in the text of a block of an exchange is of that block.
use Rattle.std.proofs.Common.{◌≡◌, inl, inr, ℕ, ◌≤◌, List, [], ◌∷◌, length, map, Option, Some, None}
use Rattle.std.proofs.Common.{refl, sym, subst, slice_get}
use Rattle.std.specs.List.{AllByRecursion}
use Rattle.std.proofs.lemmas.Option.{none-some, same_Some, slice_get_past}
use Rattle.exchange_model.specs.declared.exchange.Exchange.{Exchange}
use Rattle.exchange_model.specs.declared.block.Block.{Block}
use Rattle.exchange_model.specs.declared.expr.Expr.{Expr, out-Expr}
use Rattle.exchange_model.specs.declared.expr.Term.{Term, out-Term}
use Rattle.exchange_model.specs.declared.expr.Joined.{Joined}
use Rattle.exchange_model.specs.declared.expr.Factor.{Factor}
use Rattle.exchange_model.specs.declared.expr.Factor.TheVariants as factor
use Rattle.exchange_model.specs.declared.signal.SignalKind.{SignalKind}
use Rattle.exchange_model.specs.declared.stmt.Stmt.{Stmt}
use Rattle.exchange_model.specs.declared.stmt.When.{When, out-When}
use Rattle.exchange_model.specs.declared.stmt.StmtKind.{out-StmtKind}
use Rattle.exchange_model.specs.declared.stmt.StmtKind.TheOpen as stmt
use Rattle.exchange_model.specs.Fits.{AnswerFits, retrieved, Scope, ArePaired, InnerFits, ListsFit}
use Rattle.exchange_model.specs.Fits.{awaited, IsTemporary, IsVariable, IsField, ExprFits}
use Rattle.exchange_model.specs.Fits.{FactorFits}
use Rattle.exchange_model.specs.Inside.{joined}
use Rattle.exchange_model.specs.Kept.{IsExchange, scope_of}
use Rattle.exchange_model.proofs.Layers.{stmt_fits-out, stmt_fits-parts, expr_fits-out}
use Rattle.exchange_model.proofs.Layers.{term_fits-out, joined_fits-out, factor_fits-out}
use Rattle.exchange_model.specs.PartFits.{StmtsFit, PartsFit, TermFits, JoinedFits, FactorOwnFits}
use Rattle.exchange_model.specs.PartFits.{InsideFits}
use Rattle.source_meaning.specs.Config.{Item}
use Rattle.source_meaning.specs.Deeds.{IsBranch}
use Rattle.source_meaning.specs.Named.{Layer, Named, NamedVariable, NamedField, named_in}
use Rattle.source_meaning.specs.Named.{named_in_term, named_in_factor, named_in_joined}
use Rattle.source_meaning.specs.Rests.{IsRow, whole, later, branch, turn, StandsInText, StandsAs}
use Rattle.source_meaning.specs.Rests.{IsLoop, IsOfBlock}
use Rattle.plex_num.proofs.Lists.{all_append}
use Rattle.source_meaning.proofs.Lists.{all_contained}
use Rattle.source_meaning.proofs.Naming.{named_in-out, named_in_term-out, named-Variable}
use Rattle.source_meaning.proofs.Naming.{named-Field, named-Bracket, named-Number, named-Temporary}
use Rattle.source_meaning.proofs.Naming.{named-Reference}
use Rattle.source_meaning.proofs.Parts.{NodeParts, every_expr}

-- rows

branch_fits : (scope : Scope) (l : Layer) (body : List Stmt) → PartsFit scope l → IsBranch l body → StmtsFit scope body
branch_fits scope (stmt.If cond yes_part no_part) body parts (inl is) = subst (StmtsFit scope) (sym is) parts.0
branch_fits scope (stmt.If cond yes_part no_part) body parts (inr is) = subst (StmtsFit scope) (sym is) parts.1
branch_fits scope (stmt.Case value whens otherwise) body parts (inl is) = subst (StmtsFit scope) (sym is) parts.1
branch_fits scope (stmt.Case value whens otherwise) body parts (inr is) =
    subst (StmtsFit scope) (sym is.2) (all_contained (λ (w : When). StmtsFit scope (out-When w).body) whens is.0 parts.0 is.1)
branch_fits scope _ body parts is = absurd is

-- all statements of a row, with all those in them, are of the block
pub record RowFits (x : Exchange) (b : ℕ) (list : List Stmt) : Type 0 where
  pub block : Block
  pub there : slice_get x.blocks b ≡ Some block
  pub fits : StmtsFit (scope_of x b block) list

module _ (x : Exchange) (kept : IsExchange x) (b : ℕ) where
  pub row_fits : (list : List Stmt) (end : Option ℕ) → IsRow x b list end → RowFits x b list
  row_fits list end (whole k there) = record { block = k; there = there; fits = (kept.blocks.each b k there).statements }
  row_fits list end (later s rest e row) = let r = row_fits (s ∷ rest) e row in record { block = r.block; there = r.there; fits = r.fits.1 }
  row_fits list end (branch s rest e body row is) =
      let r = row_fits (s ∷ rest) e row in
      record {
        block = r.block;
        there = r.there;
        fits = branch_fits (scope_of x b r.block) (out-StmtKind s.kind) body
            (stmt_fits-parts (scope_of x b r.block) s.kind r.fits.0) is;
      }
  row_fits list end (turn s rest e temp from upto body row is) =
      let r = row_fits (s ∷ rest) e row in
      record { block = r.block; there = r.there; fits = subst (PartsFit (scope_of x b r.block)) is (stmt_fits-parts (scope_of x b r.block) s.kind r.fits.0) }

  abbrev pub FitsIn : Layer → Type 0
  FitsIn l = IsOfBlock x b l

  pub stmt_fits_in : (s : Stmt) (rest : List Item) → StandsInText x b s rest → FitsIn (out-StmtKind s.kind)
  stmt_fits_in s rest h =
      let r = row_fits (s ∷ h.list) h.end h.row in
      record { block = r.block; there = r.there; fits = stmt_fits-out (scope_of x b r.block) s.kind r.fits.0 }

  pub deed_fits_in : (p : ℕ) (l : Layer) (rest : List Item) → StandsAs x b p l rest → FitsIn l
  deed_fits_in p l rest h = subst FitsIn h.is (stmt_fits_in h.stmt rest h.stands)

  pub loop_fits_in : (p temp : ℕ) (body : List Stmt) (rest : List Item) (h : IsLoop x b p temp body rest) → FitsIn (stmt.On temp h.from h.upto body)
  loop_fits_in p temp body rest h = subst FitsIn h.is (stmt_fits_in h.stmt rest h.stands)

  -- each combined SEND of a row is followed by its RETRIEVE, and no other statement by one
  pub record IsPaired (list : List Stmt) : Type 0 where
    pub answer : Option ℕ
    pub pairs : ArePaired x.signals answer list

  branch_paired : (scope : Scope) (l : Layer) (body : List Stmt) → scope.signals ≡ x.signals → ListsFit scope l → IsBranch l body → IsPaired body
  branch_paired scope (stmt.If cond yes_part no_part) body same lists (inl is) = record {
    answer = None;
    pairs = subst (λ s. ArePaired s None body) same
        (subst (ArePaired scope.signals None) (sym is) lists.0.1);
  }
  branch_paired scope (stmt.If cond yes_part no_part) body same lists (inr is) = record {
    answer = None;
    pairs = subst (λ s. ArePaired s None body) same
        (subst (ArePaired scope.signals None) (sym is) lists.1.1);
  }
  branch_paired scope (stmt.Case value whens otherwise) body same lists (inl is) = record {
    answer = None;
    pairs = subst (λ s. ArePaired s None body) same
        (subst (ArePaired scope.signals None) (sym is) lists.1.1);
  }
  branch_paired scope (stmt.Case value whens otherwise) body same lists (inr is) =
      let fit = all_contained (λ (w : When). InnerFits scope (out-When w).body) whens is.0 lists.0 is.1 in
      record { answer = None; pairs = subst (λ s. ArePaired s None body) same (subst (ArePaired scope.signals None) (sym is.2) fit.1) }
  branch_paired scope _ body same lists is = absurd is

  loop_paired : (block : Block) (l : Layer) (temp : ℕ) (from upto : Expr) (body : List Stmt)
      → l ≡ stmt.On temp from upto body → ListsFit (scope_of x b block) l → IsPaired body
  loop_paired block l temp from upto body is lists = record { answer = None; pairs = (subst (ListsFit (scope_of x b block)) is lists).1 }

  row_pairs : (list : List Stmt) (end : Option ℕ) → IsRow x b list end → IsPaired list
  row_pairs list end (whole k there) = record { answer = None; pairs = (kept.blocks.each b k there).paired }
  row_pairs list end (later s rest e row) = record { answer = awaited x.signals (out-StmtKind s.kind); pairs = (row_pairs (s ∷ rest) e row).pairs.1 }
  row_pairs list end (branch s rest e body row is) =
      let r = row_fits (s ∷ rest) e row in
      branch_paired (scope_of x b r.block) (out-StmtKind s.kind) body refl (stmt_fits-out (scope_of x b r.block) s.kind r.fits.0).lists is
  row_pairs list end (turn s rest e temp from upto body row is) =
      let r = row_fits (s ∷ rest) e row in
      loop_paired r.block (out-StmtKind s.kind) temp from upto body is (stmt_fits-out (scope_of x b r.block) s.kind r.fits.0).lists

  pub row_paired : (s : Stmt) (rest : List Stmt) (end : Option ℕ) → IsRow x b (s ∷ rest) end
      → ArePaired x.signals (awaited x.signals (out-StmtKind s.kind)) rest
  row_paired s rest end row = (row_pairs (s ∷ rest) end row).pairs.1

-- what an expression of a block names is of the block

abbrev pub NamedFits : Scope → Named → Type 0
NamedFits s (NamedVariable v) = IsVariable s v
NamedFits s (NamedField file field pointer) = IsField s file field × IsTemporary s pointer

module _ (s : Scope) where
  abbrev ExprNames : Expr → Type 0
  ExprNames e = ExprFits s e → AllByRecursion (NamedFits s) (named_in e)

  abbrev TermNames : Term → Type 0
  TermNames t = TermFits s t → AllByRecursion (NamedFits s) (named_in_term t)

  abbrev FactorNames : Factor → Type 0
  FactorNames f = FactorOwnFits s f → AllByRecursion (NamedFits s) (named_in_factor f)

  names_of_terms : (ts : List Term) → AllByRecursion TermNames ts → AllByRecursion (TermFits s) ts
      → AllByRecursion (NamedFits s) (joined (map named_in_term ts))
  names_of_terms [] each fit = tt
  names_of_terms (t ∷ ts) each fit = all_append (NamedFits s) (named_in_term t) (joined (map named_in_term ts)) (each.0 fit.0) (names_of_terms ts each.1 fit.1)

  names_of_factors : (js : List Joined) → AllByRecursion (λ (j : Joined). FactorNames j.factor) js
      → AllByRecursion (JoinedFits s) js → AllByRecursion (NamedFits s) (joined (map named_in_joined js))
  names_of_factors [] each fit = tt
  names_of_factors (j ∷ js) each fit = all_append (NamedFits s) (named_in_factor j.factor)
      (joined (map named_in_joined js)) (each.0 (joined_fits-out s j fit.0)) (names_of_factors js each.1 fit.1)

  nothing_named : (f : Factor) → named_in_factor f ≡ [] → AllByRecursion (NamedFits s) (named_in_factor f)
  nothing_named f is = subst (AllByRecursion (NamedFits s)) (sym is) tt

  name_parts : NodeParts ExprNames TermNames FactorNames
  name_parts = record {
    expr = λ e each fit. subst (AllByRecursion (NamedFits s)) (sym (named_in-out e)) (names_of_terms (out-Expr e).terms each (expr_fits-out s e fit).1);
    term = λ t each fit. subst (AllByRecursion (NamedFits s)) (sym (named_in_term-out t))
        (names_of_factors (out-Term t).factors each (term_fits-out s t fit).1);
    number = λ n fit. nothing_named (factor.Number n) (named-Number n);
    variable = λ v fit. subst (AllByRecursion (NamedFits s)) (sym (named-Variable v))
        (subst (FactorFits s) (factor.outs-Variable v) (factor_fits-out s (factor.Variable v) fit).0, tt);
    temporary = λ t fit. nothing_named (factor.Temporary t) (named-Temporary t);
    field = λ file field pointer fit.
        subst (AllByRecursion (NamedFits s)) (sym (named-Field file field pointer)) (
          subst (FactorFits s) (factor.outs-Field file field pointer)
              (factor_fits-out s (factor.Field file field pointer) fit).0,
          tt,
        );
    bracket = λ e inside fit. subst (AllByRecursion (NamedFits s)) (sym (named-Bracket e))
        (inside (subst (InsideFits s) (factor.outs-Bracket e) (factor_fits-out s (factor.Bracket e) fit).1));
    reference = λ b fit. nothing_named (factor.Reference b) (named-Reference b);
  }

  pub names_fit : (e : Expr) → ExprFits s e → AllByRecursion (NamedFits s) (named_in e)
  names_fit e = every_expr name_parts e

-- a RETRIEVE is of an answer of the exchange

fits_none : (signals : List SignalKind) (answer n : ℕ) → length signals ≤ answer → AnswerFits (slice_get signals answer) n → ⊥
fits_none signals answer n past fits = subst (λ o. AnswerFits o n) (slice_get_past signals answer past) fits

pub answer_below : (x : Exchange) (b : ℕ) (l : Layer) (answer : ℕ) → length x.signals ≤ answer → IsOfBlock x b l → retrieved l ≡ Some answer → ⊥
answer_below x b (stmt.Retrieve m temps) answer past fits is = fits_none x.signals m (length temps)
    (subst (λ n. length x.signals ≤ n) (sym (same_Some m answer is)) past) fits.fits.names.0
answer_below x b _ answer past fits is = none-some answer is
