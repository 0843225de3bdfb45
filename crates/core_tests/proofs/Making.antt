-- Values that are built from texts.
use Rattle.std.proofs.Common.{◌≡◌, ℕ, ◌≤◌, ◌<◌, ◌^◌, true, List, [], length, map, Result, Ok, Err}
use Rattle.std.proofs.Common.{IfOk, refl, sym, subst, ap, ◌∙◌, arith}
use Rattle.std.specs.List.Sorted.{IsStrictlySortedBy}
use Rattle.std.proofs.Math.Nat.{le_trans}
use Rattle.plex_limits.specs.declared.limits.TheConstants.{MOST_BYTES, MOST_WHENS}
use Rattle.plex_num.proofs.Numbers.{few_enough}
use Rattle.plex_lexer.specs.Lexed.{tokens_of}
use Rattle.plex_lexer.specs.declared.token.Token.{Token}
use Rattle.plex_ast.specs.Grammar.{Sentence}
use Rattle.plex_ast.specs.declared.tree.Tree.{Tree}
use Rattle.kept_trees.specs.Keeps.{IsKept}
use Rattle.kept_trees.proofs.Texts.{read_keeps}
use Rattle.resolved_block.specs.Texts.{choices_in, exchange_of_tree}
use Rattle.text_soundness.proofs.SpelledTexts.{tree_least}
use Rattle.exchange_model.specs.declared.exchange.Exchange.{Exchange}
use Rattle.exchange_model.specs.Kept.{IsExchange}
use Rattle.exchange_model.specs.Opening.{opening_store}
use Rattle.signal_file.specs.declared.line.Line.{Line}
use Rattle.signal_file.specs.Lines.{signal_lines}
use Rattle.source_meaning.specs.Arrivals.{arrivals}
use Rattle.source_meaning.specs.SingleRun.{after}
use Rattle.source_meaning.specs.State.{Coming}
use Rattle.source_meaning.specs.Valid.{IsValid, LinesFit}
use Rattle.flow_points.specs.Orders.{fact_order}
use Rattle.run_books.specs.Accounts.{Account, opened, with_words}
use Rattle.run_books.specs.Lines.{coming_of}
use Rattle.run_books.proofs.Fitting.{signal_lines_few, signal_lines_fit}
use Rattle.exchange_run.specs.Runs.{RunStands}
use Rattle.exchange_run.proofs.Opened.{begins_valid as opens_valid, nobody_runs}
use Rattle.exchange_run.proofs.Turning.{stands_begin, stands_valid}
use Rattle.exchange_run.proofs.Resting.{quiet_again}
use Rattle.certificate_text.specs.declared.certificate.Certificate.{Certificate}
use Rattle.certificate_text.specs.Lines.{IsTextOf}

-- ## Trees

pub trees_are_kept : {E : Type 0} (text : List ℕ) (tokens : List Token) (read : Result Tree E)
    → tokens_of text ≡ Ok tokens → IfOk read (λ t. Sentence t tokens) → IfOk read IsKept
trees_are_kept text tokens (Ok t) lexed spelled = read_keeps true text tokens t lexed spelled
trees_are_kept text tokens (Err e) lexed spelled = tt

pub tree_has_few : (text : List ℕ) (tokens : List Token) (t : Tree) → length tokens ≤ length text
    → length text ≤ MOST_BYTES → Sentence t tokens → choices_in (exchange_of_tree t) ≤ MOST_WHENS
tree_has_few text tokens t fewer small spelled = few_enough MOST_WHENS MOST_BYTES (choices_in (exchange_of_tree t))
    (length tokens) (length text) (omega arith) ((tree_least t).long tokens spelled) fewer small

-- ## Signal lines

pub lines_fit : (x known : Exchange) (text : List ℕ) (lines : List Line) → Ok lines ≡ signal_lines known text → known ≡ x → LinesFit x [] (map coming_of lines)
lines_fit x known text lines is same = signal_lines_fit x text lines (sym (is ∙ ap (λ y. signal_lines y text) same))

pub lines_few : (x : Exchange) (text : List ℕ) (lines : List Line) → length text ≤ MOST_BYTES → Ok lines ≡ signal_lines x text → length lines < 2 ^ 32
lines_few x text lines small is = signal_lines_few x text lines (le_trans small (omega arith)) (sym is)

-- ## Certificates

pub told_rises : (text : List ℕ) (c : Certificate) → IsTextOf text c → IsStrictlySortedBy fact_order c.facts
told_rises text c is = is.fits.rises

-- ## Books before the first job

module _ (x : Exchange) (kept : IsExchange x) (lines : List Coming) (limit : ℕ) (fit : LinesFit x [] lines)
    (first b : Account) (opens : first ≡ opened lines limit)
    (arrived : b ≡ record first { state = arrivals x first.state }) where
  begins : RunStands x (with_words first.state (opening_store x.blocks)) first.limit 0 b (opening_store x.blocks)
  begins = stands_begin x first b (opening_store x.blocks) (nobody_runs lines limit first opens) arrived

  pub begins_valid : IsValid x (with_words b.state (opening_store x.blocks))
  begins_valid = stands_valid x kept (with_words first.state (opening_store x.blocks)) first.limit
      (opens_valid x lines limit first (opening_store x.blocks) kept fit opens refl) 0 b (opening_store x.blocks) begins

  pub begins_quiet : arrivals x (with_words b.state (opening_store x.blocks)) ≡ with_words b.state (opening_store x.blocks)
  unfolding after
  begins_quiet = subst (λ s. arrivals x s ≡ s) (sym begins.state) (quiet_again x (with_words first.state (opening_store x.blocks)))
