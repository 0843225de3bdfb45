use Rattle.std.proofs.Common.{◌≡◌, ℕ, List, Option, Result, Ok, subst, ◌∙◌}
use Rattle.plex_io.specs.Files.{Files}
use Rattle.exchange_model.specs.declared.exchange.Exchange.{Exchange}
use Rattle.signal_file.specs.declared.line.Line.{Line}
use Rattle.command_words.specs.Words.{Word}
use Rattle.command_words.specs.declared.command.RunWords.{RunWords}
use Rattle.answer_meaning.specs.Given.{exchange_at, lines_at, text_at}
use Rattle.answer_meaning.specs.Outcome.{ComesOf}
use Rattle.answer_meaning.specs.RunAnswer.{IsCertifiedRun, RunsWith, run_answer}
use Rattle.answer_meaning.specs.Stages.{Comes, Performs, TellsOutcome}
use Rattle.answer_meaning.specs.declared.answer.Answer.{Answer}
use Rattle.answer_meaning.specs.declared.answer.Stop.{Stop}
use Rattle.answer_meaning.proofs.Stages.{performs_go, performs_told}
use Rattle.worker_answers.proofs.performing.perform_certified.Goals as goal

-- three stages that do not change the files, and then the run
runs_with : (held held' held'' : Option Files) (w : RunWords) (name : Word) (b m n a : ℕ) (x : Exchange)
    (lines : List Line) (text : Option (List ℕ)) (r : Result Answer Stop)
    → Comes held (exchange_at w.exchange) b m (Ok x) → held' ≡ held → Comes held' (lines_at x w.signals) m n (Ok lines)
    → held'' ≡ held' → Comes held'' (text_at name) n a (Ok text)
    → TellsOutcome (IsCertifiedRun x text (run_answer x lines w.bounds.jobs)) r → Performs held (RunsWith w name) b a r
runs_with held held' held'' w name b m n a x lines text r first same second same' third told =
    let run : Performs held (λ files. IsCertifiedRun x text (run_answer x lines w.bounds.jobs)) a a r =
    performs_told held (IsCertifiedRun x text (run_answer x lines w.bounds.jobs)) a r told in
    let over_text : Performs held (λ files. ComesOf (text_at name files) (λ t. IsCertifiedRun x t (run_answer x lines w.bounds.jobs))) n a r =
    performs_go held (text_at name) (λ files t. IsCertifiedRun x t (run_answer x lines w.bounds.jobs)) n a a text r
    (subst (λ h. Comes h (text_at name) n a (Ok text)) (same' ∙ same) third) run in
    let over_lines : Performs held (λ files. ComesOf (lines_at x w.signals files)
    (λ ls. ComesOf (text_at name files) (λ t. IsCertifiedRun x t (run_answer x ls w.bounds.jobs)))) m a r =
    performs_go held (lines_at x w.signals) (λ files ls. ComesOf (text_at name files)
    (λ t. IsCertifiedRun x t (run_answer x ls w.bounds.jobs))) m n a lines r
    (subst (λ h. Comes h (lines_at x w.signals) m n (Ok lines)) same second) over_text in
    performs_go held (exchange_at w.exchange) (λ files y. ComesOf (lines_at y w.signals files)
    (λ ls. ComesOf (text_at name files) (λ t. IsCertifiedRun y t (run_answer y ls w.bounds.jobs)))) b m a x r first
    over_lines

pub returns-clause-comes : goal.returns-clause-comes
returns-clause-comes g c =
    runs_with _ _ _ c.args.words.now c.args.name.now _ _ _ _ c.in_ok-known.known.exchange c.in_ok-lines.lines
    c.in_ok-text.text c.certified_answer.result c.in_ok-known.ensures.comes c.in_ok-known.ensures.kept
    c.in_ok-lines.ensures.comes c.in_ok-lines.ensures.kept c.in_ok-text.ensures.comes
    c.certified_answer.ensures.told
