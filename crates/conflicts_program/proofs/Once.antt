-- The answer to all arguments and files exists and is unique.
use Rattle.std.proofs.Common.{◌≡◌, List, ◌++◌, Option, Some, None, Ok, Err, refl, sym, ap, ◌∙◌}
use Rattle.plex_io.specs.Files.{Files}
use Rattle.exchange_model.specs.declared.exchange.Exchange.{Exchange}
use Rattle.conflicts_meaning.specs.declared.rows.EntryPair.{EntryPair}
use Rattle.conflict_laws.proofs.Coming.{text_comes}
use Rattle.conflict_laws.proofs.Once.{text_once}
use Rattle.additions_text.proofs.Coming as adding
use Rattle.additions_text.proofs.Once as added
use Rattle.command_words.specs.Words.{Word}
use Rattle.command_words.specs.declared.status.Status.TheVariants as status
use Rattle.answer_meaning.specs.Outcome.{ComesOf, IsAnAnswer, Out}
use Rattle.answer_meaning.specs.Given.{exchange_at}
use Rattle.answer_meaning.specs.Answer.{answer_of}
use Rattle.answer_meaning.specs.declared.answer.Answer.{Answer}
use Rattle.conflicts_program.specs.Words.{AnswersConflicts, Asked, IsAnswerBy, IsConflictsAnswer}
use Rattle.conflicts_program.specs.Words.{asked, usage_answer}

-- the report on the exchange of a file

abbrev Tells : Option EntryPair → Out Exchange → Out Answer → Type 0
Tells p s o = ComesOf s (λ x. IsAnAnswer (AnswersConflicts p x)) o

tells : (p : Option EntryPair) (s : Out Exchange) → (o : Out Answer) × Tells p s o
tells p (Ok x) =
    let t = text_comes x p in
    let a = adding.text_comes x p in (
      Ok (record { status = status.Done; text = t.0 ++ a.0 }),
      record { status = refl; told = record { conflicts = t.0; additions = a.0; are_conflicts = t.1; are_additions = a.1; is = refl } },
    )
tells p (Err r) = (Err r, refl)

conflicts_once : (p : Option EntryPair) (x : Exchange) (a b : Answer) → AnswersConflicts p x a → AnswersConflicts p x b → a ≡ b
conflicts_once p x a b one other =
    let status : a.status ≡ b.status = one.status ∙ sym other.status in
    let conflicts = text_once x p one.told.conflicts other.told.conflicts one.told.are_conflicts other.told.are_conflicts in
    let additions = added.text_once x p one.told.additions other.told.additions one.told.are_additions other.told.are_additions in
    let text : a.text ≡ b.text = one.told.is ∙ (λ i. conflicts i ++ additions i) ∙ sym other.told.is in
    λ i. record { status = status i; text = text i }

told_once : (p : Option EntryPair) (s : Out Exchange) (o q : Out Answer) → Tells p s o → Tells p s q → o ≡ q
told_once p (Ok x) (Ok a) (Ok b) one other = ap (λ c. Ok c) (conflicts_once p x a b one other)
told_once p (Ok x) (Ok a) (Err r) one other = absurd other
told_once p (Ok x) (Err r) q one other = absurd one
told_once p (Err r) o q one other = sym one ∙ other

-- the answer to a request

answer_by : (w : Option Asked) (files : Files) → (a : Answer) × IsAnswerBy w files a
answer_by None files = (usage_answer, refl)
answer_by (Some w) files = (let o = tells w.pair (exchange_at w.exchange files) in (answer_of o.0, record { outcome = o.0; comes = o.1; told = refl }))

answer_by_once : (w : Option Asked) (files : Files) (a b : Answer) → IsAnswerBy w files a → IsAnswerBy w files b → a ≡ b
answer_by_once None files a b one other = sym one ∙ other
answer_by_once (Some w) files a b one other =
    sym one.told ∙ ap answer_of (told_once w.pair (exchange_at w.exchange files) one.outcome other.outcome one.comes other.comes) ∙ other.told

pub answer : (words : List Word) (files : Files) → (a : Answer) × IsConflictsAnswer words files a
unfolding IsConflictsAnswer
answer words files = answer_by (asked words) files

pub answer_once : (words : List Word) (files : Files) (a b : Answer) → IsConflictsAnswer words files a → IsConflictsAnswer words files b → a ≡ b
unfolding IsConflictsAnswer
answer_once words files a b one other = answer_by_once (asked words) files a b one other
