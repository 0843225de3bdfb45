-- From the contents of the three files to the answer to the arguments.
use Rattle.std.proofs.Common.{◌≡◌, ℕ, ◌≤◌, ◌<◌, List, [], ◌∷◌, length, get_or, arith, Option}
use Rattle.std.proofs.Common.{Result, Ok, IfOk, refl, subst, ap}
use Rattle.plex_io.specs.Files.{Files}
use Rattle.command_words.specs.Words.{Word}
use Rattle.answer_meaning.specs.Outcome.{Out}
use Rattle.answer_meaning.specs.Stages.{Comes, ReadAs}
use Rattle.answer_meaning.specs.Answer.{answer_of}
use Rattle.answer_meaning.specs.Program.{Answers, IsEnding, Makes}
use Rattle.answer_meaning.proofs.Stages.{performs_as, performs_told}
use Rattle.answer_meaning.proofs.Endings.{makes_told, makes_usage}
use Rattle.answer_meaning.specs.declared.answer.Answer.{Answer}
use Rattle.answer_meaning.specs.declared.answer.Stop.{Stop}
use Rattle.merge_program.specs.Merge.{AreOthers, IsMergeAnswer, merge_of, usage_answer}

-- a list of three words, by its items
three_are : (words : List Word) (e s t : Word) → 3 ≤ length words → length words < 4 → e ≡ get_or words 0 e
    → s ≡ get_or words 1 s → t ≡ get_or words 2 t → e ∷ s ∷ t ∷ [] ≡ words
three_are [] e s t least most i j k = absurd (omega (arith, least))
three_are (u ∷ []) e s t least most i j k = absurd (omega (arith, least))
three_are (u ∷ v ∷ []) e s t least most i j k = absurd (omega (arith, least))
three_are (u ∷ v ∷ w ∷ []) e s t least most i j k = λ p. i p ∷ j p ∷ k p ∷ []
three_are (u ∷ v ∷ w ∷ x ∷ rest) e s t least most i j k = absurd (omega (arith, most))

-- the answer to three file names
named : (e s t : Word) (files : Files) (o : Out Answer) → merge_of e s t files ≡ o → IsMergeAnswer (e ∷ s ∷ t ∷ []) files (answer_of o)
unfolding IsMergeAnswer
named e s t files o is = ap answer_of is

module _ (held : Option Files) (words : List Word) (e s t : Word) (b a : ℕ) (r : Result Answer Stop)
    (least : 3 ≤ length words) (most : length words < 4) (i : e ≡ get_or words 0 e) (j : s ≡ get_or words 1 s)
    (k : t ≡ get_or words 2 t) (comes : Comes held (merge_of e s t) b a r) where
  pub answers_three : Answers (IsMergeAnswer words) held b a r
  answers_three =
      subst (λ ws. Answers (IsMergeAnswer ws) held b a r) (three_are words e s t least most i j k)
      (performs_as held (λ files o. merge_of e s t files ≡ o) (λ files o. IsMergeAnswer (e ∷ s ∷ t ∷ []) files (answer_of o)) b a r (named e s t) comes)

  pub makes_three : IfOk r (λ a. IsEnding a.status) → Makes (AreOthers words) usage_answer r
  makes_three ends =
      subst (λ ws. Makes (AreOthers ws) usage_answer r) (three_are words e s t least most i j k)
      (makes_told (AreOthers (e ∷ s ∷ t ∷ [])) usage_answer held (λ files o. merge_of e s t files ≡ o) b a r (λ others. others refl) comes ends)

-- the arguments are not three words
usage_is : (words : List Word) (files : Files) (o : Out Answer) → AreOthers words → Ok usage_answer ≡ o → IsMergeAnswer words files (answer_of o)
unfolding IsMergeAnswer
usage_is [] files o others is = ap answer_of is
usage_is (u ∷ []) files o others is = ap answer_of is
usage_is (u ∷ v ∷ []) files o others is = ap answer_of is
usage_is (u ∷ v ∷ w ∷ []) files o others is = absurd (others refl)
usage_is (u ∷ v ∷ w ∷ x ∷ rest) files o others is = ap answer_of is

pub answers_usage : (held : Option Files) (words : List Word) (n : ℕ) (r : Result Answer Stop) → AreOthers words
    → ReadAs (Ok usage_answer) r → Answers (IsMergeAnswer words) held n n r
answers_usage held words n r others reads =
    performs_as held (λ files o. Ok usage_answer ≡ o) (λ files o. IsMergeAnswer words files (answer_of o)) n n r
    (λ files o. usage_is words files o others) (performs_told held (λ o. Ok usage_answer ≡ o) n r reads)

pub ruleset usage_rules = (answers_usage, makes_usage)
