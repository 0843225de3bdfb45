-- From the report on an exchange to the answer to the arguments.
use Rattle.std.proofs.Common.{◌≡◌, ℕ, Bool, true, false, ◌≤◌, ◌<◌, List, [], ◌∷◌, length, get_or}
use Rattle.std.proofs.Common.{Option, Some, None, Result, Ok, IfOk, refl, sym, ap, ◌∙◌, subst}
use Rattle.std.proofs.Common.{arith}
use Rattle.std.proofs.lemmas.Option.{none-some}
use Rattle.plex_io.specs.Files.{Files}
use Rattle.command_words.specs.Words.{Word}
use Rattle.conflicts_meaning.specs.declared.rows.EntryPair.{EntryPair}
use Rattle.answer_meaning.specs.Outcome.{Out}
use Rattle.answer_meaning.specs.ExchangeAnswer.{FromExchange}
use Rattle.answer_meaning.specs.Stages.{Performs, ReadAs}
use Rattle.answer_meaning.specs.Answer.{answer_of}
use Rattle.answer_meaning.specs.Program.{Answers, IsEnding, Makes}
use Rattle.answer_meaning.proofs.Stages.{performs_as, performs_told}
use Rattle.answer_meaning.proofs.Endings.{makes_told, makes_usage}
use Rattle.answer_meaning.specs.declared.answer.Answer.{Answer}
use Rattle.answer_meaning.specs.declared.answer.Stop.{Stop}
use Rattle.conflicts_program.specs.Words.{AnswersConflicts, AreOthers, Asked, IsAnswerBy}
use Rattle.conflicts_program.specs.Words.{IsConflictsAnswer, asked, asked_by, asked_of_one}
use Rattle.conflicts_program.specs.Words.{asked_of_pair, is_own, usage_answer}

-- lists of one and of three words, by their items

one_is : (words : List Word) (e : Word) → 1 ≤ length words → length words < 2 → e ≡ get_or words 0 e → e ∷ [] ≡ words
one_is [] e least most i = absurd (omega (arith, least))
one_is (u ∷ []) e least most i = λ p. i p ∷ []
one_is (u ∷ v ∷ rest) e least most i = absurd (omega (arith, most))

three_are : (words : List Word) (e i j : Word) → 3 ≤ length words → length words < 4 → e ≡ get_or words 0 e
    → i ≡ get_or words 1 i → j ≡ get_or words 2 j → e ∷ i ∷ j ∷ [] ≡ words
three_are [] e i j least most a b c = absurd (omega (arith, least))
three_are (u ∷ []) e i j least most a b c = absurd (omega (arith, least))
three_are (u ∷ v ∷ []) e i j least most a b c = absurd (omega (arith, least))
three_are (u ∷ v ∷ w ∷ []) e i j least most a b c = λ p. a p ∷ b p ∷ c p ∷ []
three_are (u ∷ v ∷ w ∷ x ∷ rest) e i j least most a b c = absurd (omega (arith, most))

-- the arguments request a report

told_so : (words : List Word) (w : Asked) (files : Files) (o : Out Answer) → asked words ≡ Some w
    → FromExchange w.exchange (AnswersConflicts w.pair) files o → IsConflictsAnswer words files (answer_of o)
unfolding IsConflictsAnswer
told_so words w files o is comes = subst (λ s. IsAnswerBy s files (answer_of o)) (sym is) (record { outcome = o; comes = comes; told = refl })

answers_told : (held : Option Files) (words : List Word) (w : Asked) (b a : ℕ) (r : Result Answer Stop)
    → asked words ≡ Some w → Performs held (FromExchange w.exchange (AnswersConflicts w.pair)) b a r
    → Answers (IsConflictsAnswer words) held b a r
answers_told held words w b a r is comes =
    performs_as held (FromExchange w.exchange (AnswersConflicts w.pair))
    (λ files o. IsConflictsAnswer words files (answer_of o)) b a r (λ files o. told_so words w files o is) comes

makes_asked : (held : Option Files) (words : List Word) (w : Asked) (b a : ℕ) (r : Result Answer Stop)
    → asked words ≡ Some w → Performs held (FromExchange w.exchange (AnswersConflicts w.pair)) b a r
    → IfOk r (λ a. IsEnding a.status) → Makes (AreOthers words) usage_answer r
makes_asked held words w b a r is comes ends =
    makes_told (AreOthers words) usage_answer held (FromExchange w.exchange (AnswersConflicts w.pair)) b a r
    (λ others. none-some w (sym others ∙ is)) comes ends

-- the arguments request nothing

usage_is : (words : List Word) (files : Files) (o : Out Answer) → AreOthers words → Ok usage_answer ≡ o → IsConflictsAnswer words files (answer_of o)
unfolding IsConflictsAnswer
usage_is words files o others is = subst (λ s. IsAnswerBy s files (answer_of o)) (sym others) (ap answer_of is)

answers_usage : (held : Option Files) (words : List Word) (n : ℕ) (r : Result Answer Stop) → AreOthers words
    → ReadAs (Ok usage_answer) r → Answers (IsConflictsAnswer words) held n n r
answers_usage held words n r others reads =
    performs_as held (λ files o. Ok usage_answer ≡ o) (λ files o. IsConflictsAnswer words files (answer_of o)) n n r
    (λ files o. usage_is words files o others) (performs_told held (λ o. Ok usage_answer ≡ o) n r reads)

makes_no_answer : (words : List Word) (r : Result Answer Stop) → AreOthers words → ReadAs (Ok usage_answer) r → Makes (AreOthers words) usage_answer r
makes_no_answer words r others reads = makes_usage (AreOthers words) usage_answer r others refl reads

-- which arguments these are

asks_nothing : (words : List Word) → (length words ≡ 1 → ⊥) → (length words ≡ 3 → ⊥) → AreOthers words
asks_nothing [] one three = refl
asks_nothing (u ∷ []) one three = absurd (one refl)
asks_nothing (u ∷ v ∷ []) one three = refl
asks_nothing (u ∷ v ∷ w ∷ []) one three = absurd (three refl)
asks_nothing (u ∷ v ∷ w ∷ x ∷ rest) one three = refl

module _ (held : Option Files) (e i j : Word) (o : Option EntryPair) (is : o ≡ asked_by i j) where
  asks_pair : (p : EntryPair) → o ≡ Some p → asked (e ∷ i ∷ j ∷ []) ≡ Some (record { exchange = e; pair = Some p })
  asks_pair p some = ap (asked_of_pair e) (sym is ∙ some)

  asks_none : o ≡ None → AreOthers (e ∷ i ∷ j ∷ [])
  asks_none none = ap (asked_of_pair e) (sym is ∙ none)

  pub pair_answers : (p : EntryPair) (b a : ℕ) (r : Result Answer Stop) → o ≡ Some p
      → Performs held (FromExchange e (AnswersConflicts (Some p))) b a r
      → Answers (IsConflictsAnswer (e ∷ i ∷ j ∷ [])) held b a r
  pair_answers p b a r some = answers_told held (e ∷ i ∷ j ∷ []) (record { exchange = e; pair = Some p }) b a r (asks_pair p some)

  pub pair_makes : (p : EntryPair) (b a : ℕ) (r : Result Answer Stop) → o ≡ Some p
      → Performs held (FromExchange e (AnswersConflicts (Some p))) b a r → IfOk r (λ a. IsEnding a.status)
      → Makes (AreOthers (e ∷ i ∷ j ∷ [])) usage_answer r
  pair_makes p b a r some = makes_asked held (e ∷ i ∷ j ∷ []) (record { exchange = e; pair = Some p }) b a r (asks_pair p some)

  pub no_pair_answers : (n : ℕ) (r : Result Answer Stop) → o ≡ None → ReadAs (Ok usage_answer) r → Answers (IsConflictsAnswer (e ∷ i ∷ j ∷ [])) held n n r
  no_pair_answers n r none = answers_usage held (e ∷ i ∷ j ∷ []) n r (asks_none none)

  pub no_pair_makes : (r : Result Answer Stop) → o ≡ None → ReadAs (Ok usage_answer) r → Makes (AreOthers (e ∷ i ∷ j ∷ [])) usage_answer r
  no_pair_makes r none = makes_no_answer (e ∷ i ∷ j ∷ []) r (asks_none none)

pub ruleset pair_rules = (pair_makes, no_pair_makes)

module _ (held : Option Files) (e : Word) (own : Bool) (is : own ≡ is_own e) where
  asks_all : own ≡ false → asked (e ∷ []) ≡ Some (record { exchange = e; pair = None })
  asks_all off = ap (λ b. asked_of_one b e) (sym is ∙ off)

  asks_itself : own ≡ true → AreOthers (e ∷ [])
  asks_itself on = ap (λ b. asked_of_one b e) (sym is ∙ on)

  pub all_answers : (b a : ℕ) (r : Result Answer Stop) → own ≡ false
      → Performs held (FromExchange e (AnswersConflicts None)) b a r → Answers (IsConflictsAnswer (e ∷ [])) held b a r
  all_answers b a r off = answers_told held (e ∷ []) (record { exchange = e; pair = None }) b a r (asks_all off)

  pub all_makes : (b a : ℕ) (r : Result Answer Stop) → own ≡ false
      → Performs held (FromExchange e (AnswersConflicts None)) b a r → IfOk r (λ a. IsEnding a.status)
      → Makes (AreOthers (e ∷ [])) usage_answer r
  all_makes b a r off = makes_asked held (e ∷ []) (record { exchange = e; pair = None }) b a r (asks_all off)

  pub own_answers : (n : ℕ) (r : Result Answer Stop) → own ≡ true → ReadAs (Ok usage_answer) r → Answers (IsConflictsAnswer (e ∷ [])) held n n r
  own_answers n r on = answers_usage held (e ∷ []) n r (asks_itself on)

  pub own_makes : (r : Result Answer Stop) → own ≡ true → ReadAs (Ok usage_answer) r → Makes (AreOthers (e ∷ [])) usage_answer r
  own_makes r on = makes_no_answer (e ∷ []) r (asks_itself on)

pub ruleset all_rules = (all_makes, own_makes)

module _ (held : Option Files) (words : List Word) (b a : ℕ) (r : Result Answer Stop) where
  pub one_answers : (e : Word) → 1 ≤ length words → length words < 2 → e ≡ get_or words 0 e
      → Answers (IsConflictsAnswer (e ∷ [])) held b a r → Answers (IsConflictsAnswer words) held b a r
  one_answers e least most i h = subst (λ ws. Answers (IsConflictsAnswer ws) held b a r) (one_is words e least most i) h

  pub one_makes : (e : Word) → 1 ≤ length words → length words < 2 → e ≡ get_or words 0 e
      → Makes (AreOthers (e ∷ [])) usage_answer r → Makes (AreOthers words) usage_answer r
  one_makes e least most i h = subst (λ ws. Makes (AreOthers ws) usage_answer r) (one_is words e least most i) h

  pub three_answers : (e i j : Word) → 3 ≤ length words → length words < 4 → e ≡ get_or words 0 e → i ≡ get_or words 1 i
      → j ≡ get_or words 2 j → Answers (IsConflictsAnswer (e ∷ i ∷ j ∷ [])) held b a r
      → Answers (IsConflictsAnswer words) held b a r
  three_answers e i j least most one two three h = subst (λ ws. Answers (IsConflictsAnswer ws) held b a r) (three_are words e i j least most one two three) h

  pub three_makes : (e i j : Word) → 3 ≤ length words → length words < 4 → e ≡ get_or words 0 e → i ≡ get_or words 1 i
      → j ≡ get_or words 2 j → Makes (AreOthers (e ∷ i ∷ j ∷ [])) usage_answer r
      → Makes (AreOthers words) usage_answer r
  three_makes e i j least most one two three h = subst (λ ws. Makes (AreOthers ws) usage_answer r) (three_are words e i j least most one two three) h

pub other_answers : (held : Option Files) (words : List Word) (n : ℕ) (r : Result Answer Stop) → (length words ≡ 1 → ⊥)
    → (length words ≡ 3 → ⊥) → ReadAs (Ok usage_answer) r → Answers (IsConflictsAnswer words) held n n r
other_answers held words n r one three = answers_usage held words n r (asks_nothing words one three)

pub other_makes : (words : List Word) (r : Result Answer Stop) → (length words ≡ 1 → ⊥) → (length words ≡ 3 → ⊥)
    → ReadAs (Ok usage_answer) r → Makes (AreOthers words) usage_answer r
other_makes words r one three = makes_no_answer words r (asks_nothing words one three)
