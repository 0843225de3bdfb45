-- The answer to given arguments and files is unique.
use Rattle.std.proofs.Common.{◌≡◌, List, [], ◌∷◌, refl, sym, ◌∙◌}
use Rattle.plex_io.specs.Files.{Files}
use Rattle.command_words.specs.Words.{Word}
use Rattle.answer_meaning.specs.Answer.{answer_of}
use Rattle.answer_meaning.specs.declared.answer.Answer.{Answer}
use Rattle.merge_program.specs.Merge.{IsMergeAnswer, merge_of, usage_answer}

pub answer : (words : List Word) (files : Files) → (a : Answer) × IsMergeAnswer words files a
unfolding IsMergeAnswer
answer [] files = (usage_answer, refl)
answer (u ∷ []) files = (usage_answer, refl)
answer (u ∷ v ∷ []) files = (usage_answer, refl)
answer (e ∷ s ∷ t ∷ []) files = (answer_of (merge_of e s t files), refl)
answer (u ∷ v ∷ w ∷ x ∷ rest) files = (usage_answer, refl)

pub answer_once : (words : List Word) (files : Files) (a b : Answer) → IsMergeAnswer words files a → IsMergeAnswer words files b → a ≡ b
unfolding IsMergeAnswer
answer_once [] files a b one other = sym one ∙ other
answer_once (u ∷ []) files a b one other = sym one ∙ other
answer_once (u ∷ v ∷ []) files a b one other = sym one ∙ other
answer_once (e ∷ s ∷ t ∷ []) files a b one other = sym one ∙ other
answer_once (u ∷ v ∷ w ∷ x ∷ rest) files a b one other = sym one ∙ other
