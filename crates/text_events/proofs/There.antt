-- The head and the line at a place of a list.
use Rattle.std.proofs.Common.{◌≡◌, ℕ, ◌<◌, ◌≤◌, List, length, map, get_or, ap, sym, ◌∙◌}
use Rattle.std.proofs.lemmas.List.{get_or-map, get_or_past, length-map}
use Rattle.text_events.specs.Note.{Head, Nothing}
use Rattle.text_events.specs.Seen.{head_at}

pub head_there : {X : Type 0} (f : X → Head) (xs : List X) (i : ℕ) (x : X) (h : Head) → i < length xs → x ≡ get_or xs i x → h ≡ f x → h ≡ head_at (map f xs) i
head_there f xs i x h inside is e = e ∙ ap f is ∙ sym (get_or-map f xs i x Nothing inside)

pub no_head_there : {X : Type 0} (f : X → Head) (xs : List X) (i : ℕ) → length xs ≤ i → Nothing ≡ head_at (map f xs) i
no_head_there f xs i past = sym (get_or_past (map f xs) i Nothing (rw (length-map xs f) past))

pub line_there : {X : Type 0} (f : X → ℕ) (xs : List X) (i : ℕ) (x : X) (n : ℕ) → i < length xs → x ≡ get_or xs i x → n ≡ f x → n ≡ get_or (map f xs) i 0
line_there f xs i x n inside is e = e ∙ ap f is ∙ sym (get_or-map f xs i x 0 inside)

pub no_line_there : {X : Type 0} (f : X → ℕ) (xs : List X) (i : ℕ) → length xs ≤ i → 0 ≡ get_or (map f xs) i 0
no_line_there f xs i past = sym (get_or_past (map f xs) i 0 (rw (length-map xs f) past))
