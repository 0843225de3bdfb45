-- A combined signal and its answer name one another.
use Rattle.std.proofs.Common.{◌≡◌, ℕ, zero, suc, ◌+◌, List, [], ◌∷◌, ◌++◌, length, Some, slice_get}
use Rattle.std.proofs.Common.{refl, sym, ◌∙◌, ap, subst, arith, zero-add, add-zero}
use Rattle.std.proofs.lemmas.Option.{none-some, same_Some}
use Rattle.exchange_model.specs.declared.signal.SignalKind.{SignalKind}
use Rattle.exchange_model.specs.declared.signal.SignalKind.TheVariants as signal
use Rattle.exchange_model.specs.Kept.{IsAnswered, IsAnswerOf, IsAnsweredBy}
use Rattle.plex_ast.specs.declared.tree.ShapeKind.{ShapeKind}
use Rattle.plex_ast.specs.declared.tree.ShapeKind.TheVariants as shape
use Rattle.plex_ast.specs.declared.tree.Signal.{Signal}
use Rattle.plex_ast.specs.declared.tree.Tree.{Tree}
use Rattle.signal_types.specs.Signals.{shape_kinds, signals_from, signals_of}

-- these signals stand in the whole from a number on
abbrev Stand : List SignalKind → ℕ → List SignalKind → Type 0
Stand whole n list = (j : ℕ) → slice_get whole (n + j) ≡ slice_get list j

stand_more : (whole : List SignalKind) (n : ℕ) (s : SignalKind) (rest : List SignalKind) → Stand whole n (s ∷ rest) → Stand whole (n + 1) rest
stand_more whole n s rest h j =
    let e : n + 1 + j ≡ n + suc j = omega arith in
    ap (slice_get whole) e ∙ h (suc j)

stand_first : (whole : List SignalKind) (n : ℕ) (s : SignalKind) (rest : List SignalKind) → Stand whole n (s ∷ rest) → slice_get whole n ≡ Some s
stand_first whole n s rest h = ap (slice_get whole) (sym (add-zero n)) ∙ h 0

abbrev Answered : List SignalKind → ℕ → List SignalKind → Type 0
Answered whole n list = (i : ℕ) (s : SignalKind) → slice_get list i ≡ Some s → IsAnswered whole (n + i) s

answered_first : (whole : List SignalKind) (n : ℕ) (s : SignalKind) (rest : List SignalKind) → IsAnswered whole n s
    → Answered whole (n + 1) rest → Answered whole n (s ∷ rest)
answered_first whole n s rest own more zero x at = subst (λ m. IsAnswered whole m x) (sym (add-zero n)) (subst (IsAnswered whole n) (same_Some s x at) own)
answered_first whole n s rest own more (suc i) x at =
    let e : n + 1 + i ≡ n + suc i = omega arith in
    subst (λ m. IsAnswered whole m x) e (more i x at)

-- one signal with its answer, before others
shape_answered : (whole : List SignalKind) (n : ℕ) (name : List ℕ) (s : ShapeKind) (rest : ℕ → List SignalKind)
    → ((m : ℕ) → Stand whole m (rest m) → Answered whole m (rest m))
    → Stand whole n (shape_kinds n name s ++ rest (n + length (shape_kinds n name s)))
    → Answered whole n (shape_kinds n name s ++ rest (n + length (shape_kinds n name s)))
shape_answered whole n name (shape.Buffered level values) rest h stand =
    answered_first whole n _ (rest (n + 1)) tt (h (n + 1) (stand_more whole n _ (rest (n + 1)) stand))
shape_answered whole n name (shape.Direct values) rest h stand =
    answered_first whole n _ (rest (n + 1)) tt (h (n + 1) (stand_more whole n _ (rest (n + 1)) stand))
shape_answered whole n name (shape.Outside values) rest h stand =
    answered_first whole n _ (rest (n + 1)) tt (h (n + 1) (stand_more whole n _ (rest (n + 1)) stand))
shape_answered whole n name (shape.Combined values answer answer_values) rest h stand =
    let asks = signal.Combined name values.value (n + 1) in
    let answers = signal.Answer answer.name answer_values.value n in
    let after : Stand whole (n + 1) (answers ∷ rest (n + 2)) = stand_more whole n asks (answers ∷ rest (n + 2)) stand in
    let two : n + 1 + 1 ≡ n + 2 = omega arith in
    let last : Answered whole (n + 1 + 1) (rest (n + 2)) = subst (λ m. Answered whole m (rest (n + 2))) (sym two)
    (h (n + 2) (subst (λ m. Stand whole m (rest (n + 2))) two
    (stand_more whole (n + 1) answers (rest (n + 2)) after))) in
    answered_first whole n asks (answers ∷ rest (n + 2)) (refl, subst (IsAnswerOf n) (sym (stand_first whole (n + 1) answers (rest (n + 2)) after)) refl)
    (answered_first whole (n + 1) answers (rest (n + 2))
    (refl, subst (IsAnsweredBy (n + 1)) (sym (stand_first whole n asks (answers ∷ rest (n + 2)) stand)) refl) last)

signals_answered : (whole : List SignalKind) (list : List Signal) (n : ℕ) → Stand whole n (signals_from n list) → Answered whole n (signals_from n list)
unfolding signals_from
signals_answered whole [] n stand = λ i s at. absurd (none-some s at)
signals_answered whole (s ∷ rest) n stand = shape_answered whole n s.name.name s.shape.kind (λ m. signals_from m rest)
    (λ m h. signals_answered whole rest m h) stand

pub all_answered : (t : Tree) (i : ℕ) (s : SignalKind) → slice_get (signals_of t) i ≡ Some s → IsAnswered (signals_of t) i s
all_answered t i s at =
    subst (λ m. IsAnswered (signals_of t) m s) (zero-add i)
    (signals_answered (signals_of t) t.signals 0 (λ j. ap (slice_get (signals_of t)) (zero-add j)) i s at)
