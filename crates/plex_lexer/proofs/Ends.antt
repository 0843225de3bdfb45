-- The last bytes of a text.
use Rattle.std.proofs.Common.{◌≡◌, ℕ, ◌-◌, List, [], ◌∷◌, ◌++◌, length, take, drop, refl, sym, ◌∙◌}
use Rattle.std.proofs.Common.{ap, arith, append_assoc}
use Rattle.std.proofs.lemmas.List.{length-append, take-append-drop, drop_at}
use Rattle.plex_lexer.specs.Pieces.{IsEnd}

pub end_self : (a : List ℕ) → IsEnd a a
unfolding IsEnd
end_self a = ([], refl)

pub end_drop : (n : ℕ) (a b : List ℕ) → b ≡ drop n a → IsEnd a b
unfolding IsEnd
end_drop n a b h = (take n a, sym (take-append-drop n a) ∙ ap (λ z. take n a ++ z) (sym h))

-- what is left after the first byte of an end, and what is left of that
pub end_on : (text w bs rest : List ℕ) (b : ℕ) → IsEnd text w → w ≡ b ∷ bs → IsEnd bs rest → IsEnd text rest
unfolding IsEnd
end_on text w bs rest b h e k = (
  h.0 ++ (b ∷ k.0),
  h.1 ∙ ap (λ z. h.0 ++ z) (e ∙ ap (λ z. b ∷ z) k.1) ∙ sym (append_assoc h.0 (b ∷ k.0) rest),
)

pub end_after : (text w bs : List ℕ) (b : ℕ) → IsEnd text w → w ≡ b ∷ bs → IsEnd text bs
end_after text w bs b h e = end_on text w bs bs b h e (end_self bs)

-- .. and where it begins
pub end_begins : (text w : List ℕ) → IsEnd text w → drop (length text - length w) text ≡ w
unfolding IsEnd
end_begins text w h =
    let e : length h.0 ≡ length text - length w = omega (arith, ap length h.1, length-append h.0 w) in
    ap (drop (length text - length w)) h.1 ∙ drop_at h.0 w (length text - length w) e
