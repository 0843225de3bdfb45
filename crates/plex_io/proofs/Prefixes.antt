-- What a sink holds after some writes.
use Rattle.std.proofs.Common.{◌≡◌, ℕ, ◌+◌, ◌-◌, ◌≤◌, List, [], ◌++◌, length, take, drop, Option}
use Rattle.std.proofs.Common.{Some, None, refl, ap, sym, ◌∙◌, append_assoc, append-nil, take-add}
use Rattle.std.proofs.lemmas.List.{take_all, take_rest}
use Rattle.plex_io.specs.Written.{appended}

-- a write more
pub appended_more : (old now new : Option (List ℕ)) (text : List ℕ) (i n : ℕ) → now ≡ appended old (take i text)
    → new ≡ appended now (take n (drop i text)) → new ≡ appended old (take (i + n) text)
appended_more None now new text i n before step = step ∙ ap (λ o. appended o (take n (drop i text))) before
appended_more (Some held) now new text i n before step =
    step ∙ ap (λ o. appended o (take n (drop i text))) before
    ∙ ap Some (append_assoc held (take i text) (take n (drop i text)))
    ∙ ap (λ t. Some (held ++ t)) (sym (take-add i n text))

-- before the first write
pub appended_none : (old : Option (List ℕ)) → old ≡ appended old []
appended_none None = refl
appended_none (Some held) = ap Some (sym (append-nil held))

-- after the last write
pub appended_all : (old now : Option (List ℕ)) (text : List ℕ) (i : ℕ) → length text ≤ i → now ≡ appended old (take i text) → now ≡ appended old text
appended_all old now text i le e = e ∙ ap (appended old) (take_all i text le)

-- a write more, of a slice's rest
pub appended_rest : (old now new : Option (List ℕ)) (text : List ℕ) (i n : ℕ) → now ≡ appended old (take i text)
    → new ≡ appended now (take n (take (length text - i) (drop i text))) → new ≡ appended old (take (i + n) text)
appended_rest old now new text i n before step =
    appended_more old now new text i n before (step ∙ ap (λ t. appended now (take n t)) (take_rest text i))
