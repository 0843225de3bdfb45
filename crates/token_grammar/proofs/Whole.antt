-- A reader that is exact within any limits, on a whole list.
use Rattle.std.proofs.Common.{◌≡◌, ℕ, zero, suc, ◌+◌, ◌-◌, ◌<◌, Bool, true, false, List, [], ◌∷◌}
use Rattle.std.proofs.Common.{◌++◌, length, take, Ok, Err, Result, refl, sym, ◌∙◌, ap, subst, inl}
use Rattle.std.proofs.Common.{inr, append_assoc, arith, add-one}
use Rattle.std.proofs.lemmas.List.{length-append, append-nil}
use Rattle.plex_lexer.specs.declared.token.Token.{Token}
use Rattle.token_grammar.specs.Language.{Lang}
use Rattle.token_grammar.specs.Reading.{Stuck, Reader, all_read}
use Rattle.token_grammar.specs.Faults.{Begun, Within, First, IsUnexpected, IsTooDeep, IsEnded}
use Rattle.token_grammar.proofs.Exact.{Exact, SameHead, SameHead-refl}

-- what a fault of a reading says
abbrev pub Told : {X : Type 0} → (ℕ → ℕ → X → Lang) → ℕ → ℕ → List Token → ℕ → Bool → Type 0
Told L b s w zero deep = IsEnded L b s w
Told L b s w (suc n) true = IsTooDeep L b s w (length w - suc n)
Told L b s w (suc n) false = IsUnexpected L b s w (length w - suc n)

pub ok_err : {Y : Type 0} (x : Y) (e : Stuck) (z : Result Y Stuck) → z ≡ Ok x → z ≡ Err e → ⊥
ok_err {Y} x e z a b = let d : ◌≡◌ {A = Result Y Stuck} (Ok x) (Err e) = sym a ∙ b in cc

pub ok_same : {Y : Type 0} (x y : Y) (z : Result Y Stuck) → z ≡ Ok x → z ≡ Ok y → x ≡ y
ok_same {Y} x y z a b = let d : ◌≡◌ {A = Result Y Stuck} (Ok x) (Ok y) = sym a ∙ b in cc

err_same : {Y : Type 0} (d e : Stuck) (z : Result Y Stuck) → z ≡ Err d → z ≡ Err e → d ≡ e
err_same {Y} d e z a b = let k : ◌≡◌ {A = Result Y Stuck} (Err d) (Err e) = sym a ∙ b in cc

left_over : {Y : Type 0} (y x : Y) (t : Token) (v : List Token) (z : Result (Y × List Token) Stuck) → z ≡ Ok (y, []) → z ≡ Ok (x, t ∷ v) → ⊥
left_over {Y} y x t v z a b =
    let k : ◌≡◌ {A = Y × List Token} (y, []) (x, t ∷ v) = ok_same (y, []) (x, t ∷ v) z a b in
    let n : ◌≡◌ {A = List Token} [] (t ∷ v) = ap (λ (e : Y × List Token). e.1) k in cc

same_parts : (a b c d : List Token) → a ++ c ≡ b ++ d → length c ≡ length d → (a ≡ b) × (c ≡ d)
same_parts [] [] c d e n = (refl, e)
same_parts [] (t ∷ b) c d e n = absurd (omega (arith, ap length e, length-append b d))
same_parts (s ∷ a) [] c d e n = absurd (omega (arith, ap length e, length-append a c))
same_parts (s ∷ a) (t ∷ b) c d e n =
    let k = same_parts a b c d (cc) n in
    let h : s ≡ t = cc in
    (ap (λ z. s ∷ z) k.0 ∙ ap (λ z. z ∷ b) h, k.1)

take_front : (p : List Token) (t : Token) (ts : List Token) → (take (length p) (p ++ (t ∷ ts)) ≡ p) × (take (length p + 1) (p ++ (t ∷ ts)) ≡ p ++ (t ∷ []))
take_front [] t ts = (refl, refl)
take_front (y ∷ p) t ts =
    let k = take_front p t ts in
    (ap (λ z. y ∷ z) k.0, rw add-one (ap (λ z. y ∷ z) (rw add-one at k.1)))

module _ {X : Type 0} (L : ℕ → ℕ → X → Lang) (r : ℕ → ℕ → Reader X) (f l : List ℕ) (e : Bool)
    (E : (b s c z : ℕ) → b < c → s < z → Exact (L b s) (L c z) f e l (r b s) (r c z)) where
  wider_than : (b s c z : ℕ) → b < c → s < z → (x : X) (u : List Token) → L b s x u → L c z x u
  wider_than b s c z h k x u = (E b s c z h k).wider x u

  whole_again : (b s : ℕ) (x : X) (u : List Token) → L b s x u → r b s u ≡ Ok (x, [])
  whole_again b s x u h = subst (λ z. r b s z ≡ Ok (x, [])) (append-nil u) ((E b s (suc b) (suc s) (omega arith) (omega arith)).again x u [] h refl)

  pub all_again : (b s : ℕ) (x : X) (u : List Token) → L b s x u → all_read (r b s u) ≡ Ok x
  all_again b s x u h = ap all_read (whole_again b s x u h)

  joined : (p : List Token) (t : Token) (v : List Token) → (p ++ (t ∷ [])) ++ v ≡ p ++ (t ∷ v)
  joined p t v = append_assoc p (t ∷ []) v

  pub all_sound : (b s : ℕ) (x : X) (u : List Token) → all_read (r b s u) ≡ Ok x → L b s x u
  all_sound b s x u h = elim ((E b s (suc b) (suc s) (omega arith) (omega arith)).runs u) [
    | inl g ↦ whole g.x g.u g.rest g.cut g.spells (ap (λ z. all_read (r b s z)) (sym g.cut) ∙ h) (g.again g.rest (SameHead-refl g.rest))
    | inr k ↦ absurd (ok_err x _ (all_read (r b s u)) h (ap (λ z. all_read (r b s z)) k.cut ∙ ap all_read (k.fails k.rest (SameHead-refl k.rest))))
  ]
    where
      whole : (y : X) (v rest : List Token) → u ≡ v ++ rest → L b s y v → all_read (r b s (v ++ rest)) ≡ Ok x → r b s (v ++ rest) ≡ Ok (y, rest) → L b s x u
      whole y v [] c k a o =
          let same : y ≡ x = ok_same y x (all_read (r b s (v ++ []))) (ap all_read o) a in
          subst (λ z. L b s z u) same (subst (L b s y) (sym (c ∙ append-nil v)) k)
      whole y v (t ∷ ts) c k a o = absurd (ok_err x _ (all_read (r b s (v ++ (t ∷ ts)))) a (ap all_read o))

  -- where wider readers all fail at t, no limits allow t
  never : (b s : ℕ) (p : List Token) (t : Token)
      → ((c z : ℕ) → b < c → s < z → (v : List Token) (y : X) → r c z (p ++ (t ∷ v)) ≡ Ok (y, []) → ⊥)
      → Begun (Within L) (p ++ (t ∷ [])) → ⊥
  never b s p t no_wide h =
      let x = h.0 in let v = h.1 in let c = h.2.0 in let z = h.2.1 in
      let more : L (b + c + 1) (s + z + 1) x (p ++ (t ∷ v)) = wider_than c z (b + c + 1) (s + z + 1) (omega arith)
      (omega arith) x (p ++ (t ∷ v)) (subst (L c z x) (joined p t v) h.2.2) in
      no_wide (b + c + 1) (s + z + 1) (omega arith) (omega arith) v x (whole_again (b + c + 1) (s + z + 1) x (p ++ (t ∷ v)) more)

  narrow : (b s : ℕ) (p : List Token) (t : Token) → ((v : List Token) (y : X) → r b s (p ++ (t ∷ v)) ≡ Ok (y, []) → ⊥) → Begun (L b s) (p ++ (t ∷ [])) → ⊥
  narrow b s p t none h = none h.1 h.0 (whole_again b s h.0 (p ++ (t ∷ h.1)) (subst (L b s h.0) (joined p t h.1) h.2))

  first_of : (b s : ℕ) (p : List Token) (t : Token) (ts : List Token) → Begun (L b s) p
      → (Begun (L b s) (p ++ (t ∷ [])) → ⊥) → First (L b s) (p ++ (t ∷ ts)) (length p)
  first_of b s p t ts h n = record {
    inside = omega (arith, length-append p (t ∷ ts));
    front = subst (Begun (L b s)) (sym (take_front p t ts).0) h;
    past = λ k. n (subst (Begun (L b s)) (take_front p t ts).1 k);
  }

  place : (p : List Token) (t : Token) (ts : List Token) → length p ≡ length (p ++ (t ∷ ts)) - suc (length ts)
  place p t ts = omega (arith, length-append p (t ∷ ts))

  unexpected : (b s : ℕ) (p : List Token) (t : Token) (ts : List Token) → Begun (L b s) p
      → ((v : List Token) (y : X) → r b s (p ++ (t ∷ v)) ≡ Ok (y, []) → ⊥)
      → ((c z : ℕ) → b < c → s < z → (v : List Token) (y : X) → r c z (p ++ (t ∷ v)) ≡ Ok (y, []) → ⊥)
      → Told L b s (p ++ (t ∷ ts)) (suc (length ts)) false
  unexpected b s p t ts h n w =
      subst (IsUnexpected L b s (p ++ (t ∷ ts))) (place p t ts)
      (record { first = first_of b s p t ts h (narrow b s p t n); never = λ k. never b s p t w (subst (Begun (Within L)) (take_front p t ts).1 k) })

  bad_told : (b s : ℕ) (p rest : List Token) (deep : Bool)
      → ((z : List Token) → SameHead rest z → r b s (p ++ z) ≡ Err (record { left = length z; deep = deep }))
      → (deep ≡ false → (c y : ℕ) → b < c → s < y → (z : List Token) → SameHead rest z → r c y (p ++ z) ≡ Err (record { left = length z; deep = false }))
      → Begun (L b s) p
      → (deep ≡ true → (t : Token) × (ts : List Token) × (rest ≡ t ∷ ts) × (y : X) × (z : List Token) × L (suc b) (suc s) y (p ++ (t ∷ z)))
      → Told L b s (p ++ rest) (length rest) deep
  bad_told b s p [] deep fails wide h more = record {
    front = subst (Begun (L b s)) (sym (append-nil p)) h;
    none = λ x k. let a : r b s (p ++ []) ≡ Ok (x, []) = whole_again b s x (p ++ []) k in let c : r b s (p ++ [])
        ≡ Err (record { left = 0; deep = deep }) = fails [] tt in ok_err (x, []) _ (r b s (p ++ [])) a c;
  }
  bad_told b s p (t ∷ ts) false fails wide h more = unexpected b s p t ts h
      (λ v y k. ok_err (y, []) _ (r b s (p ++ (t ∷ v))) k (fails (t ∷ v) refl))
      (λ c z i j v y k. ok_err (y, []) _ (r c z (p ++ (t ∷ v))) k (wide refl c z i j (t ∷ v) refl))
  bad_told b s p (t ∷ ts) true fails wide h more =
      let m = more refl in
      let same : t ≡ m.0 = let q : t ∷ ts ≡ m.0 ∷ m.1 = m.2 in cc in
      let spelled : L (suc b) (suc s) m.3 ((p ++ (t ∷ [])) ++ m.4) = subst (L (suc b) (suc s) m.3)
      (ap (λ y. p ++ (y ∷ m.4)) (sym same) ∙ sym (joined p t m.4)) m.5 in
      subst (IsTooDeep L b s (p ++ (t ∷ ts))) (place p t ts)
      (record {
        first = first_of b s p t ts h (narrow b s p t (λ v y k. ok_err (y, []) _ (r b s (p ++ (t ∷ v))) k (fails (t ∷ v) refl)));
        allowed = subst (Begun (Within L)) (sym (take_front p t ts).1) (m.3, m.4, (suc b, suc s, spelled));
      })

  bad_wide : (b s : ℕ) (p rest : List Token) (deep : Bool)
      → r b s (p ++ rest) ≡ Err (record { left = length rest; deep = deep }) → deep ≡ false → (c y : ℕ) → b < c → s < y
      → (z : List Token) → SameHead rest z → r c y (p ++ z) ≡ Err (record { left = length z; deep = false })
  bad_wide b s p rest deep h n c y i j z d = elim ((E b s c y i j).runs (p ++ rest)) [
    | inl g ↦ absurd (ok_err (g.x, g.rest) _ (r b s (p ++ rest)) (ap (r b s) g.cut ∙ g.again g.rest (SameHead-refl g.rest)) h)
    | inr k ↦
        let same : record { left = length rest; deep = deep }
        ≡ record { left = length k.rest; deep = k.deep } = err_same _ _ (r b s (p ++ rest)) h
        (ap (r b s) k.cut ∙ k.fails k.rest (SameHead-refl k.rest)) in
        let parts = same_parts p k.p rest k.rest k.cut (ap (λ (e : Stuck). e.left) same) in
        let fine : k.deep ≡ false = sym (ap (λ (e : Stuck). e.deep) same) ∙ n in
        subst (λ v. r c y (v ++ z) ≡ Err (record { left = length z; deep = false })) (sym parts.0) (k.wide fine z (subst (λ v. SameHead v z) parts.1 d))
  ]

  good_wide : (b s : ℕ) (u rest : List Token) (x : X) → r b s (u ++ rest) ≡ Ok (x, rest) → (c y : ℕ) → b < c → s < y
      → (z : List Token) → SameHead rest z → r c y (u ++ z) ≡ Ok (x, z)
  good_wide b s u rest x h c y i j z d = elim ((E b s c y i j).runs (u ++ rest)) [
    | inl g ↦
        let same : ◌≡◌ {A = X × List Token} (x, rest) (g.x, g.rest) = ok_same (x, rest) (g.x, g.rest)
        (r b s (u ++ rest)) h (ap (r b s) g.cut ∙ g.again g.rest (SameHead-refl g.rest)) in
        let parts = same_parts u g.u rest g.rest g.cut (ap (λ (e : X × List Token). length e.1) same) in
        subst (λ v. r c y (v ++ z) ≡ Ok (x, z)) (sym parts.0)
        (g.wide z (subst (λ v. SameHead v z) parts.1 d)
        ∙ ap (λ v. Ok (v, z)) (sym (ap (λ (e : X × List Token). e.0) same)))
    | inr k ↦ absurd (ok_err (x, rest) _ (r b s (u ++ rest)) h (ap (r b s) k.cut ∙ k.fails k.rest (SameHead-refl k.rest)))
  ]

  good_told : (b s : ℕ) (u rest : List Token) (x : X) (e : Stuck) → L b s x u
      → ((z : List Token) → SameHead rest z → r b s (u ++ z) ≡ Ok (x, z)) → all_read (r b s (u ++ rest)) ≡ Err e
      → Told L b s (u ++ rest) e.left e.deep
  good_told b s u [] x e h again k = absurd (ok_err x e (all_read (r b s (u ++ []))) (ap all_read (again [] tt)) k)
  good_told b s u (t ∷ ts) x e h again k =
      let same : record { left = suc (length ts); deep = false } ≡ e = err_same _ _ (all_read (r b s (u ++ (t ∷ ts)))) (ap all_read (again (t ∷ ts) refl)) k in
      subst (λ (d : Stuck). Told L b s (u ++ (t ∷ ts)) d.left d.deep) same
      (unexpected b s u t ts (x, [], subst (L b s x) (sym (append-nil u)) h)
      (λ v y o. left_over y x t v (r b s (u ++ (t ∷ v))) o (again (t ∷ v) refl))
      (λ c z i j v y o. left_over y x t v (r c z (u ++ (t ∷ v))) o (good_wide b s u (t ∷ ts) x (again (t ∷ ts) refl) c z i j (t ∷ v) refl)))

  pub all_told : (b s : ℕ) (w : List Token) (e : Stuck) → all_read (r b s w) ≡ Err e → Told L b s w e.left e.deep
  all_told b s w e h = elim ((E b s (suc b) (suc s) (omega arith) (omega arith)).runs w) [
    | inl g ↦ subst (λ v. Told L b s v e.left e.deep) (sym g.cut)
        (good_told b s g.u g.rest g.x e g.spells g.again (ap (λ z. all_read (r b s z)) (sym g.cut) ∙ h))
    | inr k ↦
        let fails : r b s (k.p ++ k.rest) ≡ Err (record { left = length k.rest; deep = k.deep }) = k.fails k.rest (SameHead-refl k.rest) in
        let same : record { left = length k.rest; deep = k.deep }
        ≡ e = err_same _ _ (all_read (r b s w)) (ap (λ z. all_read (r b s z)) k.cut ∙ ap all_read fails) h in
        subst (λ v. Told L b s v e.left e.deep) (sym k.cut)
        (subst (λ (d : Stuck). Told L b s (k.p ++ k.rest) d.left d.deep) same
        (bad_told b s k.p k.rest k.deep k.fails (λ n c y i j z d. bad_wide b s k.p k.rest k.deep fails n c y i j z d) (k.x, k.v, k.begun) k.more))
  ]
