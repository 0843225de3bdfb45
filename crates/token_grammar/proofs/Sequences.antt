-- Readers that are exact, with one token of sight: what that means, one token, and one thing after
-- the other.
use Rattle.std.proofs.Common.{◌≡◌, ℕ, Bool, true, false, cond, ◌||◌, eqb, List, [], ◌∷◌, ◌++◌}
use Rattle.std.proofs.Common.{length, Ok, Err, refl, sym, ◌∙◌, ap, subst, inl, inr, append_assoc}
use Rattle.std.proofs.Common.{◌⊎◌, eqb-true}
use Rattle.std.proofs.Math.Bool.{or_assoc}
use Rattle.std.proofs.lemmas.Bool.{cases_Bool, false≢true, or_cases, or_left, or_parts, or_right}
use Rattle.plex_lexer.specs.declared.token.Token.{Token}
use Rattle.token_grammar.specs.Language.{class, mem, Lang, ◌·◌, line_at}
use Rattle.token_grammar.specs.Reading.{Stuck, Reader, ◌>>=◌, at, word_of, both, lined}

abbrev pub SameHead : List Token → List Token → Type 0
SameHead [] [] = Unit {0}
SameHead [] (t ∷ ts) = ⊥
SameHead (s ∷ ss) [] = ⊥
SameHead (s ∷ ss) (t ∷ ts) = s ≡ t

pub SameHead-refl : (w : List Token) → SameHead w w
SameHead-refl [] = tt
SameHead-refl (t ∷ ts) = refl

pub SameHead-append : (u a b : List Token) → SameHead a b → SameHead (u ++ a) (u ++ b)
SameHead-append [] a b h = h
SameHead-append (t ∷ u) a b h = refl

pub at_same : (cs : List ℕ) (a b : List Token) → SameHead a b → at cs b ≡ at cs a
at_same cs [] [] h = refl
at_same cs [] (t ∷ ts) h = absurd h
at_same cs (s ∷ ss) [] h = absurd h
at_same cs (s ∷ ss) (t ∷ ts) h = ap (λ x. mem (class x) cs) (sym h)

pub line_same : (a b : List Token) → SameHead a b → line_at b ≡ line_at a
line_same [] [] h = refl
line_same [] (t ∷ ts) h = absurd h
line_same (s ∷ ss) [] h = absurd h
line_same (s ∷ ss) (t ∷ ts) h = ap (λ (x : Token). x.line) (sym h)

-- what a run of a reader came to
pub record Good {X : Type 0} (L : X → Lang) (r q : Reader X) (w : List Token) : Type 0 where
  pub x : X
  pub u : List Token
  pub rest : List Token
  pub cut : w ≡ u ++ rest
  pub spells : L x u
  pub again : (s : List Token) → SameHead rest s → r (u ++ s) ≡ Ok (x, s)
  pub wide : (s : List Token) → SameHead rest s → q (u ++ s) ≡ Ok (x, s)

pub record Bad {X : Type 0} (L M : X → Lang) (r q : Reader X) (w : List Token) : Type 0 where
  pub p : List Token
  pub rest : List Token
  pub deep : Bool
  pub cut : w ≡ p ++ rest
  pub fails : (s : List Token) → SameHead rest s → r (p ++ s) ≡ Err (record { left = length s; deep = deep })
  pub wide : deep ≡ false → (s : List Token) → SameHead rest s → q (p ++ s) ≡ Err (record { left = length s; deep = false })
  pub x : X
  pub v : List Token
  pub begun : L x (p ++ v)
  pub more : deep ≡ true → (t : Token) × (ts : List Token) × (rest ≡ t ∷ ts) × (y : X) × (z : List Token) × M y (p ++ (t ∷ z))

abbrev pub Begins : List ℕ → Bool → List Token → Type 0
Begins first empty [] = empty ≡ true
Begins first empty (t ∷ ts) = mem (class t) first ≡ true

-- r reads exactly L, and q, with wider limits, at least M
pub record Exact {X : Type 0} (L M : X → Lang) (first : List ℕ) (empty : Bool) (last : List ℕ) (r q : Reader X) : Type 0 where
  pub runs : (w : List Token) → Good L r q w ⊎ Bad L M r q w
  pub again : (x : X) (u rest : List Token) → L x u → at last rest ≡ false → r (u ++ rest) ≡ Ok (x, rest)
  pub begins : (x : X) (u : List Token) → L x u → Begins first empty u
  pub wider : (x : X) (u : List Token) → L x u → M x u
  pub x : X
  pub u : List Token
  pub has : L x u

-- words are put together in any order
pub dot_right : (L M N : Lang) (u : List Token) → ((L · M) · N) u → (L · (M · N)) u
dot_right L M N u h = (h.3.0, h.3.1 ++ h.1, h.2 ∙ ap (λ z. z ++ h.1) h.3.2 ∙ append_assoc h.3.0 h.3.1 h.1, h.3.3, (h.3.1, h.1, refl, h.3.4, h.4))

pub dot_left : (L M N : Lang) (u : List Token) → (L · (M · N)) u → ((L · M) · N) u
dot_left L M N u h = (h.0 ++ h.4.0, h.4.1, h.2 ∙ ap (λ z. h.0 ++ z) h.4.2 ∙ sym (append_assoc h.0 h.4.0 h.4.1), (h.0, h.4.0, refl, h.3, h.4.3), h.4.4)

pub then_to : (L M N : Lang) → ((u : List Token) → M u → N u) → (u : List Token) → (L · M) u → (L · N) u
then_to L M N f u h = (h.0, h.1, h.2, h.3, f h.1 h.4)

-- .. three of them before a fourth
pub three_right : (A B C D : Lang) (u : List Token) → ((A · (B · C)) · D) u → (A · (B · (C · D))) u
three_right A B C D u h = then_to A ((B · C) · D) (B · (C · D)) (dot_right B C D) u (dot_right A (B · C) D u h)

pub three_left : (A B C D : Lang) (u : List Token) → (A · (B · (C · D))) u → ((A · (B · C)) · D) u
three_left A B C D u h = dot_left A (B · C) D u (then_to A (B · (C · D)) ((B · C) · D) (dot_left B C D) u h)

-- sets of classes
abbrev pub apart : List ℕ → List ℕ → Bool
apart [] ys = true
apart (x ∷ xs) ys = cond (mem x ys) false (apart xs ys)

abbrev pub within : List ℕ → List ℕ → Bool
within [] ys = true
within (x ∷ xs) ys = cond (mem x ys) (within xs ys) false

cond_false : (b y : Bool) → cond b false y ≡ true → (b ≡ false) × (y ≡ true)
cond_false true y h = cc
cond_false false y h = (refl, h)

cond_true : (b y : Bool) → cond b y false ≡ true → (b ≡ true) × (y ≡ true)
cond_true true y h = (refl, h)
cond_true false y h = cc

mem_append : (c : ℕ) (xs ys : List ℕ) → mem c (xs ++ ys) ≡ (mem c xs || mem c ys)
mem_append c [] ys = refl
mem_append c (x ∷ xs) ys = ap (λ b. eqb c x || b) (mem_append c xs ys) ∙ sym (or_assoc (eqb c x) (mem c xs) (mem c ys))

pub mem_left : (c : ℕ) (xs ys : List ℕ) → mem c xs ≡ true → mem c (xs ++ ys) ≡ true
mem_left c xs ys h = mem_append c xs ys ∙ or_left (mem c xs) (mem c ys) h

pub mem_right : (c : ℕ) (xs ys : List ℕ) → mem c ys ≡ true → mem c (xs ++ ys) ≡ true
mem_right c xs ys h = mem_append c xs ys ∙ or_right (mem c xs) (mem c ys) h

pub mem_split : (c : ℕ) (xs ys : List ℕ) → mem c (xs ++ ys) ≡ true → (mem c xs ≡ true) ⊎ (mem c ys ≡ true)
mem_split c xs ys h = or_cases (mem c xs) (mem c ys) (sym (mem_append c xs ys) ∙ h)

pub at_both : (xs ys : List ℕ) (w : List Token) → at (xs ++ ys) w ≡ (at xs w || at ys w)
at_both xs ys [] = refl
at_both xs ys (t ∷ ts) = mem_append (class t) xs ys

pub at_append : (xs ys : List ℕ) (w : List Token) → at (xs ++ ys) w ≡ false → (at xs w ≡ false) × (at ys w ≡ false)
at_append xs ys w h = or_parts (at xs w) (at ys w) (sym (at_both xs ys w) ∙ h)

pub apart_mem : (xs ys : List ℕ) (c : ℕ) → apart xs ys ≡ true → mem c xs ≡ true → mem c ys ≡ false
apart_mem [] ys c h m = cc
apart_mem (x ∷ xs) ys c h m =
    let k = cond_false (mem x ys) (apart xs ys) h in
    elim (or_cases (eqb c x) (mem c xs) m) [ inl e ↦ ap (λ z. mem z ys) (eqb-true c x e) ∙ k.0 | inr e ↦ apart_mem xs ys c k.1 e ]

pub within_mem : (xs ys : List ℕ) (c : ℕ) → within xs ys ≡ true → mem c xs ≡ true → mem c ys ≡ true
within_mem [] ys c h m = cc
within_mem (x ∷ xs) ys c h m =
    let k = cond_true (mem x ys) (within xs ys) h in
    elim (or_cases (eqb c x) (mem c xs) m) [ inl e ↦ ap (λ z. mem z ys) (eqb-true c x e) ∙ k.0 | inr e ↦ within_mem xs ys c k.1 e ]

-- one token

abbrev pub one : List ℕ → Token → Lang
one cs t u = (u ≡ t ∷ []) × (mem (class t) cs ≡ true)

word_ok : (cs : List ℕ) (t : Token) (ts : List Token) → mem (class t) cs ≡ true → word_of cs (t ∷ ts) ≡ Ok (t, ts)
unfolding word_of
word_ok cs t ts h = ap (λ b. cond b (Ok (t, ts)) (Err (record { left = length (t ∷ ts); deep = false }))) h

pub word_bad : (cs : List ℕ) (t : Token) (ts : List Token) → mem (class t) cs ≡ false
    → word_of cs (t ∷ ts) ≡ Err (record { left = length (t ∷ ts); deep = false })
unfolding word_of
word_bad cs t ts h = ap (λ b. cond b (Ok (t, ts)) (Err (record { left = length (t ∷ ts); deep = false }))) h

pub word_end : (cs : List ℕ) → word_of cs [] ≡ Err (record { left = 0; deep = false })
unfolding word_of
word_end cs = refl

pub Exact-word : (cs : List ℕ) (t : Token) → mem (class t) cs ≡ true → Exact (one cs) (one cs) cs false [] (word_of cs) (word_of cs)
Exact-word cs t k = record {
  runs = λ w. runs w;
  again = λ x u rest l h. subst (λ z. word_of cs (z ++ rest) ≡ Ok (x, rest)) (sym l.0) (word_ok cs x rest l.1);
  begins = λ x u l. subst (λ z. Begins cs false z) (sym l.0) l.1;
  wider = λ x u l. l;
  x = t;
  u = t ∷ [];
  has = (refl, k);
}
  where
    fall : (w : List Token) → ((s : List Token) → SameHead w s
        → word_of cs s ≡ Err (record { left = length s; deep = false }))
        → Bad (one cs) (one cs) (word_of cs) (word_of cs) w
    fall w f = record {
      p = [];
      rest = w;
      deep = false;
      cut = refl;
      fails = f;
      wide = λ _. f;
      x = t;
      v = t ∷ [];
      begun = (refl, k);
      more = λ d. absurd (false≢true d);
    }

    runs : (w : List Token) → Good (one cs) (word_of cs) (word_of cs) w ⊎ Bad (one cs) (one cs) (word_of cs) (word_of cs) w
    runs [] = inr (fall [] (λ s h. elim s as (λ s. SameHead [] s
        → word_of cs s ≡ Err (record { left = length s; deep = false }))
        [ [] ↦ λ _. word_end cs | y ∷ ys ↦ λ h. absurd h ] h))
    runs (y ∷ ys) = elim (cases_Bool (mem (class y) cs)) [
      | inl e ↦ inl (record { x = y; u = y ∷ []; rest = ys; cut = refl; spells = (refl, e); again = λ s h. word_ok cs y s e; wide = λ s h. word_ok cs y s e })
      | inr e ↦ inr (fall (y ∷ ys) (λ s h. elim s as
          (λ s. SameHead (y ∷ ys) s → word_of cs s ≡ Err (record { left = length s; deep = false }))
          [ [] ↦ λ h. absurd h | z ∷ zs ↦ λ h. word_bad cs z zs (ap (λ a. mem (class a) cs) (sym h) ∙ e) ] h))
    ]

-- one after the other

abbrev pub firsts : Bool → List ℕ → List ℕ → List ℕ
firsts e f g = cond e (f ++ g) f

abbrev pub lasts : Bool → List ℕ → List ℕ → List ℕ
lasts e l m = cond e (l ++ m) m

abbrev pub Both : {A B C : Type 0} → (A → B → C) → (A → Lang) → (B → Lang) → C → Lang
Both {A} {B} h L N c u = (a : A) × (b : B) × (c ≡ h a b) × (L a · N b) u

module _ {A B C : Type 0} (h : A → B → C) (r : Reader A) (s : Reader B) where
  pub both_ok : (w w1 w2 : List Token) (a : A) (b : B) → r w ≡ Ok (a, w1) → s w1 ≡ Ok (b, w2) → both h r s w ≡ Ok (h a b, w2)
  both_ok w w1 w2 a b e1 e2 = ap (λ z. z >>= λ x. s x.1 >>= λ y. Ok (h x.0 y.0, y.1)) e1 ∙ ap (λ z. z >>= λ y. Ok (h a y.0, y.1)) e2

  pub both_bad1 : (w : List Token) (e : Stuck) → r w ≡ Err e → both h r s w ≡ Err e
  both_bad1 w e e1 = ap (λ z. z >>= λ x. s x.1 >>= λ y. Ok (h x.0 y.0, y.1)) e1

  pub both_bad2 : (w w1 : List Token) (a : A) (e : Stuck) → r w ≡ Ok (a, w1) → s w1 ≡ Err e → both h r s w ≡ Err e
  both_bad2 w w1 a e e1 e2 = ap (λ z. z >>= λ x. s x.1 >>= λ y. Ok (h x.0 y.0, y.1)) e1 ∙ ap (λ z. z >>= λ y. Ok (h a y.0, y.1)) e2

pub begins_right : (f g : List ℕ) (e : Bool) (u : List Token) → Begins g e u → Begins (f ++ g) e u
begins_right f g e [] h = h
begins_right f g e (t ∷ u) h = mem_right (class t) f g h

begins_left : (f g : List ℕ) (e d : Bool) (t : Token) (u : List Token) → Begins f e (t ∷ u) → Begins (f ++ g) d (t ∷ u)
begins_left f g e d t u h = mem_left (class t) f g h

begins_both : (f g : List ℕ) (e d : Bool) (u v : List Token) → Begins f e u → Begins g d v → Begins (firsts e f g) (cond e d false) (u ++ v)
begins_both f g true d [] v h k = begins_right f g d v k
begins_both f g false d [] v h k = absurd (false≢true h)
begins_both f g true d (t ∷ u) v h k = mem_left (class t) f g h
begins_both f g false d (t ∷ u) v h k = h

stops_last : (e : Bool) (l m : List ℕ) (w : List Token) → at (lasts e l m) w ≡ false → at m w ≡ false
stops_last true l m w h = (at_append l m w h).1
stops_last false l m w h = h

stops_after : (g l m : List ℕ) (e : Bool) (v w : List Token) → Begins g e v → apart g l ≡ true → at (lasts e l m) w ≡ false → at l (v ++ w) ≡ false
stops_after g l m true [] w b a h = (at_append l m w h).0
stops_after g l m false [] w b a h = absurd (false≢true b)
stops_after g l m e (t ∷ v) w b a h = apart_mem g l (class t) a b

module _ {A B C : Type 0} (h : A → B → C) (L L' : A → Lang) (N N' : B → Lang) (r q : Reader A) (s p : Reader B) where
  unfoldable pub both_good : (w : List Token) (g : Good L r q w) → Good N s p g.rest → Good (Both h L N) (both h r s) (both h q p) w
  both_good w g k =
      let same : (z : List Token) → SameHead k.rest z → SameHead g.rest (k.u ++ z) =
      λ z d. subst (λ y. SameHead y (k.u ++ z)) (sym k.cut) (SameHead-append k.u k.rest z d) in
      record {
        x = h g.x k.x;
        u = g.u ++ k.u;
        rest = k.rest;
        cut = g.cut ∙ ap (λ z. g.u ++ z) k.cut ∙ sym (append_assoc g.u k.u k.rest);
        spells = (g.x, k.x, refl, (g.u, k.u, refl, g.spells, k.spells));
        again = λ z d. ap (both h r s) (append_assoc g.u k.u z)
            ∙ both_ok h r s (g.u ++ (k.u ++ z)) (k.u ++ z) z g.x k.x (g.again (k.u ++ z) (same z d)) (k.again z d);
        wide = λ z d. ap (both h q p) (append_assoc g.u k.u z)
            ∙ both_ok h q p (g.u ++ (k.u ++ z)) (k.u ++ z) z g.x k.x (g.wide (k.u ++ z) (same z d)) (k.wide z d);
      }

  both_first : (w : List Token) (y : B) (v : List Token) → N y v → N' y v → Bad L L' r q w → Bad (Both h L N) (Both h L' N') (both h r s) (both h q p) w
  both_first w y v has has2 b = record {
    p = b.p;
    rest = b.rest;
    deep = b.deep;
    cut = b.cut;
    fails = λ z d. both_bad1 h r s (b.p ++ z) _ (b.fails z d);
    wide = λ n z d. both_bad1 h q p (b.p ++ z) _ (b.wide n z d);
    x = h b.x y;
    v = b.v ++ v;
    begun = (b.x, y, refl, (b.p ++ b.v, v, sym (append_assoc b.p b.v v), b.begun, has));
    more = λ n. let m = b.more n in
        (m.0, m.1, m.2, h m.3 y, m.4 ++ v, (m.3, y, refl, (b.p ++ (m.0 ∷ m.4), v, sym (append_assoc b.p (m.0 ∷ m.4) v), m.5, has2)));
  }

  unfoldable pub both_second : (w : List Token) → ((x : A) (u : List Token) → L x u → L' x u) → (g : Good L r q w)
      → Bad N N' s p g.rest → Bad (Both h L N) (Both h L' N') (both h r s) (both h q p) w
  both_second w wider g b =
      let same : (z : List Token) → SameHead b.rest z → SameHead g.rest (b.p ++ z) =
      λ z d. subst (λ y. SameHead y (b.p ++ z)) (sym b.cut) (SameHead-append b.p b.rest z d) in
      record {
        p = g.u ++ b.p;
        rest = b.rest;
        deep = b.deep;
        cut = g.cut ∙ ap (λ z. g.u ++ z) b.cut ∙ sym (append_assoc g.u b.p b.rest);
        fails = λ z d. ap (both h r s) (append_assoc g.u b.p z)
            ∙ both_bad2 h r s (g.u ++ (b.p ++ z)) (b.p ++ z) g.x _ (g.again (b.p ++ z) (same z d)) (b.fails z d);
        wide = λ n z d. ap (both h q p) (append_assoc g.u b.p z)
            ∙ both_bad2 h q p (g.u ++ (b.p ++ z)) (b.p ++ z) g.x _ (g.wide (b.p ++ z) (same z d)) (b.wide n z d);
        x = h g.x b.x;
        v = b.v;
        begun = (g.x, b.x, refl, (g.u, b.p ++ b.v, append_assoc g.u b.p b.v, g.spells, b.begun));
        more = λ n. let m = b.more n in
            (m.0, m.1, m.2, h g.x m.3, m.4, (g.x, m.3, refl, (g.u, b.p ++ (m.0 ∷ m.4), append_assoc g.u b.p (m.0 ∷ m.4), wider g.x g.u g.spells, m.5)));
      }

module _ {A B C : Type 0} (h : A → B → C) (L L' : A → Lang) (N N' : B → Lang) (f1 f2 l1 l2 : List ℕ) (e1 e2 : Bool)
    (r q : Reader A) (s p : Reader B) (E : Exact L L' f1 e1 l1 r q) (F : Exact N N' f2 e2 l2 s p) where
  both_runs : (w : List Token) → Good (Both h L N) (both h r s) (both h q p) w ⊎ Bad (Both h L N) (Both h L' N') (both h r s) (both h q p) w
  both_runs w = elim (E.runs w) [
    | inl g ↦ elim (F.runs g.rest) [ inl k ↦ inl (both_good h L L' N N' r q s p w g k) | inr b ↦ inr (both_second h L L' N N' r q s p w E.wider g b) ]
    | inr b ↦ inr (both_first h L L' N N' r q s p w F.x F.u F.has (F.wider F.x F.u F.has) b)
  ]

  both_again : (apart f2 l1 ≡ true) → (c : C) (u rest : List Token) → Both h L N c u → at (lasts e2 l1 l2) rest ≡ false → both h r s (u ++ rest) ≡ Ok (c, rest)
  both_again d c u rest l stop =
      let a = l.0 in let b = l.1 in let v = l.3.0 in let z = l.3.1 in
      let first : r (v ++ (z ++ rest)) ≡ Ok (a, z ++ rest) = E.again a v (z ++ rest) l.3.3 (stops_after f2 l1 l2 e2 z rest (F.begins b z l.3.4) d stop) in
      let second : s (z ++ rest) ≡ Ok (b, rest) = F.again b z rest l.3.4 (stops_last e2 l1 l2 rest stop) in
      ap (λ y. both h r s (y ++ rest)) l.3.2 ∙ ap (both h r s) (append_assoc v z rest)
      ∙ both_ok h r s (v ++ (z ++ rest)) (z ++ rest) rest a b first second ∙ ap (λ x. Ok (x, rest)) (sym l.2)

  pub both_exact : apart f2 l1 ≡ true → Exact (Both h L N) (Both h L' N') (firsts e1 f1 f2) (cond e1 e2 false) (lasts e2 l1 l2) (both h r s) (both h q p)
  both_exact d = record {
    runs = both_runs;
    again = both_again d;
    begins = λ c u l. subst (Begins (firsts e1 f1 f2) (cond e1 e2 false)) (sym l.3.2)
        (begins_both f1 f2 e1 e2 l.3.0 l.3.1 (E.begins l.0 l.3.0 l.3.3) (F.begins l.1 l.3.1 l.3.4));
    wider = λ c u l. (l.0, l.1, l.2, (l.3.0, l.3.1, l.3.2, E.wider l.0 l.3.0 l.3.3, F.wider l.1 l.3.1 l.3.4));
    x = h E.x F.x;
    u = E.u ++ F.u;
    has = (E.x, F.x, refl, (E.u, F.u, refl, E.has, F.has));
  }

pub Exact-both : {A B C : Type 0} (h : A → B → C) {L L' : A → Lang} {N N' : B → Lang} {f1 f2 l1 l2 : List ℕ}
    {e1 e2 : Bool} {r q : Reader A} {s p : Reader B} → Exact L L' f1 e1 l1 r q → Exact N N' f2 e2 l2 s p
    → apart f2 l1 ≡ true → Exact (Both h L N) (Both h L' N') (firsts e1 f1 f2) (cond e1 e2 false) (lasts e2 l1 l2)
    (both h r s) (both h q p)
Exact-both h {L} {L'} {N} {N'} {f1} {f2} {l1} {l2} {e1} {e2} {r} {q} {s} {p} E F d = both_exact h L L' N N' f1 f2 l1 l2 e1 e2 r q s p E F d

-- the same language, said otherwise
pub Exact-same : {X : Type 0} {L L' : X → Lang} (N N' : X → Lang) {f l : List ℕ} {e : Bool} {r q : Reader X}
    → ((x : X) (u : List Token) → L x u → N x u) → ((x : X) (u : List Token) → N x u → L x u)
    → ((x : X) (u : List Token) → L' x u → N' x u) → Exact L L' f e l r q → Exact N N' f e l r q
Exact-same {X} {L} {L'} N N' {f} {l} {e} {r} {q} to from to2 E = record {
  runs = λ w. elim (E.runs w) [ inl g ↦ inl (good w g) | inr b ↦ inr (bad w b) ];
  again = λ x u rest k h. E.again x u rest (from x u k) h;
  begins = λ x u k. E.begins x u (from x u k);
  wider = λ x u k. to2 x u (E.wider x u (from x u k));
  x = E.x;
  u = E.u;
  has = to E.x E.u E.has;
}
  where
    good : (w : List Token) → Good L r q w → Good N r q w
    good w g = record { x = g.x; u = g.u; rest = g.rest; cut = g.cut; spells = to g.x g.u g.spells; again = g.again; wide = g.wide }

    bad : (w : List Token) → Bad L L' r q w → Bad N N' r q w
    bad w b = record {
      p = b.p;
      rest = b.rest;
      deep = b.deep;
      cut = b.cut;
      fails = b.fails;
      wide = b.wide;
      x = b.x;
      v = b.v;
      begun = to b.x (b.p ++ b.v) b.begun;
      more = λ n. let m = b.more n in (m.0, m.1, m.2, m.3, m.4, to2 m.3 (b.p ++ (m.0 ∷ m.4)) m.5);
    }

-- with the line of the first token

abbrev pub Lined : {A X : Type 0} → (ℕ → A → X) → (A → Lang) → X → Lang
Lined {A} f L x u = (a : A) × (x ≡ f (line_at u) a) × L a u

lined_ok : {A X : Type 0} (f : ℕ → A → X) (r : Reader A) (w rest : List Token) (a : A) → r w ≡ Ok (a, rest) → lined f r w ≡ Ok (f (line_at w) a, rest)
lined_ok f r w rest a e = ap (λ z. z >>= λ x. Ok (f (line_at w) x.0, x.1)) e

pub lined_bad : {A X : Type 0} (f : ℕ → A → X) (r : Reader A) (w : List Token) (e : Stuck) → r w ≡ Err e → lined f r w ≡ Err e
lined_bad f r w e k = ap (λ z. z >>= λ x. Ok (f (line_at w) x.0, x.1)) k

-- what begins with a token has a line of its own, whatever follows
line_begins : (f : List ℕ) (u s : List Token) → Begins f false u → line_at (u ++ s) ≡ line_at u
line_begins f [] s h = absurd (false≢true h)
line_begins f (t ∷ u) s h = refl

pub Exact-lined : {A X : Type 0} (f : ℕ → A → X) {L L' : A → Lang} {g l : List ℕ} {r q : Reader A}
    → Exact L L' g false l r q → Exact (Lined f L) (Lined f L') g false l (lined f r) (lined f q)
Exact-lined {A} {X} f {L} {L'} {g} {l} {r} {q} E = record {
  runs = λ w. elim (E.runs w) [ inl k ↦ inl (good w k) | inr b ↦ inr (bad w b) ];
  again = λ x u rest k h. lined_ok f r (u ++ rest) rest k.0 (E.again k.0 u rest k.2 h)
      ∙ ap (λ z. Ok (z, rest)) (ap (λ n. f n k.0) (line_begins g u rest (E.begins k.0 u k.2)) ∙ sym k.1);
  begins = λ x u k. E.begins k.0 u k.2;
  wider = λ x u k. (k.0, k.1, E.wider k.0 u k.2);
  x = f (line_at E.u) E.x;
  u = E.u;
  has = (E.x, refl, E.has);
}
  where
    good : (w : List Token) → Good L r q w → Good (Lined f L) (lined f r) (lined f q) w
    good w k =
        let keeps : (s : List Token) → f (line_at (k.u ++ s)) k.x ≡ f (line_at k.u) k.x =
        λ s. ap (λ n. f n k.x) (line_begins g k.u s (E.begins k.x k.u k.spells)) in
        record {
          x = f (line_at k.u) k.x;
          u = k.u;
          rest = k.rest;
          cut = k.cut;
          spells = (k.x, refl, k.spells);
          again = λ s d. lined_ok f r (k.u ++ s) s k.x (k.again s d) ∙ ap (λ z. Ok (z, s)) (keeps s);
          wide = λ s d. lined_ok f q (k.u ++ s) s k.x (k.wide s d) ∙ ap (λ z. Ok (z, s)) (keeps s);
        }

    bad : (w : List Token) → Bad L L' r q w → Bad (Lined f L) (Lined f L') (lined f r) (lined f q) w
    bad w b = record {
      p = b.p;
      rest = b.rest;
      deep = b.deep;
      cut = b.cut;
      fails = λ s d. lined_bad f r (b.p ++ s) _ (b.fails s d);
      wide = λ n s d. lined_bad f q (b.p ++ s) _ (b.wide n s d);
      x = f (line_at (b.p ++ b.v)) b.x;
      v = b.v;
      begun = (b.x, refl, b.begun);
      more = λ n. let m = b.more n in (m.0, m.1, m.2, f (line_at (b.p ++ (m.0 ∷ m.4))) m.3, m.4, (m.3, refl, m.5));
    }
