-- Readers that are exact, with one token of sight: choices, lists, and what a parser's loops rest
-- on.
use Rattle.std.proofs.Common.{◌≡◌, ℕ, zero, suc, ◌<◌, ◌≤◌, Bool, true, false, cond, List, [], ◌∷◌}
use Rattle.std.proofs.Common.{◌++◌, length, Ok, Err, Result, Option, Some, None, refl, sym, ◌∙◌, ap}
use Rattle.std.proofs.Common.{subst, inl, inr, append_assoc, arith, ◌⊎◌, nat_lt}
use Rattle.std.proofs.lemmas.List.{length-append, append-nil}
use Rattle.std.proofs.lemmas.Bool.{cases_Bool, false≢true, lt-ltb, ltb-true}
use Rattle.plex_lexer.specs.declared.token.Token.{Token}
use Rattle.token_grammar.specs.Language.{class, mem, Lang, ◌·◌, word, each, maybe, flag}
use Rattle.token_grammar.specs.Reading.{Stuck, Reader, ◌>>=◌, with_front, shorter, done, optional}
use Rattle.token_grammar.specs.Reading.{flag_read, after, ended, closed, pair, at, word_of, up_to}
use Rattle.token_grammar.specs.Reading.{many, both, branch, halt, lined}
pub use Rattle.token_grammar.proofs.Sequences.{Both, Exact, Exact-both, Exact-lined, Exact-same}
pub use Rattle.token_grammar.proofs.Sequences.{Exact-word, Lined, SameHead, SameHead-refl}
pub use Rattle.token_grammar.proofs.Sequences.{at_append, at_both, dot_left, dot_right, mem_split}
pub use Rattle.token_grammar.proofs.Sequences.{one, then_to, three_left, three_right}
use Rattle.token_grammar.proofs.Sequences.{Bad, Begins, Good, SameHead-append, apart, apart_mem}
use Rattle.token_grammar.proofs.Sequences.{at_same, begins_right, both_bad1, both_good, both_second}
use Rattle.token_grammar.proofs.Sequences.{firsts, lasts, lined_bad, mem_left, within, within_mem}
use Rattle.token_grammar.proofs.Sequences.{word_bad, word_end}

-- one of two, told by the next token

abbrev pub Either : {X : Type 0} → (X → Lang) → (X → Lang) → X → Lang
Either L N x u = L x u ⊎ N x u

at_begins : (f cs : List ℕ) (u rest : List Token) → Begins f false u → within f cs ≡ true → at cs (u ++ rest) ≡ true
at_begins f cs [] rest b d = absurd (false≢true b)
at_begins f cs (t ∷ u) rest b d = within_mem f cs (class t) d b

at_else : (f cs l : List ℕ) (e : Bool) (u rest : List Token) → Begins f e u → apart f cs ≡ true
    → at (cond e (cs ++ l) l) rest ≡ false → at cs (u ++ rest) ≡ false
at_else f cs l true [] rest b d stop = (at_append cs l rest stop).0
at_else f cs l false [] rest b d stop = absurd (false≢true b)
at_else f cs l e (t ∷ u) rest b d stop = apart_mem f cs (class t) d b

stops_else : (e : Bool) (cs l : List ℕ) (w : List Token) → at (cond e (cs ++ l) l) w ≡ false → at l w ≡ false
stops_else true cs l w h = (at_append cs l w h).1
stops_else false cs l w h = h

module _ {X : Type 0} (cs : List ℕ) (r s : Reader X) where
  pub branch_then : (w : List Token) → at cs w ≡ true → branch cs r s w ≡ r w
  branch_then w h = ap (λ b. cond b (r w) (s w)) h

  pub branch_else : (w : List Token) → at cs w ≡ false → branch cs r s w ≡ s w
  branch_else w h = ap (λ b. cond b (r w) (s w)) h

-- a run of a part is a run of the whole, where the whole does on this head as the part
module _ {X : Type 0} (L N L' N' : X → Lang) (r q s p : Reader X) where
  good_as : (w : List Token) → ((x : X) (u : List Token) → L x u → N x u)
      → ((z : List Token) → SameHead w z → s z ≡ r z) → ((z : List Token) → SameHead w z → p z ≡ q z) → Good L r q w
      → Good N s p w
  good_as w to e1 e2 g =
      let same : (z : List Token) → SameHead g.rest z → SameHead w (g.u ++ z) =
      λ z d. subst (λ y. SameHead y (g.u ++ z)) (sym g.cut) (SameHead-append g.u g.rest z d) in
      record {
        x = g.x;
        u = g.u;
        rest = g.rest;
        cut = g.cut;
        spells = to g.x g.u g.spells;
        again = λ z d. e1 (g.u ++ z) (same z d) ∙ g.again z d;
        wide = λ z d. e2 (g.u ++ z) (same z d) ∙ g.wide z d;
      }

  bad_as : (w : List Token) → ((x : X) (u : List Token) → L x u → N x u) → ((x : X) (u : List Token) → L' x u → N' x u)
      → ((z : List Token) → SameHead w z → s z ≡ r z) → ((z : List Token) → SameHead w z → p z ≡ q z) → Bad L L' r q w
      → Bad N N' s p w
  bad_as w to to2 e1 e2 b =
      let same : (z : List Token) → SameHead b.rest z → SameHead w (b.p ++ z) =
      λ z d. subst (λ y. SameHead y (b.p ++ z)) (sym b.cut) (SameHead-append b.p b.rest z d) in
      record {
        p = b.p;
        rest = b.rest;
        deep = b.deep;
        cut = b.cut;
        fails = λ z d. e1 (b.p ++ z) (same z d) ∙ b.fails z d;
        wide = λ n z d. e2 (b.p ++ z) (same z d) ∙ b.wide n z d;
        x = b.x;
        v = b.v;
        begun = to b.x (b.p ++ b.v) b.begun;
        more = λ n. let m = b.more n in (m.0, m.1, m.2, m.3, m.4, to2 m.3 (b.p ++ (m.0 ∷ m.4)) m.5);
      }

pub Exact-branch : {X : Type 0} (cs : List ℕ) {L L' N N' : X → Lang} {f1 f2 l1 l2 : List ℕ} {e2 : Bool}
    {r q s p : Reader X} → Exact L L' f1 false l1 r q → Exact N N' f2 e2 l2 s p → within f1 cs ≡ true
    → apart f2 cs ≡ true → Exact (Either L N) (Either L' N') (f1 ++ f2) e2 (cond e2 (cs ++ (l1 ++ l2)) (l1 ++ l2))
    (branch cs r s) (branch cs q p)
Exact-branch {X} cs {L} {L'} {N} {N'} {f1} {f2} {l1} {l2} {e2} {r} {q} {s} {p} E F d1 d2 = record {
  runs = λ w. elim (cases_Bool (at cs w)) [
    | inl y ↦
        let e1 : (z : List Token) → SameHead w z → branch cs r s z ≡ r z = λ z d. branch_then cs r s z (at_same cs w z d ∙ y) in
        let e2 : (z : List Token) → SameHead w z → branch cs q p z ≡ q z = λ z d. branch_then cs q p z (at_same cs w z d ∙ y) in
        elim (E.runs w) [
          | inl g ↦ inl (good_as L (Either L N) L' (Either L' N') r q (branch cs r s) (branch cs q p) w (λ x u k. inl k) e1 e2 g)
          | inr b ↦ inr (bad_as L (Either L N) L' (Either L' N') r q (branch cs r s) (branch cs q p) w (λ x u k. inl k) (λ x u k. inl k) e1 e2 b)
        ]
    | inr y ↦
        let e1 : (z : List Token) → SameHead w z → branch cs r s z ≡ s z = λ z d. branch_else cs r s z (at_same cs w z d ∙ y) in
        let e2 : (z : List Token) → SameHead w z → branch cs q p z ≡ p z = λ z d. branch_else cs q p z (at_same cs w z d ∙ y) in
        elim (F.runs w) [
          | inl g ↦ inl (good_as N (Either L N) N' (Either L' N') s p (branch cs r s) (branch cs q p) w (λ x u k. inr k) e1 e2 g)
          | inr b ↦ inr (bad_as N (Either L N) N' (Either L' N') s p (branch cs r s) (branch cs q p) w (λ x u k. inr k) (λ x u k. inr k) e1 e2 b)
        ]
  ];
  again = λ x u rest k stop. elim k [
    | inl a ↦ branch_then cs r s (u ++ rest) (at_begins f1 cs u rest (E.begins x u a) d1)
        ∙ E.again x u rest a (at_append l1 l2 rest (stops_else e2 cs (l1 ++ l2) rest stop)).0
    | inr a ↦ branch_else cs r s (u ++ rest) (at_else f2 cs (l1 ++ l2) e2 u rest (F.begins x u a) d2 stop)
        ∙ F.again x u rest a (at_append l1 l2 rest (stops_else e2 cs (l1 ++ l2) rest stop)).1
  ];
  begins = λ x u k. elim k [ inl a ↦ begins_weak f1 f2 e2 u (E.begins x u a) | inr a ↦ begins_right f1 f2 e2 u (F.begins x u a) ];
  wider = λ x u k. elim k [ inl a ↦ inl (E.wider x u a) | inr a ↦ inr (F.wider x u a) ];
  x = E.x;
  u = E.u;
  has = inl E.has;
}
  where
    begins_weak : (f g : List ℕ) (e : Bool) (u : List Token) → Begins f false u → Begins (f ++ g) e u
    begins_weak f g e [] b = absurd (false≢true b)
    begins_weak f g e (t ∷ u) b = mem_left (class t) f g b

-- nothing more within these limits

pub Exact-halt : {X : Type 0} (cs ks : List ℕ) {L L' : X → Lang} (N' : X → Lang) {f1 l1 : List ℕ} {r q : Reader X}
    (p : Reader X) → Exact L L' f1 false l1 r q → within f1 cs ≡ true
    → ((w : List Token) → at ks w ≡ false → p w ≡ Err (record { left = length w; deep = false }))
    → ((t : Token) → mem (class t) ks ≡ true → (x : X) × (v : List Token) × N' x (t ∷ v))
    → Exact L (Either L' N') f1 false l1 (branch cs r (halt ks)) (branch cs q p)
Exact-halt {X} cs ks {L} {L'} N' {f1} {l1} {r} {q} p E d1 stops opens = record {
  runs = λ w. elim (cases_Bool (at cs w)) [
    | inl y ↦
        let e1 : (z : List Token) → SameHead w z → branch cs r (halt ks) z ≡ r z = λ z d. branch_then cs r (halt ks) z (at_same cs w z d ∙ y) in
        let e2 : (z : List Token) → SameHead w z → branch cs q p z ≡ q z = λ z d. branch_then cs q p z (at_same cs w z d ∙ y) in
        elim (E.runs w) [
          | inl g ↦ inl (good_as L L L' (Either L' N') r q (branch cs r (halt ks)) (branch cs q p) w (λ x u k. k) e1 e2 g)
          | inr b ↦ inr (bad_as L L L' (Either L' N') r q (branch cs r (halt ks)) (branch cs q p) w (λ x u k. k) (λ x u k. inl k) e1 e2 b)
        ]
    | inr y ↦ inr (stuck w y)
  ];
  again = λ x u rest a stop. branch_then cs r (halt ks) (u ++ rest) (at_begins f1 cs u rest (E.begins x u a) d1) ∙ E.again x u rest a stop;
  begins = E.begins;
  wider = λ x u k. inl (E.wider x u k);
  x = E.x;
  u = E.u;
  has = E.has;
}
  where
    opened : (w : List Token) → at ks w ≡ true → (t : Token) × (ts : List Token) × (w ≡ t ∷ ts) × (x : X) × (v : List Token) × Either L' N' x (t ∷ v)
    opened [] h = absurd (false≢true h)
    opened (t ∷ ts) h = let o = opens t h in (t, ts, refl, o.0, o.1, inr o.2)

    stuck : (w : List Token) → at cs w ≡ false → Bad L (Either L' N') (branch cs r (halt ks)) (branch cs q p) w
    stuck w y = record {
      p = [];
      rest = w;
      deep = at ks w;
      cut = refl;
      fails = λ z d. branch_else cs r (halt ks) z (at_same cs w z d ∙ y) ∙ ap (λ b. Err (record { left = length z; deep = b })) (at_same ks w z d);
      wide = λ n z d. branch_else cs q p z (at_same cs w z d ∙ y) ∙ stops z (at_same ks w z d ∙ n);
      x = E.x;
      v = E.u;
      begun = E.has;
      more = λ n. opened w n;
    }

-- as many as there are

guarded : {Z : Type 0} (b : Bool) (x y z : Z) → (b ≡ true → x ≡ y) → cond b x z ≡ cond b y z
guarded true x y z e = e refl
guarded false x y z e = refl

module _ {X : Type 0} (cs : List ℕ) (r : Reader X) where
  next : ℕ → X × List Token → Result (List X × List Token) Stuck
  next n x = up_to n cs r x.1 >>= λ xs. Ok (x.0 ∷ xs.0, xs.1)

  enough : (m n : ℕ) (w : List Token) → length w ≤ m → length w ≤ n → up_to m cs r w ≡ up_to n cs r w
  unfolding up_to next
  enough zero zero w a b = refl
  enough zero (suc n) [] a b = refl
  enough zero (suc n) (t ∷ ts) a b = absurd (omega arith)
  enough (suc m) zero [] a b = refl
  enough (suc m) zero (t ∷ ts) a b = absurd (omega arith)
  enough (suc m) (suc n) w a b =
      let inner : (z : Result (X × List Token) Stuck) → (z >>= λ x. shorter x.1 w (next m x)) ≡ (z >>= λ x. shorter x.1 w (next n x)) =
      λ z. elim z as (λ z. (z >>= λ x. shorter x.1 w (next m x)) ≡ (z >>= λ x. shorter x.1 w (next n x))) [
        | Ok x ↦ guarded (nat_lt (length x.1) (length w)) (next m x) (next n x) (Err (record { left = length w; deep = false }))
            (λ e. let k : length x.1 < length w = ltb-true (length x.1) (length w) e in ap
            (λ z. z >>= λ xs. Ok (x.0 ∷ xs.0, xs.1)) (enough m n x.1 (omega arith) (omega arith)))
        | Err e ↦ refl
      ] in
      ap (λ z. cond (at cs w) z (Ok ([], w))) (inner (r w))

  pub many_else : (w : List Token) → at cs w ≡ false → many cs r w ≡ Ok ([], w)
  unfolding many up_to
  many_else [] h = refl
  many_else (t ∷ ts) h = ap (λ b. cond b (r (t ∷ ts) >>= λ x. shorter x.1 (t ∷ ts)
      (up_to (length ts) cs r x.1 >>= λ xs. Ok (x.0 ∷ xs.0, xs.1))) (Ok ([], t ∷ ts))) h

  -- the unrolling: one more, and many
  pub many_then : (w rest : List Token) (x : X) → at cs w ≡ true → r w ≡ Ok (x, rest) → length rest < length w
      → many cs r w ≡ (many cs r rest >>= λ xs. Ok (x ∷ xs.0, xs.1))
  unfolding many up_to
  many_then [] rest x h e l = absurd (false≢true h)
  many_then (t ∷ ts) rest x h e l =
      ap (λ b. cond b (r (t ∷ ts) >>= λ x. shorter x.1 (t ∷ ts) (up_to (length ts) cs r x.1 >>= λ xs. Ok (x.0 ∷ xs.0, xs.1))) (Ok ([], t ∷ ts))) h
      ∙ ap (λ z. z >>= λ x. shorter x.1 (t ∷ ts) (up_to (length ts) cs r x.1 >>= λ xs. Ok (x.0 ∷ xs.0, xs.1))) e
      ∙ ap (λ b. cond b (up_to (length ts) cs r rest >>= λ xs. Ok (x ∷ xs.0, xs.1))
      (Err (record { left = length (t ∷ ts); deep = false }))) (lt-ltb (length rest) (length (t ∷ ts)) l)
      ∙ ap (λ z. z >>= λ xs. Ok (x ∷ xs.0, xs.1)) (enough (length ts) (length rest) rest (omega arith) (omega arith))

  pub many_bad : (w : List Token) (e : Stuck) → at cs w ≡ true → r w ≡ Err e → many cs r w ≡ Err e
  unfolding many up_to
  many_bad [] e h k = absurd (false≢true h)
  many_bad (t ∷ ts) e h k =
      ap (λ b. cond b (r (t ∷ ts) >>= λ x. shorter x.1 (t ∷ ts) (up_to (length ts) cs r x.1 >>= λ xs. Ok (x.0 ∷ xs.0, xs.1))) (Ok ([], t ∷ ts))) h
      ∙ ap (λ z. z >>= λ x. shorter x.1 (t ∷ ts) (up_to (length ts) cs r x.1 >>= λ xs. Ok (x.0 ∷ xs.0, xs.1))) k

each_begins : {X : Type 0} (L : X → Lang) (f : List ℕ) → ((x : X) (u : List Token) → L x u → Begins f false u)
    → (xs : List X) (u : List Token) → each L xs u → Begins f true u
each_begins L f b [] u h = subst (Begins f true) (sym h) refl
each_begins L f b (x ∷ xs) u h = subst (Begins f true) (sym h.2) (front h.0 h.1 (b x h.0 h.3))
  where
    front : (a c : List Token) → Begins f false a → Begins f true (a ++ c)
    front [] c k = absurd (false≢true k)
    front (t ∷ a) c k = k

each_wider : {X : Type 0} (L M : X → Lang) → ((x : X) (u : List Token) → L x u → M x u) → (xs : List X) (u : List Token) → each L xs u → each M xs u
each_wider L M w [] u h = h
each_wider L M w (x ∷ xs) u h = (h.0, h.1, h.2, w x h.0 h.3, each_wider L M w xs h.1 h.4)

each_cons : {X : Type 0} (L : X → Lang) (xs : List X) (u : List Token) → Both (λ (x : X) (ys : List X). x ∷ ys) L (each L) xs u → each L xs u
each_cons L xs u h = subst (λ ys. each L ys u) (sym h.2) h.3

longer : (f : List ℕ) (u w : List Token) → Begins f false u → length w < length (u ++ w)
longer f [] w b = absurd (false≢true b)
longer f (t ∷ u) w b = omega (arith, length-append u w)

module _ {X : Type 0} (L M : X → Lang) (f l : List ℕ) (r q : Reader X) (E : Exact L M f false l r q) (d : apart f l ≡ true) where
  abbrev cons : X → List X → List X
  cons x xs = x ∷ xs

  front : (u v : List Token) → Begins f false u → at f (u ++ v) ≡ true
  front [] v b = absurd (false≢true b)
  front (t ∷ u) v b = b

  module _ (w : List Token) (g : Good L r q w) where
    b : Begins f false g.u
    b = E.begins g.x g.u g.spells

    step_r : (y z : List Token) → SameHead g.rest (y ++ z) → many f r ((g.u ++ y) ++ z) ≡ both cons r (many f r) ((g.u ++ y) ++ z)
    step_r y z k =
        let v : List Token = y ++ z in
        subst (λ a. many f r a ≡ both cons r (many f r) a) (sym (append_assoc g.u y z))
        (many_then f r (g.u ++ v) v g.x (front g.u v b) (g.again v k) (longer f g.u v b)
        ∙ sym (ap (λ y. y >>= λ x. many f r x.1 >>= λ xs. Ok (x.0 ∷ xs.0, xs.1)) (g.again v k)))

    step_q : (y z : List Token) → SameHead g.rest (y ++ z) → many f q ((g.u ++ y) ++ z) ≡ both cons q (many f q) ((g.u ++ y) ++ z)
    step_q y z k =
        let v : List Token = y ++ z in
        subst (λ a. many f q a ≡ both cons q (many f q) a) (sym (append_assoc g.u y z))
        (many_then f q (g.u ++ v) v g.x (front g.u v b) (g.wide v k) (longer f g.u v b)
        ∙ sym (ap (λ y. y >>= λ x. many f q x.1 >>= λ xs. Ok (x.0 ∷ xs.0, xs.1)) (g.wide v k)))

    more_good : Good (each L) (many f r) (many f q) g.rest → Good (each L) (many f r) (many f q) w
    unfolding both_good
    more_good k =
        let B = both_good cons L M (each L) (each M) r q (many f r) (many f q) w g k in
        let same : (z : List Token) → SameHead k.rest z
        → SameHead g.rest (k.u ++ z) = λ z d. subst (λ y. SameHead y (k.u ++ z)) (sym k.cut)
        (SameHead-append k.u k.rest z d) in
        record {
          x = g.x ∷ k.x;
          u = g.u ++ k.u;
          rest = k.rest;
          cut = B.cut;
          spells = (g.u, k.u, refl, g.spells, k.spells);
          again = λ z d. step_r k.u z (same z d) ∙ B.again z d;
          wide = λ z d. step_q k.u z (same z d) ∙ B.wide z d;
        }

    more_bad : Bad (each L) (each M) (many f r) (many f q) g.rest → Bad (each L) (each M) (many f r) (many f q) w
    unfolding both_second
    more_bad k =
        let B = both_second cons L M (each L) (each M) r q (many f r) (many f q) w E.wider g k in
        let same : (z : List Token) → SameHead k.rest z
        → SameHead g.rest (k.p ++ z) = λ z d. subst (λ y. SameHead y (k.p ++ z)) (sym k.cut)
        (SameHead-append k.p k.rest z d) in
        record {
          p = g.u ++ k.p;
          rest = k.rest;
          deep = k.deep;
          cut = B.cut;
          fails = λ z d. step_r k.p z (same z d) ∙ B.fails z d;
          wide = λ n z d. step_q k.p z (same z d) ∙ B.wide n z d;
          x = g.x ∷ k.x;
          v = k.v;
          begun = each_cons L (g.x ∷ k.x) ((g.u ++ k.p) ++ k.v) B.begun;
          more = λ n. let m = B.more n in (m.0, m.1, m.2, m.3, m.4, each_cons M m.3 ((g.u ++ k.p) ++ (m.0 ∷ m.4)) m.5);
        }

  here_bad : (w : List Token) → at f w ≡ true → Bad L M r q w → Bad (each L) (each M) (many f r) (many f q) w
  here_bad w h k =
      let same : (z : List Token) → SameHead k.rest z
      → at f (k.p ++ z) ≡ true = λ z d. at_same f w (k.p ++ z)
      (subst (λ y. SameHead y (k.p ++ z)) (sym k.cut) (SameHead-append k.p k.rest z d)) ∙ h in
      record {
        p = k.p;
        rest = k.rest;
        deep = k.deep;
        cut = k.cut;
        fails = λ z d. many_bad f r (k.p ++ z) _ (same z d) (k.fails z d);
        wide = λ n z d. many_bad f q (k.p ++ z) _ (same z d) (k.wide n z d);
        x = k.x ∷ [];
        v = k.v;
        begun = (k.p ++ k.v, [], sym (append-nil (k.p ++ k.v)), k.begun, refl);
        more = λ n. let m = k.more n in (m.0, m.1, m.2, m.3 ∷ [], m.4, (k.p ++ (m.0 ∷ m.4), [], sym (append-nil (k.p ++ (m.0 ∷ m.4))), m.5, refl));
      }

  end_good : (w : List Token) → at f w ≡ false → Good (each L) (many f r) (many f q) w
  end_good w h = record {
    x = [];
    u = [];
    rest = w;
    cut = refl;
    spells = refl;
    again = λ z s. many_else f r z (at_same f w z s ∙ h);
    wide = λ z s. many_else f q z (at_same f w z s ∙ h);
  }

  many_runs : (n : ℕ) (w : List Token) → length w ≤ n → Good (each L) (many f r) (many f q) w ⊎ Bad (each L) (each M) (many f r) (many f q) w
  many_runs zero [] fuel = inl (end_good [] refl)
  many_runs zero (t ∷ ts) fuel = absurd (omega arith)
  many_runs (suc n) w fuel = elim (cases_Bool (at f w)) [
    | inl h ↦ elim (E.runs w) [
      | inl g ↦
          let less : length g.rest < length w = subst (λ y. length g.rest < length y) (sym g.cut) (longer f g.u g.rest (E.begins g.x g.u g.spells)) in
          elim (many_runs n g.rest (omega arith)) [ inl k ↦ inl (more_good w g k) | inr k ↦ inr (more_bad w g k) ]
      | inr k ↦ inr (here_bad w h k)
    ]
    | inr h ↦ inl (end_good w h)
  ]

  many_again : (xs : List X) (u rest : List Token) → each L xs u → at (f ++ l) rest ≡ false → many f r (u ++ rest) ≡ Ok (xs, rest)
  many_again [] u rest h stop = ap (λ y. many f r (y ++ rest)) h ∙ many_else f r rest (at_append f l rest stop).0
  many_again (x ∷ xs) u rest h stop =
      let a = h.0 in let c = h.1 in
      let k : Begins f false a = E.begins x a h.3 in
      let first : r (a ++ (c ++ rest)) ≡ Ok (x, c ++ rest) = E.again x a (c ++ rest) h.3 (follow c (each_begins L f E.begins xs c h.4)) in
      ap (λ y. many f r (y ++ rest)) h.2 ∙ ap (many f r) (append_assoc a c rest)
      ∙ many_then f r (a ++ (c ++ rest)) (c ++ rest) x (front a (c ++ rest) k) first (longer f a (c ++ rest) k)
      ∙ ap (λ z. z >>= λ ys. Ok (x ∷ ys.0, ys.1)) (many_again xs c rest h.4 stop)
    where
      follow : (c : List Token) → Begins f true c → at l (c ++ rest) ≡ false
      follow [] b = (at_append f l rest stop).1
      follow (t ∷ c) b = apart_mem f l (class t) d b

  pub many_exact : Exact (each L) (each M) f true (f ++ l) (many f r) (many f q)
  many_exact = record {
    runs = λ w. many_runs (length w) w (omega arith);
    again = many_again;
    begins = each_begins L f E.begins;
    wider = each_wider L M E.wider;
    x = [];
    u = [];
    has = refl;
  }

pub Exact-many : {X : Type 0} {L M : X → Lang} {f l : List ℕ} {r q : Reader X} → Exact L M f false l r q
    → apart f l ≡ true → Exact (each L) (each M) f true (f ++ l) (many f r) (many f q)
Exact-many {X} {L} {M} {f} {l} {r} {q} E d = many_exact L M f l r q E d

pub Exact-done : {X : Type 0} (x : X) → Exact (λ y u. (y ≡ x) × (u ≡ [])) (λ y u. (y ≡ x) × (u ≡ [])) [] true [] (done x) (done x)
Exact-done x = record {
  runs = λ w. inl (record { x = x; u = []; rest = w; cut = refl; spells = (refl, refl); again = λ s d. refl; wide = λ s d. refl });
  again = λ y u rest h stop. ap (λ v. Ok (x, v ++ rest)) h.1 ∙ ap (λ z. Ok (z, rest)) (sym h.0);
  begins = λ y u h. subst (Begins [] true) (sym h.1) refl;
  wider = λ y u h. h;
  x = x;
  u = [];
  has = (refl, refl);
}

apart_none : (xs : List ℕ) → apart xs [] ≡ true
apart_none [] = refl
apart_none (x ∷ xs) = apart_none xs

pub Exact-after : {X : Type 0} (c : List ℕ) (t : Token) → mem (class t) c ≡ true
    → {L L' : X → Lang} {f l : List ℕ} {e : Bool} {r q : Reader X} → Exact L L' f e l r q
    → Exact (λ x. word c · L x) (λ x. word c · L' x) c false (lasts e [] l) (after c r) (after c q)
Exact-after {X} c t k {L} {L'} {f} {l} {e} {r} {q} E =
    Exact-same (λ x. word c · L x) (λ x. word c · L' x)
    (λ x u h. (h.3.0, h.3.1, h.3.2, (h.0, h.3.3.0, h.3.3.1), subst (λ y. L y h.3.1) (sym h.2) h.3.4))
    (λ x u h. (h.3.0, x, refl, (h.0, h.1, h.2, (h.3.1, h.3.2), h.4)))
    (λ x u h. (h.3.0, h.3.1, h.3.2, (h.0, h.3.3.0, h.3.3.1), subst (λ y. L' y h.3.1) (sym h.2) h.3.4))
    (Exact-both (λ (t : Token) (x : X). x) (Exact-word c t k) E (apart_none f))

pub Exact-ended : {X : Type 0} (c : List ℕ) (t : Token) → mem (class t) c ≡ true
    → {L L' : X → Lang} {f l : List ℕ} {e : Bool} {r q : Reader X} → Exact L L' f e l r q → apart c l ≡ true
    → Exact (λ x. L x · word c) (λ x. L' x · word c) (firsts e f c) (cond e false false) [] (ended r c) (ended q c)
Exact-ended {X} c t k {L} {L'} {f} {l} {e} {r} {q} E d =
    Exact-same (λ x. L x · word c) (λ x. L' x · word c)
    (λ x u h. (h.3.0, h.3.1, h.3.2, subst (λ y. L y h.3.0) (sym h.2) h.3.3, (h.1, h.3.4.0, h.3.4.1)))
    (λ x u h. (x, h.4.0, refl, (h.0, h.1, h.2, h.3, (h.4.1, h.4.2))))
    (λ x u h. (h.3.0, h.3.1, h.3.2, subst (λ y. L' y h.3.0) (sym h.2) h.3.3, (h.1, h.3.4.0, h.3.4.1)))
    (Exact-both (λ (x : X) (t : Token). x) E (Exact-word c t k) d)

pub Exact-closed : {X : Type 0} (c d : List ℕ) (t s : Token) → mem (class t) c ≡ true → mem (class s) d ≡ true
    → {L L' : X → Lang} {f l : List ℕ} {e : Bool} {r q : Reader X} → Exact L L' f e l r q → apart c l ≡ true
    → Exact (λ x. L x · (word c · word d)) (λ x. L' x · (word c · word d)) (firsts e f c) (cond e false false) []
    (closed r c d) (closed q c d)
Exact-closed {X} c d t s k m {L} {L'} {f} {l} {e} {r} {q} E a =
    Exact-same (λ x. L x · (word c · word d)) (λ x. L' x · (word c · word d))
    (λ x u h. (h.3.0, h.3.1, h.3.2, subst (λ y. L y h.3.0) (sym h.2) h.3.3, (h.3.4.0, h.3.4.1, h.3.4.2, h.3.4.3, (h.1, h.3.4.4.0, h.3.4.4.1))))
    (λ x u h. (x, h.4.4.0, refl, (h.0, h.1, h.2, h.3, (h.4.0, h.4.1, h.4.2, h.4.3, (h.4.4.1, h.4.4.2)))))
    (λ x u h. (h.3.0, h.3.1, h.3.2, subst (λ y. L' y h.3.0) (sym h.2) h.3.3, (h.3.4.0, h.3.4.1, h.3.4.2, h.3.4.3, (h.1, h.3.4.4.0, h.3.4.4.1))))
    (Exact-both (λ (x : X) (t : Token). x) E (Exact-after c t k (Exact-word d s m)) a)

-- more classes may be told
pub Exact-weak : {X : Type 0} {L L' : X → Lang} {f l : List ℕ} {e : Bool} {r q : Reader X} (g m : List ℕ)
    → Exact L L' f e l r q → within f g ≡ true → within l m ≡ true → Exact L L' g e m r q
Exact-weak {X} {L} {L'} {f} {l} {e} {r} {q} g m E d k = record {
  runs = E.runs;
  again = λ x u rest h stop. E.again x u rest h (stops rest stop);
  begins = λ x u h. begins u (E.begins x u h);
  wider = E.wider;
  x = E.x;
  u = E.u;
  has = E.has;
}
  where
    begins : (u : List Token) → Begins f e u → Begins g e u
    begins [] h = h
    begins (t ∷ u) h = within_mem f g (class t) d h

    stops : (w : List Token) → at m w ≡ false → at l w ≡ false
    stops [] h = refl
    stops (t ∷ w) h = elim (cases_Bool (mem (class t) l)) [ inl y ↦ absurd (false≢true (sym h ∙ within_mem l m (class t) k y)) | inr y ↦ y ]

pub Exact-optional : {X : Type 0} (cs : List ℕ) {L L' : X → Lang} {f l : List ℕ} {r q : Reader X}
    → Exact L L' f false l r q → within f cs ≡ true
    → Exact (maybe L) (maybe L') (f ++ []) true (cs ++ (l ++ [])) (optional cs r) (optional cs q)
Exact-optional {X} cs {L} {L'} {f} {l} {r} {q} E d =
    Exact-same (maybe L) (maybe L') (to L) from (to L')
    (Exact-branch cs (Exact-lined (λ _ (x : X). Some x) E) (Exact-done None) d refl)
  where
    to : (N : X → Lang) (x : Option X) (u : List Token) → Either (Lined (λ _ (x : X). Some x) N) (λ y u. (y ≡ None) × (u ≡ [])) x u → maybe N x u
    to N x u (inl h) = subst (λ y. maybe N y u) (sym h.1) h.2
    to N x u (inr h) = subst (λ y. maybe N y u) (sym h.0) h.1

    from : (x : Option X) (u : List Token) → maybe L x u → Either (Lined (λ _ (x : X). Some x) L) (λ y u. (y ≡ None) × (u ≡ [])) x u
    from None u h = inr (refl, h)
    from (Some x) u h = inl (x, refl, h)

pub Exact-flag : {X : Type 0} (cs : List ℕ) (M : Lang) {L L' : X → Lang} {f l : List ℕ} {r q : Reader X}
    → ((x : X) (u : List Token) → L x u → M u) → ((x : X) (u : List Token) → L' x u → M u)
    → ((u : List Token) → M u → (x : X) × L x u) → Exact L L' f false l r q → within f cs ≡ true
    → Exact (flag M) (flag M) (f ++ []) true (cs ++ (l ++ [])) (flag_read cs r) (flag_read cs q)
Exact-flag {X} cs M {L} {L'} {f} {l} {r} {q} there wide back E d =
    Exact-same (flag M) (flag M) (to L there) from (to L' wide)
    (Exact-branch cs (Exact-lined (λ _ (x : X). true) E) (Exact-done false) d refl)
  where
    to : (N : X → Lang) → ((x : X) (u : List Token) → N x u → M u) → (x : Bool) (u : List Token)
        → Either (Lined (λ _ (x : X). true) N) (λ y u. (y ≡ false) × (u ≡ [])) x u → flag M x u
    to N k x u (inl h) = subst (λ y. flag M y u) (sym h.1) (k h.0 u h.2)
    to N k x u (inr h) = subst (λ y. flag M y u) (sym h.0) h.1

    from : (x : Bool) (u : List Token) → flag M x u → Either (Lined (λ _ (x : X). true) L) (λ y u. (y ≡ false) × (u ≡ [])) x u
    from false u h = inr (refl, h)
    from true u h = let k = back u h in inl (k.0, refl, k.1)

-- the same sentence, begun with another word of these classes
pub reopened : {X : Type 0} (c : List ℕ) (L : X → Lang) (t : Token) → mem (class t) c ≡ true → (x : X) (v : List Token) → L x v → (word c · L x) (t ∷ v)
reopened c L t h x v k = (t ∷ [], v, refl, (t, refl, h), k)

pub after_stops : {X : Type 0} (c : List ℕ) (r : Reader X) (w : List Token) → at c w ≡ false → after c r w ≡ Err (record { left = length w; deep = false })
after_stops {X} c r [] h = both_bad1 (λ (t : Token) (x : X). x) (word_of c) r [] _ (word_end c)
after_stops {X} c r (t ∷ w) h = both_bad1 (λ (t : Token) (x : X). x) (word_of c) r (t ∷ w) _ (word_bad c t w h)

pub lined_stops : {A X : Type 0} (f : ℕ → A → X) (r : Reader A) (w : List Token) (e : Stuck) → r w ≡ Err e → lined f r w ≡ Err e
lined_stops f r w e h = lined_bad f r w e h

pub Exact-pair : {A B : Type 0} {L L' : A → Lang} {N N' : B → Lang} {f1 f2 l1 l2 : List ℕ} {e1 e2 : Bool}
    {r q : Reader A} {s p : Reader B} → Exact L L' f1 e1 l1 r q → Exact N N' f2 e2 l2 s p → apart f2 l1 ≡ true
    → Exact {X = A × B} (λ x. L x.0 · N x.1) (λ x. L' x.0 · N' x.1) (firsts e1 f1 f2) (cond e1 e2 false)
    (lasts e2 l1 l2) (pair r s) (pair q p)
Exact-pair {A} {B} {L} {L'} {N} {N'} {f1} {f2} {l1} {l2} {e1} {e2} {r} {q} {s} {p} E F d =
    Exact-same {X = A × B} (λ x. L x.0 · N x.1) (λ x. L' x.0 · N' x.1)
    (λ x u h. subst (λ (y : A × B). (L y.0 · N y.1) u) (sym h.2) h.3)
    (λ x u h. (x.0, x.1, refl, h))
    (λ x u h. subst (λ (y : A × B). (L' y.0 · N' y.1) u) (sym h.2) h.3)
    (Exact-both (λ (a : A) (b : B). let p : A × B = (a, b) in p) E F d)

-- for the loops of a parser

pub Exact-shorter : {X : Type 0} {L M : X → Lang} {f l : List ℕ} {r q : Reader X} → Exact L M f false l r q
    → (w rest : List Token) (x : X) → r w ≡ Ok (x, rest) → length rest < length w
Exact-shorter {X} {L} {M} {f} {l} {r} {q} E w rest x h = elim (E.runs w) [
  | inl g ↦
      let same : ◌≡◌ {A = Result (X × List Token) Stuck} (Ok (g.x, g.rest)) (Ok (x, rest)) = sym
      (g.again g.rest (SameHead-refl g.rest)) ∙ (ap r (sym g.cut) ∙ h) in
      let tail : ◌≡◌ {A = X × List Token} (g.x, g.rest) (x, rest) = (cc) in
      let e : g.rest ≡ rest = ap (λ (p : X × List Token). p.1) tail in
      subst (λ y. length y < length w) e (subst (λ y. length g.rest < length y) (sym g.cut) (longer f g.u g.rest (E.begins g.x g.u g.spells)))
  | inr b ↦
      let same : ◌≡◌ {A = Result (X × List Token) Stuck} (Err (record { left = length b.rest; deep = b.deep }))
      (Ok (x, rest)) = sym (b.fails b.rest (SameHead-refl b.rest)) ∙ (ap r (sym b.cut) ∙ h) in
      let bad : ⊥ = (cc) in absurd bad
]

module _ {X : Type 0} (f : List ℕ) (r : Reader X) (less : (w rest : List Token) (x : X) → r w ≡ Ok (x, rest) → length rest < length w) where
  pub loop_more : (front : List X) (x : X) (w rest : List Token) (all : Result (List X × List Token) Stuck)
      → at f w ≡ true → r w ≡ Ok (x, rest) → with_front front (many f r w) ≡ all
      → with_front (front ++ (x ∷ [])) (many f r rest) ≡ all
  loop_more front x w rest all h k e = regroup (many f r rest) ∙ (sym (ap (with_front front) (many_then f r w rest x h k (less w rest x k))) ∙ e)
    where
      regroup : (z : Result (List X × List Token) Stuck) → with_front (front ++ (x ∷ [])) z ≡ with_front front (z >>= λ xs. Ok (x ∷ xs.0, xs.1))
      regroup (Ok y) = ap (λ v. Ok (v, y.1)) (append_assoc front (x ∷ []) y.0)
      regroup (Err y) = refl

  pub loop_stop : (front : List X) (w : List Token) (all : Result (List X × List Token) Stuck) → at f w ≡ false
      → with_front front (many f r w) ≡ all → all ≡ Ok (front, w)
  loop_stop front w all h e = sym e ∙ ap (with_front front) (many_else f r w h) ∙ ap (λ v. Ok (v, w)) (append-nil front)

  pub loop_fail : (front : List X) (w : List Token) (e : Stuck) (all : Result (List X × List Token) Stuck)
      → at f w ≡ true → r w ≡ Err e → with_front front (many f r w) ≡ all → all ≡ Err e
  loop_fail front w e all h k i = sym i ∙ ap (with_front front) (many_bad f r w e h k)
