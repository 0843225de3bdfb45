-- A text that grows by one piece for each number of a range.
use Rattle.std.proofs.Common.{◌≡◌, ℕ, zero, suc, ◌+◌, ◌-◌, ◌≤◌, List, [], ◌∷◌, ◌++◌, append_assoc}
use Rattle.std.proofs.Common.{append-nil, ap, sym, ◌∙◌, arith}
use Rattle.std.proofs.lemmas.List.Concat.{flat_map-append}
use Rattle.std.specs.List.{flat_map, range_with_len}

-- one more number at the end of a range
range_more : (a n : ℕ) → range_with_len a (n + 1) ≡ range_with_len a n ++ (a + n) ∷ []
range_more a zero = let z : a + 0 ≡ a = omega arith in ap (λ (k : ℕ). k ∷ []) (sym z)
range_more a (suc n) =
    let next : a + 1 + n ≡ a + suc n = omega arith in
    let longer : suc n + 1 ≡ suc (n + 1) = omega arith in
    rw longer (ap (λ (ks : List ℕ). a ∷ ks) (range_more (a + 1) n ∙ ap (λ (k : ℕ). range_with_len (a + 1) n ++ k ∷ []) next))

-- the text has grown by the pieces of the numbers from a on, and i is next
pub record Grown (f : ℕ → List ℕ) (before : List ℕ) (a i : ℕ) (text : List ℕ) : Type 0 where
  pub so : text ≡ before ++ flat_map f (range_with_len a (i - a))

pub grown_begin : (f : ℕ → List ℕ) (text : List ℕ) (a : ℕ) → Grown f text a a text
grown_begin f text a =
    let none : a - a ≡ 0 = omega arith in
    record { so = rw none (sym (append-nil text)) }

pub grown_more : (f : ℕ → List ℕ) (before : List ℕ) (a i : ℕ) (text new : List ℕ) → Grown f before a i text → a ≤ i
    → new ≡ text ++ f i → Grown f before a (i + 1) new
grown_more f before a i text new g from wrote =
    let more : i + 1 - a ≡ i - a + 1 = omega arith in
    let here : a + (i - a) ≡ i = omega arith in
    let front = flat_map f (range_with_len a (i - a)) in
    let pieces : flat_map f (range_with_len a (i - a + 1)) ≡ front ++ f i =
    ap (flat_map f) (range_more a (i - a) ∙ ap (λ (k : ℕ). range_with_len a (i - a) ++ k ∷ []) here)
    ∙ flat_map-append f (range_with_len a (i - a)) (i ∷ []) ∙ ap (λ (p : List ℕ). front ++ p) (append-nil (f i)) in
    record {
      so = wrote ∙ ap (λ (t : List ℕ). t ++ f i) g.so ∙ append_assoc before front (f i)
          ∙ ap (λ (p : List ℕ). before ++ p) (sym pieces)
          ∙ ap (λ (n : ℕ). before ++ flat_map f (range_with_len a n)) (sym more);
    }

pub grown_end : (f : ℕ → List ℕ) (before : List ℕ) (a i end : ℕ) (text : List ℕ) → Grown f before a i text → i ≤ end
    → end ≤ i → text ≡ before ++ flat_map f (range_with_len a (end - a))
grown_end f before a i end text g low high =
    let e : i ≡ end = omega arith in
    g.so ∙ ap (λ (k : ℕ). before ++ flat_map f (range_with_len a (k - a))) e
