-- The root's load and store keep the rule.
use Rattle.std.proofs.Common.{◌≡◌, ◌≢◌, ℕ, ◌<◌, ◌^◌, true, false, List, length, get_or, set, sym}
use Rattle.std.proofs.Common.{refl, ap, ◌∙◌, subst, arith, length-set, get_or-set_same}
use Rattle.std.proofs.Common.{get_or-set_other}
use mathlib.Core.Logic.{dite}
use mathlib.Core.Option.{none, some}
use native.Mathlib.Decide.{ℕ_discrete}
use lib.ListN.{get_elem?}
use lib.Seq.{set-get_or}
use Rattle.std.proofs.lemmas.Bool.{both_ways}
use Rattle.atomic_table.specs.Table.{step, keeps, Allows}
use Rattle.atomic_table.proofs.Lists.{set_again}
use Rattle.machine_code.specs.Permits.{may_read}
use Rattle.shared_store.specs.declared.view.Lent.{Lent}
use Rattle.shared_store.specs.declared.view.Top.{Top}
use Rattle.shared_store.specs.declared.view.View.{View}
use Rattle.shared_store.specs.declared.view.View.TheVariants.{Root}
use Rattle.shared_store.specs.Loans.{Has, lent_out, seen_by}
use Rattle.shared_store.specs.Rule.{Sat, Listing, Seats, AreShared, Lending, root_looked, root_put}
use Rattle.shared_store.proofs.Touched.{written_touched, set_small}
use Rattle.shared_store.proofs.Loaned.{seen_by_none}
use Rattle.shared_store.specs.Places.{place}
use Rattle.shared_store.proofs.Places.{place_later, place_same, place_within}
use Rattle.shared_store.proofs.Views.{same_root}
use Rattle.shared_store.proofs.RootSeats.{loan_was, reseated}

-- the root's load
pub root_looks : (slots id : ℕ) (me : Sat) (t : Top) (w : ℕ) → me.0 ≡ Root t → lent_out t.loans w ≡ false → w < length t.values
    → Allows Lending slots id me (place slots w) (λ n. n) (root_looked (step slots (place slots w) 0 0 none) me)
root_looks slots id me t w is out lt s r homes at _ =
    let n : ℕ = get_or s.words (place slots w) 0 in let here : get_elem? s.views id ≡ some (Root t) = at ∙ ap (λ (v : View). some v) is in
    let top : r.top ≡ t = same_root r.top t (sym r.seats.at_root ∙ subst (λ (k : ℕ). get_elem? s.views k ≡ some (Root t)) (r.seats.one_root id t here) here) in
    let words : AreShared slots t s.views s.words = subst (λ (z : ℕ × Top). AreShared z.0 z.1 s.views s.words) (λ i. (homes i, top i)) r.words in (
      me.0,
      keeps,
      tt,
      subst (λ (z : List ℕ × List View). Lending record { words = z.0; homes = s.homes; views = z.1 })
          (λ i. (sym (set-get_or s.words (place slots w) 0) i, sym (set_again s.views id me.0 at) i)) r,
      (λ t0 w0 e0 there. let same : t ≡ t0 = same_root t t0 (ap (λ (v : View). some v) (sym is ∙ e0)) in let k' : w ≡ w0 = place_same slots w w0 there in
          subst (λ (z : Top × ℕ). ◌≡◌ {A = Sat} (me.0, me.1) me × (n ≡ get_or z.0.values z.1 0) × (n < 2 ^ 32))
          (λ i. (same i, k' i)) (refl, words.others w out lt, words.fit (place slots w))),
    )

-- the root's store
pub root_puts : (slots id : ℕ) (me : Sat) (t : Top) (w x : ℕ) → me.0 ≡ Root t → seen_by t.loans w ≡ false → w < length t.values → x < 2 ^ 32
    → Allows Lending slots id me (place slots w) (λ _. x) (λ _. root_put (step slots (place slots w) x 0 none) me x)
root_puts slots id me t w x is out lt fits s r homes at _ =
    let here : get_elem? s.views id ≡ some (Root t) = at ∙ ap (λ (v : View). some v) is in
    let top : r.top ≡ t = same_root r.top t (sym r.seats.at_root ∙ subst (λ (k : ℕ). get_elem? s.views k ≡ some (Root t)) (r.seats.one_root id t here) here) in
    let k : AreShared slots t s.views s.words = subst (λ (z : ℕ × Top). AreShared z.0 z.1 s.views s.words) (λ i. (homes i, top i)) r.words in
    let g : Listing t = subst Listing top r.listing in let q : Seats t s.views = subst (λ (z : Top). Seats z s.views) top r.seats in
    let t' : Top = record t { values = set t.values w x } in let inside = place_within slots w (length t.values)
    (length s.words) (sym k.wide) lt in let later = place_later slots w in
    let apart : (a : Lent) (u : ℕ) → Has t.loans a → may_read a.permit u ≡ true → u ≢ w = λ a u s touch d.
    both_ways (may_read a.permit w) (seen_by_none t.loans a w s out) (subst (λ (n : ℕ). may_read a.permit n ≡ true) d touch) in (
      Root t',
      keeps,
      tt,
      record {
        top = t';
        listing = record {
          differ = g.differ;
          distinct = g.distinct;
          apart = g.apart;
          long = λ a s. g.long a s ∙ sym (length-set t.values w x);
          based = λ a s u touch. g.based a s u touch ∙ sym (get_or-set_other t.values w u x 0 (apart a u s touch));
          small = set_small t.values w x fits g.small;
          small_base = g.small_base;
        };
        seats = reseated s.views id t t' q here (λ a s. s) (λ a s. s);
        words = subst (λ (m : ℕ). AreShared m t' (set s.views id (Root t')) (set s.words (place slots w) x)) (sym homes) record {
          wide = length-set s.words (place slots w) x ∙ (k.wide ∙ ap (place slots) (sym (length-set t.values w x)));
          first = get_or-set_other s.words (place slots w) 0 x 0 (λ e. absurd (omega (arith, later, e))) ∙ k.first;
          fit = set_small s.words (place slots w) x fits k.fit;
          mine = λ j i e u uw lt'. let was = loan_was s.views id t t' q here j i e in let long' = length-set t.values w x in
              get_or-set_other s.words (place slots w) (place slots u) x 0
              (λ e'. apart i.lent u (q.listed j i was) (written_touched i.lent.permit u uw)
              (place_same slots u w e')) ∙ k.mine j i was u uw (omega arith);
          others = λ u out' lt'. let long' = length-set t.values w x in dite (ℕ_discrete u w)
              (λ (d : u ≡ w). subst (λ (n : ℕ). get_or (set s.words (place slots w) x) (place slots n) 0 ≡ get_or (set t.values w x) n 0) (sym d)
              (get_or-set_same s.words (place slots w) x 0 inside ∙ sym (get_or-set_same t.values w x 0 lt)))
              (λ (d : u ≢ w). get_or-set_other s.words (place slots w) (place slots u) x 0
              (λ e'. d (place_same slots u w e'))
              ∙ (k.others u out' (omega arith) ∙ sym (get_or-set_other t.values w u x 0 d)));
        };
      },
      (λ t0 w0 e0 there. let same : t ≡ t0 = same_root t t0 (ap (λ (v : View). some v) (sym is ∙ e0)) in let k' : w ≡ w0 = place_same slots w w0 there in
          subst (λ (z : Top × ℕ). ◌≡◌ {A = Sat} (Root t', me.1) (Root (record z.0 { values = set z.0.values z.1 x }), me.1)) (λ i. (same i, k' i)) refl),
    )
