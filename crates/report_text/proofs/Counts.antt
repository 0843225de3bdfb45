-- The events of each kind, counted.
use Rattle.std.proofs.Common.{◌≡◌, ℕ, ◌+◌, ◌<◌, ◌≤◌, ◌^◌, Bool, List, [], ◌∷◌, length, cond, refl}
use Rattle.std.proofs.Common.{sym, ap, ◌∙◌, arith}
use Rattle.std.specs.List.{count_by}
use Rattle.std.proofs.lemmas.List.Sums.{sum_by-cons, count_by-le-length}
use Rattle.source_meaning.specs.State.{RunEvent}
use Rattle.report_text.specs.Load.{is_lost, is_out, is_release}
use Rattle.report_text.specs.Tallies.{IsTallied}
use Rattle.report_text.specs.declared.load.Tally.{Tally}

-- what is counted and what is left are all
pub record Tallies (t : Tally) (left all : List RunEvent) : Type 0 where
  pub outs : t.outs + count_by is_out left ≡ count_by is_out all
  pub releases : t.releases + count_by is_release left ≡ count_by is_release all
  pub lost : t.lost + count_by is_lost left ≡ count_by is_lost all

pub tally_begin : (all : List RunEvent) → Tallies (record { outs = 0; releases = 0; lost = 0 }) all all
tally_begin all = record { outs = omega arith; releases = omega arith; lost = omega arith }

-- there is room for one more
pub record HasRoom (t : Tally) : Type 0 where
  pub outs : t.outs + 1 < 2 ^ 64
  pub releases : t.releases + 1 < 2 ^ 64
  pub lost : t.lost + 1 < 2 ^ 64

pub tally_room : (t : Tally) (left all : List RunEvent) → length all < 2 ^ 63 → Tallies t left all → HasRoom t
tally_room t left all few so_far = record {
  outs = omega (arith, few, so_far.outs, count_by-le-length is_out all);
  releases = omega (arith, few, so_far.releases, count_by-le-length is_release all);
  lost = omega (arith, few, so_far.lost, count_by-le-length is_lost all);
}

counted : (q : RunEvent → Bool) (n m : ℕ) (left rest all : List RunEvent) (e : RunEvent) → left ≡ e ∷ rest
    → m ≡ n + cond (q e) 1 0 → n + count_by q left ≡ count_by q all → m + count_by q rest ≡ count_by q all
counted q n m left rest all e is more so_far =
    let first : count_by q left ≡ cond (q e) 1 0 + count_by q rest = ap (count_by q) is ∙ sum_by-cons (λ x. cond (q x) 1 0) e rest in
    omega (arith, first, more, so_far)

pub tally_more : (t u : Tally) (left rest all : List RunEvent) (e : RunEvent) → left ≡ e ∷ rest → IsTallied e t u → Tallies t left all → Tallies u rest all
tally_more t u left rest all e is one so_far = record {
  outs = counted is_out t.outs u.outs left rest all e is one.outs so_far.outs;
  releases = counted is_release t.releases u.releases left rest all e is one.releases so_far.releases;
  lost = counted is_lost t.lost u.lost left rest all e is one.lost so_far.lost;
}

pub tally_end : (t : Tally) (left all : List RunEvent) → left ≡ [] → Tallies t left all
    → (t.outs ≡ count_by is_out all) × (t.releases ≡ count_by is_release all) × (t.lost ≡ count_by is_lost all)
tally_end t left all none so_far = (
  omega (arith, so_far.outs, ap (count_by is_out) none),
  omega (arith, so_far.releases, ap (count_by is_release) none),
  omega (arith, so_far.lost, ap (count_by is_lost) none),
)
