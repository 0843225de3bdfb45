-- Summaries that are made with so many looks, or not.
use Rattle.std.specs.Prelude.{◌≡◌, ℕ, ◌+◌, ◌-◌, ◌*◌, ◌/◌, ◌<◌, ◌≤◌, length, Option, Some, None, min}
use Rattle.exchange_model.specs.declared.exchange.Exchange.{Exchange}
use Rattle.flow_points.specs.declared.fact.Fact.{Fact}
use Rattle.flow_points.specs.Facts.{IsLeast}
use Rattle.access_summary.specs.declared.looks.TheConstants.{PART_OF_ENTRY, POINTS_OF_LOOK}
use Rattle.access_summary.specs.declared.looks.Excess.{Excess}
use Rattle.access_summary.specs.declared.looks.Excess.TheVariants.{InAll, ForOne}
use Rattle.access_summary.specs.declared.looks.FewOrMany.{FewOrMany}
use Rattle.access_summary.specs.declared.looks.FewOrMany.TheVariants.{Few, Many}
use Rattle.access_summary.specs.declared.looks.Summed.{Summed}
use Rattle.access_summary.specs.declared.looks.Summed.TheVariants.{Whole, Over}
use Rattle.entry_summary.specs.declared.summary.Summary.{Summary}
use Rattle.least_facts.specs.Giving.{IsOwnLeast}
use Rattle.least_facts.specs.Looks.{HasFacts, IsOver, IsOverBy}
use Rattle.certificate_meaning.specs.Summaries.{AreSummaries}

-- there are facts of this kind for so many looks, but for those that the points take, once for each
-- of so many entries
pub record HasWork (x : Exchange) (entries : ℕ) (P : Fact → Type 0) (looks : ℕ) : Type 0 where
  pub own : ℕ
  pub found : HasFacts P own
  pub enough : looks ≤ own + entries * (length x.points / POINTS_OF_LOOK)

-- some entry has least facts for so many looks
pub record OneHasFacts (x : Exchange) (looks : ℕ) : Type 0 where
  pub entry : ℕ
  pub found : HasFacts (IsOwnLeast x entry) looks

-- there is a bound, and the looks are more: in all, or a sixteenth of them for one entry; and there
-- are least facts for them
abbrev pub IsPast : Exchange → Option ℕ → Excess → Type 0
IsPast x None excess = ⊥
IsPast x (Some most) (InAll before looks) =
    (most < before + looks) × HasWork x (length x.entries) (IsLeast x) (before + looks)
IsPast x (Some most) (ForOne looks) = (most < looks * PART_OF_ENTRY) × OneHasFacts x looks

-- the summaries of the exchange come, or the bound was passed
abbrev pub ComeWithin : Exchange → Option ℕ → FewOrMany → Type 0
ComeWithin x most (Few summaries) = AreSummaries x summaries
ComeWithin x most (Many excess) = IsPast x most excess

-- so many looks for one entry, and so many for those before, are more than there may be
abbrev pub IsExcess : Option ℕ → ℕ → ℕ → Excess → Type 0
IsExcess None before looks excess = ⊥
IsExcess (Some most) before looks (InAll first last) =
    (first ≡ before) × (last ≡ looks) × (most < before + looks)
IsExcess (Some most) before looks (ForOne all) = (all ≡ looks) × (most < looks * PART_OF_ENTRY)

-- what is left for one entry after so many looks, and no more than its part
abbrev pub most_of : Option ℕ → ℕ → Option ℕ
most_of None before = None
most_of (Some most) before = Some (min (most - before) (most / PART_OF_ENTRY))

-- what is left of a bound after so many looks
abbrev pub left_of : Option ℕ → ℕ → Option ℕ
left_of None looks = None
left_of (Some most) looks = Some (most - looks)

-- this summary comes, or the bound was passed
abbrev pub SumsWithin : Option ℕ → (Summary → Type 0) → Summed → Type 0
SumsWithin most Is (Whole summary looks) = Is summary
SumsWithin most Is (Over looks) = IsOver most looks

-- this summary comes, or the bound was passed; and there are facts of this kind for the looks
abbrev pub SumsBy : (Fact → Type 0) → Option ℕ → (Summary → Type 0) → Summed → Type 0
SumsBy P most Is (Whole summary looks) = Is summary × HasFacts P looks
SumsBy P most Is (Over looks) = IsOverBy P most looks
