-- The last name counts.
use Rattle.std.proofs.Common.{◌≡◌, ℕ, ◌+◌, ◌<◌, ◌≤◌, List, length, drop, get_or, nat_eq}
use Rattle.std.proofs.Common.{if◌then◌else◌, refl, sym, ap, ◌∙◌}
use Rattle.std.proofs.Math.ListN.{drop_of_length-le}
use Rattle.plex_num.proofs.Lists.{opens}
use Rattle.flow_points.specs.declared.fact.Slot.{Slot}
use Rattle.flow_points.specs.declared.flow.Source.{Source}
use Rattle.flow_points.specs.declared.flow.Source.TheVariants.{Of}
use Rattle.flow_points.specs.Sources.{named}
use Rattle.flow_table.specs.declared.passing.Origin.{Origin}
use Rattle.flow_table.specs.Small.{slot_at}

-- the names from one on are left
pub record NamesGo (names : List ℕ) (o : Origin) (t : ℕ) (before : Source) (i : ℕ) (now : Source) : Type 0 where
  pub all : named (drop i names) (slot_at o) i t now ≡ named names (slot_at o) 0 t before

pub names_begin : (names : List ℕ) (o : Origin) (t : ℕ) (before : Source) → NamesGo names o t before 0 before
names_begin names o t before = record { all = refl }

pub names_more : (names : List ℕ) (o : Origin) (t : ℕ) (before : Source) (i name : ℕ) (own : Slot) (now new : Source)
    → i < length names → name ≡ get_or names i name → own ≡ slot_at o i → new ≡ (if nat_eq t name then Of own else now)
    → NamesGo names o t before i now → NamesGo names o t before (i + 1) new
names_more names o t before i name own now new lt is at e g = record {
  all = ap (λ s. named (drop (i + 1) names) (slot_at o) (i + 1) t s) (e ∙ ap (λ s. if nat_eq t name then Of s else now) at)
      ∙ sym (ap (λ l. named l (slot_at o) i t now) (opens names i name lt is)) ∙ g.all;
}

pub names_end : (names : List ℕ) (o : Origin) (t : ℕ) (before : Source) (i : ℕ) (now : Source) → length names ≤ i
    → NamesGo names o t before i now → now ≡ named names (slot_at o) 0 t before
names_end names o t before i now past g = sym (ap (λ l. named l (slot_at o) i t now) (drop_of_length-le names past)) ∙ g.all
