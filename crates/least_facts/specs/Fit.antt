-- Which values a source may give to a slot, so that they have numbers in its plane.
use Rattle.flow_points.specs.declared.fact.Slot.{Slot}
use Rattle.flow_points.specs.declared.fact.Slot.TheVariants.{Temp, Given, Answered, Depth, Awaits}
use Rattle.flow_points.specs.declared.fact.Value.{Value}
use Rattle.flow_points.specs.declared.flow.Passing.{Passing}
use Rattle.flow_points.specs.declared.flow.Source.{Source}
use Rattle.flow_points.specs.declared.flow.Source.TheVariants.{Of, Is, Deeper, Nothing}
use Rattle.flow_points.specs.Sources.{source_of}
use Rattle.fact_rows.specs.Values.{HasNumber, IsAwaited, IsNumbered}

-- sources of slots other than AWAITS, and of AWAITS

abbrev pub NumberedSource : Source → Type 0
NumberedSource (Of s) = (v : Value) → HasNumber s v → IsNumbered v
NumberedSource (Is v) = IsNumbered v
NumberedSource Deeper = Unit {0}
NumberedSource Nothing = Unit {0}

abbrev pub Awaited : Source → Type 0
Awaited (Of s) = (v : Value) → HasNumber s v → IsAwaited v
Awaited (Is v) = IsAwaited v
Awaited Deeper = ⊥
Awaited Nothing = Unit {0}

abbrev pub SourceFits : Slot → Source → Type 0
SourceFits (Temp t) source = NumberedSource source
SourceFits (Given k) source = NumberedSource source
SourceFits (Answered k) source = NumberedSource source
SourceFits Depth source = NumberedSource source
SourceFits Awaits source = Awaited source

-- each source over a flow fits its slot
abbrev pub HowFits : Passing → Type 0
HowFits how = (s : Slot) → SourceFits s (source_of how s)
