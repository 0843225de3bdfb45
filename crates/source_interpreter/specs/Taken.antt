-- The item that is taken from what remains.
use Rattle.std.specs.Prelude.{nat_le, not, Bool, true, List, [], ◌∷◌, Option, Some, None}
use Rattle.exchange_model.specs.declared.stmt.StmtKind.{out-StmtKind}
use Rattle.source_meaning.specs.Config.{Item, Do, Start, Turns}
use Rattle.exchange_model.specs.Kept.{is_enter}
use Rattle.source_interpreter.specs.declared.work.Next.{Next}
use Rattle.source_interpreter.specs.declared.work.Next.TheVariants as next

abbrev pub item_of : Next → Item
item_of (next.Do statement cases) = Do statement.now
item_of (next.Start statement) = Start statement.now
item_of (next.Turn point temp this end body cases) = Turns point temp this end body.now

-- what remained before it was taken
abbrev pub before : Option Next → List Item → List Item
before None rest = []
before (Some n) rest = item_of n ∷ rest

-- an ENTER that is reached from above is not counted, and neither is a loop with no turn left
abbrev pub is_counted : Next → Bool
is_counted (next.Do statement cases) = not (is_enter (out-StmtKind statement.now.kind))
is_counted (next.Start statement) = true
is_counted (next.Turn point temp this end body cases) = nat_le this end
