-- What remains to be done, as it is kept: in parts, the last of which comes first.
use Rattle.std.specs.Prelude.{List, [], ◌∷◌, ◌++◌, map, Option, Some, None}
use Rattle.source_meaning.specs.Config.{Item, Do, Start, Turns}
use Rattle.source_interpreter.specs.declared.work.Part.{Part}
use Rattle.source_interpreter.specs.declared.work.Part.TheVariants as part

-- the items of a part
abbrev pub items_of : Part → List Item
items_of (part.Rest first others cases) = Do first.now ∷ map Do others.now
items_of (part.Start statement) = Start statement.now ∷ []
items_of (part.Turns point temp this end body cases) = Turns point temp this end body.now ∷ []

-- the items of all parts
abbrev pub todo_of : List Part → List Item
todo_of [] = []
todo_of (p ∷ ps) = todo_of ps ++ items_of p

-- the items of a part that was taken, if there was one
abbrev pub taken_items : Option Part → List Item
taken_items None = []
taken_items (Some p) = items_of p
