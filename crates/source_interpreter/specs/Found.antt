-- The CASEs that were found in statements.
use Rattle.std.specs.Prelude.{List}
use Rattle.std.specs.List.{AllByRecursion}
use Rattle.source_interpreter.specs.declared.cases.Cases.{Cases}
use Rattle.source_interpreter.specs.declared.cases.Found.{Found}
use Rattle.source_interpreter.specs.Cases.{FindsOwn}

-- these CASEs find their own tables
abbrev pub AreOwn : Cases → List Found → Type 0
AreOwn cases found = AllByRecursion (λ (f : Found). FindsOwn cases f.point f.whens.now) found

-- to those that were found before others were added, so that with tables which all of them find
-- these items are known
pub record Gathers {X : Type 0} (Q : Cases → X → Type 0) (xs : List X) (old new : List Found) : Type
    0 where
  pub tells : (cases : Cases) → AreOwn cases new → AreOwn cases old × AllByRecursion (Q cases) xs
