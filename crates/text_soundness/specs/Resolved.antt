-- The exchange that a tree means, or the first rule that its text breaks.
use Rattle.std.specs.Prelude.{◌≡◌, ℕ, Option, Some, None, Result, Ok, Err}
use Rattle.exchange_model.specs.Parts.{Parts}
use Rattle.plex_ast.specs.declared.tree.Tree.{Tree}
use Rattle.text_rules.specs.declared.rule.Rule.{Rule}
use Rattle.text_rules.specs.Texts.{text_told}
use Rattle.resolved_block.specs.Texts.{exchange_of_tree}
use Rattle.text_soundness.specs.declared.fault.TextFault.{TextFault}
use Rattle.text_soundness.specs.declared.fault.TextFault.TheVariants as fault

-- the exchange, where no rule is told to be broken
abbrev pub told_or : Option (Rule × ℕ) → Parts → Result Parts TextFault
told_or None x = Ok x
told_or (Some broken) x = Err (fault.Rule broken.0 broken.1)

-- the exchange of a tree, or its first fault
unfoldable pub resolved : Tree → Result Parts TextFault
resolved t = told_or (text_told t) (exchange_of_tree t)

-- this rule and line are what is told; want of memory tells nothing of the text
abbrev pub IsToldOf : Option (Rule × ℕ) → TextFault → Type 0
IsToldOf told (fault.Rule rule line) = told ≡ Some (rule, line)
IsToldOf told fault.Memory = Unit {0}

-- want of memory tells nothing of the tree
abbrev pub Resolves : Result Parts TextFault → Result Parts TextFault → Type 0
Resolves said (Ok x) = said ≡ Ok x
Resolves said (Err (fault.Rule rule line)) = said ≡ Err (fault.Rule rule line)
Resolves said (Err fault.Memory) = Unit {0}
