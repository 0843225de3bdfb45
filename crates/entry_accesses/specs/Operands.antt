-- What expressions name, as it is kept.
use Rattle.std.specs.Prelude.{◌≡◌, List, ◌++◌, map}
use Rattle.exchange_model.specs.declared.expr.Cond.{Cond}
use Rattle.exchange_model.specs.declared.expr.Expr.{Expr}
use Rattle.exchange_model.specs.declared.expr.Relation.{Relation}
use Rattle.exchange_model.specs.Inside.{joined, own_exprs, cond_exprs, relation_exprs}
use Rattle.source_meaning.specs.Named.{Layer, Named, NamedVariable, NamedField, named_in}
use Rattle.entry_accesses.specs.declared.operands.Operand.{Operand}
use Rattle.entry_accesses.specs.declared.operands.Operand.TheVariants.{Variable, Field}

abbrev pub named : Operand → Named
named (Variable v) = NamedVariable v
named (Field file field pointer) = NamedField file field pointer

-- what these expressions name, one after the other
abbrev pub names_in : List Expr → List Named
names_in es = joined (map named_in es)

abbrev pub relation_names : List Relation → List Named
relation_names rs = names_in (relation_exprs rs)

abbrev pub cond_names : Cond → List Named
cond_names c = names_in (cond_exprs c)

-- what the expressions of a statement itself name
abbrev pub layer_names : Layer → List Named
layer_names l = names_in (own_exprs l)

-- a list that has these names more
pub record HasNames (old new : List Operand) (names : List Named) : Type 0 where
  pub is : map named new ≡ map named old ++ names
