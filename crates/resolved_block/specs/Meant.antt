-- What a name gives where it is used: 0 where it stands for nothing that serves there.
use Rattle.std.specs.Prelude.{ℕ, Option, Some, None, nat_lt, unwrap_or, if◌then◌else◌}
use Rattle.std.specs.Option.{option_map}
use Rattle.token_grammar.specs.declared.named.Named.{Named}
use Rattle.plex_ast.specs.declared.stmt.Reference.{Reference}
use Rattle.plex_ast.specs.declared.stmt.ReferenceKind.{ReferenceKind}
use Rattle.plex_ast.specs.declared.stmt.ReferenceKind.TheVariants as reference
use Rattle.exchange_model.specs.declared.expr.Expr.{Expr}
use Rattle.exchange_model.specs.declared.expr.Factor.{Factor}
use Rattle.exchange_model.specs.declared.expr.Factor.TheVariants as factor
use Rattle.exchange_model.specs.declared.stmt.Holder.{Holder}
use Rattle.exchange_model.specs.declared.stmt.Holder.TheVariants as holder
use Rattle.exchange_model.specs.declared.stmt.Receiver.{Receiver}
use Rattle.exchange_model.specs.declared.stmt.Receiver.TheVariants as receiver
use Rattle.exchange_model.specs.declared.stmt.StmtKind.{StmtKind}
use Rattle.exchange_model.specs.declared.stmt.StmtKind.TheVariants as stmt
use Rattle.signal_types.specs.Found.{number_in, kind_in}
use Rattle.text_events.specs.declared.role.Meaning.{Meaning}
use Rattle.text_events.specs.declared.role.Meaning.TheVariants.{Variable, Temporary, File, Field}
use Rattle.text_events.specs.declared.role.Meaning.TheVariants.{Label}
use Rattle.text_rules.specs.Links.{is_outside}
use Rattle.text_rules.specs.Surveys.{block_named, first_receiver}
use Rattle.resolved_block.specs.Names.{Env}

-- declared names

-- a number of eight bits, 0 in the place of one that is not
abbrev pub byte_of : ℕ → ℕ
byte_of n = if nat_lt n 256 then n else 0

abbrev pub temporary_in : Option Meaning → ℕ
temporary_in (Some (Temporary t)) = byte_of t
temporary_in _ = 0

abbrev pub file_in : Option Meaning → ℕ
file_in (Some (File f forlopp)) = f
file_in _ = 0

-- the file of a field, and its place in it
abbrev pub field_file_in : Option Meaning → ℕ
field_file_in (Some (Field file field)) = file
field_file_in _ = 0

abbrev pub field_place_in : Option Meaning → ℕ
field_place_in (Some (Field file field)) = field
field_place_in _ = 0

abbrev pub label_in : Option Meaning → ℕ
label_in (Some (Label l)) = l
label_in _ = 0

-- a name alone in an expression
abbrev pub value_in : Option Meaning → Factor
value_in (Some (Variable v)) = factor.Variable v
value_in (Some (Temporary t)) = factor.Temporary (byte_of t)
value_in _ = factor.Number 0

-- an assignment to a name
abbrev pub target_in : Option Meaning → Expr → StmtKind
target_in (Some (Variable v)) e = stmt.SetVariable v e
target_in (Some (Temporary t)) e = stmt.SetTemp (byte_of t) e
target_in _ e = stmt.SetTemp 0 e

-- a name that holds a reference
abbrev pub holder_in : Option Meaning → Holder
holder_in (Some (Variable v)) = holder.Variable v
holder_in (Some (Temporary t)) = holder.Temporary (byte_of t)
holder_in _ = holder.Temporary 0

-- the same of a name of a block

abbrev pub temporary_of : Env → Named → ℕ
temporary_of env n = temporary_in (env.name n.name)

abbrev pub file_of : Env → Named → ℕ
file_of env n = file_in (env.name n.name)

abbrev pub field_file : Env → Named → ℕ
field_file env n = field_file_in (env.name n.name)

abbrev pub field_place : Env → Named → ℕ
field_place env n = field_place_in (env.name n.name)

abbrev pub label_of : Env → Named → ℕ
label_of env n = label_in (env.name n.name)

abbrev pub holder_of : Env → Named → Holder
holder_of env n = holder_in (env.name n.name)

-- signals and blocks

abbrev pub signal_of : Env → Named → ℕ
signal_of env n = unwrap_or (number_in env.signals n.name) 0

abbrev pub block_of : Env → Named → ℕ
block_of env n = unwrap_or (block_named env.blocks n.name) 0

-- the block that a reference names, or its holder
abbrev pub referred : Env → ReferenceKind → Option Receiver
referred env (reference.Block n) = option_map receiver.Block (block_named env.blocks n.name)
referred env (reference.Held n) = Some (receiver.Held (holder_of env n))

-- where a signal goes: as its reference says, else to the first block that receives it
abbrev pub receiver_of : Env → Named → Option Reference → Option Receiver
receiver_of env n None = option_map receiver.Block (first_receiver env.blocks n.name)
receiver_of env n (Some r) = referred env r.kind

-- the same, but a signal that leaves the exchange goes to no block
abbrev pub sent_to : Env → Named → Option Reference → Option Receiver
sent_to env n r = if is_outside (kind_in env.signals n.name) then None else receiver_of env n r
