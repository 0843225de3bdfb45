-- What it is that code computes a value.
--
-- From a machine that has what an expression sees, the code of the expression goes to its end, with
-- the value in its register and the same loads in the trace, or it stops at the same fault. All
-- that stands below its registers and its locals is as before, and so is all else but the number of
-- instructions made.
use Rattle.std.specs.Prelude.{◌≡◌, ℕ, ◌+◌, ◌^◌, ◌<◌, List, [], ◌∷◌, length, slice_get, slice_index}
use Rattle.std.specs.Prelude.{Some, None}
use Rattle.job_types.specs.declared.fault.Fault.{Fault}
use Rattle.job_types.specs.declared.outcome.Outcome.TheVariants.{Faulted}
use Rattle.plex_limits.specs.declared.limits.TheConstants.{MOST_TEMPORARIES}
use Rattle.machine_code.specs.declared.op.Op.{Op}
use Rattle.machine_code.specs.Operands.{OpFits}
use Rattle.job_types.specs.declared.touch.Touch.{Touch}
use Rattle.job_types.specs.Own.{seen}
use Rattle.source_meaning.specs.Value.{Got, Gives, Fails, Sight}
use Rattle.machine_meaning.specs.Machine.{Machine, Goes, reg}
use Rattle.expr_code.specs.Code.{Site}

-- an instruction stands at an address, and its operands are in their ranges
pub record HasOp (code : List Op) (pc : ℕ) (op : Op) : Type 0 where
  pub is : slice_get code pc ≡ Some op
  pub fits : OpFits op

-- these instructions stand from an address on
abbrev pub HasAt : List Op → ℕ → List Op → Type 0
HasAt code pc [] = Unit {0}
HasAt code pc (op ∷ rest) = HasOp code pc op × HasAt code (pc + 1) rest

-- where the words are that an expression sees
abbrev pub site_of : Sight → Site
site_of s = record { first = s.first; files = s.files }

-- the machine has what an expression sees, with numbers of 32 bits, and has not ended
pub record Agrees (m : Machine) (s : Sight) : Type 0 where
  pub store : m.world.store ≡ s.store
  pub temps : (t : ℕ) → t < MOST_TEMPORARIES → slice_index m.run.locals t ≡ slice_index s.temps t
  pub chain : m.run.own.chain ≡ s.chain
  pub small_store : (cell : ℕ) → slice_index s.store cell < 2 ^ 32
  pub small_temps : (t : ℕ) → slice_index s.temps t < 2 ^ 32
  pub registers : length m.run.regs ≡ 16
  pub locals : length m.run.locals ≡ 50
  pub runs : m.run.over ≡ None

-- the registers below r are as before
abbrev pub KeepsRegisters : (r : ℕ) → (m n : Machine) → Type 0
KeepsRegisters r m n = (k : ℕ) → k < r → reg n.run k ≡ reg m.run k

-- the machine goes to an address with these loads: the registers below r and the locals below l are
-- as before
pub record Calc (code : List Op) (m n : Machine) (pc : ℕ) (loads : List Touch) (r l : ℕ) : Type
    0 where
  pub goes : Goes code m n
  pub at : n.run.pc ≡ pc
  pub registers : length n.run.regs ≡ length m.run.regs
  pub low : KeepsRegisters r m n
  pub length_locals : length n.run.locals ≡ length m.run.locals
  pub locals : (k : ℕ) → k < l → slice_index n.run.locals k ≡ slice_index m.run.locals k
  pub out : n.run.out ≡ m.run.out
  pub frames : n.run.frames ≡ m.run.frames
  pub own : n.run.own ≡ m.run.own
  pub world : n.world ≡ seen loads m.world
  pub over : n.run.over ≡ None

-- the machine goes to a fault with these loads
pub record Stops (code : List Op) (m n : Machine) (loads : List Touch) (f : Fault) : Type 0 where
  pub goes : Goes code m n
  pub own : n.run.own ≡ m.run.own
  pub world : n.world ≡ seen loads m.world
  pub over : n.run.over ≡ Some (Faulted f m.run.own.point)

-- the machine comes to an address with the value in the register r, or it stops at the fault
pub data Computes (code : List Op) (m : Machine) (pc r l : ℕ) : Got → Type 0 where
  gives : {n : Machine} {loads : List Touch} {v : ℕ} → Calc code m n pc loads r l → reg n.run r ≡ v
      → v < 2 ^ 32 → Computes code m pc r l (Gives loads v)
  stops : {n : Machine} {loads : List Touch} {f : Fault} → Stops code m n loads f
      → Computes code m pc r l (Fails loads f)
