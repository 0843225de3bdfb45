-- The rows of the table of instructions, by their places.
use Rattle.std.specs.Prelude.{◌≡◌, ◌≢◌, ℕ, List, [], ◌∷◌, length, map, slice_get, Option, Some}
use Rattle.std.specs.Prelude.{None, Result, Ok, Err, unwrap_or}
use Rattle.name_tables.specs.Names.{operation_names}
use Rattle.machine_code.specs.declared.op.Op.{Op}
use Rattle.machine_code.specs.Operands.{OpFits, IsRegister, IsLocal, IsValuePlace, IsNumber}
use Rattle.machine_code.specs.Operands.{IsLevel, IsSendingWay, IsWidth}
use Rattle.machine_code.specs.declared.op.Op.TheVariants.{Stmt, Ldi, Ldt, Stt, Lde, Lda, Add, Sub}
use Rattle.machine_code.specs.declared.op.Op.TheVariants.{Mul, Div, Rem, Eq, Ne, Lt, Le, Gt, Ge}
use Rattle.machine_code.specs.declared.op.Op.TheVariants.{And, Or, Jmp, Jz, Ldw, Stw, Ckw, Ckp, Own}
use Rattle.machine_code.specs.declared.op.Op.TheVariants.{Ldx, Stx, Ckf, Chn, Unc, Arg, Snd, Dir}
use Rattle.machine_code.specs.declared.op.Op.TheVariants.{Call, Ret, Trf, End}
use Rattle.listing.specs.declared.fault.LineFault.{LineFault}
use Rattle.listing.specs.declared.fault.LineFault.TheVariants.{Form, Operand}
use Rattle.std.specs.Fmt.{decimal}
use Rattle.listing.specs.Instructions.{written}
use Rattle.listing.specs.Listing.{spoken}
use Rattle.text_lines.specs.Lines.{ended}

-- what an operand may be
pub data Kind : Type 0 where
  Register : Kind
  Local : Kind
  Place : Kind
  Number : Kind
  Level : Kind
  Sending : Kind
  Width : Kind

abbrev pub InRange : Kind → ℕ → Type 0
InRange Register n = IsRegister n
InRange Local n = IsLocal n
InRange Place n = IsValuePlace n
InRange Number n = IsNumber n
InRange Level n = IsLevel n
InRange Sending n = IsSendingWay n
InRange Width n = IsWidth n

-- an operand that was read, none where it is too large for every kind
abbrev pub Fits : Kind → Option ℕ → Type 0
Fits k None = ⊥
Fits k (Some n) = InRange k n

abbrev pub AllFit : List Kind → List (Option ℕ) → Type 0
AllFit [] os = Unit {0}
AllFit (k ∷ ks) [] = ⊥
AllFit (k ∷ ks) (o ∷ os) = Fits k o × AllFit ks os

-- the kinds of operands in each row of the table
unfoldable pub kinds : List (List Kind)
kinds =
    (Number ∷ []) ∷
    (Register ∷ Number ∷ []) ∷
    (Register ∷ Local ∷ []) ∷
    (Local ∷ Register ∷ []) ∷
    (Register ∷ Place ∷ []) ∷
    (Register ∷ Place ∷ []) ∷
    (Register ∷ Register ∷ []) ∷
    (Register ∷ Register ∷ []) ∷
    (Register ∷ Register ∷ []) ∷
    (Register ∷ Register ∷ []) ∷
    (Register ∷ Register ∷ []) ∷
    (Register ∷ Register ∷ []) ∷
    (Register ∷ Register ∷ []) ∷
    (Register ∷ Register ∷ []) ∷
    (Register ∷ Register ∷ []) ∷
    (Register ∷ Register ∷ []) ∷
    (Register ∷ Register ∷ []) ∷
    (Register ∷ Register ∷ []) ∷
    (Register ∷ Register ∷ []) ∷
    (Number ∷ []) ∷
    (Register ∷ Number ∷ []) ∷
    (Register ∷ Number ∷ []) ∷
    (Number ∷ Register ∷ []) ∷
    (Register ∷ Width ∷ []) ∷
    (Register ∷ Number ∷ []) ∷
    (Register ∷ Number ∷ []) ∷
    (Register ∷ Number ∷ Number ∷ Register ∷ []) ∷
    (Number ∷ Number ∷ Register ∷ Register ∷ []) ∷
    [] ∷
    (Register ∷ Number ∷ []) ∷
    (Register ∷ Number ∷ []) ∷
    (Register ∷ []) ∷
    (Sending ∷ Number ∷ Level ∷ []) ∷
    (Number ∷ []) ∷
    (Number ∷ Number ∷ []) ∷
    (Number ∷ []) ∷
    (Number ∷ Number ∷ []) ∷
    [] ∷
    []

unfoldable pub kinds_at : ℕ → List Kind
kinds_at place = unwrap_or (slice_get kinds place) []

unfoldable pub name_at : ℕ → List ℕ
name_at place = unwrap_or (slice_get operation_names place) []

-- the place of an instruction in the table
unfoldable pub row : Op → ℕ
row (Stmt p) = 0
row (Ldi r n) = 1
row (Ldt r i) = 2
row (Stt i r) = 3
row (Lde r k) = 4
row (Lda r k) = 5
row (Add r s) = 6
row (Sub r s) = 7
row (Mul r s) = 8
row (Div r s) = 9
row (Rem r s) = 10
row (Eq r s) = 11
row (Ne r s) = 12
row (Lt r s) = 13
row (Le r s) = 14
row (Gt r s) = 15
row (Ge r s) = 16
row (And r s) = 17
row (Or r s) = 18
row (Jmp a) = 19
row (Jz r a) = 20
row (Ldw r w) = 21
row (Stw w r) = 22
row (Ckw r d) = 23
row (Ckp r n) = 24
row (Own r f) = 25
row (Ldx r w n s) = 26
row (Stx w n s r) = 27
row Ckf = 28
row (Chn r f) = 29
row (Unc r f) = 30
row (Arg r) = 31
row (Snd q x l) = 32
row (Dir a) = 33
row (Call a m) = 34
row (Ret m) = 35
row (Trf a n) = 36
row End = 37

-- a line with the name at a place
unfoldable pub row_line : ℕ → List ℕ → List ℕ
row_line place numbers = ended (spoken (name_at place) (map decimal numbers))

-- operands are read as these kinds: their values, or what is wrong with them
abbrev pub Reads : {V : Type 0} → List Kind → (V → List ℕ) → List (Option ℕ) → Result V LineFault
    → Type 0
Reads ks view os (Ok v) = (os ≡ map (λ n. Some n) (view v)) × AllFit ks os
Reads ks view os (Err Form) = length os ≢ length ks
Reads ks view os (Err Operand) = (length os ≡ length ks) × (AllFit ks os → ⊥)

-- the operands of the instruction at a place are read
abbrev pub ReadsRow : ℕ → List (Option ℕ) → Result Op LineFault → Type 0
ReadsRow place os (Ok op) =
    (row op ≡ place) × (os ≡ map (λ n. Some n) (written op).operands) × OpFits op
ReadsRow place os (Err Form) = length os ≢ length (kinds_at place)
ReadsRow place os (Err Operand) =
    (length os ≡ length (kinds_at place)) × (AllFit (kinds_at place) os → ⊥)
