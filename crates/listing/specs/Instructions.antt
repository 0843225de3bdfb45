-- How each instruction is written: its name, and its operands in their order.
use Rattle.std.specs.Prelude.{ℕ, List, [], ◌∷◌, codes}
use Rattle.machine_code.specs.declared.op.Op.{Op}
use Rattle.machine_code.specs.declared.op.Op.TheVariants.{Stmt, Ldi, Ldt, Stt, Lde, Lda, Add, Sub}
use Rattle.machine_code.specs.declared.op.Op.TheVariants.{Mul, Div, Rem, Eq, Ne, Lt, Le, Gt, Ge}
use Rattle.machine_code.specs.declared.op.Op.TheVariants.{And, Or, Jmp, Jz, Ldw, Stw, Ckw, Ckp, Own}
use Rattle.machine_code.specs.declared.op.Op.TheVariants.{Ldx, Stx, Ckf, Chn, Unc, Arg, Snd, Dir}
use Rattle.machine_code.specs.declared.op.Op.TheVariants.{Call, Ret, Trf, End}

-- a name, and numbers after it
pub record Written : Type 0 where
  pub name : List ℕ
  pub operands : List ℕ

abbrev pub named : List ℕ → List ℕ → Written
named name operands = record { name = name; operands = operands }

unfoldable pub written : Op → Written
written (Stmt p) = named (codes "STMT") (p ∷ [])
written (Ldi r n) = named (codes "LDI") (r ∷ n ∷ [])
written (Ldt r i) = named (codes "LDT") (r ∷ i ∷ [])
written (Stt i r) = named (codes "STT") (i ∷ r ∷ [])
written (Lde r k) = named (codes "LDE") (r ∷ k ∷ [])
written (Lda r k) = named (codes "LDA") (r ∷ k ∷ [])
written (Add r s) = named (codes "ADD") (r ∷ s ∷ [])
written (Sub r s) = named (codes "SUB") (r ∷ s ∷ [])
written (Mul r s) = named (codes "MUL") (r ∷ s ∷ [])
written (Div r s) = named (codes "DIV") (r ∷ s ∷ [])
written (Rem r s) = named (codes "REM") (r ∷ s ∷ [])
written (Eq r s) = named (codes "EQ") (r ∷ s ∷ [])
written (Ne r s) = named (codes "NE") (r ∷ s ∷ [])
written (Lt r s) = named (codes "LT") (r ∷ s ∷ [])
written (Le r s) = named (codes "LE") (r ∷ s ∷ [])
written (Gt r s) = named (codes "GT") (r ∷ s ∷ [])
written (Ge r s) = named (codes "GE") (r ∷ s ∷ [])
written (And r s) = named (codes "AND") (r ∷ s ∷ [])
written (Or r s) = named (codes "OR") (r ∷ s ∷ [])
written (Jmp a) = named (codes "JMP") (a ∷ [])
written (Jz r a) = named (codes "JZ") (r ∷ a ∷ [])
written (Ldw r w) = named (codes "LDW") (r ∷ w ∷ [])
written (Stw w r) = named (codes "STW") (w ∷ r ∷ [])
written (Ckw r d) = named (codes "CKW") (r ∷ d ∷ [])
written (Ckp r n) = named (codes "CKP") (r ∷ n ∷ [])
written (Own r f) = named (codes "OWN") (r ∷ f ∷ [])
written (Ldx r w n s) = named (codes "LDX") (r ∷ w ∷ n ∷ s ∷ [])
written (Stx w n s r) = named (codes "STX") (w ∷ n ∷ s ∷ r ∷ [])
written Ckf = named (codes "CKF") []
written (Chn r f) = named (codes "CHN") (r ∷ f ∷ [])
written (Unc r f) = named (codes "UNC") (r ∷ f ∷ [])
written (Arg r) = named (codes "ARG") (r ∷ [])
written (Snd q x l) = named (codes "SND") (q ∷ x ∷ l ∷ [])
written (Dir a) = named (codes "DIR") (a ∷ [])
written (Call a m) = named (codes "CALL") (a ∷ m ∷ [])
written (Ret m) = named (codes "RET") (m ∷ [])
written (Trf a n) = named (codes "TRF") (a ∷ n ∷ [])
written End = named (codes "END") []
