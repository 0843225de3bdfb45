-- The numbers of 32 bits in an exchange and in a code. In memory they are so by their types.
use Rattle.std.specs.Prelude.{◌<◌, ℕ, All}
use Rattle.machine_code.specs.declared.op.Op.{Op}
use Rattle.machine_code.specs.declared.op.Op.TheVariants.{Stmt, Ldi, Jmp, Jz, Ldw, Stw, Ckp, Own}
use Rattle.machine_code.specs.declared.op.Op.TheVariants.{Ldx, Stx, Chn, Unc, Snd, Dir, Call, Ret}
use Rattle.machine_code.specs.declared.op.Op.TheVariants.{Trf}
use Rattle.machine_code.specs.Operands.{IsNumber}
use Rattle.exchange_model.specs.declared.block.Block.{Block}
use Rattle.exchange_model.specs.declared.block.File.{File}

-- the number of a file is below this one, and so are those of all files of a block
abbrev pub IsBelow : ℕ → File → Type 0
IsBelow n f = f.number < n

abbrev pub AreBelow : ℕ → Block → Type 0
AreBelow n k = All (IsBelow n) k.files

-- those operands of an instruction that are numbers: not registers, locals, places of values,
-- widths, levels and kinds
abbrev pub AreNumbers : Op → Type 0
AreNumbers (Stmt p) = IsNumber p
AreNumbers (Ldi r n) = IsNumber n
AreNumbers (Jmp a) = IsNumber a
AreNumbers (Jz r a) = IsNumber a
AreNumbers (Ldw r w) = IsNumber w
AreNumbers (Stw w r) = IsNumber w
AreNumbers (Ckp r n) = IsNumber n
AreNumbers (Own r f) = IsNumber f
AreNumbers (Ldx r w n s) = IsNumber w × IsNumber n
AreNumbers (Stx w n s r) = IsNumber w × IsNumber n
AreNumbers (Chn r f) = IsNumber f
AreNumbers (Unc r f) = IsNumber f
AreNumbers (Snd q x l) = IsNumber x
AreNumbers (Dir a) = IsNumber a
AreNumbers (Call a m) = IsNumber a × IsNumber m
AreNumbers (Ret m) = IsNumber m
AreNumbers (Trf a n) = IsNumber a × IsNumber n
AreNumbers _ = Unit {0}
