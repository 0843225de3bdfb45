-- The choices of a CASE, each with its code.
use Rattle.std.specs.Prelude.{ℕ, ◌+◌, List, [], ◌∷◌, ◌++◌, length}
use Rattle.machine_code.specs.declared.op.Op.{Op}
use Rattle.machine_code.specs.declared.op.Op.TheVariants as op
use Rattle.stmt_code.specs.declared.lengths.TheConstants.{COMPARE_LENGTH}
use Rattle.stmt_code.specs.StmtCode.{Choice as Source, Places, codes, compare_code}
use Rattle.code_gen.specs.declared.control.Choice.{Choice}

-- these choices, with the end behind the whole
abbrev pub choice_codes : List Choice → ℕ → List Op
choice_codes [] end = []
choice_codes (c ∷ cs) end =
    compare_code c.number c.next ++ (c.body ++ (op.Jmp end ∷ choice_codes cs end))

-- the choices that stand from this address on
abbrev pub chosen : List Source → Places → ℕ → ℕ → List Choice
chosen [] pl d a = []
chosen (w ∷ ws) pl d a =
    let body = codes w.body pl d (a + COMPARE_LENGTH) in
    let next = a + COMPARE_LENGTH + length body + 1 in
    record { number = w.number; next = next; body = body } ∷ chosen ws pl d next

-- the address behind them
abbrev pub behind_choices : List Source → Places → ℕ → ℕ → ℕ
behind_choices [] pl d a = a
behind_choices (w ∷ ws) pl d a = behind_choices ws pl d
    (a + COMPARE_LENGTH + length (codes w.body pl d (a + COMPARE_LENGTH)) + 1)
