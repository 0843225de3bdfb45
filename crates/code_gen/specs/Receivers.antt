-- Receivers whose references are compared, each with its code.
use Rattle.std.specs.Prelude.{ℕ, ◌+◌, false, List, [], ◌∷◌, length, slice_get, if◌then◌else◌}
use Rattle.std.specs.Option.{option_map_or}
use Rattle.machine_code.specs.declared.op.Op.{Op}
use Rattle.machine_code.specs.declared.op.Op.TheVariants as op
use Rattle.exchange_model.specs.declared.exchange.Exchange.{Exchange}
use Rattle.source_meaning.specs.Config.{is_receiver}
use Rattle.stmt_code.specs.declared.lengths.TheConstants.{COMPARE_LENGTH}
use Rattle.stmt_code.specs.StmtCode.{Places, count_in, send_code}
use Rattle.code_gen.specs.declared.control.Choice.{Choice}
use Rattle.code_gen.specs.declared.receivers.Arm.{Arm}
use Rattle.code_gen.specs.declared.receivers.Arm.TheVariants.{Look, Send, Transfer}

-- the code of one receiver
abbrev pub arm_code : Arm → Places → ℕ → List Op
arm_code Look pl b = []
arm_code (Send signal fresh) pl b = send_code (slice_get pl.signals signal) signal b fresh pl
arm_code (Transfer signal) pl b = op.Trf (pl.enter b signal) (count_in pl signal) ∷ []

-- these receivers with their code, which stand from this address on
abbrev pub arms : List ℕ → (ℕ → List Op) → ℕ → List Choice
arms [] arm a = []
arms (b ∷ bs) arm a =
    let next = a + COMPARE_LENGTH + length (arm b) + 1 in
    record { number = b + 1; next = next; body = arm b } ∷ arms bs arm next

-- the address behind them
abbrev pub behind_arms : List ℕ → (ℕ → List Op) → ℕ → ℕ
behind_arms [] arm a = a
behind_arms (b ∷ bs) arm a = behind_arms bs arm (a + COMPARE_LENGTH + length (arm b) + 1)

-- the block of this number, where it receives the signal
abbrev pub receiver_at : Exchange → ℕ → ℕ → List ℕ
receiver_at x signal b =
    (if option_map_or (is_receiver signal) (slice_get x.blocks b) false then b ∷ [] else [])
