-- Devices that tell nothing of what they hold: what their traits ask of each answer.
use Rattle.std.proofs.Common.{◌≡◌, ℕ, Result, Ok, Err, IfOk, OnErr, MatchResult, arith}
use Rattle.plex_io.specs.Causes.{risen, Rose}

-- what holds of every value holds of the one in an Ok
pub ok_holds : {T E : Type 0} (result : Result T E) (P : T → Type 0) → ((value : T) → P value) → IfOk result P
ok_holds (Ok value) P holds = holds value
ok_holds (Err e) P holds = tt

-- what holds anyway holds at an Err
pub err_holds : {T E : Type 0} (result : Result T E) (P : Type 0) → P → OnErr result P
err_holds (Ok value) P holds = tt
err_holds (Err e) P holds = holds

-- a count that was raised by one has risen
pub raised_rose : (before now : ℕ) → now ≡ risen before → Rose before now
raised_rose before now raised = omega (arith, raised)

-- the same at an Err
pub raised_at_err : {T E : Type 0} (result : Result T E) (P : Type 0) (before now : ℕ)
    → MatchResult result (λ _. P) (λ _. now ≡ risen before) → OnErr result (Rose before now)
raised_at_err (Ok value) P before now raised = tt
raised_at_err (Err e) P before now raised = raised_rose before now raised
