-- Instructions that stand at an address.
use Rattle.std.proofs.Common.{◌≡◌, ℕ, ◌+◌, ◌<◌, List, [], ◌∷◌, ◌++◌, length, Some, ap, ◌∙◌, subst}
use Rattle.std.proofs.Common.{arith, append_assoc, length-append}
use Rattle.std.proofs.Math.Seq.{get_or-append_seam}
use Rattle.std.proofs.lemmas.Option.{slice_get-get_or}
use Rattle.std.specs.List.{AllByRecursion}
use Rattle.machine_code.specs.declared.op.Op.{Op}
use Rattle.machine_code.specs.Operands.{OpFits}
use Rattle.expr_code.specs.Runs.{HasAt}

pub has_front : (code : List Op) (pc : ℕ) (a b : List Op) → HasAt code pc (a ++ b) → HasAt code pc a
has_front code pc [] b h = tt
has_front code pc (op ∷ a) b h = (h.0, has_front code (pc + 1) a b h.1)

pub has_back : (code : List Op) (pc : ℕ) (a b : List Op) → HasAt code pc (a ++ b) → HasAt code (pc + length a) b
has_back code pc [] b h = let e : pc ≡ pc + 0 = omega arith in subst (λ n. HasAt code n b) e h
has_back code pc (op ∷ a) b h =
    let e : pc + 1 + length a ≡ pc + length (op ∷ a) = omega arith in
    subst (λ n. HasAt code n b) e (has_back code (pc + 1) a b h.1)

-- what follows some instructions stands behind them
has_after : (before is : List Op) → AllByRecursion OpFits is → HasAt (before ++ is) (length before) is
has_after before [] fits = tt
has_after before (op ∷ is) fits =
    let within : length before < length (before ++ op ∷ is) = omega (arith, length-append before (op ∷ is)) in
    let here = slice_get-get_or (before ++ op ∷ is) (length before) op within ∙ ap Some (get_or-append_seam before op is op) in
    let n : length (before ++ op ∷ []) ≡ length before + 1 = omega (arith, length-append before (op ∷ [])) in
    let rest = subst (λ l. HasAt l (length (before ++ op ∷ [])) is) (append_assoc before (op ∷ []) is) (has_after (before ++ op ∷ []) is fits.1) in
    (record { is = here; fits = fits.0 }, subst (λ m. HasAt (before ++ op ∷ is) m is) n rest)

-- a code whose operands are in their ranges stands from its first address on
pub has_all : (code : List Op) → AllByRecursion OpFits code → HasAt code 0 code
has_all code fits = has_after [] code fits
