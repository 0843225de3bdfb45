-- The stop that names what an exchange lacks.
use Rattle.std.proofs.Common.{◌≡◌, List, ℕ, sym, ap, refl, subst}
use Rattle.exchange_model.specs.declared.exchange.Exchange.{Exchange}
use Rattle.block_change.specs.declared.misfit.Misfit.{Misfit}
use Rattle.command_words.specs.declared.status.Status.TheVariants as status
use Rattle.answer_meaning.specs.declared.answer.Answer.{Answer}
use Rattle.answer_meaning.specs.declared.answer.Stop.TheVariants as stop
use Rattle.answer_meaning.specs.declared.fault.FileFault.TheVariants as file
use Rattle.answer_meaning.specs.Stages.{IsStopOf}
use Rattle.answer_meaning.specs.Text.{misfit_refusal, misfit_text}

-- its line is that of the misfit
pub misfit_told : (x : Exchange) (m : Misfit) (text : List ℕ) → text ≡ misfit_text x m
    → IsStopOf (misfit_refusal x m) (stop.Told (record { status = status.Change; text = text }) (file.Change m))
misfit_told x m text is =
    let same : misfit_refusal x m ≡ record { status = status.Change; text = text } = ap (λ t. record { status = status.Change; text = t }) (sym is) in
    ((x, same), same)
