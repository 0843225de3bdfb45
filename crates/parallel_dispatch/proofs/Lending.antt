-- Lists of loans.
use Rattle.std.proofs.Common.{◌≡◌, inl, inr, List, [], ◌∷◌, ◌++◌, subst}
use Rattle.std.specs.List.{AllByRecursion}
use Rattle.job_types.specs.declared.job.JobStart.{JobStart}
use Rattle.shared_store.specs.declared.view.Lent.{Lent}
use Rattle.shared_store.specs.Loans.{Has}
use Rattle.parallel_dispatch.specs.Flying.{starts_of}

pub of_loan : (P : Lent → Type 0) (loans : List Lent) (l : Lent) → AllByRecursion P loans → Has loans l → P l
of_loan P [] l all has = absurd has
of_loan P (o ∷ rest) l all (inl is) = subst P is all.0
of_loan P (o ∷ rest) l all (inr has) = of_loan P rest l all.1 has

pub of_start : (P : JobStart → Type 0) (loans : List Lent) (l : Lent) → AllByRecursion P (starts_of loans) → Has loans l → P l.start
of_start P [] l all has = absurd has
of_start P (o ∷ rest) l all (inl is) = subst (λ (m : Lent). P m.start) is all.0
of_start P (o ∷ rest) l all (inr has) = of_start P rest l all.1 has

pub has_left : (loans : List Lent) (l more : Lent) → Has loans l → Has (loans ++ more ∷ []) l
has_left [] l more has = absurd has
has_left (o ∷ rest) l more (inl is) = inl is
has_left (o ∷ rest) l more (inr has) = inr (has_left rest l more has)

pub has_last : (loans : List Lent) (l more : Lent) → more ≡ l → Has (loans ++ more ∷ []) l
has_last [] l more is = inl is
has_last (o ∷ rest) l more is = inr (has_last rest l more is)
