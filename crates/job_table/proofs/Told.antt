-- What is known of a line of a table that has no fault.
use Rattle.std.proofs.Common.{◌≡◌, ℕ, ◌+◌, ◌<◌, ◌≤◌, ◌^◌, Bool, true, false, List, Option, Some}
use Rattle.std.proofs.Common.{None, Result, Ok, Err, refl, subst, arith}
use Rattle.std.specs.Prelude.{if◌then◌else◌}
use Rattle.exchange_model.specs.declared.exchange.Exchange.{Exchange}
use Rattle.text_lines.specs.Words.{is_skipped, words}
use Rattle.signal_file.specs.Rules.{and_then}
use Rattle.job_table.specs.declared.fault.TableFault.{TableFault}
use Rattle.job_table.specs.declared.meaning.Before.{Before}
use Rattle.job_table.specs.declared.period.Period.{Period}
use Rattle.job_table.specs.declared.period.TheConstants.{MOST_LINES}
use Rattle.job_table.specs.Form.{Saying, said_in}
use Rattle.job_table.specs.Rules.{added, behind, meaning, signals_in, told}
use Rattle.job_table.proofs.Meant.{IsMeant, meant}

-- what a line adds: nothing, or the period that it says
pub data Adds (x : Exchange) (b : Before) (line : List ℕ) : Option Period → Type 0 where
  skips : Adds x b line None
  says : (s : Saying) (p : Period) → said_in (words line) ≡ Some s → IsMeant x b s p → Adds x b line (Some p)

adds_said : (x : Exchange) (b : Before) (line : List ℕ) (s : Saying) (m : Result Period TableFault) (r : Option Period)
    → said_in (words line) ≡ Some s → meaning x b s ≡ m → and_then m (λ p. Ok (Some p)) ≡ Ok r → Adds x b line r
adds_said x b line s (Ok p) r said is e = let same : Some p ≡ r = cc in subst (Adds x b line) same (says s p said (meant x b s p is))
adds_said x b line s (Err f) r said is e = absurd (cc)

adds_told : (x : Exchange) (b : Before) (line : List ℕ) (o : Option Saying) (r : Option Period) → said_in (words line) ≡ o → told x b o ≡ Ok r → Adds x b line r
adds_told x b line None r said e = absurd (cc)
adds_told x b line (Some s) r said e = adds_said x b line s (meaning x b s) r said refl e

adds_that : (x : Exchange) (b : Before) (line : List ℕ) (t : Bool) (r : Option Period)
    → (if t then Ok None else told x b (said_in (words line))) ≡ Ok r → Adds x b line r
adds_that x b line true r e = let same : None ≡ r = cc in subst (Adds x b line) same skips
adds_that x b line false r e = adds_told x b line (said_in (words line)) r refl e

pub adds : (x : Exchange) (b : Before) (line : List ℕ) (r : Option Period) → added x b line ≡ Ok r → Adds x b line r
unfolding added
adds x b line r e = adds_that x b line (is_skipped line) r e

-- there are never 2^32 signals
adds_few : {x : Exchange} {b : Before} {line : List ℕ} {r : Option Period} → Adds x b line r → b.signals < 2 ^ 32 → b.signals + signals_in r < 2 ^ 32
adds_few skips small = omega (arith, small)
adds_few {b = b} (says s p said m) small = let few = m.few in under MOST_LINES (omega arith) (b.signals + p.times) few
  where
    under : (most : ℕ) → most < 2 ^ 32 → (n : ℕ) → n ≤ most → n < 2 ^ 32
    under most less n le = omega (arith, less, le)

pub added_few : (x : Exchange) (b : Before) (line : List ℕ) (r : Option Period) → added x b line ≡ Ok r → b.signals < 2 ^ 32 → (behind b r).signals < 2 ^ 32
added_few x b line r e small = adds_few (adds x b line r e) small
