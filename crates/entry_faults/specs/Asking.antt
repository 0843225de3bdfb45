-- What is asked of the values at a point, to tell whether a statement there may fault.
use Rattle.std.specs.Prelude.{◌≡◌, ◌≢◌, ℕ, ◌+◌, ◌≤◌, ◌^◌, Bool, true, false, nat_lt, nat_eq, not}
use Rattle.std.specs.Prelude.{Option, Some, None}
use Rattle.exchange_model.specs.declared.exchange.Exchange.{Exchange}
use Rattle.source_meaning.specs.Config.{receiver_of}
use Rattle.flow_points.specs.declared.fact.Value.{Value}
use Rattle.flow_points.specs.declared.fact.Value.TheVariants.{Arg, Const, Any}
use Rattle.flow_points.specs.declared.flow.Source.{Source}
use Rattle.flow_points.specs.Facts.{Facts}
use Rattle.entry_summary.specs.Faults.{SourceMayBe}
use Rattle.entry_faults.specs.declared.question.Asked.{Asked}
use Rattle.entry_faults.specs.declared.question.Asked.TheVariants.{AtLeast, TooWide, Equal}
use Rattle.entry_faults.specs.declared.question.Asked.TheVariants.{OtherAnswer, NoReceiver}
use Rattle.entry_faults.specs.declared.question.Question.{Question}

-- a number is as asked
abbrev pub Meets : Exchange → Asked → ℕ → Type 0
Meets x (AtLeast least) n = least ≤ n
Meets x (TooWide width) n = 2 ^ width ≤ n
Meets x (Equal number) n = n ≡ number
Meets x (OtherAnswer answer) n = n ≢ answer + 1
Meets x (NoReceiver signal) n = receiver_of x signal n ≡ None

-- a value from the source may be such a number
pub record MayMeet (x : Exchange) (P : Facts) (e p : ℕ) (source : Source) (asked : Asked) : Type
    0 where
  pub number : ℕ
  pub may : SourceMayBe P e p source number
  pub meets : Meets x asked number

-- so it is of a question, if there is one
abbrev pub MayAnswer : Exchange → Facts → ℕ → ℕ → Option Question → Type 0
MayAnswer x P e p None = ⊥
MayAnswer x P e p (Some q) = MayMeet x P e p q.source q.asked

-- the block of a reference does not receive the signal
abbrev pub lacks_receiver : Option ℕ → Bool
lacks_receiver None = true
lacks_receiver (Some b) = false

-- a number that is known is as asked
abbrev pub number_meets : Exchange → Asked → ℕ → Bool
number_meets x (AtLeast least) n = not (nat_lt n least)
number_meets x (TooWide width) n = not (nat_lt n (2 ^ width))
number_meets x (Equal number) n = nat_eq n number
number_meets x (OtherAnswer answer) n = not (nat_eq n (answer + 1))
number_meets x (NoReceiver signal) n = lacks_receiver (receiver_of x signal n)

-- some number of 32 bits is
abbrev pub some_meets : Asked → Bool
some_meets (AtLeast least) = nat_lt least (2 ^ 32)
some_meets (TooWide width) = nat_lt width 32
some_meets (Equal number) = nat_lt number (2 ^ 32)
some_meets (OtherAnswer answer) = true
some_meets (NoReceiver signal) = true

-- a value may be
abbrev pub value_meets : Exchange → Asked → Value → Bool
value_meets x asked (Arg k) = some_meets asked
value_meets x asked (Const n) = number_meets x asked n
value_meets x asked Any = some_meets asked
