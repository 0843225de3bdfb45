-- Books and words before the first line has arrived, and what they come to.
use Rattle.std.proofs.Common.{◌≡◌, ℕ, List, [], sym, ap, ◌∙◌, subst}
use Rattle.exchange_model.specs.declared.exchange.Exchange.{Exchange}
use Rattle.exchange_model.specs.Kept.{IsExchange}
use Rattle.exchange_model.specs.Opening.{opening_store}
use Rattle.source_meaning.specs.SingleRun.{opening}
use Rattle.source_meaning.specs.State.{Coming}
use Rattle.source_meaning.specs.Valid.{IsValid, LinesFit}
use Rattle.source_meaning.proofs.Opening.{opening_valid}
use Rattle.run_books.specs.Accounts.{Account, opened, with_words}
use Rattle.exchange_run.specs.Runs.{MayGoOn}

pub nobody_runs : (lines : List Coming) (limit : ℕ) (b : Account) → b ≡ opened lines limit → b.running ≡ 0
nobody_runs lines limit b books = ap (λ (a : Account). a.running) books

pub limit_is : (lines : List Coming) (limit : ℕ) (b : Account) → b ≡ opened lines limit → b.limit ≡ limit
limit_is lines limit b books = ap (λ (a : Account). a.limit) books

-- the books and the words are the state before the first line
pub begins : (x : Exchange) (lines : List Coming) (limit : ℕ) (b : Account) (words : List ℕ) → b ≡ opened lines limit
    → words ≡ opening_store x.blocks → with_words b.state words ≡ opening x lines
begins x lines limit b words books is = ap (λ (a : Account). with_words a.state words) books ∙ ap (λ w. with_words (opened lines limit).state w) is

-- that state is valid
pub begins_valid : (x : Exchange) (lines : List Coming) (limit : ℕ) (b : Account) (words : List ℕ) → IsExchange x
    → LinesFit x [] lines → b ≡ opened lines limit → words ≡ opening_store x.blocks
    → IsValid x (with_words b.state words)
begins_valid x lines limit b words kept fit books is = subst (IsValid x) (sym (begins x lines limit b words books is)) (opening_valid x kept lines fit)

-- a run may go on with them
pub may_begin : (x : Exchange) (lines : List Coming) (limit : ℕ) (b : Account) (words : List ℕ) → IsExchange x
    → LinesFit x [] lines → b ≡ opened lines limit → words ≡ opening_store x.blocks
    → MayGoOn x (record { books = b; words = words })
may_begin x lines limit b words kept fit books is = record
    { nobody = nobody_runs lines limit b books; valid = begins_valid x lines limit b words kept fit books is }

pub ruleset opened_rules = (limit_is, begins)
