-- The first faulty line of a table decides.
use Rattle.std.proofs.Common.{◌≡◌, ℕ, ◌+◌, List, [], ◌∷◌, ◌++◌, length, Ok, Err, ap, ◌∙◌, arith}
use Rattle.std.specs.List.{cons_option}
use Rattle.exchange_model.specs.declared.exchange.Exchange.{Exchange}
use Rattle.job_table.specs.declared.fault.TableFault.{TableFault}
use Rattle.job_table.specs.declared.meaning.Before.{Before}
use Rattle.job_table.specs.declared.period.Period.{Period}
use Rattle.signal_file.specs.Rules.{and_then}
use Rattle.signal_file.proofs.Behind.{ok_first}
use Rattle.job_table.specs.Rules.{added, behind, signals_in}
use Rattle.job_table.specs.Table.{beside, counted_of, periods_behind}
use Rattle.job_table.proofs.Fitted.{times_in, times_joined}

-- what counts of these lines behind others
abbrev counted : Before → List (List ℕ) → List Period → Before
counted b front list = record { lines = b.lines + length front; signals = b.signals + times_in list }

decides : (x : Exchange) (b : Before) (front rest : List (List ℕ)) (line : List ℕ) (list : List Period) (f : TableFault)
    → periods_behind x b front ≡ Ok list → added x (counted b front list) line ≡ Err f → periods_behind x b (front ++ line ∷ rest) ≡ Err f
unfolding periods_behind
decides x b [] rest line list f right wrong =
    let same : [] ≡ list = cc in
    let lines_same : b.lines ≡ b.lines + length {A = List ℕ} [] = omega arith in
    let signals_same : b.signals ≡ b.signals + times_in [] = omega arith in
    let all_same : b.signals ≡ b.signals + times_in list = signals_same ∙ ap (λ ps. b.signals + times_in ps) same in
    let here : b ≡ counted b [] list = λ i. record { lines = lines_same i; signals = all_same i } in
    ap (λ r. and_then r (λ first. and_then (periods_behind x (behind b first) rest) (λ ps. Ok (cons_option first ps)))) (ap (λ q. added x q line) here ∙ wrong)
decides x b (one ∷ front) rest line list f right wrong =
    let here = ok_first (added x b one) (λ first. and_then (periods_behind x (behind b first) front) (λ ps. Ok (cons_option first ps))) list right in
    let more = ok_first (periods_behind x (behind b here.0) front) (λ ps. Ok (cons_option here.0 ps)) list here.2 in
    let told_all : Ok (cons_option here.0 more.0) ≡ Ok list = more.2 in
    let same : cons_option here.0 more.0 ≡ list = cc in
    let times = times_joined here.0 more.0 in
    let all = ap times_in same in
    let lines_same : b.lines + 1 + length front ≡ b.lines + length (one ∷ front) = omega arith in
    let signals_same : b.signals + signals_in here.0 + times_in more.0 ≡ b.signals + times_in list = omega (arith, times, all) in
    let before : counted (behind b here.0) front more.0 ≡ counted b (one ∷ front) list = λ i. record { lines = lines_same i; signals = signals_same i } in
    let later = decides x (behind b here.0) front rest line more.0 f more.1 (ap (λ q. added x q line) before ∙ wrong) in
    ap (λ r. and_then r (λ first. and_then (periods_behind x (behind b first) (front ++ line ∷ rest)) (λ ps. Ok (cons_option first ps)))) here.1
    ∙ ap (λ r. and_then r (λ ps. Ok (cons_option here.0 ps))) later

pub first_faulty : (x : Exchange) (signals : ℕ) (front rest : List (List ℕ)) (line : List ℕ) (list : List Period) (f : TableFault)
    → periods_behind x (beside signals) front ≡ Ok list → added x (counted_of signals front list) line ≡ Err f
    → periods_behind x (beside signals) (front ++ line ∷ rest) ≡ Err f
first_faulty x signals front rest line list f right wrong =
    let lines_same : 0 + length front ≡ length front = omega arith in
    let before : counted (beside signals) front list ≡ counted_of signals front list =
    λ i. record { lines = lines_same i; signals = signals + times_in list } in
    decides x (beside signals) front rest line list f right (ap (λ q. added x q line) before ∙ wrong)
