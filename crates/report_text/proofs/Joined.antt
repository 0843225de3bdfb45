-- The parts of a report, joined.
use Rattle.std.proofs.Common.{◌≡◌, ℕ, List, [], ◌∷◌, ◌++◌, append_assoc, map, refl, sym, ap, ◌∙◌}
use Rattle.std.proofs.lemmas.List.{append-nil}
use Rattle.std.proofs.lemmas.List.Concat.{flat_map-append}
use Rattle.exchange_model.specs.declared.exchange.Exchange.{Exchange}
use Rattle.source_meaning.specs.SingleRun.{Ending}
use Rattle.source_meaning.specs.State.{State}
use Rattle.std.specs.Fmt.{decimal}
use Rattle.std.specs.List.{count_by}
use Rattle.std.specs.Prelude.{codes}
use Rattle.report_text.specs.Load.{is_lost, is_out, is_release, load_text}
use Rattle.report_text.specs.Report.{end_line, event_line, field_lines, held_lines, jobs_line}
use Rattle.report_text.specs.Report.{report_text, text_of, variable_lines, written}

joined : {text more : List ℕ} (old : List ℕ) (lines others : List (List ℕ)) → text ≡ old ++ text_of lines
    → more ≡ text ++ text_of others → more ≡ old ++ text_of (lines ++ others)
joined old lines others is wrote =
    wrote ∙ ap (λ t. t ++ text_of others) is ∙ append_assoc old (text_of lines) (text_of others)
    ∙ ap (λ t. old ++ t) (sym (flat_map-append written lines others))

one_line : (line : List ℕ) → written line ≡ text_of (line ∷ [])
one_line line = sym (append-nil (written line))

joined_one : {text more : List ℕ} (old : List ℕ) (lines : List (List ℕ)) (line : List ℕ) → text ≡ old ++ text_of lines
    → more ≡ text ++ written line → more ≡ old ++ text_of (lines ++ line ∷ [])
joined_one {text = text} old lines line is wrote = joined old lines (line ∷ []) is (wrote ∙ ap (λ t. text ++ t) (one_line line))

-- the texts after each part
pub whole : (x : Exchange) (s : State) (ending : Ending) (old events jobs variables fields holders all : List ℕ)
    → events ≡ old ++ text_of (map (event_line x) s.events) → jobs ≡ events ++ written (jobs_line s.ended)
    → variables ≡ jobs ++ text_of (variable_lines x.blocks s.store)
    → fields ≡ variables ++ text_of (field_lines x.blocks s.store)
    → holders ≡ fields ++ text_of (held_lines x.blocks s.chains) → all ≡ holders ++ written (end_line ending)
    → all ≡ old ++ report_text x s ending
unfolding report_text
whole x s ending old events jobs variables fields holders all first b c d e f =
    let lines = map (event_line x) s.events in
    let second = joined_one old lines (jobs_line s.ended) first b in
    let third = joined old (lines ++ jobs_line s.ended ∷ []) (variable_lines x.blocks s.store) second c in
    let fourth = joined old (lines ++ jobs_line s.ended ∷ [] ++ variable_lines x.blocks s.store) (field_lines x.blocks s.store) third d in
    let fifth = joined old (lines ++ jobs_line s.ended ∷ [] ++ variable_lines x.blocks s.store
    ++ field_lines x.blocks s.store) (held_lines x.blocks s.chains) fourth e in
    joined_one old (lines ++ jobs_line s.ended ∷ [] ++ variable_lines x.blocks s.store ++ field_lines x.blocks s.store
    ++ held_lines x.blocks s.chains) (end_line ending) fifth f

-- the texts after each line of a summary
pub summed : (calls : ℕ) (s : State) (ending : Ending) (empty first second third fourth fifth all : List ℕ) → empty ≡ []
    → first ≡ empty ++ written (codes "LOAD " ++ decimal calls) → second ≡ first ++ written (jobs_line s.ended)
    → third ≡ second ++ written (codes "OUTS " ++ decimal (count_by is_out s.events))
    → fourth ≡ third ++ written (codes "RELEASES " ++ decimal (count_by is_release s.events))
    → fifth ≡ fourth ++ written (codes "LOST " ++ decimal (count_by is_lost s.events))
    → all ≡ fifth ++ written (end_line ending) → all ≡ load_text calls s ending
unfolding load_text
summed calls s ending empty first second third fourth fifth all none a b c d e f =
    let load = codes "LOAD " ++ decimal calls in
    let outs = codes "OUTS " ++ decimal (count_by is_out s.events) in
    let releases = codes "RELEASES " ++ decimal (count_by is_release s.events) in
    let lost = codes "LOST " ++ decimal (count_by is_lost s.events) in
    let to_load = joined_one [] [] load none a in
    let to_jobs = joined_one [] (load ∷ []) (jobs_line s.ended) to_load b in
    let to_outs = joined_one [] (load ∷ jobs_line s.ended ∷ []) outs to_jobs c in
    let to_releases = joined_one [] (load ∷ jobs_line s.ended ∷ outs ∷ []) releases to_outs d in
    let to_lost = joined_one [] (load ∷ jobs_line s.ended ∷ outs ∷ releases ∷ []) lost to_releases e in
    joined_one [] (load ∷ jobs_line s.ended ∷ outs ∷ releases ∷ lost ∷ []) (end_line ending) to_lost f
