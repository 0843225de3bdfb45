-- The machine's run of a job leaves what the job means.
use Rattle.std.proofs.Common.{◌≡◌, ℕ, ◌+◌, ◌-◌, List, [], length, replicate, Some, refl, sym, ap}
use Rattle.std.proofs.Common.{◌∙◌, subst}
use Rattle.std.specs.Prelude.{slice_get, is_some}
use Rattle.job_types.specs.declared.job.JobStart.{JobStart}
use Rattle.machine_code.specs.declared.op.Op.{Op}
use Rattle.exchange_model.specs.declared.exchange.Exchange.{Exchange}
use Rattle.exchange_model.specs.declared.entry.Entry.{Entry}
use Rattle.job_types.specs.Own.{budget}
use Rattle.source_meaning.specs.Config.{Config}
use Rattle.source_meaning.specs.Job.{begins, place_of, todo_of, job}
use Rattle.machine_meaning.specs.Machine.{Machine}
use Rattle.machine_meaning.specs.Private.{fresh}
use Rattle.machine_meaning.specs.Faithful.{Ends, Means, begun}
use Rattle.stmt_code.proofs.Setting.{Setting}
use Rattle.stmt_code.proofs.At.{At}
use Rattle.stmt_code.proofs.Same.{AllSmall, append_small, none_small, zeros_small, zeros_length}
use Rattle.stmt_code.proofs.Same.{blank_temps, Same, Sim, alive, heads, ended}
use Rattle.stmt_code.proofs.Values.{Laid}
use Rattle.stmt_code.proofs.Steps.{run_sim}
use Rattle.source_meaning.proofs.Budget.{job_over}

-- the machine runs a start from an address to an end, which is what the job comes to
pub record RunsFrom (x : Exchange) (code : List Op) (address : ℕ) (start : JobStart) (store : List ℕ) : Type 0 where
  pub end : Machine
  pub ends : Ends code (begun (fresh address start) store) end
  pub means : Means (job x start store) end

module _ {g : Setting} where
  begins_same : (start : JobStart) (store : List ℕ) (address : ℕ) → AllSmall start.job.values → AllSmall store
      → Same g [] (begins g.exchange start store) (begun (fresh address start) store)
  begins_same start store address small_values small_store = record {
    own = refl;
    world = refl;
    temps = blank_temps;
    regs = zeros_length 16;
    small_store = small_store;
    small_given = append_small start.job.values (replicate (8 - length start.job.values) 0) small_values (zeros_small (8 - length start.job.values));
    small_answers = zeros_small 8;
    callers = tt;
    out = refl;
    small_out = none_small;
    runs = refl;
    going = refl;
  }

  begins_at : (start : JobStart) (store : List ℕ) (e : Entry) (locals : List ℕ)
      → slice_get g.exchange.entries start.job.entry ≡ Some e → Laid g
      → At g (begins g.exchange start store).block locals 0 (begins g.exchange start store).todo
      (g.table.enter e.block e.signal)
  begins_at start store e locals there laid =
      subst (λ o. At g (place_of o) locals 0 (todo_of g.exchange o) (g.table.enter e.block e.signal)) (sym there) (laid.enters e.block e.signal locals)

  told : {c : Config} {m : Machine} (s : Sim g c m)
      → (m.run.own.sends ≡ c.own.sends) × (m.run.own.chain ≡ c.own.chain) × (m.world ≡ c.world) × (m.run.over ≡ c.over)
  told (alive s at) = (ap (λ o. o.sends) s.own, ap (λ o. o.chain) s.own, s.world, s.runs ∙ sym s.going)
  told (heads s at) = (ap (λ o. o.sends) s.own, ap (λ o. o.chain) s.own, s.world, s.runs ∙ sym s.going)
  told (ended e f own w) = (ap (λ o. o.sends) own, ap (λ o. o.chain) own, w, f ∙ sym e)

  -- from the address of the job's entry
  pub job_runs : Laid g → (start : JobStart) (store : List ℕ) (e : Entry)
      → slice_get g.exchange.entries start.job.entry ≡ Some e → AllSmall start.job.values → AllSmall store
      → RunsFrom g.exchange g.code (g.table.enter e.block e.signal) start store
  unfolding job
  job_runs laid start store e there small_values small_store =
      let sim : Sim g (begins g.exchange start store)
      (begun (fresh (g.table.enter e.block e.signal) start) store) = alive
      (begins_same start store (g.table.enter e.block e.signal) small_values small_store)
      (begins_at start store e (replicate 50 0) there laid) in
      let f = run_sim laid (budget + 1) (begins g.exchange start store) (begun (fresh (g.table.enter e.block e.signal) start) store) sim in
      let t = told f.is in
      let o = job_over g.exchange start store in
      record {
        end = f.end;
        ends = record { goes = f.goes; over = ap is_some (t.3 ∙ o.1) };
        means = record { sends = t.0; chain = t.1; world = t.2; over = t.3 };
      }
