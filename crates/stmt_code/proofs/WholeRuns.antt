-- The code of an exchange is faithful where its texts stand at their addresses.
use Rattle.std.proofs.Common.{◌≡◌, ℕ, zero, suc, List, [], ◌∷◌, length, map, Some, sym, ap, ◌∙◌}
use Rattle.std.proofs.Common.{subst, arith}
use Rattle.std.specs.Prelude.{slice_get, slice_index}
use Rattle.std.specs.List.{AllByRecursion}
use Rattle.std.proofs.lemmas.List.{length-map}
use Rattle.machine_code.specs.Coded.{Code}
use Rattle.exchange_model.specs.declared.exchange.Exchange.{Exchange}
use Rattle.exchange_model.specs.declared.entry.Entry.{Entry}
use Rattle.exchange_model.specs.Kept.{IsExchange}
use Rattle.machine_meaning.specs.Private.{fresh}
use Rattle.machine_meaning.specs.Faithful.{Faithful, Ends, begun, started}
use Rattle.stmt_code.specs.Whole.{enter_at, whole_code, entry_addresses}
use Rattle.stmt_code.proofs.Texts.{TextsAt, laid}
use Rattle.source_meaning.specs.Valid.{IsWord}
use Rattle.stmt_code.proofs.Same.{AllSmall, none_small}
use Rattle.stmt_code.proofs.JobRuns.{job_runs}
use Rattle.stmt_code.proofs.States.{valid_words}
use Rattle.plex_num.proofs.Lists.{some_at}

-- numbers of 32 bits
words_small : (vs : List ℕ) → AllByRecursion IsWord vs → AllSmall vs
words_small [] h i = none_small i
words_small (v ∷ vs) h zero = h.0
words_small (v ∷ vs) h (suc i) = words_small vs h.1 i

index_map : {A : Type 0} (f : A → ℕ) (xs : List A) (i : ℕ) (x : A) → slice_get xs i ≡ Some x → slice_index (map f xs) i ≡ f x
index_map f [] i x e = cc
index_map f (y ∷ ys) zero x e = let same : y ≡ x = grind arith in ap f same
index_map f (y ∷ ys) (suc i) x e = index_map f ys i x e

pub whole_faithful : (x : Exchange) (code : Code) → IsExchange x → TextsAt x → code.ops ≡ whole_code x → code.entries ≡ entry_addresses x → Faithful x code
whole_faithful x code kept stands ops_are entries_are = record {
  entries = omega (arith, ap length entries_are, length-map x.entries (λ (e : Entry). enter_at x e.block e.signal));
  runs = λ s start valid fitting.
      let e = some_at x.entries start.job.entry fitting.job.entry in
      let address = ap (λ (l : List ℕ). slice_index l start.job.entry) entries_are
      ∙ index_map (λ (e : Entry). enter_at x e.block e.signal) x.entries start.job.entry e.0 e.1 in
      let r = job_runs (laid x kept stands) start s.store e.0 e.1 (words_small start.job.values fitting.job.words) (valid_words x s kept valid) in
      record {
        end = r.end;
        ends = subst (λ ops. Ends ops (begun (started code start) s.store) r.end) (sym ops_are)
            (subst (λ a. Ends (whole_code x) (begun (fresh a start) s.store) r.end) (sym address) r.ends);
        means = r.means;
      };
}
