-- What is left when a call is out of memory.
use Rattle.std.proofs.Common.{◌≡◌, ◌≢◌, inl, inr, List, [], ◌∷◌, refl, sym, ap, ◌∙◌, subst}
use Rattle.machine_code.specs.Coded.{Code}
use Rattle.exchange_model.specs.declared.exchange.Exchange.{Exchange}
use Rattle.checked.specs.Kept.{KeptSummaries}
use Rattle.machine_meaning.specs.Private.{Private}
use Rattle.run_books.specs.Accounts.{Account}
use Rattle.shared_store.specs.declared.view.Lent.{Lent}
use Rattle.shared_store.specs.Loans.{Has, taken_back}
use Rattle.shared_store.specs.Seats.{JobView, RootView, StoreId}
use Rattle.shared_store.proofs.Loaned.{kept_out}
use Rattle.job_runner.specs.Runs.{HasRun}
use Rattle.lone_job.specs.Turns.{LendsNothing}
use Rattle.parallel_dispatch.specs.Moves.{Flying, IsBare, IsLeft}
use Rattle.parallel_dispatch.specs.Windows.{View}

-- before a move
pub left_flying : (x : Exchange) (k : KeptSummaries) (store : StoreId) (books : Account) (root : RootView) (w : View)
    → root.0 ≡ store → Flying x k books root w → IsLeft store root w.loans
left_flying x k store books root w home flying = record { home = home; listed = flying.1.listed }

-- the loans are the same
pub left_same : (store : StoreId) (root now : RootView) (loans left : List Lent) → now.0 ≡ root.0
    → now.1.loans ≡ root.1.loans → left ≡ loans → IsLeft store root loans → IsLeft store now left
left_same store root now loans left home same left_is l = record {
  home = home ∙ l.home;
  listed = subst (λ (z : List Lent × List Lent). (o : Lent) → Has z.0 o → Has z.1 o) (λ i. (sym same i, sym left_is i)) l.listed;
}

-- one loan was returned
pub left_back : (x : Exchange) (code : Code) (store : StoreId) (root now : RootView) (l : Lent) (rest : List Lent)
    (seat : JobView) (run : Private) → HasRun x code store l seat run → now ≡ (root.0, taken_back root.1 seat.1)
    → IsLeft store root (l ∷ rest) → IsLeft store now rest
left_back x code store root now l rest seat run has is left = record {
  home = ap (λ (r : RootView). r.0) is ∙ left.home;
  listed = λ o there.
      let back : RootView = (root.0, taken_back root.1 (record { lent = l; touches = seat.1.touches })) in
      let same : now ≡ back = is ∙ ap (λ (v : JobView). (root.0, taken_back root.1 (record { lent = v.1.lent; touches = seat.1.touches }))) has.seat_is in
      let out = kept_out l.number root.1.loans o (subst (λ (r : RootView). Has r.1.loans o) same there) in
      by o (left.listed o out.0) out.1;
}
  where
    by : (o : Lent) → Has (l ∷ rest) o → o.number ≢ l.number → Has rest o
    by o (inl is) other = absurd (other (sym (ap (λ (m : Lent). m.number) is)))
    by o (inr has) other = has

-- the oldest loan was returned, and nothing else changed the loans
pub left_oldest : (x : Exchange) (code : Code) (store : StoreId) (root now last : RootView) (all : List Lent) (l : Lent)
    (rest left : List Lent) (seat : JobView) (run : Private) → HasRun x code store l seat run
    → now ≡ (root.0, taken_back root.1 seat.1) → all ≡ l ∷ rest → IsLeft store root all
    → last.0 ≡ now.0 → last.1.loans ≡ now.1.loans → left ≡ rest → IsLeft store last left
left_oldest x code store root now last all l rest left seat run has is all_is before home same left_is =
    left_same store now last rest left home same left_is (left_back x code store root now l rest seat run has is (subst (IsLeft store root) all_is before))

-- no job is in flight any more
pub left_bare : (store : StoreId) (root : RootView) (loans : List Lent) → loans ≡ [] → IsLeft store root loans → IsBare store root
left_bare store root loans none left = record { home = left.home; bare = by root.1.loans (λ o has. subst (λ ls. Has ls o) none (left.listed o has)) }
  where
    by : (ls : List Lent) → ((o : Lent) → Has ls o → ⊥) → ls ≡ []
    by [] never = refl
    by (l ∷ rest) never = absurd (never l (inl refl))

-- a job that ran alone leaves no loans
pub left_nothing : (store home : StoreId) (root : RootView) (loans : List Lent) → LendsNothing home root → home ≡ store → IsLeft store root loans
left_nothing store home root loans none same = record { home = none.home ∙ same; listed = λ o has. absurd (subst (λ ls. Has ls o) none.bare has) }
