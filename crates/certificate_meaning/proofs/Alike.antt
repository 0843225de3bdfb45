-- A summary looks at the facts of its entry alone.
use Rattle.std.proofs.Common.{◌≡◌, ℕ, refl, inl, inr}
use Rattle.plex_limits.specs.declared.limits.TheConstants.{MOST_CALLERS}
use Rattle.plex_num.specs.declared.level.Level.{Level}
use Rattle.exchange_model.specs.declared.exchange.Exchange.{Exchange}
use Rattle.flow_points.specs.declared.fact.Fact.{Fact}
use Rattle.flow_points.specs.declared.fact.Slot.{Slot}
use Rattle.flow_points.specs.declared.fact.Value.{Value}
use Rattle.flow_points.specs.declared.flow.Source.{Source}
use Rattle.flow_points.specs.declared.flow.Source.TheVariants.{Of, Is, Deeper, Nothing}
use Rattle.flow_points.specs.Facts.{Facts, Known, Reached, SourceGives, fact}
use Rattle.source_meaning.specs.Named.{Layer}
use Rattle.entry_summary.specs.declared.summary.Access.{Access}
use Rattle.entry_summary.specs.declared.summary.Summary.{Summary}
use Rattle.entry_summary.specs.Accesses.{Accesses, IsAccess, reads, reads_holder, writes}
use Rattle.entry_summary.specs.Accesses.{reads_field, writes_field, searches, reads_own, writes_own}
use Rattle.entry_summary.specs.Accesses.{opens_own, seizes, frees}
use Rattle.entry_summary.specs.Faults as faults
use Rattle.entry_summary.specs.Faults.{FaultsAt, FlowLeads, MayFault, Once, PostsAt, SomeFaults}
use Rattle.entry_summary.specs.Faults.{SourceMayBe, Then, TooManySends, Walk, no_record}
use Rattle.entry_summary.specs.Faults.{no_receiver, too_wide, divides_by_zero, not_own, has_caller}
use Rattle.entry_summary.specs.Faults.{no_caller, other_caller, too_deep}
use Rattle.entry_summary.specs.Summaries.{IsSummary, MaySendTo}

-- what is known of the entry is known here as well
pub record OnEntry (P Q : Facts) (e : ℕ) : Type 0 where
  pub each : (f : Fact) → f.entry ≡ e → P f → Q f

module _ (x : Exchange) (P Q : Facts) (e : ℕ) (on : OnEntry P Q e) where
  known_on : (p : ℕ) (s : Slot) (v : Value) → Known P e p s v → Known Q e p s v
  known_on p s v k = on.each (fact e p s v) refl k

  reached_on : (p : ℕ) → Reached P e p → Reached Q e p
  reached_on p (v, k) = (v, on.each _ refl k)

  gives_on : (p : ℕ) (s : Source) (v : Value) → SourceGives P e p s v → SourceGives Q e p s v
  gives_on p (Of s) v k = known_on p s v k
  gives_on p (Is w) v is = is
  gives_on p Deeper v (c, few, is, k) = (c, few, is, on.each _ refl k)
  gives_on p Nothing v none = none

  may_be_on : (p : ℕ) (s : Source) (n : ℕ) → SourceMayBe P e p s n → SourceMayBe Q e p s n
  may_be_on p s n m = record { value = m.value; comes = gives_on p s m.value m.comes; is = m.is }

  accesses_on : (b p : ℕ) {l : Layer} {a : Access} → Accesses x P e b p l a → Accesses x Q e b p l a
  accesses_on b p (reads l variable named) = reads l variable named
  accesses_on b p (reads_holder l variable held) = reads_holder l variable held
  accesses_on b p (writes variable value) = writes variable value
  accesses_on b p (reads_field l file field pointer v named plain k) = reads_field l file field pointer v named plain (on.each _ refl k)
  accesses_on b p (writes_field file field pointer value v plain k) = writes_field file field pointer value v plain (on.each _ refl k)
  accesses_on b p (searches temp file field rel value label) = searches temp file field rel value label
  accesses_on b p (reads_own l file field pointer named own) = reads_own l file field pointer named own
  accesses_on b p (writes_own file field pointer value own) = writes_own file field pointer value own
  accesses_on b p (opens_own temp file field placed there lt) = opens_own temp file field placed there lt
  accesses_on b p (seizes temp file label) = seizes temp file label
  accesses_on b p (frees temp file) = frees temp file

  access_on : (a : Access) → IsAccess x P e a → IsAccess x Q e a
  access_on a i = record {
    at = i.at;
    point = i.point;
    stands = i.stands;
    reached = reached_on i.point i.reached;
    access = accesses_on i.at.block i.point i.access;
  }

  level_on : (l : Level) → MaySendTo x P e l → MaySendTo x Q e l
  level_on l m = record { at = m.at; point = m.point; stands = m.stands; reached = reached_on m.point m.reached; sends = m.sends }

  faults_on : (b p : ℕ) {l : Layer} → FaultsAt x P e b p l → FaultsAt x Q e b p l
  faults_on b p (no_record l file pointer n placed points there may past) = no_record l file pointer n placed points there (may_be_on p _ n may) past
  faults_on b p (no_receiver l h n held may none) = no_receiver l h n held (may_be_on p _ n may) none
  faults_on b p (too_wide l value width n puts may wide) = too_wide l value width n puts (may_be_on p _ n may) wide
  faults_on b p (divides_by_zero l value own may) = divides_by_zero l value own may
  faults_on b p (not_own l file pointer points forlopp) = not_own l file pointer points forlopp
  faults_on b p (faults.seizes temp file label) = faults.seizes temp file label
  faults_on b p (has_caller l n end may above) = has_caller l n end (may_be_on p _ n may) above
  faults_on b p (no_caller answer values may) = no_caller answer values (may_be_on p _ 0 may)
  faults_on b p (other_caller answer values n may other) = other_caller answer values n (may_be_on p _ n may) other
  faults_on b p (too_deep signal to values fresh name count answer is may) =
      too_deep signal to values fresh name count answer is (may_be_on p _ MOST_CALLERS may)

  some_on : SomeFaults x P e → SomeFaults x Q e
  some_on s = record { at = s.at; point = s.point; stands = s.stands; reached = reached_on s.point s.reached; faults = faults_on s.at.block s.point s.faults }

  posts_on : (p : ℕ) → PostsAt x P e p → PostsAt x Q e p
  posts_on p h = record { at = h.at; stands = h.stands; reached = reached_on p h.reached; posts = h.posts }

  many_on : TooManySends x P e → TooManySends x Q e
  many_on t = record { points = t.points; once = t.once; each = λ p there. posts_on p (t.each p there); many = t.many }

  goes_on : {p q : ℕ} → FlowLeads x P e p q → FlowLeads x Q e p q
  goes_on {p = p} g = record { at = g.at; stands = g.stands; reached = reached_on p g.reached; how = g.how; leads = g.leads }

  walk_on : {p q : ℕ} → Walk x P e p q → Walk x Q e p q
  walk_on (Once g) = Once (goes_on g)
  walk_on (Then g w) = Then (goes_on g) (walk_on w)

  fault_on : MayFault x P e → MayFault x Q e
  fault_on (inl some) = inl (some_on some)
  fault_on (inr (inl many)) = inr (inl (many_on many))
  fault_on (inr (inr round)) = inr (inr (record { point = round.point; walk = walk_on round.walk }))

-- where two lots of facts have the same of an entry, its summary is the same
pub summary_alike : (x : Exchange) (P Q : Facts) (e : ℕ) (s : Summary) → OnEntry P Q e → OnEntry Q P e → IsSummary x P e s → IsSummary x Q e s
summary_alike x P Q e s there back is = record {
  level = is.level;
  accesses = λ a. ((λ c. access_on x P Q e there a ((is.accesses a).0 c)), (λ c. (is.accesses a).1 (access_on x Q P e back a c)));
  levels = λ l. ((λ c. level_on x P Q e there l ((is.levels l).0 c)), (λ c. (is.levels l).1 (level_on x Q P e back l c)));
  fault = ((λ c. fault_on x P Q e there (is.fault.0 c)), (λ c. is.fault.1 (fault_on x Q P e back c)));
}
