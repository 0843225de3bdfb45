-- What facts say of an entry, more facts say as well.
use Rattle.std.proofs.Common.{ℕ, List, Contains, inl, inr, sym, ◌∙◌}
use Rattle.plex_limits.specs.declared.limits.TheConstants.{MOST_CALLERS}
use Rattle.plex_num.specs.declared.level.Level.{Level}
use Rattle.exchange_model.specs.declared.exchange.Exchange.{Exchange}
use Rattle.source_meaning.specs.Named.{Layer}
use Rattle.flow_points.specs.declared.fact.Fact.{Fact}
use Rattle.flow_points.specs.declared.flow.Source.{Source}
use Rattle.flow_points.specs.Facts.{Facts, IsClosed, IsLeast, Reached, fact}
use Rattle.flow_points.proofs.Least.{least_in, source_alike}
use Rattle.entry_summary.specs.declared.summary.Access.{Access}
use Rattle.entry_summary.specs.declared.summary.Summary.{Summary}
use Rattle.entry_summary.specs.Accesses.{Accesses, IsAccess, reads, reads_holder, writes}
use Rattle.entry_summary.specs.Accesses.{reads_field, writes_field, searches, reads_own, writes_own}
use Rattle.entry_summary.specs.Accesses.{opens_own, seizes, frees}
use Rattle.entry_summary.specs.Faults as faults
use Rattle.entry_summary.specs.Faults.{FaultsAt, FlowLeads, MayFault, Once, PostsAt, SomeFaults}
use Rattle.entry_summary.specs.Faults.{SourceMayBe, Then, TooManySends, Walk, no_record}
use Rattle.entry_summary.specs.Faults.{no_receiver, too_wide, divides_by_zero, not_own, has_caller}
use Rattle.entry_summary.specs.Faults.{no_caller, other_caller, too_deep}
use Rattle.entry_summary.specs.Summaries.{IsSummary, MaySendTo}
use Rattle.precision_laws.specs.Summaries.{SaysNoMore}

module _ (x : Exchange) (P Q : Facts) (more : (f : Fact) → P f → Q f) (e : ℕ) where
  reached_more : (p : ℕ) → Reached P e p → Reached Q e p
  reached_more p r = (r.0, more _ r.1)

  may_be_more : (p : ℕ) (s : Source) (n : ℕ) → SourceMayBe P e p s n → SourceMayBe Q e p s n
  may_be_more p s n m = record { value = m.value; comes = source_alike P Q e p (λ t v. more (fact e p t v)) s m.value m.comes; is = m.is }

  -- accesses and levels

  accesses_more : (b p : ℕ) {l : Layer} {a : Access} → Accesses x P e b p l a → Accesses x Q e b p l a
  accesses_more b p (reads l variable named) = reads l variable named
  accesses_more b p (reads_holder l variable held) = reads_holder l variable held
  accesses_more b p (writes variable value) = writes variable value
  accesses_more b p (reads_field l file field pointer v named plain k) = reads_field l file field pointer v named plain (more _ k)
  accesses_more b p (writes_field file field pointer value v plain k) = writes_field file field pointer value v plain (more _ k)
  accesses_more b p (searches temp file field rel value label) = searches temp file field rel value label
  accesses_more b p (reads_own l file field pointer named own) = reads_own l file field pointer named own
  accesses_more b p (writes_own file field pointer value own) = writes_own file field pointer value own
  accesses_more b p (opens_own temp file field placed there lt) = opens_own temp file field placed there lt
  accesses_more b p (seizes temp file label) = seizes temp file label
  accesses_more b p (frees temp file) = frees temp file

  access_more : (a : Access) → IsAccess x P e a → IsAccess x Q e a
  access_more a i = record {
    at = i.at;
    point = i.point;
    stands = i.stands;
    reached = reached_more i.point i.reached;
    access = accesses_more i.at.block i.point i.access;
  }

  level_more : (l : Level) → MaySendTo x P e l → MaySendTo x Q e l
  level_more l m = record { at = m.at; point = m.point; stands = m.stands; reached = reached_more m.point m.reached; sends = m.sends }

  -- faults

  faults_more : (b p : ℕ) {l : Layer} → FaultsAt x P e b p l → FaultsAt x Q e b p l
  faults_more b p (no_record l file pointer n placed points there may past) = no_record l file pointer n placed points there (may_be_more p _ n may) past
  faults_more b p (no_receiver l h n held may none) = no_receiver l h n held (may_be_more p _ n may) none
  faults_more b p (too_wide l value width n puts may wide) = too_wide l value width n puts (may_be_more p _ n may) wide
  faults_more b p (divides_by_zero l value own may) = divides_by_zero l value own may
  faults_more b p (not_own l file pointer points forlopp) = not_own l file pointer points forlopp
  faults_more b p (faults.seizes temp file label) = faults.seizes temp file label
  faults_more b p (has_caller l n end may above) = has_caller l n end (may_be_more p _ n may) above
  faults_more b p (no_caller answer values may) = no_caller answer values (may_be_more p _ 0 may)
  faults_more b p (other_caller answer values n may other) = other_caller answer values n (may_be_more p _ n may) other
  faults_more b p (too_deep signal to values fresh name count answer is may) =
      too_deep signal to values fresh name count answer is (may_be_more p _ MOST_CALLERS may)

  some_more : SomeFaults x P e → SomeFaults x Q e
  some_more s = record {
    at = s.at;
    point = s.point;
    stands = s.stands;
    reached = reached_more s.point s.reached;
    faults = faults_more s.at.block s.point s.faults;
  }

  posts_more : (p : ℕ) → PostsAt x P e p → PostsAt x Q e p
  posts_more p h = record { at = h.at; stands = h.stands; reached = reached_more p h.reached; posts = h.posts }

  many_more : TooManySends x P e → TooManySends x Q e
  many_more t = record { points = t.points; once = t.once; each = λ p there. posts_more p (t.each p there); many = t.many }

  leads_more : {p q : ℕ} → FlowLeads x P e p q → FlowLeads x Q e p q
  leads_more {p = p} g = record { at = g.at; stands = g.stands; reached = reached_more p g.reached; how = g.how; leads = g.leads }

  walk_more : {p q : ℕ} → Walk x P e p q → Walk x Q e p q
  walk_more (Once g) = Once (leads_more g)
  walk_more (Then g w) = Then (leads_more g) (walk_more w)

  fault_more : MayFault x P e → MayFault x Q e
  fault_more (inl some) = inl (some_more some)
  fault_more (inr (inl many)) = inr (inl (many_more many))
  fault_more (inr (inr round)) = inr (inr (record { point = round.point; walk = walk_more round.walk }))

  -- summaries

  pub says_more : (less great : Summary) → IsSummary x P e less → IsSummary x Q e great → SaysNoMore less great
  says_more less great is by = record {
    level = is.level ∙ sym by.level;
    accesses = λ a there. (by.accesses a).1 (access_more a ((is.accesses a).0 there));
    levels = λ l there. (by.levels l).1 (level_more l ((is.levels l).0 there));
    fault = λ may. by.fault.1 (fault_more (is.fault.0 may));
  }

-- closed facts say all that the least ones say
pub closed_say_more : (x : Exchange) (facts : List Fact) (e : ℕ) (less great : Summary) → IsClosed x (Contains facts)
    → IsSummary x (IsLeast x) e less → IsSummary x (Contains facts) e great → SaysNoMore less great
closed_say_more x facts e less great closed is by = says_more x (IsLeast x) (Contains facts) (least_in x (Contains facts) closed) e less great is by
