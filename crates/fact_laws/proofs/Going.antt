-- Where a job goes on in its block, what it has is known.
use Rattle.std.proofs.Common.{◌≡◌, ◌⊎◌, inl, inr, ℕ, ◌+◌, ◌<◌, ◌≤◌, Bool, true, false, List, ◌∷◌}
use Rattle.std.proofs.Common.{◌++◌, map, drop, length, Option, Some, None, refl, sym, ap, ◌∙◌}
use Rattle.std.proofs.Common.{subst, slice_get, arith}
use Rattle.std.proofs.lemmas.Option.{same_Some}
use Rattle.std.specs.Prelude.{slice_index, slice_set}
use Rattle.std.specs.List.{AllByRecursion}
use Rattle.std.specs.Option.{option_map_or}
use Rattle.job_types.specs.declared.touch.Touch.{Touch}
use Rattle.exchange_model.specs.declared.exchange.Exchange.{Exchange}
use Rattle.exchange_model.specs.declared.block.Block.{Block}
use Rattle.exchange_model.specs.declared.expr.Expr.{Expr}
use Rattle.exchange_model.specs.declared.signal.SignalKind.{SignalKind}
use Rattle.exchange_model.specs.declared.signal.SignalKind.TheVariants.{Buffered, Direct, Combined}
use Rattle.exchange_model.specs.declared.signal.SignalKind.TheVariants.{Answer, Outside}
use Rattle.exchange_model.specs.declared.stmt.Receiver.{Receiver}
use Rattle.exchange_model.specs.declared.stmt.Stmt.{Stmt}
use Rattle.exchange_model.specs.declared.stmt.StmtKind.TheOpen as stmt
use Rattle.exchange_model.specs.Fits.{Scope, ExprFits, SendFits, AnswerFits, EnterFits, KindNames}
use Rattle.exchange_model.specs.Fits.{retrieved}
use Rattle.exchange_model.specs.Kept.{IsExchange, entered, scope_of, signal_count}
use Rattle.source_meaning.specs.Named.{Layer}
use Rattle.source_meaning.specs.Value.{Gives, expr_value}
use Rattle.source_meaning.specs.Valid.{IsWord}
use Rattle.source_meaning.specs.Config.{Item, Do, Turns, Config, sight, body_of, label_of}
use Rattle.source_meaning.specs.Config.{from_place, Caller}
use Rattle.exchange_model.specs.Kept.{is_enter}
use Rattle.source_meaning.specs.Changes.{value_count, takes}
use Rattle.source_meaning.specs.Deeds.{Deed, Doing, deed_point, label_in, GoesOnAfter, MayGoOn}
use Rattle.source_meaning.specs.Deeds.{IsBranch, IsNoEnter, GoesOn, to_next, with_value, to_label}
use Rattle.source_meaning.specs.Deeds.{to_branch, to_loop, to_turn, with_found, with_seized}
use Rattle.source_meaning.specs.Deeds.{with_answers, with_given, from_no_enter}
use Rattle.source_meaning.specs.Rests.{StandsAs, IsRest, first_point, head_point}
use Rattle.source_meaning.proofs.Fitting.{deed_fits_in}
use Rattle.source_meaning.proofs.Rests.{DeedRest, head_text}
use Rattle.flow_points.specs.declared.fact.Slot.TheVariants.{Temp, Given, Answered}
use Rattle.flow_points.specs.declared.fact.Value.TheVariants.{Const, Any}
use Rattle.flow_points.specs.declared.flow.Source.TheVariants.{Of, Is}
use Rattle.flow_points.specs.declared.flow.Passing.{Passing}
use Rattle.flow_points.specs.declared.flow.Passing.TheVariants.{Kept, Sets, Takes, Retrieves}
use Rattle.flow_points.specs.Places.{label_point}
use Rattle.flow_points.specs.Slots.{temp_count, given_count}
use Rattle.flow_points.specs.Sources.{expr_source, source_of}
use Rattle.flow_points.specs.Flows.{Leads, SendLeads}
use Rattle.flow_points.specs.Facts.{Facts, Guarded, IsClosed}
use Rattle.fact_laws.specs.Covers.{SlotHolds, Activation, KnownBefore}
use Rattle.fact_laws.proofs.Carrying.{Gets, Target, Carried, carried_kept, carried_sets}
use Rattle.fact_laws.proofs.Carrying.{carried_any, carried_either, carried_takes, lands}
use Rattle.fact_laws.proofs.Rows.{enter_fits}
use Rattle.fact_laws.proofs.Standing.{at_place, deed_place, rest_target, head_alone}
use Rattle.fact_laws.proofs.Pairing.{AfterPaired}
use Rattle.fact_laws.proofs.Values.{expr_gets}

-- to a point all goes along, or a temporary may get any number
abbrev pub LeadsOn : Exchange → ℕ → ℕ → Option ℕ → Layer → ℕ → Type 0
LeadsOn x b p next l q = Leads x b p next l q Kept ⊎ ((temp : ℕ) × Leads x b p next l q (Sets temp (Is Any)))

send_next : (x : Exchange) (scope : Scope) (kind : Option SignalKind) (next : Option ℕ) (signal : ℕ)
    (to : Option Receiver) (values : List Expr) (fresh : Bool) (q : ℕ)
    → SendFits scope kind signal to (length values) fresh → GoesOnAfter kind → next ≡ Some q
    → SendLeads x kind next signal to values q Kept
send_next x scope (Some (Buffered name level count)) next signal to values fresh q fits on is = record { ends = is; is = refl }
send_next x scope (Some (Outside name count)) next signal to values fresh q fits on is = record { ends = is; is = refl }
send_next x scope (Some (Direct name count)) next signal to values fresh q fits on is = absurd on
send_next x scope (Some (Combined name count answer)) next signal to values fresh q fits on is = absurd on
send_next x scope (Some (Answer name count combined)) next signal to values fresh q fits on is = absurd fits
send_next x scope None next signal to values fresh q fits on is = absurd fits

pub leads_next : (x : Exchange) (b p : ℕ) (k : Block) (next : Option ℕ) (l : Layer) (q : ℕ)
    → KindNames (scope_of x b k) l → is_enter l ≡ false → MayGoOn x l → next ≡ Some q → LeadsOn x b p next l q
leads_next x b p k next (stmt.SetVariable variable value) q names plain may is = inl (record { ends = is; is = refl })
leads_next x b p k next (stmt.SetField file field pointer value) q names plain may is = inl (record { ends = is; is = refl })
leads_next x b p k next (stmt.IfGoto cond label) q names plain may is = inl (inr (record { ends = is; is = refl }))
leads_next x b p k next (stmt.ForFirst temp file field rel value label) q names plain may is = inl (inr (record { ends = is; is = refl }))
leads_next x b p k next (stmt.Send signal to values fresh) q names plain may is = inl
    (send_next x (scope_of x b k) (slice_get x.signals signal) next signal to values fresh q names may is)
leads_next x b p k next (stmt.Seize temp file label) q names plain may is = inr (temp, inl (record { ends = is; is = refl }))
leads_next x b p k next (stmt.Free temp file) q names plain may is = inl (record { ends = is; is = refl })
leads_next x b p k next (stmt.Enter signal temps) q names plain may is = absurd (let no = plain in cc)
leads_next x b p k next _ q names plain may is = absurd may

pub leads_label : (x : Exchange) (b p : ℕ) (next : Option ℕ) (l : Layer) (label q : ℕ) → label_in l ≡ Some label
    → label_point x b label ≡ Some q → LeadsOn x b p next l q
leads_label x b p next (stmt.Goto k) label q at is = inl (record { ends = ap (label_point x b) (same_Some k label at) ∙ is; is = refl })
leads_label x b p next (stmt.IfGoto cond k) label q at is = inl (inl (record { ends = ap (label_point x b) (same_Some k label at) ∙ is; is = refl }))
leads_label x b p next (stmt.ForFirst temp file field rel value k) label q at is =
    inr (temp, inl (record { ends = ap (label_point x b) (same_Some k label at) ∙ is; is = refl }))
leads_label x b p next (stmt.Seize temp file k) label q at is = inl (inr (record { ends = ap (label_point x b) (same_Some k label at) ∙ is; is = refl }))
leads_label x b p next _ label q at is = cc

pub leads_branch : (x : Exchange) (b p : ℕ) (next : Option ℕ) (l : Layer) (body : List Stmt) (q : ℕ) → IsBranch l body
    → first_point body next ≡ Some q → Leads x b p next l q Kept
leads_branch x b p next (stmt.If cond yes_part no_part) body q (inl is) at = inl (record { ends = subst (λ z. first_point z next ≡ Some q) is at; is = refl })
leads_branch x b p next (stmt.If cond yes_part no_part) body q (inr is) at = inr (record { ends = subst (λ z. first_point z next ≡ Some q) is at; is = refl })
leads_branch x b p next (stmt.Case value whens otherwise) body q (inl is) at = inr (record { ends = subst (λ z. first_point z next ≡ Some q) is at; is = refl })
leads_branch x b p next (stmt.Case value whens otherwise) body q (inr is) at =
    inl (record { choice = is.0; one = is.1; goes = record { ends = subst (λ z. first_point z next ≡ Some q) is.2 at; is = refl } })
leads_branch x b p next _ body q is at = absurd is

pub no_enter : (l : Layer) → IsNoEnter l → is_enter l ≡ true → ⊥
no_enter (stmt.Enter signal temps) other is = other
no_enter (stmt.SetTemp temp e) other is = cc
no_enter _ other is = cc

-- as many names as values
answer_many : (kind : Option SignalKind) (n : ℕ) → AnswerFits kind n → n ≡ option_map_or signal_count kind 0
answer_many (Some (Answer name count combined)) n fits = fits
answer_many (Some (Buffered name level count)) n fits = absurd fits
answer_many (Some (Direct name count)) n fits = absurd fits
answer_many (Some (Combined name count answer)) n fits = absurd fits
answer_many (Some (Outside name count)) n fits = absurd fits
answer_many None n fits = absurd fits

pub answer_long : (x : Exchange) (answer n : ℕ) → AnswerFits (slice_get x.signals answer) n → n ≡ value_count x answer
answer_long x answer n fits = answer_many (slice_get x.signals answer) n fits

enter_many : (kind : Option SignalKind) (n : ℕ) → EnterFits kind n → n ≡ option_map_or signal_count kind 0
enter_many (Some (Buffered name level count)) n fits = fits
enter_many (Some (Direct name count)) n fits = fits
enter_many (Some (Combined name count answer)) n fits = fits
enter_many (Some (Answer name count combined)) n fits = absurd fits
enter_many (Some (Outside name count)) n fits = absurd fits
enter_many None n fits = absurd fits

-- the answer that a statement takes
abbrev pub retrieved_by : Deed → Option ℕ
retrieved_by (Doing p l) = retrieved l
retrieved_by _ = None

-- a temporary of the block has what is known of it
pub temps_known : {x : Exchange} {P : Facts} {e b p : ℕ} {args temps given : List ℕ} {callers : List Caller}
    → Activation x P e args b p temps given callers → (k : Block) → slice_get x.blocks b ≡ Some k → (t : ℕ)
    → t < length k.temporaries → Gets P e args p (Of (Temp t)) (slice_index temps t)
temps_known known k there t lt = known.temp t (subst (λ o. t < option_map_or (λ (k : Block). length k.temporaries) o 0) (sym there) lt)

module _ (x : Exchange) (kept : IsExchange x) (P : Facts) (closed : IsClosed x P) (e : ℕ) (args : List ℕ) where
  -- what is known of the job at its statement
  pub record Here (c : Config) (p : ℕ) : Type 0 where
    pub known : Activation x P e args c.block p c.temps c.own.given c.callers
    pub long : temp_count x c.block ≤ length c.temps
    pub small : AllByRecursion IsWord c.temps

  -- the values of the answer, at a RETRIEVE
  abbrev pub AnswersAt : Config → Deed → Type 0
  AnswersAt c deed = (m k : ℕ) → retrieved_by deed ≡ Some m → k < value_count x m
      → SlotHolds P e args (deed_point deed) (Answered k) (slice_index c.own.answers k)

  module _ (c : Config) (p : ℕ) (h : Here c p) where
    -- the value of an expression of the statement
    pub value_gets : (k : Block) → slice_get x.blocks c.block ≡ Some k → (ex : Expr)
        → ExprFits (scope_of x c.block k) ex → (loads : List Touch) (v : ℕ) → expr_value ex (sight x c) ≡ Gives loads v
        → Gets P e args p (expr_source ex) v
    value_gets k there ex fits loads v is = expr_gets P e args p x kept c.block k (sight x c) h.small (temps_known h.known k there) ex fits loads v is

    module _ (l : Layer) (rest : List Item) (stands : StandsAs x c.block p l rest) where
      -- along a flow to a point of the block
      within : (q : ℕ) (how : Passing) (temps : List ℕ) → Leads x c.block p (head_point rest) l q how → Guarded P e p q how → Target x c.block q
          → Carried P e args p (source_of how) (temp_count x c.block) (given_count x c.block) temps c.own.given
          c.callers → Activation x P e args c.block q temps c.own.given c.callers
      within q how temps leads guarded target carried =
          lands x P closed e args (at_place c.block p l rest) q how
          (record {
            place = deed_place stands;
            leads = leads;
            reached = (Const (length c.callers), h.known.depth);
            guarded = guarded;
          })
          c.block temps c.own.given c.callers target carried h.known.past

      pub kept_to : (q : ℕ) → Leads x c.block p (head_point rest) l q Kept → Target x c.block q → Activation x P e args c.block q c.temps c.own.given c.callers
      kept_to q leads target = within q Kept c.temps leads tt target (carried_kept P e args p h.known)

      on_to : (q : ℕ) → LeadsOn x c.block p (head_point rest) l q → Target x c.block q → Activation x P e args c.block q c.temps c.own.given c.callers
      on_to q (inl leads) target = kept_to q leads target
      on_to q (inr any) target = within q (Sets any.0 (Is Any)) c.temps any.1 tt target (carried_either P e args p h.known any.0)

      set_to : (q temp v : ℕ) → Leads x c.block p (head_point rest) l q (Sets temp (Is Any)) → Target x c.block q
          → Activation x P e args c.block q (slice_set c.temps temp v) c.own.given c.callers
      set_to q temp v leads target = within q (Sets temp (Is Any)) (slice_set c.temps temp v) leads tt target (carried_any P e args p h.known temp v h.long)

  pub label_at : (b label q : ℕ) → head_point (from_place x b (label_of x b label)) ≡ Some q → label_point x b label ≡ Some q
  label_at b label q is = sym (head_alone (drop (label_of x b label) (body_of x b))) ∙ is

  -- where a job goes on
  pub goes_known : (rest : List Item) (c : Config) (deed : Deed) (todo : List Item) (temps : List ℕ)
      → DeedRest x c.block deed rest → AfterPaired x.signals deed rest → Here c (deed_point deed) → AnswersAt c deed
      → IsRest x c.block todo
      → GoesOn x rest c deed todo temps → KnownBefore x P e args c.block todo temps c.own.given c.callers
  goes_known rest c deed todo temps at after h answers into (to_next p {l = l} may) = λ q is.
      let f = deed_fits_in x kept c.block p l rest at.0 in
      on_to c p h l rest at.0 q (leads_next x c.block p f.block (head_point rest) l q f.fits.names after.1 may is) (rest_target x c.block rest into q is)
  goes_known rest c deed todo temps at after h answers into (with_value p temp ex v value) = λ q is.
      let l : Layer = stmt.SetTemp temp ex in
      let f = deed_fits_in x kept c.block p l rest at.0 in
      within c p h l rest at.0 q (Sets temp (expr_source ex)) (slice_set c.temps temp v)
      (record { ends = is; is = refl }) tt (rest_target x c.block rest into q is)
      (carried_sets P e args p h.known temp v (expr_source ex) h.long (value_gets c p h f.block f.there ex f.fits.exprs.each.0 value.loads v value.is))
  goes_known rest c deed todo temps at after h answers into (to_label p {l = l} label named) = λ q is.
      on_to c p h l rest at.0 q (leads_label x c.block p (head_point rest) l label q named
      (label_at c.block label q is)) (rest_target x c.block (from_place x c.block (label_of x c.block label)) into q
      is)
  goes_known rest c deed todo temps at after h answers into (to_branch p {l = l} body branch) = λ q is.
      kept_to c p h l rest at.0 q (leads_branch x c.block p (head_point rest) l body q branch
      (sym (head_text body rest) ∙ is)) (rest_target x c.block (map Do body ++ rest) into q is)
  goes_known rest c deed todo temps at after h answers into (to_loop p temp from upto body a b first last) = λ q is.
      subst (λ n. Activation x P e args c.block n c.temps c.own.given c.callers) (same_Some p q is) h.known
  goes_known rest c deed todo temps at after h answers into (to_turn p temp this end body) = λ q is.
      let loop = at.0.0 in
      let l : Layer = stmt.On temp loop.from loop.upto body in
      let again = Turns p temp (this + 1) end body ∷ rest in
      set_to c p h l rest (record { stmt = loop.stmt; point = loop.point; is = loop.is; stands = loop.stands }) q temp
      this (inl (record { ends = sym (head_text body again) ∙ is; is = refl }))
      (rest_target x c.block (map Do body ++ again) into q is)
  goes_known rest c deed todo temps at after h answers into (with_found p temp file field rel ex label number placed found) = λ q is.
      set_to c p h (stmt.ForFirst temp file field rel ex label) rest at.0 q temp number
      (inl (record { ends = label_at c.block label q is; is = refl }))
      (rest_target x c.block (from_place x c.block (label_of x c.block label)) into q is)
  goes_known rest c deed todo temps at after h answers into (with_seized p temp file label number placed found) = λ q is.
      set_to c p h (stmt.Seize temp file label) rest at.0 q temp number (inl (record { ends = is; is = refl })) (rest_target x c.block rest into q is)
  goes_known rest c deed todo temps at after h answers into (with_answers p answer ts) = λ q is.
      let l : Layer = stmt.Retrieve answer ts in
      let f = deed_fits_in x kept c.block p l rest at.0 in
      let long = answer_long x answer (length ts) f.fits.names.0 in
      within c p h l rest at.0 q (Retrieves ts) (takes 0 ts c.own.answers c.temps) (record { ends = is; is = refl }) tt (rest_target x c.block rest into q is)
      (carried_takes P e args p h.known ts (λ k. Answered k) c.own.answers h.long (λ j lt. answers answer j refl (omega (arith, lt, long))))
  goes_known rest c deed todo temps at after h answers into (with_given p signal ts) = λ q is.
      let l : Layer = stmt.Enter signal ts in
      let s = at.0.0 in
      let f = deed_fits_in x kept c.block p l rest s in
      let long : length ts ≡ value_count x signal = enter_many (slice_get x.signals signal) (length ts) f.fits.names.0 in
      let few = enter_fits x kept c.block signal s.stmt s.stands.list s.stands.end s.stands.row (ap (λ (l : Layer). entered l) s.is) in
      within c p h l rest s q (Takes ts) (takes 0 ts c.own.given c.temps) (record { ends = is; is = refl }) tt (rest_target x c.block rest into q is)
      (carried_takes P e args p h.known ts (λ k. Given k) c.own.given h.long (λ j lt. h.known.gave j (omega (arith, lt, long, few))))
  goes_known rest c deed todo temps at after h answers into (from_no_enter p {l = l} other) = absurd (no_enter l other at.0.1)
