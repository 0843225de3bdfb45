-- The ways that are kept lead where the rules say.
use Rattle.std.proofs.Common.{◌≡◌, ◌⊎◌, inl, inr, ⊎_elim, ℕ, zero, suc, ◌+◌, ◌<◌, Bool, true, false}
use Rattle.std.proofs.Common.{List, [], ◌∷◌, ◌++◌, length, Option, Some, None, slice_get, refl, sym}
use Rattle.std.proofs.Common.{ap, ◌∙◌, subst, arith}
use Rattle.std.specs.Prelude.{◌||◌, is_none, if◌then◌else◌}
use Rattle.std.proofs.lemmas.List.Elements.{Contains-append_left, Contains-append_right}
use Rattle.std.proofs.lemmas.List.Elements.{Contains-append_cases}
use Rattle.std.proofs.lemmas.Option.{none-some, same_Some}
use Rattle.std.specs.List.{Contains, list_any, range_with_len}
use Rattle.exchange_model.specs.declared.block.Block.{Block}
use Rattle.exchange_model.specs.declared.exchange.Exchange.{Exchange}
use Rattle.exchange_model.specs.declared.expr.Expr.{Expr}
use Rattle.exchange_model.specs.declared.signal.SignalKind.{SignalKind}
use Rattle.exchange_model.specs.declared.signal.SignalKind.TheVariants.{Buffered, Direct, Combined}
use Rattle.exchange_model.specs.declared.signal.SignalKind.TheVariants.{Outside}
use Rattle.exchange_model.specs.declared.stmt.Receiver.{Receiver}
use Rattle.exchange_model.specs.declared.stmt.Receiver.TheVariants as receiver
use Rattle.exchange_model.specs.declared.stmt.Stmt.{Stmt}
use Rattle.exchange_model.specs.declared.stmt.StmtKind.{out-StmtKind}
use Rattle.exchange_model.specs.declared.stmt.When.{When, out-When}
use Rattle.exchange_model.specs.Kept.{is_enter}
use Rattle.exchange_model.specs.declared.stmt.StmtKind.TheOpen as stmt
use Rattle.std.specs.Option.{option_map_or}
use Rattle.plex_num.proofs.Members.{none_in, first_or_later, first_is, later_is}
use Rattle.source_meaning.specs.Config.{is_receiver}
use Rattle.source_meaning.specs.Named.{Layer}
use Rattle.source_meaning.specs.Rests.{first_point}
use Rattle.flow_points.specs.declared.fact.Value.TheVariants.{Any}
use Rattle.flow_points.specs.declared.flow.Source.TheVariants.{Is}
use Rattle.flow_points.specs.declared.flow.Passing.{Passing}
use Rattle.flow_points.specs.declared.flow.Passing.TheVariants.{Kept, Sets, Takes, Retrieves}
use Rattle.flow_points.specs.declared.flow.Passing.TheVariants.{Passes}
use Rattle.flow_points.specs.Places.{Place, label_point, enter_point, receives, MayReceive}
use Rattle.flow_points.specs.Sources.{expr_source}
use Rattle.flow_points.specs.Flows.{GoesAlong, Enters, Chooses, passed, SendLeads, Leads}
use Rattle.flow_table.specs.declared.way.Way.{Way}
use Rattle.flow_table.specs.Ways.{WayLeads, WaysLead, AreWays, listed, to_points, to_next}
use Rattle.flow_table.specs.Ways.{receiving, receivers_of, enters_in, to_enters, bare_points}
use Rattle.flow_table.specs.Ways.{begun_points, choice_points, is_bare, send_ways, layer_ways}
use Rattle.flow_table.specs.Ways.{ways_of}

-- lists

in_listed : (o : Option ℕ) (q : ℕ) → Contains (listed o) q → o ≡ Some q
in_listed None q c = absurd (none_in q c)
in_listed (Some r) q c = ⊎_elim (λ is. ap Some is) (λ none. absurd (none_in q none)) (first_or_later r q [] c)

listed_in : (o : Option ℕ) (q : ℕ) → o ≡ Some q → Contains (listed o) q
listed_in o q is = subst (λ p. Contains (listed p) q) (sym is) (first_is q [])

-- which blocks receive a signal

receiving_in : (x : Exchange) (signal : ℕ) (bs : List ℕ) (b : ℕ) → Contains bs b → receives x signal b ≡ true → Contains (receiving x signal bs) b
receiving_in x signal [] b c is = absurd (none_in b c)
receiving_in x signal (d ∷ bs) b c is = by (receives x signal d) refl (first_or_later d b bs c) (λ at. receiving_in x signal bs b at is)
  where
    by : (t : Bool) → receives x signal d ≡ t → (d ≡ b) ⊎ Contains bs b
        → (Contains bs b → Contains (receiving x signal bs) b)
        → Contains (if t then d ∷ receiving x signal bs else receiving x signal bs) b
    by true so (inl e) more = subst (λ n. Contains (n ∷ receiving x signal bs) b) (sym e) (first_is b (receiving x signal bs))
    by true so (inr at) more = later_is d b (receiving x signal bs) (more at)
    by false so (inl e) more = absurd (let clash : true ≡ false = sym is ∙ ap (receives x signal) (sym e) ∙ so in cc)
    by false so (inr at) more = more at

in_receiving : (x : Exchange) (signal : ℕ) (bs : List ℕ) (b : ℕ) → Contains (receiving x signal bs) b → receives x signal b ≡ true
in_receiving x signal [] b c = absurd (none_in b c)
in_receiving x signal (d ∷ bs) b c = by (receives x signal d) refl c (λ at. in_receiving x signal bs b at)
  where
    by : (t : Bool) → receives x signal d ≡ t → Contains
        (if t then d ∷ receiving x signal bs else receiving x signal bs) b
        → (Contains (receiving x signal bs) b → receives x signal b ≡ true) → receives x signal b ≡ true
    by true so at more = ⊎_elim (λ e. subst (λ n. receives x signal n ≡ true) e so) more (first_or_later d b (receiving x signal bs) at)
    by false so at more = more at

range_has : (a n b : ℕ) → b < n → Contains (range_with_len a n) (a + b)
range_has a zero b lt = absurd (omega arith)
range_has a (suc n) zero lt = (let e : a ≡ a + 0 = omega arith in subst (λ m. Contains (a ∷ range_with_len (a + 1) n) m)
    e (first_is a (range_with_len (a + 1) n)))
range_has a (suc n) (suc b) lt = (let e : a + 1 + b ≡ a
    + suc b = omega arith in subst (λ m. Contains (a ∷ range_with_len (a + 1) n) m) e
    (later_is a (a + 1 + b) (range_with_len (a + 1) n) (range_has (a + 1) n b (omega arith))))

-- a block that receives is there
got_below : (blocks : List Block) (b : ℕ) (k : Block) → slice_get blocks b ≡ Some k → b < length blocks
got_below [] b k there = absurd (none-some k there)
got_below (d ∷ blocks) zero k there = omega arith
got_below (d ∷ blocks) (suc b) k there = (let lt = got_below blocks b k there in omega arith)

receives_below : (x : Exchange) (signal b : ℕ) → receives x signal b ≡ true → b < length x.blocks
receives_below x signal b is = by (slice_get x.blocks b) refl is
  where
    by : (o : Option Block) → slice_get x.blocks b ≡ o → option_map_or (is_receiver signal) o false ≡ true → b < length x.blocks
    by None there so = absurd (let clash : false ≡ true = so in cc)
    by (Some k) there so = got_below x.blocks b k there

may_receive : (x : Exchange) (signal : ℕ) (to : Option Receiver) (b : ℕ) → Contains (receivers_of x signal to) b → MayReceive x signal to b
may_receive x signal None b c = absurd (none_in b c)
may_receive x signal (Some (receiver.Block named)) b c = ⊎_elim (λ is. sym is) (λ none. absurd (none_in b none)) (first_or_later named b [] c)
may_receive x signal (Some (receiver.Held holder)) b c = in_receiving x signal (range_with_len 0 (length x.blocks)) b c

receives_may : (x : Exchange) (signal : ℕ) (to : Option Receiver) (b : ℕ) → MayReceive x signal to b → Contains (receivers_of x signal to) b
receives_may x signal None b m = absurd m
receives_may x signal (Some (receiver.Block named)) b m = subst (λ n. Contains (n ∷ []) b) m (first_is b [])
receives_may x signal (Some (receiver.Held holder)) b m =
    let at : Contains (range_with_len 0 (length x.blocks))
    b = (let e : 0 + b ≡ b = omega arith in subst (λ n. Contains (range_with_len 0 (length x.blocks)) n) e
    (range_has 0 (length x.blocks) b (receives_below x signal b m))) in
    receiving_in x signal (range_with_len 0 (length x.blocks)) b at m

-- an ENTER in one of these blocks
record EntersIn (x : Exchange) (signal : ℕ) (bs : List ℕ) (q : ℕ) : Type 0 where
  receiver : ℕ
  one : Contains bs receiver
  point : enter_point x receiver signal ≡ Some q

in_enters : (x : Exchange) (signal : ℕ) (bs : List ℕ) (q : ℕ) → Contains (enters_in x signal bs) q → EntersIn x signal bs q
in_enters x signal [] q c = absurd (none_in q c)
in_enters x signal (b ∷ bs) q c =
    ⊎_elim
    (λ here. record { receiver = b; one = first_is b bs; point = in_listed (enter_point x b signal) q here })
    (λ later. let e = in_enters x signal bs q later in record { receiver = e.receiver; one = later_is b e.receiver bs e.one; point = e.point })
    (Contains-append_cases (listed (enter_point x b signal)) (enters_in x signal bs) q c)

enters_has : (x : Exchange) (signal : ℕ) (bs : List ℕ) (b q : ℕ) → Contains bs b → enter_point x b signal ≡ Some q → Contains (enters_in x signal bs) q
enters_has x signal [] b q c is = absurd (none_in b c)
enters_has x signal (d ∷ bs) b q c is =
    ⊎_elim
    (λ e. Contains-append_left (listed (enter_point x d signal)) (enters_in x signal bs) q
    (listed_in (enter_point x d signal) q (ap (λ n. enter_point x n signal) e ∙ is)))
    (λ later. Contains-append_right (listed (enter_point x d signal)) (enters_in x signal bs) q (enters_has x signal bs b q later is))
    (first_or_later d b bs c)

-- the choices of a CASE

-- a list that leads to a statement of its own leads there whatever comes after it, and one that
-- does not leads to what comes after it

first_kept : (list : List Stmt) (end : Option ℕ) (q : ℕ) → first_point list None ≡ Some q → first_point list end ≡ Some q
first_kept [] end q is = absurd (none-some q is)
first_kept (s ∷ rest) end q is = by (is_enter (out-StmtKind s.kind)) is (λ h. first_kept rest end q h)
  where
    by : (t : Bool) → (if t then first_point rest None else Some s.point) ≡ Some q
        → (first_point rest None ≡ Some q → first_point rest end ≡ Some q)
        → (if t then first_point rest end else Some s.point) ≡ Some q
    by true h more = more h
    by false h more = h

first_past : (list : List Stmt) (end : Option ℕ) → first_point list None ≡ None → first_point list end ≡ end
first_past [] end is = refl
first_past (s ∷ rest) end is = by (is_enter (out-StmtKind s.kind)) is (λ h. first_past rest end h)
  where
    by : (t : Bool) → (if t then first_point rest None else Some s.point) ≡ None
        → (first_point rest None ≡ None → first_point rest end ≡ end)
        → (if t then first_point rest end else Some s.point) ≡ end
    by true h more = more h
    by false h more = absurd (none-some s.point (sym h))

lacks_none : (o : Option ℕ) → is_none o ≡ true → o ≡ None
lacks_none None is = refl
lacks_none (Some q) is = absurd (let clash : false ≡ true = is in cc)

any_bare : (whens : List When) → list_any is_bare whens ≡ true → (w : When) × Contains whens w × (is_bare w ≡ true)
any_bare [] e = absurd (let clash : false ≡ true = e in cc)
any_bare (w ∷ ws) e = by (is_bare w) refl e (λ more. any_bare ws more)
  where
    by : (t : Bool) → is_bare w ≡ t → (t || list_any is_bare ws) ≡ true
        → (list_any is_bare ws ≡ true → (v : When) × Contains ws v × (is_bare v ≡ true))
        → (v : When) × Contains (w ∷ ws) v × (is_bare v ≡ true)
    by true is h more = (w, first_is w ws, is)
    by false is h more = (let m = more h in (m.0, later_is w m.0 ws m.1, m.2))

bare_any : (whens : List When) (w : When) → Contains whens w → is_bare w ≡ true → list_any is_bare whens ≡ true
bare_any [] w c is = absurd (none_in w c)
bare_any (v ∷ ws) w c is = by (is_bare v) refl (first_or_later v w ws c) (λ later. bare_any ws w later is)
  where
    by : (t : Bool) → is_bare v ≡ t → (v ≡ w) ⊎ Contains ws w → (Contains ws w → list_any is_bare ws ≡ true) → (t || list_any is_bare ws) ≡ true
    by true so h more = refl
    by false so (inl e) more = absurd (let clash : false ≡ true = sym so ∙ ap is_bare e ∙ is in cc)
    by false so (inr later) more = more later

in_begun : (whens : List When) (next : Option ℕ) (q : ℕ) (how : Passing) → how ≡ Kept → Contains (begun_points whens) q → Chooses whens next q how
in_begun [] next q how is c = absurd (none_in q c)
in_begun (w ∷ ws) next q how is c =
    ⊎_elim
    (λ here. record {
      choice = w;
      one = first_is w ws;
      goes = record {
        ends = first_kept (out-When w).body next q
            (in_listed (first_point (out-When w).body None) q here);
        is = is;
      };
    })
    (λ later. let e = in_begun ws next q how is later in record { choice = e.choice; one = later_is w e.choice ws e.one; goes = e.goes })
    (Contains-append_cases (listed (first_point (out-When w).body None)) (begun_points ws) q c)

in_bare : (whens : List When) (next : Option ℕ) (q : ℕ) (how : Passing) → how ≡ Kept → Contains (bare_points whens next) q → Chooses whens next q how
in_bare whens next q how is c = by (list_any is_bare whens) refl c
  where
    by : (t : Bool) → list_any is_bare whens ≡ t → Contains (if t then listed next else []) q → Chooses whens next q how
    by true some d =
        let h = any_bare whens some in
        record {
          choice = h.0;
          one = h.1;
          goes = record {
            ends = first_past (out-When h.0).body next (lacks_none (first_point (out-When h.0).body None) h.2)
                ∙ in_listed next q d;
            is = is;
          };
        }
    by false none d = absurd (none_in q d)

in_choices : (whens : List When) (next : Option ℕ) (q : ℕ) (how : Passing) → how ≡ Kept → Contains (choice_points whens next) q → Chooses whens next q how
in_choices whens next q how is c = ⊎_elim (in_begun whens next q how is) (in_bare whens next q how is)
    (Contains-append_cases (begun_points whens) (bare_points whens next) q c)

begun_has : (whens : List When) (w : When) (q : ℕ) → Contains whens w → first_point (out-When w).body None ≡ Some q → Contains (begun_points whens) q
begun_has [] w q c is = absurd (none_in w c)
begun_has (v ∷ ws) w q c is =
    ⊎_elim
    (λ e. Contains-append_left (listed (first_point (out-When v).body None)) (begun_points ws) q
    (listed_in (first_point (out-When v).body None) q (ap (λ u. first_point (out-When u).body None) e ∙ is)))
    (λ later. Contains-append_right (listed (first_point (out-When v).body None)) (begun_points ws) q (begun_has ws w q later is))
    (first_or_later v w ws c)

choices_has : (whens : List When) (next : Option ℕ) (w : When) (q : ℕ) → Contains whens w
    → first_point (out-When w).body next ≡ Some q → Contains (choice_points whens next) q
choices_has whens next w q c is = by (first_point (out-When w).body None) refl
  where
    begun : (r : ℕ) → first_point (out-When w).body None ≡ Some r → r ≡ q
    begun r at = same_Some r q (sym (first_kept (out-When w).body next r at) ∙ is)

    by : (o : Option ℕ) → first_point (out-When w).body None ≡ o → Contains (choice_points whens next) q
    by (Some r) at = Contains-append_left (begun_points whens) (bare_points whens next) q (begun_has whens w q c (at ∙ ap Some (begun r at)))
    by None at =
        let any = bare_any whens w c (ap is_none at) in
        let ends : next ≡ Some q = sym (first_past (out-When w).body next at) ∙ is in
        Contains-append_right (begun_points whens) (bare_points whens next) q
        (subst (λ t. Contains (if t then listed next else []) q) (sym any) (listed_in next q ends))

module _ (x : Exchange) (q : ℕ) (how : Passing) where
  -- one way, and two

  of_one : (w : Way) → WaysLead x (w ∷ []) q how → WayLeads x w q how
  of_one w h = ⊎_elim (λ is. subst (λ v. WayLeads x v q how) (sym is) h.leads) (λ none. absurd (none_in h.way none)) (first_or_later w h.way [] h.one)

  of_two : (w v : Way) → WaysLead x (w ∷ v ∷ []) q how → WayLeads x w q how ⊎ WayLeads x v q how
  of_two w v h =
      ⊎_elim
      (λ is. inl (subst (λ u. WayLeads x u q how) (sym is) h.leads))
      (λ later. inr (of_one v (record { way = h.way; one = later; leads = h.leads })))
      (first_or_later w h.way (v ∷ []) h.one)

  the_first : (w : Way) (ws : List Way) → WayLeads x w q how → WaysLead x (w ∷ ws) q how
  the_first w ws h = record { way = w; one = first_is w ws; leads = h }

  the_second : (w v : Way) (ws : List Way) → WayLeads x v q how → WaysLead x (w ∷ v ∷ ws) q how
  the_second w v ws h = record { way = v; one = later_is w v (v ∷ ws) (first_is v ws); leads = h }

  -- to a point

  goes_by : (made : Passing) (to : Option ℕ) → WayLeads x (to_next made to) q how → GoesAlong to made q how
  goes_by made to h = record { ends = in_listed to q h.end; is = h.is }

  by_goes : (made : Passing) (to : Option ℕ) → GoesAlong to made q how → WayLeads x (to_next made to) q how
  by_goes made to g = record { end = listed_in to q g.ends; is = g.is }

  -- to two points

  both_by : (made : Passing) (a b : Option ℕ) → WayLeads x (to_points made (listed a ++ listed b)) q how → GoesAlong a made q how ⊎ GoesAlong b made q how
  both_by made a b h =
      ⊎_elim
      (λ c. inl (record { ends = in_listed a q c; is = h.is }))
      (λ c. inr (record { ends = in_listed b q c; is = h.is }))
      (Contains-append_cases (listed a) (listed b) q h.end)

  by_both : (made : Passing) (a b : Option ℕ) → GoesAlong a made q how ⊎ GoesAlong b made q how → WayLeads x (to_points made (listed a ++ listed b)) q how
  by_both made a b (inl g) = record { end = Contains-append_left (listed a) (listed b) q (listed_in a q g.ends); is = g.is }
  by_both made a b (inr g) = record { end = Contains-append_right (listed a) (listed b) q (listed_in b q g.ends); is = g.is }

  -- to ENTERs

  enters_by : (signal : ℕ) (to : Option Receiver) (made : Passing) → WayLeads x (to_enters x signal to made) q how → Enters x signal to made q how
  enters_by signal to made h =
      let e = in_enters x signal (receivers_of x signal to) q h.end in
      record { receiver = e.receiver; receives = may_receive x signal to e.receiver e.one; goes = record { ends = e.point; is = h.is } }

  by_enters : (signal : ℕ) (to : Option Receiver) (made : Passing) → Enters x signal to made q how → WayLeads x (to_enters x signal to made) q how
  by_enters signal to made e = record {
    end = enters_has x signal (receivers_of x signal to) e.receiver q
        (receives_may x signal to e.receiver e.receives) e.goes.ends;
    is = e.goes.is;
  }

  -- to choices

  chooses_by : (whens : List When) (next other : Option ℕ)
      → WayLeads x (to_points Kept (choice_points whens next ++ listed other)) q how
      → Chooses whens next q how ⊎ GoesAlong other Kept q how
  chooses_by whens next other h =
      ⊎_elim
      (λ c. inl (in_choices whens next q how h.is c))
      (λ c. inr (record { ends = in_listed other q c; is = h.is }))
      (Contains-append_cases (choice_points whens next) (listed other) q h.end)

  by_chooses : (whens : List When) (next other : Option ℕ) → Chooses whens next q how ⊎ GoesAlong other Kept q how
      → WayLeads x (to_points Kept (choice_points whens next ++ listed other)) q how
  by_chooses whens next other (inl g) = record {
    end = Contains-append_left (choice_points whens next) (listed other) q
        (choices_has whens next g.choice q g.one g.goes.ends);
    is = g.goes.is;
  }
  by_chooses whens next other (inr g) = record { end = Contains-append_right (choice_points whens next) (listed other) q (listed_in other q g.ends); is = g.is }

  none_lead : WaysLead x [] q how → ⊥
  none_lead h = none_in h.way h.one

  -- each kind of statement

  send_by : (o : Option SignalKind) (next : Option ℕ) (signal : ℕ) (to : Option Receiver) (values : List Expr)
      → WaysLead x (send_ways x o next signal to values) q how → SendLeads x o next signal to values q how
  send_by (Some (Buffered name level count)) next signal to values h = goes_by Kept next (of_one _ h)
  send_by (Some (Direct name count)) next signal to values h = enters_by signal to _ (of_one _ h)
  send_by (Some (Combined name count answer)) next signal to values h =
      ⊎_elim (λ e. inl (enters_by signal to _ e)) (λ g. inr (goes_by Kept next g)) (of_two _ _ h)
  send_by (Some (Outside name count)) next signal to values h = goes_by Kept next (of_one _ h)
  send_by _ next signal to values h = none_lead h

  by_send : (o : Option SignalKind) (next : Option ℕ) (signal : ℕ) (to : Option Receiver) (values : List Expr)
      → SendLeads x o next signal to values q how → WaysLead x (send_ways x o next signal to values) q how
  by_send (Some (Buffered name level count)) next signal to values h = the_first _ [] (by_goes Kept next h)
  by_send (Some (Direct name count)) next signal to values h = the_first _ [] (by_enters signal to _ h)
  by_send (Some (Combined name count answer)) next signal to values (inl e) = the_first _ _ (by_enters signal to _ e)
  by_send (Some (Combined name count answer)) next signal to values (inr g) = the_second _ _ [] (by_goes Kept next g)
  by_send (Some (Outside name count)) next signal to values h = the_first _ [] (by_goes Kept next h)
  by_send _ next signal to values h = absurd h

  leads_by : (b p : ℕ) (next : Option ℕ) (l : Layer) → WaysLead x (layer_ways x b p next l) q how → Leads x b p next l q how
  leads_by b p next (stmt.Enter signal temps) h = goes_by (Takes temps) next (of_one _ h)
  leads_by b p next (stmt.SetTemp temp e) h = goes_by (Sets temp (expr_source e)) next (of_one _ h)
  leads_by b p next (stmt.SetVariable variable e) h = goes_by Kept next (of_one _ h)
  leads_by b p next (stmt.SetField file field pointer e) h = goes_by Kept next (of_one _ h)
  leads_by b p next (stmt.Goto label) h = goes_by Kept (label_point x b label) (of_one _ h)
  leads_by b p next (stmt.IfGoto cond label) h = both_by Kept (label_point x b label) next (of_one _ h)
  leads_by b p next (stmt.If cond yes_part no_part) h = both_by Kept (first_point yes_part next) (first_point no_part next) (of_one _ h)
  leads_by b p next (stmt.Case e whens otherwise) h = chooses_by whens next (first_point otherwise next) (of_one _ h)
  leads_by b p next (stmt.On temp from upto body) h = ⊎_elim
      (λ g. inl (goes_by (Sets temp (Is Any)) (first_point body (Some p)) g)) (λ g. inr (goes_by Kept next g))
      (of_two _ _ h)
  leads_by b p next (stmt.ForFirst temp file field rel e label) h = ⊎_elim
      (λ g. inl (goes_by (Sets temp (Is Any)) (label_point x b label) g)) (λ g. inr (goes_by Kept next g))
      (of_two _ _ h)
  leads_by b p next (stmt.Send signal to values fresh) h = send_by (slice_get x.signals signal) next signal to values h
  leads_by b p next (stmt.Retrieve answer temps) h = goes_by (Retrieves temps) next (of_one _ h)
  leads_by b p next (stmt.Return answer values) h = (let w = of_one _ h in record { retrieve = w.end; is = w.is })
  leads_by b p next (stmt.Transfer signal to) h = enters_by signal to (Passes (passed x b signal)) (of_one _ h)
  leads_by b p next (stmt.Seize temp file label) h = ⊎_elim (λ g. inl (goes_by (Sets temp (Is Any)) next g))
      (λ g. inr (goes_by Kept (label_point x b label) g)) (of_two _ _ h)
  leads_by b p next (stmt.Free temp file) h = goes_by Kept next (of_one _ h)
  leads_by b p next stmt.Exit h = none_lead h
  leads_by b p next stmt.Finish h = none_lead h

  by_leads : (b p : ℕ) (next : Option ℕ) (l : Layer) → Leads x b p next l q how → WaysLead x (layer_ways x b p next l) q how
  by_leads b p next (stmt.Enter signal temps) h = the_first _ [] (by_goes (Takes temps) next h)
  by_leads b p next (stmt.SetTemp temp e) h = the_first _ [] (by_goes (Sets temp (expr_source e)) next h)
  by_leads b p next (stmt.SetVariable variable e) h = the_first _ [] (by_goes Kept next h)
  by_leads b p next (stmt.SetField file field pointer e) h = the_first _ [] (by_goes Kept next h)
  by_leads b p next (stmt.Goto label) h = the_first _ [] (by_goes Kept (label_point x b label) h)
  by_leads b p next (stmt.IfGoto cond label) h = the_first _ [] (by_both Kept (label_point x b label) next h)
  by_leads b p next (stmt.If cond yes_part no_part) h = the_first _ [] (by_both Kept (first_point yes_part next) (first_point no_part next) h)
  by_leads b p next (stmt.Case e whens otherwise) h = the_first _ [] (by_chooses whens next (first_point otherwise next) h)
  by_leads b p next (stmt.On temp from upto body) h = ⊎_elim
      (λ g. the_first _ _ (by_goes (Sets temp (Is Any)) (first_point body (Some p)) g))
      (λ g. the_second _ _ [] (by_goes Kept next g)) h
  by_leads b p next (stmt.ForFirst temp file field rel e label) h = ⊎_elim
      (λ g. the_first _ _ (by_goes (Sets temp (Is Any)) (label_point x b label) g))
      (λ g. the_second _ _ [] (by_goes Kept next g)) h
  by_leads b p next (stmt.Send signal to values fresh) h = by_send (slice_get x.signals signal) next signal to values h
  by_leads b p next (stmt.Retrieve answer temps) h = the_first _ [] (by_goes (Retrieves temps) next h)
  by_leads b p next (stmt.Return answer values) h = the_first _ [] (record { end = h.retrieve; is = h.is })
  by_leads b p next (stmt.Transfer signal to) h = the_first _ [] (by_enters signal to (Passes (passed x b signal)) h)
  by_leads b p next (stmt.Seize temp file label) h = ⊎_elim (λ g. the_first _ _ (by_goes (Sets temp (Is Any)) next g))
      (λ g. the_second _ _ [] (by_goes Kept (label_point x b label) g)) h
  by_leads b p next (stmt.Free temp file) h = the_first _ [] (by_goes Kept next h)
  by_leads b p next stmt.Exit h = absurd h
  by_leads b p next stmt.Finish h = absurd h

pub ways_exact : (x : Exchange) (at : Place) → AreWays x at (ways_of x at)
ways_exact x at = record { exact = λ q how. (leads_by x q how at.block at.point at.next at.layer, by_leads x q how at.block at.point at.next at.layer) }
