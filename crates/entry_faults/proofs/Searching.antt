-- A search goes on, and comes to its end.
use Rattle.std.proofs.Common.{◌≡◌, ◌⊎◌, inl, inr, ⊎_elim, ℕ, zero, suc, ◌+◌, ◌-◌, ◌<◌, ◌≤◌, Bool}
use Rattle.std.proofs.Common.{true, false, List, [], ◌∷◌, ◌++◌, length, reverse, take, Some, None}
use Rattle.std.proofs.Common.{slice_set, refl, sym, ap, ◌∙◌, subst, arith, append-nil}
use Rattle.std.specs.Prelude.{◌↔◌}
use Rattle.std.specs.List.{Contains}
use Rattle.std.proofs.lemmas.Bool.{cases_lt}
use Rattle.std.proofs.lemmas.List.{reverse-append}
use Rattle.plex_num.proofs.Members.{none_in}
use Rattle.flow_table.specs.declared.row.FlowTable.{FlowTable}
use Rattle.entry_faults.specs.declared.frame.Frame.{Frame}
use Rattle.entry_faults.specs.declared.mark.Mark.{Mark}
use Rattle.entry_faults.specs.declared.mark.Mark.TheVariants.{New, Open, Closed}
use Rattle.entry_faults.specs.Marks.{is_in, mark_at, is_closed}
use Rattle.entry_faults.specs.Circles.{LeadTo, ways_at, Leads, Route, One, More, Circles}
use Rattle.entry_faults.specs.Frames.{first, Begins, Stops, Moves}
use Rattle.entry_faults.specs.Searches.{IsOn, IsFrame, LedFrom, IsPath, Sound, Opens, NoneNew}
use Rattle.entry_faults.specs.Searches.{GoesOn, IsOver}
use Rattle.entry_faults.proofs.Marking.{closed_clash, two_marks, IsMarked, marked, AfterSet, it}
use Rattle.entry_faults.proofs.Marking.{another, after_set, weight_set, fresh, IsFresh, seen_new}
use Rattle.entry_faults.proofs.Marking.{not_there, is_fresh, in_within}
use Rattle.entry_faults.proofs.Passing.{first_none, first_some}

-- routes

closed_far : (t : FlowTable) (r : List Bool) (m : List Mark) (stack : List Frame) → Sound t r m stack → (p q : ℕ)
    → mark_at r m p ≡ Closed → Route t r p q → mark_at r m q ≡ Closed
closed_far t r m stack s p q closed (One l) = s.closed p q closed l
closed_far t r m stack s p q closed (More l rest) = closed_far t r m stack s _ q (s.closed p _ closed l) rest

push_route : (t : FlowTable) (r : List Bool) (p q o : ℕ) → Route t r p q → Leads t r q o → Route t r p o
push_route t r p q o (One l) last = More l (One last)
push_route t r p q o (More l rest) last = More l (push_route t r _ q o rest last)

leaves : (t : FlowTable) (r : List Bool) (p q : ℕ) → Route t r p q → is_in r p ≡ true
leaves t r p q (One l) = l.from
leaves t r p q (More l rest) = l.from

-- the points that a search goes on from

path_open : (t : FlowTable) (r : List Bool) (m : List Mark) (stack : List Frame) (p : ℕ) → IsPath t r m stack → IsOn stack p → mark_at r m p ≡ Open
path_open t r m [] p h on = absurd on
path_open t r m (f ∷ rest) p h (inl e) = subst (λ n. mark_at r m n ≡ Open) e h.0.frame.is_open
path_open t r m (f ∷ rest) p h (inr on) = path_open t r m rest p h.1 on

path_route : (t : FlowTable) (r : List Bool) (m : List Mark) (f : Frame) (rest : List Frame) (q : ℕ)
    → IsPath t r m (f ∷ rest) → IsOn (f ∷ rest) q → (q ≡ f.point) ⊎ Route t r q f.point
path_route t r m f rest q h (inl e) = inl (sym e)
path_route t r m f [] q h (inr on) = absurd on
path_route t r m f (g ∷ rest) q h (inr on) =
    inr
    (⊎_elim
    (λ e. One (subst (λ n. Leads t r n f.point) (sym e) h.0.led))
    (λ w. push_route t r q g.point f.point w h.0.led)
    (path_route t r m g rest q h.1 on))

path_kept : (t : FlowTable) (r : List Bool) (m n : List Mark) (stack : List Frame)
    → ((q : ℕ) → mark_at r m q ≡ Closed → mark_at r n q ≡ Closed) → ((q : ℕ) → IsOn stack q → mark_at r n q ≡ Open)
    → IsPath t r m stack → IsPath t r n stack
path_kept t r m n [] closed on h = tt
path_kept t r m n (f ∷ rest) closed on h = (
  record {
    frame = record {
      is_open = on f.point (inl refl);
      to = λ q l. ⊎_elim (λ c. inl (closed q c)) inr (h.0.frame.to q l);
      from = h.0.frame.from;
    };
    once = h.0.once;
    led = h.0.led;
  },
  path_kept t r m n rest closed (λ q l. on q (inr l)) h.1,
)

-- back from a point of which all ends are closed

module _ (t : FlowTable) (r : List Bool) (m : List Mark) (f : Frame) (rest : List Frame) (s : Sound t r m (f ∷ rest))
    (ends : (q : ℕ) → Leads t r f.point q → mark_at r m q ≡ Closed) where
  abbrev shut : List Mark
  shut = slice_set m f.point Closed

  here : IsMarked r m f.point Open
  here = marked r m f.point Open s.path.0.frame.is_open refl

  shut_at : (q : ℕ) → AfterSet r m f.point Closed q
  shut_at q = after_set r m f.point Open Closed here q

  shut_closed : (q : ℕ) → mark_at r m q ≡ Closed → mark_at r shut q ≡ Closed
  shut_closed q c = by (shut_at q)
    where
      by : AfterSet r m f.point Closed q → mark_at r shut q ≡ Closed
      by (it e is) = is
      by (another differ is) = is ∙ c

  shut_from : (p q : ℕ) → mark_at r shut p ≡ Closed → Leads t r p q → mark_at r shut q ≡ Closed
  shut_from p q c l = by (shut_at p)
    where
      by : AfterSet r m f.point Closed p → mark_at r shut q ≡ Closed
      by (it e is) = shut_closed q (ends q (subst (λ n. Leads t r n q) e l))
      by (another differ is) = shut_closed q (s.closed p q (sym is ∙ c) l)

  shut_end : (q : ℕ) → Route t r f.point q → mark_at r m q ≡ Closed
  shut_end q (One l) = ends q l
  shut_end q (More l w) = closed_far t r m (f ∷ rest) s _ q (ends _ l) w

  shut_none : (p : ℕ) → mark_at r shut p ≡ Closed → Route t r p p → ⊥
  shut_none p c w = by (shut_at p)
    where
      by : AfterSet r m f.point Closed p → ⊥
      by (it e is) = two_marks (mark_at r m f.point) Open Closed (λ k. (let clash : 1 ≡ 0 = k in omega (arith, clash)))
          s.path.0.frame.is_open (shut_end f.point (subst (λ n. Route t r n n) e w))
      by (another differ is) = s.none p (sym is ∙ c) w

  shut_on : (q : ℕ) → IsOn rest q → mark_at r shut q ≡ Open
  shut_on q on = by (shut_at q)
    where
      by : AfterSet r m f.point Closed q → mark_at r shut q ≡ Open
      by (it e is) = absurd (s.path.0.once (subst (IsOn rest) e on))
      by (another differ is) = is ∙ path_open t r m rest q s.path.1 on

  shut_opened : (p : ℕ) → mark_at r shut p ≡ Open → IsOn rest p
  shut_opened p open_is = by (shut_at p)
    where
      by : AfterSet r m f.point Closed p → IsOn rest p
      by (it e is) = two_marks (mark_at r shut p) Closed Open (λ k. (let clash : 0 ≡ 1 = k in omega (arith, clash))) is open_is
      by (another differ is) = ⊎_elim (λ e. absurd (differ (sym e))) (λ on. on) (s.opened p (sym is ∙ open_is))

  shut_seen : NoneNew r m shut
  shut_seen p old_not is_new = by (shut_at p)
    where
      by : AfterSet r m f.point Closed p → ⊥
      by (it e is) = two_marks (mark_at r shut p) Closed New (λ k. (let clash : 0 ≡ 2 = k in omega (arith, clash))) is is_new
      by (another differ is) = old_not (sym is ∙ is_new)

  pub shuts : GoesOn t r m shut rest
  shuts = record {
    sound = record {
      closed = shut_from;
      none = shut_none;
      path = path_kept t r m shut rest shut_closed shut_on s.path.1;
      opened = shut_opened;
    };
    less = weight_set m f.point Open Closed here.kept (omega arith);
    seen = shut_seen;
  }

-- on to a new point

module _ (t : FlowTable) (r : List Bool) (m : List Mark) (stack : List Frame) (p : ℕ) (g : Frame)
    (s : Sound t r m stack) (led : LedFrom t r stack p) (is_new : mark_at r m p ≡ New) (begins : Begins t p g) where
  abbrev opened : List Mark
  opened = slice_set m p Open

  unseen : IsMarked r m p New
  unseen = marked r m p New is_new refl

  opened_at : (q : ℕ) → AfterSet r m p Open q
  opened_at q = after_set r m p New Open unseen q

  opened_it : mark_at r opened p ≡ Open
  opened_it = by (opened_at p)
    where
      by : AfterSet r m p Open p → mark_at r opened p ≡ Open
      by (it e is) = is
      by (another differ is) = absurd (differ refl)

  opened_closed : (q : ℕ) → mark_at r m q ≡ Closed → mark_at r opened q ≡ Closed
  opened_closed q c = by (opened_at q)
    where
      by : AfterSet r m p Open q → mark_at r opened q ≡ Closed
      by (it e is) = two_marks (mark_at r m q) Closed New (λ k. (let clash : 0 ≡ 2 = k in omega (arith, clash))) c
          (subst (λ n. mark_at r m n ≡ New) (sym e) is_new)
      by (another differ is) = is ∙ c

  was_closed : (q : ℕ) → mark_at r opened q ≡ Closed → mark_at r m q ≡ Closed
  was_closed q c = by (opened_at q)
    where
      by : AfterSet r m p Open q → mark_at r m q ≡ Closed
      by (it e is) = two_marks (mark_at r opened q) Closed Open (λ k. (let clash : 0 ≡ 1 = k in omega (arith, clash))) c is
      by (another differ is) = sym is ∙ c

  opened_on : (q : ℕ) → IsOn stack q → mark_at r opened q ≡ Open
  opened_on q on = by (opened_at q)
    where
      by : AfterSet r m p Open q → mark_at r opened q ≡ Open
      by (it e is) = is
      by (another differ is) = is ∙ path_open t r m stack q s.path on

  opened_once : IsOn stack g.point → ⊥
  opened_once on = two_marks (mark_at r m p) Open New (λ k. (let clash : 1 ≡ 2 = k in omega (arith, clash)))
      (subst (λ n. mark_at r m n ≡ Open) begins.point (path_open t r m stack g.point s.path on)) is_new

  opened_frame : IsFrame t r opened g
  opened_frame = record {
    is_open = subst (λ n. mark_at r opened n ≡ Open) (sym begins.point) opened_it;
    to = λ q l. inr (begins.to q (subst (λ n. LeadTo t (ways_at t n) q) begins.point l.leads));
    from = λ q left. record {
      from = subst (λ n. is_in r n ≡ true) (sym begins.point) unseen.is_reached;
      leads = subst (λ n. LeadTo t (ways_at t n) q) (sym begins.point) (begins.from q left);
    };
  }

  opened_stack : (q : ℕ) → mark_at r opened q ≡ Open → IsOn (g ∷ stack) q
  opened_stack q open_is = by (opened_at q)
    where
      by : AfterSet r m p Open q → IsOn (g ∷ stack) q
      by (it e is) = inl (begins.point ∙ sym e)
      by (another differ is) = inr (s.opened q (sym is ∙ open_is))

  opened_seen : NoneNew r m opened
  opened_seen q old_not new_is = by (opened_at q)
    where
      by : AfterSet r m p Open q → ⊥
      by (it e is) = two_marks (mark_at r opened q) Open New (λ k. (let clash : 1 ≡ 2 = k in omega (arith, clash))) is new_is
      by (another differ is) = old_not (sym is ∙ new_is)

  pub goes_on : GoesOn t r m opened (g ∷ stack)
  goes_on = record {
    sound = record {
      closed = λ a b c l. opened_closed b (s.closed a b (was_closed a c) l);
      none = λ a c w. s.none a (was_closed a c) w;
      path = (
        record {
          frame = opened_frame;
          once = opened_once;
          led = subst (LedFrom t r stack) (sym begins.point) led;
        },
        path_kept t r m opened stack opened_closed opened_on s.path,
      );
      opened = opened_stack;
    };
    less = weight_set m p New Open unseen.kept (omega arith);
    seen = opened_seen;
  }

  pub now_seen : mark_at r opened p ≡ New → ⊥
  now_seen is = two_marks (mark_at r opened p) Open New (λ k. (let clash : 1 ≡ 2 = k in omega (arith, clash))) opened_it is

-- past closed ends

pub moved : (t : FlowTable) (r : List Bool) (m : List Mark) (f g : Frame) (rest : List Frame) → Sound t r m (f ∷ rest)
    → Moves t r m f g → Sound t r m (g ∷ rest)
moved t r m f g rest s h = record {
  closed = s.closed;
  none = s.none;
  path = (
    record {
      frame = record {
        is_open = subst (λ n. mark_at r m n ≡ Open) (sym h.point) s.path.0.frame.is_open;
        to = λ q l. ⊎_elim inl (λ left. h.to q left) (s.path.0.frame.to q (subst (λ n. Leads t r n q) h.point l));
        from = λ q left. subst (λ n. Leads t r n q) (sym h.point) (s.path.0.frame.from q (h.from q left));
      };
      once = λ on. s.path.0.once (subst (IsOn rest) h.point on);
      led = subst (LedFrom t r rest) (sym h.point) s.path.0.led;
    },
    s.path.1,
  );
  opened = λ p is. ⊎_elim (λ e. inl (h.point ∙ e)) inr (s.opened p is);
}

-- one step

nothing_left : (t : FlowTable) (r : List Bool) (m : List Mark) (f g : Frame) (rest : List Frame)
    → Sound t r m (g ∷ rest) → Moves t r m f g → first g.ends.now ≡ None → (q : ℕ) → Leads t r g.point q
    → mark_at r m q ≡ Closed
nothing_left t r m f g rest s h none q l =
    let empty = first_none g.ends.now none in
    let stops : Stops t r m [] g.ways.now = subst (λ es. Stops t r m es g.ways.now) empty h.stops in
    ⊎_elim
    (λ c. c)
    (λ left. ⊎_elim (λ c. absurd (none_in q (subst (λ es. Contains es q) empty c))) (λ k. absurd (stops q k)) left)
    (s.path.0.frame.to q l)

pub step_back : (t : FlowTable) (r : List Bool) (m new : List Mark) (f g : Frame) (rest : List Frame)
    → Sound t r m (f ∷ rest) → Moves t r m f g → first g.ends.now ≡ None → new ≡ slice_set m g.point Closed
    → GoesOn t r m new rest
step_back t r m new f g rest s h none is =
    let k = moved t r m f g rest s h in
    subst (λ n. GoesOn t r m n rest) (sym is) (shuts t r m g rest k (nothing_left t r m f g rest k h none))

pub step_open : (t : FlowTable) (r : List Bool) (m : List Mark) (f g : Frame) (rest : List Frame)
    → Sound t r m (f ∷ rest) → Moves t r m f g → mark_at r m g.point ≡ Open
step_open t r m f g rest s h = (moved t r m f g rest s h).path.0.frame.is_open

first_led : (t : FlowTable) (r : List Bool) (m : List Mark) (f g : Frame) (rest : List Frame) (q : ℕ)
    → Sound t r m (f ∷ rest) → Moves t r m f g → first g.ends.now ≡ Some q → Leads t r g.point q
first_led t r m f g rest q s h some =
    (moved t r m f g rest s h).path.0.frame.from q (inl (first_some t r m g.ends.now g.ways.now q some h.stops).one)

pub reverse_push : {A : Type 0} (xs : List A) (x : A) → reverse (xs ++ x ∷ []) ≡ x ∷ reverse xs
reverse_push xs x = reverse-append xs (x ∷ [])

pub step_on : (t : FlowTable) (r : List Bool) (m new : List Mark) (f g : Frame) (old pushed after : List Frame) (q : ℕ)
    → Sound t r m (f ∷ reverse old) → Moves t r m f g → first g.ends.now ≡ Some q → mark_at r m q ≡ New
    → pushed ≡ old ++ g ∷ [] → Opens t q m new pushed after → GoesOn t r m new (reverse after)
step_on t r m new f g old pushed after q s h some is_new push o =
    let k = moved t r m f g (reverse old) s h in
    let led = first_led t r m f g (reverse old) q s h some in
    let all : reverse after ≡ o.frame ∷ g ∷ reverse old = ap reverse o.stack ∙ reverse_push pushed o.frame
    ∙ ap (λ l. o.frame ∷ l) (ap reverse push ∙ reverse_push old g) in
    subst (λ n. GoesOn t r m n (reverse after)) (sym o.marks)
    (subst (GoesOn t r m (slice_set m q Open)) (sym all)
    (goes_on t r m (g ∷ reverse old) q o.frame k led is_new o.begins))

pub step_round : (t : FlowTable) (r : List Bool) (m : List Mark) (f g : Frame) (rest : List Frame) (q : ℕ)
    → Sound t r m (f ∷ rest) → Moves t r m f g → first g.ends.now ≡ Some q → mark_at r m q ≡ Open → Circles t r
step_round t r m f g rest q s h some is =
    let k = moved t r m f g rest s h in
    let led = first_led t r m f g rest q s h some in
    ⊎_elim
    (λ e. record { point = q; route = One (subst (λ n. Leads t r n q) (sym e) led) })
    (λ w. record { point = q; route = push_route t r q g.point q w led })
    (path_route t r m g rest q k.path (k.opened q is))

pub step_clash : {A : Type 0} (t : FlowTable) (r : List Bool) (m : List Mark) (f g : Frame) (q : ℕ) → Moves t r m f g
    → first g.ends.now ≡ Some q → mark_at r m q ≡ Closed → A
step_clash t r m f g q h some is = absurd (closed_clash (mark_at r m q) is (first_some t r m g.ends.now g.ways.now q some h.stops).other)

-- from a point on

pub record Searching (t : FlowTable) (r : List Bool) (start : ℕ) (old now : List Mark) (stack : List Frame) : Type 0 where
  pub sound : Sound t r now (reverse stack)
  pub start_seen : mark_at r now start ≡ New → ⊥
  pub seen : NoneNew r old now

pub searching_begin : (t : FlowTable) (r : List Bool) (start : ℕ) (old new : List Mark) (before after : List Frame)
    → Sound t r old [] → mark_at r old start ≡ New → before ≡ [] → Opens t start old new before after
    → Searching t r start old new after
searching_begin t r start old new before after s is_new none o =
    let all : reverse after ≡ o.frame ∷ [] = ap reverse o.stack ∙ reverse_push before o.frame ∙ ap (λ (l : List Frame). o.frame ∷ reverse l) none in
    let on = goes_on t r old [] start o.frame s tt is_new o.begins in
    let seen = now_seen t r old [] start o.frame s tt is_new o.begins in
    subst (λ n. Searching t r start old n after) (sym o.marks) (record {
      sound = subst (Sound t r (slice_set old start Open)) (sym all) on.sound;
      start_seen = seen;
      seen = on.seen;
    })

pub searching_more : (t : FlowTable) (r : List Bool) (start : ℕ) (old now new : List Mark) (stack after : List Frame)
    → Searching t r start old now stack → GoesOn t r now new (reverse after) → Searching t r start old new after
searching_more t r start old now new stack after h o = record {
  sound = o.sound;
  start_seen = o.seen start h.start_seen;
  seen = λ p not_new. o.seen p (h.seen p not_new);
}

-- the last point that the search goes on from
pub popped : (t : FlowTable) (r : List Bool) (start : ℕ) (old now : List Mark) (stack rest : List Frame) (f : Frame)
    → stack ≡ rest ++ f ∷ [] → Searching t r start old now stack → Sound t r now (f ∷ reverse rest)
popped t r start old now stack rest f is h = subst (Sound t r now) (ap reverse is ∙ reverse_push rest f) h.sound

-- nothing is taken from a list that is empty
pub popped_none : (stack rest : List Frame) (n : ℕ) → n ≡ 0 → stack ≡ rest ++ [] → rest ≡ take (n - 1) stack → stack ≡ []
popped_none stack rest zero none is taken = is ∙ append-nil rest ∙ taken
popped_none stack rest (suc n) none is taken = absurd (omega (arith, none))

pub searching_end : (t : FlowTable) (r : List Bool) (start : ℕ) (old now : List Mark) (stack : List Frame) → stack ≡ []
    → Searching t r start old now stack → IsOver t r start old now
searching_end t r start old now stack none h = record {
  sound = subst (λ l. Sound t r now (reverse l)) none h.sound;
  start_seen = h.start_seen;
  seen = h.seen;
}

pub not_new : (t : FlowTable) (r : List Bool) (start : ℕ) (m : List Mark) (k : Mark) → Sound t r m []
    → mark_at r m start ≡ k → (k ≡ New → ⊥) → IsOver t r start m m
not_new t r start m k s is other = record { sound = s; start_seen = λ e. other (sym is ∙ e); seen = λ p n. n }

-- all points, the last one first

pub record CirclesGo (t : FlowTable) (r : List Bool) (i : ℕ) (m : List Mark) : Type 0 where
  pub sound : Sound t r m []
  pub seen : (p : ℕ) → p < length r → length r ≤ p + i → mark_at r m p ≡ New → ⊥

pub fresh_sound : (t : FlowTable) (r : List Bool) (m : List Mark) → m ≡ fresh r → Sound t r m []
fresh_sound t r m is = subst (λ n. Sound t r n []) (sym is) (record {
  closed = λ p q c l. absurd (no_lead p c l.from (is_fresh r p));
  none = λ p c w. no_lead p c (leaves t r p p w) (is_fresh r p);
  path = tt;
  opened = λ p o. never p o (is_fresh r p);
})
  where
    no_lead : (p : ℕ) → mark_at r (fresh r) p ≡ Closed → is_in r p ≡ true → IsFresh r p → ⊥
    no_lead p c from (seen_new in_it is_new) = two_marks (mark_at r (fresh r) p) Closed New (λ k. (let clash : 0 ≡ 2 = k in omega (arith, clash))) c is_new
    no_lead p c from (not_there out is_closed) = (let clash : true ≡ false = sym from ∙ out in cc)

    never : (p : ℕ) → mark_at r (fresh r) p ≡ Open → IsFresh r p → ⊥
    never p o (seen_new in_it is_new) = two_marks (mark_at r (fresh r) p) Open New (λ k. (let clash : 1 ≡ 2 = k in omega (arith, clash))) o is_new
    never p o (not_there out is_closed) = two_marks (mark_at r (fresh r) p) Open Closed (λ k. (let clash : 1 ≡ 0 = k in omega (arith, clash))) o is_closed

pub circles_begin : (t : FlowTable) (r : List Bool) (m : List Mark) → m ≡ fresh r → CirclesGo t r 0 m
circles_begin t r m is = record { sound = fresh_sound t r m is; seen = λ p lt all. absurd (omega arith) }

pub circles_more : (t : FlowTable) (r : List Bool) (i start : ℕ) (m new : List Mark) → start + i + 1 ≡ length r
    → IsOver t r start m new → CirclesGo t r i m → CirclesGo t r (i + 1) new
circles_more t r i start m new place o g = record { sound = o.sound; seen = seen }
  where
    seen : (p : ℕ) → p < length r → length r ≤ p + (i + 1) → mark_at r new p ≡ New → ⊥
    seen p lt from is =
        ⊎_elim
        (λ before. (let e : p ≡ start = omega (arith, place, from, before) in o.start_seen (subst (λ n. mark_at r new n ≡ New) e is)))
        (λ later. o.seen p (g.seen p lt later) is)
        (cases_lt (p + i) (length r))

of_mark : (k : Mark) → (k ≡ New) ⊎ (k ≡ Open) ⊎ (k ≡ Closed)
of_mark New = inl refl
of_mark Open = inr (inl refl)
of_mark Closed = inr (inr refl)

pub circles_end : (t : FlowTable) (r : List Bool) (i : ℕ) (m : List Mark) → length r ≤ i → CirclesGo t r i m → (false ≡ true) ↔ Circles t r
circles_end t r i m past g = (λ clash. absurd (let e : false ≡ true = clash in cc), λ c. absurd (never c (of_mark (mark_at r m c.point))))
  where
    never : (c : Circles t r) → (mark_at r m c.point ≡ New) ⊎ (mark_at r m c.point ≡ Open) ⊎ (mark_at r m c.point ≡ Closed) → ⊥
    never c (inl is_new) = (let within = in_within r c.point (leaves t r c.point c.point c.route) in g.seen c.point within (omega (arith, past)) is_new)
    never c (inr (inl is_open)) = g.sound.opened c.point is_open
    never c (inr (inr is_closed)) = g.sound.none c.point is_closed c.route
