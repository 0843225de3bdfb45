-- The choices of a CASE: where no event breaks a rule, their numbers differ.
use Rattle.std.proofs.Common.{◌≡◌, ℕ, ◌≤◌, Bool, false, ◌&&◌, ◌||◌, List, [], ◌∷◌, ◌++◌, length}
use Rattle.std.proofs.Common.{◌+◌, map, refl, sym, ◌∙◌, ap, subst, arith, nat_eq, length-append}
use Rattle.std.specs.List.{AllByRecursion, IsDistinct}
use Rattle.std.proofs.Math.Bool.{or_assoc}
use Rattle.std.proofs.Math.Nat.{max-le}
use Rattle.std.proofs.lemmas.Bool.{eq-eqb, eqb-false, ne_eqb, or_parts}
use Rattle.std.proofs.lemmas.Map.Keys.{IsDistinct-cons}
use Rattle.first_fault.specs.First.{any}
use Rattle.plex_ast.specs.declared.block.Block.{Block as TreeBlock}
use Rattle.plex_ast.specs.declared.stmt.When.{When, out-When}
use Rattle.exchange_model.specs.declared.stmt.When.{When as MWhen, out-When as out-MWhen, roll-When}
use Rattle.exchange_model.specs.declared.stmt.When.{out-roll-When}
use Rattle.exchange_model.specs.Fits.{Scope, InnerFits}
use Rattle.exchange_model.specs.Inside.{most, text_depth, spots, joined}
use Rattle.exchange_model.specs.PartCounts.{when_depth, when_spots}
use Rattle.text_events.specs.Note.{Event}
use Rattle.text_events.specs.Note.{Nothing}
use Rattle.text_events.specs.Note.{Chooses}
use Rattle.text_events.specs.Walk.{OwnWalk, add, each_walk, body_walk, stmt_walk, when_walk}
use Rattle.text_rules.specs.declared.rule.BlockRule.TheVariants as rule
use Rattle.text_rules.specs.Blocks.{chooses}
use Rattle.resolved_block.specs.Names.{Env}
use Rattle.resolved_block.specs.Statements.{in_turn, typed_list, typed_when}
use Rattle.exchange_model.specs.Everywhere.{AllIn}
use Rattle.text_soundness.specs.Shares.{PartsStand}
use Rattle.text_soundness.proofs.BuiltText.{statement_in, statements_in, begin_total, Begin}
use Rattle.text_soundness.proofs.BuiltText.{begin_all, begin_then, begin_add, Sound, sound_front}
use Rattle.text_soundness.proofs.BuiltText.{sound_last}
use Rattle.text_events.proofs.Layers.{when_walk-out}
use Rattle.resolved_block.proofs.Turns.{typed_when-at}
use Rattle.text_soundness.proofs.BuiltLists.{text, AreMade}

pub any_append : {A : Type 0} (test : A → Bool) (xs ys : List A) → any test (xs ++ ys) ≡ (any test xs || any test ys)
any_append test [] ys = refl
any_append test (x ∷ xs) ys = rw (any_append test xs ys) (sym (or_assoc (test x) (any test xs) (any test ys)))

pub any_front : (test : Event → Bool) (a b : List Event) → Begin a b → any test b ≡ false → any test a ≡ false
any_front test a b x h = (or_parts (any test a) (any test x.more) (sym (ap (any test) x.same ∙ any_append test a x.more) ∙ h)).0

-- what no event before says, the last one does not say
last_says : (test : Event → Bool) (out : List Event) (e : Event) → any test (out ++ e ∷ []) ≡ false → test e ≡ false
last_says test out e h = (or_parts (test e) false (or_parts (any test out) (test e || false) (sym (any_append test out (e ∷ [])) ∙ h)).1).0

-- another number of the same CASE
other_number : (o n m : ℕ) → (nat_eq o o && nat_eq n m) ≡ false → nat_eq m n ≡ false
other_number o n m h = ne_eqb m n (λ same. eqb-false n m (ap (λ t. t && nat_eq n m) (sym (eq-eqb o o refl)) ∙ h) (sym same))

module _ (s : Scope) (whole : List Event) (blocks : List TreeBlock) where
  -- what the choices keep, where no event of theirs breaks a rule
  pub record WhensSound (o : ℕ) (out : List Event) (ws : List MWhen) : Type 0 where
    pub parts : AllByRecursion (λ w. AllIn (PartsStand s) (out-MWhen w).body) ws
    pub fits : AllByRecursion (λ w. InnerFits s (out-MWhen w).body) ws
    pub fresh : AllByRecursion (λ n. any (chooses o n) out ≡ false) (map (λ w. (out-MWhen w).number) ws)
    pub once : IsDistinct nat_eq (map (λ w. (out-MWhen w).number) ws)

  pub record WhensMade (n : ℕ) (walks : List OwnWalk) (ws : List MWhen) : Type 0 where
    pub depth : most (map when_depth ws) ≤ n
    pub begins : (o : ℕ) (out : List Event) → Begin out (each_walk walks o out)
    pub told : (o : ℕ) (out : List Event) → statements_in out + length (joined (map when_spots ws)) ≤ statements_in (each_walk walks o out)
    pub sound : (o : ℕ) (out : List Event) → Sound (text s whole blocks) (each_walk walks o out) → WhensSound o out ws

  -- one choice
  pub record WhenSound (o : ℕ) (out next : List Event) (w : MWhen) : Type 0 where
    pub parts : AllIn (PartsStand s) (out-MWhen w).body
    pub fits : InnerFits s (out-MWhen w).body
    pub fresh : any (chooses o (out-MWhen w).number) out ≡ false
    pub line : ℕ
    pub chosen : Begin (add line (Chooses o (out-MWhen w).number) out) next

  pub record WhenMade (n : ℕ) (walk : OwnWalk) (w : MWhen) : Type 0 where
    pub depth : when_depth w ≤ n
    pub begins : (o : ℕ) (out : List Event) → Begin out (walk o out)
    pub told : (o : ℕ) (out : List Event) → statements_in out + length (when_spots w) ≤ statements_in (walk o out)
    pub sound : (o : ℕ) (out : List Event) → Sound (text s whole blocks) (walk o out) → WhenSound o out (walk o out) w

  others : (o : ℕ) (out next : List Event) (w : MWhen) (ns : List ℕ) → WhenSound o out next w
      → AllByRecursion (λ n. any (chooses o n) next ≡ false) ns
      → AllByRecursion (λ n. any (chooses o n) out ≡ false) ns
      × AllByRecursion (λ n. nat_eq (out-MWhen w).number n ≡ false) ns
  others o out next w [] here all = (tt, tt)
  others o out next w (n ∷ ns) here all =
      let number = (out-MWhen w).number in
      let chosen = any_front (chooses o n) (add here.line (Chooses o number) out) next here.chosen all.0 in
      let more = others o out next w ns here all.1 in (
        (
          any_front (chooses o n) out (add here.line (Chooses o number) out)
              (begin_add out out here.line (Chooses o number) (begin_all out)) chosen,
          more.0,
        ),
        (
          other_number o n number (last_says (chooses o n) out (record { line = here.line; note = Chooses o number })
              chosen),
          more.1,
        ),
      )

  pub whens_none : (n : ℕ) → WhensMade n [] []
  unfolding IsDistinct
  whens_none n = record {
    depth = omega arith;
    begins = λ o out. begin_all out;
    told = λ o out. omega arith;
    sound = λ o out sound. record { parts = tt; fits = tt; fresh = tt; once = tt };
  }

  pub whens_more : (n : ℕ) (walk : OwnWalk) (walks : List OwnWalk) (w : MWhen) (ws : List MWhen) → WhenMade n walk w
      → WhensMade n walks ws → WhensMade n (walk ∷ walks) (w ∷ ws)
  whens_more n walk walks w ws x rest = record {
    depth = max-le x.depth rest.depth;
    begins = λ o out. begin_then out (walk o out) _ (x.begins o out) (rest.begins o (walk o out));
    told = λ o out. omega (arith, length-append (when_spots w) (joined (map when_spots ws)), x.told o out, rest.told o (walk o out));
    sound = λ o out sound.
        let here = x.sound o out (sound_front (text s whole blocks) (walk o out) _ (rest.begins o (walk o out)) sound) in
        let more = rest.sound o (walk o out) sound in
        let apart = others o out (walk o out) w (map (λ w. (out-MWhen w).number) ws) here more.fresh in
        record {
          parts = (here.parts, more.parts);
          fits = (here.fits, more.fits);
          fresh = (here.fresh, apart.0);
          once = IsDistinct-cons nat_eq _ _ apart.1 more.once;
        };
  }

  module _ (env : Env) where
    when_made : (n : ℕ) (w : When) (p : ℕ) → AreMade s whole blocks env n (out-When w).body → WhenMade n (when_walk w) (typed_when env w p).0
    when_made n w p body =
        let number = (out-When w).number in
        let list = typed_list env (out-When w).body p in
        let made = body p in
        let rolled = roll-When (record { number = number.value; body = list.0 }) in
        let is = out-roll-When (record { number = number.value; body = list.0 }) in
        let begun = λ (o : ℕ) (out : List Event). add number.line (Chooses o number.value) out in
        subst (λ (t : MWhen × ℕ). WhenMade n (when_walk w) t.0) (sym (typed_when-at env w p)) (record {
          depth = subst (λ l. text_depth l.body ≤ n) (sym is) made.depth;
          begins = λ o out. subst (Begin out) (sym (when_walk-out w o out))
              (begin_then out (begun o out) _ (begin_add out out number.line (Chooses o number.value) (begin_all out))
              (made.begins Nothing (begun o out)));
          told = λ o out. subst (λ l. statements_in out + length (spots l.body) ≤ statements_in (when_walk w o out))
              (sym is) (subst (λ e. statements_in out + length (spots list.0) ≤ statements_in e)
              (sym (when_walk-out w o out))
              (omega (
                arith,
                begin_total statement_in out (begun o out)
                    (begin_add out out number.line (Chooses o number.value) (begin_all out)),
                made.told Nothing
                    (begun o out),
              )));
          sound = λ o out sound.
              let walked : Sound (text s whole blocks) (body_walk (map stmt_walk (out-When w).body) (begun o out)) =
              subst (Sound (text s whole blocks)) (when_walk-out w o out) sound in
              let kept = made.sound Nothing (begun o out) walked refl in
              let begins = made.begins Nothing (begun o out) in
              record {
                parts = subst (λ l. AllIn (PartsStand s) l.body) (sym is) kept.all;
                fits = subst (λ l. InnerFits s l.body) (sym is) (made.inner, kept.paired);
                fresh = subst (λ l. any (chooses o l.number) out ≡ false) (sym is)
                    (sound_last (text s whole blocks) out number.line (Chooses o number.value) rule.ChosenTwice
                    (sound_front (text s whole blocks) (begun o out) _ begins walked));
                line = number.line;
                chosen = subst (λ l. Begin (add number.line (Chooses o l.number) out) (when_walk w o out)) (sym is)
                    (subst (Begin (begun o out)) (sym (when_walk-out w o out)) begins);
              };
        })

    pub whens_made : (n : ℕ) (ws : List When) (p : ℕ)
        → AllByRecursion (λ w. AreMade s whole blocks env n (out-When w).body) ws
        → WhensMade n (map when_walk ws) (in_turn (map (typed_when env) ws) p).0
    whens_made n [] p all = whens_none n
    whens_made n (w ∷ ws) p all = whens_more n (when_walk w) (map when_walk ws) (typed_when env w p).0
        (in_turn (map (typed_when env) ws) (typed_when env w p).1).0 (when_made n w p all.0)
        (whens_made n ws (typed_when env w p).1 all.1)
