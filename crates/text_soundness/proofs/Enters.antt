-- What the surveys of a block say, and what its items enter: a signal that it receives it enters,
-- and once, and what it sends stands in its sending table.
use Rattle.std.proofs.Common.{◌≡◌, ℕ, ◌+◌, suc, Bool, true, false, ◌||◌, List, [], ◌∷◌, ◌++◌}
use Rattle.std.proofs.Common.{length, map, filter_map, get_or, slice_get, take, fold, Option, Some}
use Rattle.std.proofs.Common.{None, refl, sym, ◌∙◌, ap, subst, arith, nat_eq, append_assoc}
use Rattle.std.specs.Prelude.{if◌then◌else◌, Contains, is_some}
use Rattle.std.specs.List.{AllByRecursion, IsDistinct, cons_option, list_any}
use Rattle.std.specs.Option.{unwrap_or}
use Rattle.std.specs.Str.{bytes_eq}
use Rattle.std.proofs.Math.Seq.{take-append_seam}
use Rattle.std.proofs.lemmas.Bool.{eqb-true, eq-eqb, false_from_ne_true, not-false, or_parts}
use Rattle.std.proofs.lemmas.List.Quantifiers.{position-Some}
use Rattle.std.proofs.lemmas.Slice.Eq.{bytes_eq-Decides}
use Rattle.first_fault.specs.First.{any}
use Rattle.plex_ast.specs.declared.block.Block.{Block}
use Rattle.plex_ast.specs.declared.block.Survey.{Survey}
use Rattle.plex_ast.specs.declared.block.SurveyKind.{SurveyKind}
use Rattle.plex_ast.specs.declared.block.SurveyKind.TheVariants as survey
use Rattle.plex_ast.specs.declared.block.Item.{Item}
use Rattle.plex_ast.specs.declared.block.ItemKind.{ItemKind}
use Rattle.plex_ast.specs.declared.block.ItemKind.TheVariants as items
use Rattle.exchange_model.specs.declared.signal.SignalKind.{SignalKind}
use Rattle.exchange_model.specs.declared.signal.SignalKind.TheVariants as signal
use Rattle.exchange_model.specs.Fits.{Scope}
use Rattle.exchange_model.specs.Kept.{signal_name}
use Rattle.signal_types.specs.Found.{number_in, kind_in, kind_at}
use Rattle.text_events.specs.Note.{Event, Head}
use Rattle.text_events.specs.Note as note
use Rattle.text_events.specs.declared.role.Role.TheVariants as role
use Rattle.text_events.specs.Walk.{add, in_turn, names_of}
use Rattle.text_events.specs.Named.{naming_of}
use Rattle.text_events.specs.Blocks.{survey_walk, survey_walk_at, decls_walk, item_head_at}
use Rattle.text_events.specs.Blocks.{item_walk_at, labels_of, first_item, items_walk, block_head}
use Rattle.text_events.specs.Blocks.{block_body, block_events}
use Rattle.text_rules.specs.declared.rule.LinkRule.{LinkRule}
use Rattle.text_rules.specs.declared.rule.LinkRule.TheVariants as rule
use Rattle.text_rules.specs.declared.rule.BlockRule.TheVariants as block_rule
use Rattle.text_rules.specs.Blocks.{stands}
use Rattle.text_rules.specs.Links.{enters_here}
use Rattle.text_rules.specs.Surveys.{line_receives, kind_receives, line_sends, kind_sends}
use Rattle.text_rules.specs.Surveys.{item_enters, kind_enters, receives, sends, enters}
use Rattle.resolved_block.specs.Names.{Env}
use Rattle.resolved_block.specs.Blocks.{kind_sent, sent_in, joined_once, first_mentions}
use Rattle.text_soundness.specs.Fine.{Text, text_of, link_broken_at, links_known, IsFineBlock}
use Rattle.text_soundness.specs.Fine.{AreFineLinks}
use Rattle.text_soundness.specs.Served.{Said}
use Rattle.text_soundness.proofs.BuiltText.{Begin, begin_all, begin_then, begin_add, Sound}
use Rattle.text_soundness.proofs.BuiltText.{sound_front, sound_last}
use Rattle.text_soundness.proofs.BuiltBody.{body_is_sound, entered_by, entered_numbers}
use Rattle.text_soundness.proofs.BuiltKinds.{begin_names}
use Rattle.text_soundness.proofs.Choices.{any_front}
use Rattle.text_soundness.proofs.MeaningsBlocks.{item_adds, items_add, surveys_quiet}
use Rattle.text_soundness.proofs.ServedSaid.{said_of}
use Rattle.text_soundness.proofs.SignalsOnce.{none_of}
use Rattle.plex_num.proofs.Lists.{all_left, all_last, slice_get-append_seam}
use Rattle.plex_num.proofs.Members.{found_in}
use Rattle.plex_num.proofs.Names.{same_bytes}

-- numbers of signals

-- a signal that stands somewhere has a number, and the name of that signal
record Numbered (signals : List SignalKind) (n : List ℕ) : Type 0 where
  pub number : ℕ
  pub is : unwrap_or (number_in signals n) 0 ≡ number
  pub named : (d : SignalKind) → bytes_eq (signal_name (get_or signals number d)) n ≡ true

numbered : (signals : List SignalKind) (n : List ℕ) → is_some (kind_in signals n) ≡ true → Numbered signals n
numbered signals n h = here (number_in signals n) refl h
  where
    here : (o : Option ℕ) → number_in signals n ≡ o → is_some (kind_at signals o) ≡ true → Numbered signals n
    here (Some i) is t = record { number = i; is = ap (λ x. unwrap_or x 0) is; named = λ d. (position-Some (λ s. bytes_eq (signal_name s) n) signals i d is).1 }
    here None is t = absurd cc

some_kind : (o : Option SignalKind) → stands role.Received o ≡ true → is_some o ≡ true
some_kind (Some k) h = refl
some_kind None h = cc

-- two names of one number are the same
other_number : (signals : List SignalKind) (d : SignalKind) (n m : List ℕ) → Numbered signals n → Numbered signals m
    → bytes_eq n m ≡ false → nat_eq (unwrap_or (number_in signals n) 0) (unwrap_or (number_in signals m) 0) ≡ false
other_number signals d n m x y apart = false_from_ne_true _ (λ same.
    let numbers : x.number ≡ y.number = sym x.is ∙ eqb-true _ _ same ∙ y.is in
    let left : signal_name (get_or signals x.number d) ≡ n = (bytes_eq-Decides _ n).0 (x.named d) in
    let right : signal_name (get_or signals y.number d) ≡ m = (bytes_eq-Decides _ m).0 (y.named d) in
    let alike : n ≡ m = sym left ∙ ap (λ i. signal_name (get_or signals i d)) numbers ∙ right in
    never (sym ((bytes_eq-Decides n m).1 alike) ∙ apart))
  where
    never : true ≡ false → ⊥
    never e = cc

-- no event of a front breaks a link rule
pub record Linked (text : Text) (own : Block) (done es : List Event) : Type 0 where
  pub each : (before after : List Event) (e : Event) (r : LinkRule) → es ≡ before ++ e ∷ after → link_broken_at r (links_known text own done before) e ≡ false

linked_front : (text : Text) (own : Block) (done a b : List Event) → Begin a b → Linked text own done b → Linked text own done a
linked_front text own done a b x s = record {
  each = λ before after e r is. s.each before (after ++ x.more) e r
      (x.same ∙ ap (λ es. es ++ x.more) is ∙ append_assoc before (e ∷ after) x.more);
}

linked_whole : (text : Text) (own : Block) (done : List Event) → AreFineLinks text own done → Linked text own done text.whole
linked_whole text own done f = record {
  each = λ before after e r is.
      let at : slice_get text.whole (length before) ≡ Some e = ap (λ w. slice_get w (length before)) is ∙ slice_get-append_seam before e after in
      let front = ap (take (length before)) is ∙ take-append_seam before (e ∷ after) in
      subst (λ b. link_broken_at r (links_known text own done b) e ≡ false) front (f.each (length before) e r at);
}

-- the signals that items enter, by their names

abbrev entered_name : ItemKind → Option (List ℕ)
entered_name (items.Enter n ns) = Some n.name
entered_name _ = None

abbrev entered_names : List Item → List (List ℕ)
entered_names [] = []
entered_names (x ∷ xs) = cons_option (entered_name x.kind) (entered_names xs)

module _ (text : Text) (own : Block) (done : List Event) where
  -- a signal that is entered after these events stands, and is not entered before
  record Fresh (out : List Event) (n : List ℕ) : Type 0 where
    pub once : any (enters_here n) out ≡ false
    pub stand : stands role.Received (kind_in text.signals n) ≡ true

  earlier : (a b : List Event) → Begin a b → (ns : List (List ℕ)) → AllByRecursion (Fresh b) ns → AllByRecursion (Fresh a) ns
  earlier a b begin [] all = tt
  earlier a b begin (n ∷ ns) all = (record { once = any_front (enters_here n) a b begin all.0.once; stand = all.0.stand }, earlier a b begin ns all.1)

  item_begins : (x : Item) (k : ℕ) (before after : Head) (out : List Event) → Begin out (item_walk_at x.kind x.line k before after out)
  item_begins x k before after out = let a = item_adds x.kind x.line k before after out in record { more = a.more; same = a.same }

  items_begin : (xs : List Item) (k : ℕ) (before : Head) (out : List Event) → Begin out (items_walk xs k before out)
  items_begin xs k before out = let a = items_add xs k before out in record { more = a.more; same = a.same }

  -- the events of an ENTER
  enter_fresh : (line : ℕ) (x : _) (ns : _) (k : ℕ) (before after : Head) (out : List Event)
      → Sound text (item_walk_at (items.Enter x ns) line k before after out)
      → Linked text own done (item_walk_at (items.Enter x ns) line k before after out) → Fresh out x.name
  enter_fresh line x ns k before after out sound linked =
      let head = note.Enters x.name (length (names_of ns)) in
      let begun_here = add line (note.Begins head before after) out in
      let standing = add x.line (note.Names x.name role.Received) begun_here in
      let named = begin_names (names_of ns) standing in
      record {
        once = (linked_front text own done begun_here _
            (begin_then begun_here standing _ (begin_add begun_here begun_here x.line (note.Names x.name role.Received)
            (begin_all begun_here)) named) linked).each out []
            (record { line = line; note = note.Begins head before after }) rule.TwoEnters refl;
        stand = not-false _ (sound_last text begun_here x.line (note.Names x.name role.Received) block_rule.WrongSignal
            (sound_front text standing _ named sound));
      }

  items_fresh : (xs : List Item) (k : ℕ) (before : Head) (out : List Event) → Sound text (items_walk xs k before out)
      → Linked text own done (items_walk xs k before out) → AllByRecursion (Fresh out) (entered_names xs)
  items_fresh [] k before out sound linked = tt
  items_fresh (x ∷ xs) k before out sound linked =
      let next = item_walk_at x.kind x.line k before (first_item xs) out in
      let rest = items_begin xs (k + labels_of x.kind) (item_head_at x.kind) next in
      here x.kind (sound_front text next _ rest sound) (linked_front text own done next _ rest linked)
      (earlier out next (item_begins x k before (first_item xs) out) (entered_names xs)
      (items_fresh xs (k + labels_of x.kind) (item_head_at x.kind) next sound linked))
    where
      here : (i : ItemKind) → Sound text (item_walk_at i x.line k before (first_item xs) out)
          → Linked text own done (item_walk_at i x.line k before (first_item xs) out)
          → AllByRecursion (Fresh out) (entered_names xs)
          → AllByRecursion (Fresh out) (cons_option (entered_name i) (entered_names xs))
      here (items.Label n) s l more = more
      here (items.Enter n ns) s l more = (enter_fresh x.line n ns k before (first_item xs) out s l, more)
      here (items.Stmt y) s l more = more

  items_apart : (xs : List Item) (k : ℕ) (before : Head) (out : List Event) → Sound text (items_walk xs k before out)
      → Linked text own done (items_walk xs k before out) → IsDistinct bytes_eq (entered_names xs)
  unfolding IsDistinct
  items_apart [] k before out sound linked = tt
  items_apart (x ∷ xs) k before out sound linked =
      let next = item_walk_at x.kind x.line k before (first_item xs) out in
      here x.kind refl (items_fresh xs (k + labels_of x.kind) (item_head_at x.kind) next sound linked)
      (items_apart xs (k + labels_of x.kind) (item_head_at x.kind) next sound linked)
    where
      others : (n : List ℕ) (ns : List (List ℕ))
          → ((m : List ℕ) → Fresh (item_walk_at x.kind x.line k before (first_item xs) out) m → bytes_eq n m ≡ false)
          → AllByRecursion (Fresh (item_walk_at x.kind x.line k before (first_item xs) out)) ns
          → AllByRecursion (λ m. bytes_eq n m ≡ false) ns
      others n [] each all = tt
      others n (m ∷ ms) each all = (each m all.0, others n ms each all.1)

      here : (i : ItemKind) → x.kind ≡ i → AllByRecursion
          (Fresh (item_walk_at x.kind x.line k before (first_item xs) out)) (entered_names xs)
          → IsDistinct bytes_eq (entered_names xs)
          → IsDistinct bytes_eq (cons_option (entered_name i) (entered_names xs))
      here (items.Label n) is fresh more = more
      here (items.Stmt y) is fresh more = more
      here (items.Enter n ns) is fresh more = (
        others n.name (entered_names xs) (λ m f.
            let head = note.Enters n.name (length (names_of ns)) in
            let e : Event = record { line = x.line; note = note.Begins head before (first_item xs) } in
            let begun_here = add x.line (note.Begins head before (first_item xs)) out in
            let standing = add n.line (note.Names n.name role.Received) begun_here in
            let next : Begin begun_here (item_walk_at (items.Enter n ns) x.line k before (first_item xs)
            out) = begin_then begun_here standing _
            (begin_add begun_here begun_here n.line (note.Names n.name role.Received) (begin_all begun_here))
            (begin_names (names_of ns) standing) in
            let once : any (enters_here m) (item_walk_at (items.Enter n ns) x.line k before (first_item xs) out)
            ≡ false = subst (λ i. any (enters_here m) (item_walk_at i x.line k before (first_item xs) out) ≡ false)
            is f.once in
            let last = (none_of (enters_here m) out (e ∷ []) (any_front (enters_here m) begun_here _ next once)).1 in
            (or_parts (bytes_eq n.name m) false last).0) fresh,
        more,
      )

-- the numbers of the signals that items enter

abbrev pub number_of_name : List SignalKind → List ℕ → ℕ
number_of_name signals n = unwrap_or (number_in signals n) 0

abbrev pub numbers_entered : List SignalKind → List Item → List ℕ
numbers_entered signals xs = map (number_of_name signals) (entered_names xs)

pub numbers_are : (s : Scope) (whole : List Event) (blocks : List Block) (xs : List Item) → entered_numbers s whole blocks xs ≡ numbers_entered s.signals xs
numbers_are s whole blocks [] = refl
numbers_are s whole blocks (x ∷ xs) = here x.kind (numbers_are s whole blocks xs)
  where
    here : (i : ItemKind) → entered_numbers s whole blocks xs ≡ numbers_entered s.signals xs
        → cons_option (entered_by s whole blocks i) (entered_numbers s whole blocks xs)
        ≡ map (number_of_name s.signals) (cons_option (entered_name i) (entered_names xs))
    here (items.Label n) more = more
    here (items.Enter n ns) more = ap (λ r. number_of_name s.signals n.name ∷ r) more
    here (items.Stmt y) more = more

numbers_apart : (text : Text) (own : Block) (done out : List Event) (ns : List (List ℕ))
    → AllByRecursion (Fresh text own done out) ns → IsDistinct bytes_eq ns
    → IsDistinct nat_eq (map (number_of_name text.signals) ns)
unfolding IsDistinct
numbers_apart text own done out [] fresh apart = tt
numbers_apart text own done out (n ∷ ns) fresh apart = (others ns fresh.1 apart.0, numbers_apart text own done out ns fresh.1 apart.1)
  where
    has : (m : List ℕ) → Fresh text own done out m → Numbered text.signals m
    has m f = numbered text.signals m (some_kind (kind_in text.signals m) f.stand)

    others : (ms : List (List ℕ)) → AllByRecursion (Fresh text own done out) ms
        → AllByRecursion (λ m. bytes_eq n m ≡ false) ms
        → AllByRecursion (λ m. nat_eq (number_of_name text.signals n) m ≡ false) (map (number_of_name text.signals) ms)
    others [] all other = tt
    others (m ∷ ms) all other = (other_number text.signals (signal.Direct [] 0) n m (has n fresh.0) (has m all.0) other.0, others ms all.1 other.1)

-- a block that breaks no rule enters no signal twice
pub entered_once : (signals : List SignalKind) (blocks : List Block) (b : Block) → IsFineBlock signals blocks b
    → IsDistinct nat_eq (numbers_entered signals b.items)
entered_once signals blocks b fine =
    let text = text_of signals blocks b in
    let surveyed = in_turn (map survey_walk b.surveys) (decls_walk b.decls 0 0 0 (block_head b)) in
    let sound = body_is_sound signals blocks b fine in
    let linked = linked_front text b fine.before (block_body b) (block_events b)
    (begin_add (block_body b) (block_body b) b.end_line note.Ends (begin_all (block_body b)))
    (linked_whole text b fine.before fine.linked) in
    numbers_apart text b fine.before surveyed (entered_names b.items)
    (items_fresh text b fine.before b.items 0 note.Nothing surveyed sound linked)
    (items_apart text b fine.before b.items 0 note.Nothing surveyed sound linked)

-- a signal that is entered has its number there

pub entered_there : (signals : List SignalKind) (n : List ℕ) (xs : List Item) → any (item_enters n) xs ≡ true
    → list_any (nat_eq (number_of_name signals n)) (numbers_entered signals xs) ≡ true
entered_there signals n [] h = cc
entered_there signals n (x ∷ xs) h = here x.kind h (entered_there signals n xs)
  where
    chosen : (m : List ℕ) (u : Bool) → bytes_eq m n ≡ u → (u || any (item_enters n) xs) ≡ true
        → (any (item_enters n) xs ≡ true → list_any (nat_eq (number_of_name signals n)) (numbers_entered signals xs)
        ≡ true) → list_any (nat_eq (number_of_name signals n)) (number_of_name signals m ∷ numbers_entered signals xs)
        ≡ true
    chosen m true is h more = ap (λ u. u || list_any (nat_eq (number_of_name signals n)) (numbers_entered signals xs))
        (eq-eqb _ _ (ap (number_of_name signals) (sym (same_bytes m n is))))
    chosen m false is h more = ap (λ u. nat_eq (number_of_name signals n) (number_of_name signals m) || u) (more h)
        ∙ or_last (nat_eq (number_of_name signals n) (number_of_name signals m))
      where
        or_last : (b : Bool) → (b || true) ≡ true
        or_last true = refl
        or_last false = refl

    here : (i : ItemKind) → (kind_enters n i || any (item_enters n) xs) ≡ true
        → (any (item_enters n) xs ≡ true → list_any (nat_eq (number_of_name signals n)) (numbers_entered signals xs)
        ≡ true) → list_any (nat_eq (number_of_name signals n))
        (map (number_of_name signals) (cons_option (entered_name i) (entered_names xs))) ≡ true
    here (items.Label m) h more = more h
    here (items.Enter m ns) h more = chosen m.name (bytes_eq m.name n) refl h more
    here (items.Stmt y) h more = more h

-- a signal that a survey receives is entered

module _ (signals : List SignalKind) (blocks : List Block) (b : Block) (n : List ℕ) where
  abbrev SaidHere : Event → Type 0
  SaidHere e = Said signals blocks b (naming_of (block_events b)) e.note

  survey_received : (kind : SurveyKind) (line : ℕ) (out : List Event)
      → AllByRecursion SaidHere (survey_walk_at kind line out) → kind_receives n kind ≡ true → enters n b ≡ true
  survey_received (survey.Receive m) line out all h =
      let here = all_last SaidHere out (record { line = line; note = note.Receives m.name })
      (all_left SaidHere (add line (note.Receives m.name) out)
      (record { line = m.line; note = note.Names m.name role.Received } ∷ []) all) in
      subst (λ x. enters x b ≡ true) (same_bytes m.name n h) here
  survey_received (survey.Send m) line out all h = cc

  surveys_received : (ss : List Survey) (out : List Event) → AllByRecursion SaidHere (in_turn (map survey_walk ss) out)
      → any (line_receives n) ss ≡ true → enters n b ≡ true
  surveys_received [] out all h = cc
  surveys_received (s ∷ rest) out all h = here (line_receives n s) refl h (surveys_received rest (survey_walk s out) all)
    where
      here : (u : Bool) → line_receives n s ≡ u → (u || any (line_receives n) rest) ≡ true
          → (any (line_receives n) rest ≡ true → enters n b ≡ true) → enters n b ≡ true
      here true is h later =
          let more = surveys_quiet rest (survey_walk s out) in
          survey_received s.kind s.line out (all_left SaidHere (survey_walk s out) more.more (subst (AllByRecursion SaidHere) more.same all)) is
      here false is h later = later h

  pub received_is_entered : IsFineBlock signals blocks b → receives n b ≡ true → enters n b ≡ true
  received_is_entered fine h =
      let surveyed = in_turn (map survey_walk b.surveys) (decls_walk b.decls 0 0 0 (block_head b)) in
      let body = items_add b.items 0 note.Nothing surveyed in
      let whole = all_left SaidHere (block_body b) (record { line = b.end_line; note = note.Ends } ∷ []) (said_of signals blocks b fine) in
      surveys_received b.surveys (decls_walk b.decls 0 0 0 (block_head b))
      (all_left SaidHere surveyed body.more (subst (AllByRecursion SaidHere) body.same whole)) h

-- a signal that a survey sends is in the sending table

pub any_last : (x : ℕ) (xs : List ℕ) (y : ℕ) → list_any (nat_eq x) (xs ++ y ∷ []) ≡ (list_any (nat_eq x) xs || nat_eq x y)
any_last x [] y = grind arith
any_last x (z ∷ xs) y = rw (any_last x xs y) (grind arith)

joined_keeps : (x n : ℕ) (seen : List ℕ) → (list_any (nat_eq x) seen || nat_eq x n) ≡ true → list_any (nat_eq x) (joined_once seen n) ≡ true
joined_keeps x n seen h = here (list_any (nat_eq n) seen) refl
  where
    same : nat_eq x n ≡ true → n ≡ x
    same is = grind arith

    either : (a b : Bool) → (a || b) ≡ true → (b ≡ true → a ≡ true) → a ≡ true
    either true b h more = refl
    either false b h more = more h

    here : (u : Bool) → list_any (nat_eq n) seen ≡ u → list_any (nat_eq x) (if u then seen else seen ++ n ∷ []) ≡ true
    here true is = either (list_any (nat_eq x) seen) (nat_eq x n) h (λ e. subst (λ m. list_any (nat_eq m) seen ≡ true) (same e) is)
    here false is = any_last x seen n ∙ h

mentions_keep : (x : ℕ) (ns seen : List ℕ) → (list_any (nat_eq x) seen || list_any (nat_eq x) ns) ≡ true → list_any (nat_eq x) (fold joined_once seen ns) ≡ true
mentions_keep x [] seen h = none (list_any (nat_eq x) seen) h
  where
    none : (a : Bool) → (a || false) ≡ true → a ≡ true
    none true h = refl
    none false h = h
mentions_keep x (n ∷ ns) seen h = mentions_keep x ns (joined_once seen n)
    (here (list_any (nat_eq x) seen) (nat_eq x n) (list_any (nat_eq x) ns) h (joined_keeps x n seen))
  where
    here : (a b c : Bool) → (a || (b || c)) ≡ true → ((a || b) ≡ true → list_any (nat_eq x) (joined_once seen n) ≡ true)
        → (list_any (nat_eq x) (joined_once seen n) || c) ≡ true
    here a b c h keeps = grind arith

sent_there : (env : Env) (n : List ℕ) (ss : List Survey) → any (line_sends n) ss ≡ true
    → list_any (nat_eq (number_of_name env.signals n)) (filter_map (sent_in env) ss) ≡ true
sent_there env n [] h = cc
sent_there env n (s ∷ rest) h = here s.kind h (sent_there env n rest)
  where
    chosen : (m : List ℕ) (u : Bool) → bytes_eq m n ≡ u → (u || any (line_sends n) rest) ≡ true
        → (any (line_sends n) rest ≡ true → list_any (nat_eq (number_of_name env.signals n))
        (filter_map (sent_in env) rest) ≡ true)
        → list_any (nat_eq (number_of_name env.signals n))
        (number_of_name env.signals m ∷ filter_map (sent_in env) rest) ≡ true
    chosen m true is h more = ap (λ u. u || list_any (nat_eq (number_of_name env.signals n))
        (filter_map (sent_in env) rest)) (eq-eqb _ _ (ap (number_of_name env.signals) (sym (same_bytes m n is))))
    chosen m false is h more = ap (λ u. nat_eq (number_of_name env.signals n) (number_of_name env.signals m) || u)
        (more h) ∙ or_last (nat_eq (number_of_name env.signals n) (number_of_name env.signals m))
      where
        or_last : (b : Bool) → (b || true) ≡ true
        or_last true = refl
        or_last false = refl

    here : (k : SurveyKind) → (kind_sends n k || any (line_sends n) rest) ≡ true
        → (any (line_sends n) rest ≡ true → list_any (nat_eq (number_of_name env.signals n))
        (filter_map (sent_in env) rest) ≡ true)
        → list_any (nat_eq (number_of_name env.signals n))
        (cons_option (kind_sent env k) (filter_map (sent_in env) rest)) ≡ true
    here (survey.Receive m) h more = more h
    here (survey.Send m) h more = chosen m.name (bytes_eq m.name n) refl h more

pub sent_is_announced : (env : Env) (b : Block) (n : List ℕ) → sends n b ≡ true
    → Contains (first_mentions (filter_map (sent_in env) b.surveys)) (number_of_name env.signals n)
sent_is_announced env b n h =
    let x = number_of_name env.signals n in
    let named = filter_map (sent_in env) b.surveys in
    found_in x (first_mentions named) (mentions_keep x named [] (sent_there env n b.surveys h))
