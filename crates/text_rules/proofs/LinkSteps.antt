-- What is known to the link rules after one event more, and the signals of a block.
use Rattle.std.proofs.Common.{◌≡◌, ℕ, ◌+◌, ◌<◌, ◌≤◌, Bool, false, ◌||◌, inl, inr, List, [], ◌∷◌}
use Rattle.std.proofs.Common.{◌++◌, length, take, get_or, Option, refl, sym, ◌∙◌, ap, rules}
use mathlib.Core.Path.{fun_ext}
use Rattle.std.proofs.lemmas.List.{take_all}
use Rattle.first_fault.specs.First.{any}
use Rattle.first_fault.specs.Told.{Among, Rising, HasAll}
use Rattle.first_fault.proofs.First.{any_push, total_push, more_events}
use Rattle.exchange_model.specs.declared.signal.SignalKind.{SignalKind}
use Rattle.plex_ast.specs.declared.block.Block.{Block}
use Rattle.signal_types.specs.Found.{kind_in}
use Rattle.text_events.specs.Note.{Event, begun}
use Rattle.text_rules.specs.declared.rule.LinkRule.{LinkRule}
use Rattle.text_rules.specs.declared.rule.LinkRule.TheVariants as rule
use Rattle.text_rules.specs.Surveys.{block_named, receiver_count, receives_at, receives, sends}
use Rattle.text_rules.specs.Surveys.{enters, is_so}
use Rattle.text_rules.specs.Links.{KnownForLinks, Amounts, known_of, amounts_in, adds, plus}
use Rattle.text_rules.specs.Links.{head_enters, enters_here, number_of, all_rules}

among_all : (q : LinkRule) → Among q all_rules
among_all rule.NoReceiver = inl refl
among_all rule.NeedsReference = inr (inl refl)
among_all rule.NotReceived = inr (inr (inl refl))
among_all rule.NotInSurvey = inr (inr (inr (inl refl)))
among_all rule.TwoEnters = inr (inr (inr (inr (inl refl))))
among_all rule.NoEnter = inr (inr (inr (inr (inr (inl refl)))))
among_all rule.Limit = inr (inr (inr (inr (inr (inr (inl refl))))))

rising_all : Rising number_of all_rules
rising_all = search rules depth 12

pub every_rule : HasAll number_of all_rules
every_rule = record { all = among_all; rising = rising_all }

-- a set has the names of which some of the first items say something
module _ {A : Type 0} (says : List ℕ → A → Bool) (xs : List A) where
  pub record Has (i : ℕ) (has : List ℕ → Bool) : Type 0 where
    pub same : (s : List ℕ) → has s ≡ any (says s) (take i xs)

  pub any_begin : (has : List ℕ → Bool) → ((s : List ℕ) → has s ≡ false) → Has 0 has
  any_begin has none = record { same = none }

  pub any_step : (i : ℕ) (x : A) (old new : List ℕ → Bool) → i < length xs → x ≡ get_or xs i x
      → ((s : List ℕ) → new s ≡ (old s || says s x)) → Has i old → Has (i + 1) new
  any_step i x old new inside is more g = record {
    same = λ s. more s ∙ ap (λ a. a || says s x) (g.same s) ∙ sym (any_push (says s) (take i xs) x)
        ∙ ap (any (says s)) (sym (more_events xs i x inside is));
  }

  pub any_end : (i : ℕ) (has : List ℕ → Bool) → length xs ≤ i → Has i has → (s : List ℕ) → has s ≡ any (says s) xs
  any_end i has past g s = g.same s ∙ ap (any (says s)) (take_all i xs past)

-- what is known

known_is : (k l : KnownForLinks) → k.kind ≡ l.kind → k.receivers ≡ l.receivers → k.named ≡ l.named
    → k.received_by ≡ l.received_by → k.received ≡ l.received → k.sent ≡ l.sent → k.entered ≡ l.entered
    → k.entered_before ≡ l.entered_before → k.before ≡ l.before → k ≡ l
known_is k l p q r s t u v w x = λ i. record {
  kind = p i;
  receivers = q i;
  named = r i;
  received_by = s i;
  received = t i;
  sent = u i;
  entered = v i;
  entered_before = w i;
  before = x i;
}

amounts_push : (kind : List ℕ → Option SignalKind) (before : List Event) (e : Event)
    → plus (amounts_in kind before) (adds kind e.note) ≡ amounts_in kind (before ++ e ∷ [])
amounts_push kind before e = λ i. record {
  signals = sym (total_push (λ (x : Event). (adds kind x.note).signals) before e) i;
  blocks = sym (total_push (λ (x : Event). (adds kind x.note).blocks) before e) i;
  entries = sym (total_push (λ (x : Event). (adds kind x.note).entries) before e) i;
  statements = sym (total_push (λ (x : Event). (adds kind x.note).statements) before e) i;
  cells = sym (total_push (λ (x : Event). (adds kind x.note).cells) before e) i;
}

pub known_begin : (k : KnownForLinks) (signals : List SignalKind) (blocks : List Block) (own : Option Block)
    (all_before : List Event) → k.kind ≡ kind_in signals → k.receivers ≡ receiver_count blocks
    → k.named ≡ block_named blocks → k.received_by ≡ receives_at blocks
    → ((s : List ℕ) → k.received s ≡ is_so (receives s) own) → ((s : List ℕ) → k.sent s ≡ is_so (sends s) own)
    → ((s : List ℕ) → k.entered s ≡ is_so (enters s) own) → ((s : List ℕ) → k.entered_before s ≡ false)
    → k.before ≡ amounts_in (kind_in signals) all_before → k ≡ known_of signals blocks own all_before []
known_begin k signals blocks own all_before p q r s t u v w x = known_is k (known_of signals blocks own all_before []) p
    q r s (fun_ext t) (fun_ext u) (fun_ext v) (fun_ext w) x

pub known_more : (k : KnownForLinks) (entered : List ℕ → Bool) (amounts : Amounts) (signals : List SignalKind)
    (blocks : List Block) (own : Option Block) (all_before before : List Event) (e : Event)
    → k ≡ known_of signals blocks own all_before before
    → ((s : List ℕ) → entered s ≡ (k.entered_before s || head_enters s (begun e.note)))
    → amounts ≡ plus k.before (adds (kind_in signals) e.note)
    → record k { entered_before = entered; before = amounts }
    ≡ known_of signals blocks own (all_before ++ e ∷ []) (before ++ e ∷ [])
known_more k entered amounts signals blocks own all_before before e t s a =
    known_is _ (known_of signals blocks own (all_before ++ e ∷ []) (before ++ e ∷ []))
    (ap (λ x. x.kind) t) (ap (λ x. x.receivers) t) (ap (λ x. x.named) t) (ap (λ x. x.received_by) t)
    (ap (λ x. x.received) t) (ap (λ x. x.sent) t) (ap (λ x. x.entered) t)
    (fun_ext λ n. s n ∙ ap (λ x. x.entered_before n || head_enters n (begun e.note)) t ∙ sym (any_push (enters_here n) before e))
    (a ∙ ap (λ x. plus x.before (adds (kind_in signals) e.note)) t ∙ amounts_push (kind_in signals) all_before e)
