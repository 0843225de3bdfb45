-- Lists of instructions that grow at the end.
use Rattle.std.proofs.Common.{◌≡◌, ℕ, ◌+◌, List, [], ◌++◌, refl, sym, ap, ◌∙◌, append_assoc}
use Rattle.std.proofs.Common.{append-nil, subst}
use Rattle.machine_code.specs.declared.op.Op.{Op}
use Rattle.store_layout.specs.Rows.{Rows}
use Rattle.expr_code.specs.Code.{Site}
use Rattle.expr_code.specs.Sites.{Begins, IsSiteOf, GrowsByCode}

-- what was appended
pub begins_is : (old new rest : List Op) → new ≡ old ++ rest → Begins old new
begins_is old new rest e = record { rest = rest; is = e }

pub begins_same : (old new : List Op) → new ≡ old → Begins old new
begins_same old new e = record { rest = []; is = e ∙ sym (append-nil old) }

pub begins_on : (a b c : List Op) → Begins a b → Begins b c → Begins a c
begins_on a b c p q = record { rest = p.rest ++ q.rest; is = q.is ∙ ap (λ l. l ++ q.rest) p.is ∙ append_assoc a p.rest q.rest }

-- a part of some code was appended, and this is left of it
pub record Emitted (old now left all : List Op) : Type 0 where
  pub made : List Op
  pub is : now ≡ old ++ made
  pub whole : made ++ left ≡ all

pub emitted_begin : (old left all : List Op) → left ≡ all → Emitted old old left all
emitted_begin old left all e = record { made = []; is = sym (append-nil old); whole = e }

pub emitted_on : (old now new part left all : List Op) → new ≡ now ++ part → Emitted old now (part ++ left) all → Emitted old new left all
emitted_on old now new part left all e h = record {
  made = h.made ++ part;
  is = e ∙ ap (λ l. l ++ part) h.is ∙ append_assoc old h.made part;
  whole = append_assoc h.made part left ∙ h.whole;
}

pub emitted_end : (old now all : List Op) → Emitted old now [] all → now ≡ old ++ all
emitted_end old now all h = h.is ∙ ap (λ l. old ++ l) (sym (append-nil h.made) ∙ h.whole)

-- the same for each site of a block
pub record Emitting (l : Rows) (b : ℕ) (old now : List Op) (left all : Site → List Op) : Type 0 where
  pub begins : Begins old now
  pub is : (site : Site) → IsSiteOf l b site → Emitted old now (left site) (all site)

pub emitting_begin : (l : Rows) (b : ℕ) (old : List Op) (left all : Site → List Op) → ((site : Site) → left site ≡ all site) → Emitting l b old old left all
emitting_begin l b old left all e = record { begins = begins_same old old refl; is = λ site h. emitted_begin old (left site) (all site) (e site) }

-- one more part, which is of the site or not
pub emitting_on : (l : Rows) (b : ℕ) (old now new : List Op) (part left all : Site → List Op)
    → GrowsByCode l b now new part → Emitting l b old now (λ site. part site ++ left site) all
    → Emitting l b old new left all
emitting_on l b old now new part left all g h = record {
  begins = begins_on old now new h.begins g.begins;
  is = λ site s. emitted_on old now new (part site) (left site) (all site) (g.is site s) (h.is site s);
}

pub grows_plain : (l : Rows) (b : ℕ) (old new part : List Op) → new ≡ old ++ part → GrowsByCode l b old new (λ site. part)
grows_plain l b old new part e = record { begins = begins_is old new part e; is = λ site s. e }

pub emitting_with : (l : Rows) (b : ℕ) (old now new part : List Op) (left all : Site → List Op) → new ≡ now ++ part
    → Emitting l b old now (λ site. part ++ left site) all → Emitting l b old new left all
emitting_with l b old now new part left all e h = emitting_on l b old now new (λ site. part) left all (grows_plain l b now new part e) h

-- nothing is left
pub emitting_end : (l : Rows) (b : ℕ) (old now : List Op) (left all : Site → List Op) → ((site : Site) → left site ≡ [])
    → Emitting l b old now left all → GrowsByCode l b old now all
emitting_end l b old now left all none h = record {
  begins = h.begins;
  is = λ site s. emitted_end old now (all site) (subst (λ rest. Emitted old now rest (all site)) (none site) (h.is site s));
}

pub grows_begins : (l : Rows) (b : ℕ) (old new : List Op) (code : Site → List Op) → GrowsByCode l b old new code → Begins old new
grows_begins l b old new code h = h.begins

-- a list that was begun stays begun
pub ruleset growing = (begins_is, begins_on, grows_begins)
