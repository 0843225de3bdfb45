-- What a statement does is a list of effects.
use Rattle.std.proofs.Common.{◌≡◌, ℕ, zero, suc, ◌+◌, ◌<◌, ◌^◌, Bool, true, false, List, [], ◌∷◌}
use Rattle.std.proofs.Common.{◌++◌, Option, Some, None, refl, ap, ◌∙◌, slice_get}
use Rattle.std.proofs.lemmas.Bool.{ltb-true}
use Rattle.std.specs.Prelude.{nat_lt, slice_index, Ok, if◌then◌else◌}
use Rattle.std.specs.List.{Contains}
use Rattle.job_types.specs.declared.fault.Fault.{Fault}
use Rattle.job_types.specs.declared.fault.Fault.TheVariants as fault
use Rattle.job_types.specs.declared.touch.Touch.{Touch}
use Rattle.job_types.specs.Own.{seen}
use Rattle.job_types.specs.Truth.{at_zero}
use Rattle.exchange_model.specs.declared.exchange.Exchange.{Exchange}
use Rattle.exchange_model.specs.declared.expr.Expr.{Expr}
use Rattle.exchange_model.specs.declared.stmt.Holder.{Holder}
use Rattle.exchange_model.specs.declared.stmt.Holder.TheVariants as holder
use Rattle.exchange_model.specs.declared.stmt.Receiver.{Receiver}
use Rattle.exchange_model.specs.declared.stmt.Receiver.TheVariants as receiver
use Rattle.exchange_model.specs.Cells.{Placed, field_cell}
use Rattle.source_meaning.specs.Named.{Layer, named_in}
use Rattle.source_meaning.specs.Value.{Got, Gives, Fails, expr_value, holder_value, answer_of}
use Rattle.source_meaning.specs.Value.{and_then, values_of, pointer_fault}
use Rattle.source_meaning.specs.Config.{Item, Config, receiver_of, base_of, files_of, sight}
use Rattle.source_meaning.specs.Changes.{fails, on_value, on_values, unless_fault, where_fits, goes}
use Rattle.source_meaning.specs.Changes.{to_label, at_record, at_receiver, to_receiver}
use Rattle.source_meaning.specs.Deeds.{Deed, Doing, IsExprOf, IsFileAt, MayUse, GoesTo, out, named}
use Rattle.source_meaning.specs.Deeds.{held, receiver_in, signal_in, at_variable, at_field}
use Rattle.source_meaning.specs.Deeds.{at_holder, IsLook, GoesOn, Why, in_value, no_receiver}
use Rattle.source_meaning.specs.Effects.{Effect, Leave, Looks, Goes, Faults, Effects, Done, Then}
use Rattle.source_meaning.specs.Effects.{Last}
use Rattle.source_meaning.proofs.Loads.{loads_in, IsLoadOf, of_variable, of_field, TellsLoads}
use Rattle.source_meaning.proofs.Loads.{FaultIs, expr_loads}
use Rattle.plex_num.proofs.Lists.{all_weaker}
use Rattle.plex_num.proofs.Members.{first_is, later_is}

-- the same job after other touches
abbrev pub traced : List Touch → Config → Config
traced t c = record c { world = record c.world { trace = t } }

-- effects that begin from the temporaries that the job has
abbrev pub Makes : Exchange → Deed → List Item → Config → Config → Type 0
Makes x deed rest c d = Effects x deed rest c.temps c d

-- values

module _ (x : Exchange) (deed : Deed) (rest : List Item) where
  pub one : (c d : Config) → Effect x deed rest c d → Makes x deed rest c d
  one c d e = Then c d d refl e (Done d)

  pub last : (c d : Config) → Leave x deed rest c d → Makes x deed rest c d
  last c d e = Last c d refl e

  -- a value is read off cells that the statement names, and if it fails the statement does
  abbrev pub Reads : Config → Got → Type 0
  Reads c got = TellsLoads (IsLook x c deed) (λ f. (t : List Touch) → Why x (traced t c) deed f) got

  pub value_effects : (got : Got) (c : Config) (go : ℕ → Config → Config) → Reads c got
      → ((t loads : List Touch) (v : ℕ) → got ≡ Gives loads v → Makes x deed rest (traced t c) (go v (traced t c))) → Makes x deed rest c (on_value got c go)
  value_effects (Gives loads v) c go reads more =
      let d : Config = record c { world = seen loads c.world } in
      Then c d (go v d) refl (Looks c loads reads.loads) (more (c.world.trace ++ loads) loads v refl)
  value_effects (Fails loads f) c go reads more =
      let d : Config = record c { world = seen loads c.world } in
      Then c d (fails f d) refl (Looks c loads reads.loads) (last d (fails f d) (Faults d f (reads.fault (c.world.trace ++ loads))))

  look_at : (c : Config) (e : Expr) → IsExprOf deed e → (t : Touch) → IsLoadOf (sight x c) (named_in e) t → IsLook x c deed t
  look_at c e of t (of_variable v at is) = record { cell = base_of x c.block + v; at = at_variable e v of at; is = is }
  look_at c e of t (of_field file field pointer p at there sound is) =
      record {
        cell = field_cell p (slice_index c.temps pointer) field;
        at = at_field e file field pointer p of at (record { there = there; sound = sound });
        is = is;
      }

  pub expr_reads : (c : Config) (e : Expr) → IsExprOf deed e → Reads c (expr_value e (sight x c))
  expr_reads c e of = record {
    loads = all_weaker (IsLoadOf (sight x c) (named_in e)) (IsLook x c deed) (loads_in (expr_value e (sight x c))) (look_at c e of) (expr_loads e (sight x c));
    fault = why (expr_value e (sight x c)) refl;
  }
    where
      why : (got : Got) → expr_value e (sight x c) ≡ got → FaultIs (λ f. (t : List Touch) → Why x (traced t c) deed f) got
      why (Gives loads v) is = tt
      why (Fails loads f) is = λ t. in_value e loads f of is

  -- the values of a list of expressions
  pub values_effects : (es : List Expr) (vs : List ℕ) (c : Config) (go : List ℕ → Config → Config) → ((e : Expr) → Contains es e → IsExprOf deed e)
      → ((t : List Touch) (ws : List ℕ) → values_of es vs (sight x c) ≡ Ok ws
      → Makes x deed rest (traced t c) (go ws (traced t c))) → Makes x deed rest c (on_values x es vs c go)
  values_effects [] vs c go of more = more c.world.trace vs refl
  values_effects (e ∷ es) vs c go of more =
      value_effects (expr_value e (sight x c)) c (λ v d. on_values x es (vs ++ v ∷ []) d go) (expr_reads c e (of e (first_is e es)))
      (λ t loads v is. values_effects es (vs ++ v ∷ []) (traced t c) go (λ e' at. of e' (later_is e e' es at))
      (λ u ws given. more u ws (ap (λ (r : Got). and_then (answer_of r) (λ w. values_of es (vs ++ w ∷ []) (sight x c))) is ∙ given)))

  -- tests

  pub branch : {c d e : Config} (b : Bool) → (b ≡ true → Makes x deed rest c d) → (b ≡ false → Makes x deed rest c e) → Makes x deed rest c (if b then d else e)
  branch true f g = f refl
  branch false f g = g refl

  pub zero_branch : {c d e : Config} (v : ℕ) → Makes x deed rest c d → Makes x deed rest c e → Makes x deed rest c (at_zero v d e)
  zero_branch zero f g = f
  zero_branch (suc v) f g = g

  pub fits_effects : (v width : ℕ) (c : Config) (go : Config → Config) → (v < 2 ^ width → Makes x deed rest c (go c))
      → (nat_lt v (2 ^ width) ≡ false → Why x c deed fault.Range) → Makes x deed rest c (where_fits v width c go)
  fits_effects v width c go more why =
      branch (nat_lt v (2 ^ width)) (λ is. more (ltb-true v (2 ^ width) is)) (λ is. last c (fails fault.Range c) (Faults c fault.Range (why is)))

  pub unless_effects : (found now : Option Fault) (c : Config) (go : Config → Config) → now ≡ found
      → (now ≡ None → Makes x deed rest c (go c)) → ((f : Fault) → now ≡ Some f → Why x c deed f)
      → Makes x deed rest c (unless_fault found c go)
  unless_effects None now c go is more why = more is
  unless_effects (Some f) now c go is more why = last c (fails f c) (Faults c f (why f is))

  -- a record of a file
  pub record_effects : (found : Option Placed) (file number : ℕ) (c : Config) (go : Placed → Config → Config)
      → slice_get (files_of x) file ≡ found → Makes x deed rest c c
      → ((p : Placed) → MayUse x c file number p → Makes x deed rest c (go p c))
      → ((p : Placed) (f : Fault) → IsFileAt x file p → pointer_fault c.own.chain file p number ≡ Some f
      → Why x c deed f)
      → Makes x deed rest c (at_record found file number c go)
  record_effects None file number c go is same more why = same
  record_effects (Some p) file number c go is same more why =
      unless_effects (pointer_fault c.own.chain file p number) (pointer_fault c.own.chain file p number) c (go p) refl
      (λ sound. more p (record { there = is; sound = sound })) (λ f at. why p f is at)

-- signals

module _ (x : Exchange) (p : ℕ) (l : Layer) (rest : List Item) where
  abbrev pub deed : Deed
  deed = Doing p l

  holder_reads : (c : Config) (h : Holder) → receiver_in l ≡ Some (receiver.Held h) → Reads x deed rest c (holder_value h (sight x c))
  holder_reads c (holder.Temporary t) is = record { loads = tt; fault = tt }
  holder_reads c (holder.Variable v) is = record { loads = (record { cell = base_of x c.block + v; at = at_holder p v is; is = refl }, tt); fault = tt }

  block_effects : (found now : Option ℕ) (c : Config) (go : ℕ → Config → Config) → now ≡ found
      → ((b : ℕ) → now ≡ Some b → Makes x deed rest c (go b c)) → (now ≡ None → Why x c deed fault.Pointer)
      → Makes x deed rest c (at_receiver found c go)
  block_effects None now c go is more why = last x deed rest c (fails fault.Pointer c) (Faults c fault.Pointer (why is))
  block_effects (Some b) now c go is more why = more b is

  pub receiver_effects : (to : Option Receiver) (c : Config) (go : ℕ → Config → Config) → receiver_in l ≡ to
      → ((t : List Touch) (b : ℕ) → GoesTo x (traced t c) (signal_in l) to b
      → Makes x deed rest (traced t c) (go b (traced t c)))
      → Makes x deed rest c (to_receiver x (signal_in l) to c go)
  receiver_effects None c go is more = more c.world.trace 0 out
  receiver_effects (Some (receiver.Block b)) c go is more = more c.world.trace b (named b)
  receiver_effects (Some (receiver.Held h)) c go is more =
      value_effects x deed rest (holder_value h (sight x c)) c (λ v d. at_receiver (receiver_of x (signal_in l) v) d go) (holder_reads c h is)
      (λ t loads v gives. block_effects (receiver_of x (signal_in l) v) (receiver_of x (signal_in l) v) (traced t c) go refl
      (λ b at. more t b (held h v b (record { loads = loads; is = gives }) at))
      (λ none. no_receiver p h v is (record { loads = loads; is = gives }) none))

  pub next : (c : Config) → GoesOn x rest c deed rest c.temps → Makes x deed rest c (goes rest c)
  next c on = one x deed rest c (goes rest c) (Goes c rest c.temps on)

  pub jump : (c : Config) (label : ℕ) → GoesOn x rest c deed (to_label x label c).todo c.temps → Makes x deed rest c (to_label x label c)
  jump c label on = one x deed rest c (to_label x label c) (Goes c (to_label x label c).todo c.temps on)
