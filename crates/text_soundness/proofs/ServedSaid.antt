-- All events of a block that breaks no rule, as the whole block has it.
use Rattle.std.proofs.Common.{◌≡◌, ℕ, ◌<◌, true, false, Bool, not, ◌&&◌, nat_eq, is_some, List}
use Rattle.std.proofs.Common.{length, take, Some, None, Option, refl, sym, ◌∙◌, ap, arith}
use Rattle.std.proofs.Common.{slice_get}
use Rattle.std.proofs.lemmas.Bool.{false≢true, not-false}
use Rattle.std.proofs.lemmas.Option.{slice_get_within}
use Rattle.first_fault.specs.First.{any}
use Rattle.exchange_model.specs.declared.signal.SignalKind.{SignalKind}
use Rattle.signal_types.specs.Found.{kind_in}
use Rattle.text_events.specs.declared.role.Meaning.{Meaning}
use Rattle.text_events.specs.declared.role.Meaning.TheVariants.{Variable, Temporary, File, Field}
use Rattle.text_events.specs.declared.role.Meaning.TheVariants.{Label}
use Rattle.text_events.specs.declared.role.Need.{Need}
use Rattle.text_events.specs.declared.role.Need.TheVariants as need
use Rattle.text_events.specs.Note.{Event, Note, Head, SignalWay, Open, To, Held, Declares, Signals}
use Rattle.text_events.specs.Note.{Signal, Carries, Block as BlockNote, BlockName, Cells, Width}
use Rattle.text_events.specs.Note.{Init, Size, Receives, Names, Begins, Uses, Reads, Counts, Refers}
use Rattle.text_events.specs.Note.{Goes, Searches, Compares, Holds, Chooses, Ends}
use Rattle.text_events.specs.Note as note
use Rattle.text_events.specs.Named.{naming_of}
use Rattle.plex_ast.specs.declared.block.Block.{Block}
use Rattle.text_rules.specs.Surveys.{block_named, receiver_count, receives_at, sends, enters}
use Rattle.text_rules.specs.declared.rule.LinkRule.TheVariants as link
use Rattle.text_rules.specs.Links.{is_outside, no_receiver, not_received, is_wrong_way}
use Rattle.text_rules.specs.Links.{is_not_received}
use Rattle.text_soundness.specs.Fine.{Text, IsFineText, links_known, AreFineLinks, IsFineBlock}
use Rattle.text_soundness.specs.Fine.{text_of}
use Rattle.text_soundness.specs.Served.{WayLeads, IsSending, HeadSaid, Said, SaidOf}
use Rattle.text_rules.specs.declared.rule.BlockRule.TheVariants as rule
use Rattle.text_rules.specs.Blocks.{labels, serves, is_plain_file, is_field_of, is_forlopp_file}
use Rattle.text_rules.specs.Blocks.{stands}
use Rattle.text_soundness.proofs.ServedWalks.{AllSo}
use Rattle.text_soundness.proofs.ServedWhole.{labelled_whole, stays_whole, passes}
use Rattle.plex_num.proofs.Lists.{all_from}

serves_none : (n : Need) → serves n None ≡ false
serves_none need.Value = refl
serves_none need.Temporary = refl
serves_none need.Field = refl

no_field : (o : Option Meaning) → is_field_of o None ≡ false
no_field (Some (File f forlopp)) = refl
no_field (Some (Variable v)) = refl
no_field (Some (Temporary v)) = refl
no_field (Some (Field f g)) = refl
no_field (Some (Label v)) = refl
no_field None = refl

false_and : (a b : Bool) → (not a && b) ≡ false → a ≡ false → b ≡ false
false_and true b h o = cc
false_and false b h o = h

module _ (text : Text) (own : Block) (done : List Event) (f : IsFineText text) (g : AreFineLinks text own done) where
  way_leads : (s : List ℕ) (way : SignalWay) (before : List Event) → is_wrong_way (links_known text own done before) s way ≡ false → WayLeads text.blocks s way
  way_leads s Open before h = tt
  way_leads s Held before h = tt
  way_leads s (To n) before h = here (block_named text.blocks n) refl h
    where
      here : (o : Option ℕ) → block_named text.blocks n ≡ o
          → is_not_received (links_known text own done before) s o ≡ false
          → (b : ℕ) × (block_named text.blocks n ≡ Some b) × (receives_at text.blocks b s ≡ true)
      here None is h = absurd cc
      here (Some b) is h = (b, is, not-false (receives_at text.blocks b s) h)

  sending : (s : List ℕ) (way : SignalWay) (before : List Event)
      → no_receiver (links_known text own done before) s way ≡ false
      → not_received (links_known text own done before) s way ≡ false → not (sends s own) ≡ false
      → IsSending text.signals text.blocks own s way
  sending s way before none wrong out = record {
    sent = not-false (sends s own) out;
    arrives = λ inside. record {
      received = false_and (is_outside (kind_in text.signals s)) (nat_eq (receiver_count text.blocks s) 0) none inside;
      leads = way_leads s way before (false_and (is_outside (kind_in text.signals s)) (is_wrong_way (links_known text own done before) s way) wrong inside);
    };
  }

  heads_said : (place line : ℕ) (here before after : Head)
      → slice_get text.whole place ≡ Some (record { line = line; note = Begins here before after })
      → HeadSaid text.signals text.blocks own here
  heads_said place line (note.Enters n count) before after at = f.each place
      (record { line = line; note = Begins (note.Enters n count) before after }) rule.WrongCount at
  heads_said place line (note.Sends n way count fresh) before after at =
      let e : Event = record { line = line; note = Begins (note.Sends n way count fresh) before after } in (
        (f.each place e rule.WrongCount at, f.each place e rule.WrongFresh at),
        sending n way (take place text.whole)
            (g.each place e link.NoReceiver at) (g.each place e link.NotReceived at) (g.each place e link.NotInSurvey at),
      )
  heads_said place line (note.Retrieves n count) before after at = f.each place
      (record { line = line; note = Begins (note.Retrieves n count) before after }) rule.WrongCount at
  heads_said place line (note.Returns n count) before after at = f.each place
      (record { line = line; note = Begins (note.Returns n count) before after }) rule.WrongCount at
  heads_said place line (note.Transfers n way) before after at =
      let e : Event = record { line = line; note = Begins (note.Transfers n way) before after } in
      sending n way (take place text.whole) (g.each place e link.NoReceiver at) (g.each place e link.NotReceived at) (g.each place e link.NotInSurvey at)
  heads_said place line note.Nothing before after at = tt
  heads_said place line note.Other before after at = tt

  said_at : (place line : ℕ) (note : Note) → place < length text.whole
      → slice_get text.whole place ≡ Some (record { line = line; note = note })
      → Said text.signals text.blocks own (naming_of text.whole) note
  said_at place line (Uses n need) inside at = passes text f (serves need) (serves_none need) n place (omega arith)
      (f.each place (record { line = line; note = Uses n need }) rule.WrongName at)
  said_at place line (Reads n need o) inside at = passes text f (serves need) (serves_none need) n place (omega arith)
      (f.each place (record { line = line; note = Reads n need o }) rule.WrongName at)
  said_at place line (Refers n o) inside at = not-false (is_some (block_named text.blocks n))
      (f.each place (record { line = line; note = Refers n o }) rule.NoBlock at)
  said_at place line (Receives n) inside at = not-false (enters n own) (g.each place (record { line = line; note = Receives n }) link.NoEnter at)
  said_at place line (Goes n) inside at = labelled_whole text f n
      (not-false (any (labels n) text.whole) (f.each place (record { line = line; note = Goes n }) rule.NoLabel at))
  said_at place line (Searches file) inside at = passes text f is_plain_file refl file place (omega arith)
      (f.each place (record { line = line; note = Searches file }) rule.NotSearched at)
  said_at place line (Compares field file) inside at =
      let broken : not (is_field_of (naming_of (take place text.whole) file) (naming_of (take place text.whole) field))
      ≡ false = f.each place (record { line = line; note = Compares field file }) rule.NotSearched at in
      here (naming_of (take place text.whole) file) refl
      (passes text f (is_field_of (naming_of (take place text.whole) file))
      (no_field (naming_of (take place text.whole) file)) field place (omega arith) broken)
    where
      here : (o : Option Meaning) → naming_of (take place text.whole) file ≡ o
          → is_field_of (naming_of (take place text.whole) file) (naming_of text.whole field) ≡ true
          → is_field_of (naming_of text.whole file) (naming_of text.whole field) ≡ true
      here (Some m) is t = ap (λ o. is_field_of o (naming_of text.whole field)) (stays_whole text f file m place (omega arith) is ∙ sym is) ∙ t
      here None is t = absurd (false≢true (sym (ap (λ o. is_field_of o (naming_of text.whole field)) is) ∙ t))
  said_at place line (Holds file) inside at = passes text f is_forlopp_file refl file place (omega arith)
      (f.each place (record { line = line; note = Holds file }) rule.NotHeld at)
  said_at place line (Names n role) inside at = not-false (stands role (kind_in text.signals n))
      (f.each place (record { line = line; note = Names n role }) rule.WrongSignal at)
  said_at place line (Begins here before after) inside at = heads_said place line here before after at
  said_at place line (Declares a b) inside at = tt
  said_at place line (Signals a) inside at = tt
  said_at place line (Signal a) inside at = tt
  said_at place line (Carries a) inside at = tt
  said_at place line BlockNote inside at = tt
  said_at place line (BlockName a) inside at = tt
  said_at place line (Cells a) inside at = tt
  said_at place line (Width a) inside at = tt
  said_at place line (Init a b) inside at = tt
  said_at place line (Size a) inside at = tt
  said_at place line (Counts a) inside at = tt
  said_at place line (Chooses a b) inside at = tt
  said_at place line Ends inside at = tt

pub said_whole : (text : Text) (own : Block) (done : List Event) → IsFineText text → AreFineLinks text own done
    → AllSo (Said text.signals text.blocks own (naming_of text.whole)) text.whole
unfolding AllSo
said_whole text own done f g = all_from (λ (e : Event). Said text.signals text.blocks own (naming_of text.whole) e.note)
    text.whole (λ i e at. said_at text own done f g i e.line e.note (slice_get_within text.whole i e at) at)

pub said_of : (signals : List SignalKind) (blocks : List Block) (b : Block) → IsFineBlock signals blocks b → SaidOf signals blocks b
unfolding AllSo
said_of signals blocks b fine = said_whole (text_of signals blocks b) b fine.before fine.fine fine.linked
