-- An activation begins at the ENTER of its signal, and a job at the point of its entry.
use Rattle.std.proofs.Common.{◌≡◌, ⊎_elim, ℕ, zero, suc, ◌+◌, ◌-◌, Bool, true, false, List, [], ◌∷◌}
use Rattle.std.proofs.Common.{map, drop, length, Option, Some, None, refl, sym, ap, ◌∙◌, subst}
use Rattle.std.proofs.Common.{slice_get, arith}
use Rattle.std.proofs.lemmas.Bool.{cases_lt, eqb-true, eq-eqb, both_ways, or_left, or_right}
use Rattle.std.proofs.lemmas.Map.Keys.{IsDistinct-head, IsDistinct-tail}
use Rattle.std.proofs.lemmas.Option.{none-some, same_Some}
use Rattle.std.specs.Prelude.{nat_eq, ◌||◌, if◌then◌else◌}
use Rattle.std.specs.List.{AllByRecursion, IsDistinct, list_any, cons_option}
use Rattle.std.specs.Option.{option_map_or}
use Rattle.exchange_model.specs.declared.exchange.Exchange.{Exchange}
use Rattle.exchange_model.specs.declared.block.Block.{Block}
use Rattle.exchange_model.specs.declared.block.Enter.{Enter as Row}
use Rattle.exchange_model.specs.declared.entry.Entry.{Entry}
use Rattle.exchange_model.specs.declared.signal.SignalKind.{SignalKind}
use Rattle.exchange_model.specs.declared.signal.SignalKind.TheVariants.{Buffered, Direct, Combined}
use Rattle.exchange_model.specs.declared.signal.SignalKind.TheVariants.{Answer, Outside}
use Rattle.exchange_model.specs.declared.stmt.Stmt.{Stmt}
use Rattle.exchange_model.specs.declared.stmt.StmtKind.{out-StmtKind}
use Rattle.exchange_model.specs.declared.stmt.StmtKind.TheOpen as stmt
use Rattle.std.proofs.Math.Seq.{drop-nil}
use Rattle.exchange_model.specs.Kept.IsText.{ends, goes}
use Rattle.exchange_model.specs.Kept.{IsText, IsExchange, entered, row_at, enters_from, entry_of}
use Rattle.exchange_model.specs.Kept.{entry_at, entries_in, entries_from}
use Rattle.plex_num.proofs.Lists.{slice_get-append_left, slice_get-append_right}
use Rattle.source_meaning.specs.Config.{Do, Start, body_of, row_place, enter_place, is_receiver}
use Rattle.source_meaning.specs.Config.{starting}
use Rattle.exchange_model.specs.Kept.{is_enter}
use Rattle.source_meaning.specs.Named.{Layer}
use Rattle.source_meaning.specs.Rests.{IsRow, whole, BeginsAt, BeginsAs}
use Rattle.source_meaning.proofs.Rests.{rows_drop}

-- the first ENTER of a signal in a body, the first statement of which stands at `from`
record FirstEnter (from : ℕ) (body : List Stmt) (signal : ℕ) : Type 0 where
  place : ℕ
  at : row_place (enters_from from body) signal ≡ from + place
  stmt : Stmt
  rest : List Stmt
  is : drop place body ≡ stmt ∷ rest
  enters : entered (out-StmtKind stmt.kind) ≡ Some signal

first_enter : (from : ℕ) (body : List Stmt) (signal : ℕ)
    → list_any (λ (r : Row). nat_eq r.signal signal) (enters_from from body) ≡ true → FirstEnter from body signal
unfolding enters_from
first_enter from [] signal h = cc
first_enter from (s ∷ body) signal h = by (entered (out-StmtKind s.kind)) refl h (first_enter (from + 1) body signal)
  where
    later : (o : Option Row) → o ≡ row_at (entered (out-StmtKind s.kind)) from
        → row_place (cons_option o (enters_from (from + 1) body)) signal
        ≡ row_place (enters_from (from + 1) body) signal → FirstEnter (from + 1) body signal
        → FirstEnter from (s ∷ body) signal
    later o same skips r = record {
      place = suc r.place;
      at = ap (λ o. row_place (cons_option o (enters_from (from + 1) body)) signal) (sym same) ∙ skips ∙ r.at
          ∙ (let e : from + 1 + r.place ≡ from + suc r.place = omega arith in e);
      stmt = r.stmt;
      rest = r.rest;
      is = r.is;
      enters = r.enters;
    }

    one : (n : ℕ) (same : Bool) → nat_eq n signal ≡ same → entered (out-StmtKind s.kind) ≡ Some n
        → (same || list_any (λ (r : Row). nat_eq r.signal signal) (enters_from (from + 1) body)) ≡ true
        → (list_any (λ (r : Row). nat_eq r.signal signal) (enters_from (from + 1) body) ≡ true
        → FirstEnter (from + 1) body signal) → FirstEnter from (s ∷ body) signal
    one n true same is any more = record {
      place = 0;
      at = ap (λ o. row_place (cons_option (row_at o from) (enters_from (from + 1) body)) signal) is
          ∙ ap (λ b. if b then from else row_place (enters_from (from + 1) body) signal) same
          ∙ (let e : from ≡ from + 0 = omega arith in e);
      stmt = s;
      rest = body;
      is = refl;
      enters = is ∙ ap Some (eqb-true n signal same);
    }
    one n false same is any more =
        later (Some (record { signal = n; place = from })) (sym (ap (λ o. row_at o from) is))
        (ap (λ b. if b then from else row_place (enters_from (from + 1) body) signal) same) (more any)

    by : (found : Option ℕ) → entered (out-StmtKind s.kind) ≡ found
        → list_any (λ (r : Row). nat_eq r.signal signal) (cons_option (row_at found from) (enters_from (from + 1) body))
        ≡ true
        → (list_any (λ (r : Row). nat_eq r.signal signal) (enters_from (from + 1) body) ≡ true
        → FirstEnter (from + 1) body signal) → FirstEnter from (s ∷ body) signal
    by None is any more = later None (sym (ap (λ o. row_at o from) is)) refl (more any)
    by (Some n) is any more = one n (nat_eq n signal) refl is any more

-- an ENTER of a signal is one
enter_is : (l : Layer) (signal : ℕ) → entered l ≡ Some signal → is_enter l ≡ true
enter_is (stmt.Enter n temps) signal is = refl
enter_is (stmt.SetTemp temp e) signal is = cc
enter_is _ signal is = cc

-- what is left of a text is one
pub text_left : (n : ℕ) (body : List Stmt) (s : Stmt) (rest : List Stmt) → drop n body ≡ s ∷ rest → IsText body → IsText (s ∷ rest)
text_left zero body s rest is text = subst IsText is text
text_left (suc n) body s rest is (ends last) = let none = sym (drop-nil n) ∙ is in cc
text_left (suc n) body s rest is (goes more left) = text_left n _ s rest is left

-- an activation begins at the first ENTER of its signal
abbrev begins_from : (x : Exchange) → IsExchange x → (b signal : ℕ) (k : Block) → slice_get x.blocks b ≡ Some k
    → FirstEnter 0 k.body signal → BeginsAt x b signal
begins_from x kept b signal k there f =
    let enters = (kept.blocks.each b k there).enters in
    let none : 0 + f.place ≡ f.place = omega arith in
    let place : enter_place x b signal ≡ f.place =
    ap (λ o. option_map_or (λ (k : Block). row_place k.enters signal) o 0) there ∙ ap (λ rs. row_place rs signal) enters ∙ f.at ∙ none in
    let body : body_of x b ≡ k.body = ap (λ o. option_map_or (λ (k : Block). k.body) o []) there in
    let text : drop (enter_place x b signal) (body_of x b) ≡ f.stmt ∷ f.rest = ap (λ n. drop n (body_of x b)) place ∙ ap (drop f.place) body ∙ f.is in
    record {
      stmt = f.stmt;
      rest = f.rest;
      is = ap starting text ∙ ap (λ e. if e then Start f.stmt ∷ map Do f.rest else []) (enter_is (out-StmtKind f.stmt.kind) signal f.enters);
      enters = f.enters;
      row = subst (λ l. IsRow x b l None) f.is (rows_drop x b f.place k.body None (whole k there));
      text = text_left f.place k.body f.stmt f.rest f.is (kept.blocks.each b k there).text;
    }

pub activation_begins : (x : Exchange) → IsExchange x → (b signal : ℕ) (k : Block) → slice_get x.blocks b ≡ Some k
    → is_receiver signal k ≡ true → BeginsAt x b signal
activation_begins x kept b signal k there receives =
    begins_from x kept b signal k there (first_enter 0 k.body signal
    (subst (λ rs. list_any (λ (r : Row). nat_eq r.signal signal) rs ≡ true) (kept.blocks.each b k there).enters
    receives))

-- where a signal has one ENTER, that is the first

in_rows : (from : ℕ) (body : List Stmt) (signal j : ℕ) (s : Stmt) → slice_get body j ≡ Some s
    → entered (out-StmtKind s.kind) ≡ Some signal → (m : ℕ)
    → AllByRecursion (λ y. nat_eq m y ≡ false) (map (λ (r : Row). r.signal) (enters_from from body)) → m ≡ signal → ⊥
unfolding enters_from
in_rows from [] signal j s there enters m none same = none-some s there
in_rows from (t ∷ body) signal zero s there enters m none same =
    let is : entered (out-StmtKind t.kind) ≡ Some signal = ap (λ (z : Stmt). entered (out-StmtKind z.kind)) (same_Some t s there) ∙ enters in
    let rows = subst (λ o. AllByRecursion (λ y. nat_eq m y ≡ false)
    (map (λ (r : Row). r.signal) (cons_option (row_at o from) (enters_from (from + 1) body)))) is none in
    both_ways (nat_eq m signal) rows.0 (eq-eqb m signal same)
in_rows from (t ∷ body) signal (suc j) s there enters m none same = by (entered (out-StmtKind t.kind)) none
    (λ rest. in_rows (from + 1) body signal j s there enters m rest same)
  where
    by : (found : Option ℕ) → AllByRecursion (λ y. nat_eq m y ≡ false)
        (map (λ (r : Row). r.signal) (cons_option (row_at found from) (enters_from (from + 1) body)))
        → (AllByRecursion (λ y. nat_eq m y ≡ false) (map (λ (r : Row). r.signal) (enters_from (from + 1) body)) → ⊥) → ⊥
    by None rows more = more rows
    by (Some n) rows more = more rows.1

only_place : (from : ℕ) (body : List Stmt) (signal j : ℕ) (s : Stmt)
    → IsDistinct nat_eq (map (λ (r : Row). r.signal) (enters_from from body)) → slice_get body j ≡ Some s
    → entered (out-StmtKind s.kind) ≡ Some signal → row_place (enters_from from body) signal ≡ from + j
unfolding enters_from
only_place from [] signal j s once there enters = absurd (none-some s there)
only_place from (t ∷ body) signal zero s once there enters =
    let is : entered (out-StmtKind t.kind) ≡ Some signal = ap (λ (z : Stmt). entered (out-StmtKind z.kind)) (same_Some t s there) ∙ enters in
    ap (λ o. row_place (cons_option (row_at o from) (enters_from (from + 1) body)) signal) is
    ∙ ap (λ b. if b then from else row_place (enters_from (from + 1) body) signal) (eq-eqb signal signal refl) ∙ (let e : from ≡ from + 0 = omega arith in e)
only_place from (t ∷ body) signal (suc j) s once there enters = by (entered (out-StmtKind t.kind)) once
    (λ o. only_place (from + 1) body signal j s o there enters)
  where
    next : from + 1 + j ≡ from + suc j
    next = omega arith

    other : (n : ℕ) (same : Bool) → nat_eq n signal ≡ same
        → AllByRecursion (λ y. nat_eq n y ≡ false) (map (λ (r : Row). r.signal) (enters_from (from + 1) body))
        → row_place (enters_from (from + 1) body) signal ≡ from + 1 + j
        → (if same then from else row_place (enters_from (from + 1) body) signal) ≡ from + suc j
    other n true same none rest = absurd (in_rows (from + 1) body signal j s there enters n none (eqb-true n signal same))
    other n false same none rest = rest ∙ next

    by : (found : Option ℕ) → IsDistinct nat_eq (map (λ (r : Row). r.signal) (cons_option (row_at found from) (enters_from (from + 1) body)))
        → (IsDistinct nat_eq (map (λ (r : Row). r.signal) (enters_from (from + 1) body))
        → row_place (enters_from (from + 1) body) signal ≡ from + 1 + j)
        → row_place (cons_option (row_at found from) (enters_from (from + 1) body)) signal ≡ from + suc j
    by None o more = more o ∙ next
    by (Some n) o more =
        let rows = map (λ (r : Row). r.signal) (enters_from (from + 1) body) in
        other n (nat_eq n signal) refl (IsDistinct-head nat_eq n rows o) (more (IsDistinct-tail nat_eq n rows o))

-- the ENTER of an entry

record InBody (signals : List SignalKind) (b : ℕ) (body : List Stmt) (e : Entry) : Type 0 where
  place : ℕ
  stmt : Stmt
  there : slice_get body place ≡ Some stmt
  enters : entered (out-StmtKind stmt.kind) ≡ Some e.signal
  point : stmt.point ≡ e.point
  block : e.block ≡ b

in_body : (signals : List SignalKind) (b : ℕ) (body : List Stmt) (n : ℕ) (e : Entry)
    → slice_get (entries_in signals b body) n ≡ Some e → InBody signals b body e
in_body signals b [] n e there = absurd (none-some e there)
in_body signals b (s ∷ body) n e there = by (entered (out-StmtKind s.kind)) refl n there (λ m. in_body signals b body m e)
  where
    later : InBody signals b body e → InBody signals b (s ∷ body) e
    later r = record { place = suc r.place; stmt = r.stmt; there = r.there; enters = r.enters; point = r.point; block = r.block }

    at : (signal : ℕ) → entered (out-StmtKind s.kind) ≡ Some signal → (n : ℕ)
        → slice_get (record { block = b; signal = signal; point = s.point } ∷ entries_in signals b body) n ≡ Some e
        → ((m : ℕ) → slice_get (entries_in signals b body) m ≡ Some e → InBody signals b body e) → InBody signals b (s ∷ body) e
    at signal is zero here more =
        let own : Entry = record { block = b; signal = signal; point = s.point } in
        let same : own ≡ e = same_Some own e here in
        record {
          place = 0;
          stmt = s;
          there = refl;
          enters = is ∙ ap (λ (z : Entry). Some z.signal) same;
          point = ap (λ (z : Entry). z.point) same;
          block = ap (λ (z : Entry). z.block) (sym same);
        }
    at signal is (suc m) here more = later (more m here)

    kind : (signal : ℕ) → entered (out-StmtKind s.kind) ≡ Some signal → (found : Option SignalKind) → (n : ℕ)
        → slice_get (cons_option (entry_of found b signal s.point) (entries_in signals b body)) n ≡ Some e
        → ((m : ℕ) → slice_get (entries_in signals b body) m ≡ Some e → InBody signals b body e) → InBody signals b (s ∷ body) e
    kind signal is (Some (Buffered name level count)) n here more = at signal is n here more
    kind signal is (Some (Direct name count)) n here more = later (more n here)
    kind signal is (Some (Combined name count answer)) n here more = later (more n here)
    kind signal is (Some (Answer name count combined)) n here more = later (more n here)
    kind signal is (Some (Outside name count)) n here more = later (more n here)
    kind signal is None n here more = later (more n here)

    by : (found : Option ℕ) → entered (out-StmtKind s.kind) ≡ found → (n : ℕ)
        → slice_get (cons_option (entry_at signals found b s.point) (entries_in signals b body)) n ≡ Some e
        → ((m : ℕ) → slice_get (entries_in signals b body) m ≡ Some e → InBody signals b body e) → InBody signals b (s ∷ body) e
    by None is n here more = later (more n here)
    by (Some signal) is n here more = kind signal is (slice_get signals signal) n here more

record InBlocks (signals : List SignalKind) (from : ℕ) (blocks : List Block) (e : Entry) : Type 0 where
  ahead : ℕ
  owner : Block
  there : slice_get blocks ahead ≡ Some owner
  body : InBody signals (from + ahead) owner.body e

in_blocks : (signals : List SignalKind) (from : ℕ) (blocks : List Block) (n : ℕ) (e : Entry)
    → slice_get (entries_from signals from blocks) n ≡ Some e → InBlocks signals from blocks e
unfolding entries_from
in_blocks signals from [] n e there = absurd (none-some e there)
in_blocks signals from (k ∷ blocks) n e there =
    let own = entries_in signals from k.body in
    let rest = entries_from signals (from + 1) blocks in
    ⊎_elim
    (λ within.
    let first : from ≡ from + 0 = omega arith in
    record {
      ahead = 0;
      owner = k;
      there = refl;
      body = subst (λ b. InBody signals b k.body e) first
          (in_body signals from k.body n e (sym (slice_get-append_left own rest n within) ∙ there));
    })
    (λ past.
    let r = in_blocks signals (from + 1) blocks (n - length own) e (sym (slice_get-append_right own rest n past) ∙ there) in
    let next : from + 1 + r.ahead ≡ from + suc r.ahead = omega arith in
    record { ahead = suc r.ahead; owner = r.owner; there = r.there; body = subst (λ b. InBody signals b r.owner.body e) next r.body })
    (cases_lt n (length own))

enters_any : (from : ℕ) (body : List Stmt) (signal j : ℕ) (s : Stmt) → slice_get body j ≡ Some s
    → entered (out-StmtKind s.kind) ≡ Some signal
    → list_any (λ (r : Row). nat_eq r.signal signal) (enters_from from body) ≡ true
unfolding enters_from
enters_any from [] signal j s there enters = absurd (none-some s there)
enters_any from (t ∷ body) signal zero s there enters =
    let is : entered (out-StmtKind t.kind) ≡ Some signal = ap (λ (z : Stmt). entered (out-StmtKind z.kind)) (same_Some t s there) ∙ enters in
    ap (λ o. list_any (λ (r : Row). nat_eq r.signal signal) (cons_option (row_at o from) (enters_from (from + 1) body)))
    is ∙ or_left (nat_eq signal signal) (list_any (λ (r : Row). nat_eq r.signal signal)
    (enters_from (from + 1) body)) (eq-eqb signal signal refl)
enters_any from (t ∷ body) signal (suc j) s there enters = by (entered (out-StmtKind t.kind)) (enters_any (from + 1) body signal j s there enters)
  where
    by : (found : Option ℕ) → list_any (λ (r : Row). nat_eq r.signal signal) (enters_from (from + 1) body) ≡ true
        → list_any (λ (r : Row). nat_eq r.signal signal) (cons_option (row_at found from) (enters_from (from + 1) body))
        ≡ true
    by None any = any
    by (Some n) any = or_right (nat_eq n signal) (list_any (λ (r : Row). nat_eq r.signal signal) (enters_from (from + 1) body)) any

-- what stands at a place begins what is left from there
first_left : (xs : List Stmt) (p : ℕ) (s t : Stmt) (rest : List Stmt) → slice_get xs p ≡ Some s → drop p xs ≡ t ∷ rest → t ≡ s
first_left [] p s t rest there is = absurd (none-some s there)
first_left (x ∷ xs) zero s t rest there is = let same = same_Some x s there in cc
first_left (x ∷ xs) (suc p) s t rest there is = first_left xs p s t rest there is

-- a job begins at the point of its entry
pub entry_begins : (x : Exchange) → IsExchange x → (n : ℕ) (e : Entry) → slice_get x.entries n ≡ Some e → BeginsAs x e
entry_begins x kept n e there =
    let r = in_blocks x.signals 0 x.blocks n e (ap (λ es. slice_get es n) (sym kept.numbered.entries) ∙ there) in
    let i = r.body in
    let none : 0 + r.ahead ≡ r.ahead = omega arith in
    let at : slice_get x.blocks e.block ≡ Some r.owner = ap (slice_get x.blocks) (i.block ∙ none) ∙ r.there in
    let own = kept.blocks.each e.block r.owner at in
    let any : list_any (λ (r : Row). nat_eq r.signal e.signal) (enters_from 0 r.owner.body) ≡ true =
    enters_any 0 r.owner.body e.signal i.place i.stmt i.there i.enters in
    let f = first_enter 0 r.owner.body e.signal any in
    let once = subst (λ rs. IsDistinct nat_eq (map (λ (r : Row). r.signal) rs)) own.enters own.enters_once in
    let only : row_place (enters_from 0 r.owner.body) e.signal ≡ 0 + i.place = only_place 0 r.owner.body e.signal i.place i.stmt once i.there i.enters in
    let place : i.place ≡ f.place = (let a = only in let b = f.at in omega arith) in
    let same : f.stmt ≡ i.stmt = first_left r.owner.body i.place i.stmt f.stmt f.rest i.there (ap (λ m. drop m r.owner.body) place ∙ f.is) in
    record { begins = begins_from x kept e.block e.signal r.owner at f; point = ap (λ (s : Stmt). s.point) same ∙ i.point }
