-- Steps of the loops over ENTERs.
use Rattle.std.proofs.Common.{◌≡◌, ℕ, ◌+◌, ◌<◌, ◌≤◌, List, [], ◌∷◌, ◌++◌, length, drop, get_or}
use Rattle.std.proofs.Common.{Option, Some, None, refl, sym, ◌∙◌, ap}
use Rattle.std.specs.List.{cons_option}
use Rattle.std.proofs.Math.ListN.{drop_of_length-le}
use Rattle.std.proofs.lemmas.List.{append_assoc, append-nil}
use Rattle.plex_num.proofs.Lists.{opens}
use Rattle.exchange_model.specs.declared.block.Block.{Block}
use Rattle.exchange_model.specs.declared.entry.Entry.{Entry}
use Rattle.exchange_model.specs.declared.signal.SignalKind.{SignalKind}
use Rattle.exchange_model.specs.declared.stmt.Stmt.{Stmt}
use Rattle.exchange_model.specs.declared.stmt.StmtKind.{out-StmtKind}
use Rattle.exchange_model.specs.Kept.{entered, entry_at, entries_in, entries_from}

abbrev pub entry_here : List SignalKind → ℕ → Stmt → Option Entry
entry_here signals b s = entry_at signals (entered (out-StmtKind s.kind)) b s.point

-- the entries so far, and those of the statements that are left, are all
pub record BodyEntered (signals : List SignalKind) (b : ℕ) (body : List Stmt) (i : ℕ) (now old : List Entry) : Type 0 where
  pub all : now ++ entries_in signals b (drop i body) ≡ old ++ entries_in signals b body

pub body_begin : (signals : List SignalKind) (b : ℕ) (body : List Stmt) (old : List Entry) → BodyEntered signals b body 0 old old
body_begin signals b body old = record { all = refl }

next_entry : (signals : List SignalKind) (b : ℕ) (body : List Stmt) (i : ℕ) (s : Stmt) → i < length body
    → s ≡ get_or body i s → entries_in signals b (drop i body)
    ≡ cons_option (entry_here signals b s) (entries_in signals b (drop (i + 1) body))
next_entry signals b body i s inside is = ap (entries_in signals b) (opens body i s inside is)

pub body_none : (signals : List SignalKind) (b : ℕ) (body : List Stmt) (i : ℕ) (s : Stmt) (now old : List Entry)
    → i < length body → s ≡ get_or body i s → None ≡ entry_here signals b s → BodyEntered signals b body i now old
    → BodyEntered signals b body (i + 1) now old
body_none signals b body i s now old inside is none g = record {
  all = sym (ap (λ l. now ++ l) (next_entry signals b body i s inside is
      ∙ ap (λ o. cons_option o (entries_in signals b (drop (i + 1) body))) (sym none))) ∙ g.all;
}

pub body_more : (signals : List SignalKind) (b : ℕ) (body : List Stmt) (i : ℕ) (s : Stmt) (e : Entry)
    (now new old : List Entry) → i < length body → s ≡ get_or body i s → Some e ≡ entry_here signals b s
    → new ≡ now ++ e ∷ [] → BodyEntered signals b body i now old → BodyEntered signals b body (i + 1) new old
body_more signals b body i s e now new old inside is some h g =
    let rest = entries_in signals b (drop (i + 1) body) in
    record {
      all = ap (λ l. l ++ rest) h ∙ append_assoc now (e ∷ []) rest
          ∙ ap (λ l. now ++ l) (sym (next_entry signals b body i s inside is ∙ ap (λ o. cons_option o rest) (sym some))) ∙ g.all;
    }

pub body_end : (signals : List SignalKind) (b : ℕ) (body : List Stmt) (i : ℕ) (now old : List Entry) → length body ≤ i
    → BodyEntered signals b body i now old → now ≡ old ++ entries_in signals b body
body_end signals b body i now old past g = sym (append-nil now) ∙ ap (λ l. now ++ entries_in signals b l) (sym (drop_of_length-le body past)) ∙ g.all

pub ruleset bodies = (body_begin, body_none, body_more, body_end)

-- the same of blocks
pub record Entered (signals : List SignalKind) (blocks : List Block) (i : ℕ) (list : List Entry) : Type 0 where
  pub all : list ++ entries_from signals i (drop i blocks) ≡ entries_from signals 0 blocks

pub entries_begin : (signals : List SignalKind) (blocks : List Block) (list : List Entry) → list ≡ [] → Entered signals blocks 0 list
entries_begin signals blocks list none = record { all = ap (λ l. l ++ entries_from signals 0 blocks) none }

pub entries_step : (signals : List SignalKind) (blocks : List Block) (i : ℕ) (k : Block) (list new : List Entry)
    → i < length blocks → k ≡ get_or blocks i k → new ≡ list ++ entries_in signals i k.body
    → Entered signals blocks i list → Entered signals blocks (i + 1) new
unfolding entries_from
entries_step signals blocks i k list new inside is h g = record {
  all = ap (λ l. l ++ entries_from signals (i + 1) (drop (i + 1) blocks)) h
      ∙ append_assoc list (entries_in signals i k.body) (entries_from signals (i + 1) (drop (i + 1) blocks))
      ∙ ap (λ l. list ++ entries_from signals i l) (sym (opens blocks i k inside is)) ∙ g.all;
}

pub entries_end : (signals : List SignalKind) (blocks : List Block) (i : ℕ) (list : List Entry) → length blocks ≤ i
    → Entered signals blocks i list → list ≡ entries_from signals 0 blocks
unfolding entries_from
entries_end signals blocks i list past g = sym (append-nil list) ∙ ap (λ l. list ++ entries_from signals i l) (sym (drop_of_length-le blocks past)) ∙ g.all
