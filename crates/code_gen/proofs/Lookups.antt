-- What look-ups find.
use Rattle.std.proofs.Common.{◌≡◌, ℕ, zero, suc, ◌+◌, ◌-◌, ◌≤◌, min, Bool, true, false, List, []}
use Rattle.std.proofs.Common.{◌∷◌, length, drop, Some, slice_get, slice_index, refl, sym, ap, ◌∙◌}
use Rattle.std.proofs.Common.{if◌then◌else◌}
use Rattle.std.proofs.Math.ListN.{drop_of_length-le}
use Rattle.std.proofs.Math.Seq.{drop-nil}
use Rattle.std.proofs.lemmas.Option.{none-some, same_Some}
use Rattle.exchange_model.specs.declared.exchange.Exchange.{Exchange}
use Rattle.exchange_model.specs.declared.block.Block.{Block}
use Rattle.exchange_model.specs.declared.block.Variable.{Variable}
use Rattle.exchange_model.specs.declared.stmt.Stmt.{Stmt}
use Rattle.exchange_model.specs.declared.stmt.StmtKind.{out-StmtKind}
use Rattle.exchange_model.specs.Cells.{Placed}
use Rattle.source_meaning.specs.Config.{body_of}
use Rattle.exchange_model.specs.Kept.{is_enter}
use Rattle.std.specs.Option.{option_map_or}
use Rattle.plex_num.proofs.Lists.{found_past, found_at}
use Rattle.source_meaning.specs.Changes.{field_width, variable_width}
use Rattle.source_meaning.proofs.Lookups.{body_past, body_is}
use Rattle.stmt_code.specs.Whole.{behind_enter}
use Rattle.code_gen.specs.declared.addresses.Addresses.{Addresses}
use Rattle.code_gen.specs.Addresses.{address_in, opens_with_enter}

pub address_none : (a : Addresses) (b place : ℕ) → length a.blocks ≤ b → a.end ≡ address_in a b place
address_none a b place past = sym (found_past a.blocks b a.end (λ places. slice_index places (min place (length places - 1))) past)

pub address_some : (a : Addresses) (b place n : ℕ) (places : List ℕ) → slice_get a.blocks b ≡ Some places
    → n ≡ slice_index places (min place (length places - 1)) → n ≡ address_in a b place
address_some a b place n places there is = is ∙ sym (found_at a.blocks b places a.end (λ places. slice_index places (min place (length places - 1))) there)

abbrev width_in : ℕ → Block → ℕ
width_in v k = option_map_or (λ (e : Variable). e.width) (slice_get k.variables v) 0

pub width_no_block : (x : Exchange) (b v : ℕ) → length x.blocks ≤ b → 0 ≡ variable_width x b v
width_no_block x b v past = sym (found_past x.blocks b 0 (width_in v) past)

pub width_none : (x : Exchange) (b v : ℕ) (k : Block) → slice_get x.blocks b ≡ Some k → length k.variables ≤ v → 0 ≡ variable_width x b v
width_none x b v k there past = sym (found_at x.blocks b k 0 (width_in v) there ∙ found_past k.variables v 0 (λ (e : Variable). e.width) past)

pub width_some : (x : Exchange) (b v : ℕ) (k : Block) (e : Variable) → slice_get x.blocks b ≡ Some k
    → slice_get k.variables v ≡ Some e → e.width ≡ variable_width x b v
width_some x b v k e there is = sym (found_at x.blocks b k 0 (width_in v) there ∙ found_at k.variables v e 0 (λ (e : Variable). e.width) is)

-- an ENTER at a place

pub opens_no_block : (x : Exchange) (b place : ℕ) → length x.blocks ≤ b → false ≡ opens_with_enter (drop place (body_of x b))
opens_no_block x b place past = sym (ap (λ ss. opens_with_enter (drop place ss)) (body_past x b past) ∙ ap opens_with_enter (drop-nil place))

pub opens_no_place : (x : Exchange) (b place : ℕ) (k : Block) → slice_get x.blocks b ≡ Some k → length k.body ≤ place
    → false ≡ opens_with_enter (drop place (body_of x b))
opens_no_place x b place k there past = sym (ap (λ ss. opens_with_enter (drop place ss)) (body_is x b k there)
    ∙ ap opens_with_enter (drop_of_length-le k.body past))

opened_at : (ss : List Stmt) (place : ℕ) (s : Stmt) → slice_get ss place ≡ Some s → opens_with_enter (drop place ss) ≡ is_enter (out-StmtKind s.kind)
opened_at [] place s e = absurd (none-some s e)
opened_at (t ∷ ss) zero s e = ap (λ (s : Stmt). is_enter (out-StmtKind s.kind)) (same_Some t s e)
opened_at (t ∷ ss) (suc place) s e = opened_at ss place s e

pub opens_at : (x : Exchange) (b place : ℕ) (k : Block) (s : Stmt) (is : Bool) → slice_get x.blocks b ≡ Some k
    → slice_get k.body place ≡ Some s → is ≡ is_enter (out-StmtKind s.kind)
    → is ≡ opens_with_enter (drop place (body_of x b))
opens_at x b place k s is there at e = e ∙ sym (ap (λ ss. opens_with_enter (drop place ss)) (body_is x b k there) ∙ opened_at k.body place s at)

-- fields

pub field_none : (p : Placed) (field : ℕ) → length p.file.fields ≤ field → 0 ≡ field_width p field
field_none p field past = sym (found_past p.file.fields field 0 (λ (e : Variable). e.width) past)

pub field_some : (p : Placed) (field : ℕ) (v : Variable) → slice_get p.file.fields field ≡ Some v → v.width ≡ field_width p field
field_some p field v there = sym (found_at p.file.fields field v 0 (λ (e : Variable). e.width) there)

-- the address at which a signal enters
pub enter_is : (ss : List Stmt) (a end n : ℕ) → opens_with_enter ss ≡ true → n ≡ a + 1 → n ≡ behind_enter ss a end
enter_is [] a end n e is = cc
enter_is (s ∷ ss) a end n e is = is ∙ sym (ap (λ t. if t then a + 1 else end) e)

pub no_enter_is : (ss : List Stmt) (a end : ℕ) → opens_with_enter ss ≡ false → end ≡ behind_enter ss a end
no_enter_is [] a end e = refl
no_enter_is (s ∷ ss) a end e = sym (ap (λ t. if t then a + 1 else end) e)
