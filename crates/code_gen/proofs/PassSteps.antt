-- The code of texts and of blocks is appended, and the addresses of their places are noted.
use Rattle.std.proofs.Common.{◌≡◌, ℕ, zero, suc, ◌+◌, ◌<◌, ◌≤◌, List, [], ◌∷◌, ◌++◌, length, map}
use Rattle.std.proofs.Common.{drop, get_or, Some, slice_get, refl, sym, ap, ◌∙◌, subst, arith}
use Rattle.std.proofs.Common.{append_assoc, append-nil, add-one, length-append}
use Rattle.std.proofs.Math.ListN.{drop_of_length-le}
use Rattle.std.proofs.lemmas.Option.{slice_get_read}
use Rattle.machine_code.specs.declared.op.Op.{Op}
use Rattle.machine_code.specs.declared.op.Op.TheVariants as op
use Rattle.exchange_model.specs.declared.exchange.Exchange.{Exchange}
use Rattle.exchange_model.specs.declared.block.Block.{Block}
use Rattle.exchange_model.specs.declared.entry.Entry.{Entry}
use Rattle.exchange_model.specs.declared.stmt.Stmt.{Stmt}
use Rattle.exchange_model.specs.Kept.{IsExchange}
use Rattle.store_layout.specs.Laid.{IsLayout}
use Rattle.source_meaning.specs.Config.{body_of}
use Rattle.std.specs.Option.{option_map_or}
use Rattle.plex_num.proofs.Lists.{opens}
use Rattle.stmt_code.specs.StmtCode.{Places, codes, kind_code, stmt_code}
use Rattle.stmt_code.specs.Whole.{places_of, code_upto}
use Rattle.code_gen.specs.declared.addresses.Addresses.{Addresses}
use Rattle.code_gen.specs.declared.setting.Setting.{Setting}
use Rattle.code_gen.specs.Addresses.{enter_in, table_in, addresses_from, places_upto, addresses_by}
use Rattle.code_gen.specs.Settings.{places_in, AreIn}
use Rattle.code_gen.proofs.Parts.{part_more}
use Rattle.code_gen.proofs.TextSteps.{list_opens, stmt_is}

-- the statements of a text

-- these statements are left of a text
pub record TextLeft (pl : Places) (old now : List Op) (places : List ℕ) (rest all : List Stmt) : Type 0 where
  pub code : now ++ codes (map stmt_code rest) pl 0 (length now) ≡ old ++ codes (map stmt_code all) pl 0 (length old)
  pub addresses : places ++ addresses_from (map stmt_code rest) pl (length now) ≡ addresses_from (map stmt_code all) pl (length old)

pub text_begin : (pl : Places) (old : List Op) (places : List ℕ) (ss given : List Stmt) → places ≡ [] → given ≡ ss → TextLeft pl old old places given ss
text_begin pl old places ss given none same = record {
  code = ap (λ l. old ++ codes (map stmt_code l) pl 0 (length old)) same;
  addresses = λ i. none i ++ addresses_from (map stmt_code (same i)) pl (length old);
}

numbers_assoc : (xs : List ℕ) (n : ℕ) (ys : List ℕ) → (xs ++ n ∷ []) ++ ys ≡ xs ++ n ∷ ys
numbers_assoc [] n ys = refl
numbers_assoc (x ∷ xs) n ys = ap (λ l. x ∷ l) (numbers_assoc xs n ys)

pub text_more : (pl : Places) (ss all : List Stmt) (i start : ℕ) (s : Stmt) (old now new : List Op)
    (places more : List ℕ) → i < length ss → s ≡ get_or ss i s → start ≡ length now → more ≡ places ++ start ∷ []
    → new ≡ now ++ kind_code s.kind pl s.point 0 start → TextLeft pl old now places (drop i ss) all
    → TextLeft pl old new more (drop (i + 1) ss) all
text_more pl ss all i start s old now new places more lt is at noted e h =
    let c = kind_code s.kind pl s.point 0 (length now) in
    let rest = map stmt_code (drop (i + 1) ss) in
    let made : new ≡ now ++ c = e ∙ ap (λ n. now ++ kind_code s.kind pl s.point 0 n) at in
    let long : length new ≡ length now + length c = ap length made ∙ length-append now c in
    let first = opens ss i s lt is in
    record {
      code = ap (λ n. new ++ codes rest pl 0 n) long
          ∙ part_more now new c (codes rest pl 0 (length now + length c)) (old ++ codes (map stmt_code all) pl 0 (length old)) made
          (sym (ap (λ l. now ++ l) (list_opens ss i s pl 0 (length now) lt is)) ∙ h.code);
      addresses = (λ j. more ++ addresses_from rest pl (long j))
          ∙ ap (λ l. l ++ addresses_from rest pl (length now + length c)) (noted ∙ ap (λ n. places ++ n ∷ []) at)
          ∙ numbers_assoc places (length now) (addresses_from rest pl (length now + length c))
          ∙ sym (ap (λ l. places ++ addresses_from (map stmt_code l) pl (length now)) first
          ∙ ap (λ (d : List Op). places ++ length now ∷ addresses_from rest pl (length now + length d))
          (stmt_is s pl 0 (length now)))
          ∙ h.addresses;
    }

pub text_code : (pl : Places) (ss all : List Stmt) (i : ℕ) (old now new : List Op) (places : List ℕ) → length ss ≤ i
    → TextLeft pl old now places (drop i ss) all → new ≡ now ++ op.End ∷ []
    → new ≡ old ++ (codes (map stmt_code all) pl 0 (length old) ++ op.End ∷ [])
text_code pl ss all i old now new places past h e =
    let none = drop_of_length-le ss past in
    let whole : now ≡ old ++ codes (map stmt_code all) pl 0 (length old) = sym (append-nil now)
    ∙ sym (ap (λ l. now ++ codes (map stmt_code l) pl 0 (length now)) none) ∙ h.code in
    e ∙ ap (λ l. l ++ op.End ∷ []) whole ∙ append_assoc old (codes (map stmt_code all) pl 0 (length old)) (op.End ∷ [])

pub text_places : (pl : Places) (ss all : List Stmt) (i end : ℕ) (old now : List Op) (places more : List ℕ)
    → length ss ≤ i → TextLeft pl old now places (drop i ss) all → end ≡ length now → more ≡ places ++ end ∷ []
    → more ≡ addresses_from (map stmt_code all) pl (length old)
text_places pl ss all i end old now places more past h at e =
    let none = drop_of_length-le ss past in
    e ∙ ap (λ n. places ++ n ∷ []) at ∙ sym (ap (λ l. places ++ addresses_from (map stmt_code l) pl (length now)) none) ∙ h.addresses

-- the blocks

-- the code of the first so many blocks
pub record BlocksMade (x : Exchange) (a : Addresses) (ops : List Op) (blocks : List (List ℕ)) (n : ℕ) : Type 0 where
  pub code : ops ≡ code_upto x (table_in x a) n
  pub addresses : blocks ≡ places_upto x (table_in x a) n
  pub within : n ≤ length x.blocks

pub pass_begin : (x : Exchange) (a : Addresses) (ops : List Op) (blocks : List (List ℕ)) → ops ≡ [] → blocks ≡ [] → BlocksMade x a ops blocks 0
unfolding code_upto places_upto
pass_begin x a ops blocks e1 e2 = record { code = e1; addresses = e2; within = omega arith }

pub pass_more : (x : Exchange) (a : Addresses) (s : Setting) (items : List Block) (n : ℕ) (k : Block)
    (now new : List Op) (blocks more : List (List ℕ)) (places : List ℕ) → items ≡ x.blocks → n < length items
    → k ≡ get_or items n k → s.exchange.now ≡ x → s.addresses.now ≡ a → s.block ≡ n
    → new ≡ now ++ (codes (map stmt_code k.body) (places_in s) 0 (length now) ++ op.End ∷ [])
    → places ≡ addresses_from (map stmt_code k.body) (places_in s) (length now) → more ≡ blocks ++ places ∷ []
    → BlocksMade x a now blocks n → BlocksMade x a new more (n + 1)
unfolding places_in code_upto places_upto
pass_more x a s items n k now new blocks more places from lt read ex ea en e ep em h =
    let t = table_in x a in
    let there : slice_get x.blocks n ≡ Some k = ap (λ (ks : List Block). slice_get ks n) (sym from) ∙ slice_get_read items (length items) n k refl lt read in
    let body : body_of x n ≡ k.body = ap (λ o. option_map_or (λ (k : Block). k.body) o []) there in
    let pl : places_in s ≡ places_of x t n = λ i. places_of (ex i) (table_in (ex i) (ea i)) (en i) in
    let start = h.code in
    subst (BlocksMade x a new more) (sym (add-one n)) record {
      code = e ∙ λ i. start i ++ (codes (map stmt_code (sym body i)) (pl i) 0 (length (start i)) ++ op.End ∷ []);
      addresses = em ∙ λ i. h.addresses i ++ (ep ∙ λ j. addresses_from (map stmt_code (sym body j)) (pl j) (length (start j))) i ∷ [];
      within = omega (arith, lt, ap length from);
    }

pub pass_ops : (x : Exchange) (a : Addresses) (items : List Block) (n : ℕ) (ops : List Op) (blocks : List (List ℕ))
    → items ≡ x.blocks → length items ≤ n → BlocksMade x a ops blocks n
    → ops ≡ code_upto x (table_in x a) (length x.blocks)
pass_ops x a items n ops blocks from past h =
    let all : n ≡ length x.blocks = omega (arith, past, h.within, ap length from) in
    h.code ∙ ap (code_upto x (table_in x a)) all

pub pass_addresses : (x : Exchange) (a : Addresses) (items : List Block) (n end : ℕ) (ops : List Op)
    (blocks : List (List ℕ)) → items ≡ x.blocks → length items ≤ n → BlocksMade x a ops blocks n → end ≡ length ops
    → record { blocks = blocks; end = end } ≡ addresses_by x (table_in x a)
pass_addresses x a items n end ops blocks from past h at =
    let all : n ≡ length x.blocks = omega (arith, past, h.within, ap length from) in
    let lists = h.addresses ∙ ap (places_upto x (table_in x a)) all in
    let ends = at ∙ ap length (h.code ∙ ap (code_upto x (table_in x a)) all) in
    λ i. record { blocks = lists i; end = ends i }

-- the text of a block
pub text_in : (s : Setting) (x : Exchange) (items : List Block) (n : ℕ) (k : Block) → IsExchange x
    → IsLayout x.blocks s.layout.now → items ≡ x.blocks → n < length items → k ≡ get_or items n k → s.exchange.now ≡ x
    → s.block ≡ n → AreIn s 0 k.body
text_in s x items n k kept layout from lt read ex en =
    let there : slice_get x.blocks n ≡ Some k = ap (λ (ks : List Block). slice_get ks n) (sym from) ∙ slice_get_read items (length items) n k refl lt read in
    let kept' : IsExchange s.exchange.now = subst IsExchange (sym ex) kept in
    let there' : slice_get s.exchange.now.blocks s.block ≡ Some k = (λ i. slice_get (ex i).blocks (en i)) ∙ there in
    let h = kept'.blocks.each s.block k there' in
    record {
      setting = record { kept = kept'; layout = subst (λ (y : Exchange). IsLayout y.blocks s.layout.now) (sym ex) layout };
      inside = record {
        block = k;
        there = there';
        limited = record { temporaries = h.temporaries; blocks = kept'.blocks.few };
        fits = h.statements;
        shallow = omega (arith, h.shallow);
      };
    }

-- entries

abbrev enters : Exchange → Addresses → List Entry → List ℕ
enters x a es = map (λ (e : Entry). enter_in x a e.block e.signal) es

pub entries_begin : (x : Exchange) (a : Addresses) (list : List ℕ) (es : List Entry) → list ≡ [] → es ≡ x.entries
    → list ++ map (λ (e : Entry). enter_in x a e.block e.signal) es
    ≡ map (λ (e : Entry). enter_in x a e.block e.signal) x.entries
entries_begin x a list es none same = λ i. none i ++ enters x a (same i)

entries_more : (x : Exchange) (a : Addresses) (s : Setting) (es : List Entry) (i n : ℕ) (e : Entry)
    (now new all : List ℕ) → i < length es → e ≡ get_or es i e → s.exchange.now ≡ x → s.addresses.now ≡ a
    → n ≡ (places_in s).enter e.block e.signal → new ≡ now ++ n ∷ []
    → now ++ map (λ (e : Entry). enter_in x a e.block e.signal) (drop i es) ≡ all
    → new ++ map (λ (e : Entry). enter_in x a e.block e.signal) (drop (i + 1) es) ≡ all
unfolding places_in
entries_more x a s es i n e now new all lt is ex ea at made h =
    let rest = enters x a (drop (i + 1) es) in
    let there : n ≡ enter_in x a e.block e.signal = at ∙ λ j. enter_in (ex j) (ea j) e.block e.signal in
    ap (λ l. l ++ rest) (made ∙ ap (λ m. now ++ m ∷ []) there) ∙ numbers_assoc now (enter_in x a e.block e.signal) rest
    ∙ sym (ap (λ l. now ++ enters x a l) (opens es i e lt is)) ∙ h

-- the item that was read, by whatever default
read_alike : (es : List Entry) (i : ℕ) (d e : Entry) → i < length es → get_or es i d ≡ get_or es i e
read_alike [] i d e lt = absurd (omega (arith, lt))
read_alike (x ∷ es) zero d e lt = refl
read_alike (x ∷ es) (suc i) d e lt = read_alike es i d e (omega (arith, lt))

pub entries_at : (x : Exchange) (a : Addresses) (s : Setting) (es : List Entry) (i n : ℕ) (d : Entry)
    (now new all : List ℕ) → i < length es → s.exchange.now ≡ x → s.addresses.now ≡ a
    → n ≡ (places_in s).enter (get_or es i d).block (get_or es i d).signal → new ≡ now ++ n ∷ []
    → now ++ map (λ (e : Entry). enter_in x a e.block e.signal) (drop i es) ≡ all
    → new ++ map (λ (e : Entry). enter_in x a e.block e.signal) (drop (i + 1) es) ≡ all
entries_at x a s es i n d now new all lt ex ea at made h = entries_more x a s es i n (get_or es i d) now new all lt
    (read_alike es i d (get_or es i d) lt) ex ea at made h

pub entries_end : (x : Exchange) (a : Addresses) (es : List Entry) (i : ℕ) (now all : List ℕ) → length es ≤ i
    → now ++ map (λ (e : Entry). enter_in x a e.block e.signal) (drop i es) ≡ all → now ≡ all
entries_end x a es i now all past h = none now ∙ sym (ap (λ l. now ++ enters x a l) (drop_of_length-le es past)) ∙ h
  where
    none : (xs : List ℕ) → xs ≡ xs ++ []
    none [] = refl
    none (x ∷ xs) = ap (λ l. x ∷ l) (none xs)
