-- An exchange fits exactly where each entry and each FORLOPP FILE has its counterpart, and the
-- first that has none is the misfit.
use Rattle.std.proofs.Common.{◌≡◌, ◌↔◌, ◌⊎◌, inl, inr, ℕ, zero, suc, ◌<◌, Bool, true, false, not}
use Rattle.std.proofs.Common.{◌&&◌, cond, nat_eq, List, [], ◌∷◌, position, get_or, Option, Some}
use Rattle.std.proofs.Common.{None, slice_get, refl, sym, ap, ◌∙◌, subst, arith}
use Rattle.std.specs.Prelude.{nat_le}
use Rattle.std.specs.List.{find}
use Rattle.std.specs.Option.{option_and_then, option_map_or, option_or}
use Rattle.std.proofs.lemmas.Bool.{eq-eqb, eqb-true, le-leb, not-false, not-true, and_parts}
use Rattle.std.proofs.lemmas.Bool.{both_ways}
use Rattle.std.proofs.lemmas.List.Quantifiers.{position-Some}
use Rattle.std.proofs.lemmas.Option.{get_or_from_slice_get, none-some, same_Some, slice_get-get_or}
use Rattle.exchange_model.specs.declared.block.Block.{Block}
use Rattle.exchange_model.specs.declared.block.File.{File}
use Rattle.exchange_model.specs.declared.entry.Entry.{Entry}
use Rattle.exchange_model.specs.declared.exchange.Exchange.{Exchange}
use Rattle.exchange_model.specs.declared.signal.SignalKind.{SignalKind}
use Rattle.exchange_model.specs.Index.{is_entry}
use Rattle.exchange_model.specs.Kept.{IsExchange, signal_count, signal_name}
use Rattle.exchange_model.specs.Names.{names_of_blocks, names_of_signals, signal_level}
use Rattle.block_change.specs.declared.misfit.Misfit.{Misfit}
use Rattle.block_change.specs.declared.misfit.Misfit.TheVariants.{Entry as EntryMisfit}
use Rattle.block_change.specs.declared.misfit.Misfit.TheVariants.{File as FileMisfit}
use Rattle.block_change.specs.Counterparts.{Fits, HasEntry, HasFile, IsFirstEntry, IsFirstFile}
use Rattle.block_change.specs.Counterparts.{IsFirstMisfit}
use Rattle.block_change.specs.Misfits.{agree, entry_signal, first_lacking, first_misfit, has_entry}
use Rattle.block_change.specs.Misfits.{lacking, lacks, misfit, rank, takes}
use Rattle.block_change.specs.Names.{file_names, place_of}
use Rattle.block_change.specs.Same.{file_at, file_named, same_block, same_entry, same_signal}
use Rattle.block_change.proofs.Alike.{entries_there, files_there, find_none, lacks_not, named_self}
use Rattle.block_change.proofs.Alike.{one_rank, position_none, taken}
use Rattle.block_change.proofs.Distinct.{named_apart}
use Rattle.block_change.proofs.Entered.{entry_once}
use Rattle.block_change.proofs.Lists.{and_then, named_item, then_is}

-- ## Entries

has_from : (x y : Exchange) (r : Entry) → has_entry x y r ≡ true → HasEntry x y r
has_from x y r is = by (same_entry x y r) refl is
  where
    by : (o : Option ℕ) → same_entry x y r ≡ o → option_map_or (λ n. agree (slice_get x.signals r.signal) (entry_signal y n)) o false ≡ true → HasEntry x y r
    by None same there = absurd (cc)
    by (Some n) same there =
        let b = and_then (λ b. option_and_then (λ s. position (is_entry b s) y.entries)
        (same_signal x.signals y.signals r.signal)) (same_block x.blocks y.blocks r.block) n same in
        let s = and_then (λ s. position (is_entry b.0 s) y.entries) (same_signal x.signals y.signals r.signal) n b.2 in
        let k = and_then (λ (l : Block). place_of l.name (names_of_blocks y.blocks)) (slice_get x.blocks r.block) b.0 b.1 in
        let g = and_then (λ (l : SignalKind). place_of (signal_name l) (names_of_signals y.signals)) (slice_get x.signals r.signal) s.0 s.1 in
        let home = named_item (λ (l : Block). l.name) y.blocks k.0.name b.0 k.2 in
        let like = named_item signal_name y.signals (signal_name g.0) s.0 g.2 in
        let found = position-Some (is_entry b.0 s.0) y.entries n r s.2 in
        let q : Entry = get_or y.entries n r in
        let at : slice_get y.entries n ≡ Some q = slice_get-get_or y.entries n r found.0 in
        let parts = and_parts (nat_eq q.block b.0) (nat_eq q.signal s.0) found.1 in
        let block : q.block ≡ b.0 = eqb-true q.block b.0 parts.0 in
        let signal : q.signal ≡ s.0 = eqb-true q.signal s.0 parts.1 in
        let like_at : slice_get y.signals q.signal ≡ Some like.0 = ap (slice_get y.signals) signal ∙ like.1 in
        let known : entry_signal y n ≡ Some like.0 = then_is (λ (d : Entry). slice_get y.signals d.signal) (slice_get y.entries n) q (Some like.0) at like_at in
        let agreed : agree (Some g.0) (Some like.0) ≡ true = sym (ap (λ o. agree o (entry_signal y n)) g.1 ∙ ap (agree (Some g.0)) known) ∙ there in
        let both = and_parts (nat_eq (rank (signal_level (Some g.0))) (rank (signal_level (Some like.0))))
        (nat_eq (signal_count g.0) (signal_count like.0)) agreed in
        record {
          signal = g.0;
          signal_there = g.1;
          block = k.0;
          block_there = k.1;
          number = n;
          entry = q;
          there = at;
          like = like.0;
          like_there = like_at;
          home = home.0;
          home_there = ap (slice_get y.blocks) block ∙ home.1;
          alike = record {
            name = like.2;
            level = sym (one_rank (signal_level (Some g.0)) (signal_level (Some like.0))
                (eqb-true (rank (signal_level (Some g.0))) (rank (signal_level (Some like.0))) both.0));
            count = sym (eqb-true (signal_count g.0) (signal_count like.0) both.1);
          };
          one_name = home.2;
        }

has_back : (x y : Exchange) → IsExchange y → (r : Entry) → HasEntry x y r → has_entry x y r ≡ true
has_back x y kept r h =
    let q : Entry = h.entry in
    let block : same_block x.blocks y.blocks r.block ≡ Some q.block =
    then_is (λ (l : Block). place_of l.name (names_of_blocks y.blocks)) (slice_get x.blocks r.block) h.block (Some q.block) h.block_there
    (ap (λ n. place_of n (names_of_blocks y.blocks)) (sym h.one_name)
    ∙ named_self (λ (l : Block). l.name) y.blocks q.block h.home kept.blocks.names h.home_there) in
    let signal : same_signal x.signals y.signals r.signal ≡ Some q.signal =
    then_is (λ (l : SignalKind). place_of (signal_name l) (names_of_signals y.signals)) (slice_get x.signals r.signal) h.signal (Some q.signal) h.signal_there
    (ap (λ n. place_of n (names_of_signals y.signals)) (sym h.alike.name) ∙ named_self signal_name y.signals q.signal h.like kept.signals.names h.like_there) in
    let same : same_entry x y r ≡ Some h.number =
    then_is (λ b. option_and_then (λ s. position (is_entry b s) y.entries) (same_signal x.signals y.signals r.signal))
    (same_block x.blocks y.blocks r.block) q.block (Some h.number) block
    (then_is (λ s. position (is_entry q.block s) y.entries) (same_signal x.signals y.signals r.signal) q.signal
    (Some h.number) signal (entry_once y kept h.number q h.there)) in
    ap (λ o. option_map_or (λ n. agree (slice_get x.signals r.signal) (entry_signal y n)) o false) same
    ∙ ap (λ o. agree o (entry_signal y h.number)) h.signal_there
    ∙ ap (agree (Some h.signal)) (then_is (λ (d : Entry). slice_get y.signals d.signal) (slice_get y.entries h.number) q (Some h.like) h.there h.like_there)
    ∙ ap (λ b. b && nat_eq (signal_count h.signal) (signal_count h.like))
    (eq-eqb (rank (signal_level (Some h.signal))) (rank (signal_level (Some h.like))) (ap rank (sym h.alike.level)))
    ∙ eq-eqb (signal_count h.signal) (signal_count h.like) (sym h.alike.count)

-- ## Files

file_from : (y : Exchange) (block : List ℕ) (f : File) → takes (file_named y.blocks block f.name) f ≡ true → HasFile y block f
file_from y block f is = by (file_named y.blocks block f.name) refl is
  where
    by : (o : Option File) → file_named y.blocks block f.name ≡ o → takes o f ≡ true → HasFile y block f
    by None is there = absurd (cc)
    by (Some g) is there =
        let b = and_then (file_at y.blocks f.name) (place_of block (names_of_blocks y.blocks)) g is in
        let l = named_item (λ (k : Block). k.name) y.blocks block b.0 b.1 in
        let k = and_then (λ (k : Block). option_and_then (slice_get k.files) (place_of f.name (file_names k.files))) (slice_get y.blocks b.0) g b.2 in
        let j = and_then (slice_get k.0.files) (place_of f.name (file_names k.0.files)) g k.2 in
        let n = named_item (λ (h : File). h.name) k.0.files f.name j.0 j.1 in
        let one : n.0 ≡ g = same_Some n.0 g (sym n.1 ∙ j.2) in
        let own : l.0 ≡ k.0 = same_Some l.0 k.0 (sym l.1 ∙ k.1) in
        let t = taken g f there in
        record {
          number = b.0;
          home = k.0;
          home_there = k.1;
          one_name = ap (λ (h : Block). h.name) (sym own) ∙ l.2;
          place = j.0;
          file = g;
          there = j.2;
          own_name = ap (λ (h : File). h.name) (sym one) ∙ n.2;
          kind = t.0;
          size = t.1;
        }

file_back : (y : Exchange) → IsExchange y → (block : List ℕ) (f : File) → HasFile y block f → takes (file_named y.blocks block f.name) f ≡ true
file_back y kept block f h =
    let apart = (named_apart y h.number h.home (kept.blocks.each h.number h.home h.home_there)).files in
    let named : file_named y.blocks block f.name ≡ Some h.file =
    then_is (file_at y.blocks f.name) (place_of block (names_of_blocks y.blocks)) h.number (Some h.file)
    (ap (λ n. place_of n (names_of_blocks y.blocks)) (sym h.one_name)
    ∙ named_self (λ (l : Block). l.name) y.blocks h.number h.home kept.blocks.names h.home_there)
    (then_is (λ (l : Block). option_and_then (slice_get l.files) (place_of f.name (file_names l.files)))
    (slice_get y.blocks h.number) h.home (Some h.file) h.home_there
    (then_is (slice_get h.home.files) (place_of f.name (file_names h.home.files)) h.place (Some h.file)
    (ap (λ n. place_of n (file_names h.home.files)) (sym h.own_name) ∙ named_self (λ (g : File). g.name) h.home.files h.place h.file apart h.there) h.there)) in
    ap (λ o. takes o f) named ∙ ap (λ t. t && nat_le f.size h.file.size) h.kind ∙ le-leb f.size h.file.size h.size

has_file : (y : Exchange) (block : List ℕ) (f : File) → lacks y block f ≡ false → f.forlopp ≡ true → HasFile y block f
has_file y block f without kind = file_from y block f (lacks_not y block f kind without)

lacks_none : (y : Exchange) → IsExchange y → (block : List ℕ) (f : File) → (f.forlopp ≡ true → HasFile y block f) → lacks y block f ≡ false
lacks_none y kept block f has = by f.forlopp refl
  where
    by : (t : Bool) → f.forlopp ≡ t → lacks y block f ≡ false
    by false is = ap (λ t. t && not (takes (file_named y.blocks block f.name) f)) is
    by true is = ap (λ t. t && not (takes (file_named y.blocks block f.name) f)) is ∙ ap not (file_back y kept block f (has is))

-- a FORLOPP FILE that has no counterpart
record IsLacked (y : Exchange) (block : List ℕ) (f : File) : Type 0 where
  kind : f.forlopp ≡ true
  lacked : HasFile y block f → ⊥

lacked_is : (y : Exchange) → IsExchange y → (block : List ℕ) (f : File) → lacks y block f ≡ true → IsLacked y block f
lacked_is y kept block f is =
    let parts = and_parts f.forlopp (not (takes (file_named y.blocks block f.name) f)) is in
    record {
      kind = parts.0;
      lacked = λ h. both_ways (takes (file_named y.blocks block f.name) f)
          (not-true (takes (file_named y.blocks block f.name) f) parts.1) (file_back y kept block f h);
    }

-- ## No misfit

none_found : {X : Type 0} (p : X → Bool) (xs : List X) (d : X) → ((i : ℕ) (a : X) → slice_get xs i ≡ Some a → p a ≡ false) → position p xs ≡ None
none_found {X} p xs d each = by (position p xs) refl
  where
    by : (o : Option ℕ) → position p xs ≡ o → o ≡ None
    by None is = refl
    by (Some i) is =
        let found = position-Some p xs i d is in
        absurd (both_ways (p (get_or xs i d)) (each i (get_or xs i d) (slice_get-get_or xs i d found.0)) found.1)

find_nothing : {X : Type 0} (p : X → Bool) (xs : List X) → ((i : ℕ) (a : X) → slice_get xs i ≡ Some a → p a ≡ false) → find p xs ≡ None
find_nothing p [] each = refl
find_nothing p (x ∷ xs) each = ap (λ b. cond b (Some x) (find p xs)) (each 0 x refl) ∙ find_nothing p xs (λ i a at. each (suc i) a at)

none_lacks : (y : Exchange) (blocks : List Block) → ((b : ℕ) (k : Block) → slice_get blocks b ≡ Some k → lacking y k ≡ None) → first_lacking y blocks ≡ None
unfolding first_lacking
none_lacks y [] each = refl
none_lacks y (k ∷ rest) each = ap (λ o. option_or o (first_lacking y rest)) (each 0 k refl) ∙ none_lacks y rest (λ b l at. each (suc b) l at)

-- any entry
no_entry : Entry
no_entry = record { block = 0; signal = 0; point = 0 }

pub fits_none : (x y : Exchange) → IsExchange y → Fits x y → misfit x y ≡ None
fits_none x y kept fits =
    ap (λ o. first_misfit o (first_lacking y x.blocks))
    (none_found (λ r. not (has_entry x y r)) x.entries no_entry
    (λ e r at. ap not (has_back x y kept r (fits.entries e r at))))
    ∙ ap (first_misfit None) (none_lacks y x.blocks
    (λ b k at. find_nothing (lacks y k.name) k.files
    (λ j f own. lacks_none y kept k.name f (fits.files b j k f at own))))

pub none_is : (x y : Exchange) → IsExchange y → (misfit x y ≡ None) ↔ Fits x y
none_is x y kept = (
  λ none. record {
    entries = λ e r at. has_from x y r (entries_there x y none e r at);
    files = λ b j k f at own kind. has_file y k.name f (files_there x y none b j k f at own) kind;
  },
  fits_none x y kept,
)

-- ## The first misfit

first_entry : (x y : Exchange) → IsExchange y → (e : ℕ) → position (λ r. not (has_entry x y r)) x.entries ≡ Some e → IsFirstEntry x y e
first_entry x y kept e is =
    let found = position-Some (λ r. not (has_entry x y r)) x.entries e no_entry is in
    let r : Entry = get_or x.entries e no_entry in
    record {
      entry = r;
      there = slice_get-get_or x.entries e no_entry found.0;
      lacked = λ h. both_ways (has_entry x y r) (not-true (has_entry x y r) found.1) (has_back x y kept r h);
      before = λ i q less at.
          let same : get_or x.entries i no_entry ≡ q = get_or_from_slice_get x.entries i q no_entry at in
          has_from x y q (not-false (has_entry x y q) (ap (λ s. not (has_entry x y s)) (sym same) ∙ found.2 i less));
    }

-- the first file of these that has no counterpart, and those before it
record FirstOf (y : Exchange) (block : List ℕ) (files : List File) (f : File) : Type 0 where
  place : ℕ
  there : slice_get files place ≡ Some f
  lacks_it : lacks y block f ≡ true
  before : (j : ℕ) (g : File) → j < place → slice_get files j ≡ Some g → lacks y block g ≡ false

first_of : (y : Exchange) (block : List ℕ) (files : List File) (f : File) → find (lacks y block) files ≡ Some f → FirstOf y block files f
first_of y block [] f is = absurd (none-some f is)
first_of y block (g ∷ files) f is = by (lacks y block g) refl is (λ more. first_of y block files f more)
  where
    by : (b : Bool) → lacks y block g ≡ b → cond b (Some g) (find (lacks y block) files) ≡ Some f
        → (find (lacks y block) files ≡ Some f → FirstOf y block files f) → FirstOf y block (g ∷ files) f
    by true here is more = let same : g ≡ f = same_Some g f is in record {
      place = 0;
      there = is;
      lacks_it = ap (lacks y block) (sym same) ∙ here;
      before = λ j h less at. absurd (omega (arith, less));
    }
    by false here is more =
        let r = more is in
        record { place = suc r.place; there = r.there; lacks_it = r.lacks_it; before = earlier r }
      where
        earlier : (r : FirstOf y block files f) → (j : ℕ) (h : File) → j < suc r.place → slice_get (g ∷ files) j ≡ Some h → lacks y block h ≡ false
        earlier r zero h less at = ap (lacks y block) (sym (same_Some g h at)) ∙ here
        earlier r (suc j) h less at = r.before j h (omega (arith, less)) at

-- the same of blocks
record FirstIn (y : Exchange) (blocks : List Block) (f : File) : Type 0 where
  block : ℕ
  owner : Block
  owner_there : slice_get blocks block ≡ Some owner
  own : FirstOf y owner.name owner.files f
  before : (b : ℕ) (k : Block) → b < block → slice_get blocks b ≡ Some k → lacking y k ≡ None

first_in : (y : Exchange) (blocks : List Block) (f : File) → first_lacking y blocks ≡ Some f → FirstIn y blocks f
unfolding first_lacking
first_in y [] f is = absurd (none-some f is)
first_in y (k ∷ rest) f is = by (lacking y k) refl is (λ more. first_in y rest f more)
  where
    by : (o : Option File) → lacking y k ≡ o → option_or o (first_lacking y rest) ≡ Some f
        → (first_lacking y rest ≡ Some f → FirstIn y rest f) → FirstIn y (k ∷ rest) f
    by (Some g) here is more = record {
      block = 0;
      owner = k;
      owner_there = refl;
      own = first_of y k.name k.files f (here ∙ is);
      before = λ b l less at. absurd (omega (arith, less));
    }
    by None here is more =
        let r = more is in
        record { block = suc r.block; owner = r.owner; owner_there = r.owner_there; own = r.own; before = earlier r }
      where
        earlier : (r : FirstIn y rest f) → (b : ℕ) (l : Block) → b < suc r.block → slice_get (k ∷ rest) b ≡ Some l → lacking y l ≡ None
        earlier r zero l less at = ap (lacking y) (sym (same_Some k l at)) ∙ here
        earlier r (suc b) l less at = r.before b l (omega (arith, less)) at

no_file : (y : Exchange) (k : Block) → lacking y k ≡ None → (j : ℕ) (f : File) → slice_get k.files j ≡ Some f → f.forlopp ≡ true → HasFile y k.name f
no_file y k none j f own kind = has_file y k.name f (find_none (lacks y k.name) k.files none j f own) kind

first_file : (x y : Exchange) → IsExchange y → (f : File) → position (λ r. not (has_entry x y r)) x.entries ≡ None
    → first_lacking y x.blocks ≡ Some f → IsFirstFile x y f.number
first_file x y kept f none is =
    let i = first_in y x.blocks f is in
    let lacked = lacked_is y kept i.owner.name f i.own.lacks_it in
    record {
      entries = λ e r at. has_from x y r (not-false (has_entry x y r) (position_none (λ s. not (has_entry x y s)) x.entries none e r at));
      block = i.block;
      owner = i.owner;
      owner_there = i.owner_there;
      place = i.own.place;
      file = f;
      there = i.own.there;
      number_is = refl;
      kind = lacked.kind;
      lacked = lacked.lacked;
      before = λ b j k g less at own kind. earlier i b j k g less at own kind;
    }
  where
    earlier : (i : FirstIn y x.blocks f) → (b j : ℕ) (k : Block) (g : File)
        → (b < i.block) ⊎ ((b ≡ i.block) × (j < i.own.place)) → slice_get x.blocks b ≡ Some k
        → slice_get k.files j ≡ Some g → g.forlopp ≡ true → HasFile y k.name g
    earlier i b j k g (inl less) at own kind = no_file y k (i.before b k less at) j g own kind
    earlier i b j k g (inr here) at own kind =
        let same : i.owner ≡ k = same_Some i.owner k (sym i.owner_there ∙ ap (slice_get x.blocks) (sym here.0) ∙ at) in
        let within : slice_get i.owner.files j ≡ Some g = ap (λ (l : Block). slice_get l.files j) same ∙ own in
        subst (λ (l : Block). HasFile y l.name g) same (has_file y i.owner.name g (i.own.before j g here.1 within) kind)

pub first_is : (x y : Exchange) → IsExchange y → (m : Misfit) → misfit x y ≡ Some m → IsFirstMisfit x y m
first_is x y kept m is = by (position (λ r. not (has_entry x y r)) x.entries) refl (first_lacking y x.blocks) refl is
  where
    by : (o : Option ℕ) → position (λ r. not (has_entry x y r)) x.entries ≡ o → (p : Option File)
        → first_lacking y x.blocks ≡ p → first_misfit o p ≡ Some m → IsFirstMisfit x y m
    by (Some e) at p lack is = subst (IsFirstMisfit x y) (same_Some (EntryMisfit e) m is) (first_entry x y kept e at)
    by None at (Some f) lack is = subst (IsFirstMisfit x y) (same_Some (FileMisfit f.number) m is) (first_file x y kept f at lack)
    by None at None lack is = absurd (none-some m is)
