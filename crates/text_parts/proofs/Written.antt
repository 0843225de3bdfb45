-- Parts that are written one after the other.
use Rattle.std.proofs.Common.{◌≡◌, ℕ, suc, ◌+◌, ◌<◌, ◌≤◌, List, [], ◌∷◌, ◌++◌, length, take, drop}
use Rattle.std.proofs.Common.{Option, None, Some, refl, sym, ap, ◌∙◌, arith, append_assoc}
use Rattle.std.proofs.Common.{append-nil, length-append}
use Rattle.std.specs.List.{concat}
use Rattle.std.proofs.lemmas.List.{drop_all, take-append-le}
use Rattle.std.specs.Option.{unwrap_or}
use Rattle.std.proofs.lemmas.Option.{get_or_from_slice_get}
use Rattle.plex_num.proofs.Lists.{opens, some_at}
use Rattle.plex_io.specs.Written.{appended, WroteLess}
use Rattle.plex_io.proofs.Prefixes.{appended_none}
use Rattle.text_parts.specs.Parts.{part_at}

-- what was written, and what is left
pub record WroteParts (old now : Option (List ℕ)) (rest all : List ℕ) : Type 0 where
  pub done : List ℕ
  pub wrote : now ≡ appended old done
  pub same : done ++ rest ≡ all

pub appended_twice : (old now new : Option (List ℕ)) (some more : List ℕ) → now ≡ appended old some
    → new ≡ appended now more → new ≡ appended old (some ++ more)
appended_twice None now new some more first then = then ∙ ap (λ o. appended o more) first
appended_twice (Some held) now new some more first then = then ∙ ap (λ o. appended o more) first ∙ ap Some (append_assoc held some more)

take_in : (text rest : List ℕ) (n : ℕ) → n < length text → take n (text ++ rest) ≡ take n text
take_in text rest n lt = take-append-le n text rest (omega (arith, lt))

take_past : (done text : List ℕ) (n : ℕ) → take (length done + n) (done ++ text) ≡ done ++ take n text
take_past [] text n = ap (λ k. take k text) (let z : 0 + n ≡ n = omega arith in z)
take_past (b ∷ done) text n =
    ap (λ k. take k (b ∷ (done ++ text))) (let next : length (b ∷ done) + n
    ≡ suc (length done + n) = omega arith in next) ∙ ap (λ l. b ∷ l) (take_past done text n)

-- a proper prefix of what comes next is one of all
pub less_of_all : (old now new : Option (List ℕ)) (done text rest all : List ℕ) → now ≡ appended old done
    → done ++ (text ++ rest) ≡ all → WroteLess now new text → WroteLess old new all
less_of_all old now new done text rest all wrote same less =
    let both = ap length (sym same) ∙ length-append done (text ++ rest) in
    let inner = length-append text rest in
    let lt = less.less in
    record {
      count = length done + less.count;
      less = omega (arith, lt, both, inner);
      bytes =
          appended_twice old now new done (take less.count text) wrote less.bytes
          ∙ ap (appended old) (ap (λ t. done ++ t) (sym (take_in text rest less.count lt))
          ∙ sym (take_past done (text ++ rest) less.count) ∙ ap (take (length done + less.count)) same);
    }

-- what comes last is not written whole
pub rest_fails : (old now new : Option (List ℕ)) (done rest all : List ℕ) → now ≡ appended old done → done ++ rest ≡ all
    → WroteLess now new rest → WroteLess old new all
rest_fails old now new done rest all wrote same less = less_of_all old now new done rest [] all wrote (ap (λ t. done ++ t) (append-nil rest) ∙ same) less

-- the first of two texts is not written whole
pub front_fails : (old new : Option (List ℕ)) (front rest all : List ℕ) → front ++ rest ≡ all → WroteLess old new front → WroteLess old new all
front_fails old new front rest all same less = less_of_all old old new [] front rest all (appended_none old) same less

module _ (parts : List (List ℕ)) where
  abbrev pub left_from : ℕ → List ℕ
  left_from i = concat (drop i parts)

  pub parts_begin : (old : Option (List ℕ)) → WroteParts old old (left_from 0) (concat parts)
  parts_begin old = record { done = []; wrote = appended_none old; same = refl }

  -- the part at this place, and those behind it
  opened : (i : ℕ) (part : List ℕ) → i < length parts → part ≡ part_at parts i → left_from i ≡ part ++ left_from (i + 1)
  opened i part lt is =
      let there = some_at parts i lt in
      let same : part ≡ there.0 = is ∙ ap (λ o. unwrap_or o []) there.1 in
      ap concat (opens parts i part lt (same ∙ sym (get_or_from_slice_get parts i there.0 part there.1)))

  pub parts_more : (old now new : Option (List ℕ)) (i : ℕ) (part : List ℕ) → i < length parts → part ≡ part_at parts i
      → WroteParts old now (left_from i) (concat parts)
      → new ≡ appended now part → WroteParts old new (left_from (i + 1)) (concat parts)
  parts_more old now new i part lt is before wrote = record {
    done = before.done ++ part;
    wrote = appended_twice old now new before.done part before.wrote wrote;
    same = append_assoc before.done part (left_from (i + 1)) ∙ ap (λ l. before.done ++ l) (sym (opened i part lt is)) ∙ before.same;
  }

  pub parts_fail : (old now new : Option (List ℕ)) (i : ℕ) (part : List ℕ) → i < length parts → part ≡ part_at parts i
      → WroteParts old now (left_from i) (concat parts)
      → WroteLess now new part → WroteLess old new (concat parts)
  parts_fail old now new i part lt is before less =
      less_of_all old now new before.done part (left_from (i + 1)) (concat parts) before.wrote
      (ap (λ l. before.done ++ l) (sym (opened i part lt is)) ∙ before.same) less

  pub parts_end : (old now : Option (List ℕ)) (i count : ℕ) → count ≡ length parts → count ≤ i
      → WroteParts old now (left_from i) (concat parts) → now ≡ appended old (concat parts)
  parts_end old now i count is past before =
      let none : left_from i ≡ [] = ap concat (drop_all i parts (omega (arith, is, past))) in
      before.wrote ∙ ap (appended old) (sym (append-nil before.done) ∙ ap (λ l. before.done ++ l) (sym none) ∙ before.same)
