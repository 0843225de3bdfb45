-- Which words the seats of a shared store may touch.
--
-- A word is a place among the values that the seat sees, and a number that an instruction can hold.
use Rattle.std.specs.Prelude.{◌≡◌, ℕ, ◌<◌, ◌^◌, Bool, true, not, ◌&&◌}
use Rattle.std.proofs.lemmas.Bool.{and_parts}
use Rattle.machine_code.specs.Permits.{may_read, may_write}
use Rattle.machine_code.specs.Listed.{is_word_of, word_fits}
use Rattle.shared_store.specs.declared.view.Lent.{Lent}
use Rattle.shared_store.specs.declared.view.Top.{Top}
use Rattle.shared_store.specs.Loans.{lent_out, seen_by}

-- the words that the job of a loan may read, and those that it may write
abbrev pub readable : Lent → ℕ → Bool
readable l w = is_word_of l.base w && may_read l.permit w

abbrev pub writable : Lent → ℕ → Bool
writable l w = is_word_of l.base w && may_write l.permit w

-- the words that the root may read and write while these loans are live
abbrev pub free_to_read : Top → ℕ → Bool
free_to_read t w = is_word_of t.values w && not (lent_out t.loans w)

abbrev pub free_to_write : Top → ℕ → Bool
free_to_write t w = is_word_of t.values w && not (seen_by t.loans w)

-- all of them are below 2^32

pub readable_fits : (l : Lent) (w : ℕ) → readable l w ≡ true → w < 2 ^ 32
readable_fits l w e = word_fits l.base w (and_parts (is_word_of l.base w) (may_read l.permit w) e).0

pub writable_fits : (l : Lent) (w : ℕ) → writable l w ≡ true → w < 2 ^ 32
writable_fits l w e =
    word_fits l.base w (and_parts (is_word_of l.base w) (may_write l.permit w) e).0

pub free_to_read_fits : (t : Top) (w : ℕ) → free_to_read t w ≡ true → w < 2 ^ 32
free_to_read_fits t w e =
    word_fits t.values w (and_parts (is_word_of t.values w) (not (lent_out t.loans w)) e).0

pub free_to_write_fits : (t : Top) (w : ℕ) → free_to_write t w ≡ true → w < 2 ^ 32
free_to_write_fits t w e =
    word_fits t.values w (and_parts (is_word_of t.values w) (not (seen_by t.loans w)) e).0
