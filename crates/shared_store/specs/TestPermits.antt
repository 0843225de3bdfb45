-- Permits that the tests lend.
use Rattle.std.specs.Prelude.{◌≡◌, ℕ, List, [], ◌∷◌}
use Rattle.machine_code.specs.declared.permit.Permit.{Permit}
use Rattle.shared_store.specs.declared.view.Lent.{Lent}
use Rattle.shared_store.specs.Loans.{Has}
use Rattle.shared_store.specs.OneWord.{one_word}

-- one word may be read, and one may be written
abbrev pub adding : ℕ → ℕ → Permit
adding step own = record { reads = one_word step ∷ []; writes = one_word own ∷ [] }

-- one word may be read, and none may be written
abbrev pub reading : ℕ → Permit
reading w = record { reads = one_word w ∷ []; writes = [] }

-- each loan of the list may read that word one_word, and write none
abbrev pub AllReading : ℕ → List Lent → Type 0
AllReading w ls = (l : Lent) → Has ls l → l.permit ≡ reading w
