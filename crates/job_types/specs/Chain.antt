-- One chain: the records that a forlopp holds, in the order in which it seized them.
--
-- Of a record that stood twice the first one would leave. No chain of a valid state has such a
-- record.
use Rattle.std.specs.Prelude.{ℕ, Bool, ◌&&◌, nat_eq, List, [], ◌∷◌, if◌then◌else◌}
use Rattle.std.specs.List.{list_any}
use Rattle.job_types.specs.declared.chain.Held.{Held}

-- the record is that of this number in this file
abbrev pub is_record : ℕ → ℕ → Held → Bool
is_record file number h = nat_eq h.file file && nat_eq h.number number

-- the chain has the record of the file
abbrev pub holds : List Held → ℕ → ℕ → Bool
holds chain file number = list_any (is_record file number) chain

-- the chain without a record, the others in their order
abbrev pub without : List Held → ℕ → ℕ → List Held
without [] file number = []
without (h ∷ rest) file number =
    (if is_record file number h then rest else h ∷ without rest file number)
