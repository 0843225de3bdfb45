-- The addresses of the places of all texts, and the table that they make.
--
-- A text has one place more than it has statements. What lies past a text, or past the last block,
-- stands where the text or the code ends, so that each place has an address.
use Rattle.std.specs.Prelude.{ℕ, zero, suc, ◌+◌, ◌-◌, min, Bool, false, List, [], ◌∷◌, ◌++◌, length}
use Rattle.std.specs.Prelude.{map, drop, slice_get, slice_index}
use Rattle.exchange_model.specs.declared.exchange.Exchange.{Exchange}
use Rattle.exchange_model.specs.declared.stmt.Stmt.{Stmt}
use Rattle.exchange_model.specs.declared.stmt.StmtKind.{out-StmtKind}
use Rattle.source_meaning.specs.Config.{body_of, label_of, enter_place}
use Rattle.exchange_model.specs.Kept.{is_enter}
use Rattle.std.specs.Option.{option_map_or}
use Rattle.stmt_code.specs.StmtCode.{Places, StmtCode, stmt_code}
use Rattle.stmt_code.specs.Whole.{Table, places_of, code_upto, behind_enter}
use Rattle.code_gen.specs.declared.addresses.Addresses.{Addresses}

-- the address of a place of a block's text
abbrev pub address_in : Addresses → ℕ → ℕ → ℕ
address_in a b place = option_map_or (λ places. slice_index places (min place (length places - 1)))
    (slice_get a.blocks b) a.end

abbrev pub no_addresses : Addresses
no_addresses = record { blocks = []; end = 0 }

-- whether the first of these statements is an ENTER
abbrev pub opens_with_enter : List Stmt → Bool
opens_with_enter [] = false
opens_with_enter (s ∷ rest) = is_enter (out-StmtKind s.kind)

abbrev pub enter_in : Exchange → Addresses → ℕ → ℕ → ℕ
enter_in x a b signal = behind_enter (drop (enter_place x b signal) (body_of x b))
    (address_in a b (enter_place x b signal)) a.end

-- the addresses of labels and of ENTERs
abbrev pub table_in : Exchange → Addresses → Table
table_in x a = record { label = λ b l. address_in a b (label_of x b l); enter = enter_in x a }

-- the addresses of the places of a text that stands at an address
abbrev pub addresses_from : List StmtCode → Places → ℕ → List ℕ
addresses_from [] pl a = a ∷ []
addresses_from (c ∷ cs) pl a = a ∷ addresses_from cs pl (a + length (c pl 0 a))

-- the addresses that the code of the first so many blocks has, made with this table
unfoldable pub places_upto : Exchange → Table → ℕ → List (List ℕ)
places_upto x t zero = []
places_upto x t (suc n) = places_upto x t n ++ addresses_from (map stmt_code (body_of x n))
    (places_of x t n) (length (code_upto x t n)) ∷ []

abbrev pub addresses_by : Exchange → Table → Addresses
addresses_by x t = record {
  blocks = places_upto x t (length x.blocks);
  end = length (code_upto x t (length x.blocks));
}
