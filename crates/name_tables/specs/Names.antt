-- The names of the two tables, each in its order.
use Rattle.std.specs.Prelude.{ℕ, List, [], ◌∷◌, codes}

-- the keywords of the language
abbrev pub keyword_names : List (List ℕ)
keyword_names =
    codes "SIGNAL" ∷ codes "SINGLE" ∷ codes "COMBINED" ∷ codes "BUFFERED" ∷ codes "DIRECT" ∷
    codes "OUTSIDE" ∷ codes "DATA" ∷ codes "ANSWER" ∷ codes "BLOCK" ∷ codes "DECLARE" ∷
    codes "VARIABLE" ∷ codes "TEMPORARY" ∷ codes "FILE" ∷ codes "FORLOPP" ∷ codes "FIELD" ∷
    codes "WIDTH" ∷ codes "SIZE" ∷ codes "INIT" ∷ codes "SURVEY" ∷ codes "RECEIVE" ∷ codes "SEND" ∷
    codes "PROGRAM" ∷ codes "END" ∷ codes "GOTO" ∷ codes "IF" ∷ codes "THEN" ∷ codes "ELSE" ∷
    codes "FI" ∷ codes "CASE" ∷ codes "IS" ∷ codes "WHEN" ∷ codes "DO" ∷ codes "OTHERWISE" ∷
    codes "ESAC" ∷ codes "ON" ∷ codes "FROM" ∷ codes "UPTO" ∷ codes "NO" ∷ codes "FOR" ∷
    codes "FIRST" ∷ codes "IN" ∷ codes "WHERE" ∷ codes "ENTER" ∷ codes "WITH" ∷ codes "REFERENCE" ∷
    codes "NEW" ∷ codes "RETRIEVE" ∷ codes "RETURN" ∷ codes "TRANSFER" ∷ codes "EXIT" ∷
    codes "SEIZE" ∷ codes "FREE" ∷ codes "AND" ∷ codes "OR" ∷ codes "MOD" ∷ codes "CLEAR" ∷ []

-- the instructions of the machine
abbrev pub operation_names : List (List ℕ)
operation_names =
    codes "STMT" ∷ codes "LDI" ∷ codes "LDT" ∷ codes "STT" ∷ codes "LDE" ∷ codes "LDA" ∷
    codes "ADD" ∷ codes "SUB" ∷ codes "MUL" ∷ codes "DIV" ∷ codes "REM" ∷ codes "EQ" ∷ codes "NE" ∷
    codes "LT" ∷ codes "LE" ∷ codes "GT" ∷ codes "GE" ∷ codes "AND" ∷ codes "OR" ∷ codes "JMP" ∷
    codes "JZ" ∷ codes "LDW" ∷ codes "STW" ∷ codes "CKW" ∷ codes "CKP" ∷ codes "OWN" ∷ codes "LDX" ∷
    codes "STX" ∷ codes "CKF" ∷ codes "CHN" ∷ codes "UNC" ∷ codes "ARG" ∷ codes "SND" ∷
    codes "DIR" ∷ codes "CALL" ∷ codes "RET" ∷ codes "TRF" ∷ codes "END" ∷ []
