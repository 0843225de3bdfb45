-- The exchange text of a load of n calls: eight blocks in a ring.
--
-- A call goes round twice, from B1 through B8 and back to B1, and counts its steps in a record of
-- each block. B1 seizes a line for it and frees the line at the end; B4 also counts tones, B8 bills
-- the call, and lets each sixteenth one fault.
use Rattle.std.specs.Prelude.{ℕ, nat_eq, List, [], ◌∷◌, ◌++◌, codes, if◌then◌else◌}
use Rattle.std.specs.List.{flat_map, range_with_len}
use Rattle.load_maker.specs.Patterns.{filled, text_of}

-- the signal on which a call comes to a block
unfoldable pub call_signal : List ℕ
call_signal = text_of (codes "SIGNAL Si SINGLE BUFFERED B DATA 3;" ∷ [])

-- the signals on which a tone is counted, a call is billed and its end is told
unfoldable pub other_signals : List ℕ
other_signals = text_of (
    codes "SIGNAL TONE SINGLE BUFFERED A DATA 1;" ∷
    codes "SIGNAL BILL SINGLE BUFFERED C DATA 1;" ∷
    codes "SIGNAL DONE OUTSIDE DATA 2;" ∷
    [])

-- a block that counts a step of the call and sends it on
unfoldable pub plain_block : List ℕ
plain_block = text_of (
    codes "BLOCK Bi;" ∷
    codes "DECLARE; TEMPORARY C; TEMPORARY R; TEMPORARY L;" ∷
    codes "FILE CALLS SIZE n; FIELD STEPS WIDTH 8;" ∷
    codes "SURVEY; RECEIVE Si; SEND Sj;" ∷
    codes "PROGRAM;" ∷
    codes "ENTER Si WITH C, R, L;" ∷
    codes "STEPS(C) = STEPS(C) + 1;" ∷
    codes "SEND Sj WITH C, R, L;" ∷
    codes "EXIT;" ∷
    codes "END BLOCK;" ∷
    [])

-- the same, with a tone for each call
unfoldable pub tone_block : List ℕ
tone_block = text_of (
    codes "BLOCK Bi;" ∷
    codes "DECLARE; TEMPORARY C; TEMPORARY R; TEMPORARY L; VARIABLE TONES WIDTH 32;" ∷
    codes "FILE CALLS SIZE n; FIELD STEPS WIDTH 8;" ∷
    codes "SURVEY; RECEIVE Si; SEND Sj; RECEIVE TONE; SEND TONE;" ∷
    codes "PROGRAM;" ∷
    codes "ENTER Si WITH C, R, L;" ∷
    codes "STEPS(C) = STEPS(C) + 1;" ∷
    codes "SEND TONE WITH C;" ∷
    codes "SEND Sj WITH C, R, L;" ∷
    codes "EXIT;" ∷
    codes "ENTER TONE WITH C;" ∷
    codes "TONES = TONES + 1;" ∷
    codes "EXIT;" ∷
    codes "END BLOCK;" ∷
    [])

-- the block in which a call begins and ends
unfoldable pub first_block : List ℕ
first_block = text_of (
    codes "BLOCK Bi;" ∷
    codes "DECLARE; TEMPORARY C; TEMPORARY R; TEMPORARY L;" ∷
    codes "FILE CALLS SIZE n; FIELD STEPS WIDTH 8;" ∷
    codes "FORLOPP FILE LINE SIZE n; FIELD OWNER WIDTH 32;" ∷
    codes "SURVEY; RECEIVE Si; SEND Sj; SEND DONE;" ∷
    codes "PROGRAM;" ∷
    codes "ENTER Si WITH C, R, L;" ∷
    codes "IF R = 2 GOTO FINISH;" ∷
    codes "STEPS(C) = STEPS(C) + 1;" ∷
    codes "IF R = 1 GOTO FORTH;" ∷
    codes "SEIZE L IN LINE ELSE GOTO BUSY;" ∷
    codes "OWNER(L) = C;" ∷
    codes "FORTH) SEND Sj WITH C, R, L;" ∷
    codes "EXIT;" ∷
    codes "FINISH) FREE L IN LINE;" ∷
    codes "SEND DONE WITH C, STEPS(C);" ∷
    codes "EXIT;" ∷
    codes "BUSY) EXIT;" ∷
    codes "END BLOCK;" ∷
    [])

-- the block that sends a call on its second round, and to its end
unfoldable pub last_block : List ℕ
last_block = text_of (
    codes "BLOCK Bi;" ∷
    codes "DECLARE; TEMPORARY C; TEMPORARY R; TEMPORARY L; VARIABLE BILLED WIDTH 32;" ∷
    codes "FILE CALLS SIZE n; FIELD STEPS WIDTH 8;" ∷
    codes "SURVEY; RECEIVE Si; RECEIVE BILL; SEND S1; SEND BILL;" ∷
    codes "PROGRAM;" ∷
    codes "ENTER Si WITH C, R, L;" ∷
    codes "IF R = 0 THEN STEPS(C) = STEPS(C) + 1; SEND S1 WITH C, 1, L; EXIT; FI;" ∷
    codes "IF C MOD 16 = 15 THEN STEPS(C) = 256; FI;" ∷
    codes "STEPS(C) = STEPS(C) + 1;" ∷
    codes "SEND S1 WITH C, 2, L;" ∷
    codes "SEND BILL WITH C;" ∷
    codes "EXIT;" ∷
    codes "ENTER BILL WITH C;" ∷
    codes "BILLED = BILLED + 1;" ∷
    codes "EXIT;" ∷
    codes "END BLOCK;" ∷
    [])

-- the pattern of block Bi
abbrev pub block : ℕ → List ℕ
block i =
    (if nat_eq i 1 then first_block else
    (if nat_eq i 4 then tone_block else
    (if nat_eq i 8 then last_block else
    plain_block)))

-- the signal of block Bi
unfoldable pub signal_text : ℕ → ℕ → List ℕ
signal_text n i = filled n i call_signal

-- block Bi
unfoldable pub block_text : ℕ → ℕ → List ℕ
block_text n i = filled n i (block i)

-- the whole text
unfoldable pub exchange_text : ℕ → List ℕ
exchange_text n =
    flat_map (signal_text n) (range_with_len 1 8)
    ++ other_signals
    ++ flat_map (block_text n) (range_with_len 1 8)
