-- What a function of the parser tells of a reading.
use Rattle.std.specs.Prelude.{◌≡◌, Result, Ok, Err}
use Rattle.token_grammar.specs.declared.fault.Fault.{Fault}
use Rattle.token_grammar.specs.declared.fault.Fault.TheVariants as faults
use Rattle.plex_lexer.specs.declared.cursor.Cursor.{Cursor}
use Rattle.plex_lexer.specs.Cursors.{ahead}
use Rattle.token_grammar.specs.Reading.{Stuck, Reader}

abbrev pub Fails : {Y : Type 0} → Fault → Result Y Stuck → Type 0
Fails faults.Memory read = Unit {0}
Fails (faults.Stuck left deep) read = read ≡ Err (record { left = left; deep = deep })

-- it read this, or it stopped there, or no memory was found
abbrev pub GivesOrStops : {X Y : Type 0} → (X → Y) → Result X Fault → Result Y Stuck → Type 0
GivesOrStops view (Ok x) read = read ≡ Ok (view x)
GivesOrStops view (Err e) read = Fails e read

abbrev pub IsGiven : {X : Type 0} → X → Result X Fault → Type 0
IsGiven x (Ok y) = y ≡ x
IsGiven x (Err faults.Memory) = Unit {0}
IsGiven x (Err (faults.Stuck left deep)) = ⊥

-- a function of the parser does what a reader does with the tokens ahead
abbrev pub Reads : {Y : Type 0} → Result (Y × Cursor) Fault → Reader Y → Cursor → Type 0
Reads result reader tokens = GivesOrStops (λ x. (x.0, ahead x.1)) result (reader (ahead tokens))
