-- The table of instructions: what each row says of the instruction that stands at it.
use Rattle.std.proofs.Common.{◌≡◌, ℕ, ◌<◌, ◌≤◌, List, [], ◌∷◌, length, map, get_or, slice_get}
use Rattle.std.proofs.Common.{Option, Some, None, unwrap_or, refl, sym, ap, subst, ◌∙◌, arith}
use Rattle.std.proofs.Common.{decimal}
use Rattle.std.specs.List.{range_with_len}
use Rattle.std.proofs.lemmas.List.{get_or-map}
use Rattle.std.proofs.lemmas.Option.{slice_get_past}
use Rattle.std.proofs.lemmas.List.FromFn.{get_or-range_with_len}
use Rattle.name_tables.proofs.Places.{found_has_name}
use Rattle.name_tables.specs.Names.{operation_names}
use Rattle.name_tables.specs.Rows.{place_of}
use Rattle.machine_code.specs.declared.op.Op.{Op}
use Rattle.machine_code.specs.declared.op.Op.TheVariants.{Stmt, Ldi, Ldt, Stt, Lde, Lda, Add, Sub}
use Rattle.machine_code.specs.declared.op.Op.TheVariants.{Mul, Div, Rem, Eq, Ne, Lt, Le, Gt, Ge}
use Rattle.machine_code.specs.declared.op.Op.TheVariants.{And, Or, Jmp, Jz, Ldw, Stw, Ckw, Ckp, Own}
use Rattle.machine_code.specs.declared.op.Op.TheVariants.{Ldx, Stx, Ckf, Chn, Unc, Arg, Snd, Dir}
use Rattle.machine_code.specs.declared.op.Op.TheVariants.{Call, Ret, Trf, End}
use Rattle.machine_code.specs.Operands.{OpFits}
use Rattle.listing.specs.Instructions.{written}
use Rattle.listing.specs.Listing.{op_line, spoken}
use Rattle.listing.specs.Rows.{AllFit, kinds, kinds_at, name_at, row, row_line}
use Rattle.text_lines.specs.Lines.{ended}

-- the instruction at each place, with these operands
nth : List ℕ → ℕ → ℕ
nth ns i = get_or ns i 0

made_all : List ℕ → List Op
made_all ns =
    Stmt (nth ns 0) ∷
    Ldi (nth ns 0) (nth ns 1) ∷
    Ldt (nth ns 0) (nth ns 1) ∷
    Stt (nth ns 0) (nth ns 1) ∷
    Lde (nth ns 0) (nth ns 1) ∷
    Lda (nth ns 0) (nth ns 1) ∷
    Add (nth ns 0) (nth ns 1) ∷
    Sub (nth ns 0) (nth ns 1) ∷
    Mul (nth ns 0) (nth ns 1) ∷
    Div (nth ns 0) (nth ns 1) ∷
    Rem (nth ns 0) (nth ns 1) ∷
    Eq (nth ns 0) (nth ns 1) ∷
    Ne (nth ns 0) (nth ns 1) ∷
    Lt (nth ns 0) (nth ns 1) ∷
    Le (nth ns 0) (nth ns 1) ∷
    Gt (nth ns 0) (nth ns 1) ∷
    Ge (nth ns 0) (nth ns 1) ∷
    And (nth ns 0) (nth ns 1) ∷
    Or (nth ns 0) (nth ns 1) ∷
    Jmp (nth ns 0) ∷
    Jz (nth ns 0) (nth ns 1) ∷
    Ldw (nth ns 0) (nth ns 1) ∷
    Stw (nth ns 0) (nth ns 1) ∷
    Ckw (nth ns 0) (nth ns 1) ∷
    Ckp (nth ns 0) (nth ns 1) ∷
    Own (nth ns 0) (nth ns 1) ∷
    Ldx (nth ns 0) (nth ns 1) (nth ns 2) (nth ns 3) ∷
    Stx (nth ns 0) (nth ns 1) (nth ns 2) (nth ns 3) ∷
    Ckf ∷
    Chn (nth ns 0) (nth ns 1) ∷
    Unc (nth ns 0) (nth ns 1) ∷
    Arg (nth ns 0) ∷
    Snd (nth ns 0) (nth ns 1) (nth ns 2) ∷
    Dir (nth ns 0) ∷
    Call (nth ns 0) (nth ns 1) ∷
    Ret (nth ns 0) ∷
    Trf (nth ns 0) (nth ns 1) ∷
    End ∷
    []

made : ℕ → List ℕ → Op
made place ns = get_or (made_all ns) place End

made-row : (op : Op) → made (row op) (written op).operands ≡ op
unfolding made made_all nth row written
made-row (Stmt p) = refl
made-row (Ldi r n) = refl
made-row (Ldt r i) = refl
made-row (Stt i r) = refl
made-row (Lde r k) = refl
made-row (Lda r k) = refl
made-row (Add r s) = refl
made-row (Sub r s) = refl
made-row (Mul r s) = refl
made-row (Div r s) = refl
made-row (Rem r s) = refl
made-row (Eq r s) = refl
made-row (Ne r s) = refl
made-row (Lt r s) = refl
made-row (Le r s) = refl
made-row (Gt r s) = refl
made-row (Ge r s) = refl
made-row (And r s) = refl
made-row (Or r s) = refl
made-row (Jmp a) = refl
made-row (Jz r a) = refl
made-row (Ldw r w) = refl
made-row (Stw w r) = refl
made-row (Ckw r d) = refl
made-row (Ckp r n) = refl
made-row (Own r f) = refl
made-row (Ldx r w n s) = refl
made-row (Stx w n s r) = refl
made-row Ckf = refl
made-row (Chn r f) = refl
made-row (Unc r f) = refl
made-row (Arg r) = refl
made-row (Snd q x l) = refl
made-row (Dir a) = refl
made-row (Call a m) = refl
made-row (Ret m) = refl
made-row (Trf a n) = refl
made-row End = refl

name_at-row : (op : Op) → name_at (row op) ≡ (written op).name
unfolding name_at row written
name_at-row (Stmt p) = refl
name_at-row (Ldi r n) = refl
name_at-row (Ldt r i) = refl
name_at-row (Stt i r) = refl
name_at-row (Lde r k) = refl
name_at-row (Lda r k) = refl
name_at-row (Add r s) = refl
name_at-row (Sub r s) = refl
name_at-row (Mul r s) = refl
name_at-row (Div r s) = refl
name_at-row (Rem r s) = refl
name_at-row (Eq r s) = refl
name_at-row (Ne r s) = refl
name_at-row (Lt r s) = refl
name_at-row (Le r s) = refl
name_at-row (Gt r s) = refl
name_at-row (Ge r s) = refl
name_at-row (And r s) = refl
name_at-row (Or r s) = refl
name_at-row (Jmp a) = refl
name_at-row (Jz r a) = refl
name_at-row (Ldw r w) = refl
name_at-row (Stw w r) = refl
name_at-row (Ckw r d) = refl
name_at-row (Ckp r n) = refl
name_at-row (Own r f) = refl
name_at-row (Ldx r w n s) = refl
name_at-row (Stx w n s r) = refl
name_at-row Ckf = refl
name_at-row (Chn r f) = refl
name_at-row (Unc r f) = refl
name_at-row (Arg r) = refl
name_at-row (Snd q x l) = refl
name_at-row (Dir a) = refl
name_at-row (Call a m) = refl
name_at-row (Ret m) = refl
name_at-row (Trf a n) = refl
name_at-row End = refl

-- the name of a row of the table
pub name_there : (names : List (List ℕ)) (place : ℕ) (name : List ℕ) → names ≡ operation_names → slice_get names place ≡ Some name → name ≡ name_at place
unfolding name_at
name_there names place name are here = ap (λ (o : Option (List ℕ)). unwrap_or o []) (sym here ∙ ap (λ (ns : List (List ℕ)). slice_get ns place) are)

pub name_past : (place : ℕ) → 38 ≤ place → [] ≡ name_at place
unfolding name_at
name_past place past =
    let counted : length operation_names ≡ 38 = refl in
    let none : slice_get operation_names place ≡ None = slice_get_past operation_names place (omega (arith, counted, past)) in
    ap (λ (o : Option (List ℕ)). unwrap_or o []) (sym none)

-- the line of a row is that of its instruction
pub row_line-row : (op : Op) → row_line (row op) (written op).operands ≡ ended (op_line op)
unfolding row_line op_line
row_line-row op = ap (λ (name : List ℕ). ended (spoken name (map decimal (written op).operands))) (name_at-row op)

found_row : (op : Op) → place_of operation_names (written op).name ≡ Some (row op)
unfolding row written
found_row (Stmt p) = refl
found_row (Ldi r n) = refl
found_row (Ldt r i) = refl
found_row (Stt i r) = refl
found_row (Lde r k) = refl
found_row (Lda r k) = refl
found_row (Add r s) = refl
found_row (Sub r s) = refl
found_row (Mul r s) = refl
found_row (Div r s) = refl
found_row (Rem r s) = refl
found_row (Eq r s) = refl
found_row (Ne r s) = refl
found_row (Lt r s) = refl
found_row (Le r s) = refl
found_row (Gt r s) = refl
found_row (Ge r s) = refl
found_row (And r s) = refl
found_row (Or r s) = refl
found_row (Jmp a) = refl
found_row (Jz r a) = refl
found_row (Ldw r w) = refl
found_row (Stw w r) = refl
found_row (Ckw r d) = refl
found_row (Ckp r n) = refl
found_row (Own r f) = refl
found_row (Ldx r w n s) = refl
found_row (Stx w n s r) = refl
found_row Ckf = refl
found_row (Chn r f) = refl
found_row (Unc r f) = refl
found_row (Arg r) = refl
found_row (Snd q x l) = refl
found_row (Dir a) = refl
found_row (Call a m) = refl
found_row (Ret m) = refl
found_row (Trf a n) = refl
found_row End = refl

length-row : (op : Op) → length (kinds_at (row op)) ≡ length (written op).operands
unfolding kinds_at kinds row written
length-row (Stmt p) = refl
length-row (Ldi r n) = refl
length-row (Ldt r i) = refl
length-row (Stt i r) = refl
length-row (Lde r k) = refl
length-row (Lda r k) = refl
length-row (Add r s) = refl
length-row (Sub r s) = refl
length-row (Mul r s) = refl
length-row (Div r s) = refl
length-row (Rem r s) = refl
length-row (Eq r s) = refl
length-row (Ne r s) = refl
length-row (Lt r s) = refl
length-row (Le r s) = refl
length-row (Gt r s) = refl
length-row (Ge r s) = refl
length-row (And r s) = refl
length-row (Or r s) = refl
length-row (Jmp a) = refl
length-row (Jz r a) = refl
length-row (Ldw r w) = refl
length-row (Stw w r) = refl
length-row (Ckw r d) = refl
length-row (Ckp r n) = refl
length-row (Own r f) = refl
length-row (Ldx r w n s) = refl
length-row (Stx w n s r) = refl
length-row Ckf = refl
length-row (Chn r f) = refl
length-row (Unc r f) = refl
length-row (Arg r) = refl
length-row (Snd q x l) = refl
length-row (Dir a) = refl
length-row (Call a m) = refl
length-row (Ret m) = refl
length-row (Trf a n) = refl
length-row End = refl

fits_row : (op : Op) → OpFits op → AllFit (kinds_at (row op)) (map (λ n. Some n) (written op).operands)
unfolding kinds_at kinds row written
fits_row (Stmt p) fit = (fit, tt)
fits_row (Ldi r n) fit = (fit.0, (fit.1, tt))
fits_row (Ldt r i) fit = (fit.0, (fit.1, tt))
fits_row (Stt i r) fit = (fit.0, (fit.1, tt))
fits_row (Lde r k) fit = (fit.0, (fit.1, tt))
fits_row (Lda r k) fit = (fit.0, (fit.1, tt))
fits_row (Add r s) fit = (fit.0, (fit.1, tt))
fits_row (Sub r s) fit = (fit.0, (fit.1, tt))
fits_row (Mul r s) fit = (fit.0, (fit.1, tt))
fits_row (Div r s) fit = (fit.0, (fit.1, tt))
fits_row (Rem r s) fit = (fit.0, (fit.1, tt))
fits_row (Eq r s) fit = (fit.0, (fit.1, tt))
fits_row (Ne r s) fit = (fit.0, (fit.1, tt))
fits_row (Lt r s) fit = (fit.0, (fit.1, tt))
fits_row (Le r s) fit = (fit.0, (fit.1, tt))
fits_row (Gt r s) fit = (fit.0, (fit.1, tt))
fits_row (Ge r s) fit = (fit.0, (fit.1, tt))
fits_row (And r s) fit = (fit.0, (fit.1, tt))
fits_row (Or r s) fit = (fit.0, (fit.1, tt))
fits_row (Jmp a) fit = (fit, tt)
fits_row (Jz r a) fit = (fit.0, (fit.1, tt))
fits_row (Ldw r w) fit = (fit.0, (fit.1, tt))
fits_row (Stw w r) fit = (fit.0, (fit.1, tt))
fits_row (Ckw r d) fit = (fit.0, (fit.1, tt))
fits_row (Ckp r n) fit = (fit.0, (fit.1, tt))
fits_row (Own r f) fit = (fit.0, (fit.1, tt))
fits_row (Ldx r w n s) fit = (fit.0, (fit.1, (fit.2, (fit.3, tt))))
fits_row (Stx w n s r) fit = (fit.0, (fit.1, (fit.2, (fit.3, tt))))
fits_row Ckf fit = tt
fits_row (Chn r f) fit = (fit.0, (fit.1, tt))
fits_row (Unc r f) fit = (fit.0, (fit.1, tt))
fits_row (Arg r) fit = (fit, tt)
fits_row (Snd q x l) fit = (fit.0, (fit.1, (fit.2, tt)))
fits_row (Dir a) fit = (fit, tt)
fits_row (Call a m) fit = (fit.0, (fit.1, tt))
fits_row (Ret m) fit = (fit, tt)
fits_row (Trf a n) fit = (fit.0, (fit.1, tt))
fits_row End fit = tt

rows_in_order : (ns : List ℕ) → map row (made_all ns) ≡ range_with_len 0 38
unfolding made_all row
rows_in_order ns = refl

-- each place has an instruction
row-made : (place : ℕ) (ns : List ℕ) → place < 38 → row (made place ns) ≡ place
unfolding made made_all
row-made place ns within =
    let counted : length (made_all ns) ≡ 38 = refl in
    sym (get_or-map row (made_all ns) place End 0 (omega (arith, counted)))
    ∙ ap (λ (ks : List ℕ). get_or ks place 0) (rows_in_order ns) ∙ get_or-range_with_len 0 38 place 0 within
    ∙ (omega arith)

-- an instruction has the name at its place
pub name_at_place : (name : List ℕ) (place : ℕ) (op : Op) → place_of operation_names name ≡ Some place → row op ≡ place → (written op).name ≡ name
name_at_place name place op found at =
    let here : slice_get operation_names place ≡ Some name = found_has_name operation_names name place found in
    let there : slice_get operation_names (row op) ≡ Some (written op).name = found_has_name operation_names (written op).name (row op) (found_row op) in
    let same : Some (written op).name ≡ Some name = sym there ∙ ap (slice_get operation_names) at ∙ here in
    cc

pub place_of_name : (name : List ℕ) (place : ℕ) (op : Op) → place_of operation_names name ≡ Some place → (written op).name ≡ name → row op ≡ place
place_of_name name place op found same =
    let e : Some (row op) ≡ Some place = sym (found_row op) ∙ ap (place_of operation_names) same ∙ found in
    cc

pub no_such_name : (name : List ℕ) (op : Op) → place_of operation_names name ≡ None → (written op).name ≡ name → ⊥
no_such_name name op none same =
    let e : Some (row op) ≡ None = sym (found_row op) ∙ ap (place_of operation_names) same ∙ none in
    cc

pub kinds_counted : (op : Op) (place : ℕ) → row op ≡ place → length (kinds_at place) ≡ length (written op).operands
kinds_counted op place at = ap (λ (k : ℕ). length (kinds_at k)) (sym at) ∙ length-row op

pub kinds_fit : (op : Op) (place : ℕ) (os : List (Option ℕ)) → row op ≡ place → OpFits op
    → os ≡ map (λ n. Some n) (written op).operands → AllFit (kinds_at place) os
kinds_fit op place os at fits so =
    subst (λ (k : ℕ). AllFit (kinds_at k) os) at (subst (λ (vs : List (Option ℕ)). AllFit (kinds_at (row op)) vs) (sym so) (fits_row op fits))

pub some_op : (place : ℕ) → place < 38 → (op : Op) × (row op ≡ place)
some_op place within = (made place [], row-made place [] within)

-- an instruction is told by its name and its operands
pub told_apart : (p q : Op) → (written p).name ≡ (written q).name → (written p).operands ≡ (written q).operands → p ≡ q
told_apart p q same operands =
    let place : row p ≡ row q = place_of_name (written q).name (row q) p (found_row q) same in
    sym (made-row p) ∙ ap (λ (k : ℕ). made k (written p).operands) place ∙ ap (made (row q)) operands ∙ made-row q
