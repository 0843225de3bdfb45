-- The code of searches, and of records that are seized and freed, is appended.
use Rattle.std.proofs.Common.{◌≡◌, ℕ, ◌+◌, ◌^◌, ◌<◌, ◌≤◌, List, [], ◌∷◌, ◌++◌, length, drop, get_or}
use Rattle.std.proofs.Common.{None, slice_get, sym, ap, ◌∙◌, arith, append-nil}
use Rattle.std.proofs.Math.ListN.{drop_of_length-le}
use Rattle.plex_num.proofs.Lists.{opens}
use Rattle.machine_code.specs.declared.op.Op.{Op}
use Rattle.machine_code.specs.declared.op.Op.TheVariants as op
use Rattle.exchange_model.specs.declared.block.File.{File}
use Rattle.exchange_model.specs.declared.block.FilePlace.{FilePlace}
use Rattle.exchange_model.specs.declared.block.Variable.{Variable}
use Rattle.exchange_model.specs.declared.expr.Expr.{Expr}
use Rattle.exchange_model.specs.declared.expr.Rel.{Rel}
use Rattle.exchange_model.specs.Cells.{Placed, record_cells}
use Rattle.expr_code.specs.Code.{expr_code, pointer_code, rel_op}
use Rattle.stmt_code.specs.declared.lengths.TheConstants.{LOOK_LENGTH, FOUND_LENGTH, AGAIN_LENGTH}
use Rattle.stmt_code.specs.StmtCode.{Places}
use Rattle.stmt_code.specs.RecordCode.{search_code, for_first_code, free_search_code, seize_code}
use Rattle.stmt_code.specs.RecordCode.{free_code, inits_code}
use Rattle.code_gen.specs.declared.setting.Setting.{Setting}
use Rattle.code_gen.specs.Settings.{places_in, placed_of, IsFileIn}
use Rattle.code_gen.proofs.Parts.{two, three, four, part_more}

pub record_fits : (s : Setting) (file : ℕ) (place : FilePlace) → IsFileIn s file (placed_of place) → place.first + record_cells place.file.now < 2 ^ 32
record_fits s file place h = h.cells

pub cells_in_place : (s : Setting) (file : ℕ) (place : FilePlace) → IsFileIn s file (placed_of place) → record_cells place.file.now < 2 ^ 32
cells_in_place s file place h = omega (arith, h.cells)

-- FOR FIRST

pub for_first_is : (p a len start l t file field label : ℕ) (rel : Rel) (e : Expr) (pl : Places)
    (value old n1 n2 new : List Op) → value ≡ expr_code e pl.site 0 → len ≡ length value → start ≡ a + len + 1
    → l ≡ pl.label label → n1 ≡ old ++ op.Stmt p ∷ [] → n2 ≡ n1 ++ value
    → new ≡ n2 ++ for_first_code (slice_get pl.site.files file) t field rel l start
    → new ≡ old ++ op.Stmt p ∷ (expr_code e pl.site 0
    ++ for_first_code (slice_get pl.site.files file) t field rel (pl.label label)
    (a + 1 + length (expr_code e pl.site 0)))
for_first_is p a len start l t file field label rel e pl value old n1 n2 new is long after to e1 e2 e3 =
    let code = expr_code e pl.site 0 in
    let search : ℕ → ℕ → List Op = λ l a. for_first_code (slice_get pl.site.files file) t field rel l a in
    let address : start ≡ a + 1 + length code = omega (arith, after, long, ap length is) in
    three old n1 n2 new (op.Stmt p ∷ []) code (search (pl.label label) (a + 1 + length code)) e1
    (e2 ∙ ap (λ l. n1 ++ l) is) (e3 ∙ λ i. n2 ++ search (to i) (address i))

pub no_search : (s : Setting) (t file field l a : ℕ) (rel : Rel) (old : List Op)
    → slice_get (places_in s).site.files file ≡ None
    → old ≡ old ++ for_first_code (slice_get (places_in s).site.files file) t field rel l a
no_search s t file field l a rel old none = sym (ap (λ o. old ++ for_first_code o t field rel l a) none ∙ append-nil old)

pub search_is : (s : Setting) (t file field l a word : ℕ) (rel : Rel) (place : FilePlace) (old new : List Op)
    → IsFileIn s file (placed_of place) → word ≡ place.first + field
    → new ≡ old ++ search_code place.file.now word t rel l a
    → new ≡ old ++ for_first_code (slice_get (places_in s).site.files file) t field rel l a
search_is s t file field l a word rel place old new h is e =
    e ∙ ap (λ n. old ++ search_code place.file.now n t rel l a) is ∙ sym (ap (λ o. old ++ for_first_code o t field rel l a) h.there)

pub search_steps : (f : File) (word t l a head other end cells : ℕ) (rel : Rel) (test : Op) (old new : List Op)
    → head ≡ a + 1 → other ≡ head + (LOOK_LENGTH + FOUND_LENGTH) → end ≡ other + AGAIN_LENGTH → cells ≡ record_cells f
    → test ≡ rel_op rel 2 0
    → new ≡ old ++ (op.Ldi 1 0 ∷ op.Ldi 2 f.size ∷ op.Gt 2 1 ∷ op.Jz 2 end ∷ op.Ldx 2 word cells 1 ∷ test
    ∷ op.Jz 2 other ∷ op.Stt t 1 ∷ op.Jmp l ∷ op.Ldi 2 1 ∷ op.Add 1 2 ∷ op.Jmp head ∷ [])
    → new ≡ old ++ search_code f word t rel l a
search_steps f word t l a head other end cells rel test old new e1 e2 e3 e4 e5 e =
    let other_at : other ≡ a + 1 + LOOK_LENGTH + FOUND_LENGTH = omega (arith, e1, e2) in
    let end_at : end ≡ a + 1 + LOOK_LENGTH + FOUND_LENGTH + AGAIN_LENGTH = omega (arith, other_at, e3) in
    e ∙ λ i. old ++ (op.Ldi 1 0 ∷ op.Ldi 2 f.size ∷ op.Gt 2 1 ∷ op.Jz 2 (end_at i) ∷ op.Ldx 2 word (e4 i) 1 ∷ e5 i
    ∷ op.Jz 2 (other_at i) ∷ op.Stt t 1 ∷ op.Jmp l ∷ op.Ldi 2 1 ∷ op.Add 1 2 ∷ op.Jmp (e1 i) ∷ [])

-- SEIZE

pub seize_is : (p a start l t file label : ℕ) (pl : Places) (old n1 new : List Op) → start ≡ a + 1 → l ≡ pl.label label
    → n1 ≡ old ++ op.Stmt p ∷ [] → new ≡ n1 ++ seize_code (slice_get pl.site.files file) file t l start
    → new ≡ old ++ op.Stmt p ∷ seize_code (slice_get pl.site.files file) file t (pl.label label) (a + 1)
seize_is p a start l t file label pl old n1 new address to e1 e2 =
    let code : ℕ → ℕ → List Op = λ l a. seize_code (slice_get pl.site.files file) file t l a in
    two old n1 new (op.Stmt p ∷ []) (code (pl.label label) (a + 1)) e1 (e2 ∙ λ i. n1 ++ code (to i) (address i))

pub no_seize : (s : Setting) (t file l a : ℕ) (old : List Op) → slice_get (places_in s).site.files file ≡ None
    → old ≡ old ++ seize_code (slice_get (places_in s).site.files file) file t l a
no_seize s t file l a old none = sym (ap (λ o. old ++ seize_code o file t l a) none ∙ append-nil old)

pub seizes : (s : Setting) (t file l a mark : ℕ) (place : FilePlace) (old new : List Op)
    → IsFileIn s file (placed_of place) → mark ≡ place.first + length place.file.now.fields
    → new ≡ old ++ free_search_code place.file.now mark file t l a
    → new ≡ old ++ seize_code (slice_get (places_in s).site.files file) file t l a
seizes s t file l a mark place old new h is e =
    e ∙ ap (λ n. old ++ free_search_code place.file.now n file t l a) is ∙ sym (ap (λ o. old ++ seize_code o file t l a) h.there)

pub seize_steps : (f : File) (mark file t l a head free cells : ℕ) (old new : List Op) → head ≡ a + 2
    → free ≡ head + (LOOK_LENGTH + 1 + AGAIN_LENGTH) → cells ≡ record_cells f
    → new ≡ old ++ (op.Ckf ∷ op.Ldi 1 0 ∷ op.Ldi 2 f.size ∷ op.Gt 2 1 ∷ op.Jz 2 l ∷ op.Ldx 2 mark cells 1 ∷ op.Jz 2 free
    ∷ op.Ldi 2 1 ∷ op.Add 1 2 ∷ op.Jmp head ∷ op.Chn 1 file ∷ op.Ldi 2 1 ∷ op.Stx mark cells 1 2 ∷ op.Stt t 1 ∷ [])
    → new ≡ old ++ free_search_code f mark file t l a
seize_steps f mark file t l a head free cells old new e1 e2 e3 e =
    let head_at : head ≡ a + 1 + 1 = omega (arith, e1) in
    let free_at : free ≡ a + 1 + 1 + LOOK_LENGTH + 1 + AGAIN_LENGTH = omega (arith, e1, e2) in
    e ∙ λ i. old ++ (op.Ckf ∷ op.Ldi 1 0 ∷ op.Ldi 2 f.size ∷ op.Gt 2 1 ∷ op.Jz 2 l ∷ op.Ldx 2 mark (e3 i) 1
    ∷ op.Jz 2 (free_at i) ∷ op.Ldi 2 1 ∷ op.Add 1 2 ∷ op.Jmp (head_at i) ∷ op.Chn 1 file ∷ op.Ldi 2 1
    ∷ op.Stx mark (e3 i) 1 2 ∷ op.Stt t 1 ∷ [])

-- FREE

pub free_is : (p t file : ℕ) (pl : Places) (old n1 new : List Op) → n1 ≡ old ++ op.Stmt p ∷ []
    → new ≡ n1 ++ free_code (slice_get pl.site.files file) file t
    → new ≡ old ++ op.Stmt p ∷ free_code (slice_get pl.site.files file) file t
free_is p t file pl old n1 new e1 e2 = two old n1 new (op.Stmt p ∷ []) (free_code (slice_get pl.site.files file) file t) e1 e2

pub no_free : (s : Setting) (t file : ℕ) (old : List Op) → slice_get (places_in s).site.files file ≡ None
    → old ≡ old ++ free_code (slice_get (places_in s).site.files file) file t
no_free s t file old none = sym (ap (λ o. old ++ free_code o file t) none ∙ append-nil old)

pub frees : (s : Setting) (t file mark cells : ℕ) (place : FilePlace) (old n1 n2 n3 new : List Op)
    → IsFileIn s file (placed_of place) → mark ≡ place.first + length place.file.now.fields
    → cells ≡ record_cells place.file.now → n1 ≡ old ++ op.Ldt 0 t ∷ []
    → n2 ≡ n1 ++ pointer_code (placed_of place) file 0 → n3 ≡ n2 ++ inits_code (placed_of place) 0 place.file.now.fields
    → new ≡ n3 ++ (op.Ldi 1 0 ∷ op.Stx mark cells 0 1 ∷ op.Unc 0 file ∷ []) → new ≡ old ++ free_code (slice_get (places_in s).site.files file) file t
frees s t file mark cells place old n1 n2 n3 new h em ec e1 e2 e3 e4 =
    let p = placed_of place in
    let last : ℕ → ℕ → List Op = λ m n. op.Ldi 1 0 ∷ op.Stx m n 0 1 ∷ op.Unc 0 file ∷ [] in
    four old n1 n2 n3 new (op.Ldt 0 t ∷ []) (pointer_code p file 0) (inits_code p 0 p.file.fields)
    (last (p.first + length p.file.fields) (record_cells p.file)) e1 e2 e3 (e4 ∙ λ i. n3 ++ last (em i) (ec i))
    ∙ sym (ap (λ o. old ++ free_code o file t) h.there)

-- INIT values

pub inits_more : (p : Placed) (vs : List Variable) (i word cells : ℕ) (v : Variable) (now new all : List Op)
    → i < length vs → v ≡ get_or vs i v → word ≡ p.first + i → cells ≡ record_cells p.file
    → new ≡ now ++ (op.Ldi 1 v.init ∷ op.Stx word cells 0 1 ∷ []) → now ++ inits_code p i (drop i vs) ≡ all
    → new ++ inits_code p (i + 1) (drop (i + 1) vs) ≡ all
inits_more p vs i word cells v now new all lt is ew ec e h =
    part_more now new (op.Ldi 1 v.init ∷ op.Stx (p.first + i) (record_cells p.file) 0 1 ∷ [])
    (inits_code p (i + 1) (drop (i + 1) vs)) all (e ∙ λ j. now ++ (op.Ldi 1 v.init ∷ op.Stx (ew j) (ec j) 0 1 ∷ []))
    (sym (ap (λ l. now ++ inits_code p i l) (opens vs i v lt is)) ∙ h)

pub inits_end : (p : Placed) (vs : List Variable) (i : ℕ) (now all : List Op) → length vs ≤ i → now ++ inits_code p i (drop i vs) ≡ all → now ≡ all
inits_end p vs i now all past h = sym (append-nil now) ∙ sym (ap (λ l. now ++ inits_code p i l) (drop_of_length-le vs past)) ∙ h

-- a search, a seizure and a release, where there is a file
pub ruleset searching = (no_search, search_is, cells_in_place)

pub ruleset seizing = (no_seize, seizes, record_fits, cells_in_place)

pub ruleset freeing = (no_free, frees, record_fits, cells_in_place)
