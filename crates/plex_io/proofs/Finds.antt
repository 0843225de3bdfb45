-- Finding a file from the front.
use Rattle.std.proofs.Common.{◌≡◌, ℕ, Bool, true, false, ◌+◌, ◌<◌, ◌≤◌, List, ◌∷◌, length, drop}
use Rattle.std.proofs.Common.{get_or, Option, Some, None, refl, sym, ◌∙◌, if◌then◌else◌}
use Rattle.std.proofs.lemmas.List.{drop_more, drop_all}
use Rattle.std.specs.Str.{bytes_eq}
use Rattle.plex_io.specs.Stored.{held_in}
use Rattle.plex_io.specs.declared.memory_shelf.StoredFile.{StoredFile}

held_cons : (f : StoredFile) (rest : List StoredFile) (name : List ℕ)
    → held_in (f ∷ rest) name ≡ (if bytes_eq f.name name then Some f.content else held_in rest name)
unfolding held_in
held_cons f rest name = refl

-- another file
pub find_other : (files : List StoredFile) (i : ℕ) (f : StoredFile) (name : List ℕ) (b : Bool) (o : Option (List ℕ))
    → i < length files → f ≡ get_or files i f → b ≡ bytes_eq f.name name → b ≡ false → held_in (drop i files) name ≡ o
    → held_in (drop (i + 1) files) name ≡ o
find_other files i f name b o lt is test different e =
    let t : bytes_eq f.name name ≡ false = sym test ∙ different in
    let more : held_in (drop i files) name ≡ held_in (drop (i + 1) files) name = rw (drop_more files i f lt, ← is, held_cons, t) refl in
    sym more ∙ e

-- this file
pub find_this : (files : List StoredFile) (i : ℕ) (f : StoredFile) (name : List ℕ) (b : Bool) (o : Option (List ℕ))
    → i < length files → f ≡ get_or files i f → b ≡ bytes_eq f.name name → b ≡ true → held_in (drop i files) name ≡ o
    → o ≡ Some f.content
find_this files i f name b o lt is test same e =
    let t : bytes_eq f.name name ≡ true = sym test ∙ same in
    let more : held_in (drop i files) name ≡ Some f.content = rw (drop_more files i f lt, ← is, held_cons, t) refl in
    sym e ∙ more

-- no file is left
pub find_end : (files : List StoredFile) (i : ℕ) (name : List ℕ) (o : Option (List ℕ)) → length files ≤ i → held_in (drop i files) name ≡ o → o ≡ None
unfolding held_in
find_end files i name o le e =
    let here : held_in (drop i files) name ≡ None = rw (drop_all i files le) refl in
    sym e ∙ here
