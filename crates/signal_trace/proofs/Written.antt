-- The parts of a line, one behind the other.
use Rattle.std.proofs.Common.{◌≡◌, ℕ, List, [], ◌∷◌, ◌++◌, ap, ◌∙◌, append_assoc}

-- the line of a job
pub job_written : (old a b c d e f g h label number entry values mark forlopp outcome : List ℕ)
    → a ≡ old ++ label ++ number → b ≡ a ++ 32 ∷ [] → c ≡ b ++ entry → d ≡ c ++ values → e ≡ d ++ mark ++ forlopp
    → f ≡ e ++ 32 ∷ [] → g ≡ f ++ outcome → h ≡ g ++ 10 ∷ []
    → h ≡ old ++ (label ++ number ++ 32 ∷ [] ++ entry ++ values ++ mark ++ forlopp ++ 32 ∷ [] ++ outcome ++ 10 ∷ [])
job_written old a b c d e f g h label number entry values mark forlopp outcome a_is b_is c_is d_is e_is f_is g_is h_is =
    let to_b : b ≡ old ++ label ++ number ++ 32 ∷ [] = b_is ∙ ap (λ t. t ++ 32 ∷ []) a_is in
    let to_c : c ≡ old ++ label ++ number ++ 32 ∷ [] ++ entry = c_is ∙ ap (λ t. t ++ entry) to_b in
    let to_d : d ≡ old ++ label ++ number ++ 32 ∷ [] ++ entry ++ values = d_is ∙ ap (λ t. t ++ values) to_c in
    let to_e : e ≡ old ++ label ++ number ++ 32 ∷ [] ++ entry ++ values ++ mark ++ forlopp = e_is ∙ ap (λ t. t ++ mark ++ forlopp) to_d in
    let to_f : f ≡ old ++ label ++ number ++ 32 ∷ [] ++ entry ++ values ++ mark ++ forlopp ++ 32 ∷ [] = f_is ∙ ap (λ t. t ++ 32 ∷ []) to_e in
    let to_g : g ≡ old ++ label ++ number ++ 32 ∷ [] ++ entry ++ values ++ mark ++ forlopp ++ 32 ∷ [] ++ outcome = g_is ∙ ap (λ t. t ++ outcome) to_f in
    let to_h : h ≡ old ++ label ++ number ++ 32 ∷ [] ++ entry ++ values ++ mark ++ forlopp ++ 32 ∷ [] ++ outcome
    ++ 10 ∷ [] = h_is ∙ ap (λ t. t ++ 10 ∷ []) to_g in
    to_h ∙ simp append_assoc

-- the line of a signal
pub send_written : (old a b c d e f g label number place values forlopp : List ℕ) → a ≡ old ++ label ++ number
    → b ≡ a ++ 32 ∷ [] → c ≡ b ++ place → d ≡ c ++ values → e ≡ d ++ 32 ∷ [] → f ≡ e ++ forlopp → g ≡ f ++ 10 ∷ []
    → g ≡ old ++ (label ++ number ++ 32 ∷ [] ++ place ++ values ++ 32 ∷ [] ++ forlopp ++ 10 ∷ [])
send_written old a b c d e f g label number place values forlopp a_is b_is c_is d_is e_is f_is g_is =
    let to_b : b ≡ old ++ label ++ number ++ 32 ∷ [] = b_is ∙ ap (λ t. t ++ 32 ∷ []) a_is in
    let to_c : c ≡ old ++ label ++ number ++ 32 ∷ [] ++ place = c_is ∙ ap (λ t. t ++ place) to_b in
    let to_d : d ≡ old ++ label ++ number ++ 32 ∷ [] ++ place ++ values = d_is ∙ ap (λ t. t ++ values) to_c in
    let to_e : e ≡ old ++ label ++ number ++ 32 ∷ [] ++ place ++ values ++ 32 ∷ [] = e_is ∙ ap (λ t. t ++ 32 ∷ []) to_d in
    let to_f : f ≡ old ++ label ++ number ++ 32 ∷ [] ++ place ++ values ++ 32 ∷ [] ++ forlopp = f_is ∙ ap (λ t. t ++ forlopp) to_e in
    let to_g : g ≡ old ++ label ++ number ++ 32 ∷ [] ++ place ++ values ++ 32 ∷ [] ++ forlopp ++ 10 ∷ [] = g_is ∙ ap (λ t. t ++ 10 ∷ []) to_f in
    to_g ∙ simp append_assoc
