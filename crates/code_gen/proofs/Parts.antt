-- Parts of code, appended one after the other.
use Rattle.std.proofs.Common.{◌≡◌, ℕ, ◌+◌, ◌<◌, ◌≤◌, List, [], ◌∷◌, ◌++◌, length, drop, get_or, sym}
use Rattle.std.proofs.Common.{ap, ◌∙◌, append_assoc, append-nil}
use Rattle.std.proofs.Math.ListN.{drop_of_length-le}
use Rattle.plex_num.proofs.Lists.{opens}
use Rattle.machine_code.specs.declared.op.Op.{Op}
use Rattle.machine_code.specs.declared.op.Op.TheVariants as op
use Rattle.exchange_model.specs.declared.expr.Expr.{Expr}
use Rattle.expr_code.specs.Code.{Site, expr_code}
use Rattle.stmt_code.specs.StmtCode.{values_code}

pub two : (old n1 new a b : List Op) → n1 ≡ old ++ a → new ≡ n1 ++ b → new ≡ old ++ (a ++ b)
two old n1 new a b e1 e2 = e2 ∙ ap (λ l. l ++ b) e1 ∙ append_assoc old a b

pub three : (old n1 n2 new a b c : List Op) → n1 ≡ old ++ a → n2 ≡ n1 ++ b → new ≡ n2 ++ c → new ≡ old ++ (a ++ (b ++ c))
three old n1 n2 new a b c e1 e2 e3 = two old n1 new a (b ++ c) e1 (two n1 n2 new b c e2 e3)

pub four : (old n1 n2 n3 new a b c d : List Op) → n1 ≡ old ++ a → n2 ≡ n1 ++ b → n3 ≡ n2 ++ c → new ≡ n3 ++ d → new ≡ old ++ (a ++ (b ++ (c ++ d)))
four old n1 n2 n3 new a b c d e1 e2 e3 e4 = two old n1 new a (b ++ (c ++ d)) e1 (three n1 n2 n3 new b c d e2 e3 e4)

pub five : (old n1 n2 n3 n4 new a b c d e : List Op) → n1 ≡ old ++ a → n2 ≡ n1 ++ b → n3 ≡ n2 ++ c → n4 ≡ n3 ++ d
    → new ≡ n4 ++ e → new ≡ old ++ (a ++ (b ++ (c ++ (d ++ e))))
five old n1 n2 n3 n4 new a b c d e e1 e2 e3 e4 e5 = two old n1 new a (b ++ (c ++ (d ++ e))) e1 (four n1 n2 n3 n4 new b c d e e2 e3 e4 e5)

pub six : (old n1 n2 n3 n4 n5 new a b c d e f : List Op) → n1 ≡ old ++ a → n2 ≡ n1 ++ b → n3 ≡ n2 ++ c → n4 ≡ n3 ++ d
    → n5 ≡ n4 ++ e → new ≡ n5 ++ f → new ≡ old ++ (a ++ (b ++ (c ++ (d ++ (e ++ f)))))
six old n1 n2 n3 n4 n5 new a b c d e f e1 e2 e3 e4 e5 e6 = two old n1 new a (b ++ (c ++ (d ++ (e ++ f)))) e1 (five n1 n2 n3 n4 n5 new b c d e f e2 e3 e4 e5 e6)

-- one more part of what is left
pub part_more : (now new part rest all : List Op) → new ≡ now ++ part → now ++ (part ++ rest) ≡ all → new ++ rest ≡ all
part_more now new part rest all e h = ap (λ l. l ++ rest) e ∙ append_assoc now part rest ∙ h

-- values

pub values_begin : (es given : List Expr) (site : Site) (r : ℕ) (old : List Op) → given ≡ es → old ++ values_code given site r ≡ old ++ values_code es site r
values_begin es given site r old same = ap (λ l. old ++ values_code l site r) same

pub values_more : (es : List Expr) (i : ℕ) (e : Expr) (site : Site) (r : ℕ) (now n1 new all : List Op) → i < length es
    → e ≡ get_or es i e → n1 ≡ now ++ expr_code e site r → new ≡ n1 ++ op.Arg r ∷ []
    → now ++ values_code (drop i es) site r ≡ all → new ++ values_code (drop (i + 1) es) site r ≡ all
values_more es i e site r now n1 new all lt is e1 e2 h =
    let rest = values_code (drop (i + 1) es) site r in
    part_more n1 new (op.Arg r ∷ []) rest all e2
    (part_more now n1 (expr_code e site r) (op.Arg r ∷ rest) all e1 (sym (ap (λ l. now ++ values_code l site r) (opens es i e lt is)) ∙ h))

pub values_end : (es : List Expr) (i : ℕ) (site : Site) (r : ℕ) (now all : List Op) → length es ≤ i → now ++ values_code (drop i es) site r ≡ all → now ≡ all
values_end es i site r now all past h = sym (append-nil now) ∙ sym (ap (λ l. now ++ values_code l site r) (drop_of_length-le es past)) ∙ h
