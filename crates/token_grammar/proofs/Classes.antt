-- The class of a token by its sort.
use Rattle.std.proofs.Common.{◌≡◌, ℕ, ◌+◌, ◌*◌, refl, sym, ◌∙◌, ap}
use Rattle.plex_lexer.specs.declared.token.TokenKind.{TokenKind}
use Rattle.plex_lexer.specs.declared.token.TokenKind.TheVariants as kinds
use Rattle.plex_lexer.specs.declared.sort.Sort.{Sort}
use Rattle.plex_lexer.specs.declared.sort.Sort.TheVariants as sorts
use Rattle.plex_lexer.specs.Spots.{sort_of, name_in}
use Rattle.token_grammar.specs.Language.{kind_class, name_class}

-- .. of what has this sort and this name
abbrev pub sort_class : Sort → ℕ → ℕ
sort_class sorts.Name named = named
sort_class sorts.Number named = 5
sort_class (sorts.Keyword keyword) named = 2 * keyword + 6
sort_class (sorts.Mark mark) named = 2 * mark + 7

of_sort : (k : TokenKind) → kind_class k ≡ sort_class (sort_of k) (name_class (name_in k))
of_sort (kinds.Name n) = refl
of_sort (kinds.Number n) = refl
of_sort (kinds.Keyword n) = refl
of_sort (kinds.Mark n) = refl

pub class_by_sort : (k : TokenKind) (s : Sort) → s ≡ sort_of k → sort_class s (name_class (name_in k)) ≡ kind_class k
class_by_sort k s e = ap (λ z. sort_class z (name_class (name_in k))) e ∙ sym (of_sort k)
