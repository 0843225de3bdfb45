-- Signals are read exactly.
use Rattle.std.proofs.Common.{true, false, List, [], ◌++◌, refl, sym, subst, inl, inr}
use Rattle.plex_lexer.specs.declared.token.Token.{Token}
use Rattle.token_grammar.specs.declared.named.Named.{Named}
use Rattle.token_grammar.specs.declared.named.Numbered.{Numbered}
use Rattle.token_grammar.specs.declared.named.Leveled.{Leveled}
use Rattle.token_grammar.specs.Language.{Lang, word, ◌·◌, named, numbered, leveled}
use Rattle.token_grammar.proofs.Exact.{Exact, Exact-pair, Exact-same, Exact-lined, Exact-branch}
use Rattle.token_grammar.proofs.Exact.{Exact-after, Exact-ended, Either, Lined, then_to, dot_left}
use Rattle.token_grammar.proofs.Exact.{dot_right}
use Rattle.token_grammar.proofs.Words.{a_keyword, a_mark, Exact-name, Exact-number, Exact-level}
use Rattle.plex_ast.specs.declared.tree.Signal.{Signal}
use Rattle.plex_ast.specs.declared.tree.Shape.{Shape}
use Rattle.plex_ast.specs.declared.tree.ShapeKind.{ShapeKind}
use Rattle.plex_ast.specs.declared.tree.ShapeKind.TheVariants as shapes
use Rattle.plex_ast.specs.Words.{SIGNAL, SINGLE, COMBINED, BUFFERED, DIRECT, OUTSIDE, DATA, ANSWER}
use Rattle.plex_ast.specs.Words.{SEMI}
use Rattle.plex_ast.specs.Grammar.{shape_at, shape, signal}
use Rattle.declaration_parser.specs.Signals.{data_read, buffered_read, direct_read, single_read}
use Rattle.declaration_parser.specs.Signals.{combined_read, outside_read, shape_kind_read}
use Rattle.declaration_parser.specs.Signals.{shape_made, shape_read, signal_made, signal_read}

abbrev Data : Numbered → Lang
Data n = word DATA · numbered true n

Exact-data : Exact Data Data DATA false [] data_read data_read
unfolding data_read
Exact-data = Exact-after DATA (a_keyword 6) refl Exact-number

abbrev Shapes : ShapeKind → Lang
Shapes = Either
    (λ x. word SINGLE · Either (Lined (λ _ (p : Leveled × Numbered). shapes.Buffered p.0 p.1)
    (λ p. word BUFFERED · (leveled true p.0 · Data p.1)))
    (Lined (λ _ (n : Numbered). shapes.Direct n) (λ n. word DIRECT · Data n)) x)
    (Either (Lined (λ _ (p : Numbered × (Named × Numbered)). shapes.Combined p.0 p.1.0 p.1.1)
    (λ p. word COMBINED · (Data p.0 · (word ANSWER · (named true p.1.0 · Data p.1.1)))))
    (Lined (λ _ (n : Numbered). shapes.Outside n) (λ n. word OUTSIDE · Data n)))

-- the number of a combined signal's data, and what follows it
abbrev Answer : Named → Numbered → Lang
Answer a e = word ANSWER · (named true a · Data e)

Exact-shape-kind : Exact (shape_at true) (shape_at true) (SINGLE ++ (COMBINED ++ OUTSIDE)) false [] shape_kind_read shape_kind_read
unfolding shape_kind_read single_read buffered_read direct_read combined_read outside_read
Exact-shape-kind = Exact-same (shape_at true) (shape_at true) to from to
    (Exact-branch SINGLE
    (Exact-after SINGLE (a_keyword 1) refl
    (Exact-branch BUFFERED (Exact-lined (λ _ (p : Leveled × Numbered). shapes.Buffered p.0 p.1)
    (Exact-after BUFFERED (a_keyword 3) refl (Exact-pair Exact-level Exact-data refl)))
    (Exact-lined (λ _ (n : Numbered). shapes.Direct n) (Exact-after DIRECT (a_keyword 4) refl Exact-data)) refl refl))
    (Exact-branch COMBINED
    (Exact-lined (λ _ (p : Numbered × (Named × Numbered)). shapes.Combined p.0 p.1.0 p.1.1)
    (Exact-after COMBINED (a_keyword 2) refl
    (Exact-pair Exact-data (Exact-after ANSWER (a_keyword 7) refl (Exact-pair Exact-name Exact-data refl)) refl)))
    (Exact-lined (λ _ (n : Numbered). shapes.Outside n) (Exact-after OUTSIDE (a_keyword 5) refl Exact-data)) refl refl) refl refl)
  where
    to : (x : ShapeKind) (u : List Token) → Shapes x u → shape_at true x u
    to x u (inl (a, c, e, w, inl h)) = subst (λ y. shape_at true y u) (sym h.1) (a, c, e, w, h.2)
    to x u (inl (a, c, e, w, inr h)) = subst (λ y. shape_at true y u) (sym h.1) (a, c, e, w, h.2)
    to x u (inr (inl h)) = subst (λ y. shape_at true y u) (sym h.1)
        (then_to (word COMBINED) (Data h.0.0 · Answer h.0.1.0 h.0.1.1)
        (word DATA · (numbered true h.0.0 · Answer h.0.1.0 h.0.1.1))
        (dot_right (word DATA) (numbered true h.0.0) (Answer h.0.1.0 h.0.1.1)) u h.2)
    to x u (inr (inr h)) = subst (λ y. shape_at true y u) (sym h.1) h.2

    from : (x : ShapeKind) (u : List Token) → shape_at true x u → Shapes x u
    from (shapes.Buffered l d) u h = inl (h.0, h.1, h.2, h.3, inl ((l, d), refl, h.4))
    from (shapes.Direct d) u h = inl (h.0, h.1, h.2, h.3, inr (d, refl, h.4))
    from (shapes.Combined d a e) u h = inr (inl (
      (d, (a, e)),
      refl,
      then_to (word COMBINED) (word DATA · (numbered true d · Answer a e)) (Data d · Answer a e)
          (dot_left (word DATA) (numbered true d) (Answer a e)) u h,
    ))
    from (shapes.Outside d) u h = inr (inr (d, refl, h))

pub Exact-shape : Exact (shape true) (shape true) (SINGLE ++ (COMBINED ++ OUTSIDE)) false [] shape_read shape_read
unfolding shape_read
Exact-shape = Exact-same (shape true) (shape true) to from to (Exact-lined shape_made Exact-shape-kind)
  where
    to : (x : Shape) (u : List Token) → Lined shape_made (shape_at true) x u → shape true x u
    to x u h = subst (λ y. shape true y u) (sym h.1) (h.2, λ _. refl)

    from : (x : Shape) (u : List Token) → shape true x u → Lined shape_made (shape_at true) x u
    from x u h = (x.kind, λ i. record { line = h.1 refl i; kind = x.kind }, h.0)

pub Exact-signal : Exact (signal true) (signal true) SIGNAL false [] signal_read signal_read
unfolding signal_read
Exact-signal = Exact-same (signal true) (signal true) to from to
    (Exact-lined signal_made (Exact-after SIGNAL (a_keyword 0) refl (Exact-pair Exact-name (Exact-ended SEMI (a_mark 0) refl Exact-shape refl) refl)))
  where
    to : (x : Signal) (u : List Token) → Lined signal_made
        (λ (p : Named × Shape). word SIGNAL · (named true p.0 · (shape true p.1 · word SEMI))) x u → signal true x u
    to x u h = subst (λ y. signal true y u) (sym h.1) (h.2, λ _. refl)

    from : (x : Signal) (u : List Token) → signal true x u
        → Lined signal_made (λ (p : Named × Shape). word SIGNAL · (named true p.0 · (shape true p.1 · word SEMI))) x u
    from x u h = ((x.name, x.shape), λ i. record { line = h.1 refl i; name = x.name; shape = x.shape }, h.0)
