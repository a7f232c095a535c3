-- The tokens of a file may stand where they end; and from what is owed, that a refactoring is fit.
use Rattle.std.proofs.Common.{◌≡◌, ℕ, ◌+◌, ◌<◌, List, [], ◌∷◌, length, Some, refl, sym, ap, ◌∙◌, subst, arith}
use Rattle.std.specs.Prelude.{if◌then◌else◌}
use Rattle.std.proofs.lemmas.Bool.{ne_eqb, eq-eqb}
use Rattle.jr_text.specs.declared.spans.Span.{Span}
use Rattle.jr_lex.specs.declared.items.Item.{Item}
use Rattle.jr_lex.specs.declared.items.ItemKind.{ItemKind}
use Rattle.jr_lex.specs.declared.items.ItemKind.TheVariants.{Token as TokenItem, Blank, Comment}
use Rattle.jr_lex.specs.declared.items.TokenKind.{TokenKind}
use Rattle.jr_bind.specs.Programs.{Program}
use Rattle.jr_rewrite.specs.Woven.{Fronts, MayFront, Fronted, Tiled}
use Rattle.jr_plan.specs.Transforms.{Transform, IsFit}
use Rattle.jr_moved_texts.specs.Spaces.{token_in, ending_at}
use Rattle.jr_moved_texts.specs.Moved.{anywhere}
use Rattle.jr_moved_texts.proofs.Tiling.{some_lexeme}
use Rattle.jr_moved_texts.proofs.Boundaries.{some_width}
use Rattle.jr_local_texts.specs.Fitting.{IsFitting}

pub fronted_from : (F : Fronts) (items : List Item) (at : ℕ) (bytes : List ℕ) → Tiled anywhere at bytes items → ((n : ℕ) (k : TokenKind) → at < n → ending_at n items ≡ Some k → F n k) → Fronted F items
fronted_from F [] at bytes tiled may = tt
fronted_from F (i ∷ is) at bytes tiled may = (by_kind i.kind refl, fronted_from F is (at + length tiled.0) tiled.1 tiled.4 (λ n k lt e. may n k (omega (arith, lt)) (passes n (omega (arith, to, lt)) ∙ e)))
  where
    to : i.span.to ≡ at + length tiled.0
    to = ap (λ (s : Span). s.to) tiled.3.place

    wide : 0 < length tiled.0
    wide = some_width tiled.0 (some_lexeme tiled.3)

    passes : (n : ℕ) → i.span.to < n → ending_at n (i ∷ is) ≡ ending_at n is
    passes n lt = ap (λ b. if b then token_in i.kind else ending_at n is) (ne_eqb i.span.to n (λ e. omega (arith, lt, e)))

    by_kind : (k : ItemKind) → i.kind ≡ k → MayFront F i.span.to i.kind
    by_kind (TokenItem k) e =
        let ends : ending_at i.span.to (i ∷ is) ≡ Some k = ap (λ b. if b then token_in i.kind else ending_at i.span.to is) (eq-eqb i.span.to i.span.to refl) ∙ ap token_in e in
        subst (MayFront F i.span.to) (sym e) (may i.span.to k (omega (arith, to, wide)) ends)
    by_kind Blank e = subst (MayFront F i.span.to) (sym e) tt
    by_kind Comment e = subst (MayFront F i.span.to) (sym e) tt

pub is_fit : (p : Program Span) (t : Transform) → IsFitting p t → IsFit p t
is_fit p t h = record { sound = h.sound; named = h.named; spots = h.spots; fronted = h.fronted; apart = h.apart }
