-- The first token, as items are looked through.
use Rattle.std.proofs.Common.{◌≡◌, ℕ, zero, suc, ◌+◌, List, [], ◌∷◌, drop, refl, sym, ap, subst, ◌∙◌, arith}
use Rattle.std.specs.List.{slice_get}
use Rattle.std.specs.Prelude.{Some, None}
use Rattle.std.proofs.lemmas.Option.{none-some, same_Some}
use Rattle.jr_lex.specs.declared.items.Item.{Item}
use Rattle.jr_lex.specs.declared.items.ItemKind.{ItemKind}
use Rattle.jr_lex.specs.declared.items.ItemKind.TheVariants as item
use Rattle.jr_lex.specs.declared.items.TokenKind.{TokenKind}
use Rattle.jr_sources.specs.ReadingFaults.{first_token_at}

dropped : {X : Type 0} (xs : List X) (i : ℕ) (x : X) → slice_get xs i ≡ Some x → drop i xs ≡ x ∷ drop (suc i) xs
dropped [] i x h = absurd (none-some x h)
dropped (y ∷ ys) zero x h = ap (λ z. z ∷ ys) (same_Some y x h)
dropped (y ∷ ys) (suc i) x h = dropped ys i x h

token_first : (it : Item) (t : TokenKind) (items : List Item) → it.kind ≡ item.Token t → first_token_at (it ∷ items) ≡ it.span.from
token_first it t items e = subst (λ (k : ItemKind). first_token_at (record { kind = k; span = it.span } ∷ items) ≡ it.span.from) (sym e) refl

blank_first : (it : Item) (items : List Item) → it.kind ≡ item.Blank → first_token_at (it ∷ items) ≡ first_token_at items
blank_first it items e = subst (λ (k : ItemKind). first_token_at (record { kind = k; span = it.span } ∷ items) ≡ first_token_at items) (sym e) refl

comment_first : (it : Item) (items : List Item) → it.kind ≡ item.Comment → first_token_at (it ∷ items) ≡ first_token_at items
comment_first it items e = subst (λ (k : ItemKind). first_token_at (record { kind = k; span = it.span } ∷ items) ≡ first_token_at items) (sym e) refl

module _ (items : List Item) (i : ℕ) (it : Item) (at : slice_get items i ≡ Some it) where
  pub at_token : (t : TokenKind) → it.kind ≡ item.Token t → first_token_at (drop i items) ≡ it.span.from
  at_token t e = ap first_token_at (dropped items i it at) ∙ token_first it t (drop (suc i) items) e

  next : drop (i + 1) items ≡ drop (suc i) items
  next = let e : i + 1 ≡ suc i = omega arith in ap (λ (n : ℕ). drop n items) e

  pub past_blank : it.kind ≡ item.Blank → first_token_at (drop (i + 1) items) ≡ first_token_at (drop i items)
  past_blank e = ap first_token_at next ∙ sym (blank_first it (drop (suc i) items) e) ∙ sym (ap first_token_at (dropped items i it at))

  pub past_comment : it.kind ≡ item.Comment → first_token_at (drop (i + 1) items) ≡ first_token_at (drop i items)
  past_comment e = ap first_token_at next ∙ sym (comment_first it (drop (suc i) items) e) ∙ sym (ap first_token_at (dropped items i it at))
