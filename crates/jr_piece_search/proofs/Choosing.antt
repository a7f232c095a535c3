-- Tests of spans, and the loop over arguments.
use Rattle.std.proofs.Common.{◌≡◌, ℕ, suc, ◌+◌, ◌<◌, ◌≤◌, nat_eq, Bool, true, false, ◌&&◌, List, ◌∷◌, length, get_or, drop, Some, None, if◌then◌else◌, refl, ap, sym, ◌∙◌, add-one}
use Rattle.std.proofs.Math.Seq.{drop-cons}
use Rattle.std.proofs.lemmas.List.{drop_all}
use Rattle.std.proofs.lemmas.Bool.{eqb-true}
use Rattle.jr_text.specs.declared.spans.Span.{Span}
use Rattle.jr_ast.specs.declared.exprs.Expr.{Expr}
use Rattle.jr_ast.specs.Marks.{exp_mark}
use Rattle.jr_ast.specs.View.{expr_of, exprs_of}
use Rattle.jr_grammar.specs.Layout.{itself}
use Rattle.jr_pieces.specs.Finding.{same_span, is_behind}
use Rattle.jr_piece_search.specs.Steps.{choose}

pub then_is : {X : Type 0} (b : Bool) (x y : X) → b ≡ true → x ≡ (if b then x else y)
then_is true x y e = refl
then_is false x y e = absurd (apart e)
  where
    apart : false ≡ true → ⊥
    apart j = cc

pub else_is : {X : Type 0} (b : Bool) (x y : X) → b ≡ false → y ≡ (if b then x else y)
else_is false x y e = refl
else_is true x y e = absurd (apart e)
  where
    apart : true ≡ false → ⊥
    apart j = cc

both_true : (a b : Bool) → (a && b) ≡ true → (a ≡ true) × (b ≡ true)
both_true true b e = (refl, e)
both_true false b e = absurd (apart e)
  where
    apart : false ≡ true → ⊥
    apart j = cc

pub is_same : (x s : Span) → same_span x s ≡ true → x ≡ s
is_same x s e =
    let p = both_true (nat_eq x.from s.from) (nat_eq x.to s.to) e in
    let from : x.from ≡ s.from = eqb-true x.from s.from p.0 in
    let to : x.to ≡ s.to = eqb-true x.to s.to p.1 in
    λ i. record { from = from i; to = to i }

-- ---- the loop

pub left_is : {T : Type 0} (xs : List T) (i : ℕ) (x : T) → i < length xs → x ≡ get_or xs i x → drop i xs ≡ x ∷ drop (i + 1) xs
left_is xs i x lt is = drop-cons xs i x lt ∙ ap (λ z. z ∷ drop (suc i) xs) (sym is) ∙ ap (λ n. x ∷ drop n xs) (sym (add-one i))

module _ (s : Span) (xs : List (Expr Span)) (i : ℕ) where
  choose_step : (x : Expr Span) (n : ℕ) → i < length xs → x ≡ get_or xs i x
      → choose s n (exprs_of (drop i xs)) ≡ (if is_behind itself s (exp_mark (expr_of x)) then choose s (suc n) (exprs_of (drop (i + 1) xs)) else Some (record { number = n; part = expr_of x }))
  unfolding choose
  choose_step x n lt is = ap (λ z. choose s n (exprs_of z)) (left_is xs i x lt is)

  pub choose_goes : (x : Expr Span) (n : ℕ) → i < length xs → x ≡ get_or xs i x → is_behind itself s (exp_mark (expr_of x)) ≡ true
      → choose s n (exprs_of (drop i xs)) ≡ choose s (suc n) (exprs_of (drop (i + 1) xs))
  choose_goes x n lt is passed = choose_step x n lt is ∙ sym (then_is (is_behind itself s (exp_mark (expr_of x))) (choose s (suc n) (exprs_of (drop (i + 1) xs))) (Some (record { number = n; part = expr_of x })) passed)

  pub choose_here : (x : Expr Span) (n : ℕ) → i < length xs → x ≡ get_or xs i x → is_behind itself s (exp_mark (expr_of x)) ≡ false
      → choose s n (exprs_of (drop i xs)) ≡ Some (record { number = n; part = expr_of x })
  choose_here x n lt is passed = choose_step x n lt is ∙ sym (else_is (is_behind itself s (exp_mark (expr_of x))) (choose s (suc n) (exprs_of (drop (i + 1) xs))) (Some (record { number = n; part = expr_of x })) passed)

  pub choose_ends : (n : ℕ) → length xs ≤ i → choose s n (exprs_of (drop i xs)) ≡ None
  unfolding choose
  choose_ends n past = ap (λ z. choose s n (exprs_of z)) (drop_all i xs past)
