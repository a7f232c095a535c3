-- Steps of the walk: places that fit, rows of arguments, and measures.
use Rattle.std.proofs.Common.{◌≡◌, ℕ, ◌+◌, ◌*◌, ◌<◌, ◌≤◌, arith, List, [], ◌∷◌, ◌++◌, map, length, get_or, drop, Option, Some, None, refl, ap, sym, subst, ◌∙◌, append_assoc, suc, add-one}
use Rattle.std.proofs.Math.Seq.{drop-cons}
use Rattle.std.proofs.lemmas.List.{drop_all, append-nil}
use Rattle.std.specs.Prelude.{option_map}
use Rattle.jr_ast.specs.Tree as tree
use Rattle.jr_ast.specs.declared.exprs.Expr.{Expr}
use Rattle.jr_ast.specs.View.{expr_of, exprs_of}
use Rattle.jr_ast.specs.Marks.{exp_mark}
use Rattle.jr_ast.proofs.Rows.{expr_mark_is}
use Rattle.jr_table.specs.declared.entries.Kind.{Kind}
use Rattle.jr_table.specs.Keys.{Ty}
use Rattle.jr_table.specs.Rows.{Row}
use Rattle.jr_table.specs.Entries.{kind_of}
use Rattle.jr_table.specs.Context.{Context}
use Rattle.jr_table.specs.Binding.{value}
use Rattle.jr_table.specs.Meanings.{type_of, types_of, class_name_of, target_found, with_first}
use Rattle.jr_table.specs.Walks.{notes_of, target_notes, args_notes}
use Rattle.jr_bind_expr.specs.Fits.{FitsExp, FitsTarget, FitsExps}
use Rattle.jr_bind_expr.specs.ArgsView.{with_last, joined}

pub left_is : {T : Type 0} (xs : List T) (i : ℕ) (x : T) → i < length xs → x ≡ get_or xs i x → drop i xs ≡ x ∷ drop (i + 1) xs
left_is xs i x lt is = drop-cons xs i x lt ∙ ap (λ z. z ∷ drop (suc i) xs) (sym is) ∙ ap (λ n. x ∷ drop n xs) (sym (add-one i))

-- an expression itself comes between it and its parts
pub own_falls : (n t : ℕ) → 3 * n + 1 ≡ t → 3 * n < t
own_falls n t h = omega (arith, h)

pub falls_more : (n whole t : ℕ) → 3 * n + 1 < t → 3 * whole ≡ t → 3 * n + 2 < t
falls_more n whole t h e = omega (arith, h, e)

pub held_falls : (n n' t : ℕ) → n ≡ n' → 3 * n' + 2 ≡ t → 3 * n + 1 < t
held_falls n n' t e h = omega (arith, e, h)

pub item_falls : (n m t : ℕ) → 3 * n < 3 * m + 1 → 3 * m + 2 ≡ t → 3 * n + 1 < t
item_falls n m t h e = omega (arith, h, e)

module _ {A : Type 0} (B : A → ℕ → ℕ) (F : A → ℕ → Type 0) where
  mark_fits : (base : ℕ) (e : tree.Exp A) → FitsExp B F base e → F (exp_mark e) base
  unfolding FitsExp FitsTarget FitsExps
  mark_fits base (tree.number m n) h = h
  mark_fits base (tree.truth m b) h = h
  mark_fits base (tree.null m) h = h
  mark_fits base (tree.string m t) h = h
  mark_fits base (tree.name m w) h = h.0
  mark_fits base (tree.field m e w) h = h.0
  mark_fits base (tree.super_field m w) h = h.0
  mark_fits base (tree.this m) h = h
  mark_fits base (tree.class_literal m t) h = h.0
  mark_fits base (tree.call m to w args) h = h.0
  mark_fits base (tree.super_call m w args) h = h.0
  mark_fits base (tree.create m t args) h = h.0
  mark_fits base (tree.paren m e) h = h.0
  mark_fits base (tree.cast m t e) h = h.0
  mark_fits base (tree.unary m op e) h = h.0
  mark_fits base (tree.bump m op e) h = h.0
  mark_fits base (tree.binary m op l r) h = h.0
  mark_fits base (tree.assign m l r) h = h.0
  mark_fits base (tree.compound m op l r) h = h.0

  pub own_fits : (base : ℕ) (x : Expr A) → FitsExp B F base (expr_of x) → F x.mark base
  own_fits base x h = subst (λ (m : A). F m base) (expr_mark_is x) (mark_fits base (expr_of x) h)

  -- where a place and a part are shown as they are
  pub shown_fits : (a a' : ℕ) (x y : Expr A) → a ≡ a' → x ≡ y → FitsExp B F a' (expr_of y) → FitsExp B F a (expr_of x)
  shown_fits a a' x y e d h = subst (λ (n : ℕ). FitsExp B F n (expr_of x)) (sym e) (subst (λ (z : Expr A). FitsExp B F a' (expr_of z)) (sym d) h)

  pub shown_fits_row : (a a' : ℕ) (x y : List (Expr A)) → a ≡ a' → x ≡ y → FitsExps B F a' (exprs_of y) → FitsExps B F a (exprs_of x)
  shown_fits_row a a' x y e d h = subst (λ (n : ℕ). FitsExps B F n (exprs_of x)) (sym e) (subst (λ (z : List (Expr A)). FitsExps B F a' (exprs_of z)) (sym d) h)

  -- the first of what is left, and the rest
  pub left_fits : (at : ℕ) (xs : List (Expr A)) (i : ℕ) (x : Expr A) → i < length xs → x ≡ get_or xs i x → FitsExps B F at (exprs_of (drop i xs)) → FitsExp B F at (expr_of x) × FitsExps B F at (exprs_of (drop (i + 1) xs))
  unfolding FitsExp FitsTarget FitsExps
  left_fits at xs i x lt is h =
      let e : drop i xs ≡ x ∷ drop (i + 1) xs = left_is xs i x lt is in
      subst (λ (z : List (Expr A)). FitsExps B F at (exprs_of z)) e h

module _ {A : Type 0} (B : A → ℕ → ℕ) (rows : List Row) (c : Context) where
  pub left_notes : (at : ℕ) (xs : List (Expr A)) (i : ℕ) (x : Expr A) → i < length xs → x ≡ get_or xs i x → args_notes B rows c at (exprs_of (drop i xs)) ≡ notes_of B rows c value at (expr_of x) ++ args_notes B rows c at (exprs_of (drop (i + 1) xs))
  unfolding notes_of target_notes args_notes
  left_notes at xs i x lt is = ap (λ z. args_notes B rows c at (exprs_of z)) (left_is xs i x lt is)

  pub row_ends : (at : ℕ) (xs : List (Expr A)) (i : ℕ) → length xs ≤ i → args_notes B rows c at (exprs_of (drop i xs)) ≡ []
  unfolding notes_of target_notes args_notes
  row_ends at xs i past = ap (λ z. args_notes B rows c at (exprs_of z)) (drop_all i xs past)

abbrev kinds_in : List Row → Option (List Ty) → Option (List Kind)
kinds_in rows ts = option_map (map (kind_of rows)) ts

more_kinds : (rows : List Row) (ks : Option (List Kind)) (t : Option Ty) (ts : Option (List Ty)) → joined ks (kinds_in rows (with_first t ts)) ≡ joined (with_last ks (option_map (kind_of rows) t)) (kinds_in rows ts)
more_kinds rows None None None = refl
more_kinds rows None None (Some ts) = refl
more_kinds rows None (Some t) None = refl
more_kinds rows None (Some t) (Some ts) = refl
more_kinds rows (Some ks) None None = refl
more_kinds rows (Some ks) None (Some ts) = refl
more_kinds rows (Some ks) (Some t) None = refl
more_kinds rows (Some ks) (Some t) (Some ts) = ap Some (sym (append_assoc ks (kind_of rows t ∷ []) (map (kind_of rows) ts)))

joined_none : (ks : Option (List Kind)) → joined ks (Some []) ≡ ks
joined_none None = refl
joined_none (Some ks) = ap Some (append-nil ks)

pub none_joined : (ks : Option (List Kind)) → joined (Some []) ks ≡ ks
none_joined None = refl
none_joined (Some ks) = refl

module _ {A : Type 0} (rows : List Row) (c : Context) where
  pub left_kinds : (xs : List (Expr A)) (i : ℕ) (x : Expr A) (ks : Option (List Kind)) → i < length xs → x ≡ get_or xs i x
      → joined ks (kinds_in rows (types_of rows c (exprs_of (drop i xs)))) ≡ joined (with_last ks (option_map (kind_of rows) (type_of rows c (expr_of x)))) (kinds_in rows (types_of rows c (exprs_of (drop (i + 1) xs))))
  unfolding type_of class_name_of target_found types_of
  left_kinds xs i x ks lt is = ap (λ z. joined ks (kinds_in rows (types_of rows c (exprs_of z)))) (left_is xs i x lt is) ∙ more_kinds rows ks (type_of rows c (expr_of x)) (types_of rows c (exprs_of (drop (i + 1) xs)))

  pub kinds_end : (xs : List (Expr A)) (i : ℕ) (ks : Option (List Kind)) → length xs ≤ i → joined ks (kinds_in rows (types_of rows c (exprs_of (drop i xs)))) ≡ ks
  unfolding type_of class_name_of target_found types_of
  kinds_end xs i ks past = ap (λ z. joined ks (kinds_in rows (types_of rows c (exprs_of z)))) (drop_all i xs past) ∙ joined_none ks
