-- A tree of types is made part by part.
use Rattle.std.proofs.Common.{◌≡◌, ℕ, suc, ◌+◌, ◌-◌, ◌<◌, ◌≤◌, List, [], ◌∷◌, ◌++◌, length, get_or, drop, add-one, Option, refl, sym, ap, ◌∙◌, arith}
use Rattle.std.proofs.lemmas.List.{append_assoc, append-nil}
use Rattle.std.proofs.Math.Seq.{drop-cons}
use Rattle.jr_ast.specs.declared.exprs.Expr.{Expr}
use Rattle.jr_ast.specs.View.{expr_of, exprs_of}
use Rattle.jr_ast.specs.Tree as tree
use Rattle.jr_table.specs.Keys.{Ty}
use Rattle.jr_table.specs.Rows.{Row}
use Rattle.jr_table.specs.Context.{Context}
use Rattle.jr_expr_types.specs.Slots.{Slot}
use Rattle.jr_expr_types.specs.Trees.{Tree, node, Parts, none, put, count, flat, flats}
use Rattle.jr_expr_types.specs.TypedTrees.{exp_tree, put_row}
use Rattle.jr_bind_expr.specs.TypedSlots.{row_slots, row_count}

pub length-join : {X : Type 0} (xs ys : List X) → length (xs ++ ys) ≡ length xs + length ys
length-join [] ys = let e : 0 + length ys ≡ length ys = omega arith in sym e
length-join (x ∷ xs) ys = let e = length-join xs ys in omega (arith, e)

pub args_length : {A : Type 0} (xs : List (Expr A)) → length xs ≡ row_count (exprs_of xs)
args_length [] = refl
args_length (x ∷ xs) = ap suc (args_length xs)

-- behind what was there stand these parts
module _ (front : List Slot) where
  pub start : front ≡ front ++ flats none
  unfolding flats
  start = sym (append-nil front)

  pub add : (ps : Parts) (t : Tree) (now next : List Slot) → now ≡ front ++ flats ps → next ≡ now ++ flat t → next ≡ front ++ flats (put ps t)
  unfolding flats
  add ps t now next is more = more ∙ ap (λ xs. xs ++ flat t) is ∙ append_assoc front (flats ps) (flat t)

  pub add_same : (ps : Parts) (t s : Tree) (now next : List Slot) → now ≡ front ++ flats ps → next ≡ now ++ flat s → s ≡ t → next ≡ front ++ flats (put ps t)
  add_same ps t s now next is more same = add ps t now next is (more ∙ ap (λ x. now ++ flat x) same)

  pub close : (ps : Parts) (u : Option Ty) (now new : List Slot) (before n : ℕ) → now ≡ front ++ flats ps → before ≡ length front → n ≡ count ps
      → new ≡ now ++ record { size = suc (length now - before); count = n; type = u } ∷ [] → new ≡ front ++ flat (node u ps)
  unfolding flat
  close ps u now new before n is start_is count_is made =
      let l = length-join front (flats ps) in
      let m : length now ≡ length front + length (flats ps) = ap length is ∙ l in
      let size : length now - before ≡ length (flats ps) = omega (arith, m, start_is) in
      made ∙ (λ i. is i ++ record { size = suc (size i); count = count_is i; type = u } ∷ []) ∙ append_assoc front (flats ps) (record { size = suc (length (flats ps)); count = count ps; type = u } ∷ [])

  pub within : (ps : Parts) (now : List Slot) (before : ℕ) → now ≡ front ++ flats ps → before ≡ length front → before ≤ length now
  within ps now before is start_is =
      let l = length-join front (flats ps) in
      let m : length now ≡ length front + length (flats ps) = ap length is ∙ l in
      omega (arith, m, start_is)

module _ {A : Type 0} (rows : List Row) (c : Context) where
  pub row_flats : (ps : Parts) (es : tree.Exps A) → flats (put_row rows c ps es) ≡ flats ps ++ row_slots rows c es
  unfolding flats put_row
  row_flats ps tree.end = sym (append-nil (flats ps))
  row_flats ps (tree.more e es) = row_flats (put ps (exp_tree rows c e)) es ∙ append_assoc (flats ps) (flat (exp_tree rows c e)) (row_slots rows c es)

  pub row_counted : (ps : Parts) (es : tree.Exps A) → count (put_row rows c ps es) ≡ count ps + row_count es
  unfolding put_row
  row_counted ps tree.end = omega arith
  row_counted ps (tree.more e es) = let h = row_counted (put ps (exp_tree rows c e)) es in omega (arith, h)

  pub add_row : (front : List Slot) (ps : Parts) (es : tree.Exps A) (now next : List Slot) → now ≡ front ++ flats ps → next ≡ now ++ row_slots rows c es → next ≡ front ++ flats (put_row rows c ps es)
  add_row front ps es now next is more =
      more ∙ ap (λ xs. xs ++ row_slots rows c es) is ∙ append_assoc front (flats ps) (row_slots rows c es) ∙ ap (λ xs. front ++ xs) (sym (row_flats ps es))

  pub add_row_same : (front : List Slot) (ps : Parts) (es fs : tree.Exps A) (now next : List Slot) → now ≡ front ++ flats ps → next ≡ now ++ row_slots rows c fs → fs ≡ es → next ≡ front ++ flats (put_row rows c ps es)
  add_row_same front ps es fs now next is more same = add_row front ps es now next is (more ∙ ap (λ x. now ++ row_slots rows c x) same)

-- the rest of a row from one of its elements on
rest_is : {T : Type 0} (row : List T) (i : ℕ) (x : T) → i < length row → x ≡ get_or row i x → drop i row ≡ x ∷ drop (i + 1) row
rest_is row i x lt at = drop-cons row i x lt ∙ ap (λ y. y ∷ drop (suc i) row) (sym at) ∙ ap (λ n. x ∷ drop n row) (sym (add-one i))

module _ {A : Type 0} (rows : List Row) (c : Context) (row : List (Expr A)) (i : ℕ) (x : Expr A) (lt : i < length row) (at : x ≡ get_or row i x) where
  pub next_slots : (all now next : List Slot) → next ≡ now ++ flat (exp_tree rows c (expr_of x)) → now ++ row_slots rows c (exprs_of (drop i row)) ≡ all → next ++ row_slots rows c (exprs_of (drop (i + 1) row)) ≡ all
  next_slots all now next is so_far =
      ap (λ xs. xs ++ row_slots rows c (exprs_of (drop (i + 1) row))) is ∙ append_assoc now (flat (exp_tree rows c (expr_of x))) (row_slots rows c (exprs_of (drop (i + 1) row)))
      ∙ ap (λ xs. now ++ row_slots rows c (exprs_of xs)) (sym (rest_is row i x lt at)) ∙ so_far
