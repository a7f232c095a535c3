-- The first `return`: where a parent begins is the same for all; rows of `return` statements; and
-- measures.
use Rattle.std.proofs.Common.{◌≡◌, ℕ, zero, suc, ◌+◌, ◌*◌, ◌<◌, ◌≤◌, List, [], ◌∷◌, ◌++◌, length, get_or, drop, Option, Some, None, refl, ap, sym, ◌∙◌, arith}
use Rattle.std.specs.Prelude.{slice_get}
use Rattle.std.proofs.lemmas.List.{drop_all}
use Rattle.jr_text.specs.declared.spans.Span.{Span}
use Rattle.jr_ast.specs.declared.stmts.Stmt.{Stmt}
use Rattle.jr_ast.specs.Tree as tree
use Rattle.jr_ast.specs.StatementTree as statement
use Rattle.jr_ast.specs.View.{stmt_of, stmts_of}
use Rattle.jr_ast.proofs.Sizes.{stmt_size, stmts_size, else_size}
use Rattle.jr_grammar.specs.Layout.{itself}
use Rattle.jr_pieces.specs.Returns.{returns_in, returns_behind, returns_in_list}
use Rattle.jr_piece_search.specs.Ends.{IsLast, first_in, EndsSo, found, last}
use Rattle.jr_piece_search.proofs.Choosing.{left_is}

-- ---- where a parent begins

pub alike : (s : statement.Stmt Span) (a b : ℕ) → returns_in itself a s ≡ returns_in itself b s
alike (statement.local m is_final t w e) a b = refl
alike (statement.eval m e) a b = refl
alike (statement.branch m c s o) a b = refl
alike (statement.loop m c s) a b = refl
alike (statement.return m e) a b = refl
alike (statement.block m l) a b = refl
alike (statement.sync m e l) a b = refl
alike (statement.empty m) a b = refl

pub list_alike : (l : statement.Stmts Span) (a b : ℕ) → returns_in_list itself a l ≡ returns_in_list itself b l
list_alike statement.end a b = refl
list_alike (statement.more s ss) a b = λ i. alike s a b i ++ list_alike ss a b i

abbrev first : List Span → Option Span
first xs = slice_get xs 0

-- ---- rows

none_first : (xs ys : List Span) → first xs ≡ None → first (xs ++ ys) ≡ first ys
none_first [] ys e = refl
none_first (x ∷ xs) ys e = absurd (apart e)
  where
    apart : Some x ≡ None → ⊥
    apart j = cc

some_first : (xs ys : List Span) (x : Span) → first xs ≡ Some x → first (xs ++ ys) ≡ Some x
some_first [] ys x e = absurd (apart e)
  where
    apart : None ≡ Some x → ⊥
    apart j = cc
some_first (y ∷ xs) ys x e = e

-- ---- statements

module _ (m : Span) where
  pub loop_ends : (c : tree.Exp Span) (s t : statement.Stmt Span) → t ≡ s → EndsSo (statement.loop m c s) (last t)
  loop_ends c s t is = (λ base other. ap first (alike s m.from other ∙ ap (λ (x : statement.Stmt Span). returns_in itself other x) (sym is)), is)

  pub then_ends : (c : tree.Exp Span) (s t : statement.Stmt Span) → t ≡ s → EndsSo (statement.branch m c s statement.no_else) (last t)
  then_ends c s t is = (λ base other. ap first (plain (returns_in itself m.from s)) ∙ ap first (alike s m.from other ∙ ap (λ (x : statement.Stmt Span). returns_in itself other x) (sym is)), is)
    where
      plain : (xs : List Span) → xs ++ [] ≡ xs
      plain [] = refl
      plain (x ∷ xs) = ap (λ ys. x ∷ ys) (plain xs)

  pub else_ends : (c : tree.Exp Span) (s o t : statement.Stmt Span) → t ≡ o → first_in (λ base. returns_in itself base s) None → EndsSo (statement.branch m c s (statement.otherwise o)) (last t)
  else_ends c s o t is none = (λ base other. none_first (returns_in itself m.from s) (returns_in itself m.from o) (none m.from) ∙ ap first (alike o m.from other ∙ ap (λ (x : statement.Stmt Span). returns_in itself other x) (sym is)), is)

  pub branch_found : (c : tree.Exp Span) (s : statement.Stmt Span) (o : statement.Else Span) (x : Span) → first_in (λ base. returns_in itself base s) (Some x) → EndsSo (statement.branch m c s o) (found x)
  branch_found c s o x h base = some_first (returns_in itself m.from s) (returns_behind itself m.from o) x (h m.from)

-- ---- a list

module _ (xs : List (Stmt Span)) (i : ℕ) where
  at_item : (x : Stmt Span) → i < length xs → x ≡ get_or xs i x → (base : ℕ) → returns_in_list itself base (stmts_of (drop i xs)) ≡ returns_in itself base (stmt_of x) ++ returns_in_list itself base (stmts_of (drop (i + 1) xs))
  at_item x lt is base = ap (λ (z : List (Stmt Span)). returns_in_list itself base (stmts_of z)) (left_is xs i x lt is)

  pub item_passes : (x : Stmt Span) → i < length xs → x ≡ get_or xs i x → first_in (λ base. returns_in itself base (stmt_of x)) None
      → (base other : ℕ) → first (returns_in_list itself base (stmts_of (drop i xs))) ≡ first (returns_in_list itself other (stmts_of (drop (i + 1) xs)))
  item_passes x lt is none base other = ap first (at_item x lt is base) ∙ none_first (returns_in itself base (stmt_of x)) (returns_in_list itself base (stmts_of (drop (i + 1) xs))) (none base)
      ∙ ap first (list_alike (stmts_of (drop (i + 1) xs)) base other)

  pub item_found : (x : Stmt Span) (y : Span) → i < length xs → x ≡ get_or xs i x → first_in (λ base. returns_in itself base (stmt_of x)) (Some y)
      → (base : ℕ) → first (returns_in_list itself base (stmts_of (drop i xs))) ≡ Some y
  item_found x y lt is h base = ap first (at_item x lt is base) ∙ some_first (returns_in itself base (stmt_of x)) (returns_in_list itself base (stmts_of (drop (i + 1) xs))) y (h base)

  pub row_ends : length xs ≤ i → (base : ℕ) → first (returns_in_list itself base (stmts_of (drop i xs))) ≡ None
  row_ends past base = ap (λ (z : List (Stmt Span)). first (returns_in_list itself base (stmts_of z))) (drop_all i xs past)

-- ---- measures

pub last_smaller : (t s : statement.Stmt Span) → IsLast t s → suc (stmt_size t) ≤ stmt_size s
unfolding stmt_size stmts_size else_size
last_smaller t (statement.branch m c x statement.no_else) is = let s = ap stmt_size is in omega (arith, s)
last_smaller t (statement.branch m c x (statement.otherwise y)) is = let s = ap stmt_size is in omega (arith, s)
last_smaller t (statement.loop m c x) is = let s = ap stmt_size is in omega (arith, s)
last_smaller t (statement.local m is_final u w e) is = absurd is
last_smaller t (statement.eval m e) is = absurd is
last_smaller t (statement.return m e) is = absurd is
last_smaller t (statement.block m b) is = absurd is
last_smaller t (statement.sync m e b) is = absurd is
last_smaller t (statement.empty m) is = absurd is

pub falls_both : (total a b x t : ℕ) → x ≡ a → total ≡ suc (a + b) → 4 * total ≡ t → 4 * (x + b) + 3 < t
falls_both total a b x t e w h = omega (arith, e, w, h)

pub falls_one : (total a x t : ℕ) → x ≡ a → total ≡ suc a → 4 * total ≡ t → 4 * x + 2 < t
falls_one total a x t e w h = omega (arith, e, w, h)

size_within : (row : List (Stmt Span)) (i : ℕ) (x : Stmt Span) → i < length row → x ≡ get_or row i x → stmt_size (stmt_of x) ≤ stmts_size (stmts_of row)
unfolding stmt_size stmts_size else_size
size_within [] i x lt e = absurd (omega arith)
size_within (y ∷ ys) zero x lt e = let s = ap (λ (z : Stmt Span). stmt_size (stmt_of z)) e in omega arith
size_within (y ∷ ys) (suc i) x lt e = let h = size_within ys i x (omega arith) e in omega arith

pub falls_item : (row : List (Stmt Span)) (i : ℕ) (x : Stmt Span) (t : ℕ) → i < length row → x ≡ get_or row i x → 4 * stmts_size (stmts_of row) + 2 ≡ t → 4 * stmt_size (stmt_of x) + 1 < t
falls_item row i x t lt e h = let s = size_within row i x lt e in omega (arith, s, h)
