-- What a vector lends, and what it ends as.
use Rattle.std.proofs.Common.{◌≡◌, ◌≤◌, ◌<◌, ◌↔◌, ◌-◌, ℕ, zero, suc, List, [], ◌∷◌, Option, Some, None, MutBor, length, slice_set, get_or, option_map, map, refl, ap, sym, subst, ◌∙◌, arith}
use mathlib.Core.Option as maybe
use denote.Enum.Declared.{Record}
use borrow.Enum.Known.{ValuesAt, at}
use borrow.Enum.Total.{values_o, values_o_at, values_d, values_d_at}
use Rattle.std.specs.Option.{OnSome, IfSome, IsSome}
use Rattle.std.specs.List.{slice_get}
use Rattle.std.proofs.lemmas.Option.{slice_get-map, slice_get_past, slice_get_read}
use Rattle.jr_ast.specs.declared.exprs.Expr.{Expr}
use Rattle.jr_ast.specs.declared.stmts.Stmt.{Stmt}
use Rattle.jr_ast.specs.declared.members.Member.{Member}
use Rattle.jr_ast.specs.Tree as tree
use Rattle.jr_ast.specs.StatementTree as statement
use Rattle.jr_ast.specs.MemberTree as member
use Rattle.jr_ast.specs.View.{expr_of, exprs_of, stmt_of, stmts_of, member_of, members_of}
use Rattle.jr_paths_nodes.specs.With.{get_from, with_exp_among, with_exp_from, with_stmt_among, with_stmt_from, with_member_among, with_member_from}

abbrev or_else : {V D Y : Type 0} → (Y → V → D) → maybe.Option V → D → Y → D
or_else f maybe.none x y = x
or_else f (maybe.some v) x y = f y v

-- where an enum's fields are read, at the variant that it is known to be
pub known : {V D Y : Type 0} (f : Y → V → D) (v : V) (x : D) (y : Y) {o : maybe.Option V} → o ≡ maybe.some v → or_else f o x y ≡ f y v
known f v x y e = ap (λ o. or_else f o x y) e

-- the fields of an enum of this variant
pub given : (N : Record) (k : ℕ) (v : ValuesAt N.parts k) {s : N.D} → s ≡ at N k v → values_o N k s ≡ maybe.some v
given N k v is = ap (values_o N k) is ∙ values_o_at N k v

pub picked : (N : Record) (k : ℕ) (d v : ValuesAt N.parts k) {s : N.D} → s ≡ at N k v → values_d N k d s ≡ v
picked N k d v is = ap (values_d N k d) is ∙ values_d_at N k d v

pub on_some : {T P : Type 0} (o : Option T) → P → OnSome o P
on_some None p = tt
on_some (Some x) p = p

pub on_none : {T : Type 0} (P : Type 0) (o : Option T) → o ≡ None → OnSome o P
on_none P None e = tt
on_none P (Some x) e = absurd (cc e)

pub on_that : {T P : Type 0} (o : Option T) {x : T} → o ≡ Some x → OnSome o P → P
on_that None e p = absurd (cc e)
on_that (Some y) e p = p

pub on_some_with : {T P Q : Type 0} (o : Option T) → OnSome o P → ((x : T) → o ≡ Some x → P → Q) → OnSome o Q
on_some_with None p f = tt
on_some_with (Some x) p f = f x refl p

pub on_some_also : {T P Q : Type 0} (o : Option T) → OnSome o P → (P → Q) → OnSome o Q
on_some_also None p f = tt
on_some_also (Some x) p f = f p

pub from_at : {X : Type 0} (first : ℕ) (xs : List X) (number : ℕ) → first ≤ number → get_from first xs number ≡ slice_get xs (number - first)
from_at zero xs number h = ap (slice_get xs) (omega arith)
from_at (suc first) xs zero h = absurd (omega (h, arith))
from_at (suc first) xs (suc number) h = from_at first xs number (omega (h, arith)) ∙ ap (slice_get xs) (omega arith)

pub from_before : {X : Type 0} (first : ℕ) (xs : List X) (number : ℕ) → number < first → get_from first xs number ≡ None
from_before zero xs number h = absurd (omega (h, arith))
from_before (suc first) xs zero h = refl
from_before (suc first) xs (suc number) h = from_before first xs number (omega (h, arith))

-- what `get_mut` lends is what stands there
pub lent_is : {X Y : Type 0} (f : X → Y) (xs : List X) (n i : ℕ) (r : Option (MutBor X)) → n ≡ length xs → (IsSome r ↔ (i < n)) → IfSome r (λ x. x.now ≡ get_or xs i x.now)
    → option_map (λ x. f x.now) r ≡ slice_get (map f xs) i
lent_is f xs n i None same there is =
    let past : length xs ≤ i = subst (λ k. k ≤ i) same (grind (there.1, arith)) in
    sym (slice_get-map f xs i ∙ ap (option_map f) (slice_get_past xs i past))
lent_is f xs n i (Some x) same there is = sym (slice_get-map f xs i ∙ ap (option_map f) (slice_get_read xs n i x.now same (there.0 refl) is))

module _ {A : Type 0} (w : Expr A) where
  set-exprs : (xs : List (Expr A)) (i : ℕ) → exprs_of (slice_set xs i w) ≡ with_exp_among (exprs_of xs) i (expr_of w)
  set-exprs [] i = refl
  set-exprs (x ∷ xs) zero = refl
  set-exprs (x ∷ xs) (suc i) = ap (tree.more (expr_of x)) (set-exprs xs i)

  pub set_expr_from : (first : ℕ) (xs : List (Expr A)) (number : ℕ) → first ≤ number
      → exprs_of (slice_set xs (number - first) w) ≡ with_exp_from first (exprs_of xs) number (expr_of w)
  set_expr_from zero xs number h = ap (λ i. exprs_of (slice_set xs i w)) (omega arith) ∙ set-exprs xs number
  set_expr_from (suc first) xs zero h = absurd (omega (h, arith))
  set_expr_from (suc first) xs (suc number) h = ap (λ i. exprs_of (slice_set xs i w)) (omega arith) ∙ set_expr_from first xs number (omega (h, arith))

module _ {A : Type 0} (w : Stmt A) where
  set-stmts : (xs : List (Stmt A)) (i : ℕ) → stmts_of (slice_set xs i w) ≡ with_stmt_among (stmts_of xs) i (stmt_of w)
  set-stmts [] i = refl
  set-stmts (x ∷ xs) zero = refl
  set-stmts (x ∷ xs) (suc i) = ap (statement.more (stmt_of x)) (set-stmts xs i)

  pub set_stmt_from : (first : ℕ) (xs : List (Stmt A)) (number : ℕ) → first ≤ number
      → stmts_of (slice_set xs (number - first) w) ≡ with_stmt_from first (stmts_of xs) number (stmt_of w)
  set_stmt_from zero xs number h = ap (λ i. stmts_of (slice_set xs i w)) (omega arith) ∙ set-stmts xs number
  set_stmt_from (suc first) xs zero h = absurd (omega (h, arith))
  set_stmt_from (suc first) xs (suc number) h = ap (λ i. stmts_of (slice_set xs i w)) (omega arith) ∙ set_stmt_from first xs number (omega (h, arith))

module _ {A : Type 0} (w : Member A) where
  set-members : (xs : List (Member A)) (i : ℕ) → members_of (slice_set xs i w) ≡ with_member_among (members_of xs) i (member_of w)
  set-members [] i = refl
  set-members (x ∷ xs) zero = refl
  set-members (x ∷ xs) (suc i) = ap (member.more (member_of x)) (set-members xs i)

  pub set_member_from : (first : ℕ) (xs : List (Member A)) (number : ℕ) → first ≤ number
      → members_of (slice_set xs (number - first) w) ≡ with_member_from first (members_of xs) number (member_of w)
  set_member_from zero xs number h = ap (λ i. members_of (slice_set xs i w)) (omega arith) ∙ set-members xs number
  set_member_from (suc first) xs zero h = absurd (omega (h, arith))
  set_member_from (suc first) xs (suc number) h = ap (λ i. members_of (slice_set xs i w)) (omega arith) ∙ set_member_from first xs number (omega (h, arith))
