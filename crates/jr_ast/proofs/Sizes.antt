-- How many nodes of its own sort a tree has, for measures.
use Rattle.std.proofs.Common.{◌≡◌, ℕ, zero, suc, ◌+◌, ◌*◌, ◌<◌, ◌≤◌, List, [], ◌∷◌, length, get_or, refl, ap, arith}
use Rattle.jr_ast.specs.declared.exprs.Expr.{Expr}
use Rattle.jr_ast.specs.declared.stmts.Stmt.{Stmt}
use Rattle.jr_ast.specs.declared.members.Member.{Member}
use Rattle.jr_ast.specs.View.{expr_of, exprs_of, stmt_of, stmts_of, member_of, members_of}
use Rattle.jr_ast.specs.Tree as tree
use Rattle.jr_ast.specs.StatementTree as statement
use Rattle.jr_ast.specs.MemberTree as member

module _ {A : Type 0} where
  unfoldable mutual
    pub exp_size : tree.Exp A → ℕ
    exp_size (tree.field m e w) = suc (exp_size e)
    exp_size (tree.call m to w args) = suc (target_size to + exps_size args)
    exp_size (tree.super_call m w args) = suc (exps_size args)
    exp_size (tree.create m t args) = suc (exps_size args)
    exp_size (tree.paren m e) = suc (exp_size e)
    exp_size (tree.cast m t e) = suc (exp_size e)
    exp_size (tree.unary m op e) = suc (exp_size e)
    exp_size (tree.bump m op e) = suc (exp_size e)
    exp_size (tree.binary m op l r) = suc (exp_size l + exp_size r)
    exp_size (tree.assign m l r) = suc (exp_size l + exp_size r)
    exp_size (tree.compound m op l r) = suc (exp_size l + exp_size r)
    exp_size _ = 0

    pub target_size : tree.Target A → ℕ
    target_size tree.no_target = 0
    target_size (tree.on e) = exp_size e

    pub exps_size : tree.Exps A → ℕ
    exps_size tree.end = 0
    exps_size (tree.more e es) = exp_size e + exps_size es

  unfoldable mutual
    pub stmt_size : statement.Stmt A → ℕ
    stmt_size (statement.branch m e s other) = suc (stmt_size s + else_size other)
    stmt_size (statement.loop m e s) = suc (stmt_size s)
    stmt_size (statement.block m body) = suc (stmts_size body)
    stmt_size (statement.sync m e body) = suc (stmts_size body)
    stmt_size _ = 0

    pub else_size : statement.Else A → ℕ
    else_size statement.no_else = 0
    else_size (statement.otherwise s) = stmt_size s

    pub stmts_size : statement.Stmts A → ℕ
    stmts_size statement.end = 0
    stmts_size (statement.more s ss) = stmt_size s + stmts_size ss

  unfoldable mutual
    pub member_size : member.Member A → ℕ
    member_size (member.inner m c) = suc (class_size c)
    member_size _ = 0

    pub class_size : member.Class A → ℕ
    class_size (member.class m mods w t ms) = suc (members_size ms)

    pub members_size : member.Members A → ℕ
    members_size member.end = 0
    members_size (member.more x xs) = member_size x + members_size xs

-- the sizes of rows add up
pub exps_add : {A : Type 0} (x : Expr A) (xs : List (Expr A)) → exps_size (exprs_of (x ∷ xs)) ≡ exp_size (expr_of x) + exps_size (exprs_of xs)
unfolding exp_size exps_size target_size
exps_add x xs = refl

pub stmts_add : {A : Type 0} (x : Stmt A) (xs : List (Stmt A)) → stmts_size (stmts_of (x ∷ xs)) ≡ stmt_size (stmt_of x) + stmts_size (stmts_of xs)
unfolding stmt_size stmts_size else_size
stmts_add x xs = refl

pub members_add : {A : Type 0} (x : Member A) (xs : List (Member A)) → members_size (members_of (x ∷ xs)) ≡ member_size (member_of x) + members_size (members_of xs)
unfolding member_size members_size class_size
members_add x xs = refl

-- what a walk goes on to is less than where it was
pub falls_further : (n t : ℕ) → n + 1 < t → n < t
falls_further n t h = omega arith

pub falls_held : (n n' t : ℕ) → n ≡ n' → 3 * n' + 1 ≡ t → 3 * n < t
falls_held n n' t e h = omega arith

module _ {T : Type 0} (size : T → ℕ) where
  pub falls_left : (whole n : ℕ) (child shown : T) (t : ℕ) → shown ≡ child → whole ≡ suc (size child + n) → 3 * whole ≡ t → 3 * size shown + 1 < t
  falls_left whole n child shown t e w h = let s = ap size e in omega arith

  pub falls_right : (whole n : ℕ) (child shown : T) (t : ℕ) → shown ≡ child → whole ≡ suc (n + size child) → 3 * whole ≡ t → 3 * size shown + 1 < t
  falls_right whole n child shown t e w h = let s = ap size e in omega arith

  pub falls_whole_row : (whole : ℕ) (row shown : T) (t : ℕ) → shown ≡ row → whole ≡ suc (size row) → 3 * whole ≡ t → 3 * size shown + 1 < t
  falls_whole_row whole row shown t e w h = let s = ap size e in omega arith

module _ {T : Type 0} (size : T → ℕ) (all : List T → ℕ) (adds : (x : T) (xs : List T) → all (x ∷ xs) ≡ size x + all xs) where
  within : (row : List T) (i : ℕ) (x : T) → i < length row → x ≡ get_or row i x → size x ≤ all row
  within [] i x lt e = absurd (omega arith)
  within (y ∷ ys) zero x lt e = let s = ap size e in let a = adds y ys in omega arith
  within (y ∷ ys) (suc i) x lt e = let h = within ys i x (omega arith) e in let a = adds y ys in omega arith

  pub falls_item : (row : List T) (i : ℕ) (x : T) (t : ℕ) → i < length row → x ≡ get_or row i x → 3 * all row + 1 ≡ t → 3 * size x < t
  falls_item row i x t lt e h = let s = within row i x lt e in omega arith
