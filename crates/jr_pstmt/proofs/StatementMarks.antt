-- The mark of an expression or a statement is that of its pure tree.
use Rattle.std.proofs.Common.{◌≡◌, refl}
use Rattle.jr_text.specs.declared.spans.Span.{Span}
use Rattle.jr_ast.specs.declared.exprs.Expr.{Expr}
use Rattle.jr_ast.specs.declared.exprs.ExprKind.{ExprKind, Call'}
use Rattle.jr_ast.specs.declared.parts.TypeRef.{TypeRef}
use Rattle.jr_ast.specs.declared.parts.TypeKind.{TypeKind}
use Rattle.jr_ast.specs.declared.parts.TypeKind.TheVariants as type
use Rattle.jr_ast.specs.declared.stmts.Stmt.{Stmt}
use Rattle.jr_ast.specs.declared.stmts.StmtKind.{StmtKind, If'}
use Rattle.jr_ast.specs.Marks.{type_mark, exp_mark, stmt_mark}
use Rattle.jr_ast.specs.View.{type_of, type_kind, expr_of, expr_kind, held_target, expr_row, stmt_of, stmt_kind, held_else, stmt_row}

exp_kind_mark : (m : Span) (k : ExprKind Span) → exp_mark (expr_kind m k) ≡ m
unfolding expr_kind held_target expr_row
exp_kind_mark m (Call' h i shape row) = refl
exp_kind_mark m _ = refl

pub exp_mark_is : (e : Expr Span) → exp_mark (expr_of e) ≡ e.mark
exp_mark_is e = exp_kind_mark e.mark e.kind

stmt_kind_mark : (m : Span) (k : StmtKind Span) → stmt_mark (stmt_kind m k) ≡ m
unfolding stmt_kind held_else stmt_row
stmt_kind_mark m (If' x p n k h) = refl
stmt_kind_mark m _ = refl

pub stmt_mark_is : (s : Stmt Span) → stmt_mark (stmt_of s) ≡ s.mark
stmt_mark_is s = stmt_kind_mark s.mark s.kind

type_kind_mark : (m : Span) (k : TypeKind Span) → type_mark (type_kind m k) ≡ m
type_kind_mark m type.Int = refl
type_kind_mark m _ = refl

pub type_mark_is : (t : TypeRef Span) → type_mark (type_of t) ≡ t.mark
type_mark_is t = type_kind_mark t.mark t.kind
