use Rattle.std.proofs.Common.{◌≡◌, ℕ, List, [], ◌∷◌, length, Bool, true, false, Vec, Global, ◌==◌, ap, sym, ◌∙◌, refl, arith}
use Rattle.std.specs.Prelude.{◌&&◌}
use Rattle.std.specs.declared.boxed.Box.{Box}
use Rattle.jr_ast.specs.declared.exprs.Expr.{Expr}
use Rattle.jr_ast.specs.declared.exprs.ExprKind as expr
use Rattle.jr_ast.specs.declared.parts.TypeRef.{TypeRef}
use Rattle.jr_ast.specs.View.{expr_of, exprs_of, type_of, expr_kind}
use Rattle.jr_ast.proofs.Rows.{expr_kind-New}
use Rattle.jr_table.specs.DeclaredItems.{is_simple, is_object, has_none}
use Rattle.jr_build_declared.specs.Fitting.{begins_by}
use Rattle.jr_build_declared.proofs.declaration_parts.is_simple_init.Goals as goal

created : {A : Type 0} (begins : A → ℕ → ℕ) (m : A) (k : expr.ExprKind A) (t : Box (TypeRef A) Global) (args : Vec (Expr A) Global) (a b : Bool) → k ≡ expr.New t args → a ≡ is_object begins (type_of t.value) → b ≡ has_none begins (exprs_of args.items)
    → a && b ≡ is_simple begins (expr_kind m k)
created {A} begins m k t args a b is e f = (λ i. e i && f i) ∙ sym (ap (is_simple begins) (ap (expr_kind m) is ∙ expr_kind-New A m t args))

none_when : {A : Type 0} (begins : A → ℕ → ℕ) (xs : List (Expr A)) (b : Bool) → b ≡ (length xs == 0) → b ≡ has_none begins (exprs_of xs)
none_when begins [] b e = e
none_when begins (x ∷ xs) b e = e ∙ grind arith

pub returns-in-New : goal.returns-in-New
returns-in-New g c = created (begins_by g.A.Mark.span_from) c.args.of.now.mark c.args.of.now.kind c.in-New.ty c.in-New.args c.names_object.result c.is_empty.result c.in-New.is c.names_object.ensures (none_when (begins_by g.A.Mark.span_from) c.in-New.args.items c.is_empty.result (c.is_empty.ensures ∙ ap (λ n. n == 0) (let e : c.in-New.args.len ≡ length c.in-New.args.items = omega (arith, c.in-New.args.ok) in e)))
