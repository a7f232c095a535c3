use Rattle.std.proofs.Common.{◌≡◌, ℕ, Bool, Option, Some, map, option_map, refl, sym, ap, subst, ◌∙◌}
use Rattle.jr_ast.specs.declared.exprs.Expr.{Expr}
use Rattle.jr_ast.specs.Marks.{exp_mark}
use Rattle.jr_ast.specs.View.{expr_of}
use Rattle.jr_ast.proofs.Rows.{expr_mark_is}
use Rattle.jr_table.specs.DeclaredItems.{DeclaredInit, init_declaration, is_simple}
use Rattle.jr_build_declared.specs.Fitting.{begins_by, InitFits}
use Rattle.jr_build_declared.proofs.declaration_parts.maybe_init.Goals as goal

-- the declaration of an initializer, from its parts
declaration_is : {A : Type 0} (begins : A → ℕ → ℕ) (base : ℕ) (x : Expr A) (at : ℕ) (simple : Bool) → at ≡ begins x.mark base → simple ≡ is_simple begins (expr_of x)
    → ◌≡◌ {A = Option DeclaredInit} (Some (record { at = at; is_simple = simple })) (Some (init_declaration begins base (expr_of x)))
declaration_is begins base x at simple e s = let p = e ∙ ap (λ m. begins m base) (sym (expr_mark_is x)) in λ i. Some (record { at = p i; is_simple = s i })

pub begin-requires : goal.begin-requires
begin-requires g c =
    let B = begins_by g.A.Mark.span_from in
    let F = g.A.Mark.fits_at in
    let fits : F (exp_mark (expr_of c.in-Some.of)) c.args.base = subst (λ o. InitFits B F c.args.base (option_map expr_of o)) c.in-Some.is c.requires in
    subst (λ m. F m c.args.base) (expr_mark_is c.in-Some.of) fits

pub returns-in-Some : goal.returns-in-Some
returns-in-Some g c =
    let B = begins_by g.A.Mark.span_from in
    declaration_is B c.args.base c.in-Some.of c.begin.result c.is_simple_init.result c.begin.ensures c.is_simple_init.ensures
    ∙ ap (λ o. option_map (init_declaration B c.args.base) (option_map expr_of o)) (sym c.in-Some.is)
