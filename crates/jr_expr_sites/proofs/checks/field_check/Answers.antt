use Rattle.std.proofs.Common.{refl, sym, ap, ◌∙◌}
use Rattle.jr_ast.specs.View.{expr_of}
use Rattle.jr_cover.specs.Sites as sites
use Rattle.jr_expr_sites.specs.StepView.{given, meaning_view}
use Rattle.jr_expr_sites.specs.Routes.{Walked, begins_by, spots}
use Rattle.jr_expr_sites.specs.Routes as route
use Rattle.jr_expr_sites.proofs.Walking.{on_ok_then}
use Rattle.jr_expr_sites.proofs.Names.{via}
use Rattle.jr_expr_sites.proofs.Spotted as spotted
use Rattle.jr_expr_sites.proofs.checks.field_check.Goals as goal

pub returns-in-Field : goal.returns-in-Field
returns-in-Field g c path =
    let G = given g.F.Facts.decls g.F.Facts.types c.args.here.now in
    let T = g.A.Mark.span_from in
    let e = expr_of c.args.of.now in
    let word = c.args.word in
    on_ok_then c.null_check.result (λ h o. spotted.checked_via T G o path c.args.base e word _ (sym c.meaning_at.ensures ∙ ap meaning_view c.in-Field.is) c.args.out.now.items c.null_check.new.out.items (h o)) (c.null_check.ensures path)

pub returns-in-Local : goal.returns-in-Local
returns-in-Local g c path =
    let G = given g.F.Facts.decls g.F.Facts.types c.args.here.now in
    let T = g.A.Mark.span_from in
    let e = expr_of c.args.of.now in
    let word = c.args.word in
    on_ok_then c.put_nothing.result (λ h o. via G word (sites.field_check (route.null_check T path c.args.base e word G o)) _ _ c.args.out.now.items c.put_nothing.new.out.items (sym c.meaning_at.ensures ∙ ap meaning_view c.in-Local.is) refl (h o)) (c.put_nothing.ensures G)

pub returns-in-Class : goal.returns-in-Class
returns-in-Class g c path =
    let G = given g.F.Facts.decls g.F.Facts.types c.args.here.now in
    let T = g.A.Mark.span_from in
    let e = expr_of c.args.of.now in
    let word = c.args.word in
    on_ok_then c.put_nothing-in-Class.result (λ h o. via G word (sites.field_check (route.null_check T path c.args.base e word G o)) _ _ c.args.out.now.items c.put_nothing-in-Class.new.out.items (sym c.meaning_at.ensures ∙ ap meaning_view c.in-Class.is) refl (h o)) (c.put_nothing-in-Class.ensures G)

pub returns-in-Nothing : goal.returns-in-Nothing
returns-in-Nothing g c path =
    let G = given g.F.Facts.decls g.F.Facts.types c.args.here.now in
    let T = g.A.Mark.span_from in
    let e = expr_of c.args.of.now in
    let word = c.args.word in
    on_ok_then c.put_nothing-in-Nothing.result (λ h o. via G word (sites.field_check (route.null_check T path c.args.base e word G o)) _ _ c.args.out.now.items c.put_nothing-in-Nothing.new.out.items (sym c.meaning_at.ensures ∙ ap meaning_view c.in-Nothing.is) refl (h o)) (c.put_nothing-in-Nothing.ensures G)
