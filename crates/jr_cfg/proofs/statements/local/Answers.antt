use Rattle.std.proofs.Common.{◌≡◌, ℕ, [], ◌∷◌, ◌++◌, ap, subst}
use Rattle.jr_text.specs.declared.spans.Span.{Span}
use Rattle.jr_ast.specs.View.{expr_of}
use Rattle.jr_cover.specs.Sites as sites
use Rattle.jr_expr_sites.specs.StepView.{given}
use Rattle.jr_expr_sites.specs.Routes.{Walked, exp}
use Rattle.jr_expr_sites.specs.Routes as plain
use Rattle.jr_cfg.specs.StatementRoutes as route
use Rattle.jr_expr_sites.proofs.Walking.{on_ok_then, row_goes}
use Rattle.jr_cfg.proofs.statements.local.Goals as goal

pub operand-requires : goal.operand-requires
operand-requires g c = record { fits = c.requires.fits }

pub returns : goal.returns
returns g c =
    let T = g.A.Mark.span_from in
    let G = given g.F.Facts.decls g.F.Facts.types c.args.here.now in
    let path = c.args.path.now.steps.items in
    let e = expr_of c.args.init.now in
    let word = c.span-word.result.from in
    let there : word ≡ (T c.args.name.now.mark c.args.at).from = ap (λ (z : Span). z.from) c.span-word.ensures in
    on_ok_then c.put_row.result (λ h. subst (λ (k : ℕ). Walked G (route.local T c.args.number path c.args.at k e) c.args.out.now.items c.put_row.new.out.items) there
    (row_goes G (exp T (path ++ 2 ∷ []) c.args.at e) (plain.done (sites.writes c.args.number) word) c.args.out.now.items c.operand.new.out.items c.put_site.new.out.items c.put_row.new.out.items c.in_ok-operand.ensures (c.in_ok-put_site.ensures G) h)) (c.put_row.ensures G.member)
