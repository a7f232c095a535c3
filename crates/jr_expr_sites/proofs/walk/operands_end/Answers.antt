use Rattle.std.proofs.Common.{sym, ◌∙◌}
use Rattle.jr_ast.specs.View.{expr_of}
use Rattle.jr_cover.specs.Ways as way
use Rattle.jr_cover.specs.Sites as sites
use Rattle.jr_expr_sites.specs.Routes.{Route, Walked}
use Rattle.jr_expr_sites.specs.Routes as route
use Rattle.jr_expr_sites.proofs.Walking.{on_ok_then, row_goes, fork_goes, walked_as, lazy_is, eager_is}
use Rattle.jr_expr_sites.proofs.walk.operands_end.Goals as goal

pub returns-then-may_pass : goal.returns-then-may_pass
returns-then-may_pass g c G path r s start middle a b =
    let T = g.A.Mark.span_from in
    let old = c.args.out.now.items in
    let D = route.divisor_check T c.args.op path c.args.at (expr_of c.args.right.now) in
    let forked = fork_goes G s route.nothing middle old c.put_nothing.new.out.items c.put.new.out.items b (c.in_ok-put_nothing.ensures G) (c.in_ok-put.ensures G.member) in
    on_ok_then c.put_row.result (λ h. walked_as G (route.seq r (λ g o. way.fork (s g o) way.pass)) (λ g o. sites.operands c.args.op (r g o) (s g o) (D g o)) start c.put_row.new.out.items
    (λ o. lazy_is c.args.op (r G o) (s G o) (D G o) (sym c.is_lazy-may_pass.ensures ∙ c.if-may_pass.true))
    (row_goes G r (λ g o. way.fork (s g o) way.pass) start middle c.put.new.out.items c.put_row.new.out.items a forked h)) (c.put_row.ensures G.member)

pub returns : goal.returns
returns g c G path r s start middle a b =
    let T = g.A.Mark.span_from in
    let old = c.args.out.now.items in
    let D = route.divisor_check T c.args.op path c.args.at (expr_of c.args.right.now) in
    let inside = row_goes G s D middle old c.divisor_check.new.out.items c.put_row-2.new.out.items b (c.in_ok-divisor_check.ensures G path) (c.in_ok-put_row.ensures G.member) in
    on_ok_then c.put_row-3.result (λ h. walked_as G (route.seq r (route.seq s D)) (λ g o. sites.operands c.args.op (r g o) (s g o) (D g o)) start c.put_row-3.new.out.items
    (λ o. eager_is c.args.op (r G o) (s G o) (D G o) (sym c.is_lazy-may_pass.ensures ∙ c.if-may_pass.false))
    (row_goes G r (route.seq s D) start middle c.put_row-2.new.out.items c.put_row-3.new.out.items a inside h)) (c.put_row-3.ensures G.member)
