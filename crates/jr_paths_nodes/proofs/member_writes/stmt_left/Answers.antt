use Rattle.std.proofs.Common.{refl, ap, sym, ◌∙◌}
use Rattle.jr_ast.specs.View as view
use Rattle.jr_paths_nodes.specs.MemberLent.{with_stmt_left}
use Rattle.jr_paths_nodes.proofs.Lending.{on_some_also}
use Rattle.jr_paths_nodes.proofs.MemberWrites.{stmt_at_place}
use Rattle.jr_paths_nodes.proofs.member_writes.stmt_left.Goals as goal

pub returns-in-Some : goal.returns-in-Some
returns-in-Some g c =
    let body = c.args.body.now in
    let left = c.in-Some.left in (
      (
        refl,
        λ w. on_some_also c.nth_stmt.result (c.nth_stmt.follows.holds w) (λ e. e ∙ ap (λ o. with_stmt_left (view.stmts_of body.items) o (view.stmt_of w)) (sym c.in-Some.is)),
        ap (λ xs. view.stmts_of xs) c.nth_stmt.follows.holds-at-none,
      ),
      record {
        writes_back = tt;
        value = c.nth_stmt.ensures.value ∙ stmt_at_place _ body.items left c.args.left c.in-Some.is;
      },
    )
