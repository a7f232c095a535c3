use Rattle.std.proofs.Common.{refl, ap, option_map, ◌∙◌}
use Rattle.jr_ast.specs.View as view
use Rattle.jr_paths_nodes.proofs.Lending.{on_some_also}
use Rattle.jr_paths_nodes.proofs.MemberWrites.{init_none, init_get, init_set}
use Rattle.jr_paths_nodes.proofs.member_writes.init_mut.Goals as goal

pub returns-then-number-first : goal.returns-then-number-first
returns-then-number-first g c = ((refl, λ w. tt, refl), record { writes_back = tt; value = init_none _ c.args.init.now c.args.first c.args.number c.if-number-first.true })

pub returns : goal.returns
returns g c =
    let init = c.args.init.now in
    let same = c.if-number-first.false in (
      (
        refl,
        λ w. on_some_also c.held_expr.result (c.held_expr.follows.holds w) (init_set _ init (c.held_expr.follows.lender w) c.args.first c.args.number w same),
        ap (option_map view.expr_of) c.held_expr.follows.holds-at-none,
      ),
      record { writes_back = tt; value = c.held_expr.ensures.value ∙ init_get _ init c.args.first c.args.number same },
    )
