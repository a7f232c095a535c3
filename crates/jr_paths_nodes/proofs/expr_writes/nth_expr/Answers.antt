use Rattle.std.proofs.Common.{◌-◌, map, refl, sym, ◌∙◌}
use Rattle.jr_ast.specs.View as view
use Rattle.jr_paths_nodes.proofs.Lending.{on_some, from_at, from_before, lent_is, set_expr_from}
use Rattle.jr_paths_nodes.proofs.expr_writes.nth_expr.Goals as goal

pub returns-then-number-first : goal.returns-then-number-first
returns-then-number-first g c = ((refl, λ w. tt, refl), record { writes_back = tt; value = sym (from_before c.args.first (map view.expr_of c.args.among.now.items) c.args.number c.if-number-first.true) })

pub returns : goal.returns
returns g c =
    let first = c.args.first in
    let number = c.args.number in
    let items = c.args.among.now.items in
    let past = c.if-number-first.false in (
      (refl, λ w. on_some c.get_mut.result (set_expr_from w first items number past), refl),
      record {
        writes_back = tt;
        value = lent_is view.expr_of items c.args.among.now.len (number - first) c.get_mut.result c.args.among.now.ok.0 c.get_mut.ensures.variant c.get_mut.ensures.value
            ∙ sym (from_at first (map view.expr_of items) number past);
      },
    )
