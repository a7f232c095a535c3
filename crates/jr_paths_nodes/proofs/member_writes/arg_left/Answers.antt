use Rattle.std.proofs.Common.{refl, Some, ap, map, sym, ◌∙◌}
use denote.Param.{param}
use borrow.Enum.Known.{ValuesAt}
use Rattle.std.specs.contracts.vec.Vec as vec
use Rattle.std.specs.contracts.option.Option.{enum}
use Rattle.std.specs.contracts.alloc.Global as global
use Rattle.std.specs.contracts.impls.GlobalAllocator.TheImpl as global_impl
use Rattle.jr_ast.specs.contracts.exprs.Expr as expr
use Rattle.jr_ast.specs.View as view
use Rattle.jr_paths_nodes.specs.With.{with_exp_from, get_from}
use Rattle.jr_paths_nodes.proofs.Lending.{on_some_also, known, given, picked}
use Rattle.jr_paths_nodes.proofs.MemberWrites as writes
use Rattle.jr_paths_nodes.proofs.member_writes.arg_left.Goals as goal

pub returns-in-Some-Some : goal.returns-in-Some-Some
returns-in-Some-Some g c =
    let E = enum (vec.the_row (expr.the_row (param 0 g.row.A)) global.the_row global_impl.ghosts) in
    let I = c.in-Some-Some in
    let self = c.args.args.now in
    let fields : ValuesAt E.parts 1 = (I.args, tt) in (
      (
        refl,
        λ w. on_some_also c.nth_expr.result (c.nth_expr.follows.holds w)
            (λ e. ap view.args_of (known (λ y v. Some y) fields self (c.nth_expr.follows.lender w) (given E 1 fields I.is-0))
            ∙ writes.arg_set _ self I.args (c.nth_expr.follows.lender w) I.left c.args.left w I.is-0 I.is-1
            (e ∙ ap (λ p. with_exp_from 0 (view.exprs_of p.0.items) I.left (view.expr_of w)) (picked E 1 _ fields I.is-0))),
        ap view.args_of (known (λ y v. Some y) fields self c.nth_expr.follows.lender-at-none (given E 1 fields I.is-0))
            ∙ ap (λ xs. Some (view.exprs_of xs)) (c.nth_expr.follows.holds-at-none ∙ ap (λ p. p.0.items) (picked E 1 _ fields I.is-0))
            ∙ sym (ap view.args_of I.is-0),
      ),
      record {
        writes_back = tt;
        value = c.nth_expr.ensures.value ∙ ap (λ p. get_from 0 (map view.expr_of p.0.items) I.left) (picked E 1 _ fields I.is-0)
            ∙ writes.arg_at_place _ self I.args I.left c.args.left I.is-0 I.is-1;
      },
    )
