use Rattle.std.proofs.Common.{refl, Some, ap, option_map, sym, ◌∙◌}
use denote.Param.{param}
use borrow.Enum.Known.{ValuesAt}
use Rattle.jr_ast.specs.View as view
use Rattle.jr_paths_nodes.specs.With.{stmt_with_exp}
use Rattle.jr_ast.specs.declared.stmts.StmtKind as stmt
use Rattle.jr_ast.specs.contracts.stmts.StmtKind.{enum}
use Rattle.jr_paths_nodes.proofs.Lending.{on_some_also, known, given, picked}
use Rattle.jr_paths_nodes.proofs.StmtWrites as writes
use Rattle.jr_paths_nodes.proofs.stmt_writes.expr_of_stmt.Goals as goal

pub returns-in-Local-eq2 : goal.returns-in-Local-eq2
returns-in-Local-eq2 g c =
    let E = enum (param 0 g.row.A) in
    let I = c.in-Local-eq2 in
    let self = c.args.kind.now in
    let number = c.args.number in
    let fields : ValuesAt E.parts 0 = (I.is_final-0, (I.ty-0, (I.name-0, (I.init, tt)))) in (
      (
        refl,
        λ w m. ap (view.stmt_kind m) (known (λ y v. stmt.Local v.0 v.1.0 v.1.1.0 y) fields self w (given E 0 fields I.is-0))
            ∙ writes.local_init m I.is_final-0 I.ty-0 I.name-0 I.init w number I.is-1
            ∙ sym (ap (λ s. stmt_with_exp (view.stmt_kind m s) number (view.expr_of w)) I.is-0),
        λ m. refl,
      ),
      record {
        writes_back = tt;
        value = λ m. ap (λ p. Some (view.expr_of p.1.1.1.0)) (picked E 0 _ fields I.is-0) ∙ writes.local_init_get m I.is_final-0 I.ty-0 I.name-0 I.init number I.is-1
            ∙ sym (ap (λ s. writes.exp_in (view.stmt_kind m s) number) I.is-0);
      },
    )

pub returns-in-Eval-eq0 : goal.returns-in-Eval-eq0
returns-in-Eval-eq0 g c =
    let E = enum (param 0 g.row.A) in
    let I = c.in-Eval-eq0 in
    let self = c.args.kind.now in
    let number = c.args.number in
    let fields : ValuesAt E.parts 1 = (I.of, tt) in (
      (
        refl,
        λ w m. ap (view.stmt_kind m) (known (λ y v. stmt.Eval y) fields self w (given E 1 fields I.is-0))
            ∙ writes.eval_of m I.of w number I.is-1
            ∙ sym (ap (λ s. stmt_with_exp (view.stmt_kind m s) number (view.expr_of w)) I.is-0),
        λ m. refl,
      ),
      record {
        writes_back = tt;
        value = λ m. ap (λ p. Some (view.expr_of p.0)) (picked E 1 _ fields I.is-0) ∙ writes.eval_of_get m I.of number I.is-1
            ∙ sym (ap (λ s. writes.exp_in (view.stmt_kind m s) number) I.is-0);
      },
    )

pub returns-in-If-eq0 : goal.returns-in-If-eq0
returns-in-If-eq0 g c =
    let E = enum (param 0 g.row.A) in
    let I = c.in-If-eq0 in
    let self = c.args.kind.now in
    let number = c.args.number in
    let fields : ValuesAt E.parts 2 = (I.condition, (I.field-1-0, (I.field-2-0, tt))) in (
      (
        refl,
        λ w m. ap (view.stmt_kind m) (known (λ y v. stmt.If y v.1.0 v.1.1.0) fields self w (given E 2 fields I.is-0))
            ∙ writes.if_condition m I.condition w I.field-1-0 I.field-2-0 number I.is-1
            ∙ sym (ap (λ s. stmt_with_exp (view.stmt_kind m s) number (view.expr_of w)) I.is-0),
        λ m. refl,
      ),
      record {
        writes_back = tt;
        value = λ m. ap (λ p. Some (view.expr_of p.0)) (picked E 2 _ fields I.is-0) ∙ writes.if_condition_get m I.condition I.field-1-0 I.field-2-0 number I.is-1
            ∙ sym (ap (λ s. writes.exp_in (view.stmt_kind m s) number) I.is-0);
      },
    )

pub returns-in-While-eq0 : goal.returns-in-While-eq0
returns-in-While-eq0 g c =
    let E = enum (param 0 g.row.A) in
    let I = c.in-While-eq0 in
    let self = c.args.kind.now in
    let number = c.args.number in
    let fields : ValuesAt E.parts 3 = (I.condition, (I.field-1-0, tt)) in (
      (
        refl,
        λ w m. ap (view.stmt_kind m) (known (λ y v. stmt.While y v.1.0) fields self w (given E 3 fields I.is-0))
            ∙ writes.while_condition m I.condition w I.field-1-0 number I.is-1
            ∙ sym (ap (λ s. stmt_with_exp (view.stmt_kind m s) number (view.expr_of w)) I.is-0),
        λ m. refl,
      ),
      record {
        writes_back = tt;
        value = λ m. ap (λ p. Some (view.expr_of p.0)) (picked E 3 _ fields I.is-0) ∙ writes.while_condition_get m I.condition I.field-1-0 number I.is-1
            ∙ sym (ap (λ s. writes.exp_in (view.stmt_kind m s) number) I.is-0);
      },
    )

pub returns-in-Return-eq0 : goal.returns-in-Return-eq0
returns-in-Return-eq0 g c =
    let E = enum (param 0 g.row.A) in
    let I = c.in-Return-eq0 in
    let self = c.args.kind.now in
    let number = c.args.number in
    let fields : ValuesAt E.parts 4 = (I.value, tt) in (
      (
        refl,
        λ w. on_some_also c.held_expr.result (c.held_expr.follows.holds w)
            (λ e m. ap (view.stmt_kind m) (known (λ y v. stmt.Return y) fields self (c.held_expr.follows.lender w) (given E 4 fields I.is-0))
            ∙ writes.return_write m I.value (c.held_expr.follows.lender w) w number I.is-1 (e ∙ ap (λ p. option_map (λ x. view.expr_of w) p.0) (picked E 4 _ fields I.is-0))
            ∙ sym (ap (λ s. stmt_with_exp (view.stmt_kind m s) number (view.expr_of w)) I.is-0)),
        λ m. ap (view.stmt_kind m) (known (λ y v. stmt.Return y) fields self c.held_expr.follows.lender-at-none (given E 4 fields I.is-0))
            ∙ ap (λ h. view.stmt_kind m (stmt.Return h)) (c.held_expr.follows.holds-at-none ∙ ap (λ p. p.0) (picked E 4 _ fields I.is-0))
            ∙ sym (ap (view.stmt_kind m) I.is-0),
      ),
      record {
        writes_back = tt;
        value = λ m. c.held_expr.ensures.value ∙ ap (λ p. option_map view.expr_of p.0) (picked E 4 _ fields I.is-0) ∙ writes.return_get m I.value number I.is-1
            ∙ sym (ap (λ s. writes.exp_in (view.stmt_kind m s) number) I.is-0);
      },
    )

pub returns-in-Sync-eq0 : goal.returns-in-Sync-eq0
returns-in-Sync-eq0 g c =
    let E = enum (param 0 g.row.A) in
    let I = c.in-Sync-eq0 in
    let self = c.args.kind.now in
    let number = c.args.number in
    let fields : ValuesAt E.parts 6 = (I.lock, (I.field-1-0, tt)) in (
      (
        refl,
        λ w m. ap (view.stmt_kind m) (known (λ y v. stmt.Sync y v.1.0) fields self w (given E 6 fields I.is-0))
            ∙ writes.sync_lock m I.lock w I.field-1-0 number I.is-1
            ∙ sym (ap (λ s. stmt_with_exp (view.stmt_kind m s) number (view.expr_of w)) I.is-0),
        λ m. refl,
      ),
      record {
        writes_back = tt;
        value = λ m. ap (λ p. Some (view.expr_of p.0)) (picked E 6 _ fields I.is-0) ∙ writes.sync_lock_get m I.lock I.field-1-0 number I.is-1
            ∙ sym (ap (λ s. writes.exp_in (view.stmt_kind m s) number) I.is-0);
      },
    )

pub returns-in-Local-default : goal.returns-in-Local-default
returns-in-Local-default g c =
    let I = c.in-Local-default in (
      (refl, λ w. tt, λ m. refl),
      record { writes_back = tt; value = λ m. writes.local_no_exp m I.is_final-0 I.ty-0 I.name-0 I.init-0 c.args.number I.is-1.1 ∙ sym (ap (λ s. writes.exp_in (view.stmt_kind m s) c.args.number) I.is-0) },
    )

pub returns-in-Eval-default : goal.returns-in-Eval-default
returns-in-Eval-default g c =
    let I = c.in-Eval-default in (
      (refl, λ w. tt, λ m. refl),
      record { writes_back = tt; value = λ m. writes.eval_no_exp m I.field-0-0 c.args.number I.is-1.1 ∙ sym (ap (λ s. writes.exp_in (view.stmt_kind m s) c.args.number) I.is-0) },
    )

pub returns-in-If-default : goal.returns-in-If-default
returns-in-If-default g c =
    let I = c.in-If-default in (
      (refl, λ w. tt, λ m. refl),
      record { writes_back = tt; value = λ m. writes.if_no_exp m I.field-0-0 I.field-1-0 I.field-2-0 c.args.number I.is-1.1 ∙ sym (ap (λ s. writes.exp_in (view.stmt_kind m s) c.args.number) I.is-0) },
    )

pub returns-in-While-default : goal.returns-in-While-default
returns-in-While-default g c =
    let I = c.in-While-default in (
      (refl, λ w. tt, λ m. refl),
      record { writes_back = tt; value = λ m. writes.while_no_exp m I.field-0-0 I.field-1-0 c.args.number I.is-1.1 ∙ sym (ap (λ s. writes.exp_in (view.stmt_kind m s) c.args.number) I.is-0) },
    )

pub returns-in-Return-default : goal.returns-in-Return-default
returns-in-Return-default g c =
    let I = c.in-Return-default in (
      (refl, λ w. tt, λ m. refl),
      record { writes_back = tt; value = λ m. writes.return_none m I.field-0-0 c.args.number I.is-1.1 ∙ sym (ap (λ s. writes.exp_in (view.stmt_kind m s) c.args.number) I.is-0) },
    )

pub returns-in-Sync-default : goal.returns-in-Sync-default
returns-in-Sync-default g c =
    let I = c.in-Sync-default in (
      (refl, λ w. tt, λ m. refl),
      record { writes_back = tt; value = λ m. writes.sync_no_exp m I.field-0-0 I.field-1-0 c.args.number I.is-1.1 ∙ sym (ap (λ s. writes.exp_in (view.stmt_kind m s) c.args.number) I.is-0) },
    )

pub returns-in-Block-default : goal.returns-in-Block-default
returns-in-Block-default g c =
    let I = c.in-Block-default in (
      (refl, λ w. tt, λ m. refl),
      record { writes_back = tt; value = λ m. writes.block_no_exp m I.field-0-0 c.args.number ∙ sym (ap (λ s. writes.exp_in (view.stmt_kind m s) c.args.number) I.is-0) },
    )

pub returns-in-Empty-default : goal.returns-in-Empty-default
returns-in-Empty-default g c =
    let I = c.in-Empty-default in (
      (refl, λ w. tt, λ m. refl),
      record { writes_back = tt; value = λ m. writes.empty_no_exp m c.args.number ∙ sym (ap (λ s. writes.exp_in (view.stmt_kind m s) c.args.number) I.is-0) },
    )
