use Rattle.std.proofs.Common.{refl, Some, ap, map, option_map, sym, ◌∙◌}
use denote.Param.{param}
use borrow.Enum.Known.{ValuesAt}
use Rattle.jr_ast.specs.View as view
use Rattle.jr_paths_nodes.specs.With.{get_from, stmt_with_stmt, with_stmt_from}
use Rattle.jr_ast.specs.declared.stmts.StmtKind as stmt
use Rattle.jr_ast.specs.contracts.stmts.StmtKind.{enum}
use Rattle.jr_paths_nodes.proofs.Lending.{on_some_also, known, given, picked}
use Rattle.jr_paths_nodes.proofs.StmtWrites as writes
use Rattle.jr_paths_nodes.proofs.stmt_writes.stmt_of_stmt.Goals as goal

pub returns-in-If-eq1 : goal.returns-in-If-eq1
returns-in-If-eq1 g c =
    let E = enum (param 0 g.row.A) in
    let I = c.in-If-eq1 in
    let self = c.args.kind.now in
    let number = c.args.number in
    let fields : ValuesAt E.parts 2 = (I.field-0-0, (I.yes, (I.field-2-0, tt))) in (
      (
        refl,
        λ w m. ap (view.stmt_kind m) (known (λ y v. stmt.If v.0 y v.1.1.0) fields self _ (given E 2 fields I.is-0)) ∙ ap (λ p. view.stmt_kind m (stmt.If fields.0 (record { ptr = p.1.0.ptr; alloc = p.1.0.alloc; value = w }) fields.1.1.0)) (picked E 2 _ fields I.is-0)
            ∙ writes.if_then m I.field-0-0 I.yes (record { ptr = I.yes.ptr; alloc = I.yes.alloc; value = w }) I.field-2-0 number I.is-1
            ∙ sym (ap (λ s. stmt_with_stmt (view.stmt_kind m s) number (view.stmt_of w)) I.is-0),
        λ m. refl,
      ),
      record {
        writes_back = tt;
        value = λ m. ap (λ x. Some (view.stmt_of x)) c.deref_mut.ensures.value ∙ ap (λ p. Some (view.stmt_of p.1.0.value)) (picked E 2 _ fields I.is-0) ∙ writes.if_then_get m I.field-0-0 I.yes I.field-2-0 number I.is-1
            ∙ sym (ap (λ s. writes.stmt_in (view.stmt_kind m s) number) I.is-0);
      },
    )

pub returns-in-If-eq2 : goal.returns-in-If-eq2
returns-in-If-eq2 g c =
    let E = enum (param 0 g.row.A) in
    let I = c.in-If-eq2 in
    let self = c.args.kind.now in
    let number = c.args.number in
    let fields : ValuesAt E.parts 2 = (I.field-0-0, (I.field-1-0, (I.no, tt))) in (
      (
        refl,
        λ w. on_some_also c.held_stmt.result (c.held_stmt.follows.holds w)
            (λ e m. ap (view.stmt_kind m) (known (λ y v. stmt.If v.0 v.1.0 y) fields self (c.held_stmt.follows.lender w) (given E 2 fields I.is-0))
            ∙ writes.if_else m I.field-0-0 I.field-1-0 I.no (c.held_stmt.follows.lender w) w number I.is-1 (e ∙ ap (λ p. option_map (λ b. view.stmt_of w) p.1.1.0) (picked E 2 _ fields I.is-0))
            ∙ sym (ap (λ s. stmt_with_stmt (view.stmt_kind m s) number (view.stmt_of w)) I.is-0)),
        λ m. ap (view.stmt_kind m) (known (λ y v. stmt.If v.0 v.1.0 y) fields self c.held_stmt.follows.lender-at-none (given E 2 fields I.is-0))
            ∙ ap (λ h. view.stmt_kind m (stmt.If I.field-0-0 I.field-1-0 h)) (c.held_stmt.follows.holds-at-none ∙ ap (λ p. p.1.1.0) (picked E 2 _ fields I.is-0))
            ∙ sym (ap (view.stmt_kind m) I.is-0),
      ),
      record {
        writes_back = tt;
        value = λ m. c.held_stmt.ensures.value ∙ ap (λ p. option_map (λ b. view.stmt_of b.value) p.1.1.0) (picked E 2 _ fields I.is-0) ∙ writes.else_get m I.field-0-0 I.field-1-0 I.no number I.is-1
            ∙ sym (ap (λ s. writes.stmt_in (view.stmt_kind m s) number) I.is-0);
      },
    )

pub returns-in-While-eq1 : goal.returns-in-While-eq1
returns-in-While-eq1 g c =
    let E = enum (param 0 g.row.A) in
    let I = c.in-While-eq1 in
    let self = c.args.kind.now in
    let number = c.args.number in
    let fields : ValuesAt E.parts 3 = (I.field-0-0, (I.body, tt)) in (
      (
        refl,
        λ w m. ap (view.stmt_kind m) (known (λ y v. stmt.While v.0 y) fields self _ (given E 3 fields I.is-0)) ∙ ap (λ p. view.stmt_kind m (stmt.While fields.0 (record { ptr = p.1.0.ptr; alloc = p.1.0.alloc; value = w }))) (picked E 3 _ fields I.is-0)
            ∙ writes.while_body m I.field-0-0 I.body (record { ptr = I.body.ptr; alloc = I.body.alloc; value = w }) number I.is-1
            ∙ sym (ap (λ s. stmt_with_stmt (view.stmt_kind m s) number (view.stmt_of w)) I.is-0),
        λ m. refl,
      ),
      record {
        writes_back = tt;
        value = λ m. ap (λ x. Some (view.stmt_of x)) c.deref_mut-in-While-eq1.ensures.value ∙ ap (λ p. Some (view.stmt_of p.1.0.value)) (picked E 3 _ fields I.is-0) ∙ writes.while_body_get m I.field-0-0 I.body number I.is-1
            ∙ sym (ap (λ s. writes.stmt_in (view.stmt_kind m s) number) I.is-0);
      },
    )

pub returns-in-Block-default : goal.returns-in-Block-default
returns-in-Block-default g c =
    let E = enum (param 0 g.row.A) in
    let I = c.in-Block-default in
    let self = c.args.kind.now in
    let number = c.args.number in
    let fields : ValuesAt E.parts 5 = (I.body, tt) in (
      (
        refl,
        λ w. on_some_also c.nth_stmt.result (c.nth_stmt.follows.holds w)
            (λ e m. ap (view.stmt_kind m) (known (λ y v. stmt.Block y) fields self (c.nth_stmt.follows.lender w) (given E 5 fields I.is-0))
            ∙ writes.block_write m I.body (c.nth_stmt.follows.lender w) number w (e ∙ ap (λ p. with_stmt_from 0 (view.stmts_of p.0.items) number (view.stmt_of w)) (picked E 5 _ fields I.is-0))
            ∙ sym (ap (λ s. stmt_with_stmt (view.stmt_kind m s) number (view.stmt_of w)) I.is-0)),
        λ m. ap (view.stmt_kind m) (known (λ y v. stmt.Block y) fields self c.nth_stmt.follows.lender-at-none (given E 5 fields I.is-0))
            ∙ writes.block_same m I.body c.nth_stmt.follows.lender-at-none (c.nth_stmt.follows.holds-at-none ∙ ap (λ p. p.0.items) (picked E 5 _ fields I.is-0))
            ∙ sym (ap (view.stmt_kind m) I.is-0),
      ),
      record {
        writes_back = tt;
        value = λ m. c.nth_stmt.ensures.value ∙ ap (λ p. get_from 0 (map view.stmt_of p.0.items) number) (picked E 5 _ fields I.is-0) ∙ writes.block_get m I.body number
            ∙ sym (ap (λ s. writes.stmt_in (view.stmt_kind m s) number) I.is-0);
      },
    )

pub returns-in-Sync-default : goal.returns-in-Sync-default
returns-in-Sync-default g c =
    let E = enum (param 0 g.row.A) in
    let I = c.in-Sync-default in
    let self = c.args.kind.now in
    let number = c.args.number in
    let fields : ValuesAt E.parts 6 = (I.field-0-0, (I.body, tt)) in (
      (
        refl,
        λ w. on_some_also c.nth_stmt-in-Sync-default.result (c.nth_stmt-in-Sync-default.follows.holds w)
            (λ e m. ap (view.stmt_kind m) (known (λ y v. stmt.Sync v.0 y) fields self (c.nth_stmt-in-Sync-default.follows.lender w) (given E 6 fields I.is-0))
            ∙ writes.sync_write m I.field-0-0 I.body (c.nth_stmt-in-Sync-default.follows.lender w) number w (e ∙ ap (λ p. with_stmt_from 1 (view.stmts_of p.1.0.items) number (view.stmt_of w)) (picked E 6 _ fields I.is-0))
            ∙ sym (ap (λ s. stmt_with_stmt (view.stmt_kind m s) number (view.stmt_of w)) I.is-0)),
        λ m. ap (view.stmt_kind m) (known (λ y v. stmt.Sync v.0 y) fields self c.nth_stmt-in-Sync-default.follows.lender-at-none (given E 6 fields I.is-0))
            ∙ writes.sync_same m I.field-0-0 I.body c.nth_stmt-in-Sync-default.follows.lender-at-none (c.nth_stmt-in-Sync-default.follows.holds-at-none ∙ ap (λ p. p.1.0.items) (picked E 6 _ fields I.is-0))
            ∙ sym (ap (view.stmt_kind m) I.is-0),
      ),
      record {
        writes_back = tt;
        value = λ m. c.nth_stmt-in-Sync-default.ensures.value ∙ ap (λ p. get_from 1 (map view.stmt_of p.1.0.items) number) (picked E 6 _ fields I.is-0) ∙ writes.sync_get m I.field-0-0 I.body number
            ∙ sym (ap (λ s. writes.stmt_in (view.stmt_kind m s) number) I.is-0);
      },
    )

pub returns-in-If-default : goal.returns-in-If-default
returns-in-If-default g c =
    let I = c.in-If-default in (
      (refl, λ w. tt, λ m. refl),
      record { writes_back = tt; value = λ m. writes.if_none m I.field-0-0 I.field-1-0 I.field-2-0 c.args.number I.is-1.0.1 I.is-1.1 ∙ sym (ap (λ s. writes.stmt_in (view.stmt_kind m s) c.args.number) I.is-0) },
    )

pub returns-in-While-default : goal.returns-in-While-default
returns-in-While-default g c =
    let I = c.in-While-default in (
      (refl, λ w. tt, λ m. refl),
      record { writes_back = tt; value = λ m. writes.while_no_stmt m I.field-0-0 I.field-1-0 c.args.number I.is-1.1 ∙ sym (ap (λ s. writes.stmt_in (view.stmt_kind m s) c.args.number) I.is-0) },
    )

pub returns-in-Local-default : goal.returns-in-Local-default
returns-in-Local-default g c =
    let I = c.in-Local-default in (
      (refl, λ w. tt, λ m. refl),
      record { writes_back = tt; value = λ m. writes.local_no_stmt m I.is_final-0 I.ty-0 I.name-0 I.init-0 c.args.number ∙ sym (ap (λ s. writes.stmt_in (view.stmt_kind m s) c.args.number) I.is-0) },
    )

pub returns-in-Eval-default : goal.returns-in-Eval-default
returns-in-Eval-default g c =
    let I = c.in-Eval-default in (
      (refl, λ w. tt, λ m. refl),
      record { writes_back = tt; value = λ m. writes.eval_no_stmt m I.field-0-0 c.args.number ∙ sym (ap (λ s. writes.stmt_in (view.stmt_kind m s) c.args.number) I.is-0) },
    )

pub returns-in-Return-default : goal.returns-in-Return-default
returns-in-Return-default g c =
    let I = c.in-Return-default in (
      (refl, λ w. tt, λ m. refl),
      record { writes_back = tt; value = λ m. writes.return_no_stmt m I.field-0-0 c.args.number ∙ sym (ap (λ s. writes.stmt_in (view.stmt_kind m s) c.args.number) I.is-0) },
    )

pub returns-in-Empty-default : goal.returns-in-Empty-default
returns-in-Empty-default g c =
    let I = c.in-Empty-default in (
      (refl, λ w. tt, λ m. refl),
      record { writes_back = tt; value = λ m. writes.empty_no_stmt m c.args.number ∙ sym (ap (λ s. writes.stmt_in (view.stmt_kind m s) c.args.number) I.is-0) },
    )
