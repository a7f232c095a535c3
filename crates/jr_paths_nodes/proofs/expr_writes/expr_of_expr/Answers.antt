use Rattle.std.proofs.Common.{◌≡◌, refl, Some, ap, map, option_map, sym, ◌∙◌}
use denote.Param.{param}
use borrow.Enum.Known.{ValuesAt}
use Rattle.jr_ast.specs.View as view
use Rattle.jr_paths_nodes.specs.With.{get_from, arguments_begin, with_exp, with_exp_from}
use Rattle.jr_ast.specs.declared.exprs.ExprKind as expr
use Rattle.jr_ast.specs.contracts.exprs.ExprKind.{enum}
use Rattle.jr_paths_nodes.proofs.Lending.{on_some_also, known, given, picked}
use Rattle.jr_paths_nodes.proofs.ExprWrites as writes
use Rattle.jr_paths_nodes.proofs.expr_writes.expr_of_expr.Goals as goal

pub returns-in-Field-eq0 : goal.returns-in-Field-eq0
returns-in-Field-eq0 g c =
    let E = enum (param 0 g.row.A) in
    let I = c.in-Field-eq0 in
    let self = c.args.kind.now in
    let number = c.args.number in
    let fields : ValuesAt E.parts 5 = (I.of, (I.field-1-0, tt)) in (
      (
        refl,
        λ w m. ap (view.expr_kind m) (known (λ y v. expr.Field y v.1.0) fields self _ (given E 5 fields I.is-0)) ∙ ap (λ p. view.expr_kind m (expr.Field (record { ptr = p.0.ptr; alloc = p.0.alloc; value = w }) fields.1.0)) (picked E 5 _ fields I.is-0)
            ∙ writes.field_of m I.of (record { ptr = I.of.ptr; alloc = I.of.alloc; value = w }) I.field-1-0 number I.is-1
            ∙ sym (ap (λ s. with_exp (view.expr_kind m s) number (view.expr_of w)) I.is-0),
        λ m. refl,
      ),
      record {
        writes_back = tt;
        value = λ m. ap (λ x. Some (view.expr_of x)) c.deref_mut.ensures.value ∙ ap (λ p. Some (view.expr_of p.0.value)) (picked E 5 _ fields I.is-0) ∙ writes.field_of_get m I.of I.field-1-0 number I.is-1
            ∙ sym (ap (λ s. writes.exp_in (view.expr_kind m s) number) I.is-0);
      },
    )

pub returns-in-Call-eq0 : goal.returns-in-Call-eq0
returns-in-Call-eq0 g c =
    let E = enum (param 0 g.row.A) in
    let I = c.in-Call-eq0 in
    let self = c.args.kind.now in
    let number = c.args.number in
    let fields : ValuesAt E.parts 9 = (I.target, (I.field-1-0, (I.field-2-0, tt))) in (
      (
        refl,
        λ w. on_some_also c.operand_mut.result (c.operand_mut.follows.holds w)
            (λ e m. ap (view.expr_kind m) (known (λ y v. expr.Call y v.1.0 v.1.1.0) fields self (c.operand_mut.follows.lender w) (given E 9 fields I.is-0))
            ∙ writes.held_writes m I.target (c.operand_mut.follows.lender w) I.field-1-0 I.field-2-0 w number I.is-1 (e ∙ ap (λ p. option_map (λ b. view.expr_of w) p.0) (picked E 9 _ fields I.is-0))
            ∙ sym (ap (λ s. with_exp (view.expr_kind m s) number (view.expr_of w)) I.is-0)),
        λ m. ap (view.expr_kind m) (known (λ y v. expr.Call y v.1.0 v.1.1.0) fields self c.operand_mut.follows.lender-at-none (given E 9 fields I.is-0))
            ∙ ap (λ h. view.expr_kind m (expr.Call h I.field-1-0 I.field-2-0)) (c.operand_mut.follows.holds-at-none ∙ ap (λ p. p.0) (picked E 9 _ fields I.is-0))
            ∙ sym (ap (view.expr_kind m) I.is-0),
      ),
      record {
        writes_back = tt;
        value = λ m. c.operand_mut.ensures.value ∙ ap (λ p. option_map (λ b. view.expr_of b.value) p.0) (picked E 9 _ fields I.is-0) ∙ writes.held_get m I.target I.field-1-0 I.field-2-0 number I.is-1
            ∙ sym (ap (λ s. writes.exp_in (view.expr_kind m s) number) I.is-0);
      },
    )

pub returns-in-Call-default : goal.returns-in-Call-default
returns-in-Call-default g c =
    let E = enum (param 0 g.row.A) in
    let I = c.in-Call-default in
    let self = c.args.kind.now in
    let number = c.args.number in
    let fields : ValuesAt E.parts 9 = (I.field-0-0, (I.field-1-0, (I.args, tt))) in
    let first = c.begin_of_arguments-first.result in
    let begins : (m : g.row.A.Denot) → first ≡ arguments_begin (view.expr_kind m (expr.Call I.field-0-0 I.field-1-0 I.args)) = λ m. c.begin_of_arguments-first.ensures m ∙ ap (λ s. arguments_begin (view.expr_kind m s)) I.is-0 in (
      (
        refl,
        λ w. on_some_also c.nth_expr.result (c.nth_expr.follows.holds w)
            (λ e m. ap (view.expr_kind m) (known (λ y v. expr.Call v.0 v.1.0 y) fields self (c.nth_expr.follows.lender w) (given E 9 fields I.is-0))
            ∙ writes.args_write m I.field-0-0 I.field-1-0 I.args (c.nth_expr.follows.lender w) first number w I.is-1.1 (begins m) (e ∙ ap (λ p. with_exp_from first (view.exprs_of p.1.1.0.items) number (view.expr_of w)) (picked E 9 _ fields I.is-0))
            ∙ sym (ap (λ s. with_exp (view.expr_kind m s) number (view.expr_of w)) I.is-0)),
        λ m. ap (view.expr_kind m) (known (λ y v. expr.Call v.0 v.1.0 y) fields self c.nth_expr.follows.lender-at-none (given E 9 fields I.is-0))
            ∙ writes.args_same m I.field-0-0 I.field-1-0 I.args c.nth_expr.follows.lender-at-none (c.nth_expr.follows.holds-at-none ∙ ap (λ p. p.1.1.0.items) (picked E 9 _ fields I.is-0))
            ∙ sym (ap (view.expr_kind m) I.is-0),
      ),
      record {
        writes_back = tt;
        value = λ m. c.nth_expr.ensures.value ∙ ap (λ p. get_from first (map view.expr_of p.1.1.0.items) number) (picked E 9 _ fields I.is-0) ∙ writes.args_get m I.field-0-0 I.field-1-0 I.args first number I.is-1.1 (begins m)
            ∙ sym (ap (λ s. writes.exp_in (view.expr_kind m s) number) I.is-0);
      },
    )

pub returns-in-SuperCall-default : goal.returns-in-SuperCall-default
returns-in-SuperCall-default g c =
    let E = enum (param 0 g.row.A) in
    let I = c.in-SuperCall-default in
    let self = c.args.kind.now in
    let number = c.args.number in
    let fields : ValuesAt E.parts 10 = (I.field-0-0, (I.args, tt)) in (
      (
        refl,
        λ w. on_some_also c.nth_expr-in-SuperCall-default.result (c.nth_expr-in-SuperCall-default.follows.holds w)
            (λ e m. ap (view.expr_kind m) (known (λ y v. expr.SuperCall v.0 y) fields self (c.nth_expr-in-SuperCall-default.follows.lender w) (given E 10 fields I.is-0))
            ∙ writes.super_write m I.field-0-0 I.args (c.nth_expr-in-SuperCall-default.follows.lender w) number w (e ∙ ap (λ p. with_exp_from 1 (view.exprs_of p.1.0.items) number (view.expr_of w)) (picked E 10 _ fields I.is-0))
            ∙ sym (ap (λ s. with_exp (view.expr_kind m s) number (view.expr_of w)) I.is-0)),
        λ m. ap (view.expr_kind m) (known (λ y v. expr.SuperCall v.0 y) fields self c.nth_expr-in-SuperCall-default.follows.lender-at-none (given E 10 fields I.is-0))
            ∙ writes.super_same m I.field-0-0 I.args c.nth_expr-in-SuperCall-default.follows.lender-at-none (c.nth_expr-in-SuperCall-default.follows.holds-at-none ∙ ap (λ p. p.1.0.items) (picked E 10 _ fields I.is-0))
            ∙ sym (ap (view.expr_kind m) I.is-0),
      ),
      record {
        writes_back = tt;
        value = λ m. c.nth_expr-in-SuperCall-default.ensures.value ∙ ap (λ p. get_from 1 (map view.expr_of p.1.0.items) number) (picked E 10 _ fields I.is-0) ∙ writes.super_get m I.field-0-0 I.args number
            ∙ sym (ap (λ s. writes.exp_in (view.expr_kind m s) number) I.is-0);
      },
    )

pub returns-in-New-default : goal.returns-in-New-default
returns-in-New-default g c =
    let E = enum (param 0 g.row.A) in
    let I = c.in-New-default in
    let self = c.args.kind.now in
    let number = c.args.number in
    let fields : ValuesAt E.parts 11 = (I.field-0-0, (I.args, tt)) in (
      (
        refl,
        λ w. on_some_also c.nth_expr-in-New-default.result (c.nth_expr-in-New-default.follows.holds w)
            (λ e m. ap (view.expr_kind m) (known (λ y v. expr.New v.0 y) fields self (c.nth_expr-in-New-default.follows.lender w) (given E 11 fields I.is-0))
            ∙ writes.new_write m I.field-0-0 I.args (c.nth_expr-in-New-default.follows.lender w) number w (e ∙ ap (λ p. with_exp_from 1 (view.exprs_of p.1.0.items) number (view.expr_of w)) (picked E 11 _ fields I.is-0))
            ∙ sym (ap (λ s. with_exp (view.expr_kind m s) number (view.expr_of w)) I.is-0)),
        λ m. ap (view.expr_kind m) (known (λ y v. expr.New v.0 y) fields self c.nth_expr-in-New-default.follows.lender-at-none (given E 11 fields I.is-0))
            ∙ writes.new_same m I.field-0-0 I.args c.nth_expr-in-New-default.follows.lender-at-none (c.nth_expr-in-New-default.follows.holds-at-none ∙ ap (λ p. p.1.0.items) (picked E 11 _ fields I.is-0))
            ∙ sym (ap (view.expr_kind m) I.is-0),
      ),
      record {
        writes_back = tt;
        value = λ m. c.nth_expr-in-New-default.ensures.value ∙ ap (λ p. get_from 1 (map view.expr_of p.1.0.items) number) (picked E 11 _ fields I.is-0) ∙ writes.new_get m I.field-0-0 I.args number
            ∙ sym (ap (λ s. writes.exp_in (view.expr_kind m s) number) I.is-0);
      },
    )

pub returns-in-Paren-eq0 : goal.returns-in-Paren-eq0
returns-in-Paren-eq0 g c =
    let E = enum (param 0 g.row.A) in
    let I = c.in-Paren-eq0 in
    let self = c.args.kind.now in
    let number = c.args.number in
    let fields : ValuesAt E.parts 12 = (I.of, tt) in (
      (
        refl,
        λ w m. ap (view.expr_kind m) (known (λ y v. expr.Paren y) fields self _ (given E 12 fields I.is-0)) ∙ ap (λ p. view.expr_kind m (expr.Paren (record { ptr = p.0.ptr; alloc = p.0.alloc; value = w }))) (picked E 12 _ fields I.is-0)
            ∙ writes.paren_of m I.of (record { ptr = I.of.ptr; alloc = I.of.alloc; value = w }) number I.is-1
            ∙ sym (ap (λ s. with_exp (view.expr_kind m s) number (view.expr_of w)) I.is-0),
        λ m. refl,
      ),
      record {
        writes_back = tt;
        value = λ m. ap (λ x. Some (view.expr_of x)) c.deref_mut-in-Paren-eq0.ensures.value ∙ ap (λ p. Some (view.expr_of p.0.value)) (picked E 12 _ fields I.is-0) ∙ writes.paren_of_get m I.of number I.is-1
            ∙ sym (ap (λ s. writes.exp_in (view.expr_kind m s) number) I.is-0);
      },
    )

pub returns-in-Cast-eq1 : goal.returns-in-Cast-eq1
returns-in-Cast-eq1 g c =
    let E = enum (param 0 g.row.A) in
    let I = c.in-Cast-eq1 in
    let self = c.args.kind.now in
    let number = c.args.number in
    let fields : ValuesAt E.parts 13 = (I.field-0-0, (I.of, tt)) in (
      (
        refl,
        λ w m. ap (view.expr_kind m) (known (λ y v. expr.Cast v.0 y) fields self _ (given E 13 fields I.is-0)) ∙ ap (λ p. view.expr_kind m (expr.Cast fields.0 (record { ptr = p.1.0.ptr; alloc = p.1.0.alloc; value = w }))) (picked E 13 _ fields I.is-0)
            ∙ writes.cast_of m I.field-0-0 I.of (record { ptr = I.of.ptr; alloc = I.of.alloc; value = w }) number I.is-1
            ∙ sym (ap (λ s. with_exp (view.expr_kind m s) number (view.expr_of w)) I.is-0),
        λ m. refl,
      ),
      record {
        writes_back = tt;
        value = λ m. ap (λ x. Some (view.expr_of x)) c.deref_mut-in-Cast-eq1.ensures.value ∙ ap (λ p. Some (view.expr_of p.1.0.value)) (picked E 13 _ fields I.is-0) ∙ writes.cast_of_get m I.field-0-0 I.of number I.is-1
            ∙ sym (ap (λ s. writes.exp_in (view.expr_kind m s) number) I.is-0);
      },
    )

pub returns-in-Unary-eq0 : goal.returns-in-Unary-eq0
returns-in-Unary-eq0 g c =
    let E = enum (param 0 g.row.A) in
    let I = c.in-Unary-eq0 in
    let self = c.args.kind.now in
    let number = c.args.number in
    let fields : ValuesAt E.parts 14 = (I.field-0-0, (I.of, tt)) in (
      (
        refl,
        λ w m. ap (view.expr_kind m) (known (λ y v. expr.Unary v.0 y) fields self _ (given E 14 fields I.is-0)) ∙ ap (λ p. view.expr_kind m (expr.Unary fields.0 (record { ptr = p.1.0.ptr; alloc = p.1.0.alloc; value = w }))) (picked E 14 _ fields I.is-0)
            ∙ writes.unary_of m I.field-0-0 I.of (record { ptr = I.of.ptr; alloc = I.of.alloc; value = w }) number I.is-1
            ∙ sym (ap (λ s. with_exp (view.expr_kind m s) number (view.expr_of w)) I.is-0),
        λ m. refl,
      ),
      record {
        writes_back = tt;
        value = λ m. ap (λ x. Some (view.expr_of x)) c.deref_mut-in-Unary-eq0.ensures.value ∙ ap (λ p. Some (view.expr_of p.1.0.value)) (picked E 14 _ fields I.is-0) ∙ writes.unary_of_get m I.field-0-0 I.of number I.is-1
            ∙ sym (ap (λ s. writes.exp_in (view.expr_kind m s) number) I.is-0);
      },
    )

pub returns-in-Bump-eq0 : goal.returns-in-Bump-eq0
returns-in-Bump-eq0 g c =
    let E = enum (param 0 g.row.A) in
    let I = c.in-Bump-eq0 in
    let self = c.args.kind.now in
    let number = c.args.number in
    let fields : ValuesAt E.parts 15 = (I.field-0-0, (I.of, tt)) in (
      (
        refl,
        λ w m. ap (view.expr_kind m) (known (λ y v. expr.Bump v.0 y) fields self _ (given E 15 fields I.is-0)) ∙ ap (λ p. view.expr_kind m (expr.Bump fields.0 (record { ptr = p.1.0.ptr; alloc = p.1.0.alloc; value = w }))) (picked E 15 _ fields I.is-0)
            ∙ writes.bump_of m I.field-0-0 I.of (record { ptr = I.of.ptr; alloc = I.of.alloc; value = w }) number I.is-1
            ∙ sym (ap (λ s. with_exp (view.expr_kind m s) number (view.expr_of w)) I.is-0),
        λ m. refl,
      ),
      record {
        writes_back = tt;
        value = λ m. ap (λ x. Some (view.expr_of x)) c.deref_mut-in-Bump-eq0.ensures.value ∙ ap (λ p. Some (view.expr_of p.1.0.value)) (picked E 15 _ fields I.is-0) ∙ writes.bump_of_get m I.field-0-0 I.of number I.is-1
            ∙ sym (ap (λ s. writes.exp_in (view.expr_kind m s) number) I.is-0);
      },
    )

pub returns-in-Binary-eq0 : goal.returns-in-Binary-eq0
returns-in-Binary-eq0 g c =
    let E = enum (param 0 g.row.A) in
    let I = c.in-Binary-eq0 in
    let self = c.args.kind.now in
    let number = c.args.number in
    let fields : ValuesAt E.parts 16 = (I.field-0-0, (I.left, (I.field-2-0, tt))) in (
      (
        refl,
        λ w m. ap (view.expr_kind m) (known (λ y v. expr.Binary v.0 y v.1.1.0) fields self _ (given E 16 fields I.is-0)) ∙ ap (λ p. view.expr_kind m (expr.Binary fields.0 (record { ptr = p.1.0.ptr; alloc = p.1.0.alloc; value = w }) fields.1.1.0)) (picked E 16 _ fields I.is-0)
            ∙ writes.binary_left m I.field-0-0 I.left (record { ptr = I.left.ptr; alloc = I.left.alloc; value = w }) I.field-2-0 number I.is-1
            ∙ sym (ap (λ s. with_exp (view.expr_kind m s) number (view.expr_of w)) I.is-0),
        λ m. refl,
      ),
      record {
        writes_back = tt;
        value = λ m. ap (λ x. Some (view.expr_of x)) c.deref_mut-in-Binary-eq0.ensures.value ∙ ap (λ p. Some (view.expr_of p.1.0.value)) (picked E 16 _ fields I.is-0) ∙ writes.binary_left_get m I.field-0-0 I.left I.field-2-0 number I.is-1
            ∙ sym (ap (λ s. writes.exp_in (view.expr_kind m s) number) I.is-0);
      },
    )

pub returns-in-Binary-eq1 : goal.returns-in-Binary-eq1
returns-in-Binary-eq1 g c =
    let E = enum (param 0 g.row.A) in
    let I = c.in-Binary-eq1 in
    let self = c.args.kind.now in
    let number = c.args.number in
    let fields : ValuesAt E.parts 16 = (I.field-0-0, (I.field-1-0, (I.right, tt))) in (
      (
        refl,
        λ w m. ap (view.expr_kind m) (known (λ y v. expr.Binary v.0 v.1.0 y) fields self _ (given E 16 fields I.is-0)) ∙ ap (λ p. view.expr_kind m (expr.Binary fields.0 fields.1.0 (record { ptr = p.1.1.0.ptr; alloc = p.1.1.0.alloc; value = w }))) (picked E 16 _ fields I.is-0)
            ∙ writes.binary_right m I.field-0-0 I.field-1-0 I.right (record { ptr = I.right.ptr; alloc = I.right.alloc; value = w }) number I.is-1
            ∙ sym (ap (λ s. with_exp (view.expr_kind m s) number (view.expr_of w)) I.is-0),
        λ m. refl,
      ),
      record {
        writes_back = tt;
        value = λ m. ap (λ x. Some (view.expr_of x)) c.deref_mut-in-Binary-eq1.ensures.value ∙ ap (λ p. Some (view.expr_of p.1.1.0.value)) (picked E 16 _ fields I.is-0) ∙ writes.binary_right_get m I.field-0-0 I.field-1-0 I.right number I.is-1
            ∙ sym (ap (λ s. writes.exp_in (view.expr_kind m s) number) I.is-0);
      },
    )

pub returns-in-Assign-eq0 : goal.returns-in-Assign-eq0
returns-in-Assign-eq0 g c =
    let E = enum (param 0 g.row.A) in
    let I = c.in-Assign-eq0 in
    let self = c.args.kind.now in
    let number = c.args.number in
    let fields : ValuesAt E.parts 17 = (I.to, (I.field-1-0, tt)) in (
      (
        refl,
        λ w m. ap (view.expr_kind m) (known (λ y v. expr.Assign y v.1.0) fields self _ (given E 17 fields I.is-0)) ∙ ap (λ p. view.expr_kind m (expr.Assign (record { ptr = p.0.ptr; alloc = p.0.alloc; value = w }) fields.1.0)) (picked E 17 _ fields I.is-0)
            ∙ writes.assign_to m I.to (record { ptr = I.to.ptr; alloc = I.to.alloc; value = w }) I.field-1-0 number I.is-1
            ∙ sym (ap (λ s. with_exp (view.expr_kind m s) number (view.expr_of w)) I.is-0),
        λ m. refl,
      ),
      record {
        writes_back = tt;
        value = λ m. ap (λ x. Some (view.expr_of x)) c.deref_mut-in-Assign-eq0.ensures.value ∙ ap (λ p. Some (view.expr_of p.0.value)) (picked E 17 _ fields I.is-0) ∙ writes.assign_to_get m I.to I.field-1-0 number I.is-1
            ∙ sym (ap (λ s. writes.exp_in (view.expr_kind m s) number) I.is-0);
      },
    )

pub returns-in-Assign-eq1 : goal.returns-in-Assign-eq1
returns-in-Assign-eq1 g c =
    let E = enum (param 0 g.row.A) in
    let I = c.in-Assign-eq1 in
    let self = c.args.kind.now in
    let number = c.args.number in
    let fields : ValuesAt E.parts 17 = (I.field-0-0, (I.value, tt)) in (
      (
        refl,
        λ w m. ap (view.expr_kind m) (known (λ y v. expr.Assign v.0 y) fields self _ (given E 17 fields I.is-0)) ∙ ap (λ p. view.expr_kind m (expr.Assign fields.0 (record { ptr = p.1.0.ptr; alloc = p.1.0.alloc; value = w }))) (picked E 17 _ fields I.is-0)
            ∙ writes.assign_value m I.field-0-0 I.value (record { ptr = I.value.ptr; alloc = I.value.alloc; value = w }) number I.is-1
            ∙ sym (ap (λ s. with_exp (view.expr_kind m s) number (view.expr_of w)) I.is-0),
        λ m. refl,
      ),
      record {
        writes_back = tt;
        value = λ m. ap (λ x. Some (view.expr_of x)) c.deref_mut-in-Assign-eq1.ensures.value ∙ ap (λ p. Some (view.expr_of p.1.0.value)) (picked E 17 _ fields I.is-0) ∙ writes.assign_value_get m I.field-0-0 I.value number I.is-1
            ∙ sym (ap (λ s. writes.exp_in (view.expr_kind m s) number) I.is-0);
      },
    )

pub returns-in-Compound-eq0 : goal.returns-in-Compound-eq0
returns-in-Compound-eq0 g c =
    let E = enum (param 0 g.row.A) in
    let I = c.in-Compound-eq0 in
    let self = c.args.kind.now in
    let number = c.args.number in
    let fields : ValuesAt E.parts 18 = (I.field-0-0, (I.to, (I.field-2-0, tt))) in (
      (
        refl,
        λ w m. ap (view.expr_kind m) (known (λ y v. expr.Compound v.0 y v.1.1.0) fields self _ (given E 18 fields I.is-0)) ∙ ap (λ p. view.expr_kind m (expr.Compound fields.0 (record { ptr = p.1.0.ptr; alloc = p.1.0.alloc; value = w }) fields.1.1.0)) (picked E 18 _ fields I.is-0)
            ∙ writes.compound_to m I.field-0-0 I.to (record { ptr = I.to.ptr; alloc = I.to.alloc; value = w }) I.field-2-0 number I.is-1
            ∙ sym (ap (λ s. with_exp (view.expr_kind m s) number (view.expr_of w)) I.is-0),
        λ m. refl,
      ),
      record {
        writes_back = tt;
        value = λ m. ap (λ x. Some (view.expr_of x)) c.deref_mut-in-Compound-eq0.ensures.value ∙ ap (λ p. Some (view.expr_of p.1.0.value)) (picked E 18 _ fields I.is-0) ∙ writes.compound_to_get m I.field-0-0 I.to I.field-2-0 number I.is-1
            ∙ sym (ap (λ s. writes.exp_in (view.expr_kind m s) number) I.is-0);
      },
    )

pub returns-in-Compound-eq1 : goal.returns-in-Compound-eq1
returns-in-Compound-eq1 g c =
    let E = enum (param 0 g.row.A) in
    let I = c.in-Compound-eq1 in
    let self = c.args.kind.now in
    let number = c.args.number in
    let fields : ValuesAt E.parts 18 = (I.field-0-0, (I.field-1-0, (I.value, tt))) in (
      (
        refl,
        λ w m. ap (view.expr_kind m) (known (λ y v. expr.Compound v.0 v.1.0 y) fields self _ (given E 18 fields I.is-0)) ∙ ap (λ p. view.expr_kind m (expr.Compound fields.0 fields.1.0 (record { ptr = p.1.1.0.ptr; alloc = p.1.1.0.alloc; value = w }))) (picked E 18 _ fields I.is-0)
            ∙ writes.compound_value m I.field-0-0 I.field-1-0 I.value (record { ptr = I.value.ptr; alloc = I.value.alloc; value = w }) number I.is-1
            ∙ sym (ap (λ s. with_exp (view.expr_kind m s) number (view.expr_of w)) I.is-0),
        λ m. refl,
      ),
      record {
        writes_back = tt;
        value = λ m. ap (λ x. Some (view.expr_of x)) c.deref_mut-in-Compound-eq1.ensures.value ∙ ap (λ p. Some (view.expr_of p.1.1.0.value)) (picked E 18 _ fields I.is-0) ∙ writes.compound_value_get m I.field-0-0 I.field-1-0 I.value number I.is-1
            ∙ sym (ap (λ s. writes.exp_in (view.expr_kind m s) number) I.is-0);
      },
    )

pub returns-in-Int-default : goal.returns-in-Int-default
returns-in-Int-default g c =
    let I = c.in-Int-default in (
      (refl, λ w. tt, λ m. refl),
      record { writes_back = tt; value = λ m. writes.number_none m I.field-0-0 c.args.number ∙ sym (ap (λ s. writes.exp_in (view.expr_kind m s) c.args.number) I.is-0) },
    )

pub returns-in-Bool-default : goal.returns-in-Bool-default
returns-in-Bool-default g c =
    let I = c.in-Bool-default in (
      (refl, λ w. tt, λ m. refl),
      record { writes_back = tt; value = λ m. writes.truth_none m I.field-0-0 c.args.number ∙ sym (ap (λ s. writes.exp_in (view.expr_kind m s) c.args.number) I.is-0) },
    )

pub returns-in-Null-default : goal.returns-in-Null-default
returns-in-Null-default g c =
    let I = c.in-Null-default in (
      (refl, λ w. tt, λ m. refl),
      record { writes_back = tt; value = λ m. writes.null_none m c.args.number ∙ sym (ap (λ s. writes.exp_in (view.expr_kind m s) c.args.number) I.is-0) },
    )

pub returns-in-Text-default : goal.returns-in-Text-default
returns-in-Text-default g c =
    let I = c.in-Text-default in (
      (refl, λ w. tt, λ m. refl),
      record { writes_back = tt; value = λ m. writes.text_none m I.field-0-0 c.args.number ∙ sym (ap (λ s. writes.exp_in (view.expr_kind m s) c.args.number) I.is-0) },
    )

pub returns-in-Simple-default : goal.returns-in-Simple-default
returns-in-Simple-default g c =
    let I = c.in-Simple-default in (
      (refl, λ w. tt, λ m. refl),
      record { writes_back = tt; value = λ m. writes.simple_none m I.field-0-0 c.args.number ∙ sym (ap (λ s. writes.exp_in (view.expr_kind m s) c.args.number) I.is-0) },
    )

pub returns-in-SuperField-default : goal.returns-in-SuperField-default
returns-in-SuperField-default g c =
    let I = c.in-SuperField-default in (
      (refl, λ w. tt, λ m. refl),
      record { writes_back = tt; value = λ m. writes.super_field_none m I.field-0-0 c.args.number ∙ sym (ap (λ s. writes.exp_in (view.expr_kind m s) c.args.number) I.is-0) },
    )

pub returns-in-This-default : goal.returns-in-This-default
returns-in-This-default g c =
    let I = c.in-This-default in (
      (refl, λ w. tt, λ m. refl),
      record { writes_back = tt; value = λ m. writes.this_none m c.args.number ∙ sym (ap (λ s. writes.exp_in (view.expr_kind m s) c.args.number) I.is-0) },
    )

pub returns-in-ClassLit-default : goal.returns-in-ClassLit-default
returns-in-ClassLit-default g c =
    let I = c.in-ClassLit-default in (
      (refl, λ w. tt, λ m. refl),
      record { writes_back = tt; value = λ m. writes.class_lit_none m I.field-0-0 c.args.number ∙ sym (ap (λ s. writes.exp_in (view.expr_kind m s) c.args.number) I.is-0) },
    )

pub returns-in-Field-default : goal.returns-in-Field-default
returns-in-Field-default g c =
    let I = c.in-Field-default in (
      (refl, λ w. tt, λ m. refl),
      record { writes_back = tt; value = λ m. writes.field_none m I.field-0-0 I.field-1-0 c.args.number I.is-1.1 ∙ sym (ap (λ s. writes.exp_in (view.expr_kind m s) c.args.number) I.is-0) },
    )

pub returns-in-Paren-default : goal.returns-in-Paren-default
returns-in-Paren-default g c =
    let I = c.in-Paren-default in (
      (refl, λ w. tt, λ m. refl),
      record { writes_back = tt; value = λ m. writes.paren_none m I.field-0-0 c.args.number I.is-1.1 ∙ sym (ap (λ s. writes.exp_in (view.expr_kind m s) c.args.number) I.is-0) },
    )

pub returns-in-Cast-default : goal.returns-in-Cast-default
returns-in-Cast-default g c =
    let I = c.in-Cast-default in (
      (refl, λ w. tt, λ m. refl),
      record { writes_back = tt; value = λ m. writes.cast_none m I.field-0-0 I.field-1-0 c.args.number I.is-1.1 ∙ sym (ap (λ s. writes.exp_in (view.expr_kind m s) c.args.number) I.is-0) },
    )

pub returns-in-Unary-default : goal.returns-in-Unary-default
returns-in-Unary-default g c =
    let I = c.in-Unary-default in (
      (refl, λ w. tt, λ m. refl),
      record { writes_back = tt; value = λ m. writes.unary_none m I.field-0-0 I.field-1-0 c.args.number I.is-1.1 ∙ sym (ap (λ s. writes.exp_in (view.expr_kind m s) c.args.number) I.is-0) },
    )

pub returns-in-Bump-default : goal.returns-in-Bump-default
returns-in-Bump-default g c =
    let I = c.in-Bump-default in (
      (refl, λ w. tt, λ m. refl),
      record { writes_back = tt; value = λ m. writes.bump_none m I.field-0-0 I.field-1-0 c.args.number I.is-1.1 ∙ sym (ap (λ s. writes.exp_in (view.expr_kind m s) c.args.number) I.is-0) },
    )

pub returns-in-Binary-default : goal.returns-in-Binary-default
returns-in-Binary-default g c =
    let I = c.in-Binary-default in (
      (refl, λ w. tt, λ m. refl),
      record { writes_back = tt; value = λ m. writes.binary_none m I.field-0-0 I.field-1-0 I.field-2-0 c.args.number I.is-1.0.1 I.is-1.1 ∙ sym (ap (λ s. writes.exp_in (view.expr_kind m s) c.args.number) I.is-0) },
    )

pub returns-in-Assign-default : goal.returns-in-Assign-default
returns-in-Assign-default g c =
    let I = c.in-Assign-default in (
      (refl, λ w. tt, λ m. refl),
      record { writes_back = tt; value = λ m. writes.assign_none m I.field-0-0 I.field-1-0 c.args.number I.is-1.0.1 I.is-1.1 ∙ sym (ap (λ s. writes.exp_in (view.expr_kind m s) c.args.number) I.is-0) },
    )

pub returns-in-Compound-default : goal.returns-in-Compound-default
returns-in-Compound-default g c =
    let I = c.in-Compound-default in (
      (refl, λ w. tt, λ m. refl),
      record { writes_back = tt; value = λ m. writes.compound_none m I.field-0-0 I.field-1-0 I.field-2-0 c.args.number I.is-1.0.1 I.is-1.1 ∙ sym (ap (λ s. writes.exp_in (view.expr_kind m s) c.args.number) I.is-0) },
    )
