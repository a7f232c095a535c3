use Rattle.std.proofs.Common.{◌≡◌, refl, ap, option_map, option_and_then, sym, ◌∙◌}
use denote.Param.{param}
use borrow.Enum.Known.{ValuesAt}
use Rattle.jr_ast.specs.View as view
use Rattle.jr_ast.specs.Nodes as pure
use Rattle.jr_ast.specs.declared.members.MemberKind as kind
use Rattle.jr_ast.specs.contracts.members.MemberKind.{enum}
use Rattle.jr_paths_nodes.proofs.Lending.{on_some_also, known, given, picked}
use Rattle.jr_paths_nodes.proofs.MemberWrites as writes
use Rattle.jr_paths_nodes.specs.With.{get_from, with_maybe, member_with_exp}
use Rattle.jr_paths_nodes.specs.MemberLent.{at_place, args_place, init_begins, with_arg_left}
use Rattle.jr_paths_nodes.proofs.member_writes.expr_of_member.Goals as goal

pub returns-in-Field : goal.returns-in-Field
returns-in-Field g c =
    let E = enum (param 0 g.row.A) in
    let I = c.in-Field in
    let self = c.args.kind.now in
    let number = c.args.number in
    let place = c.begin_of_init-first.result in
    let placed : (m : g.row.A.Denot) → place ≡ init_begins (view.member_kind m (kind.Field I.modifiers I.ty I.name I.init)) = λ m. c.begin_of_init-first.ensures m ∙ ap (λ s. init_begins (view.member_kind m s)) I.is in
    let fields : ValuesAt E.parts 0 = (I.modifiers, (I.ty, (I.name, (I.init, tt)))) in (
      (
        refl,
        λ w. on_some_also c.init_mut.result (c.init_mut.follows.holds w)
            (λ e m. ap (view.member_kind m) (known (λ y v. kind.Field v.0 v.1.0 v.1.1.0 y) fields self (c.init_mut.follows.lender w) (given E 0 fields I.is))
            ∙ writes.field_write _ m I.modifiers I.ty I.name I.init (c.init_mut.follows.lender w) place number w (placed m) (e ∙ ap (λ p. with_maybe place (option_map view.expr_of p.1.1.1.0) number (view.expr_of w)) (picked E 0 _ fields I.is))
            ∙ sym (ap (λ s. member_with_exp (view.member_kind m s) number (view.expr_of w)) I.is)),
        λ m. ap (view.member_kind m) (known (λ y v. kind.Field v.0 v.1.0 v.1.1.0 y) fields self c.init_mut.follows.lender-at-none (given E 0 fields I.is))
            ∙ writes.field_same _ m I.modifiers I.ty I.name I.init c.init_mut.follows.lender-at-none (c.init_mut.follows.holds-at-none ∙ ap (λ p. option_map view.expr_of p.1.1.1.0) (picked E 0 _ fields I.is))
            ∙ sym (ap (view.member_kind m) I.is),
      ),
      record {
        writes_back = tt;
        value = λ m. c.init_mut.ensures.value ∙ ap (λ p. option_and_then pure.as_exp (get_from place (pure.maybe (option_map pure.exp (option_map view.expr_of p.1.1.1.0))) number)) (picked E 0 _ fields I.is) ∙ writes.field_get _ m I.modifiers I.ty I.name I.init place number (placed m)
            ∙ sym (ap (λ s. writes.exp_in _ (view.member_kind m s) number) I.is);
      },
    )

pub returns-in-Ctor : goal.returns-in-Ctor
returns-in-Ctor g c =
    let E = enum (param 0 g.row.A) in
    let I = c.in-Ctor in
    let self = c.args.kind.now in
    let number = c.args.number in
    let place = c.place_in_args-left.result in
    let placed : (m : g.row.A.Denot) → place ≡ args_place (view.member_kind m (kind.Ctor I.modifiers I.name I.params I.parent_args I.body)) number = λ m. c.place_in_args-left.ensures m ∙ ap (λ s. args_place (view.member_kind m s) number) I.is in
    let fields : ValuesAt E.parts 2 = (I.modifiers, (I.name, (I.params, (I.parent_args, (I.body, tt))))) in (
      (
        refl,
        λ w. on_some_also c.arg_left.result (c.arg_left.follows.holds w)
            (λ e m. ap (view.member_kind m) (known (λ y v. kind.Ctor v.0 v.1.0 v.1.1.0 y v.1.1.1.1.0) fields self (c.arg_left.follows.lender w) (given E 2 fields I.is))
            ∙ writes.args_write _ m I.modifiers I.name I.params I.parent_args (c.arg_left.follows.lender w) I.body place number w (placed m) (e ∙ ap (λ p. with_arg_left (view.args_of p.1.1.1.0) place (view.expr_of w)) (picked E 2 _ fields I.is))
            ∙ sym (ap (λ s. member_with_exp (view.member_kind m s) number (view.expr_of w)) I.is)),
        λ m. ap (view.member_kind m) (known (λ y v. kind.Ctor v.0 v.1.0 v.1.1.0 y v.1.1.1.1.0) fields self c.arg_left.follows.lender-at-none (given E 2 fields I.is))
            ∙ writes.args_same _ m I.modifiers I.name I.params I.parent_args c.arg_left.follows.lender-at-none I.body (c.arg_left.follows.holds-at-none ∙ ap (λ p. view.args_of p.1.1.1.0) (picked E 2 _ fields I.is))
            ∙ sym (ap (view.member_kind m) I.is),
      ),
      record {
        writes_back = tt;
        value = λ m. c.arg_left.ensures.value ∙ ap (λ p. at_place pure.as_exp (pure.args_children (view.args_of p.1.1.1.0)) place) (picked E 2 _ fields I.is) ∙ writes.args_get _ m I.modifiers I.name I.params I.parent_args I.body place number (placed m)
            ∙ sym (ap (λ s. writes.exp_in _ (view.member_kind m s) number) I.is);
      },
    )

pub returns-in-Method : goal.returns-in-Method
returns-in-Method g c =
    let I = c.in-Method in (
      (refl, λ w. tt, λ m. refl),
      record { writes_back = tt; value = λ m. writes.method_no_exp _ m I.modifiers I.ret I.name I.params I.body c.args.number ∙ sym (ap (λ s. writes.exp_in _ (view.member_kind m s) c.args.number) I.is) },
    )

pub returns-in-Inner : goal.returns-in-Inner
returns-in-Inner g c =
    let I = c.in-Inner in (
      (refl, λ w. tt, λ m. refl),
      record { writes_back = tt; value = λ m. writes.inner_no_exp _ m I.field-0 c.args.number ∙ sym (ap (λ s. writes.exp_in _ (view.member_kind m s) c.args.number) I.is) },
    )
