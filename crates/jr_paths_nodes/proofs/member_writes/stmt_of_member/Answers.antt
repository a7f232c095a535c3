use Rattle.std.proofs.Common.{◌≡◌, refl, ap, sym, ◌∙◌}
use denote.Param.{param}
use borrow.Enum.Known.{ValuesAt}
use Rattle.jr_ast.specs.View as view
use Rattle.jr_ast.specs.Nodes as pure
use Rattle.jr_ast.specs.declared.members.MemberKind as kind
use Rattle.jr_ast.specs.contracts.members.MemberKind.{enum}
use Rattle.jr_paths_nodes.proofs.Lending.{on_some_also, known, given, picked}
use Rattle.jr_paths_nodes.proofs.MemberWrites as writes
use Rattle.jr_paths_nodes.specs.With.{member_with_stmt}
use Rattle.jr_paths_nodes.specs.MemberLent.{at_place, body_place, with_stmt_left}
use Rattle.jr_paths_nodes.proofs.member_writes.stmt_of_member.Goals as goal

pub returns-in-Method : goal.returns-in-Method
returns-in-Method g c =
    let E = enum (param 0 g.row.A) in
    let I = c.in-Method in
    let self = c.args.kind.now in
    let number = c.args.number in
    let place = c.place_in_body-left.result in
    let placed : (m : g.row.A.Denot) → place ≡ body_place (view.member_kind m (kind.Method I.modifiers I.ret I.name I.params I.body)) number = λ m. c.place_in_body-left.ensures m ∙ ap (λ s. body_place (view.member_kind m s) number) I.is in
    let fields : ValuesAt E.parts 1 = (I.modifiers, (I.ret, (I.name, (I.params, (I.body, tt))))) in (
      (
        refl,
        λ w. on_some_also c.stmt_left.result (c.stmt_left.follows.holds w)
            (λ e m. ap (view.member_kind m) (known (λ y v. kind.Method v.0 v.1.0 v.1.1.0 v.1.1.1.0 y) fields self (c.stmt_left.follows.lender w) (given E 1 fields I.is))
            ∙ writes.method_write _ m I.modifiers I.ret I.name I.params I.body (c.stmt_left.follows.lender w) place number w (placed m) (e ∙ ap (λ p. with_stmt_left (view.stmts_of p.1.1.1.1.0.items) place (view.stmt_of w)) (picked E 1 _ fields I.is))
            ∙ sym (ap (λ s. member_with_stmt (view.member_kind m s) number (view.stmt_of w)) I.is)),
        λ m. ap (view.member_kind m) (known (λ y v. kind.Method v.0 v.1.0 v.1.1.0 v.1.1.1.0 y) fields self c.stmt_left.follows.lender-at-none (given E 1 fields I.is))
            ∙ writes.method_same _ m I.modifiers I.ret I.name I.params I.body c.stmt_left.follows.lender-at-none (c.stmt_left.follows.holds-at-none ∙ ap (λ p. view.stmts_of p.1.1.1.1.0.items) (picked E 1 _ fields I.is))
            ∙ sym (ap (view.member_kind m) I.is),
      ),
      record {
        writes_back = tt;
        value = λ m. c.stmt_left.ensures.value ∙ ap (λ p. at_place pure.as_stmt (pure.stmts (view.stmts_of p.1.1.1.1.0.items)) place) (picked E 1 _ fields I.is) ∙ writes.method_get _ m I.modifiers I.ret I.name I.params I.body place number (placed m)
            ∙ sym (ap (λ s. writes.stmt_in _ (view.member_kind m s) number) I.is);
      },
    )

pub returns-in-Ctor : goal.returns-in-Ctor
returns-in-Ctor g c =
    let E = enum (param 0 g.row.A) in
    let I = c.in-Ctor in
    let self = c.args.kind.now in
    let number = c.args.number in
    let place = c.place_in_body-left.result in
    let placed : (m : g.row.A.Denot) → place ≡ body_place (view.member_kind m (kind.Ctor I.modifiers I.name I.params I.parent_args I.body)) number = λ m. c.place_in_body-left.ensures m ∙ ap (λ s. body_place (view.member_kind m s) number) I.is in
    let fields : ValuesAt E.parts 2 = (I.modifiers, (I.name, (I.params, (I.parent_args, (I.body, tt))))) in (
      (
        refl,
        λ w. on_some_also c.stmt_left-in-Ctor.result (c.stmt_left-in-Ctor.follows.holds w)
            (λ e m. ap (view.member_kind m) (known (λ y v. kind.Ctor v.0 v.1.0 v.1.1.0 v.1.1.1.0 y) fields self (c.stmt_left-in-Ctor.follows.lender w) (given E 2 fields I.is))
            ∙ writes.ctor_write _ m I.modifiers I.name I.params I.parent_args I.body (c.stmt_left-in-Ctor.follows.lender w) place number w (placed m) (e ∙ ap (λ p. with_stmt_left (view.stmts_of p.1.1.1.1.0.items) place (view.stmt_of w)) (picked E 2 _ fields I.is))
            ∙ sym (ap (λ s. member_with_stmt (view.member_kind m s) number (view.stmt_of w)) I.is)),
        λ m. ap (view.member_kind m) (known (λ y v. kind.Ctor v.0 v.1.0 v.1.1.0 v.1.1.1.0 y) fields self c.stmt_left-in-Ctor.follows.lender-at-none (given E 2 fields I.is))
            ∙ writes.ctor_same _ m I.modifiers I.name I.params I.parent_args I.body c.stmt_left-in-Ctor.follows.lender-at-none (c.stmt_left-in-Ctor.follows.holds-at-none ∙ ap (λ p. view.stmts_of p.1.1.1.1.0.items) (picked E 2 _ fields I.is))
            ∙ sym (ap (view.member_kind m) I.is),
      ),
      record {
        writes_back = tt;
        value = λ m. c.stmt_left-in-Ctor.ensures.value ∙ ap (λ p. at_place pure.as_stmt (pure.stmts (view.stmts_of p.1.1.1.1.0.items)) place) (picked E 2 _ fields I.is) ∙ writes.ctor_get _ m I.modifiers I.name I.params I.parent_args I.body place number (placed m)
            ∙ sym (ap (λ s. writes.stmt_in _ (view.member_kind m s) number) I.is);
      },
    )

pub returns-in-Field : goal.returns-in-Field
returns-in-Field g c =
    let I = c.in-Field in (
      (refl, λ w. tt, λ m. refl),
      record { writes_back = tt; value = λ m. writes.field_no_stmt _ m I.modifiers I.ty I.name I.init c.args.number ∙ sym (ap (λ s. writes.stmt_in _ (view.member_kind m s) c.args.number) I.is) },
    )

pub returns-in-Inner : goal.returns-in-Inner
returns-in-Inner g c =
    let I = c.in-Inner in (
      (refl, λ w. tt, λ m. refl),
      record { writes_back = tt; value = λ m. writes.inner_no_stmt _ m I.field-0 c.args.number ∙ sym (ap (λ s. writes.stmt_in _ (view.member_kind m s) c.args.number) I.is) },
    )
