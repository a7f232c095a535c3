use Rattle.std.proofs.Common.{refl, Some, ap, sym, ◌∙◌}
use denote.Param.{param}
use borrow.Enum.Known.{ValuesAt}
use Rattle.jr_ast.specs.View as view
use Rattle.jr_ast.specs.declared.members.MemberKind as kind
use Rattle.jr_ast.specs.contracts.members.MemberKind.{enum}
use Rattle.jr_paths_nodes.proofs.Lending.{known, given, picked}
use Rattle.jr_paths_nodes.proofs.MemberWrites as writes
use Rattle.jr_paths_nodes.specs.With.{member_with_class}
use Rattle.jr_paths_nodes.proofs.member_writes.class_of_member.Goals as goal

pub returns-in-Inner-eq0 : goal.returns-in-Inner-eq0
returns-in-Inner-eq0 g c =
    let E = enum (param 0 g.row.A) in
    let I = c.in-Inner-eq0 in
    let self = c.args.kind.now in
    let number = c.args.number in
    let fields : ValuesAt E.parts 3 = (I.class, tt) in (
      (
        refl,
        λ w m. ap (view.member_kind m) (known (λ y v. kind.Inner y) fields self w (given E 3 fields I.is-0))
            ∙ writes.inner_write _ m I.class w number I.is-1
            ∙ sym (ap (λ s. member_with_class (view.member_kind m s) number (view.class_of w)) I.is-0),
        λ m. refl,
      ),
      record {
        writes_back = tt;
        value = λ m. ap (λ p. Some (view.class_of p.0)) (picked E 3 _ fields I.is-0) ∙ writes.inner_get _ m I.class number I.is-1
            ∙ sym (ap (λ s. writes.class_in _ (view.member_kind m s) number) I.is-0);
      },
    )

pub returns-in-Inner-default : goal.returns-in-Inner-default
returns-in-Inner-default g c =
    let I = c.in-Inner-default in (
      (refl, λ w. tt, λ m. refl),
      record { writes_back = tt; value = λ m. writes.inner_no_class _ m I.field-0-0 c.args.number I.is-1.1 ∙ sym (ap (λ s. writes.class_in _ (view.member_kind m s) c.args.number) I.is-0) },
    )

pub returns-in-Field-default : goal.returns-in-Field-default
returns-in-Field-default g c =
    let I = c.in-Field-default in (
      (refl, λ w. tt, λ m. refl),
      record { writes_back = tt; value = λ m. writes.field_no_class _ m I.modifiers-0 I.ty-0 I.name-0 I.init-0 c.args.number ∙ sym (ap (λ s. writes.class_in _ (view.member_kind m s) c.args.number) I.is-0) },
    )

pub returns-in-Method-default : goal.returns-in-Method-default
returns-in-Method-default g c =
    let I = c.in-Method-default in (
      (refl, λ w. tt, λ m. refl),
      record { writes_back = tt; value = λ m. writes.method_no_class _ m I.modifiers-0 I.ret-0 I.name-0 I.params-0 I.body-0 c.args.number ∙ sym (ap (λ s. writes.class_in _ (view.member_kind m s) c.args.number) I.is-0) },
    )

pub returns-in-Ctor-default : goal.returns-in-Ctor-default
returns-in-Ctor-default g c =
    let I = c.in-Ctor-default in (
      (refl, λ w. tt, λ m. refl),
      record { writes_back = tt; value = λ m. writes.ctor_no_class _ m I.modifiers-0 I.name-0 I.params-0 I.parent_args-0 I.body-0 c.args.number ∙ sym (ap (λ s. writes.class_in _ (view.member_kind m s) c.args.number) I.is-0) },
    )
