use Rattle.std.proofs.Common.{◌↔◌, IsTrue, sym, subst}
use Rattle.jr_table.specs.KeyView.{decl_of}
use Rattle.jr_lookup.specs.ScopeView.{scope_of}
use Rattle.std.specs.Result.{IfOk}
use Rattle.jr_spell.specs.ReferenceView.{reference_of}
use Rattle.jr_spell.specs.Binds.{BindsAsked}
use Rattle.jr_spell.proofs.binding.as_asked.Goals as goal

pub returns-in-FieldOn : goal.returns-in-FieldOn
returns-in-FieldOn c =
    let rows = c.args.table.now in
    let s = scope_of c.args.scope.now in
    let r = reference_of c.args.reference.now in
    let d = decl_of c.args.target.now in
    subst (λ f. IfOk c.on_operand.result (λ b. IsTrue b ↔ BindsAsked rows s r d f)) (sym c.in-FieldOn.is) c.on_operand.ensures

pub returns-in-FieldSuper : goal.returns-in-FieldSuper
returns-in-FieldSuper c =
    let rows = c.args.table.now in
    let s = scope_of c.args.scope.now in
    let r = reference_of c.args.reference.now in
    let d = decl_of c.args.target.now in
    subst (λ f. IfOk c.on_super.result (λ b. IsTrue b ↔ BindsAsked rows s r d f)) (sym c.in-FieldSuper.is) c.on_super.ensures

pub returns-in-ThroughClass : goal.returns-in-ThroughClass
returns-in-ThroughClass c =
    let rows = c.args.table.now in
    let s = scope_of c.args.scope.now in
    let r = reference_of c.args.reference.now in
    let d = decl_of c.args.target.now in
    subst (λ f. IfOk c.on_asked_class.result (λ b. IsTrue b ↔ BindsAsked rows s r d f)) (sym c.in-ThroughClass.is) c.on_asked_class.ensures

pub returns-in-MethodSimple : goal.returns-in-MethodSimple
returns-in-MethodSimple c =
    let rows = c.args.table.now in
    let s = scope_of c.args.scope.now in
    let r = reference_of c.args.reference.now in
    let d = decl_of c.args.target.now in
    subst (λ f. IfOk c.is_method_named.result (λ b. IsTrue b ↔ BindsAsked rows s r d f)) (sym c.in-MethodSimple.is) c.is_method_named.ensures

pub returns-in-MethodOn : goal.returns-in-MethodOn
returns-in-MethodOn c =
    let rows = c.args.table.now in
    let s = scope_of c.args.scope.now in
    let r = reference_of c.args.reference.now in
    let d = decl_of c.args.target.now in
    subst (λ f. IfOk c.on_operand-in-MethodOn.result (λ b. IsTrue b ↔ BindsAsked rows s r d f)) (sym c.in-MethodOn.is) c.on_operand-in-MethodOn.ensures

pub returns-in-ClassInFront : goal.returns-in-ClassInFront
returns-in-ClassInFront c =
    let rows = c.args.table.now in
    let s = scope_of c.args.scope.now in
    let r = reference_of c.args.reference.now in
    let d = decl_of c.args.target.now in
    subst (λ f. IsTrue c.as_front.result ↔ BindsAsked rows s r d f) (sym c.in-ClassInFront.is) c.as_front.ensures

pub returns-in-AsAsked : goal.returns-in-AsAsked
returns-in-AsAsked c =
    let rows = c.args.table.now in
    let s = scope_of c.args.scope.now in
    let r = reference_of c.args.reference.now in
    let d = decl_of c.args.target.now in
    subst (λ f. IfOk c.alone.result (λ b. IsTrue b ↔ BindsAsked rows s r d f)) (sym c.in-AsAsked.is) c.alone.ensures

pub returns-in-ClassName : goal.returns-in-ClassName
returns-in-ClassName c =
    let rows = c.args.table.now in
    let s = scope_of c.args.scope.now in
    let r = reference_of c.args.reference.now in
    let d = decl_of c.args.target.now in
    subst (λ f. IfOk c.as_written.result (λ b. IsTrue b ↔ BindsAsked rows s r d f)) (sym c.in-ClassName.is) c.as_written.ensures
