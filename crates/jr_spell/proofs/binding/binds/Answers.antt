use Rattle.std.proofs.Common.{◌↔◌, IsTrue, None, sym, subst}
use Rattle.jr_table.specs.KeyView.{decl_of}
use Rattle.jr_lookup.specs.ScopeView.{scope_of}
use Rattle.std.specs.Result.{IfOk}
use Rattle.jr_spell.specs.ReferenceView.{reference_of}
use Rattle.jr_table.specs.Context.{NamesClass}
use Rattle.jr_spell.specs.Binds.{LeadsTo, Binds}
use Rattle.jr_spell.proofs.binding.binds.Goals as goal

pub returns-in-Asked : goal.returns-in-Asked
returns-in-Asked c =
    let rows = c.args.table.now in
    let s = scope_of c.args.scope.now in
    let r = reference_of c.args.reference.now in
    let d = decl_of c.args.target.now in
    subst (λ f. IfOk c.as_asked.result (λ b. IsTrue b ↔ Binds rows s r d f)) (sym c.in-Asked.is) c.as_asked.ensures

pub returns-in-OnThis : goal.returns-in-OnThis
returns-in-OnThis c =
    let rows = c.args.table.now in
    let s = scope_of c.args.scope.now in
    let r = reference_of c.args.reference.now in
    let d = decl_of c.args.target.now in
    subst (λ f. IfOk c.on_this.result (λ b. IsTrue b ↔ Binds rows s r d f)) (sym c.in-OnThis.is) c.on_this.ensures

pub returns-in-OnSuper : goal.returns-in-OnSuper
returns-in-OnSuper c =
    let rows = c.args.table.now in
    let s = scope_of c.args.scope.now in
    let r = reference_of c.args.reference.now in
    let d = decl_of c.args.target.now in
    subst (λ f. IfOk c.on_super.result (λ b. IsTrue b ↔ Binds rows s r d f)) (sym c.in-OnSuper.is) c.on_super.ensures

pub returns-in-OnCastThis : goal.returns-in-OnCastThis
returns-in-OnCastThis c =
    let rows = c.args.table.now in
    let s = scope_of c.args.scope.now in
    let r = reference_of c.args.reference.now in
    let d = decl_of c.args.target.now in
    subst (λ f. IfOk c.on_cast_this.result (λ b. IsTrue b ↔ Binds rows s r d f)) (sym c.in-OnCastThis.is) c.on_cast_this.ensures

pub returns-in-OnCastOperand : goal.returns-in-OnCastOperand
returns-in-OnCastOperand c =
    let rows = c.args.table.now in
    let s = scope_of c.args.scope.now in
    let r = reference_of c.args.reference.now in
    let d = decl_of c.args.target.now in
    subst (λ f. IfOk c.on_cast_operand.result (λ b. IsTrue b ↔ Binds rows s r d f)) (sym c.in-OnCastOperand.is) c.on_cast_operand.ensures

pub returns-in-OnClass : goal.returns-in-OnClass
returns-in-OnClass c =
    let rows = c.args.table.now in
    let s = scope_of c.args.scope.now in
    let r = reference_of c.args.reference.now in
    let d = decl_of c.args.target.now in
    subst (λ f. IfOk c.on_class.result (λ b. IsTrue b ↔ Binds rows s r d f)) (sym c.in-OnClass.is) c.on_class.ensures

pub returns-in-OnOuterClass : goal.returns-in-OnOuterClass
returns-in-OnOuterClass c =
    let rows = c.args.table.now in
    let s = scope_of c.args.scope.now in
    let r = reference_of c.args.reference.now in
    let d = decl_of c.args.target.now in
    subst (λ f. IfOk c.on_outer_class.result (λ b. IsTrue b ↔ Binds rows s r d f)) (sym c.in-OnOuterClass.is) c.on_outer_class.ensures

pub returns-in-Class : goal.returns-in-Class
returns-in-Class c =
    let rows = c.args.table.now in
    let s = scope_of c.args.scope.now in
    let r = reference_of c.args.reference.now in
    let d = decl_of c.args.target.now in
    let named = subst (λ k. IsTrue c.is_type.result ↔ NamesClass rows s None k.name k) c.declaring_class-class.ensures c.is_type.ensures in
    subst (λ f. IsTrue c.is_type.result ↔ Binds rows s r d f) (sym c.in-Class.is) named

pub returns-in-ClassInFront : goal.returns-in-ClassInFront
returns-in-ClassInFront c =
    let rows = c.args.table.now in
    let s = scope_of c.args.scope.now in
    let r = reference_of c.args.reference.now in
    let d = decl_of c.args.target.now in
    let leads = subst (λ k. IsTrue c.leads_simply.result ↔ LeadsTo rows s None k.name k) c.declaring_class-class.ensures c.leads_simply.ensures in
    subst (λ f. IsTrue c.leads_simply.result ↔ Binds rows s r d f) (sym c.in-ClassInFront.is) leads
