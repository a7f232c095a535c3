use Rattle.std.proofs.Common.{◌↔◌, IsTrue, true, refl, subst}
use Rattle.jr_table.specs.KeyView.{decl_of}
use Rattle.jr_table.specs.Keys.{ClassKey}
use Rattle.jr_table.specs.TypeView.{class_key_of}
use Rattle.jr_lookup.specs.ScopeView.{scope_of}
use Rattle.jr_spell.specs.ReferenceView.{reference_of}
use Rattle.jr_spell.specs.Binds.{LeadsIn, BehindOperand}
use Rattle.jr_spell.proofs.binding.behind_operand.Goals as goal

pub returns-in-None : goal.returns-in-None
returns-in-None c =
    let rows = c.args.table.now in
    let s = scope_of c.args.scope.now in
    let r = reference_of c.args.reference.now in
    let d = decl_of c.args.target.now in
    subst (λ o. IsTrue true ↔ BehindOperand rows s r d o) c.in-None.ensures (λ e. tt, λ x. refl)

pub returns-in-Some : goal.returns-in-Some
returns-in-Some c =
    let rows = c.args.table.now in
    let s = scope_of c.args.scope.now in
    let r = reference_of c.args.reference.now in
    let d = decl_of c.args.target.now in
    let front = class_key_of c.in-Some.front.now in
    subst (λ o. IsTrue c.leads_in.result ↔ BehindOperand rows s r d o) c.in-Some.ensures
    (subst (λ (k : ClassKey). IsTrue c.leads_in.result ↔ LeadsIn rows s front k.name k) c.declaring_class-class.ensures c.leads_in.ensures)
