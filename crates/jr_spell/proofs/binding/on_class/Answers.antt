use Rattle.std.proofs.Common.{◌≡◌, None, sym, subst}
use Rattle.jr_table.specs.TypeView.{class_key_of}
use Rattle.jr_table.specs.KeyView.{decl_of}
use Rattle.jr_table.specs.Entries.{class_of}
use Rattle.jr_lookup.specs.ScopeView.{scope_of}
use Rattle.jr_spell.specs.ReferenceView.{reference_of}
use Rattle.jr_spell.proofs.Deciding.{never, ok_along, refuted}
use Rattle.jr_spell.specs.Binds.{LeadsTo, ThroughClass, BindsOnClass}
use Rattle.jr_spell.proofs.binding.on_class.Goals as goal

pub returns-then-leads_simply : goal.returns-then-leads_simply
returns-then-leads_simply c =
    let rows = c.args.table.now in
    let s = scope_of c.args.scope.now in
    let r = reference_of c.args.reference.now in
    let d = decl_of c.args.target.now in
    let k = class_key_of c.declaring_class-class.result.now in
    let is : k ≡ class_of d = c.declaring_class-class.ensures in
    let leads = subst (λ k. LeadsTo rows s None k.name k) is (c.leads_simply.ensures.0 c.if-leads_simply.true) in
    ok_along c.is_on_class.result (ThroughClass rows s r.args k d) (BindsOnClass rows s r d)
    (λ t. (leads, subst (λ k. ThroughClass rows s r.args k d) is t))
    (λ x. subst (λ k. ThroughClass rows s r.args k d) (sym is) x.1)
    c.is_on_class.ensures

pub returns-else-leads_simply : goal.returns-else-leads_simply
returns-else-leads_simply c =
    let rows = c.args.table.now in
    let s = scope_of c.args.scope.now in
    let r = reference_of c.args.reference.now in
    let d = decl_of c.args.target.now in
    let is : class_key_of c.declaring_class-class.result.now ≡ class_of d = c.declaring_class-class.ensures in
    never (λ x. refuted c.if-leads_simply.false c.leads_simply.ensures (subst (λ k. LeadsTo rows s None k.name k) (sym is) x.0))
