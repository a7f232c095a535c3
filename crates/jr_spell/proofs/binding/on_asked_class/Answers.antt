use Rattle.std.proofs.Common.{◌≡◌, Some, None, sym, ap, subst, ◌∙◌}
use Rattle.std.specs.Prelude.{option_map}
use Rattle.jr_table.specs.TypeView.{class_key_of}
use Rattle.jr_table.specs.KeyView.{decl_of}
use Rattle.jr_lookup.specs.ScopeView.{scope_of}
use Rattle.jr_spell.specs.ReferenceView.{reference_of}
use Rattle.jr_spell.specs.Binds.{ThroughClass, ThroughOperand, BindsOnAskedClass}
use Rattle.jr_spell.proofs.Deciding.{never, ok_along, refuted}
use Rattle.jr_spell.proofs.binding.on_asked_class.Goals as goal

pub returns-in-None : goal.returns-in-None
returns-in-None c = never (λ x. let e : None ≡ Some x.0 = sym (ap (option_map class_key_of) c.in-None.is) ∙ x.1 in cc)

pub returns-then-has : goal.returns-then-has
returns-then-has c =
    let rows = c.args.table.now in
    let s = scope_of c.args.scope.now in
    let r = reference_of c.args.reference.now in
    let d = decl_of c.args.target.now in
    let b = class_key_of c.in-Some.front in
    let is : r.front ≡ Some b = ap (option_map class_key_of) c.in-Some.is in
    let has = c.in_ok-has-in-Some.ensures.0 c.if-has.true in
    ok_along c.on_operand_class.result (ThroughOperand rows s r d) (BindsOnAskedClass rows s r d) (λ t. (b, is, has, t)) (λ x. x.3) c.on_operand_class.ensures

pub returns-else-has : goal.returns-else-has
returns-else-has c =
    let rows = c.args.table.now in
    let s = scope_of c.args.scope.now in
    let r = reference_of c.args.reference.now in
    let d = decl_of c.args.target.now in
    let b = class_key_of c.in-Some.front in
    let is : r.front ≡ Some b = ap (option_map class_key_of) c.in-Some.is in
    never (λ x.
    let e : Some x.0 ≡ Some b = sym x.1 ∙ is in
    let same : x.0 ≡ b = cc in
    refuted c.if-has.false c.in_ok-has-in-Some.ensures (subst (λ z. ThroughClass rows s r.args z d) same x.2))
