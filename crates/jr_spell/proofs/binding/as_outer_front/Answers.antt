use Rattle.std.proofs.Common.{◌≡◌, Some, sym, ap, subst, ◌∙◌}
use Rattle.jr_table.specs.TypeView.{class_key_of}
use Rattle.jr_table.specs.KeyView.{decl_of}
use Rattle.jr_table.specs.Entries.{class_of}
use Rattle.jr_lookup.specs.ScopeView.{scope_of}
use Rattle.jr_table.specs.Keys.{ClassKey}
use Rattle.jr_spell.specs.ReferenceView.{reference_of}
use Rattle.jr_spell.proofs.Deciding.{along}
use Rattle.jr_spell.specs.Binds.{LeadsTo}
use Rattle.jr_spell.proofs.binding.as_outer_front.Goals as goal

pub returns-in-Some : goal.returns-in-Some
returns-in-Some c =
    let rows = c.args.table.now in
    let s = scope_of c.args.scope.now in
    let r = reference_of c.args.reference.now in
    let d = decl_of c.args.target.now in
    let k = class_key_of c.declaring_class-class.result.now in
    let is : k ≡ class_of d = c.declaring_class-class.ensures in
    let outer = c.in-Some.outer in
    let has : k.outer ≡ Some outer = c.in-Some.is in
    let has2 : (class_of d).outer ≡ Some outer = ap (λ (k : ClassKey). k.outer) (sym is) ∙ has in
    along c.leads_dotted.ensures
    (λ t. (outer, has2, subst (λ k. LeadsTo rows s (Some outer) k.name k) is t))
    (λ x.
    let e : Some x.0 ≡ Some outer = sym x.1 ∙ has2 in
    let same : x.0 ≡ outer = cc in
    subst (λ k. LeadsTo rows s (Some outer) k.name k) (sym is) (subst (λ o. LeadsTo rows s (Some o) (class_of d).name (class_of d)) same x.2))
