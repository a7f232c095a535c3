use Rattle.jr_table.specs.TypeView.{class_key_of}
use Rattle.jr_table.specs.KeyView.{decl_of}
use Rattle.jr_lookup.specs.ScopeView.{scope_of}
use Rattle.jr_spell.specs.ReferenceView.{reference_of}
use Rattle.jr_spell.proofs.Deciding.{never, ok_along}
use Rattle.jr_spell.specs.Binds.{ThroughValue, ThroughSuperclass}
use Rattle.jr_spell.proofs.Parents.{no_superclass, the_superclass, of_the_superclass}
use Rattle.jr_spell.proofs.binding.on_superclass.Goals as goal

pub returns-in-None : goal.returns-in-None
returns-in-None c = never (λ x. no_superclass c.args.table.now c.keeps_rows.ensures _ c.in-None.ensures x.0 x.1)

pub returns-in-Some : goal.returns-in-Some
returns-in-Some c =
    let rows = c.args.table.now in
    let s = scope_of c.args.scope.now in
    let r = reference_of c.args.reference.now in
    let d = decl_of c.args.target.now in
    let p = class_key_of c.in-Some.parent.now in
    let are = c.keeps_rows.ensures in
    ok_along c.is_on_value.result (ThroughValue rows s r.args p d) (ThroughSuperclass rows s r d)
    (λ t. (p, the_superclass rows are s.class p c.in-Some.ensures, t))
    (λ x. of_the_superclass rows are s.class p c.in-Some.ensures (λ q. ThroughValue rows s r.args q d) x.0 x.1 x.2)
    c.is_on_value.ensures
