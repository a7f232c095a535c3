use Rattle.std.proofs.Common.{◌≡◌, None, sym, subst}
use Rattle.jr_table.specs.TypeView.{class_key_of}
use Rattle.jr_table.specs.KeyView.{decl_of}
use Rattle.jr_table.specs.Entries.{class_of}
use Rattle.jr_lookup.specs.ScopeView.{scope_of}
use Rattle.jr_spell.specs.ReferenceView.{reference_of}
use Rattle.jr_spell.proofs.Deciding.{never, ok_along, refuted, both_true}
use Rattle.jr_table.specs.Keyed.{IsSubclass}
use Rattle.jr_table.specs.Context.{NamesClass}
use Rattle.jr_spell.specs.Binds.{ThroughValue, ThroughCast}
use Rattle.jr_spell.proofs.Deciding.{and_also}
use Rattle.jr_spell.proofs.binding.on_cast.Goals as goal

pub returns-then-fits : goal.returns-then-fits
returns-then-fits c =
    let rows = c.args.table.now in
    let s = scope_of c.args.scope.now in
    let r = reference_of c.args.reference.now in
    let d = decl_of c.args.target.now in
    let o = class_key_of c.args.class.now in
    let k = class_key_of c.declaring_class-declaring.result.now in
    let is : k ≡ class_of d = c.declaring_class-declaring.ensures in
    let fits = both_true c.is_subclass.result c.is_type.result c.if-fits.true in
    let above = subst (λ k. IsSubclass rows o k) is (c.is_subclass.ensures.0 fits.0) in
    let named = subst (λ k. NamesClass rows s None k.name k) is (c.is_type.ensures.0 fits.1) in
    ok_along c.is_on_value.result (ThroughValue rows s r.args k d) (ThroughCast rows s r.args o d)
    (λ t. record { above = above; named = named; member = subst (λ k. ThroughValue rows s r.args k d) is t })
    (λ x. subst (λ k. ThroughValue rows s r.args k d) (sym is) x.member)
    c.is_on_value.ensures

pub returns-else-fits : goal.returns-else-fits
returns-else-fits c =
    let rows = c.args.table.now in
    let s = scope_of c.args.scope.now in
    let r = reference_of c.args.reference.now in
    let d = decl_of c.args.target.now in
    let o = class_key_of c.args.class.now in
    let is : class_key_of c.declaring_class-declaring.result.now ≡ class_of d = c.declaring_class-declaring.ensures in
    let test = and_also c.is_subclass.result c.is_type.result c.is_subclass.ensures c.is_type.ensures in
    never (λ x. refuted c.if-fits.false test (subst (λ k. IsSubclass rows o k × NamesClass rows s None k.name k) (sym is) (x.above, x.named)))
