use Rattle.jr_table.specs.TypeView.{class_key_of}
use Rattle.jr_lookup.specs.ScopeView.{scope_of}
use Rattle.jr_table.specs.Lookup.{find_type_named, FindsTypeNamed}
use Rattle.jr_spell.proofs.Deciding.{never, along, and_also}
use Rattle.jr_spell.proofs.Founds.{of_the_class, the_class, no_class}
use Rattle.jr_spell.specs.Binds.{LeadsIn}
use Rattle.jr_spell.proofs.classes.leads_dotted.Goals as goal

pub returns-in-None : goal.returns-in-None
returns-in-None c =
    let rows = c.args.table.now in
    let s = scope_of c.args.scope.now in
    let k = class_key_of c.args.class.now in
    let exact = c.lookups_are_exact.ensures.keys rows c.keeps_rows.ensures in
    let outer = c.args.outer.now in
    never (λ x. no_class (find_type_named rows s outer) (FindsTypeNamed rows s outer) (exact.type_named s outer) c.in-None.ensures x.0 x.1.1)

pub returns-in-Some : goal.returns-in-Some
returns-in-Some c =
    let rows = c.args.table.now in
    let s = scope_of c.args.scope.now in
    let k = class_key_of c.args.class.now in
    let exact = c.lookups_are_exact.ensures.keys rows c.keeps_rows.ensures in
    let outer = c.args.outer.now in
    let name = c.args.name.now in
    let a = class_key_of c.in-Some.around.now in
    let find = find_type_named rows s outer in
    let test = and_also c.is_no_variable.result c.leads_in.result c.is_no_variable.ensures c.leads_in.ensures in
    along test
    (λ t. (a, (t.0, the_class find (FindsTypeNamed rows s outer) (exact.type_named s outer) a c.in-Some.ensures), t.1))
    (λ x. (x.1.0, of_the_class find (FindsTypeNamed rows s outer) (exact.type_named s outer) a c.in-Some.ensures (λ o. LeadsIn rows s o name k) x.0 x.1.1 x.2))
