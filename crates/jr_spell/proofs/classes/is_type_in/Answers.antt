use Rattle.jr_table.specs.TypeView.{class_key_of}
use Rattle.jr_table.specs.Found.{one}
use Rattle.jr_lookup.specs.ScopeView.{scope_of}
use Rattle.jr_table.specs.Decls.{class_decl}
use Rattle.jr_table.specs.Lookup.{find_type_named, find_type_of, FindsTypeNamed, FindsTypeOf}
use Rattle.jr_spell.proofs.Deciding.{never, along}
use Rattle.jr_spell.proofs.Founds.{decided_class, of_the_class, the_class, no_class}
use Rattle.jr_spell.proofs.classes.is_type_in.Goals as goal

pub returns-in-None : goal.returns-in-None
returns-in-None c =
    let rows = c.args.table.now in
    let s = scope_of c.args.scope.now in
    let k = class_key_of c.args.class.now in
    let exact = c.lookups_are_exact.ensures.keys rows c.keeps_rows.ensures in
    let outer = c.args.outer.now in
    never (λ x. no_class (find_type_named rows s outer) (FindsTypeNamed rows s outer) (exact.type_named s outer) c.in-None.ensures x.0 x.1)

pub returns-in-Some : goal.returns-in-Some
returns-in-Some c =
    let rows = c.args.table.now in
    let s = scope_of c.args.scope.now in
    let k = class_key_of c.args.class.now in
    let exact = c.lookups_are_exact.ensures.keys rows c.keeps_rows.ensures in
    let outer = c.args.outer.now in
    let name = c.args.name.now in
    let a = class_key_of c.in-Some.around.now in
    let find = find_type_named rows s outer in
    let test = decided_class (find_type_of rows s a name) (FindsTypeOf rows s a name) (exact.type_of s a name) _ c.member_type.ensures k c.is_class.result c.is_class.ensures in
    along test
    (λ t. (a, the_class find (FindsTypeNamed rows s outer) (exact.type_named s outer) a c.in-Some.ensures, t))
    (λ x. of_the_class find (FindsTypeNamed rows s outer) (exact.type_named s outer) a c.in-Some.ensures (λ o. FindsTypeOf rows s o name (one (class_decl k))) x.0 x.1 x.2)
