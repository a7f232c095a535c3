use Rattle.jr_table.specs.TypeView.{class_key_of}
use Rattle.jr_lookup.specs.ScopeView.{scope_of}
use Rattle.jr_table.specs.Lookup.{find_type_named, FindsTypeNamed}
use Rattle.jr_spell.proofs.Founds.{decided_class}
use Rattle.jr_spell.proofs.classes.is_type.Goals as goal

pub returns : goal.returns
returns c =
    let rows = c.args.table.now in
    let s = scope_of c.args.scope.now in
    let k = class_key_of c.args.class.now in
    let exact = c.lookups_are_exact.ensures.keys rows c.keeps_rows.ensures in
    let name = c.args.name.now in
    decided_class (find_type_named rows s name) (FindsTypeNamed rows s name) (exact.type_named s name) _ c.type_named.ensures k c.is_class.result c.is_class.ensures
