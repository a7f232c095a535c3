use Rattle.jr_table.specs.TypeView.{class_key_of}
use Rattle.jr_lookup.specs.ScopeView.{scope_of}
use Rattle.jr_table.specs.Lookup.{find_type_of, FindsTypeOf}
use Rattle.jr_spell.proofs.Deciding.{and_also}
use Rattle.jr_spell.proofs.Founds.{decided_class}
use Rattle.jr_spell.proofs.classes.leads_in.Goals as goal

pub returns : goal.returns
returns c =
    let rows = c.args.table.now in
    let s = scope_of c.args.scope.now in
    let k = class_key_of c.args.class.now in
    let exact = c.lookups_are_exact.ensures.keys rows c.keeps_rows.ensures in
    let name = c.args.name.now in
    let a = class_key_of c.args.around.now in
    let test = decided_class (find_type_of rows s a name) (FindsTypeOf rows s a name) (exact.type_of s a name) _ c.member_type.ensures k c.is_class.result c.is_class.ensures in
    and_also c.is_no_field.result c.is_class.result c.is_no_field.ensures test
