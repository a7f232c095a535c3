use Rattle.std.proofs.Common.{List, sym, subst}
use Rattle.std.specs.Result.{IfOk}
use Rattle.jr_table.specs.Keys.{Ty}
use Rattle.jr_table.specs.TypeView.{class_key_of}
use Rattle.jr_table.specs.FoundView.{found_of}
use Rattle.jr_table.specs.Lookup.{FindsMethodNamed, FindsMethodOf, FindsCtorOf}
use Rattle.jr_lookup.specs.ScopeView.{scope_of}
use Rattle.jr_new_words.specs.declared.ways.Way as raw
use Rattle.jr_new_words.specs.Ways.{way_of, Finds}
use Rattle.jr_new_words.proofs.looking.look_up.Goals as goal

pub returns-in-MethodNamed : goal.returns-in-MethodNamed
returns-in-MethodNamed c =
    let rows = c.args.table.now in
    let s = scope_of c.args.scope.now in
    let name = c.args.name.now in
    subst (λ (w : raw.Way). IfOk c.method_named.result (λ f. Finds rows s (way_of w) name c.args.args.now (found_of f))) (sym c.in-MethodNamed.is)
    (subst (λ (ts : List Ty). IfOk c.method_named.result (λ f. FindsMethodNamed rows s name ts (found_of f))) c.as_slice.ensures c.method_named.ensures)

pub returns-in-MethodOn : goal.returns-in-MethodOn
returns-in-MethodOn c =
    let rows = c.args.table.now in
    let s = scope_of c.args.scope.now in
    let name = c.args.name.now in
    subst (λ (w : raw.Way). IfOk c.method_of.result (λ f. Finds rows s (way_of w) name c.args.args.now (found_of f))) (sym c.in-MethodOn.is)
    (subst (λ (ts : List Ty). IfOk c.method_of.result (λ f. FindsMethodOf rows s (class_key_of c.in-MethodOn.class.now) name ts (found_of f))) c.as_slice-in-MethodOn.ensures c.method_of.ensures)

pub returns-in-FieldThrough : goal.returns-in-FieldThrough
returns-in-FieldThrough c =
    subst (λ (w : raw.Way). IfOk c.field_behind.result (λ f. Finds c.args.table.now (scope_of c.args.scope.now) (way_of w) c.args.name.now c.args.args.now (found_of f))) (sym c.in-FieldThrough.is) c.field_behind.ensures

pub returns-in-MethodThrough : goal.returns-in-MethodThrough
returns-in-MethodThrough c =
    subst (λ (w : raw.Way). IfOk c.method_behind.result (λ f. Finds c.args.table.now (scope_of c.args.scope.now) (way_of w) c.args.name.now c.args.args.now (found_of f))) (sym c.in-MethodThrough.is) c.method_behind.ensures

pub returns-in-CtorOf : goal.returns-in-CtorOf
returns-in-CtorOf c =
    let rows = c.args.table.now in
    let s = scope_of c.args.scope.now in
    let name = c.args.name.now in
    subst (λ (w : raw.Way). IfOk c.ctor_of.result (λ f. Finds rows s (way_of w) name c.args.args.now (found_of f))) (sym c.in-CtorOf.is)
    (subst (λ (ts : List Ty). IfOk c.ctor_of.result (λ f. FindsCtorOf rows s (class_key_of c.in-CtorOf.class.now) ts (found_of f))) c.as_slice-in-CtorOf.ensures c.ctor_of.ensures)

pub returns-in-TypeBehind : goal.returns-in-TypeBehind
returns-in-TypeBehind c =
    let rows = c.args.table.now in
    let s = scope_of c.args.scope.now in
    let name = c.args.name.now in
    subst (λ (w : raw.Way). IfOk c.type_behind.result (λ f. Finds rows s (way_of w) name c.args.args.now (found_of f))) (sym c.in-TypeBehind.is) c.type_behind.ensures
