use Rattle.std.proofs.Common.{List, sym, subst}
use Rattle.std.specs.Result.{IfOk}
use Rattle.jr_table.specs.Keys.{Ty}
use Rattle.jr_table.specs.TypeView.{class_key_of}
use Rattle.jr_table.specs.FoundView.{found_of}
use Rattle.jr_table.specs.Lookup.{FindsMethodOf}
use Rattle.jr_lookup.specs.ScopeView.{scope_of}
use Rattle.jr_images.specs.Words.{FindsBehind}
use Rattle.jr_new_words.specs.declared.fronts.InFront as raw
use Rattle.jr_new_words.specs.FrontView.{in_front_of}
use Rattle.jr_new_words.proofs.looking.method_behind.Goals as goal

pub returns-in-Class : goal.returns-in-Class
returns-in-Class c =
    let rows = c.args.table.now in
    let s = scope_of c.args.scope.now in
    let name = c.args.name.now in
    subst (λ (w : raw.InFront). IfOk c.method_of.result (λ f. FindsBehind (in_front_of w) (λ k. FindsMethodOf rows s k name c.args.args.now) (found_of f))) (sym c.in-Class.is)
    (subst (λ (ts : List Ty). IfOk c.method_of.result (λ f. FindsMethodOf rows s (class_key_of c.in-Class.class.now) name ts (found_of f))) c.as_slice.ensures c.method_of.ensures)

pub returns-in-Value : goal.returns-in-Value
returns-in-Value c =
    let rows = c.args.table.now in
    let s = scope_of c.args.scope.now in
    let name = c.args.name.now in
    subst (λ (w : raw.InFront). IfOk c.method_of-in-Value.result (λ f. FindsBehind (in_front_of w) (λ k. FindsMethodOf rows s k name c.args.args.now) (found_of f))) (sym c.in-Value.is)
    (subst (λ (ts : List Ty). IfOk c.method_of-in-Value.result (λ f. FindsMethodOf rows s (class_key_of c.in-Value.class.now) name ts (found_of f))) c.as_slice-in-Value.ensures c.method_of-in-Value.ensures)
