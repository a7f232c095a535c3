use Rattle.std.proofs.Common.{sym, subst}
use Rattle.std.specs.Result.{IfOk}
use Rattle.jr_table.specs.FoundView.{found_of}
use Rattle.jr_table.specs.Lookup.{FindsFieldIn}
use Rattle.jr_lookup.specs.ScopeView.{scope_of}
use Rattle.jr_images.specs.Words.{FindsBehind}
use Rattle.jr_new_words.specs.declared.fronts.InFront as raw
use Rattle.jr_new_words.specs.FrontView.{in_front_of}
use Rattle.jr_new_words.proofs.looking.field_behind.Goals as goal

pub returns-in-Class : goal.returns-in-Class
returns-in-Class c =
    subst (λ (w : raw.InFront). IfOk c.field_of.result (λ f. FindsBehind (in_front_of w) (λ k. FindsFieldIn c.args.table.now (scope_of c.args.scope.now) k c.args.name.now) (found_of f))) (sym c.in-Class.is) c.field_of.ensures

pub returns-in-Value : goal.returns-in-Value
returns-in-Value c =
    subst (λ (w : raw.InFront). IfOk c.field_of-in-Value.result (λ f. FindsBehind (in_front_of w) (λ k. FindsFieldIn c.args.table.now (scope_of c.args.scope.now) k c.args.name.now) (found_of f))) (sym c.in-Value.is) c.field_of-in-Value.ensures
