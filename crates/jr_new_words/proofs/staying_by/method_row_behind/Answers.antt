use Rattle.std.proofs.Common.{sym, subst}
use Rattle.std.specs.Prelude.{IfSome}
use Rattle.std.specs.Result.{IfOk}
use Rattle.jr_table.specs.Lookup.{FindsMethodOf}
use Rattle.jr_lookup.specs.ScopeView.{scope_of}
use Rattle.jr_images.specs.Words.{FindsBehind}
use Rattle.jr_new_words.specs.declared.fronts.InFront as raw
use Rattle.jr_new_words.specs.FrontView.{in_front_of}
use Rattle.jr_new_words.specs.StayingBy.{FindsAt}
use Rattle.jr_new_words.proofs.staying_by.method_row_behind.Goals as goal

pub returns-in-Class : goal.returns-in-Class
returns-in-Class c =
    subst (λ (w : raw.InFront). IfOk c.method_row.result (λ o. IfSome o (FindsAt c.args.table.now (FindsBehind (in_front_of w) (λ k. FindsMethodOf c.args.table.now (scope_of c.args.scope.now) k c.args.name.now c.args.args.now))))) (sym c.in-Class.is) c.method_row.ensures
