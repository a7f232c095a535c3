use Rattle.std.proofs.Common.{sym, subst}
use Rattle.std.specs.Prelude.{IfSome}
use Rattle.jr_table.specs.Lookup.{FindsFieldIn}
use Rattle.jr_lookup.specs.ScopeView.{scope_of}
use Rattle.jr_images.specs.Words.{FindsBehind}
use Rattle.jr_new_words.specs.declared.fronts.InFront as raw
use Rattle.jr_new_words.specs.FrontView.{in_front_of}
use Rattle.jr_new_words.specs.StayingBy.{FindsAt}
use Rattle.jr_new_words.proofs.staying_by.field_row_behind.Goals as goal

pub returns-in-Class : goal.returns-in-Class
returns-in-Class c =
    subst (λ (w : raw.InFront). IfSome c.field_row_in.result (FindsAt c.args.table.now (FindsBehind (in_front_of w) (λ k. FindsFieldIn c.args.table.now (scope_of c.args.scope.now) k c.args.name.now)))) (sym c.in-Class.is) c.field_row_in.ensures
