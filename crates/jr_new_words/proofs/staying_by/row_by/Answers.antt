use Rattle.std.proofs.Common.{refl, sym, subst}
use Rattle.std.specs.Prelude.{IfSome}
use Rattle.std.specs.Result.{IfOk}
use Rattle.std.proofs.lemmas.Result.{IfOk-weaker}
use Rattle.jr_lookup.specs.ScopeView.{scope_of}
use Rattle.jr_new_words.specs.declared.ways.Way as raw
use Rattle.jr_new_words.specs.Ways.{way_of}
use Rattle.jr_new_words.specs.StayingBy.{FindsBy}
use Rattle.jr_new_words.proofs.Oks.{some_weaker}
use Rattle.jr_new_words.proofs.staying_by.row_by.Goals as goal

pub returns-in-FieldOn : goal.returns-in-FieldOn
returns-in-FieldOn c =
    subst (λ (w : raw.Way). IfSome c.field_row_in.result (FindsBy c.args.table.now (scope_of c.args.scope.now) (way_of w) c.args.name.now c.args.args.now)) (sym c.in-FieldOn.is)
    (some_weaker c.field_row_in.result _ _ (λ j h. (refl, h)) c.field_row_in.ensures)

pub returns-in-FieldThrough : goal.returns-in-FieldThrough
returns-in-FieldThrough c =
    subst (λ (w : raw.Way). IfSome c.field_row_behind.result (FindsBy c.args.table.now (scope_of c.args.scope.now) (way_of w) c.args.name.now c.args.args.now)) (sym c.in-FieldThrough.is)
    (some_weaker c.field_row_behind.result _ _ (λ j h. (refl, h)) c.field_row_behind.ensures)

pub returns-in-TypeNamed : goal.returns-in-TypeNamed
returns-in-TypeNamed c =
    subst (λ (w : raw.Way). IfSome c.type_row.result (FindsBy c.args.table.now (scope_of c.args.scope.now) (way_of w) c.args.name.now c.args.args.now)) (sym c.in-TypeNamed.is)
    (some_weaker c.type_row.result _ _ (λ j h. (refl, h)) c.type_row.ensures)

pub returns-in-MethodNamed : goal.returns-in-MethodNamed
returns-in-MethodNamed c =
    subst (λ (w : raw.Way). IfOk c.call_row.result (λ o. IfSome o (FindsBy c.args.table.now (scope_of c.args.scope.now) (way_of w) c.args.name.now c.args.args.now))) (sym c.in-MethodNamed.is)
    (IfOk-weaker c.call_row.result _ _ (λ o h. some_weaker o _ _ (λ j h. (refl, h)) h) c.call_row.ensures)

pub returns-in-MethodOn : goal.returns-in-MethodOn
returns-in-MethodOn c =
    subst (λ (w : raw.Way). IfOk c.method_row.result (λ o. IfSome o (FindsBy c.args.table.now (scope_of c.args.scope.now) (way_of w) c.args.name.now c.args.args.now))) (sym c.in-MethodOn.is)
    (IfOk-weaker c.method_row.result _ _ (λ o h. some_weaker o _ _ (λ j h. (refl, h)) h) c.method_row.ensures)

pub returns-in-MethodThrough : goal.returns-in-MethodThrough
returns-in-MethodThrough c =
    subst (λ (w : raw.Way). IfOk c.method_row_behind.result (λ o. IfSome o (FindsBy c.args.table.now (scope_of c.args.scope.now) (way_of w) c.args.name.now c.args.args.now))) (sym c.in-MethodThrough.is)
    (IfOk-weaker c.method_row_behind.result _ _ (λ o h. some_weaker o _ _ (λ j h. (refl, h)) h) c.method_row_behind.ensures)

pub returns-in-CtorOf : goal.returns-in-CtorOf
returns-in-CtorOf c =
    subst (λ (w : raw.Way). IfOk c.ctor_row.result (λ o. IfSome o (FindsBy c.args.table.now (scope_of c.args.scope.now) (way_of w) c.args.name.now c.args.args.now))) (sym c.in-CtorOf.is)
    (IfOk-weaker c.ctor_row.result _ _ (λ o h. some_weaker o _ _ (λ j h. (refl, h)) h) c.ctor_row.ensures)
