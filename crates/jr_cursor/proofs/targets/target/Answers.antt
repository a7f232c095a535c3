use Rattle.std.proofs.lemmas.Result.{IfOk-weaker}
use Rattle.jr_cursor.specs.Words.{IsHolder}
use Rattle.jr_cursor.proofs.Telling.{some_at, none_told, word_told}
use Rattle.jr_cursor.proofs.targets.target.Goals as goal

pub returns-in-None : goal.returns-in-None
returns-in-None g c = none_told (g.V.View.program c.args.view.now) c.args.file c.items.result.now c.items.ensures c.one_answer.ensures.items c.args.at (c.identifier_at.ensures.none c.in-None.is)

pub returns-in-Some : goal.returns-in-Some
returns-in-Some g c =
    let p = g.V.View.program c.args.view.now in
    let word = some_at (IsHolder c.items.result.now c.args.at) c.identifier_at.result c.in-Some.from c.in-Some.is c.identifier_at.ensures.some in
    IfOk-weaker c.decl_named.result _ _ (λ o h. word_told p c.args.file c.items.result.now c.items.ensures c.one_answer.ensures.items c.items_are_placed.ensures.items c.args.at c.in-Some.from word o h) c.decl_named.ensures
