use Rattle.std.proofs.Common.{sym, subst}
use Rattle.std.proofs.lemmas.Result.{IfOk-weaker}
use Rattle.jr_local_asked.specs.AskedView.{asked_of}
use Rattle.jr_local_uses.specs.Inlines.{Inlines}
use Rattle.jr_local_uses.specs.InlineView.{uses_of}
use Rattle.jr_local_uses.proofs.Deciding.{inlines_so}
use Rattle.jr_local_uses.proofs.uses.of_asked.Goals as goal

pub uses_of-requires-clause-there : goal.uses_of-requires-clause-there
uses_of-requires-clause-there g c = (c.args.file, c.requires.has.there)

pub returns-in-Ok : goal.returns-in-Ok
returns-in-Ok g c =
    let p = g.V.View.program c.args.view.now in
    let x = asked_of c.args.asked in
    IfOk-weaker c.of_uses.result _ _ (λ r h. subst (Inlines p c.args.file c.args.at) (sym h) (inlines_so p c.args.file c.args.at x c.requires.has (uses_of c.in-Ok.uses) c.in-Ok.ensures)) c.of_uses.ensures
