use Rattle.std.proofs.Common.{◌≤◌, sym, ◌∙◌, arith}
use Rattle.jr_table.specs.KeyView.{local_key_of}
use Rattle.jr_local_asked.proofs.Declares.{passed_more, passed_all}
use Rattle.jr_local_asked.proofs.declarations.declared_local.Goals as goal

pub loop-number-preserved : goal.loop-number-preserved
loop-number-preserved g c =
    let p = g.V.View.program c.args.view.now in
    passed_more p c.args.file (local_key_of c.args.key.now) c.loop-number.number c.in_ok-found.found (sym c.is_some.ensures ∙ c.if-is_some.false) c.in_ok-found.ensures c.loop-number.invariant

pub returns : goal.returns
returns g c =
    let p = g.V.View.program c.args.view.now in
    let past : c.bound_count-number-end.result ≤ c.loop-number.number = omega (arith, c.loop-number-test.false) in
    passed_all p c.args.file (local_key_of c.args.key.now) c.bound_count-number-end.result c.loop-number.number c.bound_count-number-end.ensures past c.loop-number.invariant
