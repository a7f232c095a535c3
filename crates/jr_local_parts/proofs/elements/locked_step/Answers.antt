use Rattle.std.proofs.Common.{◌∙◌, ◌==◌, sym}
use Rattle.std.proofs.lemmas.Result.{IfOk-weaker}
use Rattle.jr_ast.specs.View.{stmts_of}
use Rattle.jr_new_bodies.specs.Known.{context_of}
use Rattle.jr_local_search.proofs.Descents.{same, apart, if_true, if_false}
use Rattle.jr_local_parts.specs.Descending.{standing, ended, pick as chosen}
use Rattle.jr_local_parts.proofs.Goings.{stays}
use Rattle.jr_local_parts.proofs.elements.locked_step.Goals as goal

pub returns-then-wanted-eq0 : goal.returns-then-wanted-eq0
returns-then-wanted-eq0 c =
    let x = context_of c.args.here.now in
    let k = c.args.wanted in
    let b = stmts_of c.args.body.now in
    record {
      goes = stays c.args.here.now c.requires;
      is = sym (if_true (k == 0) (ended x) (chosen (standing x c.args.next c.args.at) 1 k b) (same k 0 c.if-wanted-eq0.true));
    }

pub returns : goal.returns
returns c =
    let x = context_of c.args.here.now in
    let k = c.args.wanted in
    let b = stmts_of c.args.body.now in
    IfOk-weaker c.pick.result _ _ (λ r h. record {
      goes = h.goes;
      is = h.is ∙ sym (if_false (k == 0) (ended x) (chosen (standing x c.args.next c.args.at) 1 k b) (apart k 0 c.if-wanted-eq0.false));
    }) c.pick.ensures
