use Rattle.std.proofs.Common.{ap, ◌∙◌}
use Rattle.std.proofs.lemmas.Result.{IfOk-weaker}
use Rattle.jr_ast.specs.MemberTree as tree
use Rattle.jr_ast.specs.View.{member_of}
use Rattle.jr_ast.specs.Remarked as maps
use Rattle.jr_paths_copies.proofs.Marking.{mark_agrees}
use Rattle.jr_paths_copies.proofs.member_marks.ctor.Goals as goal

pub returns : goal.returns
unfolding maps.map_member maps.map_members maps.map_class
returns g c = IfOk-weaker c.in_box.result _ _ (λ x boxed h k agree.
    let mark = mark_agrees agree c.mark_by.ensures in
    let words = c.in_ok-head.ensures.words h k agree in
    let name = c.in_ok-head.ensures.name h k agree in
    let list = c.in_ok-head.ensures.list h k agree in
    let args = c.in_ok-args.ensures h k agree in
    let body = c.in_ok-body.ensures h k agree in
    ap (λ y. maps.map_member h (member_of y)) boxed ∙ ap (maps.map_member h) c.ctor.ensures ∙ (λ i. tree.constructor (mark i) (words i) (name i) (list i) (args i) (body i))) c.in_box.ensures
