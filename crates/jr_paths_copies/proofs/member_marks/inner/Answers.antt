use Rattle.std.proofs.Common.{ap, ◌∙◌}
use Rattle.std.proofs.lemmas.Result.{IfOk-weaker}
use Rattle.jr_ast.specs.MemberTree as tree
use Rattle.jr_ast.specs.View.{member_of, class_of}
use Rattle.jr_ast.specs.Remarked as maps
use Rattle.jr_paths_copies.proofs.Marking.{mark_agrees}
use Rattle.std.proofs.lemmas.Result.{IfOk-at_ok}
use Rattle.jr_paths_copies.proofs.member_marks.inner.Goals as goal

pub returns : goal.returns
unfolding maps.map_member maps.map_members maps.map_class
returns g c = λ t copied. IfOk-weaker c.in_box.result _ _ (λ x boxed h k agree.
    let mark = mark_agrees agree c.mark_by.ensures in
    let inner = IfOk-at_ok _ c.in_ok-class.was copied h k agree in
    ap (λ y. maps.map_member h (member_of y)) boxed ∙ ap (maps.map_member h) c.inner.ensures ∙ (λ i. tree.inner (mark i) ((ap (λ d. maps.map_class h (class_of d)) c.into_inner.ensures ∙ inner) i))) c.in_box.ensures
