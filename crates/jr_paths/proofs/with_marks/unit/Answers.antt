use Rattle.std.proofs.Common.{map, ap, ◌∙◌}
use Rattle.jr_ast.specs.View.{word_of, class_of}
use Rattle.jr_ast.specs.Remarked as maps
use Rattle.jr_paths_copies.proofs.Marking.{mark_agrees}
use Rattle.jr_paths.proofs.with_marks.unit.Goals as goal

pub returns : goal.returns
returns g c = λ h k agree.
    let mark = mark_agrees agree c.mark_by.ensures in
    let path = c.in_ok-path.ensures h k agree ∙ ap (λ xs. map (maps.map_word k) (map word_of xs)) c.deref.ensures.value in
    let all = c.in_ok-all.ensures h k agree ∙ ap (λ xs. map (maps.map_class k) (map class_of xs)) c.deref-2.ensures.value in
    ap (maps.map_unit h) c.new.ensures ∙ (λ i. record { mark = mark i; package_name = path i; classes = all i })
