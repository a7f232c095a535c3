use Rattle.std.proofs.Common.{map, ap, sym, ◌∙◌}
use Rattle.jr_ast.specs.MemberTree as tree
use Rattle.jr_ast.specs.View.{class_of, modifier_of}
use Rattle.jr_ast.specs.Remarked as maps
use Rattle.jr_paths_copies.proofs.Marking.{mark_agrees}
use Rattle.std.proofs.lemmas.Result.{IfOk-at_ok}
use Rattle.jr_ast.proofs.Rows.{class_of-out}
use Rattle.jr_paths_copies.proofs.member_marks.class_with.Goals as goal

pub returns : goal.returns
unfolding maps.map_member maps.map_members maps.map_class
returns g c = λ copied h k agree.
    let mark = mark_agrees agree c.mark_by.ensures in
    let words = c.in_ok-words.ensures h k agree ∙ ap (λ xs. map (maps.map_modifier k) (map modifier_of xs)) c.deref.ensures.value in
    let name = c.in_ok-name.ensures h k agree in
    let parent = c.in_ok-parent.ensures h k agree in
    let all = IfOk-at_ok _ c.in_ok-all.was copied h k agree in
    ap (λ d. maps.map_class h (class_of d)) c.in_ok-new.ensures.ok ∙ ap (maps.map_class h) c.new-copy.ensures ∙ (λ i. tree.class (mark i) (words i) (name i) (parent i) (all i)) ∙ sym (ap (maps.map_class k) (class_of-out _ c.args.of.now))
