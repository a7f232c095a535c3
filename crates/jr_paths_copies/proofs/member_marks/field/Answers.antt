use Rattle.std.proofs.Common.{ap, sym, ◌∙◌, Some, option_map}
use Rattle.std.proofs.lemmas.Result.{IfOk-weaker}
use Rattle.jr_ast.specs.MemberTree as tree
use Rattle.jr_ast.specs.View.{member_of, expr_of}
use Rattle.jr_ast.specs.Remarked as maps
use Rattle.jr_paths_copies.proofs.Marking.{mark_agrees}
use Rattle.jr_paths_copies.proofs.member_marks.field.Goals as goal

pub returns-in-None : goal.returns-in-None
unfolding maps.map_member maps.map_members maps.map_class
returns-in-None g c = IfOk-weaker c.in_box.result _ _ (λ x boxed h k agree.
    let mark = mark_agrees agree c.mark_by.ensures in
    let words = c.in_ok-words.ensures h k agree in
    let of_type = c.in_ok-of_type.ensures h k agree in
    let name = c.in_ok-name.ensures h k agree in
    let init = sym (ap (λ o. option_map (maps.map_exp h) (option_map (λ b. expr_of b.value) o)) c.in-None.is) ∙ c.in_ok-init.ensures h k agree in
    ap (λ y. maps.map_member h (member_of y)) boxed ∙ ap (maps.map_member h) c.field.ensures ∙ (λ i. tree.field (mark i) (words i) (of_type i) (name i) (init i))) c.in_box.ensures

pub returns-in-Some : goal.returns-in-Some
unfolding maps.map_member maps.map_members maps.map_class
returns-in-Some g c = IfOk-weaker c.in_box-in-Some.result _ _ (λ x boxed h k agree.
    let mark = mark_agrees agree c.mark_by-in-Some.ensures in
    let words = c.in_ok-words.ensures h k agree in
    let of_type = c.in_ok-of_type.ensures h k agree in
    let name = c.in_ok-name.ensures h k agree in
    let init = ap (λ e. Some (maps.map_exp h (expr_of e))) c.into_inner.ensures ∙ sym (ap (λ o. option_map (maps.map_exp h) (option_map (λ b. expr_of b.value) o)) c.in-Some.is) ∙ c.in_ok-init.ensures h k agree in
    ap (λ y. maps.map_member h (member_of y)) boxed ∙ ap (maps.map_member h) c.field-in-Some.ensures ∙ (λ i. tree.field (mark i) (words i) (of_type i) (name i) (init i))) c.in_box-in-Some.ensures
