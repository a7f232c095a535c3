use Rattle.std.proofs.Common.{◌++◌, [], ◌∷◌, ◌≡◌, ℕ, Some, List, map, option_map, refl, sym, ap, subst, ◌∙◌}
use Rattle.std.proofs.lemmas.Result.{on_ok_weaker}
use Rattle.jr_ast.specs.declared.members.Class.{out-Class}
use Rattle.jr_ast.specs.MemberTree as syntax
use Rattle.jr_ast.specs.View.{word_of, modifier_of, type_of, param_of, expr_of, member_of, members_of, class_of, member_kind, member_row}
use Rattle.jr_ast.proofs.Rows.{class_of-out}
use Rattle.jr_ast.proofs.Sizes.{member_size, members_size, class_size, members_add, falls_further, falls_whole_row, falls_item}
use Rattle.jr_build_declared.specs.Fitting.{begins_by, WordFits, MaybeTypeFits, MemberFits, ClassFits, MembersFit}
use Rattle.jr_table.specs.DeclaredItems.{DeclaredItem, class_item, field_item, method_item, ctor_item, word_at, written, words, param_declaration, init_declaration, writes_ctor, member_declarations, class_declarations, members_declarations}
use Rattle.jr_build_declared.specs.Gathers.{in_file}
use Rattle.jr_build_declared.specs.DeclaredView.{text_of, declaration_of, declaration_key_of}
use Rattle.jr_build_declared.proofs.ClassParts.{class_parts, member_begins}
use Rattle.jr_build_declared.proofs.DeclarationLists as lists
use Rattle.jr_build_declared.proofs.gathering.+gathering.Goals as goal

pub member-begin-requires : goal.member-begin-requires
member-begin-requires g t c = member_begins (begins_by g.A.Mark.span_from) g.A.Mark.fits_at c.args.at.base c.args.member.now c.requires

pub member-class-requires : goal.member-class-requires
unfolding member_size members_size class_size member_kind member_row class_of MemberFits ClassFits MembersFit
member-class-requires g t c =
    let B = begins_by g.A.Mark.span_from in
    let F = g.A.Mark.fits_at in
    let whole = member_size (member_of c.args.member.now) in
    let m = c.args.member.now.mark in
    let at = c.in-Inner in
    let fits = (subst (λ (d : syntax.Member g.row.A.Denot). MemberFits B F c.args.at.base d) (ap (member_kind m) at.is) c.requires).1 in
    λ κs o. (
      falls_further _ t (falls_whole_row (λ x. class_size (class_of x)) whole at.inner at.inner t refl (ap (λ d. member_size (member_kind m d)) at.is) c.decreases),
      (o, subst (λ b. ClassFits B F b (class_of at.inner)) (sym c.begin.ensures) fits),
    )

-- what is put behind, in another form
put_same : {S : Type 0} (old new own other : List S) → own ≡ other → new ≡ old ++ own → new ≡ old ++ other
put_same old new own other same is = is ∙ ap (λ xs. old ++ xs) same

pub member-returns-in-Field : goal.member-returns-in-Field
unfolding member_kind member_row class_of member_declarations class_declarations members_declarations
member-returns-in-Field g t c =
    let B = begins_by g.A.Mark.span_from in
    let x = c.in-Field in
    let file = c.args.at.file in
    let key = declaration_key_of c.args.of.now in
    let start = c.begin.ensures in
    on_ok_weaker c.push_field.result
    (λ e. put_same _ _ _ _
    ((λ i. in_file file (field_item (record {
      at = word_at B (start i) (word_of x.name);
      of = key;
      name = (word_of x.name).text;
      modifiers = words B (map modifier_of (c.deref.ensures.value i));
      type = written B (start i) (type_of x.ty);
      init = option_map (init_declaration B (start i)) (option_map expr_of x.init);
    }) ∷ []))
    ∙ sym (ap (λ (d : syntax.Member g.row.A.Denot). in_file file (member_declarations B c.args.at.base key d)) (ap (member_kind c.args.member.now.mark) x.is))) e) c.push_field.ensures

pub member-returns-in-Method : goal.member-returns-in-Method
unfolding member_kind member_row class_of member_declarations class_declarations members_declarations
member-returns-in-Method g t c =
    let B = begins_by g.A.Mark.span_from in
    let x = c.in-Method in
    let file = c.args.at.file in
    let key = declaration_key_of c.args.of.now in
    let start = c.begin.ensures in
    on_ok_weaker c.push_method.result
    (λ e. put_same _ _ _ _
    ((λ i. in_file file (method_item (record {
      at = word_at B (start i) (word_of x.name);
      of = key;
      name = (word_of x.name).text;
      modifiers = words B (map modifier_of (c.deref-in-Method.ensures.value i));
      result = option_map (written B (start i)) (option_map type_of x.ret);
      params = map (param_declaration B (start i)) (map param_of (c.deref-in-Method-2.ensures.value i));
    }) ∷ []))
    ∙ sym (ap (λ (d : syntax.Member g.row.A.Denot). in_file file (member_declarations B c.args.at.base key d)) (ap (member_kind c.args.member.now.mark) x.is))) e) c.push_method.ensures

pub member-returns-in-Ctor : goal.member-returns-in-Ctor
unfolding member_kind member_row class_of member_declarations class_declarations members_declarations
member-returns-in-Ctor g t c =
    let B = begins_by g.A.Mark.span_from in
    let x = c.in-Ctor in
    let file = c.args.at.file in
    let key = declaration_key_of c.args.of.now in
    let start = c.begin.ensures in
    on_ok_weaker c.push_ctor.result
    (λ e. put_same _ _ _ _
    ((λ i. in_file file (ctor_item (record {
      at = word_at B (start i) (word_of x.name);
      of = key;
      modifiers = words B (map modifier_of (c.deref-in-Ctor.ensures.value i));
      params = map (param_declaration B (start i)) (map param_of (c.deref-in-Ctor-2.ensures.value i));
    }) ∷ []))
    ∙ sym (ap (λ (d : syntax.Member g.row.A.Denot). in_file file (member_declarations B c.args.at.base key d)) (ap (member_kind c.args.member.now.mark) x.is))) e) c.push_ctor.ensures

pub member-returns-in-Inner : goal.member-returns-in-Inner
unfolding member_kind member_row class_of member_declarations class_declarations members_declarations
member-returns-in-Inner g t c =
    let B = begins_by g.A.Mark.span_from in
    let x = c.in-Inner in
    let file = c.args.at.file in
    let key = declaration_key_of c.args.of.now in
    let start = c.begin.ensures in
    on_ok_weaker c.class.result
    (λ e. put_same _ _ _ _
    ((λ i. in_file file (class_declarations B (start i) (Some key.name) (class_of x.inner)))
    ∙ sym (ap (λ (d : syntax.Member g.row.A.Denot). in_file file (member_declarations B c.args.at.base key d)) (ap (member_kind c.args.member.now.mark) x.is))) e) c.class.ensures

pub class-begin-requires : goal.class-begin-requires
class-begin-requires g t c = (class_parts (begins_by g.A.Mark.span_from) g.A.Mark.fits_at c.args.at.base c.args.class.now c.requires).0

pub class-push_head-requires-clause-name : goal.class-push_head-requires-clause-name
class-push_head-requires-clause-name g t c =
    let B = begins_by g.A.Mark.span_from in
    let F = g.A.Mark.fits_at in
    subst (λ b. WordFits B F b (word_of (out-Class _ c.args.class.now).name)) (sym c.begin.ensures) (class_parts B F c.args.at.base c.args.class.now c.requires).1

pub class-push_head-requires-clause-parent : goal.class-push_head-requires-clause-parent
class-push_head-requires-clause-parent g t c =
    let B = begins_by g.A.Mark.span_from in
    let F = g.A.Mark.fits_at in
    subst (λ b. MaybeTypeFits B F b (option_map type_of (out-Class _ c.args.class.now).parent)) (sym c.begin.ensures) (class_parts B F c.args.at.base c.args.class.now c.requires).2

pub class-members-requires : goal.class-members-requires
unfolding member_size members_size class_size
class-members-requires g t c =
    let B = begins_by g.A.Mark.span_from in
    let F = g.A.Mark.fits_at in
    let whole = class_size (class_of c.args.class.now) in
    let fits = (class_parts B F c.args.at.base c.args.class.now c.requires).3 in
    λ κs o. (
      falls_whole_row (λ xs. members_size (members_of xs)) whole (out-Class _ c.args.class.now).members.items c.deref-3.result.now t c.deref-3.ensures.value (ap class_size (class_of-out _ c.args.class.now)) c.decreases,
      (
        o,
        subst (λ b. MembersFit B F b (members_of c.deref-3.result.now)) (sym c.begin.ensures)
            (subst (λ xs. MembersFit B F (B (out-Class _ c.args.class.now).mark c.args.at.base) (members_of xs)) (sym c.deref-3.ensures.value) fits),
      ),
    )

pub class-returns : goal.class-returns
unfolding member_declarations class_declarations members_declarations
class-returns g t c =
    let B = begins_by g.A.Mark.span_from in
    let x = out-Class _ c.args.class.now in
    let outer = option_map text_of c.args.outer.now in
    let start = c.begin.ensures in
    let name = c.as_str.ensures in
    on_ok_weaker c.members.result
    (λ e. lists.put_two _ _ _ _ _ _ c.in_ok-push_head.ensures e
    ((λ i. record {
      file = c.args.at.file;
      item = class_item (record {
        at = word_at B (start i) (word_of x.name);
        key = record { outer = outer; name = name i };
        modifiers = words B (map modifier_of (c.deref.ensures.value i));
        parent = option_map (written B (start i)) (option_map type_of x.parent);
        has_ctor = writes_ctor B (members_of (c.deref-2.ensures.value i));
      });
    } ∷ in_file c.args.at.file (members_declarations B (start i) (record { outer = outer; name = name i }) (members_of (c.deref-3.ensures.value i))))
    ∙ sym (ap (λ d. in_file c.args.at.file (class_declarations B c.args.at.base outer d)) (class_of-out _ c.args.class.now)))) c.members.ensures

pub members-member-requires : goal.members-member-requires
unfolding MemberFits ClassFits MembersFit
members-member-requires g t c =
    let B = begins_by g.A.Mark.span_from in
    let F = g.A.Mark.fits_at in
    let fits = lists.each_meets (λ xs. MembersFit B F c.args.at.base (members_of xs)) (λ x. MemberFits B F c.args.at.base (member_of x)) (λ x xs h. h)
    c.args.members.now c.loop-part.part-index c.part-item.result c.loop-part-test.true c.part-item.is c.requires in
    λ κs o. (falls_item (λ x. member_size (member_of x)) (λ xs. members_size (members_of xs)) members_add c.args.members.now c.loop-part.part-index c.part-item.result t c.loop-part-test.true c.part-item.is c.decreases, (o, fits))

pub members-loop-part-preserved : goal.members-loop-part-preserved
unfolding member_declarations class_declarations members_declarations
members-loop-part-preserved g t c =
    let B = begins_by g.A.Mark.span_from in
    lists.one_more (λ xs. in_file c.args.at.file (members_declarations B c.args.at.base (declaration_key_of c.args.of.now) (members_of xs))) (λ x. in_file c.args.at.file (member_declarations B c.args.at.base (declaration_key_of c.args.of.now) (member_of x)))
    (λ x xs. lists.map_join _ (member_declarations B c.args.at.base (declaration_key_of c.args.of.now) (member_of x)) (members_declarations B c.args.at.base (declaration_key_of c.args.of.now) (members_of xs)))
    _ _ _ c.args.members.now c.loop-part.part-index c.part-item.result
    c.loop-part-test.true c.part-item.is c.in_ok-member.ensures c.loop-part.invariant

pub members-returns : goal.members-returns
unfolding member_declarations class_declarations members_declarations
members-returns g t c =
    let B = begins_by g.A.Mark.span_from in
    lists.none_left (λ xs. in_file c.args.at.file (members_declarations B c.args.at.base (declaration_key_of c.args.of.now) (members_of xs))) (λ x. in_file c.args.at.file (member_declarations B c.args.at.base (declaration_key_of c.args.of.now) (member_of x)))
    (λ x xs. lists.map_join _ (member_declarations B c.args.at.base (declaration_key_of c.args.of.now) (member_of x)) (members_declarations B c.args.at.base (declaration_key_of c.args.of.now) (members_of xs)))
    _ _ c.args.members.now c.loop-part.part-index c.loop-part-test.false refl c.loop-part.invariant
