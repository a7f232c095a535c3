use Rattle.std.proofs.Common.{◌≡◌, ◌++◌, ℕ, List, map, length, None, true, false, refl, sym, ap, subst, ◌∙◌}
use Rattle.std.proofs.lemmas.Result.{IfOk-weaker}
use Rattle.std.specs.Prelude.{option_map}
use Rattle.jr_text.specs.declared.spans.Span.{Span}
use Rattle.jr_ast.specs.MemberTree as syntax
use Rattle.jr_ast.specs.declared.parts.Param.{Param}
use Rattle.jr_ast.specs.declared.stmts.Stmt.{Stmt}
use Rattle.jr_ast.specs.View.{word_of, modifier_of, type_of, param_of, expr_of, args_of, stmts_of, class_of, member_of, member_kind}
use Rattle.jr_table.specs.KeyView.{member_key_of}
use Rattle.jr_table.specs.Notes.{Note}
use Rattle.jr_table.specs.Errors.{member_part}
use Rattle.jr_table.specs.HeadRules.{with_parameters, is_static_member}
use Rattle.jr_table.specs.Walks.{member_notes}
use Rattle.jr_bind_parts.specs.DeclaredTypes.{FitsMaybeType, FitsParams}
use Rattle.jr_bind_expr.specs.Fits.{FitsStmts}
use Rattle.jr_bind_expr.specs.Logs.{notes_of, Adds}
use Rattle.jr_bind_parts.specs.PartFits.{FitsMaybeArgs, FitsMember}
use Rattle.jr_bind_parts.specs.PartNotes.{field_notes, method_notes, ctor_notes}
use Rattle.jr_bind_expr.proofs.Adding.{adds_none}
use Rattle.jr_expr_types.specs.Trees.{none, node, flat}
use Rattle.jr_expr_types.specs.TypedTrees.{put_leaves, put_args, put_stmts, part_tree}
use Rattle.jr_bind_parts.specs.TypedFlow.{named_count}
use Rattle.jr_bind_expr.proofs.Oks.{IfOk-any}
use Rattle.jr_bind_parts.proofs.Statics.{map_count}
use Rattle.jr_bind_parts.proofs.TypedDeclaring.{field_typed, method_typed, constructor_typed}
use Rattle.jr_bind_parts.proofs.member_notes.note_member.Goals as goal

pub note_method-requires-clause-fits : goal.note_method-requires-clause-fits
unfolding member_kind
note_method-requires-clause-fits g c =
    let B = λ (m : g.row.A.Denot) (b : ℕ). (g.A.Mark.span_from m b).from in
    let F = g.A.Mark.fits_at in
    let base = c.args.base in
    let m = c.args.of.now.mark in
    let start : c.span-at-in-Method.result.from ≡ B m base = ap (λ (z : Span). z.from) c.span-at-in-Method.ensures in
    let whole : member_of c.args.of.now ≡ syntax.method m (map modifier_of c.in-Method.modifiers.items) (option_map type_of c.in-Method.ret) (word_of c.in-Method.name) (map param_of c.in-Method.params.items) (stmts_of c.in-Method.body.items) = ap (member_kind m) c.in-Method.is in
    let f = subst (λ (x : syntax.Member g.row.A.Denot). FitsMember B F base x) whole c.requires.fits in
    subst (λ (n : ℕ). FitsMaybeType B F n (option_map type_of c.in-Method.ret)) (sym start) f.1

pub note_method-requires-clause-fits_name : goal.note_method-requires-clause-fits_name
unfolding member_kind
note_method-requires-clause-fits_name g c =
    let B = λ (m : g.row.A.Denot) (b : ℕ). (g.A.Mark.span_from m b).from in
    let F = g.A.Mark.fits_at in
    let base = c.args.base in
    let m = c.args.of.now.mark in
    let start : c.span-at-in-Method.result.from ≡ B m base = ap (λ (z : Span). z.from) c.span-at-in-Method.ensures in
    let whole : member_of c.args.of.now ≡ syntax.method m (map modifier_of c.in-Method.modifiers.items) (option_map type_of c.in-Method.ret) (word_of c.in-Method.name) (map param_of c.in-Method.params.items) (stmts_of c.in-Method.body.items) = ap (member_kind m) c.in-Method.is in
    let f = subst (λ (x : syntax.Member g.row.A.Denot). FitsMember B F base x) whole c.requires.fits in
    subst (λ (n : ℕ). F c.in-Method.name.mark n) (sym start) f.2

pub note_method-requires-clause-fits_params : goal.note_method-requires-clause-fits_params
unfolding member_kind
note_method-requires-clause-fits_params g c =
    let B = λ (m : g.row.A.Denot) (b : ℕ). (g.A.Mark.span_from m b).from in
    let F = g.A.Mark.fits_at in
    let base = c.args.base in
    let m = c.args.of.now.mark in
    let start : c.span-at-in-Method.result.from ≡ B m base = ap (λ (z : Span). z.from) c.span-at-in-Method.ensures in
    let whole : member_of c.args.of.now ≡ syntax.method m (map modifier_of c.in-Method.modifiers.items) (option_map type_of c.in-Method.ret) (word_of c.in-Method.name) (map param_of c.in-Method.params.items) (stmts_of c.in-Method.body.items) = ap (member_kind m) c.in-Method.is in
    let f = subst (λ (x : syntax.Member g.row.A.Denot). FitsMember B F base x) whole c.requires.fits in
    subst (λ (n : ℕ). FitsParams B F n (map param_of c.deref.result.now)) (sym start)
    (subst (λ (xs : List (Param g.row.A.Denot)). FitsParams B F (B m base) (map param_of xs)) (sym c.deref.ensures.value) f.3)

pub note_method-requires-clause-fits_body : goal.note_method-requires-clause-fits_body
unfolding member_kind
note_method-requires-clause-fits_body g c =
    let B = λ (m : g.row.A.Denot) (b : ℕ). (g.A.Mark.span_from m b).from in
    let F = g.A.Mark.fits_at in
    let base = c.args.base in
    let m = c.args.of.now.mark in
    let start : c.span-at-in-Method.result.from ≡ B m base = ap (λ (z : Span). z.from) c.span-at-in-Method.ensures in
    let whole : member_of c.args.of.now ≡ syntax.method m (map modifier_of c.in-Method.modifiers.items) (option_map type_of c.in-Method.ret) (word_of c.in-Method.name) (map param_of c.in-Method.params.items) (stmts_of c.in-Method.body.items) = ap (member_kind m) c.in-Method.is in
    let f = subst (λ (x : syntax.Member g.row.A.Denot). FitsMember B F base x) whole c.requires.fits in
    subst (λ (n : ℕ). FitsStmts B F n (stmts_of c.deref-in-Method.result.now)) (sym start)
    (subst (λ (xs : List (Stmt g.row.A.Denot)). FitsStmts B F (B m base) (stmts_of xs)) (sym c.deref-in-Method.ensures.value) f.4)

pub note_ctor-requires-clause-fits_name : goal.note_ctor-requires-clause-fits_name
unfolding member_kind
note_ctor-requires-clause-fits_name g c =
    let B = λ (m : g.row.A.Denot) (b : ℕ). (g.A.Mark.span_from m b).from in
    let F = g.A.Mark.fits_at in
    let base = c.args.base in
    let m = c.args.of.now.mark in
    let start : c.span-at-in-Ctor.result.from ≡ B m base = ap (λ (z : Span). z.from) c.span-at-in-Ctor.ensures in
    let whole : member_of c.args.of.now ≡ syntax.constructor m (map modifier_of c.in-Ctor.modifiers.items) (word_of c.in-Ctor.name) (map param_of c.in-Ctor.params.items) (args_of c.in-Ctor.args) (stmts_of c.in-Ctor.body.items) = ap (member_kind m) c.in-Ctor.is in
    let f = subst (λ (x : syntax.Member g.row.A.Denot). FitsMember B F base x) whole c.requires.fits in
    subst (λ (n : ℕ). F c.in-Ctor.name.mark n) (sym start) f.1

pub note_ctor-requires-clause-fits_params : goal.note_ctor-requires-clause-fits_params
unfolding member_kind
note_ctor-requires-clause-fits_params g c =
    let B = λ (m : g.row.A.Denot) (b : ℕ). (g.A.Mark.span_from m b).from in
    let F = g.A.Mark.fits_at in
    let base = c.args.base in
    let m = c.args.of.now.mark in
    let start : c.span-at-in-Ctor.result.from ≡ B m base = ap (λ (z : Span). z.from) c.span-at-in-Ctor.ensures in
    let whole : member_of c.args.of.now ≡ syntax.constructor m (map modifier_of c.in-Ctor.modifiers.items) (word_of c.in-Ctor.name) (map param_of c.in-Ctor.params.items) (args_of c.in-Ctor.args) (stmts_of c.in-Ctor.body.items) = ap (member_kind m) c.in-Ctor.is in
    let f = subst (λ (x : syntax.Member g.row.A.Denot). FitsMember B F base x) whole c.requires.fits in
    subst (λ (n : ℕ). FitsParams B F n (map param_of c.deref-in-Ctor.result.now)) (sym start)
    (subst (λ (xs : List (Param g.row.A.Denot)). FitsParams B F (B m base) (map param_of xs)) (sym c.deref-in-Ctor.ensures.value) f.2)

pub note_ctor-requires-clause-fits_args : goal.note_ctor-requires-clause-fits_args
unfolding member_kind
note_ctor-requires-clause-fits_args g c =
    let B = λ (m : g.row.A.Denot) (b : ℕ). (g.A.Mark.span_from m b).from in
    let F = g.A.Mark.fits_at in
    let base = c.args.base in
    let m = c.args.of.now.mark in
    let start : c.span-at-in-Ctor.result.from ≡ B m base = ap (λ (z : Span). z.from) c.span-at-in-Ctor.ensures in
    let whole : member_of c.args.of.now ≡ syntax.constructor m (map modifier_of c.in-Ctor.modifiers.items) (word_of c.in-Ctor.name) (map param_of c.in-Ctor.params.items) (args_of c.in-Ctor.args) (stmts_of c.in-Ctor.body.items) = ap (member_kind m) c.in-Ctor.is in
    let f = subst (λ (x : syntax.Member g.row.A.Denot). FitsMember B F base x) whole c.requires.fits in
    subst (λ (n : ℕ). FitsMaybeArgs B F n (args_of c.in-Ctor.args)) (sym start) f.3

pub note_ctor-requires-clause-fits_body : goal.note_ctor-requires-clause-fits_body
unfolding member_kind
note_ctor-requires-clause-fits_body g c =
    let B = λ (m : g.row.A.Denot) (b : ℕ). (g.A.Mark.span_from m b).from in
    let F = g.A.Mark.fits_at in
    let base = c.args.base in
    let m = c.args.of.now.mark in
    let start : c.span-at-in-Ctor.result.from ≡ B m base = ap (λ (z : Span). z.from) c.span-at-in-Ctor.ensures in
    let whole : member_of c.args.of.now ≡ syntax.constructor m (map modifier_of c.in-Ctor.modifiers.items) (word_of c.in-Ctor.name) (map param_of c.in-Ctor.params.items) (args_of c.in-Ctor.args) (stmts_of c.in-Ctor.body.items) = ap (member_kind m) c.in-Ctor.is in
    let f = subst (λ (x : syntax.Member g.row.A.Denot). FitsMember B F base x) whole c.requires.fits in
    subst (λ (n : ℕ). FitsStmts B F n (stmts_of c.deref-in-Ctor-2.result.now)) (sym start)
    (subst (λ (xs : List (Stmt g.row.A.Denot)). FitsStmts B F (B m base) (stmts_of xs)) (sym c.deref-in-Ctor-2.ensures.value) f.4)

pub returns-in-Field-clause-notes : goal.returns-in-Field-clause-notes
unfolding member_kind member_notes
returns-in-Field-clause-notes g c =
    let B = λ (m : g.row.A.Denot) (b : ℕ). (g.A.Mark.span_from m b).from in
    let base = c.args.base in
    let m = c.args.of.now.mark in
    let start : c.span-at.result.from ≡ B m base = ap (λ (z : Span). z.from) c.span-at.ensures in
    let whole : member_of c.args.of.now ≡ syntax.field m (map modifier_of c.in-Field.modifiers.items) (type_of c.in-Field.ty) (word_of c.in-Field.name) (option_map expr_of c.in-Field.init) = ap (member_kind m) c.in-Field.is in
    let rows = c.args.table.now in
    let k = member_key_of c.args.key.now in
    let super_at = c.args.super_at in
    let static : c.is_static_member-is_static.result ≡ is_static_member B (map modifier_of c.in-Field.modifiers.items) = c.is_static_member-is_static.ensures ∙ ap (λ xs. is_static_member B (map modifier_of xs)) c.as_slice.ensures.value in
    let notes : field_notes B rows k c.span-at.result.from c.is_static_member-is_static.result (type_of c.in-Field.ty) (option_map expr_of c.in-Field.init) ≡ member_notes B rows super_at k base (member_of c.args.of.now) =
    (λ i. field_notes B rows k (start i) (static i) (type_of c.in-Field.ty) (option_map expr_of c.in-Field.init)) ∙ ap (member_notes B rows super_at k base) (sym whole) in
    IfOk-weaker c.note_field.result _ _ (λ u h. subst (λ (ns : List Note). Adds (notes_of rows k c.args.log.now.items) ns (notes_of rows k c.note_field.new.log.items)) notes h) c.note_field.ensures.notes

pub returns-in-Method-clause-notes : goal.returns-in-Method-clause-notes
unfolding member_kind member_notes
returns-in-Method-clause-notes g c =
    let B = λ (m : g.row.A.Denot) (b : ℕ). (g.A.Mark.span_from m b).from in
    let base = c.args.base in
    let m = c.args.of.now.mark in
    let start : c.span-at-in-Method.result.from ≡ B m base = ap (λ (z : Span). z.from) c.span-at-in-Method.ensures in
    let whole : member_of c.args.of.now ≡ syntax.method m (map modifier_of c.in-Method.modifiers.items) (option_map type_of c.in-Method.ret) (word_of c.in-Method.name) (map param_of c.in-Method.params.items) (stmts_of c.in-Method.body.items) = ap (member_kind m) c.in-Method.is in
    let rows = c.args.table.now in
    let k = member_key_of c.args.key.now in
    let super_at = c.args.super_at in
    let t = option_map type_of c.in-Method.ret in
    let w = word_of c.in-Method.name in
    let static : c.is_static_member-is_static-in-Method.result ≡ is_static_member B (map modifier_of c.in-Method.modifiers.items) = c.is_static_member-is_static-in-Method.ensures ∙ ap (λ xs. is_static_member B (map modifier_of xs)) c.as_slice-in-Method.ensures.value in
    let params = c.deref.ensures.value in
    let body = c.deref-in-Method.ensures.value in
    let notes : method_notes B rows k c.span-at-in-Method.result.from c.is_static_member-is_static-in-Method.result t w (map param_of c.deref.result.now) (stmts_of c.deref-in-Method.result.now) ≡ member_notes B rows super_at k base (member_of c.args.of.now) =
    (λ i. method_notes B rows k (start i) (static i) t w (map param_of (params i)) (stmts_of (body i))) ∙ ap (member_notes B rows super_at k base) (sym whole) in
    IfOk-weaker c.note_method.result _ _ (λ u h. subst (λ (ns : List Note). Adds (notes_of rows k c.args.log.now.items) ns (notes_of rows k c.note_method.new.log.items)) notes h) c.note_method.ensures.notes

pub returns-in-Ctor-clause-notes : goal.returns-in-Ctor-clause-notes
unfolding member_kind member_notes
returns-in-Ctor-clause-notes g c =
    let B = λ (m : g.row.A.Denot) (b : ℕ). (g.A.Mark.span_from m b).from in
    let base = c.args.base in
    let m = c.args.of.now.mark in
    let start : c.span-at-in-Ctor.result.from ≡ B m base = ap (λ (z : Span). z.from) c.span-at-in-Ctor.ensures in
    let whole : member_of c.args.of.now ≡ syntax.constructor m (map modifier_of c.in-Ctor.modifiers.items) (word_of c.in-Ctor.name) (map param_of c.in-Ctor.params.items) (args_of c.in-Ctor.args) (stmts_of c.in-Ctor.body.items) = ap (member_kind m) c.in-Ctor.is in
    let rows = c.args.table.now in
    let k = member_key_of c.args.key.now in
    let super_at = c.args.super_at in
    let w = word_of c.in-Ctor.name in
    let args = args_of c.in-Ctor.args in
    let params = c.deref-in-Ctor.ensures.value in
    let body = c.deref-in-Ctor-2.ensures.value in
    let notes : ctor_notes B rows k c.span-at-in-Ctor.result.from super_at w (map param_of c.deref-in-Ctor.result.now) args (stmts_of c.deref-in-Ctor-2.result.now) ≡ member_notes B rows super_at k base (member_of c.args.of.now) =
    (λ i. ctor_notes B rows k (start i) super_at w (map param_of (params i)) args (stmts_of (body i))) ∙ ap (member_notes B rows super_at k base) (sym whole) in
    IfOk-weaker c.note_ctor.result _ _ (λ u h. subst (λ (ns : List Note). Adds (notes_of rows k c.args.log.now.items) ns (notes_of rows k c.note_ctor.new.log.items)) notes h) c.note_ctor.ensures.notes

pub returns-in-Inner-clause-notes : goal.returns-in-Inner-clause-notes
unfolding member_kind member_notes
returns-in-Inner-clause-notes g c =
    let B = λ (m : g.row.A.Denot) (b : ℕ). (g.A.Mark.span_from m b).from in
    let m = c.args.of.now.mark in
    let rows = c.args.table.now in
    let k = member_key_of c.args.key.now in
    let old = notes_of rows k c.args.log.now.items in
    let whole : member_of c.args.of.now ≡ syntax.inner m (class_of c.in-Inner.field-0) = ap (member_kind m) c.in-Inner.is in
    IfOk-any c.put_leaf.result _ (subst (λ (x : syntax.Member g.row.A.Denot). Adds old (member_notes B rows c.args.super_at k c.args.base x) old) (sym whole) (adds_none old))

pub returns-in-Field-clause-slots : goal.returns-in-Field-clause-slots
unfolding member_kind
returns-in-Field-clause-slots g c =
    let B = λ (m : g.row.A.Denot) (b : ℕ). (g.A.Mark.span_from m b).from in
    let m = c.args.of.now.mark in
    let whole : member_of c.args.of.now ≡ syntax.field m (map modifier_of c.in-Field.modifiers.items) (type_of c.in-Field.ty) (word_of c.in-Field.name) (option_map expr_of c.in-Field.init) = ap (member_kind m) c.in-Field.is in
    let rows = c.args.table.now in
    let k = member_key_of c.args.key.now in
    let front = c.args.types.now in
    let static : c.is_static_member-is_static.result ≡ is_static_member B (map modifier_of c.in-Field.modifiers.items) = c.is_static_member-is_static.ensures ∙ ap (λ xs. is_static_member B (map modifier_of xs)) c.as_slice.ensures.value in
    let words = c.len-words.ensures ∙ c.in-Field.modifiers.ok.0 ∙ map_count modifier_of c.in-Field.modifiers.items in
    IfOk-weaker c.note_field.result _ _ (λ u h. subst (λ (x : syntax.Member g.row.A.Denot). c.note_field.new.types ≡ front ++ flat (part_tree B rows k (member_part x))) (sym whole)
    (field_typed B rows k m front _ (map modifier_of c.in-Field.modifiers.items) (type_of c.in-Field.ty) (word_of c.in-Field.name) (option_map expr_of c.in-Field.init) _ _ static words h)) c.note_field.ensures.slots

pub returns-in-Method-clause-slots : goal.returns-in-Method-clause-slots
unfolding member_kind
returns-in-Method-clause-slots g c =
    let B = λ (m : g.row.A.Denot) (b : ℕ). (g.A.Mark.span_from m b).from in
    let m = c.args.of.now.mark in
    let whole : member_of c.args.of.now ≡ syntax.method m (map modifier_of c.in-Method.modifiers.items) (option_map type_of c.in-Method.ret) (word_of c.in-Method.name) (map param_of c.in-Method.params.items) (stmts_of c.in-Method.body.items) = ap (member_kind m) c.in-Method.is in
    let rows = c.args.table.now in
    let k = member_key_of c.args.key.now in
    let front = c.args.types.now in
    let static : c.is_static_member-is_static-in-Method.result ≡ is_static_member B (map modifier_of c.in-Method.modifiers.items) = c.is_static_member-is_static-in-Method.ensures ∙ ap (λ xs. is_static_member B (map modifier_of xs)) c.as_slice-in-Method.ensures.value in
    let words = c.len-words-in-Method.ensures ∙ c.in-Method.modifiers.ok.0 ∙ map_count modifier_of c.in-Method.modifiers.items in
    let params = c.deref.ensures.value in
    let body = c.deref-in-Method.ensures.value in
    let few = ap (λ (xs : List (Param g.row.A.Denot)). length xs) params ∙ map_count param_of c.in-Method.params.items in
    IfOk-weaker c.note_method.result _ _ (λ u h. subst (λ (x : syntax.Member g.row.A.Denot). c.note_method.new.types ≡ front ++ flat (part_tree B rows k (member_part x))) (sym whole)
    (method_typed B rows k m front _ (map modifier_of c.in-Method.modifiers.items) (option_map type_of c.in-Method.ret) (word_of c.in-Method.name) (map param_of c.in-Method.params.items) (stmts_of c.in-Method.body.items) _ _ _ _ static words refl few
    (h ∙ (λ i. front ++ flat (node None (put_stmts rows (put_leaves (length c.deref.result.now) (put_leaves (named_count (option_map type_of c.in-Method.ret)) (put_leaves c.len-words-in-Method.result none))) (length c.deref.result.now) (with_parameters k c.is_static_member-is_static-in-Method.result (map param_of (params i))) (stmts_of (body i)))))))) c.note_method.ensures.slots

pub returns-in-Ctor-clause-slots : goal.returns-in-Ctor-clause-slots
unfolding member_kind
returns-in-Ctor-clause-slots g c =
    let B = λ (m : g.row.A.Denot) (b : ℕ). (g.A.Mark.span_from m b).from in
    let m = c.args.of.now.mark in
    let whole : member_of c.args.of.now ≡ syntax.constructor m (map modifier_of c.in-Ctor.modifiers.items) (word_of c.in-Ctor.name) (map param_of c.in-Ctor.params.items) (args_of c.in-Ctor.args) (stmts_of c.in-Ctor.body.items) = ap (member_kind m) c.in-Ctor.is in
    let rows = c.args.table.now in
    let k = member_key_of c.args.key.now in
    let front = c.args.types.now in
    let words = c.len-words-in-Ctor.ensures ∙ c.in-Ctor.modifiers.ok.0 ∙ map_count modifier_of c.in-Ctor.modifiers.items in
    let params = c.deref-in-Ctor.ensures.value in
    let body = c.deref-in-Ctor-2.ensures.value in
    let few = ap (λ (xs : List (Param g.row.A.Denot)). length xs) params ∙ map_count param_of c.in-Ctor.params.items in
    IfOk-weaker c.note_ctor.result _ _ (λ u h. subst (λ (x : syntax.Member g.row.A.Denot). c.note_ctor.new.types ≡ front ++ flat (part_tree B rows k (member_part x))) (sym whole)
    (constructor_typed B rows k m front _ (map modifier_of c.in-Ctor.modifiers.items) (word_of c.in-Ctor.name) (map param_of c.in-Ctor.params.items) (args_of c.in-Ctor.args) (stmts_of c.in-Ctor.body.items) _ _ words few
    (h ∙ (λ i. front ++ flat (node None (put_stmts rows (put_args rows (with_parameters k true (map param_of (params i))) (put_leaves (length c.deref-in-Ctor.result.now) (put_leaves 1 (put_leaves c.len-words-in-Ctor.result none))) (args_of c.in-Ctor.args)) (length c.deref-in-Ctor.result.now) (with_parameters k false (map param_of (params i))) (stmts_of (body i)))))))) c.note_ctor.ensures.slots

pub returns-in-Inner-clause-slots : goal.returns-in-Inner-clause-slots
unfolding member_kind
returns-in-Inner-clause-slots g c =
    let B = λ (m : g.row.A.Denot) (b : ℕ). (g.A.Mark.span_from m b).from in
    let m = c.args.of.now.mark in
    let whole : member_of c.args.of.now ≡ syntax.inner m (class_of c.in-Inner.field-0) = ap (member_kind m) c.in-Inner.is in
    let rows = c.args.table.now in
    let k = member_key_of c.args.key.now in
    let front = c.args.types.now in
    IfOk-weaker c.put_leaf.result _ _ (λ u h. subst (λ (x : syntax.Member g.row.A.Denot). c.put_leaf.new.types ≡ front ++ flat (part_tree B rows k (member_part x))) (sym whole)
    h) c.put_leaf.ensures
