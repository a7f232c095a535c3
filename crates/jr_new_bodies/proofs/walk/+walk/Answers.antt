use Rattle.std.proofs.Common.{◌≡◌, ◌+◌, ◌*◌, ◌<◌, ℕ, List, [], ◌∷◌, ◌++◌, Option, Some, None, ap, sym, refl, subst, ◌∙◌, drop, suc, add-one, arith}
use Rattle.std.specs.Prelude.{IfOk}
use Rattle.std.proofs.lemmas.Result.{IfOk-weaker}
use Rattle.std.proofs.lemmas.List.{drop_all}
use Rattle.std.specs.Global.{Global}
use Rattle.std.specs.declared.boxed.Box.{Box}
use Rattle.jr_text.specs.declared.spans.Span.{Span}
use Rattle.jr_ast.specs.Tree as tree
use Rattle.jr_ast.specs.declared.exprs.Expr.{Expr}
use Rattle.jr_ast.specs.View.{word_of, type_of, expr_of, exprs_of, target_of, expr_kind, expr_row, held_target}
use Rattle.jr_ast.proofs.Rows.{expr_kind-Call_to, expr_kind-SuperCall, expr_kind-New}
use Rattle.jr_ast.proofs.Sizes.{exp_size, exps_size, target_size}
use Rattle.jr_table.specs.Binding.{value, left}
use Rattle.jr_bind_expr.proofs.Steps.{own_fits, left_is}
use Rattle.jr_new_words.specs.ChoiceView.{choice_of}
use Rattle.jr_new_words.specs.Spelled as spells
use Rattle.jr_new_bodies.specs.Effects.{Effect}
use Rattle.jr_new_bodies.specs.OutputView.{gathered}
use Rattle.jr_new_bodies.specs.Known.{role_of, rows_of, mapping_of, context_of, DottedSpells, ExpReady, RowReady, TargetReady, TypesRow, TypesCreation, CallIsBound, first_of}
use Rattle.jr_grammar.specs.Shape.{rank_of, sign_level}
use Rattle.jr_rewrite.specs.Spots.{Asks, level, a_target}
use Rattle.jr_new_bodies.specs.Spotting.{part_at}
use Rattle.jr_new_bodies.specs.SpotView.{part_of, spotting_of}
use Rattle.jr_new_bodies.specs.Walks.{ExpGathers, PartGathers, RowGathers, TargetGathers, CallOnGathers, DottedGathers}
use Rattle.jr_new_bodies.proofs.Arms as arm
use Rattle.jr_new_bodies.proofs.Arms.{falls_one, falls_two, falls_target}
use Rattle.jr_new_bodies.proofs.Readying as parted
use Rattle.jr_new_bodies.proofs.Giving as gives
use Rattle.jr_new_bodies.proofs.Spotted.{span_is}
use Rattle.jr_new_bodies.proofs.Stepping as step
use Rattle.jr_new_bodies.proofs.Oks.{on_ok}
use Rattle.jr_new_bodies.proofs.walk.+walk.Goals as goal

pub expr-written_type-requires-clause-fits : goal.expr-written_type-requires-clause-fits
unfolding exp_size exps_size target_size expr_kind expr_row held_target
expr-written_type-requires-clause-fits g t c =
    let T = g.A.Mark.span_from in
    let F = g.A.Mark.fits_at in
    let h = c.args.here.now in
    let role = role_of c.args.role in
    let path = c.args.path.now.steps.items in
    let base = c.args.base in
    let m = c.args.of.now.mark in
    let at = c.span-span.result.from in
    let start : at ≡ (T m base).from = ap (λ (z : Span). z.from) c.span-span.ensures in
    let ready = subst (λ (e : tree.Exp g.row.A.Denot). ExpReady T F h role path base e) (ap (expr_kind m) c.in-ClassLit.is) c.requires.ready in
    (arm.literal_needs T F h role path base m at start (type_of c.in-ClassLit.ty) ready).0

pub expr-written_type-requires-clause-bound : goal.expr-written_type-requires-clause-bound
unfolding exp_size exps_size target_size expr_kind expr_row held_target
expr-written_type-requires-clause-bound g t c =
    let T = g.A.Mark.span_from in
    let F = g.A.Mark.fits_at in
    let h = c.args.here.now in
    let role = role_of c.args.role in
    let path = c.args.path.now.steps.items in
    let base = c.args.base in
    let m = c.args.of.now.mark in
    let at = c.span-span.result.from in
    let start : at ≡ (T m base).from = ap (λ (z : Span). z.from) c.span-span.ensures in
    let ready = subst (λ (e : tree.Exp g.row.A.Denot). ExpReady T F h role path base e) (ap (expr_kind m) c.in-ClassLit.is) c.requires.ready in
    (arm.literal_needs T F h role path base m at start (type_of c.in-ClassLit.ty) ready).1

pub expr-simple-requires-clause-fits : goal.expr-simple-requires-clause-fits
unfolding exp_size exps_size target_size expr_kind expr_row held_target
expr-simple-requires-clause-fits g t c =
    let T = g.A.Mark.span_from in
    let F = g.A.Mark.fits_at in
    let h = c.args.here.now in
    let role = role_of c.args.role in
    let path = c.args.path.now.steps.items in
    let base = c.args.base in
    let m = c.args.of.now.mark in
    let at = c.span-span.result.from in
    let start : at ≡ (T m base).from = ap (λ (z : Span). z.from) c.span-span.ensures in
    let ready = subst (λ (e : tree.Exp g.row.A.Denot). ExpReady T F h role path base e) (ap (expr_kind m) c.in-Simple.is) c.requires.ready in
    (arm.name_needs T F h role path base m at start (word_of c.in-Simple.name) ready).0

pub expr-simple-requires-clause-bound : goal.expr-simple-requires-clause-bound
unfolding exp_size exps_size target_size expr_kind expr_row held_target
expr-simple-requires-clause-bound g t c =
    let T = g.A.Mark.span_from in
    let F = g.A.Mark.fits_at in
    let h = c.args.here.now in
    let role = role_of c.args.role in
    let path = c.args.path.now.steps.items in
    let base = c.args.base in
    let m = c.args.of.now.mark in
    let at = c.span-span.result.from in
    let start : at ≡ (T m base).from = ap (λ (z : Span). z.from) c.span-span.ensures in
    let ready = subst (λ (e : tree.Exp g.row.A.Denot). ExpReady T F h role path base e) (ap (expr_kind m) c.in-Simple.is) c.requires.ready in
    (arm.name_needs T F h role path base m at start (word_of c.in-Simple.name) ready).1

pub expr-on_super-requires-clause-fits : goal.expr-on_super-requires-clause-fits
unfolding exp_size exps_size target_size expr_kind expr_row held_target
expr-on_super-requires-clause-fits g t c =
    let T = g.A.Mark.span_from in
    let F = g.A.Mark.fits_at in
    let h = c.args.here.now in
    let role = role_of c.args.role in
    let path = c.args.path.now.steps.items in
    let base = c.args.base in
    let m = c.args.of.now.mark in
    let at = c.span-span.result.from in
    let start : at ≡ (T m base).from = ap (λ (z : Span). z.from) c.span-span.ensures in
    let ready = subst (λ (e : tree.Exp g.row.A.Denot). ExpReady T F h role path base e) (ap (expr_kind m) c.in-SuperField.is) c.requires.ready in
    let n = arm.super_needs T F h role path base m at start (word_of c.in-SuperField.name) ready in
    n.0

pub expr-on_super-requires-clause-bound : goal.expr-on_super-requires-clause-bound
unfolding exp_size exps_size target_size expr_kind expr_row held_target
expr-on_super-requires-clause-bound g t c =
    let T = g.A.Mark.span_from in
    let F = g.A.Mark.fits_at in
    let h = c.args.here.now in
    let role = role_of c.args.role in
    let path = c.args.path.now.steps.items in
    let base = c.args.base in
    let m = c.args.of.now.mark in
    let at = c.span-span.result.from in
    let start : at ≡ (T m base).from = ap (λ (z : Span). z.from) c.span-span.ensures in
    let ready = subst (λ (e : tree.Exp g.row.A.Denot). ExpReady T F h role path base e) (ap (expr_kind m) c.in-SuperField.is) c.requires.ready in
    (arm.super_needs T F h role path base m at start (word_of c.in-SuperField.name) ready).1

pub expr-field-requires : goal.expr-field-requires
unfolding exp_size exps_size target_size expr_kind expr_row held_target
expr-field-requires g t c =
    let T = g.A.Mark.span_from in
    let F = g.A.Mark.fits_at in
    let h = c.args.here.now in
    let role = role_of c.args.role in
    let path = c.args.path.now.steps.items in
    let base = c.args.base in
    let m = c.args.of.now.mark in
    let at = c.span-span.result.from in
    let start : at ≡ (T m base).from = ap (λ (z : Span). z.from) c.span-span.ensures in
    let ready = subst (λ (e : tree.Exp g.row.A.Denot). ExpReady T F h role path base e) (ap (expr_kind m) c.in-Field.is) c.requires.ready in
    let same = c.deref.ensures in
    let n = arm.field_needs T F h role path base m at start c.deref.result.now c.in-Field.part.value (word_of c.in-Field.name) same ready in
    λ κs o. (falls_one (exp_size (expr_of c.args.of.now)) _ _ 3 t (ap (λ (x : Expr g.row.A.Denot). exp_size (expr_of x)) same) (ap exp_size (ap (expr_kind m) c.in-Field.is)) c.decreases (omega arith), (o, (c.requires.known, (n.0, (n.1.0, n.1.1)))))

pub expr-call-requires : goal.expr-call-requires
unfolding exp_size exps_size target_size expr_kind expr_row held_target
expr-call-requires g t c =
    let T = g.A.Mark.span_from in
    let F = g.A.Mark.fits_at in
    let h = c.args.here.now in
    let role = role_of c.args.role in
    let path = c.args.path.now.steps.items in
    let base = c.args.base in
    let m = c.args.of.now.mark in
    let at = c.span-span.result.from in
    let start : at ≡ (T m base).from = ap (λ (z : Span). z.from) c.span-span.ensures in
    let ready = subst (λ (e : tree.Exp g.row.A.Denot). ExpReady T F h role path base e) (ap (expr_kind m) c.in-Call.is ∙ expr_kind-Call_to _ m c.in-Call.target c.in-Call.name c.in-Call.args) c.requires.ready in
    let same = c.deref-in-Call.ensures.value in
    let n = arm.call_needs T F h role path base m at start c.in-Call.target (word_of c.in-Call.name) c.deref-in-Call.result.now c.in-Call.args.items same ready in
    λ κs o. (falls_two (exp_size (expr_of c.args.of.now)) _ _ _ _ 5 t refl (ap (λ (x : List (Expr g.row.A.Denot)). exps_size (exprs_of x)) same) (ap exp_size (ap (expr_kind m) c.in-Call.is ∙ expr_kind-Call_to _ m c.in-Call.target c.in-Call.name c.in-Call.args)) c.decreases (omega arith), (o, (c.requires.known, (n.0, (n.1.0, (n.1.1.0, n.1.1.1))))))

pub expr-super_call-requires : goal.expr-super_call-requires
unfolding exp_size exps_size target_size expr_kind expr_row held_target
expr-super_call-requires g t c =
    let T = g.A.Mark.span_from in
    let F = g.A.Mark.fits_at in
    let h = c.args.here.now in
    let role = role_of c.args.role in
    let path = c.args.path.now.steps.items in
    let base = c.args.base in
    let m = c.args.of.now.mark in
    let at = c.span-span.result.from in
    let start : at ≡ (T m base).from = ap (λ (z : Span). z.from) c.span-span.ensures in
    let ready = subst (λ (e : tree.Exp g.row.A.Denot). ExpReady T F h role path base e) (ap (expr_kind m) c.in-SuperCall.is ∙ expr_kind-SuperCall _ m c.in-SuperCall.name c.in-SuperCall.args) c.requires.ready in
    let same = c.deref-in-SuperCall.ensures.value in
    let n = arm.super_call_needs T F h role path base m at start (word_of c.in-SuperCall.name) c.deref-in-SuperCall.result.now c.in-SuperCall.args.items same ready in
    λ κs o. (falls_one (exp_size (expr_of c.args.of.now)) _ _ 4 t (ap (λ (x : List (Expr g.row.A.Denot)). exps_size (exprs_of x)) same) (ap exp_size (ap (expr_kind m) c.in-SuperCall.is ∙ expr_kind-SuperCall _ m c.in-SuperCall.name c.in-SuperCall.args)) c.decreases (omega arith), (o, (c.requires.known, (n.0, (n.1.0, n.1.1)))))

pub expr-create-requires : goal.expr-create-requires
unfolding exp_size exps_size target_size expr_kind expr_row held_target
expr-create-requires g t c =
    let T = g.A.Mark.span_from in
    let F = g.A.Mark.fits_at in
    let h = c.args.here.now in
    let role = role_of c.args.role in
    let path = c.args.path.now.steps.items in
    let base = c.args.base in
    let m = c.args.of.now.mark in
    let at = c.span-span.result.from in
    let start : at ≡ (T m base).from = ap (λ (z : Span). z.from) c.span-span.ensures in
    let ready = subst (λ (e : tree.Exp g.row.A.Denot). ExpReady T F h role path base e) (ap (expr_kind m) c.in-New.is ∙ expr_kind-New _ m c.in-New.ty c.in-New.args) c.requires.ready in
    let same = c.deref-in-New.ensures.value in
    let n = arm.create_needs T F h role path base m at start (type_of c.in-New.ty.value) c.deref-in-New.result.now c.in-New.args.items same ready in
    λ κs o. (falls_one (exp_size (expr_of c.args.of.now)) _ _ 4 t (ap (λ (x : List (Expr g.row.A.Denot)). exps_size (exprs_of x)) same) (ap exp_size (ap (expr_kind m) c.in-New.is ∙ expr_kind-New _ m c.in-New.ty c.in-New.args)) c.decreases (omega arith), (o, (c.requires.known, (n.0, (n.1.0, (n.1.1.0, (n.1.1.1.0, n.1.1.1.1)))))))

pub expr-operand-requires : goal.expr-operand-requires
unfolding exp_size exps_size target_size expr_kind expr_row held_target
expr-operand-requires g t c =
    let T = g.A.Mark.span_from in
    let F = g.A.Mark.fits_at in
    let h = c.args.here.now in
    let role = role_of c.args.role in
    let path = c.args.path.now.steps.items in
    let base = c.args.base in
    let m = c.args.of.now.mark in
    let at = c.span-span.result.from in
    let start : at ≡ (T m base).from = ap (λ (z : Span). z.from) c.span-span.ensures in
    let ready = subst (λ (e : tree.Exp g.row.A.Denot). ExpReady T F h role path base e) (ap (expr_kind m) c.in-Paren.is) c.requires.ready in
    let same = c.deref-in-Paren.ensures in
    λ κs o. (falls_one (exp_size (expr_of c.args.of.now)) _ _ 2 t (ap (λ (x : Expr g.row.A.Denot). exp_size (expr_of x)) same) (ap exp_size (ap (expr_kind m) c.in-Paren.is)) c.decreases (omega arith), (o, (c.requires.known, arm.one_needs T F h role path base m at start _ c.deref-in-Paren.result.now c.in-Paren.part.value same (parted.in_paren T F h role path base m (expr_of c.in-Paren.part.value)) ready)))

pub expr-operand-requires-in-Unary : goal.expr-operand-requires-in-Unary
unfolding exp_size exps_size target_size expr_kind expr_row held_target
expr-operand-requires-in-Unary g t c =
    let T = g.A.Mark.span_from in
    let F = g.A.Mark.fits_at in
    let h = c.args.here.now in
    let role = role_of c.args.role in
    let path = c.args.path.now.steps.items in
    let base = c.args.base in
    let m = c.args.of.now.mark in
    let at = c.span-span.result.from in
    let start : at ≡ (T m base).from = ap (λ (z : Span). z.from) c.span-span.ensures in
    let ready = subst (λ (e : tree.Exp g.row.A.Denot). ExpReady T F h role path base e) (ap (expr_kind m) c.in-Unary.is) c.requires.ready in
    let same = c.deref-in-Unary.ensures in
    λ κs o. (falls_one (exp_size (expr_of c.args.of.now)) _ _ 2 t (ap (λ (x : Expr g.row.A.Denot). exp_size (expr_of x)) same) (ap exp_size (ap (expr_kind m) c.in-Unary.is)) c.decreases (omega arith), (o, (c.requires.known, arm.one_needs T F h role path base m at start _ c.deref-in-Unary.result.now c.in-Unary.part.value same (parted.in_unary T F h role path base m c.in-Unary.field-0 (expr_of c.in-Unary.part.value)) ready)))

pub expr-target-requires : goal.expr-target-requires
unfolding exp_size exps_size target_size expr_kind expr_row held_target
expr-target-requires g t c =
    let T = g.A.Mark.span_from in
    let F = g.A.Mark.fits_at in
    let h = c.args.here.now in
    let role = role_of c.args.role in
    let path = c.args.path.now.steps.items in
    let base = c.args.base in
    let m = c.args.of.now.mark in
    let at = c.span-span.result.from in
    let start : at ≡ (T m base).from = ap (λ (z : Span). z.from) c.span-span.ensures in
    let ready = subst (λ (e : tree.Exp g.row.A.Denot). ExpReady T F h role path base e) (ap (expr_kind m) c.in-Bump.is) c.requires.ready in
    let same = c.deref-in-Bump.ensures in
    λ κs o. (falls_one (exp_size (expr_of c.args.of.now)) _ _ 1 t (ap (λ (x : Expr g.row.A.Denot). exp_size (expr_of x)) same) (ap exp_size (ap (expr_kind m) c.in-Bump.is)) c.decreases (omega arith), (o, (c.requires.known, arm.one_needs T F h role path base m at start _ c.deref-in-Bump.result.now c.in-Bump.part.value same (parted.in_bump T F h role path base m c.in-Bump.field-0 (expr_of c.in-Bump.part.value)) ready)))

pub expr-cast-requires : goal.expr-cast-requires
unfolding exp_size exps_size target_size expr_kind expr_row held_target
expr-cast-requires g t c =
    let T = g.A.Mark.span_from in
    let F = g.A.Mark.fits_at in
    let h = c.args.here.now in
    let role = role_of c.args.role in
    let path = c.args.path.now.steps.items in
    let base = c.args.base in
    let m = c.args.of.now.mark in
    let at = c.span-span.result.from in
    let start : at ≡ (T m base).from = ap (λ (z : Span). z.from) c.span-span.ensures in
    let ready = subst (λ (e : tree.Exp g.row.A.Denot). ExpReady T F h role path base e) (ap (expr_kind m) c.in-Cast.is) c.requires.ready in
    let same = c.deref-in-Cast.ensures in
    let n = arm.cast_needs T F h role path base m at start (type_of c.in-Cast.ty.value) c.deref-in-Cast.result.now c.in-Cast.part.value same ready in
    λ κs o. (falls_one (exp_size (expr_of c.args.of.now)) _ _ 3 t (ap (λ (x : Expr g.row.A.Denot). exp_size (expr_of x)) same) (ap exp_size (ap (expr_kind m) c.in-Cast.is)) c.decreases (omega arith), (o, (c.requires.known, (n.0, (n.1.0, n.1.1)))))

pub expr-pair-requires : goal.expr-pair-requires
unfolding exp_size exps_size target_size expr_kind expr_row held_target
expr-pair-requires g t c =
    let T = g.A.Mark.span_from in
    let F = g.A.Mark.fits_at in
    let h = c.args.here.now in
    let role = role_of c.args.role in
    let path = c.args.path.now.steps.items in
    let base = c.args.base in
    let m = c.args.of.now.mark in
    let at = c.span-span.result.from in
    let start : at ≡ (T m base).from = ap (λ (z : Span). z.from) c.span-span.ensures in
    let ready = subst (λ (e : tree.Exp g.row.A.Denot). ExpReady T F h role path base e) (ap (expr_kind m) c.in-Binary.is) c.requires.ready in
    let one = c.deref-in-Binary.ensures in
    let other = c.deref-in-Binary-2.ensures in
    let n = arm.two_need T F h role path base m at start _ c.deref-in-Binary.result.now c.deref-in-Binary-2.result.now c.in-Binary.left.value c.in-Binary.right.value one other (parted.in_binary T F h role path base m c.in-Binary.op (expr_of c.in-Binary.left.value) (expr_of c.in-Binary.right.value)) ready in
    λ κs o. (falls_two (exp_size (expr_of c.args.of.now)) _ _ _ _ 3 t (ap (λ (x : Expr g.row.A.Denot). exp_size (expr_of x)) one) (ap (λ (x : Expr g.row.A.Denot). exp_size (expr_of x)) other) (ap exp_size (ap (expr_kind m) c.in-Binary.is)) c.decreases (omega arith), (o, (c.requires.known, (n.0, n.1))))

pub expr-assigned-requires : goal.expr-assigned-requires
unfolding exp_size exps_size target_size expr_kind expr_row held_target
expr-assigned-requires g t c =
    let T = g.A.Mark.span_from in
    let F = g.A.Mark.fits_at in
    let h = c.args.here.now in
    let role = role_of c.args.role in
    let path = c.args.path.now.steps.items in
    let base = c.args.base in
    let m = c.args.of.now.mark in
    let at = c.span-span.result.from in
    let start : at ≡ (T m base).from = ap (λ (z : Span). z.from) c.span-span.ensures in
    let ready = subst (λ (e : tree.Exp g.row.A.Denot). ExpReady T F h role path base e) (ap (expr_kind m) c.in-Assign.is) c.requires.ready in
    let one = c.deref-in-Assign.ensures in
    let other = c.deref-in-Assign-2.ensures in
    let n = arm.two_need T F h role path base m at start _ c.deref-in-Assign.result.now c.deref-in-Assign-2.result.now c.in-Assign.to.value c.in-Assign.value.value one other (parted.in_assign T F h role path base m (expr_of c.in-Assign.to.value) (expr_of c.in-Assign.value.value)) ready in
    λ κs o. (falls_two (exp_size (expr_of c.args.of.now)) _ _ _ _ 3 t (ap (λ (x : Expr g.row.A.Denot). exp_size (expr_of x)) one) (ap (λ (x : Expr g.row.A.Denot). exp_size (expr_of x)) other) (ap exp_size (ap (expr_kind m) c.in-Assign.is)) c.decreases (omega arith), (o, (c.requires.known, (n.0, n.1))))

pub expr-assigned-requires-in-Compound : goal.expr-assigned-requires-in-Compound
unfolding exp_size exps_size target_size expr_kind expr_row held_target
expr-assigned-requires-in-Compound g t c =
    let T = g.A.Mark.span_from in
    let F = g.A.Mark.fits_at in
    let h = c.args.here.now in
    let role = role_of c.args.role in
    let path = c.args.path.now.steps.items in
    let base = c.args.base in
    let m = c.args.of.now.mark in
    let at = c.span-span.result.from in
    let start : at ≡ (T m base).from = ap (λ (z : Span). z.from) c.span-span.ensures in
    let ready = subst (λ (e : tree.Exp g.row.A.Denot). ExpReady T F h role path base e) (ap (expr_kind m) c.in-Compound.is) c.requires.ready in
    let one = c.deref-in-Compound.ensures in
    let other = c.deref-in-Compound-2.ensures in
    let n = arm.two_need T F h role path base m at start _ c.deref-in-Compound.result.now c.deref-in-Compound-2.result.now c.in-Compound.to.value c.in-Compound.value.value one other (parted.in_compound T F h role path base m c.in-Compound.field-0 (expr_of c.in-Compound.to.value) (expr_of c.in-Compound.value.value)) ready in
    λ κs o. (falls_two (exp_size (expr_of c.args.of.now)) _ _ _ _ 3 t (ap (λ (x : Expr g.row.A.Denot). exp_size (expr_of x)) one) (ap (λ (x : Expr g.row.A.Denot). exp_size (expr_of x)) other) (ap exp_size (ap (expr_kind m) c.in-Compound.is)) c.decreases (omega arith), (o, (c.requires.known, (n.0, n.1))))

pub expr-span-span-requires : goal.expr-span-span-requires
unfolding expr_kind expr_row held_target
expr-span-span-requires g t c =
    own_fits (λ (k : g.row.A.Denot) (b : ℕ). (g.A.Mark.span_from k b).from) g.A.Mark.fits_at c.args.base c.args.of.now c.requires.ready.0

pub expr-returns-in-Int : goal.expr-returns-in-Int
unfolding expr_kind expr_row held_target
expr-returns-in-Int g t c =
    let T = g.A.Mark.span_from in
    let F = g.A.Mark.fits_at in
    let h = c.args.here.now in
    let role = role_of c.args.role in
    let path = c.args.path.now.steps.items in
    let base = c.args.base in
    let m = c.args.of.now.mark in
    let at = c.span-span.result.from in
    let start : at ≡ (T m base).from = ap (λ (z : Span). z.from) c.span-span.ensures in
    let old = gathered c.args.out.now in
    subst (λ (e : tree.Exp g.row.A.Denot). ExpGathers T h role base e old old) (sym (ap (expr_kind m) c.in-Int.is)) (gives.number_gives T h role base m c.in-Int.field-0 old)

pub expr-returns-in-Bool : goal.expr-returns-in-Bool
unfolding expr_kind expr_row held_target
expr-returns-in-Bool g t c =
    let T = g.A.Mark.span_from in
    let F = g.A.Mark.fits_at in
    let h = c.args.here.now in
    let role = role_of c.args.role in
    let path = c.args.path.now.steps.items in
    let base = c.args.base in
    let m = c.args.of.now.mark in
    let at = c.span-span.result.from in
    let start : at ≡ (T m base).from = ap (λ (z : Span). z.from) c.span-span.ensures in
    let old = gathered c.args.out.now in
    subst (λ (e : tree.Exp g.row.A.Denot). ExpGathers T h role base e old old) (sym (ap (expr_kind m) c.in-Bool.is)) (gives.truth_gives T h role base m c.in-Bool.field-0 old)

pub expr-returns-in-Null : goal.expr-returns-in-Null
unfolding expr_kind expr_row held_target
expr-returns-in-Null g t c =
    let T = g.A.Mark.span_from in
    let F = g.A.Mark.fits_at in
    let h = c.args.here.now in
    let role = role_of c.args.role in
    let path = c.args.path.now.steps.items in
    let base = c.args.base in
    let m = c.args.of.now.mark in
    let at = c.span-span.result.from in
    let start : at ≡ (T m base).from = ap (λ (z : Span). z.from) c.span-span.ensures in
    let old = gathered c.args.out.now in
    subst (λ (e : tree.Exp g.row.A.Denot). ExpGathers T h role base e old old) (sym (ap (expr_kind m) c.in-Null.is)) (gives.null_gives T h role base m old)

pub expr-returns-in-Text : goal.expr-returns-in-Text
unfolding expr_kind expr_row held_target
expr-returns-in-Text g t c =
    let T = g.A.Mark.span_from in
    let F = g.A.Mark.fits_at in
    let h = c.args.here.now in
    let role = role_of c.args.role in
    let path = c.args.path.now.steps.items in
    let base = c.args.base in
    let m = c.args.of.now.mark in
    let at = c.span-span.result.from in
    let start : at ≡ (T m base).from = ap (λ (z : Span). z.from) c.span-span.ensures in
    let old = gathered c.args.out.now in
    subst (λ (e : tree.Exp g.row.A.Denot). ExpGathers T h role base e old old) (sym (ap (expr_kind m) c.in-Text.is)) (gives.string_gives T h role base m c.in-Text.field-0 old)

pub expr-returns-in-This : goal.expr-returns-in-This
unfolding expr_kind expr_row held_target
expr-returns-in-This g t c =
    let T = g.A.Mark.span_from in
    let F = g.A.Mark.fits_at in
    let h = c.args.here.now in
    let role = role_of c.args.role in
    let path = c.args.path.now.steps.items in
    let base = c.args.base in
    let m = c.args.of.now.mark in
    let at = c.span-span.result.from in
    let start : at ≡ (T m base).from = ap (λ (z : Span). z.from) c.span-span.ensures in
    let old = gathered c.args.out.now in
    subst (λ (e : tree.Exp g.row.A.Denot). ExpGathers T h role base e old old) (sym (ap (expr_kind m) c.in-This.is)) (gives.this_gives T h role base m old)

pub expr-returns-in-ClassLit : goal.expr-returns-in-ClassLit
unfolding expr_kind expr_row held_target
expr-returns-in-ClassLit g t c =
    let T = g.A.Mark.span_from in
    let F = g.A.Mark.fits_at in
    let h = c.args.here.now in
    let role = role_of c.args.role in
    let path = c.args.path.now.steps.items in
    let base = c.args.base in
    let m = c.args.of.now.mark in
    let at = c.span-span.result.from in
    let start : at ≡ (T m base).from = ap (λ (z : Span). z.from) c.span-span.ensures in
    let old = gathered c.args.out.now in
    let new = gathered c.written_type.new.out in
    IfOk-weaker c.written_type.result _ _ (λ _ x. subst (λ (e : tree.Exp g.row.A.Denot). ExpGathers T h role base e old new) (sym (ap (expr_kind m) c.in-ClassLit.is)) (arm.literal_returns T F h role path base m at start (type_of c.in-ClassLit.ty) old new x)) c.written_type.ensures

pub expr-returns-in-Simple : goal.expr-returns-in-Simple
unfolding expr_kind expr_row held_target
expr-returns-in-Simple g t c =
    let T = g.A.Mark.span_from in
    let F = g.A.Mark.fits_at in
    let h = c.args.here.now in
    let role = role_of c.args.role in
    let path = c.args.path.now.steps.items in
    let base = c.args.base in
    let m = c.args.of.now.mark in
    let at = c.span-span.result.from in
    let start : at ≡ (T m base).from = ap (λ (z : Span). z.from) c.span-span.ensures in
    let old = gathered c.args.out.now in
    let new = gathered c.simple.new.out in
    IfOk-weaker c.simple.result _ _ (λ _ x. subst (λ (e : tree.Exp g.row.A.Denot). ExpGathers T h role base e old new) (sym (ap (expr_kind m) c.in-Simple.is)) (arm.name_returns T F h role path base m at start (word_of c.in-Simple.name) old new x)) c.simple.ensures

pub expr-returns-in-Field : goal.expr-returns-in-Field
unfolding expr_kind expr_row held_target
expr-returns-in-Field g t c =
    let T = g.A.Mark.span_from in
    let F = g.A.Mark.fits_at in
    let h = c.args.here.now in
    let role = role_of c.args.role in
    let path = c.args.path.now.steps.items in
    let base = c.args.base in
    let m = c.args.of.now.mark in
    let at = c.span-span.result.from in
    let start : at ≡ (T m base).from = ap (λ (z : Span). z.from) c.span-span.ensures in
    let old = gathered c.args.out.now in
    let new = gathered c.field.new.out in
    IfOk-weaker c.field.result _ _ (λ _ x. subst (λ (e : tree.Exp g.row.A.Denot). ExpGathers T h role base e old new) (sym (ap (expr_kind m) c.in-Field.is)) (arm.field_returns T F h role path base m at start c.deref.result.now c.in-Field.part.value (word_of c.in-Field.name) old new c.deref.ensures x)) c.field.ensures

pub expr-returns-in-SuperField : goal.expr-returns-in-SuperField
unfolding expr_kind expr_row held_target
expr-returns-in-SuperField g t c =
    let T = g.A.Mark.span_from in
    let F = g.A.Mark.fits_at in
    let h = c.args.here.now in
    let role = role_of c.args.role in
    let path = c.args.path.now.steps.items in
    let base = c.args.base in
    let m = c.args.of.now.mark in
    let at = c.span-span.result.from in
    let start : at ≡ (T m base).from = ap (λ (z : Span). z.from) c.span-span.ensures in
    let old = gathered c.args.out.now in
    let new = gathered c.on_super.new.out in
    IfOk-weaker c.on_super.result _ _ (λ _ x. subst (λ (e : tree.Exp g.row.A.Denot). ExpGathers T h role base e old new) (sym (ap (expr_kind m) c.in-SuperField.is)) (arm.super_returns T F h role path base m at start c.span-span.result c.span-span.ensures (word_of c.in-SuperField.name) old new x)) c.on_super.ensures

pub expr-returns-in-Call : goal.expr-returns-in-Call
unfolding expr_kind expr_row held_target
expr-returns-in-Call g t c =
    let T = g.A.Mark.span_from in
    let F = g.A.Mark.fits_at in
    let h = c.args.here.now in
    let role = role_of c.args.role in
    let path = c.args.path.now.steps.items in
    let base = c.args.base in
    let m = c.args.of.now.mark in
    let at = c.span-span.result.from in
    let start : at ≡ (T m base).from = ap (λ (z : Span). z.from) c.span-span.ensures in
    let old = gathered c.args.out.now in
    let new = gathered c.call.new.out in
    IfOk-weaker c.call.result _ _ (λ _ x. subst (λ (e : tree.Exp g.row.A.Denot). ExpGathers T h role base e old new) (sym (ap (expr_kind m) c.in-Call.is ∙ expr_kind-Call_to _ m c.in-Call.target c.in-Call.name c.in-Call.args)) (arm.call_returns T F h role path base m at start (target_of c.in-Call.target) (word_of c.in-Call.name) c.deref-in-Call.result.now c.in-Call.args.items old new c.deref-in-Call.ensures.value x)) c.call.ensures

pub expr-returns-in-SuperCall : goal.expr-returns-in-SuperCall
unfolding expr_kind expr_row held_target
expr-returns-in-SuperCall g t c =
    let T = g.A.Mark.span_from in
    let F = g.A.Mark.fits_at in
    let h = c.args.here.now in
    let role = role_of c.args.role in
    let path = c.args.path.now.steps.items in
    let base = c.args.base in
    let m = c.args.of.now.mark in
    let at = c.span-span.result.from in
    let start : at ≡ (T m base).from = ap (λ (z : Span). z.from) c.span-span.ensures in
    let old = gathered c.args.out.now in
    let new = gathered c.super_call.new.out in
    IfOk-weaker c.super_call.result _ _ (λ _ x. subst (λ (e : tree.Exp g.row.A.Denot). ExpGathers T h role base e old new) (sym (ap (expr_kind m) c.in-SuperCall.is ∙ expr_kind-SuperCall _ m c.in-SuperCall.name c.in-SuperCall.args)) (arm.super_call_returns T F h role path base m at start (word_of c.in-SuperCall.name) c.deref-in-SuperCall.result.now c.in-SuperCall.args.items old new c.deref-in-SuperCall.ensures.value x)) c.super_call.ensures

pub expr-returns-in-New : goal.expr-returns-in-New
unfolding expr_kind expr_row held_target
expr-returns-in-New g t c =
    let T = g.A.Mark.span_from in
    let F = g.A.Mark.fits_at in
    let h = c.args.here.now in
    let role = role_of c.args.role in
    let path = c.args.path.now.steps.items in
    let base = c.args.base in
    let m = c.args.of.now.mark in
    let at = c.span-span.result.from in
    let start : at ≡ (T m base).from = ap (λ (z : Span). z.from) c.span-span.ensures in
    let old = gathered c.args.out.now in
    let new = gathered c.create.new.out in
    IfOk-weaker c.create.result _ _ (λ _ x. subst (λ (e : tree.Exp g.row.A.Denot). ExpGathers T h role base e old new) (sym (ap (expr_kind m) c.in-New.is ∙ expr_kind-New _ m c.in-New.ty c.in-New.args)) (arm.create_returns T F h role path base m at start (type_of c.in-New.ty.value) c.deref-in-New.result.now c.in-New.args.items old new c.deref-in-New.ensures.value x)) c.create.ensures

pub expr-returns-in-Cast : goal.expr-returns-in-Cast
unfolding expr_kind expr_row held_target
expr-returns-in-Cast g t c =
    let T = g.A.Mark.span_from in
    let F = g.A.Mark.fits_at in
    let h = c.args.here.now in
    let role = role_of c.args.role in
    let path = c.args.path.now.steps.items in
    let base = c.args.base in
    let m = c.args.of.now.mark in
    let at = c.span-span.result.from in
    let start : at ≡ (T m base).from = ap (λ (z : Span). z.from) c.span-span.ensures in
    let old = gathered c.args.out.now in
    let new = gathered c.cast.new.out in
    IfOk-weaker c.cast.result _ _ (λ _ x. subst (λ (e : tree.Exp g.row.A.Denot). ExpGathers T h role base e old new) (sym (ap (expr_kind m) c.in-Cast.is)) (arm.cast_returns T F h role path base m at start (type_of c.in-Cast.ty.value) c.deref-in-Cast.result.now c.in-Cast.part.value old new c.deref-in-Cast.ensures x)) c.cast.ensures

pub expr-returns-in-Paren : goal.expr-returns-in-Paren
unfolding expr_kind expr_row held_target
expr-returns-in-Paren g t c =
    let T = g.A.Mark.span_from in
    let F = g.A.Mark.fits_at in
    let h = c.args.here.now in
    let role = role_of c.args.role in
    let path = c.args.path.now.steps.items in
    let base = c.args.base in
    let m = c.args.of.now.mark in
    let at = c.span-span.result.from in
    let start : at ≡ (T m base).from = ap (λ (z : Span). z.from) c.span-span.ensures in
    let old = gathered c.args.out.now in
    let new = gathered c.operand.new.out in
    IfOk-weaker c.operand.result _ _ (λ _ x. subst (λ (e : tree.Exp g.row.A.Denot). ExpGathers T h role base e old new) (sym (ap (expr_kind m) c.in-Paren.is)) (arm.one_returns T F h role path base m at start (level 0) _ c.deref-in-Paren.result.now c.in-Paren.part.value old new c.deref-in-Paren.ensures (gives.paren_gives T h role base m (expr_of c.in-Paren.part.value) old new) x)) c.operand.ensures

pub expr-returns-in-Unary : goal.expr-returns-in-Unary
unfolding expr_kind expr_row held_target
expr-returns-in-Unary g t c =
    let T = g.A.Mark.span_from in
    let F = g.A.Mark.fits_at in
    let h = c.args.here.now in
    let role = role_of c.args.role in
    let path = c.args.path.now.steps.items in
    let base = c.args.base in
    let m = c.args.of.now.mark in
    let at = c.span-span.result.from in
    let start : at ≡ (T m base).from = ap (λ (z : Span). z.from) c.span-span.ensures in
    let old = gathered c.args.out.now in
    let new = gathered c.operand-in-Unary.new.out in
    IfOk-weaker c.operand-in-Unary.result _ _ (λ _ x. subst (λ (e : tree.Exp g.row.A.Denot). ExpGathers T h role base e old new) (sym (ap (expr_kind m) c.in-Unary.is)) (arm.one_returns T F h role path base m at start (level sign_level) _ c.deref-in-Unary.result.now c.in-Unary.part.value old new c.deref-in-Unary.ensures (gives.unary_gives T h role base m c.in-Unary.field-0 (expr_of c.in-Unary.part.value) old new) x)) c.operand-in-Unary.ensures

pub expr-returns-in-Bump : goal.expr-returns-in-Bump
unfolding expr_kind expr_row held_target
expr-returns-in-Bump g t c =
    let T = g.A.Mark.span_from in
    let F = g.A.Mark.fits_at in
    let h = c.args.here.now in
    let role = role_of c.args.role in
    let path = c.args.path.now.steps.items in
    let base = c.args.base in
    let m = c.args.of.now.mark in
    let at = c.span-span.result.from in
    let start : at ≡ (T m base).from = ap (λ (z : Span). z.from) c.span-span.ensures in
    let old = gathered c.args.out.now in
    let new = gathered c.target.new.out in
    IfOk-weaker c.target.result _ _ (λ _ x. subst (λ (e : tree.Exp g.row.A.Denot). ExpGathers T h role base e old new) (sym (ap (expr_kind m) c.in-Bump.is)) (arm.one_returns T F h role path base m at start a_target _ c.deref-in-Bump.result.now c.in-Bump.part.value old new c.deref-in-Bump.ensures (gives.bump_gives T h role base m c.in-Bump.field-0 (expr_of c.in-Bump.part.value) old new) x)) c.target.ensures

pub expr-returns-in-Binary : goal.expr-returns-in-Binary
unfolding expr_kind expr_row held_target
expr-returns-in-Binary g t c =
    let T = g.A.Mark.span_from in
    let F = g.A.Mark.fits_at in
    let h = c.args.here.now in
    let role = role_of c.args.role in
    let path = c.args.path.now.steps.items in
    let base = c.args.base in
    let m = c.args.of.now.mark in
    let at = c.span-span.result.from in
    let start : at ≡ (T m base).from = ap (λ (z : Span). z.from) c.span-span.ensures in
    let old = gathered c.args.out.now in
    let new = gathered c.pair.new.out in
    IfOk-weaker c.pair.result _ _ (λ _ x. subst (λ (e : tree.Exp g.row.A.Denot). ExpGathers T h role base e old new) (sym (ap (expr_kind m) c.in-Binary.is)) (arm.two_return T F h role path base m at start (level (rank_of c.in-Binary.op)) (level (suc (rank_of c.in-Binary.op))) _ c.deref-in-Binary.result.now c.deref-in-Binary-2.result.now c.in-Binary.left.value c.in-Binary.right.value old new c.deref-in-Binary.ensures c.deref-in-Binary-2.ensures (gives.binary_gives T h role base m c.in-Binary.op (expr_of c.in-Binary.left.value) (expr_of c.in-Binary.right.value) old new) x)) c.pair.ensures

pub expr-returns-in-Assign : goal.expr-returns-in-Assign
unfolding expr_kind expr_row held_target
expr-returns-in-Assign g t c =
    let T = g.A.Mark.span_from in
    let F = g.A.Mark.fits_at in
    let h = c.args.here.now in
    let role = role_of c.args.role in
    let path = c.args.path.now.steps.items in
    let base = c.args.base in
    let m = c.args.of.now.mark in
    let at = c.span-span.result.from in
    let start : at ≡ (T m base).from = ap (λ (z : Span). z.from) c.span-span.ensures in
    let old = gathered c.args.out.now in
    let new = gathered c.assigned.new.out in
    IfOk-weaker c.assigned.result _ _ (λ _ x. subst (λ (e : tree.Exp g.row.A.Denot). ExpGathers T h role base e old new) (sym (ap (expr_kind m) c.in-Assign.is)) (arm.two_return T F h role path base m at start a_target (level 0) _ c.deref-in-Assign.result.now c.deref-in-Assign-2.result.now c.in-Assign.to.value c.in-Assign.value.value old new c.deref-in-Assign.ensures c.deref-in-Assign-2.ensures (gives.assign_gives T h role base m (expr_of c.in-Assign.to.value) (expr_of c.in-Assign.value.value) old new) x)) c.assigned.ensures

pub expr-returns-in-Compound : goal.expr-returns-in-Compound
unfolding expr_kind expr_row held_target
expr-returns-in-Compound g t c =
    let T = g.A.Mark.span_from in
    let F = g.A.Mark.fits_at in
    let h = c.args.here.now in
    let role = role_of c.args.role in
    let path = c.args.path.now.steps.items in
    let base = c.args.base in
    let m = c.args.of.now.mark in
    let at = c.span-span.result.from in
    let start : at ≡ (T m base).from = ap (λ (z : Span). z.from) c.span-span.ensures in
    let old = gathered c.args.out.now in
    let new = gathered c.assigned-in-Compound.new.out in
    IfOk-weaker c.assigned-in-Compound.result _ _ (λ _ x. subst (λ (e : tree.Exp g.row.A.Denot). ExpGathers T h role base e old new) (sym (ap (expr_kind m) c.in-Compound.is)) (arm.two_return T F h role path base m at start a_target (level 0) _ c.deref-in-Compound.result.now c.deref-in-Compound-2.result.now c.in-Compound.to.value c.in-Compound.value.value old new c.deref-in-Compound.ensures c.deref-in-Compound-2.ensures (gives.compound_gives T h role base m c.in-Compound.field-0 (expr_of c.in-Compound.to.value) (expr_of c.in-Compound.value.value) old new) x)) c.assigned-in-Compound.ensures

pub operand-asked-requires : goal.operand-asked-requires
operand-asked-requires g t c =
    λ κs o. (omega (arith, c.decreases), (o, (c.requires.known, subst (λ (q : List ℕ). ExpReady g.A.Mark.span_from g.A.Mark.fits_at c.args.here.now value q c.args.at (expr_of c.args.part.now)) (sym c.in_ok-inner.ensures) c.requires.ready)))

pub pair-operand-requires : goal.pair-operand-requires
pair-operand-requires g t c =
    λ κs o. (omega (arith, c.decreases), (o, (c.requires.known, c.requires.ready_left)))

pub pair-operand-requires-2 : goal.pair-operand-requires-2
pair-operand-requires-2 g t c =
    λ κs o. (omega (arith, c.decreases), (o, (c.requires.known, c.requires.ready_right)))

pub pair-returns : goal.pair-returns
pair-returns g t c =
    let T = g.A.Mark.span_from in
    let h = c.args.here.now in
    let at = c.args.at in
    let first = gathered c.operand.new.out in
    let is = c.rank-least.ensures.is in
    IfOk-weaker c.operand-2.result _ _ (λ _ x. (
      first,
      subst (λ (n : ℕ). PartGathers T h (level n) value at (expr_of c.args.left.now) (gathered c.args.out.now) first) is c.in_ok-operand.ensures,
      subst (λ (n : ℕ). PartGathers T h (level n) value at (expr_of c.args.right.now) first (gathered c.operand-2.new.out)) (ap (λ (n : ℕ). n + 1) is ∙ add-one (rank_of c.args.op)) x,
    )) c.operand-2.ensures

pub asked-span-requires : goal.asked-span-requires
asked-span-requires g t c =
    own_fits (λ (k : g.row.A.Denot) (b : ℕ). (g.A.Mark.span_from k b).from) g.A.Mark.fits_at c.args.base c.args.of.now c.requires.ready.0

pub asked-expr-requires : goal.asked-expr-requires
asked-expr-requires g t c = λ κs o. (omega (arith, c.decreases), (o, (c.requires.known, c.requires.ready)))

pub asked-returns-in-None : goal.asked-returns-in-None
asked-returns-in-None g t c =
    let T = g.A.Mark.span_from in
    let h = c.args.here.now in
    let e = c.args.of.now in
    let none = ap (λ (s : Span). part_at s (spotting_of h.spots)) (sym (span_is T e c.args.base c.span.result c.span.ensures)) ∙ sym c.in-None.ensures in
    IfOk-weaker c.expr.result _ _ (λ _ x. gives.node_gives T h (level c.args.least) (role_of c.args.role) c.args.base (expr_of e) (gathered c.args.out.now) (gathered c.expr.new.out) none x) c.expr.ensures

pub asked-returns-in-Some : goal.asked-returns-in-Some
asked-returns-in-Some g t c =
    let T = g.A.Mark.span_from in
    let h = c.args.here.now in
    let e = c.args.of.now in
    let p = part_of c.in-Some.spot.now in
    let some = ap (λ (s : Span). part_at s (spotting_of h.spots)) (sym (span_is T e c.args.base c.span.result c.span.ensures)) ∙ sym c.in-Some.ensures in
    on_ok c.put_part.result (λ is. gives.spot_gives T h (role_of c.args.role) c.args.base (expr_of e) p c.args.least (gathered c.args.out.now) (gathered c.put_part.new.out) some is) c.put_part.ensures

pub target-expr-requires : goal.target-expr-requires
target-expr-requires g t c =
    λ κs o. (omega (arith, c.decreases), (o, (c.requires.known, subst (λ (q : List ℕ). ExpReady g.A.Mark.span_from g.A.Mark.fits_at c.args.here.now value q c.args.at (expr_of c.args.of.now)) (sym c.in_ok-inner.ensures) c.requires.ready)))

pub target-returns : goal.target-returns
target-returns g t c =
    IfOk-weaker c.expr.result _ _ (λ _ x. gives.node_gives g.A.Mark.span_from c.args.here.now a_target value c.args.at (expr_of c.args.of.now) (gathered c.args.out.now) (gathered c.expr.new.out) tt x) c.expr.ensures

pub assigned-target-requires : goal.assigned-target-requires
assigned-target-requires g t c =
    λ κs o. (omega (arith, c.decreases), (o, (c.requires.known, c.requires.ready_to)))

pub assigned-operand-requires : goal.assigned-operand-requires
assigned-operand-requires g t c =
    λ κs o. (omega (arith, c.decreases), (o, (c.requires.known, c.requires.ready_value)))

pub assigned-returns : goal.assigned-returns
assigned-returns g t c =
    IfOk-weaker c.operand.result _ _ (λ _ x. (gathered c.target.new.out, c.in_ok-target.ensures, x)) c.operand.ensures

pub cast-operand-requires : goal.cast-operand-requires
cast-operand-requires g t c =
    λ κs o. (omega (arith, c.decreases), (o, (c.requires.known, c.requires.ready)))

pub cast-returns : goal.cast-returns
cast-returns g t c =
    IfOk-weaker c.operand.result _ _ (λ _ x. (gathered c.boxed_type.new.out, c.in_ok-boxed_type.ensures, x)) c.operand.ensures

pub operand_and_word-span-operand-requires : goal.operand_and_word-span-operand-requires
operand_and_word-span-operand-requires g t c =
    own_fits (λ (k : g.row.A.Denot) (b : ℕ). (g.A.Mark.span_from k b).from) g.A.Mark.fits_at c.args.at c.args.part.now c.requires.ready.0

pub operand_and_word-asked-requires : goal.operand_and_word-asked-requires
operand_and_word-asked-requires g t c =
    λ κs o. (omega (arith, c.decreases), (o, (c.requires.known, c.requires.ready)))

pub operand_and_word-returns : goal.operand_and_word-returns
operand_and_word-returns g t c =
    on_ok c.put_end.result (λ ends. step.dotted_goes g.A.Mark.span_from c.args.here.now (choice_of c.args.choice) c.args.at c.args.word c.args.part.now c.span-operand.result c.start_of-from.result
    (gathered c.args.out.now) (gathered c.put_front.new.out) (gathered c.asked.new.out) (gathered c.put_end.new.out) c.span-operand.ensures c.in_ok-put_front.ensures c.start_of-from.ensures (subst (λ (k : Asks). PartGathers g.A.Mark.span_from c.args.here.now k left c.args.at (expr_of c.args.part.now) (gathered c.put_front.new.out) (gathered c.asked.new.out)) c.asked_by-least.ensures c.in_ok-asked.ensures) ends) c.put_end.ensures

pub field-dotted_choice-requires-clause-ready : goal.field-dotted_choice-requires-clause-ready
field-dotted_choice-requires-clause-ready g t c =
    subst (λ (q : List ℕ). ExpReady g.A.Mark.span_from g.A.Mark.fits_at c.args.here.now left q c.args.at (expr_of c.args.part.now)) (sym c.in_ok-inner.ensures) c.requires.ready

pub field-operand_and_word-requires : goal.field-operand_and_word-requires
field-operand_and_word-requires g t c =
    λ κs o. (omega (arith, c.decreases), (o, (c.requires.known, subst (λ (q : List ℕ). ExpReady g.A.Mark.span_from g.A.Mark.fits_at c.args.here.now left q c.args.at (expr_of c.args.part.now)) (sym c.in_ok-inner.ensures) c.requires.ready)))

pub field-returns : goal.field-returns
field-returns g t c =
    let T = g.A.Mark.span_from in
    let B = λ (k : g.row.A.Denot) (b : ℕ). (T k b).from in
    let h = c.args.here.now in
    let w = word_of c.args.name.now in
    let ch = choice_of c.in_ok-choice.choice in
    IfOk-weaker c.operand_and_word.result _ _ (λ _ x. (
      ch,
      subst (λ (k : ℕ). DottedSpells B (rows_of h) (mapping_of h) (context_of h) (role_of c.args.role) k (expr_of c.args.part.now) w.text ch) (ap (λ (z : Span). z.from) c.span-word.ensures) c.in_ok-choice.ensures,
      subst (λ (s : Span). DottedGathers T h ch c.args.at s (expr_of c.args.part.now) (gathered c.args.out.now) (gathered c.operand_and_word.new.out)) c.span-word.ensures x,
    )) c.operand_and_word.ensures

pub call_on-call_choice-requires-clause-ready : goal.call_on-call_choice-requires-clause-ready
call_on-call_choice-requires-clause-ready g t c =
    subst (λ (q : List ℕ). ExpReady g.A.Mark.span_from g.A.Mark.fits_at c.args.here.now left q c.args.at (expr_of c.args.part.now)) (sym c.in_ok-inner.ensures) c.requires.ready

pub call_on-operand_and_word-requires : goal.call_on-operand_and_word-requires
call_on-operand_and_word-requires g t c =
    λ κs o. (omega (arith, c.decreases), (o, (c.requires.known, subst (λ (q : List ℕ). ExpReady g.A.Mark.span_from g.A.Mark.fits_at c.args.here.now left q c.args.at (expr_of c.args.part.now)) (sym c.in_ok-inner.ensures) c.requires.ready)))

pub call_on-returns : goal.call_on-returns
call_on-returns g t c =
    let T = g.A.Mark.span_from in
    let B = λ (k : g.row.A.Denot) (b : ℕ). (T k b).from in
    let h = c.args.here.now in
    let w = word_of c.args.name.now in
    let ch = choice_of c.in_ok-choice.choice in
    IfOk-weaker c.operand_and_word.result _ _ (λ _ x. (
      ch,
      subst (λ (k : ℕ). spells.CallSpells B (rows_of h) (mapping_of h) (context_of h) k (expr_of c.args.part.now) w.text (exprs_of c.args.args.now) ch) (ap (λ (z : Span). z.from) c.span-word.ensures) c.in_ok-choice.ensures,
      subst (λ (s : Span). DottedGathers T h ch c.args.at s (expr_of c.args.part.now) (gathered c.args.out.now) (gathered c.operand_and_word.new.out)) c.span-word.ensures x,
    )) c.operand_and_word.ensures

pub target_word-call_word-requires : goal.target_word-call_word-requires
target_word-call_word-requires g t c =
    record { known = c.requires.known; fits = c.requires.fits; types = subst (λ (o : (Option (Box (Expr g.row.A.Denot) Global))). TypesRow c.args.here.now (context_of c.args.here.now) c.args.path.now.steps.items (first_of (target_of o)) (exprs_of c.args.args.now)) c.in-None.is c.requires.types; bound = subst (λ (o : (Option (Box (Expr g.row.A.Denot) Global))). CallIsBound (λ (k : g.row.A.Denot) (b : ℕ). (g.A.Mark.span_from k b).from) (rows_of c.args.here.now) (context_of c.args.here.now) (target_of o) c.args.name.now.name (exprs_of c.args.args.now)) c.in-None.is c.requires.bound }

pub target_word-call_on-requires : goal.target_word-call_on-requires
target_word-call_on-requires g t c =
    let same = c.deref.ensures in
    let r = subst (λ (o : (Option (Box (Expr g.row.A.Denot) Global))). TargetReady g.A.Mark.span_from g.A.Mark.fits_at c.args.here.now c.args.path.now.steps.items c.args.at (target_of o)) c.in-Some.is c.requires.ready in
    let u = subst (λ (o : (Option (Box (Expr g.row.A.Denot) Global))). TypesRow c.args.here.now (context_of c.args.here.now) c.args.path.now.steps.items (first_of (target_of o)) (exprs_of c.args.args.now)) c.in-Some.is c.requires.types in
    let b = subst (λ (o : (Option (Box (Expr g.row.A.Denot) Global))). CallIsBound (λ (k : g.row.A.Denot) (b : ℕ). (g.A.Mark.span_from k b).from) (rows_of c.args.here.now) (context_of c.args.here.now) (target_of o) c.args.name.now.name (exprs_of c.args.args.now)) c.in-Some.is c.requires.bound in
    let T = g.A.Mark.span_from in
    let F = g.A.Mark.fits_at in
    let h = c.args.here.now in
    let path = c.args.path.now.steps.items in
    λ κs o. (
      falls_target c.args.target.now c.in-Some.part c.deref.result.now t c.in-Some.is same c.decreases,
      (
        o,
        (
          c.requires.known,
          (
            subst (λ (x : Expr g.row.A.Denot). ExpReady T F h left (path ++ 0 ∷ []) c.args.at (expr_of x)) (sym same) (parted.in_target T F h path c.args.at (expr_of c.in-Some.part.value) r),
            (
              c.requires.fits,
              (
                u,
                subst (λ (x : Expr g.row.A.Denot). CallIsBound (λ (k : g.row.A.Denot) (n : ℕ). (T k n).from) (rows_of h) (context_of h) (tree.on (expr_of x)) c.args.name.now.name (exprs_of c.args.args.now)) (sym same) b,
              ),
            ),
          ),
        ),
      ),
    )

pub target_word-returns-in-None : goal.target_word-returns-in-None
target_word-returns-in-None g t c =
    let T = g.A.Mark.span_from in
    IfOk-weaker c.call_word.result _ _ (λ _ x. subst (λ (o : (Option (Box (Expr g.row.A.Denot) Global))). TargetGathers T c.args.here.now c.args.at (target_of o) (word_of c.args.name.now) (exprs_of c.args.args.now) (gathered c.args.out.now) (gathered c.call_word.new.out)) (sym c.in-None.is) (x)) c.call_word.ensures

pub target_word-returns-in-Some : goal.target_word-returns-in-Some
target_word-returns-in-Some g t c =
    let T = g.A.Mark.span_from in
    IfOk-weaker c.call_on.result _ _ (λ _ x. subst (λ (o : (Option (Box (Expr g.row.A.Denot) Global))). TargetGathers T c.args.here.now c.args.at (target_of o) (word_of c.args.name.now) (exprs_of c.args.args.now) (gathered c.args.out.now) (gathered c.call_on.new.out)) (sym c.in-Some.is) (subst (λ (y : Expr g.row.A.Denot). CallOnGathers T c.args.here.now c.args.at (expr_of y) (word_of c.args.name.now) (exprs_of c.args.args.now) (gathered c.args.out.now) (gathered c.call_on.new.out)) c.deref.ensures x)) c.call_on.ensures

pub call-target_word-requires : goal.call-target_word-requires
call-target_word-requires g t c =
    λ κs o. (omega (arith, c.decreases), (o, (c.requires.known, (c.requires.ready, (c.requires.fits, (c.requires.ready_args.3, c.requires.bound))))))

pub call-exprs-requires : goal.call-exprs-requires
call-exprs-requires g t c =
    λ κs o. (omega (arith, c.decreases), (o, (c.requires.known, subst (λ (n : ℕ). RowReady g.A.Mark.span_from g.A.Mark.fits_at c.args.here.now c.args.path.now.steps.items n c.args.at (exprs_of c.args.args.now)) (sym c.first_argument.ensures) c.requires.ready_args)))

pub call-returns : goal.call-returns
call-returns g t c =
    IfOk-weaker c.exprs.result _ _ (λ _ x. (gathered c.target_word.new.out, c.in_ok-target_word.ensures, x)) c.exprs.ensures

pub super_call-called_on_super-requires : goal.super_call-called_on_super-requires
super_call-called_on_super-requires g t c =
    record { known = c.requires.known; fits = c.requires.fits; types = c.requires.ready.3; bound = c.requires.bound }

pub super_call-exprs-requires : goal.super_call-exprs-requires
super_call-exprs-requires g t c =
    λ κs o. (omega (arith, c.decreases), (o, (c.requires.known, c.requires.ready)))

pub super_call-returns : goal.super_call-returns
super_call-returns g t c =
    IfOk-weaker c.exprs.result _ _ (λ _ x. (gathered c.called_on_super.new.out, c.in_ok-called_on_super.ensures, x)) c.exprs.ensures

pub create-boxed_creation_words-requires : goal.create-boxed_creation_words-requires
create-boxed_creation_words-requires g t c =
    record { known = c.requires.known; fits = c.requires.fits; created = c.requires.created; types = c.requires.ready.3; type_bound = c.requires.type_bound; bound = c.requires.bound }

pub create-exprs-requires : goal.create-exprs-requires
create-exprs-requires g t c =
    λ κs o. (omega (arith, c.decreases), (o, (c.requires.known, c.requires.ready)))

pub create-returns : goal.create-returns
create-returns g t c =
    IfOk-weaker c.exprs.result _ _ (λ _ x. (gathered c.boxed_creation_words.new.out, c.in_ok-boxed_creation_words.ensures, x)) c.exprs.ensures

pub exprs-operand-requires : goal.exprs-operand-requires
exprs-operand-requires g t c =
    let i = c.loop-part.part-index in
    let x = c.part-item.result in
    λ κs o. (step.falls_item c.args.parts.now i x t c.loop-part-test.true c.part-item.is c.decreases, (o, (c.requires.known, (step.item_ready g.A.Mark.span_from g.A.Mark.fits_at c.args.here.now c.args.path.now.steps.items c.args.at c.args.parts.now c.loop-part.step i x c.loop-part-test.true c.part-item.is c.loop-part.invariant.ready).0)))

pub exprs-loop-part-init : goal.exprs-loop-part-init
exprs-loop-part-init g t c =
    record { ready = c.requires.ready; gives = λ new x. x }

pub exprs-loop-part-preserved : goal.exprs-loop-part-preserved
exprs-loop-part-preserved g t c =
    let i = c.loop-part.part-index in
    let x = c.part-item.result in
    record {
      ready = subst (λ (n : ℕ). RowReady g.A.Mark.span_from g.A.Mark.fits_at c.args.here.now c.args.path.now.steps.items n c.args.at (exprs_of (drop (i + 1) c.args.parts.now))) (sym c.in_ok-step.ensures) ((step.item_ready g.A.Mark.span_from g.A.Mark.fits_at c.args.here.now c.args.path.now.steps.items c.args.at c.args.parts.now c.loop-part.step i x c.loop-part-test.true c.part-item.is c.loop-part.invariant.ready).1);
      gives = step.item_goes g.A.Mark.span_from g.A.Mark.fits_at c.args.here.now c.args.path.now.steps.items c.args.at c.args.parts.now i x c.loop-part-test.true c.part-item.is (gathered c.args.out.now) (gathered c.loop-part.out) (gathered c.operand.new.out) c.loop-part.invariant.gives c.in_ok-operand.ensures;
    }

pub exprs-returns : goal.exprs-returns
exprs-returns g t c =
    step.row_done g.A.Mark.span_from g.A.Mark.fits_at c.args.here.now c.args.path.now.steps.items c.args.at c.args.parts.now c.loop-part.part-index c.loop-part-test.false (gathered c.args.out.now) (gathered c.loop-part.out) c.loop-part.invariant.gives
