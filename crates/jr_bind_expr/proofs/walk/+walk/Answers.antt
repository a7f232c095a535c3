use Rattle.std.proofs.Common.{◌≡◌, ◌+◌, ◌++◌, ℕ, List, ap, sym, refl, subst, ◌∙◌, drop, map}
use Rattle.std.proofs.lemmas.Result.{IfOk-weaker}
use Rattle.std.proofs.lemmas.List.{drop_all, append-nil}
use Rattle.std.specs.Prelude.{option_map}
use Rattle.jr_text.specs.declared.spans.Span.{Span}
use Rattle.jr_ast.specs.Tree as tree
use Rattle.jr_ast.specs.declared.exprs.Expr.{Expr}
use Rattle.jr_ast.specs.View.{word_of, type_of, expr_of, exprs_of, target_of, expr_kind, expr_row, held_target}
use Rattle.jr_ast.proofs.Rows.{expr_kind-Call_to, expr_kind-SuperCall, expr_kind-New}
use Rattle.jr_ast.proofs.Sizes.{exp_size, exps_size, target_size, falls_left, falls_right, falls_whole_row, falls_item}
use Rattle.jr_table.specs.Entries.{kind_of}
use Rattle.jr_table.specs.Lookup.{shown}
use Rattle.jr_table.specs.Meanings.{types_of}
use Rattle.jr_table.specs.Meanings.{type_of as exp_type}
use Rattle.jr_table.specs.Binding.{value, left}
use Rattle.jr_table.specs.Notes.{Note, is_this}
use Rattle.jr_table.specs.Walks as walks
use Rattle.jr_expr_types.specs.Trees.{none, put, flats}
use Rattle.jr_expr_types.specs.TypedTrees.{leaf, exp_tree, exp_parts, target_parts, put_row}
use Rattle.jr_bind_expr.specs.Places.{context_of, member_of}
use Rattle.jr_bind_expr.specs.Fits.{FitsType, FitsExp, FitsTarget, FitsExps}
use Rattle.jr_bind_expr.specs.Logs.{notes_of, Adds}
use Rattle.jr_bind_expr.specs.ArgsView.{kinds_of, with_last, joined}
use Rattle.jr_bind_expr.specs.TypedSlots.{row_slots}
use Rattle.jr_bind_expr.specs.Means.{role_of, Means, TargetMeans}
use Rattle.jr_bind_expr.specs.Arms as arm
use Rattle.jr_bind_expr.specs.Numbered.{class_in}
use Rattle.jr_bind_expr.proofs.Adding.{adds_none, adds_then}
use Rattle.jr_bind_expr.proofs.Meant as meant
use Rattle.jr_bind_expr.proofs.Oks.{IfOk-both, IfOk-any}
use Rattle.jr_bind_expr.proofs.Noted as noted
use Rattle.jr_bind_expr.proofs.Steps.{own_fits, shown_fits, shown_fits_row, left_fits, left_notes, row_ends, left_kinds, kinds_end, none_joined, falls_more, held_falls, item_falls, own_falls}
use Rattle.jr_bind_expr.proofs.Rowing.{rowed}
use Rattle.jr_bind_expr.proofs.TypedParts.{start as start_of, add, add_same, close, within, add_row_same, next_slots}
use Rattle.jr_bind_expr.proofs.walk.+walk.Goals as goal

pub walk_parts-walk_expr-requires : goal.walk_parts-walk_expr-requires
unfolding exp_size exps_size target_size expr_kind expr_row held_target FitsExp FitsTarget FitsExps
walk_parts-walk_expr-requires g t c =
    let B = λ (m : g.row.A.Denot) (b : ℕ). (g.A.Mark.span_from m b).from in
    let F = g.A.Mark.fits_at in
    let base = c.args.base in
    let m = c.args.of.now.mark in
    let start : c.span-at.result.from ≡ B m base = ap (λ (z : Span). z.from) c.span-at.ensures in
    let f = subst (λ (e : tree.Exp g.row.A.Denot). FitsExp B F base e) (ap (expr_kind m) c.in-Field.is) c.requires.fits in
    λ κs o. (falls_whole_row (λ (x : Expr g.row.A.Denot). exp_size (expr_of x)) (exp_size (expr_of c.args.of.now)) c.in-Field.part.value c.deref.result.now t c.deref.ensures (ap exp_size (ap (expr_kind m) c.in-Field.is)) c.decreases, (o, (c.requires.knows, shown_fits B F _ _ _ _ start c.deref.ensures f.1)))

pub walk_parts-walk_expr-requires-in-Paren : goal.walk_parts-walk_expr-requires-in-Paren
unfolding exp_size exps_size target_size expr_kind expr_row held_target FitsExp FitsTarget FitsExps
walk_parts-walk_expr-requires-in-Paren g t c =
    let B = λ (m : g.row.A.Denot) (b : ℕ). (g.A.Mark.span_from m b).from in
    let F = g.A.Mark.fits_at in
    let base = c.args.base in
    let m = c.args.of.now.mark in
    let start : c.span-at.result.from ≡ B m base = ap (λ (z : Span). z.from) c.span-at.ensures in
    let f = subst (λ (e : tree.Exp g.row.A.Denot). FitsExp B F base e) (ap (expr_kind m) c.in-Paren.is) c.requires.fits in
    λ κs o. (falls_whole_row (λ (x : Expr g.row.A.Denot). exp_size (expr_of x)) (exp_size (expr_of c.args.of.now)) c.in-Paren.part.value c.deref-in-Paren.result.now t c.deref-in-Paren.ensures (ap exp_size (ap (expr_kind m) c.in-Paren.is)) c.decreases, (o, (c.requires.knows, shown_fits B F _ _ _ _ start c.deref-in-Paren.ensures f.1)))

pub walk_parts-walk_expr-requires-in-Unary : goal.walk_parts-walk_expr-requires-in-Unary
unfolding exp_size exps_size target_size expr_kind expr_row held_target FitsExp FitsTarget FitsExps
walk_parts-walk_expr-requires-in-Unary g t c =
    let B = λ (m : g.row.A.Denot) (b : ℕ). (g.A.Mark.span_from m b).from in
    let F = g.A.Mark.fits_at in
    let base = c.args.base in
    let m = c.args.of.now.mark in
    let start : c.span-at.result.from ≡ B m base = ap (λ (z : Span). z.from) c.span-at.ensures in
    let f = subst (λ (e : tree.Exp g.row.A.Denot). FitsExp B F base e) (ap (expr_kind m) c.in-Unary.is) c.requires.fits in
    λ κs o. (falls_whole_row (λ (x : Expr g.row.A.Denot). exp_size (expr_of x)) (exp_size (expr_of c.args.of.now)) c.in-Unary.part.value c.deref-in-Unary.result.now t c.deref-in-Unary.ensures (ap exp_size (ap (expr_kind m) c.in-Unary.is)) c.decreases, (o, (c.requires.knows, shown_fits B F _ _ _ _ start c.deref-in-Unary.ensures f.1)))

pub walk_parts-walk_expr-requires-in-Bump : goal.walk_parts-walk_expr-requires-in-Bump
unfolding exp_size exps_size target_size expr_kind expr_row held_target FitsExp FitsTarget FitsExps
walk_parts-walk_expr-requires-in-Bump g t c =
    let B = λ (m : g.row.A.Denot) (b : ℕ). (g.A.Mark.span_from m b).from in
    let F = g.A.Mark.fits_at in
    let base = c.args.base in
    let m = c.args.of.now.mark in
    let start : c.span-at.result.from ≡ B m base = ap (λ (z : Span). z.from) c.span-at.ensures in
    let f = subst (λ (e : tree.Exp g.row.A.Denot). FitsExp B F base e) (ap (expr_kind m) c.in-Bump.is) c.requires.fits in
    λ κs o. (falls_whole_row (λ (x : Expr g.row.A.Denot). exp_size (expr_of x)) (exp_size (expr_of c.args.of.now)) c.in-Bump.part.value c.deref-in-Bump.result.now t c.deref-in-Bump.ensures (ap exp_size (ap (expr_kind m) c.in-Bump.is)) c.decreases, (o, (c.requires.knows, shown_fits B F _ _ _ _ start c.deref-in-Bump.ensures f.1)))

pub walk_parts-walk_expr-requires-in-Cast : goal.walk_parts-walk_expr-requires-in-Cast
unfolding exp_size exps_size target_size expr_kind expr_row held_target FitsExp FitsTarget FitsExps
walk_parts-walk_expr-requires-in-Cast g t c =
    let B = λ (m : g.row.A.Denot) (b : ℕ). (g.A.Mark.span_from m b).from in
    let F = g.A.Mark.fits_at in
    let base = c.args.base in
    let m = c.args.of.now.mark in
    let start : c.span-at.result.from ≡ B m base = ap (λ (z : Span). z.from) c.span-at.ensures in
    let f = subst (λ (e : tree.Exp g.row.A.Denot). FitsExp B F base e) (ap (expr_kind m) c.in-Cast.is) c.requires.fits in
    λ κs o. (falls_whole_row (λ (x : Expr g.row.A.Denot). exp_size (expr_of x)) (exp_size (expr_of c.args.of.now)) c.in-Cast.part.value c.deref-in-Cast.result.now t c.deref-in-Cast.ensures (ap exp_size (ap (expr_kind m) c.in-Cast.is)) c.decreases, (o, (c.requires.knows, shown_fits B F _ _ _ _ start c.deref-in-Cast.ensures f.2)))

pub walk_parts-walk_expr-requires-in-Binary : goal.walk_parts-walk_expr-requires-in-Binary
unfolding exp_size exps_size target_size expr_kind expr_row held_target FitsExp FitsTarget FitsExps
walk_parts-walk_expr-requires-in-Binary g t c =
    let B = λ (m : g.row.A.Denot) (b : ℕ). (g.A.Mark.span_from m b).from in
    let F = g.A.Mark.fits_at in
    let base = c.args.base in
    let m = c.args.of.now.mark in
    let start : c.span-at.result.from ≡ B m base = ap (λ (z : Span). z.from) c.span-at.ensures in
    let f = subst (λ (e : tree.Exp g.row.A.Denot). FitsExp B F base e) (ap (expr_kind m) c.in-Binary.is) c.requires.fits in
    λ κs o. (falls_left (λ (x : Expr g.row.A.Denot). exp_size (expr_of x)) (exp_size (expr_of c.args.of.now)) (exp_size (expr_of c.in-Binary.right.value)) c.in-Binary.left.value c.deref-in-Binary.result.now t c.deref-in-Binary.ensures (ap exp_size (ap (expr_kind m) c.in-Binary.is)) c.decreases, (o, (c.requires.knows, shown_fits B F _ _ _ _ start c.deref-in-Binary.ensures f.1)))

pub walk_parts-walk_expr-requires-in-Binary-2 : goal.walk_parts-walk_expr-requires-in-Binary-2
unfolding exp_size exps_size target_size expr_kind expr_row held_target FitsExp FitsTarget FitsExps
walk_parts-walk_expr-requires-in-Binary-2 g t c =
    let B = λ (m : g.row.A.Denot) (b : ℕ). (g.A.Mark.span_from m b).from in
    let F = g.A.Mark.fits_at in
    let base = c.args.base in
    let m = c.args.of.now.mark in
    let start : c.span-at.result.from ≡ B m base = ap (λ (z : Span). z.from) c.span-at.ensures in
    let f = subst (λ (e : tree.Exp g.row.A.Denot). FitsExp B F base e) (ap (expr_kind m) c.in-Binary.is) c.requires.fits in
    λ κs o. (falls_right (λ (x : Expr g.row.A.Denot). exp_size (expr_of x)) (exp_size (expr_of c.args.of.now)) (exp_size (expr_of c.in-Binary.left.value)) c.in-Binary.right.value c.deref-in-Binary-2.result.now t c.deref-in-Binary-2.ensures (ap exp_size (ap (expr_kind m) c.in-Binary.is)) c.decreases, (o, (c.requires.knows, shown_fits B F _ _ _ _ start c.deref-in-Binary-2.ensures f.2)))

pub walk_parts-walk_expr-requires-in-Assign : goal.walk_parts-walk_expr-requires-in-Assign
unfolding exp_size exps_size target_size expr_kind expr_row held_target FitsExp FitsTarget FitsExps
walk_parts-walk_expr-requires-in-Assign g t c =
    let B = λ (m : g.row.A.Denot) (b : ℕ). (g.A.Mark.span_from m b).from in
    let F = g.A.Mark.fits_at in
    let base = c.args.base in
    let m = c.args.of.now.mark in
    let start : c.span-at.result.from ≡ B m base = ap (λ (z : Span). z.from) c.span-at.ensures in
    let f = subst (λ (e : tree.Exp g.row.A.Denot). FitsExp B F base e) (ap (expr_kind m) c.in-Assign.is) c.requires.fits in
    λ κs o. (falls_left (λ (x : Expr g.row.A.Denot). exp_size (expr_of x)) (exp_size (expr_of c.args.of.now)) (exp_size (expr_of c.in-Assign.value.value)) c.in-Assign.to.value c.deref-in-Assign.result.now t c.deref-in-Assign.ensures (ap exp_size (ap (expr_kind m) c.in-Assign.is)) c.decreases, (o, (c.requires.knows, shown_fits B F _ _ _ _ start c.deref-in-Assign.ensures f.1)))

pub walk_parts-walk_expr-requires-in-Assign-2 : goal.walk_parts-walk_expr-requires-in-Assign-2
unfolding exp_size exps_size target_size expr_kind expr_row held_target FitsExp FitsTarget FitsExps
walk_parts-walk_expr-requires-in-Assign-2 g t c =
    let B = λ (m : g.row.A.Denot) (b : ℕ). (g.A.Mark.span_from m b).from in
    let F = g.A.Mark.fits_at in
    let base = c.args.base in
    let m = c.args.of.now.mark in
    let start : c.span-at.result.from ≡ B m base = ap (λ (z : Span). z.from) c.span-at.ensures in
    let f = subst (λ (e : tree.Exp g.row.A.Denot). FitsExp B F base e) (ap (expr_kind m) c.in-Assign.is) c.requires.fits in
    λ κs o. (falls_right (λ (x : Expr g.row.A.Denot). exp_size (expr_of x)) (exp_size (expr_of c.args.of.now)) (exp_size (expr_of c.in-Assign.to.value)) c.in-Assign.value.value c.deref-in-Assign-2.result.now t c.deref-in-Assign-2.ensures (ap exp_size (ap (expr_kind m) c.in-Assign.is)) c.decreases, (o, (c.requires.knows, shown_fits B F _ _ _ _ start c.deref-in-Assign-2.ensures f.2)))

pub walk_parts-walk_expr-requires-in-Compound : goal.walk_parts-walk_expr-requires-in-Compound
unfolding exp_size exps_size target_size expr_kind expr_row held_target FitsExp FitsTarget FitsExps
walk_parts-walk_expr-requires-in-Compound g t c =
    let B = λ (m : g.row.A.Denot) (b : ℕ). (g.A.Mark.span_from m b).from in
    let F = g.A.Mark.fits_at in
    let base = c.args.base in
    let m = c.args.of.now.mark in
    let start : c.span-at.result.from ≡ B m base = ap (λ (z : Span). z.from) c.span-at.ensures in
    let f = subst (λ (e : tree.Exp g.row.A.Denot). FitsExp B F base e) (ap (expr_kind m) c.in-Compound.is) c.requires.fits in
    λ κs o. (falls_left (λ (x : Expr g.row.A.Denot). exp_size (expr_of x)) (exp_size (expr_of c.args.of.now)) (exp_size (expr_of c.in-Compound.value.value)) c.in-Compound.to.value c.deref-in-Compound.result.now t c.deref-in-Compound.ensures (ap exp_size (ap (expr_kind m) c.in-Compound.is)) c.decreases, (o, (c.requires.knows, shown_fits B F _ _ _ _ start c.deref-in-Compound.ensures f.1)))

pub walk_parts-walk_expr-requires-in-Compound-2 : goal.walk_parts-walk_expr-requires-in-Compound-2
unfolding exp_size exps_size target_size expr_kind expr_row held_target FitsExp FitsTarget FitsExps
walk_parts-walk_expr-requires-in-Compound-2 g t c =
    let B = λ (m : g.row.A.Denot) (b : ℕ). (g.A.Mark.span_from m b).from in
    let F = g.A.Mark.fits_at in
    let base = c.args.base in
    let m = c.args.of.now.mark in
    let start : c.span-at.result.from ≡ B m base = ap (λ (z : Span). z.from) c.span-at.ensures in
    let f = subst (λ (e : tree.Exp g.row.A.Denot). FitsExp B F base e) (ap (expr_kind m) c.in-Compound.is) c.requires.fits in
    λ κs o. (falls_right (λ (x : Expr g.row.A.Denot). exp_size (expr_of x)) (exp_size (expr_of c.args.of.now)) (exp_size (expr_of c.in-Compound.to.value)) c.in-Compound.value.value c.deref-in-Compound-2.result.now t c.deref-in-Compound-2.ensures (ap exp_size (ap (expr_kind m) c.in-Compound.is)) c.decreases, (o, (c.requires.knows, shown_fits B F _ _ _ _ start c.deref-in-Compound-2.ensures f.2)))

pub walk_parts-walk_args-requires : goal.walk_parts-walk_args-requires
unfolding exp_size exps_size target_size expr_kind expr_row held_target FitsExp FitsTarget FitsExps
walk_parts-walk_args-requires g t c =
    let B = λ (m : g.row.A.Denot) (b : ℕ). (g.A.Mark.span_from m b).from in
    let F = g.A.Mark.fits_at in
    let base = c.args.base in
    let m = c.args.of.now.mark in
    let start : c.span-at.result.from ≡ B m base = ap (λ (z : Span). z.from) c.span-at.ensures in
    let f = subst (λ (e : tree.Exp g.row.A.Denot). FitsExp B F base e) (ap (expr_kind m) c.in-Call.is ∙ expr_kind-Call_to _ m c.in-Call.target c.in-Call.name c.in-Call.args) c.requires.fits in
    λ κs o. (falls_more _ _ t (falls_right (λ (xs : List (Expr g.row.A.Denot)). exps_size (exprs_of xs)) (exp_size (expr_of c.args.of.now)) (target_size (target_of c.in-Call.target)) c.in-Call.args.items c.deref-in-Call.result.now t c.deref-in-Call.ensures.value (ap exp_size (ap (expr_kind m) c.in-Call.is ∙ expr_kind-Call_to _ m c.in-Call.target c.in-Call.name c.in-Call.args)) c.decreases) c.decreases, (o, (c.requires.knows, shown_fits_row B F _ _ _ _ start c.deref-in-Call.ensures.value f.3)))

pub walk_parts-walk_args-requires-in-SuperCall : goal.walk_parts-walk_args-requires-in-SuperCall
unfolding exp_size exps_size target_size expr_kind expr_row held_target FitsExp FitsTarget FitsExps
walk_parts-walk_args-requires-in-SuperCall g t c =
    let B = λ (m : g.row.A.Denot) (b : ℕ). (g.A.Mark.span_from m b).from in
    let F = g.A.Mark.fits_at in
    let base = c.args.base in
    let m = c.args.of.now.mark in
    let start : c.span-at.result.from ≡ B m base = ap (λ (z : Span). z.from) c.span-at.ensures in
    let f = subst (λ (e : tree.Exp g.row.A.Denot). FitsExp B F base e) (ap (expr_kind m) c.in-SuperCall.is ∙ expr_kind-SuperCall _ m c.in-SuperCall.name c.in-SuperCall.args) c.requires.fits in
    λ κs o. (falls_more _ _ t (falls_whole_row (λ (xs : List (Expr g.row.A.Denot)). exps_size (exprs_of xs)) (exp_size (expr_of c.args.of.now)) c.in-SuperCall.args.items c.deref-in-SuperCall.result.now t c.deref-in-SuperCall.ensures.value (ap exp_size (ap (expr_kind m) c.in-SuperCall.is ∙ expr_kind-SuperCall _ m c.in-SuperCall.name c.in-SuperCall.args)) c.decreases) c.decreases, (o, (c.requires.knows, shown_fits_row B F _ _ _ _ start c.deref-in-SuperCall.ensures.value f.2)))

pub walk_parts-walk_args-requires-in-New : goal.walk_parts-walk_args-requires-in-New
unfolding exp_size exps_size target_size expr_kind expr_row held_target FitsExp FitsTarget FitsExps
walk_parts-walk_args-requires-in-New g t c =
    let B = λ (m : g.row.A.Denot) (b : ℕ). (g.A.Mark.span_from m b).from in
    let F = g.A.Mark.fits_at in
    let base = c.args.base in
    let m = c.args.of.now.mark in
    let start : c.span-at.result.from ≡ B m base = ap (λ (z : Span). z.from) c.span-at.ensures in
    let f = subst (λ (e : tree.Exp g.row.A.Denot). FitsExp B F base e) (ap (expr_kind m) c.in-New.is ∙ expr_kind-New _ m c.in-New.ty c.in-New.args) c.requires.fits in
    λ κs o. (falls_more _ _ t (falls_whole_row (λ (xs : List (Expr g.row.A.Denot)). exps_size (exprs_of xs)) (exp_size (expr_of c.args.of.now)) c.in-New.args.items c.deref-in-New.result.now t c.deref-in-New.ensures.value (ap exp_size (ap (expr_kind m) c.in-New.is ∙ expr_kind-New _ m c.in-New.ty c.in-New.args)) c.decreases) c.decreases, (o, (c.requires.knows, shown_fits_row B F _ _ _ _ start c.deref-in-New.ensures.value f.2)))

pub walk_parts-walk_target-requires : goal.walk_parts-walk_target-requires
unfolding exp_size exps_size target_size expr_kind expr_row held_target FitsExp FitsTarget FitsExps
walk_parts-walk_target-requires g t c =
    let B = λ (m : g.row.A.Denot) (b : ℕ). (g.A.Mark.span_from m b).from in
    let F = g.A.Mark.fits_at in
    let base = c.args.base in
    let m = c.args.of.now.mark in
    let start : c.span-at.result.from ≡ B m base = ap (λ (z : Span). z.from) c.span-at.ensures in
    let f = subst (λ (e : tree.Exp g.row.A.Denot). FitsExp B F base e) (ap (expr_kind m) c.in-Call.is ∙ expr_kind-Call_to _ m c.in-Call.target c.in-Call.name c.in-Call.args) c.requires.fits in
    λ κs o. (
      falls_more _ _ t (falls_left (λ (x : _). target_size (target_of x)) (exp_size (expr_of c.args.of.now)) (exps_size (exprs_of c.in-Call.args.items)) c.in-Call.target c.in-Call.target t refl (ap exp_size (ap (expr_kind m) c.in-Call.is ∙ expr_kind-Call_to _ m c.in-Call.target c.in-Call.name c.in-Call.args)) c.decreases) c.decreases,
      (o, (c.requires.knows, subst (λ (n : ℕ). FitsTarget B F n (target_of c.in-Call.target)) (sym start) f.1)),
    )

pub walk_parts-span-at-requires : goal.walk_parts-span-at-requires
walk_parts-span-at-requires g t c = own_fits (λ (m : g.row.A.Denot) (b : ℕ). (g.A.Mark.span_from m b).from) g.A.Mark.fits_at c.args.base c.args.of.now c.requires.fits

pub walk_parts-span-at_name-requires : goal.walk_parts-span-at_name-requires
unfolding exp_size exps_size target_size expr_kind expr_row held_target FitsExp FitsTarget FitsExps
walk_parts-span-at_name-requires g t c =
    let B = λ (m : g.row.A.Denot) (b : ℕ). (g.A.Mark.span_from m b).from in
    let F = g.A.Mark.fits_at in
    let base = c.args.base in
    let m = c.args.of.now.mark in
    let start : c.span-at.result.from ≡ B m base = ap (λ (z : Span). z.from) c.span-at.ensures in
    let f = subst (λ (e : tree.Exp g.row.A.Denot). FitsExp B F base e) (ap (expr_kind m) c.in-Simple.is) c.requires.fits in
    subst (λ (n : ℕ). F c.in-Simple.name.mark n) (sym start) f.1

pub walk_parts-span-at_name-requires-in-Field : goal.walk_parts-span-at_name-requires-in-Field
unfolding exp_size exps_size target_size expr_kind expr_row held_target FitsExp FitsTarget FitsExps
walk_parts-span-at_name-requires-in-Field g t c =
    let B = λ (m : g.row.A.Denot) (b : ℕ). (g.A.Mark.span_from m b).from in
    let F = g.A.Mark.fits_at in
    let base = c.args.base in
    let m = c.args.of.now.mark in
    let start : c.span-at.result.from ≡ B m base = ap (λ (z : Span). z.from) c.span-at.ensures in
    let f = subst (λ (e : tree.Exp g.row.A.Denot). FitsExp B F base e) (ap (expr_kind m) c.in-Field.is) c.requires.fits in
    subst (λ (n : ℕ). F c.in-Field.name.mark n) (sym start) f.2

pub walk_parts-span-at_name-requires-in-SuperField : goal.walk_parts-span-at_name-requires-in-SuperField
unfolding exp_size exps_size target_size expr_kind expr_row held_target FitsExp FitsTarget FitsExps
walk_parts-span-at_name-requires-in-SuperField g t c =
    let B = λ (m : g.row.A.Denot) (b : ℕ). (g.A.Mark.span_from m b).from in
    let F = g.A.Mark.fits_at in
    let base = c.args.base in
    let m = c.args.of.now.mark in
    let start : c.span-at.result.from ≡ B m base = ap (λ (z : Span). z.from) c.span-at.ensures in
    let f = subst (λ (e : tree.Exp g.row.A.Denot). FitsExp B F base e) (ap (expr_kind m) c.in-SuperField.is) c.requires.fits in
    subst (λ (n : ℕ). F c.in-SuperField.name.mark n) (sym start) f.1

pub walk_parts-span-at_name-requires-in-Call : goal.walk_parts-span-at_name-requires-in-Call
unfolding exp_size exps_size target_size expr_kind expr_row held_target FitsExp FitsTarget FitsExps
walk_parts-span-at_name-requires-in-Call g t c =
    let B = λ (m : g.row.A.Denot) (b : ℕ). (g.A.Mark.span_from m b).from in
    let F = g.A.Mark.fits_at in
    let base = c.args.base in
    let m = c.args.of.now.mark in
    let start : c.span-at.result.from ≡ B m base = ap (λ (z : Span). z.from) c.span-at.ensures in
    let f = subst (λ (e : tree.Exp g.row.A.Denot). FitsExp B F base e) (ap (expr_kind m) c.in-Call.is ∙ expr_kind-Call_to _ m c.in-Call.target c.in-Call.name c.in-Call.args) c.requires.fits in
    subst (λ (n : ℕ). F c.in-Call.name.mark n) (sym start) f.2

pub walk_parts-span-at_name-requires-in-SuperCall : goal.walk_parts-span-at_name-requires-in-SuperCall
unfolding exp_size exps_size target_size expr_kind expr_row held_target FitsExp FitsTarget FitsExps
walk_parts-span-at_name-requires-in-SuperCall g t c =
    let B = λ (m : g.row.A.Denot) (b : ℕ). (g.A.Mark.span_from m b).from in
    let F = g.A.Mark.fits_at in
    let base = c.args.base in
    let m = c.args.of.now.mark in
    let start : c.span-at.result.from ≡ B m base = ap (λ (z : Span). z.from) c.span-at.ensures in
    let f = subst (λ (e : tree.Exp g.row.A.Denot). FitsExp B F base e) (ap (expr_kind m) c.in-SuperCall.is ∙ expr_kind-SuperCall _ m c.in-SuperCall.name c.in-SuperCall.args) c.requires.fits in
    subst (λ (n : ℕ). F c.in-SuperCall.name.mark n) (sym start) f.1

pub walk_parts-class_literal-requires-clause-fits : goal.walk_parts-class_literal-requires-clause-fits
unfolding exp_size exps_size target_size expr_kind expr_row held_target FitsExp FitsTarget FitsExps
walk_parts-class_literal-requires-clause-fits g t c =
    let B = λ (m : g.row.A.Denot) (b : ℕ). (g.A.Mark.span_from m b).from in
    let F = g.A.Mark.fits_at in
    let base = c.args.base in
    let m = c.args.of.now.mark in
    let start : c.span-at.result.from ≡ B m base = ap (λ (z : Span). z.from) c.span-at.ensures in
    let f = subst (λ (e : tree.Exp g.row.A.Denot). FitsExp B F base e) (ap (expr_kind m) c.in-ClassLit.is) c.requires.fits in
    subst (λ (n : ℕ). FitsType B F n (type_of c.in-ClassLit.ty)) (sym start) f.1

pub walk_parts-boxed_type-requires-clause-fits : goal.walk_parts-boxed_type-requires-clause-fits
unfolding exp_size exps_size target_size expr_kind expr_row held_target FitsExp FitsTarget FitsExps
walk_parts-boxed_type-requires-clause-fits g t c =
    let B = λ (m : g.row.A.Denot) (b : ℕ). (g.A.Mark.span_from m b).from in
    let F = g.A.Mark.fits_at in
    let base = c.args.base in
    let m = c.args.of.now.mark in
    let start : c.span-at.result.from ≡ B m base = ap (λ (z : Span). z.from) c.span-at.ensures in
    let f = subst (λ (e : tree.Exp g.row.A.Denot). FitsExp B F base e) (ap (expr_kind m) c.in-New.is ∙ expr_kind-New _ m c.in-New.ty c.in-New.args) c.requires.fits in
    subst (λ (n : ℕ). FitsType B F n (type_of c.in-New.ty.value)) (sym start) f.1

pub walk_parts-boxed_type-requires-in-Cast-clause-fits : goal.walk_parts-boxed_type-requires-in-Cast-clause-fits
unfolding exp_size exps_size target_size expr_kind expr_row held_target FitsExp FitsTarget FitsExps
walk_parts-boxed_type-requires-in-Cast-clause-fits g t c =
    let B = λ (m : g.row.A.Denot) (b : ℕ). (g.A.Mark.span_from m b).from in
    let F = g.A.Mark.fits_at in
    let base = c.args.base in
    let m = c.args.of.now.mark in
    let start : c.span-at.result.from ≡ B m base = ap (λ (z : Span). z.from) c.span-at.ensures in
    let f = subst (λ (e : tree.Exp g.row.A.Denot). FitsExp B F base e) (ap (expr_kind m) c.in-Cast.is) c.requires.fits in
    subst (λ (n : ℕ). FitsType B F n (type_of c.in-Cast.ty.value)) (sym start) f.1

pub walk_parts-returns-in-Int-clause-means : goal.walk_parts-returns-in-Int-clause-means
unfolding expr_kind expr_row held_target
walk_parts-returns-in-Int-clause-means g t c =
    let B = λ (m : g.row.A.Denot) (b : ℕ). (g.A.Mark.span_from m b).from in
    let base = c.args.base in
    let m = c.args.of.now.mark in
    let start : c.span-at.result.from ≡ B m base = ap (λ (z : Span). z.from) c.span-at.ensures in
    let rows = c.args.table.now in
    let are = c.keeps_rows.ensures in
    let p = c.args.place.now in
    let knows = c.requires.knows in
    let ctx = context_of p in
    subst (λ e. Means B rows ctx base e c.plain.result) (sym (ap (expr_kind m) c.in-Int.is)) (subst (λ x. Means B rows ctx base (tree.number m c.in-Int.field-0) x) (sym c.plain.ensures) (meant.number_means B rows are p knows base m c.in-Int.field-0 c.span-at.result.from start))

pub walk_parts-returns-in-Int-clause-notes : goal.walk_parts-returns-in-Int-clause-notes
unfolding expr_kind expr_row held_target
walk_parts-returns-in-Int-clause-notes g t c =
    let B = λ (m : g.row.A.Denot) (b : ℕ). (g.A.Mark.span_from m b).from in
    let base = c.args.base in
    let m = c.args.of.now.mark in
    let rows = c.args.table.now in
    let are = c.keeps_rows.ensures in
    let p = c.args.place.now in
    let knows = c.requires.knows in
    let ctx = context_of p in
    let k = member_of p in
    let r = role_of c.args.role in
    let old = notes_of rows k c.args.log.now.items in
    subst (λ e. Adds old (walks.notes_of B rows ctx r base e) (old)) (sym (ap (expr_kind m) c.in-Int.is)) (noted.number_noted B rows are p knows r base m old c.in-Int.field-0)

pub walk_parts-returns-in-Bool-clause-means : goal.walk_parts-returns-in-Bool-clause-means
unfolding expr_kind expr_row held_target
walk_parts-returns-in-Bool-clause-means g t c =
    let B = λ (m : g.row.A.Denot) (b : ℕ). (g.A.Mark.span_from m b).from in
    let base = c.args.base in
    let m = c.args.of.now.mark in
    let start : c.span-at.result.from ≡ B m base = ap (λ (z : Span). z.from) c.span-at.ensures in
    let rows = c.args.table.now in
    let are = c.keeps_rows.ensures in
    let p = c.args.place.now in
    let knows = c.requires.knows in
    let ctx = context_of p in
    subst (λ e. Means B rows ctx base e c.plain-in-Bool.result) (sym (ap (expr_kind m) c.in-Bool.is)) (subst (λ x. Means B rows ctx base (tree.truth m c.in-Bool.field-0) x) (sym c.plain-in-Bool.ensures) (meant.truth_means B rows are p knows base m c.in-Bool.field-0 c.span-at.result.from start))

pub walk_parts-returns-in-Bool-clause-notes : goal.walk_parts-returns-in-Bool-clause-notes
unfolding expr_kind expr_row held_target
walk_parts-returns-in-Bool-clause-notes g t c =
    let B = λ (m : g.row.A.Denot) (b : ℕ). (g.A.Mark.span_from m b).from in
    let base = c.args.base in
    let m = c.args.of.now.mark in
    let rows = c.args.table.now in
    let are = c.keeps_rows.ensures in
    let p = c.args.place.now in
    let knows = c.requires.knows in
    let ctx = context_of p in
    let k = member_of p in
    let r = role_of c.args.role in
    let old = notes_of rows k c.args.log.now.items in
    subst (λ e. Adds old (walks.notes_of B rows ctx r base e) (old)) (sym (ap (expr_kind m) c.in-Bool.is)) (noted.truth_noted B rows are p knows r base m old c.in-Bool.field-0)

pub walk_parts-returns-in-Null-clause-means : goal.walk_parts-returns-in-Null-clause-means
unfolding expr_kind expr_row held_target
walk_parts-returns-in-Null-clause-means g t c =
    let B = λ (m : g.row.A.Denot) (b : ℕ). (g.A.Mark.span_from m b).from in
    let base = c.args.base in
    let m = c.args.of.now.mark in
    let start : c.span-at.result.from ≡ B m base = ap (λ (z : Span). z.from) c.span-at.ensures in
    let rows = c.args.table.now in
    let are = c.keeps_rows.ensures in
    let p = c.args.place.now in
    let knows = c.requires.knows in
    let ctx = context_of p in
    subst (λ e. Means B rows ctx base e c.plain-in-Null.result) (sym (ap (expr_kind m) c.in-Null.is)) (subst (λ x. Means B rows ctx base (tree.null m) x) (sym c.plain-in-Null.ensures) (meant.null_means B rows are p knows base m c.span-at.result.from start))

pub walk_parts-returns-in-Null-clause-notes : goal.walk_parts-returns-in-Null-clause-notes
unfolding expr_kind expr_row held_target
walk_parts-returns-in-Null-clause-notes g t c =
    let B = λ (m : g.row.A.Denot) (b : ℕ). (g.A.Mark.span_from m b).from in
    let base = c.args.base in
    let m = c.args.of.now.mark in
    let rows = c.args.table.now in
    let are = c.keeps_rows.ensures in
    let p = c.args.place.now in
    let knows = c.requires.knows in
    let ctx = context_of p in
    let k = member_of p in
    let r = role_of c.args.role in
    let old = notes_of rows k c.args.log.now.items in
    subst (λ e. Adds old (walks.notes_of B rows ctx r base e) (old)) (sym (ap (expr_kind m) c.in-Null.is)) (noted.null_noted B rows are p knows r base m old)

pub walk_parts-returns-in-Text-clause-means : goal.walk_parts-returns-in-Text-clause-means
unfolding expr_kind expr_row held_target
walk_parts-returns-in-Text-clause-means g t c =
    let B = λ (m : g.row.A.Denot) (b : ℕ). (g.A.Mark.span_from m b).from in
    let base = c.args.base in
    let m = c.args.of.now.mark in
    let start : c.span-at.result.from ≡ B m base = ap (λ (z : Span). z.from) c.span-at.ensures in
    let rows = c.args.table.now in
    let are = c.keeps_rows.ensures in
    let p = c.args.place.now in
    let knows = c.requires.knows in
    let ctx = context_of p in
    subst (λ e. Means B rows ctx base e c.plain-in-Text.result) (sym (ap (expr_kind m) c.in-Text.is)) (subst (λ x. Means B rows ctx base (tree.string m c.in-Text.field-0) x) (sym c.plain-in-Text.ensures) (meant.string_means B rows are p knows base m c.in-Text.field-0 c.span-at.result.from start))

pub walk_parts-returns-in-Text-clause-notes : goal.walk_parts-returns-in-Text-clause-notes
unfolding expr_kind expr_row held_target
walk_parts-returns-in-Text-clause-notes g t c =
    let B = λ (m : g.row.A.Denot) (b : ℕ). (g.A.Mark.span_from m b).from in
    let base = c.args.base in
    let m = c.args.of.now.mark in
    let rows = c.args.table.now in
    let are = c.keeps_rows.ensures in
    let p = c.args.place.now in
    let knows = c.requires.knows in
    let ctx = context_of p in
    let k = member_of p in
    let r = role_of c.args.role in
    let old = notes_of rows k c.args.log.now.items in
    subst (λ e. Adds old (walks.notes_of B rows ctx r base e) (old)) (sym (ap (expr_kind m) c.in-Text.is)) (noted.string_noted B rows are p knows r base m old c.in-Text.field-0)

pub walk_parts-returns-in-This-clause-means : goal.walk_parts-returns-in-This-clause-means
unfolding expr_kind expr_row held_target
walk_parts-returns-in-This-clause-means g t c =
    let B = λ (m : g.row.A.Denot) (b : ℕ). (g.A.Mark.span_from m b).from in
    let base = c.args.base in
    let m = c.args.of.now.mark in
    let start : c.span-at.result.from ≡ B m base = ap (λ (z : Span). z.from) c.span-at.ensures in
    let rows = c.args.table.now in
    let are = c.keeps_rows.ensures in
    let p = c.args.place.now in
    let knows = c.requires.knows in
    let ctx = context_of p in
    IfOk-weaker c.this.result _ _ (λ x h. subst (λ e. Means B rows ctx base e x) (sym (ap (expr_kind m) c.in-This.is)) (subst (λ y. Means B rows ctx base (tree.this m) y) (sym h) (meant.this_means B rows are p knows base m c.span-at.result.from start))) c.this.ensures.says

pub walk_parts-returns-in-This-clause-notes : goal.walk_parts-returns-in-This-clause-notes
unfolding expr_kind expr_row held_target
walk_parts-returns-in-This-clause-notes g t c =
    let B = λ (m : g.row.A.Denot) (b : ℕ). (g.A.Mark.span_from m b).from in
    let base = c.args.base in
    let m = c.args.of.now.mark in
    let start : c.span-at.result.from ≡ B m base = ap (λ (z : Span). z.from) c.span-at.ensures in
    let rows = c.args.table.now in
    let are = c.keeps_rows.ensures in
    let p = c.args.place.now in
    let knows = c.requires.knows in
    let ctx = context_of p in
    let k = member_of p in
    let r = role_of c.args.role in
    let old = notes_of rows k c.args.log.now.items in
    IfOk-weaker c.this.result _ _ (λ x h. subst (λ e. Adds old (walks.notes_of B rows ctx r base e) (notes_of rows k c.this.new.log.items)) (sym (ap (expr_kind m) c.in-This.is)) (noted.this_noted B rows are p knows r base m c.span-at.result.from start old (notes_of rows k c.this.new.log.items) h)) c.this.ensures.notes

pub walk_parts-returns-in_ok-put_leaf-in-ClassLit-clause-means : goal.walk_parts-returns-in_ok-put_leaf-in-ClassLit-clause-means
unfolding expr_kind expr_row held_target
walk_parts-returns-in_ok-put_leaf-in-ClassLit-clause-means g t c =
    let B = λ (m : g.row.A.Denot) (b : ℕ). (g.A.Mark.span_from m b).from in
    let base = c.args.base in
    let m = c.args.of.now.mark in
    let start : c.span-at.result.from ≡ B m base = ap (λ (z : Span). z.from) c.span-at.ensures in
    let rows = c.args.table.now in
    let are = c.keeps_rows.ensures in
    let p = c.args.place.now in
    let knows = c.requires.knows in
    let ctx = context_of p in
    IfOk-weaker c.class_literal.result _ _ (λ x h. subst (λ e. Means B rows ctx base e x) (sym (ap (expr_kind m) c.in-ClassLit.is)) (subst (λ y. Means B rows ctx base (tree.class_literal m (type_of c.in-ClassLit.ty)) y) (sym h) (meant.class_literal_means B rows are p knows base m (type_of c.in-ClassLit.ty) c.span-at.result.from start))) c.class_literal.ensures.says

pub walk_parts-returns-in_ok-put_leaf-in-ClassLit-clause-notes : goal.walk_parts-returns-in_ok-put_leaf-in-ClassLit-clause-notes
unfolding expr_kind expr_row held_target
walk_parts-returns-in_ok-put_leaf-in-ClassLit-clause-notes g t c =
    let B = λ (m : g.row.A.Denot) (b : ℕ). (g.A.Mark.span_from m b).from in
    let base = c.args.base in
    let m = c.args.of.now.mark in
    let start : c.span-at.result.from ≡ B m base = ap (λ (z : Span). z.from) c.span-at.ensures in
    let rows = c.args.table.now in
    let are = c.keeps_rows.ensures in
    let p = c.args.place.now in
    let knows = c.requires.knows in
    let ctx = context_of p in
    let k = member_of p in
    let r = role_of c.args.role in
    let old = notes_of rows k c.args.log.now.items in
    IfOk-weaker c.class_literal.result _ _ (λ x h. subst (λ e. Adds old (walks.notes_of B rows ctx r base e) (notes_of rows k c.class_literal.new.log.items)) (sym (ap (expr_kind m) c.in-ClassLit.is)) (noted.class_literal_noted B rows are p knows r base m c.span-at.result.from start old (notes_of rows k c.class_literal.new.log.items) (type_of c.in-ClassLit.ty) h)) c.class_literal.ensures.notes

pub walk_parts-returns-in_ok-put_leaf-in-Simple-clause-means : goal.walk_parts-returns-in_ok-put_leaf-in-Simple-clause-means
unfolding expr_kind expr_row held_target
walk_parts-returns-in_ok-put_leaf-in-Simple-clause-means g t c =
    let B = λ (m : g.row.A.Denot) (b : ℕ). (g.A.Mark.span_from m b).from in
    let base = c.args.base in
    let m = c.args.of.now.mark in
    let start : c.span-at.result.from ≡ B m base = ap (λ (z : Span). z.from) c.span-at.ensures in
    let rows = c.args.table.now in
    let are = c.keeps_rows.ensures in
    let p = c.args.place.now in
    let knows = c.requires.knows in
    let ctx = context_of p in
    IfOk-weaker c.simple.result _ _ (λ x h. subst (λ e. Means B rows ctx base e x) (sym (ap (expr_kind m) c.in-Simple.is)) (meant.name_means B rows are p knows base m (word_of c.in-Simple.name) c.span-at.result.from c.span-at_name.result.from x start (ap (λ (z : Span). z.from) c.span-at_name.ensures ∙ (λ i. B c.in-Simple.name.mark (start i))) h)) c.simple.ensures.says

pub walk_parts-returns-in_ok-put_leaf-in-Simple-clause-notes : goal.walk_parts-returns-in_ok-put_leaf-in-Simple-clause-notes
unfolding expr_kind expr_row held_target
walk_parts-returns-in_ok-put_leaf-in-Simple-clause-notes g t c =
    let B = λ (m : g.row.A.Denot) (b : ℕ). (g.A.Mark.span_from m b).from in
    let base = c.args.base in
    let m = c.args.of.now.mark in
    let start : c.span-at.result.from ≡ B m base = ap (λ (z : Span). z.from) c.span-at.ensures in
    let rows = c.args.table.now in
    let are = c.keeps_rows.ensures in
    let p = c.args.place.now in
    let knows = c.requires.knows in
    let ctx = context_of p in
    let k = member_of p in
    let r = role_of c.args.role in
    let old = notes_of rows k c.args.log.now.items in
    IfOk-weaker c.simple.result _ _ (λ x h. subst (λ e. Adds old (walks.notes_of B rows ctx r base e) (notes_of rows k c.simple.new.log.items)) (sym (ap (expr_kind m) c.in-Simple.is)) (noted.name_noted B rows are p knows r base m c.span-at.result.from start old (notes_of rows k c.simple.new.log.items) (word_of c.in-Simple.name) c.span-at_name.result.from (ap (λ (z : Span). z.from) c.span-at_name.ensures ∙ (λ i. B c.in-Simple.name.mark (start i))) h)) c.simple.ensures.notes

pub walk_parts-returns-in_ok-put_leaf-in-SuperField-clause-means : goal.walk_parts-returns-in_ok-put_leaf-in-SuperField-clause-means
unfolding expr_kind expr_row held_target
walk_parts-returns-in_ok-put_leaf-in-SuperField-clause-means g t c =
    let B = λ (m : g.row.A.Denot) (b : ℕ). (g.A.Mark.span_from m b).from in
    let base = c.args.base in
    let m = c.args.of.now.mark in
    let start : c.span-at.result.from ≡ B m base = ap (λ (z : Span). z.from) c.span-at.ensures in
    let rows = c.args.table.now in
    let are = c.keeps_rows.ensures in
    let p = c.args.place.now in
    let knows = c.requires.knows in
    let ctx = context_of p in
    IfOk-weaker c.super_field.result _ _ (λ x h. subst (λ e. Means B rows ctx base e x) (sym (ap (expr_kind m) c.in-SuperField.is)) (meant.super_field_means B rows are p knows base m (word_of c.in-SuperField.name) c.span-at.result.from c.span-at_name-in-SuperField.result.from x start (ap (λ (z : Span). z.from) c.span-at_name-in-SuperField.ensures ∙ (λ i. B c.in-SuperField.name.mark (start i))) h)) c.super_field.ensures.says

pub walk_parts-returns-in_ok-put_leaf-in-SuperField-clause-notes : goal.walk_parts-returns-in_ok-put_leaf-in-SuperField-clause-notes
unfolding expr_kind expr_row held_target
walk_parts-returns-in_ok-put_leaf-in-SuperField-clause-notes g t c =
    let B = λ (m : g.row.A.Denot) (b : ℕ). (g.A.Mark.span_from m b).from in
    let base = c.args.base in
    let m = c.args.of.now.mark in
    let start : c.span-at.result.from ≡ B m base = ap (λ (z : Span). z.from) c.span-at.ensures in
    let rows = c.args.table.now in
    let are = c.keeps_rows.ensures in
    let p = c.args.place.now in
    let knows = c.requires.knows in
    let ctx = context_of p in
    let k = member_of p in
    let r = role_of c.args.role in
    let old = notes_of rows k c.args.log.now.items in
    IfOk-weaker c.super_field.result _ _ (λ x h. subst (λ e. Adds old (walks.notes_of B rows ctx r base e) (notes_of rows k c.super_field.new.log.items)) (sym (ap (expr_kind m) c.in-SuperField.is)) (noted.super_field_noted B rows are p knows r base m c.span-at.result.from start old (notes_of rows k c.super_field.new.log.items) (word_of c.in-SuperField.name) c.span-at_name-in-SuperField.result.from (ap (λ (z : Span). z.from) c.span-at_name-in-SuperField.ensures ∙ (λ i. B c.in-SuperField.name.mark (start i))) h)) c.super_field.ensures.notes

pub walk_parts-returns-in_ok-put_leaf-in-Field-clause-means : goal.walk_parts-returns-in_ok-put_leaf-in-Field-clause-means
unfolding expr_kind expr_row held_target
walk_parts-returns-in_ok-put_leaf-in-Field-clause-means g t c =
    let B = λ (m : g.row.A.Denot) (b : ℕ). (g.A.Mark.span_from m b).from in
    let base = c.args.base in
    let m = c.args.of.now.mark in
    let start : c.span-at.result.from ≡ B m base = ap (λ (z : Span). z.from) c.span-at.ensures in
    let rows = c.args.table.now in
    let are = c.keeps_rows.ensures in
    let p = c.args.place.now in
    let knows = c.requires.knows in
    let ctx = context_of p in
    IfOk-weaker c.field.result _ _ (λ x h. subst (λ e. Means B rows ctx base e x) (sym (ap (expr_kind m) c.in-Field.is)) (meant.field_means B rows are p knows base m (expr_of c.in-Field.part.value) (word_of c.in-Field.name) c.span-at.result.from c.span-at_name-in-Field.result.from c.is_this-on_this.result c.in_ok-of-in-Field.of x start (ap (λ (z : Span). z.from) c.span-at_name-in-Field.ensures ∙ (λ i. B c.in-Field.name.mark (start i))) (c.is_this-on_this.ensures rows ctx ∙ ap (λ (z : Expr g.row.A.Denot). is_this rows ctx (expr_of z)) c.deref-in-Field.ensures) (subst (λ n. Means B rows ctx n (expr_of c.in-Field.part.value) c.in_ok-of-in-Field.of) start (subst (λ (z : Expr g.row.A.Denot). Means B rows ctx c.span-at.result.from (expr_of z) c.in_ok-of-in-Field.of) c.deref.ensures c.in_ok-of-in-Field.ensures.means)) h)) c.field.ensures.says

pub walk_parts-returns-in_ok-put_leaf-in-Field-clause-notes : goal.walk_parts-returns-in_ok-put_leaf-in-Field-clause-notes
unfolding expr_kind expr_row held_target
walk_parts-returns-in_ok-put_leaf-in-Field-clause-notes g t c =
    let B = λ (m : g.row.A.Denot) (b : ℕ). (g.A.Mark.span_from m b).from in
    let base = c.args.base in
    let m = c.args.of.now.mark in
    let start : c.span-at.result.from ≡ B m base = ap (λ (z : Span). z.from) c.span-at.ensures in
    let rows = c.args.table.now in
    let are = c.keeps_rows.ensures in
    let p = c.args.place.now in
    let knows = c.requires.knows in
    let ctx = context_of p in
    let k = member_of p in
    let r = role_of c.args.role in
    let old = notes_of rows k c.args.log.now.items in
    IfOk-weaker c.field.result _ _ (λ x h. subst (λ e. Adds old (walks.notes_of B rows ctx r base e) (notes_of rows k c.field.new.log.items)) (sym (ap (expr_kind m) c.in-Field.is)) (noted.field_noted B rows are p knows r base m c.span-at.result.from start (word_of c.in-Field.name) c.span-at_name-in-Field.result.from (ap (λ (z : Span). z.from) c.span-at_name-in-Field.ensures ∙ (λ i. B c.in-Field.name.mark (start i))) (expr_of c.in-Field.part.value) c.in_ok-of-in-Field.of (subst (λ n. Means B rows ctx n (expr_of c.in-Field.part.value) c.in_ok-of-in-Field.of) start (subst (λ (z : Expr g.row.A.Denot). Means B rows ctx c.span-at.result.from (expr_of z) c.in_ok-of-in-Field.of) c.deref.ensures c.in_ok-of-in-Field.ensures.means)) old (notes_of rows k c.walk_expr.new.log.items) (notes_of rows k c.field.new.log.items) (subst (λ (xs : List Note). Adds old xs (notes_of rows k c.walk_expr.new.log.items)) (λ i. walks.notes_of B rows ctx left (start i) (expr_of (c.deref.ensures i))) c.in_ok-of-in-Field.ensures.notes) h)) c.field.ensures.notes

pub walk_parts-returns-in_ok-of-in-Unary-clause-means : goal.walk_parts-returns-in_ok-of-in-Unary-clause-means
unfolding expr_kind expr_row held_target
walk_parts-returns-in_ok-of-in-Unary-clause-means g t c =
    let B = λ (m : g.row.A.Denot) (b : ℕ). (g.A.Mark.span_from m b).from in
    let base = c.args.base in
    let m = c.args.of.now.mark in
    let start : c.span-at.result.from ≡ B m base = ap (λ (z : Span). z.from) c.span-at.ensures in
    let rows = c.args.table.now in
    let are = c.keeps_rows.ensures in
    let p = c.args.place.now in
    let knows = c.requires.knows in
    let ctx = context_of p in
    IfOk-weaker c.unary.result _ _ (λ x h. subst (λ e. Means B rows ctx base e x) (sym (ap (expr_kind m) c.in-Unary.is)) (subst (λ y. Means B rows ctx base (tree.unary m c.in-Unary.op (expr_of c.in-Unary.part.value)) y) (sym h) (meant.unary_means B rows are p knows base m c.span-at.result.from start (expr_of c.in-Unary.part.value) c.in_ok-of-in-Unary.of (subst (λ n. Means B rows ctx n (expr_of c.in-Unary.part.value) c.in_ok-of-in-Unary.of) start (subst (λ (z : Expr g.row.A.Denot). Means B rows ctx c.span-at.result.from (expr_of z) c.in_ok-of-in-Unary.of) c.deref-in-Unary.ensures c.in_ok-of-in-Unary.ensures.means)) c.in-Unary.op))) c.unary.ensures.says

pub walk_parts-returns-in_ok-of-in-Unary-clause-notes : goal.walk_parts-returns-in_ok-of-in-Unary-clause-notes
unfolding expr_kind expr_row held_target
walk_parts-returns-in_ok-of-in-Unary-clause-notes g t c =
    let B = λ (m : g.row.A.Denot) (b : ℕ). (g.A.Mark.span_from m b).from in
    let base = c.args.base in
    let m = c.args.of.now.mark in
    let start : c.span-at.result.from ≡ B m base = ap (λ (z : Span). z.from) c.span-at.ensures in
    let rows = c.args.table.now in
    let are = c.keeps_rows.ensures in
    let p = c.args.place.now in
    let knows = c.requires.knows in
    let ctx = context_of p in
    let k = member_of p in
    let r = role_of c.args.role in
    let old = notes_of rows k c.args.log.now.items in
    IfOk-weaker c.unary.result _ _ (λ x h. subst (λ e. Adds old (walks.notes_of B rows ctx r base e) (notes_of rows k c.unary.new.log.items)) (sym (ap (expr_kind m) c.in-Unary.is)) (noted.unary_noted B rows are p knows r base m c.span-at.result.from start (expr_of c.in-Unary.part.value) c.in_ok-of-in-Unary.of (subst (λ n. Means B rows ctx n (expr_of c.in-Unary.part.value) c.in_ok-of-in-Unary.of) start (subst (λ (z : Expr g.row.A.Denot). Means B rows ctx c.span-at.result.from (expr_of z) c.in_ok-of-in-Unary.of) c.deref-in-Unary.ensures c.in_ok-of-in-Unary.ensures.means)) c.in-Unary.op old (notes_of rows k c.walk_expr-in-Unary.new.log.items) (notes_of rows k c.unary.new.log.items) (subst (λ (xs : List Note). Adds old xs (notes_of rows k c.walk_expr-in-Unary.new.log.items)) (λ i. walks.notes_of B rows ctx value (start i) (expr_of (c.deref-in-Unary.ensures i))) c.in_ok-of-in-Unary.ensures.notes) h)) c.unary.ensures.notes

pub walk_parts-returns-in_ok-of-in-Bump-clause-means : goal.walk_parts-returns-in_ok-of-in-Bump-clause-means
unfolding expr_kind expr_row held_target
walk_parts-returns-in_ok-of-in-Bump-clause-means g t c =
    let B = λ (m : g.row.A.Denot) (b : ℕ). (g.A.Mark.span_from m b).from in
    let base = c.args.base in
    let m = c.args.of.now.mark in
    let start : c.span-at.result.from ≡ B m base = ap (λ (z : Span). z.from) c.span-at.ensures in
    let rows = c.args.table.now in
    let are = c.keeps_rows.ensures in
    let p = c.args.place.now in
    let knows = c.requires.knows in
    let ctx = context_of p in
    IfOk-weaker c.bump.result _ _ (λ x h. subst (λ e. Means B rows ctx base e x) (sym (ap (expr_kind m) c.in-Bump.is)) (subst (λ y. Means B rows ctx base (tree.bump m c.in-Bump.field-0 (expr_of c.in-Bump.part.value)) y) (sym h) (meant.bump_means B rows are p knows base m c.span-at.result.from start (expr_of c.in-Bump.part.value) c.in_ok-of-in-Bump.of (subst (λ n. Means B rows ctx n (expr_of c.in-Bump.part.value) c.in_ok-of-in-Bump.of) start (subst (λ (z : Expr g.row.A.Denot). Means B rows ctx c.span-at.result.from (expr_of z) c.in_ok-of-in-Bump.of) c.deref-in-Bump.ensures c.in_ok-of-in-Bump.ensures.means)) c.in-Bump.field-0))) c.bump.ensures.says

pub walk_parts-returns-in_ok-of-in-Bump-clause-notes : goal.walk_parts-returns-in_ok-of-in-Bump-clause-notes
unfolding expr_kind expr_row held_target
walk_parts-returns-in_ok-of-in-Bump-clause-notes g t c =
    let B = λ (m : g.row.A.Denot) (b : ℕ). (g.A.Mark.span_from m b).from in
    let base = c.args.base in
    let m = c.args.of.now.mark in
    let start : c.span-at.result.from ≡ B m base = ap (λ (z : Span). z.from) c.span-at.ensures in
    let rows = c.args.table.now in
    let are = c.keeps_rows.ensures in
    let p = c.args.place.now in
    let knows = c.requires.knows in
    let ctx = context_of p in
    let k = member_of p in
    let r = role_of c.args.role in
    let old = notes_of rows k c.args.log.now.items in
    IfOk-weaker c.bump.result _ _ (λ x h. subst (λ e. Adds old (walks.notes_of B rows ctx r base e) (notes_of rows k c.bump.new.log.items)) (sym (ap (expr_kind m) c.in-Bump.is)) (noted.bump_noted B rows are p knows r base m c.span-at.result.from start (expr_of c.in-Bump.part.value) c.in_ok-of-in-Bump.of (subst (λ n. Means B rows ctx n (expr_of c.in-Bump.part.value) c.in_ok-of-in-Bump.of) start (subst (λ (z : Expr g.row.A.Denot). Means B rows ctx c.span-at.result.from (expr_of z) c.in_ok-of-in-Bump.of) c.deref-in-Bump.ensures c.in_ok-of-in-Bump.ensures.means)) c.in-Bump.field-0 old (notes_of rows k c.walk_expr-in-Bump.new.log.items) (notes_of rows k c.bump.new.log.items) (subst (λ (xs : List Note). Adds old xs (notes_of rows k c.walk_expr-in-Bump.new.log.items)) (λ i. walks.notes_of B rows ctx value (start i) (expr_of (c.deref-in-Bump.ensures i))) c.in_ok-of-in-Bump.ensures.notes) h)) c.bump.ensures.notes

pub walk_parts-returns-in_ok-of-in-Paren-clause-means : goal.walk_parts-returns-in_ok-of-in-Paren-clause-means
unfolding expr_kind expr_row held_target
walk_parts-returns-in_ok-of-in-Paren-clause-means g t c =
    let B = λ (m : g.row.A.Denot) (b : ℕ). (g.A.Mark.span_from m b).from in
    let base = c.args.base in
    let m = c.args.of.now.mark in
    let start : c.span-at.result.from ≡ B m base = ap (λ (z : Span). z.from) c.span-at.ensures in
    let rows = c.args.table.now in
    let are = c.keeps_rows.ensures in
    let p = c.args.place.now in
    let knows = c.requires.knows in
    let ctx = context_of p in
    subst (λ e. Means B rows ctx base e c.plain-in-Paren.result) (sym (ap (expr_kind m) c.in-Paren.is)) (subst (λ x. Means B rows ctx base (tree.paren m (expr_of c.in-Paren.part.value)) x) (sym c.plain-in-Paren.ensures) (meant.paren_means B rows are p knows base m c.span-at.result.from start (expr_of c.in-Paren.part.value) c.in_ok-of-in-Paren.of (subst (λ n. Means B rows ctx n (expr_of c.in-Paren.part.value) c.in_ok-of-in-Paren.of) start (subst (λ (z : Expr g.row.A.Denot). Means B rows ctx c.span-at.result.from (expr_of z) c.in_ok-of-in-Paren.of) c.deref-in-Paren.ensures c.in_ok-of-in-Paren.ensures.means))))

pub walk_parts-returns-in_ok-of-in-Paren-clause-notes : goal.walk_parts-returns-in_ok-of-in-Paren-clause-notes
unfolding expr_kind expr_row held_target
walk_parts-returns-in_ok-of-in-Paren-clause-notes g t c =
    let B = λ (m : g.row.A.Denot) (b : ℕ). (g.A.Mark.span_from m b).from in
    let base = c.args.base in
    let m = c.args.of.now.mark in
    let start : c.span-at.result.from ≡ B m base = ap (λ (z : Span). z.from) c.span-at.ensures in
    let rows = c.args.table.now in
    let are = c.keeps_rows.ensures in
    let p = c.args.place.now in
    let knows = c.requires.knows in
    let ctx = context_of p in
    let k = member_of p in
    let r = role_of c.args.role in
    let old = notes_of rows k c.args.log.now.items in
    subst (λ e. Adds old (walks.notes_of B rows ctx r base e) (notes_of rows k c.walk_expr-in-Paren.new.log.items)) (sym (ap (expr_kind m) c.in-Paren.is)) (noted.paren_noted B rows are p knows r base m c.span-at.result.from start (expr_of c.in-Paren.part.value) c.in_ok-of-in-Paren.of (subst (λ n. Means B rows ctx n (expr_of c.in-Paren.part.value) c.in_ok-of-in-Paren.of) start (subst (λ (z : Expr g.row.A.Denot). Means B rows ctx c.span-at.result.from (expr_of z) c.in_ok-of-in-Paren.of) c.deref-in-Paren.ensures c.in_ok-of-in-Paren.ensures.means)) old (notes_of rows k c.walk_expr-in-Paren.new.log.items) (subst (λ (xs : List Note). Adds old xs (notes_of rows k c.walk_expr-in-Paren.new.log.items)) (λ i. walks.notes_of B rows ctx value (start i) (expr_of (c.deref-in-Paren.ensures i))) c.in_ok-of-in-Paren.ensures.notes))

pub walk_parts-returns-in_ok-of-in-Cast-clause-means : goal.walk_parts-returns-in_ok-of-in-Cast-clause-means
unfolding expr_kind expr_row held_target
walk_parts-returns-in_ok-of-in-Cast-clause-means g t c =
    let B = λ (m : g.row.A.Denot) (b : ℕ). (g.A.Mark.span_from m b).from in
    let base = c.args.base in
    let m = c.args.of.now.mark in
    let start : c.span-at.result.from ≡ B m base = ap (λ (z : Span). z.from) c.span-at.ensures in
    let rows = c.args.table.now in
    let are = c.keeps_rows.ensures in
    let p = c.args.place.now in
    let knows = c.requires.knows in
    let ctx = context_of p in
    IfOk-weaker c.cast.result _ _ (λ x h. subst (λ e. Means B rows ctx base e x) (sym (ap (expr_kind m) c.in-Cast.is)) (subst (λ y. Means B rows ctx base (tree.cast m (type_of c.in-Cast.ty.value) (expr_of c.in-Cast.part.value)) y) (sym h) (meant.cast_means B rows are p knows base m c.span-at.result.from start (expr_of c.in-Cast.part.value) c.in_ok-of-in-Cast.of (subst (λ n. Means B rows ctx n (expr_of c.in-Cast.part.value) c.in_ok-of-in-Cast.of) start (subst (λ (z : Expr g.row.A.Denot). Means B rows ctx c.span-at.result.from (expr_of z) c.in_ok-of-in-Cast.of) c.deref-in-Cast.ensures c.in_ok-of-in-Cast.ensures.means)) (type_of c.in-Cast.ty.value) c.in_ok-kind-in-Cast.kind c.in_ok-kind-in-Cast.ensures.kind))) c.cast.ensures.says

pub walk_parts-returns-in_ok-of-in-Cast-clause-notes : goal.walk_parts-returns-in_ok-of-in-Cast-clause-notes
unfolding expr_kind expr_row held_target
walk_parts-returns-in_ok-of-in-Cast-clause-notes g t c =
    let B = λ (m : g.row.A.Denot) (b : ℕ). (g.A.Mark.span_from m b).from in
    let base = c.args.base in
    let m = c.args.of.now.mark in
    let start : c.span-at.result.from ≡ B m base = ap (λ (z : Span). z.from) c.span-at.ensures in
    let rows = c.args.table.now in
    let are = c.keeps_rows.ensures in
    let p = c.args.place.now in
    let knows = c.requires.knows in
    let ctx = context_of p in
    let k = member_of p in
    let r = role_of c.args.role in
    let old = notes_of rows k c.args.log.now.items in
    IfOk-weaker c.cast.result _ _ (λ x h. subst (λ e. Adds old (walks.notes_of B rows ctx r base e) (notes_of rows k c.cast.new.log.items)) (sym (ap (expr_kind m) c.in-Cast.is)) (noted.cast_noted B rows are p knows r base m c.span-at.result.from start (expr_of c.in-Cast.part.value) c.in_ok-of-in-Cast.of (subst (λ n. Means B rows ctx n (expr_of c.in-Cast.part.value) c.in_ok-of-in-Cast.of) start (subst (λ (z : Expr g.row.A.Denot). Means B rows ctx c.span-at.result.from (expr_of z) c.in_ok-of-in-Cast.of) c.deref-in-Cast.ensures c.in_ok-of-in-Cast.ensures.means)) (type_of c.in-Cast.ty.value) c.in_ok-kind-in-Cast.kind c.in_ok-kind-in-Cast.ensures.kind old (notes_of rows k c.boxed_type-in-Cast.new.log.items) (notes_of rows k c.walk_expr-in-Cast.new.log.items) (notes_of rows k c.cast.new.log.items) c.in_ok-kind-in-Cast.ensures.notes (subst (λ (xs : List Note). Adds (notes_of rows k c.boxed_type-in-Cast.new.log.items) xs (notes_of rows k c.walk_expr-in-Cast.new.log.items)) (λ i. walks.notes_of B rows ctx value (start i) (expr_of (c.deref-in-Cast.ensures i))) c.in_ok-of-in-Cast.ensures.notes) h)) c.cast.ensures.notes

pub walk_parts-returns-in_ok-right-in-Binary-clause-means : goal.walk_parts-returns-in_ok-right-in-Binary-clause-means
unfolding expr_kind expr_row held_target
walk_parts-returns-in_ok-right-in-Binary-clause-means g t c =
    let B = λ (m : g.row.A.Denot) (b : ℕ). (g.A.Mark.span_from m b).from in
    let base = c.args.base in
    let m = c.args.of.now.mark in
    let start : c.span-at.result.from ≡ B m base = ap (λ (z : Span). z.from) c.span-at.ensures in
    let rows = c.args.table.now in
    let are = c.keeps_rows.ensures in
    let p = c.args.place.now in
    let knows = c.requires.knows in
    let ctx = context_of p in
    IfOk-weaker c.binary.result _ _ (λ x h. subst (λ e. Means B rows ctx base e x) (sym (ap (expr_kind m) c.in-Binary.is)) (subst (λ y. Means B rows ctx base (tree.binary m c.in-Binary.op (expr_of c.in-Binary.left.value) (expr_of c.in-Binary.right.value)) y) (sym h) (meant.binary_means B rows are p knows base m c.span-at.result.from start (expr_of c.in-Binary.left.value) c.in_ok-left-in-Binary.left (subst (λ n. Means B rows ctx n (expr_of c.in-Binary.left.value) c.in_ok-left-in-Binary.left) start (subst (λ (z : Expr g.row.A.Denot). Means B rows ctx c.span-at.result.from (expr_of z) c.in_ok-left-in-Binary.left) c.deref-in-Binary.ensures c.in_ok-left-in-Binary.ensures.means)) (expr_of c.in-Binary.right.value) c.in_ok-right-in-Binary.right (subst (λ n. Means B rows ctx n (expr_of c.in-Binary.right.value) c.in_ok-right-in-Binary.right) start (subst (λ (z : Expr g.row.A.Denot). Means B rows ctx c.span-at.result.from (expr_of z) c.in_ok-right-in-Binary.right) c.deref-in-Binary-2.ensures c.in_ok-right-in-Binary.ensures.means)) c.in-Binary.op))) c.binary.ensures.says

pub walk_parts-returns-in_ok-right-in-Binary-clause-notes : goal.walk_parts-returns-in_ok-right-in-Binary-clause-notes
unfolding expr_kind expr_row held_target
walk_parts-returns-in_ok-right-in-Binary-clause-notes g t c =
    let B = λ (m : g.row.A.Denot) (b : ℕ). (g.A.Mark.span_from m b).from in
    let base = c.args.base in
    let m = c.args.of.now.mark in
    let start : c.span-at.result.from ≡ B m base = ap (λ (z : Span). z.from) c.span-at.ensures in
    let rows = c.args.table.now in
    let are = c.keeps_rows.ensures in
    let p = c.args.place.now in
    let knows = c.requires.knows in
    let ctx = context_of p in
    let k = member_of p in
    let r = role_of c.args.role in
    let old = notes_of rows k c.args.log.now.items in
    IfOk-weaker c.binary.result _ _ (λ x h. subst (λ e. Adds old (walks.notes_of B rows ctx r base e) (notes_of rows k c.binary.new.log.items)) (sym (ap (expr_kind m) c.in-Binary.is)) (noted.binary_noted B rows are p knows r base m c.span-at.result.from start (expr_of c.in-Binary.left.value) c.in_ok-left-in-Binary.left (subst (λ n. Means B rows ctx n (expr_of c.in-Binary.left.value) c.in_ok-left-in-Binary.left) start (subst (λ (z : Expr g.row.A.Denot). Means B rows ctx c.span-at.result.from (expr_of z) c.in_ok-left-in-Binary.left) c.deref-in-Binary.ensures c.in_ok-left-in-Binary.ensures.means)) (expr_of c.in-Binary.right.value) c.in_ok-right-in-Binary.right (subst (λ n. Means B rows ctx n (expr_of c.in-Binary.right.value) c.in_ok-right-in-Binary.right) start (subst (λ (z : Expr g.row.A.Denot). Means B rows ctx c.span-at.result.from (expr_of z) c.in_ok-right-in-Binary.right) c.deref-in-Binary-2.ensures c.in_ok-right-in-Binary.ensures.means)) old (notes_of rows k c.walk_expr-in-Binary.new.log.items) (notes_of rows k c.walk_expr-in-Binary-2.new.log.items) (notes_of rows k c.binary.new.log.items) (subst (λ (xs : List Note). Adds old xs (notes_of rows k c.walk_expr-in-Binary.new.log.items)) (λ i. walks.notes_of B rows ctx value (start i) (expr_of (c.deref-in-Binary.ensures i))) c.in_ok-left-in-Binary.ensures.notes) (subst (λ (xs : List Note). Adds (notes_of rows k c.walk_expr-in-Binary.new.log.items) xs (notes_of rows k c.walk_expr-in-Binary-2.new.log.items)) (λ i. walks.notes_of B rows ctx value (start i) (expr_of (c.deref-in-Binary-2.ensures i))) c.in_ok-right-in-Binary.ensures.notes) c.in-Binary.op h)) c.binary.ensures.notes

pub walk_parts-returns-in_ok-value-in-Assign-clause-means : goal.walk_parts-returns-in_ok-value-in-Assign-clause-means
unfolding expr_kind expr_row held_target
walk_parts-returns-in_ok-value-in-Assign-clause-means g t c =
    let B = λ (m : g.row.A.Denot) (b : ℕ). (g.A.Mark.span_from m b).from in
    let base = c.args.base in
    let m = c.args.of.now.mark in
    let start : c.span-at.result.from ≡ B m base = ap (λ (z : Span). z.from) c.span-at.ensures in
    let rows = c.args.table.now in
    let are = c.keeps_rows.ensures in
    let p = c.args.place.now in
    let knows = c.requires.knows in
    let ctx = context_of p in
    IfOk-weaker c.assign.result _ _ (λ x h. subst (λ e. Means B rows ctx base e x) (sym (ap (expr_kind m) c.in-Assign.is)) (subst (λ y. Means B rows ctx base (tree.assign m (expr_of c.in-Assign.to.value) (expr_of c.in-Assign.value.value)) y) (sym h) (meant.assign_means B rows are p knows base m c.span-at.result.from start (expr_of c.in-Assign.to.value) c.in_ok-to-in-Assign.to (subst (λ n. Means B rows ctx n (expr_of c.in-Assign.to.value) c.in_ok-to-in-Assign.to) start (subst (λ (z : Expr g.row.A.Denot). Means B rows ctx c.span-at.result.from (expr_of z) c.in_ok-to-in-Assign.to) c.deref-in-Assign.ensures c.in_ok-to-in-Assign.ensures.means)) (expr_of c.in-Assign.value.value) c.in_ok-value-in-Assign.value (subst (λ n. Means B rows ctx n (expr_of c.in-Assign.value.value) c.in_ok-value-in-Assign.value) start (subst (λ (z : Expr g.row.A.Denot). Means B rows ctx c.span-at.result.from (expr_of z) c.in_ok-value-in-Assign.value) c.deref-in-Assign-2.ensures c.in_ok-value-in-Assign.ensures.means))))) c.assign.ensures.says

pub walk_parts-returns-in_ok-value-in-Assign-clause-notes : goal.walk_parts-returns-in_ok-value-in-Assign-clause-notes
unfolding expr_kind expr_row held_target
walk_parts-returns-in_ok-value-in-Assign-clause-notes g t c =
    let B = λ (m : g.row.A.Denot) (b : ℕ). (g.A.Mark.span_from m b).from in
    let base = c.args.base in
    let m = c.args.of.now.mark in
    let start : c.span-at.result.from ≡ B m base = ap (λ (z : Span). z.from) c.span-at.ensures in
    let rows = c.args.table.now in
    let are = c.keeps_rows.ensures in
    let p = c.args.place.now in
    let knows = c.requires.knows in
    let ctx = context_of p in
    let k = member_of p in
    let r = role_of c.args.role in
    let old = notes_of rows k c.args.log.now.items in
    IfOk-weaker c.assign.result _ _ (λ x h. subst (λ e. Adds old (walks.notes_of B rows ctx r base e) (notes_of rows k c.assign.new.log.items)) (sym (ap (expr_kind m) c.in-Assign.is)) (noted.assign_noted B rows are p knows r base m c.span-at.result.from start (expr_of c.in-Assign.to.value) c.in_ok-to-in-Assign.to (subst (λ n. Means B rows ctx n (expr_of c.in-Assign.to.value) c.in_ok-to-in-Assign.to) start (subst (λ (z : Expr g.row.A.Denot). Means B rows ctx c.span-at.result.from (expr_of z) c.in_ok-to-in-Assign.to) c.deref-in-Assign.ensures c.in_ok-to-in-Assign.ensures.means)) (expr_of c.in-Assign.value.value) c.in_ok-value-in-Assign.value (subst (λ n. Means B rows ctx n (expr_of c.in-Assign.value.value) c.in_ok-value-in-Assign.value) start (subst (λ (z : Expr g.row.A.Denot). Means B rows ctx c.span-at.result.from (expr_of z) c.in_ok-value-in-Assign.value) c.deref-in-Assign-2.ensures c.in_ok-value-in-Assign.ensures.means)) old (notes_of rows k c.walk_expr-in-Assign.new.log.items) (notes_of rows k c.walk_expr-in-Assign-2.new.log.items) (notes_of rows k c.assign.new.log.items) (subst (λ (xs : List Note). Adds old xs (notes_of rows k c.walk_expr-in-Assign.new.log.items)) (λ i. walks.notes_of B rows ctx value (start i) (expr_of (c.deref-in-Assign.ensures i))) c.in_ok-to-in-Assign.ensures.notes) (subst (λ (xs : List Note). Adds (notes_of rows k c.walk_expr-in-Assign.new.log.items) xs (notes_of rows k c.walk_expr-in-Assign-2.new.log.items)) (λ i. walks.notes_of B rows ctx value (start i) (expr_of (c.deref-in-Assign-2.ensures i))) c.in_ok-value-in-Assign.ensures.notes) h)) c.assign.ensures.notes

pub walk_parts-returns-in_ok-value-in-Compound-clause-means : goal.walk_parts-returns-in_ok-value-in-Compound-clause-means
unfolding expr_kind expr_row held_target
walk_parts-returns-in_ok-value-in-Compound-clause-means g t c =
    let B = λ (m : g.row.A.Denot) (b : ℕ). (g.A.Mark.span_from m b).from in
    let base = c.args.base in
    let m = c.args.of.now.mark in
    let start : c.span-at.result.from ≡ B m base = ap (λ (z : Span). z.from) c.span-at.ensures in
    let rows = c.args.table.now in
    let are = c.keeps_rows.ensures in
    let p = c.args.place.now in
    let knows = c.requires.knows in
    let ctx = context_of p in
    IfOk-weaker c.compound.result _ _ (λ x h. subst (λ e. Means B rows ctx base e x) (sym (ap (expr_kind m) c.in-Compound.is)) (subst (λ y. Means B rows ctx base (tree.compound m c.in-Compound.field-0 (expr_of c.in-Compound.to.value) (expr_of c.in-Compound.value.value)) y) (sym h) (meant.compound_means B rows are p knows base m c.span-at.result.from start (expr_of c.in-Compound.to.value) c.in_ok-to-in-Compound.to (subst (λ n. Means B rows ctx n (expr_of c.in-Compound.to.value) c.in_ok-to-in-Compound.to) start (subst (λ (z : Expr g.row.A.Denot). Means B rows ctx c.span-at.result.from (expr_of z) c.in_ok-to-in-Compound.to) c.deref-in-Compound.ensures c.in_ok-to-in-Compound.ensures.means)) (expr_of c.in-Compound.value.value) c.in_ok-value-in-Compound.value (subst (λ n. Means B rows ctx n (expr_of c.in-Compound.value.value) c.in_ok-value-in-Compound.value) start (subst (λ (z : Expr g.row.A.Denot). Means B rows ctx c.span-at.result.from (expr_of z) c.in_ok-value-in-Compound.value) c.deref-in-Compound-2.ensures c.in_ok-value-in-Compound.ensures.means)) c.in-Compound.field-0))) c.compound.ensures.says

pub walk_parts-returns-in_ok-value-in-Compound-clause-notes : goal.walk_parts-returns-in_ok-value-in-Compound-clause-notes
unfolding expr_kind expr_row held_target
walk_parts-returns-in_ok-value-in-Compound-clause-notes g t c =
    let B = λ (m : g.row.A.Denot) (b : ℕ). (g.A.Mark.span_from m b).from in
    let base = c.args.base in
    let m = c.args.of.now.mark in
    let start : c.span-at.result.from ≡ B m base = ap (λ (z : Span). z.from) c.span-at.ensures in
    let rows = c.args.table.now in
    let are = c.keeps_rows.ensures in
    let p = c.args.place.now in
    let knows = c.requires.knows in
    let ctx = context_of p in
    let k = member_of p in
    let r = role_of c.args.role in
    let old = notes_of rows k c.args.log.now.items in
    IfOk-weaker c.compound.result _ _ (λ x h. subst (λ e. Adds old (walks.notes_of B rows ctx r base e) (notes_of rows k c.compound.new.log.items)) (sym (ap (expr_kind m) c.in-Compound.is)) (noted.compound_noted B rows are p knows r base m c.span-at.result.from start (expr_of c.in-Compound.to.value) c.in_ok-to-in-Compound.to (subst (λ n. Means B rows ctx n (expr_of c.in-Compound.to.value) c.in_ok-to-in-Compound.to) start (subst (λ (z : Expr g.row.A.Denot). Means B rows ctx c.span-at.result.from (expr_of z) c.in_ok-to-in-Compound.to) c.deref-in-Compound.ensures c.in_ok-to-in-Compound.ensures.means)) (expr_of c.in-Compound.value.value) c.in_ok-value-in-Compound.value (subst (λ n. Means B rows ctx n (expr_of c.in-Compound.value.value) c.in_ok-value-in-Compound.value) start (subst (λ (z : Expr g.row.A.Denot). Means B rows ctx c.span-at.result.from (expr_of z) c.in_ok-value-in-Compound.value) c.deref-in-Compound-2.ensures c.in_ok-value-in-Compound.ensures.means)) old (notes_of rows k c.walk_expr-in-Compound.new.log.items) (notes_of rows k c.walk_expr-in-Compound-2.new.log.items) (notes_of rows k c.compound.new.log.items) (subst (λ (xs : List Note). Adds old xs (notes_of rows k c.walk_expr-in-Compound.new.log.items)) (λ i. walks.notes_of B rows ctx value (start i) (expr_of (c.deref-in-Compound.ensures i))) c.in_ok-to-in-Compound.ensures.notes) (subst (λ (xs : List Note). Adds (notes_of rows k c.walk_expr-in-Compound.new.log.items) xs (notes_of rows k c.walk_expr-in-Compound-2.new.log.items)) (λ i. walks.notes_of B rows ctx value (start i) (expr_of (c.deref-in-Compound-2.ensures i))) c.in_ok-value-in-Compound.ensures.notes) c.in-Compound.field-0 h)) c.compound.ensures.notes

pub walk_parts-returns-in_ok-kinds-in-Call-clause-means : goal.walk_parts-returns-in_ok-kinds-in-Call-clause-means
unfolding expr_kind expr_row held_target
walk_parts-returns-in_ok-kinds-in-Call-clause-means g t c =
    let B = λ (m : g.row.A.Denot) (b : ℕ). (g.A.Mark.span_from m b).from in
    let base = c.args.base in
    let m = c.args.of.now.mark in
    let start : c.span-at.result.from ≡ B m base = ap (λ (z : Span). z.from) c.span-at.ensures in
    let rows = c.args.table.now in
    let are = c.keeps_rows.ensures in
    let p = c.args.place.now in
    let knows = c.requires.knows in
    let ctx = context_of p in
    IfOk-weaker c.call.result _ _ (λ x h. subst (λ e. Means B rows ctx base e x) (sym (ap (expr_kind m) c.in-Call.is ∙ expr_kind-Call_to _ m c.in-Call.target c.in-Call.name c.in-Call.args)) (meant.call_means B rows are p knows base m (target_of c.in-Call.target) (word_of c.in-Call.name) (exprs_of c.in-Call.args.items) c.span-at.result.from c.span-at_name-in-Call.result.from (shown rows (arm.call_answer rows p.class p.is_static c.in_ok-target-in-Call.target c.in-Call.name.name (kinds_of c.in_ok-kinds-in-Call.kinds))) x start (meant.call_is B rows are p knows (target_of c.in-Call.target) (B m base) c.in_ok-target-in-Call.target (subst (λ n. TargetMeans B rows ctx n (target_of c.in-Call.target) c.in_ok-target-in-Call.target) start c.in_ok-target-in-Call.ensures.means) c.in-Call.name.name (exprs_of c.in-Call.args.items) (kinds_of c.in_ok-kinds-in-Call.kinds) (c.in_ok-kinds-in-Call.ensures.kinds ∙ (λ i. option_map (map (kind_of rows)) (types_of rows ctx (exprs_of (c.deref-in-Call.ensures.value i)))))) h)) c.call.ensures.says

pub walk_parts-returns-in_ok-kinds-in-Call-clause-notes : goal.walk_parts-returns-in_ok-kinds-in-Call-clause-notes
unfolding expr_kind expr_row held_target
walk_parts-returns-in_ok-kinds-in-Call-clause-notes g t c =
    let B = λ (m : g.row.A.Denot) (b : ℕ). (g.A.Mark.span_from m b).from in
    let base = c.args.base in
    let m = c.args.of.now.mark in
    let start : c.span-at.result.from ≡ B m base = ap (λ (z : Span). z.from) c.span-at.ensures in
    let rows = c.args.table.now in
    let are = c.keeps_rows.ensures in
    let p = c.args.place.now in
    let knows = c.requires.knows in
    let ctx = context_of p in
    let k = member_of p in
    let r = role_of c.args.role in
    let old = notes_of rows k c.args.log.now.items in
    IfOk-both c.call.result _ _ _ (λ x g' h. subst (λ e. Adds old (walks.notes_of B rows ctx r base e) (notes_of rows k c.call.new.log.items)) (sym (ap (expr_kind m) c.in-Call.is ∙ expr_kind-Call_to _ m c.in-Call.target c.in-Call.name c.in-Call.args)) (noted.call_noted B rows are p knows r base m c.span-at.result.from start (word_of c.in-Call.name) c.span-at_name-in-Call.result.from (ap (λ (z : Span). z.from) c.span-at_name-in-Call.ensures ∙ (λ i. B c.in-Call.name.mark (start i))) (target_of c.in-Call.target) (exprs_of c.in-Call.args.items) c.in_ok-target-in-Call.target (subst (λ n. TargetMeans B rows ctx n (target_of c.in-Call.target) c.in_ok-target-in-Call.target) start c.in_ok-target-in-Call.ensures.means) x (shown rows (arm.call_answer rows p.class p.is_static c.in_ok-target-in-Call.target c.in-Call.name.name (kinds_of c.in_ok-kinds-in-Call.kinds))) (meant.call_is B rows are p knows (target_of c.in-Call.target) (B m base) c.in_ok-target-in-Call.target (subst (λ n. TargetMeans B rows ctx n (target_of c.in-Call.target) c.in_ok-target-in-Call.target) start c.in_ok-target-in-Call.ensures.means) c.in-Call.name.name (exprs_of c.in-Call.args.items) (kinds_of c.in_ok-kinds-in-Call.kinds) (c.in_ok-kinds-in-Call.ensures.kinds ∙ (λ i. option_map (map (kind_of rows)) (types_of rows ctx (exprs_of (c.deref-in-Call.ensures.value i)))))) (meant.call_means B rows are p knows base m (target_of c.in-Call.target) (word_of c.in-Call.name) (exprs_of c.in-Call.args.items) c.span-at.result.from c.span-at_name-in-Call.result.from (shown rows (arm.call_answer rows p.class p.is_static c.in_ok-target-in-Call.target c.in-Call.name.name (kinds_of c.in_ok-kinds-in-Call.kinds))) x start (meant.call_is B rows are p knows (target_of c.in-Call.target) (B m base) c.in_ok-target-in-Call.target (subst (λ n. TargetMeans B rows ctx n (target_of c.in-Call.target) c.in_ok-target-in-Call.target) start c.in_ok-target-in-Call.ensures.means) c.in-Call.name.name (exprs_of c.in-Call.args.items) (kinds_of c.in_ok-kinds-in-Call.kinds) (c.in_ok-kinds-in-Call.ensures.kinds ∙ (λ i. option_map (map (kind_of rows)) (types_of rows ctx (exprs_of (c.deref-in-Call.ensures.value i)))))) g') old (notes_of rows k c.walk_target.new.log.items) (notes_of rows k c.walk_args.new.log.items) (notes_of rows k c.call.new.log.items) (subst (λ (xs : List Note). Adds old xs (notes_of rows k c.walk_target.new.log.items)) (λ i. walks.target_notes B rows ctx (start i) (target_of c.in-Call.target)) c.in_ok-target-in-Call.ensures.notes) (subst (λ (xs : List Note). Adds (notes_of rows k c.walk_target.new.log.items) xs (notes_of rows k c.walk_args.new.log.items)) (λ i. walks.args_notes B rows ctx (start i) (exprs_of (c.deref-in-Call.ensures.value i))) c.in_ok-kinds-in-Call.ensures.notes) h)) c.call.ensures.says c.call.ensures.notes

pub walk_parts-returns-in_ok-kinds-in-SuperCall-clause-means : goal.walk_parts-returns-in_ok-kinds-in-SuperCall-clause-means
unfolding expr_kind expr_row held_target
walk_parts-returns-in_ok-kinds-in-SuperCall-clause-means g t c =
    let B = λ (m : g.row.A.Denot) (b : ℕ). (g.A.Mark.span_from m b).from in
    let base = c.args.base in
    let m = c.args.of.now.mark in
    let start : c.span-at.result.from ≡ B m base = ap (λ (z : Span). z.from) c.span-at.ensures in
    let rows = c.args.table.now in
    let are = c.keeps_rows.ensures in
    let p = c.args.place.now in
    let knows = c.requires.knows in
    let ctx = context_of p in
    IfOk-weaker c.super_call.result _ _ (λ x h. subst (λ e. Means B rows ctx base e x) (sym (ap (expr_kind m) c.in-SuperCall.is ∙ expr_kind-SuperCall _ m c.in-SuperCall.name c.in-SuperCall.args)) (meant.super_call_means B rows are p knows base m (word_of c.in-SuperCall.name) (exprs_of c.in-SuperCall.args.items) c.span-at.result.from c.span-at_name-in-SuperCall.result.from (shown rows (arm.super_answer rows p.class c.in-SuperCall.name.name (kinds_of c.in_ok-kinds-in-SuperCall.kinds))) x start (meant.super_call_is B rows are p knows c.in-SuperCall.name.name (exprs_of c.in-SuperCall.args.items) (kinds_of c.in_ok-kinds-in-SuperCall.kinds) (c.in_ok-kinds-in-SuperCall.ensures.kinds ∙ (λ i. option_map (map (kind_of rows)) (types_of rows ctx (exprs_of (c.deref-in-SuperCall.ensures.value i)))))) h)) c.super_call.ensures.says

pub walk_parts-returns-in_ok-kinds-in-SuperCall-clause-notes : goal.walk_parts-returns-in_ok-kinds-in-SuperCall-clause-notes
unfolding expr_kind expr_row held_target
walk_parts-returns-in_ok-kinds-in-SuperCall-clause-notes g t c =
    let B = λ (m : g.row.A.Denot) (b : ℕ). (g.A.Mark.span_from m b).from in
    let base = c.args.base in
    let m = c.args.of.now.mark in
    let start : c.span-at.result.from ≡ B m base = ap (λ (z : Span). z.from) c.span-at.ensures in
    let rows = c.args.table.now in
    let are = c.keeps_rows.ensures in
    let p = c.args.place.now in
    let knows = c.requires.knows in
    let ctx = context_of p in
    let k = member_of p in
    let r = role_of c.args.role in
    let old = notes_of rows k c.args.log.now.items in
    IfOk-both c.super_call.result _ _ _ (λ x g' h. subst (λ e. Adds old (walks.notes_of B rows ctx r base e) (notes_of rows k c.super_call.new.log.items)) (sym (ap (expr_kind m) c.in-SuperCall.is ∙ expr_kind-SuperCall _ m c.in-SuperCall.name c.in-SuperCall.args)) (noted.super_call_noted B rows are p knows r base m c.span-at.result.from start (word_of c.in-SuperCall.name) c.span-at_name-in-SuperCall.result.from (ap (λ (z : Span). z.from) c.span-at_name-in-SuperCall.ensures ∙ (λ i. B c.in-SuperCall.name.mark (start i))) (exprs_of c.in-SuperCall.args.items) x (shown rows (arm.super_answer rows p.class c.in-SuperCall.name.name (kinds_of c.in_ok-kinds-in-SuperCall.kinds))) (meant.super_call_is B rows are p knows c.in-SuperCall.name.name (exprs_of c.in-SuperCall.args.items) (kinds_of c.in_ok-kinds-in-SuperCall.kinds) (c.in_ok-kinds-in-SuperCall.ensures.kinds ∙ (λ i. option_map (map (kind_of rows)) (types_of rows ctx (exprs_of (c.deref-in-SuperCall.ensures.value i)))))) (meant.super_call_means B rows are p knows base m (word_of c.in-SuperCall.name) (exprs_of c.in-SuperCall.args.items) c.span-at.result.from c.span-at_name-in-SuperCall.result.from (shown rows (arm.super_answer rows p.class c.in-SuperCall.name.name (kinds_of c.in_ok-kinds-in-SuperCall.kinds))) x start (meant.super_call_is B rows are p knows c.in-SuperCall.name.name (exprs_of c.in-SuperCall.args.items) (kinds_of c.in_ok-kinds-in-SuperCall.kinds) (c.in_ok-kinds-in-SuperCall.ensures.kinds ∙ (λ i. option_map (map (kind_of rows)) (types_of rows ctx (exprs_of (c.deref-in-SuperCall.ensures.value i)))))) g') old (notes_of rows k c.walk_args-in-SuperCall.new.log.items) (notes_of rows k c.super_call.new.log.items) (subst (λ (xs : List Note). Adds old xs (notes_of rows k c.walk_args-in-SuperCall.new.log.items)) (λ i. walks.args_notes B rows ctx (start i) (exprs_of (c.deref-in-SuperCall.ensures.value i))) c.in_ok-kinds-in-SuperCall.ensures.notes) h)) c.super_call.ensures.says c.super_call.ensures.notes

pub walk_parts-returns-in_ok-kinds-in-New-clause-means : goal.walk_parts-returns-in_ok-kinds-in-New-clause-means
unfolding expr_kind expr_row held_target
walk_parts-returns-in_ok-kinds-in-New-clause-means g t c =
    let B = λ (m : g.row.A.Denot) (b : ℕ). (g.A.Mark.span_from m b).from in
    let base = c.args.base in
    let m = c.args.of.now.mark in
    let start : c.span-at.result.from ≡ B m base = ap (λ (z : Span). z.from) c.span-at.ensures in
    let rows = c.args.table.now in
    let are = c.keeps_rows.ensures in
    let p = c.args.place.now in
    let knows = c.requires.knows in
    let ctx = context_of p in
    IfOk-weaker c.create.result _ _ (λ x h. subst (λ e. Means B rows ctx base e x) (sym (ap (expr_kind m) c.in-New.is ∙ expr_kind-New _ m c.in-New.ty c.in-New.args)) (subst (λ y. Means B rows ctx base (tree.create m (type_of c.in-New.ty.value) (exprs_of c.in-New.args.items)) y) (sym h) (meant.create_means B rows are p knows base m (type_of c.in-New.ty.value) (exprs_of c.in-New.args.items) c.span-at.result.from c.in_ok-kind-in-New.kind (shown rows (arm.ctor_answer rows p.class (class_in c.in_ok-kind-in-New.kind) (kinds_of c.in_ok-kinds-in-New.kinds))) start c.in_ok-kind-in-New.ensures.kind (meant.ctor_is B rows are p knows (type_of c.in-New.ty.value) c.in_ok-kind-in-New.kind c.in_ok-kind-in-New.ensures.kind (exprs_of c.in-New.args.items) (kinds_of c.in_ok-kinds-in-New.kinds) (c.in_ok-kinds-in-New.ensures.kinds ∙ (λ i. option_map (map (kind_of rows)) (types_of rows ctx (exprs_of (c.deref-in-New.ensures.value i))))))))) c.create.ensures.says

pub walk_parts-returns-in_ok-kinds-in-New-clause-notes : goal.walk_parts-returns-in_ok-kinds-in-New-clause-notes
unfolding expr_kind expr_row held_target
walk_parts-returns-in_ok-kinds-in-New-clause-notes g t c =
    let B = λ (m : g.row.A.Denot) (b : ℕ). (g.A.Mark.span_from m b).from in
    let base = c.args.base in
    let m = c.args.of.now.mark in
    let start : c.span-at.result.from ≡ B m base = ap (λ (z : Span). z.from) c.span-at.ensures in
    let rows = c.args.table.now in
    let are = c.keeps_rows.ensures in
    let p = c.args.place.now in
    let knows = c.requires.knows in
    let ctx = context_of p in
    let k = member_of p in
    let r = role_of c.args.role in
    let old = notes_of rows k c.args.log.now.items in
    IfOk-weaker c.create.result _ _ (λ x h. subst (λ e. Adds old (walks.notes_of B rows ctx r base e) (notes_of rows k c.create.new.log.items)) (sym (ap (expr_kind m) c.in-New.is ∙ expr_kind-New _ m c.in-New.ty c.in-New.args)) (noted.create_noted B rows are p knows r base m c.span-at.result.from start (type_of c.in-New.ty.value) (exprs_of c.in-New.args.items) (shown rows (arm.ctor_answer rows p.class (class_in c.in_ok-kind-in-New.kind) (kinds_of c.in_ok-kinds-in-New.kinds))) (meant.ctor_is B rows are p knows (type_of c.in-New.ty.value) c.in_ok-kind-in-New.kind c.in_ok-kind-in-New.ensures.kind (exprs_of c.in-New.args.items) (kinds_of c.in_ok-kinds-in-New.kinds) (c.in_ok-kinds-in-New.ensures.kinds ∙ (λ i. option_map (map (kind_of rows)) (types_of rows ctx (exprs_of (c.deref-in-New.ensures.value i)))))) old (notes_of rows k c.boxed_type.new.log.items) (notes_of rows k c.walk_args-in-New.new.log.items) (notes_of rows k c.create.new.log.items) c.in_ok-kind-in-New.ensures.notes (subst (λ (xs : List Note). Adds (notes_of rows k c.boxed_type.new.log.items) xs (notes_of rows k c.walk_args-in-New.new.log.items)) (λ i. walks.args_notes B rows ctx (start i) (exprs_of (c.deref-in-New.ensures.value i))) c.in_ok-kinds-in-New.ensures.notes) h)) c.create.ensures.notes

pub walk_target-walk_expr-requires : goal.walk_target-walk_expr-requires
unfolding exp_size exps_size target_size expr_kind expr_row held_target FitsExp FitsTarget FitsExps
walk_target-walk_expr-requires g t c =
    let B = λ (m : g.row.A.Denot) (b : ℕ). (g.A.Mark.span_from m b).from in
    let F = g.A.Mark.fits_at in
    let f = subst (λ (o : _). FitsTarget B F c.args.at (target_of o)) c.in-Some.is c.requires.fits in
    λ κs o. (held_falls _ _ t (ap (λ (x : Expr g.row.A.Denot). exp_size (expr_of x)) c.deref.ensures ∙ sym (ap (λ o. target_size (target_of o)) c.in-Some.is)) c.decreases, (o, (c.requires.knows, shown_fits B F _ _ _ _ refl c.deref.ensures f)))

pub walk_target-returns-in-None-clause-notes : goal.walk_target-returns-in-None-clause-notes
unfolding walks.notes_of walks.target_notes walks.args_notes
walk_target-returns-in-None-clause-notes g t c =
    let B = λ (m : g.row.A.Denot) (b : ℕ). (g.A.Mark.span_from m b).from in
    let rows = c.args.table.now in
    let ctx = context_of c.args.place.now in
    let k = member_of c.args.place.now in
    let old = notes_of rows k c.args.log.now.items in
    subst (λ o. Adds old (walks.target_notes B rows ctx c.args.at (target_of o)) old) (sym c.in-None.is) (adds_none old)

pub walk_target-returns-in_ok-of-in-Some-clause-notes : goal.walk_target-returns-in_ok-of-in-Some-clause-notes
unfolding walks.notes_of walks.target_notes walks.args_notes
walk_target-returns-in_ok-of-in-Some-clause-notes g t c =
    let B = λ (m : g.row.A.Denot) (b : ℕ). (g.A.Mark.span_from m b).from in
    let rows = c.args.table.now in
    let ctx = context_of c.args.place.now in
    let k = member_of c.args.place.now in
    let old = notes_of rows k c.args.log.now.items in
    subst (λ o. Adds old (walks.target_notes B rows ctx c.args.at (target_of o)) (notes_of rows k c.walk_expr.new.log.items)) (sym c.in-Some.is)
    (subst (λ (xs : List Note). Adds old xs (notes_of rows k c.walk_expr.new.log.items)) (λ i. walks.notes_of B rows ctx left c.args.at (expr_of (c.deref.ensures i))) c.in_ok-of-in-Some.ensures.notes)

pub walk_args-walk_expr-requires : goal.walk_args-walk_expr-requires
unfolding exp_size exps_size target_size expr_kind expr_row held_target FitsExp FitsTarget FitsExps
walk_args-walk_expr-requires g t c =
    let B = λ (m : g.row.A.Denot) (b : ℕ). (g.A.Mark.span_from m b).from in
    let F = g.A.Mark.fits_at in
    let f = left_fits B F c.args.at c.args.parts.now c.loop-part.part-index c.part-item.result c.loop-part-test.true c.part-item.is c.loop-part.invariant.fits in
    λ κs o. (item_falls _ _ t (falls_item (λ (x : Expr g.row.A.Denot). exp_size (expr_of x)) (λ (xs : List (Expr g.row.A.Denot)). exps_size (exprs_of xs)) (λ x xs. refl) c.args.parts.now c.loop-part.part-index c.part-item.result _ c.loop-part-test.true c.part-item.is refl) c.decreases, (o, (c.requires.knows, f.0)))

pub walk_args-loop-part-init : goal.walk_args-loop-part-init
walk_args-loop-part-init g t c = record {
  fits = c.requires.fits;
  notes = λ last h. h;
  slots = refl;
  kinds = ap (λ ks. joined ks (option_map (map (kind_of c.args.table.now)) (types_of c.args.table.now (context_of c.args.place.now) (exprs_of c.args.parts.now)))) c.new-kinds.ensures ∙ none_joined _;
}

pub walk_args-loop-part-preserved : goal.walk_args-loop-part-preserved
walk_args-loop-part-preserved g t c =
    let B = λ (m : g.row.A.Denot) (b : ℕ). (g.A.Mark.span_from m b).from in
    let rows = c.args.table.now in
    let ctx = context_of c.args.place.now in
    let k = member_of c.args.place.now in
    let F = g.A.Mark.fits_at in
    let i = c.loop-part.part-index in
    let parts = c.args.parts.now in
    let x = c.part-item.result in
    let f = left_fits B F c.args.at parts i x c.loop-part-test.true c.part-item.is c.loop-part.invariant.fits in
    let so_far = notes_of rows k c.loop-part.log.items in
    let next = notes_of rows k c.walk_expr.new.log.items in
    let more = left_notes B rows ctx c.args.at parts i x c.loop-part-test.true c.part-item.is in
    record {
      fits = f.1;
      notes = λ last h. c.loop-part.invariant.notes last (subst (λ (xs : List Note). Adds so_far xs last) (sym more) (adds_then so_far next last _ _ c.in_ok-of.ensures.notes h));
      slots = next_slots rows ctx parts i x c.loop-part-test.true c.part-item.is _ _ _ c.in_ok-of.ensures.slots c.loop-part.invariant.slots;
      kinds = (λ j. joined ((c.in_ok-put.ensures ∙ ap (with_last (kinds_of c.loop-part.kinds)) c.in_ok-of.ensures.means.kind) j) (option_map (map (kind_of rows)) (types_of rows ctx (exprs_of (drop (i + 1) parts)))))
          ∙ sym (left_kinds rows ctx parts i x (kinds_of c.loop-part.kinds) c.loop-part-test.true c.part-item.is) ∙ c.loop-part.invariant.kinds;
    }

pub walk_args-returns-clause-kinds : goal.walk_args-returns-clause-kinds
walk_args-returns-clause-kinds g t c =
    let rows = c.args.table.now in
    let ctx = context_of c.args.place.now in
    sym (kinds_end rows ctx c.args.parts.now c.loop-part.part-index (kinds_of c.loop-part.kinds) c.loop-part-test.false) ∙ c.loop-part.invariant.kinds

pub walk_args-returns-clause-notes : goal.walk_args-returns-clause-notes
walk_args-returns-clause-notes g t c =
    let B = λ (m : g.row.A.Denot) (b : ℕ). (g.A.Mark.span_from m b).from in
    let rows = c.args.table.now in
    let ctx = context_of c.args.place.now in
    let k = member_of c.args.place.now in
    let so_far = notes_of rows k c.loop-part.log.items in
    c.loop-part.invariant.notes so_far (subst (λ (xs : List Note). Adds so_far xs so_far) (sym (row_ends B rows ctx c.args.at c.args.parts.now c.loop-part.part-index c.loop-part-test.false)) (adds_none so_far))

pub walk_parts-returns-in-Int-clause-slots : goal.walk_parts-returns-in-Int-clause-slots
unfolding exp_parts target_parts put_row expr_kind expr_row held_target
walk_parts-returns-in-Int-clause-slots g t c =
    let rows = c.args.table.now in
    let ctx = context_of c.args.place.now in
    let m = c.args.of.now.mark in
    let front = c.args.types.now in
    let shape = ap (λ e. front ++ flats (exp_parts rows ctx e)) (ap (expr_kind m) c.in-Int.is) in
    let h0 = start_of front in
    h0 ∙ sym shape

pub walk_parts-returns-in-Bool-clause-slots : goal.walk_parts-returns-in-Bool-clause-slots
unfolding exp_parts target_parts put_row expr_kind expr_row held_target
walk_parts-returns-in-Bool-clause-slots g t c =
    let rows = c.args.table.now in
    let ctx = context_of c.args.place.now in
    let m = c.args.of.now.mark in
    let front = c.args.types.now in
    let shape = ap (λ e. front ++ flats (exp_parts rows ctx e)) (ap (expr_kind m) c.in-Bool.is) in
    let h0 = start_of front in
    h0 ∙ sym shape

pub walk_parts-returns-in-Null-clause-slots : goal.walk_parts-returns-in-Null-clause-slots
unfolding exp_parts target_parts put_row expr_kind expr_row held_target
walk_parts-returns-in-Null-clause-slots g t c =
    let rows = c.args.table.now in
    let ctx = context_of c.args.place.now in
    let m = c.args.of.now.mark in
    let front = c.args.types.now in
    let shape = ap (λ e. front ++ flats (exp_parts rows ctx e)) (ap (expr_kind m) c.in-Null.is) in
    let h0 = start_of front in
    h0 ∙ sym shape

pub walk_parts-returns-in-Text-clause-slots : goal.walk_parts-returns-in-Text-clause-slots
unfolding exp_parts target_parts put_row expr_kind expr_row held_target
walk_parts-returns-in-Text-clause-slots g t c =
    let rows = c.args.table.now in
    let ctx = context_of c.args.place.now in
    let m = c.args.of.now.mark in
    let front = c.args.types.now in
    let shape = ap (λ e. front ++ flats (exp_parts rows ctx e)) (ap (expr_kind m) c.in-Text.is) in
    let h0 = start_of front in
    h0 ∙ sym shape

pub walk_parts-returns-in-This-clause-slots : goal.walk_parts-returns-in-This-clause-slots
unfolding exp_parts target_parts put_row expr_kind expr_row held_target
walk_parts-returns-in-This-clause-slots g t c =
    let rows = c.args.table.now in
    let ctx = context_of c.args.place.now in
    let m = c.args.of.now.mark in
    let front = c.args.types.now in
    let shape = ap (λ e. front ++ flats (exp_parts rows ctx e)) (ap (expr_kind m) c.in-This.is) in
    let h0 = start_of front in
    IfOk-any c.this.result _ (h0 ∙ sym shape)

pub walk_parts-returns-in_ok-put_leaf-in-ClassLit-clause-slots : goal.walk_parts-returns-in_ok-put_leaf-in-ClassLit-clause-slots
unfolding exp_parts target_parts put_row expr_kind expr_row held_target
walk_parts-returns-in_ok-put_leaf-in-ClassLit-clause-slots g t c =
    let rows = c.args.table.now in
    let ctx = context_of c.args.place.now in
    let m = c.args.of.now.mark in
    let front = c.args.types.now in
    let shape = ap (λ e. front ++ flats (exp_parts rows ctx e)) (ap (expr_kind m) c.in-ClassLit.is) in
    let h0 = start_of front in
    let h1 = add front none leaf _ _ h0 c.in_ok-put_leaf-in-ClassLit.ensures in
    IfOk-any c.class_literal.result _ (h1 ∙ sym shape)

pub walk_parts-returns-in_ok-put_leaf-in-Simple-clause-slots : goal.walk_parts-returns-in_ok-put_leaf-in-Simple-clause-slots
unfolding exp_parts target_parts put_row expr_kind expr_row held_target
walk_parts-returns-in_ok-put_leaf-in-Simple-clause-slots g t c =
    let rows = c.args.table.now in
    let ctx = context_of c.args.place.now in
    let m = c.args.of.now.mark in
    let front = c.args.types.now in
    let shape = ap (λ e. front ++ flats (exp_parts rows ctx e)) (ap (expr_kind m) c.in-Simple.is) in
    let h0 = start_of front in
    let h1 = add front none leaf _ _ h0 c.in_ok-put_leaf-in-Simple.ensures in
    IfOk-any c.simple.result _ (h1 ∙ sym shape)

pub walk_parts-returns-in_ok-put_leaf-in-SuperField-clause-slots : goal.walk_parts-returns-in_ok-put_leaf-in-SuperField-clause-slots
unfolding exp_parts target_parts put_row expr_kind expr_row held_target
walk_parts-returns-in_ok-put_leaf-in-SuperField-clause-slots g t c =
    let rows = c.args.table.now in
    let ctx = context_of c.args.place.now in
    let m = c.args.of.now.mark in
    let front = c.args.types.now in
    let shape = ap (λ e. front ++ flats (exp_parts rows ctx e)) (ap (expr_kind m) c.in-SuperField.is) in
    let h0 = start_of front in
    let h1 = add front none leaf _ _ h0 c.in_ok-put_leaf-in-SuperField.ensures in
    IfOk-any c.super_field.result _ (h1 ∙ sym shape)

pub walk_parts-returns-in_ok-put_leaf-in-Field-clause-slots : goal.walk_parts-returns-in_ok-put_leaf-in-Field-clause-slots
unfolding exp_parts target_parts put_row expr_kind expr_row held_target
walk_parts-returns-in_ok-put_leaf-in-Field-clause-slots g t c =
    let rows = c.args.table.now in
    let ctx = context_of c.args.place.now in
    let m = c.args.of.now.mark in
    let front = c.args.types.now in
    let shape = ap (λ e. front ++ flats (exp_parts rows ctx e)) (ap (expr_kind m) c.in-Field.is) in
    let h0 = start_of front in
    let h1 = add_same front none (exp_tree rows ctx (expr_of c.in-Field.part.value)) _ _ _ h0 c.in_ok-of-in-Field.ensures.slots (ap (λ x. exp_tree rows ctx (expr_of x)) c.deref.ensures) in
    let h2 = add front (put none (exp_tree rows ctx (expr_of c.in-Field.part.value))) leaf _ _ h1 c.in_ok-put_leaf-in-Field.ensures in
    IfOk-any c.field.result _ (h2 ∙ sym shape)

pub walk_parts-returns-in_ok-of-in-Unary-clause-slots : goal.walk_parts-returns-in_ok-of-in-Unary-clause-slots
unfolding exp_parts target_parts put_row expr_kind expr_row held_target
walk_parts-returns-in_ok-of-in-Unary-clause-slots g t c =
    let rows = c.args.table.now in
    let ctx = context_of c.args.place.now in
    let m = c.args.of.now.mark in
    let front = c.args.types.now in
    let shape = ap (λ e. front ++ flats (exp_parts rows ctx e)) (ap (expr_kind m) c.in-Unary.is) in
    let h0 = start_of front in
    let h1 = add_same front none (exp_tree rows ctx (expr_of c.in-Unary.part.value)) _ _ _ h0 c.in_ok-of-in-Unary.ensures.slots (ap (λ x. exp_tree rows ctx (expr_of x)) c.deref-in-Unary.ensures) in
    IfOk-any c.unary.result _ (h1 ∙ sym shape)

pub walk_parts-returns-in_ok-of-in-Bump-clause-slots : goal.walk_parts-returns-in_ok-of-in-Bump-clause-slots
unfolding exp_parts target_parts put_row expr_kind expr_row held_target
walk_parts-returns-in_ok-of-in-Bump-clause-slots g t c =
    let rows = c.args.table.now in
    let ctx = context_of c.args.place.now in
    let m = c.args.of.now.mark in
    let front = c.args.types.now in
    let shape = ap (λ e. front ++ flats (exp_parts rows ctx e)) (ap (expr_kind m) c.in-Bump.is) in
    let h0 = start_of front in
    let h1 = add_same front none (exp_tree rows ctx (expr_of c.in-Bump.part.value)) _ _ _ h0 c.in_ok-of-in-Bump.ensures.slots (ap (λ x. exp_tree rows ctx (expr_of x)) c.deref-in-Bump.ensures) in
    IfOk-any c.bump.result _ (h1 ∙ sym shape)

pub walk_parts-returns-in_ok-of-in-Paren-clause-slots : goal.walk_parts-returns-in_ok-of-in-Paren-clause-slots
unfolding exp_parts target_parts put_row expr_kind expr_row held_target
walk_parts-returns-in_ok-of-in-Paren-clause-slots g t c =
    let rows = c.args.table.now in
    let ctx = context_of c.args.place.now in
    let m = c.args.of.now.mark in
    let front = c.args.types.now in
    let shape = ap (λ e. front ++ flats (exp_parts rows ctx e)) (ap (expr_kind m) c.in-Paren.is) in
    let h0 = start_of front in
    let h1 = add_same front none (exp_tree rows ctx (expr_of c.in-Paren.part.value)) _ _ _ h0 c.in_ok-of-in-Paren.ensures.slots (ap (λ x. exp_tree rows ctx (expr_of x)) c.deref-in-Paren.ensures) in
    h1 ∙ sym shape

pub walk_parts-returns-in_ok-of-in-Cast-clause-slots : goal.walk_parts-returns-in_ok-of-in-Cast-clause-slots
unfolding exp_parts target_parts put_row expr_kind expr_row held_target
walk_parts-returns-in_ok-of-in-Cast-clause-slots g t c =
    let rows = c.args.table.now in
    let ctx = context_of c.args.place.now in
    let m = c.args.of.now.mark in
    let front = c.args.types.now in
    let shape = ap (λ e. front ++ flats (exp_parts rows ctx e)) (ap (expr_kind m) c.in-Cast.is) in
    let h0 = start_of front in
    let h1 = add front none leaf _ _ h0 c.in_ok-put_leaf-in-Cast.ensures in
    let h2 = add_same front (put none leaf) (exp_tree rows ctx (expr_of c.in-Cast.part.value)) _ _ _ h1 c.in_ok-of-in-Cast.ensures.slots (ap (λ x. exp_tree rows ctx (expr_of x)) c.deref-in-Cast.ensures) in
    IfOk-any c.cast.result _ (h2 ∙ sym shape)

pub walk_parts-returns-in_ok-right-in-Binary-clause-slots : goal.walk_parts-returns-in_ok-right-in-Binary-clause-slots
unfolding exp_parts target_parts put_row expr_kind expr_row held_target
walk_parts-returns-in_ok-right-in-Binary-clause-slots g t c =
    let rows = c.args.table.now in
    let ctx = context_of c.args.place.now in
    let m = c.args.of.now.mark in
    let front = c.args.types.now in
    let shape = ap (λ e. front ++ flats (exp_parts rows ctx e)) (ap (expr_kind m) c.in-Binary.is) in
    let h0 = start_of front in
    let h1 = add_same front none (exp_tree rows ctx (expr_of c.in-Binary.left.value)) _ _ _ h0 c.in_ok-left-in-Binary.ensures.slots (ap (λ x. exp_tree rows ctx (expr_of x)) c.deref-in-Binary.ensures) in
    let h2 = add_same front (put none (exp_tree rows ctx (expr_of c.in-Binary.left.value))) (exp_tree rows ctx (expr_of c.in-Binary.right.value)) _ _ _ h1 c.in_ok-right-in-Binary.ensures.slots (ap (λ x. exp_tree rows ctx (expr_of x)) c.deref-in-Binary-2.ensures) in
    IfOk-any c.binary.result _ (h2 ∙ sym shape)

pub walk_parts-returns-in_ok-value-in-Assign-clause-slots : goal.walk_parts-returns-in_ok-value-in-Assign-clause-slots
unfolding exp_parts target_parts put_row expr_kind expr_row held_target
walk_parts-returns-in_ok-value-in-Assign-clause-slots g t c =
    let rows = c.args.table.now in
    let ctx = context_of c.args.place.now in
    let m = c.args.of.now.mark in
    let front = c.args.types.now in
    let shape = ap (λ e. front ++ flats (exp_parts rows ctx e)) (ap (expr_kind m) c.in-Assign.is) in
    let h0 = start_of front in
    let h1 = add_same front none (exp_tree rows ctx (expr_of c.in-Assign.to.value)) _ _ _ h0 c.in_ok-to-in-Assign.ensures.slots (ap (λ x. exp_tree rows ctx (expr_of x)) c.deref-in-Assign.ensures) in
    let h2 = add_same front (put none (exp_tree rows ctx (expr_of c.in-Assign.to.value))) (exp_tree rows ctx (expr_of c.in-Assign.value.value)) _ _ _ h1 c.in_ok-value-in-Assign.ensures.slots (ap (λ x. exp_tree rows ctx (expr_of x)) c.deref-in-Assign-2.ensures) in
    IfOk-any c.assign.result _ (h2 ∙ sym shape)

pub walk_parts-returns-in_ok-value-in-Compound-clause-slots : goal.walk_parts-returns-in_ok-value-in-Compound-clause-slots
unfolding exp_parts target_parts put_row expr_kind expr_row held_target
walk_parts-returns-in_ok-value-in-Compound-clause-slots g t c =
    let rows = c.args.table.now in
    let ctx = context_of c.args.place.now in
    let m = c.args.of.now.mark in
    let front = c.args.types.now in
    let shape = ap (λ e. front ++ flats (exp_parts rows ctx e)) (ap (expr_kind m) c.in-Compound.is) in
    let h0 = start_of front in
    let h1 = add_same front none (exp_tree rows ctx (expr_of c.in-Compound.to.value)) _ _ _ h0 c.in_ok-to-in-Compound.ensures.slots (ap (λ x. exp_tree rows ctx (expr_of x)) c.deref-in-Compound.ensures) in
    let h2 = add_same front (put none (exp_tree rows ctx (expr_of c.in-Compound.to.value))) (exp_tree rows ctx (expr_of c.in-Compound.value.value)) _ _ _ h1 c.in_ok-value-in-Compound.ensures.slots (ap (λ x. exp_tree rows ctx (expr_of x)) c.deref-in-Compound-2.ensures) in
    IfOk-any c.compound.result _ (h2 ∙ sym shape)

pub walk_parts-returns-in_ok-kinds-in-Call-clause-slots : goal.walk_parts-returns-in_ok-kinds-in-Call-clause-slots
unfolding exp_parts target_parts put_row expr_kind expr_row held_target
walk_parts-returns-in_ok-kinds-in-Call-clause-slots g t c =
    let rows = c.args.table.now in
    let ctx = context_of c.args.place.now in
    let m = c.args.of.now.mark in
    let front = c.args.types.now in
    let shape = ap (λ e. front ++ flats (exp_parts rows ctx e)) (ap (expr_kind m) c.in-Call.is ∙ expr_kind-Call_to _ m c.in-Call.target c.in-Call.name c.in-Call.args) in
    let h1 = c.in_ok-target-in-Call.ensures.slots in
    let h2 = add front (target_parts rows ctx (target_of c.in-Call.target)) leaf _ _ h1 c.in_ok-put_leaf-in-Call.ensures in
    let h3 = add_row_same rows ctx front (put (target_parts rows ctx (target_of c.in-Call.target)) leaf) (exprs_of c.in-Call.args.items) _ _ _ h2 c.in_ok-kinds-in-Call.ensures.slots (ap exprs_of c.deref-in-Call.ensures.value) in
    IfOk-any c.call.result _ (h3 ∙ sym shape)

pub walk_parts-returns-in_ok-kinds-in-SuperCall-clause-slots : goal.walk_parts-returns-in_ok-kinds-in-SuperCall-clause-slots
unfolding exp_parts target_parts put_row expr_kind expr_row held_target
walk_parts-returns-in_ok-kinds-in-SuperCall-clause-slots g t c =
    let rows = c.args.table.now in
    let ctx = context_of c.args.place.now in
    let m = c.args.of.now.mark in
    let front = c.args.types.now in
    let shape = ap (λ e. front ++ flats (exp_parts rows ctx e)) (ap (expr_kind m) c.in-SuperCall.is ∙ expr_kind-SuperCall _ m c.in-SuperCall.name c.in-SuperCall.args) in
    let h0 = start_of front in
    let h1 = add front none leaf _ _ h0 c.in_ok-put_leaf-in-SuperCall.ensures in
    let h2 = add_row_same rows ctx front (put none leaf) (exprs_of c.in-SuperCall.args.items) _ _ _ h1 c.in_ok-kinds-in-SuperCall.ensures.slots (ap exprs_of c.deref-in-SuperCall.ensures.value) in
    IfOk-any c.super_call.result _ (h2 ∙ sym shape)

pub walk_parts-returns-in_ok-kinds-in-New-clause-slots : goal.walk_parts-returns-in_ok-kinds-in-New-clause-slots
unfolding exp_parts target_parts put_row expr_kind expr_row held_target
walk_parts-returns-in_ok-kinds-in-New-clause-slots g t c =
    let rows = c.args.table.now in
    let ctx = context_of c.args.place.now in
    let m = c.args.of.now.mark in
    let front = c.args.types.now in
    let shape = ap (λ e. front ++ flats (exp_parts rows ctx e)) (ap (expr_kind m) c.in-New.is ∙ expr_kind-New _ m c.in-New.ty c.in-New.args) in
    let h0 = start_of front in
    let h1 = add front none leaf _ _ h0 c.in_ok-put_leaf-in-New.ensures in
    let h2 = add_row_same rows ctx front (put none leaf) (exprs_of c.in-New.args.items) _ _ _ h1 c.in_ok-kinds-in-New.ensures.slots (ap exprs_of c.deref-in-New.ensures.value) in
    IfOk-any c.create.result _ (h2 ∙ sym shape)

pub walk_target-returns-in-None-clause-slots : goal.walk_target-returns-in-None-clause-slots
unfolding exp_parts target_parts put_row
walk_target-returns-in-None-clause-slots g t c =
    let front = c.args.types.now in
    start_of front ∙ sym (ap (λ o. front ++ flats (target_parts c.args.table.now (context_of c.args.place.now) (target_of o))) c.in-None.is)

pub walk_target-returns-in_ok-of-in-Some-clause-slots : goal.walk_target-returns-in_ok-of-in-Some-clause-slots
unfolding exp_parts target_parts put_row
walk_target-returns-in_ok-of-in-Some-clause-slots g t c =
    let rows = c.args.table.now in
    let ctx = context_of c.args.place.now in
    let front = c.args.types.now in
    add_same front none (exp_tree rows ctx (expr_of c.in-Some.of.value)) _ _ _ (start_of front) c.in_ok-of-in-Some.ensures.slots (ap (λ x. exp_tree rows ctx (expr_of x)) c.deref.ensures)
    ∙ sym (ap (λ o. front ++ flats (target_parts rows ctx (target_of o))) c.in-Some.is)

pub walk_args-returns-clause-slots : goal.walk_args-returns-clause-slots
walk_args-returns-clause-slots g t c =
    let rows = c.args.table.now in
    let ctx = context_of c.args.place.now in
    let so_far = c.loop-part.types in
    sym (append-nil so_far) ∙ ap (λ xs. so_far ++ row_slots rows ctx (exprs_of xs)) (sym (drop_all c.loop-part.part-index c.args.parts.now c.loop-part-test.false)) ∙ c.loop-part.invariant.slots

pub walk_expr-walk_parts-requires : goal.walk_expr-walk_parts-requires
walk_expr-walk_parts-requires g t c = λ κs o. (own_falls _ t c.decreases, (o, (c.requires.knows, c.requires.fits)))

pub walk_expr-close_expr-requires : goal.walk_expr-close_expr-requires
walk_expr-close_expr-requires g t c =
    let rows = c.args.table.now in
    let ctx = context_of c.args.place.now in
    within c.args.types.now (exp_parts rows ctx (expr_of c.args.of.now)) _ _ c.in_ok-meaning.ensures.slots c.count-before.ensures

pub walk_expr-returns-clause-slots : goal.walk_expr-returns-clause-slots
walk_expr-returns-clause-slots g t c =
    let rows = c.args.table.now in
    let p = c.args.place.now in
    let ctx = context_of p in
    let e = expr_of c.args.of.now in
    let u = exp_type rows ctx e in
    let put_is = c.in_ok-close_expr.ensures ctx u c.in_ok-meaning.ensures.means.kind (rowed rows c.keeps_rows.ensures p c.requires.knows e) in
    close c.args.types.now (exp_parts rows ctx e) u _ _ _ _ c.in_ok-meaning.ensures.slots c.count-before.ensures refl put_is
