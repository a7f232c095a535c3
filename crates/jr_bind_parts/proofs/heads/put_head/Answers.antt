use Rattle.std.proofs.Common.{ℕ, map, sym, ap, subst, ◌∙◌}
use Rattle.std.proofs.lemmas.Result.{IfOk-weaker}
use Rattle.std.specs.Prelude.{option_map}
use Rattle.jr_text.specs.declared.spans.Span.{Span}
use Rattle.jr_ast.specs.MemberTree as syntax
use Rattle.jr_ast.specs.declared.members.Class.{out-Class}
use Rattle.jr_ast.specs.View.{word_of, modifier_of, type_of, members_of}
use Rattle.jr_ast.proofs.Rows.{class_of-out}
use Rattle.jr_table.specs.HeadNotes.{head_notes}
use Rattle.jr_table.specs.DeclaredItems.{writes_ctor}
use Rattle.jr_bind_parts.specs.DeclaredTypes.{FitsMaybeType}
use Rattle.jr_bind_parts.specs.Heads.{FitsHead, PutsOfClass}
use Rattle.jr_bind_parts.proofs.Heading.{head_is}
use Rattle.jr_bind_parts.proofs.heads.put_head.Goals as goal

pub span-at-requires : goal.span-at-requires
span-at-requires g c =
    let B = λ (m : g.row.A.Denot) (b : ℕ). (g.A.Mark.span_from m b).from in
    (subst (FitsHead B g.A.Mark.fits_at c.args.base) (class_of-out _ c.args.of.now) c.requires).0

pub put_parent-requires : goal.put_parent-requires
put_parent-requires g c =
    let B = λ (m : g.row.A.Denot) (b : ℕ). (g.A.Mark.span_from m b).from in
    let F = g.A.Mark.fits_at in
    let fits = subst (FitsHead B F c.args.base) (class_of-out _ c.args.of.now) c.requires in
    subst (λ (n : ℕ). FitsMaybeType B F n (option_map type_of (out-Class _ c.args.of.now).parent)) (sym (ap (λ (z : Span). z.from) c.span-at.ensures)) fits.2

pub span-requires : goal.span-requires
span-requires g c =
    let B = λ (m : g.row.A.Denot) (b : ℕ). (g.A.Mark.span_from m b).from in
    let F = g.A.Mark.fits_at in
    let fits = subst (FitsHead B F c.args.base) (class_of-out _ c.args.of.now) c.requires in
    subst (λ (n : ℕ). F (out-Class _ c.args.of.now).name.mark n) (sym (ap (λ (z : Span). z.from) c.span-at.ensures)) fits.1

pub returns : goal.returns
returns g c =
    let B = λ (m : g.row.A.Denot) (b : ℕ). (g.A.Mark.span_from m b).from in
    let rows = c.args.table.now in
    let class = c.args.class in
    let base = c.args.base in
    let old = c.args.log.now.items in
    let out = out-Class _ c.args.of.now in
    let wrote = c.writes_ctor.ensures ∙ ap (λ xs. writes_ctor B (members_of xs)) c.as_slice.ensures.value in
    IfOk-weaker c.put_raw.result _ _ (λ u h.
    subst (λ (x : syntax.Class g.row.A.Denot). PutsOfClass rows class (λ k. head_notes B rows k base x) old c.put_raw.new.log.items) (sym (class_of-out _ c.args.of.now))
    (head_is B rows class base c.span-at.result.from out.mark (map modifier_of out.modifiers.items) (word_of out.name) (option_map type_of out.parent) (members_of out.members.items) c.span.result.from c.writes_ctor.result c.in_ok-lacks.lacks old c.put_parent.new.log.items c.put_raw.new.log.items
    (ap (λ (z : Span). z.from) c.span-at.ensures) c.in_ok-put_parent.ensures c.in_ok-lacks.ensures wrote (ap (λ (z : Span). z.from) c.span.ensures) h)) c.put_raw.ensures
