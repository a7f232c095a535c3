use Rattle.std.proofs.Common.{◌≡◌, [], ap, sym, subst, ◌∙◌}
use Rattle.std.specs.Prelude.{IfOk}
use Rattle.jr_text.specs.declared.spans.Span.{Span}
use Rattle.jr_ast.specs.View.{member_of}
use Rattle.jr_ast.specs.Marks.{member_mark}
use Rattle.jr_ast.proofs.Rows.{member_mark_is}
use Rattle.jr_table.specs.KeyView.{member_key_of}
use Rattle.jr_cfg.specs.MemberRoutes.{known}
use Rattle.jr_expr_sites.specs.KnownFacts.{Given}
use Rattle.jr_expr_sites.specs.Routes.{begins_by}
use Rattle.jr_member_graphs.specs.OwnFlags.{flags_of}
use Rattle.jr_member_graphs.proofs.MemberFlags.{sites_fit}
use Rattle.jr_member_graphs.proofs.members.own_flags.Goals as goal

pub span-requires : goal.span-requires
span-requires g c =
    subst (λ (x : g.row.A.Denot). g.A.Mark.fits_at x c.args.base) (member_mark_is c.args.member.now) (sites_fit g.A.Mark.span_from g.A.Mark.fits_at c.args.base (member_of c.args.member.now) c.requires.fits)

pub member_flags-requires : goal.member_flags-requires
member_flags-requires g c = record { fits = c.requires.fits; start = ap (λ (z : Span). z.from) c.span.ensures }

pub returns : goal.returns
returns g c =
    let T = g.A.Mark.span_from in
    let m = member_of c.args.member.now in
    let base = c.args.base in
    let facts = c.args.facts.now in
    let K = known T c.args.table.now (g.F.Facts.key facts) (g.F.Facts.decls facts) (g.F.Facts.types facts) [] base m in
    let G : Given = record { rows = c.args.table.now; member = member_key_of c.member.result.now; start = c.span.result.from; decls = g.F.Facts.decls facts; types = g.F.Facts.types facts; never_null = c.deref.result.now } in
    let start : c.span.result.from ≡ begins_by T (member_mark m) base = ap (λ (z : Span). z.from) c.span.ensures ∙ ap (λ (x : g.row.A.Denot). begins_by T x base) (sym (member_mark_is c.args.member.now)) in
    let none : c.deref.result.now ≡ [] = c.deref.ensures.value ∙ c.new-none.ensures.items in
    let same : G ≡ K = (λ i. record { rows = c.args.table.now; member = c.member.ensures i; start = start i; decls = g.F.Facts.decls facts; types = g.F.Facts.types facts; never_null = none i }) in
    record { exact = subst (λ (x : Given). IfOk c.member_flags.result (λ v. v.items ≡ flags_of T x base m)) same c.member_flags.ensures }
