use Rattle.std.proofs.Common.{List, sym, subst, ◌∙◌}
use Rattle.std.specs.Prelude.{IsTrue, ◌↔◌}
use Rattle.jr_sites.specs.declared.sites.PlacedSite.{PlacedSite}
use Rattle.jr_effect.specs.Plain.{IsPlain}
use Rattle.jr_text.specs.declared.spans.Span.{Span}
use Rattle.jr_ast.proofs.Rows.{expr_mark_is}
use Rattle.jr_ast.specs.View.{expr_of, member_of}
use Rattle.jr_bodies.specs.CodeView.{code_of as seen}
use Rattle.jr_local_uses.specs.Paths.{IsPathOf}
use Rattle.jr_local_uses.proofs.PlainBodies.{fits, path_is, leads, is_plain_so}
use Rattle.jr_local_uses.proofs.plain.reads_alone.Goals as goal

pub own_flags-requires : goal.own_flags-requires
own_flags-requires c = let t = c.requires in record { fits = fits t.0 c.args.bound.now (member_of c.args.member.now) (seen c.args.code.now) (expr_of c.args.value.now) t.1 }

pub footprint-requires-clause-fits : goal.footprint-requires-clause-fits
footprint-requires-clause-fits c = let t = c.requires in fits t.0 c.args.bound.now (member_of c.args.member.now) (seen c.args.code.now) (expr_of c.args.value.now) t.1

pub footprint-requires-clause-at : goal.footprint-requires-clause-at
footprint-requires-clause-at c =
    let t = c.requires in
    let b = c.args.bound.now in
    let m = member_of c.args.member.now in
    let code = seen c.args.code.now in
    let e = expr_of c.args.value.now in
    let path = c.in_ok-path.path.steps.items in
    let told = subst (λ (s : Span). IsPathOf code.list code.front s path) (sym (expr_mark_is c.args.value.now)) c.in_ok-path.ensures in
    leads t.0 b m code e t.1 path (path_is t.0 b m code e t.1 c.bodies_are_nested.ensures path told)

pub returns : goal.returns
returns c = λ p rows x.
    let b = c.args.bound.now in
    let m = member_of c.args.member.now in
    let code = seen c.args.code.now in
    let e = expr_of c.args.value.now in
    let path = c.in_ok-path.path.steps.items in
    let told = subst (λ (s : Span). IsPathOf code.list code.front s path) (sym (expr_mark_is c.args.value.now)) c.in_ok-path.ensures in
    let is = path_is p b m code e x c.bodies_are_nested.ensures path told in
    let flags = c.as_slice-never_null.result.now in
    let flags_are = c.as_slice-never_null.ensures.value ∙ c.in_ok-flags.ensures.exact in
    let list = c.in_ok-sites.sites.items in
    is_plain_so p b m code e x c.members_are_written.ensures c.own_flags_tell.ensures c.tests_are_there.ensures c.footprints_are_of_body.ensures c.args.table.now rows flags flags_are path is list
    (λ o f at. c.in_ok-sites.ensures o f at) c.is_plain.result (subst (λ (xs : List PlacedSite). IsTrue c.is_plain.result ↔ IsPlain xs) c.as_slice-all.ensures.value c.is_plain.ensures)
