use Rattle.std.proofs.Common.{◌≡◌, ℕ, ◌<◌, ◌^◌, List, length, map, sym, ap, subst, ◌∙◌}
use Rattle.std.proofs.lemmas.List.{length-map}
use Rattle.std.proofs.lemmas.Result.{IfOk-weaker}
use Rattle.jr_text.specs.declared.spans.Span.{Span}
use Rattle.jr_ast.specs.MemberTree as syntax
use Rattle.jr_ast.specs.View.{unit_of}
use Rattle.jr_members.specs.Fitting.{UnitsFit}
use Rattle.jr_members.specs.WrittenMembers.{written_members}
use Rattle.jr_bind.specs.Programs.{File, units_of}
use Rattle.jr_bodies.specs.Bodies.{begins}
use Rattle.jr_extract_local.proofs.plans.all_members.Goals as goal

pub written_members-requires-clause-few : goal.written_members-requires-clause-few
written_members-requires-clause-few g c =
    let p = g.V.View.program c.args.view.now in
    let files : length (units_of p) ≡ length p.files = length-map p.files (λ (f : File Span). f.unit) in
    let units : length (map unit_of c.units.result.now) ≡ length c.units.result.now = length-map c.units.result.now unit_of in
    subst (λ (n : ℕ). n < 2 ^ 32) (sym files ∙ sym (ap length c.units.ensures) ∙ units) c.keeps_program.ensures.few

pub written_members-requires-clause-fits : goal.written_members-requires-clause-fits
written_members-requires-clause-fits g c = subst (λ (us : List (syntax.Unit Span)). UnitsFit begins (λ m b. Unit {0}) us) (sym c.units.ensures) c.keeps_program.ensures.heads_fit

pub returns : goal.returns
returns g c = IfOk-weaker c.written_members.result _ _ (λ v h. h ∙ (λ i. written_members begins (c.table.ensures i) (c.units.ensures i))) c.written_members.ensures
