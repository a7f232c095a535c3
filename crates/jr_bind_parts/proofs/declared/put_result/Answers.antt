use Rattle.std.proofs.Common.{ℕ, Option, sym, subst}
use Rattle.std.proofs.lemmas.Result.{IfOk-weaker}
use Rattle.std.specs.Prelude.{option_map}
use Rattle.jr_ast.specs.declared.parts.TypeRef.{TypeRef}
use Rattle.jr_ast.specs.View.{type_of}
use Rattle.jr_table.specs.HeadNotes.{result_references}
use Rattle.jr_bind_parts.specs.DeclaredTypes.{PutsReferences}
use Rattle.jr_bind_parts.proofs.declared.put_result.Goals as goal

pub returns-in-Some : goal.returns-in-Some
returns-in-Some g c =
    let B = λ (m : g.row.A.Denot) (b : ℕ). (g.A.Mark.span_from m b).from in
    let F = g.A.Mark.fits_at in
    let rows = c.args.table.now in
    let class = c.args.class in
    let base = c.args.base in
    let old = c.args.log.now.items in
    IfOk-weaker c.put_type.result _ _ (λ u h.
    subst (λ (o : Option (TypeRef g.row.A.Denot)). PutsReferences rows class (λ d. result_references B rows d base (option_map type_of o)) old c.put_type.new.log.items) (sym c.in-Some.is) h) c.put_type.ensures
