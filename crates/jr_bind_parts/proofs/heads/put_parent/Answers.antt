use Rattle.std.proofs.Common.{ℕ, Option, sym, subst}
use Rattle.std.proofs.lemmas.Result.{IfOk-weaker}
use Rattle.std.specs.Prelude.{option_map}
use Rattle.jr_ast.specs.declared.parts.TypeRef.{TypeRef}
use Rattle.jr_ast.specs.View.{type_of}
use Rattle.jr_bind_parts.specs.Heads.{parent_notes, PutsOfClass}
use Rattle.jr_bind_parts.proofs.heads.put_parent.Goals as goal

pub returns-in-Some : goal.returns-in-Some
returns-in-Some g c =
    let B = λ (m : g.row.A.Denot) (b : ℕ). (g.A.Mark.span_from m b).from in
    IfOk-weaker c.put_final.result _ _ (λ u h.
    subst (λ (o : Option (TypeRef g.row.A.Denot)). PutsOfClass c.args.table.now c.args.class (λ k. parent_notes B c.args.table.now k c.args.at (option_map type_of o)) c.args.log.now.items c.put_final.new.log.items) (sym c.in-Some.is) h) c.put_final.ensures
