use Rattle.std.proofs.Common.{ℕ, sym, ◌∙◌}
use Rattle.std.proofs.lemmas.Result.{IfOk-weaker}
use Rattle.jr_ast.specs.View.{type_of}
use Rattle.jr_bind_parts.proofs.Heading.{named_top, named_inner}
use Rattle.jr_bind_parts.proofs.heads.put_name.Goals as goal

pub returns-in-None : goal.returns-in-None
returns-in-None g c =
    let B = λ (m : g.row.A.Denot) (b : ℕ). (g.A.Mark.span_from m b).from in
    IfOk-weaker c.put_top.result _ _ (λ u h. named_top B c.args.table.now c.keeps_rows.ensures c.args.class c.args.base (type_of c.args.of.now) c.args.log.now.items c.put_top.new.log.items (sym c.outer_of.ensures ∙ c.in-None.is) h) c.put_top.ensures

pub returns-in-Some : goal.returns-in-Some
returns-in-Some g c =
    let B = λ (m : g.row.A.Denot) (b : ℕ). (g.A.Mark.span_from m b).from in
    IfOk-weaker c.put_type.result _ _ (λ u h. named_inner B c.args.table.now c.keeps_rows.ensures c.args.class c.in-Some.outer c.args.base (type_of c.args.of.now) c.args.log.now.items c.put_type.new.log.items (sym c.outer_of.ensures ∙ c.in-Some.is) h) c.put_type.ensures
