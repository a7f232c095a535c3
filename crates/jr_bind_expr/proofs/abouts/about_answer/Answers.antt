use Rattle.std.proofs.Common.{sym, subst}
use Rattle.jr_table.specs.Lookup.{shown}
use Rattle.jr_bind_expr.specs.Places.{context_of}
use Rattle.jr_bind_expr.specs.Abouts.{IsAbout}
use Rattle.jr_bind_expr.proofs.Abouting.{answer_about}
use Rattle.jr_bind_expr.proofs.abouts.about_answer.Goals as goal

pub returns-in-Nothing : goal.returns-in-Nothing
returns-in-Nothing c =
    let rows = c.args.table.now in
    subst (IsAbout rows (context_of c.args.place.now) (shown rows c.args.answer)) (sym c.nothing.ensures) (answer_about rows (context_of c.args.place.now) c.args.answer (λ j e. let is = c.in-Nothing.is in absurd cc))

pub returns-in-Many : goal.returns-in-Many
returns-in-Many c =
    let rows = c.args.table.now in
    subst (IsAbout rows (context_of c.args.place.now) (shown rows c.args.answer)) (sym c.nothing-in-Many.ensures) (answer_about rows (context_of c.args.place.now) c.args.answer (λ j e. let is = c.in-Many.is in absurd cc))

pub returns-in-NotAccessible : goal.returns-in-NotAccessible
returns-in-NotAccessible c =
    let rows = c.args.table.now in
    subst (IsAbout rows (context_of c.args.place.now) (shown rows c.args.answer)) (sym c.nothing-in-NotAccessible.ensures) (answer_about rows (context_of c.args.place.now) c.args.answer (λ j e. let is = c.in-NotAccessible.is in absurd cc))

pub returns-in-FromStatic : goal.returns-in-FromStatic
returns-in-FromStatic c =
    let rows = c.args.table.now in
    subst (IsAbout rows (context_of c.args.place.now) (shown rows c.args.answer)) (sym c.nothing-in-FromStatic.ensures) (answer_about rows (context_of c.args.place.now) c.args.answer (λ j e. let is = c.in-FromStatic.is in absurd cc))
