use Rattle.std.proofs.Common.{List, subst}
use Rattle.std.proofs.lemmas.Result.{IfOk-weaker}
use Rattle.jr_lex.specs.declared.items.Item.{Item}
use Rattle.jr_ast.specs.View.{unit_of}
use Rattle.jr_pexpr.specs.Parsing.{IsFault}
use Rattle.jr_punit_laws.specs.Parsing.{IsNoUnitAt}
use Rattle.jr_sources.proofs.Faulty.{syntax_kept}
use Rattle.jr_sources.proofs.readings.unit_of_items.Goals as goal

pub returns-in-Err-Syntax : goal.returns-in-Err-Syntax
returns-in-Err-Syntax c =
    let stops : IsNoUnitAt c.args.text.now c.args.items.items c.in-Err-Syntax.at =
    subst (λ (is : List Item). IsNoUnitAt c.args.text.now is c.in-Err-Syntax.at) c.as_slice.ensures.value (subst (IsFault (IsNoUnitAt c.args.text.now c.as_slice.result.now)) c.in-Err-Syntax.field-0-is c.in-Err-Syntax.ensures.fault) in
    IfOk-weaker c.faulty.result _ _ (λ r e. syntax_kept c.args.text.now c.args.items.items c.in-Err-Syntax.at c.requires.lexes c.requires.within stops (unit_of r.unit) r.word r.tokens r.fault e) c.faulty.ensures
