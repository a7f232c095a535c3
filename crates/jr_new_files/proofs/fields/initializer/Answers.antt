use Rattle.std.proofs.Common.{Option, None, sym, subst}
use Rattle.std.specs.Prelude.{option_map}
use Rattle.jr_text.specs.declared.spans.Span.{Span}
use Rattle.jr_ast.specs.Tree as tree
use Rattle.jr_ast.specs.declared.exprs.Expr.{Expr}
use Rattle.jr_ast.specs.View.{expr_of}
use Rattle.jr_table.specs.HeadRules.{plain}
use Rattle.jr_new_bodies.specs.OutputView.{gathered}
use Rattle.jr_new_bodies.proofs.Joining.{gathers_none}
use Rattle.jr_new_files.specs.Walking.{key_of, rows_of, mapping_of}
use Rattle.jr_new_files.specs.PartEffects.{InitGathers}
use Rattle.jr_new_files.proofs.fields.initializer.Goals as goal

pub returns-in-None : goal.returns-in-None
returns-in-None c =
    let w = c.args.of.now in
    let old = gathered c.args.out.now in
    subst (λ (o : Option (Expr Span)). InitGathers (rows_of w) (mapping_of w) (plain (key_of w) c.args.is_static) c.args.at (option_map expr_of o) old old) (sym c.in-None.is) (λ s. gathers_none None old)

pub returns-in-Some : goal.returns-in-Some
returns-in-Some c = c.written_initializer.ensures
