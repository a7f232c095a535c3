use Rattle.std.proofs.Common.{◌∙◌, sym, false}
use Rattle.jr_ast.specs.Marks.{exp_mark}
use Rattle.jr_ast.specs.View.{expr_of}
use Rattle.jr_grammar.specs.Layout.{itself}
use Rattle.jr_pieces.specs.Finding.{is_behind}
use Rattle.jr_pieces.specs.Uses.{valued}
use Rattle.jr_piece_search.specs.Steps.{into}
use Rattle.jr_piece_search.specs.StepView.{use_of}
use Rattle.jr_piece_search.proofs.Choosing.{then_is, else_is}
use Rattle.jr_piece_search.proofs.steps.in_two.Goals as goal

pub returns-then-passes : goal.returns-then-passes
returns-then-passes c =
    c.into.ensures ∙ then_is (is_behind itself c.args.span.now (exp_mark (expr_of c.args.first.now))) (into 1 valued c.args.lazy (expr_of c.args.second.now)) (into 0 (use_of c.args.usage) false (expr_of c.args.first.now))
    (sym c.passes.ensures ∙ c.if-passes.true)

pub returns-else-passes : goal.returns-else-passes
returns-else-passes c =
    c.into-else-passes.ensures ∙ else_is (is_behind itself c.args.span.now (exp_mark (expr_of c.args.first.now))) (into 1 valued c.args.lazy (expr_of c.args.second.now)) (into 0 (use_of c.args.usage) false (expr_of c.args.first.now))
    (sym c.passes.ensures ∙ c.if-passes.false)
