use Rattle.jr_grammar.specs.Expressions.{IsLongestExpression, HasNoExpression, IsExpressionStop, IsMarkedExpression, IsLongestStatementExpression, HasNoStatementExpression, IsStatementExpressionStop, IsMarkedStatementExpression}
use Rattle.jr_pexpr.proofs.OneAnswers as One
use Rattle.jr_pexpr.proofs.laws.one_answer.Goals as goal

pub returns-clause-expressions : goal.returns-clause-expressions
returns-clause-expressions c =
    let one = c.readings_are_one.ensures.expressions in
    One.one_answer IsLongestExpression HasNoExpression IsExpressionStop IsMarkedExpression one.stop one.longest one.never_both c.one_marked_expression.ensures.marked.expression

pub returns-clause-statement_expressions : goal.returns-clause-statement_expressions
returns-clause-statement_expressions c =
    let one = c.readings_are_one.ensures.statement_expressions in
    One.one_answer IsLongestStatementExpression HasNoStatementExpression IsStatementExpressionStop IsMarkedStatementExpression one.stop one.longest one.never_both c.one_marked_expression.ensures.marked.statement
