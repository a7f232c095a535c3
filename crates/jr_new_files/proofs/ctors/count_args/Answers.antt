use Rattle.std.proofs.Common.{◌≡◌, List, Option, Some, None, length, map, sym, ap, ◌∙◌}
use Rattle.std.proofs.lemmas.Result.{IfOk-weaker}
use Rattle.jr_text.specs.declared.spans.Span.{Span}
use Rattle.jr_ast.specs.Tree as tree
use Rattle.jr_ast.specs.declared.exprs.Expr.{Expr}
use Rattle.jr_ast.specs.View.{exprs_of, args_of}
use Rattle.jr_table.specs.TypesAt.{count_super}
use Rattle.jr_new_files.proofs.Placing.{args_count}
use Rattle.jr_new_files.proofs.ctors.count_args.Goals as goal

pub returns-in-None : goal.returns-in-None
returns-in-None c = λ rows. ap (λ (o : Option (tree.Exps Span)). count_super rows o) (sym (ap args_of c.in-None.is))

pub returns-in-Some : goal.returns-in-Some
returns-in-Some c =
    let is : args_of c.args.args.now ≡ Some (exprs_of c.deref.result.now) = ap args_of c.in-Some.is ∙ ap (λ (es : List (Expr Span)). Some (exprs_of es)) (sym c.deref.ensures.value) in
    IfOk-weaker c.count.result _ _ (λ n e. λ rows. e ∙ args_count rows c.deref.result.now ∙ ap (λ (o : Option (tree.Exps Span)). count_super rows o) (sym is)) c.count.ensures
