use Rattle.std.proofs.Common.{◌≡◌, List, Option, Some, None, true, map, sym, ap, subst, ◌∙◌}
use Rattle.std.proofs.lemmas.Result.{IfOk-weaker}
use Rattle.jr_text.specs.declared.spans.Span.{Span}
use Rattle.jr_ast.specs.Tree as tree
use Rattle.jr_ast.specs.declared.exprs.Expr.{Expr}
use Rattle.jr_ast.specs.View.{param_of, exprs_of, args_of}
use Rattle.jr_table.specs.HeadRules.{with_parameters}
use Rattle.jr_new_bodies.specs.OutputView.{gathered}
use Rattle.jr_new_files.specs.Walking.{key_of, rows_of, mapping_of}
use Rattle.jr_new_files.specs.Ready.{MaybeSuperReady, IsMaybeSuper}
use Rattle.jr_new_files.specs.PartEffects.{MaybeSuperGathers}
use Rattle.jr_new_files.proofs.Giving.{super_none}
use Rattle.jr_new_files.proofs.ctors.maybe_super.Goals as goal

pub super_part-requires : goal.super_part-requires
super_part-requires g c =
    let w = c.args.of.now in
    let p = g.V.View.program c.args.view.now in
    let x = with_parameters (key_of w) true (map param_of c.args.params.now) in
    let is : args_of c.args.args.now ≡ Some (exprs_of c.deref.result.now) = ap args_of c.in-Some.is ∙ ap (λ (es : List (Expr Span)). Some (exprs_of es)) (sym c.deref.ensures.value) in
    record {
      walked = c.requires.walked;
      file = c.requires.file;
      ready = subst (λ (o : Option (tree.Exps Span)). MaybeSuperReady (rows_of w) w.bound.now w.from x c.args.first c.args.span.from o) is c.requires.ready;
      stands = subst (λ (o : Option (tree.Exps Span)). IsMaybeSuper p c.args.file c.args.span o (p.super_at (key_of w))) is c.requires.stands;
    }

pub returns-in-None : goal.returns-in-None
returns-in-None g c =
    let w = c.args.of.now in
    let n = (g.V.View.program c.args.view.now).super_at (key_of w) in
    let x = with_parameters (key_of w) true (map param_of c.args.params.now) in
    let old = gathered c.args.out.now in
    subst (λ (o : Option (tree.Exps Span)). MaybeSuperGathers (rows_of w) (mapping_of w) x n c.args.span.from o old old) (sym (ap args_of c.in-None.is)) (super_none (rows_of w) (mapping_of w) x n c.args.span.from old)

pub returns-in-Some : goal.returns-in-Some
returns-in-Some g c =
    let w = c.args.of.now in
    let n = (g.V.View.program c.args.view.now).super_at (key_of w) in
    let x = with_parameters (key_of w) true (map param_of c.args.params.now) in
    let old = gathered c.args.out.now in
    let is : args_of c.args.args.now ≡ Some (exprs_of c.deref.result.now) = ap args_of c.in-Some.is ∙ ap (λ (es : List (Expr Span)). Some (exprs_of es)) (sym c.deref.ensures.value) in
    IfOk-weaker c.super_part.result _ _ (λ _ y. subst (λ (o : Option (tree.Exps Span)). MaybeSuperGathers (rows_of w) (mapping_of w) x n c.args.span.from o old (gathered c.super_part.new.out)) (sym is) y) c.super_part.ensures
