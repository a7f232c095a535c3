-- The numbers of a member's statements among its parts, as tables and as routes count them.
use Rattle.std.proofs.Common.{◌≡◌, suc, ◌+◌, List, length, Option, Some, None, refl, ap, arith}
use Rattle.jr_text.specs.declared.spans.Span.{Span}
use Rattle.jr_ast.specs.Tree as tree
use Rattle.jr_ast.specs.MemberTree as syntax
use Rattle.jr_grammar.specs.Layout.{itself}
use Rattle.jr_table.specs.Rows.{Row}
use Rattle.jr_table.specs.TypesAt.{count_args, count_super, count_type}
use Rattle.jr_cfg.specs.MemberRoutes.{method_front, constructor_front, arguments}

pub of_method : (rows : List Row) (mods : List (syntax.Modifier Span)) (t : Option (tree.TypeName Span)) (ps : List (syntax.Param Span)) → length mods + count_type rows t + 1 + length ps ≡ method_front itself mods t ps
of_method rows mods None ps = omega arith
of_method rows mods (Some t) ps = omega arith

args_long : (rows : List Row) (es : tree.Exps Span) → count_args rows es ≡ arguments itself (Some es)
args_long rows tree.end = refl
args_long rows (tree.more e es) = ap suc (args_long rows es)

super_long : (rows : List Row) (args : Option (tree.Exps Span)) → count_super rows args ≡ arguments itself args
super_long rows None = refl
super_long rows (Some es) = args_long rows es

pub of_constructor : (rows : List Row) (mods : List (syntax.Modifier Span)) (ps : List (syntax.Param Span)) (args : Option (tree.Exps Span))
    → length mods + 1 + length ps + count_super rows args ≡ constructor_front itself mods ps + arguments itself args
of_constructor rows mods ps args = let e : count_super rows args ≡ arguments itself args = super_long rows args in omega (arith, e)
