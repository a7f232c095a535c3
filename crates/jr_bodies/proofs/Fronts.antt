-- The numbers of a member's parts.
use Rattle.std.proofs.Common.{◌≡◌, ℕ, suc, ◌+◌, List, [], ◌∷◌, length, Option, Some, refl, ap, arith}
use Rattle.jr_text.specs.declared.spans.Span.{Span}
use Rattle.jr_ast.specs.declared.exprs.Expr.{Expr}
use Rattle.jr_ast.specs.Tree as tree
use Rattle.jr_ast.specs.MemberTree as syntax
use Rattle.jr_ast.specs.View.{exprs_of}
use Rattle.jr_grammar.specs.Layout.{itself}
use Rattle.jr_cfg.specs.MemberRoutes.{method_front, constructor_front, arguments, words}

pub front_of_method : (mods : List (syntax.Modifier Span)) (t : Option (tree.TypeName Span)) (ps : List (syntax.Param Span)) (w n k : ℕ) → w ≡ words itself t → n ≡ length mods → k ≡ length ps → w + n + k ≡ method_front itself mods t ps
front_of_method mods t ps w n k a b c = omega (arith, a, b, c)

pub front_of_constructor : (mods : List (syntax.Modifier Span)) (ps : List (syntax.Param Span)) (n k : ℕ) → n ≡ length mods → k ≡ length ps → 1 + n + k ≡ constructor_front itself mods ps
front_of_constructor mods ps n k b c = omega (arith, b, c)

pub count_exps : (xs : List (Expr Span)) → length xs ≡ arguments itself (Some (exprs_of xs))
count_exps [] = refl
count_exps (x ∷ xs) = ap suc (count_exps xs)
