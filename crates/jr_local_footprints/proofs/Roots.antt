-- The list of a body among the children of its member, where marks are spots.
use Rattle.std.proofs.Common.{◌≡◌, ℕ, zero, suc, ◌+◌, List, [], ◌∷◌, ◌++◌, map, length, drop, Option, Some, None, refl, sym, ap, subst, ◌∙◌, arith}
use Rattle.std.specs.Prelude.{option_map}
use Rattle.jr_text.specs.declared.spans.Span.{Span}
use Rattle.jr_ast.specs.Tree as tree
use Rattle.jr_ast.specs.StatementTree as statement
use Rattle.jr_ast.specs.MemberTree as syntax
use Rattle.jr_ast.specs.Marks.{member_mark}
use Rattle.jr_ast.specs.Nodes as nodes
use Rattle.jr_ast.specs.Nodes.{Node, children_of, maybe, args_children}
use Rattle.jr_grammar.specs.Layout.{itself}
use Rattle.jr_table.specs.Decls.{MemberKey}
use Rattle.jr_bind.specs.Bounds.{Bound}
use Rattle.jr_cover.specs.Spots.{Spot, onto, spot_word, spot_exps, spot_modifiers, spot_params, spot_result, result_count, spot_args, args_count, exps_count, spot_stmts, spot_member}
use Rattle.jr_expr_sites.specs.KnownFacts.{Others}
use Rattle.jr_expr_sites.specs.Routes.{begins_by, ends_by}
use Rattle.jr_cfg.specs.Numbering.{NumbersStmts}
use Rattle.jr_cfg.specs.MemberRoutes.{NumbersMember}
use Rattle.jr_piece_sites.specs.Leads.{spots_of}
use Rattle.jr_piece_sites.specs.Pieces.{IsOwner}
use Rattle.jr_bodies.proofs.Coded.{no_body, same_body}
use Rattle.jr_local.specs.Bodies.{Body, body_of_member}

abbrev pub B : Span → ℕ → ℕ
B = begins_by itself

abbrev pub E : Span → ℕ → ℕ
E = ends_by itself

pub record RootOf (b : Body) (base : ℕ) (m : syntax.Member Span) : Type 0 where
  pub owner : IsOwner m
  pub start : begins_by itself (member_mark m) base ≡ b.at.base
  pub children : drop b.front (children_of (nodes.member (spots_of itself base m))) ≡ nodes.stmts (spot_stmts B E b.list b.at.base [] b.front)
  pub numbers : (o : Others) → NumbersMember itself base m o → NumbersStmts B E o.number b.at.next b.list b.at.base [] b.front

-- ---- how many children stand in front

drop_over : {Z : Type 0} (xs rest : List Z) (n k : ℕ) → n ≡ length xs + k → drop n (xs ++ rest) ≡ drop k rest
drop_over [] rest n k e = ap (λ (i : ℕ). drop i rest) (let f : n ≡ k = omega (arith, e) in f)
drop_over (x ∷ xs) rest zero k e = absurd (omega (arith, e))
drop_over (x ∷ xs) rest (suc n) k e = drop_over xs rest n k (omega (arith, e))

modifiers_long : (ms : List (syntax.Modifier Span)) (at : ℕ) (p : List ℕ) (k : ℕ) → length (map nodes.modifier (spot_modifiers B E ms at p k)) ≡ length ms
modifiers_long [] at p k = refl
modifiers_long (m ∷ ms) at p k = ap suc (modifiers_long ms at p (suc k))

params_long : (ps : List (syntax.Param Span)) (at : ℕ) (p : List ℕ) (k : ℕ) → length (map nodes.param (spot_params B E ps at p k)) ≡ length ps
params_long [] at p k = refl
params_long (x ∷ ps) at p k = ap suc (params_long ps at p (suc k))

result_long : (t : Option (tree.TypeName Span)) (at : ℕ) (p : List ℕ) (k : ℕ) → length (maybe (option_map nodes.type (spot_result B E t at p k))) ≡ result_count B E t
result_long None at p k = refl
result_long (Some t) at p k = refl

exps_long : (es : tree.Exps Span) (at : ℕ) (p : List ℕ) (k : ℕ) → length (nodes.exps (spot_exps B E es at p k)) ≡ exps_count B E es
unfolding spot_exps
exps_long tree.end at p k = refl
exps_long (tree.more e es) at p k = ap suc (exps_long es at p (suc k))

args_long : (args : Option (tree.Exps Span)) (at : ℕ) (p : List ℕ) (k : ℕ) → length (args_children (spot_args B E args at p k)) ≡ args_count B E args
args_long None at p k = refl
args_long (Some es) at p k = exps_long es at p k

-- what stands behind two rows, one child and a further row; behind one row, one child and two rows
behind_result : (xs ys zs rest : List (Node Spot)) (w : Node Spot) (n a b c : ℕ) → length xs ≡ a → length ys ≡ b → length zs ≡ c → n ≡ suc (a + b) + c → drop n (xs ++ (ys ++ (w ∷ (zs ++ rest)))) ≡ rest
behind_result xs ys zs rest w n a b c la lb lc e =
    drop_over xs (ys ++ (w ∷ (zs ++ rest))) n (length ys + suc (length zs)) (omega (arith, la, lb, lc, e))
    ∙ drop_over ys (w ∷ (zs ++ rest)) (length ys + suc (length zs)) (suc (length zs)) refl
    ∙ drop_over zs rest (length zs) 0 (omega arith)

behind_args : (xs ys zs rest : List (Node Spot)) (w : Node Spot) (n a b c : ℕ) → length xs ≡ a → length ys ≡ b → length zs ≡ c → n ≡ suc a + b + c → drop n (xs ++ (w ∷ (ys ++ (zs ++ rest)))) ≡ rest
behind_args xs ys zs rest w n a b c la lb lc e =
    drop_over xs (w ∷ (ys ++ (zs ++ rest))) n (suc (length ys + length zs)) (omega (arith, la, lb, lc, e))
    ∙ drop_over ys (zs ++ rest) (length ys + length zs) (length zs) refl
    ∙ drop_over zs rest (length zs) 0 (omega arith)

pub root_of : (k : MemberKey) (base : ℕ) (m : syntax.Member Span) (bound : Bound) (b : Body) → body_of_member k base m bound ≡ Some b → RootOf b base m
unfolding spot_member nodes.member_children
root_of k base (syntax.field m mods t w init) bound b e = absurd (no_body b e)
root_of k base (syntax.inner m c) bound b e = absurd (no_body b e)
root_of k base (syntax.method m mods t w ps body) bound b e =
    subst (λ (x : Body). RootOf x base (syntax.method m mods t w ps body)) (same_body _ b e) (record {
      owner = tt;
      start = refl;
      children = (
          let at = B m base in
          let first = suc (length mods + result_count B E t) in
          behind_result (map nodes.modifier (spot_modifiers B E mods at [] 0)) (maybe (option_map nodes.type (spot_result B E t at [] (length mods)))) (map nodes.param (spot_params B E ps at [] first)) (nodes.stmts (spot_stmts B E body at [] (first + length ps)))
          (nodes.word (spot_word B E w at (onto [] (length mods + result_count B E t)))) (first + length ps) (length mods) (result_count B E t) (length ps) (modifiers_long mods at [] 0) (result_long t at [] (length mods)) (params_long ps at [] first) refl
          );
      numbers = λ o n. n;
    })
root_of k base (syntax.constructor m mods w ps args body) bound b e =
    subst (λ (x : Body). RootOf x base (syntax.constructor m mods w ps args body)) (same_body _ b e) (record {
      owner = tt;
      start = refl;
      children = (
          let at = B m base in
          let first = suc (length mods) in
          let call = first + length ps in
          behind_args (map nodes.modifier (spot_modifiers B E mods at [] 0)) (map nodes.param (spot_params B E ps at [] first)) (args_children (spot_args B E args at [] call)) (nodes.stmts (spot_stmts B E body at [] (call + args_count B E args)))
          (nodes.word (spot_word B E w at (onto [] (length mods)))) (call + args_count B E args) (length mods) (length ps) (args_count B E args) (modifiers_long mods at [] 0) (params_long ps at [] first) (args_long args at [] call) refl
          );
      numbers = λ o n. n;
    })
