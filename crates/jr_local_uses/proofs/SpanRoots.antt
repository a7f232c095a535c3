-- The list of a body among the children of its member, so that the path of a way into it leads from
-- the member to the way's expression. (`jr_local_footprints: Roots` has it where marks are spots.)
use Rattle.std.proofs.Common.{◌≡◌, ℕ, zero, suc, ◌+◌, List, [], ◌∷◌, ◌++◌, map, length, drop, Option, Some, None, option_map, refl, ap, subst, ◌∙◌, arith}
use Rattle.std.proofs.lemmas.List.{length-map}
use Rattle.jr_text.specs.declared.spans.Span.{Span}
use Rattle.jr_ast.specs.Tree as tree
use Rattle.jr_ast.specs.MemberTree as syntax
use Rattle.jr_ast.specs.Nodes as nodes
use Rattle.jr_ast.specs.Nodes.{Node, exp_at, children_of, maybe, args_children}
use Rattle.jr_table.specs.Decls.{MemberKey}
use Rattle.jr_bind.specs.Bounds.{Bound}
use Rattle.jr_cover.specs.Spots.{result_count, args_count, exps_count}
use Rattle.jr_piece_sites.specs.Pieces.{IsOwner}
use Rattle.jr_pieces.specs.Ways.{ListWay}
use Rattle.jr_pieces.specs.Finding.{list_path}
use Rattle.jr_bodies.proofs.Coded.{no_body, same_body}
use Rattle.jr_local.specs.Bodies.{Body, body_of_member}
use Rattle.jr_local_footprints.proofs.Roots.{B, E}
use Rattle.jr_local_footprints.proofs.HeldLists.{way_leads}

pub record SpanRoot (b : Body) (m : syntax.Member Span) : Type 0 where
  pub owner : IsOwner m
  pub children : drop b.front (children_of (nodes.member m)) ≡ nodes.stmts b.list

-- ---- how many children stand in front

drop_over : {Z : Type 0} (xs rest : List Z) (n k : ℕ) → n ≡ length xs + k → drop n (xs ++ rest) ≡ drop k rest
drop_over [] rest n k e = ap (λ (i : ℕ). drop i rest) (let f : n ≡ k = omega (arith, e) in f)
drop_over (x ∷ xs) rest zero k e = absurd (omega (arith, e))
drop_over (x ∷ xs) rest (suc n) k e = drop_over xs rest n k (omega (arith, e))

result_long : (t : Option (tree.TypeName Span)) → length (maybe (option_map nodes.type t)) ≡ result_count B E t
result_long None = refl
result_long (Some t) = refl

exps_long : (es : tree.Exps Span) → length (nodes.exps es) ≡ exps_count B E es
exps_long tree.end = refl
exps_long (tree.more e es) = ap suc (exps_long es)

args_long : (args : Option (tree.Exps Span)) → length (args_children args) ≡ args_count B E args
args_long None = refl
args_long (Some es) = exps_long es

-- what stands behind two rows, one child and a further row; behind one row, one child and two rows
behind_result : (xs ys zs rest : List (Node Span)) (w : Node Span) (n a b c : ℕ) → length xs ≡ a → length ys ≡ b → length zs ≡ c → n ≡ suc (a + b) + c → drop n (xs ++ (ys ++ (w ∷ (zs ++ rest)))) ≡ rest
behind_result xs ys zs rest w n a b c la lb lc e =
    drop_over xs (ys ++ (w ∷ (zs ++ rest))) n (length ys + suc (length zs)) (omega (arith, la, lb, lc, e))
    ∙ drop_over ys (w ∷ (zs ++ rest)) (length ys + suc (length zs)) (suc (length zs)) refl
    ∙ drop_over zs rest (length zs) 0 (omega arith)

behind_args : (xs ys zs rest : List (Node Span)) (w : Node Span) (n a b c : ℕ) → length xs ≡ a → length ys ≡ b → length zs ≡ c → n ≡ suc a + b + c → drop n (xs ++ (w ∷ (ys ++ (zs ++ rest)))) ≡ rest
behind_args xs ys zs rest w n a b c la lb lc e =
    drop_over xs (w ∷ (ys ++ (zs ++ rest))) n (suc (length ys + length zs)) (omega (arith, la, lb, lc, e))
    ∙ drop_over ys (zs ++ rest) (length ys + length zs) (length zs) refl
    ∙ drop_over zs rest (length zs) 0 (omega arith)

pub span_root : (k : MemberKey) (base : ℕ) (m : syntax.Member Span) (bound : Bound) (b : Body) → body_of_member k base m bound ≡ Some b → SpanRoot b m
unfolding nodes.member_children
span_root k base (syntax.field m mods t w init) bound b e = absurd (no_body b e)
span_root k base (syntax.inner m c) bound b e = absurd (no_body b e)
span_root k base (syntax.method m mods t w ps body) bound b e =
    subst (λ (x : Body). SpanRoot x (syntax.method m mods t w ps body)) (same_body _ b e) (record {
      owner = tt;
      children = behind_result (map nodes.modifier mods) (maybe (option_map nodes.type t)) (map nodes.param ps) (nodes.stmts body) (nodes.word w) (suc (length mods + result_count B E t) + length ps) (length mods) (result_count B E t) (length ps)
          (length-map mods nodes.modifier) (result_long t) (length-map ps nodes.param) refl;
    })
span_root k base (syntax.constructor m mods w ps args body) bound b e =
    subst (λ (x : Body). SpanRoot x (syntax.constructor m mods w ps args body)) (same_body _ b e) (record {
      owner = tt;
      children = behind_args (map nodes.modifier mods) (map nodes.param ps) (args_children args) (nodes.stmts body) (nodes.word w) (suc (length mods) + length ps + args_count B E args) (length mods) (length ps) (args_count B E args)
          (length-map mods nodes.modifier) (length-map ps nodes.param) (args_long args) refl;
    })

pub root_leads : (b : Body) (m : syntax.Member Span) → SpanRoot b m → (f : tree.Exp Span) (d : ListWay f b.list) → exp_at (nodes.member m) (list_path b.front d) ≡ Some f
root_leads b m r f d = way_leads (nodes.member m) b.list b.front r.children f d
