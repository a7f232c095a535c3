-- Where the nearest element of a way stands in the member: behind which path, and among which children of the node
-- there. The way is gone down as in `jr_local_footprints: HeldLists`, which does so on spots: each list that it
-- passes is among the children of a piece, and the element is the last of these.
use Rattle.std.proofs.Common.{◌≡◌, ℕ, zero, suc, ◌+◌, List, [], ◌∷◌, ◌++◌, map, length, drop, Option, Some, None, refl, sym, ap, subst, ◌∙◌, arith, append_assoc}
use Rattle.std.specs.Prelude.{option_map}
use Rattle.std.proofs.lemmas.List.{length-map}
use Rattle.std.proofs.lemmas.Option.{none-some, same_Some}
use Rattle.jr_text.specs.declared.spans.Span.{Span}
use Rattle.jr_ast.specs.Tree as tree
use Rattle.jr_ast.specs.StatementTree as statement
use Rattle.jr_ast.specs.MemberTree as syntax
use Rattle.jr_ast.specs.Nodes as nodes
use Rattle.jr_ast.specs.Nodes.{Node, node_at, children_of, maybe, args_children}
use Rattle.jr_grammar.specs.Layout.{itself}
use Rattle.jr_table.specs.Decls.{MemberKey}
use Rattle.jr_bind.specs.Bounds.{Bound}
use Rattle.jr_cover.specs.Spots.{onto, result_count, exps_count, args_count}
use Rattle.jr_expr_sites.specs.Routes.{begins_by, ends_by}
use Rattle.jr_pieces.specs.Ways.{StmtWay, in_init, in_eval, in_condition, in_then, in_else, in_turning, in_body, in_returned, in_block, in_lock, in_locked, ListWay, first, later}
use Rattle.jr_pieces.specs.Standings.{Standing, inside, behind, in_other}
use Rattle.jr_pieces.specs.Nearest.{Element, or_element, element_within, nearest}
use Rattle.jr_pieces.specs.Finding.{stmt_path, list_path}
use Rattle.jr_piece_sites.specs.Pieces as piece
use Rattle.jr_piece_sites.specs.Pieces.{Piece, node_of}
use Rattle.jr_bodies.proofs.Coded.{no_body, same_body}
use Rattle.jr_local.specs.Bodies.{Body, body_of_member}
use Rattle.jr_local_footprints.specs.Givens.{IsMemberOf}
use Rattle.jr_local_footprints.proofs.HeldLists.{head_of, tail_of, node_onto}

module _ {A : Type 0} (begins : A → ℕ → ℕ) (root : Node A) {f : tree.Exp A} where
  -- q: the path of the way
  pub record Held (el : Element f) (q : List ℕ) : Type 0 where
    pub around : List ℕ
    pub step : ℕ
    pub path : q ≡ around ++ step ∷ stmt_path el.way
    pub of : Piece A
    pub at : node_at root around ≡ Some (node_of of)
    pub are : drop step (children_of (node_of of)) ≡ nodes.stmts (statement.more el.stmt el.rest)

  -- the same, by another name of the path
  moved : (el : Element f) (q r : List ℕ) → q ≡ r → Held el q → Held el r
  moved el q r e h = subst (Held el) e h

  no_element : {Z : Type 0} (el : Element f) → (let none : Option (Element f) = None in none ≡ Some el) → Z
  no_element el e = absurd (none-some el e)

  mutual
    unfolding nodes.stmt_children

    stmt_held : (s : statement.Stmt A) (d : StmtWay f s) (st : Standing) (p : List ℕ) → node_at root p ≡ Some (nodes.stmt s) → (el : Element f) → element_within begins st d ≡ Some el → Held el (p ++ stmt_path d)
    stmt_held _ (in_init m is_final t w e d) st p at el is = no_element el is
    stmt_held _ (in_eval m e d) st p at el is = no_element el is
    stmt_held _ (in_condition m x s o d) st p at el is = no_element el is
    stmt_held _ (in_then m x s o d) st p at el is =
        moved el (onto p 1 ++ stmt_path d) (p ++ 1 ∷ stmt_path d) (append_assoc p (1 ∷ []) (stmt_path d)) (stmt_held s d (inside begins m st) (onto p 1) (node_onto p 1 root (nodes.stmt (statement.branch m x s o)) (nodes.stmt s) at refl) el is)
    stmt_held _ (in_else m x s o d) st p at el is =
        moved el (onto p 2 ++ stmt_path d) (p ++ 2 ∷ stmt_path d) (append_assoc p (2 ∷ []) (stmt_path d))
        (stmt_held o d (in_other begins m s st) (onto p 2) (node_onto p 2 root (nodes.stmt (statement.branch m x s (statement.otherwise o))) (nodes.stmt o) at refl) el is)
    stmt_held _ (in_turning m x s d) st p at el is = no_element el is
    stmt_held _ (in_body m x s d) st p at el is =
        moved el (onto p 1 ++ stmt_path d) (p ++ 1 ∷ stmt_path d) (append_assoc p (1 ∷ []) (stmt_path d)) (stmt_held s d (inside begins m st) (onto p 1) (node_onto p 1 root (nodes.stmt (statement.loop m x s)) (nodes.stmt s) at refl) el is)
    stmt_held _ (in_returned m e d) st p at el is = no_element el is
    stmt_held _ (in_block m b d) st p at el is = subst (λ (x : Element f). Held x (p ++ list_path 0 d)) (same_Some _ el is) (list_held b d (inside begins m st) p 0 (piece.stmt (statement.block m b)) at refl)
    stmt_held _ (in_lock m e b d) st p at el is = no_element el is
    stmt_held _ (in_locked m e b d) st p at el is = subst (λ (x : Element f). Held x (p ++ list_path 1 d)) (same_Some _ el is) (list_held b d (inside begins m st) p 1 (piece.stmt (statement.sync m e b)) at refl)

    pub list_held : (b : statement.Stmts A) (d : ListWay f b) (st : Standing) (p : List ℕ) (n : ℕ) (x : Piece A) → node_at root p ≡ Some (node_of x) → drop n (children_of (node_of x)) ≡ nodes.stmts b → Held (nearest begins st d) (p ++ list_path n d)
    list_held _ (first s ss d) st p n x at are = by (element_within begins st d) refl (λ el is. stmt_held s d st (onto p n) there el is)
      where
        there : node_at root (onto p n) ≡ Some (nodes.stmt s)
        there = node_onto p n root (node_of x) (nodes.stmt s) at (head_of (children_of (node_of x)) n (nodes.stmt s) (nodes.stmts ss) are)

        by : (o : Option (Element f)) → element_within begins st d ≡ o → ((el : Element f) → element_within begins st d ≡ Some el → Held el (onto p n ++ stmt_path d))
            → Held (or_element o (record { at = st; stmt = s; rest = ss; way = d })) (p ++ n ∷ stmt_path d)
        by None e go = record { around = p; step = n; path = refl; of = x; at = at; are = are }
        by (Some el) e go = moved el (onto p n ++ stmt_path d) (p ++ n ∷ stmt_path d) (append_assoc p (n ∷ []) (stmt_path d)) (go el e)
    list_held _ (later s ss d) st p n x at are = list_held ss d (behind begins s st) p (suc n) x at (tail_of (children_of (node_of x)) n (nodes.stmt s) (nodes.stmts ss) are)

-- ---- the list of a body among the children of its member

abbrev B : Span → ℕ → ℕ
B = begins_by itself

abbrev E : Span → ℕ → ℕ
E = ends_by itself

abbrev Children : (b : Body) → syntax.Member Span → Type 0
Children b m = drop b.front (children_of (nodes.member m)) ≡ nodes.stmts b.list

drop_over : {Z : Type 0} (xs rest : List Z) (n k : ℕ) → n ≡ length xs + k → drop n (xs ++ rest) ≡ drop k rest
drop_over [] rest n k e = ap (λ (i : ℕ). drop i rest) (let f : n ≡ k = omega (arith, e) in f)
drop_over (x ∷ xs) rest zero k e = absurd (omega (arith, e))
drop_over (x ∷ xs) rest (suc n) k e = drop_over xs rest n k (omega (arith, e))

result_long : (t : Option (tree.TypeName Span)) → length (maybe (option_map nodes.type t)) ≡ result_count B E t
result_long None = refl
result_long (Some t) = refl

exps_long : (es : tree.Exps Span) → length (nodes.exps es) ≡ exps_count B E es
exps_long tree.end = refl
exps_long (tree.more e es) = ap suc (exps_long es)

args_long : (args : Option (tree.Exps Span)) → length (args_children args) ≡ args_count B E args
args_long None = refl
args_long (Some es) = exps_long es

-- what stands behind two rows, one child and a further row; behind one row, one child and two rows
behind_result : (xs ys zs rest : List (Node Span)) (w : Node Span) (n a b c : ℕ) → length xs ≡ a → length ys ≡ b → length zs ≡ c → n ≡ suc (a + b) + c → drop n (xs ++ (ys ++ (w ∷ (zs ++ rest)))) ≡ rest
behind_result xs ys zs rest w n a b c la lb lc e =
    drop_over xs (ys ++ (w ∷ (zs ++ rest))) n (length ys + suc (length zs)) (omega (arith, la, lb, lc, e))
    ∙ drop_over ys (w ∷ (zs ++ rest)) (length ys + suc (length zs)) (suc (length zs)) refl
    ∙ drop_over zs rest (length zs) 0 (omega arith)

behind_args : (xs ys zs rest : List (Node Span)) (w : Node Span) (n a b c : ℕ) → length xs ≡ a → length ys ≡ b → length zs ≡ c → n ≡ suc a + b + c → drop n (xs ++ (w ∷ (ys ++ (zs ++ rest)))) ≡ rest
behind_args xs ys zs rest w n a b c la lb lc e =
    drop_over xs (w ∷ (ys ++ (zs ++ rest))) n (suc (length ys + length zs)) (omega (arith, la, lb, lc, e))
    ∙ drop_over ys (zs ++ rest) (length ys + length zs) (length zs) refl
    ∙ drop_over zs rest (length zs) 0 (omega arith)

pub children_are : (k : MemberKey) (base : ℕ) (m : syntax.Member Span) (bound : Bound) (b : Body) → body_of_member k base m bound ≡ Some b → Children b m
unfolding nodes.member_children
children_are k base (syntax.field m mods t w init) bound b e = absurd (no_body b e)
children_are k base (syntax.inner m c) bound b e = absurd (no_body b e)
children_are k base (syntax.method m mods t w ps body) bound b e =
    subst (λ (x : Body). Children x (syntax.method m mods t w ps body)) (same_body _ b e)
    (behind_result (map nodes.modifier mods) (maybe (option_map nodes.type t)) (map nodes.param ps) (nodes.stmts body) (nodes.word w) (suc (length mods + result_count B E t) + length ps) (length mods) (result_count B E t) (length ps)
    (length-map mods nodes.modifier) (result_long t) (length-map ps nodes.param) refl)
children_are k base (syntax.constructor m mods w ps args body) bound b e =
    subst (λ (x : Body). Children x (syntax.constructor m mods w ps args body)) (same_body _ b e)
    (behind_args (map nodes.modifier mods) (map nodes.param ps) (args_children args) (nodes.stmts body) (nodes.word w) (suc (length mods) + length ps + args_count B E args) (length mods) (length ps) (args_count B E args)
    (length-map mods nodes.modifier) (length-map ps nodes.param) (args_long args) refl)

-- A body is that of its member wherever its parent is told to begin, as marks are spans.
pub member_is : (k : MemberKey) (base : ℕ) (m : syntax.Member Span) (bound : Bound) (b : Body) → body_of_member k base m bound ≡ Some b → IsMemberOf b 0 m
member_is k base (syntax.field m mods t w init) bound b e = absurd (no_body b e)
member_is k base (syntax.inner m c) bound b e = absurd (no_body b e)
member_is k base (syntax.method m mods t w ps body) bound b e = subst (λ (x : Body). IsMemberOf x 0 (syntax.method m mods t w ps body)) (same_body _ b e) refl
member_is k base (syntax.constructor m mods w ps args body) bound b e = subst (λ (x : Body). IsMemberOf x 0 (syntax.constructor m mods w ps args body)) (same_body _ b e) refl
