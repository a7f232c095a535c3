-- The numbers of the locals in scope are below that of the next one.
use Rattle.std.proofs.Common.{◌≡◌, ◌⊎◌, inl, inr, ℕ, zero, suc, ◌+◌, ◌<◌, ◌≤◌, Bool, List, [], ◌∷◌, ◌++◌, length, Some, ap, arith}
use Rattle.std.specs.Prelude.{slice_get}
use Rattle.std.proofs.lemmas.Option.{none-some, same_Some}
use Rattle.jr_text.specs.declared.spans.Span.{Span}
use Rattle.jr_ast.specs.Tree as tree
use Rattle.jr_ast.specs.StatementTree as statement
use Rattle.jr_ast.specs.MemberTree as syntax
use Rattle.jr_table.specs.Keys.{Ty}
use Rattle.jr_table.specs.Decls.{MemberKey}
use Rattle.jr_table.specs.Context.{Context, Local, local_of, after, locals_in, parameters}
use Rattle.jr_table.specs.HeadRules.{types_of}
use Rattle.jr_pieces.specs.Ways.{StmtWay, in_init, in_eval, in_condition, in_then, in_else, in_turning, in_body, in_returned, in_block, in_lock, in_locked, ListWay, first, later}
use Rattle.jr_pieces.specs.Standings.{Standing, inside, behind, in_other}
use Rattle.jr_pieces.specs.Nearest.{Element, or_element, element_within, nearest}
use Rattle.jr_bodies.specs.Bodies.{begins}
use Rattle.jr_local_reads.specs.BehindLaws.{IsBelow, BodiesBeginBelow}

-- ---- lists

-- the last of a list, or one in front of it
pub at_end : {X : Type 0} (xs : List X) (y : X) (i : ℕ) (x : X) → slice_get (xs ++ y ∷ []) i ≡ Some x → (slice_get xs i ≡ Some x) ⊎ (y ≡ x)
at_end [] y zero x e = inr (same_Some y x e)
at_end [] y (suc i) x e = absurd (none-some x e)
at_end (z ∷ xs) y zero x e = inl e
at_end (z ∷ xs) y (suc i) x e = at_end xs y i x e

-- ---- parameters

params_below : (k : MemberKey) (n : ℕ) (ps : List (syntax.Param Span)) (ts : List Ty) (i : ℕ) (l : Local) → slice_get (parameters k n ps ts) i ≡ Some l → l.key.number < n + length ps
params_below k n [] ts i l e = absurd (none-some l e)
params_below k n (p ∷ ps) [] i l e = absurd (none-some l e)
params_below k n (p ∷ ps) (t ∷ ts) zero l e =
    let is : n ≡ l.key.number = ap (λ (x : Local). x.key.number) (same_Some _ l e) in omega (arith, is)
params_below k n (p ∷ ps) (t ∷ ts) (suc i) l e = let lt : l.key.number < suc n + length ps = params_below k (suc n) ps ts i l e in omega (arith, lt)

pub bodies_begin_below : BodiesBeginBelow
bodies_begin_below k is_static base ps i l e =
    let lt : l.key.number < 0 + length ps = params_below k 0 ps (types_of k) i l e in omega (arith, lt)

-- ---- statements

-- all of the context are below the number
abbrev pub AllBelow : ℕ → Context → Type 0
AllBelow n c = (i : ℕ) (l : Local) → slice_get c.locals i ≡ Some l → l.key.number < n

wider : (n m : ℕ) (c : Context) → n ≤ m → AllBelow n c → AllBelow m c
wider n m c le h i l e = let lt : l.key.number < n = h i l e in omega (arith, le, lt)

pub own_below : (c : Context) (n : ℕ) (f : Bool) (t : tree.TypeName Span) (w : tree.Word Span) → AllBelow n c → (i : ℕ) (l : Local) → slice_get (c.locals ++ local_of c n f t w ∷ []) i ≡ Some l → l.key.number < n + 1
own_below c n f t w h i l e = by (at_end c.locals (local_of c n f t w) i l e)
  where
    by : (slice_get c.locals i ≡ Some l) ⊎ (local_of c n f t w ≡ l) → l.key.number < n + 1
    by (inl q) = let lt : l.key.number < n = h i l q in omega (arith, lt)
    by (inr q) = let is : n ≡ l.key.number = ap (λ (x : Local). x.key.number) q in omega (arith, is)

pub after_below : (n : ℕ) (c : Context) (s : statement.Stmt Span) → AllBelow n c → AllBelow (n + locals_in s) (after n c s)
unfolding locals_in
after_below n c (statement.local m f t w e) h = own_below c n f t w h
after_below n c (statement.eval m e) h = wider n (n + 0) c (let le : n ≤ n + 0 = omega arith in le) h
after_below n c (statement.branch m e x o) h = wider n (n + locals_in (statement.branch m e x o)) c (let le : n ≤ n + locals_in (statement.branch m e x o) = omega arith in le) h
after_below n c (statement.loop m e x) h = wider n (n + locals_in (statement.loop m e x)) c (let le : n ≤ n + locals_in (statement.loop m e x) = omega arith in le) h
after_below n c (statement.return m e) h = wider n (n + 0) c (let le : n ≤ n + 0 = omega arith in le) h
after_below n c (statement.block m b) h = wider n (n + locals_in (statement.block m b)) c (let le : n ≤ n + locals_in (statement.block m b) = omega arith in le) h
after_below n c (statement.sync m e b) h = wider n (n + locals_in (statement.sync m e b)) c (let le : n ≤ n + locals_in (statement.sync m e b) = omega arith in le) h
after_below n c (statement.empty m) h = wider n (n + 0) c (let le : n ≤ n + 0 = omega arith in le) h

module _ {g : tree.Exp Span} where
  mutual
    within_below : {s : statement.Stmt Span} (p : Standing) (d : StmtWay g s) (x : Element g) → IsBelow p → IsBelow x.at → IsBelow (or_element (element_within begins p d) x).at
    within_below p (in_init m is_final t w v d) x h k = k
    within_below p (in_eval m v d) x h k = k
    within_below p (in_condition m c s o d) x h k = k
    within_below p (in_then m c s o d) x h k = within_below (inside begins m p) d x h k
    within_below p (in_else m c s o d) x h k = within_below (in_other begins m s p) d x (wider p.next (p.next + locals_in s) p.context (let le : p.next ≤ p.next + locals_in s = omega arith in le) h) k
    within_below p (in_turning m c s d) x h k = k
    within_below p (in_body m c s d) x h k = within_below (inside begins m p) d x h k
    within_below p (in_returned m v d) x h k = k
    within_below p (in_block m c d) x h k = near_below (inside begins m p) d h
    within_below p (in_lock m v c d) x h k = k
    within_below p (in_locked m v c d) x h k = near_below (inside begins m p) d h

    pub near_below : {b : statement.Stmts Span} (p : Standing) (d : ListWay g b) → IsBelow p → IsBelow (nearest begins p d).at
    near_below p (first s ss d) h = within_below p d (record { at = p; stmt = s; rest = ss; way = d }) h h
    near_below p (later s ss d) h = near_below (behind begins s p) d (after_below p.next p.context s h)
