-- At an element of a list all locals in scope have numbers below that of the next one.
use Rattle.std.proofs.Common.{◌≡◌, ℕ, ◌+◌, ◌≤◌, List, [], ◌∷◌, length, Option, Some, None, refl, sym, subst, arith}
use Rattle.std.proofs.lemmas.List.{append-nil}
use Rattle.jr_text.specs.declared.spans.Span.{Span}
use Rattle.jr_ast.specs.Tree as tree
use Rattle.jr_ast.specs.StatementTree as statement
use Rattle.jr_table.specs.Decls.{MemberKey}
use Rattle.jr_table.specs.Rows.{Row}
use Rattle.jr_table.specs.Context.{Local, local_of, locals_in}
use Rattle.jr_pieces.specs.Ways.{StmtWay, in_init, in_eval, in_condition, in_then, in_else, in_turning, in_body, in_returned, in_block, in_lock, in_locked, ListWay, first, later}
use Rattle.jr_pieces.specs.Standings.{Standing, inside, behind, in_other}
use Rattle.jr_pieces.specs.Nearest.{Element, or_element, element_within, nearest}
use Rattle.jr_local_walks.specs.Contexts.{Each, IsEarly, IsLate, IsTyped, InOrder, IsBelow}
use Rattle.jr_local_walks.proofs.Lasts.{each_both, each_as}
use Rattle.jr_local_walks.proofs.Orders.{written_typed}

some_is : {X : Type 0} {x y : X} → (let a : Option X = Some x in a ≡ Some y) → x ≡ y
some_is e = cc

module _ (begins : Span → ℕ → ℕ) (rows : List Row) (k : MemberKey) where
  more : (n m : ℕ) → n ≤ m → (ls : List Local) → Each (IsEarly k n) ls → Each (IsEarly k m) ls
  more n m le ls e = each_as (IsEarly k n) (IsEarly k m) (λ l h. (h.0, let less = h.1 in omega (arith, le, less))) ls e

  below_behind : (x : statement.Stmt Span) (p : Standing) → IsBelow rows k p → IsBelow rows k (behind begins x p)
  unfolding locals_in
  below_behind (statement.local m f t w e) p (member, early, typed) =
      let l = local_of p.context p.next f t w in (
        member,
        each_both (IsEarly k (p.next + 1)) p.context.locals (l ∷ []) (more p.next (p.next + 1) (omega arith) p.context.locals early) ((member, omega arith), tt),
        each_both (IsTyped rows) p.context.locals (l ∷ []) typed (written_typed rows t, tt),
      )
  below_behind (statement.eval m e) p (member, early, typed) = (member, more p.next (p.next + 0) (omega arith) p.context.locals early, typed)
  below_behind (statement.branch m e s x) p (member, early, typed) = (member, more p.next _ (omega arith) p.context.locals early, typed)
  below_behind (statement.loop m e s) p (member, early, typed) = (member, more p.next _ (omega arith) p.context.locals early, typed)
  below_behind (statement.return m e) p (member, early, typed) = (member, more p.next _ (omega arith) p.context.locals early, typed)
  below_behind (statement.block m b) p (member, early, typed) = (member, more p.next _ (omega arith) p.context.locals early, typed)
  below_behind (statement.sync m e b) p (member, early, typed) = (member, more p.next _ (omega arith) p.context.locals early, typed)
  below_behind (statement.empty m) p (member, early, typed) = (member, more p.next _ (omega arith) p.context.locals early, typed)

  below_other : (m : Span) (x : statement.Stmt Span) (p : Standing) → IsBelow rows k p → IsBelow rows k (in_other begins m x p)
  below_other m x p (member, early, typed) = (member, more p.next (p.next + locals_in x) (omega arith) p.context.locals early, typed)

  module _ {f : tree.Exp Span} where
    first_below : (p : Standing) (s : statement.Stmt Span) (ss : statement.Stmts Span) (d : StmtWay f s) → IsBelow rows k p → (o : Option (Element f)) → ((x : Element f) → o ≡ Some x → IsBelow rows k x.at)
        → IsBelow rows k (or_element o (record { at = p; stmt = s; rest = ss; way = d })).at
    first_below p s ss d h None go = h
    first_below p s ss d h (Some x) go = go x refl

    mutual
      within_below : {s : statement.Stmt Span} (p : Standing) (d : StmtWay f s) → IsBelow rows k p → (x : Element f) → element_within begins p d ≡ Some x → IsBelow rows k x.at
      within_below p (in_init m is_final t w e d) h x is = absurd cc
      within_below p (in_eval m e d) h x is = absurd cc
      within_below p (in_condition m c s o d) h x is = absurd cc
      within_below p (in_then m c s o d) h x is = within_below (inside begins m p) d h x is
      within_below p (in_else m c s o d) h x is = within_below (in_other begins m s p) d (below_other m s p h) x is
      within_below p (in_turning m c s d) h x is = absurd cc
      within_below p (in_body m c s d) h x is = within_below (inside begins m p) d h x is
      within_below p (in_returned m e d) h x is = absurd cc
      within_below p (in_block m b d) h x is = subst (λ (y : Element f). IsBelow rows k y.at) (some_is is) (nearest_below (inside begins m p) d h)
      within_below p (in_lock m e b d) h x is = absurd cc
      within_below p (in_locked m e b d) h x is = subst (λ (y : Element f). IsBelow rows k y.at) (some_is is) (nearest_below (inside begins m p) d h)

      pub nearest_below : {b : statement.Stmts Span} (p : Standing) (way : ListWay f b) → IsBelow rows k p → IsBelow rows k (nearest begins p way).at
      nearest_below p (first s ss d) h = first_below p s ss d h (element_within begins p d) (λ x is. within_below p d h x is)
      nearest_below p (later s ss d) h = nearest_below (behind begins s p) d (below_behind s p h)

  -- nothing stands behind them
  pub below_ordered : (p : Standing) → IsBelow rows k p → InOrder rows k p.next (length p.context.locals) (IsLate k p.next) p.context
  below_ordered p (member, early, typed) =
      record { member = member; early = p.context.locals; late = []; locals = sym (append-nil p.context.locals); depth_is = refl; are_early = early; are_late = tt; typed = typed }
