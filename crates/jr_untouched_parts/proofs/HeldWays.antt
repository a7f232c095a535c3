-- Where a rest of a list stands in a body, and a way leads straight from its first statement to an
-- expression, that statement is the nearest one.
use Rattle.std.proofs.Common.{◌≡◌, ℕ, Option, Some, None, ap}
use Rattle.jr_ast.specs.Tree as tree
use Rattle.jr_ast.specs.StatementTree as statement
use Rattle.jr_pieces.specs.Ways.{StmtWay, ListWay, first, later}
use Rattle.jr_pieces.specs.Ways as ways
use Rattle.jr_pieces.specs.Standings.{Standing, inside, behind, in_other}
use Rattle.jr_pieces.specs.Nearest.{Element, or_element, element_within, nearest}
use Rattle.jr_member_parts.specs.HeldLists.{StmtHolds, ListHolds, here, within, held_in, held_at}
use Rattle.jr_member_parts.specs.HeldLists as holds

module _ {A : Type 0} {f : tree.Exp A} (s : statement.Stmt A) (ss : statement.Stmts A) (w : StmtWay f s) where
  mutual
    pub way_in : {x : statement.Stmt A} → StmtHolds (statement.more s ss) x → StmtWay f x
    way_in (holds.in_then m c y o h) = ways.in_then m c y o (way_in h)
    way_in (holds.in_else m c y o h) = ways.in_else m c y o (way_in h)
    way_in (holds.in_body m c y h) = ways.in_body m c y (way_in h)
    way_in (holds.in_block m b h) = ways.in_block m b (way_of h)
    way_in (holds.in_locked m e b h) = ways.in_locked m e b (way_of h)

    pub way_of : {b : statement.Stmts A} → ListHolds (statement.more s ss) b → ListWay f b
    way_of here = first s ss w
    way_of (within x xs h) = first x xs (way_in h)
    way_of (holds.later x xs h) = later x xs (way_of h)

  module _ (begins : A → ℕ → ℕ) (straight : (p : Standing) → element_within begins p w ≡ None) where
    abbrev pub at_held : Standing → Element f
    at_held p = record { at = p; stmt = s; rest = ss; way = w }

    mutual
      unfolding way_in way_of

      nearest_in : {x : statement.Stmt A} (p : Standing) (h : StmtHolds (statement.more s ss) x) → element_within begins p (way_in h) ≡ Some (at_held (held_in begins p h))
      nearest_in p (holds.in_then m c y o h) = nearest_in (inside begins m p) h
      nearest_in p (holds.in_else m c y o h) = nearest_in (in_other begins m y p) h
      nearest_in p (holds.in_body m c y h) = nearest_in (inside begins m p) h
      nearest_in p (holds.in_block m b h) = ap (λ (z : Element f). Some z) (nearest_of (inside begins m p) h)
      nearest_in p (holds.in_locked m e b h) = ap (λ (z : Element f). Some z) (nearest_of (inside begins m p) h)

      pub nearest_of : {b : statement.Stmts A} (p : Standing) (h : ListHolds (statement.more s ss) b) → nearest begins p (way_of h) ≡ at_held (held_at begins p h)
      nearest_of p here = ap (λ (o : Option (Element f)). or_element o (at_held p)) (straight p)
      nearest_of p (within x xs h) = ap (λ (o : Option (Element f)). or_element o (record { at = p; stmt = x; rest = xs; way = way_in h })) (nearest_in p h)
      nearest_of p (holds.later x xs h) = nearest_of (behind begins x p) h
