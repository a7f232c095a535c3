-- A way from the list behind an element is one of the list around it.
use Rattle.std.proofs.Common.{◌≡◌, Option, Some, None, refl, subst}
use Rattle.jr_text.specs.declared.spans.Span.{Span}
use Rattle.jr_ast.specs.Tree as tree
use Rattle.jr_ast.specs.StatementTree as statement
use Rattle.jr_pieces.specs.Ways.{StmtWay, in_init, in_eval, in_condition, in_then, in_else, in_turning, in_body, in_returned, in_block, in_lock, in_locked, ListWay, first, later}
use Rattle.jr_pieces.specs.Standings.{Standing, inside, behind, in_other, at_stmt, at_list}
use Rattle.jr_pieces.specs.Nearest.{Element, or_element, element_within, nearest}
use Rattle.jr_bodies.specs.Bodies.{begins}
use Rattle.jr_local_reads.specs.BehindLaws.{WaysGoOn}

no_element : {g : tree.Exp Span} (x : Element g) → (let none : Option (Element g) = None in none ≡ Some x) → ⊥
no_element x e = cc

same_element : {g : tree.Exp Span} (x y : Element g) → (let o : Option (Element g) = Some x in o ≡ Some y) → x ≡ y
same_element x y e = cc

module _ {g : tree.Exp Span} (f : tree.Exp Span) where
  -- from the list behind an element, within a list, and within a statement
  record InList (b : statement.Stmts Span) (p : Standing) (x : Element g) (e : ListWay f x.rest) : Type 0 where
    way : ListWay f b
    at : at_list begins p way ≡ at_list begins (behind begins x.stmt x.at) e

  record InStmt (s : statement.Stmt Span) (p : Standing) (x : Element g) (e : ListWay f x.rest) : Type 0 where
    way : StmtWay f s
    at : at_stmt begins p way ≡ at_list begins (behind begins x.stmt x.at) e

  abbrev Goes : (b : statement.Stmts Span) (p : Standing) (x : Element g) → Type 0
  Goes b p x = (e : ListWay f x.rest) → InList b p x e

  abbrev GoesIn : (s : statement.Stmt Span) (p : Standing) (x : Element g) → Type 0
  GoesIn s p x = (e : ListWay f x.rest) → InStmt s p x e

  abbrev in_locked_list : (m : Span) (l : tree.Exp Span) (c : statement.Stmts Span) (p : Standing) (x : Element g) → Goes c (inside begins m p) x → GoesIn (statement.sync m l c) p x
  in_locked_list m l c p x go e = (let r = go e in record { way = in_locked m l c r.way; at = r.at })

  abbrev in_block_list : (m : Span) (c : statement.Stmts Span) (p : Standing) (x : Element g) → Goes c (inside begins m p) x → GoesIn (statement.block m c) p x
  in_block_list m c p x go e = (let r = go e in record { way = in_block m c r.way; at = r.at })

  first_on : (s : statement.Stmt Span) (ss : statement.Stmts Span) (p : Standing) (d : StmtWay g s) (o : Option (Element g)) → element_within begins p d ≡ o → ((x : Element g) → element_within begins p d ≡ Some x → GoesIn s p x)
      → Goes (statement.more s ss) p (or_element o (record { at = p; stmt = s; rest = ss; way = d }))
  first_on s ss p d None is go = λ e. record { way = later s ss e; at = refl }
  first_on s ss p d (Some x) is go = λ e. (let r = go x is e in record { way = first s ss r.way; at = r.at })

  mutual
    stmt_on : {s : statement.Stmt Span} (p : Standing) (d : StmtWay g s) (x : Element g) → element_within begins p d ≡ Some x → GoesIn s p x
    stmt_on p (in_init m is_final t w v d) x is = absurd (no_element x is)
    stmt_on p (in_eval m v d) x is = absurd (no_element x is)
    stmt_on p (in_condition m c s o d) x is = absurd (no_element x is)
    stmt_on p (in_then m c s o d) x is = λ e. (let r = stmt_on (inside begins m p) d x is e in record { way = in_then m c s o r.way; at = r.at })
    stmt_on p (in_else m c s o d) x is = λ e. (let r = stmt_on (in_other begins m s p) d x is e in record { way = in_else m c s o r.way; at = r.at })
    stmt_on p (in_turning m c s d) x is = absurd (no_element x is)
    stmt_on p (in_body m c s d) x is = λ e. (let r = stmt_on (inside begins m p) d x is e in record { way = in_body m c s r.way; at = r.at })
    stmt_on p (in_returned m v d) x is = absurd (no_element x is)
    stmt_on p (in_block m c d) x is = subst (GoesIn (statement.block m c) p) (same_element (nearest begins (inside begins m p) d) x is) (in_block_list m c p (nearest begins (inside begins m p) d) (list_on (inside begins m p) d))
    stmt_on p (in_lock m v c d) x is = absurd (no_element x is)
    stmt_on p (in_locked m v c d) x is = subst (GoesIn (statement.sync m v c) p) (same_element (nearest begins (inside begins m p) d) x is) (in_locked_list m v c p (nearest begins (inside begins m p) d) (list_on (inside begins m p) d))

    list_on : {b : statement.Stmts Span} (p : Standing) (d : ListWay g b) → Goes b p (nearest begins p d)
    list_on p (first s ss d) = first_on s ss p d (element_within begins p d) refl (stmt_on p d)
    list_on p (later s ss d) = λ e. (let r = list_on (behind begins s p) d e in record { way = later s ss r.way; at = r.at })

pub ways_go_on : WaysGoOn
ways_go_on b p g d f e = (let r = list_on f p d e in record { way = r.way; at = r.at })
