-- In a list with nested spans one expression of the nearest element has the span.
use Rattle.std.proofs.Common.{◌≡◌, Option, Some, None, refl, sym, ap, subst, ◌∙◌}
use Rattle.jr_text.specs.declared.spans.Span.{Span}
use Rattle.jr_ast.specs.Tree as tree
use Rattle.jr_ast.specs.StatementTree as statement
use Rattle.jr_grammar.specs.Layout.{itself}
use Rattle.jr_pieces.specs.Ways.{StmtWay, in_init, in_eval, in_condition, in_then, in_else, in_turning, in_body, in_returned, in_block, in_lock, in_locked, ListWay, first, later}
use Rattle.jr_pieces.specs.Standings.{Standing, inside, behind, in_other, at_stmt, at_list}
use Rattle.jr_pieces.specs.Nearest.{Element, or_element, element_within, nearest}
use Rattle.jr_pieces.specs.Finding.{list_end}
use Rattle.jr_told_ways.specs.Told.{In, OneWayHasASpan}
use Rattle.jr_bodies.specs.Bodies.{begins}
use Rattle.jr_local_ways.proofs.Ends.{list_ends}
use Rattle.jr_local_ways.specs.Elements.{OneHasTheSpan}

no_element : {f : tree.Exp Span} {P : Type 0} (x : Element f) → (let none : Option (Element f) = None in none ≡ Some x) → P
no_element x e = absurd cc

same_element : {f : tree.Exp Span} (x y : Element f) → (let o : Option (Element f) = Some x in o ≡ Some y) → x ≡ y
same_element x y e = cc

module _ {f : tree.Exp Span} (g : tree.Exp Span) where
  -- a way from the element is one of the list around it, or of the statement around that
  record OfList (b : statement.Stmts Span) (p : Standing) (x : Element f) (d : StmtWay g x.stmt) : Type 0 where
    way : ListWay g b
    at : at_list begins p way ≡ at_stmt begins x.at d

  record OfStmt (s : statement.Stmt Span) (p : Standing) (x : Element f) (d : StmtWay g x.stmt) : Type 0 where
    way : StmtWay g s
    at : at_stmt begins p way ≡ at_stmt begins x.at d

  abbrev Goes : (b : statement.Stmts Span) (p : Standing) (x : Element f) → Type 0
  Goes b p x = (d : StmtWay g x.stmt) → OfList b p x d

  abbrev GoesIn : (s : statement.Stmt Span) (p : Standing) (x : Element f) → Type 0
  GoesIn s p x = (d : StmtWay g x.stmt) → OfStmt s p x d

  abbrev locked : (m : Span) (l : tree.Exp Span) (c : statement.Stmts Span) (p : Standing) (x : Element f) → Goes c (inside begins m p) x → GoesIn (statement.sync m l c) p x
  locked m l c p x go d = (let r = go d in record { way = in_locked m l c r.way; at = r.at })

  abbrev in_braces : (m : Span) (c : statement.Stmts Span) (p : Standing) (x : Element f) → Goes c (inside begins m p) x → GoesIn (statement.block m c) p x
  in_braces m c p x go d = (let r = go d in record { way = in_block m c r.way; at = r.at })

  first_goes : (s : statement.Stmt Span) (ss : statement.Stmts Span) (p : Standing) (w : StmtWay f s) (o : Option (Element f)) → ((x : Element f) → o ≡ Some x → GoesIn s p x)
      → Goes (statement.more s ss) p (or_element o (record { at = p; stmt = s; rest = ss; way = w }))
  first_goes s ss p w None go = λ d. record { way = first s ss d; at = refl }
  first_goes s ss p w (Some x) go = λ d. (let r = go x refl d in record { way = first s ss r.way; at = r.at })

  mutual
    stmt_goes : {s : statement.Stmt Span} (p : Standing) (w : StmtWay f s) (x : Element f) → element_within begins p w ≡ Some x → GoesIn s p x
    stmt_goes p (in_init m is_final t v e w) x is = no_element x is
    stmt_goes p (in_eval m e w) x is = no_element x is
    stmt_goes p (in_condition m c s o w) x is = no_element x is
    stmt_goes p (in_then m c s o w) x is = λ d. (let r = stmt_goes (inside begins m p) w x is d in record { way = in_then m c s o r.way; at = r.at })
    stmt_goes p (in_else m c s o w) x is = λ d. (let r = stmt_goes (in_other begins m s p) w x is d in record { way = in_else m c s o r.way; at = r.at })
    stmt_goes p (in_turning m c s w) x is = no_element x is
    stmt_goes p (in_body m c s w) x is = λ d. (let r = stmt_goes (inside begins m p) w x is d in record { way = in_body m c s r.way; at = r.at })
    stmt_goes p (in_returned m e w) x is = no_element x is
    stmt_goes p (in_block m c w) x is = subst (GoesIn (statement.block m c) p) (same_element (nearest begins (inside begins m p) w) x is) (in_braces m c p (nearest begins (inside begins m p) w) (list_goes (inside begins m p) w))
    stmt_goes p (in_lock m e c w) x is = no_element x is
    stmt_goes p (in_locked m e c w) x is = subst (GoesIn (statement.sync m e c) p) (same_element (nearest begins (inside begins m p) w) x is) (locked m e c p (nearest begins (inside begins m p) w) (list_goes (inside begins m p) w))

    list_goes : {b : statement.Stmts Span} (p : Standing) (w : ListWay f b) → Goes b p (nearest begins p w)
    list_goes p (first s ss w) = first_goes s ss p w (element_within begins p w) (λ x is. stmt_goes p w x is)
    list_goes p (later s ss w) = λ d. (let r = list_goes (behind begins s p) w d in record { way = later s ss r.way; at = r.at })

pub one_has_the_span : OneWayHasASpan Span → OneHasTheSpan
one_has_the_span law b nested p f way g d same =
    let r = list_goes g p way d in
    let ends : list_end itself 0 r.way ≡ list_end itself 0 way = list_ends g b r.way 0 ∙ same ∙ sym (list_ends f b way 0) in
    let one = law itself (record { from = 0; to = nested.to }) 1 b nested.nested g f r.way way ends in
    record {
      value = ap (λ (x : In (λ (h : tree.Exp Span). ListWay h b)). x.value) one;
      at = sym r.at ∙ ap (λ (x : In (λ (h : tree.Exp Span). ListWay h b)). at_list begins p x.way) one;
    }
