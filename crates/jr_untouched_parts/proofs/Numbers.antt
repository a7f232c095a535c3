-- The locals that the nearest list declares have numbers among those of each list on its way.
use Rattle.std.proofs.Common.{◌≡◌, ℕ, ◌+◌, ◌≤◌, Option, Some, None, refl, subst, ◌∙◌, arith}
use Rattle.jr_ast.specs.Tree as tree
use Rattle.jr_ast.specs.StatementTree as statement
use Rattle.jr_table.specs.Decls.{MemberKey}
use Rattle.jr_table.specs.Context.{Context, after, locals_in, locals_in_else, locals_in_row}
use Rattle.jr_pieces.specs.Ways.{StmtWay, in_init, in_eval, in_condition, in_then, in_else, in_turning, in_body, in_returned, in_block, in_lock, in_locked, ListWay, first, later}
use Rattle.jr_pieces.specs.Standings.{Standing, inside, behind, in_other}
use Rattle.jr_pieces.specs.Nearest.{Element, or_element, element_within, nearest}
use Rattle.jr_untouched_parts.specs.Around.{begin, end}

module _ {A : Type 0} where
  after_member : (n : ℕ) (c : Context) (s : statement.Stmt A) → (after n c s).member ≡ c.member
  after_member n c (statement.local m is_final t w e) = refl
  after_member n c (statement.eval m e) = refl
  after_member n c (statement.branch m e x other) = refl
  after_member n c (statement.loop m e x) = refl
  after_member n c (statement.return m e) = refl
  after_member n c (statement.block m body) = refl
  after_member n c (statement.sync m e body) = refl
  after_member n c (statement.empty m) = refl

module _ {A : Type 0} {f : tree.Exp A} where
  abbrev pub Among : (from count : ℕ) → Element f → Type 0
  Among from count x = (from ≤ begin x) × (end x ≤ from + count)

  none_there : (x : Element f) → (let none : Option (Element f) = None in none ≡ Some x) → ⊥
  none_there x e = cc

  some_there : (x y : Element f) → Some x ≡ Some y → x ≡ y
  some_there x y e = cc

  module _ (begins : A → ℕ → ℕ) where
    first_among : {s : statement.Stmt A} (p : Standing) (ss : statement.Stmts A) (d : StmtWay f s) → ((x : Element f) → element_within begins p d ≡ Some x → Among p.next (locals_in s) x)
        → (o : Option (Element f)) → element_within begins p d ≡ o → Among p.next (locals_in_row (statement.more s ss)) (or_element o (record { at = p; stmt = s; rest = ss; way = d }))
    unfolding locals_in locals_in_else locals_in_row
    first_among p ss d go None is = (omega arith, omega arith)
    first_among p ss d go (Some x) is = let a = go x is in (a.0, omega (arith, a.1))

    mutual
      unfolding locals_in locals_in_else locals_in_row

      pub among_stmt : {s : statement.Stmt A} (p : Standing) (d : StmtWay f s) (x : Element f) → element_within begins p d ≡ Some x → Among p.next (locals_in s) x
      among_stmt p (in_init m is_final t w e d) x is = absurd (none_there x is)
      among_stmt p (in_eval m e d) x is = absurd (none_there x is)
      among_stmt p (in_condition m c s o d) x is = absurd (none_there x is)
      among_stmt p (in_then m c s o d) x is =
          let a = among_stmt (inside begins m p) d x is in (a.0, omega (arith, a.1))
      among_stmt p (in_else m c s o d) x is =
          let a = among_stmt (in_other begins m s p) d x is in (omega (arith, a.0), omega (arith, a.1))
      among_stmt p (in_turning m c s d) x is = absurd (none_there x is)
      among_stmt p (in_body m c s d) x is = among_stmt (inside begins m p) d x is
      among_stmt p (in_returned m e d) x is = absurd (none_there x is)
      among_stmt p (in_block m b d) x is = subst (Among p.next (locals_in_row b)) (some_there (nearest begins (inside begins m p) d) x is) (among_list (inside begins m p) d)
      among_stmt p (in_lock m e b d) x is = absurd (none_there x is)
      among_stmt p (in_locked m e b d) x is = subst (Among p.next (locals_in_row b)) (some_there (nearest begins (inside begins m p) d) x is) (among_list (inside begins m p) d)

      pub among_list : {b : statement.Stmts A} (p : Standing) (way : ListWay f b) → Among p.next (locals_in_row b) (nearest begins p way)
      among_list p (first s ss d) = first_among p ss d (λ x is. among_stmt p d x is) (element_within begins p d) refl
      among_list p (later s ss d) =
          let a = among_list (behind begins s p) d in (omega (arith, a.0), omega (arith, a.1))

    mutual
      within_member : {s : statement.Stmt A} (p : Standing) (d : StmtWay f s) (x : Element f) (k : MemberKey) → p.context.member ≡ k → x.at.context.member ≡ k → (or_element (element_within begins p d) x).at.context.member ≡ k
      within_member p (in_init m is_final t w e d) x k g h = h
      within_member p (in_eval m e d) x k g h = h
      within_member p (in_condition m c s o d) x k g h = h
      within_member p (in_then m c s o d) x k g h = within_member (inside begins m p) d x k g h
      within_member p (in_else m c s o d) x k g h = within_member (in_other begins m s p) d x k g h
      within_member p (in_turning m c s d) x k g h = h
      within_member p (in_body m c s d) x k g h = within_member (inside begins m p) d x k g h
      within_member p (in_returned m e d) x k g h = h
      within_member p (in_block m b d) x k g h = nearest_member (inside begins m p) d k g
      within_member p (in_lock m e b d) x k g h = h
      within_member p (in_locked m e b d) x k g h = nearest_member (inside begins m p) d k g

      -- the nearest statement stands in the member of the body
      pub nearest_member : {b : statement.Stmts A} (p : Standing) (d : ListWay f b) (k : MemberKey) → p.context.member ≡ k → (nearest begins p d).at.context.member ≡ k
      nearest_member p (first s ss d) k g = within_member p d (record { at = p; stmt = s; rest = ss; way = d }) k g g
      nearest_member p (later s ss d) k g = nearest_member (behind begins s p) d k (after_member p.next p.context s ∙ g)
