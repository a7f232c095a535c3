-- Where one way leads to an expression, no statement beside it has a way there, and no list on it but
-- the innermost is that in which the nearest statement stands.
use Rattle.std.proofs.Common.{◌≡◌, ℕ, Bool, true, false, Option, Some, None, refl, sym, ap, ◌∙◌, subst}
use Rattle.jr_ast.specs.Tree as tree
use Rattle.jr_ast.specs.StatementTree as statement
use Rattle.jr_pieces.specs.Ways.{StmtWay, in_init, in_eval, in_condition, in_then, in_else, in_turning, in_body, in_returned, in_block, in_lock, in_locked, ListWay, first, later}
use Rattle.jr_pieces.specs.Standings.{Standing, inside, behind, in_other}
use Rattle.jr_pieces.specs.Nearest.{Element, or_element, element_within, nearest}
use Rattle.jr_told_ways.specs.Told.{In}
use Rattle.jr_untouched_parts.specs.Around.{held}

some_is : {X : Type 0} {x y : X} → Some x ≡ Some y → x ≡ y
some_is e = cc

none_is : {X : Type 0} {x : X} → (let none : Option X = None in none ≡ Some x) → ⊥
none_is e = cc

true_false : true ≡ false → ⊥
true_false e = cc

module _ {A : Type 0} where
  -- ---- parts of ways, with the expressions to which they lead

  abbrev SomeStmt : statement.Stmt A → Type 0
  SomeStmt s = In (λ (g : tree.Exp A). StmtWay g s)

  abbrev SomeList : statement.Stmts A → Type 0
  SomeList b = In (λ (g : tree.Exp A). ListWay g b)

  abbrev front_of : {g : tree.Exp A} {s : statement.Stmt A} {ss : statement.Stmts A} → ListWay g (statement.more s ss) → Option (SomeStmt s)
  front_of {g} (first s ss d) = Some (record { value = g; way = d })
  front_of (later s ss d) = None

  abbrev back_of : {g : tree.Exp A} {s : statement.Stmt A} {ss : statement.Stmts A} → ListWay g (statement.more s ss) → Option (SomeList ss)
  back_of (first s ss d) = None
  back_of {g} (later s ss d) = Some (record { value = g; way = d })

  abbrev then_of : {g : tree.Exp A} {m : A} {c : tree.Exp A} {s : statement.Stmt A} {o : statement.Else A} → StmtWay g (statement.branch m c s o) → Option (SomeStmt s)
  then_of {g} (in_then m c s o d) = Some (record { value = g; way = d })
  then_of (in_condition m c s o d) = None
  then_of (in_else m c s o d) = None

  abbrev else_of : {g : tree.Exp A} {m : A} {c : tree.Exp A} {s y : statement.Stmt A} → StmtWay g (statement.branch m c s (statement.otherwise y)) → Option (SomeStmt y)
  else_of {g} (in_else m c s y d) = Some (record { value = g; way = d })
  else_of (in_condition m c s o d) = None
  else_of (in_then m c s o d) = None

  abbrev body_of : {g : tree.Exp A} {m : A} {c : tree.Exp A} {s : statement.Stmt A} → StmtWay g (statement.loop m c s) → Option (SomeStmt s)
  body_of {g} (in_body m c s d) = Some (record { value = g; way = d })
  body_of (in_turning m c s d) = None

  abbrev block_of : {g : tree.Exp A} {m : A} {b : statement.Stmts A} → StmtWay g (statement.block m b) → Option (SomeList b)
  block_of {g} (in_block m b d) = Some (record { value = g; way = d })

  abbrev lock_of : {g : tree.Exp A} {m : A} {e : tree.Exp A} {b : statement.Stmts A} → StmtWay g (statement.sync m e b) → Option (SomeList b)
  lock_of {g} (in_locked m e b d) = Some (record { value = g; way = d })
  lock_of (in_lock m e b d) = None

  -- ---- the only way to an expression

  module _ {f : tree.Exp A} where
    abbrev a_stmt : {s : statement.Stmt A} → StmtWay f s → SomeStmt s
    a_stmt d = record { value = f; way = d }

    abbrev a_list : {b : statement.Stmts A} → ListWay f b → SomeList b
    a_list d = record { value = f; way = d }

    abbrev pub OneStmt : {s : statement.Stmt A} → StmtWay f s → Type 0
    OneStmt {s} d = (e : StmtWay f s) → a_stmt e ≡ a_stmt d

    abbrev pub OneList : {b : statement.Stmts A} → ListWay f b → Type 0
    OneList {b} d = (e : ListWay f b) → a_list e ≡ a_list d

    module _ {s : statement.Stmt A} {ss : statement.Stmts A} where
      pub one_first : (d : StmtWay f s) → OneList (first s ss d) → OneStmt d
      one_first d one e = some_is (ap (λ (x : SomeList (statement.more s ss)). front_of x.way) (one (first s ss e)))

      pub one_later : (d : ListWay f ss) → OneList (later s ss d) → OneList d
      one_later d one e = some_is (ap (λ (x : SomeList (statement.more s ss)). back_of x.way) (one (later s ss e)))

      pub none_behind : (d : StmtWay f s) → OneList (first s ss d) → ListWay f ss → ⊥
      none_behind d one e = none_is (sym (ap (λ (x : SomeList (statement.more s ss)). back_of x.way) (one (later s ss e))))

      pub none_in_front : (d : ListWay f ss) → OneList (later s ss d) → StmtWay f s → ⊥
      none_in_front d one e = none_is (ap (λ (x : SomeList (statement.more s ss)). back_of x.way) (one (first s ss e)))

    pub one_then : (m : A) (c : tree.Exp A) (s : statement.Stmt A) (o : statement.Else A) (d : StmtWay f s) → OneStmt (in_then m c s o d) → OneStmt d
    one_then m c s o d one e = some_is (ap (λ (x : SomeStmt (statement.branch m c s o)). then_of x.way) (one (in_then m c s o e)))

    pub none_else : (m : A) (c : tree.Exp A) (s y : statement.Stmt A) (d : StmtWay f s) → OneStmt (in_then m c s (statement.otherwise y) d) → StmtWay f y → ⊥
    none_else m c s y d one e = none_is (ap (λ (x : SomeStmt (statement.branch m c s (statement.otherwise y))). then_of x.way) (one (in_else m c s y e)))

    pub one_else : (m : A) (c : tree.Exp A) (s y : statement.Stmt A) (d : StmtWay f y) → OneStmt (in_else m c s y d) → OneStmt d
    one_else m c s y d one e = some_is (ap (λ (x : SomeStmt (statement.branch m c s (statement.otherwise y))). else_of x.way) (one (in_else m c s y e)))

    pub none_then : (m : A) (c : tree.Exp A) (s y : statement.Stmt A) (d : StmtWay f y) → OneStmt (in_else m c s y d) → StmtWay f s → ⊥
    none_then m c s y d one e = none_is (ap (λ (x : SomeStmt (statement.branch m c s (statement.otherwise y))). else_of x.way) (one (in_then m c s (statement.otherwise y) e)))

    pub one_body : (m : A) (c : tree.Exp A) (s : statement.Stmt A) (d : StmtWay f s) → OneStmt (in_body m c s d) → OneStmt d
    one_body m c s d one e = some_is (ap (λ (x : SomeStmt (statement.loop m c s)). body_of x.way) (one (in_body m c s e)))

    pub one_block : (m : A) (b : statement.Stmts A) (d : ListWay f b) → OneStmt (in_block m b d) → OneList d
    one_block m b d one e = some_is (ap (λ (x : SomeStmt (statement.block m b)). block_of x.way) (one (in_block m b e)))

    pub one_locked : (m : A) (e : tree.Exp A) (b : statement.Stmts A) (d : ListWay f b) → OneStmt (in_locked m e b d) → OneList d
    one_locked m e b d one w = some_is (ap (λ (x : SomeStmt (statement.sync m e b)). lock_of x.way) (one (in_locked m e b w)))

  -- ---- lists that a way meets

  -- a way goes into a list
  abbrev pub meets : {g : tree.Exp A} {s : statement.Stmt A} → StmtWay g s → Bool
  meets (in_init m is_final t w e d) = false
  meets (in_eval m e d) = false
  meets (in_condition m c s o d) = false
  meets (in_then m c s o d) = meets d
  meets (in_else m c s o d) = meets d
  meets (in_turning m c s d) = false
  meets (in_body m c s d) = meets d
  meets (in_returned m e d) = false
  meets (in_block m b d) = true
  meets (in_lock m e b d) = false
  meets (in_locked m e b d) = true

  module _ (begins : A → ℕ → ℕ) {f : tree.Exp A} where
    -- it does where an element is within
    within_meets : {s : statement.Stmt A} (p : Standing) (d : StmtWay f s) (x : Element f) → element_within begins p d ≡ Some x → meets d ≡ true
    within_meets p (in_init m is_final t w e d) x is = absurd (none_is is)
    within_meets p (in_eval m e d) x is = absurd (none_is is)
    within_meets p (in_condition m c s o d) x is = absurd (none_is is)
    within_meets p (in_then m c s o d) x is = within_meets (inside begins m p) d x is
    within_meets p (in_else m c s o d) x is = within_meets (in_other begins m s p) d x is
    within_meets p (in_turning m c s d) x is = absurd (none_is is)
    within_meets p (in_body m c s d) x is = within_meets (inside begins m p) d x is
    within_meets p (in_returned m e d) x is = absurd (none_is is)
    within_meets p (in_block m b d) x is = refl
    within_meets p (in_lock m e b d) x is = absurd (none_is is)
    within_meets p (in_locked m e b d) x is = refl

    some_none : (x : Element f) → Some x ≡ None → ⊥
    some_none x e = cc

    none_meets : {s : statement.Stmt A} (p : Standing) (d : StmtWay f s) → element_within begins p d ≡ None → meets d ≡ false
    none_meets p (in_init m is_final t w e d) is = refl
    none_meets p (in_eval m e d) is = refl
    none_meets p (in_condition m c s o d) is = refl
    none_meets p (in_then m c s o d) is = none_meets (inside begins m p) d is
    none_meets p (in_else m c s o d) is = none_meets (in_other begins m s p) d is
    none_meets p (in_turning m c s d) is = refl
    none_meets p (in_body m c s d) is = none_meets (inside begins m p) d is
    none_meets p (in_returned m e d) is = refl
    none_meets p (in_block m b d) is = absurd (some_none (nearest begins (inside begins m p) d) is)
    none_meets p (in_lock m e b d) is = refl
    none_meets p (in_locked m e b d) is = absurd (some_none (nearest begins (inside begins m p) d) is)

    -- the way from the nearest statement meets none
    first_straight : {s : statement.Stmt A} (p : Standing) (ss : statement.Stmts A) (d : StmtWay f s) → ((x : Element f) → element_within begins p d ≡ Some x → meets x.way ≡ false)
        → (o : Option (Element f)) → element_within begins p d ≡ o → meets (or_element o (record { at = p; stmt = s; rest = ss; way = d })).way ≡ false
    first_straight p ss d go None is = none_meets p d is
    first_straight p ss d go (Some x) is = go x is

    mutual
      within_straight : {s : statement.Stmt A} (p : Standing) (d : StmtWay f s) (x : Element f) → element_within begins p d ≡ Some x → meets x.way ≡ false
      within_straight p (in_init m is_final t w e d) x is = absurd (none_is is)
      within_straight p (in_eval m e d) x is = absurd (none_is is)
      within_straight p (in_condition m c s o d) x is = absurd (none_is is)
      within_straight p (in_then m c s o d) x is = within_straight (inside begins m p) d x is
      within_straight p (in_else m c s o d) x is = within_straight (in_other begins m s p) d x is
      within_straight p (in_turning m c s d) x is = absurd (none_is is)
      within_straight p (in_body m c s d) x is = within_straight (inside begins m p) d x is
      within_straight p (in_returned m e d) x is = absurd (none_is is)
      within_straight p (in_block m b d) x is = subst (λ (y : Element f). meets y.way ≡ false) (some_is is) (nearest_straight (inside begins m p) d)
      within_straight p (in_lock m e b d) x is = absurd (none_is is)
      within_straight p (in_locked m e b d) x is = subst (λ (y : Element f). meets y.way ≡ false) (some_is is) (nearest_straight (inside begins m p) d)

      pub nearest_straight : {b : statement.Stmts A} (p : Standing) (way : ListWay f b) → meets (nearest begins p way).way ≡ false
      nearest_straight p (first s ss d) = first_straight p ss d (λ x is. within_straight p d x is) (element_within begins p d) refl
      nearest_straight p (later s ss d) = nearest_straight (behind begins s p) d

    -- ---- the list of the nearest statement

    module _ (x : Element f) (straight : meets x.way ≡ false) where
      first_is : (s : statement.Stmt A) (ss : statement.Stmts A) → statement.more s ss ≡ held x → s ≡ x.stmt
      first_is s ss e = cc

      -- a way to the expression, straight below a statement that is the nearest one
      straight_below : (s : statement.Stmt A) (ss : statement.Stmts A) → statement.more s ss ≡ held x → (e : StmtWay f s) × (meets e ≡ false)
      straight_below s ss e = subst (λ (t : statement.Stmt A). (d : StmtWay f t) × (meets d ≡ false)) (sym (first_is s ss e)) (x.way, straight)

      -- no other list on the way is that one
      pub not_later : (s : statement.Stmt A) (ss : statement.Stmts A) (d : ListWay f ss) → OneList (later s ss d) → statement.more s ss ≡ held x → ⊥
      not_later s ss d one e = none_in_front d one (straight_below s ss e).0

      pub not_further_in : (s : statement.Stmt A) (ss : statement.Stmts A) (p : Standing) (d : StmtWay f s) (y : Element f) → element_within begins p d ≡ Some y → OneList (first s ss d) → statement.more s ss ≡ held x → ⊥
      not_further_in s ss p d y is one e =
          let w = straight_below s ss e in
          let same : a_stmt w.0 ≡ a_stmt d = one_first d one w.0 in
          let both : meets w.0 ≡ meets d = ap (λ (z : SomeStmt s). meets z.way) same in
          true_false (sym (within_meets p d y is) ∙ sym both ∙ w.1)

      -- nor is a list to which there is no way
      pub not_beside : (xs : statement.Stmts A) → (ListWay f xs → ⊥) → xs ≡ held x → ⊥
      not_beside xs none e = none (subst (λ (ys : statement.Stmts A). ListWay f ys) (sym e) (first x.stmt x.rest x.way))
