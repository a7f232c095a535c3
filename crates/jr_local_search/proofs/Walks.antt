-- The walk over declarations: rows of declarations, statements and lists.
use Rattle.std.proofs.Common.{◌≡◌, ℕ, zero, suc, ◌+◌, ◌<◌, ◌≤◌, Bool, true, false, List, [], ◌∷◌, ◌++◌, length, get_or, drop, Option, Some, None, refl, ap, sym, subst, ◌∙◌, arith}
use Rattle.std.specs.Prelude.{if◌then◌else◌}
use Rattle.std.proofs.lemmas.List.{drop_all}
use Rattle.jr_text.specs.declared.spans.Span.{Span}
use Rattle.jr_ast.specs.declared.stmts.Stmt.{Stmt}
use Rattle.jr_ast.specs.Tree as tree
use Rattle.jr_ast.specs.StatementTree as statement
use Rattle.jr_ast.specs.View.{stmt_of, stmts_of}
use Rattle.jr_table.specs.Context.{locals_in, locals_in_else, locals_in_row}
use Rattle.jr_piece_search.proofs.Choosing.{left_is}
use Rattle.jr_local_search.specs.Declarations.{Declaration, declarations, declarations_in, Wanted, nobody, is_wanted, first_wanted}
use Rattle.jr_local_search.specs.Walking.{Walk, met, passed, at_last, found_in, Walks, HeadWalks, BranchesWalk}

-- ---- rows of declarations

module _ (w : Wanted) where
  abbrev first : List Declaration → Option Declaration
  first ds = first_wanted w ds

  pub none_first : (ds es : List Declaration) → first ds ≡ None → first (ds ++ es) ≡ first es
  none_first [] es e = refl
  none_first (d ∷ ds) es e = by (is_wanted w d) e (none_first ds es)
    where
      some_none : Some d ≡ None → ⊥
      some_none j = cc

      by : (b : Bool) → (if b then Some d else first ds) ≡ None → (first ds ≡ None → first (ds ++ es) ≡ first es) → (if b then Some d else first (ds ++ es)) ≡ first es
      by true k on = absurd (some_none k)
      by false k on = on k

  pub some_first : (ds es : List Declaration) (x : Declaration) → first ds ≡ Some x → first (ds ++ es) ≡ Some x
  some_first [] es x e = absurd (apart e)
    where
      apart : None ≡ Some x → ⊥
      apart j = cc
  some_first (d ∷ ds) es x e = by (is_wanted w d) e (some_first ds es x)
    where
      by : (b : Bool) → (if b then Some d else first ds) ≡ Some x → (first ds ≡ Some x → first (ds ++ es) ≡ Some x) → (if b then Some d else first (ds ++ es)) ≡ Some x
      by true k on = k
      by false k on = on k

  pub one_met : (d : Declaration) → is_wanted w d ≡ true → first (d ∷ []) ≡ Some d
  one_met d e = ap (λ (b : Bool). if b then Some d else None) e

  pub one_passed : (d : Declaration) → is_wanted w d ≡ false → first (d ∷ []) ≡ None
  one_passed d e = ap (λ (b : Bool). if b then Some d else None) e

pub nobody_found : (ds : List Declaration) → first_wanted nobody ds ≡ None
nobody_found [] = refl
nobody_found (d ∷ ds) = nobody_found ds

pub what_is_met : (w : Wanted) (ds : List Declaration) (n : ℕ) (r : Walk) → Walks w ds n r → found_in r ≡ first_wanted w ds
what_is_met w ds n (met d) h = sym h
what_is_met w ds n (passed m) h = sym h.0
what_is_met w ds n (at_last m s) h = absurd h

-- ---- nothing is looked for

pub nobody_met : {X : Type 0} (ds : List Declaration) (n : ℕ) (d : Declaration) → Walks nobody ds n (met d) → X
nobody_met ds n d h = absurd (apart (sym (nobody_found ds) ∙ h))
  where
    apart : None ≡ Some d → ⊥
    apart j = cc

-- ---- statements

module _ (w : Wanted) (here : Option (statement.Stmts Span)) (n : ℕ) where
  own_walks : (m : Span) (f : Bool) (t : tree.TypeName Span) (i : tree.Word Span) (e : tree.Exp Span) (r : Walk)
      → Walks w ((record { number = n; name = i.text; list = here }) ∷ []) (n + 1) r → HeadWalks w here n (statement.local m f t i e) r
  unfolding locals_in locals_in_else locals_in_row
  own_walks m f t i e (met d) h = h
  own_walks m f t i e (passed k) h = h
  own_walks m f t i e (at_last k s) h = absurd h

  pub local_walks : (m : Span) (f : Bool) (t : tree.TypeName Span) (i : tree.Word Span) (e : tree.Exp Span) (s : statement.Stmt Span) → s ≡ statement.local m f t i e → (r : Walk)
      → Walks w ((record { number = n; name = i.text; list = here }) ∷ []) (n + 1) r → HeadWalks w here n s r
  local_walks m f t i e s is r h = subst (λ (x : statement.Stmt Span). HeadWalks w here n x r) (sym is) (own_walks m f t i e r h)

  abbrev Passed : statement.Stmt Span → Type 0
  Passed s = HeadWalks w here n s (passed n)

  eval_passed : (m : Span) (e : tree.Exp Span) → Passed (statement.eval m e)
  unfolding locals_in locals_in_else locals_in_row
  eval_passed m e = (refl, omega arith)

  return_passed : (m : Span) (e : Option (tree.Exp Span)) → Passed (statement.return m e)
  unfolding locals_in locals_in_else locals_in_row
  return_passed m e = (refl, omega arith)

  empty_passed : (m : Span) → Passed (statement.empty m)
  unfolding locals_in locals_in_else locals_in_row
  empty_passed m = (refl, omega arith)

  pub eval_walks : (m : Span) (e : tree.Exp Span) (s : statement.Stmt Span) → s ≡ statement.eval m e → Passed s
  eval_walks m e s is = subst Passed (sym is) (eval_passed m e)

  pub return_walks : (m : Span) (e : Option (tree.Exp Span)) (s : statement.Stmt Span) → s ≡ statement.return m e → Passed s
  return_walks m e s is = subst Passed (sym is) (return_passed m e)

  pub empty_walks : (m : Span) (s : statement.Stmt Span) → s ≡ statement.empty m → Passed s
  empty_walks m s is = subst Passed (sym is) (empty_passed m)

  pub loop_walks : (m : Span) (c : tree.Exp Span) (s t : statement.Stmt Span) → t ≡ s → HeadWalks w here n (statement.loop m c s) (at_last n t)
  unfolding locals_in locals_in_else locals_in_row
  loop_walks m c s t is = (ap (λ (x : statement.Stmt Span). first_wanted w (declarations None n x)) (sym is), ap (λ (x : statement.Stmt Span). n + locals_in x) (sym is), is)

  pub block_walks : (m : Span) (b : statement.Stmts Span) (r : Walk) → Walks w (declarations_in n b) (n + locals_in_row b) r → HeadWalks w here n (statement.block m b) r
  unfolding locals_in locals_in_else locals_in_row
  block_walks m b (met d) h = h
  block_walks m b (passed k) h = h
  block_walks m b (at_last k s) h = absurd h

  pub sync_walks : (m : Span) (e : tree.Exp Span) (b : statement.Stmts Span) (r : Walk) → Walks w (declarations_in n b) (n + locals_in_row b) r → HeadWalks w here n (statement.sync m e b) r
  unfolding locals_in locals_in_else locals_in_row
  sync_walks m e b (met d) h = h
  sync_walks m e b (passed k) h = h
  sync_walks m e b (at_last k s) h = absurd h

-- ---- branches

plain : (xs : List Declaration) → xs ++ [] ≡ xs
plain [] = refl
plain (x ∷ xs) = ap (λ ys. x ∷ ys) (plain xs)

module _ (w : Wanted) (n : ℕ) where
  pub then_walks : (s : statement.Stmt Span) → BranchesWalk w n s statement.no_else (at_last n s)
  unfolding locals_in locals_in_else locals_in_row
  then_walks s = λ here m c. (ap (first_wanted w) (plain (declarations None n s)), omega arith, refl)

  pub branch_met : (s : statement.Stmt Span) (o : statement.Else Span) (d : Declaration) → first_wanted w (declarations None n s) ≡ Some d → BranchesWalk w n s o (met d)
  branch_met s o d h = λ here m c. some_first w (declarations None n s) _ d h

  pub else_walks : (s o t : statement.Stmt Span) (k : ℕ) → first_wanted w (declarations None n s) ≡ None → k ≡ n + locals_in s → t ≡ o → BranchesWalk w n s (statement.otherwise o) (at_last k t)
  unfolding locals_in locals_in_else locals_in_row
  else_walks s o t k none next is = λ here m c.
      let same : first_wanted w (declarations None (n + locals_in s) o) ≡ first_wanted w (declarations None k t) = λ i. first_wanted w (declarations None (sym next i) (sym is i)) in
      let counted : locals_in o ≡ locals_in t = ap locals_in (sym is) in
      (none_first w (declarations None n s) (declarations None (n + locals_in s) o) none ∙ same, omega (arith, next, counted), is)

-- ---- a list

module _ (w : Wanted) (xs : List (Stmt Span)) (i : ℕ) where
  abbrev own : ℕ → Stmt Span → List Declaration
  own n x = declarations (Some (stmts_of (drop i xs))) n (stmt_of x)

  at_item : (x : Stmt Span) (n : ℕ) → i < length xs → x ≡ get_or xs i x
      → declarations_in n (stmts_of (drop i xs)) ≡ own n x ++ declarations_in (n + locals_in (stmt_of x)) (stmts_of (drop (i + 1) xs))
  at_item x n lt is =
      let left = left_is xs i x lt is in
      ap (λ (z : List (Stmt Span)). declarations_in n (stmts_of z)) left
      ∙ ap (λ (z : List (Stmt Span)). declarations (Some (stmts_of z)) n (stmt_of x) ++ declarations_in (n + locals_in (stmt_of x)) (stmts_of (drop (i + 1) xs))) (sym left)

  pub item_met : (x : Stmt Span) (n : ℕ) (d : Declaration) → i < length xs → x ≡ get_or xs i x → first_wanted w (own n x) ≡ Some d
      → first_wanted w (declarations_in n (stmts_of (drop i xs))) ≡ Some d
  item_met x n d lt is h = ap (first_wanted w) (at_item x n lt is) ∙ some_first w (own n x) _ d h

  pub item_passed : (x : Stmt Span) (n k : ℕ) → i < length xs → x ≡ get_or xs i x → first_wanted w (own n x) ≡ None → k ≡ n + locals_in (stmt_of x)
      → first_wanted w (declarations_in n (stmts_of (drop i xs))) ≡ first_wanted w (declarations_in k (stmts_of (drop (i + 1) xs)))
  item_passed x n k lt is h next = ap (first_wanted w) (at_item x n lt is) ∙ none_first w (own n x) (declarations_in (n + locals_in (stmt_of x)) (stmts_of (drop (i + 1) xs))) h
      ∙ ap (λ (m : ℕ). first_wanted w (declarations_in m (stmts_of (drop (i + 1) xs)))) (sym next)

  pub list_ends : (n : ℕ) → length xs ≤ i → first_wanted w (declarations_in n (stmts_of (drop i xs))) ≡ None
  list_ends n past = ap (λ (z : List (Stmt Span)). first_wanted w (declarations_in n (stmts_of z))) (drop_all i xs past)

module _ (xs : List (Stmt Span)) (i : ℕ) where
  count_at : (x : Stmt Span) → i < length xs → x ≡ get_or xs i x → locals_in_row (stmts_of (drop i xs)) ≡ locals_in (stmt_of x) + locals_in_row (stmts_of (drop (i + 1) xs))
  unfolding locals_in locals_in_else locals_in_row
  count_at x lt is = ap (λ (z : List (Stmt Span)). locals_in_row (stmts_of z)) (left_is xs i x lt is)

  pub item_counted : (x : Stmt Span) (n k : ℕ) → i < length xs → x ≡ get_or xs i x → k ≡ n + locals_in (stmt_of x)
      → n + locals_in_row (stmts_of (drop i xs)) ≡ k + locals_in_row (stmts_of (drop (i + 1) xs))
  item_counted x n k lt is next = let h = count_at x lt is in omega (arith, h, next)

  pub list_counted : (n : ℕ) → length xs ≤ i → n + locals_in_row (stmts_of (drop i xs)) ≡ n
  unfolding locals_in locals_in_else locals_in_row
  list_counted n past = let h = ap (λ (z : List (Stmt Span)). locals_in_row (stmts_of z)) (drop_all i xs past) in omega (arith, h)
