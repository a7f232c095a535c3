-- What a walk rests on holds along ways.
use Rattle.std.proofs.Common.{◌≡◌, ℕ, suc, ◌+◌, List, [], ◌∷◌, ◌++◌, Option, Some, None, refl, sym, subst, ◌∙◌, arith}
use Rattle.std.proofs.lemmas.List.{append_assoc, append-nil, append_cancel_right, same_from_push}
use Rattle.jr_text.specs.declared.spans.Span.{Span}
use Rattle.jr_ast.specs.Tree as tree
use Rattle.jr_ast.specs.StatementTree as statement
use Rattle.jr_grammar.specs.Layout.{itself}
use Rattle.jr_table.specs.Rows.{Row}
use Rattle.jr_table.specs.Binding.{Role, value, left}
use Rattle.jr_table.specs.Binding as role
use Rattle.jr_members.specs.Fitting.{begins_by}
use Rattle.jr_bind.specs.Bounds.{Bound}
use Rattle.jr_pieces.specs.Ways.{ExpWay, here, in_front, in_target, in_argument, in_super_argument, in_created, in_paren, in_cast, in_unary, in_bump, in_left, in_right, in_assigned, in_value, in_changed, in_change}
use Rattle.jr_pieces.specs.Ways.{ExpsWay, first_argument, later_argument, StmtWay, in_init, in_eval, in_condition, in_then, in_else, in_turning, in_body, in_returned, in_block, in_lock, in_locked, ListWay, first, later}
use Rattle.jr_pieces.specs.Standings.{Standing, inside, behind, in_other, in_initializer, at_exp, at_exps, at_stmt, at_list}
use Rattle.jr_pieces.specs.Finding.{behind_target, exp_path, exps_path, stmt_path, list_path}
use Rattle.jr_pieces.specs.Nearest.{Element, or_element, element_within, nearest}
use Rattle.jr_way_places.specs.PlacedWays.{exp_role, exps_role, stmt_role, list_role}
use Rattle.jr_local_ways.specs.ReadyWays.{StmtReadyAt, ListReadyAt, ElementReady, WaysAreReady}
use Rattle.jr_local_ways.proofs.Parts.{ExpReady, RowReady, of_field, of_target, of_arguments, of_super_call, of_create, of_paren, of_cast, of_unary, of_bump, of_binary, of_assign, of_compound, first_of_row, rest_of_row}
use Rattle.jr_local_ways.proofs.Parts.{of_local, of_eval, of_condition, of_then, of_else, of_turning, of_body, of_returned, of_block, of_lock, of_locked, first_of_list, rest_of_list}

no_element : {A : Type 0} {f : tree.Exp A} {P : Type 0} (x : Element f) → (let none : Option (Element f) = None in none ≡ Some x) → P
no_element x e = absurd cc

same_element : {A : Type 0} {f : tree.Exp A} (x y : Element f) → (let o : Option (Element f) = Some x in o ≡ Some y) → x ≡ y
same_element x y e = cc

-- ---- two cuts of a path, behind which the same stands, are one

one_cut : (xs ys : List ℕ) (i j : ℕ) (tail : List ℕ) → xs ++ i ∷ tail ≡ ys ++ j ∷ tail → (xs ≡ ys) × (i ≡ j)
one_cut xs ys i j tail e =
    same_from_push xs ys i j (append_cancel_right (xs ++ i ∷ []) (ys ++ j ∷ []) tail (append_assoc xs (i ∷ []) tail ∙ e ∙ sym (append_assoc ys (j ∷ []) tail)))

module _ {A : Type 0} (tells : A → ℕ → Span) (Fits : A → ℕ → Type 0) (rows : List Row) (b : Bound) (from : ℕ) where
  abbrev begins : A → ℕ → ℕ
  begins = begins_by tells

  abbrev AtExp : Standing → Role → (path : List ℕ) → tree.Exp A → Type 0
  AtExp p r path e = ExpReady tells Fits rows b from p.context r path p.base e

  abbrev AtRow : Standing → (path : List ℕ) → (first : ℕ) → tree.Exps A → Type 0
  AtRow p path i es = RowReady tells Fits rows b from p.context path i p.base es

  abbrev AtStmt : Standing → (path : List ℕ) → statement.Stmt A → Type 0
  AtStmt p path s = StmtReadyAt tells Fits rows b from p path s

  abbrev AtList : Standing → (path : List ℕ) → (first : ℕ) → statement.Stmts A → Type 0
  AtList p path i xs = ListReadyAt tells Fits rows b from p path i xs

  -- a path that is cut at a step
  onto : (f : tree.Exp A) (q : Standing) (r : Role) (path : List ℕ) (i : ℕ) (rest : List ℕ) → AtExp q r ((path ++ i ∷ []) ++ rest) f → AtExp q r (path ++ i ∷ rest) f
  onto f q r path i rest h = subst (λ p. AtExp q r p f) (append_assoc path (i ∷ []) rest) h

  module _ {f : tree.Exp A} where
    -- ---- the expression

    mutual
      exp_ready : {e : tree.Exp A} (p : Standing) (r : Role) (path : List ℕ) (d : ExpWay f e) → AtExp p r path e → AtExp (at_exp begins p d) (exp_role r d) (path ++ exp_path d) f
      exp_ready p r path here h = subst (λ q. AtExp p r q f) (sym (append-nil path)) h
      exp_ready p r path (in_front m e w d) h = onto f (at_exp begins (inside begins m p) d) (exp_role left d) path 0 (exp_path d) (exp_ready (inside begins m p) left (path ++ 0 ∷ []) d (of_field tells Fits rows b from p.context r path p.base m e w h))
      exp_ready p r path (in_target m e w es d) h = onto f (at_exp begins (inside begins m p) d) (exp_role left d) path 0 (exp_path d) (exp_ready (inside begins m p) left (path ++ 0 ∷ []) d (of_target tells Fits rows b from p.context r path p.base m e w es h))
      exp_ready p r path (in_argument m t w es d) h = row_ready (inside begins m p) path (behind_target t) d (of_arguments tells Fits rows b from p.context r path p.base m t w es h)
      exp_ready p r path (in_super_argument m w es d) h = row_ready (inside begins m p) path 1 d (of_super_call tells Fits rows b from p.context r path p.base m w es h)
      exp_ready p r path (in_created m t es d) h = row_ready (inside begins m p) path 1 d (of_create tells Fits rows b from p.context r path p.base m t es h)
      exp_ready p r path (in_paren m e d) h = onto f (at_exp begins (inside begins m p) d) (exp_role value d) path 0 (exp_path d) (exp_ready (inside begins m p) value (path ++ 0 ∷ []) d (of_paren tells Fits rows b from p.context r path p.base m e h))
      exp_ready p r path (in_cast m t e d) h = onto f (at_exp begins (inside begins m p) d) (exp_role value d) path 1 (exp_path d) (exp_ready (inside begins m p) value (path ++ 1 ∷ []) d (of_cast tells Fits rows b from p.context r path p.base m t e h))
      exp_ready p r path (in_unary m o e d) h = onto f (at_exp begins (inside begins m p) d) (exp_role value d) path 0 (exp_path d) (exp_ready (inside begins m p) value (path ++ 0 ∷ []) d (of_unary tells Fits rows b from p.context r path p.base m o e h))
      exp_ready p r path (in_bump m o e d) h = onto f (at_exp begins (inside begins m p) d) (exp_role value d) path 0 (exp_path d) (exp_ready (inside begins m p) value (path ++ 0 ∷ []) d (of_bump tells Fits rows b from p.context r path p.base m o e h))
      exp_ready p r path (in_left m o x y d) h = onto f (at_exp begins (inside begins m p) d) (exp_role value d) path 0 (exp_path d) (exp_ready (inside begins m p) value (path ++ 0 ∷ []) d (of_binary tells Fits rows b from p.context r path p.base m o x y h).0)
      exp_ready p r path (in_right m o x y d) h = onto f (at_exp begins (inside begins m p) d) (exp_role value d) path 1 (exp_path d) (exp_ready (inside begins m p) value (path ++ 1 ∷ []) d (of_binary tells Fits rows b from p.context r path p.base m o x y h).1)
      exp_ready p r path (in_assigned m x y d) h = onto f (at_exp begins (inside begins m p) d) (exp_role value d) path 0 (exp_path d) (exp_ready (inside begins m p) value (path ++ 0 ∷ []) d (of_assign tells Fits rows b from p.context r path p.base m x y h).0)
      exp_ready p r path (in_value m x y d) h = onto f (at_exp begins (inside begins m p) d) (exp_role value d) path 1 (exp_path d) (exp_ready (inside begins m p) value (path ++ 1 ∷ []) d (of_assign tells Fits rows b from p.context r path p.base m x y h).1)
      exp_ready p r path (in_changed m o x y d) h = onto f (at_exp begins (inside begins m p) d) (exp_role value d) path 0 (exp_path d) (exp_ready (inside begins m p) value (path ++ 0 ∷ []) d (of_compound tells Fits rows b from p.context r path p.base m o x y h).0)
      exp_ready p r path (in_change m o x y d) h = onto f (at_exp begins (inside begins m p) d) (exp_role value d) path 1 (exp_path d) (exp_ready (inside begins m p) value (path ++ 1 ∷ []) d (of_compound tells Fits rows b from p.context r path p.base m o x y h).1)

      row_ready : {es : tree.Exps A} (p : Standing) (path : List ℕ) (i : ℕ) (d : ExpsWay f es) → AtRow p path i es → AtExp (at_exps begins p d) (exps_role d) (path ++ exps_path i d) f
      row_ready p path i (first_argument e es d) h = onto f (at_exp begins p d) (exp_role value d) path i (exp_path d) (exp_ready p value (path ++ i ∷ []) d (first_of_row tells Fits rows b from p.context path i p.base e es h))
      row_ready p path i (later_argument e es d) h = row_ready p path (suc i) d (rest_of_row tells Fits rows b from p.context path i p.base e es h)

    -- a part of a statement that is an expression
    part_ready : {e : tree.Exp A} (p : Standing) (r : Role) (path : List ℕ) (i : ℕ) (d : ExpWay f e) → AtExp p r (path ++ i ∷ []) e → AtExp (at_exp begins p d) (exp_role r d) (path ++ i ∷ exp_path d) f
    part_ready p r path i d h = onto f (at_exp begins p d) (exp_role r d) path i (exp_path d) (exp_ready p r (path ++ i ∷ []) d h)

    mutual
      stmt_ready : {s : statement.Stmt A} (p : Standing) (path : List ℕ) (d : StmtWay f s) → AtStmt p path s → AtExp (at_stmt begins p d) (stmt_role d) (path ++ stmt_path d) f
      stmt_ready p path (in_init m is_final t w e d) h = part_ready (in_initializer begins m is_final t w p) value path 2 d (of_local tells Fits rows b from p.next p.context path p.base m is_final t w e h)
      stmt_ready p path (in_eval m e d) h = part_ready (inside begins m p) role.statement path 0 d (of_eval tells Fits rows b from p.next p.context path p.base m e h)
      stmt_ready p path (in_condition m c s o d) h = part_ready (inside begins m p) value path 0 d (of_condition tells Fits rows b from p.next p.context path p.base m c s o h)
      stmt_ready p path (in_then m c s o d) h = onto f (at_stmt begins (inside begins m p) d) (stmt_role d) path 1 (stmt_path d) (stmt_ready (inside begins m p) (path ++ 1 ∷ []) d (of_then tells Fits rows b from p.next p.context path p.base m c s o h))
      stmt_ready p path (in_else m c s o d) h = onto f (at_stmt begins (in_other begins m s p) d) (stmt_role d) path 2 (stmt_path d) (stmt_ready (in_other begins m s p) (path ++ 2 ∷ []) d (of_else tells Fits rows b from p.next p.context path p.base m c s o h))
      stmt_ready p path (in_turning m c s d) h = part_ready (inside begins m p) value path 0 d (of_turning tells Fits rows b from p.next p.context path p.base m c s h)
      stmt_ready p path (in_body m c s d) h = onto f (at_stmt begins (inside begins m p) d) (stmt_role d) path 1 (stmt_path d) (stmt_ready (inside begins m p) (path ++ 1 ∷ []) d (of_body tells Fits rows b from p.next p.context path p.base m c s h))
      stmt_ready p path (in_returned m e d) h = part_ready (inside begins m p) value path 0 d (of_returned tells Fits rows b from p.next p.context path p.base m e h)
      stmt_ready p path (in_block m xs d) h = list_ready (inside begins m p) path 0 d (of_block tells Fits rows b from p.next p.context path p.base m xs h)
      stmt_ready p path (in_lock m e xs d) h = part_ready (inside begins m p) value path 0 d (of_lock tells Fits rows b from p.next p.context path p.base m e xs h)
      stmt_ready p path (in_locked m e xs d) h = list_ready (inside begins m p) path 1 d (of_locked tells Fits rows b from p.next p.context path p.base m e xs h)

      list_ready : {xs : statement.Stmts A} (p : Standing) (path : List ℕ) (i : ℕ) (d : ListWay f xs) → AtList p path i xs → AtExp (at_list begins p d) (list_role d) (path ++ list_path i d) f
      list_ready p path i (first s ss d) h = onto f (at_stmt begins p d) (stmt_role d) path i (stmt_path d) (stmt_ready p (path ++ i ∷ []) d (first_of_list tells Fits rows b from p.next p.context path i p.base s ss h))
      list_ready p path i (later s ss d) h = list_ready (behind begins s p) path (suc i) d (rest_of_list tells Fits rows b from p.next p.context path i p.base s ss (suc i) refl h)

    -- ---- the element

    record Reached (path : List ℕ) (x : Element f) : Type 0 where
      front : List ℕ
      step : ℕ
      is : ElementReady tells Fits rows b from path x front step

    at_first : (p : Standing) (path : List ℕ) (i : ℕ) (s : statement.Stmt A) (ss : statement.Stmts A) (d : StmtWay f s) → AtList p path i (statement.more s ss) → Reached (path ++ i ∷ stmt_path d) (record { at = p; stmt = s; rest = ss; way = d })
    at_first p path i s ss d h = record {
      front = path;
      step = i;
      is = record {
        leads = refl;
        stmt = first_of_list tells Fits rows b from p.next p.context path i p.base s ss h;
        rest = rest_of_list tells Fits rows b from p.next p.context path i p.base s ss (i + 1) (let e : i + 1 ≡ suc i = omega arith in e) h;
      };
    }

    first_reached : (p : Standing) (path : List ℕ) (i : ℕ) (s : statement.Stmt A) (ss : statement.Stmts A) (d : StmtWay f s) → AtList p path i (statement.more s ss) → (o : Option (Element f))
        → ((x : Element f) → o ≡ Some x → Reached (path ++ i ∷ stmt_path d) x) → Reached (path ++ i ∷ stmt_path d) (or_element o (record { at = p; stmt = s; rest = ss; way = d }))
    first_reached p path i s ss d h None go = at_first p path i s ss d h
    first_reached p path i s ss d h (Some x) go = go x refl

    on : (path : List ℕ) (i : ℕ) (rest : List ℕ) (x : Element f) → Reached ((path ++ i ∷ []) ++ rest) x → Reached (path ++ i ∷ rest) x
    on path i rest x h = subst (λ q. Reached q x) (append_assoc path (i ∷ []) rest) h

    mutual
      within_reached : {s : statement.Stmt A} (p : Standing) (path : List ℕ) (d : StmtWay f s) → AtStmt p path s → (x : Element f) → element_within begins p d ≡ Some x → Reached (path ++ stmt_path d) x
      within_reached p path (in_init m is_final t w e d) h x is = no_element x is
      within_reached p path (in_eval m e d) h x is = no_element x is
      within_reached p path (in_condition m c s o d) h x is = no_element x is
      within_reached p path (in_then m c s o d) h x is = on path 1 (stmt_path d) x (within_reached (inside begins m p) (path ++ 1 ∷ []) d (of_then tells Fits rows b from p.next p.context path p.base m c s o h) x is)
      within_reached p path (in_else m c s o d) h x is = on path 2 (stmt_path d) x (within_reached (in_other begins m s p) (path ++ 2 ∷ []) d (of_else tells Fits rows b from p.next p.context path p.base m c s o h) x is)
      within_reached p path (in_turning m c s d) h x is = no_element x is
      within_reached p path (in_body m c s d) h x is = on path 1 (stmt_path d) x (within_reached (inside begins m p) (path ++ 1 ∷ []) d (of_body tells Fits rows b from p.next p.context path p.base m c s h) x is)
      within_reached p path (in_returned m e d) h x is = no_element x is
      within_reached p path (in_block m xs d) h x is = subst (Reached (path ++ list_path 0 d)) (same_element (nearest begins (inside begins m p) d) x is) (list_reached (inside begins m p) path 0 d (of_block tells Fits rows b from p.next p.context path p.base m xs h))
      within_reached p path (in_lock m e xs d) h x is = no_element x is
      within_reached p path (in_locked m e xs d) h x is = subst (Reached (path ++ list_path 1 d)) (same_element (nearest begins (inside begins m p) d) x is) (list_reached (inside begins m p) path 1 d (of_locked tells Fits rows b from p.next p.context path p.base m e xs h))

      list_reached : {xs : statement.Stmts A} (p : Standing) (path : List ℕ) (i : ℕ) (d : ListWay f xs) → AtList p path i xs → Reached (path ++ list_path i d) (nearest begins p d)
      list_reached p path i (first s ss d) h =
          first_reached p path i s ss d h (element_within begins p d) (λ x is. on path i (stmt_path d) x (within_reached p (path ++ i ∷ []) d (first_of_list tells Fits rows b from p.next p.context path i p.base s ss h) x is))
      list_reached p path i (later s ss d) h = list_reached (behind begins s p) path (suc i) d (rest_of_list tells Fits rows b from p.next p.context path i p.base s ss (suc i) refl h)

    -- by each cut of the path
    by_cut : (path : List ℕ) (x : Element f) → Reached path x → (front : List ℕ) (step : ℕ) → path ≡ front ++ step ∷ stmt_path x.way → ElementReady tells Fits rows b from path x front step
    by_cut path x h front step leads =
        let same = one_cut h.front front h.step step (stmt_path x.way) (sym h.is.leads ∙ leads) in
        subst (λ k. ElementReady tells Fits rows b from path x front k) same.1 (subst (λ q. ElementReady tells Fits rows b from path x q h.step) same.0 h.is)

pub ways_are_ready : WaysAreReady
ways_are_ready rows b from p path i xs h f way = record {
  element = λ front step leads. by_cut itself (λ m n. Unit {0}) rows b from (path ++ list_path i way) (nearest (begins_by itself) p way) (list_reached itself (λ m n. Unit {0}) rows b from p path i way h) front step leads;
  expression = list_ready itself (λ m n. Unit {0}) rows b from p path i way h;
}
