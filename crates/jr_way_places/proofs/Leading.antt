-- The path of a way leads to its expression, and to the types that this has there.
use Rattle.std.proofs.Common.{◌≡◌, ℕ, suc, ◌+◌, List, ◌∷◌, Some, refl, sym, ap, subst, ◌∙◌, arith}
use Rattle.std.specs.Prelude.{◌↔◌, slice_get, option_and_then}
use Rattle.std.proofs.lemmas.Option.{same_Some}
use Rattle.jr_ast.specs.Tree as tree
use Rattle.jr_ast.specs.StatementTree as statement
use Rattle.jr_ast.specs.Nodes.{Node, exp, word, type, exps, exp_children, children_of, node_at, as_exp, exp_at}
use Rattle.jr_table.specs.Keys.{Ty}
use Rattle.jr_table.specs.Rows.{Row}
use Rattle.jr_table.specs.Context.{Context}
use Rattle.jr_table.specs.Binding.{HasType}
use Rattle.jr_table.specs.TypesAt.{TypeBelow, TypeInStmt, TypeInElse, TypeInStmts}
use Rattle.jr_pieces.specs.Ways.{ExpWay, here, in_front, in_target, in_argument, in_super_argument, in_created, in_paren, in_cast, in_unary, in_bump, in_left, in_right, in_assigned, in_value, in_changed, in_change}
use Rattle.jr_pieces.specs.Ways.{ExpsWay, first_argument, later_argument, StmtWay, in_init, in_eval, in_condition, in_then, in_else, in_turning, in_body, in_returned, in_block, in_lock, in_locked, ListWay, first, later}
use Rattle.jr_pieces.specs.Standings.{Standing, inside, behind, in_other, in_initializer, at_exp, at_stmt, at_list}
use Rattle.jr_pieces.specs.Finding.{exp_path, exps_path, stmt_path, list_path}
use Rattle.jr_way_places.specs.PlacedWays.{list_step, list_rest, WaysLeadToTypes}
use Rattle.jr_way_places.proofs.Walked.{exp_context}

-- ---- paths

module _ {A : Type 0} where
  -- the row stands among the nodes, from this number on
  abbrev Follows : List (Node A) → ℕ → tree.Exps A → Type 0
  Follows ns i es = (k : ℕ) → slice_get ns (i + k) ≡ slice_get (exps es) k

  one_later : (ns : List (Node A)) (i : ℕ) (e : tree.Exp A) (es : tree.Exps A) → Follows ns i (tree.more e es) → Follows ns (suc i) es
  one_later ns i e es h k = ap (slice_get ns) (let s : suc i + k ≡ i + suc k = omega arith in s) ∙ h (suc k)

module _ {A : Type 0} {f : tree.Exp A} where
  mutual
    unfolding node_at exp_children

    exp_leads : {e : tree.Exp A} (d : ExpWay f e) → node_at (exp e) (exp_path d) ≡ Some (exp f)
    exp_leads here = refl
    exp_leads (in_front m e w d) = exp_leads d
    exp_leads (in_target m e w es d) = exp_leads d
    exp_leads (in_argument m tree.no_target w es d) = row_leads (exp (tree.call m tree.no_target w es)) 1 d (λ k. ap (slice_get (word w ∷ exps es)) (let s : 1 + k ≡ suc k = omega arith in s))
    exp_leads (in_argument m (tree.on e) w es d) =
        row_leads (exp (tree.call m (tree.on e) w es)) 2 d (λ k. ap (slice_get (exp e ∷ word w ∷ exps es)) (let s : 2 + k ≡ suc (suc k) = omega arith in s))
    exp_leads (in_super_argument m w es d) = row_leads (exp (tree.super_call m w es)) 1 d (λ k. ap (slice_get (word w ∷ exps es)) (let s : 1 + k ≡ suc k = omega arith in s))
    exp_leads (in_created m t es d) = row_leads (exp (tree.create m t es)) 1 d (λ k. ap (slice_get (type t ∷ exps es)) (let s : 1 + k ≡ suc k = omega arith in s))
    exp_leads (in_paren m e d) = exp_leads d
    exp_leads (in_cast m t e d) = exp_leads d
    exp_leads (in_unary m o e d) = exp_leads d
    exp_leads (in_bump m o e d) = exp_leads d
    exp_leads (in_left m o x y d) = exp_leads d
    exp_leads (in_right m o x y d) = exp_leads d
    exp_leads (in_assigned m t e d) = exp_leads d
    exp_leads (in_value m t e d) = exp_leads d
    exp_leads (in_changed m o t e d) = exp_leads d
    exp_leads (in_change m o t e d) = exp_leads d

    row_leads : {es : tree.Exps A} (n : Node A) (i : ℕ) (d : ExpsWay f es) → Follows (children_of n) i es → node_at n (exps_path i d) ≡ Some (exp f)
    row_leads n i (first_argument e es d) h =
        ap (option_and_then (λ c. node_at c (exp_path d))) (ap (slice_get (children_of n)) (let s : i ≡ i + 0 = omega arith in s) ∙ h 0) ∙ exp_leads d
    row_leads n i (later_argument e es d) h = row_leads n (suc i) d (one_later (children_of n) i e es h)

  path_leads : {e : tree.Exp A} (d : ExpWay f e) → exp_at (exp e) (exp_path d) ≡ Some f
  path_leads d = ap (option_and_then as_exp) (exp_leads d)

  pub list_path_is : {b : statement.Stmts A} (n : ℕ) (d : ListWay f b) → list_path n d ≡ (n + list_step d) ∷ list_rest d
  list_path_is n (first s ss d) = ap (λ k. k ∷ stmt_path d) (let e : n ≡ n + 0 = omega arith in e)
  list_path_is n (later s ss d) = list_path_is (suc n) d ∙ ap (λ k. k ∷ list_rest d) (let e : suc n + list_step d ≡ n + suc (list_step d) = omega arith in e)

-- ---- types

module _ {A : Type 0} (begins : A → ℕ → ℕ) (rows : List Row) (f : tree.Exp A) (t : Ty) where
  abbrev Has : Context → Type 0
  Has c = HasType rows c f t

  below : {e : tree.Exp A} (p : Standing) (d : ExpWay f e) → TypeBelow rows p.context e (exp_path d) t ↔ Has (at_exp begins p d).context
  below {e} p d = (to, back)
    where
      to : TypeBelow rows p.context e (exp_path d) t → Has (at_exp begins p d).context
      to h = subst Has (sym (exp_context begins p d)) (subst (λ x. HasType rows p.context x t) (same_Some h.0 f (sym h.1 ∙ path_leads d)) h.2)

      back : Has (at_exp begins p d).context → TypeBelow rows p.context e (exp_path d) t
      back h = (f, path_leads d, subst Has (exp_context begins p d) h)

  -- the list within, whose elements have numbers from n on: the path computes by its first step
  abbrev Below : List ℕ → statement.Stmt A → Standing → Context → Type 0
  Below path s p c = TypeInStmt rows p.next p.context s path t ↔ Has c

  mutual
    unfolding TypeInStmt TypeInElse TypeInStmts

    stmt_below : {s : statement.Stmt A} (p : Standing) (d : StmtWay f s) → Below (stmt_path d) s p (at_stmt begins p d).context
    stmt_below p (in_init m is_final u w e d) = below (in_initializer begins m is_final u w p) d
    stmt_below p (in_eval m e d) = below (inside begins m p) d
    stmt_below p (in_condition m c s o d) = below (inside begins m p) d
    stmt_below p (in_then m c s o d) = stmt_below (inside begins m p) d
    stmt_below p (in_else m c s o d) = stmt_below (in_other begins m s p) d
    stmt_below p (in_turning m c s d) = below (inside begins m p) d
    stmt_below p (in_body m c s d) = stmt_below (inside begins m p) d
    stmt_below p (in_returned m e d) = below (inside begins m p) d
    stmt_below p (in_block m b d) =
        subst (λ path. Below path (statement.block m b) p (at_list begins (inside begins m p) d).context) (sym (list_path_is 0 d ∙ ap (λ k. k ∷ list_rest d) (let e : 0 + list_step d ≡ list_step d = omega arith in e)))
        (list_below (inside begins m p) d)
    stmt_below p (in_lock m e b d) = below (inside begins m p) d
    stmt_below p (in_locked m e b d) =
        subst (λ path. Below path (statement.sync m e b) p (at_list begins (inside begins m p) d).context) (sym (list_path_is 1 d ∙ ap (λ k. k ∷ list_rest d) (let s : 1 + list_step d ≡ suc (list_step d) = omega arith in s)))
        (list_below (inside begins m p) d)

    list_below : {b : statement.Stmts A} (p : Standing) (d : ListWay f b) → TypeInStmts rows p.next p.context b (list_step d) (list_rest d) t ↔ Has (at_list begins p d).context
    list_below p (first s ss d) = stmt_below p d
    list_below p (later s ss d) = list_below (behind begins s p) d

pub ways_lead_to_types : {A : Type 0} → WaysLeadToTypes A
ways_lead_to_types begins rows f b p d = record { path = λ n. list_path_is n d; types = λ t. list_below begins rows f t p d }
