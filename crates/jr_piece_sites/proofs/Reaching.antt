-- What a read by a path finds in a member, is what paths of this crate lead to: for who meets its
-- conditions.
use Rattle.std.proofs.Common.{◌≡◌, true, false, ℕ, zero, suc, ◌-◌, ◌≤◌, List, [], ◌∷◌, length, take, drop, Option, Some, None, option_map, refl, sym, ap, arith, ◌∙◌}
use Rattle.std.specs.Prelude.{IsTrue, is_some}
use Rattle.std.proofs.lemmas.List.{length-drop, length-take-le}
use Rattle.jr_ast.specs.declared.stmts.Stmt.{Stmt}
use Rattle.jr_ast.specs.MemberTree as declared
use Rattle.jr_ast.specs.Nodes as nodes
use Rattle.jr_ast.specs.StatementTree as statement
use Rattle.jr_ast.specs.Tree as tree
use Rattle.jr_ast.specs.View.{stmts_of}
use Rattle.jr_piece_sites.specs.Leads.{Leads, LeadsToExp, LeadsToParts}
use Rattle.jr_piece_sites.specs.Pieces as piece
use Rattle.jr_piece_sites.specs.Pieces.{IsOwner}
use Rattle.jr_piece_sites.proofs.Leading.{exp_leads, node_leads, stmt_leads}

-- ---- statements of a list

module _ {A : Type 0} where
  record AreStmts (l : List (nodes.Node A)) : Type 0 where
    list : statement.Stmts A
    is : l ≡ nodes.stmts list

  front : (n : ℕ) (ss : statement.Stmts A) → AreStmts (take n (nodes.stmts ss))
  front zero ss = record { list = statement.end; is = refl }
  front (suc n) statement.end = record { list = statement.end; is = refl }
  front (suc n) (statement.more s ss) =
      let r = front n ss in record { list = statement.more s r.list; is = ap (λ l. nodes.stmt s ∷ l) r.is }

  back : (n : ℕ) (ss : statement.Stmts A) → AreStmts (drop n (nodes.stmts ss))
  back zero ss = record { list = ss; is = refl }
  back (suc n) statement.end = record { list = statement.end; is = refl }
  back (suc n) (statement.more s ss) = back n ss

  between : (from n : ℕ) (ss : statement.Stmts A) → AreStmts (take n (drop from (nodes.stmts ss)))
  between from n ss =
      let b = back from ss in
      let f = front n b.list in
      record { list = f.list; is = ap (take n) b.is ∙ f.is }

  pub how_many : (body : List (Stmt A)) → length (nodes.stmts (stmts_of body)) ≡ length body
  how_many [] = refl
  how_many (x ∷ xs) = ap suc (how_many xs)

module _ {A : Type 0} (m : declared.Member A) (own : IsOwner m) (path : List ℕ) where
  pub to_exp : (e : tree.Exp A) → nodes.exp_at (nodes.member m) path ≡ Some e → LeadsToExp m path
  to_exp e h = (own, (e, h))

  pub at_exp : (e : tree.Exp A) → nodes.exp_at (nodes.member m) path ≡ Some e → Leads m path
  at_exp e h = (own, (piece.exp e, node_leads path (piece.member m) (piece.exp e) (exp_leads (piece.member m) own path e h)))

  pub at_stmt : (s : statement.Stmt A) → nodes.stmt_at (nodes.member m) path ≡ Some s → Leads m path
  at_stmt s h = (own, (piece.stmt s, node_leads path (piece.member m) (piece.stmt s) (stmt_leads (piece.member m) own path s h)))

  pub some_stmt : {X : Type 0} (f : X → statement.Stmt A) (r : Option X) → option_map f r ≡ nodes.stmt_at (nodes.member m) path → IsTrue (is_some r) → Leads m path
  some_stmt f None e h = absurd (apart h)
    where
      apart : false ≡ true → ⊥
      apart j = cc
  some_stmt f (Some x) e h = at_stmt (f x) (sym e)

  pub in_block : (mark : A) (body : statement.Stmts A) (from to : ℕ) → nodes.stmt_at (nodes.member m) path ≡ Some (statement.block mark body) → from ≤ to → to ≤ length (nodes.stmts body) → LeadsToParts m path from to
  unfolding nodes.stmt_children
  in_block mark body from to h low high =
      let s = statement.block mark body in
      let at = node_leads path (piece.member m) (piece.stmt s) (stmt_leads (piece.member m) own path s h) in
      let r = between from (to - from) body in
      let left = length-drop from (nodes.stmts body) in
      let all = length-take-le (to - from) (drop from (nodes.stmts body)) (omega (arith, left, low, high)) in
      (own, (piece.stmt s, at, (r.list, record { ordered = low; are = r.is; all = ap length (sym r.is) ∙ all })))
