-- Where a path leads from a member or a statement, by its first step.
use Rattle.std.proofs.Common.{◌≡◌, ℕ, List, ◌∷◌, Some, None, option_and_then, sym, ap, subst, ◌∙◌}
use Rattle.jr_ast.specs.Tree as tree
use Rattle.jr_ast.specs.StatementTree as statement
use Rattle.jr_ast.specs.MemberTree as declared
use Rattle.jr_ast.specs.Nodes.{member, stmt, exp, child_of, as_exp, as_stmt, exp_at, stmt_at}
use Rattle.jr_paths.specs.PathKinds.{NoMember, NoStmt}
use Rattle.jr_paths.proofs.PathKinds.{stmt_of_member, exp_of_member, exp_of_stmt}

module _ {A : Type 0} where
  pub exp_first_of_stmt : (s : statement.Stmt A) (e : tree.Exp A) (i : ℕ) (q steps : List ℕ) → i ∷ q ≡ steps → NoStmt (stmt s) steps → Some e ≡ option_and_then as_exp (child_of (stmt s) i) → exp_at (exp e) q ≡ exp_at (stmt s) steps
  exp_first_of_stmt s e i q steps join h0 at =
      ap (option_and_then (λ d. exp_at (exp d) q)) at ∙ sym (exp_of_stmt s i q (subst (NoStmt (stmt s)) (sym join) h0)) ∙ ap (exp_at (stmt s)) join

  pub no_exp_first_of_stmt : (s : statement.Stmt A) (i : ℕ) (q steps : List ℕ) → i ∷ q ≡ steps → NoStmt (stmt s) steps → None ≡ option_and_then as_exp (child_of (stmt s) i) → None ≡ exp_at (stmt s) steps
  no_exp_first_of_stmt s i q steps join h0 at =
      ap (option_and_then (λ d. exp_at (exp d) q)) at ∙ sym (exp_of_stmt s i q (subst (NoStmt (stmt s)) (sym join) h0)) ∙ ap (exp_at (stmt s)) join

  pub exp_first_of_member : (s : declared.Member A) (e : tree.Exp A) (i : ℕ) (q steps : List ℕ) → i ∷ q ≡ steps → NoMember (member s) steps → NoStmt (member s) steps → Some e ≡ option_and_then as_exp (child_of (member s) i) → exp_at (exp e) q ≡ exp_at (member s) steps
  exp_first_of_member s e i q steps join h0 h1 at =
      ap (option_and_then (λ d. exp_at (exp d) q)) at ∙ sym (exp_of_member s i q (subst (NoMember (member s)) (sym join) h0) (subst (NoStmt (member s)) (sym join) h1)) ∙ ap (exp_at (member s)) join

  pub no_exp_first_of_member : (s : declared.Member A) (i : ℕ) (q steps : List ℕ) → i ∷ q ≡ steps → NoMember (member s) steps → NoStmt (member s) steps → None ≡ option_and_then as_exp (child_of (member s) i) → None ≡ exp_at (member s) steps
  no_exp_first_of_member s i q steps join h0 h1 at =
      ap (option_and_then (λ d. exp_at (exp d) q)) at ∙ sym (exp_of_member s i q (subst (NoMember (member s)) (sym join) h0) (subst (NoStmt (member s)) (sym join) h1)) ∙ ap (exp_at (member s)) join

  pub stmt_first_of_member : (s : declared.Member A) (e : statement.Stmt A) (i : ℕ) (q steps : List ℕ) → i ∷ q ≡ steps → NoMember (member s) steps → Some e ≡ option_and_then as_stmt (child_of (member s) i) → stmt_at (stmt e) q ≡ stmt_at (member s) steps
  stmt_first_of_member s e i q steps join h0 at =
      ap (option_and_then (λ d. stmt_at (stmt d) q)) at ∙ sym (stmt_of_member s i q (subst (NoMember (member s)) (sym join) h0)) ∙ ap (stmt_at (member s)) join

  pub no_stmt_first_of_member : (s : declared.Member A) (i : ℕ) (q steps : List ℕ) → i ∷ q ≡ steps → NoMember (member s) steps → None ≡ option_and_then as_stmt (child_of (member s) i) → None ≡ stmt_at (member s) steps
  no_stmt_first_of_member s i q steps join h0 at =
      ap (option_and_then (λ d. stmt_at (stmt d) q)) at ∙ sym (stmt_of_member s i q (subst (NoMember (member s)) (sym join) h0)) ∙ ap (stmt_at (member s)) join
