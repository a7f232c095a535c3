-- The walk over a member keeps what holds of each node: where one property is as good as another at each expression, statement and
-- list, it is so of the whole.
use Rattle.std.proofs.Common.{ℕ, ◌+◌, Option, Some, None, true, false, length, inl, inr}
use Rattle.std.specs.Prelude.{◌⊎◌}
use Rattle.jr_ast.specs.Tree as tree
use Rattle.jr_ast.specs.StatementTree as statement
use Rattle.jr_ast.specs.MemberTree as syntax
use Rattle.jr_table.specs.Decls.{MemberKey}
use Rattle.jr_table.specs.Context.{Context, local_of, in_own, after, locals_in}
use Rattle.jr_table.specs.Binding.{Role, value, left}
use Rattle.jr_table.specs.Binding as role
use Rattle.jr_table.specs.Somewhere.{Somewhere, InTarget, InRow, InMaybe, InStmt, InElse, InList, InStmts}
use Rattle.jr_table.specs.HeadRules.{plain, with_parameters, is_static_member}
use Rattle.jr_table.specs.Errors.{InSuper, InMember}

either : {P Q R S : Type 0} → (P → R) → (Q → S) → P ⊎ Q → R ⊎ S
either f g (inl h) = inl (f h)
either f g (inr h) = inr (g h)

module _ {A : Type 0} (begins : A → ℕ → ℕ) where
  module _ (P Q : Role → (base : ℕ) → tree.Exp A → Type 0) (each : (r : Role) (base : ℕ) (e : tree.Exp A) → P r base e → Q r base e) where
    mutual
      unfolding Somewhere InTarget InRow

      pub in_exp : (r : Role) (base : ℕ) (e : tree.Exp A) → Somewhere begins P r base e → Somewhere begins Q r base e
      in_exp r base (tree.number m n) h = each r base (tree.number m n) h
      in_exp r base (tree.truth m b) h = each r base (tree.truth m b) h
      in_exp r base (tree.null m) h = each r base (tree.null m) h
      in_exp r base (tree.string m s) h = each r base (tree.string m s) h
      in_exp r base (tree.name m w) h = each r base (tree.name m w) h
      in_exp r base (tree.field m e w) h = either (each r base (tree.field m e w)) (in_exp left (begins m base) e) h
      in_exp r base (tree.super_field m w) h = each r base (tree.super_field m w) h
      in_exp r base (tree.this m) h = each r base (tree.this m) h
      in_exp r base (tree.class_literal m t) h = each r base (tree.class_literal m t) h
      in_exp r base (tree.call m to w args) h = either (each r base (tree.call m to w args)) (either (in_target (begins m base) to) (in_row (begins m base) args)) h
      in_exp r base (tree.super_call m w args) h = either (each r base (tree.super_call m w args)) (in_row (begins m base) args) h
      in_exp r base (tree.create m t args) h = either (each r base (tree.create m t args)) (in_row (begins m base) args) h
      in_exp r base (tree.paren m e) h = either (each r base (tree.paren m e)) (in_exp value (begins m base) e) h
      in_exp r base (tree.cast m t e) h = either (each r base (tree.cast m t e)) (in_exp value (begins m base) e) h
      in_exp r base (tree.unary m o e) h = either (each r base (tree.unary m o e)) (in_exp value (begins m base) e) h
      in_exp r base (tree.bump m o e) h = either (each r base (tree.bump m o e)) (in_exp value (begins m base) e) h
      in_exp r base (tree.binary m o x y) h = either (each r base (tree.binary m o x y)) (either (in_exp value (begins m base) x) (in_exp value (begins m base) y)) h
      in_exp r base (tree.assign m x y) h = either (each r base (tree.assign m x y)) (either (in_exp value (begins m base) x) (in_exp value (begins m base) y)) h
      in_exp r base (tree.compound m o x y) h = either (each r base (tree.compound m o x y)) (either (in_exp value (begins m base) x) (in_exp value (begins m base) y)) h

      in_target : (at : ℕ) (to : tree.Target A) → InTarget begins P at to → InTarget begins Q at to
      in_target at tree.no_target h = h
      in_target at (tree.on e) h = in_exp left at e h

      pub in_row : (at : ℕ) (args : tree.Exps A) → InRow begins P at args → InRow begins Q at args
      in_row at tree.end h = h
      in_row at (tree.more e es) h = either (in_exp value at e) (in_row at es) h

  module _ (OnExp OnExp' : Context → Role → (base : ℕ) → tree.Exp A → Type 0) (OnStmt OnStmt' : (number : ℕ) → Context → (base : ℕ) → statement.Stmt A → Type 0) (OnList OnList' : (base : ℕ) → statement.Stmts A → Type 0)
      (exps : (c : Context) (r : Role) (base : ℕ) (e : tree.Exp A) → OnExp c r base e → OnExp' c r base e)
      (stmts : (number : ℕ) (c : Context) (base : ℕ) (x : statement.Stmt A) → OnStmt number c base x → OnStmt' number c base x)
      (lists : (base : ℕ) (xs : statement.Stmts A) → OnList base xs → OnList' base xs) where
    in_value : (c : Context) (r : Role) (base : ℕ) (e : tree.Exp A) → Somewhere begins (OnExp c) r base e → Somewhere begins (OnExp' c) r base e
    in_value c r base e h = in_exp (OnExp c) (OnExp' c) (exps c) r base e h

    in_maybe : (c : Context) (at : ℕ) (o : Option (tree.Exp A)) → InMaybe begins OnExp OnStmt OnList c at o → InMaybe begins OnExp' OnStmt' OnList' c at o
    in_maybe c at None h = h
    in_maybe c at (Some e) h = in_value c value at e h

    mutual
      unfolding InStmt InElse InStmts

      in_stmt : (number : ℕ) (c : Context) (base : ℕ) (x : statement.Stmt A) → InStmt begins OnExp OnStmt OnList number c base x → InStmt begins OnExp' OnStmt' OnList' number c base x
      in_stmt number c base (statement.local m f t w e) h = either (stmts number c base (statement.local m f t w e)) (in_value (in_own c (local_of c number f t w)) value (begins m base) e) h
      in_stmt number c base (statement.eval m e) h = either (stmts number c base (statement.eval m e)) (in_value c role.statement (begins m base) e) h
      in_stmt number c base (statement.branch m e x other) h = either (stmts number c base (statement.branch m e x other)) (either (in_value c value (begins m base) e) (either (in_stmt number c (begins m base) x) (in_else (number + locals_in x) c (begins m base) other))) h
      in_stmt number c base (statement.loop m e x) h = either (stmts number c base (statement.loop m e x)) (either (in_value c value (begins m base) e) (in_stmt number c (begins m base) x)) h
      in_stmt number c base (statement.return m e) h = either (stmts number c base (statement.return m e)) (in_maybe c (begins m base) e) h
      in_stmt number c base (statement.block m body) h = either (stmts number c base (statement.block m body)) (either (lists (begins m base) body) (in_stmts number c (begins m base) body)) h
      in_stmt number c base (statement.sync m e body) h = either (stmts number c base (statement.sync m e body)) (either (in_value c value (begins m base) e) (either (lists (begins m base) body) (in_stmts number c (begins m base) body))) h
      in_stmt number c base (statement.empty m) h = stmts number c base (statement.empty m) h

      in_else : (number : ℕ) (c : Context) (base : ℕ) (x : statement.Else A) → InElse begins OnExp OnStmt OnList number c base x → InElse begins OnExp' OnStmt' OnList' number c base x
      in_else number c base statement.no_else h = h
      in_else number c base (statement.otherwise x) h = in_stmt number c base x h

      in_stmts : (number : ℕ) (c : Context) (base : ℕ) (xs : statement.Stmts A) → InStmts begins OnExp OnStmt OnList number c base xs → InStmts begins OnExp' OnStmt' OnList' number c base xs
      in_stmts number c base statement.end h = h
      in_stmts number c base (statement.more x xs) h = either (in_stmt number c base x) (in_stmts (number + locals_in x) (after number c x) base xs) h

    in_list : (number : ℕ) (c : Context) (base : ℕ) (xs : statement.Stmts A) → InList begins OnExp OnStmt OnList number c base xs → InList begins OnExp' OnStmt' OnList' number c base xs
    in_list number c base xs h = either (lists base xs) (in_stmts number c base xs) h

    in_super : (c : Context) (base : ℕ) (args : Option (tree.Exps A)) → InSuper begins OnExp OnStmt OnList c base args → InSuper begins OnExp' OnStmt' OnList' c base args
    in_super c base None h = h
    in_super c base (Some args) h = in_row (OnExp c) (OnExp' c) (exps c) base args h

    pub in_member : (k : MemberKey) (base : ℕ) (x : syntax.Member A) → InMember begins OnExp OnStmt OnList k base x → InMember begins OnExp' OnStmt' OnList' k base x
    in_member k base (syntax.field m mods t w init) h = in_maybe (plain k (is_static_member begins mods)) (begins m base) init h
    in_member k base (syntax.method m mods t w ps body) h = in_list (length ps) (with_parameters k (is_static_member begins mods) ps) (begins m base) body h
    in_member k base (syntax.constructor m mods w ps args body) h = either (in_super (with_parameters k true ps) (begins m base) args) (in_list (length ps) (with_parameters k false ps) (begins m base) body) h
    in_member k base (syntax.inner m of) h = h
