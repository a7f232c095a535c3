-- What the test on trees says of them.
use Rattle.std.proofs.Common.{◌≡◌, ℕ, List, Option, Some, None, Bool, true, false, refl}
use Rattle.std.specs.Prelude.{◌&&◌, not, Decides}
use Rattle.std.proofs.lemmas.Bool.Decides.{Decides-and, Decides-like}
use Rattle.jr_ast.specs.Tree as tree
use Rattle.jr_ast.specs.StatementTree as statement
use Rattle.jr_ast.specs.MemberTree as syntax
use Rattle.jr_mentions.specs.Apart.{is_among, IsOther}
use Rattle.jr_mentions.specs.Avoids.{AvoidsExp, AvoidsTarget, AvoidsRow, AvoidsMaybe, AvoidsStmt, AvoidsElse, AvoidsStmts, AvoidsArgs, AvoidsMember}
use Rattle.jr_mentions.specs.AvoidTests.{is_other, avoids_exp, avoids_target, avoids_row, avoids_maybe, avoids_stmt, avoids_else, avoids_stmts, avoids_args, avoids_member}

nothing : Decides true (Unit {0})
nothing = (λ e. tt, λ u. refl)

not_among : (b : Bool) → Decides (not b) (b ≡ false)
not_among true = (λ e. absurd cc, λ e. absurd cc)
not_among false = (λ e. refl, λ e. refl)

three : {P Q R : Type 0} (a b c : Bool) → Decides a P → Decides b Q → Decides c R → Decides (a && b && c) (P × Q × R)
three a b c f g h = Decides-like (a && b && c) (λ p. (p.0.0, p.0.1, p.1)) (λ q. ((q.0, q.1), q.2)) (Decides-and (a && b) c (Decides-and a b f g) h)

module _ {A : Type 0} (names : List (List ℕ)) where
  word_decides : (w : tree.Word A) → Decides (is_other names w) (IsOther names w.text)
  word_decides w = not_among (is_among names w.text)

  mutual
    unfolding avoids_exp avoids_target avoids_row AvoidsExp AvoidsTarget AvoidsRow

    pub exp_decides : (e : tree.Exp A) → Decides (avoids_exp names e) (AvoidsExp names e)
    exp_decides (tree.number m n) = nothing
    exp_decides (tree.truth m b) = nothing
    exp_decides (tree.null m) = nothing
    exp_decides (tree.string m s) = nothing
    exp_decides (tree.name m w) = word_decides w
    exp_decides (tree.field m e w) = Decides-and (avoids_exp names e) (is_other names w) (exp_decides e) (word_decides w)
    exp_decides (tree.super_field m w) = word_decides w
    exp_decides (tree.this m) = nothing
    exp_decides (tree.class_literal m t) = nothing
    exp_decides (tree.call m to w args) = three (avoids_target names to) (is_other names w) (avoids_row names args) (target_decides to) (word_decides w) (row_decides args)
    exp_decides (tree.super_call m w args) = Decides-and (is_other names w) (avoids_row names args) (word_decides w) (row_decides args)
    exp_decides (tree.create m t args) = row_decides args
    exp_decides (tree.paren m e) = exp_decides e
    exp_decides (tree.cast m t e) = exp_decides e
    exp_decides (tree.unary m o e) = exp_decides e
    exp_decides (tree.bump m o e) = exp_decides e
    exp_decides (tree.binary m o l r) = Decides-and (avoids_exp names l) (avoids_exp names r) (exp_decides l) (exp_decides r)
    exp_decides (tree.assign m l r) = Decides-and (avoids_exp names l) (avoids_exp names r) (exp_decides l) (exp_decides r)
    exp_decides (tree.compound m o l r) = Decides-and (avoids_exp names l) (avoids_exp names r) (exp_decides l) (exp_decides r)

    target_decides : (t : tree.Target A) → Decides (avoids_target names t) (AvoidsTarget names t)
    target_decides tree.no_target = nothing
    target_decides (tree.on e) = exp_decides e

    pub row_decides : (es : tree.Exps A) → Decides (avoids_row names es) (AvoidsRow names es)
    row_decides tree.end = nothing
    row_decides (tree.more e es) = Decides-and (avoids_exp names e) (avoids_row names es) (exp_decides e) (row_decides es)

  maybe_decides : (e : Option (tree.Exp A)) → Decides (avoids_maybe names e) (AvoidsMaybe names e)
  maybe_decides None = nothing
  maybe_decides (Some e) = exp_decides e

  mutual
    unfolding avoids_stmt avoids_else avoids_stmts AvoidsStmt AvoidsElse AvoidsStmts

    stmt_decides : (x : statement.Stmt A) → Decides (avoids_stmt names x) (AvoidsStmt names x)
    stmt_decides (statement.local m f t w e) = exp_decides e
    stmt_decides (statement.eval m e) = exp_decides e
    stmt_decides (statement.branch m e x other) = three (avoids_exp names e) (avoids_stmt names x) (avoids_else names other) (exp_decides e) (stmt_decides x) (else_decides other)
    stmt_decides (statement.loop m e x) = Decides-and (avoids_exp names e) (avoids_stmt names x) (exp_decides e) (stmt_decides x)
    stmt_decides (statement.return m e) = maybe_decides e
    stmt_decides (statement.block m body) = stmts_decides body
    stmt_decides (statement.sync m e body) = Decides-and (avoids_exp names e) (avoids_stmts names body) (exp_decides e) (stmts_decides body)
    stmt_decides (statement.empty m) = nothing

    else_decides : (x : statement.Else A) → Decides (avoids_else names x) (AvoidsElse names x)
    else_decides statement.no_else = nothing
    else_decides (statement.otherwise x) = stmt_decides x

    stmts_decides : (xs : statement.Stmts A) → Decides (avoids_stmts names xs) (AvoidsStmts names xs)
    stmts_decides statement.end = nothing
    stmts_decides (statement.more x xs) = Decides-and (avoids_stmt names x) (avoids_stmts names xs) (stmt_decides x) (stmts_decides xs)

  args_decides : (args : Option (tree.Exps A)) → Decides (avoids_args names args) (AvoidsArgs names args)
  args_decides None = nothing
  args_decides (Some args) = row_decides args

  pub member_decides : (x : syntax.Member A) → Decides (avoids_member names x) (AvoidsMember names x)
  member_decides (syntax.field m mods t w init) = maybe_decides init
  member_decides (syntax.method m mods t w ps body) = stmts_decides body
  member_decides (syntax.constructor m mods w ps args body) = Decides-and (avoids_args names args) (avoids_stmts names body) (args_decides args) (stmts_decides body)
  member_decides (syntax.inner m of) = (λ e. absurd cc, λ h. absurd h)
