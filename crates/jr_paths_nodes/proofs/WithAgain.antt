-- A child that is replaced twice: the first new one leaves no trace.
use Rattle.std.proofs.Common.{◌≡◌, ℕ, zero, suc, List, [], ◌∷◌, length, Option, Some, None, refl, ap, ◌∙◌}
use Rattle.std.specs.List.{slice_set}
use Rattle.jr_ast.specs.Tree as tree
use Rattle.jr_ast.specs.StatementTree as statement
use Rattle.jr_ast.specs.MemberTree as declared
use Rattle.jr_ast.specs.Nodes.{Node, unit, class, member, stmt, exp}
use Rattle.jr_paths_nodes.specs.With as with
use Rattle.jr_paths_nodes.specs.With.{with_child, SameKind}

module _ {A : Type 0} where
  exps_again : (es : tree.Exps A) (i : ℕ) (x y : tree.Exp A) → with.with_exp_among (with.with_exp_among es i x) i y ≡ with.with_exp_among es i y
  exps_again tree.end i x y = refl
  exps_again (tree.more e es) zero x y = refl
  exps_again (tree.more e es) (suc i) x y = ap (tree.more e) (exps_again es i x y)

  exps_from_again : (first : ℕ) (es : tree.Exps A) (i : ℕ) (x y : tree.Exp A) → with.with_exp_from first (with.with_exp_from first es i x) i y ≡ with.with_exp_from first es i y
  exps_from_again zero es i x y = exps_again es i x y
  exps_from_again (suc first) es zero x y = refl
  exps_from_again (suc first) es (suc i) x y = exps_from_again first es i x y

  stmts_again : (ss : statement.Stmts A) (i : ℕ) (x y : statement.Stmt A) → with.with_stmt_among (with.with_stmt_among ss i x) i y ≡ with.with_stmt_among ss i y
  stmts_again statement.end i x y = refl
  stmts_again (statement.more s ss) zero x y = refl
  stmts_again (statement.more s ss) (suc i) x y = ap (statement.more s) (stmts_again ss i x y)

  stmts_from_again : (first : ℕ) (ss : statement.Stmts A) (i : ℕ) (x y : statement.Stmt A) → with.with_stmt_from first (with.with_stmt_from first ss i x) i y ≡ with.with_stmt_from first ss i y
  stmts_from_again zero ss i x y = stmts_again ss i x y
  stmts_from_again (suc first) ss zero x y = refl
  stmts_from_again (suc first) ss (suc i) x y = stmts_from_again first ss i x y

  members_again : (ms : declared.Members A) (i : ℕ) (x y : declared.Member A) → with.with_member_among (with.with_member_among ms i x) i y ≡ with.with_member_among ms i y
  members_again declared.end i x y = refl
  members_again (declared.more m ms) zero x y = refl
  members_again (declared.more m ms) (suc i) x y = ap (declared.more m) (members_again ms i x y)

  members_from_again : (first : ℕ) (ms : declared.Members A) (i : ℕ) (x y : declared.Member A)
      → with.with_member_from first (with.with_member_from first ms i x) i y ≡ with.with_member_from first ms i y
  members_from_again zero ms i x y = members_again ms i x y
  members_from_again (suc first) ms zero x y = refl
  members_from_again (suc first) ms (suc i) x y = members_from_again first ms i x y

  classes_again : (cs : List (declared.Class A)) (i : ℕ) (x y : declared.Class A) → slice_set (slice_set cs i x) i y ≡ slice_set cs i y
  classes_again [] i x y = refl
  classes_again (c ∷ cs) zero x y = refl
  classes_again (c ∷ cs) (suc i) x y = ap (λ l. c ∷ l) (classes_again cs i x y)

  classes_from_again : (first : ℕ) (cs : List (declared.Class A)) (i : ℕ) (x y : declared.Class A)
      → with.with_class_from first (with.with_class_from first cs i x) i y ≡ with.with_class_from first cs i y
  classes_from_again zero cs i x y = classes_again cs i x y
  classes_from_again (suc first) cs zero x y = refl
  classes_from_again (suc first) cs (suc i) x y = classes_from_again first cs i x y

  maybe_next : (first : ℕ) (e : Option (tree.Exp A)) (i : ℕ) (y : tree.Exp A) → with.with_maybe (suc first) e (suc i) y ≡ with.with_maybe first e i y
  maybe_next zero None i y = refl
  maybe_next (suc first) None i y = refl
  maybe_next first (Some e) i y = refl

  maybe_again : (first : ℕ) (e : Option (tree.Exp A)) (i : ℕ) (x y : tree.Exp A) → with.with_maybe first (with.with_maybe first e i x) i y ≡ with.with_maybe first e i y
  maybe_again first None i x y = refl
  maybe_again zero (Some e) zero x y = refl
  maybe_again zero (Some e) (suc i) x y = refl
  maybe_again (suc first) (Some e) zero x y = refl
  maybe_again (suc first) (Some e) (suc i) x y = maybe_next first (with.with_maybe first (Some e) i x) i y ∙ maybe_again first (Some e) i x y

  else_again : (other : statement.Else A) (i : ℕ) (x y : statement.Stmt A) → with.with_else (with.with_else other i x) i y ≡ with.with_else other i y
  else_again statement.no_else i x y = refl
  else_again (statement.otherwise s) zero x y = refl
  else_again (statement.otherwise s) (suc zero) x y = refl
  else_again (statement.otherwise s) (suc (suc zero)) x y = refl
  else_again (statement.otherwise s) (suc (suc (suc i))) x y = refl

  exp_again : (e : tree.Exp A) (i : ℕ) (x y : tree.Exp A) → with.with_exp (with.with_exp e i x) i y ≡ with.with_exp e i y
  unfolding with.with_exp
  exp_again (tree.field m e w) zero x y = refl
  exp_again (tree.call m tree.no_target w args) i x y = ap (tree.call m tree.no_target w) (exps_from_again 1 args i x y)
  exp_again (tree.call m (tree.on e) w args) zero x y = refl
  exp_again (tree.call m (tree.on e) w args) (suc i) x y = ap (tree.call m (tree.on e) w) (exps_from_again 2 args (suc i) x y)
  exp_again (tree.super_call m w args) i x y = ap (tree.super_call m w) (exps_from_again 1 args i x y)
  exp_again (tree.create m t args) i x y = ap (tree.create m t) (exps_from_again 1 args i x y)
  exp_again (tree.paren m e) zero x y = refl
  exp_again (tree.cast m t e) (suc zero) x y = refl
  exp_again (tree.unary m op e) zero x y = refl
  exp_again (tree.bump m op e) zero x y = refl
  exp_again (tree.binary m op e f) zero x y = refl
  exp_again (tree.binary m op e f) (suc zero) x y = refl
  exp_again (tree.assign m e f) zero x y = refl
  exp_again (tree.assign m e f) (suc zero) x y = refl
  exp_again (tree.compound m op e f) zero x y = refl
  exp_again (tree.compound m op e f) (suc zero) x y = refl
  exp_again e i x y = refl

  stmt_exp_again : (s : statement.Stmt A) (i : ℕ) (x y : tree.Exp A) → with.stmt_with_exp (with.stmt_with_exp s i x) i y ≡ with.stmt_with_exp s i y
  unfolding with.stmt_with_exp
  stmt_exp_again (statement.local m f t w e) (suc (suc zero)) x y = refl
  stmt_exp_again (statement.eval m e) zero x y = refl
  stmt_exp_again (statement.branch m e s other) zero x y = refl
  stmt_exp_again (statement.loop m e s) zero x y = refl
  stmt_exp_again (statement.return m e) i x y = ap (statement.return m) (maybe_again 0 e i x y)
  stmt_exp_again (statement.sync m e body) zero x y = refl
  stmt_exp_again s i x y = refl

  stmt_stmt_again : (s : statement.Stmt A) (i : ℕ) (x y : statement.Stmt A) → with.stmt_with_stmt (with.stmt_with_stmt s i x) i y ≡ with.stmt_with_stmt s i y
  unfolding with.stmt_with_stmt
  stmt_stmt_again (statement.branch m e s other) zero x y = ap (statement.branch m e s) (else_again other zero x y)
  stmt_stmt_again (statement.branch m e s other) (suc zero) x y = refl
  stmt_stmt_again (statement.branch m e s other) (suc (suc i)) x y = ap (statement.branch m e s) (else_again other (suc (suc i)) x y)
  stmt_stmt_again (statement.loop m e s) (suc zero) x y = refl
  stmt_stmt_again (statement.block m body) i x y = ap (statement.block m) (stmts_from_again 0 body i x y)
  stmt_stmt_again (statement.sync m e body) i x y = ap (statement.sync m e) (stmts_from_again 1 body i x y)
  stmt_stmt_again s i x y = refl

  member_exp_again : (m : declared.Member A) (i : ℕ) (x y : tree.Exp A) → with.member_with_exp (with.member_with_exp m i x) i y ≡ with.member_with_exp m i y
  unfolding with.member_with_exp
  member_exp_again (declared.field m mods t w e) i x y = ap (declared.field m mods t w) (maybe_again (with.first_init mods) e i x y)
  member_exp_again (declared.constructor m mods w ps None body) i x y = refl
  member_exp_again (declared.constructor m mods w ps (Some args) body) i x y =
      ap (λ es. declared.constructor m mods w ps (Some es) body) (exps_from_again (with.first_parent_arg mods ps) args i x y)
  member_exp_again m i x y = refl

  member_stmt_again : (m : declared.Member A) (i : ℕ) (x y : statement.Stmt A) → with.member_with_stmt (with.member_with_stmt m i x) i y ≡ with.member_with_stmt m i y
  unfolding with.member_with_stmt
  member_stmt_again (declared.method m mods t w ps body) i x y = ap (declared.method m mods t w ps) (stmts_from_again (with.first_in_method mods t ps) body i x y)
  member_stmt_again (declared.constructor m mods w ps args body) i x y = ap (declared.constructor m mods w ps args) (stmts_from_again (with.first_in_constructor mods ps args) body i x y)
  member_stmt_again m i x y = refl

  member_class_again : (m : declared.Member A) (i : ℕ) (x y : declared.Class A) → with.member_with_class (with.member_with_class m i x) i y ≡ with.member_with_class m i y
  unfolding with.member_with_class
  member_class_again (declared.inner m c) zero x y = refl
  member_class_again m i x y = refl

  class_member_again : (c : declared.Class A) (i : ℕ) (x y : declared.Member A) → with.class_with_member (with.class_with_member c i x) i y ≡ with.class_with_member c i y
  unfolding with.class_with_member
  class_member_again (declared.class m mods w t ms) i x y = ap (declared.class m mods w t) (members_from_again (with.first_member mods t) ms i x y)

  unit_class_again : (u : declared.Unit A) (i : ℕ) (x y : declared.Class A) → with.unit_with_class (with.unit_with_class u i x) i y ≡ with.unit_with_class u i y
  unit_class_again u i x y = ap (λ (cs : List (declared.Class A)). record u { classes = cs }) (classes_from_again (length u.package_name) u.classes i x y)

  -- by the kind of the child
  exp_child_again : (n : Node A) (x y : tree.Exp A) (i : ℕ) → with_child (with_child n i (exp x)) i (exp y) ≡ with_child n i (exp y)
  exp_child_again (exp e) x y i = ap exp (exp_again e i x y)
  exp_child_again (stmt s) x y i = ap stmt (stmt_exp_again s i x y)
  exp_child_again (member m) x y i = ap member (member_exp_again m i x y)
  exp_child_again n x y i = refl

  stmt_child_again : (n : Node A) (x y : statement.Stmt A) (i : ℕ) → with_child (with_child n i (stmt x)) i (stmt y) ≡ with_child n i (stmt y)
  stmt_child_again (stmt s) x y i = ap stmt (stmt_stmt_again s i x y)
  stmt_child_again (member m) x y i = ap member (member_stmt_again m i x y)
  stmt_child_again n x y i = refl

  member_child_again : (n : Node A) (x y : declared.Member A) (i : ℕ) → with_child (with_child n i (member x)) i (member y) ≡ with_child n i (member y)
  member_child_again (class c) x y i = ap class (class_member_again c i x y)
  member_child_again n x y i = refl

  class_child_again : (n : Node A) (x y : declared.Class A) (i : ℕ) → with_child (with_child n i (class x)) i (class y) ≡ with_child n i (class y)
  class_child_again (member m) x y i = ap member (member_class_again m i x y)
  class_child_again (unit u) x y i = ap unit (unit_class_again u i x y)
  class_child_again n x y i = refl

  pub child_again : (n x y : Node A) (i : ℕ) → SameKind x y → with_child (with_child n i x) i y ≡ with_child n i y
  child_again n (exp x) (exp y) i same = exp_child_again n x y i
  child_again n (stmt x) (stmt y) i same = stmt_child_again n x y i
  child_again n (member x) (member y) i same = member_child_again n x y i
  child_again n (class x) (class y) i same = class_child_again n x y i
  child_again n x y i same = absurd same
