-- A node at the end of a path, and a tree with one node replaced: paths in two parts, and what a node is replaced by is the node itself.
use Rattle.std.proofs.Common.{◌≡◌, ℕ, zero, suc, ◌+◌, List, [], ◌∷◌, ◌++◌, length, map, Option, Some, None, option_map, option_and_then, refl, sym, ap, ◌∙◌, subst, arith}
use Rattle.std.specs.List.{slice_get, slice_set}
use Rattle.std.proofs.lemmas.Option.{none-some, same_Some}
use Rattle.jr_ast.specs.Tree as tree
use Rattle.jr_ast.specs.StatementTree as statement
use Rattle.jr_ast.specs.MemberTree as declared
use Rattle.jr_ast.specs.Nodes as pure
use Rattle.jr_ast.specs.Nodes.{Node, unit, class, modifier, word, type, param, member, stmt, exp, node_at, child_of}
use Rattle.jr_paths_nodes.specs.With as with
use Rattle.jr_paths_nodes.specs.With.{get_from, with_child, with_found, with_node}
use Rattle.jr_paths_nodes.proofs.Picks.{past_one, past_map, past_part, in_front_from}
use Rattle.jr_paths_nodes.proofs.RowKinds.{each-stmts, each-args}

module _ {A : Type 0} where
  pub at_append : (n : Node A) (p q : List ℕ) → node_at n (p ++ q) ≡ option_and_then (λ c. node_at c q) (node_at n p)
  unfolding node_at
  at_append n [] q = refl
  at_append n (i ∷ p) q = go (child_of n i) (λ d. at_append d p q)
    where
      go : (o : Option (Node A)) → ((d : Node A) → node_at d (p ++ q) ≡ option_and_then (λ c. node_at c q) (node_at d p))
          → option_and_then (λ d. node_at d (p ++ q)) o ≡ option_and_then (λ c. node_at c q) (option_and_then (λ d. node_at d p) o)
      go None below = refl
      go (Some d) below = below d

  pub with_append : (n c x : Node A) (p q : List ℕ) → node_at n p ≡ Some c → with_node n (p ++ q) x ≡ with_node n p (with_node c q x)
  unfolding node_at with_node
  with_append n c x [] q h = ap (λ d. with_node d q x) (same_Some n c h)
  with_append n c x (i ∷ p) q h = go (child_of n i) h (λ d. with_append d c x p q)
    where
      go : (o : Option (Node A)) → option_and_then (λ d. node_at d p) o ≡ Some c
          → ((d : Node A) → node_at d p ≡ Some c → with_node d (p ++ q) x ≡ with_node d p (with_node c q x))
          → with_found n i (λ d. with_node d (p ++ q) x) o ≡ with_found n i (λ d. with_node d p (with_node c q x)) o
      go None h below = absurd (none-some c h)
      go (Some d) h below = ap (with_child n i) (below d h)

  -- rows in which one is replaced by itself
  exps_same : (es : tree.Exps A) (i : ℕ) (x : tree.Exp A) → slice_get (pure.exps es) i ≡ Some (exp x) → with.with_exp_among es i x ≡ es
  exps_same tree.end i x h = refl
  exps_same (tree.more e es) zero x h = cc
  exps_same (tree.more e es) (suc i) x h = ap (tree.more e) (exps_same es i x h)

  exps_from_same : (first : ℕ) (es : tree.Exps A) (i : ℕ) (x : tree.Exp A) → get_from first (pure.exps es) i ≡ Some (exp x) → with.with_exp_from first es i x ≡ es
  exps_from_same zero es i x h = exps_same es i x h
  exps_from_same (suc first) es zero x h = refl
  exps_from_same (suc first) es (suc i) x h = exps_from_same first es i x h

  stmts_same : (ss : statement.Stmts A) (i : ℕ) (x : statement.Stmt A) → slice_get (pure.stmts ss) i ≡ Some (stmt x) → with.with_stmt_among ss i x ≡ ss
  stmts_same statement.end i x h = refl
  stmts_same (statement.more s ss) zero x h = cc
  stmts_same (statement.more s ss) (suc i) x h = ap (statement.more s) (stmts_same ss i x h)

  stmts_from_same : (first : ℕ) (ss : statement.Stmts A) (i : ℕ) (x : statement.Stmt A) → get_from first (pure.stmts ss) i ≡ Some (stmt x) → with.with_stmt_from first ss i x ≡ ss
  stmts_from_same zero ss i x h = stmts_same ss i x h
  stmts_from_same (suc first) ss zero x h = refl
  stmts_from_same (suc first) ss (suc i) x h = stmts_from_same first ss i x h

  members_same : (ms : declared.Members A) (i : ℕ) (x : declared.Member A) → slice_get (pure.members ms) i ≡ Some (member x) → with.with_member_among ms i x ≡ ms
  members_same declared.end i x h = refl
  members_same (declared.more m ms) zero x h = cc
  members_same (declared.more m ms) (suc i) x h = ap (declared.more m) (members_same ms i x h)

  members_from_same : (first : ℕ) (ms : declared.Members A) (i : ℕ) (x : declared.Member A) → get_from first (pure.members ms) i ≡ Some (member x)
      → with.with_member_from first ms i x ≡ ms
  members_from_same zero ms i x h = members_same ms i x h
  members_from_same (suc first) ms zero x h = refl
  members_from_same (suc first) ms (suc i) x h = members_from_same first ms i x h

  classes_same : (cs : List (declared.Class A)) (i : ℕ) (x : declared.Class A) → slice_get (map class cs) i ≡ Some (class x) → slice_set cs i x ≡ cs
  classes_same [] i x h = refl
  classes_same (c ∷ cs) zero x h = cc
  classes_same (c ∷ cs) (suc i) x h = ap (λ l. c ∷ l) (classes_same cs i x h)

  classes_from_same : (first : ℕ) (cs : List (declared.Class A)) (i : ℕ) (x : declared.Class A) → get_from first (map class cs) i ≡ Some (class x)
      → with.with_class_from first cs i x ≡ cs
  classes_from_same zero cs i x h = classes_same cs i x h
  classes_from_same (suc first) cs zero x h = refl
  classes_from_same (suc first) cs (suc i) x h = classes_from_same first cs i x h

  maybe_same : (first : ℕ) (e : Option (tree.Exp A)) (i : ℕ) (x : tree.Exp A) → get_from first (pure.maybe (option_map exp e)) i ≡ Some (exp x) → with.with_maybe first e i x ≡ e
  maybe_same first None i x h = refl
  maybe_same zero (Some e) zero x h = cc
  maybe_same zero (Some e) (suc i) x h = refl
  maybe_same (suc first) (Some e) zero x h = refl
  maybe_same (suc first) (Some e) (suc i) x h = maybe_same first (Some e) i x h

  else_same : (other : statement.Else A) (i : ℕ) (x : statement.Stmt A) → get_from 2 (pure.else_children other) i ≡ Some (stmt x) → with.with_else other i x ≡ other
  else_same statement.no_else i x h = refl
  else_same (statement.otherwise s) zero x h = refl
  else_same (statement.otherwise s) (suc zero) x h = refl
  else_same (statement.otherwise s) (suc (suc zero)) x h = cc
  else_same (statement.otherwise s) (suc (suc (suc i))) x h = refl

  -- arguments behind a word or a type
  args_same : (y : Node A) (args : tree.Exps A) (i : ℕ) (x : tree.Exp A) → (y ≡ exp x → ⊥) → slice_get (y ∷ pure.exps args) i ≡ Some (exp x) → with.with_exp_from 1 args i x ≡ args
  args_same y args i x other h = exps_from_same 1 args i x (past_one 0 y (pure.exps args) i (exp x) other h)

  exp_same : (e : tree.Exp A) (i : ℕ) (x : tree.Exp A) → slice_get (pure.exp_children e) i ≡ Some (exp x) → with.with_exp e i x ≡ e
  unfolding pure.exp_children with.with_exp
  exp_same (tree.field m e w) zero x h = cc
  exp_same (tree.call m tree.no_target w args) i x h = ap (tree.call m tree.no_target w) (args_same (word w) args i x (λ e. cc) h)
  exp_same (tree.call m (tree.on e) w args) zero x h = cc
  exp_same (tree.call m (tree.on e) w args) (suc i) x h = ap (tree.call m (tree.on e) w) (args_same (word w) args i x (λ e. cc) h)
  exp_same (tree.super_call m w args) i x h = ap (tree.super_call m w) (args_same (word w) args i x (λ e. cc) h)
  exp_same (tree.create m t args) i x h = ap (tree.create m t) (args_same (type t) args i x (λ e. cc) h)
  exp_same (tree.paren m e) zero x h = cc
  exp_same (tree.cast m t e) (suc zero) x h = cc
  exp_same (tree.unary m op e) zero x h = cc
  exp_same (tree.bump m op e) zero x h = cc
  exp_same (tree.binary m op e f) zero x h = cc
  exp_same (tree.binary m op e f) (suc zero) x h = cc
  exp_same (tree.assign m e f) zero x h = cc
  exp_same (tree.assign m e f) (suc zero) x h = cc
  exp_same (tree.compound m op e f) zero x h = cc
  exp_same (tree.compound m op e f) (suc zero) x h = cc
  exp_same e i x h = refl

  stmt_exp_same : (s : statement.Stmt A) (i : ℕ) (x : tree.Exp A) → slice_get (pure.stmt_children s) i ≡ Some (exp x) → with.stmt_with_exp s i x ≡ s
  unfolding pure.stmt_children with.stmt_with_exp
  stmt_exp_same (statement.local m f t w e) (suc (suc zero)) x h = cc
  stmt_exp_same (statement.eval m e) zero x h = cc
  stmt_exp_same (statement.branch m e s other) zero x h = cc
  stmt_exp_same (statement.loop m e s) zero x h = cc
  stmt_exp_same (statement.return m e) i x h = ap (statement.return m) (maybe_same 0 e i x h)
  stmt_exp_same (statement.sync m e body) zero x h = cc
  stmt_exp_same s i x h = refl

  stmt_stmt_same : (s : statement.Stmt A) (i : ℕ) (x : statement.Stmt A) → slice_get (pure.stmt_children s) i ≡ Some (stmt x) → with.stmt_with_stmt s i x ≡ s
  unfolding pure.stmt_children with.stmt_with_stmt
  stmt_stmt_same (statement.branch m e s other) (suc zero) x h = cc
  stmt_stmt_same (statement.branch m e s other) zero x h = absurd cc
  stmt_stmt_same (statement.branch m e s other) (suc (suc i)) x h = ap (statement.branch m e s) (else_same other (suc (suc i)) x h)
  stmt_stmt_same (statement.loop m e s) (suc zero) x h = cc
  stmt_stmt_same (statement.block m body) i x h = ap (statement.block m) (stmts_from_same 0 body i x h)
  stmt_stmt_same (statement.sync m e body) i x h = ap (statement.sync m e) (stmts_from_same 1 body i x (past_one 0 (exp e) (pure.stmts body) i (stmt x) (λ d. cc) h))
  stmt_stmt_same s i x h = refl

  -- what stands behind the modifiers of a member
  past_modifiers : (mods : List (declared.Modifier A)) (rest : List (Node A)) (i : ℕ) (x : Node A) → ((m : declared.Modifier A) → modifier m ≡ x → ⊥)
      → slice_get (map modifier mods ++ rest) i ≡ Some x → get_from (length mods) rest i ≡ Some x
  past_modifiers mods rest i x other h =
      let e : 0 + length mods ≡ length mods = omega arith in
      subst (λ k. get_from k rest i ≡ Some x) e (past_map 0 modifier mods rest i x other h)

  -- what stands behind the modifiers, the name and the parameters of a member
  past_params : (first : ℕ) (w : tree.Word A) (ps : List (declared.Param A)) (rest : List (Node A)) (i : ℕ) (x : Node A)
      → (word w ≡ x → ⊥) → ((p : declared.Param A) → param p ≡ x → ⊥)
      → get_from first (word w ∷ (map param ps ++ rest)) i ≡ Some x → get_from (first + (1 + length ps)) rest i ≡ Some x
  past_params first w ps rest i x not_word not_param h =
      let e : suc first + length ps ≡ first + (1 + length ps) = omega arith in
      subst (λ k. get_from k rest i ≡ Some x) e
      (past_map (suc first) param ps rest i x not_param (past_one first (word w) (map param ps ++ rest) i x not_word h))

  member_exp_same : (m : declared.Member A) (i : ℕ) (x : tree.Exp A) → slice_get (pure.member_children m) i ≡ Some (exp x) → with.member_with_exp m i x ≡ m
  unfolding pure.member_children with.member_with_exp
  member_exp_same (declared.field m mods t w e) i x h =
      let init = pure.maybe (option_map exp e) in
      let typed = past_modifiers mods (type t ∷ (word w ∷ init)) i (exp x) (λ d g. cc) h in
      let named = past_one (length mods) (type t) (word w ∷ init) i (exp x) (λ g. cc) typed in
      let valued = past_one (suc (length mods)) (word w) init i (exp x) (λ g. cc) named in
      let number : suc (suc (length mods)) ≡ length mods + 2 = omega arith in
      ap (declared.field m mods t w) (maybe_same (length mods + 2) e i x (subst (λ k. get_from k init i ≡ Some (exp x)) number valued))
  member_exp_same (declared.constructor m mods w ps None body) i x h = refl
  member_exp_same (declared.constructor m mods w ps (Some args) body) i x h =
      let rest = pure.exps args ++ pure.stmts body in
      let named = past_modifiers mods (word w ∷ (map param ps ++ rest)) i (exp x) (λ d g. cc) h in
      let given = past_params (length mods) w ps rest i (exp x) (λ g. cc) (λ d g. cc) named in
      let first = length mods + (1 + length ps) in
      let found = in_front_from first (pure.exps args) (pure.stmts body) i (exp x) (each-stmts (λ y. y ≡ exp x → ⊥) (λ d g. cc) body) given in
      ap (λ es. declared.constructor m mods w ps (Some es) body) (exps_from_same first args i x found)
  member_exp_same m i x h = refl

  member_stmt_same : (m : declared.Member A) (i : ℕ) (x : statement.Stmt A) → slice_get (pure.member_children m) i ≡ Some (stmt x) → with.member_with_stmt m i x ≡ m
  unfolding pure.member_children with.member_with_stmt
  member_stmt_same (declared.method m mods None w ps body) i x h =
      let rest = pure.stmts body in
      let named = past_modifiers mods (word w ∷ (map param ps ++ rest)) i (stmt x) (λ d g. cc) h in
      let found = past_params (length mods) w ps rest i (stmt x) (λ g. cc) (λ d g. cc) named in
      ap (declared.method m mods None w ps) (stmts_from_same (length mods + (1 + length ps)) body i x found)
  member_stmt_same (declared.method m mods (Some t) w ps body) i x h =
      let rest = pure.stmts body in
      let named_on = word w ∷ (map param ps ++ rest) in
      let typed = past_modifiers mods (type t ∷ named_on) i (stmt x) (λ d g. cc) h in
      let named = past_one (length mods) (type t) named_on i (stmt x) (λ g. cc) typed in
      let found = past_params (suc (length mods)) w ps rest i (stmt x) (λ g. cc) (λ d g. cc) named in
      let number : suc (length mods) + (1 + length ps) ≡ length mods + (2 + length ps) = omega arith in
      ap (declared.method m mods (Some t) w ps)
      (stmts_from_same (length mods + (2 + length ps)) body i x (subst (λ k. get_from k rest i ≡ Some (stmt x)) number found))
  member_stmt_same (declared.constructor m mods w ps args body) i x h =
      let given = pure.args_children args in
      let rest = given ++ pure.stmts body in
      let named = past_modifiers mods (word w ∷ (map param ps ++ rest)) i (stmt x) (λ d g. cc) h in
      let first = length mods + (1 + length ps) in
      let behind = past_params (length mods) w ps rest i (stmt x) (λ g. cc) (λ d g. cc) named in
      let found = past_part first given (pure.stmts body) i (stmt x) (each-args (λ y. y ≡ stmt x → ⊥) (λ d g. cc) args) behind in
      ap (declared.constructor m mods w ps args) (stmts_from_same (first + length given) body i x found)
  member_stmt_same m i x h = refl

  member_class_same : (m : declared.Member A) (i : ℕ) (x : declared.Class A) → slice_get (pure.member_children m) i ≡ Some (class x) → with.member_with_class m i x ≡ m
  unfolding pure.member_children with.member_with_class
  member_class_same (declared.inner m c) zero x h = cc
  member_class_same m i x h = refl

  class_member_same : (c : declared.Class A) (i : ℕ) (x : declared.Member A) → slice_get (pure.class_children c) i ≡ Some (member x) → with.class_with_member c i x ≡ c
  unfolding pure.class_children with.class_with_member
  class_member_same (declared.class m mods w None ms) i x h =
      let named = past_modifiers mods (word w ∷ pure.members ms) i (member x) (λ d g. cc) h in
      let found = past_one (length mods) (word w) (pure.members ms) i (member x) (λ g. cc) named in
      let number : suc (length mods) ≡ length mods + 1 = omega arith in
      ap (declared.class m mods w None)
      (members_from_same (length mods + 1) ms i x (subst (λ k. get_from k (pure.members ms) i ≡ Some (member x)) number found))
  class_member_same (declared.class m mods w (Some t) ms) i x h =
      let typed_on = type t ∷ pure.members ms in
      let named = past_modifiers mods (word w ∷ typed_on) i (member x) (λ d g. cc) h in
      let typed = past_one (length mods) (word w) typed_on i (member x) (λ g. cc) named in
      let found = past_one (suc (length mods)) (type t) (pure.members ms) i (member x) (λ g. cc) typed in
      let number : suc (suc (length mods)) ≡ length mods + 2 = omega arith in
      ap (declared.class m mods w (Some t))
      (members_from_same (length mods + 2) ms i x (subst (λ k. get_from k (pure.members ms) i ≡ Some (member x)) number found))

  unit_class_same : (u : declared.Unit A) (i : ℕ) (x : declared.Class A) → slice_get (map word u.package_name ++ map class u.classes) i ≡ Some (class x)
      → with.unit_with_class u i x ≡ u
  unit_class_same u i x h =
      let first = length u.package_name in
      let e : 0 + first ≡ first = omega arith in
      let found = past_map 0 word u.package_name (map class u.classes) i (class x) (λ w g. cc) h in
      ap (λ (cs : List (declared.Class A)). record u { classes = cs })
      (classes_from_same first u.classes i x (subst (λ k. get_from k (map class u.classes) i ≡ Some (class x)) e found))

  pub child_same : (n c : Node A) (i : ℕ) → child_of n i ≡ Some c → with_child n i c ≡ n
  child_same (exp e) (exp x) i h = ap exp (exp_same e i x h)
  child_same (stmt s) (exp x) i h = ap stmt (stmt_exp_same s i x h)
  child_same (stmt s) (stmt x) i h = ap stmt (stmt_stmt_same s i x h)
  child_same (member m) (exp x) i h = ap member (member_exp_same m i x h)
  child_same (member m) (stmt x) i h = ap member (member_stmt_same m i x h)
  child_same (member m) (class x) i h = ap member (member_class_same m i x h)
  child_same (class c) (member x) i h = ap class (class_member_same c i x h)
  child_same (unit u) (class x) i h = ap unit (unit_class_same u i x h)
  child_same n c i h = refl

  pub with_same : (n c : Node A) (p : List ℕ) → node_at n p ≡ Some c → with_node n p c ≡ n
  unfolding node_at with_node
  with_same n c [] h = sym (same_Some n c h)
  with_same n c (i ∷ p) h = go (child_of n i) refl h (λ d. with_same d c p)
    where
      go : (o : Option (Node A)) → child_of n i ≡ o → option_and_then (λ d. node_at d p) o ≡ Some c
          → ((d : Node A) → node_at d p ≡ Some c → with_node d p c ≡ d)
          → with_found n i (λ d. with_node d p c) o ≡ n
      go None e h below = absurd (none-some c h)
      go (Some d) e h below = ap (with_child n i) (below d h) ∙ child_same n d i e
