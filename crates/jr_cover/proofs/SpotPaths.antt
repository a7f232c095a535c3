-- Each node of a spotted tree has in its spot the path that leads to it: by induction on the path,
-- each step by the row of a node's children, whose spots have the numbers of the row.
use Rattle.std.proofs.Common.{◌≡◌, ℕ, zero, suc, ◌+◌, List, [], ◌∷◌, ◌++◌, length, map, Option, Some, None, option_map, refl, sym, ap, subst, arith, append_assoc, append-nil}
use Rattle.std.specs.Prelude.{option_and_then}
use Rattle.std.specs.List.{slice_get}
use Rattle.jr_ast.specs.Tree as tree
use Rattle.jr_ast.specs.StatementTree as statement
use Rattle.jr_ast.specs.MemberTree as declared
use Rattle.jr_ast.specs.Nodes as nodes
use Rattle.jr_ast.specs.Nodes.{Node, mark_of, exps, stmts, members, maybe, type_children, target_children, exp_children, else_children, stmt_children, args_children, member_children, class_children, children_of, child_of, node_at}
use Rattle.jr_cover.specs.Spots.{Spot, onto, spot_word, spot_named, spot_type, spot_exp, spot_exps, spot_maybe, spot_stmt, spot_else, spot_stmts, spot_modifier, spot_modifiers, spot_param, spot_params, spot_result, result_count, spot_args, exps_count, args_count, spot_member, spot_class, spot_members, SpotsHaveTheirPaths}
use Rattle.jr_cover.proofs.Apart.{none_some, same_one}

module _ {A : Type 0} (begins ends : A → ℕ → ℕ) where
  -- a node with its spots, whose path is this
  data At : List ℕ → Node Spot → Type 0 where
    modifier_at : (m : declared.Modifier A) (b : ℕ) (p : List ℕ) → At p (nodes.modifier (spot_modifier begins ends m b p))
    word_at : (w : tree.Word A) (b : ℕ) (p : List ℕ) → At p (nodes.word (spot_word begins ends w b p))
    type_at : (t : tree.TypeName A) (b : ℕ) (p : List ℕ) → At p (nodes.type (spot_type begins ends t b p))
    param_at : (a : declared.Param A) (b : ℕ) (p : List ℕ) → At p (nodes.param (spot_param begins ends a b p))
    exp_at : (e : tree.Exp A) (b : ℕ) (p : List ℕ) → At p (nodes.exp (spot_exp begins ends e b p))
    stmt_at : (s : statement.Stmt A) (b : ℕ) (p : List ℕ) → At p (nodes.stmt (spot_stmt begins ends s b p))
    member_at : (m : declared.Member A) (b : ℕ) (p : List ℕ) → At p (nodes.member (spot_member begins ends m b p))
    class_at : (c : declared.Class A) (b : ℕ) (p : List ℕ) → At p (nodes.class (spot_class begins ends c b p))

  -- a row of children of the node at p, of which the first has the number k
  abbrev Row : ℕ → List ℕ → List (Node Spot) → Type 0
  Row k p [] = Unit {0}
  Row k p (n ∷ ns) = At (onto p k) n × Row (suc k) p ns

  row_get : (ns : List (Node Spot)) (k i j : ℕ) (p : List ℕ) (n : Node Spot) → j ≡ k + i → Row k p ns → slice_get ns i ≡ Some n → At (onto p j) n
  row_get [] k i j p n e r g = none_some n g
  row_get (m ∷ ns) k zero j p n e r g =
      let h : j ≡ k = omega (arith, e) in
      subst (λ x. At (onto p x) n) (sym h) (subst (λ x. At (onto p k) x) (same_one m n g) r.0)
  row_get (m ∷ ns) k (suc i) j p n e r g = row_get ns (suc k) i j p n (omega (arith, e)) r.1 g

  -- one row behind another
  row_behind : (ns ms : List (Node Spot)) (k m : ℕ) (p : List ℕ) → m ≡ k + length ns → Row k p ns → Row m p ms → Row k p (ns ++ ms)
  row_behind [] ms k m p e r s = let h : m ≡ k = omega (arith, e) in subst (λ x. Row x p ms) h s
  row_behind (n ∷ ns) ms k m p e r s = (r.0, row_behind ns ms (suc k) m p (omega (arith, e)) r.1 s)

  -- ---- rows of like nodes, and how long they are

  modifiers_row : (ms : List (declared.Modifier A)) (b : ℕ) (p : List ℕ) (i : ℕ) → Row i p (map nodes.modifier (spot_modifiers begins ends ms b p i))
  modifiers_row [] b p i = tt
  modifiers_row (m ∷ ms) b p i = (modifier_at m b (onto p i), modifiers_row ms b p (suc i))

  modifiers_long : (ms : List (declared.Modifier A)) (b : ℕ) (p : List ℕ) (i : ℕ) → length (map nodes.modifier (spot_modifiers begins ends ms b p i)) ≡ length ms
  modifiers_long [] b p i = refl
  modifiers_long (m ∷ ms) b p i = ap suc (modifiers_long ms b p (suc i))

  params_row : (ps : List (declared.Param A)) (b : ℕ) (p : List ℕ) (i : ℕ) → Row i p (map nodes.param (spot_params begins ends ps b p i))
  params_row [] b p i = tt
  params_row (a ∷ ps) b p i = (param_at a b (onto p i), params_row ps b p (suc i))

  params_long : (ps : List (declared.Param A)) (b : ℕ) (p : List ℕ) (i : ℕ) → length (map nodes.param (spot_params begins ends ps b p i)) ≡ length ps
  params_long [] b p i = refl
  params_long (a ∷ ps) b p i = ap suc (params_long ps b p (suc i))

  result_row : (t : Option (tree.TypeName A)) (b : ℕ) (p : List ℕ) (i : ℕ) → Row i p (maybe (option_map nodes.type (spot_result begins ends t b p i)))
  result_row None b p i = tt
  result_row (Some t) b p i = (type_at t b (onto p i), tt)

  result_long : (t : Option (tree.TypeName A)) (b : ℕ) (p : List ℕ) (i : ℕ) → length (maybe (option_map nodes.type (spot_result begins ends t b p i))) ≡ result_count begins ends t
  result_long None b p i = refl
  result_long (Some t) b p i = refl

  exps_row : (es : tree.Exps A) (b : ℕ) (p : List ℕ) (i : ℕ) → Row i p (exps (spot_exps begins ends es b p i))
  unfolding spot_exps
  exps_row tree.end b p i = tt
  exps_row (tree.more e es) b p i = (exp_at e b (onto p i), exps_row es b p (suc i))

  exps_long : (es : tree.Exps A) (b : ℕ) (p : List ℕ) (i : ℕ) → length (exps (spot_exps begins ends es b p i)) ≡ exps_count begins ends es
  unfolding spot_exps
  exps_long tree.end b p i = refl
  exps_long (tree.more e es) b p i = ap suc (exps_long es b p (suc i))

  args_row : (args : Option (tree.Exps A)) (b : ℕ) (p : List ℕ) (i : ℕ) → Row i p (args_children (spot_args begins ends args b p i))
  args_row None b p i = tt
  args_row (Some es) b p i = exps_row es b p i

  args_long : (args : Option (tree.Exps A)) (b : ℕ) (p : List ℕ) (i : ℕ) → length (args_children (spot_args begins ends args b p i)) ≡ args_count begins ends args
  args_long None b p i = refl
  args_long (Some es) b p i = exps_long es b p i

  maybe_row : (e : Option (tree.Exp A)) (b : ℕ) (p : List ℕ) (i : ℕ) → Row i p (maybe (option_map nodes.exp (spot_maybe begins ends e b (onto p i))))
  maybe_row None b p i = tt
  maybe_row (Some e) b p i = (exp_at e b (onto p i), tt)

  stmts_row : (ss : statement.Stmts A) (b : ℕ) (p : List ℕ) (i : ℕ) → Row i p (stmts (spot_stmts begins ends ss b p i))
  unfolding spot_stmts
  stmts_row statement.end b p i = tt
  stmts_row (statement.more s ss) b p i = (stmt_at s b (onto p i), stmts_row ss b p (suc i))

  members_row : (ms : declared.Members A) (b : ℕ) (p : List ℕ) (i : ℕ) → Row i p (members (spot_members begins ends ms b p i))
  unfolding spot_members
  members_row declared.end b p i = tt
  members_row (declared.more m ms) b p i = (member_at m b (onto p i), members_row ms b p (suc i))

  -- ---- the children of each kind of node

  named_row : (m : A) (outer : Option (tree.Word A)) (w : tree.Word A) (b : ℕ) (p : List ℕ) → Row 0 p (type_children (spot_named begins ends m outer w b p))
  named_row m None w b p = (word_at w (begins m b) (onto p 0), tt)
  named_row m (Some o) w b p = (word_at o (begins m b) (onto p 0), (word_at w (begins m b) (onto p 1), tt))

  type_row : (t : tree.TypeName A) (b : ℕ) (p : List ℕ) → Row 0 p (type_children (spot_type begins ends t b p))
  type_row (tree.int m) b p = tt
  type_row (tree.boolean m) b p = tt
  type_row (tree.named m outer w) b p = named_row m outer w b p

  exp_row : (e : tree.Exp A) (b : ℕ) (p : List ℕ) → Row 0 p (exp_children (spot_exp begins ends e b p))
  unfolding exp_children spot_exp
  exp_row (tree.number m v) b p = tt
  exp_row (tree.truth m v) b p = tt
  exp_row (tree.null m) b p = tt
  exp_row (tree.string m t) b p = tt
  exp_row (tree.name m w) b p = (word_at w (begins m b) (onto p 0), tt)
  exp_row (tree.field m e w) b p = (exp_at e (begins m b) (onto p 0), (word_at w (begins m b) (onto p 1), tt))
  exp_row (tree.super_field m w) b p = (word_at w (begins m b) (onto p 0), tt)
  exp_row (tree.this m) b p = tt
  exp_row (tree.class_literal m t) b p = (type_at t (begins m b) (onto p 0), tt)
  exp_row (tree.call m tree.no_target w args) b p = (word_at w (begins m b) (onto p 0), exps_row args (begins m b) p 1)
  exp_row (tree.call m (tree.on e) w args) b p = (exp_at e (begins m b) (onto p 0), (word_at w (begins m b) (onto p 1), exps_row args (begins m b) p 2))
  exp_row (tree.super_call m w args) b p = (word_at w (begins m b) (onto p 0), exps_row args (begins m b) p 1)
  exp_row (tree.create m t args) b p = (type_at t (begins m b) (onto p 0), exps_row args (begins m b) p 1)
  exp_row (tree.paren m e) b p = (exp_at e (begins m b) (onto p 0), tt)
  exp_row (tree.cast m t e) b p = (type_at t (begins m b) (onto p 0), (exp_at e (begins m b) (onto p 1), tt))
  exp_row (tree.unary m op e) b p = (exp_at e (begins m b) (onto p 0), tt)
  exp_row (tree.bump m op e) b p = (exp_at e (begins m b) (onto p 0), tt)
  exp_row (tree.binary m op l r) b p = (exp_at l (begins m b) (onto p 0), (exp_at r (begins m b) (onto p 1), tt))
  exp_row (tree.assign m to v) b p = (exp_at to (begins m b) (onto p 0), (exp_at v (begins m b) (onto p 1), tt))
  exp_row (tree.compound m op to v) b p = (exp_at to (begins m b) (onto p 0), (exp_at v (begins m b) (onto p 1), tt))

  stmt_row : (s : statement.Stmt A) (b : ℕ) (p : List ℕ) → Row 0 p (stmt_children (spot_stmt begins ends s b p))
  unfolding stmt_children spot_stmt spot_else
  stmt_row (statement.local m is_final t w e) b p = (type_at t (begins m b) (onto p 0), (word_at w (begins m b) (onto p 1), (exp_at e (begins m b) (onto p 2), tt)))
  stmt_row (statement.eval m e) b p = (exp_at e (begins m b) (onto p 0), tt)
  stmt_row (statement.branch m e s statement.no_else) b p = (exp_at e (begins m b) (onto p 0), (stmt_at s (begins m b) (onto p 1), tt))
  stmt_row (statement.branch m e s (statement.otherwise z)) b p = (exp_at e (begins m b) (onto p 0), (stmt_at s (begins m b) (onto p 1), (stmt_at z (begins m b) (onto p 2), tt)))
  stmt_row (statement.loop m e s) b p = (exp_at e (begins m b) (onto p 0), (stmt_at s (begins m b) (onto p 1), tt))
  stmt_row (statement.return m None) b p = tt
  stmt_row (statement.return m (Some e)) b p = (exp_at e (begins m b) (onto p 0), tt)
  stmt_row (statement.block m body) b p = stmts_row body (begins m b) p 0
  stmt_row (statement.sync m e body) b p = (exp_at e (begins m b) (onto p 0), stmts_row body (begins m b) p 1)
  stmt_row (statement.empty m) b p = tt

  -- behind the modifiers
  behind_modifiers : (mods : List (declared.Modifier A)) (b : ℕ) (p : List ℕ) (ns : List (Node Spot)) → Row (length mods) p ns → Row 0 p (map nodes.modifier (spot_modifiers begins ends mods b p 0) ++ ns)
  behind_modifiers mods b p ns r =
      let e = modifiers_long mods b p 0 in
      row_behind (map nodes.modifier (spot_modifiers begins ends mods b p 0)) ns 0 (length mods) p (omega (arith, e)) (modifiers_row mods b p 0) r

  behind_result : (t : Option (tree.TypeName A)) (b : ℕ) (p : List ℕ) (k : ℕ) (ns : List (Node Spot)) → Row (k + result_count begins ends t) p ns → Row k p (maybe (option_map nodes.type (spot_result begins ends t b p k)) ++ ns)
  behind_result t b p k ns r =
      let e = result_long t b p k in
      row_behind (maybe (option_map nodes.type (spot_result begins ends t b p k))) ns k (k + result_count begins ends t) p (omega (arith, e)) (result_row t b p k) r

  behind_params : (ps : List (declared.Param A)) (b : ℕ) (p : List ℕ) (k : ℕ) (ns : List (Node Spot)) → Row (k + length ps) p ns → Row k p (map nodes.param (spot_params begins ends ps b p k) ++ ns)
  behind_params ps b p k ns r =
      let e = params_long ps b p k in
      row_behind (map nodes.param (spot_params begins ends ps b p k)) ns k (k + length ps) p (omega (arith, e)) (params_row ps b p k) r

  behind_args : (args : Option (tree.Exps A)) (b : ℕ) (p : List ℕ) (k : ℕ) (ns : List (Node Spot)) → Row (k + args_count begins ends args) p ns → Row k p (args_children (spot_args begins ends args b p k) ++ ns)
  behind_args args b p k ns r =
      let e = args_long args b p k in
      row_behind (args_children (spot_args begins ends args b p k)) ns k (k + args_count begins ends args) p (omega (arith, e)) (args_row args b p k) r

  member_row : (m : declared.Member A) (b : ℕ) (p : List ℕ) → Row 0 p (member_children (spot_member begins ends m b p))
  unfolding member_children spot_member
  member_row (declared.field m mods t w init) b p =
      let k = length mods in
      let ns = nodes.type (spot_type begins ends t (begins m b) (onto p k)) ∷ (nodes.word (spot_word begins ends w (begins m b) (onto p (suc k))) ∷ maybe (option_map nodes.exp (spot_maybe begins ends init (begins m b) (onto p (suc (suc k)))))) in
      behind_modifiers mods (begins m b) p ns
      (type_at t (begins m b) (onto p k), (word_at w (begins m b) (onto p (suc k)), maybe_row init (begins m b) p (suc (suc k))))
  member_row (declared.method m mods t w ps body) b p =
      let k = length mods + result_count begins ends t in
      let ss = stmts (spot_stmts begins ends body (begins m b) p (suc k + length ps)) in
      let behind_name = map nodes.param (spot_params begins ends ps (begins m b) p (suc k)) ++ ss in
      let from_name = nodes.word (spot_word begins ends w (begins m b) (onto p k)) ∷ behind_name in
      behind_modifiers mods (begins m b) p (maybe (option_map nodes.type (spot_result begins ends t (begins m b) p (length mods))) ++ from_name)
      (behind_result t (begins m b) p (length mods) from_name
      (word_at w (begins m b) (onto p k), behind_params ps (begins m b) p (suc k) ss (stmts_row body (begins m b) p (suc k + length ps))))
  member_row (declared.constructor m mods w ps args body) b p =
      let k = length mods in
      let ss = stmts (spot_stmts begins ends body (begins m b) p (suc k + length ps + args_count begins ends args)) in
      let from_args = args_children (spot_args begins ends args (begins m b) p (suc k + length ps)) ++ ss in
      let behind_name = map nodes.param (spot_params begins ends ps (begins m b) p (suc k)) ++ from_args in
      behind_modifiers mods (begins m b) p (nodes.word (spot_word begins ends w (begins m b) (onto p k)) ∷ behind_name)
      (word_at w (begins m b) (onto p k), behind_params ps (begins m b) p (suc k) from_args (behind_args args (begins m b) p (suc k + length ps) ss (stmts_row body (begins m b) p (suc k + length ps + args_count begins ends args))))
  member_row (declared.inner m c) b p = (class_at c (begins m b) (onto p 0), tt)

  class_row : (c : declared.Class A) (b : ℕ) (p : List ℕ) → Row 0 p (class_children (spot_class begins ends c b p))
  unfolding class_children spot_class
  class_row (declared.class m mods w parent ms) b p =
      let k = length mods in
      let all = members (spot_members begins ends ms (begins m b) p (suc k + result_count begins ends parent)) in
      let behind_name = maybe (option_map nodes.type (spot_result begins ends parent (begins m b) p (suc k))) ++ all in
      behind_modifiers mods (begins m b) p (nodes.word (spot_word begins ends w (begins m b) (onto p k)) ∷ behind_name)
      (word_at w (begins m b) (onto p k), behind_result parent (begins m b) p (suc k) all (members_row ms (begins m b) p (suc k + result_count begins ends parent)))

  -- ---- along a path

  child_at : (p : List ℕ) (n : Node Spot) → At p n → (i : ℕ) (c : Node Spot) → child_of n i ≡ Some c → At (onto p i) c
  child_at _ _ (modifier_at m b p) i c g = none_some c g
  child_at _ _ (word_at w b p) i c g = none_some c g
  child_at _ _ (type_at t b p) i c g = row_get (type_children (spot_type begins ends t b p)) 0 i i p c (omega arith) (type_row t b p) g
  child_at _ _ (param_at a b p) i c g = row_get (children_of (nodes.param (spot_param begins ends a b p))) 0 i i p c (omega arith) (type_at a.type (begins a.mark b) (onto p 0), (word_at a.name (begins a.mark b) (onto p 1), tt)) g
  child_at _ _ (exp_at e b p) i c g = row_get (exp_children (spot_exp begins ends e b p)) 0 i i p c (omega arith) (exp_row e b p) g
  child_at _ _ (stmt_at s b p) i c g = row_get (stmt_children (spot_stmt begins ends s b p)) 0 i i p c (omega arith) (stmt_row s b p) g
  child_at _ _ (member_at m b p) i c g = row_get (member_children (spot_member begins ends m b p)) 0 i i p c (omega arith) (member_row m b p) g
  child_at _ _ (class_at k b p) i c g = row_get (class_children (spot_class begins ends k b p)) 0 i i p c (omega arith) (class_row k b p) g

  -- the child that there is, and what it leads to
  by_child : (o : Option (Node Spot)) (f : Node Spot → Option (Node Spot)) (n : Node Spot) (q : List ℕ) → ((c : Node Spot) → o ≡ Some c → f c ≡ Some n → At q n) → option_and_then f o ≡ Some n → At q n
  by_child None f n q h g = none_some n g
  by_child (Some c) f n q h g = h c refl g

  led : (q p : List ℕ) (m : Node Spot) → At p m → (n : Node Spot) → node_at m q ≡ Some n → At (p ++ q) n
  unfolding node_at
  led [] p m a n g = subst (λ x. At x n) (sym (append-nil p)) (subst (λ x. At p x) (same_one m n g) a)
  led (i ∷ q) p m a n g = subst (λ x. At x n) (append_assoc p (i ∷ []) q) (by_child (child_of m i) (λ c. node_at c q) n (onto p i ++ q) (λ c e h. led q (onto p i) c (child_at p m a i c e) n h) g)

  named_path : (m : A) (outer : Option (tree.Word A)) (w : tree.Word A) (b : ℕ) (p : List ℕ) → (mark_of (nodes.type (spot_named begins ends m outer w b p))).path ≡ p
  named_path m None w b p = refl
  named_path m (Some o) w b p = refl

  type_path : (t : tree.TypeName A) (b : ℕ) (p : List ℕ) → (mark_of (nodes.type (spot_type begins ends t b p))).path ≡ p
  type_path (tree.int m) b p = refl
  type_path (tree.boolean m) b p = refl
  type_path (tree.named m outer w) b p = named_path m outer w b p

  exp_path : (e : tree.Exp A) (b : ℕ) (p : List ℕ) → (mark_of (nodes.exp (spot_exp begins ends e b p))).path ≡ p
  unfolding spot_exp
  exp_path (tree.number m v) b p = refl
  exp_path (tree.truth m v) b p = refl
  exp_path (tree.null m) b p = refl
  exp_path (tree.string m t) b p = refl
  exp_path (tree.name m w) b p = refl
  exp_path (tree.field m e w) b p = refl
  exp_path (tree.super_field m w) b p = refl
  exp_path (tree.this m) b p = refl
  exp_path (tree.class_literal m t) b p = refl
  exp_path (tree.call m tree.no_target w args) b p = refl
  exp_path (tree.call m (tree.on e) w args) b p = refl
  exp_path (tree.super_call m w args) b p = refl
  exp_path (tree.create m t args) b p = refl
  exp_path (tree.paren m e) b p = refl
  exp_path (tree.cast m t e) b p = refl
  exp_path (tree.unary m op e) b p = refl
  exp_path (tree.bump m op e) b p = refl
  exp_path (tree.binary m op l r) b p = refl
  exp_path (tree.assign m to v) b p = refl
  exp_path (tree.compound m op to v) b p = refl

  stmt_path : (s : statement.Stmt A) (b : ℕ) (p : List ℕ) → (mark_of (nodes.stmt (spot_stmt begins ends s b p))).path ≡ p
  unfolding spot_stmt
  stmt_path (statement.local m is_final t w e) b p = refl
  stmt_path (statement.eval m e) b p = refl
  stmt_path (statement.branch m e s other) b p = refl
  stmt_path (statement.loop m e s) b p = refl
  stmt_path (statement.return m e) b p = refl
  stmt_path (statement.block m body) b p = refl
  stmt_path (statement.sync m e body) b p = refl
  stmt_path (statement.empty m) b p = refl

  member_path : (m : declared.Member A) (b : ℕ) (p : List ℕ) → (mark_of (nodes.member (spot_member begins ends m b p))).path ≡ p
  unfolding spot_member
  member_path (declared.field m mods t w init) b p = refl
  member_path (declared.method m mods t w ps body) b p = refl
  member_path (declared.constructor m mods w ps args body) b p = refl
  member_path (declared.inner m c) b p = refl

  class_path : (c : declared.Class A) (b : ℕ) (p : List ℕ) → (mark_of (nodes.class (spot_class begins ends c b p))).path ≡ p
  unfolding spot_class
  class_path (declared.class m mods w parent ms) b p = refl

  its_path : (p : List ℕ) (n : Node Spot) → At p n → (mark_of n).path ≡ p
  its_path _ _ (modifier_at m b p) = refl
  its_path _ _ (word_at w b p) = refl
  its_path _ _ (type_at t b p) = type_path t b p
  its_path _ _ (param_at a b p) = refl
  its_path _ _ (exp_at e b p) = exp_path e b p
  its_path _ _ (stmt_at s b p) = stmt_path s b p
  its_path _ _ (member_at m b p) = member_path m b p
  its_path _ _ (class_at c b p) = class_path c b p

pub spots_have_their_paths : {A : Type 0} → SpotsHaveTheirPaths A
spots_have_their_paths begins ends m base p q n g = its_path begins ends (p ++ q) n (led begins ends q p (nodes.member (spot_member begins ends m base p)) (member_at m base p) n g)
