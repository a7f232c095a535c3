-- A write changes the child that it names and no other.
use Rattle.std.proofs.Common.{◌≡◌, ℕ, zero, suc, ◌+◌, List, [], ◌∷◌, length, map, Option, Some, None, option_map, refl, sym, ap, arith}
use Rattle.std.specs.List.{slice_get, slice_set}
use Rattle.jr_ast.specs.Tree as tree
use Rattle.jr_ast.specs.StatementTree as statement
use Rattle.jr_ast.specs.MemberTree as declared
use Rattle.jr_ast.specs.Nodes as pure
use Rattle.jr_ast.specs.Nodes.{Node, unit, class, modifier, word, type, param, member, stmt, exp, child_of, children_of}
use Rattle.jr_paths_nodes.specs.With as with
use Rattle.jr_paths_nodes.specs.With.{with_child, SameKind, OneChildReplaced}
use Rattle.jr_paths_nodes.proofs.Puts.{Put, set_from, set_from-nil, put_always, put_none, put_one, put_part, put_front, put_at, put_map}
use Rattle.jr_paths_nodes.proofs.RowKinds.{each-stmts, each-args, each-maybe, each-one, each-field, each-method, each-constructor}
use Rattle.jr_paths_nodes.proofs.Levels.{child_under}
use Rattle.jr_paths_nodes.proofs.WithLaws.{child_same}
use Rattle.jr_paths_nodes.proofs.WithAgain.{child_again}

module _ {A : Type 0} where
  -- rows
  exps_set : (es : tree.Exps A) (i : ℕ) (x : tree.Exp A) → pure.exps (with.with_exp_among es i x) ≡ slice_set (pure.exps es) i (exp x)
  exps_set tree.end i x = refl
  exps_set (tree.more e es) zero x = refl
  exps_set (tree.more e es) (suc i) x = ap (λ l. exp e ∷ l) (exps_set es i x)

  exps_from_set : (first : ℕ) (es : tree.Exps A) (i : ℕ) (x : tree.Exp A) → pure.exps (with.with_exp_from first es i x) ≡ set_from first (pure.exps es) i (exp x)
  exps_from_set zero es i x = exps_set es i x
  exps_from_set (suc first) es zero x = refl
  exps_from_set (suc first) es (suc i) x = exps_from_set first es i x

  stmts_set : (ss : statement.Stmts A) (i : ℕ) (x : statement.Stmt A) → pure.stmts (with.with_stmt_among ss i x) ≡ slice_set (pure.stmts ss) i (stmt x)
  stmts_set statement.end i x = refl
  stmts_set (statement.more s ss) zero x = refl
  stmts_set (statement.more s ss) (suc i) x = ap (λ l. stmt s ∷ l) (stmts_set ss i x)

  stmts_from_set : (first : ℕ) (ss : statement.Stmts A) (i : ℕ) (x : statement.Stmt A)
      → pure.stmts (with.with_stmt_from first ss i x) ≡ set_from first (pure.stmts ss) i (stmt x)
  stmts_from_set zero ss i x = stmts_set ss i x
  stmts_from_set (suc first) ss zero x = refl
  stmts_from_set (suc first) ss (suc i) x = stmts_from_set first ss i x

  members_set : (ms : declared.Members A) (i : ℕ) (x : declared.Member A) → pure.members (with.with_member_among ms i x) ≡ slice_set (pure.members ms) i (member x)
  members_set declared.end i x = refl
  members_set (declared.more m ms) zero x = refl
  members_set (declared.more m ms) (suc i) x = ap (λ l. member m ∷ l) (members_set ms i x)

  members_from_set : (first : ℕ) (ms : declared.Members A) (i : ℕ) (x : declared.Member A)
      → pure.members (with.with_member_from first ms i x) ≡ set_from first (pure.members ms) i (member x)
  members_from_set zero ms i x = members_set ms i x
  members_from_set (suc first) ms zero x = refl
  members_from_set (suc first) ms (suc i) x = members_from_set first ms i x

  classes_set : (cs : List (declared.Class A)) (i : ℕ) (x : declared.Class A) → map class (slice_set cs i x) ≡ slice_set (map class cs) i (class x)
  classes_set [] i x = refl
  classes_set (c ∷ cs) zero x = refl
  classes_set (c ∷ cs) (suc i) x = ap (λ l. class c ∷ l) (classes_set cs i x)

  classes_from_set : (first : ℕ) (cs : List (declared.Class A)) (i : ℕ) (x : declared.Class A) → map class (with.with_class_from first cs i x) ≡ set_from first (map class cs) i (class x)
  classes_from_set zero cs i x = classes_set cs i x
  classes_from_set (suc first) cs zero x = refl
  classes_from_set (suc first) cs (suc i) x = classes_from_set first cs i x

  maybe_set : (first : ℕ) (e : Option (tree.Exp A)) (i : ℕ) (x : tree.Exp A)
      → pure.maybe (option_map exp (with.with_maybe first e i x)) ≡ set_from first (pure.maybe (option_map exp e)) i (exp x)
  maybe_set first None i x = sym (set_from-nil first i (exp x))
  maybe_set zero (Some e) zero x = refl
  maybe_set zero (Some e) (suc i) x = refl
  maybe_set (suc first) (Some e) zero x = refl
  maybe_set (suc first) (Some e) (suc i) x = maybe_set first (Some e) i x

  else_set : (other : statement.Else A) (i : ℕ) (x : statement.Stmt A) → pure.else_children (with.with_else other i x) ≡ set_from 2 (pure.else_children other) i (stmt x)
  else_set statement.no_else i x = sym (set_from-nil 2 i (stmt x))
  else_set (statement.otherwise s) zero x = refl
  else_set (statement.otherwise s) (suc zero) x = refl
  else_set (statement.otherwise s) (suc (suc zero)) x = refl
  else_set (statement.otherwise s) (suc (suc (suc i))) x = refl

  -- arguments behind a word or a type
  args_set : (y : Node A) (args : tree.Exps A) (i : ℕ) (c x : tree.Exp A) → (y ≡ exp c → ⊥) → slice_get (y ∷ pure.exps args) i ≡ Some (exp c)
      → y ∷ pure.exps (with.with_exp_from 1 args i x) ≡ slice_set (y ∷ pure.exps args) i (exp x)
  args_set y args i c x other h =
      let p : Put 0 (y ∷ pure.exps args) i (exp c) (exp x) (y ∷ pure.exps (with.with_exp_from 1 args i x)) = put_one y other (put_always (exps_from_set 1 args i x)) in
      p.put h

  exp_set : (e : tree.Exp A) (i : ℕ) (c x : tree.Exp A) → slice_get (pure.exp_children e) i ≡ Some (exp c) → pure.exp_children (with.with_exp e i x) ≡ slice_set (pure.exp_children e) i (exp x)
  unfolding pure.exp_children with.with_exp
  exp_set (tree.name m w) zero c x h = absurd cc
  exp_set (tree.name m w) (suc i) c x h = absurd cc
  exp_set (tree.field m e w) zero c x h = refl
  exp_set (tree.field m e w) (suc zero) c x h = absurd cc
  exp_set (tree.super_field m w) zero c x h = absurd cc
  exp_set (tree.super_field m w) (suc i) c x h = absurd cc
  exp_set (tree.class_literal m t) zero c x h = absurd cc
  exp_set (tree.class_literal m t) (suc i) c x h = absurd cc
  exp_set (tree.call m tree.no_target w args) i c x h = args_set (word w) args i c x (λ e. cc) h
  exp_set (tree.call m (tree.on e) w args) zero c x h = refl
  exp_set (tree.call m (tree.on e) w args) (suc i) c x h = ap (λ l. exp e ∷ l) (args_set (word w) args i c x (λ e. cc) h)
  exp_set (tree.super_call m w args) i c x h = args_set (word w) args i c x (λ e. cc) h
  exp_set (tree.create m t args) i c x h = args_set (type t) args i c x (λ e. cc) h
  exp_set (tree.paren m e) zero c x h = refl
  exp_set (tree.cast m t e) (suc zero) c x h = refl
  exp_set (tree.unary m op e) zero c x h = refl
  exp_set (tree.bump m op e) zero c x h = refl
  exp_set (tree.binary m op e f) zero c x h = refl
  exp_set (tree.binary m op e f) (suc zero) c x h = refl
  exp_set (tree.assign m e f) zero c x h = refl
  exp_set (tree.assign m e f) (suc zero) c x h = refl
  exp_set (tree.compound m op e f) zero c x h = refl
  exp_set (tree.compound m op e f) (suc zero) c x h = refl
  exp_set e i c x h = absurd cc

  stmt_exp_set : (s : statement.Stmt A) (i : ℕ) (c x : tree.Exp A) → slice_get (pure.stmt_children s) i ≡ Some (exp c)
      → pure.stmt_children (with.stmt_with_exp s i x) ≡ slice_set (pure.stmt_children s) i (exp x)
  unfolding pure.stmt_children with.stmt_with_exp
  stmt_exp_set (statement.local m f t w e) (suc (suc zero)) c x h = refl
  stmt_exp_set (statement.eval m e) zero c x h = refl
  stmt_exp_set (statement.branch m e s other) zero c x h = refl
  stmt_exp_set (statement.branch m e s other) (suc zero) c x h = absurd cc
  stmt_exp_set (statement.branch m e s statement.no_else) (suc (suc i)) c x h = absurd cc
  stmt_exp_set (statement.branch m e s (statement.otherwise d)) (suc (suc zero)) c x h = absurd cc
  stmt_exp_set (statement.branch m e s (statement.otherwise d)) (suc (suc (suc i))) c x h = absurd cc
  stmt_exp_set (statement.loop m e s) zero c x h = refl
  stmt_exp_set (statement.loop m e s) (suc zero) c x h = absurd cc
  stmt_exp_set (statement.return m e) i c x h = maybe_set 0 e i x
  stmt_exp_set (statement.block m body) i c x h = absurd (each-stmts (λ y. y ≡ exp c → ⊥) (λ s g. cc) body i (exp c) h refl)
  stmt_exp_set (statement.sync m e body) zero c x h = refl
  stmt_exp_set (statement.sync m e body) (suc i) c x h = absurd (each-stmts (λ y. y ≡ exp c → ⊥) (λ s g. cc) body i (exp c) h refl)
  stmt_exp_set s i c x h = absurd cc

  stmt_stmt_set : (s : statement.Stmt A) (i : ℕ) (c x : statement.Stmt A) → slice_get (pure.stmt_children s) i ≡ Some (stmt c)
      → pure.stmt_children (with.stmt_with_stmt s i x) ≡ slice_set (pure.stmt_children s) i (stmt x)
  unfolding pure.stmt_children with.stmt_with_stmt
  stmt_stmt_set (statement.local m f t w e) zero c x h = absurd cc
  stmt_stmt_set (statement.local m f t w e) (suc zero) c x h = absurd cc
  stmt_stmt_set (statement.local m f t w e) (suc (suc zero)) c x h = absurd cc
  stmt_stmt_set (statement.eval m e) zero c x h = absurd cc
  stmt_stmt_set (statement.branch m e s other) zero c x h = absurd cc
  stmt_stmt_set (statement.branch m e s other) (suc zero) c x h = refl
  stmt_stmt_set (statement.branch m e s other) (suc (suc i)) c x h = ap (λ l. exp e ∷ (stmt s ∷ l)) (else_set other (suc (suc i)) x)
  stmt_stmt_set (statement.loop m e s) zero c x h = absurd cc
  stmt_stmt_set (statement.loop m e s) (suc zero) c x h = refl
  stmt_stmt_set (statement.return m e) i c x h = absurd (each-maybe (λ y. y ≡ stmt c → ⊥) exp (λ d g. cc) e i (stmt c) h refl)
  stmt_stmt_set (statement.block m body) i c x h = stmts_set body i x
  stmt_stmt_set (statement.sync m e body) zero c x h = absurd cc
  stmt_stmt_set (statement.sync m e body) (suc i) c x h = ap (λ l. exp e ∷ l) (stmts_set body i x)
  stmt_stmt_set s i c x h = absurd cc

  member_exp_set : (m : declared.Member A) (i : ℕ) (c x : tree.Exp A) → Put 0 (pure.member_children m) i (exp c) (exp x) (pure.member_children (with.member_with_exp m i x))
  unfolding pure.member_children with.member_with_exp
  member_exp_set (declared.field m mods t w e) i c x =
      let number : length mods + 2 ≡ suc (suc (0 + length mods)) = omega arith in
      put_map modifier mods (λ d g. cc) (put_one (type t) (λ g. cc) (put_one (word w) (λ g. cc) (put_at number (put_always (maybe_set (length mods + 2) e i x)))))
  member_exp_set (declared.constructor m mods w ps None body) i c x =
      put_map modifier mods (λ d g. cc) (put_one (word w) (λ g. cc) (put_map param ps (λ d g. cc) (put_none (each-stmts (λ y. y ≡ exp c → ⊥) (λ d g. cc) body))))
  member_exp_set (declared.constructor m mods w ps (Some args) body) i c x =
      let first = length mods + (1 + length ps) in
      let number : first ≡ suc (0 + length mods) + length ps = omega arith in
      put_map modifier mods (λ d g. cc) (put_one (word w) (λ g. cc) (put_map param ps (λ d g. cc)
      (put_front (pure.stmts body) (each-stmts (λ y. y ≡ exp c → ⊥) (λ d g. cc) body) (put_at number (put_always (exps_from_set first args i x))))))
  member_exp_set (declared.method m mods t w ps body) i c x =
      put_none (each-method (λ y. y ≡ exp c → ⊥) (λ d g. cc) (λ d g. cc) (λ d g. cc) (λ d g. cc) (λ d g. cc) mods t w ps body)
  member_exp_set (declared.inner m d) i c x = put_none (each-one (λ y. y ≡ exp c → ⊥) (class d) (λ g. cc))

  member_stmt_set : (m : declared.Member A) (i : ℕ) (c x : statement.Stmt A)
      → Put 0 (pure.member_children m) i (stmt c) (stmt x) (pure.member_children (with.member_with_stmt m i x))
  unfolding pure.member_children with.member_with_stmt
  member_stmt_set (declared.field m mods t w e) i c x = put_none (each-field (λ y. y ≡ stmt c → ⊥) (λ d g. cc) (λ d g. cc) (λ d g. cc) (λ d g. cc) mods t w e)
  member_stmt_set (declared.method m mods None w ps body) i c x =
      let first = length mods + (1 + length ps) in
      let number : first ≡ suc (0 + length mods) + length ps = omega arith in
      put_map modifier mods (λ d g. cc) (put_one (word w) (λ g. cc) (put_map param ps (λ d g. cc) (put_at number (put_always (stmts_from_set first body i x)))))
  member_stmt_set (declared.method m mods (Some t) w ps body) i c x =
      let first = length mods + (2 + length ps) in
      let number : first ≡ suc (suc (0 + length mods)) + length ps = omega arith in
      put_map modifier mods (λ d g. cc) (put_one (type t) (λ g. cc) (put_one (word w) (λ g. cc) (put_map param ps (λ d g. cc)
      (put_at number (put_always (stmts_from_set first body i x))))))
  member_stmt_set (declared.constructor m mods w ps args body) i c x =
      let given = pure.args_children args in
      let first = length mods + (1 + length ps) + length given in
      let number : first ≡ suc (0 + length mods) + length ps + length given = omega arith in
      put_map modifier mods (λ d g. cc) (put_one (word w) (λ g. cc) (put_map param ps (λ d g. cc)
      (put_part given (each-args (λ y. y ≡ stmt c → ⊥) (λ d g. cc) args) (put_at number (put_always (stmts_from_set first body i x))))))
  member_stmt_set (declared.inner m d) i c x = put_none (each-one (λ y. y ≡ stmt c → ⊥) (class d) (λ g. cc))

  member_class_set : (m : declared.Member A) (i : ℕ) (c x : declared.Class A)
      → Put 0 (pure.member_children m) i (class c) (class x) (pure.member_children (with.member_with_class m i x))
  unfolding pure.member_children with.member_with_class
  member_class_set (declared.field m mods t w e) i c x = put_none (each-field (λ y. y ≡ class c → ⊥) (λ d g. cc) (λ d g. cc) (λ d g. cc) (λ d g. cc) mods t w e)
  member_class_set (declared.method m mods t w ps body) i c x =
      put_none (each-method (λ y. y ≡ class c → ⊥) (λ d g. cc) (λ d g. cc) (λ d g. cc) (λ d g. cc) (λ d g. cc) mods t w ps body)
  member_class_set (declared.constructor m mods w ps args body) i c x =
      put_none (each-constructor (λ y. y ≡ class c → ⊥) (λ d g. cc) (λ d g. cc) (λ d g. cc) (λ d g. cc) (λ d g. cc) mods w ps args body)
  member_class_set (declared.inner m d) zero c x = put_always refl
  member_class_set (declared.inner m d) (suc i) c x = put_always refl

  class_member_set : (d : declared.Class A) (i : ℕ) (c x : declared.Member A)
      → Put 0 (pure.class_children d) i (member c) (member x) (pure.class_children (with.class_with_member d i x))
  unfolding pure.class_children with.class_with_member
  class_member_set (declared.class m mods w None ms) i c x =
      let number : length mods + 1 ≡ suc (0 + length mods) = omega arith in
      put_map modifier mods (λ d g. cc) (put_one (word w) (λ g. cc) (put_at number (put_always (members_from_set (length mods + 1) ms i x))))
  class_member_set (declared.class m mods w (Some t) ms) i c x =
      let number : length mods + 2 ≡ suc (suc (0 + length mods)) = omega arith in
      put_map modifier mods (λ d g. cc) (put_one (word w) (λ g. cc) (put_one (type t) (λ g. cc)
      (put_at number (put_always (members_from_set (length mods + 2) ms i x)))))

  unit_class_set : (u : declared.Unit A) (i : ℕ) (c x : declared.Class A)
      → Put 0 (children_of (unit u)) i (class c) (class x) (children_of (unit (with.unit_with_class u i x)))
  unit_class_set u i c x =
      let first = length u.package_name in
      let number : first ≡ 0 + first = omega arith in
      put_map word u.package_name (λ w g. cc) (put_at number (put_always (classes_from_set first u.classes i x)))

  -- by the kind of the child
  exp_child_set : (n : Node A) (c x : tree.Exp A) (i : ℕ) → child_of n i ≡ Some (exp c) → children_of (with_child n i (exp x)) ≡ slice_set (children_of n) i (exp x)
  exp_child_set (exp e) c x i h = exp_set e i c x h
  exp_child_set (stmt s) c x i h = stmt_exp_set s i c x h
  exp_child_set (member m) c x i h = let p = member_exp_set m i c x in p.put h
  exp_child_set n c x i h = absurd (child_under n (exp c) i h)

  stmt_child_set : (n : Node A) (c x : statement.Stmt A) (i : ℕ) → child_of n i ≡ Some (stmt c) → children_of (with_child n i (stmt x)) ≡ slice_set (children_of n) i (stmt x)
  stmt_child_set (stmt s) c x i h = stmt_stmt_set s i c x h
  stmt_child_set (member m) c x i h = let p = member_stmt_set m i c x in p.put h
  stmt_child_set n c x i h = absurd (child_under n (stmt c) i h)

  member_child_set : (n : Node A) (c x : declared.Member A) (i : ℕ) → child_of n i ≡ Some (member c) → children_of (with_child n i (member x)) ≡ slice_set (children_of n) i (member x)
  member_child_set (class d) c x i h = let p = class_member_set d i c x in p.put h
  member_child_set n c x i h = absurd (child_under n (member c) i h)

  class_child_set : (n : Node A) (c x : declared.Class A) (i : ℕ) → child_of n i ≡ Some (class c) → children_of (with_child n i (class x)) ≡ slice_set (children_of n) i (class x)
  class_child_set (member m) c x i h = let p = member_class_set m i c x in p.put h
  class_child_set (unit u) c x i h = let p = unit_class_set u i c x in p.put h
  class_child_set n c x i h = absurd (child_under n (class c) i h)

  -- the node at that number is x, and each other child is as before
  pub child_set : (n c x : Node A) (i : ℕ) → child_of n i ≡ Some c → SameKind c x → children_of (with_child n i x) ≡ slice_set (children_of n) i x
  child_set n (exp c) (exp x) i h same = exp_child_set n c x i h
  child_set n (stmt c) (stmt x) i h same = stmt_child_set n c x i h
  child_set n (member c) (member x) i h same = member_child_set n c x i h
  child_set n (class c) (class x) i h same = class_child_set n c x i h
  child_set n c x i h same = absurd same

pub one_child_replaced : {A : Type 0} → OneChildReplaced A
one_child_replaced = record { others = child_set; same = child_same; again = child_again }
