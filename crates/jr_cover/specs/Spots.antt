-- Spots: where each node of a tree stands, as marks. A spot has the node's first and last byte and
-- the path that leads to it, so whoever knows something by bytes or by paths finds it by marks.
use Rattle.std.specs.Prelude.{◌≡◌, ℕ, suc, ◌+◌, List, [], ◌∷◌, ◌++◌, length, Option, Some, None}
use Rattle.jr_ast.specs.Tree as tree
use Rattle.jr_ast.specs.StatementTree as statement
use Rattle.jr_ast.specs.MemberTree as declared
use Rattle.jr_ast.specs.Nodes as nodes
use Rattle.jr_ast.specs.Nodes.{node_at, mark_of}

pub record Spot : Type 0 where
  pub first : ℕ
  pub last : ℕ
  pub path : List ℕ

-- the path that goes on to the child of this number
abbrev pub onto : List ℕ → ℕ → List ℕ
onto path i = path ++ i ∷ []

-- begins, ends: the first and the last byte of a node with the mark, whose parent begins at a byte
module _ {A : Type 0} (begins ends : A → ℕ → ℕ) where
  -- base: where the node's parent begins; path: the way to the node
  abbrev pub spot : A → (base : ℕ) → (path : List ℕ) → Spot
  spot m base path = record { first = begins m base; last = ends m base; path = path }

  abbrev pub spot_word : tree.Word A → ℕ → List ℕ → tree.Word Spot
  spot_word w base p = record { mark = spot w.mark base p; text = w.text }

  abbrev pub spot_named : A → Option (tree.Word A) → tree.Word A → ℕ → List ℕ
      → tree.TypeName Spot
  spot_named m None w base p =
      tree.named (spot m base p) None (spot_word w (begins m base) (onto p 0))
  spot_named m (Some o) w base p =
      tree.named (spot m base p) (Some (spot_word o (begins m base) (onto p 0)))
      (spot_word w (begins m base) (onto p 1))

  abbrev pub spot_type : tree.TypeName A → ℕ → List ℕ → tree.TypeName Spot
  spot_type (tree.int m) base p = tree.int (spot m base p)
  spot_type (tree.boolean m) base p = tree.boolean (spot m base p)
  spot_type (tree.named m outer w) base p = spot_named m outer w base p

  unfoldable mutual
    pub spot_exp : tree.Exp A → ℕ → List ℕ → tree.Exp Spot
    spot_exp (tree.number m v) base p = tree.number (spot m base p) v
    spot_exp (tree.truth m v) base p = tree.truth (spot m base p) v
    spot_exp (tree.null m) base p = tree.null (spot m base p)
    spot_exp (tree.string m t) base p = tree.string (spot m base p) t
    spot_exp (tree.name m w) base p =
        tree.name (spot m base p) (spot_word w (begins m base) (onto p 0))
    spot_exp (tree.field m e w) base p =
        tree.field (spot m base p) (spot_exp e (begins m base) (onto p 0))
        (spot_word w (begins m base) (onto p 1))
    spot_exp (tree.super_field m w) base p =
        tree.super_field (spot m base p) (spot_word w (begins m base) (onto p 0))
    spot_exp (tree.this m) base p = tree.this (spot m base p)
    spot_exp (tree.class_literal m t) base p =
        tree.class_literal (spot m base p) (spot_type t (begins m base) (onto p 0))
    spot_exp (tree.call m tree.no_target w args) base p =
        tree.call (spot m base p) tree.no_target (spot_word w (begins m base) (onto p 0))
        (spot_exps args (begins m base) p 1)
    spot_exp (tree.call m (tree.on e) w args) base p =
        tree.call (spot m base p) (tree.on (spot_exp e (begins m base) (onto p 0)))
        (spot_word w (begins m base) (onto p 1)) (spot_exps args (begins m base) p 2)
    spot_exp (tree.super_call m w args) base p =
        tree.super_call (spot m base p) (spot_word w (begins m base) (onto p 0))
        (spot_exps args (begins m base) p 1)
    spot_exp (tree.create m t args) base p =
        tree.create (spot m base p) (spot_type t (begins m base) (onto p 0))
        (spot_exps args (begins m base) p 1)
    spot_exp (tree.paren m e) base p =
        tree.paren (spot m base p) (spot_exp e (begins m base) (onto p 0))
    spot_exp (tree.cast m t e) base p =
        tree.cast (spot m base p) (spot_type t (begins m base) (onto p 0))
        (spot_exp e (begins m base) (onto p 1))
    spot_exp (tree.unary m op e) base p =
        tree.unary (spot m base p) op (spot_exp e (begins m base) (onto p 0))
    spot_exp (tree.bump m op e) base p =
        tree.bump (spot m base p) op (spot_exp e (begins m base) (onto p 0))
    spot_exp (tree.binary m op l r) base p =
        tree.binary (spot m base p) op (spot_exp l (begins m base) (onto p 0))
        (spot_exp r (begins m base) (onto p 1))
    spot_exp (tree.assign m to v) base p =
        tree.assign (spot m base p) (spot_exp to (begins m base) (onto p 0))
        (spot_exp v (begins m base) (onto p 1))
    spot_exp (tree.compound m op to v) base p =
        tree.compound (spot m base p) op (spot_exp to (begins m base) (onto p 0))
        (spot_exp v (begins m base) (onto p 1))

    -- p: the way to the parent; i: the number of the first of them
    pub spot_exps : tree.Exps A → (base : ℕ) → (p : List ℕ) → (i : ℕ) → tree.Exps Spot
    spot_exps tree.end base p i = tree.end
    spot_exps (tree.more e es) base p i =
        tree.more (spot_exp e base (onto p i)) (spot_exps es base p (suc i))

  abbrev pub spot_maybe : Option (tree.Exp A) → ℕ → List ℕ → Option (tree.Exp Spot)
  spot_maybe None base p = None
  spot_maybe (Some e) base p = Some (spot_exp e base p)

  unfoldable mutual
    pub spot_stmt : statement.Stmt A → ℕ → List ℕ → statement.Stmt Spot
    spot_stmt (statement.local m is_final t w e) base p =
        statement.local (spot m base p) is_final (spot_type t (begins m base) (onto p 0))
        (spot_word w (begins m base) (onto p 1)) (spot_exp e (begins m base) (onto p 2))
    spot_stmt (statement.eval m e) base p =
        statement.eval (spot m base p) (spot_exp e (begins m base) (onto p 0))
    spot_stmt (statement.branch m e s other) base p =
        statement.branch (spot m base p) (spot_exp e (begins m base) (onto p 0))
        (spot_stmt s (begins m base) (onto p 1)) (spot_else other (begins m base) (onto p 2))
    spot_stmt (statement.loop m e s) base p =
        statement.loop (spot m base p) (spot_exp e (begins m base) (onto p 0))
        (spot_stmt s (begins m base) (onto p 1))
    spot_stmt (statement.return m e) base p =
        statement.return (spot m base p) (spot_maybe e (begins m base) (onto p 0))
    spot_stmt (statement.block m body) base p =
        statement.block (spot m base p) (spot_stmts body (begins m base) p 0)
    spot_stmt (statement.sync m e body) base p =
        statement.sync (spot m base p) (spot_exp e (begins m base) (onto p 0))
        (spot_stmts body (begins m base) p 1)
    spot_stmt (statement.empty m) base p = statement.empty (spot m base p)

    pub spot_else : statement.Else A → ℕ → List ℕ → statement.Else Spot
    spot_else statement.no_else base p = statement.no_else
    spot_else (statement.otherwise s) base p = statement.otherwise (spot_stmt s base p)

    pub spot_stmts : statement.Stmts A → (base : ℕ) → (p : List ℕ) → (i : ℕ)
        → statement.Stmts Spot
    spot_stmts statement.end base p i = statement.end
    spot_stmts (statement.more s ss) base p i =
        statement.more (spot_stmt s base (onto p i)) (spot_stmts ss base p (suc i))

  -- ---- members: i is the number of the first of a row of children

  abbrev pub spot_modifier : declared.Modifier A → ℕ → List ℕ → declared.Modifier Spot
  spot_modifier m base p = record { mark = spot m.mark base p; word = m.word }

  abbrev pub spot_modifiers : List (declared.Modifier A) → (base : ℕ) → (p : List ℕ) → (i : ℕ)
      → List (declared.Modifier Spot)
  spot_modifiers [] base p i = []
  spot_modifiers (m ∷ ms) base p i =
      spot_modifier m base (onto p i) ∷ spot_modifiers ms base p (suc i)

  abbrev pub spot_param : declared.Param A → ℕ → List ℕ → declared.Param Spot
  spot_param a base p = record {
    mark = spot a.mark base p;
    is_final = a.is_final;
    type = spot_type a.type (begins a.mark base) (onto p 0);
    name = spot_word a.name (begins a.mark base) (onto p 1);
  }

  abbrev pub spot_params : List (declared.Param A) → (base : ℕ) → (p : List ℕ) → (i : ℕ)
      → List (declared.Param Spot)
  spot_params [] base p i = []
  spot_params (a ∷ ps) base p i = spot_param a base (onto p i) ∷ spot_params ps base p (suc i)

  -- a type that may be missing
  abbrev pub spot_result : Option (tree.TypeName A) → (base : ℕ) → (p : List ℕ) → (i : ℕ)
      → Option (tree.TypeName Spot)
  spot_result None base p i = None
  spot_result (Some t) base p i = Some (spot_type t base (onto p i))

  abbrev pub result_count : Option (tree.TypeName A) → ℕ
  result_count None = 0
  result_count (Some t) = 1

  -- the arguments of a written `super(..)`
  abbrev pub spot_args : Option (tree.Exps A) → (base : ℕ) → (p : List ℕ) → (i : ℕ)
      → Option (tree.Exps Spot)
  spot_args None base p i = None
  spot_args (Some es) base p i = Some (spot_exps es base p i)

  abbrev pub exps_count : tree.Exps A → ℕ
  exps_count tree.end = 0
  exps_count (tree.more e es) = suc (exps_count es)

  abbrev pub args_count : Option (tree.Exps A) → ℕ
  args_count None = 0
  args_count (Some es) = exps_count es

  unfoldable mutual
    pub spot_member : declared.Member A → ℕ → List ℕ → declared.Member Spot
    spot_member (declared.field m mods t w init) base p =
        declared.field (spot m base p) (spot_modifiers mods (begins m base) p 0)
        (spot_type t (begins m base) (onto p (length mods)))
        (spot_word w (begins m base) (onto p (suc (length mods))))
        (spot_maybe init (begins m base) (onto p (suc (suc (length mods)))))
    spot_member (declared.method m mods t w ps body) base p =
        declared.method (spot m base p) (spot_modifiers mods (begins m base) p 0)
        (spot_result t (begins m base) p (length mods))
        (spot_word w (begins m base) (onto p (length mods + result_count t)))
        (spot_params ps (begins m base) p (suc (length mods + result_count t)))
        (spot_stmts body (begins m base) p (suc (length mods + result_count t) + length ps))
    spot_member (declared.constructor m mods w ps args body) base p =
        declared.constructor (spot m base p) (spot_modifiers mods (begins m base) p 0)
        (spot_word w (begins m base) (onto p (length mods)))
        (spot_params ps (begins m base) p (suc (length mods)))
        (spot_args args (begins m base) p (suc (length mods) + length ps))
        (spot_stmts body (begins m base) p (suc (length mods) + length ps + args_count args))
    spot_member (declared.inner m c) base p =
        declared.inner (spot m base p) (spot_class c (begins m base) (onto p 0))

    pub spot_class : declared.Class A → ℕ → List ℕ → declared.Class Spot
    spot_class (declared.class m mods w parent ms) base p =
        declared.class (spot m base p) (spot_modifiers mods (begins m base) p 0)
        (spot_word w (begins m base) (onto p (length mods)))
        (spot_result parent (begins m base) p (suc (length mods)))
        (spot_members ms (begins m base) p (suc (length mods) + result_count parent))

    pub spot_members : declared.Members A → (base : ℕ) → (p : List ℕ) → (i : ℕ)
        → declared.Members Spot
    spot_members declared.end base p i = declared.end
    spot_members (declared.more m ms) base p i =
        declared.more (spot_member m base (onto p i)) (spot_members ms base p (suc i))

-- ---- the law

-- The node to which a path leads from a member has that path in its spot, behind the member's own.
abbrev pub SpotsHaveTheirPaths : (A : Type 0) → Type 0
SpotsHaveTheirPaths A = (begins ends : A → ℕ → ℕ) (m : declared.Member A) (base : ℕ)
    (p q : List ℕ) (n : nodes.Node Spot)
    → node_at (nodes.member (spot_member begins ends m base p)) q ≡ Some n
    → (mark_of n).path ≡ p ++ q
