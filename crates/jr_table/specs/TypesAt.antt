-- The type of the expression to which a path leads from a member: the steps are the numbers of
-- children (`jr_ast: Nodes`).
use Rattle.std.specs.Prelude.{
  ◌≡◌,
  ℕ,
  zero,
  suc,
  ◌+◌,
  List,
  [],
  ◌∷◌,
  length,
  Option,
  Some,
  None,
  true,
  false,
  ◌⊎◌,
}
use Rattle.jr_ast.specs.Tree as tree
use Rattle.jr_ast.specs.StatementTree as statement
use Rattle.jr_ast.specs.MemberTree as syntax
use Rattle.jr_ast.specs.Nodes.{exp, exp_at}
use Rattle.jr_table.specs.Keys.{Ty}
use Rattle.jr_table.specs.Decls.{MemberKey}
use Rattle.jr_table.specs.Rows.{Row}
use Rattle.jr_table.specs.Context.{Context, local_of, in_own, after, locals_in}
use Rattle.jr_table.specs.Binding.{HasType}
use Rattle.jr_table.specs.HeadRules.{plain, with_parameters, is_static_member}

module _ {A : Type 0} (rows : List Row) where
  -- the path leads from the expression to one that has the type; what is known is the same in all
  -- its parts
  abbrev pub TypeBelow : Context → tree.Exp A → List ℕ → Ty → Type 0
  TypeBelow c e path t = (x : tree.Exp A) × (exp_at (exp e) path ≡ Some x) × HasType rows c x t

  abbrev pub TypeInMaybe : Context → Option (tree.Exp A) → (step : ℕ) → List ℕ → Ty → Type 0
  TypeInMaybe c (Some e) zero path t = TypeBelow c e path t
  TypeInMaybe c _ _ path t = ⊥

  abbrev pub TypeInRow : Context → tree.Exps A → (step : ℕ) → List ℕ → Ty → Type 0
  TypeInRow c tree.end step path t = ⊥
  TypeInRow c (tree.more e es) zero path t = TypeBelow c e path t
  TypeInRow c (tree.more e es) (suc step) path t = TypeInRow c es step path t

  unfoldable mutual
    -- a path from a statement, where the next local has this number
    pub TypeInStmt : (number : ℕ) → Context → statement.Stmt A → List ℕ → Ty → Type 0
    TypeInStmt number c (statement.local m f u w e) (suc (suc zero) ∷ path) t =
        TypeBelow (in_own c (local_of c number f u w)) e path t
    TypeInStmt number c (statement.eval m e) (zero ∷ path) t = TypeBelow c e path t
    TypeInStmt number c (statement.branch m e x other) (zero ∷ path) t = TypeBelow c e path t
    TypeInStmt number c (statement.branch m e x other) (suc zero ∷ path) t =
        TypeInStmt number c x path t
    TypeInStmt number c (statement.branch m e x other) (suc (suc zero) ∷ path) t =
        TypeInElse (number + locals_in x) c other path t
    TypeInStmt number c (statement.loop m e x) (zero ∷ path) t = TypeBelow c e path t
    TypeInStmt number c (statement.loop m e x) (suc zero ∷ path) t = TypeInStmt number c x path t
    TypeInStmt number c (statement.return m (Some e)) (zero ∷ path) t = TypeBelow c e path t
    TypeInStmt number c (statement.block m body) (step ∷ path) t =
        TypeInStmts number c body step path t
    TypeInStmt number c (statement.sync m e body) (zero ∷ path) t = TypeBelow c e path t
    TypeInStmt number c (statement.sync m e body) (suc step ∷ path) t =
        TypeInStmts number c body step path t
    TypeInStmt number c _ _ t = ⊥

    pub TypeInElse : (number : ℕ) → Context → statement.Else A → List ℕ → Ty → Type 0
    TypeInElse number c statement.no_else path t = ⊥
    TypeInElse number c (statement.otherwise x) path t = TypeInStmt number c x path t

    pub TypeInStmts : (number : ℕ) → Context → statement.Stmts A → (step : ℕ) → List ℕ → Ty → Type 0
    TypeInStmts number c statement.end step path t = ⊥
    TypeInStmts number c (statement.more x xs) zero path t = TypeInStmt number c x path t
    TypeInStmts number c (statement.more x xs) (suc step) path t =
        TypeInStmts (number + locals_in x) (after number c x) xs step path t

  -- the parts of a written `super(..)` stand before those of the body
  abbrev pub count_args : tree.Exps A → ℕ
  count_args tree.end = 0
  count_args (tree.more e es) = suc (count_args es)

  abbrev pub count_super : Option (tree.Exps A) → ℕ
  count_super None = 0
  count_super (Some args) = count_args args

  abbrev pub TypeInSuper : Context → Option (tree.Exps A) → (step : ℕ) → List ℕ → Ty → Type 0
  TypeInSuper c None step path t = ⊥
  TypeInSuper c (Some args) step path t = TypeInRow c args step path t

  abbrev pub count_type : Option (tree.TypeName A) → ℕ
  count_type None = 0
  count_type (Some u) = 1

-- a path leads from a member to an expression that has the type
module _ {A : Type 0} (begins : A → ℕ → ℕ) (rows : List Row) where
  abbrev pub TypeAt : MemberKey → syntax.Member A → List ℕ → Ty → Type 0
  TypeAt k x [] t = ⊥
  TypeAt k (syntax.field m mods u w init) (first ∷ path) t = (step : ℕ)
      × (first ≡ length mods + 2 + step) × TypeInMaybe rows (plain k (is_static_member begins mods))
      init step path t
  TypeAt k (syntax.method m mods u w ps body) (first ∷ path) t =
      (step : ℕ) × (first ≡ length mods + count_type rows u + 1 + length ps + step)
      × TypeInStmts rows (length ps) (with_parameters k (is_static_member begins mods) ps) body step
      path t
  TypeAt k (syntax.constructor m mods w ps args body) (first ∷ path) t =
      ((step : ℕ) × (first ≡ length mods + 1 + length ps + step)
      × TypeInSuper rows (with_parameters k true ps) args step path t)
      ⊎ ((step : ℕ) × (first ≡ length mods + 1 + length ps + count_super rows args + step)
      × TypeInStmts rows (length ps) (with_parameters k false ps) body step path t)
  TypeAt k (syntax.inner m of) (first ∷ path) t = ⊥
