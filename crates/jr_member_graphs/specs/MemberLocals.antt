-- What the trees of a member say of its locals, and what is never null in it.
use Rattle.std.specs.Prelude.{
  ◌≡◌,
  ◌⊎◌,
  ◌↔◌,
  ℕ,
  Bool,
  true,
  List,
  [],
  ◌∷◌,
  ◌++◌,
  map,
  Option,
  Some,
  None,
}
use Rattle.jr_ast.specs.Tree as tree
use Rattle.jr_ast.specs.StatementTree as statement
use Rattle.jr_ast.specs.MemberTree as declared
use Rattle.jr_runs.specs.Keys.{Keys}
use Rattle.jr_cover.specs.Sites.{Known}
use Rattle.jr_cover.specs.NeverNullTrees.{NeverNull}
use Rattle.jr_cover.specs.NeverNullMembers.{MaybeAssigns, ArgsAssign, StmtsAssign}
use Rattle.jr_never_null.specs.Flags.{init_of}

module _ {A : Type 0} where
  -- the initializers of the locals that statements declare, in text order (JLS 14.4)
  unfoldable mutual
    pub stmt_inits : statement.Stmt A → List (tree.Exp A)
    stmt_inits (statement.local m is_final t w e) = e ∷ []
    stmt_inits (statement.eval m e) = []
    stmt_inits (statement.branch m c s o) = stmt_inits s ++ else_inits o
    stmt_inits (statement.loop m c s) = stmt_inits s
    stmt_inits (statement.return m v) = []
    stmt_inits (statement.block m body) = stmts_inits body
    stmt_inits (statement.sync m e body) = stmts_inits body
    stmt_inits (statement.empty m) = []

    pub else_inits : statement.Else A → List (tree.Exp A)
    else_inits statement.no_else = []
    else_inits (statement.otherwise s) = stmt_inits s

    pub stmts_inits : statement.Stmts A → List (tree.Exp A)
    stmts_inits statement.end = []
    stmts_inits (statement.more s ss) = stmt_inits s ++ stmts_inits ss

  -- of parameters, which have none, and behind these of the locals of a body
  abbrev pub body_inits : List (declared.Param A) → statement.Stmts A → List (Option (tree.Exp A))
  body_inits params body = map (λ p. None) params ++ map (λ e. Some e) (stmts_inits body)

  -- What the locals of a member begin with, in the order of their numbers. Those of a member class
  -- are not its own.
  abbrev pub inits : declared.Member A → List (Option (tree.Exp A))
  inits (declared.field m mods t w init) = []
  inits (declared.method m mods t w params body) = body_inits params body
  inits (declared.constructor m mods w params args body) = body_inits params body
  inits (declared.inner m c) = []

-- an assignment, `op=` or bump in the member writes the local; a declaration is none
abbrev pub Assigns : {K : Keys} {A : Type 0} → Known K A → ℕ → declared.Member A → Type 0
Assigns X n (declared.field m mods t w init) = MaybeAssigns X n init
Assigns X n (declared.method m mods t w params body) = StmtsAssign X n body
Assigns X n (declared.constructor m mods w params args body) =
    ArgsAssign X n args ⊎ StmtsAssign X n body
Assigns X n (declared.inner m c) = ⊥

-- The value of an expression in a member is never null: it is `this`, `new`, a string, a class
-- literal, or a local that is never assigned and whose initializer is never null and no local of the
-- same or a higher number; or one of these in parentheses.
pub record NeverNullIn {K : Keys} {A : Type 0} (X : Known K A) (m : declared.Member A)
    (e : tree.Exp A) : Type 0 where
  pub is_assigned : ℕ → Bool
  pub tells : (n : ℕ) → is_assigned n ≡ true ↔ Assigns X n m
  pub never_null : NeverNull X.facts (init_of (inits m)) is_assigned e
