-- The laws on resolved code, as statements.
use Rattle.std.specs.Prelude.{◌≡◌, ◌↔◌, ℕ, Bool, true, List}
use Rattle.jr_ast.specs.Tree as tree
use Rattle.jr_ast.specs.StatementTree as statement
use Rattle.jr_ast.specs.MemberTree as syntax
use Rattle.jr_runs.specs.Images.{Among}
use Rattle.jr_table.specs.Keys.{ClassKey, MethodKey, CtorKey}
use Rattle.jr_table.specs.Decls.{MemberKey}
use Rattle.jr_table.specs.Rows.{Row}
use Rattle.jr_table.specs.Conditions.{AreRows}
use Rattle.jr_table.specs.LookupLaws.{HasOne}
use Rattle.jr_table.specs.Context.{Context}
use Rattle.jr_code.specs.Coded.{ExpCode}
use Rattle.jr_code.specs.CodedStatements.{StatementCode, StmtsCode}
use Rattle.jr_code.specs.CodedMembers.{MethodCoded, InitsCoded, ConstructorCoded, DefaultCoded}
use Rattle.jr_code.specs.Exchanged.{exchange}

-- each has one code at most
pub record EachHasOneCode {A : Type 0} (begins ends : A → ℕ → ℕ) (rows : List Row)
    (super_at : MemberKey → ℕ) : Type 0 where
  pub expression : (c : Context) (base : ℕ) (e : tree.Exp A) → HasOne (ExpCode begins rows c base e)
  pub body : (number : ℕ) (c : Context) (base : ℕ) (xs : statement.Stmts A)
      → HasOne (StmtsCode begins ends rows number c base xs)
  pub method : (k : MethodKey) (base : ℕ) (x : syntax.Member A)
      → HasOne (MethodCoded begins ends rows super_at k base x)
  pub initializers : (of : ClassKey) (base : ℕ) (xs : syntax.Members A)
      → HasOne (InitsCoded begins ends rows super_at of base xs)
  pub constructor : (k : CtorKey) (base : ℕ) (inits : List StatementCode) (x : syntax.Member A)
      → HasOne (ConstructorCoded begins ends rows super_at k base inits x)
  pub default : (of : ClassKey) (inits : List StatementCode)
      → HasOne (DefaultCoded begins ends rows super_at of inits)

-- by the rows of a program, whatever the marks are
abbrev pub CodeIsOne : Type 0 → Type 0
CodeIsOne A = (begins ends : A → ℕ → ℕ) (rows : List Row) (super_at : MemberKey → ℕ)
    → AreRows rows → EachHasOneCode begins ends rows super_at

-- An exchange by a map that is one to one on a list, and leaves each image as it is, undoes itself.
abbrev pub ExchangesUndoThemselves : Type 0 → Type 0
ExchangesUndoThemselves X = (same : X → X → Bool) → ((a b : X) → (same a b ≡ true) ↔ (a ≡ b))
    → (to : X → X) (xs : List X)
    → ((a b : X) → Among a xs → Among b xs → to a ≡ to b → a ≡ b)
    → ((a : X) → Among a xs → to (to a) ≡ to a)
    → (k : X) → exchange same to xs (exchange same to xs k) ≡ k
