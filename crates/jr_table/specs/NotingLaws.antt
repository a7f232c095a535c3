-- Laws of what binding notes, as statements: the notes are what the rules of a sound program and
-- the lookup of references say (JLS 6, 8, 14, 15).
use Rattle.std.specs.Prelude.{◌≡◌, ℕ, ◌+◌, ◌↔◌, List}
use Rattle.std.specs.List.Sorted.{IsPermutation, IsNonDecreasingBy}
use Rattle.jr_ast.specs.StatementTree as statement
use Rattle.jr_ast.specs.MemberTree as syntax
use Rattle.jr_table.specs.Keys.{ClassKey}
use Rattle.jr_table.specs.Decls.{Decl, MemberKey}
use Rattle.jr_table.specs.Rows.{Row}
use Rattle.jr_table.specs.Found.{one}
use Rattle.jr_table.specs.Conditions.{AreRows}
use Rattle.jr_table.specs.LookupLaws.{KeysAreFound}
use Rattle.jr_table.specs.Context.{Context}
use Rattle.jr_table.specs.StatementRules.{StmtBreaks, ListBreaks, StmtBindsItself}
use Rattle.jr_table.specs.HeadRules.{HeadRefers, HeadBreaks, DeclarationRefers, DeclarationBreaks}
use Rattle.jr_table.specs.Errors.{
  Part,
  part_mark,
  Breaks,
  Binds,
  Error,
  AreInOrder,
  Among,
  AreErrors,
}
use Rattle.jr_table.specs.Notes.{Note, refers, breaks, Has, own_stmt_notes, list_notes}
use Rattle.jr_table.specs.HeadNotes.{head_notes, declaration_notes}
use Rattle.jr_table.specs.Walks.{part_notes}
use Rattle.jr_table.specs.ErrorLists.{errors_in, order_number, each_once, errors_of_log}
use Rattle.jr_table.specs.declared.rules.Rule.{Rule}

module _ {A : Type 0} (begins : A → ℕ → ℕ) where
  -- a statement: the rules that it breaks itself, each with its place, and what its references are
  -- bound to
  pub record StatementIsNoted (rows : List Row) (number : ℕ) (c : Context) (base : ℕ)
      (x : statement.Stmt A) : Type 0 where
    pub rules : (at : ℕ) (r : Rule) → Has (own_stmt_notes begins rows number c base x) (breaks at r)
        ↔ StmtBreaks begins rows number c base x at r
    pub bindings : (at : ℕ) (d : Decl)
        → Has (own_stmt_notes begins rows number c base x) (refers at d)
        ↔ StmtBindsItself begins rows number c base x at d

  -- a list of statements, which binds none
  pub record ListIsNoted (base : ℕ) (xs : statement.Stmts A) : Type 0 where
    pub rules : (at : ℕ) (r : Rule) → Has (list_notes begins base xs) (breaks at r)
        ↔ ListBreaks begins base xs at r
    pub bindings : (at : ℕ) (d : Decl) → Has (list_notes begins base xs) (refers at d) → ⊥

  -- the head of a class
  pub record HeadIsNoted (rows : List Row) (k : ClassKey) (base : ℕ) (of : syntax.Class A) : Type 0
    where
      pub rules : (at : ℕ) (r : Rule) → Has (head_notes begins rows k base of) (breaks at r)
          ↔ HeadBreaks begins rows k base of at r
      pub bindings : (at : ℕ) (d : Decl) → Has (head_notes begins rows k base of) (refers at d)
          ↔ HeadRefers begins rows k base of at (one d)

  -- the declaration of a field, method or constructor
  pub record DeclarationIsNoted (rows : List Row) (super_at : ℕ) (k : MemberKey) (base : ℕ)
      (x : syntax.Member A) : Type 0 where
    pub rules : (at : ℕ) (r : Rule)
        → Has (declaration_notes begins rows super_at k base x) (breaks at r)
        ↔ DeclarationBreaks begins rows super_at k base x at r
    pub bindings : (at : ℕ) (d : Decl)
        → Has (declaration_notes begins rows super_at k base x) (refers at d)
        ↔ DeclarationRefers begins rows super_at k base x at (one d)

  -- all of a member, or of the head of a class
  pub record PartIsNoted (rows : List Row) (super_at : ℕ) (k : MemberKey) (base : ℕ) (part : Part A)
      : Type 0 where
    pub rules : (at : ℕ) (r : Rule) →
        Has (part_notes begins rows super_at k base part) (breaks at r)
        ↔ Breaks begins rows super_at k base part at r
    pub bindings : (at : ℕ) (d : Decl)
        → Has (part_notes begins rows super_at k base part) (refers at d)
        ↔ Binds begins rows super_at k base part at d

abbrev pub StatementsAreNoted : Type 0 → Type 0
StatementsAreNoted A = (begins : A → ℕ → ℕ) (rows : List Row) → AreRows rows → KeysAreFound rows
    → (number : ℕ) (c : Context) (base : ℕ) (x : statement.Stmt A)
    → StatementIsNoted begins rows number c base x

abbrev pub ListsAreNoted : Type 0 → Type 0
ListsAreNoted A =
    (begins : A → ℕ → ℕ) (base : ℕ) (xs : statement.Stmts A) → ListIsNoted begins base xs

abbrev pub HeadsAreNoted : Type 0 → Type 0
HeadsAreNoted A = (begins : A → ℕ → ℕ) (rows : List Row) → AreRows rows → KeysAreFound rows
    → (k : ClassKey) (base : ℕ) (of : syntax.Class A) → HeadIsNoted begins rows k base of

abbrev pub DeclarationsAreNoted : Type 0 → Type 0
DeclarationsAreNoted A = (begins : A → ℕ → ℕ) (rows : List Row) → AreRows rows → KeysAreFound rows
    → (super_at : ℕ) (k : MemberKey) (base : ℕ) (x : syntax.Member A)
    → DeclarationIsNoted begins rows super_at k base x

abbrev pub PartsAreNoted : Type 0 → Type 0
PartsAreNoted A = (begins : A → ℕ → ℕ) (rows : List Row) → AreRows rows → KeysAreFound rows
    → (super_at : ℕ) (k : MemberKey) (base : ℕ) (part : Part A)
    → PartIsNoted begins rows super_at k base part

-- the errors of a log, with places counted from a first byte
pub record AreErrorsOfLogs : Type 0 where
  pub told : (start : ℕ) (log : List Note)
      → AreErrors (λ e. Has log (breaks (start + e.at) e.rule)) (errors_of_log start log)
  -- they are what a sort by that number and one walk make
  pub computed : (start : ℕ) (log : List Note) (es : List Error)
      → IsPermutation (errors_in start log) es → IsNonDecreasingBy order_number es
      → each_once es ≡ errors_of_log start log
  -- two lists in order that have the same errors are one
  pub only : (es fs : List Error) → AreInOrder es → AreInOrder fs
      → ((e : Error) → Among es e ↔ Among fs e) → es ≡ fs

-- the errors of a member, or of the head of a class, with places counted from its first byte
abbrev pub PartsHaveErrors : Type 0 → Type 0
PartsHaveErrors A = (begins : A → ℕ → ℕ) (rows : List Row) → AreRows rows → KeysAreFound rows
    → (super_at : ℕ) (k : MemberKey) (base : ℕ) (part : Part A)
    → AreErrors (λ e. Breaks begins rows super_at k base part (begins (part_mark part) base + e.at)
    e.rule)
    (errors_of_log (begins (part_mark part) base) (part_notes begins rows super_at k base part))
