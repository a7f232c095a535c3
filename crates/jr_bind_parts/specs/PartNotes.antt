-- What fields, methods and constructors note, from where they begin: exact.
use Rattle.std.specs.Prelude.{ℕ, List, ◌++◌, length, Option, Bool, true, false}
use Rattle.jr_ast.specs.Tree as tree
use Rattle.jr_ast.specs.StatementTree as statement
use Rattle.jr_ast.specs.MemberTree as syntax
use Rattle.jr_table.specs.Decls.{MemberKey}
use Rattle.jr_table.specs.Rows.{Row}
use Rattle.jr_table.specs.HeadRules.{plain, with_parameters}
use Rattle.jr_table.specs.Meanings.{type_references}
use Rattle.jr_table.specs.Notes.{Note, breaks, when, is_object_method}
use Rattle.jr_table.specs.HeadNotes.{
  declared_notes,
  result_references,
  param_references,
  init_notes,
  missing_return_notes,
  override_notes,
}
use Rattle.jr_table.specs.HeadNotes as heads
use Rattle.jr_table.specs.Walks.{maybe_notes, super_args_notes, body_notes}
use Rattle.jr_table.specs.declared.rules.Rule.TheVariants as rule

-- of a member that begins at `at`
module _ {A : Type 0} (begins : A → ℕ → ℕ) (rows : List Row) (k : MemberKey) (at : ℕ) where
  abbrev pub field_notes : (is_static : Bool) → tree.TypeName A → Option (tree.Exp A) → List Note
  field_notes is_static t init = (declared_notes (type_references begins rows (plain k false) at t)
      ++ init_notes begins rows k is_static at init)
      ++ maybe_notes begins rows (plain k is_static) at init

  abbrev pub method_notes : (is_static : Bool) → Option (tree.TypeName A) → tree.Word A
      → List (syntax.Param A) → statement.Stmts A → List Note
  method_notes is_static t w ps body =
      (declared_notes (result_references begins rows (plain k false) at t
      ++ param_references begins rows (plain k false) at ps)
      ++ (missing_return_notes begins rows (begins w.mark at) t body
      ++ (override_notes rows k (begins w.mark at)
      ++ when (is_object_method w.text) (breaks (begins w.mark at) rule.ObjectMethod))))
      ++ body_notes begins rows (length ps) (with_parameters k is_static ps) at body

  abbrev pub ctor_notes : (super_at : ℕ) → tree.Word A → List (syntax.Param A)
      → Option (tree.Exps A) → statement.Stmts A → List Note
  ctor_notes super_at w ps args body =
      (declared_notes (param_references begins rows (plain k false) at ps)
      ++ heads.super_notes begins rows super_at (begins w.mark at) k ps args)
      ++ (super_args_notes begins rows (with_parameters k true ps) at args
      ++ body_notes begins rows (length ps) (with_parameters k false ps) at body)
