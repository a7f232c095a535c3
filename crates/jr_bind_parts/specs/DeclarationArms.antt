-- What the declarations of methods and constructors note, by parts: exact.
use Rattle.std.specs.Prelude.{ℕ, List, [], ◌++◌, Option, Some, None, Bool, false}
use Rattle.jr_ast.specs.Tree as tree
use Rattle.jr_ast.specs.MemberTree as syntax
use Rattle.jr_table.specs.Decls.{MemberKey}
use Rattle.jr_table.specs.Rows.{Row}
use Rattle.jr_table.specs.HeadRules.{plain}
use Rattle.jr_table.specs.Notes.{Note, breaks, when, is_object_method}
use Rattle.jr_table.specs.HeadNotes.{
  declared_notes,
  result_references,
  param_references,
  override_notes,
}
use Rattle.jr_table.specs.declared.rules.Rule.TheVariants as rule

abbrev pub missing_notes : {A : Type 0} → (at : ℕ) → Option (tree.TypeName A) → (completes : Bool)
    → List Note
missing_notes at None completes = []
missing_notes at (Some t) completes = when completes (breaks at rule.MissingReturn)

-- of a method that begins at `at`, whose body completes normally or not
abbrev pub method_notes : {A : Type 0} (begins : A → ℕ → ℕ) → List Row → MemberKey → (at : ℕ)
    → Option (tree.TypeName A) → tree.Word A → List (syntax.Param A) → (completes : Bool)
    → List Note
method_notes begins rows k at t w ps completes =
    declared_notes (result_references begins rows (plain k false) at t
    ++ param_references begins rows (plain k false) at ps)
    ++ (missing_notes (begins w.mark at) t completes
    ++ (override_notes rows k (begins w.mark at)
    ++ when (is_object_method w.text) (breaks (begins w.mark at) rule.ObjectMethod)))
