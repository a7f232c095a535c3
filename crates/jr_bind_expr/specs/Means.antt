-- What an expression means to what stands around it.
use Rattle.std.specs.Prelude.{◌≡◌, ℕ, List, [], ◌∷◌, Option, Some, None, option_map}
use Rattle.jr_ast.specs.Tree as tree
use Rattle.jr_ast.specs.Marks.{exp_mark}
use Rattle.jr_table.specs.Rows.{Row}
use Rattle.jr_table.specs.Entries.{class_number, kind_of}
use Rattle.jr_table.specs.Context.{Context}
use Rattle.jr_table.specs.Binding as pure
use Rattle.jr_table.specs.Meanings.{type_of, class_name_of}
use Rattle.jr_table.specs.Notes.{Note, breaks, is_constant, final_notes}
use Rattle.jr_table.specs.declared.rules.Rule.TheVariants as rule
use Rattle.jr_bind_expr.specs.declared.meanings.Role.{Role}
use Rattle.jr_bind_expr.specs.declared.meanings.Role.TheVariants as role
use Rattle.jr_bind_expr.specs.declared.meanings.Meaning.{Meaning}

abbrev pub role_of : Role → pure.Role
role_of role.Value = pure.value
role_of role.Left = pure.left
role_of role.Statement = pure.statement

-- the note on an assignment
abbrev pub fixed_notes : Option ℕ → List Note
fixed_notes None = []
fixed_notes (Some at) = breaks at rule.FinalAssigned ∷ []

-- an expression in one whose place is `from`
pub record Means {A : Type 0} (begins : A → ℕ → ℕ) (rows : List Row) (c : Context) (from : ℕ)
    (e : tree.Exp A) (m : Meaning) : Type 0 where
  pub at : m.at ≡ begins (exp_mark e) from
  pub kind : m.kind ≡ option_map (kind_of rows) (type_of rows c e)
  pub class : m.class ≡ option_map (class_number rows) (class_name_of rows c e)
  pub fixed : fixed_notes m.fixed ≡ final_notes begins rows c pure.value 0 from e
  pub constant : m.is_constant ≡ is_constant rows c e

-- what a call is made on, in a call whose place is `from`
abbrev pub TargetMeans : {A : Type 0} (begins : A → ℕ → ℕ) (rows : List Row) (c : Context)
    (from : ℕ) → tree.Target A → Option Meaning → Type 0
TargetMeans begins rows c from tree.no_target None = Unit {0}
TargetMeans begins rows c from (tree.on e) (Some m) = Means begins rows c from e m
TargetMeans begins rows c from _ _ = ⊥
