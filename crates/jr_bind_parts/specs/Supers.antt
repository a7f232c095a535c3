-- What a constructor notes on `super(..)` (JLS 8.8.7.1): exact. The context is that of the written
-- arguments.
use Rattle.std.specs.Prelude.{ℕ, List, [], ◌∷◌, Option, Some, None, false}
use Rattle.jr_ast.specs.Tree as tree
use Rattle.jr_table.specs.Rows.{Row}
use Rattle.jr_table.specs.Context.{Context}
use Rattle.jr_table.specs.Binding as sought
use Rattle.jr_table.specs.HeadRules.{plain}
use Rattle.jr_table.specs.Meanings.{types_of, ctor_found, own_superclass}
use Rattle.jr_table.specs.Notes.{Note, breaks, when, found_note}
use Rattle.jr_table.specs.HeadNotes.{lacks_super_ctor}
use Rattle.jr_table.specs.declared.rules.Rule.TheVariants as rule

module _ {A : Type 0} (rows : List Row) (c : Context) where
  -- one that is written at `super_at`
  abbrev pub written_notes : (super_at : ℕ) → tree.Exps A → List Note
  written_notes super_at args = found_note super_at sought.method
      (ctor_found rows c (own_superclass rows c) (types_of rows c args)) ∷ []

  -- it, or else the implicit one at the constructor's name
  abbrev pub super_notes : (super_at at : ℕ) → Option (tree.Exps A) → List Note
  super_notes super_at at None =
      when (lacks_super_ctor rows (plain c.member false)) (breaks at rule.SuperCtor)
  super_notes super_at at (Some args) = written_notes super_at args
