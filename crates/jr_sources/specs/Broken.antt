-- The first of the rules that are known to be broken. Only private clauses cite this.
use Rattle.std.specs.Prelude.{◌≡◌, ℕ, ◌+◌, ◌⊎◌, List, MatchOption, Option, Some}
use Rattle.jr_table.specs.declared.rules.Rule.{Rule}
use Rattle.jr_table.specs.Errors.{Error}
use Rattle.jr_program.specs.declared.bounds.MemberBound.{MemberBound}
use Rattle.jr_program.specs.Members.{AnyOf, MemberErrs}
use Rattle.jr_sources.specs.declared.broken.Broken.{Broken}
use Rattle.jr_sources.specs.BindingErrors.{IsNoLater, IsFirst}

-- some member breaks it
abbrev pub SomeErrs : List MemberBound → (file at : ℕ) → Rule → Type 0
SomeErrs members file at r = AnyOf (MemberErrs file at r) members

-- it is one of these errors of a member of the file, which begins there
abbrev pub IsOneOf : (number start : ℕ) → List Error → (file at : ℕ) → Rule → Type 0
IsOneOf number start errors file at r =
    AnyOf (λ (e : Error). (number ≡ file) × (at ≡ start + e.at) × (r ≡ e.rule)) errors

-- the first of those that have the property; none, where none has it
abbrev pub IsFirstOfAll : (Has : (file at : ℕ) → Rule → Type 0) → Option Broken → Type 0
IsFirstOfAll Has best = MatchOption best ((file at : ℕ) (r : Rule) → Has file at r → ⊥)
    (λ b. IsFirst Has b.file b.at b.rule)

-- it is no later than both, and one of them
pub record IsNearer (best : Option Broken) (next b : Broken) : Type 0 where
  pub one : (b ≡ next) ⊎ (best ≡ Some b)
  pub next_no_later : IsNoLater b.file b.at b.rule next.file next.at next.rule
  pub best_no_later : (c : Broken) → best ≡ Some c
      → IsNoLater b.file b.at b.rule c.file c.at c.rule
