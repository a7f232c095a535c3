-- When the code of a member is related to that of another.
use Rattle.std.specs.Prelude.{◌≡◌, ◌≤◌, ℕ, List, [], ◌∷◌}
use Rattle.jr_runs.specs.Core as core
use Rattle.jr_code.specs.RunKeys.{RunKeys}
use Rattle.jr_code.specs.CodedStatements.{StatementCode}
use Rattle.jr_code.specs.CodedMembers.{MemberCode}
use Rattle.jr_image_code.specs.CodeRelations.{Relations}

module _ (X : Relations) where
  -- of a member whose old locals have numbers below the size: the parameters stay
  abbrev pub CodesTo : (size : ℕ) → MemberCode → MemberCode → Type 0
  CodesTo size old new =
      (new.params ≡ old.params) × (old.params ≤ size) × X.stmts old.body new.body

  abbrev pub MethodsTo : (size : ℕ) → core.Method RunKeys → core.Method RunKeys → Type 0
  MethodsTo size (core.written x) (core.written z) = CodesTo size x z
  MethodsTo size core.starts core.starts = Unit {0}
  MethodsTo size (core.written x) core.starts = ⊥
  MethodsTo size core.starts (core.written z) = ⊥

  -- statements one by one: initializers
  abbrev pub AllTo : List StatementCode → List StatementCode → Type 0
  AllTo [] [] = Unit {0}
  AllTo (s ∷ ss) (t ∷ ts) = X.stmt s t × AllTo ss ts
  AllTo _ _ = ⊥
