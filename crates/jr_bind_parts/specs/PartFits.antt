-- When the places of a part of a program fit.
use Rattle.std.specs.Prelude.{ℕ, Option, Some, None}
use Rattle.jr_ast.specs.Tree as tree
use Rattle.jr_ast.specs.MemberTree as syntax
use Rattle.jr_table.specs.Errors.{Part, class_part, member_part}
use Rattle.jr_bind_expr.specs.Fits.{FitsType, FitsExps, FitsMaybe, FitsStmts}
use Rattle.jr_bind_parts.specs.DeclaredTypes.{FitsMaybeType, FitsParams}
use Rattle.jr_bind_parts.specs.Heads.{FitsHead}

-- `begins m base` is the first byte of a node with the mark m whose parent begins at base
module _ {A : Type 0} (begins : A → ℕ → ℕ) (Fits : A → ℕ → Type 0) where
  abbrev pub FitsMaybeArgs : (at : ℕ) → Option (tree.Exps A) → Type 0
  FitsMaybeArgs at None = Unit {0}
  FitsMaybeArgs at (Some args) = FitsExps begins Fits at args

  -- a member class is a part of its own
  abbrev pub FitsMember : (base : ℕ) → syntax.Member A → Type 0
  FitsMember base (syntax.field m mods t w init) = Fits m base
      × FitsType begins Fits (begins m base) t × FitsMaybe begins Fits (begins m base) init
  FitsMember base (syntax.method m mods t w ps body) = Fits m base
      × FitsMaybeType begins Fits (begins m base) t × Fits w.mark (begins m base)
      × FitsParams begins Fits (begins m base) ps × FitsStmts begins Fits (begins m base) body
  FitsMember base (syntax.constructor m mods w ps args body) = Fits m base
      × Fits w.mark (begins m base) × FitsParams begins Fits (begins m base) ps
      × FitsMaybeArgs (begins m base) args × FitsStmts begins Fits (begins m base) body
  FitsMember base (syntax.inner m of) = Unit {0}

  abbrev pub FitsPart : (base : ℕ) → Part A → Type 0
  FitsPart base (class_part c) = FitsHead begins Fits base c
  FitsPart base (member_part x) = FitsMember base x
