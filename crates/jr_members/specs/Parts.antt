-- The parts of a program that are members of their own, in file and text order: the head of a
-- class, and then its fields, methods and constructors, and what its member classes have.
use Rattle.std.specs.Prelude.{ℕ, suc, List, [], ◌∷◌, ◌++◌}
use Rattle.jr_ast.specs.MemberTree as syntax
use Rattle.jr_table.specs.Errors.{Part, class_part, member_part}

-- a part, the number of its file, and where its parent begins
pub record Placed (A : Type 0) : Type 0 where
  pub file : ℕ
  pub base : ℕ
  pub part : Part A

abbrev pub placed : {A : Type 0} → (file base : ℕ) → Part A → Placed A
placed file base part = record { file = file; base = base; part = part }

-- `begins m base`: where a node with the mark begins, if its parent begins at the base
module _ {A : Type 0} (begins : A → ℕ → ℕ) where
  unfoldable mutual
    pub class_parts : (file base : ℕ) → syntax.Class A → List (Placed A)
    class_parts file base (syntax.class m mods w t ms) =
        placed file base (class_part (syntax.class m mods w t ms))
        ∷ members_parts file (begins m base) ms

    pub members_parts : (file base : ℕ) → syntax.Members A → List (Placed A)
    members_parts file base syntax.end = []
    members_parts file base (syntax.more x xs) =
        member_parts file base x ++ members_parts file base xs

    pub member_parts : (file base : ℕ) → syntax.Member A → List (Placed A)
    member_parts file base (syntax.field m mods t w init) =
        placed file base (member_part (syntax.field m mods t w init)) ∷ []
    member_parts file base (syntax.method m mods t w ps body) =
        placed file base (member_part (syntax.method m mods t w ps body)) ∷ []
    member_parts file base (syntax.constructor m mods w ps args body) =
        placed file base (member_part (syntax.constructor m mods w ps args body)) ∷ []
    member_parts file base (syntax.inner m c) = class_parts file (begins m base) c

  abbrev pub classes_parts : (file base : ℕ) → List (syntax.Class A) → List (Placed A)
  classes_parts file base [] = []
  classes_parts file base (c ∷ cs) = class_parts file base c ++ classes_parts file base cs

  abbrev pub parts_from : (file : ℕ) → List (syntax.Unit A) → List (Placed A)
  parts_from file [] = []
  parts_from file (u ∷ us) =
      classes_parts file (begins u.mark 0) u.classes ++ parts_from (suc file) us

  -- the parts of a program's files
  unfoldable pub units_parts : List (syntax.Unit A) → List (Placed A)
  units_parts units = parts_from 0 units
