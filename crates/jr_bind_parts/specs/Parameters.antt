-- Parameters in scope: exact.
use Rattle.std.specs.Prelude.{ℕ, ◌+◌, List, [], ◌∷◌, Some, false}
use Rattle.jr_ast.specs.MemberTree as syntax
use Rattle.jr_table.specs.Keys.{Ty}
use Rattle.jr_table.specs.Rows.{Row}
use Rattle.jr_table.specs.Entries.{kind_of}
use Rattle.jr_table.specs.Context.{known, Context}
use Rattle.jr_scopes.specs.Helds.{Held}

module _ {A : Type 0} (rows : List Row) where
  abbrev pub held_parameter : ℕ → syntax.Param A → Ty → Held
  held_parameter number p t = record {
    name = p.name.text;
    number = number;
    is_final = p.is_final;
    type = known t;
    has_init = false;
    kind = Some (kind_of rows t);
  }

  -- from this number on
  abbrev pub held_parameters : ℕ → List (syntax.Param A) → List Ty → List Held
  held_parameters number (p ∷ ps) (t ∷ ts) =
      held_parameter number p t ∷ held_parameters (number + 1) ps ts
  held_parameters number _ _ = []

-- where there is an object
abbrev pub in_instance : Context → Context
in_instance c =
    record { member = c.member; is_static = false; locals = c.locals; own = c.own }
