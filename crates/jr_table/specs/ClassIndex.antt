-- Exact functions: the numbers of classes by their keys.
use Rattle.std.specs.Prelude.{
  ◌≡◌,
  ℕ,
  List,
  [],
  Option,
  Some,
  None,
  map,
  length,
  option_and_then,
}
use Rattle.jr_index.specs.Linked.{first_of}
use Rattle.jr_table.specs.declared.class_index.ClassIndex.{ClassIndex}
use Rattle.jr_table.specs.Keys.{ClassKey}
use Rattle.jr_table.specs.Decls.{
  Decl,
  class_decl,
  field_decl,
  method_decl,
  constructor_decl,
  local_decl,
}
use Rattle.jr_table.specs.Rows.{Row}
use Rattle.jr_table.specs.Entries.{number_of, top_class}

-- the owner of a class that is no member class, where only those have one
abbrev pub top_owner : Option (List ℕ) → Option ℕ
top_owner None = Some 0
top_owner (Some outer) = None

-- where a class that is no member class is found
abbrev pub top_place : Decl → Option ℕ × List ℕ
top_place (class_decl k) = (top_owner k.outer, k.name)
top_place _ = (None, [])

-- The owner of a class: of a member class the one around it, of the others a number that no row
-- has.
abbrev pub class_owner : (List ℕ → Option ℕ) → (top : ℕ) → Option (List ℕ) → Option ℕ
class_owner find top None = Some top
class_owner find top (Some outer) = find outer

-- where a class is found
abbrev pub class_place : (List ℕ → Option ℕ) → (top : ℕ) → Decl → Option ℕ × List ℕ
class_place find top (class_decl k) = (class_owner find top k.outer, k.name)
class_place find top _ = (None, [])

-- the place of a row among those of a program
abbrev pub place_in : List Row → Row → Option ℕ × List ℕ
place_in rows r = class_place (λ q. number_of rows (top_class q)) (length rows) r.decl

abbrev pub class_in : ClassIndex → Option (List ℕ) → List ℕ → Option ℕ
class_in x None name = first_of x.classes x.top name
class_in x (Some outer) name =
    option_and_then (λ c. first_of x.classes c name) (first_of x.classes x.top outer)

-- the number of a class
abbrev pub class_found : ClassIndex → ClassKey → Option ℕ
class_found x k = class_in x k.outer k.name

-- each class is found under the number of its row
abbrev pub FindsClasses : List Row → ClassIndex → Type 0
FindsClasses rows x = (k : ClassKey) → class_found x k ≡ number_of rows (class_decl k)
