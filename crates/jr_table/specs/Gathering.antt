-- Member methods of a name, gathered class by class upwards.
use Rattle.std.specs.Prelude.{◌≡◌, ℕ, List, Some, None, Bool, true, false, nat_eq, slice_get, ◌↔◌}
use Rattle.std.specs.List.{IsDistinct}
use Rattle.std.specs.HashSet.{contains_by}
use Rattle.jr_index.specs.Linked.{is_at, PassesAt}
use Rattle.jr_table.specs.declared.entries.Kind.{Kind}
use Rattle.jr_table.specs.declared.entries.Entry.{Entry}
use Rattle.jr_table.specs.declared.entries.Sort.TheVariants as sort
use Rattle.jr_table.specs.declared.signatures.Signatures.{Signatures}
use Rattle.jr_table.specs.Chains.{In}
use Rattle.jr_table.specs.Looking.{same_kinds, is_method, own_row, nearest}
use Rattle.jr_table.specs.Calls.{is_named, params_at}
use Rattle.jr_table.specs.MemberIndex.{member_place}

-- whether a list of types was met
abbrev pub is_met : Signatures → List Kind → Bool
is_met s params = contains_by (λ k. same_kinds params k.now) s.lists

-- whether a row is found by this name in this class
abbrev pub entry_named : ℕ → List ℕ → Entry → Bool
entry_named c name e = is_at c name (member_place e)

-- exactly the rows of the member methods of the name, each once
pub record AreNamed (rows : List Entry) (name : List ℕ) (c : ℕ) (numbers : List ℕ) : Type 0 where
  pub each : (j : ℕ) → In numbers j ↔ (is_named rows name c j ≡ true)
  pub apart : IsDistinct nat_eq numbers

module _ (rows : List Entry) (name : List ℕ) (c at : ℕ) where
  -- Class `at` and those above it are still to be looked at: the methods that have parameter types
  -- that weren't met are found from there on, and the others are gathered.
  pub record Gathers (met : List Kind → Bool) (numbers : List ℕ) : Type 0 where
    pub ahead : (params : List Kind) → met params ≡ false
        → nearest rows (is_method name params) c ≡ nearest rows (is_method name params) at
    pub each : (j : ℕ) → In numbers j
        ↔ ((is_named rows name c j ≡ true) × (met (params_at rows j) ≡ true))
    pub apart : IsDistinct nat_eq numbers

  -- row j of the class is taken
  pub record TakesRow (j : ℕ) (met : List Kind → Bool) (numbers : List ℕ)
      (met' : List Kind → Bool) (numbers' : List ℕ) : Type 0 where
    pub gathers : PassesAt (entry_named at name) rows j → Gathers met numbers
        → Gathers met' numbers'
    pub kept : (params : List Kind) → met params ≡ true → met' params ≡ true
    pub here : (e : Entry) → slice_get rows j ≡ Some e → e.sort ≡ sort.Method
        → met' e.params ≡ true

  -- all that the class declares is taken
  pub record TakesClass (met : List Kind → Bool) (numbers : List ℕ)
      (met' : List Kind → Bool) (numbers' : List ℕ) : Type 0 where
    pub gathers : Gathers met numbers → Gathers met' numbers'
    pub done : (params : List Kind) → met' params ≡ false
        → own_row rows (is_method name params) at ≡ None
