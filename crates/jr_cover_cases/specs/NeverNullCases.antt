-- Which expressions are never null, and which aren't.
use Rattle.std.specs.Prelude.{ℕ, zero, suc, Bool, [], Option, Some, None, nat_eq}
use Rattle.jr_ast.specs.Tree as tree
use Rattle.jr_cover.specs.NeverNullTrees.{NeverNull}
use Rattle.jr_cover_cases.specs.Samples.{facts, name, dot, word, class_type}

-- Local 0 is a parameter; `A a=this;` is 1, `A b=(a);` 2, `A c=new A();` 3, which is assigned
-- later; `A d=e;` 4, `A e=this;` 5, and `A g=p;` 6.
abbrev pub init : ℕ → Option (tree.Exp ℕ)
init zero = None
init (suc zero) = Some (tree.this 51)
init (suc (suc zero)) = Some (tree.paren 52 (name 1))
init (suc (suc (suc zero))) = Some (tree.create 53 class_type tree.end)
init (suc (suc (suc (suc zero)))) = Some (name 5)
init (suc (suc (suc (suc (suc zero))))) = Some (tree.this 54)
init n = Some (name 0)

abbrev pub is_assigned : ℕ → Bool
is_assigned n = nat_eq n 3

abbrev pub Never : tree.Exp ℕ → Type 0
Never e = NeverNull facts init is_assigned e

pub record NeverNullCases : Type 0 where
  pub of_this : Never (tree.this 51)
  pub of_new : Never (tree.create 53 class_type tree.end)
  pub of_string : Never (tree.string 53 [])
  pub of_class_literal : Never (tree.class_literal 53 class_type)
  pub in_parentheses : Never (tree.paren 60 (tree.create 53 class_type tree.end))
  pub local_with_this : Never (name 1)
  pub local_in_parentheses : Never (tree.paren 60 (name 1))
  pub local_with_a_lower_local : Never (name 2)
  -- a parameter, a local that is assigned later, one that begins with a local of a higher number,
  -- one that begins with a parameter, a field, `null`, the value of a call
  pub no_parameter : Never (name 0) → ⊥
  pub no_assigned_local : Never (name 3) → ⊥
  pub no_local_with_a_higher_local : Never (name 4) → ⊥
  pub no_local_with_a_parameter : Never (name 6) → ⊥
  pub no_field : Never (dot (tree.this 51) 24) → ⊥
  pub no_null : Never (tree.null 51) → ⊥
  pub no_call : Never (tree.call 50 tree.no_target (word 80) tree.end) → ⊥
