-- Regions in which keys and rows stay, and places of them from which each name finds what it found.
use Rattle.std.specs.Prelude.{◌≡◌, ℕ, List, Some}
use Rattle.jr_ast.specs.Tree as tree
use Rattle.jr_table.specs.Keys.{Ty}
use Rattle.jr_table.specs.Decls.{LocalKey}
use Rattle.jr_table.specs.Rows.{Row}
use Rattle.jr_table.specs.Scope.{ScopeLocal, FindsLocal, HasNoLocal}
use Rattle.jr_table.specs.Context.{Context, scope_of}
use Rattle.jr_images.specs.Regions.{Region}
use Rattle.jr_local.specs.Scopes.{same_images, scope_with}

-- each declaration with a row is its own image, and the rows are the old ones
abbrev pub KeepsKeys : {A : Type 0} → List Row → Region A → Type 0
KeepsKeys rows R = R.seen.images ≡ same_images rows

-- From the place the same class is around, in the same kind of context. A name that finds a local
-- finds its image, and one that finds none finds none; expressions have their types.
pub record SeesTheSame {A : Type 0} (R : Region A) (c : Context) : Type 0 where
  pub locals : List ScopeLocal
  pub scope : R.seen.scope c ≡ scope_with c locals
  pub found : (name : List ℕ) (k : LocalKey) → FindsLocal (scope_of c).locals name k
      → (m : LocalKey) × (R.seen.local_to c k ≡ Some m) × FindsLocal locals name m
  pub none : (name : List ℕ) → HasNoLocal (scope_of c).locals name → HasNoLocal locals name
  pub type : (e : tree.Exp A) (t : Ty) → R.type_now c e t ≡ t
  pub types : (es : tree.Exps A) (ts : List Ty) → R.types_now c es ts ≡ ts
