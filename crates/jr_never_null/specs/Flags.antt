-- Which locals of a member are never null, one flag a local, by their initializers in the order of
-- their numbers: a parameter has none.
use Rattle.std.specs.Prelude.{
  ◌↔◌,
  ℕ,
  Bool,
  true,
  false,
  not,
  ◌&&◌,
  IsTrue,
  List,
  [],
  ◌∷◌,
  ◌++◌,
  length,
  Option,
  Some,
  None,
  slice_get,
  unwrap_or,
}
use Rattle.jr_ast.specs.Tree as tree
use Rattle.jr_runs.specs.Keys.{Keys, keys_of}
use Rattle.jr_cover.specs.Facts.{
  Facts,
  Variable,
  is_local,
  is_static_field,
  is_instance_field,
}
use Rattle.jr_cover.specs.NeverNullTrees.{NeverNull}

-- exact: by the flags of locals; one that has no flag may be null
abbrev pub local_flag : {K : Keys} → List Bool → Option (Variable K) → Bool
local_flag flags None = false
local_flag flags (Some (is_local n)) = unwrap_or (slice_get flags n) false
local_flag flags (Some (is_static_field f)) = false
local_flag flags (Some (is_instance_field f)) = false

abbrev pub is_safe : {K : Keys} {A : Type 0} → Facts K A → List Bool → tree.Exp A → Bool
is_safe F flags (tree.number a n) = false
is_safe F flags (tree.truth a b) = false
is_safe F flags (tree.null a) = false
is_safe F flags (tree.string a s) = true
is_safe F flags (tree.name a w) = local_flag flags (F.variable w.mark)
is_safe F flags (tree.field a e w) = false
is_safe F flags (tree.super_field a w) = false
is_safe F flags (tree.this a) = true
is_safe F flags (tree.class_literal a t) = true
is_safe F flags (tree.call a t w es) = false
is_safe F flags (tree.super_call a w es) = false
is_safe F flags (tree.create a t es) = true
is_safe F flags (tree.paren a e) = is_safe F flags e
is_safe F flags (tree.cast a t e) = false
is_safe F flags (tree.unary a op e) = false
is_safe F flags (tree.bump a op t) = false
is_safe F flags (tree.binary a op l r) = false
is_safe F flags (tree.assign a t e) = false
is_safe F flags (tree.compound a op t e) = false

-- of the local whose number is that of the flags so far
abbrev pub next_flag : {K : Keys} {A : Type 0} → Facts K A → (is_assigned : ℕ → Bool) → List Bool
    → Option (tree.Exp A) → Bool
next_flag F is_assigned flags None = false
next_flag F is_assigned flags (Some e) = not (is_assigned (length flags)) && is_safe F flags e

abbrev pub flags_behind : {K : Keys} {A : Type 0} → Facts K A → (is_assigned : ℕ → Bool)
    → List Bool → List (Option (tree.Exp A)) → List Bool
flags_behind F is_assigned flags [] = flags
flags_behind F is_assigned flags (x ∷ xs) =
    flags_behind F is_assigned (flags ++ next_flag F is_assigned flags x ∷ []) xs

-- the initializer of a local
abbrev pub init_of : {X : Type 0} → List (Option X) → ℕ → Option X
init_of xs n = unwrap_or (slice_get xs n) None

-- ---- the law

-- By these flags exactly those expressions are never null that the rules say.
abbrev pub FlagsTellNeverNull : (C F M N L A : Type 0) → Type 0
FlagsTellNeverNull C F M N L A = (facts : Facts (keys_of C F M N L) A) (is_assigned : ℕ → Bool)
    (inits : List (Option (tree.Exp A))) (e : tree.Exp A)
    → (IsTrue (is_safe facts (flags_behind facts is_assigned [] inits) e)
    ↔ NeverNull facts (init_of inits) is_assigned e)
