-- What a simple name finds as a variable.
use Rattle.std.proofs.Common.{◌≡◌, ℕ, List, [], Some, None, refl, sym, ap, ◌∙◌, inl, inr}
use Rattle.jr_table.specs.Decls.{LocalKey, local_decl}
use Rattle.jr_table.specs.Rows.{Row}
use Rattle.jr_table.specs.Entries.{class_number, entries_of}
use Rattle.jr_table.specs.Fields.{find_field}
use Rattle.jr_table.specs.Found.{Found, one, nothing}
use Rattle.jr_table.specs.Scope.{Scope, last_named}
use Rattle.jr_table.specs.Lookup.{FindsVariable, FindsLeft, find_variable, local_or}
use Rattle.jr_table.specs.LookupLaws.{KeysAreFound}
use Rattle.jr_new_words.proofs.NearScopes.{with_locals, same_local_variable}

module _ (rows : List Row) (keys : KeysAreFound rows) (s : Scope) (name : List ℕ) where
  -- a local
  local_is : (k : LocalKey) → last_named name s.locals ≡ Some k → find_variable rows s name ≡ one (local_decl k)
  unfolding find_variable
  local_is k last = ap (local_or rows (find_field (entries_of rows) (class_number rows s.class) s.is_static name)) last

  pub finds_local : (k : LocalKey) → last_named name s.locals ≡ Some k → FindsVariable rows s name (one (local_decl k))
  finds_local k last = (keys.variable s name (one (local_decl k))).0 (local_is k last)

  none_named : last_named name [] ≡ None
  unfolding last_named
  none_named = refl

  -- where no local has the name, what is found without locals
  pub finds_bare : last_named name s.locals ≡ None → (f : Found) → FindsVariable rows (with_locals s []) name f → FindsVariable rows s name f
  finds_bare none f h = same_local_variable rows keys (with_locals s []) s name refl refl (none_named ∙ sym none) f h

  -- and so in front of a dot
  pub left_bare : last_named name s.locals ≡ None → (f : Found) → FindsLeft rows (with_locals s []) name f → FindsLeft rows s name f
  left_bare none f (inl (finds, some)) = inl (finds_bare none f finds, some)
  left_bare none f (inr (free, type)) = inr (finds_bare none nothing free, type)
