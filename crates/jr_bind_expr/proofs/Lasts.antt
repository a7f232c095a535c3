-- The last local of a name or number, as a walk over the locals finds it, and as the definitions do.
use Rattle.std.proofs.Common.{◌≡◌, ℕ, List, [], ◌∷◌, map, Option, Some, None, Bool, true, false, cond, refl, ap, ◌∙◌}
use Rattle.std.specs.Prelude.{option_map}
use Rattle.std.specs.Str.{bytes_eq}
use Rattle.jr_table.specs.Decls.{MemberKey}
use Rattle.jr_table.specs.Scope.{last_named, key_if_named}
use Rattle.jr_table.specs.Scope as scope
use Rattle.jr_table.specs.Context.{scope_local}
use Rattle.jr_scopes.specs.Helds.{Held, key_of, local_of, or_later, number_if_named, last_number}

module _ (k : MemberKey) (name : List ℕ) where
  one_more : (o : Option ℕ) (h : Held) → scope.or_later (option_map (key_of k) o) (key_if_named name (scope_local (local_of k h))) ≡ option_map (key_of k) (or_later o (number_if_named name h))
  one_more (Some n) h = refl
  one_more None h = by (bytes_eq h.name name)
    where
      by : (b : Bool) → cond b (Some (key_of k h.number)) None ≡ option_map (key_of k) (cond b (Some h.number) None)
      by true = refl
      by false = refl

  -- the last local of a name
  pub last_is : (hs : List Held) → last_named name (map scope_local (map (local_of k) hs)) ≡ option_map (key_of k) (last_number name hs)
  unfolding last_named
  last_is [] = refl
  last_is (h ∷ hs) = ap (λ o. scope.or_later o (key_if_named name (scope_local (local_of k h)))) (last_is hs) ∙ one_more (last_number name hs) h
