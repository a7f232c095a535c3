-- What the slots of a part's tree of types tell.
use Rattle.std.proofs.Common.{◌≡◌, ℕ, List, [], ◌∷◌, Option, Some, None, refl, sym, ap, subst, ◌∙◌}
use Rattle.std.specs.Prelude.{◌↔◌}
use Rattle.jr_table.specs.Keys.{Ty}
use Rattle.jr_table.specs.Decls.{MemberKey}
use Rattle.jr_table.specs.Rows.{Row}
use Rattle.jr_table.specs.Conditions.{AreRows}
use Rattle.jr_table.specs.LookupLaws.{KeysAreFound}
use Rattle.jr_table.specs.Errors.{Part, class_part, member_part}
use Rattle.jr_expr_types.specs.Slots.{Slot, find_type}
use Rattle.jr_expr_types.specs.Trees.{flat, type_at, PathsLeadToTypes}
use Rattle.jr_expr_types.specs.TypedTrees.{leaf, part_tree}
use Rattle.jr_expr_types.specs.TypedLaws.{TypesAreAt}
use Rattle.jr_bind.specs.Bounds.{TypeInPart}

leaf_has_none : (path : List ℕ) → type_at leaf path ≡ None
unfolding type_at
leaf_has_none [] = refl
leaf_has_none (i ∷ is) = refl

module _ {A : Type 0} (begins : A → ℕ → ℕ) (rows : List Row) (fit : AreRows rows) (keys : KeysAreFound rows) (k : MemberKey) (paths : PathsLeadToTypes) (are : TypesAreAt A) where
  told : (part : Part A) (path : List ℕ) (t : Ty) → (type_at (part_tree begins rows k part) path ≡ Some t) ↔ TypeInPart begins rows k part path t
  told (class_part of) path t = (λ h. let e = leaf_has_none path in absurd cc, λ h. absurd h)
  told (member_part x) path t = are begins rows fit keys k x path t

  pub typed_part : (part : Part A) (slots : List Slot) → slots ≡ flat (part_tree begins rows k part) → (path : List ℕ) (t : Ty) → (find_type slots path ≡ Some t) ↔ TypeInPart begins rows k part path t
  typed_part part slots is path t =
      subst (λ (o : Option Ty). (o ≡ Some t) ↔ TypeInPart begins rows k part path t) (sym (ap (λ s. find_type s path) is ∙ paths (part_tree begins rows k part) path)) (told part path t)
