-- Parts of the hierarchy that a value stands for.
use Rattle.std.proofs.Common.{◌≡◌, ◌<◌, ◌≤◌, ◌+◌, ℕ, Bool, List, [], ◌∷◌, refl, Option, Vec, Global, length, map, option_map, subst, ap, sym, ◌∙◌, arith}
use Rattle.std.proofs.lemmas.List.{length-map}
use Rattle.jr_index.specs.Parents.{AreWithin, ComesEarly}
use Rattle.jr_index.specs.Cycles.{AreOnCycle}
use Rattle.jr_index.proofs.Early.{early}
use Rattle.jr_table.specs.DeclaredItems.{DeclaredItem}
use Rattle.jr_build_hierarchy.specs.declared.hierarchies.Hierarchy.{Hierarchy}
use Rattle.jr_build_declared.specs.declared.declarations.DeclaredKey.{DeclaredKey}
use Rattle.jr_index.specs.Names.{named}
use Rattle.jr_build_declared.specs.KeyIndex.{number_at}
use Rattle.jr_build_hierarchy.specs.Hierarchies.{class_keys, privates_of, top_parents}
use Rattle.jr_build_hierarchy.specs.Superclasses.{AreUnique, IsNumbering, HasInner, HasClasses, KnowsTops, IsHierarchy}
use Rattle.jr_build_hierarchy.proofs.Numbering.{all_numbered, all_inner}
use Rattle.jr_build_hierarchy.proofs.MemberTypes.{within_keys}
use Rattle.jr_build_hierarchy.proofs.Tops.{tops_known}
use Rattle.jr_build_declared.specs.DeclaredView.{declaration_key_of}
use Rattle.jr_build_hierarchy.specs.HierarchyView.{keys_of, hierarchy_of}

pub size_is : (h : Hierarchy) → length (hierarchy_of h).keys ≡ length h.keys.items
unfolding hierarchy_of
size_is h = length-map h.keys.items (option_map declaration_key_of)

-- ways upwards come early to what they ever come to
pub comes_early : (parents : List (Option ℕ)) (n : ℕ) → AreWithin parents n → ComesEarly parents n
comes_early parents n within = early parents n within

-- no superclass is known yet
pub has_classes : (declarations : List DeclaredItem) (h : Hierarchy) (row : List (Option DeclaredKey)) → AreUnique declarations → keys_of h.keys.items ≡ class_keys declarations → h.privates.items ≡ privates_of declarations
    → row ≡ h.keys.items → IsNumbering (keys_of row) (length row) (number_at h.index)
    → (again : List (Option DeclaredKey)) → again ≡ h.keys.items → HasInner (keys_of again) (length again) (named h.inner) → HasClasses declarations (hierarchy_of h)
unfolding hierarchy_of
has_classes declarations h row unique keys privates same numbering again same' inner =
    let mine : IsNumbering (keys_of h.keys.items) (length h.keys.items) (number_at h.index) =
    subst (λ (r : List (Option DeclaredKey)). IsNumbering (keys_of r) (length r) (number_at h.index)) same numbering in
    record {
      unique = unique;
      keys = keys;
      privates = privates;
      inner = all_inner (keys_of h.keys.items) (length h.keys.items) (named h.inner) (simp length-map (omega arith))
          (subst (λ (r : List (Option DeclaredKey)). HasInner (keys_of r) (length r) (named h.inner)) same' inner);
      finds = all_numbered (keys_of h.keys.items) (length h.keys.items) (number_at h.index) (simp length-map (omega arith)) mine;
    }

pub parents_size : (h : Hierarchy) (n : ℕ) → n < length (hierarchy_of h).parents → n < length h.parents.items
unfolding hierarchy_of
parents_size h n lt = lt

-- the superclasses of top-level classes are put in
pub knows_tops : (declarations : List DeclaredItem) (h : Hierarchy) (parents : Vec (Option ℕ) Global) → HasClasses declarations (hierarchy_of h) → parents.items ≡ top_parents (hierarchy_of h) declarations
    → KnowsTops declarations (hierarchy_of (record { keys = h.keys; privates = h.privates; index = h.index; inner = h.inner; parents = parents }))
unfolding hierarchy_of
knows_tops declarations h parents has row =
    tops_known declarations (hierarchy_of (record { keys = h.keys; privates = h.privates; index = h.index; inner = h.inner; parents = parents }))
    (record { unique = has.unique; keys = has.keys; privates = has.privates; inner = has.inner; finds = has.finds }) row

-- how many numbers there are
counted : (declarations : List DeclaredItem) → length (class_keys declarations) ≡ length declarations + 4
counted [] = refl
counted (s ∷ ss) = let e = counted ss in omega (arith, e)

pub keys_counted : (declarations : List DeclaredItem) (row : List (Option DeclaredKey)) → keys_of row ≡ class_keys declarations → length row ≡ length declarations + 4
keys_counted declarations row e = sym (length-map row (option_map declaration_key_of)) ∙ ap length e ∙ counted declarations

module _ (declarations : List DeclaredItem) (h : Hierarchy) (is : IsHierarchy declarations (hierarchy_of h)) where
  pub parents_counted : length h.parents.items ≡ length declarations + 4
  unfolding hierarchy_of
  parents_counted = is.tops.size ∙ ap length is.tops.classes.keys ∙ counted declarations

  pub parents_within : AreWithin h.parents.items (length h.parents.items)
  unfolding hierarchy_of
  parents_within = λ j p e. let l = within_keys declarations (hierarchy_of h) comes_early is.tops j p e in let s = is.tops.size in omega (arith, l, s)

  -- of a row that is the superclasses
  pub row_within : (row : List (Option ℕ)) → row ≡ h.parents.items → AreWithin row (length row)
  row_within row same = subst (λ (r : List (Option ℕ)). AreWithin r (length r)) (sym same) parents_within

  pub row_counted : (row : List (Option ℕ)) → row ≡ h.parents.items → length row ≡ length declarations + 4
  row_counted row same = ap length same ∙ parents_counted

  pub row_on_cycle : (row : List (Option ℕ)) (on : List Bool) → row ≡ h.parents.items → AreOnCycle row on → AreOnCycle (hierarchy_of h).parents on
  unfolding hierarchy_of
  row_on_cycle row on same k = subst (λ (r : List (Option ℕ)). AreOnCycle r on) same k
