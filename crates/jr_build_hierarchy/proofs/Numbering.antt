-- Numbers by classes, one class after the other.
use Rattle.std.proofs.Common.{◌≡◌, ℕ, suc, ◌+◌, ◌<◌, ◌≤◌, List, length, Option, Some, None, Bool, true, false, cond, get_or, map, option_map, refl, sym, ap, subst, ◌∙◌, inl, inr, arith}
use Rattle.std.specs.Prelude.{slice_get, option_and_then, ◌⊎◌}
use Rattle.std.specs.Option.{MatchOption}
use Rattle.std.specs.Str.{bytes_eq}
use Rattle.std.specs.Cmp.Lexicographic.{bytes_decides}
use Rattle.std.proofs.lemmas.Option.{slice_get_within, slice_get-get_or, slice_get-map}
use Rattle.jr_build_declared.specs.declared.declarations.DeclaredKey.{DeclaredKey}
use Rattle.jr_build_declared.specs.DeclaredView.{declaration_key_of}
use Rattle.jr_build_hierarchy.specs.HierarchyView.{keys_of}
use Rattle.jr_table.specs.Keys.{ClassKey}
use Rattle.jr_table.specs.SameKeys.{same_class, class_decides}
use Rattle.jr_build_declared.specs.KeyIndex.{number_at, PutsMaybe}
use Rattle.jr_build_declared.specs.declared.key_index.KeyIndex.{KeyIndex}
use Rattle.jr_build_hierarchy.specs.Hierarchies.{class_in, inner_key}
use Rattle.jr_build_hierarchy.specs.Superclasses.{IsNumbering, HasInner, PutsInner, PutsUnder}
use Rattle.jr_build_hierarchy.proofs.ClassNumbers.{inside}

module _ (keys : List (Option ClassKey)) where
  abbrev Knows : ℕ → ClassKey → Option ℕ → Type 0
  Knows n k o = MatchOption o ((i : ℕ) → i < n → class_in keys i ≡ Some k → ⊥) (λ i. class_in keys i ≡ Some k)

  split : (m n : ℕ) → m < n + 1 → (m < n) ⊎ (m ≡ n)
  split m n h = grind arith

  pub none_yet : (t : KeyIndex) → ((k : ClassKey) → number_at t k ≡ None) → IsNumbering keys 0 (number_at t)
  none_yet t none = λ k. subst (Knows 0 k) (sym (none k)) (λ i lt e. omega (arith, lt))

  -- where number n isn't the class, nothing changes
  kept : (n : ℕ) (k : ClassKey) (o : Option ℕ) → (class_in keys n ≡ Some k → ⊥) → Knows n k o → Knows (n + 1) k o
  kept n k (Some i) other h = h
  kept n k None other none = λ i lt e. by i e (split i n lt)
    where
      by : (i : ℕ) → class_in keys i ≡ Some k → ((i < n) ⊎ (i ≡ n)) → ⊥
      by i e (inl l) = none i l e
      by i e (inr same) = other (ap (class_in keys) (sym same) ∙ e)

  with_key : (n : ℕ) (own k : ClassKey) (old new : Option ℕ) (same : Bool) → same_class own k ≡ same → new ≡ cond same (Some n) old
      → class_in keys n ≡ Some own → Knows n k old → Knows (n + 1) k new
  with_key n own k old new true e is has h = subst (Knows (n + 1) k) (sym is) (has ∙ ap Some ((class_decides own k).0 e))
  with_key n own k old new false e is has h = subst (Knows (n + 1) k) (sym is) (kept n k old other h)
    where
      other : class_in keys n ≡ Some k → ⊥
      other key = let t = (class_decides own k).1 (inside own k (sym has ∙ key)) in absurd cc

  pub one_more : (n : ℕ) (own : Option ClassKey) (old new : KeyIndex) → class_in keys n ≡ own → PutsMaybe old own n new
      → IsNumbering keys n (number_at old) → IsNumbering keys (n + 1) (number_at new)
  one_more n None old new is puts h = λ k. subst (Knows (n + 1) k) (sym (puts k)) (kept n k (number_at old k) (λ e. let f = sym is ∙ e in absurd cc) (h k))
  one_more n (Some own) old new is puts h = λ k. with_key n own k (number_at old k) (number_at new k) (same_class own k) refl (puts k) is (h k)

  class_within : (i : ℕ) (k : ClassKey) → class_in keys i ≡ Some k → i < length keys
  class_within i k e = by (slice_get keys i) refl e
    where
      by : (o : Option (Option ClassKey)) → slice_get keys i ≡ o → option_and_then (λ x. x) o ≡ Some k → i < length keys
      by None f e = absurd cc
      by (Some x) f e = slice_get_within keys i x f

  -- all classes
  pub all_numbered : (n : ℕ) (f : ClassKey → Option ℕ) → length keys ≤ n → IsNumbering keys n f
      → (k : ClassKey) → MatchOption (f k) ((i : ℕ) → class_in keys i ≡ Some k → ⊥) (λ i. class_in keys i ≡ Some k)
  all_numbered n f past h = λ k. by k (f k) (h k)
    where
      by : (k : ClassKey) (o : Option ℕ) → Knows n k o → MatchOption o ((i : ℕ) → class_in keys i ≡ Some k → ⊥) (λ i. class_in keys i ≡ Some k)
      by k None none = λ i e. none i (let l = class_within i k e in omega (arith, l, past)) e
      by k (Some i) e = e

  -- and no others
  pub numbered_to : (n m : ℕ) (f : ClassKey → Option ℕ) → length keys ≤ n → IsNumbering keys n f → IsNumbering keys m f
  numbered_to n m f past h = λ k. by k (f k) (all_numbered n f past h k)
    where
      by : (k : ClassKey) (o : Option ℕ) → MatchOption o ((i : ℕ) → class_in keys i ≡ Some k → ⊥) (λ i. class_in keys i ≡ Some k) → Knows m k o
      by k None none = λ i lt e. none i e
      by k (Some i) e = e

-- member classes by their names alone
module _ (keys : List (Option ClassKey)) where
  pub no_inner_yet : (f : List ℕ → Option ℕ) → HasInner keys 0 f
  no_inner_yet f = λ i outer name lt e none. omega (arith, lt)

  -- what is put under a name hides nothing
  put_some : (name q : List ℕ) (n : ℕ) (old : Option ℕ) (same : Bool) → bytes_eq name q ≡ same → cond same (Some n) old ≡ None → old ≡ None
  put_some name q n old true e none = absurd cc
  put_some name q n old false e none = none

  put_own : (name : List ℕ) (n : ℕ) (old : Option ℕ) (same : Bool) → bytes_eq name name ≡ same → cond same (Some n) old ≡ None → ⊥
  put_own name n old true e none = absurd cc
  put_own name n old false e none = let t = (bytes_decides name name).1 refl in absurd cc

  old_none : (own : Option ClassKey) (n : ℕ) (f g : List ℕ → Option ℕ) → PutsInner f own n g → (q : List ℕ) → g q ≡ None → f q ≡ None
  old_none None n f g puts q e = sym (puts q) ∙ e
  old_none (Some k) n f g puts q e = by k.outer puts
    where
      by : (o : Option (List ℕ)) → PutsUnder o k.name f n g → f q ≡ None
      by None puts = sym (puts q) ∙ e
      by (Some outer) puts = put_some k.name q n (f q) (bytes_eq k.name q) refl (sym (puts q) ∙ e)

  pub one_inner : (n : ℕ) (own : Option ClassKey) (f g : List ℕ → Option ℕ) → class_in keys n ≡ own → PutsInner f own n g → HasInner keys n f → HasInner keys (n + 1) g
  one_inner n own f g is puts h = λ i outer name lt e none. by i outer name e none (split keys i n lt)
    where
      mine : (outer name : List ℕ) → own ≡ Some (inner_key outer name) → g name ≡ None → ⊥
      mine outer name e none =
          let p : PutsInner f (Some (inner_key outer name)) n g = subst (λ o. PutsInner f o n g) e puts in
          put_own name n (f name) (bytes_eq name name) refl (sym (p name) ∙ none)

      by : (i : ℕ) (outer name : List ℕ) → class_in keys i ≡ Some (inner_key outer name) → g name ≡ None → ((i < n) ⊎ (i ≡ n)) → ⊥
      by i outer name e none (inl l) = h i outer name l e (old_none own n f g puts name none)
      by i outer name e none (inr same) = mine outer name (sym is ∙ ap (class_in keys) (sym same) ∙ e) none

  pub all_inner : (n : ℕ) (f : List ℕ → Option ℕ) → length keys ≤ n → HasInner keys n f
      → (i : ℕ) (outer name : List ℕ) → class_in keys i ≡ Some (inner_key outer name) → f name ≡ None → ⊥
  all_inner n f past h = λ i outer name e none. h i outer name (let l = class_within keys i (inner_key outer name) e in omega (arith, l, past)) e none

  pub inner_to : (n m : ℕ) (f : List ℕ → Option ℕ) → length keys ≤ n → HasInner keys n f → HasInner keys m f
  inner_to n m f past h = λ i outer name lt e none. all_inner n f past h i outer name e none

-- the class of a number of a row
class_of_row : (row : List (Option DeclaredKey)) (n : ℕ) (d : Option DeclaredKey) → n < length row → class_in (keys_of row) n ≡ option_map declaration_key_of (get_or row n d)
class_of_row row n d lt = ap (λ o. option_and_then (λ k. k) o) (slice_get-map (option_map declaration_key_of) row n ∙ ap (option_map (option_map declaration_key_of)) (slice_get-get_or row n d lt))

pub more_of_row : (row : List (Option DeclaredKey)) (n : ℕ) (d : Option DeclaredKey) (old new : KeyIndex) → n < length row → PutsMaybe old (option_map declaration_key_of (get_or row n d)) n new
    → IsNumbering (keys_of row) n (number_at old) → IsNumbering (keys_of row) (n + 1) (number_at new)
more_of_row row n d old new lt puts h = one_more (keys_of row) n (option_map declaration_key_of (get_or row n d)) old new (class_of_row row n d lt) puts h

pub more_inner : (row : List (Option DeclaredKey)) (n : ℕ) (d : Option DeclaredKey) (f g : List ℕ → Option ℕ) → n < length row → PutsInner f (option_map declaration_key_of (get_or row n d)) n g
    → HasInner (keys_of row) n f → HasInner (keys_of row) (n + 1) g
more_inner row n d f g lt puts h = one_inner (keys_of row) n (option_map declaration_key_of (get_or row n d)) f g (class_of_row row n d lt) puts h
