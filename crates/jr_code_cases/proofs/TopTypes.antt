-- What names of types mean where each class is a top-level one, computed: no class has member types.
use Rattle.std.proofs.lemmas.Bool.{and_parts}
use Rattle.jr_table.proofs.Assigning.{either_is}
use Rattle.std.proofs.Common.{◌≡◌, ℕ, zero, suc, List, [], ◌∷◌, map, Option, Some, None, Bool, true, false, cond, ◌&&◌, ◌||◌, refl, sym, ap, subst, ◌∙◌, inl, inr}
use Rattle.std.specs.Prelude.{slice_get, is_some, is_none, codes}
use Rattle.jr_table.specs.Keys.{ClassKey, Ty, class}
use Rattle.jr_table.specs.Keys as keys
use Rattle.jr_table.specs.SameKeys.{same_name, same_class, class_decides}
use Rattle.std.specs.Cmp.Lexicographic.{bytes_decides}
use Rattle.jr_table.specs.Prelude.{top_key}
use Rattle.jr_table.specs.DeclaredItems.{Written, int, boolean, named, DeclaredParam, DeclaredClass, Item, class_item, field_item, method_item, ctor_item, DeclaredItem}
use Rattle.jr_table.specs.Resolving.{DeclaresClass, IsPreludeClass, IsDeclared, IsTopClass, TopMemberType, TypeWithin, HasMemberType, FindsAround, Means}
use Rattle.jr_table.specs.ProgramRows.{MeanTypes}

-- ---- the classes

abbrev pub class_or : Item → List ℕ → Option DeclaredClass → Option DeclaredClass
class_or (class_item c) name later = cond (same_class c.key (top_key name)) (Some c) later
class_or (field_item f) name later = later
class_or (method_item m) name later = later
class_or (ctor_item c) name later = later

-- the first class of the name
abbrev pub find_class : List DeclaredItem → List ℕ → Option DeclaredClass
find_class [] name = None
find_class (d ∷ ds) name = class_or d.item name (find_class ds name)

behind : (d : DeclaredItem) (ds : List DeclaredItem) (k : ClassKey) (at : DeclaredClass) → DeclaresClass ds k at → DeclaresClass (d ∷ ds) k at
behind d ds k at h = record { number = suc h.number; file = h.file; stands = h.stands; is = h.is }

found_first : (d : DeclaredItem) (ds : List DeclaredItem) (name : List ℕ) (c at : DeclaredClass) (b : Bool) → d.item ≡ class_item c → same_class c.key (top_key name) ≡ b
    → cond b (Some c) (find_class ds name) ≡ Some at → (find_class ds name ≡ Some at → DeclaresClass ds (top_key name) at) → DeclaresClass (d ∷ ds) (top_key name) at
found_first d ds name c at true is same e again =
    let it : c ≡ at = cc in
    record { number = 0; file = d.file; stands = (λ i. Some (record { file = d.file; item = (is ∙ ap class_item it) i })); is = sym (ap (λ (x : DeclaredClass). x.key) it) ∙ (class_decides c.key (top_key name)).0 same }
found_first d ds name c at false is same e again = behind d ds (top_key name) at (again e)

found_by : (d : DeclaredItem) (ds : List DeclaredItem) (name : List ℕ) (at : DeclaredClass) (i : Item) → d.item ≡ i → class_or i name (find_class ds name) ≡ Some at
    → (find_class ds name ≡ Some at → DeclaresClass ds (top_key name) at) → DeclaresClass (d ∷ ds) (top_key name) at
found_by d ds name at (class_item c) is e again = found_first d ds name c at (same_class c.key (top_key name)) is refl e again
found_by d ds name at (field_item f) is e again = behind d ds (top_key name) at (again e)
found_by d ds name at (method_item m) is e again = behind d ds (top_key name) at (again e)
found_by d ds name at (ctor_item c) is e again = behind d ds (top_key name) at (again e)

pub found_class : (ds : List DeclaredItem) (name : List ℕ) (at : DeclaredClass) → find_class ds name ≡ Some at → DeclaresClass ds (top_key name) at
found_class [] name at e = absurd cc
found_class (d ∷ ds) name at e = found_by d ds name at d.item refl e (λ f. found_class ds name at f)

abbrev pub is_prelude : List ℕ → Bool
is_prelude name = same_name name (codes "Object") || (same_name name (codes "String") || (same_name name (codes "Class") || same_name name (codes "Thread")))

prelude_is : (name : List ℕ) → is_prelude name ≡ true → IsPreludeClass name
prelude_is name e =
    elim (either_is (same_name name (codes "Object")) (same_name name (codes "String") || (same_name name (codes "Class") || same_name name (codes "Thread"))) e) [
      | inl a ↦ inl ((bytes_decides name (codes "Object")).0 a)
      | inr f ↦ elim (either_is (same_name name (codes "String")) (same_name name (codes "Class") || same_name name (codes "Thread")) f) [
        | inl a ↦ inr (inl ((bytes_decides name (codes "String")).0 a))
        | inr g ↦ elim (either_is (same_name name (codes "Class")) (same_name name (codes "Thread")) g) [
          | inl a ↦ inr (inr (inl ((bytes_decides name (codes "Class")).0 a)))
          | inr a ↦ inr (inr (inr ((bytes_decides name (codes "Thread")).0 a)))
        ]
      ]
    ]

-- ---- no class is a member of another

abbrev pub is_top_item : Item → Bool
is_top_item (class_item c) = is_none c.key.outer
is_top_item (field_item f) = true
is_top_item (method_item m) = true
is_top_item (ctor_item c) = true

abbrev pub all_top : List DeclaredItem → Bool
all_top [] = true
all_top (d ∷ ds) = is_top_item d.item && all_top ds

pub none_is : {X : Type 0} (o : Option X) → is_none o ≡ true → o ≡ None
none_is None e = refl
none_is (Some x) e = absurd cc

top_at : (ds : List DeclaredItem) (n : ℕ) (x : DeclaredItem) → all_top ds ≡ true → slice_get ds n ≡ Some x → is_top_item x.item ≡ true
top_at [] n x t e = absurd cc
top_at (d ∷ ds) zero x t e = let same : d ≡ x = cc in subst (λ (y : DeclaredItem). is_top_item y.item ≡ true) same (and_parts (is_top_item d.item) (all_top ds) t).0
top_at (d ∷ ds) (suc n) x t e = top_at ds n x (and_parts (is_top_item d.item) (all_top ds) t).1 e

module _ (ds : List DeclaredItem) (top : all_top ds ≡ true) where
  pub no_outer : (k : ClassKey) → IsDeclared ds k → k.outer ≡ None
  no_outer k (at, h) = sym (ap (λ (x : ClassKey). x.outer) h.is) ∙ none_is at.key.outer (top_at ds h.number (record { file = h.file; item = class_item at }) top h.stands)

  no_top_member : (up : ℕ) (of name : List ℕ) (q : ClassKey) → TopMemberType ds up of name q → ⊥
  no_top_member zero of name q (is, declared) = let e = sym (no_outer q declared) ∙ ap (λ (x : ClassKey). x.outer) is in absurd cc
  no_top_member (suc up) of name q (p, parent, above, visible, none) = no_top_member up p name q above

  no_member : (looks : ℕ) (outer : Option (List ℕ)) (of name : List ℕ) (q : ClassKey) → TypeWithin ds looks (record { outer = outer; name = of }) name q → ⊥
  no_member zero outer of name q h = h
  no_member (suc looks) outer of name q (inl (none, (up, h))) = no_top_member up of name q h
  no_member (suc looks) None of name q (inr h) = h
  no_member (suc looks) (Some o) of name q (inr (at, p, declared, names, types, rest)) = no_member looks p.outer p.name name q types

  pub no_member_type : (c : ClassKey) (name : List ℕ) (q : ClassKey) → HasMemberType ds c name q → ⊥
  no_member_type c name q (looks, h) = no_member looks c.outer c.name name q h

-- ---- what types mean

abbrev pub meaning : Written → Ty
meaning int = keys.int
meaning boolean = keys.boolean
meaning (named at outer name) = class (top_key name)

abbrev pub meanings : List DeclaredParam → List Ty
meanings ps = map (λ (p : DeclaredParam). meaning p.type) ps

module _ (ds : List DeclaredItem) where
  -- a class that is declared, or the prelude's
  abbrev pub is_top : List ℕ → Bool
  is_top name = is_some (find_class ds name) || is_prelude name

  top_by : (name : List ℕ) (o : Option DeclaredClass) → find_class ds name ≡ o → is_some o || is_prelude name ≡ true → IsTopClass ds name
  top_by name (Some at) is e = inl (at, found_class ds name at is)
  top_by name None is e = inr (prelude_is name e)

  pub top_is : (name : List ℕ) → is_top name ≡ true → IsTopClass ds name
  top_is name e = top_by name (find_class ds name) refl e

  abbrev pub has_meaning : Written → Bool
  has_meaning int = true
  has_meaning boolean = true
  has_meaning (named at None name) = is_top name
  has_meaning (named at (Some o) name) = false

  abbrev pub have_meanings : List DeclaredParam → Bool
  have_meanings [] = true
  have_meanings (p ∷ ps) = has_meaning p.type && have_meanings ps

  module _ (top : all_top ds ≡ true) (k : ClassKey) (outer : k.outer ≡ None) where
    pub means : (w : Written) → has_meaning w ≡ true → Means ds k w (meaning w)
    means int e = refl
    means boolean e = refl
    means (named at None name) e = (top_key name, refl, inr (λ r h. no_member_type ds top k name r h, subst (λ (o : Option (List ℕ)). FindsAround ds o name (top_key name)) (sym outer) (refl, top_is name e)))
    means (named at (Some o) name) e = absurd cc

    pub one_meaning : (w : Written) (t : Ty) → has_meaning w ≡ true → Means ds k w t → t ≡ meaning w
    one_meaning int t e h = h
    one_meaning boolean t e h = h
    one_meaning (named at None name) t e (q, is, inl member) = absurd (no_member_type ds top k name q member)
    one_meaning (named at None name) t e (q, is, inr (none, around)) = is ∙ ap class (subst (λ (o : Option (List ℕ)). FindsAround ds o name q) outer around).0
    one_meaning (named at (Some o) name) t e h = absurd cc

    pub mean : (ps : List DeclaredParam) → have_meanings ps ≡ true → MeanTypes ds k ps (meanings ps)
    mean [] e = tt
    mean (p ∷ ps) e = let t = and_parts (has_meaning p.type) (have_meanings ps) e in (means p.type t.0, mean ps t.1)

    pub one_mean : (ps : List DeclaredParam) (ts : List Ty) → have_meanings ps ≡ true → MeanTypes ds k ps ts → ts ≡ meanings ps
    one_mean [] [] e h = refl
    one_mean [] (t ∷ ts) e h = absurd h
    one_mean (p ∷ ps) [] e h = absurd h
    one_mean (p ∷ ps) (t ∷ ts) e h = let u = and_parts (has_meaning p.type) (have_meanings ps) e in λ i. one_meaning p.type t u.0 h.0 i ∷ one_mean ps ts u.1 h.1 i
