-- The numbers of a program's classes: which class a number stands for, and that it is one number.
use Rattle.std.proofs.Common.{◌≡◌, ℕ, zero, suc, ◌+◌, ◌<◌, ◌≤◌, List, [], ◌∷◌, length, map, Option, Some, None, Bool, true, false, refl, sym, ap, subst, ◌∙◌, inl, inr, arith, eq-eqb}
use Rattle.std.specs.Prelude.{nat_eq, slice_get, option_and_then, option_map, unwrap_or, codes, ◌⊎◌, ◌↔◌, ◌||◌}
use Rattle.std.specs.Option.{MatchOption}
use Rattle.std.specs.List.{list_any}
use Rattle.jr_ast.specs.declared.operators.ModWord.{ModWord}
use Rattle.jr_ast.specs.declared.operators.ModWord.TheVariants as word
use Rattle.jr_table.specs.declared.kinds.DeclKind.TheVariants as kind
use Rattle.jr_table.specs.Entries.{is_private_word}
use Rattle.jr_table.specs.Keys.{ClassKey}
use Rattle.jr_table.specs.Prelude.{top_key, object_key}
use Rattle.jr_table.specs.DeclaredItems.{DeclaredClass, Item, class_item, field_item, method_item, ctor_item, DeclaredItem}
use Rattle.jr_table.specs.Resolving.{HasWord, DeclaresClass, IsDeclared, IsTopClass, IsPreludeClass, IsPreludeSubclass, IsPrivateClass}
use Rattle.jr_table.specs.Faults.{At, Place, HasFault}
use Rattle.jr_build_declared.specs.KeyIndex.{class_key_at}
use Rattle.jr_build_hierarchy.specs.Hierarchies.{Hierarchy, class_keys, prelude_classes, is_private_item, privates_of, key_at, is_private_at, inner_key}
use Rattle.jr_build_hierarchy.specs.Superclasses.{AreUnique, HasClasses}

pub inside : {X : Type 0} (x y : X) → Some x ≡ Some y → x ≡ y
inside x y e = cc

abbrev pub within : List (Option ClassKey) → ℕ → Option ClassKey
within ks j = option_and_then (λ k. k) (slice_get ks j)

-- declaration j declares class k
abbrev pub Declares : List DeclaredItem → ℕ → ClassKey → Type 0
Declares declarations j k = (file : ℕ) × (c : DeclaredClass) × At declarations j file (class_item c) × (c.key ≡ k)

-- class k is the prelude's, with number m among its classes
abbrev pub IsPreludeAt : ℕ → ClassKey → Type 0
IsPreludeAt m k = within prelude_classes m ≡ Some k

declares_more : (s : DeclaredItem) (ss : List DeclaredItem) (j : ℕ) (k : ClassKey) → Declares ss j k → Declares (s ∷ ss) (suc j) k
declares_more s ss j k (file, c, at, e) = (file, c, record { stands = at.stands }, e)

-- the class of a number
pub split : (declarations : List DeclaredItem) (j : ℕ) (k : ClassKey) → within (class_keys declarations) j ≡ Some k
    → Declares declarations j k ⊎ ((m : ℕ) × (j ≡ length declarations + m) × IsPreludeAt m k)
split [] j k h = inr (j, omega arith, h)
split (s ∷ ss) zero k h = inl (by s.item refl h)
  where
    by : (i : Item) → s.item ≡ i → class_key_at i ≡ Some k → Declares (s ∷ ss) zero k
    by (class_item c) e h = (s.file, c, record { stands = λ i. Some (record { file = s.file; item = e i }) }, inside _ _ h)
    by (field_item f) e h = absurd cc
    by (method_item m) e h = absurd cc
    by (ctor_item c) e h = absurd cc
split (s ∷ ss) (suc j) k h = by (split ss j k h)
  where
    by : Declares ss j k ⊎ ((m : ℕ) × (j ≡ length ss + m) × IsPreludeAt m k)
        → Declares (s ∷ ss) (suc j) k ⊎ ((m : ℕ) × (suc j ≡ length (s ∷ ss) + m) × IsPreludeAt m k)
    by (inl d) = inl (declares_more s ss j k d)
    by (inr (m, e, p)) = inr (m, omega (arith, e), p)

pub stands_at : (declarations : List DeclaredItem) (j file : ℕ) (c : DeclaredClass) → slice_get declarations j ≡ Some (record { file = file; item = class_item c })
    → within (class_keys declarations) j ≡ Some c.key
stands_at [] j file c h = absurd cc
stands_at (s ∷ ss) zero file c h = ap (λ (x : DeclaredItem). class_key_at x.item) (inside _ _ h)
stands_at (s ∷ ss) (suc j) file c h = stands_at ss j file c h

pub prelude_stands : (declarations : List DeclaredItem) (m : ℕ) (k : ClassKey) → IsPreludeAt m k → within (class_keys declarations) (length declarations + m) ≡ Some k
prelude_stands [] m k h = let e : 0 + m ≡ m = omega arith in ap (within prelude_classes) e ∙ h
prelude_stands (s ∷ ss) m k h = let e : suc (length ss) + m ≡ suc (length ss + m) = omega arith in ap (within (class_keys (s ∷ ss))) e ∙ prelude_stands ss m k h

-- the prelude's classes

name_of : ClassKey → List ℕ
name_of k = k.name

pub prelude_class : (m : ℕ) (k : ClassKey) → IsPreludeAt m k → (k.outer ≡ None) × IsPreludeClass k.name × ((m ≡ 0) ⊎ IsPreludeSubclass k.name)
prelude_class zero k h = let e = inside _ _ h in (ap (λ (x : ClassKey). x.outer) (sym e), inl (ap (λ (x : ClassKey). x.name) (sym e)), inl refl)
prelude_class (suc zero) k h =
    let e = inside _ _ h in let s : IsPreludeSubclass k.name = inl (ap (λ (x : ClassKey). x.name) (sym e)) in
    (ap (λ (x : ClassKey). x.outer) (sym e), inr s, inr s)
prelude_class (suc (suc zero)) k h =
    let e = inside _ _ h in let s : IsPreludeSubclass k.name = inr (inl (ap (λ (x : ClassKey). x.name) (sym e))) in
    (ap (λ (x : ClassKey). x.outer) (sym e), inr s, inr s)
prelude_class (suc (suc (suc zero))) k h =
    let e = inside _ _ h in let s : IsPreludeSubclass k.name = inr (inr (ap (λ (x : ClassKey). x.name) (sym e))) in
    (ap (λ (x : ClassKey). x.outer) (sym e), inr s, inr s)
prelude_class (suc (suc (suc (suc m)))) k h = absurd cc

pub prelude_has : (name : List ℕ) → IsPreludeClass name → (m : ℕ) × IsPreludeAt m (top_key name)
prelude_has name (inl e) = (0, λ i. Some (top_key (sym e i)))
prelude_has name (inr (inl e)) = (1, λ i. Some (top_key (sym e i)))
prelude_has name (inr (inr (inl e))) = (2, λ i. Some (top_key (sym e i)))
prelude_has name (inr (inr (inr e))) = (3, λ i. Some (top_key (sym e i)))

initial : List ℕ → ℕ
initial [] = 0
initial (x ∷ xs) = x

-- names that begin with different letters
apart : (x y : List ℕ) (same : Bool) → nat_eq (initial x) (initial y) ≡ same → same ≡ false → x ≡ y → ⊥
apart x y same is none e =
    let t : nat_eq (initial x) (initial x) ≡ false = ap (λ z. nat_eq (initial x) (initial z)) e ∙ is ∙ none in
    let u : nat_eq (initial x) (initial x) ≡ true = eq-eqb (initial x) (initial x) refl in
    absurd cc

pub no_subclass : IsPreludeSubclass (codes "Object") → ⊥
unfolding initial
no_subclass (inl e) = apart (codes "Object") (codes "String") false refl refl e
no_subclass (inr (inl e)) = apart (codes "Object") (codes "Class") false refl refl e
no_subclass (inr (inr e)) = apart (codes "Object") (codes "Thread") false refl refl e

string_class : codes "String" ≡ codes "Class" → ⊥
unfolding initial
string_class e = apart (codes "String") (codes "Class") false refl refl e

string_thread : codes "String" ≡ codes "Thread" → ⊥
unfolding initial
string_thread e = apart (codes "String") (codes "Thread") false refl refl e

class_thread : codes "Class" ≡ codes "Thread" → ⊥
unfolding initial
class_thread e = apart (codes "Class") (codes "Thread") false refl refl e

-- numbers of the prelude's classes differ
prelude_once : (m n : ℕ) (k : ClassKey) → IsPreludeAt m k → IsPreludeAt n k → m ≡ n
prelude_once m n k a b = by m n (prelude_class m k a).2 (prelude_class n k b).2 a b
  where
    names : (x y : List ℕ) → Some (top_key x) ≡ Some k → Some (top_key y) ≡ Some k → x ≡ y
    names x y e f = ap (λ (z : ClassKey). z.name) (inside _ _ (e ∙ sym f))

    object_is : (x : List ℕ) → Some object_key ≡ Some k → Some (top_key x) ≡ Some k → IsPreludeSubclass x → ⊥
    object_is x e f s = no_subclass (subst IsPreludeSubclass (names x (codes "Object") f e) s)

    by : (m n : ℕ) → ((m ≡ 0) ⊎ IsPreludeSubclass k.name) → ((n ≡ 0) ⊎ IsPreludeSubclass k.name) → IsPreludeAt m k → IsPreludeAt n k → m ≡ n
    by zero zero x y a b = refl
    by zero (suc zero) x y a b = absurd (object_is (codes "String") a b (inl refl))
    by zero (suc (suc zero)) x y a b = absurd (object_is (codes "Class") a b (inr (inl refl)))
    by zero (suc (suc (suc zero))) x y a b = absurd (object_is (codes "Thread") a b (inr (inr refl)))
    by zero (suc (suc (suc (suc n)))) x y a b = absurd cc
    by (suc zero) zero x y a b = absurd (object_is (codes "String") b a (inl refl))
    by (suc zero) (suc zero) x y a b = refl
    by (suc zero) (suc (suc zero)) x y a b = absurd (string_class (names _ _ a b))
    by (suc zero) (suc (suc (suc zero))) x y a b = absurd (string_thread (names _ _ a b))
    by (suc zero) (suc (suc (suc (suc n)))) x y a b = absurd cc
    by (suc (suc zero)) zero x y a b = absurd (object_is (codes "Class") b a (inr (inl refl)))
    by (suc (suc zero)) (suc zero) x y a b = absurd (string_class (names _ _ b a))
    by (suc (suc zero)) (suc (suc zero)) x y a b = refl
    by (suc (suc zero)) (suc (suc (suc zero))) x y a b = absurd (class_thread (names _ _ a b))
    by (suc (suc zero)) (suc (suc (suc (suc n)))) x y a b = absurd cc
    by (suc (suc (suc zero))) zero x y a b = absurd (object_is (codes "Thread") b a (inr (inr refl)))
    by (suc (suc (suc zero))) (suc zero) x y a b = absurd (string_thread (names _ _ b a))
    by (suc (suc (suc zero))) (suc (suc zero)) x y a b = absurd (class_thread (names _ _ b a))
    by (suc (suc (suc zero))) (suc (suc (suc zero))) x y a b = refl
    by (suc (suc (suc zero))) (suc (suc (suc (suc n)))) x y a b = absurd cc
    by (suc (suc (suc (suc m)))) n x y a b = absurd cc

-- a word of a list
pub has_private : (ws : List ModWord) → list_any is_private_word ws ≡ true → HasWord ws word.Private
has_private [] h = absurd cc
has_private (w ∷ ws) h = by w refl h (has_private ws)
  where
    by : (v : ModWord) → w ≡ v → (is_private_word v || list_any is_private_word ws) ≡ true
        → (list_any is_private_word ws ≡ true → HasWord ws word.Private) → HasWord (w ∷ ws) word.Private
    by word.Private e h more = inl e
    by word.Public e h more = inr (more h)
    by word.Protected e h more = inr (more h)
    by word.Static e h more = inr (more h)
    by word.Final e h more = inr (more h)
    by word.Synchronized e h more = inr (more h)
    by word.Volatile e h more = inr (more h)

pub any_private : (ws : List ModWord) → HasWord ws word.Private → list_any is_private_word ws ≡ true
any_private [] h = absurd h
any_private (w ∷ ws) (inl e) = ap (λ v. is_private_word v || list_any is_private_word ws) e
any_private (w ∷ ws) (inr h) = by (is_private_word w) (any_private ws h)
  where
    by : (b : Bool) → list_any is_private_word ws ≡ true → (b || list_any is_private_word ws) ≡ true
    by true e = refl
    by false e = e

private_at : (declarations : List DeclaredItem) (j file : ℕ) (c : DeclaredClass) → slice_get declarations j ≡ Some (record { file = file; item = class_item c })
    → unwrap_or (slice_get (privates_of declarations) j) false ≡ list_any is_private_word c.modifiers
private_at [] j file c h = absurd cc
private_at (s ∷ ss) zero file c h = ap (λ (x : DeclaredItem). is_private_item x.item) (inside _ _ h)
private_at (s ∷ ss) (suc j) file c h = private_at ss j file c h

none_behind : (declarations : List DeclaredItem) (m : ℕ) → unwrap_or (slice_get (privates_of declarations) (length declarations + m)) false ≡ false
none_behind [] m = refl
none_behind (s ∷ ss) m = let e : suc (length ss) + m ≡ suc (length ss + m) = omega arith in ap (λ n. unwrap_or (slice_get (privates_of (s ∷ ss)) n) false) e ∙ none_behind ss m

module _ (declarations : List DeclaredItem) (unique : AreUnique declarations) where
  order : (a b : ℕ) → ((a < b) ⊎ (b < a)) ⊎ (a ≡ b)
  order a b = grind arith

  -- one declaration declares a class
  one_declares : (i j : ℕ) (k : ClassKey) → Declares declarations i k → Declares declarations j k → i ≡ j
  one_declares i j k (f, c, a, e) (g, d, b, e') = by (order i j)
    where
      by : (((i < j) ⊎ (j < i)) ⊎ (i ≡ j)) → i ≡ j
      by (inr same) = same
      by (inl (inl lt)) = absurd (unique.once (record { file = g; at = d.at }) (j, d, b, refl, inl (i, f, c, lt, a, e ∙ sym e')))
      by (inl (inr lt)) = absurd (unique.once (record { file = f; at = c.at }) (i, c, a, refl, inl (j, g, d, lt, b, e' ∙ sym e)))

  pub not_reserved : (j : ℕ) (k : ClassKey) → Declares declarations j k → IsPreludeClass k.name → ⊥
  not_reserved j k (f, c, a, e) is = unique.unreserved (record { file = f; at = c.at }) (j, c, a, inl (subst (λ (x : ClassKey). IsPreludeClass x.name) (sym e) is), refl)

  pub one_number : (i j : ℕ) (k : ClassKey) → within (class_keys declarations) i ≡ Some k → within (class_keys declarations) j ≡ Some k → i ≡ j
  one_number i j k a b = by (split declarations i k a) (split declarations j k b)
    where
      by : (Declares declarations i k ⊎ ((m : ℕ) × (i ≡ length declarations + m) × IsPreludeAt m k)) → (Declares declarations j k ⊎ ((m : ℕ) × (j ≡ length declarations + m) × IsPreludeAt m k)) → i ≡ j
      by (inl d) (inl e) = one_declares i j k d e
      by (inl d) (inr (n, e, p)) = absurd (not_reserved i k d (prelude_class n k p).1)
      by (inr (m, e, p)) (inl d) = absurd (not_reserved j k d (prelude_class m k p).1)
      by (inr (m, e, p)) (inr (n, f, q)) = e ∙ ap (λ x. length declarations + x) (prelude_once m n k p q) ∙ sym f

-- one number has one declaration
pub one_declaration : (declarations : List DeclaredItem) (n f g : ℕ) (x y : Item) → slice_get declarations n ≡ Some (record { file = f; item = x }) → slice_get declarations n ≡ Some (record { file = g; item = y }) → (f ≡ g) × (x ≡ y)
one_declaration declarations n f g x y h k =
    let s = inside _ _ (sym h ∙ k) in
    (ap (λ (z : DeclaredItem). z.file) s, ap (λ (z : DeclaredItem). z.item) s)

pub class_in : Item → DeclaredClass → DeclaredClass
class_in (class_item c) d = c
class_in _ d = d

pub same_class_declaration : (c d : DeclaredClass) → class_item c ≡ class_item d → c ≡ d
same_class_declaration c d e = cc

module _ (declarations : List DeclaredItem) (h : Hierarchy) (has : HasClasses declarations h) where
  pub to_within : (j : ℕ) (k : ClassKey) → key_at h j ≡ Some k → within (class_keys declarations) j ≡ Some k
  to_within j k e = ap (λ ks. within ks j) (sym has.keys) ∙ e

  pub from_within : (j : ℕ) (k : ClassKey) → within (class_keys declarations) j ≡ Some k → key_at h j ≡ Some k
  from_within j k e = ap (λ ks. within ks j) has.keys ∙ e

  pub same_number : (i j : ℕ) (k : ClassKey) → key_at h i ≡ Some k → key_at h j ≡ Some k → i ≡ j
  same_number i j k a b = one_number declarations has.unique i j k (to_within i k a) (to_within j k b)

  pub number_has : (k : ClassKey) (j : ℕ) → h.number k ≡ Some j → key_at h j ≡ Some k
  number_has k j e = subst (λ o. MatchOption o ((i : ℕ) → key_at h i ≡ Some k → ⊥) (λ i. key_at h i ≡ Some k)) e (has.finds k)

  pub number_none : (k : ClassKey) → h.number k ≡ None → (i : ℕ) → key_at h i ≡ Some k → ⊥
  number_none k e = subst (λ o. MatchOption o ((i : ℕ) → key_at h i ≡ Some k → ⊥) (λ i. key_at h i ≡ Some k)) e (has.finds k)

  pub number_is : (k : ClassKey) (j : ℕ) → key_at h j ≡ Some k → h.number k ≡ Some j
  number_is k j e = by (h.number k) refl
    where
      by : (o : Option ℕ) → h.number k ≡ o → h.number k ≡ Some j
      by None n = absurd (number_none k n j e)
      by (Some i) n = n ∙ ap Some (same_number i j k (number_has k i n) e)

  -- declared classes
  pub declared_number : (k : ClassKey) (c : DeclaredClass) (d : DeclaresClass declarations k c) → key_at h d.number ≡ Some k
  declared_number k c d = from_within d.number k (stands_at declarations d.number d.file c d.stands ∙ ap Some d.is)

  pub is_declared : (k : ClassKey) → IsDeclared declarations k → (j : ℕ) × (key_at h j ≡ Some k)
  is_declared k (c, d) = (d.number, declared_number k c d)

  pub declares_class : (j : ℕ) (k : ClassKey) → Declares declarations j k → IsDeclared declarations k
  declares_class j k (f, c, a, e) = (c, record { number = j; file = f; stands = a.stands; is = e })

  pub one_class : (k : ClassKey) (c d : DeclaredClass) → DeclaresClass declarations k c → DeclaresClass declarations k d → c ≡ d
  one_class k c d a b =
      let e = same_number a.number b.number k (declared_number k c a) (declared_number k d b) in
      same_class_declaration c d (one_declaration declarations b.number a.file b.file (class_item c) (class_item d) (ap (slice_get declarations) (sym e) ∙ a.stands) b.stands).1

  -- the classes of numbers
  pub declares_at : (j : ℕ) (k : ClassKey) → key_at h j ≡ Some k → Declares declarations j k ⊎ ((m : ℕ) × (j ≡ length declarations + m) × IsPreludeAt m k)
  declares_at j k e = split declarations j k (to_within j k e)

  top_eta : (k : ClassKey) → k.outer ≡ None → k ≡ top_key k.name
  top_eta k e = λ i. record { outer = e i; name = k.name }

  pub top_class : (j : ℕ) (name : List ℕ) → key_at h j ≡ Some (top_key name) → IsTopClass declarations name
  top_class j name e = by (declares_at j (top_key name) e)
    where
      by : (Declares declarations j (top_key name) ⊎ ((m : ℕ) × (j ≡ length declarations + m) × IsPreludeAt m (top_key name))) → IsTopClass declarations name
      by (inl d) = inl (declares_class j (top_key name) d)
      by (inr (m, e, p)) = inr (prelude_class m (top_key name) p).1

  pub top_number : (name : List ℕ) → IsTopClass declarations name → (j : ℕ) × (key_at h j ≡ Some (top_key name))
  top_number name (inl d) = is_declared (top_key name) d
  top_number name (inr p) =
      let m = prelude_has name p in
      (length declarations + m.0, from_within (length declarations + m.0) (top_key name) (prelude_stands declarations m.0 (top_key name) m.1))

  pub inner_declared : (j : ℕ) (k : ClassKey) (outer : List ℕ) → key_at h j ≡ Some k → k.outer ≡ Some outer → Declares declarations j k
  inner_declared j k outer e some = by (declares_at j k e)
    where
      by : (Declares declarations j k ⊎ ((m : ℕ) × (j ≡ length declarations + m) × IsPreludeAt m k)) → Declares declarations j k
      by (inl d) = d
      by (inr (m, e, p)) = let n = (prelude_class m k p).0 in absurd cc

  -- privacy
  is_private : (j : ℕ) → is_private_at h j ≡ unwrap_or (slice_get (privates_of declarations) j) false
  is_private j = ap (λ ps. unwrap_or (slice_get ps j) false) has.privates

  pub private_class : (j : ℕ) (k : ClassKey) → key_at h j ≡ Some k → is_private_at h j ≡ true → IsPrivateClass declarations k
  private_class j k e t = by (declares_at j k e)
    where
      by : (Declares declarations j k ⊎ ((m : ℕ) × (j ≡ length declarations + m) × IsPreludeAt m k)) → IsPrivateClass declarations k
      by (inl (f, c, a, is)) = (c, record { number = j; file = f; stands = a.stands; is = is }, has_private c.modifiers (sym (private_at declarations j f c a.stands) ∙ sym (is_private j) ∙ t))
      by (inr (m, same, p)) =
          let f : is_private_at h j ≡ false = is_private j ∙ ap (λ n. unwrap_or (slice_get (privates_of declarations) n) false) same ∙ none_behind declarations m in
          absurd cc

  pub class_private : (j : ℕ) (k : ClassKey) → key_at h j ≡ Some k → IsPrivateClass declarations k → is_private_at h j ≡ true
  class_private j k e (c, d, w) =
      let same = same_number d.number j k (declared_number k c d) e in
      ap (is_private_at h) (sym same) ∙ is_private d.number ∙ private_at declarations d.number d.file c d.stands ∙ any_private c.modifiers w
