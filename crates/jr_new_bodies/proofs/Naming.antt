-- What is found by the place of its last word is the class that an expression names in front of a
-- dot.
use Rattle.std.proofs.Common.{◌≡◌, ℕ, ◌<◌, List, Option, Some, None, refl, sym, ap, subst, ◌∙◌, inl, inr, arith}
use Rattle.std.specs.Prelude.{option_and_then}
use Rattle.jr_ast.specs.Tree as tree
use Rattle.jr_ast.specs.Marks.{exp_mark}
use Rattle.jr_table.specs.Keys.{ClassKey, FieldKey}
use Rattle.jr_table.specs.Decls.{Decl, class_decl, field_decl, method_decl, constructor_decl, local_decl}
use Rattle.jr_table.specs.Rows.{Row}
use Rattle.jr_table.specs.Conditions.{AreRows}
use Rattle.jr_table.specs.Found.{one, nothing}
use Rattle.jr_table.specs.LookupLaws.{KeysAreFound}
use Rattle.jr_table.specs.BindingLaws.{IsBound}
use Rattle.jr_table.specs.Lookup.{FindsLeft, FindsLeftOf}
use Rattle.jr_table.specs.Context.{Context, scope_of}
use Rattle.jr_table.specs.Binding.{left, Sought, variable, type, word_at, IsClassName, FieldFinds, DottedFinds}
use Rattle.jr_table.specs.Somewhere.{Somewhere}
use Rattle.jr_table.specs.Meanings.{find_left, find_left_of, class_name_of, class_on, field_found}
use Rattle.jr_table.proofs.Typing.{left_iff, left_of_iff}
use Rattle.jr_bind_expr.specs.Fits.{FitsExp}
use Rattle.jr_new_bodies.specs.declared.here.Here as raw
use Rattle.jr_ast.proofs.Sizes.{exp_size}
use Rattle.jr_new_words.specs.Mappings.{Mapping}
use Rattle.jr_images.specs.Words.{InFront}
use Rattle.jr_new_words.specs.Mappings.{FirstStands, NextStands}
use Rattle.jr_new_words.specs.Spelled.{WordsStand}
use Rattle.jr_new_bodies.specs.Known.{rows_of, found_at, SoundExp, RefersExp}
use Rattle.jr_new_bodies.specs.MeaningView.{class_in, last_word, front, IsNamed}
use Rattle.jr_new_bodies.proofs.Sorts.{found_field}
use Rattle.jr_new_bodies.proofs.Bound.{name_bound, dotted_bound}
use Rattle.jr_new_bodies.proofs.Choices.{the_one}

inside : (d e : Decl) → Some d ≡ Some e → d ≡ e
inside d e h = cc

word_inside : {A : Type 0} (v w : tree.Word A) → Some v ≡ Some w → v ≡ w
word_inside v w h = cc

no_field : (k : ClassKey) (d : Decl) → ((f : FieldKey) × (d ≡ field_decl f)) → d ≡ class_decl k → ⊥
no_field k d (f, is) e = let x : field_decl f ≡ class_decl k = sym is ∙ e in absurd cc

module _ {A : Type 0} (rows : List Row) (c : Context) (e : tree.Exp A) where
  by_decl : (d : Decl) (o : Option ClassKey) → o ≡ class_in d → ((k : ClassKey) → d ≡ class_decl k → IsClassName rows c e k) → ((k : ClassKey) → IsClassName rows c e k → d ≡ class_decl k) → IsNamed rows c e o
  by_decl (class_decl k) o is to back = subst (IsNamed rows c e) (sym is) (to k refl)
  by_decl (field_decl f) o is to back = subst (IsNamed rows c e) (sym is) (λ k x. let y = back k x in absurd cc)
  by_decl (method_decl f) o is to back = subst (IsNamed rows c e) (sym is) (λ k x. let y = back k x in absurd cc)
  by_decl (constructor_decl f) o is to back = subst (IsNamed rows c e) (sym is) (λ k x. let y = back k x in absurd cc)
  by_decl (local_decl f) o is to back = subst (IsNamed rows c e) (sym is) (λ k x. let y = back k x in absurd cc)

module _ {A : Type 0} (begins : A → ℕ → ℕ) (h : raw.Here) (are : AreRows (rows_of h)) (keys : KeysAreFound (rows_of h)) (c : Context) (exact : IsBound A (rows_of h) c) (base : ℕ) where
  abbrev rows : List Row
  rows = rows_of h

  by_name : (m : A) (w : tree.Word A) → SoundExp begins rows c left base (tree.name m w) → RefersExp begins h c left base (tree.name m w)
      → (o : Option ClassKey) → o ≡ option_and_then class_in (found_at h (word_at begins m base w)) → IsNamed rows c (tree.name m w) o
  unfolding Somewhere IsClassName
  by_name m w sound refers o is =
      let bound = name_bound begins rows c left base m w sound in
      let there = the_one (find_left rows (scope_of c) w.text) (FindsLeft rows (scope_of c) w.text) (left_iff rows are keys c w.text) (λ f x. bound type f (refl, x)) in
      by_decl rows c (tree.name m w) there.0 o (is ∙ ap (option_and_then class_in) (found there.0 there.1))
      (λ k e. subst (λ d. FindsLeft rows (scope_of c) w.text (one d)) e there.1)
      (λ k x. inside there.0 (class_decl k) (sym (found there.0 there.1) ∙ found (class_decl k) x))
    where
      found : (d : Decl) → FindsLeft rows (scope_of c) w.text (one d) → found_at h (word_at begins m base w) ≡ Some d
      found d x = refers (word_at begins m base w) d (type, (refl, (refl, x)))

  -- what stands behind a dot is one declaration
  dotted_there : (m : A) (e : tree.Exp A) (w : tree.Word A) → SoundExp begins rows c left base (tree.field m e w) → (q : Sought) × (d : Decl) × DottedFinds begins rows c left e w.text q (one d)
  dotted_there m e w sound = by (class_name_of rows c e) refl
    where
      by : (o : Option ClassKey) → class_name_of rows c e ≡ o → (q : Sought) × (d : Decl) × DottedFinds begins rows c left e w.text q (one d)
      by (Some k) is =
          let on = (exact.names e k).0 is in
          let there = the_one (find_left_of rows (scope_of c) k w.text) (FindsLeftOf rows (scope_of c) k w.text) (left_of_iff rows are keys c k w.text)
          (λ f x. dotted_bound begins rows c left base m e w sound type f (inl (k, on, refl, x))) in
          (type, there.0, inl (k, on, refl, there.1))
      by None is =
          let none : (k : ClassKey) → IsClassName rows c e k → ⊥ = λ k x. let y = sym is ∙ (exact.names e k).1 x in absurd cc in
          let there = the_one (field_found rows c (class_on rows c e) w.text) (FieldFinds rows c e w.text) (exact.fields e w.text)
          (λ f x. dotted_bound begins rows c left base m e w sound variable f (inr (none, refl, x))) in
          (variable, there.0, inr (none, refl, there.1))

  no_one : (d : Decl) → one d ≡ nothing → ⊥
  no_one d e = absurd cc

  names_class : (m : A) (e : tree.Exp A) (w : tree.Word A) (q : Sought) (d : Decl) → DottedFinds begins rows c left e w.text q (one d) → (k : ClassKey) → d ≡ class_decl k → IsClassName rows c (tree.field m e w) k
  unfolding IsClassName
  names_class m e w q d (inl (o, on, is, finds)) k same = (o, on, subst (λ x. FindsLeftOf rows (scope_of c) o w.text (one x)) same finds)
  names_class m e w q d (inr (none, is, inl (o, on, finds))) k same = absurd (no_field k d (found_field rows (scope_of c) o w.text d finds) same)
  names_class m e w q d (inr (none, is, inr (lacks, never))) k same = absurd (no_one d never)

  by_field : (m : A) (e : tree.Exp A) (w : tree.Word A) → SoundExp begins rows c left base (tree.field m e w) → RefersExp begins h c left base (tree.field m e w)
      → (o : Option ClassKey) → o ≡ option_and_then class_in (found_at h (word_at begins m base w)) → IsNamed rows c (tree.field m e w) o
  unfolding IsClassName Somewhere
  by_field m e w sound refers o is =
      let there = dotted_there m e w sound in
      by_decl rows c (tree.field m e w) there.1 o (is ∙ ap (option_and_then class_in) (found there.0 there.1 there.2))
      (λ k same. names_class m e w there.0 there.1 there.2 k same)
      (λ k x. inside there.1 (class_decl k) (sym (found there.0 there.1 there.2) ∙ found type (class_decl k) (inl (x.0, x.1, refl, x.2))))
    where
      found : (q : Sought) (d : Decl) → DottedFinds begins rows c left e w.text q (one d) → found_at h (word_at begins m base w) ≡ Some d
      found q d x = refers (word_at begins m base w) d (inl (q, (refl, x)))

  pub named_is : (e : tree.Exp A) (w : tree.Word A) (at : ℕ) → last_word e ≡ Some w → at ≡ word_at begins (exp_mark e) base w → SoundExp begins rows c left base e → RefersExp begins h c left base e
      → (o : Option ClassKey) → o ≡ option_and_then class_in (found_at h at) → IsNamed rows c e o
  named_is (tree.name m v) w at last is sound refers o found =
      by_name m v sound refers o (found ∙ ap (λ n. option_and_then class_in (found_at h n)) (is ∙ ap (word_at begins m base) (sym (word_inside v w last))))
  named_is (tree.field m e v) w at last is sound refers o found =
      by_field m e v sound refers o (found ∙ ap (λ n. option_and_then class_in (found_at h n)) (is ∙ ap (word_at begins m base) (sym (word_inside v w last))))
  named_is (tree.number m n) w at last is sound refers o found = absurd cc
  named_is (tree.truth m b) w at last is sound refers o found = absurd cc
  named_is (tree.null m) w at last is sound refers o found = absurd cc
  named_is (tree.string m t) w at last is sound refers o found = absurd cc
  named_is (tree.super_field m v) w at last is sound refers o found = absurd cc
  named_is (tree.this m) w at last is sound refers o found = absurd cc
  named_is (tree.class_literal m t) w at last is sound refers o found = absurd cc
  named_is (tree.call m to v args) w at last is sound refers o found = absurd cc
  named_is (tree.super_call m v args) w at last is sound refers o found = absurd cc
  named_is (tree.create m t args) w at last is sound refers o found = absurd cc
  named_is (tree.paren m e) w at last is sound refers o found = absurd cc
  named_is (tree.cast m t e) w at last is sound refers o found = absurd cc
  named_is (tree.unary m op e) w at last is sound refers o found = absurd cc
  named_is (tree.bump m op e) w at last is sound refers o found = absurd cc
  named_is (tree.binary m op x y) w at last is sound refers o found = absurd cc
  named_is (tree.assign m x y) w at last is sound refers o found = absurd cc
  named_is (tree.compound m op x y) w at last is sound refers o found = absurd cc

pub unnamed : {A : Type 0} (rows : List Row) (c : Context) (e : tree.Exp A) → last_word e ≡ None → IsNamed rows c e None
unfolding IsClassName
unnamed rows c (tree.name m w) none = absurd cc
unnamed rows c (tree.field m e w) none = absurd cc
unnamed rows c (tree.number m n) none = λ k x. x
unnamed rows c (tree.truth m b) none = λ k x. x
unnamed rows c (tree.null m) none = λ k x. x
unnamed rows c (tree.string m t) none = λ k x. x
unnamed rows c (tree.super_field m v) none = λ k x. x
unnamed rows c (tree.this m) none = λ k x. x
unnamed rows c (tree.class_literal m t) none = λ k x. x
unnamed rows c (tree.call m to v args) none = λ k x. x
unnamed rows c (tree.super_call m v args) none = λ k x. x
unnamed rows c (tree.create m t args) none = λ k x. x
unnamed rows c (tree.paren m e) none = λ k x. x
unnamed rows c (tree.cast m t e) none = λ k x. x
unnamed rows c (tree.unary m op e) none = λ k x. x
unnamed rows c (tree.bump m op e) none = λ k x. x
unnamed rows c (tree.binary m op x y) none = λ k x. x
unnamed rows c (tree.assign m x y) none = λ k x. x
unnamed rows c (tree.compound m op x y) none = λ k x. x

-- the word's place fits
pub word_fits : {A : Type 0} (begins : A → ℕ → ℕ) (Fits : A → ℕ → Type 0) (base : ℕ) (e : tree.Exp A) (w : tree.Word A) → last_word e ≡ Some w → FitsExp begins Fits base e → Fits w.mark (begins (exp_mark e) base)
unfolding FitsExp
word_fits begins Fits base (tree.name m v) w last h = subst (λ (x : tree.Word _). Fits x.mark (begins m base)) (word_inside v w last) h.1
word_fits begins Fits base (tree.field m e v) w last h = subst (λ (x : tree.Word _). Fits x.mark (begins m base)) (word_inside v w last) h.2
word_fits begins Fits base (tree.number m n) w last h = absurd cc
word_fits begins Fits base (tree.truth m b) w last h = absurd cc
word_fits begins Fits base (tree.null m) w last h = absurd cc
word_fits begins Fits base (tree.string m t) w last h = absurd cc
word_fits begins Fits base (tree.super_field m v) w last h = absurd cc
word_fits begins Fits base (tree.this m) w last h = absurd cc
word_fits begins Fits base (tree.class_literal m t) w last h = absurd cc
word_fits begins Fits base (tree.call m to v args) w last h = absurd cc
word_fits begins Fits base (tree.super_call m v args) w last h = absurd cc
word_fits begins Fits base (tree.create m t args) w last h = absurd cc
word_fits begins Fits base (tree.paren m e) w last h = absurd cc
word_fits begins Fits base (tree.cast m t e) w last h = absurd cc
word_fits begins Fits base (tree.unary m op e) w last h = absurd cc
word_fits begins Fits base (tree.bump m op e) w last h = absurd cc
word_fits begins Fits base (tree.binary m op x y) w last h = absurd cc
word_fits begins Fits base (tree.assign m x y) w last h = absurd cc
word_fits begins Fits base (tree.compound m op x y) w last h = absurd cc

-- ---- what stands in front of its dot

exp_inside : {A : Type 0} (x y : tree.Exp A) → Some x ≡ Some y → x ≡ y
exp_inside x y h = cc

module _ {A : Type 0} (begins : A → ℕ → ℕ) (Fits : A → ℕ → Type 0) (h : raw.Here) (c : Context) (base : ℕ) where
  abbrev pub FrontReady : (at : ℕ) → tree.Exp A → Type 0
  FrontReady at e = FitsExp begins Fits at e × SoundExp begins (rows_of h) c left at e × RefersExp begins h c left at e

  pub front_ready : (e p : tree.Exp A) (at : ℕ) → front e ≡ Some p → at ≡ begins (exp_mark e) base → FrontReady base e → FrontReady at p
  unfolding FitsExp Somewhere
  front_ready (tree.field m e w) p at is start (fits, sound, refers) =
      subst (λ n. FrontReady n p) (sym start) (subst (λ (x : tree.Exp A). FrontReady (begins m base) x) (exp_inside e p is) (fits.1, λ i r x. sound i r (inr x), λ i d x. refers i d (inr x)))
  front_ready (tree.name m v) p at is start ready = absurd cc
  front_ready (tree.number m n) p at is start ready = absurd cc
  front_ready (tree.truth m b) p at is start ready = absurd cc
  front_ready (tree.null m) p at is start ready = absurd cc
  front_ready (tree.string m t) p at is start ready = absurd cc
  front_ready (tree.super_field m v) p at is start ready = absurd cc
  front_ready (tree.this m) p at is start ready = absurd cc
  front_ready (tree.class_literal m t) p at is start ready = absurd cc
  front_ready (tree.call m to v args) p at is start ready = absurd cc
  front_ready (tree.super_call m v args) p at is start ready = absurd cc
  front_ready (tree.create m t args) p at is start ready = absurd cc
  front_ready (tree.paren m e) p at is start ready = absurd cc
  front_ready (tree.cast m t e) p at is start ready = absurd cc
  front_ready (tree.unary m op e) p at is start ready = absurd cc
  front_ready (tree.bump m op e) p at is start ready = absurd cc
  front_ready (tree.binary m op x y) p at is start ready = absurd cc
  front_ready (tree.assign m x y) p at is start ready = absurd cc
  front_ready (tree.compound m op x y) p at is start ready = absurd cc

-- ---- what the words of a class find

pub front_smaller : {A : Type 0} (e p : tree.Exp A) → front e ≡ Some p → exp_size p < exp_size e
unfolding exp_size
front_smaller (tree.field m e w) p is = let s = ap exp_size (exp_inside e p is) in omega (arith, s)
front_smaller (tree.name m v) p is = absurd cc
front_smaller (tree.number m n) p is = absurd cc
front_smaller (tree.truth m b) p is = absurd cc
front_smaller (tree.null m) p is = absurd cc
front_smaller (tree.string m t) p is = absurd cc
front_smaller (tree.super_field m v) p is = absurd cc
front_smaller (tree.this m) p is = absurd cc
front_smaller (tree.class_literal m t) p is = absurd cc
front_smaller (tree.call m to v args) p is = absurd cc
front_smaller (tree.super_call m v args) p is = absurd cc
front_smaller (tree.create m t args) p is = absurd cc
front_smaller (tree.paren m e) p is = absurd cc
front_smaller (tree.cast m t e) p is = absurd cc
front_smaller (tree.unary m op e) p is = absurd cc
front_smaller (tree.bump m op e) p is = absurd cc
front_smaller (tree.binary m op x y) p is = absurd cc
front_smaller (tree.assign m x y) p is = absurd cc
front_smaller (tree.compound m op x y) p is = absurd cc

module _ {A : Type 0} (rows : List Row) (g : Mapping) (c : Context) (k : ClassKey) (w : InFront) where
  -- the first word
  pub first_stands : (e : tree.Exp A) → front e ≡ None → FirstStands rows g c k w → WordsStand rows g c e k w
  first_stands (tree.field m e x) none stands = absurd cc
  first_stands (tree.name m x) none stands = stands
  first_stands (tree.number m n) none stands = stands
  first_stands (tree.truth m b) none stands = stands
  first_stands (tree.null m) none stands = stands
  first_stands (tree.string m t) none stands = stands
  first_stands (tree.super_field m v) none stands = stands
  first_stands (tree.this m) none stands = stands
  first_stands (tree.class_literal m t) none stands = stands
  first_stands (tree.call m to v args) none stands = stands
  first_stands (tree.super_call m v args) none stands = stands
  first_stands (tree.create m t args) none stands = stands
  first_stands (tree.paren m e) none stands = stands
  first_stands (tree.cast m t e) none stands = stands
  first_stands (tree.unary m op e) none stands = stands
  first_stands (tree.bump m op e) none stands = stands
  first_stands (tree.binary m op x y) none stands = stands
  first_stands (tree.assign m x y) none stands = stands
  first_stands (tree.compound m op x y) none stands = stands

  -- a further one, behind what stands in front of its dot
  pub next_stands : (e p : tree.Exp A) → front e ≡ Some p → (o : ClassKey) → IsClassName rows c p o → (v : InFront) → WordsStand rows g c p o v → NextStands rows g c v k w → WordsStand rows g c e k w
  next_stands (tree.field m e x) p is o named v words stands =
      let back = sym (exp_inside e p is) in
      (o, subst (λ (z : tree.Exp A). IsClassName rows c z o) back named, v, subst (λ (z : tree.Exp A). WordsStand rows g c z o v) back words, stands)
  next_stands (tree.name m x) p is o named v words stands = absurd cc
  next_stands (tree.number m n) p is o named v words stands = absurd cc
  next_stands (tree.truth m b) p is o named v words stands = absurd cc
  next_stands (tree.null m) p is o named v words stands = absurd cc
  next_stands (tree.string m t) p is o named v words stands = absurd cc
  next_stands (tree.super_field m x) p is o named v words stands = absurd cc
  next_stands (tree.this m) p is o named v words stands = absurd cc
  next_stands (tree.class_literal m t) p is o named v words stands = absurd cc
  next_stands (tree.call m to x args) p is o named v words stands = absurd cc
  next_stands (tree.super_call m x args) p is o named v words stands = absurd cc
  next_stands (tree.create m t args) p is o named v words stands = absurd cc
  next_stands (tree.paren m e) p is o named v words stands = absurd cc
  next_stands (tree.cast m t e) p is o named v words stands = absurd cc
  next_stands (tree.unary m op e) p is o named v words stands = absurd cc
  next_stands (tree.bump m op e) p is o named v words stands = absurd cc
  next_stands (tree.binary m op x y) p is o named v words stands = absurd cc
  next_stands (tree.assign m x y) p is o named v words stands = absurd cc
  next_stands (tree.compound m op x y) p is o named v words stands = absurd cc

-- what stands in front of the dot of a class's name names a class
module _ {A : Type 0} (rows : List Row) (c : Context) (k : ClassKey) where
  pub front_named : (e p : tree.Exp A) → front e ≡ Some p → IsClassName rows c e k → IsNamed rows c p None → ⊥
  unfolding IsClassName
  front_named (tree.field m e x) p is (o, named, finds) none = none o (subst (λ (z : tree.Exp A). IsClassName rows c z o) (exp_inside e p is) named)
  front_named (tree.name m x) p is named none = absurd cc
  front_named (tree.number m n) p is named none = absurd cc
  front_named (tree.truth m b) p is named none = absurd cc
  front_named (tree.null m) p is named none = absurd cc
  front_named (tree.string m t) p is named none = absurd cc
  front_named (tree.super_field m v) p is named none = absurd cc
  front_named (tree.this m) p is named none = absurd cc
  front_named (tree.class_literal m t) p is named none = absurd cc
  front_named (tree.call m to v args) p is named none = absurd cc
  front_named (tree.super_call m v args) p is named none = absurd cc
  front_named (tree.create m t args) p is named none = absurd cc
  front_named (tree.paren m e) p is named none = absurd cc
  front_named (tree.cast m t e) p is named none = absurd cc
  front_named (tree.unary m op e) p is named none = absurd cc
  front_named (tree.bump m op e) p is named none = absurd cc
  front_named (tree.binary m op x y) p is named none = absurd cc
  front_named (tree.assign m x y) p is named none = absurd cc
  front_named (tree.compound m op x y) p is named none = absurd cc
