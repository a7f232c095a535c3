-- For a simple name, and for a name behind a dot, one thing is chosen.
use Rattle.std.proofs.Common.{◌≡◌, ℕ, List, [], None, sym, subst, ◌∙◌, inl, inr}
use Rattle.std.specs.Prelude.{◌⊎◌}
use Rattle.std.proofs.lemmas.Option.{same_Some}
use Rattle.jr_text.specs.declared.spans.Span.{Span}
use Rattle.jr_ast.specs.Tree as tree
use Rattle.jr_table.specs.Keys.{ClassKey, FieldKey, Ty, class}
use Rattle.jr_table.specs.Decls.{LocalKey, Decl, class_decl, field_decl, local_decl}
use Rattle.jr_table.specs.Rows.{Row}
use Rattle.jr_table.specs.Conditions.{AreRows}
use Rattle.jr_table.specs.Found.{Found, one, nothing}
use Rattle.jr_table.specs.Lookup.{FindsVariable, FindsFieldIn, FindsLeft}
use Rattle.jr_table.specs.LookupLaws.{HasOne, EachHasOne}
use Rattle.jr_table.specs.BindingLaws.{IsBound}
use Rattle.jr_table.specs.Context.{Context, scope_of, IsSuperclass}
use Rattle.jr_table.specs.Binding.{HasType, FindsIn, Role, value, left}
use Rattle.jr_table.specs.Binding as role
use Rattle.jr_spell.specs.declared.references.RefForm.TheVariants as ref
use Rattle.jr_rewrite.specs.Respellings.{Choice}
use Rattle.jr_images.specs.Regions.{Region}
use Rattle.jr_images.specs.Words.{InFront, FindsBehind, FirstWord, NextWord, AreWords, FindsBetween}
use Rattle.jr_images.specs.Spelling.{reference, operand_of, behind_words, on_type, FindsOn, TakenChoice, LocalChoice, OwnFieldChoice, VariableChoice, ClassChoice, OnValueOrClass, FieldChoice, MemberClassChoice, SuperFieldChoice}
use Rattle.jr_program_laws.specs.FileParts.{begins}
use Rattle.jr_program_laws.proofs.FoundOnce.{field_once as one_field, super_field_once as one_super_field}
use Rattle.jr_one_plans.proofs.FoundOnce.{field_key, local_key, value_key, named_once, inner_once, above_once, behind_once}
use Rattle.jr_one_plans.proofs.TakenOnce.{choice_once, lost_once, image_once, on_once}
use Rattle.jr_one_plans.proofs.WordsOnce.{SeenOnce, first_once, between_once, next_once, class_once, words_once}

-- a member class, the class in front of it, and how the words of both stand
record Inner : Type 0 where
  outer : ClassKey
  inner : ClassKey
  front : InFront
  words : InFront

module _ (rows : List Row) (fit : AreRows rows) (each : EachHasOne rows) (bounds : (c : Context) → IsBound Span rows c) (R : Region Span) (seen : SeenOnce R.seen) where
  -- ---- a variable

  local_once : (c : Context) (at : ℕ) (old : List ℕ) (k : LocalKey) → HasOne (LocalChoice begins rows R c at old k)
  local_once c at old k a b x y =
      let name = R.seen.images.name_to (local_decl k) old in
      image_once (R.seen.local_to c k)
      (λ i h. TakenChoice begins rows R (R.seen.scope c) at old name (local_decl k) (local_decl i) (reference ref.AsAsked name None []) (FindsVariable R.seen.images.rows (R.seen.scope c) name) h) _
      (λ i. choice_once rows R (R.seen.scope c) at old name (local_decl k) (local_decl i) (reference ref.AsAsked name None []) (FindsVariable R.seen.images.rows (R.seen.scope c) name) (seen.each.variable (R.seen.scope c) name))
      (lost_once at (local_decl k) (FindsVariable R.seen.images.rows (R.seen.scope c) name) (seen.each.variable (R.seen.scope c) name)) a b x.1 y.1

  own_once : (c : Context) (at : ℕ) (old : List ℕ) (k : FieldKey) → HasOne (OwnFieldChoice begins rows R c at old k)
  own_once c at old k a b x y = choice_once rows R (R.seen.scope c) at old _ (field_decl k) _ _ _ (seen.each.variable (R.seen.scope c) (R.seen.images.field_to k).name) a b x.1 y.1

  abbrev Names : Context → List ℕ → Decl → Type 0
  Names c old d = FindsVariable rows (scope_of c) old (one d)

  apart : (c : Context) (old : List ℕ) (k : LocalKey) (q : FieldKey) → Names c old (local_decl k) → Names c old (field_decl q) → ⊥
  apart c old k q x y = let e = each.variable (scope_of c) old (one (local_decl k)) (one (field_decl q)) x y in absurd cc

  variable_once : (c : Context) (at : ℕ) (old : List ℕ) → HasOne (VariableChoice begins rows R c at old)
  variable_once c at old a b (inl x) (inl y) =
      let same = local_key x.0 y.0 (each.variable (scope_of c) old (one (local_decl x.0)) (one (local_decl y.0)) x.1.0 y.1.0) in
      local_once c at old x.0 a b x.1 (subst (λ (k : LocalKey). LocalChoice begins rows R c at old k b) (sym same) y.1)
  variable_once c at old a b (inr x) (inr y) =
      let same = field_key x.0 y.0 (each.variable (scope_of c) old (one (field_decl x.0)) (one (field_decl y.0)) x.1.0 y.1.0) in
      own_once c at old x.0 a b x.1 (subst (λ (k : FieldKey). OwnFieldChoice begins rows R c at old k b) (sym same) y.1)
  variable_once c at old a b (inl x) (inr y) = absurd (apart c old x.0 y.0 x.1.0 y.1.0)
  variable_once c at old a b (inr x) (inl y) = absurd (apart c old y.0 x.0 y.1.0 x.1.0)

  -- ---- a class in front of a dot

  -- as what is seen finds it, by words that stand so
  abbrev FrontChoice : Context → (at : ℕ) → (old : List ℕ) → (k : ClassKey) → InFront → Choice → Type 0
  FrontChoice c at old k w = TakenChoice begins rows R (R.seen.scope c) at old (R.seen.images.class_to k).name (class_decl k) (class_decl (R.seen.images.class_to k)) (behind_words w (reference ref.ClassInFront (R.seen.images.class_to k).name None []))
      (FindsLeft R.seen.images.rows (R.seen.scope c) (R.seen.images.class_to k).name)

  front_once : (c : Context) (at : ℕ) (old : List ℕ) (k : ClassKey) (w : InFront) → HasOne (FrontChoice c at old k w)
  front_once c at old k w = choice_once rows R (R.seen.scope c) at old _ (class_decl k) _ _ _ (seen.each.left (R.seen.scope c) (R.seen.images.class_to k).name)

  in_front_once : (c : Context) (r : Role) (at : ℕ) (old : List ℕ) → HasOne (ClassChoice begins rows R c r at old)
  in_front_once c left at old a b x y =
      let k : x.0 ≡ y.0 = named_once rows each (scope_of c) old x.0 y.0 x.2 y.2 in
      let there = subst (λ (z : ClassKey). (w : InFront) × FirstWord R.seen c z w × FrontChoice c at old z w b) (sym k) (y.3, y.4, y.5) in
      let w : x.3 ≡ there.0 = first_once R.seen seen c x.0 x.3 there.0 x.4 there.1 in
      front_once c at old x.0 x.3 a b x.5 (subst (λ (z : InFront). FrontChoice c at old x.0 z b) (sym w) there.2)
  in_front_once c value at old a b x y = absurd x
  in_front_once c role.statement at old a b x y = absurd x

  no_variable : (c : Context) (r : Role) (at : ℕ) (old : List ℕ) (a b : Choice) → VariableChoice begins rows R c at old a → ClassChoice begins rows R c r at old b → ⊥
  no_variable c left at old a b (inl x) y = let e = each.variable (scope_of c) old (one (local_decl x.0)) nothing x.1.0 y.1 in absurd cc
  no_variable c left at old a b (inr x) y = let e = each.variable (scope_of c) old (one (field_decl x.0)) nothing x.1.0 y.1 in absurd cc
  no_variable c value at old a b x y = absurd y
  no_variable c role.statement at old a b x y = absurd y

  -- ---- behind a dot

  type_once : (c : Context) (e : tree.Exp Span) → HasOne (HasType rows c e)
  type_once c e t u p q = same_Some t u (sym (((bounds c).types e t).1 p) ∙ ((bounds c).types e u).1 q)

  -- on a value, or through a class
  pub on_either_once : (c : Context) (e : tree.Exp Span) (Value : Ty → Choice → Type 0) (Through : ClassKey → Choice → Type 0) → ((t : Ty) → HasOne (Value t)) → ((k : ClassKey) → HasOne (Through k))
      → HasOne (λ (h : Choice). OnValueOrClass begins rows R c e (λ t. Value t h) (λ k. Through k h))
  on_either_once c e Value Through on through a b (inl x) (inl y) =
      through x.0 a b x.2 (subst (λ (k : ClassKey). Through k b) (sym (class_once R.seen seen c rows (bounds c) e x.0 y.0 x.1 y.1)) y.2)
  on_either_once c e Value Through on through a b (inl x) (inr y) = absurd (y.0 x.0 x.1)
  on_either_once c e Value Through on through a b (inr x) (inl y) = absurd (x.0 y.0 y.1)
  on_either_once c e Value Through on through a b (inr x) (inr y) =
      on (R.type_now c e (class x.1.0)) a b x.1.2
      (subst (λ (k : ClassKey). Value (R.type_now c e (class k)) b) (sym (value_key x.1.0 y.1.0 (type_once c e (class x.1.0) (class y.1.0) x.1.1 y.1.1))) y.1.2)

  -- by words that stand so
  pub through_once : (c : Context) (e : tree.Exp Span) (k : ClassKey) (By : InFront → Choice → Type 0) → ((w : InFront) → HasOne (By w)) → HasOne (λ (h : Choice). (w : InFront) × AreWords rows R.seen c e k w × By w h)
  through_once c e k By each' a b x y =
      each' x.0 a b x.2 (subst (λ (w : InFront). By w b) (sym (words_once R.seen seen c rows (bounds c) e k x.0 y.0 x.1 y.1)) y.2)

  module _ (c : Context) (at : ℕ) (e : tree.Exp Span) (old : List ℕ) where
    abbrev OnValue : FieldKey → Ty → Choice → Type 0
    OnValue q t = TakenChoice begins rows R (R.seen.scope c) at old (R.seen.images.field_to q).name (field_decl q) (field_decl (R.seen.images.field_to q)) (reference ref.FieldOn (R.seen.images.field_to q).name (on_type t) [])
        (FindsOn t (λ k. FindsFieldIn R.seen.images.rows (R.seen.scope c) k (R.seen.images.field_to q).name))

    abbrev ByWords : FieldKey → ClassKey → InFront → Choice → Type 0
    ByWords q k w = TakenChoice begins rows R (R.seen.scope c) at old (R.seen.images.field_to q).name (field_decl q) (field_decl (R.seen.images.field_to q))
        (behind_words w (reference ref.ThroughClass (R.seen.images.field_to q).name (operand_of (R.seen.images.class_to k)) [])) (FindsBehind w (λ o. FindsFieldIn R.seen.images.rows (R.seen.scope c) o (R.seen.images.field_to q).name))

    abbrev Either : FieldKey → Choice → Type 0
    Either q h = OnValueOrClass begins rows R c e (λ t. OnValue q t h) (λ k. (w : InFront) × AreWords rows R.seen c e k w × ByWords q k w h)

    in_class_once : (q : FieldKey) (k : ClassKey) → HasOne (λ (f : Found). FindsFieldIn R.seen.images.rows (R.seen.scope c) k (R.seen.images.field_to q).name f)
    in_class_once q k = seen.each.field_in (R.seen.scope c) k (R.seen.images.field_to q).name

    either_once : (q : FieldKey) → HasOne (Either q)
    either_once q = on_either_once c e (λ t h. OnValue q t h) (λ k h. (w : InFront) × AreWords rows R.seen c e k w × ByWords q k w h)
        (λ t. choice_once rows R (R.seen.scope c) at old _ (field_decl q) _ _ _ (on_once t _ (in_class_once q)))
        (λ k. through_once c e k (λ w h. ByWords q k w h) (λ w. choice_once rows R (R.seen.scope c) at old _ (field_decl q) _ _ _ (behind_once w _ (in_class_once q))))

    field_once : HasOne (FieldChoice begins rows R c at e old)
    field_once a b x y =
        let same = field_key x.0 y.0 (one_field rows fit each c (bounds c) e old (one (field_decl x.0)) (one (field_decl y.0)) x.1 y.1) in
        either_once x.0 a b x.2 (subst (λ (q : FieldKey). Either q b) (sym same) y.2)

    abbrev InnerChoice : Inner → Choice → Type 0
    InnerChoice p = TakenChoice begins rows R (R.seen.scope c) at old (R.seen.images.class_to p.inner).name (class_decl p.inner) (class_decl (R.seen.images.class_to p.inner))
        (behind_words p.words (reference ref.ClassInFront (R.seen.images.class_to p.inner).name (operand_of (R.seen.images.class_to p.outer)) [])) (FindsBetween R.seen c p.front (R.seen.images.class_to p.inner).name)

    inner_choice_once : (p : Inner) → HasOne (InnerChoice p)
    inner_choice_once p = choice_once rows R (R.seen.scope c) at old _ (class_decl p.inner) _ _ _ (between_once R.seen seen c p.front (R.seen.images.class_to p.inner).name)

    member_class_once : (r : Role) → HasOne (MemberClassChoice begins rows R c r at e old)
    member_class_once left a b x y =
        let o : x.0 ≡ y.0 = class_once R.seen seen c rows (bounds c) e x.0 y.0 x.2 y.2 in
        let k : x.1 ≡ y.1 = inner_once rows each (scope_of c) old x.0 y.0 o x.1 y.1 x.4 y.4 in
        let front : x.5 ≡ y.5 = words_once R.seen seen c rows (bounds c) e x.0 x.5 y.5 x.6 (subst (λ (z : ClassKey). AreWords rows R.seen c e z y.5) (sym o) y.6) in
        let w : x.7 ≡ y.7 = next_once R.seen seen c x.5 x.1 x.7 y.7 x.8 (subst (λ (z : InFront). NextWord R.seen c z x.1 y.7) (sym front) (subst (λ (z : ClassKey). NextWord R.seen c y.5 z y.7) (sym k) y.8)) in
        let here : Inner = record { outer = x.0; inner = x.1; front = x.5; words = x.7 } in
        let same : here ≡ record { outer = y.0; inner = y.1; front = y.5; words = y.7 } = λ i. record { outer = o i; inner = k i; front = front i; words = w i } in
        inner_choice_once here a b x.9 (subst (λ (p : Inner). InnerChoice p b) (sym same) y.9)
    member_class_once value a b x y = absurd x
    member_class_once role.statement a b x y = absurd x

    no_field : (r : Role) (a b : Choice) → FieldChoice begins rows R c at e old a → MemberClassChoice begins rows R c r at e old b → ⊥
    no_field left a b x y =
        let never : one (field_decl x.0) ≡ nothing = one_field rows fit each c (bounds c) e old (one (field_decl x.0)) nothing x.1 (inl (y.0, inl y.2, y.3)) in absurd cc
    no_field value a b x y = absurd y
    no_field role.statement a b x y = absurd y

  abbrev Above : Context → (at : ℕ) → (old : List ℕ) → FieldKey → Choice → Type 0
  Above c at old q = TakenChoice begins rows R (R.seen.scope c) at old (R.seen.images.field_to q).name (field_decl q) (field_decl (R.seen.images.field_to q)) (reference ref.FieldSuper (R.seen.images.field_to q).name None [])
      (FindsIn (IsSuperclass R.seen.images.rows (R.seen.scope c).class) (λ k f. FindsFieldIn R.seen.images.rows (R.seen.scope c) k (R.seen.images.field_to q).name f))

  above : (c : Context) (at : ℕ) (old : List ℕ) (q : FieldKey) → HasOne (Above c at old q)
  above c at old q = choice_once rows R (R.seen.scope c) at old _ (field_decl q) _ _ _ (above_once R.seen.images.rows seen.are (R.seen.scope c).class _ (λ k. seen.each.field_in (R.seen.scope c) k (R.seen.images.field_to q).name))

  pub super_field_once : (c : Context) (at : ℕ) (old : List ℕ) → HasOne (SuperFieldChoice begins rows R c at old)
  super_field_once c at old a b x y =
      let same = field_key x.0 y.0 (one_super_field rows fit each c (bounds c) old (one (field_decl x.0)) (one (field_decl y.0)) x.1 y.1) in
      above c at old x.0 a b x.2 (subst (λ (q : FieldKey). Above c at old q b) (sym same) y.2)

  -- ---- both

  pub name_once : (c : Context) (r : Role) (at : ℕ) (old : List ℕ) (a b : Choice) → VariableChoice begins rows R c at old a ⊎ ClassChoice begins rows R c r at old a → VariableChoice begins rows R c at old b ⊎ ClassChoice begins rows R c r at old b → a ≡ b
  name_once c r at old a b (inl x) (inl y) = variable_once c at old a b x y
  name_once c r at old a b (inl x) (inr y) = absurd (no_variable c r at old a b x y)
  name_once c r at old a b (inr x) (inl y) = absurd (no_variable c r at old b a y x)
  name_once c r at old a b (inr x) (inr y) = in_front_once c r at old a b x y

  pub dotted_once : (c : Context) (r : Role) (at : ℕ) (e : tree.Exp Span) (old : List ℕ) (a b : Choice) → FieldChoice begins rows R c at e old a ⊎ MemberClassChoice begins rows R c r at e old a
      → FieldChoice begins rows R c at e old b ⊎ MemberClassChoice begins rows R c r at e old b → a ≡ b
  dotted_once c r at e old a b (inl x) (inl y) = field_once c at e old a b x y
  dotted_once c r at e old a b (inl x) (inr y) = absurd (no_field c at e old r a b x y)
  dotted_once c r at e old a b (inr x) (inl y) = absurd (no_field c at e old r b a y x)
  dotted_once c r at e old a b (inr x) (inr y) = member_class_once c at e old r a b x y
