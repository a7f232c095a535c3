-- How members are named and what is called: what is noted is what the relations say.
use Rattle.std.proofs.Common.{◌≡◌, ◌≢◌, ℕ, List, [], Option, Some, None, true, refl, inl, inr}
use Rattle.std.specs.Prelude.{◌⊎◌, ◌↔◌, not}
use Rattle.jr_ast.specs.Tree as tree
use Rattle.jr_table.specs.Keys.{ClassKey, void}
use Rattle.jr_table.specs.Decls.{Decl}
use Rattle.jr_table.specs.Rows.{Row}
use Rattle.jr_table.specs.Conditions.{AreRows}
use Rattle.jr_table.specs.Found.{Found, one}
use Rattle.jr_table.specs.LookupLaws.{Decided, KeysAreFound}
use Rattle.jr_table.specs.Context.{Context, IsStaticDecl, IsInstanceDecl}
use Rattle.jr_table.specs.Binding.{HasType, IsClassName, FieldFinds, SuperFieldFinds, CallFinds, SuperCallFinds, Role, value, left, statement}
use Rattle.jr_table.specs.ExpressionRules.{IsObjectMethod, StaticThroughValue, InstanceThroughType, VoidValue, ObjectMethodCalled}
use Rattle.jr_table.specs.Meanings.{field_found, call_found, target_found, own_superclass, type_of, types_of, class_name_of, class_on, at_word}
use Rattle.jr_table.specs.Notes.{breaks, Has, when, is_ty, test_found, is_static_decl, is_instance_decl, is_statement, is_object_method, through_notes, called_notes, member_notes, call_notes}
use Rattle.jr_table.proofs.RowTypes.{chain}
use Rattle.jr_table.proofs.TypeTests.{and_iff, is_ty_iff}
use Rattle.jr_table.proofs.Typing.{typed, named}
use Rattle.jr_table.proofs.ReferenceLaws.{field_finds, super_field_finds, call_finds, super_call_finds}
use Rattle.jr_table.proofs.DeclarationTests.{found_test, static_iff, instance_iff, object_method_iff}
use Rattle.jr_table.proofs.Breaking.{two, rule_when, no_note}
use Rattle.jr_table.specs.declared.rules.Rule.{Rule}
use Rattle.jr_table.specs.declared.rules.Rule.TheVariants as rule

not_statement : (role : Role) → (not (is_statement role) ≡ true) ↔ (role ≢ statement)
not_statement value = (λ h e. absurd cc, λ h. refl)
not_statement left = (λ h e. absurd cc, λ h. refl)
not_statement statement = (λ h. absurd cc, λ h. absurd (h refl))

-- what is found, where no class is named, and where one is
abbrev Outside : (ClassKey → Type 0) → (Found → Type 0) → Decl → Type 0
Outside Name Finds d = Finds (one d) × ((k : ClassKey) → Name k → ⊥)

abbrev Inside : (ClassKey → Type 0) → (Found → Type 0) → Decl → Type 0
Inside Name Finds d = Finds (one d) × ((k : ClassKey) × Name k)

module _ (rows : List Row) (fit : AreRows rows) where
  abbrev AtStatic : (at here : ℕ) → (Decl → Type 0) → Type 0
  AtStatic at here Of = (at ≡ here) × ((d : Decl) × Of d × IsStaticDecl rows d)

  abbrev AtInstance : (at here : ℕ) → (Decl → Type 0) → Type 0
  AtInstance at here Of = (at ≡ here) × ((d : Decl) × Of d × IsInstanceDecl rows d)

  abbrev Through : (at here : ℕ) → Rule → (Value Class : Decl → Type 0) → Type 0
  Through at here r Value Class = ((r ≡ rule.StaticThroughValue) × AtStatic at here Value) ⊎ ((r ≡ rule.InstanceThroughType) × AtInstance at here Class)

  -- behind a dot
  through_iff : (o : Option ClassKey) (f : Found) (Name : ClassKey → Type 0) (Finds : Found → Type 0) → ((k : ClassKey) → (o ≡ Some k) ↔ Name k) → Decided f Finds
      → (here at : ℕ) (r : Rule) → Has (through_notes rows here o f) (breaks at r) ↔ Through at here r (Outside Name Finds) (Inside Name Finds)
  through_iff None f Name Finds named finds here at r = chain (rule_when (test_found (is_static_decl rows) f) ((d : Decl) × Finds (one d) × IsStaticDecl rows d)
      (found_test f Finds finds (is_static_decl rows) (IsStaticDecl rows) (static_iff rows fit)) here at rule.StaticThroughValue r) (to, back)
    where
      to : ((r ≡ rule.StaticThroughValue) × ((at ≡ here) × ((d : Decl) × Finds (one d) × IsStaticDecl rows d))) → Through at here r (Outside Name Finds) (Inside Name Finds)
      to (is, (a, (d, h, s))) = inl (is, (a, (d, (h, λ k n. let e = (named k).1 n in absurd cc), s)))

      back : Through at here r (Outside Name Finds) (Inside Name Finds) → (r ≡ rule.StaticThroughValue) × ((at ≡ here) × ((d : Decl) × Finds (one d) × IsStaticDecl rows d))
      back (inl (is, (a, (d, h, s)))) = (is, (a, (d, h.0, s)))
      back (inr (is, (a, (d, (h, (k, n)), s)))) = let e = (named k).1 n in absurd cc
  through_iff (Some o) f Name Finds named finds here at r = chain (rule_when (test_found (is_instance_decl rows) f) ((d : Decl) × Finds (one d) × IsInstanceDecl rows d)
      (found_test f Finds finds (is_instance_decl rows) (IsInstanceDecl rows) (instance_iff rows fit)) here at rule.InstanceThroughType r) (to, back)
    where
      to : ((r ≡ rule.InstanceThroughType) × ((at ≡ here) × ((d : Decl) × Finds (one d) × IsInstanceDecl rows d))) → Through at here r (Outside Name Finds) (Inside Name Finds)
      to (is, (a, (d, h, s))) = inr (is, (a, (d, (h, (o, (named o).0 refl)), s)))

      back : Through at here r (Outside Name Finds) (Inside Name Finds) → (r ≡ rule.InstanceThroughType) × ((at ≡ here) × ((d : Decl) × Finds (one d) × IsInstanceDecl rows d))
      back (inl (is, (a, (d, (h, none), s)))) = absurd (none o ((named o).0 refl))
      back (inr (is, (a, (d, (h, k), s)))) = (is, (a, (d, h, s)))

  -- behind `super`
  super_iff : (f : Found) (Finds : Found → Type 0) → Decided f Finds → (here at : ℕ) (r : Rule) → Has (through_notes rows here None f) (breaks at r) ↔ Through at here r (λ d. Finds (one d)) (λ d. ⊥)
  super_iff f Finds finds here at r = chain (rule_when (test_found (is_static_decl rows) f) ((d : Decl) × Finds (one d) × IsStaticDecl rows d)
      (found_test f Finds finds (is_static_decl rows) (IsStaticDecl rows) (static_iff rows fit)) here at rule.StaticThroughValue r) (λ h. inl h, back)
    where
      back : Through at here r (λ d. Finds (one d)) (λ d. ⊥) → (r ≡ rule.StaticThroughValue) × ((at ≡ here) × ((d : Decl) × Finds (one d) × IsStaticDecl rows d))
      back (inl h) = h
      back (inr (is, (a, (d, h, s)))) = absurd h

  module _ (found : KeysAreFound rows) (c : Context) where
    module _ {A : Type 0} (begins : A → ℕ → ℕ) (role : Role) (base : ℕ) where
      -- a static member through a value, an instance member through a class
      abbrev pub MemberRules : tree.Exp A → (at : ℕ) → Rule → Type 0
      MemberRules e at r = ((r ≡ rule.StaticThroughValue) × StaticThroughValue begins rows c role base e at) ⊎ ((r ≡ rule.InstanceThroughType) × InstanceThroughType begins rows c role base e at)

      no_members : (e : tree.Exp A) (at : ℕ) (r : Rule) → (StaticThroughValue begins rows c role base e at → ⊥) → (InstanceThroughType begins rows c role base e at → ⊥) → Has [] (breaks at r) ↔ MemberRules e at r
      no_members e at r f g = no_note at r (MemberRules e at r) none
        where
          none : MemberRules e at r → ⊥
          none (inl h) = f h.1
          none (inr h) = g h.1

      pub members : (e : tree.Exp A) (at : ℕ) (r : Rule) → Has (member_notes begins rows c role base e) (breaks at r) ↔ MemberRules e at r
      members (tree.field m e w) at r = through_iff (class_name_of rows c e) (field_found rows c (class_on rows c e) w.text) (IsClassName rows c e) (FieldFinds rows c e w.text) (named rows fit found c e) (field_finds rows fit found c e w.text) (at_word begins m base w) at r
      members (tree.super_field m w) at r = super_iff (field_found rows c (own_superclass rows c) w.text) (SuperFieldFinds rows c w.text) (super_field_finds rows fit found c w.text) (at_word begins m base w) at r
      members (tree.call m (tree.on e) w args) at r = through_iff (class_name_of rows c e) (target_found rows c (tree.on e) w.text (types_of rows c args)) (IsClassName rows c e) (CallFinds rows c (tree.on e) w.text args) (named rows fit found c e)
          (call_finds rows fit found c (tree.on e) w.text args) (at_word begins m base w) at r
      members (tree.super_call m w args) at r = super_iff (call_found rows c (own_superclass rows c) w.text (types_of rows c args)) (SuperCallFinds rows c w.text args) (super_call_finds rows fit found c w.text args) (at_word begins m base w) at r
      members (tree.call m tree.no_target w args) at r = no_members (tree.call m tree.no_target w args) at r (λ h. h.1.1) (λ h. h.1.1)
      members (tree.name m w) at r = no_members (tree.name m w) at r (λ h. h.1.1) (λ h. h.1.1)
      members e at r = no_members e at r (λ h. h.0) (λ h. h.0)

      -- a value that isn't there, a method of Object
      abbrev pub CallRules : tree.Exp A → (at : ℕ) → Rule → Type 0
      CallRules e at r = ((r ≡ rule.VoidValue) × VoidValue begins rows c role base e at) ⊎ ((r ≡ rule.ObjectMethod) × ObjectMethodCalled begins rows c role base e at)

      no_calls : (e : tree.Exp A) (at : ℕ) (r : Rule) → (VoidValue begins rows c role base e at → ⊥) → (ObjectMethodCalled begins rows c role base e at → ⊥) → Has [] (breaks at r) ↔ CallRules e at r
      no_calls e at r f g = no_note at r (CallRules e at r) none
        where
          none : CallRules e at r → ⊥
          none (inl h) = f h.1
          none (inr h) = g h.1

      abbrev Unused : tree.Exp A → Type 0
      Unused e = (role ≢ statement) × HasType rows c e void

      abbrev Called : tree.Exp A → List ℕ → (at here : ℕ) → Rule → Type 0
      Called e name at here r = ((r ≡ rule.VoidValue) × ((at ≡ here) × Unused e)) ⊎ ((r ≡ rule.ObjectMethod) × ((at ≡ here) × IsObjectMethod name))

      called_iff : (e : tree.Exp A) (name : List ℕ) (here at : ℕ) (r : Rule) → Has (called_notes role here name (type_of rows c e)) (breaks at r) ↔ Called e name at here r
      called_iff e name here at r = two _ (when (is_object_method name) (breaks here rule.ObjectMethod)) (breaks at r) _ _
          (rule_when _ (Unused e) (and_iff (not (is_statement role)) (is_ty void (type_of rows c e)) (role ≢ statement) (HasType rows c e void) (not_statement role) (chain (is_ty_iff void (type_of rows c e)) (typed rows fit found c e void))) here at rule.VoidValue r)
          (rule_when (is_object_method name) (IsObjectMethod name) (object_method_iff name) here at rule.ObjectMethod r)

      pub calls : (e : tree.Exp A) (at : ℕ) (r : Rule) → Has (call_notes begins rows c role base e) (breaks at r) ↔ CallRules e at r
      calls (tree.call m to w args) at r = chain (called_iff (tree.call m to w args) w.text (at_word begins m base w) at r) (there, back)
        where
          there : Called (tree.call m to w args) w.text at (at_word begins m base w) r → CallRules (tree.call m to w args) at r
          there (inl (is, (a, (stands, t)))) = inl (is, (tt, a, stands, t))
          there (inr h) = inr h

          back : CallRules (tree.call m to w args) at r → Called (tree.call m to w args) w.text at (at_word begins m base w) r
          back (inl (is, (u, a, stands, t))) = inl (is, (a, (stands, t)))
          back (inr h) = inr h
      calls (tree.super_call m w args) at r = chain (called_iff (tree.super_call m w args) w.text (at_word begins m base w) at r) (there, back)
        where
          there : Called (tree.super_call m w args) w.text at (at_word begins m base w) r → CallRules (tree.super_call m w args) at r
          there (inl (is, (a, (stands, t)))) = inl (is, (tt, a, stands, t))
          there (inr h) = inr h

          back : CallRules (tree.super_call m w args) at r → Called (tree.super_call m w args) w.text at (at_word begins m base w) r
          back (inl (is, (u, a, stands, t))) = inl (is, (a, (stands, t)))
          back (inr h) = inr h
      calls e at r = no_calls e at r (λ h. h.0) (λ h. h)
