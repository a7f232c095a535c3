-- What first values say of all fields of trees they say of each field that is written, and the other way.
use Rattle.std.proofs.Common.{ℕ, List, [], ◌∷◌, Option, Some, None, refl, sym, subst, inl, inr}
use Rattle.std.specs.Prelude.{◌⊎◌}
use Rattle.jr_ast.specs.Tree as tree
use Rattle.jr_ast.specs.MemberTree as syntax
use Rattle.jr_runs.specs.FirstValues.{First}
use Rattle.jr_table.specs.Keys.{ClassKey, FieldKey}
use Rattle.jr_table.specs.Decls.{MemberKey, head, field, method, constructor}
use Rattle.jr_table.specs.HeadRules.{is_static_member}
use Rattle.jr_table.specs.DeclaredItems.{DeclaredItem, class_key}
use Rattle.jr_table.specs.Errors.{Part, class_part, member_part, Declares, InClass, InMembers, InInner, InClasses, InUnits}
use Rattle.jr_members.proofs.Anywhere.{IsAt}
use Rattle.jr_code.specs.RunKeys.{RunKeys}
use Rattle.jr_code.specs.CodedFields.{StaticFirst, ClassFirsts, MembersFirsts, MemberFirst, ClassesFirsts, UnitsFirsts}

module _ {A : Type 0} (begins : A → ℕ → ℕ) (first : FieldKey → First RunKeys) where
  -- of a field with an initializer: if it is static, it begins with what that stands for
  abbrev pub Begins : MemberKey → List (syntax.Modifier A) → tree.Word A → tree.Exp A → Type 0
  Begins (field k) mods w e = StaticFirst begins first (is_static_member begins mods) k.class (record { mark = w.mark; text = k.name }) e
  Begins (head k) mods w e = Unit {0}
  Begins (method k) mods w e = Unit {0}
  Begins (constructor k) mods w e = Unit {0}

  abbrev pub HoldsIn : MemberKey → syntax.Member A → Type 0
  HoldsIn k (syntax.field m mods t w (Some e)) = Begins k mods w e
  HoldsIn k (syntax.field m mods t w None) = Unit {0}
  HoldsIn k (syntax.method m mods t w ps body) = Unit {0}
  HoldsIn k (syntax.constructor m mods w ps args body) = Unit {0}
  HoldsIn k (syntax.inner m c) = Unit {0}

  abbrev pub Holds : MemberKey → Part A → Type 0
  Holds k (class_part c) = Unit {0}
  Holds k (member_part x) = HoldsIn k x

  module _ (declarations : List DeclaredItem) where
    -- ---- of what is written

    holds_here : (b : ℕ) (of : ClassKey) (x : syntax.Member A) (k : MemberKey) → Declares begins declarations b of x k → MemberFirst begins first b of x → HoldsIn k x
    unfolding MemberFirst
    holds_here b of (syntax.field m mods t w (Some e)) k is h = subst (λ (l : MemberKey). Begins l mods w e) (sym is) h
    holds_here b of (syntax.field m mods t w None) k is h = tt
    holds_here b of (syntax.method m mods t w ps body) k is h = tt
    holds_here b of (syntax.constructor m mods w ps args body) k is h = tt
    holds_here b of (syntax.inner m c) k is h = tt

    module _ (P : MemberKey → (base : ℕ) → Part A → Type 0) where
      abbrev Also : MemberKey → (base : ℕ) → Part A → Type 0
      Also k b p = P k b p × Holds k p

      mutual
        unfolding ClassFirsts MembersFirsts MemberFirst InClass InMembers InInner

        class_holds : (b : ℕ) (o : Option (List ℕ)) (c : syntax.Class A) → ClassFirsts begins first b o c → (k : MemberKey) → InClass begins declarations P b o c k → InClass begins declarations Also b o c k
        class_holds b o (syntax.class m mods w t ms) h k (inl here) = inl (here.0, (here.1, tt))
        class_holds b o (syntax.class m mods w t ms) h k (inr later) = inr (members_hold (begins m b) (class_key begins o w.text) ms h k later)

        members_hold : (b : ℕ) (of : ClassKey) (xs : syntax.Members A) → MembersFirsts begins first b of xs → (k : MemberKey) → InMembers begins declarations P b of xs k → InMembers begins declarations Also b of xs k
        members_hold b of syntax.end h k here = absurd here
        members_hold b of (syntax.more x xs) h k (inl (inl here)) = inl (inl (here.0, (here.1, holds_here b of x k here.0 h.0)))
        members_hold b of (syntax.more x xs) h k (inl (inr inside)) = inl (inr (inner_holds b of x h.0 k inside))
        members_hold b of (syntax.more x xs) h k (inr later) = inr (members_hold b of xs h.1 k later)

        inner_holds : (b : ℕ) (of : ClassKey) (x : syntax.Member A) → MemberFirst begins first b of x → (k : MemberKey) → InInner begins declarations P b of x k → InInner begins declarations Also b of x k
        inner_holds b of (syntax.inner m c) h k here = class_holds (begins m b) (Some of.name) c h k here
        inner_holds b of (syntax.field m mods t w init) h k here = absurd here
        inner_holds b of (syntax.method m mods t w ps body) h k here = absurd here
        inner_holds b of (syntax.constructor m mods w ps args body) h k here = absurd here

      classes_hold : (b : ℕ) (cs : List (syntax.Class A)) → ClassesFirsts begins first b cs → (k : MemberKey) → InClasses begins declarations P b cs k → InClasses begins declarations Also b cs k
      classes_hold b [] h k here = absurd here
      classes_hold b (c ∷ cs) h k (inl mine) = inl (class_holds b None c h.0 k mine)
      classes_hold b (c ∷ cs) h k (inr later) = inr (classes_hold b cs h.1 k later)

      pub units_hold : (us : List (syntax.Unit A)) → UnitsFirsts begins first us → (k : MemberKey) → InUnits begins declarations P us k → InUnits begins declarations (λ l b p. P l b p × Holds l p) us k
      units_hold [] h k here = absurd here
      units_hold (u ∷ us) h k (inl mine) = inl (classes_hold (begins u.mark 0) u.classes h.0 k mine)
      units_hold (u ∷ us) h k (inr later) = inr (units_hold us h.1 k later)

    -- ---- and back

    abbrev AllHold : ((MemberKey → ℕ → Part A → Type 0) → MemberKey → Type 0) → Type 0
    AllHold In = (k : MemberKey) (b : ℕ) (p : Part A) → In (IsAt b p) k → Holds k p

    abbrev OneMember : (b : ℕ) → ClassKey → syntax.Member A → (MemberKey → ℕ → Part A → Type 0) → MemberKey → Type 0
    OneMember b of x P k = (Declares begins declarations b of x k × P k b (member_part x)) ⊎ InInner begins declarations P b of x k

    mutual
      unfolding ClassFirsts MembersFirsts MemberFirst InClass InMembers InInner

      class_firsts : (b : ℕ) (o : Option (List ℕ)) (c : syntax.Class A) → AllHold (λ P k. InClass begins declarations P b o c k) → ClassFirsts begins first b o c
      class_firsts b o (syntax.class m mods w t ms) all = members_firsts (begins m b) (class_key begins o w.text) ms (λ k n p h. all k n p (inr h))

      members_firsts : (b : ℕ) (of : ClassKey) (xs : syntax.Members A) → AllHold (λ P k. InMembers begins declarations P b of xs k) → MembersFirsts begins first b of xs
      members_firsts b of syntax.end all = tt
      members_firsts b of (syntax.more x xs) all = (member_first b of x (λ k n p h. all k n p (inl h)), members_firsts b of xs (λ k n p h. all k n p (inr h)))

      member_first : (b : ℕ) (of : ClassKey) (x : syntax.Member A) → AllHold (OneMember b of x) → MemberFirst begins first b of x
      member_first b of (syntax.field m mods t w (Some e)) all = all (field (record { class = of; name = w.text })) b (member_part (syntax.field m mods t w (Some e))) (inl (refl, (refl, refl)))
      member_first b of (syntax.field m mods t w None) all = tt
      member_first b of (syntax.method m mods t w ps body) all = tt
      member_first b of (syntax.constructor m mods w ps args body) all = tt
      member_first b of (syntax.inner m c) all = class_firsts (begins m b) (Some of.name) c (λ k n p h. all k n p (inr h))

    classes_firsts : (b : ℕ) (cs : List (syntax.Class A)) → AllHold (λ P k. InClasses begins declarations P b cs k) → ClassesFirsts begins first b cs
    classes_firsts b [] all = tt
    classes_firsts b (c ∷ cs) all = (class_firsts b None c (λ k n p h. all k n p (inl h)), classes_firsts b cs (λ k n p h. all k n p (inr h)))

    pub units_firsts : (us : List (syntax.Unit A)) → ((k : MemberKey) (b : ℕ) (p : Part A) → InUnits begins declarations (IsAt b p) us k → Holds k p) → UnitsFirsts begins first us
    units_firsts [] all = tt
    units_firsts (u ∷ us) all = (classes_firsts (begins u.mark 0) u.classes (λ k n p h. all k n p (inl h)), units_firsts us (λ k n p h. all k n p (inr h)))
