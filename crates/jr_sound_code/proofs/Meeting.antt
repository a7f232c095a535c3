-- What a written member has: its form by its key, its shape, and of a class that its fields break no rule.
use Rattle.std.proofs.Common.{◌≡◌, ℕ, List, [], ◌∷◌, Option, Some, None, Bool, true, false, refl, subst, inl, inr}
use Rattle.jr_ast.specs.MemberTree as syntax
use Rattle.jr_grammar.specs.MemberShape.{ClassShaped, MemberShaped, MembersShaped, ClassesShaped}
use Rattle.jr_table.specs.Keys.{ClassKey}
use Rattle.jr_table.specs.Decls.{MemberKey, head, field}
use Rattle.jr_table.specs.Rows.{Row}
use Rattle.jr_table.specs.DeclaredItems.{DeclaredItem, class_key}
use Rattle.jr_table.specs.Errors.{Part, class_part, member_part, Declares, InClass, InMembers, InInner, InClasses}
use Rattle.jr_members.proofs.Anywhere.{IsAt}
use Rattle.jr_sound_code.proofs.MembersStand.{Sound, SoundFields}

module _ {A : Type 0} (begins : A → ℕ → ℕ) (rows : List Row) (super_at : MemberKey → ℕ) (declarations : List DeclaredItem) where
  abbrev pub Meets : MemberKey → (base : ℕ) → Part A → Type 0
  Meets k b (class_part (syntax.class m mods w t ms)) =
      (o : Option (List ℕ)) × (nested : Bool) × (k ≡ head (class_key begins o w.text)) × MembersShaped nested w.text ms × SoundFields begins rows super_at (class_key begins o w.text) (begins m b) ms
  Meets k b (member_part x) = (of : ClassKey) × (nested : Bool) × (name : List ℕ) × Declares begins declarations b of x k × MemberShaped nested name x

  pub fields_sound : (b : ℕ) (of : ClassKey) (xs : syntax.Members A) → ((j : MemberKey) (n : ℕ) (q : Part A) → InMembers begins declarations (IsAt n q) b of xs j → Sound begins rows super_at j n q) → SoundFields begins rows super_at of b xs
  unfolding InMembers
  fields_sound b of syntax.end all = tt
  fields_sound b of (syntax.more (syntax.field m mods t w init) xs) all =
      (all (field (record { class = of; name = w.text })) b (member_part (syntax.field m mods t w init)) (inl (inl (refl, (refl, refl)))), fields_sound b of xs (λ j n q h. all j n q (inr h)))
  fields_sound b of (syntax.more (syntax.method m mods t w ps body) xs) all = fields_sound b of xs (λ j n q h. all j n q (inr h))
  fields_sound b of (syntax.more (syntax.constructor m mods w ps args body) xs) all = fields_sound b of xs (λ j n q h. all j n q (inr h))
  fields_sound b of (syntax.more (syntax.inner m c) xs) all = fields_sound b of xs (λ j n q h. all j n q (inr h))

  module _ (b : ℕ) (p : Part A) where
    moved : (k : MemberKey) (base : ℕ) (q : Part A) → base ≡ b → q ≡ p → Meets k base q → Meets k b p
    moved k base q e f h = subst (λ (n : ℕ). Meets k n p) e (subst (λ (x : Part A). Meets k base x) f h)

    mutual
      unfolding InClass InMembers InInner

      class_meets : (nested : Bool) (base : ℕ) (o : Option (List ℕ)) (c : syntax.Class A) (k : MemberKey) → ClassShaped nested c
          → ((j : MemberKey) (n : ℕ) (q : Part A) → InClass begins declarations (IsAt n q) base o c j → Sound begins rows super_at j n q) → InClass begins declarations (IsAt b p) base o c k → Meets k b p
      class_meets nested base o (syntax.class m mods w t ms) k shaped all (inl (is, (e, f))) =
          moved k base (class_part (syntax.class m mods w t ms)) e f (o, nested, is, shaped.1, fields_sound (begins m base) (class_key begins o w.text) ms (λ j n q h. all j n q (inr h)))
      class_meets nested base o (syntax.class m mods w t ms) k shaped all (inr h) = members_meet nested w.text (begins m base) (class_key begins o w.text) ms k shaped.1 (λ j n q i. all j n q (inr i)) h

      members_meet : (nested : Bool) (name : List ℕ) (base : ℕ) (of : ClassKey) (xs : syntax.Members A) (k : MemberKey) → MembersShaped nested name xs
          → ((j : MemberKey) (n : ℕ) (q : Part A) → InMembers begins declarations (IsAt n q) base of xs j → Sound begins rows super_at j n q) → InMembers begins declarations (IsAt b p) base of xs k → Meets k b p
      members_meet nested name base of syntax.end k shaped all h = absurd h
      members_meet nested name base of (syntax.more x xs) k shaped all (inl (inl (d, (e, f)))) = moved k base (member_part x) e f (of, nested, name, d, shaped.0)
      members_meet nested name base of (syntax.more x xs) k shaped all (inl (inr h)) = inner_meets nested name base of x k shaped.0 (λ j n q i. all j n q (inl (inr i))) h
      members_meet nested name base of (syntax.more x xs) k shaped all (inr h) = members_meet nested name base of xs k shaped.1 (λ j n q i. all j n q (inr i)) h

      inner_meets : (nested : Bool) (name : List ℕ) (base : ℕ) (of : ClassKey) (x : syntax.Member A) (k : MemberKey) → MemberShaped nested name x
          → ((j : MemberKey) (n : ℕ) (q : Part A) → InInner begins declarations (IsAt n q) base of x j → Sound begins rows super_at j n q) → InInner begins declarations (IsAt b p) base of x k → Meets k b p
      inner_meets nested name base of (syntax.inner m c) k shaped all h = class_meets true (begins m base) (Some of.name) c k shaped.1 all h
      inner_meets nested name base of (syntax.field m mods t w init) k shaped all h = absurd h
      inner_meets nested name base of (syntax.method m mods t w ps body) k shaped all h = absurd h
      inner_meets nested name base of (syntax.constructor m mods w ps args body) k shaped all h = absurd h

    pub classes_meet : (base : ℕ) (cs : List (syntax.Class A)) (k : MemberKey) → ClassesShaped cs → ((j : MemberKey) (n : ℕ) (q : Part A) → InClasses begins declarations (IsAt n q) base cs j → Sound begins rows super_at j n q)
        → InClasses begins declarations (IsAt b p) base cs k → Meets k b p
    classes_meet base [] k shaped all h = absurd h
    classes_meet base (c ∷ cs) k shaped all (inl h) = class_meets false base None c k shaped.0 (λ j n q i. all j n q (inl i)) h
    classes_meet base (c ∷ cs) k shaped all (inr h) = classes_meet base cs k shaped.1 (λ j n q i. all j n q (inr i)) h
