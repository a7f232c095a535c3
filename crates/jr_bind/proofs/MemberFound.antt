-- The member of a key is among those that are written, and what holds of it.
use Rattle.std.proofs.Common.{◌≡◌, ℕ, List, [], ◌∷◌, map, Option, Some, None, refl, sym, ap, subst, ◌∙◌, inl, inr}
use Rattle.std.specs.Prelude.{MatchOption}
use Rattle.std.specs.Option.{IsSome}
use Rattle.std.specs.List.{Contains}
use Rattle.jr_ast.specs.MemberTree as syntax
use Rattle.jr_table.specs.Decls.{MemberKey}
use Rattle.jr_table.specs.Rows.{Row}
use Rattle.jr_table.specs.Entries.{number_of}
use Rattle.jr_table.specs.KeyView.{member_key_of}
use Rattle.jr_table.specs.DeclaredItems.{declarations_of}
use Rattle.jr_table.specs.Errors.{Part, InUnits}
use Rattle.jr_members.specs.declared.keyed.WrittenMember as raw
use Rattle.jr_members.specs.PartView.{part_of, written_of}
use Rattle.jr_members.specs.WrittenMembers.{WrittenMember, decl_of_member}
use Rattle.jr_members.specs.WrittenLaws.{AreWritten}
use Rattle.jr_members.proofs.Anywhere.{member_written, written_member}
use Rattle.jr_bind.proofs.Bounding.{In, in_contains, contains_in}

in_mapped : {X Y : Type 0} (f : X → Y) (xs : List X) (y : Y) → In (map f xs) y → (x : X) × In xs x × (f x ≡ y)
in_mapped f [] y h = absurd h
in_mapped f (x ∷ xs) y (inl e) = (x, inl refl, e)
in_mapped f (x ∷ xs) y (inr h) = let r = in_mapped f xs y h in (r.0, inr r.1, r.2)

mapped_in : {X Y : Type 0} (f : X → Y) (xs : List X) (x : X) → In xs x → In (map f xs) (f x)
mapped_in f [] x h = absurd h
mapped_in f (y ∷ xs) x (inl e) = inl (ap f e)
mapped_in f (y ∷ xs) x (inr h) = inr (mapped_in f xs x h)

pub of_mapped : {X Y : Type 0} (f : X → Y) (xs : List X) (y : Y) → Contains (map f xs) y → (x : X) × Contains xs x × (f x ≡ y)
of_mapped f xs y h = let r = in_mapped f xs y (contains_in (map f xs) y h) in (r.0, in_contains xs r.0 r.1, r.2)

pub to_mapped : {X Y : Type 0} (f : X → Y) (xs : List X) (x : X) → Contains xs x → Contains (map f xs) (f x)
to_mapped f xs x h = in_contains (map f xs) (f x) (mapped_in f xs x (contains_in xs x h))

module _ {A : Type 0} (begins : A → ℕ → ℕ) (units : List (syntax.Unit A)) (rows : List Row) (members : List (WrittenMember A)) (are : AreWritten begins units rows members)
    (P : MemberKey → (base : ℕ) → Part A → Type 0) (k : MemberKey) (written : InUnits begins (declarations_of begins units) P units k) where
  pub is_there : (w : WrittenMember A) × Contains members w × (w.key ≡ k) × P w.key w.base w.part
  is_there =
      let m = member_written begins units P k written in
      let w = are.all m.0 k m.1 m.2 m.3 in
      (w.0, w.1, w.3, subst (λ j. P j w.0.base w.0.part) (sym w.3) (subst (λ b. P k b w.0.part) (sym w.4) (subst (λ p. P k m.1 p) (sym w.5) m.4)))

  -- each of the key has the property
  pub has_it : (w : WrittenMember A) → Contains members w → w.key ≡ k → P w.key w.base w.part
  has_it w c e =
      let v = is_there in
      subst (λ (x : WrittenMember A). P x.key x.base x.part) (are.one v.0 w v.1 c (v.2 ∙ sym e)) v.3

  -- and what holds of it holds of a member that is written
  pub is_member : (Q : MemberKey → (base : ℕ) → Part A → Type 0) (w : WrittenMember A) → Contains members w → w.key ≡ k → Q w.key w.base w.part → InUnits begins (declarations_of begins units) Q units k
  is_member Q w c e has = subst (InUnits begins (declarations_of begins units) Q units) e (written_member begins units Q w.file w.key w.base w.part (are.each w c) has)

pub is_some_where : {X : Type 0} (o : Option X) (P : Type 0) (Q : X → Type 0) → MatchOption o P Q → (P → ⊥) → IsSome o
is_some_where None P Q h n = absurd (n h)
is_some_where (Some x) P Q h n = refl

-- the same of the Rust values that stand for the members
module _ {A : Type 0} (begins : A → ℕ → ℕ) (units : List (syntax.Unit A)) (rows : List Row) (raws : List (raw.WrittenMember A)) (are : AreWritten begins units rows (map written_of raws))
    (P : MemberKey → (base : ℕ) → Part A → Type 0) (k : MemberKey) (written : InUnits begins (declarations_of begins units) P units k) where
  abbrev Is : raw.WrittenMember A → Type 0
  Is w = Contains raws w × (member_key_of w.key ≡ k)

  pub never_none : ((w : raw.WrittenMember A) → Contains raws w → member_key_of w.key ≡ k → ⊥) → ⊥
  never_none none =
      let t = is_there begins units rows (map written_of raws) are P k written in
      let r = of_mapped written_of raws t.0 t.1 in
      none r.0 r.1 (ap (λ (w : WrittenMember A). w.key) r.2 ∙ t.2)

  pub found_row : (w : raw.WrittenMember A) → Is w → number_of rows (decl_of_member (member_key_of w.key)) ≡ Some w.row
  found_row w is = are.row (written_of w) (to_mapped written_of raws w is.0)

  pub found_has : (w : raw.WrittenMember A) → Is w → P (member_key_of w.key) w.base (part_of w.part)
  found_has w is = has_it begins units rows (map written_of raws) are P k written (written_of w) (to_mapped written_of raws w is.0) is.1

  pub found_is : (Q : MemberKey → (base : ℕ) → Part A → Type 0) (w : raw.WrittenMember A) → Is w → Q (member_key_of w.key) w.base (part_of w.part) → InUnits begins (declarations_of begins units) Q units k
  found_is Q w is has = is_member begins units rows (map written_of raws) are P k written Q (written_of w) (to_mapped written_of raws w is.0) is.1 has
