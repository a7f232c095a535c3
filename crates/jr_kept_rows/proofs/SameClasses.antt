-- What a type's name means is the same where the same classes are declared with the same words and
-- superclasses, wherever they stand.
use Rattle.std.proofs.Common.{◌≡◌, ℕ, zero, suc, List, Option, Some, None, sym, ap, subst, ◌∙◌, inl, inr}
use Rattle.jr_ast.specs.declared.operators.ModWord.{ModWord}
use Rattle.jr_ast.specs.declared.operators.ModWord.TheVariants as word
use Rattle.jr_table.specs.Keys.{ClassKey, Ty}
use Rattle.jr_table.specs.Prelude.{top_key}
use Rattle.jr_table.specs.DeclaredItems.{Written, int, boolean, named, DeclaredClass, DeclaredItem}
use Rattle.jr_table.specs.Resolving.{HasWord, DeclaresClass, IsDeclared, IsTopClass, TopNames, TopParent, IsPrivateClass, member_key, TopMemberType, HasTopMemberType, FindsInTop, MemberNames, TypeWithin, HasMemberType, IsParent, Climbs, FindsAround, FindsType, Means}
use Rattle.jr_table.specs.ProgramRows.{MeansResult}

-- one type, written at two places
abbrev pub Alike : Written → Written → Type 0
Alike int int = Unit {0}
Alike boolean boolean = Unit {0}
Alike (named a o n) (named b p m) = (o ≡ p) × (n ≡ m)
Alike _ _ = ⊥

abbrev pub MaybeAlike : Option Written → Option Written → Type 0
MaybeAlike None None = Unit {0}
MaybeAlike (Some w) (Some v) = Alike w v
MaybeAlike _ _ = ⊥

pub alike_back : (w v : Written) → Alike w v → Alike v w
alike_back int int h = tt
alike_back int boolean h = absurd h
alike_back int (named b p m) h = absurd h
alike_back boolean int h = absurd h
alike_back boolean boolean h = tt
alike_back boolean (named b p m) h = absurd h
alike_back (named a o n) int h = absurd h
alike_back (named a o n) boolean h = absurd h
alike_back (named a o n) (named b p m) h = (sym h.0, sym h.1)

pub maybe_back : (w v : Option Written) → MaybeAlike w v → MaybeAlike v w
maybe_back None None h = tt
maybe_back None (Some v) h = absurd h
maybe_back (Some w) None h = absurd h
maybe_back (Some w) (Some v) h = alike_back w v h

-- the class is declared there too
abbrev pub ClassThere : List DeclaredItem → ClassKey → DeclaredClass → Type 0
ClassThere ts k at = (b : DeclaredClass) × DeclaresClass ts k b × (b.modifiers ≡ at.modifiers) × MaybeAlike at.parent b.parent

abbrev pub ClassesGo : List DeclaredItem → List DeclaredItem → Type 0
ClassesGo ss ts = (k : ClassKey) (at : DeclaredClass) → DeclaresClass ss k at → ClassThere ts k at

module _ (ss ts : List DeclaredItem) (go : ClassesGo ss ts) where
  declared : (k : ClassKey) → IsDeclared ss k → IsDeclared ts k
  declared k (at, is) = let there = go k at is in (there.0, there.1)

  top_class : (name : List ℕ) → IsTopClass ss name → IsTopClass ts name
  top_class name (inl is) = inl (declared (top_key name) is)
  top_class name (inr is) = inr is

  private : (k : ClassKey) → IsPrivateClass ss k → IsPrivateClass ts k
  private k (at, is, has) = let there = go k at is in (there.0, there.1, subst (λ (ws : List ModWord). HasWord ws word.Private) (sym there.2) has)

  top_names : (w v : Option Written) (p : ClassKey) → MaybeAlike w v → TopNames ss w p → TopNames ts v p
  top_names None None p h x = x
  top_names None (Some v) p h x = absurd h
  top_names (Some w) None p h x = absurd h
  top_names (Some int) (Some v) p h x = absurd x
  top_names (Some boolean) (Some v) p h x = absurd x
  top_names (Some (named a (Some o) n)) (Some v) p h x = absurd x
  top_names (Some (named a None n)) (Some int) p h x = absurd h
  top_names (Some (named a None n)) (Some boolean) p h x = absurd h
  top_names (Some (named a None n)) (Some (named b (Some o) m)) p h x = absurd (let e = h.0 in cc)
  top_names (Some (named a None n)) (Some (named b None m)) p h x = (x.0 ∙ ap top_key h.1, subst (IsTopClass ts) h.1 (top_class n x.1))

  top_parent : (name : List ℕ) (p : ClassKey) → TopParent ss name p → TopParent ts name p
  top_parent name p (inl (at, is, names)) = let there = go (top_key name) at is in inl (there.0, there.1, top_names at.parent there.0.parent p there.3 names)
  top_parent name p (inr x) = inr x

module _ (ss ts : List DeclaredItem) (go : ClassesGo ss ts) (back : ClassesGo ts ss) where
  top_member : (up : ℕ) (of name : List ℕ) (q : ClassKey) → TopMemberType ss up of name q → TopMemberType ts up of name q
  top_member zero of name q x = (x.0, declared ss ts go q x.1)
  top_member (suc up) of name q x = (
    x.0,
    top_parent ss ts go of (top_key x.0) x.1,
    top_member up x.0 name q x.2,
    λ h. x.3 (private ts ss back q h),
    λ h. x.4 (declared ts ss back (member_key ss of name) h),
  )

  has_top : (of name : List ℕ) (q : ClassKey) → HasTopMemberType ss of name q → HasTopMemberType ts of name q
  has_top of name q (up, x) = (up, top_member up of name q x)

module _ (ss ts : List DeclaredItem) (go : ClassesGo ss ts) (back : ClassesGo ts ss) where
  in_top : (of name : List ℕ) (q : ClassKey) → FindsInTop ss of name q → FindsInTop ts of name q
  in_top of name q (inl x) = inl (has_top ss ts go back of name q x)
  in_top of name q (inr (none, is, top)) = inr (λ r h. none r (has_top ts ss back go of name r h), is, top_class ss ts go name top)

  -- by two relations of member types, one of which leads to the other
  module _ (S T : ClassKey → List ℕ → ClassKey → Type 0) (leads : (c : ClassKey) (name : List ℕ) (q : ClassKey) → S c name q → T c name q) where
    member_names : (outer : List ℕ) (w v : Option Written) (p : ClassKey) → MaybeAlike w v → MemberNames ss S outer w p → MemberNames ts T outer v p
    member_names outer None None p h x = x
    member_names outer None (Some v) p h x = absurd h
    member_names outer (Some w) None p h x = absurd h
    member_names outer (Some int) (Some v) p h x = absurd x
    member_names outer (Some boolean) (Some v) p h x = absurd x
    member_names outer (Some (named a o n)) (Some int) p h x = absurd h
    member_names outer (Some (named a o n)) (Some boolean) p h x = absurd h
    member_names outer (Some (named a None n)) (Some (named b (Some o) m)) p h x = absurd (let e = h.0 in cc)
    member_names outer (Some (named a (Some o) n)) (Some (named b None m)) p h x = absurd (let e = h.0 in cc)
    member_names outer (Some (named a None n)) (Some (named b None m)) p h x = subst (λ (z : List ℕ). FindsInTop ts outer z p) h.1 (in_top outer n p x)
    member_names outer (Some (named a (Some l) n)) (Some (named b (Some r) m)) p h x =
        let e = h.0 in
        let left : l ≡ r = cc in
        (x.0, subst (λ (z : List ℕ). FindsInTop ts outer z x.0) left (in_top outer l x.0 x.1), subst (λ (z : List ℕ). T x.0 z p) h.1 (leads x.0 n p x.2))

  type_within : (looks : ℕ) (o : Option (List ℕ)) (n name : List ℕ) (q : ClassKey) → TypeWithin ss looks (record { outer = o; name = n }) name q → TypeWithin ts looks (record { outer = o; name = n }) name q
  type_within zero o n name q x = absurd x
  type_within (suc looks) None n name q (inl x) = inl (x.0, has_top ss ts go back n name q x.1)
  type_within (suc looks) None n name q (inr x) = absurd x
  type_within (suc looks) (Some o) n name q (inl x) = let never = x.0 in absurd cc
  type_within (suc looks) (Some o) n name q (inr (at, p, is, names, types, shown)) =
      let there = go (record { outer = Some o; name = n }) at is in
      inr (
        there.0,
        p,
        there.1,
        member_names (λ d. TypeWithin ss looks d) (λ d. TypeWithin ts looks d) (λ d m r h. type_within looks d.outer d.name m r h) o at.parent there.0.parent p there.3 names,
        type_within looks p.outer p.name name q types,
        λ h. shown (private ts ss back q h),
      )

  pub has_member : (c : ClassKey) (name : List ℕ) (q : ClassKey) → HasMemberType ss c name q → HasMemberType ts c name q
  has_member c name q (looks, x) = (looks, type_within looks c.outer c.name name q x)

  pub parent_goes : (c p : ClassKey) → IsParent ss c p → IsParent ts c p
  parent_goes c p (inl (is, x)) = inl (is, top_parent ss ts go c.name p x)
  parent_goes c p (inr (outer, at, is, declares, names)) =
      let there = go c at declares in
      inr (outer, there.0, is, there.1, member_names (HasMemberType ss) (HasMemberType ts) has_member outer at.parent there.0.parent p there.3 names)

  pub climbs_go : (steps : ℕ) (c d : ClassKey) → Climbs ss steps c d → Climbs ts steps c d
  climbs_go zero c d x = x
  climbs_go (suc steps) c d (p, is, x) = (p, parent_goes c p is, climbs_go steps p d x)

  around : (o : Option (List ℕ)) (name : List ℕ) (q : ClassKey) → FindsAround ss o name q → FindsAround ts o name q
  around None name q x = (x.0, top_class ss ts go name x.1)
  around (Some o) name q x = in_top o name q x

module _ (ss ts : List DeclaredItem) (go : ClassesGo ss ts) (back : ClassesGo ts ss) where
  finds_type : (c : ClassKey) (name : List ℕ) (q : ClassKey) → FindsType ss c name q → FindsType ts c name q
  finds_type c name q (inl x) = inl (has_member ss ts go back c name q x)
  finds_type c name q (inr (none, x)) = inr (λ r h. none r (has_member ts ss back go c name r h), around ss ts go back c.outer name q x)

  -- a type means there what it means here
  pub means_goes : (c : ClassKey) (w v : Written) (t : Ty) → Alike w v → Means ss c w t → Means ts c v t
  means_goes c int int t h x = x
  means_goes c int boolean t h x = absurd h
  means_goes c int (named b p m) t h x = absurd h
  means_goes c boolean int t h x = absurd h
  means_goes c boolean boolean t h x = x
  means_goes c boolean (named b p m) t h x = absurd h
  means_goes c (named a o n) int t h x = absurd h
  means_goes c (named a o n) boolean t h x = absurd h
  means_goes c (named a None n) (named b (Some r) m) t h x = absurd (let e = h.0 in cc)
  means_goes c (named a (Some l) n) (named b None m) t h x = absurd (let e = h.0 in cc)
  means_goes c (named a None n) (named b None m) t h x = (x.0, x.1, subst (λ (z : List ℕ). FindsType ts c z x.0) h.1 (finds_type c n x.0 x.2))
  means_goes c (named a (Some l) n) (named b (Some r) m) t h x =
      let e = h.0 in
      let left : l ≡ r = cc in
      (x.0, x.1, x.2, subst (λ (z : List ℕ). FindsType ts c z x.0) left (finds_type c l x.0 x.3), subst (λ (z : List ℕ). HasMemberType ts x.0 z x.1) h.1 (has_member ss ts go back x.0 n x.1 x.4))

  pub result_goes : (c : ClassKey) (w v : Option Written) (t : Ty) → MaybeAlike w v → MeansResult ss c w t → MeansResult ts c v t
  result_goes c None None t h x = x
  result_goes c None (Some v) t h x = absurd h
  result_goes c (Some w) None t h x = absurd h
  result_goes c (Some w) (Some v) t h x = means_goes c w v t h x
