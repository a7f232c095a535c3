-- Members that are declared twice, by their signatures.
use Rattle.std.proofs.Common.{◌≡◌, ℕ, zero, suc, ◌+◌, ◌<◌, ◌≤◌, List, [], ◌∷◌, length, map, Option, Some, None, Bool, true, false, cond, refl, sym, ap, subst, ◌∙◌, inl, inr, arith}
use Rattle.std.specs.Prelude.{slice_get, ◌⊎◌, ◌↔◌, ◌&&◌, nat_eq, Decides, option_map, option_and_then}
use Rattle.std.specs.Option.{MatchOption, option_eq}
use Rattle.std.specs.Cmp.Lexicographic.{pointwise}
use Rattle.std.proofs.lemmas.Bool.Decides.{Decides-and, Decides-like}
use Rattle.jr_table.specs.declared.kinds.DeclKind.TheVariants as kind
use Rattle.jr_table.specs.Keys.{ClassKey, Ty}
use Rattle.jr_table.specs.SameKeys.{same_class, same_types, class_decides, maybe_name_decides, types_decide}
use Rattle.jr_table.specs.Resolving.{Means}
use Rattle.jr_table.specs.DeclaredItems.{Written, DeclaredParam, Item, class_item, field_item, method_item, ctor_item, DeclaredItem}
use Rattle.jr_table.specs.Faults.{Place, At, PackageLine, HasFault, SameTypes, SameMember, ParamTwice, params_of, name_at}
use Rattle.jr_build_rows.specs.declared.signatures.Signature as raw
use Rattle.jr_build_rows.specs.declared.signatures.SignatureIndex.{SignatureIndex}
use Rattle.jr_build_hierarchy.specs.Hierarchies.{Hierarchy, meaning}
use Rattle.jr_build_places.specs.Places.{IsEarliest}
use Rattle.jr_build_rows.specs.Signatures.{Signature, same_signature, signature_view, number_under, PutsSignature, meanings, signature_of, HasEarlierMember, TwiceMemberAt, member_twice}
use Rattle.jr_build_declared.specs.DeclarationFaults.{IsLeastAt, Among}
use Rattle.jr_build_rows.specs.TypeFaults.{lesser}
use Rattle.jr_build_declared.proofs.Earliest.{same_property, all, inside}
use Rattle.jr_build_rows.proofs.Knowing as knowing
use Rattle.jr_build_rows.proofs.Least.{same_least, least_of}

maybe_types_decide : (x y : Option (List Ty)) → Decides (option_eq same_types x y) (x ≡ y)
maybe_types_decide None None = (λ e. refl, λ e. refl)
maybe_types_decide None (Some y) = (λ e. absurd cc, λ e. absurd cc)
maybe_types_decide (Some x) None = (λ e. absurd cc, λ e. absurd cc)
maybe_types_decide (Some x) (Some y) = (λ e. ap Some ((types_decide x y).0 e), λ e. (types_decide x y).1 cc)

pub signature_decides : (s t : Signature) → Decides (same_signature s t) (s ≡ t)
signature_decides s t = Decides-like (same_signature s t)
    (λ p. λ i. record { of = p.0 i; name = p.1.0 i; params = p.1.1 i })
    (λ e. (ap (λ (x : Signature). x.of) e, (ap (λ (x : Signature). x.name) e, ap (λ (x : Signature). x.params) e)))
    (Decides-and (same_class s.of t.of) (option_eq (pointwise nat_eq) s.name t.name && option_eq same_types s.params t.params)
    (class_decides s.of t.of)
    (Decides-and (option_eq (pointwise nat_eq) s.name t.name) (option_eq same_types s.params t.params)
    (maybe_name_decides s.name t.name) (maybe_types_decide s.params t.params)))

-- of what a partial value is made
pub made_of : {X Y : Type 0} (f : X → Y) (o : Option X) (y : Y) → option_map f o ≡ Some y → (x : X) × (o ≡ Some x) × (f x ≡ y)
made_of f None y e = absurd cc
made_of f (Some x) y e = (x, refl, inside (f x) y e)

pub pairs_of : (o : Option Ty) (m : Option (List Ty)) (ts : List Ty) → option_and_then (λ t. option_map (λ us. t ∷ us) m) o ≡ Some ts
    → (t : Ty) × (us : List Ty) × (o ≡ Some t) × (m ≡ Some us) × (t ∷ us ≡ ts)
pairs_of None m ts e = absurd cc
pairs_of (Some t) m ts e = let u = made_of (λ us. t ∷ us) m ts e in (t, u.0, refl, u.1, u.2)

module _ (declarations : List DeclaredItem) (h : Hierarchy) where
  -- the declarations whose signatures are known
  abbrev pub Has : ℕ → raw.Signature → Type 0
  Has n r = knowing.Has signature_view same_signature signature_decides (λ (s : DeclaredItem). signature_of h s.item) declarations n r

  abbrev pub Knows : ℕ → raw.Signature → Option ℕ → Type 0
  Knows n r o = knowing.Knows signature_view same_signature signature_decides (λ (s : DeclaredItem). signature_of h s.item) declarations n r o

  pub none_known : (t : SignatureIndex) → ((r : raw.Signature) → number_under t r ≡ None) → (r : raw.Signature) → Knows 0 r (number_under t r)
  none_known t = knowing.none_known signature_view same_signature signature_decides (λ (s : DeclaredItem). signature_of h s.item) declarations (number_under t)

  pub one_known : (n file w : ℕ) (item : Item) (own : Option raw.Signature) (old new : SignatureIndex) → slice_get declarations n ≡ Some (record { file = file; item = item })
      → option_map signature_view own ≡ signature_of h item → PutsSignature old own w new
      → ((r : raw.Signature) → Knows n r (number_under old r)) → (r : raw.Signature) → Knows (n + 1) r (number_under new r)
  one_known n file w item None old new here is puts known =
      knowing.nothing_known signature_view same_signature signature_decides (λ (s : DeclaredItem). signature_of h s.item) declarations n (record { file = file; item = item })
      (number_under old) (number_under new) here (sym is) puts known
  one_known n file w item (Some own) old new here is puts known =
      knowing.one_known signature_view same_signature signature_decides (λ (s : DeclaredItem). signature_of h s.item) declarations n w (record { file = file; item = item }) own
      (number_under old) (number_under new) here (sym is) puts known

module _ (declarations : List DeclaredItem) (h : Hierarchy) (means : (k : ClassKey) (w : Written) (t : Ty) → (meaning h k w ≡ Some t) ↔ Means declarations k w t) where
  same_types_of : (k : ClassKey) (ps qs : List DeclaredParam) (ts : List Ty) → meanings h k ps ≡ Some ts → meanings h k qs ≡ Some ts → SameTypes declarations k ps qs
  same_types_of k [] [] ts e f = tt
  same_types_of k [] (q ∷ qs) ts e f = let p = pairs_of (meaning h k q.type) (meanings h k qs) ts f in let x = p.4 ∙ sym (inside _ _ e) in absurd cc
  same_types_of k (p ∷ ps) [] ts e f = let q = pairs_of (meaning h k p.type) (meanings h k ps) ts e in let x = q.4 ∙ sym (inside _ _ f) in absurd cc
  same_types_of k (p ∷ ps) (q ∷ qs) ts e f =
      let x = pairs_of (meaning h k p.type) (meanings h k ps) ts e in
      let y = pairs_of (meaning h k q.type) (meanings h k qs) ts f in
      let same = x.4 ∙ sym y.4 in
      let head : x.0 ≡ y.0 = cc in
      let rest : x.1 ≡ y.1 = cc in (
        (x.0, (means k p.type x.0).0 x.2, (means k q.type x.0).0 (y.2 ∙ ap Some (sym head))),
        same_types_of k ps qs x.1 x.3 (y.3 ∙ ap Some (sym rest)),
      )

  types_same : (k : ClassKey) (ps qs : List DeclaredParam) → SameTypes declarations k ps qs → (ts : List Ty) × (meanings h k ps ≡ Some ts) × (meanings h k qs ≡ Some ts)
  types_same k [] [] s = ([], refl, refl)
  types_same k [] (q ∷ qs) s = absurd s
  types_same k (p ∷ ps) [] s = absurd s
  types_same k (p ∷ ps) (q ∷ qs) ((t, m, n), s) =
      let r = types_same k ps qs s in (
        t ∷ r.0,
        (λ i. option_and_then (λ t. option_map (λ us. t ∷ us) (r.1 i)) ((means k p.type t).1 m i)),
        (λ i. option_and_then (λ t. option_map (λ us. t ∷ us) (r.2 i)) ((means k q.type t).1 n i)),
      )

  pub same_member : (l m : Item) (s : Signature) → signature_of h l ≡ Some s → signature_of h m ≡ Some s → SameMember declarations l m
  same_member (class_item c) m s e f = absurd cc
  same_member l (class_item c) s e f = absurd cc
  same_member (field_item f) (field_item g) s e k = let both = inside _ _ (e ∙ sym k) in
      (ap (λ (x : Signature). x.of) both, inside _ _ (ap (λ (x : Signature). x.name) both))
  same_member (method_item m) (method_item n) s e f =
      let x = made_of _ (meanings h m.of m.params) s e in
      let y = made_of _ (meanings h n.of n.params) s f in
      let both = x.2 ∙ sym y.2 in
      let of = ap (λ (x : Signature). x.of) both in
      let types = inside _ _ (ap (λ (x : Signature). x.params) both) in (
        of,
        inside _ _ (ap (λ (x : Signature). x.name) both),
        same_types_of m.of m.params n.params x.0 x.1 (ap (λ k. meanings h k n.params) of ∙ y.1 ∙ ap Some (sym types)),
      )
  same_member (ctor_item c) (ctor_item d) s e f =
      let x = made_of _ (meanings h c.of c.params) s e in
      let y = made_of _ (meanings h d.of d.params) s f in
      let both = x.2 ∙ sym y.2 in
      let of = ap (λ (x : Signature). x.of) both in
      let types = inside _ _ (ap (λ (x : Signature). x.params) both) in
      (of, same_types_of c.of c.params d.params x.0 x.1 (ap (λ k. meanings h k d.params) of ∙ y.1 ∙ ap Some (sym types)))
  same_member (field_item f) (method_item n) s e k = let y = made_of _ (meanings h n.of n.params) s k in let z = ap (λ (x : Signature). x.params) (inside _ _ e ∙ sym y.2) in absurd cc
  same_member (field_item f) (ctor_item d) s e k = let y = made_of _ (meanings h d.of d.params) s k in let z = ap (λ (x : Signature). x.params) (inside _ _ e ∙ sym y.2) in absurd cc
  same_member (method_item n) (field_item f) s e k = let y = made_of _ (meanings h n.of n.params) s e in let z = ap (λ (x : Signature). x.params) (inside _ _ k ∙ sym y.2) in absurd cc
  same_member (ctor_item d) (field_item f) s e k = let y = made_of _ (meanings h d.of d.params) s e in let z = ap (λ (x : Signature). x.params) (inside _ _ k ∙ sym y.2) in absurd cc
  same_member (method_item m) (ctor_item d) s e f =
      let x = made_of _ (meanings h m.of m.params) s e in let y = made_of _ (meanings h d.of d.params) s f in
      let z = ap (λ (x : Signature). x.name) (x.2 ∙ sym y.2) in absurd cc
  same_member (ctor_item d) (method_item m) s e f =
      let x = made_of _ (meanings h m.of m.params) s f in let y = made_of _ (meanings h d.of d.params) s e in
      let z = ap (λ (x : Signature). x.name) (x.2 ∙ sym y.2) in absurd cc

  pub member_same : (l m : Item) → SameMember declarations l m → (s : Signature) × (signature_of h l ≡ Some s) × (signature_of h m ≡ Some s)
  member_same (field_item f) (field_item g) (of, name) = (
    record { of = f.of; name = Some f.name; params = None },
    refl,
    λ i. Some (record { of = sym of i; name = Some (sym name i); params = None }),
  )
  member_same (method_item m) (method_item n) (of, name, types) =
      let r = types_same m.of m.params n.params types in (
        record { of = m.of; name = Some m.name; params = Some r.0 },
        ap (option_map (λ ts. record { of = m.of; name = Some m.name; params = Some ts })) r.1,
        (λ i. option_map (λ ts. record { of = sym of i; name = Some (sym name i); params = Some ts }) (meanings h (sym of i) n.params))
            ∙ ap (option_map (λ ts. record { of = m.of; name = Some m.name; params = Some ts })) r.2,
      )
  member_same (ctor_item c) (ctor_item d) (of, types) =
      let r = types_same c.of c.params d.params types in (
        record { of = c.of; name = None; params = Some r.0 },
        ap (option_map (λ ts. record { of = c.of; name = None; params = Some ts })) r.1,
        (λ i. option_map (λ ts. record { of = sym of i; name = None; params = Some ts }) (meanings h (sym of i) d.params))
            ∙ ap (option_map (λ ts. record { of = c.of; name = None; params = Some ts })) r.2,
      )
  member_same (class_item c) m s = absurd s
  member_same (field_item f) (class_item c) s = absurd s
  member_same (field_item f) (method_item n) s = absurd s
  member_same (field_item f) (ctor_item d) s = absurd s
  member_same (method_item m) (class_item c) s = absurd s
  member_same (method_item m) (field_item g) s = absurd s
  member_same (method_item m) (ctor_item d) s = absurd s
  member_same (ctor_item c) (class_item d) s = absurd s
  member_same (ctor_item c) (field_item g) s = absurd s
  member_same (ctor_item c) (method_item n) s = absurd s

  -- the fault of an item
  abbrev Again : ℕ → Item → ℕ → Type 0
  Again j m at = HasEarlierMember declarations j m × (at ≡ name_at m)

  with_signature : (j : ℕ) (m : Item) (r : raw.Signature) (before : Option ℕ) → Some (signature_view r) ≡ signature_of h m → Knows declarations h j r before
      → IsLeastAt (Again j m) (member_twice m before)
  with_signature j m r (Some w) is (i, x, lt, at, has) =
      (((i, x.file, x.item, lt, record { stands = at }, same_member x.item m (signature_view r) has (sym is)), refl), λ b h. let e = h.1 in omega (arith, e))
  with_signature j m r None is none = λ at ((i, file, l, lt, stands, same), e).
      let s = member_same l m same in
      none (i, record { file = file; item = l }, lt, stands.stands, s.1 ∙ sym s.2 ∙ sym is)

  pub again_or_not : (j : ℕ) (m : Item) (own : Option raw.Signature) (index : SignatureIndex) (before : Option ℕ) → option_map signature_view own ≡ signature_of h m
      → before ≡ option_and_then (number_under index) own → ((r : raw.Signature) → Knows declarations h j r (number_under index r))
      → IsLeastAt (Again j m) (member_twice m before)
  again_or_not j m None index before is e known = subst (λ o. IsLeastAt (Again j m) (member_twice m o)) (sym e)
      (λ at ((i, file, l, lt, stands, same), k). let s = member_same l m same in let x = is ∙ s.2 in absurd cc)
  again_or_not j m (Some r) index before is e known = with_signature j m r before is (subst (Knows declarations h j r) (sym e) (known r))

  pub twice_or_not : (j : ℕ) (m : Item) (again in_params : Option ℕ) → IsLeastAt (Again j m) again → IsLeastAt (ParamTwice (params_of m)) in_params
      → IsLeastAt (TwiceMemberAt declarations j m) (lesser again in_params)
  twice_or_not j m again in_params a b = least_of (Again j m) (ParamTwice (params_of m)) again in_params a b

module _ (declarations : List DeclaredItem) where
  pub twice_members : (packages : List (Option PackageLine)) (n : ℕ) → length declarations ≤ n → (r : Option Place) → IsEarliest (Among declarations (TwiceMemberAt declarations) n) r
      → IsEarliest (HasFault packages declarations kind.TwiceMember) r
  twice_members packages n end r e = same_property (λ p. (j : ℕ) × (m : Item) × At declarations j p.file m × TwiceMemberAt declarations j m p.at) (HasFault packages declarations kind.TwiceMember)
      to from r (all declarations (TwiceMemberAt declarations) n end r e)
    where
      to : (p : Place) → ((j : ℕ) × (m : Item) × At declarations j p.file m × TwiceMemberAt declarations j m p.at) → HasFault packages declarations kind.TwiceMember p
      to p (j, m, at, inl ((i, file, l, lt, stands, same), e)) = (j, m, at, inl (i, file, l, lt, stands, same, e))
      to p (j, m, at, inr t) = (j, m, at, inr t)

      from : (p : Place) → HasFault packages declarations kind.TwiceMember p → (j : ℕ) × (m : Item) × At declarations j p.file m × TwiceMemberAt declarations j m p.at
      from p (j, m, at, inl (i, file, l, lt, stands, same, e)) = (j, m, at, inl ((i, file, l, lt, stands, same), e))
      from p (j, m, at, inr t) = (j, m, at, inr t)
