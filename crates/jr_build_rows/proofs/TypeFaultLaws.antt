-- Types that mean nothing, in the words of what is known and in those of the program.
use Rattle.std.proofs.Common.{◌≡◌, ℕ, suc, ◌+◌, ◌<◌, ◌≤◌, List, [], ◌∷◌, ◌++◌, length, get_or, take, map, Option, Some, None, add-one, refl, sym, ap, subst, ◌∙◌, inl, inr, arith}
use Rattle.std.specs.Prelude.{◌⊎◌, ◌↔◌}
use Rattle.std.proofs.Math.Seq.{take-suc}
use Rattle.jr_table.specs.declared.kinds.DeclKind.TheVariants as kind
use Rattle.jr_table.specs.Keys.{ClassKey, Ty}
use Rattle.jr_table.specs.Keys as keys
use Rattle.jr_table.specs.Resolving.{Means}
use Rattle.jr_table.specs.DeclaredItems.{Written, int, boolean, named, DeclaredParam, DeclaredMethod, DeclaredField, DeclaredCtor, Item, field_item, method_item, ctor_item, class_item, DeclaredItem}
use Rattle.jr_table.specs.Faults.{Place, At, PackageLine, HasFault, Writes, WritesType}
use Rattle.jr_build_declared.specs.declared.declarations.DeclaredParam as raw
use Rattle.jr_build_hierarchy.specs.Hierarchies.{Hierarchy, meaning}
use Rattle.jr_build_places.specs.Places.{IsEarliest}
use Rattle.jr_build_declared.specs.DeclarationFaults.{IsLeastAt, Among}
use Rattle.jr_build_declared.specs.DeclaredView.{param_declaration_of, written_of}
use Rattle.jr_build_rows.specs.TypeFaults.{lesser, MeansNothing, MaybeNothing, AnyNothing, NothingAt}
use Rattle.jr_build_declared.proofs.Earliest.{same_property, all}
use Rattle.jr_build_rows.proofs.Least.{same_least, least_of}
use Rattle.jr_build_declared.proofs.DeclarationLists.{map_join}

module _ (h : Hierarchy) (k : ClassKey) where
  -- a type by itself
  pub means_all : (w : Written) (t : Ty) → meaning h k w ≡ Some t → IsLeastAt (MeansNothing h k w) None
  means_all w t e = λ at (outer, name, is, none). absurd cc

  pub means_nothing : (at : ℕ) (outer : Option (List ℕ)) (name : List ℕ) → meaning h k (named at outer name) ≡ None
      → IsLeastAt (MeansNothing h k (named at outer name)) (Some at)
  means_nothing at outer name none = ((outer, name, refl, none), λ b (o, n, is, e). let s = place is in omega (arith, s))
    where
      at_of : Written → ℕ
      at_of int = 0
      at_of boolean = 0
      at_of (named a o n) = a

      place : {b : ℕ} {o : Option (List ℕ)} {n : List ℕ} → named at outer name ≡ named b o n → at ≡ b
      place e = ap at_of e

  pub simple_means : (w : Written) → (meaning h k w ≡ None → ⊥) → IsLeastAt (MeansNothing h k w) None
  simple_means w some = λ at (outer, name, is, none). some none

  -- one that may be written
  pub none_written : IsLeastAt (MaybeNothing h k None) None
  none_written = λ at (w, is, rest). cc

  pub one_written : (w : Written) (r : Option ℕ) → IsLeastAt (MeansNothing h k w) r → IsLeastAt (MaybeNothing h k (Some w)) r
  one_written w r = same_least (MeansNothing h k w) (MaybeNothing h k (Some w)) (λ a m. (w, refl, m))
      (λ a (v, is, m). subst (λ x. MeansNothing h k x a) (sym (let e : w ≡ v = cc in e)) m) r

  -- those of parameters, one after another
  writes_one_more : (ps : List DeclaredParam) (p : DeclaredParam) (w : Written) → Writes (ps ++ p ∷ []) w ↔ (Writes ps w ⊎ (p.type ≡ w))
  writes_one_more [] p w = (to, from)
    where
      to : ((p.type ≡ w) ⊎ ⊥) → ⊥ ⊎ (p.type ≡ w)
      to (inl e) = inr e
      to (inr x) = inl x

      from : (⊥ ⊎ (p.type ≡ w)) → (p.type ≡ w) ⊎ ⊥
      from (inl x) = inr x
      from (inr e) = inl e
  writes_one_more (q ∷ qs) p w = let more = writes_one_more qs p w in (to more.0, from more.1)
    where
      to : (Writes (qs ++ p ∷ []) w → Writes qs w ⊎ (p.type ≡ w)) → ((q.type ≡ w) ⊎ Writes (qs ++ p ∷ []) w) → ((q.type ≡ w) ⊎ Writes qs w) ⊎ (p.type ≡ w)
      to f (inl e) = inl (inl e)
      to f (inr x) = elim (f x) [ inl y ↦ inl (inr y) | inr e ↦ inr e ]

      from : (Writes qs w ⊎ (p.type ≡ w) → Writes (qs ++ p ∷ []) w) → (((q.type ≡ w) ⊎ Writes qs w) ⊎ (p.type ≡ w)) → (q.type ≡ w) ⊎ Writes (qs ++ p ∷ []) w
      from f (inl (inl e)) = inl e
      from f (inl (inr y)) = inr (f (inl y))
      from f (inr e) = inr (f (inr e))

  pub any_more : (ps : List raw.DeclaredParam) (i : ℕ) (d : raw.DeclaredParam) (best here : Option ℕ) → i < length ps
      → IsLeastAt (AnyNothing h k (map param_declaration_of (take i ps))) best
      → IsLeastAt (MeansNothing h k (written_of (get_or ps i d).written)) here
      → IsLeastAt (AnyNothing h k (map param_declaration_of (take (i + 1) ps))) (lesser best here)
  any_more ps i d best here lt so_far own =
      subst (λ qs. IsLeastAt (AnyNothing h k qs) (lesser best here)) (sym whole)
      (same_least (λ n. AnyNothing h k before n ⊎ MeansNothing h k one.type n) (AnyNothing h k (before ++ one ∷ [])) to from (lesser best here)
      (least_of (AnyNothing h k before) (MeansNothing h k one.type) best here so_far own))
    where
      one : DeclaredParam
      one = param_declaration_of (get_or ps i d)

      before : List DeclaredParam
      before = map param_declaration_of (take i ps)

      whole : map param_declaration_of (take (i + 1) ps) ≡ before ++ one ∷ []
      whole = ap (λ n. map param_declaration_of (take n ps)) (add-one i) ∙ ap (λ xs. map param_declaration_of xs) (take-suc ps i d lt) ∙ map_join param_declaration_of (take i ps) (get_or ps i d ∷ [])

      to : (n : ℕ) → (AnyNothing h k before n ⊎ MeansNothing h k one.type n) → AnyNothing h k (before ++ one ∷ []) n
      to n (inl (w, writes, m)) = (w, (writes_one_more before one w).1 (inl writes), m)
      to n (inr m) = (one.type, (writes_one_more before one one.type).1 (inr refl), m)

      from : (n : ℕ) → AnyNothing h k (before ++ one ∷ []) n → AnyNothing h k before n ⊎ MeansNothing h k one.type n
      from n (w, writes, m) = elim ((writes_one_more before one w).0 writes) [
        | inl early ↦ inl (w, early, m)
        | inr e ↦ inr (subst (λ x. MeansNothing h k x n) (sym e) m)
      ]

module _ (h : Hierarchy) where
  -- those of an item
  pub of_class : (c : _) → IsLeastAt (NothingAt h (class_item c)) None
  of_class c = λ at (k, w, writes, m). writes

  pub of_field : (f : DeclaredField) (r : Option ℕ) → IsLeastAt (MeansNothing h f.of f.type) r → IsLeastAt (NothingAt h (field_item f)) r
  of_field f r = same_least (MeansNothing h f.of f.type) (NothingAt h (field_item f)) (λ a m. (f.of, f.type, (refl, refl), m))
      (λ a (k, w, (of, is), m). subst (λ x. MeansNothing h f.of x a) (sym is) (subst (λ x. MeansNothing h x w a) (sym of) m)) r

  pub of_ctor : (c : DeclaredCtor) (r : Option ℕ) → IsLeastAt (AnyNothing h c.of c.params) r → IsLeastAt (NothingAt h (ctor_item c)) r
  of_ctor c r = same_least (AnyNothing h c.of c.params) (NothingAt h (ctor_item c)) (λ a (w, writes, m). (c.of, w, (refl, writes), m))
      (λ a (k, w, (of, writes), m). (w, writes, subst (λ x. MeansNothing h x w a) (sym of) m)) r

  pub of_method : (m : DeclaredMethod) (a b : Option ℕ) → IsLeastAt (MaybeNothing h m.of m.result) a → IsLeastAt (AnyNothing h m.of m.params) b
      → IsLeastAt (NothingAt h (method_item m)) (lesser a b)
  of_method m a b in_result in_params =
      same_least (λ n. MaybeNothing h m.of m.result n ⊎ AnyNothing h m.of m.params n) (NothingAt h (method_item m)) to from (lesser a b)
      (least_of (MaybeNothing h m.of m.result) (AnyNothing h m.of m.params) a b in_result in_params)
    where
      to : (n : ℕ) → (MaybeNothing h m.of m.result n ⊎ AnyNothing h m.of m.params n) → NothingAt h (method_item m) n
      to n (inl (w, is, x)) = (m.of, w, (refl, inl is), x)
      to n (inr (w, writes, x)) = (m.of, w, (refl, inr writes), x)

      from : (n : ℕ) → NothingAt h (method_item m) n → MaybeNothing h m.of m.result n ⊎ AnyNothing h m.of m.params n
      from n (k, w, (of, inl is), x) = inl (w, is, subst (λ y. MeansNothing h y w n) (sym of) x)
      from n (k, w, (of, inr writes), x) = inr (w, writes, subst (λ y. MeansNothing h y w n) (sym of) x)

-- the fault
module _ (packages : List (Option PackageLine)) (declarations : List DeclaredItem) (h : Hierarchy)
    (means : (k : ClassKey) (w : Written) (t : Ty) → (meaning h k w ≡ Some t) ↔ Means declarations k w t) where
  meant_or_not : (o : Option Ty) → (o ≡ None) ⊎ ((t : Ty) × (o ≡ Some t))
  meant_or_not None = inl refl
  meant_or_not (Some t) = inr (t, refl)

  pub no_types : (n : ℕ) → length declarations ≤ n → (r : Option Place) → IsEarliest (Among declarations (λ _. NothingAt h) n) r
      → IsEarliest (HasFault packages declarations kind.NoTy) r
  no_types n end r e = same_property (λ p. (i : ℕ) × (item : Item) × At declarations i p.file item × NothingAt h item p.at) (HasFault packages declarations kind.NoTy)
      to from r (all declarations (λ _. NothingAt h) n end r e)
    where
      to : (p : Place) → ((i : ℕ) × (item : Item) × At declarations i p.file item × NothingAt h item p.at) → HasFault packages declarations kind.NoTy p
      to p (i, item, at, (k, w, writes, (outer, name, is, none))) = (
        i,
        item,
        k,
        outer,
        name,
        at,
        subst (λ x. WritesType item k x) is writes,
        λ t m. let e = (means k (named p.at outer name) t).1 m in let f = ap (meaning h k) (sym is) ∙ none in cc,
      )

      from : (p : Place) → HasFault packages declarations kind.NoTy p → (i : ℕ) × (item : Item) × At declarations i p.file item × NothingAt h item p.at
      from p (i, item, k, outer, name, at, writes, none) = (i, item, at, (k, named p.at outer name, writes, (outer, name, refl, nothing (meant_or_not (meaning h k (named p.at outer name))))))
        where
          nothing : ((meaning h k (named p.at outer name) ≡ None) ⊎ ((t : Ty) × (meaning h k (named p.at outer name) ≡ Some t))) → meaning h k (named p.at outer name) ≡ None
          nothing (inl e) = e
          nothing (inr (t, e)) = absurd (none t ((means k (named p.at outer name) t).0 e))
