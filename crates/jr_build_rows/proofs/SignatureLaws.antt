-- Signatures: what decides that two are equal, and how those of items are made.
use Rattle.std.proofs.Common.{◌≡◌, ℕ, suc, ◌+◌, ◌<◌, ◌≤◌, List, [], ◌∷◌, ◌++◌, length, get_or, drop, map, Option, Some, None, Bool, true, false, cond, Bor, Vec, Global, add-one, refl, sym, ap, subst, ◌∙◌, inl, inr, arith}
use Rattle.std.specs.Prelude.{◌&&◌, nat_eq, option_map, option_and_then}
use Rattle.std.specs.Option.{option_eq}
use Rattle.std.specs.Cmp.Lexicographic.{pointwise}
use Rattle.std.specs.HashMap.{HashMap, get_by, UpdatesBy}
use Rattle.std.proofs.lemmas.List.{append_assoc, append-nil, drop_all}
use Rattle.std.proofs.Math.Seq.{drop-cons}
use Rattle.jr_table.specs.Keys.{ClassKey, Ty}
use Rattle.jr_table.specs.SameKeys.{same_class, same_ty, same_types}
use Rattle.jr_build_hierarchy.specs.declared.meanings.Meaning as raw_meaning
use Rattle.jr_build_hierarchy.specs.declared.meanings.Meaning.TheVariants as meaning_case
use Rattle.jr_build_rows.specs.declared.signatures.Signature as raw
use Rattle.jr_build_rows.specs.declared.signatures.SignatureIndex.{SignatureIndex}
use Rattle.jr_build_declared.specs.declared.declarations.DeclaredKey.{DeclaredKey}
use Rattle.jr_build_declared.specs.declared.declarations.DeclaredParam as raw_param
use Rattle.jr_build_hierarchy.specs.Hierarchies.{Hierarchy, meaning}
use Rattle.jr_build_hierarchy.specs.HierarchyView.{meaning_of}
use Rattle.jr_build_rows.specs.Signatures.{Signature, same_signature, signature_view, number_under, PutsSignature, meanings}
use Rattle.jr_build_declared.specs.DeclaredView.{text_of, declaration_key_of, param_declaration_of, written_of}
use Rattle.jr_build_declared.proofs.KeyLaws.{outer_tests}

-- the test of the parts is that of the pure parts
module _ (K : DeclaredKey → DeclaredKey → Bool) (key_is : (x y : DeclaredKey) → K x y ≡ same_class (declaration_key_of x) (declaration_key_of y))
    (R : Bor (List ℕ) → Bor (List ℕ) → Bool) (text_is : (x y : Bor (List ℕ)) → R x y ≡ pointwise nat_eq x.now y.now)
    (M : raw_meaning.Meaning → raw_meaning.Meaning → Bool) (meaning_is : (x y : raw_meaning.Meaning) → M x y ≡ same_ty (meaning_of x) (meaning_of y)) where
  types_tests : (xs ys : List raw_meaning.Meaning) → pointwise M xs ys ≡ same_types (map meaning_of xs) (map meaning_of ys)
  types_tests [] [] = refl
  types_tests [] (y ∷ ys) = refl
  types_tests (x ∷ xs) [] = refl
  types_tests (x ∷ xs) (y ∷ ys) = λ i. meaning_is x y i && types_tests xs ys i

  params_tests : (x y : Option (Vec raw_meaning.Meaning Global)) → option_eq (λ v w. pointwise M v.items w.items) x y
      ≡ option_eq same_types (option_map (λ v. map meaning_of v.items) x) (option_map (λ v. map meaning_of v.items) y)
  params_tests None None = refl
  params_tests None (Some y) = refl
  params_tests (Some x) None = refl
  params_tests (Some x) (Some y) = types_tests x.items y.items

  pub signature_tests : (x y : raw.Signature) → (K x.of y.of && (option_eq R x.name y.name && option_eq (λ v w. pointwise M v.items w.items) x.params y.params))
      ≡ same_signature (signature_view x) (signature_view y)
  signature_tests x y = λ i. key_is x.of y.of i && (outer_tests R text_is x.name y.name i && params_tests x.params y.params i)

-- what an insertion says, in pure signatures
module _ (E : raw.Signature → raw.Signature → Bool) (tests : (x y : raw.Signature) → E x y ≡ same_signature (signature_view x) (signature_view y)) {S : Type 0} where
  abbrev Finds : HashMap raw.Signature ℕ S → raw.Signature → Option ℕ
  Finds m s = get_by (λ x. same_signature (signature_view s) (signature_view x)) m

  pub found_is : (m : HashMap raw.Signature ℕ S) (s : raw.Signature) → get_by (E s) m ≡ Finds m s
  found_is m s = ap (λ f. get_by f m) (λ i x. tests s x i)

  pub puts : (own : raw.Signature) (m n : HashMap raw.Signature ℕ S) (w : Option ℕ) → UpdatesBy E (E own) m n w → (s : raw.Signature)
      → Finds n s ≡ cond (same_signature (signature_view own) (signature_view s)) w (Finds m s)
  puts own m n w u s = sym (found_is n s) ∙ u.0 s ∙ (λ i. cond (tests own s i) w (found_is m s i))

-- what parameters mean, one after another
module _ (h : Hierarchy) (k : ClassKey) (ps : List raw_param.DeclaredParam) where
  abbrev Left : ℕ → Option (List Ty)
  Left i = meanings h k (map param_declaration_of (drop i ps))

  abbrev Whole : Option (List Ty)
  Whole = meanings h k (map param_declaration_of ps)

  step : (i : ℕ) (d : raw_param.DeclaredParam) → i < length ps → Left i
      ≡ option_and_then (λ t. option_map (λ ts. t ∷ ts) (Left (i + 1))) (meaning h k (written_of (get_or ps i d).written))
  step i d lt = ap (λ qs. meanings h k (map param_declaration_of qs)) (drop-cons ps i d lt ∙ ap (λ n. get_or ps i d ∷ drop n ps) (sym (add-one i)))

  pub not_meant : (i : ℕ) (d : raw_param.DeclaredParam) (so_far : List Ty) → i < length ps → meaning h k (written_of (get_or ps i d).written) ≡ None
      → option_map (λ ts. so_far ++ ts) (Left i) ≡ Whole → None ≡ Whole
  not_meant i d so_far lt none inv =
      sym (ap (λ o. option_map (λ ts. so_far ++ ts) o) (step i d lt ∙ ap (option_and_then (λ t. option_map (λ ts. t ∷ ts) (Left (i + 1)))) none)) ∙ inv

  joins : (before after : List Ty) (t : Ty) (o : Option (List Ty)) → after ≡ before ++ t ∷ []
      → option_map (λ ts. after ++ ts) o ≡ option_map (λ ts. before ++ ts) (option_map (λ ts. t ∷ ts) o)
  joins before after t None e = refl
  joins before after t (Some ts) e = ap Some (ap (λ b. b ++ ts) e ∙ append_assoc before (t ∷ []) ts)

  pub one_meant : (i : ℕ) (d : raw_param.DeclaredParam) (before after : List Ty) (t : Ty) → i < length ps
      → Some t ≡ meaning h k (written_of (get_or ps i d).written) → after ≡ before ++ t ∷ []
      → option_map (λ ts. before ++ ts) (Left i) ≡ Whole → option_map (λ ts. after ++ ts) (Left (i + 1)) ≡ Whole
  one_meant i d before after t lt some e inv =
      joins before after t (Left (i + 1)) e
      ∙ sym (ap (λ o. option_map (λ ts. before ++ ts) o) (step i d lt ∙ ap (option_and_then (λ t. option_map (λ ts. t ∷ ts) (Left (i + 1)))) (sym some))) ∙ inv

  same_map : (o : Option (List Ty)) → option_map (λ ts. [] ++ ts) o ≡ o
  same_map None = refl
  same_map (Some ts) = refl

  pub at_start : (so_far : List Ty) → so_far ≡ [] → option_map (λ ts. so_far ++ ts) (Left 0) ≡ Whole
  at_start so_far e = ap (λ b. option_map (λ ts. b ++ ts) (Left 0)) e ∙ same_map Whole

  pub at_end : (i : ℕ) (so_far : List Ty) → length ps ≤ i → option_map (λ ts. so_far ++ ts) (Left i) ≡ Whole → Some so_far ≡ Whole
  at_end i so_far past inv =
      ap Some (sym (append-nil so_far)) ∙ sym (ap (λ qs. option_map (λ ts. so_far ++ ts) (meanings h k (map param_declaration_of qs))) (drop_all i ps past)) ∙ inv

pub none_is : {X : Type 0} (o : Option X) → ((x : X) → o ≡ Some x → ⊥) → o ≡ None
none_is None h = refl
none_is (Some x) h = absurd (h x refl)
