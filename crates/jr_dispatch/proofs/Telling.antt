-- What is told of a method's new name.
use Rattle.std.proofs.Common.{◌≡◌, ℕ, zero, suc, ◌<◌, List, [], ◌∷◌, map, Option, Some, None, Bool, true, false, cond, refl, sym, ap, subst, ◌∙◌, inl, inr}
use Rattle.std.specs.Prelude.{◌⊎◌, ◌↔◌, slice_get, Result, Ok, Err, IfSome, IfNone}
use Rattle.std.specs.Result.{IfOk}
use Rattle.std.proofs.lemmas.Bool.{lt-ltb, ltb-true}
use Rattle.jr_table.specs.declared.decls.Decl as raw
use Rattle.jr_table.specs.Keys.{MethodKey}
use Rattle.jr_table.specs.Decls.{Decl, class_decl, field_decl, method_decl, constructor_decl, local_decl}
use Rattle.jr_table.specs.Rows.{Row}
use Rattle.jr_table.specs.Entries.{IsRowOf, number_of}
use Rattle.jr_table.specs.Conditions.{AreRows}
use Rattle.jr_table.specs.ExpressionRules.{IsObjectMethod}
use Rattle.jr_table.specs.KeyView.{decl_of}
use Rattle.jr_table.specs.Notes.{is_object_method}
use Rattle.jr_table.proofs.RowLaws.{number_stands, the_number}
use Rattle.jr_table.proofs.DeclarationTests.{object_method_iff}
use Rattle.jr_names.specs.DeclTexts.{decl_text}
use Rattle.jr_images.specs.Targets.{IsOfPrelude}
use Rattle.jr_images.specs.Families.{InFamily, Among, AreRenamed, IsRenamedWith}
use Rattle.jr_images.specs.Refusals.{IsMethod, HasPreludeMethod, ChangesPrelude}
use Rattle.jr_dispatch.specs.Told.{HasPrelude, IsTold, is_early, is_prelude_method}

-- ---- places in lists

among_at : (xs : List raw.Decl) (n : ℕ) (x : raw.Decl) → slice_get xs n ≡ Some x → Among (map decl_of xs) (decl_of x)
among_at [] n x e = absurd cc
among_at (y ∷ xs) zero x e = let z : y ≡ x = cc in inl (ap decl_of z)
among_at (y ∷ xs) (suc n) x e = inr (among_at xs n x e)

pub record IsPlaced (xs : List raw.Decl) (d : Decl) : Type 0 where
  pub place : ℕ
  pub item : raw.Decl
  pub stands : slice_get xs place ≡ Some item
  pub is : decl_of item ≡ d

at_among : (xs : List raw.Decl) (d : Decl) → Among (map decl_of xs) d → IsPlaced xs d
at_among [] d h = absurd h
at_among (y ∷ xs) d (inl e) = record { place = 0; item = y; stands = refl; is = e }
at_among (y ∷ xs) d (inr h) = let p = at_among xs d h in record { place = suc p.place; item = p.item; stands = p.stands; is = p.is }

-- ---- the prelude's methods

module _ (rows : List Row) (are : AreRows rows) where
  early : (d : Decl) (o : Option ℕ) → number_of rows d ≡ o → is_early o ≡ true → IsOfPrelude rows d
  early d None e h = absurd cc
  early d (Some n) e h = (n, ltb-true n 8 h, number_stands rows d n e)

  is_of : (d : Decl) → is_prelude_method rows d ≡ true → IsMethod d × IsOfPrelude rows d
  is_of (method_decl k) h = (tt, early (method_decl k) (number_of rows (method_decl k)) refl h)
  is_of (class_decl k) h = absurd cc
  is_of (field_decl k) h = absurd cc
  is_of (constructor_decl k) h = absurd cc
  is_of (local_decl k) h = absurd cc

  of_is : (d : Decl) → IsMethod d → IsOfPrelude rows d → is_prelude_method rows d ≡ true
  of_is (method_decl k) m p = ap is_early (the_number rows are (method_decl k) p.0 p.2) ∙ lt-ltb p.0 8 p.1
  of_is (class_decl k) m p = absurd m
  of_is (field_decl k) m p = absurd m
  of_is (constructor_decl k) m p = absurd m
  of_is (local_decl k) m p = absurd m

  -- one was found
  pub has_one : (xs : List raw.Decl) (n : ℕ) (x : raw.Decl) → slice_get xs n ≡ Some x → is_prelude_method rows (decl_of x) ≡ true → HasPrelude rows (map decl_of xs) (decl_text (decl_of x))
  has_one xs n x at h = let p = is_of (decl_of x) h in record { decl = decl_of x; among = among_at xs n x at; method = p.0; of_prelude = p.1; told = refl }

  pub has_none : (xs : List raw.Decl) → ((m : ℕ) (x : raw.Decl) → slice_get xs m ≡ Some x → is_prelude_method rows (decl_of x) ≡ true → ⊥)
      → (text : List ℕ) → HasPrelude rows (map decl_of xs) text → ⊥
  has_none xs none text h =
      let p = at_among xs h.decl h.among in
      none p.place p.item p.stands (subst (λ (d : Decl). is_prelude_method rows d ≡ true) (sym p.is) (of_is h.decl h.method h.of_prelude))

  -- ---- what is told

  pub told_some : (xs : List raw.Decl) (new text : List ℕ) (E : Type 0) (r : Result (Option (List ℕ)) E) → HasPrelude rows (map decl_of xs) text
      → IfOk r (λ o. o ≡ Some text) → IfOk r (λ o. IfSome o (IsTold rows (map decl_of xs) new)) × IfOk r (λ o. IfNone o ((t : List ℕ) → IsTold rows (map decl_of xs) new t → ⊥))
  told_some xs new text E (Err e) h is = (tt, tt)
  told_some xs new text E (Ok o) h is = (
    subst (λ (x : Option (List ℕ)). IfSome x (IsTold rows (map decl_of xs) new)) (sym is) (inl h),
    subst (λ (x : Option (List ℕ)). IfNone x ((t : List ℕ) → IsTold rows (map decl_of xs) new t → ⊥)) (sym is) tt,
  )

  pub told_none : (xs : List raw.Decl) (new : List ℕ) (E : Type 0) (r : Result (Option (List ℕ)) E) → ((text : List ℕ) → HasPrelude rows (map decl_of xs) text → ⊥)
      → IfOk r (λ o. o ≡ cond (is_object_method new) (Some new) None)
      → IfOk r (λ o. IfSome o (IsTold rows (map decl_of xs) new)) × IfOk r (λ o. IfNone o ((t : List ℕ) → IsTold rows (map decl_of xs) new t → ⊥))
  told_none xs new E (Err e) none is = (tt, tt)
  told_none xs new E (Ok o) none is = of (is_object_method new) refl
    where
      never : (IsObjectMethod new → ⊥) → (t : List ℕ) → IsTold rows (map decl_of xs) new t → ⊥
      never h t (inl p) = none t p
      never h t (inr p) = h p.1

      of : (b : Bool) → is_object_method new ≡ b → IfSome o (IsTold rows (map decl_of xs) new) × IfNone o ((t : List ℕ) → IsTold rows (map decl_of xs) new t → ⊥)
      of true e =
          let s : o ≡ Some new = is ∙ ap (λ b. cond b (Some new) None) e in (
            subst (λ (x : Option (List ℕ)). IfSome x (IsTold rows (map decl_of xs) new)) (sym s) (inr (none, (object_method_iff new).0 e, refl)),
            subst (λ (x : Option (List ℕ)). IfNone x ((t : List ℕ) → IsTold rows (map decl_of xs) new t → ⊥)) (sym s) tt,
          )
      of false e =
          let s : o ≡ None = is ∙ ap (λ b. cond b (Some new) None) e in (
            subst (λ (x : Option (List ℕ)). IfSome x (IsTold rows (map decl_of xs) new)) (sym s) tt,
            subst (λ (x : Option (List ℕ)). IfNone x ((t : List ℕ) → IsTold rows (map decl_of xs) new t → ⊥)) (sym s)
                (never (λ h. let t = (object_method_iff new).1 h in absurd cc)),
          )

-- ---- what is told of a family

module _ (rows : List Row) (k : MethodKey) (ds : List Decl) (all : AreRenamed rows (method_decl k) ds) where
  method_of : (d : Decl) → IsMethod d → (m : MethodKey) × (d ≡ method_decl m)
  method_of (method_decl m) h = (m, refl)
  method_of (class_decl m) h = absurd h
  method_of (field_decl m) h = absurd h
  method_of (constructor_decl m) h = absurd h
  method_of (local_decl m) h = absurd h

  to_has : (text : List ℕ) → HasPrelude rows ds text → HasPreludeMethod rows (method_decl k) text
  to_has text h =
      let r = (all h.decl).0 h.among in
      (r.0, r.2, subst (IsOfPrelude rows) r.1 h.of_prelude, h.told ∙ ap decl_text r.1)

  from_has : (text : List ℕ) → HasPreludeMethod rows (method_decl k) text → HasPrelude rows ds text
  from_has text h = record { decl = method_decl h.0; among = (all (method_decl h.0)).1 (h.0, refl, h.1); method = tt; of_prelude = h.2; told = h.3 }

  pub changes : (new text : List ℕ) → IsTold rows ds new text → ChangesPrelude rows (method_decl k) new text
  changes new text (inl h) = inl (to_has text h)
  changes new text (inr h) = inr (λ other x. h.0 other (from_has other x), tt, h.1, h.2)

  pub is_told : (new text : List ℕ) → ChangesPrelude rows (method_decl k) new text → IsTold rows ds new text
  is_told new text (inl h) = inl (from_has text h)
  is_told new text (inr h) = inr (λ other x. h.0 other (to_has other x), h.2, h.3)

-- what is no method changes none
pub no_method : (rows : List Row) (d : Decl) (new text : List ℕ) → ((k : MethodKey) → d ≡ method_decl k → ⊥) → ChangesPrelude rows d new text → ⊥
no_method rows (method_decl k) new text other h = other k refl
no_method rows (class_decl k) new text other (inl h) = h
no_method rows (class_decl k) new text other (inr h) = h.1
no_method rows (field_decl k) new text other (inl h) = h
no_method rows (field_decl k) new text other (inr h) = h.1
no_method rows (constructor_decl k) new text other (inl h) = h
no_method rows (constructor_decl k) new text other (inr h) = h.1
no_method rows (local_decl k) new text other (inl h) = h
no_method rows (local_decl k) new text other (inr h) = h.1

-- what is told of the family is what the name changes
pub told_then : (rows : List Row) (k : MethodKey) (ds : List Decl) (d : Decl) (new : List ℕ) → d ≡ method_decl k → AreRenamed rows d ds → (E : Type 0) (r : Result (Option (List ℕ)) E)
    → IfOk r (λ o. IfSome o (IsTold rows ds new)) → IfOk r (λ o. IfNone o ((t : List ℕ) → IsTold rows ds new t → ⊥))
    → IfOk r (λ o. IfSome o (λ t. ChangesPrelude rows d new t)) × IfOk r (λ o. IfNone o ((t : List ℕ) → ChangesPrelude rows d new t → ⊥))
told_then rows k ds d new is all E (Err e) h n = (tt, tt)
told_then rows k ds d new is all E (Ok None) h n = (tt, λ t x. n t (is_told rows k ds (subst (λ (y : Decl). AreRenamed rows y ds) is all) new t (subst (λ (y : Decl). ChangesPrelude rows y new t) is x)))
told_then rows k ds d new is all E (Ok (Some t)) h n = (subst (λ (y : Decl). ChangesPrelude rows y new t) (sym is) (changes rows k ds (subst (λ (y : Decl). AreRenamed rows y ds) is all) new t h), tt)

pub told_method : (rows : List Row) (ds : List Decl) (d : Decl) (new : List ℕ) → IsMethod d → AreRenamed rows d ds → (E : Type 0) (r : Result (Option (List ℕ)) E)
    → IfOk r (λ o. IfSome o (IsTold rows ds new)) → IfOk r (λ o. IfNone o ((t : List ℕ) → IsTold rows ds new t → ⊥))
    → IfOk r (λ o. IfSome o (λ t. ChangesPrelude rows d new t)) × IfOk r (λ o. IfNone o ((t : List ℕ) → ChangesPrelude rows d new t → ⊥))
told_method rows ds (method_decl k) new m all E r h n = told_then rows k ds (method_decl k) new refl all E r h n
told_method rows ds (class_decl k) new m all E r h n = absurd m
told_method rows ds (field_decl k) new m all E r h n = absurd m
told_method rows ds (constructor_decl k) new m all E r h n = absurd m
told_method rows ds (local_decl k) new m all E r h n = absurd m
