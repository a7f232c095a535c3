-- A list with the locals that some names find in another, and no others.
use Rattle.std.proofs.Common.{◌≡◌, ℕ, List, [], ◌∷◌, ◌++◌, map, Option, Some, None, Bool, true, false, cond, refl, sym, ap, ◌∙◌, ◌⊎◌, inl, inr}
use Rattle.std.specs.Prelude.{option_map}
use Rattle.std.specs.Str.{bytes_eq}
use Rattle.std.specs.Cmp.Lexicographic.{bytes_decides}
use Rattle.jr_table.specs.Decls.{MemberKey, LocalKey}
use Rattle.jr_table.specs.Scope.{ScopeLocal, last_named, or_later, key_if_named}
use Rattle.jr_lookup.proofs.Lasts.{or_none, or_or}
use Rattle.jr_scopes.specs.Helds.{Held, key_of, number_if_named, last_number}
use Rattle.jr_scopes.specs.Helds as held
use Rattle.jr_new_words.specs.Scopes.{seen}
use Rattle.jr_new_words.specs.Near.{if_found}

-- ---- the last of a name, by number and by key

module _ (k : MemberKey) (name : List ℕ) where
  one_more : (o : Option ℕ) (h : Held) → or_later (option_map (key_of k) o) (key_if_named name (seen k h)) ≡ option_map (key_of k) (held.or_later o (number_if_named name h))
  one_more (Some n) h = refl
  one_more None h = by (bytes_eq h.name name)
    where
      by : (b : Bool) → cond b (Some (key_of k h.number)) None ≡ option_map (key_of k) (cond b (Some h.number) None)
      by true = refl
      by false = refl

  pub last_is : (hs : List Held) → last_named name (map (seen k) hs) ≡ option_map (key_of k) (last_number name hs)
  unfolding last_named
  last_is [] = refl
  last_is (h ∷ hs) = ap (λ o. or_later o (key_if_named name (seen k h))) (last_is hs) ∙ one_more (last_number name hs) h

-- ---- lists one behind the other

last_append : (q : List ℕ) (xs ys : List ScopeLocal) → last_named q (xs ++ ys) ≡ or_later (last_named q ys) (last_named q xs)
unfolding last_named
last_append q [] ys = sym (or_none (last_named q ys))
last_append q (x ∷ xs) ys = ap (λ o. or_later o (key_if_named q x)) (last_append q xs ys) ∙ or_or (last_named q ys) (last_named q xs) (key_if_named q x)

-- ---- what is found is what is found in ls, or nothing

module _ (ls : List ScopeLocal) where
  abbrev pub Sound : List ScopeLocal → Type 0
  Sound xs = (q : List ℕ) → (last_named q xs ≡ last_named q ls) ⊎ (last_named q xs ≡ None)

  -- the name finds what it finds in ls
  abbrev pub Found : List ScopeLocal → List ℕ → Type 0
  Found xs q = last_named q xs ≡ last_named q ls

  pub none_yet : Sound []
  unfolding last_named
  none_yet q = inr refl

  -- behind one more the name finds what it found before, or what it finds in ls
  either : (xs : List ScopeLocal) (p q : List ℕ) (o : Option LocalKey) → last_named p ls ≡ o → (b : Bool) → bytes_eq p q ≡ b
      → (or_later (last_named q (if_found p o)) (last_named q xs) ≡ last_named q xs) ⊎ (or_later (last_named q (if_found p o)) (last_named q xs) ≡ last_named q ls)
  unfolding last_named
  either xs p q None e b s = inl refl
  either xs p q (Some k) e false s = inl (ap (λ b. or_later (cond b (Some k) None) (last_named q xs)) s)
  either xs p q (Some k) e true s =
      inr (ap (λ b. or_later (cond b (Some k) None) (last_named q xs)) s ∙ sym e ∙ ap (λ n. last_named n ls) ((bytes_decides p q).0 s))

  one_step : (xs : List ScopeLocal) (p q : List ℕ) → (last_named q (xs ++ if_found p (last_named p ls)) ≡ last_named q xs) ⊎ Found (xs ++ if_found p (last_named p ls)) q
  one_step xs p q = by (either xs p q (last_named p ls) refl (bytes_eq p q) refl)
    where
      whole : last_named q (xs ++ if_found p (last_named p ls)) ≡ or_later (last_named q (if_found p (last_named p ls))) (last_named q xs)
      whole = last_append q xs (if_found p (last_named p ls))

      by : (or_later (last_named q (if_found p (last_named p ls))) (last_named q xs) ≡ last_named q xs) ⊎ (or_later (last_named q (if_found p (last_named p ls))) (last_named q xs) ≡ last_named q ls)
          → (last_named q (xs ++ if_found p (last_named p ls)) ≡ last_named q xs) ⊎ Found (xs ++ if_found p (last_named p ls)) q
      by (inl e) = inl (whole ∙ e)
      by (inr e) = inr (whole ∙ e)

  pub sound_step : (xs : List ScopeLocal) (p : List ℕ) → Sound xs → Sound (xs ++ if_found p (last_named p ls))
  sound_step xs p sound q = by (one_step xs p q) (sound q)
    where
      by : (last_named q (xs ++ if_found p (last_named p ls)) ≡ last_named q xs) ⊎ Found (xs ++ if_found p (last_named p ls)) q
          → (last_named q xs ≡ last_named q ls) ⊎ (last_named q xs ≡ None)
          → (last_named q (xs ++ if_found p (last_named p ls)) ≡ last_named q ls) ⊎ (last_named q (xs ++ if_found p (last_named p ls)) ≡ None)
      by (inr found) s = inl found
      by (inl same) (inl e) = inl (same ∙ e)
      by (inl same) (inr e) = inr (same ∙ e)

  pub still_found : (xs : List ScopeLocal) (p q : List ℕ) → Found xs q → Found (xs ++ if_found p (last_named p ls)) q
  still_found xs p q found = by (one_step xs p q)
    where
      by : (last_named q (xs ++ if_found p (last_named p ls)) ≡ last_named q xs) ⊎ Found (xs ++ if_found p (last_named p ls)) q → Found (xs ++ if_found p (last_named p ls)) q
      by (inl same) = same ∙ found
      by (inr e) = e

  pub now_found : (xs : List ScopeLocal) (p : List ℕ) → Sound xs → Found (xs ++ if_found p (last_named p ls)) p
  unfolding last_named
  now_found xs p sound = by (last_named p ls) refl (sound p)
    where
      whole : (o : Option LocalKey) → last_named p ls ≡ o → last_named p (xs ++ if_found p (last_named p ls)) ≡ or_later (last_named p (if_found p o)) (last_named p xs)
      whole o e = last_append p xs (if_found p (last_named p ls)) ∙ ap (λ o. or_later (last_named p (if_found p o)) (last_named p xs)) e

      own : (k : LocalKey) → last_named p (if_found p (Some k)) ≡ Some k
      own k = ap (λ b. cond b (Some k) None) ((bytes_decides p p).1 refl)

      empty : last_named p (if_found p None) ≡ None
      empty = refl

      by : (o : Option LocalKey) → last_named p ls ≡ o → (last_named p xs ≡ last_named p ls) ⊎ (last_named p xs ≡ None) → Found (xs ++ if_found p (last_named p ls)) p
      by (Some k) e s = whole (Some k) e ∙ ap (λ o. or_later o (last_named p xs)) (own k) ∙ sym e
      by None e (inl same) = whole None e ∙ ap (λ o. or_later o (last_named p xs)) empty ∙ same
      by None e (inr none) = whole None e ∙ ap (λ o. or_later o (last_named p xs)) empty ∙ none ∙ sym e
