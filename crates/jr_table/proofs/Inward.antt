-- What is found class by class outwards is what the innermost class has, for any members of which a class has one at most.
use Rattle.std.proofs.Common.{◌≡◌, ℕ, List, Option, Some, None, refl, sym, ap, subst, ◌∙◌, inl, inr}
use Rattle.std.specs.Prelude.{◌⊎◌, MatchOption}
use Rattle.jr_table.specs.declared.entries.Entry.{Entry}
use Rattle.jr_table.specs.Chains.{outer_of}
use Rattle.jr_table.specs.Innermost.{IsInnermost, NoneAround}
use Rattle.jr_table.proofs.MemberLaws.{Says}

-- `Member e j`: row j is the member of class e that is sought; `find e`: its number
module _ (rows : List Entry) (Member : ℕ → ℕ → Type 0) (find : ℕ → Option ℕ) (says : (e : ℕ) → Says (Member e) (find e)) (one : (e i j : ℕ) → Member e i → Member e j → i ≡ j) where
  abbrev pub Has : ℕ → Type 0
  Has e = (j : ℕ) × Member e j

  pub the_member : (e j : ℕ) → Member e j → find e ≡ Some j
  the_member e j m = of (find e) (says e)
    where
      of : (o : Option ℕ) → Says (Member e) o → o ≡ Some j
      of None none = absurd (none j m)
      of (Some k) n = ap Some (one e k j n m)

  pub is_member : (e j : ℕ) → find e ≡ Some j → Member e j
  is_member e j h = let m : Says (Member e) (Some j) = subst (Says (Member e)) h (says e) in m

  pub no_member : (e : ℕ) → (Has e → ⊥) → find e ≡ None
  no_member e none = of (find e) (says e)
    where
      of : (o : Option ℕ) → Says (Member e) o → o ≡ None
      of None h = refl
      of (Some j) m = absurd (none (j, m))

  pub has_none : (e : ℕ) → find e ≡ None → Has e → ⊥
  has_none e h (j, m) = let t = the_member e j m in absurd cc

  -- the class and its outer class, as they are searched
  pub within : (c j : ℕ) → find c ≡ Some j → IsInnermost rows Has c c
  within c j h = inl (refl, (j, is_member c j h))

  pub around : (c e j : ℕ) → find c ≡ None → outer_of rows c ≡ Some e → find e ≡ Some j → IsInnermost rows Has c e
  around c e j none out h = inr (has_none c none, out, (j, is_member e j h))

  pub none_out : (c : ℕ) → find c ≡ None → outer_of rows c ≡ None → NoneAround rows Has c
  none_out c none out = (has_none c none, λ e h. let x : None ≡ Some e = sym out ∙ h in absurd cc)

  pub none_around : (c e : ℕ) → find c ≡ None → outer_of rows c ≡ Some e → find e ≡ None → NoneAround rows Has c
  none_around c e none out missing = (has_none c none, λ d h. let x : Some e ≡ Some d = sym out ∙ h in let same : e ≡ d = cc in subst (λ (y : ℕ). Has y → ⊥) same (has_none e missing))
