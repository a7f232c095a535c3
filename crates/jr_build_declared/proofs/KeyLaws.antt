-- Numbers by keys: what an insertion says, in pure keys.
use Rattle.std.proofs.Common.{◌≡◌, ℕ, List, Option, Some, None, Bool, true, false, cond, refl, sym, ap, ◌∙◌, Bor}
use Rattle.std.specs.Prelude.{option_map, nat_eq, ◌&&◌}
use Rattle.std.specs.Option.{option_eq}
use Rattle.std.specs.Cmp.Lexicographic.{pointwise}
use Rattle.std.specs.HashMap.{HashMap, get_by, UpdatesBy}
use Rattle.jr_build_declared.specs.declared.declarations.DeclaredKey.{DeclaredKey}
use Rattle.jr_table.specs.Keys.{ClassKey}
use Rattle.jr_table.specs.SameKeys.{same_class}
use Rattle.jr_build_declared.specs.DeclaredView.{text_of, declaration_key_of}

-- the test of a borrowed key is that of the pure one
module _ (same : Bor (List ℕ) → Bor (List ℕ) → Bool)
    (is : (x y : Bor (List ℕ)) → same x y ≡ pointwise nat_eq x.now y.now) where
  pub outer_tests : (x y : Option (Bor (List ℕ))) → option_eq same x y
      ≡ option_eq (pointwise nat_eq) (option_map text_of x) (option_map text_of y)
  outer_tests None None = refl
  outer_tests None (Some y) = refl
  outer_tests (Some x) None = refl
  outer_tests (Some x) (Some y) = is x y

  pub key_tests : (x y : DeclaredKey) → (pointwise nat_eq x.name.now y.name.now && option_eq same x.outer y.outer)
      ≡ same_class (declaration_key_of x) (declaration_key_of y)
  key_tests x y = ap (λ b. pointwise nat_eq x.name.now y.name.now && b) (outer_tests x.outer y.outer)

module _ (some_text : Bor (List ℕ)) where
  abbrev with_text : List ℕ → Bor (List ℕ)
  with_text bs = record some_text { now = bs }

  -- a borrowed key of each pure one
  abbrev borrowed : ClassKey → DeclaredKey
  borrowed k = record { outer = option_map with_text k.outer; name = with_text k.name }

  back : (o : Option (List ℕ)) → option_map text_of (option_map with_text o) ≡ o
  back None = refl
  back (Some bs) = refl

  borrowed_is : (k : ClassKey) → declaration_key_of (borrowed k) ≡ k
  borrowed_is k = λ i. record { outer = back k.outer i; name = k.name }

  module _ (E : DeclaredKey → DeclaredKey → Bool) (tests : (x y : DeclaredKey) → E x y ≡ same_class (declaration_key_of x) (declaration_key_of y)) {S : Type 0} where
    pub found_is : (m : HashMap DeclaredKey ℕ S) (x : DeclaredKey) (k : ClassKey) → declaration_key_of x ≡ k → get_by (E x) m ≡ get_by (λ y. same_class k (declaration_key_of y)) m
    found_is m x k e = ap (λ f. get_by f m) (λ i y. (tests x y ∙ ap (λ j. same_class j (declaration_key_of y)) e) i)

    pub puts : (key : DeclaredKey) (m n : HashMap DeclaredKey ℕ S) (w : Option ℕ) → UpdatesBy E (E key) m n w → (k : ClassKey)
        → get_by (λ y. same_class k (declaration_key_of y)) n ≡ cond (same_class (declaration_key_of key) k) w (get_by (λ y. same_class k (declaration_key_of y)) m)
    puts key m n w u k =
        sym (found_is n (borrowed k) k (borrowed_is k)) ∙ u.0 (borrowed k)
        ∙ (λ i. cond ((tests key (borrowed k) ∙ ap (same_class (declaration_key_of key)) (borrowed_is k)) i) w (found_is m (borrowed k) k (borrowed_is k) i))
