-- Dependences are put behind a list, and two such steps, one behind the other, are one.
use Rattle.std.proofs.Common.{◌≡◌, ◌⊎◌, ◌<◌, suc, List, [], ◌∷◌, ◌++◌, get_or, refl, sym, ap, subst, ◌∙◌, inl, inr, append_assoc, arith}
use Rattle.std.specs.Prelude.{Contains, AllPairs, ◌↔◌}
use Rattle.std.proofs.lemmas.List.{append-nil}
use Rattle.std.proofs.lemmas.List.Elements.{Contains-append_left, Contains-append_right, Contains-append_cases, Contains-push, Contains-push_cases, Contains-get_or, All-append}
use Rattle.std.proofs.lemmas.List.Kept.{AllPairs-cons}
use Rattle.jr_dependences.specs.declared.dependence.Dependence.{Dependence}
use Rattle.jr_dependences.specs.Listed.{IsBefore, IsListed, Adds}

pub all_pairs_append : {X : Type 0} (R : X → X → Type 0) (xs ys : List X) → AllPairs R xs → AllPairs R ys → ((x y : X) → Contains xs x → Contains ys y → R x y) → AllPairs R (xs ++ ys)
all_pairs_append R [] ys p q across = q
all_pairs_append R (x ∷ xs) ys p q across =
    AllPairs-cons R x (xs ++ ys)
    (All-append (R x) xs ys (λ k d lt. p 0 (suc k) d (omega arith) (omega arith)) (λ k d lt. across x (get_or ys k d) (0, omega arith, refl) (Contains-get_or ys k d lt)))
    (all_pairs_append R xs ys (λ i j d lt in'. p (suc i) (suc j) d (omega arith) (omega arith)) q (λ a b at. across a b (Contains-append_right (x ∷ []) xs a at)))

module _ (H : Dependence → Type 0) where
  pub listed_same : (Q R : Dependence → Type 0) (list : List Dependence) → ((x : Dependence) → H x → (Q x ↔ R x)) → IsListed Q H list → IsListed R H list
  listed_same Q R list same h = record {
    exact = λ x. (λ at. let p = (h.exact x).0 at in ((same x p.1).0 p.0, p.1), λ p. (h.exact x).1 ((same x p.1).1 p.0, p.1));
    ordered = h.ordered;
  }

  pub adds_same : (Q R : Dependence → Type 0) (old new : List Dependence) → ((x : Dependence) → H x → (Q x ↔ R x)) → Adds Q H old new → Adds R H old new
  adds_same Q R old new same h = record { added = h.added; is = h.is; listed = listed_same Q R h.added same h.listed }

  pub adds_none : (Q : Dependence → Type 0) (list : List Dependence) → ((x : Dependence) → Q x → H x → ⊥) → Adds Q H list list
  adds_none Q list never = record {
    added = [];
    is = sym (append-nil list);
    listed = record {
      exact = λ x. (λ at. let no : at.0 < 0 = at.1 in absurd (omega arith), λ p. absurd (never x p.0 p.1));
      ordered = λ i j d lt in'. absurd (omega arith);
    };
  }

  pub adds_one : (Q : Dependence → Type 0) (list : List Dependence) (d : Dependence) → Q d → ((x : Dependence) → Q x → x ≡ d) → H d → Adds Q H list (list ++ d ∷ [])
  adds_one Q list d asked only holds = record {
    added = d ∷ [];
    is = refl;
    listed = record {
      exact = λ x. (λ at. forth x (Contains-push_cases [] d x at), λ p. subst (λ (e : Dependence). Contains (d ∷ []) e) (sym (only x p.0)) (Contains-push [] d));
      ordered = λ i j e lt in'. absurd (omega arith);
    };
  }
    where
      forth : (x : Dependence) → (Contains [] x ⊎ (d ≡ x)) → Q x × H x
      forth x (inl at) = let no : at.0 < 0 = at.1 in absurd (omega arith)
      forth x (inr is) = (subst Q is asked, subst H is holds)

  pub adds_both : (Q R : Dependence → Type 0) (old middle new : List Dependence) → Adds Q H old middle → Adds R H middle new → ((x y : Dependence) → Q x → R y → IsBefore x y)
      → Adds (λ x. Q x ⊎ R x) H old new
  adds_both Q R old middle new f s before = record {
    added = f.added ++ s.added;
    is = s.is ∙ ap (λ l. l ++ s.added) f.is ∙ append_assoc old f.added s.added;
    listed = record {
      exact = λ x. (λ at. forth x (Contains-append_cases f.added s.added x at), λ p. back x p.0 p.1);
      ordered =
          all_pairs_append IsBefore f.added s.added f.listed.ordered s.listed.ordered
          (λ x y p q. before x y ((f.listed.exact x).0 p).0 ((s.listed.exact y).0 q).0);
    };
  }
    where
      forth : (x : Dependence) → (Contains f.added x ⊎ Contains s.added x) → (Q x ⊎ R x) × H x
      forth x (inl at) = let p = (f.listed.exact x).0 at in (inl p.0, p.1)
      forth x (inr at) = let p = (s.listed.exact x).0 at in (inr p.0, p.1)

      back : (x : Dependence) → (Q x ⊎ R x) → H x → Contains (f.added ++ s.added) x
      back x (inl q) p = Contains-append_left f.added s.added x ((f.listed.exact x).1 (q, p))
      back x (inr r) p = Contains-append_right f.added s.added x ((s.listed.exact x).1 (r, p))

  -- two steps make what is asked of a third, where that is the same for all that hold
  pub adds_then : (Q R S : Dependence → Type 0) (old middle new : List Dependence) → Adds Q H old middle → Adds R H middle new → ((x y : Dependence) → Q x → R y → IsBefore x y)
      → ((x : Dependence) → H x → ((Q x ⊎ R x) ↔ S x)) → Adds S H old new
  adds_then Q R S old middle new f s before same = adds_same (λ x. Q x ⊎ R x) S old new same (adds_both Q R old middle new f s before)

  -- what is put behind nothing is the list
  pub listed_alone : (Q : Dependence → Type 0) (list : List Dependence) → Adds Q H [] list → IsListed Q H list
  listed_alone Q list h = subst (λ (l : List Dependence). IsListed Q H l) (sym h.is) h.listed
