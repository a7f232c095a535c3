-- The local that a name means: the last one that has it.
use Rattle.std.proofs.Common.{◌≡◌, ◌≢◌, ℕ, zero, suc, ◌<◌, List, [], ◌∷◌, Option, Some, None, Bool, true, false, cond, refl, sym, ap, subst, ◌∙◌, arith, inl, inr}
use Rattle.std.specs.Prelude.{◌⊎◌, slice_get, MatchOption}
use Rattle.std.specs.Str.{bytes_eq}
use Rattle.std.proofs.lemmas.Slice.Eq.{bytes_eq-Decides}
use Rattle.jr_table.specs.Decls.{LocalKey}
use Rattle.jr_table.specs.Scope.{ScopeLocal, FindsLocal, HasNoLocal, or_later, key_if_named, last_named}

abbrev pub SaysLast : List ScopeLocal → List ℕ → Option LocalKey → Type 0
SaysLast ls name o = MatchOption o (HasNoLocal ls name) (FindsLocal ls name)

pub last_is : (ls : List ScopeLocal) (name : List ℕ) → SaysLast ls name (last_named name ls)
unfolding last_named
last_is [] name = λ i k at e. absurd cc
last_is (l ∷ ls) name = later (last_named name ls) (last_is ls name)
  where
    here : (b : Bool) → bytes_eq l.name name ≡ b → HasNoLocal ls name → SaysLast (l ∷ ls) name (cond b (Some l.key) None)
    here true e none = record { place = 0; local = l; stands = refl; named = (bytes_eq-Decides l.name name).0 e; is = refl; last = after }
      where
        after : (i : ℕ) (k : ScopeLocal) → 0 < i → slice_get (l ∷ ls) i ≡ Some k → k.name ≢ name
        after zero k lt at = absurd (omega arith)
        after (suc i) k lt at = none i k at
    here false e none = all
      where
        all : HasNoLocal (l ∷ ls) name
        all zero k at = λ same.
            let is : l ≡ k = cc in
            let t = (bytes_eq-Decides l.name name).1 (ap (λ (x : ScopeLocal). x.name) is ∙ same) in
            absurd cc
        all (suc i) k at = none i k at

    later : (o : Option LocalKey) → SaysLast ls name o → SaysLast (l ∷ ls) name (or_later o (cond (bytes_eq l.name name) (Some l.key) None))
    later None none = here (bytes_eq l.name name) refl none
    later (Some x) h = record { place = suc h.place; local = h.local; stands = h.stands; named = h.named; is = h.is; last = after }
      where
        after : (i : ℕ) (k : ScopeLocal) → suc h.place < i → slice_get (l ∷ ls) i ≡ Some k → k.name ≢ name
        after zero k lt at = absurd (omega arith)
        after (suc i) k lt at = h.last i k (omega arith) at

one_last : (ls : List ScopeLocal) (name : List ℕ) (a b : LocalKey) → FindsLocal ls name a → FindsLocal ls name b → a ≡ b
one_last ls name a b h k = by (order h.place k.place)
  where
    order : (i j : ℕ) → ((i < j) ⊎ (j < i)) ⊎ (i ≡ j)
    order i j = grind arith

    by : (((h.place < k.place) ⊎ (k.place < h.place)) ⊎ (h.place ≡ k.place)) → a ≡ b
    by (inl (inl lt)) = absurd (h.last k.place k.local lt k.stands k.named)
    by (inl (inr lt)) = absurd (k.last h.place h.local lt h.stands h.named)
    by (inr e) = let s : Some h.local ≡ Some k.local = sym h.stands ∙ ap (slice_get ls) e ∙ k.stands in let same : h.local ≡ k.local = cc in sym h.is ∙ ap (λ (x : ScopeLocal). x.key) same ∙ k.is

pub no_local : (ls : List ScopeLocal) (name : List ℕ) → HasNoLocal ls name → last_named name ls ≡ None
no_local ls name none = of (last_named name ls) (last_is ls name)
  where
    of : (o : Option LocalKey) → SaysLast ls name o → o ≡ None
    of None h = refl
    of (Some k) h = absurd (none h.place h.local h.stands h.named)

pub the_local : (ls : List ScopeLocal) (name : List ℕ) (k : LocalKey) → FindsLocal ls name k → last_named name ls ≡ Some k
the_local ls name k h = of (last_named name ls) (last_is ls name)
  where
    of : (o : Option LocalKey) → SaysLast ls name o → o ≡ Some k
    of None none = absurd (none h.place h.local h.stands h.named)
    of (Some x) last = ap Some (one_last ls name x k last h)
