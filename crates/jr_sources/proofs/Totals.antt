-- The bytes of texts, counted one text after the other.
use Rattle.std.proofs.Common.{◌≡◌, ℕ, ◌+◌, ◌*◌, ◌<◌, ◌≤◌, List, [], length, get_or, take, refl, subst, sym, arith}
use Rattle.std.specs.List.{slice_get, sum_by, All}
use Rattle.std.specs.Prelude.{Some}
use Rattle.std.proofs.lemmas.Option.{slice_get_within, get_or_from_slice_get}
use Rattle.std.proofs.lemmas.List.Elements.{All-nil, All-more}
use Rattle.std.proofs.lemmas.List.{take_all}
use Rattle.std.proofs.lemmas.List.Sums.{sum_by_more}
use Rattle.jr_text.specs.Texts.{text_limit}
use Rattle.jr_sources.specs.Sources.{total_of}

-- the first n texts have so many bytes, and none has more than a text may
pub record CountedTo (texts : List (List ℕ)) (n total : ℕ) : Type 0 where
  pub counted : total ≡ total_of (take n texts)
  pub within : All (λ (t : List ℕ). length t ≤ text_limit) (take n texts)
  pub bound : total ≤ n * text_limit

pub none_counted : (texts : List (List ℕ)) → CountedTo texts 0 0
none_counted texts = record { counted = refl; within = All-nil (λ (t : List ℕ). length t ≤ text_limit); bound = omega arith }

pub one_more : (texts : List (List ℕ)) (n total : ℕ) (t : List ℕ) → slice_get texts n ≡ Some t → length t ≤ text_limit → CountedTo texts n total → CountedTo texts (n + 1) (total + length t)
one_more texts n total t at small h =
    let in' : n < length texts = slice_get_within texts n t at in
    let is : get_or texts n t ≡ t = get_or_from_slice_get texts n t t at in
    let more : total_of (take (n + 1) texts) ≡ total_of (take n texts) + length (get_or texts n t) = sum_by_more (λ (x : List ℕ). length x) texts n t in' in
    let size : total_of (take (n + 1) texts) ≡ total_of (take n texts) + length t = subst (λ (x : List ℕ). total_of (take (n + 1) texts) ≡ total_of (take n texts) + length x) is more in
    record {
      counted = let e = h.counted in omega (arith, size);
      within = All-more (λ (x : List ℕ). length x ≤ text_limit) texts n t in' h.within (subst (λ (x : List ℕ). length x ≤ text_limit) (sym is) small);
      bound = let b = h.bound in omega arith;
    }

pub all_counted : (texts : List (List ℕ)) (n total : ℕ) → length texts ≤ n → CountedTo texts n total → (total ≡ total_of texts) × All (λ (t : List ℕ). length t ≤ text_limit) texts
all_counted texts n total past h =
    let whole : take n texts ≡ texts = take_all n texts past in
    (subst (λ (ts : List (List ℕ)). total ≡ total_of ts) whole h.counted, subst (λ (ts : List (List ℕ)). All (λ (t : List ℕ). length t ≤ text_limit) ts) whole h.within)
