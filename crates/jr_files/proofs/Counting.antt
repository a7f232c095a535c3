-- Counts of served calls, and what is known of a shelf through several calls.
use Rattle.std.proofs.Common.{◌≡◌, ◌∙◌, ◌<◌, ◌≤◌, ◌+◌, ◌^◌, ◌⊎◌, ℕ, min, arith, inl, inr, subst, Option, None, Some, OnSome, List, [], ◌∷◌}
use Rattle.std.proofs.Math.Nat.{min-eq_left, min-eq_right}
use Rattle.std.proofs.lemmas.Bool.{cases_lt}
use Rattle.std.specs.FinMap as map
use Rattle.jr_shelf.specs.Counts.{RoseBy, greatest_count, one_more}
use Rattle.jr_shelf.specs.Shelf.{Files}
use Rattle.jr_files.specs.Fetching.{Served}
use Rattle.jr_files.specs.Storing.{Store, with_stores}

pub rose_none : (a : ℕ) → RoseBy 0 a a
rose_none a = inl (omega arith)

-- one call more
pub rose_one : (n a b : ℕ) → RoseBy n a b → RoseBy (n + 1) a (one_more b)
rose_one n a b rose = elim (cases_lt b greatest_count) [
  | inl below ↦ one_below below rose
  | inr past ↦ inr (min-eq_right {n = greatest_count} {m = b + 1} (omega arith))
]
  where
    one_below : b < greatest_count → RoseBy n a b → RoseBy (n + 1) a (one_more b)
    one_below below (inl e) = let next : b + 1 ≡ a + (n + 1) = omega (arith, e) in inl (min-eq_left {n = b + 1} {m = greatest_count} (omega arith) ∙ next)
    one_below below (inr e) = absurd (omega (arith, e, below))

-- calls behind calls
pub rose_sum : (m n a b c : ℕ) → c < 2 ^ 64 → RoseBy m a b → RoseBy n b c → RoseBy (m + n) a c
rose_sum m n a b c fits (inl p) (inl q) = inl (omega (arith, p, q))
rose_sum m n a b c fits (inl p) (inr q) = inr q
rose_sum m n a b c fits (inr p) (inl q) = inr (omega (arith, p, q, fits))
rose_sum m n a b c fits (inr p) (inr q) = inr q

-- ---- what is known

pub known_then : (files : Option Files) (a b c : Option (List ℕ)) → OnSome files (b ≡ a) → OnSome files (c ≡ b) → OnSome files (c ≡ a)
known_then None a b c p q = tt
known_then (Some f) a b c p q = q ∙ p

-- where it was known what is held, it is known after stores
pub known_before : (stores : List Store) (files : Option Files) (P : Type 0) → OnSome (with_stores files stores) P → OnSome files P
known_before stores None P h = tt
known_before [] (Some f) P h = h
known_before (s ∷ ss) (Some f) P h = known_before ss (Some (map.insert f s.name s.text)) P h

pub served_then : (m n : ℕ) (f f' f'' : Option Files) (a a' a'' : Option (List ℕ)) (x x' x'' y y' y'' : ℕ) → y'' < 2 ^ 64
    → Served m f f' a a' x x' y y' → Served n f' f'' a' a'' x' x'' y' y'' → Served (m + n) f f'' a a'' x x'' y y''
served_then m n f f' f'' a a' a'' x x' x'' y y' y'' fits one two = record {
  keeps = two.keeps ∙ one.keeps;
  missed_stays = known_then f a a' a'' one.missed_stays (subst (λ h. OnSome h (a'' ≡ a')) one.keeps two.missed_stays);
  faults_stay = two.faults_stay ∙ one.faults_stay;
  count = rose_sum m n y y' y'' fits one.count two.count;
}
