-- Words among modifiers, and what decides that they are at fault.
use Rattle.std.proofs.Common.{◌≡◌, ◌≢◌, ℕ, zero, suc, ◌<◌, ◌≤◌, List, [], ◌∷◌, length, get_or, take, drop, add-one, ◌+◌, ◌-◌, Bool, true, false, Option, Some, None, refl, sym, ap, subst, ◌∙◌, inl, inr, arith}
use Rattle.std.specs.Prelude.{slice_get, ◌⊎◌, ◌↔◌, IsTrue, Contains, ◌||◌, ◌&&◌}
use Rattle.std.proofs.lemmas.List.{drop_all, take_rest}
use Rattle.std.proofs.Math.Seq.{drop-cons}
use Rattle.jr_ast.specs.declared.operators.ModWord.{ModWord}
use Rattle.jr_ast.specs.declared.operators.ModWord.TheVariants as word
use Rattle.jr_table.specs.Resolving.{HasWord}
use Rattle.jr_table.specs.Faults.{IsTwice, IsAccess, AreBad}
use Rattle.jr_build_declared.specs.DeclarationFaults.{HasTwice, HasTwoAccesses, HasOther}

pub contained : (ws : List ModWord) (w : ModWord) → Contains ws w → HasWord ws w
contained [] w (k, lt, e) = absurd (omega (arith, lt))
contained (x ∷ xs) w (zero, lt, e) = inl e
contained (x ∷ xs) w (suc k, lt, e) = inr (contained xs w (k, omega (arith, lt), e))

pub contains_it : (ws : List ModWord) (w : ModWord) → HasWord ws w → Contains ws w
contains_it [] w h = absurd h
contains_it (x ∷ xs) w (inl e) = (0, omega arith, e)
contains_it (x ∷ xs) w (inr h) = let c = contains_it xs w h in (suc c.0, omega (arith, c.1), c.2)

-- a word at a place is among them
at_place : (ws : List ModWord) (w : ModWord) (i : ℕ) → slice_get ws i ≡ Some w → HasWord ws w
at_place [] w i e = absurd cc
at_place (x ∷ xs) w zero e = inl cc
at_place (x ∷ xs) w (suc i) e = inr (at_place xs w i e)

place_of : (ws : List ModWord) (w : ModWord) → HasWord ws w → (i : ℕ) × (slice_get ws i ≡ Some w)
place_of [] w h = absurd h
place_of (x ∷ xs) w (inl e) = (0, ap Some e)
place_of (x ∷ xs) w (inr h) = let p = place_of xs w h in (suc p.0, p.1)

-- twice in a list
pub twice_first : (x : ModWord) (xs : List ModWord) → HasWord xs x → HasTwice (x ∷ xs)
twice_first x xs h = let p = place_of xs x h in (x, (0, suc p.0, omega arith, refl, p.1))

pub twice_behind : (x : ModWord) (xs : List ModWord) → HasTwice xs → HasTwice (x ∷ xs)
twice_behind x xs (w, (i, j, lt, e, f)) = (w, (suc i, suc j, omega (arith, lt), e, f))

pub twice_split : (x : ModWord) (xs : List ModWord) → HasTwice (x ∷ xs) → HasWord xs x ⊎ HasTwice xs
twice_split x xs (w, (i, zero, lt, e, f)) = absurd (omega (arith, lt))
twice_split x xs (w, (zero, suc j, lt, e, f)) = inl (let same : x ≡ w = cc in subst (HasWord xs) (sym same) (at_place xs w j f))
twice_split x xs (w, (suc i, suc j, lt, e, f)) = inr (w, (i, j, omega (arith, lt), e, f))

pub twice_within : (n : ℕ) (ws : List ModWord) → HasTwice (drop n ws) → HasTwice ws
twice_within zero ws h = h
twice_within (suc n) [] h = h
twice_within (suc n) (x ∷ xs) h = twice_behind x xs (twice_within n xs h)

-- a word that may not stand there
pub other_within : (May : ModWord → Type 0) (n : ℕ) (ws : List ModWord) → HasOther May (drop n ws) → HasOther May ws
other_within May zero ws h = h
other_within May (suc n) [] h = h
other_within May (suc n) (x ∷ xs) h = let o = other_within May n xs h in (o.0, inr o.1, o.2)

pub other_split : (May : ModWord → Type 0) (x : ModWord) (xs : List ModWord) → HasOther May (x ∷ xs) → (May x → ⊥) ⊎ HasOther May xs
other_split May x xs (w, inl e, may_not) = inl (λ m. may_not (subst May e m))
other_split May x xs (w, inr h, may_not) = inr (w, h, may_not)

pub none_twice : HasTwice [] → ⊥
none_twice (w, (i, j, lt, e, f)) = cc

-- two words of access
module _ (ws : List ModWord) where
  pub accesses : HasTwoAccesses ws → ((HasWord ws word.Public × HasWord ws word.Protected) ⊎ ((HasWord ws word.Public × HasWord ws word.Private) ⊎ (HasWord ws word.Protected × HasWord ws word.Private)))
  accesses (word.Public, word.Public, ne, a, b, h, k) = absurd (ne refl)
  accesses (word.Public, word.Protected, ne, a, b, h, k) = inl (h, k)
  accesses (word.Public, word.Private, ne, a, b, h, k) = inr (inl (h, k))
  accesses (word.Protected, word.Public, ne, a, b, h, k) = inl (k, h)
  accesses (word.Protected, word.Protected, ne, a, b, h, k) = absurd (ne refl)
  accesses (word.Protected, word.Private, ne, a, b, h, k) = inr (inr (h, k))
  accesses (word.Private, word.Public, ne, a, b, h, k) = inr (inl (k, h))
  accesses (word.Private, word.Protected, ne, a, b, h, k) = inr (inr (k, h))
  accesses (word.Private, word.Private, ne, a, b, h, k) = absurd (ne refl)
  accesses (word.Static, w, ne, a, b, h, k) = absurd a
  accesses (word.Final, w, ne, a, b, h, k) = absurd a
  accesses (word.Volatile, w, ne, a, b, h, k) = absurd a
  accesses (word.Synchronized, w, ne, a, b, h, k) = absurd a
  accesses (word.Public, word.Static, ne, a, b, h, k) = absurd b
  accesses (word.Public, word.Final, ne, a, b, h, k) = absurd b
  accesses (word.Public, word.Volatile, ne, a, b, h, k) = absurd b
  accesses (word.Public, word.Synchronized, ne, a, b, h, k) = absurd b
  accesses (word.Protected, word.Static, ne, a, b, h, k) = absurd b
  accesses (word.Protected, word.Final, ne, a, b, h, k) = absurd b
  accesses (word.Protected, word.Volatile, ne, a, b, h, k) = absurd b
  accesses (word.Protected, word.Synchronized, ne, a, b, h, k) = absurd b
  accesses (word.Private, word.Static, ne, a, b, h, k) = absurd b
  accesses (word.Private, word.Final, ne, a, b, h, k) = absurd b
  accesses (word.Private, word.Volatile, ne, a, b, h, k) = absurd b
  accesses (word.Private, word.Synchronized, ne, a, b, h, k) = absurd b

  pub two_accesses : ((HasWord ws word.Public × HasWord ws word.Protected) ⊎ ((HasWord ws word.Public × HasWord ws word.Private) ⊎ (HasWord ws word.Protected × HasWord ws word.Private))) → HasTwoAccesses ws
  two_accesses (inl (h, k)) = (word.Public, word.Protected, (λ e. absurd cc), tt, tt, h, k)
  two_accesses (inr (inl (h, k))) = (word.Public, word.Private, (λ e. absurd cc), tt, tt, h, k)
  two_accesses (inr (inr (h, k))) = (word.Protected, word.Private, (λ e. absurd cc), tt, tt, h, k)

-- what decides both, or one of two
pub both : {P Q : Type 0} (a b : Bool) → (IsTrue a ↔ P) → (IsTrue b ↔ Q) → IsTrue (a && b) ↔ (P × Q)
both true true h k = (λ t. (h.0 refl, k.0 refl), λ p. refl)
both true false h k = (λ t. absurd cc, λ p. absurd (let z = k.1 p.1 in cc))
both false true h k = (λ t. absurd cc, λ p. absurd (let z = h.1 p.0 in cc))
both false false h k = (λ t. absurd cc, λ p. absurd (let z = h.1 p.0 in cc))

pub either : {P Q : Type 0} (a b : Bool) → (IsTrue a ↔ P) → (IsTrue b ↔ Q) → IsTrue (a || b) ↔ (P ⊎ Q)
either true b h k = (λ t. inl (h.0 refl), λ p. refl)
either false true h k = (λ t. inr (k.0 refl), λ p. refl)
either {P} {Q} false false h k = (λ t. absurd cc, λ p. absurd (neither p))
  where
    neither : (P ⊎ Q) → ⊥
    neither (inl x) = let z = h.1 x in cc
    neither (inr y) = let z = k.1 y in cc

pub same_as : {P Q : Type 0} (a : Bool) → (P → Q) → (Q → P) → (IsTrue a ↔ P) → IsTrue a ↔ Q
same_as a f g h = (λ t. f (h.0 t), λ q. h.1 (g q))

-- `a || b || c` groups to the left
pub grouped : {P Q R : Type 0} → ((P ⊎ Q) ⊎ R) → P ⊎ (Q ⊎ R)
grouped (inl (inl p)) = inl p
grouped (inl (inr q)) = inr (inl q)
grouped (inr r) = inr (inr r)

pub ungrouped : {P Q R : Type 0} → (P ⊎ (Q ⊎ R)) → ((P ⊎ Q) ⊎ R)
ungrouped (inl p) = inl (inl p)
ungrouped (inr (inl q)) = inl (inr q)
ungrouped (inr (inr r)) = inr r

pub none_other : (May : ModWord → Type 0) → HasOther May [] → ⊥
none_other May (w, h, may_not) = h

-- words one after another: `d` is what stands past the last
module _ (ws : List ModWord) (i : ℕ) (d : ModWord) where
  next : i < length ws → drop i ws ≡ get_or ws i d ∷ drop (i + 1) ws
  next lt = drop-cons ws i d lt ∙ ap (λ n. get_or ws i d ∷ drop n ws) (sym (add-one i))

  pub other_found : (P : ModWord → Type 0) (b : Bool) → i < length ws → (IsTrue b ↔ P (get_or ws i d))
      → b ≡ false → IsTrue true ↔ HasOther P ws
  other_found P b lt h e = (
    λ t. other_within P i ws (subst (HasOther P) (sym (next lt))
        (get_or ws i d, inl refl, λ m. let t = h.1 m in cc)),
    λ k. refl,
  )

  pub other_left : (P : ModWord → Type 0) (b : Bool) → i < length ws → (IsTrue b ↔ P (get_or ws i d))
      → b ≡ true → (HasOther P ws → HasOther P (drop i ws)) → HasOther P ws
      → HasOther P (drop (i + 1) ws)
  other_left P b lt h e so_far all =
      elim (other_split P (get_or ws i d) (drop (i + 1) ws) (subst (HasOther P) (next lt) (so_far all))) [
        | inl none ↦ absurd (none (h.0 e))
        | inr rest ↦ rest
      ]

  pub twice_found : (b : Bool) → i < length ws
      → (IsTrue b ↔ HasWord (take (length ws - (i + 1)) (drop (i + 1) ws)) (get_or ws i d))
      → b ≡ true → IsTrue true ↔ HasTwice ws
  twice_found b lt h e = (
    λ t. twice_within i ws (subst HasTwice (sym (next lt))
        (twice_first (get_or ws i d) (drop (i + 1) ws)
        (subst (λ xs. HasWord xs (get_or ws i d)) (take_rest ws (i + 1)) (h.0 e)))),
    λ k. refl,
  )

  pub twice_left : (b : Bool) → i < length ws
      → (IsTrue b ↔ HasWord (take (length ws - (i + 1)) (drop (i + 1) ws)) (get_or ws i d))
      → b ≡ false → (HasTwice ws → HasTwice (drop i ws)) → HasTwice ws → HasTwice (drop (i + 1) ws)
  twice_left b lt h e so_far all =
      elim (twice_split (get_or ws i d) (drop (i + 1) ws) (subst HasTwice (next lt) (so_far all))) [
        | inl again ↦ absurd (let t = h.1 (subst (λ xs. HasWord xs (get_or ws i d))
            (sym (take_rest ws (i + 1))) again) in cc)
        | inr rest ↦ rest
      ]

pub no_other : (P : ModWord → Type 0) (ws : List ModWord) (i : ℕ) → length ws ≤ i
    → (HasOther P ws → HasOther P (drop i ws)) → IsTrue false ↔ HasOther P ws
no_other P ws i past h =
    (λ t. absurd cc, λ k. absurd (none_other P (subst (HasOther P) (drop_all i ws past) (h k))))

pub no_twice : (ws : List ModWord) (i : ℕ) → length ws ≤ i
    → (HasTwice ws → HasTwice (drop i ws)) → IsTrue false ↔ HasTwice ws
no_twice ws i past h =
    (λ t. absurd cc, λ k. absurd (none_twice (subst HasTwice (drop_all i ws past) (h k))))
