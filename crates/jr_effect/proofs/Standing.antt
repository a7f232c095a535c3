-- The sites of a piece of a way stand in those of the way.
use Rattle.std.proofs.Common.{◌≡◌, ℕ, suc, ◌+◌, List, [], ◌∷◌, ◌++◌, length, refl, sym, ap, ◌∙◌, append_assoc, length-append, arith}
use Rattle.std.proofs.lemmas.List.{append-nil}
use Rattle.jr_cover.specs.Ways.{Way, pass, one, row, fork, leave, turns, inside, sites_of, size}
use Rattle.jr_effect.specs.Within.{Within, whole, row_first, row_second, fork_first, fork_second, condition, turned, locked}

pub size_is : {S : Type 0} (w : Way S) → length (sites_of w) ≡ size w
size_is pass = refl
size_is (one s) = refl
size_is (row a b) = let p = size_is a in let q = size_is b in let both = length-append (sites_of a) (sites_of b) in omega arith
size_is (fork a b) = let p = size_is a in let q = size_is b in let both = length-append (sites_of a) (sites_of b) in omega arith
size_is leave = refl
size_is (turns s c b) = let p = size_is c in let q = size_is b in let both = length-append (sites_of c) (sites_of b) in omega arith
size_is (inside e b x) = let p = size_is b in let both = length-append (sites_of b) (x ∷ []) in omega arith

module _ {S : Type 0} (piece : Way S) where
  abbrev Stands : List S → ℕ → Type 0
  Stands all k = (before after : List S) × (all ≡ before ++ (sites_of piece ++ after)) × (length before ≡ k)

  -- more sites behind, and more in front
  behind : (all more : List S) (k : ℕ) → Stands all k → Stands (all ++ more) k
  behind all more k (before, after, is, size) =
      (before, after ++ more, ap (λ l. l ++ more) is ∙ append_assoc before (sites_of piece ++ after) more ∙ ap (λ l. before ++ l) (append_assoc (sites_of piece) after more), size)

  front : (more all : List S) (k n : ℕ) → length more ≡ n → Stands all k → Stands (more ++ all) (n + k)
  front more all k n long (before, after, is, size) =
      (more ++ before, after, ap (λ l. more ++ l) is ∙ sym (append_assoc more before (sites_of piece ++ after)), omega (arith, length-append more before))

  first : (s : S) (all : List S) (k : ℕ) → Stands all k → Stands (s ∷ all) (suc k)
  first s all k (before, after, is, size) = (s ∷ before, after, ap (λ l. s ∷ l) is, ap suc size)

  pub stands : (w : Way S) (k : ℕ) → Within piece w k → Stands (sites_of w) k
  stands w k whole = ([], [], sym (append-nil (sites_of piece)), refl)
  stands w k (row_first a b n at) = behind (sites_of a) (sites_of b) n (stands a n at)
  stands w k (row_second a b n at) = front (sites_of a) (sites_of b) n (size a) (size_is a) (stands b n at)
  stands w k (fork_first a b n at) = behind (sites_of a) (sites_of b) n (stands a n at)
  stands w k (fork_second a b n at) = front (sites_of a) (sites_of b) n (size a) (size_is a) (stands b n at)
  stands w k (condition s a b n at) = first s (sites_of a ++ sites_of b) n (behind (sites_of a) (sites_of b) n (stands a n at))
  stands w k (turned s a b n at) = first s (sites_of a ++ sites_of b) (size a + n) (front (sites_of a) (sites_of b) n (size a) (size_is a) (stands b n at))
  stands w k (locked e x a n at) = first e (sites_of a ++ x ∷ []) n (behind (sites_of a) (x ∷ []) n (stands a n at))
