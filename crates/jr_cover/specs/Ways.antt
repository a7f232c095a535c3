-- How control goes through a piece of code that has sites: one site behind another, branches,
-- loops, monitors, returns (JLS 14, 15.7). From it come the numbers of its sites, in evaluation
-- order, and the edges between them.
use Rattle.std.specs.Prelude.{◌≡◌, ◌⊎◌, ℕ, zero, suc, ◌+◌, List, [], ◌∷◌, ◌++◌}

pub data Way (S : Type 0) : Type 0 where
  pass : Way S
  one : (site : S) → Way S
  -- the one, and then the other
  row : (first second : Way S) → Way S
  -- the one or the other
  fork : (first second : Way S) → Way S
  -- to the end of the member
  leave : Way S
  -- a loop: its own site, its condition, its body
  turns : (site : S) (condition body : Way S) → Way S
  -- a monitor: it is entered, and exited wherever its block is left
  inside : (entered : S) (body : Way S) (exited : S) → Way S

-- in evaluation order
abbrev pub sites_of : {S : Type 0} → Way S → List S
sites_of pass = []
sites_of (one s) = s ∷ []
sites_of (row a b) = sites_of a ++ sites_of b
sites_of (fork a b) = sites_of a ++ sites_of b
sites_of leave = []
sites_of (turns s c b) = s ∷ (sites_of c ++ sites_of b)
sites_of (inside e b x) = e ∷ (sites_of b ++ x ∷ [])

abbrev pub size : {S : Type 0} → Way S → ℕ
size pass = 0
size (one s) = 1
size (row a b) = size a + size b
size (fork a b) = size a + size b
size leave = 0
size (turns s c b) = suc (size c + size b)
size (inside e b x) = suc (suc (size b))

-- some way through it meets no site
abbrev pub Passes : {S : Type 0} → Way S → Type 0
Passes pass = Unit {0}
Passes (one s) = ⊥
Passes (row a b) = Passes a × Passes b
Passes (fork a b) = Passes a ⊎ Passes b
Passes leave = ⊥
Passes (turns s c b) = ⊥
Passes (inside e b x) = ⊥

-- some way meets no site and ends at the member's end
abbrev pub LeavesAtOnce : {S : Type 0} → Way S → Type 0
LeavesAtOnce pass = ⊥
LeavesAtOnce (one s) = ⊥
LeavesAtOnce (row a b) = LeavesAtOnce a ⊎ (Passes a × LeavesAtOnce b)
LeavesAtOnce (fork a b) = LeavesAtOnce a ⊎ LeavesAtOnce b
LeavesAtOnce leave = Unit {0}
LeavesAtOnce (turns s c b) = ⊥
LeavesAtOnce (inside e b x) = ⊥

-- A site's number is i, where the piece's sites have the numbers from n on. It can be met first:
abbrev pub First : {S : Type 0} → (n : ℕ) → Way S → (i : ℕ) → Type 0
First n pass i = ⊥
First n (one s) i = i ≡ n
First n (row a b) i = First n a i ⊎ (Passes a × First (n + size a) b i)
First n (fork a b) i = First n a i ⊎ First (n + size a) b i
First n leave i = ⊥
First n (turns s c b) i = i ≡ n
First n (inside e b x) i = i ≡ n

-- From the condition of a loop a way goes on both to the body and behind the loop: from its last
-- sites; where the condition has no site, from the loop's own; and where a way through a condition
-- with sites meets none, from each site that leads to it.
abbrev pub Ends : (sites : ℕ) → (n i : ℕ) → (passes last last_of_body : Type 0) → Type 0
Ends zero n i passes last last_of_body = i ≡ n
Ends (suc k) n i passes last last_of_body = last ⊎ (passes × ((i ≡ n) ⊎ last_of_body))

-- It can be met last on a way that goes on behind the piece.
abbrev pub Last : {S : Type 0} → (n : ℕ) → Way S → (i : ℕ) → Type 0
Last n pass i = ⊥
Last n (one s) i = i ≡ n
Last n (row a b) i = Last (n + size a) b i ⊎ (Passes b × Last n a i)
Last n (fork a b) i = Last n a i ⊎ Last (n + size a) b i
Last n leave i = ⊥
Last n (turns s c b) i =
    Ends (size c) n i (Passes c) (Last (suc n) c i) (Last (suc n + size c) b i)
Last n (inside e b x) i =
    (i ≡ suc n + size b) × (Passes b ⊎ ((l : ℕ) × Last (suc n) b l))

-- It can be met last on a way to the member's end.
abbrev pub Leaves : {S : Type 0} → (n : ℕ) → Way S → (i : ℕ) → Type 0
Leaves n pass i = ⊥
Leaves n (one s) i = ⊥
Leaves n (row a b) i =
    Leaves n a i ⊎ Leaves (n + size a) b i ⊎ (LeavesAtOnce b × Last n a i)
Leaves n (fork a b) i = Leaves n a i ⊎ Leaves (n + size a) b i
Leaves n leave i = ⊥
Leaves n (turns s c b) i = Leaves (suc n + size c) b i
    ⊎ (LeavesAtOnce b × Last n (turns s c b) i)
Leaves n (inside e b x) i =
    (i ≡ suc n + size b) × (LeavesAtOnce b ⊎ ((l : ℕ) × Leaves (suc n) b l))

-- where a loop's body leads: to its condition, or to its own site where the condition has none
abbrev pub Again : (sites : ℕ) → (n j : ℕ) → (first : Type 0) → Type 0
Again zero n j first = j ≡ n
Again (suc k) n j first = first

-- One site can be met directly behind another.
abbrev pub Edge : {S : Type 0} → (n : ℕ) → Way S → (i j : ℕ) → Type 0
Edge n pass i j = ⊥
Edge n (one s) i j = ⊥
Edge n (row a b) i j =
    Edge n a i j ⊎ Edge (n + size a) b i j ⊎ (Last n a i × First (n + size a) b j)
Edge n (fork a b) i j = Edge n a i j ⊎ Edge (n + size a) b i j
Edge n leave i j = ⊥
Edge n (turns s c b) i j = Edge (suc n) c i j ⊎ Edge (suc n + size c) b i j
    ⊎ ((i ≡ n) × First (suc n) c j)
    ⊎ (Last n (turns s c b) i × First (suc n + size c) b j)
    ⊎ (Last (suc n + size c) b i × Again (size c) n j (First (suc n) c j))
    ⊎ (Passes b × Last n (turns s c b) i × Again (size c) n j (First (suc n) c j))
Edge n (inside e b x) i j = Edge (suc n) b i j
    ⊎ ((i ≡ n) × First (suc n) b j)
    ⊎ (Last (suc n) b i × (j ≡ suc n + size b))
    ⊎ (Leaves (suc n) b i × (j ≡ suc n + size b))
    ⊎ ((Passes b ⊎ LeavesAtOnce b) × (i ≡ n) × (j ≡ suc n + size b))

-- A piece without returns: an expression is one.
abbrev pub Straight : {S : Type 0} → Way S → Type 0
Straight pass = Unit {0}
Straight (one s) = Unit {0}
Straight (row a b) = Straight a × Straight b
Straight (fork a b) = Straight a × Straight b
Straight leave = ⊥
Straight (turns s c b) = ⊥
Straight (inside e b x) = ⊥
