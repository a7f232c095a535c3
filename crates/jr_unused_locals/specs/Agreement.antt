-- Where one local agrees in two programs, by the ways of a member of which a piece is cut out.
use Rattle.std.specs.Prelude.{◌≡◌, ◌⊎◌, ◌<◌, ◌≤◌, ℕ, suc, ◌+◌, Bool, true, false, ◌||◌}
use Rattle.jr_cover.specs.Ways.{
  Way,
  pass,
  one,
  row,
  fork,
  leave,
  turns,
  inside,
  size,
  Passes,
  LeavesAtOnce,
  First,
  Last,
  Leaves,
  Edge,
  Again,
}

-- what agrees by the first agrees by the second
abbrev pub Within : Bool → Bool → Type 0
Within A B = A ≡ true → B ≡ true

module _ {S : Type 0} (a : ℕ) (p : Way S) where
  -- where the piece stands in a way
  pub data Stands : ℕ → Way S → Type 0 where
    here : Stands a p
    in_first : (n : ℕ) (x y : Way S) → Stands n x → Stands n (row x y)
    in_second : (n : ℕ) (x y : Way S) → Stands (n + size x) y → Stands n (row x y)
    in_left : (n : ℕ) (x y : Way S) → Stands n x → Stands n (fork x y)
    in_right : (n : ℕ) (x y : Way S) → Stands (n + size x) y → Stands n (fork x y)
    in_condition : (n : ℕ) (s : S) (c b : Way S) → Stands (suc n) c → Stands n (turns s c b)
    in_body : (n : ℕ) (s : S) (c b : Way S) → Stands (suc n + size c) b → Stands n (turns s c b)
    in_monitor : (n : ℕ) (e x : S) (b : Way S) → Stands (suc n) b → Stands n (inside e b x)

  -- The edges of the way round the piece: those between its sites that come of a loop round it are
  -- among them.
  abbrev pub Round : (n : ℕ) (w : Way S) → Stands n w → (i j : ℕ) → Type 0
  Round n w here i j = ⊥
  Round n w (in_first m x y s) i j = Round n x s i j ⊎ Edge (n + size x) y i j
      ⊎ (Last n x i × First (n + size x) y j)
  Round n w (in_second m x y s) i j = Edge n x i j ⊎ Round (n + size x) y s i j
      ⊎ (Last n x i × First (n + size x) y j)
  Round n w (in_left m x y s) i j = Round n x s i j ⊎ Edge (n + size x) y i j
  Round n w (in_right m x y s) i j = Edge n x i j ⊎ Round (n + size x) y s i j
  Round n w (in_condition m z c b s) i j = Round (suc n) c s i j ⊎ Edge (suc n + size c) b i j
      ⊎ ((i ≡ n) × First (suc n) c j)
      ⊎ (Last n (turns z c b) i × First (suc n + size c) b j)
      ⊎ (Last (suc n + size c) b i × Again (size c) n j (First (suc n) c j))
      ⊎ (Passes b × Last n (turns z c b) i × Again (size c) n j (First (suc n) c j))
  Round n w (in_body m z c b s) i j = Edge (suc n) c i j ⊎ Round (suc n + size c) b s i j
      ⊎ ((i ≡ n) × First (suc n) c j)
      ⊎ (Last n (turns z c b) i × First (suc n + size c) b j)
      ⊎ (Last (suc n + size c) b i × Again (size c) n j (First (suc n) c j))
      ⊎ (Passes b × Last n (turns z c b) i × Again (size c) n j (First (suc n) c j))
  Round n w (in_monitor m e x b s) i j = Round (suc n) b s i j
      ⊎ ((i ≡ n) × First (suc n) b j)
      ⊎ (Last (suc n) b i × (j ≡ suc n + size b))
      ⊎ (Leaves (suc n) b i × (j ≡ suc n + size b))
      ⊎ ((Passes b ⊎ LeavesAtOnce b) × (i ≡ n) × (j ≡ suc n + size b))

module _ (reads writes : ℕ → Bool) where
  -- E: the edges of the member. From the site on a read is met before a write.
  pub data Comes (E : ℕ → ℕ → Type 0) : ℕ → Type 0 where
    reads_here : (j : ℕ) → reads j ≡ true → Comes E j
    onward : (j k : ℕ) → writes j ≡ false → E j k → Comes E k → Comes E j

abbrev pub InPiece : {S : Type 0} → ℕ → Way S → ℕ → Type 0
InPiece a p i = (a ≤ i) × (i < a + size p)

module _ {S : Type 0} (reads writes : ℕ → Bool) where
  -- A: does the local agree in front of the way, B: behind it; a read wants it, a write makes it
  pub data Ok : ℕ → Way S → Bool → Bool → Type 0 where
    ok_pass : (n : ℕ) (A : Bool) → Ok n pass A A
    ok_one : (n : ℕ) (A : Bool) (s : S) → (reads n ≡ true → A ≡ true)
        → Ok n (one s) A (A || writes n)
    ok_row : (n : ℕ) (A B C : Bool) (a b : Way S) → Ok n a A B → Ok (n + size a) b B C
        → Ok n (row a b) A C
    ok_fork : (n : ℕ) (A B C D : Bool) (a b : Way S) → Ok n a A B → Ok (n + size a) b A C
        → Within D B → Within D C → Ok n (fork a b) A D
    ok_leave : (n : ℕ) (A B : Bool) → Ok n leave A B
    ok_turns : (n : ℕ) (A H B C : Bool) (s : S) (c b : Way S) → Within H A → Ok (suc n) c H B
        → Ok (suc n + size c) b B C → Within H C → Ok n (turns s c b) A B
    ok_inside : (n : ℕ) (A B : Bool) (e x : S) (b : Way S) → Ok (suc n) b A B
        → Ok n (inside e b x) A B

  -- loops' own sites and monitors neither read nor write
  abbrev pub Quiet : ℕ → Way S → Type 0
  Quiet n pass = Unit {0}
  Quiet n (one s) = Unit {0}
  Quiet n (row a b) = Quiet n a × Quiet (n + size a) b
  Quiet n (fork a b) = Quiet n a × Quiet (n + size a) b
  Quiet n leave = Unit {0}
  Quiet n (turns s c b) = (writes n ≡ false) × Quiet (suc n) c × Quiet (suc n + size c) b
  Quiet n (inside e b x) = (writes n ≡ false) × (writes (suc n + size b) ≡ false) × Quiet (suc n) b

  module _ (a : ℕ) (p : Way S) where
    -- The same with the piece cut out where it stands: behind it the local doesn't agree, whatever
    -- it did in front.
    abbrev pub OkAround : (n : ℕ) (w : Way S) → Stands a p n w → (A B : Bool) → Type 0
    OkAround n w here A C = (B : Bool) × Ok a p A B × (C ≡ false)
    OkAround n w (in_first m x y s) A C =
        (B : Bool) × OkAround n x s A B × Ok (n + size x) y B C
    OkAround n w (in_second m x y s) A C =
        (B : Bool) × Ok n x A B × OkAround (n + size x) y s B C
    OkAround n w (in_left m x y s) A D = (B C : Bool) × OkAround n x s A B
        × Ok (n + size x) y A C × Within D B × Within D C
    OkAround n w (in_right m x y s) A D = (B C : Bool) × Ok n x A B
        × OkAround (n + size x) y s A C × Within D B × Within D C
    OkAround n w (in_condition m z c b s) A B = (H C : Bool) × Within H A
        × OkAround (suc n) c s H B × Ok (suc n + size c) b B C × Within H C
    OkAround n w (in_body m z c b s) A B = (H C : Bool) × Within H A × Ok (suc n) c H B
        × OkAround (suc n + size c) b s B C × Within H C
    OkAround n w (in_monitor m e x b s) A B = OkAround (suc n) b s A B

  -- a way round the piece leads from it to a read
  pub record Used (m : Way S) (a : ℕ) (p : Way S) (s : Stands a p 0 m) : Type 0 where
    pub from : ℕ
    pub to : ℕ
    pub in_piece : InPiece a p from
    pub round : Round a p 0 m s from to
    pub comes : Comes reads writes (Edge 0 m) to

-- no way leaves the member
abbrev pub Stays : {S : Type 0} → Way S → Type 0
Stays pass = Unit {0}
Stays (one s) = Unit {0}
Stays (row a b) = Stays a × Stays b
Stays (fork a b) = Stays a × Stays b
Stays leave = ⊥
Stays (turns s c b) = Stays c × Stays b
Stays (inside e b x) = Stays b

-- a piece with sites, without returns
abbrev pub UnusedLocalsMayDiffer : (S : Type 0) → Type 0
UnusedLocalsMayDiffer S = (reads writes : ℕ → Bool) (m : Way S) (a : ℕ) (p : Way S)
    (s : Stands a p 0 m) → Quiet reads writes 0 m → Stays p → 0 < size p
    → (Used reads writes m a p s → ⊥) → (B : Bool) × OkAround reads writes a p 0 m s true B
