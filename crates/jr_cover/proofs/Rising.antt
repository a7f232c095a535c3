-- Without loops each edge leads to a higher number.
use Rattle.std.proofs.Common.{◌<◌, ℕ, suc, ◌+◌, ⊎_elim, arith}
use Rattle.jr_cover.specs.Paths.{Path, edge, onward}
use Rattle.jr_cover.specs.Ways.{Way, pass, one, row, fork, leave, turns, inside, size, Last, Leaves, Edge, Straight}
use Rattle.jr_cover.proofs.WayLaws.{Within, first_within, last_within}

abbrev pub Loopless : {S : Type 0} → Way S → Type 0
Loopless pass = Unit {0}
Loopless (one s) = Unit {0}
Loopless (row a b) = Loopless a × Loopless b
Loopless (fork a b) = Loopless a × Loopless b
Loopless leave = Unit {0}
Loopless (turns s c b) = ⊥
Loopless (inside e b x) = Loopless b

pub straight_loopless : {S : Type 0} (w : Way S) → Straight w → Loopless w
straight_loopless pass s = tt
straight_loopless (one x) s = tt
straight_loopless (row a b) s = (straight_loopless a s.0, straight_loopless b s.1)
straight_loopless (fork a b) s = (straight_loopless a s.0, straight_loopless b s.1)
straight_loopless leave s = tt
straight_loopless (turns x c b) s = s
straight_loopless (inside e b x) s = absurd s

last_in : {S : Type 0} (n : ℕ) (w : Way S) (i : ℕ) → Last n w i → Within n w i
last_in n w i h = last_within (λ x y. ⊥) n w i h

leaves_within : {S : Type 0} (n : ℕ) (w : Way S) → Loopless w → (i : ℕ) → Leaves n w i → Within n w i
leaves_within n pass l i h = absurd h
leaves_within n (one s) l i h = absurd h
leaves_within n (row a b) l i h = ⊎_elim
    (λ g. let k = leaves_within n a l.0 i g in (k.0, omega (arith, k.1)))
    (λ q. ⊎_elim
    (λ g. let k = leaves_within (n + size a) b l.1 i g in (omega (arith, k.0), omega (arith, k.1)))
    (λ g. let k = last_in n a i g.1 in (k.0, omega (arith, k.1))) q) h
leaves_within n (fork a b) l i h = ⊎_elim
    (λ g. let k = leaves_within n a l.0 i g in (k.0, omega (arith, k.1)))
    (λ g. let k = leaves_within (n + size a) b l.1 i g in (omega (arith, k.0), omega (arith, k.1))) h
leaves_within n leave l i h = absurd h
leaves_within n (turns s c b) l i h = absurd l
leaves_within n (inside e b x) l i h = (omega (arith, h.0), omega (arith, h.0))

pub rises : {S : Type 0} (n : ℕ) (w : Way S) → Loopless w → (i j : ℕ) → Edge n w i j → i < j
rises n pass l i j h = absurd h
rises n (one s) l i j h = absurd h
rises n (row a b) l i j h = ⊎_elim
    (λ e. rises n a l.0 i j e)
    (λ k. ⊎_elim (λ e. rises (n + size a) b l.1 i j e) (λ e. let x = last_in n a i e.0 in let y = first_within (n + size a) b j e.1 in omega (arith, x.1, y.0)) k) h
rises n (fork a b) l i j h = ⊎_elim (λ e. rises n a l.0 i j e) (λ e. rises (n + size a) b l.1 i j e) h
rises n leave l i j h = absurd h
rises n (turns s c b) l i j h = absurd l
rises n (inside e b x) l i j h = ⊎_elim
    (λ q. rises (suc n) b l i j q)
    (λ q. ⊎_elim
    (λ z. let y = first_within (suc n) b j z.1 in omega (arith, z.0, y.0))
    (λ q2. ⊎_elim
    (λ z. let y = last_in (suc n) b i z.0 in omega (arith, y.1, z.1))
    (λ q3. ⊎_elim
    (λ z. let y = leaves_within (suc n) b l i z.0 in omega (arith, y.1, z.1))
    (λ z. omega (arith, z.1, z.2)) q3) q2) q) h

-- and so does each path
pub path_rises : (a b : ℕ) → Path (λ i j. i < j) a b → a < b
path_rises a b (edge _ _ e) = e
path_rises a c (onward _ b _ e p) =
    let f : a < b = e in
    let k : b < c = path_rises b c p in
    omega (arith, f, k)
