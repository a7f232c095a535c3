-- How far tokens can be read: what begins a spelling, where reading stops, and the longest that is
-- whole. They are said of any kind of tree, by what it spells and by which trees are meant.
use Rattle.std.specs.Prelude.{◌≡◌, ℕ, ◌+◌, ◌≤◌, ◌<◌, List, ◌++◌, length, take}
use Rattle.jr_grammar.specs.Tokens.{Token}

module _ (Tree : Type 0) (spelled : Tree → List Token) (IsMeant : Tree → Type 0) where
  -- no two of the trees spell the same tokens
  abbrev pub OneTree : Type 0
  OneTree = (a b : Tree) → IsMeant a → IsMeant b → spelled a ≡ spelled b → a ≡ b

  -- the spelling of the tree begins with the tokens
  pub record Begins (tokens : List Token) (tree : Tree) : Type 0 where
    pub meant : IsMeant tree
    pub rest : List Token
    pub spells : spelled tree ≡ tokens ++ rest

  -- the tokens begin with the tree, which takes n of them
  pub record IsPrefix (tokens : List Token) (n : ℕ) (tree : Tree) : Type 0 where
    pub meant : IsMeant tree
    pub within : n ≤ length tokens
    pub spells : spelled tree ≡ take n tokens

  -- and with none that takes more
  pub record IsLongest (tokens : List Token) (n : ℕ) (tree : Tree) : Type 0 where
    pub first : IsPrefix tokens n tree
    pub longest : (m : ℕ) (other : Tree) → IsPrefix tokens m other → m ≤ n

  -- the tokens begin with no tree
  abbrev pub HasNone : List Token → Type 0
  HasNone tokens = (m : ℕ) (tree : Tree) → IsPrefix tokens m tree → ⊥

  -- The first n tokens begin the spelling of some tree, and with the token behind them they begin
  -- none.
  pub record IsStop (tokens : List Token) (n : ℕ) : Type 0 where
    pub within : n ≤ length tokens
    pub before : (tree : Tree) × Begins (take n tokens) tree
    pub at : n < length tokens → (tree : Tree) → Begins (take (n + 1) tokens) tree → ⊥

  -- Tokens have one stop, and one longest tree or none.
  pub record OneReading : Type 0 where
    pub stop : (tokens : List Token) (n m : ℕ) → IsStop tokens n → IsStop tokens m → n ≡ m
    pub longest : (tokens : List Token) (n m : ℕ) (a b : Tree) → IsLongest tokens n a
        → IsLongest tokens m b → n ≡ m
    pub never_both : (tokens : List Token) (n : ℕ) (tree : Tree) → IsLongest tokens n tree
        → HasNone tokens → ⊥
