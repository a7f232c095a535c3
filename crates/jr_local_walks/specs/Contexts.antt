-- What is known of the locals in scope at a place of a member in which one comes or goes: they are
-- in the order of their numbers.
use Rattle.std.specs.Prelude.{◌≡◌, ℕ, ◌<◌, ◌≤◌, List, [], ◌∷◌, ◌++◌, length}
use Rattle.jr_table.specs.Keys.{ClassKey, class}
use Rattle.jr_table.specs.Decls.{MemberKey, class_decl}
use Rattle.jr_table.specs.Rows.{Row}
use Rattle.jr_table.specs.Entries.{IsRowOf}
use Rattle.jr_table.specs.Context.{Context, Local, known}
use Rattle.jr_pieces.specs.Standings.{Standing}

-- all of a list
abbrev pub Each : {X : Type 0} → (X → Type 0) → List X → Type 0
Each F [] = Unit {0}
Each F (x ∷ xs) = F x × Each F xs

-- a local of the member
abbrev pub IsOf : MemberKey → Local → Type 0
IsOf k l = l.key.member ≡ k

-- with a number below this one, from it on, or this one
abbrev pub IsEarly : MemberKey → (number : ℕ) → Local → Type 0
IsEarly k n l = IsOf k l × (l.key.number < n)

abbrev pub IsLate : MemberKey → (number : ℕ) → Local → Type 0
IsLate k n l = IsOf k l × (n ≤ l.key.number)

abbrev pub IsOwn : MemberKey → (number : ℕ) → Local → Type 0
IsOwn k n l = IsOf k l × (l.key.number ≡ n)

-- a class that is known to be its type has a row
abbrev pub IsTyped : List Row → Local → Type 0
IsTyped rows l = (b : ClassKey) → l.type ≡ known (class b) → (j : ℕ) × IsRowOf rows (class_decl b) j

module _ (rows : List Row) (k : MemberKey) where
  -- in a member
  pub record InMember (c : Context) : Type 0 where
    pub member : c.member ≡ k
    pub of : Each (IsOf k) c.locals
    pub typed : Each (IsTyped rows) c.locals

  -- Behind so many locals that have numbers below n there are others, which have the property.
  pub record InOrder (n depth : ℕ) (Behind : Local → Type 0) (c : Context) : Type 0 where
    pub member : c.member ≡ k
    pub early : List Local
    pub late : List Local
    pub locals : c.locals ≡ early ++ late
    pub depth_is : length early ≡ depth
    pub are_early : Each (IsEarly k n) early
    pub are_late : Each Behind late
    pub typed : Each (IsTyped rows) c.locals

  -- the next local has a number from n on
  abbrev pub IsOrdered : (n depth : ℕ) → Standing → Type 0
  IsOrdered n depth p = (n ≤ p.next) × InOrder n depth (IsLate k n) p.context

  abbrev pub IsWithin : Standing → Type 0
  IsWithin p = InMember p.context

  -- all have numbers below that of the next one
  abbrev pub IsBelow : Standing → Type 0
  IsBelow p = (p.context.member ≡ k) × Each (IsEarly k p.next) p.context.locals
      × Each (IsTyped rows) p.context.locals
