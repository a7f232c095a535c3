-- Paths that pass no member, no statement.
use Rattle.std.specs.Prelude.{◌≡◌, ℕ, ◌≤◌, ◌<◌, List, length, take, Option, None}
use Rattle.std.specs.Option.{IsSome}
use Rattle.jr_ast.specs.Nodes.{Node, member_at, stmt_at}

module _ {A : Type 0} where
  -- no first part of the path but the empty one leads to a member, to a statement
  abbrev pub NoMember : Node A → List ℕ → Type 0
  NoMember n q = (k : ℕ) → 1 ≤ k → k ≤ length q → member_at n (take k q) ≡ None

  abbrev pub NoStmt : Node A → List ℕ → Type 0
  NoStmt n q = (k : ℕ) → 1 ≤ k → k ≤ length q → stmt_at n (take k q) ≡ None

-- among the first `count` steps, the last at which the path leads somewhere; 0 where there is none
abbrev pub IsLast : {X : Type 0} → (List ℕ → Option X) → List ℕ → (count last : ℕ) → Type 0
IsLast at steps count last = (last ≤ count) × (1 ≤ last → IsSome (at (take last steps)))
    × ((k : ℕ) → last < k → k ≤ count → at (take k steps) ≡ None)
