-- The bytes where the references to a declaration begin, in their order.
use Rattle.std.specs.Prelude.{◌↔◌, ℕ, List}
use Rattle.jr_table.specs.Decls.{Decl}
use Rattle.jr_bind.specs.Bounds.{Reference}
use Rattle.jr_local_search.specs.Namings.{Among, RisesBy}
use Rattle.jr_local_moves.specs.ReferencePlaces.{places_of}

-- the same numbers, none lower than one in front of it
pub record AreInOrder (xs ys : List ℕ) : Type 0 where
  pub same : (n : ℕ) → Among ys n ↔ Among xs n
  pub rise : RisesBy (λ (at : ℕ). at) ys

-- of a member that begins at `start`, and has these references
abbrev pub ArePlaces : (start : ℕ) → Decl → List Reference → List ℕ → Type 0
ArePlaces start d rs ns = AreInOrder (places_of start d rs rs) ns
