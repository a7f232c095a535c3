-- What comes of a local that is declared.
use Rattle.std.specs.Prelude.{ℕ, ◌+◌, Bool}
use Rattle.jr_text.specs.declared.spans.Span.{Span}
use Rattle.jr_ast.specs.Tree as tree
use Rattle.jr_table.specs.Decls.{local_decl}
use Rattle.jr_table.specs.Context.{local_of, local_key, in_own, with_local}
use Rattle.jr_table.specs.Binding.{value}
use Rattle.jr_rewrite.specs.Spots.{level}
use Rattle.jr_rewrite.specs.Rewrites.{TransformsPart}
use Rattle.jr_new_bodies.specs.declared.here.Here as raw
use Rattle.jr_new_bodies.specs.Effects.{Effect, Gathers}
use Rattle.jr_new_bodies.specs.Known.{context_of}
use Rattle.jr_new_bodies.specs.Spotting.{Unseen}
use Rattle.jr_new_bodies.specs.Walks.{choosing, spotted, TypeGathers}
use Rattle.jr_new_bodies.specs.Bodies.{WordGathers}
use Rattle.jr_new_bodies.specs.Moves.{Passes}

module _ {A : Type 0} (tells : A → ℕ → Span) where
  -- type and name
  abbrev pub HeadGathers : raw.Here → (number at : ℕ) → tree.TypeName A → tree.Word A
      → (old new : Effect) → Type 0
  HeadGathers h n at t w old new = (mid : Effect) × TypeGathers tells h at t old mid
      × WordGathers tells h (local_decl (local_key (context_of h) n)) at w mid new

  -- and the initializer, in what is known there
  abbrev pub LocalGathers : raw.Here → (number at : ℕ) → Bool → tree.TypeName A → tree.Word A
      → tree.Exp A → (old new : Effect) → Type 0
  LocalGathers h n at f t w e old new = (mid : Effect) × HeadGathers h n at t w old mid
      × ((u : Unseen A) → Gathers (TransformsPart tells (choosing tells h u.super_at)
      (spotted tells h u) (level 0) (in_own (context_of h) (local_of (context_of h) n f t w)) value
      at e) mid new)

  abbrev pub LocalPasses : (number : ℕ) → raw.Here → (at : ℕ) → Bool → tree.TypeName A
      → tree.Word A → tree.Exp A → (n : ℕ) → raw.Here → (old new : Effect) → Type 0
  LocalPasses number h at f t w e n i old new = Passes h i n (number + 1)
      (with_local (context_of h) (local_of (context_of h) number f t w))
      (LocalGathers h number at f t w e old new)
