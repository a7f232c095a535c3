-- A part in which no word changes has no effect, nor has a whole of such parts.
use Rattle.std.proofs.Common.{◌≡◌, ℕ, ◌+◌, List, [], ◌++◌, sym, ap}
use Rattle.std.specs.Cmp.Lexicographic.{bytes_decides}
use Rattle.std.specs.Prelude.{if◌then◌else◌}
use Rattle.jr_rewrite.specs.Respellings.{stays, same}
use Rattle.jr_rewrite.specs.Rewritten.{Rewritten}
use Rattle.jr_images.specs.Spelling.{renamed, respelled}
use Rattle.jr_new_bodies.specs.Effects.{Effect, no_effect, both, effect_of}

-- something is rewritten so, without an effect
abbrev pub GivesNothing : {T : Type 0} → (Rewritten T → Type 0) → Type 0
GivesNothing {T} P = (o : Rewritten T) × P o × (effect_of o ≡ no_effect)

-- the same name is no other
pub stays_so : (old new : List ℕ) → new ≡ old → stays ≡ renamed old new
stays_so old new e = sym (ap (λ b. if b then stays else respelled new same) ((bytes_decides old new).1 (sym e)))

-- two parts, one behind the other
pub both_none : {e f : Effect} → e ≡ no_effect → f ≡ no_effect → both e f ≡ no_effect
both_none a b = λ i. both (a i) (b i)

-- a word behind a dot
pub dotted_none : {e : Effect} → e ≡ no_effect → record { changes = e.changes; respelled = e.respelled + 0; losses = e.losses ++ [] } ≡ no_effect
dotted_none a = λ i. record { changes = (a i).changes; respelled = (a i).respelled + 0; losses = (a i).losses ++ [] }
