-- Rows that a pass over all steps leaves as they are say all that they say with steps in front.
use Rattle.std.proofs.Common.{◌≡◌, ◌⊎◌, ◌<◌, ℕ, ◌/◌, List, subst}
use Rattle.jr_flow.specs.Rows.{Has}
use Rattle.jr_flow.specs.Closure.{Derived, at_once, onward, Extends, Closes}
use Rattle.jr_flow.proofs.Extending.{extends_more, extends_part}

module _ (width : ℕ) (steps first old new : List ℕ) (before : Extends width steps (λ a b. ⊥) first old) (all : Extends width steps (λ a b. a / 64 < width) old new) where
  pub goes_on : Extends width steps (λ a b. ⊥) first new
  goes_on =
      extends_part width steps (λ a b. ⊥ ⊎ (a / 64 < width)) (λ a b. ⊥) first new (λ a b inside none. absurd none)
      (extends_more width steps (λ a b. ⊥) (λ a b. a / 64 < width) first old new before all)

  -- the bits of a row to which a step leads
  taken : new ≡ old → (a b c : ℕ) → a / 64 < width → b / 64 < width → Has steps width a b → c / 64 < width → Has new width b c → Has new width a c
  taken same a b c low inside step lt h = all.merged a b c low inside step lt (subst (λ (ws : List ℕ). Has ws width b c) same h)

  has_derived : new ≡ old → (a c : ℕ) → a / 64 < width → c / 64 < width → Derived width steps first a c → Has new width a c
  has_derived same a c low lt (at_once _ _ h) = goes_on.kept a c h
  has_derived same a c low lt (onward _ b _ inside step d) = taken same a b c low inside step lt (has_derived same b c inside lt d)

  pub closed : new ≡ old → Closes width steps first new
  closed same a c low lt = (λ h. goes_on.derived a c lt h, λ d. has_derived same a c low lt d)
