-- Effects of parts, one behind the other.
use Rattle.std.proofs.Common.{◌≡◌, ℕ, ◌+◌, List, [], ◌++◌, refl, sym, ap, ◌∙◌, arith}
use Rattle.std.proofs.lemmas.List.{append_assoc, append-nil}
use Rattle.jr_rewrite.specs.Respellings.{Loss, Change, Choice}
use Rattle.jr_rewrite.specs.Rewritten.{Rewritten, plain, within, joined}
use Rattle.jr_new_bodies.specs.Effects.{Effect, no_effect, both, effect_of, Gathers}

pub both_none : (e : Effect) → both e no_effect ≡ e
both_none e = λ i. record { changes = append-nil e.changes i; respelled = plus_zero e.respelled i; losses = append-nil e.losses i }
  where
    plus_zero : (n : ℕ) → n + 0 ≡ n
    plus_zero n = omega arith

pub none_both : (e : Effect) → both no_effect e ≡ e
none_both e = λ i. record { changes = e.changes; respelled = zero_plus e.respelled i; losses = e.losses }
  where
    zero_plus : (n : ℕ) → 0 + n ≡ n
    zero_plus n = omega arith

pub both_assoc : (d e f : Effect) → both (both d e) f ≡ both d (both e f)
both_assoc d e f = λ i. record {
  changes = append_assoc d.changes e.changes f.changes i;
  respelled = plus_assoc d.respelled e.respelled f.respelled i;
  losses = append_assoc d.losses e.losses f.losses i;
}
  where
    plus_assoc : (a b c : ℕ) → (a + b) + c ≡ a + (b + c)
    plus_assoc a b c = omega arith

-- nothing happened
pub gathers_none : {T : Type 0} (t : T) (e : Effect) → Gathers (λ (o : Rewritten T). o ≡ plain t) e e
gathers_none t e = (plain t, refl, sym (both_none e))

pub gathers_as : {T : Type 0} (P Q : Rewritten T → Type 0) (e f : Effect) → ((o : Rewritten T) → P o → Q o) → Gathers P e f → Gathers Q e f
gathers_as P Q e f to (o, p, is) = (o, to o p, is)

-- one part
pub gathers_within : {T U : Type 0} (f : T → U) (P : Rewritten T → Type 0) (a b : Effect) → Gathers P a b
    → Gathers (λ (o : Rewritten U). (p : Rewritten T) × P p × (o ≡ within f p)) a b
gathers_within f P a b (p, h, is) = (within f p, (p, h, refl), is)

-- two parts
pub gathers_joined : {T U V : Type 0} (f : T → U → V) (P : Rewritten T → Type 0) (Q : Rewritten U → Type 0) (a b c : Effect) → Gathers P a b → Gathers Q b c
    → Gathers (λ (o : Rewritten V). (p : Rewritten T) × (q : Rewritten U) × P p × Q q × (o ≡ joined f p q)) a c
gathers_joined f P Q a b c (p, h, is) (q, k, then_is) =
    (joined f p q, (p, q, h, k, refl), then_is ∙ ap (λ e. both e (effect_of q)) is ∙ both_assoc a (effect_of p) (effect_of q))
