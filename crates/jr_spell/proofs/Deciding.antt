-- Tests that decide.
use Rattle.std.proofs.Common.{◌≡◌, Bool, true, false, refl, sym, ◌∙◌}
use Rattle.std.specs.Prelude.{◌↔◌, ◌&&◌, IsTrue, Result}
use Rattle.std.specs.Result.{IfOk}
use Rattle.std.proofs.lemmas.Result.{IfOk-weaker}

pub never : {P : Type 0} → (P → ⊥) → IsTrue false ↔ P
never h = (λ e. absurd cc, λ p. absurd (h p))

pub along : {b : Bool} {P Q : Type 0} → IsTrue b ↔ P → (P → Q) → (Q → P) → IsTrue b ↔ Q
along decides to from = (λ e. to (decides.0 e), λ q. decides.1 (from q))

pub and_also : (a b : Bool) {P Q : Type 0} → IsTrue a ↔ P → IsTrue b ↔ Q → IsTrue (a && b) ↔ (P × Q)
and_also true true p q = (λ e. (p.0 refl, q.0 refl), λ x. refl)
and_also true false p q = (λ e. absurd cc, λ x. q.1 x.1)
and_also false true p q = (λ e. absurd cc, λ x. p.1 x.0)
and_also false false p q = (λ e. absurd cc, λ x. p.1 x.0)

-- a test that is false
pub refuted : {b : Bool} {P : Type 0} → b ≡ false → IsTrue b ↔ P → P → ⊥
refuted e decides p = let t = decides.1 p in let no : false ≡ true = sym e ∙ t in cc

pub both_true : (a b : Bool) → (a && b) ≡ true → IsTrue a × IsTrue b
both_true true true e = (refl, refl)
both_true true false e = absurd cc
both_true false true e = absurd cc
both_true false false e = absurd cc

-- what an answer decides
pub ok_along : {E : Type 0} (r : Result Bool E) (P Q : Type 0) → (P → Q) → (Q → P) → IfOk r (λ b. IsTrue b ↔ P) → IfOk r (λ b. IsTrue b ↔ Q)
ok_along r P Q to from answered = IfOk-weaker r (λ b. IsTrue b ↔ P) (λ b. IsTrue b ↔ Q) (λ b decides. along decides to from) answered
