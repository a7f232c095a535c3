-- Tests that are false.
use Rattle.std.proofs.Common.{◌≡◌, Bool, true, false, sym, ◌∙◌}
use Rattle.std.specs.Prelude.{◌↔◌, IsTrue}

pub refuted : {b : Bool} {P : Type 0} → b ≡ false → IsTrue b ↔ P → P → ⊥
refuted e decides p = let t = decides.1 p in let no : false ≡ true = sym e ∙ t in cc
