-- What is apart, and what is one.
use Rattle.std.proofs.Common.{◌≡◌, true, false, Some, None}

pub none_some : {S B : Type 0} (s : S) → None ≡ Some s → B
none_some s e = absurd (apart s e)
  where
    apart : {S : Type 0} (s : S) → None ≡ Some s → ⊥
    apart s j = cc

pub same_one : {S : Type 0} (s t : S) → Some s ≡ Some t → s ≡ t
same_one s t e = cc

pub false_true : {B : Type 0} → false ≡ true → B
false_true e = absurd (apart e)
  where
    apart : false ≡ true → ⊥
    apart j = cc
