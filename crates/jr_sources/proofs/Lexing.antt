-- The texts of sources.
use Rattle.std.proofs.Common.{◌≡◌, ℕ, zero, suc, List, [], ◌∷◌, refl}
use Rattle.std.specs.Prelude.{Some, slice_get}
use Rattle.std.proofs.lemmas.Option.{none-some, same_Some}
use Rattle.jr_sources.specs.Sources.{Source, texts_of}

-- a text of the sources
pub text_source : (ss : List Source) (i : ℕ) (t : List ℕ) → slice_get (texts_of ss) i ≡ Some t → (s : Source) × (slice_get ss i ≡ Some s) × (s.text ≡ t)
text_source [] i t e = absurd (none-some t e)
text_source (s ∷ ss) zero t e = (s, refl, same_Some s.text t e)
text_source (s ∷ ss) (suc i) t e = text_source ss i t e
