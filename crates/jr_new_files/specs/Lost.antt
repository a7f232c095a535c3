-- The first of what is lost, exact: by its file and its number there.
use Rattle.std.specs.Prelude.{◌≡◌, ℕ, ◌<◌, ◌≤◌, List, [], Some, slice_get}
use Rattle.jr_rewrite.specs.Respellings.{Loss}
use Rattle.jr_new_bodies.specs.Effects.{Effect}

-- the first that begins where none begins before
pub record IsLeast (ls : List Loss) (number : ℕ) (loss : Loss) : Type 0 where
  pub stands : slice_get ls number ≡ Some loss
  pub before : (i : ℕ) (m : Loss) → i < number → slice_get ls i ≡ Some m → loss.at < m.at
  pub behind : (i : ℕ) (m : Loss) → slice_get ls i ≡ Some m → loss.at ≤ m.at

abbrev pub HasLeast : List Loss → (number : ℕ) → Type 0
HasLeast ls number = (loss : Loss) × IsLeast ls number loss

-- the same of the file of a number
abbrev pub HasLeastThere : List Effect → (file number : ℕ) → Type 0
HasLeastThere es file number =
    (e : Effect) × (slice_get es file ≡ Some e) × HasLeast e.losses number

abbrev pub LosesNothingThere : List Effect → (file : ℕ) → Type 0
LosesNothingThere es file = (e : Effect) → slice_get es file ≡ Some e → e.losses ≡ []

-- the first file that loses something, and the first loss there
pub record IsFirstLost (es : List Effect) (file number : ℕ) (loss : Loss) : Type 0 where
  pub effect : Effect
  pub stands : slice_get es file ≡ Some effect
  pub least : IsLeast effect.losses number loss
  pub before : (i : ℕ) (e : Effect) → i < file → slice_get es i ≡ Some e → e.losses ≡ []

abbrev pub HasFirstLost : List Effect → (file number : ℕ) → Type 0
HasFirstLost es file number = (loss : Loss) × IsFirstLost es file number loss

abbrev pub IsFirstLoss : List Effect → (file : ℕ) → Loss → Type 0
IsFirstLoss es file loss = (number : ℕ) × IsFirstLost es file number loss

abbrev pub LoseNothing : List Effect → Type 0
LoseNothing es = (file : ℕ) (e : Effect) → slice_get es file ≡ Some e → e.losses ≡ []
