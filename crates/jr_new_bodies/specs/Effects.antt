-- What comes of a part that is rewritten, besides its new tree.
use Rattle.std.specs.Prelude.{◌≡◌, ℕ, ◌+◌, List, [], ◌++◌}
use Rattle.jr_rewrite.specs.Respellings.{Loss, Change}
use Rattle.jr_rewrite.specs.Rewritten.{Rewritten}

pub record Effect : Type 0 where
  -- in text order
  pub changes : List Change
  pub respelled : ℕ
  pub losses : List Loss

abbrev pub no_effect : Effect
no_effect = record { changes = []; respelled = 0; losses = [] }

-- of two parts, one behind the other
abbrev pub both : Effect → Effect → Effect
both e f = record {
  changes = e.changes ++ f.changes;
  respelled = e.respelled + f.respelled;
  losses = e.losses ++ f.losses;
}

abbrev pub effect_of : {T : Type 0} → Rewritten T → Effect
effect_of o = record { changes = o.changes; respelled = o.respelled; losses = o.losses }

-- what was gathered has become this: a part was rewritten as the property says
abbrev pub Gathers : {T : Type 0} → (Rewritten T → Type 0) → (old new : Effect) → Type 0
Gathers P old new = (o : Rewritten _) × P o × (new ≡ both old (effect_of o))
