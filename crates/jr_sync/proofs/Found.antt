-- What the three tests find of two sites.
use Rattle.std.proofs.Common.{inl, inr}
use Rattle.jr_sync.specs.declared.sites.Site.{Site}
use Rattle.jr_sync.specs.declared.sites.DepKind.{DepKind}
use Rattle.jr_sync.specs.declared.sites.DepKind.TheVariants.{Order, Field, Sync, Flow, Anti, Output}
use Rattle.jr_sync.specs.declared.pieces.Test.TheVariants.{Wild, Accesses, Locals}
use Rattle.jr_sync.specs.Relations.{Related}
use Rattle.jr_sync.specs.Crossing.{Finds}

module _ {K L : Type 0} (F : K → K → Type 0) (M : L → L → Type 0) (a b : Site K L) where
  pub none_wild : (Related F M Order a b → ⊥) → (kind : DepKind) → Finds F M Wild kind a b → ⊥
  none_wild free kind h = free h.1

  pub none_accesses : (Related F M Field a b → ⊥) → (Related F M Sync a b → ⊥) → (kind : DepKind) → Finds F M Accesses kind a b → ⊥
  none_accesses apart free kind (inl h) = apart h.1
  none_accesses apart free kind (inr h) = free h.2

  pub none_locals : (Related F M Flow a b → ⊥) → (Related F M Anti a b → ⊥) → (Related F M Output a b → ⊥) → (kind : DepKind) → Finds F M Locals kind a b → ⊥
  none_locals flow anti output kind (inl h) = flow h.1
  none_locals flow anti output kind (inr (inl h)) = anti h.1
  none_locals flow anti output kind (inr (inr h)) = output h.1
