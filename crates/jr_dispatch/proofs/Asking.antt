-- Only methods that have one of the names that change are parted from others.
use Rattle.std.proofs.Common.{◌≡◌, ◌≢◌, ℕ, ◌<◌, List, Some, Bool, true, false, refl, sym, ap, ◌∙◌, inl, inr}
use Rattle.std.specs.Prelude.{◌⊎◌, slice_get}
use Rattle.std.specs.Str.{bytes_eq}
use Rattle.std.specs.Cmp.Lexicographic.{bytes_decides}
use Rattle.jr_table.specs.declared.entries.Kind.{Kind}
use Rattle.jr_table.specs.declared.entries.Entry.{Entry}
use Rattle.jr_table.specs.Chains.{In}
use Rattle.jr_dispatch.specs.Changes.{HasNames, IsParted}
use Rattle.jr_dispatch.specs.Moves.{IsNamed, GoesFrom, AreMoves, is_asked}
use Rattle.jr_dispatch.proofs.Parting.{Programs, HasPartner, partner}
use Rattle.jr_dispatch.proofs.Moving.{asked_is}

-- equal or not
name_or_not : (a b : List ℕ) → (a ≡ b) ⊎ (a ≢ b)
name_or_not a b = of (bytes_eq a b) refl
  where
    of : (t : Bool) → bytes_eq a b ≡ t → (a ≡ b) ⊎ (a ≢ b)
    of true e = inl ((bytes_decides a b).0 e)
    of false e = inr (λ s. let t = (bytes_decides a b).1 s in absurd cc)

module _ (old new : List Entry) (ps : Programs old new) (n : ℕ) (within : (j : ℕ) (e : Entry) → slice_get old j ≡ Some e → j < n)
    (moves : List ℕ) (are : AreMoves old new n moves) where
  goes : (was now : List ℕ) (params : List Kind) (c j : ℕ) → HasNames old new was now params c j → GoesFrom old new was now j
  goes was now params c j h = record {
    before = record { row = h.before.declared.row; stands = h.before.declared.stands; named = h.before.declared.named };
    after = record { row = h.after.declared.row; stands = h.after.declared.stands; named = h.after.declared.named };
  }

  moved : (was now : List ℕ) (params : List Kind) (c j : ℕ) → HasNames old new was now params c j → was ≢ now → (i : ℕ) × In moves i × GoesFrom old new was now i
  moved was now params c j h differs = are j was now (within j h.before.declared.row h.before.declared.stands) (goes was now params c j h) differs

  named : (rows : List Entry) (a b : List ℕ) (i : ℕ) → IsNamed rows a i → a ≡ b → IsNamed rows b i
  named rows a b i h e = record { row = h.row; stands = h.stands; named = h.named ∙ e }

  pub parted_is_asked : (c j : ℕ) (h : IsParted old new c j) → is_asked old new moves h.was ≡ true
  parted_is_asked c j h = own (name_or_not h.was h.now)
    where
      other : (p : HasPartner old new ps h.was h.now h.params h.differs.at) → h.was ≡ h.now → p.before ≢ p.after
          → (((p.before ≡ h.was) × (p.after ≢ h.now)) ⊎ ((p.after ≡ h.now) × (p.before ≢ h.was))) → is_asked old new moves h.was ≡ true
      other p same differs (inl (s, apart)) =
          let m = moved p.before p.after h.params h.differs.at p.row p.names differs in
          asked_is old new moves h.was m.0 m.1 (inl (named old p.before h.was m.0 m.2.before s))
      other p same differs (inr (s, apart)) =
          let m = moved p.before p.after h.params h.differs.at p.row p.names differs in
          asked_is old new moves h.was m.0 m.1 (inr (named new p.after h.was m.0 m.2.after (s ∙ sym same)))

      differ : (p : HasPartner old new ps h.was h.now h.params h.differs.at) → h.was ≡ h.now
          → (((p.before ≡ h.was) × (p.after ≢ h.now)) ⊎ ((p.after ≡ h.now) × (p.before ≢ h.was))) → p.before ≢ p.after
      differ p same (inl (s, apart)) = λ e. apart (sym e ∙ s ∙ same)
      differ p same (inr (s, apart)) = λ e. apart (e ∙ s ∙ sym same)

      by : HasPartner old new ps h.was h.now h.params h.differs.at → h.was ≡ h.now → is_asked old new moves h.was ≡ true
      by p same = other p same (differ p same p.apart) p.apart

      own : ((h.was ≡ h.now) ⊎ (h.was ≢ h.now)) → is_asked old new moves h.was ≡ true
      own (inl same) = by (partner old new ps h.was h.now h.params h.differs.at h.differs.differs) same
      own (inr differs) = let m = moved h.was h.now h.params c j h.names differs in asked_is old new moves h.was m.0 m.1 (inl m.2.before)
