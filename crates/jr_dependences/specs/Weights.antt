-- What dependences weigh together.
use Rattle.std.specs.Prelude.{◌≡◌, ◌↔◌, ℕ, ◌+◌, List, length, slice_index, AllPairs, Contains}
use Rattle.std.specs.List.{sum_by}
use Rattle.jr_dependences.specs.declared.dependence.Dependence.{Dependence}
use Rattle.jr_dependences.specs.KindNames.{kind_name}
use Rattle.jr_dependences.specs.Listed.{IsBefore, IsListed}

-- of one: so much, what its second site does, and the bytes of its kind's name
abbrev pub weight : (each : ℕ) → (seconds : List ℕ) → Dependence → ℕ
weight each seconds d = (each + slice_index seconds d.second) + length (kind_name d.kind)

-- of all that are in question and hold
abbrev pub Weighs : (InQuestion Holds : Dependence → Type 0) → (each : ℕ) → (seconds : List ℕ)
    → (total : ℕ) → Type 0
Weighs InQuestion Holds each seconds total = (list : List Dependence)
    × IsListed InQuestion Holds list × (total ≡ sum_by (weight each seconds) list)

-- of one: so much, what its two sites do, and the bytes of its kind's name
abbrev pub pair_weight : (each : ℕ) → (lens : List ℕ) → Dependence → ℕ
pair_weight each lens d =
    weight (each + slice_index lens d.first) lens d

-- of all that are in question and hold
abbrev pub WeighTogether : (InQuestion Holds : Dependence → Type 0) → (each : ℕ) → (lens : List ℕ)
    → (total : ℕ) → Type 0
WeighTogether InQuestion Holds each lens total = (list : List Dependence)
    × IsListed InQuestion Holds list × (total ≡ sum_by (pair_weight each lens) list)

-- of all that hold, in order
pub record AllWeigh (Holds : Dependence → Type 0) (each : ℕ) (lens : List ℕ) (total : ℕ)
    : Type 0 where
  pub list : List Dependence
  pub ordered : AllPairs IsBefore list
  pub exact : (d : Dependence) → (Contains list d ↔ Holds d)
  pub is : total ≡ sum_by (pair_weight each lens) list
