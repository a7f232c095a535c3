-- In which ways one site depends on another, and the dependences that they are.
use Rattle.std.specs.Prelude.{ℕ, ◌+◌, Bool, true, false, List, [], ◌∷◌, ◌++◌, length}
use Rattle.jr_sync.specs.declared.sites.DepKind.{DepKind}
use Rattle.jr_sync.specs.declared.sites.DepKind.TheVariants.{Order, Field, Sync, Flow, Anti, Output}
use Rattle.jr_dependences.specs.declared.dependence.Dependence.{Dependence}
use Rattle.jr_dependences.specs.declared.pairs.Kinds.{Kinds}
use Rattle.jr_dependences.specs.KindNames.{kind_name}

abbrev pub has : Kinds → DepKind → Bool
has kinds Order = kinds.order
has kinds Field = kinds.field
has kinds Sync = kinds.sync
has kinds Flow = kinds.flow
has kinds Anti = kinds.anti
has kinds Output = kinds.output

-- in no way, and in the first alone
abbrev pub none : Kinds
none = record {
  order = false;
  field = false;
  sync = false;
  flow = false;
  anti = false;
  output = false;
}

abbrev pub ordered : Kinds
ordered = record {
  order = true;
  field = false;
  sync = false;
  flow = false;
  anti = false;
  output = false;
}

-- what is listed of a kind
abbrev pub told_one : (holds : Bool) → DepKind → (first second : ℕ) → List Dependence
told_one true kind first second = record { kind = kind; first = first; second = second } ∷ []
told_one false kind first second = []

-- of all, in the order of kinds
abbrev pub told : Kinds → (first second : ℕ) → List Dependence
told kinds first second = ((((told_one kinds.order Order first second
    ++ told_one kinds.field Field first second) ++ told_one kinds.sync Sync first second)
    ++ told_one kinds.flow Flow first second) ++ told_one kinds.anti Anti first second)
    ++ told_one kinds.output Output first second

-- what these weigh, each so much and the bytes of its kind's name
abbrev pub one_weight : (holds : Bool) → DepKind → (each : ℕ) → ℕ
one_weight true kind each = each + length (kind_name kind)
one_weight false kind each = 0

abbrev pub all_weights : Kinds → (each : ℕ) → ℕ
all_weights kinds each = one_weight kinds.order Order each + one_weight kinds.field Field each
    + one_weight kinds.sync Sync each + one_weight kinds.flow Flow each
    + one_weight kinds.anti Anti each + one_weight kinds.output Output each
