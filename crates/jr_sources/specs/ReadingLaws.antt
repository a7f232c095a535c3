-- What holds of each text and what it reads as.
use Rattle.std.specs.Prelude.{◌≡◌, ℕ, List}
use Rattle.jr_text.specs.declared.spans.Span.{Span}
use Rattle.jr_ast.specs.MemberTree.{Unit as UnitTree}
use Rattle.jr_sources.specs.declared.faults.ReadingFault.{ReadingFault}
use Rattle.jr_sources.specs.ReadingFaults.{HasFault, ReadsAs}

pub record HasOneReading : Type 0 where
  pub unit : (text : List ℕ) (u v : UnitTree Span) (w x : ℕ) → ReadsAs text u w → ReadsAs text v x
      → (u ≡ v) × (w ≡ x)
  pub fault : (text : List ℕ) (f g : ReadingFault) → HasFault text f → HasFault text g → f ≡ g
  pub never_both : (text : List ℕ) (u : UnitTree Span) (w : ℕ) (f : ReadingFault)
      → ReadsAs text u w → HasFault text f → ⊥
