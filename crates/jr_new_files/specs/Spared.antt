-- A rename gives nothing for a member that refers to nothing by the names that it takes or gives.
use Rattle.std.specs.Prelude.{◌≡◌, ℕ, List, false}
use Rattle.jr_text.specs.declared.spans.Span.{Span}
use Rattle.jr_table.specs.Keys.{ClassKey, FieldKey, MethodKey}
use Rattle.jr_table.specs.Decls.{
  MemberKey,
  head,
  class_decl,
  field_decl,
  method_decl,
  local_decl,
}
use Rattle.jr_table.specs.Rows.{Row}
use Rattle.jr_table.specs.Conditions.{AreRows}
use Rattle.jr_table.specs.Context.{Context}
use Rattle.jr_table.specs.Errors.{Part, class_part, member_part, Breaks}
use Rattle.jr_table.specs.declared.rules.Rule.{Rule}
use Rattle.jr_mentions.specs.Apart.{IsOther, IsCleanMember}
use Rattle.jr_mentions.specs.Alike.{LookAlike}
use Rattle.jr_mentions.specs.Avoids.{AvoidsPart}
use Rattle.jr_program_laws.specs.FoundTypes.{DeclaresFound}
use Rattle.jr_images.specs.Images.{Renaming, is_renamed, rows_to}
use Rattle.jr_images.specs.OneLocal.{HaveNoDots}
use Rattle.jr_images.specs.Spelling.{spelling}
use Rattle.jr_new_bodies.specs.Effects.{no_effect}
use Rattle.jr_new_files.specs.Files.{PartGives}

-- what a rename leaves alone in a member: no class gets another name, no local of the member does,
-- and of fields and methods only those of these names
pub record IsSpared (g : Renaming) (names : List (List ℕ)) (k : MemberKey) : Type 0 where
  pub class : (q : ClassKey) → is_renamed g (class_decl q) ≡ false
  pub local : (n : ℕ) → is_renamed g (local_decl (record { member = k; number = n })) ≡ false
  pub field : (q : FieldKey) → IsOther names q.name → is_renamed g (field_decl q) ≡ false
  pub method : (q : MethodKey) → IsOther names q.name → is_renamed g (method_decl q) ≡ false

-- the head of a class goes by the key of a head
abbrev pub IsKeyed : {A : Type 0} → MemberKey → Part A → Type 0
IsKeyed k (class_part c) = (q : ClassKey) × (k ≡ head q)
IsKeyed k (member_part x) = Unit {0}

-- a member that breaks no rule, and whose declared types are found, stays as it is
abbrev pub SparedGiveNothing : Type 0 → Type 0
SparedGiveNothing A = (tells : A → ℕ → Span) (rows : List Row) (super_at : MemberKey → ℕ)
    (g : Renaming) (names : List (List ℕ)) → AreRows rows → AreRows (rows_to g rows)
    → LookAlike names rows (rows_to g rows) → HaveNoDots rows → (k : MemberKey) (base : ℕ)
    (part : Part A) → IsKeyed k part → IsSpared g names k → IsCleanMember names k
    → AvoidsPart names part
    → ((at : ℕ) (r : Rule) → Breaks (λ m b. (tells m b).from) rows (super_at k) k base part at r
    → ⊥)
    → DeclaresFound rows k part
    → PartGives tells
    (spelling (λ m b. (tells m b).from) rows g (λ (c : Context). super_at c.member)) k base part
    no_effect
