-- Laws of written members, as statements.
use Rattle.std.specs.Prelude.{◌≡◌, ℕ, Contains}
use Rattle.jr_text.specs.declared.spans.Span.{Span}
use Rattle.jr_grammar.specs.Layout.{itself}
use Rattle.jr_table.specs.Keys.{ClassKey}
use Rattle.jr_table.specs.Decls.{MemberKey, head}
use Rattle.jr_table.specs.Errors.{Part, class_part, member_part, part_mark, Breaks}
use Rattle.jr_table.specs.declared.rules.Rule.{Rule}
use Rattle.jr_members.specs.WrittenMembers.{WrittenMember, written_members}
use Rattle.jr_bind.specs.Bounds.{Bound, IsBound}
use Rattle.jr_bind.specs.Programs.{Program, IsProgram, units_of}
use Rattle.jr_program_laws.specs.FileParts.{begins}
use Rattle.jr_program_laws.specs.FoundTypes.{DeclaresFound}
use Rattle.jr_new_files.specs.Ready.{Anywhere, PartReady}

-- the head of a class goes by the key of a head
abbrev pub HasHeadKey : MemberKey → Part Span → Type 0
HasHeadKey k (class_part c) = (q : ClassKey) × (k ≡ head q)
HasHeadKey k (member_part x) = Unit {0}

-- it breaks no rule, and the types that it declares are found
pub record IsSoundMember (p : Program Span) (w : WrittenMember Span) : Type 0 where
  pub sound : (at : ℕ) (r : Rule)
      → Breaks begins p.rows (p.super_at w.key) w.key w.base w.part at r → ⊥
  pub keyed : HasHeadKey w.key w.part
  pub found : DeclaresFound p.rows w.key w.part

-- so does each written member of a program
abbrev pub WrittenAreSound : Type 0
WrittenAreSound = (p : Program Span) → IsProgram itself Anywhere p → (w : WrittenMember Span)
    → Contains (written_members begins p.rows (units_of p)) w → IsSoundMember p w

-- and has all that a walk over it rests on, with what binding knows of it
abbrev pub WrittenAreReady : Type 0
WrittenAreReady = (p : Program Span) → IsProgram itself Anywhere p → (w : WrittenMember Span)
    → Contains (written_members begins p.rows (units_of p)) w → (b : Bound)
    → IsBound begins p.rows (p.super_at w.key) w.key w.base w.part b
    → PartReady p w.file p.rows b (part_mark w.part).from w.key w.part
