-- What is bound of one written member. Only private clauses cite this.
use Rattle.std.specs.Prelude.{◌≡◌, ℕ, ◌⊎◌, ◌↔◌, List, [], ◌∷◌, ◌++◌, Some}
use Rattle.jr_text.specs.declared.spans.Span.{Span}
use Rattle.jr_lex.specs.declared.items.Item.{Item}
use Rattle.jr_table.specs.Decls.{Decl}
use Rattle.jr_table.specs.Rows.{Row}
use Rattle.jr_table.specs.Entries.{number_of}
use Rattle.jr_table.specs.declared.rules.Rule.{Rule}
use Rattle.jr_members.specs.WrittenMembers.{WrittenMember, decl_of_member}
use Rattle.jr_bind.specs.Bounds.{FitsWhole, BindsOnce}
use Rattle.jr_program_laws.specs.FileParts.{begins}
use Rattle.jr_program.specs.declared.bounds.MemberBound.{MemberBound}
use Rattle.jr_program.specs.Members.{AnyOf, MemberRefers, MemberErrs, WrittenRefers, WrittenErrs}
use Rattle.jr_program.specs.Members.{IsEachBound}

module _ (rows : List Row) (super_at : ℕ) (w : WrittenMember Span) where
  pub record CanBindAt : Type 0 where
    pub row : number_of rows (decl_of_member w.key) ≡ Some w.row
    pub fits : FitsWhole begins (λ m base. Unit {0}) w.base w.part
    pub once : BindsOnce begins rows super_at w.key w.base w.part

-- it is as it was, or something of this file stands behind it
abbrev pub GrowsBy : (file : ℕ) → (old new : List MemberBound) → Type 0
GrowsBy file old new =
    (new ≡ old) ⊎ ((b : MemberBound) × (b.file ≡ file) × (new ≡ old ++ b ∷ []))

-- the new list knows what the old one does, and this member
pub record AddsMember (rows : List Row) (files : List (List Item)) (w : WrittenMember Span)
    (old new : List MemberBound) : Type 0 where
  pub references : (file at : ℕ) (d : Decl) → AnyOf (MemberRefers file at d) new
      ↔ (AnyOf (MemberRefers file at d) old ⊎ WrittenRefers rows files file at d w)
  pub errors : (file at : ℕ) (r : Rule) → AnyOf (MemberErrs file at r) new
      ↔ (AnyOf (MemberErrs file at r) old ⊎ WrittenErrs rows files file at r w)
  pub behind : GrowsBy w.file old new
  pub each : (b : MemberBound) × IsEachBound rows files w b × (new ≡ old ++ b ∷ [])
