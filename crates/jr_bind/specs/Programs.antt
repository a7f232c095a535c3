-- A whole program without faults and errors, and what is known of it.
use Rattle.std.specs.Prelude.{
  ◌≡◌,
  ℕ,
  ◌<◌,
  ◌^◌,
  List,
  [],
  ◌∷◌,
  Some,
  true,
  map,
  length,
  slice_get,
  Contains,
}
use Rattle.jr_text.specs.declared.spans.Span.{Span}
use Rattle.jr_lex.specs.declared.items.Item.{Item}
use Rattle.jr_lex.specs.Lexes.{Lexes}
use Rattle.jr_ast.specs.MemberTree as syntax
use Rattle.jr_grammar.specs.Reads.{ReadsWithSpans}
use Rattle.jr_table.specs.Decls.{MemberKey}
use Rattle.jr_table.specs.Rows.{Row}
use Rattle.jr_table.specs.Conditions.{AreRows}
use Rattle.jr_table.specs.DeclaredItems.{declarations_of}
use Rattle.jr_table.specs.ProgramRows.{AreProgramRows}
use Rattle.jr_table.specs.Faults.{IsClean}
use Rattle.jr_table.specs.Errors.{part_mark, IsSound}
use Rattle.jr_members.specs.Fitting.{begins_by, UnitsFit}
use Rattle.jr_members.specs.WrittenMembers.{WrittenMember, written_members}
use Rattle.jr_bind.specs.Bounds.{Bound, IsBound, FitsWhole}
use Rattle.jr_bind.specs.SuperPlaces.{IsSuperAt, writes_super}

pub record File (A : Type 0) : Type 0 where
  pub name : List ℕ
  pub text : List ℕ
  pub unit : syntax.Unit A

pub record Program (A : Type 0) : Type 0 where
  pub files : List (File A)
  pub rows : List Row
  -- where the word `super` of a constructor's written `super(..)` stands
  pub super_at : MemberKey → ℕ
  -- what binding knows of each written member, in file and text order
  pub bounds : List Bound

module _ {A : Type 0} where
  abbrev pub units_of : Program A → List (syntax.Unit A)
  units_of p = map (λ (f : File A). f.unit) p.files

-- `tells m base` is the span of a node with the mark m whose parent begins at base
module _ {A : Type 0} (tells : A → ℕ → Span) (Fits : A → ℕ → Type 0) where
  abbrev pub members_of : Program A → List (WrittenMember A)
  members_of p = written_members (begins_by tells) p.rows (units_of p)

  -- one each, in the same order
  abbrev pub AreBound : List Row → (MemberKey → ℕ) → List (WrittenMember A) → List Bound → Type 0
  AreBound rows super_at [] [] = Unit {0}
  AreBound rows super_at (w ∷ ws) (b ∷ bs) =
      IsBound (begins_by tells) rows (super_at w.key) w.key w.base w.part b
      × AreBound rows super_at ws bs
  AreBound rows super_at _ _ = ⊥

  -- the member's written `super(..)`, if it has one, stands where the program says
  abbrev pub HasSuperPlace : Program A → WrittenMember A → Type 0
  HasSuperPlace p w = writes_super w.part ≡ true → (f : File A)
      → slice_get p.files w.file ≡ Some f → (items : List Item) → Lexes f.text items
      → IsSuperAt items (tells (part_mark w.part) w.base) (p.super_at w.key)

  pub record IsProgram (p : Program A) : Type 0 where
    -- each unit is what its file's text reads as, and each mark tells the span of its node's tokens
    pub reads : (number : ℕ) (f : File A) → slice_get p.files number ≡ Some f
        → ReadsWithSpans tells f.text f.unit
    pub few : length p.files < 2 ^ 32
    -- marks tell places that fit
    pub heads_fit : UnitsFit (begins_by tells) Fits (units_of p)
    pub members_fit : (w : WrittenMember A) → Contains (members_of p) w
        → FitsWhole (begins_by tells) Fits w.base w.part
    -- the rows are those of the files, which have no fault of classes and members
    pub are_rows : AreRows p.rows
    pub rows : AreProgramRows (declarations_of (begins_by tells) (units_of p)) p.rows
    pub clean : IsClean [] (declarations_of (begins_by tells) (units_of p))
    -- no member breaks a rule
    pub sound : IsSound (begins_by tells) p.rows p.super_at (units_of p)
    pub supers : (w : WrittenMember A) → Contains (members_of p) w → HasSuperPlace p w
    pub bound : AreBound p.rows p.super_at (members_of p) p.bounds
