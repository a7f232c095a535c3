-- The expression that a span selects in a file: member by member, and in all of it.
use Rattle.std.specs.Prelude.{◌≡◌, ℕ, Bool, List, Option, Some, None, slice_get}
use Rattle.jr_text.specs.declared.spans.Span.{Span}
use Rattle.jr_ast.specs.Tree as tree
use Rattle.jr_table.specs.Keys.{Ty}
use Rattle.jr_table.specs.Decls.{MemberKey}
use Rattle.jr_table.specs.Errors.{Part}
use Rattle.jr_members.specs.WrittenMembers.{WrittenMember, written_members}
use Rattle.jr_bind.specs.Bounds.{Bound}
use Rattle.jr_bind.specs.Programs.{Program, units_of}
use Rattle.jr_pieces.specs.Ways.{ListWay}
use Rattle.jr_bodies.specs.MemberCode.{Code, code_of}
use Rattle.jr_bodies.specs.Bodies.{begins, Body, HasBody}
use Rattle.jr_bodies.specs.CodedBodies.{body_with}
use Rattle.jr_local_finds.specs.SoughtValues.{Value, Suits, IsValue, HasNoValue}

-- an expression of the code of the written member of a number
pub record Chosen : Type 0 where
  pub member : ℕ
  pub code : Code
  pub value : Value

abbrev pub members_of : Program Span → List (WrittenMember Span)
members_of p = written_members begins p.rows (units_of p)

-- ---- member by member

module _ (s : Span) (number : ℕ) (b : Bound) where
  -- of the code of the member
  abbrev pub IsOfCode : Code → Option Chosen → Type 0
  IsOfCode c None = HasNoValue c.list c.front b.types s
  IsOfCode c (Some x) = (x.code ≡ c) × (x.member ≡ number)
      × IsValue x.code.list x.code.front b.types s x.value

  -- of the member, which may have no code
  abbrev pub IsOfPart : Part Span → Option Chosen → Type 0
  IsOfPart part None =
      (c : Code) → code_of part ≡ Some c → HasNoValue c.list c.front b.types s
  IsOfPart part (Some x) = (code_of part ≡ Some x.code) × (x.member ≡ number)
      × IsValue x.code.list x.code.front b.types s x.value

module _ (p : Program Span) (file : ℕ) (s : Span) where
  -- of the written member, if it is one of the file
  abbrev pub IsOfWritten : (number : ℕ) → WrittenMember Span → Option Chosen → Type 0
  IsOfWritten number w None = w.file ≡ file → (b : Bound) → slice_get p.bounds number ≡ Some b
      → (c : Code) → code_of w.part ≡ Some c → HasNoValue c.list c.front b.types s
  IsOfWritten number w (Some x) = (w.file ≡ file) × (b : Bound)
      × (slice_get p.bounds number ≡ Some b) × (code_of w.part ≡ Some x.code)
      × (x.member ≡ number) × IsValue x.code.list x.code.front b.types s x.value

  -- a body of the file has it, that of the member of the number
  pub record HasValue (x : Chosen) : Type 0 where
    pub key : MemberKey
    pub is_static : Bool
    pub base : ℕ
    pub bound : Bound
    pub has : HasBody p file (body_with key is_static base x.code bound)
    pub number : has.number ≡ x.member
    pub value : IsValue x.code.list x.code.front bound.types s x.value

  -- no expression of the body suits
  abbrev pub Lacks : Body → Type 0
  Lacks b = (f : tree.Exp Span) (way : ListWay f b.list) (t : Ty)
      → Suits b.list b.front b.bound.types s way t → ⊥

  -- the member of the number has it
  abbrev pub IsInMember : (number : ℕ) → Option Chosen → Type 0
  IsInMember number None = (b : Body) (h : HasBody p file b) → h.number ≡ number → Lacks b
  IsInMember number (Some x) = HasValue x

  -- ---- in all of the file

  abbrev pub LacksValues : Type 0
  LacksValues = (b : Body) → HasBody p file b → Lacks b
