-- Where a body of a file declares a local: member by member, and in all of it.
use Rattle.std.specs.Prelude.{◌≡◌, ℕ, Bool, List, length, Option, Some, None}
use Rattle.jr_text.specs.declared.spans.Span.{Span}
use Rattle.jr_ast.specs.Tree as tree
use Rattle.jr_ast.specs.StatementTree as statement
use Rattle.jr_table.specs.Decls.{LocalKey}
use Rattle.jr_table.specs.Errors.{Part}
use Rattle.jr_members.specs.WrittenMembers.{WrittenMember, written_members}
use Rattle.jr_bind.specs.Bounds.{Bound}
use Rattle.jr_bind.specs.Programs.{Program, units_of}
use Rattle.jr_pieces.specs.Ways.{ListWay}
use Rattle.jr_pieces.specs.Standings.{Standing}
use Rattle.jr_pieces.specs.Nearest.{nearest}
use Rattle.jr_local_search.specs.Declarations.{Declaration}
use Rattle.jr_local_search.specs.DeclarationLaws.{StandsDeclared}
use Rattle.jr_bodies.specs.MemberCode.{Code, code_of}
use Rattle.jr_bodies.specs.Bodies.{begins, Body, HasBody}
use Rattle.jr_bodies.specs.CodedBodies.{body_with}

-- the number of the written member, its code, and the list from the declaration on
pub record DeclaredLocal : Type 0 where
  pub member : ℕ
  pub code : Code
  pub list : statement.Stmts Span

abbrev pub members_of : Program Span → List (WrittenMember Span)
members_of p = written_members begins p.rows (units_of p)

-- ---- exact

abbrev pub with_list : (member : ℕ) → Code → Option (statement.Stmts Span) → Option DeclaredLocal
with_list m c None = None
with_list m c (Some b) = Some (record { member = m; code = c; list = b })

abbrev pub listed : (member : ℕ) → Code → Option Declaration → Option DeclaredLocal
listed m c None = None
listed m c (Some d) = with_list m c d.list

-- ---- member by member

-- no way from the list leads to the initializer of the local of the number, where the first local
-- of the list has the number `next`
abbrev pub IsUndeclared : statement.Stmts Span → (next number : ℕ) → Type 0
IsUndeclared b next n = (f : tree.Exp Span) (way : ListWay f b) (p : Standing) → p.next ≡ next
    → (mark : Span) (is_final : Bool) (type : tree.TypeName Span) (word : tree.Word Span)
    → (nearest begins p way).stmt ≡ statement.local mark is_final type word f
    → (nearest begins p way).at.next ≡ n → ⊥

-- it stands declared in the code
abbrev pub StandsIn : (local : ℕ) → DeclaredLocal → Type 0
StandsIn n x = StandsDeclared x.code.list (length x.code.params) n x.list

module _ (member local : ℕ) where
  abbrev pub IsOfCode : Code → Option DeclaredLocal → Type 0
  IsOfCode c None = IsUndeclared c.list (length c.params) local
  IsOfCode c (Some x) = (x.code ≡ c) × (x.member ≡ member) × StandsIn local x

  abbrev pub IsOfPart : Part Span → Option DeclaredLocal → Type 0
  IsOfPart part None =
      (c : Code) → code_of part ≡ Some c → IsUndeclared c.list (length c.params) local
  IsOfPart part (Some x) =
      (code_of part ≡ Some x.code) × (x.member ≡ member) × StandsIn local x

module _ (file number : ℕ) (k : LocalKey) where
  abbrev pub IsOfWritten : WrittenMember Span → Option DeclaredLocal → Type 0
  IsOfWritten w None = w.file ≡ file → w.key ≡ k.member → (c : Code) → code_of w.part ≡ Some c
      → IsUndeclared c.list (length c.params) k.number
  IsOfWritten w (Some x) = (w.file ≡ file) × (w.key ≡ k.member) × (code_of w.part ≡ Some x.code)
      × (x.member ≡ number) × StandsIn k.number x

module _ (p : Program Span) (file : ℕ) (k : LocalKey) where
  -- a body of the file declares it there
  pub record IsThere (x : DeclaredLocal) : Type 0 where
    pub is_static : Bool
    pub base : ℕ
    pub bound : Bound
    pub has : HasBody p file (body_with k.member is_static base x.code bound)
    pub number : has.number ≡ x.member
    pub stands : StandsIn k.number x

  -- the body doesn't declare it
  abbrev pub Lacks : Body → Type 0
  Lacks b = b.key ≡ k.member → IsUndeclared b.list b.at.next k.number

  abbrev pub IsInMember : (number : ℕ) → Option DeclaredLocal → Type 0
  IsInMember number None = (b : Body) (h : HasBody p file b) → h.number ≡ number → Lacks b
  IsInMember number (Some x) = IsThere x

  -- no body of the file does
  abbrev pub IsNowhere : Type 0
  IsNowhere = (b : Body) → HasBody p file b → Lacks b
