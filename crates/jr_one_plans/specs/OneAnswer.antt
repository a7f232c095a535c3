-- What two programs of the same files have in common, and what is one in each of them: statements.
use Rattle.std.specs.Prelude.{◌≡◌, ℕ, List, Some, true, slice_get}
use Rattle.jr_text.specs.declared.spans.Span.{Span}
use Rattle.jr_sync.specs.declared.sites.Site.{Site}
use Rattle.jr_sync.specs.declared.sites.DepKind.{DepKind}
use Rattle.jr_sync.specs.Crossing.{IsCrossing}
use Rattle.jr_grammar.specs.Layout.{itself}
use Rattle.jr_table.specs.Keys.{ClassKey, MethodKey}
use Rattle.jr_table.specs.Decls.{MemberKey}
use Rattle.jr_table.specs.Rows.{Row}
use Rattle.jr_table.specs.Errors.{Part}
use Rattle.jr_expr_types.specs.Slots.{find_type}
use Rattle.jr_members.specs.WrittenMembers.{WrittenMember, written_members}
use Rattle.jr_members.specs.WrittenLaws.{IsWritten}
use Rattle.jr_bind.specs.Bounds.{Bound, decl_in}
use Rattle.jr_bind.specs.Programs.{Program, IsProgram, units_of}
use Rattle.jr_bind.specs.SuperPlaces.{writes_super}
use Rattle.jr_program_laws.specs.FileParts.{begins}
use Rattle.jr_images.specs.Regions.{Images}
use Rattle.jr_plan.specs.Reasons.{IsFirstChange}

-- ---- programs of the same files

-- of a member the same is known: what its references mean, and which types its expressions have
pub record AnswerAlike (b c : Bound) : Type 0 where
  pub references : (at : ℕ) → decl_in b.references at ≡ decl_in c.references at
  pub types : (path : List ℕ) → find_type b.types path ≡ find_type c.types path

-- They have the same rows, each written `super(..)` at one place, and of each written member the
-- same is known.
pub record AreOneProgram (p q : Program Span) : Type 0 where
  pub rows : p.rows ≡ q.rows
  pub supers : (file : ℕ) (k : MemberKey) (base : ℕ) (part : Part Span)
      → IsWritten begins (units_of p) file k base part → writes_super part ≡ true
      → p.super_at k ≡ q.super_at k
  pub bounds : (i j : ℕ) (w : WrittenMember Span) (b c : Bound)
      → slice_get (written_members begins p.rows (units_of p)) i ≡ Some w
      → slice_get (written_members begins p.rows (units_of p)) j ≡ Some w
      → slice_get p.bounds i ≡ Some b → slice_get q.bounds j ≡ Some c → AnswerAlike b c

abbrev pub FilesHaveOneProgram : Type 0
FilesHaveOneProgram = (p q : Program Span) → IsProgram itself (λ m b. Unit {0}) p
    → IsProgram itself (λ m b. Unit {0}) q → p.files ≡ q.files → AreOneProgram p q

-- ---- one answer

-- of changes of dispatch one is the first, whatever becomes of keys and rows
abbrev pub OneFirstChange : Type 0
OneFirstChange = (rows : List Row) (m : Images) (k l : ClassKey) (i j : MethodKey)
    → IsFirstChange rows m k i → IsFirstChange rows m l j → (k ≡ l) × (i ≡ j)

-- two pieces that may not change places lose one pair of sites, for one kind of dependence
abbrev pub PiecesCrossOnce : (K L : Type 0) → Type 0
PiecesCrossOnce K L = (first second : List (Site K L)) (i j m n : ℕ) (k l : DepKind)
    → IsCrossing (λ (a b : K). a ≡ b) (λ (a b : L). a ≡ b) first second (Some (i, j, k))
    → IsCrossing (λ (a b : K). a ≡ b) (λ (a b : L). a ≡ b) first second (Some (m, n, l))
    → (i ≡ m) × (j ≡ n) × (k ≡ l)
