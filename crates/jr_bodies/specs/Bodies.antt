-- The bodies of methods and constructors, each with what is known where it begins. Initializers of
-- fields and the arguments of a written `super(..)` stand in none.
use Rattle.std.specs.Prelude.{◌≡◌, ℕ, ◌+◌, Bool, Option, Some, None, List, length, false, slice_get}
use Rattle.jr_text.specs.declared.spans.Span.{Span}
use Rattle.jr_ast.specs.StatementTree as statement
use Rattle.jr_ast.specs.MemberTree as syntax
use Rattle.jr_grammar.specs.Layout.{itself}
use Rattle.jr_table.specs.Decls.{MemberKey}
use Rattle.jr_table.specs.HeadRules.{with_parameters, is_static_member}
use Rattle.jr_table.specs.Errors.{Part, class_part, member_part}
use Rattle.jr_members.specs.Fitting.{begins_by}
use Rattle.jr_members.specs.WrittenMembers.{WrittenMember, written_members}
use Rattle.jr_bind.specs.Bounds.{Bound}
use Rattle.jr_bind.specs.Programs.{Program, units_of}
use Rattle.jr_cfg.specs.MemberRoutes.{method_front, constructor_front, arguments}
use Rattle.jr_pieces.specs.Standings.{Standing}

abbrev pub begins : Span → ℕ → ℕ
begins = begins_by itself

pub record Body : Type 0 where
  pub key : MemberKey
  -- what is known where the list begins; its parent is the member
  pub at : Standing
  pub list : statement.Stmts Span
  -- the number of its first statement among the member's children
  pub front : ℕ
  -- what binding knows of the member
  pub bound : Bound

-- what is known where a member's body begins
abbrev pub entry : MemberKey → (is_static : Bool) → (base : ℕ) → List (syntax.Param Span) → Standing
entry k is_static base ps = record {
  next = length ps;
  context = with_parameters k is_static ps;
  base = base;
}

abbrev pub body_of_member : MemberKey → (base : ℕ) → syntax.Member Span → Bound → Option Body
body_of_member k base (syntax.field m mods t w init) b = None
body_of_member k base (syntax.method m mods t w ps body) b = Some (record {
  key = k;
  at = entry k (is_static_member begins mods) (begins m base) ps;
  list = body;
  front = method_front itself mods t ps;
  bound = b;
})
body_of_member k base (syntax.constructor m mods w ps args body) b = Some (record {
  key = k;
  at = entry k false (begins m base) ps;
  list = body;
  front = constructor_front itself mods ps + arguments itself args;
  bound = b;
})
body_of_member k base (syntax.inner m c) b = None

abbrev pub body_of : MemberKey → (base : ℕ) → Part Span → Bound → Option Body
body_of k base (class_part c) b = None
body_of k base (member_part x) b = body_of_member k base x b

-- a member that the file writes has the body
pub record HasBody (p : Program Span) (file : ℕ) (b : Body) : Type 0 where
  pub number : ℕ
  pub member : WrittenMember Span
  pub written : slice_get (written_members begins p.rows (units_of p)) number ≡ Some member
  pub in_file : member.file ≡ file
  pub bound : slice_get p.bounds number ≡ Some b.bound
  pub is : body_of member.key member.base member.part b.bound ≡ Some b
