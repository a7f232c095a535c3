-- That there is a test for null for each body, by the flags of its member's own locals.
use Rattle.std.specs.Prelude.{◌≡◌, ℕ, Bool}
use Rattle.jr_text.specs.declared.spans.Span.{Span}
use Rattle.jr_ast.specs.Tree as tree
use Rattle.jr_ast.specs.MemberTree as syntax
use Rattle.jr_grammar.specs.Layout.{itself}
use Rattle.jr_grammar.specs.StatementShape.{StmtsShaped}
use Rattle.jr_table.specs.Errors.{member_part}
use Rattle.jr_expr_types.specs.Slots.{find_type}
use Rattle.jr_bind.specs.Bounds.{decl_in}
use Rattle.jr_bind.specs.Programs.{Program, IsProgram}
use Rattle.jr_member_graphs.specs.OwnFlags.{own_flags}
use Rattle.jr_local.specs.Bodies.{Body, HasBody}
use Rattle.jr_local.specs.BodyFacts.{TellsNeverNull}
use Rattle.jr_local_footprints.specs.Givens.{IsMemberOf, FlagsTell}

-- By the flags of its member's own locals a value in a body is taken for never null exactly where
-- it is. Bodies are shaped: `jr_local_texts: ShapedBodies`.
abbrev pub OwnFlagsTell : Type 0
OwnFlagsTell = (p : Program Span) → IsProgram itself (λ m b. Unit {0}) p → (file : ℕ) (b : Body)
    (h : HasBody p file b) → StmtsShaped b.list → (base : ℕ) (m : syntax.Member Span)
    → h.member.part ≡ member_part m → IsMemberOf b base m
    → FlagsTell p b (own_flags itself p.rows b.key (decl_in b.bound.references)
    (find_type b.bound.types) base m) base m

-- a test that tells what is never null in the body
abbrev pub TestsAreThere : Type 0
TestsAreThere = (p : Program Span) → IsProgram itself (λ m b. Unit {0}) p → (file : ℕ) (b : Body)
    → HasBody p file b → StmtsShaped b.list
    → (test : tree.Exp Span → Bool) × TellsNeverNull p b test
