-- An expression of a member's body, and whether it only reads locals.
use Rattle.std.specs.Prelude.{◌≡◌, ℕ, Bool, true, false}
use Rattle.jr_text.specs.declared.spans.Span.{Span}
use Rattle.jr_ast.specs.Tree as tree
use Rattle.jr_ast.specs.MemberTree as syntax
use Rattle.jr_grammar.specs.Layout.{itself}
use Rattle.jr_table.specs.Errors.{member_part}
use Rattle.jr_bind.specs.Bounds.{Bound}
use Rattle.jr_bind.specs.Programs.{Program, IsProgram}
use Rattle.jr_pieces.specs.Ways.{ListWay}
use Rattle.jr_bodies.specs.Bodies.{Body, HasBody}
use Rattle.jr_bodies.specs.MemberCode.{Code}
use Rattle.jr_local.specs.Crossing.{DoesReadAlone}

module _ (p : Program Span) where
  -- a member of a sound program has the code, in which a way leads to the expression
  pub record HasValue (bound : Bound) (m : syntax.Member Span) (c : Code) (e : tree.Exp Span)
      : Type 0 where
    pub program : IsProgram itself (λ m b. Unit {0}) p
    pub file : ℕ
    pub body : Body
    pub has : HasBody p file body
    pub part : has.member.part ≡ member_part m
    pub bound_is : body.bound ≡ bound
    pub list : body.list ≡ c.list
    pub front : body.front ≡ c.front
    pub way : ListWay e body.list

  abbrev pub TellsPlain : {bound : Bound} → {m : syntax.Member Span} → {c : Code}
      → {e : tree.Exp Span} → HasValue bound m c e → Bool → Type 0
  TellsPlain {bound} {m} {c} {e} x true = DoesReadAlone p x.file x.body e
  TellsPlain {bound} {m} {c} {e} x false = DoesReadAlone p x.file x.body e → ⊥
