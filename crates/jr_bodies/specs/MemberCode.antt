-- The code of a method or constructor.
use Rattle.std.specs.Prelude.{ℕ, ◌+◌, List, Option, Some, None}
use Rattle.jr_text.specs.declared.spans.Span.{Span}
use Rattle.jr_ast.specs.Tree as tree
use Rattle.jr_ast.specs.StatementTree as statement
use Rattle.jr_ast.specs.MemberTree as syntax
use Rattle.jr_grammar.specs.Layout.{itself}
use Rattle.jr_table.specs.Errors.{Part, class_part, member_part}
use Rattle.jr_cfg.specs.MemberRoutes.{method_front, constructor_front, arguments}

pub record Code : Type 0 where
  pub params : List (syntax.Param Span)
  pub list : statement.Stmts Span
  -- the number of its first statement among the member's children
  pub front : ℕ

abbrev pub method_code : List (syntax.Modifier Span) → Option (tree.TypeName Span)
    → List (syntax.Param Span) → statement.Stmts Span → Code
method_code mods t ps body =
    record { params = ps; list = body; front = method_front itself mods t ps }

abbrev pub ctor_code : List (syntax.Modifier Span) → List (syntax.Param Span)
    → Option (tree.Exps Span) → statement.Stmts Span → Code
ctor_code mods ps args body = record {
  params = ps;
  list = body;
  front = constructor_front itself mods ps + arguments itself args;
}

abbrev pub code_of_member : syntax.Member Span → Option Code
code_of_member (syntax.field m mods t w init) = None
code_of_member (syntax.method m mods t w ps body) = Some (method_code mods t ps body)
code_of_member (syntax.constructor m mods w ps args body) = Some (ctor_code mods ps args body)
code_of_member (syntax.inner m c) = None

abbrev pub code_of : Part Span → Option Code
code_of (class_part c) = None
code_of (member_part x) = code_of_member x
