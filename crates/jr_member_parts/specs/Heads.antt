-- A method that is made of parts, and the text of its head (JLS 8.4).
use Rattle.std.specs.Prelude.{ℕ, List, ◌++◌, map, Option, codes}
use Rattle.jr_text.specs.declared.spans.Span.{Span}
use Rattle.jr_ast.specs.declared.operators.ModWord.{ModWord}
use Rattle.jr_ast.specs.Tree as tree
use Rattle.jr_ast.specs.StatementTree as statement
use Rattle.jr_ast.specs.MemberTree as syntax
use Rattle.jr_print.specs.MemberText.{printed_modifiers, printed_result, printed_params}

abbrev pub marked_words : Span → List ModWord → List (syntax.Modifier Span)
marked_words m ws = map (λ (w : ModWord). record { mark = m; word = w }) ws

-- a method's parts
pub record MethodTree : Type 0 where
  pub mark : Span
  pub modifiers : List (syntax.Modifier Span)
  pub result : Option (tree.TypeName Span)
  pub word : tree.Word Span
  pub params : List (syntax.Param Span)
  pub body : statement.Stmts Span

abbrev pub method_of : MethodTree → syntax.Member Span
method_of t = syntax.method t.mark t.modifiers t.result t.word t.params t.body

-- its head, as members are printed
abbrev pub head_text : MethodTree → List ℕ
head_text t = printed_modifiers t.modifiers ++ (printed_result t.result ++ (codes " "
    ++ (t.word.text ++ (codes "(" ++ (printed_params t.params ++ codes ")")))))
