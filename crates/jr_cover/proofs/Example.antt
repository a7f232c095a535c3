-- The premises can be met: by a program whose one method is the member, whatever its body.
use Rattle.std.proofs.Common.{List, [], IsTrue, false, refl}
use Rattle.jr_ast.specs.Tree.{Word}
use Rattle.jr_ast.specs.StatementTree as statement
use Rattle.jr_ast.specs.MemberTree.{Modifier}
use Rattle.jr_runs.specs.Keys.{Keys}
use Rattle.jr_runs.specs.Rows.{Rows}
use Rattle.jr_runs.specs.Core.{Program, written}
use Rattle.jr_runs.specs.MemberTranslation.{no_code}
use Rattle.jr_cover.specs.MemberTranslation.{method_code}
use Rattle.jr_cover.specs.Sites.{Known, method_way}
use Rattle.jr_cover.specs.Members.{HasMember, outside, of_method}

module _ {K : Keys} {A : Type 0} (X : Known K A) (R : Rows K) (class : K.class) (a : A) (modifiers : List (Modifier A)) (name : Word A) (body : statement.Stmts A) where
  only : Program K
  only = record { rows = R; method = λ m. written (method_code X.facts class a modifiers name [] body); constructor = λ k. no_code }

  met : HasMember X (λ p. IsTrue false) only (method_way X a modifiers name body)
  unfolding only
  met = record { methods = λ m. of_method class a modifiers name [] body refl refl; constructors = λ k. outside tt }
