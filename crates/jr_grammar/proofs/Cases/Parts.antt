-- What a case says, and short names for its parts.
use Rattle.std.proofs.Common.{◌≡◌, ℕ, List, Bool}
use Rattle.jr_ast.specs.declared.operators.ModWord.{ModWord}
use Rattle.jr_ast.specs.Tree.{TypeName}
use Rattle.jr_ast.specs.StatementTree.{Stmt}
use Rattle.jr_ast.specs.MemberTree.{Modifier, Param, Unit as UnitTree}
use Rattle.jr_grammar.specs.Tokens.{Token}
use Rattle.jr_grammar.specs.Bare.{Bare}
use Rattle.jr_grammar.proofs.Cases.Forms.{w}
use Rattle.jr_grammar.specs.StatementSpelling.{stmt_toks}
use Rattle.jr_grammar.specs.StatementShape.{StmtShaped}
use Rattle.jr_grammar.specs.MemberSpelling.{unit_toks}
use Rattle.jr_grammar.specs.MemberShape.{UnitShaped}

-- The tree spells the tokens, and is no statement. Of other trees that spell them this says nothing.
pub record IsStatementRefused (tokens : List Token) (tree : Stmt Bare) : Type 0 where
  pub spells : stmt_toks tree ≡ tokens
  pub not_shaped : StmtShaped tree → ⊥

-- The tree spells the tokens, and is no unit. Of other trees that spell them this says nothing.
pub record IsUnitRefused (tokens : List Token) (tree : UnitTree Bare) : Type 0 where
  pub spells : unit_toks tree ≡ tokens
  pub not_shaped : UnitShaped tree → ⊥

abbrev pub modifier : ModWord → Modifier Bare
modifier word = record { mark = tt; word = word }

abbrev pub par : Bool → TypeName Bare → List ℕ → Param Bare
par is_final type name = record { mark = tt; is_final = is_final; type = type; name = w name }
