-- The parts that members and classes are printed as, with what follows behind them.
use Rattle.std.proofs.Common.{List, [], ◌∷◌, Option, Some, None}
use Rattle.jr_lex.specs.declared.items.Keyword.TheVariants.{Class as ClassWord, Extends, Super, Void}
use Rattle.jr_lex.specs.declared.items.Symbol.TheVariants.{OpenParen, CloseParen, OpenBrace, CloseBrace, Semicolon, Comma, Equals}
use Rattle.jr_ast.specs.Tree.{TypeName, Exp, Exps}
use Rattle.jr_ast.specs.MemberTree.{Modifier, Param, Class, class, Member, field, method, constructor, inner, Members, end, more}
use Rattle.jr_grammar.specs.Tokens.{word, keyword, symbol}
use Rattle.jr_grammar.specs.MemberSpelling.{modifier_keyword}
use Rattle.jr_print.proofs.TextParts.{Part, space, tok}
use Rattle.jr_print.proofs.ExpressionParts.{type_parts, parts, args_parts}
use Rattle.jr_print.proofs.StatementParts.{final_parts, stmts_parts}

abbrev pub modifiers_parts : {A : Type 0} → List (Modifier A) → List Part → List Part
modifiers_parts [] rest = rest
modifiers_parts (m ∷ ms) rest = tok (keyword (modifier_keyword m.word)) ∷ space ∷ modifiers_parts ms rest

abbrev pub param_parts : {A : Type 0} → Param A → List Part → List Part
param_parts p rest = final_parts p.is_final (type_parts p.type (space ∷ tok (word p.name.text) ∷ rest))

abbrev pub more_params_parts : {A : Type 0} → List (Param A) → List Part → List Part
more_params_parts [] rest = rest
more_params_parts (p ∷ ps) rest = tok (symbol Comma) ∷ space ∷ param_parts p (more_params_parts ps rest)

abbrev pub params_parts : {A : Type 0} → List (Param A) → List Part → List Part
params_parts [] rest = rest
params_parts (p ∷ ps) rest = param_parts p (more_params_parts ps rest)

abbrev pub init_parts : {A : Type 0} → Option (Exp A) → List Part → List Part
init_parts None rest = rest
init_parts (Some e) rest = space ∷ tok (symbol Equals) ∷ space ∷ parts e rest

abbrev pub result_parts : {A : Type 0} → Option (TypeName A) → List Part → List Part
result_parts None rest = tok (keyword Void) ∷ rest
result_parts (Some t) rest = type_parts t rest

abbrev pub super_parts : {A : Type 0} → Option (Exps A) → List Part → List Part
super_parts None rest = rest
super_parts (Some es) rest = space ∷ tok (keyword Super) ∷ tok (symbol OpenParen) ∷ args_parts es (tok (symbol CloseParen) ∷ tok (symbol Semicolon) ∷ rest)

abbrev pub extends_parts : {A : Type 0} → Option (TypeName A) → List Part → List Part
extends_parts None rest = rest
extends_parts (Some t) rest = space ∷ tok (keyword Extends) ∷ space ∷ type_parts t rest

-- the parameters of a method, up to the brace of its body
abbrev pub signature_parts : {A : Type 0} → List (Param A) → List Part → List Part
signature_parts ps rest = tok (symbol OpenParen) ∷ params_parts ps (tok (symbol CloseParen) ∷ space ∷ tok (symbol OpenBrace) ∷ rest)

abbrev mutual
  pub class_parts : {A : Type 0} → Class A → List Part → List Part
  class_parts (class m ms w parent all) rest =
      modifiers_parts ms (tok (keyword ClassWord) ∷ space ∷ tok (word w.text)
      ∷ extends_parts parent (space ∷ tok (symbol OpenBrace) ∷ members_parts all (space ∷ tok (symbol CloseBrace) ∷ rest)))

  pub member_parts : {A : Type 0} → Member A → List Part → List Part
  member_parts (field m ms t w init) rest = modifiers_parts ms (type_parts t (space ∷ tok (word w.text) ∷ init_parts init (tok (symbol Semicolon) ∷ rest)))
  member_parts (method m ms t w ps body) rest =
      modifiers_parts ms (result_parts t (space ∷ tok (word w.text) ∷ signature_parts ps (stmts_parts body (space ∷ tok (symbol CloseBrace) ∷ rest))))
  member_parts (constructor m ms w ps args body) rest =
      modifiers_parts ms (tok (word w.text) ∷ signature_parts ps (super_parts args (stmts_parts body (space ∷ tok (symbol CloseBrace) ∷ rest))))
  member_parts (inner m c) rest = class_parts c rest

  pub members_parts : {A : Type 0} → Members A → List Part → List Part
  members_parts end rest = rest
  members_parts (more d ds) rest = space ∷ member_parts d (members_parts ds rest)
