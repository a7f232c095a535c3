-- The parts that statements are printed as, with what follows behind them.
use Rattle.std.proofs.Common.{Bool, true, false, List, ◌∷◌, Option, Some, None}
use Rattle.jr_lex.specs.declared.items.Keyword.TheVariants.{Final, If, Else, While, Return, Synchronized}
use Rattle.jr_lex.specs.declared.items.Symbol.TheVariants.{OpenParen, CloseParen, OpenBrace, CloseBrace, Semicolon, Equals}
use Rattle.jr_ast.specs.Tree.{TypeName, Exp}
use Rattle.jr_ast.specs.StatementTree.{Stmt, local, eval, branch, loop, return, block, sync, empty, Else as Otherwise, no_else, otherwise, Stmts, end, more}
use Rattle.jr_grammar.specs.Tokens.{word, keyword, symbol}
use Rattle.jr_print.proofs.TextParts.{Part, space, tok}
use Rattle.jr_print.proofs.ExpressionParts.{type_parts, parts}

abbrev pub final_parts : Bool → List Part → List Part
final_parts true rest = tok (keyword Final) ∷ space ∷ rest
final_parts false rest = rest

abbrev pub return_parts : {A : Type 0} → Option (Exp A) → List Part → List Part
return_parts None rest = tok (keyword Return) ∷ tok (symbol Semicolon) ∷ rest
return_parts (Some e) rest = tok (keyword Return) ∷ space ∷ parts e (tok (symbol Semicolon) ∷ rest)

abbrev mutual
  pub stmt_parts : {A : Type 0} → Stmt A → List Part → List Part
  stmt_parts (local m f t w e) rest =
      final_parts f (type_parts t (space ∷ tok (word w.text) ∷ space ∷ tok (symbol Equals) ∷ space ∷ parts e (tok (symbol Semicolon) ∷ rest)))
  stmt_parts (eval m e) rest = parts e (tok (symbol Semicolon) ∷ rest)
  stmt_parts (branch m c first other) rest =
      tok (keyword If) ∷ space ∷ tok (symbol OpenParen) ∷ parts c (tok (symbol CloseParen) ∷ space ∷ stmt_parts first (else_parts other rest))
  stmt_parts (loop m c body) rest = tok (keyword While) ∷ space ∷ tok (symbol OpenParen) ∷ parts c (tok (symbol CloseParen) ∷ space ∷ stmt_parts body rest)
  stmt_parts (return m value) rest = return_parts value rest
  stmt_parts (block m body) rest = tok (symbol OpenBrace) ∷ stmts_parts body (space ∷ tok (symbol CloseBrace) ∷ rest)
  stmt_parts (sync m e body) rest =
      tok (keyword Synchronized) ∷ space ∷ tok (symbol OpenParen)
      ∷ parts e (tok (symbol CloseParen) ∷ space ∷ tok (symbol OpenBrace) ∷ stmts_parts body (space ∷ tok (symbol CloseBrace) ∷ rest))
  stmt_parts (empty m) rest = tok (symbol Semicolon) ∷ rest

  pub else_parts : {A : Type 0} → Otherwise A → List Part → List Part
  else_parts no_else rest = rest
  else_parts (otherwise s) rest = space ∷ tok (keyword Else) ∷ space ∷ stmt_parts s rest

  pub stmts_parts : {A : Type 0} → Stmts A → List Part → List Part
  stmts_parts end rest = rest
  stmts_parts (more s ss) rest = space ∷ stmt_parts s (stmts_parts ss rest)
