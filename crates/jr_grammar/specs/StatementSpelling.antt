-- The tokens that statements spell (JLS 14).
use Rattle.std.specs.Prelude.{Bool, true, false, List, [], ◌∷◌, ◌++◌, Some, None}
use Rattle.jr_lex.specs.declared.items.Keyword.TheVariants.{Final, If, Else, While, Return}
use Rattle.jr_lex.specs.declared.items.Keyword.TheVariants.{Synchronized}
use Rattle.jr_lex.specs.declared.items.Symbol.TheVariants.{OpenParen, CloseParen, OpenBrace}
use Rattle.jr_lex.specs.declared.items.Symbol.TheVariants.{CloseBrace, Semicolon, Equals}
use Rattle.jr_ast.specs.StatementTree.{Stmt, local, eval, branch, loop, return, block, sync, empty}
use Rattle.jr_ast.specs.StatementTree.{Else as Otherwise, no_else, otherwise, Stmts, end, more}
use Rattle.jr_grammar.specs.Tokens.{Token, word, keyword, symbol}
use Rattle.jr_grammar.specs.Spelling.{type_toks, toks}

abbrev pub final_toks : Bool → List Token
final_toks true = keyword Final ∷ []
final_toks false = []

abbrev mutual
  pub stmt_toks : {A : Type 0} → Stmt A → List Token
  stmt_toks (local m f t w e) = final_toks f
      ++ (type_toks t ++ (word w.text ∷ symbol Equals ∷ (toks e ++ (symbol Semicolon ∷ []))))
  stmt_toks (eval m e) = toks e ++ (symbol Semicolon ∷ [])
  stmt_toks (branch m c first other) =
      keyword If ∷ symbol OpenParen ∷ (toks c
      ++ (symbol CloseParen ∷ (stmt_toks first ++ else_toks other)))
  stmt_toks (loop m c body) = keyword While ∷ symbol OpenParen
      ∷ (toks c ++ (symbol CloseParen ∷ stmt_toks body))
  stmt_toks (return m None) = keyword Return ∷ symbol Semicolon ∷ []
  stmt_toks (return m (Some e)) = keyword Return ∷ (toks e ++ (symbol Semicolon ∷ []))
  stmt_toks (block m body) = symbol OpenBrace ∷ (stmts_toks body ++ (symbol CloseBrace ∷ []))
  stmt_toks (sync m e body) = keyword Synchronized ∷ symbol OpenParen
      ∷ (toks e ++ (symbol CloseParen ∷ symbol OpenBrace
      ∷ (stmts_toks body ++ (symbol CloseBrace ∷ []))))
  stmt_toks (empty m) = symbol Semicolon ∷ []

  pub else_toks : {A : Type 0} → Otherwise A → List Token
  else_toks no_else = []
  else_toks (otherwise s) = keyword Else ∷ stmt_toks s

  pub stmts_toks : {A : Type 0} → Stmts A → List Token
  stmts_toks end = []
  stmts_toks (more s ss) = stmt_toks s ++ stmts_toks ss
