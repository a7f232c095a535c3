-- The parts of statements (JLS 14).
use Rattle.std.specs.Prelude.{Bool, true, false, Some, None}
use Rattle.jr_lex.specs.declared.items.Keyword.TheVariants.{Final, If, Else as ElseWord, While}
use Rattle.jr_lex.specs.declared.items.Keyword.TheVariants.{Return, Synchronized}
use Rattle.jr_lex.specs.declared.items.Symbol.TheVariants.{OpenParen, CloseParen, OpenBrace}
use Rattle.jr_lex.specs.declared.items.Symbol.TheVariants.{CloseBrace, Semicolon, Equals}
use Rattle.jr_ast.specs.StatementTree.{Stmt, local, eval, branch, loop, return, block, sync, empty}
use Rattle.jr_ast.specs.StatementTree.{Else, no_else, otherwise, Stmts, end, more}
use Rattle.jr_grammar.specs.Tokens.{keyword, symbol}
use Rattle.jr_grammar.specs.Layout.{Layout, token, node, row, done, ◌then◌}
use Rattle.jr_grammar.specs.ExpressionLayout.{word_layout, type_layout, exp_layout}

abbrev pub final_layout : {A : Type 0} → Bool → Layout A
final_layout true = row (token (keyword Final) then done)
final_layout false = row done

abbrev mutual
  pub stmt_layout : {A : Type 0} → Stmt A → Layout A
  stmt_layout (local m f t w e) =
      node m (final_layout f then type_layout t then word_layout w then token (symbol Equals)
      then exp_layout e
      then token (symbol Semicolon) then done)
  stmt_layout (eval m e) = node m (exp_layout e then token (symbol Semicolon) then done)
  stmt_layout (branch m c first other) =
      node m (token (keyword If) then token (symbol OpenParen) then exp_layout c
      then token (symbol CloseParen)
      then stmt_layout first then else_layout other then done)
  stmt_layout (loop m c body) =
      node m (token (keyword While) then token (symbol OpenParen) then exp_layout c
      then token (symbol CloseParen) then stmt_layout body then done)
  stmt_layout (return m None) = node m (token (keyword Return)
      then token (symbol Semicolon) then done)
  stmt_layout (return m (Some e)) =
      node m (token (keyword Return) then exp_layout e then token (symbol Semicolon) then done)
  stmt_layout (block m body) =
      node m (token (symbol OpenBrace) then stmts_layout body
      then token (symbol CloseBrace) then done)
  stmt_layout (sync m e body) =
      node m (token (keyword Synchronized) then token (symbol OpenParen) then exp_layout e
      then token (symbol CloseParen) then token (symbol OpenBrace) then stmts_layout body
      then token (symbol CloseBrace) then done)
  stmt_layout (empty m) = node m (token (symbol Semicolon) then done)

  pub else_layout : {A : Type 0} → Else A → Layout A
  else_layout no_else = row done
  else_layout (otherwise s) = row (token (keyword ElseWord) then stmt_layout s then done)

  pub stmts_layout : {A : Type 0} → Stmts A → Layout A
  stmts_layout end = row done
  stmts_layout (more s ss) = row (stmt_layout s then stmts_layout ss then done)
