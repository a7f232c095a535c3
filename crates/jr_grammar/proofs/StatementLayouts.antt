-- The same of statements.
use Rattle.std.proofs.Common.{◌≡◌, Bool, true, false, [], ◌∷◌, ◌++◌, Some, None, refl}
use Rattle.jr_lex.specs.declared.items.Keyword.TheVariants.{If, Else as ElseWord, While, Return, Synchronized}
use Rattle.jr_lex.specs.declared.items.Symbol.TheVariants.{OpenParen, CloseParen, OpenBrace, CloseBrace, Semicolon, Equals}
use Rattle.jr_ast.specs.StatementTree.{Stmt, local, eval, branch, loop, return, block, sync, empty, Else, no_else, otherwise, Stmts, end, more}
use Rattle.jr_ast.specs.Remarked.{map_word, map_stmt, map_else, map_stmts}
use Rattle.jr_grammar.specs.Tokens.{word, keyword, symbol}
use Rattle.jr_grammar.specs.StatementSpelling.{final_toks, stmt_toks, else_toks, stmts_toks}
use Rattle.jr_grammar.specs.Layout.{token, node, row, done, ◌then◌, laid}
use Rattle.jr_grammar.specs.ExpressionLayout.{word_layout}
use Rattle.jr_grammar.specs.StatementLayout.{final_layout, stmt_layout, else_layout, stmts_layout}
use Rattle.jr_grammar.proofs.Layouts.{map_layout}
use Rattle.jr_grammar.proofs.ExpressionLayouts.{ends, type_laid, exp_laid, type_layout-map, exp_layout-map}

-- ---- spelling

pub final_laid : (A : Type 0) (b : Bool) → laid (final_layout {A = A} b) ≡ final_toks b
final_laid A true = refl
final_laid A false = refl

mutual
  pub stmt_laid : {A : Type 0} (x : Stmt A) → laid (stmt_layout x) ≡ stmt_toks x
  stmt_laid {A} (local m f t w e) = λ i. final_laid A f i ++ (type_laid t i ++ (word w.text ∷ (symbol Equals ∷ (exp_laid e i ++ symbol Semicolon ∷ []))))
  stmt_laid (eval m e) = λ i. exp_laid e i ++ symbol Semicolon ∷ []
  stmt_laid (branch m c first other) = λ i. keyword If ∷ (symbol OpenParen ∷ (exp_laid c i ++ (symbol CloseParen ∷ (stmt_laid first i ++ ends _ _ (else_laid other) i))))
  stmt_laid (loop m c body) = λ i. keyword While ∷ (symbol OpenParen ∷ (exp_laid c i ++ symbol CloseParen ∷ ends _ _ (stmt_laid body) i))
  stmt_laid (return m None) = refl
  stmt_laid (return m (Some e)) = λ i. keyword Return ∷ (exp_laid e i ++ symbol Semicolon ∷ [])
  stmt_laid (block m body) = λ i. symbol OpenBrace ∷ (stmts_laid body i ++ symbol CloseBrace ∷ [])
  stmt_laid (sync m e body) = λ i. keyword Synchronized ∷ (symbol OpenParen ∷ (exp_laid e i ++ (symbol CloseParen ∷ (symbol OpenBrace ∷ (stmts_laid body i ++ symbol CloseBrace ∷ [])))))
  stmt_laid (empty m) = refl

  else_laid : {A : Type 0} (x : Else A) → laid (else_layout x) ≡ else_toks x
  else_laid no_else = refl
  else_laid (otherwise s) = λ i. keyword ElseWord ∷ ends _ _ (stmt_laid s) i

  pub stmts_laid : {A : Type 0} (x : Stmts A) → laid (stmts_layout x) ≡ stmts_toks x
  stmts_laid end = refl
  stmts_laid (more s ss) = λ i. stmt_laid s i ++ ends _ _ (stmts_laid ss) i

-- ---- marks

pub final_layout-map : {A B : Type 0} (h : A → B) (b : Bool) → map_layout h (final_layout b) ≡ final_layout b
final_layout-map h true = refl
final_layout-map h false = refl

mutual
  unfolding map_stmt map_else map_stmts

  pub stmt_layout-map : {A B : Type 0} (h : A → B) (x : Stmt A) → map_layout h (stmt_layout x) ≡ stmt_layout (map_stmt h x)
  stmt_layout-map h (local m f t w e) = λ i. node (h m) (final_layout-map h f i then type_layout-map h t i then word_layout (map_word h w) then token (symbol Equals) then exp_layout-map h e i then token (symbol Semicolon) then done)
  stmt_layout-map h (eval m e) = λ i. node (h m) (exp_layout-map h e i then token (symbol Semicolon) then done)
  stmt_layout-map h (branch m c first other) = λ i. node (h m) (token (keyword If) then token (symbol OpenParen) then exp_layout-map h c i then token (symbol CloseParen) then stmt_layout-map h first i then else_layout-map h other i then done)
  stmt_layout-map h (loop m c body) = λ i. node (h m) (token (keyword While) then token (symbol OpenParen) then exp_layout-map h c i then token (symbol CloseParen) then stmt_layout-map h body i then done)
  stmt_layout-map h (return m None) = refl
  stmt_layout-map h (return m (Some e)) = λ i. node (h m) (token (keyword Return) then exp_layout-map h e i then token (symbol Semicolon) then done)
  stmt_layout-map h (block m body) = λ i. node (h m) (token (symbol OpenBrace) then stmts_layout-map h body i then token (symbol CloseBrace) then done)
  stmt_layout-map h (sync m e body) = λ i. node (h m) (token (keyword Synchronized) then token (symbol OpenParen) then exp_layout-map h e i then token (symbol CloseParen) then token (symbol OpenBrace) then stmts_layout-map h body i then token (symbol CloseBrace) then done)
  stmt_layout-map h (empty m) = refl

  else_layout-map : {A B : Type 0} (h : A → B) (x : Else A) → map_layout h (else_layout x) ≡ else_layout (map_else h x)
  else_layout-map h no_else = refl
  else_layout-map h (otherwise s) = λ i. row (token (keyword ElseWord) then stmt_layout-map h s i then done)

  pub stmts_layout-map : {A B : Type 0} (h : A → B) (x : Stmts A) → map_layout h (stmts_layout x) ≡ stmts_layout (map_stmts h x)
  stmts_layout-map h end = refl
  stmts_layout-map h (more s ss) = λ i. row (stmt_layout-map h s i then stmts_layout-map h ss i then done)
