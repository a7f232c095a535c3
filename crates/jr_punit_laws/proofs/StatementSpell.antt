-- The tokens of a statement in front of others.
use Rattle.std.proofs.Common.{◌≡◌, List, [], ◌∷◌, ◌++◌, Some, None, refl, sym, ap, ◌∙◌, append_assoc}
use Rattle.jr_lex.specs.declared.items.Keyword.TheVariants.{Else, If, While, Return, Synchronized}
use Rattle.jr_lex.specs.declared.items.Symbol.TheVariants.{OpenParen, CloseParen, OpenBrace, CloseBrace, Semicolon, Equals}
use Rattle.jr_ast.specs.StatementTree.{Stmt, local, eval, branch, loop, return, block, sync, empty, Else as Otherwise, no_else, otherwise, Stmts, end, more}
use Rattle.jr_grammar.specs.Tokens.{Token, word, keyword, symbol}
use Rattle.jr_grammar.specs.Spelling.{type_toks, toks}
use Rattle.jr_grammar.specs.Bare.{Bare}
use Rattle.jr_grammar.specs.StatementSpelling.{final_toks, stmt_toks, else_toks, stmts_toks}
use Rattle.jr_pstmt.specs.StatementMachine.{with_stmt}
use Rattle.jr_grammar.specs.StatementShape.{StmtShaped, StmtsShaped}

abbrev mutual
  pub spell : Stmt Bare → List Token → List Token
  spell (local m f t w e) x = final_toks f ++ (type_toks t ++ (word w.text ∷ symbol Equals ∷ (toks e ++ (symbol Semicolon ∷ x))))
  spell (eval m e) x = toks e ++ (symbol Semicolon ∷ x)
  spell (branch m c first other) x = keyword If ∷ symbol OpenParen ∷ (toks c ++ (symbol CloseParen ∷ spell first (spell_else other x)))
  spell (loop m c body) x = keyword While ∷ symbol OpenParen ∷ (toks c ++ (symbol CloseParen ∷ spell body x))
  spell (return m None) x = keyword Return ∷ symbol Semicolon ∷ x
  spell (return m (Some e)) x = keyword Return ∷ (toks e ++ (symbol Semicolon ∷ x))
  spell (block m body) x = symbol OpenBrace ∷ spells body (symbol CloseBrace ∷ x)
  spell (sync m e body) x = keyword Synchronized ∷ symbol OpenParen ∷ (toks e ++ (symbol CloseParen ∷ symbol OpenBrace ∷ spells body (symbol CloseBrace ∷ x)))
  spell (empty m) x = symbol Semicolon ∷ x

  pub spell_else : Otherwise Bare → List Token → List Token
  spell_else no_else x = x
  spell_else (otherwise s) x = keyword Else ∷ spell s x

  pub spells : Stmts Bare → List Token → List Token
  spells end x = x
  spells (more s ss) x = spell s (spells ss x)

abbrev before : List Token → List Token → List Token
before a y = a ++ y

-- a list in parts, each read in front of the rest
pub parts : (a b x y z : List Token) → y ≡ a ++ z → z ≡ b ++ x → y ≡ (a ++ b) ++ x
parts a b x y z p q = p ∙ ap (before a) q ∙ sym (append_assoc a b x)

mutual
  pub spell-is : (s : Stmt Bare) (x : List Token) → spell s x ≡ stmt_toks s ++ x
  spell-is (local m f t w e) x =
      parts (final_toks f) (type_toks t ++ (word w.text ∷ symbol Equals ∷ (toks e ++ (symbol Semicolon ∷ [])))) x _ _ refl
      (parts (type_toks t) (word w.text ∷ symbol Equals ∷ (toks e ++ (symbol Semicolon ∷ []))) x _ _ refl (ap (λ (y : List Token). word w.text ∷ symbol Equals ∷ y) (parts (toks e) (symbol Semicolon ∷ []) x _ _ refl refl)))
  spell-is (eval m e) x = parts (toks e) (symbol Semicolon ∷ []) x _ _ refl refl
  spell-is (branch m c first other) x =
      ap (λ (y : List Token). keyword If ∷ symbol OpenParen ∷ y)
      (parts (toks c) (symbol CloseParen ∷ (stmt_toks first ++ else_toks other)) x _ _ refl
      (ap (λ (y : List Token). symbol CloseParen ∷ y) (parts (stmt_toks first) (else_toks other) x _ _ (spell-is first (spell_else other x)) (spell_else-is other x))))
  spell-is (loop m c body) x =
      ap (λ (y : List Token). keyword While ∷ symbol OpenParen ∷ y) (parts (toks c) (symbol CloseParen ∷ stmt_toks body) x _ _ refl (ap (λ (y : List Token). symbol CloseParen ∷ y) (spell-is body x)))
  spell-is (return m None) x = refl
  spell-is (return m (Some e)) x = ap (λ (y : List Token). keyword Return ∷ y) (parts (toks e) (symbol Semicolon ∷ []) x _ _ refl refl)
  spell-is (block m body) x = ap (λ (y : List Token). symbol OpenBrace ∷ y) (parts (stmts_toks body) (symbol CloseBrace ∷ []) x _ _ (spells-is body (symbol CloseBrace ∷ x)) refl)
  spell-is (sync m e body) x =
      ap (λ (y : List Token). keyword Synchronized ∷ symbol OpenParen ∷ y)
      (parts (toks e) (symbol CloseParen ∷ symbol OpenBrace ∷ (stmts_toks body ++ (symbol CloseBrace ∷ []))) x _ _ refl
      (ap (λ (y : List Token). symbol CloseParen ∷ symbol OpenBrace ∷ y) (parts (stmts_toks body) (symbol CloseBrace ∷ []) x _ _ (spells-is body (symbol CloseBrace ∷ x)) refl)))
  spell-is (empty m) x = refl

  pub spell_else-is : (other : Otherwise Bare) (x : List Token) → spell_else other x ≡ else_toks other ++ x
  spell_else-is no_else x = refl
  spell_else-is (otherwise s) x = ap (λ (y : List Token). keyword Else ∷ y) (spell-is s x)

  pub spells-is : (ss : Stmts Bare) (x : List Token) → spells ss x ≡ stmts_toks ss ++ x
  spells-is end x = refl
  spells-is (more s ss) x = parts (stmt_toks s) (stmts_toks ss) x _ _ (spell-is s (spells ss x)) (spells-is ss x)

-- ---- one statement more

pub spells-with_stmt : (ss : Stmts Bare) (s : Stmt Bare) (x : List Token) → spells (with_stmt ss s) x ≡ spells ss (spell s x)
spells-with_stmt end s x = refl
spells-with_stmt (more d ss) s x = ap (spell d) (spells-with_stmt ss s x)

pub shaped-with_stmt : (ss : Stmts Bare) (s : Stmt Bare) → StmtsShaped ss → StmtShaped s → StmtsShaped (with_stmt ss s)
shaped-with_stmt end s h k = (k, tt)
shaped-with_stmt (more d ss) s h k = (h.0, shaped-with_stmt ss s h.1 k)

-- ---- lists, one behind the other

abbrev pub joined : Stmts Bare → Stmts Bare → Stmts Bare
joined end ss = ss
joined (more d ds) ss = more d (joined ds ss)

pub joined-with_stmt : (ds : Stmts Bare) (s : Stmt Bare) (ss : Stmts Bare) → joined (with_stmt ds s) ss ≡ joined ds (more s ss)
joined-with_stmt end s ss = refl
joined-with_stmt (more d ds) s ss = ap (more d) (joined-with_stmt ds s ss)

pub joined-end : (ds : Stmts Bare) → joined ds end ≡ ds
joined-end end = refl
joined-end (more d ds) = ap (more d) (joined-end ds)
