-- A statement with the marks of its parts.
use Rattle.std.proofs.Common.{◌≡◌, Bool, true, false, drop, Some, None, refl}
use Rattle.jr_text.specs.declared.spans.Span.{Span}
use Rattle.jr_lex.specs.declared.items.Keyword.TheVariants.{If, Else as ElseWord, While, Return, Synchronized}
use Rattle.jr_lex.specs.declared.items.Symbol.TheVariants.{OpenParen, CloseParen, OpenBrace, CloseBrace, Semicolon, Equals}
use Rattle.jr_ast.specs.StatementTree.{Stmt, local, eval, branch, loop, return, block, sync, empty, Else, no_else, otherwise, Stmts, end, more}
use Rattle.jr_ast.specs.Remarked.{map_stmt, map_else, map_stmts}
use Rattle.jr_grammar.specs.Tokens.{keyword, symbol}
use Rattle.jr_grammar.specs.Layout.{Layout, token, node, row, done, ◌then◌}
use Rattle.jr_grammar.specs.ExpressionLayout.{word_layout, type_layout, exp_layout}
use Rattle.jr_grammar.specs.StatementLayout.{final_layout, stmt_layout, else_layout, stmts_layout}
use Rattle.jr_grammar.specs.Bare.{Bare, no_mark}
use Rattle.jr_grammar.specs.Stands.{Tokens, span_of}
use Rattle.jr_grammar.proofs.Layouts.{front, back, lay, mark_of, parts_of, part0, part1, part2, part4, part5}
use Rattle.jr_grammar.proofs.ExpressionMarks.{word_at, type_at, exp_at, type_again, exp_again, type_stays, exp_stays, type_bare, exp_bare}

-- ---- its marks are those of the parts

abbrev mutual
  pub stmt_at : {A B : Type 0} → B → Stmt A → Layout B → Stmt B
  stmt_at d (local m f t w e) y = local (mark_of d y) f (type_at d t (part1 (parts_of y))) (word_at d w (part2 (parts_of y))) (exp_at d e (part4 (parts_of y)))
  stmt_at d (eval m e) y = eval (mark_of d y) (exp_at d e (part0 (parts_of y)))
  stmt_at d (branch m c first other) y = branch (mark_of d y) (exp_at d c (part2 (parts_of y))) (stmt_at d first (part4 (parts_of y))) (else_at d other (part5 (parts_of y)))
  stmt_at d (loop m c body) y = loop (mark_of d y) (exp_at d c (part2 (parts_of y))) (stmt_at d body (part4 (parts_of y)))
  stmt_at d (return m None) y = return (mark_of d y) None
  stmt_at d (return m (Some e)) y = return (mark_of d y) (Some (exp_at d e (part1 (parts_of y))))
  stmt_at d (block m body) y = block (mark_of d y) (stmts_at d body (part1 (parts_of y)))
  stmt_at d (sync m e body) y = sync (mark_of d y) (exp_at d e (part2 (parts_of y))) (stmts_at d body (part5 (parts_of y)))
  stmt_at d (empty m) y = empty (mark_of d y)

  pub else_at : {A B : Type 0} → B → Else A → Layout B → Else B
  else_at d no_else y = no_else
  else_at d (otherwise s) y = otherwise (stmt_at d s (part1 (parts_of y)))

  pub stmts_at : {A B : Type 0} → B → Stmts A → Layout B → Stmts B
  stmts_at d end y = end
  stmts_at d (more s ss) y = more (stmt_at d s (part0 (parts_of y))) (stmts_at d ss (part1 (parts_of y)))

-- ---- with its own marks it is itself

mutual
  unfolding map_stmt map_else map_stmts

  pub stmt_again : {A : Type 0} (d : A) (x : Stmt A) → stmt_at d (map_stmt no_mark x) (stmt_layout x) ≡ x
  stmt_again d (local m f t w e) = λ i. local m f (type_again d t i) w (exp_again d e i)
  stmt_again d (eval m e) = λ i. eval m (exp_again d e i)
  stmt_again d (branch m c first other) = λ i. branch m (exp_again d c i) (stmt_again d first i) (else_again d other i)
  stmt_again d (loop m c body) = λ i. loop m (exp_again d c i) (stmt_again d body i)
  stmt_again d (return m None) = refl
  stmt_again d (return m (Some e)) = λ i. return m (Some (exp_again d e i))
  stmt_again d (block m body) = λ i. block m (stmts_again d body i)
  stmt_again d (sync m e body) = λ i. sync m (exp_again d e i) (stmts_again d body i)
  stmt_again d (empty m) = refl

  else_again : {A : Type 0} (d : A) (x : Else A) → else_at d (map_else no_mark x) (else_layout x) ≡ x
  else_again d no_else = refl
  else_again d (otherwise s) = λ i. otherwise (stmt_again d s i)

  pub stmts_again : {A : Type 0} (d : A) (x : Stmts A) → stmts_at d (map_stmts no_mark x) (stmts_layout x) ≡ x
  stmts_again d end = refl
  stmts_again d (more s ss) = λ i. more (stmt_again d s i) (stmts_again d ss i)

-- ---- its parts are those

pub final_stays : (A : Type 0) (b : Bool) (ps : Tokens) → final_layout b ≡ lay (final_layout {A = A} b) ps
final_stays A true ps = refl
final_stays A false ps = refl

mutual
  pub stmt_stays : {A : Type 0} (d : Span) (x : Stmt A) (ps : Tokens) → stmt_layout (stmt_at d x (lay (stmt_layout x) ps)) ≡ lay (stmt_layout x) ps
  stmt_stays {A} d (local m f t w e) ps = λ i. node (span_of ps) (final_stays A f (front (final_layout {A = A} f) ps) i then type_stays d t (front (type_layout t) (back (final_layout {A = A} f) ps)) i then lay (word_layout w) (front (word_layout w) (back (type_layout t) (back (final_layout {A = A} f) ps))) then token (symbol Equals) then exp_stays d e (front (exp_layout e) (drop 1 (back (word_layout w) (back (type_layout t) (back (final_layout {A = A} f) ps))))) i then token (symbol Semicolon) then done)
  stmt_stays d (eval m e) ps = λ i. node (span_of ps) (exp_stays d e (front (exp_layout e) ps) i then token (symbol Semicolon) then done)
  stmt_stays d (branch m c first other) ps = λ i. node (span_of ps) (token (keyword If) then token (symbol OpenParen) then exp_stays d c (front (exp_layout c) (drop 1 (drop 1 ps))) i then token (symbol CloseParen) then stmt_stays d first (front (stmt_layout first) (drop 1 (back (exp_layout c) (drop 1 (drop 1 ps))))) i then else_stays d other (front (else_layout other) (back (stmt_layout first) (drop 1 (back (exp_layout c) (drop 1 (drop 1 ps)))))) i then done)
  stmt_stays d (loop m c body) ps = λ i. node (span_of ps) (token (keyword While) then token (symbol OpenParen) then exp_stays d c (front (exp_layout c) (drop 1 (drop 1 ps))) i then token (symbol CloseParen) then stmt_stays d body (front (stmt_layout body) (drop 1 (back (exp_layout c) (drop 1 (drop 1 ps))))) i then done)
  stmt_stays d (return m None) ps = refl
  stmt_stays d (return m (Some e)) ps = λ i. node (span_of ps) (token (keyword Return) then exp_stays d e (front (exp_layout e) (drop 1 ps)) i then token (symbol Semicolon) then done)
  stmt_stays d (block m body) ps = λ i. node (span_of ps) (token (symbol OpenBrace) then stmts_stays d body (front (stmts_layout body) (drop 1 ps)) i then token (symbol CloseBrace) then done)
  stmt_stays d (sync m e body) ps = λ i. node (span_of ps) (token (keyword Synchronized) then token (symbol OpenParen) then exp_stays d e (front (exp_layout e) (drop 1 (drop 1 ps))) i then token (symbol CloseParen) then token (symbol OpenBrace) then stmts_stays d body (front (stmts_layout body) (drop 1 (drop 1 (back (exp_layout e) (drop 1 (drop 1 ps)))))) i then token (symbol CloseBrace) then done)
  stmt_stays d (empty m) ps = refl

  else_stays : {A : Type 0} (d : Span) (x : Else A) (ps : Tokens) → else_layout (else_at d x (lay (else_layout x) ps)) ≡ lay (else_layout x) ps
  else_stays d no_else ps = refl
  else_stays d (otherwise s) ps = λ i. row (token (keyword ElseWord) then stmt_stays d s (front (stmt_layout s) (drop 1 ps)) i then done)

  pub stmts_stays : {A : Type 0} (d : Span) (x : Stmts A) (ps : Tokens) → stmts_layout (stmts_at d x (lay (stmts_layout x) ps)) ≡ lay (stmts_layout x) ps
  stmts_stays d end ps = refl
  stmts_stays d (more s ss) ps = λ i. row (stmt_stays d s (front (stmt_layout s) ps) i then stmts_stays d ss (front (stmts_layout ss) (back (stmt_layout s) ps)) i then done)

-- ---- without marks it is as before

mutual
  unfolding map_stmt map_else map_stmts

  pub stmt_bare : {B : Type 0} (d : B) (x : Stmt Bare) (y : Layout B) → map_stmt no_mark (stmt_at d x y) ≡ x
  stmt_bare d (local m f t w e) y = λ i. local m f (type_bare d t (part1 (parts_of y)) i) w (exp_bare d e (part4 (parts_of y)) i)
  stmt_bare d (eval m e) y = λ i. eval m (exp_bare d e (part0 (parts_of y)) i)
  stmt_bare d (branch m c first other) y = λ i. branch m (exp_bare d c (part2 (parts_of y)) i) (stmt_bare d first (part4 (parts_of y)) i) (else_bare d other (part5 (parts_of y)) i)
  stmt_bare d (loop m c body) y = λ i. loop m (exp_bare d c (part2 (parts_of y)) i) (stmt_bare d body (part4 (parts_of y)) i)
  stmt_bare d (return m None) y = refl
  stmt_bare d (return m (Some e)) y = λ i. return m (Some (exp_bare d e (part1 (parts_of y)) i))
  stmt_bare d (block m body) y = λ i. block m (stmts_bare d body (part1 (parts_of y)) i)
  stmt_bare d (sync m e body) y = λ i. sync m (exp_bare d e (part2 (parts_of y)) i) (stmts_bare d body (part5 (parts_of y)) i)
  stmt_bare d (empty m) y = refl

  else_bare : {B : Type 0} (d : B) (x : Else Bare) (y : Layout B) → map_else no_mark (else_at d x y) ≡ x
  else_bare d no_else y = refl
  else_bare d (otherwise s) y = λ i. otherwise (stmt_bare d s (part1 (parts_of y)) i)

  pub stmts_bare : {B : Type 0} (d : B) (x : Stmts Bare) (y : Layout B) → map_stmts no_mark (stmts_at d x y) ≡ x
  stmts_bare d end y = refl
  stmts_bare d (more s ss) y = λ i. more (stmt_bare d s (part0 (parts_of y)) i) (stmts_bare d ss (part1 (parts_of y)) i)
