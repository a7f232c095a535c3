-- The parts of a statement join to its text, and their tokens are its spelling.
use Rattle.std.proofs.Common.{◌≡◌, ℕ, Bool, true, false, List, [], ◌∷◌, ◌++◌, Option, Some, None, refl, sym, ap, ◌∙◌}
use Rattle.std.specs.Prelude.{codes}
use Rattle.std.proofs.lemmas.List.{append_assoc}
use Rattle.jr_lex.specs.declared.items.Keyword.TheVariants.{Final, If, Else, While, Return, Synchronized}
use Rattle.jr_lex.specs.declared.items.Symbol.TheVariants.{OpenParen, CloseParen, OpenBrace, CloseBrace, Semicolon, Equals}
use Rattle.jr_ast.specs.Tree.{Exp}
use Rattle.jr_ast.specs.StatementTree.{Stmt, local, eval, branch, loop, return, block, sync, empty, Else as Otherwise, no_else, otherwise, Stmts, end, more}
use Rattle.jr_grammar.specs.Tokens.{Token, word, keyword, symbol}
use Rattle.jr_grammar.specs.Spelling.{type_toks, toks}
use Rattle.jr_grammar.specs.StatementSpelling.{final_toks, stmt_toks, else_toks, stmts_toks}
use Rattle.jr_print.specs.ExpressionText.{printed_type, printed}
use Rattle.jr_print.specs.StatementText.{printed_final, printed_return, printed_stmt, printed_else, printed_stmts}
use Rattle.jr_print.proofs.TextParts.{Part, space, tok, join, tokens}
use Rattle.jr_print.proofs.ExpressionParts.{type_parts, parts}
use Rattle.jr_print.proofs.ExpressionJoined.{type-join, parts-join, type-tokens, parts-tokens}
use Rattle.jr_print.proofs.StatementParts.{final_parts, return_parts, stmt_parts, else_parts, stmts_parts}

-- ---- the text

pub final-join : (f : Bool) (rest : List Part) → join (final_parts f rest) ≡ printed_final f ++ join rest
final-join true rest = refl
final-join false rest = refl

local-text : (f t w e r : List ℕ) → f ++ (t ++ (32 ∷ (w ++ (32 ∷ 61 ∷ 32 ∷ (e ++ (59 ∷ r)))))) ≡ ((((((f ++ t) ++ 32 ∷ []) ++ w) ++ 32 ∷ 61 ∷ 32 ∷ []) ++ e) ++ 59 ∷ []) ++ r
local-text f t w e r = simp append_assoc

two : (a b r : List ℕ) → a ++ (b ++ r) ≡ (a ++ b) ++ r
two a b r = sym (append_assoc a b r)

three : (a b c r : List ℕ) → a ++ (b ++ (c ++ r)) ≡ ((a ++ b) ++ c) ++ r
three a b c r = simp append_assoc

four : (a b c d r : List ℕ) → a ++ (b ++ (c ++ (d ++ r))) ≡ (((a ++ b) ++ c) ++ d) ++ r
four a b c d r = simp append_assoc

five : (a b c d e r : List ℕ) → a ++ (b ++ (c ++ (d ++ (e ++ r)))) ≡ ((((a ++ b) ++ c) ++ d) ++ e) ++ r
five a b c d e r = simp append_assoc

return-join : {A : Type 0} (value : Option (Exp A)) (rest : List Part) → join (return_parts value rest) ≡ printed_return value ++ join rest
return-join None rest = refl
return-join (Some e) rest = ap (λ x. codes "return " ++ x) (parts-join e (tok (symbol Semicolon) ∷ rest)) ∙ three (codes "return ") (printed e) (codes ";") (join rest)

mutual
  pub stmt-join : {A : Type 0} (s : Stmt A) (rest : List Part) → join (stmt_parts s rest) ≡ printed_stmt s ++ join rest
  stmt-join (local m f t w e) rest =
      final-join f _
      ∙ ap (λ x. printed_final f ++ x) (type-join t _ ∙ ap (λ x. printed_type t ++ (32 ∷ (w.text ++ (32 ∷ 61 ∷ 32 ∷ x)))) (parts-join e (tok (symbol Semicolon) ∷ rest)))
      ∙ local-text (printed_final f) (printed_type t) w.text (printed e) (join rest)
  stmt-join (eval m e) rest = parts-join e (tok (symbol Semicolon) ∷ rest) ∙ two (printed e) (codes ";") (join rest)
  stmt-join (branch m c first other) rest =
      ap (λ x. codes "if (" ++ x) (parts-join c _ ∙ ap (λ x. printed c ++ (codes ") " ++ x)) (stmt-join first _ ∙ ap (λ x. printed_stmt first ++ x) (else-join other rest)))
      ∙ five (codes "if (") (printed c) (codes ") ") (printed_stmt first) (printed_else other) (join rest)
  stmt-join (loop m c body) rest =
      ap (λ x. codes "while (" ++ x) (parts-join c _ ∙ ap (λ x. printed c ++ (codes ") " ++ x)) (stmt-join body rest))
      ∙ four (codes "while (") (printed c) (codes ") ") (printed_stmt body) (join rest)
  stmt-join (return m value) rest = return-join value rest
  stmt-join (block m body) rest =
      ap (λ x. codes "{" ++ x) (stmts-join body (space ∷ tok (symbol CloseBrace) ∷ rest)) ∙ three (codes "{") (printed_stmts body) (codes " }") (join rest)
  stmt-join (sync m e body) rest =
      ap (λ x. codes "synchronized (" ++ x) (parts-join e _ ∙ ap (λ x. printed e ++ (codes ") {" ++ x)) (stmts-join body (space ∷ tok (symbol CloseBrace) ∷ rest)))
      ∙ five (codes "synchronized (") (printed e) (codes ") {") (printed_stmts body) (codes " }") (join rest)
  stmt-join (empty m) rest = refl

  else-join : {A : Type 0} (o : Otherwise A) (rest : List Part) → join (else_parts o rest) ≡ printed_else o ++ join rest
  else-join no_else rest = refl
  else-join (otherwise s) rest = ap (λ x. codes " else " ++ x) (stmt-join s rest) ∙ two (codes " else ") (printed_stmt s) (join rest)

  pub stmts-join : {A : Type 0} (ss : Stmts A) (rest : List Part) → join (stmts_parts ss rest) ≡ printed_stmts ss ++ join rest
  stmts-join end rest = refl
  stmts-join (more s ss) rest =
      ap (λ x. 32 ∷ x) (stmt-join s _ ∙ ap (λ x. printed_stmt s ++ x) (stmts-join ss rest)) ∙ three (codes " ") (printed_stmt s) (printed_stmts ss) (join rest)

-- ---- the tokens

pub final-tokens : (f : Bool) (rest : List Part) → tokens (final_parts f rest) ≡ final_toks f ++ tokens rest
final-tokens true rest = refl
final-tokens false rest = refl

-- tokens with one behind them
closed : (a : List Token) (t : Token) (r : List Token) → a ++ (t ∷ r) ≡ (a ++ (t ∷ [])) ++ r
closed a t r = sym (append_assoc a (t ∷ []) r)

pub return-tokens : {A : Type 0} (m : A) (value : Option (Exp A)) (rest : List Part) → tokens (return_parts value rest) ≡ stmt_toks (return m value) ++ tokens rest
return-tokens m None rest = refl
return-tokens m (Some e) rest = ap (λ x. keyword Return ∷ x) (parts-tokens e _ ∙ closed (toks e) (symbol Semicolon) (tokens rest))

mutual
  pub stmt-tokens : {A : Type 0} (s : Stmt A) (rest : List Part) → tokens (stmt_parts s rest) ≡ stmt_toks s ++ tokens rest
  stmt-tokens (local m f t w e) rest =
      final-tokens f _
      ∙ ap (λ x. final_toks f ++ x) (type-tokens t _ ∙ ap (λ x. type_toks t ++ (word w.text ∷ symbol Equals ∷ x)) (parts-tokens e _ ∙ closed (toks e) (symbol Semicolon) (tokens rest))
      ∙ sym (append_assoc (type_toks t) _ (tokens rest)))
      ∙ sym (append_assoc (final_toks f) _ (tokens rest))
  stmt-tokens (eval m e) rest = parts-tokens e _ ∙ closed (toks e) (symbol Semicolon) (tokens rest)
  stmt-tokens (branch m c first other) rest =
      ap (λ x. keyword If ∷ symbol OpenParen ∷ x)
      (parts-tokens c _ ∙ ap (λ x. toks c ++ (symbol CloseParen ∷ x)) (stmt-tokens first _ ∙ ap (λ x. stmt_toks first ++ x) (else-tokens other rest) ∙ sym (append_assoc (stmt_toks first) (else_toks other) (tokens rest)))
      ∙ sym (append_assoc (toks c) _ (tokens rest)))
  stmt-tokens (loop m c body) rest =
      ap (λ x. keyword While ∷ symbol OpenParen ∷ x) (parts-tokens c _ ∙ ap (λ x. toks c ++ (symbol CloseParen ∷ x)) (stmt-tokens body rest) ∙ sym (append_assoc (toks c) _ (tokens rest)))
  stmt-tokens (return m value) rest = return-tokens m value rest
  stmt-tokens (block m body) rest = ap (λ x. symbol OpenBrace ∷ x) (stmts-tokens body _ ∙ closed (stmts_toks body) (symbol CloseBrace) (tokens rest))
  stmt-tokens (sync m e body) rest =
      ap (λ x. keyword Synchronized ∷ symbol OpenParen ∷ x)
      (parts-tokens e _ ∙ ap (λ x. toks e ++ (symbol CloseParen ∷ symbol OpenBrace ∷ x)) (stmts-tokens body _ ∙ closed (stmts_toks body) (symbol CloseBrace) (tokens rest)) ∙ sym (append_assoc (toks e) _ (tokens rest)))
  stmt-tokens (empty m) rest = refl

  else-tokens : {A : Type 0} (o : Otherwise A) (rest : List Part) → tokens (else_parts o rest) ≡ else_toks o ++ tokens rest
  else-tokens no_else rest = refl
  else-tokens (otherwise s) rest = ap (λ x. keyword Else ∷ x) (stmt-tokens s rest)

  pub stmts-tokens : {A : Type 0} (ss : Stmts A) (rest : List Part) → tokens (stmts_parts ss rest) ≡ stmts_toks ss ++ tokens rest
  stmts-tokens end rest = refl
  stmts-tokens (more s ss) rest = stmt-tokens s _ ∙ ap (λ x. stmt_toks s ++ x) (stmts-tokens ss rest) ∙ sym (append_assoc (stmt_toks s) (stmts_toks ss) (tokens rest))
