-- No two parts of a printed statement run together.
use Rattle.std.proofs.Common.{Bool, true, false, List, ◌∷◌, Option, Some, None, refl}
use Rattle.jr_lex.specs.declared.items.ItemKind.TheVariants as item
use Rattle.jr_lex.specs.declared.items.Symbol.TheVariants.{OpenParen, CloseParen, OpenBrace, CloseBrace, Semicolon, Equals}
use Rattle.jr_ast.specs.Tree.{TypeName, Exp}
use Rattle.jr_ast.specs.StatementTree.{Stmt, local, eval, branch, loop, return, block, sync, empty, Else as Otherwise, no_else, otherwise, Stmts, end, more}
use Rattle.jr_grammar.specs.Tokens.{word, keyword, symbol}
use Rattle.jr_grammar.specs.Shape.{Shaped}
use Rattle.jr_grammar.specs.StatementShape.{ShapedValue, StmtShaped, ElseShaped, StmtsShaped}
use Rattle.jr_print.proofs.TextParts.{Part, space, tok}
use Rattle.jr_print.proofs.ExpressionParts.{type_parts, parts}
use Rattle.jr_print.proofs.StatementParts.{final_parts, return_parts, stmt_parts, else_parts, stmts_parts}
use Rattle.jr_print.proofs.Beside.{Apart, Behind, behind_open, behind_semicolon, behind_brace, behind_open_brace}
use Rattle.jr_print.proofs.ExpressionApart.{space_before, space_before_type, type_apart, apart}

pub final_apart : {A : Type 0} (f : Bool) (t : TypeName A) (rest : List Part) → Apart (type_parts t rest) → Apart (final_parts f (type_parts t rest))
final_apart true t rest a = (refl, (space_before_type t rest, a))
final_apart false t rest a = a

pub space_before_final : {A : Type 0} (f : Bool) (t : TypeName A) (rest : List Part) → Behind item.Blank (final_parts f (type_parts t rest))
space_before_final true t rest = refl
space_before_final false t rest = space_before_type t rest

space_before_stmt : {A : Type 0} (s : Stmt A) (rest : List Part) → Behind item.Blank (stmt_parts s rest)
space_before_stmt (local m f t w e) rest = space_before_final f t _
space_before_stmt (eval m e) rest = space_before e _
space_before_stmt (branch m c first other) rest = refl
space_before_stmt (loop m c body) rest = refl
space_before_stmt (return m None) rest = refl
space_before_stmt (return m (Some e)) rest = refl
space_before_stmt (block m body) rest = refl
space_before_stmt (sync m e body) rest = refl
space_before_stmt (empty m) rest = refl

-- an expression with a semicolon behind it
pub ended_apart : {A : Type 0} (e : Exp A) → Shaped e → (rest : List Part) → Apart rest → Apart (parts e (tok (symbol Semicolon) ∷ rest))
ended_apart e h rest a = apart false e h (tok (symbol Semicolon) ∷ rest) (behind_semicolon rest, a) refl

-- a space, a condition in parentheses, and a space
condition_apart : {A : Type 0} (e : Exp A) → Shaped e → (rest : List Part) → Behind item.Blank rest → Apart rest → Apart (space ∷ tok (symbol OpenParen) ∷ parts e (tok (symbol CloseParen) ∷ space ∷ rest))
condition_apart e h rest b a = (refl, (behind_open _, apart false e h (tok (symbol CloseParen) ∷ space ∷ rest) (refl, (b, a)) refl))

return_apart : {A : Type 0} (value : Option (Exp A)) → ShapedValue value → (rest : List Part) → Apart rest → Apart (return_parts value rest)
return_apart None h rest a = (refl, (behind_semicolon rest, a))
return_apart (Some e) h rest a = (refl, (space_before e _, ended_apart e h rest a))

-- the end of a block
pub closing_apart : (rest : List Part) → Apart rest → Apart (space ∷ tok (symbol CloseBrace) ∷ rest)
closing_apart rest a = (refl, (behind_brace rest, a))

mutual
  pub stmt_apart : {A : Type 0} (s : Stmt A) → StmtShaped s → (rest : List Part) → Apart rest → Apart (stmt_parts s rest)
  stmt_apart (local m f t w e) h rest a =
      final_apart f t _ (type_apart t (space ∷ tok (word w.text) ∷ space ∷ tok (symbol Equals) ∷ space ∷ parts e (tok (symbol Semicolon) ∷ rest)) (refl, (refl, (refl, (refl, (space_before e _, ended_apart e h rest a))))) refl)
  stmt_apart (eval m e) h rest a = ended_apart e h.1 rest a
  stmt_apart (branch m c first other) h rest a =
      (refl, condition_apart c h.0 (stmt_parts first (else_parts other rest)) (space_before_stmt first _) (stmt_apart first h.2 (else_parts other rest) (else_apart first other h.3 rest a)))
  stmt_apart (loop m c body) h rest a = (refl, condition_apart c h.0 (stmt_parts body rest) (space_before_stmt body _) (stmt_apart body h.2 rest a))
  stmt_apart (return m value) h rest a = return_apart value h rest a
  stmt_apart (block m body) h rest a = (behind_open_brace _, stmts_apart body h (space ∷ tok (symbol CloseBrace) ∷ rest) (closing_apart rest a))
  stmt_apart (sync m e body) h rest a = (
    refl,
    condition_apart e h.0 (tok (symbol OpenBrace) ∷ stmts_parts body (space ∷ tok (symbol CloseBrace) ∷ rest)) refl
        (behind_open_brace _, stmts_apart body h.1 (space ∷ tok (symbol CloseBrace) ∷ rest) (closing_apart rest a)),
  )
  stmt_apart (empty m) h rest a = (behind_semicolon rest, a)

  else_apart : {A : Type 0} (first : Stmt A) (o : Otherwise A) → ElseShaped first o → (rest : List Part) → Apart rest → Apart (else_parts o rest)
  else_apart first no_else h rest a = a
  else_apart first (otherwise s) h rest a = (refl, (refl, (space_before_stmt s rest, stmt_apart s h.2 rest a)))

  pub stmts_apart : {A : Type 0} (ss : Stmts A) → StmtsShaped ss → (rest : List Part) → Apart rest → Apart (stmts_parts ss rest)
  stmts_apart end h rest a = a
  stmts_apart (more s ss) h rest a = (space_before_stmt s _, stmt_apart s h.0 (stmts_parts ss rest) (stmts_apart ss h.1 rest a))
