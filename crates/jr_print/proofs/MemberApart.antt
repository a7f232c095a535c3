-- No two parts of a printed member run together.
use Rattle.std.proofs.Common.{◌≡◌, ℕ, Bool, true, false, List, [], ◌∷◌, Option, Some, None, refl}
use Rattle.jr_lex.specs.declared.items.ItemKind.TheVariants as item
use Rattle.jr_lex.specs.declared.items.TokenKind.TheVariants as kind
use Rattle.jr_lex.specs.declared.items.Keyword.TheVariants.{Void}
use Rattle.jr_lex.specs.declared.items.Symbol.TheVariants.{OpenParen, CloseParen, OpenBrace, CloseBrace, Semicolon, Comma, Equals}
use Rattle.jr_ast.specs.Tree.{TypeName, Exp, Exps}
use Rattle.jr_ast.specs.MemberTree.{Modifier, Param, Class, class, Member, field, method, constructor, inner, Members, end, more}
use Rattle.jr_grammar.specs.Tokens.{word, keyword, symbol}
use Rattle.jr_grammar.specs.StatementShape.{ShapedValue}
use Rattle.jr_grammar.specs.MemberShape.{ShapedArgs, ClassShaped, MemberShaped, MembersShaped}
use Rattle.jr_print.proofs.TextParts.{Part, space, tok}
use Rattle.jr_print.proofs.ExpressionParts.{type_parts, args_parts}
use Rattle.jr_print.proofs.StatementParts.{final_parts, stmts_parts}
use Rattle.jr_print.proofs.MemberParts.{modifiers_parts, param_parts, more_params_parts, params_parts, init_parts, result_parts, super_parts, extends_parts, signature_parts, class_parts, member_parts, members_parts}
use Rattle.jr_print.proofs.Beside.{Apart, Behind, first_ok, after_word, behind_word, behind_keyword, behind_open, behind_semicolon, behind_open_brace}
use Rattle.jr_print.proofs.ExpressionApart.{space_before, space_before_type, type_apart, in_parens_apart}
use Rattle.jr_print.proofs.StatementApart.{final_apart, space_before_final, ended_apart, closing_apart, stmts_apart}

-- ---- modifiers and parameters

modifiers_apart : {A : Type 0} (ms : List (Modifier A)) (rest : List Part) → Behind item.Blank rest → Apart rest → Apart (modifiers_parts ms rest)
modifiers_apart [] rest b a = a
modifiers_apart (m ∷ []) rest b a = (refl, (b, a))
modifiers_apart (m ∷ n ∷ ms) rest b a = (refl, (refl, modifiers_apart (n ∷ ms) rest b a))

space_before_modifiers : {A : Type 0} (ms : List (Modifier A)) (rest : List Part) → Behind item.Blank rest → Behind item.Blank (modifiers_parts ms rest)
space_before_modifiers [] rest b = b
space_before_modifiers (m ∷ ms) rest b = refl

param_apart : {A : Type 0} (p : Param A) (rest : List Part) → Apart rest → first_ok after_word rest ≡ true → Apart (param_parts p rest)
param_apart p rest a f = final_apart p.is_final p.type _ (type_apart p.type (space ∷ tok (word p.name.text) ∷ rest) (refl, (behind_word rest f, a)) refl)

more_params_follow : {A : Type 0} (ps : List (Param A)) (rest : List Part) → first_ok after_word rest ≡ true → first_ok after_word (more_params_parts ps rest) ≡ true
more_params_follow [] rest f = f
more_params_follow (p ∷ ps) rest f = refl

more_params_apart : {A : Type 0} (ps : List (Param A)) (rest : List Part) → Apart rest → first_ok after_word rest ≡ true → Apart (more_params_parts ps rest)
more_params_apart [] rest a f = a
more_params_apart (p ∷ ps) rest a f = (refl, (space_before_final p.is_final p.type _, param_apart p (more_params_parts ps rest) (more_params_apart ps rest a f) (more_params_follow ps rest f)))

params_apart : {A : Type 0} (ps : List (Param A)) (rest : List Part) → Apart rest → first_ok after_word rest ≡ true → Apart (params_parts ps rest)
params_apart [] rest a f = a
params_apart (p ∷ ps) rest a f = param_apart p (more_params_parts ps rest) (more_params_apart ps rest a f) (more_params_follow ps rest f)

signature_apart : {A : Type 0} (ps : List (Param A)) (rest : List Part) → Apart rest → Apart (signature_parts ps rest)
signature_apart ps rest a = (behind_open _, params_apart ps (tok (symbol CloseParen) ∷ space ∷ tok (symbol OpenBrace) ∷ rest) (refl, (refl, (behind_open_brace rest, a))) refl)

-- ---- what may be missing

init_apart : {A : Type 0} (init : Option (Exp A)) → ShapedValue init → (w : List ℕ) (rest : List Part) → Apart rest → Apart (tok (word w) ∷ init_parts init (tok (symbol Semicolon) ∷ rest))
init_apart None h w rest a = (refl, (behind_semicolon rest, a))
init_apart (Some e) h w rest a = (refl, (refl, (refl, (space_before e _, ended_apart e h rest a))))

result_apart : {A : Type 0} (t : Option (TypeName A)) (rest : List Part) → Apart rest → first_ok after_word rest ≡ true → Apart (result_parts t rest)
result_apart None rest a f = (behind_keyword Void rest f, a)
result_apart (Some t) rest a f = type_apart t rest a f

space_before_result : {A : Type 0} (t : Option (TypeName A)) (rest : List Part) → Behind item.Blank (result_parts t rest)
space_before_result None rest = refl
space_before_result (Some t) rest = space_before_type t rest

super_apart : {A : Type 0} (args : Option (Exps A)) → ShapedArgs args → (rest : List Part) → Apart rest → Apart (super_parts args rest)
super_apart None h rest a = a
super_apart (Some es) h rest a = (refl, (refl, in_parens_apart es h (tok (symbol Semicolon) ∷ rest) (behind_semicolon rest, a)))

-- a class's name and superclass, and the brace of its body
extends_apart : {A : Type 0} (parent : Option (TypeName A)) (w : List ℕ) (rest : List Part) → Apart rest → Apart (tok (word w) ∷ extends_parts parent (space ∷ tok (symbol OpenBrace) ∷ rest))
extends_apart None w rest a = (refl, (refl, (behind_open_brace rest, a)))
extends_apart (Some t) w rest a = (refl, (refl, (refl, (space_before_type t _, type_apart t (space ∷ tok (symbol OpenBrace) ∷ rest) (refl, (behind_open_brace rest, a)) refl))))

-- ---- members and classes

space_before_class : {A : Type 0} (c : Class A) (rest : List Part) → Behind item.Blank (class_parts c rest)
space_before_class (class m ms w parent all) rest = space_before_modifiers ms _ refl

space_before_member : {A : Type 0} (d : Member A) (rest : List Part) → Behind item.Blank (member_parts d rest)
space_before_member (field m ms t w init) rest = space_before_modifiers ms _ (space_before_type t _)
space_before_member (method m ms t w ps body) rest = space_before_modifiers ms _ (space_before_result t _)
space_before_member (constructor m ms w ps args body) rest = space_before_modifiers ms _ refl
space_before_member (inner m c) rest = space_before_class c rest

mutual
  class_apart : {A : Type 0} (nested : Bool) (c : Class A) → ClassShaped nested c → (rest : List Part) → Apart rest → Apart (class_parts c rest)
  class_apart nested (class m ms w parent all) h rest a =
      modifiers_apart ms _ refl (refl, (refl, extends_apart parent w.text (members_parts all (space ∷ tok (symbol CloseBrace) ∷ rest)) (members_apart nested w.text all h.1 (space ∷ tok (symbol CloseBrace) ∷ rest) (closing_apart rest a))))

  pub member_apart : {A : Type 0} (nested : Bool) (name : List ℕ) (d : Member A) → MemberShaped nested name d → (rest : List Part) → Apart rest → Apart (member_parts d rest)
  member_apart nested name (field m ms t w init) h rest a =
      modifiers_apart ms _ (space_before_type t _) (type_apart t (space ∷ tok (word w.text) ∷ init_parts init (tok (symbol Semicolon) ∷ rest)) (refl, init_apart init h w.text rest a) refl)
  member_apart nested name (method m ms t w ps body) h rest a =
      let inside : Apart (stmts_parts body (space ∷ tok (symbol CloseBrace) ∷ rest)) = stmts_apart body h (space ∷ tok (symbol CloseBrace) ∷ rest) (closing_apart rest a) in
      modifiers_apart ms _ (space_before_result t _)
      (result_apart t (space ∷ tok (word w.text) ∷ signature_parts ps (stmts_parts body (space ∷ tok (symbol CloseBrace) ∷ rest))) (refl, (refl, signature_apart ps (stmts_parts body (space ∷ tok (symbol CloseBrace) ∷ rest)) inside)) refl)
  member_apart nested name (constructor m ms w ps args body) h rest a =
      let inside : Apart (stmts_parts body (space ∷ tok (symbol CloseBrace) ∷ rest)) = stmts_apart body h.2 (space ∷ tok (symbol CloseBrace) ∷ rest) (closing_apart rest a) in
      modifiers_apart ms _ refl (refl, signature_apart ps (super_parts args (stmts_parts body (space ∷ tok (symbol CloseBrace) ∷ rest))) (super_apart args h.1 (stmts_parts body (space ∷ tok (symbol CloseBrace) ∷ rest)) inside))
  member_apart nested name (inner m c) h rest a = class_apart true c h.1 rest a

  members_apart : {A : Type 0} (nested : Bool) (name : List ℕ) (ds : Members A) → MembersShaped nested name ds → (rest : List Part) → Apart rest → Apart (members_parts ds rest)
  members_apart nested name end h rest a = a
  members_apart nested name (more d ds) h rest a = (space_before_member d _, member_apart nested name d h.0 (members_parts ds rest) (members_apart nested name ds h.1 rest a))
