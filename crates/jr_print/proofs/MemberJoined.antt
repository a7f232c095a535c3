-- The parts of a member join to its text, and their tokens are its spelling.
use Rattle.std.proofs.Common.{◌≡◌, ℕ, List, [], ◌∷◌, ◌++◌, Option, Some, None, refl, sym, ap, ◌∙◌}
use Rattle.std.specs.Prelude.{codes}
use Rattle.std.proofs.lemmas.List.{append_assoc}
use Rattle.jr_lex.specs.declared.items.Keyword.TheVariants.{Class as ClassWord, Extends, Super, Void}
use Rattle.jr_lex.specs.declared.items.Symbol.TheVariants.{OpenParen, CloseParen, OpenBrace, CloseBrace, Semicolon, Comma, Equals}
use Rattle.jr_lex.specs.Words.{keyword_text}
use Rattle.jr_ast.specs.Tree.{TypeName, Exp, Exps}
use Rattle.jr_ast.specs.MemberTree.{Modifier, Param, Class, class, Member, field, method, constructor, inner, Members, end, more}
use Rattle.jr_grammar.specs.Tokens.{Token, word, keyword, symbol}
use Rattle.jr_grammar.specs.Spelling.{type_toks, toks, args_toks}
use Rattle.jr_grammar.specs.StatementSpelling.{final_toks, stmts_toks}
use Rattle.jr_grammar.specs.MemberSpelling.{modifier_keyword, modifiers_toks, param_toks, more_params_toks, params_toks, init_toks, result_toks, super_toks, extends_toks, class_toks, member_toks, members_toks}
use Rattle.jr_print.specs.ExpressionText.{printed_type, printed, printed_args}
use Rattle.jr_print.specs.StatementText.{printed_final, printed_stmts}
use Rattle.jr_print.specs.MemberText.{printed_modifiers, printed_param, printed_more_params, printed_params, printed_init, printed_result, printed_super, printed_extends, printed_class, printed_member, printed_members}
use Rattle.jr_print.proofs.TextParts.{Part, space, tok, join, tokens}
use Rattle.jr_print.proofs.ExpressionJoined.{type-join, parts-join, args-join, type-tokens, parts-tokens, args-tokens}
use Rattle.jr_print.proofs.StatementJoined.{final-join, final-tokens, stmts-join, stmts-tokens}
use Rattle.jr_print.proofs.MemberParts.{modifiers_parts, param_parts, more_params_parts, params_parts, init_parts, result_parts, super_parts, extends_parts, signature_parts, class_parts, member_parts, members_parts}

-- ---- the text

two : (a b r : List ℕ) → a ++ (b ++ r) ≡ (a ++ b) ++ r
two a b r = sym (append_assoc a b r)

three : (a b c r : List ℕ) → a ++ (b ++ (c ++ r)) ≡ ((a ++ b) ++ c) ++ r
three a b c r = simp append_assoc

modifiers-join : {A : Type 0} (ms : List (Modifier A)) (rest : List Part) → join (modifiers_parts ms rest) ≡ printed_modifiers ms ++ join rest
modifiers-join [] rest = refl
modifiers-join (m ∷ ms) rest =
    ap (λ x. keyword_text (modifier_keyword m.word) ++ (32 ∷ x)) (modifiers-join ms rest) ∙ three (keyword_text (modifier_keyword m.word)) (codes " ") (printed_modifiers ms) (join rest)

param-text : (f t w r : List ℕ) → f ++ (t ++ (32 ∷ (w ++ r))) ≡ (f ++ t ++ 32 ∷ [] ++ w) ++ r
param-text f t w r = simp append_assoc

param-join : {A : Type 0} (p : Param A) (rest : List Part) → join (param_parts p rest) ≡ printed_param p ++ join rest
param-join p rest =
    final-join p.is_final _ ∙ ap (λ x. printed_final p.is_final ++ x) (type-join p.type _) ∙ param-text (printed_final p.is_final) (printed_type p.type) p.name.text (join rest)

more_params-join : {A : Type 0} (ps : List (Param A)) (rest : List Part) → join (more_params_parts ps rest) ≡ printed_more_params ps ++ join rest
more_params-join [] rest = refl
more_params-join (p ∷ ps) rest =
    ap (λ x. 44 ∷ 32 ∷ x) (param-join p _ ∙ ap (λ x. printed_param p ++ x) (more_params-join ps rest)) ∙ three (codes ", ") (printed_param p) (printed_more_params ps) (join rest)

params-join : {A : Type 0} (ps : List (Param A)) (rest : List Part) → join (params_parts ps rest) ≡ printed_params ps ++ join rest
params-join [] rest = refl
params-join (p ∷ ps) rest = param-join p _ ∙ ap (λ x. printed_param p ++ x) (more_params-join ps rest) ∙ two (printed_param p) (printed_more_params ps) (join rest)

init-join : {A : Type 0} (init : Option (Exp A)) (rest : List Part) → join (init_parts init rest) ≡ printed_init init ++ join rest
init-join None rest = refl
init-join (Some e) rest = ap (λ x. codes " = " ++ x) (parts-join e rest) ∙ two (codes " = ") (printed e) (join rest)

result-join : {A : Type 0} (t : Option (TypeName A)) (rest : List Part) → join (result_parts t rest) ≡ printed_result t ++ join rest
result-join None rest = refl
result-join (Some t) rest = type-join t rest

super-join : {A : Type 0} (args : Option (Exps A)) (rest : List Part) → join (super_parts args rest) ≡ printed_super args ++ join rest
super-join None rest = refl
super-join (Some es) rest =
    ap (λ x. codes " super(" ++ x) (args-join es (tok (symbol CloseParen) ∷ tok (symbol Semicolon) ∷ rest)) ∙ three (codes " super(") (printed_args es) (codes ");") (join rest)

extends-join : {A : Type 0} (parent : Option (TypeName A)) (rest : List Part) → join (extends_parts parent rest) ≡ printed_extends parent ++ join rest
extends-join None rest = refl
extends-join (Some t) rest = ap (λ x. codes " extends " ++ x) (type-join t rest) ∙ two (codes " extends ") (printed_type t) (join rest)

signature-join : {A : Type 0} (ps : List (Param A)) (rest : List Part) → join (signature_parts ps rest) ≡ codes "(" ++ (printed_params ps ++ (codes ") {" ++ join rest))
signature-join ps rest = ap (λ x. 40 ∷ x) (params-join ps _)

-- the end of a body
closing : (body r : List ℕ) → body ++ (codes " }" ++ r) ≡ (body ++ codes " }") ++ r
closing body r = two body (codes " }") r

field-text : (m t w i r : List ℕ) → m ++ (t ++ (32 ∷ (w ++ (i ++ (59 ∷ r))))) ≡ (m ++ t ++ codes " " ++ w ++ i ++ codes ";") ++ r
field-text m t w i r = simp append_assoc

method-text : (m t w ps b r : List ℕ) → m ++ (t ++ (32 ∷ (w ++ (codes "(" ++ (ps ++ (codes ") {" ++ (b ++ (codes " }" ++ r)))))))) ≡ (m ++ t ++ codes " " ++ w ++ codes "(" ++ ps ++ codes ") {" ++ b ++ codes " }") ++ r
method-text m t w ps b r = simp append_assoc

constructor-text : (m w ps s b r : List ℕ) → m ++ (w ++ (codes "(" ++ (ps ++ (codes ") {" ++ (s ++ (b ++ (codes " }" ++ r))))))) ≡ (m ++ w ++ codes "(" ++ ps ++ codes ") {" ++ s ++ b ++ codes " }") ++ r
constructor-text m w ps s b r = simp append_assoc

class-text : (m w p b r : List ℕ) → m ++ (codes "class " ++ (w ++ (p ++ (codes " {" ++ (b ++ (codes " }" ++ r)))))) ≡ (m ++ codes "class " ++ w ++ p ++ codes " {" ++ b ++ codes " }") ++ r
class-text m w p b r = simp append_assoc

mutual
  class-join : {A : Type 0} (c : Class A) (rest : List Part) → join (class_parts c rest) ≡ printed_class c ++ join rest
  class-join (class m ms w parent all) rest =
      modifiers-join ms _
      ∙ ap (λ x. printed_modifiers ms ++ (codes "class " ++ (w.text ++ x))) (extends-join parent _ ∙ ap (λ x. printed_extends parent ++ (codes " {" ++ x)) (members-join all (space ∷ tok (symbol CloseBrace) ∷ rest)))
      ∙ class-text (printed_modifiers ms) w.text (printed_extends parent) (printed_members all) (join rest)

  pub member-join : {A : Type 0} (d : Member A) (rest : List Part) → join (member_parts d rest) ≡ printed_member d ++ join rest
  member-join (field m ms t w init) rest =
      modifiers-join ms _ ∙ ap (λ x. printed_modifiers ms ++ x) (type-join t _ ∙ ap (λ x. printed_type t ++ (32 ∷ (w.text ++ x))) (init-join init (tok (symbol Semicolon) ∷ rest)))
      ∙ field-text (printed_modifiers ms) (printed_type t) w.text (printed_init init) (join rest)
  member-join (method m ms t w ps body) rest =
      modifiers-join ms _
      ∙ ap (λ x. printed_modifiers ms ++ x) (result-join t _ ∙ ap (λ x. printed_result t ++ (32 ∷ (w.text ++ x))) (signature-join ps _
      ∙ ap (λ x. codes "(" ++ (printed_params ps ++ (codes ") {" ++ x))) (stmts-join body (space ∷ tok (symbol CloseBrace) ∷ rest))))
      ∙ method-text (printed_modifiers ms) (printed_result t) w.text (printed_params ps) (printed_stmts body) (join rest)
  member-join (constructor m ms w ps args body) rest =
      modifiers-join ms _
      ∙ ap (λ x. printed_modifiers ms ++ (w.text ++ x)) (signature-join ps _
      ∙ ap (λ x. codes "(" ++ (printed_params ps ++ (codes ") {" ++ x))) (super-join args _ ∙ ap (λ x. printed_super args ++ x) (stmts-join body (space ∷ tok (symbol CloseBrace) ∷ rest))))
      ∙ constructor-text (printed_modifiers ms) w.text (printed_params ps) (printed_super args) (printed_stmts body) (join rest)
  member-join (inner m c) rest = class-join c rest

  members-join : {A : Type 0} (ds : Members A) (rest : List Part) → join (members_parts ds rest) ≡ printed_members ds ++ join rest
  members-join end rest = refl
  members-join (more d ds) rest =
      ap (λ x. 32 ∷ x) (member-join d _ ∙ ap (λ x. printed_member d ++ x) (members-join ds rest)) ∙ three (codes " ") (printed_member d) (printed_members ds) (join rest)

-- ---- the tokens

-- tokens with one behind them
closed : (a : List Token) (t : Token) (r : List Token) → a ++ (t ∷ r) ≡ (a ++ (t ∷ [])) ++ r
closed a t r = sym (append_assoc a (t ∷ []) r)

modifiers-tokens : {A : Type 0} (ms : List (Modifier A)) (rest : List Part) → tokens (modifiers_parts ms rest) ≡ modifiers_toks ms ++ tokens rest
modifiers-tokens [] rest = refl
modifiers-tokens (m ∷ ms) rest = ap (λ x. keyword (modifier_keyword m.word) ∷ x) (modifiers-tokens ms rest)

param-tokens : {A : Type 0} (p : Param A) (rest : List Part) → tokens (param_parts p rest) ≡ param_toks p ++ tokens rest
param-tokens p rest =
    final-tokens p.is_final _ ∙ ap (λ x. final_toks p.is_final ++ x) (type-tokens p.type _ ∙ closed (type_toks p.type) (word p.name.text) (tokens rest)) ∙ sym (append_assoc (final_toks p.is_final) _ (tokens rest))

more_params-tokens : {A : Type 0} (ps : List (Param A)) (rest : List Part) → tokens (more_params_parts ps rest) ≡ more_params_toks ps ++ tokens rest
more_params-tokens [] rest = refl
more_params-tokens (p ∷ ps) rest =
    ap (λ x. symbol Comma ∷ x) (param-tokens p _ ∙ ap (λ x. param_toks p ++ x) (more_params-tokens ps rest) ∙ sym (append_assoc (param_toks p) (more_params_toks ps) (tokens rest)))

params-tokens : {A : Type 0} (ps : List (Param A)) (rest : List Part) → tokens (params_parts ps rest) ≡ params_toks ps ++ tokens rest
params-tokens [] rest = refl
params-tokens (p ∷ ps) rest = param-tokens p _ ∙ ap (λ x. param_toks p ++ x) (more_params-tokens ps rest) ∙ sym (append_assoc (param_toks p) (more_params_toks ps) (tokens rest))

init-tokens : {A : Type 0} (init : Option (Exp A)) (rest : List Part) → tokens (init_parts init rest) ≡ init_toks init ++ tokens rest
init-tokens None rest = refl
init-tokens (Some e) rest = ap (λ x. symbol Equals ∷ x) (parts-tokens e rest)

result-tokens : {A : Type 0} (t : Option (TypeName A)) (rest : List Part) → tokens (result_parts t rest) ≡ result_toks t ++ tokens rest
result-tokens None rest = refl
result-tokens (Some t) rest = type-tokens t rest

super-tokens : {A : Type 0} (args : Option (Exps A)) (rest : List Part) → tokens (super_parts args rest) ≡ super_toks args ++ tokens rest
super-tokens None rest = refl
super-tokens (Some es) rest = ap (λ x. keyword Super ∷ symbol OpenParen ∷ x) (args-tokens es _ ∙ sym (append_assoc (args_toks es) (symbol CloseParen ∷ symbol Semicolon ∷ []) (tokens rest)))

extends-tokens : {A : Type 0} (parent : Option (TypeName A)) (rest : List Part) → tokens (extends_parts parent rest) ≡ extends_toks parent ++ tokens rest
extends-tokens None rest = refl
extends-tokens (Some t) rest = ap (λ x. keyword Extends ∷ x) (type-tokens t rest)

signature-tokens : {A : Type 0} (ps : List (Param A)) (rest : List Part) (ts r : List Token) → tokens rest ≡ ts ++ r
    → tokens (signature_parts ps rest) ≡ (symbol OpenParen ∷ (params_toks ps ++ (symbol CloseParen ∷ symbol OpenBrace ∷ ts))) ++ r
signature-tokens ps rest ts r e =
    ap (λ x. symbol OpenParen ∷ x) (params-tokens ps _ ∙ ap (λ x. params_toks ps ++ (symbol CloseParen ∷ symbol OpenBrace ∷ x)) e ∙ sym (append_assoc (params_toks ps) (symbol CloseParen ∷ symbol OpenBrace ∷ ts) r))

mutual
  class-tokens : {A : Type 0} (c : Class A) (rest : List Part) → tokens (class_parts c rest) ≡ class_toks c ++ tokens rest
  class-tokens (class m ms w parent all) rest =
      modifiers-tokens ms _
      ∙ ap (λ x. modifiers_toks ms ++ (keyword ClassWord ∷ word w.text ∷ x)) (extends-tokens parent _
      ∙ ap (λ x. extends_toks parent ++ (symbol OpenBrace ∷ x)) (members-tokens all _ ∙ closed (members_toks all) (symbol CloseBrace) (tokens rest))
      ∙ sym (append_assoc (extends_toks parent) _ (tokens rest)))
      ∙ sym (append_assoc (modifiers_toks ms) _ (tokens rest))

  pub member-tokens : {A : Type 0} (d : Member A) (rest : List Part) → tokens (member_parts d rest) ≡ member_toks d ++ tokens rest
  member-tokens (field m ms t w init) rest =
      modifiers-tokens ms _
      ∙ ap (λ x. modifiers_toks ms ++ x) (type-tokens t _ ∙ ap (λ x. type_toks t ++ (word w.text ∷ x)) (init-tokens init _ ∙ closed (init_toks init) (symbol Semicolon) (tokens rest))
      ∙ sym (append_assoc (type_toks t) _ (tokens rest)))
      ∙ sym (append_assoc (modifiers_toks ms) _ (tokens rest))
  member-tokens (method m ms t w ps body) rest =
      modifiers-tokens ms _
      ∙ ap (λ x. modifiers_toks ms ++ x) (result-tokens t _
      ∙ ap (λ x. result_toks t ++ (word w.text ∷ x)) (signature-tokens ps _ _ (tokens rest) (stmts-tokens body _ ∙ closed (stmts_toks body) (symbol CloseBrace) (tokens rest)))
      ∙ sym (append_assoc (result_toks t) _ (tokens rest)))
      ∙ sym (append_assoc (modifiers_toks ms) _ (tokens rest))
  member-tokens (constructor m ms w ps args body) rest =
      modifiers-tokens ms _
      ∙ ap (λ x. modifiers_toks ms ++ (word w.text ∷ x)) (signature-tokens ps _ _ (tokens rest) (super-tokens args _
      ∙ ap (λ x. super_toks args ++ x) (stmts-tokens body _ ∙ closed (stmts_toks body) (symbol CloseBrace) (tokens rest)) ∙ sym (append_assoc (super_toks args) _ (tokens rest))))
      ∙ sym (append_assoc (modifiers_toks ms) _ (tokens rest))
  member-tokens (inner m c) rest = class-tokens c rest

  members-tokens : {A : Type 0} (ds : Members A) (rest : List Part) → tokens (members_parts ds rest) ≡ members_toks ds ++ tokens rest
  members-tokens end rest = refl
  members-tokens (more d ds) rest = member-tokens d _ ∙ ap (λ x. member_toks d ++ x) (members-tokens ds rest) ∙ sym (append_assoc (member_toks d) (members_toks ds) (tokens rest))
