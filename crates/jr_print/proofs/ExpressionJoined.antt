-- The parts of an expression join to its text, and their tokens are its spelling.
use Rattle.std.proofs.Common.{◌≡◌, ℕ, true, false, eqb, cond, List, [], ◌∷◌, ◌++◌, Option, Some, None, refl, sym, ap, ◌∙◌}
use Rattle.std.specs.Prelude.{codes}
use Rattle.std.proofs.lemmas.List.{append_assoc}
use Rattle.jr_lex.specs.Characters.{first_passes}
use Rattle.jr_lex.specs.Symbols.{symbol_text}
use Rattle.jr_lex.specs.declared.items.Keyword.TheVariants.{New, Super}
use Rattle.jr_lex.specs.declared.items.Symbol.TheVariants.{OpenParen, CloseParen, Comma, Dot, Equals, Plus as PlusSign, Minus as MinusSign, PlusPlus, MinusMinus}
use Rattle.jr_ast.specs.declared.operators.UnOp.{UnOp}
use Rattle.jr_ast.specs.declared.operators.UnOp.TheVariants.{Plus, Minus, Not}
use Rattle.jr_ast.specs.declared.operators.BumpOp.{BumpOp}
use Rattle.jr_ast.specs.declared.operators.BumpOp.TheVariants.{PreInc, PreDec, PostInc, PostDec}
use Rattle.jr_ast.specs.Tree.{Word, TypeName, int, boolean, named, Exp, number, truth, null, string, name, field, super_field, this, class_literal, call, super_call, create, paren, cast, unary, bump, binary, assign, compound, Target, no_target, on, Exps, end, more}
use Rattle.jr_grammar.specs.Tokens.{Token, word, keyword, text, symbol}
use Rattle.jr_grammar.specs.Spelling.{unary_symbol, binary_symbol, compound_symbol, bump_toks, name_toks, type_toks, toks, target_toks, args_toks, more_toks}
use Rattle.jr_print.specs.ExpressionText.{printed_name, printed_type, printed_unary, before_text, behind_text, printed_dot, printed, printed_target, printed_args, printed_more}
use Rattle.jr_print.proofs.TextParts.{Part, space, tok, join, tokens}
use Rattle.jr_print.proofs.ExpressionParts.{name_parts, type_parts, dot_parts, unary_parts, before_parts, behind_parts, parts, target_parts, args_parts, more_parts}

-- ---- the text

two : (a b r : List ℕ) → a ++ (b ++ r) ≡ (a ++ b) ++ r
two a b r = sym (append_assoc a b r)

three : (a b c r : List ℕ) → a ++ (b ++ (c ++ r)) ≡ ((a ++ b) ++ c) ++ r
three a b c r = simp append_assoc

four : (a b c d r : List ℕ) → a ++ (b ++ (c ++ (d ++ r))) ≡ (((a ++ b) ++ c) ++ d) ++ r
four a b c d r = simp append_assoc

five : (a b c d e r : List ℕ) → a ++ (b ++ (c ++ (d ++ (e ++ r)))) ≡ ((((a ++ b) ++ c) ++ d) ++ e) ++ r
five a b c d e r = simp append_assoc

-- an operator with its spaces
infixed : (a s b r : List ℕ) → a ++ (32 ∷ (s ++ (32 ∷ (b ++ r)))) ≡ ((a ++ ((32 ∷ s) ++ 32 ∷ [])) ++ b) ++ r
infixed a s b r = simp append_assoc

pub name-join : {A : Type 0} (o : Option (Word A)) (w : Word A) (rest : List Part) → join (name_parts o w rest) ≡ printed_name o w ++ join rest
name-join None w rest = refl
name-join (Some o) w rest = three o.text (codes ".") w.text (join rest)

pub type-join : {A : Type 0} (t : TypeName A) (rest : List Part) → join (type_parts t rest) ≡ printed_type t ++ join rest
type-join (int m) rest = refl
type-join (boolean m) rest = refl
type-join (named m o w) rest = name-join o w rest

dot-join : {A : Type 0} (e : Exp A) (rest : List Part) → join (dot_parts e rest) ≡ printed_dot e ++ join rest
dot-join (number m n) rest = refl
dot-join _ rest = refl

unary-join : (o : UnOp) (operand : List ℕ) (rest : List Part) (after : List ℕ) → join rest ≡ operand ++ after → join (unary_parts o operand rest) ≡ printed_unary o operand ++ after
unary-join Plus operand rest after e =
    elim (first_passes (λ c. eqb c 43) operand) as (λ b. join (cond b (tok (symbol PlusSign) ∷ space ∷ rest) (tok (symbol PlusSign) ∷ rest)) ≡ cond b (43 ∷ 32 ∷ operand) (43 ∷ operand) ++ after) [
      | true ↦ ap (λ x. 43 ∷ 32 ∷ x) e
      | false ↦ ap (λ x. 43 ∷ x) e
    ]
unary-join Minus operand rest after e =
    elim (first_passes (λ c. eqb c 45) operand) as (λ b. join (cond b (tok (symbol MinusSign) ∷ space ∷ rest) (tok (symbol MinusSign) ∷ rest)) ≡ cond b (45 ∷ 32 ∷ operand) (45 ∷ operand) ++ after) [
      | true ↦ ap (λ x. 45 ∷ 32 ∷ x) e
      | false ↦ ap (λ x. 45 ∷ x) e
    ]
unary-join Not operand rest after e = ap (λ x. 33 ∷ x) e

before-join : (o : BumpOp) (rest : List Part) → join (before_parts o rest) ≡ before_text o ++ join rest
before-join PreInc rest = refl
before-join PreDec rest = refl
before-join PostInc rest = refl
before-join PostDec rest = refl

behind-join : (o : BumpOp) (rest : List Part) → join (behind_parts o rest) ≡ behind_text o ++ join rest
behind-join PreInc rest = refl
behind-join PreDec rest = refl
behind-join PostInc rest = refl
behind-join PostDec rest = refl

mutual
  pub parts-join : {A : Type 0} (e : Exp A) (rest : List Part) → join (parts e rest) ≡ printed e ++ join rest
  parts-join (number m n) rest = refl
  parts-join (truth m true) rest = refl
  parts-join (truth m false) rest = refl
  parts-join (null m) rest = refl
  parts-join (string m s) rest = refl
  parts-join (name m w) rest = refl
  parts-join (field m e w) rest =
      parts-join e (dot_parts e (tok (word w.text) ∷ rest)) ∙ ap (λ x. printed e ++ x) (dot-join e (tok (word w.text) ∷ rest)) ∙ three (printed e) (printed_dot e) w.text (join rest)
  parts-join (super_field m w) rest = refl
  parts-join (this m) rest = refl
  parts-join (class_literal m t) rest = type-join t _ ∙ two (printed_type t) (codes ".class") (join rest)
  parts-join (call m t w es) rest =
      target-join t _ ∙ ap (λ x. printed_target t ++ (w.text ++ (40 ∷ x))) (args-join es (tok (symbol CloseParen) ∷ rest))
      ∙ five (printed_target t) w.text (codes "(") (printed_args es) (codes ")") (join rest)
  parts-join (super_call m w es) rest =
      ap (λ x. codes "super." ++ (w.text ++ (40 ∷ x))) (args-join es (tok (symbol CloseParen) ∷ rest))
      ∙ five (codes "super.") w.text (codes "(") (printed_args es) (codes ")") (join rest)
  parts-join (create m t es) rest =
      ap (λ x. codes "new " ++ x) (type-join t _ ∙ ap (λ x. printed_type t ++ (40 ∷ x)) (args-join es (tok (symbol CloseParen) ∷ rest)))
      ∙ five (codes "new ") (printed_type t) (codes "(") (printed_args es) (codes ")") (join rest)
  parts-join (paren m e) rest = ap (λ x. 40 ∷ x) (parts-join e (tok (symbol CloseParen) ∷ rest)) ∙ three (codes "(") (printed e) (codes ")") (join rest)
  parts-join (cast m t e) rest =
      ap (λ x. 40 ∷ x) (type-join t _ ∙ ap (λ x. printed_type t ++ (41 ∷ 32 ∷ x)) (parts-join e rest)) ∙ four (codes "(") (printed_type t) (codes ") ") (printed e) (join rest)
  parts-join (unary m o e) rest = unary-join o (printed e) (parts e rest) (join rest) (parts-join e rest)
  parts-join (bump m o e) rest =
      before-join o _ ∙ ap (λ x. before_text o ++ x) (parts-join e (behind_parts o rest) ∙ ap (λ x. printed e ++ x) (behind-join o rest))
      ∙ three (before_text o) (printed e) (behind_text o) (join rest)
  parts-join (binary m o l r) rest =
      parts-join l _ ∙ ap (λ x. printed l ++ (32 ∷ (symbol_text (binary_symbol o) ++ (32 ∷ x)))) (parts-join r rest)
      ∙ infixed (printed l) (symbol_text (binary_symbol o)) (printed r) (join rest)
  parts-join (assign m t e) rest =
      parts-join t _ ∙ ap (λ x. printed t ++ (32 ∷ 61 ∷ 32 ∷ x)) (parts-join e rest) ∙ three (printed t) (codes " = ") (printed e) (join rest)
  parts-join (compound m o t e) rest =
      parts-join t _ ∙ ap (λ x. printed t ++ (32 ∷ (symbol_text (compound_symbol o) ++ (32 ∷ x)))) (parts-join e rest)
      ∙ infixed (printed t) (symbol_text (compound_symbol o)) (printed e) (join rest)

  target-join : {A : Type 0} (t : Target A) (rest : List Part) → join (target_parts t rest) ≡ printed_target t ++ join rest
  target-join no_target rest = refl
  target-join (on e) rest = parts-join e (dot_parts e rest) ∙ ap (λ x. printed e ++ x) (dot-join e rest) ∙ two (printed e) (printed_dot e) (join rest)

  pub args-join : {A : Type 0} (es : Exps A) (rest : List Part) → join (args_parts es rest) ≡ printed_args es ++ join rest
  args-join end rest = refl
  args-join (more e es) rest = parts-join e _ ∙ ap (λ x. printed e ++ x) (more-join es rest) ∙ two (printed e) (printed_more es) (join rest)

  more-join : {A : Type 0} (es : Exps A) (rest : List Part) → join (more_parts es rest) ≡ printed_more es ++ join rest
  more-join end rest = refl
  more-join (more e es) rest =
      ap (λ x. 44 ∷ 32 ∷ x) (parts-join e _ ∙ ap (λ x. printed e ++ x) (more-join es rest)) ∙ three (codes ", ") (printed e) (printed_more es) (join rest)

-- ---- the tokens

pub name-tokens : {A : Type 0} (o : Option (Word A)) (w : Word A) (rest : List Part) → tokens (name_parts o w rest) ≡ name_toks o w ++ tokens rest
name-tokens None w rest = refl
name-tokens (Some o) w rest = refl

pub type-tokens : {A : Type 0} (t : TypeName A) (rest : List Part) → tokens (type_parts t rest) ≡ type_toks t ++ tokens rest
type-tokens (int m) rest = refl
type-tokens (boolean m) rest = refl
type-tokens (named m o w) rest = name-tokens o w rest

dot-tokens : {A : Type 0} (e : Exp A) (rest : List Part) → tokens (dot_parts e rest) ≡ symbol Dot ∷ tokens rest
dot-tokens (number m n) rest = refl
dot-tokens _ rest = refl

unary-tokens : (o : UnOp) (operand : List ℕ) (rest : List Part) → tokens (unary_parts o operand rest) ≡ symbol (unary_symbol o) ∷ tokens rest
unary-tokens Plus operand rest =
    elim (first_passes (λ c. eqb c 43) operand) as (λ b. tokens (cond b (tok (symbol PlusSign) ∷ space ∷ rest) (tok (symbol PlusSign) ∷ rest)) ≡ symbol PlusSign ∷ tokens rest) [ true ↦ refl | false ↦ refl ]
unary-tokens Minus operand rest =
    elim (first_passes (λ c. eqb c 45) operand) as (λ b. tokens (cond b (tok (symbol MinusSign) ∷ space ∷ rest) (tok (symbol MinusSign) ∷ rest)) ≡ symbol MinusSign ∷ tokens rest) [ true ↦ refl | false ↦ refl ]
unary-tokens Not operand rest = refl

bump-tokens : (o : BumpOp) (of : List Part → List Part) (ts : List Token) (rest : List Part) → ((r : List Part) → tokens (of r) ≡ ts ++ tokens r)
    → tokens (before_parts o (of (behind_parts o rest))) ≡ bump_toks o ts ++ tokens rest
bump-tokens PreInc of ts rest e = ap (λ x. symbol PlusPlus ∷ x) (e rest)
bump-tokens PreDec of ts rest e = ap (λ x. symbol MinusMinus ∷ x) (e rest)
bump-tokens PostInc of ts rest e = e _ ∙ sym (append_assoc ts (symbol PlusPlus ∷ []) (tokens rest))
bump-tokens PostDec of ts rest e = e _ ∙ sym (append_assoc ts (symbol MinusMinus ∷ []) (tokens rest))

-- tokens with one behind them
closed : (a : List Token) (t : Token) (r : List Token) → a ++ (t ∷ r) ≡ (a ++ (t ∷ [])) ++ r
closed a t r = sym (append_assoc a (t ∷ []) r)

between : (a : List Token) (t : Token) (b r : List Token) → a ++ (t ∷ (b ++ r)) ≡ (a ++ (t ∷ b)) ++ r
between a t b r = sym (append_assoc a (t ∷ b) r)

mutual
  pub parts-tokens : {A : Type 0} (e : Exp A) (rest : List Part) → tokens (parts e rest) ≡ toks e ++ tokens rest
  parts-tokens (number m n) rest = refl
  parts-tokens (truth m b) rest = refl
  parts-tokens (null m) rest = refl
  parts-tokens (string m s) rest = refl
  parts-tokens (name m w) rest = refl
  parts-tokens (field m e w) rest = parts-tokens e _ ∙ ap (λ x. toks e ++ x) (dot-tokens e _) ∙ between (toks e) (symbol Dot) (word w.text ∷ []) (tokens rest)
  parts-tokens (super_field m w) rest = refl
  parts-tokens (this m) rest = refl
  parts-tokens (class_literal m t) rest = type-tokens t _ ∙ sym (append_assoc (type_toks t) _ (tokens rest))
  parts-tokens (call m t w es) rest =
      target-tokens t _ ∙ ap (λ x. target_toks t ++ (word w.text ∷ symbol OpenParen ∷ x)) (args-tokens es _ ∙ closed (args_toks es) (symbol CloseParen) (tokens rest))
      ∙ sym (append_assoc (target_toks t) _ (tokens rest))
  parts-tokens (super_call m w es) rest = ap (λ x. keyword Super ∷ symbol Dot ∷ word w.text ∷ symbol OpenParen ∷ x) (args-tokens es _ ∙ closed (args_toks es) (symbol CloseParen) (tokens rest))
  parts-tokens (create m t es) rest =
      ap (λ x. keyword New ∷ x) (type-tokens t _ ∙ ap (λ x. type_toks t ++ (symbol OpenParen ∷ x)) (args-tokens es _ ∙ closed (args_toks es) (symbol CloseParen) (tokens rest))
      ∙ sym (append_assoc (type_toks t) _ (tokens rest)))
  parts-tokens (paren m e) rest = ap (λ x. symbol OpenParen ∷ x) (parts-tokens e _ ∙ closed (toks e) (symbol CloseParen) (tokens rest))
  parts-tokens (cast m t e) rest =
      ap (λ x. symbol OpenParen ∷ x) (type-tokens t _ ∙ ap (λ x. type_toks t ++ (symbol CloseParen ∷ x)) (parts-tokens e rest) ∙ sym (append_assoc (type_toks t) _ (tokens rest)))
  parts-tokens (unary m o e) rest = unary-tokens o (printed e) _ ∙ ap (λ x. symbol (unary_symbol o) ∷ x) (parts-tokens e rest)
  parts-tokens (bump m o e) rest = bump-tokens o (parts e) (toks e) rest (parts-tokens e)
  parts-tokens (binary m o l r) rest = parts-tokens l _ ∙ ap (λ x. toks l ++ (symbol (binary_symbol o) ∷ x)) (parts-tokens r rest) ∙ between (toks l) (symbol (binary_symbol o)) (toks r) (tokens rest)
  parts-tokens (assign m t e) rest = parts-tokens t _ ∙ ap (λ x. toks t ++ (symbol Equals ∷ x)) (parts-tokens e rest) ∙ between (toks t) (symbol Equals) (toks e) (tokens rest)
  parts-tokens (compound m o t e) rest = parts-tokens t _ ∙ ap (λ x. toks t ++ (symbol (compound_symbol o) ∷ x)) (parts-tokens e rest) ∙ between (toks t) (symbol (compound_symbol o)) (toks e) (tokens rest)

  target-tokens : {A : Type 0} (t : Target A) (rest : List Part) → tokens (target_parts t rest) ≡ target_toks t ++ tokens rest
  target-tokens no_target rest = refl
  target-tokens (on e) rest = parts-tokens e _ ∙ ap (λ x. toks e ++ x) (dot-tokens e rest) ∙ closed (toks e) (symbol Dot) (tokens rest)

  pub args-tokens : {A : Type 0} (es : Exps A) (rest : List Part) → tokens (args_parts es rest) ≡ args_toks es ++ tokens rest
  args-tokens end rest = refl
  args-tokens (more e es) rest = parts-tokens e _ ∙ ap (λ x. toks e ++ x) (more-tokens es rest) ∙ sym (append_assoc (toks e) (more_toks es) (tokens rest))

  more-tokens : {A : Type 0} (es : Exps A) (rest : List Part) → tokens (more_parts es rest) ≡ more_toks es ++ tokens rest
  more-tokens end rest = refl
  more-tokens (more e es) rest = ap (λ x. symbol Comma ∷ x) (parts-tokens e _ ∙ ap (λ x. toks e ++ x) (more-tokens es rest) ∙ sym (append_assoc (toks e) (more_toks es) (tokens rest)))
