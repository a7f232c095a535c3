-- The tokens of a tree in front of others.
use Rattle.std.proofs.Common.{◌≡◌, List, [], ◌∷◌, ◌++◌, Option, Some, None, refl, sym, ap, ◌∙◌, append_assoc}
use Rattle.jr_lex.specs.declared.items.Keyword.TheVariants.{Int, Boolean, Class, New, Super, This, Null}
use Rattle.jr_lex.specs.declared.items.Symbol.TheVariants.{OpenParen, CloseParen, Comma, Dot, Equals, PlusPlus, MinusMinus}
use Rattle.jr_ast.specs.declared.operators.BumpOp.TheVariants.{PreInc, PreDec, PostInc, PostDec}
use Rattle.jr_ast.specs.Tree.{Word, TypeName, int, boolean, named, Exp, number, truth, null, string, name, field, super_field, this, class_literal, call, super_call, create, paren, cast, unary, bump, binary, assign, compound, Target, no_target, on, Exps, end, more}
use Rattle.jr_grammar.specs.Tokens.{Token, word, keyword, integer, text, symbol}
use Rattle.jr_grammar.specs.Spelling.{unary_symbol, binary_symbol, compound_symbol, truth_keyword, name_toks, type_toks, toks, target_toks, args_toks, more_toks}

abbrev pub spell_name : {A : Type 0} → Option (Word A) → Word A → List Token → List Token
spell_name None w x = word w.text ∷ x
spell_name (Some o) w x = word o.text ∷ symbol Dot ∷ word w.text ∷ x

abbrev pub spell_type : {A : Type 0} → TypeName A → List Token → List Token
spell_type (int m) x = keyword Int ∷ x
spell_type (boolean m) x = keyword Boolean ∷ x
spell_type (named m o w) x = spell_name o w x

abbrev mutual
  pub spell : {A : Type 0} → Exp A → List Token → List Token
  spell (number m n) x = integer n ∷ x
  spell (truth m b) x = keyword (truth_keyword b) ∷ x
  spell (null m) x = keyword Null ∷ x
  spell (string m s) x = text s ∷ x
  spell (name m w) x = word w.text ∷ x
  spell (field m e w) x = spell e (symbol Dot ∷ word w.text ∷ x)
  spell (super_field m w) x = keyword Super ∷ symbol Dot ∷ word w.text ∷ x
  spell (this m) x = keyword This ∷ x
  spell (class_literal m t) x = spell_type t (symbol Dot ∷ keyword Class ∷ x)
  spell (call m t w es) x = spell_target t (word w.text ∷ symbol OpenParen ∷ spell_args es (symbol CloseParen ∷ x))
  spell (super_call m w es) x = keyword Super ∷ symbol Dot ∷ word w.text ∷ symbol OpenParen ∷ spell_args es (symbol CloseParen ∷ x)
  spell (create m t es) x = keyword New ∷ spell_type t (symbol OpenParen ∷ spell_args es (symbol CloseParen ∷ x))
  spell (paren m e) x = symbol OpenParen ∷ spell e (symbol CloseParen ∷ x)
  spell (cast m t e) x = symbol OpenParen ∷ spell_type t (symbol CloseParen ∷ spell e x)
  spell (unary m o e) x = symbol (unary_symbol o) ∷ spell e x
  spell (bump m PreInc e) x = symbol PlusPlus ∷ spell e x
  spell (bump m PreDec e) x = symbol MinusMinus ∷ spell e x
  spell (bump m PostInc e) x = spell e (symbol PlusPlus ∷ x)
  spell (bump m PostDec e) x = spell e (symbol MinusMinus ∷ x)
  spell (binary m o l r) x = spell l (symbol (binary_symbol o) ∷ spell r x)
  spell (assign m t e) x = spell t (symbol Equals ∷ spell e x)
  spell (compound m o t e) x = spell t (symbol (compound_symbol o) ∷ spell e x)

  pub spell_target : {A : Type 0} → Target A → List Token → List Token
  spell_target no_target x = x
  spell_target (on e) x = spell e (symbol Dot ∷ x)

  pub spell_args : {A : Type 0} → Exps A → List Token → List Token
  spell_args end x = x
  spell_args (more e es) x = spell e (spell_more es x)

  pub spell_more : {A : Type 0} → Exps A → List Token → List Token
  spell_more end x = x
  spell_more (more e es) x = symbol Comma ∷ spell e (spell_more es x)

pub spell_name-is : {A : Type 0} (o : Option (Word A)) (w : Word A) (x : List Token) → spell_name o w x ≡ name_toks o w ++ x
spell_name-is None w x = refl
spell_name-is (Some o) w x = refl

pub spell_type-is : {A : Type 0} (t : TypeName A) (x : List Token) → spell_type t x ≡ type_toks t ++ x
spell_type-is (int m) x = refl
spell_type-is (boolean m) x = refl
spell_type-is (named m o w) x = spell_name-is o w x

abbrev before : List Token → List Token → List Token
before a y = a ++ y

-- a list in parts, each read in front of the rest
parts : (a b x y z : List Token) → y ≡ a ++ z → z ≡ b ++ x → y ≡ (a ++ b) ++ x
parts a b x y z p q = p ∙ ap (before a) q ∙ sym (append_assoc a b x)

mutual
  pub spell-is : {A : Type 0} (e : Exp A) (x : List Token) → spell e x ≡ toks e ++ x
  spell-is (number m n) x = refl
  spell-is (truth m b) x = refl
  spell-is (null m) x = refl
  spell-is (string m s) x = refl
  spell-is (name m w) x = refl
  spell-is (field m e w) x = parts (toks e) (symbol Dot ∷ word w.text ∷ []) x _ _ (spell-is e (symbol Dot ∷ word w.text ∷ x)) refl
  spell-is (super_field m w) x = refl
  spell-is (this m) x = refl
  spell-is (class_literal m t) x = parts (type_toks t) (symbol Dot ∷ keyword Class ∷ []) x _ _ (spell_type-is t (symbol Dot ∷ keyword Class ∷ x)) refl
  spell-is (call m t w es) x =
      parts (target_toks t) (word w.text ∷ symbol OpenParen ∷ (args_toks es ++ (symbol CloseParen ∷ []))) x _ _
      (spell_target-is t (word w.text ∷ symbol OpenParen ∷ spell_args es (symbol CloseParen ∷ x)))
      (ap (λ (y : List Token). word w.text ∷ symbol OpenParen ∷ y) (parts (args_toks es) (symbol CloseParen ∷ []) x _ _ (spell_args-is es (symbol CloseParen ∷ x)) refl))
  spell-is (super_call m w es) x =
      ap (λ (y : List Token). keyword Super ∷ symbol Dot ∷ word w.text ∷ symbol OpenParen ∷ y) (parts (args_toks es) (symbol CloseParen ∷ []) x _ _ (spell_args-is es (symbol CloseParen ∷ x)) refl)
  spell-is (create m t es) x =
      ap (λ (y : List Token). keyword New ∷ y) (parts (type_toks t) (symbol OpenParen ∷ (args_toks es ++ (symbol CloseParen ∷ []))) x _ _
      (spell_type-is t (symbol OpenParen ∷ spell_args es (symbol CloseParen ∷ x)))
      (ap (λ (y : List Token). symbol OpenParen ∷ y) (parts (args_toks es) (symbol CloseParen ∷ []) x _ _ (spell_args-is es (symbol CloseParen ∷ x)) refl)))
  spell-is (paren m e) x = ap (λ (y : List Token). symbol OpenParen ∷ y) (parts (toks e) (symbol CloseParen ∷ []) x _ _ (spell-is e (symbol CloseParen ∷ x)) refl)
  spell-is (cast m t e) x =
      ap (λ (y : List Token). symbol OpenParen ∷ y) (parts (type_toks t) (symbol CloseParen ∷ toks e) x _ _ (spell_type-is t (symbol CloseParen ∷ spell e x)) (ap (λ (y : List Token). symbol CloseParen ∷ y) (spell-is e x)))
  spell-is (unary m o e) x = ap (λ (y : List Token). symbol (unary_symbol o) ∷ y) (spell-is e x)
  spell-is (bump m PreInc e) x = ap (λ (y : List Token). symbol PlusPlus ∷ y) (spell-is e x)
  spell-is (bump m PreDec e) x = ap (λ (y : List Token). symbol MinusMinus ∷ y) (spell-is e x)
  spell-is (bump m PostInc e) x = parts (toks e) (symbol PlusPlus ∷ []) x _ _ (spell-is e (symbol PlusPlus ∷ x)) refl
  spell-is (bump m PostDec e) x = parts (toks e) (symbol MinusMinus ∷ []) x _ _ (spell-is e (symbol MinusMinus ∷ x)) refl
  spell-is (binary m o l r) x =
      parts (toks l) (symbol (binary_symbol o) ∷ toks r) x _ _ (spell-is l (symbol (binary_symbol o) ∷ spell r x)) (ap (λ (y : List Token). symbol (binary_symbol o) ∷ y) (spell-is r x))
  spell-is (assign m t e) x = parts (toks t) (symbol Equals ∷ toks e) x _ _ (spell-is t (symbol Equals ∷ spell e x)) (ap (λ (y : List Token). symbol Equals ∷ y) (spell-is e x))
  spell-is (compound m o t e) x =
      parts (toks t) (symbol (compound_symbol o) ∷ toks e) x _ _ (spell-is t (symbol (compound_symbol o) ∷ spell e x)) (ap (λ (y : List Token). symbol (compound_symbol o) ∷ y) (spell-is e x))

  pub spell_target-is : {A : Type 0} (t : Target A) (x : List Token) → spell_target t x ≡ target_toks t ++ x
  spell_target-is no_target x = refl
  spell_target-is (on e) x = parts (toks e) (symbol Dot ∷ []) x _ _ (spell-is e (symbol Dot ∷ x)) refl

  pub spell_args-is : {A : Type 0} (es : Exps A) (x : List Token) → spell_args es x ≡ args_toks es ++ x
  spell_args-is end x = refl
  spell_args-is (more e es) x = parts (toks e) (more_toks es) x _ _ (spell-is e (spell_more es x)) (spell_more-is es x)

  pub spell_more-is : {A : Type 0} (es : Exps A) (x : List Token) → spell_more es x ≡ more_toks es ++ x
  spell_more-is end x = refl
  spell_more-is (more e es) x = ap (λ (y : List Token). symbol Comma ∷ y) (parts (toks e) (more_toks es) x _ _ (spell-is e (spell_more es x)) (spell_more-is es x))
