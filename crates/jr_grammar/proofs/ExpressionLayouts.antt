-- The tokens of an expression's parts are what it spells, and the parts of an expression with other marks are those with other marks.
use Rattle.std.proofs.Common.{◌≡◌, List, [], ◌∷◌, ◌++◌, Some, None, refl, ◌∙◌}
use Rattle.std.proofs.lemmas.List.{append-nil}
use Rattle.jr_lex.specs.declared.items.Keyword.TheVariants.{Class, New, Super}
use Rattle.jr_lex.specs.declared.items.Symbol.TheVariants.{OpenParen, CloseParen, Comma, Dot, Equals, PlusPlus, MinusMinus}
use Rattle.jr_ast.specs.declared.operators.BumpOp.TheVariants.{PreInc, PreDec, PostInc, PostDec}
use Rattle.jr_ast.specs.Tree.{TypeName, int, boolean, named, Exp, number, truth, null, string, name, field, super_field, this, class_literal, call, super_call, create, paren, cast, unary, bump, binary, assign, compound, Target, no_target, on, Exps, end, more}
use Rattle.jr_ast.specs.Remarked.{map_word, map_type, map_exp, map_target, map_exps}
use Rattle.jr_grammar.specs.Tokens.{Token, word, keyword, symbol}
use Rattle.jr_grammar.specs.Spelling.{unary_symbol, binary_symbol, compound_symbol, type_toks, toks, target_toks, args_toks, more_toks}
use Rattle.jr_grammar.specs.Layout.{token, node, row, done, ◌then◌, laid}
use Rattle.jr_grammar.specs.ExpressionLayout.{word_layout, type_layout, exp_layout, target_layout, args_layout, more_args_layout}
use Rattle.jr_grammar.proofs.Layouts.{map_layout}

-- the last part
pub ends : (a b : List Token) → a ≡ b → a ++ [] ≡ b
ends a b e = append-nil a ∙ e

-- ---- spelling

pub type_laid : {A : Type 0} (x : TypeName A) → laid (type_layout x) ≡ type_toks x
type_laid (int m) = refl
type_laid (boolean m) = refl
type_laid (named m None w) = refl
type_laid (named m (Some o) w) = refl

mutual
  pub exp_laid : {A : Type 0} (x : Exp A) → laid (exp_layout x) ≡ toks x
  exp_laid (number m n) = refl
  exp_laid (truth m b) = refl
  exp_laid (null m) = refl
  exp_laid (string m s) = refl
  exp_laid (name m w) = refl
  exp_laid (field m e w) = λ i. exp_laid e i ++ symbol Dot ∷ word w.text ∷ []
  exp_laid (super_field m w) = refl
  exp_laid (this m) = refl
  exp_laid (class_literal m t) = λ i. type_laid t i ++ symbol Dot ∷ keyword Class ∷ []
  exp_laid (call m t w es) = λ i. target_laid t i ++ (word w.text ∷ (symbol OpenParen ∷ (args_laid es i ++ symbol CloseParen ∷ [])))
  exp_laid (super_call m w es) = λ i. keyword Super ∷ (symbol Dot ∷ (word w.text ∷ (symbol OpenParen ∷ (args_laid es i ++ symbol CloseParen ∷ []))))
  exp_laid (create m t es) = λ i. keyword New ∷ (type_laid t i ++ (symbol OpenParen ∷ (args_laid es i ++ symbol CloseParen ∷ [])))
  exp_laid (paren m e) = λ i. symbol OpenParen ∷ (exp_laid e i ++ symbol CloseParen ∷ [])
  exp_laid (cast m t e) = λ i. symbol OpenParen ∷ (type_laid t i ++ symbol CloseParen ∷ ends _ _ (exp_laid e) i)
  exp_laid (unary m o e) = λ i. symbol (unary_symbol o) ∷ ends _ _ (exp_laid e) i
  exp_laid (bump m PreInc e) = λ i. symbol PlusPlus ∷ ends _ _ (exp_laid e) i
  exp_laid (bump m PreDec e) = λ i. symbol MinusMinus ∷ ends _ _ (exp_laid e) i
  exp_laid (bump m PostInc e) = λ i. exp_laid e i ++ symbol PlusPlus ∷ []
  exp_laid (bump m PostDec e) = λ i. exp_laid e i ++ symbol MinusMinus ∷ []
  exp_laid (binary m o l r) = λ i. exp_laid l i ++ symbol (binary_symbol o) ∷ ends _ _ (exp_laid r) i
  exp_laid (assign m t e) = λ i. exp_laid t i ++ symbol Equals ∷ ends _ _ (exp_laid e) i
  exp_laid (compound m o t e) = λ i. exp_laid t i ++ symbol (compound_symbol o) ∷ ends _ _ (exp_laid e) i

  target_laid : {A : Type 0} (x : Target A) → laid (target_layout x) ≡ target_toks x
  target_laid no_target = refl
  target_laid (on e) = λ i. exp_laid e i ++ symbol Dot ∷ []

  pub args_laid : {A : Type 0} (x : Exps A) → laid (args_layout x) ≡ args_toks x
  args_laid end = refl
  args_laid (more e es) = λ i. exp_laid e i ++ ends _ _ (more_args_laid es) i

  more_args_laid : {A : Type 0} (x : Exps A) → laid (more_args_layout x) ≡ more_toks x
  more_args_laid end = refl
  more_args_laid (more e es) = λ i. symbol Comma ∷ (exp_laid e i ++ ends _ _ (more_args_laid es) i)

-- ---- marks

pub type_layout-map : {A B : Type 0} (h : A → B) (x : TypeName A) → map_layout h (type_layout x) ≡ type_layout (map_type h x)
type_layout-map h (int m) = refl
type_layout-map h (boolean m) = refl
type_layout-map h (named m None w) = refl
type_layout-map h (named m (Some o) w) = refl

mutual
  unfolding map_exp map_target map_exps

  pub exp_layout-map : {A B : Type 0} (h : A → B) (x : Exp A) → map_layout h (exp_layout x) ≡ exp_layout (map_exp h x)
  exp_layout-map h (number m n) = refl
  exp_layout-map h (truth m b) = refl
  exp_layout-map h (null m) = refl
  exp_layout-map h (string m s) = refl
  exp_layout-map h (name m w) = refl
  exp_layout-map h (field m e w) = λ i. node (h m) (exp_layout-map h e i then token (symbol Dot) then word_layout (map_word h w) then done)
  exp_layout-map h (super_field m w) = refl
  exp_layout-map h (this m) = refl
  exp_layout-map h (class_literal m t) = λ i. node (h m) (type_layout-map h t i then token (symbol Dot) then token (keyword Class) then done)
  exp_layout-map h (call m t w es) = λ i. node (h m) (target_layout-map h t i then word_layout (map_word h w) then token (symbol OpenParen) then args_layout-map h es i then token (symbol CloseParen) then done)
  exp_layout-map h (super_call m w es) = λ i. node (h m) (token (keyword Super) then token (symbol Dot) then word_layout (map_word h w) then token (symbol OpenParen) then args_layout-map h es i then token (symbol CloseParen) then done)
  exp_layout-map h (create m t es) = λ i. node (h m) (token (keyword New) then type_layout-map h t i then token (symbol OpenParen) then args_layout-map h es i then token (symbol CloseParen) then done)
  exp_layout-map h (paren m e) = λ i. node (h m) (token (symbol OpenParen) then exp_layout-map h e i then token (symbol CloseParen) then done)
  exp_layout-map h (cast m t e) = λ i. node (h m) (token (symbol OpenParen) then type_layout-map h t i then token (symbol CloseParen) then exp_layout-map h e i then done)
  exp_layout-map h (unary m o e) = λ i. node (h m) (token (symbol (unary_symbol o)) then exp_layout-map h e i then done)
  exp_layout-map h (bump m PreInc e) = λ i. node (h m) (token (symbol PlusPlus) then exp_layout-map h e i then done)
  exp_layout-map h (bump m PreDec e) = λ i. node (h m) (token (symbol MinusMinus) then exp_layout-map h e i then done)
  exp_layout-map h (bump m PostInc e) = λ i. node (h m) (exp_layout-map h e i then token (symbol PlusPlus) then done)
  exp_layout-map h (bump m PostDec e) = λ i. node (h m) (exp_layout-map h e i then token (symbol MinusMinus) then done)
  exp_layout-map h (binary m o l r) = λ i. node (h m) (exp_layout-map h l i then token (symbol (binary_symbol o)) then exp_layout-map h r i then done)
  exp_layout-map h (assign m t e) = λ i. node (h m) (exp_layout-map h t i then token (symbol Equals) then exp_layout-map h e i then done)
  exp_layout-map h (compound m o t e) = λ i. node (h m) (exp_layout-map h t i then token (symbol (compound_symbol o)) then exp_layout-map h e i then done)

  target_layout-map : {A B : Type 0} (h : A → B) (x : Target A) → map_layout h (target_layout x) ≡ target_layout (map_target h x)
  target_layout-map h no_target = refl
  target_layout-map h (on e) = λ i. row (exp_layout-map h e i then token (symbol Dot) then done)

  pub args_layout-map : {A B : Type 0} (h : A → B) (x : Exps A) → map_layout h (args_layout x) ≡ args_layout (map_exps h x)
  args_layout-map h end = refl
  args_layout-map h (more e es) = λ i. row (exp_layout-map h e i then more_args_layout-map h es i then done)

  more_args_layout-map : {A B : Type 0} (h : A → B) (x : Exps A) → map_layout h (more_args_layout x) ≡ more_args_layout (map_exps h x)
  more_args_layout-map h end = refl
  more_args_layout-map h (more e es) = λ i. row (token (symbol Comma) then exp_layout-map h e i then more_args_layout-map h es i then done)
