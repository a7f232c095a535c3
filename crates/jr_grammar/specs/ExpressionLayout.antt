-- The parts of names, types and expressions (JLS 6.5, 4.1, 15).
use Rattle.std.specs.Prelude.{Some, None}
use Rattle.jr_lex.specs.declared.items.Keyword.TheVariants.{Int, Boolean, Class, New, Super, This}
use Rattle.jr_lex.specs.declared.items.Keyword.TheVariants.{Null}
use Rattle.jr_lex.specs.declared.items.Symbol.TheVariants.{OpenParen, CloseParen, Comma, Dot}
use Rattle.jr_lex.specs.declared.items.Symbol.TheVariants.{Equals, PlusPlus, MinusMinus}
use Rattle.jr_ast.specs.declared.operators.BumpOp.TheVariants.{PreInc, PreDec, PostInc, PostDec}
use Rattle.jr_ast.specs.Tree.{Word, TypeName, int, boolean, named, Exp, number, truth, null, string}
use Rattle.jr_ast.specs.Tree.{name, field, super_field, this, class_literal, call, super_call}
use Rattle.jr_ast.specs.Tree.{create, paren, cast, unary, bump, binary, assign, compound, Target}
use Rattle.jr_ast.specs.Tree.{no_target, on, Exps, end, more}
use Rattle.jr_grammar.specs.Tokens.{word, keyword, integer, text, symbol}
use Rattle.jr_grammar.specs.Spelling.{unary_symbol, binary_symbol, compound_symbol, truth_keyword}
use Rattle.jr_grammar.specs.Layout.{Layout, token, node, row, done, ◌then◌}

abbrev pub word_layout : {A : Type 0} → Word A → Layout A
word_layout w = node w.mark (token (word w.text) then done)

abbrev pub type_layout : {A : Type 0} → TypeName A → Layout A
type_layout (int m) = node m (token (keyword Int) then done)
type_layout (boolean m) = node m (token (keyword Boolean) then done)
type_layout (named m None w) = node m (word_layout w then done)
type_layout (named m (Some o) w) =
    node m (word_layout o then token (symbol Dot) then word_layout w then done)

abbrev mutual
  pub exp_layout : {A : Type 0} → Exp A → Layout A
  exp_layout (number m n) = node m (token (integer n) then done)
  exp_layout (truth m b) = node m (token (keyword (truth_keyword b)) then done)
  exp_layout (null m) = node m (token (keyword Null) then done)
  exp_layout (string m s) = node m (token (text s) then done)
  exp_layout (name m w) = node m (word_layout w then done)
  exp_layout (field m e w) = node m (exp_layout e then token (symbol Dot)
      then word_layout w then done)
  exp_layout (super_field m w) =
      node m (token (keyword Super) then token (symbol Dot) then word_layout w then done)
  exp_layout (this m) = node m (token (keyword This) then done)
  exp_layout (class_literal m t) =
      node m (type_layout t then token (symbol Dot) then token (keyword Class) then done)
  exp_layout (call m t w es) =
      node m (target_layout t then word_layout w then token (symbol OpenParen) then args_layout es
      then token (symbol CloseParen) then done)
  exp_layout (super_call m w es) =
      node m (token (keyword Super) then token (symbol Dot) then word_layout w
      then token (symbol OpenParen)
      then args_layout es then token (symbol CloseParen) then done)
  exp_layout (create m t es) =
      node m (token (keyword New) then type_layout t then token (symbol OpenParen)
      then args_layout es
      then token (symbol CloseParen) then done)
  exp_layout (paren m e) = node m (token (symbol OpenParen) then exp_layout e
      then token (symbol CloseParen) then done)
  exp_layout (cast m t e) =
      node m (token (symbol OpenParen) then type_layout t then token (symbol CloseParen)
      then exp_layout e
      then done)
  exp_layout (unary m o e) = node m (token (symbol (unary_symbol o)) then exp_layout e then done)
  exp_layout (bump m PreInc e) = node m (token (symbol PlusPlus) then exp_layout e then done)
  exp_layout (bump m PreDec e) = node m (token (symbol MinusMinus) then exp_layout e then done)
  exp_layout (bump m PostInc e) = node m (exp_layout e then token (symbol PlusPlus) then done)
  exp_layout (bump m PostDec e) = node m (exp_layout e then token (symbol MinusMinus) then done)
  exp_layout (binary m o l r) = node m (exp_layout l then token (symbol (binary_symbol o))
      then exp_layout r then done)
  exp_layout (assign m t e) = node m (exp_layout t then token (symbol Equals)
      then exp_layout e then done)
  exp_layout (compound m o t e) =
      node m (exp_layout t then token (symbol (compound_symbol o)) then exp_layout e then done)

  -- what a call is made on, with its dot
  pub target_layout : {A : Type 0} → Target A → Layout A
  target_layout no_target = row done
  target_layout (on e) = row (exp_layout e then token (symbol Dot) then done)

  -- with a comma between two
  pub args_layout : {A : Type 0} → Exps A → Layout A
  args_layout end = row done
  args_layout (more e es) = row (exp_layout e then more_args_layout es then done)

  -- arguments behind others
  pub more_args_layout : {A : Type 0} → Exps A → Layout A
  more_args_layout end = row done
  more_args_layout (more e es) =
      row (token (symbol Comma) then exp_layout e then more_args_layout es then done)
