-- An expression with the marks of its parts.
use Rattle.std.proofs.Common.{◌≡◌, drop, Some, None, refl}
use Rattle.jr_text.specs.declared.spans.Span.{Span}
use Rattle.jr_lex.specs.declared.items.Keyword.TheVariants.{Class, New, Super}
use Rattle.jr_lex.specs.declared.items.Symbol.TheVariants.{OpenParen, CloseParen, Comma, Dot, Equals, PlusPlus, MinusMinus}
use Rattle.jr_ast.specs.declared.operators.BumpOp.TheVariants.{PreInc, PreDec, PostInc, PostDec}
use Rattle.jr_ast.specs.Tree.{Word, TypeName, int, boolean, named, Exp, number, truth, null, string, name, field, super_field, this, class_literal, call, super_call, create, paren, cast, unary, bump, binary, assign, compound, Target, no_target, on, Exps, end, more}
use Rattle.jr_ast.specs.Remarked.{map_type, map_exp, map_target, map_exps}
use Rattle.jr_grammar.specs.Tokens.{keyword, symbol}
use Rattle.jr_grammar.specs.Spelling.{unary_symbol, binary_symbol, compound_symbol}
use Rattle.jr_grammar.specs.Layout.{Layout, token, node, row, done, ◌then◌}
use Rattle.jr_grammar.specs.ExpressionLayout.{word_layout, type_layout, exp_layout, target_layout, args_layout, more_args_layout}
use Rattle.jr_grammar.specs.Bare.{Bare, no_mark}
use Rattle.jr_grammar.specs.Stands.{Tokens, span_of}
use Rattle.jr_grammar.proofs.Layouts.{front, back, lay, mark_of, parts_of, part0, part1, part2, part3, part4}

-- ---- its marks are those of the parts

abbrev pub word_at : {A B : Type 0} → B → Word A → Layout B → Word B
word_at d w y = record { mark = mark_of d y; text = w.text }

abbrev pub type_at : {A B : Type 0} → B → TypeName A → Layout B → TypeName B
type_at d (int m) y = int (mark_of d y)
type_at d (boolean m) y = boolean (mark_of d y)
type_at d (named m None w) y = named (mark_of d y) None (word_at d w (part0 (parts_of y)))
type_at d (named m (Some o) w) y = named (mark_of d y) (Some (word_at d o (part0 (parts_of y)))) (word_at d w (part2 (parts_of y)))

abbrev mutual
  pub exp_at : {A B : Type 0} → B → Exp A → Layout B → Exp B
  exp_at d (number m n) y = number (mark_of d y) n
  exp_at d (truth m b) y = truth (mark_of d y) b
  exp_at d (null m) y = null (mark_of d y)
  exp_at d (string m s) y = string (mark_of d y) s
  exp_at d (name m w) y = name (mark_of d y) (word_at d w (part0 (parts_of y)))
  exp_at d (field m e w) y = field (mark_of d y) (exp_at d e (part0 (parts_of y))) (word_at d w (part2 (parts_of y)))
  exp_at d (super_field m w) y = super_field (mark_of d y) (word_at d w (part2 (parts_of y)))
  exp_at d (this m) y = this (mark_of d y)
  exp_at d (class_literal m t) y = class_literal (mark_of d y) (type_at d t (part0 (parts_of y)))
  exp_at d (call m t w es) y = call (mark_of d y) (target_at d t (part0 (parts_of y))) (word_at d w (part1 (parts_of y))) (args_at d es (part3 (parts_of y)))
  exp_at d (super_call m w es) y = super_call (mark_of d y) (word_at d w (part2 (parts_of y))) (args_at d es (part4 (parts_of y)))
  exp_at d (create m t es) y = create (mark_of d y) (type_at d t (part1 (parts_of y))) (args_at d es (part3 (parts_of y)))
  exp_at d (paren m e) y = paren (mark_of d y) (exp_at d e (part1 (parts_of y)))
  exp_at d (cast m t e) y = cast (mark_of d y) (type_at d t (part1 (parts_of y))) (exp_at d e (part3 (parts_of y)))
  exp_at d (unary m o e) y = unary (mark_of d y) o (exp_at d e (part1 (parts_of y)))
  exp_at d (bump m PreInc e) y = bump (mark_of d y) PreInc (exp_at d e (part1 (parts_of y)))
  exp_at d (bump m PreDec e) y = bump (mark_of d y) PreDec (exp_at d e (part1 (parts_of y)))
  exp_at d (bump m PostInc e) y = bump (mark_of d y) PostInc (exp_at d e (part0 (parts_of y)))
  exp_at d (bump m PostDec e) y = bump (mark_of d y) PostDec (exp_at d e (part0 (parts_of y)))
  exp_at d (binary m o l r) y = binary (mark_of d y) o (exp_at d l (part0 (parts_of y))) (exp_at d r (part2 (parts_of y)))
  exp_at d (assign m t e) y = assign (mark_of d y) (exp_at d t (part0 (parts_of y))) (exp_at d e (part2 (parts_of y)))
  exp_at d (compound m o t e) y = compound (mark_of d y) o (exp_at d t (part0 (parts_of y))) (exp_at d e (part2 (parts_of y)))

  pub target_at : {A B : Type 0} → B → Target A → Layout B → Target B
  target_at d no_target y = no_target
  target_at d (on e) y = on (exp_at d e (part0 (parts_of y)))

  pub args_at : {A B : Type 0} → B → Exps A → Layout B → Exps B
  args_at d end y = end
  args_at d (more e es) y = more (exp_at d e (part0 (parts_of y))) (more_args_at d es (part1 (parts_of y)))

  pub more_args_at : {A B : Type 0} → B → Exps A → Layout B → Exps B
  more_args_at d end y = end
  more_args_at d (more e es) y = more (exp_at d e (part1 (parts_of y))) (more_args_at d es (part2 (parts_of y)))

-- ---- with its own marks it is itself

pub type_again : {A : Type 0} (d : A) (x : TypeName A) → type_at d (map_type no_mark x) (type_layout x) ≡ x
type_again d (int m) = refl
type_again d (boolean m) = refl
type_again d (named m None w) = refl
type_again d (named m (Some o) w) = refl

mutual
  unfolding map_exp map_target map_exps

  pub exp_again : {A : Type 0} (d : A) (x : Exp A) → exp_at d (map_exp no_mark x) (exp_layout x) ≡ x
  exp_again d (number m n) = refl
  exp_again d (truth m b) = refl
  exp_again d (null m) = refl
  exp_again d (string m s) = refl
  exp_again d (name m w) = refl
  exp_again d (field m e w) = λ i. field m (exp_again d e i) w
  exp_again d (super_field m w) = refl
  exp_again d (this m) = refl
  exp_again d (class_literal m t) = λ i. class_literal m (type_again d t i)
  exp_again d (call m t w es) = λ i. call m (target_again d t i) w (args_again d es i)
  exp_again d (super_call m w es) = λ i. super_call m w (args_again d es i)
  exp_again d (create m t es) = λ i. create m (type_again d t i) (args_again d es i)
  exp_again d (paren m e) = λ i. paren m (exp_again d e i)
  exp_again d (cast m t e) = λ i. cast m (type_again d t i) (exp_again d e i)
  exp_again d (unary m o e) = λ i. unary m o (exp_again d e i)
  exp_again d (bump m PreInc e) = λ i. bump m PreInc (exp_again d e i)
  exp_again d (bump m PreDec e) = λ i. bump m PreDec (exp_again d e i)
  exp_again d (bump m PostInc e) = λ i. bump m PostInc (exp_again d e i)
  exp_again d (bump m PostDec e) = λ i. bump m PostDec (exp_again d e i)
  exp_again d (binary m o l r) = λ i. binary m o (exp_again d l i) (exp_again d r i)
  exp_again d (assign m t e) = λ i. assign m (exp_again d t i) (exp_again d e i)
  exp_again d (compound m o t e) = λ i. compound m o (exp_again d t i) (exp_again d e i)

  target_again : {A : Type 0} (d : A) (x : Target A) → target_at d (map_target no_mark x) (target_layout x) ≡ x
  target_again d no_target = refl
  target_again d (on e) = λ i. on (exp_again d e i)

  pub args_again : {A : Type 0} (d : A) (x : Exps A) → args_at d (map_exps no_mark x) (args_layout x) ≡ x
  args_again d end = refl
  args_again d (more e es) = λ i. more (exp_again d e i) (more_args_again d es i)

  more_args_again : {A : Type 0} (d : A) (x : Exps A) → more_args_at d (map_exps no_mark x) (more_args_layout x) ≡ x
  more_args_again d end = refl
  more_args_again d (more e es) = λ i. more (exp_again d e i) (more_args_again d es i)

-- ---- its parts are those

pub type_stays : {A : Type 0} (d : Span) (x : TypeName A) (ps : Tokens) → type_layout (type_at d x (lay (type_layout x) ps)) ≡ lay (type_layout x) ps
type_stays d (int m) ps = refl
type_stays d (boolean m) ps = refl
type_stays d (named m None w) ps = refl
type_stays d (named m (Some o) w) ps = refl

mutual
  pub exp_stays : {A : Type 0} (d : Span) (x : Exp A) (ps : Tokens) → exp_layout (exp_at d x (lay (exp_layout x) ps)) ≡ lay (exp_layout x) ps
  exp_stays d (number m n) ps = refl
  exp_stays d (truth m b) ps = refl
  exp_stays d (null m) ps = refl
  exp_stays d (string m s) ps = refl
  exp_stays d (name m w) ps = refl
  exp_stays d (field m e w) ps = λ i. node (span_of ps) (exp_stays d e (front (exp_layout e) ps) i then token (symbol Dot) then lay (word_layout w) (front (word_layout w) (drop 1 (back (exp_layout e) ps))) then done)
  exp_stays d (super_field m w) ps = refl
  exp_stays d (this m) ps = refl
  exp_stays d (class_literal m t) ps = λ i. node (span_of ps) (type_stays d t (front (type_layout t) ps) i then token (symbol Dot) then token (keyword Class) then done)
  exp_stays d (call m t w es) ps = λ i. node (span_of ps) (target_stays d t (front (target_layout t) ps) i then lay (word_layout w) (front (word_layout w) (back (target_layout t) ps)) then token (symbol OpenParen) then args_stays d es (front (args_layout es) (drop 1 (back (word_layout w) (back (target_layout t) ps)))) i then token (symbol CloseParen) then done)
  exp_stays d (super_call m w es) ps = λ i. node (span_of ps) (token (keyword Super) then token (symbol Dot) then lay (word_layout w) (front (word_layout w) (drop 1 (drop 1 ps))) then token (symbol OpenParen) then args_stays d es (front (args_layout es) (drop 1 (back (word_layout w) (drop 1 (drop 1 ps))))) i then token (symbol CloseParen) then done)
  exp_stays d (create m t es) ps = λ i. node (span_of ps) (token (keyword New) then type_stays d t (front (type_layout t) (drop 1 ps)) i then token (symbol OpenParen) then args_stays d es (front (args_layout es) (drop 1 (back (type_layout t) (drop 1 ps)))) i then token (symbol CloseParen) then done)
  exp_stays d (paren m e) ps = λ i. node (span_of ps) (token (symbol OpenParen) then exp_stays d e (front (exp_layout e) (drop 1 ps)) i then token (symbol CloseParen) then done)
  exp_stays d (cast m t e) ps = λ i. node (span_of ps) (token (symbol OpenParen) then type_stays d t (front (type_layout t) (drop 1 ps)) i then token (symbol CloseParen) then exp_stays d e (front (exp_layout e) (drop 1 (back (type_layout t) (drop 1 ps)))) i then done)
  exp_stays d (unary m o e) ps = λ i. node (span_of ps) (token (symbol (unary_symbol o)) then exp_stays d e (front (exp_layout e) (drop 1 ps)) i then done)
  exp_stays d (bump m PreInc e) ps = λ i. node (span_of ps) (token (symbol PlusPlus) then exp_stays d e (front (exp_layout e) (drop 1 ps)) i then done)
  exp_stays d (bump m PreDec e) ps = λ i. node (span_of ps) (token (symbol MinusMinus) then exp_stays d e (front (exp_layout e) (drop 1 ps)) i then done)
  exp_stays d (bump m PostInc e) ps = λ i. node (span_of ps) (exp_stays d e (front (exp_layout e) ps) i then token (symbol PlusPlus) then done)
  exp_stays d (bump m PostDec e) ps = λ i. node (span_of ps) (exp_stays d e (front (exp_layout e) ps) i then token (symbol MinusMinus) then done)
  exp_stays d (binary m o l r) ps = λ i. node (span_of ps) (exp_stays d l (front (exp_layout l) ps) i then token (symbol (binary_symbol o)) then exp_stays d r (front (exp_layout r) (drop 1 (back (exp_layout l) ps))) i then done)
  exp_stays d (assign m t e) ps = λ i. node (span_of ps) (exp_stays d t (front (exp_layout t) ps) i then token (symbol Equals) then exp_stays d e (front (exp_layout e) (drop 1 (back (exp_layout t) ps))) i then done)
  exp_stays d (compound m o t e) ps = λ i. node (span_of ps) (exp_stays d t (front (exp_layout t) ps) i then token (symbol (compound_symbol o)) then exp_stays d e (front (exp_layout e) (drop 1 (back (exp_layout t) ps))) i then done)

  target_stays : {A : Type 0} (d : Span) (x : Target A) (ps : Tokens) → target_layout (target_at d x (lay (target_layout x) ps)) ≡ lay (target_layout x) ps
  target_stays d no_target ps = refl
  target_stays d (on e) ps = λ i. row (exp_stays d e (front (exp_layout e) ps) i then token (symbol Dot) then done)

  pub args_stays : {A : Type 0} (d : Span) (x : Exps A) (ps : Tokens) → args_layout (args_at d x (lay (args_layout x) ps)) ≡ lay (args_layout x) ps
  args_stays d end ps = refl
  args_stays d (more e es) ps = λ i. row (exp_stays d e (front (exp_layout e) ps) i then more_args_stays d es (front (more_args_layout es) (back (exp_layout e) ps)) i then done)

  more_args_stays : {A : Type 0} (d : Span) (x : Exps A) (ps : Tokens) → more_args_layout (more_args_at d x (lay (more_args_layout x) ps)) ≡ lay (more_args_layout x) ps
  more_args_stays d end ps = refl
  more_args_stays d (more e es) ps = λ i. row (token (symbol Comma) then exp_stays d e (front (exp_layout e) (drop 1 ps)) i then more_args_stays d es (front (more_args_layout es) (back (exp_layout e) (drop 1 ps))) i then done)

-- ---- without marks it is as before

pub type_bare : {B : Type 0} (d : B) (x : TypeName Bare) (y : Layout B) → map_type no_mark (type_at d x y) ≡ x
type_bare d (int m) y = refl
type_bare d (boolean m) y = refl
type_bare d (named m None w) y = refl
type_bare d (named m (Some o) w) y = refl

mutual
  unfolding map_exp map_target map_exps

  pub exp_bare : {B : Type 0} (d : B) (x : Exp Bare) (y : Layout B) → map_exp no_mark (exp_at d x y) ≡ x
  exp_bare d (number m n) y = refl
  exp_bare d (truth m b) y = refl
  exp_bare d (null m) y = refl
  exp_bare d (string m s) y = refl
  exp_bare d (name m w) y = refl
  exp_bare d (field m e w) y = λ i. field m (exp_bare d e (part0 (parts_of y)) i) w
  exp_bare d (super_field m w) y = refl
  exp_bare d (this m) y = refl
  exp_bare d (class_literal m t) y = λ i. class_literal m (type_bare d t (part0 (parts_of y)) i)
  exp_bare d (call m t w es) y = λ i. call m (target_bare d t (part0 (parts_of y)) i) w (args_bare d es (part3 (parts_of y)) i)
  exp_bare d (super_call m w es) y = λ i. super_call m w (args_bare d es (part4 (parts_of y)) i)
  exp_bare d (create m t es) y = λ i. create m (type_bare d t (part1 (parts_of y)) i) (args_bare d es (part3 (parts_of y)) i)
  exp_bare d (paren m e) y = λ i. paren m (exp_bare d e (part1 (parts_of y)) i)
  exp_bare d (cast m t e) y = λ i. cast m (type_bare d t (part1 (parts_of y)) i) (exp_bare d e (part3 (parts_of y)) i)
  exp_bare d (unary m o e) y = λ i. unary m o (exp_bare d e (part1 (parts_of y)) i)
  exp_bare d (bump m PreInc e) y = λ i. bump m PreInc (exp_bare d e (part1 (parts_of y)) i)
  exp_bare d (bump m PreDec e) y = λ i. bump m PreDec (exp_bare d e (part1 (parts_of y)) i)
  exp_bare d (bump m PostInc e) y = λ i. bump m PostInc (exp_bare d e (part0 (parts_of y)) i)
  exp_bare d (bump m PostDec e) y = λ i. bump m PostDec (exp_bare d e (part0 (parts_of y)) i)
  exp_bare d (binary m o l r) y = λ i. binary m o (exp_bare d l (part0 (parts_of y)) i) (exp_bare d r (part2 (parts_of y)) i)
  exp_bare d (assign m t e) y = λ i. assign m (exp_bare d t (part0 (parts_of y)) i) (exp_bare d e (part2 (parts_of y)) i)
  exp_bare d (compound m o t e) y = λ i. compound m o (exp_bare d t (part0 (parts_of y)) i) (exp_bare d e (part2 (parts_of y)) i)

  target_bare : {B : Type 0} (d : B) (x : Target Bare) (y : Layout B) → map_target no_mark (target_at d x y) ≡ x
  target_bare d no_target y = refl
  target_bare d (on e) y = λ i. on (exp_bare d e (part0 (parts_of y)) i)

  pub args_bare : {B : Type 0} (d : B) (x : Exps Bare) (y : Layout B) → map_exps no_mark (args_at d x y) ≡ x
  args_bare d end y = refl
  args_bare d (more e es) y = λ i. more (exp_bare d e (part0 (parts_of y)) i) (more_args_bare d es (part1 (parts_of y)) i)

  more_args_bare : {B : Type 0} (d : B) (x : Exps Bare) (y : Layout B) → map_exps no_mark (more_args_at d x y) ≡ x
  more_args_bare d end y = refl
  more_args_bare d (more e es) y = λ i. more (exp_bare d e (part1 (parts_of y)) i) (more_args_bare d es (part2 (parts_of y)) i)
