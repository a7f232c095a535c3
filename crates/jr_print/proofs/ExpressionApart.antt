-- No two parts of a printed expression run together.
use Rattle.std.proofs.Common.{◌≡◌, ℕ, eqb, Bool, true, false, cond, List, [], ◌∷◌, ◌++◌, Some, None, refl, sym, ap, ◌∙◌, subst, arith}
use Rattle.std.specs.Prelude.{codes}
use Rattle.std.proofs.lemmas.List.{append_assoc, append-nil}
use Rattle.jr_lex.specs.declared.items.ItemKind.TheVariants as item
use Rattle.jr_lex.specs.declared.items.TokenKind.TheVariants as kind
use Rattle.jr_lex.specs.declared.items.Keyword.TheVariants.{Int, Boolean, Class, New, Super, This, Null, True, False}
use Rattle.jr_lex.specs.declared.items.Symbol.{Symbol}
use Rattle.jr_lex.specs.declared.items.Symbol.TheVariants.{OpenParen, CloseParen, Dot, Equals, Bang, Plus as PlusSign, Minus as MinusSign, PlusPlus, MinusMinus}
use Rattle.jr_lex.specs.Characters.{first_passes}
use Rattle.jr_ast.specs.declared.operators.UnOp.{UnOp}
use Rattle.jr_ast.specs.declared.operators.UnOp.TheVariants.{Plus, Minus, Not}
use Rattle.jr_ast.specs.declared.operators.BinOp.TheVariants.{Or, And, Eq, Ne, Lt, Gt, Le, Ge, Add, Sub, Mul, Div, Rem}
use Rattle.jr_ast.specs.declared.operators.BumpOp.TheVariants.{PreInc, PreDec, PostInc, PostDec}
use Rattle.jr_ast.specs.Tree.{TypeName, int, boolean, named, Exp, number, truth, null, string, name, field, super_field, this, class_literal, call, super_call, create, paren, cast, unary, bump, binary, assign, compound, Target, no_target, on, Exps, end, more}
use Rattle.jr_grammar.specs.Tokens.{word, keyword, integer, text, symbol}
use Rattle.jr_grammar.specs.Spelling.{binary_symbol, compound_symbol, truth_keyword}
use Rattle.jr_grammar.specs.Shape.{IsPrimary, is_minus, ShapedBehind, ShapedTarget, AllShaped}
use Rattle.jr_print.specs.ExpressionText.{printed_type, printed_dot, printed_binary, printed_compound, printed, printed_args}
use Rattle.jr_print.proofs.TextParts.{Part, space, tok, part_text}
use Rattle.jr_print.proofs.ExpressionParts.{type_parts, dot_parts, unary_parts, infix_parts, parts, target_parts, args_parts, more_parts}
use Rattle.jr_print.proofs.Beside.{Apart, Behind, first_ok, after_word, Follows, opens, behind_word, behind_keyword, follows_any, follows_word, behind_number, behind_text, behind_open, behind_close, behind_plus_plus, behind_minus_minus, space_opener, bang_opener, plus_opener, minus_opener}

-- ---- how an expression begins

-- the first part, whatever follows the whole
pub record Front (of : List Part → List Part) (whole : List ℕ) : Type 0 where
  pub first : Part
  pub opener : opens first ≡ true
  pub others : List Part → List Part
  pub parts_are : (rest : List Part) → of rest ≡ first ∷ others rest
  pub behind : List ℕ
  pub text_is : whole ≡ part_text first ++ behind

-- what begins with it begins so
left : {of : List Part → List Part} {whole : List ℕ} → Front of whole → (g : List Part → List Part) (tail : List ℕ) → Front (λ rest. of (g rest)) (whole ++ tail)
left F g tail = record {
  first = F.first;
  opener = F.opener;
  others = λ rest. F.others (g rest);
  parts_are = λ rest. F.parts_are (g rest);
  behind = F.behind ++ tail;
  text_is = ap (λ x. x ++ tail) F.text_is ∙ append_assoc (part_text F.first) F.behind tail;
}

-- one part alone
alone : (p : Part) → opens p ≡ true → Front (λ rest. p ∷ rest) (part_text p)
alone p h = record { first = p; opener = h; others = λ rest. rest; parts_are = λ rest. refl; behind = []; text_is = sym (append-nil (part_text p)) }

type_front : {A : Type 0} (t : TypeName A) → Front (type_parts t) (printed_type t)
type_front (int m) = alone (tok (keyword Int)) refl
type_front (boolean m) = alone (tok (keyword Boolean)) refl
type_front (named m None w) = alone (tok (word w.text)) refl
type_front (named m (Some o) w) =
    left (left (alone (tok (word o.text)) refl) (λ rest. tok (symbol Dot) ∷ tok (word w.text) ∷ rest) (codes ".")) (λ rest. rest) w.text

-- a part, and a text that goes on behind it
begins : (p : Part) → opens p ≡ true → (g : List Part → List Part) (behind : List ℕ) → Front (λ rest. p ∷ g rest) (part_text p ++ behind)
begins p h g behind = record { first = p; opener = h; others = g; parts_are = λ rest. refl; behind = behind; text_is = refl }

plus_front : (operand : List ℕ) (g : List Part → List Part) → Front (λ rest. unary_parts Plus operand (g rest)) (cond (first_passes (λ c. eqb c 43) operand) (43 ∷ 32 ∷ operand) (43 ∷ operand))
plus_front operand g =
    elim (first_passes (λ c. eqb c 43) operand) as (λ b. Front (λ rest. cond b (tok (symbol PlusSign) ∷ space ∷ g rest) (tok (symbol PlusSign) ∷ g rest)) (cond b (43 ∷ 32 ∷ operand) (43 ∷ operand))) [
      | true ↦ begins (tok (symbol PlusSign)) refl (λ rest. space ∷ g rest) (32 ∷ operand)
      | false ↦ begins (tok (symbol PlusSign)) refl g operand
    ]

minus_front : (operand : List ℕ) (g : List Part → List Part) → Front (λ rest. unary_parts Minus operand (g rest)) (cond (first_passes (λ c. eqb c 45) operand) (45 ∷ 32 ∷ operand) (45 ∷ operand))
minus_front operand g =
    elim (first_passes (λ c. eqb c 45) operand) as (λ b. Front (λ rest. cond b (tok (symbol MinusSign) ∷ space ∷ g rest) (tok (symbol MinusSign) ∷ g rest)) (cond b (45 ∷ 32 ∷ operand) (45 ∷ operand))) [
      | true ↦ begins (tok (symbol MinusSign)) refl (λ rest. space ∷ g rest) (32 ∷ operand)
      | false ↦ begins (tok (symbol MinusSign)) refl g operand
    ]

pub front_of : {A : Type 0} (e : Exp A) → Front (parts e) (printed e)
front_of (number m n) = alone (tok (integer n)) refl
front_of (truth m true) = alone (tok (keyword True)) refl
front_of (truth m false) = alone (tok (keyword False)) refl
front_of (null m) = alone (tok (keyword Null)) refl
front_of (string m s) = alone (tok (text s)) refl
front_of (name m w) = alone (tok (word w.text)) refl
front_of (field m e w) = left (left (front_of e) (λ rest. dot_parts e (tok (word w.text) ∷ rest)) (printed_dot e)) (λ rest. rest) w.text
front_of (super_field m w) = begins (tok (keyword Super)) refl (λ rest. tok (symbol Dot) ∷ tok (word w.text) ∷ rest) (46 ∷ w.text)
front_of (this m) = alone (tok (keyword This)) refl
front_of (class_literal m t) = left (type_front t) (λ rest. tok (symbol Dot) ∷ tok (keyword Class) ∷ rest) (codes ".class")
front_of (call m no_target w es) =
    left (left (left (alone (tok (word w.text)) refl) (λ rest. tok (symbol OpenParen) ∷ args_parts es (tok (symbol CloseParen) ∷ rest)) (codes "(")) (λ rest. rest) (printed_args es)) (λ rest. rest) (codes ")")
front_of (call m (on e) w es) =
    left (left (left (left (left (front_of e) (λ rest. dot_parts e (tok (word w.text) ∷ tok (symbol OpenParen) ∷ args_parts es (tok (symbol CloseParen) ∷ rest))) (printed_dot e))
    (λ rest. rest) w.text) (λ rest. rest) (codes "(")) (λ rest. rest) (printed_args es)) (λ rest. rest) (codes ")")
front_of (super_call m w es) =
    begins (tok (keyword Super)) refl (λ rest. tok (symbol Dot) ∷ tok (word w.text) ∷ tok (symbol OpenParen) ∷ args_parts es (tok (symbol CloseParen) ∷ rest))
    (46 ∷ (w.text ++ codes "(" ++ printed_args es ++ codes ")"))
front_of (create m t es) =
    begins (tok (keyword New)) refl (λ rest. space ∷ type_parts t (tok (symbol OpenParen) ∷ args_parts es (tok (symbol CloseParen) ∷ rest)))
    (32 ∷ (printed_type t ++ codes "(" ++ printed_args es ++ codes ")"))
front_of (paren m e) = begins (tok (symbol OpenParen)) refl (λ rest. parts e (tok (symbol CloseParen) ∷ rest)) (printed e ++ codes ")")
front_of (cast m t e) =
    begins (tok (symbol OpenParen)) refl (λ rest. type_parts t (tok (symbol CloseParen) ∷ space ∷ parts e rest)) (printed_type t ++ codes ") " ++ printed e)
front_of (unary m Plus e) = plus_front (printed e) (parts e)
front_of (unary m Minus e) = minus_front (printed e) (parts e)
front_of (unary m Not e) = begins (tok (symbol Bang)) refl (parts e) (printed e)
front_of (bump m PreInc e) = begins (tok (symbol PlusPlus)) refl (parts e) (printed e ++ [])
front_of (bump m PreDec e) = begins (tok (symbol MinusMinus)) refl (parts e) (printed e ++ [])
front_of (bump m PostInc e) = left (front_of e) (λ rest. tok (symbol PlusPlus) ∷ rest) (codes "++")
front_of (bump m PostDec e) = left (front_of e) (λ rest. tok (symbol MinusMinus) ∷ rest) (codes "--")
front_of (binary m o l r) = left (left (front_of l) (λ rest. infix_parts (binary_symbol o) (parts r rest)) (printed_binary o)) (λ rest. rest) (printed r)
front_of (assign m t e) = left (left (front_of t) (λ rest. infix_parts Equals (parts e rest)) (codes " = ")) (λ rest. rest) (printed e)
front_of (compound m o t e) = left (left (front_of t) (λ rest. infix_parts (compound_symbol o) (parts e rest)) (printed_compound o)) (λ rest. rest) (printed e)

-- ---- what may stand before an expression

pub space_before : {A : Type 0} (e : Exp A) (rest : List Part) → Behind item.Blank (parts e rest)
space_before e rest = let F = front_of e in subst (Behind item.Blank) (sym (F.parts_are rest)) (space_opener F.first F.opener)

bang_before : {A : Type 0} (e : Exp A) (rest : List Part) → Behind (item.Token (kind.Mark Bang)) (parts e rest)
bang_before e rest = let F = front_of e in subst (Behind (item.Token (kind.Mark Bang))) (sym (F.parts_are rest)) (bang_opener F.first F.opener)

plus_before : {A : Type 0} (e : Exp A) (rest : List Part) → first_passes (λ c. eqb c 43) (printed e) ≡ false → Behind (item.Token (kind.Mark PlusSign)) (parts e rest)
plus_before e rest other =
    let F = front_of e in
    subst (Behind (item.Token (kind.Mark PlusSign))) (sym (F.parts_are rest)) (plus_opener F.first F.behind F.opener (ap (first_passes (λ c. eqb c 43)) (sym F.text_is) ∙ other))

minus_before : {A : Type 0} (e : Exp A) (rest : List Part) → first_passes (λ c. eqb c 45) (printed e) ≡ false → Behind (item.Token (kind.Mark MinusSign)) (parts e rest)
minus_before e rest other =
    let F = front_of e in
    subst (Behind (item.Token (kind.Mark MinusSign))) (sym (F.parts_are rest)) (minus_opener F.first F.behind F.opener (ap (first_passes (λ c. eqb c 45)) (sym F.text_is) ∙ other))

pub space_before_type : {A : Type 0} (t : TypeName A) (rest : List Part) → Behind item.Blank (type_parts t rest)
space_before_type t rest = let F = type_front t in subst (Behind item.Blank) (sym (F.parts_are rest)) (space_opener F.first F.opener)

-- ---- types, dots and signs

pub type_apart : {A : Type 0} (t : TypeName A) (rest : List Part) → Apart rest → first_ok after_word rest ≡ true → Apart (type_parts t rest)
type_apart (int m) rest a f = (behind_keyword Int rest f, a)
type_apart (boolean m) rest a f = (behind_keyword Boolean rest f, a)
type_apart (named m None w) rest a f = (behind_word rest f, a)
type_apart (named m (Some o) w) rest a f = (refl, (refl, (behind_word rest f, a)))

-- whether a dot may stand directly behind the expression
abbrev pub takes_dot : {A : Type 0} → Exp A → Bool
takes_dot (number m n) = false
takes_dot (cast m t e) = false
takes_dot (unary m o e) = false
takes_dot (bump m o e) = false
takes_dot (binary m o l r) = false
takes_dot (assign m t e) = false
takes_dot (compound m o t e) = false
takes_dot _ = true

dot_apart : {A : Type 0} (e : Exp A) (rest : List Part) → Behind (item.Token (kind.Mark Dot)) rest → Apart rest → Apart (dot_parts e rest)
dot_apart (number m n) rest b a = (refl, (b, a))
dot_apart _ rest b a = (b, a)

dot_follows : {A : Type 0} (e : Exp A) (rest : List Part) → IsPrimary e → Follows (takes_dot e) (dot_parts e rest)
dot_follows (cast m t e) rest h = absurd (omega (arith, h))
dot_follows (unary m Plus e) rest h = absurd (omega (arith, h))
dot_follows (unary m Minus e) rest h = absurd (omega (arith, h))
dot_follows (unary m Not e) rest h = absurd (omega (arith, h))
dot_follows (bump m PreInc e) rest h = absurd (omega (arith, h))
dot_follows (bump m PreDec e) rest h = absurd (omega (arith, h))
dot_follows (bump m PostInc e) rest h = absurd (omega (arith, h))
dot_follows (bump m PostDec e) rest h = absurd (omega (arith, h))
dot_follows (binary m Or l r) rest h = absurd (omega (arith, h))
dot_follows (binary m And l r) rest h = absurd (omega (arith, h))
dot_follows (binary m Eq l r) rest h = absurd (omega (arith, h))
dot_follows (binary m Ne l r) rest h = absurd (omega (arith, h))
dot_follows (binary m Lt l r) rest h = absurd (omega (arith, h))
dot_follows (binary m Gt l r) rest h = absurd (omega (arith, h))
dot_follows (binary m Le l r) rest h = absurd (omega (arith, h))
dot_follows (binary m Ge l r) rest h = absurd (omega (arith, h))
dot_follows (binary m Add l r) rest h = absurd (omega (arith, h))
dot_follows (binary m Sub l r) rest h = absurd (omega (arith, h))
dot_follows (binary m Mul l r) rest h = absurd (omega (arith, h))
dot_follows (binary m Div l r) rest h = absurd (omega (arith, h))
dot_follows (binary m Rem l r) rest h = absurd (omega (arith, h))
dot_follows (assign m t e) rest h = absurd (omega (arith, h))
dot_follows (compound m o t e) rest h = absurd (omega (arith, h))
dot_follows _ rest h = refl

unary_apart : {A : Type 0} (o : UnOp) (e : Exp A) (rest : List Part) → Apart (parts e rest) → Apart (unary_parts o (printed e) (parts e rest))
unary_apart Not e rest a = (bang_before e rest, a)
unary_apart Plus e rest a = go (first_passes (λ c. eqb c 43) (printed e)) refl
  where
    go : (b : Bool) → first_passes (λ c. eqb c 43) (printed e) ≡ b → Apart (cond b (tok (symbol PlusSign) ∷ space ∷ parts e rest) (tok (symbol PlusSign) ∷ parts e rest))
    go true h = (refl, (space_before e rest, a))
    go false h = (plus_before e rest h, a)
unary_apart Minus e rest a = go (first_passes (λ c. eqb c 45) (printed e)) refl
  where
    go : (b : Bool) → first_passes (λ c. eqb c 45) (printed e) ≡ b → Apart (cond b (tok (symbol MinusSign) ∷ space ∷ parts e rest) (tok (symbol MinusSign) ∷ parts e rest))
    go true h = (refl, (space_before e rest, a))
    go false h = (minus_before e rest h, a)

infix_apart : {A : Type 0} (s : Symbol) (e : Exp A) (rest : List Part) → Apart (parts e rest) → Apart (infix_parts s (parts e rest))
infix_apart s e rest a = (refl, (refl, (space_before e rest, a)))

-- ---- expressions

more_follows : {A : Type 0} (dot : Bool) (es : Exps A) (rest : List Part) → Follows false rest → Follows dot (more_parts es rest)
more_follows dot end rest f = follows_any dot rest f
more_follows dot (more e es) rest f = refl

mutual
  pub apart : {A : Type 0} (minus : Bool) (e : Exp A) → ShapedBehind minus e → (rest : List Part) → Apart rest → Follows (takes_dot e) rest → Apart (parts e rest)
  apart minus (number m n) h rest a f = (behind_number n rest f, a)
  apart minus (truth m b) h rest a f = (behind_keyword (truth_keyword b) rest (follows_word true rest f), a)
  apart minus (null m) h rest a f = (behind_keyword Null rest (follows_word true rest f), a)
  apart minus (string m s) h rest a f = (behind_text rest, a)
  apart minus (name m w) h rest a f = (behind_word rest (follows_word true rest f), a)
  apart minus (field m e w) h rest a f =
      apart minus e h.1 (dot_parts e (tok (word w.text) ∷ rest)) (dot_apart e (tok (word w.text) ∷ rest) refl (behind_word rest (follows_word true rest f), a)) (dot_follows e (tok (word w.text) ∷ rest) h.0)
  apart minus (super_field m w) h rest a f = (refl, (refl, (behind_word rest (follows_word true rest f), a)))
  apart minus (this m) h rest a f = (behind_keyword This rest (follows_word true rest f), a)
  apart minus (class_literal m t) h rest a f =
      type_apart t (tok (symbol Dot) ∷ tok (keyword Class) ∷ rest) (refl, (behind_keyword Class rest (follows_word true rest f), a)) refl
  apart minus (call m t w es) h rest a f = target_apart minus t h.0 w.text (tok (symbol OpenParen) ∷ args_parts es (tok (symbol CloseParen) ∷ rest)) (in_parens_apart es h.1 rest a) refl
  apart minus (super_call m w es) h rest a f = (refl, (refl, (refl, in_parens_apart es h rest a)))
  apart minus (create m t es) h rest a f =
      (refl, (space_before_type t _, type_apart t (tok (symbol OpenParen) ∷ args_parts es (tok (symbol CloseParen) ∷ rest)) (in_parens_apart es h.1 rest a) refl))
  apart minus (paren m e) h rest a f = (behind_open _, apart false e h (tok (symbol CloseParen) ∷ rest) (behind_close rest, a) refl)
  apart minus (cast m t e) h rest a f =
      (behind_open _, type_apart t (tok (symbol CloseParen) ∷ space ∷ parts e rest) (refl, (space_before e rest, apart false e h.2 rest a (follows_any (takes_dot e) rest f))) refl)
  apart minus (unary m o e) h rest a f = unary_apart o e rest (apart (is_minus o) e h.1 rest a (follows_any (takes_dot e) rest f))
  apart minus (bump m PreInc e) h rest a f = (behind_plus_plus _, apart false e h.1 rest a (follows_any (takes_dot e) rest f))
  apart minus (bump m PreDec e) h rest a f = (behind_minus_minus _, apart false e h.1 rest a (follows_any (takes_dot e) rest f))
  apart minus (bump m PostInc e) h rest a f = apart minus e h.1 (tok (symbol PlusPlus) ∷ rest) (behind_plus_plus rest, a) refl
  apart minus (bump m PostDec e) h rest a f = apart minus e h.1 (tok (symbol MinusMinus) ∷ rest) (behind_minus_minus rest, a) refl
  apart minus (binary m o l r) h rest a f =
      apart minus l h.1 (infix_parts (binary_symbol o) (parts r rest)) (infix_apart (binary_symbol o) r rest (apart false r h.2 rest a (follows_any (takes_dot r) rest f))) refl
  apart minus (assign m t e) h rest a f =
      apart minus t h.1 (infix_parts Equals (parts e rest)) (infix_apart Equals e rest (apart false e h.2 rest a (follows_any (takes_dot e) rest f))) refl
  apart minus (compound m o t e) h rest a f =
      apart minus t h.2 (infix_parts (compound_symbol o) (parts e rest)) (infix_apart (compound_symbol o) e rest (apart false e h.3 rest a (follows_any (takes_dot e) rest f))) refl

  target_apart : {A : Type 0} (minus : Bool) (t : Target A) → ShapedTarget minus t → (w : List ℕ) (rest : List Part) → Apart rest → first_ok after_word rest ≡ true
      → Apart (target_parts t (tok (word w) ∷ rest))
  target_apart minus no_target h w rest a f = (behind_word rest f, a)
  target_apart minus (on e) h w rest a f =
      apart minus e h.1 (dot_parts e (tok (word w) ∷ rest)) (dot_apart e (tok (word w) ∷ rest) refl (behind_word rest f, a)) (dot_follows e (tok (word w) ∷ rest) h.0)

  pub in_parens_apart : {A : Type 0} (es : Exps A) → AllShaped es → (rest : List Part) → Apart rest → Apart (tok (symbol OpenParen) ∷ args_parts es (tok (symbol CloseParen) ∷ rest))
  in_parens_apart end h rest a = (refl, (behind_close rest, a))
  in_parens_apart (more e es) h rest a =
      let behind : Apart (tok (symbol CloseParen) ∷ rest) = (behind_close rest, a) in
      (behind_open _, apart false e h.0 (more_parts es (tok (symbol CloseParen) ∷ rest)) (more_apart es h.1 (tok (symbol CloseParen) ∷ rest) behind refl) (more_follows (takes_dot e) es (tok (symbol CloseParen) ∷ rest) refl))

  more_apart : {A : Type 0} (es : Exps A) → AllShaped es → (rest : List Part) → Apart rest → Follows false rest → Apart (more_parts es rest)
  more_apart end h rest a f = a
  more_apart (more e es) h rest a f =
      (refl, (space_before e _, apart false e h.0 (more_parts es rest) (more_apart es h.1 rest a f) (more_follows (takes_dot e) es rest f)))
