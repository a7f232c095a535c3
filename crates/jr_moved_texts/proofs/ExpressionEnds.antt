-- The first and the last token of an expression: which may stand beside a comment, and no dot.
use Rattle.std.proofs.Common.{◌≡◌, ◌≢◌, ℕ, true, not, Bool, List, [], ◌∷◌, ◌++◌, Option, Some, None, refl}
use Rattle.jr_lex.specs.declared.items.TokenKind.{TokenKind}
use Rattle.jr_lex.specs.declared.items.TokenKind.TheVariants.{Mark}
use Rattle.jr_lex.specs.declared.items.Keyword.TheVariants.{Class, New, Super, This, Null}
use Rattle.jr_lex.specs.declared.items.Keyword.TheVariants as keyword_name
use Rattle.jr_lex.specs.declared.items.Symbol.TheVariants.{OpenParen, CloseParen, Dot, PlusPlus, MinusMinus, Slash, Semicolon, Equals}
use Rattle.jr_lex.specs.Beside.{token_beside, begins_with_dot}
use Rattle.jr_ast.specs.declared.operators.UnOp.TheVariants.{Plus, Minus, Not}
use Rattle.jr_ast.specs.declared.operators.BumpOp.TheVariants.{PreInc, PreDec, PostInc, PostDec}
use Rattle.jr_ast.specs.Tree as tree
use Rattle.jr_grammar.specs.Tokens.{Token, word, keyword, integer, text, symbol, kinds}
use Rattle.jr_grammar.specs.Stands.{Tokens}
use Rattle.jr_grammar.specs.Spelling.{unary_symbol, binary_symbol, compound_symbol, truth_keyword, type_toks, toks, target_toks, args_toks}
use Rattle.jr_moved_texts.specs.Spaces.{kind_of, first_kind, last_kind}
use Rattle.jr_moved_texts.specs.Moved.{EndsWith}

-- ---- the first token

abbrev pub begins_no_dot : TokenKind → Bool
begins_no_dot (Mark s) = not (begins_with_dot s)
begins_no_dot _ = true

pub record Head (ts : List Token) : Type 0 where
  pub kind : TokenKind
  pub is : first_kind ts ≡ Some kind
  pub slash : token_beside (Mark Slash) kind ≡ true
  pub no_dot : begins_no_dot kind ≡ true

one_head : (t : Token) (ts : List Token) → token_beside (Mark Slash) (kind_of t) ≡ true → begins_no_dot (kind_of t) ≡ true → Head (t ∷ ts)
one_head t ts slash no_dot = record { kind = kind_of t; is = refl; slash = slash; no_dot = no_dot }

no_kind : (k : TokenKind) → (let none : Option TokenKind = None in none ≡ Some k) → ⊥
no_kind k e = cc

head_append : (xs ys : List Token) → Head xs → Head (xs ++ ys)
head_append [] ys h = absurd (no_kind h.kind h.is)
head_append (x ∷ xs) ys h = record { kind = h.kind; is = h.is; slash = h.slash; no_dot = h.no_dot }

type_head : {A : Type 0} (t : tree.TypeName A) → Head (type_toks t)
type_head (tree.int m) = one_head (keyword keyword_name.Int) [] refl refl
type_head (tree.boolean m) = one_head (keyword keyword_name.Boolean) [] refl refl
type_head (tree.named m None w) = one_head (word w.text) [] refl refl
type_head (tree.named m (Some o) w) = one_head (word o.text) (symbol Dot ∷ word w.text ∷ []) refl refl

pub exp_head : {A : Type 0} (e : tree.Exp A) → Head (toks e)
exp_head (tree.number m n) = one_head (integer n) [] refl refl
exp_head (tree.truth m b) = one_head (keyword (truth_keyword b)) [] refl refl
exp_head (tree.null m) = one_head (keyword Null) [] refl refl
exp_head (tree.string m s) = one_head (text s) [] refl refl
exp_head (tree.name m w) = one_head (word w.text) [] refl refl
exp_head (tree.field m e w) = head_append (toks e) (symbol Dot ∷ word w.text ∷ []) (exp_head e)
exp_head (tree.super_field m w) = one_head (keyword Super) (symbol Dot ∷ word w.text ∷ []) refl refl
exp_head (tree.this m) = one_head (keyword This) [] refl refl
exp_head (tree.class_literal m t) = head_append (type_toks t) (symbol Dot ∷ keyword Class ∷ []) (type_head t)
exp_head (tree.call m tree.no_target w es) = one_head (word w.text) (symbol OpenParen ∷ (args_toks es ++ (symbol CloseParen ∷ []))) refl refl
exp_head (tree.call m (tree.on e) w es) =
    head_append (toks e ++ (symbol Dot ∷ [])) (word w.text ∷ symbol OpenParen ∷ (args_toks es ++ (symbol CloseParen ∷ []))) (head_append (toks e) (symbol Dot ∷ []) (exp_head e))
exp_head (tree.super_call m w es) = one_head (keyword Super) (symbol Dot ∷ word w.text ∷ symbol OpenParen ∷ (args_toks es ++ (symbol CloseParen ∷ []))) refl refl
exp_head (tree.create m t es) = one_head (keyword New) (type_toks t ++ (symbol OpenParen ∷ (args_toks es ++ (symbol CloseParen ∷ [])))) refl refl
exp_head (tree.paren m e) = one_head (symbol OpenParen) (toks e ++ (symbol CloseParen ∷ [])) refl refl
exp_head (tree.cast m t e) = one_head (symbol OpenParen) (type_toks t ++ (symbol CloseParen ∷ toks e)) refl refl
exp_head (tree.unary m Plus e) = one_head (symbol (unary_symbol Plus)) (toks e) refl refl
exp_head (tree.unary m Minus e) = one_head (symbol (unary_symbol Minus)) (toks e) refl refl
exp_head (tree.unary m Not e) = one_head (symbol (unary_symbol Not)) (toks e) refl refl
exp_head (tree.bump m PreInc e) = one_head (symbol PlusPlus) (toks e) refl refl
exp_head (tree.bump m PreDec e) = one_head (symbol MinusMinus) (toks e) refl refl
exp_head (tree.bump m PostInc e) = head_append (toks e) (symbol PlusPlus ∷ []) (exp_head e)
exp_head (tree.bump m PostDec e) = head_append (toks e) (symbol MinusMinus ∷ []) (exp_head e)
exp_head (tree.binary m o l r) = head_append (toks l) (symbol (binary_symbol o) ∷ toks r) (exp_head l)
exp_head (tree.assign m t e) = head_append (toks t) (symbol Equals ∷ toks e) (exp_head t)
exp_head (tree.compound m o t e) = head_append (toks t) (symbol (compound_symbol o) ∷ toks e) (exp_head t)

-- ---- the last token

pub record Last (ts : List Token) : Type 0 where
  pub kind : TokenKind
  pub is : last_kind ts ≡ Some kind
  pub slash : token_beside kind (Mark Slash) ≡ true
  pub semicolon : token_beside kind (Mark Semicolon) ≡ true
  pub no_dot : kind ≢ Mark Dot

one_last : (t : Token) → token_beside (kind_of t) (Mark Slash) ≡ true → token_beside (kind_of t) (Mark Semicolon) ≡ true → kind_of t ≢ Mark Dot → Last (t ∷ [])
one_last t slash semicolon no_dot = record { kind = kind_of t; is = refl; slash = slash; semicolon = semicolon; no_dot = no_dot }

pub last_some : (xs ys : List Token) (k : TokenKind) → last_kind ys ≡ Some k → last_kind (xs ++ ys) ≡ Some k
last_some [] ys k e = e
last_some (x ∷ []) [] k e = absurd (no_kind k e)
last_some (x ∷ []) (y ∷ ys) k e = e
last_some (x ∷ z ∷ xs) ys k e = last_some (z ∷ xs) ys k e

last_append : (xs ys : List Token) → Last ys → Last (xs ++ ys)
last_append xs ys h = record { kind = h.kind; is = last_some xs ys h.kind h.is; slash = h.slash; semicolon = h.semicolon; no_dot = h.no_dot }

last_cons : (x : Token) (ys : List Token) → Last ys → Last (x ∷ ys)
last_cons x ys h = last_append (x ∷ []) ys h

word_last : (x : List ℕ) → Last (word x ∷ [])
word_last x = one_last (word x) refl refl (λ e. cc)

paren_last : Last (symbol CloseParen ∷ [])
paren_last = one_last (symbol CloseParen) refl refl (λ e. cc)

args_last : {A : Type 0} (es : tree.Exps A) → Last (args_toks es ++ (symbol CloseParen ∷ []))
args_last es = last_append (args_toks es) (symbol CloseParen ∷ []) paren_last

pub exp_last : {A : Type 0} (e : tree.Exp A) → Last (toks e)
exp_last (tree.number m n) = one_last (integer n) refl refl (λ e. cc)
exp_last (tree.truth m b) = one_last (keyword (truth_keyword b)) refl refl (λ e. cc)
exp_last (tree.null m) = one_last (keyword Null) refl refl (λ e. cc)
exp_last (tree.string m s) = one_last (text s) refl refl (λ e. cc)
exp_last (tree.name m w) = word_last w.text
exp_last (tree.field m e w) = last_append (toks e) (symbol Dot ∷ word w.text ∷ []) (last_cons (symbol Dot) (word w.text ∷ []) (word_last w.text))
exp_last (tree.super_field m w) = last_append (keyword Super ∷ symbol Dot ∷ []) (word w.text ∷ []) (word_last w.text)
exp_last (tree.this m) = one_last (keyword This) refl refl (λ e. cc)
exp_last (tree.class_literal m t) = last_append (type_toks t) (symbol Dot ∷ keyword Class ∷ []) (last_cons (symbol Dot) (keyword Class ∷ []) (one_last (keyword Class) refl refl (λ e. cc)))
exp_last (tree.call m t w es) = last_append (target_toks t) (word w.text ∷ symbol OpenParen ∷ (args_toks es ++ (symbol CloseParen ∷ []))) (last_append (word w.text ∷ symbol OpenParen ∷ []) (args_toks es ++ (symbol CloseParen ∷ [])) (args_last es))
exp_last (tree.super_call m w es) = last_append (keyword Super ∷ symbol Dot ∷ word w.text ∷ symbol OpenParen ∷ []) (args_toks es ++ (symbol CloseParen ∷ [])) (args_last es)
exp_last (tree.create m t es) =
    last_cons (keyword New) (type_toks t ++ (symbol OpenParen ∷ (args_toks es ++ (symbol CloseParen ∷ []))))
    (last_append (type_toks t) (symbol OpenParen ∷ (args_toks es ++ (symbol CloseParen ∷ []))) (last_cons (symbol OpenParen) (args_toks es ++ (symbol CloseParen ∷ [])) (args_last es)))
exp_last (tree.paren m e) = last_cons (symbol OpenParen) (toks e ++ (symbol CloseParen ∷ [])) (last_append (toks e) (symbol CloseParen ∷ []) paren_last)
exp_last (tree.cast m t e) = last_cons (symbol OpenParen) (type_toks t ++ (symbol CloseParen ∷ toks e)) (last_append (type_toks t) (symbol CloseParen ∷ toks e) (last_cons (symbol CloseParen) (toks e) (exp_last e)))
exp_last (tree.unary m o e) = last_cons (symbol (unary_symbol o)) (toks e) (exp_last e)
exp_last (tree.bump m PreInc e) = last_cons (symbol PlusPlus) (toks e) (exp_last e)
exp_last (tree.bump m PreDec e) = last_cons (symbol MinusMinus) (toks e) (exp_last e)
exp_last (tree.bump m PostInc e) = last_append (toks e) (symbol PlusPlus ∷ []) (one_last (symbol PlusPlus) refl refl (λ e. cc))
exp_last (tree.bump m PostDec e) = last_append (toks e) (symbol MinusMinus ∷ []) (one_last (symbol MinusMinus) refl refl (λ e. cc))
exp_last (tree.binary m o l r) = last_append (toks l) (symbol (binary_symbol o) ∷ toks r) (last_cons (symbol (binary_symbol o)) (toks r) (exp_last r))
exp_last (tree.assign m t e) = last_append (toks t) (symbol Equals ∷ toks e) (last_cons (symbol Equals) (toks e) (exp_last e))
exp_last (tree.compound m o t e) = last_append (toks t) (symbol (compound_symbol o) ∷ toks e) (last_cons (symbol (compound_symbol o)) (toks e) (exp_last e))

-- ---- of tokens with their places

pub ends_with : (k : TokenKind) (ps : Tokens) → last_kind (kinds ps) ≡ Some k → EndsWith k ps
ends_with k [] e = absurd (no_kind k e)
ends_with k (p ∷ []) e = (let same : kind_of p.token ≡ k = cc in same)
ends_with k (p ∷ q ∷ ps) e = ends_with k (q ∷ ps) e
