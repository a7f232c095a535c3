-- Which parts may stand beside one another.
use Rattle.std.proofs.Common.{◌≡◌, ℕ, ◌==◌, Bool, true, false, not, List, [], ◌∷◌, ◌++◌, refl}
use Rattle.std.proofs.lemmas.Bool.{false≢true, true≢false}
use Rattle.jr_lex.specs.declared.items.ItemKind.{ItemKind}
use Rattle.jr_lex.specs.declared.items.ItemKind.TheVariants as item
use Rattle.jr_lex.specs.declared.items.TokenKind.TheVariants as kind
use Rattle.jr_lex.specs.declared.items.Keyword.{Keyword}
use Rattle.jr_lex.specs.declared.items.Symbol.{Symbol}
use Rattle.jr_lex.specs.declared.items.Symbol.TheVariants.{OpenParen, CloseParen, OpenBrace, CloseBrace, Semicolon, Comma, Dot, Ellipsis, Bang, Plus, Minus, PlusPlus, MinusMinus}
use Rattle.jr_lex.specs.Characters.{first_passes}
use Rattle.jr_lex.specs.Symbols.{symbol_text}
use Rattle.jr_lex.specs.Beside.{number_beside, begins_with_dot, symbol_beside, beside, first_beside, AreApart}
use Rattle.jr_grammar.specs.Tokens.{word, keyword, integer, text, symbol}
use Rattle.jr_print.proofs.TextParts.{Part, space, tok, part_kind, part_text, pieces_of}

-- each may stand behind the one in front of it
abbrev pub Apart : List Part → Type 0
Apart ps = AreApart (pieces_of ps)

-- the first of the parts may stand behind the kind
abbrev pub Behind : ItemKind → List Part → Type 0
Behind k ps = first_beside k (pieces_of ps) ≡ true

abbrev pub first_ok : (Part → Bool) → List Part → Bool
first_ok p [] = true
first_ok p (x ∷ xs) = p x

-- ---- behind words and types

abbrev pub after_word : Part → Bool
after_word space = true
after_word (tok (word w)) = false
after_word (tok (keyword k)) = false
after_word (tok (integer n)) = false
after_word (tok (text s)) = true
after_word (tok (symbol s)) = true

pub behind_word : (ps : List Part) → first_ok after_word ps ≡ true → Behind (item.Token kind.Word) ps
behind_word [] h = refl
behind_word (space ∷ ps) h = refl
behind_word (tok (word w) ∷ ps) h = absurd (false≢true h)
behind_word (tok (keyword k) ∷ ps) h = absurd (false≢true h)
behind_word (tok (integer n) ∷ ps) h = absurd (false≢true h)
behind_word (tok (text s) ∷ ps) h = refl
behind_word (tok (symbol s) ∷ ps) h = refl

pub behind_keyword : (k : Keyword) (ps : List Part) → first_ok after_word ps ≡ true → Behind (item.Token (kind.Keyword k)) ps
behind_keyword k [] h = refl
behind_keyword k (space ∷ ps) h = refl
behind_keyword k (tok (word w) ∷ ps) h = absurd (false≢true h)
behind_keyword k (tok (keyword j) ∷ ps) h = absurd (false≢true h)
behind_keyword k (tok (integer n) ∷ ps) h = absurd (false≢true h)
behind_keyword k (tok (text s) ∷ ps) h = refl
behind_keyword k (tok (symbol s) ∷ ps) h = refl

-- ---- behind expressions

-- what may follow an expression directly: a dot only where it is asked for
abbrev closes : Bool → Symbol → Bool
closes dot Dot = dot
closes dot CloseParen = true
closes dot Semicolon = true
closes dot Comma = true
closes dot PlusPlus = true
closes dot MinusMinus = true
closes dot _ = false

abbrev pub takes : Bool → Part → Bool
takes dot space = true
takes dot (tok (word w)) = false
takes dot (tok (keyword k)) = false
takes dot (tok (integer n)) = false
takes dot (tok (text s)) = false
takes dot (tok (symbol s)) = closes dot s

abbrev pub Follows : Bool → List Part → Type 0
Follows dot ps = first_ok (takes dot) ps ≡ true

with_dot : (s : Symbol) → closes false s ≡ true → closes true s ≡ true
with_dot Dot h = absurd (false≢true h)
with_dot _ h = h

-- what may follow where no dot is asked for may follow everywhere
pub follows_any : (dot : Bool) (ps : List Part) → Follows false ps → Follows dot ps
follows_any false ps h = h
follows_any true [] h = refl
follows_any true (space ∷ ps) h = refl
follows_any true (tok (word w) ∷ ps) h = h
follows_any true (tok (keyword k) ∷ ps) h = h
follows_any true (tok (integer n) ∷ ps) h = h
follows_any true (tok (text s) ∷ ps) h = h
follows_any true (tok (symbol s) ∷ ps) h = with_dot s h

pub follows_word : (dot : Bool) (ps : List Part) → Follows dot ps → first_ok after_word ps ≡ true
follows_word dot [] h = refl
follows_word dot (space ∷ ps) h = refl
follows_word dot (tok (word w) ∷ ps) h = h
follows_word dot (tok (keyword k) ∷ ps) h = h
follows_word dot (tok (integer n) ∷ ps) h = h
follows_word dot (tok (text s) ∷ ps) h = refl
follows_word dot (tok (symbol s) ∷ ps) h = refl

number_symbol : (s : Symbol) → closes false s ≡ true → not (begins_with_dot s) ≡ true
number_symbol Dot h = absurd (false≢true h)
number_symbol Ellipsis h = absurd (false≢true h)
number_symbol _ h = refl

pub behind_number : (n : ℕ) (ps : List Part) → Follows false ps → Behind (item.Token (kind.Int n)) ps
behind_number n [] h = refl
behind_number n (space ∷ ps) h = refl
behind_number n (tok (word w) ∷ ps) h = absurd (false≢true h)
behind_number n (tok (keyword k) ∷ ps) h = absurd (false≢true h)
behind_number n (tok (integer m) ∷ ps) h = absurd (false≢true h)
behind_number n (tok (text s) ∷ ps) h = absurd (false≢true h)
behind_number n (tok (symbol s) ∷ ps) h = number_symbol s h

pub behind_text : (ps : List Part) → Behind (item.Token kind.Text) ps
behind_text [] = refl
behind_text (space ∷ ps) = refl
behind_text (tok t ∷ ps) = refl

-- ---- behind symbols that don't go on

-- a symbol behind which every symbol and every number may stand
behind_all : (s : Symbol) → number_beside s ≡ true → ((t : Symbol) → symbol_beside s t ≡ true) → (ps : List Part) → Behind (item.Token (kind.Mark s)) ps
behind_all s numbers symbols [] = refl
behind_all s numbers symbols (space ∷ ps) = refl
behind_all s numbers symbols (tok (word w) ∷ ps) = refl
behind_all s numbers symbols (tok (keyword k) ∷ ps) = refl
behind_all s numbers symbols (tok (integer n) ∷ ps) = numbers
behind_all s numbers symbols (tok (text t) ∷ ps) = refl
behind_all s numbers symbols (tok (symbol t) ∷ ps) = symbols t

no_more : (t : Symbol) → not (first_passes (λ c. false) (symbol_text t)) ≡ true
no_more OpenParen = refl
no_more _ = refl

pub behind_open : (ps : List Part) → Behind (item.Token (kind.Mark OpenParen)) ps
behind_open ps = behind_all OpenParen refl no_more ps

pub behind_close : (ps : List Part) → Behind (item.Token (kind.Mark CloseParen)) ps
behind_close ps = behind_all CloseParen refl no_more ps

pub behind_plus_plus : (ps : List Part) → Behind (item.Token (kind.Mark PlusPlus)) ps
behind_plus_plus ps = behind_all PlusPlus refl no_more ps

pub behind_minus_minus : (ps : List Part) → Behind (item.Token (kind.Mark MinusMinus)) ps
behind_minus_minus ps = behind_all MinusMinus refl no_more ps

pub behind_semicolon : (ps : List Part) → Behind (item.Token (kind.Mark Semicolon)) ps
behind_semicolon ps = behind_all Semicolon refl no_more ps

pub behind_open_brace : (ps : List Part) → Behind (item.Token (kind.Mark OpenBrace)) ps
behind_open_brace ps = behind_all OpenBrace refl no_more ps

pub behind_brace : (ps : List Part) → Behind (item.Token (kind.Mark CloseBrace)) ps
behind_brace ps = behind_all CloseBrace refl no_more ps

-- ---- what expressions begin with

abbrev open_symbol : Symbol → Bool
open_symbol OpenParen = true
open_symbol Bang = true
open_symbol Plus = true
open_symbol Minus = true
open_symbol PlusPlus = true
open_symbol MinusMinus = true
open_symbol _ = false

abbrev pub opens : Part → Bool
opens space = false
opens (tok (word w)) = true
opens (tok (keyword k)) = true
opens (tok (integer n)) = true
opens (tok (text s)) = true
opens (tok (symbol s)) = open_symbol s

pub space_opener : (p : Part) → opens p ≡ true → beside item.Blank (part_kind p) ≡ true
space_opener space h = absurd (false≢true h)
space_opener (tok t) h = refl

bang_symbol : (s : Symbol) → open_symbol s ≡ true → symbol_beside Bang s ≡ true
bang_symbol OpenParen h = refl
bang_symbol Bang h = refl
bang_symbol Plus h = refl
bang_symbol Minus h = refl
bang_symbol PlusPlus h = refl
bang_symbol MinusMinus h = refl
bang_symbol _ h = absurd (false≢true h)

pub bang_opener : (p : Part) → opens p ≡ true → beside (item.Token (kind.Mark Bang)) (part_kind p) ≡ true
bang_opener space h = absurd (false≢true h)
bang_opener (tok (word w)) h = refl
bang_opener (tok (keyword k)) h = refl
bang_opener (tok (integer n)) h = refl
bang_opener (tok (text s)) h = refl
bang_opener (tok (symbol s)) h = bang_symbol s h

-- a sign before what begins with no such sign
plus_symbol : (s : Symbol) (more : List ℕ) → open_symbol s ≡ true → first_passes (λ c. c == 43) (symbol_text s ++ more) ≡ false → symbol_beside Plus s ≡ true
plus_symbol OpenParen more h other = refl
plus_symbol Bang more h other = refl
plus_symbol Plus more h other = absurd (true≢false other)
plus_symbol Minus more h other = refl
plus_symbol PlusPlus more h other = absurd (true≢false other)
plus_symbol MinusMinus more h other = refl
plus_symbol _ more h other = absurd (false≢true h)

pub plus_opener : (p : Part) (more : List ℕ) → opens p ≡ true → first_passes (λ c. c == 43) (part_text p ++ more) ≡ false → beside (item.Token (kind.Mark Plus)) (part_kind p) ≡ true
plus_opener space more h other = absurd (false≢true h)
plus_opener (tok (word w)) more h other = refl
plus_opener (tok (keyword k)) more h other = refl
plus_opener (tok (integer n)) more h other = refl
plus_opener (tok (text s)) more h other = refl
plus_opener (tok (symbol s)) more h other = plus_symbol s more h other

minus_symbol : (s : Symbol) (more : List ℕ) → open_symbol s ≡ true → first_passes (λ c. c == 45) (symbol_text s ++ more) ≡ false → symbol_beside Minus s ≡ true
minus_symbol OpenParen more h other = refl
minus_symbol Bang more h other = refl
minus_symbol Plus more h other = refl
minus_symbol Minus more h other = absurd (true≢false other)
minus_symbol PlusPlus more h other = refl
minus_symbol MinusMinus more h other = absurd (true≢false other)
minus_symbol _ more h other = absurd (false≢true h)

pub minus_opener : (p : Part) (more : List ℕ) → opens p ≡ true → first_passes (λ c. c == 45) (part_text p ++ more) ≡ false → beside (item.Token (kind.Mark Minus)) (part_kind p) ≡ true
minus_opener space more h other = absurd (false≢true h)
minus_opener (tok (word w)) more h other = refl
minus_opener (tok (keyword k)) more h other = refl
minus_opener (tok (integer n)) more h other = refl
minus_opener (tok (text s)) more h other = refl
minus_opener (tok (symbol s)) more h other = minus_symbol s more h other
