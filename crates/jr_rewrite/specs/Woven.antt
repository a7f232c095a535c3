-- What becomes of a text from a place on, where changes are put into it: it is cut into lexemes
-- again, and what stands in front of the place stays what it was.
use Rattle.std.specs.Prelude.{
  ◌≡◌,
  ◌⊎◌,
  ℕ,
  ◌+◌,
  ◌≤◌,
  Bool,
  false,
  ◌==◌,
  ◌||◌,
  List,
  [],
  ◌∷◌,
  ◌++◌,
  length,
  take,
  drop,
  slice_range,
}
use Rattle.std.specs.Str.{IsUtf8, IsCharBoundary, chars}
use Rattle.jr_text.specs.declared.spans.Span.{Span}
use Rattle.jr_lex.specs.declared.items.Item.{Item}
use Rattle.jr_lex.specs.declared.items.ItemKind.{ItemKind}
use Rattle.jr_lex.specs.declared.items.ItemKind.TheVariants.{Token as TokenItem, Blank, Comment}
use Rattle.jr_lex.specs.declared.items.TokenKind.{TokenKind}
use Rattle.jr_lex.specs.Lexes.{span_of}
use Rattle.jr_lex.specs.Beside.{Piece, join_pieces}
use Rattle.jr_lex.specs.Near.{IsCut, EndsLine, NoNewDot}
use Rattle.jr_grammar.specs.Tokens.{Token, placed_of}
use Rattle.jr_grammar.specs.Stands.{Tokens}
use Rattle.jr_splice.specs.Cutting.{tokens_in}
use Rattle.jr_splice.proofs.Cut.{AreCut}
use Rattle.jr_rewrite.specs.Respellings.{Change}

-- ---- what stands in front of a place

-- Tokens of which kinds may stand, in the new text, directly in front of what was at a place of the
-- old one. It is for whoever has spots to say; the tokens of the old text are among them.
abbrev pub Fronts : Type 1
Fronts = ℕ → TokenKind → Type 0

abbrev pub MayFront : Fronts → ℕ → ItemKind → Type 0
MayFront F at (TokenItem k) = F at k
MayFront F at Blank = Unit {0}
MayFront F at Comment = Unit {0}

-- What may stand in front of `old` is cut in front of `new`, or is a blank, which becomes one with
-- what comes. No dot comes that wasn't there.
pub record YieldsAt (F : Fronts) (at : ℕ) (old new : List ℕ) : Type 0 where
  pub cut : (k : ItemKind) (front : List ℕ) → MayFront F at k → EndsLine k old new
      → IsCut k front old → (k ≡ Blank) ⊎ IsCut k front new
  pub no_dot : NoNewDot old new

-- ---- a text that is cut

-- the item has these bytes, from the place on, in front of others
pub record IsTile (F : Fronts) (at : ℕ) (item : Item) (front rest : List ℕ) : Type 0 where
  pub place : item.span ≡ span_of at (at + length front)
  pub is_text : IsUtf8 front
  pub cut : IsCut item.kind (chars front) (chars rest)
  pub fronts : MayFront F (at + length front) item.kind

-- the items stand one behind the other from the place on, and take the bytes
abbrev pub Tiled : Fronts → ℕ → List ℕ → List Item → Type 0
Tiled F at bytes [] = bytes ≡ []
Tiled F at bytes (item ∷ items) = (front rest : List ℕ) × (bytes ≡ front ++ rest)
    × IsTile F at item front rest × Tiled F (at + length front) rest items

-- the tokens of a text may stand where they end
abbrev pub Fronted : Fronts → List Item → Type 0
Fronted F [] = Unit {0}
Fronted F (item ∷ items) = MayFront F item.span.to item.kind × Fronted F items

-- ---- a text that changes

-- the bytes from a place on, with changes
abbrev pub join_changes : ℕ → List ℕ → List Change → List ℕ
join_changes at bytes [] = drop at bytes
join_changes at bytes (c ∷ cs) =
    slice_range bytes at c.span.from ++ c.text ++ join_changes c.span.to bytes cs

-- a piece of the text with its own changes, as it is put elsewhere
abbrev pub with_changes : List ℕ → Span → List Change → List ℕ
with_changes bytes piece cs = join_changes piece.from (take piece.to bytes) cs

-- changes one behind the other, at which the bytes can be cut
abbrev pub Fit : ℕ → List ℕ → List Change → Type 0
Fit at bytes [] = at ≤ length bytes
Fit at bytes (c ∷ cs) =
    (at ≤ c.span.from) × (c.span.from ≤ c.span.to) × IsCharBoundary bytes c.span.from
    × IsCharBoundary bytes c.span.to × Fit c.span.to bytes cs

-- behind pre, the bytes post become lexemes of these tokens by these changes
pub record Woven (F : Fronts) (bytes pre post : List ℕ) (cs : List Change) (ts : List Token)
    : Type 0 where
  pub pieces : List Piece
  pub fit : Fit (length pre) bytes cs
  pub text_is : join_changes (length pre) bytes cs ≡ join_pieces pieces
  pub cut : AreCut pieces
  pub yields : YieldsAt F (length pre) (chars post) (chars (join_pieces pieces))
  pub tokens_are : tokens_in pieces ≡ ts

-- ---- what is known of what stands directly in front of a place

-- the last, if there is one, passes the test
abbrev pub ends_in : (ℕ → Bool) → List ℕ → Bool
ends_in p [] = false
ends_in p (b ∷ []) = p b
ends_in p (b ∷ c ∷ bs) = ends_in p (c ∷ bs)

-- a space or a tab, of which indents are made
abbrev pub is_indent : ℕ → Bool
is_indent b = (b == 32) || (b == 9)

-- behind no space and no tab, unless nothing comes
abbrev pub BehindNoIndent : (pre post : List ℕ) → Type 0
BehindNoIndent pre post = (post ≡ []) ⊎ (ends_in is_indent pre ≡ false)

-- Anything stands there; or no space and no tab, so that an indent that comes is all there; or a
-- token, which ends at this place.
pub data Behind : Type 0 where
  anything : Behind
  no_indent : Behind
  token_to : (to : ℕ) → Behind

abbrev pub StandsBehind : Behind → (pre post : List ℕ) → Type 0
StandsBehind anything pre post = Unit {0}
StandsBehind no_indent pre post = BehindNoIndent pre post
StandsBehind (token_to n) pre post = (n ≡ length pre) × BehindNoIndent pre post

-- From each place on at which these tokens are left, and that stands so, the text becomes these
-- tokens by these changes.
abbrev pub WovenFrom : Fronts → (bytes : List ℕ) → Tokens → Behind → List Change → List Token
    → Type 0
WovenFrom F bytes more from cs ts = (items : List Item) (pre post : List ℕ) → bytes ≡ pre ++ post
    → Tiled F (length pre) post items → placed_of bytes items ≡ more → StandsBehind from pre post
    → Woven F bytes pre post cs ts

-- ---- a run of tokens that changes

-- what is said of a run of tokens, its changes, the tokens that come, and of how the places stand
-- where it begins and where it ends
abbrev pub Weaving : Type 1
Weaving = (from : Behind) → Tokens → List Change → List Token → (to : Behind) → Type 0

-- Whatever is woven behind the run, with the run in front of it is woven, too.
abbrev pub Weaves : Fronts → (bytes : List ℕ) → Weaving
Weaves F bytes from run cs ts to = (more : Tokens) (ds : List Change) (us : List Token)
    → WovenFrom F bytes more to ds us
    → WovenFrom F bytes (run ++ more) from (cs ++ ds) (ts ++ us)
