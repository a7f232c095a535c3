-- Parts that may stand beside one another lex, and their tokens are the text's.
use Rattle.std.proofs.Common.{◌≡◌, ℕ, ◌+◌, ◌-◌, List, [], ◌∷◌, ◌++◌, length, take, drop, refl, sym, ap, ◌∙◌, subst, arith}
use Rattle.std.specs.List.{slice_range}
use Rattle.std.proofs.lemmas.List.{append_assoc, length-append}
use Rattle.std.proofs.Math.Seq.{drop-append_seam, take-append_seam}
use Rattle.jr_lex.specs.declared.items.Item.{Item}
use Rattle.jr_lex.specs.Lexes.{span_of, Lexes}
use Rattle.jr_lex.specs.Beside.{ArePieces, AreApart, join_pieces, items_from, PiecesLex}
use Rattle.jr_grammar.specs.Tokens.{Token, word, keyword, integer, text, symbol, token_of_kind, tokens_of}
use Rattle.jr_grammar.specs.Lexical.{AreLexical}
use Rattle.jr_print.proofs.TextParts.{Part, space, tok, token_text, token_kind, pieces_of, join, tokens, join-pieces}
use Rattle.jr_print.proofs.Written.{pieces_are}

-- ---- a part of a text

middle : (pre w post : List ℕ) (n : ℕ) → n ≡ length pre + length w → slice_range (pre ++ (w ++ post)) (length pre) n ≡ w
middle pre w post n e =
    let len : n - length pre ≡ length w = omega arith in
    ap (λ k. take k (drop (length pre) (pre ++ (w ++ post)))) len ∙ ap (take (length w)) (drop-append_seam pre (w ++ post)) ∙ take-append_seam w post

-- ---- tokens

-- a token is what the text has where it stands
token_there : (t : Token) (pre post : List ℕ)
    → token_of_kind (pre ++ (token_text t ++ post)) (span_of (length pre) (length pre + length (token_text t))) (token_kind t) ≡ t
token_there (word w) pre post = ap word (middle pre w post _ refl)
token_there (keyword k) pre post = refl
token_there (integer n) pre post = refl
token_there (text s) pre post =
    let inner : pre ++ (token_text (text s) ++ post) ≡ (pre ++ 34 ∷ []) ++ (s ++ (34 ∷ post)) = simp append_assoc in
    let from : length pre + 1 ≡ length (pre ++ 34 ∷ []) = sym (length-append pre (34 ∷ [])) in
    let to : length pre + length (token_text (text s)) - 1 ≡ length (pre ++ 34 ∷ []) + length s =
    omega (arith, length-append pre (34 ∷ []), length-append s (34 ∷ [])) in
    ap text
    (ap (λ b. slice_range b (length pre + 1) (length pre + length (token_text (text s)) - 1)) inner
    ∙ ap (λ k. slice_range ((pre ++ 34 ∷ []) ++ (s ++ (34 ∷ post))) k (length pre + length (token_text (text s)) - 1)) from
    ∙ middle (pre ++ 34 ∷ []) s (34 ∷ post) _ to)
token_there (symbol s) pre post = refl

-- the tokens behind a part
behind : (x : List ℕ) (ps : List Part) (pre : List ℕ)
    → tokens_of ((pre ++ x) ++ join ps) (items_from (length (pre ++ x)) (pieces_of ps)) ≡ tokens ps
    → tokens_of (pre ++ (x ++ join ps)) (items_from (length pre + length x) (pieces_of ps)) ≡ tokens ps
behind x ps pre h =
    ap (λ b. tokens_of b (items_from (length pre + length x) (pieces_of ps))) (sym (append_assoc pre x (join ps)))
    ∙ ap (λ n. tokens_of ((pre ++ x) ++ join ps) (items_from n (pieces_of ps))) (sym (length-append pre x))
    ∙ h

tokens_there : (ps : List Part) (pre : List ℕ) → tokens_of (pre ++ join ps) (items_from (length pre) (pieces_of ps)) ≡ tokens ps
tokens_there [] pre = refl
tokens_there (space ∷ ps) pre = behind (32 ∷ []) ps pre (tokens_there ps (pre ++ (32 ∷ [])))
tokens_there (tok t ∷ ps) pre = λ i. token_there t pre (join ps) i ∷ behind (token_text t) ps pre (tokens_there ps (pre ++ token_text t)) i

-- ---- the law

-- The text lexes, and its tokens are these.
pub record HasTokens (bytes : List ℕ) (ts : List Token) : Type 0 where
  pub items : List Item
  pub lexes : Lexes bytes items
  pub tokens_are : tokens_of bytes items ≡ ts

pub parts_lex : PiecesLex → (ps : List Part) (bytes : List ℕ) (ts : List Token) → AreApart (pieces_of ps) → join ps ≡ bytes → tokens ps ≡ ts → AreLexical ts → HasTokens bytes ts
parts_lex law ps bytes ts apart joined spelled lexical =
    let pieces : ArePieces (pieces_of ps) = pieces_are ps (subst AreLexical (sym spelled) lexical) in
    let text : join_pieces (pieces_of ps) ≡ bytes = join-pieces ps ∙ joined in
    record {
      items = items_from 0 (pieces_of ps);
      lexes = subst (λ b. Lexes b (items_from 0 (pieces_of ps))) text (law (pieces_of ps) pieces apart);
      tokens_are = ap (λ b. tokens_of b (items_from 0 (pieces_of ps))) (sym joined) ∙ tokens_there ps [] ∙ spelled;
    }
