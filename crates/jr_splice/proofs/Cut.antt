-- Lexemes one behind the other, and the items and tokens of the text that they make.
use Rattle.std.proofs.Common.{◌≡◌, ℕ, ◌+◌, ◌-◌, ◌≤◌, List, [], ◌∷◌, ◌++◌, length, take, drop, Some, refl, sym, ap, ◌∙◌, subst, arith}
use Rattle.std.specs.Prelude.{slice_range}
use Rattle.std.specs.Str.{IsUtf8, chars}
use Rattle.std.proofs.lemmas.List.{append_assoc, append-nil, length-append, take_at, drop_at, take-append-le}
use Rattle.std.proofs.lemmas.Str.{chars-append, IsUtf8-append, IsUtf8-nil, chars-nil}
use Rattle.jr_lex.specs.declared.items.Item.{Item}
use Rattle.jr_lex.specs.declared.items.ItemKind.{ItemKind}
use Rattle.jr_lex.specs.declared.items.ItemKind.TheVariants.{Token as TokenItem, Blank, Comment}
use Rattle.jr_lex.specs.declared.items.TokenKind.{TokenKind}
use Rattle.jr_lex.specs.declared.items.TokenKind.TheVariants.{Word, Keyword, Int, Text, Mark}
use Rattle.jr_lex.specs.Characters.{byte_len}
use Rattle.jr_lex.specs.Lexes.{IsItemAt, Cuts, IsEnd, Lexes, span_of}
use Rattle.jr_lex.specs.Replacing.{item_of}
use Rattle.jr_lex.specs.Beside.{Piece, join_pieces, items_from}
use Rattle.jr_lex.specs.Near.{IsCut}
use Rattle.jr_lex.proofs.ScanLaws.{byte_len-chars}
use Rattle.jr_lex.proofs.OneLexeme.{cut_item}
use Rattle.jr_grammar.specs.Tokens.{Token, word, text as string_token, token_of_kind, token_of, placed_of, tokens_of, kinds}
use Rattle.jr_splice.specs.Cutting.{with_token, own_token, tokens_in}

-- each is cut in front of those behind it
abbrev pub AreCut : List Piece → Type 0
AreCut [] = Unit {0}
AreCut (p ∷ ps) = IsUtf8 p.text × IsCut p.kind (chars p.text) (chars (join_pieces ps)) × AreCut ps

pub pieces_text : (ps : List Piece) → AreCut ps → IsUtf8 (join_pieces ps)
pieces_text [] h = IsUtf8-nil
pieces_text (p ∷ ps) h = IsUtf8-append p.text (join_pieces ps) h.0 (pieces_text ps h.2)

pieces_cut : (ps : List Piece) → AreCut ps → (at : ℕ) → Cuts IsEnd at (chars (join_pieces ps)) (items_from at ps)
pieces_cut [] h at = chars-nil
pieces_cut (p ∷ ps) h at =
    let front : List ℕ = chars p.text in
    let rest : List ℕ = chars (join_pieces ps) in
    let len : byte_len front ≡ length p.text = byte_len-chars p.text h.0 in
    subst (λ t. Cuts IsEnd at t (items_from at (p ∷ ps))) (sym (chars-append p.text (join_pieces ps) h.0)) (
      front,
      rest,
      subst (λ n. IsItemAt at (front ++ rest) (item_of p.kind at (at + n)) front rest) len (cut_item p.kind front rest at h.1),
      subst (λ n. Cuts IsEnd (at + n) rest (items_from (at + length p.text) ps)) (sym len) (pieces_cut ps h.2 (at + length p.text)),
    )

pub pieces_lex : (ps : List Piece) → AreCut ps → Lexes (join_pieces ps) (items_from 0 ps)
pieces_lex ps h = record { is_text = pieces_text ps h; cut = pieces_cut ps h 0 }

-- ---- the tokens of lexemes

slice_inside : (pre w post : List ℕ) (n : ℕ) → n ≡ length pre + length w → slice_range (pre ++ (w ++ post)) (length pre) n ≡ w
slice_inside pre w post n e =
    let len : n - length pre ≡ length w = omega arith in
    ap (λ k. take k (drop (length pre) (pre ++ (w ++ post)))) len ∙ ap (take (length w)) (drop_at pre (w ++ post) (length pre) refl) ∙ take_at w post (length w) refl

pub slice_whole : (w : List ℕ) → slice_range w 0 (length w) ≡ w
slice_whole w = ap (λ t. slice_range t 0 (length w)) (sym (append-nil w)) ∙ slice_inside [] w [] (length w) (omega arith)

-- a string without its quotation marks
string_inside : (pre w post : List ℕ) → slice_range (pre ++ (w ++ post)) (length pre + 1) (length pre + length w - 1) ≡ slice_range w (0 + 1) (length w - 1)
string_inside pre [] post =
    let none : length pre + 0 - 1 - (length pre + 1) ≡ 0 = omega arith in
    ap (λ k. take k (drop (length pre + 1) (pre ++ post))) none
string_inside pre (c ∷ w) post =
    let n : ℕ = length w - 1 in
    let here : length pre + length (c ∷ w) - 1 - (length pre + 1) ≡ n = omega arith in
    let there : length (c ∷ w) - 1 - (0 + 1) ≡ n = omega arith in
    let seam : length (pre ++ c ∷ []) ≡ length pre + 1 = length-append pre (c ∷ []) in
    let behind : drop (length pre + 1) (pre ++ (c ∷ (w ++ post))) ≡ w ++ post =
    ap (drop (length pre + 1)) (sym (append_assoc pre (c ∷ []) (w ++ post))) ∙ drop_at (pre ++ c ∷ []) (w ++ post) (length pre + 1) seam in
    let short : n ≤ length w = omega arith in
    let one : drop (0 + 1) (c ∷ w) ≡ w = drop_at (c ∷ []) w (0 + 1) (omega arith) in
    ap (λ k. take k (drop (length pre + 1) (pre ++ (c ∷ (w ++ post))))) here
    ∙ ap (take n) behind
    ∙ take-append-le n w post short
    ∙ ap (take n) (sym one)
    ∙ ap (λ k. take k (drop (0 + 1) (c ∷ w))) (sym there)

token_inside : (pre w post : List ℕ) (k : TokenKind) → token_of_kind (pre ++ (w ++ post)) (span_of (length pre) (length pre + length w)) k ≡ token_of_kind w (span_of 0 (length w)) k
token_inside pre w post Word = ap word (slice_inside pre w post (length pre + length w) refl ∙ sym (slice_whole w))
token_inside pre w post (Keyword k) = refl
token_inside pre w post (Int n) = refl
token_inside pre w post Text = ap string_token (string_inside pre w post)
token_inside pre w post (Mark s) = refl

-- what a lexeme is in a text, it is alone
pub own_inside : (pre w post : List ℕ) (kind : ItemKind) → token_of (pre ++ (w ++ post)) (span_of (length pre) (length pre + length w)) kind ≡ own_token kind w
own_inside pre w post (TokenItem k) = ap (λ (t : Token). Some t) (token_inside pre w post k)
own_inside pre w post Blank = refl
own_inside pre w post Comment = refl

one_more : (bytes : List ℕ) (i : Item) (is : List Item) → kinds (placed_of bytes (i ∷ is)) ≡ with_token (token_of bytes i.span i.kind) (kinds (placed_of bytes is))
one_more bytes i is = by_kind i.kind
  where
    by_kind : (k : ItemKind) → kinds (placed_of bytes (record { kind = k; span = i.span } ∷ is)) ≡ with_token (token_of bytes i.span k) (kinds (placed_of bytes is))
    by_kind (TokenItem k) = refl
    by_kind Blank = refl
    by_kind Comment = refl

spells_from : (ps : List Piece) (pre : List ℕ) → tokens_of (pre ++ join_pieces ps) (items_from (length pre) ps) ≡ tokens_in ps
spells_from [] pre = refl
spells_from (p ∷ ps) pre =
    let w : List ℕ = p.text in
    let post : List ℕ = join_pieces ps in
    let grouped : (pre ++ w) ++ post ≡ pre ++ (w ++ post) = append_assoc pre w post in
    let again : tokens_of (pre ++ (w ++ post)) (items_from (length pre + length w) ps) ≡ tokens_in ps =
    ap (λ b. tokens_of b (items_from (length pre + length w) ps)) (sym grouped)
    ∙ ap (λ n. tokens_of ((pre ++ w) ++ post) (items_from n ps)) (sym (length-append pre w))
    ∙ spells_from ps (pre ++ w) in
    one_more (pre ++ (w ++ post)) (item_of p.kind (length pre) (length pre + length w)) (items_from (length pre + length w) ps)
    ∙ (λ i. with_token (own_inside pre w post p.kind i) (again i))

pub pieces_spell : (ps : List Piece) → tokens_of (join_pieces ps) (items_from 0 ps) ≡ tokens_in ps
pieces_spell ps = spells_from ps []
