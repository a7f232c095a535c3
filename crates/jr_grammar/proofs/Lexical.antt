-- The tokens of a text are lexical.
use Rattle.std.proofs.Common.{◌≡◌, ℕ, zero, suc, ◌+◌, ◌-◌, ◌≤◌, Bool, true, false, ◌&&◌, List, [], ◌∷◌, ◌++◌, length, take, drop, refl, sym, ap, subst, ◌∙◌, append_assoc, arith}
use Rattle.std.specs.Prelude.{slice_range}
use Rattle.std.specs.Str.{IsUtf8, chars}
use Rattle.std.proofs.lemmas.Str.{IsUtf8-between, encode_ascii, encodes-chars, encodes-append, chars-encodes, scalars-chars}
use Rattle.std.proofs.lemmas.List.{length-append, length-take-le, take-take, drop-drop, length-drop}
use Rattle.std.proofs.Math.Seq.{take-append_seam}
use Rattle.std.proofs.Math.Utf8.{encodes, scalars, scalar}
use Rattle.jr_text.specs.declared.spans.Span.{Span}
use Rattle.jr_text.specs.Spans.{CanCut}
use Rattle.jr_lex.specs.declared.items.Item.{Item}
use Rattle.jr_lex.specs.declared.items.ItemKind.{ItemKind}
use Rattle.jr_lex.specs.declared.items.ItemKind.TheVariants.{Token as TokenItem, Blank, Comment}
use Rattle.jr_lex.specs.declared.items.TokenKind.TheVariants.{Word, Keyword, Int, Text, Mark}
use Rattle.jr_lex.specs.Lexemes.{IsLexeme}
use Rattle.jr_lex.specs.Lexes.{Lexes}
use Rattle.jr_lex.specs.Numbers.{IsNumber}
use Rattle.jr_lex.specs.Places.{ItemsPlaced}
use Rattle.jr_lex.specs.Strings.{IsString, is_content, is_escape}
use Rattle.jr_grammar.specs.Tokens.{Token, tokens_of}
use Rattle.jr_grammar.specs.Lexical.{IsWritten, AreLexical}

-- ---- the bytes of a string between its quotation marks

second : (a b : Bool) → a && b ≡ true → b ≡ true
second true b h = h
second false b h = absurd cc

first : (a b : Bool) → a && b ≡ true → a ≡ true
first true b h = refl
first false b h = absurd cc

both_true : (a b : Bool) → a ≡ true → b ≡ true → a && b ≡ true
both_true true b h k = k
both_true false b h k = absurd cc

scalars_front : (cs ds : List ℕ) → scalars (cs ++ ds) ≡ true → scalars cs ≡ true
scalars_front [] ds h = refl
scalars_front (c ∷ cs) ds h = both_true (scalar c) (scalars cs) (first (scalar c) (scalars (cs ++ ds)) h) (scalars_front cs ds (second (scalar c) (scalars (cs ++ ds)) h))

inner_of : (bytes inner : List ℕ) (n : ℕ) → n ≤ length bytes → take n bytes ≡ 34 ∷ (inner ++ 34 ∷ []) → take (n - 2) (drop 1 bytes) ≡ inner
inner_of [] inner zero l h = absurd cc
inner_of [] inner (suc n) l h = absurd cc
inner_of (b ∷ bytes) inner zero l h = absurd cc
inner_of (b ∷ bytes) inner (suc n) l h =
    let e : take n bytes ≡ inner ++ 34 ∷ [] = cc in
    let m : n ≡ length inner + 1 = omega (arith, length-take-le n bytes (omega arith), ap length e, length-append inner (34 ∷ [])) in
    let k : suc n - 2 ≡ length inner = omega arith in
    ap (λ (i : ℕ). take i bytes) k ∙ sym (take-take (length inner) n bytes (omega arith)) ∙ ap (take (length inner)) e ∙ take-append_seam inner (34 ∷ [])

written : (bytes : List ℕ) (at : Span) → IsUtf8 bytes → CanCut bytes at → IsString (chars (slice_range bytes at.from at.to)) → IsWritten (slice_range bytes (at.from + 1) (at.to - 1))
written bytes at u c s =
    let whole = slice_range bytes at.from at.to in
    let w : IsUtf8 whole = IsUtf8-between bytes at.from at.to u c.ordered c.start c.stop in
    let all : scalars (34 ∷ (s.content ++ 34 ∷ [])) ≡ true = ap scalars (sym s.quotes) ∙ scalars-chars whole w in
    let within : scalars s.content ≡ true = scalars_front s.content (34 ∷ []) (second (scalar 34) (scalars (s.content ++ 34 ∷ [])) all) in
    let spelled : whole ≡ 34 ∷ (encodes s.content ++ 34 ∷ []) =
    sym (encodes-chars whole w)
    ∙ ap encodes s.quotes
    ∙ ap (λ (x : List ℕ). x ++ encodes (s.content ++ 34 ∷ [])) (encode_ascii 34 (omega arith))
    ∙ ap (λ (x : List ℕ). 34 ∷ x) (encodes-append s.content (34 ∷ []) ∙ ap (λ (x : List ℕ). encodes s.content ++ (x ++ [])) (encode_ascii 34 (omega arith))) in
    let inner : slice_range bytes (at.from + 1) (at.to - 1) ≡ encodes s.content =
    (let n : at.to - 1 - (at.from + 1) ≡ at.to - at.from - 2 = omega arith in
    ap (λ (k : ℕ). take k (drop (at.from + 1) bytes)) n
    ∙ ap (take (at.to - at.from - 2)) (sym (drop-drop 1 at.from bytes))
    ∙ inner_of (drop at.from bytes) (encodes s.content) (at.to - at.from) (omega (arith, c.ordered, c.within, length-drop at.from bytes)) spelled) in
    record {
      is_text = subst IsUtf8 (sym inner) (s.content, (within, refl));
      escapes = ap (λ (x : List ℕ). is_content is_escape (chars x)) inner ∙ ap (is_content is_escape) (chars-encodes s.content within) ∙ s.escapes;
    }

-- ---- each token

greatest : (text : List ℕ) (n : ℕ) → IsNumber text n → n ≤ 2147483648
greatest [] n h = absurd h
greatest (d ∷ ds) n h = h.4

item_lexical : (bytes : List ℕ) (kind : ItemKind) (at : Span) (rest : List Token) → IsUtf8 bytes → CanCut bytes at → IsLexeme kind (chars (slice_range bytes at.from at.to)) → AreLexical rest
    → (ps : List Item) → tokens_of bytes ps ≡ rest → AreLexical (tokens_of bytes ((record { kind = kind; span = at }) ∷ ps))
item_lexical bytes (TokenItem Word) at rest u c h k ps e =
    (record { is_text = IsUtf8-between bytes at.from at.to u c.ordered c.start c.stop; is_identifier = h }, subst AreLexical (sym e) k)
item_lexical bytes (TokenItem (Keyword w)) at rest u c h k ps e = (tt, subst AreLexical (sym e) k)
item_lexical bytes (TokenItem (Int n)) at rest u c h k ps e = (greatest _ n h, subst AreLexical (sym e) k)
item_lexical bytes (TokenItem Text) at rest u c h k ps e = (written bytes at u c h, subst AreLexical (sym e) k)
item_lexical bytes (TokenItem (Mark s)) at rest u c h k ps e = (tt, subst AreLexical (sym e) k)
item_lexical bytes Blank at rest u c h k ps e = subst AreLexical (sym e) k
item_lexical bytes Comment at rest u c h k ps e = subst AreLexical (sym e) k

module _ (placed : ItemsPlaced) (bytes : List ℕ) (u : IsUtf8 bytes) where
  behind : (front back : List Item) → Lexes bytes (front ++ back) → AreLexical (tokens_of bytes back)
  behind front [] h = tt
  behind front (i ∷ is) h =
      let p = (placed bytes front i is h).0 in
      item_lexical bytes i.kind i.span (tokens_of bytes is) u p.cut p.lexeme (behind (front ++ i ∷ []) is (subst (Lexes bytes) (sym (append_assoc front (i ∷ []) is)) h)) is refl

  pub tokens_lexical : (items : List Item) → Lexes bytes items → AreLexical (tokens_of bytes items)
  tokens_lexical items h = behind [] items h
