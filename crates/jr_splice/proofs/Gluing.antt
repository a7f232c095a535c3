-- Parts of texts, put one behind the other, are cut into the lexemes that they were.
use Rattle.std.proofs.Common.{◌≡◌, ℕ, ◌==◌, ◌&&◌, Bool, true, false, List, [], ◌∷◌, ◌++◌, length, Option, Some, None, refl, sym, ap, ◌∙◌, subst, arith}
use Rattle.std.specs.Str.{IsUtf8, chars}
use Rattle.std.proofs.lemmas.Bool.{and_parts, or_parts, false≢true, both_ways}
use Rattle.std.proofs.lemmas.List.{append_assoc, append-nil}
use Rattle.std.proofs.lemmas.Str.{chars-append, IsUtf8-append, chars-nil}
use Rattle.jr_lex.specs.declared.items.ItemKind.{ItemKind}
use Rattle.jr_lex.specs.declared.items.ItemKind.TheVariants.{Token as TokenItem, Blank, Comment}
use Rattle.jr_lex.specs.declared.items.TokenKind.TheVariants.{Word, Keyword, Int, Text, Mark}
use Rattle.jr_lex.specs.declared.items.Symbol.{Symbol}
use Rattle.jr_lex.specs.declared.items.Symbol.TheVariants as symbol
use Rattle.jr_lex.specs.Characters.{is_blank, is_digit, is_word_start, all_pass, first_passes}
use Rattle.jr_lex.specs.Words.{IsWord as IsWordText}
use Rattle.jr_lex.specs.Symbols.{symbol_text}
use Rattle.jr_lex.specs.Lexemes.{IsLexeme}
use Rattle.jr_lex.specs.Beside.{Piece, join_pieces, goes_on, EndsBefore}
use Rattle.jr_lex.specs.Near.{IsCut, NoNewDot}
use Rattle.jr_lex.specs.Seams.{Meets}
use Rattle.jr_lex.proofs.FirstLaws.{other-start}
use Rattle.jr_lex.proofs.WordLaws.{keyword-IsWord}
use Rattle.jr_lex.proofs.ScanMeaning.{no_empty}
use Rattle.jr_lex.proofs.OneLexeme.{lexeme_cut, cut_near, comment_cut, blank_ends, token_no_blank, comment_begins, comment_no_blank}
use Rattle.jr_lex.proofs.Yields.{near_run, same_line}
use Rattle.jr_grammar.specs.Tokens.{Token}
use Rattle.jr_splice.specs.Cutting.{chars_in, AreCutBefore, with_token, own_token, tokens_in}
use Rattle.jr_splice.specs.Parts.{LastIs}
use Rattle.jr_splice.proofs.Cut.{AreCut}

-- ---- lexemes in front of anything

pub cut_chars : (ps : List Piece) → AreCut ps → chars (join_pieces ps) ≡ chars_in ps
cut_chars [] h = chars-nil
cut_chars (p ∷ ps) h = chars-append p.text (join_pieces ps) h.0 ∙ ap (λ t. chars p.text ++ t) (cut_chars ps h.2)

pub before_nothing : (ps : List Piece) → AreCut ps → AreCutBefore ps []
before_nothing [] h = tt
before_nothing (p ∷ ps) h = (h.0, subst (IsCut p.kind (chars p.text)) (cut_chars ps h.2 ∙ sym (append-nil (chars_in ps))) h.1, before_nothing ps h.2)

-- parts of what is cut
pub cut_front : (ps qs : List Piece) (rest : List ℕ) → AreCutBefore (ps ++ qs) rest → AreCutBefore ps (chars_in qs ++ rest)
cut_front [] qs rest h = tt
cut_front (p ∷ ps) qs rest h = (h.0, subst (IsCut p.kind (chars p.text)) (grouped ps) h.1, cut_front ps qs rest h.2)
  where
    grouped : (xs : List Piece) → chars_in (xs ++ qs) ++ rest ≡ chars_in xs ++ (chars_in qs ++ rest)
    grouped [] = refl
    grouped (x ∷ xs) = append_assoc (chars x.text) (chars_in (xs ++ qs)) rest ∙ ap (λ t. chars x.text ++ t) (grouped xs) ∙ sym (append_assoc (chars x.text) (chars_in xs) (chars_in qs ++ rest))

pub cut_back : (ps qs : List Piece) (rest : List ℕ) → AreCutBefore (ps ++ qs) rest → AreCutBefore qs rest
cut_back [] qs rest h = h
cut_back (p ∷ ps) qs rest h = cut_back ps qs rest h.2

-- the characters of lexemes and of what stands behind them
pub chars_before : (ps : List Piece) (old text : List ℕ) → AreCutBefore ps old → chars (join_pieces ps ++ text) ≡ chars_in ps ++ chars text
chars_before [] old text h = refl
chars_before (p ∷ ps) old text h =
    ap chars (append_assoc p.text (join_pieces ps) text) ∙ chars-append p.text (join_pieces ps ++ text) h.0 ∙ ap (λ t. chars p.text ++ t) (chars_before ps old text h.2) ∙ sym (append_assoc (chars p.text) (chars_in ps) (chars text))

-- ---- what is made

-- a text that is cut into these tokens
pub record Glued (text : List ℕ) (ts : List Token) : Type 0 where
  pub pieces : List Piece
  pub cut : AreCut pieces
  pub text_is : join_pieces pieces ≡ text
  pub tokens_are : tokens_in pieces ≡ ts

pub nothing_glued : Glued [] []
nothing_glued = record { pieces = []; cut = tt; text_is = refl; tokens_are = refl }

abbrev pub piece : ItemKind → List ℕ → Piece
piece k t = record { kind = k; text = t }

-- a lexeme in front
put_front : (p : Piece) (text : List ℕ) (ts : List Token) → IsUtf8 p.text → (g : Glued text ts) → IsCut p.kind (chars p.text) (chars text) → Glued (p.text ++ text) (with_token (own_token p.kind p.text) ts)
put_front p text ts u g c = record {
  pieces = p ∷ g.pieces;
  cut = (u, subst (λ t. IsCut p.kind (chars p.text) (chars t)) (sym g.text_is) c, g.cut);
  text_is = ap (λ t. p.text ++ t) g.text_is;
  tokens_are = ap (with_token (own_token p.kind p.text)) g.tokens_are;
}

-- a blank in front of anything
both_pass : (p : ℕ → Bool) (xs ys : List ℕ) → all_pass p xs ≡ true → all_pass p ys ≡ true → all_pass p (xs ++ ys) ≡ true
both_pass p [] ys h g = g
both_pass p (x ∷ xs) ys h g = (let a = and_parts (p x) (all_pass p xs) h in (λ i. a.0 i && both_pass p xs ys a.1 g i))

not_empty : (xs ys : List ℕ) → (xs ≡ [] → ⊥) → xs ++ ys ≡ [] → ⊥
not_empty [] ys h e = h refl
not_empty (x ∷ xs) ys h e = cc

merged : (t : List ℕ) → IsUtf8 t → IsLexeme Blank (chars t) → (ps : List Piece) → AreCut ps → Glued (t ++ join_pieces ps) (tokens_in ps)
merged t u l [] h = record {
  pieces = piece Blank t ∷ [];
  cut = (u, lexeme_cut Blank (chars t) (chars []) l (ap (first_passes is_blank) chars-nil), tt);
  text_is = refl;
  tokens_are = refl;
}
merged t u l (q ∷ qs) h = by_kind q.kind refl
  where
    whole : chars (q.text ++ join_pieces qs) ≡ chars q.text ++ chars (join_pieces qs)
    whole = chars-append q.text (join_pieces qs) h.0

    apart : first_passes is_blank (chars q.text ++ chars (join_pieces qs)) ≡ false → Glued (t ++ join_pieces (q ∷ qs)) (tokens_in (q ∷ qs))
    apart stops = record {
      pieces = piece Blank t ∷ q ∷ qs;
      cut = (u, lexeme_cut Blank (chars t) (chars (join_pieces (q ∷ qs))) l (ap (first_passes is_blank) whole ∙ stops), h);
      text_is = refl;
      tokens_are = refl;
    }

    by_kind : (k : ItemKind) → q.kind ≡ k → Glued (t ++ join_pieces (q ∷ qs)) (tokens_in (q ∷ qs))
    by_kind (TokenItem k) e = apart (token_no_blank k (chars q.text) (chars (join_pieces qs)) (subst (λ x. IsLexeme x (chars q.text)) e h.1.taken.lexeme))
    by_kind Comment e = apart (comment_no_blank (chars q.text) (chars (join_pieces qs)) (subst (λ x. IsLexeme x (chars q.text)) e h.1.taken.lexeme))
    by_kind Blank e =
        let blank : IsLexeme Blank (chars q.text) = subst (λ x. IsLexeme x (chars q.text)) e h.1.taken.lexeme in
        let stops : first_passes is_blank (chars (join_pieces qs)) ≡ false = blank_ends (chars q.text) (chars (join_pieces qs)) (subst (λ x. IsCut x (chars q.text) (chars (join_pieces qs))) e h.1) in
        let both : chars (t ++ q.text) ≡ chars t ++ chars q.text = chars-append t q.text u in
        let lexeme : IsLexeme Blank (chars t ++ chars q.text) = (not_empty (chars t) (chars q.text) l.0, both_pass is_blank (chars t) (chars q.text) l.1 blank.1) in
        record {
          pieces = piece Blank (t ++ q.text) ∷ qs;
          cut = (IsUtf8-append t q.text u h.0, lexeme_cut Blank (chars (t ++ q.text)) (chars (join_pieces qs)) (subst (IsLexeme Blank) (sym both) lexeme) stops, h.2);
          text_is = append_assoc t q.text (join_pieces qs);
          tokens_are = ap (λ x. with_token (own_token x q.text) (tokens_in qs)) (sym e);
        }

blank_front : (t text : List ℕ) (ts : List Token) → IsUtf8 t → IsLexeme Blank (chars t) → Glued text ts → Glued (t ++ text) ts
blank_front t text ts u l g =
    subst (λ x. Glued (t ++ x) ts) g.text_is (subst (λ x. Glued (t ++ join_pieces g.pieces) x) g.tokens_are (merged t u l g.pieces g.cut))

-- ---- one part in front of another

with_tokens : (o : Option Token) (ts : List Token) → with_token o [] ++ ts ≡ with_token o ts
with_tokens None ts = refl
with_tokens (Some t) ts = refl

with_more : (o : Option Token) (us ts : List Token) → with_token o us ++ ts ≡ with_token o (us ++ ts)
with_more None us ts = refl
with_more (Some t) us ts = refl

last_piece : (p : Piece) (old text : List ℕ) (ts : List Token) → IsUtf8 p.text → IsCut p.kind (chars p.text) old → (g : Glued text ts) → Meets p.kind old (chars text)
    → Glued (p.text ++ text) (with_token (own_token p.kind p.text) ts)
last_piece p old text ts u c g meets = by_kind p.kind refl
  where
    by_kind : (k : ItemKind) → p.kind ≡ k → Glued (p.text ++ text) (with_token (own_token p.kind p.text) ts)
    by_kind (TokenItem k) e =
        put_front p text ts u g (lexeme_cut p.kind (chars p.text) (chars text) c.taken.lexeme (subst (λ x. EndsBefore x (chars text)) (sym e) (subst (λ x. Meets x old (chars text)) e meets)))
    by_kind Comment e =
        put_front p text ts u g (subst (λ x. IsCut x (chars p.text) (chars text)) (sym e) (comment_cut (chars p.text) old (chars text) (subst (λ x. Meets x old (chars text)) e meets) (subst (λ x. IsCut x (chars p.text) old) e c)))
    by_kind Blank e =
        subst (λ x. Glued (p.text ++ text) (with_token (own_token x p.text) ts)) (sym e) (blank_front p.text text ts u (subst (λ x. IsLexeme x (chars p.text)) e c.taken.lexeme) g)

some_chars : (k : ItemKind) (front rest : List ℕ) → IsCut k front rest → front ≡ [] → ⊥
some_chars k front rest c e = no_empty k (subst (IsLexeme k) e c.taken.lexeme)

-- a lexeme of one dot is that symbol, and no dot meets it
dot_kind : (k : ItemKind) (old other : List ℕ) → IsLexeme k (46 ∷ []) → Meets k old other → NoNewDot old other
dot_kind Blank old other h meets = absurd (false≢true h.1)
dot_kind Comment old other h meets = absurd (no_slash 46 refl (comment_begins 46 [] h))
  where
    no_slash : (n : ℕ) → n ≡ 46 → n ≡ 47 → ⊥
    no_slash n e f = omega (arith, e, f)
dot_kind (TokenItem Word) old other h meets = absurd (both_ways (is_word_start 46) (other-start 46 refl) h.is_word.0)
dot_kind (TokenItem (Keyword k)) old other h meets = absurd (both_ways (is_word_start 46) (other-start 46 refl) (subst IsWordText (sym h) (keyword-IsWord k)).0)
dot_kind (TokenItem (Int n)) old other h meets = absurd (false≢true h.0)
dot_kind (TokenItem Text) old other h meets = absurd (quote h.content h.quotes)
  where
    quote : (content : List ℕ) → 46 ∷ [] ≡ 34 ∷ (content ++ 34 ∷ []) → ⊥
    quote content e = cc
dot_kind (TokenItem (Mark s)) old other h meets = λ dot. absurd (by_symbol s h other meets dot)
  where
    by_symbol : (s : Symbol) → 46 ∷ [] ≡ symbol_text s → (other : List ℕ) → first_passes (goes_on s) other ≡ false → first_passes (λ c. c == 46) other ≡ true → ⊥
    by_symbol symbol.Dot e [] h d = false≢true d
    by_symbol symbol.Dot e (c ∷ cs) h d = both_ways (c == 46) (or_parts (is_digit c) (c == 46) h).1 d
    by_symbol symbol.Ellipsis e other h d = omega (arith, ap length e)
    by_symbol symbol.OpenParen e other h d = false≢true (sym (ap (first_passes (λ c. c == 46)) e))
    by_symbol _ e other h d = false≢true (sym (ap (first_passes (λ c. c == 46)) e))

-- the last of some lexemes, if they are one dot
last_dot : (q : Piece) (qs : List Piece) (old other : List ℕ) → AreCutBefore (q ∷ qs) old → LastIs (λ k. Meets k old other) (q ∷ qs) → chars_in (q ∷ qs) ≡ 46 ∷ [] → NoNewDot old other
last_dot q [] old other h meets e = dot_kind q.kind old other (subst (IsLexeme q.kind) (sym (append-nil (chars q.text)) ∙ e) h.1.taken.lexeme) meets
last_dot q (x ∷ xs) old other h meets e =
    absurd (two (chars q.text) (chars x.text) (chars_in xs) (some_chars q.kind (chars q.text) (chars_in (x ∷ xs) ++ old) h.1) (some_chars x.kind (chars x.text) (chars_in xs ++ old) h.2.1) e)
  where
    two : (a b c : List ℕ) → (a ≡ [] → ⊥) → (b ≡ [] → ⊥) → a ++ (b ++ c) ≡ 46 ∷ [] → ⊥
    two [] b c some some' e = some refl
    two (n ∷ []) [] c some some' e = some' refl
    two (n ∷ []) (m ∷ b) c some some' e = cc
    two (n ∷ m ∷ a) b c some some' e = cc

-- Lexemes that were cut in front of one text are cut in front of another, if the last may meet it.
pub glue : (ps : List Piece) (old text : List ℕ) (ts : List Token) → AreCutBefore ps old → Glued text ts → LastIs (λ k. Meets k old (chars text)) ps
    → Glued (join_pieces ps ++ text) (tokens_in ps ++ ts)
glue [] old text ts h g meets = g
glue (p ∷ []) old text ts h g meets =
    subst (λ t. Glued (t ++ text) (tokens_in (p ∷ []) ++ ts)) (sym (append-nil p.text))
    (subst (Glued (p.text ++ text)) (sym (with_tokens (own_token p.kind p.text) ts)) (last_piece p old text ts h.0 h.1 g meets))
glue (p ∷ q ∷ qs) old text ts h g meets =
    let rest = glue (q ∷ qs) old text ts h.2 g meets in
    let more : List ℕ = chars_in (q ∷ qs) in
    let some : more ≡ [] → ⊥ = not_empty (chars q.text) (chars_in qs) (some_chars q.kind (chars q.text) (chars_in qs ++ old) h.2.1) in
    let there : IsCut p.kind (chars p.text) (more ++ chars text) =
    cut_near p.kind (chars p.text) (more ++ old) (more ++ chars text) (near_run more old (chars text) some (last_dot q qs old (chars text) h.2 meets)) (same_line p.kind more old (chars text) some) h.1 in
    subst (λ t. Glued t (tokens_in (p ∷ q ∷ qs) ++ ts)) (sym (append_assoc p.text (join_pieces (q ∷ qs)) text))
    (subst (Glued (p.text ++ (join_pieces (q ∷ qs) ++ text))) (sym (with_more (own_token p.kind p.text) (tokens_in (q ∷ qs)) ts))
    (put_front p (join_pieces (q ∷ qs) ++ text) (tokens_in (q ∷ qs) ++ ts) h.0 rest (subst (IsCut p.kind (chars p.text)) (sym (chars_before (q ∷ qs) old text h.2)) there)))
