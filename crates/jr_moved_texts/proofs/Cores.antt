-- Texts that are cut into tokens in front of any other: an identifier, a run that moves, and one in
-- parentheses.
use Rattle.std.proofs.Common.{◌≡◌, ◌≢◌, inl, inr, ℕ, ◌==◌, true, false, Bool, List, [], ◌∷◌, ◌++◌, length, Option, Some, None, refl, sym, ap, ◌∙◌, subst, arith}
use Rattle.std.specs.Prelude.{codes}
use Rattle.std.specs.Str.{IsUtf8, chars}
use Rattle.std.proofs.lemmas.Bool.{both_ways, or_parts, eqb-true, not-true}
use Rattle.std.proofs.lemmas.List.{append_assoc}
use Rattle.std.proofs.lemmas.Str.{chars-append}
use Rattle.jr_text.specs.declared.spans.Span.{Span}
use Rattle.jr_lex.specs.declared.items.ItemKind.{ItemKind}
use Rattle.jr_lex.specs.declared.items.ItemKind.TheVariants.{Token as TokenItem, Blank, Comment}
use Rattle.jr_lex.specs.declared.items.TokenKind.{TokenKind}
use Rattle.jr_lex.specs.declared.items.TokenKind.TheVariants.{Word, Keyword, Int, Text, Mark}
use Rattle.jr_lex.specs.declared.items.Symbol.{Symbol}
use Rattle.jr_lex.specs.declared.items.Symbol.TheVariants.{Dot, Slash, OpenParen, CloseParen}
use Rattle.jr_lex.specs.Characters.{is_digit, first_passes}
use Rattle.jr_lex.specs.Symbols.{symbol_text}
use Rattle.jr_lex.specs.Lexemes.{IsLexeme}
use Rattle.jr_lex.specs.Lexes.{span_of as between}
use Rattle.jr_lex.specs.Replacing.{IsName}
use Rattle.jr_lex.specs.Beside.{Piece, join_pieces, goes_on, EndsBefore, token_beside, begins_with_dot}
use Rattle.jr_lex.specs.Near.{IsCut}
use Rattle.jr_lex.proofs.ScanMeaning.{no_empty}
use Rattle.jr_lex.proofs.BesideLaws.{lets_end}
use Rattle.jr_lex.proofs.OneLexeme.{lexeme_cut, comment_begins}
use Rattle.jr_lex.proofs.Seams.{paren_ends}
use Rattle.jr_grammar.specs.Tokens.{Token, word, symbol, Placed}
use Rattle.jr_grammar.specs.Stands.{Tokens, span_of}
use Rattle.jr_splice.specs.Cutting.{own_token, with_token, tokens_in}
use Rattle.jr_splice.proofs.Cut.{AreCut, slice_whole}
use Rattle.jr_splice.proofs.Gluing.{Glued}
use Rattle.jr_rewrite.specs.Respellings.{Change}
use Rattle.jr_rewrite.specs.Woven.{with_changes}
use Rattle.jr_rewrite.proofs.Parts as part
use Rattle.jr_rewrite.proofs.Steps.{Stepped}
use Rattle.jr_rewrite.proofs.Weaving.{kept_glued}
use Rattle.jr_moved_texts.specs.Spaces.{kind_of, first_kind}
use Rattle.jr_moved_texts.specs.Moved.{nowhere_weaves, EndsWith, EndsThere, RunStands, Moves}
use Rattle.jr_moved_texts.proofs.MovedRuns.{runs_move, kind_there}
use Rattle.jr_moved_texts.proofs.Spaced.{Core}
use Rattle.jr_moved_texts.proofs.StepEnds.{stepped_last}
use Rattle.jr_moved_texts.proofs.ExpressionEnds.{begins_no_dot, Head, last_some}

-- ---- no dot

no_dot_there : (text : List ℕ) → EndsBefore (TokenItem (Mark Dot)) text → first_passes (λ c. c == 46) text ≡ false
no_dot_there [] h = refl
no_dot_there (c ∷ cs) h = (or_parts (is_digit c) (c == 46) h).1

digit_no_dot : (d : ℕ) → is_digit d ≡ true → (d == 46) ≡ false
digit_no_dot d h = by (d == 46) refl
  where
    by : (b : Bool) → (d == 46) ≡ b → b ≡ false
    by true dot = absurd (both_ways (is_digit 46) refl (sym (ap is_digit (eqb-true d 46 dot)) ∙ h))
    by false other = refl

-- a lexeme of a token that begins with no dot
pub lexeme_no_dot : (k : TokenKind) (f rest : List ℕ) → begins_no_dot k ≡ true → IsLexeme (TokenItem k) f → first_passes (λ c. c == 46) (f ++ rest) ≡ false
lexeme_no_dot Word f rest h l = no_dot_there (f ++ rest) (lets_end (TokenItem (Mark Dot)) (TokenItem Word) f rest refl l)
lexeme_no_dot (Keyword k) f rest h l = no_dot_there (f ++ rest) (lets_end (TokenItem (Mark Dot)) (TokenItem (Keyword k)) f rest refl l)
lexeme_no_dot Text f rest h l = no_dot_there (f ++ rest) (lets_end (TokenItem (Mark Dot)) (TokenItem Text) f rest refl l)
lexeme_no_dot (Int n) [] rest h l = absurd l
lexeme_no_dot (Int n) (d ∷ ds) rest h l = digit_no_dot d l.0
lexeme_no_dot (Mark s) [] rest h l = absurd (no_empty (TokenItem (Mark s)) l)
lexeme_no_dot (Mark s) (c ∷ cs) rest h l = ap (first_passes (λ x. x == 46)) l ∙ not-true (begins_with_dot s) h

-- ---- how a text that is cut begins

first_of : (q : Piece) (qs : List Piece) (k : TokenKind) → q.kind ≡ TokenItem k → first_kind (tokens_in (q ∷ qs)) ≡ Some k
first_of q qs k e = ap (λ x. first_kind (with_token (own_token x q.text) (tokens_in qs))) e ∙ ap (λ (u : TokenKind). Some u) (kind_there q.text (between 0 (length q.text)) k)

first_append : (ts us : List Token) (k : TokenKind) → first_kind ts ≡ Some k → first_kind (ts ++ us) ≡ Some k
first_append [] us k e = absurd (let none : Option TokenKind = None in let no : none ≡ Some k = e in cc)
first_append (t ∷ ts) us k e = e

same_kind : (k u : TokenKind) → (let a : Option TokenKind = Some k in a ≡ Some u) → k ≡ u
same_kind k u e = cc

-- Where a text is cut into tokens and begins with no comment, it begins as its first token says.
module _ (text : List ℕ) (ts : List Token) (g : Glued text ts) (head : TokenKind) (head_is : first_kind ts ≡ Some head) (no_slash : (rest : List ℕ) → chars text ≡ 47 ∷ rest → ⊥) where
  pieces_text : (q : Piece) (qs : List Piece) → g.pieces ≡ q ∷ qs → IsUtf8 q.text → chars text ≡ chars q.text ++ chars (join_pieces qs)
  pieces_text q qs e u = ap chars (sym g.text_is ∙ ap join_pieces e) ∙ chars-append q.text (join_pieces qs) u

  by_pieces : {T : Type 0} → ((f rest : List ℕ) → chars text ≡ f ++ rest → IsLexeme (TokenItem head) f → T) → ((f rest : List ℕ) → chars text ≡ f ++ rest → IsLexeme Blank f → T) → T
  by_pieces {T} a_token a_blank = of g.pieces refl g.cut g.tokens_are
    where
      of : (ps : List Piece) → g.pieces ≡ ps → AreCut ps → tokens_in ps ≡ ts → T
      of [] e cut are = absurd (let none : Option TokenKind = None in let no : none ≡ Some head = ap first_kind are ∙ head_is in cc)
      of (q ∷ qs) e cut are = by_kind q.kind refl
        where
          whole : chars text ≡ chars q.text ++ chars (join_pieces qs)
          whole = pieces_text q qs e cut.0

          lexeme : (k : ItemKind) → q.kind ≡ k → IsLexeme k (chars q.text)
          lexeme k same = subst (λ x. IsLexeme x (chars q.text)) same cut.1.taken.lexeme

          comment : (c : List ℕ) → chars text ≡ c ++ chars (join_pieces qs) → IsLexeme Comment c → ⊥
          comment [] is l = no_empty Comment l
          comment (c ∷ cs) is l = no_slash (cs ++ chars (join_pieces qs)) (is ∙ ap (λ x. x ∷ (cs ++ chars (join_pieces qs))) (comment_begins c cs l))

          by_kind : (k : ItemKind) → q.kind ≡ k → T
          by_kind (TokenItem k) same =
              let is : k ≡ head = same_kind k head (sym (first_of q qs k same) ∙ ap first_kind are ∙ head_is) in
              a_token (chars q.text) (chars (join_pieces qs)) whole (subst (λ x. IsLexeme (TokenItem x) (chars q.text)) is (lexeme (TokenItem k) same))
          by_kind Blank same = a_blank (chars q.text) (chars (join_pieces qs)) whole (lexeme Blank same)
          by_kind Comment same = absurd (comment (chars q.text) whole (lexeme Comment same))

  pub begins_so : (k : TokenKind) → token_beside k head ≡ true → EndsBefore (TokenItem k) (chars text)
  begins_so k h = by_pieces
      (λ f rest e l. subst (EndsBefore (TokenItem k)) (sym e) (lets_end (TokenItem k) (TokenItem head) f rest h l))
      (λ f rest e l. subst (EndsBefore (TokenItem k)) (sym e) (lets_end (TokenItem k) Blank f rest refl l))

  pub no_dot_so : begins_no_dot head ≡ true → first_passes (λ c. c == 46) (chars text) ≡ false
  no_dot_so h = by_pieces
      (λ f rest e l. ap (first_passes (λ c. c == 46)) e ∙ lexeme_no_dot head f rest h l)
      (λ f rest e l. ap (first_passes (λ c. c == 46)) e ∙ no_dot_there (f ++ rest) (lets_end (TokenItem (Mark Dot)) Blank f rest refl l))

-- ---- an identifier

abbrev pub name_core : (x : List ℕ) → IsName x → Core x (word x ∷ [])
name_core x n = record {
  head = Word;
  last = Word;
  head_is = refl;
  last_is = refl;
  glued = λ new us g ends.
      (let cut = ends (chars x) n.is_identifier in
      subst (λ (t : Token). Glued (x ++ new) (t ∷ us)) (ap word (slice_whole x)) (kept_glued (TokenItem Word) x (chars new) new us n.is_text cut g (inr cut)));
  ends = λ new us g ends k h. subst (EndsBefore (TokenItem k)) (sym (chars-append x new n.is_text)) (lets_end (TokenItem k) (TokenItem Word) (chars x) (chars new) h n.is_identifier);
  no_dot = λ new us g ends. ap (first_passes (λ c. c == 46)) (chars-append x new n.is_text) ∙ lexeme_no_dot Word (chars x) (chars new) refl n.is_identifier;
}

-- ---- a run that moves

-- where a slash may stand in front of a text, no comment begins it
slash_apart : (rest : List ℕ) → IsCut (TokenItem (Mark Slash)) (47 ∷ []) (47 ∷ rest) → ⊥
slash_apart rest cut = omega (arith, cut.taken.longest Comment (47 ∷ 47 ∷ []) rest refl (inl (record { body = []; opens = refl; one_line = refl })))

module _ (bytes : List ℕ) (p : Placed Span) (run : Tokens) (cs : List Change) (ts : List Token) (k : TokenKind) (stands : RunStands bytes p run) (ends : EndsWith k (p ∷ run)) (no_dot : k ≢ Mark Dot)
    (s : Stepped nowhere_weaves false (p ∷ run) cs ts) (slash : token_beside (Mark Slash) (kind_of p.token) ≡ true) (head : Head ts) where
  abbrev text : List ℕ
  text = with_changes bytes (span_of (p ∷ run)) cs

  moves : (new : List ℕ) (us : List Token) → Glued new us → EndsThere k (chars new) → Moves bytes p run cs ts new us
  moves new us g there = runs_move bytes p run cs ts k new us stands ends no_dot s g there

  no_comment : (new : List ℕ) (us : List Token) → Glued new us → EndsThere k (chars new) → (rest : List ℕ) → chars (text ++ new) ≡ 47 ∷ rest → ⊥
  no_comment new us g there rest e =
      let m = moves new us g there in
      let old = lexeme_cut (TokenItem (Mark Slash)) (47 ∷ []) m.old refl (m.begins (Mark Slash) slash) in
      elim (m.yields.cut (TokenItem (Mark Slash)) (47 ∷ []) tt (λ comment line. absurd (no_kind comment)) old) [
        | inl blank ↦ no_blank blank
        | inr cut ↦ slash_apart rest (subst (IsCut (TokenItem (Mark Slash)) (47 ∷ [])) e cut)
      ]
    where
      no_kind : TokenItem (Mark Slash) ≡ Comment → ⊥
      no_kind e = cc

      no_blank : TokenItem (Mark Slash) ≡ Blank → ⊥
      no_blank e = cc

  pub moved_core : Core text ts
  moved_core = record {
    head = head.kind;
    last = k;
    head_is = head.is;
    last_is = stepped_last k (p ∷ run) cs ts s ends;
    glued = λ new us g there. (moves new us g there).glued;
    ends = λ new us g there of h. begins_so (text ++ new) (ts ++ us) (moves new us g there).glued head.kind (first_append ts us head.kind head.is) (no_comment new us g there) of h;
    no_dot = λ new us g there. no_dot_so (text ++ new) (ts ++ us) (moves new us g there).glued head.kind (first_append ts us head.kind head.is) (no_comment new us g there) head.no_dot;
  }

-- ---- in parentheses

open_ends : (text : List ℕ) → first_passes (goes_on OpenParen) text ≡ false
open_ends [] = refl
open_ends (c ∷ cs) = refl

paren_chars : (s : Symbol) → chars (symbol_text s) ≡ symbol_text s
paren_chars s = part.part_has_chars (part.mark s)

pub symbol_glued : (s : Symbol) (new : List ℕ) (us : List Token) → EndsBefore (TokenItem (Mark s)) (chars new) → Glued new us → Glued (symbol_text s ++ new) (symbol s ∷ us)
symbol_glued s new us ends g =
    let cut : IsCut (TokenItem (Mark s)) (chars (symbol_text s)) (chars new) = subst (λ f. IsCut (TokenItem (Mark s)) f (chars new)) (sym (paren_chars s)) (lexeme_cut (TokenItem (Mark s)) (symbol_text s) (chars new) refl ends) in
    kept_glued (TokenItem (Mark s)) (symbol_text s) (chars new) new us (part.part_is_text (part.mark s) tt) cut g (inr cut)

pub behind_symbol : (s : Symbol) (new : List ℕ) → chars (symbol_text s ++ new) ≡ symbol_text s ++ chars new
behind_symbol s new = chars-append (symbol_text s) new (part.part_is_text (part.mark s) tt) ∙ ap (λ c. c ++ chars new) (paren_chars s)

pub paren_core : {text : List ℕ} {ts : List Token} → Core text ts → Core (codes "(" ++ text ++ codes ")") (symbol OpenParen ∷ (ts ++ (symbol CloseParen ∷ [])))
paren_core {text} {ts} c = record {
  head = Mark OpenParen;
  last = Mark CloseParen;
  head_is = refl;
  last_is = last_some (symbol OpenParen ∷ ts) (symbol CloseParen ∷ []) (Mark CloseParen) refl;
  glued = λ new us g there. subst (λ x. Glued x ((symbol OpenParen ∷ (ts ++ (symbol CloseParen ∷ []))) ++ us)) (sym (whole new)) (inner new us g there);
  ends = λ new us g there k h. subst (EndsBefore (TokenItem k)) (sym (begins new)) (paren_ends k 40 (chars (text ++ (codes ")" ++ new))) (inl refl));
  no_dot = λ new us g there. ap (first_passes (λ x. x == 46)) (begins new);
}
  where
    whole : (new : List ℕ) → (codes "(" ++ text ++ codes ")") ++ new ≡ codes "(" ++ (text ++ (codes ")" ++ new))
    whole new = simp append_assoc

    begins : (new : List ℕ) → chars ((codes "(" ++ text ++ codes ")") ++ new) ≡ 40 ∷ chars (text ++ (codes ")" ++ new))
    begins new = ap chars (whole new) ∙ behind_symbol OpenParen (text ++ (codes ")" ++ new))

    closed : (new : List ℕ) (us : List Token) → Glued new us → EndsThere (Mark CloseParen) (chars new) → Glued (codes ")" ++ new) (symbol CloseParen ∷ us)
    closed new us g there =
        let cut : IsCut (TokenItem (Mark CloseParen)) (chars (codes ")")) (chars new) = there (chars (codes ")")) (paren_chars CloseParen) in
        kept_glued (TokenItem (Mark CloseParen)) (codes ")") (chars new) new us (part.part_is_text (part.mark CloseParen) tt) cut g (inr cut)

    inner : (new : List ℕ) (us : List Token) → Glued new us → EndsThere (Mark CloseParen) (chars new) → Glued (codes "(" ++ (text ++ (codes ")" ++ new))) ((symbol OpenParen ∷ (ts ++ (symbol CloseParen ∷ []))) ++ us)
    inner new us g there =
        let tail = closed new us g there in
        let stops : EndsThere c.last (chars (codes ")" ++ new)) =
        λ f lexeme. lexeme_cut (TokenItem c.last) f (chars (codes ")" ++ new)) lexeme (subst (EndsBefore (TokenItem c.last)) (sym (behind_symbol CloseParen new)) (paren_ends c.last 41 (chars new) (inr refl))) in
        let both = c.glued (codes ")" ++ new) (symbol CloseParen ∷ us) tail stops in
        subst (Glued (codes "(" ++ (text ++ (codes ")" ++ new)))) (ap (λ x. symbol OpenParen ∷ x) (sym (append_assoc ts (symbol CloseParen ∷ []) us)))
        (symbol_glued OpenParen (text ++ (codes ")" ++ new)) (ts ++ (symbol CloseParen ∷ us)) (open_ends (chars (text ++ (codes ")" ++ new)))) both)
