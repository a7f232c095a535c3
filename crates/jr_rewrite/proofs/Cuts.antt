-- The parts of a respelling as lexemes, in front of others.
use Rattle.std.proofs.Common.{◌≡◌, List, [], ◌∷◌, ◌++◌, refl, sym, ap, ◌∙◌, subst}
use Rattle.std.specs.Str.{chars}
use Rattle.std.proofs.lemmas.List.{append_assoc}
use Rattle.std.proofs.lemmas.Str.{chars-append}
use Rattle.jr_lex.specs.Beside.{Piece, join_pieces}
use Rattle.jr_lex.specs.Near.{IsCut}
use Rattle.jr_lex.proofs.OneLexeme.{lexeme_cut}
use Rattle.jr_grammar.specs.Tokens.{Token, word}
use Rattle.jr_splice.specs.Cutting.{with_token, own_token, tokens_in}
use Rattle.jr_splice.proofs.Cut.{AreCut, slice_whole}
use Rattle.jr_rewrite.proofs.Parts.{Part, part_kind, part_text, part_chars, pieces_of, join, join_chars, tokens, part_is_text, part_has_chars, part_lexeme, Lined, space, name, key, mark}

pub own_part : (p : Part) (ps : List Piece) → with_token (own_token (part_kind p) (part_text p)) (tokens_in ps) ≡ tokens (p ∷ []) ++ tokens_in ps
own_part space ps = refl
own_part (name t) ps = ap (λ w. word w ∷ tokens_in ps) (slice_whole t)
own_part (key k) ps = refl
own_part (mark s) ps = refl

tokens_cons : (p : Part) (ps : List Part) (ts : List Token) → tokens (p ∷ []) ++ (tokens ps ++ ts) ≡ tokens (p ∷ ps) ++ ts
tokens_cons space ps ts = refl
tokens_cons (name t) ps ts = refl
tokens_cons (key k) ps ts = refl
tokens_cons (mark s) ps ts = refl

pub parts_spell : (ps : List Part) (qs : List Piece) → tokens_in (pieces_of ps ++ qs) ≡ tokens ps ++ tokens_in qs
parts_spell [] qs = refl
parts_spell (p ∷ ps) qs =
    own_part p (pieces_of ps ++ qs) ∙ ap (λ ts. tokens (p ∷ []) ++ ts) (parts_spell ps qs) ∙ tokens_cons p ps (tokens_in qs)

pub parts_join : (ps : List Part) (qs : List Piece) → join_pieces (pieces_of ps ++ qs) ≡ join ps ++ join_pieces qs
parts_join [] qs = refl
parts_join (p ∷ ps) qs = ap (λ b. part_text p ++ b) (parts_join ps qs) ∙ sym (append_assoc (part_text p) (join ps) (join_pieces qs))

pub parts_chars : (ps : List Part) (qs : List Piece) → Lined ps (chars (join_pieces qs)) → AreCut qs → chars (join_pieces (pieces_of ps ++ qs)) ≡ join_chars ps ++ chars (join_pieces qs)
parts_chars [] qs h cut = refl
parts_chars (p ∷ ps) qs h cut =
    chars-append (part_text p) (join_pieces (pieces_of ps ++ qs)) (part_is_text p h.0)
    ∙ (λ i. part_has_chars p i ++ parts_chars ps qs h.2 cut i)
    ∙ sym (append_assoc (part_chars p) (join_chars ps) (chars (join_pieces qs)))

pub parts_cut : (ps : List Part) (qs : List Piece) → Lined ps (chars (join_pieces qs)) → AreCut qs → AreCut (pieces_of ps ++ qs)
parts_cut [] qs h cut = cut
parts_cut (p ∷ ps) qs h cut = (
  part_is_text p h.0,
  subst (λ r. IsCut (part_kind p) (chars (part_text p)) r) (sym (parts_chars ps qs h.2 cut))
      (subst (λ f. IsCut (part_kind p) f (join_chars ps ++ chars (join_pieces qs))) (sym (part_has_chars p)) (lexeme_cut (part_kind p) (part_chars p) (join_chars ps ++ chars (join_pieces qs)) (part_lexeme p h.0) h.1)),
  parts_cut ps qs h.2 cut,
)
