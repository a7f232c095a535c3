-- A text that is made of parts: runs of lexemes of an old text, and new ones, in any order.
use Rattle.std.proofs.Common.{ℕ, List, [], ◌∷◌, ◌++◌, refl, sym, ap, ◌∙◌, subst}
use Rattle.jr_lex.specs.Beside.{Piece, join_pieces, items_from}
use Rattle.jr_lex.specs.Lexes.{Lexes}
use Rattle.jr_grammar.specs.Tokens.{Token, tokens_of}
use Rattle.jr_splice.specs.Cutting.{tokens_in}
use Rattle.jr_splice.specs.Parts.{Part, text_before, tokens_before, AreParts, Seams, PartsSpell}
use Rattle.jr_splice.proofs.Cut.{AreCut, pieces_lex, pieces_spell}
use Rattle.jr_splice.proofs.Gluing.{Glued, nothing_glued, glue}

abbrev pub part : List Piece → List ℕ → Part
part ps old = record { pieces = ps; old = old }

-- The text is cut into the tokens of its parts, one behind the other.
pub parts_glued : (ps : List Part) (text : List ℕ) (ts : List Token) → Glued text ts → AreParts ps → Seams ps text → Glued (text_before ps text) (tokens_before ps ts)
parts_glued [] text ts g a s = g
parts_glued (p ∷ ps) text ts g a s = glue p.pieces p.old (text_before ps text) (tokens_before ps ts) a.0 (parts_glued ps text ts g a.1 s.1) s.0

-- what is cut by itself
pub cut_glued : (ps : List Piece) → AreCut ps → Glued (join_pieces ps) (tokens_in ps)
cut_glued ps h = record { pieces = ps; cut = h; text_is = refl; tokens_are = refl }

pub cut_tail : (ps qs : List Piece) → AreCut (ps ++ qs) → AreCut qs
cut_tail [] qs h = h
cut_tail (p ∷ ps) qs h = cut_tail ps qs h.2

pub parts_spell : PartsSpell
parts_spell ps a s =
    let g = parts_glued ps [] [] nothing_glued a s in
    record {
      items = items_from 0 g.pieces;
      lexes = subst (λ t. Lexes t (items_from 0 g.pieces)) g.text_is (pieces_lex g.pieces g.cut);
      spells = ap (λ t. tokens_of t (items_from 0 g.pieces)) (sym g.text_is) ∙ pieces_spell g.pieces ∙ g.tokens_are;
    }
