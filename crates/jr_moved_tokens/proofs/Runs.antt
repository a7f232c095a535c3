-- What a run of steps makes of a text, in front of whatever is made of what stands behind it. Runs
-- that stand one behind the other are one, and their lexemes stay apart: so the lexemes of the new
-- text are known with their places.
use Rattle.std.proofs.Common.{◌≡◌, ℕ, suc, ◌+◌, ◌-◌, ◌≤◌, Bool, true, false, List, [], ◌∷◌, ◌++◌, length, take, drop, Option, None, Some, refl, sym, ap, ◌∙◌, subst, arith}
use Rattle.std.specs.Prelude.{slice_range}
use Rattle.std.specs.Str.{IsUtf8, chars}
use Rattle.std.proofs.lemmas.List.{append_assoc, append-nil, length-append, drop_at}
use Rattle.std.proofs.lemmas.Str.{chars-append, IsCharBoundary-at_seam}
use Rattle.jr_lex.specs.declared.items.ItemKind.{ItemKind}
use Rattle.jr_lex.specs.Lexemes.{IsLexeme}
use Rattle.jr_lex.specs.Beside.{Piece, join_pieces}
use Rattle.jr_lex.specs.Near.{IsCut, EndsLine}
use Rattle.jr_lex.proofs.ScanMeaning.{no_empty}
use Rattle.jr_lex.proofs.Yields.{Yields, yields_same, yields_behind, same_line}
use Rattle.jr_grammar.specs.Tokens.{Token}
use Rattle.jr_rewrite.specs.Respellings.{Change}
use Rattle.jr_rewrite.specs.Rewritten.{change}
use Rattle.jr_splice.specs.Cutting.{with_token, own_token, tokens_in}
use Rattle.jr_splice.proofs.Cut.{AreCut}
use Rattle.jr_rewrite.specs.Woven.{join_changes, Fit}
use Rattle.jr_rewrite.proofs.Parts.{Part, pieces_of, join, join_chars, tokens, Lined}
use Rattle.jr_rewrite.proofs.Cuts.{parts_spell, parts_join, parts_chars, parts_cut}

-- ---- what comes in place of an old text

-- where asked, a line that ended still ends
abbrev pub Line : Bool → List ℕ → List ℕ → Type 0
Line true old new = (k : ItemKind) → EndsLine k old new
Line false old new = Unit {0}

-- what was cut in front of the old text is cut in front of the new one
pub record Follows (lined : Bool) (old new : List ℕ) : Type 0 where
  pub yields : Yields old new
  pub line : Line lined old new

pub follows_same : (lined : Bool) (text : List ℕ) → Follows lined text text
follows_same true text = record { yields = yields_same text; line = λ k comment ends. ends }
follows_same false text = record { yields = yields_same text; line = tt }

-- each ends by the place
abbrev pub EndBy : List Change → ℕ → Type 0
EndBy [] at = Unit {0}
EndBy (c ∷ cs) at = (c.span.to ≤ at) × EndBy cs at

end_later : (cs : List Change) (at later : ℕ) → at ≤ later → EndBy cs at → EndBy cs later
end_later [] at later l h = tt
end_later (c ∷ cs) at later l h = (omega (arith, h.0, l), end_later cs at later l h.1)

end_both : (cs ds : List Change) (at : ℕ) → EndBy cs at → EndBy ds at → EndBy (cs ++ ds) at
end_both [] ds at h g = g
end_both (c ∷ cs) ds at h g = (h.0, end_both cs ds at h.1 g)

-- From the place behind pre to the one behind front, by these changes; `starts` is what is known of
-- how lines end at the first, `ends` what has to be known at the last.
pub record Runs (bytes : List ℕ) (starts : Bool) (pre post : List ℕ) (ends : Bool) (front rest : List ℕ) (cs : List Change) (ts : List Token) : Type 0 where
  pub pieces : List Piece
  pub tokens_are : tokens_in pieces ≡ ts
  pub beyond : length pre ≤ length front
  pub ended : EndBy cs (length front)
  pub fit : (ds : List Change) → Fit (length front) bytes ds → Fit (length pre) bytes (cs ++ ds)
  pub text_is : (ds : List Change) → Fit (length front) bytes ds → join_changes (length pre) bytes (cs ++ ds) ≡ join_pieces pieces ++ join_changes (length front) bytes ds
  pub cut : (qs : List Piece) → AreCut qs → Follows ends (chars rest) (chars (join_pieces qs)) → AreCut (pieces ++ qs)
  pub follows : (qs : List Piece) → AreCut qs → Follows ends (chars rest) (chars (join_pieces qs)) → Follows starts (chars post) (chars (join_pieces (pieces ++ qs)))

-- ---- no step

pub still : (bytes : List ℕ) (lined : Bool) (pre post : List ℕ) → Runs bytes lined pre post lined pre post [] []
still bytes lined pre post = record {
  pieces = [];
  tokens_are = refl;
  beyond = omega arith;
  ended = tt;
  fit = λ ds h. h;
  text_is = λ ds h. refl;
  cut = λ qs c f. c;
  follows = λ qs c f. f;
}

-- less is known
pub less : {bytes pre post front rest : List ℕ} {ends : Bool} {cs : List Change} {ts : List Token} (starts : Bool) → Runs bytes starts pre post ends front rest cs ts → Runs bytes false pre post ends front rest cs ts
less starts r = record {
  pieces = r.pieces;
  tokens_are = r.tokens_are;
  beyond = r.beyond;
  ended = r.ended;
  fit = r.fit;
  text_is = r.text_is;
  cut = r.cut;
  follows = λ qs c f. record { yields = (r.follows qs c f).yields; line = tt };
}

-- ---- one behind the other

with_more : (o : Option Token) (ts us : List Token) → with_token o ts ++ us ≡ with_token o (ts ++ us)
with_more None ts us = refl
with_more (Some t) ts us = refl

pub tokens-append : (ps qs : List Piece) → tokens_in (ps ++ qs) ≡ tokens_in ps ++ tokens_in qs
tokens-append [] qs = refl
tokens-append (p ∷ ps) qs = ap (with_token (own_token p.kind p.text)) (tokens-append ps qs) ∙ sym (with_more (own_token p.kind p.text) (tokens_in ps) (tokens_in qs))

pub join-append : (ps qs : List Piece) → join_pieces (ps ++ qs) ≡ join_pieces ps ++ join_pieces qs
join-append [] qs = refl
join-append (p ∷ ps) qs = ap (λ t. p.text ++ t) (join-append ps qs) ∙ sym (append_assoc p.text (join_pieces ps) (join_pieces qs))

module _ {bytes pre post mid more front rest : List ℕ} {starts between ends : Bool} {cs ds : List Change} {ts us : List Token} (a : Runs bytes starts pre post between mid more cs ts) (b : Runs bytes between mid more ends front rest ds us) where
  pub behind : Runs bytes starts pre post ends front rest (cs ++ ds) (ts ++ us)
  behind = record {
    pieces = a.pieces ++ b.pieces;
    tokens_are = tokens-append a.pieces b.pieces ∙ (λ i. a.tokens_are i ++ b.tokens_are i);
    beyond = omega (arith, a.beyond, b.beyond);
    ended = end_both cs ds (length front) (end_later cs (length mid) (length front) b.beyond a.ended) b.ended;
    fit = λ es h. subst (Fit (length pre) bytes) (sym (append_assoc cs ds es)) (a.fit (ds ++ es) (b.fit es h));
    text_is = λ es h.
        ap (join_changes (length pre) bytes) (append_assoc cs ds es)
        ∙ a.text_is (ds ++ es) (b.fit es h)
        ∙ ap (λ t. join_pieces a.pieces ++ t) (b.text_is es h)
        ∙ sym (append_assoc (join_pieces a.pieces) (join_pieces b.pieces) (join_changes (length front) bytes es))
        ∙ ap (λ t. t ++ join_changes (length front) bytes es) (sym (join-append a.pieces b.pieces));
    cut = λ qs c f. subst AreCut (sym (append_assoc a.pieces b.pieces qs)) (a.cut (b.pieces ++ qs) (b.cut qs c f) (b.follows qs c f));
    follows = λ qs c f. subst (λ ps. Follows starts (chars post) (chars (join_pieces ps))) (sym (append_assoc a.pieces b.pieces qs)) (a.follows (b.pieces ++ qs) (b.cut qs c f) (b.follows qs c f));
  }

-- ---- a lexeme stays

pub sooner : (at before : ℕ) (bytes : List ℕ) (cs : List Change) → before ≤ at → Fit at bytes cs → Fit before bytes cs
sooner at before bytes [] l h = omega (arith, l, h)
sooner at before bytes (c ∷ cs) l h = (omega (arith, h.0, l), h.1, h.2, h.3, h.4)

take_past : (f rest : List ℕ) (k : ℕ) → take (length f + k) (f ++ rest) ≡ f ++ take k rest
take_past [] rest k = ap (λ n. take n rest) (omega arith)
take_past (c ∷ f) rest k =
    let more : length (c ∷ f) + k ≡ suc (length f + k) = omega arith in
    ap (λ n. take n (c ∷ (f ++ rest))) more ∙ ap (λ xs. c ∷ xs) (take_past f rest k)

grouped : (f s t j : List ℕ) → f ++ s ++ t ++ j ≡ f ++ (s ++ t ++ j)
grouped f s t j = simp append_assoc

pub join_past : (bytes pre f rest : List ℕ) (cs : List Change) → bytes ≡ pre ++ (f ++ rest) → Fit (length (pre ++ f)) bytes cs
    → join_changes (length pre) bytes cs ≡ f ++ join_changes (length (pre ++ f)) bytes cs
join_past bytes pre f rest [] e h =
    let left : drop (length pre) bytes ≡ f ++ rest = ap (drop (length pre)) e ∙ drop_at pre (f ++ rest) (length pre) refl in
    let right : drop (length (pre ++ f)) bytes ≡ rest =
    ap (drop (length (pre ++ f))) (e ∙ sym (append_assoc pre f rest)) ∙ drop_at (pre ++ f) rest (length (pre ++ f)) refl in
    left ∙ ap (λ xs. f ++ xs) (sym right)
join_past bytes pre f rest (c ∷ cs) e h =
    let k : ℕ = c.span.from - length (pre ++ f) in
    let long : length (pre ++ f) ≡ length pre + length f = length-append pre f in
    let split : c.span.from - length pre ≡ length f + k = omega (arith, h.0) in
    let left : drop (length pre) bytes ≡ f ++ rest = ap (drop (length pre)) e ∙ drop_at pre (f ++ rest) (length pre) refl in
    let right : drop (length (pre ++ f)) bytes ≡ rest =
    ap (drop (length (pre ++ f))) (e ∙ sym (append_assoc pre f rest)) ∙ drop_at (pre ++ f) rest (length (pre ++ f)) refl in
    let here : slice_range bytes (length pre) c.span.from ≡ f ++ slice_range bytes (length (pre ++ f)) c.span.from =
    ap (λ xs. take (c.span.from - length pre) xs) left ∙ ap (λ n. take n (f ++ rest)) split ∙ take_past f rest k ∙ ap (λ xs. f ++ take k xs) (sym right) in
    ap (λ xs. xs ++ c.text ++ join_changes c.span.to bytes cs) here
    ∙ grouped f (slice_range bytes (length (pre ++ f)) c.span.from) c.text (join_changes c.span.to bytes cs)

abbrev pub piece : ItemKind → List ℕ → Piece
piece kind f = record { kind = kind; text = f }

-- how the lexeme has to be followed: in front of what is cut there
abbrev Keeps : Bool → ItemKind → List ℕ → Type 0
Keeps ends kind rest = (new : List ℕ) → Follows ends (chars rest) new → EndsLine kind (chars rest) new

pub keep_followed : (f rest new : List ℕ) → IsUtf8 f → (chars f ≡ [] → ⊥) → Yields (chars rest) (chars new) → Follows true (chars (f ++ rest)) (chars (f ++ new))
keep_followed f rest new u some y = record {
  yields = subst (λ t. Yields t (chars (f ++ new))) (sym (chars-append f rest u)) (subst (Yields (chars f ++ chars rest)) (sym (chars-append f new u)) (yields_behind (chars f) (chars rest) (chars new) some y));
  line = λ k. subst (λ t. EndsLine k t (chars (f ++ new))) (sym (chars-append f rest u)) (subst (EndsLine k (chars f ++ chars rest)) (sym (chars-append f new u)) (same_line k (chars f) (chars rest) (chars new) some));
}

pub keep : (bytes pre f rest : List ℕ) (kind : ItemKind) (ends : Bool) → bytes ≡ pre ++ (f ++ rest) → IsUtf8 f → IsCut kind (chars f) (chars rest) → Keeps ends kind rest
    → Runs bytes true pre (f ++ rest) ends (pre ++ f) rest [] (with_token (own_token kind f) [])
keep bytes pre f rest kind ends e u cut line = record {
  pieces = piece kind f ∷ [];
  tokens_are = refl;
  beyond = omega (arith, length-append pre f);
  ended = tt;
  fit = λ ds h. sooner (length (pre ++ f)) (length pre) bytes ds (omega (arith, length-append pre f)) h;
  text_is = λ ds h. join_past bytes pre f rest ds e h ∙ ap (λ t. t ++ join_changes (length (pre ++ f)) bytes ds) (sym (append-nil f));
  cut = λ qs c y. (u, y.yields.cut kind (chars f) (line (chars (join_pieces qs)) y) cut, c);
  follows = λ qs c y. keep_followed f rest (join_pieces qs) u some y.yields;
}
  where
    some : chars f ≡ [] → ⊥
    some none = no_empty kind (subst (IsLexeme kind) none cut.taken.lexeme)

-- ---- parts are put in place of what stands between two places

pub put : (bytes pre post front rest : List ℕ) (parts : List Part) (text : List ℕ) (starts : Bool) → bytes ≡ pre ++ post → bytes ≡ front ++ rest → length pre ≤ length front → IsUtf8 post → IsUtf8 rest
    → join parts ≡ text → ((new : List ℕ) → Follows false (chars rest) new → Lined parts new) → ((new : List ℕ) → Follows false (chars rest) new → Follows starts (chars post) (join_chars parts ++ new))
    → Runs bytes starts pre post false front rest (change (record { from = length pre; to = length front }) text ∷ []) (tokens parts)
put bytes pre post front rest parts text starts e e' l u u' t lined follows =
    let no_wide : length pre - length pre ≡ 0 = omega arith in
    let none : slice_range bytes (length pre) (length pre) ≡ [] = ap (λ n. take n (drop (length pre) bytes)) no_wide in
    let made : join_pieces (pieces_of parts) ≡ text = ap join_pieces (sym (append-nil (pieces_of parts))) ∙ parts_join parts [] ∙ append-nil (join parts) ∙ t in
    record {
      pieces = pieces_of parts;
      tokens_are = ap tokens_in (sym (append-nil (pieces_of parts))) ∙ parts_spell parts [] ∙ append-nil (tokens parts);
      beyond = l;
      ended = (omega arith, tt);
      fit = λ ds h. (omega arith, l, IsCharBoundary-at_seam bytes pre post e u, IsCharBoundary-at_seam bytes front rest e' u', h);
      text_is = λ ds h. ap (λ xs. xs ++ text ++ join_changes (length front) bytes ds) none ∙ ap (λ xs. xs ++ join_changes (length front) bytes ds) (sym made);
      cut = λ qs c y. parts_cut parts qs (lined (chars (join_pieces qs)) y) c;
      follows = λ qs c y. subst (Follows starts (chars post)) (sym (parts_chars parts qs (lined (chars (join_pieces qs)) y) c)) (follows (chars (join_pieces qs)) y);
    }
