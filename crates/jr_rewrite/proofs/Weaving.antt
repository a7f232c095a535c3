-- What steps make of a text: at each place the bytes that are left become lexemes again.
use Rattle.std.proofs.Common.{◌≡◌, ◌⊎◌, inl, inr, Option, Some, None, ℕ, suc, ◌+◌, ◌-◌, ◌≤◌, List, [], ◌∷◌, ◌++◌, length, take, drop, refl, sym, ap, ◌∙◌, subst, arith}
use Rattle.std.specs.Prelude.{slice_range}
use Rattle.std.specs.Str.{IsUtf8, chars}
use Rattle.std.proofs.lemmas.List.{append_assoc, append-nil, length-append, drop_at}
use Rattle.std.proofs.lemmas.Str.{chars-append, IsCharBoundary-at_seam}
use Rattle.jr_lex.specs.declared.items.ItemKind.{ItemKind}
use Rattle.jr_lex.specs.declared.items.ItemKind.TheVariants.{Blank}
use Rattle.jr_lex.specs.Lexemes.{IsLexeme}
use Rattle.jr_lex.specs.Beside.{Piece, join_pieces}
use Rattle.jr_lex.specs.Near.{IsCut, EndsLine, NoNewDot}
use Rattle.jr_lex.specs.Seams.{Meets}
use Rattle.jr_lex.proofs.ScanMeaning.{no_empty}
use Rattle.jr_lex.proofs.OneLexeme.{cut_near}
use Rattle.jr_lex.proofs.Yields.{Yields, yields_same, near_run, same_line}
use Rattle.jr_grammar.specs.Tokens.{Token}
use Rattle.jr_rewrite.specs.Respellings.{Change}
use Rattle.jr_rewrite.specs.Rewritten.{change}
use Rattle.jr_splice.specs.Cutting.{with_token, own_token}
use Rattle.jr_splice.proofs.Gluing.{Glued, glue}
use Rattle.jr_rewrite.specs.Woven.{Fronts, MayFront, YieldsAt, join_changes, Fit, Woven}
use Rattle.jr_rewrite.proofs.Parts.{Part, pieces_of, join, join_chars, tokens, Lined}
use Rattle.jr_rewrite.proofs.Cuts.{parts_spell, parts_join, parts_chars, parts_cut}

-- and where a line ended it still ends
pub record WovenOn (F : Fronts) (bytes pre post : List ℕ) (cs : List Change) (ts : List Token) : Type 0 where
  pub woven : Woven F bytes pre post cs ts
  pub line : (k : ItemKind) → EndsLine k (chars post) (chars (join_pieces woven.pieces))

-- what yields to each lexeme yields to those that may stand there
pub yields_at : {F : Fronts} {at : ℕ} (old new : List ℕ) → Yields old new → YieldsAt F at old new
yields_at old new y = record { cut = λ k front may line h. inr (y.cut k front line h); no_dot = y.no_dot }

abbrev pub woven_glued : {F : Fronts} {bytes pre post : List ℕ} {cs : List Change} {ts : List Token} (w : Woven F bytes pre post cs ts) → Glued (join_pieces w.pieces) ts
woven_glued w = record { pieces = w.pieces; cut = w.cut; text_is = refl; tokens_are = w.tokens_are }

-- ---- nothing is left

pub end_woven : {F : Fronts} (bytes pre : List ℕ) → bytes ≡ pre ++ [] → WovenOn F bytes pre [] [] []
end_woven bytes pre e = record {
  woven = record {
    pieces = [];
    fit = omega (arith, ap length e, length-append pre []);
    text_is = ap (drop (length pre)) e ∙ drop_at pre [] (length pre) refl;
    cut = tt;
    yields = yields_at (chars []) (chars []) (yields_same (chars []));
    tokens_are = refl;
  };
  line = λ k comment ends. ends;
}

-- ---- a lexeme stays

sooner : (at before : ℕ) (bytes : List ℕ) (cs : List Change) → before ≤ at → Fit at bytes cs → Fit before bytes cs
sooner at before bytes [] l h = omega arith
sooner at before bytes (c ∷ cs) l h = (omega (arith, h.0), h.1, h.2, h.3, h.4)

take_past : (f rest : List ℕ) (k : ℕ) → take (length f + k) (f ++ rest) ≡ f ++ take k rest
take_past [] rest k = ap (λ n. take n rest) (omega arith)
take_past (c ∷ f) rest k =
    let more : length (c ∷ f) + k ≡ suc (length f + k) = omega arith in
    ap (λ n. take n (c ∷ (f ++ rest))) more ∙ ap (λ xs. c ∷ xs) (take_past f rest k)

grouped : (f s t j : List ℕ) → f ++ s ++ t ++ j ≡ f ++ (s ++ t ++ j)
grouped f s t j = simp append_assoc

join_past : (bytes pre f rest : List ℕ) (cs : List Change) → bytes ≡ pre ++ (f ++ rest) → Fit (length (pre ++ f)) bytes cs
    → join_changes (length pre) bytes cs ≡ f ++ join_changes (length (pre ++ f)) bytes cs
join_past bytes pre f rest [] e h =
    let left : drop (length pre) bytes ≡ f ++ rest = ap (drop (length pre)) e ∙ drop_at pre (f ++ rest) (length pre) refl in
    let right : drop (length (pre ++ f)) bytes ≡ rest =
    ap (drop (length (pre ++ f))) (e ∙ sym (append_assoc pre f rest)) ∙ drop_at (pre ++ f) rest (length (pre ++ f)) refl in
    left ∙ ap (λ xs. f ++ xs) (sym right)
join_past bytes pre f rest (c ∷ cs) e h =
    let k : ℕ = c.span.from - length (pre ++ f) in
    let long : length (pre ++ f) ≡ length pre + length f = length-append pre f in
    let split : c.span.from - length pre ≡ length f + k = omega (arith, h.0) in
    let left : drop (length pre) bytes ≡ f ++ rest = ap (drop (length pre)) e ∙ drop_at pre (f ++ rest) (length pre) refl in
    let right : drop (length (pre ++ f)) bytes ≡ rest =
    ap (drop (length (pre ++ f))) (e ∙ sym (append_assoc pre f rest)) ∙ drop_at (pre ++ f) rest (length (pre ++ f)) refl in
    let here : slice_range bytes (length pre) c.span.from ≡ f ++ slice_range bytes (length (pre ++ f)) c.span.from =
    ap (λ xs. take (c.span.from - length pre) xs) left ∙ ap (λ n. take n (f ++ rest)) split ∙ take_past f rest k ∙ ap (λ xs. f ++ take k xs) (sym right) in
    ap (λ xs. xs ++ c.text ++ join_changes c.span.to bytes cs) here
    ∙ grouped f (slice_range bytes (length (pre ++ f)) c.span.from) c.text (join_changes c.span.to bytes cs)

no_tokens : (o : Option Token) (ts : List Token) → with_token o [] ++ ts ≡ with_token o ts
no_tokens None ts = refl
no_tokens (Some t) ts = refl

-- a lexeme in front of what it is cut before, or a blank in front of anything
pub kept_glued : (kind : ItemKind) (f old text : List ℕ) (ts : List Token) → IsUtf8 f → IsCut kind (chars f) old → Glued text ts → (kind ≡ Blank) ⊎ IsCut kind (chars f) (chars text)
    → Glued (f ++ text) (with_token (own_token kind f) ts)
kept_glued kind f old text ts u c g h = elim h [
  | inl blank ↦
      (let one : Piece = record { kind = kind; text = f } in
      let all : Glued ((f ++ []) ++ text) (with_token (own_token kind f) [] ++ ts) = glue (one ∷ []) old text ts (u, c, tt) g (subst (λ k. Meets k old (chars text)) (sym blank) tt) in
      subst (λ t. Glued (t ++ text) (with_token (own_token kind f) ts)) (append-nil f) (subst (Glued ((f ++ []) ++ text)) (no_tokens (own_token kind f) ts) all))
  | inr cut ↦ record {
    pieces = record { kind = kind; text = f } ∷ g.pieces;
    cut = (u, subst (λ t. IsCut kind (chars f) (chars t)) (sym g.text_is) cut, g.cut);
    text_is = ap (λ t. f ++ t) g.text_is;
    tokens_are = ap (with_token (own_token kind f)) g.tokens_are;
  }
]

-- what goes on in the same way yields
yields_front : (front old new : List ℕ) → (front ≡ [] → ⊥) → NoNewDot old new → Yields (front ++ old) (front ++ new)
yields_front [] old new some dot = absurd (some refl)
yields_front (c ∷ cs) old new some dot = record {
  cut = λ k f line h. cut_near k f (c ∷ (cs ++ old)) (c ∷ (cs ++ new)) (near_run (c ∷ cs) old new some (λ e. dot)) line h;
  no_dot = λ e. e;
}

-- a piece of the text stays in front of what is woven
pub glued_woven : {F : Fronts} (bytes pre f rest : List ℕ) (cs : List Change) (ts us : List Token) → bytes ≡ pre ++ (f ++ rest) → IsUtf8 f → (chars f ≡ [] → ⊥)
    → (w : Woven F bytes (pre ++ f) rest cs ts) → Glued (f ++ join_pieces w.pieces) us → WovenOn F bytes pre (f ++ rest) cs us
glued_woven bytes pre f rest cs ts us e u some w g =
    let new : List ℕ = join_pieces w.pieces in
    let yields : Yields (chars (f ++ rest)) (chars (f ++ new)) =
    subst (λ t. Yields t (chars (f ++ new))) (sym (chars-append f rest u))
    (subst (Yields (chars f ++ chars rest)) (sym (chars-append f new u)) (yields_front (chars f) (chars rest) (chars new) some w.yields.no_dot)) in
    record {
      woven = record {
        pieces = g.pieces;
        fit = sooner (length (pre ++ f)) (length pre) bytes cs (omega (arith, length-append pre f)) w.fit;
        text_is = join_past bytes pre f rest cs e w.fit ∙ ap (λ xs. f ++ xs) w.text_is ∙ sym g.text_is;
        cut = g.cut;
        yields = yields_at (chars (f ++ rest)) (chars (join_pieces g.pieces)) (subst (λ t. Yields (chars (f ++ rest)) (chars t)) (sym g.text_is) yields);
        tokens_are = g.tokens_are;
      };
      line = λ k. subst (λ t. EndsLine k (chars (f ++ rest)) (chars t)) (sym g.text_is)
          (subst (λ t. EndsLine k t (chars (f ++ new))) (sym (chars-append f rest u))
          (subst (λ t. EndsLine k (chars f ++ chars rest) t) (sym (chars-append f new u)) (same_line k (chars f) (chars rest) (chars new) some)));
    }

pub keep_woven : {F : Fronts} (bytes pre f rest : List ℕ) (kind : ItemKind) (cs : List Change) (ts : List Token) → bytes ≡ pre ++ (f ++ rest) → IsUtf8 f
    → IsCut kind (chars f) (chars rest) → MayFront F (length (pre ++ f)) kind
    → (w : Woven F bytes (pre ++ f) rest cs ts) → EndsLine kind (chars rest) (chars (join_pieces w.pieces))
    → WovenOn F bytes pre (f ++ rest) cs (with_token (own_token kind f) ts)
keep_woven bytes pre f rest kind cs ts e u cut fronts w line =
    glued_woven bytes pre f rest cs ts (with_token (own_token kind f) ts) e u (λ none. no_empty kind (subst (IsLexeme kind) none cut.taken.lexeme)) w
    (kept_glued kind f (chars rest) (join_pieces w.pieces) ts u cut (woven_glued w) (w.yields.cut kind (chars f) fronts line cut))

-- ---- parts, and perhaps a blank behind them, are put in place of what stands between two places

pub put_woven : {F : Fronts} (bytes pre post pre' rest : List ℕ) (parts : List Part) (gap text : List ℕ) (cs : List Change) (ts : List Token)
    → bytes ≡ pre ++ post → bytes ≡ pre' ++ rest → length pre ≤ length pre' → IsUtf8 post → IsUtf8 rest → join parts ++ gap ≡ text
    → (w : Woven F bytes pre' rest cs ts) → (g : Glued (gap ++ join_pieces w.pieces) ts) → Lined parts (chars (join_pieces g.pieces))
    → YieldsAt F (length pre) (chars post) (join_chars parts ++ chars (join_pieces g.pieces))
    → Woven F bytes pre post (change (record { from = length pre; to = length pre' }) text ∷ cs) (tokens parts ++ ts)
put_woven {F = F} bytes pre post pre' rest parts gap text cs ts e e' l u u' t w g lined yields =
    let new : List ℕ = join_pieces w.pieces in
    let no_wide : length pre - length pre ≡ 0 = omega arith in
    let none : slice_range bytes (length pre) (length pre) ≡ [] = ap (λ n. take n (drop (length pre) bytes)) no_wide in
    record {
      pieces = pieces_of parts ++ g.pieces;
      fit = (omega arith, l, IsCharBoundary-at_seam bytes pre post e u, IsCharBoundary-at_seam bytes pre' rest e' u', w.fit);
      text_is =
          ap (λ xs. xs ++ text ++ join_changes (length pre') bytes cs) none
          ∙ (λ i. sym t i ++ w.text_is i)
          ∙ append_assoc (join parts) gap new
          ∙ ap (λ xs. join parts ++ xs) (sym g.text_is)
          ∙ sym (parts_join parts g.pieces);
      cut = parts_cut parts g.pieces lined g.cut;
      yields = subst (YieldsAt F (length pre) (chars post)) (sym (parts_chars parts g.pieces lined g.cut)) yields;
      tokens_are = parts_spell parts g.pieces ∙ ap (λ xs. tokens parts ++ xs) g.tokens_are;
    }
