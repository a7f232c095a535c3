-- A run of tokens is replaced together with what stands beside it on its lines: the indent in front,
-- and the blank behind up to the line's end.
use Rattle.std.proofs.Common.{◌≡◌, ◌⊎◌, inl, inr, ℕ, ◌+◌, ◌-◌, ◌<◌, ◌≤◌, ◌==◌, take, drop, true, false, List, [], ◌∷◌, ◌++◌, length, refl, sym, ap, ◌∙◌, subst, arith}
use Rattle.std.specs.Prelude.{slice_range, codes}
use Rattle.std.specs.Str.{IsUtf8, chars}
use Rattle.std.proofs.lemmas.Bool.{cases_lt, and_parts, or_cases, eqb-true, both_ways, false≢true, not-true}
use Rattle.std.proofs.lemmas.List.{append_assoc, append-nil, length-append, length-take-le, take-append-drop, take_at, drop_at}
use Rattle.std.proofs.lemmas.Str.{chars-append, chars-nil, IsUtf8-append, IsUtf8-take, IsCharBoundary-at_seam}
use Rattle.jr_text.specs.declared.spans.Span.{Span}
use Rattle.jr_lex.specs.declared.items.Item.{Item}
use Rattle.jr_lex.specs.declared.items.ItemKind.{ItemKind}
use Rattle.jr_lex.specs.declared.items.ItemKind.TheVariants.{Token as TokenItem, Blank, Comment}
use Rattle.jr_lex.specs.declared.items.TokenKind.{TokenKind}
use Rattle.jr_lex.specs.Characters.{is_blank, is_line_end, all_pass, first_passes}
use Rattle.jr_lex.specs.Comments.{IsLineComment, IsBlockComment}
use Rattle.jr_lex.specs.Scan.{is_not_line_end}
use Rattle.jr_lex.specs.Lexes.{span_of as between}
use Rattle.jr_lex.specs.Lexemes.{IsLexeme}
use Rattle.jr_lex.specs.Beside.{Piece, join_pieces, EndsBefore}
use Rattle.jr_lex.specs.Near.{IsCut}
use Rattle.jr_lex.proofs.ScanMeaning.{no_empty}
use Rattle.jr_lex.proofs.OneLexeme.{lexeme_cut, blank_ends, token_no_blank, comment_no_blank, comment_begins}
use Rattle.jr_lex.proofs.Seams.{no_line}
use Rattle.jr_grammar.specs.Tokens.{Token, Placed, placed_of}
use Rattle.jr_grammar.specs.Stands.{Tokens, first_from, last_to}
use Rattle.jr_rewrite.specs.Respellings.{Change}
use Rattle.jr_rewrite.specs.Rewritten.{change}
use Rattle.jr_splice.specs.Cutting.{chars_in, AreCutBefore, tokens_in}
use Rattle.jr_splice.specs.Parts.{LastIs}
use Rattle.jr_rewrite.specs.Woven.{Fronts, MayFront, YieldsAt, IsTile, Tiled, Woven, ends_in, is_indent, Behind, no_indent, StandsBehind, Weaves}
use Rattle.jr_rewrite.proofs.LastBytes.{ends_append, ends_apart, ends_pass, ends_chars, indent_ascii, line_end_ascii}
use Rattle.jr_rewrite.proofs.BlankBytes.{parted, pass_parts, pass_front, pass_take, blank_ascii, blank_text, blank_chars, blank_bytes, indent_blank, first_chars}
use Rattle.jr_rewrite.proofs.Tiles.{tiled_text}
use Rattle.jr_rewrite.proofs.Weaving.{WovenOn, woven_glued, kept_glued, glued_woven}
use Rattle.jr_rewrite.proofs.Steps.{Suffices}
use Rattle.jr_rewrite.proofs.Skipping.{placed_at, placed_token, placed_blank, placed_comment, head_same, further, tiled_further, Skipped, sooner, skip_run}
use Rattle.jr_rewrite.proofs.Woven.{AtToken, on_token, gap_woven, blank_none, comment_none, stands_so}
use Rattle.jr_rewrite.proofs.SpotWeaving.{pieces_front, put_pieces, gone_yields}

-- a line begins at the place
abbrev pub StartsLine : List ℕ → ℕ → Type 0
StartsLine bytes at = (at ≡ 0) ⊎ (ends_in is_line_end (take at bytes) ≡ true)

-- The span has the run, and beside it spaces and tabs in front and a blank behind; a line begins
-- with it, or the run does.
pub record AreLines (bytes : List ℕ) (run : Tokens) (whole : Span) : Type 0 where
  pub begins : whole.from ≤ first_from run
  pub ends : last_to run ≤ whole.to
  pub within : whole.to ≤ length bytes
  pub indent : all_pass is_indent (slice_range bytes whole.from (first_from run)) ≡ true
  pub blank : all_pass is_blank (slice_range bytes (last_to run) whole.to) ≡ true
  pub start : (whole.from ≡ first_from run) ⊎ StartsLine bytes whole.from

-- ---- items and places

some_bytes : (bs : List ℕ) (k : ItemKind) → IsLexeme k (chars bs) → (bs ≡ []) → ⊥
some_bytes bs k h e = no_empty k (subst (IsLexeme k) (ap chars e ∙ chars-nil) h)

empty_parts : (f r : List ℕ) → f ++ r ≡ [] → f ≡ []
empty_parts [] r e = refl
empty_parts (x ∷ f) r e = absurd cc

module _ (F : Fronts) (bytes : List ℕ) where
  -- the first token begins behind the place, in the text
  first_there : (items : List Item) (pre post : List ℕ) (p : Placed Span) (ps : Tokens) → Tiled F (length pre) post items → placed_of bytes items ≡ p ∷ ps
      → (length pre ≤ p.mark.from) × (p.mark.from ≤ length pre + length post)
  first_there [] pre post p ps tiled placed = absurd cc
  first_there (i ∷ is) pre post p ps tiled placed = by_kind i.kind refl (λ h.
      let there = first_there is (pre ++ tiled.0) tiled.1 p ps (tiled_further F pre tiled.0 tiled.1 is tiled.4) h in
      let long : length (pre ++ tiled.0) ≡ length pre + length tiled.0 = length-append pre tiled.0 in
      let total : length post ≡ length tiled.0 + length tiled.1 = ap length tiled.2 ∙ length-append tiled.0 tiled.1 in
      (omega (arith, long, there.0), omega (arith, long, total, there.1)))
    where
      by_kind : (k : ItemKind) → i.kind ≡ k → (placed_of bytes is ≡ p ∷ ps → (length pre ≤ p.mark.from) × (p.mark.from ≤ length pre + length post)) → (length pre ≤ p.mark.from) × (p.mark.from ≤ length pre + length post)
      by_kind (TokenItem k) kind again =
          let same : placed_at bytes i k ≡ p = head_same _ _ _ _ (sym (placed_token bytes i is k kind) ∙ placed) in
          let here : p.mark.from ≡ length pre = sym (ap (λ (x : Placed Span). x.mark.from) same) ∙ ap (λ (s : Span). s.from) tiled.3.place in
          (omega (arith, here), omega (arith, here))
      by_kind Blank kind again = again (sym (placed_blank bytes i is kind) ∙ placed)
      by_kind Comment kind again = again (sym (placed_comment bytes i is kind) ∙ placed)

  some_post : (items : List Item) (at : ℕ) (post : List ℕ) (p : Placed Span) (ps : Tokens) → Tiled F at post items → placed_of bytes items ≡ p ∷ ps → post ≡ [] → ⊥
  some_post [] at post p ps tiled placed e = absurd cc
  some_post (i ∷ is) at post p ps tiled placed e = some_bytes tiled.0 i.kind tiled.3.cut.taken.lexeme (empty_parts tiled.0 tiled.1 (sym tiled.2 ∙ e))

-- ---- a blank in front of what is woven

blank_woven : {F : Fronts} (bytes pre y rest : List ℕ) (cs : List Change) (ts : List Token) → bytes ≡ pre ++ (y ++ rest) → (y ≡ [] → ⊥) → all_pass is_blank y ≡ true
    → Woven F bytes (pre ++ y) rest cs ts → WovenOn F bytes pre (y ++ rest) cs ts
blank_woven bytes pre y rest cs ts e some blank w =
    let is : chars y ≡ y = blank_chars y blank in
    let lexeme : IsLexeme Blank (chars y) = subst (IsLexeme Blank) (sym is) (some, blank) in
    glued_woven bytes pre y rest cs ts ts e (blank_text y blank) lexeme.0 w
    (kept_glued Blank y [] (join_pieces w.pieces) ts (blank_text y blank) (lexeme_cut Blank (chars y) [] lexeme refl) (woven_glued w) (inl refl))

-- ---- behind the run

-- the place behind the blank that goes along
record Back (F : Fronts) (bytes : List ℕ) (to : ℕ) (more : Tokens) : Type 0 where
  front : List ℕ
  rest : List ℕ
  after : List Item
  whole : bytes ≡ front ++ rest
  at : length front ≡ to
  tiled : Tiled F (length front) rest after
  placed : placed_of bytes after ≡ more

-- a blank begins no token and no comment
blank_kind : (k : ItemKind) (f r : List ℕ) → IsLexeme k f → first_passes is_blank (f ++ r) ≡ true → k ≡ Blank
blank_kind Blank f r h first = refl
blank_kind (TokenItem k) f r h first = absurd (both_ways (first_passes is_blank (f ++ r)) (token_no_blank k f r h) first)
blank_kind Comment f r h first = absurd (both_ways (first_passes is_blank (f ++ r)) (comment_no_blank f r h) first)

module _ (F : Fronts) (bytes : List ℕ) (more : Tokens) where
  -- the first item is the blank that goes, or begins with it
  back_item : (front rest : List ℕ) (j : Item) (js : List Item) (b : ℕ) (bs left : List ℕ) → bytes ≡ front ++ rest → Tiled F (length front) rest (j ∷ js) → placed_of bytes (j ∷ js) ≡ more
      → rest ≡ (b ∷ bs) ++ left → all_pass is_blank (b ∷ bs) ≡ true → Back F bytes (length front + length (b ∷ bs)) more
  back_item front rest j js b bs left e tiled placed parts blank = elim (parted f r (b ∷ bs) left (sym tiled.2 ∙ parts)) [
    | inl h ↦ whole_item h.0 h.1 h.2
    | inr h ↦ half_item h.0 h.1 h.2 h.3
  ]
    where
      f : List ℕ
      f = tiled.0

      r : List ℕ
      r = tiled.1

      text : IsUtf8 rest
      text = tiled_text F (length front) rest (j ∷ js) tiled

      first : first_passes is_blank (chars f ++ chars r) ≡ true
      first = sym (ap (first_passes is_blank) (ap chars tiled.2 ∙ chars-append f r tiled.3.is_text)) ∙ sym (first_chars is_blank blank_ascii rest text) ∙ ap (first_passes is_blank) parts
          ∙ (and_parts (is_blank b) (all_pass is_blank bs) blank).0

      kind : j.kind ≡ Blank
      kind = blank_kind j.kind (chars f) (chars r) tiled.3.cut.taken.lexeme first

      stops : first_passes is_blank (chars r) ≡ false
      stops = blank_ends (chars f) (chars r) (subst (λ k. IsCut k (chars f) (chars r)) kind tiled.3.cut)

      rest_text : IsUtf8 r
      rest_text = tiled_text F (length front + length f) r js tiled.4

      behind : placed_of bytes js ≡ more
      behind = sym (placed_blank bytes j js kind) ∙ placed

      whole_item : (t : List ℕ) → b ∷ bs ≡ f ++ t → r ≡ t ++ left → Back F bytes (length front + length (b ∷ bs)) more
      whole_item [] is over = record {
        front = front ++ f;
        rest = r;
        after = js;
        whole = further bytes front rest f r e tiled.2;
        at = length-append front f ∙ ap (λ xs. length front + length xs) (sym (append-nil f) ∙ sym is);
        tiled = tiled_further F front f r js tiled.4;
        placed = behind;
      }
      whole_item (c ∷ t) is over = absurd (both_ways (first_passes is_blank (chars r)) stops
          (sym (first_chars is_blank blank_ascii r rest_text) ∙ ap (first_passes is_blank) over
          ∙ (and_parts (is_blank c) (all_pass is_blank t) (pass_parts is_blank f (c ∷ t) (subst (λ xs. all_pass is_blank xs ≡ true) is blank)).1).0))

      half_item : (x : ℕ) (t : List ℕ) → f ≡ (b ∷ bs) ++ x ∷ t → left ≡ (x ∷ t) ++ r → Back F bytes (length front + length (b ∷ bs)) more
      half_item x t is over = record {
        front = front ++ b ∷ bs;
        rest = (x ∷ t) ++ r;
        after = item ∷ js;
        whole = further bytes front rest (b ∷ bs) ((x ∷ t) ++ r) e (parts ∙ ap (λ xs. (b ∷ bs) ++ xs) over);
        at = length-append front (b ∷ bs);
        tiled = (x ∷ t, r, refl, tile, subst (λ n. Tiled F n r js) further_on tiled.4);
        placed = placed_blank bytes item js refl ∙ behind;
      }
        where
          at : ℕ
          at = length (front ++ b ∷ bs)

          item : Item
          item = record { kind = Blank; span = between at (at + length (x ∷ t)) }

          blanks : all_pass is_blank (x ∷ t) ≡ true
          blanks = (pass_parts is_blank (b ∷ bs) (x ∷ t) (subst (λ xs. all_pass is_blank xs ≡ true) is (blank_bytes f tiled.3.is_text (subst (λ k. IsLexeme k (chars f)) kind tiled.3.cut.taken.lexeme).1))).1

          are : chars (x ∷ t) ≡ x ∷ t
          are = blank_chars (x ∷ t) blanks

          tile : IsTile F at item (x ∷ t) r
          tile = record {
            place = refl;
            is_text = blank_text (x ∷ t) blanks;
            cut = lexeme_cut Blank (chars (x ∷ t)) (chars r) (subst (IsLexeme Blank) (sym are) ((λ e. cc), blanks)) stops;
            fronts = tt;
          }

          further_on : length front + length f ≡ at + length (x ∷ t)
          further_on = omega (arith, ap length is, length-append (b ∷ bs) (x ∷ t), length-append front (b ∷ bs))

  -- behind a run, the blank goes
  back : (front rest : List ℕ) (after : List Item) (gone left : List ℕ) → bytes ≡ front ++ rest → Tiled F (length front) rest after → placed_of bytes after ≡ more
      → rest ≡ gone ++ left → all_pass is_blank gone ≡ true → Back F bytes (length front + length gone) more
  back front rest after [] left e tiled placed parts blank = record { front = front; rest = rest; after = after; whole = e; at = omega arith; tiled = tiled; placed = placed }
  back front rest [] (b ∷ bs) left e tiled placed parts blank = absurd (let none : (b ∷ bs) ++ left ≡ [] = sym parts ∙ tiled in cc)
  back front rest (j ∷ js) (b ∷ bs) left e tiled placed parts blank = back_item front rest j js b bs left e tiled placed parts blank

-- ---- in front of the run

-- from a place on, something stands in front of the span, and it begins with this gap
record Ahead (pre post : List ℕ) (from first : ℕ) : Type 0 where
  before : List ℕ
  gap : List ℕ
  rest : List ℕ
  parts : post ≡ before ++ (gap ++ rest)
  at : length (pre ++ before) ≡ from
  stops : length (pre ++ before) + length gap ≡ first
  indent : all_pass is_indent gap ≡ true

-- an indent ends no line
indent_goes_on : (n : ℕ) → is_indent n ≡ true → is_not_line_end n ≡ true
indent_goes_on n h = elim (or_cases (n == 32) (n == 9) h) [
  | inl space ↦ ap is_not_line_end (eqb-true n 32 space)
  | inr tab ↦ ap is_not_line_end (eqb-true n 9 tab)
]

goes_on : (text : List ℕ) (x : ℕ) (bs : List ℕ) → IsUtf8 text → text ≡ x ∷ bs → is_indent x ≡ true → first_passes is_not_line_end (chars text) ≡ true
goes_on text x bs u e indent = by_first (chars text) (sym (first_chars is_indent indent_ascii text u) ∙ ap (first_passes is_indent) e ∙ indent)
  where
    by_first : (cs : List ℕ) → first_passes is_indent cs ≡ true → first_passes is_not_line_end cs ≡ true
    by_first [] h = absurd (false≢true h)
    by_first (c ∷ cs) h = indent_goes_on c h

-- a comment doesn't end in an indent with which a line begins
comment_start : (f : List ℕ) (x : ℕ) (t : List ℕ) → IsUtf8 f → IsLexeme Comment (chars f) → f ≡ x ∷ t → is_indent x ≡ true → ⊥
comment_start f x t u h e indent = by_first (chars f) refl h
  where
    by_first : (cs : List ℕ) → chars f ≡ cs → IsLexeme Comment cs → ⊥
    by_first [] same l = no_empty Comment l
    by_first (c ∷ cs) same l =
        let slash : c ≡ 47 = comment_begins c cs l in
        let one : is_indent x ≡ is_indent c = sym (ap (first_passes is_indent) e) ∙ first_chars is_indent indent_ascii f u ∙ ap (first_passes is_indent) same in
        both_ways (is_indent 47) refl (sym (ap is_indent slash) ∙ sym one ∙ indent)

comment_end : (f y : List ℕ) (x : ℕ) (t : List ℕ) → IsUtf8 f → IsLexeme Comment (chars f) → f ≡ y ++ x ∷ t → all_pass is_indent (x ∷ t) ≡ true → (y ≡ [] → ⊥) → ends_in is_line_end y ≡ true → ⊥
comment_end f y x t u h e indent some line = elim h [ inl l ↦ in_line l | inr b ↦ in_block b ]
  where
    in_block : IsBlockComment (chars f) → ⊥
    in_block b =
        let ends : ends_in is_indent f ≡ true = ap (ends_in is_indent) e ∙ ends_append is_indent y (x ∷ t) (λ n. cc) ∙ ends_pass is_indent (x ∷ t) (λ n. cc) indent in
        both_ways (ends_in is_indent (chars f)) (ap (ends_in is_indent) b.opens ∙ ends_append is_indent (codes "/*" ++ b.body) (codes "*/") (λ n. cc)) (sym (ends_chars is_indent indent_ascii f u) ∙ ends)

    tail_text : IsUtf8 (x ∷ t)
    tail_text = blank_text (x ∷ t) (indent_blank (x ∷ t) indent)

    y_text : IsUtf8 y
    y_text = subst IsUtf8 (ap (take (length y)) e ∙ take_at y (x ∷ t) (length y) refl) (IsUtf8-take f (length y) u (IsCharBoundary-at_seam f y (x ∷ t) e tail_text))

    in_line : IsLineComment (chars f) → ⊥
    in_line l =
        let all : all_pass is_not_line_end (chars y ++ chars (x ∷ t)) ≡ true =
        subst (λ cs. all_pass is_not_line_end cs ≡ true) (sym l.opens ∙ (ap chars e ∙ chars-append y (x ∷ t) y_text)) l.one_line in
        both_ways (ends_in is_line_end (chars y)) (ends_apart is_not_line_end is_line_end (λ n passes. not-true (is_line_end n) passes) (chars y) (pass_parts is_not_line_end (chars y) (chars (x ∷ t)) all).0)
        (sym (ends_chars is_line_end line_end_ascii y y_text) ∙ line)

module _ (F : Fronts) (bytes : List ℕ) (p : Placed Span) (run more : Tokens) (whole : Span) (cs : List Change) (ts : List Token) (lines : AreLines bytes (p ∷ run) whole) where
  -- what is to be shown at the place where the span begins
  abbrev AtStart : Type 0
  AtStart = (pre post : List ℕ) → bytes ≡ pre ++ post → length pre ≡ whole.from → IsUtf8 post → Skipped F bytes pre (p ∷ run) more → Woven F bytes pre post cs ts

  no_comment : (pre f y : List ℕ) (x : ℕ) (t r : List ℕ) → bytes ≡ pre ++ (f ++ r) → IsUtf8 f → IsLexeme Comment (chars f) → f ≡ y ++ x ∷ t → length (pre ++ y) ≡ whole.from
      → length (pre ++ y) + length (x ∷ t) ≤ p.mark.from → all_pass is_indent (x ∷ t) ≡ true → ⊥
  no_comment pre f y x t r e u h is at far indent = elim lines.start [
    | inl own ↦ omega (arith, own, at, far)
    | inr start ↦ elim start [
      | inl first ↦ by_front y is (λ some. absurd (omega (arith, first, at, length-append pre y, some)))
      | inr line ↦ by_front y is (λ some. comment_end f y x t u h is indent (λ none. absurd (omega (arith, ap length none, some))) (sym (line_of some) ∙ line))
    ]
  ]
    where
      by_front : (z : List ℕ) → f ≡ z ++ x ∷ t → (1 ≤ length z → ⊥) → ⊥
      by_front [] same go = comment_start f x t u h same (and_parts (is_indent x) (all_pass is_indent t) indent).0
      by_front (c ∷ z) same go = go (omega arith)

      line_of : 1 ≤ length y → ends_in is_line_end (take whole.from bytes) ≡ ends_in is_line_end y
      line_of some =
          let grouped : bytes ≡ (pre ++ y) ++ ((x ∷ t) ++ r) = e ∙ ap (λ g. pre ++ (g ++ r)) is ∙ grouping pre y (x ∷ t) r in
          ap (ends_in is_line_end) (ap (take whole.from) grouped ∙ take_at (pre ++ y) ((x ∷ t) ++ r) whole.from at) ∙ ends_append is_line_end pre y (λ none. absurd (omega (arith, ap length none, some)))
        where
          grouping : (a b c d : List ℕ) → a ++ ((b ++ c) ++ d) ≡ (a ++ b) ++ (c ++ d)
          grouping a b c d = simp append_assoc

  module _ (go : AtStart) where
    -- the blank in front begins in front of the span, or with it
    in_blank : (i : Item) (is : List Item) (pre post y : List ℕ) (x : ℕ) (t rest : List ℕ) → bytes ≡ pre ++ post → (tiled : Tiled F (length pre) post (i ∷ is)) → i.kind ≡ Blank → placed_of bytes is ≡ p ∷ (run ++ more)
        → tiled.0 ≡ y ++ x ∷ t → length (pre ++ y) ≡ whole.from → all_pass is_indent (x ∷ t) ≡ true → WovenOn F bytes pre post cs ts
    in_blank i is pre post y x t rest e tiled kind placed parts at indent = by_front y parts at
      where
        f : List ℕ
        f = tiled.0

        r : List ℕ
        r = tiled.1

        text : IsUtf8 post
        text = tiled_text F (length pre) post (i ∷ is) tiled

        behind : Skipped F bytes (pre ++ f) (p ∷ run) more
        behind = skip_run is bytes (pre ++ f) r p run more (further bytes pre post f r e tiled.2) (tiled_further F pre f r is tiled.4) placed

        blanks : all_pass is_blank f ≡ true
        blanks = blank_bytes f tiled.3.is_text (subst (λ k. IsLexeme k (chars f)) kind tiled.3.cut.taken.lexeme).1

        by_front : (z : List ℕ) → f ≡ z ++ x ∷ t → length (pre ++ z) ≡ whole.from → WovenOn F bytes pre post cs ts
        by_front [] same at = on (go pre post e (ap length (sym (append-nil pre)) ∙ at) text (sooner bytes pre f (p ∷ run) more behind))
          where
            no_end : first_passes is_not_line_end (chars post) ≡ true
            no_end = goes_on post x (t ++ r) text (tiled.2 ∙ ap (λ g. g ++ r) same) (and_parts (is_indent x) (all_pass is_indent t) indent).0

            on : Woven F bytes pre post cs ts → WovenOn F bytes pre post cs ts
            on w = record { woven = w; line = λ k. no_line k (chars post) (chars (join_pieces w.pieces)) no_end }
        by_front (c ∷ z) same at =
            let rest_of : post ≡ (c ∷ z) ++ ((x ∷ t) ++ r) = tiled.2 ∙ ap (λ g. g ++ r) same ∙ append_assoc (c ∷ z) (x ∷ t) r in
            let whole_is : bytes ≡ (pre ++ c ∷ z) ++ ((x ∷ t) ++ r) = further bytes pre post (c ∷ z) ((x ∷ t) ++ r) e rest_of in
            let over : Skipped F bytes ((pre ++ c ∷ z) ++ (x ∷ t)) (p ∷ run) more = subst (λ g. Skipped F bytes g (p ∷ run) more) (ap (λ g. pre ++ g) same ∙ sym (append_assoc pre (c ∷ z) (x ∷ t))) behind in
            let all = subst (λ bs. all_pass is_blank bs ≡ true) same blanks in
            let tail_text : IsUtf8 ((x ∷ t) ++ r) = IsUtf8-append (x ∷ t) r (blank_text (x ∷ t) (pass_parts is_blank (c ∷ z) (x ∷ t) all).1) (tiled_text F (length pre + length f) r is tiled.4) in
            subst (λ q. WovenOn F bytes pre q cs ts) (sym rest_of)
            (blank_woven bytes pre (c ∷ z) ((x ∷ t) ++ r) cs ts (e ∙ ap (λ q. pre ++ q) rest_of) (λ n. cc) (pass_parts is_blank (c ∷ z) (x ∷ t) all).0
            (go (pre ++ c ∷ z) ((x ∷ t) ++ r) whole_is at tail_text (sooner bytes (pre ++ c ∷ z) (x ∷ t) (p ∷ run) more over)))

    -- the walk over what stands in front
    walk : (items : List Item) (pre post : List ℕ) → bytes ≡ pre ++ post → Tiled F (length pre) post items → placed_of bytes items ≡ p ∷ (run ++ more) → Ahead pre post whole.from p.mark.from
        → WovenOn F bytes pre post cs ts
    walk [] pre post e tiled placed a = absurd cc
    walk (i ∷ is) pre post e tiled placed a = by_kind i.kind refl (λ h b. walk is (pre ++ f) r e_more tiled_more h b)
      where
        f : List ℕ
        f = tiled.0

        r : List ℕ
        r = tiled.1

        e_more : bytes ≡ (pre ++ f) ++ r
        e_more = further bytes pre post f r e tiled.2

        tiled_more : Tiled F (length (pre ++ f)) r is
        tiled_more = tiled_further F pre f r is tiled.4

        Again : Type 0
        Again = placed_of bytes is ≡ p ∷ (run ++ more) → Ahead (pre ++ f) r whole.from p.mark.from → WovenOn F bytes (pre ++ f) r cs ts

        -- the span begins behind the item
        later : (t : List ℕ) → a.before ≡ f ++ t → r ≡ t ++ (a.gap ++ a.rest) → Ahead (pre ++ f) r whole.from p.mark.from
        later t is over =
            let same : length ((pre ++ f) ++ t) ≡ length (pre ++ a.before) = ap length (append_assoc pre f t ∙ ap (λ g. pre ++ g) (sym is)) in
            record { before = t; gap = a.gap; rest = a.rest; parts = over; at = same ∙ a.at; stops = omega (arith, same, a.stops); indent = a.indent }

        parts : f ++ r ≡ a.before ++ (a.gap ++ a.rest)
        parts = sym tiled.2 ∙ a.parts

        -- the span begins within the item, whose rest is of its indent
        far : placed_of bytes is ≡ p ∷ (run ++ more) → (x : ℕ) (t : List ℕ) → f ≡ a.before ++ x ∷ t → length (pre ++ a.before) + length (x ∷ t) ≤ p.mark.from
        far h x t is_f = omega (arith, (first_there F bytes is (pre ++ f) r p (run ++ more) tiled_more h).0, ap length is_f, length-append a.before (x ∷ t), length-append pre a.before, length-append pre f)

        indent : placed_of bytes is ≡ p ∷ (run ++ more) → (x : ℕ) (t : List ℕ) → f ≡ a.before ++ x ∷ t → a.gap ++ a.rest ≡ (x ∷ t) ++ r → all_pass is_indent (x ∷ t) ≡ true
        indent h x t is_f over = pass_front is_indent a.gap a.rest (x ∷ t) r over (omega (arith, far h x t is_f, a.stops)) a.indent

        by_kind : (k : ItemKind) → i.kind ≡ k → Again → WovenOn F bytes pre post cs ts
        by_kind (TokenItem k) kind again =
            let same : placed_at bytes i k ≡ p = head_same _ _ _ _ (sym (placed_token bytes i is k kind) ∙ placed) in
            let here : p.mark.from ≡ length pre = sym (ap (λ (q : Placed Span). q.mark.from) same) ∙ ap (λ (s : Span). s.from) tiled.3.place in
            let start : length pre ≡ whole.from = omega (arith, here, a.at, a.stops, length-append pre a.before) in
            let t : AtToken F bytes pre post (p ∷ (run ++ more)) = record { front = f; rest = r; item = i; items = is; kind = k; whole = e; parts = tiled.2; tile = tiled.3; tiled = tiled.4; is = kind; placed = placed } in
            on_token bytes pre post p (run ++ more) t cs ts (go pre post e start (tiled_text F (length pre) post (i ∷ is) tiled) (skip_run (i ∷ is) bytes pre post p run more e tiled placed))
        by_kind Blank kind again =
            let h = sym (placed_blank bytes i is kind) ∙ placed in
            elim (parted f r a.before (a.gap ++ a.rest) parts) [
              | inl w ↦ gap_woven bytes pre post f r i is cs ts e tiled.2 tiled.3 (blank_none i.kind f kind) (again h (later w.0 w.1 w.2))
              | inr w ↦ in_blank i is pre post a.before w.0 w.1 a.rest e tiled kind h w.2 a.at (indent h w.0 w.1 w.2 w.3)
            ]
        by_kind Comment kind again =
            let h = sym (placed_comment bytes i is kind) ∙ placed in
            elim (parted f r a.before (a.gap ++ a.rest) parts) [
              | inl w ↦ gap_woven bytes pre post f r i is cs ts e tiled.2 tiled.3 (comment_none i.kind f kind) (again h (later w.0 w.1 w.2))
              | inr w ↦ absurd (no_comment pre f a.before w.0 w.1 r (e ∙ ap (λ q. pre ++ q) tiled.2) tiled.3.is_text (subst (λ k. IsLexeme k (chars f)) kind tiled.3.cut.taken.lexeme) w.2 a.at (far h w.0 w.1 w.2)
                  (indent h w.0 w.1 w.2 w.3))
            ]

  -- ---- from the places of the span

  -- of the bytes, from the place where the span begins
  enters : (from : Behind) (items : List Item) (pre post : List ℕ) → bytes ≡ pre ++ post → Tiled F (length pre) post items → placed_of bytes items ≡ p ∷ (run ++ more) → StandsBehind from pre post
      → (whole.from ≡ p.mark.from) ⊎ Suffices from no_indent → length pre ≤ whole.from
  enters from items pre post e tiled placed here (inl own) = omega (arith, own, (first_there F bytes items pre post p (run ++ more) tiled placed).0)
  enters from items pre post e tiled placed here (inr known) = elim (stands_so from no_indent pre post known here) [
    | inl none ↦ absurd (some_post F bytes items (length pre) post p (run ++ more) tiled placed none)
    | inr apart ↦ elim (cases_lt whole.from (length pre)) [ inr le ↦ le | inl lt ↦ absurd (both_ways (ends_in is_indent pre) apart (in_indent lt)) ]
  ]
    where
      in_indent : whole.from < length pre → ends_in is_indent pre ≡ true
      in_indent lt =
          let front : List ℕ = take whole.from pre in
          let b : List ℕ = drop whole.from pre in
          let n : ℕ = p.mark.from - whole.from in
          let pre_is : pre ≡ front ++ b = sym (take-append-drop whole.from pre) in
          let long : length front ≡ whole.from = length-take-le whole.from pre (omega (arith, lt)) in
          let total : length pre ≡ length front + length b = ap length pre_is ∙ length-append front b in
          let some : b ≡ [] → ⊥ = λ none. omega (arith, lt, long, total, ap length none) in
          let bytes_are : bytes ≡ front ++ (b ++ post) = e ∙ ap (λ g. g ++ post) pre_is ∙ append_assoc front b post in
          let left : drop whole.from bytes ≡ b ++ post = ap (drop whole.from) bytes_are ∙ drop_at front (b ++ post) whole.from long in
          let far : length pre ≤ p.mark.from = (first_there F bytes items pre post p (run ++ more) tiled placed).0 in
          let passes : all_pass is_indent b ≡ true = pass_take is_indent b post n (omega (arith, far, long, total)) (subst (λ g. all_pass is_indent (take n g) ≡ true) left lines.indent) in
          ap (ends_in is_indent) pre_is ∙ ends_append is_indent front b some ∙ ends_pass is_indent b some passes

  ahead : (items : List Item) (pre post : List ℕ) → bytes ≡ pre ++ post → Tiled F (length pre) post items → placed_of bytes items ≡ p ∷ (run ++ more) → length pre ≤ whole.from
      → Ahead pre post whole.from p.mark.from
  ahead items pre post e tiled placed le =
      let there = first_there F bytes items pre post p (run ++ more) tiled placed in
      let n : ℕ = whole.from - length pre in
      let m : ℕ = p.mark.from - whole.from in
      let before : List ℕ = take n post in
      let left : List ℕ = drop n post in
      let long : length before ≡ n = length-take-le n post (omega (arith, le, there.1, lines.begins)) in
      let at : length (pre ++ before) ≡ whole.from = length-append pre before ∙ omega (arith, long, le) in
      let post_is : post ≡ before ++ left = sym (take-append-drop n post) in
      let total : length post ≡ length before + length left = ap length post_is ∙ length-append before left in
      let bytes_are : bytes ≡ (pre ++ before) ++ left = further bytes pre post before left e post_is in
      let left_is : drop whole.from bytes ≡ left = ap (drop whole.from) bytes_are ∙ drop_at (pre ++ before) left whole.from at in
      let wide : length (take m left) ≡ m = length-take-le m left (omega (arith, le, there.1, long, total)) in
      record {
        before = before;
        gap = take m left;
        rest = drop m left;
        parts = post_is ∙ ap (λ g. before ++ g) (sym (take-append-drop m left));
        at = at;
        stops = omega (arith, at, wide, lines.begins);
        indent = subst (λ g. all_pass is_indent (take m g) ≡ true) left_is lines.indent;
      }

-- ---- a run is replaced with its lines

module _ (F : Fronts) (bytes : List ℕ) where
  -- Where the place stands so, lexemes may come in place of the span, in front of what stands behind
  -- it and behind what stands in front; and the place behind it stands so.
  pub record MayReplaceLines (from : Behind) (run : Tokens) (whole : Span) (ps : List Piece) (to : Behind) : Type 0 where
    pub lines : AreLines bytes run whole
    pub enters : (whole.from ≡ first_from run) ⊎ Suffices from no_indent
    pub cut : AreCutBefore ps (chars (drop whole.to bytes))
    pub last : LastIs (MayFront F whole.to) ps
    pub no_comment : LastIs (λ k. k ≡ Comment → ⊥) ps
    pub come : (old new : List ℕ) → YieldsAt F whole.to (chars (drop whole.to bytes)) new → YieldsAt F whole.from old (chars_in ps ++ new)
    pub stands : StandsBehind to (take whole.to bytes) (drop whole.to bytes)

  pub lines_weave : (from to : Behind) (p : Placed Span) (run : Tokens) (whole : Span) (ps : List Piece) → MayReplaceLines from (p ∷ run) whole ps to
      → Weaves F bytes from (p ∷ run) (change whole (join_pieces ps) ∷ []) (tokens_in ps) to
  lines_weave from to p run whole ps may more ds us w items pre post e tiled placed here =
      (walk F bytes p run more whole (change whole (join_pieces ps) ∷ ds) (tokens_in ps ++ us) may.lines put items pre post e tiled placed
      (ahead F bytes p run more whole (change whole (join_pieces ps) ∷ ds) (tokens_in ps ++ us) may.lines items pre post e tiled placed
      (enters F bytes p run more whole (change whole (join_pieces ps) ∷ ds) (tokens_in ps ++ us) may.lines from items pre post e tiled placed here may.enters))).woven
    where
      put : AtStart F bytes p run more whole (change whole (join_pieces ps) ∷ ds) (tokens_in ps ++ us) may.lines
      put pre0 post0 e0 at0 u0 s =
          let lines = may.lines in
          let n : ℕ = whole.to - last_to (p ∷ run) in
          let gone : List ℕ = take n s.rest in
          let total : length bytes ≡ length s.front + length s.rest = ap length s.whole ∙ length-append s.front s.rest in
          let long : length gone ≡ n = length-take-le n s.rest (omega (arith, total, s.last, lines.ends, lines.within)) in
          let left : drop (last_to (p ∷ run)) bytes ≡ s.rest = ap (drop (last_to (p ∷ run))) s.whole ∙ drop_at s.front s.rest (last_to (p ∷ run)) (sym s.last) in
          let b = back F bytes more s.front s.rest s.after gone (drop n s.rest) s.whole s.tiled s.placed (sym (take-append-drop n s.rest)) (subst (λ g. all_pass is_blank (take n g) ≡ true) left lines.blank) in
          let stop : length b.front ≡ whole.to = b.at ∙ omega (arith, long, s.last, lines.ends) in
          let front_is : take whole.to bytes ≡ b.front = ap (take whole.to) b.whole ∙ take_at b.front b.rest whole.to stop in
          let rest_is : drop whole.to bytes ≡ b.rest = ap (drop whole.to) b.whole ∙ drop_at b.front b.rest whole.to stop in
          let behind = w b.after b.front b.rest b.whole b.tiled b.placed (subst (λ g. StandsBehind to g b.rest) front_is (subst (StandsBehind to (take whole.to bytes)) rest_is may.stands)) in
          let new : List ℕ = chars (join_pieces behind.pieces) in
          let cut : AreCutBefore ps (chars b.rest) = subst (λ g. AreCutBefore ps (chars g)) rest_is may.cut in
          let there : YieldsAt F whole.to (chars b.rest) new = subst (λ k. YieldsAt F k (chars b.rest) new) stop behind.yields in
          let yields : YieldsAt F whole.from (chars post0) (chars_in ps ++ new) = may.come (chars post0) new (subst (λ g. YieldsAt F whole.to (chars g) new) (sym rest_is) there) in
          let g = pieces_front ps (chars b.rest) (join_pieces behind.pieces) us cut there may.last may.no_comment (woven_glued behind) in
          let made = put_pieces bytes pre0 post0 b.front b.rest ps (chars b.rest) ds us e0 b.whole (omega (arith, at0, stop, s.beyond, s.last, lines.ends, long)) u0 (tiled_text F (length b.front) b.rest b.after b.tiled) cut behind
          (subst (λ k. YieldsAt F k (chars post0) (chars_in ps ++ new)) (sym at0) yields) g in
          subst (λ k. Woven F bytes pre0 post0 (change (record { from = whole.from; to = k }) (join_pieces ps) ∷ ds) (tokens_in ps ++ us)) stop
          (subst (λ k. Woven F bytes pre0 post0 (change (record { from = k; to = length b.front }) (join_pieces ps) ∷ ds) (tokens_in ps ++ us)) at0 made)

  -- the run goes with its lines: what may stand in front of them may stand in front of what comes behind
  pub record MayGoWithLines (from : Behind) (run : Tokens) (whole : Span) (to : Behind) : Type 0 where
    pub lines : AreLines bytes run whole
    pub enters : (whole.from ≡ first_from run) ⊎ Suffices from no_indent
    pub fronts : (k : TokenKind) → F whole.from k → F whole.to k
    pub ends : (k : TokenKind) → F whole.from k → EndsBefore (TokenItem k) (chars (drop whole.to bytes))
    pub no_dot : first_passes (λ c. c == 46) (chars (drop whole.to bytes)) ≡ false
    pub stands : StandsBehind to (take whole.to bytes) (drop whole.to bytes)

  pub erase_lines : (from to : Behind) (p : Placed Span) (run : Tokens) (whole : Span) → MayGoWithLines from (p ∷ run) whole to → Weaves F bytes from (p ∷ run) (change whole [] ∷ []) [] to
  erase_lines from to p run whole may =
      lines_weave from to p run whole [] (record {
        lines = may.lines;
        enters = may.enters;
        cut = tt;
        last = tt;
        no_comment = tt;
        come = λ old new y. gone_yields F bytes whole.from whole.to old (chars (drop whole.to bytes)) new may.fronts may.ends may.no_dot y;
        stands = may.stands;
      })
