-- Lines that go: which places they have, that no token ends where a line begins, and that no dot
-- comes behind what goes.
use Rattle.std.proofs.Common.{◌≡◌, ◌≢◌, ◌⊎◌, inl, inr, ℕ, suc, zero, ◌+◌, ◌-◌, ◌<◌, ◌≤◌, ◌==◌, ◌||◌, Bool, true, false, List, [], ◌∷◌, ◌++◌, length, get_or, take, drop, Option, Some, None, refl, sym, ap, ◌∙◌, subst, arith}
use Rattle.std.specs.Str.{chars}
use Rattle.std.proofs.lemmas.Bool.{and_parts, and_from, or_parts, both_ways, eqb-true, eq-eqb, false_from_ne_true, cases_lt}
use Rattle.std.proofs.lemmas.List.{append_assoc, append-nil, length-append, take_at, drop_at}
use Rattle.std.proofs.lemmas.Str.{chars-append}
use Rattle.jr_text.specs.declared.spans.Span.{Span}
use Rattle.jr_lex.specs.declared.items.Item.{Item}
use Rattle.jr_lex.specs.declared.items.ItemKind.{ItemKind}
use Rattle.jr_lex.specs.declared.items.ItemKind.TheVariants.{Token as TokenItem, Blank, Comment}
use Rattle.jr_lex.specs.declared.items.TokenKind.{TokenKind}
use Rattle.jr_lex.specs.declared.items.TokenKind.TheVariants.{Word, Keyword, Int, Text, Mark}
use Rattle.jr_lex.specs.declared.items.Symbol.{Symbol}
use Rattle.jr_lex.specs.declared.items.Symbol.TheVariants as symbol
use Rattle.jr_lex.specs.Characters.{is_blank, is_line_end, is_digit, is_word_part, all_pass, first_passes}
use Rattle.jr_lex.specs.Words.{IsWord as IsWordText}
use Rattle.jr_lex.specs.Symbols.{symbol_text}
use Rattle.jr_lex.specs.Lexemes.{IsLexeme}
use Rattle.jr_lex.proofs.FirstLaws.{word_start-part, digit-blank}
use Rattle.jr_lex.proofs.ScanMeaning.{no_empty}
use Rattle.jr_lex.proofs.WordLaws.{keyword-IsWord}
use Rattle.jr_lex.proofs.BesideLaws.{lets_end}
use Rattle.jr_lex.proofs.OneLexeme.{token_no_blank, comment_no_blank, comment_begins}
use Rattle.jr_grammar.specs.Tokens.{Placed, placed_of}
use Rattle.jr_grammar.specs.Stands.{Tokens, first_from, last_to, span_of}
use Rattle.jr_layout.specs.declared.lines.LineEnd.{LineEnd}
use Rattle.jr_layout.specs.declared.lines.LineEnd.TheVariants.{Lf, Cr, CrLf}
use Rattle.jr_layout.specs.Lines.{HasByte, line_end_bytes, StandsAt, IsLineStart, IsSpaceOrTab}
use Rattle.jr_layout.specs.Layouts.{AreLinesOf}
use Rattle.jr_rewrite.specs.Woven.{Tiled, ends_in, is_indent, BehindNoIndent}
use Rattle.jr_rewrite.proofs.LastBytes.{ends_append, ends_apart, ends_chars, line_end_ascii}
use Rattle.jr_rewrite.proofs.BlankBytes.{parted, pass_parts, blank_ascii, blank_text, blank_chars, blank_bytes, first_chars, pass_slice, ends_there}
use Rattle.jr_rewrite.proofs.Skipping.{placed_blank}
use Rattle.jr_rewrite.proofs.Tiles.{tiled_text}
use Rattle.jr_rewrite.proofs.WholeLines.{StartsLine, AreLines}
use Rattle.jr_moved_texts.specs.Spaces.{kind_of, ending_at}
use Rattle.jr_moved_texts.specs.Moved.{anywhere}
use Rattle.jr_moved_texts.proofs.Tiling.{some_lexeme}
use Rattle.jr_moved_texts.proofs.Boundaries.{some_width, token_place, ends_here, ends_later, token_kind}
use Rattle.jr_moved_texts.proofs.Cores.{lexeme_no_dot}
use Rattle.jr_moved_texts.proofs.ExpressionEnds.{begins_no_dot}

-- ---- a token ends in no line end

blank_in_word : (c : ℕ) → is_blank c ≡ true → is_word_part c ≡ false
blank_in_word c blank = lets_end (TokenItem Word) Blank (c ∷ []) [] refl ((λ e. cc), and_from (is_blank c) true blank refl)

part_no_blank : (c : ℕ) → is_word_part c ≡ true → is_blank c ≡ false
part_no_blank c part = false_from_ne_true (is_blank c) (λ blank. both_ways (is_word_part c) (blank_in_word c blank) part)

no_blank_no_end : (c : ℕ) → is_blank c ≡ false → is_line_end c ≡ false
no_blank_no_end c h = (or_parts ((c == 32) || (c == 9) || (c == 12)) (is_line_end c) h).1

part_no_end : (c : ℕ) → is_word_part c ≡ true → is_line_end c ≡ false
part_no_end c h = no_blank_no_end c (part_no_blank c h)

digit_no_end : (c : ℕ) → is_digit c ≡ true → is_line_end c ≡ false
digit_no_end c h = no_blank_no_end c (digit-blank c h)

word_last : (text : List ℕ) → IsWordText text → ends_in is_line_end text ≡ false
word_last [] h = absurd h
word_last (c ∷ cs) h = ends_apart is_word_part is_line_end part_no_end (c ∷ cs) (and_from (is_word_part c) (all_pass is_word_part cs) (word_start-part c h.0) h.1)

symbol_last : (s : Symbol) → ends_in is_line_end (symbol_text s) ≡ false
symbol_last symbol.OpenParen = refl
symbol_last _ = refl

token_last : (k : TokenKind) (text : List ℕ) → IsLexeme (TokenItem k) text → ends_in is_line_end text ≡ false
token_last Word text h = word_last text h.is_word
token_last (Keyword k) text h = word_last text (subst IsWordText (sym h) (keyword-IsWord k))
token_last (Int n) [] h = absurd h
token_last (Int n) (d ∷ ds) h = ends_apart is_digit is_line_end digit_no_end (d ∷ ds) (and_from (is_digit d) (all_pass is_digit ds) h.0 h.1)
token_last Text text h = ap (ends_in is_line_end) h.quotes ∙ ends_append is_line_end (34 ∷ h.content) (34 ∷ []) (λ e. cc)
token_last (Mark s) text h = ap (ends_in is_line_end) h ∙ symbol_last s

-- where a token ends, no line begins
behind_token : (items : List Item) (pre bytes : List ℕ) (n : ℕ) (k : TokenKind) → Tiled anywhere (length pre) bytes items → ending_at n items ≡ Some k → (0 < n) × (ends_in is_line_end (take n (pre ++ bytes)) ≡ false)
behind_token [] pre bytes n k tiled ends = absurd (let none : Option TokenKind = None in let no : none ≡ Some k = ends in cc)
behind_token (i ∷ is) pre bytes n k tiled ends = by_place (i.span.to == n) refl (λ ne. behind_token is (pre ++ tiled.0) tiled.1 n k further (ends_later i is n k ne ends))
  where
    f : List ℕ
    f = tiled.0

    r : List ℕ
    r = tiled.1

    further : Tiled anywhere (length (pre ++ tiled.0)) tiled.1 is
    further = subst (λ m. Tiled anywhere m tiled.1 is) (sym (length-append pre tiled.0)) tiled.4

    whole : pre ++ bytes ≡ (pre ++ f) ++ r
    whole = ap (λ b. pre ++ b) tiled.2 ∙ sym (append_assoc pre f r)

    wide : 0 < length f
    wide = some_width f (some_lexeme tiled.3)

    to : i.span.to ≡ length pre + length f
    to = ap (λ (s : Span). s.to) tiled.3.place

    here : i.span.to ≡ n → (0 < n) × (ends_in is_line_end (take n (pre ++ bytes)) ≡ false)
    here same =
        let kind : i.kind ≡ TokenItem k = token_kind i.kind k (ends_here i is n k same ends) in
        let lexeme : IsLexeme (TokenItem k) (chars f) = subst (λ x. IsLexeme x (chars f)) kind tiled.3.cut.taken.lexeme in
        let long : length (pre ++ f) ≡ n = omega (arith, same, to, length-append pre f) in (
          omega (arith, same, to, wide),
          ap (ends_in is_line_end) (ap (take n) whole ∙ take_at (pre ++ f) r n long)
              ∙ ends_append is_line_end pre f (λ e. omega (arith, wide, ap length e))
              ∙ ends_chars is_line_end line_end_ascii f tiled.3.is_text
              ∙ token_last k (chars f) lexeme,
        )

    by_place : (b : Bool) → (i.span.to == n) ≡ b → (i.span.to ≢ n → (0 < n) × (ends_in is_line_end (take n ((pre ++ tiled.0) ++ tiled.1)) ≡ false)) → (0 < n) × (ends_in is_line_end (take n (pre ++ bytes)) ≡ false)
    by_place true e again = here (eqb-true i.span.to n e)
    by_place false e again = subst (λ b. (0 < n) × (ends_in is_line_end (take n b) ≡ false)) (sym whole) (again (λ same. both_ways (i.span.to == n) e (eq-eqb i.span.to n same)))

pub no_token_before_line : (text : List ℕ) (items : List Item) (n : ℕ) (k : TokenKind) → Tiled anywhere 0 text items → StartsLine text n → ending_at n items ≡ Some k → ⊥
no_token_before_line text items n k tiled starts ends =
    let b = behind_token items [] text n k tiled ends in
    elim starts [
      | inl first ↦ omega (arith, first, b.0)
      | inr line ↦ both_ways (ends_in is_line_end (take n text)) b.1 line
    ]

-- ---- no dot behind

first_no_dot : (i : Item) (f r : List ℕ) → (k : ItemKind) → i.kind ≡ k → IsLexeme k f → ((u : TokenKind) → k ≡ TokenItem u → begins_no_dot u ≡ true) → first_passes (λ c. c == 46) (f ++ r) ≡ false
first_no_dot i f r (TokenItem u) e l h = lexeme_no_dot u f r (h u refl) l
first_no_dot i [] r Blank e l h = absurd (no_empty Blank l)
first_no_dot i (c ∷ cs) r Blank e l h = blank_no_dot c (and_parts (is_blank c) (all_pass is_blank cs) l.1).0
  where
    blank_no_dot : (c : ℕ) → is_blank c ≡ true → (c == 46) ≡ false
    blank_no_dot c b = false_from_ne_true (c == 46) (λ dot. both_ways (is_blank 46) refl (sym (ap is_blank (eqb-true c 46 dot)) ∙ b))
first_no_dot i [] r Comment e l h = absurd (no_empty Comment l)
first_no_dot i (c ∷ cs) r Comment e l h = ap (λ x. x == 46) (comment_begins c cs l)

blank_kind : (k : ItemKind) (f r : List ℕ) → IsLexeme k f → first_passes is_blank (f ++ r) ≡ true → k ≡ Blank
blank_kind Blank f r h first = refl
blank_kind (TokenItem k) f r h first = absurd (both_ways (first_passes is_blank (f ++ r)) (token_no_blank k f r h) first)
blank_kind Comment f r h first = absurd (both_ways (first_passes is_blank (f ++ r)) (comment_no_blank f r h) first)

-- behind blanks that go no dot comes, where the first token is none
pub no_dot_behind : (all : List ℕ) (items : List Item) (at : ℕ) (rest : List ℕ) (q : Placed Span) (qs : Tokens) → Tiled anywhere at rest items → placed_of all items ≡ q ∷ qs → begins_no_dot (kind_of q.token) ≡ true
    → (gap left : List ℕ) → rest ≡ gap ++ left → all_pass is_blank gap ≡ true → first_passes (λ c. c == 46) (chars left) ≡ false
no_dot_behind all [] at rest q qs tiled placed dot gap left e blank = absurd (let none : Tokens = [] in let no : none ≡ q ∷ qs = placed in cc)
no_dot_behind all (i ∷ is) at rest q qs tiled placed dot [] left e blank =
    ap (first_passes (λ c. c == 46)) (ap chars (sym e ∙ tiled.2) ∙ chars-append tiled.0 tiled.1 tiled.3.is_text)
    ∙ first_no_dot i (chars tiled.0) (chars tiled.1) i.kind refl tiled.3.cut.taken.lexeme (λ u kind. subst (λ x. begins_no_dot x ≡ true) (token_place all i is u q qs kind placed).1 dot)
no_dot_behind all (i ∷ is) at rest q qs tiled placed dot (b ∷ bs) left e blank =
    elim (parted tiled.0 tiled.1 (b ∷ bs) left (sym tiled.2 ∙ e)) [
      | inl h ↦ no_dot_behind all is (at + length tiled.0) tiled.1 q qs tiled.4 (sym (placed_blank all i is kind) ∙ placed) dot h.0 left h.2 (pass_parts is_blank tiled.0 h.0 (subst (λ x. all_pass is_blank x ≡ true) h.1 blank)).1
      | inr h ↦ in_blank h.0 h.1 h.2 h.3
    ]
  where
    f : List ℕ
    f = tiled.0

    first : first_passes is_blank (chars f ++ chars tiled.1) ≡ true
    first = sym (ap (first_passes is_blank) (ap chars tiled.2 ∙ chars-append f tiled.1 tiled.3.is_text)) ∙ sym (first_chars is_blank blank_ascii rest (tiled_text anywhere at rest (i ∷ is) tiled)) ∙ ap (first_passes is_blank) e
        ∙ (and_parts (is_blank b) (all_pass is_blank bs) blank).0

    kind : i.kind ≡ Blank
    kind = blank_kind i.kind (chars f) (chars tiled.1) tiled.3.cut.taken.lexeme first

    blanks : all_pass is_blank f ≡ true
    blanks = blank_bytes f tiled.3.is_text (subst (λ k. IsLexeme k (chars f)) kind tiled.3.cut.taken.lexeme).1

    in_blank : (x : ℕ) (t : List ℕ) → f ≡ (b ∷ bs) ++ x ∷ t → left ≡ (x ∷ t) ++ tiled.1 → first_passes (λ c. c == 46) (chars left) ≡ false
    in_blank x t is_f over =
        let tail = (pass_parts is_blank (b ∷ bs) (x ∷ t) (subst (λ y. all_pass is_blank y ≡ true) is_f blanks)).1 in
        let text : chars left ≡ (x ∷ t) ++ chars tiled.1 = ap chars over ∙ chars-append (x ∷ t) tiled.1 (blank_text (x ∷ t) tail) ∙ ap (λ c. c ++ chars tiled.1) (blank_chars (x ∷ t) tail) in
        ap (first_passes (λ c. c == 46)) text ∙ first_no_dot i (x ∷ t) (chars tiled.1) Blank kind ((λ n. cc), tail) (λ u e. absurd (let no : Blank ≡ TokenItem u = e in cc))

-- ---- the places of lines

line_end_blank : (bytes : List ℕ) (at k : ℕ) (e : LineEnd) → StandsAt bytes at e → at ≤ k → k < at + length (line_end_bytes e) → is_blank (get_or bytes k 0) ≡ true
line_end_blank bytes at k Lf h low high = ap (λ n. is_blank (get_or bytes n 0)) (same at k low high) ∙ ap is_blank h.1
  where
    same : (at k : ℕ) → at ≤ k → k < at + 1 → k ≡ at
    same at k low high = omega (arith, low, high)
line_end_blank bytes at k Cr h low high = ap (λ n. is_blank (get_or bytes n 0)) (same at k low high) ∙ ap is_blank h.0.1
  where
    same : (at k : ℕ) → at ≤ k → k < at + 1 → k ≡ at
    same at k low high = omega (arith, low, high)
line_end_blank bytes at k CrLf h low high = by (at == k) refl
  where
    by : (b : Bool) → (at == k) ≡ b → is_blank (get_or bytes k 0) ≡ true
    by true e = ap (λ n. is_blank (get_or bytes n 0)) (sym (eqb-true at k e)) ∙ ap is_blank h.0.1
    by false e =
        let other : k ≡ at + 1 = next at k low high (λ same. both_ways (at == k) e (eq-eqb at k same)) in
        ap (λ n. is_blank (get_or bytes n 0)) other ∙ ap is_blank h.1.1
      where
        next : (at k : ℕ) → at ≤ k → k < at + 2 → (at ≡ k → ⊥) → k ≡ at + 1
        next at k low high ne = omega (arith, low, high, ne)

end_within : (bytes : List ℕ) (at : ℕ) (e : LineEnd) → StandsAt bytes at e → at + length (line_end_bytes e) ≤ length bytes
end_within bytes at Lf h = omega (arith, h.0)
end_within bytes at Cr h = omega (arith, h.0.0)
end_within bytes at CrLf h = omega (arith, h.1.0)

blank_at : (bytes : List ℕ) (k : ℕ) → IsSpaceOrTab bytes k → is_blank (get_or bytes k 0) ≡ true
blank_at bytes k (inl h) = ap is_blank h.1
blank_at bytes k (inr h) = ap is_blank h.1

indent_at : (bytes : List ℕ) (k : ℕ) → IsSpaceOrTab bytes k → is_indent (get_or bytes k 0) ≡ true
indent_at bytes k (inl h) = ap is_indent h.1
indent_at bytes k (inr h) = ap is_indent h.1

pub starts_line : (bytes : List ℕ) (at : ℕ) → at ≤ length bytes → IsLineStart bytes at → StartsLine bytes at
starts_line bytes at within (inl e) = inl e
starts_line bytes zero within (inr h) = inl refl
starts_line bytes (suc n) within (inr h) = inr (ends_there is_line_end bytes n (omega (arith, within)) ∙ by h.1)
  where
    same : (k : ℕ) → k ≡ suc k - 1
    same k = omega arith

    by : (HasByte bytes (suc n - 1) 10) ⊎ ((HasByte bytes (suc n - 1) 13) × (¬ HasByte bytes (suc n) 10)) → is_line_end (get_or bytes n 0) ≡ true
    by (inl lf) = ap (λ k. is_line_end (get_or bytes k 0)) (same n) ∙ ap is_line_end lf.1
    by (inr cr) = ap (λ k. is_line_end (get_or bytes k 0)) (same n) ∙ ap is_line_end cr.0.1

-- of a run with these lines
module _ (bytes : List ℕ) (run : Tokens) (whole : Span) (lines : AreLinesOf bytes (span_of run) whole) (ordered : first_from run ≤ last_to run) (within : last_to run ≤ length bytes) where
  stop_within : whole.to ≤ length bytes
  stop_within = elim lines.back.ends [
    | inl e ↦ omega (arith, e.0, e.1)
    | inr e ↦ omega (arith, end_within bytes lines.back.middle e.0 e.1, e.2)
  ]

  beyond : lines.back.middle ≤ whole.to
  beyond = elim lines.back.ends [ inl e ↦ omega (arith, e.1) | inr e ↦ omega (arith, e.2) ]

  blanks : (k : ℕ) → last_to run ≤ k → k < whole.to → is_blank (get_or bytes k 0) ≡ true
  blanks k low high = elim (cases_lt k lines.back.middle) [
    | inl lt ↦ blank_at bytes k (lines.back.blanks k low lt)
    | inr le ↦ elim lines.back.ends [
      | inl e ↦ absurd (omega (arith, le, high, e.1))
      | inr e ↦ line_end_blank bytes lines.back.middle k e.0 e.1 le (omega (arith, high, e.2))
    ]
  ]

  pub are_lines : AreLines bytes run whole
  are_lines = record {
    begins = lines.front.ordered;
    ends = omega (arith, lines.back.ordered, beyond);
    within = stop_within;
    indent = pass_slice is_indent bytes whole.from (first_from run) lines.front.ordered (omega (arith, ordered, within)) (λ k low high. indent_at bytes k (lines.front.blanks k low high));
    blank = pass_slice is_blank bytes (last_to run) whole.to (omega (arith, lines.back.ordered, beyond)) stop_within blanks;
    start = inr (starts_line bytes whole.from (omega (arith, lines.front.ordered, ordered, within)) lines.front.start);
  }

  -- behind them the text is at its end, or a line begins
  pub stands_behind : BehindNoIndent (take whole.to bytes) (drop whole.to bytes)
  stands_behind = elim lines.back.ends [
    | inl e ↦ inl (drop_all (omega (arith, e.0, e.1)))
    | inr e ↦ inr (behind e.0 e.1 e.2)
  ]
    where
      drop_all : length bytes ≡ whole.to → drop whole.to bytes ≡ []
      drop_all l = subst (λ n. drop n bytes ≡ []) l (ap (drop (length bytes)) (sym (append-nil bytes)) ∙ drop_at bytes [] (length bytes) refl)

      last_byte : (n : ℕ) → n < length bytes → is_indent (get_or bytes n 0) ≡ false → (m : ℕ) → m ≡ suc n → ends_in is_indent (take m bytes) ≡ false
      last_byte n l h m e = subst (λ k. ends_in is_indent (take k bytes) ≡ false) (sym e) (ends_there is_indent bytes n l ∙ h)

      behind : (e : LineEnd) → StandsAt bytes lines.back.middle e → whole.to ≡ lines.back.middle + length (line_end_bytes e) → ends_in is_indent (take whole.to bytes) ≡ false
      behind Lf h to = last_byte lines.back.middle h.0 (ap is_indent h.1) whole.to (to ∙ omega arith)
      behind Cr h to = last_byte lines.back.middle h.0.0 (ap is_indent h.0.1) whole.to (to ∙ omega arith)
      behind CrLf h to = last_byte (lines.back.middle + 1) h.1.0 (ap is_indent h.1.1) whole.to (to ∙ omega arith)
