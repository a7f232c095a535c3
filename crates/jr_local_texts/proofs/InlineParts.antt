-- Inline local: the declaration, the list behind it, and the reads among the file's tokens.
use Rattle.std.proofs.Common.{◌≡◌, inl, inr, ℕ, ◌+◌, ◌<◌, ◌≤◌, true, false, List, [], ◌∷◌, ◌++◌, length, drop, Some, refl, sym, ap, ◌∙◌, subst, arith}
use Rattle.std.specs.Str.{chars}
use Rattle.std.proofs.lemmas.Bool.{both_ways}
use Rattle.std.proofs.lemmas.List.{append_assoc, length-append, drop_at}
use Rattle.std.proofs.lemmas.Str.{chars-append}
use Rattle.jr_text.specs.declared.spans.Span.{Span}
use Rattle.jr_lex.specs.declared.items.Item.{Item}
use Rattle.jr_lex.specs.declared.items.ItemKind.{ItemKind}
use Rattle.jr_lex.specs.declared.items.ItemKind.TheVariants.{Token as TokenItem, Blank, Comment}
use Rattle.jr_lex.specs.declared.items.TokenKind.{TokenKind}
use Rattle.jr_lex.specs.declared.items.TokenKind.TheVariants.{Word}
use Rattle.jr_lex.specs.Characters.{is_word_start, is_word_part, first_passes}
use Rattle.jr_lex.specs.Lexemes.{IsLexeme}
use Rattle.jr_lex.proofs.FirstLaws.{word_start-part}
use Rattle.jr_ast.specs.Marks.{exp_mark, stmt_mark}
use Rattle.jr_grammar.specs.Tokens.{Token, word, keyword, integer, text as string_token, symbol, Placed, placed_of, kinds}
use Rattle.jr_grammar.specs.Layout.{itself}
use Rattle.jr_grammar.specs.Stands.{Tokens, first_from, span_of, InOrder, Stands}
use Rattle.jr_grammar.specs.Spelling.{toks}
use Rattle.jr_grammar.specs.ExpressionLayout.{exp_layout}
use Rattle.jr_grammar.specs.StatementLayout.{stmt_layout, stmts_layout}
use Rattle.jr_grammar.proofs.Layouts.{spans_from-span}
use Rattle.jr_members.specs.WrittenLaws.{MembersAreWritten}
use Rattle.jr_bind.specs.Programs.{Program, IsProgram}
use Rattle.jr_layout.specs.Layouts.{AreLinesOf}
use Rattle.jr_rewrite.specs.Woven.{Tiled}
use Rattle.jr_rewrite.proofs.Firsts.{word_first}
use Rattle.jr_rewrite.proofs.Skipping.{placed_blank, placed_comment, Skipped, skip_run}
use Rattle.jr_rewrite.proofs.Stepping.{IsSome}
use Rattle.jr_rewrite.proofs.Steps.{IsWord, EndInWord}
use Rattle.jr_rewrite.proofs.ExpressionSteps.{exp_some}
use Rattle.jr_rewrite.proofs.WholeLines.{StartsLine}
use Rattle.jr_local.specs.Texts.{EndsToken}
use Rattle.jr_local.specs.Inlining.{Declared, element, Naming}
use Rattle.jr_local.specs.Inlined.{Found}
use Rattle.jr_moved_texts.specs.Spaces.{kind_of, ending_at}
use Rattle.jr_moved_texts.specs.Moved.{anywhere}
use Rattle.jr_moved_texts.proofs.Tiling.{text_tiled, some_lexeme}
use Rattle.jr_moved_texts.proofs.MovedRuns.{not_before}
use Rattle.jr_moved_texts.proofs.Boundaries.{some_width, token_place, behind_run, behind_others, in_front, FromToken, from_token}
use Rattle.jr_moved_texts.proofs.StandingPieces.{PieceStands, piece_stands, piece_kinds}
use Rattle.jr_local_texts.proofs.StandingParts.{Among, among_first, LastIs, ListFront, ElementWithin, stmt_among, list_among, stmt_last}
use Rattle.jr_local_texts.proofs.StandingBodies.{exp_mark_is, stmt_mark_is, element_stands}
use Rattle.jr_local_texts.proofs.LineEnds.{no_token_before_line, starts_line}
use Rattle.jr_local_texts.proofs.ExtractSpots.{IsOpen, open_front, token_there}

module _ (p : Program Span) (program : IsProgram itself (λ m b. Unit {0}) p) (written : MembersAreWritten Span) (file at : ℕ) (f : Found p file at) where
  abbrev t : Declared p file f.asked.key
  t = f.asked.declared

  pub held : ElementWithin (element t) (placed_of f.text f.items)
  held = element_stands p program written file f.text f.items f.is_text f.lexes t.body t.has t.declares.way

  -- the declaration, and what stands behind it in its list
  abbrev parts : InOrder (Stands (stmt_layout (element t).stmt)) (InOrder (Stands (stmts_layout (element t).rest)) (λ qs. qs ≡ [])) held.among.part
  parts = held.among.stands

  grouped : (a b c d e : Tokens) → a ++ ((b ++ (c ++ d)) ++ e) ≡ (a ++ b) ++ (c ++ (d ++ e))
  grouped a b c d e = simp append_assoc

  -- ---- the initializer

  init_among : Among (Stands (exp_layout t.init)) held.among.part
  init_among = among_first held.among.part parts (stmt_among t.init (element t).stmt (element t).way)

  pub init_stands : PieceStands f.text f.items t.init
  init_stands = piece_stands f.text f.items t.init (held.among.front ++ init_among.front) init_among.part (init_among.back ++ held.among.back) f.lexes
      (held.among.whole ∙ ap (λ y. held.among.front ++ (y ++ held.among.back)) init_among.whole ∙ grouped held.among.front init_among.front init_among.part init_among.back held.among.back) init_among.stands

  -- ---- a read

  read_among : (n : Naming t) → Among (Stands (exp_layout n.at)) parts.back
  read_among n = among_first parts.back parts.rest (list_among n.at (element t).rest n.way)

  pub read_stands : (n : Naming t) → PieceStands f.text f.items n.at
  read_stands n =
      let a = read_among n in
      piece_stands f.text f.items n.at (held.among.front ++ (parts.front ++ a.front)) a.part (a.back ++ held.among.back) f.lexes
      (held.among.whole ∙ ap (λ y. held.among.front ++ (y ++ held.among.back)) (parts.whole ∙ ap (λ y. parts.front ++ y) a.whole) ∙ further held.among.front parts.front a.front a.part a.back held.among.back) a.stands
    where
      further : (a b c d e g : Tokens) → a ++ ((b ++ (c ++ (d ++ e))) ++ g) ≡ (a ++ (b ++ c)) ++ (d ++ (e ++ g))
      further a b c d e g = simp append_assoc

  -- ---- the declaration's own tokens

  pub decl_some : (q : Placed Span) × (qs : Tokens) × (parts.front ≡ q ∷ qs)
  decl_some = by parts.front (stmt_last (element t).stmt parts.front parts.first)
    where
      by : (ps : Tokens) → LastIs ListFront ps → (q : Placed Span) × (qs : Tokens) × (ps ≡ q ∷ qs)
      by [] l = absurd l
      by (q ∷ qs) l = (q, qs, refl)

  abbrev more : Tokens
  more = parts.back ++ held.among.back

  pub decl_whole : placed_of f.text f.items ≡ held.among.front ++ decl_some.0 ∷ (decl_some.1 ++ more)
  decl_whole = held.among.whole ∙ ap (λ y. held.among.front ++ (y ++ held.among.back)) (parts.whole ∙ ap (λ y. y ++ parts.back) decl_some.2)
      ∙ ap (λ y. held.among.front ++ y) (append_assoc (decl_some.0 ∷ decl_some.1) parts.back held.among.back)

  pub decl_there : FromToken f.text 0 f.text decl_some.0 (decl_some.1 ++ more)
  decl_there = from_token f.text f.items 0 f.text held.among.front decl_some.0 (decl_some.1 ++ more) (text_tiled f.text f.items f.lexes) decl_whole

  here : 0 + length decl_there.front ≡ length decl_there.front
  here = omega arith

  pub decl_skipped : Skipped anywhere f.text decl_there.front (decl_some.0 ∷ decl_some.1) more
  decl_skipped = skip_run decl_there.items_there f.text decl_there.front decl_there.rest decl_some.0 decl_some.1 more decl_there.whole
      (subst (λ n. Tiled anywhere n decl_there.rest decl_there.items_there) here decl_there.tiled) decl_there.placed

  abbrev decl : Span
  decl = stmt_mark (element t).stmt

  pub decl_mark : decl ≡ span_of (decl_some.0 ∷ decl_some.1)
  decl_mark = stmt_mark_is (element t).stmt parts.front parts.first ∙ ap span_of decl_some.2

  pub decl_narrow : decl.from < decl.to
  decl_narrow =
      let b = behind_run f.text decl_there.items_there (0 + length decl_there.front) decl_there.rest decl_some.0 decl_some.1 more decl_there.tiled decl_there.placed in
      subst (λ (s : Span). s.from < s.to) (sym decl_mark) (omega (arith, b.beyond, decl_there.stands))

  -- a read stands behind it
  pub read_behind : (n : Naming t) → decl.to ≤ (exp_mark n.at).from
  read_behind n = by a.front a.part a.whole (exp_mark_is n.at a.part a.stands) (exp_some itself 0 n.at a.part (subst (λ l. Stands l a.part) (sym (spans_from-span 0 (exp_layout n.at))) a.stands))
    where
      a : Among (Stands (exp_layout n.at)) parts.back
      a = read_among n

      to : decl.to ≡ length decl_skipped.front
      to = ap (λ (s : Span). s.to) decl_mark ∙ decl_skipped.last

      by : (front part : Tokens) → parts.back ≡ front ++ (part ++ a.back) → exp_mark n.at ≡ span_of part → IsSome part → decl.to ≤ (exp_mark n.at).from
      by [] part e mark some =
          let first : (exp_mark n.at).from ≡ some.0.mark.from = ap (λ (m : Span). m.from) mark ∙ ap first_from some.2 in
          let placed : placed_of f.text decl_skipped.after ≡ some.0 ∷ (some.1 ++ a.back) ++ held.among.back = decl_skipped.placed ∙ ap (λ y. y ++ held.among.back) (e ∙ ap (λ y. y ++ a.back) some.2) in
          omega (arith, to, first, not_before f.text decl_skipped.after (length decl_skipped.front) decl_skipped.rest some.0 ((some.1 ++ a.back) ++ held.among.back) decl_skipped.tiled placed)
      by (q ∷ front) part e mark some =
          let first : (exp_mark n.at).from ≡ some.0.mark.from = ap (λ (m : Span). m.from) mark ∙ ap first_from some.2 in
          let placed : placed_of f.text decl_skipped.after ≡ q ∷ (front ++ some.0 ∷ (some.1 ++ (a.back ++ held.among.back))) =
          decl_skipped.placed ∙ ap (λ y. y ++ held.among.back) (e ∙ ap (λ y. q ∷ (front ++ (y ++ a.back))) some.2) ∙ ap (λ y. q ∷ y) (grouping front (some.0 ∷ some.1) a.back held.among.back) in
          omega (arith, to, first, behind_others f.text decl_skipped.after (length decl_skipped.front) decl_skipped.rest q front some.0 (some.1 ++ (a.back ++ held.among.back)) decl_skipped.tiled placed)
        where
          grouping : (a b c d : Tokens) → (a ++ (b ++ c)) ++ d ≡ a ++ (b ++ (c ++ d))
          grouping a b c d = simp append_assoc

  -- ---- no two reads touch

  pub read_narrow : (n : Naming t) → (exp_mark n.at).from < (exp_mark n.at).to
  read_narrow n =
      let s = read_stands n in
      subst (λ (m : Span). m.from < m.to) (sym (exp_mark_is n.at (s.first ∷ s.run) s.stands)) s.narrow

  one_word : (n : Naming t) → (let s = read_stands n in IsWord s.first.token × (s.run ≡ []))
  one_word n =
      let s = read_stands n in
      let are : kinds (s.first ∷ s.run) ≡ word n.names.word.text ∷ [] = piece_kinds n.at (s.first ∷ s.run) s.stands ∙ ap toks n.names.is in
      (is_word s.first.token n.names.word.text (head_of _ _ _ _ are), no_more s.run (tail_of _ _ _ _ are))
    where
      head_of : (x y : Token) (xs ys : List Token) → x ∷ xs ≡ y ∷ ys → x ≡ y
      head_of x y xs ys e = cc

      tail_of : (x y : Token) (xs ys : List Token) → x ∷ xs ≡ y ∷ ys → xs ≡ ys
      tail_of x y xs ys e = cc

      is_word : (x : Token) (text : List ℕ) → x ≡ word text → IsWord x
      is_word x text e = subst IsWord (sym e) tt

      no_more : (qs : Tokens) → kinds qs ≡ [] → qs ≡ []
      no_more [] e = refl
      no_more (q ∷ qs) e = absurd (let none : List Token = [] in let no : q.token ∷ kinds qs ≡ none = e in cc)

  word_kind : (x : Token) → IsWord x → kind_of x ≡ Word
  word_kind (word w) h = refl
  word_kind (keyword k) h = absurd h
  word_kind (integer n) h = absurd h
  word_kind (string_token s) h = absurd h
  word_kind (symbol s) h = absurd h

  -- a word begins at its place
  word_begins : (all : List ℕ) (items : List Item) (place : ℕ) (bytes : List ℕ) (q : Placed Span) (qs : Tokens) → Tiled anywhere place bytes items → placed_of all items ≡ q ∷ qs → q.mark.from ≡ place → IsWord q.token
      → first_passes is_word_part (chars bytes) ≡ false → ⊥
  word_begins all [] place bytes q qs tiled placed from is stops = (let none : Tokens = [] in let e : none ≡ q ∷ qs = placed in cc)
  word_begins all (i ∷ is) place bytes q qs tiled placed from is_word stops = by_kind i.kind refl
    where
      wide : 0 < length tiled.0
      wide = some_width tiled.0 (some_lexeme tiled.3)

      behind : placed_of all is ≡ q ∷ qs → ⊥
      behind same = omega (arith, from, wide, not_before all is (place + length tiled.0) tiled.1 q qs tiled.4 same)

      text : chars bytes ≡ chars tiled.0 ++ chars tiled.1
      text = ap chars tiled.2 ∙ chars-append tiled.0 tiled.1 tiled.3.is_text

      part_first : (cs : List ℕ) → first_passes is_word_start cs ≡ true → first_passes is_word_part cs ≡ true
      part_first [] h = h
      part_first (c ∷ cs) h = word_start-part c h

      by_kind : (of : ItemKind) → i.kind ≡ of → ⊥
      by_kind (TokenItem of) e =
          let word_of : of ≡ Word = sym (token_place all i is of q qs e placed).1 ∙ word_kind q.token is_word in
          let lexeme : IsLexeme (TokenItem Word) (chars tiled.0) = subst (λ x. IsLexeme x (chars tiled.0)) (e ∙ ap TokenItem word_of) tiled.3.cut.taken.lexeme in
          both_ways (first_passes is_word_part (chars bytes)) stops (ap (first_passes is_word_part) text ∙ part_first (chars tiled.0 ++ chars tiled.1) (word_first (chars tiled.0) (chars tiled.1) lexeme))
      by_kind Blank e = behind (sym (placed_blank all i is e) ∙ placed)
      by_kind Comment e = behind (sym (placed_comment all i is e) ∙ placed)

  pub reads_apart : (n o : Naming t) → (exp_mark o.at).to ≡ (exp_mark n.at).from → ⊥
  reads_apart n o touch =
      let s = read_stands n in
      let r = read_stands o in
      let skipped = skip_run r.place.items f.text r.place.pre r.place.post r.first r.run r.place.more r.place.whole r.place.tiled r.place.placed in
      let word_end : EndInWord (r.first ∷ r.run) = subst (λ qs. EndInWord (r.first ∷ qs)) (sym (one_word o).1) (one_word o).0 in
      let to : (exp_mark o.at).to ≡ length skipped.front = ap (λ (m : Span). m.to) (exp_mark_is o.at (r.first ∷ r.run) r.stands) ∙ skipped.last in
      let from : (exp_mark n.at).from ≡ length s.place.pre = ap (λ (m : Span). m.from) (exp_mark_is n.at (s.first ∷ s.run) s.stands) ∙ s.place.from in
      let same : skipped.rest ≡ s.place.post = sym (drop_at skipped.front skipped.rest (length s.place.pre) (sym to ∙ touch ∙ from)) ∙ ap (drop (length s.place.pre)) (sym skipped.whole ∙ s.place.whole) ∙ drop_at s.place.pre s.place.post (length s.place.pre) refl in
      word_begins f.text s.place.items (length s.place.pre) s.place.post s.first (s.run ++ s.place.more) s.place.tiled s.place.placed s.place.from (one_word n).0
      (subst (λ b. first_passes is_word_part (chars b) ≡ false) same (skipped.stops word_end))

  -- ---- what stands in front of the declaration

  decl_front : (k : TokenKind) → EndsToken p file decl.from k → IsOpen k
  decl_front k token =
      let ends = token_there p file decl.from k f.text f.items f.is_text f.lexes token in
      open_front k held.among.front (in_front f.text f.items 0 f.text held.among.front decl_some.0 (decl_some.1 ++ more) k (text_tiled f.text f.items f.lexes) decl_whole
      (subst (λ m. ending_at m f.items ≡ Some k) (ap (λ (s : Span). s.from) decl_mark) ends)) held.front

  -- where the lines go, no token ends
  lines_front : (k : TokenKind) → AreLinesOf f.text decl f.gone → EndsToken p file f.gone.from k → ⊥
  lines_front k lines token =
      let ends = token_there p file f.gone.from k f.text f.items f.is_text f.lexes token in
      no_token_before_line f.text f.items f.gone.from k (text_tiled f.text f.items f.lexes) (lines_start lines) ends
    where
      lines_start : AreLinesOf f.text decl f.gone → StartsLine f.text f.gone.from
      lines_start lines = starts_line f.text f.gone.from (omega (arith, lines.front.ordered, decl_within)) lines.front.start
        where
          decl_within : decl.from ≤ length f.text
          decl_within = omega (arith, ap (λ (s : Span). s.from) decl_mark, decl_there.stands, ap length decl_there.whole, length-append decl_there.front decl_there.rest)

  -- a token in front of what goes may have anything behind it
  pub gone_front : (k : TokenKind) → EndsToken p file f.gone.from k → IsOpen k
  gone_front k token = elim f.is_gone [
    | inl lines ↦ absurd (lines_front k lines token)
    | inr own ↦ decl_front k (subst (λ (s : Span). EndsToken p file s.from k) own.1 token)
  ]

  pub gone_behind : (f.gone.from ≤ decl.from) × (decl.to ≤ f.gone.to)
  gone_behind = elim f.is_gone [
    | inl lines ↦ (lines.front.ordered, lines_to lines)
    | inr own ↦ (omega (arith, ap (λ (s : Span). s.from) own.1), omega (arith, ap (λ (s : Span). s.to) own.1))
  ]
    where
      lines_to : AreLinesOf f.text decl f.gone → decl.to ≤ f.gone.to
      lines_to lines = elim lines.back.ends [ inl e ↦ omega (arith, lines.back.ordered, e.1) | inr e ↦ omega (arith, lines.back.ordered, e.2) ]
