-- Inline local: the declaration goes, and what stands behind it takes its place.
use Rattle.std.proofs.Common.{◌≡◌, inl, inr, ℕ, ◌+◌, ◌<◌, ◌-◌, ◌≤◌, ◌==◌, true, false, List, [], ◌∷◌, ◌++◌, length, take, drop, Option, Some, None, refl, sym, ap, ◌∙◌, subst, arith}
use Rattle.std.specs.Prelude.{slice_range}
use Rattle.std.specs.Str.{chars}
use Rattle.std.proofs.lemmas.List.{append_assoc, append-nil, length-append, drop_at, take-append-drop, length-take-le}
use Rattle.jr_text.specs.declared.spans.Span.{Span}
use Rattle.jr_lex.specs.declared.items.ItemKind.TheVariants.{Token as TokenItem}
use Rattle.jr_lex.specs.declared.items.TokenKind.{TokenKind}
use Rattle.jr_lex.specs.declared.items.Symbol.TheVariants.{CloseBrace}
use Rattle.jr_lex.specs.declared.items.Symbol.TheVariants as symbol_name
use Rattle.jr_lex.specs.Characters.{is_blank, all_pass, first_passes}
use Rattle.jr_lex.specs.Beside.{EndsBefore}
use Rattle.jr_ast.specs.Tree as tree
use Rattle.jr_ast.specs.StatementTree as statement
use Rattle.jr_ast.specs.Marks.{exp_mark, stmt_mark}
use Rattle.jr_grammar.specs.Tokens.{Token, word, symbol, Placed, placed_of, kinds}
use Rattle.jr_grammar.specs.Layout.{itself, spans_from}
use Rattle.jr_grammar.specs.Stands.{Tokens, last_to, span_of, InOrder, Stands}
use Rattle.jr_grammar.specs.Spelling.{toks, type_toks}
use Rattle.jr_grammar.specs.StatementSpelling.{stmt_toks, stmts_toks}
use Rattle.jr_grammar.specs.StatementLayout.{stmt_layout, stmts_layout}
use Rattle.jr_grammar.proofs.Layouts.{spans_from-span, stands_laid}
use Rattle.jr_grammar.proofs.StatementLayouts.{stmt_laid}
use Rattle.jr_table.specs.Context.{Context, after, locals_in}
use Rattle.jr_members.specs.WrittenLaws.{MembersAreWritten}
use Rattle.jr_bind.specs.Programs.{Program, IsProgram}
use Rattle.jr_layout.specs.Layouts.{AreLinesOf}
use Rattle.jr_images.specs.TextLaws.{RowsAreNamed}
use Rattle.jr_rewrite.specs.Rewritten.{Rewritten, change}
use Rattle.jr_rewrite.specs.Spots.{spotted}
use Rattle.jr_rewrite.specs.SuitableSpots.{AreSuitableSpots}
use Rattle.jr_rewrite.specs.Woven.{Fronts, Weaves, anything, no_indent, token_to}
use Rattle.jr_rewrite.proofs.Skipping.{Skipped}
use Rattle.jr_rewrite.proofs.Steps.{Stepped}
use Rattle.jr_rewrite.proofs.StatementSteps.{list_steps}
use Rattle.jr_rewrite.proofs.SpotWeaving.{woven_so, both_weave, list_weaves, MayGo, erase_weaves}
use Rattle.jr_rewrite.proofs.WholeLines.{AreLines, erase_lines}
use Rattle.jr_local.specs.Texts.{EndsToken}
use Rattle.jr_local.specs.Inlining.{Declared, element}
use Rattle.jr_local.specs.Inlined.{left_out, choices, read_spot, EndsCopy, Goes, Inlines, Found, Fronted}
use Rattle.jr_moved_texts.specs.Spaces.{kind_of}
use Rattle.jr_moved_texts.specs.Moved.{anywhere}
use Rattle.jr_moved_texts.proofs.ExpressionEnds.{begins_no_dot, Head, exp_head}
use Rattle.jr_local_texts.proofs.StandingParts.{FirstIs, ListBack, LastIs, ListFront, ElementWithin, stmt_last}
use Rattle.jr_local_texts.proofs.StandingBodies.{stmt_mark_is}
use Rattle.jr_local_texts.proofs.LineEnds.{no_dot_behind, are_lines, stands_behind}
use Rattle.jr_local_texts.proofs.ExtractSpots.{open_ends}
use Rattle.jr_local_texts.proofs.InlineParts as parts
use Rattle.jr_local_texts.proofs.InlineSpots as spots

-- ---- how statements begin

abbrev NoDot : Token → Type 0
NoDot t = begins_no_dot (kind_of t) ≡ true

abbrev FirstToken : List Token → Type 0
FirstToken [] = ⊥
FirstToken (t ∷ ts) = NoDot t

first_append : (xs ys : List Token) → FirstToken xs → FirstToken (xs ++ ys)
first_append [] ys h = absurd h
first_append (x ∷ xs) ys h = h

type_first : (t : tree.TypeName Span) → FirstToken (type_toks t)
type_first (tree.int m) = refl
type_first (tree.boolean m) = refl
type_first (tree.named m None w) = refl
type_first (tree.named m (Some o) w) = refl

exp_first : (e : tree.Exp Span) → FirstToken (toks e)
exp_first e = by (toks e) (exp_head e)
  where
    by : (ts : List Token) → Head ts → FirstToken ts
    by [] h = absurd (let none : Option TokenKind = None in let no : none ≡ Some h.kind = h.is in cc)
    by (t ∷ ts) h = (let same : kind_of t ≡ h.kind = cc in ap begins_no_dot same ∙ h.no_dot)

stmt_first : (s : statement.Stmt Span) → FirstToken (stmt_toks s)
stmt_first (statement.local m true t w e) = refl
stmt_first (statement.local m false t w e) = first_append (type_toks t) (word w.text ∷ symbol symbol_name.Equals ∷ (toks e ++ (symbol symbol_name.Semicolon ∷ []))) (type_first t)
stmt_first (statement.eval m e) = first_append (toks e) (symbol symbol_name.Semicolon ∷ []) (exp_first e)
stmt_first (statement.branch m c s o) = refl
stmt_first (statement.loop m c s) = refl
stmt_first (statement.return m v) = of_value v
  where
    of_value : (v : Option (tree.Exp Span)) → FirstToken (stmt_toks (statement.return m v))
    of_value None = refl
    of_value (Some e) = refl
stmt_first (statement.block m b) = refl
stmt_first (statement.sync m e b) = refl
stmt_first (statement.empty m) = refl

-- the first of some tokens with their places
first_placed : (ps : Tokens) → FirstToken (kinds ps) → (q : Placed Span) × (qs : Tokens) × (ps ≡ q ∷ qs) × NoDot q.token
first_placed [] h = absurd h
first_placed (q ∷ qs) h = (q, qs, refl, h)

module _ (p : Program Span) (program : IsProgram itself (λ m b. Unit {0}) p) (written : MembersAreWritten Span) (names : RowsAreNamed Span) (file at : ℕ) (f : Found p file at) where
  abbrev t : Declared p file f.asked.key
  t = f.asked.declared

  abbrev F : Fronts
  F = Fronted p file at f.asked f.type f.text f.items f.copies f.gone file

  abbrev held : ElementWithin (element t) (placed_of f.text f.items)
  held = parts.held p program written file at f

  abbrev decl : Span
  decl = stmt_mark (element t).stmt

  -- ---- what stands behind the declaration

  list_first : (b : statement.Stmts Span) (ps back : Tokens) → Stands (stmts_layout b) ps → FirstIs ListBack back → (q : Placed Span) × (qs : Tokens) × (ps ++ back ≡ q ∷ qs) × NoDot q.token
  list_first statement.end ps [] h last = absurd last
  list_first statement.end ps (q ∷ qs) h last = (q, qs, ap (λ x. x ++ q ∷ qs) h, subst NoDot (sym last) refl)
  list_first (statement.more s ss) ps back h last =
      let first = first_placed h.front (subst FirstToken (sym (stands_laid (stmt_layout s) h.front h.first ∙ stmt_laid s)) (stmt_first s)) in
      (first.0, (first.1 ++ h.back) ++ back, ap (λ x. x ++ back) (h.whole ∙ ap (λ x. x ++ h.back) first.2), first.3)

  behind : (q : Placed Span) × (qs : Tokens) × (held.among.stands.back ++ held.among.back ≡ q ∷ qs) × NoDot q.token
  behind = by held.among.stands.rest
    where
      by : InOrder (Stands (stmts_layout (element t).rest)) (λ qs. qs ≡ []) held.among.stands.back → (q : Placed Span) × (qs : Tokens) × (held.among.stands.back ++ held.among.back ≡ q ∷ qs) × NoDot q.token
      by h =
          let same : held.among.stands.back ≡ h.front = h.whole ∙ ap (λ x. h.front ++ x) h.rest ∙ append-nil h.front in
          list_first (element t).rest held.among.stands.back held.among.back (subst (Stands (stmts_layout (element t).rest)) (sym same) h.first) held.back

  skipped : Skipped anywhere f.text (parts.decl_there p program written file at f).front ((parts.decl_some p program written file at f).0 ∷ (parts.decl_some p program written file at f).1)
      (held.among.stands.back ++ held.among.back)
  skipped = parts.decl_skipped p program written file at f

  decl_to : decl.to ≡ length skipped.front
  decl_to = ap (λ (s : Span). s.to) (parts.decl_mark p program written file at f) ∙ skipped.last

  -- behind the declaration, and blanks behind it, no dot comes
  no_dot : (gap left : List ℕ) → skipped.rest ≡ gap ++ left → all_pass is_blank gap ≡ true → first_passes (λ c. c == 46) (chars left) ≡ false
  no_dot gap left e blank = no_dot_behind f.text skipped.after (length skipped.front) skipped.rest behind.0 behind.1 skipped.tiled (skipped.placed ∙ behind.2) behind.3 gap left e blank

  -- ---- which tokens may stand where the declaration began

  -- no read ends there
  no_copy : (k : TokenKind) (place : ℕ) → place ≤ decl.from → EndsCopy p file at f.asked f.type f.text f.items f.copies place k → ⊥
  no_copy k place before ended =
      let copy = f.are_copies.each ended.1.0 ended.0 (spots.copy_at f.copies ended.0 ended.1) in
      let to : (exp_mark copy.0.at).to ≡ place = ap (λ (s : Span). s.to) copy.2.0 ∙ sym ended.2 in
      omega (arith, to, before, parts.decl_narrow p program written file at f, parts.read_behind p program written file at f copy.0, parts.read_narrow p program written file at f copy.0)

  front_token : (k : TokenKind) → F f.gone.from k → EndsToken p file f.gone.from k
  front_token k may = elim may [
    | inl token ↦ token
    | inr made ↦ elim made.1 [
      | inl ended ↦ absurd (no_copy k f.gone.from (parts.gone_behind p program written file at f).0 ended)
      | inr gone ↦ absurd (omega (arith, gone.0, (parts.gone_behind p program written file at f).0, (parts.gone_behind p program written file at f).1, parts.decl_narrow p program written file at f))
    ]
  ]

  fronts : (k : TokenKind) → F f.gone.from k → F f.gone.to k
  fronts k may = inr (refl, inr (refl, front_token k may))

  ends : (k : TokenKind) → F f.gone.from k → (rest : List ℕ) → EndsBefore (TokenItem k) rest
  ends k may rest = open_ends k (parts.gone_front p program written file at f k (front_token k may)) rest

  -- ---- it goes

  abbrev own : (q : Placed Span) → Tokens → Type 0
  own q qs = decl ≡ span_of (q ∷ qs)

  alone_goes : (q : Placed Span) (qs : Tokens) → own q qs → f.gone ≡ decl → Weaves F f.text no_indent (q ∷ qs) (change f.gone [] ∷ []) [] no_indent
  alone_goes q qs mark is =
      let whole : f.gone ≡ span_of (q ∷ qs) = is ∙ mark in
      let from : f.gone.from ≡ q.mark.from = ap (λ (s : Span). s.from) whole in
      let to : f.gone.to ≡ last_to (q ∷ qs) = ap (λ (s : Span). s.to) whole in
      let may : MayGo F f.text (q ∷ qs) = record {
        fronts = λ k h. subst (λ n. F n k) to (fronts k (subst (λ n. F n k) (sym from) h));
        ends = λ front rest e l k h. ends k (subst (λ n. F n k) (sym from) h) (chars rest);
        no_dot = λ front rest e l.
            (let same : rest ≡ skipped.rest = sym (drop_at front rest (length skipped.front) (omega (arith, l, sym to, ap (λ (s : Span). s.to) is, decl_to))) ∙ ap (drop (length skipped.front)) (sym e ∙ skipped.whole) ∙ drop_at skipped.front skipped.rest (length skipped.front) refl in
            subst (λ x. first_passes (λ c. c == 46) (chars x) ≡ false) (sym same) (no_dot [] skipped.rest refl refl));
      } in
      let gone = erase_weaves F f.text q qs may in
      let there : Weaves F f.text anything (q ∷ qs) (change f.gone [] ∷ []) [] (token_to (last_to (q ∷ qs))) = subst (λ (s : Span). Weaves F f.text anything (q ∷ qs) (change s [] ∷ []) [] (token_to (last_to (q ∷ qs)))) (sym whole) gone in
      λ more ds us w. woven_so no_indent anything tt (there more ds us (woven_so (token_to (last_to (q ∷ qs))) no_indent tt w))

  lines_go : (q : Placed Span) (qs : Tokens) → own q qs → AreLinesOf f.text decl f.gone → Weaves F f.text no_indent (q ∷ qs) (change f.gone [] ∷ []) [] no_indent
  lines_go q qs mark lines =
      let there : AreLinesOf f.text (span_of (q ∷ qs)) f.gone = subst (λ (s : Span). AreLinesOf f.text s f.gone) mark lines in
      let narrow : q.mark.from < last_to (q ∷ qs) = subst (λ (s : Span). s.from < s.to) mark (parts.decl_narrow p program written file at f) in
      let to : last_to (q ∷ qs) ≡ length skipped.front = sym (ap (λ (s : Span). s.to) mark) ∙ decl_to in
      let total : length f.text ≡ length skipped.front + length skipped.rest = ap length skipped.whole ∙ length-append skipped.front skipped.rest in
      let ordered : q.mark.from ≤ last_to (q ∷ qs) = omega (arith, narrow) in
      let within : last_to (q ∷ qs) ≤ length f.text = omega (arith, to, total) in
      let are : AreLines f.text (q ∷ qs) f.gone = are_lines f.text (q ∷ qs) f.gone there ordered within in
      erase_lines F f.text no_indent no_indent q qs f.gone (record {
        lines = are;
        enters = inr tt;
        fronts = fronts;
        ends = λ k may. ends k may (chars (drop f.gone.to f.text));
        no_dot = no_dot (take (f.gone.to - length skipped.front) skipped.rest) (drop f.gone.to f.text) (apart are to total) (blank_gap are to);
        stands = stands_behind f.text (q ∷ qs) f.gone there ordered within;
      })
    where
      left : drop (length skipped.front) f.text ≡ skipped.rest
      left = ap (drop (length skipped.front)) skipped.whole ∙ drop_at skipped.front skipped.rest (length skipped.front) refl

      blank_gap : AreLines f.text (q ∷ qs) f.gone → last_to (q ∷ qs) ≡ length skipped.front → all_pass is_blank (take (f.gone.to - length skipped.front) skipped.rest) ≡ true
      blank_gap are to = subst (λ x. all_pass is_blank (take (f.gone.to - length skipped.front) x) ≡ true) left (subst (λ n. all_pass is_blank (slice_range f.text n f.gone.to) ≡ true) to are.blank)

      apart : AreLines f.text (q ∷ qs) f.gone → last_to (q ∷ qs) ≡ length skipped.front → length f.text ≡ length skipped.front + length skipped.rest → skipped.rest ≡ take (f.gone.to - length skipped.front) skipped.rest ++ drop f.gone.to f.text
      apart are to total =
          let n : ℕ = f.gone.to - length skipped.front in
          let long : length (take n skipped.rest) ≡ n = length-take-le n skipped.rest (omega (arith, total, are.within, are.ends, to)) in
          let parts_are : f.text ≡ (skipped.front ++ take n skipped.rest) ++ drop n skipped.rest =
          skipped.whole ∙ ap (λ x. skipped.front ++ x) (sym (take-append-drop n skipped.rest)) ∙ sym (append_assoc skipped.front (take n skipped.rest) (drop n skipped.rest)) in
          let there : drop f.gone.to f.text ≡ drop n skipped.rest =
          ap (drop f.gone.to) parts_are ∙ drop_at (skipped.front ++ take n skipped.rest) (drop n skipped.rest) f.gone.to (omega (arith, length-append skipped.front (take n skipped.rest), long, are.ends, to)) in
          sym (take-append-drop n skipped.rest) ∙ ap (λ x. take n skipped.rest ++ x) (sym there)

  decl_goes : (q : Placed Span) (qs : Tokens) → own q qs → Weaves F f.text no_indent (q ∷ qs) (change f.gone [] ∷ []) [] no_indent
  decl_goes q qs mark = elim f.is_gone [ inl lines ↦ lines_go q qs mark lines | inr span ↦ alone_goes q qs mark span.1 ]

  -- ---- the list

  module _ (suit : AreSuitableSpots itself (choices p file at f.asked f.type (left_out p file at f.asked f.type)) (Weaves F f.text) (read_spot p file at f.asked f.type f.text f.items f.copies)) where
    goes_weave : (n : ℕ) (c : Context) (base : ℕ) (s : statement.Stmt Span) (ss : statement.Stmts Span) (o : Rewritten (statement.Stmts Span)) (ps : Tokens) → s ≡ (element t).stmt
        → Goes p file at f.asked f.type f.text f.items f.copies f.gone n c base s ss o → Stands (spans_from itself base (stmts_layout (statement.more s ss))) ps → Weaves F f.text no_indent ps o.changes (stmts_toks o.tree) no_indent
    goes_weave n c base s ss o ps is goes h = by_stmt h.front h.first h.whole
      where
        rest_steps : Stepped (Weaves F f.text) true h.back goes.rest.changes (stmts_toks goes.rest.tree)
        rest_steps =
            let same : h.back ≡ h.rest.front = h.rest.whole ∙ ap (λ x. h.rest.front ++ x) h.rest.rest ∙ append-nil h.rest.front in
            subst (λ x. Stepped (Weaves F f.text) true x goes.rest.changes (stmts_toks goes.rest.tree)) (sym same)
            (list_steps itself (choices p file at f.asked f.type (left_out p file at f.asked f.type)) (spotted (read_spot p file at f.asked f.type f.text f.items f.copies)) (Weaves F f.text) (spots.fit p program written names file at f (left_out p file at f.asked f.type) refl) suit
            (n + locals_in s) (after n c s) base ss goes.rest h.rest.front goes.rest_is h.rest.first)

        by_stmt : (front : Tokens) → Stands (spans_from itself base (stmt_layout s)) front → ps ≡ front ++ h.back → Weaves F f.text no_indent ps o.changes (stmts_toks o.tree) no_indent
        by_stmt front stands whole = by_some front (subst (λ l. Stands l front) (spans_from-span base (stmt_layout s)) stands) whole (stmt_last s front (subst (λ l. Stands l front) (spans_from-span base (stmt_layout s)) stands))
          where
            by_some : (front : Tokens) → Stands (stmt_layout s) front → ps ≡ front ++ h.back → LastIs ListFront front → Weaves F f.text no_indent ps o.changes (stmts_toks o.tree) no_indent
            by_some [] stands whole last = absurd last
            by_some (q ∷ qs) stands whole last =
                let mark : decl ≡ span_of (q ∷ qs) = ap stmt_mark (sym is) ∙ stmt_mark_is s (q ∷ qs) stands in
                let all = both_weave F f.text no_indent no_indent no_indent no_indent (q ∷ qs) h.back (change f.gone [] ∷ []) goes.rest.changes [] (stmts_toks goes.rest.tree) tt (decl_goes q qs mark)
                (list_weaves F f.text h.back goes.rest.changes (stmts_toks goes.rest.tree) rest_steps) in
                subst (λ x. Weaves F f.text no_indent x o.changes (stmts_toks o.tree) no_indent) (sym whole)
                (subst (λ (z : Rewritten (statement.Stmts Span)). Weaves F f.text no_indent ((q ∷ qs) ++ h.back) z.changes (stmts_toks z.tree) no_indent) (sym goes.is) all)

    pub inline_weaves : (n : ℕ) (c : Context) (base : ℕ) (xs : statement.Stmts Span) (o : Rewritten (statement.Stmts Span)) (ps : Tokens) → Inlines p file at f.asked f.type f.text f.items f.copies f.gone n c base xs o
        → Stands (spans_from itself base (stmts_layout xs)) ps → Weaves F f.text no_indent ps o.changes (stmts_toks o.tree) no_indent
    inline_weaves n c base statement.end o ps w h = absurd w
    inline_weaves n c base (statement.more s ss) o ps w h = goes_weave n c base s ss o ps w.0.2 w.1 h
