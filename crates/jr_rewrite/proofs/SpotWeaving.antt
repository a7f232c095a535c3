-- What spots need of texts: steps weave, one run behind the other weaves, a run is replaced by
-- lexemes, and lexemes are put in front of a run.
use Rattle.std.proofs.Common.{◌≡◌, ◌⊎◌, inl, inr, ℕ, ◌-◌, ◌≤◌, take, drop, ◌==◌, true, false, Bool, List, [], ◌∷◌, ◌++◌, length, Option, Some, None, refl, sym, ap, ◌∙◌, subst, arith}
use Rattle.std.specs.Prelude.{slice_range}
use Rattle.std.specs.Str.{IsUtf8, chars}
use Rattle.std.proofs.lemmas.Bool.{both_ways}
use Rattle.std.proofs.lemmas.List.{append_assoc, append-nil}
use Rattle.std.proofs.lemmas.Str.{IsCharBoundary-at_seam}
use Rattle.jr_text.specs.declared.spans.Span.{Span}
use Rattle.jr_lex.specs.declared.items.ItemKind.{ItemKind}
use Rattle.jr_lex.specs.declared.items.ItemKind.TheVariants.{Token as TokenItem, Blank, Comment}
use Rattle.jr_lex.specs.declared.items.TokenKind.{TokenKind}
use Rattle.jr_lex.specs.Characters.{first_passes}
use Rattle.jr_lex.specs.Lexemes.{IsLexeme}
use Rattle.jr_lex.specs.Beside.{Piece, join_pieces, EndsBefore}
use Rattle.jr_lex.specs.Near.{IsCut, NoNewDot, EndsLine}
use Rattle.jr_lex.specs.Seams.{Meets}
use Rattle.jr_lex.proofs.ScanMeaning.{no_empty}
use Rattle.jr_lex.proofs.OneLexeme.{lexeme_cut, comment_cut, cut_near}
use Rattle.jr_lex.proofs.Yields.{near_run, same_line}
use Rattle.jr_grammar.specs.Tokens.{Token, Placed}
use Rattle.jr_grammar.specs.Stands.{Tokens, first_from, last_to, span_of}
use Rattle.jr_rewrite.specs.Respellings.{Change}
use Rattle.jr_rewrite.specs.Rewritten.{change}
use Rattle.jr_splice.specs.Cutting.{chars_in, AreCutBefore, with_token, own_token, tokens_in}
use Rattle.jr_splice.specs.Parts.{LastIs}
use Rattle.jr_splice.proofs.Gluing.{Glued, glue, chars_before}
use Rattle.jr_rewrite.specs.Woven.{Fronts, MayFront, YieldsAt, join_changes, Woven, Behind, anything, no_indent, token_to, WovenFrom, Weaves}
use Rattle.jr_rewrite.proofs.Tiles.{tiled_text}
use Rattle.jr_rewrite.proofs.Weaving.{woven_glued, kept_glued}
use Rattle.jr_rewrite.proofs.Steps.{Suffices, changes, olds, end_of, end_of_some, start, starts_at_end, Stepped}
use Rattle.jr_rewrite.proofs.Skipping.{skip_run}
use Rattle.jr_rewrite.proofs.Woven.{to_token, on_token, begins_at, tiled_here, stands_so, steps_weave}

-- ---- steps, and one run behind the other

-- where enough is known
pub woven_so : {F : Fronts} {bytes : List ℕ} {more : Tokens} {cs : List Change} {ts : List Token} (known asked : Behind) → Suffices known asked → WovenFrom F bytes more asked cs ts → WovenFrom F bytes more known cs ts
woven_so known asked s w items pre post e tiled placed here = w items pre post e tiled placed (stands_so known asked pre post s here)

module _ (F : Fronts) (bytes : List ℕ) where
  stepped_weaves : (loose : Bool) (to : Behind) (ps : Tokens) (cs : List Change) (ts : List Token) (s : Stepped (Weaves F bytes) loose ps cs ts) → Suffices (end_of (start loose) s.steps) to
      → Weaves F bytes (start loose) ps cs ts to
  stepped_weaves loose to ps cs ts s enough more ds us w =
      subst (λ x. WovenFrom F bytes (x ++ more) (start loose) (cs ++ ds) (ts ++ us)) s.olds_are
      (subst (λ x. WovenFrom F bytes (olds s.steps ++ more) (start loose) (x ++ ds) (ts ++ us)) s.changes_are
      (subst (λ x. WovenFrom F bytes (olds s.steps ++ more) (start loose) (changes s.steps ++ ds) (x ++ us)) s.news_are
      (steps_weave F bytes s.steps (start loose) more ds us s.flow (woven_so (end_of (start loose) s.steps) to enough w))))

  -- a list
  pub list_weaves : (ps : Tokens) (cs : List Change) (ts : List Token) → Stepped (Weaves F bytes) true ps cs ts → Weaves F bytes no_indent ps cs ts no_indent
  list_weaves ps cs ts s = stepped_weaves true no_indent ps cs ts s (starts_at_end (Weaves F bytes) true s.steps s.flow)

  -- an expression
  pub part_weaves : (p : Placed Span) (ps : Tokens) (cs : List Change) (ts : List Token) → Stepped (Weaves F bytes) false (p ∷ ps) cs ts → Weaves F bytes anything (p ∷ ps) cs ts (token_to (last_to (p ∷ ps)))
  part_weaves p ps cs ts s = stepped_weaves false (token_to (last_to (p ∷ ps))) (p ∷ ps) cs ts s (end_of_some (Weaves F bytes) anything s.steps p ps s.flow s.tight s.olds_are)

  -- one run behind the other
  pub both_weave : (from at between to : Behind) (ps qs : Tokens) (cs ds : List Change) (ts us : List Token) → Suffices at between → Weaves F bytes from ps cs ts at → Weaves F bytes between qs ds us to
      → Weaves F bytes from (ps ++ qs) (cs ++ ds) (ts ++ us) to
  both_weave from at between to ps qs cs ds ts us enough first rest more es vs w =
      subst (λ x. WovenFrom F bytes x from ((cs ++ ds) ++ es) ((ts ++ us) ++ vs)) (sym (append_assoc ps qs more))
      (subst (λ x. WovenFrom F bytes (ps ++ (qs ++ more)) from x ((ts ++ us) ++ vs)) (sym (append_assoc cs ds es))
      (subst (λ x. WovenFrom F bytes (ps ++ (qs ++ more)) from (cs ++ (ds ++ es)) x) (sym (append_assoc ts us vs)) (first (qs ++ more) (ds ++ es) (us ++ vs) (woven_so at between enough (rest more es vs w)))))

-- ---- lexemes in front of what comes

some_chars : (k : ItemKind) (front rest : List ℕ) → IsCut k front rest → front ≡ [] → ⊥
some_chars k front rest c e = no_empty k (subst (IsLexeme k) e c.taken.lexeme)

not_empty : (xs ys : List ℕ) → (xs ≡ [] → ⊥) → xs ++ ys ≡ [] → ⊥
not_empty [] ys h e = h refl
not_empty (x ∷ xs) ys h e = cc

more_tokens : (o : Option Token) (us ts : List Token) → with_token o us ++ ts ≡ with_token o (us ++ ts)
more_tokens None us ts = refl
more_tokens (Some t) us ts = refl

-- Lexemes that are cut in front of one text are so in front of what takes its place, if it yields to
-- the last of them.
pub pieces_front : {F : Fronts} {at : ℕ} (ps : List Piece) (old text : List ℕ) (ts : List Token) → AreCutBefore ps old → YieldsAt F at old (chars text) → LastIs (MayFront F at) ps
    → LastIs (λ k. k ≡ Comment → ⊥) ps → Glued text ts → Glued (join_pieces ps ++ text) (tokens_in ps ++ ts)
pieces_front [] old text ts h y may line g = g
pieces_front (p ∷ []) old text ts h y may line g =
    subst (λ t. Glued (t ++ text) (tokens_in (p ∷ []) ++ ts)) (sym (append-nil p.text))
    (subst (Glued (p.text ++ text)) (sym (more_tokens (own_token p.kind p.text) [] ts)) (kept_glued p.kind p.text old text ts h.0 h.1 g (y.cut p.kind (chars p.text) may (λ comment ends. absurd (line comment)) h.1)))
pieces_front (p ∷ q ∷ qs) old text ts h y may line g =
    let rest = pieces_front (q ∷ qs) old text ts h.2 y may line g in
    let more : List ℕ = chars_in (q ∷ qs) in
    let some : more ≡ [] → ⊥ = not_empty (chars q.text) (chars_in qs) (some_chars q.kind (chars q.text) (chars_in qs ++ old) h.2.1) in
    let there : IsCut p.kind (chars p.text) (more ++ chars text) =
    cut_near p.kind (chars p.text) (more ++ old) (more ++ chars text) (near_run more old (chars text) some (λ e. y.no_dot)) (same_line p.kind more old (chars text) some) h.1 in
    subst (λ t. Glued t (tokens_in (p ∷ q ∷ qs) ++ ts)) (sym (append_assoc p.text (join_pieces (q ∷ qs)) text))
    (subst (Glued (p.text ++ (join_pieces (q ∷ qs) ++ text))) (sym (more_tokens (own_token p.kind p.text) (tokens_in (q ∷ qs)) ts))
    (kept_glued p.kind p.text (more ++ old) (join_pieces (q ∷ qs) ++ text) (tokens_in (q ∷ qs) ++ ts) h.0 h.1 rest
    (inr (subst (IsCut p.kind (chars p.text)) (sym (chars_before (q ∷ qs) old text h.2)) there))))

-- ---- what stands in front of lexemes that come

-- Each token that may stand in front ends where they begin, and they begin with no dot.
pub record MayCome (F : Fronts) (at : ℕ) (ps : List Piece) : Type 0 where
  pub ends : (k : TokenKind) → F at k → (other : List ℕ) → EndsBefore (TokenItem k) (chars_in ps ++ other)
  pub no_dot : (old other : List ℕ) → NoNewDot old (chars_in ps ++ other)

pub come_yields : {F : Fronts} {at : ℕ} (ps : List Piece) (old other : List ℕ) → MayCome F at ps → YieldsAt F at old (chars_in ps ++ other)
come_yields {F = F} {at = at} ps old other h = record { cut = by_kind; no_dot = h.no_dot old other }
  where
    by_kind : (k : ItemKind) (front : List ℕ) → MayFront F at k → EndsLine k old (chars_in ps ++ other) → IsCut k front old → (k ≡ Blank) ⊎ IsCut k front (chars_in ps ++ other)
    by_kind (TokenItem k) front may line c = inr (lexeme_cut (TokenItem k) front (chars_in ps ++ other) c.taken.lexeme (h.ends k may other))
    by_kind Blank front may line c = inl refl
    by_kind Comment front may line c = inr (comment_cut front old (chars_in ps ++ other) line c)

-- lexemes are put in place of what stands between two places
pub put_pieces : {F : Fronts} (bytes pre post pre' rest : List ℕ) (ps : List Piece) (old : List ℕ) (cs : List Change) (ts : List Token) → bytes ≡ pre ++ post → bytes ≡ pre' ++ rest
    → length pre ≤ length pre' → IsUtf8 post → IsUtf8 rest → AreCutBefore ps old
    → (w : Woven F bytes pre' rest cs ts) → YieldsAt F (length pre) (chars post) (chars_in ps ++ chars (join_pieces w.pieces)) → (g : Glued (join_pieces ps ++ join_pieces w.pieces) (tokens_in ps ++ ts))
    → Woven F bytes pre post (change (record { from = length pre; to = length pre' }) (join_pieces ps) ∷ cs) (tokens_in ps ++ ts)
put_pieces {F = F} bytes pre post pre' rest ps old cs ts e e' l u u' cut w yields g =
    let new : List ℕ = join_pieces w.pieces in
    let no_wide : length pre - length pre ≡ 0 = omega arith in
    let none : slice_range bytes (length pre) (length pre) ≡ [] = ap (λ n. take n (drop (length pre) bytes)) no_wide in
    let are : chars (join_pieces g.pieces) ≡ chars_in ps ++ chars new = ap chars g.text_is ∙ chars_before ps old new cut in
    record {
      pieces = g.pieces;
      fit = (omega arith, l, IsCharBoundary-at_seam bytes pre post e u, IsCharBoundary-at_seam bytes pre' rest e' u', w.fit);
      text_is = ap (λ xs. xs ++ join_pieces ps ++ join_changes (length pre') bytes cs) none ∙ ap (λ xs. join_pieces ps ++ xs) w.text_is ∙ sym g.text_is;
      cut = g.cut;
      yields = subst (YieldsAt F (length pre) (chars post)) (sym are) yields;
      tokens_are = g.tokens_are;
    }

pieces_woven : {F : Fronts} (bytes pre post pre' rest : List ℕ) (ps : List Piece) (old : List ℕ) (cs : List Change) (ts : List Token) → bytes ≡ pre ++ post → bytes ≡ pre' ++ rest
    → length pre ≤ length pre' → IsUtf8 post → IsUtf8 rest → AreCutBefore ps old → MayCome F (length pre) ps
    → (w : Woven F bytes pre' rest cs ts) → (g : Glued (join_pieces ps ++ join_pieces w.pieces) (tokens_in ps ++ ts))
    → Woven F bytes pre post (change (record { from = length pre; to = length pre' }) (join_pieces ps) ∷ cs) (tokens_in ps ++ ts)
pieces_woven bytes pre post pre' rest ps old cs ts e e' l u u' cut come w g =
    put_pieces bytes pre post pre' rest ps old cs ts e e' l u u' cut w (come_yields ps (chars post) (chars (join_pieces w.pieces)) come) g

-- ---- a run is replaced

module _ (F : Fronts) (bytes : List ℕ) where
  -- Lexemes that are cut in front of what stands behind the run, the last no comment, and that may come behind what stands in front of it.
  pub record MayReplace (run : Tokens) (ps : List Piece) : Type 0 where
    pub cut : (front rest : List ℕ) → bytes ≡ front ++ rest → length front ≡ last_to run → AreCutBefore ps (chars rest)
    pub last : LastIs (MayFront F (last_to run)) ps
    pub no_comment : LastIs (λ k. k ≡ Comment → ⊥) ps
    pub come : (at : ℕ) → at ≡ first_from run → MayCome F at ps

  pub replace_weaves : (p : Placed Span) (run : Tokens) (ps : List Piece) → MayReplace (p ∷ run) ps
      → Weaves F bytes anything (p ∷ run) (change (span_of (p ∷ run)) (join_pieces ps) ∷ []) (tokens_in ps) (token_to (last_to (p ∷ run)))
  replace_weaves p run ps may more ds us w items pre post e tiled placed here =
      (to_token items bytes pre post p (run ++ more) (change (span_of (p ∷ run)) (join_pieces ps) ∷ ds) (tokens_in ps ++ us) e tiled placed (λ pre' post' t.
      (let s = skip_run (t.item ∷ t.items) bytes pre' post' p run more t.whole (tiled_here bytes pre' post' p (run ++ more) t) t.placed in
      let behind = w s.after s.front s.rest s.whole s.tiled s.placed (s.last, inr s.no_indent) in
      let cut = may.cut s.front s.rest s.whole (sym s.last) in
      let text = tiled_text F (length pre') post' (t.item ∷ t.items) (tiled_here bytes pre' post' p (run ++ more) t) in
      let rest_text = tiled_text F (length s.front) s.rest s.after s.tiled in
      let from : p.mark.from ≡ length pre' = begins_at bytes pre' post' p (run ++ more) t in
      let last : LastIs (MayFront F (length s.front)) ps = subst (λ n. LastIs (MayFront F n) ps) s.last may.last in
      let g = pieces_front ps (chars s.rest) (join_pieces behind.pieces) us cut behind.yields last may.no_comment (woven_glued behind) in
      let put = pieces_woven bytes pre' post' s.front s.rest ps (chars s.rest) ds us t.whole s.whole s.beyond text rest_text cut (may.come (length pre') (sym from)) behind g in
      on_token bytes pre' post' p (run ++ more) t (change (span_of (p ∷ run)) (join_pieces ps) ∷ ds) (tokens_in ps ++ us)
      (subst (λ m. Woven F bytes pre' post' (change (record { from = p.mark.from; to = m }) (join_pieces ps) ∷ ds) (tokens_in ps ++ us)) (sym s.last)
      (subst (λ n. Woven F bytes pre' post' (change (record { from = n; to = length s.front }) (join_pieces ps) ∷ ds) (tokens_in ps ++ us)) (sym from) put))))).woven

  -- ---- lexemes are put in front of a run

  -- Lexemes of a text by itself, whose last may have anything behind it.
  pub record MayPrecedeRun (at : ℕ) (ps : List Piece) : Type 0 where
    pub cut : AreCutBefore ps []
    pub last : LastIs (λ k. (other : List ℕ) → Meets k [] other) ps
    pub come : MayCome F at ps

  pub insert_weaves : (p : Placed Span) (run : Tokens) (ps : List Piece) (cs : List Change) (ts : List Token) (to : Behind) → MayPrecedeRun p.mark.from ps
      → Weaves F bytes anything (p ∷ run) cs ts to → Weaves F bytes anything (p ∷ run) (change (record { from = p.mark.from; to = p.mark.from }) (join_pieces ps) ∷ cs) (tokens_in ps ++ ts) to
  insert_weaves p run ps cs ts to may inner more ds us w items pre post e tiled placed here =
      let all : List Change = change (record { from = p.mark.from; to = p.mark.from }) (join_pieces ps) ∷ (cs ++ ds) in
      subst (Woven F bytes pre post all) (sym (append_assoc (tokens_in ps) ts us))
      (to_token items bytes pre post p (run ++ more) all (tokens_in ps ++ (ts ++ us)) e tiled placed (λ pre' post' t.
      (let there = tiled_here bytes pre' post' p (run ++ more) t in
      let behind = inner more ds us w (t.item ∷ t.items) pre' post' t.whole there t.placed tt in
      let text = tiled_text F (length pre') post' (t.item ∷ t.items) there in
      let from : p.mark.from ≡ length pre' = begins_at bytes pre' post' p (run ++ more) t in
      let g = glue ps [] (join_pieces behind.pieces) (ts ++ us) may.cut (woven_glued behind) (last_meets ps (chars (join_pieces behind.pieces)) may.last) in
      let put = pieces_woven bytes pre' post' pre' post' ps [] (cs ++ ds) (ts ++ us) t.whole t.whole (omega arith) text text may.cut (subst (λ n. MayCome F n ps) from may.come) behind g in
      on_token bytes pre' post' p (run ++ more) t all (tokens_in ps ++ (ts ++ us))
      (subst (λ n. Woven F bytes pre' post' (change (record { from = n; to = n }) (join_pieces ps) ∷ (cs ++ ds)) (tokens_in ps ++ (ts ++ us))) (sym from) put)))).woven
    where
      last_meets : (qs : List Piece) (other : List ℕ) → LastIs (λ k. (other : List ℕ) → Meets k [] other) qs → LastIs (λ k. Meets k [] other) qs
      last_meets [] other h = tt
      last_meets (q ∷ []) other h = h other
      last_meets (q ∷ r ∷ qs) other h = last_meets (r ∷ qs) other h

  -- ---- a run goes

  -- What may stand in front of the run may stand in front of what comes behind it, which begins with no dot.
  pub record MayGo (run : Tokens) : Type 0 where
    pub fronts : (k : TokenKind) → F (first_from run) k → F (last_to run) k
    pub ends : (front rest : List ℕ) → bytes ≡ front ++ rest → length front ≡ last_to run → (k : TokenKind) → F (first_from run) k → EndsBefore (TokenItem k) (chars rest)
    pub no_dot : (front rest : List ℕ) → bytes ≡ front ++ rest → length front ≡ last_to run → first_passes (λ c. c == 46) (chars rest) ≡ false

  pub gone_yields : (at to : ℕ) (old rest new : List ℕ) → ((k : TokenKind) → F at k → F to k) → ((k : TokenKind) → F at k → EndsBefore (TokenItem k) rest) → first_passes (λ c. c == 46) rest ≡ false
      → YieldsAt F to rest new → YieldsAt F at old new
  gone_yields at to old rest new fronts ends dot y = record { cut = by_kind; no_dot = λ is. absurd (both_ways (first_passes (λ c. c == 46) rest) dot (y.no_dot is)) }
    where
      no_comment : (k : TokenKind) → TokenItem k ≡ Comment → ⊥
      no_comment k e = cc

      by_kind : (k : ItemKind) (front : List ℕ) → MayFront F at k → EndsLine k old new → IsCut k front old → (k ≡ Blank) ⊎ IsCut k front new
      by_kind (TokenItem k) front may line c =
          y.cut (TokenItem k) front (fronts k may) (λ comment ends. absurd (no_comment k comment)) (lexeme_cut (TokenItem k) front rest c.taken.lexeme (ends k may))
      by_kind Blank front may line c = inl refl
      by_kind Comment front may line c = inr (comment_cut front old new line c)

  gone_text : (at to : ℕ) (cs : List Change) (new : List ℕ) → join_changes to bytes cs ≡ new → join_changes at bytes (change (record { from = at; to = to }) [] ∷ cs) ≡ new
  gone_text at to cs new e =
      let no_wide : at - at ≡ 0 = omega arith in
      let none : slice_range bytes at at ≡ [] = ap (λ n. take n (drop at bytes)) no_wide in
      (λ i. (none i ++ []) ++ e i)

  pub erase_weaves : (p : Placed Span) (run : Tokens) → MayGo (p ∷ run) → Weaves F bytes anything (p ∷ run) (change (span_of (p ∷ run)) [] ∷ []) [] (token_to (last_to (p ∷ run)))
  erase_weaves p run may more ds us w items pre post e tiled placed here =
      (to_token items bytes pre post p (run ++ more) (change (span_of (p ∷ run)) [] ∷ ds) us e tiled placed (λ pre' post' t.
      (let there = tiled_here bytes pre' post' p (run ++ more) t in
      let s = skip_run (t.item ∷ t.items) bytes pre' post' p run more t.whole there t.placed in
      let behind = w s.after s.front s.rest s.whole s.tiled s.placed (s.last, inr s.no_indent) in
      let text = tiled_text F (length pre') post' (t.item ∷ t.items) there in
      let rest_text = tiled_text F (length s.front) s.rest s.after s.tiled in
      let from : p.mark.from ≡ length pre' = begins_at bytes pre' post' p (run ++ more) t in
      let new : List ℕ = join_pieces behind.pieces in
      let yields : YieldsAt F p.mark.from (chars post') (chars new) =
      gone_yields p.mark.from (last_to (p ∷ run)) (chars post') (chars s.rest) (chars new) may.fronts (may.ends s.front s.rest s.whole (sym s.last)) (may.no_dot s.front s.rest s.whole (sym s.last))
      (subst (λ n. YieldsAt F n (chars s.rest) (chars new)) (sym s.last) behind.yields) in
      let gone : Woven F bytes pre' post' (change (record { from = length pre'; to = length s.front }) [] ∷ ds) us = record {
        pieces = behind.pieces;
        fit = (omega arith, s.beyond, IsCharBoundary-at_seam bytes pre' post' t.whole text, IsCharBoundary-at_seam bytes s.front s.rest s.whole rest_text, behind.fit);
        text_is = gone_text (length pre') (length s.front) ds new behind.text_is;
        cut = behind.cut;
        yields = subst (λ n. YieldsAt F n (chars post') (chars new)) from yields;
        tokens_are = behind.tokens_are;
      } in
      on_token bytes pre' post' p (run ++ more) t (change (span_of (p ∷ run)) [] ∷ ds) us
      (subst (λ m. Woven F bytes pre' post' (change (record { from = p.mark.from; to = m }) [] ∷ ds) us) (sym s.last)
      (subst (λ n. Woven F bytes pre' post' (change (record { from = n; to = length s.front }) [] ∷ ds) us) (sym from) gone))))).woven
