-- A run is replaced by a text, or a text is put in front of it: one that is cut into tokens in front
-- of whatever is woven behind it.
use Rattle.std.proofs.Common.{◌≡◌, ℕ, ◌-◌, ◌≤◌, take, drop, List, [], ◌∷◌, ◌++◌, length, sym, ap, ◌∙◌, subst, arith, inr}
use Rattle.std.specs.Prelude.{slice_range}
use Rattle.std.specs.Str.{IsUtf8, chars}
use Rattle.std.proofs.lemmas.List.{append_assoc}
use Rattle.std.proofs.lemmas.Str.{IsCharBoundary-at_seam}
use Rattle.jr_text.specs.declared.spans.Span.{Span}
use Rattle.jr_lex.specs.Beside.{join_pieces}
use Rattle.jr_grammar.specs.Tokens.{Token, Placed}
use Rattle.jr_grammar.specs.Stands.{Tokens, last_to, span_of}
use Rattle.jr_splice.proofs.Gluing.{Glued}
use Rattle.jr_rewrite.specs.Respellings.{Change}
use Rattle.jr_rewrite.specs.Rewritten.{change}
use Rattle.jr_rewrite.specs.Woven.{Fronts, YieldsAt, join_changes, Woven, Behind, anything, token_to, Weaves}
use Rattle.jr_rewrite.proofs.Tiles.{tiled_text}
use Rattle.jr_rewrite.proofs.Weaving.{woven_glued}
use Rattle.jr_rewrite.proofs.Skipping.{skip_run}
use Rattle.jr_rewrite.proofs.Woven.{to_token, on_token, begins_at, tiled_here}

-- a text comes in place of what stands between two places
put_text : {F : Fronts} (bytes pre post pre' rest text : List ℕ) (cs : List Change) (ts us : List Token) → bytes ≡ pre ++ post → bytes ≡ pre' ++ rest → length pre ≤ length pre' → IsUtf8 post → IsUtf8 rest
    → (w : Woven F bytes pre' rest cs us) → Glued (text ++ join_pieces w.pieces) (ts ++ us) → YieldsAt F (length pre) (chars post) (chars (text ++ join_pieces w.pieces))
    → Woven F bytes pre post (change (record { from = length pre; to = length pre' }) text ∷ cs) (ts ++ us)
put_text {F = F} bytes pre post pre' rest text cs ts us e e' l u u' w g yields =
    let no_wide : length pre - length pre ≡ 0 = omega arith in
    let none : slice_range bytes (length pre) (length pre) ≡ [] = ap (λ n. take n (drop (length pre) bytes)) no_wide in
    record {
      pieces = g.pieces;
      fit = (omega arith, l, IsCharBoundary-at_seam bytes pre post e u, IsCharBoundary-at_seam bytes pre' rest e' u', w.fit);
      text_is = ap (λ xs. xs ++ text ++ join_changes (length pre') bytes cs) none ∙ ap (λ xs. text ++ xs) w.text_is ∙ sym g.text_is;
      cut = g.cut;
      yields = subst (λ t. YieldsAt F (length pre) (chars post) (chars t)) (sym g.text_is) yields;
      tokens_are = g.tokens_are;
    }

module _ (F : Fronts) (bytes : List ℕ) where
  -- The text may come in place of what stands between two places: in front of whatever is woven behind
  -- it, it is cut into these tokens, and what may stand in front of the first place may stand in front
  -- of it.
  pub record MayPut (at to : ℕ) (text : List ℕ) (ts : List Token) : Type 0 where
    pub glued : (front rest new : List ℕ) (us : List Token) → bytes ≡ front ++ rest → length front ≡ to → Glued new us → YieldsAt F to (chars rest) (chars new) → Glued (text ++ new) (ts ++ us)
    pub yields : (front rest new old : List ℕ) (us : List Token) → bytes ≡ front ++ rest → length front ≡ to → Glued new us → YieldsAt F to (chars rest) (chars new) → YieldsAt F at old (chars (text ++ new))

  pub replaces : (p : Placed Span) (run : Tokens) (text : List ℕ) (ts : List Token) → MayPut p.mark.from (last_to (p ∷ run)) text ts
      → Weaves F bytes anything (p ∷ run) (change (span_of (p ∷ run)) text ∷ []) ts (token_to (last_to (p ∷ run)))
  replaces p run text ts may more ds us w items pre post e tiled placed here =
      (to_token items bytes pre post p (run ++ more) (change (span_of (p ∷ run)) text ∷ ds) (ts ++ us) e tiled placed (λ pre' post' t.
      (let there = tiled_here bytes pre' post' p (run ++ more) t in
      let s = skip_run (t.item ∷ t.items) bytes pre' post' p run more t.whole there t.placed in
      let behind = w s.after s.front s.rest s.whole s.tiled s.placed (s.last, inr s.no_indent) in
      let here_text = tiled_text F (length pre') post' (t.item ∷ t.items) there in
      let rest_text = tiled_text F (length s.front) s.rest s.after s.tiled in
      let from : p.mark.from ≡ length pre' = begins_at bytes pre' post' p (run ++ more) t in
      let new : List ℕ = join_pieces behind.pieces in
      let old : YieldsAt F (last_to (p ∷ run)) (chars s.rest) (chars new) = subst (λ n. YieldsAt F n (chars s.rest) (chars new)) (sym s.last) behind.yields in
      let glued : Glued (text ++ new) (ts ++ us) = may.glued s.front s.rest new us s.whole (sym s.last) (woven_glued behind) old in
      let yields : YieldsAt F p.mark.from (chars post') (chars (text ++ new)) = may.yields s.front s.rest new (chars post') us s.whole (sym s.last) (woven_glued behind) old in
      let put = put_text bytes pre' post' s.front s.rest text ds ts us t.whole s.whole s.beyond here_text rest_text behind glued (subst (λ n. YieldsAt F n (chars post') (chars (text ++ new))) from yields) in
      on_token bytes pre' post' p (run ++ more) t (change (span_of (p ∷ run)) text ∷ ds) (ts ++ us)
      (subst (λ m. Woven F bytes pre' post' (change (record { from = p.mark.from; to = m }) text ∷ ds) (ts ++ us)) (sym s.last)
      (subst (λ n. Woven F bytes pre' post' (change (record { from = n; to = length s.front }) text ∷ ds) (ts ++ us)) (sym from) put))))).woven

  -- The text may come at the place, in front of what is woven there.
  pub record MayPrecede (at : ℕ) (text : List ℕ) (ts : List Token) : Type 0 where
    pub glued : (new : List ℕ) (us : List Token) → Glued new us → Glued (text ++ new) (ts ++ us)
    pub yields : (new old : List ℕ) (us : List Token) → Glued new us → YieldsAt F at old (chars (text ++ new))

  pub precedes : (p : Placed Span) (run : Tokens) (text : List ℕ) (cs : List Change) (ts vs : List Token) (to : Behind) → MayPrecede p.mark.from text ts
      → Weaves F bytes anything (p ∷ run) cs vs to → Weaves F bytes anything (p ∷ run) (change (record { from = p.mark.from; to = p.mark.from }) text ∷ cs) (ts ++ vs) to
  precedes p run text cs ts vs to may inner more ds us w items pre post e tiled placed here =
      let all : List Change = change (record { from = p.mark.from; to = p.mark.from }) text ∷ (cs ++ ds) in
      subst (Woven F bytes pre post all) (sym (append_assoc ts vs us))
      (to_token items bytes pre post p (run ++ more) all (ts ++ (vs ++ us)) e tiled placed (λ pre' post' t.
      (let there = tiled_here bytes pre' post' p (run ++ more) t in
      let behind = inner more ds us w (t.item ∷ t.items) pre' post' t.whole there t.placed tt in
      let here_text = tiled_text F (length pre') post' (t.item ∷ t.items) there in
      let from : p.mark.from ≡ length pre' = begins_at bytes pre' post' p (run ++ more) t in
      let new : List ℕ = join_pieces behind.pieces in
      let glued : Glued (text ++ new) (ts ++ (vs ++ us)) = may.glued new (vs ++ us) (woven_glued behind) in
      let yields : YieldsAt F (length pre') (chars post') (chars (text ++ new)) = subst (λ n. YieldsAt F n (chars post') (chars (text ++ new))) from (may.yields new (chars post') (vs ++ us) (woven_glued behind)) in
      let put = put_text bytes pre' post' pre' post' text (cs ++ ds) ts (vs ++ us) t.whole t.whole (omega arith) here_text here_text behind glued yields in
      on_token bytes pre' post' p (run ++ more) t all (ts ++ (vs ++ us))
      (subst (λ n. Woven F bytes pre' post' (change (record { from = n; to = n }) text ∷ (cs ++ ds)) (ts ++ (vs ++ us))) (sym from) put)))).woven
