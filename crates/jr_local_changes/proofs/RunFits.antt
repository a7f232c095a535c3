-- The changes of a run of tokens lie in its bytes.
use Rattle.std.proofs.Common.{◌≡◌, ℕ, ◌≤◌, false, List, [], ◌∷◌, ◌++◌, length, refl, sym, ap, ◌∙◌, subst, arith}
use Rattle.std.specs.List.{All}
use Rattle.std.specs.Str.{IsCharBoundary}
use Rattle.std.proofs.lemmas.List.{append-nil, length-append}
use Rattle.std.proofs.lemmas.List.Elements.{All-nil, All-cons}
use Rattle.std.proofs.lemmas.Str.{IsCharBoundary-at_seam}
use Rattle.jr_text.specs.declared.spans.Span.{Span}
use Rattle.jr_lex.specs.declared.items.Item.{Item}
use Rattle.jr_grammar.specs.Tokens.{Token, Placed, kinds}
use Rattle.jr_grammar.specs.Stands.{Tokens, last_to, span_of}
use Rattle.jr_rewrite.specs.Respellings.{Change}
use Rattle.jr_rewrite.specs.Woven.{Fit, Woven, Weaves, anything}
use Rattle.jr_rewrite.proofs.Steps.{Stepped, olds, changes, news, end_of}
use Rattle.jr_rewrite.proofs.Tiles.{tiled_text}
use Rattle.jr_rewrite.proofs.Moved.{RunAlone, run_alone}
use Rattle.jr_rewrite.proofs.Woven.{rest_woven, steps_weave}
use Rattle.jr_moved_texts.specs.Moved.{anywhere, nowhere_weaves, RunStands}
use Rattle.jr_moved_texts.proofs.Tiling.{no_weaving, unchanged}
use Rattle.jr_moved_texts.proofs.Boundaries.{Behind}
use Rattle.jr_local_changes.specs.PieceChanges.{PieceFits}

end_within : (at : ℕ) (bytes : List ℕ) (cs : List Change) → Fit at bytes cs → at ≤ length bytes
end_within at bytes [] h = h
end_within at bytes (c ∷ cs) h = omega (arith, h.0, h.1, end_within c.span.to bytes cs h.4)

-- changes that fit in the first bytes end there
all_within : (at : ℕ) (bytes : List ℕ) (cs : List Change) → Fit at bytes cs → All (λ (c : Change). c.span.to ≤ length bytes) cs
all_within at bytes [] h = All-nil (λ (c : Change). c.span.to ≤ length bytes)
all_within at bytes (c ∷ cs) h = All-cons (λ (d : Change). d.span.to ≤ length bytes) c cs (end_within c.span.to bytes cs h.4) (all_within c.span.to bytes cs h.4)

module _ (bytes : List ℕ) (p : Placed Span) (run : Tokens) (items : List Item) (cs : List Change) (ts : List Token) (stands : RunStands bytes p run) (behind : Behind 0 bytes items (last_to (p ∷ run))) (s : Stepped nowhere_weaves false (p ∷ run) cs ts) where
  abbrev pre : List ℕ
  pre = stands.pre

  alone : RunAlone anywhere pre stands.post (p ∷ run)
  alone = run_alone anywhere bytes stands.items pre stands.post p run stands.more stands.whole stands.tiled stands.placed

  abbrev short : List ℕ
  short = pre ++ alone.inside

  cs_are : changes s.steps ++ [] ≡ cs
  cs_are = append-nil (changes s.steps) ∙ s.changes_are

  -- in front of all that stands behind the run
  all_woven : Woven anywhere bytes pre stands.post (changes s.steps ++ []) (news s.steps ++ kinds stands.more)
  all_woven =
      steps_weave anywhere bytes s.steps anything stands.more [] (kinds stands.more) (no_weaving (Weaves anywhere bytes) anything s.steps s.flow) (unchanged bytes stands.more (end_of anything s.steps)) stands.items pre stands.post stands.whole stands.tiled
      (stands.placed ∙ ap (λ ps. ps ++ stands.more) (sym s.olds_are)) tt

  -- and where the text ends with it
  short_woven : Woven anywhere short pre alone.inside (changes s.steps ++ []) (news s.steps ++ [])
  short_woven =
      steps_weave anywhere short s.steps anything [] [] [] (no_weaving (Weaves anywhere short) anything s.steps s.flow) (λ is' pre' post' e' t' q here. (rest_woven is' short pre' post' e' t' q).woven) alone.items pre alone.inside refl alone.tiled
      (alone.placed ∙ sym s.olds_are ∙ sym (append-nil (olds s.steps))) tt

  fit_all : Fit p.mark.from bytes cs
  fit_all = subst (λ n. Fit n bytes cs) (sym stands.from) (subst (Fit (length pre) bytes) cs_are all_woven.fit)

  fit_short : Fit (length pre) short cs
  fit_short = subst (Fit (length pre) short) cs_are short_woven.fit

  starts : IsCharBoundary bytes p.mark.from
  starts = subst (IsCharBoundary bytes) (sym stands.from) (IsCharBoundary-at_seam bytes pre stands.post stands.whole (tiled_text anywhere (length pre) stands.post stands.items stands.tiled))

  stops : IsCharBoundary bytes (last_to (p ∷ run))
  stops =
      let e : length behind.front ≡ last_to (p ∷ run) = omega (arith, behind.stands) in
      subst (IsCharBoundary bytes) e (IsCharBoundary-at_seam bytes behind.front behind.rest behind.whole (tiled_text anywhere (last_to (p ∷ run)) behind.rest behind.items_behind behind.tiled))

  ordered : p.mark.from ≤ last_to (p ∷ run)
  ordered = omega (arith, stands.from, alone.last, length-append pre alone.inside)

  within : last_to (p ∷ run) ≤ length bytes
  within = omega (arith, behind.stands, ap length behind.whole, length-append behind.front behind.rest)

  pub run_fits : PieceFits bytes (span_of (p ∷ run)) cs
  run_fits = record {
    cut = record { ordered = ordered; within = within; start = starts; stop = stops };
    fit = fit_all;
    within = subst (λ n. All (λ (c : Change). c.span.to ≤ n) cs) (sym alone.last) (all_within (length pre) short cs fit_short);
  }
