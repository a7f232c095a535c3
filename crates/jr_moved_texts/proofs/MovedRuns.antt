-- A run that moves in front of another text: it is cut into the tokens that it becomes.
use Rattle.std.proofs.Common.{◌≡◌, ℕ, suc, zero, ◌+◌, ◌-◌, ◌≤◌, true, List, [], ◌∷◌, ◌++◌, length, take, drop, refl, sym, ap, ◌∙◌, subst, arith}
use Rattle.std.specs.Prelude.{slice_range}
use Rattle.std.specs.Str.{chars}
use Rattle.std.proofs.lemmas.Str.{chars-nil, chars-append}
use Rattle.std.proofs.lemmas.List.{append_assoc, append-nil, length-append, length-drop, take_at, take-append-le}
use Rattle.jr_text.specs.declared.spans.Span.{Span}
use Rattle.jr_lex.specs.declared.items.Item.{Item}
use Rattle.jr_lex.specs.declared.items.ItemKind.{ItemKind}
use Rattle.jr_lex.specs.declared.items.ItemKind.TheVariants.{Token as TokenItem, Blank, Comment}
use Rattle.jr_lex.specs.declared.items.TokenKind.{TokenKind}
use Rattle.jr_lex.specs.declared.items.TokenKind.TheVariants.{Word, Keyword, Int, Text, Mark}
use Rattle.jr_lex.specs.Lexemes.{IsLexeme}
use Rattle.jr_lex.specs.Beside.{EndsBefore, token_beside, join_pieces, items_from}
use Rattle.jr_lex.proofs.BesideLaws.{lets_end}
use Rattle.jr_grammar.specs.Tokens.{Placed, token_of_kind, placed_of, kinds}
use Rattle.jr_grammar.specs.Stands.{Tokens, last_to, span_of}
use Rattle.jr_splice.proofs.Gluing.{Glued}
use Rattle.jr_rewrite.specs.Respellings.{Change}
use Rattle.jr_rewrite.specs.Woven.{YieldsAt, Tiled, Fit, join_changes, with_changes, anything, Woven, Weaves}
use Rattle.jr_rewrite.proofs.Steps.{olds, changes, news, end_of}
use Rattle.jr_rewrite.proofs.Skipping.{placed_at, placed_token, placed_blank, placed_comment, head_same, tail_same}
use Rattle.jr_rewrite.proofs.Moved.{RunAlone, run_alone}
use Rattle.jr_rewrite.proofs.Woven.{rest_woven, steps_weave}
use Rattle.jr_rewrite.proofs.Weaving.{woven_glued}
use Rattle.jr_moved_texts.specs.Spaces.{kind_of}
use Rattle.jr_moved_texts.specs.Moved.{anywhere, EndsWith, RunsMove}
use Rattle.jr_moved_texts.proofs.Tiling.{pieces_tiled, EndsIn, tiled_before, placed_append, placed_more, pieces_kinds, no_weaving, unchanged, some_lexeme}

-- ---- changes in front of more text

drop_front : (n : ℕ) (xs ys : List ℕ) → n ≤ length xs → drop n (xs ++ ys) ≡ drop n xs ++ ys
drop_front zero xs ys h = refl
drop_front (suc n) [] ys h = absurd (omega (arith, h))
drop_front (suc n) (x ∷ xs) ys h = drop_front n xs ys (omega (arith, h))

slice_front : (xs ys : List ℕ) (from to : ℕ) → from ≤ to → to ≤ length xs → slice_range (xs ++ ys) from to ≡ slice_range xs from to
slice_front xs ys from to le within =
    ap (take (to - from)) (drop_front from xs ys (omega (arith, le, within)))
    ∙ take-append-le (to - from) (drop from xs) ys (omega (arith, le, within, length-drop from xs))

fit_within : (at : ℕ) (bytes : List ℕ) (cs : List Change) → Fit at bytes cs → at ≤ length bytes
fit_within at bytes [] h = h
fit_within at bytes (c ∷ cs) h = omega (arith, h.0, h.1, fit_within c.span.to bytes cs h.4)

changes_front : (at : ℕ) (bytes new : List ℕ) (cs : List Change) → Fit at bytes cs → join_changes at (bytes ++ new) cs ≡ join_changes at bytes cs ++ new
changes_front at bytes new [] h = drop_front at bytes new h
changes_front at bytes new (c ∷ cs) h =
    let within : c.span.to ≤ length bytes = fit_within c.span.to bytes cs h.4 in
    (λ i. slice_front bytes new at c.span.from h.0 (omega (arith, h.1, within)) i ++ c.text ++ changes_front c.span.to bytes new cs h.4 i)
    ∙ grouped (slice_range bytes at c.span.from) c.text (join_changes c.span.to bytes cs) new
  where
    grouped : (a b c d : List ℕ) → a ++ b ++ (c ++ d) ≡ (a ++ b ++ c) ++ d
    grouped a b c d = simp append_assoc

-- ---- the last item of a run

pub kind_there : (bytes : List ℕ) (s : Span) (k : TokenKind) → kind_of (token_of_kind bytes s k) ≡ k
kind_there bytes s Word = refl
kind_there bytes s (Keyword k) = refl
kind_there bytes s (Int n) = refl
kind_there bytes s Text = refl
kind_there bytes s (Mark m) = refl

pub no_tokens : (q : Placed Span) (qs : Tokens) → (let none : Tokens = [] in none ≡ q ∷ qs) → ⊥
no_tokens q qs e = cc

ends_in : (bytes : List ℕ) (items : List Item) (at : ℕ) (inside : List ℕ) (k : TokenKind) (q : Placed Span) (qs : Tokens) → Tiled anywhere at inside items
    → placed_of bytes items ≡ q ∷ qs → last_to (q ∷ qs) ≡ at + length inside → EndsWith k (q ∷ qs) → EndsIn k items
ends_in bytes [] at inside k q qs tiled placed last ends = absurd (no_tokens q qs placed)
ends_in bytes (i ∷ []) at inside k q qs tiled placed last ends = by_kind i.kind refl
  where
    by_kind : (of : ItemKind) → i.kind ≡ of → i.kind ≡ TokenItem k
    by_kind (TokenItem of) e = one qs (sym (placed_token bytes i [] of e) ∙ placed) ends
      where
        one : (rs : Tokens) → placed_at bytes i of ∷ [] ≡ q ∷ rs → EndsWith k (q ∷ rs) → i.kind ≡ TokenItem k
        one [] same h = e ∙ ap TokenItem (sym (kind_there bytes i.span of) ∙ ap (λ (x : Placed Span). kind_of x.token) (head_same _ _ _ _ same) ∙ h)
        one (r ∷ rs) same h = absurd (no_tokens r rs (tail_same _ _ _ _ same))
    by_kind Blank e = absurd (no_tokens q qs (sym (placed_blank bytes i [] e) ∙ placed))
    by_kind Comment e = absurd (no_tokens q qs (sym (placed_comment bytes i [] e) ∙ placed))
ends_in bytes (i ∷ j ∷ is) at inside k q qs tiled placed last ends =
    by_kind i.kind refl (λ p ps same to h. ends_in bytes (j ∷ is) (at + length tiled.0) tiled.1 k p ps tiled.4 same to h)
  where
    f : List ℕ
    f = tiled.0

    r : List ℕ
    r = tiled.1

    total : length inside ≡ length f + length r
    total = ap length tiled.2 ∙ length-append f r

    Again : Type 0
    Again = (p : Placed Span) (ps : Tokens) → placed_of bytes (j ∷ is) ≡ p ∷ ps → last_to (p ∷ ps) ≡ at + length tiled.0 + length tiled.1 → EndsWith k (p ∷ ps) → EndsIn k (j ∷ is)

    some_bytes : (bs : List ℕ) → (chars bs ≡ [] → ⊥) → bs ≡ [] → ⊥
    some_bytes bs h e = h (ap chars e ∙ chars-nil)

    short : (r a b : List ℕ) → r ≡ a ++ b → (a ≡ [] → ⊥) → length r ≡ 0 → ⊥
    short r [] b e h l = h refl
    short r (x ∷ a) b e h l = omega (arith, ap length e, l)

    some : Again → (of : TokenKind) (rs : Tokens) → placed_at bytes i of ∷ placed_of bytes (j ∷ is) ≡ q ∷ rs → last_to (q ∷ rs) ≡ at + length inside → EndsWith k (q ∷ rs) → EndsIn k (j ∷ is)
    some again of (p ∷ rs) same to h = again p rs (tail_same _ _ _ _ same) (omega (arith, to, total)) h
    some again of [] same to h =
        let here : q.mark.to ≡ at + length f = sym (ap (λ (x : Placed Span). x.mark.to) (head_same _ _ _ _ same)) ∙ ap (λ (s : Span). s.to) tiled.3.place in
        absurd (short r tiled.4.0 tiled.4.1 tiled.4.2 (some_bytes tiled.4.0 (some_lexeme tiled.4.3)) (omega (arith, here, to, total)))

    by_kind : (of : ItemKind) → i.kind ≡ of → Again → EndsIn k (j ∷ is)
    by_kind Blank e again = again q qs (sym (placed_blank bytes i (j ∷ is) e) ∙ placed) (omega (arith, last, total)) ends
    by_kind Comment e again = again q qs (sym (placed_comment bytes i (j ∷ is) e) ∙ placed) (omega (arith, last, total)) ends
    by_kind (TokenItem of) e again = some again of qs (sym (placed_token bytes i (j ∷ is) of e) ∙ placed) last ends

-- ---- the first item of a run

-- tokens begin where the text does, or behind it
pub not_before : (bytes : List ℕ) (items : List Item) (at : ℕ) (inside : List ℕ) (q : Placed Span) (qs : Tokens) → Tiled anywhere at inside items → placed_of bytes items ≡ q ∷ qs → at ≤ q.mark.from
not_before bytes [] at inside q qs tiled placed = absurd (no_tokens q qs placed)
not_before bytes (i ∷ is) at inside q qs tiled placed = by_kind i.kind refl (λ same. not_before bytes is (at + length tiled.0) tiled.1 q qs tiled.4 same)
  where
    Again : Type 0
    Again = placed_of bytes is ≡ q ∷ qs → at + length tiled.0 ≤ q.mark.from

    by_kind : (of : ItemKind) → i.kind ≡ of → Again → at ≤ q.mark.from
    by_kind (TokenItem of) e again =
        let same : placed_at bytes i of ≡ q = head_same _ _ _ _ (sym (placed_token bytes i is of e) ∙ placed) in
        let here : q.mark.from ≡ at = sym (ap (λ (x : Placed Span). x.mark.from) same) ∙ ap (λ (s : Span). s.from) tiled.3.place in
        omega (arith, here)
    by_kind Blank e again = omega (arith, again (sym (placed_blank bytes i is e) ∙ placed))
    by_kind Comment e again = omega (arith, again (sym (placed_comment bytes i is e) ∙ placed))

-- where a token may stand directly in front of the first of a run, it ends there
begins_with : (bytes : List ℕ) (items : List Item) (at : ℕ) (inside new : List ℕ) (q : Placed Span) (qs : Tokens) → Tiled anywhere at inside items → placed_of bytes items ≡ q ∷ qs → q.mark.from ≡ at
    → (k : TokenKind) → token_beside k (kind_of q.token) ≡ true → EndsBefore (TokenItem k) (chars (inside ++ new))
begins_with bytes [] at inside new q qs tiled placed from k h = absurd (no_tokens q qs placed)
begins_with bytes (i ∷ is) at inside new q qs tiled placed from k h = by_kind i.kind refl
  where
    far : length tiled.0 ≡ 0 → ⊥
    far none = some_lexeme tiled.3 (empty tiled.0 none)
      where
        empty : (bs : List ℕ) → length bs ≡ 0 → chars bs ≡ []
        empty [] l = chars-nil
        empty (b ∷ bs) l = absurd (omega (arith, l))

    behind : placed_of bytes is ≡ q ∷ qs → ⊥
    behind same = far (omega (arith, from, not_before bytes is (at + length tiled.0) tiled.1 q qs tiled.4 same))

    by_kind : (of : ItemKind) → i.kind ≡ of → EndsBefore (TokenItem k) (chars (inside ++ new))
    by_kind (TokenItem of) e =
        let same : placed_at bytes i of ≡ q = head_same _ _ _ _ (sym (placed_token bytes i is of e) ∙ placed) in
        let is_of : kind_of q.token ≡ of = sym (ap (λ (x : Placed Span). kind_of x.token) same) ∙ kind_there bytes i.span of in
        let lexeme : IsLexeme (TokenItem of) (chars tiled.0) = subst (λ x. IsLexeme x (chars tiled.0)) e tiled.3.cut.taken.lexeme in
        let text : chars (inside ++ new) ≡ chars tiled.0 ++ chars (tiled.1 ++ new) =
        ap chars (ap (λ b. b ++ new) tiled.2 ∙ append_assoc tiled.0 tiled.1 new) ∙ chars-append tiled.0 (tiled.1 ++ new) tiled.3.is_text in
        subst (EndsBefore (TokenItem k)) (sym text) (lets_end (TokenItem k) (TokenItem of) (chars tiled.0) (chars (tiled.1 ++ new)) (ap (token_beside k) (sym is_of) ∙ h) lexeme)
    by_kind Blank e = absurd (behind (sym (placed_blank bytes i is e) ∙ placed))
    by_kind Comment e = absurd (behind (sym (placed_comment bytes i is e) ∙ placed))

-- ---- the run

pub runs_move : RunsMove
runs_move bytes p run cs ts k new us stands ends no_dot s g before =
    let pre : List ℕ = stands.pre in
    let a : RunAlone anywhere pre stands.post (p ∷ run) = run_alone anywhere bytes stands.items pre stands.post p run stands.more stands.whole stands.tiled stands.placed in
    let old : List ℕ = a.inside in
    let short : List ℕ = pre ++ old in
    let is : take (last_to (p ∷ run)) bytes ≡ short =
    ap (λ n. take n bytes) a.last ∙ ap (take (length short)) (stands.whole ∙ ap (λ xs. pre ++ xs) a.whole ∙ sym (append_assoc pre old a.rest)) ∙ take_at short a.rest (length short) refl in
    let last : last_to (p ∷ run) ≡ length pre + length old = a.last ∙ length-append pre old in
    let last_item : EndsIn k a.items = ends_in short a.items (length pre) old k p run a.tiled a.placed last ends in
    let others : List Item = items_from (length pre + length old) g.pieces in
    let new_tiled : Tiled anywhere (length pre + length old) new others = subst (λ b. Tiled anywhere (length pre + length old) b others) g.text_is (pieces_tiled g.pieces g.cut (length pre + length old)) in
    let tiled : Tiled anywhere (length pre) (old ++ new) (a.items ++ others) = tiled_before (length pre) old a.items k new others a.tiled last_item no_dot before new_tiled in
    let long : List ℕ = pre ++ (old ++ new) in
    let more : Tokens = placed_of long others in
    let grouped : short ++ new ≡ long = append_assoc pre old new in
    let inner : placed_of long a.items ≡ p ∷ run = placed_more a.items pre old new [] a.tiled ∙ ap (λ b. placed_of (pre ++ b) a.items) (append-nil old) ∙ a.placed in
    let placed : placed_of long (a.items ++ others) ≡ olds s.steps ++ more = placed_append long a.items others ∙ ap (λ ps. ps ++ more) (inner ∙ sym s.olds_are) in
    let others_are : kinds more ≡ us =
    ap (λ b. kinds (placed_of b others)) (sym grouped ∙ ap (λ b. short ++ b) (sym g.text_is))
    ∙ ap (λ n. kinds (placed_of (short ++ join_pieces g.pieces) (items_from n g.pieces))) (sym (length-append pre old))
    ∙ pieces_kinds g.pieces short ∙ g.tokens_are in
    let w : Woven anywhere long pre (old ++ new) (changes s.steps ++ []) (news s.steps ++ kinds more) =
    steps_weave anywhere long s.steps anything more [] (kinds more) (no_weaving (Weaves anywhere long) anything s.steps s.flow) (unchanged long more (end_of anything s.steps)) (a.items ++ others) pre (old ++ new) refl tiled placed tt in
    let alone : Woven anywhere short pre old (changes s.steps ++ []) (news s.steps ++ []) =
    steps_weave anywhere short s.steps anything [] [] [] (no_weaving (Weaves anywhere short) anything s.steps s.flow) (λ is' pre' post' e' t' q here. (rest_woven is' short pre' post' e' t' q).woven) a.items pre old refl a.tiled
    (a.placed ∙ sym s.olds_are ∙ sym (append-nil (olds s.steps))) tt in
    let cs_are : changes s.steps ++ [] ≡ cs = append-nil (changes s.steps) ∙ s.changes_are in
    let text : with_changes bytes (span_of (p ∷ run)) cs ++ new ≡ join_pieces w.pieces =
    ap (λ b. join_changes p.mark.from b cs ++ new) is
    ∙ ap (λ n. join_changes n short cs ++ new) stands.from
    ∙ sym (changes_front (length pre) short new cs (subst (Fit (length pre) short) cs_are alone.fit))
    ∙ ap (λ b. join_changes (length pre) b cs) grouped
    ∙ ap (join_changes (length pre) long) (sym cs_are)
    ∙ w.text_is in
    let glued : Glued (join_pieces w.pieces) (ts ++ us) = subst (Glued (join_pieces w.pieces)) (λ i. s.news_are i ++ others_are i) (woven_glued w) in
    record {
      old = chars (old ++ new);
      glued = subst (λ t. Glued t (ts ++ us)) (sym text) glued;
      yields = subst (λ t. YieldsAt anywhere p.mark.from (chars (old ++ new)) (chars t)) (sym text) (subst (λ n. YieldsAt anywhere n (chars (old ++ new)) (chars (join_pieces w.pieces))) (sym stands.from) w.yields);
      begins = begins_with short a.items (length pre) old new p run a.tiled a.placed stands.from;
    }
