-- A piece that moves: its bytes with its own changes are a text by themselves, which is cut into the
-- tokens of what it becomes.
use Rattle.std.proofs.Common.{◌≡◌, ℕ, ◌+◌, false, List, [], ◌∷◌, ◌++◌, length, take, None, refl, sym, ap, ◌∙◌, subst}
use Rattle.std.specs.Str.{IsUtf8, chars}
use Rattle.std.proofs.lemmas.Bool.{false≢true}
use Rattle.std.proofs.lemmas.List.{append_assoc, append-nil, length-append, take_at}
use Rattle.std.proofs.lemmas.Str.{chars-append, chars-nil, IsUtf8-append}
use Rattle.jr_text.specs.declared.spans.Span.{Span}
use Rattle.jr_lex.specs.declared.items.Item.{Item}
use Rattle.jr_lex.specs.declared.items.ItemKind.{ItemKind}
use Rattle.jr_lex.specs.declared.items.ItemKind.TheVariants.{Token as TokenItem, Blank, Comment}
use Rattle.jr_lex.specs.declared.items.TokenKind.{TokenKind}
use Rattle.jr_lex.specs.declared.items.TokenKind.TheVariants.{Word, Keyword, Int, Text, Mark}
use Rattle.jr_lex.specs.Lexes.{span_of as between}
use Rattle.jr_lex.specs.Lexemes.{IsLexeme}
use Rattle.jr_lex.specs.Beside.{EndsBefore, join_pieces}
use Rattle.jr_lex.specs.Near.{IsCut, Near, EndsLine}
use Rattle.jr_lex.proofs.ScanMeaning.{no_empty}
use Rattle.jr_lex.proofs.OneLexeme.{lexeme_cut, cut_near}
use Rattle.jr_grammar.specs.Tokens.{Token, Placed, token_of, placed_of, with_placed}
use Rattle.jr_grammar.specs.Stands.{Tokens, last_to, span_of}
use Rattle.jr_splice.specs.Cutting.{own_token}
use Rattle.jr_splice.proofs.Cut.{own_inside}
use Rattle.jr_splice.proofs.Gluing.{Glued}
use Rattle.jr_rewrite.specs.Respellings.{Change}
use Rattle.jr_rewrite.specs.Woven.{Fronts, IsTile, Tiled, join_changes, with_changes, anything, Weaves}
use Rattle.jr_rewrite.proofs.Steps.{Stepped, olds, changes, news}
use Rattle.jr_rewrite.proofs.Weaving.{woven_glued}
use Rattle.jr_rewrite.proofs.Skipping.{placed_at, placed_token, placed_blank, placed_comment, head_same, tail_same, further, tiled_further}
use Rattle.jr_rewrite.proofs.Woven.{rest_woven, steps_weave}

-- ---- lexemes in front of less

near_prefix : (xs ys : List ℕ) → (xs ≡ [] → ⊥) → Near (xs ++ ys) xs
near_prefix [] ys h = absurd (h refl)
near_prefix (x ∷ []) ys h = (refl, λ dot new. absurd (false≢true new))
near_prefix (x ∷ z ∷ xs) ys h = (refl, λ dot new. new)

line_prefix : (k : ItemKind) (xs ys : List ℕ) → (xs ≡ [] → ⊥) → EndsLine k (xs ++ ys) xs
line_prefix k [] ys h = absurd (h refl)
line_prefix k (x ∷ xs) ys h = λ comment ends. ends

-- at the end of a text a token ends
ends_at_end : (k : TokenKind) → EndsBefore (TokenItem k) []
ends_at_end Word = refl
ends_at_end (Keyword k) = refl
ends_at_end (Int n) = refl
ends_at_end Text = tt
ends_at_end (Mark s) = refl

tile_before : (F : Fronts) (at : ℕ) (i : Item) (f inside rest : List ℕ) → IsUtf8 inside → (chars inside ≡ [] → ⊥) → IsTile F at i f (inside ++ rest) → IsTile F at i f inside
tile_before F at i f inside rest u some t = record {
  place = t.place;
  is_text = t.is_text;
  cut =
      (let cut = subst (IsCut i.kind (chars f)) (chars-append inside rest u) t.cut in
      cut_near i.kind (chars f) (chars inside ++ chars rest) (chars inside) (near_prefix (chars inside) (chars rest) some) (line_prefix i.kind (chars inside) (chars rest) some) cut);
  fronts = t.fronts;
}

last_tile : (F : Fronts) (at : ℕ) (i : Item) (k : TokenKind) (f rest : List ℕ) → i.kind ≡ TokenItem k → IsTile F at i f rest → IsTile F at i f []
last_tile F at i k f rest e t = record {
  place = t.place;
  is_text = t.is_text;
  cut = lexeme_cut i.kind (chars f) (chars []) t.cut.taken.lexeme (subst (λ x. EndsBefore x (chars [])) (sym e) (subst (EndsBefore (TokenItem k)) (sym chars-nil) (ends_at_end k)));
  fronts = t.fronts;
}

-- ---- a run by itself

-- the bytes from a place on that end where the run does, with their items
pub record RunAlone (F : Fronts) (pre post : List ℕ) (run : Tokens) : Type 0 where
  pub inside : List ℕ
  pub rest : List ℕ
  pub items : List Item
  pub whole : post ≡ inside ++ rest
  pub is_text : IsUtf8 inside
  pub some : chars inside ≡ [] → ⊥
  pub tiled : Tiled F (length pre) inside items
  pub placed : placed_of (pre ++ inside) items ≡ run
  pub last : last_to run ≡ length (pre ++ inside)

-- the tokens of an item, whatever stands behind it
item_tokens : (F : Fronts) (pre f post more : List ℕ) (i : Item) (rest : List (Placed Span)) → i.span ≡ between (length pre) (length pre + length f)
    → with_placed i.span (token_of (pre ++ (f ++ post)) i.span i.kind) rest ≡ with_placed i.span (token_of (pre ++ (f ++ more)) i.span i.kind) rest
item_tokens F pre f post more i rest e =
    let own : (x : List ℕ) → token_of (pre ++ (f ++ x)) i.span i.kind ≡ own_token i.kind f =
    λ x. ap (λ s. token_of (pre ++ (f ++ x)) s i.kind) e ∙ own_inside pre f x i.kind in
    ap (λ t. with_placed i.span t rest) (own post ∙ sym (own more))

some_front : (f more : List ℕ) → IsUtf8 f → (chars f ≡ [] → ⊥) → chars (f ++ more) ≡ [] → ⊥
some_front f more u some e = nothing (chars f) (sym (chars-append f more u) ∙ e) some
  where
    nothing : (g : List ℕ) → g ++ chars more ≡ [] → (g ≡ [] → ⊥) → ⊥
    nothing [] e h = h refl
    nothing (c ∷ cs) e h = cc

module _ (F : Fronts) (bytes : List ℕ) where
  -- an item in front of a run that is alone
  more_alone : (pre f r : List ℕ) (i : Item) (run others : Tokens) → IsTile F (length pre) i f r → (a : RunAlone F (pre ++ f) r run)
      → ((x : List ℕ) → with_placed i.span (token_of (pre ++ (f ++ x)) i.span i.kind) run ≡ others) → last_to others ≡ last_to run → RunAlone F pre (f ++ r) others
  more_alone pre f r i run others t a tokens last =
      let tile : IsTile F (length pre) i f a.inside = tile_before F (length pre) i f a.inside a.rest a.is_text a.some (subst (IsTile F (length pre) i f) a.whole t) in
      let grouped : (pre ++ f) ++ a.inside ≡ pre ++ (f ++ a.inside) = append_assoc pre f a.inside in
      let some : chars f ≡ [] → ⊥ = λ none. no_empty i.kind (subst (IsLexeme i.kind) none t.cut.taken.lexeme) in
      record {
        inside = f ++ a.inside;
        rest = a.rest;
        items = i ∷ a.items;
        whole = ap (λ xs. f ++ xs) a.whole ∙ sym (append_assoc f a.inside a.rest);
        is_text = IsUtf8-append f a.inside t.is_text a.is_text;
        some = some_front f a.inside t.is_text some;
        tiled = (f, a.inside, refl, tile, subst (λ n. Tiled F n a.inside a.items) (length-append pre f) a.tiled);
        placed =
            ap (λ xs. with_placed i.span (token_of (pre ++ (f ++ a.inside)) i.span i.kind) xs) (ap (λ b. placed_of b a.items) (sym grouped) ∙ a.placed)
            ∙ tokens a.inside;
        last = last ∙ a.last ∙ ap length grouped;
      }

  -- the last token of a run is alone
  one_alone : (pre f r : List ℕ) (i : Item) (k : TokenKind) (p : Placed Span) → i.kind ≡ TokenItem k → IsTile F (length pre) i f r
      → ((x : List ℕ) → with_placed i.span (token_of (pre ++ (f ++ x)) i.span i.kind) [] ≡ p ∷ []) → p.mark.to ≡ length pre + length f → RunAlone F pre (f ++ r) (p ∷ [])
  one_alone pre f r i k p e t tokens last =
      let some : chars f ≡ [] → ⊥ = λ none. no_empty i.kind (subst (IsLexeme i.kind) none t.cut.taken.lexeme) in
      record {
        inside = f;
        rest = r;
        items = i ∷ [];
        whole = refl;
        is_text = t.is_text;
        some = some;
        tiled = (f, [], sym (append-nil f), last_tile F (length pre) i k f r e t, refl);
        placed = ap (λ b. placed_of b (i ∷ [])) (ap (λ xs. pre ++ xs) (sym (append-nil f))) ∙ tokens [];
        last = last ∙ sym (length-append pre f);
      }

  pub run_alone : (items : List Item) (pre post : List ℕ) (p : Placed Span) (run more : Tokens) → bytes ≡ pre ++ post → Tiled F (length pre) post items
      → placed_of bytes items ≡ p ∷ (run ++ more) → RunAlone F pre post (p ∷ run)
  run_alone [] pre post p run more e tiled placed = absurd cc
  run_alone (i ∷ is) pre post p run more e tiled placed =
      subst (λ xs. RunAlone F pre xs (p ∷ run)) (sym tiled.2)
      (by_kind i.kind refl
      (λ q qs h. run_alone is (pre ++ tiled.0) tiled.1 q qs more (further bytes pre post tiled.0 tiled.1 e tiled.2) (tiled_further F pre tiled.0 tiled.1 is tiled.4) h))
    where
      f : List ℕ
      f = tiled.0

      r : List ℕ
      r = tiled.1

      Again : Type 0
      Again = (q : Placed Span) (qs : Tokens) → placed_of bytes is ≡ q ∷ (qs ++ more) → RunAlone F (pre ++ tiled.0) tiled.1 (q ∷ qs)

      at_bytes : bytes ≡ pre ++ (f ++ r)
      at_bytes = e ∙ ap (λ xs. pre ++ xs) tiled.2

      -- the tokens of this item, in any text in which it stands so
      tokens : (x : List ℕ) (rest : Tokens) → with_placed i.span (token_of (pre ++ (f ++ x)) i.span i.kind) rest ≡ with_placed i.span (token_of bytes i.span i.kind) rest
      tokens x rest = item_tokens F pre f x r i rest tiled.3.place ∙ ap (λ b. with_placed i.span (token_of b i.span i.kind) rest) (sym at_bytes)

      gap : Again → token_of bytes i.span i.kind ≡ None → placed_of bytes is ≡ p ∷ (run ++ more) → RunAlone F pre (f ++ r) (p ∷ run)
      gap again none same =
          more_alone pre f r i (p ∷ run) (p ∷ run) tiled.3 (again p run same)
          (λ x. tokens x (p ∷ run) ∙ ap (λ t. with_placed i.span t (p ∷ run)) none) refl

      token : Again → (k : TokenKind) → i.kind ≡ TokenItem k → placed_at bytes i k ∷ placed_of bytes is ≡ p ∷ (run ++ more) → (qs : Tokens) → run ≡ qs → RunAlone F pre (f ++ r) (p ∷ qs)
      token again k kind same [] no_more =
          one_alone pre f r i k p kind tiled.3 (λ x. tokens x [] ∙ ap (λ y. with_placed i.span (token_of bytes i.span y) []) kind ∙ ap (λ (y : Placed Span). y ∷ []) (head_same _ _ _ _ same))
          (sym (ap (λ (x : Placed Span). x.mark.to) (head_same _ _ _ _ same)) ∙ ap (λ (s : Span). s.to) tiled.3.place)
      token again k kind same (q ∷ qs) is_more =
          more_alone pre f r i (q ∷ qs) (p ∷ q ∷ qs) tiled.3
          (again q qs (tail_same _ _ _ _ same ∙ ap (λ xs. xs ++ more) is_more))
          (λ x. tokens x (q ∷ qs) ∙ ap (λ y. with_placed i.span (token_of bytes i.span y) (q ∷ qs)) kind ∙ ap (λ (y : Placed Span). y ∷ q ∷ qs) (head_same _ _ _ _ same)) refl

      by_kind : (k : ItemKind) → i.kind ≡ k → Again → RunAlone F pre (f ++ r) (p ∷ run)
      by_kind (TokenItem k) kind again = token again k kind (sym (placed_token bytes i is k kind) ∙ placed) run refl
      by_kind Blank kind again = gap again (ap (token_of bytes i.span) kind) (sym (placed_blank bytes i is kind) ∙ placed)
      by_kind Comment kind again = gap again (ap (token_of bytes i.span) kind) (sym (placed_comment bytes i is kind) ∙ placed)

-- ---- what becomes of it

-- Steps over a run that stands there make, of the text that ends with it, a text of their tokens.
pub moved_glued : (F : Fronts) (bytes pre post : List ℕ) (items : List Item) (p : Placed Span) (run more : Tokens) (cs : List Change) (ts : List Token) → bytes ≡ pre ++ post
    → Tiled F (length pre) post items → placed_of bytes items ≡ p ∷ (run ++ more) → p.mark.from ≡ length pre
    → Stepped (Weaves F (take (last_to (p ∷ run)) bytes)) false (p ∷ run) cs ts → Glued (with_changes bytes (span_of (p ∷ run)) cs) ts
moved_glued F bytes pre post items p run more cs ts e tiled placed from s =
    let a : RunAlone F pre post (p ∷ run) = run_alone F bytes items pre post p run more e tiled placed in
    let piece : List ℕ = take (last_to (p ∷ run)) bytes in
    let is_piece : piece ≡ pre ++ a.inside =
    ap (λ n. take n bytes) a.last ∙ ap (take (length (pre ++ a.inside))) (e ∙ ap (λ xs. pre ++ xs) a.whole ∙ sym (append_assoc pre a.inside a.rest)) ∙ take_at (pre ++ a.inside) a.rest (length (pre ++ a.inside)) refl in
    let tokens : placed_of piece a.items ≡ olds s.steps ++ [] = ap (λ b. placed_of b a.items) is_piece ∙ a.placed ∙ sym s.olds_are ∙ sym (append-nil (olds s.steps)) in
    let woven = steps_weave F piece s.steps anything [] [] [] s.flow (λ is pre' post' e' t q here. (rest_woven is piece pre' post' e' t q).woven) a.items pre a.inside is_piece a.tiled tokens tt in
    let g : Glued (join_pieces woven.pieces) (news s.steps ++ []) = woven_glued woven in
    let text : with_changes bytes (span_of (p ∷ run)) cs ≡ join_pieces woven.pieces =
    ap (λ c. join_changes p.mark.from piece c) (sym (append-nil (changes s.steps) ∙ s.changes_are)) ∙ ap (λ n. join_changes n piece (changes s.steps ++ [])) from ∙ woven.text_is in
    subst (λ t. Glued t ts) (sym text) (subst (Glued (join_pieces woven.pieces)) (append-nil (news s.steps) ∙ s.news_are) g)
