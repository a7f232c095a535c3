-- Steps over a text's tokens make a text of the new tokens.
use Rattle.std.proofs.Common.{◌≡◌, ℕ, ◌+◌, true, false, List, [], ◌∷◌, ◌++◌, length, Some, None, refl, sym, ap, ◌∙◌, subst, arith, inl, inr}
use Rattle.std.specs.Str.{chars}
use Rattle.std.proofs.lemmas.List.{append_assoc, append-nil, length-append}
use Rattle.std.proofs.lemmas.Str.{chars-append}
use Rattle.jr_text.specs.declared.spans.Span.{Span}
use Rattle.jr_lex.specs.declared.items.Item.{Item}
use Rattle.jr_lex.specs.declared.items.ItemKind.{ItemKind}
use Rattle.jr_lex.specs.declared.items.ItemKind.TheVariants.{Token as TokenItem, Blank, Comment}
use Rattle.jr_lex.specs.declared.items.TokenKind.{TokenKind}
use Rattle.jr_lex.specs.declared.items.TokenKind.TheVariants.{Word, Keyword, Int, Text, Mark}
use Rattle.jr_lex.specs.Characters.{is_blank, is_word_start, is_word_part, first_passes}
use Rattle.jr_lex.specs.Words.{IsIdentifier}
use Rattle.jr_lex.specs.Lexemes.{IsLexeme}
use Rattle.jr_lex.specs.Replacing.{IsName}
use Rattle.jr_lex.specs.Beside.{join_pieces}
use Rattle.jr_lex.specs.Near.{IsCut, EndsLine}
use Rattle.jr_lex.proofs.ScanMeaning.{no_empty}
use Rattle.jr_lex.proofs.OneLexeme.{token_no_blank, lexeme_cut}
use Rattle.jr_lex.proofs.Seams.{no_line, word_stops}
use Rattle.jr_lex.proofs.Yields.{paren_yields}
use Rattle.jr_grammar.specs.Tokens.{Token, Placed, token_of_kind, placed_of}
use Rattle.jr_grammar.specs.Stands.{Tokens, last_to, span_of}
use Rattle.jr_rewrite.specs.Respellings.{Front, by_cast, front_text, cast_text, Change}
use Rattle.jr_rewrite.specs.Rewritten.{change}
use Rattle.jr_splice.specs.Cutting.{with_token, own_token}
use Rattle.jr_splice.proofs.Cut.{own_inside}
use Rattle.jr_splice.proofs.Gluing.{Glued}
use Rattle.jr_rewrite.proofs.Parts.{Part, space, part_is_text, part_has_chars, part_lexeme, join, join_chars, respelled_parts, cast_parts, tokens, respelled_join, cast_join, respelled_lined, cast_lined, close_lined}
use Rattle.jr_rewrite.specs.Woven.{Fronts, MayFront, YieldsAt, IsTile, Tiled, Woven, Behind, anything, no_indent, token_to, StandsBehind, WovenFrom, Weaves}
use Rattle.jr_rewrite.proofs.Tiles.{tiled_text}
use Rattle.jr_rewrite.proofs.Firsts.{word_first, keyword_first, goes_on, respelled_yields}
use Rattle.jr_rewrite.proofs.Steps.{Step, stay, cast, swap, close, weave, end_of, olds, changes, news, BeginAt, IsWordLike, IsWord, IsSwap, Suffices, Flow}
use Rattle.jr_rewrite.proofs.Weaving.{WovenOn, yields_at, woven_glued, kept_glued, end_woven, keep_woven, put_woven}
use Rattle.jr_rewrite.proofs.Skipping.{placed_at, placed_token, placed_blank, placed_comment, head_same, tail_same, further, tiled_further, token_no_indent, Skipped, skip_run}

-- ---- up to the first token

-- a lexeme may stand where it ends
fronts_there : {F : Fronts} (pre f : List ℕ) {rest : List ℕ} (i : Item) → IsTile F (length pre) i f rest → MayFront F (length (pre ++ f)) i.kind
fronts_there {F = F} pre f i tile = subst (λ n. MayFront F n i.kind) (sym (length-append pre f)) tile.fronts

-- a lexeme that is no token stays
pub gap_woven : {F : Fronts} (bytes pre post f rest : List ℕ) (i : Item) (is : List Item) (cs : List Change) (ts : List Token) → bytes ≡ pre ++ post → post ≡ f ++ rest → IsTile F (length pre) i f rest
    → own_token i.kind f ≡ None → WovenOn F bytes (pre ++ f) rest cs ts → WovenOn F bytes pre post cs ts
gap_woven {F = F} bytes pre post f rest i is cs ts e g tile none w =
    let kept = keep_woven bytes pre f rest i.kind cs ts (e ∙ ap (λ xs. pre ++ xs) g) tile.is_text tile.cut (fronts_there pre f i tile) w.woven (w.line i.kind) in
    subst (λ p. WovenOn F bytes pre p cs ts) (sym g) (subst (λ o. WovenOn F bytes pre (f ++ rest) cs (with_token o ts)) none kept)

pub blank_none : (kind : ItemKind) (f : List ℕ) → kind ≡ Blank → own_token kind f ≡ None
blank_none kind f e = ap (λ k. own_token k f) e

pub comment_none : (kind : ItemKind) (f : List ℕ) → kind ≡ Comment → own_token kind f ≡ None
comment_none kind f e = ap (λ k. own_token k f) e

-- no token is left
pub rest_woven : {F : Fronts} (items : List Item) (bytes pre post : List ℕ) → bytes ≡ pre ++ post → Tiled F (length pre) post items → placed_of bytes items ≡ [] → WovenOn F bytes pre post [] []
rest_woven {F = F} [] bytes pre post e tiled none = subst (λ p. WovenOn F bytes pre p [] []) (sym tiled) (end_woven bytes pre (e ∙ ap (λ xs. pre ++ xs) tiled))
rest_woven {F = F} (i ∷ is) bytes pre post e tiled none =
    by_kind i.kind refl (λ h. rest_woven is bytes (pre ++ tiled.0) tiled.1 (further bytes pre post tiled.0 tiled.1 e tiled.2) (tiled_further F pre tiled.0 tiled.1 is tiled.4) h)
  where
    by_kind : (k : ItemKind) → i.kind ≡ k → (placed_of bytes is ≡ [] → WovenOn F bytes (pre ++ tiled.0) tiled.1 [] []) → WovenOn F bytes pre post [] []
    by_kind (TokenItem k) kind again = (let some : placed_at bytes i k ∷ placed_of bytes is ≡ [] = sym (placed_token bytes i is k kind) ∙ none in absurd cc)
    by_kind Blank kind again =
        gap_woven bytes pre post tiled.0 tiled.1 i is [] [] e tiled.2 tiled.3 (blank_none i.kind tiled.0 kind) (again (sym (placed_blank bytes i is kind) ∙ none))
    by_kind Comment kind again =
        gap_woven bytes pre post tiled.0 tiled.1 i is [] [] e tiled.2 tiled.3 (comment_none i.kind tiled.0 kind) (again (sym (placed_comment bytes i is kind) ∙ none))

-- a token stands at the place, and these behind it
pub record AtToken (F : Fronts) (bytes pre post : List ℕ) (ps : Tokens) : Type 0 where
  pub front : List ℕ
  pub rest : List ℕ
  pub item : Item
  pub items : List Item
  pub kind : TokenKind
  pub whole : bytes ≡ pre ++ post
  pub parts : post ≡ front ++ rest
  pub tile : IsTile F (length pre) item front rest
  pub tiled : Tiled F (length pre + length front) rest items
  pub is : item.kind ≡ TokenItem kind
  pub placed : placed_of bytes (item ∷ items) ≡ ps

-- It is enough to go on from the first token.
pub to_token : {F : Fronts} (items : List Item) (bytes pre post : List ℕ) (p : Placed Span) (ps : Tokens) (cs : List Change) (ts : List Token) → bytes ≡ pre ++ post → Tiled F (length pre) post items
    → placed_of bytes items ≡ p ∷ ps
    → ((pre' post' : List ℕ) → AtToken F bytes pre' post' (p ∷ ps) → WovenOn F bytes pre' post' cs ts)
    → WovenOn F bytes pre post cs ts
to_token {F = F} [] bytes pre post p ps cs ts e tiled placed on = absurd cc
to_token {F = F} (i ∷ is) bytes pre post p ps cs ts e tiled placed on =
    by_kind i.kind refl (λ h. to_token is bytes (pre ++ tiled.0) tiled.1 p ps cs ts (further bytes pre post tiled.0 tiled.1 e tiled.2) (tiled_further F pre tiled.0 tiled.1 is tiled.4) h on)
  where
    by_kind : (k : ItemKind) → i.kind ≡ k → (placed_of bytes is ≡ p ∷ ps → WovenOn F bytes (pre ++ tiled.0) tiled.1 cs ts) → WovenOn F bytes pre post cs ts
    by_kind (TokenItem k) kind again =
        on pre post (record { front = tiled.0; rest = tiled.1; item = i; items = is; kind = k; whole = e; parts = tiled.2; tile = tiled.3; tiled = tiled.4; is = kind; placed = placed })
    by_kind Blank kind again =
        gap_woven bytes pre post tiled.0 tiled.1 i is cs ts e tiled.2 tiled.3 (blank_none i.kind tiled.0 kind) (again (sym (placed_blank bytes i is kind) ∙ placed))
    by_kind Comment kind again =
        gap_woven bytes pre post tiled.0 tiled.1 i is cs ts e tiled.2 tiled.3 (comment_none i.kind tiled.0 kind) (again (sym (placed_comment bytes i is kind) ∙ placed))

-- a space in front of anything
space_glued : (text : List ℕ) (ts : List Token) → Glued text ts → Glued ((32 ∷ []) ++ text) ts
space_glued text ts g = kept_glued Blank (32 ∷ []) [] text ts (part_is_text space tt)
    (subst (λ f. IsCut Blank f []) (sym (part_has_chars space)) (lexeme_cut Blank (32 ∷ []) [] (part_lexeme space tt) refl)) g (inl refl)

-- ---- at a token

module _ {F : Fronts} (bytes pre post : List ℕ) (p : Placed Span) (ps : Tokens) (t : AtToken F bytes pre post (p ∷ ps)) where
  lexeme : IsLexeme (TokenItem t.kind) (chars t.front)
  lexeme = subst (λ k. IsLexeme k (chars t.front)) t.is t.tile.cut.taken.lexeme

  characters : chars post ≡ chars t.front ++ chars t.rest
  characters = ap chars t.parts ∙ chars-append t.front t.rest t.tile.is_text

  no_blank : first_passes is_blank (chars post) ≡ false
  no_blank = ap (first_passes is_blank) characters ∙ token_no_blank t.kind (chars t.front) (chars t.rest) lexeme

  some : chars post ≡ [] → ⊥
  some e = nothing (chars t.front) (sym characters ∙ e) (λ n. no_empty t.item.kind (subst (IsLexeme t.item.kind) n t.tile.cut.taken.lexeme))
    where
      nothing : (f : List ℕ) → f ++ chars t.rest ≡ [] → (f ≡ [] → ⊥) → ⊥
      nothing [] e h = h refl
      nothing (c ∷ cs) e h = cc

  line : (k : ItemKind) (other : List ℕ) → EndsLine k (chars post) other
  line k other = no_line k (chars post) other (goes_on (chars post) some no_blank)

  -- what is made of it ends lines where they ended
  pub on_token : (cs : List Change) (ts : List Token) → Woven F bytes pre post cs ts → WovenOn F bytes pre post cs ts
  on_token cs ts w = record { woven = w; line = λ k. line k (chars (join_pieces w.pieces)) }

  first_is : placed_at bytes t.item t.kind ≡ p
  first_is = head_same _ _ _ _ (sym (placed_token bytes t.item t.items t.kind t.is) ∙ t.placed)

  behind_are : placed_of bytes t.items ≡ ps
  behind_are = tail_same _ _ _ _ (sym (placed_token bytes t.item t.items t.kind t.is) ∙ t.placed)

  pub begins_at : p.mark.from ≡ length pre
  begins_at = sym (ap (λ (x : Placed Span). x.mark.from) first_is) ∙ ap (λ (s : Span). s.from) t.tile.place

  ends_at : p.mark.to ≡ length (pre ++ t.front)
  ends_at = sym (ap (λ (x : Placed Span). x.mark.to) first_is) ∙ ap (λ (s : Span). s.to) t.tile.place ∙ sym (length-append pre t.front)

  stands_behind : StandsBehind (token_to p.mark.to) (pre ++ t.front) t.rest
  stands_behind = (ends_at, inr (token_no_indent pre t.front t.rest t.item t.kind t.is t.tile))

  whole_behind : bytes ≡ (pre ++ t.front) ++ t.rest
  whole_behind = further bytes pre post t.front t.rest t.whole t.parts

  pub tiled_here : Tiled F (length pre) post (t.item ∷ t.items)
  tiled_here = (t.front, t.rest, t.parts, t.tile, t.tiled)

  tiled_behind : Tiled F (length (pre ++ t.front)) t.rest t.items
  tiled_behind = tiled_further F pre t.front t.rest t.items t.tiled

  own : own_token t.item.kind t.front ≡ Some p.token
  own =
      ap (λ k. own_token k t.front) t.is
      ∙ sym (own_inside pre t.front t.rest (TokenItem t.kind))
      ∙ (λ i. Some (token_of_kind (sym (t.whole ∙ ap (λ xs. pre ++ xs) t.parts) i) (sym t.tile.place i) t.kind))
      ∙ ap (λ (x : Placed Span). Some x.token) first_is

  word_like : IsWordLike p.token → first_passes is_word_start (chars post) ≡ true
  word_like h = ap (first_passes is_word_start) characters ∙ by_kind t.kind lexeme (subst (λ (x : Placed Span). IsWordLike x.token) (sym first_is) h)
    where
      by_kind : (k : TokenKind) → IsLexeme (TokenItem k) (chars t.front) → IsWordLike (token_of_kind bytes t.item.span k) → first_passes is_word_start (chars t.front ++ chars t.rest) ≡ true
      by_kind Word l w = word_first (chars t.front) (chars t.rest) l
      by_kind (Keyword k) l w = keyword_first k (chars t.front) (chars t.rest) l
      by_kind (Int n) l w = absurd w
      by_kind Text l w = absurd w
      by_kind (Mark s) l w = absurd w

  -- it stays
  stay_woven : (cs : List Change) (ts : List Token) → Woven F bytes (pre ++ t.front) t.rest cs ts → WovenOn F bytes pre post cs (p.token ∷ ts)
  stay_woven cs ts w =
      let kept = keep_woven bytes pre t.front t.rest t.item.kind cs ts (t.whole ∙ ap (λ xs. pre ++ xs) t.parts) t.tile.is_text t.tile.cut (fronts_there pre t.front t.item t.tile) w (λ comment. absurd (no_comment (sym t.is ∙ comment))) in
      subst (λ q. WovenOn F bytes pre q cs (p.token ∷ ts)) (sym t.parts) (subst (λ o. WovenOn F bytes pre (t.front ++ t.rest) cs (with_token o ts)) own kept)
    where
      no_comment : TokenItem t.kind ≡ Comment → ⊥
      no_comment e = cc

  -- `((K) ` in front of it
  cast_woven : (k : List ℕ) (at : ℕ) (cs : List Change) (ts : List Token) → IsName k → BeginAt at (p ∷ ps) → Woven F bytes pre post cs ts
      → WovenOn F bytes pre post (change (record { from = at; to = at }) (cast_text k) ∷ cs) (tokens (cast_parts k) ++ ts)
  cast_woven k at cs ts name begins w =
      let text = tiled_text F (length pre) post (t.item ∷ t.items) tiled_here in
      let g : Glued ((32 ∷ []) ++ join_pieces w.pieces) ts = space_glued (join_pieces w.pieces) ts (woven_glued w) in
      let parts : List Part = cast_parts k in
      let yields = yields_at (chars post) (join_chars parts ++ chars (join_pieces g.pieces)) (paren_yields (chars post) 40 _ (inl refl)) in
      let put = put_woven bytes pre post pre post parts (32 ∷ []) (cast_text k) cs ts t.whole t.whole (omega arith) text text (cast_join k) w g
      (cast_lined k (chars (join_pieces g.pieces)) name) yields in
      on_token (change (record { from = at; to = at }) (cast_text k) ∷ cs) (tokens (cast_parts k) ++ ts)
      (subst (λ n. Woven F bytes pre post (change (record { from = n; to = n }) (cast_text k) ∷ cs) (tokens (cast_parts k) ++ ts)) (sym begins_at ∙ begins) put)

-- ---- a run is replaced

-- with what goes on in a word only where that came
part_stops : {F : Fronts} {at : ℕ} (x old new : List ℕ) → IsIdentifier x → F at Word → YieldsAt F at old new → first_passes is_word_part old ≡ false → first_passes is_word_part new ≡ false
part_stops x old new is fronts y stops = elim (y.cut (TokenItem Word) x fronts (λ comment ends. absurd (no_comment comment)) (lexeme_cut (TokenItem Word) x old is stops)) [
  | inl blank ↦ absurd (no_blank blank)
  | inr cut ↦ word_stops x new cut
]
  where
    no_comment : TokenItem Word ≡ Comment → ⊥
    no_comment e = cc

    no_blank : TokenItem Word ≡ Blank → ⊥
    no_blank e = cc

swap_woven : {F : Fronts} (bytes pre post : List ℕ) (p : Placed Span) (run more : Tokens) (t : AtToken F bytes pre post (p ∷ (run ++ more))) (f : Front) (x : List ℕ) (cs : List Change) (ts : List Token)
    → IsSwap (p ∷ run) f x → (s : Skipped F bytes pre (p ∷ run) more) → Woven F bytes s.front s.rest cs ts
    → WovenOn F bytes pre post (change (span_of (p ∷ run)) (front_text f ++ x) ∷ cs) (tokens (respelled_parts f x) ++ ts)
swap_woven {F = F} bytes pre post p run more t f x cs ts h s w =
    let parts : List Part = respelled_parts f x in
    let starts : first_passes is_word_start (chars post) ≡ true = word_like bytes pre post p (run ++ more) t h.begins in
    let text = tiled_text F (length pre) post (t.item ∷ t.items) (tiled_here bytes pre post p (run ++ more) t) in
    let rest_text = tiled_text F (length s.front) s.rest s.after s.tiled in
    let put = put_woven bytes pre post s.front s.rest parts [] (front_text f ++ x) cs ts t.whole s.whole s.beyond text rest_text (append-nil (join parts) ∙ respelled_join f x) w (woven_glued w)
    (respelled_lined f x _ h.names h.name (part_stops (chars x) _ _ h.name.is_identifier (s.fronts h.ends) w.yields (s.stops h.ends)))
    (yields_at (chars post) _ (respelled_yields f x (chars post) _ h.may h.names h.name starts)) in
    let from : length pre ≡ p.mark.from = sym (begins_at bytes pre post p (run ++ more) t) in
    on_token bytes pre post p (run ++ more) t (change (span_of (p ∷ run)) (front_text f ++ x) ∷ cs) (tokens parts ++ ts)
    (subst (λ m. Woven F bytes pre post (change (record { from = p.mark.from; to = m }) (front_text f ++ x) ∷ cs) (tokens parts ++ ts)) (sym s.last)
    (subst (λ n. Woven F bytes pre post (change (record { from = n; to = length s.front }) (front_text f ++ x) ∷ cs) (tokens parts ++ ts)) from put))

-- a dot and a word become `).x`
close_woven : {F : Fronts} (items : List Item) (bytes pre post : List ℕ) (at : ℕ) (d q : Placed Span) (x : List ℕ) (more : Tokens) (cs : List Change) (ts : List Token) → bytes ≡ pre ++ post
    → Tiled F (length pre) post items → placed_of bytes items ≡ d ∷ q ∷ more → at ≡ length pre → IsWord q.token → IsName x
    → (s : Skipped F bytes pre (d ∷ q ∷ []) more) → Woven F bytes s.front s.rest cs ts
    → Woven F bytes pre post (change (record { from = at; to = q.mark.to }) (front_text (by_cast []) ++ x) ∷ cs) (tokens (respelled_parts (by_cast []) x) ++ ts)
close_woven {F = F} [] bytes pre post at d q x more cs ts e tiled placed here word name s w = absurd cc
close_woven {F = F} (i ∷ is) bytes pre post at d q x more cs ts e tiled placed here word name s w =
    let parts : List Part = respelled_parts (by_cast []) x in
    let text : List ℕ = front_text (by_cast []) ++ x in
    let whole_text = tiled_text F (length pre) post (i ∷ is) tiled in
    let rest_text = tiled_text F (length s.front) s.rest s.after s.tiled in
    let put = put_woven bytes pre post s.front s.rest parts [] text cs ts e s.whole s.beyond whole_text rest_text (append-nil (join parts) ∙ respelled_join (by_cast []) x) w (woven_glued w)
    (close_lined x _ name (part_stops (chars x) _ _ name.is_identifier (s.fronts word) w.yields (s.stops word))) (yields_at (chars post) _ (paren_yields (chars post) 41 _ (inr refl))) in
    subst (λ m. Woven F bytes pre post (change (record { from = at; to = m }) text ∷ cs) (tokens parts ++ ts)) (sym s.last)
    (subst (λ n. Woven F bytes pre post (change (record { from = n; to = length s.front }) text ∷ cs) (tokens parts ++ ts)) (sym here) put)

-- ---- all steps

token_here : (last : Behind) (at : ℕ) (pre post : List ℕ) → last ≡ token_to at → StandsBehind last pre post → at ≡ length pre
token_here last at pre post e h = (subst (λ l. StandsBehind l pre post) e h).0

-- where enough is known, it stands so
pub stands_so : (known asked : Behind) (pre post : List ℕ) → Suffices known asked → StandsBehind known pre post → StandsBehind asked pre post
stands_so known anything pre post s h = tt
stands_so anything no_indent pre post s h = absurd s
stands_so no_indent no_indent pre post s h = h
stands_so (token_to n) no_indent pre post s h = h.1
stands_so known (token_to n) pre post s h = subst (λ l. StandsBehind l pre post) s h

module _ (F : Fronts) (bytes : List ℕ) where
  -- what is woven behind the steps, with the steps in front of it is woven
  pub steps_weave : (ss : List Step) (last : Behind) (more : Tokens) (ds : List Change) (us : List Token) → Flow (Weaves F bytes) last ss
      → WovenFrom F bytes more (end_of last ss) ds us → WovenFrom F bytes (olds ss ++ more) last (changes ss ++ ds) (news ss ++ us)
  steps_weave [] last more ds us flow behind items pre post e tiled placed here = behind items pre post e tiled placed here
  steps_weave (stay p ∷ ss) last more ds us flow behind items pre post e tiled placed here =
      (to_token items bytes pre post p (olds ss ++ more) (changes ss ++ ds) (p.token ∷ (news ss ++ us)) e tiled placed (λ pre' post' t.
      stay_woven bytes pre' post' p (olds ss ++ more) t (changes ss ++ ds) (news ss ++ us)
      (steps_weave ss (token_to p.mark.to) more ds us flow behind t.items (pre' ++ t.front) t.rest (whole_behind bytes pre' post' p (olds ss ++ more) t) (tiled_behind bytes pre' post' p (olds ss ++ more) t)
      (behind_are bytes pre' post' p (olds ss ++ more) t) (stands_behind bytes pre' post' p (olds ss ++ more) t)))).woven
  steps_weave (cast k at ∷ ss) last more ds us flow behind items pre post e tiled placed here =
      go (olds ss) refl flow.1 (λ pre' post' items' e' tiled' placed'. steps_weave ss anything more ds us flow.2 behind items' pre' post' e' tiled' placed' tt)
    where
      cs : List Change
      cs = changes ss ++ ds

      ts : List Token
      ts = news ss ++ us

      go : (ps : Tokens) → olds ss ≡ ps → BeginAt at ps
          → ((pre' post' : List ℕ) (items' : List Item) → bytes ≡ pre' ++ post' → Tiled F (length pre') post' items' → placed_of bytes items' ≡ olds ss ++ more → Woven F bytes pre' post' cs ts)
          → Woven F bytes pre post (changes (cast k at ∷ ss) ++ ds) (news (cast k at ∷ ss) ++ us)
      go [] same begins again = absurd begins
      go (p ∷ ps) same begins again =
          (to_token items bytes pre post p (ps ++ more) (changes (cast k at ∷ ss) ++ ds) (news (cast k at ∷ ss) ++ us) e tiled (placed ∙ ap (λ xs. xs ++ more) same) (λ pre' post' t.
          cast_woven bytes pre' post' p (ps ++ more) t k at cs ts flow.0 begins
          (again pre' post' (t.item ∷ t.items) t.whole (tiled_here bytes pre' post' p (ps ++ more) t) (t.placed ∙ ap (λ xs. xs ++ more) (sym same))))).woven
  steps_weave (swap [] f x ∷ ss) last more ds us flow behind items pre post e tiled placed here = absurd flow.0.begins
  steps_weave (swap (p ∷ run) f x ∷ ss) last more ds us flow behind items pre post e tiled placed here =
      let cs : List Change = changes ss ++ ds in
      let ts : List Token = news ss ++ us in
      let rest : Tokens = olds ss ++ more in
      let grouped : (run ++ olds ss) ++ more ≡ run ++ rest = append_assoc run (olds ss) more in
      subst (Woven F bytes pre post (change (span_of (p ∷ run)) (front_text f ++ x) ∷ cs)) (sym (append_assoc (tokens (respelled_parts f x)) (news ss) us))
      (to_token items bytes pre post p (run ++ rest) (change (span_of (p ∷ run)) (front_text f ++ x) ∷ cs) (tokens (respelled_parts f x) ++ ts) e tiled (placed ∙ ap (λ xs. p ∷ xs) grouped) (λ pre' post' t.
      (let s = skip_run (t.item ∷ t.items) bytes pre' post' p run rest t.whole (tiled_here bytes pre' post' p (run ++ rest) t) t.placed in
      swap_woven bytes pre' post' p run rest t f x cs ts flow.0 s
      (steps_weave ss (token_to (last_to (p ∷ run))) more ds us flow.1 behind s.after s.front s.rest s.whole s.tiled s.placed (s.last, inr s.no_indent))))).woven
  steps_weave (close at d q x ∷ ss) last more ds us flow behind items pre post e tiled placed here =
      let s = skip_run items bytes pre post d (q ∷ []) (olds ss ++ more) e tiled placed in
      close_woven items bytes pre post at d q x (olds ss ++ more) (changes ss ++ ds) (news ss ++ us) e tiled placed (token_here last at pre post flow.0 here) flow.1 flow.2 s
      (steps_weave ss (token_to q.mark.to) more ds us flow.3 behind s.after s.front s.rest s.whole s.tiled s.placed (s.last, inr s.no_indent))
  steps_weave (weave f run cs ts b ∷ ss) last more ds us flow behind items pre post e tiled placed here =
      let all = flow.2 (olds ss ++ more) (changes ss ++ ds) (news ss ++ us) (steps_weave ss b more ds us flow.3 behind) items pre post e tiled (placed ∙ append_assoc run (olds ss) more) (stands_so last f pre post flow.0 here) in
      subst (Woven F bytes pre post ((cs ++ changes ss) ++ ds)) (sym (append_assoc ts (news ss) us))
      (subst (λ c. Woven F bytes pre post c (ts ++ (news ss ++ us))) (sym (append_assoc cs (changes ss) ds)) all)

  pub steps_woven : (ss : List Step) (items : List Item) → Flow (Weaves F bytes) no_indent ss → Tiled F 0 bytes items → placed_of bytes items ≡ olds ss → Woven F bytes [] bytes (changes ss) (news ss)
  steps_woven ss items flow tiled placed =
      let all = steps_weave ss no_indent [] [] [] flow (λ is pre post e t p here. (rest_woven is bytes pre post e t p).woven) items [] bytes refl tiled (placed ∙ sym (append-nil (olds ss))) (inr refl) in
      subst (λ c. Woven F bytes [] bytes c (news ss)) (append-nil (changes ss)) (subst (Woven F bytes [] bytes (changes ss ++ [])) (append-nil (news ss)) all)
