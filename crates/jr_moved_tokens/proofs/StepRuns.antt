-- Each step over a text's tokens is a run, and so are steps one behind the other: the lexemes that
-- come of the steps in front are known apart from those of the steps behind.
use Rattle.std.proofs.Common.{◌≡◌, ℕ, ◌+◌, ◌≤◌, Bool, true, false, List, [], ◌∷◌, ◌++◌, length, Some, None, refl, sym, ap, ◌∙◌, subst, arith, inl, inr}
use Rattle.std.specs.Str.{chars}
use Rattle.std.proofs.lemmas.List.{append_assoc, append-nil, length-append}
use Rattle.std.proofs.lemmas.Str.{chars-append, chars-nil}
use Rattle.jr_text.specs.declared.spans.Span.{Span}
use Rattle.jr_lex.specs.declared.items.Item.{Item}
use Rattle.jr_lex.specs.declared.items.ItemKind.{ItemKind}
use Rattle.jr_lex.specs.declared.items.ItemKind.TheVariants.{Token as TokenItem, Blank, Comment}
use Rattle.jr_lex.specs.declared.items.TokenKind.{TokenKind}
use Rattle.jr_lex.specs.declared.items.TokenKind.TheVariants.{Word, Keyword, Int, Text, Mark}
use Rattle.jr_lex.specs.Characters.{is_blank, is_word_start, is_word_part, first_passes}
use Rattle.jr_lex.specs.Words.{IsIdentifier}
use Rattle.jr_lex.specs.Lexemes.{IsLexeme}
use Rattle.jr_lex.specs.Replacing.{IsName}
use Rattle.jr_lex.specs.Beside.{EndsBefore, Piece, join_pieces}
use Rattle.jr_lex.specs.Near.{IsCut, EndsLine}
use Rattle.jr_lex.proofs.ScanMeaning.{no_empty}
use Rattle.jr_lex.proofs.OneLexeme.{token_no_blank, lexeme_cut, blank_ends}
use Rattle.jr_lex.proofs.Seams.{no_line, word_stops}
use Rattle.jr_lex.proofs.Yields.{paren_yields}
use Rattle.jr_grammar.specs.Tokens.{Token, Placed, token_of_kind, placed_of}
use Rattle.jr_grammar.specs.Stands.{Tokens, last_to, span_of}
use Rattle.jr_rewrite.specs.Respellings.{Front, by_cast, front_text, cast_text, Change}
use Rattle.jr_rewrite.specs.Rewritten.{change}
use Rattle.jr_splice.specs.Cutting.{with_token, own_token, tokens_in}
use Rattle.jr_splice.proofs.Cut.{AreCut, own_inside}
use Rattle.jr_rewrite.specs.Woven.{Fronts, IsTile, Tiled, Behind, anything, no_indent, token_to, Weaving}
use Rattle.jr_rewrite.proofs.Parts.{Part, space, part_kind, part_chars, join, join_chars, part_lexeme, respelled_parts, cast_parts, tokens, respelled_join, cast_join, Lined, respelled_lined, cast_lined, close_lined}
use Rattle.jr_rewrite.proofs.Tiles.{tiled_text}
use Rattle.jr_rewrite.proofs.Firsts.{word_first, keyword_first, goes_on, respelled_yields}
use Rattle.jr_rewrite.proofs.Steps.{Step, stay, cast, swap, close, weave, end_of, olds, changes, news, BeginAt, IsWordLike, IsWord, IsSwap, Flow}
use Rattle.jr_rewrite.proofs.Skipping.{placed_at, placed_token, placed_blank, placed_comment, head_same, tail_same, further, tiled_further, Skipped, skip_run}
use Rattle.jr_moved_tokens.proofs.Runs.{Follows, Runs, still, less, behind, piece, keep_followed, keep, put}

-- anything may stand in front of anything, and there are no spots
abbrev pub all : Fronts
all at k = Unit {0}

abbrev pub never : Weaving
never from run cs ts to = ⊥

-- where the last token ended, if that is known, the place is
abbrev pub IsHere : Behind → List ℕ → Type 0
IsHere anything pre = Unit {0}
IsHere no_indent pre = Unit {0}
IsHere (token_to n) pre = n ≡ length pre

-- ---- at a token

-- a token stands at the place, and these behind it
pub record AtToken (bytes pre post : List ℕ) (ps : Tokens) : Type 0 where
  pub front : List ℕ
  pub rest : List ℕ
  pub item : Item
  pub items : List Item
  pub kind : TokenKind
  pub whole : bytes ≡ pre ++ post
  pub parts : post ≡ front ++ rest
  pub tile : IsTile all (length pre) item front rest
  pub tiled : Tiled all (length pre + length front) rest items
  pub is : item.kind ≡ TokenItem kind
  pub placed : placed_of bytes (item ∷ items) ≡ ps

module _ (bytes pre post : List ℕ) (p : Placed Span) (ps : Tokens) (t : AtToken bytes pre post (p ∷ ps)) where
  lexeme : IsLexeme (TokenItem t.kind) (chars t.front)
  lexeme = subst (λ k. IsLexeme k (chars t.front)) t.is t.tile.cut.taken.lexeme

  characters : chars post ≡ chars t.front ++ chars t.rest
  characters = ap chars t.parts ∙ chars-append t.front t.rest t.tile.is_text

  no_blank : first_passes is_blank (chars post) ≡ false
  no_blank = ap (first_passes is_blank) characters ∙ token_no_blank t.kind (chars t.front) (chars t.rest) lexeme

  some : chars post ≡ [] → ⊥
  some e = nothing (chars t.front) (sym characters ∙ e) (λ n. no_empty t.item.kind (subst (IsLexeme t.item.kind) n t.tile.cut.taken.lexeme))
    where
      nothing : (f : List ℕ) → f ++ chars t.rest ≡ [] → (f ≡ [] → ⊥) → ⊥
      nothing [] e h = h refl
      nothing (c ∷ cs) e h = cc

  line : (other : List ℕ) (k : ItemKind) → EndsLine k (chars post) other
  line other k = no_line k (chars post) other (goes_on (chars post) some no_blank)

  first_is : placed_at bytes t.item t.kind ≡ p
  first_is = head_same _ _ _ _ (sym (placed_token bytes t.item t.items t.kind t.is) ∙ t.placed)

  pub behind_are : placed_of bytes t.items ≡ ps
  behind_are = tail_same _ _ _ _ (sym (placed_token bytes t.item t.items t.kind t.is) ∙ t.placed)

  pub begins_at : p.mark.from ≡ length pre
  begins_at = sym (ap (λ (x : Placed Span). x.mark.from) first_is) ∙ ap (λ (s : Span). s.from) t.tile.place

  pub ends_at : p.mark.to ≡ length (pre ++ t.front)
  ends_at = sym (ap (λ (x : Placed Span). x.mark.to) first_is) ∙ ap (λ (s : Span). s.to) t.tile.place ∙ sym (length-append pre t.front)

  pub whole_behind : bytes ≡ (pre ++ t.front) ++ t.rest
  whole_behind = further bytes pre post t.front t.rest t.whole t.parts

  tiled_here : Tiled all (length pre) post (t.item ∷ t.items)
  tiled_here = (t.front, t.rest, t.parts, t.tile, t.tiled)

  pub tiled_behind : Tiled all (length (pre ++ t.front)) t.rest t.items
  tiled_behind = tiled_further all pre t.front t.rest t.items t.tiled

  pub own : own_token t.item.kind t.front ≡ Some p.token
  own =
      ap (λ k. own_token k t.front) t.is
      ∙ sym (own_inside pre t.front t.rest (TokenItem t.kind))
      ∙ (λ i. Some (token_of_kind (sym (t.whole ∙ ap (λ xs. pre ++ xs) t.parts) i) (sym t.tile.place i) t.kind))
      ∙ ap (λ (x : Placed Span). Some x.token) first_is

  word_like : IsWordLike p.token → first_passes is_word_start (chars post) ≡ true
  word_like h = ap (first_passes is_word_start) characters ∙ by_kind t.kind lexeme (subst (λ (x : Placed Span). IsWordLike x.token) (sym first_is) h)
    where
      by_kind : (k : TokenKind) → IsLexeme (TokenItem k) (chars t.front) → IsWordLike (token_of_kind bytes t.item.span k) → first_passes is_word_start (chars t.front ++ chars t.rest) ≡ true
      by_kind Word l w = word_first (chars t.front) (chars t.rest) l
      by_kind (Keyword k) l w = keyword_first k (chars t.front) (chars t.rest) l
      by_kind (Int n) l w = absurd w
      by_kind Text l w = absurd w
      by_kind (Mark s) l w = absurd w

  -- it stays
  pub stay_run : Runs bytes true pre post false (pre ++ t.front) t.rest [] (p.token ∷ [])
  stay_run =
      let kept = keep bytes pre t.front t.rest t.item.kind false (t.whole ∙ ap (λ xs. pre ++ xs) t.parts) t.tile.is_text t.tile.cut (λ new f comment. absurd (no_comment (sym t.is ∙ comment))) in
      subst (λ q. Runs bytes true pre q false (pre ++ t.front) t.rest [] (p.token ∷ [])) (sym t.parts)
      (subst (λ o. Runs bytes true pre (t.front ++ t.rest) false (pre ++ t.front) t.rest [] (with_token o [])) own kept)
    where
      no_comment : TokenItem t.kind ≡ Comment → ⊥
      no_comment e = cc

  -- in front of what is made of what stands behind it
  pub stays_cut : (qs : List Piece) → AreCut qs → Follows false (chars t.rest) (chars (join_pieces qs)) → AreCut (piece t.item.kind t.front ∷ qs)
  stays_cut qs c f = (t.tile.is_text, f.yields.cut t.item.kind (chars t.front) (λ comment. absurd (no_comment (sym t.is ∙ comment))) t.tile.cut, c)
    where
      no_comment : TokenItem t.kind ≡ Comment → ⊥
      no_comment e = cc

  pub stays_followed : (new : List ℕ) → Follows false (chars t.rest) (chars new) → Follows true (chars post) (chars (t.front ++ new))
  stays_followed new f =
      subst (λ q. Follows true (chars q) (chars (t.front ++ new))) (sym t.parts)
      (keep_followed t.front t.rest new t.tile.is_text (λ none. no_empty t.item.kind (subst (IsLexeme t.item.kind) none t.tile.cut.taken.lexeme)) f.yields)

  -- ---- `((K) ` in front of it

  join_chars-append : (xs ys : List Part) (new : List ℕ) → join_chars (xs ++ ys) ++ new ≡ join_chars xs ++ (join_chars ys ++ new)
  join_chars-append [] ys new = refl
  join_chars-append (x ∷ xs) ys new =
      append_assoc (part_chars x) (join_chars (xs ++ ys)) new ∙ ap (λ t. part_chars x ++ t) (join_chars-append xs ys new) ∙ sym (append_assoc (part_chars x) (join_chars xs) (join_chars ys ++ new))

  lined-append : (xs ys : List Part) (new : List ℕ) → Lined xs (join_chars ys ++ new) → Lined ys new → Lined (xs ++ ys) new
  lined-append [] ys new h g = g
  lined-append (x ∷ xs) ys new h g = (h.0, subst (EndsBefore (part_kind x)) (sym (join_chars-append xs ys new)) h.1, lined-append xs ys new h.2 g)

  abbrev spaced : List ℕ → List Part
  spaced k = cast_parts k ++ space ∷ []

  -- a blank in front of what takes the token's place
  blank_before : (new : List ℕ) → Follows false (chars post) new → first_passes is_blank new ≡ false
  blank_before new f = blank_ends (32 ∷ []) new (f.yields.cut Blank (32 ∷ []) (λ comment. absurd (no_comment comment)) (lexeme_cut Blank (32 ∷ []) (chars post) (part_lexeme space tt) no_blank))
    where
      no_comment : Blank ≡ Comment → ⊥
      no_comment e = cc

  cast_run : (k : List ℕ) (at : ℕ) → IsName k → BeginAt at (p ∷ ps) → Runs bytes true pre post false pre post (change (record { from = at; to = at }) (cast_text k) ∷ []) (tokens (cast_parts k))
  cast_run k at name begins =
      let text = tiled_text all (length pre) post (t.item ∷ t.items) tiled_here in
      let made = put bytes pre post pre post (spaced k) (cast_text k) true t.whole t.whole (omega arith) text text (join_spaced ∙ cast_join k)
      (λ new f. lined-append (cast_parts k) (space ∷ []) new (cast_lined k (32 ∷ new) name) (tt, blank_before new f, tt))
      (λ new f. record { yields = paren_yields (chars post) 40 _ (inl refl); line = line (join_chars (spaced k) ++ new) }) in
      subst (λ n. Runs bytes true pre post false pre post (change (record { from = n; to = n }) (cast_text k) ∷ []) (tokens (cast_parts k))) (sym begins_at ∙ begins) made
    where
      join_spaced : join (spaced k) ≡ join (cast_parts k) ++ 32 ∷ []
      join_spaced = simp append_assoc

-- ---- a run is replaced

-- with what goes on in a word only where that came
part_stops : (x old new : List ℕ) → IsIdentifier x → Follows false old new → first_passes is_word_part old ≡ false → first_passes is_word_part new ≡ false
part_stops x old new is f stops = word_stops x new (f.yields.cut (TokenItem Word) x (λ comment. absurd (no_comment comment)) (lexeme_cut (TokenItem Word) x old is stops))
  where
    no_comment : TokenItem Word ≡ Comment → ⊥
    no_comment e = cc

swap_run : (bytes pre post : List ℕ) (p : Placed Span) (run more : Tokens) (t : AtToken bytes pre post (p ∷ (run ++ more))) (f : Front) (x : List ℕ) → IsSwap (p ∷ run) f x → (s : Skipped all bytes pre (p ∷ run) more)
    → Runs bytes true pre post false s.front s.rest (change (span_of (p ∷ run)) (front_text f ++ x) ∷ []) (tokens (respelled_parts f x))
swap_run bytes pre post p run more t f x h s =
    let parts : List Part = respelled_parts f x in
    let text = tiled_text all (length pre) post (t.item ∷ t.items) (tiled_here bytes pre post p (run ++ more) t) in
    let rest_text = tiled_text all (length s.front) s.rest s.after s.tiled in
    let made = put bytes pre post s.front s.rest parts (front_text f ++ x) true t.whole s.whole s.beyond text rest_text (respelled_join f x)
    (λ new g. respelled_lined f x new h.names h.name (part_stops (chars x) (chars s.rest) new h.name.is_identifier g (s.stops h.ends)))
    (λ new g. record { yields = respelled_yields f x (chars post) new h.may h.names h.name (word_like bytes pre post p (run ++ more) t h.begins); line = line bytes pre post p (run ++ more) t (join_chars parts ++ new) }) in
    let from : length pre ≡ p.mark.from = sym (begins_at bytes pre post p (run ++ more) t) in
    subst (λ m. Runs bytes true pre post false s.front s.rest (change (record { from = p.mark.from; to = m }) (front_text f ++ x) ∷ []) (tokens parts)) (sym s.last)
    (subst (λ n. Runs bytes true pre post false s.front s.rest (change (record { from = n; to = length s.front }) (front_text f ++ x) ∷ []) (tokens parts)) from made)

-- a dot and a word become `).x`
close_run : (items : List Item) (bytes pre post : List ℕ) (at : ℕ) (d q : Placed Span) (x : List ℕ) (more : Tokens) → bytes ≡ pre ++ post → Tiled all (length pre) post items → placed_of bytes items ≡ d ∷ q ∷ more
    → at ≡ length pre → IsWord q.token → IsName x → (s : Skipped all bytes pre (d ∷ q ∷ []) more)
    → Runs bytes false pre post false s.front s.rest (change (record { from = at; to = q.mark.to }) (front_text (by_cast []) ++ x) ∷ []) (tokens (respelled_parts (by_cast []) x))
close_run items bytes pre post at d q x more e tiled placed here word name s =
    let parts : List Part = respelled_parts (by_cast []) x in
    let text : List ℕ = front_text (by_cast []) ++ x in
    let made = put bytes pre post s.front s.rest parts text false e s.whole s.beyond (tiled_text all (length pre) post items tiled) (tiled_text all (length s.front) s.rest s.after s.tiled) (respelled_join (by_cast []) x)
    (λ new g. close_lined x new name (part_stops (chars x) (chars s.rest) new name.is_identifier g (s.stops word)))
    (λ new g. record { yields = paren_yields (chars post) 41 _ (inr refl); line = tt }) in
    subst (λ m. Runs bytes false pre post false s.front s.rest (change (record { from = at; to = m }) text ∷ []) (tokens parts)) (sym s.last)
    (subst (λ n. Runs bytes false pre post false s.front s.rest (change (record { from = n; to = length s.front }) text ∷ []) (tokens parts)) (sym here) made)

-- ---- up to the next token

-- a lexeme that is no token stays
gap_run : (bytes pre post f rest : List ℕ) (i : Item) → bytes ≡ pre ++ post → post ≡ f ++ rest → IsTile all (length pre) i f rest → own_token i.kind f ≡ None → Runs bytes true pre post true (pre ++ f) rest [] []
gap_run bytes pre post f rest i e g tile none =
    let kept = keep bytes pre f rest i.kind true (e ∙ ap (λ xs. pre ++ xs) g) tile.is_text tile.cut (λ new h. h.line i.kind) in
    subst (λ q. Runs bytes true pre q true (pre ++ f) rest [] []) (sym g) (subst (λ o. Runs bytes true pre (f ++ rest) true (pre ++ f) rest [] (with_token o [])) none kept)

blank_none : (kind : ItemKind) (f : List ℕ) → kind ≡ Blank → own_token kind f ≡ None
blank_none kind f e = ap (λ k. own_token k f) e

comment_none : (kind : ItemKind) (f : List ℕ) → kind ≡ Comment → own_token kind f ≡ None
comment_none kind f e = ap (λ k. own_token k f) e

pub record NextToken (bytes pre post : List ℕ) (ps : Tokens) : Type 0 where
  pub front : List ℕ
  pub rest : List ℕ
  pub at : AtToken bytes front rest ps
  pub runs : Runs bytes true pre post true front rest [] []

pub to_token : (items : List Item) (bytes pre post : List ℕ) (p : Placed Span) (ps : Tokens) → bytes ≡ pre ++ post → Tiled all (length pre) post items → placed_of bytes items ≡ p ∷ ps → NextToken bytes pre post (p ∷ ps)
to_token [] bytes pre post p ps e tiled placed = absurd cc
to_token (i ∷ is) bytes pre post p ps e tiled placed =
    by_kind i.kind refl (λ h. to_token is bytes (pre ++ tiled.0) tiled.1 p ps (further bytes pre post tiled.0 tiled.1 e tiled.2) (tiled_further all pre tiled.0 tiled.1 is tiled.4) h)
  where
    past : own_token i.kind tiled.0 ≡ None → NextToken bytes (pre ++ tiled.0) tiled.1 (p ∷ ps) → NextToken bytes pre post (p ∷ ps)
    past none n = record { front = n.front; rest = n.rest; at = n.at; runs = behind (gap_run bytes pre post tiled.0 tiled.1 i e tiled.2 tiled.3 none) n.runs }

    by_kind : (k : ItemKind) → i.kind ≡ k → (placed_of bytes is ≡ p ∷ ps → NextToken bytes (pre ++ tiled.0) tiled.1 (p ∷ ps)) → NextToken bytes pre post (p ∷ ps)
    by_kind (TokenItem k) kind again = record {
      front = pre;
      rest = post;
      at = record { front = tiled.0; rest = tiled.1; item = i; items = is; kind = k; whole = e; parts = tiled.2; tile = tiled.3; tiled = tiled.4; is = kind; placed = placed };
      runs = still bytes true pre post;
    }
    by_kind Blank kind again = past (blank_none i.kind tiled.0 kind) (again (sym (placed_blank bytes i is kind) ∙ placed))
    by_kind Comment kind again = past (comment_none i.kind tiled.0 kind) (again (sym (placed_comment bytes i is kind) ∙ placed))

-- where no token is left, up to the end
pub record AtEnd (bytes pre post : List ℕ) : Type 0 where
  pub front : List ℕ
  pub whole : bytes ≡ front ++ []
  pub runs : Runs bytes true pre post true front [] [] []

pub to_end : (items : List Item) (bytes pre post : List ℕ) → bytes ≡ pre ++ post → Tiled all (length pre) post items → placed_of bytes items ≡ [] → AtEnd bytes pre post
to_end [] bytes pre post e tiled none = record { front = pre; whole = e ∙ ap (λ xs. pre ++ xs) tiled; runs = subst (λ q. Runs bytes true pre q true pre [] [] []) (sym tiled) (still bytes true pre []) }
to_end (i ∷ is) bytes pre post e tiled none =
    by_kind i.kind refl (λ h. to_end is bytes (pre ++ tiled.0) tiled.1 (further bytes pre post tiled.0 tiled.1 e tiled.2) (tiled_further all pre tiled.0 tiled.1 is tiled.4) h)
  where
    past : own_token i.kind tiled.0 ≡ None → AtEnd bytes (pre ++ tiled.0) tiled.1 → AtEnd bytes pre post
    past gone n = record { front = n.front; whole = n.whole; runs = behind (gap_run bytes pre post tiled.0 tiled.1 i e tiled.2 tiled.3 gone) n.runs }

    by_kind : (k : ItemKind) → i.kind ≡ k → (placed_of bytes is ≡ [] → AtEnd bytes (pre ++ tiled.0) tiled.1) → AtEnd bytes pre post
    by_kind (TokenItem k) kind again = (let some : placed_at bytes i k ∷ placed_of bytes is ≡ [] = sym (placed_token bytes i is k kind) ∙ none in absurd cc)
    by_kind Blank kind again = past (blank_none i.kind tiled.0 kind) (again (sym (placed_blank bytes i is kind) ∙ none))
    by_kind Comment kind again = past (comment_none i.kind tiled.0 kind) (again (sym (placed_comment bytes i is kind) ∙ none))

-- ---- steps

-- a place behind some steps, at which these are left
pub record Reached (bytes pre post : List ℕ) (cs : List Change) (ts : List Token) (left : List Step) : Type 0 where
  pub front : List ℕ
  pub rest : List ℕ
  pub items : List Item
  pub last : Behind
  pub whole : bytes ≡ front ++ rest
  pub tiled : Tiled all (length front) rest items
  pub placed : placed_of bytes items ≡ olds left
  pub here : IsHere last front
  pub flow : Flow never last left
  pub runs : Runs bytes false pre post false front rest cs ts

-- with a run in front
from_run : {bytes pre post mid more : List ℕ} {starts : Bool} {cs ds : List Change} {ts us : List Token} {left : List Step} → Runs bytes starts pre post false mid more cs ts → Reached bytes mid more ds us left
    → Reached bytes pre post (cs ++ ds) (ts ++ us) left
from_run {starts = starts} a r = record {
  front = r.front;
  rest = r.rest;
  items = r.items;
  last = r.last;
  whole = r.whole;
  tiled = r.tiled;
  placed = r.placed;
  here = r.here;
  flow = r.flow;
  runs = less starts (behind a r.runs);
}

module _ (bytes : List ℕ) where
  pub steps_run : (ss left : List Step) (last : Behind) → Flow never last (ss ++ left) → (items : List Item) (pre post : List ℕ) → bytes ≡ pre ++ post → Tiled all (length pre) post items
      → placed_of bytes items ≡ olds (ss ++ left) → IsHere last pre → Reached bytes pre post (changes ss) (news ss) left
  steps_run [] left last flow items pre post e tiled placed here =
      record { front = pre; rest = post; items = items; last = last; whole = e; tiled = tiled; placed = placed; here = here; flow = flow; runs = still bytes false pre post }
  steps_run (stay p ∷ ss) left last flow items pre post e tiled placed here =
      let n = to_token items bytes pre post p (olds (ss ++ left)) e tiled placed in
      let t = n.at in
      from_run (behind n.runs (stay_run bytes n.front n.rest p (olds (ss ++ left)) t))
      (steps_run ss left (token_to p.mark.to) flow t.items (n.front ++ t.front) t.rest (whole_behind bytes n.front n.rest p (olds (ss ++ left)) t) (tiled_behind bytes n.front n.rest p (olds (ss ++ left)) t)
      (behind_are bytes n.front n.rest p (olds (ss ++ left)) t) (ends_at bytes n.front n.rest p (olds (ss ++ left)) t))
  steps_run (cast k at ∷ ss) left last flow items pre post e tiled placed here =
      go (olds (ss ++ left)) refl flow.1 (λ pre' post' items' e' tiled' placed'. steps_run ss left anything flow.2 items' pre' post' e' tiled' placed' tt)
    where
      go : (ps : Tokens) → olds (ss ++ left) ≡ ps → BeginAt at ps
          → ((pre' post' : List ℕ) (items' : List Item) → bytes ≡ pre' ++ post' → Tiled all (length pre') post' items' → placed_of bytes items' ≡ olds (ss ++ left) → Reached bytes pre' post' (changes ss) (news ss) left)
          → Reached bytes pre post (changes (cast k at ∷ ss)) (news (cast k at ∷ ss)) left
      go [] same begins again = absurd begins
      go (p ∷ ps) same begins again =
          let n = to_token items bytes pre post p ps e tiled (placed ∙ same) in
          let t = n.at in
          from_run (behind n.runs (cast_run bytes n.front n.rest p ps t k at flow.0 begins))
          (again n.front n.rest (t.item ∷ t.items) t.whole (tiled_here bytes n.front n.rest p ps t) (t.placed ∙ sym same))
  steps_run (swap [] f x ∷ ss) left last flow items pre post e tiled placed here = absurd flow.0.begins
  steps_run (swap (p ∷ run) f x ∷ ss) left last flow items pre post e tiled placed here =
      let more : Tokens = olds (ss ++ left) in
      let n = to_token items bytes pre post p (run ++ more) e tiled placed in
      let t = n.at in
      let s = skip_run (t.item ∷ t.items) bytes n.front n.rest p run more t.whole (tiled_here bytes n.front n.rest p (run ++ more) t) t.placed in
      from_run (behind n.runs (swap_run bytes n.front n.rest p run more t f x flow.0 s)) (steps_run ss left (token_to (last_to (p ∷ run))) flow.1 s.after s.front s.rest s.whole s.tiled s.placed s.last)
  steps_run (close at d q x ∷ ss) left last flow items pre post e tiled placed here =
      let more : Tokens = olds (ss ++ left) in
      let s = skip_run items bytes pre post d (q ∷ []) more e tiled placed in
      from_run (close_run items bytes pre post at d q x more e tiled placed (subst (λ l. IsHere l pre) flow.0 here) flow.1 flow.2 s)
      (steps_run ss left (token_to q.mark.to) flow.3 s.after s.front s.rest s.whole s.tiled s.placed s.last)
  steps_run (weave f run cs ts b ∷ ss) left last flow items pre post e tiled placed here = absurd flow.2
