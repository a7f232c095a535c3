-- A run of tokens among the items of a text: where it ends, and what follows it.
use Rattle.std.proofs.Common.{◌≡◌, ℕ, ◌+◌, ◌≤◌, false, List, [], ◌∷◌, ◌++◌, length, refl, sym, ap, ◌∙◌, subst, arith}
use Rattle.std.specs.Str.{chars}
use Rattle.std.proofs.lemmas.List.{append_assoc, length-append}
use Rattle.jr_text.specs.declared.spans.Span.{Span}
use Rattle.jr_lex.specs.declared.items.Item.{Item}
use Rattle.jr_lex.specs.declared.items.ItemKind.{ItemKind}
use Rattle.jr_lex.specs.declared.items.ItemKind.TheVariants.{Token as TokenItem, Blank, Comment}
use Rattle.jr_lex.specs.declared.items.TokenKind.{TokenKind}
use Rattle.jr_lex.specs.declared.items.TokenKind.TheVariants.{Word, Keyword, Int, Text, Mark}
use Rattle.jr_lex.specs.Characters.{is_word_part, first_passes}
use Rattle.jr_lex.specs.Lexemes.{IsLexeme}
use Rattle.jr_lex.specs.Near.{IsCut}
use Rattle.jr_lex.proofs.Seams.{word_stops}
use Rattle.jr_grammar.specs.Tokens.{Placed, token_of_kind, placed_of}
use Rattle.jr_grammar.specs.Stands.{Tokens, last_to}
use Rattle.jr_rewrite.specs.Woven.{Fronts, MayFront, IsTile, Tiled, ends_in, is_indent}
use Rattle.jr_rewrite.proofs.Steps.{IsWord, EndInWord}
use Rattle.jr_rewrite.proofs.LastBytes.{behind_token}

-- ---- the first item, by its kind

abbrev pub placed_at : List ℕ → Item → TokenKind → Placed Span
placed_at bytes i k = record { mark = i.span; token = token_of_kind bytes i.span k }

pub placed_token : (bytes : List ℕ) (i : Item) (is : List Item) (k : TokenKind) → i.kind ≡ TokenItem k → placed_of bytes (i ∷ is) ≡ placed_at bytes i k ∷ placed_of bytes is
placed_token bytes i is k e = ap (λ x. placed_of bytes (record { kind = x; span = i.span } ∷ is)) e

pub placed_blank : (bytes : List ℕ) (i : Item) (is : List Item) → i.kind ≡ Blank → placed_of bytes (i ∷ is) ≡ placed_of bytes is
placed_blank bytes i is e = ap (λ x. placed_of bytes (record { kind = x; span = i.span } ∷ is)) e

pub placed_comment : (bytes : List ℕ) (i : Item) (is : List Item) → i.kind ≡ Comment → placed_of bytes (i ∷ is) ≡ placed_of bytes is
placed_comment bytes i is e = ap (λ x. placed_of bytes (record { kind = x; span = i.span } ∷ is)) e

pub head_same : (p q : Placed Span) (ps qs : Tokens) → p ∷ ps ≡ q ∷ qs → p ≡ q
head_same p q ps qs e = cc

pub tail_same : (p q : Placed Span) (ps qs : Tokens) → p ∷ ps ≡ q ∷ qs → ps ≡ qs
tail_same p q ps qs e = cc

-- the place behind the first item
pub further : (bytes pre post f rest : List ℕ) → bytes ≡ pre ++ post → post ≡ f ++ rest → bytes ≡ (pre ++ f) ++ rest
further bytes pre post f rest e g = e ∙ ap (λ xs. pre ++ xs) g ∙ sym (append_assoc pre f rest)

pub tiled_further : (F : Fronts) (pre f rest : List ℕ) (items : List Item) → Tiled F (length pre + length f) rest items → Tiled F (length (pre ++ f)) rest items
tiled_further F pre f rest items h = subst (λ n. Tiled F n rest items) (sym (length-append pre f)) h

-- ---- a word ends

is_word_kind : (bytes : List ℕ) (at : Span) (k : TokenKind) → IsWord (token_of_kind bytes at k) → k ≡ Word
is_word_kind bytes at Word h = refl
is_word_kind bytes at (Keyword k) h = absurd h
is_word_kind bytes at (Int n) h = absurd h
is_word_kind bytes at Text h = absurd h
is_word_kind bytes at (Mark s) h = absurd h

-- what follows a word doesn't go on in it
pub word_ends : {F : Fronts} (bytes front rest : List ℕ) (i : Item) (at : ℕ) (k : TokenKind) → i.kind ≡ TokenItem k → IsTile F at i front rest → IsWord (token_of_kind bytes i.span k)
    → first_passes is_word_part (chars rest) ≡ false
word_ends bytes front rest i at k e tile h =
    let kind : i.kind ≡ TokenItem Word = e ∙ ap TokenItem (is_word_kind bytes i.span k h) in
    word_stops (chars front) (chars rest) (subst (λ k. IsCut k (chars front) (chars rest)) kind tile.cut)

-- and is one that may stand there
word_fronts : {F : Fronts} (bytes pre f rest : List ℕ) (i : Item) (k : TokenKind) → i.kind ≡ TokenItem k → IsTile F (length pre) i f rest → IsWord (token_of_kind bytes i.span k) → F (length (pre ++ f)) Word
word_fronts {F = F} bytes pre f rest i k e tile h =
    let kind : i.kind ≡ TokenItem Word = e ∙ ap TokenItem (is_word_kind bytes i.span k h) in
    subst (λ n. F n Word) (sym (length-append pre f)) (subst (MayFront F (length pre + length f)) kind tile.fronts)

-- behind a token stands no space and no tab
pub token_no_indent : {F : Fronts} {at : ℕ} (pre f rest : List ℕ) (i : Item) (k : TokenKind) → i.kind ≡ TokenItem k → IsTile F at i f rest → ends_in is_indent (pre ++ f) ≡ false
token_no_indent pre f rest i k kind tile = behind_token pre f k tile.is_text (subst (λ x. IsLexeme x (chars f)) kind tile.cut.taken.lexeme)

-- ---- behind a run

pub record Skipped (F : Fronts) (bytes pre : List ℕ) (run more : Tokens) : Type 0 where
  pub front : List ℕ
  pub rest : List ℕ
  pub after : List Item
  pub whole : bytes ≡ front ++ rest
  pub beyond : length pre ≤ length front
  pub tiled : Tiled F (length front) rest after
  pub placed : placed_of bytes after ≡ more
  pub last : last_to run ≡ length front
  pub stops : EndInWord run → first_passes is_word_part (chars rest) ≡ false
  pub fronts : EndInWord run → F (length front) Word
  pub no_indent : ends_in is_indent front ≡ false

-- from a place further on
pub sooner : {F : Fronts} (bytes pre f : List ℕ) (run more : Tokens) → Skipped F bytes (pre ++ f) run more → Skipped F bytes pre run more
sooner bytes pre f run more s = record {
  front = s.front;
  rest = s.rest;
  after = s.after;
  whole = s.whole;
  beyond = omega (arith, s.beyond, length-append pre f);
  tiled = s.tiled;
  placed = s.placed;
  last = s.last;
  stops = s.stops;
  fronts = s.fronts;
  no_indent = s.no_indent;
}

one_more : {F : Fronts} (bytes pre : List ℕ) (p q : Placed Span) (run more : Tokens) → Skipped F bytes pre (q ∷ run) more → Skipped F bytes pre (p ∷ q ∷ run) more
one_more bytes pre p q run more s = record {
  front = s.front;
  rest = s.rest;
  after = s.after;
  whole = s.whole;
  beyond = s.beyond;
  tiled = s.tiled;
  placed = s.placed;
  last = s.last;
  stops = s.stops;
  fronts = s.fronts;
  no_indent = s.no_indent;
}

-- the first item is the first token of the run
at_token : {F : Fronts} (bytes pre post f rest : List ℕ) (i : Item) (is : List Item) (p : Placed Span) (run more : Tokens) (k : TokenKind)
    → bytes ≡ (pre ++ f) ++ rest → Tiled F (length (pre ++ f)) rest is → IsTile F (length pre) i f rest → i.kind ≡ TokenItem k
    → placed_at bytes i k ∷ placed_of bytes is ≡ p ∷ (run ++ more)
    → ((q : Placed Span) (others : Tokens) → placed_of bytes is ≡ q ∷ (others ++ more) → Skipped F bytes (pre ++ f) (q ∷ others) more)
    → Skipped F bytes pre (p ∷ run) more
at_token bytes pre post f rest i is p [] more k e tiled tile kind placed again =
    let same : placed_at bytes i k ≡ p = head_same _ _ _ _ placed in
    let to : i.span.to ≡ length pre + length f = ap (λ (s : Span). s.to) tile.place in
    let mark : i.span.to ≡ p.mark.to = ap (λ (x : Placed Span). x.mark.to) same in
    record {
      front = pre ++ f;
      rest = rest;
      after = is;
      whole = e;
      beyond = omega (arith, length-append pre f);
      tiled = tiled;
      placed = tail_same _ _ _ _ placed;
      last = sym mark ∙ to ∙ sym (length-append pre f);
      stops = λ word. word_ends bytes f rest i (length pre) k kind tile (subst (λ (x : Placed Span). IsWord x.token) (sym same) word);
      fronts = λ word. word_fronts bytes pre f rest i k kind tile (subst (λ (x : Placed Span). IsWord x.token) (sym same) word);
      no_indent = token_no_indent pre f rest i k kind tile;
    }
at_token bytes pre post f rest i is p (q ∷ run) more k e tiled tile kind placed again =
    one_more bytes pre p q run more (sooner bytes pre f (q ∷ run) more (again q run (tail_same _ _ _ _ placed)))

pub skip_run : {F : Fronts} (items : List Item) (bytes pre post : List ℕ) (p : Placed Span) (run more : Tokens) → bytes ≡ pre ++ post → Tiled F (length pre) post items
    → placed_of bytes items ≡ p ∷ (run ++ more) → Skipped F bytes pre (p ∷ run) more
skip_run {F = F} [] bytes pre post p run more e tiled placed = absurd cc
skip_run {F = F} (i ∷ is) bytes pre post p run more e tiled placed =
    by_kind i.kind refl
    (λ q others h. skip_run is bytes (pre ++ tiled.0) tiled.1 q others more (further bytes pre post tiled.0 tiled.1 e tiled.2) (tiled_further F pre tiled.0 tiled.1 is tiled.4) h)
  where
    by_kind : (k : ItemKind) → i.kind ≡ k
        → ((q : Placed Span) (others : Tokens) → placed_of bytes is ≡ q ∷ (others ++ more) → Skipped F bytes (pre ++ tiled.0) (q ∷ others) more)
        → Skipped F bytes pre (p ∷ run) more
    by_kind (TokenItem k) kind again =
        at_token bytes pre post tiled.0 tiled.1 i is p run more k (further bytes pre post tiled.0 tiled.1 e tiled.2) (tiled_further F pre tiled.0 tiled.1 is tiled.4) tiled.3 kind
        (sym (placed_token bytes i is k kind) ∙ placed) again
    by_kind Blank kind again = sooner bytes pre tiled.0 (p ∷ run) more (again p run (sym (placed_blank bytes i is kind) ∙ placed))
    by_kind Comment kind again = sooner bytes pre tiled.0 (p ∷ run) more (again p run (sym (placed_comment bytes i is kind) ∙ placed))
