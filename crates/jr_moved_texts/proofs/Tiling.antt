-- Lexemes as items with their bytes; a run of items in front of another text; tokens that stay.
use Rattle.std.proofs.Common.{◌≡◌, ◌≢◌, ℕ, ◌+◌, ◌==◌, List, [], ◌∷◌, ◌++◌, length, Option, Some, None, refl, sym, ap, ◌∙◌, subst, arith}
use Rattle.std.specs.Str.{chars}
use Rattle.std.proofs.lemmas.Bool.{both_ways, false≢true}
use Rattle.std.proofs.lemmas.List.{append_assoc, append-nil, length-append}
use Rattle.std.proofs.lemmas.Str.{chars-append}
use Rattle.jr_text.specs.declared.spans.Span.{Span}
use Rattle.jr_lex.specs.declared.items.Item.{Item}
use Rattle.jr_lex.specs.declared.items.ItemKind.{ItemKind}
use Rattle.jr_lex.specs.declared.items.ItemKind.TheVariants.{Token as TokenItem, Blank, Comment}
use Rattle.jr_lex.specs.declared.items.TokenKind.{TokenKind}
use Rattle.jr_lex.specs.declared.items.TokenKind.TheVariants.{Word, Keyword, Int, Text, Mark}
use Rattle.jr_lex.specs.declared.items.Symbol.{Symbol}
use Rattle.jr_lex.specs.declared.items.Symbol.TheVariants as symbol
use Rattle.jr_lex.specs.Characters.{is_word_start, first_passes}
use Rattle.jr_lex.specs.Words.{IsWord as IsWordText}
use Rattle.jr_lex.specs.Symbols.{symbol_text}
use Rattle.jr_lex.specs.Lexemes.{IsLexeme}
use Rattle.jr_lex.specs.Lexes.{Lexes, span_of as between}
use Rattle.jr_lex.specs.Beside.{Piece, join_pieces, items_from}
use Rattle.jr_lex.specs.Near.{IsCut}
use Rattle.jr_lex.proofs.ScanMeaning.{no_empty}
use Rattle.jr_lex.proofs.FirstLaws.{other-start}
use Rattle.jr_lex.proofs.WordLaws.{keyword-IsWord}
use Rattle.jr_lex.proofs.OneLexeme.{cut_near}
use Rattle.jr_lex.proofs.Yields.{near_run, same_line}
use Rattle.jr_grammar.specs.Tokens.{Token, token_of, placed_of, with_placed, kinds}
use Rattle.jr_grammar.specs.Stands.{Tokens, last_to}
use Rattle.jr_splice.specs.Cutting.{own_token, with_token, tokens_in}
use Rattle.jr_splice.proofs.Cut.{AreCut, own_inside}
use Rattle.jr_rewrite.specs.Woven.{MayFront, Fronted, IsTile, Tiled, Woven, Behind, anything, token_to, WovenFrom, Weaving, Weaves}
use Rattle.jr_rewrite.proofs.Tiles.{tiled_text, lexes_tiled}
use Rattle.jr_rewrite.proofs.Skipping.{tiled_further}
use Rattle.jr_rewrite.proofs.Steps.{Step, stay, cast, swap, close, weave, olds, changes, news, Flow}
use Rattle.jr_rewrite.proofs.Woven.{rest_woven, steps_weave}
use Rattle.jr_moved_texts.specs.Moved.{anywhere, nowhere_weaves, EndsThere}

stands_anywhere : (at : ℕ) (k : ItemKind) → MayFront anywhere at k
stands_anywhere at (TokenItem k) = tt
stands_anywhere at Blank = tt
stands_anywhere at Comment = tt

-- ---- lexemes that are cut are items

pub pieces_tiled : (ps : List Piece) → AreCut ps → (at : ℕ) → Tiled anywhere at (join_pieces ps) (items_from at ps)
pieces_tiled [] h at = refl
pieces_tiled (p ∷ ps) h at = (
  p.text,
  join_pieces ps,
  refl,
  record { place = refl; is_text = h.0; cut = h.1; fronts = stands_anywhere (at + length p.text) p.kind },
  pieces_tiled ps h.2 (at + length p.text),
)

-- ---- the last of some items

-- the last is a token of the kind
abbrev pub EndsIn : TokenKind → List Item → Type 0
EndsIn k [] = ⊥
EndsIn k (i ∷ []) = i.kind ≡ TokenItem k
EndsIn k (i ∷ j ∷ is) = EndsIn k (j ∷ is)

-- a lexeme of one dot is that symbol
dot_token : (k : TokenKind) → IsLexeme (TokenItem k) (46 ∷ []) → k ≡ Mark symbol.Dot
dot_token Word h = absurd (both_ways (is_word_start 46) (other-start 46 refl) h.is_word.0)
dot_token (Keyword k) h = absurd (both_ways (is_word_start 46) (other-start 46 refl) (subst IsWordText (sym h) (keyword-IsWord k)).0)
dot_token (Int n) h = absurd (false≢true h.0)
dot_token Text h = absurd (quote h.content h.quotes)
  where
    quote : (content : List ℕ) → 46 ∷ [] ≡ 34 ∷ (content ++ 34 ∷ []) → ⊥
    quote content e = cc
dot_token (Mark s) h = by_symbol s h
  where
    by_symbol : (s : Symbol) → 46 ∷ [] ≡ symbol_text s → Mark s ≡ Mark symbol.Dot
    by_symbol symbol.Dot e = refl
    by_symbol symbol.Ellipsis e = absurd (omega (arith, ap length e))
    by_symbol symbol.OpenParen e = absurd (false≢true (sym (ap (first_passes (λ c. c == 46)) e)))
    by_symbol _ e = absurd (false≢true (sym (ap (first_passes (λ c. c == 46)) e)))

pub some_lexeme : {at : ℕ} {i : Item} {f r : List ℕ} → IsTile anywhere at i f r → chars f ≡ [] → ⊥
some_lexeme {i = i} t none = no_empty i.kind (subst (IsLexeme i.kind) none t.cut.taken.lexeme)

front_some : (a b : List ℕ) → (a ≡ [] → ⊥) → a ++ b ≡ [] → ⊥
front_some [] b h e = h refl
front_some (c ∷ a) b h e = cc

some_left : (at : ℕ) (bs : List ℕ) (j : Item) (js : List Item) → Tiled anywhere at bs (j ∷ js) → chars bs ≡ [] → ⊥
some_left at bs j js t none = front_some (chars t.0) (chars t.1) (some_lexeme t.3) (sym (ap chars t.2 ∙ chars-append t.0 t.1 t.3.is_text) ∙ none)

-- the characters that are left aren't one dot
no_dot_left : (at : ℕ) (bytes : List ℕ) (items : List Item) (k : TokenKind) → Tiled anywhere at bytes items → EndsIn k items → k ≢ Mark symbol.Dot → chars bytes ≡ 46 ∷ [] → ⊥
no_dot_left at bytes [] k tiled last no_dot e = last
no_dot_left at bytes (i ∷ []) k tiled last no_dot e =
    let whole : chars bytes ≡ chars tiled.0 = ap chars (tiled.2 ∙ ap (λ r. tiled.0 ++ r) tiled.4 ∙ append-nil tiled.0) in
    no_dot (dot_token k (subst (IsLexeme (TokenItem k)) (sym whole ∙ e) (subst (λ x. IsLexeme x (chars tiled.0)) last tiled.3.cut.taken.lexeme)))
no_dot_left at bytes (i ∷ j ∷ is) k tiled last no_dot e =
    two (chars tiled.0) (chars tiled.1) (some_lexeme tiled.3) (some_left (at + length tiled.0) tiled.1 j is tiled.4) (sym (ap chars tiled.2 ∙ chars-append tiled.0 tiled.1 tiled.3.is_text) ∙ e)
  where
    two : (a b : List ℕ) → (a ≡ [] → ⊥) → (b ≡ [] → ⊥) → a ++ b ≡ 46 ∷ [] → ⊥
    two [] b h g e = h refl
    two (n ∷ []) [] h g e = g refl
    two (n ∷ []) (m ∷ b) h g e = cc
    two (n ∷ m ∷ a) b h g e = cc

-- ---- items in front of another text

pub tiled_before : (at : ℕ) (bytes : List ℕ) (items : List Item) (k : TokenKind) (new : List ℕ) (others : List Item) → Tiled anywhere at bytes items → EndsIn k items → k ≢ Mark symbol.Dot → EndsThere k (chars new)
    → Tiled anywhere (at + length bytes) new others → Tiled anywhere at (bytes ++ new) (items ++ others)
tiled_before at bytes [] k new others tiled last no_dot ends more = absurd last
tiled_before at bytes (i ∷ []) k new others tiled last no_dot ends more =
    let whole : bytes ≡ tiled.0 = tiled.2 ∙ ap (λ r. tiled.0 ++ r) tiled.4 ∙ append-nil tiled.0 in
    let lexeme : IsLexeme (TokenItem k) (chars tiled.0) = subst (λ x. IsLexeme x (chars tiled.0)) last tiled.3.cut.taken.lexeme in (
      tiled.0,
      new,
      ap (λ b. b ++ new) whole,
      record {
        place = tiled.3.place;
        is_text = tiled.3.is_text;
        cut = subst (λ x. IsCut x (chars tiled.0) (chars new)) (sym last) (ends (chars tiled.0) lexeme);
        fronts = tiled.3.fronts;
      },
      subst (λ b. Tiled anywhere (at + length b) new others) whole more,
    )
tiled_before at bytes (i ∷ j ∷ is) k new others tiled last no_dot ends more =
    let f : List ℕ = tiled.0 in
    let r : List ℕ = tiled.1 in
    let long : at + length bytes ≡ at + length f + length r = omega (arith, ap length tiled.2, length-append f r) in
    let behind = tiled_before (at + length f) r (j ∷ is) k new others tiled.4 last no_dot ends (subst (λ n. Tiled anywhere n new others) long more) in
    let some : chars r ≡ [] → ⊥ = some_left (at + length f) r j is tiled.4 in
    let text : chars (r ++ new) ≡ chars r ++ chars new = chars-append r new (tiled_text anywhere (at + length f) r (j ∷ is) tiled.4) in
    let cut : IsCut i.kind (chars f) (chars r ++ []) = subst (IsCut i.kind (chars f)) (sym (append-nil (chars r))) tiled.3.cut in
    let near = near_run (chars r) [] (chars new) some (λ dot. absurd (no_dot_left (at + length f) r (j ∷ is) k tiled.4 last no_dot dot)) in (
      f,
      r ++ new,
      ap (λ b. b ++ new) tiled.2 ∙ append_assoc f r new,
      record {
        place = tiled.3.place;
        is_text = tiled.3.is_text;
        cut = subst (IsCut i.kind (chars f)) (sym text) (cut_near i.kind (chars f) (chars r ++ []) (chars r ++ chars new) near (same_line i.kind (chars r) [] (chars new) some) cut);
        fronts = tiled.3.fronts;
      },
      behind,
    )

-- ---- tokens of items

with_append : (s : Span) (o : Option Token) (ps qs : Tokens) → with_placed s o ps ++ qs ≡ with_placed s o (ps ++ qs)
with_append s None ps qs = refl
with_append s (Some t) ps qs = refl

pub placed_append : (bytes : List ℕ) (xs ys : List Item) → placed_of bytes (xs ++ ys) ≡ placed_of bytes xs ++ placed_of bytes ys
placed_append bytes [] ys = refl
placed_append bytes (i ∷ xs) ys =
    ap (with_placed i.span (token_of bytes i.span i.kind)) (placed_append bytes xs ys) ∙ sym (with_append i.span (token_of bytes i.span i.kind) (placed_of bytes xs) (placed_of bytes ys))

-- an item's token, by its bytes
own_at : (pre f post : List ℕ) (i : Item) → i.span ≡ between (length pre) (length pre + length f) → token_of (pre ++ (f ++ post)) i.span i.kind ≡ own_token i.kind f
own_at pre f post i e = ap (λ s. token_of (pre ++ (f ++ post)) s i.kind) e ∙ own_inside pre f post i.kind

-- whatever stands behind
pub placed_more : (items : List Item) (pre inside more other : List ℕ) → Tiled anywhere (length pre) inside items → placed_of (pre ++ (inside ++ more)) items ≡ placed_of (pre ++ (inside ++ other)) items
placed_more [] pre inside more other tiled = refl
placed_more (i ∷ is) pre inside more other tiled =
    let f : List ℕ = tiled.0 in
    let r : List ℕ = tiled.1 in
    let here : (x : List ℕ) → pre ++ (inside ++ x) ≡ pre ++ (f ++ (r ++ x)) = λ x. ap (λ b. pre ++ (b ++ x)) tiled.2 ∙ ap (λ b. pre ++ b) (append_assoc f r x) in
    let there : (x : List ℕ) → pre ++ (inside ++ x) ≡ (pre ++ f) ++ (r ++ x) = λ x. here x ∙ sym (append_assoc pre f (r ++ x)) in
    let own : (x : List ℕ) → token_of (pre ++ (inside ++ x)) i.span i.kind ≡ own_token i.kind f =
    λ x. ap (λ b. token_of b i.span i.kind) (here x) ∙ own_at pre f (r ++ x) i tiled.3.place in
    let again = placed_more is (pre ++ f) r more other (tiled_further anywhere pre f r is tiled.4) in
    let behind : placed_of (pre ++ (inside ++ more)) is ≡ placed_of (pre ++ (inside ++ other)) is =
    ap (λ b. placed_of b is) (there more) ∙ again ∙ ap (λ b. placed_of b is) (sym (there other)) in
    (λ j. with_placed i.span ((own more ∙ sym (own other)) j) (behind j))

kinds_with : (s : Span) (o : Option Token) (ps : Tokens) → kinds (with_placed s o ps) ≡ with_token o (kinds ps)
kinds_with s None ps = refl
kinds_with s (Some t) ps = refl

pub pieces_kinds : (ps : List Piece) (pre : List ℕ) → kinds (placed_of (pre ++ join_pieces ps) (items_from (length pre) ps)) ≡ tokens_in ps
pieces_kinds [] pre = refl
pieces_kinds (p ∷ ps) pre =
    let w : List ℕ = p.text in
    let post : List ℕ = join_pieces ps in
    let grouped : (pre ++ w) ++ post ≡ pre ++ (w ++ post) = append_assoc pre w post in
    let again : kinds (placed_of (pre ++ (w ++ post)) (items_from (length pre + length w) ps)) ≡ tokens_in ps =
    ap (λ b. kinds (placed_of b (items_from (length pre + length w) ps))) (sym grouped)
    ∙ ap (λ n. kinds (placed_of ((pre ++ w) ++ post) (items_from n ps))) (sym (length-append pre w))
    ∙ pieces_kinds ps (pre ++ w) in
    let s : Span = between (length pre) (length pre + length w) in
    kinds_with s (token_of (pre ++ (w ++ post)) s p.kind) (placed_of (pre ++ (w ++ post)) (items_from (length pre + length w) ps))
    ∙ (λ i. with_token (own_inside pre w post p.kind i) (again i))

-- ---- what stays

abbrev stays : Tokens → List Step
stays [] = []
stays (p ∷ ps) = stay p ∷ stays ps

stays_olds : (ps : Tokens) → olds (stays ps) ≡ ps
stays_olds [] = refl
stays_olds (p ∷ ps) = ap (λ xs. p ∷ xs) (stays_olds ps)

stays_changes : (ps : Tokens) → changes (stays ps) ≡ []
stays_changes [] = refl
stays_changes (p ∷ ps) = stays_changes ps

stays_news : (ps : Tokens) → news (stays ps) ≡ kinds ps
stays_news [] = refl
stays_news (p ∷ ps) = ap (λ ts. p.token ∷ ts) (stays_news ps)

stays_flow : (ps : Tokens) (last : Behind) → Flow nowhere_weaves last (stays ps)
stays_flow [] last = tt
stays_flow (p ∷ ps) last = stays_flow ps (token_to p.mark.to)

-- steps without spots
pub no_weaving : (W : Weaving) (last : Behind) (ss : List Step) → Flow nowhere_weaves last ss → Flow W last ss
no_weaving W last [] h = tt
no_weaving W last (stay p ∷ ss) h = no_weaving W (token_to p.mark.to) ss h
no_weaving W last (cast k at ∷ ss) h = (h.0, h.1, no_weaving W anything ss h.2)
no_weaving W last (swap run f x ∷ ss) h = (h.0, no_weaving W (token_to (last_to run)) ss h.1)
no_weaving W last (close at d w x ∷ ss) h = (h.0, h.1, h.2, no_weaving W (token_to w.mark.to) ss h.3)
no_weaving W last (weave f run cs us b ∷ ss) h = absurd h.2

pub unchanged : (bytes : List ℕ) (more : Tokens) (last : Behind) → WovenFrom anywhere bytes more last [] (kinds more)
unchanged bytes more last items pre post e tiled placed here =
    let all = steps_weave anywhere bytes (stays more) last [] [] [] (no_weaving (Weaves anywhere bytes) last (stays more) (stays_flow more last))
    (λ is pre' post' e' t q h. (rest_woven is bytes pre' post' e' t q).woven) items pre post e tiled (placed ∙ sym (append-nil (olds (stays more)) ∙ stays_olds more)) here in
    subst (λ cs. Woven anywhere bytes pre post cs (kinds more)) (append-nil (changes (stays more)) ∙ stays_changes more)
    (subst (Woven anywhere bytes pre post (changes (stays more) ++ [])) (append-nil (news (stays more)) ∙ stays_news more) all)

-- ---- a whole text

fronted_anywhere : (items : List Item) → Fronted anywhere items
fronted_anywhere [] = tt
fronted_anywhere (i ∷ is) = (stands_anywhere i.span.to i.kind, fronted_anywhere is)

pub text_tiled : (text : List ℕ) (items : List Item) → Lexes text items → Tiled anywhere 0 text items
text_tiled text items h = lexes_tiled anywhere text items (fronted_anywhere items) h
