-- The tokens of a text rise, and its words `super` are those of its items.
use Rattle.std.proofs.Common.{◌≡◌, ℕ, zero, suc, ◌<◌, ◌≤◌, List, [], ◌∷◌, ◌++◌, length, refl, sym, ap, subst, ◌∙◌, inl, inr, append_assoc, arith}
use Rattle.std.specs.Prelude.{◌⊎◌, slice_get, Option, Some, None}
use Rattle.std.proofs.lemmas.Option.{none-some, same_Some}
use Rattle.std.proofs.lemmas.List.Sums.{fold-append}
use Rattle.jr_text.specs.declared.spans.Span.{Span}
use Rattle.jr_lex.specs.declared.items.Item.{Item}
use Rattle.jr_lex.specs.declared.items.ItemKind.{ItemKind}
use Rattle.jr_lex.specs.declared.items.ItemKind.TheVariants as item
use Rattle.jr_lex.specs.declared.items.TokenKind.{TokenKind}
use Rattle.jr_lex.specs.declared.items.TokenKind.TheVariants as token
use Rattle.jr_lex.specs.declared.items.Keyword.TheVariants.{Super}
use Rattle.jr_lex.specs.Lexes.{Lexes}
use Rattle.jr_lex.specs.Places.{end_of, ItemsPlaced}
use Rattle.jr_grammar.specs.Tokens.{Token, token_of, with_placed, placed_of}
use Rattle.jr_grammar.specs.Stands.{Tokens, first_from, last_to, span_of}
use Rattle.jr_program_laws.specs.FileParts.{HasTokenAt, BeginsToken, IsSuperAt}
use Rattle.jr_program_laws.proofs.TokenOrder.{StartsIn, Rising, before, from_first, to_last, Filled, starts_first, rising_front, rising_back, in_front, Piece, last_before}
use Rattle.jr_program_laws.proofs.Supers.{SuperIn, IsFirstSuper, super_starts, super_front, super_back, super_parts}

-- ---- they rise

-- and begin at this byte or behind it
abbrev RisesFrom : ℕ → Tokens → Type 0
RisesFrom from ps = Rising ps × ((at : ℕ) → StartsIn ps at → from ≤ at)

one_more : (s : Span) (t : Option Token) (rest : Tokens) → s.from < s.to → RisesFrom s.to rest → RisesFrom s.from (with_placed s t rest)
one_more s None rest less h = (h.0, λ at b. let to = h.1 at b in omega arith)
one_more s (Some t) rest less h = ((less, h.1, h.0), from)
  where
    from : (at : ℕ) → (at ≡ s.from) ⊎ StartsIn rest at → s.from ≤ at
    from at (inl e) = omega arith
    from at (inr b) = let to = h.1 at b in omega arith

last_within : (s : Span) (t : Option Token) (rest : Tokens) (size : ℕ) → s.to ≤ size → (Filled rest → last_to rest ≤ size) → Filled (with_placed s t rest) → last_to (with_placed s t rest) ≤ size
last_within s None rest size own h f = h f
last_within s (Some t) [] size own h f = own
last_within s (Some t) (q ∷ rest) size own h f = h tt

end_behind : (front : List Item) (i : Item) → end_of (front ++ i ∷ []) ≡ i.span.to
end_behind front i = fold-append (λ (n : ℕ) (x : Item). x.span.to) 0 front (i ∷ [])

module _ (text : List ℕ) (placed : ItemsPlaced) where
  rise_from : (front items : List Item) → Lexes text (front ++ items) → RisesFrom (end_of front) (placed_of text items)
  rise_from front [] lexes = (tt, λ at h. absurd h)
  rise_from front (i ∷ items) lexes =
      let is = placed text front i items lexes in
      let further : Lexes text ((front ++ i ∷ []) ++ items) = subst (Lexes text) (sym (append_assoc front (i ∷ []) items)) lexes in
      let rest = subst (λ (n : ℕ). RisesFrom n (placed_of text items)) (end_behind front i) (rise_from (front ++ i ∷ []) items further) in
      subst (λ (n : ℕ). RisesFrom n (placed_of text (i ∷ items))) is.1 (one_more i.span (token_of text i.span i.kind) (placed_of text items) is.0.some rest)

  pub tokens_rise : (items : List Item) → Lexes text items → Rising (placed_of text items)
  tokens_rise items lexes = (rise_from [] items lexes).0

  -- and end within the text
  tokens_end : (front items : List Item) → Lexes text (front ++ items) → Filled (placed_of text items) → last_to (placed_of text items) ≤ length text
  tokens_end front [] lexes f = absurd f
  tokens_end front (i ∷ items) lexes f =
      let is = placed text front i items lexes in
      let further : Lexes text ((front ++ i ∷ []) ++ items) = subst (Lexes text) (sym (append_assoc front (i ∷ []) items)) lexes in
      last_within i.span (token_of text i.span i.kind) (placed_of text items) (length text) is.0.cut.within (tokens_end (front ++ i ∷ []) items further) f

  pub tokens_within : (items : List Item) → Lexes text items → Filled (placed_of text items) → last_to (placed_of text items) ≤ length text
  tokens_within items lexes f = tokens_end [] items lexes f

  -- ---- two items that begin at one byte are one

  late : (front items : List Item) → Lexes text (front ++ items) → (n : ℕ) (x : Item) → slice_get items n ≡ Some x → end_of front ≤ x.span.from
  late front [] lexes n x e = absurd (none-some x e)
  late front (i ∷ items) lexes zero x e = let from = (placed text front i items lexes).1 in let same = ap (λ (y : Item). y.span.from) (same_Some i x e) in omega arith
  late front (i ∷ items) lexes (suc n) x e =
      let is = placed text front i items lexes in
      let further : Lexes text ((front ++ i ∷ []) ++ items) = subst (Lexes text) (sym (append_assoc front (i ∷ []) items)) lexes in
      let behind = late (front ++ i ∷ []) items further n x e in
      let ends = end_behind front i in
      let some = is.0.some in
      let from = is.1 in
      omega arith

  -- the first of them begins in front of each other
  ahead : (front : List Item) (i : Item) (items : List Item) → Lexes text (front ++ i ∷ items) → (n : ℕ) (x : Item) → slice_get items n ≡ Some x → i.span.from < x.span.from
  ahead front i items lexes n x e =
      let further : Lexes text ((front ++ i ∷ []) ++ items) = subst (Lexes text) (sym (append_assoc front (i ∷ []) items)) lexes in
      let behind = late (front ++ i ∷ []) items further n x e in
      let ends = end_behind front i in
      let some = (placed text front i items lexes).0.some in
      omega arith

  one_item : (front items : List Item) → Lexes text (front ++ items) → (i j : ℕ) (x y : Item) → slice_get items i ≡ Some x → slice_get items j ≡ Some y → x.span.from ≡ y.span.from → i ≡ j
  one_item front [] lexes i j x y e f same = absurd (none-some x e)
  one_item front (a ∷ items) lexes zero zero x y e f same = refl
  one_item front (a ∷ items) lexes zero (suc j) x y e f same =
      let less = ahead front a items lexes j y f in
      let is = ap (λ (z : Item). z.span.from) (same_Some a x e) in
      absurd (omega arith)
  one_item front (a ∷ items) lexes (suc i) zero x y e f same =
      let less = ahead front a items lexes i x e in
      let is = ap (λ (z : Item). z.span.from) (same_Some a y f) in
      absurd (omega arith)
  one_item front (a ∷ items) lexes (suc i) (suc j) x y e f same =
      let further : Lexes text ((front ++ a ∷ []) ++ items) = subst (Lexes text) (sym (append_assoc front (a ∷ []) items)) lexes in
      ap suc (one_item (front ++ a ∷ []) items further i j x y e f same)

  pub items_begin_once : (items : List Item) → Lexes text items → (i j : ℕ) (x y : Item) → slice_get items i ≡ Some x → slice_get items j ≡ Some y → x.span.from ≡ y.span.from → i ≡ j
  items_begin_once items lexes i j x y e f same = one_item [] items lexes i j x y e f same

-- ---- where tokens begin

module _ (text : List ℕ) where
  begins_here : (s : Span) (k : ItemKind) (rest : Tokens) (at : ℕ) → StartsIn (with_placed s (token_of text s k) rest) at → ((t : TokenKind) × ((k ≡ item.Token t) × (at ≡ s.from))) ⊎ StartsIn rest at
  begins_here s item.Blank rest at h = inr h
  begins_here s item.Comment rest at h = inr h
  begins_here s (item.Token t) rest at (inl e) = inl (t, (refl, e))
  begins_here s (item.Token t) rest at (inr h) = inr h

  -- a token of the text is an item
  pub stands_token : (items : List Item) (at : ℕ) → StartsIn (placed_of text items) at → BeginsToken items at
  stands_token [] at h = absurd h
  stands_token (i ∷ items) at h = here (begins_here i.span i.kind (placed_of text items) at h) (stands_token items at)
    where
      here : ((t : TokenKind) × ((i.kind ≡ item.Token t) × (at ≡ i.span.from))) ⊎ StartsIn (placed_of text items) at → (StartsIn (placed_of text items) at → BeginsToken items at) → BeginsToken (i ∷ items) at
      here (inl k) further = (k.0, record { number = 0; token = i; stands = refl; is = k.1.0; place = sym k.1.1 })
      here (inr k) further = let r = further k in (r.0, record { number = suc r.1.number; token = r.1.token; stands = r.1.stands; is = r.1.is; place = r.1.place })

-- ---- their words `super`

module _ (text : List ℕ) where
  super_here : (s : Span) (k : ItemKind) (rest : Tokens) → k ≡ item.Token (token.Keyword Super) → SuperIn (with_placed s (token_of text s k) rest) s.from
  super_here s k rest e = subst (λ (x : ItemKind). SuperIn (with_placed s (token_of text s x) rest) s.from) (sym e) (inl (refl, refl))

  super_further : (s : Span) (t : Option Token) (rest : Tokens) (at : ℕ) → SuperIn rest at → SuperIn (with_placed s t rest) at
  super_further s None rest at h = h
  super_further s (Some t) rest at h = inr h

  is_super : (items : List Item) (n : ℕ) (t : Item) (at : ℕ) → slice_get items n ≡ Some t → t.kind ≡ item.Token (token.Keyword Super) → t.span.from ≡ at → SuperIn (placed_of text items) at
  is_super [] n t at e k p = absurd (none-some t e)
  is_super (i ∷ items) zero t at e k p =
      let same : i ≡ t = same_Some i t e in
      subst (SuperIn (placed_of text (i ∷ items))) (ap (λ (x : Item). x.span.from) same ∙ p) (super_here i.span i.kind (placed_of text items) (ap (λ (x : Item). x.kind) same ∙ k))
  is_super (i ∷ items) (suc n) t at e k p = super_further i.span (token_of text i.span i.kind) (placed_of text items) at (is_super items n t at e k p)

  has_super : (items : List Item) (at : ℕ) → HasTokenAt items (token.Keyword Super) at → SuperIn (placed_of text items) at
  has_super items at h = is_super items h.number h.token at h.stands h.is h.place

  which : (s : Span) (k : ItemKind) (rest : Tokens) (at : ℕ) → SuperIn (with_placed s (token_of text s k) rest) at → ((k ≡ item.Token (token.Keyword Super)) × (at ≡ s.from)) ⊎ SuperIn rest at
  which s item.Blank rest at h = inr h
  which s item.Comment rest at h = inr h
  which s (item.Token t) rest at (inr h) = inr h
  which s (item.Token (token.Keyword w)) rest at (inl h) = let same = h.0 in inl (cc, h.1)
  which s (item.Token token.Word) rest at (inl h) = let same = h.0 in absurd cc
  which s (item.Token (token.Int n)) rest at (inl h) = let same = h.0 in absurd cc
  which s (item.Token token.Text) rest at (inl h) = let same = h.0 in absurd cc
  which s (item.Token (token.Mark m)) rest at (inl h) = let same = h.0 in absurd cc

  stands_super : (items : List Item) (at : ℕ) → SuperIn (placed_of text items) at → HasTokenAt items (token.Keyword Super) at
  stands_super [] at h = absurd h
  stands_super (i ∷ items) at h = here (which i.span i.kind (placed_of text items) at h) (stands_super items at)
    where
      here : ((i.kind ≡ item.Token (token.Keyword Super)) × (at ≡ i.span.from)) ⊎ SuperIn (placed_of text items) at → (SuperIn (placed_of text items) at → HasTokenAt items (token.Keyword Super) at)
          → HasTokenAt (i ∷ items) (token.Keyword Super) at
      here (inl k) further = record { number = 0; token = i; stands = refl; is = k.0; place = sym k.1 }
      here (inr k) further = let r = further k in record { number = suc r.number; token = r.token; stands = r.stands; is = r.is; place = r.place }

  -- that of a span is the first of the span's tokens
  pub first_of_span : (items : List Item) (ps : Tokens) (m : Span) (at : ℕ) → Rising (placed_of text items) → Piece (placed_of text items) ps → Filled ps → m ≡ span_of ps → IsSuperAt items m at → IsFirstSuper at ps
  first_of_span items ps m at rising piece filled mark is = record {
    has = in_piece (super_parts piece.front (ps ++ piece.back) at (subst (λ (x : Tokens). SuperIn x at) piece.whole (has_super items at is.there)));
    first = least;
  }
    where
      from : m.from ≡ first_from ps
      from = ap (λ (s : Span). s.from) mark

      to : m.to ≡ last_to ps
      to = ap (λ (s : Span). s.to) mark

      parts_rise : Rising (piece.front ++ (ps ++ piece.back))
      parts_rise = subst Rising piece.whole rising

      behind_rises : Rising (ps ++ piece.back)
      behind_rises = rising_back piece.front (ps ++ piece.back) parts_rise

      in_rest : SuperIn ps at ⊎ SuperIn piece.back at → SuperIn ps at
      in_rest (inl h) = h
      in_rest (inr h) =
          let late = last_before ps piece.back behind_rises filled at (super_starts piece.back at h) in
          let early = is.within.1 in
          let ends = to in
          absurd (omega arith)

      in_piece : SuperIn piece.front at ⊎ SuperIn (ps ++ piece.back) at → SuperIn ps at
      in_piece (inl h) =
          let less = before piece.front (ps ++ piece.back) parts_rise at (first_from ps) (super_starts piece.front at h) (in_front ps piece.back (first_from ps) (starts_first ps filled)) in
          let late = is.within.0 in
          let starts = from in
          absurd (omega arith)
      in_piece (inr h) = in_rest (super_parts ps piece.back at h)

      least : (other : ℕ) → SuperIn ps other → at ≤ other
      least other h =
          let there = stands_super items other (subst (λ (x : Tokens). SuperIn x other) (sym piece.whole) (super_back piece.front (ps ++ piece.back) other (super_front ps piece.back other h))) in
          let late = from_first ps (rising_front ps piece.back behind_rises) other (super_starts ps other h) in
          let starts = from in
          let start : m.from ≤ other = omega arith in
          is.first other there start

  -- and the first of a span's tokens is that of the span
  pub span_of_first : (items : List Item) (ps : Tokens) (m : Span) (at : ℕ) → Rising (placed_of text items) → Piece (placed_of text items) ps → Filled ps → m ≡ span_of ps → IsFirstSuper at ps → IsSuperAt items m at
  span_of_first items ps m at rising piece filled mark is = record {
    there = stands_super items at (subst (λ (x : Tokens). SuperIn x at) (sym piece.whole) (super_back piece.front (ps ++ piece.back) at (super_front ps piece.back at is.has)));
    within = lies;
    first = λ other there from. least other from (super_parts piece.front (ps ++ piece.back) other (subst (λ (x : Tokens). SuperIn x other) piece.whole (has_super items other there)));
  }
    where
      from_is : m.from ≡ first_from ps
      from_is = ap (λ (s : Span). s.from) mark

      to_is : m.to ≡ last_to ps
      to_is = ap (λ (s : Span). s.to) mark

      parts_rise : Rising (piece.front ++ (ps ++ piece.back))
      parts_rise = subst Rising piece.whole rising

      behind_rises : Rising (ps ++ piece.back)
      behind_rises = rising_back piece.front (ps ++ piece.back) parts_rise

      rises : Rising ps
      rises = rising_front ps piece.back behind_rises

      lies : (m.from ≤ at) × (at < m.to)
      lies =
          let a = from_is in
          let b = to_is in
          let first = from_first ps rises at (super_starts ps at is.has) in
          let last = to_last ps rises at (super_starts ps at is.has) in
          (omega arith, omega arith)

      behind : (other : ℕ) → SuperIn ps other ⊎ SuperIn piece.back other → at ≤ other
      behind other (inl h) = is.first other h
      behind other (inr h) = let less = before ps piece.back behind_rises at other (super_starts ps at is.has) (super_starts piece.back other h) in omega arith

      least : (other : ℕ) → m.from ≤ other → SuperIn piece.front other ⊎ SuperIn (ps ++ piece.back) other → at ≤ other
      least other from (inl h) =
          let starts = from_is in
          let less = before piece.front (ps ++ piece.back) parts_rise other (first_from ps) (super_starts piece.front other h) (in_front ps piece.back (first_from ps) (starts_first ps filled)) in
          absurd (omega arith)
      least other from (inr h) = behind other (super_parts ps piece.back other h)
