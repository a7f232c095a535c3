-- A word among the tokens of a text has as many bytes as its span.
use Rattle.std.proofs.Common.{◌≡◌, ℕ, ◌+◌, ◌-◌, ◌<◌, ◌≤◌, List, [], ◌∷◌, ◌++◌, length, take, drop, slice_range, Option, Some, None, refl, sym, ap, subst, ◌∙◌, arith}
use Rattle.std.proofs.lemmas.List.{length-take-le, length-drop}
use Rattle.jr_text.specs.declared.spans.Span.{Span}
use Rattle.jr_lex.specs.declared.items.Item.{Item}
use Rattle.jr_lex.specs.declared.items.ItemKind.{ItemKind}
use Rattle.jr_lex.specs.declared.items.ItemKind.TheVariants as item
use Rattle.jr_lex.specs.declared.items.TokenKind.{TokenKind}
use Rattle.jr_lex.specs.declared.items.TokenKind.TheVariants as kind
use Rattle.jr_lex.specs.Lexes.{Lexes}
use Rattle.jr_lex.specs.Places.{ItemsPlaced}
use Rattle.jr_ast.specs.Tree as tree
use Rattle.jr_grammar.specs.Tokens.{Token, word, Placed, token_of, with_placed, placed_of}
use Rattle.jr_grammar.specs.Stands.{Tokens, span_of, IsAlone, InOrder, Stands}
use Rattle.jr_grammar.specs.ExpressionLayout.{word_layout, exp_layout}
use Rattle.jr_local_marks.specs.MarkLaws.{IsWhole, IsSpelled}
use Rattle.jr_local_texts.proofs.StandingParts.{Among}

-- ---- the item of a token

-- items in front of one, it, and those behind it; it has this span, and is this token
record ItemOf (text : List ℕ) (items : List Item) (x : Placed Span) : Type 0 where
  front : List Item
  item : Item
  back : List Item
  whole : items ≡ front ++ item ∷ back
  span : item.span ≡ x.mark
  token : token_of text item.span item.kind ≡ Some x.token

abbrev behind : (text : List ℕ) (i : Item) (items : List Item) (x : Placed Span) → ItemOf text items x → ItemOf text (i ∷ items) x
behind text i items x h = record { front = i ∷ h.front; item = h.item; back = h.back; whole = ap (λ js. i ∷ js) h.whole; span = h.span; token = h.token }

none_there : (front back : Tokens) (x : Placed Span) → (let n : Tokens = [] in n ≡ front ++ x ∷ back) → ⊥
none_there [] back x e = cc
none_there (y ∷ front) back x e = cc

same_head : (x y : Placed Span) (xs ys : Tokens) → x ∷ xs ≡ y ∷ ys → x ≡ y
same_head x y xs ys e = cc

same_tail : (x y : Placed Span) (xs ys : Tokens) → x ∷ xs ≡ y ∷ ys → xs ≡ ys
same_tail x y xs ys e = cc

item_of : (text : List ℕ) (items : List Item) (front back : Tokens) (x : Placed Span) → placed_of text items ≡ front ++ x ∷ back → ItemOf text items x
item_of text [] front back x e = absurd (none_there front back x e)
item_of text (i ∷ items) front back x e = by (token_of text i.span i.kind) refl front e (item_of text items)
  where
    by : (o : Option Token) → token_of text i.span i.kind ≡ o → (front : Tokens) → with_placed i.span o (placed_of text items) ≡ front ++ x ∷ back
        → ((front back : Tokens) (x : Placed Span) → placed_of text items ≡ front ++ x ∷ back → ItemOf text items x) → ItemOf text (i ∷ items) x
    by None t front e go = behind text i items x (go front back x e)
    by (Some token) t [] e go =
        let same = same_head (record { mark = i.span; token = token }) x (placed_of text items) back e in
        record { front = []; item = i; back = items; whole = refl; span = ap (λ (y : Placed Span). y.mark) same; token = t ∙ ap (λ (y : Placed Span). Some y.token) same }
    by (Some token) t (y ∷ front) e go = behind text i items x (go front back x (same_tail (record { mark = i.span; token = token }) y (placed_of text items) (front ++ x ∷ back) e))

-- ---- words

text_of : (bytes t : List ℕ) (s : Span) (k : ItemKind) → token_of bytes s k ≡ Some (word t) → slice_range bytes s.from s.to ≡ t
text_of bytes t s (item.Token kind.Word) e = cc
text_of bytes t s (item.Token (kind.Keyword w)) e = absurd cc
text_of bytes t s (item.Token (kind.Int n)) e = absurd cc
text_of bytes t s (item.Token kind.Text) e = absurd cc
text_of bytes t s (item.Token (kind.Mark m)) e = absurd cc
text_of bytes t s item.Blank e = absurd cc
text_of bytes t s item.Comment e = absurd cc

slice_long : (bytes : List ℕ) (from to : ℕ) → from ≤ to → to ≤ length bytes → length (slice_range bytes from to) ≡ to - from
slice_long bytes from to le in_it =
    length-take-le (to - from) (drop from bytes) (let d : length (drop from bytes) ≡ length bytes - from = length-drop from bytes in let short : to - from ≤ length (drop from bytes) = omega (arith, d, le, in_it) in short)

word_long : ItemsPlaced → (text : List ℕ) (items : List Item) → Lexes text items → (front back : Tokens) (x : Placed Span) → placed_of text items ≡ front ++ x ∷ back → (t : List ℕ) → x.token ≡ word t
    → x.mark.to ≡ x.mark.from + length t
word_long placed text items lexes front back x e t is =
    let i = item_of text items front back x e in
    let p = (placed text i.front i.item i.back (subst (Lexes text) i.whole lexes)).0 in
    let bytes : slice_range text i.item.span.from i.item.span.to ≡ t = text_of text t i.item.span i.item.kind (i.token ∙ ap Some is) in
    let ordered = p.cut.ordered in
    let within = p.cut.within in
    let long : length t ≡ i.item.span.to - i.item.span.from = ap length (sym bytes) ∙ slice_long text i.item.span.from i.item.span.to ordered within in
    let there : i.item.span.to ≡ i.item.span.from + length t = omega (arith, long, ordered) in
    subst (λ (s : Span). s.to ≡ s.from + length t) i.span there

-- ---- a word, and a name, that stand among the tokens

-- one token
record OneToken (w : tree.Word Span) (ps : Tokens) : Type 0 where
  placed : Placed Span
  alone : ps ≡ placed ∷ []
  mark : w.mark ≡ placed.mark
  token : placed.token ≡ word w.text

word_token : (w : tree.Word Span) (ps : Tokens) → Stands (word_layout w) ps → OneToken w ps
word_token w ps h =
    let alone : ps ≡ h.parts.first.placed ∷ [] = h.parts.whole ∙ (λ i. h.parts.first.alone i ++ h.parts.rest i) in
    record { placed = h.parts.first.placed; alone = alone; mark = h.mark ∙ ap span_of alone; token = h.parts.first.is }

name_token : (m : Span) (w : tree.Word Span) (ps : Tokens) → Stands (exp_layout (tree.name m w)) ps → OneToken w ps × (m ≡ w.mark)
name_token m w ps h =
    let o = word_token w h.parts.front h.parts.first in
    let alone : ps ≡ o.placed ∷ [] = h.parts.whole ∙ (λ i. o.alone i ++ h.parts.rest i) in
    (record { placed = o.placed; alone = alone; mark = o.mark; token = o.token }, h.mark ∙ ap span_of alone ∙ sym o.mark)

module _ (placed : ItemsPlaced) (text : List ℕ) (items : List Item) (lexes : Lexes text items) where
  token_whole : (w : tree.Word Span) (front part back : Tokens) → placed_of text items ≡ front ++ (part ++ back) → OneToken w part → IsWhole w
  token_whole w front part back e o =
      let there : placed_of text items ≡ front ++ o.placed ∷ back = e ∙ ap (λ (xs : Tokens). front ++ (xs ++ back)) o.alone in
      let long = word_long placed text items lexes front back o.placed there w.text o.token in
      subst (λ (s : Span). s.to ≡ s.from + length w.text) (sym o.mark) long

  pub word_whole : (w : tree.Word Span) → Among (Stands (word_layout w)) (placed_of text items) → IsWhole w
  word_whole w a = token_whole w a.front a.part a.back a.whole (word_token w a.part a.stands)

  pub name_spelled : (m : Span) (w : tree.Word Span) → Among (Stands (exp_layout (tree.name m w))) (placed_of text items) → IsSpelled m w
  name_spelled m w a = (let o = name_token m w a.part a.stands in record { mark = o.1; whole = token_whole w a.front a.part a.back a.whole o.0 })
