-- What a choice changes of a word, and of what stands in front of it, lies on tokens of names.
use Rattle.std.proofs.Common.{◌≡◌, ℕ, ◌≤◌, List, [], ◌∷◌, ◌++◌, refl, sym, ap, subst, inl, inr, arith}
use Rattle.std.specs.Prelude.{◌⊎◌}
use Rattle.jr_text.specs.declared.spans.Span.{Span}
use Rattle.jr_lex.specs.declared.items.Keyword.TheVariants.{Super}
use Rattle.jr_lex.specs.declared.items.Symbol.TheVariants.{Dot}
use Rattle.jr_ast.specs.Tree as tree
use Rattle.jr_ast.specs.Marks.{exp_mark}
use Rattle.jr_grammar.specs.Layout.{itself, done, token, ◌then◌}
use Rattle.jr_grammar.specs.Tokens.{Placed, keyword, symbol}
use Rattle.jr_grammar.specs.Stands.{Tokens, first_from, last_to, InOrder, IsNode, Stands, StandInOrder}
use Rattle.jr_grammar.specs.ExpressionLayout.{word_layout, exp_layout}
use Rattle.jr_program_laws.proofs.TokenOrder.{Rising, rising_front, from_first, Filled}
use Rattle.jr_program_laws.proofs.Filling.{Fills, alone_fills, front_fills, exp_fills}
use Rattle.jr_rewrite.specs.Respellings.{Front, same, alone, by_this, by_super, by_cast_this, by_class, by_outer_class, by_cast, Choice, stays, becomes, loses, Change}
use Rattle.jr_rewrite.specs.Rewritten.{word_changes, super_changes, dotted_changes, qualified_changes, before, behind_to, from_to}
use Rattle.jr_rewrite.specs.Suitable.{IsPath, Suits, MayStandFor}
use Rattle.jr_reference_changes.specs.Names.{Meet}
use Rattle.jr_reference_changes.specs.Places.{In}
use Rattle.jr_reference_changes.proofs.NameTokens.{IsNameToken, Has, Bounds, OnNames, bounds_front, bounds_back, has_either, has_starts, front_names, back_names, AllNames, all_names, first_bounds, last_bounds, order_named, done_named, node_named, word_named, dot_named, super_named, path_named, exp_node}

-- ---- where nodes are bound

node_from : {m : Span} {L : Tokens → Type 0} → Fills L → (ps : Tokens) → IsNode m L ps → Bounds ps m.from
node_from f ps h = subst (Bounds ps) (sym (ap (λ (s : Span). s.from) h.mark)) (first_bounds ps (f.fills ps h.parts))

node_to : {m : Span} {L : Tokens → Type 0} → Fills L → (ps : Tokens) → IsNode m L ps → Bounds ps m.to
node_to f ps h = subst (Bounds ps) (sym (ap (λ (s : Span). s.to) h.mark)) (last_bounds ps (f.fills ps h.parts))

pub word_bounds_from : (w : tree.Word Span) (ps : Tokens) → Stands (word_layout w) ps → Bounds ps w.mark.from
word_bounds_from w ps h = node_from (front_fills alone_fills) ps h

pub word_bounds_to : (w : tree.Word Span) (ps : Tokens) → Stands (word_layout w) ps → Bounds ps w.mark.to
word_bounds_to w ps h = node_to (front_fills alone_fills) ps h

pub behind_bounds : {L M : Tokens → Type 0} (k : ℕ) → ((ps : Tokens) → M ps → Bounds ps k) → (ps : Tokens) → InOrder L M ps → Bounds ps k
behind_bounds k f ps h = subst (λ (qs : Tokens). Bounds qs k) (sym h.whole) (bounds_back h.front h.back k (f h.back h.rest))

pub ahead_bounds : {L M : Tokens → Type 0} (k : ℕ) → ((ps : Tokens) → L ps → Bounds ps k) → (ps : Tokens) → InOrder L M ps → Bounds ps k
ahead_bounds k f ps h = subst (λ (qs : Tokens). Bounds qs k) (sym h.whole) (bounds_front h.front h.back k (f h.front h.first))

-- ---- words

word_names : (w : tree.Word Span) (ps : Tokens) → Stands (word_layout w) ps → OnNames ps w.mark
word_names w ps h = all_names ps w.mark (word_bounds_from w ps h) (word_bounds_to w ps h) ((word_named w).named ps h)

changed : (ps : Tokens) (s : Span) (text : List ℕ) (y : Change) → OnNames ps s → record { span = s; text = text } ≡ y → OnNames ps y.span
changed ps s text y on e = subst (λ (z : Change). OnNames ps z.span) e on

pub word_lies : (w : tree.Word Span) (h : Choice) (ps : Tokens) → Stands (word_layout w) ps → (y : Change) → In y (word_changes h w.mark) → OnNames ps y.span
word_lies w stays ps l y i = absurd i
word_lies w (loses x) ps l y i = absurd i
word_lies w (becomes r) ps l y (inl e) = changed ps w.mark _ y (word_names w ps l) e
word_lies w (becomes r) ps l y (inr n) = absurd n

-- ---- of all these tokens

-- a span whose ends are bounds among tokens of names
among : (ps : Tokens) → AllNames ps → (s : Span) → Bounds ps s.from → Bounds ps s.to → (text : List ℕ) (y : Change) → record { span = s; text = text } ≡ y → OnNames ps y.span
among ps all s from to text y e = changed ps s text y (all_names ps s from to all) e

-- `super.x`
module _ (m : Span) (w : tree.Word Span) (ps : Tokens) (l : IsNode m (StandInOrder (token (keyword Super) then token (symbol Dot) then word_layout w then done)) ps) where
  super_all : AllNames ps
  super_all = (node_named (order_named super_named (order_named dot_named (order_named (word_named w) done_named)))).named ps l

  super_from : Bounds ps w.mark.from
  super_from = behind_bounds w.mark.from (behind_bounds w.mark.from (ahead_bounds w.mark.from (word_bounds_from w))) ps l.parts

  super_to : Bounds ps w.mark.to
  super_to = behind_bounds w.mark.to (behind_bounds w.mark.to (ahead_bounds w.mark.to (word_bounds_to w))) ps l.parts

  whole_from : Bounds ps m.from
  whole_from = node_from (front_fills alone_fills) ps l

  by_front : (text : List ℕ) (front : Front) (y : Change) → In y (super_changes (becomes (record { text = text; front = front })) m w.mark) → OnNames ps y.span
  by_front text same y (inl e) = among ps super_all w.mark super_from super_to _ y e
  by_front text alone y (inl e) = among ps super_all (from_to m w.mark) whole_from super_to _ y e
  by_front text by_this y (inl e) = among ps super_all (from_to m w.mark) whole_from super_to _ y e
  by_front text by_super y (inl e) = among ps super_all (from_to m w.mark) whole_from super_to _ y e
  by_front text (by_cast_this k) y (inl e) = among ps super_all (from_to m w.mark) whole_from super_to _ y e
  by_front text (by_class k) y (inl e) = among ps super_all (from_to m w.mark) whole_from super_to _ y e
  by_front text (by_outer_class o k) y (inl e) = among ps super_all (from_to m w.mark) whole_from super_to _ y e
  by_front text (by_cast k) y (inl e) = among ps super_all (from_to m w.mark) whole_from super_to _ y e
  by_front text same y (inr n) = absurd n
  by_front text alone y (inr n) = absurd n
  by_front text by_this y (inr n) = absurd n
  by_front text by_super y (inr n) = absurd n
  by_front text (by_cast_this k) y (inr n) = absurd n
  by_front text (by_class k) y (inr n) = absurd n
  by_front text (by_outer_class o k) y (inr n) = absurd n
  by_front text (by_cast k) y (inr n) = absurd n

  pub super_lies : (h : Choice) (y : Change) → In y (super_changes h m w.mark) → OnNames ps y.span
  super_lies stays y i = absurd i
  super_lies (loses x) y i = absurd i
  super_lies (becomes r) y i = by_front r.text r.front y i

-- `P.K` as a type
module _ (v w : tree.Word Span) (ps : Tokens) (l : InOrder (Stands (word_layout v)) (StandInOrder (token (symbol Dot) then word_layout w then done)) ps) where
  type_all : AllNames ps
  type_all = (order_named (word_named v) (order_named dot_named (order_named (word_named w) done_named))).named ps l

  type_from : Bounds ps w.mark.from
  type_from = behind_bounds w.mark.from (behind_bounds w.mark.from (ahead_bounds w.mark.from (word_bounds_from w))) ps l

  type_to : Bounds ps w.mark.to
  type_to = behind_bounds w.mark.to (behind_bounds w.mark.to (ahead_bounds w.mark.to (word_bounds_to w))) ps l

  outer_from : Bounds ps v.mark.from
  outer_from = ahead_bounds v.mark.from (word_bounds_from v) ps l

  by_type_front : (text : List ℕ) (front : Front) (y : Change) → In y (qualified_changes itself (becomes (record { text = text; front = front })) v.mark w.mark []) → OnNames ps y.span
  by_type_front text same y (inl e) = among ps type_all w.mark type_from type_to _ y e
  by_type_front text alone y (inl e) = among ps type_all (from_to v.mark w.mark) outer_from type_to _ y e
  by_type_front text by_this y (inl e) = among ps type_all w.mark type_from type_to _ y e
  by_type_front text by_super y (inl e) = among ps type_all w.mark type_from type_to _ y e
  by_type_front text (by_cast_this k) y (inl e) = among ps type_all w.mark type_from type_to _ y e
  by_type_front text (by_class k) y (inl e) = among ps type_all (from_to v.mark w.mark) outer_from type_to _ y e
  by_type_front text (by_outer_class o k) y (inl e) = among ps type_all w.mark type_from type_to _ y e
  by_type_front text (by_cast k) y (inl e) = among ps type_all w.mark type_from type_to _ y e
  by_type_front text same y (inr n) = absurd n
  by_type_front text alone y (inr n) = absurd n
  by_type_front text by_this y (inr n) = absurd n
  by_type_front text by_super y (inr n) = absurd n
  by_type_front text (by_cast_this k) y (inr n) = absurd n
  by_type_front text (by_class k) y (inr n) = absurd n
  by_type_front text (by_outer_class o k) y (inr n) = absurd n
  by_type_front text (by_cast k) y (inr n) = absurd n

  pub qualified_lies : (h : Choice) (y : Change) → In y (qualified_changes itself h v.mark w.mark []) → OnNames ps y.span
  qualified_lies stays y i = absurd i
  qualified_lies (loses x) y i = absurd i
  qualified_lies (becomes r) y i = by_type_front r.text r.front y i

-- ---- behind an expression and a dot

to_last_of : (ps : Tokens) → Rising ps → (p : Placed Span) → Has ps p → p.mark.to ≤ last_to ps
to_last_of [] h p i = absurd i
to_last_of (q ∷ []) h p (inl e) = let same = ap (λ (x : Placed Span). x.mark.to) e in omega arith
to_last_of (q ∷ []) h p (inr i) = absurd i
to_last_of (q ∷ r ∷ ps) h p (inl e) =
    let same = ap (λ (x : Placed Span). x.mark.to) e in
    let next = h.1 r.mark.from (inl refl) in
    let some = h.2.0 in
    let last = to_last_of (r ∷ ps) h.2 r (inl refl) in
    omega arith
to_last_of (q ∷ r ∷ ps) h p (inr i) = to_last_of (r ∷ ps) h.2 p i

module _ (e : tree.Exp Span) (w : tree.Word Span) (a b ps : Tokens) (is : ps ≡ a ++ b) (rising : Rising ps) (stands : Stands (exp_layout e) a) (behind : AllNames b) (from : Bounds b w.mark.from) (to : Bounds b w.mark.to) where
  two : Rising (a ++ b)
  two = subst Rising is rising

  filled : Filled a
  filled = (exp_fills e).fills a stands

  e_from : (exp_mark e).from ≡ first_from a
  e_from = ap (λ (s : Span). s.from) (exp_node e a stands)

  e_to : (exp_mark e).to ≡ last_to a
  e_to = ap (λ (s : Span). s.to) (exp_node e a stands)

  bound_from : Bounds a (exp_mark e).from
  bound_from = subst (Bounds a) (sym e_from) (first_bounds a filled)

  bound_to : Bounds a (exp_mark e).to
  bound_to = subst (Bounds a) (sym e_to) (last_bounds a filled)

  -- the word
  on_word : OnNames ps w.mark
  on_word = back_names a b ps is rising w.mark (all_names b w.mark from to behind)

  -- where the expression begins
  on_begin : OnNames ps (before (exp_mark e))
  on_begin = front_names a b ps is rising (before (exp_mark e)) (record {
    from = bound_from;
    to = bound_from;
    names = λ p has meet.
        let first = from_first a (rising_front a b two) p.mark.from (has_starts a p has) in
        let same = e_from in
        let less = meet.0 in
        absurd (omega arith);
  })

  in_ps : (p : Placed Span) → Has ps p → Has a p ⊎ Has b p
  in_ps p has = has_either a b p (subst (λ (qs : Tokens). Has qs p) is has)

  ps_front : (k : ℕ) → Bounds a k → Bounds ps k
  ps_front k h = subst (λ (qs : Tokens). Bounds qs k) (sym is) (bounds_front a b k h)

  ps_back : (k : ℕ) → Bounds b k → Bounds ps k
  ps_back k h = subst (λ (qs : Tokens). Bounds qs k) (sym is) (bounds_back a b k h)

  -- from its end to the word's
  on_rest : OnNames ps (behind_to (exp_mark e) w.mark)
  on_rest = record {
    from = ps_front (exp_mark e).to bound_to;
    to = ps_back w.mark.to to;
    names = λ p has meet. elim (in_ps p has) [ inl l ↦ never p l meet | inr r ↦ behind p r ];
  }
    where
      never : (p : Placed Span) → Has a p → Meet p.mark (behind_to (exp_mark e) w.mark) → IsNameToken p.token
      never p has meet =
          let last = to_last_of a (rising_front a b two) p has in
          let same = e_to in
          let less = meet.1 in
          absurd (omega arith)

  -- from its begin to the word's end, where it is a path
  on_whole : IsPath e → OnNames ps (from_to (exp_mark e) w.mark)
  on_whole path = record {
    from = ps_front (exp_mark e).from bound_from;
    to = ps_back w.mark.to to;
    names = λ p has meet. elim (in_ps p has) [ inl l ↦ (path_named e path).named a stands p l | inr r ↦ behind p r ];
  }

  by_dotted_front : (text : List ℕ) (front : Front) → MayStandFor e front → (y : Change) → In y (dotted_changes (becomes (record { text = text; front = front })) (exp_mark e) w.mark []) → OnNames ps y.span
  by_dotted_front text same may y (inl e') = changed ps w.mark _ y on_word e'
  by_dotted_front text alone may y (inl e') = changed ps (from_to (exp_mark e) w.mark) _ y (on_whole may) e'
  by_dotted_front text by_this may y (inl e') = changed ps (from_to (exp_mark e) w.mark) _ y (on_whole may) e'
  by_dotted_front text by_super may y i = absurd may
  by_dotted_front text (by_cast_this k) may y (inl e') = changed ps (from_to (exp_mark e) w.mark) _ y (on_whole may) e'
  by_dotted_front text (by_class k) may y (inl e') = changed ps (from_to (exp_mark e) w.mark) _ y (on_whole may) e'
  by_dotted_front text (by_outer_class o k) may y (inl e') = changed ps (from_to (exp_mark e) w.mark) _ y (on_whole may) e'
  by_dotted_front text (by_cast k) may y (inl e') = changed ps (before (exp_mark e)) _ y on_begin e'
  by_dotted_front text (by_cast k) may y (inr (inl e')) = changed ps (behind_to (exp_mark e) w.mark) _ y on_rest e'
  by_dotted_front text (by_cast k) may y (inr (inr n)) = absurd n
  by_dotted_front text same may y (inr n) = absurd n
  by_dotted_front text alone may y (inr n) = absurd n
  by_dotted_front text by_this may y (inr n) = absurd n
  by_dotted_front text (by_cast_this k) may y (inr n) = absurd n
  by_dotted_front text (by_class k) may y (inr n) = absurd n
  by_dotted_front text (by_outer_class o k) may y (inr n) = absurd n

  pub dotted_lies : (h : Choice) → Suits (MayStandFor e) h → (y : Change) → In y (dotted_changes h (exp_mark e) w.mark []) → OnNames ps y.span
  dotted_lies stays suits y i = absurd i
  dotted_lies (loses x) suits y i = absurd i
  dotted_lies (becomes r) suits y i = by_dotted_front r.text r.front suits.2 y i
