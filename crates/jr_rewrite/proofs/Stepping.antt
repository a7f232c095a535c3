-- Steps of parts, one behind the other, are steps of the whole.
use Rattle.std.proofs.Common.{◌≡◌, ℕ, Bool, true, false, List, [], ◌∷◌, ◌++◌, refl, sym, ap, ◌∙◌, append_assoc, append-nil}
use Rattle.jr_text.specs.declared.spans.Span.{Span}
use Rattle.jr_lex.specs.declared.items.Symbol.TheVariants.{Dot}
use Rattle.jr_grammar.specs.Tokens.{Token, word, symbol, Placed}
use Rattle.jr_grammar.specs.Layout.{Layout, token, node, row, Layouts, done, ◌then◌, laid, all_laid}
use Rattle.jr_grammar.specs.Stands.{Tokens, last_to, span_of, IsAlone, InOrder, IsNode, Stands, StandInOrder}
use Rattle.jr_rewrite.specs.Respellings.{Change}
use Rattle.jr_rewrite.specs.Woven.{anything, no_indent, token_to, Weaving}
use Rattle.jr_rewrite.proofs.Steps.{stay, weave, Stepped, nothing_stepped, joined_stepped, tight_unless}

-- the same for tokens, changes and new tokens that are equal
pub stepped_as : {W : Weaving} {l : Bool} (ps qs : Tokens) (cs ds : List Change) (ts us : List Token) → ps ≡ qs → cs ≡ ds → ts ≡ us → Stepped W l ps cs ts → Stepped W l qs ds us
stepped_as ps qs cs ds ts us e f g s = record {
  steps = s.steps;
  tight = s.tight;
  olds_are = s.olds_are ∙ e;
  changes_are = s.changes_are ∙ f;
  news_are = s.news_are ∙ g;
  flow = s.flow;
}

pub stepped_new : {W : Weaving} {l : Bool} (ps : Tokens) (cs : List Change) (ts us : List Token) → ts ≡ us → Stepped W l ps cs ts → Stepped W l ps cs us
stepped_new ps cs ts us e s = stepped_as ps ps cs cs ts us refl refl e s

-- no tokens
pub none_steps : {W : Weaving} {l : Bool} (ps : Tokens) → ps ≡ [] → Stepped W l ps [] []
none_steps ps e = stepped_as [] ps [] [] [] [] (sym e) refl refl nothing_stepped

-- a token that stays
pub stay_steps : {W : Weaving} {l : Bool} (p : Placed Span) → Stepped W l (p ∷ []) [] (p.token ∷ [])
stay_steps {l = l} p = record { steps = stay p ∷ []; olds_are = refl; changes_are = refl; news_are = refl; flow = tt; tight = tight_unless l (stay p ∷ []) tt }

pub alone_steps : {W : Weaving} {l : Bool} (t : Token) (ps : Tokens) → IsAlone t ps → Stepped W l ps [] (t ∷ [])
alone_steps t ps h = stepped_as (h.placed ∷ []) ps [] [] (h.placed.token ∷ []) (t ∷ []) (sym h.alone) refl (ap (λ u. u ∷ []) h.is) (stay_steps h.placed)

-- ---- parts in order

pub both_steps : {W : Weaving} {l : Bool} {P Q : Tokens → Type 0} (ps : Tokens) (cs ds : List Change) (ts us : List Token) → InOrder P Q ps → ((qs : Tokens) → P qs → Stepped W l qs cs ts)
    → ((qs : Tokens) → Q qs → Stepped W l qs ds us) → Stepped W l ps (cs ++ ds) (ts ++ us)
both_steps ps cs ds ts us h first rest =
    stepped_as (h.front ++ h.back) ps (cs ++ ds) (cs ++ ds) (ts ++ us) (ts ++ us) (sym h.whole) refl refl (joined_stepped h.front h.back cs ds ts us (first h.front h.first) (rest h.back h.rest))

-- a token that stays in front
pub token_steps : {W : Weaving} {l : Bool} {t : Token} {Q : Tokens → Type 0} (ps : Tokens) (ds : List Change) (us : List Token) → InOrder (IsAlone t) Q ps → ((qs : Tokens) → Q qs → Stepped W l qs ds us) → Stepped W l ps ds (t ∷ us)
token_steps {t = t} ps ds us h rest = both_steps ps [] ds (t ∷ []) us h (alone_steps t) rest

-- nothing changes in what is behind
pub closing_steps : {W : Weaving} {l : Bool} {P Q : Tokens → Type 0} (ps : Tokens) (cs : List Change) (ts us : List Token) → InOrder P Q ps → ((qs : Tokens) → P qs → Stepped W l qs cs ts)
    → ((qs : Tokens) → Q qs → Stepped W l qs [] us) → Stepped W l ps cs (ts ++ us)
closing_steps ps cs ts us h first rest = stepped_as ps ps (cs ++ []) cs (ts ++ us) (ts ++ us) refl (append-nil cs) refl (both_steps ps cs [] ts us h first rest)

-- the last part
pub last_steps : {W : Weaving} {l : Bool} {P : Tokens → Type 0} (ps : Tokens) (cs : List Change) (ts : List Token) → InOrder P (λ qs. qs ≡ []) ps → ((qs : Tokens) → P qs → Stepped W l qs cs ts) → Stepped W l ps cs ts
last_steps ps cs ts h first = stepped_new ps cs (ts ++ []) ts (append-nil ts) (closing_steps ps cs ts [] h first none_steps)

-- the last token
pub end_steps : {W : Weaving} {l : Bool} {t : Token} (ps : Tokens) → InOrder (IsAlone t) (λ qs. qs ≡ []) ps → Stepped W l ps [] (t ∷ [])
end_steps ps h = token_steps ps [] [] h none_steps

-- ---- parts that stay

mutual
  pub laid_steps : {W : Weaving} {l : Bool} (x : Layout Span) (ps : Tokens) → Stands x ps → Stepped W l ps [] (laid x)
  laid_steps (token t) ps h = alone_steps t ps h
  laid_steps (node m parts) ps h = all_laid_steps parts ps h.parts
  laid_steps (row parts) ps h = all_laid_steps parts ps h

  pub all_laid_steps : {W : Weaving} {l : Bool} (xs : Layouts Span) (ps : Tokens) → StandInOrder xs ps → Stepped W l ps [] (all_laid xs)
  all_laid_steps done ps h = none_steps ps h
  all_laid_steps (x then xs) ps h = both_steps ps [] [] (laid x) (all_laid xs) h (laid_steps x) (all_laid_steps xs)

-- ---- some tokens

abbrev pub IsSome : Tokens → Type 0
IsSome ps = (p : Placed Span) × (qs : Tokens) × (ps ≡ p ∷ qs)

pub alone_some : (t : Token) (ps : Tokens) → IsAlone t ps → IsSome ps
alone_some t ps h = (h.placed, [], h.alone)

pub first_some : {P Q : Tokens → Type 0} (ps : Tokens) → InOrder P Q ps → ((qs : Tokens) → P qs → IsSome qs) → IsSome ps
first_some ps h first = (let s = first h.front h.first in (s.0, s.1 ++ h.back, h.whole ∙ ap (λ xs. xs ++ h.back) s.2))

pub token_some : {t : Token} {Q : Tokens → Type 0} (ps : Tokens) → InOrder (IsAlone t) Q ps → IsSome ps
token_some {t} ps h = first_some ps h (alone_some t)

pub rest_some : {P Q : Tokens → Type 0} (ps : Tokens) → InOrder P Q ps → ((qs : Tokens) → Q qs → IsSome qs) → IsSome ps
rest_some ps h rest = go h.front h.whole
  where
    go : (front : Tokens) → ps ≡ front ++ h.back → IsSome ps
    go [] e = (let s = rest h.back h.rest in (s.0, s.1, e ∙ s.2))
    go (p ∷ front) e = (p, front ++ h.back, e)

-- ---- spots

-- an expression, which has tokens
pub part_woven : {W : Weaving} (ps : Tokens) (cs : List Change) (ts : List Token) → IsSome ps → W anything ps cs ts (token_to (last_to ps)) → Stepped W false ps cs ts
part_woven ps cs ts some h = record {
  steps = weave anything ps cs ts (token_to (last_to ps)) ∷ [];
  olds_are = append-nil ps;
  changes_are = append-nil cs;
  news_are = append-nil ts;
  flow = (tt, tt, h, tt);
  tight = (some, refl, tt);
}

pub list_woven : {W : Weaving} (ps : Tokens) (cs : List Change) (ts : List Token) → W no_indent ps cs ts no_indent → Stepped W true ps cs ts
list_woven ps cs ts h = record {
  steps = weave no_indent ps cs ts no_indent ∷ [];
  olds_are = append-nil ps;
  changes_are = append-nil cs;
  news_are = append-nil ts;
  flow = (tt, tt, h, tt);
  tight = tt;
}

-- ---- a word

-- one token, a word, and the span is its place
pub record IsOneWord (s : Span) (t : List ℕ) (ps : Tokens) : Type 0 where
  pub placed : Placed Span
  pub whole : ps ≡ placed ∷ []
  pub mark : s ≡ placed.mark
  pub is : placed.token ≡ word t

pub one_word : (s : Span) (t : List ℕ) (ps : Tokens) → IsNode s (InOrder (IsAlone (word t)) (λ qs. qs ≡ [])) ps → IsOneWord s t ps
one_word s t ps h =
    let first = h.parts.first in
    let whole : ps ≡ first.placed ∷ [] = h.parts.whole ∙ (λ i. first.alone i ++ h.parts.rest i) in
    record { placed = first.placed; whole = whole; mark = h.mark ∙ ap span_of whole; is = first.is }

-- tokens, a dot and a word
pub record IsDotted (Operand : Tokens → Type 0) (s : Span) (t : List ℕ) (ps : Tokens) : Type 0 where
  pub front : Tokens
  pub dot : Placed Span
  pub last : Placed Span
  pub whole : ps ≡ front ++ dot ∷ last ∷ []
  pub operand : Operand front
  pub is_dot : dot.token ≡ symbol Dot
  pub mark : s ≡ last.mark
  pub is : last.token ≡ word t

pub dotted : {P : Tokens → Type 0} (s : Span) (t : List ℕ) (ps : Tokens)
    → InOrder P (InOrder (IsAlone (symbol Dot)) (InOrder (IsNode s (InOrder (IsAlone (word t)) (λ qs. qs ≡ []))) (λ qs. qs ≡ []))) ps → IsDotted P s t ps
dotted s t ps h =
    let w = one_word s t h.rest.rest.front h.rest.rest.first in
    let back : h.rest.rest.front ++ h.rest.rest.back ≡ w.placed ∷ [] = (λ i. w.whole i ++ h.rest.rest.rest i) in
    let whole : h.back ≡ h.rest.first.placed ∷ w.placed ∷ [] =
    h.rest.whole ∙ (λ i. h.rest.first.alone i ++ (h.rest.rest.whole ∙ back) i) in
    record {
      front = h.front;
      dot = h.rest.first.placed;
      last = w.placed;
      whole = h.whole ∙ ap (λ xs. h.front ++ xs) whole;
      operand = h.first;
      is_dot = h.rest.first.is;
      mark = w.mark;
      is = w.is;
    }

-- parts in order, taken together otherwise
pub regrouped : {P Q R : Tokens → Type 0} (ps : Tokens) → InOrder P (InOrder Q R) ps → InOrder (InOrder P Q) R ps
regrouped ps h = record {
  front = h.front ++ h.rest.front;
  back = h.rest.back;
  whole = h.whole ∙ ap (λ xs. h.front ++ xs) h.rest.whole ∙ sym (append_assoc h.front h.rest.front h.rest.back);
  first = record { front = h.front; back = h.rest.front; whole = refl; first = h.first; rest = h.rest.first };
  rest = h.rest.rest;
}

-- a target with its dot, and the word behind it
pub dotted_target : {P : Tokens → Type 0} (s : Span) (t : List ℕ) (ps : Tokens)
    → InOrder (InOrder P (InOrder (IsAlone (symbol Dot)) (λ qs. qs ≡ []))) (IsNode s (InOrder (IsAlone (word t)) (λ qs. qs ≡ []))) ps → IsDotted P s t ps
dotted_target s t ps h =
    let w = one_word s t h.back h.rest in
    let d = h.first.rest.first in
    let front : h.front ≡ h.first.front ++ d.placed ∷ [] =
    h.first.whole ∙ ap (λ xs. h.first.front ++ xs) (h.first.rest.whole ∙ (λ i. d.alone i ++ h.first.rest.rest i)) in
    record {
      front = h.first.front;
      dot = d.placed;
      last = w.placed;
      whole = h.whole ∙ (λ i. front i ++ w.whole i) ∙ append_assoc h.first.front (d.placed ∷ []) (w.placed ∷ []);
      operand = h.first.first;
      is_dot = d.is;
      mark = w.mark;
      is = w.is;
    }
