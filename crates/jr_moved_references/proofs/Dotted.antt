-- What is carried where a word stands behind a dot: with what stands in front of it, with a cast
-- around that, or without it.
use Rattle.std.proofs.Common.{◌≡◌, ℕ, ◌≤◌, ◌<◌, true, false, List, [], ◌∷◌, ◌++◌, refl, sym, ap, ◌∙◌, subst, inl, inr, arith}
use Rattle.std.specs.Prelude.{◌⊎◌}
use Rattle.std.proofs.lemmas.List.{append_assoc, append-nil}
use Rattle.jr_text.specs.declared.spans.Span.{Span}
use Rattle.jr_lex.specs.declared.items.Symbol.TheVariants.{OpenParen, CloseParen, Dot}
use Rattle.jr_lex.specs.Replacing.{IsName}
use Rattle.jr_grammar.specs.Tokens.{Token, word, symbol, Placed, kinds}
use Rattle.jr_grammar.specs.Stands.{Tokens, first_from, last_to, span_of, IsAlone, InOrder, IsNode}
use Rattle.jr_program_laws.proofs.TokenOrder.{StartsIn, Rising, Filled, in_front, in_back, rising_front, rising_back, last_before}
use Rattle.jr_rewrite.specs.Respellings.{by_cast, front_text, cast_text, Change}
use Rattle.jr_rewrite.specs.Rewritten.{change, before as at_start, behind_to, from_to}
use Rattle.jr_rewrite.specs.Woven.{anything, token_to}
use Rattle.jr_rewrite.proofs.Steps.{Step, stay, cast, close, olds, changes, news, end_of, end_of_some, BeginAt, IsWord, Flow, flow_append, olds-append, changes-append, news-append, IsTight, tight_append, Stepped}
use Rattle.jr_rewrite.proofs.Stepping.{IsSome, IsDotted}
use Rattle.jr_moved_tokens.proofs.StepRuns.{never}
use Rattle.jr_moved_tokens.proofs.MovedTokens.{Untouched, untouched_front, untouched_back}
use Rattle.jr_moved_references.proofs.Carrying.{Split, Carries, AreNone, WordStands, kinds-append, spanned}

pub last_more : (ps : Tokens) (d p : Placed Span) → last_to (ps ++ d ∷ p ∷ []) ≡ p.mark.to
last_more [] d p = refl
last_more (q ∷ []) d p = refl
last_more (q ∷ r ∷ ps) d p = last_more (r ∷ ps) d p

pub first_more : (ps qs : Tokens) → IsSome ps → first_from (ps ++ qs) ≡ first_from ps
first_more [] qs s = (let none : [] ≡ s.0 ∷ s.1 = s.2 in absurd cc)
first_more (p ∷ ps) qs s = refl

filled : (ps : Tokens) → IsSome ps → Filled ps
filled [] s = (let none : [] ≡ s.0 ∷ s.1 = s.2 in absurd cc)
filled (p ∷ ps) s = tt

-- ---- a word behind what stands in front

-- with where that stands
module _ {E : Tokens → Type 0} (e s : Span) (t : List ℕ) (ps : Tokens) (d : IsDotted E s t ps) (rising : Rising ps) (spans : e ≡ span_of d.front) (some : IsSome d.front) where
  rises : Rising (d.front ++ d.dot ∷ d.last ∷ [])
  rises = subst Rising d.whole rising

  pub word_wide : s.from < s.to
  word_wide = (let h = rising_back (d.front ++ d.dot ∷ []) (d.last ∷ []) (subst Rising (sym (append_assoc d.front (d.dot ∷ []) (d.last ∷ []))) rises) in let w : d.last.mark.from < d.last.mark.to = h.0 in
      subst (λ (z : Span). z.from < z.to) (sym d.mark) w)

  -- it ends in front of the word
  pub ends_before : e.to ≤ s.from
  ends_before =
      let first : e.to ≡ last_to d.front = ap (λ (z : Span). z.to) spans in
      let from : s.from ≡ d.last.mark.from = ap (λ (z : Span). z.from) d.mark in
      let less = last_before d.front (d.dot ∷ d.last ∷ []) rises (filled d.front some) d.last.mark.from (inr (inl refl)) in
      omega arith

  -- a change of all
  pub all_touched : (text : List ℕ) (at : ℕ) → StartsIn ps at → Untouched (change (from_to e s) text ∷ []) at → ⊥
  all_touched text at there u =
      let from : e.from ≡ first_from ps = ap (λ (z : Span). z.from) spans ∙ sym (first_more d.front (d.dot ∷ d.last ∷ []) some) ∙ sym (ap first_from d.whole) in
      let to : last_to ps ≡ s.to = ap last_to d.whole ∙ last_more d.front d.dot d.last ∙ sym (ap (λ (z : Span). z.to) d.mark) in
      spanned ps s (change (from_to e s) text) [] rising (omega arith) (omega arith) at there u

  -- a change of the dot and the word
  pub word_touched : (text : List ℕ) (at : ℕ) → at ≡ s.from → Untouched (change (behind_to e s) text ∷ []) at → ⊥
  word_touched text at here u = let ends = ends_before in let wide = word_wide in u.0 (omega arith, omega arith)

pub word_there : {E : Tokens → Type 0} (s : Span) (t : List ℕ) (ps : Tokens) → (d : IsDotted E s t ps) → StartsIn ps s.from
word_there s t ps d = subst (λ (qs : Tokens). StartsIn qs s.from) (sym d.whole) (in_back d.front (d.dot ∷ d.last ∷ []) s.from (inr (inl (ap (λ (z : Span). z.from) d.mark))))

pub operand_there : {E : Tokens → Type 0} (s : Span) (t : List ℕ) (ps : Tokens) → (d : IsDotted E s t ps) → (at : ℕ) → StartsIn d.front at → StartsIn ps at
operand_there s t ps d at there = subst (λ (qs : Tokens). StartsIn qs at) (sym d.whole) (in_front d.front (d.dot ∷ d.last ∷ []) at there)

-- ---- without it

module _ {E L : Tokens → Type 0} {Old Own : ℕ → Type 0} (e s : Span) (t : List ℕ) (to : (ps : Tokens) → L ps → IsDotted E s t ps) (spans : (ps : Tokens) → E ps → e ≡ span_of ps) (some : (ps : Tokens) → E ps → IsSome ps)
    (starts : (ps : Tokens) → E ps → (at : ℕ) → Old at → StartsIn ps at) (there : (at : ℕ) → Own at → at ≡ s.from) where
  all_start : (ps : Tokens) → L ps → (at : ℕ) → Old at ⊎ Own at → StartsIn ps at
  all_start ps h at o = elim o [
    | inl x ↦ operand_there s t ps (to ps h) at (starts (to ps h).front (to ps h).operand at x)
    | inr y ↦ subst (StartsIn ps) (sym (there at y)) (word_there s t ps (to ps h))
  ]

  pub dropped : {L' : Tokens → Type 0} {New : ℕ → Type 0} (text : List ℕ) → ((ps ps' : Tokens) → L ps → L' ps' → Stepped never false ps (change (from_to e s) text ∷ []) (kinds ps'))
      → Carries false L L' (change (from_to e s) text ∷ []) (λ at. Old at ⊎ Own at) New
  dropped text step = record {
    step = step;
    starts = all_start;
    carry = λ ps ps' rising h k at o u. (let d = to ps h in absurd (all_touched e s t ps d rising (spans d.front d.operand) (some d.front d.operand) text at (all_start ps h at o) u));
  }

-- ---- with a cast around it

-- `((K) e)`, with what may follow
pub record CastParts (k : List ℕ) (E : Tokens → Type 0) (ps : Tokens) : Type 0 where
  pub front : Tokens
  pub inside : Tokens
  pub back : Tokens
  pub whole : ps ≡ front ++ (inside ++ back)
  pub front_are : kinds front ≡ symbol OpenParen ∷ symbol OpenParen ∷ word k ∷ symbol CloseParen ∷ []
  pub is : E inside

pub parts_more : {k : List ℕ} {E : Tokens → Type 0} (ps a b : Tokens) → ps ≡ a ++ b → CastParts k E a → CastParts k E ps
parts_more ps a b w c = record {
  front = c.front;
  inside = c.inside;
  back = c.back ++ b;
  whole = w ∙ ap (λ (xs : Tokens). xs ++ b) c.whole ∙ append_assoc c.front (c.inside ++ c.back) b ∙ ap (λ (xs : Tokens). c.front ++ xs) (append_assoc c.inside c.back b);
  front_are = c.front_are;
  is = c.is;
}

abbrev pub CastStands : (m n i j : Span) (k : List ℕ) (E : Tokens → Type 0) → Tokens → Type 0
CastStands m n i j k E = IsNode m (InOrder (IsAlone (symbol OpenParen)) (InOrder (IsNode n (InOrder (IsAlone (symbol OpenParen)) (InOrder (IsNode i (InOrder (WordStands j k) AreNone)) (InOrder (IsAlone (symbol CloseParen)) (InOrder E AreNone)))))
    (InOrder (IsAlone (symbol CloseParen)) AreNone)))

pub cast_parts_of : (m n i j : Span) (k : List ℕ) (E : Tokens → Type 0) (ps : Tokens) → CastStands m n i j k E ps → CastParts k E ps
cast_parts_of m n i j k E ps h =
    let a = h.parts.first in
    let c = h.parts.rest.first.parts in
    let b = c.first in
    let w = c.rest.first.parts.first.parts.first in
    let d = c.rest.rest.first in
    let e : Tokens = c.rest.rest.rest.front in
    let z : Tokens = h.parts.rest.back in
    let names : c.rest.front ≡ w.placed ∷ [] = c.rest.first.parts.whole ∙ (λ i. (c.rest.first.parts.first.parts.whole ∙ (λ i. w.alone i ++ c.rest.first.parts.first.parts.rest i)) i ++ c.rest.first.parts.rest i) in
    let inner : h.parts.rest.front ≡ b.placed ∷ w.placed ∷ d.placed ∷ e =
    c.whole ∙ (λ i. b.alone i ++ (c.rest.whole ∙ (λ i. names i ++ (c.rest.rest.whole ∙ (λ i. d.alone i ++ (c.rest.rest.rest.whole ∙ (λ i. e ++ c.rest.rest.rest.rest i) ∙ append-nil e) i)) i)) i) in
    record {
      front = a.placed ∷ b.placed ∷ w.placed ∷ d.placed ∷ [];
      inside = e;
      back = z;
      whole = h.parts.whole ∙ (λ i. a.alone i ++ (h.parts.rest.whole ∙ (λ i. inner i ++ z)) i);
      front_are = (λ i. a.is i ∷ b.is i ∷ w.is i ∷ d.is i ∷ []);
      is = c.rest.rest.rest.first;
    }

module _ {E E' L L' : Tokens → Type 0} {cs : List Change} {Old Own New New' : ℕ → Type 0} (inner : Carries false E E' cs Old New) (e s : Span) (t k x : List ℕ) (to : (ps : Tokens) → L ps → IsDotted E s t ps) (to' : (ps : Tokens) → L' ps → CastParts k E' ps)
    (spans : (ps : Tokens) → E ps → e ≡ span_of ps) (some : (ps : Tokens) → E ps → IsSome ps) (there : (at : ℕ) → Own at → at ≡ s.from) (gives : (i : ℕ) → New i → New' i) (name : IsName x) (class : IsName k) where
  abbrev around : List Change
  around = change (at_start e) (cast_text k) ∷ (cs ++ change (behind_to e s) (front_text (by_cast k) ++ x) ∷ [])

  in_cast : (ps ps' : Tokens) → Rising ps → (d : IsDotted E s t ps) → (c : CastParts k E' ps') → (at i : ℕ) → Split false d.front c.inside cs at i → Split false ps ps' around at i
  in_cast ps ps' rising d c at i r =
      let whole : List Step = r.before ++ stay r.placed ∷ r.after in
      let ending : List Step = close e.to d.dot d.last x ∷ [] in
      let is_some = some d.front d.operand in
      let front_is : olds whole ≡ is_some.0 ∷ is_some.1 = r.olds_are ∙ is_some.2 in
      let spanned : e ≡ span_of (is_some.0 ∷ is_some.1) = spans d.front d.operand ∙ ap span_of is_some.2 in
      let ended : end_of anything whole ≡ token_to e.to = end_of_some never anything whole is_some.0 is_some.1 r.flow r.tight front_is ∙ ap (λ (z : Span). token_to z.to) (sym spanned) in
      let begins : BeginAt e.from (olds (whole ++ ending)) = subst (BeginAt e.from) (sym (olds-append whole ending ∙ ap (λ xs. xs ++ (d.dot ∷ d.last ∷ [])) front_is)) (sym (ap (λ (z : Span). z.from) spanned)) in
      let is_word : IsWord d.last.token = subst IsWord (sym d.is) tt in
      let grouped : whole ++ ending ≡ r.before ++ stay r.placed ∷ (r.after ++ ending) = append_assoc r.before (stay r.placed ∷ r.after) ending in
      let all : cast k e.from ∷ (whole ++ ending) ≡ (cast k e.from ∷ r.before) ++ stay r.placed ∷ (r.after ++ ending) = ap (λ (ss : List Step). cast k e.from ∷ ss) grouped in
      record {
        before = cast k e.from ∷ r.before;
        after = r.after ++ ending;
        placed = r.placed;
        front = c.front ++ r.front;
        back = r.back ++ c.back;
        other = r.other;
        olds_are = ap olds (sym all) ∙ olds-append whole ending ∙ ap (λ xs. xs ++ (d.dot ∷ d.last ∷ [])) r.olds_are ∙ sym d.whole;
        changes_are = ap changes (sym all) ∙ ap (λ xs. change (at_start e) (cast_text k) ∷ xs)
            (changes-append whole ending ∙ (λ i. r.changes_are i ++ (change (record { from = e.to; to = sym (ap (λ (z : Span). z.to) d.mark) i }) (front_text (by_cast k) ++ x) ∷ [])));
        flow = subst (Flow never anything) all (class, begins, flow_append never anything whole ending r.flow (ended, is_word, name, tt));
        tight = subst IsTight all (tight_append whole ending r.tight tt);
        new_are = c.whole ∙ ap (λ (xs : Tokens). c.front ++ (xs ++ c.back)) r.new_are ∙ ap (λ (xs : Tokens). c.front ++ xs) (append_assoc r.front (r.other ∷ r.back) c.back) ∙ sym (append_assoc c.front r.front (r.other ∷ (r.back ++ c.back)));
        before_are = kinds-append c.front r.front ∙ (λ i. c.front_are i ++ r.before_are i);
        old_at = r.old_at;
        new_at = r.new_at;
      }

  pub cast_around : ((ps ps' : Tokens) → L ps → L' ps' → Stepped never false ps around (kinds ps')) → Carries false L L' around (λ at. Old at ⊎ Own at) New'
  cast_around step = record {
    step = step;
    starts = all_start e s t to spans some inner.starts there;
    carry = λ ps ps' rising h g at o u.
        let d = to ps h in
        let c = to' ps' g in
        let last : Change = change (behind_to e s) (front_text (by_cast k) ++ x) in
        elim o [
          | inl a ↦ (let r = inner.carry d.front c.inside (rising_front d.front (d.dot ∷ d.last ∷ []) (subst Rising d.whole rising)) d.operand c.is at a (untouched_front cs (last ∷ []) at u.1) in
              (r.0, gives r.0 r.1, in_cast ps ps' rising d c at r.0 r.2))
          | inr b ↦ absurd (word_touched e s t ps d rising (spans d.front d.operand) (some d.front d.operand) (front_text (by_cast k) ++ x) at (there at b) (untouched_back cs (last ∷ []) at u.1))
        ];
  }
