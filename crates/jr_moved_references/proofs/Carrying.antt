-- What stands in some tokens of a rewritten text and in those that come of them: where a place of
-- the old ones is that no change touches, a token stays there, and the one that comes of it begins
-- at a place of the new ones. For parts that stand in order, and in a node.
use Rattle.std.proofs.Common.{◌≡◌, ℕ, ◌≤◌, ◌<◌, Bool, true, false, List, [], ◌∷◌, ◌++◌, refl, sym, ap, ◌∙◌, subst, inl, inr, arith}
use Rattle.std.specs.Prelude.{◌⊎◌}
use Rattle.std.proofs.lemmas.List.{append_assoc, append-nil, map-append}
use Rattle.jr_text.specs.declared.spans.Span.{Span}
use Rattle.jr_ast.specs.Tree as tree
use Rattle.jr_grammar.specs.Tokens.{Token, word, Placed, kinds}
use Rattle.jr_grammar.specs.Stands.{Tokens, first_from, last_to, span_of, IsAlone, InOrder, IsNode}
use Rattle.jr_program_laws.proofs.TokenOrder.{StartsIn, Rising, in_front, in_back, rising_front, rising_back, from_first, to_last}
use Rattle.jr_rewrite.specs.Respellings.{Change}
use Rattle.jr_rewrite.proofs.Steps.{Step, stay, olds, changes, news, end_of, Flow, flow_append, flow_from, olds-append, changes-append, news-append, IsTight, tight_append, TightUnless, tight_unless, start, starts_at_end, Stepped, joined_stepped, loosened}
use Rattle.jr_rewrite.proofs.Stepping.{stepped_as, stepped_new, none_steps, alone_steps, IsOneWord, one_word}
use Rattle.jr_moved_tokens.proofs.StepRuns.{never}
use Rattle.jr_moved_tokens.proofs.MovedTokens.{Untouched, untouched_front, untouched_back}

-- ---- a token that stays

-- the steps from these tokens to those, with the token at the place, which stays, and the token
-- that comes of it
pub record Split (l : Bool) (ps ps' : Tokens) (cs : List Change) (at to : ℕ) : Type 0 where
  pub before : List Step
  pub after : List Step
  pub placed : Placed Span
  pub front : Tokens
  pub back : Tokens
  pub other : Placed Span
  pub olds_are : olds (before ++ stay placed ∷ after) ≡ ps
  pub changes_are : changes (before ++ stay placed ∷ after) ≡ cs
  pub flow : Flow never (start l) (before ++ stay placed ∷ after)
  pub tight : TightUnless l (before ++ stay placed ∷ after)
  pub new_are : ps' ≡ front ++ other ∷ back
  pub before_are : kinds front ≡ news before
  pub old_at : placed.mark.from ≡ at
  pub new_at : other.mark.from ≡ to

flows : (l : Bool) (ss ts : List Step) → Flow never (start l) ss → Flow never (start l) ts → Flow never (start l) (ss ++ ts)
flows l ss ts f g = flow_append never (start l) ss ts f (flow_from never (end_of (start l) ss) (start l) ts (starts_at_end never l ss f) g)

tights : (l : Bool) (ss ts : List Step) → TightUnless l ss → TightUnless l ts → TightUnless l (ss ++ ts)
tights true ss ts h g = tt
tights false ss ts h g = tight_append ss ts h g

pub kinds-append : (ps qs : Tokens) → kinds (ps ++ qs) ≡ kinds ps ++ kinds qs
kinds-append [] qs = refl
kinds-append (p ∷ ps) qs = ap (λ ts. p.token ∷ ts) (kinds-append ps qs)

module _ {l : Bool} {at to : ℕ} (ps a b ps' a' b' : Tokens) (cs ds : List Change) (w : ps ≡ a ++ b) (w' : ps' ≡ a' ++ b') where
  -- in front of steps, and behind them
  first_split : Split l a a' cs at to → Stepped never l b ds (kinds b') → Split l ps ps' (cs ++ ds) at to
  first_split s t =
      let whole : List Step = s.before ++ stay s.placed ∷ s.after in
      let grouped : whole ++ t.steps ≡ s.before ++ stay s.placed ∷ (s.after ++ t.steps) = append_assoc s.before (stay s.placed ∷ s.after) t.steps in
      record {
        before = s.before;
        after = s.after ++ t.steps;
        placed = s.placed;
        front = s.front;
        back = s.back ++ b';
        other = s.other;
        olds_are = ap olds (sym grouped) ∙ olds-append whole t.steps ∙ (λ i. s.olds_are i ++ t.olds_are i) ∙ sym w;
        changes_are = ap changes (sym grouped) ∙ changes-append whole t.steps ∙ (λ i. s.changes_are i ++ t.changes_are i);
        flow = subst (Flow never (start l)) grouped (flows l whole t.steps s.flow t.flow);
        tight = subst (TightUnless l) grouped (tights l whole t.steps s.tight t.tight);
        new_are = w' ∙ ap (λ (xs : Tokens). xs ++ b') s.new_are ∙ append_assoc s.front (s.other ∷ s.back) b';
        before_are = s.before_are;
        old_at = s.old_at;
        new_at = s.new_at;
      }

  rest_split : Stepped never l a cs (kinds a') → Split l b b' ds at to → Split l ps ps' (cs ++ ds) at to
  rest_split t s =
      let whole : List Step = s.before ++ stay s.placed ∷ s.after in
      let grouped : t.steps ++ whole ≡ (t.steps ++ s.before) ++ stay s.placed ∷ s.after = sym (append_assoc t.steps s.before (stay s.placed ∷ s.after)) in
      record {
        before = t.steps ++ s.before;
        after = s.after;
        placed = s.placed;
        front = a' ++ s.front;
        back = s.back;
        other = s.other;
        olds_are = ap olds (sym grouped) ∙ olds-append t.steps whole ∙ (λ i. t.olds_are i ++ s.olds_are i) ∙ sym w;
        changes_are = ap changes (sym grouped) ∙ changes-append t.steps whole ∙ (λ i. t.changes_are i ++ s.changes_are i);
        flow = subst (Flow never (start l)) grouped (flows l t.steps whole t.flow s.flow);
        tight = subst (TightUnless l) grouped (tights l t.steps whole t.tight s.tight);
        new_are = w' ∙ ap (λ (xs : Tokens). a' ++ xs) s.new_are ∙ sym (append_assoc a' s.front (s.other ∷ s.back));
        before_are = kinds-append a' s.front ∙ (λ i. sym t.news_are i ++ s.before_are i) ∙ sym (news-append t.steps s.before);
        old_at = s.old_at;
        new_at = s.new_at;
      }

-- the same of changes that are equal
split_as : {l : Bool} {ps ps' : Tokens} {at to : ℕ} (cs ds : List Change) → cs ≡ ds → Split l ps ps' cs at to → Split l ps ps' ds at to
split_as {l = l} {ps = ps} {ps' = ps'} {at = at} {to = to} cs ds e s = subst (λ c. Split l ps ps' c at to) e s

-- ---- what is carried

-- From tokens that stand so to those that stand so, by these changes. What is said of a place of
-- the old ones, where a token begins, is said of the one that has come of it, where no change
-- touches it.
pub record Carries (l : Bool) (L L' : Tokens → Type 0) (cs : List Change) (Old New : ℕ → Type 0) : Type 0 where
  pub step : (ps ps' : Tokens) → L ps → L' ps' → Stepped never l ps cs (kinds ps')
  pub starts : (ps : Tokens) → L ps → (at : ℕ) → Old at → StartsIn ps at
  pub carry : (ps ps' : Tokens) → Rising ps → L ps → L' ps' → (at : ℕ) → Old at → Untouched cs at → (to : ℕ) × New to × Split l ps ps' cs at to

abbrev pub Nothing : ℕ → Type 0
Nothing at = ⊥

abbrev pub AreNone : Tokens → Type 0
AreNone ps = ps ≡ []

module _ {l : Bool} where
  -- nothing is said of them
  pub idle : {L L' : Tokens → Type 0} {cs : List Change} {Old New : ℕ → Type 0} → ((ps ps' : Tokens) → L ps → L' ps' → Stepped never l ps cs (kinds ps')) → ((at : ℕ) → Old at → ⊥) → Carries l L L' cs Old New
  idle step none = record { step = step; starts = λ ps h at o. absurd (none at o); carry = λ ps ps' rising h k at o u. absurd (none at o) }

  pub nothing : Carries l AreNone AreNone [] Nothing Nothing
  nothing = idle (λ ps ps' h k. stepped_new ps [] [] (kinds ps') (sym (ap kinds k)) (none_steps ps h)) (λ at o. o)

  pub a_token : (t : Token) → Carries l (IsAlone t) (IsAlone t) [] Nothing Nothing
  a_token t = idle (λ ps ps' h k. stepped_new ps [] (t ∷ []) (kinds ps') (sym (ap kinds k.alone ∙ ap (λ u. u ∷ []) k.is)) (alone_steps t ps h)) (λ at o. o)

  -- said in other words, of changes that are equal
  pub alike : {L L' : Tokens → Type 0} {Old New Old' New' : ℕ → Type 0} (cs ds : List Change) → cs ≡ ds → ((at : ℕ) → Old' at → Old at) → ((to : ℕ) → New to → New' to) → Carries l L L' cs Old New → Carries l L L' ds Old' New'
  alike {L = L} {L' = L'} {Old' = Old'} {New' = New'} cs ds e old new x = subst (λ c. Carries l L L' c Old' New') e (record {
    step = x.step;
    starts = λ ps h at o. x.starts ps h at (old at o);
    carry = λ ps ps' rising h k at o u. (let r = x.carry ps ps' rising h k at (old at o) u in (r.0, new r.0 r.1, r.2));
  })

  -- tokens told in other words
  pub turn : {L L' M M' : Tokens → Type 0} {cs : List Change} {Old New : ℕ → Type 0} → ((ps : Tokens) → M ps → L ps) → ((ps : Tokens) → M' ps → L' ps) → Carries l L L' cs Old New → Carries l M M' cs Old New
  turn to to' x = record {
    step = λ ps ps' h k. x.step ps ps' (to ps h) (to' ps' k);
    starts = λ ps h at o. x.starts ps (to ps h) at o;
    carry = λ ps ps' rising h k at o u. x.carry ps ps' rising (to ps h) (to' ps' k) at o u;
  }

  pub node : {m k : Span} {L L' : Tokens → Type 0} {cs : List Change} {Old New : ℕ → Type 0} → Carries l L L' cs Old New → Carries l (IsNode m L) (IsNode k L') cs Old New
  node x = turn (λ ps h. h.parts) (λ ps h. h.parts) x

  -- one behind the other
  pub both : {L L' M M' : Tokens → Type 0} {cs ds : List Change} {Old New Old' New' : ℕ → Type 0} → Carries l L L' cs Old New → Carries l M M' ds Old' New'
      → Carries l (InOrder L M) (InOrder L' M') (cs ++ ds) (λ at. Old at ⊎ Old' at) (λ to. New to ⊎ New' to)
  both {cs = cs} {ds = ds} a b = record {
    step = λ ps ps' h k. stepped_as (h.front ++ h.back) ps (cs ++ ds) (cs ++ ds) (kinds k.front ++ kinds k.back) (kinds ps') (sym h.whole) refl (sym (kinds-append k.front k.back) ∙ ap kinds (sym k.whole))
        (joined_stepped h.front h.back cs ds (kinds k.front) (kinds k.back) (a.step h.front k.front h.first k.first) (b.step h.back k.back h.rest k.rest));
    starts = λ ps h at o. subst (λ (qs : Tokens). StartsIn qs at) (sym h.whole)
        (elim o [ inl x ↦ in_front h.front h.back at (a.starts h.front h.first at x) | inr y ↦ in_back h.front h.back at (b.starts h.back h.rest at y) ]);
    carry = λ ps ps' rising h k at o u.
        let rises = subst Rising h.whole rising in
        elim o [
          | inl x ↦ (let r = a.carry h.front k.front (rising_front h.front h.back rises) h.first k.first at x (untouched_front cs ds at u) in
              (r.0, inl r.1, first_split ps h.front h.back ps' k.front k.back cs ds h.whole k.whole r.2 (b.step h.back k.back h.rest k.rest)))
          | inr y ↦ (let r = b.carry h.back k.back (rising_back h.front h.back rises) h.rest k.rest at y (untouched_back cs ds at u) in
              (r.0, inr r.1, rest_split ps h.front h.back ps' k.front k.back cs ds h.whole k.whole (a.step h.front k.front h.first k.first) r.2))
        ];
  }

  -- behind what stays and of which nothing is said
  pub pass : {F F' L L' : Tokens → Type 0} {cs : List Change} {Old New : ℕ → Type 0} → Carries l F F' [] Nothing Nothing → Carries l L L' cs Old New → Carries l (InOrder F L) (InOrder F' L') cs Old New
  pass {cs = cs} f x = alike cs cs refl (λ at o. inr o) (λ to n. elim n [ inl x ↦ absurd x | inr y ↦ y ]) (both f x)

  -- in front of such
  pub only : {B B' L L' : Tokens → Type 0} {cs : List Change} {Old New : ℕ → Type 0} → Carries l L L' cs Old New → Carries l B B' [] Nothing Nothing → Carries l (InOrder L B) (InOrder L' B') cs Old New
  only {cs = cs} x b = alike (cs ++ []) cs (append-nil cs) (λ at o. inl o) (λ to n. elim n [ inl y ↦ y | inr x ↦ absurd x ]) (both x b)

  pub last : {L L' : Tokens → Type 0} {cs : List Change} {Old New : ℕ → Type 0} → Carries l L L' cs Old New → Carries l (InOrder L AreNone) (InOrder L' AreNone) cs Old New
  last x = only x nothing

  -- all of them are touched
  pub touched : {L L' : Tokens → Type 0} {cs : List Change} {Old New : ℕ → Type 0} → ((ps ps' : Tokens) → L ps → L' ps' → Stepped never l ps cs (kinds ps')) → ((ps : Tokens) → L ps → (at : ℕ) → Old at → StartsIn ps at)
      → ((ps : Tokens) → Rising ps → L ps → (at : ℕ) → Old at → Untouched cs at → ⊥) → Carries l L L' cs Old New
  touched step starts gone = record { step = step; starts = starts; carry = λ ps ps' rising h k at o u. absurd (gone ps rising h at o u) }

-- where tokens of expressions stand
pub loose : {L L' : Tokens → Type 0} {cs : List Change} {Old New : ℕ → Type 0} → Carries false L L' cs Old New → Carries true L L' cs Old New
loose {cs = cs} x = record {
  step = λ ps ps' h k. loosened ps cs (kinds ps') (x.step ps ps' h k);
  starts = x.starts;
  carry = λ ps ps' rising h k at o u.
      let r = x.carry ps ps' rising h k at o u in
      let s = r.2 in (
        r.0,
        r.1,
        record {
          before = s.before;
          after = s.after;
          placed = s.placed;
          front = s.front;
          back = s.back;
          other = s.other;
          olds_are = s.olds_are;
          changes_are = s.changes_are;
          flow = flow_from never (start true) (start false) (s.before ++ stay s.placed ∷ s.after) tt s.flow;
          tight = tt;
          new_are = s.new_are;
          before_are = s.before_are;
          old_at = s.old_at;
          new_at = s.new_at;
        },
      );
}

-- ---- a word

-- one token, a word, and the span is its place
abbrev pub WordStands : Span → List ℕ → Tokens → Type 0
WordStands s t = IsNode s (InOrder (IsAlone (word t)) AreNone)

pub word_kinds : (s : Span) (t : List ℕ) (ps : Tokens) → WordStands s t ps → kinds ps ≡ word t ∷ []
word_kinds s t ps h = (let w = one_word s t ps h in ap kinds w.whole ∙ ap (λ u. u ∷ []) w.is)

pub word_starts : (s : Span) (t : List ℕ) (ps : Tokens) → WordStands s t ps → StartsIn ps s.from
word_starts s t ps h = (let w = one_word s t ps h in subst (λ (qs : Tokens). StartsIn qs s.from) (sym w.whole) (inl (ap (λ (z : Span). z.from) w.mark)))

-- it stays
pub own_word : {l : Bool} {Old New : ℕ → Type 0} (s s' : Span) (t : List ℕ) → ((at : ℕ) → Old at → at ≡ s.from) → ((at : ℕ) → Old at → New s'.from) → Carries l (WordStands s t) (WordStands s' t) [] Old New
own_word {l = l} s s' t there gives = record {
  step = λ ps ps' h k. (let w = one_word s t ps h in stepped_as (w.placed ∷ []) ps [] [] (w.placed.token ∷ []) (kinds ps') (sym w.whole) refl (ap (λ u. u ∷ []) w.is ∙ sym (word_kinds s' t ps' k)) (stays w.placed));
  starts = λ ps h at o. subst (StartsIn ps) (sym (there at o)) (word_starts s t ps h);
  carry = λ ps ps' rising h k at o u.
      let w = one_word s t ps h in
      let v = one_word s' t ps' k in (
        s'.from,
        gives at o,
        record {
          before = [];
          after = [];
          placed = w.placed;
          front = [];
          back = [];
          other = v.placed;
          olds_are = sym w.whole;
          changes_are = refl;
          flow = tt;
          tight = tight_unless l (stay w.placed ∷ []) tt;
          new_are = v.whole;
          before_are = refl;
          old_at = sym (ap (λ (z : Span). z.from) w.mark) ∙ sym (there at o);
          new_at = sym (ap (λ (z : Span). z.from) v.mark);
        },
      );
}
  where
    stays : (p : Placed Span) → Stepped never l (p ∷ []) [] (p.token ∷ [])
    stays p = record { steps = stay p ∷ []; olds_are = refl; changes_are = refl; news_are = refl; flow = tt; tight = tight_unless l (stay p ∷ []) tt }

-- tokens one of which begins at a place are touched by a change of the whole
pub spanned : (ps : Tokens) (s : Span) (c : Change) (cs : List Change) → Rising ps → c.span.from ≤ first_from ps → last_to ps ≤ c.span.to → (at : ℕ) → StartsIn ps at → Untouched (c ∷ cs) at → ⊥
spanned ps s c cs rising from to at there u =
    let begins = from_first ps rising at there in
    let ends = to_last ps rising at there in
    u.0 (omega arith, omega arith)
