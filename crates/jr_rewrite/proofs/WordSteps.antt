-- Steps of a word by itself, and of one behind a dot, as is chosen for it.
use Rattle.std.proofs.Common.{◌≡◌, ℕ, false, List, [], ◌∷◌, ◌++◌, refl, sym, ap, ◌∙◌, subst, append-nil}
use Rattle.jr_text.specs.declared.spans.Span.{Span}
use Rattle.jr_lex.specs.declared.items.Symbol.TheVariants.{OpenParen, CloseParen, Dot}
use Rattle.jr_lex.specs.Replacing.{IsName}
use Rattle.jr_grammar.specs.Tokens.{Token, word, symbol, Placed}
use Rattle.jr_grammar.specs.Stands.{Tokens, first_from, last_to, span_of}
use Rattle.jr_rewrite.specs.Respellings.{Front, same, alone, by_this, by_super, by_cast_this, by_class, by_outer_class, by_cast, Choice, stays, becomes, loses, front_text, cast_text, Change}
use Rattle.jr_rewrite.specs.Rewritten.{change, from_to, before, behind_to, word_changes, dotted_changes, qualified_changes, super_changes}
use Rattle.jr_rewrite.specs.Suitable.{AreNames, Suits, MayStandBeforeVariable, MayStandBeforeType}
use Rattle.jr_rewrite.specs.Woven.{anything, token_to, Weaving}
use Rattle.jr_rewrite.proofs.Parts.{respelled_parts, tokens}
use Rattle.jr_rewrite.proofs.Steps.{Step, cast, swap, close, olds, BeginAt, BeginWordLike, EndInWord, IsWordLike, IsWord, IsSwap, end_of, end_of_some, flow_append, tight_append, olds-append, changes-append, news-append, Stepped, joined_stepped}
use Rattle.jr_rewrite.proofs.Stepping.{stepped_as, stepped_new, stay_steps, IsSome, IsOneWord, IsDotted}

-- the tokens of a word by itself
abbrev pub chosen : Choice → List ℕ → List Token
chosen stays t = word t ∷ []
chosen (becomes r) t = tokens (respelled_parts r.front r.text)
chosen (loses l) t = word t ∷ []

pub swap_steps : {W : Weaving} (run : Tokens) (f : Front) (x : List ℕ) → IsSwap run f x → Stepped W false run (change (span_of run) (front_text f ++ x) ∷ []) (tokens (respelled_parts f x))
swap_steps run f x h = record {
  steps = swap run f x ∷ [];
  olds_are = append-nil run;
  changes_are = refl;
  news_are = append-nil (tokens (respelled_parts f x));
  flow = (h, tt);
  tight = tt;
}

word_stays : {W : Weaving} (s : Span) (t : List ℕ) (ps : Tokens) → IsOneWord s t ps → Stepped W false ps [] (word t ∷ [])
word_stays s t ps h = stepped_as (h.placed ∷ []) ps [] [] (h.placed.token ∷ []) (word t ∷ []) (sym h.whole) refl (ap (λ u. u ∷ []) h.is) (stay_steps h.placed)

word_swap : (p : Placed Span) (t : List ℕ) (f : Front) (x : List ℕ) → p.token ≡ word t → IsName x → AreNames f → MayStandBeforeVariable f → IsSwap (p ∷ []) f x
word_swap p t f x e name names may = record {
  begins = subst IsWordLike (sym e) tt;
  ends = subst IsWord (sym e) tt;
  names = names;
  name = name;
  may = may;
}

pub word_steps : {W : Weaving} (May : Front → Type 0) → ((f : Front) → May f → MayStandBeforeVariable f) → (h : Choice) (s : Span) (t : List ℕ) (ps : Tokens) → Suits May h → IsOneWord s t ps
    → Stepped W false ps (word_changes h s) (chosen h t)
word_steps May weaker stays s t ps suits w = word_stays s t ps w
word_steps May weaker (loses l) s t ps suits w = word_stays s t ps w
word_steps May weaker (becomes r) s t ps suits w =
    stepped_as (w.placed ∷ []) ps (change w.placed.mark (front_text r.front ++ r.text) ∷ []) (word_changes (becomes r) s) (chosen (becomes r) t) (chosen (becomes r) t) (sym w.whole)
    (λ i. change (sym w.mark i) (front_text r.front ++ r.text) ∷ []) refl
    (swap_steps (w.placed ∷ []) r.front r.text (word_swap w.placed t r.front r.text w.is suits.0 suits.1 (weaker r.front suits.2)))

-- ---- behind a dot

-- the tokens of what stands in front, ts, with the word behind it
abbrev pub behind_dot : Front → List ℕ → List Token → List Token
behind_dot same x ts = ts ++ (symbol Dot ∷ word x ∷ [])
behind_dot alone x ts = tokens (respelled_parts alone x)
behind_dot by_this x ts = tokens (respelled_parts by_this x)
behind_dot by_super x ts = tokens (respelled_parts by_super x)
behind_dot (by_cast_this k) x ts = tokens (respelled_parts (by_cast_this k) x)
behind_dot (by_class k) x ts = tokens (respelled_parts (by_class k) x)
behind_dot (by_outer_class o k) x ts = tokens (respelled_parts (by_outer_class o k) x)
behind_dot (by_cast k) x ts =
    symbol OpenParen ∷ symbol OpenParen ∷ word k ∷ symbol CloseParen ∷ (ts ++ (symbol CloseParen ∷ symbol Dot ∷ word x ∷ []))

abbrev pub dotted_chosen : Choice → List ℕ → List Token → List Token
dotted_chosen stays t ts = ts ++ (symbol Dot ∷ word t ∷ [])
dotted_chosen (becomes r) t ts = behind_dot r.front r.text ts
dotted_chosen (loses l) t ts = ts ++ (symbol Dot ∷ word t ∷ [])

-- the same of a class, and of a variable behind `super`
abbrev pub qualified_chosen : Choice → List ℕ → List Token → List Token
qualified_chosen stays t ts = ts ++ (symbol Dot ∷ word t ∷ [])
qualified_chosen (becomes r) t ts = of_front r.front
  where
    of_front : Front → List Token
    of_front same = ts ++ (symbol Dot ∷ word r.text ∷ [])
    of_front f = tokens (respelled_parts f r.text)
qualified_chosen (loses l) t ts = ts ++ (symbol Dot ∷ word t ∷ [])

abbrev pub super_chosen : Choice → List ℕ → List Token → List Token
super_chosen = qualified_chosen

-- which fronts may stand, as far as tokens go
abbrev pub MayBehindDot : Tokens → Front → Type 0
MayBehindDot ps same = Unit {0}
MayBehindDot ps alone = BeginWordLike ps
MayBehindDot ps by_this = BeginWordLike ps
MayBehindDot ps by_super = BeginWordLike ps
MayBehindDot ps (by_cast_this k) = BeginWordLike ps
MayBehindDot ps (by_class k) = BeginWordLike ps
MayBehindDot ps (by_outer_class o k) = BeginWordLike ps
MayBehindDot ps (by_cast k) = Unit {0}

begin_more : (ps qs : Tokens) → BeginWordLike ps → BeginWordLike (ps ++ qs)
begin_more [] qs h = absurd h
begin_more (p ∷ ps) qs h = h

end_more : (ps : Tokens) (d p : Placed Span) → IsWord p.token → EndInWord (ps ++ d ∷ p ∷ [])
end_more [] d p h = h
end_more (q ∷ []) d p h = h
end_more (q ∷ r ∷ ps) d p h = end_more (r ∷ ps) d p h

last_more : (ps : Tokens) (d p : Placed Span) → last_to (ps ++ d ∷ p ∷ []) ≡ p.mark.to
last_more [] d p = refl
last_more (q ∷ []) d p = refl
last_more (q ∷ r ∷ ps) d p = last_more (r ∷ ps) d p

first_more : (ps qs : Tokens) → BeginWordLike ps → first_from (ps ++ qs) ≡ first_from ps
first_more [] qs h = absurd h
first_more (p ∷ ps) qs h = refl

module _ {W : Weaving} (s : Span) (t : List ℕ) (front : Tokens) (d p : Placed Span) (mark : s ≡ p.mark) (is_dot : d.token ≡ symbol Dot) (is : p.token ≡ word t) (cs : List Change) (ts : List Token)
    (inside : Stepped W false front cs ts) where
  is_word : IsWord p.token
  is_word = subst IsWord (sym is) tt

  -- the word alone may change
  kept_steps : (ds : List Change) (us : List Token) → Stepped W false (p ∷ []) ds us → Stepped W false (front ++ d ∷ p ∷ []) (cs ++ ds) (ts ++ (symbol Dot ∷ us))
  kept_steps ds us w =
      stepped_new (front ++ d ∷ p ∷ []) (cs ++ ds) (ts ++ (d.token ∷ us)) (ts ++ (symbol Dot ∷ us)) (λ i. ts ++ (is_dot i ∷ us))
      (joined_stepped front (d ∷ p ∷ []) cs ds ts (d.token ∷ us) inside (joined_stepped (d ∷ []) (p ∷ []) [] ds (d.token ∷ []) us (stay_steps d) w))

  stays_steps : Stepped W false (front ++ d ∷ p ∷ []) cs (ts ++ (symbol Dot ∷ word t ∷ []))
  stays_steps =
      stepped_as (front ++ d ∷ p ∷ []) (front ++ d ∷ p ∷ []) (cs ++ []) cs (ts ++ (symbol Dot ∷ p.token ∷ [])) (ts ++ (symbol Dot ∷ word t ∷ [])) refl (append-nil cs)
      (λ i. ts ++ (symbol Dot ∷ is i ∷ [])) (kept_steps [] (p.token ∷ []) (stay_steps p))

  -- another name alone
  name_steps : (f : Front) (x : List ℕ) → IsName x → AreNames f → MayStandBeforeVariable f → tokens (respelled_parts f x) ≡ word x ∷ [] → front_text f ++ x ≡ x
      → Stepped W false (front ++ d ∷ p ∷ []) (cs ++ (change s x ∷ [])) (ts ++ (symbol Dot ∷ word x ∷ []))
  name_steps f x name names may spelled written =
      stepped_as (front ++ d ∷ p ∷ []) (front ++ d ∷ p ∷ []) (cs ++ (change p.mark (front_text f ++ x) ∷ [])) (cs ++ (change s x ∷ []))
      (ts ++ (symbol Dot ∷ tokens (respelled_parts f x))) (ts ++ (symbol Dot ∷ word x ∷ [])) refl
      (λ i. cs ++ (change (sym mark i) (written i) ∷ [])) (λ i. ts ++ (symbol Dot ∷ spelled i))
      (kept_steps (change p.mark (front_text f ++ x) ∷ []) (tokens (respelled_parts f x)) (swap_steps (p ∷ []) f x (word_swap p t f x is name names may)))

  -- all is replaced
  whole_steps : (f : Front) (x : List ℕ) (e : Span) → e.from ≡ first_from front → BeginWordLike front → IsName x → AreNames f → MayStandBeforeVariable f
      → Stepped W false (front ++ d ∷ p ∷ []) (change (from_to e s) (front_text f ++ x) ∷ []) (tokens (respelled_parts f x))
  whole_steps f x e starts begins name names may =
      let run : Tokens = front ++ d ∷ p ∷ [] in
      let from : first_from run ≡ e.from = first_more front (d ∷ p ∷ []) begins ∙ sym starts in
      let to : last_to run ≡ s.to = last_more front d p ∙ sym (ap (λ (z : Span). z.to) mark) in
      stepped_as run run (change (span_of run) (front_text f ++ x) ∷ []) (change (from_to e s) (front_text f ++ x) ∷ []) (tokens (respelled_parts f x)) (tokens (respelled_parts f x)) refl
      (λ i. change (record { from = from i; to = to i }) (front_text f ++ x) ∷ []) refl
      (swap_steps run f x (record { begins = begin_more front (d ∷ p ∷ []) begins; ends = end_more front d p is_word; names = names; name = name; may = may }))

  -- a cast goes around what stands in front
  cast_steps : (k x : List ℕ) (e : Span) → e ≡ span_of front → IsSome front → IsName x → IsName k
      → Stepped W false (front ++ d ∷ p ∷ []) (change (before e) (cast_text k) ∷ (cs ++ change (behind_to e s) (front_text (by_cast k) ++ x) ∷ [])) (behind_dot (by_cast k) x ts)
  cast_steps k x e spans some name class =
      let inner : List Step = inside.steps ++ close e.to d p x ∷ [] in
      let front_is : olds inside.steps ≡ some.0 ∷ some.1 = inside.olds_are ∙ some.2 in
      let spanned : e ≡ span_of (some.0 ∷ some.1) = spans ∙ ap span_of some.2 in
      let ended : end_of anything inside.steps ≡ token_to e.to = end_of_some W anything inside.steps some.0 some.1 inside.flow inside.tight front_is ∙ ap (λ (z : Span). token_to z.to) (sym spanned) in
      let begins : BeginAt e.from (olds inner) =
      subst (BeginAt e.from) (sym (olds-append inside.steps (close e.to d p x ∷ []) ∙ ap (λ xs. xs ++ (d ∷ p ∷ [])) front_is)) (sym (ap (λ (z : Span). z.from) spanned)) in
      record {
        steps = cast k e.from ∷ inner;
        olds_are = olds-append inside.steps (close e.to d p x ∷ []) ∙ ap (λ xs. xs ++ (d ∷ p ∷ [])) inside.olds_are;
        changes_are =
            ap (λ xs. change (before e) (cast_text k) ∷ xs)
            (changes-append inside.steps (close e.to d p x ∷ [])
            ∙ (λ i. inside.changes_are i ++ (change (record { from = e.to; to = sym (ap (λ (z : Span). z.to) mark) i }) (front_text (by_cast k) ++ x) ∷ [])));
        news_are =
            ap (λ xs. symbol OpenParen ∷ symbol OpenParen ∷ word k ∷ symbol CloseParen ∷ xs)
            (news-append inside.steps (close e.to d p x ∷ []) ∙ ap (λ xs. xs ++ (symbol CloseParen ∷ symbol Dot ∷ word x ∷ [])) inside.news_are);
        flow = (class, begins, flow_append W anything inside.steps (close e.to d p x ∷ []) inside.flow (ended, is_word, name, tt));
        tight = tight_append inside.steps (close e.to d p x ∷ []) inside.tight tt;
      }

  becomes_steps : (f : Front) (x : List ℕ) (e : Span) → e ≡ span_of front → IsSome front → MayBehindDot front f → IsName x → AreNames f
      → Stepped W false (front ++ d ∷ p ∷ []) (dotted_changes (becomes (record { text = x; front = f })) e s cs) (behind_dot f x ts)
  becomes_steps same x e spans some may name names = name_steps same x name names tt refl refl
  becomes_steps alone x e spans some may name names = whole_steps alone x e (ap (λ (z : Span). z.from) spans) may name names tt
  becomes_steps by_this x e spans some may name names = whole_steps by_this x e (ap (λ (z : Span). z.from) spans) may name names tt
  becomes_steps by_super x e spans some may name names = whole_steps by_super x e (ap (λ (z : Span). z.from) spans) may name names tt
  becomes_steps (by_cast_this k) x e spans some may name names = whole_steps (by_cast_this k) x e (ap (λ (z : Span). z.from) spans) may name names tt
  becomes_steps (by_class k) x e spans some may name names = whole_steps (by_class k) x e (ap (λ (z : Span). z.from) spans) may name names tt
  becomes_steps (by_outer_class o k) x e spans some may name names = whole_steps (by_outer_class o k) x e (ap (λ (z : Span). z.from) spans) may name names tt
  becomes_steps (by_cast k) x e spans some may name names = cast_steps k x e spans some name names

  choice_steps : (May : Front → Type 0) → ((f : Front) → May f → MayBehindDot front f) → (h : Choice) (e : Span) → e ≡ span_of front → IsSome front → Suits May h
      → Stepped W false (front ++ d ∷ p ∷ []) (dotted_changes h e s cs) (dotted_chosen h t ts)
  choice_steps May weaker stays e spans some suits = stays_steps
  choice_steps May weaker (becomes r) e spans some suits = becomes_steps r.front r.text e spans some (weaker r.front suits.2) suits.0 suits.1
  choice_steps May weaker (loses l) e spans some suits = stays_steps

  -- of a class behind the one that it is a member of
  qualified_steps : {A : Type 0} (tells : A → ℕ → Span) (h : Choice) (e : Span) → e.from ≡ first_from front → BeginWordLike front → Suits MayStandBeforeType h
      → Stepped W false (front ++ d ∷ p ∷ []) (qualified_changes tells h e s cs) (qualified_chosen h t ts)
  qualified_steps tells stays e starts begins suits = stays_steps
  qualified_steps tells (loses l) e starts begins suits = stays_steps
  qualified_steps tells (becomes r) e starts begins suits = by_front r.front suits.1 suits.2
    where
      by_front : (f : Front) → AreNames f → MayStandBeforeType f
          → Stepped W false (front ++ d ∷ p ∷ []) (qualified_changes tells (becomes (record { text = r.text; front = f })) e s cs) (qualified_chosen (becomes (record { text = r.text; front = f })) t ts)
      by_front same names may = name_steps same r.text suits.0 names tt refl refl
      by_front alone names may = whole_steps alone r.text e starts begins suits.0 names tt
      by_front by_this names may = absurd may
      by_front by_super names may = absurd may
      by_front (by_cast_this k) names may = absurd may
      by_front (by_class k) names may = whole_steps (by_class k) r.text e starts begins suits.0 names tt
      by_front (by_outer_class o k) names may = absurd may
      by_front (by_cast k) names may = absurd may

-- of a variable behind `super`
pub super_steps : {W : Weaving} (s : Span) (t : List ℕ) (front : Tokens) (d p : Placed Span) → s ≡ p.mark → d.token ≡ symbol Dot → p.token ≡ word t → (ts : List Token) → Stepped W false front [] ts
    → (h : Choice) (e : Span) → e.from ≡ first_from front → BeginWordLike front → Suits MayStandBeforeVariable h
    → Stepped W false (front ++ d ∷ p ∷ []) (super_changes h e s) (super_chosen h t ts)
super_steps {W = W} s t front d p mark is_dot is ts inside stays e starts begins suits = stays_steps s t front d p mark is_dot is [] ts inside
super_steps {W = W} s t front d p mark is_dot is ts inside (loses l) e starts begins suits = stays_steps s t front d p mark is_dot is [] ts inside
super_steps {W = W} s t front d p mark is_dot is ts inside (becomes r) e starts begins suits = by_front r.front suits.1 suits.2
  where
    all : (f : Front) → AreNames f → MayStandBeforeVariable f → Stepped W false (front ++ d ∷ p ∷ []) (change (from_to e s) (front_text f ++ r.text) ∷ []) (tokens (respelled_parts f r.text))
    all f names may = whole_steps s t front d p mark is_dot is [] ts inside f r.text e starts begins suits.0 names may

    by_front : (f : Front) → AreNames f → MayStandBeforeVariable f
        → Stepped W false (front ++ d ∷ p ∷ []) (super_changes (becomes (record { text = r.text; front = f })) e s) (super_chosen (becomes (record { text = r.text; front = f })) t ts)
    by_front same names may = name_steps s t front d p mark is_dot is [] ts inside same r.text suits.0 names tt refl refl
    by_front alone names may = all alone names may
    by_front by_this names may = all by_this names may
    by_front by_super names may = all by_super names may
    by_front (by_cast_this k) names may = all (by_cast_this k) names may
    by_front (by_class k) names may = all (by_class k) names may
    by_front (by_outer_class o k) names may = all (by_outer_class o k) names may
    by_front (by_cast k) names may = absurd may

-- a word behind a dot, behind what is stepped by itself
pub dotted_steps : {W : Weaving} {P : Tokens → Type 0} (s : Span) (t : List ℕ) (ps : Tokens) (dotted : IsDotted P s t ps) (cs : List Change) (ts : List Token)
    → Stepped W false dotted.front cs ts → (May : Front → Type 0) → ((f : Front) → May f → MayBehindDot dotted.front f) → (h : Choice) (e : Span) → e ≡ span_of dotted.front → IsSome dotted.front → Suits May h
    → Stepped W false ps (dotted_changes h e s cs) (dotted_chosen h t ts)
dotted_steps s t ps dotted cs ts inside May weaker h e spans some suits =
    stepped_as (dotted.front ++ dotted.dot ∷ dotted.last ∷ []) ps (dotted_changes h e s cs) (dotted_changes h e s cs) (dotted_chosen h t ts) (dotted_chosen h t ts) (sym dotted.whole) refl refl
    (choice_steps s t dotted.front dotted.dot dotted.last dotted.mark dotted.is_dot dotted.is cs ts inside May weaker h e spans some suits)

-- a class behind the one that it is a member of
pub qualified_dotted : {W : Weaving} {A : Type 0} {P : Tokens → Type 0} (tells : A → ℕ → Span) (s : Span) (t : List ℕ) (ps : Tokens) (dotted : IsDotted P s t ps) (cs : List Change) (ts : List Token)
    → Stepped W false dotted.front cs ts → (h : Choice) (e : Span) → e.from ≡ first_from dotted.front → BeginWordLike dotted.front → Suits MayStandBeforeType h
    → Stepped W false ps (qualified_changes tells h e s cs) (qualified_chosen h t ts)
qualified_dotted tells s t ps dotted cs ts inside h e starts begins suits =
    stepped_as (dotted.front ++ dotted.dot ∷ dotted.last ∷ []) ps (qualified_changes tells h e s cs) (qualified_changes tells h e s cs) (qualified_chosen h t ts) (qualified_chosen h t ts) (sym dotted.whole) refl refl
    (qualified_steps s t dotted.front dotted.dot dotted.last dotted.mark dotted.is_dot dotted.is cs ts inside tells h e starts begins suits)

-- a variable behind `super`
pub super_dotted : {W : Weaving} {P : Tokens → Type 0} (s : Span) (t : List ℕ) (ps : Tokens) (dotted : IsDotted P s t ps) (ts : List Token)
    → Stepped W false dotted.front [] ts → (h : Choice) (e : Span) → e.from ≡ first_from dotted.front → BeginWordLike dotted.front → Suits MayStandBeforeVariable h
    → Stepped W false ps (super_changes h e s) (super_chosen h t ts)
super_dotted s t ps dotted ts inside h e starts begins suits =
    stepped_as (dotted.front ++ dotted.dot ∷ dotted.last ∷ []) ps (super_changes h e s) (super_changes h e s) (super_chosen h t ts) (super_chosen h t ts) (sym dotted.whole) refl refl
    (super_steps s t dotted.front dotted.dot dotted.last dotted.mark dotted.is_dot dotted.is ts inside h e starts begins suits)
