-- Places of what is rewritten in tokens that stand so: each has a word there, so that none stands twice.
use Rattle.std.proofs.Common.{◌≡◌, ℕ, List, [], ◌∷◌, ◌++◌, ◌+◌, Some, Bool, true, false, if◌then◌else◌, refl, sym, ap, subst, ◌∙◌, inl, inr, arith, append_assoc}
use Rattle.std.specs.Prelude.{◌⊎◌, ◌↔◌}
use Rattle.jr_text.specs.declared.spans.Span.{Span}
use Rattle.jr_ast.specs.Tree as tree
use Rattle.jr_ast.specs.Marks.{exp_mark}
use Rattle.jr_grammar.specs.Layout.{itself}
use Rattle.jr_grammar.specs.Tokens.{Token}
use Rattle.jr_grammar.specs.Stands.{Tokens, first_from, IsAlone, InOrder, IsNode, Stands}
use Rattle.jr_grammar.specs.ExpressionLayout.{word_layout}
use Rattle.jr_program_laws.proofs.TokenOrder.{StartsIn, Rising, in_front, in_back, rising_front, rising_back, before, Filled, starts_first}
use Rattle.jr_program_laws.proofs.Filling.{Fills, alone_fills, front_fills}
use Rattle.jr_rewrite.specs.Respellings.{Choice, Change}
use Rattle.jr_rewrite.specs.Rewritten.{Rewritten, plain, within, joined, losses_of}
use Rattle.jr_rewrite.specs.Rewrites.{Choosing}
use Rattle.jr_reference_changes.specs.Places.{Place, with_choice, StandOnce, In, of_expression, of_creation, of_super, of_qualifier, of_type, of_parent_qualifier, of_parent, of_declared, IsChosen, edits_at, count_at, IsOfPlaces}
use Rattle.jr_reference_changes.proofs.NameTokens.{OnNames, front_names, back_names}
use Rattle.jr_reference_changes.proofs.PlacesJoined.{OneEach, in_either, in_left, in_right, plain_places, moved_places, alike_places, within_places, joined_places, own_places, behind_places}

-- ---- where a place's own word begins

abbrev pub word_from : tree.Exp Span → ℕ
word_from (tree.name m w) = w.mark.from
word_from (tree.field m e w) = w.mark.from
word_from (tree.super_field m w) = w.mark.from
word_from (tree.call m to w args) = w.mark.from
word_from (tree.super_call m w args) = w.mark.from
word_from _ = 0

abbrev pub type_from : tree.TypeName Span → ℕ
type_from (tree.named m o w) = w.mark.from
type_from _ = 0

abbrev pub qualifier_from : tree.TypeName Span → ℕ
qualifier_from (tree.named m (Some o) w) = o.mark.from
qualifier_from _ = 0

-- that of a `super(..)` isn't known by a mark: its constructor begins there
abbrev pub place_from : Place Span → ℕ
place_from (of_expression c r b e) = word_from e
place_from (of_creation c b e) = (exp_mark e).from
place_from (of_super k b ps args) = b
place_from (of_qualifier c b t) = qualifier_from t
place_from (of_type c b t) = type_from t
place_from (of_parent_qualifier o b t) = qualifier_from t
place_from (of_parent o b t) = type_from t
place_from (of_declared d at w) = w.mark.from

abbrev pub is_super : Place Span → Bool
is_super (of_expression c r b e) = false
is_super (of_creation c b e) = false
is_super (of_super k b ps args) = true
is_super (of_qualifier c b t) = false
is_super (of_type c b t) = false
is_super (of_parent_qualifier o b t) = false
is_super (of_parent o b t) = false
is_super (of_declared d at w) = false

-- its own word is known by a mark
abbrev pub HasWord : Place Span → Type 0
HasWord s = is_super s ≡ false

abbrev pub AnyPlace : Place Span → Type 0
AnyPlace s = Unit {0}

-- ---- lists

abbrev pub ChosenPlaces : Type 0
ChosenPlaces = List (Place Span × Choice)

once_both : (xs ys : ChosenPlaces) → StandOnce xs → StandOnce ys → ((s : Place Span) (h k : Choice) → In (with_choice s h) xs → In (with_choice s k) ys → ⊥) → StandOnce (xs ++ ys)
once_both [] ys f g never = g
once_both (x ∷ xs) ys f g never =
    (λ h i. elim (in_either (with_choice x.0 h) xs ys i) [ inl a ↦ f.0 h a | inr b ↦ never x.0 x.1 h (inl refl) b ], once_both xs ys f.1 g (λ s h k a b. never s h k (inr a) b))

once_between : (xs ys : ChosenPlaces) (x : Place Span × Choice) → StandOnce (xs ++ ys) → ((h : Choice) → In (with_choice x.0 h) (xs ++ ys) → ⊥) → StandOnce (xs ++ x ∷ ys)
once_between [] ys x f never = (never, f)
once_between (z ∷ xs) ys x f never = (ahead, once_between xs ys x f.1 (λ h i. never h (inr i)))
  where
    same : (h : Choice) → x ≡ with_choice z.0 h → z ≡ with_choice x.0 z.1
    same h e = ap (λ (s : Place Span). with_choice s z.1) (sym (ap (λ (y : Place Span × Choice). y.0) e))

    ahead : (h : Choice) → In (with_choice z.0 h) (xs ++ x ∷ ys) → ⊥
    ahead h i = elim (in_either (with_choice z.0 h) xs (x ∷ ys) i) [
      | inl a ↦ f.0 h (in_left (with_choice z.0 h) xs ys a)
      | inr b ↦ elim b [ inl e ↦ never z.1 (inl (same h e)) | inr c ↦ f.0 h (in_right (with_choice z.0 h) xs ys c) ]
    ]

-- ---- over some tokens

module _ (C : Choosing Span) where
  -- each begins where one of these does, none stands twice, and their edits lie on names
  pub record Apart (Kind : Place Span → Type 0) (ps : Tokens) (xs : ChosenPlaces) : Type 0 where
    pub within : (s : Place Span) (h : Choice) → In (with_choice s h) xs → Kind s × StartsIn ps (place_from s)
    pub once : StandOnce xs
    pub names : (s : Place Span) (h : Choice) → In (with_choice s h) xs → (y : Change) → In y (edits_at itself C s h) → OnNames ps y.span

  module _ (Kind : Place Span → Type 0) (a b ps : Tokens) (w : ps ≡ a ++ b) (rising : Rising ps) (xs ys : ChosenPlaces) where
    pub front_apart : Apart Kind a xs → Apart Kind ps xs
    front_apart f = record {
      within = λ s h i. ((f.within s h i).0, subst (λ (qs : Tokens). StartsIn qs (place_from s)) (sym w) (in_front a b (place_from s) (f.within s h i).1));
      once = f.once;
      names = λ s h i y e. front_names a b ps w rising y.span (f.names s h i y e);
    }

    pub back_apart : Apart Kind b ys → Apart Kind ps ys
    back_apart g = record {
      within = λ s h i. ((g.within s h i).0, subst (λ (qs : Tokens). StartsIn qs (place_from s)) (sym w) (in_back a b (place_from s) (g.within s h i).1));
      once = g.once;
      names = λ s h i y e. back_names a b ps w rising y.span (g.names s h i y e);
    }

    pub both_apart : Apart Kind a xs → Apart Kind b ys → Apart Kind ps (xs ++ ys)
    both_apart f g = record {
      within = λ s h i. elim (in_either (with_choice s h) xs ys i) [ inl l ↦ (front_apart f).within s h l | inr r ↦ (back_apart g).within s h r ];
      once = once_both xs ys f.once g.once (λ s h k l r. never s (f.within s h l).1 (g.within s k r).1);
      names = λ s h i y e. elim (in_either (with_choice s h) xs ys i) [ inl l ↦ front_names a b ps w rising y.span (f.names s h l y e) | inr r ↦ back_names a b ps w rising y.span (g.names s h r y e) ];
    }
      where
        never : (s : Place Span) → StartsIn a (place_from s) → StartsIn b (place_from s) → ⊥
        never s l r = let less = before a b (subst Rising w rising) (place_from s) (place_from s) l r in omega arith

-- ---- where tokens begin

pub node_starts : {m : Span} {L : Tokens → Type 0} → Fills L → (ps : Tokens) → IsNode m L ps → StartsIn ps m.from
node_starts f ps h = subst (StartsIn ps) (sym (ap (λ (s : Span). s.from) h.mark)) (starts_first ps (f.fills ps h.parts))

pub word_starts : (w : tree.Word Span) (ps : Tokens) → Stands (word_layout w) ps → StartsIn ps w.mark.from
word_starts w ps h = node_starts (front_fills alone_fills) ps h

pub back_starts : {L M : Tokens → Type 0} (at : ℕ) → ((ps : Tokens) → M ps → StartsIn ps at) → (ps : Tokens) → InOrder L M ps → StartsIn ps at
back_starts at f ps h = subst (λ (qs : Tokens). StartsIn qs at) (sym h.whole) (in_back h.front h.back at (f h.back h.rest))

pub front_starts : {L M : Tokens → Type 0} (at : ℕ) → ((ps : Tokens) → L ps → StartsIn ps at) → (ps : Tokens) → InOrder L M ps → StartsIn ps at
front_starts at f ps h = subst (λ (qs : Tokens). StartsIn qs at) (sym h.whole) (in_front h.front h.back at (f h.front h.first))

-- ---- over whatever tokens stand so

module _ (C : Choosing Span) where
  pub record Placed (Kind : Place Span → Type 0) (L : Tokens → Type 0) (P : Place Span → Type 0) {T : Type 0} (o : Rewritten T) : Type 0 where
    pub places : IsOfPlaces itself C P o
    pub apart : (ps : Tokens) → Rising ps → L ps → Apart C Kind ps places.all

  module _ {Kind : Place Span → Type 0} {L : Tokens → Type 0} {T : Type 0} where
    pub plain_placed : (t : T) → Placed Kind L (λ s. ⊥) (plain t)
    unfolding plain_places
    plain_placed t = record { places = plain_places itself C t; apart = λ ps rising l. record { within = λ s h i. absurd i; once = tt; names = λ s h i. absurd i } }

    pub moved_placed : (P : Place Span → Type 0) (o p : Rewritten T) → o ≡ p → Placed Kind L P p → Placed Kind L P o
    unfolding moved_places
    moved_placed P o p is x = record { places = moved_places itself C P o p is x.places; apart = x.apart }

    pub alike_placed : (P Q : Place Span → Type 0) (o : Rewritten T) → ((s : Place Span) → P s ↔ Q s) → Placed Kind L P o → Placed Kind L Q o
    unfolding alike_places
    alike_placed P Q o alike x = record { places = alike_places itself C P Q o alike x.places; apart = x.apart }

    pub within_placed : {U : Type 0} (P : Place Span → Type 0) (f : T → U) (o : Rewritten T) → Placed Kind L P o → Placed Kind L P (within f o)
    unfolding within_places
    within_placed P f o x = record { places = within_places itself C P f o x.places; apart = x.apart }

    pub weaker : (P : Place Span → Type 0) (o : Rewritten T) → Placed Kind L P o → Placed AnyPlace L P o
    weaker P o x = record { places = x.places; apart = λ ps rising l. record { within = λ s h i. (tt, ((x.apart ps rising l).within s h i).1); once = (x.apart ps rising l).once; names = (x.apart ps rising l).names } }

    -- the tokens told in other words
    pub turn : {M : Tokens → Type 0} (P : Place Span → Type 0) (o : Rewritten T) → ((ps : Tokens) → M ps → L ps) → Placed Kind L P o → Placed Kind M P o
    turn P o to x = record { places = x.places; apart = λ ps rising m. x.apart ps rising (to ps m) }

    -- what stands in front, behind, and around
    unfoldable pub pass : {M : Tokens → Type 0} {P : Place Span → Type 0} {o : Rewritten T} → Placed Kind L P o → Placed Kind (InOrder M L) P o
    pass x = record {
      places = x.places;
      apart = λ ps rising h. back_apart C Kind h.front h.back ps h.whole rising [] x.places.all (x.apart h.back (rising_back h.front h.back (subst Rising h.whole rising)) h.rest);
    }

    unfoldable pub only : {M : Tokens → Type 0} {P : Place Span → Type 0} {o : Rewritten T} → Placed Kind L P o → Placed Kind (InOrder L M) P o
    only x = record {
      places = x.places;
      apart = λ ps rising h. front_apart C Kind h.front h.back ps h.whole rising x.places.all [] (x.apart h.front (rising_front h.front h.back (subst Rising h.whole rising)) h.first);
    }

    pub node : {m : Span} {P : Place Span → Type 0} {o : Rewritten T} → Placed Kind L P o → Placed Kind (IsNode m L) P o
    node x = record { places = x.places; apart = λ ps rising h. x.apart ps rising h.parts }

  module _ {Kind : Place Span → Type 0} {L M : Tokens → Type 0} {T U V : Type 0} where
    unfoldable pub join : (P Q : Place Span → Type 0) (f : T → U → V) (o : Rewritten T) (p : Rewritten U) → Placed Kind L P o → Placed Kind M Q p → Placed Kind (InOrder L M) (λ s. P s ⊎ Q s) (joined f o p)
    unfolding joined_places
    join P Q f o p x y = record {
      places = joined_places itself C P Q f o p x.places y.places;
      apart = λ ps rising h.
          let two = subst Rising h.whole rising in
          both_apart C Kind h.front h.back ps h.whole rising x.places.all y.places.all (x.apart h.front (rising_front h.front h.back two) h.first) (y.apart h.back (rising_back h.front h.back two) h.rest);
    }

  -- ---- one place

  module _ (one : OneEach itself C) (s : Place Span) (h : Choice) (chosen : IsChosen itself C s h) (worded : HasWord s) where
    alone_apart : (ps : Tokens) → StartsIn ps (place_from s) → ((y : Change) → In y (edits_at itself C s h) → OnNames ps y.span) → Apart C HasWord ps (with_choice s h ∷ [])
    alone_apart ps starts lie = record {
      within = λ x k i. elim i [ inl e ↦ at x (ap (λ (z : Place Span × Choice). z.0) e) | inr j ↦ absurd j ];
      once = (λ k i. i, tt);
      names = λ x k i. elim i [ inl e ↦ on x k e | inr j ↦ absurd j ];
    }
      where
        at : (x : Place Span) → s ≡ x → HasWord x × StartsIn ps (place_from x)
        at x e = subst (λ (z : Place Span). HasWord z × StartsIn ps (place_from z)) e (worded, starts)

        on : (x : Place Span) (k : Choice) → with_choice s h ≡ with_choice x k → (y : Change) → In y (edits_at itself C x k) → OnNames ps y.span
        on x k e = subst (λ (z : Place Span × Choice). (y : Change) → In y (edits_at itself C z.0 z.1) → OnNames ps y.span) e lie

    -- its edits lie on names
    abbrev Lie : Tokens → Type 0
    Lie ps = (y : Change) → In y (edits_at itself C s h) → OnNames ps y.span

    pub own_placed : {L : Tokens → Type 0} {T : Type 0} (o : Rewritten T) → ((ps : Tokens) → L ps → StartsIn ps (place_from s)) → ((ps : Tokens) → Rising ps → L ps → Lie ps) → o.losses ≡ losses_of h → o.respelled ≡ count_at itself C s h → o.changes ≡ edits_at itself C s h
        → Placed HasWord L (λ x. x ≡ s) o
    unfolding own_places
    own_placed o starts lie ls n cs = record { places = own_places itself C one s h chosen o ls n cs; apart = λ ps rising l. alone_apart ps (starts ps l) (lie ps rising l) }

    -- what stands in front, with it
    with_behind : {L M : Tokens → Type 0} {P : Place Span → Type 0} {T : Type 0} {p : Rewritten T} (ps : Tokens) → Rising ps → (l : InOrder L M ps) → (inner : Placed HasWord L P p) → StartsIn l.back (place_from s) → Lie ps → Apart C HasWord ps (inner.places.all ++ with_choice s h ∷ [])
    with_behind ps rising l inner starts lie = record {
      within = λ x k i. elim (in_either (with_choice x k) inner.places.all (with_choice s h ∷ []) i) [ inl a ↦ (front.within x k a) | inr b ↦ (own.within x k b) ];
      once = once_both inner.places.all (with_choice s h ∷ []) front.once own.once (λ x k j a b. never x (first.within x k a).1 (elim b [ inl e ↦ ap (λ (z : Place Span × Choice). z.0) e | inr n ↦ absurd n ]));
      names = λ x k i y e. elim (in_either (with_choice x k) inner.places.all (with_choice s h ∷ []) i) [ inl a ↦ front.names x k a y e | inr b ↦ own.names x k b y e ];
    }
      where
        two : Rising (l.front ++ l.back)
        two = subst Rising l.whole rising

        first : Apart C HasWord l.front inner.places.all
        first = inner.apart l.front (rising_front l.front l.back two) l.first

        front : Apart C HasWord ps inner.places.all
        front = front_apart C HasWord l.front l.back ps l.whole rising inner.places.all [] first

        own : Apart C HasWord ps (with_choice s h ∷ [])
        own = alone_apart ps (subst (λ (qs : Tokens). StartsIn qs (place_from s)) (sym l.whole) (in_back l.front l.back (place_from s) starts)) lie

        never : (x : Place Span) → StartsIn l.front (place_from x) → s ≡ x → ⊥
        never x there e = let less = before l.front l.back two (place_from x) (place_from x) there (subst (λ (z : Place Span). StartsIn l.back (place_from z)) e starts) in omega arith

    -- behind what stands in front of a dot, which it drops or keeps
    pub behind_placed : {L M : Tokens → Type 0} {T U : Type 0} (P : Place Span → Type 0) (Keeps : Type 0) (p : Rewritten T) (o : Rewritten U) (inner : Placed HasWord L P p) → ((ps : Tokens) → M ps → StartsIn ps (place_from s)) → ((ps : Tokens) → Rising ps → InOrder L M ps → Lie ps)
        → (drop : Bool) → (drop ≡ false → Keeps) → (drop ≡ true → Keeps → ⊥) → o.losses ≡ (if drop then [] else p.losses) ++ losses_of h → o.respelled ≡ (if drop then 0 else p.respelled) + count_at itself C s h
        → (drop ≡ false → (y : Change) → In y o.changes ↔ (In y p.changes ⊎ In y (edits_at itself C s h))) → (drop ≡ true → o.changes ≡ edits_at itself C s h) → Placed HasWord (InOrder L M) (λ x. (Keeps × P x) ⊎ (x ≡ s)) o
    unfolding behind_places
    behind_placed P Keeps p o inner starts lie true gives never ls n kept gone = record {
      places = behind_places itself C one s h chosen P Keeps p o inner.places true gives never ls n kept gone;
      apart = λ ps rising l. alone_apart ps (back_starts (place_from s) starts ps l) (lie ps rising l);
    }
    behind_placed P Keeps p o inner starts lie false gives never ls n kept gone = record {
      places = behind_places itself C one s h chosen P Keeps p o inner.places false gives never ls n kept gone;
      apart = λ ps rising l. with_behind ps rising l inner (starts l.back l.rest) (lie ps rising l);
    }

-- three one behind the other
pub assoc : {L M N : Tokens → Type 0} (ps : Tokens) → InOrder L (InOrder M N) ps → InOrder (InOrder L M) N ps
assoc ps h = record {
  front = h.front ++ h.rest.front;
  back = h.rest.back;
  whole = h.whole ∙ ap (λ (qs : Tokens). h.front ++ qs) h.rest.whole ∙ sym (append_assoc h.front h.rest.front h.rest.back);
  first = record { front = h.front; back = h.rest.front; whole = refl; first = h.first; rest = h.rest.first };
  rest = h.rest.rest;
}

pub unassoc : {L M N : Tokens → Type 0} (ps : Tokens) → InOrder (InOrder L M) N ps → InOrder L (InOrder M N) ps
unassoc ps h = record {
  front = h.first.front;
  back = h.first.back ++ h.back;
  whole = h.whole ∙ ap (λ (qs : Tokens). qs ++ h.back) h.first.whole ∙ append_assoc h.first.front h.first.back h.back;
  first = h.first.first;
  rest = record { front = h.first.back; back = h.back; whole = refl; first = h.first.rest; rest = h.rest };
}

-- the first token of a node, which begins where the node does
pub record Leads (m : Span) (t : Token) (ps : Tokens) : Type 0 where
  pub alone : IsAlone t ps
  pub from : m.from ≡ first_from ps

pub leads : {m : Span} {t : Token} {L : Tokens → Type 0} (ps : Tokens) → IsNode m (InOrder (IsAlone t) L) ps → InOrder (Leads m t) L ps
leads ps h = record {
  front = h.parts.front;
  back = h.parts.back;
  whole = h.parts.whole;
  first = record { alone = h.parts.first; from = ap (λ (s : Span). s.from) h.mark ∙ begins h.parts.front h.parts.back ps h.parts.whole h.parts.first };
  rest = h.parts.rest;
}
  where
    begins : {t : Token} (a b ps : Tokens) → ps ≡ a ++ b → IsAlone t a → first_from ps ≡ first_from a
    begins a b ps w alone = ap first_from w ∙ ap (λ (x : Tokens). first_from (x ++ b)) alone.alone ∙ sym (ap first_from alone.alone)

pub leads_start : {m : Span} {t : Token} (ps : Tokens) → Leads m t ps → StartsIn ps m.from
leads_start ps h = subst (StartsIn ps) (sym h.from) (starts_first ps (subst Filled (sym h.alone.alone) tt))

-- ---- a `super(..)` among places that have words

module _ (C : Choosing Span) (front back : ChosenPlaces) (s : Place Span × Choice) (is : is_super s.0 ≡ true) (none : edits_at itself C s.0 s.1 ≡ []) (a b ps : Tokens) (w : ps ≡ a ++ b) (rising : Rising ps) (f : Apart C HasWord a front) (g : Apart C HasWord b back) (starts : StartsIn ps (place_from s.0)) where
  all : Apart C HasWord ps (front ++ back)
  all = both_apart C HasWord a b ps w rising front back f g

  first : Apart C HasWord ps front
  first = front_apart C HasWord a b ps w rising front back f

  last : Apart C HasWord ps back
  last = back_apart C HasWord a b ps w rising front back g

  not_it : (h : Choice) → In (with_choice s.0 h) (front ++ back) → ⊥
  not_it h i = let no = (all.within s.0 h i).0 in never (is_super s.0) is no
    where
      never : (x : Bool) → x ≡ true → x ≡ false → ⊥
      never true e k = cc
      never false e k = cc

  pub with_super : Apart C AnyPlace ps (front ++ s ∷ back)
  with_super = record {
    within = λ x h i. (tt, there x h (in_either (with_choice x h) front (s ∷ back) i));
    once = once_between front back s all.once not_it;
    names = λ x h i. lie x h (in_either (with_choice x h) front (s ∷ back) i);
  }
    where
      there : (x : Place Span) (h : Choice) → In (with_choice x h) front ⊎ In (with_choice x h) (s ∷ back) → StartsIn ps (place_from x)
      there x h (inl i) = (first.within x h i).1
      there x h (inr (inl e)) = subst (λ (z : Place Span). StartsIn ps (place_from z)) (ap (λ (z : Place Span × Choice). z.0) e) starts
      there x h (inr (inr i)) = (last.within x h i).1

      lie : (x : Place Span) (h : Choice) → In (with_choice x h) front ⊎ In (with_choice x h) (s ∷ back) → (y : Change) → In y (edits_at itself C x h) → OnNames ps y.span
      lie x h (inl i) = first.names x h i
      lie x h (inr (inl e)) = λ y i. absurd (subst (λ (ys : List Change). In y ys) none (subst (λ (z : Place Span × Choice). In y (edits_at itself C z.0 z.1)) (sym e) i))
      lie x h (inr (inr i)) = last.names x h i
