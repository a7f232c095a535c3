-- Parts that stand one behind the other, and nodes that end.
use Rattle.std.proofs.Common.{◌≡◌, [], ◌∷◌, ◌++◌, refl, sym, ap, subst, ◌∙◌, append_assoc}
use Rattle.std.proofs.lemmas.List.{append-nil}
use Rattle.jr_text.specs.declared.spans.Span.{Span}
use Rattle.jr_ast.specs.Tree.{Word}
use Rattle.jr_grammar.specs.Tokens.{Token, word, Placed}
use Rattle.jr_grammar.specs.Layout.{Layout, token, node, Layouts, done, ◌then◌}
use Rattle.jr_grammar.specs.Stands.{Tokens, first_from, last_to, span_of, InOrder, Stands, StandInOrder}
use Rattle.jr_grammar.specs.ExpressionLayout.{word_layout}
use Rattle.jr_pexpr.specs.Marked.{join}

abbrev pub IsMore : Tokens → Type 0
IsMore [] = ⊥
IsMore (i ∷ is) = Unit {0}

pub more_append : (a b : Tokens) → IsMore a → IsMore (a ++ b)
more_append [] b h = absurd h
more_append (i ∷ a) b h = tt

pub more_after : (a b : Tokens) → IsMore b → IsMore (a ++ b)
more_after [] b h = h
more_after (i ∷ a) b h = tt

pub first_from-append : (a b : Tokens) → IsMore a → first_from (a ++ b) ≡ first_from a
first_from-append [] b h = absurd h
first_from-append (i ∷ a) b h = refl

last_to-cons : (i : Placed Span) (b : Tokens) → IsMore b → last_to (i ∷ b) ≡ last_to b
last_to-cons i [] h = absurd h
last_to-cons i (j ∷ b) h = refl

pub last_to-append : (a b : Tokens) → IsMore b → last_to (a ++ b) ≡ last_to b
last_to-append [] b h = refl
last_to-append (i ∷ a) b h = last_to-cons i (a ++ b) (more_after a b h) ∙ last_to-append a b h

pub span_parts : (m n : Span) → m.from ≡ n.from → m.to ≡ n.to → m ≡ n
span_parts m n p q = λ i. record { from = p i; to = q i }

-- ---- one behind the other

-- a part, and others behind it
pub behind : {P Q : Tokens → Type 0} (a b : Tokens) → P a → Q b → InOrder P Q (a ++ b)
behind a b h k = record { front = a; back = b; whole = refl; first = h; rest = k }

-- what is behind grows
pub grow : {P Q R : Tokens → Type 0} {ps : Tokens} (c : Tokens) → InOrder P Q ps → ((b : Tokens) → Q b → R (b ++ c)) → InOrder P R (ps ++ c)
grow c h f = record { front = h.front; back = h.back ++ c; whole = ap (λ (x : Tokens). x ++ c) h.whole ∙ append_assoc h.front h.back c; first = h.first; rest = f h.back h.rest }

-- what is behind takes what is behind that
pub absorb : {P Q X R : Tokens → Type 0} {ps : Tokens} → InOrder (λ (b : Tokens). InOrder P Q b) X ps → ((b c : Tokens) → Q b → X c → R (b ++ c)) → InOrder P R ps
absorb h f = record {
  front = h.first.front;
  back = h.first.back ++ h.back;
  whole = h.whole ∙ ap (λ (x : Tokens). x ++ h.back) h.first.whole ∙ append_assoc h.first.front h.first.back h.back;
  first = h.first.first;
  rest = f h.first.back h.back h.first.rest h.rest;
}

-- a part in the place of two
pub joined : (R : Tokens → Type 0) {P Q : Tokens → Type 0} {ps : Tokens} → InOrder P Q ps → ((b c : Tokens) → P b → Q c → R (b ++ c)) → R ps
joined R h f = subst R (sym h.whole) (f h.front h.back h.first h.rest)

pub mapped : {P Q R : Tokens → Type 0} {ps : Tokens} → InOrder P Q ps → ((b : Tokens) → Q b → R b) → InOrder P R ps
mapped h f = record { front = h.front; back = h.back; whole = h.whole; first = h.first; rest = f h.back h.rest }

abbrev pub both : Layouts Span → Layouts Span → Layouts Span
both done ys = ys
both (x then xs) ys = x then both xs ys

pub stand_both : (xs ys : Layouts Span) (a b : Tokens) → StandInOrder xs a → StandInOrder ys b → StandInOrder (both xs ys) (a ++ b)
stand_both done ys a b h k = subst (λ (c : Tokens). StandInOrder ys (c ++ b)) (sym h) k
stand_both (x then xs) ys a b h k = grow b h (λ c g. stand_both xs ys c b g k)

pub stand_token : (t : Token) (i : Placed Span) → i.token ≡ t → Stands (token t) (i ∷ [])
stand_token t i h = record { placed = i; alone = refl; is = h }

pub stand_one : (t : Token) (i : Placed Span) → i.token ≡ t → StandInOrder (token t then done) (i ∷ [])
stand_one t i h = behind (i ∷ []) [] (stand_token t i h) refl

pub stand_last : (x : Layout Span) (a : Tokens) → Stands x a → StandInOrder (x then done) a
stand_last x a h = record { front = a; back = []; whole = sym (append-nil a); first = h; rest = refl }

pub last_stands : (x : Layout Span) (a : Tokens) → StandInOrder (x then done) a → Stands x a
last_stands x a h = subst (Stands x) (sym (h.whole ∙ ap (λ (b : Tokens). h.front ++ b) h.rest ∙ append-nil h.front)) h.first

pub stand_word : (w : Word Span) (i : Placed Span) → i.token ≡ word w.text → w.mark ≡ i.mark → Stands (word_layout w) (i ∷ [])
stand_word w i h k = record { mark = k; parts = stand_one (word w.text) i h }

-- ---- nodes

-- a node, over some tokens
pub record Whole (x : Layout Span) (m : Span) (ps : Tokens) : Type 0 where
  pub stands : Stands x ps
  pub more : IsMore ps
  pub mark : m ≡ span_of ps

-- what a node has so far, where it began at m
pub record Open (m : Span) (xs : Layouts Span) (ps : Tokens) : Type 0 where
  pub parts : StandInOrder xs ps
  pub more : IsMore ps
  pub from : m.from ≡ first_from ps

pub open_one : (t : Token) (i : Placed Span) → i.token ≡ t → Open i.mark (token t then done) (i ∷ [])
open_one t i h = record { parts = stand_one t i h; more = tt; from = refl }

pub open_more : {m : Span} {xs : Layouts Span} {ps : Tokens} (ys : Layouts Span) (c : Tokens) → Open m xs ps → StandInOrder ys c → Open m (both xs ys) (ps ++ c)
open_more {xs = xs} {ps = ps} ys c h k = record { parts = stand_both xs ys ps c h.parts k; more = more_append ps c h.more; from = h.from ∙ sym (first_from-append ps c h.more) }

pub open_end : {m : Span} {xs : Layouts Span} {ps : Tokens} (n : Span) (ys : Layouts Span) (c : Tokens) → Open m xs ps → StandInOrder ys c → IsMore c → n.to ≡ last_to c
    → Whole (node (join m n) (both xs ys)) (join m n) (ps ++ c)
open_end {m = m} {xs = xs} {ps = ps} n ys c h k o e =
    let s : join m n ≡ span_of (ps ++ c) = span_parts _ _ (h.from ∙ sym (first_from-append ps c h.more)) (e ∙ sym (last_to-append ps c o)) in
    record { stands = record { mark = s; parts = stand_both xs ys ps c h.parts k }; more = more_append ps c h.more; mark = s }

-- ended by a token
pub open_ended : {m : Span} {xs : Layouts Span} {ps : Tokens} (t : Token) (i : Placed Span) → Open m xs ps → i.token ≡ t → Whole (node (join m i.mark) (both xs (token t then done))) (join m i.mark) (ps ++ (i ∷ []))
open_ended t i h e = open_end i.mark (token t then done) (i ∷ []) h (stand_one t i e) tt refl

-- a node of one token
pub one_whole : (t : Token) (i : Placed Span) → i.token ≡ t → Whole (node i.mark (token t then done)) i.mark (i ∷ [])
one_whole t i h = record { stands = record { mark = refl; parts = stand_one t i h }; more = tt; mark = refl }

-- a whole node begins another
pub whole_open : {x : Layout Span} {m : Span} {ps : Tokens} → Whole x m ps → Open m (x then done) ps
whole_open {x = x} {ps = ps} h = record { parts = stand_last x ps h.stands; more = h.more; from = ap (λ (s : Span). s.from) h.mark }

-- what has been read so far is all of the node
pub open_closed : {m : Span} {xs : Layouts Span} {ps : Tokens} (n : Span) → Open m xs ps → n.to ≡ last_to ps → Whole (node (join m n) xs) (join m n) ps
open_closed {m = m} {ps = ps} n h e = let s : join m n ≡ span_of ps = span_parts _ _ h.from e in record { stands = record { mark = s; parts = h.parts }; more = h.more; mark = s }

-- what a node ends with, up to the token whose mark is n
pub record Ended (n : Span) (ys : Layouts Span) (c : Tokens) : Type 0 where
  pub parts : StandInOrder ys c
  pub more : IsMore c
  pub to : n.to ≡ last_to c

pub ended_at : {ys : Layouts Span} (i : Placed Span) (b : Tokens) → StandInOrder ys (b ++ (i ∷ [])) → Ended i.mark ys (b ++ (i ∷ []))
ended_at i b h = record { parts = h; more = more_after b (i ∷ []) tt; to = sym (last_to-append b (i ∷ []) tt) }

pub closes : {m : Span} {xs : Layouts Span} {ps : Tokens} (n : Span) (ys : Layouts Span) → InOrder (Open m xs) (Ended n ys) ps → Whole (node (join m n) (both xs ys)) (join m n) ps
closes {m = m} {xs = xs} n ys h = joined (Whole (node (join m n) (both xs ys)) (join m n)) h (λ b c f g. open_end n ys c f g.parts g.more g.to)

pub opens : {m : Span} {xs : Layouts Span} {ps : Tokens} (ys : Layouts Span) → InOrder (Open m xs) (StandInOrder ys) ps → Open m (both xs ys) ps
opens {m = m} {xs = xs} ys h = joined (Open m (both xs ys)) h (λ b c f g. open_more ys c f g)

pub first_mapped : {P Q R : Tokens → Type 0} {ps : Tokens} → InOrder P Q ps → ((b : Tokens) → P b → R b) → InOrder R Q ps
first_mapped h f = record { front = h.front; back = h.back; whole = h.whole; first = f h.front h.first; rest = h.rest }

-- and nothing behind it
pub alone : {P Q : Tokens → Type 0} {ps : Tokens} → P ps → Q [] → InOrder P Q ps
alone {ps = ps} h k = record { front = ps; back = []; whole = sym (append-nil ps); first = h; rest = k }
