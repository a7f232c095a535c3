-- Steps without spots keep the kind of the last token.
use Rattle.std.proofs.Common.{◌≡◌, ℕ, false, List, [], ◌∷◌, ◌++◌, Some, refl, sym, ap, ◌∙◌, subst}
use Rattle.std.proofs.lemmas.List.{append-nil}
use Rattle.jr_text.specs.declared.spans.Span.{Span}
use Rattle.jr_lex.specs.declared.items.TokenKind.{TokenKind}
use Rattle.jr_lex.specs.declared.items.TokenKind.TheVariants.{Word}
use Rattle.jr_grammar.specs.Tokens.{Token, word, keyword, integer, text, symbol, Placed}
use Rattle.jr_grammar.specs.Stands.{Tokens, last_to}
use Rattle.jr_rewrite.specs.Respellings.{Change, Front, same, alone, by_this, by_super, by_cast_this, by_class, by_outer_class, by_cast}
use Rattle.jr_rewrite.specs.Woven.{Behind, anything, token_to}
use Rattle.jr_rewrite.proofs.Parts.{tokens, respelled_parts, cast_parts}
use Rattle.jr_rewrite.proofs.Steps.{Step, stay, cast, swap, close, weave, olds, news, BeginAt, IsWord, EndInWord, Flow, Stepped}
use Rattle.jr_moved_texts.specs.Spaces.{kind_of, last_kind}
use Rattle.jr_moved_texts.specs.Moved.{nowhere_weaves, EndsWith}
use Rattle.jr_moved_texts.proofs.ExpressionEnds.{last_some}

no_step : (p : Placed Span) (ps : Tokens) → (let none : Tokens = [] in p ∷ ps ≡ none) → ⊥
no_step p ps e = cc

-- where no token is, no step is
none_left : (last : Behind) (ss : List Step) → Flow nowhere_weaves last ss → olds ss ≡ [] → news ss ≡ []
none_left last [] h e = refl
none_left last (stay p ∷ ss) h e = absurd (no_step p (olds ss) e)
none_left last (cast k at ∷ ss) h e = absurd (subst (BeginAt at) e h.1)
none_left last (swap [] f x ∷ ss) h e = absurd h.0.begins
none_left last (swap (p ∷ run) f x ∷ ss) h e = absurd (no_step p (run ++ olds ss) e)
none_left last (close at d w x ∷ ss) h e = absurd (no_step d (w ∷ olds ss) e)
none_left last (weave f run cs us b ∷ ss) h e = absurd h.2

ends_behind : (k : TokenKind) (ps : Tokens) (q : Placed Span) (qs : Tokens) → EndsWith k (ps ++ q ∷ qs) → EndsWith k (q ∷ qs)
ends_behind k [] q qs h = h
ends_behind k (p ∷ []) q qs h = h
ends_behind k (p ∷ r ∷ ps) q qs h = ends_behind k (r ∷ ps) q qs h

word_kind : (t : Token) → IsWord t → kind_of t ≡ Word
word_kind (word t) h = refl
word_kind (keyword k) h = absurd h
word_kind (integer n) h = absurd h
word_kind (text s) h = absurd h
word_kind (symbol s) h = absurd h

ends_in_word : (k : TokenKind) (ps : Tokens) → EndInWord ps → EndsWith k ps → Word ≡ k
ends_in_word k [] h e = absurd h
ends_in_word k (p ∷ []) h e = sym (word_kind p.token h) ∙ e
ends_in_word k (p ∷ q ∷ ps) h e = ends_in_word k (q ∷ ps) h e

respelled_last : (f : Front) (x : List ℕ) → last_kind (tokens (respelled_parts f x)) ≡ Some Word
respelled_last same x = refl
respelled_last alone x = refl
respelled_last by_this x = refl
respelled_last by_super x = refl
respelled_last (by_cast_this k) x = refl
respelled_last (by_class k) x = refl
respelled_last (by_outer_class o k) x = refl
respelled_last (by_cast k) x = refl

-- one step in front of others
one_more : (k : TokenKind) (last : Behind) (ss : List Step) (ps : Tokens) (ts : List Token) → Flow nowhere_weaves last ss → (EndsWith k ps → last_kind ts ≡ Some k) → (EndsWith k (olds ss) → last_kind (news ss) ≡ Some k)
    → EndsWith k (ps ++ olds ss) → last_kind (ts ++ news ss) ≡ Some k
one_more k last ss ps ts flow here behind ends = by_olds (olds ss) refl
  where
    by_olds : (qs : Tokens) → olds ss ≡ qs → last_kind (ts ++ news ss) ≡ Some k
    by_olds [] e =
        ap last_kind (ap (λ x. ts ++ x) (none_left last ss flow e) ∙ append-nil ts)
        ∙ here (subst (EndsWith k) (ap (λ x. ps ++ x) e ∙ append-nil ps) ends)
    by_olds (q ∷ qs) e = last_some ts (news ss) k (behind (subst (EndsWith k) (sym e) (ends_behind k ps q qs (subst (λ x. EndsWith k (ps ++ x)) e ends))))

steps_last : (k : TokenKind) (last : Behind) (ss : List Step) → Flow nowhere_weaves last ss → EndsWith k (olds ss) → last_kind (news ss) ≡ Some k
steps_last k last [] flow ends = absurd ends
steps_last k last (stay p ∷ ss) flow ends = one_more k (token_to p.mark.to) ss (p ∷ []) (p.token ∷ []) flow (λ e. ap (λ (u : TokenKind). Some u) e) (steps_last k (token_to p.mark.to) ss flow) ends
steps_last k last (cast c at ∷ ss) flow ends = last_some (tokens (cast_parts c)) (news ss) k (steps_last k anything ss flow.2 ends)
steps_last k last (swap run f x ∷ ss) flow ends =
    one_more k (token_to (last_to run)) ss run (tokens (respelled_parts f x)) flow.1 (λ e. respelled_last f x ∙ ap (λ (u : TokenKind). Some u) (ends_in_word k run flow.0.ends e)) (steps_last k (token_to (last_to run)) ss flow.1) ends
steps_last k last (close at d w x ∷ ss) flow ends =
    one_more k (token_to w.mark.to) ss (d ∷ w ∷ []) (tokens (respelled_parts (by_cast []) x)) flow.3 (λ e. respelled_last (by_cast []) x ∙ ap (λ (u : TokenKind). Some u) (sym (word_kind w.token flow.1) ∙ e)) (steps_last k (token_to w.mark.to) ss flow.3) ends
steps_last k last (weave f run cs us b ∷ ss) flow ends = absurd flow.2

pub stepped_last : (k : TokenKind) (ps : Tokens) (cs : List Change) (ts : List Token) → Stepped nowhere_weaves false ps cs ts → EndsWith k ps → last_kind ts ≡ Some k
stepped_last k ps cs ts s ends = ap last_kind (sym s.news_are) ∙ steps_last k anything s.steps s.flow (subst (EndsWith k) (sym s.olds_are) ends)
