-- A rewriting, flat: over the tokens of a text from left to right, what stays, what is put in, what
-- is replaced, and the runs of spots.
use Rattle.std.proofs.Common.{◌≡◌, ℕ, Bool, true, false, List, [], ◌∷◌, ◌++◌, refl, sym, ap, ◌∙◌, subst}
use Rattle.std.proofs.lemmas.List.{append_assoc, append-nil}
use Rattle.jr_text.specs.declared.spans.Span.{Span}
use Rattle.jr_lex.specs.Replacing.{IsName}
use Rattle.jr_grammar.specs.Tokens.{Token, word, keyword, integer, text, symbol, Placed}
use Rattle.jr_grammar.specs.Stands.{Tokens, last_to, span_of}
use Rattle.jr_rewrite.specs.Respellings.{Front, by_cast, front_text, cast_text, Change}
use Rattle.jr_rewrite.specs.Rewritten.{change}
use Rattle.jr_rewrite.specs.Suitable.{AreNames, MayStandBeforeVariable}
use Rattle.jr_rewrite.specs.Woven.{Behind, anything, no_indent, token_to, Weaving}
use Rattle.jr_rewrite.proofs.Parts.{respelled_parts, cast_parts, tokens}

pub data Step : Type 0 where
  -- a token stays
  stay : (placed : Placed Span) → Step
  -- `((K) ` in front of the token that begins at a place
  cast : (class : List ℕ) (at : ℕ) → Step
  -- a run of tokens is replaced by a respelling
  swap : (run : Tokens) (front : Front) (text : List ℕ) → Step
  -- from the end of the last token on, a dot and a word are replaced by `).x`
  close : (at : ℕ) (dot word : Placed Span) (text : List ℕ) → Step
  -- a run of tokens changes as a spot has it, which says how the places stand where it begins and ends
  weave : (from : Behind) (run : Tokens) (cs : List Change) (ts : List Token) (to : Behind) → Step

abbrev pub step_olds : Step → Tokens
step_olds (stay p) = p ∷ []
step_olds (cast k at) = []
step_olds (swap run f x) = run
step_olds (close at d w x) = d ∷ w ∷ []
step_olds (weave f run cs ts b) = run

abbrev pub step_changes : Step → List Change
step_changes (stay p) = []
step_changes (cast k at) = change (record { from = at; to = at }) (cast_text k) ∷ []
step_changes (swap run f x) = change (span_of run) (front_text f ++ x) ∷ []
step_changes (close at d w x) = change (record { from = at; to = w.mark.to }) (front_text (by_cast []) ++ x) ∷ []
step_changes (weave f run cs ts b) = cs

abbrev pub step_news : Step → List Token
step_news (stay p) = p.token ∷ []
step_news (cast k at) = tokens (cast_parts k)
step_news (swap run f x) = tokens (respelled_parts f x)
step_news (close at d w x) = tokens (respelled_parts (by_cast []) x)
step_news (weave f run cs ts b) = ts

-- the tokens that were there, the changes, and the tokens that come
abbrev pub olds : List Step → Tokens
olds [] = []
olds (s ∷ ss) = step_olds s ++ olds ss

abbrev pub changes : List Step → List Change
changes [] = []
changes (s ∷ ss) = step_changes s ++ changes ss

abbrev pub news : List Step → List Token
news [] = []
news (s ∷ ss) = step_news s ++ news ss

-- ---- what may follow what

abbrev pub BeginAt : ℕ → Tokens → Type 0
BeginAt at [] = ⊥
BeginAt at (p ∷ ps) = p.mark.from ≡ at

abbrev pub IsWordLike : Token → Type 0
IsWordLike (word t) = Unit {0}
IsWordLike (keyword k) = Unit {0}
IsWordLike (integer n) = ⊥
IsWordLike (text s) = ⊥
IsWordLike (symbol s) = ⊥

abbrev pub IsWord : Token → Type 0
IsWord (word t) = Unit {0}
IsWord (keyword k) = ⊥
IsWord (integer n) = ⊥
IsWord (text s) = ⊥
IsWord (symbol s) = ⊥

abbrev pub BeginWordLike : Tokens → Type 0
BeginWordLike [] = ⊥
BeginWordLike (p ∷ ps) = IsWordLike p.token

abbrev pub EndInWord : Tokens → Type 0
EndInWord [] = ⊥
EndInWord (p ∷ []) = IsWord p.token
EndInWord (p ∷ q ∷ ps) = EndInWord (q ∷ ps)

pub record IsSwap (run : Tokens) (front : Front) (text : List ℕ) : Type 0 where
  pub begins : BeginWordLike run
  pub ends : EndInWord run
  pub names : AreNames front
  pub name : IsName text
  pub may : MayStandBeforeVariable front

-- it is known how a place stands
abbrev pub IsKnown : Behind → Type 0
IsKnown anything = ⊥
IsKnown no_indent = Unit {0}
IsKnown (token_to n) = Unit {0}

-- what is known is enough where this is asked
abbrev pub Suffices : (known asked : Behind) → Type 0
Suffices known anything = Unit {0}
Suffices known no_indent = IsKnown known
Suffices known (token_to n) = known ≡ token_to n

-- `last` is how the place stands where the steps begin
abbrev pub Flow : Weaving → (last : Behind) → List Step → Type 0
Flow W last [] = Unit {0}
Flow W last (stay p ∷ ss) = Flow W (token_to p.mark.to) ss
Flow W last (cast k at ∷ ss) = IsName k × BeginAt at (olds ss) × Flow W anything ss
Flow W last (swap run f x ∷ ss) = IsSwap run f x × Flow W (token_to (last_to run)) ss
Flow W last (close at d w x ∷ ss) = (last ≡ token_to at) × IsWord w.token × IsName x × Flow W (token_to w.mark.to) ss
Flow W last (weave f run cs ts b ∷ ss) = Suffices last f × IsKnown b × W f run cs ts b × Flow W b ss

-- each run of a spot ends where its last token does
abbrev pub IsTight : List Step → Type 0
IsTight [] = Unit {0}
IsTight (stay p ∷ ss) = IsTight ss
IsTight (cast k at ∷ ss) = IsTight ss
IsTight (swap run f x ∷ ss) = IsTight ss
IsTight (close at d w x ∷ ss) = IsTight ss
IsTight (weave f run cs ts b ∷ ss) = ((p : Placed Span) × (ps : Tokens) × (run ≡ p ∷ ps)) × (b ≡ token_to (last_to run)) × IsTight ss

-- how the place stands behind the steps
abbrev pub end_of : Behind → List Step → Behind
end_of last [] = last
end_of last (stay p ∷ ss) = end_of (token_to p.mark.to) ss
end_of last (cast k at ∷ ss) = end_of anything ss
end_of last (swap run f x ∷ ss) = end_of (token_to (last_to run)) ss
end_of last (close at d w x ∷ ss) = end_of (token_to w.mark.to) ss
end_of last (weave f run cs ts b ∷ ss) = end_of b ss

-- ---- one list of steps behind another

pub olds-append : (ss ts : List Step) → olds (ss ++ ts) ≡ olds ss ++ olds ts
olds-append [] ts = refl
olds-append (s ∷ ss) ts = ap (λ x. step_olds s ++ x) (olds-append ss ts) ∙ sym (append_assoc (step_olds s) (olds ss) (olds ts))

pub changes-append : (ss ts : List Step) → changes (ss ++ ts) ≡ changes ss ++ changes ts
changes-append [] ts = refl
changes-append (s ∷ ss) ts = ap (λ x. step_changes s ++ x) (changes-append ss ts) ∙ sym (append_assoc (step_changes s) (changes ss) (changes ts))

pub news-append : (ss ts : List Step) → news (ss ++ ts) ≡ news ss ++ news ts
news-append [] ts = refl
news-append (s ∷ ss) ts = ap (λ x. step_news s ++ x) (news-append ss ts) ∙ sym (append_assoc (step_news s) (news ss) (news ts))

begin_more : (at : ℕ) (ps qs : Tokens) → BeginAt at ps → BeginAt at (ps ++ qs)
begin_more at [] qs h = absurd h
begin_more at (p ∷ ps) qs h = h

-- what flows behind the end of others flows behind them
pub flow_append : (W : Weaving) (last : Behind) (ss ts : List Step) → Flow W last ss → Flow W (end_of last ss) ts → Flow W last (ss ++ ts)
flow_append W last [] ts h g = g
flow_append W last (stay p ∷ ss) ts h g = flow_append W (token_to p.mark.to) ss ts h g
flow_append W last (cast k at ∷ ss) ts h g = (h.0, subst (BeginAt at) (sym (olds-append ss ts)) (begin_more at (olds ss) (olds ts) h.1), flow_append W anything ss ts h.2 g)
flow_append W last (swap run f x ∷ ss) ts h g = (h.0, flow_append W (token_to (last_to run)) ss ts h.1 g)
flow_append W last (close at d w x ∷ ss) ts h g = (h.0, h.1, h.2, flow_append W (token_to w.mark.to) ss ts h.3 g)
flow_append W last (weave f run cs us b ∷ ss) ts h g = (h.0, h.1, h.2, flow_append W b ss ts h.3 g)

pub tight_append : (ss ts : List Step) → IsTight ss → IsTight ts → IsTight (ss ++ ts)
tight_append [] ts h g = g
tight_append (stay p ∷ ss) ts h g = tight_append ss ts h g
tight_append (cast k at ∷ ss) ts h g = tight_append ss ts h g
tight_append (swap run f x ∷ ss) ts h g = tight_append ss ts h g
tight_append (close at d w x ∷ ss) ts h g = tight_append ss ts h g
tight_append (weave f run cs us b ∷ ss) ts h g = (h.0, h.1, tight_append ss ts h.2 g)

suffices_more : (known first asked : Behind) → Suffices known first → Suffices first asked → Suffices known asked
suffices_more known first anything h g = tt
suffices_more known anything no_indent h g = absurd g
suffices_more known no_indent no_indent h g = h
suffices_more known (token_to n) no_indent h g = subst IsKnown (sym h) tt
suffices_more known first (token_to n) h g = subst (Suffices known) g h

-- what flows where less is known flows where more is
pub flow_from : (W : Weaving) (last first : Behind) (ss : List Step) → Suffices last first → Flow W first ss → Flow W last ss
flow_from W last first [] s h = tt
flow_from W last first (stay p ∷ ss) s h = h
flow_from W last first (cast k at ∷ ss) s h = h
flow_from W last first (swap run f x ∷ ss) s h = h
flow_from W last first (close at d w x ∷ ss) s h = (subst (Suffices last) h.0 s, h.1, h.2, h.3)
flow_from W last first (weave f run cs us b ∷ ss) s h = (suffices_more last first f s h.0, h.1, h.2, h.3)

mutual
  -- it is known how the place stands behind the steps
  pub known_end : (W : Weaving) (last : Behind) (ss : List Step) → IsKnown last → Flow W last ss → IsKnown (end_of last ss)
  known_end W last [] k h = k
  known_end W last (stay p ∷ ss) k h = known_end W (token_to p.mark.to) ss tt h
  known_end W last (cast c at ∷ ss) k h = begun_end W anything at ss h.1 h.2
  known_end W last (swap run f x ∷ ss) k h = known_end W (token_to (last_to run)) ss tt h.1
  known_end W last (close at d w x ∷ ss) k h = known_end W (token_to w.mark.to) ss tt h.3
  known_end W last (weave f run cs us b ∷ ss) k h = known_end W b ss h.1 h.3

  -- and so it is where there is a token
  begun_end : (W : Weaving) (last : Behind) (at : ℕ) (ss : List Step) → BeginAt at (olds ss) → Flow W last ss → IsKnown (end_of last ss)
  begun_end W last at [] begins h = absurd begins
  begun_end W last at (stay p ∷ ss) begins h = known_end W (token_to p.mark.to) ss tt h
  begun_end W last at (cast c i ∷ ss) begins h = begun_end W anything i ss h.1 h.2
  begun_end W last at (swap run f x ∷ ss) begins h = known_end W (token_to (last_to run)) ss tt h.1
  begun_end W last at (close i d w x ∷ ss) begins h = known_end W (token_to w.mark.to) ss tt h.3
  begun_end W last at (weave f run cs us b ∷ ss) begins h = known_end W b ss h.1 h.3

last_append : (ps qs : Tokens) (q : Placed Span) → last_to (ps ++ q ∷ qs) ≡ last_to (q ∷ qs)
last_append [] qs q = refl
last_append (p ∷ []) qs q = refl
last_append (p ∷ r ∷ ps) qs q = last_append (r ∷ ps) qs q

-- the end of tokens behind which no more stand, or where others end
abbrev last_behind : Behind → Tokens → Behind
last_behind last [] = last
last_behind last (p ∷ ps) = token_to (last_to (p ∷ ps))

last_more : (ps : Tokens) (last : Behind) (qs : Tokens) → last_behind (last_behind last ps) qs ≡ last_behind last (ps ++ qs)
last_more ps last [] = ap (last_behind last) (sym (append-nil ps))
last_more [] last (q ∷ qs) = refl
last_more (p ∷ ps) last (q ∷ qs) = ap token_to (sym (last_append (p ∷ ps) qs q))

swap_last : (run : Tokens) (last : Behind) → BeginWordLike run → token_to (last_to run) ≡ last_behind last run
swap_last [] last h = absurd h
swap_last (p ∷ run) last h = refl

run_last : (run : Tokens) (last : Behind) (p : Placed Span) (ps : Tokens) → run ≡ p ∷ ps → token_to (last_to run) ≡ last_behind last run
run_last run last p ps e = subst (λ r. token_to (last_to r) ≡ last_behind last r) (sym e) refl

end_is : (W : Weaving) (last : Behind) (ss : List Step) → Flow W last ss → IsTight ss → end_of last ss ≡ last_behind last (olds ss)
end_is W last [] h t = refl
end_is W last (stay p ∷ ss) h t = end_is W (token_to p.mark.to) ss h t ∙ last_more (p ∷ []) last (olds ss)
end_is W last (cast k at ∷ ss) h t = end_is W anything ss h.2 t ∙ some_there (olds ss) h.1
  where
    some_there : (ps : Tokens) → BeginAt at ps → last_behind anything ps ≡ last_behind last ps
    some_there [] b = absurd b
    some_there (p ∷ ps) b = refl
end_is W last (swap run f x ∷ ss) h t =
    end_is W (token_to (last_to run)) ss h.1 t ∙ ap (λ l. last_behind l (olds ss)) (swap_last run last h.0.begins) ∙ last_more run last (olds ss)
end_is W last (close at d w x ∷ ss) h t = end_is W (token_to w.mark.to) ss h.3 t ∙ last_more (d ∷ w ∷ []) last (olds ss)
end_is W last (weave f run cs us b ∷ ss) h t =
    end_is W b ss h.3 t.2 ∙ ap (λ l. last_behind l (olds ss)) (t.1 ∙ run_last run last t.0.0 t.0.1 t.0.2) ∙ last_more run last (olds ss)

pub end_of_some : (W : Weaving) (last : Behind) (ss : List Step) (p : Placed Span) (ps : Tokens) → Flow W last ss → IsTight ss → olds ss ≡ p ∷ ps → end_of last ss ≡ token_to (last_to (p ∷ ps))
end_of_some W last ss p ps h t e = end_is W last ss h t ∙ ap (last_behind last) e

-- ---- a rewriting of tokens

-- of expressions all runs are tight
abbrev pub TightUnless : (loose : Bool) → List Step → Type 0
TightUnless true ss = Unit {0}
TightUnless false ss = IsTight ss

tight_both : (loose : Bool) (ss ts : List Step) → TightUnless loose ss → TightUnless loose ts → TightUnless loose (ss ++ ts)
tight_both true ss ts h g = tt
tight_both false ss ts h g = tight_append ss ts h g

pub tight_unless : (loose : Bool) (ss : List Step) → IsTight ss → TightUnless loose ss
tight_unless true ss h = tt
tight_unless false ss h = h

-- where steps of expressions begin anything may stand, and of others no space and no tab
abbrev pub start : (loose : Bool) → Behind
start true = no_indent
start false = anything

pub starts_at_end : (W : Weaving) (loose : Bool) (ss : List Step) → Flow W (start loose) ss → Suffices (end_of (start loose) ss) (start loose)
starts_at_end W true ss h = known_end W no_indent ss tt h
starts_at_end W false ss h = tt

-- Steps lead from the tokens by the changes to the new tokens.
pub record Stepped (W : Weaving) (loose : Bool) (ps : Tokens) (cs : List Change) (ts : List Token) : Type 0 where
  pub steps : List Step
  pub olds_are : olds steps ≡ ps
  pub changes_are : changes steps ≡ cs
  pub news_are : news steps ≡ ts
  pub flow : Flow W (start loose) steps
  pub tight : TightUnless loose steps

pub nothing_stepped : {W : Weaving} {loose : Bool} → Stepped W loose [] [] []
nothing_stepped {loose = loose} = record { steps = []; olds_are = refl; changes_are = refl; news_are = refl; flow = tt; tight = tight_unless loose [] tt }

pub joined_stepped : {W : Weaving} {loose : Bool} (ps qs : Tokens) (cs ds : List Change) (ts us : List Token) → Stepped W loose ps cs ts → Stepped W loose qs ds us
    → Stepped W loose (ps ++ qs) (cs ++ ds) (ts ++ us)
joined_stepped {W = W} {loose = loose} ps qs cs ds ts us a b = record {
  steps = a.steps ++ b.steps;
  olds_are = olds-append a.steps b.steps ∙ (λ i. a.olds_are i ++ b.olds_are i);
  changes_are = changes-append a.steps b.steps ∙ (λ i. a.changes_are i ++ b.changes_are i);
  news_are = news-append a.steps b.steps ∙ (λ i. a.news_are i ++ b.news_are i);
  flow = flow_append W (start loose) a.steps b.steps a.flow (flow_from W (end_of (start loose) a.steps) (start loose) b.steps (starts_at_end W loose a.steps a.flow) b.flow);
  tight = tight_both loose a.steps b.steps a.tight b.tight;
}

-- where runs may end elsewhere, tight ones may
pub loosened : {W : Weaving} (ps : Tokens) (cs : List Change) (ts : List Token) → Stepped W false ps cs ts → Stepped W true ps cs ts
loosened {W = W} ps cs ts a = record { steps = a.steps; olds_are = a.olds_are; changes_are = a.changes_are; news_are = a.news_are; flow = flow_from W no_indent anything a.steps tt a.flow; tight = tt }

-- tokens that all stay
stays_all : Tokens → List Step
stays_all [] = []
stays_all (p ∷ ps) = stay p ∷ stays_all ps
