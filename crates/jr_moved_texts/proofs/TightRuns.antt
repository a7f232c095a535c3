-- A run of statements whose spots are expressions alone: it may begin anywhere, also in its indent.
use Rattle.std.proofs.Common.{◌≡◌, ℕ, true, List, [], ◌∷◌, ◌++◌, sym, subst}
use Rattle.jr_text.specs.declared.spans.Span.{Span}
use Rattle.jr_grammar.specs.Tokens.{Token, Placed}
use Rattle.jr_grammar.specs.Stands.{Tokens, last_to}
use Rattle.jr_rewrite.specs.Respellings.{Change}
use Rattle.jr_rewrite.specs.Woven.{Fronts, Behind, anything, no_indent, token_to, WovenFrom, Weaving, Weaves}
use Rattle.jr_rewrite.proofs.Steps.{Step, stay, cast, swap, close, weave, olds, changes, end_of, IsKnown, Suffices, Flow, known_end, Stepped}
use Rattle.jr_rewrite.proofs.Woven.{steps_weave}
use Rattle.jr_rewrite.proofs.SpotWeaving.{woven_so}

-- each run begins anywhere
abbrev pub from_anything : Weaving → Weaving
from_anything W from run cs ts to = (from ≡ anything) × W from run cs ts to

rest_flow : (W : Weaving) (last : Behind) (ss : List Step) → Flow (from_anything W) last ss → Flow W last ss
rest_flow W last [] h = tt
rest_flow W last (stay p ∷ ss) h = rest_flow W (token_to p.mark.to) ss h
rest_flow W last (cast k at ∷ ss) h = (h.0, h.1, rest_flow W anything ss h.2)
rest_flow W last (swap run f x ∷ ss) h = (h.0, rest_flow W (token_to (last_to run)) ss h.1)
rest_flow W last (close at d w x ∷ ss) h = (h.0, h.1, h.2, rest_flow W (token_to w.mark.to) ss h.3)
rest_flow W last (weave f run cs us b ∷ ss) h = (h.0, h.1, h.2.1, rest_flow W b ss h.3)

first_flow : (W : Weaving) (ss : List Step) → Flow (from_anything W) no_indent ss → Flow W anything ss
first_flow W [] h = tt
first_flow W (stay p ∷ ss) h = rest_flow W (token_to p.mark.to) ss h
first_flow W (cast k at ∷ ss) h = (h.0, h.1, rest_flow W anything ss h.2)
first_flow W (swap run f x ∷ ss) h = (h.0, rest_flow W (token_to (last_to run)) ss h.1)
first_flow W (close at d w x ∷ ss) h = absurd (apart at h.0)
  where
    apart : (n : ℕ) → no_indent ≡ token_to n → ⊥
    apart n e = cc
first_flow W (weave f run cs us b ∷ ss) h = (subst (Suffices anything) (sym h.2.0) tt, h.1, h.2.1, rest_flow W b ss h.3)

no_olds : (p : Placed Span) (ps : Tokens) → (let none : Tokens = [] in none ≡ p ∷ ps) → ⊥
no_olds p ps e = cc

known_there : (W : Weaving) (ss : List Step) (p : Placed Span) (ps : Tokens) → olds ss ≡ p ∷ ps → Flow W no_indent ss → IsKnown (end_of anything ss)
known_there W [] p ps e h = absurd (no_olds p ps e)
known_there W (stay q ∷ ss) p ps e h = known_end W no_indent (stay q ∷ ss) tt h
known_there W (cast k at ∷ ss) p ps e h = known_end W no_indent (cast k at ∷ ss) tt h
known_there W (swap run f x ∷ ss) p ps e h = known_end W no_indent (swap run f x ∷ ss) tt h
known_there W (close at d w x ∷ ss) p ps e h = known_end W no_indent (close at d w x ∷ ss) tt h
known_there W (weave f run cs us b ∷ ss) p ps e h = known_end W no_indent (weave f run cs us b ∷ ss) tt h

pub run_weaves : (F : Fronts) (bytes : List ℕ) (p : Placed Span) (ps : Tokens) (cs : List Change) (ts : List Token) → Stepped (from_anything (Weaves F bytes)) true (p ∷ ps) cs ts → Weaves F bytes anything (p ∷ ps) cs ts no_indent
run_weaves F bytes p ps cs ts s more ds us w =
    subst (λ x. WovenFrom F bytes (x ++ more) anything (cs ++ ds) (ts ++ us)) s.olds_are
    (subst (λ x. WovenFrom F bytes (olds s.steps ++ more) anything (x ++ ds) (ts ++ us)) s.changes_are
    (subst (λ x. WovenFrom F bytes (olds s.steps ++ more) anything (changes s.steps ++ ds) (x ++ us)) s.news_are
    (steps_weave F bytes s.steps anything more ds us (first_flow (Weaves F bytes) s.steps s.flow)
    (woven_so (end_of anything s.steps) no_indent (known_there (from_anything (Weaves F bytes)) s.steps p ps s.olds_are s.flow) w))))
