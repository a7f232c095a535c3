-- The spot of the expression, at which the name is put.
use Rattle.std.proofs.Common.{◌≡◌, ℕ, List, [], ◌∷◌, true, false, Bool, refl, ap, ◌∙◌}
use Rattle.std.specs.Prelude.{nat_le, if◌then◌else◌}
use Rattle.jr_text.specs.declared.spans.Span.{Span}
use Rattle.jr_grammar.specs.Tokens.{word}
use Rattle.jr_moved_texts.specs.Spaces.{spaced}
use Rattle.jr_bind.specs.Programs.{Program}
use Rattle.jr_new_bodies.specs.Spotting.{PartSpot}
use Rattle.jr_extract_lists.specs.declared.targets.Target as raw
use Rattle.jr_extract_lists.specs.Targets.{IsTarget}
use Rattle.jr_extract_lists.specs.Walked.{PutsName}
use Rattle.jr_extract_lists.proofs.Walking.{value_mark}

-- however tightly what stands there binds
one_text : (b : Bool) (text : List ℕ) → (if b then text else text) ≡ text
one_text true text = refl
one_text false text = refl

-- a spot at the expression with one text
pub puts_name : (p : Program Span) (t : raw.Target) (x : IsTarget p t) (one : PartSpot) (text : List ℕ) → one.at ≡ t.value.now.mark → one.bare ≡ text → one.grouped ≡ text → one.respelled ≡ 0
    → text ≡ spaced t.items.now t.value.now.mark (word t.request.name.now ∷ []) t.request.name.now → PutsName x (one ∷ [])
puts_name p t x one text at bare grouped count is = record {
  one = one;
  is = refl;
  at = at ∙ value_mark p t x;
  text = λ least. (λ i. if nat_le least one.binds then bare i else grouped i) ∙ one_text (nat_le least one.binds) text ∙ is ∙ ap (λ (m : Span). spaced t.items.now m (word t.request.name.now ∷ []) t.request.name.now) (value_mark p t x);
  count = count;
}
