use Rattle.std.proofs.Common.{◌≡◌, ◌<◌, ◌∷◌, ◌++◌, [], List, ℕ, codes, length, get_or, refl, sym, ◌∙◌}
use Rattle.std.proofs.lemmas.Option.{slice_get_read, get_or_from_slice_get}
use Rattle.std.proofs.lemmas.Result.{on_ok_weaker}
use Rattle.jr_dependence_lines.specs.Tallies.{told}
use Rattle.jr_dependence_lines.proofs.Counting.{puts_as}
use Rattle.jr_dependence_lines.proofs.member_lines.put_line.Goals as goal

pub returns : goal.returns
returns c =
    let places = c.args.texts.now.places.now in
    let d = c.args.dependence.now in
    let at : (n : ℕ) (x : List ℕ) → x ≡ get_or places n x → n < length places → get_or places n [] ≡ x = λ n x is lt. get_or_from_slice_get places n x [] (slice_get_read places (length places) n x refl lt is) in
    let first = at d.first c.index-texts-dependence.result c.index-texts-dependence.is c.requires.first in
    let second = at d.second c.index-texts-dependence-2.result c.index-texts-dependence-2.is c.requires.second in
    on_ok_weaker c.put.result
    (λ h. puts_as c.args.tally.now c.put.new.tally _ (told c.args.texts.now.head.now places d ∷ [])
    (λ i. (c.args.texts.now.head.now ++ codes " " ++ c.kind_name.ensures i ++ codes " " ++ (c.as_str.ensures ∙ sym c.index-texts-dependence.is ∙ sym first) i ++ codes " " ++ (c.as_str-2.ensures ∙ sym c.index-texts-dependence-2.is ∙ sym second) i) ∷ []) h)
    c.put.ensures
