use Rattle.std.proofs.Common.{◌≡◌, subst, inl, inr}
use Rattle.std.proofs.lemmas.Result.{IfOk-weaker}
use Rattle.jr_table.specs.Found.{nothing}
use Rattle.jr_table.specs.FoundView.{found_of}
use Rattle.jr_table.specs.Lookup.{FindsTypeNamed, FindsVariable}
use Rattle.jr_new_words.specs.Scopes.{place_to, rows_to}
use Rattle.jr_new_words.proofs.Founds.{not_nothing, nothing_is, something_is}
use Rattle.jr_new_words.proofs.Kept.{moved}
use Rattle.jr_new_words.proofs.classes.left_found.Goals as goal

pub returns-in-None : goal.returns-in-None
returns-in-None c =
    let s = c.args.scopes.now in
    let name = c.args.name.now in
    let f = found_of c.in_ok-hiding.hiding in
    let free = subst (λ f. FindsVariable (rows_to s) (place_to s) name f) (nothing_is f c.in-None.ensures) c.in_ok-hiding.ensures in
    IfOk-weaker c.type_named.result _ _ (λ t h. inr (free, moved s c.requires (λ rows x. FindsTypeNamed rows x name (found_of t)) h)) c.type_named.ensures

pub returns-in-Some : goal.returns-in-Some
returns-in-Some c =
    let s = c.args.scopes.now in
    let name = c.args.name.now in
    let f = found_of c.in_ok-hiding.hiding in
    let is = something_is f (found_of c.in-Some.hiding) c.in-Some.ensures in
    let no = not_nothing f (found_of c.in-Some.hiding) c.in-Some.ensures in
    inl (subst (λ f. FindsVariable (rows_to s) (place_to s) name f × (f ≡ nothing → ⊥)) is (c.in_ok-hiding.ensures, no))
