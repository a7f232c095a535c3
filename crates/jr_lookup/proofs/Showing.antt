-- What is found by numbers and shown is what the relation by keys holds of.
use Rattle.std.proofs.Common.{◌≡◌, List, Option, Some, None, sym, ap, ◌∙◌}
use Rattle.std.specs.Prelude.{Result}
use Rattle.std.specs.Result.{IfOk}
use Rattle.std.proofs.lemmas.Result.{IfOk-weaker}
use Rattle.jr_table.specs.declared.answers.Answer.{Answer}
use Rattle.jr_table.specs.declared.found.Found as raw
use Rattle.jr_table.specs.Rows.{Row}
use Rattle.jr_table.specs.Decls.{LocalKey, local_decl}
use Rattle.jr_table.specs.Found.{Found, one}
use Rattle.jr_table.specs.FoundView.{found_of}
use Rattle.jr_table.specs.Lookup.{shown, local_or}
use Rattle.jr_table.specs.LookupLaws.{Decided}

pub shows : {E : Type 0} (r : Result raw.Found E) (rows : List Row) (a : Answer) (find : Found) (Finds : Found → Type 0) → Decided find Finds → find ≡ shown rows a → IfOk r (λ f. found_of f ≡ shown rows a) → IfOk r (λ f. Finds (found_of f))
shows r rows a find Finds exact is found = IfOk-weaker r (λ f. found_of f ≡ shown rows a) (λ f. Finds (found_of f)) (λ f e. (exact (found_of f)).0 (is ∙ sym e)) found

-- a local of the name is found before any field
pub shows_local : {E : Type 0} (r : Result raw.Found E) (rows : List Row) (a : Answer) (find : Found) (o : Option LocalKey) (k : LocalKey) (Finds : Found → Type 0) → Decided find Finds → find ≡ local_or rows a o → o ≡ Some k → IfOk r (λ f. found_of f ≡ one (local_decl k)) → IfOk r (λ f. Finds (found_of f))
shows_local r rows a find o k Finds exact is some found = IfOk-weaker r (λ f. found_of f ≡ one (local_decl k)) (λ f. Finds (found_of f)) (λ f e. (exact (found_of f)).0 (is ∙ ap (local_or rows a) some ∙ sym e)) found

-- where no local has the name, the field is found
pub shows_field : {E : Type 0} (r : Result raw.Found E) (rows : List Row) (a : Answer) (find : Found) (o : Option LocalKey) (Finds : Found → Type 0) → Decided find Finds → find ≡ local_or rows a o → o ≡ None → IfOk r (λ f. found_of f ≡ shown rows a) → IfOk r (λ f. Finds (found_of f))
shows_field r rows a find o Finds exact is none found = shows r rows a find Finds exact (is ∙ ap (local_or rows a) none) found
