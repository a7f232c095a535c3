-- From what `clap` promises of the words of a run to their arguments.
use Rattle.std.proofs.Common.{◌≡◌, ◌∙◌, ◌<◌, ◌⊎◌, ℕ, refl, sym, ap, ap₂, subst, List, [], ◌∷◌, length, Option, Some, codes, option_map, arith}
use Rattle.std.specs.List.{AllByRecursion}
use Rattle.clap.specs.Walk.{Text, all_of, first_of, rows_of}
use Rattle.clap.specs.Matches.{first_value, matched_of, raw_values}
use Rattle.clap.specs.Simple.{App, matches_of}
use Rattle.clap.specs.Faults.{fault_of}
use Rattle.clap.specs.Kinds.{IsAmong, Kinds}
use Rattle.clap.specs.declared.error.kind.ErrorKind.{ErrorKind}
use Rattle.clap.specs.declared.parser.matches.Found.{Found}
use Rattle.clap.proofs.WalkLemmas.{first_value-rows, raw_values-rows}
use Rattle.jr_words.specs.Asked.{FindsArguments, HaveTexts, run_app}
use Rattle.jr_words.specs.Words.{AreWords, IsPlain, out_word}
use Rattle.jr_words.proofs.Reading.{AreSuch, dir_found, operands_found, reads, starts, starts_rows, taken, missing}

such : (words rest : List Text) → words ≡ codes "run" ∷ rest → AreWords words → AreSuch rest
such words rest begins are = (subst AreSuch begins are.each).1

pub found : (words rest : List Text) → words ≡ codes "run" ∷ rest → AreWords words → (a : App) → a ≡ run_app → (f : Found)
    → rows_of f ≡ matches_of a words → fault_of a words ≡ [] → FindsArguments words f
found words rest begins are a is f rows clean =
    let clean' = sym (starts (codes "run") rest) ∙ sym (ap₂ fault_of is begins) ∙ clean in
    let got = taken rest (such words rest begins are) clean' in
    let has = (reads rest got.out got.texts got.have).has in
    let rows' = rows ∙ ap₂ matches_of is begins ∙ starts_rows (codes "run") rest in
    let out_is : first_value f (codes "out") ≡ got.out =
    first_value-rows f (codes "out") ∙ ap (first_of (codes "out")) rows' ∙ dir_found _ got.out got.texts has in
    let texts_are : option_map raw_values (matched_of f (codes "operands")) ≡ Some got.texts =
    raw_values-rows f (codes "operands") ∙ ap (all_of (codes "operands")) rows' ∙ operands_found _ got.out got.texts has got.some in
    (rest, begins, got.texts, texts_are, got.some, subst (λ o. HaveTexts rest o got.texts) (sym out_is) got.have)

no_missing : (texts : List Text) → 0 < length texts → missing texts ≡ []
no_missing [] some = absurd (omega (arith, some))
no_missing (t ∷ ts) some = refl

pub unfound : (words rest : List Text) → words ≡ codes "run" ∷ rest → (a : App) → a ≡ run_app → (kind : ErrorKind) → IsAmong kind (fault_of a words)
    → (out : Option Text) (texts : List Text) → 0 < length texts → HaveTexts rest out texts → ⊥
unfound words rest begins a is kind among out texts some have =
    let clean : fault_of a words ≡ [] = ap₂ fault_of is begins ∙ starts (codes "run") rest ∙ (reads rest out texts have).fault ∙ no_missing texts some in
    subst (IsAmong kind) clean among
