use Rattle.std.proofs.Common.{◌≡◌, ◌∙◌, Option, Some, ap, sym, subst, refl}
use Rattle.std.specs.Prelude.{option_and_then}
use Rattle.jr_table.specs.SameKeys.{same_ty}
use Rattle.jr_build_hierarchy.specs.contracts.meanings.MeaningPartialEq.TheImpl as meaning_impl
use Rattle.jr_build_rows.specs.contracts.signatures.SignaturePartialEq.TheImpl as signature_impl
use Rattle.jr_build_hierarchy.specs.declared.meanings.Meaning as raw_meaning
use Rattle.jr_build_hierarchy.specs.declared.meanings.Meaning.TheVariants as case
use Rattle.jr_build_rows.specs.declared.signatures.Signature as raw
use Rattle.jr_build_hierarchy.specs.HierarchyView.{meaning_of}
use Rattle.jr_build_rows.specs.Signatures.{number_under, PutsSignature, signature_view, same_signature}
use Rattle.jr_build_declared.proofs.KeyLaws.{key_tests}
use Rattle.jr_build_rows.proofs.SignatureLaws.{signature_tests, found_is, puts}
use Rattle.jr_build_rows.proofs.signatures.SignatureIndex.put.Goals as goal

meaning_tests : (x y : raw_meaning.Meaning) → (meaning_impl.eq-value).it x y ≡ same_ty (meaning_of x) (meaning_of y)
meaning_tests case.Int case.Int = refl
meaning_tests case.Int case.Boolean = refl
meaning_tests case.Int (case.Class k) = refl
meaning_tests case.Boolean case.Int = refl
meaning_tests case.Boolean case.Boolean = refl
meaning_tests case.Boolean (case.Class k) = refl
meaning_tests (case.Class j) case.Int = refl
meaning_tests (case.Class j) case.Boolean = refl
meaning_tests (case.Class j) (case.Class k) = key_tests _ (λ x y. refl) j k

tests : (x y : raw.Signature) → (signature_impl.eq-value).it x y ≡ same_signature (signature_view x) (signature_view y)
tests = signature_tests _ (key_tests _ (λ x y. refl)) _ (λ x y. refl) (meaning_impl.eq-value).it meaning_tests

pub returns : goal.returns
returns c = record {
  before = c.in_ok-before.ensures.old
      ∙ found_is (signature_impl.eq-value).it tests c.args.self.now.numbers c.in-Some.signature
      ∙ sym (ap (option_and_then (number_under c.args.self.now)) c.in-Some.is);
  put = subst (λ o. PutsSignature c.args.self.now o c.args.number (record { numbers = c.insert.new.self })) (sym c.in-Some.is)
      (λ s. puts (signature_impl.eq-value).it tests c.in-Some.signature c.args.self.now.numbers c.insert.new.self (Some c.args.number) c.in_ok-before.ensures.updates s);
}
