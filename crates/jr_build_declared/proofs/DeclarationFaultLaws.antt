-- Faults of single declarations are the faults of a program.
use Rattle.std.proofs.Common.{◌≡◌, ℕ, ◌≤◌, List, length, map, Option}
use Rattle.std.proofs.lemmas.List.{length-map}
use Rattle.jr_table.specs.Faults.{Place}
use Rattle.jr_table.specs.declared.kinds.DeclKind.TheVariants as kind
use Rattle.jr_build_declared.specs.declared.declarations.DeclaredItem as raw
use Rattle.jr_build_places.specs.Places.{IsEarliest}
use Rattle.jr_table.specs.DeclaredItems.{Item, class_item, field_item, method_item, ctor_item, DeclaredItem}
use Rattle.jr_build_declared.specs.DeclaredView.{declaration_of}
use Rattle.jr_table.specs.Faults.{At, PackageLine, HasFault, InitIsBad}
use Rattle.jr_build_declared.specs.DeclarationFaults.{ReservedAt, BadWordsAt, TwiceClassAt, MemberNamedAt, Among}
use Rattle.jr_build_declared.proofs.Earliest.{same_property, all}

pub past : (xs : List raw.DeclaredItem) (i : ℕ) → length xs ≤ i → length (map declaration_of xs) ≤ i
past xs i h = simp length-map h

module _ (packages : List (Option PackageLine)) (declarations : List DeclaredItem) (n : ℕ) (end : length declarations ≤ n) (r : Option Place) where
  abbrev Anywhere : (ℕ → Item → ℕ → Type 0) → Place → Type 0
  Anywhere Fault p = (i : ℕ) × (item : Item) × At declarations i p.file item × Fault i item p.at

  reserved_to : (p : Place) (i : ℕ) (item : Item) → At declarations i p.file item → ReservedAt item p.at → HasFault packages declarations kind.PreludeName p
  reserved_to p i (class_item d) at (is, e) = (i, d, at, is, e)
  reserved_to p i (field_item f) at h = absurd h
  reserved_to p i (method_item m) at h = absurd h
  reserved_to p i (ctor_item c) at h = absurd h

  pub prelude_names : IsEarliest (Among declarations (λ _. ReservedAt) n) r → IsEarliest (HasFault packages declarations kind.PreludeName) r
  prelude_names h = same_property (Anywhere (λ _. ReservedAt)) (HasFault packages declarations kind.PreludeName)
      (λ p (i, item, at, is). reserved_to p i item at is) (λ p (i, d, at, is, e). (i, class_item d, at, (is, e))) r (all declarations (λ _. ReservedAt) n end r h)

  twice_to : (p : Place) (j : ℕ) (item : Item) → At declarations j p.file item → TwiceClassAt declarations j item p.at → HasFault packages declarations kind.TwiceClass p
  twice_to p j (class_item c) at (e, is) = (j, c, at, e, is)
  twice_to p j (field_item f) at h = absurd h
  twice_to p j (method_item m) at h = absurd h
  twice_to p j (ctor_item c) at h = absurd h

  pub twice_classes : IsEarliest (Among declarations (TwiceClassAt declarations) n) r → IsEarliest (HasFault packages declarations kind.TwiceClass) r
  twice_classes h = same_property (Anywhere (TwiceClassAt declarations)) (HasFault packages declarations kind.TwiceClass)
      (λ p (j, item, at, is). twice_to p j item at is) (λ p (j, c, at, e, is). (j, class_item c, at, (e, is))) r (all declarations (TwiceClassAt declarations) n end r h)

  pub bad_words : IsEarliest (Among declarations (λ _. BadWordsAt) n) r → IsEarliest (HasFault packages declarations kind.BadModifiers) r
  bad_words h = same_property (Anywhere (λ _. BadWordsAt)) (HasFault packages declarations kind.BadModifiers)
      (λ p (i, item, at, (bad, e)). (i, item, at, bad, e)) (λ p (i, item, at, bad, e). (i, item, at, (bad, e))) r (all declarations (λ _. BadWordsAt) n end r h)

  pub bad_inits : IsEarliest (Among declarations (λ _. InitIsBad) n) r → IsEarliest (HasFault packages declarations kind.StaticInit) r
  bad_inits h = all declarations (λ _. InitIsBad) n end r h

  named_to : (p : Place) (i : ℕ) (item : Item) → At declarations i p.file item → MemberNamedAt declarations item p.at → HasFault packages declarations kind.MemberTypeName p
  named_to p i (class_item c) at (e, (j, file, m, there, its)) = (i, j, file, c, m, at, there, its, e)
  named_to p i (field_item f) at h = absurd h
  named_to p i (method_item m) at h = absurd h
  named_to p i (ctor_item c) at h = absurd h

  pub member_names : IsEarliest (Among declarations (λ _. MemberNamedAt declarations) n) r → IsEarliest (HasFault packages declarations kind.MemberTypeName) r
  member_names h = same_property (Anywhere (λ _. MemberNamedAt declarations)) (HasFault packages declarations kind.MemberTypeName)
      (λ p (i, item, at, is). named_to p i item at is) (λ p (i, j, file, c, m, at, there, its, e). (i, class_item c, at, (e, (j, file, m, there, its)))) r (all declarations (λ _. MemberNamedAt declarations) n end r h)
