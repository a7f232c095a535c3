-- What members are told apart by (JLS 8.3, 8.4.2, 8.8.2): exact.
use Rattle.std.specs.Prelude.{
  ◌≡◌,
  ◌<◌,
  ℕ,
  List,
  [],
  ◌∷◌,
  Option,
  Some,
  None,
  Bool,
  ◌&&◌,
  ◌⊎◌,
  nat_eq,
  map,
  option_map,
  option_and_then,
  if◌then◌else◌,
}
use Rattle.std.specs.Option.{option_eq}
use Rattle.std.specs.Cmp.Lexicographic.{pointwise}
use Rattle.std.specs.HashMap.{get_by}
use Rattle.jr_table.specs.Keys.{ClassKey, Ty}
use Rattle.jr_table.specs.SameKeys.{same_class, same_types}
use Rattle.jr_table.specs.DeclaredItems.{
  DeclaredParam,
  Item,
  class_item,
  field_item,
  method_item,
  ctor_item,
  DeclaredItem,
}
use Rattle.jr_table.specs.Faults.{At, SameMember, ParamTwice, params_of, name_at}
use Rattle.jr_build_rows.specs.declared.signatures.Signature as raw
use Rattle.jr_build_rows.specs.declared.signatures.SignatureIndex.{SignatureIndex}
use Rattle.jr_build_hierarchy.specs.Hierarchies.{Hierarchy, meaning}
use Rattle.jr_build_hierarchy.specs.HierarchyView.{meaning_of}
use Rattle.jr_build_declared.specs.DeclaredView.{text_of, declaration_key_of}

-- a member's class, its name and the types of its parameters; a constructor has no name, and a
-- field no parameters
pub record Signature : Type 0 where
  pub of : ClassKey
  pub name : Option (List ℕ)
  pub params : Option (List Ty)

abbrev pub same_signature : Signature → Signature → Bool
same_signature s t = same_class s.of t.of && (option_eq (pointwise nat_eq) s.name t.name
    && option_eq same_types s.params t.params)

-- the signature that a Rust value stands for
abbrev pub signature_view : raw.Signature → Signature
signature_view s = record {
  of = declaration_key_of s.of;
  name = option_map text_of s.name;
  params = option_map (λ v. map meaning_of v.items) s.params;
}

-- the number under the signature, if there is one
abbrev pub number_under : SignatureIndex → raw.Signature → Option ℕ
number_under t s =
    get_by (λ x. same_signature (signature_view s) (signature_view x)) t.numbers

-- new has this number under the signature, if there is one, and the others as they were
abbrev pub PutsSignature : SignatureIndex → Option raw.Signature → ℕ → SignatureIndex → Type 0
PutsSignature old None number new = (s : raw.Signature) → number_under new s ≡ number_under old s
PutsSignature old (Some own) number new = (s : raw.Signature) → number_under new s
    ≡ (if same_signature (signature_view own) (signature_view s) then Some number
    else number_under old s)

module _ (h : Hierarchy) where
  -- what the types of parameters mean, if each means something
  abbrev pub meanings : ClassKey → List DeclaredParam → Option (List Ty)
  meanings k [] = Some []
  meanings k (p ∷ ps) =
      option_and_then (λ t. option_map (λ ts. t ∷ ts) (meanings k ps)) (meaning h k p.type)

  abbrev pub signature_of : Item → Option Signature
  signature_of (class_item c) = None
  signature_of (field_item f) = Some (record { of = f.of; name = Some f.name; params = None })
  signature_of (method_item m) =
      option_map (λ ts. record { of = m.of; name = Some m.name; params = Some ts })
      (meanings m.of m.params)
  signature_of (ctor_item c) =
      option_map (λ ts. record {
        of = c.of;
        name = None;
        params =
            Some ts;
      }) (meanings c.of c.params)

-- an earlier declaration declares what the item does
abbrev pub HasEarlierMember : List DeclaredItem → ℕ → Item → Type 0
HasEarlierMember declarations j m = (i : ℕ) × (file : ℕ) × (l : Item) × (i < j) × At declarations i file l
    × SameMember declarations l m

-- an item is declared twice, or a parameter is, and the second stands there
abbrev pub TwiceMemberAt : List DeclaredItem → ℕ → Item → ℕ → Type 0
TwiceMemberAt declarations j m at = (HasEarlierMember declarations j m × (at ≡ name_at m))
    ⊎ ParamTwice (params_of m) at

-- where an item is at fault of which another was under its signature before, or wasn't
abbrev pub member_twice : Item → Option ℕ → Option ℕ
member_twice m before = option_map (λ i. name_at m) before
