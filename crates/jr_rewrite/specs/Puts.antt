-- What is put for a word, in text order: the parts of its changes.
use Rattle.std.specs.Prelude.{
  ◌≡◌,
  ℕ,
  List,
  [],
  ◌∷◌,
  ◌++◌,
  Bool,
  true,
  false,
  if◌then◌else◌,
}
use Rattle.jr_text.specs.declared.spans.Span.{Span}
use Rattle.jr_rewrite.specs.Respellings.{
  Front,
  same,
  alone,
  by_class,
  by_cast,
  Respelling,
  becomes,
  cast_text,
  front_text,
  Change,
}
use Rattle.jr_rewrite.specs.Rewritten.{
  from_to,
  before,
  behind_to,
  change,
  drops_operand,
  dotted_changes,
  super_changes,
  qualified_changes,
}

-- ---- of a word behind e and a dot

abbrev pub is_cast : Front → Bool
is_cast (by_cast k) = true
is_cast _ = false

-- what is put in front of what changes in e
abbrev pub before_changes : Front → (e : Span) → List Change
before_changes (by_cast k) e = change (before e) (cast_text k) ∷ []
before_changes _ e = []

-- and behind that
abbrev pub behind_changes : Respelling → (e word : Span) → List Change
behind_changes r e word =
    if is_cast r.front then change (behind_to e word) (front_text r.front ++ r.text) ∷ []
    else (if drops_operand r.front then change (from_to e word) (front_text r.front ++ r.text) ∷ []
    else change word r.text ∷ [])

-- the two, with what changes in e between them where e doesn't go, are all
abbrev pub DottedIsParts : Type 0
DottedIsParts =
    (r : Respelling) (e word : Span) (inside : List Change)
    → dotted_changes (becomes r) e word inside
    ≡ before_changes r.front e
    ++ ((if drops_operand r.front then [] else inside) ++ behind_changes r e word)

-- ---- of a word behind `super`, in a node

abbrev pub is_same : Front → Bool
is_same same = true
is_same _ = false

abbrev pub super_parts : Respelling → (node word : Span) → List Change
super_parts r node word =
    if is_same r.front then change word r.text ∷ []
    else change (from_to node word) (front_text r.front ++ r.text) ∷ []

abbrev pub SuperIsParts : Type 0
SuperIsParts =
    (r : Respelling) (node word : Span)
    → super_changes (becomes r) node word ≡ super_parts r node word

-- ---- of a class as a type, behind the name of the class that it is a member of

abbrev pub drops_class : Front → Bool
drops_class alone = true
drops_class (by_class k) = true
drops_class _ = false

abbrev pub class_changes : Respelling → (outer word : Span) → List Change
class_changes r outer word =
    if drops_class r.front then change (from_to outer word) (front_text r.front ++ r.text) ∷ []
    else change word r.text ∷ []

abbrev pub QualifiedIsParts : {A : Type 0} → (A → ℕ → Span) → Type 0
QualifiedIsParts tells =
    (r : Respelling) (outer word : Span) (inside : List Change)
    → qualified_changes tells (becomes r) outer word inside
    ≡ (if drops_class r.front then [] else inside) ++ class_changes r outer word
