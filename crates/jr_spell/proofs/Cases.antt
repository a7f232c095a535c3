-- The table, the texts and the words, on small examples.
use Rattle.std.proofs.Common.{◌≡◌, ℕ, List, [], ◌∷◌, Some, None, refl}
use Rattle.std.specs.Prelude.{codes}
use Rattle.jr_table.specs.Keys.{ClassKey, class}
use Rattle.jr_table.specs.Decls.{Decl, class_decl, field_decl}
use Rattle.jr_table.specs.Prelude.{top_key}
use Rattle.jr_spell.specs.declared.references.RefForm.TheVariants as ref
use Rattle.jr_spell.specs.declared.spellings.Form.TheVariants.{Asked, OnThis, OnSuper, OnCastThis, OnCastOperand, OnClass, OnOuterClass, Class, OuterClass, ClassInFront, OuterClassInFront}
use Rattle.jr_spell.specs.References.{Reference}
use Rattle.jr_spell.specs.Spellings.{forms, text_of}
use Rattle.jr_spell.specs.Binds.{front_word, last_word}

abbrev member_class : (outer name : List ℕ) → ClassKey
member_class outer name = record { outer = Some outer; name = name }

-- the field t of the member class I of O, and that class
abbrev t : Decl
t = field_decl (record { class = member_class (codes "O") (codes "I"); name = codes "t" })

abbrev i : Decl
i = class_decl (member_class (codes "O") (codes "I"))

-- `e.t`, with e of class D
abbrev on_e : Reference
on_e = record {
  form = ref.FieldOn;
  asked = codes "e.t";
  operand = Some (record { ty = class (top_key (codes "D")); text = codes "e" });
  front = None;
  args = [];
}

by_this : text_of on_e t OnThis ≡ codes "this.t"
by_this = refl

by_super : text_of on_e t OnSuper ≡ codes "super.t"
by_super = refl

by_cast_of_this : text_of on_e t OnCastThis ≡ codes "((I) this).t"
by_cast_of_this = refl

by_cast : text_of on_e t OnCastOperand ≡ codes "((I) e).t"
by_cast = refl

by_class : text_of on_e t OnClass ≡ codes "I.t"
by_class = refl

by_outer_class : text_of on_e t OnOuterClass ≡ codes "O.I.t"
by_outer_class = refl

as_class : text_of on_e i Class ≡ codes "I"
as_class = refl

as_outer_class : text_of on_e i OuterClass ≡ codes "O.I"
as_outer_class = refl

in_front : text_of on_e i ClassInFront ≡ codes "I"
in_front = refl

as_outer_in_front : text_of on_e i OuterClassInFront ≡ codes "O.I"
as_outer_in_front = refl

as_asked : text_of on_e t Asked ≡ codes "e.t"
as_asked = refl

-- rows of the table
fields_on : forms ref.FieldOn t ≡ Asked ∷ OnCastOperand ∷ []
fields_on = refl

no_method_as_a_field : forms ref.MethodOn t ≡ []
no_method_as_a_field = refl

classes : forms ref.ClassName i ≡ Asked ∷ Class ∷ OuterClass ∷ []
classes = refl

classes_in_front : forms ref.ClassInFront i ≡ Asked ∷ ClassInFront ∷ OuterClassInFront ∷ []
classes_in_front = refl

-- words
front_of_two : front_word (codes "O.I") ≡ Some (codes "O")
front_of_two = refl

last_of_two : last_word (codes "O.I") ≡ codes "I"
last_of_two = refl

front_of_one : front_word (codes "I") ≡ None
front_of_one = refl

last_of_one : last_word (codes "I") ≡ codes "I"
last_of_one = refl
