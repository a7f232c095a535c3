-- The pure references and spellings that Rust values stand for.
use Rattle.std.specs.Prelude.{option_map}
use Rattle.jr_table.specs.TypeView.{class_key_of, ty_of}
use Rattle.jr_spell.specs.declared.references.Operand as raw_operand
use Rattle.jr_spell.specs.declared.references.Reference as raw_reference
use Rattle.jr_spell.specs.declared.spellings.Spelling as raw_spelling
use Rattle.jr_spell.specs.References.{Operand, Reference}
use Rattle.jr_spell.specs.Taken.{Spelling}

abbrev pub operand_of : raw_operand.Operand → Operand
operand_of e = record { ty = ty_of e.ty; text = e.text }

abbrev pub reference_of : raw_reference.Reference → Reference
reference_of r = record {
  form = r.form;
  asked = r.asked;
  operand = option_map operand_of r.operand;
  front = option_map class_key_of r.front;
  args = r.args;
}

abbrev pub spelling_of : raw_spelling.Spelling → Spelling
spelling_of s = record { text = s.text; is_asked = s.is_asked }
