-- What binding knows of a member, from its Rust value.
use Rattle.std.specs.Prelude.{List, map}
use Rattle.jr_table.specs.KeyView.{member_key_of, decl_of}
use Rattle.jr_table.specs.declared.decls.MemberKey.{MemberKey}
use Rattle.jr_expr_types.specs.Slots.{Slot}
use Rattle.jr_bind.specs.declared.errors.BindError.{BindError}
use Rattle.jr_bind.specs.declared.bounds.Reference as raw
use Rattle.jr_bind.specs.ErrorView.{error_of}
use Rattle.jr_bind.specs.Bounds.{Reference, Bound}

abbrev pub reference_of : raw.Reference → Reference
reference_of r = record { at = r.at; decl = decl_of r.decl.value }

abbrev pub bound_of : MemberKey → List raw.Reference → List BindError → List Slot → Bound
bound_of member references errors slots = record {
  member = member_key_of member;
  references = map reference_of references;
  errors = map error_of errors;
  types = slots;
}
