use Rattle.jr_table.specs.BindingLaws.{IsBound, AreBound}
use Rattle.jr_table.proofs.Typing.{typed, named}
use Rattle.jr_table.proofs.ReferenceLaws.{field_finds, super_field_finds, call_finds, super_call_finds, creation_finds}
use Rattle.jr_table.proofs.binding_laws.types_are_exact.Goals as goal

bound : (A : Type 0) → AreBound A
bound A rows fit found c = record {
  types = λ e t. typed rows fit found c e t;
  names = λ e k. named rows fit found c e k;
  fields = λ e name. field_finds rows fit found c e name;
  super_fields = λ name. super_field_finds rows fit found c name;
  calls = λ to name args. call_finds rows fit found c to name args;
  super_calls = λ name args. super_call_finds rows fit found c name args;
  creations = λ of args. creation_finds rows fit found c of args;
}

pub returns : goal.returns
returns g c = record { bound = bound _ }
