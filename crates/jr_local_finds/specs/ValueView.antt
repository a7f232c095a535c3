-- The pure values that those of the calls stand for.
use Rattle.jr_table.specs.TypeView.{ty_of}
use Rattle.jr_piece_search.specs.StatementView.{found_of}
use Rattle.jr_bodies.specs.CodeView.{code_of}
use Rattle.jr_local_finds.specs.declared.values.Value as raw
use Rattle.jr_local_finds.specs.declared.selecting.SelectedValue as raw_selected
use Rattle.jr_local_finds.specs.SoughtValues.{Value}
use Rattle.jr_local_finds.specs.Chosen.{Chosen}

abbrev pub value_of : raw.Value → Value
value_of x =
    record { found = found_of x.found; path = x.path.steps.items; type = ty_of x.ty.now }

abbrev pub chosen_of : raw_selected.SelectedValue → Chosen
chosen_of x =
    record { member = x.member; code = code_of x.code; value = value_of x.value }
