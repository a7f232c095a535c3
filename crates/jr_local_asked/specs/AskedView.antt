-- The pure local that one of the calls stands for.
use Rattle.jr_table.specs.KeyView.{local_key_of}
use Rattle.jr_local_asked.specs.declared.asked.AskedLocal as raw
use Rattle.jr_local_asked.specs.Asking.{AskedLocal}
use Rattle.jr_local_asked.specs.DeclaredView.{declared_of}

abbrev pub asked_of : raw.AskedLocal → AskedLocal
asked_of x = record { key = local_key_of x.key; declared = declared_of x.declared }
