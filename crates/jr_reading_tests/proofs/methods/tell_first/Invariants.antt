use Rattle.jr_reading_tests.proofs.methods.tell_first.Given as goal

abbrev pub ghosts-bind_key : goal.ghosts-bind_key
ghosts-bind_key g a = record { name = a.blank.name; parts = a.blank.parts }
