use Rattle.jr_reading_tests.proofs.members.a_method_is_bound.Given as goal

abbrev pub ghosts-bound_told : goal.ghosts-bound_told
ghosts-bound_told g a = record { name = a.blank.name; parts = a.blank.parts }
