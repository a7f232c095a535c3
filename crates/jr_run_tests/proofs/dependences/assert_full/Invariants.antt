use Rattle.jr_run_tests.proofs.dependences.assert_full.Given as goal

abbrev pub ghosts-full_of_both : goal.ghosts-full_of_both
ghosts-full_of_both g a = record { name = a.blank.name; parts = a.blank.parts }
