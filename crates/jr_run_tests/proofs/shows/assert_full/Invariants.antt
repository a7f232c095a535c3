use Rattle.jr_run_tests.proofs.shows.assert_full.Given as goal

abbrev pub ghosts-shown_often : goal.ghosts-shown_often
ghosts-shown_often g a = record { name = a.blank.name; parts = a.blank.parts }
