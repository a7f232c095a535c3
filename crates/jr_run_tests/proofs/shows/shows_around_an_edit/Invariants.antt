use Rattle.jr_run_tests.proofs.shows.shows_around_an_edit.Given as goal

abbrev pub ghosts-around_an_edit : goal.ghosts-around_an_edit
ghosts-around_an_edit g a = record { name = a.blank.name; parts = a.blank.parts }
