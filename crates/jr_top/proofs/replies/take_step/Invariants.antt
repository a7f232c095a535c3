use Rattle.jr_top.proofs.replies.take_step.Given as goal

abbrev pub ghosts-take_one : goal.ghosts-take_one
ghosts-take_one a = record { name = a.blank.name; parts = a.blank.parts }
