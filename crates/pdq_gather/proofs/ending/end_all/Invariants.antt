use Rattle.pdq_gather.proofs.ending.end_all.Given as goal

abbrev pub ghosts-end_folders : goal.ghosts-end_folders
ghosts-end_folders g a = record { name = a.blank.name; parts = a.blank.parts }
