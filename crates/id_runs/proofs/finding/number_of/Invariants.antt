use Rattle.id_runs.proofs.finding.number_of.Given as goal

abbrev pub ghosts-count_number : goal.ghosts-count_number
ghosts-count_number a = record { name = a.blank.name; parts = a.blank.parts }
