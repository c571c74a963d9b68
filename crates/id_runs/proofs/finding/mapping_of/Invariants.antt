use Rattle.id_runs.proofs.finding.mapping_of.Given as goal

abbrev pub ghosts-count_mapping : goal.ghosts-count_mapping
ghosts-count_mapping a = record { name = a.blank.name; parts = a.blank.parts }
