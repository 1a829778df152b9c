use Rattle.load_script.proofs.counts.counts_text.Given as goal

abbrev pub ghosts-counts_text_counted : goal.ghosts-counts_text_counted
ghosts-counts_text_counted a = record { name = a.blank.name; parts = a.blank.parts }
