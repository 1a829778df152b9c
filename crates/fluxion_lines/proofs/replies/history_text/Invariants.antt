use Rattle.fluxion_lines.proofs.replies.history_text.Given as goal

abbrev pub ghosts-history_text_counted : goal.ghosts-history_text_counted
ghosts-history_text_counted a = record { name = a.blank.name; parts = a.blank.parts }
