use Rattle.bg_states.proofs.last_lines.+put_lines.Given as goal

abbrev pub decreases-put_lines : goal.decreases-put_lines
decreases-put_lines l = l.count
