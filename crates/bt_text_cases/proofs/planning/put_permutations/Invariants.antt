use Rattle.bt_text_cases.proofs.planning.put_permutations.Given as goal

-- the counter's ledger is the new one
abbrev pub ghosts-put_counted : goal.ghosts-put_counted
ghosts-put_counted a = record { name = a.blank.name; parts = a.blank.parts }
