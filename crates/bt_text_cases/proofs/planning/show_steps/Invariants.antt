use Rattle.bt_text_cases.proofs.planning.show_steps.Given as goal

-- the counter's ledger is the new one
abbrev pub ghosts-put_crossed : goal.ghosts-put_crossed
ghosts-put_crossed a = record { name = a.blank.name; parts = a.blank.parts }
