-- What a session tells of its lines.
use Rattle.std.specs.Prelude.{ℕ, List, [], ◌∷◌, codes}
use Rattle.bt_text.specs.Text.{ended}
use Rattle.bt_script.specs.declared.sites.Sites.{Sites}
use Rattle.bt_script.specs.declared.sites.Sites.TheVariants.{Together, Apart}

-- the lines that a session of a simulated air has, and what each does
abbrev pub help_lines : List (List ℕ)
help_lines =
    codes "round: a block of lines begins" ∷
    codes "go: the block is played as one round" ∷
    codes "all: the block is played line by line, where each of its edits would be done" ∷
    codes "try: it is told what the block would come to, and the block is given up" ∷
    codes "forget: the block is given up" ∷
    codes "forget @WORD: the block of that tag is given up" ∷
    codes "blocks: the blocks that are open" ∷
    codes "@WORD LINE: the line, for the block of that tag" ∷
    codes "desk D add FROM TO UNITS: desk D wants so many slots more for the link" ∷
    codes "desk D drop FROM TO UNITS: desk D wants so many fewer" ∷
    codes "desk D move FROM TO NEWFROM NEWTO UNITS: so many fewer for the one, and more for the other" ∷
    codes "desk D set FROM TO UNITS: the add or drop that brings the link to so many slots" ∷
    codes "desk D undo K: the edit that takes back the one that made edition K" ∷
    codes "desk D show NAME: the bursts that the terminal transmits by the newest plan" ∷
    codes "plan: the planner plans the last edition" ∷
    codes "tick: the next superframe begins" ∷
    codes "turn: the centre has its turn" ∷
    codes "back E: from the next turn on edition E is brought to the front" ∷
    codes "ahead: from the next turn on the newest edition is" ∷
    codes "flow: all that waits is delivered" ∷
    codes "lose all: all that waits is lost" ∷
    codes "lose sat, lose centre, lose NAME: what waits for that receiver is lost" ∷
    codes "deliver K sat, deliver K centre, deliver K NAME: message K is delivered" ∷
    codes "frame: the next frame of the superframe is shown" ∷
    codes "reset NAME: the terminal restarts" ∷
    codes "standby hears K: the standby hears message K" ∷
    codes "standby burst: the standby sends a reference burst" ∷
    codes "restart: the centre restarts" ∷
    codes "state: how far the book has come" ∷
    codes "capacity: what the demand leaves free" ∷
    codes "room FROM TO: the most units that one add may have" ∷
    codes "demand: the links of the demand" ∷
    codes "installed: the newest plan" ∷
    codes "plans: the editions that have a plan" ∷
    codes "air: what the centre knows of the air" ∷
    codes "waiting: the messages on their way" ∷
    codes "clock on, clock off: whether each answer says when it is given" ∷
    codes "help: these lines" ∷
    []

-- those that a session has whose sites are apart
abbrev pub apart_lines : List (List ℕ)
apart_lines =
    codes "round: a block of lines begins" ∷
    codes "go: the block is played as one round" ∷
    codes "all: the block is played line by line, where each of its edits would be done" ∷
    codes "try: it is told what the block would come to, and the block is given up" ∷
    codes "forget: the block is given up" ∷
    codes "forget @WORD: the block of that tag is given up" ∷
    codes "blocks: the blocks that are open" ∷
    codes "@WORD LINE: the line, for the block of that tag" ∷
    codes "desk D add FROM TO UNITS: desk D wants so many slots more for the link" ∷
    codes "desk D drop FROM TO UNITS: desk D wants so many fewer" ∷
    codes "desk D move FROM TO NEWFROM NEWTO UNITS: so many fewer for the one, and more for the other" ∷
    codes "desk D set FROM TO UNITS: the add or drop that brings the link to so many slots" ∷
    codes "desk D undo K: the edit that takes back the one that made edition K" ∷
    codes "desk D show NAME: the bursts that the terminal transmits by the newest plan" ∷
    codes "plan: the planner plans the last edition" ∷
    codes "mark N: superframe N begins" ∷
    codes "radio N HEX: a message that was said in superframe N" ∷
    codes "turn: the centre has its turn" ∷
    codes "back E: from the next turn on edition E is brought to the front" ∷
    codes "ahead: from the next turn on the newest edition is" ∷
    codes "restart: the centre restarts" ∷
    codes "state: how far the book has come" ∷
    codes "capacity: what the demand leaves free" ∷
    codes "room FROM TO: the most units that one add may have" ∷
    codes "demand: the links of the demand" ∷
    codes "installed: the newest plan" ∷
    codes "plans: the editions that have a plan" ∷
    codes "air: what the centre knows of the air" ∷
    codes "clock on, clock off: whether each answer says when it is given" ∷
    codes "help: these lines" ∷
    []

-- the text of these
abbrev pub help_text : Sites → List ℕ
help_text Together = ended help_lines
help_text Apart = ended apart_lines
