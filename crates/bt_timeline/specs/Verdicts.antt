-- The lines of verdicts, each as its words.
use Rattle.std.specs.Prelude.{ℕ, List, [], ◌∷◌, length, codes, decimal, Option, Some, None}
use Rattle.std.specs.Borrow.{Bor}
use Rattle.bt_frame.specs.declared.numbers.TermNo.{TermNo}
use Rattle.bt_frame.specs.declared.schedule.Critical.TheVariants.{Row, Column}
use Rattle.bt_net.specs.Network.{Net}
use Rattle.bt_net.specs.Terminals.{IsTerminal, name_at}
use Rattle.bt_demand.specs.declared.verdict.Verdict.{Verdict}
use Rattle.bt_demand.specs.declared.verdict.Verdict.TheVariants.{Good, V1, V2, V3, V4, V5, V6, V7, V8}
use Rattle.bt_words.specs.Lines.{line_of}

-- the network that is lent, where there is one
abbrev pub lent : Option (Bor Net) → Option Net
lent (Some net) = Some net.now
lent None = None

-- the words of the terminal's name; none is known without a network
abbrev pub terminal_name : Option Net → TermNo → List ℕ
terminal_name (Some net) terminal = name_at net terminal
terminal_name None terminal = []

-- the terminals that a verdict names are the network's; where there is none it names none
abbrev pub CanName : Option Net → Verdict → Type 0
CanName (Some net) (V7 from to _ _) = IsTerminal net from × IsTerminal net to
CanName None (V7 _ _ _ _) = ⊥
CanName net verdict = Unit {0}

-- the words of a verdict
abbrev pub verdict_words : Option Net → Verdict → List (List ℕ)
verdict_words net Good = codes "good" ∷ []
verdict_words net (V1 mode) = codes "V1" ∷ decimal mode ∷ []
verdict_words net (V2 mode) = codes "V2" ∷ decimal mode ∷ []
verdict_words net (V3 sum length) = codes "V3" ∷ decimal sum ∷ decimal length ∷ []
verdict_words net (V4 (Row up) sum) = codes "V4" ∷ codes "row" ∷ decimal up.0 ∷ decimal sum ∷ []
verdict_words net (V4 (Column down) sum) = codes "V4" ∷ codes "column" ∷ decimal down.0 ∷ decimal sum ∷ []
verdict_words net (V5 first second) = codes "V5" ∷ decimal first ∷ decimal second ∷ []
verdict_words net (V6 burst) = codes "V6" ∷ decimal burst ∷ []
verdict_words net (V7 from to want have) = codes "V7" ∷ terminal_name net from ∷ terminal_name net to ∷ decimal want ∷ decimal have ∷ []
verdict_words net (V8 up down want have) = codes "V8" ∷ decimal up.0 ∷ decimal down.0 ∷ decimal want ∷ decimal have ∷ []

-- the line of a verdict
abbrev pub verdict_line : Option Net → Verdict → List ℕ
verdict_line net verdict = line_of (verdict_words net verdict)
