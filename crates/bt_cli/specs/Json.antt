-- `json FILE`: a text is loaded, and the objects of JSON of its lines are printed.
use Rattle.std.specs.Prelude.{◌≡◌, ℕ, List, codes}
use Rattle.bt_frame.specs.declared.limits.TheConstants.{MOST_JOURNAL_BYTES}
use Rattle.bt_export.specs.declared.json.JsonCode.{JsonCode}
use Rattle.bt_export.specs.declared.json.JsonCode.TheVariants.{O1}
use Rattle.bt_export.specs.Json.{json_of}
use Rattle.bt_report.specs.declared.status.TheConstants.{DONE, FAULTY_TEXT}
use Rattle.bt_report.specs.Faults.{line_fault_words}
use Rattle.bt_report.specs.Outcome.{Outcome, text_alone}
use Rattle.bt_load.specs.Files.{Kind}

-- the code of a line's fault
abbrev pub json_code_name : JsonCode → List ℕ
json_code_name O1 = codes "O1"

-- a text of any lines, as long as a journal may be, and what it spells: the objects of its lines
abbrev pub json_file : Kind (List ℕ) (JsonCode × ℕ)
json_file = record { most = MOST_JOURNAL_BYTES; reading = json_of; fault_words = λ fault. line_fault_words (json_code_name fault.0) fault.1; fault_status = FAULTY_TEXT }

-- these objects, a line each, and nothing else
abbrev pub PrintsJson : List ℕ → Outcome → Type 0
PrintsJson json outcome = outcome ≡ text_alone json DONE
