-- The bytes of a journal come to a page, or to the line at fault that is named: not to two of these.
use Rattle.std.proofs.Common.{◌≡◌, ◌⊎◌, ℕ, inl, inr, List, codes, Option, sym, ap, ◌∙◌}
use Rattle.bt_net.specs.Network.{IsSound, Net}
use Rattle.bt_journal.specs.declared.call.Change.{Change}
use Rattle.bt_history.specs.Recovery.{IsFirstNoLine, IsFirstStray, Recovered}
use Rattle.bt_words.specs.Lines.{line_of}
use Rattle.bt_report.specs.declared.status.TheConstants.{FAULTY_JOURNAL}
use Rattle.bt_report.specs.Faults.{line_fault_words}
use Rattle.bt_report.specs.Outcome.{Outcome, text_alone}
use Rattle.bt_load.specs.Choice.{AnyGood, AreAlike}
use Rattle.bt_load.specs.Kinds.{journal_file, network_file}
use Rattle.bt_load.specs.Loaders.{file}
use Rattle.bt_load.proofs.OneLoad.{IsLawful, done_alike, file_lawful, same_alike, then_lawful}
use Rattle.bt_chart.specs.Pages.{DrawsPage, NamesLine, NamesNoLine, NamesStray, ShowsPage, answered_files, both_files, page_files}

-- the laws of journals
pub record Journals : Type 0 where
  pub no_line : (net : Net) (bytes : List ℕ) (changes : List Change) (number : ℕ) → IsSound net → Recovered net bytes changes → IsFirstNoLine net bytes number → ⊥
  pub stray : (net : Net) (bytes : List ℕ) (changes : List Change) (number : ℕ) → IsSound net → Recovered net bytes changes → IsFirstStray net bytes number → ⊥
  pub either : (net : Net) (bytes : List ℕ) (number other : ℕ) → IsSound net → IsFirstNoLine net bytes number → IsFirstStray net bytes other → ⊥
  pub no_lines : (net : Net) (bytes : List ℕ) (number other : ℕ) → IsSound net → IsFirstNoLine net bytes number → IsFirstNoLine net bytes other → number ≡ other
  pub strays : (net : Net) (bytes : List ℕ) (number other : ℕ) → IsSound net → IsFirstStray net bytes number → IsFirstStray net bytes other → number ≡ other

pub page_lawful : (net journal : List ℕ) → IsLawful (page_files net journal)
page_lawful net journal = then_lawful (file network_file net) (λ network. file journal_file journal) (file_lawful network_file net) (λ network. file_lawful journal_file journal)

pub answered_lawful : (net journal answers : List ℕ) → IsLawful (answered_files net journal answers)
answered_lawful net journal answers =
    then_lawful (file network_file net) (λ network. both_files journal answers) (file_lawful network_file net)
    (λ network. then_lawful (file journal_file journal) (λ bytes. file journal_file answers) (file_lawful journal_file journal) (λ bytes. file_lawful journal_file answers))

line_same : (code : List ℕ) (a b : Outcome) (number other : ℕ) → number ≡ other → NamesLine code number a → NamesLine code other b → AreAlike AnyGood a b
line_same code a b number other same says also =
    same_alike AnyGood a b (says ∙ (ap (λ (n : ℕ). text_alone (line_of (line_fault_words code n)) FAULTY_JOURNAL) same ∙ sym also))

comes_same : Journals → (Beside : List ℕ → List ℕ → Type 0) (seconds : Option ℕ) (net : Net) → IsSound net → (bytes : List ℕ) (a b : Outcome)
    → ShowsPage Beside seconds net bytes a ⊎ NamesNoLine net bytes a ⊎ NamesStray net bytes a → ShowsPage Beside seconds net bytes b ⊎ NamesNoLine net bytes b ⊎ NamesStray net bytes b → AreAlike AnyGood a b
comes_same laws Beside seconds net sound bytes a b (inl (air, ladder, text, beside, tells, is)) (inl (air', ladder', text', beside', tells', is')) = done_alike a b (ap (λ (o : Outcome). o.status) is) (ap (λ (o : Outcome). o.status) is')
comes_same laws Beside seconds net sound bytes a b (inl (air, ladder, text, beside, tells, is)) (inr (inl (number, first, says))) = absurd (laws.no_line net bytes tells.changes number sound tells.told first)
comes_same laws Beside seconds net sound bytes a b (inl (air, ladder, text, beside, tells, is)) (inr (inr (number, first, says))) = absurd (laws.stray net bytes tells.changes number sound tells.told first)
comes_same laws Beside seconds net sound bytes a b (inr (inl (number, first, says))) (inl (air, ladder, text, beside, tells, is)) = absurd (laws.no_line net bytes tells.changes number sound tells.told first)
comes_same laws Beside seconds net sound bytes a b (inr (inl (number, first, says))) (inr (inl (number', first', says'))) =
    line_same (codes "J1") a b number number' (laws.no_lines net bytes number number' sound first first') says says'
comes_same laws Beside seconds net sound bytes a b (inr (inl (number, first, says))) (inr (inr (number', first', says'))) = absurd (laws.either net bytes number number' sound first first')
comes_same laws Beside seconds net sound bytes a b (inr (inr (number, first, says))) (inl (air, ladder, text, beside, tells, is)) = absurd (laws.stray net bytes tells.changes number sound tells.told first)
comes_same laws Beside seconds net sound bytes a b (inr (inr (number, first, says))) (inr (inl (number', first', says'))) = absurd (laws.either net bytes number' number sound first' first)
comes_same laws Beside seconds net sound bytes a b (inr (inr (number, first, says))) (inr (inr (number', first', says'))) =
    line_same (codes "J2") a b number number' (laws.strays net bytes number number' sound first first') says says'

comes_weaker : (Beside Other : List ℕ → List ℕ → Type 0) (seconds : Option ℕ) (net : Net) (bytes : List ℕ) → ((air ladder : List ℕ) → Beside air ladder → Other air ladder) → (outcome : Outcome)
    → ShowsPage Beside seconds net bytes outcome ⊎ NamesNoLine net bytes outcome ⊎ NamesStray net bytes outcome → ShowsPage Other seconds net bytes outcome ⊎ NamesNoLine net bytes outcome ⊎ NamesStray net bytes outcome
comes_weaker Beside Other seconds net bytes wider outcome (inl (air, ladder, text, beside, tells, is)) = inl (air, ladder, text, wider air ladder beside, tells, is)
comes_weaker Beside Other seconds net bytes wider outcome (inr names) = inr names

pub page_same : Journals → (Beside : List ℕ → List ℕ → Type 0) (seconds : Option ℕ) (net : Net) (bytes : List ℕ) (a b : Outcome) → DrawsPage Beside seconds net bytes a → DrawsPage Beside seconds net bytes b → AreAlike AnyGood a b
page_same laws Beside seconds net bytes a b one other = comes_same laws Beside seconds net one.sound bytes a b one.comes other.comes

-- a page with parts of one kind beside it is one with parts of a wider kind
pub draws_weaker : (Beside Other : List ℕ → List ℕ → Type 0) (seconds : Option ℕ) (net : Net) (bytes : List ℕ) → ((air ladder : List ℕ) → Beside air ladder → Other air ladder) → (outcome : Outcome)
    → DrawsPage Beside seconds net bytes outcome → DrawsPage Other seconds net bytes outcome
draws_weaker Beside Other seconds net bytes wider outcome draws = record { sound = draws.sound; comes = comes_weaker Beside Other seconds net bytes wider outcome draws.comes }
