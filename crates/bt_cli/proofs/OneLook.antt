-- A look at one journal has one outcome.
use Rattle.std.proofs.Common.{◌≡◌, ◌⊎◌, ℕ, ◌≤◌, inl, inr, List, length, Option, Some, None, option_map, refl, sym, subst, ap, ◌∙◌, arith}
use Rattle.std.proofs.lemmas.Option.{same_Some}
use Rattle.bt_frame.specs.declared.limits.TheConstants.{MOST_JOURNAL_BYTES}
use Rattle.bt_net.specs.Network.{Net, IsSound}
use Rattle.bt_demand.specs.declared.demand.Link.{Link}
use Rattle.bt_journal.specs.declared.call.Change.{Change}
use Rattle.bt_history.specs.declared.fault.RecoverFault.{RecoverFault}
use Rattle.bt_history.specs.declared.fault.RecoverFault.TheVariants.{J1, J2, StoreFault, TooLong, OutOfMemory}
use Rattle.bt_history.specs.Changes.{IsDemandAfter}
use Rattle.bt_history.specs.Recovery.{Recovered}
use Rattle.bt_plan.specs.PlanSpelling.{plan_spelling}
use Rattle.bt_timeline.specs.Replayed.{link_lines}
use Rattle.bt_export.specs.declared.carry.Carried.{Carried}
use Rattle.bt_export.specs.declared.carry.Carried.TheVariants as carried
use Rattle.bt_export.specs.Carry.{ComesTo}
use Rattle.bt_export.specs.Edits.{TellsEdits, block_lines, surplus}
use Rattle.bt_export.specs.Metrics.{metrics_lines}
use Rattle.bt_export.proofs.CarriedBack.{one_coming as one_carried}
use Rattle.bt_look.specs.Compact.{compact_lines}
use Rattle.bt_look.specs.Installed.{plan_asked}
use Rattle.bt_look.specs.State.{state_lines}
use Rattle.bt_look.specs.Look.{IsDemandText, IsLookFault}
use Rattle.bt_report.specs.declared.status.TheConstants.{DONE}
use Rattle.bt_report.specs.Outcome.{Outcome, text_alone}
use Rattle.bt_load.specs.Kinds.{journal_file, network_file}
use Rattle.bt_load.specs.Loaders.{file}
use Rattle.bt_load.proofs.OneLoad.{IsLawful, file_lawful, then_lawful}
use Rattle.bt_cli.specs.declared.look.Look.{Look}
use Rattle.bt_cli.specs.declared.look.Look.TheVariants as look
use Rattle.bt_cli.specs.Carry.{PrintsCarried, PrintsCarry, TellsCarry, carry_files}
use Rattle.bt_cli.specs.Edits.{PrintsEdits, edits_files}
use Rattle.bt_cli.specs.Fitting.{fitting_file}
use Rattle.bt_cli.specs.Looks.{Looks, NamesLine, PrintsLook, PrintsOrNone, PrintsText, TellsLook, journal_files}
use Rattle.bt_cli.specs.Replay.{NamesRecoverFault}
use Rattle.bt_cli.proofs.LoadsAsked.{Lines, fitting_lawful, never_both, overload_same}
use Rattle.bt_cli.proofs.OneDemand.{none_behind, one_demand}
use Rattle.bt_cli.proofs.OneJournal.{Comes, HasChanges, Laws, one_coming}

pub journal_lawful : (net journal : List ℕ) → IsLawful (journal_files net journal)
journal_lawful net journal = then_lawful (file network_file net) (λ network. file journal_file journal) (file_lawful network_file net) (λ network. file_lawful journal_file journal)

-- a line at fault is one of the things that bytes come to
line_comes : (Done : List Change → Outcome → Type 0) (net : Net) (bytes : List ℕ) (fault : RecoverFault) (outcome : Outcome) → length bytes ≤ MOST_JOURNAL_BYTES → IsLookFault net bytes fault → NamesRecoverFault fault outcome
    → Comes Done net bytes outcome
line_comes Done net bytes (J1 number) outcome short is names = inr (inl (record { number = number; first = is; short = short; says = names }))
line_comes Done net bytes (J2 number) outcome short is names = inr (inr (inl (record { number = number; first = is; short = short; says = names })))
line_comes Done net bytes StoreFault outcome short is names = absurd is
line_comes Done net bytes TooLong outcome short is names = absurd (omega (arith, is, short))
line_comes Done net bytes OutOfMemory outcome short is names = absurd names

-- and so is what is printed of their changes
look_comes : (Done : List Change → Outcome → Type 0) (Prints : Outcome → Type 0) (net : Net) (bytes : List ℕ) (outcome : Outcome) → length bytes ≤ MOST_JOURNAL_BYTES
    → (Prints outcome → HasChanges Done net bytes outcome) → Prints outcome ⊎ NamesLine net bytes outcome → Comes Done net bytes outcome
look_comes Done Prints net bytes outcome short changes (inl printed) = inl (changes printed)
look_comes Done Prints net bytes outcome short changes (inr (fault, is, names)) = line_comes Done net bytes fault outcome short is names

-- So a look has one outcome, where what is printed of one list of changes is one.
looks_same : Laws → (Done : List Change → Outcome → Type 0) (Prints : Outcome → Type 0) (net : Net) (bytes : List ℕ)
    → ((outcome : Outcome) → length bytes ≤ MOST_JOURNAL_BYTES → Prints outcome → HasChanges Done net bytes outcome)
    → ((changes : List Change) (a b : Outcome) → Done changes a → Done changes b → a ≡ b)
    → (a b : Outcome) → Looks Prints net bytes a → Looks Prints net bytes b → a ≡ b
looks_same laws Done Prints net bytes changes printed a b first second =
    one_coming laws (λ x y. x ≡ y) (λ x y same. same) Done printed net first.sound bytes a b
    (look_comes Done Prints net bytes a first.short (changes a first.short) first.comes)
    (look_comes Done Prints net bytes b second.short (changes b second.short) second.comes)

-- ---- looks at one journal

-- the text is told of these changes
abbrev ToldOf : Look → Net → List ℕ → List Change → Option (List ℕ) → Type 0
ToldOf look.State net bytes changes text = text ≡ Some (state_lines net bytes changes)
ToldOf (look.Demand asked) net bytes changes text = IsDemandText net changes asked text
ToldOf (look.Installed asked) net bytes changes text = text ≡ option_map (plan_spelling net) (plan_asked changes asked)
ToldOf look.Compact net bytes changes text = (links : List Link) × IsDemandAfter changes links × (text ≡ Some (compact_lines net links))
ToldOf look.Metrics net bytes changes text = text ≡ Some (metrics_lines net changes)

-- what is told is told of the changes that the bytes tell
told_changes : (asked : Look) (net : Net) (bytes : List ℕ) (text : Option (List ℕ)) → TellsLook asked net bytes text → (changes : List Change) × Recovered net bytes changes × ToldOf asked net bytes changes text
told_changes look.State net bytes (Some text) tells = (tells.changes, tells.told, ap Some tells.spelled)
told_changes look.State net bytes None tells = absurd tells
told_changes (look.Demand asked) net bytes text tells = (tells.changes, tells.told, tells.tells)
told_changes (look.Installed asked) net bytes text tells = (tells.changes, tells.told, tells.spelled)
told_changes look.Compact net bytes (Some text) tells = (tells.changes, tells.told, (tells.links, tells.demand, ap Some tells.spelled))
told_changes look.Compact net bytes None tells = absurd tells
told_changes look.Metrics net bytes (Some text) tells = (tells.changes, tells.told, ap Some tells.spelled)
told_changes look.Metrics net bytes None tells = absurd tells

-- and of the same changes one text is told
told_same : (asked : Look) (net : Net) (bytes : List ℕ) (changes : List Change) (a b : Option (List ℕ)) → ToldOf asked net bytes changes a → ToldOf asked net bytes changes b → a ≡ b
told_same look.State net bytes changes a b one other = one ∙ sym other
told_same (look.Demand asked) net bytes changes (Some a) (Some b) one other =
    let links : one.links ≡ other.links = one_demand changes asked one.links other.links one.demand other.demand in
    ap Some (one.spelled ∙ (ap (link_lines net) links ∙ sym other.spelled))
told_same (look.Demand asked) net bytes changes (Some a) None one none = absurd (none_behind changes asked one.links one.demand none)
told_same (look.Demand asked) net bytes changes None (Some b) none other = absurd (none_behind changes asked other.links other.demand none)
told_same (look.Demand asked) net bytes changes None None none none' = refl
told_same (look.Installed asked) net bytes changes a b one other = one ∙ sym other
told_same look.Compact net bytes changes a b (links, one, is) (links', other, is') =
    is ∙ (ap (λ (l : List Link). Some (compact_lines net l)) (one_demand changes None links links' one other) ∙ sym is')
told_same look.Metrics net bytes changes a b one other = one ∙ sym other

abbrev LookOf : Look → Net → List ℕ → List Change → Outcome → Type 0
LookOf asked net bytes changes outcome = PrintsOrNone (ToldOf asked net bytes changes) outcome

look_changes : (asked : Look) (net : Net) (bytes : List ℕ) (outcome : Outcome) → length bytes ≤ MOST_JOURNAL_BYTES → PrintsOrNone (TellsLook asked net bytes) outcome → HasChanges (LookOf asked net bytes) net bytes outcome
look_changes asked net bytes outcome short (inl (text, tells, is)) =
    let found = told_changes asked net bytes (Some text) tells in
    record { changes = found.0; told = found.1; short = short; done = inl (text, found.2, is) }
look_changes asked net bytes outcome short (inr (tells, says)) =
    let found = told_changes asked net bytes None tells in
    record { changes = found.0; told = found.1; short = short; done = inr (found.2, says) }

-- a text is none that is not there
never_none : (text : List ℕ) → Some text ≡ None → ⊥
never_none text none = cc

look_printed : (asked : Look) (net : Net) (bytes : List ℕ) (changes : List Change) (a b : Outcome) → LookOf asked net bytes changes a → LookOf asked net bytes changes b → a ≡ b
look_printed asked net bytes changes a b (inl (text, one, is)) (inl (text', other, is')) =
    is ∙ (ap (λ (t : List ℕ). text_alone t DONE) (same_Some text text' (told_same asked net bytes changes (Some text) (Some text') one other)) ∙ sym is')
look_printed asked net bytes changes a b (inl (text, one, is)) (inr (none, says)) = absurd (never_none text (told_same asked net bytes changes (Some text) None one none))
look_printed asked net bytes changes a b (inr (none, says)) (inl (text, other, is)) = absurd (never_none text (told_same asked net bytes changes (Some text) None other none))
look_printed asked net bytes changes a b (inr (none, says)) (inr (none', says')) = says ∙ sym says'

pub look_same : Laws → (asked : Look) (net : Net) (bytes : List ℕ) (a b : Outcome) → PrintsLook asked net bytes a → PrintsLook asked net bytes b → a ≡ b
look_same laws asked net bytes a b first second =
    looks_same laws (LookOf asked net bytes) (PrintsOrNone (TellsLook asked net bytes)) net bytes (look_changes asked net bytes) (look_printed asked net bytes) a b first second

-- ---- `edits`

pub edits_lawful : Lines → (net journal traffic : List ℕ) → IsLawful (edits_files net journal traffic)
edits_lawful lines net journal traffic =
    then_lawful (journal_files net journal) (λ both. fitting_file both.0 traffic) (journal_lawful net journal) (λ both. fitting_lawful lines both.0 traffic)

abbrev EditsOf : Net → ℕ → List Link → List Change → Outcome → Type 0
EditsOf net desk want changes outcome = (have : List Link) × IsDemandAfter changes have × (outcome ≡ text_alone (block_lines net desk (surplus have want) (surplus want have)) DONE)

edits_changes : (net : Net) (bytes : List ℕ) (desk : ℕ) (want : List Link) (outcome : Outcome) → length bytes ≤ MOST_JOURNAL_BYTES → PrintsText (TellsEdits net bytes desk want) outcome
    → HasChanges (EditsOf net desk want) net bytes outcome
edits_changes net bytes desk want outcome short (text, tells, is) = record {
  changes = tells.changes;
  told = tells.told;
  short = short;
  done = (tells.have, tells.demand, is ∙ ap (λ (t : List ℕ). text_alone t DONE) tells.spelled);
}

edits_printed : (net : Net) (desk : ℕ) (want : List Link) (changes : List Change) (a b : Outcome) → EditsOf net desk want changes a → EditsOf net desk want changes b → a ≡ b
edits_printed net desk want changes a b (have, one, is) (have', other, is') =
    is
    ∙ (ap (λ (l : List Link). text_alone (block_lines net desk (surplus l want) (surplus want l)) DONE) (one_demand changes None have have' one other)
    ∙ sym is')

pub edits_same : Laws → (desk : ℕ) (net : Net) (bytes : List ℕ) (want : List Link) (a b : Outcome) → PrintsEdits desk net bytes want a → PrintsEdits desk net bytes want b → a ≡ b
edits_same laws desk net bytes want a b first second =
    looks_same laws (EditsOf net desk want) (PrintsText (TellsEdits net bytes desk want)) net bytes (edits_changes net bytes desk want) (edits_printed net desk want) a b first second

-- ---- `carry`

pub carry_lawful : (net journal new : List ℕ) → IsLawful (carry_files net journal new)
carry_lawful net journal new = then_lawful (journal_files net journal) (λ both. file network_file new) (journal_lawful net journal) (λ both. file_lawful network_file new)

pub record CarryOf (net new : Net) (changes : List Change) (outcome : Outcome) : Type 0 where
  links : List Link
  demand : IsDemandAfter changes links
  carried : Carried
  comes : ComesTo net links new carried
  prints : PrintsCarried new carried outcome

carry_changes : (net : Net) (bytes : List ℕ) (new : Net) (outcome : Outcome) → length bytes ≤ MOST_JOURNAL_BYTES → TellsCarry net bytes new outcome → HasChanges (CarryOf net new) net bytes outcome
carry_changes net bytes new outcome short (carried, tells, prints) = record {
  changes = tells.changes;
  told = tells.told;
  short = short;
  done = record { links = tells.links; demand = tells.demand; carried = carried; comes = tells.comes; prints = prints };
}

-- what it comes to is printed in one way
carried_printed : Lines → (new : Net) (carried : Carried) (a b : Outcome) → PrintsCarried new carried a → PrintsCarried new carried b → a ≡ b
carried_printed lines new (carried.Demand links) a b (inl (fits, is)) (inl (fits', is')) = is ∙ sym is'
carried_printed lines new (carried.Demand links) a b (inl (fits, is)) (inr over) = absurd (never_both new links b over fits)
carried_printed lines new (carried.Demand links) a b (inr over) (inl (fits, is)) = absurd (never_both new links a over fits)
carried_printed lines new (carried.Demand links) a b (inr over) (inr over') = overload_same lines new links a b over over'
carried_printed lines new (carried.Gone number) a b says says' = says ∙ sym says'

carry_printed : Lines → (net new : Net) (changes : List Change) → IsSound new → (a b : Outcome) → CarryOf net new changes a → CarryOf net new changes b → a ≡ b
carry_printed lines net new changes sound a b one other =
    let links : other.links ≡ one.links = one_demand changes None other.links one.links other.demand one.demand in
    let comes = subst (λ (l : List Link). ComesTo net l new other.carried) links other.comes in
    let carried : other.carried ≡ one.carried = one_carried net one.links new other.carried one.carried sound one.demand.demand comes one.comes in
    carried_printed lines new one.carried a b one.prints (subst (λ (c : Carried). PrintsCarried new c b) carried other.prints)

pub carry_same : Laws → Lines → (net : Net) (bytes : List ℕ) (new : Net) (a b : Outcome) → PrintsCarry net bytes new a → PrintsCarry net bytes new b → a ≡ b
carry_same laws lines net bytes new a b first second =
    looks_same laws (CarryOf net new) (TellsCarry net bytes new) net bytes (carry_changes net bytes new) (λ changes. carry_printed lines net new changes first.sound) a b first.looks second.looks
