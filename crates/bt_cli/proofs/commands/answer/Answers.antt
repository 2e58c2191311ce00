-- what is asked is what the command line says
use Rattle.std.proofs.Common.{ℕ, subst}
use Rattle.bt_outside.specs.Told.{Rose}
use Rattle.bt_report.specs.Printing.{CameTo}
use Rattle.bt_load.specs.Loaders.{Loads}
use Rattle.bt_cli.specs.Edits.{PrintsEdits, edits_files}
use Rattle.bt_cli.proofs.ByCommand.{came_at}
use Rattle.bt_cli.proofs.commands.answer.Goals as goal

pub returns-in-CheckModes : goal.returns-in-CheckModes
returns-in-CheckModes g c = came_at (g.F.Files.told c.args.files.now) _ c.args.line _ c.in-CheckModes.is c.check_files.result c.check_files.ensures

pub returns-in-CheckPlan : goal.returns-in-CheckPlan
returns-in-CheckPlan g c = came_at (g.F.Files.told c.args.files.now) _ c.args.line _ c.in-CheckPlan.is c.check_plan_files.result c.check_plan_files.ensures.judged

pub returns-in-PlanDemand : goal.returns-in-PlanDemand
returns-in-PlanDemand g c = came_at (g.F.Files.told c.args.files.now) _ c.args.line _ c.in-PlanDemand.is c.plan_files.result c.plan_files.ensures

pub returns-in-TimeSends : goal.returns-in-TimeSends
returns-in-TimeSends g c = came_at (g.F.Files.told c.args.files.now) _ c.args.line _ c.in-TimeSends.is c.time_files.result c.time_files.ensures

pub returns-in-PlanPart : goal.returns-in-PlanPart
returns-in-PlanPart g c = came_at (g.F.Files.told c.args.files.now) _ c.args.line _ c.in-PlanPart.is c.plan_part.result c.plan_part.ensures

pub returns-in-TellCapacity : goal.returns-in-TellCapacity
returns-in-TellCapacity g c = came_at (g.F.Files.told c.args.files.now) _ c.args.line _ c.in-TellCapacity.is c.tell_capacity.result c.tell_capacity.ensures

pub returns-in-TellEdits : goal.returns-in-TellEdits
returns-in-TellEdits g c =
    came_at (g.F.Files.told c.args.files.now) _ c.args.line _ c.in-TellEdits.is c.tell_edits.result
    (subst (λ (desk : ℕ). CameTo (Loads (edits_files c.in-TellEdits.net.now c.in-TellEdits.journal.now c.in-TellEdits.traffic.now) (λ all. PrintsEdits desk all.0.0 all.0.1 all.1)
    (g.F.Files.told c.args.files.now) (Rose (g.F.Files.fault_count c.args.files.now) (g.F.Files.fault_count c.tell_edits.new.files))) c.tell_edits.result)
    c.as_desk_no.ensures.number c.tell_edits.ensures)

pub returns-in-TellCarry : goal.returns-in-TellCarry
returns-in-TellCarry g c = came_at (g.F.Files.told c.args.files.now) _ c.args.line _ c.in-TellCarry.is c.tell_carry.result c.tell_carry.ensures

pub returns-in-TellTraffic : goal.returns-in-TellTraffic
returns-in-TellTraffic g c = came_at (g.F.Files.told c.args.files.now) _ c.args.line _ c.in-TellTraffic.is c.tell_traffic.result c.tell_traffic.ensures

pub returns-in-TellJournal : goal.returns-in-TellJournal
returns-in-TellJournal g c = came_at (g.F.Files.told c.args.files.now) _ c.args.line _ c.in-TellJournal.is c.tell_journal.result c.tell_journal.ensures
