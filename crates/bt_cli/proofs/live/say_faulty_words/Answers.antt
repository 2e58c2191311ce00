-- the words are no command's, and that was said
use Rattle.bt_report.specs.declared.report.Stop.TheVariants.{Early}
use Rattle.bt_report.specs.Faults.{SaysFaultyWords}
use Rattle.bt_cli.proofs.Sessions.{said_stop}
use Rattle.bt_cli.proofs.live.say_faulty_words.Goals as goal

pub returns-in-Ok : goal.returns-in-Ok
returns-in-Ok g c = record { said = said_stop _ SaysFaultyWords (Early c.in-Ok.report) _ c.in-Ok.ensures.report c.say_stop.ensures.said }
