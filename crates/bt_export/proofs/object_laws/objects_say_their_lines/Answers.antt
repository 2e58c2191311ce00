use Rattle.bt_export.proofs.Back.{of_form, of_text}
use Rattle.bt_export.proofs.object_laws.objects_say_their_lines.Goals as goal

pub returns : goal.returns
returns c = record { form = of_form; text = of_text }
