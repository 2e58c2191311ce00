use Rattle.std.proofs.Common.{sym}
use Rattle.bt_timeline.proofs.on_air.aged_text.Goals as goal

-- no change is armed, and each word is a number
pub returns-in-None-clause-added : goal.returns-in-None-clause-added
returns-in-None-clause-added c =
    rw c.in-None.is
    (rw (sym c.number-mark.ensures.spelled) (rw (sym c.number-age.ensures.spelled) (rw (sym c.number-fore.ensures.spelled)
    (rw (sym c.number-back.ensures.spelled) (rw (sym c.number-last.ensures.spelled) c.print-in-None.ensures.added)))))
