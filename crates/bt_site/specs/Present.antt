-- The superframe that a site takes for the present one.
use Rattle.std.specs.Prelude.{nat_lt, if◌then◌else◌, Bool, true, Option, Some, None}
use Rattle.bt_frame.specs.declared.numbers.Mark.{Mark}

-- a superframe is later than the one that was the present one, if any was
abbrev pub is_onward : Option Mark → Mark → Bool
is_onward None mark = true
is_onward (Some present) mark = nat_lt present.0 mark.0

-- the present superframe once it was heard that one begins
abbrev pub present_with : Option Mark → Mark → Option Mark
present_with present mark = if is_onward present mark then Some mark else present
