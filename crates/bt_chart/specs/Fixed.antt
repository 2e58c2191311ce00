-- What is the same in every page.
use Rattle.std.specs.Prelude.{ℕ, List}
use Rattle.bt_chart.specs.declared.fixed.TheConstants.{OPENING, STYLE}

-- what opens a page, up to what its head says of this one
unfoldable pub opening_text : List ℕ
opening_text = OPENING.now

-- the style sheet, and what opens the body
unfoldable pub style_text : List ℕ
style_text = STYLE.now
