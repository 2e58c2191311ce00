-- The pieces of a page: its head, facts with their numbers, bars, and the rows of tables. Names are letters, digits and underscores,
-- so that they stand as they are.
use Rattle.std.specs.Prelude.{ℕ, ◌++◌, if◌then◌else◌, nat_lt, List, [], ◌∷◌, codes, decimal, Option, Some, None}
use Rattle.bt_plan_chart.specs.Parts.{text_of}
use Rattle.bt_chart.specs.declared.state.Fact.{Fact}
use Rattle.bt_chart.specs.declared.state.State.{State}
use Rattle.bt_chart.specs.Fixed.{opening_text, style_text}

-- in how many seconds a browser loads the page again, where it does
abbrev pub refresh_text : Option ℕ → List ℕ
refresh_text None = []
refresh_text (Some seconds) = text_of (codes "<meta http-equiv='refresh' content='" ∷ decimal seconds ∷ codes "'/>\n" ∷ [])

-- the title
abbrev pub title_text : ℕ → ℕ → List ℕ
title_text edition plan = text_of (codes "<title>Edition " ∷ decimal edition ∷ codes ", plan of edition " ∷ decimal plan ∷ codes "</title>\n" ∷ [])

-- all that stands before the body
abbrev pub head_text : ℕ → ℕ → Option ℕ → List ℕ
head_text edition plan seconds = opening_text ++ refresh_text seconds ++ title_text edition plan ++ style_text

-- a number under its term
abbrev pub fact_text : List ℕ → ℕ → List ℕ
fact_text term number = text_of (codes "<div><dt>" ∷ term ∷ codes "</dt><dd>" ∷ decimal number ∷ codes "</dd></div>\n" ∷ [])

-- a bar: so much of the whole is filled
abbrev pub bar_text : ℕ → ℕ → List ℕ
bar_text filled whole = text_of (
    codes "<svg class='bar' viewBox='0 0 " ∷ decimal whole ∷ codes " 1' preserveAspectRatio='none' aria-hidden='true'>"
    ∷ codes "<rect class='room' width='" ∷ decimal whole
    ∷ codes "' height='1'/><rect class='used' width='" ∷ decimal filled ∷ codes "' height='1'/></svg>" ∷ [])

-- the same of what the code has
abbrev pub fact_of : Fact → List ℕ
fact_of fact = fact_text fact.term.now fact.number

-- the last columns of a row: so many slots are asked, and so many are free
abbrev pub counts_text : ℕ → ℕ → List ℕ
counts_text asked free = text_of (codes "</td><td class='number'>" ∷ decimal asked ∷ codes "</td><td class='number'>" ∷ decimal free ∷ codes "</td></tr>\n" ∷ [])

-- the row of one side of a beam, of which so many of the frame's slots are asked, and so many free
abbrev pub side_row : List ℕ → List ℕ → ℕ → ℕ → ℕ → List ℕ
side_row name side asked free slots =
    text_of (codes "<tr><th scope='row'>" ∷ name ∷ codes "</th><td>" ∷ side ∷ codes "</td><td class='wide'>" ∷ [])
    ++ bar_text asked slots ++ counts_text asked free

-- the heading of the page, and what opens the list of numbers
abbrev pub heading_text : ℕ → ℕ → List ℕ
heading_text edition plan = text_of (
    codes "<h1>Edition " ∷ decimal edition ∷ codes ", <span>plan of edition " ∷ decimal plan ∷ codes "</span></h1>\n<section aria-labelledby='state'>\n"
    ∷ codes "<h2 id='state'>Journal and newest plan</h2>\n<dl>\n" ∷ [])

-- the numbers that have no bar
abbrev pub facts_text : State → List ℕ
facts_text state = text_of (
    fact_text (codes "edition") state.edition ∷ fact_text (codes "edition of the plan") state.plan ∷ fact_text (codes "slots of the plan") state.slots
    ∷ fact_text (codes "slots of a frame") state.frame ∷ fact_text (codes "modes") state.modes ∷ fact_text (codes "bursts") state.bursts
    ∷ fact_text (codes "orders") state.orders ∷ [])

-- how full the journal is
abbrev pub full_text : ℕ → ℕ → List ℕ
full_text bytes limit =
    text_of (codes "<div class='wide'><dt>bytes of the journal</dt><dd>" ∷ decimal bytes ∷ codes " of " ∷ decimal limit ∷ codes " " ∷ [])
    ++ bar_text bytes limit ++ codes "</dd></div>\n"

-- whether the journal ends with a whole line, and what closes the list of numbers
abbrev pub torn_text : ℕ → List ℕ
torn_text torn = if nat_lt 0 torn
    then text_of (codes "<div class='alarm'><dt>last line</dt><dd>torn: " ∷ decimal torn ∷ codes " bytes</dd></div>\n</dl>\n</section>\n" ∷ [])
    else text_of (codes "<div><dt>last line</dt><dd>whole</dd></div>\n" ∷ codes "</dl>\n</section>\n" ∷ [])

-- the state of a journal
abbrev pub state_text : State → List ℕ
state_text state = heading_text state.edition state.plan ++ facts_text state ++ full_text state.bytes state.limit ++ torn_text state.torn

-- what stands over the rows of beams, for a frame of so many slots
abbrev pub columns_text : ℕ → List ℕ
columns_text slots = text_of (
    codes "<section aria-labelledby='beams'>\n<h2 id='beams'>" ∷ codes "Slots of each beam</h2>\n<table>\n<thead><tr>"
    ∷ codes "<th scope='col'>beam</th><th scope='col'>way</th>" ∷ codes "<th scope='col'>asked of " ∷ decimal slots ∷ codes "</th><th scope='col'>asked</th>"
    ∷ codes "<th scope='col'>free</th></tr></thead>\n<tbody>\n" ∷ [])

-- what closes a table
abbrev pub table_end : List ℕ
table_end = codes "</tbody>\n</table>\n</section>\n"

-- what stands before the picture of a plan, and what stands behind it
abbrev pub picture_head : List ℕ
picture_head = text_of (
    codes "<section aria-labelledby='plan'>\n<h2 id='plan'>" ∷ codes "Newest plan</h2>\n<div class='plan' role='group'"
    ∷ codes " tabindex='0' aria-label='picture of the newest plan'>\n" ∷ [])

abbrev pub picture_end : List ℕ
picture_end = codes "</div>\n</section>\n"

-- what stands before the modes, which are counted from 0, and what stands behind them
abbrev pub modes_head : List ℕ
modes_head = text_of (
    codes "<section aria-labelledby='modes'>\n<h2 id='modes'>" ∷ codes "Modes of the newest plan, with their slots</h2>\n" ∷ codes "<ol start='0'>\n" ∷ [])

abbrev pub modes_end : List ℕ
modes_end = codes "</ol>\n</section>\n"

-- the item of a mode of so many slots with its connections
abbrev pub mode_text : ℕ → List ℕ → List ℕ
mode_text duration connections = text_of (codes "<li><b>" ∷ decimal duration ∷ codes "</b>" ∷ connections ∷ codes "</li>\n" ∷ [])

-- what stands before the links, and what stands behind them
abbrev pub links_head : List ℕ
links_head = text_of (codes "<section aria-labelledby='links'>\n<h2 id='links'>" ∷ codes "Links, the largest first</h2>\n<ul>\n" ∷ [])

abbrev pub links_end : List ℕ
links_end = codes "</ul>\n</section>\n"

-- the item of a link from one terminal to another, with so many slots
abbrev pub link_text : List ℕ → List ℕ → ℕ → List ℕ
link_text from to units = text_of (codes "<li>" ∷ from ∷ codes " to " ∷ to ∷ codes " <b>" ∷ decimal units ∷ codes "</b></li>\n" ∷ [])

-- what closes a page
abbrev pub foot_text : List ℕ
foot_text = codes "</main>\n</body>\n</html>\n"
