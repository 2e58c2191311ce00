-- Rows of links, one for each terminal that sends: what they are together, and what an edit of one of them leaves.
use Rattle.std.proofs.Common.{◌≡◌, ℕ, zero, suc, ◌+◌, ◌<◌, ◌≤◌, ◌==◌, ◌&&◌, if◌then◌else◌, Bool, true, false, not, List, [], ◌∷◌, ◌++◌, length, get_or, slice_set, All, refl, sym, ap, ◌∙◌, subst, arith, get_or-set_same, get_or-set_other, length-set, ⊎_elim}
use Rattle.std.specs.List.{filter, sum_by}
use Rattle.std.proofs.lemmas.Bool.{cases_eq, cases_lt}
use Rattle.std.proofs.lemmas.Bool.Decides.{nat_tests}
use Rattle.std.proofs.lemmas.List.{append-nil, get_or_append_left, get_or_at, get_or_past, get_or_read, length-append, set-get_or}
use Rattle.std.proofs.lemmas.List.Elements.{All-nil, All-append, filter-append, filter_passes}
use Rattle.std.proofs.lemmas.List.Filters.{sum_by-filter_both}
use Rattle.std.proofs.lemmas.List.Sums.{sum_by-append, sum_by-cons, sum_by-set, get_or-le-sum_by}
use Rattle.bt_frame.proofs.Counts.{sum_by-none}
use Rattle.bt_frame.proofs.Pairs.{AllPairs-append}
use Rattle.bt_frame.specs.declared.numbers.TermNo.{TermNo}
use Rattle.bt_demand.specs.declared.demand.Link.{Link}
use Rattle.bt_demand.specs.Demand.{ends_of, IsBefore, IsLink, IsDemand, units_where, units_of, Gains}
use Rattle.bt_demand.specs.Rows.{sent_by, all_links, IsRowOf, AreRows, KeepLinks}

-- the slots of all rows are those of each, added up
units_where-all : (test : TermNo → TermNo → Bool) (rows : List (List Link)) → units_where test (all_links rows) ≡ sum_by (λ (row : List Link). units_where test row) rows
units_where-all test [] = refl
units_where-all test (row ∷ rows) =
    let share = λ (link : Link). if test link.from link.to then link.units else 0 in
    let of_row = λ (r : List Link). units_where test r in
    omega (arith, sum_by-append share row (all_links rows), sum_by-cons of_row row rows, units_where-all test rows)

-- where a row gains, so do all links
pub all-Gains : (rows : List (List Link)) (place : ℕ) (row : List Link) (from to : TermNo) (units : ℕ) → place < length rows
    → Gains (get_or rows place []) row from to units → Gains (all_links rows) (all_links (slice_set rows place row)) from to units
all-Gains rows place row from to units within gains test =
    omega (arith, units_where-all test rows, units_where-all test (slice_set rows place row), sum_by-set (λ (r : List Link). units_where test r) rows place row [] within, gains test)

-- and where it loses
pub all-Loses : (rows : List (List Link)) (place : ℕ) (row : List Link) (from to : TermNo) (units : ℕ) → place < length rows
    → Gains row (get_or rows place []) from to units → Gains (all_links (slice_set rows place row)) (all_links rows) from to units
all-Loses rows place row from to units within loses test =
    omega (arith, units_where-all test rows, units_where-all test (slice_set rows place row), sum_by-set (λ (r : List Link). units_where test r) rows place row [] within, loses test)

-- the slots of links that another terminal sends on
abbrev others : ℕ → TermNo → TermNo → Bool
others sender a b = not (a.0 == sender)

-- links of one sender have none
none_of_others : (sender : ℕ) (row : List Link) → All (λ (link : Link). link.from.0 ≡ sender) row → units_where (others sender) row ≡ 0
none_of_others sender row sent = sum_by-none (λ (link : Link). if others sender link.from link.to then link.units else 0) row
    (λ k d within. let same : (get_or row k d).from.0 ≡ sender = sent k d within in grind (arith, nat_tests, same))

-- and where there are none, the links are of that sender
sent_by_one : (sender : ℕ) (row : List Link) → IsDemand row → units_where (others sender) row ≡ 0 → All (λ (link : Link). link.from.0 ≡ sender) row
sent_by_one sender row is none k d within =
    let share = λ (link : Link). if others sender link.from link.to then link.units else 0 in
    let least : share (get_or row k d) ≤ units_where (others sender) row = get_or-le-sum_by share row k d within in
    let some : 0 < (get_or row k d).units = (is.each k d within).some in
    ⊎_elim (λ (same : (get_or row k d).from.0 ≡ sender). same)
    (λ (other : (get_or row k d).from.0 ≡ sender → ⊥).
    let all : share (get_or row k d) ≡ (get_or row k d).units = grind (arith, nat_tests, other) in
    absurd (omega (arith, least, some, all, none)))
    (cases_eq (get_or row k d).from.0 sender)

-- a gain of a link leaves the row that of its sender
pub IsRowOf-Gains : (old new : List Link) (from to : TermNo) (units : ℕ) → IsRowOf from.0 old → IsDemand new → Gains old new from to units → IsRowOf from.0 new
IsRowOf-Gains old new from to units is demand gains =
    let itself : others from.0 from to ≡ false = grind (arith, nat_tests) in
    let share : (if others from.0 from to then units else 0) ≡ 0 = ap (λ (b : Bool). if b then units else 0) itself in
    record { demand = demand; sent = sent_by_one from.0 new demand (omega (arith, gains (others from.0), share, none_of_others from.0 old is.sent)) }

-- and so does a loss
pub IsRowOf-Loses : (old new : List Link) (from to : TermNo) (units : ℕ) → IsRowOf from.0 old → IsDemand new → Gains new old from to units → IsRowOf from.0 new
IsRowOf-Loses old new from to units is demand loses =
    record { demand = demand; sent = sent_by_one from.0 new demand (omega (arith, loses (others from.0), none_of_others from.0 old is.sent)) }

-- rows stay rows where one of them changes
pub AreRows-set : (rows : List (List Link)) (place : ℕ) (row : List Link) → AreRows rows → place < length rows → IsRowOf place row → AreRows (slice_set rows place row)
AreRows-set rows place row are inside is k d within = ⊎_elim
    (λ (here : k ≡ place). subst (λ (j : ℕ). IsRowOf j (get_or (slice_set rows place row) j d)) (sym here)
    (subst (λ (r : List Link). IsRowOf place r) (sym (get_or-set_same rows place row d inside)) is))
    (λ (other : k ≡ place → ⊥). subst (λ (r : List Link). IsRowOf k r) (sym (get_or-set_other rows place k row d other)) (are k d (omega (arith, length-set rows place row))))
    (cases_eq k place)

-- rows of the senders from a number on
abbrev pub AreRowsFrom : ℕ → List (List Link) → Type 0
AreRowsFrom first rows = (place : ℕ) (other : List Link) → place < length rows → IsRowOf (first + place) (get_or rows place other)

rows_behind : (first : ℕ) (row : List Link) (rows : List (List Link)) → AreRowsFrom first (row ∷ rows) → AreRowsFrom (suc first) rows
rows_behind first row rows are k d within =
    let moved : first + suc k ≡ suc first + k = omega arith in
    subst (λ (n : ℕ). IsRowOf n (get_or rows k d)) moved (are (suc k) d (omega arith))

first_row : (first : ℕ) (row : List Link) (rows : List (List Link)) → AreRowsFrom first (row ∷ rows) → IsRowOf first row
first_row first row rows are =
    let here : first + 0 ≡ first = omega arith in
    subst (λ (n : ℕ). IsRowOf n row) here (are 0 row (omega arith))

-- no link of these is sent by a terminal before them
from_first : (first : ℕ) (rows : List (List Link)) → AreRowsFrom first rows → All (λ (link : Link). first ≤ link.from.0) (all_links rows)
from_first first [] are = All-nil (λ (link : Link). first ≤ link.from.0)
from_first first (row ∷ rows) are =
    let from_here = λ (link : Link). first ≤ link.from.0 in
    All-append from_here row (all_links rows) (λ k d within. omega (arith, (first_row first row rows are).sent k d within))
    (λ k d within. omega (arith, from_first (suc first) rows (rows_behind first row rows are) k d within))

-- one behind the other they are a demand
joined : (first : ℕ) (rows : List (List Link)) → AreRowsFrom first rows → IsDemand (all_links rows)
joined first [] are = record { ordered = λ i j d lt within. absurd (omega arith); each = All-nil IsLink }
joined first (row ∷ rows) are =
    let here = first_row first row rows are in
    let behind = joined (suc first) rows (rows_behind first row rows are) in
    record {
      ordered = AllPairs-append (λ (a b : Link). IsBefore (ends_of a) (ends_of b)) row (all_links rows) here.demand.ordered behind.ordered
          (λ i d inside j e within.
          let before = here.sent i d inside in
          let after = from_first (suc first) rows (rows_behind first row rows are) j e within in
          record { from = omega (arith, before, after); to = λ same. absurd (omega (arith, before, after, same)) });
      each = All-append IsLink row (all_links rows) here.demand.each behind.each;
    }

-- rows count from the terminal of number 0
from_none : (rows : List (List Link)) → AreRows rows → AreRowsFrom 0 rows
from_none rows are k d within = let same : k ≡ 0 + k = omega arith in subst (λ (n : ℕ). IsRowOf n (get_or rows k d)) same (are k d within)

pub IsDemand-all : (rows : List (List Link)) → AreRows rows → IsDemand (all_links rows)
IsDemand-all rows are = joined 0 rows (from_none rows are)

-- a filter that all pass, and one that none does
filter_all : (p : Link → Bool) (links : List Link) → All (λ link. p link ≡ true) links → filter p links ≡ links
filter_all p [] all = refl
filter_all p (link ∷ links) all =
    let first : p link ≡ true = all 0 link (omega arith) in
    rw first (ap (λ (rest : List Link). link ∷ rest) (filter_all p links (λ k d within. all (suc k) d (omega arith))))

filter_none : (p : Link → Bool) (links : List Link) → All (λ link. p link ≡ false) links → filter p links ≡ []
filter_none p [] none = refl
filter_none p (link ∷ links) none =
    let first : p link ≡ false = none 0 link (omega arith) in
    rw first (filter_none p links (λ k d within. none (suc k) d (omega arith)))

-- what a terminal sends is its row
sent_from : (first k : ℕ) (sender : TermNo) (rows : List (List Link)) → AreRowsFrom first rows → sender.0 ≡ first + k → sent_by sender (all_links rows) ≡ get_or rows k []
sent_from first k sender [] are is = refl
sent_from first zero sender (row ∷ rows) are is =
    let p = λ (link : Link). link.from.0 == sender.0 in
    let here = filter_all p row (λ i d within. let sent = (first_row first row rows are).sent i d within in let same : (get_or row i d).from.0 ≡ sender.0 = omega (arith, sent, is) in grind (arith, nat_tests, same)) in
    let behind = filter_none p (all_links rows) (λ i d within. let after = from_first (suc first) rows (rows_behind first row rows are) i d within in
    let less : sender.0 < (get_or (all_links rows) i d).from.0 = omega (arith, after, is) in grind (arith, nat_tests, less)) in
    filter-append p row (all_links rows) ∙ (ap (λ (l : List Link). filter p row ++ l) behind ∙ (append-nil (filter p row) ∙ here))
sent_from first (suc k) sender (row ∷ rows) are is =
    let p = λ (link : Link). link.from.0 == sender.0 in
    let none = filter_none p row (λ i d within. let sent = (first_row first row rows are).sent i d within in let less : (get_or row i d).from.0 < sender.0 = omega (arith, sent, is) in grind (arith, nat_tests, less)) in
    filter-append p row (all_links rows) ∙ (ap (λ (l : List Link). l ++ filter p (all_links rows)) none
    ∙ sent_from (suc first) k sender rows (rows_behind first row rows are) (omega (arith, is)))

pub sent_by-all : (rows : List (List Link)) (sender : TermNo) → AreRows rows → sent_by sender (all_links rows) ≡ get_or rows sender.0 []
sent_by-all rows sender are = sent_from 0 sender.0 sender rows (from_none rows are) (omega arith)

-- the slots of a link are those among what its terminal sends
units_of-sent : (links : List Link) (from to : TermNo) → units_of links from to ≡ units_of (sent_by from links) from to
units_of-sent links from to =
    let p = λ (link : Link). link.from.0 == from.0 in
    let q = λ (link : Link). not (link.from.0 == from.0) in
    let share = λ (link : Link). if link.from.0 == from.0 && link.to.0 == to.0 then link.units else 0 in
    let rest = sum_by-none share (filter q links) (λ k d within. let other = filter_passes q links k d within in grind (arith, nat_tests, other)) in
    omega (arith, rest, sum_by-filter_both p q (λ x. refl) share links)

pub units_of-all : (rows : List (List Link)) (from to : TermNo) → AreRows rows → units_of (all_links rows) from to ≡ units_of (get_or rows from.0 []) from to
units_of-all rows from to are = units_of-sent (all_links rows) from to ∙ ap (λ (links : List Link). units_of links from to) (sent_by-all rows from are)

pub demand_seen : (rows : List (List Link)) (now : List Link) → all_links rows ≡ now → AreRows rows → IsDemand now
demand_seen rows now view are = subst (λ (b : List Link). IsDemand b) view (IsDemand-all rows are)

-- The row that was read at its sender's place.
pub record IsRead (rows : List (List Link)) (place : ℕ) (sender : TermNo) (row : List Link) : Type 0 where
  pub place_is : place ≡ sender.0
  pub within : place < length rows
  pub row_is : row ≡ get_or rows place row

row_read : (rows : List (List Link)) (place : ℕ) (sender : TermNo) (row : List Link) → IsRead rows place sender row → row ≡ get_or rows sender.0 []
row_read rows place sender row read =
    get_or_read rows place row read.within read.row_is [] ∙ ap (λ (n : ℕ). get_or rows n []) read.place_is

-- it has the links of its sender
pub sent_read : (rows : List (List Link)) (now : List Link) (place : ℕ) (sender : TermNo) (row : List Link) → all_links rows ≡ now → AreRows rows
    → IsRead rows place sender row → row ≡ sent_by sender now
sent_read rows now place sender row view are read =
    row_read rows place sender row read ∙ (sym (sent_by-all rows sender are) ∙ ap (λ (b : List Link). sent_by sender b) view)

-- and their slots
pub units_read_in : (rows : List (List Link)) (now : List Link) (place : ℕ) (from to : TermNo) (row : List Link) → all_links rows ≡ now → AreRows rows
    → IsRead rows place from row → units_of row from to ≡ units_of now from to
units_read_in rows now place from to row view are read =
    ap (λ (links : List Link). units_of links from to) (row_read rows place from row read)
    ∙ (sym (units_of-all rows from to are) ∙ ap (λ (b : List Link). units_of b from to) view)

-- a terminal without a row sends on no link
pub sent_past : (rows : List (List Link)) (now : List Link) (sender : TermNo) → all_links rows ≡ now → AreRows rows → length rows ≤ sender.0 → sent_by sender now ≡ []
sent_past rows now sender view are past =
    sym (ap (λ (b : List Link). sent_by sender b) view) ∙ (sent_by-all rows sender are ∙ get_or_past rows sender.0 [] past)

pub units_past : (rows : List (List Link)) (now : List Link) (from to : TermNo) → all_links rows ≡ now → AreRows rows → length rows ≤ from.0 → units_of now from to ≡ 0
units_past rows now from to view are past =
    sym (ap (λ (b : List Link). units_of b from to) view) ∙ (units_of-all rows from to are ∙ ap (λ (links : List Link). units_of links from to) (get_or_past rows from.0 [] past))

-- a link with slots has a row
pub row_held : (rows : List (List Link)) (now : List Link) (from to : TermNo) (units : ℕ) → all_links rows ≡ now → AreRows rows → 0 < units
    → units ≤ units_of now from to → from.0 < length rows
row_held rows now from to units view are some held = ⊎_elim
    (λ (within : from.0 < length rows). within)
    (λ (past : length rows ≤ from.0). absurd (omega (arith, some, held, units_past rows now from to view are past)))
    (cases_lt from.0 (length rows))

-- What is left where a link of the row that was read gains, and what where it loses.
pub record Gained (rows : List (List Link)) (now : List Link) (place : ℕ) (row : List Link) (from to : TermNo) (units : ℕ) : Type 0 where
  pub still : AreRows (slice_set rows place row)
  pub gains : Gains now (all_links (slice_set rows place row)) from to units
  pub demand : IsDemand (all_links (slice_set rows place row))

pub record Lost (rows : List (List Link)) (now : List Link) (place : ℕ) (row : List Link) (from to : TermNo) (units : ℕ) : Type 0 where
  pub still : AreRows (slice_set rows place row)
  pub loses : Gains (all_links (slice_set rows place row)) now from to units
  pub demand : IsDemand (all_links (slice_set rows place row))

-- the row that was read is its sender's
row_is_of : (rows : List (List Link)) (place : ℕ) (sender : TermNo) (row : List Link) → AreRows rows → IsRead rows place sender row → IsRowOf sender.0 row
row_is_of rows place sender row are read =
    subst (λ (n : ℕ). IsRowOf n row) read.place_is (subst (λ (r : List Link). IsRowOf place r) (sym read.row_is) (are place row read.within))

pub gained : (rows : List (List Link)) (now : List Link) (place : ℕ) (row next : List Link) (from to : TermNo) (units : ℕ) → all_links rows ≡ now → AreRows rows
    → IsRead rows place from row → IsDemand next → Gains row next from to units → Gained rows now place next from to units
gained rows now place row next from to units view are read demand gains =
    let kept = IsRowOf-Gains row next from to units (row_is_of rows place from row are read) demand gains in
    let still = AreRows-set rows place next are read.within (subst (λ (n : ℕ). IsRowOf n next) (sym read.place_is) kept) in
    let at_place = subst (λ (r : List Link). Gains r next from to units) (get_or_read rows place row read.within read.row_is []) gains in
    record {
      still = still;
      gains = subst (λ (b : List Link). Gains b (all_links (slice_set rows place next)) from to units) view (all-Gains rows place next from to units read.within at_place);
      demand = IsDemand-all (slice_set rows place next) still;
    }

pub lost : (rows : List (List Link)) (now : List Link) (place : ℕ) (row next : List Link) (from to : TermNo) (units : ℕ) → all_links rows ≡ now → AreRows rows
    → IsRead rows place from row → IsDemand next → Gains next row from to units → Lost rows now place next from to units
lost rows now place row next from to units view are read demand loses =
    let kept = IsRowOf-Loses row next from to units (row_is_of rows place from row are read) demand loses in
    let still = AreRows-set rows place next are read.within (subst (λ (n : ℕ). IsRowOf n next) (sym read.place_is) kept) in
    let at_place = subst (λ (r : List Link). Gains next r from to units) (get_or_read rows place row read.within read.row_is []) loses in
    record {
      still = still;
      loses = subst (λ (b : List Link). Gains (all_links (slice_set rows place next)) b from to units) view (all-Loses rows place next from to units read.within at_place);
      demand = IsDemand-all (slice_set rows place next) still;
    }

-- rows without links
pub AreRows-none : (rows : List (List Link)) → All (λ (row : List Link). row ≡ []) rows → AreRows rows
AreRows-none rows none k d within = subst (λ (row : List Link). IsRowOf k row) (sym (none k d within))
    (record { demand = record { ordered = λ i j e lt inside. absurd (omega arith); each = All-nil IsLink }; sent = All-nil (λ (link : Link). link.from.0 ≡ k) })

-- one row without links behind them changes no link
pub all_links-more : (rows : List (List Link)) → all_links (rows ++ [] ∷ []) ≡ all_links rows
all_links-more [] = refl
all_links-more (row ∷ rows) = ap (λ (links : List Link). row ++ links) (all_links-more rows)

-- and they stay rows
pub AreRows-more : (rows : List (List Link)) → AreRows rows → AreRows (rows ++ [] ∷ [])
AreRows-more rows are k d within = ⊎_elim
    (λ (inside : k < length rows). subst (λ (r : List Link). IsRowOf k r) (sym (get_or_append_left rows ([] ∷ []) d k inside)) (are k d inside))
    (λ (past : length rows ≤ k).
    let one : List (List Link) = [] ∷ [] in
    let none : List Link = [] in
    let more : List (List Link) = [] in
    let long = length-append rows one in
    let last : length rows ≡ k = omega (arith, past, within, long) in
    subst (λ (r : List Link). IsRowOf k r) (sym (get_or_at rows none more d k last))
    (record { demand = record { ordered = λ i j e lt inside. absurd (omega arith); each = All-nil IsLink }; sent = All-nil (λ (link : Link). link.from.0 ≡ k) }))
    (cases_lt k (length rows))

-- no rows
pub no_rows : AreRows []
no_rows = AreRows-none [] (All-nil (λ (row : List Link). row ≡ []))

pub KeepLinks-more : (old rows new : List (List Link)) → KeepLinks old rows → new ≡ rows ++ [] ∷ [] → KeepLinks old new
KeepLinks-more old rows new keep is = subst (λ (r : List (List Link)). KeepLinks old r) (sym is)
    (record { links = all_links-more rows ∙ keep.links; rows = λ are. AreRows-more rows (keep.rows are) })

-- and are a demand
pub IsDemand-kept : (old new : List (List Link)) → AreRows old → KeepLinks old new → IsDemand (all_links new)
IsDemand-kept old new are keep = IsDemand-all new (keep.rows are)

-- what they are together stays
pub kept_links : (old new : List (List Link)) (now : List Link) → all_links old ≡ now → KeepLinks old new → all_links new ≡ now
kept_links old new now view keep = keep.links ∙ view

-- A row that was read and stayed as it was, when it was written back.
pub same_row : (rows : List (List Link)) (place : ℕ) (row next : List Link) → place < length rows → row ≡ get_or rows place row → next ≡ row
    → slice_set rows place next ≡ rows
same_row rows place row next within read same =
    let is : next ≡ get_or rows place [] = same ∙ get_or_read rows place row within read [] in
    ap (λ (r : List Link). slice_set rows place r) is ∙ set-get_or rows place []
