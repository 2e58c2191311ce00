-- Rows by other words for the same numbers.
use Rattle.std.proofs.Common.{◌≡◌, ℕ, List, ◌++◌, Result, Ok, Err, OnOk, ap, ◌∙◌}
use Rattle.bt_chart.specs.Pieces.{side_row}
use Rattle.bt_chart.specs.Page.{way_row}

-- the row of one side of a beam
pub same_row_ok : {A B : Type 0} (result : Result A B) (before now name side : List ℕ) (asked units free left slots frame : ℕ) → asked ≡ units → free ≡ left → slots ≡ frame
    → OnOk result (now ≡ before ++ side_row name side asked free slots) → OnOk result (now ≡ before ++ side_row name side units left frame)
same_row_ok (Ok _) before now name side asked units free left slots frame a f s is =
    is
    ∙ (ap (λ (x : ℕ). before ++ side_row name side x free slots) a
    ∙ (ap (λ (x : ℕ). before ++ side_row name side units x slots) f
    ∙ ap (λ (x : ℕ). before ++ side_row name side units left x) s))
same_row_ok (Err _) before now name side asked units free left slots frame a f s is = tt

-- the same, where the others of the frame's slots are free
pub same_way : (before now name other side : List ℕ) (asked units slots frame : ℕ) → name ≡ other → asked ≡ units → slots ≡ frame
    → now ≡ before ++ way_row name side asked slots → now ≡ before ++ way_row other side units frame
same_way before now name other side asked units slots frame n a s is =
    is
    ∙ (ap (λ (x : List ℕ). before ++ way_row x side asked slots) n
    ∙ (ap (λ (x : ℕ). before ++ way_row other side x slots) a
    ∙ ap (λ (x : ℕ). before ++ way_row other side units x) s))

pub same_way_ok : {A B : Type 0} (result : Result A B) (before now name other side : List ℕ) (asked units slots frame : ℕ) → name ≡ other → asked ≡ units → slots ≡ frame
    → OnOk result (now ≡ before ++ way_row name side asked slots) → OnOk result (now ≡ before ++ way_row other side units frame)
same_way_ok (Ok _) before now name other side asked units slots frame n a s is = same_way before now name other side asked units slots frame n a s is
same_way_ok (Err _) before now name other side asked units slots frame n a s is = tt
