-- When two boxes share more than an edge.
use Rattle.std.specs.Prelude.{◌≡◌, ℕ, ◌+◌, ◌<◌, ◌≤◌, true, List, AllPairs}
use Rattle.bt_net.specs.Network.{Net}
use Rattle.bt_net.specs.Terminals.{beam_at}
use Rattle.bt_demand.specs.Burst.{Covers}
use Rattle.bt_demand.specs.declared.burst.Burst.{Burst}
use Rattle.bt_plan_chart.specs.declared.scale.Direction.{Direction}
use Rattle.bt_plan_chart.specs.declared.scale.Scale.{Scale}
use Rattle.bt_plan_chart.specs.Scale.{beam_number, box_of, is_drawn, is_shown, terminal_of}
use Rattle.bt_picture.specs.declared.shape.Rect.{Rect}

-- the twip at that place, which reaches to the right and down from there, is in the box
pub record IsIn (box : Rect) (x y : ℕ) : Type 0 where
  pub from_left : box.x ≤ x
  pub to_right : x < box.x + box.width
  pub from_top : box.y ≤ y
  pub to_bottom : y < box.y + box.height

-- some twip is in both boxes
pub record Overlap (a b : Rect) : Type 0 where
  pub x : ℕ
  pub y : ℕ
  pub first : IsIn a x y
  pub second : IsIn b x y

-- the boxes of two bursts in the lanes of a direction overlap
abbrev pub OverlapIn : Net → Scale → Direction → Burst → Burst → Type 0
OverlapIn net scale direction a b = Overlap (box_of net scale direction a) (box_of net scale direction b)

-- a burst has a lane in a direction, where its box is drawn
abbrev pub HasLane : Net → Scale → Direction → Burst → Type 0
HasLane net scale direction burst = is_drawn scale (beam_number net (terminal_of direction burst)) ≡ true

-- two bursts share a slot that is shown, and a beam in a direction that has a lane
pub record MeetIn (net : Net) (scale : Scale) (direction : Direction) (a b : Burst) : Type 0 where
  pub slot : ℕ
  pub shown : is_shown scale slot (slot + 1) ≡ true
  pub first : Covers a slot
  pub second : Covers b slot
  pub beam : beam_at net (terminal_of direction a) ≡ beam_at net (terminal_of direction b)
  pub lane : HasLane net scale direction a

-- the boxes of two bursts in the lanes of a direction are drawn, and overlap
pub record OverlapDrawn (net : Net) (scale : Scale) (direction : Direction) (a b : Burst) : Type 0 where
  pub first : HasLane net scale direction a
  pub second : HasLane net scale direction b
  pub boxes : OverlapIn net scale direction a b

-- no two of the bursts have boxes that are drawn and overlap, whatever lanes the boxes are in
abbrev pub AreBoxesApart : Net → Scale → List Burst → Type 0
AreBoxesApart net scale bursts = AllPairs (λ a b. (one other : Direction) → HasLane net scale one a → HasLane net scale other b → ¬ (Overlap (box_of net scale one a) (box_of net scale other b))) bursts

-- no two of the bursts have boxes that overlap, whatever lanes the boxes are in
abbrev pub AreDrawnApart : Net → Scale → List Burst → Type 0
AreDrawnApart net scale bursts = AllPairs (λ a b. (one other : Direction) → ¬ (Overlap (box_of net scale one a) (box_of net scale other b))) bursts
