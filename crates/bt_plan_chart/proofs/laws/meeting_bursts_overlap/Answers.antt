use Rattle.std.proofs.Common.{inl, inr}
use Rattle.bt_plan_chart.specs.Scale.{scale_of, whole}
use Rattle.bt_plan_chart.specs.declared.scale.Direction.TheVariants.{Up, Down}
use Rattle.bt_plan_chart.proofs.Overlaps.{collide_in, has_lane, meet_in, meets_drawn, overlap_in, some_unit}
use Rattle.bt_plan_chart.proofs.laws.meeting_bursts_overlap.Goals as goal

pub returns-clause-meet : goal.returns-clause-meet
returns-clause-meet c = λ net plan a b a_between b_between. (
  λ meet. elim (meets_drawn net plan a b meet) [
    | inl up ↦ inl (overlap_in net (scale_of net plan whole) Up a b (some_unit net plan whole) up).boxes
    | inr down ↦ inr (overlap_in net (scale_of net plan whole) Down a b (some_unit net plan whole) down).boxes
  ],
  λ over. elim over [
    | inl up ↦ collide_in net (scale_of net plan whole) Up a b
        (meet_in net (scale_of net plan whole) Up a b (some_unit net plan whole) a_between b_between (record { first = has_lane net plan Up a; second = has_lane net plan Up b; boxes = up }))
    | inr down ↦ collide_in net (scale_of net plan whole) Down a b
        (meet_in net (scale_of net plan whole) Down a b (some_unit net plan whole) a_between b_between (record { first = has_lane net plan Down a; second = has_lane net plan Down b; boxes = down }))
  ],
)

pub returns-clause-drawn : goal.returns-clause-drawn
returns-clause-drawn c = λ net plan choice direction a b a_between b_between. (
  overlap_in net (scale_of net plan choice) direction a b (some_unit net plan choice),
  meet_in net (scale_of net plan choice) direction a b (some_unit net plan choice) a_between b_between,
)
