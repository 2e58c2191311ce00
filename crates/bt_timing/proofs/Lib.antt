pub mod Windows
pub mod GoodPlans
pub mod DelayLines
pub mod KnownDelays
