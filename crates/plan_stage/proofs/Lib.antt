pub mod EitherPlan
pub mod EveryPlan
pub mod InTurn
pub mod OwnPlan
