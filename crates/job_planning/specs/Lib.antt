pub mod PlanWrites
pub mod PlanThere
