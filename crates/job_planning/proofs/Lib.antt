pub mod PlanPhases
