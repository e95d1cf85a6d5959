pub mod PlanBytes
pub mod PlanCases
pub mod PlanNumbers
pub mod PlanBack
