pub mod Entries
pub mod PlanDemand3
