pub mod Plan
pub mod Line
pub mod PlanText
pub mod WrittenPlan
pub mod Records
pub mod SameRecords
