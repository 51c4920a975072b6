pub mod ReadPlan
