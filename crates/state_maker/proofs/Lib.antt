mod PlanRows
mod Seats
mod Made
