pub mod Beside
pub mod ImageLaws
pub mod PlanLaws
pub mod ClassLaws
pub mod OnePlan
