pub mod Lists
pub mod PlanOrder
pub mod PlanSteps
pub mod Plans
pub mod Laws
pub mod StepViews
