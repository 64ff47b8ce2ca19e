pub mod AccessLemmas
pub mod EventLemmas
pub mod IndexLemmas
pub mod PlanLemmas
