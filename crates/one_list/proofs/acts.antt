-- Each kind of event is an act or none, and what it leaves of nodes.
pub mod BuildActs
pub mod DeliveryActs
pub mod EventActs
pub mod InputActs
pub mod LocalFacts
mod MembersLeft
pub mod StepActs
pub mod StopsInDeliveries
mod WaitingDeliveries
