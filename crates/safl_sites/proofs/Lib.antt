mod Common
pub mod SmallPrograms
mod WorkedPlans
pub mod SetsByWords
pub mod AddsInSteps
pub mod PartsOfParts
pub mod ReachBySites
pub mod SetsJoined
pub mod SetsTouched
pub mod EarlierConflicts
pub mod NumbersFollow
pub mod TablesByBodies
pub mod BeforeByCalls
pub mod PeersByOne
pub mod ConflictsByOne
pub mod AbleByParts
pub mod FoundByParts
pub mod LetsReach
pub mod FoundRenamed
pub mod KeptByBodies
pub mod TablesDecide
