mod Common
pub mod KeptByRefresh
pub mod WritesAreSteps
pub mod WordsFit
pub mod KeptByEvents
pub mod StatesByEvents
pub mod KeptAtFirst
pub mod LawsOfKept
pub mod EnabledByPlace
mod WorkedRun
pub mod WalksByTurns
pub mod MembersAndSites
pub mod SetsPutRight
pub mod SeenByUnits
pub mod CallsOfSites
pub mod EventAtPlace
pub mod SetsAtFirst
pub mod WantsForgotten
pub mod RemembersByUnits
