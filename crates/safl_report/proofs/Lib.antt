pub mod NamedLines
pub mod OneLineMore
pub mod CountsByOne
pub mod RegistersByOne
pub mod OnePlan
