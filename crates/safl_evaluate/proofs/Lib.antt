mod Common
pub mod Refilled
pub mod RunsByParts
pub mod AnswersByParts
pub mod PlainByParts
pub mod HeldByParts
pub mod LaidByParts
pub mod LooksByParts
pub mod LooksWhole
pub mod PlansByBodies
pub mod AsksAlong
