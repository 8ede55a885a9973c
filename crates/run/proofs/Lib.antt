-- Behaviour is about runs alone, Analysis about demands and windows alone; Result joins them. The theorem is Result.Promise.promise.
pub mod Picks
pub mod Tasks
pub mod Behaviour
pub mod Analysis
pub mod Result
mod Cases
