pub mod Analysis
pub mod Verdict
pub mod Accepted
pub mod Late
pub mod Cases
