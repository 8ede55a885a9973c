-- Jobs end within windows that close, and the number of a completed task is reached: the promise.
pub mod Shares
pub mod Fits
pub mod Within
pub mod Waited
pub mod Exact
pub mod Accepted
pub mod Promise
