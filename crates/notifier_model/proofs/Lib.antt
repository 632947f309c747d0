pub mod Examples
pub mod WorkedRuns
pub mod Texts
pub mod Runs
pub mod FirstCases
mod HomeNames
pub mod HomeFacts
pub mod HomeExamples
