pub mod BlockAnswers
pub mod BlockRuns
