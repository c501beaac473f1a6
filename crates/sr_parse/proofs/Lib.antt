pub mod Outcomes
pub mod OneOutcome
