pub mod Courses
pub mod Answered
pub mod Played
pub mod Searched
pub mod Judged
pub mod Candidates
pub mod Costs
pub mod SearchCosts
