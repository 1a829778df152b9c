pub mod Offers
pub mod MatchLaws
