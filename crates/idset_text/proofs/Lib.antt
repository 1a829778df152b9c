pub mod ItemLemmas
pub mod NumberLemmas
pub mod IdsetLemmas
pub mod IdsetTexts
pub mod HostLemmas
pub mod HostlistTexts
pub mod HostGrammar
