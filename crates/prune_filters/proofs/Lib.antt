pub mod TextLaws
pub mod ShortLaws
pub mod RuleLaws
