pub mod CallLaws
pub mod RuleTexts
