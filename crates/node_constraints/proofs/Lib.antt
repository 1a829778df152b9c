pub mod FaultLaws
pub mod FilterLaws
pub mod TextLaws
pub mod StepLaws
pub mod BarLaws
pub mod RankLaws
pub mod ListedLaws
