pub mod SaidLaws
pub mod RequestLaws
pub mod TaskLaws
pub mod PartLaws
