pub mod PlaceLaws
pub mod PageLaws
pub mod RaiseLaws
pub mod ListLaws
