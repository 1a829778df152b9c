pub mod CommitLaws
