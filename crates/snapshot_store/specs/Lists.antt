-- What is true of a list.
use Rattle.std.specs.Prelude.{◌≡◌, ◌+◌, length}
use Rattle.snapshot_store.specs.Parts.{IsPart}
use Rattle.snapshot_store.specs.declared.pages.Pages.TheInside.{Inside}

-- its last items, which stand apart from its tree, are one part of height 1
pub record IsList {T : Type 0} (pages : Inside T) : Type 0 where
  pub len : pages.len ≡ length pages.tree + length pages.tail.0
  pub part : IsPart 1 pages.tail
