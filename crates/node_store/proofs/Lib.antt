mod PartMemory
mod PartLaws
