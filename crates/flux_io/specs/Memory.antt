-- The objects in memory and the adapters as contracts see them, and what their calls do.
use Rattle.std.specs.Prelude.{◌≡◌, ◌-◌, ◌<◌, ◌++◌, ◌↔◌, ℕ, List, length, min, take, drop, Result, IfOk, IsErr}
use Rattle.std.specs.Prelude.{MatchResult, refl}
use Rattle.std.specs.Coded.{Coded, code_by, coded×, coded_ℕ}
use Rattle.flux_io.specs.Counts.{next_count}
use Rattle.flux_io.specs.Stores.{Stored}

-- the calls so far, and the numbers, from 1, of those that fail
pub record Schedule : Type 0 where
  pub made : ℕ
  pub fails : List ℕ

-- a source: the bytes that it has left, and the most that it gives in one call
pub record SourceState : Type 0 where
  pub left : List ℕ
  pub piece : ℕ

-- a source of which some calls fail, with its count of faults
pub record FailingSource : Type 0 where
  pub source : SourceState
  pub calls : Schedule
  pub faults : ℕ

-- a sink: the bytes that it took, how many more it has memory for, the most that it takes in one call,
-- and its count of faults
pub record SinkState : Type 0 where
  pub held : List ℕ
  pub room : ℕ
  pub piece : ℕ
  pub faults : ℕ

-- a sink of which some calls fail
pub record FailingSink : Type 0 where
  pub sink : SinkState
  pub calls : Schedule

-- a store: its files, and its count of refused names
pub record StoreState : Type 0 where
  pub files : Stored
  pub refused : ℕ

-- a store of which some calls fail, with its count of faults
pub record FailingStore : Type 0 where
  pub store : StoreState
  pub calls : Schedule
  pub faults : ℕ

-- one more call was made
abbrev pub next_call : Schedule → Schedule
next_call calls = record calls { made = next_count calls.made }

-- a pull gave the next bytes, as many as the room and a piece hold, and changed nothing behind them
pub record AreNextBytes (old new : SourceState) (count : ℕ) (before after : List ℕ) : Type 0 where
  pub most : count ≡ min (length before) (min old.piece (length old.left))
  pub bytes : after ≡ take count old.left ++ drop count before
  pub rest : new ≡ record old { left = drop count old.left }

-- a push took the first bytes, as many as a piece holds, and failed exactly where there is no room for these
pub record TakesPiece {E : Type 0} (old new : SinkState) (bytes : List ℕ)
    (result : Result ℕ E) : Type 0 where
  pub failed : IsErr result ↔ (old.room < min (length bytes) old.piece)
  pub most : IfOk result (λ count. count ≡ min (length bytes) old.piece)
  pub state : MatchResult result
      (λ count. new ≡ record old { held = old.held ++ take count bytes; room = old.room - count })
      (λ _. new ≡ record old { faults = next_count old.faults })

-- a reader or a writer of the standard library, with its count of faults
pub record Counted (A : Type 0) : Type 0 where
  pub inner : A
  pub faults : ℕ

-- it is stored as the pair of its fields
abbrev pub counted_code : {A : Type 0} → Coded A → Coded (Counted A)
counted_code {A} code = code_by (A × ℕ) (coded× code coded_ℕ) (λ c. (c.inner, c.faults))
    (λ p. record { inner = p.0; faults = p.1 }) (λ _. refl)

-- a store of the files that something opens, with its counts of faults and of refused names
pub record CountedStore (A : Type 0) : Type 0 where
  pub opener : A
  pub faults : ℕ
  pub refused : ℕ

-- it is stored as the tuple of its fields
abbrev pub counted_store_code : {A : Type 0} → Coded A → Coded (CountedStore A)
counted_store_code {A} code = code_by (A × (ℕ × ℕ)) (coded× code (coded× coded_ℕ coded_ℕ))
    (λ c. (c.opener, (c.faults, c.refused)))
    (λ p. record { opener = p.0; faults = p.1.0; refused = p.1.1 }) (λ _. refl)
