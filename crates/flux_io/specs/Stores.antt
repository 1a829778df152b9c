-- What a read of a whole file answers.
use Rattle.std.specs.Prelude.{◌≡◌, ◌⊎◌, ◌<◌, ◌≤◌, ◌++◌, ℕ, List, [], ◌∷◌, length, if◌then◌else◌, Option, Some, None}
use Rattle.std.specs.Prelude.{IfSome, MatchOption, Result, Ok, Err}
use Rattle.std.specs.Str.{bytes_eq}
use Rattle.flux_io.specs.Counts.{Rose, next_count}
use Rattle.flux_io.specs.declared.stores.Got.{Got}
use Rattle.flux_io.specs.declared.stores.Got.TheVariants.{Whole, Absent, Long}
use Rattle.flux_io.specs.declared.stores.FileFail.{FileFail}
use Rattle.flux_io.specs.declared.stores.FileFail.TheVariants.{Failed, Memory}

-- files in order, each a name and its bytes
abbrev pub Stored : Type 0
Stored = List (List ℕ × List ℕ)

-- the bytes of the first file of the name
abbrev pub file_of : Stored → List ℕ → Option (List ℕ)
file_of [] name = None
file_of (file ∷ files) name = if bytes_eq file.0 name then Some file.1 else file_of files name

-- `Whole` appends at most `most` bytes, and any other answer none;
-- where the store tells its files, `Whole` appends the file's bytes, `Absent` means no file and `Long` one of more
-- bytes
pub record ReadsFile (told : Option Stored) (name : List ℕ) (most : ℕ) (old new : List ℕ)
    (result : Result Got FileFail) : Type 0 where
  pub whole : result ≡ Ok Whole → IfSome told (λ files. (bytes : List ℕ) × (file_of files name ≡ Some bytes)
      × (length bytes ≤ most) × (new ≡ old ++ bytes))
  pub appends : result ≡ Ok Whole → (bytes : List ℕ) × (length bytes ≤ most) × (new ≡ old ++ bytes)
  pub same : (result ≡ Ok Whole → ⊥) → new ≡ old
  pub absent : result ≡ Ok Absent → IfSome told (λ files. file_of files name ≡ None)
  pub long : result ≡ Ok Long → IfSome told (λ files. (bytes : List ℕ) × (file_of files name ≡ Some bytes)
      × (most < length bytes))

-- no count falls; `Failed` comes only where the faults rose, `Absent` and `Long` only where the refused names did
pub record HasFileCause (faults_before faults_now refused_before refused_now : ℕ)
    (result : Result Got FileFail) : Type 0 where
  pub later : faults_before ≤ faults_now
  pub failed : result ≡ Err Failed → Rose faults_before faults_now
  pub refused_later : refused_before ≤ refused_now
  pub absent : result ≡ Ok Absent → Rose refused_before refused_now
  pub long : result ≡ Ok Long → Rose refused_before refused_now

-- the answer that a file of these bytes gives, or a name without a file, but that memory may be short for `Whole`
abbrev pub AnswersFile : Option (List ℕ) → ℕ → Result Got FileFail → Type 0
AnswersFile file most result = MatchOption file (result ≡ Ok Absent)
    (λ bytes. (most < length bytes → result ≡ Ok Long)
    × (length bytes ≤ most → (result ≡ Ok Whole) ⊎ (result ≡ Err Memory)))

-- the count of faults after an answer: one more at `Failed`
abbrev pub faults_after : ℕ → Result Got FileFail → ℕ
faults_after count (Err Failed) = next_count count
faults_after count (Err Memory) = count
faults_after count (Ok got) = count

-- the count of refused names after an answer: one more at `Absent` and `Long`
abbrev pub refused_after : ℕ → Result Got FileFail → ℕ
refused_after count (Ok Absent) = next_count count
refused_after count (Ok Long) = next_count count
refused_after count (Ok Whole) = count
refused_after count (Err fault) = count

-- where the bytes of a file are known: `Whole` appends them, `Absent` never comes, and `Long` only for more than `most`
pub record ReadsKnown (known : Option (List ℕ)) (most : ℕ) (old new : List ℕ)
    (result : Result Got FileFail) : Type 0 where
  pub whole : result ≡ Ok Whole → IfSome known (λ bytes. new ≡ old ++ bytes)
  pub absent : result ≡ Ok Absent → known ≡ None
  pub long : result ≡ Ok Long → IfSome known (λ bytes. most < length bytes)
