-- What is known of the rows that are read.
use Rattle.std.proofs.Common.{◌≡◌, ℕ, suc, ◌≤◌, List, [], ◌∷◌, ◌++◌, Some, None, Result, Ok, Err, refl, ap, subst, All}
use Rattle.std.proofs.Common.{IfOk, IfErr, ◌+◌, inl, inr, codes}
use Rattle.std.specs.List.{AllByRecursion}
use Rattle.std.specs.Result.{result_map_both}
use Rattle.std.proofs.lemmas.List.Elements.{All-from_recursion}
use Rattle.serde_json.specs.Data.{Data, Items, no_items, item}
use Rattle.serde_json.specs.Find.{get}
use Rattle.json_whole.specs.Field.{text_field}
use Rattle.json_fields.specs.Values.{result_and_then, object_value, object_field, list_field}
use Rattle.idset_text.specs.declared.idsets.Range.{Range}
use Rattle.idset_text.specs.Idsets.{idset_of, Rises}
use Rattle.idset_text.proofs.IdsetTexts.{idset_was_read, idset_rises}
use Rattle.resource_set_r.specs.declared.faults.FieldPath.{FieldPath}
use Rattle.resource_set_r.specs.declared.faults.FieldPath.TheVariants as field
use Rattle.resource_set_r.specs.declared.faults.Misread.{Misread}
use Rattle.resource_set_r.specs.declared.faults.Misread.TheVariants as misread
use Rattle.resource_set_r.specs.declared.faults.ReadError.{ReadError}
use Rattle.resource_set_r.specs.declared.faults.ReadError.TheVariants as error
use Rattle.resource_set_r.specs.declared.faults.RFault.{RFault}
use Rattle.resource_set_r.specs.declared.faults.RFault.TheVariants as fault
use Rattle.resource_set_r.specs.declared.sets_read.RRow.{RRow}
use Rattle.resource_set_r.specs.declared.sets_read.RSet.{RSet}
use Rattle.resource_set_r.specs.Misreads.{at_field, IsResultOf}
use Rattle.resource_set_r.specs.ReadRows.{idset_read, idset_text_at, idset_or_none, idset_field, row_with, row_in}
use Rattle.resource_set_r.specs.ReadRows.{row_of, rows_from, rows_in, ranges_in, execution_of, IsRepeatedRank}
use Rattle.resource_set_r.specs.ReadR.{set_with, IsSetOf, IsErrorOf, IsMisreadOf, IsToldAs, HasMisread, IsFirstFault}
use Rattle.json_fields.proofs.Results.{then_ok}

-- ---- a value that comes of two steps

mapped_ok : {A B E : Type 0} (r : Result A E) (f : A → B) (y : B) →
    result_map_both f (λ m. m) r ≡ Ok y → (x : A) × (r ≡ Ok x) × (f x ≡ y)
mapped_ok (Ok x) f y e = let same : f x ≡ y = cc in (x, refl, same)
mapped_ok (Err m) f y e = absurd (cc)

-- ---- ranges

abbrev Ordered : Range → Type 0
Ordered range = range.lo ≤ range.hi

ordered_when_rising : (least : ℕ) (ranges : List Range) → Rises least ranges → AllByRecursion Ordered ranges
ordered_when_rising least [] r = tt
ordered_when_rising least (range ∷ ranges) r = (r.1.ordered, ordered_when_rising (range.hi + 1) ranges r.2)

read_ordered : (at : FieldPath) (o : Result (List Range) ℕ) (ranges : List Range) → idset_read at o ≡ Ok ranges →
    o ≡ Ok ranges
read_ordered at (Ok xs) ranges e = let same : xs ≡ ranges = cc in ap Ok same
read_ordered at (Err k) ranges e = absurd (cc)

idset_ordered : (at : FieldPath) (key : List ℕ) (d : Data) (ranges : List Range) → idset_field at key d ≡ Ok ranges →
    AllByRecursion Ordered ranges
idset_ordered at key d ranges e =
    let text = then_ok (at_field at (text_field key d)) (idset_text_at at) ranges e in
    ordered_when_rising 0 ranges
    (idset_rises text.0 ranges (idset_was_read text.0 ranges (read_ordered at (idset_of text.0) ranges text.2)))

ok_ranks : (ranks cores gpus : List Range) (row : RRow) → ◌≡◌ {A = Result RRow Misread}
    (Ok (record { ranks = ranks; cores = cores; gpus = gpus })) (Ok row) → ranks ≡ row.ranks
ok_ranks ranks cores gpus row e = ap (λ (r : Result RRow Misread). ranks_or_none r) e
  where
    ranks_or_none : Result RRow Misread → List Range
    ranks_or_none (Ok r) = r.ranks
    ranks_or_none (Err m) = []

row_ordered : (at : ℕ) (d : Data) (row : RRow) → row_of at d ≡ Ok row → AllByRecursion Ordered row.ranks
row_ordered at d row e =
    let o = then_ok (at_field (field.Row at) (object_value d)) (row_in at) row e in
    let ranks = then_ok (idset_field (field.Rank at) (codes "rank") o.0)
    (λ ranks. result_and_then (at_field (field.Children at) (object_field (codes "children") o.0))
    (row_with at ranks)) row o.2 in
    let children = then_ok (at_field (field.Children at) (object_field (codes "children") o.0))
    (row_with at ranks.0) row ranks.2 in
    let cores = then_ok (idset_or_none (field.Core at) (get (codes "core") children.0))
    (λ cores. result_and_then (idset_or_none (field.Gpu at) (get (codes "gpu") children.0))
    (λ gpus. Ok (record { ranks = ranks.0; cores = cores; gpus = gpus }))) row children.2 in
    let gpus = then_ok (idset_or_none (field.Gpu at) (get (codes "gpu") children.0))
    (λ gpus. Ok (record { ranks = ranks.0; cores = cores.0; gpus = gpus })) row cores.2 in
    let same : ranks.0 ≡ row.ranks = ok_ranks ranks.0 cores.0 gpus.0 row gpus.2 in
    subst (λ (rs : List Range). AllByRecursion Ordered rs) same
    (idset_ordered (field.Rank at) (codes "rank") o.0 ranks.0 ranks.1)

all_joined : (xs ys : List Range) →
    AllByRecursion Ordered xs → AllByRecursion Ordered ys → AllByRecursion Ordered (xs ++ ys)
all_joined [] ys a b = b
all_joined (x ∷ xs) ys a b = (a.0, all_joined xs ys a.1 b)

rows_ordered : (at : ℕ) (ds : Items) (rows : List RRow) →
    rows_from at ds ≡ Ok rows → AllByRecursion Ordered (ranges_in rows)
rows_ordered at no_items rows e = let same : [] ≡ rows = cc in
    subst (λ (rs : List RRow). AllByRecursion Ordered (ranges_in rs)) same tt
rows_ordered at (item d ds) rows e =
    let first = then_ok (row_of at d)
    (λ row. result_map_both (λ rows. row ∷ rows) (λ m. m) (rows_from (suc at) ds)) rows e in
    let others = mapped_ok (rows_from (suc at) ds) (λ rows. first.0 ∷ rows) rows first.2 in
    subst (λ (rs : List RRow). AllByRecursion Ordered (ranges_in rs)) others.2
    (all_joined first.0.ranks
    (ranges_in others.0) (row_ordered at d first.0 first.1) (rows_ordered (suc at) ds others.0 others.1))

-- no range of a rank falls
pub ranges_ordered : (e : Data) (rows : List RRow) →
    rows_in e ≡ Ok rows → All (λ range. range.lo ≤ range.hi) (ranges_in rows)
ranges_ordered e rows is =
    let ds = then_ok (at_field field.RLite (list_field (codes "R_lite") e)) (rows_from 0) rows is in
    All-from_recursion Ordered (ranges_in rows) (rows_ordered 0 ds.0 rows ds.2)

-- ---- what is found of a value

module _ (e : Data) (rows : List RRow) (read : rows_in e ≡ Ok rows) where
  pub set_found : (r : Result RSet ReadError) → IsResultOf r (set_with rows e) → IsRepeatedRank (ranges_in rows) None →
      IfOk r (λ set. (d : Data) → execution_of d ≡ Ok e → IsSetOf d set)
  set_found (Ok set) gives none = λ d is. (e, rows, (is, read), none, gives)
  set_found (Err m) gives none = tt

  pub error_found : (r : Result RSet ReadError) → IsResultOf r (set_with rows e) →
      IsRepeatedRank (ranges_in rows) None → IfErr r (λ m. (d : Data) → execution_of d ≡ Ok e → IsErrorOf d m)
  error_found (Ok set) gives none = tt
  error_found (Err (error.Misread m)) gives none = λ d is. inr (inr (e, rows, (is, read), none, gives))
  error_found (Err error.Memory) gives none = λ d is. tt

  pub repeated_found : (rank : ℕ) → IsRepeatedRank (ranges_in rows) (Some rank) →
      (d : Data) → execution_of d ≡ Ok e → IsMisreadOf d (misread.RepeatedRank rank)
  repeated_found rank least d is = inr (inl (e, rows, (is, read), rank, least, refl))

-- what is wrong with a value is told of the bytes
pub told : (bytes : List ℕ) (m : Misread) (f : RFault) → IsToldAs m f → HasMisread bytes m → IsFirstFault bytes f
told bytes m fault.NotJson is has = absurd is
told bytes m (fault.Field path k) is has = (is.0, is.1, subst (λ (x : Misread). HasMisread bytes x) is.2 has)
told bytes m fault.Version is has = subst (λ (x : Misread). HasMisread bytes x) is has
told bytes m (fault.Idset path) is has = (is.0, is.1, subst (λ (x : Misread). HasMisread bytes x) is.2 has)
told bytes m fault.Hosts is has = subst (λ (x : Misread). HasMisread bytes x) is has
told bytes m (fault.RepeatedRank rank) is has = subst (λ (x : Misread). HasMisread bytes x) is has
told bytes m fault.Memory is has = tt
