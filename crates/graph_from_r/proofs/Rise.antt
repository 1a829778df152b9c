-- The ids of rising ranges rise.
use Rattle.std.proofs.Common.{◌≡◌, ℕ, zero, suc, ◌+◌, ◌-◌, ◌≤◌, List, [], ◌∷◌, ◌++◌, arith}
use Rattle.flux_defs.specs.declared.limits.TheConstants.{NO_ID}
use Rattle.list_laws.proofs.Lists.{all_along}
use Rattle.idset_text.specs.declared.idsets.Range.{Range}
use Rattle.idset_text.specs.Idsets.{Rises, ids_of, ids_from}
use Rattle.resource_set_r.specs.declared.sets_read.RRow.{RRow}
use Rattle.resource_set_r.proofs.SetFacts.{DoRise}
use Rattle.graph_from_r.specs.Graphs.{RiseFrom, HasFairRows}

lower : (least low : ℕ) (ids : List ℕ) → low ≤ least → RiseFrom least ids → RiseFrom low ids
lower least low [] le rise = tt
lower least low (id ∷ ids) le rise = (let here = rise.0 in omega arith, rise.1, rise.2)

between_rise : (count lo least next : ℕ) (rest : List ℕ) → least ≤ lo → lo + count ≤ NO_ID → lo + count ≡ next →
    RiseFrom next rest → RiseFrom least (ids_from count lo ++ rest)
between_rise zero lo least next rest le few is rise = lower next least rest (omega arith) rise
between_rise (suc count) lo least next rest le few is rise =
    (le, omega arith, between_rise count (lo + 1) (lo + 1) next rest (omega arith) (omega arith) (omega arith) rise)

pub rise_of : (least : ℕ) (ranges : List Range) → Rises least ranges → RiseFrom least (ids_of ranges)
rise_of least [] rises = tt
rise_of least (range ∷ ranges) rises =
    let ordered = rises.1.ordered in
    let small = rises.1.small in
    between_rise (range.hi + 1 - range.lo) range.lo least (range.hi + 1) (ids_of ranges) rises.0 (omega arith)
    (omega arith) (rise_of (range.hi + 1) ranges rises.2)

-- of each element
pub fair_of : (rows : List RRow) → DoRise rows → HasFairRows rows
fair_of rows rise = all_along (λ row. Rises 0 row.cores × Rises 0 row.gpus)
    (λ row. RiseFrom 0 (ids_of row.cores) × RiseFrom 0 (ids_of row.gpus))
    (λ row both. (rise_of 0 row.cores both.0, rise_of 0 row.gpus both.1)) rows rise
