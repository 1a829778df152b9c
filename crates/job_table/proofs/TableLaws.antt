-- A part of a table, seen as a finite map.
use Rattle.std.proofs.Common.{◌≡◌, ℕ, List, sym, ◌∙◌, ap, inl, inr}
use Rattle.std.specs.Ordering.{nat_cmp}
use Rattle.std.specs.Cmp.{nat_cmp_total}
use Rattle.std.specs.FinMap.{find, get, insert, from_entries, get-from_entries, same_map, nat_cmp-IsAntisymmetric}
use Rattle.job_table.specs.declared.tables.Row.{Row}
use Rattle.job_table.specs.Parts.{Sets}
use Rattle.job_table.proofs.RowLaws.{get_same, get_other}
use Rattle.job_table.proofs.KeyLaws.{same_or_not}

-- what the map of entries has at a key
pub get_entries : (entries : List (ℕ × Row)) (key : ℕ) →
    get (from_entries {R = nat_cmp} entries) key ≡ find nat_cmp key entries
get_entries entries key = get-from_entries nat_cmp_total entries key

-- entries with another row at a key are the map with that row
pub insert_entries : (old new : List (ℕ × Row)) (key : ℕ) (row : Row) → Sets old new key row →
    from_entries {R = nat_cmp} new ≡ insert (from_entries old) key row
insert_entries old new key row s =
    same_map nat_cmp_total nat_cmp-IsAntisymmetric _ _ (λ q. get_entries new q ∙ elim (same_or_not q key) [
      | inl e ↦ ap (λ k. find nat_cmp k new) e ∙ s.here
          ∙ sym (ap (λ k. get (insert (from_entries {R = nat_cmp} old) key row) k) e
          ∙ get_same (from_entries old) key row)
      | inr ne ↦ s.others q ne ∙ sym (get_other (from_entries old) key row q ne ∙ get_entries old q)
    ])
