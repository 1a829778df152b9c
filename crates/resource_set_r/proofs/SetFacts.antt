-- What is known of a set that is read.
use Rattle.std.proofs.Common.{◌≡◌, ◌⊎◌, ℕ, zero, suc, ◌+◌, ◌-◌, ◌<◌, ◌≤◌, ◌==◌, Bool, true, false, cond, List, [], ◌∷◌}
use Rattle.std.proofs.Common.{◌++◌, length, Option, Some, None, Result, Ok, Err, inl, inr, refl, sym, ◌∙◌, ap, subst}
use Rattle.std.proofs.Common.{arith, codes, true≢false}
use Rattle.std.specs.List.{AllByRecursion}
use Rattle.std.specs.Result.{result_map_both}
use Rattle.std.proofs.lemmas.Bool.{eqb-true, cases_Bool}
use Rattle.serde_json.specs.Data.{Data, Items, no_items, item}
use Rattle.serde_json.specs.Find.{get, as_str}
use Rattle.json_whole.specs.Field.{text_field, text_or_kind}
use Rattle.json_fields.specs.Values.{result_and_then, object_value, object_field, list_field}
use Rattle.json_fields.proofs.Results.{then_ok}
use Rattle.idset_text.specs.declared.idsets.Range.{Range}
use Rattle.idset_text.specs.declared.hostlists.Hosts.{Hosts}
use Rattle.idset_text.specs.Idsets.{idset_of, Rises, ids_of}
use Rattle.idset_text.specs.Hostlists.{names_of}
use Rattle.idset_text.proofs.IdsetTexts.{idset_was_read, idset_rises}
use Rattle.resource_set_r.specs.declared.faults.FieldPath.{FieldPath}
use Rattle.resource_set_r.specs.declared.faults.FieldPath.TheVariants as field
use Rattle.resource_set_r.specs.declared.faults.Misread.{Misread}
use Rattle.resource_set_r.specs.declared.faults.Misread.TheVariants as misread
use Rattle.resource_set_r.specs.declared.sets_read.RRow.{RRow}
use Rattle.resource_set_r.specs.declared.sets_read.RSet.{RSet}
use Rattle.resource_set_r.specs.Misreads.{at_field}
use Rattle.resource_set_r.specs.ReadRows.{idset_read, idset_text_at, idset_or_none, idset_field, row_with, row_in}
use Rattle.resource_set_r.specs.ReadRows.{row_of, rows_from, rows_in, ranges_in, IsRepeatedRank}
use Rattle.resource_set_r.specs.ReadR.{hosts_from, hosts_fit, hosts_for, hosts_in, nodelist_or_none, seconds_of}
use Rattle.resource_set_r.specs.ReadR.{set_with, IsSetOf}

-- ---- elements

-- the ids of each element's cores rise, and those of its gpus
abbrev pub DoRise : List RRow → Type 0
DoRise rows = AllByRecursion (λ row. Rises 0 row.cores × Rises 0 row.gpus) rows

read_is : (at : FieldPath) (o : Result (List Range) ℕ) (ranges : List Range) → idset_read at o ≡ Ok ranges →
    o ≡ Ok ranges
read_is at (Ok xs) ranges e = let same : xs ≡ ranges = cc in ap Ok same
read_is at (Err k) ranges e = absurd (cc)

given_rises : (at : FieldPath) (o : Option Data) (ranges : List Range) → idset_or_none at o ≡ Ok ranges →
    Rises 0 ranges
given_rises at None ranges e = let same : [] ≡ ranges = cc in
    subst (λ (rs : List Range). Rises 0 rs) same tt
given_rises at (Some d) ranges e =
    let text = then_ok (at_field at (text_or_kind (as_str d))) (idset_text_at at) ranges e in
    idset_rises text.0 ranges (idset_was_read text.0 ranges (read_is at (idset_of text.0) ranges text.2))

row_is : (a b : RRow) → ◌≡◌ {A = Result RRow Misread} (Ok a) (Ok b) → a ≡ b
row_is a b e = cc

row_fair : (at : ℕ) (d : Data) (row : RRow) → row_of at d ≡ Ok row →
    Rises 0 row.cores × Rises 0 row.gpus
row_fair at d row e =
    let o = then_ok (at_field (field.Row at) (object_value d)) (row_in at) row e in
    let ranks = then_ok (idset_field (field.Rank at) (codes "rank") o.0)
    (λ ranks. result_and_then (at_field (field.Children at) (object_field (codes "children") o.0))
    (row_with at ranks)) row o.2 in
    let children = then_ok (at_field (field.Children at) (object_field (codes "children") o.0))
    (row_with at ranks.0) row ranks.2 in
    let cores = then_ok (idset_or_none (field.Core at) (get (codes "core") children.0))
    (λ cores. result_and_then (idset_or_none (field.Gpu at) (get (codes "gpu") children.0))
    (λ gpus. Ok (record { ranks = ranks.0; cores = cores; gpus = gpus }))) row children.2 in
    let gpus = then_ok (idset_or_none (field.Gpu at) (get (codes "gpu") children.0))
    (λ gpus. Ok (record { ranks = ranks.0; cores = cores.0; gpus = gpus })) row cores.2 in
    let same = row_is (record { ranks = ranks.0; cores = cores.0; gpus = gpus.0 }) row gpus.2 in
    subst (λ (r : RRow). Rises 0 r.cores × Rises 0 r.gpus) same (
      given_rises (field.Core at) (get (codes "core") children.0) cores.0 cores.1,
      given_rises (field.Gpu at) (get (codes "gpu") children.0) gpus.0 gpus.1,
    )

mapped_ok : {A B E : Type 0} (r : Result A E) (f : A → B) (y : B) →
    result_map_both f (λ m. m) r ≡ Ok y → (x : A) × (r ≡ Ok x) × (f x ≡ y)
mapped_ok (Ok x) f y e = let same : f x ≡ y = cc in (x, refl, same)
mapped_ok (Err m) f y e = absurd (cc)

rows_fair : (at : ℕ) (ds : Items) (rows : List RRow) → rows_from at ds ≡ Ok rows → DoRise rows
rows_fair at no_items rows e = let same : [] ≡ rows = cc in subst (λ (rs : List RRow). DoRise rs) same tt
rows_fair at (item d ds) rows e =
    let first = then_ok (row_of at d)
    (λ row. result_map_both (λ rows. row ∷ rows) (λ m. m) (rows_from (suc at) ds)) rows e in
    let others = mapped_ok (rows_from (suc at) ds) (λ rows. first.0 ∷ rows) rows first.2 in
    subst (λ (rs : List RRow). DoRise rs) others.2
    (row_fair at d first.0 first.1, rows_fair (suc at) ds others.0 others.1)

-- ---- hosts

fit : (rows : List RRow) (ds : Items) (hosts found : List Hosts) →
    ◌≡◌ {A = Result (List Hosts) Misread} (cond (hosts_fit ds rows hosts) (Ok hosts) (Err misread.Hosts)) (Ok found) →
    (hosts ≡ found) × (hosts_fit ds rows hosts ≡ true)
fit rows ds hosts found e = by (hosts_fit ds rows hosts) refl e
  where
    by : (b : Bool) → hosts_fit ds rows hosts ≡ b →
        ◌≡◌ {A = Result (List Hosts) Misread} (cond b (Ok hosts) (Err misread.Hosts)) (Ok found) →
        (hosts ≡ found) × (hosts_fit ds rows hosts ≡ true)
    by true is e = (let same : hosts ≡ found = cc in same, is)
    by false is e = absurd (cc)

hosts_are : (rows : List RRow) (ds : Items) (hosts : List Hosts) → hosts_for rows ds ≡ Ok hosts →
    (names_of hosts ≡ []) ⊎ (length (names_of hosts) ≡ length (ids_of (ranges_in rows)))
hosts_are rows no_items hosts e =
    let read = then_ok (hosts_from 0 no_items) (λ hosts. cond (hosts_fit no_items rows hosts) (Ok hosts)
    (Err misread.Hosts)) hosts e in
    let same = (fit rows no_items read.0 hosts read.2).0 in
    let none : ◌≡◌ {A = Result (List Hosts) Misread} (Ok []) (Ok read.0) = read.1 in
    inl (ap names_of (sym same ∙ sym (let is : [] ≡ read.0 = cc in is)))
hosts_are rows (item d ds) hosts e =
    let read = then_ok (hosts_from 0 (item d ds)) (λ hosts. cond (hosts_fit (item d ds) rows hosts) (Ok hosts)
    (Err misread.Hosts)) hosts e in
    let both = fit rows (item d ds) read.0 hosts read.2 in
    inr (ap (λ (hs : List Hosts). length (names_of hs)) (sym both.0)
    ∙ eqb-true (length (names_of read.0)) (length (ids_of (ranges_in rows))) both.1)

set_is : (a b : RSet) → ◌≡◌ {A = Result RSet Misread} (Ok a) (Ok b) → a ≡ b
set_is a b e = cc

-- ---- the whole

pub record AreFacts (set : RSet) : Type 0 where
  pub apart : IsRepeatedRank (ranges_in set.rows) None
  pub hosts : (names_of set.hosts ≡ []) ⊎ (length (names_of set.hosts) ≡ length (ids_of (ranges_in set.rows)))
  pub rows : DoRise set.rows

pub facts_of : (d : Data) (set : RSet) → IsSetOf d set → AreFacts set
facts_of d set (e, rows, has, apart, read) =
    let hosts = then_ok (hosts_in rows e) (λ hosts. result_and_then (seconds_of e) (λ seconds.
    Ok (record { rows = rows; hosts = hosts; start = seconds.0; end = seconds.1 }))) set read in
    let seconds = then_ok (seconds_of e) (λ seconds.
    Ok (record { rows = rows; hosts = hosts.0; start = seconds.0; end = seconds.1 })) set hosts.2 in
    let same = set_is (record { rows = rows; hosts = hosts.0; start = seconds.0.0; end = seconds.0.1 }) set seconds.2 in
    let list = then_ok (nodelist_or_none (get (codes "nodelist") e)) (hosts_for rows) hosts.0 hosts.1 in
    let values = then_ok (at_field field.RLite (list_field (codes "R_lite") e)) (rows_from 0) rows has.1 in
    subst AreFacts same (record {
      apart = apart;
      hosts = hosts_are rows list.0 hosts.0 list.2;
      rows = rows_fair 0 values.0 rows values.2;
    })
