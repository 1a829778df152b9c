use Rattle.std.proofs.Common.{◌≡◌, ◌≢◌, false, ◌+◌, ◌-◌, ◌<◌, List, length, nat_le, rules, subst, sym, ◌∙◌, arith}
use Rattle.std.proofs.Common.{slice_index_or}
use Rattle.std.specs.List.Sorted.{IsNonDecreasingBy}
use Rattle.std.proofs.lemmas.List.Sorted.{IsPartitionPoint-from_clause}
use Rattle.covered_numbers.specs.declared.stretches.Stretch.{Stretch}
use Rattle.covered_numbers.specs.Covers.{is_covered}
use Rattle.covered_numbers.proofs.CoverLaws.{BeginBy, parted, no_look, one_look}
use Rattle.covered_numbers.proofs.stretches.Covered.has.Goals as goal

pub returns-then-begun-eq0 : goal.returns-then-begun-eq0
returns-then-begun-eq0 c =
    let ss = c.as_slice-stretches.result.now in
    let value : ss ≡ c.self.inside.stretches.items = c.as_slice-stretches.ensures.value in
    let same : ss ≡ c.args.self.now = value ∙ c.self.view_is in
    let up = subst (IsNonDecreasingBy (λ (s : Stretch). s.first)) (sym value) c.self.inside.begin in
    let point : BeginBy ss c.args.number c.partition_point-begun.result
    = IsPartitionPoint-from_clause (λ (s : Stretch). nat_le s.first c.args.number) ss c.partition_point-begun.result
    c.partition_point-begun.ensures.partitioned (parted ss c.args.number up) (λ a r q k. search rules) in
    subst (λ (l : List Stretch). false ≡ is_covered l c.args.number) same
    (no_look ss c.args.number (subst (BeginBy ss c.args.number) c.if-begun-eq0.true point))

pub returns : goal.returns
returns c =
    let ss = c.as_slice-stretches.result.now in
    let k = c.partition_point-begun.result in
    let value : ss ≡ c.self.inside.stretches.items = c.as_slice-stretches.ensures.value in
    let same : ss ≡ c.args.self.now = value ∙ c.self.view_is in
    let up = subst (IsNonDecreasingBy (λ (s : Stretch). s.first)) (sym value) c.self.inside.begin in
    let ends = subst (IsNonDecreasingBy (λ (s : Stretch). s.last)) (sym value) c.self.inside.end in
    let point : BeginBy ss c.args.number k
    = IsPartitionPoint-from_clause (λ (s : Stretch). nat_le s.first c.args.number) ss k
    c.partition_point-begun.ensures.partitioned (parted ss c.args.number up) (λ a r q k. search rules) in
    let some : k ≢ 0 = c.if-begun-eq0.false in
    let next : k ≡ k - 1 + 1 = omega (arith, some) in
    let bound = c.partition_point-begun.ensures.bound in
    let within : k - 1 < length ss = omega (arith, some, bound) in
    let d : Stretch = record { first = 0; last = 0 } in
    subst (λ (l : List Stretch). nat_le c.args.number (slice_index_or ss (k - 1) d).last
    ≡ is_covered l c.args.number) same
    (one_look ss c.args.number (k - 1) d ends within (subst (BeginBy ss c.args.number) next point))
