use Rattle.std.proofs.Common.{◌≡◌, ◌+◌, inl, inr, ℕ, List, ◌∷◌, length, length-append, drop, ap, ◌∙◌, arith, subst}
use Rattle.std.proofs.Common.{Contains}
use Rattle.std.proofs.lemmas.List.{drop_all}
use Rattle.flux_defs.specs.declared.requests.Need.{Need}
use Rattle.dfu_match.specs.Tables.{all_of, needs_all}
use Rattle.dfu_match.proofs.CountLaws.{item_split}
use Rattle.dfu_match.proofs.DemandLaws as laws
use Rattle.dfu_match.proofs.demanding.+gathering.Goals as goal

pub gather-returns-in_ok-gather_all-in-Vert : goal.gather-returns-in_ok-gather_all-in-Vert
gather-returns-in_ok-gather_all-in-Vert t c =
    let vs = c.args.kinds.now.graph.now.resources.vertices in
    let first = c.in_ok-note-in-Vert.ensures in
    let rest = c.in_ok-gather_all-in-Vert.ensures in
    record {
      all = λ kind h. elim h [
        | inl old ↦ rest.all kind (inl (first.kept kind old))
        | inr some ↦ elim (laws.some_Vert vs kind c.in-Vert.kind c.in-Vert.count c.in-Vert.hold c.in-Vert.needs
            (rw c.in-Vert.is at some)) [
              | inl own ↦ rest.all kind (inl (subst (λ (k : ℕ). Contains c.note.new.found.items k) own first.there))
              | inr inner ↦ rest.all kind (inr inner)
            ]
      ];
      few = (
          let e = ap length (laws.all_Vert c.in-Vert.kind c.in-Vert.count c.in-Vert.hold c.in-Vert.needs) in
          let one = first.few in
          let more = rest.few in
          rw c.in-Vert.is (omega arith));
    }

pub gather-returns-in_ok-note-in-Pool : goal.gather-returns-in_ok-note-in-Pool
gather-returns-in_ok-note-in-Pool t c =
    let vs = c.args.kinds.now.graph.now.resources.vertices in
    let first = c.in_ok-note-in-Pool.ensures in
    record {
      all = λ kind h. elim h [
        | inl old ↦ first.kept kind old
        | inr some ↦ subst (λ (k : ℕ). Contains c.note-in-Pool.new.found.items k)
            (laws.some_Pool vs kind c.in-Pool.kind c.in-Pool.quantity (rw c.in-Pool.is at some)) first.there
      ];
      few = (let one = first.few in rw c.in-Pool.is (omega arith));
    }

pub gather-returns-in_ok-gather_all-in-Spread : goal.gather-returns-in_ok-gather_all-in-Spread
gather-returns-in_ok-gather_all-in-Spread t c =
    let vs = c.args.kinds.now.graph.now.resources.vertices in
    let first = c.in_ok-note_nodes-in-Spread.ensures in
    let rest = c.in_ok-gather_all-in-Spread.ensures in
    record {
      all = λ kind h. elim h [
        | inl old ↦ rest.all kind (inl (first.kept kind old))
        | inr some ↦ elim (laws.some_Spread vs kind c.in-Spread.count c.in-Spread.needs (rw c.in-Spread.is at some)) [
          | inl node ↦ rest.all kind (inl (first.there kind node))
          | inr inner ↦ rest.all kind (inr inner)
        ]
      ];
      few = (
          let e = ap length (laws.all_Spread c.in-Spread.count c.in-Spread.needs) in
          let one = first.few in
          let more = rest.few in
          rw c.in-Spread.is (omega arith));
    }

pub gather_all-loop-need-preserved : goal.gather_all-loop-need-preserved
gather_all-loop-need-preserved t c =
    let vs = c.args.kinds.now.graph.now.resources.vertices in
    let items : List Need = c.items-need-items.result.now in
    let i = c.loop-need.need-index in
    let need = c.need-item.result in
    let split : drop i items ≡ need ∷ drop (i + 1) items = item_split items i need c.loop-need-test.true
    c.need-item.is in
    let now = c.in_ok-gather.ensures in
    record {
      all = λ kind h. elim (c.loop-need.invariant.all kind h) [
        | inl there ↦ inl (now.all kind (inl there))
        | inr left ↦ elim (laws.some_next vs kind (drop i items) (drop (i + 1) items) need split left) [
          | inl one ↦ inl (now.all kind (inr one))
          | inr rest ↦ inr rest
        ]
      ];
      few = (
          let e : length (needs_all (drop i items)) ≡ length (all_of need) + length (needs_all (drop (i + 1) items)) =
          ap (λ (ns : List Need). length (needs_all ns)) split
          ∙ length-append (all_of need) (needs_all (drop (i + 1) items)) in
          let before = c.loop-need.invariant.few in
          let one = now.few in
          omega arith);
    }

pub gather_all-returns : goal.gather_all-returns
gather_all-returns t c =
    let vs = c.args.kinds.now.graph.now.resources.vertices in
    let items : List Need = c.items-need-items.result.now in
    let none = drop_all c.loop-need.need-index items c.loop-need-test.false in
    record {
      all = λ kind h. elim (c.loop-need.invariant.all kind (rw c.items-need-items.ensures h)) [
        | inl there ↦ there
        | inr left ↦ absurd (laws.none_left vs kind (drop c.loop-need.need-index items) none left)
      ];
      few = (
          let e = ap (λ (ns : List Need). length (needs_all ns)) none in
          let before = c.loop-need.invariant.few in
          rw (← c.items-need-items.ensures) (omega arith));
    }
