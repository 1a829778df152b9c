use Rattle.std.proofs.Common.{◌≡◌, ℕ, List, Err, sym, ◌∙◌, subst, rules}
use Rattle.graph_build.specs.Raw.{raw_graph, raw_names}
use Rattle.graph_build.specs.Table.{IsFaultless, IsFirstFault}
use Rattle.graph_build.specs.declared.raw.RawVertex.{RawVertex}
use Rattle.graph_build.proofs.building.build.Goals as goal

-- what is said of equal types and vertices
moved : (P : List (List ℕ) → List RawVertex → Type 0) (kinds k : List (List ℕ)) (raw r : List RawVertex) → k ≡ kinds →
    r ≡ raw → P k r → P kinds raw
moved P kinds k raw r e_kinds e_raw p = subst (P kinds) e_raw (subst (λ (k : List (List ℕ)). P k r) e_kinds p)

pub returns-in_err-check_raw-clause-told : goal.returns-in_err-check_raw-clause-told
returns-in_err-check_raw-clause-told c =
    let fault = c.in_err-check_raw.field-0.0 in
    let is : c.from_residual-in_err-check_raw.result ≡ Err fault = search rules in
    rw is (moved (λ k r. IsFirstFault (raw_graph k r) (raw_names r) fault) c.args.kinds c.items-2.result.now
    c.args.raw c.items-3.result.now c.items-2.ensures c.items-3.ensures c.in_err-check_raw.ensures.err)

pub build_faultless-requires-clause-fine : goal.build_faultless-requires-clause-fine
build_faultless-requires-clause-fine c =
    moved (λ k r. IsFaultless (raw_graph k r) (raw_names r)) c.items-4.result.now c.items-2.result.now c.args.raw
    c.items-3.result.now (c.items-2.ensures ∙ sym c.items-4.ensures) c.items-3.ensures
    c.in_ok-check_raw.ensures.ok

pub returns-clause-faultless : goal.returns-clause-faultless
returns-clause-faultless c =
    moved (λ k r. IsFaultless (raw_graph k r) (raw_names r)) c.args.kinds c.items-2.result.now c.args.raw
    c.items-3.result.now c.items-2.ensures c.items-3.ensures c.in_ok-check_raw.ensures.ok
