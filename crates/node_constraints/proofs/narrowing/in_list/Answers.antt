use Rattle.std.proofs.Common.{◌≡◌, sym, ◌∙◌, ap, subst, ℕ, List, ◌++◌, codes}
use Rattle.node_constraints.specs.Faults.{list_path}
use Rattle.node_constraints.specs.Narrowing.{Means}
use Rattle.node_constraints.proofs.narrowing.in_list.Goals as goal

pub returns-in-Ok-joined_path-clause-found : goal.returns-in-Ok-joined_path-clause-found
returns-in-Ok-joined_path-clause-found c = λ path meant found.
    let key = c.args.key.now in
    let front : c.bytes.result.now ≡ codes "." ++ key =
    c.bytes.ensures ∙ (c.in-Ok-joined_path.ensures ∙ ap (λ k. codes "." ++ k) c.as_bytes.ensures.value) in
    let told : Means (list_path path key) meant c.in-Err.fault = rw c.in-Err.is at found in
    c.behind.ensures path meant (subst (λ (f : List ℕ). Means (path ++ f) meant c.in-Err.fault) (sym front) told)
