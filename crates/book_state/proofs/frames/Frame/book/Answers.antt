use Rattle.std.proofs.Common.{[], refl, sym, ◌∙◌, ap}
use Rattle.std.specs.Arc.{arc_value}
use Rattle.std.specs.FinMap.{empty}
use Rattle.book_state.specs.Filtered.{Filtered}
use Rattle.book_state.proofs.BookLaws.{moved, none_stands}
use Rattle.book_state.proofs.frames.Frame.book.Goals as goal

pub returns-clause-jobs : goal.returns-clause-jobs
returns-clause-jobs c =
    let kept = arc_value c.in_ok-filtered.filtered in
    let graph = ap (λ (x : Filtered). x.graph) c.in_ok-filtered.ensures
    ∙ sym (c.graph-graph.ensures.value ∙ ap (λ (x : Filtered). x.graph) c.deref.ensures) in
    let rules = ap (λ (x : Filtered). x.rules) c.in_ok-filtered.ensures
    ∙ sym (c.rules.ensures ∙ ap (λ (x : Filtered). x.rules) c.deref-2.ensures) in
    let accounts = c.in_ok-accounts.accounts in
    moved c.graph-graph.result.now kept.graph c.rules.result.now kept.rules accounts accounts empty c.empty.result []
    graph rules refl c.empty.ensures
    (none_stands c.graph-graph.result.now c.rules.result.now accounts c.in_ok-accounts.ensures.accounts
    c.in_ok-accounts.ensures.kinds c.in_ok-accounts.ensures.types)

pub invariant_of-result : goal.invariant_of-result
invariant_of-result c =
    let kept = arc_value c.in_ok-filtered.filtered in
    let graph = ap (λ (x : Filtered). x.graph) c.in_ok-filtered.ensures
    ∙ sym (c.graph-graph.ensures.value ∙ ap (λ (x : Filtered). x.graph) c.deref.ensures) in
    let rules = ap (λ (x : Filtered). x.rules) c.in_ok-filtered.ensures
    ∙ sym (c.rules.ensures ∙ ap (λ (x : Filtered). x.rules) c.deref-2.ensures) in
    let accounts = c.in_ok-accounts.accounts in (
      [],
      moved c.graph-graph.result.now kept.graph c.rules.result.now kept.rules accounts accounts empty c.empty.result []
          graph rules refl c.empty.ensures
          (none_stands c.graph-graph.result.now c.rules.result.now accounts c.in_ok-accounts.ensures.accounts
          c.in_ok-accounts.ensures.kinds c.in_ok-accounts.ensures.types),
    )
