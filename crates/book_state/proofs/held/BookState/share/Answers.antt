use Rattle.std.proofs.Common.{◌∙◌, ap, refl, subst}
use Rattle.vertex_accounts.specs.Books.{HaveSameParts}
use Rattle.book_state.specs.declared.held.Kept.{Kept}
use Rattle.book_state.specs.Filtered.{Filtered}
use Rattle.book_state.specs.Books.{graph_of, rules_of, rows_of, accounts_of}
use Rattle.book_state.proofs.BookLaws.{moved}
use Rattle.book_state.proofs.ShareLaws.{shared_stands}
use Rattle.book_state.proofs.held.BookState.share.Goals as goal

pub returns-clause-jobs : goal.returns-clause-jobs
returns-clause-jobs c = λ jobs x.
    let k = c.args.self.now in
    let new = c.in_ok-share.field-0 in
    let same = subst (λ (b : Kept). HaveSameParts (accounts_of b) new) c.self.view_is c.in_ok-share.ensures in
    moved (graph_of k) _ (rules_of k) _ new _ (rows_of k) _ jobs
    (ap (λ (x : Filtered). x.graph) c.in_ok-try_clone.ensures ∙ ap graph_of c.self.view_is)
    (ap (λ (x : Filtered). x.rules) c.in_ok-try_clone.ensures ∙ ap rules_of c.self.view_is) refl
    (c.in_ok-share-2.ensures ∙ ap rows_of c.self.view_is)
    (shared_stands (graph_of k) (rules_of k) (accounts_of k) new (rows_of k) jobs same x)

pub invariant_of-result : goal.invariant_of-result
invariant_of-result c =
    let b = c.self.inside.kept in
    let new = c.in_ok-share.field-0 in
    let (jobs, x) = c.self.invariant in (
      jobs,
      moved (graph_of b) _ (rules_of b) _ new _ (rows_of b) _ jobs
          (ap (λ (x : Filtered). x.graph) c.in_ok-try_clone.ensures)
          (ap (λ (x : Filtered). x.rules) c.in_ok-try_clone.ensures) refl c.in_ok-share-2.ensures
          (shared_stands (graph_of b) (rules_of b) (accounts_of b) new (rows_of b) jobs c.in_ok-share.ensures x),
    )
