use Rattle.std.proofs.Common.{◌≡◌, ◌∙◌, List, [], ◌∷◌, ◌++◌, subst, sym}
use Rattle.flux_defs.specs.declared.claims.Job.{Job}
use Rattle.book_state.specs.Books.{StandsFor}
use Rattle.calls_compared.proofs.books.Tried.add.Goals as goal

pub invariant_of-result : goal.invariant_of-result
invariant_of-result g c =
    let jobs : List Job = c.self.inside.jobs in
    let more : c.push.new.self ≡ jobs ++ c.args.job ∷ [] = c.in-Ok.ensures.ok in (
      subst (λ (xs : List Job). StandsFor c.in_ok-book.book xs) (sym more)
          (c.in_ok-book.ensures.jobs jobs c.self.invariant.0),
      c.in_ok-book.ensures.setting.graph ∙ c.self.invariant.1,
      c.in_ok-book.ensures.setting.horizon ∙ c.self.invariant.2,
    )
