use Rattle.std.proofs.Common.{◌≡◌, ◌<◌, ◌==◌, ◌∙◌, List, Some, length, slice_get, refl, ap, subst}
use Rattle.std.proofs.Common.{sym, arith}
use Rattle.std.proofs.lemmas.Map.Keys.{any_passes_from_place}
use Rattle.std.proofs.lemmas.Option.{slice_get-get_or}
use Rattle.std.proofs.lemmas.Bool.{eq-eqb}
use Rattle.flux_defs.specs.declared.claims.Job.{Job}
use Rattle.book_state.specs.Books.{rows_of, StandsFor}
use Rattle.book_state.proofs.TieLaws.{live_tells}
use Rattle.calls_compared.proofs.Places.{split}
use Rattle.calls_compared.proofs.books.Tried.remove.Goals as goal

pub after_remove-requires-clause-live : goal.after_remove-requires-clause-live
after_remove-requires-clause-live g c =
    let jobs : List Job = c.self.inside.jobs in
    let job : Job = c.remove-job.result in
    let left : List Job = c.into_vec-left.result.items in
    let items : left ≡ jobs = c.into_vec-left.ensures in
    let inside : c.args.at < length left =
    (let f = c.if-at-len.false in
    let n = c.len.ensures in let l = ap (λ (xs : List Job). length xs) items in omega (arith, f, n, l)) in
    let there : slice_get left c.args.at ≡ Some job =
    slice_get-get_or left c.args.at job inside ∙ ap Some (sym c.remove-job.ensures.value) in
    (live_tells (rows_of c.self.inside.book) jobs c.self.invariant.0.ties job.id).1
    (any_passes_from_place (λ (j : Job). j.id == job.id) jobs c.args.at job
    (subst (λ (xs : List Job). slice_get xs c.args.at ≡ Some job) items there) (eq-eqb job.id job.id refl))

pub invariant_of-result : goal.invariant_of-result
invariant_of-result g c =
    let jobs : List Job = c.self.inside.jobs in
    let job : Job = c.remove-job.result in
    let left : List Job = c.into_vec-left.result.items in
    let items : left ≡ jobs = c.into_vec-left.ensures in
    let inside : c.args.at < length left =
    (let f = c.if-at-len.false in
    let n = c.len.ensures in let l = ap (λ (xs : List Job). length xs) items in omega (arith, f, n, l)) in
    let s = split left c.args.at job inside c.remove-job.ensures.value in
    let stands = subst (λ (xs : List Job). StandsFor c.self.inside.book xs) (sym items ∙ s.2) c.self.invariant.0 in
    let e = c.of_vec.ensures ∙ (c.remove-job.ensures.items ∙ s.3) in (
      subst (λ (xs : List Job). StandsFor c.in_ok-book.book xs) (sym e) (c.in_ok-book.ensures.once s.0 s.1 stands),
      c.in_ok-book.ensures.setting.graph ∙ c.self.invariant.1,
      c.in_ok-book.ensures.setting.horizon ∙ c.self.invariant.2,
    )
