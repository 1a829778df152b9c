use Rattle.std.proofs.Common.{◌-◌, ◌+◌, arith}
use Rattle.std.proofs.lemmas.Bool.{ltb-true}
use Rattle.vertex_accounts.proofs.books.Accounts.is_narrower.Goals as goal

pub returns : goal.returns
returns g c = λ less.
    let v = c.args.vertex in
    let few = c.past.result - v in (
      few,
      ltb-true few c.args.self.now.narrowest less,
      λ k within below. (let lt = c.past.ensures.whole (v + k) within below in omega (arith, lt)),
    )
