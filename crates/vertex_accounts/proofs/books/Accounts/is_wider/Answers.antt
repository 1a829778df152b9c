use Rattle.std.proofs.Common.{◌-◌, ◌+◌, arith}
use Rattle.std.proofs.lemmas.Bool.{ltb-true}
use Rattle.vertex_accounts.proofs.books.Accounts.is_wider.Goals as goal

pub returns : goal.returns
returns g c = λ more.
    let v = c.args.vertex in
    let most = c.args.self.now.widest in
    let lt = ltb-true most (c.past.result - v) more in
    let within = c.past.ensures.within in (
      most,
      omega arith,
      omega (arith, lt, within),
      c.past.ensures.covered (v + most) (omega arith) (omega (arith, lt)),
    )
