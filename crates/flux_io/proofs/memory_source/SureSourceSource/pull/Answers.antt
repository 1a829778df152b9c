use Rattle.std.proofs.Common.{◌<◌, subst, ap, sym}
use Rattle.flux_io.proofs.Fronts.{piece_at, nothing_at}
use Rattle.flux_io.proofs.memory_source.SureSourceSource.pull.Goals as goal

pub returns-clause-bytes : goal.returns-clause-bytes
returns-clause-bytes c =
    let filled = c.fill_front-count.ensures in (
      piece_at _ _ _ _ _ _ (ap (λ source. source.left) (sym c.self.view_is)) c.bytes.ensures filled.front,
      λ none some. nothing_at _ _ _ _ none c.bytes.ensures
          (filled.end none (subst (λ n. 0 < n) c.fill_front-count.auto.into some)),
    )
