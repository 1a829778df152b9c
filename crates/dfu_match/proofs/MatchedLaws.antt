-- What a total that is too small at the root says of a match.
use Rattle.std.proofs.Common.{ℕ, ◌<◌, ◌≤◌, List, subst}
use Rattle.flux_defs.specs.declared.claims.Window.{Window}
use Rattle.flux_defs.specs.declared.requests.Ask.{Ask}
use Rattle.flux_defs.specs.Graph.{ResourceGraph}
use Rattle.flux_defs.specs.ValidGraph.{IsValidGraph}
use Rattle.flux_defs.specs.Free.{IsTooLittle}
use Rattle.flux_defs.specs.Needs.{IsProperAsk}
use Rattle.flux_defs.specs.Present.{Present}
use Rattle.prune_filters.specs.declared.shorts.Demand.{Demand}
use Rattle.prune_filters.specs.declared.shorts.Shortage.{Shortage}
use Rattle.prune_filters.specs.Shorts.{IsShortInAt}
use Rattle.prune_laws.proofs.Demanded.{too_little_fit}
use Rattle.dfu_match.specs.declared.matching.Matched.TheVariants.{Short}
use Rattle.dfu_match.specs.Tables.{AreDemandsOfAll}
use Rattle.dfu_match.specs.Matches.{IsMatched}

pub short_is : (g : ResourceGraph) (names : List (List ℕ)) → IsValidGraph g names → (present : Present)
    (keeps : ℕ → ℕ → Type 0) (ask : Ask) (w : Window) (demands : List Demand) →
    AreDemandsOfAll g.vertices ask.needs demands → IsProperAsk g.vertices ask → (s : Shortage) →
    w.from ≤ s.moment → s.moment < w.to →
    IsShortInAt g.vertices present keeps demands 0 s → IsMatched g.vertices present keeps ask w (Short s)
short_is g names valid present keeps ask w demands are proper s lo hi short =
    let d = s.demand in
    let same = are.each d short.0 in (
      λ fit. too_little_fit g names valid present ask.barred w ask.needs proper.needs d.kind
          (subst (IsTooLittle g.vertices present w 0 d.kind) same (s.moment, lo, hi, short.1.1)) fit.0 fit.1,
      short.1,
      hi,
      same,
    )
