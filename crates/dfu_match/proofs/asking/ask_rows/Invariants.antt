use Rattle.std.proofs.Common.{◌≡◌, ◌≤◌, ◌+◌, ◌-◌, ◌*◌, ℕ, length}
use Rattle.dfu_match.specs.Tables.{needs_all}
use Rattle.dfu_match.specs.Pairs.{IsPlaceOf, asked_totals}
use Rattle.dfu_match.specs.Asked.{AreDead, IsAsked}
use Rattle.dfu_match.specs.Rows.{IsLeft, Knows}
use Rattle.dfu_match.proofs.asking.ask_rows.Given as goal
use Rattle.flux_defs.specs.Present.{InEach}

-- some rows before the index were asked as far as need be, what was looked at lies before `low`, and it is told what
-- all rows leave
abbrev pub invariant-each : goal.invariant-each
invariant-each g l = record {
  known : Knows l.s.graph.now.resources.vertices (g.F.FreeView.stands_for l.s.view.now) l.s.barred.now l.s.needs.now
      l.s.window l.known;
  own : l.known.own ≡ l.own;
  end : l.known.end ≡ l.initial.known.end;
  dead : AreDead l.s.graph.now.resources.vertices (g.F.FreeView.stands_for l.s.view.now) l.s.barred.now l.s.window
      l.need l.dead;
  asked : InEach (g.F.FreeView.stands_for l.s.view.now) (λ present. (place : ℕ) →
      IsPlaceOf (needs_all l.s.needs.now) place l.need →
      IsAsked l.s.graph.now.resources.vertices present l.s.window
      (asked_totals l.s.wanted.now (g.F.FreeView.keeps l.s.view.now)) (needs_all l.s.needs.now) l.need place
      ((length (needs_all l.s.needs.now) + 2) * g.F.FreeView.cost l.s.view.now) l.initial.steps l.steps 0 l.low);
  left : IsLeft l.need l.known.rows.items l.left;
  from : l.left.from ≡ l.s.window.from;
  opens : l.s.window.from ≤ l.left.until;
}

-- the rows that are still to come
abbrev pub decreases-each : goal.decreases-each
decreases-each g l = length l.known.rows.items - l.start
