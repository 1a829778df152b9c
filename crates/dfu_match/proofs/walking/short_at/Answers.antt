use Rattle.std.proofs.Common.{◌≡◌, ◌<◌, ◌≤◌, List, Some, length, slice_get, refl, sym, ap, subst, arith}
use Rattle.std.proofs.Math.Nat.{mul-le-mul_right}
use Rattle.std.proofs.lemmas.Bool.{ltb-true, ltb-false}
use Rattle.std.proofs.lemmas.Option.{slice_get_read}
use Rattle.flux_defs.specs.declared.vertices.Vertex.{Vertex}
use Rattle.flux_defs.specs.Later.{IsSoUntil}
use Rattle.prune_filters.specs.Shorts.{IsShortOf}
use Rattle.dfu_match.specs.Tables.{needs_all}
use Rattle.dfu_match.proofs.TableLaws.{need_there, none_past}
use Rattle.dfu_match.proofs.ReachLaws.{told_until}
use Rattle.dfu_match.proofs.walking.short_at.Goals as goal

pub returns-in-None-clause-short : goal.returns-in-None-clause-short
returns-in-None-clause-short g c = λ present stands is.
    let s = c.args.s.now in
    let lookup = c.in-None.ensures.lookup in
    let past : length s.wanted.now ≤ c.args.index = ltb-false c.args.index (length s.wanted.now) (sym lookup.0) in
    is.1.0.0 (none_past (needs_all s.needs.now) s.wanted.now c.args.index c.args.need.now past s.whole
    c.requires.stands)

pub returns-in-Some : goal.returns-in-Some
returns-in-Some g c =
    let s = c.args.s.now in
    let vs = s.graph.now.resources.vertices in
    let need = c.args.need.now in
    let demands = c.in-Some.wanted.now.demands in
    let kept = g.F.FreeView.keeps s.view.now in
    let lookup = c.in-Some.ensures.lookup in
    let lt : c.args.index < length s.wanted.now = ltb-true c.args.index (length s.wanted.now) (sym lookup.0) in
    let entry : slice_get s.wanted.now c.args.index ≡ Some c.in-Some.wanted.now = slice_get_read s.wanted.now
    (length s.wanted.now) c.args.index c.in-Some.wanted.now refl lt lookup.1 in
    let there = need_there (needs_all s.needs.now) s.wanted.now c.args.index need c.in-Some.wanted.now
    c.requires.stands entry in
    let tells = s.tells c.args.index need c.in-Some.wanted.now there entry in
    record {
      short = λ present stands. told_until vs present s.window kept need demands tells.demands c.args.vertex
          s.wanted.now
          (λ none. (let zero = ap length none in omega (arith, zero, lt))) c.short_until.result
          (subst (λ (us : List Vertex). IsSoUntil (λ w. IsShortOf us present w kept demands c.args.vertex) s.window
          c.short_until.result) s.over (c.short_until.ensures.answer present stands));
      within = c.short_until.ensures.within;
      work = (let few = mul-le-mul_right (g.F.FreeView.cost s.view.now) tells.few in
          omega (arith, few, c.short_until.ensures.work));
    }
