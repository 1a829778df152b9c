use Rattle.std.proofs.Common.{◌≡◌, ◌+◌, ◌↔◌, IsTrue, ℕ, List, Bool, Some, None, take, slice_get, option_copied, sym}
use Rattle.std.proofs.Common.{◌∙◌, ap, subst, arith}
use Rattle.std.specs.List.{AllZip}
use Rattle.prune_filters.specs.Filters.{IsKept}
use Rattle.std.proofs.lemmas.Option.{slice_get_within}
use Rattle.book_state.proofs.RowLaws.{zipped_next, zipped_all}
use Rattle.book_state.proofs.filtered.kept_row.Goals as goal

pub loop-low-preserved : goal.loop-low-preserved
loop-low-preserved c =
    let kinds = c.args.graph.now.resources.kinds in
    let at : slice_get kinds c.loop-low.kind ≡ Some c.in-Some.low.now =
    sym c.kind_name.ensures ∙ ap option_copied c.in-Some.is in
    let inside = slice_get_within kinds c.loop-low.kind c.in-Some.low.now at in
    record {
      within = omega (arith, inside);
      so_far = subst
          (λ (row : List Bool). AllZip (λ low kept. IsTrue kept ↔ IsKept c.args.rules.now c.args.high.now low)
          (take (c.loop-low.kind + 1) kinds) row) (sym {A = List Bool} c.in_ok-push.ensures.items)
          (zipped_next (λ low kept. IsTrue kept ↔ IsKept c.args.rules.now c.args.high.now low) kinds c.loop-low.kind
          c.loop-low.row.items c.in-Some.low.now c.keeps.result at c.loop-low.invariant.so_far
          (subst (λ (t : List ℕ). IsTrue c.keeps.result ↔ IsKept c.args.rules.now c.args.high.now t) c.bytes.ensures
          c.keeps.ensures));
    }

pub returns : goal.returns
returns c =
    let kinds = c.args.graph.now.resources.kinds in
    let none : slice_get kinds c.loop-low.kind ≡ None = sym c.kind_name.ensures ∙ ap option_copied c.in_default.is in
    subst (λ (row : List Bool).
    AllZip (λ low kept. IsTrue kept ↔ IsKept c.args.rules.now c.args.high.now low) kinds row) (sym c.of_vec.ensures)
    (zipped_all (λ low kept. IsTrue kept ↔ IsKept c.args.rules.now c.args.high.now low)
    kinds c.loop-low.kind c.loop-low.row.items none c.loop-low.invariant.so_far)
