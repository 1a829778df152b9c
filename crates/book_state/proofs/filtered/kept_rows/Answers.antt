use Rattle.std.proofs.Common.{◌≡◌, ◌+◌, ℕ, List, Bool, Some, None, take, slice_get, option_copied, sym, ◌∙◌, ap, subst}
use Rattle.std.proofs.Common.{arith}
use Rattle.std.specs.List.{AllZip}
use Rattle.std.proofs.lemmas.Option.{slice_get_within}
use Rattle.book_state.specs.Filtered.{IsKeptRow}
use Rattle.book_state.proofs.RowLaws.{zipped_next, zipped_all}
use Rattle.book_state.proofs.filtered.kept_rows.Goals as goal

pub loop-high-preserved : goal.loop-high-preserved
loop-high-preserved c =
    let kinds = c.args.graph.now.resources.kinds in
    let rules = c.args.rules.now in
    let at : slice_get kinds c.loop-high.kind ≡ Some c.in-Some.high.now =
    sym c.kind_name.ensures ∙ ap option_copied c.in-Some.is in
    let inside = slice_get_within kinds c.loop-high.kind c.in-Some.high.now at in
    record {
      within = omega (arith, inside);
      so_far = subst (λ (rows : List (List Bool)).
          AllZip (IsKeptRow kinds rules) (take (c.loop-high.kind + 1) kinds) rows) (sym c.in-Ok.ensures.items)
          (zipped_next (IsKeptRow kinds rules) kinds
          c.loop-high.kind c.loop-high.rows.items c.in-Some.high.now c.in_ok-row.row at c.loop-high.invariant.so_far
          (subst (λ (t : List ℕ). IsKeptRow kinds rules t c.in_ok-row.row) c.bytes.ensures c.in_ok-row.ensures));
    }

pub returns : goal.returns
returns c =
    let kinds = c.args.graph.now.resources.kinds in
    let rules = c.args.rules.now in
    let none : slice_get kinds c.loop-high.kind ≡ None = sym c.kind_name.ensures ∙ ap option_copied c.in_default.is in
    subst (λ (rows : List (List Bool)). AllZip (IsKeptRow kinds rules) kinds rows) (sym c.of_vec.ensures)
    (zipped_all (IsKeptRow kinds rules) kinds c.loop-high.kind c.loop-high.rows.items none c.loop-high.invariant.so_far)
