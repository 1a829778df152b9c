use Rattle.std.proofs.Common.{[], List, length, slice_get, refl, sym, ◌∙◌, ap, subst}
use Rattle.book_laws.proofs.Adding.{fair_none}
use Rattle.vertex_planners.specs.Lists.{items_of, AreWide}
use Rattle.vertex_accounts.specs.declared.quantities.Quantity.{Quantity}
use Rattle.vertex_accounts.specs.declared.counted.Counted.{Counted}
use Rattle.vertex_accounts.specs.Counts.{AreNew}
use Rattle.vertex_accounts.specs.Books.{ArePlanned, AreAllKept}
use Rattle.vertex_accounts.proofs.CountLaws.{new_kept}
use Rattle.vertex_accounts.proofs.books.Accounts.new.Goals as goal

pub returns-clause-accounts : goal.returns-clause-accounts
returns-clause-accounts g c =
    let vertices = c.args.graph.now.resources.vertices in
    let counted : Counted = c.in_ok-counted.counted in
    let items = items_of c.in_ok-planners.planners in
    let wide =
    subst (λ (qs : List Quantity). AreWide (length qs) items) c.items.ensures c.in_ok-planners.ensures.places in
    let new = subst (λ (qs : List Quantity). AreNew g.P.Planner.total_of g.P.Planner.stands_for vertices qs items)
    c.items.ensures c.in_ok-planners.ensures.planners in
    record {
      graph = subst (λ (k : Counted). ArePlanned vertices k items) (sym c.in_ok-new.ensures.ok)
          (record { counts = c.in_ok-counted.ensures.counted; len = c.in_ok-planners.ensures.len; places = wide });
      kept = subst (λ (k : Counted). AreAllKept g.P.Planner.total_of g.P.Planner.stands_for vertices [] k items)
          (sym c.in_ok-new.ensures.ok)
          (new_kept g.P.Planner.total_of g.P.Planner.stands_for vertices counted items wide new);
      times = c.in_ok-times.ensures.spans;
      count = refl;
      widths = tt;
      counting = tt;
      fair = fair_none vertices;
      on_graph = tt;
    }

pub returns-clause-kinds : goal.returns-clause-kinds
returns-clause-kinds g c = λ kind name named counted.
    let (place, at) = c.in_ok-counted.ensures.kinds kind name named counted in
    (place, ap (λ (k : Counted). slice_get k.places kind) c.in_ok-new.ensures.ok ∙ at)
