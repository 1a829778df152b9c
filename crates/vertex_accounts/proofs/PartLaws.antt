-- Accounts that have the parts of others.
use Rattle.std.proofs.Common.{◌≡◌, ℕ, List, Some, slice_get, sym, ◌∙◌, ap, subst}
use Rattle.flux_defs.specs.declared.vertices.Vertex.{Vertex}
use Rattle.flux_defs.specs.declared.claims.Job.{Job}
use Rattle.planner_points.specs.declared.spans.Span.{Span}
use Rattle.book_laws.specs.Grouped.{times_of}
use Rattle.vertex_planners.specs.Lists.{items_of}
use Rattle.vertex_accounts.specs.declared.counted.Counted.{Counted}
use Rattle.vertex_accounts.specs.declared.books.Accounts.{Accounts}
use Rattle.vertex_accounts.specs.Counts.{types_in}
use Rattle.vertex_accounts.specs.Books.{counted_of, types_of, ArePlanned, AreAllKept, AreAccounts, HasTotals}
use Rattle.vertex_accounts.specs.Books.{HaveSameParts, HoldNoWider, CountNoNarrower}

pub parts_back : {P : Type 0} (a b : Accounts P) → HaveSameParts a b → HaveSameParts b a
parts_back a b same = record {
  counted = sym same.counted;
  planners = sym same.planners;
  times = sym same.times;
  count = sym same.count;
  widest = sym same.widest;
  narrowest = sym same.narrowest;
}

-- they stand for the same jobs, and keep the same totals
pub same_accounts : {P : Type 0} (total_of : P → ℕ) (stands_for : P → List Span → Type 0)
    (vertices : List Vertex) (jobs : List Job) (a b : Accounts P) → HaveSameParts a b →
    AreAccounts total_of stands_for vertices jobs a → AreAccounts total_of stands_for vertices jobs b
same_accounts {P = P} total_of stands_for vertices jobs a b same x = record {
  graph = subst (λ (k : Counted). ArePlanned vertices k (items_of b.planners)) (sym same.counted)
      (subst (λ (is : List (List P)). ArePlanned vertices (counted_of a) is) (sym same.planners) x.graph);
  kept =
      subst (λ (k : Counted). AreAllKept total_of stands_for vertices jobs k (items_of b.planners)) (sym same.counted)
      (subst (λ (is : List (List P)). AreAllKept total_of stands_for vertices jobs (counted_of a) is)
      (sym same.planners) x.kept);
  times = subst (λ (p : P). stands_for p (times_of jobs)) (sym same.times) x.times;
  count = same.count ∙ x.count;
  widths = subst (λ (n : ℕ). HoldNoWider vertices n jobs) (sym same.widest) x.widths;
  counting = subst (λ (n : ℕ). CountNoNarrower vertices n jobs) (sym same.narrowest) x.counting;
  fair = x.fair;
  on_graph = x.on_graph;
}

pub same_totals : {P : Type 0} (a b : Accounts P) → HaveSameParts a b → (kind : ℕ) → HasTotals a kind → HasTotals b kind
same_totals a b same kind (place, at) =
    (place, subst (λ (k : Counted). slice_get k.places kind ≡ Some (Some place)) (sym same.counted) at)

pub same_types : {P : Type 0} (a b : Accounts P) → HaveSameParts a b → types_of b ≡ types_of a
same_types a b same = ap types_in same.counted
