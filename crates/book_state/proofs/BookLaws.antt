-- Which jobs a book stands for, and what two lists of jobs have in common for which it stands.
use Rattle.std.proofs.Common.{◌≡◌, ℕ, zero, suc, ◌+◌, ◌<◌, ◌≤◌, nat_lt, cond, List, [], ◌∷◌, ◌++◌, length}
use Rattle.std.proofs.Common.{length-append, get_or, slice_get, Option, Some, None, is_some, Contains, refl, sym, ◌∙◌}
use Rattle.std.proofs.Common.{ap, subst, arith}
use Rattle.std.specs.Arc.{arc_value}
use Rattle.std.specs.List.{AllByRecursion}
use Rattle.std.specs.Ordering.{nat_cmp}
use Rattle.std.specs.Cmp.{nat_cmp_total}
use Rattle.std.specs.FinMap.{FinMap, empty, get, insert, len, len-insert}
use Rattle.std.proofs.lemmas.Option.{slice_get_within}
use Rattle.flux_defs.specs.declared.vertices.Vertex.{Vertex}
use Rattle.flux_defs.specs.declared.claims.Claim.{Claim}
use Rattle.flux_defs.specs.declared.claims.Job.{Job}
use Rattle.flux_defs.specs.declared.claims.Window.{Window}
use Rattle.flux_defs.specs.Graph.{ResourceGraph}
use Rattle.flux_defs.specs.ValidGraph.{StandsInPreorder}
use Rattle.flux_defs.specs.Jobs.{vertex_of}
use Rattle.flux_defs.specs.Closed.{no_bars}
use Rattle.flux_defs.specs.Available.{IsAvailable}
use Rattle.flux_defs.specs.Present.{up_with}
use Rattle.list_laws.proofs.Lists.{get_some}
use Rattle.graph_laws.proofs.Containment.{ParentsFirst}
use Rattle.graph_laws.proofs.Preorder.{parents_first}
use Rattle.planner_points.specs.Spans.{free_at}
use Rattle.planner_min_tree.specs.Plans as Plans
use Rattle.planner_min_tree.specs.Plans.{Plan}
use Rattle.book_laws.specs.Amounts.{live_sum}
use Rattle.book_laws.specs.Grouped.{grouped}
use Rattle.book_laws.proofs.GroupedLaws.{used_grouped}
use Rattle.book_laws.proofs.Alike.{AmountAlike, available_alike}
use Rattle.vertex_planners.specs.Lists.{items_of, at_place}
use Rattle.vertex_planners.proofs.PlaceLaws.{place_len}
use Rattle.vertex_accounts.specs.declared.quantities.Quantity.{Quantity}
use Rattle.vertex_accounts.specs.declared.quantities.Quantity.TheVariants.{Holds, Claims, Takes}
use Rattle.vertex_accounts.specs.Quantities.{amount_in}
use Rattle.vertex_accounts.proofs.OwnLaws.{within_is}
use Rattle.job_table.specs.declared.tables.Row.{Row}
use Rattle.book_state.specs.declared.held.Kept.{Kept}
use Rattle.job_table.specs.Rows.{live_row, cancelled_row}
use Rattle.prune_filters.specs.declared.rules.Rule.{Rule}
use Rattle.prune_filters.specs.Filters.{IsCounted}
use Rattle.resource_graph.specs.NamedGraph.{NamedGraph}
use Rattle.vertex_accounts.specs.declared.books.Accounts.{Accounts}
use Rattle.vertex_accounts.specs.Books.{AreAccounts, HasTotals, types_of}
use Rattle.book_state.specs.Books.{vertices_of, accounts_of, StandsIn, StandsFor}
use Rattle.book_state.proofs.TieLaws.{agree_none, agree_more, agree_less, agree_along, without_middle}

-- what two lists of jobs amount to at one place for which the accounts stand
alike_in : (vertices : List Vertex) (a b : List Job) (accounts : Accounts Plan) (k : ℕ) (q : Quantity) →
    slice_get (arc_value accounts.counted).quantities k ≡ Some q →
    AreAccounts (λ (p : Plan). p.total) Plans.StandsFor vertices a accounts →
    AreAccounts (λ (p : Plan). p.total) Plans.StandsFor vertices b accounts →
    (v m : ℕ) → v < length vertices → live_sum (amount_in vertices q v) a m ≡ live_sum (amount_in vertices q v) b m
alike_in vertices a b accounts k q of x y v m lt =
    let quantities = (arc_value accounts.counted).quantities in
    let items = items_of accounts.planners in
    let len = place_len (length quantities) k (slice_get_within quantities k q of) items x.graph.places in
    let (p, at) = get_some (at_place k items) v (let n = x.graph.len in omega (arith, len, n, lt)) in
    let f = amount_in vertices q v in
    let sx = (x.kept k q of).spans v p at in
    let sy = (y.kept k q of).spans v p at in
    let same : free_at p.total (grouped f a) m ≡ free_at p.total (grouped f b) m = sym (sx.free m) ∙ sy.free m in
    let ra = sx.tallies.room m in
    let rb = sy.tallies.room m in
    let ua = used_grouped f a m in
    let ub = used_grouped f b m in
    omega (arith, same, ra, rb, ua, ub)

pub alike : (book : Kept) → ParentsFirst (vertices_of book) →
    (a b : List Job) → StandsFor book a → StandsFor book b → AmountAlike (vertices_of book) a b
alike book first a b x y =
    let vertices = vertices_of book in
    let accounts = accounts_of book in
    let places = x.accounts_are.graph.counts in
    let held = λ (v m : ℕ) (lt : v < length vertices).
    alike_in vertices a b accounts 0 Holds places.holds x.accounts_are y.accounts_are v m lt in
    record {
      holds = held;
      claims = λ v m lt.
          let in_a = within_is vertices first v lt a m in
          let in_b = within_is vertices first v lt b m in
          let count = alike_in vertices a b accounts 1 Claims places.claims x.accounts_are y.accounts_are v m lt in
          let own = ap (λ n. cond (nat_lt 0 v) n 0) (held v m lt) in
          omega (arith, in_a, in_b, count, own);
      takes = λ v m lt. alike_in vertices a b accounts 2 Takes places.takes x.accounts_are y.accounts_are v m lt;
    }

-- what is available beside the one list is available beside the other
pub stood : (book : Kept) → ((g : ResourceGraph) × (g.vertices ≡ vertices_of book) × StandsInPreorder g) →
    (a b : List Job) → StandsFor book a → StandsFor book b → (w : Window) (cs : List Claim) →
    AllByRecursion (λ c. vertex_of c < length (vertices_of book)) cs →
    AllByRecursion (IsAvailable (no_bars (vertices_of book) (up_with a)) w) cs →
    AllByRecursion (IsAvailable (no_bars (vertices_of book) (up_with b)) w) cs
stood book (g, same, o) a b x y w cs inside available =
    let first = subst ParentsFirst same (parents_first g o) in
    available_alike (vertices_of book) first a b (alike book first a b x y) w cs inside available

-- available and from pools, claim by claim
pub both_of : (P Q : Claim → Type 0) (cs : List Claim) →
    AllByRecursion P cs → AllByRecursion Q cs → AllByRecursion (λ c. P c × Q c) cs
both_of P Q [] a b = tt
both_of P Q (c ∷ cs) a b = ((a.0, b.0), both_of P Q cs a.1 b.1)

-- a member parts a list
pub split_at : {X : Type 0} (xs : List X) (x : X) →
    Contains xs x → (before : List X) × (after : List X) × (xs ≡ before ++ x ∷ after)
split_at {X = X} xs x (k, lt, is) = at xs k lt is
  where
    at : (ys : List X) (i : ℕ) →
        i < length ys → get_or ys i x ≡ x → (before : List X) × (after : List X) × (ys ≡ before ++ x ∷ after)
    at [] i h e = absurd (omega (arith, h))
    at (y ∷ ys) zero h e = ([], ys, ap (λ z. z ∷ ys) e)
    at (y ∷ ys) (suc i) h e = (let (b, a, q) = at ys i (omega (arith, h)) e in (y ∷ b, a, ap (λ zs. y ∷ zs) q))

-- a new row is one more, and a row that changes is none more
pub more_rows : (rows : FinMap nat_cmp Row) (id : ℕ) (row : Row) →
    get rows id ≡ None → len (insert rows id row) ≡ len rows + 1
more_rows rows id row none =
    len-insert nat_cmp_total rows id row ∙ ap (λ (o : Option Row). cond (is_some o) (len rows) (len rows + 1)) none

pub same_rows : (rows : FinMap nat_cmp Row) (id : ℕ) (row was : Row) →
    get rows id ≡ Some was → len (insert rows id row) ≡ len rows
same_rows rows id row was some =
    len-insert nat_cmp_total rows id row ∙ ap (λ (o : Option Row). cond (is_some o) (len rows) (len rows + 1)) some

pub fewer : (before : List Job) (job : Job) (after : List Job) (n : ℕ) →
    length (before ++ job ∷ after) ≤ n → length (before ++ after) ≤ n
fewer before job after n le = let a = length-append before (job ∷ after) in
    let b = length-append before after in omega (arith, a, b, le)

pub one_more : (jobs : List Job) (job : Job) (n m : ℕ) → length jobs ≤ n → m ≡ n + 1 → length (jobs ++ job ∷ []) ≤ m
one_more jobs job n m le e = let a = length-append jobs (job ∷ []) in omega (arith, a, le, e)

-- equal parts stand for the same jobs
pub moved : (g h : NamedGraph) (r s : List Rule) (a b : Accounts Plan) (t u : FinMap nat_cmp Row) (jobs : List Job) →
    h ≡ g → s ≡ r → b ≡ a → u ≡ t → StandsIn g r a t jobs → StandsIn h s b u jobs
moved g h r s a b t u jobs eg er ea et x =
    subst (λ (k : NamedGraph). StandsIn k s b u jobs) (sym eg)
    (subst (λ (k : List Rule). StandsIn g k b u jobs) (sym er)
    (subst (λ (k : Accounts Plan). StandsIn g r k u jobs) (sym ea)
    (subst (λ (k : FinMap nat_cmp Row). StandsIn g r a k jobs) (sym et) x)))

-- a job more, and a job less
pub added : (g : NamedGraph) (r : List Rule)
    (a b : Accounts Plan) (t : FinMap nat_cmp Row) (jobs : List Job) (job : Job) (at : ℕ) → get t job.id ≡ None →
    AreAccounts (λ (p : Plan). p.total) Plans.StandsFor g.resources.vertices (jobs ++ job ∷ []) b →
    ((kind : ℕ) → HasTotals a kind → HasTotals b kind) → types_of b ≡ types_of a →
    StandsIn g r a t jobs → StandsIn g r b (insert t job.id (live_row at)) (jobs ++ job ∷ [])
added g r a b t jobs job at fresh accounts kinds same x = record {
  accounts_are = accounts;
  ties = agree_more t jobs job at fresh x.ties;
  few = one_more jobs job (len t) (len (insert t job.id (live_row at))) x.few (more_rows t job.id (live_row at) fresh);
  kinds = λ kind name named counted. kinds kind (x.kinds kind name named counted);
  types = (let types = x.types in omega (arith, same, types));
}

pub removed : (g : NamedGraph) (r : List Rule) (a b : Accounts Plan) (t : FinMap nat_cmp Row)
    (before : List Job) (job : Job) (after : List Job) (at : ℕ) → get t job.id ≡ Some (live_row at) →
    AreAccounts (λ (p : Plan). p.total) Plans.StandsFor g.resources.vertices (before ++ after) b →
    ((kind : ℕ) → HasTotals a kind → HasTotals b kind) → types_of b ≡ types_of a →
    StandsIn g r a t (before ++ job ∷ after) → StandsIn g r b (insert t job.id (cancelled_row at)) (before ++ after)
removed g r a b t before job after at live accounts kinds same x = record {
  accounts_are = accounts;
  ties = agree_along _ _ _ _ refl
      (sym (without_middle before after job x.ties.own)) (agree_less t (before ++ job ∷ after) job.id at x.ties);
  few = subst (λ (n : ℕ). length (before ++ after) ≤ n)
      (sym (same_rows t job.id (cancelled_row at) (live_row at) live)) (fewer before job after (len t) x.few);
  kinds = λ kind name named counted. kinds kind (x.kinds kind name named counted);
  types = (let types = x.types in omega (arith, same, types));
}

-- no jobs
pub none_stands : (g : NamedGraph) (r : List Rule) (a : Accounts Plan) →
    AreAccounts (λ (p : Plan). p.total) Plans.StandsFor g.resources.vertices [] a →
    ((kind : ℕ) (name : List ℕ) → slice_get g.resources.kinds kind ≡ Some name → IsCounted r name → HasTotals a kind) →
    types_of a ≤ length r → StandsIn g r a empty []
none_stands g r a accounts kinds types =
    record { accounts_are = accounts; ties = agree_none; few = omega arith; kinds = kinds; types = types }

-- equal parts stand for an equal list
pub moved_to : (g h : NamedGraph)
    (r s : List Rule) (a b : Accounts Plan) (t u : FinMap nat_cmp Row) (jobs others : List Job) →
    others ≡ jobs → h ≡ g → s ≡ r → b ≡ a → u ≡ t → StandsIn g r a t jobs → StandsIn h s b u others
moved_to g h r s a b t u jobs others e eg er ea et x =
    subst (λ (js : List Job). StandsIn h s b u js) (sym e) (moved g h r s a b t u jobs eg er ea et x)
