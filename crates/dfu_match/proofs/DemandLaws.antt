-- What needs demand, in numbers of 64 bits, and all needs in one list.
use Rattle.std.proofs.Common.{◌≡◌, ◌≢◌, ℕ, zero, suc, ◌+◌, ◌*◌, ◌-◌, ◌^◌, ◌<◌, ◌≤◌, ◌==◌, ◌⊎◌, inl, inr, min, Bool}
use Rattle.std.proofs.Common.{true, false, List, [], ◌∷◌, ◌++◌, length, take, get_or, slice_get, Some, append-nil}
use Rattle.std.proofs.Common.{append_assoc, refl, sym, ◌∙◌, ap, subst, arith, IsTrue, true≢false}
use Rattle.std.proofs.lemmas.Bool.{cases_lt, or_cases, or_left, or_right, eqb-true, eq-eqb}
use Rattle.std.specs.Prelude.{Any, Contains, map}
use Rattle.prune_filters.specs.declared.shorts.Demand.{Demand}
use Rattle.prune_filters.specs.Shorts.{AreDemandsOf, IsBelow, IsShortOf, IsShortFor}
use Rattle.flux_defs.specs.declared.claims.Window.{Window}
use Rattle.std.proofs.lemmas.List.{get_or-map, length-map, take_more}
use Rattle.flux_defs.specs.declared.vertices.Vertex.{Vertex}
use Rattle.flux_defs.specs.declared.requests.Need.{Need, Vert, Vert', Pool, Spread, Spread', Row_of-Need, end_of-Need}
use Rattle.flux_defs.specs.declared.requests.Need.{more_of-Need, items-the_row-Need, items_hidden-the_row-Need-0}
use Rattle.flux_defs.specs.declared.requests.Need.TheBlock.{hidden-the_row-Need-0}
use Rattle.flux_defs.specs.Free.{total_at, IsTooLittle}
use Rattle.flux_defs.specs.Needs.{amount_of}
use Rattle.flux_defs.specs.Present.{Present}
use Rattle.prune_filters.specs.Demands.{one_if, is_node_kind, demand, row_demand, needs_demand, capped}
use Rattle.std.specs.List.{AllZip, list_any}
use Rattle.prune_laws.proofs.Demanded.{list_row}
use Rattle.dfu_match.specs.declared.wanting.Wanted.{Wanted}
use Rattle.dfu_match.specs.Tables.{all_of, row_all, needs_all, AreDemandsOfAll, Grows}

-- capped at a number, sums and products are those of capped numbers
sum_within : (most a b : ℕ) → min (min a most + min b most) most ≡ min (a + b) most
sum_within most a b = omega arith

mul_first : (n x : ℕ) → x ≤ suc n * x
mul_first n x = omega arith

product_within : (most t x : ℕ) → min (t * min x most) most ≡ min (t * x) most
product_within most t x =
    elim (cases_lt most x) [
      | inl more ↦ over more t
      | inr few ↦ (let e : min x most ≡ x = omega arith in ap (λ y. min (t * y) most) e)
    ]
  where
    over : most < x → (t : ℕ) → min (t * min x most) most ≡ min (t * x) most
    over more zero = omega arith
    over more (suc n) =
        let one : most ≤ suc n * most = mul_first n most in
        let two : x ≤ suc n * x = mul_first n x in
        let e : min x most ≡ most = omega arith in
        rw e (omega (arith, one, two))

module _ (vertices : List Vertex) (kind : ℕ) where
  pub demand_Vert : (n own count : ℕ) (hold : Bool) (needs : List Need) →
      demand vertices kind n (Vert own count hold needs) ≡ n * (one_if (own == kind) + needs_demand vertices kind needs)
  demand_Vert n own count hold needs = ap (λ d. n * (one_if (own == kind) + d)) (list_row vertices kind needs)

  pub demand_Spread : (n count : ℕ) (needs : List Need) → demand vertices kind n (Spread count needs) ≡
      one_if (is_node_kind vertices kind) + n * needs_demand vertices kind needs
  demand_Spread n count needs = ap (λ d. one_if (is_node_kind vertices kind) + n * d) (list_row vertices kind needs)

  -- in numbers of 64 bits
  pub capped_Vert : (n own count : ℕ) (hold : Bool) (needs : List Need) (d s r : ℕ) →
      d ≡ capped (needs_demand vertices kind needs) → s ≡ capped (one_if (own == kind) + d) → r ≡ capped (n * s) →
      r ≡ capped (demand vertices kind n (Vert own count hold needs))
  capped_Vert n own count hold needs d s r ed es er =
      let total = one_if (own == kind) + needs_demand vertices kind needs in
      let inner : s ≡ capped total = omega (arith, ed, es) in
      er ∙ (ap (λ x. capped (n * x)) inner ∙ (product_within (2 ^ 64 - 1) n total
      ∙ ap capped (sym (demand_Vert n own count hold needs))))

  pub capped_Spread : (n count : ℕ) (needs : List Need) (d p r : ℕ) →
      d ≡ capped (needs_demand vertices kind needs) → p ≡ capped (n * d) →
      r ≡ capped (one_if (is_node_kind vertices kind) + p) → r ≡ capped (demand vertices kind n (Spread count needs))
  capped_Spread n count needs d p r ed ep er =
      let copies : p ≡ capped (n * needs_demand vertices kind needs) = ep ∙ (ap (λ x. capped (n * x)) ed
      ∙ product_within (2 ^ 64 - 1) n (needs_demand vertices kind needs)) in
      let both : r ≡ capped (one_if (is_node_kind vertices kind) + n * needs_demand vertices kind needs) =
      omega (arith, er, copies) in
      both ∙ ap capped (sym (demand_Spread n count needs))

  -- one more need is counted
  pub demand_next : (left rest : List Need) (need : Need) (all total d new : ℕ) → left ≡ need ∷ rest →
      d ≡ capped (demand vertices kind (amount_of need) need) → new ≡ capped (total + d) →
      capped (total + needs_demand vertices kind left) ≡ all → capped (new + needs_demand vertices kind rest) ≡ all
  demand_next left rest need all total d new split ed en before =
      let e : needs_demand vertices kind left ≡ demand vertices kind (amount_of need) need + needs_demand vertices
      kind rest = ap (needs_demand vertices kind) split in
      omega (arith, e, ed, en, before)

  -- all are counted
  pub demand_end : (left items needs : List Need) (total : ℕ) → left ≡ [] → items ≡ needs → total < 2 ^ 64 →
      capped (total + needs_demand vertices kind left) ≡ capped (needs_demand vertices kind items) →
      total ≡ capped (needs_demand vertices kind needs)
  demand_end left items needs total none same small before =
      let e : needs_demand vertices kind left ≡ 0 = ap (needs_demand vertices kind) none in
      let f : needs_demand vertices kind items ≡ needs_demand vertices kind needs =
      ap (needs_demand vertices kind) same in
      omega (arith, e, f, before)

  none_times : (n x : ℕ) → x ≡ 0 → n * x ≡ 0
  none_times n x e = ap (λ y. n * y) e ∙ (omega arith)

  -- where a need demands some, it demands some of one
  demand_some : (n : ℕ) (need : Need) → 1 ≤ demand vertices kind n need → 1 ≤ demand vertices kind 1 need
  demand_some n (Vert' own count hold m needs) h = elim
      (cases_lt 0 (one_if (own == kind) + row_demand vertices kind needs)) [
        | inl some ↦ omega arith
        | inr none ↦ (let zero = none_times n (one_if (own == kind) + row_demand vertices kind needs) (omega arith) in
            absurd (omega (arith, zero, h)))
      ]
  demand_some n (Pool own quantity) h = elim (cases_lt 0 (one_if (own == kind))) [
    | inl some ↦ omega arith
    | inr none ↦ (let zero = none_times n (one_if (own == kind)) (omega arith) in absurd (omega (arith, zero, h)))
  ]
  demand_some n (Spread' count m needs) h = elim (cases_lt 0 (row_demand vertices kind needs)) [
    | inl some ↦ omega arith
    | inr none ↦ (let zero = none_times n (row_demand vertices kind needs) (omega arith) in omega (arith, zero, h))
  ]

  pub some_of : (b : Bool) → 1 ≤ one_if b → IsTrue b
  some_of true h = refl
  some_of false h = absurd (omega arith)

  -- a vertex need demands its own kind, and what those within it do
  pub some_Vert : (own count : ℕ) (hold : Bool) (needs : List Need) →
      1 ≤ demand vertices kind 1 (Vert own count hold needs) →
      (own ≡ kind) ⊎ (1 ≤ needs_demand vertices kind needs)
  some_Vert own count hold needs h = elim (cases_lt 0 (needs_demand vertices kind needs)) [
    | inl some ↦ inr some
    | inr none ↦ (
        let e = demand_Vert 1 own count hold needs in
        let one : 1 ≤ one_if (own == kind) = omega (arith, e) in
        inl (eqb-true own kind (some_of (own == kind) one)))
  ]

  pub some_Pool : (own quantity : ℕ) → 1 ≤ demand vertices kind 1 (Pool own quantity) → own ≡ kind
  some_Pool own quantity h = let one : 1 ≤ one_if (own == kind) = omega arith in
      eqb-true own kind (some_of (own == kind) one)

  pub some_Spread : (count : ℕ) (needs : List Need) → 1 ≤ demand vertices kind 1 (Spread count needs) →
      IsTrue (is_node_kind vertices kind) ⊎ (1 ≤ needs_demand vertices kind needs)
  some_Spread count needs h = elim (cases_lt 0 (needs_demand vertices kind needs)) [
    | inl some ↦ inr some
    | inr none ↦ (
        let e = demand_Spread 1 count needs in
        let one : 1 ≤ one_if (is_node_kind vertices kind) = omega (arith, e) in
        inl (some_of (is_node_kind vertices kind) one))
  ]

  -- a list demands what its first need does, or the others
  pub some_next : (left rest : List Need) (need : Need) → left ≡ need ∷ rest → 1 ≤ needs_demand vertices kind left →
      (1 ≤ demand vertices kind 1 need) ⊎ (1 ≤ needs_demand vertices kind rest)
  some_next left rest need split h = elim (cases_lt 0 (needs_demand vertices kind rest)) [
    | inl some ↦ inr some
    | inr none ↦ (
        let e : needs_demand vertices kind left ≡ demand vertices kind (amount_of need) need + needs_demand vertices
        kind rest = ap (needs_demand vertices kind) split in
        inl (demand_some (amount_of need) need (omega (arith, e))))
  ]

  pub none_left : (left : List Need) → left ≡ [] → 1 ≤ needs_demand vertices kind left → ⊥
  none_left left none h = let e : needs_demand vertices kind left ≡ 0 = ap (needs_demand vertices kind) none in
      omega (arith, e)

row_all_list : {m : _} (row : Row_of-Need m) → row_all row ≡ needs_all (items-the_row-Need _ row)
row_all_list end_of-Need = refl
row_all_list (more_of-Need need rest) = ap (λ ns. all_of need ++ ns) (row_all_list rest)

all_row : (needs : List Need) → row_all (hidden-the_row-Need-0 needs) ≡ needs_all needs
all_row needs = row_all_list (hidden-the_row-Need-0 needs) ∙ ap needs_all (items_hidden-the_row-Need-0 needs)

pub all_Vert : (kind count : ℕ) (hold : Bool) (needs : List Need) →
    all_of (Vert kind count hold needs) ≡ Vert kind count hold needs ∷ needs_all needs
all_Vert kind count hold needs = ap (λ ns. Vert kind count hold needs ∷ ns) (all_row needs)

pub all_Spread : (count : ℕ) (needs : List Need) → all_of (Spread count needs) ≡ Spread count needs ∷ needs_all needs
all_Spread count needs = ap (λ ns. Spread count needs ∷ ns) (all_row needs)

-- So much is demanded of each kind; the demands are of kinds among which are all of which some is.
module _ (amount : ℕ → ℕ) where
  -- the demand of a kind
  abbrev pub demand_at : ℕ → Demand
  demand_at kind = record { kind = kind; amount = capped (amount kind) }

  pub demands_each : (kinds : List ℕ) (demands : List Demand) → demands ≡ map demand_at kinds →
      (d : Demand) → Contains demands d → d.amount ≡ capped (amount d.kind)
  demands_each kinds demands e d there = each_is there.0
      (let lt : there.0 < length demands = there.1 in
      let n = ap length e in
      let same = length-map kinds demand_at in
      omega (arith, lt, n, same)) (ap (λ ds. get_or ds there.0 d) (sym e) ∙ there.2)
    where
      each_is : (k : ℕ) → k < length kinds → get_or (map demand_at kinds) k d ≡ d → d.amount ≡ capped (amount d.kind)
      each_is k lt is =
          let same : d ≡ demand_at (get_or kinds k 0) = sym is ∙ get_or-map demand_at kinds k 0 d lt in
          rw same refl

  pub demands_all : (kinds : List ℕ) (demands : List Demand) → demands ≡ map demand_at kinds →
      ((kind : ℕ) → 1 ≤ amount kind → Contains kinds kind) → (kind : ℕ) → 1 ≤ amount kind →
      IsTrue (list_any (λ d. d.kind == kind) demands)
  demands_all kinds demands e all kind some =
      let there = all kind some in
      subst (λ (ds : List Demand). IsTrue (list_any (λ d. d.kind == kind) ds)) (sym e)
      (kind_there kinds there.0 there.1 there.2)
    where
      kind_there : (ks : List ℕ) (k : ℕ) → k < length ks → get_or ks k kind ≡ kind →
          IsTrue (list_any (λ d. d.kind == kind) (map demand_at ks))
      kind_there [] k lt e = absurd (omega arith)
      kind_there (j ∷ ks) zero lt e = or_left (j == kind) (list_any (λ d. d.kind == kind) (map demand_at ks))
          (eq-eqb j kind e)
      kind_there (j ∷ ks) (suc k) lt e =
          or_right (j == kind) (list_any (λ d. d.kind == kind) (map demand_at ks)) (kind_there ks k (omega arith) e)

-- what one of the need demands of a kind
abbrev pub asked : List Vertex → Need → ℕ → Demand
asked vertices need = demand_at (λ kind. demand vertices kind 1 need)

-- and what needs do in full
abbrev pub asked_in_full : List Vertex → List Need → ℕ → Demand
asked_in_full vertices needs = demand_at (λ kind. needs_demand vertices kind needs)

-- the demands of kinds among which are all that the need demands are the need's
pub are_demands : (vertices : List Vertex) (need : Need) (kinds : List ℕ) (demands : List Demand) →
    demands ≡ map (asked vertices need) kinds →
    ((kind : ℕ) → 1 ≤ demand vertices kind 1 need → Contains kinds kind) → AreDemandsOf vertices need demands
are_demands vertices need kinds demands e all = record {
  each = demands_each (λ kind. demand vertices kind 1 need) kinds demands e;
  all = demands_all (λ kind. demand vertices kind 1 need) kinds demands e all;
}

pub are_demands_of_all : (vertices : List Vertex) (needs : List Need) (kinds : List ℕ) (demands : List Demand) →
    demands ≡ map (asked_in_full vertices needs) kinds →
    ((kind : ℕ) → 1 ≤ needs_demand vertices kind needs → Contains kinds kind) →
    AreDemandsOfAll vertices needs demands
are_demands_of_all vertices needs kinds demands e all = record {
  each = demands_each (λ kind. needs_demand vertices kind needs) kinds demands e;
  all = demands_all (λ kind. needs_demand vertices kind needs) kinds demands e all;
}

-- the demand of a kind that is there
some_item : (ds : List Demand) (kind : ℕ) → IsTrue (list_any (λ d. d.kind == kind) ds) → Any (λ d. d.kind ≡ kind) ds
some_item [] kind h = absurd (true≢false (sym h))
some_item (d ∷ ds) kind h = elim (or_cases (d.kind == kind) (list_any (λ e. e.kind == kind) ds) h) [
  | inl here ↦ (0, d, omega arith, refl, eqb-true d.kind kind here)
  | inr later ↦ (let r = some_item ds kind later in
      (suc r.0, r.1, (let lt : r.0 < length ds = r.2 in omega arith), r.3, r.4))
]

module _ (vertices : List Vertex) (present : Present) (w : Window) (keeps : ℕ → ℕ → Type 0) (v : ℕ) (amount : ℕ → ℕ)
    (demands : List Demand) where
  -- short of the demands is short of some kind, and so back
  pub below_to : ((d : Demand) → Contains demands d → d.amount ≡ capped (amount d.kind)) →
      IsShortOf vertices present w keeps demands v →
      (kind : ℕ) × IsBelow vertices present w keeps v kind (capped (amount kind))
  below_to each any =
      let d = any.1 in
      (d.kind, (any.4.0, subst (IsTooLittle vertices present w v d.kind) (each d (any.0, any.2, any.3)) any.4.1))

  pub below_from : ((d : Demand) → Contains demands d → d.amount ≡ capped (amount d.kind)) →
      ((kind : ℕ) → 1 ≤ amount kind → IsTrue (list_any (λ d. d.kind == kind) demands)) →
      (kind : ℕ) → IsBelow vertices present w keeps v kind (capped (amount kind)) →
      IsShortOf vertices present w keeps demands v
  below_from each all k is =
      let few : total_at vertices present k is.1.0 v < capped (amount k) = is.1.3 in
      let any = some_item demands k (all k (omega arith)) in
      let d = any.1 in
      let kind : d.kind ≡ k = any.4 in (
        any.0,
        d,
        any.2,
        any.3,
        (
          subst (keeps v) (sym kind) is.0,
          subst (IsTooLittle vertices present w v d.kind) (sym (each d (any.0, any.2, any.3)))
              (subst (λ (k : ℕ). IsTooLittle vertices present w v k (capped (amount k))) (sym kind) is.1),
        ),
      )

module _ (vertices : List Vertex) (present : Present) (w : Window) (keeps : ℕ → ℕ → Type 0) (need : Need)
    (demands : List Demand) (are : AreDemandsOf vertices need demands) (v : ℕ) where
  -- short of the demands of a need is short for it, and so back
  pub short_to : IsShortOf vertices present w keeps demands v → IsShortFor vertices present w keeps need v
  short_to = below_to vertices present w keeps v (λ kind. demand vertices kind 1 need) demands are.each

  pub short_from : IsShortFor vertices present w keeps need v → IsShortOf vertices present w keeps demands v
  short_from is = below_from vertices present w keeps v (λ kind. demand vertices kind 1 need) demands are.each are.all
      is.0
      is.1

-- counted in numbers of 64 bits
pub count_Vert : (kind count : ℕ) (hold : Bool) (needs : List Need) (inner r : ℕ) →
    inner ≡ capped (length (needs_all needs)) →
    r ≡ capped (1 + inner) → r ≡ capped (length (all_of (Vert kind count hold needs)))
count_Vert kind count hold needs inner r e f = let g = ap length (all_Vert kind count hold needs) in
    omega (arith, e, f, g)

pub count_Spread : (count : ℕ) (needs : List Need) (inner r : ℕ) → inner ≡ capped (length (needs_all needs)) →
    r ≡ capped (1 + inner) → r ≡ capped (length (all_of (Spread count needs)))
count_Spread count needs inner r e f = let g = ap length (all_Spread count needs) in omega (arith, e, f, g)

-- entries, one a need, one list after another
pub tell_both : (P : Need → Wanted → Type 0) (ns ms : List Need) (xs ys : List Wanted) → AllZip P ns xs →
    AllZip P ms ys →
    AllZip P (ns ++ ms) (xs ++ ys)
tell_both P [] ms [] ys h k = k
tell_both P [] ms (x ∷ xs) ys h k = elim h [ ]
tell_both P (n ∷ ns) ms [] ys h k = elim h [ ]
tell_both P (n ∷ ns) ms (x ∷ xs) ys h k = (h.0, tell_both P ns ms xs ys h.1 k)

pub tell_at : (P : Need → Wanted → Type 0) (ns : List Need) (xs : List Wanted) → AllZip P ns xs →
    (i : ℕ) (n : Need) (x : Wanted) →
    slice_get ns i ≡ Some n → slice_get xs i ≡ Some x → P n x
tell_at P [] [] h i n x e f = absurd (cc)
tell_at P [] (y ∷ ys) h i n x e f = elim h [ ]
tell_at P (m ∷ ms) [] h i n x e f = elim h [ ]
tell_at P (m ∷ ms) (y ∷ ys) h zero n x e f =
    let a : m ≡ n = cc in let b : y ≡ x = cc in subst (λ (k : Need). P k x) a (subst (P m) b h.0)
tell_at P (m ∷ ms) (y ∷ ys) h (suc i) n x e f = tell_at P ms ys h.1 i n x e f

pub tell_many : (P : Need → Wanted → Type 0) (ns : List Need) (xs : List Wanted) → AllZip P ns xs →
    length xs ≡ length ns
tell_many P [] [] h = refl
tell_many P [] (y ∷ ys) h = elim h [ ]
tell_many P (m ∷ ms) [] h = elim h [ ]
tell_many P (m ∷ ms) (y ∷ ys) h = ap suc (tell_many P ms ys h.1)

pub grows_none : (P : Need → Wanted → Type 0) (old : List Wanted) → Grows P [] old old
grows_none P old = ([], sym (append-nil old), tt)

pub grows_one : (P : Need → Wanted → Type 0) (n : Need) (x : Wanted) (old new : List Wanted) → new ≡ old ++ x ∷ [] →
    P n x → Grows P (n ∷ []) old new
grows_one P n x old new e p = (x ∷ [], e, (p, tt))

pub grows_both : (P : Need → Wanted → Type 0) (ns ms all : List Need) (old mid new : List Wanted) → all ≡ ns ++ ms →
    Grows P ns old mid → Grows P ms mid new → Grows P all old new
grows_both P ns ms all old mid new e g h = (
  g.0 ++ h.0,
  h.1 ∙ (ap (λ x. x ++ h.0) g.1 ∙ append_assoc old g.0 h.0),
  subst (λ (ks : List Need). AllZip P ks (g.0 ++ h.0)) (sym e) (tell_both P ns ms g.0 h.0 g.2 h.2),
)

-- the needs of one more
pub all_append : (ns ms : List Need) → needs_all (ns ++ ms) ≡ needs_all ns ++ needs_all ms
all_append [] ms = refl
all_append (n ∷ ns) ms = ap (λ x. all_of n ++ x) (all_append ns ms)
    ∙ sym (append_assoc (all_of n) (needs_all ns) (needs_all ms))

pub all_next : (items : List Need) (i : ℕ) (need : Need) → i < length items → need ≡ get_or items i need →
    needs_all (take (i + 1) items) ≡ needs_all (take i items) ++ all_of need
all_next items i need lt is =
    ap needs_all (take_more items i need lt ∙ ap (λ n. take i items ++ n ∷ []) (sym is))
    ∙ (all_append (take i items) (need ∷ []) ∙ ap (λ x. needs_all (take i items) ++ x) (append-nil (all_of need)))

-- a table with an entry for each need
pub tells : (P : Need → Wanted → Type 0) (ns : List Need) (xs : List Wanted) → AllZip P ns xs →
    ((i : ℕ) (n : Need) (x : Wanted) → slice_get ns i ≡ Some n → slice_get xs i ≡ Some x → P n x)
    × ((xs ≢ []) → length xs ≡ length ns)
tells P ns xs h = (tell_at P ns xs h, λ some. tell_many P ns xs h)
