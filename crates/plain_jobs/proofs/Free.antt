-- What is free of a vertex over a window.
use Rattle.std.proofs.Common.{◌≡◌, ℕ, ◌-◌, ◌<◌, ◌≤◌, min, if◌then◌else◌, Bool, true, false, List, ◌↔◌, sym}
use Rattle.std.proofs.Common.{◌∙◌, ap, arith, IsTrue, true≢false, Some, slice_get, length, get_or}
use Rattle.std.specs.Option.{option_map_or}
use Rattle.std.proofs.lemmas.Option.{slice_get-get_or}
use Rattle.std.proofs.lemmas.Bool.{false_from_ne_true}
use Rattle.flux_defs.specs.declared.limits.TheConstants.{GREATEST_NUMBER}
use Rattle.flux_defs.specs.declared.vertices.Vertex.{Vertex}
use Rattle.flux_defs.specs.declared.claims.Job.{Job}
use Rattle.flux_defs.specs.declared.claims.Window.{Window}
use Rattle.flux_defs.specs.Graph.{is_pool_kind, is_pool, size_of}
use Rattle.flux_defs.specs.ValidGraph.{HasFairSizes}
use Rattle.flux_defs.specs.Closed.{Scene, no_bars, is_closed, IsClosedOver}
use Rattle.flux_defs.specs.Free.{free_at, taken_at, IsFreeOver}
use Rattle.flux_defs.specs.Present.{up_with}
use Rattle.plain_jobs.specs.Spans.{IsMostTaken}

module _ (vertices : List Vertex) (jobs : List Job) (w : Window) (v : ℕ) where
  abbrev scene : Scene
  scene = no_bars vertices (up_with jobs)

  abbrev free_where : Bool → Bool → ℕ → ℕ
  free_where closed pool m = if closed then 0 else (if pool then (size_of vertices v - taken_at jobs m v) else 1)

  free_closed : (m : ℕ) → IsTrue (is_closed scene m v) → free_at scene m v ≡ 0
  free_closed m h = ap (λ b. free_where b (is_pool vertices v) m) h

  free_open : (m : ℕ) (pool : Bool) →
      is_closed scene m v ≡ false → is_pool vertices v ≡ pool → free_at scene m v ≡ free_where false pool m
  free_open m pool h k = ap (λ b. free_where b (is_pool vertices v) m) h ∙ ap (λ b. free_where false b m) k

  pub free_where_closed : (b : Bool) →
      b ≡ true → (IsTrue b ↔ IsClosedOver vertices (up_with jobs) w v) → IsFreeOver vertices (up_with jobs) w v 0
  free_where_closed b e h =
      let s = h.0 e in record { each = λ m lo hi. omega arith; reached = (s.0, s.1, s.2, free_closed s.0 s.3) }

  is_open : (b : Bool) → b ≡ false →
      (IsTrue b ↔ IsClosedOver vertices (up_with jobs) w v) → (m : ℕ) → w.from ≤ m → m < w.to →
      is_closed scene m v ≡ false
  is_open b e h m lo hi = false_from_ne_true (is_closed scene m v) (λ t. true≢false (sym (h.1 (m, lo, hi, t)) ∙ e))

  pub free_of_pool : (b : Bool) (n size r : ℕ) → b ≡ false → (IsTrue b ↔ IsClosedOver vertices (up_with jobs) w v) →
      is_pool vertices v ≡ true → size_of vertices v ≡ size → size ≤ 18446744073709551615 →
      r ≡ size - n → IsMostTaken jobs w v 18446744073709551615 n → IsFreeOver vertices (up_with jobs) w v r
  free_of_pool b n size r e h pool s le is most = record {
    each = λ m lo hi. (let free : free_at scene m v
        ≡ size_of vertices v - taken_at jobs m v = free_open m true (is_open b e h m lo hi) pool in
        let k : min (taken_at jobs m v) 18446744073709551615 ≤ n = most.each m lo hi in omega arith);
    reached = (let t = most.reached in (
      t.0,
      t.1,
      t.2,
      (let free : free_at scene t.0 v
          ≡ size_of vertices v - taken_at jobs t.0 v = free_open t.0 true (is_open b e h t.0 t.1 t.2) pool in
          let k : min (taken_at jobs t.0 v) 18446744073709551615 ≡ n = t.3 in omega arith),
    ));
  }

  pub free_of_other : (b : Bool) → b ≡ false → (IsTrue b ↔ IsClosedOver vertices (up_with jobs) w v) →
      is_pool vertices v ≡ false → w.from < w.to → IsFreeOver vertices (up_with jobs) w v 1
  free_of_other b e h pool opens = record {
    each =
        λ m lo hi. (let free : free_at scene m v ≡ 1 = free_open m false (is_open b e h m lo hi) pool in omega arith);
    reached = (w.from, omega arith, opens, free_open w.from false (is_open b e h w.from (omega arith) opens) pool);
  }

-- the vertex that was read off the list
module _ (vertices items : List Vertex) (v : ℕ) (blank : Vertex) (e : items ≡ vertices) (lt : v < length vertices) where
  there : slice_get vertices v ≡ Some (get_or items v blank)
  there = slice_get-get_or vertices v blank lt ∙ ap (λ vs. Some (get_or vs v blank)) (sym e)

  pub size_read : size_of vertices v ≡ (get_or items v blank).size
  size_read = ap (λ o. option_map_or (λ x. x.size) o 0) there

  pub pool_read : is_pool vertices v ≡ is_pool_kind vertices (get_or items v blank).kind
  pool_read = ap (λ o. option_map_or (λ x. is_pool_kind vertices x.kind) o false) there

  pub size_fits : (kinds : List (List ℕ)) →
      HasFairSizes (record { kinds = kinds; vertices = vertices }) → (get_or items v blank).size ≤ 18446744073709551615
  size_fits kinds fair =
      let le : (get_or items v blank).size ≤ GREATEST_NUMBER = fair.most v (get_or items v blank) there in omega arith
