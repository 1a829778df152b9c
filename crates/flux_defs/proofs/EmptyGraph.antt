-- What is free of a vertex where there are no jobs: its size, which is 1 for a vertex that is no pool.
use Rattle.std.proofs.Common.{◌≡◌, ℕ, zero, suc, ◌-◌, ◌<◌, Bool, true, false, not, ◌&&◌, ◌==◌, List, [], ◌∷◌, length}
use Rattle.std.proofs.Common.{get_or, Some, slice_get, refl, sym, ◌∙◌, ap, subst, arith}
use Rattle.std.specs.Prelude.{if◌then◌else◌}
use Rattle.std.specs.Option.{option_map_or}
use Rattle.std.proofs.lemmas.Bool.{or_parts}
use Rattle.std.proofs.lemmas.Bool.Decides.{nat_tests}
use Rattle.std.proofs.lemmas.Option.{slice_get-get_or}
use Rattle.flux_defs.specs.declared.vertices.Vertex.{Vertex}
use Rattle.flux_defs.specs.declared.claims.Window.{Window}
use Rattle.flux_defs.specs.Graph.{is_pool_kind, is_pool, size_of}
use Rattle.flux_defs.specs.Present.{Present, bare}
use Rattle.flux_defs.specs.Closed.{no_bars}
use Rattle.flux_defs.specs.Free.{IsFreeIn, free_at}

unit_size : (k kind size : ℕ) → kind ≡ k → ((kind == k) && not (size == 1)) ≡ false → size ≡ 1
unit_size k kind size e h = grind (arith, nat_tests)

-- a vertex whose type is no pool type has size 1
pub size_of_unit : (vertices : List Vertex) (v : ℕ) (x : Vertex) (k : ℕ) →
    slice_get vertices v ≡ Some x → x.kind ≡ k → is_pool_kind vertices k ≡ false → x.size ≡ 1
size_of_unit [] v x k e is h = absurd (cc)
size_of_unit (y ∷ ys) zero x k e is h =
    let same : y ≡ x = cc in
    let here = (or_parts ((y.kind == k) && not (y.size == 1)) (is_pool_kind ys k) h).0 in
    let size : y.size ≡ 1 = unit_size k y.kind y.size (ap (λ z. z.kind) same ∙ is) here in
    ap (λ z. z.size) (sym same) ∙ size
size_of_unit (y ∷ ys) (suc v) x k e is h =
    size_of_unit ys v x k e is (or_parts ((y.kind == k) && not (y.size == 1)) (is_pool_kind ys k) h).1

all_free : (pool : Bool) (size : ℕ) → (pool ≡ false → size ≡ 1) → (if pool then size - 0 else 1) ≡ size
all_free true size h = omega arith
all_free false size h = sym (h refl)

free_there : (vertices : List Vertex) (m v : ℕ) (x : Vertex) →
    slice_get vertices v ≡ Some x → free_at (no_bars vertices bare) m v ≡ x.size
free_there vertices m v x e =
    let size : size_of vertices v ≡ x.size = ap (λ o. option_map_or (λ y. y.size) o 0) e in
    let pool : is_pool vertices v ≡ is_pool_kind vertices x.kind =
    ap (λ o. option_map_or (λ y. is_pool_kind vertices y.kind) o false) e in
    ap (λ b. if b then size_of vertices v - 0 else 1) pool
    ∙ (ap (λ n. if is_pool_kind vertices x.kind then n - 0 else 1) size
    ∙ all_free (is_pool_kind vertices x.kind) x.size (size_of_unit vertices v x x.kind e refl))

free_of_empty : (vertices : List Vertex) (w : Window) (v : ℕ) (d : Vertex) →
    w.from < w.to → v < length vertices → IsFreeIn (no_bars vertices bare) w v (get_or vertices v d).size
free_of_empty vertices w v d opens within =
    let there = slice_get-get_or vertices v d within in record {
      each = λ m lo hi. (let free : free_at (no_bars vertices bare) m v
          ≡ (get_or vertices v d).size = free_there vertices m v (get_or vertices v d) there in omega arith);
      reached = (w.from, omega arith, opens, free_there vertices w.from v (get_or vertices v d) there);
    }

pub free_read : (vertices items : List Vertex) (present : Present) (w : Window) (v : ℕ) (d : Vertex) →
    present ≡ bare → items ≡ vertices → w.from < w.to → v < length vertices →
    IsFreeIn (no_bars vertices present) w v (get_or items v d).size
free_read vertices items present w v d none same opens within =
    subst (λ (other : Present). IsFreeIn (no_bars vertices other) w v (get_or items v d).size) (sym none)
    (subst (λ (vs : List Vertex). IsFreeIn (no_bars vertices bare) w v (get_or vs v d).size)
    (sym same) (free_of_empty vertices w v d opens within))
