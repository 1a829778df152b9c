-- What the answers of a view say of claims, to an ask with bars.
use Rattle.std.proofs.Common.{◌≡◌, ℕ, ◌-◌, ◌<◌, ◌≤◌, ◌↔◌, Bool, true, false, not, ◌&&◌, List, refl, sym, ◌∙◌, ap, subst}
use Rattle.std.proofs.Common.{IsTrue, true≢false, nat_le, arith}
use Rattle.std.specs.Prelude.{if◌then◌else◌, ◌||◌}
use Rattle.std.specs.List.{list_any}
use Rattle.std.proofs.lemmas.Bool.{and_parts, and_from, or_left, or_right}
use Rattle.std.proofs.lemmas.Bool.Decides.{nat_tests}
use Rattle.flux_defs.specs.declared.vertices.Vertex.{Vertex}
use Rattle.flux_defs.specs.declared.claims.Claim.TheVariants.{Take, Hold, Pass}
use Rattle.flux_defs.specs.declared.claims.Window.{Window}
use Rattle.flux_defs.specs.Graph.{is_at_or_below, is_pool, size_of}
use Rattle.flux_defs.specs.Jobs.{some_live_claim, holds_over, is_on_or_below, EachMoment, SomeMoment}
use Rattle.flux_defs.specs.Present.{Present}
use Rattle.flux_defs.specs.Closed.{Scene, no_bars, is_closed, is_touched, IsClosedIn, IsTouchedIn, IsClosedOver}
use Rattle.flux_defs.specs.Closed.{IsTouchedOver}
use Rattle.flux_defs.specs.Free.{taken_at, free_at, IsFreeIn, IsFreeOver}
use Rattle.flux_defs.specs.Available.{IsAvailable}
use Rattle.graph_laws.proofs.Containment.{not_from, not_to}

-- a test passes at no moment where it doesn't pass at some moment
none_of : (w : Window) (test : ℕ → Bool) (b : Bool) → (IsTrue b ↔ SomeMoment w (λ m. IsTrue (test m))) →
    (IsTrue (not b) ↔ EachMoment w (λ m. IsTrue (not (test m))))
none_of w test b h = (
  λ n m lo hi. not_from (test m) (λ t. not_to b n (h.1 (m, lo, hi, t))),
  λ each. not_from b (λ t. let s = h.0 t in not_to (test s.0) (each s.0 s.1 s.2) s.3),
)

module _ (scene : Scene) (w : Window) (v : ℕ) where
  -- a pass is available exactly where the vertex isn't closed
  pub available_pass : (closed : Bool) →
      (IsTrue closed ↔ IsClosedIn scene w v) → (IsTrue (not closed) ↔ IsAvailable scene w (Pass v))
  available_pass closed h = none_of w (λ m. is_closed scene m v) closed h

  -- a hold, where it is neither closed nor touched
  pub available_hold : (closed touched : Bool) →
      (IsTrue closed ↔ IsClosedIn scene w v) → (IsTrue touched ↔ IsTouchedIn scene w v) →
      (IsTrue (not closed && not touched) ↔ IsAvailable scene w (Hold v))
  available_hold closed touched h k =
      let c = none_of w (λ m. is_closed scene m v) closed h in
      let t = none_of w (λ m. is_touched scene m v) touched k in (
        λ n m lo hi. let p = and_parts (not closed) (not touched) n in and_from _ _ (c.0 p.0 m lo hi) (t.0 p.1 m lo hi),
        λ each. and_from _ _
            (c.1 (λ m lo hi. (and_parts _ _ (each m lo hi)).0)) (t.1 (λ m lo hi. (and_parts _ _ (each m lo hi)).1)),
      )

  -- where it isn't closed, whether it is touched decides
  pub hold_open : (closed touched : Bool) →
      closed ≡ false → (IsTrue closed ↔ IsClosedIn scene w v) → (IsTrue touched ↔ IsTouchedIn scene w v) →
      (IsTrue (not touched) ↔ IsAvailable scene w (Hold v))
  hold_open true touched o h k = absurd (true≢false o)
  hold_open false touched o h k = available_hold false touched h k

  -- a need of vertices claims nothing of a closed vertex
  pub admits_none : (hold closed : Bool) → closed ≡ true →
      (IsTrue closed ↔ IsClosedIn scene w v) → (IsTrue false ↔ IsAvailable scene w (if hold then Hold v else Pass v))
  admits_none true closed o h = (
    λ t. absurd (true≢false (sym t)),
    λ each. absurd (not_to closed ((available_pass closed h).1 (λ m lo hi. (and_parts _ _ (each m lo hi)).0)) o),
  )
  admits_none false closed o h =
      (λ t. absurd (true≢false (sym t)), λ each. absurd (not_to closed ((available_pass closed h).1 each) o))

  -- it passes one that isn't closed
  pub admits_pass : (hold closed : Bool) → hold ≡ false → closed ≡ false →
      (IsTrue closed ↔ IsClosedIn scene w v) → (IsTrue true ↔ IsAvailable scene w (if hold then Hold v else Pass v))
  admits_pass true closed f o h = absurd (true≢false f)
  admits_pass false closed f o h =
      (λ t. (available_pass closed h).0 (not_from closed (λ u. true≢false (sym u ∙ o))), λ each. refl)

  -- and holds one that isn't touched either
  pub admits_hold : (hold closed touched : Bool) →
      hold ≡ true → closed ≡ false → (IsTrue closed ↔ IsClosedIn scene w v) → (IsTrue touched ↔ IsTouchedIn scene w v) →
      (IsTrue (not touched) ↔ IsAvailable scene w (if hold then Hold v else Pass v))
  admits_hold true closed touched t o h k = hold_open closed touched o h k
  admits_hold false closed touched t o h k = absurd (true≢false (sym t))

  -- a take of q, where the least that is free is as much
  pub available_take : (q n : ℕ) → IsFreeIn scene w v n → ((q ≤ n) ↔ IsAvailable scene w (Take v q))
  available_take q n f = (
    λ le m lo hi. (let least = f.each m lo hi in at_most le least),
    λ each. let r = f.reached in at_least (each r.0 r.1 r.2) r.3,
  )
    where
      at_most : {a b c : ℕ} → a ≤ b → b ≤ c → IsTrue (nat_le a c)
      at_most h k = grind (arith, nat_tests)

      at_least : {x : ℕ} → IsTrue (nat_le q x) → x ≡ n → q ≤ n
      at_least h e = grind (arith, nat_tests)

-- an ask's bars close and touch vertices beside what stands
module _ (vertices : List Vertex) (present : Present) (barred : List ℕ) (w : Window) (v : ℕ) (opens : w.from < w.to)
  where
    abbrev pub scene : Scene
    scene = record { vertices = vertices; present = present; barred = barred }

    abbrev held : ℕ → Bool
    held m = some_live_claim present.jobs m (holds_over vertices v)

    abbrev claimed : ℕ → Bool
    claimed m = some_live_claim present.jobs m (is_on_or_below vertices v)

    abbrev is_barred : Bool
    is_barred = list_any (is_at_or_below vertices v) barred

    abbrev has_barred : Bool
    has_barred = list_any (λ u. is_at_or_below vertices u v) barred

    abbrev is_down : Bool
    is_down = list_any (is_at_or_below vertices v) present.down

    abbrev has_down : Bool
    has_down = list_any (λ u. is_at_or_below vertices u v) present.down

    -- a barred vertex is closed, and one at or above a barred one touched
    pub closed_barred : (b : Bool) → b ≡ true → b ≡ is_barred → (IsTrue b ↔ IsClosedIn scene w v)
    closed_barred b t e =
        (λ _. (w.from, omega arith, opens, or_right (held w.from) _ (or_left _ is_down (sym e ∙ t))), λ _. t)

    pub touched_barred : (b : Bool) → b ≡ true → b ≡ has_barred → (IsTrue b ↔ IsTouchedIn scene w v)
    touched_barred b t e =
        (λ _. (w.from, omega arith, opens, or_right (claimed w.from) _ (or_left _ has_down (sym e ∙ t))), λ _. t)

    -- of any other vertex what stands decides
    same_closed : (m : ℕ) → is_barred ≡ false → is_closed scene m v ≡ is_closed (no_bars vertices present) m v
    same_closed m e = ap (λ b. held m || (b || is_down)) e

    same_touched : (m : ℕ) → has_barred ≡ false → is_touched scene m v ≡ is_touched (no_bars vertices present) m v
    same_touched m e = ap (λ b. claimed m || (b || has_down)) e

    pub closed_unbarred : (a b : Bool) → b ≡ false → b ≡ is_barred →
        (IsTrue a ↔ IsClosedOver vertices present w v) → (IsTrue a ↔ IsClosedIn scene w v)
    closed_unbarred a b f e h = (
      λ t. let s = h.0 t in (s.0, s.1, s.2, same_closed s.0 (sym e ∙ f) ∙ s.3),
      λ s. h.1 (s.0, s.1, s.2, sym (same_closed s.0 (sym e ∙ f)) ∙ s.3),
    )

    pub touched_unbarred : (a b : Bool) → b ≡ false → b ≡ has_barred →
        (IsTrue a ↔ IsTouchedOver vertices present w v) → (IsTrue a ↔ IsTouchedIn scene w v)
    touched_unbarred a b f e h = (
      λ t. let s = h.0 t in (s.0, s.1, s.2, same_touched s.0 (sym e ∙ f) ∙ s.3),
      λ s. h.1 (s.0, s.1, s.2, sym (same_touched s.0 (sym e ∙ f)) ∙ s.3),
    )

    -- what is free of a vertex that isn't closed
    abbrev free_open : ℕ → ℕ
    free_open m = if is_pool vertices v then (size_of vertices v - taken_at present.jobs m v) else 1

    closed_bar : (m : ℕ) → is_barred ≡ true → free_at scene m v ≡ 0
    closed_bar m e = go (held m) is_barred (free_open m) e
      where
        go : (a b : Bool) (n : ℕ) → b ≡ true → (let free : ℕ = (if a || (b || is_down) then 0 else n) in free ≡ 0)
        go true b n e = refl
        go false true n e = refl
        go false false n e = absurd (true≢false (sym e))

    same_free : (m : ℕ) → is_barred ≡ false → free_at scene m v ≡ free_at (no_bars vertices present) m v
    same_free m e = ap (λ b. if held m || (b || is_down) then 0 else free_open m) e

    -- nothing is free of a barred vertex
    pub free_barred : (b : Bool) → b ≡ true → b ≡ is_barred → IsFreeIn scene w v 0
    free_barred b t e =
        record { each = λ m lo hi. omega arith; reached = (w.from, omega arith, opens, closed_bar w.from (sym e ∙ t)) }

    -- and of any other as much as without bars
    pub free_unbarred : (b : Bool) (n : ℕ) → b ≡ false →
        b ≡ is_barred → IsFreeOver vertices present w v n → IsFreeIn scene w v n
    free_unbarred b n t e f = record {
      each = λ m lo hi. subst (λ x. n ≤ x) (sym (same_free m (sym e ∙ t))) (f.each m lo hi);
      reached = (let r = f.reached in (r.0, r.1, r.2, same_free r.0 (sym e ∙ t) ∙ r.3));
    }
