-- A job whose claims may be had, and are separate, keeps the jobs sound; and so does taking jobs away.
use Rattle.std.proofs.Common.{◌≡◌, ◌≢◌, ℕ, ◌+◌, ◌-◌, ◌<◌, ◌≤◌, nat_le, nat_lt, if◌then◌else◌, cond, Bool, true, false}
use Rattle.std.proofs.Common.{not, ◌&&◌, List, [], ◌∷◌, ◌++◌, filter, ◌⊎◌, inl, inr, refl, sym, ◌∙◌, ap, subst, arith}
use Rattle.std.proofs.Common.{IsTrue, true≢false, Contains}
use Rattle.std.specs.List.{AllByRecursion, list_any, sum_by}
use Rattle.std.proofs.lemmas.Bool.{and_parts, and_from, or_left, eq-eqb, ne_eqb}
use Rattle.std.proofs.lemmas.Bool.Decides.{nat_tests, eqb_tells}
use Rattle.std.proofs.lemmas.List.Sums.{sum_by-cons, sum_by_push}
use Rattle.flux_defs.specs.declared.vertices.Vertex.{Vertex}
use Rattle.flux_defs.specs.declared.claims.Claim.{Claim}
use Rattle.flux_defs.specs.declared.claims.Claim.TheVariants.{Take, Hold, Pass}
use Rattle.flux_defs.specs.declared.claims.Job.{Job}
use Rattle.flux_defs.specs.declared.claims.Window.{Window}
use Rattle.flux_defs.specs.Graph.{is_pool, size_of}
use Rattle.flux_defs.specs.Jobs.{vertex_of, is_live, some_live_claim, holds_over, is_on_or_below, take_of}
use Rattle.flux_defs.specs.Closed.{Scene, is_closed, is_touched, is_withheld, has_withheld}
use Rattle.flux_defs.specs.Free.{taken_at}
use Rattle.flux_defs.specs.Available.{IsAvailable}
use Rattle.flux_defs.specs.Sound.{AreSeparate, AreAllSeparate, KeepApart, AllKeepApart, IsSound}
use Rattle.flux_defs.specs.Present.{up_with}
use Rattle.graph_laws.proofs.Containment.{not_to}
use Rattle.sound_laws.proofs.Members.{each_member, any_member}
use Rattle.list_laws.proofs.Lists.{all_append, all_filter, all_contained}
use Rattle.sound_laws.proofs.Had.{IsHad}

module _ (vertices : List Vertex) where
  take_elsewhere : (v : ℕ) (c : Claim) → vertex_of c ≢ v → take_of v c ≡ 0
  take_elsewhere v (Take u q) ne = ap (λ b. if b then q else 0) (ne_eqb u v ne)
  take_elsewhere v (Hold u) ne = refl
  take_elsewhere v (Pass u) ne = refl

  take_here : (u v q : ℕ) → u ≡ v → take_of v (Take u q) ≡ q
  take_here u v q e = ap (λ b. if b then q else 0) (eq-eqb u v e)

  takes_elsewhere : (v : ℕ) (c : Claim) (cs : List Claim) →
      vertex_of c ≡ v → AllByRecursion (AreSeparate vertices c) cs → sum_by (take_of v) cs ≡ 0
  takes_elsewhere v c [] e s = refl
  takes_elsewhere v c (d ∷ ds) e s =
      let a : take_of v d ≡ 0 = take_elsewhere v d (λ f. s.0.0 (e ∙ sym f)) in
      let b : sum_by (take_of v) ds ≡ 0 = takes_elsewhere v c ds e s.1 in
      omega (arith, sum_by-cons (take_of v) d ds)

  -- what separate claims take of v: nothing, or what one of them takes
  abbrev pub TakesOne : (Claim → Type 0) → ℕ → List Claim → Type 0
  TakesOne P v cs = (sum_by (take_of v) cs ≡ 0) ⊎ ((q : ℕ) × (sum_by (take_of v) cs ≡ q) × P (Take v q))

  first_takes : (P : Claim → Type 0) (v : ℕ) (c : Claim) (cs : List Claim) →
      AllByRecursion (AreSeparate vertices c) cs → P c → vertex_of c ≡ v → TakesOne P v (c ∷ cs)
  first_takes P v (Hold u) cs s p e = inl (let rest : sum_by (take_of v) cs ≡ 0 = takes_elsewhere v (Hold u) cs e s in
      omega (arith, sum_by-cons (take_of v) (Hold u) cs))
  first_takes P v (Pass u) cs s p e = inl (let rest : sum_by (take_of v) cs ≡ 0 = takes_elsewhere v (Pass u) cs e s in
      omega (arith, sum_by-cons (take_of v) (Pass u) cs))
  first_takes P v (Take u q) cs s p e = inr (
    q,
    (let rest : sum_by (take_of v) cs ≡ 0 = takes_elsewhere v (Take u q) cs e s in
        let here : take_of v (Take u q) ≡ q = take_here u v q e in
        omega (arith, sum_by-cons (take_of v) (Take u q) cs)),
    subst (λ (x : ℕ). P (Take x q)) e p,
  )

  pub takes_one : (P : Claim → Type 0) (v : ℕ) (cs : List Claim) →
      AreAllSeparate vertices cs → AllByRecursion P cs → TakesOne P v cs
  takes_one P v [] separate had = inl refl
  takes_one P v (c ∷ cs) separate had = elim (eqb_tells (vertex_of c) v) [
    | inl here ↦ first_takes P v c cs separate.0 had.0 here.1
    | inr elsewhere ↦ (let none : take_of v c ≡ 0 = take_elsewhere v c elsewhere.1 in
        elim (takes_one P v cs separate.1 had.1) [
          | inl nothing ↦ inl (omega (arith, sum_by-cons (take_of v) c cs))
          | inr some ↦ inr (
            some.0,
            (let e : sum_by (take_of v) cs ≡ some.0 = some.1 in omega (arith, sum_by-cons (take_of v) c cs)),
            some.2,
          )
        ])
  ]

-- what a job takes where it is live
abbrev takes_live : ℕ → ℕ → Job → ℕ
takes_live m v job = if is_live m job then sum_by (take_of v) job.claims else 0

module _ (vertices : List Vertex) (jobs : List Job) (barred : List ℕ) (job : Job) where
  abbrev scene : Scene
  scene = record { vertices = vertices; present = up_with jobs; barred = barred }

  abbrev span : Window
  span = record { from = job.start; to = job.end }

  module _ (sound : IsSound vertices jobs) (had : AllByRecursion (IsHad vertices (IsAvailable scene span)) job.claims)
      (separate : AreAllSeparate vertices job.claims) where
    in_span : (m : ℕ) → IsTrue (is_live m job) → (job.start ≤ m) × (m < job.end)
    in_span m h =
        let b = and_parts (nat_le job.start m) (nat_lt m job.end) h in
        (grind (arith, nat_tests), grind (arith, nat_tests))

    fits_in : (closed pool : Bool) (size taken q : ℕ) → pool ≡ true →
        taken ≤ size → IsTrue (nat_le q (if closed then 0 else (if pool then (size - taken) else 1))) → taken + q ≤ size
    fits_in true pool size taken q is le h = grind (arith, nat_tests)
    fits_in false true size taken q is le h = grind (arith, nat_tests)
    fits_in false false size taken q is le h = absurd (true≢false (sym is))

    takes_fit : (m v : ℕ) (live : Bool) → is_live m job ≡ live →
        taken_at jobs m v + (if live then sum_by (take_of v) job.claims else 0) ≤ size_of vertices v
    takes_fit m v false e = let le : taken_at jobs m v ≤ size_of vertices v = sound.takes m v in omega arith
    takes_fit m v true e =
        let le : taken_at jobs m v ≤ size_of vertices v = sound.takes m v in
        let s = in_span m e in
        elim (takes_one vertices (IsHad vertices (IsAvailable scene span)) v job.claims separate had) [
          | inl none ↦ omega arith
          | inr some ↦ (let h : taken_at jobs m v + some.0 ≤ size_of vertices v =
              fits_in (is_closed scene m v) (is_pool vertices v)
              (size_of vertices v) (taken_at jobs m v) some.0 some.2.1.1 le (some.2.0 m s.0 s.1) in
              let e : sum_by (take_of v) job.claims ≡ some.0 = some.1 in omega arith)
        ]

    some_free : (closed : Bool) (q free : ℕ) →
        IsTrue closed → 1 ≤ q → IsTrue (nat_le q (if closed then 0 else free)) → ⊥
    some_free true q free h some le = grind (arith, nat_tests)
    some_free false q free h some le = true≢false (sym h)

    -- no live job holds what a claim of the job is on, or is below
    not_held : (m : ℕ) (c : Claim) → IsHad vertices (IsAvailable scene span) c →
        job.start ≤ m → m < job.end → IsTrue (some_live_claim jobs m (holds_over vertices (vertex_of c))) → ⊥
    not_held m (Take u q) h lo hi held =
        some_free (is_closed scene m u) q _ (or_left _ (is_withheld scene u) held) h.1.0 (h.0 m lo hi)
    not_held m (Hold u) h lo hi held =
        not_to (is_closed scene m u) (and_parts (not (is_closed scene m u))
        (not (is_touched scene m u)) (h.0 m lo hi)).0 (or_left _ (is_withheld scene u) held)
    not_held m (Pass u) h lo hi held = not_to (is_closed scene m u) (h.0 m lo hi) (or_left _ (is_withheld scene u) held)

    -- no live job has a claim on what the job holds, or below it
    not_touched : (m v : ℕ) → IsHad vertices (IsAvailable scene span) (Hold v) →
        job.start ≤ m → m < job.end → IsTrue (some_live_claim jobs m (is_on_or_below vertices v)) → ⊥
    not_touched m v h lo hi touched =
        not_to (is_touched scene m v) (and_parts (not (is_closed scene m v))
        (not (is_touched scene m v)) (h.0 m lo hi)).1 (or_left _ (has_withheld scene v) touched)

    live_member : (m : ℕ) (test : Claim → Bool) (other : Job) (c : Claim) → Contains jobs other →
        IsTrue (is_live m other) → Contains other.claims c → IsTrue (test c) → IsTrue (some_live_claim jobs m test)
    live_member m test other c member live has passes =
        any_member (λ j. is_live m j && list_any test j.claims) jobs other member
        (and_from _ _ live (any_member test other.claims c has passes))

    holds_none : (m : ℕ) (other : Job) (c d : Claim) → Contains jobs other →
        IsTrue (is_live m other) → Contains other.claims c → IsHad vertices (IsAvailable scene span) d →
        job.start ≤ m → m < job.end → IsTrue (holds_over vertices (vertex_of c) d) → ⊥
    holds_none m other c (Take u q) member live has h lo hi over = true≢false (sym over)
    holds_none m other c (Pass u) member live has h lo hi over = true≢false (sym over)
    holds_none m other c (Hold u) member live has h lo hi over =
        not_touched m u h lo hi (live_member m (is_on_or_below vertices u) other c member live has over)

    keeps_apart : (other : Job) → Contains jobs other → KeepApart vertices other job
    keeps_apart other member m live_other live c d hc hd =
        let s = in_span m live in
        let h = all_contained (IsHad vertices (IsAvailable scene span)) job.claims d had hd in
        record {
          first = λ over. not_held m d h s.0 s.1
              (live_member m (holds_over vertices (vertex_of d)) other c member live_other hc over);
          second = λ over. holds_none m other c d member live_other hc h s.0 s.1 over;
        }

    keep_append : (js : List Job) → AllKeepApart vertices js →
        AllByRecursion (λ j. KeepApart vertices j job) js → AllKeepApart vertices (js ++ job ∷ [])
    keep_append [] keep new = (tt, tt)
    keep_append (j ∷ js) keep new =
        (all_append (KeepApart vertices j) js (job ∷ []) keep.0 (new.0, tt), keep_append js keep.1 new.1)

    pub sound_add : IsSound vertices (jobs ++ job ∷ [])
    sound_add = record {
      takes =
          λ m v. (let h = takes_fit m v (is_live m job) refl in omega (arith, sum_by_push (takes_live m v) jobs job));
      holds = keep_append jobs sound.holds (each_member (λ j. KeepApart vertices j job) jobs keeps_apart);
      apart = all_append (λ j. AreAllSeparate vertices j.claims) jobs (job ∷ []) sound.apart (separate, tt);
    }

-- fewer jobs
module _ (keep : Job → Bool) where
  filter_sum : (f : Job → ℕ) (xs : List Job) → sum_by f (filter keep xs) ≤ sum_by f xs
  filter_sum f [] = omega arith
  filter_sum f (x ∷ xs) = by_test (keep x) (filter_sum f xs)
    where
      by_test : (b : Bool) → sum_by f (filter keep xs) ≤ sum_by f xs →
          sum_by f (cond b (x ∷ filter keep xs) (filter keep xs)) ≤ sum_by f (x ∷ xs)
      by_test true le = omega (arith, sum_by-cons f x (filter keep xs), sum_by-cons f x xs)
      by_test false le = omega (arith, sum_by-cons f x xs)

  filter_apart : (vertices : List Vertex) (xs : List Job) →
      AllKeepApart vertices xs → AllKeepApart vertices (filter keep xs)
  filter_apart vertices [] h = tt
  filter_apart vertices (x ∷ xs) h = by_test (keep x) (filter_apart vertices xs h.1)
    where
      by_test : (b : Bool) →
          AllKeepApart vertices (filter keep xs) → AllKeepApart vertices (cond b (x ∷ filter keep xs) (filter keep xs))
      by_test true rest = (all_filter (KeepApart vertices x) keep xs h.0, rest)
      by_test false rest = rest

  pub sound_filter : (vertices : List Vertex) (jobs : List Job) →
      IsSound vertices jobs → IsSound vertices (filter keep jobs)
  sound_filter vertices jobs sound = record {
    takes = λ m v. (let le : taken_at jobs m v ≤ size_of vertices v = sound.takes m v in
        omega (arith, filter_sum (takes_live m v) jobs));
    holds = filter_apart vertices jobs sound.holds;
    apart = all_filter (λ j. AreAllSeparate vertices j.claims) keep jobs sound.apart;
  }

pub sound_none : (vertices : List Vertex) → IsSound vertices []
sound_none vertices = record { takes = λ m v. omega arith; holds = tt; apart = tt }
