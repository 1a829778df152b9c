-- The least later start or end of the jobs, found by a walk.
use Rattle.std.proofs.Common.{◌≡◌, ℕ, ◌+◌, ◌<◌, ◌≤◌, min, nat_le, if◌then◌else◌, Bool, true, false, List, [], ◌∷◌, ◌++◌}
use Rattle.std.proofs.Common.{◌⊎◌, inl, inr, refl, sym, ◌∙◌, ap, subst, arith, true≢false, Option, Some, None, IfSome}
use Rattle.std.proofs.Common.{MatchOption, take, length, get_or}
use Rattle.std.proofs.lemmas.List.{take_more}
use Rattle.std.proofs.lemmas.Bool.{cases_lt}
use Rattle.std.proofs.lemmas.Bool.Decides.{leb_tells}
use Rattle.flux_defs.specs.declared.claims.Job.{Job}
use Rattle.flux_defs.specs.Jobs.{IsPoint, IsNextPoint}
use Rattle.plain_jobs.specs.Spans.{lesser_of}

-- the least later point of the jobs, as far as there is one
abbrev pub IsBest : List Job → ℕ → Option ℕ → Type 0
IsBest jobs after best =
    IfSome best (λ p. after < p) × MatchOption best ((p : ℕ) → after < p → IsPoint jobs p → ⊥) (IsNextPoint jobs after)

-- the least later number of a kind
abbrev IsLeast : (ℕ → Type 0) → ℕ → Option ℕ → Type 0
IsLeast P after None = (p : ℕ) → after < p → P p → ⊥
IsLeast P after (Some b) = (after < b) × P b × ((q : ℕ) → after < q → P q → b ≤ q)

least_more : (P R : ℕ → Type 0) (after p : ℕ) (best : Option ℕ) →
    ((q : ℕ) → R q → P q ⊎ (q ≡ p)) → ((q : ℕ) → P q → R q) → R p → IsLeast P after best →
    IsLeast R after (lesser_of best after p)
least_more P R after p None from to here h = go (nat_le p after) (leb_tells p after)
  where
    go : (b : Bool) → ((b ≡ true) × (p ≤ after)) ⊎ ((b ≡ false) × (after < p)) →
        IsLeast R after (if b then None else Some p)
    go true t = λ q lt r. elim t [
      | inl y ↦ elim (from q r) [ inl x ↦ h q lt x | inr e ↦ (let le : p ≤ after = y.1 in absurd (omega arith)) ]
      | inr n ↦ true≢false n.0
    ]
    go false t = elim t [
      | inl y ↦ absurd (true≢false (sym y.0))
      | inr n ↦ (n.1, here, λ q lt r. elim (from q r) [ inl x ↦ absurd (h q lt x) | inr e ↦ omega arith ])
    ]
least_more P R after p (Some b) from to here h = go (nat_le p after) (leb_tells p after)
  where
    go : (c : Bool) → ((c ≡ true) × (p ≤ after)) ⊎ ((c ≡ false) × (after < p)) →
        IsLeast R after (if c then Some b else Some (min b p))
    go true t = elim t [
      | inl y ↦ (
        h.0,
        to b h.1,
        λ q lt r. elim (from q r) [ inl x ↦ h.2 q lt x | inr e ↦ (let le : p ≤ after = y.1 in omega arith) ],
      )
      | inr n ↦ absurd (true≢false n.0)
    ]
    go false t = elim t [
      | inl y ↦ absurd (true≢false (sym y.0))
      | inr n ↦ elim (cases_lt p b) [
        | inl lt ↦ (let m : min b p ≡ p = omega arith in
            subst (λ (x : ℕ). IsLeast R after (Some x)) (sym m) (
              n.1,
              here,
              λ q l r. elim (from q r) [
                | inl x ↦ (let k : b ≤ q = h.2 q l x in omega arith)
                | inr e ↦ omega arith
              ],
            ))
        | inr ge ↦ (let m : min b p ≡ b = omega arith in
            subst (λ (x : ℕ). IsLeast R after (Some x)) (sym m) (
              h.0,
              to b h.1,
              λ q l r. elim (from q r) [
                | inl x ↦ h.2 q l x
                | inr e ↦ omega arith
              ],
            ))
      ]
    ]

point_cases : (jobs : List Job) (job : Job) (q : ℕ) →
    IsPoint (jobs ++ job ∷ []) q → IsPoint jobs q ⊎ ((q ≡ job.start) ⊎ (q ≡ job.end))
point_cases [] job q h = elim h [ inl x ↦ inr x | inr y ↦ absurd y ]
point_cases (j ∷ jobs) job q h = elim h [
  | inl x ↦ inl (inl x)
  | inr y ↦ elim (point_cases jobs job q y) [ inl z ↦ inl (inr z) | inr z ↦ inr z ]
]

point_old : (jobs : List Job) (job : Job) (q : ℕ) → IsPoint jobs q → IsPoint (jobs ++ job ∷ []) q
point_old [] job q h = absurd h
point_old (j ∷ jobs) job q h = elim h [ inl x ↦ inl x | inr y ↦ inr (point_old jobs job q y) ]

point_new : (jobs : List Job) (job : Job) (q : ℕ) → (q ≡ job.start) ⊎ (q ≡ job.end) → IsPoint (jobs ++ job ∷ []) q
point_new [] job q h = inl h
point_new (j ∷ jobs) job q h = inr (point_new jobs job q h)

least_of : (jobs : List Job) (after : ℕ) (best : Option ℕ) → IsBest jobs after best → IsLeast (IsPoint jobs) after best
least_of jobs after None h = h.1
least_of jobs after (Some b) h = (h.0, h.1.point, h.1.least)

best_of : (jobs : List Job) (after : ℕ) (best : Option ℕ) → IsLeast (IsPoint jobs) after best → IsBest jobs after best
best_of jobs after None h = (tt, h)
best_of jobs after (Some b) h = (h.0, record { later = h.0; point = h.1; least = h.2 })

pub best_more : (jobs : List Job) (job : Job) (after : ℕ) (best : Option ℕ) →
    IsBest jobs after best → IsBest (jobs ++ job ∷ []) after (lesser_of (lesser_of best after job.start) after job.end)
best_more jobs job after best h =
    best_of (jobs ++ job ∷ []) after _
    (least_more (λ q. IsPoint jobs q ⊎ (q ≡ job.start))
    (IsPoint (jobs ++ job ∷ [])) after job.end (lesser_of best after job.start)
    (λ q i. elim (point_cases jobs job q i) [
      | inl x ↦ inl (inl x)
      | inr y ↦ elim y [ inl s ↦ inl (inr s) | inr e ↦ inr e ]
    ])
    (λ q i. elim i [ inl x ↦ point_old jobs job q x | inr s ↦ point_new jobs job q (inl s) ])
    (point_new jobs job job.end (inr refl))
    (least_more (IsPoint jobs) (λ q. IsPoint jobs q ⊎ (q ≡ job.start)) after job.start best
    (λ q i. i) (λ q i. inl i) (inr refl) (least_of jobs after best h)))

pub best_step : (jobs : List Job) (i : ℕ) (job : Job) (after : ℕ) (best one two : Option ℕ) → i < length jobs →
    job ≡ get_or jobs i job → one ≡ lesser_of best after job.start → two ≡ lesser_of one after job.end →
    IsBest (take i jobs) after best → IsBest (take (i + 1) jobs) after two
best_step jobs i job after best one two lt is e f h =
    let front : take (i + 1) jobs ≡ take i jobs ++ job ∷ [] =
    take_more jobs i job lt ∙ ap (λ j. take i jobs ++ j ∷ []) (sym is) in
    let r : lesser_of (lesser_of best after job.start) after job.end ≡ two =
    sym (f ∙ ap (λ o. lesser_of o after job.end) e) in
    subst (IsBest (take (i + 1) jobs) after) r
    (subst (λ (js : List Job). IsBest js after (lesser_of (lesser_of best after job.start) after job.end))
    (sym front) (best_more (take i jobs) job after best h))
