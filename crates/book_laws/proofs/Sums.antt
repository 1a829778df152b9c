-- Sums over the claims of live jobs.
use Rattle.std.proofs.Common.{◌≡◌, ℕ, zero, ◌+◌, ◌≤◌, Bool, true, false, ◌&&◌, ◌||◌, cond, List, [], ◌∷◌}
use Rattle.std.proofs.Common.{◌++◌, refl, sym, ◌∙◌, ap, arith, IsTrue, true≢false}
use Rattle.std.specs.List.{list_any, sum_by}
use Rattle.std.proofs.lemmas.Bool.{or_parts}
use Rattle.std.proofs.lemmas.List.Sums.{sum_by-cons, sum_by-append, sum_by_push, sum_by-le-sum_by}
use Rattle.flux_defs.specs.declared.claims.Claim.{Claim}
use Rattle.flux_defs.specs.declared.claims.Job.{Job}
use Rattle.flux_defs.specs.Jobs.{is_live, some_live_claim}
use Rattle.book_laws.specs.Amounts.{live_sum}

pub cond_none : (b : Bool) → cond b zero zero ≡ zero
cond_none true = refl
cond_none false = refl

-- what a job's claims sum to where it is live
abbrev pub job_sum : (Claim → ℕ) → ℕ → Job → ℕ
job_sum f m job = cond (is_live m job) (sum_by f job.claims) 0

pub live_cons : (f : Claim → ℕ) (job : Job) (jobs : List Job) (m : ℕ) →
    live_sum f (job ∷ jobs) m ≡ job_sum f m job + live_sum f jobs m
live_cons f job jobs m = sum_by-cons (job_sum f m) job jobs

pub live_append : (f : Claim → ℕ) (xs ys : List Job) (m : ℕ) →
    live_sum f (xs ++ ys) m ≡ live_sum f xs m + live_sum f ys m
live_append f xs ys m = sum_by-append (job_sum f m) xs ys

pub live_push : (f : Claim → ℕ) (jobs : List Job) (job : Job) (m : ℕ) →
    live_sum f (jobs ++ job ∷ []) m ≡ live_sum f jobs m + job_sum f m job
live_push f jobs job m = sum_by_push (job_sum f m) jobs job

-- sums of sums
pub sum_none : {X : Type 0} (xs : List X) → sum_by (λ x. 0) xs ≡ 0
sum_none [] = refl
sum_none (x ∷ xs) = sum_by-cons (λ y. 0) x xs ∙ (let r = sum_none xs in omega arith)

pub sum_add : {X : Type 0} (f g : X → ℕ) (xs : List X) → sum_by (λ x. f x + g x) xs ≡ sum_by f xs + sum_by g xs
sum_add f g [] = refl
sum_add f g (x ∷ xs) =
    let a = sum_by-cons (λ y. f y + g y) x xs in
    let b = sum_by-cons f x xs in
    let c = sum_by-cons g x xs in
    let r = sum_add f g xs in
    omega arith

pub sum_same : {X : Type 0} (f g : X → ℕ) (xs : List X) → ((x : X) → f x ≡ g x) → sum_by f xs ≡ sum_by g xs
sum_same f g [] h = refl
sum_same f g (x ∷ xs) h =
    let a = sum_by-cons f x xs in
    let b = sum_by-cons g x xs in
    let r = sum_same f g xs h in
    let e = h x in
    omega arith

pub cond_add : (b : Bool) (q r : ℕ) → cond b q 0 + cond b r 0 ≡ cond b (q + r) 0
cond_add true q r = refl
cond_add false q r = omega arith

pub live_add : (f g : Claim → ℕ) (jobs : List Job) (m : ℕ) →
    live_sum (λ c. f c + g c) jobs m ≡ live_sum f jobs m + live_sum g jobs m
live_add f g jobs m =
    sum_same (job_sum (λ c. f c + g c) m) (λ job. job_sum f m job + job_sum g m job) jobs
    (λ job. ap (λ n. cond (is_live m job) n 0) (sum_add f g job.claims)
    ∙ sym (cond_add (is_live m job) (sum_by f job.claims) (sum_by g job.claims)))
    ∙ sum_add (job_sum f m) (job_sum g m) jobs

pub live_none : (jobs : List Job) (m : ℕ) → live_sum (λ c. 0) jobs m ≡ 0
live_none jobs m =
    sum_same (job_sum (λ c. 0) m)
    (λ job. 0) jobs (λ job. ap (λ n. cond (is_live m job) n 0) (sum_none job.claims) ∙ cond_none (is_live m job))
    ∙ sum_none jobs

cond_most : (b : Bool) (q r : ℕ) → q ≤ r → cond b q 0 ≤ cond b r 0
cond_most true q r le = le
cond_most false q r le = omega arith

pub live_most : (f g : Claim → ℕ) (jobs : List Job) (m : ℕ) →
    ((c : Claim) → f c ≤ g c) → live_sum f jobs m ≤ live_sum g jobs m
live_most f g jobs m h =
    sum_by-le-sum_by (job_sum f m) (job_sum g m) jobs
    (λ job. cond_most (is_live m job) (sum_by f job.claims) (sum_by g job.claims) (sum_by-le-sum_by f g job.claims h))

-- a sum of live sums is a live sum of sums
pub live_swap : {X : Type 0} (g : X → Claim → ℕ) (xs : List X) (jobs : List Job) (m : ℕ) →
    sum_by (λ x. live_sum (g x) jobs m) xs ≡ live_sum (λ c. sum_by (λ x. g x c) xs) jobs m
live_swap g [] jobs m = sym (live_none jobs m)
live_swap g (x ∷ xs) jobs m =
    sum_by-cons (λ y. live_sum (g y) jobs m) x xs
    ∙ ap (λ n. live_sum (g x) jobs m + n) (live_swap g xs jobs m)
    ∙ sym (live_add (g x) (λ c. sum_by (λ y. g y c) xs) jobs m)
    ∙ sum_same (job_sum (λ c. g x c + sum_by (λ y. g y c) xs) m) (job_sum (λ c. sum_by (λ y. g y c) (x ∷ xs)) m) jobs
    (λ job. ap (λ n. cond (is_live m job) n 0)
    (sum_same (λ c. g x c + sum_by (λ y. g y c) xs)
    (λ c. sum_by (λ y. g y c) (x ∷ xs)) job.claims (λ c. sym (sum_by-cons (λ y. g y c) x xs))))

-- a test fails at each item of a list where it passes at none
not_any : {X : Type 0} (test : X → Bool) (x : X) (xs : List X) →
    list_any test (x ∷ xs) ≡ false → (test x ≡ false) × (list_any test xs ≡ false)
not_any test x xs h = or_parts (test x) (list_any test xs) h

pub sum_unless : {X : Type 0} (test : X → Bool) (f g : X → ℕ) →
    ((x : X) → test x ≡ false → f x ≡ g x) → (xs : List X) → list_any test xs ≡ false → sum_by f xs ≡ sum_by g xs
sum_unless test f g h [] none = refl
sum_unless test f g h (x ∷ xs) none =
    let n = not_any test x xs none in
    let a = sum_by-cons f x xs in
    let b = sum_by-cons g x xs in
    let r = sum_unless test f g h xs n.1 in
    let e = h x n.0 in
    omega arith

-- two sums agree that agree on claims which fail a test, where no live claim passes it
pub live_unless : (test : Claim → Bool) (f g : Claim → ℕ) →
    ((c : Claim) → test c ≡ false → f c ≡ g c) → (jobs : List Job) (m : ℕ) →
    some_live_claim jobs m test ≡ false → live_sum f jobs m ≡ live_sum g jobs m
live_unless test f g h jobs m none =
    sum_unless (λ job. is_live m job && list_any test job.claims) (job_sum f m) (job_sum g m)
    (λ job e. by_life (is_live m job) job e) jobs none
  where
    by_life : (b : Bool) (job : Job) →
        (b && list_any test job.claims) ≡ false → cond b (sum_by f job.claims) 0 ≡ cond b (sum_by g job.claims) 0
    by_life true job e = sum_unless test f g h job.claims e
    by_life false job e = refl

sum_where : {X : Type 0} (test : X → Bool) (f : X → ℕ) (k : ℕ) →
    ((x : X) → IsTrue (test x) → k ≤ f x) → (xs : List X) → IsTrue (list_any test xs) → k ≤ sum_by f xs
sum_where test f k h [] some = absurd (true≢false (sym some))
sum_where test f k h (x ∷ xs) some = go (test x) refl (sum_where test f k h xs)
  where
    go : (b : Bool) → test x ≡ b → (IsTrue (list_any test xs) → k ≤ sum_by f xs) → k ≤ sum_by f (x ∷ xs)
    go true e rest = let le : k ≤ f x = h x e in omega (arith, sum_by-cons f x xs)
    go false e rest =
        let le : k ≤ sum_by f xs = rest (sym (ap (λ b. b || list_any test xs) e) ∙ some) in
        omega (arith, sum_by-cons f x xs)

-- a sum is at least what each claim has that passes a test, where some live claim passes it
pub live_where : (test : Claim → Bool) (f : Claim → ℕ) (k : ℕ) →
    ((c : Claim) → IsTrue (test c) → k ≤ f c) → (jobs : List Job) (m : ℕ) →
    IsTrue (some_live_claim jobs m test) → k ≤ live_sum f jobs m
live_where test f k h jobs m some =
    sum_where (λ job. is_live m job && list_any test job.claims)
    (job_sum f m) k (λ job e. by_life (is_live m job) job e) jobs some
  where
    by_life : (b : Bool) (job : Job) → IsTrue (b && list_any test job.claims) → k ≤ cond b (sum_by f job.claims) 0
    by_life true job e = sum_where test f k h job.claims e
    by_life false job e = absurd (true≢false (sym e))
