-- Tests that live claims pass.
use Rattle.std.proofs.Common.{ℕ, Bool, ◌&&◌, ◌⊎◌, inl, inr, List, IsTrue}
use Rattle.std.specs.List.{list_any}
use Rattle.std.proofs.lemmas.Bool.{and_parts, and_from}
use Rattle.flux_defs.specs.declared.claims.Claim.{Claim}
use Rattle.flux_defs.specs.declared.claims.Job.{Job}
use Rattle.flux_defs.specs.Jobs.{is_live, some_live_claim}
use Rattle.list_laws.proofs.Lists.{any_along, any_either}

-- a live claim that passes one test passes another
pub live_along : (s t : Claim → Bool) → ((c : Claim) → IsTrue (s c) → IsTrue (t c)) →
    (jobs : List Job) (m : ℕ) → IsTrue (some_live_claim jobs m s) → IsTrue (some_live_claim jobs m t)
live_along s t h jobs m some =
    any_along (λ job. is_live m job && list_any s job.claims) (λ job. is_live m job && list_any t job.claims)
    (λ job both. (let b = and_parts (is_live m job) (list_any s job.claims) both in
    and_from _ _ b.0 (any_along s t h job.claims b.1))) jobs some

-- a live claim that passes a test passes one of two others
pub live_either : (s a b : Claim → Bool) → ((c : Claim) → IsTrue (s c) → IsTrue (a c) ⊎ IsTrue (b c)) →
    (jobs : List Job) (m : ℕ) → IsTrue (some_live_claim jobs m s) →
    IsTrue (some_live_claim jobs m a) ⊎ IsTrue (some_live_claim jobs m b)
live_either s a b h jobs m some =
    any_either (λ job. is_live m job && list_any s job.claims)
    (λ job. is_live m job && list_any a job.claims) (λ job. is_live m job && list_any b job.claims)
    (λ job both. (let p = and_parts (is_live m job) (list_any s job.claims) both in
    elim (any_either s a b h job.claims p.1) [
      | inl x ↦ inl (and_from (is_live m job) (list_any a job.claims) p.0 x)
      | inr y ↦ inr (and_from (is_live m job) (list_any b job.claims) p.0 y)
    ])) jobs some
