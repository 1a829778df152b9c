-- What is so of jobs with every vertex up.
use Rattle.std.proofs.Common.{◌≡◌, ℕ, List, [], sym, subst}
use Rattle.flux_defs.specs.Present.{Present, up_with}

-- what stands where no vertex is down is its jobs with every vertex up
pub as_up : (P : Present → Type 0) (present : Present) → present.down ≡ [] → P (up_with present.jobs) → P present
as_up P present none h =
    subst (λ (down : List ℕ). P (record { jobs = present.jobs; down = down })) (sym none) h
