-- What stands at a moment: all that a search sees of the site beside its vertices.
use Rattle.std.specs.Prelude.{◌≡◌, ℕ, List, []}
use Rattle.flux_defs.specs.declared.claims.Job.{Job}

-- the jobs that were accepted and not cancelled, and the vertices that are down
pub record Present : Type 0 where
  pub jobs : List Job
  pub down : List ℕ

-- these jobs, and every vertex up
abbrev pub up_with : List Job → Present
up_with jobs = record { jobs = jobs; down = [] }

-- the same jobs, and every vertex up
abbrev pub all_up : Present → Present
all_up present = up_with present.jobs

-- the bare site: no jobs, and every vertex up
abbrev pub bare : Present
bare = up_with []

-- the jobs are such, and every vertex is up
abbrev pub IsUpWith : (List Job → Type 0) → Present → Type 0
IsUpWith Jobs present = Jobs present.jobs × (present.down ≡ [])

-- it is so of all that may stand
abbrev pub InEach : (Present → Type 0) → (Present → Type 0) → Type 0
InEach stands P = (present : Present) → stands present → P present
