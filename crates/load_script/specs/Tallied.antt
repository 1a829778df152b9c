-- What the code says of how far a history has led.
use Rattle.std.specs.Prelude.{◌≡◌, ℕ, length}
use Rattle.flux_defs.specs.declared.journal.Reply.{Reply}
use Rattle.flux_defs.specs.declared.journal.Reply.TheVariants as reply
use Rattle.flux_defs.specs.Scheduler.{State}
use Rattle.load_script.specs.declared.counts.Reached.{Reached}

-- the state has this moment and this count of claims
pub record AreOf (s : State) (reached : Reached) : Type 0 where
  pub claims : reached.claims ≡ s.claim_count
  pub second : reached.second ≡ s.moment

-- how many claims a reply gives
abbrev pub held_by : Reply → ℕ
held_by (reply.Allocated job) = length job.claims
held_by (reply.Reserved job) = length job.claims
held_by r = 0
