-- What a later state, with more jobs and a later moment, still gives.
use Rattle.std.proofs.Common.{ℕ, ◌≤◌, List, ◌++◌, arith}
use Rattle.std.specs.List.{AllByRecursion}
use Rattle.flux_defs.specs.declared.vertices.Vertex.{Vertex}
use Rattle.flux_defs.specs.declared.claims.Claim.{Claim}
use Rattle.flux_defs.specs.declared.claims.Job.{Job}
use Rattle.flux_defs.specs.declared.claims.Window.{Window}
use Rattle.flux_defs.specs.declared.requests.Ask.{Ask}
use Rattle.flux_defs.specs.Graph.{Everywhere}
use Rattle.flux_defs.specs.Closed.{no_bars}
use Rattle.flux_defs.specs.Available.{IsAvailable}
use Rattle.flux_defs.specs.Asks.{window_of, scene_of, SomeFit, IsLowestFirst, IsStart, IsEarliest}
use Rattle.flux_defs.specs.Present.{up_with}
use Rattle.graph_laws.proofs.Containment.{ParentsFirst}
use Rattle.flux_laws.proofs.Determined.{lowest_fits}
use Rattle.match_laws.proofs.MoreAvailable.{fits_more}
use Rattle.commit_laws.proofs.Stays.{lowest_stays}
use Rattle.commit_laws.proofs.MoreJobs.{available_back, held_opens}
use Rattle.commit_laws.proofs.InTheWay.{available_barred}

module _ (vertices : List Vertex) (jobs extra : List Job) (ask : Ask) where
  -- what fits with more jobs did fit with fewer
  pub fit_back : (w : Window) → SomeFit vertices (up_with (jobs ++ extra)) ask w → SomeFit vertices (up_with jobs) ask w
  fit_back w f = (
    f.0,
    fits_more vertices (IsAvailable (scene_of vertices (up_with (jobs ++ extra)) ask) w)
        (IsAvailable (scene_of vertices (up_with jobs) ask) w) (available_back vertices jobs extra ask.barred w) 1
        Everywhere
        ask.needs f.0 f.1,
  )

  pub start_back : (horizon t : ℕ) → IsStart vertices (up_with (jobs ++ extra)) horizon ask t →
      IsStart vertices (up_with jobs) horizon ask t
  start_back horizon t s = (s.0, fit_back (window_of horizon ask t) s.1)

  module _ (first : ParentsFirst vertices) where
    -- lowest-first claims that are all still available are the lowest-first claims with more jobs
    pub still_lowest : (w : Window) (claims : List Claim) → IsLowestFirst vertices (up_with jobs) ask w claims →
        AllByRecursion (IsAvailable (no_bars vertices (up_with (jobs ++ extra))) w) claims →
        IsLowestFirst vertices (up_with (jobs ++ extra)) ask w claims
    still_lowest w claims low free =
        lowest_stays vertices first (IsAvailable (scene_of vertices (up_with jobs) ask) w)
        (IsAvailable (scene_of vertices (up_with (jobs ++ extra)) ask) w)
        (IsAvailable (no_bars vertices (up_with (jobs ++ extra))) w)
        (available_back vertices jobs extra ask.barred w)
        (λ c a b. available_barred vertices jobs (jobs ++ extra) ask.barred w c a b)
        (λ v lt held c in_graph under a.
        held_opens vertices first jobs (jobs ++ extra) ask.barred w v held c in_graph under a)
        1 Everywhere ask.needs claims free low

    -- and an earliest start at which they are available, not before the later moment, is the earliest start then
    pub still_earliest : (horizon was now start : ℕ) (claims : List Claim) → was ≤ now → now ≤ start →
        IsEarliest vertices (up_with jobs) horizon ask was start →
        IsLowestFirst vertices (up_with (jobs ++ extra)) ask (window_of horizon ask start) claims →
        IsEarliest vertices (up_with (jobs ++ extra)) horizon ask now start
    still_earliest horizon was now start claims le at e low = record {
      later = at;
      starts = (
        e.starts.0,
        (claims, lowest_fits vertices (up_with (jobs ++ extra)) ask (window_of horizon ask start) claims low),
      );
      least = λ u lo s. e.least u (omega arith) (start_back horizon u s);
    }
