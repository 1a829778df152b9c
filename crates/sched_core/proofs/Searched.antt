-- What the steps of a search say together.
use Rattle.std.proofs.Common.{◌≡◌, ℕ, ◌≤◌, ◌↔◌, Bool, false, List, Option, Some, None, MatchOption, IsSome, inl, inr}
use Rattle.std.proofs.Common.{refl, sym, ◌∙◌, ap, subst, IsTrue, true≢false, Contains}
use Rattle.flux_defs.specs.declared.claims.Claim.{Claim}
use Rattle.flux_defs.specs.declared.claims.Window.{Window}
use Rattle.flux_defs.specs.declared.requests.Ask.{Ask}
use Rattle.flux_defs.specs.declared.journal.Entry.{Entry}
use Rattle.flux_defs.specs.Asks.{window_of, CountsWithin, SomeFit, IsLowestFirst, IsStart, IsEarliest, IsSatisfiable}
use Rattle.flux_defs.specs.Scheduler.{Setting, State, present_of}
use Rattle.flux_defs.specs.declared.verdicts.Verdict.{Verdict}
use Rattle.flux_defs.specs.declared.verdicts.Verdict.TheVariants.{Found, NoFit}
use Rattle.flux_defs.specs.Verdicts.{FindsNow, FindsEarliest, FindsJob}
use Rattle.flux_laws.proofs.Determined.{lowest_fits}
use Rattle.job_table.specs.declared.tables.Row.{Row}
use Rattle.sched_core.specs.Courses.{IsRowOf, IsNew}

pub test_no : (A : Type 0) (b : Bool) → (IsTrue b ↔ A) → b ≡ false → A → ⊥
test_no A b h e x = true≢false (sym (h.1 x) ∙ e)

-- exactly the ids that were accepted have rows
pub has_row : (journal : List Entry) (s : State) (id : ℕ) (found : Option Row) →
    MatchOption found (IsNew s id) (IsRowOf journal s id) → (IsSome found ↔ Contains s.used id)
has_row journal s id None new = (λ h. absurd (true≢false (sym h)), λ used. absurd (new.unused used))
has_row journal s id (Some row) is = (λ h. is.used, λ used. refl)

module _ (g : Setting) (s : State) (id : ℕ) (ask : Ask) (AtStarts : Verdict → Type 0) where
  pub job_at : (Contains s.used id → ⊥) → IsSatisfiable g.graph.vertices ask → (t : ℕ) → t ≡ s.moment →
      CountsWithin g.horizon ask t → (v : Verdict) → AtStarts v → FindsJob g s id ask AtStarts v
  job_at fresh served t at counts v found =
      inr (fresh, inr (served, inr (subst (CountsWithin g.horizon ask) at counts, found)))

module _ (g : Setting) (s : State) (ask : Ask) (t : ℕ) (at : t ≡ s.moment) where
  pub now_none : (w : Window) → w ≡ window_of g.horizon ask t → (SomeFit g.graph.vertices (present_of s) ask w → ⊥) →
      FindsNow g s ask NoFit
  now_none w is none =
      inl (
        subst (λ m. SomeFit g.graph.vertices (present_of s) ask (window_of g.horizon ask m) → ⊥) at
            (subst (λ (x : Window). SomeFit g.graph.vertices (present_of s) ask x → ⊥) is none),
        refl,
      )

  pub now_found : (w : Window) → w ≡ window_of g.horizon ask t → (claims : List Claim) →
      IsLowestFirst g.graph.vertices (present_of s) ask w claims → FindsNow g s ask (Found t claims)
  now_found w is claims low =
      let here : IsLowestFirst g.graph.vertices (present_of s) ask (window_of g.horizon ask s.moment) claims =
      subst (λ m. IsLowestFirst g.graph.vertices (present_of s) ask (window_of g.horizon ask m) claims) at
      (subst (λ (x : Window). IsLowestFirst g.graph.vertices (present_of s) ask x claims) is low) in
      inr (
        (claims, lowest_fits g.graph.vertices (present_of s) ask (window_of g.horizon ask s.moment) claims here),
        (claims, here, ap (λ m. Found m claims) at),
      )

  pub none_starts : ((u : ℕ) → t ≤ u → IsStart g.graph.vertices (present_of s) g.horizon ask u → ⊥) →
      FindsEarliest g s ask NoFit
  none_starts none =
      let never : (u : ℕ) → s.moment ≤ u → IsStart g.graph.vertices (present_of s) g.horizon ask u →
      ⊥ = subst (λ m. (u : ℕ) → m ≤ u → IsStart g.graph.vertices (present_of s) g.horizon ask u → ⊥) at none in
      inl ((λ f. never f.0 f.1 f.2), refl)

  pub start_found : (start : ℕ) (claims : List Claim) → IsEarliest g.graph.vertices (present_of s) g.horizon ask t
      start →
      IsLowestFirst g.graph.vertices (present_of s) ask (window_of g.horizon ask start) claims →
      FindsEarliest g s ask (Found start claims)
  start_found start claims first low =
      let early : IsEarliest g.graph.vertices (present_of s) g.horizon ask s.moment start =
      subst (λ m. IsEarliest g.graph.vertices (present_of s) g.horizon ask m start) at first in
      inr ((start, early.later, early.starts), (start, early, (claims, low, refl)))
