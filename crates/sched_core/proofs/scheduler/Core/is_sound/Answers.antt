use Rattle.std.proofs.Common.{subst}
use Rattle.flux_defs.specs.Histories.{IsLegal, HasProperCommands}
use Rattle.flux_defs.specs.Sound.{IsSound, IsSoundThroughout}
use Rattle.sched_core.specs.Courses.{Course, state_of}
use Rattle.sched_core.proofs.FirstCore.{kept_legal, kept_proper, kept_sound, kept_last}
use Rattle.sched_core.proofs.scheduler.Core.is_sound.Goals as goal

pub returns-clause-legal : goal.returns-clause-legal
returns-clause-legal c =
    subst (λ (x : Course). IsLegal x.setting x.journal) c.self.view_is
    (kept_legal c.self.inside.site c.self.inside.keeping c.self.invariant)

pub returns-clause-proper : goal.returns-clause-proper
returns-clause-proper c =
    subst (λ (x : Course). HasProperCommands x.setting.graph.vertices x.journal) c.self.view_is
    (kept_proper c.self.inside.site c.self.inside.keeping c.self.invariant)

pub returns-clause-throughout : goal.returns-clause-throughout
returns-clause-throughout c =
    subst (λ (x : Course). IsSoundThroughout x.setting.graph.vertices x.journal) c.self.view_is
    (kept_sound c.self.inside.site c.self.inside.keeping c.self.invariant)

pub returns-clause-sound : goal.returns-clause-sound
returns-clause-sound c =
    subst (λ (x : Course). IsSound x.setting.graph.vertices (state_of x).jobs) c.self.view_is
    (kept_last c.self.inside.site c.self.inside.keeping c.self.invariant)
