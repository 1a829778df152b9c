use Rattle.std.proofs.Common.{ℕ, List, None, Some, MatchOption, sym, subst}
use Rattle.flux_defs.specs.declared.vertices.Vertex.{Vertex}
use Rattle.flux_defs.specs.declared.journal.Command.{Command}
use Rattle.flux_defs.specs.declared.journal.Command.TheVariants as command
use Rattle.flux_defs.specs.declared.verdicts.Verdict.{Verdict}
use Rattle.flux_defs.specs.Asks.{window_of}
use Rattle.overtaken_check.specs.Scans.{IsFree, IsWhy}
use Rattle.overtaken_check.proofs.Reasons.{Told, allocate_told, reserve_told, none_told}
use Rattle.overtaken_check.proofs.overtaking.overtaken.Goals as goal

pub returns-in-Allocate-clause-answer : goal.returns-in-Allocate-clause-answer
returns-in-Allocate-clause-answer g c = λ set ev eh.
    let o = c.found_overtaken.result in
    let journal = c.args.journal.now in
    let ask = c.in-Allocate.ask in
    let id = c.in-Allocate.job in
    let start = c.in-Found.start in
    let claims = c.in-Found.claims in
    let place = c.args.place in
    let told = subst (λ (vs : List Vertex).
    MatchOption o (IsFree vs (window_of c.args.horizon ask start) claims None journal place)
    (IsWhy vs (window_of c.args.horizon ask start) claims None journal place))
    (sym ev) c.found_overtaken.ensures.answer in
    let here = subst (λ (h : ℕ).
    MatchOption o (IsFree set.graph.vertices (window_of h ask start) claims None journal place)
    (IsWhy set.graph.vertices (window_of h ask start) claims None journal place)) (sym eh) told in
    subst (λ (k : Command). Told set journal place k c.args.verdict.now o) (sym c.in-Allocate.is)
    (subst (λ (v : Verdict). Told set journal place (command.Allocate id ask) v o) (sym c.in-Found.is)
    (allocate_told set journal place id ask start claims o here))

pub returns-in-Reserve-clause-answer : goal.returns-in-Reserve-clause-answer
returns-in-Reserve-clause-answer g c = λ set ev eh.
    let o = c.found_overtaken-in-Reserve.result in
    let journal = c.args.journal.now in
    let ask = c.in-Reserve.ask in
    let id = c.in-Reserve.job in
    let start = c.in-Found.start in
    let claims = c.in-Found.claims in
    let place = c.args.place in
    let told = subst (λ (vs : List Vertex).
    MatchOption o (IsFree vs (window_of c.args.horizon ask start) claims (Some start) journal place)
    (IsWhy vs (window_of c.args.horizon ask start) claims (Some start) journal place)) (sym ev)
    c.found_overtaken-in-Reserve.ensures.answer in
    let here = subst (λ (h : ℕ).
    MatchOption o (IsFree set.graph.vertices (window_of h ask start) claims (Some start) journal place)
    (IsWhy set.graph.vertices (window_of h ask start) claims (Some start) journal place)) (sym eh) told in
    subst (λ (k : Command). Told set journal place k c.args.verdict.now o) (sym c.in-Reserve.is)
    (subst (λ (v : Verdict). Told set journal place (command.Reserve id ask) v o) (sym c.in-Found.is)
    (reserve_told set journal place id ask start claims o here))

pub returns-in-NoFit-clause-answer : goal.returns-in-NoFit-clause-answer
returns-in-NoFit-clause-answer g c = λ set ev eh.
    subst (λ (v : Verdict). Told set c.args.journal.now c.args.place c.args.command.now v c.hindered.result)
    (sym c.in-NoFit.is) (none_told set c.args.journal.now c.args.place c.args.command.now c.hindered.result
    c.hindered.ensures.answer)
