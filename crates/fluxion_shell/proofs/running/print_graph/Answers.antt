use Rattle.std.proofs.Common.{◌≡◌, ◌≤◌, ℕ, List, length, Option, None, IfSome, inl, inr, refl, subst}
use Rattle.flux_io.specs.Counts.{Rose}
use Rattle.flux_io.specs.Stores.{Stored}
use Rattle.fluxion_shell.specs.declared.status.Status.{Status}
use Rattle.fluxion_shell.specs.declared.status.Status.TheVariants as status
use Rattle.asked_calls.specs.Calls.{print}
use Rattle.fluxion_shell.specs.Causes.{AppendsSome, AppendsFrontOfSome, FailsWith, OrEarlier, IsWritten}
use Rattle.fluxion_shell.specs.Outputs.{Prints}
use Rattle.fluxion_shell.proofs.Shown.{fails_cause, fails_first, shows_then, where_file, front_of, no_fault}
use Rattle.fluxion_shell.proofs.running.print_graph.Goals as goal

-- a graph that was not read is no answer that went well, nor one that the output spoils
no_ok : (told : Option Stored) (n : List ℕ) (F R : Type 0) (s : Status) → FailsWith told n F R s → s ≡ status.Ok → ⊥
no_ok told n F R s fails is = subst (FailsWith told n F R) is fails

no_write : (told : Option Stored) (n : List ℕ) (F R : Type 0) (s : Status) → FailsWith told n F R s →
    s ≡ status.Write → ⊥
no_write told n F R s fails is = subst (FailsWith told n F R) is fails

pub returns-in-Err-clause-answered : goal.returns-in-Err-clause-answered
returns-in-Err-clause-answered g c =
    let told = g.F.Files.told c.args.files.now in
    let name = c.args.name.now in
    let F = Rose (g.F.Files.faults c.args.files.now) (g.F.Files.faults c.load.new.files) in
    let R = Rose (g.F.Files.refused c.args.files.now) (g.F.Files.refused c.load.new.files) in
    λ same. absurd (no_ok told name F R c.in-Err.status c.in-Err.ensures.failed same)

pub returns-in-Err-clause-front : goal.returns-in-Err-clause-front
returns-in-Err-clause-front g c =
    let told = g.F.Files.told c.args.files.now in
    let name = c.args.name.now in
    let F = Rose (g.F.Files.faults c.args.files.now) (g.F.Files.faults c.load.new.files) in
    let R = Rose (g.F.Files.refused c.args.files.now) (g.F.Files.refused c.load.new.files) in
    λ same. absurd (no_write told name F R c.in-Err.status c.in-Err.ensures.failed same)

pub returns-in-Err-clause-cause : goal.returns-in-Err-clause-cause
returns-in-Err-clause-cause g c =
    let told = g.F.Files.told c.args.files.now in
    let name = c.args.name.now in
    let F = Rose (g.F.Files.faults c.args.files.now) (g.F.Files.faults c.load.new.files) in
    let R = Rose (g.F.Files.refused c.args.files.now) (g.F.Files.refused c.load.new.files) in
    fails_cause F R ⊥ (Rose (g.O.Sink.faults c.args.out.now) (g.O.Sink.faults c.args.out.now))
    (print name) name told None (λ P p. p) c.in-Err.status c.in-Err.ensures.failed

pub returns-in-Err-clause-first : goal.returns-in-Err-clause-first
returns-in-Err-clause-first g c =
    let told = g.F.Files.told c.args.files.now in
    let name = c.args.name.now in
    let F = Rose (g.F.Files.faults c.args.files.now) (g.F.Files.faults c.load.new.files) in
    let R = Rose (g.F.Files.refused c.args.files.now) (g.F.Files.refused c.load.new.files) in
    fails_first F R ⊥ (print name) told None c.in-Err.status c.in-Err.ensures.failed

pub returns-in-Err-printed-clause-first : goal.returns-in-Err-printed-clause-first
returns-in-Err-printed-clause-first g c =
    let told = g.F.Files.told c.args.files.now in
    let name = c.args.name.now in
    let F = Rose (g.F.Files.faults c.args.files.now) (g.F.Files.faults c.load.new.files) in
    let R = Rose (g.F.Files.refused c.args.files.now) (g.F.Files.refused c.load.new.files) in
    let loaded = c.in-Ok.ensures.loaded in
    shows_then F told name loaded.0 loaded.1 c.in-Ok.graph loaded.2 status.Memory
    (λ h. OrEarlier F status.Memory (IsWritten status.Memory)) (inr (inl refl))

pub returns-in-Ok-write_all-clause-first : goal.returns-in-Ok-write_all-clause-first
returns-in-Ok-write_all-clause-first g c =
    let told = g.F.Files.told c.args.files.now in
    let name = c.args.name.now in
    let F = Rose (g.F.Files.faults c.args.files.now) (g.F.Files.faults c.load.new.files) in
    let R = Rose (g.F.Files.refused c.args.files.now) (g.F.Files.refused c.load.new.files) in
    let loaded = c.in-Ok.ensures.loaded in
    shows_then F told name loaded.0 loaded.1 c.in-Ok.graph loaded.2 status.Ok
    (λ h. OrEarlier F status.Ok (IsWritten status.Ok)) (inr (inr (inl refl)))

pub returns-clause-first : goal.returns-clause-first
returns-clause-first g c =
    let told = g.F.Files.told c.args.files.now in
    let name = c.args.name.now in
    let F = Rose (g.F.Files.faults c.args.files.now) (g.F.Files.faults c.load.new.files) in
    let R = Rose (g.F.Files.refused c.args.files.now) (g.F.Files.refused c.load.new.files) in
    let loaded = c.in-Ok.ensures.loaded in
    shows_then F told name loaded.0 loaded.1 c.in-Ok.graph loaded.2 status.Write
    (λ h. OrEarlier F status.Write (IsWritten status.Write)) (inr (inr (inr refl)))

pub returns-in-Ok-write_all-clause-answered : goal.returns-in-Ok-write_all-clause-answered
returns-in-Ok-write_all-clause-answered g c =
    let told = g.F.Files.told c.args.files.now in
    let name = c.args.name.now in
    let F = Rose (g.F.Files.faults c.args.files.now) (g.F.Files.faults c.load.new.files) in
    let R = Rose (g.F.Files.refused c.args.files.now) (g.F.Files.refused c.load.new.files) in
    let loaded = c.in-Ok.ensures.loaded in
    let prints : Prints loaded.0 c.in-Ok-printed.text =
    record { graph = c.in-Ok.graph; graph-is = loaded.2; text-is = c.in-Ok-printed.ensures } in
    λ same. where_file F told name loaded.0 loaded.1 c.in-Ok.graph loaded.2
    (λ file. AppendsSome (g.O.Sink.held c.args.out.now) (g.O.Sink.held c.write_all.new.out) (Prints file))
    (c.in-Ok-printed.text, prints, c.in-Ok-write_all.ensures.whole)

pub returns-clause-front : goal.returns-clause-front
returns-clause-front g c =
    let told = g.F.Files.told c.args.files.now in
    let name = c.args.name.now in
    let F = Rose (g.F.Files.faults c.args.files.now) (g.F.Files.faults c.load.new.files) in
    let R = Rose (g.F.Files.refused c.args.files.now) (g.F.Files.refused c.load.new.files) in
    let loaded = c.in-Ok.ensures.loaded in
    let prints : Prints loaded.0 c.in-Ok-printed.text =
    record { graph = c.in-Ok.graph; graph-is = loaded.2; text-is = c.in-Ok-printed.ensures } in
    λ same. where_file F told name loaded.0 loaded.1 c.in-Ok.graph loaded.2
    (λ file. AppendsFrontOfSome (g.O.Sink.held c.args.out.now) (g.O.Sink.held c.write_all.new.out) (Prints file))
    (front_of _ _ _ _ c.in-Ok-printed.text (Prints loaded.0) c.write_all.ensures.front prints)

pub returns-in-Ok-write_all-clause-room : goal.returns-in-Ok-write_all-clause-room
returns-in-Ok-write_all-clause-room g c =
    let told = g.F.Files.told c.args.files.now in
    let name = c.args.name.now in
    let F = Rose (g.F.Files.faults c.args.files.now) (g.F.Files.faults c.load.new.files) in
    let R = Rose (g.F.Files.refused c.args.files.now) (g.F.Files.refused c.load.new.files) in
    let loaded = c.in-Ok.ensures.loaded in
    let prints : Prints loaded.0 c.in-Ok-printed.text =
    record { graph = c.in-Ok.graph; graph-is = loaded.2; text-is = c.in-Ok-printed.ensures } in
    where_file F told name loaded.0 loaded.1 c.in-Ok.graph loaded.2
    (λ file. IfSome (g.O.Sink.room c.args.out.now) (λ room. ((x : List ℕ) → Prints file x → length x ≤ room) →
    g.O.Sink.faults c.write_all.new.out ≡ g.O.Sink.faults c.args.out.now))
    (no_fault _ (g.O.Sink.room c.args.out.now) (length c.in-Ok-printed.text) (g.O.Sink.faults c.args.out.now)
    (g.O.Sink.faults c.write_all.new.out)
    (λ r. (x : List ℕ) → Prints loaded.0 x → length x ≤ r)
    (λ r each. each c.in-Ok-printed.text prints) c.write_all.ensures.fits)

pub returns-clause-room : goal.returns-clause-room
returns-clause-room g c =
    let told = g.F.Files.told c.args.files.now in
    let name = c.args.name.now in
    let F = Rose (g.F.Files.faults c.args.files.now) (g.F.Files.faults c.load.new.files) in
    let R = Rose (g.F.Files.refused c.args.files.now) (g.F.Files.refused c.load.new.files) in
    let loaded = c.in-Ok.ensures.loaded in
    let prints : Prints loaded.0 c.in-Ok-printed.text =
    record { graph = c.in-Ok.graph; graph-is = loaded.2; text-is = c.in-Ok-printed.ensures } in
    where_file F told name loaded.0 loaded.1 c.in-Ok.graph loaded.2
    (λ file. IfSome (g.O.Sink.room c.args.out.now) (λ room. ((x : List ℕ) → Prints file x → length x ≤ room) →
    g.O.Sink.faults c.write_all.new.out ≡ g.O.Sink.faults c.args.out.now))
    (no_fault _ (g.O.Sink.room c.args.out.now) (length c.in-Ok-printed.text) (g.O.Sink.faults c.args.out.now)
    (g.O.Sink.faults c.write_all.new.out)
    (λ r. (x : List ℕ) → Prints loaded.0 x → length x ≤ r)
    (λ r each. each c.in-Ok-printed.text prints) c.write_all.ensures.fits)
