use Rattle.std.proofs.Common.{◌≡◌, ◌≤◌, ◌⊎◌, ℕ, List, length, Option, Err, IfSome, inl, inr, refl, sym, ◌∙◌, ap, subst}
use Rattle.flux_io.specs.Counts.{Rose}
use Rattle.flux_io.specs.Stores.{Stored}
use Rattle.flux_defs.specs.declared.limits.TheConstants.{SHIPPED}
use Rattle.fluxion_lines.specs.Inputs.{over_in}
use Rattle.fluxion_shell.specs.declared.status.Status.{Status}
use Rattle.fluxion_shell.specs.declared.status.Status.TheVariants as status
use Rattle.asked_calls.specs.Calls.{serve, served_held}
use Rattle.fluxion_shell.specs.Causes.{AppendsSome, AppendsFrontOfSome, IsLoaded, FailsWith, ShowsInput, IsPastLimit}
use Rattle.fluxion_shell.specs.Causes.{HasCause, IsFirstShown, limit_of, long_input}
use Rattle.fluxion_shell.specs.Outputs.{IsOutput, Answers}
use Rattle.fluxion_shell.proofs.Shown.{fails_cause, fails_first, shows_then, earlier_input, long_shown, written_shown}
use Rattle.fluxion_shell.proofs.Shown.{over_shown, over_cause, size_shown, where_both, front_of, no_fault}
use Rattle.fluxion_shell.proofs.running.serve.Goals as goal

-- a graph that was not read is no answer that went well, nor one that the output spoils
no_ok : (told : Option Stored) (n : List ℕ) (F R : Type 0) (s : Status) → FailsWith told n F R s → s ≡ status.Ok → ⊥
no_ok told n F R s fails is = subst (FailsWith told n F R) is fails

no_write : (told : Option Stored) (n : List ℕ) (F R : Type 0) (s : Status) → FailsWith told n F R s →
    s ≡ status.Write → ⊥
no_write told n F R s fails is = subst (FailsWith told n F R) is fails

pub returns-in-Err-clause-answered : goal.returns-in-Err-clause-answered
returns-in-Err-clause-answered g c =
    let told = g.F.Files.told c.args.files.now in
    let F = Rose (g.F.Files.faults c.args.files.now) (g.F.Files.faults c.load.new.files) in
    let R = Rose (g.F.Files.refused c.args.files.now) (g.F.Files.refused c.load.new.files) in
    let I = Rose (g.S.Source.faults c.args.input.now) (g.S.Source.faults c.args.input.now) in
    let O = Rose (g.O.Sink.faults c.args.out.now) (g.O.Sink.faults c.args.out.now) in
    let fails =
    subst (λ (n : List ℕ). FailsWith told n F R c.in-Err.status) c.as_str.ensures.value c.in-Err.ensures.failed in
    λ same. absurd (no_ok told _ F R c.in-Err.status fails same)

pub returns-in-Err-clause-front : goal.returns-in-Err-clause-front
returns-in-Err-clause-front g c =
    let told = g.F.Files.told c.args.files.now in
    let F = Rose (g.F.Files.faults c.args.files.now) (g.F.Files.faults c.load.new.files) in
    let R = Rose (g.F.Files.refused c.args.files.now) (g.F.Files.refused c.load.new.files) in
    let I = Rose (g.S.Source.faults c.args.input.now) (g.S.Source.faults c.args.input.now) in
    let O = Rose (g.O.Sink.faults c.args.out.now) (g.O.Sink.faults c.args.out.now) in
    let fails =
    subst (λ (n : List ℕ). FailsWith told n F R c.in-Err.status) c.as_str.ensures.value c.in-Err.ensures.failed in
    λ same. absurd (no_write told _ F R c.in-Err.status fails same)

pub returns-in-Err-clause-end : goal.returns-in-Err-clause-end
returns-in-Err-clause-end g c =
    let told = g.F.Files.told c.args.files.now in
    let F = Rose (g.F.Files.faults c.args.files.now) (g.F.Files.faults c.load.new.files) in
    let R = Rose (g.F.Files.refused c.args.files.now) (g.F.Files.refused c.load.new.files) in
    let I = Rose (g.S.Source.faults c.args.input.now) (g.S.Source.faults c.args.input.now) in
    let O = Rose (g.O.Sink.faults c.args.out.now) (g.O.Sink.faults c.args.out.now) in
    let fails =
    subst (λ (n : List ℕ). FailsWith told n F R c.in-Err.status) c.as_str.ensures.value c.in-Err.ensures.failed in
    λ same. absurd (no_ok told _ F R c.in-Err.status fails same)

pub returns-in-Err-clause-cause : goal.returns-in-Err-clause-cause
returns-in-Err-clause-cause g c =
    let told = g.F.Files.told c.args.files.now in
    let F = Rose (g.F.Files.faults c.args.files.now) (g.F.Files.faults c.load.new.files) in
    let R = Rose (g.F.Files.refused c.args.files.now) (g.F.Files.refused c.load.new.files) in
    let I = Rose (g.S.Source.faults c.args.input.now) (g.S.Source.faults c.args.input.now) in
    let O = Rose (g.O.Sink.faults c.args.out.now) (g.O.Sink.faults c.args.out.now) in
    let fails =
    subst (λ (n : List ℕ). FailsWith told n F R c.in-Err.status) c.as_str.ensures.value c.in-Err.ensures.failed in
    fails_cause F R I O (serve (served_held c.args.serving)) (served_held c.args.serving).name told
    (g.S.Source.left c.args.input.now) (λ P p. p) c.in-Err.status fails

pub returns-in-Err-clause-first : goal.returns-in-Err-clause-first
returns-in-Err-clause-first g c =
    let told = g.F.Files.told c.args.files.now in
    let F = Rose (g.F.Files.faults c.args.files.now) (g.F.Files.faults c.load.new.files) in
    let R = Rose (g.F.Files.refused c.args.files.now) (g.F.Files.refused c.load.new.files) in
    let I = Rose (g.S.Source.faults c.args.input.now) (g.S.Source.faults c.args.input.now) in
    let O = Rose (g.O.Sink.faults c.args.out.now) (g.O.Sink.faults c.args.out.now) in
    let fails =
    subst (λ (n : List ℕ). FailsWith told n F R c.in-Err.status) c.as_str.ensures.value c.in-Err.ensures.failed in
    fails_first F R I (serve (served_held c.args.serving)) told (g.S.Source.left c.args.input.now) c.in-Err.status fails

pub returns-in-Err-Failed-clause-first : goal.returns-in-Err-Failed-clause-first
returns-in-Err-Failed-clause-first g c =
    let told = g.F.Files.told c.args.files.now in
    let served = served_held c.args.serving in
    let left = g.S.Source.left c.args.input.now in
    let F = Rose (g.F.Files.faults c.args.files.now) (g.F.Files.faults c.load.new.files) in
    let I = Rose (g.S.Source.faults c.args.input.now) (g.S.Source.faults c.read_all.new.source) in
    let loaded = subst (λ (n : List ℕ). IsLoaded told n c.in-Ok.graph) c.as_str.ensures.value c.in-Ok.ensures.loaded in
    let failed : I = c.read_all.ensures.failed (c.in-Err-Failed.is ∙ ap Err c.in-Err-Failed.field-0-is) in
    shows_then F told served.name loaded.0 loaded.1 c.in-Ok.graph loaded.2 status.Read
    (λ h. IfSome left (ShowsInput (F ⊎ I) served.form status.Read h))
    (earlier_input served.form c.in-Ok.graph left status.Read (inl (refl, inr failed)))

pub returns-in-Err-Failed-clause-cause : goal.returns-in-Err-Failed-clause-cause
returns-in-Err-Failed-clause-cause g c =
    inr (c.read_all.ensures.failed (c.in-Err-Failed.is ∙ ap Err c.in-Err-Failed.field-0-is))

pub returns-in-Err-Long-clause-first : goal.returns-in-Err-Long-clause-first
returns-in-Err-Long-clause-first g c =
    let told = g.F.Files.told c.args.files.now in
    let served = served_held c.args.serving in
    let left = g.S.Source.left c.args.input.now in
    let F = Rose (g.F.Files.faults c.args.files.now) (g.F.Files.faults c.load.new.files) in
    let I = Rose (g.S.Source.faults c.args.input.now) (g.S.Source.faults c.read_all.new.source) in
    let loaded = subst (λ (n : List ℕ). IsLoaded told n c.in-Ok.graph) c.as_str.ensures.value c.in-Ok.ensures.loaded in
    let long = c.read_all.ensures.long (c.in-Err-Long.is ∙ ap Err c.in-Err-Long.field-0-is) in
    subst (λ (r : Status). IsFirstShown (serve served) told left F I r) (sym c.too_long.ensures)
    (shows_then F told served.name loaded.0 loaded.1 c.in-Ok.graph loaded.2 long_input
    (λ h. IfSome left (ShowsInput (F ⊎ I) served.form long_input h))
    (long_shown (F ⊎ I) served.form c.in-Ok.graph left long))

pub returns-in-Err-Long-clause-cause : goal.returns-in-Err-Long-clause-cause
returns-in-Err-Long-clause-cause g c =
    let told = g.F.Files.told c.args.files.now in
    let served = served_held c.args.serving in
    let left = g.S.Source.left c.args.input.now in
    let F = Rose (g.F.Files.faults c.args.files.now) (g.F.Files.faults c.load.new.files) in
    let I = Rose (g.S.Source.faults c.args.input.now) (g.S.Source.faults c.read_all.new.source) in
    let loaded = subst (λ (n : List ℕ). IsLoaded told n c.in-Ok.graph) c.as_str.ensures.value c.in-Ok.ensures.loaded in
    let R = Rose (g.F.Files.refused c.args.files.now) (g.F.Files.refused c.load.new.files) in
    let O = Rose (g.O.Sink.faults c.args.out.now) (g.O.Sink.faults c.args.out.now) in
    let long = c.read_all.ensures.long (c.in-Err-Long.is ∙ ap Err c.in-Err-Long.field-0-is) in
    subst (HasCause (serve served) told left F R I O) (sym c.too_long.ensures) (inr (inl (refl, long)))

pub returns-in-Err-Memory-clause-first : goal.returns-in-Err-Memory-clause-first
returns-in-Err-Memory-clause-first g c =
    let told = g.F.Files.told c.args.files.now in
    let served = served_held c.args.serving in
    let left = g.S.Source.left c.args.input.now in
    let F = Rose (g.F.Files.faults c.args.files.now) (g.F.Files.faults c.load.new.files) in
    let I = Rose (g.S.Source.faults c.args.input.now) (g.S.Source.faults c.read_all.new.source) in
    let loaded = subst (λ (n : List ℕ). IsLoaded told n c.in-Ok.graph) c.as_str.ensures.value c.in-Ok.ensures.loaded in
    shows_then F told served.name loaded.0 loaded.1 c.in-Ok.graph loaded.2 status.Memory
    (λ h. IfSome left (ShowsInput (F ⊎ I) served.form status.Memory h))
    (earlier_input {Failed = F ⊎ I} served.form c.in-Ok.graph left status.Memory (inr refl))

pub returns-in-Err-Memory-answer-clause-first : goal.returns-in-Err-Memory-answer-clause-first
returns-in-Err-Memory-answer-clause-first g c =
    let told = g.F.Files.told c.args.files.now in
    let served = served_held c.args.serving in
    let left = g.S.Source.left c.args.input.now in
    let F = Rose (g.F.Files.faults c.args.files.now) (g.F.Files.faults c.load.new.files) in
    let I = Rose (g.S.Source.faults c.args.input.now) (g.S.Source.faults c.read_all.new.source) in
    let loaded = subst (λ (n : List ℕ). IsLoaded told n c.in-Ok.graph) c.as_str.ensures.value c.in-Ok.ensures.loaded in
    shows_then F told served.name loaded.0 loaded.1 c.in-Ok.graph loaded.2 status.Memory
    (λ h. IfSome left (ShowsInput (F ⊎ I) served.form status.Memory h))
    (earlier_input {Failed = F ⊎ I} served.form c.in-Ok.graph left status.Memory (inr refl))

pub returns-in-Err-Over-clause-first : goal.returns-in-Err-Over-clause-first
returns-in-Err-Over-clause-first g c =
    let told = g.F.Files.told c.args.files.now in
    let served = served_held c.args.serving in
    let left = g.S.Source.left c.args.input.now in
    let F = Rose (g.F.Files.faults c.args.files.now) (g.F.Files.faults c.load.new.files) in
    let I = Rose (g.S.Source.faults c.args.input.now) (g.S.Source.faults c.read_all.new.source) in
    let loaded = subst (λ (n : List ℕ). IsLoaded told n c.in-Ok.graph) c.as_str.ensures.value c.in-Ok.ensures.loaded in
    let input = c.in-Ok-read_all.lines in
    let past = ap (over_in SHIPPED c.in-Ok.graph served.form) (sym c.bytes.ensures)
    ∙ c.answer.ensures.over c.in-Err-Over.over (c.in-Err-Over.is ∙ ap Err c.in-Err-Over.field-0-is) in
    let over = c.in-Err-Over.over in
    subst (λ (r : Status). IsFirstShown (serve served) told left F I r) (sym c.limit_of.ensures)
    (shows_then F told served.name loaded.0 loaded.1 c.in-Ok.graph loaded.2 (limit_of over)
    (λ h. IfSome left (ShowsInput (F ⊎ I) served.form (limit_of over) h))
    (over_shown (F ⊎ I)
    served.form c.in-Ok.graph left input over c.in-Ok-read_all.ensures.most c.in-Ok-read_all.ensures.whole past))

pub returns-in-Err-Over-clause-cause : goal.returns-in-Err-Over-clause-cause
returns-in-Err-Over-clause-cause g c =
    let told = g.F.Files.told c.args.files.now in
    let served = served_held c.args.serving in
    let left = g.S.Source.left c.args.input.now in
    let F = Rose (g.F.Files.faults c.args.files.now) (g.F.Files.faults c.load.new.files) in
    let I = Rose (g.S.Source.faults c.args.input.now) (g.S.Source.faults c.read_all.new.source) in
    let loaded = subst (λ (n : List ℕ). IsLoaded told n c.in-Ok.graph) c.as_str.ensures.value c.in-Ok.ensures.loaded in
    let input = c.in-Ok-read_all.lines in
    let past = ap (over_in SHIPPED c.in-Ok.graph served.form) (sym c.bytes.ensures)
    ∙ c.answer.ensures.over c.in-Err-Over.over (c.in-Err-Over.is ∙ ap Err c.in-Err-Over.field-0-is) in
    let R = Rose (g.F.Files.refused c.args.files.now) (g.F.Files.refused c.load.new.files) in
    let O = Rose (g.O.Sink.faults c.args.out.now) (g.O.Sink.faults c.args.out.now) in
    let over = c.in-Err-Over.over in
    subst (HasCause (serve served) told left F R I O) (sym c.limit_of.ensures)
    (over_cause F R I O served told left over
    (size_shown (F ⊎ I) served.form c.in-Ok.graph left input over c.in-Ok-read_all.ensures.whole past)
    (where_both F told served.name loaded.0 loaded.1 c.in-Ok.graph loaded.2 left input
    (λ file lines. IsPastLimit served.form file lines over)
    c.in-Ok-read_all.ensures.whole (c.in-Ok.graph, loaded.2, past)))

pub returns-in-Ok-write_all-clause-first : goal.returns-in-Ok-write_all-clause-first
returns-in-Ok-write_all-clause-first g c =
    let told = g.F.Files.told c.args.files.now in
    let served = served_held c.args.serving in
    let left = g.S.Source.left c.args.input.now in
    let F = Rose (g.F.Files.faults c.args.files.now) (g.F.Files.faults c.load.new.files) in
    let I = Rose (g.S.Source.faults c.args.input.now) (g.S.Source.faults c.read_all.new.source) in
    let loaded = subst (λ (n : List ℕ). IsLoaded told n c.in-Ok.graph) c.as_str.ensures.value c.in-Ok.ensures.loaded in
    let input = c.in-Ok-read_all.lines in
    let within = ap (over_in SHIPPED c.in-Ok.graph served.form) (sym c.bytes.ensures)
    ∙ c.in-Ok-answer.ensures.within refl in
    shows_then F told served.name loaded.0 loaded.1 c.in-Ok.graph loaded.2 status.Ok
    (λ h. IfSome left (ShowsInput (F ⊎ I) served.form status.Ok h))
    (written_shown (F ⊎ I) served.form c.in-Ok.graph
    left input status.Ok c.in-Ok-read_all.ensures.most c.in-Ok-read_all.ensures.whole within (inl refl))

pub returns-clause-first : goal.returns-clause-first
returns-clause-first g c =
    let told = g.F.Files.told c.args.files.now in
    let served = served_held c.args.serving in
    let left = g.S.Source.left c.args.input.now in
    let F = Rose (g.F.Files.faults c.args.files.now) (g.F.Files.faults c.load.new.files) in
    let I = Rose (g.S.Source.faults c.args.input.now) (g.S.Source.faults c.read_all.new.source) in
    let loaded = subst (λ (n : List ℕ). IsLoaded told n c.in-Ok.graph) c.as_str.ensures.value c.in-Ok.ensures.loaded in
    let input = c.in-Ok-read_all.lines in
    let within = ap (over_in SHIPPED c.in-Ok.graph served.form) (sym c.bytes.ensures)
    ∙ c.in-Ok-answer.ensures.within refl in
    shows_then F told served.name loaded.0 loaded.1 c.in-Ok.graph loaded.2 status.Write
    (λ h. IfSome left (ShowsInput (F ⊎ I) served.form status.Write h))
    (written_shown (F ⊎ I) served.form c.in-Ok.graph
    left input status.Write c.in-Ok-read_all.ensures.most c.in-Ok-read_all.ensures.whole within (inr refl))

pub returns-in-Ok-write_all-clause-answered : goal.returns-in-Ok-write_all-clause-answered
returns-in-Ok-write_all-clause-answered g c =
    let told = g.F.Files.told c.args.files.now in
    let served = served_held c.args.serving in
    let left = g.S.Source.left c.args.input.now in
    let F = Rose (g.F.Files.faults c.args.files.now) (g.F.Files.faults c.load.new.files) in
    let I = Rose (g.S.Source.faults c.args.input.now) (g.S.Source.faults c.read_all.new.source) in
    let loaded = subst (λ (n : List ℕ). IsLoaded told n c.in-Ok.graph) c.as_str.ensures.value c.in-Ok.ensures.loaded in
    let input = c.in-Ok-read_all.lines in
    let output = subst (λ (i : List ℕ). IsOutput served c.in-Ok.graph i c.in-Ok-answer.text)
    c.bytes.ensures c.in-Ok-answer.ensures.output in
    let answers : Answers served loaded.0 input c.in-Ok-answer.text =
    record { graph = c.in-Ok.graph; graph-is = loaded.2; output = output } in
    λ same.
    where_both F told served.name loaded.0 loaded.1 c.in-Ok.graph loaded.2 left input
    (λ file lines. AppendsSome (g.O.Sink.held c.args.out.now) (g.O.Sink.held c.write_all.new.out)
    (Answers served file lines)) c.in-Ok-read_all.ensures.whole
    (c.in-Ok-answer.text, answers, c.in-Ok-write_all.ensures.whole)

pub returns-clause-front : goal.returns-clause-front
returns-clause-front g c =
    let told = g.F.Files.told c.args.files.now in
    let served = served_held c.args.serving in
    let left = g.S.Source.left c.args.input.now in
    let F = Rose (g.F.Files.faults c.args.files.now) (g.F.Files.faults c.load.new.files) in
    let I = Rose (g.S.Source.faults c.args.input.now) (g.S.Source.faults c.read_all.new.source) in
    let loaded = subst (λ (n : List ℕ). IsLoaded told n c.in-Ok.graph) c.as_str.ensures.value c.in-Ok.ensures.loaded in
    let input = c.in-Ok-read_all.lines in
    let output = subst (λ (i : List ℕ). IsOutput served c.in-Ok.graph i c.in-Ok-answer.text)
    c.bytes.ensures c.in-Ok-answer.ensures.output in
    let answers : Answers served loaded.0 input c.in-Ok-answer.text =
    record { graph = c.in-Ok.graph; graph-is = loaded.2; output = output } in
    λ same.
    where_both F told served.name loaded.0 loaded.1 c.in-Ok.graph loaded.2 left input
    (λ file lines. AppendsFrontOfSome (g.O.Sink.held c.args.out.now) (g.O.Sink.held c.write_all.new.out)
    (Answers served file lines)) c.in-Ok-read_all.ensures.whole
    (front_of _ _ _ _ c.in-Ok-answer.text (Answers served loaded.0 input) c.write_all.ensures.front answers)

pub returns-in-Ok-write_all-clause-room : goal.returns-in-Ok-write_all-clause-room
returns-in-Ok-write_all-clause-room g c =
    let told = g.F.Files.told c.args.files.now in
    let served = served_held c.args.serving in
    let left = g.S.Source.left c.args.input.now in
    let F = Rose (g.F.Files.faults c.args.files.now) (g.F.Files.faults c.load.new.files) in
    let I = Rose (g.S.Source.faults c.args.input.now) (g.S.Source.faults c.read_all.new.source) in
    let loaded = subst (λ (n : List ℕ). IsLoaded told n c.in-Ok.graph) c.as_str.ensures.value c.in-Ok.ensures.loaded in
    let input = c.in-Ok-read_all.lines in
    let output = subst (λ (i : List ℕ). IsOutput served c.in-Ok.graph i c.in-Ok-answer.text)
    c.bytes.ensures c.in-Ok-answer.ensures.output in
    let answers : Answers served loaded.0 input c.in-Ok-answer.text =
    record { graph = c.in-Ok.graph; graph-is = loaded.2; output = output } in
    where_both F told served.name loaded.0 loaded.1 c.in-Ok.graph loaded.2 left input
    (λ file lines. IfSome (g.O.Sink.room c.args.out.now) (λ room.
    ((x : List ℕ) → Answers served file lines x → length x ≤ room) →
    g.O.Sink.faults c.write_all.new.out ≡ g.O.Sink.faults c.args.out.now))
    c.in-Ok-read_all.ensures.whole
    (no_fault _ (g.O.Sink.room c.args.out.now) (length c.in-Ok-answer.text) (g.O.Sink.faults c.args.out.now)
    (g.O.Sink.faults c.write_all.new.out)
    (λ r. (x : List ℕ) → Answers served loaded.0 input x → length x ≤ r)
    (λ r each. each c.in-Ok-answer.text answers) c.write_all.ensures.fits)

pub returns-clause-room : goal.returns-clause-room
returns-clause-room g c =
    let told = g.F.Files.told c.args.files.now in
    let served = served_held c.args.serving in
    let left = g.S.Source.left c.args.input.now in
    let F = Rose (g.F.Files.faults c.args.files.now) (g.F.Files.faults c.load.new.files) in
    let I = Rose (g.S.Source.faults c.args.input.now) (g.S.Source.faults c.read_all.new.source) in
    let loaded = subst (λ (n : List ℕ). IsLoaded told n c.in-Ok.graph) c.as_str.ensures.value c.in-Ok.ensures.loaded in
    let input = c.in-Ok-read_all.lines in
    let output = subst (λ (i : List ℕ). IsOutput served c.in-Ok.graph i c.in-Ok-answer.text)
    c.bytes.ensures c.in-Ok-answer.ensures.output in
    let answers : Answers served loaded.0 input c.in-Ok-answer.text =
    record { graph = c.in-Ok.graph; graph-is = loaded.2; output = output } in
    where_both F told served.name loaded.0 loaded.1 c.in-Ok.graph loaded.2 left input
    (λ file lines. IfSome (g.O.Sink.room c.args.out.now) (λ room.
    ((x : List ℕ) → Answers served file lines x → length x ≤ room) →
    g.O.Sink.faults c.write_all.new.out ≡ g.O.Sink.faults c.args.out.now))
    c.in-Ok-read_all.ensures.whole
    (no_fault _ (g.O.Sink.room c.args.out.now) (length c.in-Ok-answer.text) (g.O.Sink.faults c.args.out.now)
    (g.O.Sink.faults c.write_all.new.out)
    (λ r. (x : List ℕ) → Answers served loaded.0 input x → length x ≤ r)
    (λ r each. each c.in-Ok-answer.text answers) c.write_all.ensures.fits)
