use Rattle.std.proofs.Common.{◌≡◌, Some, None, refl, ◌∙◌, ap, subst}
use Rattle.flux_io.specs.Counts.{Rose}
use Rattle.asked_calls.specs.declared.calls.Asked.TheVariants as asked
use Rattle.asked_calls.specs.Calls.{Call, serve, print, load, served_held}
use Rattle.fluxion_shell.specs.Causes.{HasCause, IsFirstShown, LeavesInput, LeavesFiles}
use Rattle.fluxion_shell.specs.Runs.{IsAnswered, IsAnsweredInPart, FitsRoom}
use Rattle.asked_calls.proofs.CallLaws.{one_call, read_as}
use Rattle.fluxion_shell.proofs.Shown.{reads_none, rests_on_output}
use Rattle.fluxion_shell.proofs.running.run.Goals as goal

pub returns-in-Ok-Some-Serve-clause-answered : goal.returns-in-Ok-Some-Serve-clause-answered
returns-in-Ok-Some-Serve-clause-answered g c =
    let words = c.args.words.now in
    let told = g.F.Files.told c.args.files.now in
    let left = g.S.Source.left c.args.input.now in
    let held = g.O.Sink.held c.args.out.now in
    let F = Rose (g.F.Files.faults c.args.files.now) (g.F.Files.faults c.serve.new.files) in
    let R = Rose (g.F.Files.refused c.args.files.now) (g.F.Files.refused c.serve.new.files) in
    let I = Rose (g.S.Source.faults c.args.input.now) (g.S.Source.faults c.serve.new.input) in
    let O = Rose (g.O.Sink.faults c.args.out.now) (g.O.Sink.faults c.serve.new.out) in
    let own = read_as words c.in-Ok-Some-Serve.field-0
    (asked.Serve c.in-Ok-Some-Serve.serving) c.in-Ok-Some-Serve.ensures
    (c.in-Ok-Some-Serve.field-0-is ∙ ap Some c.in-Ok-Some-Serve.field-0-0-is) in
    let served = served_held c.in-Ok-Some-Serve.serving in
    λ call is.
    let same : serve served ≡ call = one_call words (serve served) call own is in
    subst (λ (k : Call). IsAnswered k told left held
    (g.O.Sink.held c.serve.new.out) c.serve.result) same c.serve.ensures.answered

pub returns-in-Ok-Some-Serve-clause-front : goal.returns-in-Ok-Some-Serve-clause-front
returns-in-Ok-Some-Serve-clause-front g c =
    let words = c.args.words.now in
    let told = g.F.Files.told c.args.files.now in
    let left = g.S.Source.left c.args.input.now in
    let held = g.O.Sink.held c.args.out.now in
    let F = Rose (g.F.Files.faults c.args.files.now) (g.F.Files.faults c.serve.new.files) in
    let R = Rose (g.F.Files.refused c.args.files.now) (g.F.Files.refused c.serve.new.files) in
    let I = Rose (g.S.Source.faults c.args.input.now) (g.S.Source.faults c.serve.new.input) in
    let O = Rose (g.O.Sink.faults c.args.out.now) (g.O.Sink.faults c.serve.new.out) in
    let own = read_as words c.in-Ok-Some-Serve.field-0
    (asked.Serve c.in-Ok-Some-Serve.serving) c.in-Ok-Some-Serve.ensures
    (c.in-Ok-Some-Serve.field-0-is ∙ ap Some c.in-Ok-Some-Serve.field-0-0-is) in
    let served = served_held c.in-Ok-Some-Serve.serving in
    λ call is.
    let same : serve served ≡ call = one_call words (serve served) call own is in
    subst (λ (k : Call). IsAnsweredInPart k told left held
    (g.O.Sink.held c.serve.new.out) c.serve.result) same c.serve.ensures.front

pub returns-in-Ok-Some-Serve-clause-end : goal.returns-in-Ok-Some-Serve-clause-end
returns-in-Ok-Some-Serve-clause-end g c =
    let words = c.args.words.now in
    let told = g.F.Files.told c.args.files.now in
    let left = g.S.Source.left c.args.input.now in
    let held = g.O.Sink.held c.args.out.now in
    let F = Rose (g.F.Files.faults c.args.files.now) (g.F.Files.faults c.serve.new.files) in
    let R = Rose (g.F.Files.refused c.args.files.now) (g.F.Files.refused c.serve.new.files) in
    let I = Rose (g.S.Source.faults c.args.input.now) (g.S.Source.faults c.serve.new.input) in
    let O = Rose (g.O.Sink.faults c.args.out.now) (g.O.Sink.faults c.serve.new.out) in
    let own = read_as words c.in-Ok-Some-Serve.field-0
    (asked.Serve c.in-Ok-Some-Serve.serving) c.in-Ok-Some-Serve.ensures
    (c.in-Ok-Some-Serve.field-0-is ∙ ap Some c.in-Ok-Some-Serve.field-0-0-is) in
    let served = served_held c.in-Ok-Some-Serve.serving in
    λ call is.
    let same : serve served ≡ call = one_call words (serve served) call own is in
    subst (λ (k : Call). LeavesInput k c.serve.result left (g.S.Source.left c.serve.new.input)
    (g.S.Source.faults c.args.input.now) (g.S.Source.faults c.serve.new.input)
    × LeavesFiles k (g.F.Files.faults c.args.files.now) (g.F.Files.faults c.serve.new.files)
    (g.F.Files.refused c.args.files.now) (g.F.Files.refused c.serve.new.files)) same (c.serve.ensures.end, tt)

pub returns-in-Ok-Some-Serve-clause-cause : goal.returns-in-Ok-Some-Serve-clause-cause
returns-in-Ok-Some-Serve-clause-cause g c =
    let words = c.args.words.now in
    let told = g.F.Files.told c.args.files.now in
    let left = g.S.Source.left c.args.input.now in
    let held = g.O.Sink.held c.args.out.now in
    let F = Rose (g.F.Files.faults c.args.files.now) (g.F.Files.faults c.serve.new.files) in
    let R = Rose (g.F.Files.refused c.args.files.now) (g.F.Files.refused c.serve.new.files) in
    let I = Rose (g.S.Source.faults c.args.input.now) (g.S.Source.faults c.serve.new.input) in
    let O = Rose (g.O.Sink.faults c.args.out.now) (g.O.Sink.faults c.serve.new.out) in
    let own = read_as words c.in-Ok-Some-Serve.field-0
    (asked.Serve c.in-Ok-Some-Serve.serving) c.in-Ok-Some-Serve.ensures
    (c.in-Ok-Some-Serve.field-0-is ∙ ap Some c.in-Ok-Some-Serve.field-0-0-is) in
    let served = served_held c.in-Ok-Some-Serve.serving in
    λ call is.
    let same : serve served ≡ call = one_call words (serve served) call own is in
    subst (λ (k : Call). HasCause k told left F R I O c.serve.result) same c.serve.ensures.cause

pub returns-in-Ok-Some-Serve-clause-first : goal.returns-in-Ok-Some-Serve-clause-first
returns-in-Ok-Some-Serve-clause-first g c =
    let words = c.args.words.now in
    let told = g.F.Files.told c.args.files.now in
    let left = g.S.Source.left c.args.input.now in
    let held = g.O.Sink.held c.args.out.now in
    let F = Rose (g.F.Files.faults c.args.files.now) (g.F.Files.faults c.serve.new.files) in
    let R = Rose (g.F.Files.refused c.args.files.now) (g.F.Files.refused c.serve.new.files) in
    let I = Rose (g.S.Source.faults c.args.input.now) (g.S.Source.faults c.serve.new.input) in
    let O = Rose (g.O.Sink.faults c.args.out.now) (g.O.Sink.faults c.serve.new.out) in
    let own = read_as words c.in-Ok-Some-Serve.field-0
    (asked.Serve c.in-Ok-Some-Serve.serving) c.in-Ok-Some-Serve.ensures
    (c.in-Ok-Some-Serve.field-0-is ∙ ap Some c.in-Ok-Some-Serve.field-0-0-is) in
    let served = served_held c.in-Ok-Some-Serve.serving in
    λ call is.
    let same : serve served ≡ call = one_call words (serve served) call own is in
    subst (λ (k : Call). IsFirstShown k told left F I c.serve.result) same c.serve.ensures.first

pub returns-in-Ok-Some-Serve-clause-room : goal.returns-in-Ok-Some-Serve-clause-room
returns-in-Ok-Some-Serve-clause-room g c =
    let words = c.args.words.now in
    let told = g.F.Files.told c.args.files.now in
    let left = g.S.Source.left c.args.input.now in
    let held = g.O.Sink.held c.args.out.now in
    let F = Rose (g.F.Files.faults c.args.files.now) (g.F.Files.faults c.serve.new.files) in
    let R = Rose (g.F.Files.refused c.args.files.now) (g.F.Files.refused c.serve.new.files) in
    let I = Rose (g.S.Source.faults c.args.input.now) (g.S.Source.faults c.serve.new.input) in
    let O = Rose (g.O.Sink.faults c.args.out.now) (g.O.Sink.faults c.serve.new.out) in
    let own = read_as words c.in-Ok-Some-Serve.field-0
    (asked.Serve c.in-Ok-Some-Serve.serving) c.in-Ok-Some-Serve.ensures
    (c.in-Ok-Some-Serve.field-0-is ∙ ap Some c.in-Ok-Some-Serve.field-0-0-is) in
    let served = served_held c.in-Ok-Some-Serve.serving in
    λ call is.
    let same : serve served ≡ call = one_call words (serve served) call own is in
    subst (λ (k : Call). FitsRoom k told left (g.O.Sink.room c.args.out.now) (g.O.Sink.faults c.args.out.now)
    (g.O.Sink.faults c.serve.new.out)) same c.serve.ensures.room

pub returns-in-Ok-Some-Print-clause-answered : goal.returns-in-Ok-Some-Print-clause-answered
returns-in-Ok-Some-Print-clause-answered g c =
    let words = c.args.words.now in
    let told = g.F.Files.told c.args.files.now in
    let left = g.S.Source.left c.args.input.now in
    let held = g.O.Sink.held c.args.out.now in
    let F = Rose (g.F.Files.faults c.args.files.now) (g.F.Files.faults c.print_graph.new.files) in
    let R = Rose (g.F.Files.refused c.args.files.now) (g.F.Files.refused c.print_graph.new.files) in
    let I = Rose (g.S.Source.faults c.args.input.now) (g.S.Source.faults c.args.input.now) in
    let O = Rose (g.O.Sink.faults c.args.out.now) (g.O.Sink.faults c.print_graph.new.out) in
    let own = read_as words c.in-Ok-Some-Print.field-0
    (asked.Print c.in-Ok-Some-Print.name) c.in-Ok-Some-Print.ensures
    (c.in-Ok-Some-Print.field-0-is ∙ ap Some c.in-Ok-Some-Print.field-0-0-is) in
    λ call is.
    let same : print c.as_str.result.now ≡ call = ap print c.as_str.ensures.value ∙ one_call words
    (print _) call own is in
    subst (λ (k : Call). IsAnswered k told left held
    (g.O.Sink.held c.print_graph.new.out) c.print_graph.result) same c.print_graph.ensures.answered

pub returns-in-Ok-Some-Print-clause-front : goal.returns-in-Ok-Some-Print-clause-front
returns-in-Ok-Some-Print-clause-front g c =
    let words = c.args.words.now in
    let told = g.F.Files.told c.args.files.now in
    let left = g.S.Source.left c.args.input.now in
    let held = g.O.Sink.held c.args.out.now in
    let F = Rose (g.F.Files.faults c.args.files.now) (g.F.Files.faults c.print_graph.new.files) in
    let R = Rose (g.F.Files.refused c.args.files.now) (g.F.Files.refused c.print_graph.new.files) in
    let I = Rose (g.S.Source.faults c.args.input.now) (g.S.Source.faults c.args.input.now) in
    let O = Rose (g.O.Sink.faults c.args.out.now) (g.O.Sink.faults c.print_graph.new.out) in
    let own = read_as words c.in-Ok-Some-Print.field-0
    (asked.Print c.in-Ok-Some-Print.name) c.in-Ok-Some-Print.ensures
    (c.in-Ok-Some-Print.field-0-is ∙ ap Some c.in-Ok-Some-Print.field-0-0-is) in
    λ call is.
    let same : print c.as_str.result.now ≡ call = ap print c.as_str.ensures.value ∙ one_call words
    (print _) call own is in
    subst (λ (k : Call). IsAnsweredInPart k told left held
    (g.O.Sink.held c.print_graph.new.out) c.print_graph.result) same c.print_graph.ensures.front

pub returns-in-Ok-Some-Print-clause-end : goal.returns-in-Ok-Some-Print-clause-end
returns-in-Ok-Some-Print-clause-end g c =
    let words = c.args.words.now in
    let told = g.F.Files.told c.args.files.now in
    let left = g.S.Source.left c.args.input.now in
    let held = g.O.Sink.held c.args.out.now in
    let F = Rose (g.F.Files.faults c.args.files.now) (g.F.Files.faults c.print_graph.new.files) in
    let R = Rose (g.F.Files.refused c.args.files.now) (g.F.Files.refused c.print_graph.new.files) in
    let I = Rose (g.S.Source.faults c.args.input.now) (g.S.Source.faults c.args.input.now) in
    let O = Rose (g.O.Sink.faults c.args.out.now) (g.O.Sink.faults c.print_graph.new.out) in
    let own = read_as words c.in-Ok-Some-Print.field-0
    (asked.Print c.in-Ok-Some-Print.name) c.in-Ok-Some-Print.ensures
    (c.in-Ok-Some-Print.field-0-is ∙ ap Some c.in-Ok-Some-Print.field-0-0-is) in
    λ call is.
    let same : print c.as_str.result.now ≡ call = ap print c.as_str.ensures.value ∙ one_call words
    (print _) call own is in
    subst (λ (k : Call). LeavesInput k c.print_graph.result left left (g.S.Source.faults c.args.input.now)
    (g.S.Source.faults c.args.input.now)
    × LeavesFiles k (g.F.Files.faults c.args.files.now) (g.F.Files.faults c.print_graph.new.files)
    (g.F.Files.refused c.args.files.now) (g.F.Files.refused c.print_graph.new.files)) same ((refl, refl), tt)

pub returns-in-Ok-Some-Print-clause-cause : goal.returns-in-Ok-Some-Print-clause-cause
returns-in-Ok-Some-Print-clause-cause g c =
    let words = c.args.words.now in
    let told = g.F.Files.told c.args.files.now in
    let left = g.S.Source.left c.args.input.now in
    let held = g.O.Sink.held c.args.out.now in
    let F = Rose (g.F.Files.faults c.args.files.now) (g.F.Files.faults c.print_graph.new.files) in
    let R = Rose (g.F.Files.refused c.args.files.now) (g.F.Files.refused c.print_graph.new.files) in
    let I = Rose (g.S.Source.faults c.args.input.now) (g.S.Source.faults c.args.input.now) in
    let O = Rose (g.O.Sink.faults c.args.out.now) (g.O.Sink.faults c.print_graph.new.out) in
    let own = read_as words c.in-Ok-Some-Print.field-0
    (asked.Print c.in-Ok-Some-Print.name) c.in-Ok-Some-Print.ensures
    (c.in-Ok-Some-Print.field-0-is ∙ ap Some c.in-Ok-Some-Print.field-0-0-is) in
    λ call is.
    let same : print c.as_str.result.now ≡ call = ap print c.as_str.ensures.value ∙ one_call words
    (print _) call own is in
    subst (λ (k : Call). HasCause k told left F R I O c.print_graph.result) same
    (reads_none c.as_str.result.now told None left F R ⊥ I O c.print_graph.result c.print_graph.ensures.cause)

pub returns-in-Ok-Some-Print-clause-first : goal.returns-in-Ok-Some-Print-clause-first
returns-in-Ok-Some-Print-clause-first g c =
    let words = c.args.words.now in
    let told = g.F.Files.told c.args.files.now in
    let left = g.S.Source.left c.args.input.now in
    let held = g.O.Sink.held c.args.out.now in
    let F = Rose (g.F.Files.faults c.args.files.now) (g.F.Files.faults c.print_graph.new.files) in
    let R = Rose (g.F.Files.refused c.args.files.now) (g.F.Files.refused c.print_graph.new.files) in
    let I = Rose (g.S.Source.faults c.args.input.now) (g.S.Source.faults c.args.input.now) in
    let O = Rose (g.O.Sink.faults c.args.out.now) (g.O.Sink.faults c.print_graph.new.out) in
    let own = read_as words c.in-Ok-Some-Print.field-0
    (asked.Print c.in-Ok-Some-Print.name) c.in-Ok-Some-Print.ensures
    (c.in-Ok-Some-Print.field-0-is ∙ ap Some c.in-Ok-Some-Print.field-0-0-is) in
    λ call is.
    let same : print c.as_str.result.now ≡ call = ap print c.as_str.ensures.value ∙ one_call words
    (print _) call own is in
    subst (λ (k : Call). IsFirstShown k told left F I c.print_graph.result) same c.print_graph.ensures.first

pub returns-in-Ok-Some-Print-clause-room : goal.returns-in-Ok-Some-Print-clause-room
returns-in-Ok-Some-Print-clause-room g c =
    let words = c.args.words.now in
    let told = g.F.Files.told c.args.files.now in
    let left = g.S.Source.left c.args.input.now in
    let held = g.O.Sink.held c.args.out.now in
    let F = Rose (g.F.Files.faults c.args.files.now) (g.F.Files.faults c.print_graph.new.files) in
    let R = Rose (g.F.Files.refused c.args.files.now) (g.F.Files.refused c.print_graph.new.files) in
    let I = Rose (g.S.Source.faults c.args.input.now) (g.S.Source.faults c.args.input.now) in
    let O = Rose (g.O.Sink.faults c.args.out.now) (g.O.Sink.faults c.print_graph.new.out) in
    let own = read_as words c.in-Ok-Some-Print.field-0
    (asked.Print c.in-Ok-Some-Print.name) c.in-Ok-Some-Print.ensures
    (c.in-Ok-Some-Print.field-0-is ∙ ap Some c.in-Ok-Some-Print.field-0-0-is) in
    λ call is.
    let same : print c.as_str.result.now ≡ call = ap print c.as_str.ensures.value ∙ one_call words
    (print _) call own is in
    subst (λ (k : Call). FitsRoom k told left (g.O.Sink.room c.args.out.now) (g.O.Sink.faults c.args.out.now)
    (g.O.Sink.faults c.print_graph.new.out)) same c.print_graph.ensures.room

pub returns-in-Ok-Some-Load-clause-answered : goal.returns-in-Ok-Some-Load-clause-answered
returns-in-Ok-Some-Load-clause-answered g c =
    let words = c.args.words.now in
    let told = g.F.Files.told c.args.files.now in
    let left = g.S.Source.left c.args.input.now in
    let held = g.O.Sink.held c.args.out.now in
    let F = Rose (g.F.Files.faults c.args.files.now) (g.F.Files.faults c.args.files.now) in
    let R = Rose (g.F.Files.refused c.args.files.now) (g.F.Files.refused c.args.files.now) in
    let I = Rose (g.S.Source.faults c.args.input.now) (g.S.Source.faults c.args.input.now) in
    let O = Rose (g.O.Sink.faults c.args.out.now) (g.O.Sink.faults c.print_summary.new.out) in
    let own = read_as words c.in-Ok-Some-Load.field-0
    (asked.Load c.in-Ok-Some-Load.commands) c.in-Ok-Some-Load.ensures
    (c.in-Ok-Some-Load.field-0-is ∙ ap Some c.in-Ok-Some-Load.field-0-0-is) in
    λ call is.
    let same : load c.in-Ok-Some-Load.commands ≡ call = one_call words (load c.in-Ok-Some-Load.commands) call own is in
    subst (λ (k : Call). IsAnswered k told left held
    (g.O.Sink.held c.print_summary.new.out) c.print_summary.result) same c.print_summary.ensures.answered

pub returns-in-Ok-Some-Load-clause-front : goal.returns-in-Ok-Some-Load-clause-front
returns-in-Ok-Some-Load-clause-front g c =
    let words = c.args.words.now in
    let told = g.F.Files.told c.args.files.now in
    let left = g.S.Source.left c.args.input.now in
    let held = g.O.Sink.held c.args.out.now in
    let F = Rose (g.F.Files.faults c.args.files.now) (g.F.Files.faults c.args.files.now) in
    let R = Rose (g.F.Files.refused c.args.files.now) (g.F.Files.refused c.args.files.now) in
    let I = Rose (g.S.Source.faults c.args.input.now) (g.S.Source.faults c.args.input.now) in
    let O = Rose (g.O.Sink.faults c.args.out.now) (g.O.Sink.faults c.print_summary.new.out) in
    let own = read_as words c.in-Ok-Some-Load.field-0
    (asked.Load c.in-Ok-Some-Load.commands) c.in-Ok-Some-Load.ensures
    (c.in-Ok-Some-Load.field-0-is ∙ ap Some c.in-Ok-Some-Load.field-0-0-is) in
    λ call is.
    let same : load c.in-Ok-Some-Load.commands ≡ call = one_call words (load c.in-Ok-Some-Load.commands) call own is in
    subst (λ (k : Call). IsAnsweredInPart k told left held
    (g.O.Sink.held c.print_summary.new.out) c.print_summary.result) same c.print_summary.ensures.front

pub returns-in-Ok-Some-Load-clause-end : goal.returns-in-Ok-Some-Load-clause-end
returns-in-Ok-Some-Load-clause-end g c =
    let words = c.args.words.now in
    let told = g.F.Files.told c.args.files.now in
    let left = g.S.Source.left c.args.input.now in
    let held = g.O.Sink.held c.args.out.now in
    let F = Rose (g.F.Files.faults c.args.files.now) (g.F.Files.faults c.args.files.now) in
    let R = Rose (g.F.Files.refused c.args.files.now) (g.F.Files.refused c.args.files.now) in
    let I = Rose (g.S.Source.faults c.args.input.now) (g.S.Source.faults c.args.input.now) in
    let O = Rose (g.O.Sink.faults c.args.out.now) (g.O.Sink.faults c.print_summary.new.out) in
    let own = read_as words c.in-Ok-Some-Load.field-0
    (asked.Load c.in-Ok-Some-Load.commands) c.in-Ok-Some-Load.ensures
    (c.in-Ok-Some-Load.field-0-is ∙ ap Some c.in-Ok-Some-Load.field-0-0-is) in
    λ call is.
    let same : load c.in-Ok-Some-Load.commands ≡ call = one_call words (load c.in-Ok-Some-Load.commands) call own is in
    subst (λ (k : Call). LeavesInput k c.print_summary.result left left (g.S.Source.faults c.args.input.now)
    (g.S.Source.faults c.args.input.now)
    × LeavesFiles k (g.F.Files.faults c.args.files.now) (g.F.Files.faults c.args.files.now)
    (g.F.Files.refused c.args.files.now) (g.F.Files.refused c.args.files.now)) same ((refl, refl), (refl, refl))

pub returns-in-Ok-Some-Load-clause-cause : goal.returns-in-Ok-Some-Load-clause-cause
returns-in-Ok-Some-Load-clause-cause g c =
    let words = c.args.words.now in
    let told = g.F.Files.told c.args.files.now in
    let left = g.S.Source.left c.args.input.now in
    let held = g.O.Sink.held c.args.out.now in
    let F = Rose (g.F.Files.faults c.args.files.now) (g.F.Files.faults c.args.files.now) in
    let R = Rose (g.F.Files.refused c.args.files.now) (g.F.Files.refused c.args.files.now) in
    let I = Rose (g.S.Source.faults c.args.input.now) (g.S.Source.faults c.args.input.now) in
    let O = Rose (g.O.Sink.faults c.args.out.now) (g.O.Sink.faults c.print_summary.new.out) in
    let own = read_as words c.in-Ok-Some-Load.field-0
    (asked.Load c.in-Ok-Some-Load.commands) c.in-Ok-Some-Load.ensures
    (c.in-Ok-Some-Load.field-0-is ∙ ap Some c.in-Ok-Some-Load.field-0-0-is) in
    λ call is.
    let same : load c.in-Ok-Some-Load.commands ≡ call = one_call words (load c.in-Ok-Some-Load.commands) call own is in
    subst (λ (k : Call). HasCause k told left F R I O c.print_summary.result) same
    (rests_on_output c.in-Ok-Some-Load.commands told left F R I O c.print_summary.result c.print_summary.ensures.cause)

pub returns-in-Ok-Some-Load-clause-first : goal.returns-in-Ok-Some-Load-clause-first
returns-in-Ok-Some-Load-clause-first g c =
    let words = c.args.words.now in
    let told = g.F.Files.told c.args.files.now in
    let left = g.S.Source.left c.args.input.now in
    let held = g.O.Sink.held c.args.out.now in
    let F = Rose (g.F.Files.faults c.args.files.now) (g.F.Files.faults c.args.files.now) in
    let R = Rose (g.F.Files.refused c.args.files.now) (g.F.Files.refused c.args.files.now) in
    let I = Rose (g.S.Source.faults c.args.input.now) (g.S.Source.faults c.args.input.now) in
    let O = Rose (g.O.Sink.faults c.args.out.now) (g.O.Sink.faults c.print_summary.new.out) in
    let own = read_as words c.in-Ok-Some-Load.field-0
    (asked.Load c.in-Ok-Some-Load.commands) c.in-Ok-Some-Load.ensures
    (c.in-Ok-Some-Load.field-0-is ∙ ap Some c.in-Ok-Some-Load.field-0-0-is) in
    λ call is.
    let same : load c.in-Ok-Some-Load.commands ≡ call = one_call words (load c.in-Ok-Some-Load.commands) call own is in
    subst (λ (k : Call). IsFirstShown k told left F I c.print_summary.result) same c.print_summary.ensures.first

pub returns-in-Ok-Some-Load-clause-room : goal.returns-in-Ok-Some-Load-clause-room
returns-in-Ok-Some-Load-clause-room g c =
    let words = c.args.words.now in
    let told = g.F.Files.told c.args.files.now in
    let left = g.S.Source.left c.args.input.now in
    let held = g.O.Sink.held c.args.out.now in
    let F = Rose (g.F.Files.faults c.args.files.now) (g.F.Files.faults c.args.files.now) in
    let R = Rose (g.F.Files.refused c.args.files.now) (g.F.Files.refused c.args.files.now) in
    let I = Rose (g.S.Source.faults c.args.input.now) (g.S.Source.faults c.args.input.now) in
    let O = Rose (g.O.Sink.faults c.args.out.now) (g.O.Sink.faults c.print_summary.new.out) in
    let own = read_as words c.in-Ok-Some-Load.field-0
    (asked.Load c.in-Ok-Some-Load.commands) c.in-Ok-Some-Load.ensures
    (c.in-Ok-Some-Load.field-0-is ∙ ap Some c.in-Ok-Some-Load.field-0-0-is) in
    λ call is.
    let same : load c.in-Ok-Some-Load.commands ≡ call = one_call words (load c.in-Ok-Some-Load.commands) call own is in
    subst (λ (k : Call). FitsRoom k told left (g.O.Sink.room c.args.out.now) (g.O.Sink.faults c.args.out.now)
    (g.O.Sink.faults c.print_summary.new.out)) same c.print_summary.ensures.room

pub print_summary-requires-clause-few : goal.print_summary-requires-clause-few
print_summary-requires-clause-few g c = λ κs l.
    let own = read_as c.args.words.now c.in-Ok-Some-Load.field-0
    (asked.Load c.in-Ok-Some-Load.commands) c.in-Ok-Some-Load.ensures
    (c.in-Ok-Some-Load.field-0-is ∙ ap Some c.in-Ok-Some-Load.field-0-0-is) in
    own.form.2.most
