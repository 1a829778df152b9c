-- The counts of a load that was played.
use Rattle.std.proofs.Common.{◌≡◌, ◌⊎◌, ℕ, ◌<◌, ◌≤◌, List, [], length, Some, None, inl, inr, sym, ◌∙◌, ap, subst, arith}
use Rattle.std.proofs.lemmas.List.FromFn.{length-map-range_with_len}
use Rattle.flux_defs.specs.declared.journal.Entry.{Entry}
use Rattle.flux_defs.specs.declared.journal.Script.{Script}
use Rattle.flux_defs.specs.declared.limits.TheConstants.{SHIPPED}
use Rattle.flux_defs.specs.Graph.{ResourceGraph}
use Rattle.flux_defs.specs.Scheduler.{Setting, first_state}
use Rattle.flux_defs.specs.Scripts.{Plays}
use Rattle.prune_filters.specs.declared.rules.Rule.{Rule}
use Rattle.resource_graph.specs.NamedGraph.{NamedGraph}
use Rattle.sched_core.specs.Courses.{Course, empty_course}
use Rattle.one_history.specs.Together.{IsPlayedTogether}
use Rattle.fluxion_lines.specs.declared.commands.Form.{Form}
use Rattle.fluxion_lines.specs.declared.commands.Form.TheVariants.{Rfc14}
use Rattle.fluxion_lines.specs.declared.input.Over.{Over}
use Rattle.fluxion_lines.specs.declared.input.InputFault.{InputFault}
use Rattle.fluxion_lines.specs.declared.input.InputFault.TheVariants as fault
use Rattle.fluxion_lines.specs.Inputs.{clients_of, numbered_lines, over_in}
use Rattle.fluxion_lines.specs.Scripts.{lines_by, script_of}
use Rattle.fluxion_lines.proofs.OrderLaws.{one_client}
use Rattle.load_script.specs.Counts.{counts_text, end_of}
use Rattle.load_script.specs.Lines.{load_text}
use Rattle.load_script.specs.Vertices.{IsLoadGraph}
use Rattle.load_script.specs.declared.lines.TheConstants.{LOAD_LIMITS, MOST_COMMANDS}
use Rattle.load_script.proofs.Read as read
use Rattle.load_script.proofs.Tallies.{legal_claims}
use Rattle.asked_calls.specs.Calls.{Served, IsServing, only_name}
use Rattle.fluxion_shell.specs.Outputs.{served_setting, IsSummary}
use Rattle.fluxion_shell.specs.PlayedText.{lines_answered}
use Rattle.fluxion_shell.proofs.Output.{played_together}

-- an input that is a load's passes no limit, so only want of memory keeps it from being read
pub only_memory : (g : NamedGraph) (commands : ℕ) (form : Form) (input : List ℕ) (told : InputFault) → IsLoadGraph g →
    commands ≤ MOST_COMMANDS → form ≡ Rfc14 → input ≡ load_text commands →
    (told ≡ fault.Memory) ⊎ ((over : Over) × (told ≡ fault.Over over) ×
    (over_in LOAD_LIMITS g form input ≡ Some over)) →
    told ≡ fault.Memory
only_memory g commands form input told graph few form-is input-is (inl memory) = memory
only_memory g commands form input told graph few form-is input-is (inr (over, is, past)) =
    let none : over_in LOAD_LIMITS g form input ≡ None =
    (λ i. over_in LOAD_LIMITS g (form-is i) (input-is i)) ∙ read.no_limit g commands graph.whole.valid.few few in
    absurd (let clash : None ≡ Some over = sym none ∙ past in cc)

-- the script has one client
pub few_clients : (g : NamedGraph) (commands : ℕ) (form : Form) (input : List ℕ) (script : Script) →
    commands ≤ MOST_COMMANDS →
    input ≡ load_text commands → script ≡ script_of g form input → length script.lines ≤ 1
few_clients g commands form input script few input-is script-is =
    let lines : length script.lines ≡ length (clients_of input) =
    ap (λ (s : Script). length s.lines) script-is
    ∙ length-map-range_with_len (λ client. lines_by client (numbered_lines g form input)) 0 (length
    (clients_of input)) in
    let own : length (clients_of input) ≡ length (clients_of (load_text commands)) = ap (λ i. length
    (clients_of i)) input-is in
    let one = read.one_client commands few in
    omega (arith, lines, own, one)

-- the claims of all accepted jobs fit 64 bits
pub counts_fit : (graph : ResourceGraph) (rules : List Rule) (horizon : ℕ) (played : Course) (script : Script)
    (entries : List Entry) → IsPlayedTogether (empty_course graph rules horizon SHIPPED.claims) played script →
    entries ≡ played.journal → (end_of entries).claim_count < 18446744073709551616
counts_fit graph rules horizon played script entries together entries-is =
    let setting : Setting = (empty_course graph rules horizon SHIPPED.claims).setting in
    let few : (end_of played.journal).claim_count ≤ SHIPPED.claims =
    legal_claims setting first_state played.journal together.plays.legal (omega arith) in
    let same : (end_of entries).claim_count ≡ (end_of played.journal).claim_count = ap (λ es.
    (end_of es).claim_count) entries-is in
    omega (arith, few, same)

-- what was played is the load's history, and its counts are the summary
pub summed : (commands : ℕ) (served : Served) (g h : NamedGraph) (input : List ℕ) (script : Script) (core : Course)
    (entries : List Entry) (text : List ℕ) →
    commands ≤ MOST_COMMANDS → IsServing (only_name []) served → IsLoadGraph g →
    h ≡ g →
    input ≡ load_text commands → IsPlayedTogether
    (empty_course h.resources served.rules served.horizon SHIPPED.claims) core script →
    script ≡ script_of g served.form input → entries ≡ core.journal → text ≡ counts_text entries →
    IsSummary commands text
summed commands served g h input script core entries text few plainly graph same_h input-is together script-is
    entries-is is =
    let setting = ap (λ (x : NamedGraph). served_setting x served) same_h in
    let own : script ≡ script_of g served.form (load_text commands) = script-is
    ∙ ap (script_of g served.form) input-is in
    let played = played_together served g (load_text commands)
    (empty_course h.resources served.rules served.horizon SHIPPED.claims) core script setting own together in
    let order = one_client g served.form (load_text commands) (lines_answered core.journal) played.interleaves
    (read.one_client commands few) in
    record {
      graph = g;
      graph-is = graph;
      served = served;
      plainly = plainly;
      history = core.journal;
      plays = subst (λ (o : List ℕ). Plays (served_setting g served) (script_of g served.form
          (load_text commands)) o core.journal)
          order played.plays;
      sound = played.sound;
      text-is = is ∙ ap counts_text entries-is;
    }
