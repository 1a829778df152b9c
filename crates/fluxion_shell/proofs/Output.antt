-- A history that was played and its text are an output; what an order determines of it.
use Rattle.std.proofs.Common.{◌≡◌, ℕ, ◌^◌, ◌<◌, ◌≤◌, ◌++◌, List, [], ◌∷◌, length, Result, Err, inl, inr, ◌⊎◌, codes}
use Rattle.std.proofs.Common.{sym, ◌∙◌, ap, subst, arith, None, lit<}
use Rattle.std.specs.List.{AllByRecursion}
use Rattle.flux_defs.specs.declared.journal.Entry.{Entry}
use Rattle.flux_defs.specs.declared.limits.TheConstants.{SHIPPED}
use Rattle.flux_defs.specs.Scheduler.{Setting}
use Rattle.flux_defs.specs.Scripts.{Interleaves, Plays}
use Rattle.flux_defs.specs.Sound.{IsSoundThroughout}
use Rattle.resource_graph.specs.NamedGraph.{NamedGraph}
use Rattle.graph_json.proofs.TextLaws.{one_graph_told}
use Rattle.graph_json.specs.WrittenGraph.{graph_text}
use Rattle.sched_core.specs.Courses.{Course, empty_course}
use Rattle.one_history.specs.Together.{IsPlayedTogether}
use Rattle.flux_defs.specs.declared.journal.Script.{Script}
use Rattle.fluxion_lines.specs.declared.input.Over.{Over}
use Rattle.fluxion_lines.specs.declared.input.InputFault.{InputFault}
use Rattle.fluxion_lines.specs.declared.input.InputFault.TheVariants as fault
use Rattle.fluxion_lines.specs.Columns.{line_column, line_feeds}
use Rattle.fluxion_lines.specs.Inputs.{clients_of, over_in}
use Rattle.fluxion_lines.specs.Scripts.{script_of, input_order}
use Rattle.fluxion_lines.specs.Texts.{history_text}
use Rattle.fluxion_lines.proofs.ColumnLaws.{history_column}
use Rattle.fluxion_lines.proofs.OrderLaws.{answered_small, one_client, one_play}
use Rattle.graph_build.proofs.OneGraph.{one_graph}
use Rattle.load_script.specs.Counts.{counts_text}
use Rattle.load_script.specs.Lines.{load_text}
use Rattle.load_script.specs.Vertices.{load_kinds, load_vertices}
use Rattle.asked_calls.specs.Calls.{Served, Call, serve, print, load, only_name}
use Rattle.fluxion_shell.specs.Outputs.{served_setting, IsOutput, Answers, IsSummary, IsAnswerTo}
use Rattle.asked_calls.proofs.CallLaws.{serving_once}
use Rattle.fluxion_shell.specs.PlayedText.{lines_answered, IsPlayed}

-- what clients played together answers their lines
pub played_together : (served : Served) (g : NamedGraph) (input : List ℕ) (core played : Course) (script : Script) →
    core.setting ≡ served_setting g served → script ≡ script_of g served.form input →
    IsPlayedTogether core played script → IsPlayed served g input played.journal
played_together served g input core played script setting-is script-is together = record {
  interleaves = subst (λ (s : Script). Interleaves s (lines_answered played.journal)) script-is together.interleaves;
  plays = subst (λ (s : Script). Plays (served_setting g served) s
      (lines_answered played.journal) played.journal) script-is
      (subst (λ (x : Setting). Plays x script
      (lines_answered played.journal) played.journal) setting-is together.plays);
  sound = subst (λ (x : Setting). IsSoundThroughout x.graph.vertices played.journal) setting-is together.sound;
}

small : (most : ℕ) → most < 2 ^ 64 → (history : List Entry) → AllByRecursion (λ (e : Entry). e.line ≤ most) history →
    AllByRecursion (λ (e : Entry). e.line < 2 ^ 64) history
small most few [] all = tt
small most few (e ∷ es) all = (omega (arith, all.0), small most few es all.1)

-- the text of a history that was played names its order
pub output_of : (served : Served) (g : NamedGraph) (input : List ℕ) (history : List Entry) (text : List ℕ) →
    IsPlayed served g input history → over_in SHIPPED g served.form input ≡ None →
    text ≡ history_text g (clients_of input) history → line_feeds text ≡ length history → length history < 2 ^ 64 →
    IsOutput served g input text
output_of served g input history text played within is one_each few =
    let numbers = small SHIPPED.lines (lit< tt) history
    (answered_small g served.form input SHIPPED history within played.interleaves) in
    let column : line_column text ≡ lines_answered history =
    ap line_column is ∙ history_column g (clients_of input) history numbers few (sym (ap line_feeds is) ∙ one_each) in
    record {
      interleaves = subst (Interleaves (script_of g served.form input)) (sym column) played.interleaves;
      history = history;
      plays = subst (λ (order : List ℕ). Plays (served_setting g served)
          (script_of g served.form input) order history) (sym column) played.plays;
      sound = played.sound;
      text-is = is;
    }

-- the same of what the code holds
pub held_output : (served : Served) (g h k : NamedGraph) (input : List ℕ) (script : Script) (core : Course)
    (names : List (List ℕ)) (history : List Entry) (text : List ℕ) →
    h ≡ g → k ≡ h → IsPlayedTogether
    (empty_course h.resources served.rules served.horizon SHIPPED.claims) core script →
    script ≡ script_of g served.form input →
    names ≡ script.clients → history ≡ core.journal → text ≡ history_text k names history →
    line_feeds text ≡ length history → length history < 2 ^ 64 →
    over_in SHIPPED g served.form input ≡ None → IsOutput served g input text
held_output served g
    h k input script core names history text same_h same_k together script-is names-are history-is is feeds few within =
    let setting = ap (λ (x : NamedGraph). served_setting x served) same_h in
    let played = played_together served g input
    (empty_course h.resources served.rules served.horizon SHIPPED.claims) core script setting script-is together in
    let clients : names ≡ clients_of input = names-are ∙ ap (λ (s : Script). s.clients) script-is in
    let text_is : text ≡ history_text g (clients_of input) core.journal =
    is ∙ (λ i. history_text ((same_k ∙ same_h) i) (clients i) (history-is i)) in
    output_of served g input core.journal text played within text_is
    (feeds ∙ ap length history-is) (subst (λ (es : List Entry). length es < 2 ^ 64) history-is few)

-- ---- what an order determines

-- with one client the order is the input's
pub input_ordered : (served : Served) (file input text : List ℕ) (answers : Answers served file input text) → length
    (clients_of input) ≤ 1 →
    line_column text ≡ input_order answers.graph served.form input
input_ordered served file input text answers few = one_client answers.graph served.form input
    (line_column text) answers.output.interleaves few

one_text : (served : Served) (g : NamedGraph) (input a b : List ℕ) → IsOutput served g input a →
    IsOutput served g input b → line_column a ≡ line_column b → a ≡ b
one_text served g input a b one two order =
    let history = one_play g served.form input (served_setting g served) (line_column b) one.history two.history
    (subst (λ (o : List ℕ). Plays (served_setting g served)
    (script_of g served.form input) o one.history) order one.plays) two.plays in
    one.text-is ∙ (ap (history_text g (clients_of input)) history ∙ sym two.text-is)

-- the counts of a load are determined by its number of commands
pub one_summary : (commands : ℕ) (a b : List ℕ) → IsSummary commands a → IsSummary commands b → a ≡ b
one_summary commands a b one two =
    let graph : two.graph ≡ one.graph =
    one_graph load_kinds load_vertices two.graph one.graph two.graph-is one.graph-is in
    let served : two.served ≡ one.served = serving_once (only_name []) two.served one.served two.plainly one.plainly in
    let input = load_text commands in
    let moved : Plays (served_setting one.graph one.served) (script_of one.graph one.served.form input)
    (input_order one.graph one.served.form input) two.history =
    subst (λ (g : NamedGraph). Plays (served_setting g one.served) (script_of g one.served.form input)
    (input_order g one.served.form input) two.history) graph
    (subst (λ (s : Served). Plays (served_setting two.graph s) (script_of two.graph s.form input)
    (input_order two.graph s.form input) two.history) served two.plays) in
    let history = one_play one.graph one.served.form input (served_setting one.graph one.served)
    (input_order one.graph one.served.form input) one.history two.history one.plays moved in
    one.text-is ∙ (ap counts_text history ∙ sym two.text-is)

pub one_output : (call : Call) (file input a b : List ℕ) → IsAnswerTo call file input a →
    IsAnswerTo call file input b → line_column a ≡ line_column b → a ≡ b
one_output (serve served) file input a b one two order =
    let graph : two.graph ≡ one.graph = one_graph_told file two.graph one.graph two.graph-is one.graph-is in
    one_text served one.graph input a b one.output
    (subst (λ (g : NamedGraph). IsOutput served g input b) graph two.output) order
one_output (print name) file input a b one two order =
    let graph : one.graph ≡ two.graph = one_graph_told file one.graph two.graph one.graph-is two.graph-is in
    one.text-is ∙ (ap (λ (g : NamedGraph). graph_text g ++ codes "\n") graph ∙ sym two.text-is)
one_output (load commands) file input a b one two order = one_summary commands a b one two

-- the column of the printed text says nothing of its order
pub one_output_of_one : (call : Call) (file input a b : List ℕ) → IsAnswerTo call file input a →
    IsAnswerTo call file input b → length (clients_of input) ≤ 1 → a ≡ b
one_output_of_one (serve served) file input a b one two few =
    let graph : one.graph ≡ two.graph = one_graph_told file one.graph two.graph one.graph-is two.graph-is in
    let order : line_column a ≡ line_column b =
    input_ordered served file input a one few ∙ (ap (λ (g : NamedGraph). input_order g served.form input) graph ∙ sym
    (input_ordered served file input b two few)) in
    one_output (serve served) file input a b one two order
one_output_of_one (print name) file input a b one two few =
    let graph : one.graph ≡ two.graph = one_graph_told file one.graph two.graph one.graph-is two.graph-is in
    one.text-is ∙ (ap (λ (g : NamedGraph). graph_text g ++ codes "\n") graph ∙ sym two.text-is)
one_output_of_one (load commands) file input a b one two few = one_summary commands a b one two

-- ---- faults of an input

fault_is : (f e : InputFault) → (let r : Result (List ℕ) InputFault = Err f in r ≡ Err e) → f ≡ e
fault_is f e same = cc

over_is : (a b : Over) → fault.Over a ≡ fault.Over b → a ≡ b
over_is a b same = cc

no_memory : (over : Over) → fault.Memory ≡ fault.Over over → ⊥
no_memory over same = cc

-- the line that a fault tells of
pub told_over : (P : Over → Type 0) (f : InputFault) (over : Over) →
    (f ≡ fault.Memory) ⊎ ((o : Over) × (f ≡ fault.Over o) × P o) →
    (let r : Result (List ℕ) InputFault = Err f in r ≡ Err (fault.Over over)) → P over
told_over P f over (inl memory) is = absurd (no_memory over (sym memory ∙ fault_is f (fault.Over over) is))
told_over P f over (inr (o, told, p)) is = subst P (over_is o over (sym told ∙ fault_is f (fault.Over over) is)) p
