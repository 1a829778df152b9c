-- Clients of an input: no line number is of two of them, and they are no more than the limits allow.
use Rattle.std.proofs.Common.{◌≡◌, ℕ, ◌+◌, ◌≤◌, ◌==◌, ◌||◌, nat_lt, if◌then◌else◌, Bool, true, false, cond, List, []}
use Rattle.std.proofs.Common.{◌∷◌, map, length, Some, None, inl, inr, refl, sym, ◌∙◌, ap, arith}
use Rattle.std.specs.List.{AllByRecursion}
use Rattle.std.specs.Option.{option_or}
use Rattle.std.proofs.lemmas.Bool.{eqb-true}
use Rattle.std.proofs.lemmas.Bool.Decides.{nat_tests, eqb_tells}
use Rattle.std.proofs.lemmas.List.FromFn.{length-map-range_with_len}
use Rattle.flux_defs.specs.declared.journal.ClientLine.{ClientLine}
use Rattle.flux_defs.specs.declared.journal.Line.{Line}
use Rattle.flux_defs.specs.declared.limits.Limits.{Limits}
use Rattle.flux_defs.specs.Scripts.{HasLines, has_number}
use Rattle.resource_graph.specs.NamedGraph.{NamedGraph}
use Rattle.text_table.specs.Tables.{with_text, with_texts}
use Rattle.fluxion_lines.specs.declared.commands.Form.{Form}
use Rattle.fluxion_lines.specs.declared.input.Over.TheVariants as over
use Rattle.fluxion_lines.specs.Lines.{lines_of}
use Rattle.fluxion_lines.specs.Inputs.{bars_in, client_in, clients_of, line_over_size, numbered_lines, over_bars}
use Rattle.fluxion_lines.specs.Inputs.{over_from, over_in}
use Rattle.fluxion_lines.specs.Scripts.{line_held, lines_by, script_of}
use Rattle.fluxion_lines.proofs.ScriptLaws.{by_more, lines_are, numbers_are_own}
use Rattle.list_laws.proofs.Options.{neither}

-- ---- numbers

-- the line of the client that has this number
found_line : (P : ClientLine → Type 0) (c n : ℕ) (ls : List ClientLine) →
    AllByRecursion P ls → has_number (lines_by c ls) n ≡ true
    → (l : ClientLine) × P l × (l.client ≡ c) × (l.line ≡ n)
found_line P c n [] all has = absurd cc
found_line P c n (l ∷ ls) all has = elim (eqb_tells l.client c) [
  | inl (is, own) ↦
      let held : lines_by c (l ∷ ls) ≡ line_held l ∷ lines_by c ls
      = by_more c l ls ∙ ap (λ b. cond b (line_held l ∷ lines_by c ls) (lines_by c ls)) is in
      let more : has_number (line_held l ∷ lines_by c ls) n ≡ true = sym (ap (λ h. has_number h n) held) ∙ has in
      elim (eqb_tells l.line n) [
        | inl (at, same) ↦ (l, all.0, own, same)
        | inr (at, other) ↦ found_line P c n ls all.1 (sym (ap (λ b. b || has_number (lines_by c ls) n) at) ∙ more)
      ]
  | inr (is, other) ↦
      let held : lines_by c (l ∷ ls) ≡ lines_by c ls
      = by_more c l ls ∙ ap (λ b. cond b (line_held l ∷ lines_by c ls) (lines_by c ls)) is in
      found_line P c n ls all.1 (sym (ap (λ h. has_number h n) held) ∙ has)
]

module _ (g : NamedGraph) (form : Form) (bytes : List ℕ) where
  -- a number of two clients' lines is of one client
  pub numbers_apart : (c c' : ℕ) (ls ls' : List Line) (n : ℕ) → HasLines (script_of g form bytes) c ls
      → HasLines (script_of g form bytes) c' ls' → has_number ls n ≡ true → has_number ls' n ≡ true → c ≡ c'
  numbers_apart c c' ls ls' n own own' has has' =
      let all = numbered_lines g form bytes in
      let first : has_number (lines_by c all) n ≡ true =
      ap (λ h. has_number h n) (lines_are g form bytes c ls own) ∙ has in
      let second : has_number (lines_by c' all) n ≡ true =
      ap (λ h. has_number h n) (lines_are g form bytes c' ls' own') ∙ has' in
      let found = found_line (λ l. has_number (lines_by c' all) l.line ≡ (l.client == c')) c n all
      (numbers_are_own g form bytes c') first in
      eqb-true c c'
      (ap (λ d. d == c') (sym found.2) ∙ (sym found.1 ∙ (ap (has_number (lines_by c' all)) found.3 ∙ second)))

-- ---- limits

few_here : (limits : Limits) (at bytes clients : ℕ) (many long late : Bool) → nat_lt limits.clients clients ≡ many
    → (if late then Some (over.Lines at)
    else if long then Some (over.LineBytes at) else if many then Some (over.Clients at) else None) ≡ None
    → clients ≤ limits.clients
few_here limits at bytes clients many long true is h = absurd cc
few_here limits at bytes clients many true false is h = absurd cc
few_here limits at bytes clients true false false is h = absurd cc
few_here limits at bytes clients false false false is h = grind (arith, nat_tests)

few_from : (limits : Limits)
    (g : NamedGraph) (form : Form) (clients : List (List ℕ)) (bars at : ℕ) (raws : List (List ℕ))
    → length clients ≤ limits.clients → over_from limits g form clients bars at raws ≡ None
    → length (with_texts clients (map client_in raws)) ≤ limits.clients
few_from limits g form clients bars at [] few h = few
few_from limits g form clients bars at (raw ∷ raws) few h =
    let next = with_text clients (client_in raw) in
    let size = line_over_size limits clients at raw in
    let barred = over_bars limits at (bars + bars_in g form raw) in
    let rest = over_from limits g form next (bars + bars_in g form raw) (at + 1) raws in
    few_from limits g form next (bars + bars_in g form raw) (at + 1) raws
    (few_here limits at
    (length raw) (length next) (nat_lt limits.clients (length next)) (nat_lt limits.line_bytes (length raw))
    (nat_lt limits.lines at) refl (neither size barred (neither (option_or size barred) rest h).0).0)
    (neither (option_or size barred) rest h).1

-- a script within the limits has no more clients than they allow
pub few_clients_within : (limits : Limits) (g : NamedGraph) (form : Form) (bytes : List ℕ) →
    over_in limits g form bytes ≡ None
    → length ((script_of g form bytes).lines) ≤ limits.clients
few_clients_within limits g form bytes h =
    let n = length-map-range_with_len (λ c. lines_by c (numbered_lines g form bytes)) 0 (length (clients_of bytes)) in
    let few = few_from limits g form [] 0 1 (lines_of bytes) (omega arith) h in omega arith
