-- The lines of an input, one after another.
use Rattle.std.proofs.Common.{zero, suc, ◌==◌, Bool, true, false, if◌then◌else◌, nat_lt, ◌≡◌, ℕ, ◌+◌, ◌<◌, ◌≤◌, List}
use Rattle.std.proofs.Common.{[], ◌∷◌, ◌++◌, map, drop, Option, Some, None, slice_get, inl, inr, ◌⊎◌, sym, ◌∙◌, ap}
use Rattle.std.proofs.Common.{refl, arith, append_assoc}
use Rattle.std.specs.Option.{option_or}
use Rattle.std.proofs.lemmas.Bool.{ltb-false, le-ltb}
use Rattle.std.proofs.lemmas.Option.{slice_get_cases, same_Some}
use Rattle.std.proofs.Math.ListN.{drop_of_length-le}
use Rattle.std.specs.List.{AllByRecursion}
use Rattle.flux_defs.specs.declared.vertices.Vertex.{Vertex}
use Rattle.flux_defs.specs.Scheduler.{IsProper}
use Rattle.flux_defs.specs.declared.limits.Limits.{Limits}
use Rattle.resource_graph.specs.NamedGraph.{NamedGraph}
use Rattle.text_table.specs.Tables.{with_text, with_texts}
use Rattle.fluxion_lines.specs.Lines.{lines_of}
use Rattle.fluxion_lines.specs.declared.commands.Form.{Form}
use Rattle.fluxion_lines.specs.Inputs.{client_in, line_at, lines_from, is_by_size, over_size, line_over_size}
use Rattle.fluxion_lines.specs.Inputs.{over_size_from, over_size_in, bars_in, over_bars, line_over, over_from, over_in}
use Rattle.flux_defs.specs.declared.journal.ClientLine.{ClientLine}
use Rattle.fluxion_lines.specs.declared.input.Over.{Over}
use Rattle.fluxion_lines.specs.declared.input.InputFault.{InputFault}
use Rattle.fluxion_lines.specs.declared.input.InputFault.TheVariants as input_fault
use Rattle.fluxion_lines.specs.declared.input.Over.TheVariants as over

module _ (limits : Limits) (g : NamedGraph) (form : Form)
    (table : List (List ℕ)) (bars at : ℕ) (raw more rest : List ℕ) (split : lines_of rest ≡ raw ∷ lines_of more) where
  pub next_lines : (done : List ClientLine) →
      (done ++ line_at g form table at raw ∷ []) ++ lines_from g form (with_text table (client_in raw))
      (at + 1) (lines_of more) ≡ done ++ lines_from g form table at (lines_of rest)
  next_lines done =
      append_assoc done (line_at g form table at raw ∷ [])
      (lines_from g form (with_text table (client_in raw)) (at + 1) (lines_of more))
      ∙ ap (λ raws. done ++ lines_from g form table at raws) (sym split)

  pub next_clients : with_texts (with_text table (client_in raw)) (map client_in (lines_of more))
      ≡ with_texts table (map client_in (lines_of rest))
  next_clients = ap (λ raws. with_texts table (map client_in raws)) (sym split)

  -- what is past a limit behind the line
  abbrev later : Option Over
  later = over_from limits g form (with_text table (client_in raw)) (bars + bars_in g form raw) (at + 1) (lines_of more)

  abbrev by_bars : Option Over
  by_bars = over_bars limits at (bars + bars_in g form raw)

  over_rest : over_from limits g form table bars at (lines_of rest)
      ≡ option_or (line_over limits g form table bars at raw) later
  over_rest = ap (over_from limits g form table bars at) split

  within_size : line_over_size limits table at raw ≡ None →
      over_from limits g form table bars at (lines_of rest) ≡ option_or by_bars later
  within_size size = over_rest ∙ ap (λ o. option_or (option_or o by_bars) later) size

  pub next_over : line_over_size limits table at raw ≡ None →
      by_bars ≡ None → later ≡ over_from limits g form table bars at (lines_of rest)
  next_over size few = sym (within_size size ∙ ap (λ o. option_or o later) few)

  pub over_size_here : (over : Over) →
      line_over_size limits table at raw ≡ Some over → over_from limits g form table bars at (lines_of rest) ≡ Some over
  over_size_here over here = over_rest ∙ ap (λ o. option_or (option_or o by_bars) later) here

  pub over_bars_here : (over : Over) → line_over_size limits table at raw ≡ None →
      by_bars ≡ Some over → over_from limits g form table bars at (lines_of rest) ≡ Some over
  over_bars_here over size here = within_size size ∙ ap (λ o. option_or o later) here

-- ---- what is past no limit

none_else : {A : Type 0} (b : Bool) (x : A) (r : Option A) → (if b then Some x else r) ≡ None → (b ≡ false) × (r ≡ None)
none_else true x r h = absurd (cc)
none_else false x r h = (refl, h)

-- the clients are within their limit
pub clients_fit : (limits : Limits) (at bytes clients : ℕ) →
    over_size limits at bytes clients ≡ None → clients ≤ limits.clients
clients_fit limits at bytes clients none =
    let rest = none_else (nat_lt limits.lines at) _ (if nat_lt limits.line_bytes bytes then Some (over.LineBytes at)
    else if nat_lt limits.clients clients then Some (over.Clients at) else None) none in
    let more = none_else (nat_lt limits.line_bytes bytes) _
    (if nat_lt limits.clients clients then Some (over.Clients at) else None) rest.1 in
    let last = none_else (nat_lt limits.clients clients) _ None more.1 in
    ltb-false limits.clients clients last.0

-- the barred nodes are within theirs
pub bars_fit : (limits : Limits) (at bars : ℕ) → bars ≤ limits.barred → over_bars limits at bars ≡ None
bars_fit limits at bars few = ap (λ b. if b then Some (over.Barred at) else None) (le-ltb limits.barred bars few)

-- ---- what the text of the lines alone tells

by_size : (size later later_size : Option Over) (many : Bool) (at : ℕ) (o : Over) →
    is_by_size o ≡ true → (later ≡ Some o → later_size ≡ Some o) →
    option_or (option_or size (if many then Some (over.Barred at) else None)) later ≡ Some o →
    option_or size later_size ≡ Some o
by_size (Some x) later later_size many at o told behind is = is
by_size None later later_size true at o told behind is =
    absurd (let bad : false ≡ true = ap is_by_size (same_Some (over.Barred at) o is) ∙ told in cc)
by_size None later later_size false at o told behind is = behind is

-- a line past one of these limits is the first past one of them
size_from : (limits : Limits) (g : NamedGraph)
    (form : Form) (clients : List (List ℕ)) (bars at : ℕ) (raws : List (List ℕ)) (o : Over) → is_by_size o ≡ true →
    over_from limits g form clients bars at raws ≡ Some o → over_size_from limits clients at raws ≡ Some o
size_from limits g form clients bars at [] o told is = is
size_from limits g form clients bars at (raw ∷ raws) o told is =
    by_size (line_over_size limits clients at raw)
    (over_from limits g form (with_text clients (client_in raw)) (bars + bars_in g form raw) (at + 1) raws)
    (over_size_from limits (with_text clients (client_in raw)) (at + 1) raws)
    (nat_lt limits.barred (bars + bars_in g form raw)) at o told
    (size_from limits g form (with_text clients (client_in raw)) (bars + bars_in g form raw) (at + 1) raws o told) is

pub size_told : (limits : Limits) (g : NamedGraph) (form : Form) (bytes : List ℕ) (o : Over) →
    is_by_size o ≡ true → over_in limits g form bytes ≡ Some o → over_size_in limits bytes ≡ Some o
size_told limits g form bytes o told is = size_from limits g form [] 0 1 (lines_of bytes) o told is

-- ---- the names of a table

pub no_name : (xs : List (List ℕ)) (k : ℕ) → slice_get xs k ≡ None → drop k xs ≡ []
no_name xs k none = elim (slice_get_cases xs k).1 [
  | inl (x, within, some, is) ↦ absurd (let bad : Some x ≡ None = sym some ∙ none in cc)
  | inr (past, is) ↦ drop_of_length-le xs past
]

-- ---- clauses, carried on

pub told_of : {P Q : Over → Type 0} (fault : InputFault) → (fault ≡ input_fault.Memory)
    ⊎ ((over : Over) × (fault ≡ input_fault.Over over) × P over) → ((over : Over) → P over → Q over) →
    (fault ≡ input_fault.Memory) ⊎ ((over : Over) × (fault ≡ input_fault.Over over) × Q over)
told_of fault (inl memory) f = inl memory
told_of fault (inr told) f = inr (told.0, told.1, f told.0 told.2)

pub proper_push : (vertices : List Vertex) (done : List ClientLine) (line : ClientLine) →
    AllByRecursion (λ x. IsProper vertices x.command) done → IsProper vertices line.command →
    AllByRecursion (λ x. IsProper vertices x.command) (done ++ line ∷ [])
proper_push vertices [] line all one = (one, tt)
proper_push vertices (x ∷ xs) line all one = (all.0, proper_push vertices xs line all.1 one)

pub some_left : (n : ℕ) → (n == 0) ≡ false → 0 < n
some_left zero e = absurd (let bad : true ≡ false = e in cc)
some_left (suc n) e = omega arith
