-- What an order of a script's lines determines.
use Rattle.std.proofs.Common.{◌≡◌, ◌⊎◌, ℕ, zero, suc, ◌+◌, ◌<◌, ◌≤◌, ◌==◌, ◌||◌, nat_lt, Bool, true, false, cond}
use Rattle.std.proofs.Common.{if◌then◌else◌, Option, Some, None, List, [], ◌∷◌, map, filter, length, Contains, inl}
use Rattle.std.proofs.Common.{inr, refl, sym, ◌∙◌, ap, subst, arith, true≢false}
use Rattle.std.specs.List.{AllByRecursion}
use Rattle.std.proofs.lemmas.Bool.{ltb-false}
use Rattle.std.proofs.lemmas.Bool.Decides.{eqb_tells}
use Rattle.std.proofs.Math.Bool.{or-true}
use Rattle.std.proofs.lemmas.List.Elements.{recursion_from_All}
use Rattle.flux_defs.specs.declared.journal.Command.{Command}
use Rattle.flux_defs.specs.declared.journal.Entry.{Entry}
use Rattle.flux_defs.specs.declared.journal.Line.{Line}
use Rattle.flux_defs.specs.declared.journal.ClientLine.{ClientLine}
use Rattle.flux_defs.specs.Scheduler.{Setting, State, Replies, first_state, after}
use Rattle.flux_defs.specs.Histories.{IsLegalFrom}
use Rattle.flux_defs.specs.Scripts.{line_of, has_number}
use Rattle.flux_laws.proofs.Determined.{replies_once}
use Rattle.flux_defs.specs.Scripts.{HasLines, Interleaves, Answers, Plays}
use Rattle.resource_graph.specs.NamedGraph.{NamedGraph}
use Rattle.fluxion_lines.specs.declared.commands.Form.{Form}
use Rattle.fluxion_lines.specs.Lines.{lines_of}
use Rattle.flux_defs.specs.declared.limits.Limits.{Limits}
use Rattle.text_table.specs.Tables.{with_text}
use Rattle.list_laws.proofs.Lists.{all_filter, all_contained, contains_none, all_mapped, heads, tails}
use Rattle.fluxion_lines.specs.declared.input.Over.{Over}
use Rattle.fluxion_lines.specs.declared.input.Over.TheVariants as over
use Rattle.fluxion_lines.specs.Inputs.{client_in, clients_of, lines_from, numbered_lines, line_over_size, bars_in}
use Rattle.fluxion_lines.specs.Inputs.{over_bars, line_over, over_from, over_in}
use Rattle.fluxion_lines.specs.Scripts.{line_held, lines_by, script_of, input_order}
use Rattle.fluxion_lines.proofs.ScriptLaws.{RiseFrom, rises, has_lines, lines_are, is_client, few_clients}
use Rattle.list_laws.proofs.Options.{neither}

-- ---- legal histories

line_same : (e f : Entry) → line_of e ≡ line_of f → (e.client ≡ f.client) × (e.line ≡ f.line) × (e.command ≡ f.command)
line_same e f same = (
  ap (λ (l : ClientLine). l.client) same,
  ap (λ (l : ClientLine). l.line) same,
  ap
      (λ (l : ClientLine). l.command) same,
)

-- the lines that a legal history answers determine it
pub legal_once : (g : Setting) (s : State) (h k : List Entry) → map line_of h ≡ map line_of k → IsLegalFrom g s h →
    IsLegalFrom g s k → h ≡ k
legal_once g s [] [] same one two = refl
legal_once g s [] (f ∷ k) same one two = absurd (let no : [] ≡ line_of f ∷ map line_of k = same in cc)
legal_once g s (e ∷ h) [] same one two = absurd (let no : line_of e ∷ map line_of h ≡ [] = same in cc)
legal_once g s (e ∷ h) (f ∷ k) same one two =
    let line = line_same e f (heads (line_of e) (line_of f) (map line_of h) (map line_of k) same) in
    let reply : e.reply ≡ f.reply = (replies_once g s e.command).once e.reply f.reply one.0
    (subst (λ (c : Command). Replies g s c f.reply) (sym line.2) two.0) in
    let entry : e ≡ f = λ i. record { client = line.0 i; line = line.1 i; command = line.2 i; reply = reply i } in
    let later : IsLegalFrom g (after s e.command e.reply) k = subst
    (λ (x : Entry). IsLegalFrom g (after s x.command x.reply) k) (sym entry) two.1 in
    let rest = legal_once g (after s e.command e.reply) h k (tails (line_of e) (line_of f) (map line_of h)
    (map line_of k) same) one.1 later in
    λ i. entry i ∷ rest i

-- ---- numbered lines

first_or_later : {X : Type 0} (y : X) (ys : List X) (x : X) → Contains (y ∷ ys) x → (y ≡ x) ⊎ Contains ys x
first_or_later y ys x (zero, lt, is) = inl is
first_or_later y ys x (suc k, lt, is) = inr (k, omega (arith, lt), is)

filtered_by : (c : ℕ) (t : Bool) (l : ClientLine) (rest : List ClientLine) (y : Line) → Contains
    (map line_held (cond t (l ∷ rest) rest)) y →
    ((t ≡ true) × (line_held l ≡ y)) ⊎ Contains (map line_held rest) y
filtered_by c true l rest y has = elim (first_or_later (line_held l) (map line_held rest) y has) [
  | inl is ↦ inl
      (refl, is)
  | inr more ↦ inr more
]
filtered_by c false l rest y has = inr has

-- a line of a client is the first, or one of the others
of_client : (c : ℕ) (l : ClientLine) (ls : List ClientLine) (y : Line) → Contains (lines_by c (l ∷ ls)) y →
    ((l.client ≡ c) × (line_held l ≡ y)) ⊎ Contains (lines_by c ls) y
of_client c l ls y has = elim (filtered_by c (l.client == c) l (filter (λ x. x.client == c) ls) y has) [
  | inl both ↦ elim (eqb_tells l.client c) [
    | inl same ↦ inl (same.1, both.1)
    | inr differ ↦ absurd
        (true≢false (sym both.0 ∙ differ.0))
  ]
  | inr more ↦ inr more
]

-- its number is not below the first
not_below : (c at : ℕ) (ls : List ClientLine) (y : Line) → RiseFrom at ls → Contains (lines_by c ls) y → at ≤ y.line
not_below c at [] y rise has = absurd (contains_none y has)
not_below c at (l ∷ ls) y rise has = elim (of_client c l ls y has) [
  | inl both ↦ (let low = rise.0 in let is : l.line ≡ y.line = ap (λ (x : Line). x.line) both.1 in omega arith)
  | inr more ↦ (let low = rise.0 in let rest = not_below c (l.line + 1) ls y rise.1 more in omega (arith, low, rest))
]

-- a number is that of one line, of one client
pub one_line : (c d at : ℕ) (ls : List ClientLine) (x y : Line) → RiseFrom at ls → Contains (lines_by c ls) x →
    Contains (lines_by d ls) y → x.line ≡ y.line → (c ≡ d) × (x ≡ y)
one_line c d at [] x y rise one two same = absurd (contains_none x one)
one_line c d at (l ∷ ls) x y rise one two same = elim (of_client c l ls x one) [
  | inl first ↦ elim (of_client d l ls y two) [
    | inl second ↦ (sym first.0 ∙ second.0, sym first.1 ∙ second.1)
    | inr more ↦ absurd (let low = not_below d (l.line + 1) ls y rise.1 more in let is : l.line ≡ x.line = ap
        (λ (z : Line). z.line) first.1 in omega (arith, low, is, same))
  ]
  | inr more ↦ elim (of_client d l ls y two) [
    | inl second ↦ absurd (let low = not_below c (l.line + 1) ls x rise.1 more in let is : l.line ≡ y.line = ap
        (λ (z : Line). z.line) second.1 in omega (arith, low, is, same))
    | inr also ↦ one_line c d (l.line + 1) ls x y rise.1 more also same
  ]
]

-- ---- lines of one client

-- all pass, so all are kept
pub all_kept : {X : Type 0} (p : X → Bool) (xs : List X) → AllByRecursion (λ x. p x ≡ true) xs → filter p xs ≡ xs
all_kept p [] h = refl
all_kept p (x ∷ xs) h = ap (λ t. cond t (x ∷ filter p xs) (filter p xs)) h.0 ∙ ap (λ ys. x ∷ ys) (all_kept p xs h.1)

-- a number that a line has
pub has_it : (ls : List Line) (n : ℕ) → Contains (map (λ l. l.line) ls) n → has_number ls n ≡ true
has_it [] n has = absurd (contains_none n has)
has_it (l ∷ ls) n has = elim (first_or_later l.line (map (λ x. x.line) ls) n has) [
  | inl is ↦ elim (eqb_tells l.line n) [
    | inl same ↦ ap (λ t. t || has_number ls n) same.0
    | inr differ ↦ absurd
        (differ.1 is)
  ]
  | inr more ↦ ap (λ t. (l.line == n) || t) (has_it ls n more) ∙ or-true (l.line == n)
]

numbers_held : (ls : List ClientLine) → map (λ (l : Line). l.line) (map line_held ls) ≡ map
    (λ (l : ClientLine). l.line) ls
numbers_held [] = refl
numbers_held (l ∷ ls) = ap (λ ns. l.line ∷ ns) (numbers_held ls)

-- where all lines are of client 0, its numbers are all
pub all_of_one : (ls : List ClientLine) → AllByRecursion (λ l. l.client < 1) ls → map (λ (l : Line). l.line)
    (lines_by 0 ls) ≡ map (λ (l : ClientLine). l.line) ls
all_of_one ls few = ap (λ (xs : List ClientLine). map (λ (l : Line). l.line) (map line_held xs))
    (all_kept (λ (l : ClientLine). l.client == 0) ls (zero_is ls few)) ∙ numbers_held ls
  where
    zero_is : (xs : List ClientLine) → AllByRecursion (λ l. l.client < 1) xs → AllByRecursion
        (λ (l : ClientLine). (l.client == 0) ≡ true) xs
    zero_is [] h = tt
    zero_is (x ∷ xs) h = (ap (λ n. n == 0) (let none : x.client ≡ 0 = omega (arith, h.0) in none), zero_is xs h.1)

-- ---- the limit on lines

not_many : (b : Bool) (x : Over) (rest : Option Over) → (if b then Some x else rest) ≡ None → b ≡ false
not_many true x rest none = absurd (let no : Some x ≡ None = none in cc)
not_many false x rest none = refl

numbers_within : (limits : Limits) (g : NamedGraph) (form : Form) (clients : List (List ℕ)) (bars at : ℕ)
    (raws : List (List ℕ)) →
    over_from limits g form clients bars at raws ≡ None → AllByRecursion (λ (l : ClientLine). l.line ≤ limits.lines)
    (lines_from g form clients at raws)
numbers_within limits g form clients bars at [] within = tt
numbers_within limits g form clients bars at (raw ∷ raws) within =
    let later = over_from limits g form (with_text clients (client_in raw)) (bars + bars_in g form raw) (at + 1) raws in
    let here = neither (line_over limits g form clients bars at raw) later within in
    let size = neither (line_over_size limits clients at raw)
    (over_bars limits at (bars + bars_in g form raw)) here.0 in
    let few = not_many (nat_lt limits.lines at) (over.Lines at)
    (if nat_lt limits.line_bytes (length raw) then Some (over.LineBytes at) else if nat_lt limits.clients
    (length (with_text clients (client_in raw))) then Some (over.Clients at) else None) size.0 in (
      ltb-false limits.lines at few,
      numbers_within limits g form (with_text clients (client_in raw))
          (bars + bars_in g form raw) (at + 1) raws here.1,
    )

-- ---- the script of an input

module _ (g : NamedGraph) (form : Form) (bytes : List ℕ) where
  abbrev held_by : ℕ → List Line
  held_by c = lines_by c (numbered_lines g form bytes)

  -- two entries that answer one line of the script have its client and command
  one_answer : (e f : Entry) → Answers (script_of g form bytes) e → Answers (script_of g form bytes) f →
      e.line ≡ f.line → line_of e ≡ line_of f
  one_answer e f (ls, had, has) (ks, also, holds) same =
      let x : Line = record { line = e.line; command = e.command } in
      let y : Line = record { line = f.line; command = f.command } in
      let one = subst (λ (l : List Line). Contains l x) (sym (lines_are g form bytes e.client ls had)) has in
      let two = subst (λ (l : List Line). Contains l y) (sym (lines_are g form bytes f.client ks also)) holds in
      let both = one_line e.client f.client 1 (numbered_lines g form bytes) x y
      (rises g form [] 1 (lines_of bytes)) one two same in
      let command : e.command ≡ f.command = ap (λ (l : Line). l.command) both.1 in
      λ i. record { client = both.0 i; line = same i; command = command i }

  all_answers : (h k : List Entry) → AllByRecursion (Answers (script_of g form bytes)) h → AllByRecursion
      (Answers (script_of g form bytes)) k →
      map (λ (e : Entry). e.line) h ≡ map (λ (e : Entry). e.line) k → map line_of h ≡ map line_of k
  all_answers [] [] one two same = refl
  all_answers [] (f ∷ k) one two same = absurd (let no : [] ≡ f.line ∷ map (λ (e : Entry). e.line) k = same in cc)
  all_answers (e ∷ h) [] one two same = absurd (let no : e.line ∷ map (λ (x : Entry). x.line) h ≡ [] = same in cc)
  all_answers (e ∷ h) (f ∷ k) one two same =
      let line = one_answer e f one.0 two.0 (heads e.line f.line (map (λ (x : Entry). x.line) h)
      (map (λ (x : Entry). x.line) k) same) in
      let rest = all_answers h k one.1 two.1 (tails e.line f.line (map (λ (x : Entry). x.line) h)
      (map (λ (x : Entry). x.line) k) same) in
      λ i. line i ∷ rest i

  -- at most one history plays an order
  pub one_play : (s : Setting) (order : List ℕ) (h k : List Entry) → Plays s (script_of g form bytes) order h →
      Plays s (script_of g form bytes) order k → h ≡ k
  one_play s order h k one two =
      legal_once s first_state h k
      (all_answers h k (recursion_from_All (Answers (script_of g form bytes)) h one.answers)
      (recursion_from_All (Answers (script_of g form bytes)) k two.answers)
      (one.lines ∙ sym two.lines)) one.legal two.legal

  abbrev IsKnown : ℕ → Type 0
  IsKnown n = (c : ℕ) × (ls : List Line) × HasLines (script_of g form bytes) c ls × Contains
      (map (λ (l : Line). l.line) ls) n

  -- with no client there is no line
  no_order : (order : List ℕ) → AllByRecursion IsKnown order → length (clients_of bytes) ≡ 0 → order ≡ []
  no_order [] known none = refl
  no_order (n ∷ order) ((c, ls, had, has), known) none = absurd
      (let lt = is_client g form bytes c ls had in omega (arith, lt, none))

  no_lines : (ls : List ClientLine) → AllByRecursion (λ l. l.client < length (clients_of bytes)) ls → length
      (clients_of bytes) ≡ 0 → ls ≡ []
  no_lines [] few none = refl
  no_lines (l ∷ ls) few none = absurd (let lt = few.0 in omega (arith, lt, none))

  -- with one client each number is one of its lines
  of_first : (order : List ℕ) → AllByRecursion IsKnown order → length (clients_of bytes) ≤ 1 → AllByRecursion
      (λ n. has_number (held_by 0) n ≡ true) order
  of_first [] known few = tt
  of_first (n ∷ order) ((c, ls, had, has), known) few =
      let lt = is_client g form bytes c ls had in
      let first : c ≡ 0 = omega (arith, lt, few) in
      let own : ls ≡ held_by 0 = sym (lines_are g form bytes c ls had) ∙ ap held_by first in (
        has_it (held_by 0) n (subst (λ (l : List Line). Contains
            (map (λ (x : Line). x.line) l) n) own has),
        of_first order known few,
      )

  below_one : (ls : List ClientLine) → AllByRecursion (λ l. l.client < length (clients_of bytes)) ls → length
      (clients_of bytes) ≤ 1 → AllByRecursion (λ (l : ClientLine). l.client < 1) ls
  below_one [] few one = tt
  below_one (l ∷ ls) few one = (omega (arith, few.0), below_one ls few.1 one)

  -- with one client the order is that of the input
  pub one_client : (order : List ℕ) → Interleaves (script_of g form bytes) order → length (clients_of bytes) ≤ 1 →
      order ≡ input_order g form bytes
  one_client order interleaves one = by (length (clients_of bytes)) refl
    where
      by : (n : ℕ) → length (clients_of bytes) ≡ n → order ≡ input_order g form bytes
      by zero none = no_order order (recursion_from_All IsKnown order interleaves.known) none ∙ sym
          (ap (map (λ (l : ClientLine). l.line)) (no_lines (numbered_lines g form bytes)
          (few_clients g form bytes) none))
      by (suc n) some =
          sym (all_kept (has_number (held_by 0)) order (of_first order
          (recursion_from_All IsKnown order interleaves.known) one))
          ∙ (interleaves.each 0 (held_by 0) (has_lines g form bytes 0 (omega arith))
          ∙ all_of_one (numbered_lines g form bytes) (below_one (numbered_lines g form bytes)
          (few_clients g form bytes) one))

  -- ---- numbers within the limit

  known_small : (most : ℕ) → AllByRecursion (λ (l : ClientLine). l.line ≤ most) (numbered_lines g form bytes) →
      (n : ℕ) → IsKnown n → n ≤ most
  known_small most small n (c, ls, had, has) =
      let own : ls ≡ held_by c = sym (lines_are g form bytes c ls had) in
      let held : AllByRecursion (λ (n : ℕ). n ≤ most) (map (λ (l : Line). l.line) (held_by c)) =
      all_mapped (λ (n : ℕ). n ≤ most) (λ (l : Line). l.line) (held_by c)
      (all_mapped (λ (l : Line). l.line ≤ most) line_held (filter (λ l. l.client == c) (numbered_lines g form bytes))
      (all_filter (λ (l : ClientLine). l.line ≤ most) (λ l. l.client == c) (numbered_lines g form bytes) small)) in
      all_contained (λ (n : ℕ). n ≤ most) (map (λ (l : Line). l.line) (held_by c)) n held
      (subst (λ (l : List Line). Contains (map (λ (x : Line). x.line) l) n) own has)

  numbers_small : (most : ℕ) → AllByRecursion (λ (l : ClientLine). l.line ≤ most) (numbered_lines g form bytes) →
      (history : List Entry) →
      AllByRecursion IsKnown (map (λ (e : Entry). e.line) history) → AllByRecursion
      (λ (e : Entry). e.line ≤ most) history
  numbers_small most small [] known = tt
  numbers_small most small (e ∷ history) known =
      (known_small most small e.line known.0, numbers_small most small history known.1)

  -- where no line is past a limit, the lines that are answered have numbers within it
  pub answered_small : (limits : Limits) (history : List Entry) → over_in limits g form bytes ≡ None → Interleaves
      (script_of g form bytes) (map (λ (e : Entry). e.line) history) →
      AllByRecursion (λ (e : Entry). e.line ≤ limits.lines) history
  answered_small limits history within interleaves =
      numbers_small limits.lines (numbers_within limits g form [] 0 1 (lines_of bytes) within) history
      (recursion_from_All IsKnown (map (λ (e : Entry). e.line) history) interleaves.known)
