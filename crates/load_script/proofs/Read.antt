-- How the input of a load is read: its lines are those of its commands, all of one client, and none is past a limit.
use Rattle.std.proofs.Common.{◌≡◌, ℕ, zero, suc, ◌+◌, ◌-◌, ◌*◌, ◌<◌, ◌≤◌, ◌==◌, nat_lt, cond, false, List, [], ◌∷◌}
use Rattle.std.proofs.Common.{◌++◌, map, take, length, get_or, codes, Some, None, ◌⊎◌, inl, inr, refl, sym, ◌∙◌, ap}
use Rattle.std.proofs.Common.{subst, arith, append_assoc, if◌then◌else◌, lit≤}
use Rattle.std.specs.List.{AllByRecursion, concat, range_with_len}
use Rattle.std.specs.Option.{option_or}
use Rattle.std.proofs.lemmas.Bool.Decides.{eqb_tells}
use Rattle.std.proofs.Math.Nat.{mul-suc, mul-le-mul}
use Rattle.std.proofs.lemmas.List.{length-map}
use Rattle.std.proofs.lemmas.List.FromFn.{length-range_with_len}
use Rattle.std.proofs.lemmas.Bool.{le-ltb}
use Rattle.flux_defs.specs.declared.limits.TheConstants.{MOST_VERTICES}
use Rattle.list_laws.proofs.Lists.{all_along}
use Rattle.text_forms.specs.Cuts.{Lacks}
use Rattle.text_table.specs.Tables.{with_text, with_texts}
use Rattle.flux_defs.specs.declared.limits.Limits.{Limits}
use Rattle.resource_graph.specs.NamedGraph.{NamedGraph}
use Rattle.fluxion_lines.specs.Lines.{lines_of, read_of}
use Rattle.fluxion_lines.specs.declared.commands.Form.TheVariants.{Rfc14}
use Rattle.fluxion_lines.specs.declared.input.Over.TheVariants as over
use Rattle.fluxion_lines.specs.Commands.{client_of}
use Rattle.fluxion_lines.proofs.BarLaws.{bars_within}
use Rattle.load_script.specs.declared.lines.TheConstants.{LOAD_LIMITS, MOST_COMMANDS}
use Rattle.fluxion_lines.specs.Inputs.{client_in, clients_of, over_size, line_over_size, bars_in, over_bars, over_from}
use Rattle.fluxion_lines.specs.Inputs.{over_in}
use Rattle.fluxion_lines.proofs.LineLaws.{ended}
use Rattle.load_script.specs.Lines.{command_text, load_line, load_text}
use Rattle.load_script.specs.Draws.{row_of, extent_of, second_at}
use Rattle.load_script.proofs.Fine.{Plain, fine_line}

-- ---- lines

lacks_feed : (text : List ℕ) → AllByRecursion Plain text → Lacks 10 text
lacks_feed text plain = all_along Plain (λ b. b ≡ 10 → ⊥) (λ b p. p.0) text plain

-- texts without a line feed are the lines of what ends each by one
lines_are : (f : ℕ → List ℕ) (ks : List ℕ) → AllByRecursion (λ k. Lacks 10 (f k)) ks →
    lines_of (concat (map (λ k. f k ++ codes "\n") ks)) ≡ map f ks
lines_are f [] none = refl
lines_are f (k ∷ ks) none =
    let rest = concat (map (λ j. f j ++ codes "\n") ks) in
    ap lines_of (append_assoc (f k) (codes "\n") rest) ∙ (ended (f k) rest none.0
    ∙ ap (λ ls. f k ∷ ls) (lines_are f ks none.1))

-- what holds of each number holds of a range of them
over_range : (P : ℕ → Type 0) (a n : ℕ) → ((k : ℕ) → a ≤ k → k < a + n → P k) → AllByRecursion P (range_with_len a n)
over_range P a zero each = tt
over_range P a (suc n) each = (
  each a (omega arith) (omega arith),
  over_range P (a + 1) n (λ k le lt. each k
      (omega arith) (omega arith)),
)

-- ---- clients

abbrev load_name : List ℕ
load_name = codes "load"

last_is : (P : ℕ → Type 0) (xs : List ℕ) (i : ℕ) → P 0 → AllByRecursion P xs → P (get_or xs i 0)
last_is P [] i none all = none
last_is P (x ∷ xs) zero none all = all.0
last_is P (x ∷ xs) (suc i) none all = last_is P xs i none all.1

differs : (a b : ℕ) → (a ≡ b → ⊥) → (a == b) ≡ false
differs a b ne = elim (eqb_tells a b) [ inl same ↦ absurd (ne same.1) | inr differ ↦ differ.0 ]

-- nothing is dropped from a plain line
read_whole : (text : List ℕ) → AllByRecursion Plain text → read_of text ≡ text
read_whole text plain =
    let last : (get_or text (length text - 1) 0 == 13) ≡ false =
    differs (get_or text (length text - 1) 0) 13
    (last_is (λ b. b ≡ 13 → ⊥) text (length text - 1) (λ e. omega arith) (all_along Plain (λ b. b ≡ 13 →
    ⊥) (λ b p. p.1) text plain)) in
    ap (λ b. cond b (take (length text - 1) text) text) last

named : (more : List ℕ) → client_of (codes "load " ++ more) ≡ load_name
named more = refl

begins : (commands k : ℕ) → client_of (load_line commands k) ≡ load_name
unfolding load_line
begins commands k = named (command_text k (row_of commands k) (extent_of commands k) (second_at commands k))

client_is : (commands k : ℕ) →
    commands ≤ MOST_COMMANDS → k ≤ MOST_COMMANDS → client_in (load_line commands k) ≡ load_name
client_is commands k few most = ap client_of (read_whole (load_line commands k)
    (fine_line commands k few most).plain) ∙ begins commands k

-- ---- what each line is like

record Good (raw : List ℕ) : Type 0 where
  client : client_in raw ≡ load_name
  short : length raw ≤ 1000

good_line : (commands k : ℕ) → commands ≤ MOST_COMMANDS → k ≤ MOST_COMMANDS → Good (load_line commands k)
good_line commands k few most = record {
  client = client_is commands k few most;
  short =
      (fine_line commands k few most).short;
}

good_lines : (f : ℕ → List ℕ) (ks : List ℕ) → AllByRecursion (λ k. Good (f k)) ks → AllByRecursion Good (map f ks)
good_lines f [] all = tt
good_lines f (k ∷ ks) all = (all.0, good_lines f ks all.1)

read_lines : (commands : ℕ) → commands ≤ MOST_COMMANDS →
    lines_of (load_text commands) ≡ map (load_line commands) (range_with_len 1 commands)
read_lines commands few = lines_are (load_line commands) (range_with_len 1 commands)
    (over_range (λ k. Lacks 10 (load_line commands k)) 1 commands
    (λ k low lt. lacks_feed (load_line commands k) (fine_line commands k few (omega arith)).plain))

all_good : (commands : ℕ) → commands ≤ MOST_COMMANDS →
    AllByRecursion Good (map (load_line commands) (range_with_len 1 commands))
all_good commands few = good_lines (load_line commands) (range_with_len 1 commands)
    (over_range (λ k. Good (load_line commands k)) 1 commands (λ k low lt. good_line commands k few (omega arith)))

many : (commands : ℕ) → length (map (load_line commands) (range_with_len 1 commands)) ≡ commands
many commands = length-map (range_with_len 1 commands) (load_line commands) ∙ length-range_with_len 1 commands

-- no client, or the load alone
abbrev Few : List (List ℕ) → Type 0
Few clients = (clients ≡ []) ⊎ (clients ≡ load_name ∷ [])

with_load : (clients : List (List ℕ)) (name : List ℕ) → Few clients → name ≡ load_name →
    with_text clients name ≡ load_name ∷ []
with_load clients name (inl none) is = λ i. with_text (none i) (is i)
with_load clients name (inr one) is = λ i. with_text (one i) (is i)

few_clients : (clients : List (List ℕ)) (raws : List (List ℕ)) → Few clients → AllByRecursion Good raws →
    Few (with_texts clients (map client_in raws))
few_clients clients [] few good = few
few_clients clients (raw ∷ raws) few good =
    few_clients (with_text clients (client_in raw)) raws (inr (with_load clients
    (client_in raw) few good.0.client)) good.1

one_at_most : (clients : List (List ℕ)) → Few clients → length clients ≤ 1
one_at_most clients (inl none) = let is : length clients ≡ 0 = ap length none in omega (arith, is)
one_at_most clients (inr one) = let is : length clients ≡ 1 = ap length one in omega (arith, is)

-- the input of a load is one client's
pub one_client : (commands : ℕ) → commands ≤ MOST_COMMANDS → length (clients_of (load_text commands)) ≤ 1
one_client commands few =
    subst (λ (raws : List (List ℕ)). length (with_texts [] (map client_in raws)) ≤ 1) (sym (read_lines commands few))
    (one_at_most _ (few_clients [] (map (load_line commands) (range_with_len 1 commands)) (inl refl)
    (all_good commands few)))

-- ---- limits

times_more : (m n : ℕ) → m * suc n ≡ m + m * n
times_more m n = let is = mul-suc m n in omega (arith, is)

module _ (g : NamedGraph) where
  size_none : (limits : Limits) (at bytes clients : ℕ) → at ≤ limits.lines → bytes ≤ limits.line_bytes →
      clients ≤ limits.clients →
      over_size limits at bytes clients ≡ None
  size_none limits at bytes clients few short ok =
      ap (λ b. if b then Some (over.Lines at) else if nat_lt limits.line_bytes bytes then Some (over.LineBytes at)
      else if nat_lt limits.clients clients then Some (over.Clients at) else None) (le-ltb limits.lines at few)
      ∙ (ap (λ b. if b then Some (over.LineBytes at) else if nat_lt limits.clients clients then Some
      (over.Clients at) else None)
      (le-ltb limits.line_bytes bytes short)
      ∙ ap (λ b. if b then Some (over.Clients at) else None) (le-ltb limits.clients clients ok))

  none_from : (limits : Limits) (clients : List (List ℕ)) (bars at : ℕ) (raws : List (List ℕ)) → Few clients →
      AllByRecursion Good raws →
      1000 ≤ limits.line_bytes → 1 ≤ limits.clients → at + length raws ≤ limits.lines + 1 →
      bars + length g.resources.vertices * length raws ≤ limits.barred →
      over_from limits g Rfc14 clients bars at raws ≡ None
  none_from limits clients bars at [] few good short some lines barred = refl
  none_from limits clients bars at (raw ∷ raws) few good short some lines barred =
      let next = with_load clients (client_in raw) few good.0.client in
      let one : length (with_text clients (client_in raw)) ≡ 1 = ap length next in
      let long = good.0.short in
      let own = bars_within g raw in
      let more : length g.resources.vertices * suc
      (length raws) ≡ length g.resources.vertices + length g.resources.vertices * length raws =
      times_more (length g.resources.vertices) (length raws) in
      let size : line_over_size limits clients at raw ≡ None =
      size_none limits at (length raw) (length (with_text clients (client_in raw))) (omega (arith, lines)) (omega
      (arith, long, short)) (omega (arith, one, some)) in
      let here : over_bars limits at (bars + bars_in g Rfc14 raw) ≡ None =
      ap (λ b. if b then Some (over.Barred at) else None) (le-ltb limits.barred (bars + bars_in g Rfc14 raw) (omega
      (arith, own, more, barred))) in
      let rest = none_from limits (with_text clients (client_in raw)) (bars + bars_in g Rfc14 raw) (at + 1) raws
      (inr next) good.1 short some
      (omega (arith, lines)) (omega (arith, own, more, barred)) in
      ap (λ o. option_or (option_or o (over_bars limits at (bars + bars_in g Rfc14 raw))) (over_from limits g Rfc14
      (with_text clients (client_in raw))
      (bars + bars_in g Rfc14 raw) (at + 1) raws)) size
      ∙ (ap (λ o. option_or o (over_from limits g Rfc14 (with_text clients (client_in raw))
      (bars + bars_in g Rfc14 raw) (at + 1) raws)) here ∙ rest)

-- no line of a load is past a limit
pub no_limit : (g : NamedGraph) (commands : ℕ) →
    length g.resources.vertices ≤ MOST_VERTICES → commands ≤ MOST_COMMANDS →
    over_in LOAD_LIMITS g Rfc14 (load_text commands) ≡ None
no_limit g commands few most =
    let long = many commands in
    let short : length (map (load_line commands) (range_with_len 1 commands)) ≤ MOST_COMMANDS =
    omega (arith, long, most) in
    let product : length g.resources.vertices * length (map (load_line commands)
    (range_with_len 1 commands)) ≤ MOST_VERTICES * MOST_COMMANDS =
    mul-le-mul few short in
    subst (λ (raws : List (List ℕ)). over_from LOAD_LIMITS g Rfc14 [] 0 1 raws ≡ None) (sym (read_lines commands most))
    (none_from g LOAD_LIMITS [] 0 1 (map (load_line commands) (range_with_len 1 commands)) (inl refl)
    (all_good commands most)
    (lit≤ tt) (lit≤ tt) (omega (arith, long)) (omega (arith, product)))
