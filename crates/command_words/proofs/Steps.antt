-- clap's walk, a word at a time.
use Rattle.std.proofs.Common.{◌≡◌, ◌⊎◌, ℕ, List, [], ◌∷◌, ◌++◌, Bool, true, false, ◌||◌, if◌then◌else◌, Option}
use Rattle.std.proofs.Common.{Some, None, codes, bytes_eq, refl, sym, ap, ap₂, ◌∙◌, subst, ⊎_elim, arith, true≢false}
use Rattle.std.proofs.lemmas.Slice.Eq.{bytes_eq-Decides}
use Rattle.std.proofs.Math.Bool.{or-false, or-true, and-false}
use Rattle.clap.specs.Lexer.{long_of, short_of}
use Rattle.clap.specs.Walk.{Rule, Row, Held, Walk, Waiting, idle, option, most_values, takes_values, takes_several}
use Rattle.clap.specs.Walk.{is_multiple, arg_by_id, arg_by_long, arg_by_index, settled, settled_rows, walked}
use Rattle.clap.specs.Simple.{Shape}
use Rattle.clap.specs.Takes.{settle_passes, turn_passes}
use Rattle.clap.specs.declared.builder.value_parser.Reading.{Reading}
use Rattle.command_words.specs.Givens.{Word, Given, Next, anything, value_for, only_names, graph, has}
use Rattle.command_words.proofs.Options.{is_option}
use Rattle.command_words.proofs.Rows.{Single, rows, used_single, use_single}

pub data Pend : Type 0 where
  none : Pend
  full : Given → Pend
  open_at : Word → Pend

abbrev pub IsName : Word → Type 0
IsName name = (is_option name ≡ true) ⊎ (name ≡ graph)

abbrev pub all : List Given → Pend → List Given
all done none = done
all done (full u) = done ++ u ∷ []
all done (open_at name) = done

abbrev pub pending_of : Pend → Option (Word × List Word)
pending_of none = None
pending_of (full u) = Some (u.0, u.1 ∷ [])
pending_of (open_at name) = Some (name, [])

abbrev pub PendOk : List Given → Pend → Type 0
PendOk done none = Unit {0}
PendOk done (full u) = IsName u.0 × (has u.0 done ≡ false)
PendOk done (open_at name) = ⊥

abbrev pub waiting_in : Next → Waiting
waiting_in anything = idle
waiting_in (value_for name) = option name
waiting_in only_names = idle

abbrev pub trails : Next → Bool
trails anything = false
trails (value_for name) = false
trails only_names = true

abbrev pub position_of : List Given → ℕ
position_of us = if has graph us then 2 else 1

-- the command's options and operand, as the walk finds them
pub record Serves (how : Reading) (S : Shape) : Type 0 where
  pub option_rule : Word → Rule
  pub single : (name : Word) → is_option name ≡ true → Single how (option_rule name) name
  pub by_long : (name : Word) → is_option name ≡ true → arg_by_long S.rules name ≡ Some (option_rule name)
  pub by_id : (name : Word) → is_option name ≡ true → arg_by_id S.rules name ≡ Some (option_rule name)
  pub graph_rule : Rule
  pub graph_single : Single how graph_rule graph
  pub graph_by_id : arg_by_id S.rules graph ≡ Some graph_rule
  pub graph_by_index : arg_by_index S.rules 1 ≡ Some graph_rule
  pub once : S.args_override_self ≡ false

pub most : {how : Reading} {a : Rule} {name : Word} → Single how a name → most_values a ≡ 1
most s = ap (λ r. r.end_inclusive) s.range

pub takes : {how : Reading} {a : Rule} {name : Word} → Single how a name → takes_values a ≡ true
takes s = rw (most s) refl

pub not_several : {how : Reading} {a : Rule} {name : Word} → Single how a name → takes_several a ≡ false
not_several s = rw (s.range, most s) refl

pub not_multiple : {how : Reading} {a : Rule} {name : Word} → Single how a name → is_multiple a ≡ false
not_multiple s = rw (not_several s, s.set) refl

module _ (how : Reading) (S : Shape) (k : Serves how S) where
  abbrev pub held : List Given → Pend → Held
  held done p = record { rows = rows how done; pending = pending_of p; skip = 0 }

  abbrev pub state : Next → List Given → Pend → Walk
  state m done p = record {
    held = held done p;
    waiting = waiting_in m;
    position = position_of
        (all done p);
    is_trailing = trails m;
    stopped = None;
  }

  named : (name : Word) → IsName name → (a : Rule) × Single how a name × (arg_by_id S.rules name ≡ Some a)
  named name n = ⊎_elim (λ o. (k.option_rule name, k.single name o, k.by_id name o))
      (λ e. (
        k.graph_rule,
        subst (Single how k.graph_rule) (sym e) k.graph_single,
        ap (arg_by_id S.rules) e
            ∙ k.graph_by_id,
      )) n

  pub settles : (done : List Given) (p : Pend) → PendOk done p → settled S.rules (held done p) ≡ held (all done p) none
  settles done none ok = refl
  settles done (full u) ok = let a = named u.0 ok.0 in rw a.2
      (ap (λ l. record { rows = l; pending = None; skip = 0 }) (used_single how a.0 u.0 u.1 done a.1 ok.1))
  settles done (open_at name) ok = absurd ok

  pub settle_ok : (done : List Given) (p : Pend) → PendOk done p → settle_passes S.rules false (held done p) ≡ true
  settle_ok done none ok = refl
  settle_ok done (full u) ok = let a = named u.0 ok.0 in rw a.2 (use_single how a.0 u.0 u.1 done a.1 ok.1)
  settle_ok done (open_at name) ok = absurd ok

  -- `--`
  pub dashes : (done : List Given) (p : Pend) → PendOk done p
      → (turn_passes S [] (state anything done p) (45 ∷ 45 ∷ []) ≡ true)
      × (walked S.rules [] (state anything done p) (45 ∷ 45 ∷ []) ≡ state only_names done p)
  unfolding walked
  dashes done p ok = (refl, refl)

  abbrev pub Goes : Walk → Word → Walk → Type 0
  Goes W w W' = (turn_passes S [] W w ≡ true) × (walked S.rules [] W w ≡ W')

  has_append : (id : Word) (us : List Given) (u : Given) → has id (us ++ u ∷ []) ≡ (has id us || bytes_eq u.0 id)
  has_append id [] u = or-false (bytes_eq u.0 id)
  has_append id (v ∷ us) u = grind (arith, has_append id us u)

  rows_settle : (done : List Given) (p : Pend) → PendOk done p → settled_rows S.rules (pending_of p)
      (rows how done) ≡ rows how (all done p)
  rows_settle done p ok = ap (λ (h : Held). h.rows) (settles done p ok)

  at_two : (us : List Given) (w : Word) → position_of (us ++ (graph, w) ∷ []) ≡ 2
  at_two us w = rw (has_append graph us (graph, w)) (rw or-true refl)

  abbrev walk_at : List Row → Option (Word × List Word) → Waiting → ℕ → Bool → Walk
  walk_at l pending waiting n trailing = record {
    held = record { rows = l; pending = pending; skip = 0 };
    waiting = waiting;
    position = n;
    is_trailing = trailing;
    stopped = None;
  }

  -- a word that is no flag goes to the operand
  pub operand : (done : List Given) (p : Pend) (w : Word) → PendOk done p → has graph (all done p) ≡ false →
      bytes_eq w (45 ∷ 45 ∷ []) ≡ false → long_of w ≡ None → short_of w ≡ None
      → Goes (state anything done p) w (state anything (all done p) (full (graph, w)))
  unfolding walked
  operand done p w ok new dash long short =
      let first : position_of (all done p) ≡ 1 = rw new refl in
      let a = k.graph_single in (
        rw (dash, long, short, first, k.graph_by_index, k.once, settle_ok done p ok) (or-true _),
        rw (dash, long, short, first, k.graph_by_index, not_several a, a.set, a.no_last, a.id, and-false)
            (ap₂ (λ l n. walk_at l (Some (graph, w ∷ [])) idle n false) (rows_settle done p ok)
            (sym (at_two (all done p) w))),
      )

  -- so does each word after `--`
  pub trailing : (done : List Given) (p : Pend) (w : Word) → PendOk done p → has graph (all done p) ≡ false
      → Goes (state only_names done p) w (state only_names (all done p) (full (graph, w)))
  unfolding walked
  trailing done p w ok new =
      let first : position_of (all done p) ≡ 1 = rw new refl in
      let a = k.graph_single in (
        rw (first, k.graph_by_index, k.once, settle_ok done p ok) (or-true _),
        rw (first, k.graph_by_index, not_several a, a.set, a.id, and-false)
            (ap₂ (λ l n. walk_at l (Some (graph, w ∷ [])) idle n true) (rows_settle done p ok)
            (sym (at_two (all done p) w))),
      )

  not_graph_by : (name : Word) (b c d : Bool) → bytes_eq name (codes "horizon") ≡ b → bytes_eq name (codes "filters")
      ≡ c → bytes_eq name (codes "jobspec") ≡ d → (b || (c || d)) ≡ true → bytes_eq name graph ≡ false
  not_graph_by name true c d e f g h = rw ((bytes_eq-Decides name (codes "horizon")).0 e) refl
  not_graph_by name false true d e f g h = rw ((bytes_eq-Decides name (codes "filters")).0 f) refl
  not_graph_by name false false true e f g h = rw ((bytes_eq-Decides name (codes "jobspec")).0 g) refl
  not_graph_by name false false false e f g h = absurd (true≢false (sym h))

  not_graph : (name : Word) → is_option name ≡ true → bytes_eq name graph ≡ false
  not_graph name o = not_graph_by name _ _ _ refl refl refl o

  same_place : (us : List Given) (name v : Word) → is_option name ≡ true → position_of
      (us ++ (name, v) ∷ []) ≡ position_of us
  same_place us name v o = rw (has_append graph us (name, v), not_graph name o) (rw or-false refl)

  -- `--name=value`
  pub attached : (done : List Given) (p : Pend) (w name v : Word) → PendOk done p → has name (all done p) ≡ false →
      is_option name ≡ true → bytes_eq w (45 ∷ 45 ∷ []) ≡ false → long_of w ≡ Some (name, Some v)
      → Goes (state anything done p) w (state anything (all done p ++ (name, v) ∷ []) none)
  unfolding walked
  attached done p w name v ok new o dash long =
      let s = k.single name o in (
        rw (dash, long, k.by_long name o, takes s, k.once, settle_ok done p ok, rows_settle done p ok)
            (rw (use_single how (k.option_rule name) name v (all done p) s new) refl),
        rw (
          dash,
          long,
          k.by_long name o,
          takes s,
          rows_settle done p ok,
          used_single how (k.option_rule name) name v
              (all done p) s new,
        )
            (ap (λ n. walk_at (rows how (all done p ++ (name, v) ∷ [])) None idle n false)
            (sym (same_place (all done p) name v o))),
      )

  -- `--name`
  pub opened : (done : List Given) (p : Pend) (w name : Word) → PendOk done p → is_option name ≡ true → bytes_eq w
      (45 ∷ 45 ∷ []) ≡ false → long_of w ≡ Some (name, None)
      → Goes (state anything done p) w (state (value_for name) (all done p) (open_at name))
  unfolding walked
  opened done p w name ok o dash long =
      let s = k.single name o in (
        rw (dash, long, k.by_long name o, takes s, k.once, settle_ok done p ok) refl,
        rw (dash, long, k.by_long name o, takes s, rows_settle done p ok, s.id) refl,
      )

  -- its value
  pub given : (done : List Given) (w name : Word) → is_option name ≡ true → bytes_eq w (45 ∷ 45 ∷ []) ≡ false →
      long_of w ≡ None → short_of w ≡ None
      → Goes (state (value_for name) done (open_at name)) w (state anything done (full (name, w)))
  unfolding walked
  given done w name o dash long short =
      let s = k.single name o in (
        rw (dash, long, short) refl,
        rw (dash, long, short, k.by_id name o, s.id, most s, (bytes_eq-Decides name name).1 refl)
            (ap (λ n. walk_at (rows how done) (Some (name, w ∷ [])) idle n false) (sym (same_place done name w o))),
      )
