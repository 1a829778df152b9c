-- What serving a session does.
use Rattle.std.specs.Prelude.{◌≡◌, ℕ, ◌+◌, ◌≤◌, ◌<◌, ◌↔◌, false, IsTrue, List, [], ◌∷◌, ◌++◌, All, length, map, take}
use Rattle.std.specs.Prelude.{drop, Option, Some}
use mathlib.Core.List.{IsPrefix}
use Rattle.flux_defs.specs.declared.journal.ClientLine.{ClientLine}
use Rattle.flux_defs.specs.declared.journal.Command.{Command}
use Rattle.flux_defs.specs.declared.journal.Command.TheVariants as command
use Rattle.flux_defs.specs.declared.journal.Entry.{Entry}
use Rattle.flux_defs.specs.declared.journal.Line.{Line}
use Rattle.flux_defs.specs.Placed.{line_at}
use Rattle.flux_defs.specs.Scripts.{client_line}
use Rattle.match_workers.specs.declared.sessions.Session.{Session}

-- what stays where a line was taken out: its number, and an invalid command without a text
abbrev pub taken_from : Line → Line
taken_from l = record { line = l.line; command = command.Invalid [] }

-- the positions rise, none is below a, and all are below b
abbrev pub RiseWithin : ℕ → List ℕ → ℕ → Type 0
RiseWithin a [] b = a ≤ b
RiseWithin a (p ∷ ps) b = (a ≤ p) × RiseWithin (p + 1) ps b

-- some line of the client
abbrev pub some_line : ℕ → Line → Option ClientLine
some_line client l = Some (client_line client l)

-- Between two looks at a history a client gained these positions: behind all that was seen at first, in rising order,
-- and the k-th of them has the entry that answers the k-th of the lines.
pub record Gains (client : ℕ)
    (lines : List Line) (seen : List Entry) (mine : List ℕ) (seen' : List Entry) (mine' : List ℕ)
    : Type 0 where
  pub later : IsPrefix seen seen'
  pub gained : List ℕ
  pub mine-is : mine' ≡ mine ++ gained
  pub rising : RiseWithin (length seen) gained (length seen')
  pub answers : map (line_at seen') gained ≡ map (some_line client) lines

module _ {D T : Type 0} where
  -- the desk takes the session's seat and its lines' commands, and the session has done nothing yet
  pub record CanBegin
      (takes : D → T → Type 0) (accepts : D → Command → Type 0) (desk : D) (s : Session T) : Type 0 where
    pub seat : takes desk s.seat
    pub commands : All (λ l. accepts desk l.command) s.lines
    pub done : s.done ≡ 0
    pub going : s.stopped ≡ false

  -- The session placed the first `done` of its lines, as they were at first, each once and in order: all of them unless
  -- it stopped. The others have their commands still. Its seat is still taken, with its share.
  pub record IsServed (takes : D → T → Type 0) (seen : T → List Entry) (mine : T → List ℕ) (share : T → ℕ) (desk : D)
      (s s' : Session T) : Type 0 where
    pub seat : takes desk s'.seat
    pub part : share s'.seat ≡ share s.seat
    pub client : s'.client ≡ s.client
    pub done : s'.done ≤ length s.lines
    pub stopped : IsTrue s'.stopped ↔ (s'.done < length s.lines)
    pub lines : s'.lines ≡ map taken_from (take s'.done s.lines) ++ drop s'.done s.lines
    pub gains : Gains s.client (take s'.done s.lines) (seen s.seat) (mine s.seat) (seen s'.seat) (mine s'.seat)
