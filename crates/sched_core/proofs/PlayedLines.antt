-- The lines of one client, played one after another.
use Rattle.std.proofs.Common.{ℕ, List, [], ◌∷◌, ◌++◌, map, sym, ◌∙◌, ap, append_assoc}
use Rattle.std.proofs.lemmas.List.{map-append}
use Rattle.flux_defs.specs.declared.vertices.Vertex.{Vertex}
use Rattle.flux_defs.specs.declared.journal.Entry.{Entry}
use Rattle.flux_defs.specs.declared.journal.Line.{Line}
use Rattle.flux_defs.specs.Scheduler.{IsProper}
use Rattle.sched_core.specs.Courses.{Course}
use Rattle.sched_core.specs.Answered.{IsDecided}
use Rattle.flux_defs.specs.Scripts.{line_of, client_line}
use Rattle.sched_core.specs.Played.{AreProper, IsPlayed}

pub proper_at : (vertices : List Vertex) (client : ℕ) (front rest : List Line) (l : Line) →
    AreProper vertices (map (client_line client) (front ++ l ∷ rest)) → IsProper vertices l.command
proper_at vertices client [] rest l all = all.0
proper_at vertices client (x ∷ front) rest l all = proper_at vertices client front rest l all.1

pub played_snoc : (old mid new : Course) (client : ℕ) (front : List Line) (l : Line) →
    IsPlayed old mid (map (client_line client) front) → IsDecided mid new client l.line l.command →
    IsPlayed old new (map (client_line client) (front ++ l ∷ []))
played_snoc old mid new client front l played decided =
    let e : Entry = record { client = client; line = l.line; command = l.command; reply = decided.answer } in
    record {
      setting = decided.setting ∙ played.setting;
      history = played.history ++ e ∷ [];
      journal = decided.journal
          ∙ ap (λ j. j ++ e ∷ []) played.journal ∙ append_assoc old.journal played.history (e ∷ []);
      lines-are = map-append line_of played.history (e ∷ [])
          ∙ (ap (λ ls. ls ++ line_of e ∷ []) played.lines-are ∙ sym (map-append (client_line client) front (l ∷ [])));
    }
