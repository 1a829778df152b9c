use Rattle.std.proofs.Common.{◌≡◌, ◌<◌, ◌∷◌, ◌++◌, drop}
use Rattle.idset_text.specs.Idsets.{with_run, runs_of, runs_text, idset_text}
use Rattle.idset_text.proofs.idsets.text_from.Given as goal

-- the text so far, and that of the run with the ids that are left
abbrev pub invariant-ids : goal.invariant-ids
invariant-ids l = record {
  text : l.text.items ++ runs_text (with_run (record { lo = l.lo; hi = l.hi }) (runs_of (drop l.id-index l.others)))
      ≡ idset_text (l.first ∷ l.others);
  small : l.hi < 4294967296;
}
