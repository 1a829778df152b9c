use Rattle.std.proofs.Common.{ℕ, List, rules, sym, ap}
use Rattle.vertex_marks.specs.Down.{has_shut}
use Rattle.vertex_marks.proofs.MarkLaws.{within_read, none_marked}
use Rattle.vertex_marks.proofs.marks.Marks.has_shut.Goals as goal

pub returns-in-Some-clause-value : goal.returns-in-Some-clause-value
returns-in-Some-clause-value g c = λ vertices down are lt.
    within_read vertices down c.args.self.now are c.args.vertex c.in-Some.mark.now (search rules)

pub returns-in-None-clause-value : goal.returns-in-None-clause-value
returns-in-None-clause-value g c = λ vertices down are lt.
    sym (ap (λ (l : List ℕ). has_shut vertices l c.args.vertex)
    (none_marked vertices down c.args.self.now are c.args.vertex lt (search rules)))
