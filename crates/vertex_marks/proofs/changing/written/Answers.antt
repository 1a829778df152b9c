use Rattle.vertex_marks.proofs.MarkLaws.{have_marked}
use Rattle.vertex_marks.proofs.changing.written.Goals as goal

pub returns-clause-have : goal.returns-clause-have
returns-clause-have g c = λ old may fair among.
    have_marked c.args.down c.args.vertex old among fair.once c.args.vertices.now
    c.in_ok-made.made c.shift.new.pages c.tell.new.pages c.requires.within (c.in_ok-made.ensures.kept old may)
    c.in_ok-shift.ensures.shifted c.in_ok-tell.ensures.told
