use Rattle.std.proofs.Common.{◌∙◌, ap, sym}
use Rattle.json.proofs.Trees.{view-Object}
use Rattle.json.specs.Find.{get}
use Rattle.json_whole.proofs.Looks.{looked_up}
use Rattle.json_whole.proofs.looking.get.Goals as goal

pub returns-in-Object : goal.returns-in-Object
returns-in-Object c =
    looked_up c.args.key.now c.args.value.now c.last_at.result
    (rw c.in-Object.is (c.last_at.ensures ∙ sym (ap (get c.args.key.now) (view-Object c.in-Object.members))))
