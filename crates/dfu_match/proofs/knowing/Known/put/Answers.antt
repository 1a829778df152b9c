use Rattle.std.proofs.Common.{◌<◌, length, inr, refl, ◌∙◌, arith}
use Rattle.std.proofs.lemmas.Option.{slice_get_read}
use Rattle.dfu_match.proofs.LeftLaws.{lefts_set, set_read, set_same}
use Rattle.dfu_match.proofs.knowing.Known.put.Goals as goal

pub returns-then-self-own-clause-place : goal.returns-then-self-own-clause-place
returns-then-self-own-clause-place c = set_same c.args.self.now.rows.items c.args.at

pub returns-then-index-row-clause-place : goal.returns-then-index-row-clause-place
returns-then-index-row-clause-place c = set_same c.args.self.now.rows.items c.args.at

pub returns-clause-put : goal.returns-clause-put
returns-clause-put c =
    let old = c.args.self.now in
    let new = c.forget.new.self in
    let told = c.forget.ensures in
    let within : c.args.at < length old.rows.items = omega arith in (
      lefts_set old.rows.items new.rows.items old.blocks.items new.blocks.items c.args.at c.args.row told.rows
          told.blocks told.length,
      inr (
        c.args.at,
        c.index.result.now,
        slice_get_read old.rows.items (length old.rows.items) c.args.at c.index.result.now refl within c.index.ensures,
        c.if-index-row.false,
        told.rows,
        told.end,
        c.if-self-own.false,
      ),
    )

pub returns-clause-place : goal.returns-clause-place
returns-clause-place c =
    λ row at. c.forget.ensures.rows
    ∙ set_read c.args.self.now.rows.items c.args.at c.args.row row (rw c.forget.ensures.rows at at)
