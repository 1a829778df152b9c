use Rattle.std.proofs.Common.{inl, inr, refl, ◌∙◌, ap, ◌++◌, ◌∷◌, []}
use Rattle.dfu_match.proofs.LeftLaws.{keeps_same, lefts_forgot, lefts_push}
use Rattle.dfu_match.proofs.knowing.Known.note.Goals as goal

pub returns-then-not-has_place-clause-noted : goal.returns-then-not-has_place-clause-noted
returns-then-not-has_place-clause-noted c =
    let old = c.args.self.now in
    let new = c.has_place.new.self in
    let told = c.has_place.ensures in
    inl (
      keeps_same old new told.rows (c.if-not-has_place.ensures.none refl),
      inl (told.rows, told.end),
    )

pub returns-in-Ok-clause-noted : goal.returns-in-Ok-clause-noted
returns-in-Ok-clause-noted c =
    let old = c.args.self.now in
    let new = c.has_place.new.self in
    let told = c.has_place.ensures in
    let rows = c.in-Ok.ensures.items ∙ ap (λ rs. rs ++ c.args.row ∷ []) told.rows in
    inr (
      lefts_push old.rows.items c.push.new.self.items old.blocks.items new.blocks.items c.args.row rows
          (c.if-not-has_place.ensures.blocks refl) (c.if-not-has_place.ensures.place refl),
      rows,
      c.if-self-from.false,
      refl,
      c.if-not-notes_of.ensures refl,
    )

pub returns-in-Err-clause-noted : goal.returns-in-Err-clause-noted
returns-in-Err-clause-noted c =
    let old = c.args.self.now in
    let new = c.has_place.new.self in
    let told = c.has_place.ensures in
    let rows = c.in-Err.ensures.items ∙ told.rows in
    inl (
      lefts_forgot old.rows.items c.push.new.self.items old.blocks.items new.blocks.items rows
          (c.if-not-has_place.ensures.blocks refl) (c.if-not-has_place.ensures.place refl),
      inl (rows, told.end),
    )
