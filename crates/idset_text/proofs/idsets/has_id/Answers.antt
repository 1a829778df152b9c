use Rattle.std.proofs.Common.{◌≡◌, sym, ap, ◌∙◌}
use Rattle.std.specs.List.{list_any}
use Rattle.idset_text.specs.Idsets.{is_within}
use Rattle.idset_text.proofs.IdsetLemmas.{has_when_within, within_when_has}
use Rattle.idset_text.proofs.idsets.has_id.Goals as goal

pub returns : goal.returns
returns c =
    let is : c.any_contains.result ≡ list_any (λ range. is_within range c.args.id) c.args.ranges.now =
    c.any_contains.ensures ∙ ap (list_any (λ range. is_within range c.args.id)) c.items.ensures in (
      λ h. has_when_within c.args.ranges.now c.args.id (sym is ∙ h),
      λ h. is
          ∙ within_when_has c.args.ranges.now c.args.id h,
    )
