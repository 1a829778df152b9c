use Rattle.std.proofs.Common.{inl, inr}
use Rattle.std.specs.Prelude.{codes}
use Rattle.std.proofs.lemmas.Bool.{both_ways}
use Rattle.graph_build.proofs.OwnLaws.{type_test}
use Rattle.graph_build.proofs.own.is_device_at.Goals as goal

pub returns : goal.returns
returns c =
    let core = type_test c.args.kinds.now c.args.vertices.now c.args.v (codes "core") c.is_called.result c.requires
    c.is_called.ensures in
    let gpu = type_test c.args.kinds.now c.args.vertices.now c.args.v (codes "gpu") c.is_called-2.result c.requires
    c.is_called-2.ensures in (
      (λ h. inr (gpu.0 h)),
      (λ d. elim d [ inl is ↦ absurd (both_ways _ c.if-is_called.false (core.1 is)) | inr is ↦ gpu.1 is ]),
    )
