use Rattle.std.proofs.Common.{◌≡◌, ℕ, ◌+◌, ◌<◌, ◌∷◌, List, length, drop, get_or, refl, sym, ap, ◌∙◌, subst, arith}
use Rattle.std.specs.Prelude.{Contains}
use Rattle.std.proofs.lemmas.List.{drop_more, drop_all}
use Rattle.idset_text.specs.declared.hostlists.Hosts.{Hosts}
use Rattle.idset_text.specs.Hostlists.{names_of}
use Rattle.idset_text.proofs.HostLemmas.{has_at, has_behind}
use Rattle.idset_text.proofs.hostlists.has_host.Goals as goal

pub returns-then-contains : goal.returns-then-contains
returns-then-contains c =
    let P : List Hosts → Type 0 = λ hosts. Contains (names_of hosts) c.args.name.now in (
      λ h. subst P c.items-item-items.ensures (has_at c.items-item-items.result.now c.hosts.item-index
          c.item-item.result c.args.name.now (omega arith) c.item-item.is (c.if-contains.ensures.0 refl)),
      λ h. refl,
    )

pub hosts-preserved : goal.hosts-preserved
hosts-preserved c = λ has.
    let hosts = c.items-item-items.result.now in
    let i = c.hosts.item-index in
    let host = c.item-item.result in
    let P : List Hosts → Type 0 = λ rest. Contains (names_of rest) c.args.name.now in
    has_behind host (drop (i + 1) hosts) c.args.name.now (λ here. let h = c.if-contains.ensures.1 here in absurd cc)
    (subst P (drop_read hosts i host (omega arith) c.item-item.is) (c.hosts.invariant has))
  where
    drop_read : (hosts : List Hosts) (i : ℕ) (host : Hosts) →
        i < length hosts → host ≡ get_or hosts i host → drop i hosts ≡ host ∷ drop (i + 1) hosts
    drop_read hosts i host lt is = drop_more hosts i host lt ∙ ap (λ (h : Hosts). h ∷ drop (i + 1) hosts) (sym is)

pub returns : goal.returns
returns c =
    let hosts = c.items-item-items.result.now in
    let P : List Hosts → Type 0 = λ rest. Contains (names_of rest) c.args.name.now in (
      λ h. absurd cc,
      λ has.
          let left : Contains (names_of (drop c.hosts.item-index hosts)) c.args.name.now =
          c.hosts.invariant (subst P (sym c.items-item-items.ensures) has) in
          let none = subst P (drop_all c.hosts.item-index hosts (omega arith)) left in
          absurd (omega (arith, none.1)),
    )
