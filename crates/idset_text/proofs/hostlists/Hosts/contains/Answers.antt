use Rattle.std.proofs.Common.{◌≡◌, List, ℕ, ◌++◌, sym, subst, ap, ◌∙◌}
use Rattle.std.specs.Prelude.{Contains}
use Rattle.std.proofs.lemmas.List.{append_cancel_left}
use Rattle.idset_text.specs.declared.hostlists.Hosts.{Hosts}
use Rattle.idset_text.specs.declared.hostlists.Hosts.TheVariants.{Many}
use Rattle.idset_text.specs.Hostlists.{own_names, IsOneOf}
use Rattle.idset_text.proofs.HostLemmas.{many_has, many_had}
use Rattle.idset_text.proofs.hostlists.Hosts.contains.Goals as goal

pub returns-in-Some : goal.returns-in-Some
returns-in-Some c =
    let name = c.args.name.now in
    let digits = c.in-Some.digits.now in
    let many = Many c.in-Many.prefix c.in-Many.lo c.in-Many.hi c.in-Many.width in
    let P : Hosts → Type 0 = λ hosts. Contains (own_names hosts) name in
    let D : List ℕ → Type 0 = λ ds. IsOneOf c.in-Many.lo c.in-Many.hi c.in-Many.width ds in
    let parts : name ≡ c.in-Many.prefix ++ digits =
    c.in-Some.ensures ∙ ap (λ (p : List ℕ). p ++ digits) c.bytes-in-Many.ensures in (
      λ h. subst P (sym c.in-Many.is) (many_has c.in-Many.prefix
          digits name c.in-Many.lo c.in-Many.hi c.in-Many.width parts (c.is_number_within.ensures.0 h)),
      λ h.
          let had = many_had c.in-Many.prefix name c.in-Many.lo c.in-Many.hi c.in-Many.width (subst P c.in-Many.is h) in
          let same : had.0 ≡ digits = append_cancel_left c.in-Many.prefix had.0 digits (sym had.1 ∙ parts) in
          c.is_number_within.ensures.1 (subst D same had.2),
    )

pub returns-in-None : goal.returns-in-None
returns-in-None c =
    let name = c.args.name.now in
    let P : Hosts → Type 0 = λ hosts. Contains (own_names hosts) name in (
      λ h. absurd cc,
      λ h.
          let had = many_had c.in-Many.prefix name c.in-Many.lo c.in-Many.hi c.in-Many.width (subst P c.in-Many.is h) in
          absurd (c.in-None.ensures had.0 (had.1 ∙ ap (λ (p : List ℕ). p ++ had.0) (sym c.bytes-in-Many.ensures))),
    )
