use Rattle.std.proofs.Common.{◌≡◌, ℕ, List, ap, subst, sym, ◌∙◌}
use Rattle.idset_text.specs.Idsets.{idset_text, IsIdsetOf, IsShortestOf}
use Rattle.idset_text.proofs.IdsetTexts.{written_again, written_shortest}
use Rattle.idset_text.proofs.idsets.write_idset.Goals as goal

pub returns-clause-again : goal.returns-clause-again
returns-clause-again c = λ small.
    let written : c.of_vec.result ≡ idset_text c.args.ids.now =
    c.of_vec.ensures ∙ c.in_ok-text.ensures ∙ ap idset_text c.items.ensures in
    let P : List ℕ → Type 0 = λ text. IsIdsetOf text c.args.ids.now in
    subst P (sym written) (written_again c.args.ids.now c.requires small)

pub returns-clause-shortest : goal.returns-clause-shortest
returns-clause-shortest c =
    let written : c.of_vec.result ≡ idset_text c.args.ids.now =
    c.of_vec.ensures ∙ c.in_ok-text.ensures ∙ ap idset_text c.items.ensures in
    let P : List ℕ → Type 0 = λ text. IsShortestOf text c.args.ids.now in
    subst P (sym written) (written_shortest c.args.ids.now)
