use Rattle.std.proofs.Common.{◌≡◌, ℕ, List, ap, subst, sym, ◌∙◌}
use Rattle.idset_text.specs.Hostlists.{hostlist_texts, AreHostlistsOf}
use Rattle.idset_text.proofs.HostlistTexts.{texts_again}
use Rattle.idset_text.proofs.hostlists.write_hostlist.Goals as goal

pub returns-clause-again : goal.returns-clause-again
returns-clause-again c = λ are.
    let written : c.of_vec.result ≡ hostlist_texts c.args.names.now =
    c.of_vec.ensures ∙ c.in_ok-texts.ensures ∙ ap hostlist_texts c.items.ensures in
    let P : List (List ℕ) → Type 0 = λ texts. AreHostlistsOf texts c.args.names.now in
    subst P (sym written) (texts_again c.args.names.now are)
