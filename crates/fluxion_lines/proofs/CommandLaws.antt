-- What the words of a command say, part by part.
use Rattle.std.proofs.Common.{◌≡◌, ℕ, ◌==◌, ◌||◌, false, List, [], ◌∷◌, length, Some, Ok, Err, codes, if◌then◌else◌}
use Rattle.std.proofs.Common.{refl, sym, ◌∙◌, ap, arith}
use Rattle.std.proofs.lemmas.Bool.{ne_eqb}
use Rattle.flux_defs.specs.declared.requests.Ask.{Ask}
use Rattle.resource_graph.specs.NamedGraph.{NamedGraph}
use Rattle.fluxion_lines.specs.declared.commands.Form.{Form}
use Rattle.fluxion_lines.specs.Words.{skipped, first_word, after_word}
use Rattle.text_forms.specs.Numbers.{number_in}
use Rattle.fluxion_lines.specs.Commands.{is_none, asked, with_job, job_and_ask}

-- a job and its jobspec, of words that have both
pub read_job : (g : NamedGraph) (form : Form) (words : List ℕ) (job : ℕ) (ask : Ask) →
    is_none (first_word words) ≡ false → is_none (skipped (after_word words)) ≡ false →
    number_in (first_word words) ≡ Some job →
    asked g form (skipped (after_word words)) ≡ Ok ask → Ok (job, ask) ≡ job_and_ask g form words
read_job g form words job ask word spec number read =
    let parts = with_job (number_in (first_word words)) (asked g form (skipped (after_word words))) in
    sym (ap (λ b. if b || is_none (skipped (after_word words)) then Err (codes "words") else parts) word
    ∙ (ap (λ b. if b then Err (codes "words") else parts) spec
    ∙ (ap (λ n. with_job n (asked g form (skipped (after_word words)))) number ∙ ap (with_job (Some job)) read)))

pub none_len : (bytes : List ℕ) → (length bytes == 0) ≡ is_none bytes
none_len [] = refl
none_len (b ∷ bytes) = ne_eqb (length (b ∷ bytes)) 0 (λ e. omega (arith, e))
