-- Words are at most one call.
use Rattle.std.proofs.Common.{◌≡◌, ℕ, List, get_or, codes, Option, Some, None, MatchOption, unwrap_or, refl, sym}
use Rattle.std.proofs.Common.{◌∙◌, ap, subst, arith}
use Rattle.std.proofs.lemmas.Option.{same_Some}
use Rattle.text_forms.specs.Numbers.{number_in}
use Rattle.command_words.specs.Givens.{Word}
use Rattle.command_words.specs.Values.{Values, values_in}
use Rattle.fluxion_lines.specs.declared.commands.Form.{Form}
use Rattle.fluxion_lines.specs.declared.commands.Form.TheVariants.{V1, Rfc14}
use Rattle.asked_calls.specs.Calls.{Served, Call, serve, print, load, IsHorizonOf, form_word, IsFormOf, IsServing}
use Rattle.asked_calls.specs.Calls.{AreWordsOf, only_name, IsInForm, IsCallOf, call_held}
use Rattle.asked_calls.specs.declared.calls.Asked.{Asked}
use Rattle.prune_filters.proofs.RuleLaws.{one_list}
use Rattle.list_laws.proofs.Lists.{heads, tails}

horizon_once : (word : Option Word) (a b : ℕ) → IsHorizonOf word a → IsHorizonOf word b → a ≡ b
horizon_once None a b one two = one ∙ sym two
horizon_once (Some word) a b one two = same_Some a b (sym one.number ∙ two.number)

-- the words of the two forms differ
no_form : codes "v1" ≡ codes "rfc14" → ⊥
no_form same = let letter : 118 ≡ 114 = ap (λ (word : List ℕ). get_or word 0 0) same in omega (arith, letter)

word_once : (a b : Form) → form_word a ≡ form_word b → a ≡ b
word_once V1 V1 same = refl
word_once Rfc14 Rfc14 same = refl
word_once V1 Rfc14 same = absurd (no_form same)
word_once Rfc14 V1 same = absurd (no_form (sym same))

form_once : (word : Option Word) (a b : Form) → IsFormOf word a → IsFormOf word b → a ≡ b
form_once None a b one two = one ∙ sym two
form_once (Some word) a b one two = word_once a b (sym one ∙ two)

pub serving_once : (values : Values) (a b : Served) → IsServing values a → IsServing values b → a ≡ b
serving_once values a b one two =
    let name = one.name ∙ sym two.name in
    let horizon = horizon_once values.horizon a.horizon b.horizon one.horizon two.horizon in
    let rules = one_list (unwrap_or values.filters (codes "ALL:core")) a.rules b.rules one.rules two.rules in
    let form = form_once values.jobspec a.form b.form one.form two.form in
    λ i. record { name = name i; horizon = horizon i; rules = rules i; form = form i }

values_once : (c d : Word) (words : List Word) (a b : Values) → AreWordsOf c words a → AreWordsOf d words b → a ≡ b
values_once c d words a b one two =
    let behind = tails c d one.behind two.behind (sym one.words-are ∙ two.words-are) in
    same_Some a b (sym one.values-are ∙ (ap values_in behind ∙ two.values-are))

-- a word by its first letter
abbrev letter : Word → ℕ
letter word = get_or word 0 0

-- words of two commands that begin with different letters
other_command : (c d : Word) (words : List Word) (a b : Values) → (letter c ≡ letter d → ⊥) → AreWordsOf c words a →
    AreWordsOf d words b → ⊥
other_command c d words a b differ one two =
    differ (ap letter (heads c d one.behind two.behind (sym one.words-are ∙ two.words-are)))

no_graph : letter (codes "serve") ≡ letter (codes "graph") → ⊥
no_graph same = omega (arith, same)

no_load : letter (codes "serve") ≡ letter (codes "load") → ⊥
no_load same = omega (arith, same)

graph_or_load : letter (codes "graph") ≡ letter (codes "load") → ⊥
graph_or_load same = omega (arith, same)

form_of_words : (words : List Word) (a b : Call) → IsInForm words a → IsInForm words b → a ≡ b
form_of_words words (serve a) (serve b) (v, of_v, one) (w, of_w, two) =
    let values = values_once (codes "serve") (codes "serve") words v w of_v of_w in
    ap serve (serving_once w a b (subst (λ (x : Values). IsServing x a) values one) two)
form_of_words words (serve a) (print b) (v, of_v, one) two =
    absurd (other_command (codes "serve") (codes "graph") words v (only_name b) no_graph of_v two)
form_of_words words (serve a) (load b) (v, of_v, one) (w, of_w, two) =
    absurd (other_command (codes "serve") (codes "load") words v (only_name w) no_load of_v of_w)
form_of_words words (print a) (serve b) one (w, of_w, two) =
    absurd (other_command (codes "serve") (codes "graph") words w (only_name a) no_graph of_w one)
form_of_words words (print a) (load b) one (w, of_w, two) =
    absurd (other_command (codes "graph") (codes "load") words (only_name a) (only_name w) graph_or_load one of_w)
form_of_words words (load a) (serve b) (v, of_v, one) (w, of_w, two) =
    absurd (other_command (codes "serve") (codes "load") words w (only_name v) no_load of_w of_v)
form_of_words words (load a) (print b) (v, of_v, one) two =
    absurd (other_command (codes "graph") (codes "load") words (only_name b) (only_name v) graph_or_load two of_v)
form_of_words words (load a) (load b) (v, of_v, one) (w, of_w, two) =
    let values = values_once (codes "load") (codes "load") words (only_name v) (only_name w) of_v of_w in
    let word : v ≡ w = ap (λ (x : Values). x.graph) values in
    ap load (same_Some a b (sym one.number ∙ (ap number_in word ∙ two.number)))
form_of_words words (print a) (print b) one two =
    let values = values_once (codes "graph") (codes "graph") words (only_name a) (only_name b) one two in
    ap (λ (v : Values). print v.graph) values

-- words are at most one call
pub one_call : (words : List Word) (a b : Call) → IsCallOf words a → IsCallOf words b → a ≡ b
one_call words a b one two = form_of_words words a b one.form two.form

-- what was read of the words is this call
pub read_as : (words : List Word) (o : Option Asked) (a : Asked) → MatchOption o
    ((call : Call) → IsCallOf words call → ⊥) (λ asked. IsCallOf words (call_held asked)) → o ≡ Some a →
    IsCallOf words (call_held a)
read_as words None a read is = absurd (let none : None ≡ Some a = is in cc)
read_as words (Some b) a read is = subst (λ (x : Asked). IsCallOf words (call_held x)) (same_Some b a is) read
