-- clap's walk over words that are in form.
use Rattle.std.proofs.Common.{◌≡◌, ◌⊎◌, List, [], ◌∷◌, ◌++◌, Bool, true, false, not, ◌&&◌, if◌then◌else◌, Option, Some}
use Rattle.std.proofs.Common.{None, bytes_eq, refl, sym, ap, ◌∙◌, subst, inl, inr, ⊎_elim, true≢false, append-nil}
use Rattle.std.proofs.Common.{append_assoc, fold}
use Rattle.std.proofs.lemmas.Slice.Eq.{bytes_eq-Decides}
use Rattle.clap.specs.Lexer.{long_of, short_of}
use Rattle.clap.specs.Walk.{Walk, settled, walked}
use Rattle.clap.specs.Simple.{Shape}
use Rattle.clap.specs.Takes.{settle_passes, walk_passes}
use Rattle.clap.specs.declared.builder.value_parser.Reading.{Reading}
use Rattle.command_words.specs.Givens.{Word, Given, Next, anything, value_for, only_names, graph, is_empty}
use Rattle.command_words.specs.Givens.{begins_with_minus, and_given, option_of, from_option, given_from, has, are_new}
use Rattle.command_words.proofs.Options.{is_option, option_reads}
use Rattle.command_words.proofs.Rows.{rows}
use Rattle.command_words.proofs.Steps.{Pend, none, full, open_at, all, PendOk, Serves, state, Goes, settle_ok, settles}
use Rattle.command_words.proofs.Steps.{dashes, operand, trailing, attached, opened, given}

abbrev dash : Word
dash = 45 ∷ 45 ∷ []

pub record IsPlain (w : Word) : Type 0 where
  pub no_dashes : bytes_eq w dash ≡ false
  pub no_long : long_of w ≡ None
  pub no_short : short_of w ≡ None

plain_word : (w : Word) → is_empty w ≡ false → begins_with_minus w ≡ false → IsPlain w
plain_word [] e m = absurd (true≢false e)
plain_word (x ∷ xs) e m = record { no_dashes = rw m refl; no_long = rw m refl; no_short = rw m refl }

some_use : (u : Given) (o : Option (List Given)) (us : List Given) → and_given u o ≡ Some us →
    (rest : List Given) × (o ≡ Some rest) × (us ≡ u ∷ rest)
some_use u None us e = absurd (cc)
some_use u (Some rest) us e = (rest, refl, (let same : Some (u ∷ rest) ≡ Some us = e in cc))

new_here : (seen : List Given) (u : Given) (b : Bool) (c : Bool) → (not b && c) ≡ true → (b ≡ false) × (c ≡ true)
new_here seen u true c h = absurd (true≢false (sym h))
new_here seen u false c h = (refl, h)

cases : (b : Bool) (x y : Option (List Given)) (us : List Given) → (if b then x else y) ≡ Some us →
    ((b ≡ true) × (x ≡ Some us)) ⊎ ((b ≡ false) × (y ≡ Some us))
cases true x y us h = inl (refl, h)
cases false x y us h = inr (refl, h)

second : (b : Bool) (y : Option (List Given)) (us : List Given) → (if b then None else y) ≡ Some us →
    (b ≡ false) × (y ≡ Some us)
second true y us h = absurd (cc)
second false y us h = (refl, h)

first : (b : Bool) (x : Option (List Given)) (us : List Given) → (if b then x else None) ≡ Some us →
    (b ≡ true) × (x ≡ Some us)
first true x us h = (refl, h)
first false x us h = absurd (cc)

is_dash : (w : Word) → bytes_eq w dash ≡ true → w ≡ dash
is_dash w e = (bytes_eq-Decides w dash).0 e

fresh : (seen : List Given) (u : Given) (rest us : List Given) → us ≡ u ∷ rest → are_new seen us ≡ true →
    has u.0 seen ≡ false
fresh seen u rest us is new = (new_here seen u (has u.0 seen) (are_new (seen ++ u ∷ []) rest)
    (subst (λ l. are_new seen l ≡ true) is new)).0

module _ (how : Reading) (S : Shape) (k : Serves how S) where
  abbrev pub Fits : Next → List Given → Pend → Type 0
  Fits anything done p = PendOk done p
  Fits (value_for name) done p = (p ≡ open_at name) × (is_option name ≡ true)
  Fits only_names done p = PendOk done p

  -- the walk goes on over the words, and ends with these values
  abbrev pub Rest : List Word → List Given → Walk → Type 0
  Rest ws total W = (walk_passes S [] W ws ≡ true)
      × (settle_passes S.rules false (fold (walked S.rules []) W ws).held ≡ true)
      × ((settled S.rules (fold (walked S.rules []) W ws).held).rows ≡ rows how total)
      × ((fold (walked S.rules []) W ws).stopped ≡ None)

  abbrev IH : List Word → Type 0
  IH ws = (m : Next) (done : List Given) (p : Pend) (us : List Given) → given_from m ws ≡ Some us → Fits m done p →
      are_new (all done p) us ≡ true → Rest ws (all done p ++ us) (state how S k m done p)

  one_more : (w : Word) (ws : List Word) (total : List Given) (W W' : Walk) → Goes how S k W w W' → Rest ws total W' →
      Rest (w ∷ ws) total W
  unfolding walk_passes
  one_more w ws total W W' g r = let q = subst (Rest ws total) (sym g.1) r in (rw g.0 q.0, q.1, q.2, q.3)

  -- a value, and then the rest
  then_use : (w : Word) (ws : List Word) (done : List Given) (p : Pend) (W : Walk) (m : Next) (done' : List Given)
      (p' : Pend) (u : Given) (rest us : List Given) → IH ws
      → Goes how S k W w (state how S k m done' p') → all done' p' ≡ all done p ++ u ∷ [] → Fits m done' p' →
      given_from m ws ≡ Some rest → us ≡ u ∷ rest → are_new (all done p) us ≡ true
      → Rest (w ∷ ws) (all done p ++ us) W
  then_use w ws done p W m done' p' u rest us ih goes same fits e is new =
      let split = new_here (all done p) u (has u.0 (all done p)) (are_new (all done p ++ u ∷ []) rest)
      (subst (λ l. are_new (all done p) l ≡ true) is new) in
      let r = ih m done' p' rest e fits (subst (λ l. are_new l rest ≡ true) (sym same) split.1) in
      let total : all done' p' ++ rest ≡ all done p ++ us = ap (λ l. l ++ rest) same ∙ append_assoc (all done p)
      (u ∷ []) rest ∙ ap (λ l. all done p ++ l) (sym is) in
      one_more w ws (all done p ++ us) W (state how S k m done' p') goes
      (subst (λ t. Rest ws t (state how S k m done' p')) total r)

  from_plain : (w : Word) (ws : List Word) (done : List Given) (p : Pend) (us : List Given) → IH ws → PendOk done p →
      IsPlain w → and_given (graph, w) (given_from anything ws) ≡ Some us → are_new (all done p) us ≡ true
      → Rest (w ∷ ws) (all done p ++ us) (state how S k anything done p)
  from_plain w ws done p us ih ok plain h new =
      let u = some_use (graph, w) (given_from anything ws) us h in
      let here = fresh (all done p) (graph, w) u.0 us u.2 new in
      then_use w ws done p (state how S k anything done p) anything (all done p) (full (graph, w)) (graph, w) u.0 us ih
      (operand how S k done p w ok here plain.no_dashes plain.no_long plain.no_short) refl (inr refl, here) u.1 u.2 new

  -- an option's word
  from_one : (w : Word) (ws : List Word) (done : List Given) (p : Pend) (us : List Given)
      (l : Option (Word × Option Word)) → IH ws → PendOk done p → bytes_eq w dash ≡ false → option_of w ≡ l
      → from_option l (λ next. given_from next ws) ≡ Some us → are_new (all done p) us ≡ true → Rest (w ∷ ws)
      (all done p ++ us) (state how S k anything done p)
  from_one w ws done p us None ih ok nd is h new = absurd (cc)
  from_one w ws done p us (Some (name, None)) ih ok nd is h new =
      let reads = option_reads w name None is in
      one_more w ws (all done p ++ us) (state how S k anything done p)
      (state how S k (value_for name) (all done p) (open_at name))
      (opened how S k done p w name ok reads.0 nd reads.1)
      (ih (value_for name) (all done p) (open_at name) us h (refl, reads.0) new)
  from_one w ws done p us (Some (name, Some v)) ih ok nd is h new =
      let reads = option_reads w name (Some v) is in
      let u = some_use (name, v) (given_from anything ws) us h in
      let here = fresh (all done p) (name, v) u.0 us u.2 new in
      then_use w ws done p (state how S k anything done p) anything (all done p ++ (name, v) ∷ []) none
      (name, v) u.0 us ih
      (attached how S k done p w name v ok here reads.0 nd reads.1) refl tt u.1 u.2 new

  from_free : (w : Word) (ws : List Word) (done : List Given) (p : Pend) (us : List Given) → IH ws → PendOk done p →
      given_from anything (w ∷ ws) ≡ Some us → are_new (all done p) us ≡ true
      → Rest (w ∷ ws) (all done p ++ us) (state how S k anything done p)
  unfolding given_from
  from_free w ws done p us ih ok h new =
      let e = second (is_empty w) _ us h in
      ⊎_elim (λ d. one_more w ws (all done p ++ us) (state how S k anything done p) (state how S k only_names done p)
      (subst (λ x. Goes how S k (state how S k anything done p) x (state how S k only_names done p))
      (sym (is_dash w d.0)) (dashes how S k done p ok)) (ih only_names done p us d.1 ok new))
      (λ nd. ⊎_elim (λ m. from_one w ws done p us (option_of w) ih ok nd.0 refl m.1 new)
      (λ nm. from_plain w ws done p us ih ok (plain_word w e.0 nm.0) nm.1 new)
      (cases (begins_with_minus w) _ _ us nd.1))
      (cases (bytes_eq w dash) _ _ us e.1)

  from_operands : (w : Word) (ws : List Word) (done : List Given) (p : Pend) (us : List Given) → IH ws →
      PendOk done p → given_from only_names (w ∷ ws) ≡ Some us → are_new (all done p) us ≡ true
      → Rest (w ∷ ws) (all done p ++ us) (state how S k only_names done p)
  unfolding given_from
  from_operands w ws done p us ih ok h new =
      let e = second (is_empty w) _ us h in
      let u = some_use (graph, w) (given_from only_names ws) us e.1 in
      let here = fresh (all done p) (graph, w) u.0 us u.2 new in
      then_use w ws done p (state how S k only_names done p) only_names (all done p) (full (graph, w))
      (graph, w) u.0 us ih
      (trailing how S k done p w ok here) refl (inr refl, here) u.1 u.2 new

  from_wants : (w : Word) (ws : List Word) (done : List Given) (name : Word) (us : List Given) → IH ws →
      is_option name ≡ true → given_from (value_for name) (w ∷ ws) ≡ Some us → are_new done us ≡ true
      → Rest (w ∷ ws) (done ++ us) (state how S k (value_for name) done (open_at name))
  unfolding given_from
  from_wants w ws done name us ih o h new =
      let e = second (is_empty w) _ us h in
      let m = second (begins_with_minus w) _ us e.1 in
      let plain = plain_word w e.0 m.0 in
      let u = some_use (name, w) (given_from anything ws) us m.1 in
      let here = fresh done (name, w) u.0 us u.2 new in
      then_use w ws done (open_at name) (state how S k (value_for name) done (open_at name)) anything done
      (full (name, w)) (name, w) u.0 us ih
      (given how S k done w name o plain.no_dashes plain.no_long plain.no_short) refl (inl o, here) u.1 u.2 new

  ended : (m : Next) (done : List Given) (p : Pend) (us : List Given) → Some [] ≡ Some us → PendOk done p →
      (state how S k m done p).held ≡ (state how S k anything done p).held → Rest [] (all done p ++ us)
      (state how S k m done p)
  unfolding walk_passes
  ended m done p us h ok same =
      let none_left : [] ≡ us = cc in (
        refl,
        settle_ok how S k done p ok,
        ap (λ h'. h'.rows) (settles how S k done p ok) ∙ ap (rows how)
            (sym (append-nil (all done p)) ∙ ap (λ l. all done p ++ l) none_left),
        refl,
      )

  pub runs : (ws : List Word) → IH ws
  unfolding given_from
  runs [] anything done p us h fits new = ended anything done p us h fits refl
  runs [] (value_for name) done p us h fits new = absurd (cc)
  runs [] only_names done p us h fits new = ended only_names done p us h fits refl
  runs (w ∷ ws) anything done p us h fits new = from_free w ws done p us (runs ws) fits h new
  runs (w ∷ ws) (value_for name) done p us h fits new =
      subst (λ q. Rest (w ∷ ws) (all done q ++ us) (state how S k (value_for name) done q)) (sym fits.0)
      (from_wants w ws done name us (runs ws) fits.1 h (subst (λ q. are_new (all done q) us ≡ true) fits.0 new))
  runs (w ∷ ws) only_names done p us h fits new = from_operands w ws done p us (runs ws) fits h new
