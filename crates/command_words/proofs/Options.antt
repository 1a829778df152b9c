-- What an option's word is for clap.
use Rattle.std.proofs.Common.{◌≡◌, ◌⊎◌, ℕ, ◌==◌, [], ◌∷◌, ◌++◌, Bool, true, false, ◌||◌, if◌then◌else◌, Option, Some}
use Rattle.std.proofs.Common.{None, bytes_eq, inl, inr, refl, sym, ap, ◌∙◌}
use Rattle.std.proofs.lemmas.Bool.Decides.{eqb_tells}
use Rattle.std.specs.Option.{option_or}
use Rattle.std.proofs.lemmas.Option.{same_Some}
use Rattle.clap.specs.Lexer.{long_of}
use Rattle.command_words.specs.Givens.{Word, horizon, filters, jobspec, dashes, rest_behind, behind_name, as_option}
use Rattle.command_words.specs.Givens.{option_of}

abbrev pub is_option : Word → Bool
is_option name = bytes_eq name horizon || (bytes_eq name filters || bytes_eq name jobspec)

-- a word that begins with a text is that text and what is behind it
rest_by : (b a : ℕ) (same : Bool) → (b == a) ≡ same → (r : Option Word) (rest : Word) →
    (if same then r else None) ≡ Some rest → (b ≡ a) × (r ≡ Some rest)
rest_by b a true e r rest h = elim (eqb_tells b a) [
  | inl is ↦ (is.1, h)
  | inr differ ↦ absurd (let no : true ≡ false = sym e ∙ differ.0 in cc)
]
rest_by b a false e r rest h = absurd (cc)

pub rest_is : (text word rest : Word) → rest_behind text word ≡ Some rest → word ≡ text ++ rest
rest_is [] word rest h = cc
rest_is (a ∷ text) [] rest h = absurd (cc)
rest_is (a ∷ text) (b ∷ word) rest h =
    let both = rest_by b a (b == a) refl (rest_behind text word) rest h in
    let head = both.0 in
    let tail = rest_is text word rest both.1 in cc

-- `=` and a value
abbrev valued_if : Word → Word → Bool → Option (Word × Option Word)
valued_if n v test = if test then Some (n, Some v) else None

-- behind the name there is nothing, or `=` and the value
module _ (n : Word) (alone : long_of ((dashes ++ n) ++ []) ≡ Some (n, None))
    (joined : (v : Word) → long_of ((dashes ++ n) ++ (61 ∷ v)) ≡ Some (n, Some v)) where
  of_rest : (word name : Word) (v : Option Word) (r : Option Word) → rest_behind (dashes ++ n) word ≡ r →
      behind_name n r ≡ Some (name, v) → (name ≡ n) × (long_of word ≡ Some (n, v))
  of_rest word name v None is h = absurd (cc)
  of_rest word name v (Some []) is h =
      let whole = rest_is (dashes ++ n) word [] is in
      let pair : (n, None) ≡ (name, v) = same_Some (n, None) (name, v) h in
      let names : name ≡ n = sym (ap (λ (q : Word × Option Word). q.0) pair) in
      let values : v ≡ None = sym (ap (λ (q : Word × Option Word). q.1) pair) in
      (names, ap long_of whole ∙ (alone ∙ ap (λ o. Some (n, o)) (sym values)))
  of_rest word name v (Some (b ∷ bs)) is h =
      let both = rest_by b 61 (b == 61) refl (Some bs) bs (by_test (b == 61) h) in
      let whole = rest_is (dashes ++ n) word (b ∷ bs) is in
      let names : name ≡ n = (by_names (b == 61) h).0 in
      let values : v ≡ Some bs = (by_names (b == 61) h).1 in (
        names,
        ap long_of whole ∙ (ap (λ x. long_of ((dashes ++ n) ++ (x ∷ bs))) both.0
            ∙ (joined bs ∙ ap (λ o. Some (n, o)) (sym values))),
      )
    where
      by_test : (t : Bool) → valued_if n bs t ≡ Some (name, v) → (if t then Some bs else None) ≡ Some bs
      by_test true e = refl
      by_test false e = absurd (cc)

      by_names : (t : Bool) → valued_if n bs t ≡ Some (name, v) → (name ≡ n) × (v ≡ Some bs)
      by_names true e = let pair = same_Some (n, Some bs) (name, v) e in
          (sym (ap (λ (q : Word × Option Word). q.0) pair), sym (ap (λ (q : Word × Option Word). q.1) pair))
      by_names false e = absurd (cc)

  pub as_reads : (word name : Word) (v : Option Word) → as_option n word ≡ Some (name, v) →
      (name ≡ n) × (long_of word ≡ Some (n, v))
  as_reads word name v h = of_rest word name v (rest_behind (dashes ++ n) word) refl h

either : {X : Type 0} (a b : Option X) (x : X) → option_or a b ≡ Some x → (a ≡ Some x) ⊎ (b ≡ Some x)
either (Some y) b x h = inl h
either None b x h = inr h

-- an option's word is for clap that option's, with the same value
pub option_reads : (word name : Word) (v : Option Word) → option_of word ≡ Some (name, v) →
    (is_option name ≡ true) × (long_of word ≡ Some (name, v))
option_reads word name v h = elim (either (as_option horizon word)
    (option_or (as_option filters word) (as_option jobspec word)) (name, v) h) [
      | inl one ↦ named horizon refl (as_reads horizon refl (λ x. refl) word name v one)
      | inr more ↦ elim (either (as_option filters word) (as_option jobspec word) (name, v) more) [
        | inl two ↦ named filters refl (as_reads filters refl (λ x. refl) word name v two)
        | inr three ↦ named jobspec refl (as_reads jobspec refl (λ x. refl) word name v three)
      ]
    ]
  where
    named : (n : Word) → is_option n ≡ true → (name ≡ n) × (long_of word ≡ Some (n, v)) →
        (is_option name ≡ true) × (long_of word ≡ Some (name, v))
    named n is both = (ap is_option both.0 ∙ is, both.1 ∙ ap (λ (m : Word). Some (m, v)) (sym both.0))
