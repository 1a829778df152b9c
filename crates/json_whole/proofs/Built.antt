-- What is built of the wanted members of an object, a turn at a time.
use Rattle.std.proofs.Common.{◌≡◌, ℕ, ◌-◌, ◌<◌, ◌≤◌, List, [], ◌∷◌, ◌++◌, length, Option, Some, None, option_map, refl}
use Rattle.std.proofs.Common.{ap, ◌∙◌}
use Rattle.std.specs.Borrow.{Bor}
use Rattle.json.specs.Token.{Token}
use Rattle.json.specs.Json.{Json, Members, no_members, member, Parse, parse_map, read_key, members}
use Rattle.json.specs.Value.{value_view, members_view}
use Rattle.json.specs.declared.value.Value.{Value}
use Rattle.json.proofs.Grammar.{members_end, members_more}
use Rattle.json.proofs.Trees.{members_before, members_before-no_members}
use Rattle.json_whole.specs.declared.parts.Wanted.{Wanted}
use Rattle.json_whole.specs.Parts.{member_or_none, at_key, part_of, wanted_members, built}

-- what is built of a member goes behind what was built before
one_more : {A : Type 0} (found : List (Bor (List ℕ) × Value A)) (key : Bor (List ℕ)) (o : Option (Value A))
    (rest : Members) → members_before found (member_or_none key.now (option_map value_view o) rest)
    ≡ members_before (found ++ built key o) rest
one_more [] key None rest = refl
one_more [] key (Some v) rest = refl
one_more (m ∷ ms) key o rest = ap (member m.0.now (value_view m.1)) (one_more ms key o rest)

module _ (p : Parse Json) (wanted : Wanted) (within : List Wanted) (start : List Token) where
  -- what the rest gives, from here on, the whole gives from its start, with what was found before what is wanted of it
  abbrev pub PartGoesOn : {A : Type 0} → List (Bor (List ℕ) × Value A) → ℕ → List Token → Type 0
  PartGoesOn found n ts = (ms : Members) (r : List Token) → members p n ts ≡ Some (ms, r)
      → (all : Members) × (members p (length start) start ≡ Some (all, r))
      × (wanted_members wanted within all ≡ members_before found (wanted_members wanted within ms))

  pub part_grows : {A : Type 0} (found : List (Bor (List ℕ) × Value A)) (key : Bor (List ℕ)) (o : Option (Value A))
      (n : ℕ) (ts s r : List Token) (j : Json) → PartGoesOn found n ts → 0 < n → read_key ts ≡ Some (Some key.now, s)
      → p s ≡ Some (j, r) → at_key wanted key.now j (part_of within j) ≡ option_map value_view o
      → PartGoesOn (found ++ built key o) (n - 1) r
  part_grows found key o n ts s r j goes some next read is ms rest e =
      let more = goes (member key.now j ms) rest
      (members_more p n key.now ts s r j some next read ∙ ap (parse_map (member key.now j)) e) in (
        more.0,
        more.1,
        more.2
            ∙ ap (λ x. members_before found (member_or_none key.now x (wanted_members wanted within ms))) is
            ∙ one_more found key o (wanted_members wanted within ms),
      )

  pub part_ends : {A : Type 0} (found : List (Bor (List ℕ) × Value A)) (n : ℕ) (ts r : List Token) →
      PartGoesOn found n ts → length ts ≤ n → read_key ts ≡ Some (None, r)
      → (all : Members) × (members p (length start) start ≡ Some (all, r))
      × (wanted_members wanted within all ≡ members_view found)
  part_ends found n ts r goes enough closed =
      let all = goes no_members r (members_end p n ts r enough closed) in
      (all.0, all.1, all.2 ∙ members_before-no_members found)
