-- What is wanted of a value, and when two values agree on it.
use Rattle.std.specs.Prelude.{◌≡◌, ℕ, List, [], ◌∷◌, Bool, if◌then◌else◌, Option, Some, None, is_some, ⊤}
use Rattle.std.specs.Prelude.{IsTrue}
use Rattle.std.specs.List.{list_any}
use Rattle.std.specs.Str.{bytes_eq}
use Rattle.std.specs.Borrow.{Bor}
use Rattle.json.specs.Json as json
use Rattle.json.specs.declared.value.Value.{Value}
use Rattle.serde_json.specs.Data.{Data}
use Rattle.serde_json.specs.Find.{get, as_null, as_object}
use Rattle.json_whole.specs.declared.parts.Wanted.{Wanted}

-- the value at the key is wanted whole
abbrev pub is_whole_key : Wanted → List ℕ → Bool
is_whole_key wanted key = list_any (λ k. bytes_eq k.now key) wanted.whole.now

-- both are absent, or both are there and are so
abbrev pub AreAlike : (Data → Data → Type 0) → Option Data → Option Data → Type 0
AreAlike Are None None = ⊤
AreAlike Are None (Some e) = ⊥
AreAlike Are (Some d) None = ⊥
AreAlike Are (Some d) (Some e) = Are d e

-- Two values agree on what is wanted of them: on all of it, where nothing more is said. Else both are null or neither
-- is, both are objects or neither is, the same stands at each key whose value is wanted whole, and what stands at the
-- key of the part agrees on what is wanted of that.
abbrev pub AgreeOn : List Wanted → Data → Data → Type 0
AgreeOn [] d e = d ≡ e
AgreeOn (wanted ∷ within) d e =
    (as_null d ≡ as_null e) × (is_some (as_object d) ≡ is_some (as_object e))
    × ((key : List ℕ) → IsTrue (is_whole_key wanted key) → get key d ≡ get key e)
    × AreAlike (AgreeOn within) (get wanted.part.now d) (get wanted.part.now e)

-- a value agrees with the value that there is, on what is wanted
abbrev pub IsPartOf : List Wanted → Option Data → Data → Type 0
IsPartOf wanted None d = ⊥
IsPartOf wanted (Some whole) d = AgreeOn wanted whole d

-- ---- what is built

-- what is built at a key is a member, where something is
abbrev pub member_or_none : List ℕ → Option json.Json → json.Members → json.Members
member_or_none key None ms = ms
member_or_none key (Some j) ms = json.member key j ms

-- of the value at a key: the whole, the part, or nothing
abbrev pub at_key : Wanted → List ℕ → json.Json → json.Json → Option json.Json
at_key wanted key whole part =
    if is_whole_key wanted key then Some whole else (if bytes_eq wanted.part.now key then Some part else None)

-- a value whose objects have those members alone that are wanted
abbrev mutual
  pub part_of : List Wanted → json.Json → json.Json
  part_of [] j = j
  part_of (wanted ∷ within) json.null = json.null
  part_of (wanted ∷ within) (json.boolean b) = json.boolean b
  part_of (wanted ∷ within) (json.number s) = json.number s
  part_of (wanted ∷ within) (json.string s) = json.string s
  part_of (wanted ∷ within) (json.array js) = json.array js
  part_of (wanted ∷ within) (json.object ms) = json.object (wanted_members wanted within ms)

  pub wanted_members : Wanted → List Wanted → json.Members → json.Members
  wanted_members wanted within json.no_members = json.no_members
  wanted_members wanted within (json.member k j ms) =
      member_or_none k (at_key wanted k j (part_of within j)) (wanted_members wanted within ms)

-- what is built at a key, as the code holds it
abbrev pub built : {A : Type 0} → Bor (List ℕ) → Option (Value A) → List (Bor (List ℕ) × Value A)
built key None = []
built key (Some v) = (key, v) ∷ []
