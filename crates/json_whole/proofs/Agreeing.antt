-- What is built of a tree agrees with the tree on what is wanted.
use Rattle.std.proofs.Common.{◌≡◌, ℕ, List, [], ◌∷◌, Bool, true, false, cond, Option, Some, None, option_map, refl, sym}
use Rattle.std.proofs.Common.{ap, ◌∙◌, subst, IsUtf8}
use Rattle.std.specs.Str.{bytes_eq}
use Rattle.std.proofs.lemmas.Slice.Eq.{bytes_eq-Decides}
use Rattle.json.specs.Lex.{tokens}
use Rattle.json.specs.Json as json
use Rattle.json.specs.Find as find
use Rattle.json.specs.Value.{value_view}
use Rattle.json.specs.declared.value.Value.{Value}
use Rattle.serde_json.specs.Data.{Data}
use Rattle.serde_json.specs.Find.{get}
use Rattle.serde_json.specs.Read.{max_depth}
use Rattle.json_whole.specs.declared.parts.Wanted.{Wanted}
use Rattle.json_whole.specs.Parts.{is_whole_key, AreAlike, AgreeOn, IsPartOf, member_or_none, at_key, part_of}
use Rattle.json_whole.specs.Parts.{wanted_members}
use Rattle.json_whole.specs.PlainTokens.{plain_tokens}
use Rattle.json_whole.specs.Values.{data_of, view}
use Rattle.json_whole.specs.Whole.{value_of}
use Rattle.json_whole.proofs.Looks.{get-data}
use Rattle.json_whole.proofs.Reading.{tree_plain}

-- ---- a value agrees with itself

alike_itself : (Are : Data → Data → Type 0) → ((d : Data) → Are d d) → (o : Option Data) → AreAlike Are o o
alike_itself Are itself None = tt
alike_itself Are itself (Some d) = itself d

pub agrees_itself : (wanted : List Wanted) (d : Data) → AgreeOn wanted d d
agrees_itself [] d = refl
agrees_itself (w ∷ ws) d = (refl, refl, λ key h. refl, alike_itself (AgreeOn ws) (agrees_itself ws) (get w.part.now d))

-- ---- what stands at a key

nothing_behind : (b : Bool) (o : Option json.Json) → o ≡ find.later_or o (cond b None None)
nothing_behind true None = refl
nothing_behind true (Some j) = refl
nothing_behind false None = refl
nothing_behind false (Some j) = refl

-- the last of the members, where one more may stand before them
first_or_none : (key k : List ℕ) (o : Option json.Json) (ms : json.Members) →
    find.get_member key (member_or_none k o ms) ≡ find.later_or (find.get_member key ms) (cond (bytes_eq k key) o None)
first_or_none key k None ms = nothing_behind (bytes_eq k key) (find.get_member key ms)
first_or_none key k (Some j) ms = refl

whole_at : (w : Wanted) (key : List ℕ) (whole part : json.Json) →
    is_whole_key w key ≡ true → at_key w key whole part ≡ Some whole
whole_at w key whole part h = rw h refl

whole_here : (w : Wanted) (key k : List ℕ) (j part : json.Json) (b : Bool) →
    bytes_eq k key ≡ b → is_whole_key w key ≡ true → cond b (Some j) None ≡ cond b (at_key w k j part) None
whole_here w key k j part false e h = refl
whole_here w key k j part true e h =
    let same : k ≡ key = (bytes_eq-Decides k key).0 e in
    sym (whole_at w k j part (subst (λ x. is_whole_key w x ≡ true) (sym same) h))

-- the same value, where it is wanted whole
whole_found : (w : Wanted) (ws : List Wanted) (key : List ℕ) (ms : json.Members) → is_whole_key w key ≡ true →
    find.get_member key ms ≡ find.get_member key (wanted_members w ws ms)
whole_found w ws key json.no_members h = refl
whole_found w ws key (json.member k j ms) h =
    let at = at_key w k j (part_of ws j) in
    ap (λ o. find.later_or o (cond (bytes_eq k key) (Some j) None)) (whole_found w ws key ms h)
    ∙ ap (find.later_or (find.get_member key (wanted_members w ws ms)))
    (whole_here w key k j (part_of ws j) (bytes_eq k key) refl h)
    ∙ sym (first_or_none key k at (wanted_members w ws ms))

-- ---- what stands at the key of the part

module _ (Are : Data → Data → Type 0) where
  abbrev Alike : Option json.Json → Option json.Json → Type 0
  Alike o p = AreAlike Are (option_map data_of o) (option_map data_of p)

  alike_later : (a b c d : Option json.Json) → Alike a b → Alike c d → Alike (find.later_or a c) (find.later_or b d)
  alike_later None None c d first second = second
  alike_later None (Some b) c d first second = absurd first
  alike_later (Some a) None c d first second = absurd first
  alike_later (Some a) (Some b) c d first second = first

  part_or : (w : Wanted) (k : List ℕ) (j part : json.Json) (b : Bool) → is_whole_key w k ≡ b →
      bytes_eq w.part.now k ≡ true → Are (data_of j) (data_of j) → Are (data_of j) (data_of part)
      → Alike (Some j) (at_key w k j part)
  part_or w k j part true whole here itself is = rw whole itself
  part_or w k j part false whole here itself is = rw (whole, here) is

  part_here : (w : Wanted) (k : List ℕ) (j part : json.Json) (b : Bool) → bytes_eq k w.part.now ≡ b →
      Are (data_of j) (data_of j) → Are (data_of j) (data_of part)
      → Alike (cond b (Some j) None) (cond b (at_key w k j part) None)
  part_here w k j part false e itself is = tt
  part_here w k j part true e itself is =
      let same : k ≡ w.part.now = (bytes_eq-Decides k w.part.now).0 e in
      part_or w k j part (is_whole_key w k) refl ((bytes_eq-Decides w.part.now k).1 (sym same)) itself is

part_found : (w : Wanted) (ws : List Wanted) (ms : json.Members) →
    ((j : json.Json) → AgreeOn ws (data_of j) (data_of (part_of ws j)))
    → Alike (AgreeOn ws) (find.get_member w.part.now ms) (find.get_member w.part.now (wanted_members w ws ms))
part_found w ws json.no_members agree = tt
part_found w ws (json.member k j ms) agree =
    subst (Alike (AgreeOn ws) (find.get_member w.part.now (json.member k j ms)))
    (sym (first_or_none w.part.now k (at_key w k j (part_of ws j)) (wanted_members w ws ms)))
    (alike_later (AgreeOn ws) (find.get_member w.part.now ms) (find.get_member w.part.now (wanted_members w ws ms)) _ _
    (part_found w ws ms agree)
    (part_here (AgreeOn ws) w k j (part_of ws j) (bytes_eq k w.part.now) refl (agrees_itself ws (data_of j)) (agree j)))

-- ---- a tree and what is built of it

pub agrees_part : (wanted : List Wanted) (j : json.Json) → AgreeOn wanted (data_of j) (data_of (part_of wanted j))
agrees_part [] j = refl
agrees_part (w ∷ ws) json.null = agrees_itself (w ∷ ws) (data_of json.null)
agrees_part (w ∷ ws) (json.boolean b) = agrees_itself (w ∷ ws) (data_of (json.boolean b))
agrees_part (w ∷ ws) (json.number s) = agrees_itself (w ∷ ws) (data_of (json.number s))
agrees_part (w ∷ ws) (json.string s) = agrees_itself (w ∷ ws) (data_of (json.string s))
agrees_part (w ∷ ws) (json.array js) = agrees_itself (w ∷ ws) (data_of (json.array js))
agrees_part (w ∷ ws) (json.object ms) =
    let p = w.part.now in
    let part = json.object (wanted_members w ws ms) in (
      refl,
      refl,
      λ key h. sym (get-data key (json.object ms)) ∙ ap (option_map data_of) (whole_found w ws key ms h)
          ∙ get-data key part,
      subst (λ o. AreAlike (AgreeOn ws) o (get p (data_of part))) (get-data p (json.object ms))
          (subst (AreAlike (AgreeOn ws) (option_map data_of (find.get_member p ms))) (get-data p part)
          (part_found w ws ms (agrees_part ws))),
    )

-- ---- of bytes

of_value : (wanted : List Wanted) (o : Option Data) (d e : Data) → o ≡ Some d → AgreeOn wanted d e → IsPartOf wanted o e
of_value wanted o d e is agree = rw is agree

-- a part was built of the value that bytes have by the tokens of their plain form
pub part_plain : {A : Type 0} (wanted : List Wanted) (bytes : List ℕ) (j : json.Json) (v : Value A) → IsUtf8 bytes →
    json.value max_depth (plain_tokens (tokens bytes)) ≡ Some (j, []) → part_of wanted j ≡ value_view v
    → IsPartOf wanted (value_of bytes) (view v)
part_plain wanted bytes j v utf8 found part =
    of_value wanted (value_of bytes) (data_of j) (view v) (tree_plain bytes j utf8 found)
    (subst (λ i. AgreeOn wanted (data_of j) (data_of i)) part (agrees_part wanted j))

-- a value that was read whole
pub whole_is_part : (wanted : List Wanted) (bytes : List ℕ) (d : Data) →
    value_of bytes ≡ Some d → IsPartOf wanted (value_of bytes) d
whole_is_part wanted bytes d is = of_value wanted (value_of bytes) d d is (agrees_itself wanted d)
