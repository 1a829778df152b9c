-- What is passed over of a list or an object, a turn at a time.
use Rattle.std.proofs.Common.{◌≡◌, ℕ, ◌-◌, ◌<◌, ◌≤◌, List, length, Some, None, ap, ◌∙◌}
use Rattle.json.specs.Token.{Token}
use Rattle.json.specs.Json.{Json, Items, no_items, item, Members, no_members, member, Parse, parse_map}
use Rattle.json.specs.Json.{after_end_array, read_key, items, members}
use Rattle.json.proofs.Grammar.{items_end, items_more, members_end, members_more}

module _ (p : Parse Json) (start : List Token) where
  -- what the rest gives, from here on, the whole gives from its start
  abbrev pub ItemsGoOn : ℕ → List Token → Type 0
  ItemsGoOn n ts = (js : Items) (r : List Token) → items p n ts ≡ Some (js, r)
      → (all : Items) × (items p (length start) start ≡ Some (all, r))

  pub item_passed : (n : ℕ) (ts r : List Token) (j : Json) → ItemsGoOn n ts →
      0 < n → after_end_array ts ≡ None → p ts ≡ Some (j, r) → ItemsGoOn (n - 1) r
  item_passed n ts r j goes some not_closed read js s e =
      goes (item j js) s (items_more p n ts r j some not_closed read ∙ ap (parse_map (item j)) e)

  pub items_passed : (n : ℕ) (ts r : List Token) → ItemsGoOn n ts → length ts ≤ n → after_end_array ts ≡ Some r →
      (all : Items) × (items p (length start) start ≡ Some (all, r))
  items_passed n ts r goes within closed = goes no_items r (items_end p n ts r within closed)

  abbrev pub MembersGoOn : ℕ → List Token → Type 0
  MembersGoOn n ts = (ms : Members) (r : List Token) → members p n ts ≡ Some (ms, r)
      → (all : Members) × (members p (length start) start ≡ Some (all, r))

  pub member_passed : (n : ℕ) (k : List ℕ) (ts s r : List Token) (j : Json) → MembersGoOn n ts →
      0 < n → read_key ts ≡ Some (Some k, s) → p s ≡ Some (j, r) → MembersGoOn (n - 1) r
  member_passed n k ts s r j goes some key read ms rest e =
      goes (member k j ms) rest (members_more p n k ts s r j some key read ∙ ap (parse_map (member k j)) e)

  pub members_passed : (n : ℕ) (ts r : List Token) → MembersGoOn n ts → length ts ≤ n → read_key ts ≡ Some (None, r) →
      (all : Members) × (members p (length start) start ≡ Some (all, r))
  members_passed n ts r goes within closed = goes no_members r (members_end p n ts r within closed)
