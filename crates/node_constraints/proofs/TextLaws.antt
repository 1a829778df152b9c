-- The texts of a list: what they are read as says for which nodes they are true.
use Rattle.std.proofs.Common.{◌≡◌, refl, sym, ◌∙◌, ap, ℕ, zero, suc, ◌<◌, ◌==◌, ◌&&◌, ◌||◌, ◌↔◌, Bool, true, false}
use Rattle.std.proofs.Common.{List, [], ◌∷◌, ◌++◌, length, Option, Some, None, Result, Ok, Err, arith, append_assoc}
use Rattle.std.specs.Prelude.{is_some, option_map, option_and_then, IsTrue, slice_index_or}
use Rattle.std.specs.List.{list_any, Contains}
use Rattle.std.specs.Option.{option_map_or}
use Rattle.std.proofs.Math.Bool.{or-true}
use Rattle.std.specs.Cmp.{both_ways}
use Rattle.serde_json.specs.Data.{Data, Items, no_items, item}
use Rattle.serde_json.specs.Find.{as_str}
use Rattle.idset_text.specs.declared.hostlists.Hosts.{Hosts}
use Rattle.idset_text.specs.declared.idsets.Range.{Range}
use Rattle.idset_text.specs.Hostlists.{hostlist_of, names_of}
use Rattle.idset_text.specs.Idsets.{idset_of, ids_of}
use Rattle.node_constraints.specs.Truth.{each_text, some_text, is_among, is_host_of, is_listed, is_id_of, is_ranked}
use Rattle.node_constraints.specs.declared.faults.ConstraintFault.{ConstraintFault}
use Rattle.node_constraints.specs.Faults.{is_ok, unless}
use Rattle.node_constraints.specs.Narrowing.{Means}
use Rattle.node_constraints.specs.Reading.{ok_of, read_value, read_first, read_all}
use Rattle.node_constraints.proofs.FaultLaws.{means_same}

-- ---- one of a list

module _ {X : Type 0}
    (test : X → Bool) (x : X) (sound : (y : X) → test y ≡ true → y ≡ x) (complete : test x ≡ true) where
  pub any_there : (xs : List X) → list_any test xs ≡ true → Contains xs x
  any_there [] found = absurd (cc)
  any_there (y ∷ ys) found = go (test y) refl (any_there ys) found
    where
      go : (b : Bool) → test y ≡ b →
          (list_any test ys ≡ true → Contains ys x) → (b || list_any test ys) ≡ true → Contains (y ∷ ys) x
      go true is later any = (0, omega arith, sound y is)
      go false is later any = let below = later any in (suc (below.0), omega (arith, below.1), below.2)

  pub there_any : (xs : List X) (k : ℕ) → k < length xs → slice_index_or xs k x ≡ x → list_any test xs ≡ true
  there_any [] k within at = absurd (omega (arith, within))
  there_any (y ∷ ys) zero within at = ap (λ z. test z || list_any test ys) at ∙ ap (λ b. b || list_any test ys) complete
  there_any (y ∷ ys) (suc k) within at =
      ap (λ b. test y || b) (there_any ys k (omega (arith, within)) at) ∙ or-true (test y)

  -- an answer that says whether x is in a list is that of the test for x
  pub is_any : (r : Bool) (xs : List X) → (IsTrue r ↔ Contains xs x) → r ≡ list_any test xs
  is_any r xs says = both_ways r
      (list_any test xs) (λ yes. let at = says.0 yes in there_any xs at.0 at.1 at.2) (λ any. says.1 (any_there xs any))

-- ---- what the texts are read as

module _ {X : Type 0} (read : List ℕ → Result X ℕ) where
  -- one more is read
  pub more_read : (xs : List X) (x : X) (d : Data) (ds : Items) → Some x ≡ read_value read d →
      option_map (λ ys. (xs ++ x ∷ []) ++ ys) (read_all read ds)
      ≡ option_map (λ ys. xs ++ ys) (read_all read (item d ds))
  more_read xs x d ds is =
      behind (read_all read ds) ∙ ap (λ first. option_map (λ ys. xs ++ ys) (read_first first (read_all read ds))) is
    where
      behind : (others : Option (List X)) →
          option_map (λ ys. (xs ++ x ∷ []) ++ ys) others ≡ option_map (λ ys. xs ++ ys) (read_first (Some x) others)
      behind None = refl
      behind (Some ys) = ap Some (append_assoc xs (x ∷ []) ys)

  -- one can't be read
  pub none_read : (xs : List X) (d : Data) (ds : Items) →
      None ≡ read_value read d → None ≡ option_map (λ ys. xs ++ ys) (read_all read (item d ds))
  none_read xs d ds is = ap (λ first. option_map (λ ys. xs ++ ys) (read_first first (read_all read ds))) is

  -- they are read exactly where each is a text that can be read
  pub each_read : (ds : Items) → each_text (λ text. is_ok (read text)) ds ≡ is_some (read_all read ds)
  each_read no_items = refl
  each_read (item d ds) =
      ap (λ b. option_map_or (λ text. is_ok (read text)) (as_str d) false && b) (each_read ds) ∙ first (as_str d)
    where
      by_read : (r : Result X ℕ) (others : Option (List X)) →
          (is_ok r && is_some others) ≡ is_some (read_first (ok_of r) others)
      by_read (Ok x) None = refl
      by_read (Ok x) (Some xs) = refl
      by_read (Err e) others = refl

      first : (t : Option (List ℕ)) → (option_map_or (λ text. is_ok (read text)) t false && is_some (read_all read ds))
          ≡ is_some (read_first (option_and_then (λ text. ok_of (read text)) t) (read_all read ds))
      first None = refl
      first (Some text) = by_read (read text) (read_all read ds)

  -- where each is read, the list has no fault
  pub read_fine : (path : List ℕ) (ds : Items) (xs : List X) →
      read_all read ds ≡ Some xs → unless path (each_text (λ text. is_ok (read text)) ds) ≡ None
  read_fine path ds xs all = ap (unless path) (each_read ds ∙ ap is_some all)

  -- where some can't be read, the list has one
  pub unread_fault : (path : List ℕ) (ds : Items) → read_all read ds ≡ None → (fault : ConstraintFault) →
      Means path (Some path) fault → Means path (unless path (each_text (λ text. is_ok (read text)) ds)) fault
  unread_fault path ds none fault means =
      means_same path (Some path) (unless path (each_text (λ text. is_ok (read text)) ds)) fault
      (sym (ap (unless path) (each_read ds ∙ ap is_some none))) means

  -- some text has what is asked for where what some text is read as has it
  pub some_read : (test : X → Bool) (ds : Items) (xs : List X) → read_all read ds ≡ Some xs →
      some_text (λ text. option_map_or test (ok_of (read text)) false) ds ≡ list_any test xs
  some_read test no_items xs all = ap (list_any test) (same_some (sym all))
    where
      same_some : {A : Type 0} {a b : A} → Some a ≡ Some b → b ≡ a
      same_some e = cc
  some_read test (item d ds) xs all = first (as_str d) (some_read test ds) all
    where
      by_read : (r : Result X ℕ) (others : Option (List X)) → ((ys : List X) →
          others ≡ Some ys → some_text (λ text. option_map_or test (ok_of (read text)) false) ds ≡ list_any test ys) →
          read_first (ok_of r) others ≡ Some xs →
          (option_map_or test (ok_of r) false || some_text (λ text. option_map_or test (ok_of (read text)) false) ds)
          ≡ list_any test xs
      by_read (Err at) others later e = absurd (cc)
      by_read (Ok x) None later e = absurd (cc)
      by_read (Ok x) (Some ys) later e = let same : x ∷ ys ≡ xs = cc in
          ap (λ b. test x || b) (later ys refl) ∙ ap (list_any test) same

      first : (t : Option (List ℕ)) → ((ys : List X) → read_all read ds ≡ Some ys →
          some_text (λ text. option_map_or test (ok_of (read text)) false) ds ≡ list_any test ys) →
          read_first (option_and_then (λ text. ok_of (read text)) t) (read_all read ds) ≡ Some xs →
          (option_map_or (λ text. option_map_or test (ok_of (read text)) false) t false
          || some_text (λ text. option_map_or test (ok_of (read text)) false) ds) ≡ list_any test xs
      first None later e = absurd (cc)
      first (Some text) later e = by_read (read text) (read_all read ds) later e

-- ---- hosts and ranks

by_host : (name : List ℕ) (r : Result (List Hosts) ℕ) →
    is_host_of name r ≡ option_map_or (λ hosts. is_among (names_of hosts) name) (ok_of r) false
by_host name (Ok hosts) = refl
by_host name (Err at) = refl

pub hosts_read : (name : List ℕ) (ds : Items) (lists : List (List Hosts)) → read_all hostlist_of ds ≡ Some lists →
    some_text (is_listed name) ds ≡ list_any (λ hosts. is_among (names_of hosts) name) lists
hosts_read name ds lists read = (λ i. some_text (λ text. by_host name (hostlist_of text) i) ds)
    ∙ some_read hostlist_of (λ hosts. is_among (names_of hosts) name) ds lists read

by_id : (rank : ℕ) (r : Result (List Range) ℕ) →
    is_id_of rank r ≡ option_map_or (λ ranges. list_any (λ id. id == rank) (ids_of ranges)) (ok_of r) false
by_id rank (Ok ranges) = refl
by_id rank (Err at) = refl

none_of : (ds : Items) → some_text (λ text. false) ds ≡ false
none_of no_items = refl
none_of (item d ds) =
    ap (λ b. option_map_or (λ (text : List ℕ). false) (as_str d) false || b) (none_of ds) ∙ neither (as_str d)
  where
    neither : (t : Option (List ℕ)) → (option_map_or (λ text. false) t false || false) ≡ false
    neither None = refl
    neither (Some text) = refl

pub ranks_read : (rank : Option ℕ) (ds : Items) (sets : List (List Range)) → read_all idset_of ds ≡ Some sets →
    some_text (is_ranked rank) ds
    ≡ option_map_or (λ r. list_any (λ ranges. list_any (λ id. id == r) (ids_of ranges)) sets) rank false
ranks_read None ds sets read = none_of ds
ranks_read (Some rank) ds sets read = (λ i. some_text (λ text. by_id rank (idset_of text) i) ds)
    ∙ some_read idset_of (λ ranges. list_any (λ id. id == rank) (ids_of ranges)) ds sets read
