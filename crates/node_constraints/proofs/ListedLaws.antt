-- The index of hostlists tells what the lists tell.
use Rattle.std.proofs.Common.{◌≡◌, refl, sym, ◌∙◌, ap, subst, ℕ, zero, suc, ◌+◌, ◌-◌, ◌≤◌, ◌<◌, ◌⊎◌, inl, inr, ◌&&◌}
use Rattle.std.proofs.Common.{◌||◌, Bool, true, false, not, cond, nat_lt, nat_le, List, [], ◌∷◌, ◌++◌, length, take}
use Rattle.std.proofs.Common.{drop, Option, Some, None, is_some, arith, Contains, ltb-true, lt-ltb, leb-true, le-leb}
use Rattle.std.specs.List.{list_any, list_all, flat_map}
use Rattle.std.specs.Str.{bytes_eq}
use Rattle.std.proofs.lemmas.Bool.{and_parts, or_cases, or_right, or_left, and_from}
use Rattle.std.proofs.lemmas.List.Folds.{list_any-append}
use Rattle.std.proofs.lemmas.Slice.Eq.{bytes_eq-Decides}
use Rattle.std.proofs.Math.Bool.{or-false, or_assoc}
use Rattle.std.specs.Cmp.{both_ways}
use Rattle.text_table.proofs.Texts.{is_there}
use Rattle.covered_numbers.specs.declared.stretches.Stretch.{Stretch}
use Rattle.covered_numbers.specs.Covers.{has_number, is_covered}
use Rattle.idset_text.specs.declared.hostlists.Hosts.{Hosts}
use Rattle.idset_text.specs.declared.hostlists.Hosts.TheVariants.{One, Many}
use Rattle.idset_text.specs.Hostlists.{own_names, names_of, has_width, is_one_of, IsOneOf}
use Rattle.idset_text.specs.Numbers.{value_of, are_digits, number_of}
use Rattle.idset_text.proofs.HostLemmas.{many_has, many_had, one_when_passed, passed_when_one}
use Rattle.text_table.specs.Tables.{index_of, with_text, with_texts}
use Rattle.text_table.specs.Tables as table
use Rattle.node_constraints.specs.Truth.{is_among}
use Rattle.node_constraints.specs.Listed.{own_name, own_prefix, names_in, prefixes_in, code, own_stretch, stretches_in}
use Rattle.node_constraints.specs.Listed.{is_small, are_small, IsNumbered}
use Rattle.node_constraints.proofs.TextLaws.{any_there, there_any}

-- ---- hosts of lists

abbrev IsIn : List Hosts → Hosts → Type 0
IsIn [] host = ⊥
IsIn (h ∷ hs) host = (h ≡ host) ⊎ IsIn hs host

abbrev IsInSome : List (List Hosts) → Hosts → Type 0
IsInSome [] host = ⊥
IsInSome (hs ∷ lists) host = IsIn hs host ⊎ IsInSome lists host

module _ (test : Hosts → Bool) where
  one_in : (hs : List Hosts) → list_any test hs ≡ true → (h : Hosts) × IsIn hs h × (test h ≡ true)
  one_in [] e = absurd cc
  one_in (h ∷ hs) e = elim (or_cases (test h) (list_any test hs) e) [
    | inl here ↦ (h, inl refl, here)
    | inr more ↦ (let r = one_in hs more in (r.0, inr r.1, r.2))
  ]

  one_in_some : (lists : List (List Hosts)) → list_any (list_any test) lists ≡ true → (h : Hosts) × IsInSome lists h
      × (test h ≡ true)
  one_in_some [] e = absurd cc
  one_in_some (hs ∷ lists) e = elim (or_cases (list_any test hs) (list_any (list_any test) lists) e) [
    | inl here ↦ (let r = one_in hs here in (r.0, inl r.1, r.2))
    | inr more ↦ (let r = one_in_some lists more in (r.0, inr r.1, r.2))
  ]

  in_one : (hs : List Hosts) (h : Hosts) → IsIn hs h → test h ≡ true → list_any test hs ≡ true
  in_one [] h at e = elim at [ ]
  in_one (x ∷ xs) h (inl same) e = or_left (test x) (list_any test xs) (ap test same ∙ e)
  in_one (x ∷ xs) h (inr more) e = or_right (test x) (list_any test xs) (in_one xs h more e)

  in_some : (lists : List (List Hosts)) (h : Hosts) → IsInSome lists h → test h ≡ true
      → list_any (list_any test) lists ≡ true
  in_some [] h at e = elim at [ ]
  in_some (hs ∷ lists) h (inl here) e = or_left (list_any test hs) (list_any (list_any test) lists)
      (in_one hs h here e)
  in_some (hs ∷ lists) h (inr more) e = or_right (list_any test hs) (list_any (list_any test) lists)
      (in_some lists h more e)

  all_one : (hs : List Hosts) (h : Hosts) → list_all test hs ≡ true → IsIn hs h → test h ≡ true
  all_one [] h all at = elim at [ ]
  all_one (x ∷ xs) h all (inl same) = ap test (sym same) ∙ (and_parts (test x) (list_all test xs) all).0
  all_one (x ∷ xs) h all (inr more) = all_one xs h (and_parts (test x) (list_all test xs) all).1 more

  all_some : (lists : List (List Hosts)) (h : Hosts) → list_all (list_all test) lists ≡ true → IsInSome lists h
      → test h ≡ true
  all_some [] h all at = elim at [ ]
  all_some (hs ∷ lists) h all (inl here) = all_one hs h (and_parts (list_all test hs)
      (list_all (list_all test) lists) all).0 here
  all_some (hs ∷ lists) h all (inr more) = all_some lists h (and_parts (list_all test hs)
      (list_all (list_all test) lists) all).1 more

any_flat : {X Y : Type 0} (p : Y → Bool) (f : X → List Y) (xs : List X)
    → list_any p (flat_map f xs) ≡ list_any (λ x. list_any p (f x)) xs
any_flat p f [] = refl
any_flat p f (x ∷ xs) = list_any-append p (f x) (flat_map f xs) ∙ ap (λ b. list_any p (f x) || b) (any_flat p f xs)

any_agree : {X : Type 0} (p q : X → Bool) → ((x : X) → p x ≡ q x) → (xs : List X) → list_any p xs ≡ list_any q xs
any_agree p q same [] = refl
any_agree p q same (x ∷ xs) = ap (λ b. b || list_any p xs) (same x) ∙ ap (λ b. q x || b) (any_agree p q same xs)

any_in_lists : {Y : Type 0} (p : Y → Bool) (f : Hosts → List Y) (lists : List (List Hosts))
    → list_any p (flat_map (flat_map f) lists) ≡ list_any (list_any (λ h. list_any p (f h))) lists
any_in_lists p f lists = any_flat p (flat_map f) lists ∙ any_agree (λ hs. list_any p (flat_map f hs))
    (list_any (λ h. list_any p (f h))) (any_flat p f) lists

-- ---- tables of texts

has_text : (x : List ℕ) (texts more : List (List ℕ)) → list_any (bytes_eq x) (with_texts texts more)
    ≡ list_any (bytes_eq x) texts || list_any (bytes_eq x) more
has_text x texts [] = sym (or-false (list_any (bytes_eq x) texts))
has_text x texts (y ∷ more) = has_text x (with_text texts y) more ∙ by (list_any (bytes_eq y) texts) refl
  where
    rest : Bool
    rest = list_any (bytes_eq x) more

    absorbed : (a b c : Bool) → (b ≡ true → a ≡ true) → a || c ≡ a || (b || c)
    absorbed true b c h = refl
    absorbed false true c h = absurd (let e = h refl in cc)
    absorbed false false c h = refl

    alone : list_any (bytes_eq x) (y ∷ []) ≡ bytes_eq x y
    alone = or-false (bytes_eq x y)

    by : (b : Bool) → list_any (bytes_eq y) texts ≡ b
        → list_any (bytes_eq x) (cond b texts (texts ++ y ∷ [])) || rest
        ≡ list_any (bytes_eq x) texts || (bytes_eq x y || rest)
    by true is_there = absorbed (list_any (bytes_eq x) texts) (bytes_eq x y) rest
        (λ e. ap (λ z. list_any (bytes_eq z) texts) ((bytes_eq-Decides x y).0 e) ∙ is_there)
    by false is_there = ap (λ b. b || rest) (list_any-append (bytes_eq x) texts (y ∷ [])
        ∙ ap (λ b. list_any (bytes_eq x) texts || b) alone)
        ∙ or_assoc (list_any (bytes_eq x) texts) (bytes_eq x y) rest

index_within : (q : List ℕ) (texts : List (List ℕ)) → list_any (bytes_eq q) texts ≡ true
    → index_of texts q < length texts
index_within q [] any = absurd cc
index_within q (x ∷ xs) any = by (bytes_eq q x) any (index_within q xs)
  where
    by : (b : Bool) → b || list_any (bytes_eq q) xs ≡ true → (list_any (bytes_eq q) xs ≡ true
        → index_of xs q < length xs)
        → cond (not b) (1 + index_of xs q) 0 < suc (length xs)
    by true e more = omega arith
    by false e more = let less = more e in omega arith

same_index : (texts : List (List ℕ)) (q r : List ℕ) → index_of texts q ≡ index_of texts r
    → index_of texts q < length texts → q ≡ r
same_index [] q r same within = absurd (omega arith)
same_index (x ∷ xs) q r same within = by (bytes_eq q x) (bytes_eq r x) refl refl same within (same_index xs q r)
  where
    by : (a b : Bool) → bytes_eq q x ≡ a → bytes_eq r x ≡ b → cond (not a) (1 + index_of xs q) 0
        ≡ cond (not b) (1 + index_of xs r) 0
        → cond (not a) (1 + index_of xs q) 0 < suc (length xs)
        → (index_of xs q ≡ index_of xs r → index_of xs q < length xs → q ≡ r) → q ≡ r
    by true true ea eb e lt more = (bytes_eq-Decides q x).0 ea ∙ sym ((bytes_eq-Decides r x).0 eb)
    by true false ea eb e lt more = absurd (omega (arith, e))
    by false true ea eb e lt more = absurd (omega (arith, e))
    by false false ea eb e lt more = more (omega (arith, e)) (omega (arith, lt))

number_is_index : (texts : List (List ℕ)) (q : List ℕ) → index_of texts q < length texts
    → table.number_of texts q ≡ Some (index_of texts q)
number_is_index texts q within = ap (λ b. cond b (Some (index_of texts q)) None)
    (lt-ltb (index_of texts q) (length texts) within)

index_is_number : (texts : List (List ℕ)) (q : List ℕ) (n : ℕ) → table.number_of texts q ≡ Some n
    → (index_of texts q ≡ n) × (index_of texts q < length texts)
index_is_number texts q n = by (nat_lt (index_of texts q) (length texts)) refl
  where
    by : (b : Bool) → nat_lt (index_of texts q) (length texts) ≡ b → cond b (Some (index_of texts q)) None ≡ Some n
        → (index_of texts q ≡ n) × (index_of texts q < length texts)
    by true less e = (let same : index_of texts q ≡ n = cc in same, ltb-true (index_of texts q) (length texts) less)
    by false less e = absurd cc

-- ---- numbers of prefixes

small_number : (digits : List ℕ) (n : ℕ) → number_of digits ≡ Some n → n < 4294967296
small_number digits n = by (nat_lt 0 (length digits) && are_digits digits && nat_lt (value_of digits) 4294967296) refl
  where
    by : (b : Bool) → nat_lt 0 (length digits) && are_digits digits && nat_lt (value_of digits) 4294967296 ≡ b
        → cond b (Some (value_of digits)) None ≡ Some n → n < 4294967296
    by true test e =
        let small = ltb-true (value_of digits) 4294967296 (and_parts (nat_lt 0 (length digits) && are_digits digits)
        (nat_lt (value_of digits) 4294967296) test).1 in
        let same : value_of digits ≡ n = cc in omega (arith, small, same)
    by false test e = absurd cc

-- a code between two of one prefix and width is of that prefix and width, and its number is between theirs
code_within : (at width number to wide lo hi : ℕ) → width < 4294967296 → wide < 4294967296 → number < 4294967296
    → hi < 4294967296
    → code to wide lo ≤ code at width number → code at width number ≤ code to wide hi
    → (at ≡ to) × (width ≡ wide) × (lo ≤ number) × (number ≤ hi)
code_within at width number to wide lo hi w1 w2 n1 h1 low high =
    let lo-small : lo ≤ hi = omega (arith, low, high) in
    let same : at ≡ to = omega (arith, low, high, w1, w2, n1, h1, lo-small) in
    let alike : width ≡ wide = omega (arith, low, high, w1, w2, n1, h1, lo-small, same) in
    (same, alike, omega (arith, low, same, alike), omega (arith, high, same, alike))

-- the stretch of a host has the code exactly where the host has the number behind the prefix
stretch_has : (prefixes : List (List ℕ)) (h : Hosts) (at width number : ℕ) → is_small h ≡ true → width < 4294967296
    → number < 4294967296
    → is_covered (own_stretch prefixes h) (code at width number) ≡ true
    → (prefix : List ℕ) × (lo : ℕ) × (hi : ℕ) × (h ≡ Many prefix lo hi width) × (index_of prefixes prefix ≡ at)
    × (lo ≤ number) × (number ≤ hi)
stretch_has prefixes (One name) at width number small w n e = absurd cc
stretch_has prefixes (Many prefix lo hi wide) at width number small w n e =
    let both = and_parts (nat_lt hi 4294967296) (nat_lt wide 4294967296) small in
    elim (or_cases (has_number (code at width number) (record {
      first = code (index_of prefixes prefix) wide lo;
      last =
          code (index_of prefixes prefix) wide hi;
    })) false e) [
      | inl has ↦ (let ends = and_parts (nat_le (code (index_of prefixes prefix) wide lo) (code at width number))
          (nat_le (code at width number) (code (index_of prefixes prefix) wide hi)) has in
          let r = code_within at width number (index_of prefixes prefix) wide lo hi w
          (ltb-true wide 4294967296 both.1) n (ltb-true hi 4294967296 both.0)
          (leb-true _ _ ends.0) (leb-true _ _ ends.1) in
          (prefix, lo, hi, ap (Many prefix lo hi) (sym r.1), sym r.0, r.2, r.3))
      | inr none ↦ absurd cc
    ]

has_stretch : (prefixes : List (List ℕ)) (prefix : List ℕ) (lo hi width number : ℕ) → lo ≤ number → number ≤ hi
    → is_covered (own_stretch prefixes (Many prefix lo hi width)) (code (index_of prefixes prefix) width number) ≡ true
has_stretch prefixes prefix lo hi width number low high =
    or_left (has_number (code (index_of prefixes prefix) width number)
    (record {
      first = code (index_of prefixes prefix) width lo;
      last = code (index_of prefixes prefix) width
          hi;
    })) false
    (and_from (nat_le (code (index_of prefixes prefix) width lo) (code (index_of prefixes prefix) width number))
    (nat_le (code (index_of prefixes prefix) width number) (code (index_of prefixes prefix) width hi))
    (le-leb _ _ (omega (arith, low))) (le-leb _ _ (omega (arith, high))))

-- ---- names

-- one of the hosts' own names
abbrev Names : List ℕ → Hosts → Bool
Names name h = list_any (bytes_eq name) (own_names h)

test_of : (name : List ℕ) (names : List (List ℕ)) → Contains names name → list_any (bytes_eq name) names ≡ true
test_of name names has = there_any (bytes_eq name) name (λ other same. sym ((bytes_eq-Decides name other).0 same))
    ((bytes_eq-Decides name name).1 refl) names has.0 has.1 has.2

tested : (name : List ℕ) (names : List (List ℕ)) → list_any (bytes_eq name) names ≡ true → Contains names name
tested name names e = any_there (bytes_eq name) name (λ other same. sym ((bytes_eq-Decides name other).0 same))
    ((bytes_eq-Decides name name).1 refl) names e

listed_by_host : (name : List ℕ) (lists : List (List Hosts)) → list_any (λ hosts. is_among (names_of hosts) name)
    lists ≡ list_any (list_any (Names name)) lists
listed_by_host name lists = any_agree (λ hosts. is_among (names_of hosts) name) (list_any (Names name))
    (any_flat (bytes_eq name) own_names) lists

-- the prefixes of many hosts are in the table
known : (lists : List (List Hosts)) (prefix : List ℕ) (lo hi width : ℕ) → IsInSome lists (Many prefix lo hi width)
    → index_of (with_texts [] (prefixes_in lists)) prefix < length (with_texts [] (prefixes_in lists))
known lists prefix lo hi width at =
    index_within prefix (with_texts [] (prefixes_in lists)) (has_text prefix [] (prefixes_in lists)
    ∙ (any_in_lists (bytes_eq prefix) own_prefix lists
    ∙ in_some (λ h. list_any (bytes_eq prefix) (own_prefix h)) lists (Many prefix lo hi width) at
    (or_left (bytes_eq prefix prefix) false ((bytes_eq-Decides prefix prefix).1 refl))))

-- where the index has a name, some list has it
pub one_listed : (name : List ℕ) (lists : List (List Hosts)) → list_any (bytes_eq name)
    (with_texts [] (names_in lists)) ≡ true
    → list_any (λ hosts. is_among (names_of hosts) name) lists ≡ true
one_listed name lists e =
    let some = one_in_some (λ h. list_any (bytes_eq name) (own_name h)) lists
    (sym (any_in_lists (bytes_eq name) own_name lists) ∙ (sym (has_text name [] (names_in lists)) ∙ e)) in
    listed_by_host name lists ∙ in_some (Names name) lists some.0 some.1 (by some.0 some.2)
  where
    by : (h : Hosts) → list_any (bytes_eq name) (own_name h) ≡ true → Names name h ≡ true
    by (One own) e = e
    by (Many prefix lo hi width) e = absurd cc

pub number_listed : (name : List ℕ) (lists : List (List Hosts)) (covered : List Stretch) → are_small lists ≡ true
    → ((n : ℕ) → is_covered covered n ≡ is_covered (stretches_in (with_texts [] (prefixes_in lists)) lists) n)
    → IsNumbered (with_texts [] (prefixes_in lists)) covered name
    → list_any (λ hosts. is_among (names_of hosts) name) lists ≡ true
number_listed name lists covered small told r =
    let prefixes = with_texts [] (prefixes_in lists) in
    let n = r.number in
    let some = one_in_some (λ h. is_covered (own_stretch prefixes h) (code n.at n.width n.number)) lists
    (sym (any_in_lists (has_number (code n.at n.width n.number)) (own_stretch prefixes) lists)
    ∙ (sym (told (code n.at n.width n.number)) ∙ n.is-covered)) in
    let has = stretch_has prefixes some.0 n.at n.width n.number (all_some is_small lists some.0 small some.1) n.fits
    (small_number r.digits n.number n.is-number) some.2 in
    let own : List ℕ = has.0 in
    let lo : ℕ = has.1 in
    let hi : ℕ = has.2 in
    let is : some.0 ≡ Many own lo hi n.width = has.3 in
    let index = index_is_number prefixes r.prefix n.at n.is-prefix in
    let same : r.prefix ≡ own = same_index prefixes r.prefix own (index.0 ∙ sym has.4) index.1 in
    let one : IsOneOf lo hi n.width r.digits = one_when_passed lo hi n.width r.digits
    (ap (is_one_of lo hi (has_width n.width r.digits)) n.is-number
    ∙ and_from (nat_le lo n.number && nat_le n.number hi) (has_width n.width r.digits)
    (and_from (nat_le lo n.number) (nat_le n.number hi) (le-leb lo n.number has.5) (le-leb n.number hi has.6))
    n.is-wide) in
    let parts : name ≡ own ++ r.digits = r.parts ∙ ap (λ p. p ++ r.digits) same in
    listed_by_host name lists ∙ in_some (Names name) lists some.0 some.1
    (ap (Names name) is ∙ test_of name (own_names (Many own lo hi n.width))
    (many_has own r.digits name lo hi n.width parts one))

-- and where some list has a name, the index has it
pub listed_told : (name : List ℕ) (lists : List (List Hosts)) (covered : List Stretch) → are_small lists ≡ true
    → ((n : ℕ) → is_covered covered n ≡ is_covered (stretches_in (with_texts [] (prefixes_in lists)) lists) n)
    → list_any (λ hosts. is_among (names_of hosts) name) lists ≡ true
    → (list_any (bytes_eq name) (with_texts [] (names_in lists)) ≡ true)
    ⊎ IsNumbered (with_texts [] (prefixes_in lists)) covered name
listed_told name lists covered small told e =
    let some = one_in_some (Names name) lists (sym (listed_by_host name lists) ∙ e) in by some.0 some.1 some.2
  where
    prefixes : List (List ℕ)
    prefixes = with_texts [] (prefixes_in lists)

    numbered : (prefix : List ℕ) (lo hi width : ℕ) → IsInSome lists (Many prefix lo hi width) → (digits : List ℕ)
        → name ≡ prefix ++ digits
        → width < 4294967296 → (o : Option ℕ) → number_of digits ≡ o
        → is_one_of lo hi (has_width width digits) o ≡ true → IsNumbered prefixes covered name
    numbered prefix lo hi width at digits parts w None e test = absurd cc
    numbered prefix lo hi width at digits parts w (Some n) e test =
        let both = and_parts (nat_le lo n && nat_le n hi) (has_width width digits) test in
        let ends = and_parts (nat_le lo n) (nat_le n hi) both.0 in
        record {
          prefix = prefix;
          digits = digits;
          parts = parts;
          number = record {
            at = index_of prefixes prefix;
            width = width;
            number = n;
            is-prefix = number_is_index prefixes prefix (known lists prefix lo hi width at);
            is-number = e;
            fits = w;
            is-wide = both.1;
            is-covered = told (code (index_of prefixes prefix) width n)
                ∙ (any_in_lists (has_number (code (index_of prefixes prefix) width n)) (own_stretch prefixes) lists
                ∙ in_some (λ h. is_covered (own_stretch prefixes h) (code (index_of prefixes prefix) width n)) lists
                (Many prefix lo hi width) at
                (has_stretch prefixes prefix lo hi width n (leb-true lo n ends.0) (leb-true n hi ends.1)));
          };
        }

    by : (h : Hosts) → IsInSome lists h → Names name h ≡ true
        → (list_any (bytes_eq name) (with_texts [] (names_in lists)) ≡ true) ⊎ IsNumbered prefixes covered name
    by (One own) at e = inl (has_text name [] (names_in lists) ∙ (any_in_lists (bytes_eq name) own_name lists
        ∙ in_some (λ h. list_any (bytes_eq name) (own_name h)) lists (One own) at e))
    by (Many prefix lo hi width) at e =
        let smalls = and_parts (nat_lt hi 4294967296) (nat_lt width 4294967296)
        (all_some is_small lists (Many prefix lo hi width) small at) in
        let had = many_had prefix name lo hi width (tested name (own_names (Many prefix lo hi width)) e) in
        inr (numbered prefix lo hi width at had.0 had.1 (ltb-true width 4294967296 smalls.1) (number_of had.0) refl
        (passed_when_one lo hi width had.0 (ltb-true hi 4294967296 smalls.0) had.2))

-- ---- the answer

has_number_there : (texts : List (List ℕ)) (q : List ℕ) → is_some (table.number_of texts q) ≡ true
    → list_any (bytes_eq q) texts ≡ true
has_number_there texts q = by (table.number_of texts q) refl
  where
    by : (o : Option ℕ) → table.number_of texts q ≡ o → is_some o ≡ true → list_any (bytes_eq q) texts ≡ true
    by None is e = absurd cc
    by (Some n) is e = is_there q texts (index_is_number texts q n is).1

there_has_number : (texts : List (List ℕ)) (q : List ℕ) → list_any (bytes_eq q) texts ≡ true
    → is_some (table.number_of texts q) ≡ true
there_has_number texts q e = ap is_some (number_is_index texts q (index_within q texts e))

-- the lists, the names and the prefixes of their hosts, and stretches of the numbers
pub record IsIndex (lists : List (List Hosts)) (names prefixes : List (List ℕ)) (covered : List Stretch) : Type 0 where
  pub named : names ≡ with_texts [] (names_in lists)
  pub prefixed : prefixes ≡ with_texts [] (prefixes_in lists)
  pub told : (n : ℕ) → is_covered covered n ≡ is_covered (stretches_in prefixes lists) n
  pub small : are_small lists ≡ true

module _ (lists : List (List Hosts)) (names prefixes : List (List ℕ)) (covered : List Stretch)
    (index : IsIndex lists names prefixes covered) (name : List ℕ) where
  told_as : (n : ℕ) → is_covered covered n ≡ is_covered (stretches_in (with_texts [] (prefixes_in lists)) lists) n
  told_as n = index.told n ∙ ap (λ (ps : List (List ℕ)). is_covered (stretches_in ps lists) n) index.prefixed

  pub named_answer : is_some (table.number_of names name) ≡ true
      → true ≡ list_any (λ hosts. is_among (names_of hosts) name) lists
  named_answer e = sym (one_listed name lists
      (subst (λ (ns : List (List ℕ)). list_any (bytes_eq name) ns ≡ true) index.named (has_number_there names name e)))

  pub numbered_answer : (r : Bool) → is_some (table.number_of names name) ≡ false
      → (r ≡ true → IsNumbered prefixes covered name)
      → (IsNumbered prefixes covered name → r ≡ true) → r ≡ list_any (λ hosts. is_among (names_of hosts) name) lists
  numbered_answer r none says tells = both_ways r (list_any (λ hosts. is_among (names_of hosts) name) lists)
      (λ e. number_listed name lists covered index.small told_as
      (subst (λ (ps : List (List ℕ)). IsNumbered ps covered name) index.prefixed (says e)))
      (λ e. elim (listed_told name lists covered index.small told_as e) [
        | inl own ↦ absurd (let one = there_has_number names name
            (subst (λ (ns : List (List ℕ)). list_any (bytes_eq name) ns ≡ true) (sym index.named) own) in
            let bad : true ≡ false = sym one ∙ none in cc)
        | inr number ↦ tells (subst (λ (ps : List (List ℕ)). IsNumbered ps covered name) (sym index.prefixed) number)
      ])

-- a name parted at a place
pub parted_at : (prefix digits name : List ℕ) (k : ℕ) → name ≡ prefix ++ digits → length prefix ≡ k
    → (take k name ≡ prefix) × (drop k name ≡ digits)
parted_at prefix digits name k e at = (ap (take k) e ∙ front prefix k at, ap (drop k) e ∙ back prefix k at)
  where
    front : (p : List ℕ) (k : ℕ) → length p ≡ k → take k (p ++ digits) ≡ p
    front [] zero e = refl
    front [] (suc k) e = absurd (omega (arith, e))
    front (x ∷ p) zero e = absurd (omega (arith, e))
    front (x ∷ p) (suc k) e = ap (λ l. x ∷ l) (front p k (omega (arith, e)))

    back : (p : List ℕ) (k : ℕ) → length p ≡ k → drop k (p ++ digits) ≡ digits
    back [] zero e = refl
    back [] (suc k) e = absurd (omega (arith, e))
    back (x ∷ p) zero e = absurd (omega (arith, e))
    back (x ∷ p) (suc k) e = back p k (omega (arith, e))
